-- While no superblock place is written the newest epoch stays the newest, whatever comes back.
use Rattle.std.proofs.Common.{◌≡◌, ◌∙◌, ◌<◌, ◌≤◌, ℕ, List, None, inl, inr, sym, ap, subst, arith}
use Rattle.std.proofs.lemmas.Bool.{cases_lt}
use Rattle.stair_model.specs.Geometry.{Geometry}
use Rattle.stair_rack.specs.Answers.{Ran}
use Rattle.stair_rack.specs.Crash.{CrashMayLeave, image_now}
use Rattle.stair_rack.specs.History.{Happening}
use Rattle.stair_rack.specs.Media.{Image}
use Rattle.stair_rack.specs.Sector.{Cell}
use Rattle.stair_rack.proofs.CrashLemmas.{CrashMayLeave-now}
use Rattle.stair_super.specs.Superblock.{Superblock, joined_at, joined_in, mark_in}
use Rattle.stair_super.specs.declared.configuration.Configuration.{Configuration}
use Rattle.stair_member.specs.Counting.{AllBut}
use Rattle.stair_member.specs.Current.{IsCurrent, IsLost, Serves}
use Rattle.stair_member.specs.Membership.{Membership, why_of}
use Rattle.stair_member.proofs.CountingLemmas.{all_but_mapped, common}
use Rattle.stair_member.proofs.StandingLemmas.{others}
use Rattle.stair_member.proofs.SuperLemmas.{counts_limits, super_cells}
use Rattle.stair_state.specs.Holding.{HasOvertaken, OfAdmitted}
use Rattle.stair_state.specs.Reassembly.{IsBorne, IsReassembly, Location}
use Rattle.stair_state.specs.Represents.{AreSteady}
use Rattle.stair_state.specs.State.{State}
use Rattle.stair_state.specs.Tolerance.{IsToleratedAlone}
use Rattle.stair_state.proofs.FormLemmas.{same_kept}
use Rattle.stair_state.proofs.ReassembledLemmas.{IsBorneFrom, borne_of, counts_from, few_by}
use Rattle.stair_invariant.specs.InSession.{IsBehindPlaces}
use Rattle.stair_invariant.specs.Returning.{KnowsMedia}
use Rattle.stair_invariant.proofs.ChangingLemmas.{live_here}
use Rattle.stair_reinsert.proofs.PlacesSince.{super_so}
use Rattle.stair_reinsert.proofs.SupersSince.{was_borne}
use Rattle.stair_lives.specs.Stale.{IsNewest}
use Rattle.stair_lives.proofs.Known.{IsKnown}
use Rattle.stair_lives.proofs.NewestLemmas.{NamesNewest}

-- of an image: all media but m that were live in an earlier epoch name a later one, none names one later than this, and this epoch names this
pub record NamesSince (g : Geometry) (array : Configuration) (image : Image) : Type 0 where
  pub overtaken : (i : ℕ) (p : Location) (a : Superblock) → IsBorne g image i p a → a.array.epoch < array.epoch → AllBut g.n g.m (HasOvertaken g image a)
  pub latest : (i : ℕ) (p : Location) (a : Superblock) → IsBorne g image i p a → a.array.epoch ≤ array.epoch
  pub named : (i : ℕ) (p : Location) (a : Superblock) → IsBorne g image i p a → a.array.epoch ≡ array.epoch → a.array ≡ array

-- IT IS CURRENT

module _ (g : Geometry) (array : Configuration) (image : Image) (it : NamesSince g array image) (to : Image) (reassembly : IsReassembly image to)
    (tolerated : IsToleratedAlone g to) (current : Superblock) (is_current : IsCurrent g to current) where
  abbrev ServesThere : ℕ → Type 0
  ServesThere j = Serves (λ k. (to k).size ≡ None) g to current j

  -- what holds of the medium of a slot that serves, wherever it lies
  of_serving : (Q : Superblock → Type 0) (j joined : ℕ) (serves : ServesThere j) → serves.live.super.joined ≡ joined → OfAdmitted g image joined Q j
      → Q serves.live.super
  of_serving Q j joined serves same holds =
      holds from.place from.medium x from.is_one
      (super_cells ((to j).cell) from.medium.cell x (whole 0 (omega arith)) (whole 1 (omega arith)) serves.live.counts.super) serves.live.counts.slot
      serves.live.counts.identity same (kept 0 (omega arith)) (kept 1 (omega arith))
    where
      x : Superblock
      x = serves.live.super

      from : IsBorneFrom g image to j x
      from = counts_from g image to j x reassembly serves.live.counts

      whole : (k : ℕ) → k < 2 → (to j).cell k ≡ from.medium.cell k
      whole k small = same_kept (from.copies k) (serves.places k small)

      kept : (k : ℕ) → k < 2 → ¬ IsLost (from.medium.cell k)
      kept k small = subst (λ (c : Cell). ¬ IsLost c) (whole k small) (serves.places k small)

  never_earlier : ¬ (current.array.epoch < array.epoch)
  never_earlier earlier =
      let limits = counts_limits g to current.slot current is_current.counts in
      let from = counts_from g image to current.slot current reassembly is_current.counts in
      let found =
      common {n = g.n} {m = g.m} {P = ServesThere} {Q = HasOvertaken g image current} limits.devices.1 limits.majority
      (others g to current (few_by g to current tolerated is_current)) (it.overtaken current.slot from.place current (borne_of from) earlier) in
      let serves : ServesThere found.0 = found.2 in
      let later : current.array.epoch < serves.live.super.array.epoch =
      of_serving (λ x. current.array.epoch < x.array.epoch) found.0 (joined_at current found.0) serves serves.live.joined
      (found.3 serves.live.marked) in
      elim (is_current.newest found.0 serves.live.super serves.live.counts) [
        | inl less ↦ absurd (omega arith)
        | inr tie ↦ let same : serves.live.super.array.epoch ≡ current.array.epoch = tie.0 in absurd (omega arith)
      ]

  pub names : current.array ≡ array
  names =
      let from = counts_from g image to current.slot current reassembly is_current.counts in
      elim (cases_lt current.array.epoch array.epoch) [
        | inl earlier ↦ absurd (never_earlier earlier)
        | inr least ↦
            let most = it.latest current.slot from.place current (borne_of from) in
            it.named current.slot from.place current (borne_of from) (omega (arith, least, most))
      ]

-- WHILE NO PLACE IS WRITTEN

module _ (g : Geometry) (array : Configuration) (old h : List Happening) (steady : AreSteady g old) (behind : Ran IsBehindPlaces old h)
    (it : NamesSince g array (image_now old)) (image : Image) (left : CrashMayLeave h image) where
  since_behind : NamesSince g array image
  since_behind = record {
    overtaken = λ i p a there earlier.
        let was = was_borne g old h steady behind image left i p a there in
        all_but_mapped {P = HasOvertaken g (image_now old) a} {Q = HasOvertaken g image a}
        (λ j below over marked q medium x is super slot identity same first second.
        let came = super_so g old h steady behind j below image left q medium x is super first second in
        over marked came.0 came.2.medium x came.2.is_one came.2.super slot identity same came.2.first came.2.second)
        (it.overtaken i was.place a was.borne earlier);
    latest = λ i p a there. let was = was_borne g old h steady behind image left i p a there in it.latest i was.place a was.borne;
    named = λ i p a there. let was = was_borne g old h steady behind image left i p a there in it.named i was.place a was.borne;
  }

-- so an open array's epoch is the newest after such calls
pub knows_behind : (s : State) (m : Membership) (old h : List Happening) → KnowsMedia s m old → m.array.geometry ≡ s.geometry → IsKnown m
    → Ran IsBehindPlaces old h → IsNewest s.geometry m h
knows_behind s m old h knows same known behind = record {
  current = names_at;
  live = λ image to current j left reassembly alone is live.
      let array = names_at image to current left reassembly alone is in
      let below = subst (λ (g : Geometry). j < g.n) (sym same) live.below in (
        live_here (why_of m j) (sym (known.marks j below) ∙ ap (λ (c : Configuration). mark_in c j) (sym array) ∙ live.marked),
        live.joined ∙ ap (λ (c : Configuration). joined_in c j) array,
      );
}
  where
    first : NamesSince s.geometry m.array (image_now old)
    first = record {
      overtaken = (knows.is.each (image_now old) (CrashMayLeave-now old)).overtaken;
      latest = knows.latest (image_now old) (CrashMayLeave-now old);
      named = λ i p a there.
          (knows.known (image_now old) (CrashMayLeave-now old)).named i p a (subst (λ (g : Geometry). IsBorne g (image_now old) i p a) (sym same) there);
    }

    names_at : NamesNewest s.geometry m.array h
    names_at image to current left reassembly alone is =
        names s.geometry m.array image (since_behind s.geometry m.array old h knows.is.steady behind first image left) to reassembly alone current is
