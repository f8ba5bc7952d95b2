-- While no superblock place is written all that is said of superblocks stays so, whatever comes back and whichever slots are attached.
use Rattle.std.proofs.Common.{◌≡◌, ℕ, ◌<◌, ◌≤◌, List, sym, ap, ◌∙◌, None}
use Rattle.stair_model.specs.Geometry.{Geometry}
use Rattle.stair_model.specs.Slots.{HasSlot, Slots}
use Rattle.stair_rack.specs.Answers.{IsHistory, IsNoAttach, Ran}
use Rattle.stair_rack.specs.Crash.{CrashMayLeave, image_now}
use Rattle.stair_rack.specs.History.{Happening}
use Rattle.stair_rack.specs.Media.{Image}
use Rattle.stair_rack.specs.Offline.{IsAttached}
use Rattle.stair_rack.proofs.CrashLemmas.{CrashMayLeave-now}
use Rattle.stair_super.specs.Superblock.{Superblock, joined_at, mark_at}
use Rattle.stair_super.specs.declared.mark.Mark.TheVariants.{Rebuilding}
use Rattle.stair_member.specs.Membership.{Membership, IsHere}
use Rattle.stair_member.specs.Reserve.{Bears}
use Rattle.stair_member.proofs.CountingLemmas.{all_but_mapped}
use Rattle.stair_member.proofs.EditionLemmas.{bears_below}
use Rattle.stair_journal.specs.declared.redo.Redo.{Redo}
use Rattle.stair_state.specs.Forms.{HasGate, IsOpen, RepresentsBy}
use Rattle.stair_state.specs.Holding.{HasOvertaken, HaveCurrentMedia, CurrentMediumReserved, CurrentMedia, IsBorneSince, IsConsistentBy, IsCurrentMedium, OfAdmitted}
use Rattle.stair_state.specs.Reassembly.{InSlot, IsBorne, IsReassembly, Location}
use Rattle.stair_state.specs.Represents.{AreSteady, Encodings, IsLargeEnough}
use Rattle.stair_state.specs.State.{State}
use Rattle.stair_invariant.specs.InSession.{IsBehindPlaces}
use Rattle.stair_invariant.specs.Returning.{CoversMedia, IsKnownWherever}
use Rattle.stair_reinsert.specs.Following.{name_of}
use Rattle.stair_reinsert.proofs.NameLemmas.{attached_name, name_apart, still_attached}
use Rattle.stair_reinsert.proofs.PlacesSince.{WasBorneSo, borne_so, super_so}

module _ (g : Geometry) (old h : List Happening) (steady : AreSteady g old) (behind : Ran IsBehindPlaces old h) (image : Image) (left : CrashMayLeave h image) where
  -- what a medium bears it bore, by the same name
  pub was_borne : (j : ℕ) (p : Location) (x : Superblock) → (there : IsBorne g image j p x)
      → WasBorneSo g old h steady behind j (bears_below g j there.medium.cell x there.bears) (name_of h j p) x
  was_borne j p x there =
      borne_so g old h steady behind j (bears_below g j there.medium.cell x there.bears) image left p x there

  pub latest_so : (epoch : ℕ) → CoversMedia g epoch old → (j : ℕ) (p : Location) (x : Superblock) → IsBorne g image j p x → x.array.epoch ≤ epoch
  latest_so epoch covers j p x there =
      let was = was_borne j p x there in covers (image_now old) (CrashMayLeave-now old) j was.place x was.borne

  -- WHAT HOLDS OF A SLOT'S MEDIUM THAT WAS ADMITTED IN AN EPOCH

  admitted_so : (joined j : ℕ) → j < g.n → (Q R : Superblock → Type 0) → ((x : Superblock) → Q x → R x) → OfAdmitted g (image_now old) joined Q j
      → OfAdmitted g image joined R j
  admitted_so joined j below Q R map holds p medium x is super slot identity same first second =
      let was = super_so g old h steady behind j below image left p medium x is super first second in
      map x (holds was.0 was.2.medium x was.2.is_one was.2.super slot identity same was.2.first was.2.second)

-- WHAT A MEMBER KNOWS

-- what it looked at and takes part isn't attached anew
pub known_so : (m : Membership) (old h : List Happening) → IsHistory old → AreSteady m.array.geometry old → Ran IsBehindPlaces old h
    → ((j : ℕ) → IsHere m j → Ran (IsNoAttach j) old h) → IsKnownWherever None m (IsAttached old) (image_now old) → (image : Image)
    → CrashMayLeave h image → IsKnownWherever None m (IsAttached h) image
known_so m old h history steady behind alone knows image left = record {
  covered = λ i p x there.
      let was = was_borne m.array.geometry old h steady behind image left i p x there in knows.covered i was.place x was.borne;
  named = λ i p x there.
      let was = was_borne m.array.geometry old h steady behind image left i p x there in knows.named i was.place x was.borne;
  sole = λ j p x here on there same.
      let was = was_borne m.array.geometry old h steady behind image left j p x there in
      let inside = knows.sole j was.place x here (still_attached j (alone j here) on).0 was.borne same in
      name_apart h j p InSlot
      (sym was.named ∙ ap (λ (l : Location). name_of old j l) inside ∙ sym (attached_name j history (alone j here) on));
  down = λ j joins. absurd (cc);
}

-- CONSISTENCY

module _ (s : State) (encodings : Encodings s) (current_media : CurrentMedia) (since : ℕ) (old h : List Happening)
    (steady : AreSteady s.geometry old) (behind : Ran IsBehindPlaces old h)
    (it : IsConsistentBy s encodings current_media since (image_now old)) (image : Image) (left : CrashMayLeave h image) where
  abbrev g : Geometry
  g = s.geometry

  pub since_so : (a : Superblock) → IsBorneSince s.geometry since image a → IsBorneSince s.geometry since (image_now old) a
  since_so a there =
      let was = was_borne s.geometry old h steady behind image left there.slot there.place a there.borne in
      record { slot = there.slot; place = was.place; borne = was.borne; since_then = there.since_then }

  -- what lies after the places is to be shown apart, and may be told of other stripes
  pub consistent_as : (other : Encodings s) → ((to : Image) (some : Slots) → IsReassembly image to → HaveCurrentMedia s.geometry current_media to (HasSlot some)
      → HasGate (HasSlot some) to → RepresentsBy s.geometry other.old other.new (HasSlot some) to)
      → ((to : Image) (j : ℕ) → IsReassembly image to → IsCurrentMedium s.geometry current_media j ((to j).cell) → IsLargeEnough s.geometry (to j).size)
      → ((to : Image) (j : ℕ) (a b : Superblock) (redo : Redo) → IsReassembly image to → IsBorneSince s.geometry since image a
      → mark_at a j ≡ Rebuilding → Bears s.geometry j ((to j).cell) b → b.joined ≡ joined_at a j → ¬ IsOpen s.geometry to j redo)
      → IsConsistentBy s other current_media since image
  consistent_as other forms full rebuilding = record {
    overtaken = λ i p a there earlier.
        let was = was_borne s.geometry old h steady behind image left i p a there in
        all_but_mapped {P = HasOvertaken s.geometry (image_now old) a} {Q = HasOvertaken s.geometry image a}
        (λ j below over marked.
        admitted_so s.geometry old h steady behind image left (joined_at a j) j below (λ x. a.array.epoch < x.array.epoch)
        (λ x. a.array.epoch < x.array.epoch) (λ x less. less) (over marked)) (it.overtaken i was.place a was.borne earlier);
    reserved =
        all_but_mapped {P = CurrentMediumReserved s.geometry current_media (image_now old)} {Q = CurrentMediumReserved s.geometry current_media image}
        (λ j below reserved joined current_medium.
        admitted_so s.geometry old h steady behind image left joined j below
        (λ x. (i : ℕ) (q : Location) (t : Superblock) → IsBorne s.geometry (image_now old) i q t → t.array.epoch ≤ x.draw)
        (λ x. (i : ℕ) (q : Location) (t : Superblock) → IsBorne s.geometry image i q t → t.array.epoch ≤ x.draw)
        (λ x above i q t there.
        let was = was_borne s.geometry old h steady behind image left i q t there in above i was.place t was.borne)
        (reserved joined current_medium)) it.reserved;
    live = λ j a there. it.live j a (since_so a there);
    rebuilt = λ j joined a there. it.rebuilt j joined a (since_so a there);
    frozen = λ a there. it.frozen a (since_so a there);
    label = λ a there. it.label a (since_so a there);
    forms = forms;
    full = full;
    rebuilding = rebuilding;
    one_list = λ i j p q a b first second.
        let was = was_borne s.geometry old h steady behind image left i p a first in
        let also = was_borne s.geometry old h steady behind image left j q b second in
        it.one_list i j was.place also.place a b was.borne also.borne;
    own_joined = λ j p q a b first second same.
        let was = was_borne s.geometry old h steady behind image left j p a first in
        let also = was_borne s.geometry old h steady behind image left j q b second in
        name_apart h j p q
        (sym was.named ∙ ap (λ (l : Location). name_of old j l) (it.own_joined j was.place also.place a b was.borne also.borne same) ∙ also.named);
  }
