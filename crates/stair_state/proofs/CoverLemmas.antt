-- What a survey saw of an array covers what the media bear at its end: no later epoch, one configuration of its own epoch, and
-- no greater draw.
use Rattle.std.proofs.Common.{◌≡◌, ℕ, ◌<◌, ◌≤◌, List, inl, inr, sym, ap, ◌∙◌, subst, arith}
use Rattle.std.proofs.lemmas.Bool.{cases_lt}
use Rattle.std.specs.Prelude.{IsTrue, Result, Ok}
use Rattle.stair_model.specs.Geometry.{Geometry}
use Rattle.stair_rack.specs.Answers.{IsHistory, Ran, any_call}
use Rattle.stair_rack.specs.Crash.{CrashMayLeave, image_now}
use Rattle.stair_rack.specs.History.{Happening}
use Rattle.stair_rack.specs.Media.{Image}
use Rattle.stair_rack.specs.Offline.{IsOffline}
use Rattle.stair_rack.specs.Sector.{Cell}
use Rattle.stair_rack.specs.Stretch.{NothingReturned}
use Rattle.stair_super.specs.Superblock.{Superblock}
use Rattle.stair_super.specs.declared.configuration.Configuration.{Configuration}
use Rattle.stair_member.specs.Current.{IsCurrent}
use Rattle.stair_member.specs.Findings.{AreFound, Findings}
use Rattle.stair_member.specs.Membership.{Membership}
use Rattle.stair_member.specs.Reserve.{Bears, IsOrderly}
use Rattle.stair_member.specs.Superblocks.{Counts, First, HoldsSuper, IsSuperOf, Second}
use Rattle.stair_member.specs.Survey.{IsAnswer, IsSurveyed, Surveys}
use Rattle.stair_rack.specs.RackState.{RackState}
use Rattle.stair_member.specs.declared.fault.SurveyFault.{SurveyFault}
use Rattle.stair_member.proofs.AskedLemmas.{asked_ran}
use Rattle.stair_member.proofs.SuperLemmas.{counts_bears, holds_once}
use Rattle.stair_state.specs.Represents.{Represents, no_write}
use Rattle.stair_state.specs.State.{State}
use Rattle.stair_state.specs.Surveyed.{Covers, CoversAll}
use Rattle.stair_state.specs.Tolerance.{ToleratedSince}
use Rattle.stair_state.proofs.AgreeLemmas.{agree_back, bears_agree, borne_upto, counts_agree, has_newest}
use Rattle.stair_state.proofs.DegradedLemmas.{orderly_copies}
use Rattle.stair_state.proofs.OutsideLemmas.{steady_looks, unwritten_ran}
use Rattle.stair_state.proofs.SeenLemmas.{IsLookedAt, bears_read, fits}
use Rattle.stair_state.proofs.StillLemmas.{read_image, steady_cells}
use Rattle.stair_state.proofs.SurveyedLemmas.{agree, current_read, identity, looks}

-- DRAWS

same_draw : (cell : Cell) (s t : Superblock) → HoldsSuper cell s → HoldsSuper cell t → t.draw ≤ s.draw
same_draw cell s t first second =
    let same : t.draw ≡ s.draw = ap (λ (u : Superblock). u.draw) (holds_once cell t s second first) in omega arith

-- no place of a medium has a greater draw than its superblock
pub held_upto : (cell : ℕ → Cell) (k : ℕ) (s t : Superblock) → k < 2 → IsSuperOf cell s → HoldsSuper (cell k) t → t.draw ≤ s.draw
held_upto cell k s t place super holds =
    elim (cases_lt k 1) [
      | inl below ↦
          in_first super (subst (λ (i : ℕ). HoldsSuper (cell i) t) (omega arith) holds)
      | inr above ↦
          in_second super (subst (λ (i : ℕ). HoldsSuper (cell i) t) (omega arith) holds)
    ]
  where
    in_first : IsSuperOf cell s → HoldsSuper (cell 0) t → t.draw ≤ s.draw
    in_first (First at rest) there = same_draw (cell 0) s t at there
    in_first (Second at rest) there =
        elim (rest t there) [ inl less ↦ omega arith | inr tie ↦ let same : t.draw ≡ s.draw = tie.0 in omega arith ]

    in_second : IsSuperOf cell s → HoldsSuper (cell 1) t → t.draw ≤ s.draw
    in_second (First at rest) there =
        elim (cases_lt s.draw t.draw) [ inl more ↦ absurd (rest t there (inl more)) | inr not_more ↦ omega arith ]
    in_second (Second at rest) there = same_draw (cell 1) s t at there

-- WHAT WAS READ

-- a superblock that counts in what was read, of no smaller draw
pub record IsDrawnIn (g : Geometry) (read : Image) (j : ℕ) (t : Superblock) : Type 0 where
  pub super : Superblock
  pub counts : Counts g read j super
  pub upto : t.draw ≤ super.draw

-- it covers what the last image bears
module _ {g : Geometry} {offline : ℕ → Type 0} {first read last : Image} (looked : IsLookedAt g offline first read last) (j : ℕ) (t : Superblock)
    (bears : Bears g j ((last j).cell) t) where
  read_orderly : IsOrderly g read
  read_orderly = orderly_copies g first read looked.copies looked.orderly

  bears_seen : Bears g j ((read j).cell) t
  bears_seen = bears_read looked j t bears

  pub epoch_seen : (found : Superblock) → IsCurrent g read found → t.array.epoch ≤ found.array.epoch
  epoch_seen found is = borne_upto g read found j t read_orderly is bears_seen

  pub list_seen : (found : Superblock) → IsCurrent g read found → t.array.epoch ≡ found.array.epoch → t.array ≡ found.array
  list_seen found is same =
      read_orderly.one_list j found.slot t found bears_seen (counts_bears g read found.slot found is.counts) same

  pub draw_seen : IsDrawnIn g read j t
  draw_seen =
      let newest = has_newest g read j t read_orderly bears_seen in
      record {
        super = newest.super;
        counts = newest.counts;
        upto = held_upto ((read j).cell) bears_seen.place newest.super t bears_seen.place_in newest.counts.super bears_seen.holds;
      }

-- THE MEMBER

module _ (s : State) (before : List Happening) (old new : RackState) (f : Findings) (found : AreFound f old new) (honest : IsTrue new.honest)
    (is : IsHistory old.history) (ran : Ran no_write old.history new.history) (began : Ran any_call before old.history)
    (stands : Represents s old.history) (none : NothingReturned old.history new.history)
    (tolerated : ToleratedSince s.geometry before new.history) (m : Membership) (surveyed : IsSurveyed f m) where
  abbrev g : Geometry
  g = s.geometry

  looked : IsLookedAt g (λ j. IsOffline before new.history j) (image_now old.history) (read_image f) (image_now new.history)
  looked = looks s before old new f found honest is ran began stands none tolerated

  is_found : IsCurrent g (read_image f) surveyed.current
  is_found = current_read s before old new f found honest is ran began stands none tolerated m surveyed

  -- what counts in what was read counts in the findings
  counts_found : (j : ℕ) (v : Superblock) → Counts g (read_image f) j v → Counts m.array.geometry f.image j v
  counts_found j v counts =
      let there =
      counts_agree g 32 (fits looked) (read_image f) f.image j v
      (agree_back 32 f.image (read_image f) (agree f)) counts in
      record {
        super = there.super;
        slot = there.slot;
        identity = there.identity ∙ sym (identity s before old new f found honest is ran began stands none tolerated m surveyed);
      }

  covers_now : (j : ℕ) (t : Superblock) → Bears g j ((image_now new.history j).cell) t → Covers m t
  covers_now j t bears =
      let epochs : m.array.epoch ≡ surveyed.current.array.epoch = ap (λ (array : Configuration). array.epoch) surveyed.array in
      let upto : t.array.epoch ≤ surveyed.current.array.epoch = epoch_seen looked j t bears surveyed.current is_found in
      let drawn = draw_seen looked j t bears in
      let seen : drawn.super.draw ≤ m.drawn = surveyed.drawn.above j drawn.super (counts_found j drawn.super drawn.counts) in
      let less : t.draw ≤ drawn.super.draw = drawn.upto in
      record {
        epoch = omega (arith, epochs, upto);
        one_list = λ same. list_seen looked j t bears surveyed.current is_found (same ∙ epochs) ∙ sym surveyed.array;
        draw = omega (arith, seen, less);
      }

  -- what a crash may leave bears what the image now does
  bears_now : (image : Image) → CrashMayLeave new.history image → (j : ℕ) (t : Superblock) → Bears g j ((image j).cell) t
      → Bears g j ((image_now new.history j).cell) t
  bears_now image left =
      let here : g.n ≤ g.n = omega arith in
      λ j t.
      bears_agree g g.n here image (image_now new.history) j t
      (steady_cells g new.history image (steady_looks g old.history new.history ran stands.steady) left)

  pub covers : CoversAll g m new.history
  covers = record { each = λ image left j t bears. covers_now j t (bears_now image left j t bears) }

pub covers_all : (s : State) (before : List Happening) (old new : RackState) (answer : Result Membership SurveyFault) (m : Membership)
    → Surveys answer old new → IsTrue new.honest → Ran any_call before old.history → Represents s old.history
    → NothingReturned old.history new.history → ToleratedSince s.geometry before new.history → answer ≡ Ok m → CoversAll s.geometry m new.history
covers_all s before old new answer m surveys honest began stands none tolerated ok =
    let answered : IsAnswer surveys.findings (Ok m) = subst (λ (a : Result Membership SurveyFault). IsAnswer surveys.findings a) ok surveys.answered in
    covers s before old new surveys.findings surveys.found honest (surveys.began honest)
    (unwritten_ran (asked_ran 32 old.history new.history (surveys.asked honest))) began stands none tolerated m answered.0
