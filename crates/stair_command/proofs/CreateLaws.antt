-- Where an array is within tolerance none is made, up to any moment: media may come back or not.
use Rattle.std.proofs.Common.{◌∙◌, ◌⊎◌, ℕ, ◌<◌, ◌≤◌, List, [], Result, Ok, Err, inl, inr, refl, sym, ap, subst, arith}
use Rattle.std.specs.Prelude.{IsErr, IsTrue, None, false, ◌==◌, if◌then◌else◌}
use Rattle.std.proofs.lemmas.Bool.{cases_eq, cond-true, cond-false, eq-eqb, ne_eqb}
use Rattle.stair_model.specs.Geometry.{Geometry}
use Rattle.stair_rack.specs.Answers.{IsHistory, Ran}
use Rattle.stair_rack.specs.Crash.{image_now}
use Rattle.stair_rack.specs.History.{Happening}
use Rattle.stair_rack.specs.Media.{Image, SlotImage}
use Rattle.stair_rack.specs.Moments.{AtSomeMoment, IsMoment}
use Rattle.stair_rack.specs.Offline.{IsOffline, RackStopped}
use Rattle.stair_rack.specs.Sector.{Cell, Damaged}
use Rattle.stair_rack.specs.Stretch.{NothingReturned, NothingWritten}
use Rattle.stair_rack.specs.RackState.{IsLater, RackState}
use Rattle.stair_rack.proofs.CrashLemmas.{CrashMayLeave-now}
use Rattle.stair_rack.proofs.MomentLemmas.{moment_cases, moment_last, ran_after, ran_before}
use Rattle.stair_rack.proofs.StretchLemmas.{each_after, each_before}
use Rattle.stair_super.specs.Superblock.{Superblock}
use Rattle.stair_member.specs.Current.{NotLive, Offline}
use Rattle.stair_member.specs.Superblocks.{First, HasSuper, IsSuperOf, Second}
use Rattle.stair_member.proofs.JudgeLemmas.{counts_in}
use Rattle.stair_member.proofs.SuperLemmas.{counts_limits}
use Rattle.stair_member.proofs.StandingLemmas.{has_current}
use Rattle.stair_state.specs.Degraded.{Blank, IsDegradedSlot, Stays, Taken}
use Rattle.stair_state.specs.Represents.{no_write}
use Rattle.stair_state.specs.Tolerance.{IsWithinTolerance}
use Rattle.stair_state.proofs.FormLemmas.{good_whole}
use Rattle.stair_state.proofs.StillLemmas.{degraded_now, was_offline_lost}
use Rattle.stair_invariant.specs.Mixed.{AsAt, Away, IsMixed, IsMixedSlot, IsToleratedMixed, WasOffline}
use Rattle.stair_invariant.specs.Returning.{AnyReturns, StaysWithinTolerance, NoneReturns, Returning}
use Rattle.stair_array.proofs.KeepLemmas.{no_writes}
use Rattle.stair_array.specs.Creates.{Creates}
use Rattle.stair_array.specs.Looking.{AllPassed, Finding, Holds, IsFound, Passed, Passes, WasGone, WasSmall, cells_at}
use Rattle.stair_array.specs.declared.fault.CreateFault.{CreateFault}

-- the superblock of a medium lies in one of its places
super_place : (cell : ℕ → Cell) (s : Superblock) → IsSuperOf cell s → HasSuper cell
super_place cell s (First holds newer) = record { place = 0; place_in = omega arith; super = s; holds = holds }
super_place cell s (Second holds older) = record { place = 1; place_in = omega arith; super = s; holds = holds }

-- what lies in a slot that is degraded lay there before
super_before : (more less : SlotImage) → IsDegradedSlot more less → HasSuper less.cell → HasSuper more.cell
super_before more less (Taken none all) has = absurd (good_whole has.holds.good (all has.place))
super_before more less (Blank size is all) has = absurd (good_whole has.holds.good (all has.place))
super_before more less (Stays same copies) has =
    elim (copies has.place) [
      | inl kept ↦ record {
        place = has.place;
        place_in = has.place_in;
        super = has.super;
        holds = record { bytes = has.holds.bytes; good = sym kept ∙ has.holds.good; spells = has.holds.spells };
      }
      | inr harmed ↦ absurd (good_whole has.holds.good harmed)
    ]

-- a slot of an array that passed a look was offline in it, or bore no superblock at a moment of it
WasNotSeen : ℕ → List Happening → List Happening → Type 0
WasNotSeen j old new = AtSomeMoment (λ h. IsOffline old h j) old new ⊎ AtSomeMoment (λ h. ¬ HasSuper (cells_at h j)) old new

passed_unseen : (g : Geometry) (j : ℕ) (old new : RackState) → IsTrue new.honest → Passed g j old new → WasNotSeen j old.history new.history
unfolding WasNotSeen
passed_unseen g j old new honest passed = by passed.finding passed.found passed.passes
  where
    by : (finding : Finding) → IsFound g j old new finding → Passes g j finding → WasNotSeen j old.history new.history
    by WasGone found passes = inl (found.1 honest)
    by (WasSmall has) found passes = absurd passes
    by (Holds cell) found passes = inr (found.2 passes honest)

-- NO MEDIUM COMES BACK

module _ (g array : Geometry) (old mid : RackState) (honest : IsTrue mid.honest) (is : IsHistory old.history) (ran : Ran no_write old.history mid.history) where
  kept_unpassed : NothingReturned old.history mid.history → (within : IsWithinTolerance (IsOffline old.history mid.history) array (image_now mid.history))
      → WasNotSeen within.journal_slot old.history mid.history → ⊥
  unfolding WasNotSeen
  kept_unpassed none within (inl offline) =
      elim (was_offline_lost old mid honest is ran none within.journal_slot offline) [
        | inl stops ↦ within.journal.serves.online (RackStopped stops)
        | inr all ↦ good_whole seen.holds.good (all seen.place)
      ]
    where
      seen : HasSuper (image_now mid.history within.journal_slot).cell
      seen = super_place (image_now mid.history within.journal_slot).cell within.journal.serves.live.super within.journal.serves.live.counts.super
  kept_unpassed none within (inr bare) =
      bare.holds
      (super_before (image_now bare.moment within.journal_slot) (image_now mid.history within.journal_slot)
      (degraded_now (ran_after ran bare.is_one) (each_after none bare.is_one) within.journal_slot)
      (super_place (image_now mid.history within.journal_slot).cell within.journal.serves.live.super within.journal.serves.live.counts.super))

-- MEDIA MAY COME BACK

-- each slot at the same moment
now_mixed : {old mid : List Happening} (h : List Happening) → IsMoment old h mid → IsMixed old old mid (image_now h)
now_mixed h at j = AsAt (image_now h j) (record { moment = h; is_one = at; holds = CrashMayLeave-now h j }) refl (λ k. inl refl)

-- one slot is empty
empty_slot : SlotImage
empty_slot = record { size = None; cell = λ k. Damaged; removed = [] }

abbrev without_slot : ℕ → Image → Image
without_slot j image i = if i == j then empty_slot else image i

away_mixed : {old mid : List Happening} (h : List Happening) (j : ℕ) → IsMoment old h mid → WasOffline old old mid j
    → IsMixed old old mid (without_slot j (image_now h))
unfolding empty_slot
away_mixed {old} {mid} h j at offline i =
    elim (cases_eq i j) [
      | inl same ↦
          subst (IsMixedSlot old old mid i) (sym (cond-true _ _ _ (eq-eqb i j same)))
          (Away (subst (WasOffline old old mid) (sym same) offline) refl (λ k. refl))
      | inr other ↦ subst (IsMixedSlot old old mid i) (sym (cond-false _ _ _ (ne_eqb i j other))) (now_mixed h at i)
    ]

mixed_unpassed : (array : Geometry) (old mid : List Happening) (tolerated : IsToleratedMixed array old old mid)
    → WasNotSeen tolerated.journal old mid → ⊥
unfolding WasNotSeen empty_slot
mixed_unpassed array old mid tolerated (inl offline) =
    let to = without_slot tolerated.journal (image_now offline.moment) in
    let mixed = away_mixed offline.moment tolerated.journal offline.is_one offline in
    let current = has_current array to (tolerated.identity to mixed).stands in
    tolerated.journal_kept
    (tolerated.within to current.0 tolerated.journal mixed current.1
    (Offline tolerated.journal_in (ap (λ (slot : SlotImage). slot.size) (cond-true _ _ _ (eq-eqb tolerated.journal tolerated.journal refl)))))
mixed_unpassed array old mid tolerated (inr bare) =
    let to = image_now bare.moment in
    let mixed = now_mixed bare.moment bare.is_one in
    let current = has_current array to (tolerated.identity to mixed).stands in
    tolerated.journal_kept
    (tolerated.within to current.0 tolerated.journal mixed current.1
    (NotLive tolerated.journal_in (λ live. bare.holds (super_place (to tolerated.journal).cell live.super live.counts.super))))

-- WHAT IS WRITTEN

-- where an array is within tolerance at that moment not all 32 slots have passed
not_all_pass : (returning : Returning) (g array : Geometry) (old mid : RackState) → IsTrue mid.honest → IsHistory old.history
    → NothingWritten old.history mid.history → Ran no_write old.history mid.history → StaysWithinTolerance returning array false old.history mid.history → ¬ ((j : ℕ) → j < 32 → Passed g j old mid)
not_all_pass NoneReturns g array old mid honest is unwritten ran calm passed =
    let within = calm.0 mid.history (moment_last ran.more ran.is) (image_now mid.history) (CrashMayLeave-now mid.history) in
    let live = within.journal.serves.live in
    kept_unpassed g array old mid honest is ran calm.1 within
    (passed_unseen g within.journal_slot old mid honest
    (passed within.journal_slot (counts_in array (image_now mid.history) within.journal_slot (record { super = live.super; counts = live.counts }))))
not_all_pass AnyReturns g array old mid honest is unwritten ran calm passed =
    let tolerated = calm.1 mid.history (moment_last unwritten.more unwritten.is) unwritten in
    let within = calm.0 mid.history (moment_last ran.more ran.is) (image_now mid.history) (CrashMayLeave-now mid.history) in
    let most : array.n ≤ 32 = (counts_limits array (image_now mid.history) within.current.slot within.current within.is_current.counts).devices.1 in
    mixed_unpassed array old.history mid.history tolerated
    (passed_unseen g tolerated.journal old mid honest (passed tolerated.journal (omega (arith, most, tolerated.journal_in))))

module _ (returning : Returning) (g array : Geometry) (old new : RackState) (honest : IsTrue new.honest) where
  passed_at : (mid : RackState) → AllPassed g old mid → IsLater mid new → IsMoment old.history mid.history new.history
  passed_at mid passed later =
      let unwritten = passed.unwritten (subst IsTrue (sym later.honest) honest) in
      let on = later.ran honest in
      record { before = unwritten.more; later = on.more; from = unwritten.is; to = on.is }

  -- not all slots have passed by a moment at which an array is within tolerance
  not_passed_by : {came : Result (Unit {0}) CreateFault} (mid : RackState) → Creates g came old new → AllPassed g old mid → IsLater mid new
      → StaysWithinTolerance returning array false old.history mid.history → ⊥
  not_passed_by mid creates passed later calm =
      let honest_mid : IsTrue mid.honest = subst IsTrue (sym later.honest) honest in
      let unwritten = passed.unwritten honest_mid in
      not_all_pass returning g array old mid honest_mid (creates.began honest) unwritten
      (no_writes (ran_before (creates.ran honest) (passed_at mid passed later)) unwritten) calm passed.each

  -- up to a moment before which nothing but the look can have come
  looked_upto : {came : Result (Unit {0}) CreateFault} (mid : RackState) (c : List Happening) → Creates g came old new → AllPassed g old mid
      → IsLater mid new → IsMoment old.history c new.history
      → ((h : List Happening) → IsMoment old.history h new.history → IsMoment h h c → StaysWithinTolerance returning array false old.history h)
      → NothingWritten old.history c
  looked_upto mid c creates passed later at calm =
      let at_mid = passed_at mid passed later in
      elim (moment_cases at at_mid) [
        | inl sooner ↦ each_before (passed.unwritten (subst IsTrue (sym later.honest) honest)) sooner
        | inr after ↦
            absurd
            (not_passed_by mid creates passed later
            (calm mid.history at_mid (record { before = []; later = after.before; from = refl; to = after.from })))
      ]

  -- a call that would make an array has written nothing up to any moment up to which an array was within tolerance
  pub unwritten_upto : (came : Result (Unit {0}) CreateFault) (c : List Happening) → Creates g came old new → IsMoment old.history c new.history
      → ((h : List Happening) → IsMoment old.history h new.history → IsMoment h h c → StaysWithinTolerance returning array false old.history h)
      → NothingWritten old.history c
  unwritten_upto (Ok done) c creates at calm = looked_upto creates.looked.mid c creates creates.looked.passed creates.looked.later at calm
  unwritten_upto (Err fault) c creates at calm =
      elim creates.refused [
        | inl refused ↦ each_before (refused.unwritten honest) at
        | inr given ↦ looked_upto given.mid c creates given.passed given.later at calm
      ]

  -- and none is made where an array was within tolerance throughout
  pub none_made : (came : Result (Unit {0}) CreateFault) → Creates g came old new
      → ((h : List Happening) → IsMoment old.history h new.history → StaysWithinTolerance returning array false old.history h)
      → IsErr came × NothingWritten old.history new.history
  none_made (Ok done) creates calm =
      let looked = creates.looked in
      absurd (not_passed_by looked.mid creates looked.passed looked.later (calm looked.mid.history (passed_at looked.mid looked.passed looked.later)))
  none_made (Err fault) creates calm =
      let ran = creates.ran honest in
      (refl, unwritten_upto (Err fault) new.history creates (moment_last ran.more ran.is) (λ h at upto. calm h at))
