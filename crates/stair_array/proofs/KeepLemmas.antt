-- Where an array is within tolerance, not every slot passes that is looked at before one is made.
use Rattle.std.proofs.Common.{ℕ, ◌<◌, List, Result, Ok, Err, inl, inr, refl, sym, subst, arith}
use Rattle.std.specs.Prelude.{IsErr, IsTrue}
use Rattle.stair_model.specs.Geometry.{Geometry}
use Rattle.stair_rack.specs.Answers.{IsHistory, Ran}
use Rattle.stair_rack.specs.Crash.{image_now}
use Rattle.stair_rack.specs.History.{SlotCall, Happening}
use Rattle.stair_rack.specs.Moments.{IsMoment}
use Rattle.stair_rack.specs.Offline.{IsOffline, RackStopped}
use Rattle.stair_rack.specs.Stretch.{IsNoWrite, NothingReturned, NothingWritten, every_slot}
use Rattle.stair_rack.specs.RackState.{IsLater, RackState}
use Rattle.stair_rack.proofs.CrashLemmas.{CrashMayLeave-now}
use Rattle.stair_rack.proofs.MomentLemmas.{ran_before, ran_weakened}
use Rattle.stair_rack.proofs.StretchLemmas.{each_before, ran_sparing}
use Rattle.stair_super.specs.Superblock.{Superblock}
use Rattle.stair_member.specs.Superblocks.{HoldsSuper, First, Second}
use Rattle.stair_member.proofs.JudgeLemmas.{counts_in}
use Rattle.stair_state.specs.Represents.{Represents, no_write}
use Rattle.stair_state.specs.State.{State, without_seats}
use Rattle.stair_state.specs.Tolerance.{IsWithinTolerance}
use Rattle.stair_state.proofs.FormLemmas.{good_whole}
use Rattle.stair_state.proofs.OutsideLemmas.{looks_stand}
use Rattle.stair_state.proofs.StillLemmas.{reading_kept, was_offline_lost}
use Rattle.stair_array.specs.Creates.{Creates}
use Rattle.stair_array.specs.Keeping.{ToleratedUnwritten}
use Rattle.stair_array.specs.Looking.{AllPassed, Finding, WasGone, WasSmall, Holds, IsFound, Passed, Passes}
use Rattle.stair_array.specs.declared.fault.CreateFault.{CreateFault}

-- where nothing was written the calls were such
pub no_writes : {allowed : ℕ → SlotCall → Type 0} {old new : List Happening} → Ran allowed old new → NothingWritten old new → Ran no_write old new
no_writes {allowed} ran none =
    ran_weakened {allowed = λ j c. every_slot j → IsNoWrite c} {more = no_write} (λ j c may. may tt)
    (ran_sparing {allowed = allowed} {slots = every_slot} ran none)

module _ (array g : Geometry) (before : List Happening) (old mid : RackState) (honest : IsTrue mid.honest) (is : IsHistory old.history)
    (ran : Ran no_write old.history mid.history) (none : NothingReturned old.history mid.history)
    (within : IsWithinTolerance (IsOffline before mid.history) array (image_now mid.history)) where
  abbrev slot : ℕ
  slot = within.journal_slot

  -- a slot of the array in one of whose places a superblock can be read
  refuses : (k : ℕ) (s : Superblock) → k < 2 → HoldsSuper ((image_now mid.history slot).cell k) s → ¬ Passed g slot old mid
  refuses k s place holds passed = by passed.finding passed.found passed.passes
    where
      by : (finding : Finding) → IsFound g slot old mid finding → Passes g slot finding → ⊥
      by WasGone found passes =
          elim (was_offline_lost old mid honest is ran none slot (found.1 honest)) [
            | inl stops ↦ within.journal.serves.online (RackStopped stops)
            | inr all ↦ good_whole holds.good (all k)
          ]
      by (WasSmall has) found passes = passes
      by (Holds cell) found passes = passes (record {
        place = k;
        place_in = place;
        super = s;
        holds = record {
          bytes = holds.bytes;
          good = reading_kept old mid honest is ran none slot k holds.bytes (cell k) (found.0 k place) holds.good;
          spells = holds.spells;
        };
      })

  -- the slot that serves with a whole journal doesn't pass
  not_all_pass : ¬ ((j : ℕ) → j < 32 → Passed g j old mid)
  not_all_pass passed =
      let live = within.journal.serves.live in
      let below = counts_in array (image_now mid.history) slot (record { super = live.super; counts = live.counts }) in
      elim live.counts.super [
        | First holds newer ↦ refuses 0 live.super (omega arith) holds (passed slot below)
        | Second holds older ↦ refuses 1 live.super (omega arith) holds (passed slot below)
      ]

module _ (array g : Geometry) (answer : Result (Unit {0}) CreateFault) (before : List Happening) (old new : RackState)
    (honest : IsTrue new.honest) (creates : Creates g answer old new) (none : NothingReturned old.history new.history)
    (tolerated : ToleratedUnwritten array before old.history new.history) where
  not_passed : (mid : RackState) → AllPassed g old mid → IsLater mid new → ⊥
  not_passed mid passed later =
      let honest_mid : IsTrue mid.honest = subst IsTrue (sym later.honest) honest in
      let unwritten = passed.unwritten honest_mid in
      let on = later.ran honest in
      let at : IsMoment old.history mid.history new.history =
      record { before = unwritten.more; later = on.more; from = unwritten.is; to = on.is } in
      not_all_pass array g before old mid honest_mid (creates.began honest)
      (no_writes (ran_before (creates.ran honest) at) unwritten) (each_before none at)
      (tolerated mid.history at unwritten (image_now mid.history) (CrashMayLeave-now mid.history)) passed.each

  kept_by : (came : Result (Unit {0}) CreateFault) → Creates g came old new → IsErr came × NothingWritten old.history new.history
  kept_by (Ok done) it = absurd (not_passed it.looked.mid it.looked.passed it.looked.later)
  kept_by (Err fault) it =
      elim it.refused [
        | inl refused ↦ (refl, refused.unwritten honest)
        | inr given ↦ absurd (not_passed given.mid given.passed given.later)
      ]

  pub arrays_kept : IsErr answer × NothingWritten old.history new.history
  arrays_kept = kept_by answer creates

-- and what stands goes on to do so
pub states_kept : (s : State) (g : Geometry) (answer : Result (Unit {0}) CreateFault) (before : List Happening) (old new : RackState)
    → IsTrue new.honest → Creates g answer old new → Represents s old.history → NothingReturned old.history new.history
    → ToleratedUnwritten s.geometry before old.history new.history
    → (h : List Happening) → IsMoment old.history h new.history → Represents (without_seats s) h
states_kept s g answer before old new honest creates stands none tolerated h at =
    let unwritten = (arrays_kept s.geometry g answer before old new honest creates none tolerated).1 in
    looks_stand s before old.history h stands (ran_before (no_writes (creates.ran honest) unwritten) at) (each_before none at)
    (tolerated h at (each_before unwritten at))
