-- The redo that a crash cut off is found by a recovery of an array whose media come back: gates are read, and slots that were gone are left
-- out, until those of all live slots were read.
use Rattle.std.proofs.Common.{IsTrue, List, None, Option, Some, refl, subst, sym, ◌<◌, ◌∙◌, ◌∷◌, ◌≡◌, ℕ, []}
use Rattle.stair_model.specs.Geometry.{Geometry}
use Rattle.stair_model.specs.Slots.{HasSlot, Slots}
use Rattle.stair_rack.specs.Answers.{IsBesideAttach, Ran, any_call}
use Rattle.stair_rack.specs.Crash.{CrashMayLeave}
use Rattle.stair_rack.specs.History.{Attach, Happening, Made, Read, Sectors, SlotCall, Sync, Write, stopped}
use Rattle.stair_rack.specs.Media.{Image}
use Rattle.stair_rack.specs.Moments.{AtEveryMoment, IsMoment}
use Rattle.stair_rack.specs.Reading.{IsReadOf}
use Rattle.stair_rack.specs.RackState.{RackState}
use Rattle.stair_rack.proofs.MomentLemmas.{at_every_from, at_every_join, at_moment, moment_between, moment_last, ran_before, ran_join, ran_weakened}
use Rattle.stair_member.specs.declared.fault.FenceFault.{FenceFault}
use Rattle.stair_journal.specs.Gates.{IsGateSector, ReadsGates}
use Rattle.stair_journal.specs.declared.gates.Gates.{Gates}
use Rattle.stair_journal.specs.declared.redo.Redo.{Redo}
use Rattle.stair_state.specs.Holding.{IsConsistentUnderReassembly}
use Rattle.stair_state.specs.State.{Change, Content}
use Rattle.stair_state.specs.Tolerance.{IsTolerated}
use Rattle.stair_invariant.specs.Effects.{AreLive, FindsRedo, FencesGone, Snapshot, snapshot}
use Rattle.stair_invariant.specs.Returning.{AnyReturns}
use Rattle.stair_invariant.proofs.FindsLemmas.{found_ran, honest_back}
use Rattle.stair_invariant.proofs.HonestLemmas.{found_honest, left_honest}
use Rattle.stair_invariant.proofs.OpenLaws.{goes_on_within}
use Rattle.stair_invariant.proofs.RedoingLemmas.{out_ran}
use Rattle.stair_invariant.proofs.Serving.{StaysWithinToleranceTo, any_read, calm_sooner, tolerated_now}
use Rattle.stair_invariant.proofs.StaysArrayLemmas.{left_stays}
use Rattle.stair_reinsert.proofs.RecoveryFence.{AreSynced, IsUntouched, reads_untouched, untouched_left, unseated}
use Rattle.stair_reinsert.proofs.RecoveryLeaving.{out_ended, out_left, out_synced, out_untouched}

-- reads, of whichever sectors
pub read_any : (slots sectors : ℕ → Type 0) (j : ℕ) (c : SlotCall) → IsReadOf slots sectors j c → any_read j c
read_any slots sectors j (Attach answer) may = absurd may
read_any slots sectors j (Sectors size) may = absurd may
read_any slots sectors j (Read k answer) may = (tt, tt)
read_any slots sectors j (Write k bytes answer) may = absurd may
read_any slots sectors j (Sync answer) may = absurd may

pub reads_any : {slots sectors : ℕ → Type 0} (old new : List Happening) → Ran (IsReadOf slots sectors) old new → Ran any_read old new
reads_any {slots} {sectors} old new ran = ran_weakened {allowed = IsReadOf slots sectors} {more = any_read} (read_any slots sectors) ran

-- reads attach nothing
pub none_attached : (j : ℕ) (call : SlotCall) → any_read j call → IsBesideAttach call
none_attached j (Attach answer) may = absurd may
none_attached j (Sectors size) may = absurd may
none_attached j (Read k answer) may = tt
none_attached j (Write k bytes answer) may = absurd may
none_attached j (Sync answer) may = absurd may

module _ (before : List Happening) (kept : Content) (change : Option Change) (g : Geometry) where
  -- whatever a crash leaves here represents the state, if it is calm up to here
  abbrev pub StandsUnseated : List Happening → Type 0
  StandsUnseated c = StaysWithinToleranceTo AnyReturns g before c → (image : Image) → CrashMayLeave c image
      → IsConsistentUnderReassembly (unseated g kept change) (Made image ∷ [])

  -- The last round, in which the gates of all live slots were read: it began once the member's epoch stood.
  pub record IsLastRound (redo : Option Redo) (opened : Slots) (z : Snapshot) : Type 0 where
    pub start : RackState
    pub untouched : IsUntouched before kept change z.member start.history
    pub synced : AreSynced z.member start.history
    pub geometry : z.member.array.geometry ≡ g
    pub gates : Gates
    pub live : Slots
    pub are : AreLive z.member live
    pub reads : ReadsGates z.member.array.geometry live gates start z.told
    pub none : (j : ℕ) → ¬ HasSlot gates.gone j
    pub found : gates.redo ≡ redo
    pub opens : gates.opened ≡ opened

  -- A ROUND, and slots that are left out after it

  module _ (x : Snapshot) (is : IsUntouched before kept change x.member x.told.history) (same : x.member.array.geometry ≡ g) (live : Slots)
      (gates : Gates) (mid : RackState) (are : AreLive x.member live) (reads : ReadsGates x.member.array.geometry live gates x.told mid)
      (honest : IsTrue mid.honest) where
    pub round_ran : Ran any_read x.told.history mid.history
    round_ran = reads_any {slots = HasSlot live} {sectors = IsGateSector} x.told.history mid.history (reads.ran honest)

    pub round_untouched : IsUntouched before kept change x.member mid.history
    round_untouched = reads_untouched before kept change x.member x.told.history mid.history is round_ran

    pub round_moments : AtEveryMoment StandsUnseated x.told.history mid.history
    round_moments =
        at_every_from {P = StandsUnseated} round_ran.more round_ran.is
        (λ c at calm image left.
        subst (λ (y : Geometry). IsConsistentUnderReassembly (unseated y kept change) (Made image ∷ [])) same
        (untouched_left before kept change x.member c
        (reads_untouched before kept change x.member x.told.history c is (ran_before {allowed = any_read} round_ran at)) image left))

    gone_below : (j : ℕ) → HasSlot gates.gone j → j < x.member.array.geometry.n
    gone_below j has = ((are.are j).0 (reads.live_gone j has)).below

    module _ (refusal : Option FenceFault) (y : Snapshot) (leaves : FencesGone gates.gone refusal (snapshot x.member mid) y) (honest_y : IsTrue y.told.honest) where
      out_runs : Ran any_call mid.history y.told.history
      out_runs = out_ran gates.gone refusal (snapshot x.member mid) y leaves honest_y

      upto : Ran any_call before mid.history
      upto = round_untouched.amid.ran

      within : (c : List Happening) → IsMoment mid.history c y.told.history → StaysWithinToleranceTo AnyReturns g before c → IsTolerated x.member.array.geometry before mid.history
      within c at calm =
          subst (λ (k : Geometry). IsTolerated k before mid.history) (sym same)
          (calm mid.history (moment_between {a = any_call} {b = any_call} upto (ran_before {allowed = any_call} out_runs at)))

      -- it was calm up to there where it is so up to a later moment
      pub calm_then : (c : List Happening) → Ran any_call y.told.history c → StaysWithinToleranceTo AnyReturns g before c → StaysWithinToleranceTo AnyReturns g before y.told.history
      calm_then c later =
          calm_sooner AnyReturns g before y.told.history c
          (moment_between {a = any_call} {b = any_call} (ran_join {allowed = any_call} upto out_runs) later)

      pub left_moments : AtEveryMoment StandsUnseated mid.history y.told.history
      left_moments =
          at_every_from {P = StandsUnseated} out_runs.more out_runs.is
          (λ c at calm image left.
          subst (λ (k : Geometry). IsConsistentUnderReassembly (unseated k kept change) (Made image ∷ [])) same
          (out_left before kept change gates.gone refusal x.member mid y round_untouched leaves honest_y gone_below (within c at calm) c at image left))

      module _ (calm : StaysWithinToleranceTo AnyReturns g before y.told.history) where
        end : IsMoment mid.history y.told.history y.told.history
        end = moment_last out_runs.more out_runs.is

        going : ¬ IsTrue (stopped y.told.history)
        going =
            goes_on_within g before y.told.history
            (tolerated_now AnyReturns g before y.told.history (ran_join {allowed = any_call} upto out_runs) calm)

        pub left_ended : IsConsistentUnderReassembly (unseated g kept change) y.told.history
        left_ended =
            subst (λ (k : Geometry). IsConsistentUnderReassembly (unseated k kept change) y.told.history) same
            (out_ended before kept change gates.gone refusal x.member mid y round_untouched leaves honest_y gone_below (within y.told.history end calm) going)

        pub left_untouched : refusal ≡ None → IsUntouched before kept change y.member y.told.history
        left_untouched fine =
            out_untouched before kept change gates.gone refusal x.member mid y round_untouched leaves honest_y gone_below (within y.told.history end calm)
            fine going

        pub left_synced : refusal ≡ None → (j : ℕ) → HasSlot gates.gone j → AreSynced y.member y.told.history
        left_synced fine =
            out_synced before kept change gates.gone refusal x.member mid y round_untouched leaves honest_y gone_below (within y.told.history end calm)
            fine going

    pub left_same : (refusal : Option FenceFault) (y : Snapshot) → FencesGone gates.gone refusal (snapshot x.member mid) y → y.member.array.geometry ≡ g
    left_same refusal y leaves = (left_stays gates.gone refusal (snapshot x.member mid) y leaves is.amid.array.member).geometry ∙ same

  -- ALL ROUNDS

  -- at each moment whatever a crash leaves represents the state, refused or not
  pub finding_moments : (redo : Option Redo) (opened : Slots) (refusal : Option FenceFault) (x z : Snapshot) → FindsRedo redo opened refusal x z
      → IsUntouched before kept change x.member x.told.history → x.member.array.geometry ≡ g → IsTrue z.told.honest
      → AtEveryMoment StandsUnseated x.told.history z.told.history
  finding_moments _ _ _ _ _ (FindsRedo.Found gates live mid x are reads none) is same honest = round_moments x is same live gates mid are reads honest
  finding_moments _ _ _ _ _ (FindsRedo.Again gates live mid redo opened refusal j x y z are reads gone leaves rest) is same honest =
      at_every_join {P = StandsUnseated} (round_moments x is same live gates mid are reads honest_mid)
      (at_every_join {P = StandsUnseated} (left_moments x is same live gates mid are reads honest_mid None y leaves honest_y)
      (at_every_from {P = StandsUnseated} after.more after.is
      (λ c at calm.
      at_moment {P = StandsUnseated}
      (finding_moments redo opened refusal y z rest
      (left_untouched x is same live gates mid are reads honest_mid None y leaves honest_y
      (calm_then x is same live gates mid are reads honest_mid None y leaves honest_y c (ran_before {allowed = any_call} after at) calm) refl)
      (left_same x is same live gates mid are reads honest_mid None y leaves) honest) at calm)))
    where
      honest_y : IsTrue y.told.honest
      honest_y = honest_back y.told z.told (found_honest redo opened refusal y z rest) honest

      honest_mid : IsTrue mid.honest
      honest_mid = honest_back mid y.told (left_honest gates.gone None (snapshot x.member mid) y leaves) honest_y

      after : Ran any_call y.told.history z.told.history
      after = found_ran redo opened refusal y z rest honest
  finding_moments _ _ _ _ _ (FindsRedo.Stops gates live mid redo opened fault x y are reads leaves) is same honest =
      let honest_mid = honest_back mid y.told (left_honest gates.gone (Some fault) (snapshot x.member mid) y leaves) honest in
      at_every_join {P = StandsUnseated} (round_moments x is same live gates mid are reads honest_mid)
      (left_moments x is same live gates mid are reads honest_mid (Some fault) y leaves honest)

  -- where it is refused so does the rack in the end
  pub finding_refused : (redo : Option Redo) (opened : Slots) (fault : FenceFault) (refusal : Option FenceFault) (x z : Snapshot)
      → FindsRedo redo opened refusal x z → refusal ≡ Some fault → IsUntouched before kept change x.member x.told.history → x.member.array.geometry ≡ g
      → IsTrue z.told.honest → StaysWithinToleranceTo AnyReturns g before z.told.history → IsConsistentUnderReassembly (unseated g kept change) z.told.history
  finding_refused _ _ fault _ _ _ (FindsRedo.Found gates live mid x are reads none) refused is same honest calm = absurd (cc)
  finding_refused _ _ fault _ _ _ (FindsRedo.Again gates live mid redo opened refusal j x y z are reads gone leaves rest) refused is same honest calm =
      let honest_y = honest_back y.told z.told (found_honest redo opened refusal y z rest) honest in
      let honest_mid = honest_back mid y.told (left_honest gates.gone None (snapshot x.member mid) y leaves) honest_y in
      let calm_y =
      calm_then x is same live gates mid are reads honest_mid None y leaves honest_y z.told.history (found_ran redo opened refusal y z rest honest) calm in
      finding_refused redo opened fault refusal y z rest refused
      (left_untouched x is same live gates mid are reads honest_mid None y leaves honest_y calm_y refl)
      (left_same x is same live gates mid are reads honest_mid None y leaves) honest calm
  finding_refused _ _ fault _ _ _ (FindsRedo.Stops gates live mid redo opened other x y are reads leaves) refused is same honest calm =
      let honest_mid = honest_back mid y.told (left_honest gates.gone (Some other) (snapshot x.member mid) y leaves) honest in
      left_ended x is same live gates mid are reads honest_mid (Some other) y leaves honest calm

  -- and else it ends with a round in which all were read
  pub finding_ends : (redo : Option Redo) (opened : Slots) (refusal : Option FenceFault) (x z : Snapshot) → FindsRedo redo opened refusal x z → refusal ≡ None
      → IsUntouched before kept change x.member x.told.history → AreSynced x.member x.told.history → x.member.array.geometry ≡ g → IsTrue z.told.honest
      → StaysWithinToleranceTo AnyReturns g before z.told.history → IsLastRound redo opened z
  finding_ends _ _ _ _ _ (FindsRedo.Found gates live mid x are reads none) fine is settled same honest calm = record {
    start = x.told;
    untouched = is;
    synced = settled;
    geometry = same;
    gates = gates;
    live = live;
    are = are;
    reads = reads;
    none = none;
    found = refl;
    opens = refl;
  }
  finding_ends _ _ _ _ _ (FindsRedo.Again gates live mid redo opened refusal j x y z are reads gone leaves rest) fine is settled same honest calm =
      let honest_y = honest_back y.told z.told (found_honest redo opened refusal y z rest) honest in
      let honest_mid = honest_back mid y.told (left_honest gates.gone None (snapshot x.member mid) y leaves) honest_y in
      let calm_y =
      calm_then x is same live gates mid are reads honest_mid None y leaves honest_y z.told.history (found_ran redo opened refusal y z rest honest) calm in
      finding_ends redo opened refusal y z rest fine
      (left_untouched x is same live gates mid are reads honest_mid None y leaves honest_y calm_y refl)
      (left_synced x is same live gates mid are reads honest_mid None y leaves honest_y calm_y refl j gone)
      (left_same x is same live gates mid are reads honest_mid None y leaves) honest calm
  finding_ends _ _ _ _ _ (FindsRedo.Stops gates live mid redo opened fault x y are reads leaves) fine is settled same honest calm = absurd (cc)
