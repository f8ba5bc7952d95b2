-- No step of which what is promised holds leaves a rack that no state is consistent with.
use Rattle.std.proofs.Common.{◌≡◌, List, inl, inr, ap, ◌∙◌, None}
use Rattle.std.specs.Prelude.{IsTrue, Ok}
use Rattle.stair_rack.specs.Answers.{IsHistory}
use Rattle.stair_rack.specs.Crash.{CrashMayLeave}
use Rattle.stair_rack.specs.History.{Happening}
use Rattle.stair_rack.specs.Media.{Image}
use Rattle.stair_rack.specs.Moments.{IsMoment}
use Rattle.stair_member.specs.Membership.{Membership}
use Rattle.stair_member.specs.Seats.{Seats}
use Rattle.stair_state.specs.State.{State}
use Rattle.stair_state.proofs.AloneLemmas.{left_consistent}
use Rattle.stair_invariant.specs.Returning.{AnyReturns, StaysWithinTolerance}
use Rattle.stair_array.specs.Machine.{Answer, CutWithin, GivenBy, HoldsAfter, LookAtSeats, MayBegin, ReadBlock, RebuildNext, Recover, ReplaceSlot, ScrubStripe, SetFrozen, SetLabel, Step, WriteBlocks}
use Rattle.stair_array.specs.Promise.{IsInState, LeadsStep, Seen, is_open}
use Rattle.stair_reinsert_examples.specs.Refused.{IsRefused, IsRefusedSettled}

cut_geometry : (step : Step) (begun : Seats) (old new : State) → CutWithin step begun old new → new.geometry ≡ old.geometry
cut_geometry step begun old new (inl same) = ap (λ (s : State). s.geometry) same
cut_geometry step begun old new (inr row) = row.1.geometry

pub not_left : (image : Image) (step : Step) (answer : Answer step) (m : Membership) (x y : Seen) (before c : List Happening) (s : State)
    → IsRefused s.geometry image → LeadsStep AnyReturns m step answer x y → IsTrue y.told.honest → IsHistory x.told.history
    → IsInState AnyReturns before s x → IsMoment x.told.history c y.told.history → StaysWithinTolerance AnyReturns s.geometry (is_open x.session) before c
    → ¬ CrashMayLeave c image
not_left image step answer m x y before c s refused leads honest history state moment calm left =
    let is = leads.cuts honest before s history state c moment calm image left in
    refused is.state (cut_geometry step is.cut.begun s is.state is.cut.within) is.stands

-- what is done leaves nothing in doubt
certain_then : (step : Step) (given : GivenBy step) (old new : State) → MayBegin step old → HoldsAfter step (Ok given) old new → new.in_doubt ≡ None
certain_then Recover g old new begins (same, inl decided) = decided.in_doubt
certain_then Recover g old new begins (same, inr decided) = decided.in_doubt
certain_then (ReadBlock b) bytes old new begins holds = holds.1.in_doubt ∙ begins
certain_then (WriteBlocks first contents) given old new begins holds = holds.in_doubt
certain_then (ScrubStripe t) given old new begins holds = holds.in_doubt
certain_then (ReplaceSlot j) given old new begins holds = holds.in_doubt
certain_then RebuildNext given old new begins holds = holds.in_doubt
certain_then (SetFrozen frozen) given old new begins holds = holds.in_doubt
certain_then (SetLabel label) given old new begins holds = holds.in_doubt
certain_then LookAtSeats given old new begins holds = holds.in_doubt

pub not_settled : (image : Image) (step : Step) (given : GivenBy step) (m : Membership) (x y : Seen) (before : List Happening) (s : State)
    → IsRefusedSettled s.geometry image → LeadsStep AnyReturns m step (Ok given) x y → IsTrue y.told.honest → IsHistory x.told.history
    → IsHistory y.told.history → IsInState AnyReturns before s x → StaysWithinTolerance AnyReturns s.geometry (is_open x.session) before y.told.history
    → ¬ CrashMayLeave y.told.history image
not_settled image step given m x y before s refused leads honest history ends state calm left =
    let is = leads.leads honest before s history state calm in
    let row = is.is_step.row in
    refused is.state row.geometry (certain_then step given s is.state row.begins row.holds)
    (left_consistent is.state y.told.history image ends is.is_in.stands left)
