-- An open array that serves is led on by calls that are beside all that it has, whichever media come back meanwhile.
use Rattle.std.proofs.Common.{List, None}
use Rattle.stair_rack.specs.Answers.{Ran, any_call}
use Rattle.stair_rack.specs.History.{Happening}
use Rattle.stair_rack.proofs.MomentLemmas.{moment_between, moment_last, ran_any, ran_join}
use Rattle.stair_rack.proofs.TidyLemmas.{history_on}
use Rattle.stair_state.specs.Blocks.{Codewords}
use Rattle.stair_state.specs.State.{Content}
use Rattle.stair_state.specs.Tolerance.{ToleratedSince}
use Rattle.stair_invariant.specs.Leading.{IsBesideArray}
use Rattle.stair_invariant.specs.Returning.{AnyReturns}
use Rattle.stair_invariant.specs.Session.{ArrayState}
use Rattle.stair_invariant.proofs.Mending.{LeadsBeside}
use Rattle.stair_invariant.proofs.OpenWithLemmas.{open_beside}
use Rattle.stair_invariant.proofs.Serving.{IsServing}
use Rattle.stair_reinsert.proofs.BesideKnows.{beside_knows}

pub beside_serves : (before : List Happening) (a : ArrayState) (words : Codewords) (kept : Content) (old new : List Happening)
    → IsServing AnyReturns before a words kept old → Ran (IsBesideArray a) old new → ToleratedSince a.member.array.geometry before new
    → IsServing AnyReturns before a words kept new
beside_serves before a words kept old new is ran calm = record {
  is_open = open_beside before a words old new is.is_open is.history ran;
  history = history_on {allowed = IsBesideArray a} is.history ran;
  of = is.of;
  knows =
      beside_knows kept None before a words old new is.history is.is_open ran is.knows
      (calm old (moment_between {a = any_call} {b = IsBesideArray a} is.is_open.ran ran)) (calm new (moment_last upto.more upto.is));
}
  where
    upto : Ran any_call before new
    upto = ran_join {allowed = any_call} is.is_open.ran (ran_any {allowed = IsBesideArray a} ran)

pub beside_leads : LeadsBeside AnyReturns
beside_leads = record {
  beside = λ before a words kept old new is ran calm. beside_serves before a words kept old new is ran calm;
}
