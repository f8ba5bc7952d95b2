-- An open array while calls are made that are beside all that it has, whether media come back or not.
use Rattle.std.proofs.Common.{List}
use Rattle.stair_rack.specs.Answers.{Ran}
use Rattle.stair_rack.specs.History.{Happening}
use Rattle.stair_rack.specs.Moments.{AtEveryMoment}
use Rattle.stair_rack.proofs.MomentLemmas.{at_every_from}
use Rattle.stair_state.specs.Blocks.{Codewords}
use Rattle.stair_state.specs.State.{Content}
use Rattle.stair_invariant.specs.Leading.{IsBesideArray}
use Rattle.stair_invariant.specs.Returning.{Returning}
use Rattle.stair_invariant.specs.Session.{ArrayState}
use Rattle.stair_invariant.proofs.Serving.{IsServing, LeadsReads}
use Rattle.stair_invariant.proofs.Mending.{LeadsBeside, beside_stands}
use Rattle.stair_array.proofs.LeftServingLemmas.{StandsAt}

pub beside_moments : (returning : Returning) → LeadsReads returning → LeadsBeside returning → (before : List Happening) (a : ArrayState)
    (words : Codewords) (kept : Content) (old new : List Happening) → IsServing returning before a words kept old → Ran (IsBesideArray a) old new
    → AtEveryMoment (StandsAt returning before a.member kept) old new
beside_moments returning laws besides before a words kept old new is ran =
    at_every_from {P = StandsAt returning before a.member kept} ran.more ran.is
    (λ c at calm image left. beside_stands returning laws besides before a words kept old new is ran c at calm image left)
