-- What calls that write nothing leave of an array.
use Rattle.std.specs.Prelude.{List}
use Rattle.stair_rack.specs.Answers.{Ran}
use Rattle.stair_rack.specs.History.{Happening}
use Rattle.stair_rack.proofs.MomentLemmas.{ran_before, ran_none}
use Rattle.stair_state.specs.Represents.{no_write}
use Rattle.stair_state.proofs.OutsideLemmas.{looks_stand}
use Rattle.stair_engine.specs.Stands.{ArrayStands}

pub looked_stands : (old new : List Happening) → Ran no_write old new → ArrayStands old new
looked_stands old new ran = record {
  runs = λ s before stands returned tolerated. looks_stand s before old new stands ran returned tolerated;
  moments = λ moment at s before stands returned tolerated. looks_stand s before old moment stands (ran_before ran at) returned tolerated;
}

pub still_stands : (h : List Happening) → ArrayStands h h
still_stands h = looked_stands h h (ran_none h)
