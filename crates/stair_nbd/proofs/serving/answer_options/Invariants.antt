-- The options so far were answered.
use Rattle.std.proofs.Common.{◌-◌}
use Rattle.stair_command.specs.Outside.{views}
use Rattle.stair_nbd.specs.Client.{SESSION_LIMIT, options}
use Rattle.stair_nbd.proofs.OptionLaws.{AnsweredSoFar}
use Rattle.stair_nbd.proofs.serving.answer_options.Given as goal

abbrev pub invariant-loop-header : goal.invariant-loop-header
invariant-loop-header g l =
    AnsweredSoFar (views g.S.Source g.K.Sink) l.fn.export
    (λ rest. options l.fn.export rest SESSION_LIMIT 2 4) l.fn.input l.fn.output l.place.number l.place.taken l.input l.output

abbrev pub decreases-loop-header : goal.decreases-loop-header
decreases-loop-header g l = SESSION_LIMIT - l.place.taken
