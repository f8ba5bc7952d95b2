use Rattle.std.proofs.Common.{map, take}
use Rattle.stair_conf.specs.Words.{AreNumbers}
use Rattle.stair_conf.proofs.matches.read_numbers.Given as goal

abbrev pub invariant-loop-word : goal.invariant-loop-word
invariant-loop-word l = AreNumbers (map (λ word. word.now) (take l.word-index l.words)) l.numbers.items
