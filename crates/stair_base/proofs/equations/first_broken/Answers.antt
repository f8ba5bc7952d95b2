-- A broken equation tells that the stripe is no codeword, and where none is found it is one.
use Rattle.std.proofs.Common.{rules}
use Rattle.stair_base.proofs.EquationLaws.{codeword_is_found, not_codeword}
use Rattle.stair_base.proofs.equations.first_broken.Goals as goal

pub returns-in-Some-clause-codeword : goal.returns-in-Some-clause-codeword
returns-in-Some-clause-codeword c =
    (λ none. absurd (search rules), λ codeword. absurd (not_codeword _ _ _ c.in-Some.ensures.broken codeword))

pub returns-in-None-clause-codeword : goal.returns-in-None-clause-codeword
returns-in-None-clause-codeword c =
    codeword_is_found _ _ _ c.in-None.ensures.none c.first_broken_global.ensures.none c.first_broken_global.ensures.broken
