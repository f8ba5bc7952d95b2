-- Each refusal names the limit whose test failed, after those that passed.
use Rattle.std.proofs.Common.{rules, arith}
use Rattle.stair_model.specs.Geometry.IsFirstBrokenUnder.{devices, parities, majority, covered_chunks, rows, covered_sectors, blocks, size}
use Rattle.stair_base.proofs.geometry.Geometry.large.Goals as goal
use Rattle.stair_base.proofs.geometry.Geometry.large.Goals.{then-stripes-lt1-via-then-stripes-lt1 as few, then-stripes-lt1-via-else-stripes-lt1+then-stripes-gt4294967294 as many, then-stripes-lt1-via-else-stripes-lt1+else-stripes-gt4294967294+then-n-r-gt4294967295 as large}

pub returns-then-n-lt3-clause-err : goal.returns-then-n-lt3-clause-err
returns-then-n-lt3-clause-err c = devices (λ h. omega arith)

pub returns-then-m-lt1-clause-err : goal.returns-then-m-lt1-clause-err
returns-then-m-lt1-clause-err c = parities (omega arith) (λ h. omega arith)

pub returns-then-m-n-clause-err : goal.returns-then-m-n-clause-err
returns-then-m-n-clause-err c = majority (omega arith) (omega arith) (λ h. omega arith)

pub returns-then-is_empty-clause-err : goal.returns-then-is_empty-clause-err
returns-then-is_empty-clause-err c =
    covered_chunks (omega arith) (omega arith) (omega arith) (λ h. search rules)

pub returns-then-r-lt1-clause-err : goal.returns-then-r-lt1-clause-err
returns-then-r-lt1-clause-err c =
    rows (omega arith) (omega arith) (omega arith) (search rules) (λ h. omega arith)

pub returns-then-not-is_coverage_vector-clause-err :
    goal.returns-then-not-is_coverage_vector-clause-err
returns-then-not-is_coverage_vector-clause-err c =
    covered_sectors (omega arith) (omega arith) (omega arith) (search rules) (omega arith) (search rules)

pub returns-then-r-n-clause-err : goal.returns-then-r-n-clause-err
returns-then-r-n-clause-err c =
    blocks (omega arith) (omega arith) (omega arith) (search rules) (omega arith) (search rules) (search rules)

pub returns-then-stripes-lt1-clause-err : goal.returns-then-stripes-lt1-clause-err
returns-then-stripes-lt1-clause-err c =
    size (omega arith) (omega arith) (omega arith) (search rules) (omega arith) (search rules) (search rules)
    (λ h. elim c.then-stripes-lt1.branch [ few w ↦ omega arith | many w ↦ omega arith | large w ↦ omega arith ])
