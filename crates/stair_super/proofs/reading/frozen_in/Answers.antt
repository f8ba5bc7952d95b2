use Rattle.std.proofs.Common.{ℕ, ap, ◌∙◌}
use Rattle.std.specs.Prelude.{nat_eq}
use Rattle.stair_super.proofs.Fields.{later_has, frozen_is, frozen_back}
use Rattle.stair_super.proofs.reading.frozen_in.Goals as goal

pub returns-in-Two-clause-read : goal.returns-in-Two-clause-read
returns-in-Two-clause-read c = λ s spells same.
    ap (λ (n : ℕ). nat_eq n 1) (frozen_is c.args.bytes.now s spells (later_has c.args.version spells.version c.in-Two.is same)) ∙ frozen_back s.array.frozen
