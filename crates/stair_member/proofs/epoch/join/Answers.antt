-- The slot was gone meanwhile, or wasn't.
use Rattle.std.proofs.Common.{◌∙◌, refl, sym, subst}
use Rattle.std.proofs.lemmas.Bool.{false≢true}
use Rattle.stair_model.specs.Slots.{Slots, HasSlot}
use Rattle.stair_member.proofs.epoch.join.Goals as goal

pub returns-then-has-clause-does : goal.returns-then-has-clause-does
returns-then-has-clause-does g c =
    let stands = c.in-Ok.ensures.does in record {
      establishes = stands.establishes;
      told = (refl, subst (λ (s : Slots). HasSlot s c.args.slot) (sym stands.gone_are) (c.has.ensures.member.0 c.if-has.true));
      fallen = tt;
    }

pub returns-else-has-clause-does : goal.returns-else-has-clause-does
returns-else-has-clause-does g c =
    let stands = c.in-Ok.ensures.does in record {
      establishes = stands.establishes;
      told = λ has.
          false≢true (sym c.if-has.false ∙ c.has.ensures.member.1 (subst (λ (s : Slots). HasSlot s c.args.slot) stands.gone_are has));
      fallen = c.fallen_since.ensures;
    }
