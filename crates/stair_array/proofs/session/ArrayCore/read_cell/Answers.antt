-- A live slot was asked for its cell.
use Rattle.std.proofs.Common.{◌≡◌, arith, refl, sym, ◌∙◌, rules}
use Rattle.stair_member.specs.declared.why.Why.TheVariants.{Here}
use Rattle.stair_array.proofs.ReadingLemmas.{was_bad, was_gone, was_read}
use Rattle.stair_array.proofs.session.ArrayCore.read_cell.Goals as goal

pub why-requires : goal.why-requires
why-requires g c = omega (arith, c.geometry.ensures.rules.array.limits.devices.1, c.requires.slot)

pub returns-in-Good-clause-does : goal.returns-in-Good-clause-does
returns-in-Good-clause-does g c =
    let live : c.why.result ≡ Here = search rules in
    was_read c.args.self.now.member _ _ _ _ (rw c.geometry.ensures.value at c.cell_sector-sector.ensures) c.requires.slot
    (sym c.why.ensures.value ∙ live) _ _ _ _ _ _ _ c.in-Good.ensures.counts _ c.in-Good.ensures.does _ refl
    (λ is. c.in-Good.ensures.good is refl)

pub returns-in-Bad-clause-does : goal.returns-in-Bad-clause-does
returns-in-Bad-clause-does g c =
    let live : c.why.result ≡ Here = search rules in (
      was_bad c.args.self.now.member _ _ _ _ (rw c.geometry.ensures.value at c.cell_sector-sector.ensures) c.requires.slot
          (sym c.why.ensures.value ∙ live) _ _ _ _ _ _ _ c.in-Bad.ensures.counts _ c.in-Bad.ensures.does refl c.in-Bad.ensures.began
          (c.in-Bad.ensures.bad refl),
      c.in-Bad.ensures.unread (λ same. cc),
    )

pub returns-in-Gone-clause-does : goal.returns-in-Gone-clause-does
returns-in-Gone-clause-does g c =
    let live : c.why.result ≡ Here = search rules in (
      was_gone c.args.self.now.member _ _ _ _ (rw c.geometry.ensures.value at c.cell_sector-sector.ensures) c.requires.slot
          (sym c.why.ensures.value ∙ live) _ _ _ _ _ _ _ c.in-Gone.ensures.counts _ c.in-Gone.ensures.does refl
          (c.in-Gone.ensures.gone refl),
      c.in-Gone.ensures.unread (λ same. cc),
    )
