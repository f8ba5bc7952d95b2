use Rattle.std.proofs.Common.{◌≡◌, ◌+◌, ◌-◌, ◌*◌, ◌∙◌, ℕ, ap, arith, drop, sym, take}
use Rattle.std.proofs.lemmas.Bool.{false≢true}
use Rattle.stair_filerack.proofs.AheadLemmas.{gives_sector, held_below, payload_at, place_of, sector_at, verdict_on, verdicts_after}
use Rattle.stair_filerack.proofs.ahead.Ahead.give.Goals as goal

pub invariant_of-self : goal.invariant_of-self
invariant_of-self c =
    let s = c.self.inside in
    let below = held_below s.from s.passed c.args.sector s.bytes _ _ c.self.view_is c.self.told.0 c.requires in
    (omega (arith, below.1), omega (arith, below, c.self.invariant.1), verdicts_after s.sealed s.from s.passed c.args.sector s.bytes below.0 c.self.invariant.2)

pub invariant_of-self-2 : goal.invariant_of-self-2
invariant_of-self-2 c =
    let s = c.self.inside in
    let below = held_below s.from s.passed c.args.sector s.bytes _ _ c.self.view_is c.self.told.0 c.requires in
    (omega (arith, below.1), omega (arith, below, c.self.invariant.1), verdicts_after s.sealed s.from s.passed c.args.sector s.bytes below.0 c.self.invariant.2)

pub returns-then-not-self-place : goal.returns-then-not-self-place
returns-then-not-self-place c =
    let s = c.self.inside in
    let below = held_below s.from s.passed c.args.sector s.bytes _ _ c.self.view_is c.self.told.0 c.requires in
    let verdict = verdict_on s.sealed s.from s.passed c.args.sector s.bytes below.0 below.1 c.self.invariant.2 in (
      sector_at (place_of s.from s.passed c.args.sector) s.bytes,
      gives_sector s.from s.passed c.args.sector s.bytes _ _ c.self.view_is c.self.told.0 below.0 below.1,
      λ is. false≢true (sym c.if-not-self-place.true ∙ verdict.1 is),
    )

pub returns : goal.returns
returns c =
    let s = c.self.inside in
    let place = place_of s.from s.passed c.args.sector in
    let below = held_below s.from s.passed c.args.sector s.bytes _ _ c.self.view_is c.self.told.0 c.requires in
    let verdict = verdict_on s.sealed s.from s.passed c.args.sector s.bytes below.0 below.1 c.self.invariant.2 in
    let long : 544 * place + 512 - 544 * place ≡ 512 = omega arith in (
      sector_at place s.bytes,
      gives_sector s.from s.passed c.args.sector s.bytes _ _ c.self.view_is c.self.told.0 below.0 below.1,
      (
        verdict.0 c.if-not-self-place.false,
        c.copy_from_slice.ensures.after ∙ ap (λ (n : ℕ). take n (drop (544 * place) s.bytes)) long ∙ payload_at place s.bytes,
      ),
    )
