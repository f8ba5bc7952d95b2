-- One entry more; and all of them.
use Rattle.std.proofs.Common.{◌≡◌, ℕ, ◌+◌, ◌<◌, ◌≤◌, List, ◌++◌, length, get_or, take, sym, ap, ap₂, ◌∙◌, arith, append-nil}
use Rattle.std.proofs.lemmas.List.{flat_map_more, take_all, take_more}
use Rattle.std.specs.Prelude.{codes}
use Rattle.std.specs.Fmt.{decimal}
use Rattle.stair_engine.specs.Show.{spaced}
use Rattle.stair_engine.proofs.show.push_coverage.Goals as goal

spaced_more : (before e : List ℕ) (l : ℕ) → l < length e
    → (before ++ spaced (take l e)) ++ (codes " " ++ decimal (get_or e l 0)) ≡ before ++ spaced (take (l + 1) e)
spaced_more before e l below =
    flat_map_more (λ (x : ℕ). codes " " ++ decimal x) before (take l e) (get_or e l 0)
    ∙ ap (λ (xs : List ℕ). before ++ spaced xs) (sym (take_more e l 0 below))

pub loop-l-init : goal.loop-l-init
loop-l-init c = record { text = sym (append-nil c.args.line.now); short = omega arith }

pub push_named-requires : goal.push_named-requires
push_named-requires c =
    let limits = c.classes-l-end.ensures.limits in
    omega (arith, c.loop-l-test.true, c.classes-l-end.ensures.value, limits.covered_chunks.1, limits.devices.1, limits.parities)

pub loop-l-preserved : goal.loop-l-preserved
loop-l-preserved c =
    let e = c.args.geometry.now.e in
    let l = c.loop-l.l in
    let below : l < length e = omega (arith, c.loop-l-test.true, c.classes-l-end.ensures.value) in
    let entry : c.from.result ≡ get_or e l 0 = c.from.ensures ∙ c.coverage.ensures.value in
    record {
      text =
          c.push_named.ensures.text
          ∙ ap₂ (λ (front : List ℕ) (n : ℕ). front ++ (codes " " ++ decimal n)) c.loop-l.invariant.text entry
          ∙ spaced_more c.args.line.now e l below;
      short = omega arith;
    }

pub returns-clause-text : goal.returns-clause-text
returns-clause-text c =
    let e = c.args.geometry.now.e in
    let all : length e ≤ c.loop-l.l = omega (arith, c.loop-l-test.false, c.classes-l-end.ensures.value) in
    c.loop-l.invariant.text ∙ ap (λ (xs : List ℕ). c.args.line.now ++ spaced xs) (take_all c.loop-l.l e all)

pub returns-clause-short : goal.returns-clause-short
returns-clause-short c =
    let limits = c.classes-l-end.ensures.limits in
    omega (arith, c.loop-l-test.false, c.classes-l-end.ensures.value, limits.covered_chunks.1, limits.devices.1, limits.parities)
