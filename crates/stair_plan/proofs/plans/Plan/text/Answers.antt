-- Each name and number, line by line.
use Rattle.std.proofs.Common.{◌≡◌, ℕ, List, ◌++◌, append_assoc}
use Rattle.std.specs.Prelude.{codes}
use Rattle.std.specs.Fmt.{decimal}
use Rattle.stair_watch.specs.Lines.{newline}
use Rattle.stair_plan.specs.PlanText.{encoder_name, fewest_of}
use Rattle.stair_plan.proofs.PlanLemmas.{one_fewest}
use Rattle.stair_plan.proofs.plans.Plan.text.Goals as goal

-- pieces that were appended one after the other, as they stand in three lines
whole : (end a a' b b' c c' d d' e e' f f' g g' h h' i i' : List ℕ)
    → ((((((((((a ++ a') ++ (b ++ b')) ++ ((end ++ c) ++ c')) ++ (d ++ d')) ++ (e ++ e')) ++ f) ++ f') ++ ((end ++ g) ++ g')) ++ (h ++ h'))
    ++ (i ++ i')) ++ end
    ≡ (a ++ (a' ++ (b ++ (b' ++ end))))
    ++ ((c ++ (c' ++ (d ++ (d' ++ (e ++ (e' ++ (f ++ (f' ++ end)))))))) ++ (g ++ (g' ++ (h ++ (h' ++ (i ++ (i' ++ end)))))))
whole end a a' b b' c c' d d' e e' f f' g g' h h' i i' = simp append_assoc

pub returns : goal.returns
returns c =
    let plan = c.args.self.now in
    rw (
      c.push-3.ensures.text,
      c.push_named-8.ensures.text,
      c.push_named-7.ensures.text,
      c.push_named-6.ensures.text,
      c.push-2.ensures.text,
      c.push.ensures.text,
      c.push_named-5.ensures.text,
      c.push_named-4.ensures.text,
      c.push_named-3.ensures.text,
      c.push_named-2.ensures.text,
      c.push_named.ensures.text,
      c.new-text.ensures.text,
      c.name_of.ensures,
      one_fewest plan.standard plan.up plan.down c.fewest.result c.fewest.ensures,
    )
    (whole newline (codes "blocks ") (decimal plan.blocks) (codes " of ") (decimal plan.cells) (codes "steps up ") (decimal plan.up)
    (codes " down ") (decimal plan.down) (codes " standard ") (decimal plan.standard) (codes " fewest ")
    (encoder_name (fewest_of plan.standard plan.up plan.down)) (codes "penalty least ") (decimal plan.least) (codes " greatest ")
    (decimal plan.greatest) (codes " sum ") (decimal plan.standard))
