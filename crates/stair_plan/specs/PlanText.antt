-- The text of a plan, which its numbers alone make.
use Rattle.std.specs.Prelude.{ℕ, List, ◌++◌, ◌&&◌, codes, if◌then◌else◌, nat_le}
use Rattle.std.specs.Fmt.{decimal}
use Rattle.stair_codec.specs.declared.choice.Encoder.{Encoder}
use Rattle.stair_codec.specs.declared.choice.Encoder.TheVariants.{Standard, Upstairs, Downstairs}
use Rattle.stair_plan.specs.declared.plans.Plan.{Plan}
use Rattle.stair_watch.specs.Lines.{newline}

-- the encoder with the fewest of these steps, and of several with them the first of upstairs, downstairs and standard
abbrev pub fewest_of : (standard up down : ℕ) → Encoder
fewest_of standard up down =
    if nat_le up down && nat_le up standard then Upstairs
    else (if nat_le down standard then Downstairs else Standard)

abbrev pub encoder_name : Encoder → List ℕ
encoder_name Upstairs = codes "up"
encoder_name Downstairs = codes "down"
encoder_name Standard = codes "standard"

-- three lines
abbrev pub blocks_line : Plan → List ℕ
blocks_line plan = codes "blocks " ++ (decimal plan.blocks
    ++ (codes " of " ++ (decimal plan.cells ++ newline)))

abbrev pub steps_line : Plan → List ℕ
steps_line plan = codes "steps up " ++ (decimal plan.up
    ++ (codes " down " ++ (decimal plan.down
    ++ (codes " standard " ++ (decimal plan.standard
    ++ (codes " fewest " ++ (encoder_name (fewest_of plan.standard plan.up plan.down) ++ newline)))))))

abbrev pub penalty_line : Plan → List ℕ
penalty_line plan = codes "penalty least " ++ (decimal plan.least
    ++ (codes " greatest " ++ (decimal plan.greatest
    ++ (codes " sum " ++ (decimal plan.standard ++ newline)))))

abbrev pub plan_text : Plan → List ℕ
plan_text plan = blocks_line plan ++ (steps_line plan ++ penalty_line plan)
