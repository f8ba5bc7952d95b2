-- Redos of five devices and the gates that are open with them; and what a session knows of such an array.
use Rattle.std.specs.Prelude.{ℕ, true, false, [], ◌∷◌, replicate}
use Rattle.stair_model.specs.Slots.{Slots, no_slots}
use Rattle.stair_rack.specs.Sector.{Good, Torn}
use Rattle.stair_super.specs.declared.configuration.Configuration.{Configuration}
use Rattle.stair_super.specs.declared.mark.Mark.TheVariants.{Down, Live}
use Rattle.stair_member.specs.Membership.{IsMembership, Membership, member_of}
use Rattle.stair_member.specs.declared.why.Why.{Why}
use Rattle.stair_member.specs.declared.why.Why.TheVariants.{Gone, Here}
use Rattle.stair_journal.specs.Gate.{IsOpenWith, ReadsClosed, closed_gate, open_gate}
use Rattle.stair_journal.specs.Redo.{IsRedo}
use Rattle.stair_journal.specs.declared.redo.Redo.{Redo}
use Rattle.stair_reinsert.specs.Misled.{five, naming}
use Rattle.stair_reinsert_examples.specs.Refused.{whole_redo}

-- REDOS AND GATES

-- a redo of this stripe, with the cells of its one row in these slots
abbrev pub redo_of : ℕ → Slots → Redo
redo_of stripe slots = record {
  stripe = stripe;
  cells = record { rows = slots ∷ replicate 31 no_slots };
}

abbrev pub all_five : Slots
all_five = record { marks = true ∷ true ∷ true ∷ true ∷ true ∷ replicate 27 false }

abbrev pub first_of_five : Slots
first_of_five = record { marks = true ∷ replicate 31 false }

-- A redo is of a stripe that the array has, and of one cell at least.
pub record ExamplesOfIsRedo : Type 0 where
  pub holds : IsRedo five (redo_of 0 all_five)
  pub fails : ¬ IsRedo five (redo_of 1 all_five)
  pub empty : ¬ IsRedo five (redo_of 0 no_slots)

-- A gate is open with the redo whose bytes it has, and with no other. One that is closed, or whose write was cut, reads as closed.
pub record ExamplesOfGate : Type 0 where
  pub holds : IsOpenWith five (Good (open_gate five whole_redo)) whole_redo
  pub fails : ReadsClosed five (Good closed_gate)
  pub cut : ReadsClosed five Torn
  pub other : ¬ IsOpenWith five (Good (open_gate five whole_redo)) (redo_of 0 first_of_five)

-- MEMBERSHIPS

-- epoch 2 drops slot 4
abbrev pub slot_dropped : Configuration
slot_dropped = naming 2 (Live ∷ Live ∷ Live ∷ Live ∷ Down ∷ []) (1 ∷ 1 ∷ 1 ∷ 1 ∷ 0 ∷ [])

-- a session knows this epoch, has seen this draw, and has this reason for slot 4
abbrev pub knowing : ℕ → Why → Membership
knowing drawn why =
    member_of slot_dropped drawn (Here ∷ Here ∷ Here ∷ Here ∷ why ∷ replicate 27 Here) (replicate 32 0)

-- A slot that takes part is marked live, and the epoch was drawn.
pub record ExamplesOfMembership : Type 0 where
  pub holds : IsMembership (knowing 2 Gone)
  pub fails : ¬ IsMembership (knowing 2 Here)
  pub undrawn : ¬ IsMembership (knowing 1 Gone)
