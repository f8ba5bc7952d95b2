-- The state of an array: what it holds, which change of it is in doubt, and the seats of its slots.
use Rattle.std.specs.Prelude.{ℕ, Bool, false, List, [], Option, None, Some, nat_lt, if◌then◌else◌}
use Rattle.stair_model.specs.Geometry.{Geometry}
use Rattle.stair_super.specs.declared.mark.Mark.TheVariants.{Live, Down}
use Rattle.stair_member.specs.Seats.{Seats}
use Rattle.stair_state.specs.Blocks.{Blocks, with_blocks, zero_blocks}

pub record Content : Type 0 where
  pub blocks : Blocks
  -- no block may be written
  pub frozen : Bool
  pub label : List ℕ

-- what a step may change of it
pub data Change : Type 0 where
  -- blocks of one stripe, from this one on
  BlocksAre : ℕ → List (List ℕ) → Change
  FrozenIs : Bool → Change
  LabelIs : List ℕ → Change

abbrev pub changed : Change → Content → Content
changed (BlocksAre first contents) c = record c { blocks = with_blocks c.blocks first contents }
changed (FrozenIs frozen) c = record c { frozen = frozen }
changed (LabelIs label) c = record c { label = label }

abbrev pub changed_if : Option Change → Content → Content
changed_if None c = c
changed_if (Some change) c = changed change c

pub record State : Type 0 where
  pub geometry : Geometry
  pub content : Content
  -- a change that a cut step may have made or not
  pub in_doubt : Option Change
  -- each slot's mark and the epoch of its admission; None until a recovery has settled them
  pub seats : Option Seats

-- what the array holds where the change in doubt was made; the same where none is in doubt
abbrev pub new_content : State → Content
new_content s = changed_if s.in_doubt s.content

-- the state without a word on marks
abbrev pub without_seats : State → State
without_seats s = record s { seats = None }

-- all slots of a new array are live, since epoch 1
abbrev pub first_seats : Geometry → Seats
first_seats g j = if nat_lt j g.n then record { mark = Live; joined = 1 }
    else record { mark = Down; joined = 0 }

-- a new array holds zeros, isn't frozen, and has no label
abbrev pub first_content : Content
first_content = record { blocks = zero_blocks; frozen = false; label = [] }

abbrev pub created_state : Geometry → State
created_state g = record {
  geometry = g;
  content = first_content;
  in_doubt = None;
  seats = Some (first_seats g);
}
