-- A source over bytes in memory, as contracts see it.
use Rattle.std.specs.Prelude.{◌≡◌, ◌≢◌, ℕ, ◌-◌, ◌<◌, ◌≤◌, Bool, true, List, [], length, drop, min, Option, None, Some}
use Rattle.std.specs.Option.{option_map}
use Rattle.stair_rack.specs.declared.source.Taken.{Taken}
use Rattle.stair_rack.specs.declared.source.Taken.TheVariants.{Bytes, End, Failed}
use Rattle.stair_rack.specs.Count.{one_more}

-- the bytes that are left, how many bytes come before each take fails (None: no take fails),
-- the most bytes of one answer, the count of faults, and whether it has answered End
pub record MemSourceState : Type 0 where
  pub left : List ℕ
  pub fails_after : Option ℕ
  pub piece : ℕ
  pub faults : ℕ
  pub ended : Bool

-- how many of n bytes come before takes fail
abbrev pub count_before_fault : ℕ → Option ℕ → ℕ
count_before_fault n None = n
count_before_fault n (Some p) = min n p

-- which answer a take with this room gives: Bytes of as many as have room, are within a piece, and are
-- left before takes fail; End where none are left and takes don't fail; Failed where takes fail from here on
abbrev pub AnswersTake : MemSourceState → ℕ → Taken → Type 0
AnswersTake s room (Bytes k) = k ≡ min room (min s.piece
    (count_before_fault (length s.left) s.fails_after))
AnswersTake s room End = (s.left ≡ []) × (s.fails_after ≢ Some 0)
AnswersTake s room Failed = s.fails_after ≡ Some 0

-- the source after a take with this answer
abbrev pub after_take : MemSourceState → Taken → MemSourceState
after_take s (Bytes k) = record s {
  left = drop k s.left;
  fails_after = option_map (λ p. p - k) s.fails_after;
}
after_take s End = record s { ended = true }
after_take s Failed = record s { faults = one_more s.faults }

-- the fields of a memory source: `given` of the bytes are gone, and one that has ended has none left
-- and doesn't fail
pub record IsSoundMemSource (bytes : List ℕ) (given : ℕ) (fails_after : Option ℕ) (piece : ℕ)
    (ended : Bool) : Type 0 where
  pub given_within : given ≤ length bytes
  pub piece_not_zero : 0 < piece
  pub none_left : ended ≡ true → given ≡ length bytes
  pub no_fault : ended ≡ true → fails_after ≢ Some 0
