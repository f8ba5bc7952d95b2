-- Lives of an array: the steps of one session after the other, and what its reads give. The newest turn comes first.
use Rattle.std.specs.Prelude.{◌≡◌, ◌<◌, ◌≤◌, ◌+◌, ◌++◌, ◌&&◌, ℕ, Bool, true, false, List, [], ◌∷◌, length, All, None, Some, Ok, Err, slice_get, if◌then◌else◌, ⊤}
use Rattle.stair_member.specs.Seats.{Seats}
use Rattle.stair_state.specs.State.{Content, State, changed_if, without_seats}
use Rattle.stair_array.specs.Machine.{Answer, CutWithin, EpochsSpent, GivenBy, IsFinal, ReadBlock, Refusal, Row, Step, TooFew, WriteBlocks, change_of}

-- TURNS

pub data Turn : Type 0 where
  -- a step was taken, and answered so
  Took : (step : Step) → Answer step → Turn
  -- a crash came within the step
  WasCut : Step → Turn
  -- A session ended, by itself or by a crash. What the outside does before the next one is no turn of the array.
  Ended : Turn

-- one turn leads from the one state to the other
abbrev pub Turns : Turn → State → State → Type 0
Turns (Took step answer) old new = (begun : Seats) × Row step answer begun old new
Turns (WasCut step) old new = (begun : Seats) × CutWithin step begun old new
Turns Ended old new = new ≡ without_seats old

-- a life leads from the one state to the other
abbrev pub Lives : List Turn → State → State → Type 0
Lives [] old new = new ≡ old
Lives (turn ∷ life) old new = (mid : State) × Lives life old mid × Turns turn mid new

-- FATES

abbrev pub is_final : Refusal → Bool
is_final (TooFew whys) = true
is_final EpochsSpent = true
is_final _ = false

-- Each turn has a fate, which says of a change that was cut or refused for good whether it counts as made. It says nothing
-- of any other turn. One that isn't given is false.
abbrev pub fate : List Bool → Bool
fate [] = false
fate (made ∷ fates) = made

-- the fates of the turns before
abbrev pub earlier : List Bool → List Bool
earlier [] = []
earlier (made ∷ fates) = fates

-- What an array that held this holds after one turn more. A change that was acknowledged was made, whatever its fate; one
-- that was refused, but not for good, wasn't.
abbrev pub after_turn : Turn → Bool → Content → Content
after_turn (Took step (Ok x)) made held = changed_if (change_of step) held
after_turn (Took step (Err refusal)) made held =
    if made && is_final refusal then changed_if (change_of step) held else held
after_turn (WasCut step) made held = if made then changed_if (change_of step) held else held
after_turn Ended made held = held

-- What the array holds: the last write of each block, and the last frozen mark and label, of those that were acknowledged
-- and those that count as made.
abbrev pub last_made : List Turn → List Bool → Content → Content
last_made [] fates first = first
last_made (turn ∷ life) fates first =
    after_turn turn (fate fates) (last_made life (earlier fates) first)

-- where the turn is a read, it gives what the array holds
abbrev pub ReadsLast : Turn → Content → Type 0
ReadsLast (Took (ReadBlock b) (Ok bytes)) held = bytes ≡ held.blocks b
ReadsLast _ held = ⊤

-- each read gives its block's last write
abbrev pub EachReadsLast : List Turn → List Bool → Content → Type 0
EachReadsLast [] fates first = ⊤
EachReadsLast (turn ∷ life) fates first =
    ReadsLast turn (last_made life (earlier fates) first)
    × EachReadsLast life (earlier fates) first

-- WRITES OF ONE BLOCK

-- the step is a write of this block, or of more that this one is among
abbrev pub IsWriteOf : ℕ → Step → Type 0
IsWriteOf b (WriteBlocks first contents) = (first ≤ b) × (b < first + length contents)
IsWriteOf b _ = ⊥

-- The turn wrote this block, or maybe: the write was acknowledged, cut, or refused for good. Refused otherwise it changed
-- nothing.
abbrev pub MayWrite : ℕ → Turn → Type 0
MayWrite b (Took step (Ok x)) = IsWriteOf b step
MayWrite b (Took step (Err refusal)) = IsWriteOf b step × IsFinal refusal
MayWrite b (WasCut step) = IsWriteOf b step
MayWrite b Ended = ⊥

-- no turn wrote this block
abbrev pub NoneWrites : ℕ → List Turn → Type 0
NoneWrites b life = All (λ turn. ¬ MayWrite b turn) life

-- a read of this block, which gave these bytes
abbrev pub read_of : ℕ → List ℕ → Turn
read_of b bytes = Took (ReadBlock b) (Ok bytes)

-- a write of blocks from this one on, which was acknowledged
abbrev pub write_of : ℕ → List (List ℕ) → Turn
write_of first contents = Took (WriteBlocks first contents) (Ok tt)

-- LAWS

-- In a life that begins with no doubt one list of fates, given once for all, explains every read. So each change that was
-- cut was settled once.
abbrev pub ReadsAreExplained : Type 0
ReadsAreExplained = (s new : State) (life : List Turn) → s.in_doubt ≡ None → Lives life s new
    → (fates : List Bool) × EachReadsLast life fates s.content

-- Where it ends with no doubt either, one list explains every read and what the array then holds, its frozen mark and its
-- label too.
abbrev pub ContentIsExplained : Type 0
ContentIsExplained = (s new : State) (life : List Turn) → s.in_doubt ≡ None → Lives life s new
    → new.in_doubt ≡ None
    → (fates : List Bool) × EachReadsLast life fates s.content
    × (new.content ≡ last_made life fates s.content)

-- a change that was acknowledged counts as made, whatever the fates
abbrev pub AcknowledgedIsMade : Type 0
AcknowledgedIsMade = (step : Step) (x : GivenBy step) (life : List Turn) (fates : List Bool)
    (first : Content)
    → last_made (Took step (Ok x) ∷ life) fates first
    ≡ changed_if (change_of step) (last_made life (earlier fates) first)

-- A block that no turn before the read wrote reads as it did at first.
abbrev pub UnwrittenStays : Type 0
UnwrittenStays = (s new : State) (before after : List Turn) (b : ℕ) (bytes : List ℕ)
    → s.in_doubt ≡ None → Lives (after ++ read_of b bytes ∷ before) s new → NoneWrites b before
    → bytes ≡ s.content.blocks b

-- The last write of a block was acknowledged, and no other of it was cut or refused for good since: then each read gives
-- what was written, after any crashes, sessions and openings.
abbrev pub AcknowledgedIsRead : Type 0
AcknowledgedIsRead = (s new : State) (before between after : List Turn) (first k : ℕ)
    (contents : List (List ℕ)) (written bytes : List ℕ)
    → s.in_doubt ≡ None
    → Lives (after ++ read_of (first + k) bytes ∷ (between ++ write_of first contents ∷ before))
    s new
    → slice_get contents k ≡ Some written → NoneWrites (first + k) between → bytes ≡ written

-- A doubt is settled once: two reads of a block give the same, where no turn between them wrote it, whatever crashes,
-- sessions and openings there are.
abbrev pub ReadsAgree : Type 0
ReadsAgree = (s new : State) (before between after : List Turn) (b : ℕ) (bytes again : List ℕ)
    → s.in_doubt ≡ None
    → Lives (after ++ read_of b again ∷ (between ++ read_of b bytes ∷ before)) s new
    → NoneWrites b between → again ≡ bytes
