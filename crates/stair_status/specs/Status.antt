-- The number and the line of each status.
use Rattle.std.specs.Prelude.{ℕ, zero, suc, List, [], ◌∷◌, ◌++◌, codes, take, flat_map, slice_index_or}
use Rattle.std.specs.Fmt.{decimal}
use Rattle.hex.specs.Hex.{encode_lower}
use Rattle.stair_super.specs.declared.mark.Mark.{Mark}
use Rattle.stair_super.specs.declared.mark.Mark.TheVariants as mark
use Rattle.stair_member.specs.Reasons.{words_of as words_of_reason}
use Rattle.stair_member.specs.declared.why.Why.{Why}
use Rattle.stair_member.specs.declared.why.Why.TheVariants as why
use Rattle.stair_conf.specs.Config.{name_of}
use Rattle.stair_base.specs.declared.equations.Broken.{Broken}
use Rattle.stair_base.specs.declared.equations.Broken.TheVariants.{Row, Global}
use Rattle.stair_status.specs.declared.status.Status.{Status}
use Rattle.stair_status.specs.declared.status.Status.TheVariants.{Done, NotCodeword, NoCodeword, Usage, Limit, Key, NotToml, Input, InputFault, OutputFault, NoArray, TwoArrays, TooFew, Lost, OutOfRange, AlreadyArray, SmallDevice, SlotBusy, Gone, EpochsSpent, OutOfMemory, BadLine, JournalLost, Frozen, Halted, BadMessage, NoTable, TableThere, NoVolume, NameTaken, TableFull, NoRoom}

abbrev pub code_of : Status → ℕ
code_of Done = 0
code_of (NotCodeword broken) = 1
code_of NoCodeword = 1
code_of Usage = 2
code_of (Limit k) = 3
code_of (Key key) = 3
code_of NotToml = 3
code_of (Input needed took) = 4
code_of InputFault = 5
code_of OutputFault = 6
code_of NoArray = 7
code_of (TwoArrays first second) = 8
code_of (TooFew whys) = 9
code_of (Lost stripe counts n) = 10
code_of (OutOfRange asked limit) = 11
code_of (AlreadyArray slot) = 12
code_of (SmallDevice slot has needs) = 13
code_of (SlotBusy slot was) = 14
code_of (Gone slot) = 15
code_of EpochsSpent = 16
code_of OutOfMemory = 17
code_of (BadLine number) = 18
code_of (JournalLost sector) = 19
code_of Frozen = 20
code_of (Halted number) = 21
code_of (BadMessage number) = 22
code_of NoTable = 23
code_of TableThere = 24
code_of NoVolume = 25
code_of NameTaken = 26
code_of TableFull = 27
code_of (NoRoom blocks) = 28

abbrev pub equation_line : Broken → List ℕ
equation_line (Row i k p) = codes "row " ++ decimal i ++ codes " parity " ++ decimal k
    ++ codes " byte " ++ decimal p
equation_line (Global l h p) = codes "global " ++ decimal l ++ codes " " ++ decimal h
    ++ codes " byte " ++ decimal p

-- a blank and a number, for each of the first n
abbrev pub counts_text : List ℕ → ℕ → List ℕ
counts_text counts n = flat_map (λ count. codes " " ++ decimal count) (take n counts)

-- a slot that isn't live, and why
abbrev pub slot_reason : ℕ → Why → List ℕ
slot_reason j reason = decimal j ++ codes " " ++ words_of_reason reason

-- one more of a list, of which each but the first has a comma and a blank before it
abbrev pub listed : List ℕ → List ℕ → List ℕ
listed [] text = text
listed (x ∷ xs) text = (x ∷ xs) ++ codes ", " ++ text

abbrev pub with_reason : List ℕ → ℕ → Why → List ℕ
with_reason before j why.Here = before
with_reason before j reason = listed before (slot_reason j reason)

-- of the first slots each that isn't live, and why
abbrev pub reasons_text : List Why → ℕ → List ℕ
reasons_text whys zero = []
reasons_text whys (suc j) =
    with_reason (reasons_text whys j) j (slice_index_or whys j why.Here)

-- the word for a mark
abbrev pub words_of : Mark → List ℕ
words_of mark.Live = codes "live"
words_of mark.Rebuilding = codes "rebuilding"
words_of mark.Down = codes "down"

-- no line where all is well
abbrev pub line_of : Status → List ℕ
line_of Done = []
line_of (NotCodeword broken) = codes "not a codeword: " ++ equation_line broken
line_of NoCodeword = codes "no codeword holds these cells"
line_of Usage = codes "usage: stair FOLDER check|stripe|restore|create|show|read|write|scrub|replace|rebuild|run|exercise|freeze|thaw|label|guard|report|serve|vinit|vmake|vdrop|vlist|vread|vwrite|plan"
line_of (Limit k) = codes "geometry: limit " ++ decimal k
line_of (Key key) = codes "geometry: key " ++ name_of key
line_of NotToml = codes "geometry: not TOML"
line_of (Input needed took) = codes "input: needed " ++ decimal needed ++ codes ", took "
    ++ decimal took
line_of InputFault = codes "input failed"
line_of OutputFault = codes "output failed"
line_of NoArray = codes "no array"
line_of (TwoArrays first second) = codes "two arrays: " ++ encode_lower first ++ codes " "
    ++ encode_lower second
line_of (TooFew whys) = codes "too few devices: " ++ reasons_text whys 32
line_of (Lost stripe counts n) = codes "lost: stripe " ++ decimal stripe ++ codes " counts"
    ++ counts_text counts n
line_of (OutOfRange asked limit) = codes "out of range: " ++ decimal asked ++ codes " of "
    ++ decimal limit
line_of (AlreadyArray slot) = codes "array already: slot " ++ decimal slot
line_of (SmallDevice slot has needs) = codes "small device: slot " ++ decimal slot ++ codes " has "
    ++ decimal has ++ codes " of " ++ decimal needs ++ codes " sectors"
line_of (SlotBusy slot was) = codes "slot busy: slot " ++ decimal slot ++ codes " is "
    ++ words_of was
line_of (Gone slot) = codes "gone: slot " ++ decimal slot
line_of EpochsSpent = codes "epochs spent"
line_of OutOfMemory = codes "out of memory"
line_of (BadLine number) = codes "bad line " ++ decimal number
line_of (JournalLost sector) = codes "journal lost: sector " ++ decimal sector
line_of Frozen = codes "frozen"
line_of (Halted number) = codes "halted after line " ++ decimal number
line_of (BadMessage number) = codes "bad message " ++ decimal number
line_of NoTable = codes "no volume table"
line_of TableThere = codes "volume table already"
line_of NoVolume = codes "no such volume"
line_of NameTaken = codes "name taken"
line_of TableFull = codes "table full"
line_of (NoRoom blocks) = codes "no room: " ++ decimal blocks ++ codes " blocks"
