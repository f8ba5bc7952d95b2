-- The text of `show`.
use Rattle.std.specs.Prelude.{ℕ, Bool, true, false, zero, suc, List, [], ◌∷◌, ◌++◌, codes, flat_map}
use Rattle.std.specs.Fmt.{decimal}
use Rattle.hex.specs.Hex.{encode_lower}
use Rattle.stair_model.specs.Geometry.{Geometry, block_count}
use Rattle.stair_super.specs.Superblock.{joined_in, mark_in}
use Rattle.stair_super.specs.declared.mark.Mark.{Mark}
use Rattle.stair_super.specs.declared.mark.Mark.TheVariants as mark
use Rattle.stair_member.specs.Membership.{Membership, why_of}
use Rattle.stair_member.specs.Reasons.{words_of}
use Rattle.stair_member.specs.declared.why.Why.{Why}
use Rattle.stair_member.specs.declared.why.Why.TheVariants as why

-- the end of a line
abbrev pub newline : List ℕ
newline = 10 ∷ []

abbrev pub array_line : Geometry → List ℕ
array_line g = codes "array " ++ (encode_lower g.id ++ newline)

-- each number with a blank before it
abbrev pub spaced : List ℕ → List ℕ
spaced numbers = flat_map (λ x. codes " " ++ decimal x) numbers

abbrev pub geometry_line : Geometry → List ℕ
geometry_line g = codes "geometry n " ++ (decimal g.n ++ (codes " m " ++ (decimal g.m
    ++ (codes " r " ++ (decimal g.r ++ (codes " e" ++ (spaced g.e
    ++ (codes " stripes " ++ (decimal g.stripes ++ (codes " blocks " ++ (decimal (block_count g)
    ++ newline)))))))))))

abbrev pub epoch_line : ℕ → List ℕ
epoch_line epoch = codes "epoch " ++ (decimal epoch ++ newline)

-- only where there is a label
abbrev pub label_line : List ℕ → List ℕ
label_line [] = []
label_line (x ∷ xs) = codes "label " ++ ((x ∷ xs) ++ newline)

abbrev pub frozen_line : Bool → List ℕ
frozen_line false = []
frozen_line true = codes "frozen" ++ newline

-- a slot's mark, and the epoch of its admission
abbrev pub seat_text : Mark → ℕ → List ℕ
seat_text mark.Live joined = codes " live " ++ decimal joined
seat_text mark.Rebuilding joined = codes " rebuilding " ++ decimal joined
seat_text mark.Down joined = codes " down"

-- the reason, where it isn't the one that the mark tells
abbrev pub reason_text : Mark → Why → List ℕ
reason_text mark.Live why.Here = []
reason_text mark.Live reason = codes " " ++ words_of reason
reason_text mark.Rebuilding why.Rebuilding = []
reason_text mark.Rebuilding reason = codes " " ++ words_of reason
reason_text mark.Down reason = []

abbrev pub slot_line : Membership → ℕ → List ℕ
slot_line m j = codes "slot " ++ (decimal j ++ (seat_text (mark_in m.array j) (joined_in m.array j)
    ++ (reason_text (mark_in m.array j) (why_of m j) ++ newline)))

-- of the first slots
abbrev pub slot_lines : Membership → ℕ → List ℕ
slot_lines m zero = []
slot_lines m (suc j) = slot_lines m j ++ slot_line m j

-- what the epoch names of the array
abbrev pub array_text : Membership → List ℕ
array_text m = array_line m.array.geometry ++ (geometry_line m.array.geometry
    ++ (epoch_line m.array.epoch ++ (label_line m.array.label ++ frozen_line m.array.frozen)))

abbrev pub show_text : Membership → List ℕ
show_text m = array_text m ++ slot_lines m m.array.geometry.n
