-- What the maintenance commands do. They open an array, and scrub its stripes, replace one of its devices, rebuild its
-- slots, freeze it, thaw it or label it.
use Rattle.std.specs.Prelude.{◌+◌, ℕ, zero, suc, Bool, true, false, nat_lt, List, [], ◌∷◌, ◌++◌, codes}
use Rattle.std.specs.Fmt.{decimal}
use Rattle.stair_model.specs.Geometry.{Geometry}
use Rattle.stair_super.specs.declared.mark.Mark.{Mark}
use Rattle.stair_super.specs.declared.mark.Mark.TheVariants.{Live}
use Rattle.stair_array.specs.Machine.{LookAtSeats, ReplaceSlot, ScrubStripe, SetFrozen, SetLabel, Step}
use Rattle.stair_status.specs.declared.status.Status.TheVariants.{Done, Gone, OutOfRange}
use Rattle.stair_command.specs.Program.{Program, Over, Put, RebuildAll, take_step, opens_array}

-- SCRUBS

-- the line for these numbers of scrubbed stripes and of rewritten cells
abbrev pub scrubbed_line : (stripes cells : ℕ) → List ℕ
scrubbed_line stripes cells = codes "scrubbed " ++ (decimal stripes
    ++ (codes " stripes cells " ++ (decimal cells ++ 10 ∷ [])))

-- what is put out in the end
abbrev pub scrubbed : (stripes cells : ℕ) → Program
scrubbed stripes cells = Put (scrubbed_line stripes cells) (Over Done)

-- scrubs `left` stripes from `stripe` on, in ascending order, after `cells` rewritten cells
abbrev pub scrubs : Geometry → (stripe left cells : ℕ) → Program
scrubs g stripe zero cells = scrubbed stripe cells
scrubs g stripe (suc left) cells =
    take_step g.n (ScrubStripe stripe) (λ count. scrubs g (stripe + 1) left (cells + count))

abbrev pub scrub_program : Program
scrub_program = opens_array (λ g. scrubs g 0 g.stripes 0)

-- REBUILDS

-- the line for this number of steps, each of which wrote a chunk, ended a rebuild or dropped a slot
abbrev pub rebuilt_line : ℕ → List ℕ
rebuilt_line steps = codes "rebuild " ++ (decimal steps ++ (codes " steps" ++ 10 ∷ []))

abbrev pub rebuild_program : Program
rebuild_program =
    opens_array (λ g. RebuildAll g.n 0 (λ steps. Put (rebuilt_line steps) (Over Done)))

-- REPLACEMENTS

abbrev pub replaced_line : ℕ → List ℕ
replaced_line slot = codes "replaced " ++ (decimal slot ++ 10 ∷ [])

abbrev pub replaced : ℕ → Program
replaced slot = Put (replaced_line slot) (Over Done)

-- a slot that was rebuilt may be gone again in the end
abbrev pub if_live : ℕ → Mark → Program
if_live slot Live = replaced slot
if_live slot _ = Over (Gone slot)

-- admits the device in the slot, and rebuilds to its end whatever is being rebuilt
abbrev pub replaces : Geometry → ℕ → Program
replaces g slot = take_step g.n (ReplaceSlot slot) (λ done. RebuildAll g.n 0 (λ steps.
    take_step g.n LookAtSeats (λ seats. if_live slot (seats slot).mark)))

abbrev pub if_slot : Geometry → ℕ → Bool → Program → Program
if_slot g slot true program = program
if_slot g slot false program = Over (OutOfRange slot g.n)

abbrev pub replace_program : ℕ → Program
replace_program slot =
    opens_array (λ g. if_slot g slot (nat_lt slot g.n) (replaces g slot))

-- THE FROZEN MARK AND THE LABEL

-- one step, after which this line is put out
abbrev pub stamps : Step → List ℕ → Program
stamps step line = opens_array (λ g. take_step g.n step (λ done. Put line (Over Done)))

abbrev pub freeze_program : Program
freeze_program = stamps (SetFrozen true) (codes "frozen" ++ 10 ∷ [])

abbrev pub thaw_program : Program
thaw_program = stamps (SetFrozen false) (codes "thawed" ++ 10 ∷ [])

abbrev pub label_program : List ℕ → Program
label_program label = stamps (SetLabel label) (codes "labelled" ++ 10 ∷ [])
