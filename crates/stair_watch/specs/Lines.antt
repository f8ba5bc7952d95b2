-- What is printed for an event.
use Rattle.std.specs.Prelude.{◌<◌, ◌≤◌, ℕ, List, [], ◌∷◌, ◌++◌, Option, codes, length, take}
use Rattle.std.specs.Fmt.{decimal}
use Rattle.std.specs.Io.KnownBytes.{Appends}
use Rattle.stair_rack.specs.Count.{Rose}
use Rattle.stair_rack.specs.declared.watcher.Event.{Event}
use Rattle.stair_rack.specs.declared.watcher.Event.TheVariants.{Fenced, Repaired, Admitted, Promoted}

-- the end of a line
abbrev pub newline : List ℕ
newline = 10 ∷ []

abbrev pub event_line : Event → List ℕ
event_line (Fenced slot) = codes "fenced " ++ (decimal slot ++ newline)
event_line (Repaired stripe cells) = codes "repaired stripe " ++ (decimal stripe
    ++ (codes " cells " ++ (decimal cells ++ newline)))
event_line (Admitted slot) = codes "admitted " ++ (decimal slot ++ newline)
event_line (Promoted slot) = codes "promoted " ++ (decimal slot ++ newline)

-- A sink was given these bytes, and took so many of the first: told bytes grow by these. Where it didn't take all a fault was
-- counted.
pub record PutsFront {K : Type 0} (held : K → Option (List ℕ)) (faults : K → ℕ) (count : ℕ)
    (bytes : List ℕ) (old new : K) : Type 0 where
  pub within : count ≤ length bytes
  pub grows : Appends (held old) (held new) (take count bytes)
  pub rises : faults old ≤ faults new
  pub fault : count < length bytes → Rose (faults old) (faults new)

-- all of them, or a part of them and then a fault
abbrev pub Prints : {K : Type 0} → (K → Option (List ℕ)) → (K → ℕ) → List ℕ → K → K → Type 0
Prints held faults bytes old new = (count : ℕ) × PutsFront held faults count bytes old new
