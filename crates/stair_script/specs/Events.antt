-- The lines of events, without their ends.
use Rattle.std.specs.Prelude.{◌≡◌, ◌<◌, ℕ, List, [], ◌∷◌, ◌++◌, codes}
use Rattle.std.specs.Fmt.{decimal}
use Rattle.std.specs.Int.{IsInRange}
use Rattle.stair_conf.specs.Words.{IsNumber}
use Rattle.stair_rack.specs.declared.watcher.Event.{Event}
use Rattle.stair_rack.specs.declared.watcher.Event.TheVariants.{Fenced, Repaired, Admitted, Promoted}
use Rattle.stair_script.specs.Line.{SpellsNumber, spaced}

-- the bounds of slots, stripes and cells
abbrev pub IsEvent : Event → Type 0
IsEvent (Fenced slot) = slot < 32
IsEvent (Repaired stripe cells) = (stripe < 4294967295) × IsInRange 1 1024 cells
IsEvent (Admitted slot) = slot < 32
IsEvent (Promoted slot) = slot < 32

-- the words of a repair, with the numbers of the stripe and of the cells
pub record SpellsRepair (bytes : List ℕ) (stripe cells : ℕ) : Type 0 where
  pub stripe_word : List ℕ
  pub cells_word : List ℕ
  pub spelled : bytes ≡ spaced (codes "repaired" ∷ codes "stripe" ∷ stripe_word
      ∷ codes "cells" ∷ cells_word ∷ [])
  pub stripe_number : IsNumber stripe_word stripe
  pub cells_number : IsNumber cells_word cells

-- the bytes are the words of the event
abbrev pub SpellsWords : List ℕ → Event → Type 0
SpellsWords bytes (Fenced slot) = SpellsNumber (codes "fenced") bytes slot
SpellsWords bytes (Repaired stripe cells) = SpellsRepair bytes stripe cells
SpellsWords bytes (Admitted slot) = SpellsNumber (codes "admitted") bytes slot
SpellsWords bytes (Promoted slot) = SpellsNumber (codes "promoted") bytes slot

-- and its numbers are within the bounds
pub record SpellsEvent (bytes : List ℕ) (said : Event) : Type 0 where
  pub words : SpellsWords bytes said
  pub range : IsEvent said

-- the bytes as which an event is printed
abbrev pub event_text : Event → List ℕ
event_text (Fenced slot) = codes "fenced " ++ decimal slot
event_text (Repaired stripe cells) = codes "repaired stripe " ++ (decimal stripe
    ++ (codes " cells " ++ decimal cells))
event_text (Admitted slot) = codes "admitted " ++ decimal slot
event_text (Promoted slot) = codes "promoted " ++ decimal slot
