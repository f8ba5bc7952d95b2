-- The end of a command: all that is pending goes to the files.
use Rattle.std.specs.Prelude.{◌≡◌, ◌<◌, ℕ, List, Option, IsSome}
use Rattle.stair_rack.specs.declared.rack.Reply.{Reply}
use Rattle.stair_rack.specs.declared.rack.Reply.TheVariants as reply
use Rattle.stair_filerack.specs.Files.{IsPutOut}
use Rattle.stair_filerack.specs.Slot.{FileSlot, let_go}
use Rattle.stair_filerack.specs.FileRack.{FileRackState, slot_at}

-- All that was pending of a slot went to its file. Or the file failed: the slot was gone, keeps a reason and lets go of the file.
abbrev pub Finishes : {File : Type 0} → (File → Option (List ℕ)) → Reply →
    FileSlot File → FileSlot File → Type 0
Finishes held reply.Done old new =
    IsPutOut held old.file new.file × (new ≡ record old { file = new.file })
Finishes held reply.Gone old new =
    IsSome old.file × IsSome new.reason × (new ≡ let_go new.reason old)

-- what a rack is once that was done with each slot
pub record FinishesAll {File : Type 0} (held : File → Option (List ℕ)) (old new : FileRackState File) : Type 0 where
  pub access : new.access ≡ old.access
  pub bads : new.bads ≡ old.bads
  pub slots : (j : ℕ) → j < 32 → (answer : Reply) × Finishes held answer (slot_at old j) (slot_at new j)
