-- A device in slot 0, two sectors of which are written: what a crash may leave, and what it may not.
use Rattle.std.specs.Prelude.{ℕ, List, [], ◌∷◌, ◌==◌, Some, if◌then◌else◌, replicate}
use Rattle.stair_model.specs.Stripe.{SECTOR}
use Rattle.stair_rack.specs.Crash.{CrashMayLeave}
use Rattle.stair_rack.specs.History.{Attach, Called, Happening, Made, Sync, Write, empty_slot}
use Rattle.stair_rack.specs.Media.{Image}
use Rattle.stair_rack.specs.Sector.{Cell, Damaged, Good, Torn}
use Rattle.stair_rack.specs.declared.rack.Reply.TheVariants.{Done}

-- the bytes of a sector, before and after it is written
abbrev pub old_bytes : List ℕ
old_bytes = replicate SECTOR 0

abbrev pub new_bytes : List ℕ
new_bytes = replicate SECTOR 1

-- slot 0 holds a device of two sectors with these cells, and no other slot holds one
abbrev pub two_sectors : Cell → Cell → Image
two_sectors first second j = if j == 0
    then record {
      size = Some 2;
      cell = λ k. if k == 0 then first else (if k == 1 then second else Damaged);
      removed = [];
    }
    else empty_slot

-- sector 0 is written
abbrev pub first_write : List Happening
first_write = Called 0 (Write 0 new_bytes Done) ∷ Called 0 (Attach Done)
    ∷ Made (two_sectors (Good old_bytes) (Good old_bytes)) ∷ []

-- and then sector 1, at once
abbrev pub at_once : List Happening
at_once = Called 0 (Write 1 new_bytes Done) ∷ first_write

-- or after a sync
abbrev pub synced_between : List Happening
synced_between = Called 0 (Write 1 new_bytes Done) ∷ Called 0 (Sync Done) ∷ first_write

-- A crash may leave a later write and not an earlier one, or cut it, unless a sync came between them.
pub record ExamplesOfCrashMayLeave : Type 0 where
  pub holds : CrashMayLeave at_once (two_sectors (Good old_bytes) (Good new_bytes))
  pub cut : CrashMayLeave at_once (two_sectors Torn (Good new_bytes))
  pub fails : ¬ CrashMayLeave synced_between (two_sectors (Good old_bytes) (Good new_bytes))
  -- no crash damages a sector
  pub undamaged : ¬ CrashMayLeave at_once (two_sectors Damaged (Good new_bytes))
