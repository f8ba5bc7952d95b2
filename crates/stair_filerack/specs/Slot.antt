-- A slot of a rack over files, as contracts see it.
use Rattle.std.specs.Prelude.{ℕ, ◌*◌, ◌++◌, ◌/◌, ◌%◌, Bool, List, [], Option, None, Some, codes, is_some, nat_lt, if◌then◌else◌}
use Rattle.std.specs.Fmt.{decimal}
use Rattle.stair_rack.specs.Count.{one_more}
use Rattle.stair_rack.specs.declared.rack.Reply.{Reply}
use Rattle.stair_rack.specs.declared.rack.Reply.TheVariants as reply
use Rattle.stair_rack.specs.declared.rack.Got.{Got}
use Rattle.stair_rack.specs.declared.rack.Got.TheVariants as got
use Rattle.stair_filerack.specs.declared.reason.Reason.{Reason}

-- what is held of eight sectors of an image file that were read at once: the one that a read was last answered by, and those
-- after it
pub record ReadAhead : Type 0 where
  -- the number of the first sector that is held
  pub from : ℕ
  -- the bytes of all sectors that are held, in order: 544 of each
  pub bytes : List ℕ
  -- the sector from which eight were last to be read, and fewer were
  pub missed : Option ℕ

-- nothing was read ahead
abbrev pub nothing_read : ReadAhead
nothing_read = record { from = 0; bytes = []; missed = None }

-- nothing is held any more
abbrev pub released : ReadAhead → ReadAhead
released ahead = record ahead { bytes = [] }

-- eight sectors were to be read from this one on, and fewer were: nothing is held
abbrev pub missed_at : ℕ → ReadAhead → ReadAhead
missed_at sector ahead = record ahead { bytes = []; missed = Some sector }

-- an image file that is open
pub record OpenFile (File : Type 0) : Type 0 where
  pub file : File
  -- The sector at whose first byte the file is once all that is pending went to it. It is known where the last call on the file
  -- was a read or write that ended there.
  pub next : Option ℕ
  pub ahead : ReadAhead

-- a file of which nothing is held any more
abbrev pub without_ahead : {File : Type 0} → OpenFile File → OpenFile File
without_ahead held = record held { ahead = released held.ahead }

-- an image file that is open, and the sectors that are to go to it
pub record HeldFile (File : Type 0) : Type 0 where
  pub image : OpenFile File
  -- the bytes of the sectors that were written and didn't go to the file yet, sealed, in order
  pub pending : List ℕ

-- how many bytes are pending at most: those of 128 sectors
abbrev pub pending_bytes : ℕ
pending_bytes = 128 * 544

-- an image file of which this is pending
abbrev pub held_as : {File : Type 0} → List ℕ → OpenFile File → HeldFile File
held_as pending image = record { image = image; pending = pending }

pub record FileSlot (File : Type 0) : Type 0 where
  -- the path of its image file
  pub path : List ℕ
  -- the file that it holds open
  pub file : Option (HeldFile File)
  -- the number of sectors that the last attach found, 0 where it was gone or there was none
  pub sectors : ℕ
  -- how often it was gone
  pub gones : ℕ
  -- the first reason for which it was gone, but that there was no file
  pub reason : Option Reason

-- the path of a slot's image file: FOLDER/devJJ.img, where JJ is the slot's number in two decimal digits
abbrev pub path_of : List ℕ → ℕ → List ℕ
path_of folder slot = folder ++ codes "/dev" ++ decimal (slot / 10) ++ decimal (slot % 10)
    ++ codes ".img"

-- a slot that no call has touched
abbrev pub untouched : {File : Type 0} → List ℕ → FileSlot File
untouched path = record { path = path; file = None; sectors = 0; gones = 0; reason = None }

-- whether a slot is attached: it holds its file open
abbrev pub is_attached : {File : Type 0} → FileSlot File → Bool
is_attached slot = is_some slot.file

-- a slot that isn't attached
abbrev pub detached : {File : Type 0} → FileSlot File → FileSlot File
detached slot = record slot { file = None; sectors = 0 }

-- a slot that was gone once more, with its file as it was
abbrev pub gone_once_more : {File : Type 0} → FileSlot File → FileSlot File
gone_once_more slot = record slot { gones = one_more slot.gones }

-- a slot that was gone, keeps this reason and releases its file
abbrev pub let_go : {File : Type 0} → Option Reason → FileSlot File → FileSlot File
let_go reason slot = record (gone_once_more slot) { file = None; reason = reason }

-- a file that was just opened
abbrev pub opened : {File : Type 0} → File → HeldFile File
opened file = held_as [] (record { file = file; next = None; ahead = nothing_read })

-- a slot that holds a file of so many sectors open
abbrev pub holding : {File : Type 0} → Option (HeldFile File) → ℕ → FileSlot File → FileSlot File
holding file sectors slot = record slot { file = file; sectors = sectors }

-- a slot after an attach with this answer, which found this file of so many sectors, or keeps this reason
abbrev pub attached_as : {File : Type 0} → Reply → Option (HeldFile File) → ℕ → Option Reason →
    FileSlot File → FileSlot File
attached_as reply.Done file sectors reason slot = holding file sectors slot
attached_as reply.Gone file sectors reason slot = record (let_go reason slot) { sectors = 0 }

-- a slot after a read with this answer, which left its file so, or keeps this reason
abbrev pub read_as : {File : Type 0} → Got → Option (HeldFile File) → Option Reason →
    FileSlot File → FileSlot File
read_as got.Good file reason slot = record slot { file = file }
read_as got.Bad file reason slot = record slot { file = file }
read_as got.Gone file reason slot = let_go reason slot

-- the file of a slot of so many sectors after a write of this sector with this answer, which left it so: one that
-- failed is released, and one whose end the sector lies past is as it was
abbrev pub file_after_write : {File : Type 0} → Reply → ℕ → ℕ → Option File → Option File →
    Option File
file_after_write reply.Done sectors sector new old = new
file_after_write reply.Gone sectors sector new old = if nat_lt sector sectors then None else old

-- a slot after a write of this sector with this answer, which left its file so, or keeps this reason
abbrev pub written_as : {File : Type 0} → ℕ → Reply → Option (HeldFile File) → Option Reason →
    FileSlot File → FileSlot File
written_as sector reply.Done file reason slot = record slot { file = file }
written_as sector reply.Gone file reason slot = record (gone_once_more slot) {
  file = file_after_write reply.Gone slot.sectors sector file slot.file;
  reason = reason;
}

-- a slot after a sync with this answer, which left its file so, or keeps this reason
abbrev pub synced_as : {File : Type 0} → Reply → Option (HeldFile File) → Option Reason →
    FileSlot File → FileSlot File
synced_as reply.Done file reason slot = record slot { file = file }
synced_as reply.Gone file reason slot = let_go reason slot
