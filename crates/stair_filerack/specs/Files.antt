-- Sectors of an image file: sector T is the 544 bytes from byte 544·T on.
use Rattle.std.specs.Prelude.{◌≡◌, ◌≢◌, ◌⊎◌, ◌≤◌, ◌<◌, length, ℕ, pos, ◌+◌, ◌-◌, ◌*◌, ◌/◌, ◌^◌, List, [], ◌++◌, Option, None, Some, Result, Ok, Err, IfSome, IsSomeAnd, min}
use Rattle.std.specs.Io.KnownBytes.{Consumes, Appends, IsAtEnd}
use Rattle.std.specs.Io.Seek.{StaysAt, SeekMoves}
use Rattle.std.specs.declared.io.Error.{Error}
use Rattle.std.specs.declared.io.SeekFrom.TheVariants.{End}
use Rattle.stair_rack.specs.declared.rack.Reply.{Reply}
use Rattle.stair_rack.specs.declared.rack.Reply.TheVariants as reply
use Rattle.stair_rack.specs.declared.rack.Got.{Got}
use Rattle.stair_rack.specs.declared.rack.Got.TheVariants as got
use Rattle.stair_image.specs.Seal.{sealed, IsSealed}
use Rattle.stair_filerack.specs.Reason.{IsBadSector}
use Rattle.stair_filerack.specs.Slot.{HeldFile, OpenFile, ReadAhead, missed_at, pending_bytes, released, without_ahead}

-- the byte at which a sector begins
abbrev pub offset_of : ℕ → ℕ
offset_of sector = 544 * sector

-- the number of sectors of a file of so many bytes: the whole ones, and no more than a u32 counts
abbrev pub sectors_in : ℕ → ℕ
sectors_in bytes = min (bytes / 544) (2 ^ 32 - 1)

-- From a file as it was to the file as it is: its end was sought, and it has so many sectors. This and what follows
-- speak of the places and bytes that files of this type tell.
abbrev pub CountsSectors : {T : Type 0} → (T → Option ℕ) → (T → Option (List ℕ)) → T → T → ℕ → Type 0
CountsSectors {T} place bytes old new sectors =
    (end : ℕ) × SeekMoves {E = Error} (place old) (place new) (bytes old) (End (pos 0)) (Ok end)
    × (sectors ≡ sectors_in end)

-- a file's place, where it is known, before and after a seek to a sector
abbrev pub SeeksSector : ℕ → Option ℕ → Option ℕ → Type 0
SeeksSector sector old new = IfSome old (λ _. new ≡ Some (offset_of sector))

-- the file at the beginning of a read or a write of a sector: as it was, where the last one ended right before that
-- sector, and else it was sought
pub record FindsSector {T : Type 0} (place : T → Option ℕ) (sector : ℕ) (old : OpenFile T) (found : T) : Type 0 where
  pub follows : old.next ≡ Some sector → found ≡ old.file
  pub sought : old.next ≢ Some sector → SeeksSector sector (place old.file) (place found)

-- From an open file as it was to the file as it is, as all that follow: it was at the sector, and then this payload,
-- sealed, was read, and the next one follows. What was held was released.
abbrev pub ReadsAlone : {T : Type 0} → (T → Option ℕ) → (T → Option (List ℕ)) → ℕ → List ℕ →
    OpenFile T → OpenFile T → Type 0
ReadsAlone {T} place left sector payload old new =
    (found : T) × FindsSector place sector old found
    × Consumes (left found) (left new.file) (sealed sector payload)
    × (new.next ≡ Some (sector + 1)) × (new.ahead ≡ released old.ahead)

-- no sealed sector was read: the file ended before there were 544 bytes, or there are, and they aren't sealed
abbrev pub IsNoSector : ℕ → Option (List ℕ) → Option (List ℕ) → Type 0
IsNoSector sector left left' =
    (bytes : List ℕ) × Consumes left left' bytes
    × (((length bytes < 544) × IsAtEnd left') ⊎ ((length bytes ≡ 544) × ¬ IsSealed sector bytes))

-- that was read of a sector, and the next one is sought
abbrev pub ReadsNoSector : {T : Type 0} → (T → Option ℕ) → (T → Option (List ℕ)) → ℕ →
    OpenFile T → OpenFile T → Type 0
ReadsNoSector {T} place left sector old new =
    (found : T) × FindsSector place sector old found × IsNoSector sector (left found) (left new.file)
    × (new.next ≡ None) × (new.ahead ≡ released old.ahead)

-- fewer than so many bytes were read
abbrev pub ReadsFewer : ℕ → Option (List ℕ) → Option (List ℕ) → Type 0
ReadsFewer count left left' =
    (bytes : List ℕ) × Consumes left left' bytes × (length bytes < count)

-- as a failed read leaves the file: where it was, by a seek that failed, or at the sector and fewer than 544 bytes on
abbrev pub FailsToRead : {T : Type 0} → (T → Option ℕ) → (T → Option (List ℕ)) → ℕ →
    OpenFile T → OpenFile T → Type 0
FailsToRead {T} place left sector old new =
    (((old.next ≢ Some sector) × StaysAt (place old.file) (place new.file))
    ⊎ ((found : T) × FindsSector place sector old found × ReadsFewer 544 (left found) (left new.file)))
    × (new.next ≡ None) × (new.ahead ≡ released old.ahead)

-- what a bad sector was that was read alone: none that is sealed, or one whose read failed
abbrev pub ReadsBadAlone : {T : Type 0} → (T → Option ℕ) → (T → Option (List ℕ)) → ℕ →
    OpenFile T → OpenFile T → Type 0
ReadsBadAlone place left sector old new =
    ReadsNoSector place left sector old new ⊎ FailsToRead place left sector old new

-- the sector is one of those that are held
abbrev pub IsHeld : ReadAhead → ℕ → Type 0
IsHeld ahead sector = (ahead.from ≤ sector) × (sector < ahead.from + length ahead.bytes / 544)

-- This sector, which has these bytes, was held, and is held still. Those before it were released.
pub record GivesSector (sector : ℕ) (bytes : List ℕ) (old new : ReadAhead) : Type 0 where
  pub whole : length bytes ≡ 544
  pub held : (before : List ℕ) × (old.bytes ≡ before ++ new.bytes)
      × (544 * old.from + length before ≡ 544 * sector)
  pub first : (after : List ℕ) × (new.bytes ≡ bytes ++ after)
  pub from : new.from ≡ sector
  pub missed : new.missed ≡ old.missed

-- a sector is one of the eight from this one on
abbrev pub IsOfEight : ℕ → ℕ → Type 0
IsOfEight start sector = (start ≤ sector) × (sector < start + 8)

-- the sector is one of the eight of which fewer were read
abbrev pub IsNear : Option ℕ → ℕ → Type 0
IsNear missed sector = IsSomeAnd missed (λ first. IsOfEight first sector)

-- Eight sectors were read at once, from where the file was, and are held. This sector is one of them, and the first isn't one of
-- the eight of which fewer were read.
pub record ReadsEight {T : Type 0} (left : T → Option (List ℕ)) (start sector : ℕ) (old new : OpenFile T) : Type 0 where
  pub place : old.next ≡ Some start
  pub among : IsOfEight start sector
  pub far : ¬ IsNear old.ahead.missed start
  pub taken : Consumes (left old.file) (left new.file) new.ahead.bytes
  pub whole : length new.ahead.bytes ≡ 4352
  pub from : new.ahead.from ≡ start
  pub missed : new.ahead.missed ≡ old.ahead.missed
  pub next : new.next ≡ Some (start + 8)

-- eight sectors, of which this is one, were to be read at once, and fewer were
pub record MissesEight {T : Type 0} (left : T → Option (List ℕ)) (start sector : ℕ) (old new : OpenFile T) : Type 0 where
  pub place : old.next ≡ Some start
  pub among : IsOfEight start sector
  pub far : ¬ IsNear old.ahead.missed start
  pub fewer : ReadsFewer 4352 (left old.file) (left new.file)
  pub ahead : new.ahead ≡ missed_at start old.ahead
  pub next : new.next ≡ None

-- a sector is held: it was, or it is one of eight that were read
abbrev pub HoldsSector : {T : Type 0} → (T → Option (List ℕ)) → ℕ → OpenFile T → OpenFile T → Type 0
HoldsSector left sector old new =
    (IsHeld old.ahead sector × (new ≡ old)) ⊎ ((start : ℕ) × ReadsEight left start sector old new)

-- a sector isn't held: nothing was read, or eight sectors were to be read and fewer were
abbrev pub LacksSector : {T : Type 0} → (T → Option (List ℕ)) → ℕ → OpenFile T → OpenFile T → Type 0
LacksSector left sector old new =
    (new ≡ old) ⊎ ((start : ℕ) × MissesEight left start sector old new)

-- a sector of these bytes was held, and answers
abbrev pub GivesHeld : {T : Type 0} → (T → Option (List ℕ)) → ℕ → List ℕ →
    OpenFile T → OpenFile T → Type 0
GivesHeld {T} left sector bytes old new =
    (held : OpenFile T) × HoldsSector left sector old held
    × GivesSector sector bytes held.ahead new.ahead × (new.file ≡ held.file) × (new.next ≡ held.next)

-- a sector that wasn't held was read so
abbrev pub GoesAlone : {T : Type 0} → (T → Option (List ℕ)) → ℕ →
    (OpenFile T → OpenFile T → Type 0) → OpenFile T → OpenFile T → Type 0
GoesAlone {T} left sector How old new =
    (alone : OpenFile T) × LacksSector left sector old alone × How alone new

-- a sector with this payload was read, now or ahead: it was sealed as it was read
abbrev pub ReadsSector : {T : Type 0} → (T → Option ℕ) → (T → Option (List ℕ)) → ℕ → List ℕ →
    OpenFile T → OpenFile T → Type 0
ReadsSector place left sector payload old new =
    GivesHeld left sector (sealed sector payload) old new
    ⊎ GoesAlone left sector (ReadsAlone place left sector payload) old new

-- a sector that was held wasn't sealed as it was read
abbrev pub GivesUnsealed : {T : Type 0} → (T → Option (List ℕ)) → ℕ →
    OpenFile T → OpenFile T → Type 0
GivesUnsealed left sector old new =
    (bytes : List ℕ) × GivesHeld left sector bytes old new × (¬ IsSealed sector bytes)

-- what a bad sector was: one that was held and isn't sealed, or one that was read alone
abbrev pub ReadsBadSector : {T : Type 0} → (T → Option ℕ) → (T → Option (List ℕ)) → ℕ →
    OpenFile T → OpenFile T → Type 0
ReadsBadSector place left sector old new =
    GivesUnsealed left sector old new
    ⊎ GoesAlone left sector (ReadsBadAlone place left sector) old new

-- all that was pending went to the file, in order; if nothing was, the file is as it was
abbrev pub PutsOut : {T : Type 0} → (T → Option (List ℕ)) → HeldFile T → T → Type 0
PutsOut held old out =
    Appends (held old.image.file) (held out) old.pending
    × (old.pending ≡ [] → out ≡ old.image.file)

-- all that was pending went to the file, in order, and then the file went on so; nothing is pending
abbrev pub AfterPending : {T : Type 0} → (T → Option (List ℕ)) →
    (OpenFile T → OpenFile T → Type 0) → HeldFile T → HeldFile T → Type 0
AfterPending {T} held How old new =
    (out : T) × PutsOut held old out × How (record old.image { file = out }) new.image
    × (new.pending ≡ [])

-- an open file on which no call was made
abbrev pub IsUnchanged : {T : Type 0} → OpenFile T → OpenFile T → Type 0
IsUnchanged old new = new ≡ old

-- a sector that is written is gathered with those that are pending: it follows them, and there is room for it
abbrev pub IsGathered : {T : Type 0} → HeldFile T → ℕ → Type 0
IsGathered old sector = (old.image.next ≡ Some sector) × (length old.pending + 544 ≤ pending_bytes)

-- what a write of a sector does first with those that are pending: they stay if it is gathered with them, and else they go out
abbrev pub MakesWay : {T : Type 0} → (T → Option (List ℕ)) → ℕ → HeldFile T → HeldFile T → Type 0
MakesWay held sector old new =
    (IsGathered old sector × (new ≡ old))
    ⊎ ((¬ IsGathered old sector) × AfterPending held IsUnchanged old new)

-- A sector with this payload was written: sealed, it is pending after those with which it is gathered. If none is, the file was
-- brought to the sector. What was held was released.
abbrev pub WritesSector : {T : Type 0} → (T → Option ℕ) → (T → Option (List ℕ)) → ℕ → List ℕ →
    HeldFile T → HeldFile T → Type 0
WritesSector {T} place held sector payload old new =
    (before : HeldFile T) × MakesWay held sector old before
    × FindsSector place sector before.image new.image.file
    × (new.pending ≡ before.pending ++ sealed sector payload)
    × (new.image.next ≡ Some (sector + 1)) × (new.image.ahead ≡ released old.image.ahead)

-- a file was synced: all that was pending went to it, and what was held was released
abbrev pub SyncsAll : {T : Type 0} → (T → Option (List ℕ)) → HeldFile T → HeldFile T → Type 0
SyncsAll held old new = AfterPending held (λ out new. new ≡ without_ahead out) old new

-- there was a file, it is there still, and went on so
abbrev pub GoesOn : {T : Type 0} → (T → T → Type 0) → Option T → Option T → Type 0
GoesOn How None new = ⊥
GoesOn How (Some old) None = ⊥
GoesOn How (Some old) (Some new) = How old new

-- nothing is pending: there was no file, or all that was pending went to it
abbrev pub IsPutOut : {T : Type 0} → (T → Option (List ℕ)) → Option (HeldFile T) →
    Option (HeldFile T) → Type 0
IsPutOut held None new = new ≡ None
IsPutOut held (Some old) new = GoesOn (AfterPending held IsUnchanged) (Some old) new

-- What a read answers for its outcome: a payload, none, or an error of the file. A sector that the system can't read any
-- more is bad; by every other error the slot is gone.
abbrev pub IsGotOf : Result (Option (List ℕ)) Error → Got → Type 0
IsGotOf (Ok (Some payload)) answer = answer ≡ got.Good
IsGotOf (Ok None) answer = answer ≡ got.Bad
IsGotOf (Err error) answer =
    (IsBadSector error → answer ≡ got.Bad) × ((¬ IsBadSector error) → answer ≡ got.Gone)

-- what the buffer holds then
abbrev pub buffer_after : {E : Type 0} → Result (Option (List ℕ)) E → List ℕ → List ℕ
buffer_after (Ok (Some payload)) buffer = payload
buffer_after (Ok None) buffer = buffer
buffer_after (Err error) buffer = buffer

-- what a write or a sync answers for its outcome
abbrev pub reply_of : {T E : Type 0} → Result T E → Reply
reply_of (Ok done) = reply.Done
reply_of (Err error) = reply.Gone
