-- What it is for a rack to be an array in a state, and what a session knows of all its media, by whether media that were
-- pulled may come back.
use Rattle.std.specs.Prelude.{◌≡◌, ◌≤◌, ◌⊎◌, ℕ, Bool, true, false, List, [], ◌∷◌, Option, None, Some, nat_lt, if◌then◌else◌, ⊤}
use Rattle.stair_model.specs.Device.{gate_sector}
use Rattle.stair_model.specs.Geometry.{Geometry}
use Rattle.stair_rack.specs.Crash.{EachImage}
use Rattle.stair_rack.specs.History.{Happening, Made, slot_state}
use Rattle.stair_rack.specs.Media.{Image}
use Rattle.stair_rack.specs.Offline.{IsAttached}
use Rattle.stair_rack.specs.Sector.{content}
use Rattle.stair_rack.specs.Stretch.{NothingReturned}
use Rattle.stair_super.specs.Newer.{IsOlder}
use Rattle.stair_super.specs.Superblock.{Superblock, joined_in, mark_in}
use Rattle.stair_super.specs.declared.mark.Mark.TheVariants.{Down}
use Rattle.stair_member.specs.Fencing.{IsBegun}
use Rattle.stair_member.specs.Membership.{IsHere, Membership, place_of, why_of}
use Rattle.stair_member.specs.Superblocks.{HoldsSuper}
use Rattle.stair_member.specs.declared.why.Why.{Why}
use Rattle.stair_member.specs.declared.why.Why.TheVariants.{Here}
use Rattle.stair_journal.specs.Gate.{ReadsClosed}
use Rattle.stair_state.specs.Holding.{CurrentMedia, IsConsistentSince, IsConsistentUnderReassembly, IsCurrentMedium}
use Rattle.stair_state.specs.Reassembly.{InSlot, IsBorne, IsReassembly, Location}
use Rattle.stair_state.specs.Represents.{Represents}
use Rattle.stair_state.specs.State.{State}
use Rattle.stair_state.specs.Tolerance.{ToleratedSince}
use Rattle.stair_invariant.specs.Mixed.{IsToleratedUnread, IsToleratedUnwritten}
use Rattle.stair_invariant.specs.Session.{HasOwn, own_super}

-- whether a medium that was pulled may be put back into its slot
pub data Returning : Type 0 where
  NoneReturns : Returning
  AnyReturns : Returning

-- the rack with this history is an array in this state
abbrev pub StandsFor : Returning → State → List Happening → Type 0
StandsFor NoneReturns s h = Represents s h
StandsFor AnyReturns s h = IsConsistentUnderReassembly s h

-- so is one that is made over this image
abbrev pub StandsForAlone : Returning → State → Image → Type 0
StandsForAlone returning s image = StandsFor returning s (Made image ∷ [])

-- WITHIN TOLERANCE

-- Failures stay within tolerance in a session from `before` to h, in which its array is open or isn't yet. Where media come back
-- more is asked until its survey has ended.
abbrev pub StaysWithinTolerance : Returning → Geometry → Bool → List Happening → List Happening → Type 0
StaysWithinTolerance NoneReturns g is_open before h = ToleratedSince g before h × NothingReturned before h
StaysWithinTolerance AnyReturns g true before h = ToleratedSince g before h
StaysWithinTolerance AnyReturns g false before h = ToleratedSince g before h × IsToleratedUnwritten g before h

-- That a step from such a moment isn't refused asks it of an opening whose first epoch is refused, to its end at h.
abbrev pub StaysWithinToleranceUnread : Returning → Geometry → Bool → List Happening → List Happening → Type 0
StaysWithinToleranceUnread NoneReturns g is_open before h = ⊤
StaysWithinToleranceUnread AnyReturns g true before h = ⊤
StaysWithinToleranceUnread AnyReturns g false before h = IsToleratedUnread g before h

-- WHAT A SESSION KNOWS OF ALL MEDIA

-- An image as a member knows it that has looked at the rack: its media, in slots and outside.
pub record IsKnownWherever (joining : Option ℕ) (m : Membership) (attached : ℕ → Type 0)
    (image : Image) : Type 0 where
  -- every epoch is at most the greatest draw that was seen
  pub covered : (i : ℕ) (p : Location) (s : Superblock) → IsBorne m.array.geometry image i p s
      → s.array.epoch ≤ m.drawn
  -- the member's epoch names what the member has
  pub named : (i : ℕ) (p : Location) (s : Superblock) → IsBorne m.array.geometry image i p s
      → s.array.epoch ≡ m.array.epoch → s.array ≡ m.array
  -- the medium in a slot that is here and attached is the one that the member means
  pub sole : (j : ℕ) (p : Location) (s : Superblock) → IsHere m j → attached j
      → IsBorne m.array.geometry image j p s → s.joined ≡ joined_in m.array j → p ≡ InSlot
  -- a slot that is to be admitted is Down
  pub down : (j : ℕ) → joining ≡ Some j → mark_in m.array j ≡ Down

-- the media that hold the chunks are those that the member's live slots mean
abbrev pub current_medium_if : Why → ℕ → Option ℕ
current_medium_if Here joined = Some joined
current_medium_if why joined = None

abbrev pub current_media_of : Membership → CurrentMedia
current_media_of m j = if nat_lt j m.array.geometry.n then current_medium_if (why_of m j) (joined_in m.array j)
    else None

-- in each image that a crash at h may leave no medium, in a slot or outside, bears a greater epoch than this draw
abbrev pub CoversMedia : Geometry → ℕ → List Happening → Type 0
CoversMedia g draw h = EachImage (λ image. (i : ℕ) (p : Location) (s : Superblock)
    → IsBorne g image i p s → s.array.epoch ≤ draw) h

-- Slot j has its own superblock of the member's epoch, and the place that comes next holds the same one, or none that isn't
-- older.
pub record HasOwnNewest (m : Membership) (h : List Happening) (j : ℕ) : Type 0 where
  pub own : HasOwn m h j
  pub newest : (other : Superblock)
      → HoldsSuper (content ((slot_state h j).sector (place_of m j))) other
      → (other ≡ own_super m own.draw j) ⊎ IsOlder other (own_super m own.draw j)

-- What a session is to know of all media, between the calls of an open array: that the rack is consistent however they lie, by
-- the member's live slots since its epoch, which is the latest; that each slot that takes part and is attached has its own
-- superblock; and that the gates of holders read closed, wherever they lie.
pub record KnowsMedia (s : State) (m : Membership) (h : List Happening) : Type 0 where
  pub known : EachImage (IsKnownWherever None m (IsAttached h)) h
  pub is : IsConsistentSince s (current_media_of m) m.array.epoch h
  pub latest : CoversMedia s.geometry m.array.epoch h
  pub own : (j : ℕ) → IsHere m j → IsAttached h j → HasOwnNewest m h j
  pub closed : EachImage (λ image. (to : Image) (j : ℕ) → IsReassembly image to
      → IsCurrentMedium s.geometry (current_media_of m) j ((to j).cell)
      → ReadsClosed s.geometry ((to j).cell gate_sector)) h

abbrev pub Knows : Returning → State → Membership → List Happening → Type 0
Knows NoneReturns s m h = IsBegun None m h
Knows AnyReturns s m h = KnowsMedia s m h
