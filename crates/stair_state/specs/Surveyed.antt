-- What a survey finds of an array that the rack represents.
use Rattle.std.specs.Prelude.{◌≡◌, ◌⊎◌, ◌<◌, ◌≤◌, ℕ, false, IsSome, List, Result, Ok}
use Rattle.stair_model.specs.Geometry.{Geometry}
use Rattle.stair_rack.specs.Crash.{EachImage, image_now}
use Rattle.stair_rack.specs.History.{Happening, SlotState}
use Rattle.stair_rack.specs.Offline.{IsAttached, IsOffline}
use Rattle.stair_rack.specs.Sector.{damaged}
use Rattle.stair_super.specs.Superblock.{Superblock, joined_in, mark_in}
use Rattle.stair_super.specs.declared.configuration.Configuration.{Configuration}
use Rattle.stair_member.specs.Aims.{mark_for}
use Rattle.stair_member.specs.Current.{IsCurrent, IsLive, Serves}
use Rattle.stair_member.specs.Membership.{Membership, why_of}
use Rattle.stair_member.specs.Reserve.{Bears}
use Rattle.stair_member.specs.declared.fault.SurveyFault.{SurveyFault}
use Rattle.stair_member.specs.declared.why.Why.TheVariants.{Here}
use Rattle.stair_journal.specs.declared.redo.Redo.{Redo}
use Rattle.stair_state.specs.Forms.{IsOpen}
use Rattle.stair_state.specs.Recovering.{IsShut}
use Rattle.stair_state.specs.State.{State, new_content}

-- The array of the state was found, by a survey from old to new in a session that began at `before`.
pub record FindsArray (s : State) (answer : Result Membership SurveyFault)
    (before old new : List Happening) : Type 0 where
  pub member : Membership
  pub found : answer ≡ Ok member
  pub identity : member.array.geometry ≡ s.geometry
  -- it has what the current superblock names, of the rack at the end or at the beginning
  pub named : (first last : Superblock) → IsCurrent s.geometry (image_now old) first
      → IsCurrent s.geometry (image_now new) last
      → (member.array ≡ last.array) ⊎ (member.array ≡ first.array)
  -- a slot that serves at the end is here
  pub here : (current : Superblock) (j : ℕ) → IsCurrent s.geometry (image_now new) current
      → Serves (IsOffline before new) s.geometry (image_now new) current j
      → why_of member j ≡ Here
  -- and one that is here was live in whatever a crash before the survey might have left
  pub live : (j : ℕ) → j < s.geometry.n → why_of member j ≡ Here
      → EachImage (λ image. (current : Superblock) → IsCurrent s.geometry image current
      → IsLive s.geometry image current j) old

-- The member covers a superblock: it names no later epoch than the member, the same configuration at the member's epoch, and
-- has no greater draw than was seen.
pub record Covers (m : Membership) (t : Superblock) : Type 0 where
  pub epoch : t.array.epoch ≤ m.array.epoch
  pub one_list : t.array.epoch ≡ m.array.epoch → t.array ≡ m.array
  pub draw : t.draw ≤ m.drawn

-- in each image that a crash at h may leave it covers what the slots bear of the array, hidden superblocks too
pub record CoversAll (g : Geometry) (m : Membership) (h : List Happening) : Type 0 where
  pub each : EachImage (λ image. (j : ℕ) (t : Superblock) → Bears g j ((image j).cell) t
      → Covers m t) h

-- in each image that a crash at h may leave, a slot whose medium is the one that the member's epoch means is marked by its reason
abbrev pub MarksByReasons : Membership → List Happening → Type 0
MarksByReasons m h = EachImage (λ image. (j : ℕ) (s : Superblock) → j < m.array.geometry.n
    → Bears m.array.geometry j ((image j).cell) s → s.joined ≡ joined_in m.array j
    → mark_in m.array j ≡ mark_for (why_of m j)) h

-- In each image that a crash at h may leave the gate of slot j is closed, whether the slot is attached or not; and where it
-- is, the gate is shut.
pub record IsLeftShut (g : Geometry) (h : List Happening) (j : ℕ) : Type 0 where
  pub closed : EachImage (λ image. (redo : Redo) → ¬ IsOpen g image j redo) h
  pub shut : IsAttached h j → IsShut g h h j

-- The slot holds the medium that it held at first, since none was pulled; or it isn't attached, and nothing can be read of it.
pub data IsOwnOrBare (first b : SlotState) : Type 0 where
  Own : IsSome first.size → b.pulls ≡ first.pulls → IsSome b.size → IsOwnOrBare first b
  Bare : b.attached ≡ false → ((k : ℕ) → b.sector k ≡ damaged) → IsOwnOrBare first b

-- the frozen mark and the label are those of the state, or those that it has where the change in doubt was made
pub record NamesContent (s : State) (array : Configuration) : Type 0 where
  pub frozen : (array.frozen ≡ s.content.frozen) ⊎ (array.frozen ≡ (new_content s).frozen)
  pub label : (array.label ≡ s.content.label) ⊎ (array.label ≡ (new_content s).label)
