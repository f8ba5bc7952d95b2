-- A redo that is under way in a session: how far it has come on the slots that are in use.
use Rattle.std.specs.Prelude.{◌≡◌, ◌<◌, ◌⊎◌, ℕ, List, None, Option, Some}
use Rattle.stair_model.specs.Geometry.{Geometry}
use Rattle.stair_rack.specs.Answers.{Ran, any_call}
use Rattle.stair_rack.specs.History.{Happening, slot_state}
use Rattle.stair_rack.specs.Media.{Image}
use Rattle.stair_rack.specs.Offline.{IsAttached, WasPulled}
use Rattle.stair_super.specs.Superblock.{joined_in, mark_in}
use Rattle.stair_super.specs.declared.configuration.Configuration.{Configuration}
use Rattle.stair_super.specs.declared.mark.Mark.TheVariants as mark
use Rattle.stair_member.specs.Membership.{Membership}
use Rattle.stair_state.specs.Blocks.{AreEncodingsOf}
use Rattle.stair_state.specs.Redoing.{AtRest, Done, InPlace, IsIn, Placing, Redoing, Stage, Uncommitted}
use Rattle.stair_state.specs.Represents.{IsLargeEnough, RepresentsAlone}
use Rattle.stair_state.specs.State.{Change, Content, changed_if}
use Rattle.stair_invariant.specs.InSession.{HasEpoch}
use Rattle.stair_invariant.specs.Session.{IsLiveIn, seats_in}

-- slot j is live, and attached
abbrev pub IsInUse : Membership → List Happening → ℕ → Type 0
IsInUse m h j = IsLiveIn m j × IsAttached h j

-- At h, in a redo that was begun at `start`: the member's epoch stands, and the slots in use are in this stage, each on the
-- medium that it had at `start`, which is large enough.
pub record IsUnderWay (a : Redoing) (stage : Stage) (start : List Happening) (m : Membership)
    (h : List Happening) : Type 0 where
  pub geometry : a.geometry ≡ m.array.geometry
  pub ran : Ran any_call start h
  pub epoch : HasEpoch m h
  pub cells : IsIn a stage (IsInUse m h) start h
  pub same : (j : ℕ) → IsInUse m h j → ¬ WasPulled start h j
  pub large : (j : ℕ) → IsInUse m h j → IsLargeEnough a.geometry (slot_state h j).size

-- Before the redo the array holds this content, and after it the changed one; or, where there is no change, the same. Neither
-- the frozen mark nor the label is changed by it.
pub record IsOfRedo (a : Redoing) (m : Membership) (content : Content) (change : Option Change)
    : Type 0 where
  pub old_are : AreEncodingsOf a.geometry content.blocks a.old
  pub new_are : AreEncodingsOf a.geometry (changed_if change content).blocks a.new
  pub frozen : m.array.frozen ≡ content.frozen
  pub label : m.array.label ≡ content.label
  pub frozen_new : (changed_if change content).frozen ≡ content.frozen
  pub label_new : (changed_if change content).label ≡ content.label

-- what the array holds in a stage, and the change that is in doubt in it
abbrev pub content_in : Stage → Content → Option Change → Content
content_in AtRest content change = content
content_in Uncommitted content change = content
content_in Placing content change = changed_if change content
content_in InPlace content change = changed_if change content
content_in Done content change = changed_if change content

abbrev pub doubt_in : Stage → Option Change → Option Change
doubt_in Uncommitted change = change
doubt_in _ change = None

-- The image by itself represents the array before the redo, after it, or with the change in doubt, with the seats that its
-- current superblock has.
abbrev pub IsBeforeOrAfter : Geometry → Content → Option Change → Configuration → Image → Type 0
IsBeforeOrAfter g content change current image = (stage : Stage) × RepresentsAlone (record {
  geometry = g;
  content = content_in stage content change;
  in_doubt = doubt_in stage change;
  seats = Some (seats_in current);
}) image

-- Each slot has the mark and the joined number that it had, or is Down.
abbrev pub AreKept : Geometry → Configuration → Configuration → Type 0
AreKept g was now = (j : ℕ) → j < g.n
    → ((mark_in now j ≡ mark_in was j) × (joined_in now j ≡ joined_in was j))
    ⊎ (mark_in now j ≡ mark.Down)
