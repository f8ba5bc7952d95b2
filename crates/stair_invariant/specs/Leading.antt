-- How the session of an open array is led on: calls that are beside all that it has, what becomes of its rebuild, and what of
-- its record lasts in the midst of a redo.
use Rattle.std.specs.Prelude.{ℕ, ◌≡◌, ◌⊎◌, List, None, Option, Some}
use Rattle.stair_rack.specs.Answers.{Ran, any_call}
use Rattle.stair_rack.specs.History.{Happening, SlotCall, slot_state}
use Rattle.stair_rack.specs.Offline.{IsAttached, IsHeld}
use Rattle.stair_rack.specs.Stretch.{every_slot}
use Rattle.stair_member.specs.Membership.{IsHere, Membership, why_of}
use Rattle.stair_member.specs.declared.why.Why.{Why}
use Rattle.stair_member.specs.declared.why.Why.TheVariants.{Rebuilding}
use Rattle.stair_state.specs.Recovering.{IsShut}
use Rattle.stair_state.specs.Blocks.{Codewords}
use Rattle.stair_state.specs.Redoing.{AtRest, AttachesNone, Done, InPlace, IsIn, Placing, Redoing, Stage, Uncommitted}
use Rattle.stair_state.specs.Represents.{IsLargeEnough}
use Rattle.stair_invariant.specs.Chunks.{IsBesideChunks}
use Rattle.stair_invariant.specs.InSession.{IsBeside}
use Rattle.stair_invariant.specs.Rebuilding.{IsRebuiltTo, Rebuild}
use Rattle.stair_invariant.specs.Session.{ArrayState, HasOwn, IsArray, IsLiveIn, IsRebuiltIn}

-- Calls beside its epochs and its redos, which write no chunk that its rebuild has come to either.
pub record IsBesideArray (a : ArrayState) (j : ℕ) (call : SlotCall) : Type 0 where
  pub session : IsBeside a.member j call
  pub chunks : (rebuild : Rebuild) → a.rebuild ≡ Some rebuild
      → IsBesideChunks a.member.array.geometry rebuild.slot rebuild.stripe j call

-- What b rebuilds is a slot that it knows as one that is rebuilt, and as far as a has come with it, or from the beginning.
pub record KeepsRebuild (a b : ArrayState) (rebuild : Rebuild) : Type 0 where
  pub slot : IsRebuiltIn b.member rebuild.slot
  pub stripe : (a.rebuild ≡ Some rebuild) ⊎ (rebuild.stripe ≡ 0)

abbrev pub KeepsRebuilds : ArrayState → ArrayState → Type 0
KeepsRebuilds a b = (rebuild : Rebuild) → b.rebuild ≡ Some rebuild → KeepsRebuild a b rebuild

-- The part of the record that no stripe has a say in: it is so in the midst of a redo too.
pub record IsOpenAmid (before : List Happening) (a : ArrayState) (h : List Happening) : Type 0 where
  pub array : IsArray a
  pub ran : Ran any_call before h
  pub held : (j : ℕ) → IsHere a.member j → IsHeld before h j
  pub own : (j : ℕ) → IsHere a.member j → IsAttached h j → HasOwn a.member h j
  pub shut : (j : ℕ) → IsRebuiltIn a.member j → IsAttached h j
      → IsShut a.member.array.geometry h h j

-- THE ARRAY ONCE AN EPOCH STANDS

-- a rebuild goes on where its slot is one that is rebuilt still
abbrev pub rebuild_if : Why → Rebuild → Option Rebuild
rebuild_if Rebuilding rebuild = Some rebuild
rebuild_if _ rebuild = None

abbrev pub rebuild_in : Membership → Option Rebuild → Option Rebuild
rebuild_in last None = None
rebuild_in last (Some rebuild) = rebuild_if (why_of last rebuild.slot) rebuild

-- the array with this member, not stopped
abbrev pub led_to : ArrayState → Membership → ArrayState
led_to a last = record { member = last; rebuild = rebuild_in last a.rebuild; stopped = None; remembered = None }

-- IN THE MIDST OF A REDO

-- the stripes of which a slot that is rebuilt holds its chunks: the redo's cells are placed on it too
abbrev pub rebuilt_words : Redoing → Stage → Codewords
rebuilt_words r AtRest = r.old
rebuilt_words r Uncommitted = r.old
rebuilt_words r Placing = r.old
rebuilt_words r InPlace = r.new
rebuilt_words r Done = r.new

-- A redo that began at `start` is in this stage on the slots that are live still, of those that were attached then, and no
-- call has attached a slot since. The chunks that a rebuild has come to go with it.
pub record IsAmidRedo (r : Redoing) (before : List Happening) (a : ArrayState) (stage : Stage)
    (start h : List Happening) : Type 0 where
  pub amid : IsOpenAmid before a h
  pub geometry : r.geometry ≡ a.member.array.geometry
  pub ran : Ran (AttachesNone every_slot) start h
  pub large : (j : ℕ) → IsLiveIn a.member j → IsAttached start j
      → IsLargeEnough r.geometry (slot_state start j).size
  pub is_in : IsIn r stage (λ j. IsLiveIn a.member j × IsAttached start j) start h
  pub rebuilt : (rebuild : Rebuild) → a.rebuild ≡ Some rebuild → IsAttached start rebuild.slot
      → IsRebuiltTo r.geometry (rebuilt_words r stage) rebuild.slot rebuild.stripe start h
