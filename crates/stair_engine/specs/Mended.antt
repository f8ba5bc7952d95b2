-- What the commands that mend an array leave good: a scrub, a replacement and a rebuild.
use Rattle.std.specs.Prelude.{◌≡◌, ◌≢◌, ◌<◌, ℕ, List, None, Some, ⊤}
use Rattle.stair_model.specs.Geometry.{Geometry, sectors_needed}
use Rattle.stair_rack.specs.Answers.{IsHistory}
use Rattle.stair_rack.specs.History.{Happening}
use Rattle.stair_rack.specs.Stretch.{NothingReturned}
use Rattle.stair_super.specs.declared.mark.Mark.TheVariants.{Live, Rebuilding}
use Rattle.stair_member.specs.Seats.{Seats}
use Rattle.stair_state.specs.Represents.{Represents}
use Rattle.stair_state.specs.State.{State}
use Rattle.stair_state.specs.Tolerance.{ToleratedSince}
use Rattle.stair_invariant.specs.Returning.{NoneReturns}
use Rattle.stair_invariant.specs.Session.{ArrayState, IsArray, IsLiveIn, IsRebuiltIn}
use Rattle.stair_array.specs.Promise.{AreFound, Opened, Phase}
use Rattle.stair_conf.specs.declared.job.Job.{Job}
use Rattle.stair_conf.specs.declared.job.Job.TheVariants as job
use Rattle.stair_command.specs.Sound.{AreSoundChunks, IsSound}
use Rattle.stair_status.specs.declared.status.Status.{Status}
use Rattle.stair_status.specs.declared.status.Status.TheVariants.{Done}

-- the job mends an array
abbrev pub Mends : Job → Type 0
Mends job.Scrub = ⊤
Mends (job.Replace slot) = ⊤
Mends job.Rebuild = ⊤
Mends _ = ⊥

-- What the job guarantees, for an array of this geometry with these slots live and those rebuilding in the end. A scrub
-- leaves each cell of each live slot sound. A replacement leaves its slot live, and each sector that the array needs of
-- it sound. A rebuild leaves no slot rebuilding.
abbrev pub IsMendedBy : Job → Geometry → (IsLive IsRebuilt : ℕ → Type 0) → List Happening
    → List Happening → Type 0
IsMendedBy job.Scrub g IsLive IsRebuilt first last =
    (j : ℕ) → j < g.n → IsLive j → AreSoundChunks g j first last
IsMendedBy (job.Replace slot) g IsLive IsRebuilt first last = (slot < g.n) × IsLive slot
    × ((k : ℕ) → k < sectors_needed g → IsSound slot k first last)
IsMendedBy job.Rebuild g IsLive IsRebuilt first last = (j : ℕ) → j < g.n → ¬ IsRebuilt j
IsMendedBy _ g IsLive IsRebuilt first last = ⊤

-- The session has an open array in the end. It is mended by the marks that the session knows of its slots.
pub record EndsMended (job : Job) (session : Phase) (first last : List Happening) : Type 0 where
  pub array : ArrayState
  pub opened : session ≡ Opened array
  pub unstopped : array.stopped ≡ None
  pub rules : IsArray array
  pub by_job : IsMendedBy job array.member.array.geometry (IsLiveIn array.member)
      (IsRebuiltIn array.member) first last

-- The rack, which was an array in state s at first, is one in this state in the end.
pub record LeavesSound (job : Job) (s : State) (first last : List Happening) : Type 0 where
  pub state : State
  pub represents : Represents state last
  pub geometry : state.geometry ≡ s.geometry
  pub seats : Seats
  pub known : state.seats ≡ Some seats
  -- the seats with which it was found
  pub found : Seats
  pub are_found : AreFound NoneReturns first last s found
  -- each cell is sound of a slot that is live now and was not as the array was found
  pub brought_up : (j : ℕ) → j < s.geometry.n → (seats j).mark ≡ Live → (found j).mark ≢ Live
      → AreSoundChunks s.geometry j first last
  pub by_job : IsMendedBy job s.geometry (λ j. (seats j).mark ≡ Live)
      (λ j. (seats j).mark ≡ Rebuilding) first last

-- This holds if the job is done on a rack that was an array in a state and stayed within tolerance to the end, and no
-- medium was reinserted.
abbrev pub IsMended : Job → Status → List Happening → List Happening → Type 0
IsMended job status first last = Mends job → status ≡ Done → (s : State) → IsHistory first
    → Represents s first → ToleratedSince s.geometry first last → NothingReturned first last
    → LeavesSound job s first last
