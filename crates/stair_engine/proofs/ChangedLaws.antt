-- What becomes of volumes over a call of words that spell a command on them.
use Rattle.std.proofs.Common.{◌≡◌, ◌∙◌, ℕ, List, [], ◌∷◌, Option, None, Some, inl, inr, drop, map, refl, take, sym, ap, subst}
use Rattle.std.specs.List.{concat}
use Rattle.stair_model.specs.Geometry.{IsWithinLimits, block_count}
use Rattle.stair_rack.specs.History.{Happening}
use Rattle.stair_state.specs.Blocks.{Blocks}
use Rattle.stair_state.specs.State.{State}
use Rattle.stair_invariant.specs.Returning.{Returning}
use Rattle.stair_conf.specs.Words.{Spells}
use Rattle.stair_conf.specs.declared.job.Job.{Job}
use Rattle.stair_conf.specs.declared.job.Job.TheVariants.{Volume}
use Rattle.stair_conf.specs.declared.job.VolumeJob.{VolumeJob}
use Rattle.stair_conf.specs.declared.job.VolumeJob.TheVariants as volume
use Rattle.stair_conf.proofs.WordsLemmas.{spells_once}
use Rattle.stair_command.specs.Devices.{devices as at}
use Rattle.stair_command.specs.Program.{Program, Over, Ask}
use Rattle.stair_command.specs.Question.{IsReply, Words}
use Rattle.stair_command.specs.Run.{Now, Runs, history_of, now}
use Rattle.stair_command.specs.Trace.{TraceItem, Found, Grew, RanOut, AlongTrace, StepsProgram, put_in, taken_in}
use Rattle.stair_status.specs.declared.status.Status.{Status}
use Rattle.stair_status.specs.declared.status.Status.TheVariants.{OutOfMemory}
use Rattle.stair_command.proofs.LifeLaws.{kept_whole}
use Rattle.stair_volume.specs.Table.{Table}
use Rattle.stair_volume.specs.Volumes.{HasVolumes, IsAmong, IsCommand, IsFinished, Volume as Held, volume_at}
use Rattle.stair_volume.proofs.AgreeLaws.{read_alike}
use Rattle.stair_volume.proofs.ReadingLaws.{one_table}
use Rattle.stair_volume.proofs.OpenedLaws.{Reached, before_at, cut_goes, finished, goes_so, over_before, reached}
use Rattle.stair_engine.specs.Changed.{HoldsVolume}
use Rattle.stair_engine.specs.Laws.{VolumesAreChanged, VolumesAreReadAlike}
use Rattle.stair_engine.specs.Programs.{if_spelled, job_program, program_of}
use Rattle.stair_engine.proofs.VolumesLaws.{spelled_command}

module _ (returning : Returning) (before : List Happening) (words : List (List ℕ)) (job : VolumeJob) (spells : Spells words (Volume job)) (is : IsCommand job)
    (s : State) (limits : IsWithinLimits s.geometry) where
  abbrev At : List ℕ → List ℕ → Program → Now → Type 0
  At taken put rest new = Reached returning before job is s limits taken put rest new

  -- what the words spell is the job
  reached_job : (reply : Option Job) → IsReply (Words words) reply → (trace : List TraceItem) (rest : Program) (h : List Happening) (new : Now)
      → AlongTrace StepsProgram trace (if_spelled reply) rest → Runs returning before trace (now s h None) new → At (taken_in trace) (put_in trace) rest new
  reached_job None not trace rest h new follows runs = absurd (not (Volume job, spells))
  reached_job (Some of) read trace rest h new follows runs =
      reached returning before job is s limits trace rest h new
      (subst (λ (j : Job). AlongTrace StepsProgram trace (job_program j) rest) (sym (spells_once words (Volume job) of spells read)) follows) runs

  -- the words are read
  reached_read : (trace : List TraceItem) (rest : Program) (h : List Happening) (new : Now) → AlongTrace StepsProgram trace (Ask (Words words) if_spelled) rest
      → Runs returning before trace (now s h None) new → At (taken_in trace) (put_in trace) rest new
  reached_read [] rest h new follows runs =
      before_at returning before job is s limits [] [] (Ask (Words words) if_spelled) rest new follows (λ step next. absurd next) (λ done. cc)
      (kept_whole (ap (λ (n : Now). n.state) runs))
  reached_read (Found asked ∷ trace) rest h new follows runs =
      reached_job follows.1.0 follows.1.2 trace rest h new (subst (λ (p : Program). AlongTrace StepsProgram trace p rest) follows.1.3 follows.2)
      (subst (λ (n : Now). Runs returning before trace n new) runs.1 runs.2)
  reached_read (_ ∷ trace) rest h new follows runs = absurd follows.1

  -- the whole call
  pub reached_words : (trace : List TraceItem) (rest : Program) (h : List Happening) (new : Now) → AlongTrace StepsProgram trace (program_of words) rest
      → Runs returning before trace (now s h None) new → At (taken_in trace) (put_in trace) rest new
  reached_words [] rest h new follows runs =
      before_at returning before job is s limits [] [] (program_of words) rest new follows (λ step next. absurd next) (λ done. cc)
      (kept_whole (ap (λ (n : Now). n.state) runs))
  reached_words (Grew ∷ trace) rest h new follows runs =
      reached_read trace rest h new (subst (λ (p : Program). AlongTrace StepsProgram trace p rest) follows.1 follows.2)
      (subst (λ (n : Now). Runs returning before trace n new) runs.1 runs.2)
  reached_words (RanOut ∷ trace) rest h new follows runs =
      over_before returning before job is s limits trace (taken_in trace) (put_in trace) OutOfMemory rest runs.0 new (λ done. cc)
      (kept_whole (ap (λ (n : Now). n.state) runs.1)) (subst (λ (p : Program). AlongTrace StepsProgram trace p rest) follows.1 follows.2) runs.2
  reached_words (_ ∷ trace) rest h new follows runs = absurd follows.1

-- so of every call
pub volumes_are_changed : (R W S K : Type 0) → VolumesAreChanged R W S K
volumes_are_changed R W S K devices view words job status a b x y watchers left spells whole returning s limits = (
  λ run.
      let trace = whole.with.means.trace in
      let new : Now = now run.state (history_of devices (at y whole.session left)) run.stopped in
      let came =
      reached_words returning (devices.rack.history x) words job spells is_one s limits trace (Over status) (devices.rack.history x) new
      whole.with.means.follows run.runs in (
        goes_so returning (devices.rack.history x) job is_one s limits trace (Over status) new came,
        λ done.
            finished returning (devices.rack.history x) job is_one s limits trace new
            (subst (λ (end : Status). Reached returning (devices.rack.history x) job is_one s limits (taken_in trace) (put_in trace) (Over end) new) done came),
      ),
  λ c safe image left.
      let came =
      reached_words returning (devices.rack.history x) words job spells is_one s limits safe.done safe.rest (devices.rack.history x) _ safe.follows safe.runs in
      elim (safe.images image left) [
        | inl stands ↦
            (safe.state, stands, goes_so returning (devices.rack.history x) job is_one s limits safe.done safe.rest _ came)
        | inr next ↦ (
          next.left.state,
          next.left.stands,
          cut_goes returning (devices.rack.history x) job is_one s limits safe.done safe.rest _ next.step next.left.cut.begun next.left.state came
              next.next next.unstopped next.left.cut.within,
        )
      ],
)
  where
    is_one : IsCommand job
    is_one = spelled_command words job spells

-- what an array holds is one list of volumes
one_list : (count : ℕ) (held : Blocks) (a b : List Held) → HasVolumes count held a → HasVolumes count held b → a ≡ b
one_list count held a b first second =
    first.are
    ∙ ap (λ (t : Table). map (volume_at held) t.entries) (one_table count (held 0) first.table second.table first.is_table second.is_table)
    ∙ sym second.are

-- a read that is finished put out the bytes of the volume that its array held
module _ (name : List ℕ) (block count : ℕ) (taken put : List ℕ) (s new : State) (finished : IsFinished (volume.Read name block count) taken put s new) where
  reads_volume : (v : Held) → HoldsVolume (block_count s.geometry) finished.held name v → put ≡ concat (take count (drop block v.blocks))
  reads_volume v holds =
      let among : IsAmong finished.done.volumes name v =
      subst (λ (volumes : List Held). IsAmong volumes name v)
      (one_list (block_count s.geometry) finished.held holds.volumes finished.done.volumes holds.has finished.done.begins) holds.among in
      let same : IsFinished (volume.Read name block count) taken (concat (take count (drop block v.blocks))) s new = record {
        held = finished.held;
        settled = finished.settled;
        contents = finished.contents;
        front = finished.front;
        all = finished.all;
        done = finished.done;
        puts = (v, among, refl);
        certain = finished.certain;
      } in
      read_alike name block count taken put taken (concat (take count (drop block v.blocks))) s new s new v finished same among among

pub volumes_are_read_alike : (R W S K : Type 0) → VolumesAreReadAlike R W S K
volumes_are_read_alike R W S K devices view words name block count status a b x y watchers left spells whole returning s limits run done =
    let trace = whole.with.means.trace in
    let finished =
    ((volumes_are_changed R W S K devices view words (volume.Read name block count) status a b x y watchers left spells whole returning s limits).0 run).1 done in
    (finished.held, finished.settled, reads_volume name block count (taken_in trace) (put_in trace) s run.state finished)
