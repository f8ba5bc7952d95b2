-- What a client is answered by an array that serves, and that its session is done where none of its messages is a bad one.
use Rattle.std.proofs.Common.{◌≡◌, ◌∙◌, ◌<◌, ℕ, List, [], ◌∷◌, Option, None, Some, Ok, Err, inl, inr, refl, sym, ap, subst}
use Rattle.std.specs.Prelude.{All, Bool, false, ⊤}
use Rattle.std.proofs.lemmas.List.Elements.{All-cons, All-head, All-nil, All-tail}
use Rattle.stair_model.specs.Geometry.{Geometry, block_count}
use Rattle.stair_state.specs.State.{BlocksAre, Change, Content, State, changed_if, without_seats}
use Rattle.stair_invariant.specs.Returning.{Returning}
use Rattle.stair_array.specs.Machine.{Answer, HoldsAfter, InDoubt, IsAsItWas, IsChanged, Made, MayBeCut, ReadBlock, Recover, Step, WriteBlocks}
use Rattle.stair_array.specs.Promise.{Begun}
use Rattle.stair_conf.specs.Words.{Spells}
use Rattle.stair_conf.specs.declared.job.Job.TheVariants.{Serve}
use Rattle.stair_nbd.specs.Civil.{IsCivil}
use Rattle.stair_nbd.specs.Client.{client_program}
use Rattle.stair_nbd.proofs.CivilLaws.{client_ends}
use Rattle.stair_nbd.proofs.ClientLaws.{IsOfRequest, client_so}
use Rattle.stair_command.specs.Action.{Create, Survey}
use Rattle.stair_command.specs.Devices.{DeviceView, ExecutesWhole, devices as at}
use Rattle.stair_command.specs.Ending.{AdmitsNone, AllowsAtMost, EachStep}
use Rattle.stair_command.specs.Outside.{Outside, Views}
use Rattle.stair_command.specs.Program.{Program, Over, Try}
use Rattle.stair_command.specs.Served.{EachStepFor, EndsDone, IsServed}
use Rattle.stair_command.specs.Trace.{TraceItem, Did, Stepped}
use Rattle.stair_command.specs.Sure.{HasNoFault, IsDone, ServesAlong, most_allowed}
use Rattle.stair_status.specs.declared.status.Status.{Status}
use Rattle.stair_command.proofs.PlannedLaws.{AllSteps}
use Rattle.stair_command.proofs.PlannedSureLaws.{none_replaced}
use Rattle.stair_command.proofs.ServedLaws.{MakesNone, ends_anyhow, planned_served, steps_for}
use Rattle.stair_engine.specs.Answered.{IsAnswered}
use Rattle.stair_engine.specs.Complete.{IsThawed}
use Rattle.stair_engine.specs.Laws.{ClientsAreAnswered}
use Rattle.stair_engine.specs.Programs.{program_of}
use Rattle.stair_engine.specs.Serving.{serve_program}
use Rattle.stair_engine.proofs.JobLaws.{job_admits_none, job_allowed}
use Rattle.stair_engine.proofs.WordLaws.{spelled_so}

-- ---- the steps of a session

-- the opening, and those of requests
abbrev IsOfClient : Geometry → Step → Type 0
IsOfClient g Recover = ⊤
IsOfClient g step = IsOfRequest g step

client_steps : (g : Geometry) → EachStepFor g (IsOfClient g) (client_program g)
client_steps g = client_so g (EachStepFor g (IsOfClient g)) (record {
  ends = λ status is. tt;
  takes = λ n k short behind end. (behind, end);
  puts = λ bytes program behind. behind;
  tries = tried;
})
  where
    tried : (step : Step) (k : Answer step → Bool → Program) → IsOfRequest g step
        → ((answer : Answer step) (left : Bool) → EachStepFor g (IsOfClient g) (k answer left)) → EachStepFor g (IsOfClient g) (Try step k)
    tried (ReadBlock block) k of behind = (of, behind)
    tried (WriteBlocks first contents) k of behind = (of, behind)
    tried _ k of behind = absurd of

serve_steps : (g : Geometry) → EachStepFor g (IsOfClient g) serve_program
serve_steps g = λ member same. (tt, λ left. client_steps g, λ refusal left. tt)

serve_ends : (g : Geometry) (input : List ℕ) → IsCivil input → EndsDone g serve_program (Some input)
serve_ends g input civil = λ member same gone. client_ends g input civil

-- ---- an array that isn't frozen stays so

module _ (old new : State) (thawed : IsThawed old) where
  thawed_by : (what : Option Change) → (changed_if what old.content).frozen ≡ false → IsChanged what old new → IsThawed new
  thawed_by what is changed =
      let now : new.content.frozen ≡ false = ap (λ (c : Content). c.frozen) changed.content ∙ is in (
        now,
        ap (λ (doubt : Option Change). (changed_if doubt new.content).frozen) changed.in_doubt ∙ now,
      )

  thawed_as_it_was : IsAsItWas old new → IsThawed new
  thawed_as_it_was same = (
    ap (λ (c : Content). c.frozen) same.content ∙ thawed.0,
    ap (λ (c : Content). (changed_if new.in_doubt c).frozen) same.content
        ∙ ap (λ (doubt : Option Change). (changed_if doubt old.content).frozen) same.in_doubt ∙ thawed.1,
  )

  thawed_opened : (answer : Answer Recover) → HoldsAfter Recover answer old new → IsThawed new
  thawed_opened (Ok g) holds = elim holds.1 [
    | inl kept ↦ thawed_by None thawed.0 kept
    | inr made ↦ thawed_by old.in_doubt thawed.1 made
  ]
  thawed_opened (Err refusal) (inl same) = thawed_as_it_was same
  thawed_opened (Err refusal) (inr cut) = absurd (uncut cut.1)
    where
      uncut : MayBeCut None old new → ⊥
      uncut (Made what is changed) = cc
      uncut (InDoubt what is doubt) = cc

  thawed_read : (block : ℕ) (answer : Answer (ReadBlock block)) → HoldsAfter (ReadBlock block) answer old new → IsThawed new
  thawed_read block (Ok bytes) holds = thawed_as_it_was holds.1
  thawed_read block (Err refusal) (inl same) = thawed_as_it_was same
  thawed_read block (Err refusal) (inr cut) = absurd (uncut cut.1)
    where
      uncut : MayBeCut None old new → ⊥
      uncut (Made what is changed) = cc
      uncut (InDoubt what is doubt) = cc

  thawed_written : (first : ℕ) (contents : List (List ℕ)) (answer : Answer (WriteBlocks first contents))
      → HoldsAfter (WriteBlocks first contents) answer old new → IsThawed new
  thawed_written first contents (Ok done) changed = thawed_by (Some (BlocksAre first contents)) thawed.0 changed
  thawed_written first contents (Err refusal) (inl same) = thawed_as_it_was same
  thawed_written first contents (Err refusal) (inr cut) = by cut.1
    where
      by : MayBeCut (Some (BlocksAre first contents)) old new → IsThawed new
      by (Made what is changed) = thawed_by (Some (BlocksAre first contents)) thawed.0 changed
      by (InDoubt what is doubt) =
          let now : new.content.frozen ≡ false = ap (λ (c : Content). c.frozen) doubt.content ∙ thawed.0 in (
            now,
            ap (λ (some : Option Change). (changed_if some new.content).frozen) (doubt.in_doubt ∙ sym is) ∙ now,
          )

-- ---- along a trace

module _ (g : Geometry) (s : State) where
  answered : (now : State) (trace : List TraceItem) → now.geometry ≡ g → (IsThawed s → IsThawed now) → IsServed now trace
      → AllSteps (IsOfClient g) trace → All MakesNone trace → All (IsAnswered s) trace
  answered now [] geometry keeps served of none = All-nil (IsAnswered s)
  answered now (Did Survey (Ok member) ∷ trace) geometry keeps served of none =
      All-cons (IsAnswered s) (Did Survey (Ok member)) trace tt
      (answered now trace geometry keeps served.1 of.1 (All-tail MakesNone (Did Survey (Ok member)) trace none))
  answered now (Did Survey (Err fault) ∷ trace) geometry keeps served of none = absurd served
  answered now (Did (Create array) outcome ∷ trace) geometry keeps served of none =
      absurd (All-head MakesNone (Did (Create array) outcome) trace none)
  answered now (Stepped Recover answer events left ∷ trace) geometry keeps served of none =
      All-cons (IsAnswered s) (Stepped Recover answer events left) trace tt
      (answered served.0 trace (served.1.row.geometry ∙ geometry) (λ is. thawed_opened now served.0 (keeps is) answer served.1.row.holds) served.2 of.1
      (All-tail MakesNone (Stepped Recover answer events left) trace none))
  answered now (Stepped (ReadBlock block) answer events left ∷ trace) geometry keeps served of none =
      All-cons (IsAnswered s) (Stepped (ReadBlock block) answer events left) trace
      (served.1.done (subst (λ (k : Geometry). block < block_count k) (sym geometry) of.0))
      (answered served.0 trace (served.1.row.geometry ∙ geometry) (λ is. thawed_read now served.0 (keeps is) block answer served.1.row.holds) served.2 of.1
      (All-tail MakesNone (Stepped (ReadBlock block) answer events left) trace none))
  answered now (Stepped (WriteBlocks first contents) answer events left ∷ trace) geometry keeps served of none =
      All-cons (IsAnswered s) (Stepped (WriteBlocks first contents) answer events left) trace
      (λ is. served.1.done (subst (λ (k : Geometry). first < block_count k) (sym geometry) of.0, (keeps is).0))
      (answered served.0 trace (served.1.row.geometry ∙ geometry)
      (λ is. thawed_written now served.0 (keeps is) first contents answer served.1.row.holds) served.2 of.1
      (All-tail MakesNone (Stepped (WriteBlocks first contents) answer events left) trace none))
  answered now (Stepped step answer events left ∷ trace) geometry keeps served of none = absurd of.0
  answered now (item ∷ trace) geometry keeps served of none =
      All-cons (IsAnswered s) item trace tt (answered now trace geometry keeps served of.1 (All-tail MakesNone item trace none))

-- ---- whole calls

module _ {R W S K : Type 0} (returning : Returning) (devices : DeviceView R W) (view : Views S K) (words : List (List ℕ)) (spells : Spells words Serve)
    (status : Status) (a b : Outside S K) (x y : R) (watchers left : List W)
    (whole : ExecutesWhole devices view (program_of words) (Over status) a b x y watchers left) where
  module _ (s : State)
      (serves : ServesAlong returning devices s whole.with.means.trace (at x Begun watchers) (at y whole.session left) whole.with.works) where
    served : IsServed (without_seats s) whole.with.means.trace
    served =
        planned_served devices view returning (program_of words) status s a b x y watchers left whole
        (spelled_so (AllowsAtMost most_allowed) words Serve spells (job_allowed Serve)) serves
        (none_replaced devices view (program_of words) (Over status) s.geometry a b (at x Begun watchers) (at y whole.session left) whole.with
        (spelled_so (EachStep AdmitsNone) words Serve spells (job_admits_none Serve (λ no. no))))

    pub all_answered : All (IsAnswered s) whole.with.means.trace
    all_answered =
        let of = steps_for s.geometry (IsOfClient s.geometry) whole.with.means.trace (program_of words) (Over status) (without_seats s) refl served
        (spelled_so (EachStepFor s.geometry (IsOfClient s.geometry)) words Serve spells (serve_steps s.geometry)) whole.with.means.follows in
        answered s.geometry s (without_seats s) whole.with.means.trace refl (λ is. is) served of.0 of.1

  pub serve_done : HasNoFault view a b → (s : State)
      → ServesAlong returning devices s whole.with.means.trace (at x Begun watchers) (at y whole.session left) whole.with.works → (input : List ℕ)
      → view.source.left a.source ≡ Some input → IsCivil input → IsDone status
  serve_done none s serves input told civil =
      ends_anyhow devices view (program_of words) status s a b x y watchers left whole (served s serves) none
      (spelled_so (λ program. EndsDone s.geometry program (view.source.left a.source)) words Serve spells
      (subst (λ (left : Option (List ℕ)). EndsDone s.geometry serve_program left) (sym told) (serve_ends s.geometry input civil)))

pub clients_are_answered : (R W S K : Type 0) → ClientsAreAnswered R W S K
clients_are_answered R W S K returning devices view words status a b x y watchers left spells whole s serves =
    all_answered returning devices view words spells status a b x y watchers left whole s serves
