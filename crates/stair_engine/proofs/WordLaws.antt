-- Every end that a call of words comes to: of lack of memory, of words that spell no job, and of the job that they spell.
use Rattle.std.proofs.Common.{◌≡◌, ℕ, List, Option, None, Some, sym, subst}
use Rattle.stair_conf.specs.Words.{IsSpelled, Spells}
use Rattle.stair_conf.specs.declared.job.Job.{Job}
use Rattle.stair_conf.proofs.WordsLemmas.{spells_once}
use Rattle.stair_command.specs.Outside.{Outside, Views, outside}
use Rattle.stair_command.specs.Program.{Program, Over}
use Rattle.stair_command.specs.Question.{IsReply, Words}
use Rattle.stair_command.specs.Rack.{ExecutesOver, RackView, Works}
use Rattle.stair_command.specs.Trace.{TraceItem}
use Rattle.stair_status.specs.declared.status.Status.{Status}
use Rattle.stair_status.specs.declared.status.Status.TheVariants.{Usage, OutOfMemory}
use Rattle.stair_command.proofs.AllEnds.{AllEnd, over_all}
use Rattle.stair_engine.specs.Programs.{if_spelled, job_program, program_of}

-- what holds for a command's program holds for what is done for words that spell it
pub spelled_so : (IsSo : Program → Type 0) (words : List (List ℕ)) (of : Job) → Spells words of → IsSo (job_program of) → (reply : Option Job)
    → IsReply (Words words) reply → IsSo (if_spelled reply)
spelled_so IsSo words of spells so None not = absurd (not (of, spells))
spelled_so IsSo words of spells so (Some job) read = subst (λ (j : Job). IsSo (job_program j)) (spells_once words of job spells read) so

module _ {X S K : Type 0} (One : TraceItem → X → X → Type 0) (view : Views S K) (Q : Status → Outside S K → X → Type 0) (words : List (List ℕ))
    (a : Outside S K) (x : X) where
  pub words_all : Q OutOfMemory a x → ((IsSpelled words → ⊥) → Q Usage a x) → ((job : Job) → Spells words job → AllEnd One view Q (job_program job) a x)
      → AllEnd One view Q (program_of words) a x
  words_all short usage jobs = (asked, short)
    where
      asked : (reply : Option Job) (n : ℕ) → IsReply (Words words) reply → n ≡ a.counter
          → AllEnd One view Q (if_spelled reply) (outside a.source a.sink n) x
      asked None n not same = subst (λ (m : ℕ). Q Usage (outside a.source a.sink m) x) (sym same) (usage not)
      asked (Some job) n spells same =
          subst (λ (m : ℕ). AllEnd One view Q (job_program job) (outside a.source a.sink m) x) (sym same) (jobs job spells)

  -- where they spell this job
  pub spelled_all : (job : Job) → Spells words job → Q OutOfMemory a x → AllEnd One view Q (job_program job) a x → AllEnd One view Q (program_of words) a x
  spelled_all job spells short all =
      words_all short (λ not. absurd (not (job, spells)))
      (λ read is. subst (λ (j : Job). AllEnd One view Q (job_program j) a x) (spells_once words job read spells is) all)

-- so of a call over a rack
module _ {R S K : Type 0} (rack : RackView R) (view : Views S K) (Q : Status → Outside S K → R → Type 0) (words : List (List ℕ)) (status : Status)
    (a b : Outside S K) (x y : R) (over : ExecutesOver rack view (program_of words) (Over status) a b x y) where
  pub over_words : Q OutOfMemory a x → ((IsSpelled words → ⊥) → Q Usage a x)
      → ((job : Job) → Spells words job → AllEnd (Works rack) view Q (job_program job) a x) → Q status b y
  over_words short usage jobs =
      over_all rack view Q (program_of words) status a b x y over (words_all (Works rack) view Q words a x short usage jobs)

  pub over_spelled : (job : Job) → Spells words job → Q OutOfMemory a x → AllEnd (Works rack) view Q (job_program job) a x → Q status b y
  over_spelled job spells short all =
      over_all rack view Q (program_of words) status a b x y over (spelled_all (Works rack) view Q words a x job spells short all)
