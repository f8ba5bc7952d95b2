-- What the program of a script does by itself.
use Rattle.std.specs.Prelude.{◌||◌}
use Rattle.std.proofs.Common.{◌≡◌, ◌≢◌, ◌+◌, ◌*◌, ◌≤◌, ◌++◌, ℕ, zero, suc, Bool, true, false, nat_lt, List, [], ◌∷◌, Option, None, Some, length, refl, arith}
use Rattle.stair_model.specs.Geometry.{Geometry}
use Rattle.stair_array.specs.Draws.{allowance}
use Rattle.stair_array.specs.Machine.{Answer, Chunk, Dropped, GivenBy, Nothing, Progress, Promoted, ReadBlock, RebuildNext, Recover, ReplaceSlot, ScrubStripe, Step, WriteBlocks}
use Rattle.stair_script.specs.declared.line.Line.{Line}
use Rattle.stair_script.specs.declared.line.Line.TheVariants.{Blank, Read, Write, Scrub, Replace, Rebuild}
use Rattle.stair_status.specs.declared.status.Status.{Status}
use Rattle.stair_status.specs.declared.status.Status.TheVariants.{BadLine, Done, Halted, OutOfMemory, OutOfRange}
use Rattle.stair_command.specs.Drawn.{opens, stamps}
use Rattle.stair_command.specs.Ending.{AllowsAtMost, AsksForNone, CountsAtMost, EndsIn, TakesNothing}
use Rattle.stair_command.specs.Program.{Program, Over, Ask, Take, Put, Allocate, Do, Try, RebuildAll, watch_step}
use Rattle.stair_command.specs.Question.{ScriptLine}
use Rattle.stair_command.specs.Sure.{most_allowed}
use Rattle.stair_command.specs.Texts.{SCRIPT_LIMIT, ends_line}
use Rattle.stair_engine.specs.Scripts.{MAX_SCRIPT_LINE, all_lines, does_line, if_halted, if_line, if_nothing, if_stripe, last_line, line_program, lines, some_rebuilds}
use Rattle.stair_engine.proofs.MendLaws.{slot_so}
use Rattle.stair_engine.proofs.OpenLaws.{IsOfJob, left_so, refusal_own, unless_so}

-- ---- what holds for each way that a line may end

module _ (IsSo : Program → Type 0) where
  pub stripe_so : (g : Geometry) (stripe : ℕ) (program : Program) → IsSo program → IsSo (Over (OutOfRange stripe g.stripes)) → (has : Bool)
      → IsSo (if_stripe g stripe has program)
  stripe_so g stripe program has past true = has
  stripe_so g stripe program has past false = past

  nothing_so : (end more : Program) → IsSo end → IsSo more → (progress : Progress) → IsSo (if_nothing end more progress)
  nothing_so end more of_end of_more Nothing = of_end
  nothing_so end more of_end of_more (Chunk j t) = of_more
  nothing_so end more of_end of_more (Promoted j) = of_more
  nothing_so end more of_end of_more (Dropped j) = of_more

  -- steps of a rebuild, if this holds for one step given that it holds after it
  pub rebuilds_so : (slots : ℕ)
      → ((k : Progress → Bool → Program) → ((progress : Progress) (more : Bool) → IsSo (k progress more)) → IsSo (watch_step slots RebuildNext k))
      → (left done : ℕ) (gone : Bool) (k : ℕ → Bool → Program) → ((steps : ℕ) (gone : Bool) → IsSo (k steps gone)) → IsSo (some_rebuilds slots left done gone k)
  rebuilds_so slots one zero done gone k behind = behind done gone
  rebuilds_so slots one (suc left) done gone k behind =
      one _ (λ progress more. nothing_so (k done (gone || more)) _ (behind done (gone || more))
      (rebuilds_so slots one left (done + 1) (gone || more) k behind) progress)

  -- where it is halted or goes on
  pub halted_so : (guarded : Bool) (number : ℕ) (rest : Program) → IsSo (Over (Halted number)) → IsSo rest → (left : Bool) → IsSo (if_halted guarded number rest left)
  halted_so guarded number rest halts goes left = left_so IsSo _ _ (left_so IsSo _ _ halts goes left) goes guarded

-- A plan's own status is none of a fault and not Usage, nor is it lack of memory.
abbrev pub IsOfLine : Status → Type 0
IsOfLine status = IsOfJob status × (status ≢ OutOfMemory)

-- a number for each opening and each stamp
abbrev pub opens_or_stamps : Step → ℕ
opens_or_stamps step = opens step + stamps step

-- What holds for the program of a line, if it holds for each node of it given that it holds after it. No step of it
-- opens an array or sets a stamp.
pub record IsOfNodes (IsSo : Program → Type 0) : Type 0 where
  pub ends : (status : Status) → IsOfLine status → IsSo (Over status)
  pub asks : (bytes : List ℕ) (k : Option Line → Program) → ((reply : Option Line) → IsSo (k reply)) → IsSo (Ask (ScriptLine bytes) k)
  pub puts : (bytes : List ℕ) (program : Program) → IsSo program → IsSo (Put bytes program)
  pub tries : (step : Step) → opens_or_stamps step ≡ 0 → (k : Answer step → Bool → Program) → ((answer : Answer step) (left : Bool) → IsSo (k answer left)) → IsSo (Try step k)

module _ (IsSo : Program → Type 0) (nodes : IsOfNodes IsSo) where
  step_so : (slots : ℕ) (step : Step) → opens_or_stamps step ≡ 0 → (k : GivenBy step → Bool → Program)
      → ((given : GivenBy step) (left : Bool) → IsSo (k given left)) → IsSo (watch_step slots step k)
  step_so slots step none k behind =
      nodes.tries step none _ (unless_so IsSo slots k behind (λ refusal. nodes.ends _ (refusal_own slots refusal)))

  range_own : (asked limit : ℕ) → IsSo (Over (OutOfRange asked limit))
  range_own asked limit = nodes.ends _ (((λ is. cc, λ is. cc), λ is. cc), λ is. cc)

  line_so : (g : Geometry) (said : Line) (rest : Bool → Program) → ((left : Bool) → IsSo (rest left)) → IsSo (line_program g said rest)
  line_so g Blank rest so = so false
  line_so g (Read block) rest so = step_so g.n (ReadBlock block) refl _ (λ contents left. nodes.puts _ (rest left) (so left))
  line_so g (Write block contents) rest so = step_so g.n (WriteBlocks block (contents ∷ [])) refl _ (λ done left. nodes.puts _ (rest left) (so left))
  line_so g (Scrub stripe) rest so =
      stripe_so IsSo g stripe _ (step_so g.n (ScrubStripe stripe) refl _ (λ cells left. nodes.puts _ (rest left) (so left))) (range_own stripe g.stripes)
      (nat_lt stripe g.stripes)
  line_so g (Replace slot) rest so =
      slot_so IsSo g slot _ (step_so g.n (ReplaceSlot slot) refl _ (λ done left. nodes.puts _ (rest left) (so left))) (range_own slot g.n) (nat_lt slot g.n)
  line_so g (Rebuild steps) rest so =
      rebuilds_so IsSo g.n (λ k behind. step_so g.n RebuildNext refl k behind) steps 0 false _ (λ done left. nodes.puts _ (rest left) (so left))

  does_so : (g : Geometry) (number : ℕ) (line : List ℕ) (rest : Bool → Program) → ((left : Bool) → IsSo (rest left)) → IsSo (does_line g number line rest)
  does_so g number line rest so = nodes.asks line (if_line g number rest) by
    where
      by : (reply : Option Line) → IsSo (if_line g number rest reply)
      by None = nodes.ends _ (((λ is. cc, λ is. cc), λ is. cc), λ is. cc)
      by (Some said) = line_so g said rest so

  module _ (guarded : Bool) where
    -- after a line
    behind_so : (number : ℕ) (rest : Program) → IsSo rest → (left : Bool) → IsSo (if_halted guarded number rest left)
    behind_so number rest so = halted_so IsSo guarded number rest (nodes.ends _ (((λ is. cc, λ is. cc), λ is. cc), λ is. cc)) so

    pub last_so : (g : Geometry) (number : ℕ) (line : List ℕ) → IsSo (last_line guarded g number line)
    last_so g number [] = nodes.ends Done (((λ is. cc, λ is. cc), λ is. cc), λ is. cc)
    last_so g number (byte ∷ line) =
        does_so g number (byte ∷ line) _ (behind_so number (Over Done) (nodes.ends Done (((λ is. cc, λ is. cc), λ is. cc), λ is. cc)))

    module _ (takes : (least most : ℕ) (k short : List ℕ → Program) → ((bytes : List ℕ) → IsSo (k bytes)) → ((bytes : List ℕ) → IsSo (short bytes))
        → IsSo (Take least most k short)) where
      lines_so : (g : Geometry) (room number : ℕ) (line : List ℕ) → IsSo (lines guarded g room number line)
      lines_so g zero number line =
          takes 1 1 _ _ (λ more. nodes.ends _ (((λ is. cc, λ is. cc), λ is. cc), λ is. cc)) (λ none. last_so g number line)
      lines_so g (suc room) number line =
          takes 1 1 _ _
          (λ byte. left_so IsSo _ _ (does_so g number line _ (behind_so number _ (lines_so g room (number + 1) [])))
          (left_so IsSo _ _ (lines_so g room number (line ++ byte)) (nodes.ends _ (((λ is. cc, λ is. cc), λ is. cc), λ is. cc))
          (nat_lt (length line) MAX_SCRIPT_LINE)) (ends_line byte)) (λ none. last_so g number line)

      -- and after the opening
      script_so : (g : Geometry) (left : Bool) → IsSo (if_halted guarded 0 (all_lines guarded g) left)
      script_so g = behind_so 0 (all_lines guarded g) (lines_so g SCRIPT_LIMIT 1 [])

-- ---- the statuses by which it ends, and that it asks for no memory

own_nodes : IsOfNodes (EndsIn IsOfJob)
own_nodes = record {
  ends = λ status of. of.0;
  asks = λ bytes k behind reply is. behind reply;
  puts = λ bytes program behind. behind;
  tries = λ step none k behind. behind;
}

pub script_own : (guarded : Bool) (g : Geometry) (left : Bool) → EndsIn IsOfJob (if_halted guarded 0 (all_lines guarded g) left)
script_own guarded = script_so (EndsIn IsOfJob) own_nodes guarded (λ least most k short behind end. (behind, end))

none_nodes : IsOfNodes AsksForNone
none_nodes = record {
  ends = λ status of. of.1;
  asks = λ bytes k behind reply is. behind reply;
  puts = λ bytes program behind. behind;
  tries = λ step none k behind. behind;
}

pub script_none : (guarded : Bool) (g : Geometry) (left : Bool) → AsksForNone (if_halted guarded 0 (all_lines guarded g) left)
script_none guarded = script_so AsksForNone none_nodes guarded (λ least most k short behind end. (behind, end))

-- ---- nothing is taken once the end was seen

untaken_nodes : IsOfNodes TakesNothing
untaken_nodes = record {
  ends = λ status of. of.0.0.0;
  asks = λ bytes k behind reply is. behind reply;
  puts = λ bytes program behind. behind;
  tries = λ step none k behind. behind;
}

pub last_untaken : (guarded : Bool) (g : Geometry) (number : ℕ) (line : List ℕ) → TakesNothing (last_line guarded g number line)
last_untaken = last_so TakesNothing untaken_nodes

-- ---- how many draws its steps are allowed: those of a replacement for each line

pub allows_more : (n m : ℕ) → n ≤ m → (program : Program) → AllowsAtMost n program → AllowsAtMost m program
allows_more n m more (Over status) allows = tt
allows_more n m more (Ask question k) allows = λ reply is. allows_more n m more (k reply) (allows reply is)
allows_more n m more (Take least most k short) allows =
    (λ bytes. allows_more n m more (k bytes) (allows.0 bytes), λ bytes. allows_more n m more (short bytes) (allows.1 bytes))
allows_more n m more (Put bytes program) allows = allows_more n m more program allows
allows_more n m more (Allocate program) allows = allows_more n m more program allows
allows_more n m more (Do action k) allows = λ done. allows_more n m more (k done) (allows done)
allows_more n m more (Try step k) allows = (allows.0, omega (arith, allows.1, more), allows.2)
allows_more n m more (RebuildAll slots done k) allows = λ count. allows_more n m more (k count) (allows count)

step_allowed : (n m : ℕ) → 3 + m ≤ n → (slots : ℕ) (step : Step) (k : GivenBy step → Bool → Program) → allowance step ≤ 3
    → ((given : GivenBy step) (left : Bool) → AllowsAtMost m (k given left)) → AllowsAtMost n (watch_step slots step k)
step_allowed n m more slots step k few behind = (m, omega (arith, more, few), unless_so (AllowsAtMost m) slots k behind (λ refusal. tt))

line_allowed : (n m : ℕ) → 3 + m ≤ n → (g : Geometry) (said : Line) (rest : Bool → Program) → ((left : Bool) → AllowsAtMost m (rest left))
    → AllowsAtMost n (line_program g said rest)
line_allowed n m more g Blank rest allows = allows_more m n (omega (arith, more)) (rest false) (allows false)
line_allowed n m more g (Read block) rest allows = step_allowed n m more g.n (ReadBlock block) _ (omega arith) (λ contents left. allows left)
line_allowed n m more g (Write block contents) rest allows =
    step_allowed n m more g.n (WriteBlocks block (contents ∷ [])) _ (omega arith) (λ done left. allows left)
line_allowed n m more g (Scrub stripe) rest allows =
    stripe_so (AllowsAtMost n) g stripe _ (step_allowed n m more g.n (ScrubStripe stripe) _ (omega arith) (λ cells left. allows left)) tt
    (nat_lt stripe g.stripes)
line_allowed n m more g (Replace slot) rest allows =
    slot_so (AllowsAtMost n) g slot _ (step_allowed n m more g.n (ReplaceSlot slot) _ (omega arith) (λ done left. allows left)) tt (nat_lt slot g.n)
line_allowed n m more g (Rebuild steps) rest allows =
    rebuilds_so (AllowsAtMost n) g.n (λ k behind. (n, omega arith, unless_so (AllowsAtMost n) g.n k behind (λ refusal. tt)))
    steps 0 false _ (λ done left. allows_more m n (omega (arith, more)) (rest left) (allows left))

does_allowed : (n m : ℕ) → 3 + m ≤ n → (g : Geometry) (number : ℕ) (line : List ℕ) (rest : Bool → Program) → ((left : Bool) → AllowsAtMost m (rest left))
    → AllowsAtMost n (does_line g number line rest)
does_allowed n m more g number line rest allows = λ reply is. by reply
  where
    by : (reply : Option Line) → AllowsAtMost n (if_line g number rest reply)
    by None = tt
    by (Some said) = line_allowed n m more g said rest allows

module _ (guarded : Bool) where
  last_allowed : (n : ℕ) → 3 ≤ n → (g : Geometry) (number : ℕ) (line : List ℕ) → AllowsAtMost n (last_line guarded g number line)
  last_allowed n more g number [] = tt
  last_allowed n more g number (byte ∷ line) =
      does_allowed n 0 (omega (arith, more)) g number (byte ∷ line) _ (halted_so (AllowsAtMost 0) guarded number (Over Done) tt tt)

  lines_within : (n room : ℕ) → 3 * room + 3 ≤ n → (g : Geometry) (number : ℕ) (line : List ℕ) → AllowsAtMost n (lines guarded g room number line)
  lines_within n zero more g number line = (λ byte. tt, λ none. last_allowed n (omega (arith, more)) g number line)
  lines_within n (suc room) more g number line = (
    λ byte. left_so (AllowsAtMost n) _ _
        (does_allowed n (3 * room + 3) (omega (arith, more)) g number line _
        (halted_so (AllowsAtMost (3 * room + 3)) guarded number _ tt (lines_within (3 * room + 3) room (omega arith) g (number + 1) [])))
        (left_so (AllowsAtMost n) _ (Over (BadLine number)) (lines_within n room (omega (arith, more)) g number (line ++ byte)) tt
        (nat_lt (length line) MAX_SCRIPT_LINE)) (ends_line byte),
    λ none. last_allowed n (omega (arith, more)) g number line,
  )

  pub script_allowed : (slots : ℕ) → AllowsAtMost most_allowed (watch_step slots Recover (λ g left. if_halted guarded 0 (all_lines guarded g) left))
  script_allowed slots = (
    3 * SCRIPT_LIMIT + 3,
    omega arith,
    unless_so (AllowsAtMost (3 * SCRIPT_LIMIT + 3)) slots (λ g left. if_halted guarded 0 (all_lines guarded g) left)
        (λ g left. halted_so (AllowsAtMost (3 * SCRIPT_LIMIT + 3)) guarded 0 (all_lines guarded g) tt
        (lines_within (3 * SCRIPT_LIMIT + 3) SCRIPT_LIMIT (omega arith) g 1 []) left) (λ refusal. tt),
  )

-- ---- how often it opens an array or sets a stamp: once

count_nodes : (n : ℕ) → IsOfNodes (CountsAtMost opens_or_stamps n)
count_nodes n = record {
  ends = λ status of. tt;
  asks = λ bytes k behind reply is. behind reply;
  puts = λ bytes program behind. behind;
  tries = λ step none k behind. (n, omega (arith, none), behind);
}

pub script_counts : (guarded : Bool) (slots : ℕ)
    → CountsAtMost opens_or_stamps 4 (watch_step slots Recover (λ g left. if_halted guarded 0 (all_lines guarded g) left))
script_counts guarded slots = (
  3,
  omega arith,
  unless_so (CountsAtMost opens_or_stamps 3) slots (λ g left. if_halted guarded 0 (all_lines guarded g) left)
      (script_so (CountsAtMost opens_or_stamps 3) (count_nodes 3) guarded (λ least most k short behind end. (behind, end))) (λ refusal. tt),
)
