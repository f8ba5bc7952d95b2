-- A script of lines that the array can do is sure, and admits no medium where no line puts a device in.
use Rattle.std.proofs.Common.{◌≡◌, ◌≢◌, ◌∙◌, ℕ, ◌<◌, ◌≤◌, List, [], ◌∷◌, All, Option, None, Some, Ok, Bool, false, nat_lt, length, refl, sym, ap, subst, arith}
use Rattle.std.proofs.lemmas.Bool.{lt-ltb}
use Rattle.std.proofs.lemmas.List.Elements.{All-weaker}
use Rattle.std.specs.Int.{IsInRange}
use Rattle.stair_model.specs.Geometry.{Geometry, block_count}
use Rattle.stair_state.specs.State.{Content, State, without_seats}
use Rattle.stair_array.specs.Machine.{GivenBy, HoldsAfter, PassesTests, ReadBlock, RebuildNext, Recover, ReplaceSlot, ScrubStripe, Step, WriteBlocks}
use Rattle.stair_member.specs.Seats.{Seats}
use Rattle.stair_script.specs.Line.{SpellsLine}
use Rattle.stair_script.specs.declared.line.Line.{Line}
use Rattle.stair_script.specs.declared.line.Line.TheVariants.{Blank, Read, Write, Scrub, Replace, Rebuild}
use Rattle.stair_script.proofs.LineLemmas.{line_length, line_once, line_printable}
use Rattle.stair_command.specs.Ending.{AdmitsNone}
use Rattle.stair_command.specs.Program.{Program, Put, watch_step}
use Rattle.stair_command.specs.Question.{IsReply, ScriptLine}
use Rattle.stair_command.specs.Sure.{IsFreeFor, Completes, counted_behind}
use Rattle.stair_command.specs.Texts.{AreLines, SCRIPT_LIMIT}
use Rattle.stair_command.proofs.PlannedLaws.{EachStepOf}
use Rattle.stair_command.proofs.TextSureLaws.{AreShort, IsOfText, text_so}
use Rattle.stair_engine.specs.Complete.{IsLineOf, IsScriptOf, IsThawed, PutsNoneIn}
use Rattle.stair_engine.specs.Mending.{if_slot}
use Rattle.stair_engine.specs.Scripts.{MAX_SCRIPT_LINE, admitted_reply, all_lines, if_halted, if_line, if_stripe, line_program, read_reply, run_program, script_line, script_over, script_program, scrubbed_reply, wrote_reply}
use Rattle.stair_engine.proofs.LineLaws.{halted_so, rebuilds_so, stripe_so}
use Rattle.stair_engine.proofs.OpenLaws.{unless_so}
use Rattle.stair_engine.proofs.SureLaws.{one_block, opens_sure, still_thawed}

-- ---- lines

lines_short : AreShort SpellsLine MAX_SCRIPT_LINE
lines_short = record {
  short = λ bytes said spells. omega (arith, line_length bytes said spells);
  inner = λ bytes said spells. All-weaker (IsInRange 32 126) (λ b. b ≢ 10) (λ b printed is. omega (arith, printed.0, is)) bytes (line_printable bytes said spells);
}

-- a line that is spelled is read so
module _ (g : Geometry) (IsSo : Program → Option (List ℕ) → Type 0) (number : ℕ) (bytes : List ℕ) (said : Line) (rest : Bool → Program) (left : Option (List ℕ))
    (spells : SpellsLine bytes said) (so : IsSo (line_program g said rest) left) where
  read_so : (reply : Option Line) → IsReply (ScriptLine bytes) reply → IsSo (if_line g number rest reply) left
  read_so None is = absurd (is said spells)
  read_so (Some other) is = subst (λ (said : Line). IsSo (line_program g said rest) left) (line_once bytes said other spells is) so

-- ---- each step passes its tests

module _ (start : State) where
  -- an array that was in that state is open, and thawed still
  abbrev IsOpen : State → Type 0
  IsOpen s = (s.geometry ≡ start.geometry) × (IsThawed start → s.content.frozen ≡ false)

  abbrev CompletesOpen : Program → Option (List ℕ) → Type 0
  CompletesOpen program left = (counted : List ℕ) (s : State) → IsOpen s → Completes counted program s left

  step_sure : (slots : ℕ) (step : Step) (k : GivenBy step → Bool → Program) (left : Option (List ℕ))
      → ((s : State) (seats : Seats) → IsOpen s → IsFreeFor step seats → PassesTests step s seats)
      → ((given : GivenBy step) (s later : State) → HoldsAfter step (Ok given) s later → later.content.frozen ≡ s.content.frozen)
      → ((given : GivenBy step) (gone : Bool) → CompletesOpen (k given gone) left) → CompletesOpen (watch_step slots step k) left
  step_sure slots step k left passes keeps behind counted s is_open = (
    λ seats known free. passes s seats is_open free,
    λ given gone later done.
        behind given gone (counted_behind step counted) later
        (done.row.geometry ∙ is_open.0, λ thawed. keeps given s later done.row.holds ∙ is_open.1 thawed),
  )

  line_sure : (said : Line) (rest : Bool → Program) (left : Option (List ℕ)) → IsLineOf start said → ((gone : Bool) → CompletesOpen (rest gone) left)
      → CompletesOpen (line_program start.geometry said rest) left
  line_sure Blank rest left is so = so false
  line_sure (Read block) rest left is so =
      step_sure start.geometry.n (ReadBlock block) (λ contents gone. Put (read_reply block contents) (rest gone)) left
      (λ s seats is_open free. subst (λ (g : Geometry). block < block_count g) (sym is_open.0) is)
      (λ contents s later holds. ap (λ (c : Content). c.frozen) holds.1.content) (λ contents. so)
  line_sure (Write block contents) rest left is so =
      step_sure start.geometry.n (WriteBlocks block (contents ∷ [])) (λ done gone. Put (wrote_reply block) (rest gone)) left
      (λ s seats is_open free. (
        subst (λ (g : Geometry). block < block_count g) (sym is_open.0) is.0,
        one_block s.geometry block (subst (λ (g : Geometry). block < block_count g) (sym is_open.0) is.0),
        is_open.1 is.1,
      )) (λ done s later holds. ap (λ (c : Content). c.frozen) holds.content) (λ done. so)
  line_sure (Scrub stripe) rest left is so =
      let one = watch_step start.geometry.n (ScrubStripe stripe) (λ cells gone. Put (scrubbed_reply stripe cells) (rest gone)) in
      subst (λ (has : Bool). CompletesOpen (if_stripe start.geometry stripe has one) left) (sym (lt-ltb stripe start.geometry.stripes is))
      (step_sure start.geometry.n (ScrubStripe stripe) (λ cells gone. Put (scrubbed_reply stripe cells) (rest gone)) left
      (λ s seats is_open free. subst (λ (g : Geometry). stripe < g.stripes) (sym is_open.0) is)
      (λ cells s later holds. ap (λ (c : Content). c.frozen) holds.content) (λ cells. so))
  line_sure (Replace slot) rest left is so =
      let one = watch_step start.geometry.n (ReplaceSlot slot) (λ done gone. Put (admitted_reply slot) (rest gone)) in
      subst (λ (has : Bool). CompletesOpen (if_slot start.geometry slot has one) left) (sym (lt-ltb slot start.geometry.n is))
      (step_sure start.geometry.n (ReplaceSlot slot) (λ done gone. Put (admitted_reply slot) (rest gone)) left
      (λ s seats is_open free. (subst (λ (g : Geometry). slot < g.n) (sym is_open.0) is, free))
      (λ done s later holds. ap (λ (c : Content). c.frozen) holds.content) (λ done. so))
  line_sure (Rebuild steps) rest left is so =
      rebuilds_so (λ program. CompletesOpen program left) start.geometry.n
      (λ k behind. step_sure start.geometry.n RebuildNext k left (λ s seats is_open free. tt)
      (λ progress s later holds. ap (λ (c : Content). c.frozen) holds.content) behind) steps 0 false _ (λ done. so)

  sure_nodes : IsOfText SpellsLine (script_line false start.geometry) script_over (IsLineOf start) CompletesOpen
  sure_nodes = record {
    over = λ x counted s is_open. refl;
    takes = λ k short told behind end counted s is_open. (
      λ bytes rest same enough. behind bytes rest same enough counted s is_open,
      λ few. end few counted s is_open,
    );
    line = λ number bytes said x rest left spells is so counted s is_open reply right.
        read_so start.geometry CompletesOpen number bytes said (λ gone. rest tt) left spells
        (line_sure said (λ gone. rest tt) left is (λ gone. so tt)) reply right counted s is_open;
  }

pub run_sure : (s : State) (script : List Line) (input : List ℕ) → IsScriptOf s script input → Completes [] run_program (without_seats s) (Some input)
run_sure s script input is =
    opens_sure (all_lines false) (without_seats s) (Some input)
    (λ later decided same.
    text_so SpellsLine MAX_SCRIPT_LINE lines_short (script_line false s.geometry) script_over (IsLineOf s) (CompletesOpen s) (sure_nodes s) SCRIPT_LIMIT input tt script
    is.script is.each is.few [] later (same, λ thawed. still_thawed (without_seats s) later decided thawed))

-- ---- no step admits a medium

abbrev AdmitsNoneOf : Program → Option (List ℕ) → Type 0
AdmitsNoneOf program left = EachStepOf AdmitsNone program left

step_none : (slots : ℕ) (step : Step) (k : GivenBy step → Bool → Program) (left : Option (List ℕ)) → AdmitsNone step
    → ((given : GivenBy step) (gone : Bool) → AdmitsNoneOf (k given gone) left) → AdmitsNoneOf (watch_step slots step k) left
step_none slots step k left none behind =
    (none, unless_so (λ program. AdmitsNoneOf program left) slots k behind (λ refusal. tt))

line_none : (g : Geometry) (said : Line) (rest : Bool → Program) (left : Option (List ℕ)) → PutsNoneIn said → ((gone : Bool) → AdmitsNoneOf (rest gone) left)
    → AdmitsNoneOf (line_program g said rest) left
line_none g Blank rest left none so = so false
line_none g (Read block) rest left none so = step_none g.n (ReadBlock block) _ left tt (λ contents. so)
line_none g (Write block contents) rest left none so = step_none g.n (WriteBlocks block (contents ∷ [])) _ left tt (λ done. so)
line_none g (Scrub stripe) rest left none so =
    stripe_so (λ program. AdmitsNoneOf program left) g stripe _ (step_none g.n (ScrubStripe stripe) _ left tt (λ cells. so)) tt (nat_lt stripe g.stripes)
line_none g (Replace slot) rest left none so = absurd none
line_none g (Rebuild steps) rest left none so =
    rebuilds_so (λ program. AdmitsNoneOf program left) g.n (λ k behind. step_none g.n RebuildNext k left tt behind) steps 0 false _ (λ done. so)

none_nodes : (guarded : Bool) (g : Geometry) → IsOfText SpellsLine (script_line guarded g) script_over PutsNoneIn AdmitsNoneOf
none_nodes guarded g = record {
  over = λ x. tt;
  takes = λ k short told behind end. (behind, end);
  line = λ number bytes said x rest left spells none so reply right.
      read_so g AdmitsNoneOf number bytes said (if_halted guarded number (rest tt)) left spells
      (line_none g said (if_halted guarded number (rest tt)) left none (halted_so (λ program. AdmitsNoneOf program left) guarded number (rest tt) tt (so tt)))
      reply right;
}

pub script_admits_none : (guarded : Bool) (script : List Line) (input : List ℕ) → length input ≤ SCRIPT_LIMIT → AreLines SpellsLine script input
    → All PutsNoneIn script → EachStepOf AdmitsNone (script_program guarded) (Some input)
script_admits_none guarded script input few is none = λ member.
    step_none member.array.geometry.n Recover (λ g gone. if_halted guarded 0 (all_lines guarded g) gone) (Some input) tt
    (λ g gone.
    halted_so (λ program. AdmitsNoneOf program (Some input)) guarded 0 (all_lines guarded g) tt
    (text_so SpellsLine MAX_SCRIPT_LINE lines_short (script_line guarded g) script_over PutsNoneIn AdmitsNoneOf (none_nodes guarded g) SCRIPT_LIMIT input tt script is
    none few) gone)
