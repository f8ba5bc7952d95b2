-- One list of fates explains every read of a life, and what follows of it for one block.
use Rattle.std.proofs.Common.{◌≡◌, ◌∙◌, ◌<◌, ◌≤◌, ◌+◌, ◌++◌, ◌⊎◌, ℕ, zero, suc, List, [], ◌∷◌, append-nil, length, get_or, inl, inr, Option, None, Some, Ok, Err, refl, sym, ap, subst, arith}
use Rattle.std.specs.Prelude.{Bool, true, false, if◌then◌else◌}
use Rattle.std.proofs.lemmas.Bool.{cond-false, cond-true, eq-eqb, ne_eqb}
use Rattle.std.proofs.lemmas.List.Elements.{All-head, All-tail}
use Rattle.std.proofs.lemmas.Option.{get_or_from_slice_get, slice_get_within}
use Rattle.stair_member.specs.Seats.{Seats}
use Rattle.stair_state.specs.Blocks.{Blocks, with_block, with_blocks}
use Rattle.stair_state.specs.State.{Change, Content, State, changed, changed_if}
use Rattle.stair_array.specs.Machine.{AlreadyArray, Answer, CutWithin, EpochsSpent, Frozen, GivenBy, Gone, HoldsAfter, InDoubt, IsAsItWas, IsChanged, IsDecided, IsFinal, IsInDoubt, JournalLost, LookAtSeats, Lost, Made, MayBeCut, MayBegin, OutOfRange, ReadBlock, RebuildNext, Recover, Refusal, ReplaceSlot, Row, ScrubStripe, SetFrozen, SetLabel, SlotBusy, SmallDevice, Step, TooFew, WriteBlocks, change_of}
use Rattle.stair_command.specs.Lives.{AcknowledgedIsMade, AcknowledgedIsRead, ContentIsExplained, EachReadsLast, Ended, Lives, MayWrite, NoneWrites, ReadsAgree, ReadsAreExplained, ReadsLast, Took, Turn, Turns, UnwrittenStays, WasCut, IsWriteOf, after_turn, earlier, fate, is_final, last_made, read_of, write_of}

-- The state after a life is explained: nothing is in doubt, and one list of fates explains it; or a change is, and there is a list for
-- either outcome.
pub data IsExplained (life : List Turn) (first : Content) (s : State) : Type 0 where
  Certain : (fates : List Bool) → s.in_doubt ≡ None → s.content ≡ last_made life fates first → EachReadsLast life fates first
      → IsExplained life first s
  Doubtful : (change : Change) (old new : List Bool) → s.in_doubt ≡ Some change → s.content ≡ last_made life old first
      → changed change s.content ≡ last_made life new first → EachReadsLast life old first → EachReadsLast life new first
      → IsExplained life first s

pub some_none : {X : Type 0} {x : X} {o : Option X} → o ≡ Some x → o ≡ None → ⊥
some_none some none = cc

-- one life, and then another from where it led
pub lives_then : (life later : List Turn) (first mid last : State) → Lives life first mid → Lives later mid last
    → Lives (later ++ life) first last
lives_then life [] first mid last lives more = subst (λ (s : State). Lives life first s) (sym more) lives
lives_then life (turn ∷ later) first mid last lives more = (more.0, lives_then life later first mid more.0 lives more.1, more.2)

-- WHAT CAME OF A TURN

-- what a turn may do to content and doubt, where its change is this one
pub data Came (change : Option Change) (old new : State) : Type 0 where
  Kept : IsAsItWas old new → Came change old new
  Settled : change ≡ None → IsDecided old new → Came change old new
  Changed : old.in_doubt ≡ None → IsChanged change old new → Came change old new
  Doubted : old.in_doubt ≡ None → (what : Change) → change ≡ Some what → IsInDoubt what old new → Came change old new

-- a turn after which fates say so: false leaves what was held, and true makes the change
pub record HasFate (turn : Turn) (change : Option Change) : Type 0 where
  pub kept : (held : Content) → after_turn turn false held ≡ held
  pub made : (held : Content) → after_turn turn true held ≡ changed_if change held
  pub reads : (held : Content) → ReadsLast turn held

-- one more turn, whose fate is free
pub fated : (turn : Turn) (change : Option Change) (life : List Turn) (first : Content) (old new : State) → HasFate turn change
    → Came change old new → IsExplained life first old → IsExplained (turn ∷ life) first new
fated turn change life first old new has (Kept same) (Certain fates none content each) =
    Certain (false ∷ fates) (same.in_doubt ∙ none) (same.content ∙ content ∙ sym (has.kept (last_made life fates first)))
    (has.reads (last_made life fates first), each)
fated turn change life first old new has (Kept same) (Doubtful what before after doubt content either each also) =
    Doubtful what (false ∷ before) (false ∷ after) (same.in_doubt ∙ doubt) (same.content ∙ content ∙ sym (has.kept (last_made life before first)))
    (ap (changed what) same.content ∙ either ∙ sym (has.kept (last_made life after first)))
    (has.reads (last_made life before first), each) (has.reads (last_made life after first), also)
fated turn change life first old new has (Settled none (inl same)) (Certain fates certain content each) =
    Certain (false ∷ fates) same.in_doubt (same.content ∙ content ∙ sym (has.kept (last_made life fates first)))
    (has.reads (last_made life fates first), each)
fated turn change life first old new has (Settled none (inr same)) (Certain fates certain content each) =
    Certain (false ∷ fates) same.in_doubt
    (same.content ∙ ap (λ (o : Option Change). changed_if o old.content) certain ∙ content ∙ sym (has.kept (last_made life fates first)))
    (has.reads (last_made life fates first), each)
fated turn change life first old new has (Settled none (inl same)) (Doubtful what before after doubt content either each also) =
    Certain (false ∷ before) same.in_doubt (same.content ∙ content ∙ sym (has.kept (last_made life before first)))
    (has.reads (last_made life before first), each)
fated turn change life first old new has (Settled none (inr same)) (Doubtful what before after doubt content either each also) =
    Certain (false ∷ after) same.in_doubt
    (same.content ∙ ap (λ (o : Option Change). changed_if o old.content) doubt ∙ either ∙ sym (has.kept (last_made life after first)))
    (has.reads (last_made life after first), also)
fated turn change life first old new has (Changed none same) (Certain fates certain content each) =
    Certain (true ∷ fates) same.in_doubt
    (same.content ∙ ap (changed_if change) content ∙ sym (has.made (last_made life fates first)))
    (has.reads (last_made life fates first), each)
fated turn change life first old new has (Changed none same) (Doubtful what before after doubt content either each also) =
    absurd (some_none doubt none)
fated turn change life first old new has (Doubted none what is same) (Certain fates certain content each) =
    Doubtful what (false ∷ fates) (true ∷ fates) same.in_doubt (same.content ∙ content ∙ sym (has.kept (last_made life fates first)))
    (ap (changed what) same.content ∙ ap (changed what) content ∙ ap (λ (o : Option Change). changed_if o (last_made life fates first)) (sym is)
    ∙ sym (has.made (last_made life fates first)))
    (has.reads (last_made life fates first), each) (has.reads (last_made life fates first), each)
fated turn change life first old new has (Doubted none what is same) (Doubtful other before after doubt content either each also) =
    absurd (some_none doubt none)

-- ROWS

-- a step that changes something begins without a doubt
begun_certain : (step : Step) (s : State) (what : Change) → change_of step ≡ Some what → MayBegin step s → s.in_doubt ≡ None
begun_certain Recover s what is begins = absurd (some_none is refl)
begun_certain (ReadBlock b) s what is begins = begins
begun_certain (WriteBlocks first contents) s what is begins = begins
begun_certain (ScrubStripe t) s what is begins = begins
begun_certain (ReplaceSlot j) s what is begins = begins
begun_certain RebuildNext s what is begins = begins
begun_certain (SetFrozen frozen) s what is begins = begins
begun_certain (SetLabel label) s what is begins = begins
begun_certain LookAtSeats s what is begins = begins

came_cut : (step : Step) (old new : State) → MayBegin step old → MayBeCut (change_of step) old new → Came (change_of step) old new
came_cut step old new begins (Made what is made) = Changed (begun_certain step old what is begins) made
came_cut step old new begins (InDoubt what is doubt) = Doubted (begun_certain step old what is begins) what is doubt

-- where a refusal isn't for good nothing was changed
abbrev changed_by : Step → Refusal → Option Change
changed_by step refusal = if is_final refusal then change_of step else None

err_holds : (step : Step) (refusal : Refusal) (old new : State) → HoldsAfter step (Err refusal) old new
    → IsAsItWas old new ⊎ (IsFinal refusal × MayBeCut (change_of step) old new)
err_holds Recover refusal old new holds = holds
err_holds (ReadBlock b) refusal old new holds = holds
err_holds (WriteBlocks first contents) refusal old new holds = holds
err_holds (ScrubStripe t) refusal old new holds = holds
err_holds (ReplaceSlot j) refusal old new holds = holds
err_holds RebuildNext refusal old new holds = holds
err_holds (SetFrozen frozen) refusal old new holds = holds
err_holds (SetLabel label) refusal old new holds = holds
err_holds LookAtSeats refusal old new holds = holds

came_err : (step : Step) (refusal : Refusal) (old new : State) → MayBegin step old → HoldsAfter step (Err refusal) old new
    → Came (changed_by step refusal) old new
came_err step refusal old new begins holds = by_refusal refusal (err_holds step refusal old new holds)
  where
    by_refusal : (refusal : Refusal) → IsAsItWas old new ⊎ (IsFinal refusal × MayBeCut (change_of step) old new) → Came (changed_by step refusal) old new
    by_refusal (TooFew whys) (inl same) = Kept same
    by_refusal (TooFew whys) (inr cut) = came_cut step old new begins cut.1
    by_refusal EpochsSpent (inl same) = Kept same
    by_refusal EpochsSpent (inr cut) = came_cut step old new begins cut.1
    by_refusal refusal (inl same) = Kept same
    by_refusal (OutOfRange asked limit) (inr cut) = absurd cut.0
    by_refusal Frozen (inr cut) = absurd cut.0
    by_refusal (Lost t counts) (inr cut) = absurd cut.0
    by_refusal (JournalLost sector) (inr cut) = absurd cut.0
    by_refusal (SlotBusy j mark) (inr cut) = absurd cut.0
    by_refusal (Gone j) (inr cut) = absurd cut.0
    by_refusal (SmallDevice j has needs) (inr cut) = absurd cut.0
    by_refusal (AlreadyArray j) (inr cut) = absurd cut.0

reads_err : (step : Step) (refusal : Refusal) (held : Content) → ReadsLast (Took step (Err refusal)) held
reads_err Recover refusal held = tt
reads_err (ReadBlock b) refusal held = tt
reads_err (WriteBlocks first contents) refusal held = tt
reads_err (ScrubStripe t) refusal held = tt
reads_err (ReplaceSlot j) refusal held = tt
reads_err RebuildNext refusal held = tt
reads_err (SetFrozen frozen) refusal held = tt
reads_err (SetLabel label) refusal held = tt
reads_err LookAtSeats refusal held = tt

err_fate : (step : Step) (refusal : Refusal) → HasFate (Took step (Err refusal)) (changed_by step refusal)
err_fate step refusal = record { kept = λ held. refl; made = by_refusal refusal; reads = reads_err step refusal }
  where
    by_refusal : (refusal : Refusal) (held : Content) → after_turn (Took step (Err refusal)) true held ≡ changed_if (changed_by step refusal) held
    by_refusal (TooFew whys) held = refl
    by_refusal EpochsSpent held = refl
    by_refusal (OutOfRange asked limit) held = refl
    by_refusal Frozen held = refl
    by_refusal (Lost t counts) held = refl
    by_refusal (JournalLost sector) held = refl
    by_refusal (SlotBusy j mark) held = refl
    by_refusal (Gone j) held = refl
    by_refusal (SmallDevice j has needs) held = refl
    by_refusal (AlreadyArray j) held = refl

-- a turn that surely makes its change
made_surely : (turn : Turn) (change : Option Change) (life : List Turn) (first : Content) (old new : State)
    → ((held : Content) → after_turn turn true held ≡ changed_if change held)
    → ((held : Content) → old.content ≡ held → ReadsLast turn held) → old.in_doubt ≡ None → IsChanged change old new
    → IsExplained life first old → IsExplained (turn ∷ life) first new
made_surely turn change life first old new makes reads none same (Certain fates certain content each) =
    Certain (true ∷ fates) same.in_doubt (same.content ∙ ap (changed_if change) content ∙ sym (makes (last_made life fates first)))
    (reads (last_made life fates first) content, each)
made_surely turn change life first old new makes reads none same (Doubtful what before after doubt content either each also) =
    absurd (some_none doubt none)

ok_explained : (step : Step) (x : GivenBy step) (life : List Turn) (first : Content) (old new : State) → MayBegin step old
    → HoldsAfter step (Ok x) old new → IsExplained life first old → IsExplained (Took step (Ok x) ∷ life) first new
ok_explained Recover x life first old new begins holds explained =
    fated (Took Recover (Ok x)) None life first old new (record { kept = λ held. refl; made = λ held. refl; reads = λ held. tt })
    (Settled refl holds.1) explained
ok_explained (ReadBlock b) x life first old new begins holds explained =
    made_surely (Took (ReadBlock b) (Ok x)) None life first old new (λ held. refl)
    (λ held is. holds.0 ∙ ap (λ (c : Content). c.blocks b) is) begins
    (record { content = holds.1.content; in_doubt = holds.1.in_doubt ∙ begins }) explained
ok_explained (WriteBlocks from contents) x life first old new begins holds explained =
    made_surely (Took (WriteBlocks from contents) (Ok x)) (change_of (WriteBlocks from contents)) life first old new (λ held. refl) (λ held is. tt)
    begins holds explained
ok_explained (ScrubStripe t) x life first old new begins holds explained =
    made_surely (Took (ScrubStripe t) (Ok x)) None life first old new (λ held. refl) (λ held is. tt) begins holds explained
ok_explained (ReplaceSlot j) x life first old new begins holds explained =
    made_surely (Took (ReplaceSlot j) (Ok x)) None life first old new (λ held. refl) (λ held is. tt) begins holds explained
ok_explained RebuildNext x life first old new begins holds explained =
    made_surely (Took RebuildNext (Ok x)) None life first old new (λ held. refl) (λ held is. tt) begins holds explained
ok_explained (SetFrozen frozen) x life first old new begins holds explained =
    made_surely (Took (SetFrozen frozen) (Ok x)) (change_of (SetFrozen frozen)) life first old new (λ held. refl) (λ held is. tt) begins holds explained
ok_explained (SetLabel label) x life first old new begins holds explained =
    made_surely (Took (SetLabel label) (Ok x)) (change_of (SetLabel label)) life first old new (λ held. refl) (λ held is. tt) begins holds explained
ok_explained LookAtSeats x life first old new begins holds explained =
    made_surely (Took LookAtSeats (Ok x)) None life first old new (λ held. refl) (λ held is. tt) begins holds explained

-- what a cut step left
pub came_row : (step : Step) (answer : Answer step) (begun : Seats) (old new : State) → Row step answer begun old new → Came (change_of step) old new
came_row step (Err refusal) begun old new row =
    elim (err_holds step refusal old new row.holds) [ inl same ↦ Kept same | inr cut ↦ came_cut step old new row.begins cut.1 ]
came_row step (Ok x) begun old new row = ok_came step x row.begins row.holds
  where
    ok_came : (step : Step) (x : GivenBy step) → MayBegin step old → HoldsAfter step (Ok x) old new → Came (change_of step) old new
    ok_came Recover x begins holds = Settled refl holds.1
    ok_came (ReadBlock b) x begins holds = Kept holds.1
    ok_came (WriteBlocks first contents) x begins holds = Changed begins holds
    ok_came (ScrubStripe t) x begins holds = Changed begins holds
    ok_came (ReplaceSlot j) x begins holds = Changed begins holds
    ok_came RebuildNext x begins holds = Changed begins holds
    ok_came (SetFrozen frozen) x begins holds = Changed begins holds
    ok_came (SetLabel label) x begins holds = Changed begins holds
    ok_came LookAtSeats x begins holds = Changed begins holds

cut_fate : (step : Step) → HasFate (WasCut step) (change_of step)
cut_fate step = record { kept = λ held. refl; made = λ held. refl; reads = λ held. tt }

pub kept_whole : {old new : State} → new ≡ old → IsAsItWas old new
kept_whole same = record { content = ap (λ (s : State). s.content) same; in_doubt = ap (λ (s : State). s.in_doubt) same }

-- one turn more
turn_explained : (turn : Turn) (life : List Turn) (first : Content) (old new : State) → Turns turn old new → IsExplained life first old
    → IsExplained (turn ∷ life) first new
turn_explained (Took step (Ok x)) life first old new turns explained =
    ok_explained step x life first old new turns.1.begins turns.1.holds explained
turn_explained (Took step (Err refusal)) life first old new turns explained =
    fated (Took step (Err refusal)) (changed_by step refusal) life first old new (err_fate step refusal)
    (came_err step refusal old new turns.1.begins turns.1.holds) explained
turn_explained (WasCut step) life first old new turns explained =
    fated (WasCut step) (change_of step) life first old new (cut_fate step) (cut turns.1) explained
  where
    cut : CutWithin step turns.0 old new → Came (change_of step) old new
    cut (inl same) = Kept (kept_whole same)
    cut (inr row) = came_row step row.0 turns.0 old new row.1
turn_explained Ended life first old new turns explained =
    fated Ended None life first old new (record { kept = λ held. refl; made = λ held. refl; reads = λ held. tt })
    (Kept (record { content = ap (λ (s : State). s.content) turns; in_doubt = ap (λ (s : State). s.in_doubt) turns })) explained

pub explained : (life : List Turn) (s new : State) → s.in_doubt ≡ None → Lives life s new → IsExplained life s.content new
explained [] s new none lives = Certain [] (ap (λ (t : State). t.in_doubt) lives ∙ none) (ap (λ (t : State). t.content) lives) tt
explained (turn ∷ life) s new none lives = turn_explained turn life s.content lives.0 new lives.2 (explained life s lives.0 none lives.1)

pub reads_are_explained : ReadsAreExplained
reads_are_explained s new life none lives = lists (explained life s new none lives)
  where
    lists : IsExplained life s.content new → (fates : List Bool) × EachReadsLast life fates s.content
    lists (Certain fates certain content each) = (fates, each)
    lists (Doubtful what old after doubt content either each also) = (old, each)

pub content_is_explained : ContentIsExplained
content_is_explained s new life none lives certain = lists (explained life s new none lives)
  where
    lists : IsExplained life s.content new
        → (fates : List Bool) × EachReadsLast life fates s.content × (new.content ≡ last_made life fates s.content)
    lists (Certain fates none content each) = (fates, each, content)
    lists (Doubtful what old after doubt content either each also) = absurd (some_none doubt certain)

pub acknowledged_is_made : AcknowledgedIsMade
acknowledged_is_made step x life fates first = refl

-- ONE BLOCK

-- blocks that are none of those that are set stay
pub blocks_stay : (contents : List (List ℕ)) (blocks : Blocks) (first b : ℕ) → ¬ ((first ≤ b) × (b < first + length contents))
    → with_blocks blocks first contents b ≡ blocks b
blocks_stay [] blocks first b off = refl
blocks_stay (bytes ∷ more) blocks first b off =
    blocks_stay more (with_block blocks first bytes) (first + 1) b (λ within. off (omega (arith, within.0), omega (arith, within.1)))
    ∙ cond-false _ _ _ (ne_eqb b first (λ same. off (omega (arith, same), omega (arith, same))))

-- and each that is set has what it was set to
pub block_set : (contents : List (List ℕ)) (blocks : Blocks) (first k : ℕ) → k < length contents
    → with_blocks blocks first contents (first + k) ≡ get_or contents k []
block_set [] blocks first k within = absurd (omega arith)
block_set (bytes ∷ more) blocks first zero within =
    blocks_stay more (with_block blocks first bytes) (first + 1) (first + 0) (λ set. omega (arith, set.0))
    ∙ cond-true _ _ _ (eq-eqb (first + 0) first (omega arith))
block_set (bytes ∷ more) blocks first (suc k) within =
    let next : first + suc k ≡ first + 1 + k = omega arith in
    ap (with_blocks (with_block blocks first bytes) (first + 1) more) next
    ∙ block_set more (with_block blocks first bytes) (first + 1) k (omega arith)

-- a step that is no write of a block leaves it
pub other_step : (step : Step) (held : Content) (b : ℕ) → ¬ IsWriteOf b step → (changed_if (change_of step) held).blocks b ≡ held.blocks b
other_step Recover held b off = refl
other_step (ReadBlock k) held b off = refl
other_step (WriteBlocks first contents) held b off = blocks_stay contents held.blocks first b off
other_step (ScrubStripe t) held b off = refl
other_step (ReplaceSlot j) held b off = refl
other_step RebuildNext held b off = refl
other_step (SetFrozen frozen) held b off = refl
other_step (SetLabel label) held b off = refl
other_step LookAtSeats held b off = refl

-- and so does a turn, whatever its fate
other_turn : (turn : Turn) (made : Bool) (held : Content) (b : ℕ) → ¬ MayWrite b turn → (after_turn turn made held).blocks b ≡ held.blocks b
other_turn (Took step (Ok x)) made held b off = other_step step held b off
other_turn (Took step (Err refusal)) false held b off = refl
other_turn (Took step (Err (TooFew whys))) true held b off = other_step step held b (λ is. off (is, tt))
other_turn (Took step (Err EpochsSpent)) true held b off = other_step step held b (λ is. off (is, tt))
other_turn (Took step (Err _)) true held b off = refl
other_turn (WasCut step) false held b off = refl
other_turn (WasCut step) true held b off = other_step step held b off
other_turn Ended made held b off = refl

-- the fates of what was before these turns
abbrev fates_before : List Turn → List Bool → List Bool
fates_before [] fates = fates
fates_before (turn ∷ turns) fates = fates_before turns (earlier fates)

-- a block that none of these turns wrote is as before them
block_stays : (turns before : List Turn) (fates : List Bool) (first : Content) (b : ℕ) → NoneWrites b turns
    → (last_made (turns ++ before) fates first).blocks b ≡ (last_made before (fates_before turns fates) first).blocks b
block_stays [] before fates first b none = refl
block_stays (turn ∷ turns) before fates first b none =
    other_turn turn (fate fates) (last_made (turns ++ before) (earlier fates) first) b (All-head (λ other. ¬ MayWrite b other) turn turns none)
    ∙ block_stays turns before (earlier fates) first b (All-tail (λ other. ¬ MayWrite b other) turn turns none)

-- what explains a life explains what of it was before these turns
each_before : (turns before : List Turn) (fates : List Bool) (first : Content) → EachReadsLast (turns ++ before) fates first
    → EachReadsLast before (fates_before turns fates) first
each_before [] before fates first each = each
each_before (turn ∷ turns) before fates first each = each_before turns before (earlier fates) first each.1

pub unwritten_stays : UnwrittenStays
unwritten_stays s new before after b bytes none lives unwritten =
    let all = reads_are_explained s new (after ++ read_of b bytes ∷ before) none lives in
    let fates = fates_before after all.0 in
    let each = each_before after (read_of b bytes ∷ before) all.0 s.content all.1 in
    each.0 ∙ ap (λ (turns : List Turn). (last_made turns (earlier fates) s.content).blocks b) (sym (append-nil before))
    ∙ block_stays before [] (earlier fates) s.content b unwritten

pub acknowledged_is_read : AcknowledgedIsRead
acknowledged_is_read s new before between after first k contents written bytes none lives is unwritten =
    let life = between ++ write_of first contents ∷ before in
    let all = reads_are_explained s new (after ++ read_of (first + k) bytes ∷ life) none lives in
    let fates = earlier (fates_before after all.0) in
    let each = each_before after (read_of (first + k) bytes ∷ life) all.0 s.content all.1 in
    let held = last_made before (earlier (fates_before between fates)) s.content in
    each.0 ∙ block_stays between (write_of first contents ∷ before) fates s.content (first + k) unwritten
    ∙ block_set contents held.blocks first k (slice_get_within contents k written is) ∙ get_or_from_slice_get contents k written [] is

pub reads_agree : ReadsAgree
reads_agree s new before between after b bytes again none lives unwritten =
    let life = between ++ read_of b bytes ∷ before in
    let all = reads_are_explained s new (after ++ read_of b again ∷ life) none lives in
    let fates = earlier (fates_before after all.0) in
    let each = each_before after (read_of b again ∷ life) all.0 s.content all.1 in
    let first = each_before between (read_of b bytes ∷ before) fates s.content each.1 in
    each.0 ∙ block_stays between (read_of b bytes ∷ before) fates s.content b unwritten ∙ sym first.0
