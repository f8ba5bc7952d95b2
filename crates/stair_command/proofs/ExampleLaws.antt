-- The example of a life is one, in each course of its writes.
use Rattle.std.proofs.Common.{◌≡◌, ◌≢◌, ◌∙◌, ◌<◌, ◌≤◌, ℕ, List, [], ◌∷◌, ◌++◌, length, get_or, inl, inr, Ok, Err, refl, sym, ap, subst, arith}
use Rattle.std.specs.Prelude.{Bool, true, false, slice_index, if◌then◌else◌}
use Rattle.std.proofs.lemmas.List.Elements.{All-cons, All-nil}
use Rattle.stair_model.specs.Geometry.{IsWithinLimits}
use Rattle.stair_member.specs.Seats.{Seats}
use Rattle.stair_state.specs.Blocks.{AreOfOneStripe, zero_block}
use Rattle.stair_state.specs.State.{BlocksAre, Content, State, created_state, first_content, first_seats, without_seats}
use Rattle.stair_invariant.specs.SeatSteps.{EachMayDrop}
use Rattle.stair_array.specs.Machine.{Answer, AreKnown, CutWithin, HoldsAfter, InDoubt, IsAsItWas, IsDecided, Made, MayBegin, PassesTests, ReadBlock, Recover, Row, SeatsAfter, Step, WasBegun, WriteBlocks, change_of}
use Rattle.stair_command.specs.LifeExample.{Course, IsExample, LeftInDoubt, LeftNew, LeftOld, block_of, cut_write, example_geometry, example_life, fates_with, first_session, held_after, held_between, held_last, is_made, left_by, open_with, opening, read_first, read_then, refused_write, second_session, third_session, two_gone}
use Rattle.stair_command.specs.Lives.{EachReadsLast, Lives, Took, Turns, WasCut, after_turn, read_of}
use Rattle.stair_command.proofs.LifeLaws.{Came, Changed, Doubted, Kept, Settled, came_row, kept_whole, lives_then, other_step, some_none}

-- THE ARRAY

example_limits : IsWithinLimits example_geometry
example_limits = record {
  devices = (omega arith, omega arith);
  parities = omega arith;
  majority = omega arith;
  covered_chunks = (omega arith, omega arith);
  rows = (omega arith, omega arith);
  covered_sectors = (
    All-cons (λ x. (1 ≤ x) × (x ≤ 2)) 1 [] (omega arith, omega arith) (All-nil (λ x. (1 ≤ x) × (x ≤ 2))),
    λ i j d order within.
        let same : i ≡ j = omega arith in subst (λ k. get_or (1 ∷ []) i d ≤ get_or (1 ∷ []) k d) same (omega arith),
  );
  blocks = omega arith;
  size = (omega arith, omega arith, omega arith);
}

-- the seats of the example never change
abbrev seats : Seats
seats = first_seats example_geometry

none_dropped : EachMayDrop seats seats
none_dropped j = inl refl

-- TURNS

-- a row between states whose seats are known at its end
still : (step : Step) (answer : Answer step) (old new : State) → new.geometry ≡ old.geometry → MayBegin step old
    → (WasBegun step answer → PassesTests step old seats) → HoldsAfter step answer old new → AreKnown step answer new.seats seats
    → SeatsAfter step answer seats seats → Row step answer seats old new
still step answer old new geometry begins passes holds known marks = record {
  geometry = geometry;
  begins = begins;
  passes = passes;
  holds = holds;
  seats = seats;
  known = known;
  marks = marks;
}

-- the first opening, which finds no doubt
opens : Turns opening (created_state example_geometry) (open_with first_content)
opens = (
  seats,
  still Recover (Ok example_geometry) (created_state example_geometry) (open_with first_content) refl tt (λ begun. tt)
      (refl, inl (record { content = refl; in_doubt = refl })) refl none_dropped,
)

-- one after such a write
opens_after : (step : Step) (course : Course) (held : Content)
    → Turns opening (without_seats (left_by step course held)) (open_with (held_after step course held))
opens_after step course held = (
  seats,
  still Recover (Ok example_geometry) (without_seats (left_by step course held)) (open_with (held_after step course held))
      (same course) tt (λ begun. tt) (same course, decided course) refl none_dropped,
)
  where
    same : (course : Course) → example_geometry ≡ (left_by step course held).geometry
    same LeftOld = refl
    same LeftNew = refl
    same (LeftInDoubt found_new) = refl

    decided : (course : Course) → IsDecided (without_seats (left_by step course held)) (open_with (held_after step course held))
    decided LeftOld = inl (record { content = refl; in_doubt = refl })
    decided LeftNew = inl (record { content = refl; in_doubt = refl })
    decided (LeftInDoubt false) = inl (record { content = refl; in_doubt = refl })
    decided (LeftInDoubt true) = inr (record { content = refl; in_doubt = refl })

-- a write that is refused for good may take each course
leaves : (first : ℕ) (contents : List (List ℕ)) (course : Course) (held : Content) → first < 6
    → AreOfOneStripe example_geometry first (length contents) → held.frozen ≡ false
    → Row (WriteBlocks first contents) (Err two_gone) seats (open_with held) (left_by (WriteBlocks first contents) course held)
leaves first contents LeftOld held below one thawed =
    still (WriteBlocks first contents) (Err two_gone) (open_with held) (open_with held) refl refl (λ begun. (below, one, thawed))
    (inl (record { content = refl; in_doubt = refl })) refl none_dropped
leaves first contents LeftNew held below one thawed =
    still (WriteBlocks first contents) (Err two_gone) (open_with held) (left_by (WriteBlocks first contents) LeftNew held) refl refl
    (λ begun. (below, one, thawed)) (inr (tt, Made (BlocksAre first contents) refl (record { content = refl; in_doubt = refl }))) refl none_dropped
leaves first contents (LeftInDoubt found_new) held below one thawed =
    still (WriteBlocks first contents) (Err two_gone) (open_with held) (left_by (WriteBlocks first contents) (LeftInDoubt found_new) held) refl refl
    (λ begun. (below, one, thawed)) (inr (tt, InDoubt (BlocksAre first contents) refl (record { content = refl; in_doubt = refl }))) refl none_dropped

-- and so may one that is cut
cut_leaves : (course : Course) → Turns (WasCut cut_write) (open_with first_content) (left_by cut_write course first_content)
cut_leaves course = (
  seats,
  inr (
    Err two_gone,
    leaves 0 (block_of 1 ∷ block_of 2 ∷ []) course first_content (omega arith)
        (record { some = omega arith; within = omega arith }) refl,
  ),
)

cut_thawed : (made : Bool) → (after_turn (WasCut cut_write) made first_content).frozen ≡ false
cut_thawed false = refl
cut_thawed true = refl

refused_leaves : (cut refused : Course) → Turns (Took refused_write (Err two_gone)) (open_with (held_between cut))
    (left_by refused_write refused (held_between cut))
refused_leaves cut refused = (
  seats,
  leaves 1 (block_of 3 ∷ []) refused (held_between cut) (omega arith)
      (record { some = omega arith; within = omega arith }) (cut_thawed (is_made cut)),
)

-- a read of block 1
reads : (held : Content) (bytes : List ℕ) → bytes ≡ held.blocks 1 → Turns (read_of 1 bytes) (open_with held) (open_with held)
reads held bytes is = (
  seats,
  still (ReadBlock 1) (Ok bytes) (open_with held) (open_with held) refl refl (λ begun. omega arith)
      (is, record { content = refl; in_doubt = refl }) refl none_dropped,
)

-- a crash within the write leaves nothing else
no_other : (s : State) → Turns (WasCut cut_write) (open_with first_content) s
    → (course : Course) × IsAsItWas (left_by cut_write course first_content) s
no_other s turns = within turns.1
  where
    came : Came (change_of cut_write) (open_with first_content) s → (course : Course) × IsAsItWas (left_by cut_write course first_content) s
    came (Kept same) = (LeftOld, same)
    came (Settled none decided) = absurd (some_none refl none)
    came (Changed certain made) = (LeftNew, record { content = made.content; in_doubt = made.in_doubt })
    came (Doubted certain what is doubt) = (LeftInDoubt false, record { content = doubt.content; in_doubt = doubt.in_doubt ∙ sym is })

    within : CutWithin cut_write turns.0 (open_with first_content) s → (course : Course) × IsAsItWas (left_by cut_write course first_content) s
    within (inl same) = (LeftOld, kept_whole same)
    within (inr row) = came (came_row cut_write row.0 turns.0 (open_with first_content) s row.1)

-- WHAT IS HELD

-- block 1 after the write that was cut
first_bytes : (cut : Bool) → (if cut then block_of 2 else zero_block) ≡ (after_turn (WasCut cut_write) cut first_content).blocks 1
first_bytes false = refl
first_bytes true = refl

-- and after the one that was refused
then_bytes : (cut refused : Bool) → (if refused then block_of 3 else (if cut then block_of 2 else zero_block))
    ≡ (after_turn (Took refused_write (Err two_gone)) refused (after_turn (WasCut cut_write) cut first_content)).blocks 1
then_bytes cut false = first_bytes cut
then_bytes cut true = refl

-- of such a write it is the same whether it was refused or cut
refused_or_cut : (made : Bool) (held : Content) → after_turn (Took refused_write (Err two_gone)) made held ≡ after_turn (WasCut refused_write) made held
refused_or_cut false held = refl
refused_or_cut true held = refl

read_last : (cut refused : Course) → read_then cut refused ≡ (held_last cut refused).blocks 1
read_last cut refused =
    then_bytes (is_made cut) (is_made refused)
    ∙ ap (λ (c : Content). c.blocks 1) (refused_or_cut (is_made refused) (after_turn (WasCut cut_write) (is_made cut) first_content))

-- block 0
zeroth : (cut refused : Bool) → (after_turn (WasCut refused_write) refused (after_turn (WasCut cut_write) cut first_content)).blocks 0
    ≡ (if cut then block_of 1 else zero_block)
zeroth false false = refl
zeroth false true = refl
zeroth true false = refl
zeroth true true = refl

-- and those that neither write is of
untouched_by_cut : (cut : Bool) (b : ℕ) → 2 ≤ b → (after_turn (WasCut cut_write) cut first_content).blocks b ≡ zero_block
untouched_by_cut false b past = refl
untouched_by_cut true b past = other_step cut_write first_content b (λ is. omega (arith, is.1))

untouched : (cut refused : Bool) (b : ℕ) → 2 ≤ b
    → (after_turn (WasCut refused_write) refused (after_turn (WasCut cut_write) cut first_content)).blocks b ≡ zero_block
untouched cut false b past = untouched_by_cut cut b past
untouched cut true b past =
    other_step refused_write (after_turn (WasCut cut_write) cut first_content) b (λ is. omega (arith, is.1)) ∙ untouched_by_cut cut b past

-- THE LIFE

first_lives : (cut : Course) → Lives first_session (created_state example_geometry) (left_by cut_write cut first_content)
first_lives cut = (open_with first_content, (created_state example_geometry, refl, opens), cut_leaves cut)

second_lives : (cut refused : Course) → Lives (second_session cut) (left_by cut_write cut first_content)
    (left_by refused_write refused (held_between cut))
second_lives cut refused =
    let left = left_by cut_write cut first_content in
    let held = held_between cut in (
      open_with held,
      (
        open_with held,
        (
          without_seats left,
          (left, refl, refl),
          opens_after cut_write cut first_content,
        ),
        reads held (read_first cut) (first_bytes (is_made cut)),
      ),
      refused_leaves cut refused,
    )

third_lives : (cut refused : Course) → Lives (third_session cut refused) (left_by refused_write refused (held_between cut))
    (open_with (held_last cut refused))
third_lives cut refused =
    let left = left_by refused_write refused (held_between cut) in
    let held = held_last cut refused in (
      open_with held,
      (
        without_seats left,
        (left, refl, refl),
        opens_after refused_write refused (held_between cut),
      ),
      reads held (read_then cut refused) (read_last cut refused),
    )

example_lives : (cut refused : Course) → Lives (example_life cut refused) (created_state example_geometry) (open_with (held_last cut refused))
example_lives cut refused =
    lives_then (second_session cut ++ first_session) (third_session cut refused) (created_state example_geometry)
    (left_by refused_write refused (held_between cut)) (open_with (held_last cut refused))
    (lives_then first_session (second_session cut) (created_state example_geometry) (left_by cut_write cut first_content)
    (left_by refused_write refused (held_between cut)) (first_lives cut) (second_lives cut refused))
    (third_lives cut refused)

explained : (cut refused : Course) → EachReadsLast (example_life cut refused) (fates_with (is_made cut) (is_made refused)) first_content
explained cut refused =
    (then_bytes (is_made cut) (is_made refused), (tt, (tt, (tt, (first_bytes (is_made cut), (tt, (tt, (tt, (tt, tt)))))))))

-- NO OTHER FATES

-- where two contents differ, the one that was read tells which it is
told_by : (one other : List ℕ) → one ≢ other → (made said : Bool) → (if made then one else other) ≡ (if said then one else other) → said ≡ made
told_by one other apart false false same = refl
told_by one other apart true true same = refl
told_by one other apart false true same = absurd (apart (sym same))
told_by one other apart true false same = absurd (apart same)

-- two blocks that are filled with other bytes
blocks_apart : (x y : ℕ) → x ≢ y → block_of x ≢ block_of y
blocks_apart x y apart same = apart (ap (λ (bytes : List ℕ). slice_index bytes 0) same)

refused_apart : (cut : Bool) → block_of 3 ≢ (if cut then block_of 2 else zero_block)
refused_apart false = blocks_apart 3 0 (λ same. omega (arith, same))
refused_apart true = blocks_apart 3 2 (λ same. omega (arith, same))

once : (cut refused : Course) (cut_made refused_made : Bool) → EachReadsLast (example_life cut refused) (fates_with cut_made refused_made) first_content
    → (cut_made ≡ is_made cut) × (refused_made ≡ is_made refused)
once cut refused cut_made refused_made each =
    let first : cut_made ≡ is_made cut =
    told_by (block_of 2) zero_block (blocks_apart 2 0 (λ same. omega (arith, same))) (is_made cut) cut_made (each.1.1.1.1.0 ∙ sym (first_bytes cut_made)) in
    let same = each.0 ∙ sym (then_bytes cut_made refused_made) in (
      first,
      told_by (block_of 3) (read_first cut) (refused_apart (is_made cut)) (is_made refused) refused_made
          (subst (λ (k : Bool). read_then cut refused ≡ (if refused_made then block_of 3 else (if k then block_of 2 else zero_block))) first same),
    )

pub is_example : IsExample
is_example = record {
  limits = example_limits;
  identity = refl;
  leaves = cut_leaves;
  no_other = no_other;
  first = first_lives;
  second = second_lives;
  third = third_lives;
  lives = example_lives;
  holds = λ cut refused. record {
    block_0 = zeroth (is_made cut) (is_made refused);
    block_1 = sym (read_last cut refused);
    others = untouched (is_made cut) (is_made refused);
  };
  explained = explained;
  once = once;
}
