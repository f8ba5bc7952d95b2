-- The rows, and which slots a row leaves alone.
use Rattle.std.proofs.Common.{true, [], ◌∷◌, ◌≡◌, ◌≢◌, ◌∙◌, ◌<◌, ◌⊎◌, ℕ, List, Some, Ok, Err, inl, inr, refl, sym, ap, subst, arith}
use Rattle.std.proofs.lemmas.Bool.{cases_eq, cond-false, cond-true, eq-eqb, lt-ltb, ne_eqb}
use Rattle.stair_model.specs.Geometry.{Geometry, block_count, data_cells}
use Rattle.stair_super.specs.declared.mark.Mark.{Mark}
use Rattle.stair_super.specs.declared.mark.Mark.TheVariants.{Live, Down, Rebuilding}
use Rattle.stair_member.specs.Seats.{Seat, Seats}
use Rattle.stair_member.specs.declared.why.Why.{Why}
use Rattle.stair_state.specs.Blocks.{AreOfOneStripe, with_block, zero_block, zero_blocks}
use Rattle.stair_state.specs.State.{BlocksAre, Content, State, created_state, first_seats}
use Rattle.stair_array.specs.Examples.{all_but, doubtful}
use Rattle.stair_invariant.specs.SeatSteps.{EachMayDrop, SeatGoes}
use Rattle.stair_array.specs.Machine.{Answer, AreKnown, CutWithin, HoldsAfter, InDoubt, LookAtSeats, Made, MayBeCut, MayBegin, OutOfRange, PassesTests, ReadBlock, Recover, Row, SeatsAfter, SetFrozen, SetLabel, Step, TooFew, WasBegun, write_block}
use Rattle.stair_array.proofs.machine.machine_laws.Goals as goal

-- a slot has this seat, and each other one its first
this_seat : (g : Geometry) (slot : ℕ) (mark : Mark) (joined : ℕ) → all_but g slot mark joined slot ≡ record { mark = mark; joined = joined }
this_seat g slot mark joined = cond-true _ _ _ (eq-eqb slot slot refl)

other_seat : (g : Geometry) (slot : ℕ) (mark : Mark) (joined j : ℕ) → j ≢ slot → all_but g slot mark joined j ≡ first_seats g j
other_seat g slot mark joined j apart = cond-false _ _ _ (ne_eqb j slot apart)

none_dropped : (seats : Seats) → EachMayDrop seats seats
none_dropped seats j = inl refl

goes : (g : Geometry) (slot : ℕ) (from to : Mark) (since joined : ℕ) → (from ≢ Down → to ≢ Down → joined ≡ since) → (to ≡ Down → joined ≡ 0)
    → SeatGoes slot from to (all_but g slot from since) (all_but g slot to joined)
goes g slot from to since joined kept down = record {
  was = ap (λ (s : Seat). s.mark) (this_seat g slot from since);
  is = ap (λ (s : Seat). s.mark) (this_seat g slot to joined);
  joined = λ up up'.
      ap (λ (s : Seat). s.joined) (this_seat g slot to joined) ∙ kept up up' ∙ sym (ap (λ (s : Seat). s.joined) (this_seat g slot from since));
  down = λ is. ap (λ (s : Seat). s.joined) (this_seat g slot to joined) ∙ down is;
  others = λ i apart. inl (other_seat g slot to joined i apart ∙ sym (other_seat g slot from since i apart));
}

first_is_live : (g : Geometry) (slot : ℕ) → slot < g.n → (first_seats g slot).mark ≢ Down
first_is_live g slot below is =
    let live : (first_seats g slot).mark ≡ Live = ap (λ (s : Seat). s.mark) (cond-true _ _ _ (lt-ltb slot g.n below)) in
    let both : Live ≡ Down = sym live ∙ is in
    absurd (cc)

one_dropped : (g : Geometry) (slot : ℕ) → slot < g.n → EachMayDrop (first_seats g) (all_but g slot Down 0)
one_dropped g slot below j =
    elim (cases_eq j slot) [
      | inl at ↦ inr (
        subst (λ i. (first_seats g i).mark ≢ Down) (sym at) (first_is_live g slot below),
        subst (λ i. all_but g slot Down 0 i ≡ record { mark = Down; joined = 0 }) (sym at) (this_seat g slot Down 0),
      )
      | inr apart ↦ inl (other_seat g slot Down 0 j apart)
    ]

one_block : (g : Geometry) → 0 < data_cells g → AreOfOneStripe g 0 1
one_block g some = record { some = omega arith; within = omega (arith, some) }

-- a row that leaves the seats alone
still : (step : Step) (answer : Answer step) (g : Geometry) (old new : State) → new.geometry ≡ old.geometry → MayBegin step old
    → (WasBegun step answer → PassesTests step old (first_seats g)) → HoldsAfter step answer old new
    → AreKnown step answer new.seats (first_seats g) → SeatsAfter step answer (first_seats g) (first_seats g)
    → Row step answer (first_seats g) old new
still step answer g old new geometry begins passes holds known marks = record {
  geometry = geometry;
  begins = begins;
  passes = passes;
  holds = holds;
  seats = first_seats g;
  known = known;
  marks = marks;
}

doubt : (g : Geometry) (bytes : List ℕ) (whys : List Why) → 0 < block_count g → 0 < data_cells g
    → Row (write_block 0 bytes) (Err (TooFew whys)) (first_seats g) (created_state g) (record (doubtful g bytes) { seats = Some (first_seats g) })
doubt g bytes whys below some =
    still (write_block 0 bytes) (Err (TooFew whys)) g (created_state g) (record (doubtful g bytes) { seats = Some (first_seats g) }) refl refl
    (λ begun. (below, one_block g some, refl))
    (inr (tt, InDoubt (BlocksAre 0 (bytes ∷ [])) refl (record { content = refl; in_doubt = refl }))) refl (none_dropped (first_seats g))

-- what a row of a write leaves
pub row_blocks : (g : Geometry) (seats : Seats) (bytes : List ℕ) (s : State) (answer : Answer (write_block 0 bytes))
    → Row (write_block 0 bytes) answer seats (created_state g) s
    → (s.content.blocks ≡ zero_blocks) ⊎ (s.content.blocks ≡ with_block zero_blocks 0 bytes)
row_blocks g seats bytes s (Ok done) row = inr (ap (λ (c : Content). c.blocks) row.holds.content)
row_blocks g seats bytes s (Err refusal) row =
    elim row.holds [
      | inl same ↦ inl (ap (λ (c : Content). c.blocks) same.content)
      | inr final ↦ cut final.1
    ]
  where
    cut : MayBeCut (Some (BlocksAre 0 (bytes ∷ []))) (created_state g) s
        → (s.content.blocks ≡ zero_blocks) ⊎ (s.content.blocks ≡ with_block zero_blocks 0 bytes)
    cut (Made what is changed) = inr (ap (λ (c : Content). c.blocks) changed.content)
    cut (InDoubt what is doubted) = inl (ap (λ (c : Content). c.blocks) doubted.content)

cut_blocks : (g : Geometry) (seats : Seats) (bytes other : List ℕ) (s : State) → CutWithin (write_block 0 bytes) seats (created_state g) s
    → (s.content.blocks ≡ zero_blocks) ⊎ (s.content.blocks ≡ with_block zero_blocks 0 bytes)
cut_blocks g seats bytes other s (inl same) = inl (ap (λ (t : State). t.content.blocks) same)
cut_blocks g seats bytes other s (inr some) = row_blocks g seats bytes s some.0 some.1

pub returns : goal.returns
returns c = record {
  opened_without = λ g bytes.
      still Recover (Ok g) g _ _ refl tt (λ begun. tt) (refl, inl (record { content = refl; in_doubt = refl })) refl (none_dropped (first_seats g));
  opened_with = λ g bytes.
      still Recover (Ok g) g _ _ refl tt (λ begun. tt) (refl, inr (record { content = refl; in_doubt = refl })) refl (none_dropped (first_seats g));
  read = λ g b below.
      still (ReadBlock b) (Ok zero_block) g _ _ refl refl (λ begun. below) (refl, record { content = refl; in_doubt = refl }) refl
      (none_dropped (first_seats g));
  written = λ g bytes below some.
      still (write_block 0 bytes) (Ok tt) g _ _ refl refl (λ begun. (below, one_block g some, refl)) (record { content = refl; in_doubt = refl }) refl
      (none_dropped (first_seats g));
  out_of_range = λ g b.
      still (ReadBlock b) (Err (OutOfRange b (block_count g))) g _ _ refl refl (λ begun. absurd begun)
      (inl (record { content = refl; in_doubt = refl })) refl (none_dropped (first_seats g));
  in_doubt = doubt;
  scrubbed = λ g t slot below within. record {
    geometry = refl;
    begins = refl;
    passes = λ begun. below;
    holds = record { content = refl; in_doubt = refl };
    seats = all_but g slot Down 0;
    known = refl;
    marks = one_dropped g slot within;
  };
  replaced = λ g slot below. record {
    geometry = refl;
    begins = refl;
    passes = λ begun. (below, ap (λ (s : Seat). s.mark) (this_seat g slot Down 0));
    holds = record { content = refl; in_doubt = refl };
    seats = all_but g slot Rebuilding 5;
    known = refl;
    marks = goes g slot Down Rebuilding 0 5 (λ up. absurd (up refl)) (λ is. absurd (cc));
  };
  rebuilt = λ g slot t. record {
    geometry = refl;
    begins = refl;
    passes = λ begun. tt;
    holds = record { content = refl; in_doubt = refl };
    seats = all_but g slot Rebuilding 5;
    known = refl;
    marks = goes g slot Rebuilding Rebuilding 5 5 (λ up up'. refl) (λ is. absurd (cc));
  };
  promoted = λ g slot. record {
    geometry = refl;
    begins = refl;
    passes = λ begun. tt;
    holds = record { content = refl; in_doubt = refl };
    seats = all_but g slot Live 5;
    known = refl;
    marks = goes g slot Rebuilding Live 5 5 (λ up up'. refl) (λ is. absurd (cc));
  };
  dropped = λ g slot. record {
    geometry = refl;
    begins = refl;
    passes = λ begun. tt;
    holds = record { content = refl; in_doubt = refl };
    seats = all_but g slot Down 0;
    known = refl;
    marks = goes g slot Rebuilding Down 5 0 (λ up up'. absurd (up' refl)) (λ is. refl);
  };
  frozen = λ g.
      still (SetFrozen true) (Ok tt) g _ _ refl refl (λ begun. tt) (record { content = refl; in_doubt = refl }) refl (none_dropped (first_seats g));
  labelled = λ g label.
      still (SetLabel label) (Ok tt) g _ _ refl refl (λ begun. tt) (record { content = refl; in_doubt = refl }) refl (none_dropped (first_seats g));
  looked = λ g.
      still LookAtSeats (Ok (first_seats g)) g _ _ refl refl (λ begun. tt) (record { content = refl; in_doubt = refl }) refl (refl, refl);
  cut = λ g bytes below some. (inl refl, inr (Err (TooFew []), doubt g bytes [] below some));
  no_other = cut_blocks;
}
