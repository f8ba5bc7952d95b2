-- A write that was settled as not done, while a medium that was pulled has its gate open.
use Rattle.std.proofs.Common.{◌≡◌, ◌≢◌, ℕ, ◌<◌, ◌≤◌, List, [], ◌∷◌, inl, inr, refl, sym, ◌∙◌, subst, arith, Option, Some, None, false, true, replicate, zero, suc}
use Rattle.std.specs.Prelude.{nat_lt, slice_index_or, if◌then◌else◌}
use Rattle.std.proofs.lemmas.Bool.{cases_lt, cond-true, cond-false, false≢true, lt-ltb, le-ltb}
use Rattle.std.proofs.lemmas.List.{get_or-replicate, get_or_past, length-replicate}
use Rattle.std.proofs.lemmas.List.Elements.{All-cons, All-replicate}
use Rattle.stair_model.specs.Cell.{IsPlaceOf}
use Rattle.stair_model.specs.CellSet.{HasCell, IsInStripe}
use Rattle.stair_model.specs.Geometry.{Geometry}
use Rattle.stair_model.specs.Slots.{HasSlot, IsSlotSet, Slots, no_slots}
use Rattle.stair_model.specs.Stripe.{cell}
use Rattle.stair_model.specs.Sum.{sum_below}
use Rattle.stair_model.proofs.SetLaws.{has_slot-none}
use Rattle.stair_rack.specs.History.{Made, empty_slot}
use Rattle.stair_rack.specs.Media.{Image}
use Rattle.stair_rack.specs.Sector.{Good}
use Rattle.stair_super.specs.Newer.{IsOlder}
use Rattle.stair_super.specs.Superblock.{IsSuperblock, Superblock, joined_at, mark_at}
use Rattle.stair_super.specs.declared.mark.Mark.TheVariants.{Down, Live}
use Rattle.stair_member.specs.Editions.{copy_of}
use Rattle.stair_member.specs.Reserve.{Bears}
use Rattle.stair_member.specs.Seats.{Seats}
use Rattle.stair_member.specs.Superblocks.{First, IsSuperOf, HoldsSuper}
use Rattle.stair_member.proofs.CountingLemmas.{common}
use Rattle.stair_member.proofs.EditionLemmas.{holds_copy}
use Rattle.stair_member.proofs.SuperLemmas.{holds_once}
use Rattle.stair_journal.specs.Body.{Harmed, Holds, IsOrDamaged}
use Rattle.stair_journal.specs.Gate.{closed_gate, open_gate}
use Rattle.stair_journal.specs.Redo.{IsRedo}
use Rattle.stair_journal.proofs.GateLemmas.{closed}
use Rattle.stair_state.specs.Blocks.{AreEncodingsOf, Codewords, with_blocks, zero_block, zero_blocks}
use Rattle.stair_state.specs.Forms.{CommittedNew, CommittedOld, Encodes, HasForm, HaveBody, IdleNew, IdleOld, IsCommitted, IsIdle, IsOpen, IsUncommitted, Uncommitted}
use Rattle.stair_state.specs.Holding.{HaveCurrentMedia, CurrentMedia, IsConsistentBy, IsConsistentUnderReassembly, IsCurrentMedium}
use Rattle.stair_state.specs.Reassembly.{Empty, InSlot, IsBorne, IsMediumOf, IsReassembledSlot, IsReassembly, Location, OneOf, Outside}
use Rattle.stair_state.specs.Represents.{Encodings}
use Rattle.stair_state.specs.State.{Change, Content, State}
use Rattle.stair_state.proofs.AloneLemmas.{IsImageTidy}
use Rattle.stair_state.proofs.BlockLemmas.{at}
use Rattle.stair_state.proofs.FormLemmas.{good_kept}
use Rattle.stair_reinsert.specs.Misled.{five}
use Rattle.stair_reinsert_examples.specs.Refused.{IsRefusedSettled, all_live, first_pulled, slot_with, whole_redo, writing, writing_cell, writing_device}
use Rattle.stair_reinsert_examples.proofs.FiveDevices.{five_limits, older_none}
use Rattle.stair_reinsert_examples.proofs.FiveSupers.{named_super, past_none}
use Rattle.stair_reinsert_examples.proofs.FiveSurvey.{five_cases}
use Rattle.stair_reinsert_examples.proofs.RefusedLemmas.{IsTidyMedium, by_of, first_pulled_tidy}

-- THE REDO

row_inside : (j : ℕ) → HasSlot (record { marks = true ∷ true ∷ true ∷ true ∷ true ∷ replicate 27 false }) j → j < 5
row_inside j has =
    elim (cases_lt j 5) [
      | inl below ↦ below
      | inr past ↦ absurd (false≢true (sym (past_none true true true true true j past) ∙ has))
    ]

other_row : (i j : ℕ) → ¬ HasCell whole_redo.cells (suc i) j
other_row i j has =
    let none : slice_index_or (replicate 31 no_slots) i no_slots ≡ no_slots =
    elim (cases_lt i 31) [
      | inl below ↦ get_or-replicate 31 i no_slots no_slots below
      | inr past ↦ get_or_past (replicate 31 no_slots) i no_slots (omega (arith, past, length-replicate {A = Slots} 31 no_slots))
    ] in
    false≢true (sym (has_slot-none j) ∙ subst (λ (row : Slots). HasSlot row j) none has)

pub redo_inside : IsInStripe five whole_redo.cells
redo_inside zero j has = (omega arith, row_inside j has)
redo_inside (suc i) j has = absurd (other_row i j has)

pub redo_formed : IsRedo five whole_redo
redo_formed = record {
  stripe_in = omega arith;
  formed = record {
    count = refl;
    slots =
        All-cons IsSlotSet (record { marks = true ∷ true ∷ true ∷ true ∷ true ∷ replicate 27 false }) (replicate 31 no_slots) refl
        (All-replicate IsSlotSet 31 no_slots refl);
  };
  inside = redo_inside;
  row = 0;
  slot = 0;
  some = refl;
}

-- block 0 is the first cell of the stripe
first_place : IsPlaceOf five 0 0 0 0
unfolding sum_below
first_place = record { in_stripe = refl; row_in = omega arith; chunk_in = omega arith; at = refl }

up : Live ≢ Down
up same = cc

pub all_formed : (j : ℕ) → j < 5 → IsSuperblock (copy_of all_live j)
all_formed =
    five_cases (λ j. j < 5 → IsSuperblock (copy_of all_live j)) (λ b. formed 0 b up) (λ b. formed 1 b up) (λ b. formed 2 b up) (λ b. formed 3 b up)
    (λ b. formed 4 b up) (λ j past below. absurd (omega (arith, past, below)))
  where
    formed : (j : ℕ) → j < 5 → mark_at (copy_of all_live 0) j ≢ Down → IsSuperblock (copy_of all_live j)
    formed j below live =
        named_super 4 Live Live Live Live Live 1 1 1 1 1 (omega arith) (omega arith, omega arith) (omega arith, omega arith)
        (omega arith, omega arith) (omega arith, omega arith) (omega arith, omega arith) 4 j (omega arith) (omega arith) below live

module _ (old new : Codewords) where
  abbrev pub pulled : Image
  pulled = first_pulled (writing old new all_live)

  -- THE DEVICES

  writing_tidy : (gate : List ℕ) (j : ℕ) → IsTidyMedium (writing_device old new all_live gate j)
  writing_tidy gate j k beyond = cond-false _ _ _ beyond

  early_tidy : (j : ℕ) → IsTidyMedium (writing old new all_live j)
  early_tidy j =
      elim (cases_lt j 1) [
        | inl first ↦ subst IsTidyMedium (sym (cond-true _ _ _ (lt-ltb j 1 first))) (writing_tidy (open_gate five whole_redo) 0)
        | inr above ↦ subst IsTidyMedium (sym (cond-false _ _ _ (le-ltb j 1 above))) (writing_tidy closed_gate j)
      ]

  pub pulled_tidy : IsImageTidy pulled
  pulled_tidy = first_pulled_tidy (writing old new all_live) early_tidy

  -- slot j's device has its superblock in both places
  record HasOwn (j : ℕ) : Type 0 where
    first : HoldsSuper ((writing old new all_live j).cell 0) (copy_of all_live j)
    second : HoldsSuper ((writing old new all_live j).cell 1) (copy_of all_live j)
    place : Location
    lies : IsMediumOf (pulled j) place (writing old new all_live j)

  has_own : (j : ℕ) → j < 5 → HasOwn j
  has_own =
      five_cases (λ j. j < 5 → HasOwn j)
      (λ b. record { first = own 0 b refl; second = own_too 0 b refl; place = Outside 0; lies = refl })
      (λ b. record { first = own 1 b refl; second = own_too 1 b refl; place = InSlot; lies = (refl, refl) })
      (λ b. record { first = own 2 b refl; second = own_too 2 b refl; place = InSlot; lies = (refl, refl) })
      (λ b. record { first = own 3 b refl; second = own_too 3 b refl; place = InSlot; lies = (refl, refl) })
      (λ b. record { first = own 4 b refl; second = own_too 4 b refl; place = InSlot; lies = (refl, refl) })
      (λ j past below. absurd (omega (arith, past, below)))
    where
      own : (j : ℕ) → j < 5 → (writing old new all_live j).cell 0 ≡ writing_cell old new all_live closed_gate j 0
          → HoldsSuper ((writing old new all_live j).cell 0) (copy_of all_live j)
      own j below is = holds_copy ((writing old new all_live j).cell 0) all_live j (all_formed j below) is

      own_too : (j : ℕ) → j < 5 → (writing old new all_live j).cell 1 ≡ writing_cell old new all_live closed_gate j 1
          → HoldsSuper ((writing old new all_live j).cell 1) (copy_of all_live j)
      own_too j below is = holds_copy ((writing old new all_live j).cell 1) all_live j (all_formed j below) is

  own_super : (j : ℕ) → HasOwn j → IsSuperOf (writing old new all_live j).cell (copy_of all_live j)
  own_super j own =
      First own.first
      (λ other there older.
      older_none (copy_of all_live j) (subst (λ (x : Superblock). IsOlder (copy_of all_live j) x) (holds_once ((writing old new all_live j).cell 1) other (copy_of all_live j) there own.second) older))

  own_bears : (j : ℕ) → HasOwn j → Bears five j ((writing old new all_live j).cell) (copy_of all_live j)
  own_bears j own = record { place = 0; place_in = omega arith; holds = own.first; slot = refl; identity = refl }

  own_borne : (j : ℕ) → (own : HasOwn j) → IsBorne five pulled j own.place (copy_of all_live j)
  own_borne j own = record { medium = writing old new all_live j; is_one = own.lies; bears = own_bears j own }

  -- THE DEVICE OF SLOT 0 IS PUT BACK

  abbrev pub whole : Image
  whole j = if nat_lt j 5 then slot_with (writing old new all_live j) [] else empty_slot

  put_back : IsReassembly pulled whole
  put_back =
      five_cases (λ j. IsReassembledSlot (pulled j) (whole j))
      (OneOf (Outside 0) (writing old new all_live 0) refl refl (λ k. inl refl) (early_tidy 0))
      (OneOf InSlot (writing old new all_live 1) (refl, refl) refl (λ k. inl refl) (early_tidy 1))
      (OneOf InSlot (writing old new all_live 2) (refl, refl) refl (λ k. inl refl) (early_tidy 2))
      (OneOf InSlot (writing old new all_live 3) (refl, refl) refl (λ k. inl refl) (early_tidy 3))
      (OneOf InSlot (writing old new all_live 4) (refl, refl) refl (λ k. inl refl) (early_tidy 4))
      (λ j past. subst (IsReassembledSlot (pulled j)) (sym (cond-false _ _ _ (le-ltb j 5 past))) (Empty refl (λ k. refl)))

  abbrev two : Slots
  two = record { marks = true ∷ true ∷ false ∷ false ∷ false ∷ replicate 27 false }

  open_first : IsOpen five whole 0 whole_redo
  open_first = record { good = refl; formed = redo_formed }

  module _ (content : Content) (seats : Option Seats) (other : cell (new 0) 0 0 ≢ cell (old 0) 0 0) where
    abbrev settled : State
    settled = record { geometry = five; content = content; in_doubt = None; seats = seats }

    -- the body on slot 0 holds what its chunk doesn't
    in_body : (words : Codewords) → HaveBody five whole_redo words (HasSlot two) whole → cell (words 0) 0 0 ≡ cell (new 0) 0 0
    in_body words body = by (body 0 refl 0 0 refl)
      where
        by : IsOrDamaged (cell (words 0) 0 0) (Good (cell (new 0) 0 0)) → cell (words 0) 0 0 ≡ cell (new 0) 0 0
        by (Holds same) = cc
        by (Harmed harmed) = absurd (cc)

    in_chunk : (words : Codewords) → Encodes five words (HasSlot two) whole → cell (words 0) 0 0 ≡ cell (old 0) 0 0
    in_chunk words encodes = by (encodes 0 0 0 (omega arith) (omega arith) (omega arith) refl)
      where
        by : IsOrDamaged (cell (words 0) 0 0) (Good (cell (old 0) 0 0)) → cell (words 0) 0 0 ≡ cell (old 0) 0 0
        by (Holds same) = cc
        by (Harmed harmed) = absurd (cc)

    not_idle : (words : Codewords) → ¬ IsIdle five words (HasSlot two) whole
    not_idle words form = other (sym (in_body words (form.body 0 whole_redo refl open_first)) ∙ in_chunk words form.encodes)

    not_uncommitted : (a b : Codewords) → AreEncodingsOf five content.blocks a → AreEncodingsOf five content.blocks b
        → ¬ IsUncommitted five a b (HasSlot two) whole
    not_uncommitted a b a_are b_are form =
        other
        (sym (in_body b (form.body 0 whole_redo refl open_first)) ∙ first_block b b_are ∙ sym (first_block a a_are) ∙ in_chunk a form.encodes)
      where
        first_block : (words : Codewords) → AreEncodingsOf five content.blocks words → cell (words 0) 0 0 ≡ content.blocks 0
        first_block words are = at five content.blocks words 0 0 0 0 five_limits are (omega arith) first_place

    -- the gate of slot 1 is closed
    not_committed : (words : Codewords) → ¬ IsCommitted five words (HasSlot two) whole
    not_committed words form =
        elim (form.gates 1 refl) [
          | inl opened ↦ closed five form.redo opened
          | inr lost ↦ good_kept {bytes = closed_gate} {cell = Good closed_gate} refl lost
        ]

    no_form : (a b : Codewords) → AreEncodingsOf five content.blocks a → AreEncodingsOf five content.blocks b
        → ¬ HasForm five a b (HasSlot two) whole
    no_form a b a_are b_are (IdleOld form) = not_idle a form
    no_form a b a_are b_are (CommittedOld form) = not_committed a form
    no_form a b a_are b_are (Uncommitted form) = not_uncommitted a b a_are b_are form
    no_form a b a_are b_are (IdleNew form) = not_idle b form
    no_form a b a_are b_are (CommittedNew form) = not_committed b form

    module _ (encodings : Encodings settled) (current_media : CurrentMedia) (since : ℕ) (by : IsConsistentBy settled encodings current_media since pulled) where
      -- the epoch is no earlier one than that since which they are holders
      recent : since ≤ 4
      recent =
          elim (cases_lt 4 since) [
            | inl earlier ↦
                let first = has_own 0 (omega arith) in
                let over = by.overtaken 0 first.place (copy_of all_live 0) (own_borne 0 first) earlier in
                let some = common (omega arith) (omega arith) over over in
                let own = has_own some.0 some.1 in
                absurd
                (omega (
                  arith,
                  some.2 (all_marked some.0 some.1) own.place (writing old new all_live some.0) (copy_of all_live some.0) own.lies (own_super some.0 own) refl refl
                      (all_joined some.0 some.1) (good_kept own.first.good) (good_kept own.second.good),
                ))
            | inr upto ↦ upto
          ]
        where
          all_marked : (j : ℕ) → j < 5 → mark_at (copy_of all_live 0) j ≡ Live
          all_marked =
              five_cases (λ j. j < 5 → mark_at (copy_of all_live 0) j ≡ Live) (λ b. refl) (λ b. refl) (λ b. refl) (λ b. refl) (λ b. refl)
              (λ j past below. absurd (omega (arith, past, below)))

          all_joined : (j : ℕ) → j < 5 → (copy_of all_live j).joined ≡ joined_at (copy_of all_live 0) j
          all_joined j below = refl

      held : (j : ℕ) → j < 5 → mark_at (copy_of all_live j) j ≡ Live → current_media j ≡ Some (copy_of all_live j).joined
      held j below live =
          let own = has_own j below in
          by.live j (copy_of all_live j) (record { slot = j; place = own.place; borne = own_borne j own; since_then = recent }) live

      both_hold : HaveCurrentMedia five current_media whole (HasSlot two)
      both_hold =
          five_cases (λ j. HasSlot two j → IsCurrentMedium five current_media j ((whole j).cell)) (λ has. holds 0 (omega arith) refl refl)
          (λ has. holds 1 (omega arith) refl refl) (λ has. absurd (false≢true has)) (λ has. absurd (false≢true has)) (λ has. absurd (false≢true has))
          (λ j past has. absurd (false≢true (sym (past_none true true false false false j past) ∙ has)))
        where
          holds : (j : ℕ) → j < 5 → mark_at (copy_of all_live j) j ≡ Live → (whole j).cell ≡ (writing old new all_live j).cell
              → IsCurrentMedium five current_media j ((whole j).cell)
          holds j below live same =
              subst (IsCurrentMedium five current_media j) (sym same)
              (record { super = copy_of all_live j; bears = own_bears j (has_own j below); joined = held j below live })

      no_current_media : ⊥
      no_current_media =
          no_form encodings.old encodings.new encodings.old_are encodings.new_are
          (by.forms whole two put_back both_hold (record { slot = 0; among = refl; kept = good_kept open_first.good })).form

    pub none_settled : ¬ IsConsistentUnderReassembly settled (Made pulled ∷ [])
    none_settled is = no_current_media is.is.encodings is.current_media is.since (by_of settled pulled pulled_tidy is)

  pub early_refused : (first second : List ℕ) → AreEncodingsOf five zero_blocks old → AreEncodingsOf five (with_blocks zero_blocks 0 (first ∷ second ∷ [])) new
      → first ≢ zero_block → IsRefusedSettled five pulled
  early_refused first second old_are new_are other s geometry certain is =
      none_settled s.content s.seats
      (λ same.
      other
      (sym (at five (with_blocks zero_blocks 0 (first ∷ second ∷ [])) new 0 0 0 0 five_limits new_are (omega arith) first_place)
      ∙ same
      ∙ at five zero_blocks old 0 0 0 0 five_limits old_are (omega arith) first_place))
      (subst
      (λ (x : Option Change). IsConsistentUnderReassembly (record { geometry = five; content = s.content; in_doubt = x; seats = s.seats }) (Made pulled ∷ []))
      certain
      (subst
      (λ (g : Geometry). IsConsistentUnderReassembly (record { geometry = g; content = s.content; in_doubt = s.in_doubt; seats = s.seats }) (Made pulled ∷ []))
      geometry is))
