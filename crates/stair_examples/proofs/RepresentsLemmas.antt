-- A rack of the new devices is no array whose first block isn't what the chunk of slot 0 holds.
use Rattle.std.proofs.Common.{◌≡◌, ◌≢◌, ℕ, ◌<◌, List, [], ◌∷◌, Option, None, Some, inl, inr, refl, sym, ap, ◌∙◌, subst, arith, get_or}
use Rattle.std.proofs.lemmas.Bool.{cases_eq}
use Rattle.stair_model.specs.Cell.{IsPlaceOf}
use Rattle.stair_model.specs.Sum.{sum_below}
use Rattle.stair_rack.specs.Crash.{image_now}
use Rattle.stair_rack.specs.History.{Happening, Made}
use Rattle.stair_rack.specs.Media.{Image, SlotImage}
use Rattle.stair_rack.specs.Sector.{Cell, Damaged, Good}
use Rattle.stair_rack.proofs.CrashLemmas.{CrashMayLeave-now}
use Rattle.stair_super.specs.Newer.{IsOlder}
use Rattle.stair_super.specs.Spelling.{spelled}
use Rattle.stair_super.specs.Superblock.{Superblock, joined_at, mark_at}
use Rattle.stair_member.specs.Current.{IsCurrent, IsLive}
use Rattle.stair_member.specs.Reserve.{Bears}
use Rattle.stair_member.specs.Superblocks.{Counts, First, HoldsSuper}
use Rattle.stair_member.specs.Seats.{Seats}
use Rattle.stair_member.proofs.EditionLemmas.{bears_below}
use Rattle.stair_member.proofs.SuperLemmas.{counts_bears, holds_once}
use Rattle.stair_journal.specs.Body.{Harmed, Holds}
use Rattle.stair_journal.specs.Gate.{IsOpenWith, closed_gate}
use Rattle.stair_journal.specs.declared.redo.Redo.{Redo}
use Rattle.stair_journal.proofs.GateLemmas.{closed}
use Rattle.stair_state.specs.Blocks.{AreEncodingsOf, Codewords, zero_block}
use Rattle.stair_state.specs.Forms.{CommittedNew, CommittedOld, Encodes, HasForm, IdleNew, IdleOld, Uncommitted}
use Rattle.stair_state.specs.Represents.{Encodings, ImageRepresents, Left, Represents}
use Rattle.stair_state.specs.State.{Content, State, created_state, first_content, first_seats, without_seats}
use Rattle.stair_state.proofs.BlockLemmas.{at}
use Rattle.stair_array.specs.Created.{first_super}
use Rattle.stair_array.proofs.CreatedLemmas.{first_held, zero}
use Rattle.stair_reinsert.specs.Misled.{five}
use Rattle.stair_reinsert_examples.proofs.AllowedEpochs.{drawn_allowed}
use Rattle.stair_reinsert_examples.proofs.FiveDevices.{five_limits, older_none}
use Rattle.stair_reinsert_examples.proofs.FiveSurvey.{five_cases}
use Rattle.stair_reinsert_examples.proofs.RefusedEpochs.{undrawn_refused}
use Rattle.stair_examples.specs.Arrays.{ExamplesOfIsConsistentUnderReassembly, ExamplesOfRepresents, other_bytes, with_cell_of, zero_words}
use Rattle.stair_examples.proofs.NewRackLemmas.{represents}

first_place : IsPlaceOf five 0 0 0 0
unfolding sum_below
first_place = record { in_stripe = refl; row_in = omega arith; chunk_in = omega arith; at = refl }

-- slot j has its first superblock in both places, and a closed gate
abbrev pub IsAsMade : SlotImage → ℕ → Type 0
IsAsMade slot j = (slot.cell 0 ≡ Good (spelled (first_super five j))) × (slot.cell 1 ≡ Good (spelled (first_super five j)))
    × (slot.cell 2 ≡ Good closed_gate)

-- so has each slot of the image, and slot 0 has these bytes in its chunk
pub record HasChunk (bytes : List ℕ) (image : Image) : Type 0 where
  pub slots : (j : ℕ) → j < 5 → IsAsMade (image j) j
  pub chunk : (image 0).cell 8 ≡ Good bytes

pub has_chunk : (bytes : List ℕ) (image : Image) → IsAsMade (image 0) 0 → IsAsMade (image 1) 1 → IsAsMade (image 2) 2 → IsAsMade (image 3) 3
    → IsAsMade (image 4) 4 → (image 0).cell 8 ≡ Good bytes → HasChunk bytes image
has_chunk bytes image a b c d e chunk = record {
  slots =
      five_cases (λ j. j < 5 → IsAsMade (image j) j) (λ in_array. a) (λ in_array. b) (λ in_array. c) (λ in_array. d) (λ in_array. e)
      (λ j past in_array. absurd (omega (arith, past, in_array)));
  chunk = chunk;
}

-- the array holds this, nothing is in doubt, and its slots have these seats
abbrev pub holding : Content → Option Seats → State
holding content seats = record { geometry = five; content = content; in_doubt = None; seats = seats }

same_bytes : {a b : List ℕ} → Good a ≡ Good b → a ≡ b
same_bytes same = cc

good_damaged : {a : List ℕ} → ¬ (Good a ≡ Damaged)
good_damaged same = cc

module _ (bytes : List ℕ) (image : Image) (is : HasChunk bytes image) where
  place : (j k : ℕ) → j < 5 → k < 2 → HoldsSuper ((image j).cell k) (first_super five j)
  place j k below small =
      elim (cases_eq k 0) [
        | inl same ↦
            first_held five j ((image j).cell k) five_limits refl below (ap ((image j).cell) same ∙ (is.slots j below).0)
        | inr other ↦
            let one : k ≡ 1 = omega (arith, small, other) in
            first_held five j ((image j).cell k) five_limits refl below (ap ((image j).cell) one ∙ (is.slots j below).1)
      ]

  own : (j : ℕ) (s : Superblock) → Bears five j ((image j).cell) s → s ≡ first_super five j
  own j s bears =
      holds_once ((image j).cell bears.place) s (first_super five j) bears.holds
      (place j bears.place (bears_below five j ((image j).cell) s bears) bears.place_in)

  counts : Counts five image 0 (first_super five 0)
  counts = record {
    super =
        First (place 0 0 (omega arith) (omega arith))
        (λ other there older.
        let same : other ≡ first_super five 0 = holds_once ((image 0).cell 1) other (first_super five 0) there (place 0 1 (omega arith) (omega arith)) in
        older_none (first_super five 0) (subst (IsOlder (first_super five 0)) same older));
    slot = refl;
    identity = refl;
  }

  live : (current : Superblock) → IsCurrent five image current → IsLive five image current 0
  live current newest =
      let same : current ≡ first_super five current.slot = own current.slot current (counts_bears five image current.slot current newest.counts) in
      record {
        below = omega arith;
        marked = ap (λ (s : Superblock). mark_at s 0) same;
        super = first_super five 0;
        counts = counts;
        joined = sym (ap (λ (s : Superblock). joined_at s 0) same);
      }

  module _ (content : Content) (seats : Option Seats) (differs : content.blocks 0 ≢ bytes) (current : Superblock)
      (newest : IsCurrent five image current) where
    abbrev lives : ℕ → Type 0
    lives j = IsLive five image current j

    not_encoded : (words : Codewords) → AreEncodingsOf five content.blocks words → ¬ Encodes five words lives image
    not_encoded words encoded encodes =
        elim (encodes 0 0 0 (omega arith) (omega arith) (omega arith) (live current newest)) [
          | Holds holds ↦
              let block = at five content.blocks words 0 0 0 0 five_limits encoded (omega arith) first_place in
              differs (sym block ∙ sym (same_bytes (sym is.chunk ∙ holds)))
          | Harmed harmed ↦ good_damaged (sym is.chunk ∙ harmed)
        ]

    not_open : (j : ℕ) (redo : Redo) → lives j → ¬ IsOpenWith five ((image j).cell 2) redo
    not_open j redo alive opened = closed five redo (subst (λ (c : Cell). IsOpenWith five c redo) (is.slots j alive.below).2 opened)

    no_form : (old new : Codewords) → AreEncodingsOf five content.blocks old → AreEncodingsOf five content.blocks new
        → ¬ HasForm five old new lives image
    no_form old new old_are new_are (IdleOld form) = not_encoded old old_are form.encodes
    no_form old new old_are new_are (CommittedOld form) = not_open form.first form.redo form.first_live form.first_open
    no_form old new old_are new_are (Uncommitted form) = not_encoded old old_are form.encodes
    no_form old new old_are new_are (IdleNew form) = not_encoded new new_are form.encodes
    no_form old new old_are new_are (CommittedNew form) = not_open form.first form.redo form.first_live form.first_open

  pub not_represented : (content : Content) (seats : Option Seats) → content.blocks 0 ≢ bytes
      → (encodings : Encodings (holding content seats)) → ¬ ImageRepresents (holding content seats) encodings image
  not_represented content seats differs encodings stands =
      no_form content seats differs stands.current stands.is_current encodings.old encodings.new encodings.old_are encodings.new_are stands.form.form

-- nor is it a rack after this, if reads find such an image
pub not_now : (bytes : List ℕ) (h : List Happening) (content : Content) (seats : Option Seats) → HasChunk bytes (image_now h)
    → content.blocks 0 ≢ bytes → ¬ Represents (holding content seats) h
not_now bytes h content seats is differs stands =
    not_represented bytes (image_now h) is content seats differs stands.encodings
    (stands.each (image_now h) (Left (CrashMayLeave-now h)))

pub other_zero : zero_block ≢ other_bytes
other_zero same = let byte : 0 ≡ 1 = ap (λ (l : List ℕ). get_or l 0 0) same in omega (arith, byte)

abbrev changed_rack : Image
changed_rack = with_cell_of 0 (Good other_bytes)

is_changed : HasChunk other_bytes (image_now (Made changed_rack ∷ []))
is_changed =
    has_chunk other_bytes (image_now (Made changed_rack ∷ [])) (refl, refl, refl) (refl, refl, refl) (refl, refl, refl) (refl, refl, refl)
    (refl, refl, refl) refl

pub examples : ExamplesOfRepresents
examples = record { holds = represents; fails = not_now other_bytes (Made changed_rack ∷ []) first_content (Some (first_seats five)) is_changed other_zero }

-- EPOCHS THAT WERE DRAWN, AND ONE THAT WASN'T

pub reassembled : ExamplesOfIsConsistentUnderReassembly
reassembled = record {
  holds = drawn_allowed zero_words (zero five five_limits);
  fails = λ is. undrawn_refused zero_words (without_seats (created_state five)) refl is;
}
