-- An image within tolerance represents one list of blocks.
use Rattle.std.proofs.Common.{◌≡◌, ℕ, ◌+◌, ◌*◌, ◌<◌, ◌≤◌, ◌⊎◌, List, inl, inr, refl, sym, ap, ◌∙◌, subst, arith}
use Rattle.std.specs.Prelude.{Option, None}
use Rattle.std.proofs.lemmas.Nat.{mul-add-lt}
use Rattle.stair_model.specs.Device.{body_sector, cell_sector, chunks_start, gate_sector}
use Rattle.stair_model.specs.Encoding.{IsEncodingOf}
use Rattle.stair_model.specs.Geometry.{Geometry, IsWithinLimits, block_count}
use Rattle.stair_model.specs.Restoring.{SameHeld}
use Rattle.stair_model.specs.Stripe.{cell}
use Rattle.stair_model.proofs.DataLaws.{block_has_place}
use Rattle.stair_model.proofs.RestoringLaws.{restoring_determined}
use Rattle.stair_rack.specs.Media.{Image}
use Rattle.stair_rack.specs.Sector.{Cell, Good, Damaged}
use Rattle.stair_super.specs.Superblock.{Superblock}
use Rattle.stair_member.specs.Current.{IsCurrent, IsLive, IsLost, ByOutside}
use Rattle.stair_member.proofs.StandingLemmas.{serves_unless_failed}
use Rattle.stair_member.proofs.SuperLemmas.{one_current}
use Rattle.stair_journal.specs.Body.{IsOrDamaged, Holds, Harmed}
use Rattle.stair_journal.specs.declared.redo.Redo.{Redo}
use Rattle.stair_state.specs.Blocks.{AreEncodingsOf, Blocks, Codewords, stripe_blocks}
use Rattle.stair_state.specs.Forms.{HasForm, IdleOld, CommittedOld, Uncommitted, IdleNew, CommittedNew, HaveBody, HaveOneRedo, IsCommitted, IsIdle, IsOpen, RepresentsBy}
use Rattle.stair_state.specs.Represents.{Encodings, ImageRepresents}
use Rattle.stair_state.specs.State.{Change, State, changed_if, new_content}
use Rattle.stair_state.specs.Tolerance.{IsStripeCovered, IsToleratedAlone}
use Rattle.stair_state.proofs.BlockLemmas.{at, unique}
use Rattle.stair_state.proofs.CertainLemmas.{IsInOpenRedo}

-- ONE CELL

-- a cell that isn't damaged has one content
same_content : {a b : List ℕ} {cell : Cell} → IsOrDamaged a cell → IsOrDamaged b cell → ¬ (cell ≡ Damaged) → a ≡ b
same_content (Holds first) (Holds second) whole = good_once (sym first ∙ second)
  where
    good_once : {a b : List ℕ} → Good a ≡ Good b → a ≡ b
    good_once same = cc
same_content (Holds first) (Harmed harmed) whole = absurd (whole harmed)
same_content (Harmed harmed) second whole = absurd (whole harmed)

-- WHAT THE FORMS SAY OF CELLS

-- These are the stripes: each live slot has their cells, or damaged ones, in its chunks but for those of an open redo, and
-- these in its body.
pub record AreTheWords (g : Geometry) (words : Codewords) (live : ℕ → Type 0) (image : Image) : Type 0 where
  pub cells : (t i j : ℕ) → t < g.stripes → i < g.r → j < g.n → live j
      → IsInOpenRedo g live image t i j ⊎ IsOrDamaged (cell (words t) i j) ((image j).cell (cell_sector g t i))
  pub body : (j : ℕ) (redo : Redo) → live j → IsOpen g image j redo → HaveBody g redo words live image

module _ (g : Geometry) (live : ℕ → Type 0) (image : Image) where
  words_idle : (words : Codewords) → IsIdle g words live image → AreTheWords g words live image
  words_idle words form = record {
    cells = λ t i j t_in i_in j_in on. inr (form.encodes t i j t_in i_in j_in on);
    body = form.body;
  }

  words_committed : (words : Codewords) → HaveOneRedo g live image → IsCommitted g words live image → AreTheWords g words live image
  words_committed words one form = record {
    cells = λ t i j t_in i_in j_in on.
        elim (form.encodes t i j t_in i_in j_in on) [
          | inl has ↦ inl (form.first, form.redo, form.first_live, form.first_open, has)
          | inr holds ↦ inr holds
        ];
    body = λ j redo on opened.
        subst (λ (x : Redo). HaveBody g x words live image) (one form.first j form.redo redo form.first_live on form.first_open opened) form.body;
  }

  -- where the stripes of both are the same, each form says it of the old ones
  words_of : (old new : Codewords) → ((t : ℕ) → t < g.stripes → new t ≡ old t) → RepresentsBy g old new live image
      → (words : Codewords) × ((t : ℕ) → t < g.stripes → words t ≡ old t) × AreTheWords g words live image
  words_of old new same by = go by.form
    where
      go : HasForm g old new live image → (words : Codewords) × ((t : ℕ) → t < g.stripes → words t ≡ old t) × AreTheWords g words live image
      go (IdleOld form) = (old, λ t t_in. refl, words_idle old form)
      go (CommittedOld form) = (old, λ t t_in. refl, words_committed old by.one_redo form)
      go (Uncommitted form) = (
        old,
        λ t t_in. refl,
        record {
          cells = λ t i j t_in i_in j_in on. inr (form.encodes t i j t_in i_in j_in on);
          body = λ j redo on opened i live_there r k has.
              subst (λ word. IsOrDamaged (cell word r k) ((image i).cell (body_sector g r k))) (same redo.stripe opened.formed.stripe_in)
              (form.body j redo on opened i live_there r k has);
        },
      )
      go (IdleNew form) = (new, same, words_idle new form)
      go (CommittedNew form) = (new, same, words_committed new by.one_redo form)

  -- cells of both that aren't damaged are the same, where a live slot has no lost sector in its body
  same_cells : (a b : Codewords) (journal : ℕ) → AreTheWords g a live image → AreTheWords g b live image → live journal
      → ((k : ℕ) → gate_sector ≤ k → k < chunks_start g → ¬ IsLost ((image journal).cell k))
      → (t i j : ℕ) → t < g.stripes → i < g.r → j < g.n → live j → ¬ ((image j).cell (cell_sector g t i) ≡ Damaged)
      → cell (a t) i j ≡ cell (b t) i j
  same_cells a b journal first second on_journal whole t i j t_in i_in j_in on kept =
      elim (first.cells t i j t_in i_in j_in on) [
        | inl of ↦ in_body of
        | inr holds ↦
            elim (second.cells t i j t_in i_in j_in on) [
              | inl of ↦ in_body of
              | inr also ↦ same_content holds also kept
            ]
      ]
    where
      in_body : IsInOpenRedo g live image t i j → cell (a t) i j ≡ cell (b t) i j
      in_body of =
          let place : i * g.n + j < g.n * g.r = mul-add-lt i g.n j g.r i_in j_in in
          subst (λ s. cell (a s) i j ≡ cell (b s) i j) (sym of.4.stripe)
          (same_content (first.body of.0 of.1 of.2 of.3 journal on_journal i j of.4.has)
          (second.body of.0 of.1 of.2 of.3 journal on_journal i j of.4.has)
          (λ harmed. whole (body_sector g i j) (omega arith) (omega arith) (ByOutside harmed)))

-- STRIPES

-- the stripes are the same, where these are encoded ones and the image is within tolerance
same_words : (g : Geometry) (image : Image) (old other : Blocks) (a b : Codewords) (tolerated : IsToleratedAlone g image) → IsWithinLimits g
    → AreEncodingsOf g old a → AreEncodingsOf g other b → AreTheWords g a (IsLive g image tolerated.current) image
    → AreTheWords g b (IsLive g image tolerated.current) image → (t : ℕ) → t < g.stripes → a t ≡ b t
same_words g image old other a b tolerated limits a_are b_are first second t t_in =
    let covered = tolerated.stripes t t_in in
    let a_is = a_are.each t t_in in
    let b_is = b_are.each t t_in in
    restoring_determined g covered.erased (a t) (b t) limits covered.covered a_is.of a_is.formed a_is.codeword b_is.of b_is.formed
    b_is.codeword (held covered)
  where
    held : (covered : IsStripeCovered (λ j. (image j).size ≡ None) g image tolerated.current t) → SameHeld g covered.erased (a t) (b t)
    held covered i j i_in j_in out =
        let serves =
        serves_unless_failed {offline = λ k. (image k).size ≡ None} g image tolerated.current j j_in
        (λ failed. out (covered.has i j i_in j_in (inl failed))) in
        same_cells g (IsLive g image tolerated.current) image a b tolerated.journal_slot first second tolerated.journal.serves.live
        tolerated.journal.whole t i j t_in i_in j_in serves.live (λ harmed. out (covered.has i j i_in j_in (inr harmed)))

-- BLOCKS

-- without a doubt the new blocks are the old ones
certain_blocks : (s : State) → s.in_doubt ≡ None → (new_content s).blocks ≡ s.content.blocks
certain_blocks s none = ap (λ (doubt : Option Change). (changed_if doubt s.content).blocks) none

-- the stripes of a state in this image
words_there : (s : State) (encodings : Encodings s) (image : Image) (current : Superblock) → IsWithinLimits s.geometry → s.in_doubt ≡ None
    → ImageRepresents s encodings image → IsCurrent s.geometry image current
    → (words : Codewords) × AreEncodingsOf s.geometry s.content.blocks words × AreTheWords s.geometry words (IsLive s.geometry image current) image
words_there s encodings image current limits none stands is_current =
    let same : stands.current ≡ current = one_current s.geometry image stands.current current stands.is_current is_current in
    let new_are : AreEncodingsOf s.geometry s.content.blocks encodings.new =
    subst (λ blocks. AreEncodingsOf s.geometry blocks encodings.new) (certain_blocks s none) encodings.new_are in
    let found =
    words_of s.geometry (IsLive s.geometry image current) image encodings.old encodings.new
    (λ t t_in. unique s.geometry s.content.blocks encodings.new encodings.old t limits new_are encodings.old_are t_in)
    (subst (λ c. RepresentsBy s.geometry encodings.old encodings.new (IsLive s.geometry image c) image) same stands.form) in (
      found.0,
      record {
        each = λ t t_in.
            subst (IsEncodingOf s.geometry (stripe_blocks s.geometry s.content.blocks t))
            (sym (found.1 t t_in)) (encodings.old_are.each t t_in);
      },
      found.2,
    )

pub same_blocks : (s other : State) (a : Encodings s) (b : Encodings other) (image : Image) (k : ℕ) → IsWithinLimits s.geometry
    → s.in_doubt ≡ None → other.in_doubt ≡ None → other.geometry ≡ s.geometry → ImageRepresents s a image → ImageRepresents other b image
    → IsToleratedAlone s.geometry image → k < block_count s.geometry → s.content.blocks k ≡ other.content.blocks k
same_blocks s other a b image k limits none also_none same stands also tolerated below =
    let is_current = tolerated.is_current in
    let first = words_there s a image tolerated.current limits none stands is_current in
    let second =
    words_there other b image tolerated.current (subst IsWithinLimits (sym same) limits) also_none also
    (subst (λ g. IsCurrent g image tolerated.current) (sym same) is_current) in
    let second_are : AreEncodingsOf s.geometry other.content.blocks second.0 =
    subst (λ g. AreEncodingsOf g other.content.blocks second.0) same second.1 in
    let second_there : AreTheWords s.geometry second.0 (IsLive s.geometry image tolerated.current) image =
    subst (λ g. AreTheWords g second.0 (IsLive g image tolerated.current) image) same second.2 in
    let place = block_has_place s.geometry k limits below in
    sym (at s.geometry s.content.blocks first.0 k place.0 place.1 place.2 limits first.1 below place.4)
    ∙ ap (λ word. cell word place.1 place.2)
    (same_words s.geometry image s.content.blocks other.content.blocks first.0 second.0 tolerated limits first.1 second_are first.2
    second_there place.0 place.3)
    ∙ at s.geometry other.content.blocks second.0 k place.0 place.1 place.2 limits second_are below place.4
