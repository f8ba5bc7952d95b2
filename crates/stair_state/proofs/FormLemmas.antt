-- A form over live slots holds over fewer of them, where the cells from the gate on are as they were or damaged.
use Rattle.std.proofs.Common.{◌≡◌, ℕ, ◌⊎◌, inl, inr, List, sym, ap, ◌∙◌, subst, arith}
use Rattle.std.proofs.lemmas.Bool.{false≢true}
use Rattle.stair_model.specs.Device.{body_sector, cell_sector, gate_sector}
use Rattle.stair_model.specs.Geometry.{Geometry}
use Rattle.stair_rack.specs.Answers.{is_good}
use Rattle.stair_rack.specs.Media.{Image}
use Rattle.stair_rack.specs.Sector.{Cell, Good, Damaged}
use Rattle.stair_member.specs.Current.{IsLost, ByOutside, Worn}
use Rattle.stair_journal.specs.Body.{IsOrDamaged, Harmed}
use Rattle.stair_journal.specs.declared.redo.Redo.{Redo}
use Rattle.stair_state.specs.Blocks.{Codewords}
use Rattle.stair_state.specs.Forms.{AreStill, Encodes, EncodesBut, HasForm, IdleOld, CommittedOld, Uncommitted, IdleNew, CommittedNew, HasGate, HaveBody, HaveOneRedo, IsCommitted, IsIdle, IsOpen, IsUncommitted, RepresentsBy}

-- ONE CELL

-- a cell that holds bytes isn't lost
pub good_kept : {bytes : List ℕ} {cell : Cell} → cell ≡ Good bytes → ¬ IsLost cell
good_kept good (ByOutside harmed) = false≢true (sym (ap is_good harmed) ∙ ap is_good good)
good_kept good (Worn worn) = false≢true (sym (ap is_good worn) ∙ ap is_good good)

pub good_whole : {bytes : List ℕ} {cell : Cell} → cell ≡ Good bytes → ¬ (cell ≡ Damaged)
good_whole good harmed = good_kept good (ByOutside harmed)

-- a cell that is as it was or damaged, and isn't lost, is as it was
pub same_kept : {was is : Cell} → (is ≡ was) ⊎ (is ≡ Damaged) → ¬ IsLost is → is ≡ was
same_kept (inl same) kept = same
same_kept (inr harmed) kept = absurd (kept (ByOutside harmed))

-- so is one that holds bytes
pub good_before : {bytes : List ℕ} {was is : Cell} → (is ≡ was) ⊎ (is ≡ Damaged) → is ≡ Good bytes → was ≡ Good bytes
good_before still good = sym (same_kept still (good_kept good)) ∙ good

pub or_damaged_still : {bytes : List ℕ} {was is : Cell} → (is ≡ was) ⊎ (is ≡ Damaged) → IsOrDamaged bytes was → IsOrDamaged bytes is
or_damaged_still {bytes} (inl same) holds = subst (IsOrDamaged bytes) (sym same) holds
or_damaged_still (inr harmed) holds = Harmed harmed

-- FEWER SLOTS

module _ (g : Geometry) (more fewer : ℕ → Type 0) (was is : Image) (within : (j : ℕ) → fewer j → more j) (still : AreStill fewer was is) where
  -- a gate that is open was so
  pub open_before : (j : ℕ) (redo : Redo) → fewer j → IsOpen g is j redo → IsOpen g was j redo
  open_before j redo on opened =
      record { good = good_before (still.each j gate_sector on (omega arith)) opened.good; formed = opened.formed }

  body_still : (redo : Redo) (words : Codewords) → HaveBody g redo words more was → HaveBody g redo words fewer is
  body_still redo words body j on i k has =
      or_damaged_still (still.each j (body_sector g i k) on (omega arith)) (body j (within j on) i k has)

  encodes_still : (words : Codewords) → Encodes g words more was → Encodes g words fewer is
  encodes_still words encodes t i j t_in i_in j_in on =
      or_damaged_still (still.each j (cell_sector g t i) on (omega arith)) (encodes t i j t_in i_in j_in (within j on))

  encodes_but_still : (redo : Redo) (words : Codewords) → EncodesBut g redo words more was → EncodesBut g redo words fewer is
  encodes_but_still redo words encodes t i j t_in i_in j_in on =
      elim (encodes t i j t_in i_in j_in (within j on)) [
        | inl has ↦ inl has
        | inr holds ↦ inr (or_damaged_still (still.each j (cell_sector g t i) on (omega arith)) holds)
      ]

  pub idle_still : (words : Codewords) → IsIdle g words more was → IsIdle g words fewer is
  idle_still words form = record {
    encodes = encodes_still words form.encodes;
    body = λ j redo on opened. body_still redo words (form.body j redo (within j on) (open_before j redo on opened));
  }

  pub uncommitted_still : (old new : Codewords) → IsUncommitted g old new more was → IsUncommitted g old new fewer is
  uncommitted_still old new form = record {
    encodes = encodes_still old form.encodes;
    body = λ j redo on opened. body_still redo new (form.body j redo (within j on) (open_before j redo on opened));
    all = λ j redo on opened. form.all j redo (within j on) (open_before j redo on opened);
  }

  -- each live gate is open with this redo or lost, as before
  gate_still : (redo : Redo) (j : ℕ) → fewer j → IsOpen g was j redo ⊎ IsLost ((was j).cell gate_sector)
      → IsOpen g is j redo ⊎ IsLost ((is j).cell gate_sector)
  gate_still redo j on (inl opened) =
      elim (still.each j gate_sector on (omega arith)) [
        | inl same ↦ inl (record { good = same ∙ opened.good; formed = opened.formed })
        | inr harmed ↦ inr (ByOutside harmed)
      ]
  gate_still redo j on (inr lost) =
      elim (still.each j gate_sector on (omega arith)) [
        | inl same ↦ inr (subst IsLost (sym same) lost)
        | inr harmed ↦ inr (ByOutside harmed)
      ]

  kept_is_open : (redo : Redo) (j : ℕ) → IsOpen g is j redo ⊎ IsLost ((is j).cell gate_sector) → ¬ IsLost ((is j).cell gate_sector)
      → IsOpen g is j redo
  kept_is_open redo j (inl opened) kept = opened
  kept_is_open redo j (inr lost) kept = absurd (kept lost)

  -- a gate that isn't lost is one that is open
  pub committed_still : (words : Codewords) → HasGate fewer is → IsCommitted g words more was → IsCommitted g words fewer is
  committed_still words gate form =
      let gates = λ (j : ℕ) (on : fewer j). gate_still form.redo j on (form.gates j (within j on)) in
      record {
        redo = form.redo;
        first = gate.slot;
        first_live = gate.among;
        first_open = kept_is_open form.redo gate.slot (gates gate.slot gate.among) gate.kept;
        gates = gates;
        body = body_still form.redo words form.body;
        encodes = encodes_but_still form.redo words form.encodes;
      }

  form_still : (old new : Codewords) → HasGate fewer is → HasForm g old new more was → HasForm g old new fewer is
  form_still old new gate (IdleOld form) = IdleOld (idle_still old form)
  form_still old new gate (CommittedOld form) = CommittedOld (committed_still old gate form)
  form_still old new gate (Uncommitted form) = Uncommitted (uncommitted_still old new form)
  form_still old new gate (IdleNew form) = IdleNew (idle_still new form)
  form_still old new gate (CommittedNew form) = CommittedNew (committed_still new gate form)

  one_redo_still : HaveOneRedo g more was → HaveOneRedo g fewer is
  one_redo_still one i j a b on also first second =
      one i j a b (within i on) (within j also) (open_before i a on first) (open_before j b also second)

  pub represents_still : (old new : Codewords) → HasGate fewer is → RepresentsBy g old new more was → RepresentsBy g old new fewer is
  represents_still old new gate by =
      record { one_redo = one_redo_still by.one_redo; form = form_still old new gate by.form }
