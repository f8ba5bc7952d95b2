-- The stages of a redo: it is begun, committed, and placed.
use Rattle.std.proofs.Common.{◌≡◌, ℕ, ◌<◌, ◌⊎◌, inl, inr, sym, subst}
use Rattle.stair_model.specs.Device.{cell_sector, gate_sector}
use Rattle.stair_model.specs.Geometry.{Geometry, IsWithinLimits}
use Rattle.stair_model.specs.Stripe.{cell}
use Rattle.stair_rack.specs.Media.{Image}
use Rattle.stair_member.specs.Current.{IsLost}
use Rattle.stair_journal.specs.Body.{IsOrDamaged}
use Rattle.stair_journal.specs.Gate.{ReadsClosed}
use Rattle.stair_journal.specs.declared.redo.Redo.{Redo}
use Rattle.stair_journal.proofs.GateLemmas.{once}
use Rattle.stair_state.specs.Blocks.{Codewords}
use Rattle.stair_state.specs.Forms.{HasGate, HaveBody, IsCommitted, IsIdle, IsInRedo, IsOpen, IsUncommitted}
use Rattle.stair_state.proofs.FormLemmas.{good_kept}

module _ (g : Geometry) (image : Image) (live : ℕ → Type 0) where
  pub begun : (old new : Codewords) → IsIdle g old live image
      → ((j : ℕ) → live j → ReadsClosed g ((image j).cell gate_sector)) → IsUncommitted g old new live image
  begun old new form closed = record {
    encodes = form.encodes;
    body = λ j redo on opened. absurd (closed j on redo opened);
    all = λ j redo on opened. absurd (closed j on redo opened);
  }

  -- a gate that isn't lost is open
  pub opened_gate : (redo : Redo) (j : ℕ) → IsOpen g image j redo ⊎ IsLost ((image j).cell gate_sector)
      → ¬ IsLost ((image j).cell gate_sector) → IsOpen g image j redo
  opened_gate redo j (inl opened) kept = opened
  opened_gate redo j (inr lost) kept = absurd (kept lost)

  pub committed : (old new : Codewords) (redo : Redo) → IsUncommitted g old new live image
      → ((j : ℕ) → live j → IsOpen g image j redo ⊎ IsLost ((image j).cell gate_sector))
      → HasGate live image → IsCommitted g new live image
  committed old new redo form gates gate =
      let first = opened_gate redo gate.slot (gates gate.slot gate.among) gate.kept in
      record {
        redo = redo;
        first = gate.slot;
        first_live = gate.among;
        first_open = first;
        gates = gates;
        body = form.body gate.slot redo gate.among first;
        encodes = λ t i j t_in i_in j_in on.
            elim (form.all gate.slot redo gate.among first t i j t_in i_in j_in) [
              | inl has ↦ inl has
              | inr same ↦
                  inr (subst (λ bytes. IsOrDamaged bytes ((image j).cell (cell_sector g t i))) (sym same)
                  (form.encodes t i j t_in i_in j_in on))
            ];
      }

  -- a gate that is open is open with the redo that is placed
  is_placed : (words : Codewords) (stage : IsCommitted g words live image) → IsWithinLimits g → (j : ℕ) (redo : Redo) → live j
      → IsOpen g image j redo → stage.redo ≡ redo
  is_placed words stage limits j redo on opened =
      elim (stage.gates j on) [
        | inl with_it ↦ once g ((image j).cell gate_sector) stage.redo redo limits with_it opened
        | inr lost ↦ absurd (good_kept opened.good lost)
      ]

  pub placed : (words : Codewords) (stage : IsCommitted g words live image) → IsWithinLimits g
      → ((t i j : ℕ) → t < g.stripes → i < g.r → j < g.n → live j → IsInRedo stage.redo t i j
      → IsOrDamaged (cell (words t) i j) ((image j).cell (cell_sector g t i))) → IsIdle g words live image
  placed words stage limits in_place = record {
    encodes = λ t i j t_in i_in j_in on.
        elim (stage.encodes t i j t_in i_in j_in on) [
          | inl has ↦ in_place t i j t_in i_in j_in on has
          | inr holds ↦ holds
        ];
    body = λ j redo on opened.
        subst (λ (x : Redo). HaveBody g x words live image) (is_placed words stage limits j redo on opened) stage.body;
  }
