-- In which stage of a redo an image of each form is.
use Rattle.std.proofs.Common.{◌≡◌, ℕ, inl, inr, sym, ap, subst}
use Rattle.stair_model.specs.Device.{gate_sector}
use Rattle.stair_model.specs.Geometry.{IsWithinLimits}
use Rattle.stair_model.specs.Stripe.{cell}
use Rattle.stair_rack.specs.Media.{Image}
use Rattle.stair_journal.specs.Gate.{ReadsClosed}
use Rattle.stair_journal.specs.declared.redo.Redo.{Redo}
use Rattle.stair_state.specs.Blocks.{Codewords}
use Rattle.stair_state.specs.Forms.{Encodes, EncodesBut, HaveBody, HaveOneRedo, IsCommitted, IsIdle, IsOpen, IsUncommitted}
use Rattle.stair_state.specs.Redoing.{AtRest, IsLeftIn, IsRedoing, Placing, Redoing, Stage}

module _ (a : Redoing) (live : ℕ → Type 0) (image : Image) where
  -- every gate is closed
  pub found_at_rest : Encodes a.geometry a.old live image
      → ((j : ℕ) → live j → ReadsClosed a.geometry ((image j).cell gate_sector)) → IsLeftIn a AtRest live image
  found_at_rest encodes shut = record {
    gates = shut;
    bodies = λ j i c on has. tt;
    chunks = λ j t i on j_in t_in i_in. encodes t i j t_in i_in j_in on;
  }

  -- uncommitted, and one gate is open with this redo
  pub found_uncommitted : IsWithinLimits a.geometry → HaveOneRedo a.geometry live image → IsUncommitted a.geometry a.old a.new live image
      → (j : ℕ) → live j → IsOpen a.geometry image j a.redo → IsRedoing a × IsLeftIn a Stage.Uncommitted live image
  found_uncommitted limits one form j on opened = (
    record {
      limits = limits;
      formed = opened.formed;
      same = λ t i k. form.all j a.redo on opened t i k;
    },
    record {
      gates = λ l also other with_it. one l j other a.redo also on with_it opened;
      bodies = λ l i c also has. form.body j a.redo on opened l also i c has;
      chunks = λ l t i also l_in t_in i_in. form.encodes t i l t_in i_in l_in also;
    },
  )

  -- idle, and one gate is open with this redo, which changes nothing
  pub found_idle : IsWithinLimits a.geometry → a.new ≡ a.old → HaveOneRedo a.geometry live image → IsIdle a.geometry a.old live image
      → (j : ℕ) → live j → IsOpen a.geometry image j a.redo → IsRedoing a × IsLeftIn a Stage.Uncommitted live image
  found_idle limits same one form = found_uncommitted limits one (record {
    encodes = form.encodes;
    body = λ j redo on opened.
        subst (λ (words : Codewords). HaveBody a.geometry redo words live image) (sym same) (form.body j redo on opened);
    all = λ j redo on opened t i k t_in i_in k_in. inr (ap (λ (words : Codewords). cell (words t) i k) same);
  })

  -- committed with this redo, which changes nothing
  pub found_committed : IsWithinLimits a.geometry → a.new ≡ a.old → (form : IsCommitted a.geometry a.new live image) → form.redo ≡ a.redo
      → IsRedoing a × IsLeftIn a Placing live image
  found_committed limits same form is =
      let first = subst (IsOpen a.geometry image form.first) is form.first_open in
      let body = subst (λ (redo : Redo). HaveBody a.geometry redo a.new live image) is form.body in
      let encodes = subst (λ (redo : Redo). EncodesBut a.geometry redo a.new live image) is form.encodes in (
        record {
          limits = limits;
          formed = first.formed;
          same = λ t i j t_in i_in j_in. inr (ap (λ (words : Codewords). cell (words t) i j) same);
        },
        record {
          gates = λ j on.
              elim (form.gates j on) [
                | inl opened ↦ inl (subst (IsOpen a.geometry image j) is opened)
                | inr lost ↦ inr lost
              ];
          bodies = λ j i c on has. body j on i c has;
          chunks = λ j t i on j_in t_in i_in. encodes t i j t_in i_in j_in on;
        },
      )
