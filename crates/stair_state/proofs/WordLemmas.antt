-- The forms speak of the array's own stripes alone, so an image represents a state by any of its encodings.
use Rattle.std.proofs.Common.{◌≡◌, ℕ, ◌<◌, inl, inr, ap, ◌∙◌, sym, subst}
use Rattle.stair_model.specs.Device.{body_sector, cell_sector}
use Rattle.stair_model.specs.Geometry.{Geometry, IsWithinLimits}
use Rattle.stair_model.specs.Stripe.{Stripe, cell}
use Rattle.stair_rack.specs.Media.{Image}
use Rattle.stair_member.specs.Current.{IsLive}
use Rattle.stair_journal.specs.Body.{IsOrDamaged}
use Rattle.stair_journal.specs.Redo.{IsRedo}
use Rattle.stair_journal.specs.declared.redo.Redo.{Redo}
use Rattle.stair_state.specs.Blocks.{Codewords}
use Rattle.stair_state.specs.Forms.{CommittedNew, CommittedOld, Encodes, HasForm, HaveBody, IdleNew, IdleOld, IsCommitted, IsIdle, IsUncommitted, RepresentsBy, Uncommitted}
use Rattle.stair_state.specs.Represents.{Encodings, ImageRepresents}
use Rattle.stair_state.specs.State.{State, new_content}
use Rattle.stair_state.proofs.BlockLemmas.{unique}

-- the same stripes, as far as the array has them
abbrev pub SameWords : Geometry → Codewords → Codewords → Type 0
SameWords g a b = (t : ℕ) → t < g.stripes → a t ≡ b t

module _ (g : Geometry) (live : ℕ → Type 0) (image : Image) where
  encodes_by : (a b : Codewords) → SameWords g a b → Encodes g a live image → Encodes g b live image
  encodes_by a b same encodes t i j t_in i_in j_in on =
      subst (λ (word : Stripe). IsOrDamaged (cell word i j) ((image j).cell (cell_sector g t i))) (same t t_in)
      (encodes t i j t_in i_in j_in on)

  body_by : (a b : Codewords) (redo : Redo) → SameWords g a b → IsRedo g redo → HaveBody g redo a live image → HaveBody g redo b live image
  body_by a b redo same formed body j on i k has =
      subst (λ (word : Stripe). IsOrDamaged (cell word i k) ((image j).cell (body_sector g i k))) (same redo.stripe formed.stripe_in)
      (body j on i k has)

  idle_by : (a b : Codewords) → SameWords g a b → IsIdle g a live image → IsIdle g b live image
  idle_by a b same form = record {
    encodes = encodes_by a b same form.encodes;
    body = λ j redo on opened. body_by a b redo same opened.formed (form.body j redo on opened);
  }

  committed_by : (a b : Codewords) → SameWords g a b → IsCommitted g a live image → IsCommitted g b live image
  committed_by a b same form = record {
    redo = form.redo;
    first = form.first;
    first_live = form.first_live;
    first_open = form.first_open;
    gates = form.gates;
    body = body_by a b form.redo same form.first_open.formed form.body;
    encodes = λ t i j t_in i_in j_in on.
        elim (form.encodes t i j t_in i_in j_in on) [
          | inl has ↦ inl has
          | inr holds ↦
              inr (subst (λ (word : Stripe). IsOrDamaged (cell word i j) ((image j).cell (cell_sector g t i))) (same t t_in) holds)
        ];
  }

  uncommitted_by : (a b c d : Codewords) → SameWords g a c → SameWords g b d → IsUncommitted g a b live image
      → IsUncommitted g c d live image
  uncommitted_by a b c d old new form = record {
    encodes = encodes_by a c old form.encodes;
    body = λ j redo on opened. body_by b d redo new opened.formed (form.body j redo on opened);
    all = λ j redo on opened t i k t_in i_in k_in.
        elim (form.all j redo on opened t i k t_in i_in k_in) [
          | inl has ↦ inl has
          | inr same ↦
              inr (ap (λ (word : Stripe). cell word i k) (sym (new t t_in)) ∙ same
              ∙ ap (λ (word : Stripe). cell word i k) (old t t_in))
        ];
  }

  form_by : (a b c d : Codewords) → SameWords g a c → SameWords g b d → HasForm g a b live image → HasForm g c d live image
  form_by a b c d old new (IdleOld form) = IdleOld (idle_by a c old form)
  form_by a b c d old new (CommittedOld form) = CommittedOld (committed_by a c old form)
  form_by a b c d old new (Uncommitted form) = Uncommitted (uncommitted_by a b c d old new form)
  form_by a b c d old new (IdleNew form) = IdleNew (idle_by b d new form)
  form_by a b c d old new (CommittedNew form) = CommittedNew (committed_by b d new form)

  pub represents_by : (a b c d : Codewords) → SameWords g a c → SameWords g b d → RepresentsBy g a b live image
      → RepresentsBy g c d live image
  represents_by a b c d old new by = record { one_redo = by.one_redo; form = form_by a b c d old new by.form }

-- two encodings of one state are the same
pub same_encodings : (s : State) (a b : Encodings s) → IsWithinLimits s.geometry
    → SameWords s.geometry a.old b.old × SameWords s.geometry a.new b.new
same_encodings s a b limits = (
  λ t t_in. unique s.geometry s.content.blocks a.old b.old t limits a.old_are b.old_are t_in,
  λ t t_in. unique s.geometry (new_content s).blocks a.new b.new t limits a.new_are b.new_are t_in,
)

pub by_any_encodings : (s : State) (a b : Encodings s) (image : Image) → IsWithinLimits s.geometry → ImageRepresents s a image
    → ImageRepresents s b image
by_any_encodings s a b image limits stands =
    let same = same_encodings s a b limits in
    record {
      identity = stands.identity;
      current = stands.current;
      is_current = stands.is_current;
      full = stands.full;
      form =
          represents_by s.geometry (IsLive s.geometry image stands.current) image a.old a.new b.old b.new same.0 same.1 stands.form;
      rebuilding = stands.rebuilding;
      frozen = stands.frozen;
      label = stands.label;
    }
