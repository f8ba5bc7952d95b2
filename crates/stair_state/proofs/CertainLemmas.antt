-- Where no change is in doubt the form is idle or committed; and what a torn cell tells.
use Rattle.std.proofs.Common.{◌≡◌, ℕ, ◌<◌, ◌⊎◌, inl, inr, List, sym, ap, ◌∙◌}
use Rattle.std.specs.Prelude.{Bool, true, false}
use Rattle.std.proofs.lemmas.Bool.{false≢true}
use Rattle.stair_model.specs.Device.{cell_sector}
use Rattle.stair_model.specs.Geometry.{Geometry}
use Rattle.stair_rack.specs.Media.{Image}
use Rattle.stair_rack.specs.Sector.{Cell, Good, Damaged, Torn, TornOverDamage}
use Rattle.stair_journal.specs.Body.{IsOrDamaged, Holds, Harmed}
use Rattle.stair_journal.specs.declared.redo.Redo.{Redo}
use Rattle.stair_state.specs.Blocks.{Codewords}
use Rattle.stair_state.specs.Forms.{HasForm, IdleOld, CommittedOld, Uncommitted, IdleNew, CommittedNew, IsCommitted, IsIdle, IsInRedo, IsOpen}

-- whether a crash cut a write there, over a cell that wasn't lost
is_torn : Cell → Bool
is_torn (Good bytes) = false
is_torn Damaged = false
is_torn Torn = true
is_torn TornOverDamage = false

untorn : {bytes : List ℕ} {cell : Cell} → IsOrDamaged bytes cell → ¬ (cell ≡ Torn)
unfolding is_torn
untorn (Holds good) torn = false≢true (sym (ap is_torn good) ∙ ap is_torn torn)
untorn (Harmed harmed) torn = false≢true (sym (ap is_torn harmed) ∙ ap is_torn torn)

module _ (g : Geometry) (live : ℕ → Type 0) (image : Image) where
  pub certain : (words : Codewords) → HasForm g words words live image → IsIdle g words live image ⊎ IsCommitted g words live image
  certain words (IdleOld form) = inl form
  certain words (CommittedOld form) = inr form
  certain words (Uncommitted form) = inl (record { encodes = form.encodes; body = form.body })
  certain words (IdleNew form) = inl form
  certain words (CommittedNew form) = inr form

  -- cell (t, i, j) is one of a redo that is open on a live slot
  abbrev pub IsInOpenRedo : ℕ → ℕ → ℕ → Type 0
  IsInOpenRedo t i j = (slot : ℕ) × (redo : Redo) × live slot × IsOpen g image slot redo × IsInRedo redo t i j

  torn_committed : (words : Codewords) (t i j : ℕ) → IsCommitted g words live image → t < g.stripes → i < g.r → j < g.n → live j
      → (image j).cell (cell_sector g t i) ≡ Torn → IsInOpenRedo t i j
  torn_committed words t i j form t_in i_in j_in on torn =
      elim (form.encodes t i j t_in i_in j_in on) [
        | inl has ↦ (form.first, form.redo, form.first_live, form.first_open, has)
        | inr holds ↦ absurd (untorn holds torn)
      ]

  pub torn : (old new : Codewords) (t i j : ℕ) → HasForm g old new live image → t < g.stripes → i < g.r → j < g.n → live j
      → (image j).cell (cell_sector g t i) ≡ Torn → IsInOpenRedo t i j
  torn old new t i j (IdleOld form) t_in i_in j_in on cut = absurd (untorn (form.encodes t i j t_in i_in j_in on) cut)
  torn old new t i j (CommittedOld form) t_in i_in j_in on cut = torn_committed old t i j form t_in i_in j_in on cut
  torn old new t i j (Uncommitted form) t_in i_in j_in on cut = absurd (untorn (form.encodes t i j t_in i_in j_in on) cut)
  torn old new t i j (IdleNew form) t_in i_in j_in on cut = absurd (untorn (form.encodes t i j t_in i_in j_in on) cut)
  torn old new t i j (CommittedNew form) t_in i_in j_in on cut = torn_committed new t i j form t_in i_in j_in on cut
