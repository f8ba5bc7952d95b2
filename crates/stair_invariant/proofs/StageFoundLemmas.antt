-- In which stage of a redo an opening finds its slots.
use Rattle.std.proofs.Common.{◌≡◌, ℕ, [], inl, inr, refl}
use Rattle.std.specs.Prelude.{◌⊎◌}
use Rattle.stair_model.specs.Device.{gate_sector}
use Rattle.stair_model.specs.Geometry.{Geometry, IsWithinLimits}
use Rattle.stair_rack.specs.Media.{Image}
use Rattle.stair_journal.specs.Gate.{ReadsClosed}
use Rattle.stair_journal.specs.declared.redo.Redo.{Redo}
use Rattle.stair_state.specs.Blocks.{Codewords}
use Rattle.stair_state.specs.Forms.{CommittedNew, CommittedOld, HasForm, IdleNew, IdleOld, IsCommitted, IsIdle, IsOpen, RepresentsBy, Uncommitted}
use Rattle.stair_state.specs.Redoing.{AtRest, IsLeftIn, IsRedoing, Placing, Redoing, Stage, new_in, old_in}
use Rattle.stair_state.proofs.RedoFoundLemmas.{found_at_rest, found_committed, found_idle, found_uncommitted}
use Rattle.stair_invariant.specs.Opening.{Across, After, AllAreClosed, AreBetween, Before, GatesTell, OneIsOpen}

-- an image is in this stage, from the stripes before or after a change in doubt to one of the two
pub record IsLeftSo (g : Geometry) (old new : Codewords) (live : ℕ → Type 0) (image : Image) : Type 0 where
  pub redoing : Redoing
  pub stage : Stage
  pub geometry : redoing.geometry ≡ g
  pub begun : (stage ≡ AtRest) ⊎ (IsRedoing redoing × ((stage ≡ Stage.Uncommitted) ⊎ (stage ≡ Placing)))
  pub left : IsLeftIn redoing stage live image
  pub words : AreBetween old new redoing.old redoing.new

-- the stripes of a stage are one of the two
module _ {old new first last : Codewords} where
  pub first_among : AreBetween old new first last → (first ≡ old) ⊎ (first ≡ new)
  first_among (Before a b) = inl a
  first_among (Across a b) = inl a
  first_among (After a b) = inr a

  pub last_among : AreBetween old new first last → (last ≡ old) ⊎ (last ≡ new)
  last_among (Before a b) = inl b
  last_among (Across a b) = inr b
  last_among (After a b) = inr b

pub old_among : (old new : Codewords) (a : Redoing) (stage : Stage) → AreBetween old new a.old a.new → (old_in a stage ≡ old) ⊎ (old_in a stage ≡ new)
old_among old new a AtRest words = first_among words
old_among old new a Stage.Uncommitted words = first_among words
old_among old new a stage words = last_among words

pub new_among : (old new : Codewords) (a : Redoing) (stage : Stage) → AreBetween old new a.old a.new → (new_in a stage ≡ old) ⊎ (new_in a stage ≡ new)
new_among old new a AtRest words = first_among words
new_among old new a stage words = last_among words

abbrev none_redo : Redo
none_redo = record { stripe = 0; cells = record { rows = [] } }

abbrev going : Geometry → Redo → Codewords → Codewords → Redoing
going g redo old new = record { geometry = g; redo = redo; old = old; new = new }

module _ (g : Geometry) (limits : IsWithinLimits g) (old new : Codewords) (live : ℕ → Type 0) (image : Image)
    (by : RepresentsBy g old new live image) where
  -- with stripes that are one of the two
  module _ (words : Codewords) (is : AreBetween old new words words) where
    rests : IsIdle g words live image → ((j : ℕ) → live j → ReadsClosed g ((image j).cell gate_sector)) → IsLeftSo g old new live image
    rests idle shut = record {
      redoing = going g none_redo words words;
      stage = AtRest;
      geometry = refl;
      begun = inl refl;
      left = found_at_rest (going g none_redo words words) live image idle.encodes shut;
      words = is;
    }

    opens : (j : ℕ) (redo : Redo) → live j → IsOpen g image j redo → IsIdle g words live image → IsLeftSo g old new live image
    opens j redo on opened idle =
        let found = found_idle (going g redo words words) live image limits refl by.one_redo idle j on opened in
        record {
          redoing = going g redo words words;
          stage = Stage.Uncommitted;
          geometry = refl;
          begun = inr (found.0, inl refl);
          left = found.1;
          words = is;
        }

    places : IsCommitted g words live image → IsLeftSo g old new live image
    places form =
        let found = found_committed (going g form.redo words words) live image limits refl form refl in
        record {
          redoing = going g form.redo words words;
          stage = Placing;
          geometry = refl;
          begun = inr (found.0, inr refl);
          left = found.1;
          words = is;
        }

  closed_stage : ((j : ℕ) → live j → ReadsClosed g ((image j).cell gate_sector)) → HasForm g old new live image → IsLeftSo g old new live image
  closed_stage shut (IdleOld idle) = rests old (Before refl refl) idle shut
  closed_stage shut (CommittedOld form) = absurd (shut form.first form.first_live form.redo form.first_open)
  closed_stage shut (Uncommitted form) =
      rests old (Before refl refl) (record { encodes = form.encodes; body = λ j redo on opened. absurd (shut j on redo opened) }) shut
  closed_stage shut (IdleNew idle) = rests new (After refl refl) idle shut
  closed_stage shut (CommittedNew form) = absurd (shut form.first form.first_live form.redo form.first_open)

  open_stage : (j : ℕ) (redo : Redo) → live j → IsOpen g image j redo → HasForm g old new live image → IsLeftSo g old new live image
  open_stage j redo on opened (IdleOld idle) = opens old (Before refl refl) j redo on opened idle
  open_stage j redo on opened (CommittedOld form) = places old (Before refl refl) form
  open_stage j redo on opened (Uncommitted form) =
      let found = found_uncommitted (going g redo old new) live image limits by.one_redo form j on opened in
      record {
        redoing = going g redo old new;
        stage = Stage.Uncommitted;
        geometry = refl;
        begun = inr (found.0, inl refl);
        left = found.1;
        words = Across refl refl;
      }
  open_stage j redo on opened (IdleNew idle) = opens new (After refl refl) j redo on opened idle
  open_stage j redo on opened (CommittedNew form) = places new (After refl refl) form

  -- the stage that the gates tell
  pub stage_told : GatesTell g live image → IsLeftSo g old new live image
  stage_told (OneIsOpen j redo on opened) = open_stage j redo on opened by.form
  stage_told (AllAreClosed shut) = closed_stage shut by.form
