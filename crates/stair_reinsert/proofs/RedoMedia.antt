-- The size and the gate of a slot's medium, wherever it lies later.
use Rattle.std.specs.Prelude.{IsSome}
use Rattle.std.proofs.Common.{List, Some, inl, inr, refl, subst, sym, ◌∙◌, ◌≡◌, ◌⊎◌, ℕ, arith}
use Rattle.stair_model.specs.Device.{gate_sector}
use Rattle.stair_model.specs.Geometry.{Geometry}
use Rattle.stair_rack.specs.Answers.{IsNoAttach, Ran}
use Rattle.stair_rack.specs.Crash.{CrashMayLeave}
use Rattle.stair_rack.specs.History.{Happening, slot_state}
use Rattle.stair_rack.specs.Media.{Image, Medium}
use Rattle.stair_rack.specs.Moments.{AtEveryMoment, IsMoment}
use Rattle.stair_rack.specs.Offline.{IsAttached}
use Rattle.stair_rack.specs.Sector.{Cell, Leaves}
use Rattle.stair_rack.proofs.MomentLemmas.{at_moment, ran_before, ran_none}
use Rattle.stair_rack.proofs.TidyLemmas.{HasSize, size_on}
use Rattle.stair_journal.specs.Gate.{ReadsClosed}
use Rattle.stair_state.specs.Degraded.{AreAllDamaged}
use Rattle.stair_state.specs.Reassembly.{InSlot, IsMediumOf, Location, Outside}
use Rattle.stair_state.specs.Recovering.{IsShut}
use Rattle.stair_state.proofs.DegradedLemmas.{copies_damaged}
use Rattle.stair_invariant.proofs.EstablishingLemmas.{none_open}
use Rattle.stair_reinsert.specs.Following.{HoldsNamed, SurvivesDamage, name_of}
use Rattle.stair_reinsert.proofs.NameLemmas.{name_apart, not_outside, still_attached}
use Rattle.stair_reinsert.proofs.SessionBehind.{closed_still}
use Rattle.stair_reinsert.proofs.WhereverLemmas.{holds_wherever, kept_left, own_wherever}

module _ (start h : List Happening) (j : ℕ) (some : IsSome (slot_state start j).size) (ran : Ran (IsNoAttach j) start h) (image : Image)
    (left : CrashMayLeave h image) where
  -- the medium that lay in the slot is as large as it was, unless it was never written
  Sized : ℕ → (ℕ → Cell) → Type 0
  Sized size cell = AreAllDamaged cell ⊎ (Some size ≡ (slot_state start j).size)

  sized_survives : (size : ℕ) → SurvivesDamage (Sized size)
  unfolding Sized
  sized_survives size = record {
    harmed = λ was is copies before. elim before [ inl all ↦ inl (copies_damaged all copies) | inr same ↦ inr same ];
    blank = λ cell all. inl all;
  }

  pub sized_wherever : (p : Location) (medium : Medium) → IsMediumOf (image j) p medium → name_of h j p ≡ name_of start j InSlot
      → ¬ AreAllDamaged medium.cell → Some medium.size ≡ (slot_state start j).size
  unfolding Sized
  sized_wherever p medium is named written =
      elim
      (holds_wherever j (name_of start j InSlot) Sized sized_survives {allowed = IsNoAttach j} ran
      (λ x at on same slot may size sized. inr (sym sized ∙ may.size ∙ size_at x at on))
      (record {
        inside = λ same slot may size sized. inr (sym sized ∙ may.size);
        outside = λ i m same at. absurd (not_outside (name_apart start j (Outside i) InSlot same));
      }) image left p medium is named) [
        | inl all ↦ absurd (written all)
        | inr same ↦ same
      ]
    where
      size_at : (x : List Happening) → IsMoment start x h → IsAttached x j → (slot_state x j).size ≡ (slot_state start j).size
      size_at x at on =
          by
          (size_on {allowed = IsNoAttach j} (slot_state start j).pulls (slot_state start j).size j some (ran_before ran at) (HasSize.Same refl refl))
        where
          by : HasSize (slot_state start j).pulls (slot_state start j).size (slot_state x j) → (slot_state x j).size ≡ (slot_state start j).size
          by (HasSize.Same pulls is) = is
          by (HasSize.Other less) = let same = (still_attached j (ran_before ran at) on).1 in absurd (omega (arith, less, same))

-- the gate of the medium that lay in the slot reads closed, where it did at each moment while that lay there
pub shut_wherever : (g : Geometry) (start h : List Happening) (j : ℕ) → IsSome (slot_state start j).size → Ran (IsNoAttach j) start h
    → AtEveryMoment (λ x. IsShut g start x j) start h → (image : Image) → CrashMayLeave h image → (to : Image)
    → HoldsNamed h image to (name_of start j InSlot) j → ReadsClosed g ((to j).cell gate_sector)
shut_wherever g start h j some ran each image left to own =
    closed_still g (own.medium.cell gate_sector) ((to j).cell gate_sector) (own.copies gate_sector)
    (own_wherever j (λ cell. ReadsClosed g (cell gate_sector))
    (record {
      harmed = λ was is copies closed. closed_still g (was gate_sector) (is gate_sector) (copies gate_sector) closed;
      blank = λ cell all. subst (ReadsClosed g) (sym (all gate_sector)) (none_open g);
    }) {allowed = IsNoAttach j} {start = start} {from = start} {h = h} some (ran_none start) (λ pulled. omega (arith, pulled)) ran
    (λ x at same slot may.
    kept_left {P = Leaves (ReadsClosed g) (ReadsClosed g)} (ReadsClosed g) (slot_state start j).pulls gate_sector (slot_state x j) slot (none_open g)
    (λ cell leaves is. leaves.each cell is) same may (at_moment {P = λ y. IsShut g start y j} each at)) image left own.place own.medium own.is_one
    own.named)
