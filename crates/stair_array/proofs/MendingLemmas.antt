-- What scrubbing a stripe and establishing an epoch with a frozen mark and a label came to.
use Rattle.std.proofs.Common.{◌≡◌, ◌≢◌, ◌+◌, ◌<◌, ◌≤◌, ℕ, None, Option, Some, ap, arith, inl, inr, refl, subst, sym, ◌∙◌}
use Rattle.std.specs.Prelude.{◌⊎◌, ◌↔◌, Bool, Err, List, Ok, Result, slice_index}
use Rattle.std.specs.Result.{IsErrAnd}
use Rattle.stair_model.specs.CellSet.{CellSet, HasCell, IsCellSet, cell_count, count_in_slot}
use Rattle.stair_model.specs.Coverage.{IsCovered}
use Rattle.stair_model.specs.Geometry.{Geometry, IsWithinLimits}
use Rattle.stair_model.specs.Restoring.{IsRestored, SameHeld}
use Rattle.stair_model.specs.Slots.{HasSlot, Slots}
use Rattle.stair_model.specs.Stripe.{Stripe}
use Rattle.stair_model.proofs.SetLaws.{cell_count_member}
use Rattle.stair_rack.specs.RackState.{RackState}
use Rattle.stair_member.specs.Establishing.{Stamps}
use Rattle.stair_member.specs.Membership.{Membership}
use Rattle.stair_member.specs.declared.fault.FenceFault.{FenceFault}
use Rattle.stair_member.proofs.JudgeLemmas.{below_or_last}
use Rattle.stair_journal.specs.Redo.{IsRedo}
use Rattle.stair_journal.specs.declared.redo.Redo.{Redo}
use Rattle.stair_journal.proofs.ReadGateLemmas.{cell_counted}
use Rattle.stair_stripes.specs.Gathering.{Gathers, IsCellOf}
use Rattle.stair_stripes.specs.declared.gathering.Gathered.{Gathered}
use Rattle.stair_state.specs.Redoing.{AtRest}
use Rattle.stair_invariant.specs.Effects.{AreLive, FencesGone, Snapshot, Redoes, snapshot}
use Rattle.stair_array.specs.Arrays.{outcome}
use Rattle.stair_array.specs.Calls.{IsLoaded, answer_of}
use Rattle.stair_array.specs.Faults.{array_fault, refusal_for}
use Rattle.stair_array.specs.Machine.{Lost, OutOfRange, Refusal}
use Rattle.stair_array.specs.Mends.{AreOnLive, Scrubs, StampsAs}
use Rattle.stair_array.specs.declared.fault.ArrayFault.{ArrayFault}
use Rattle.stair_array.proofs.ReadingLemmas.{epoch_answer, fault_refused, loads}

-- CELLS ON SLOTS

-- The cells of one slot, up to a row, and those that were there: of the next row its cell is one of them, or isn't in the set.
module _ (cells was on : CellSet) (slot row : ℕ)
    (so_far : (i j : ℕ) → HasCell on i j ↔ (HasCell was i j ⊎ (HasCell cells i j × (j ≡ slot) × (i < row)))) where
  pub row_more : (new : CellSet) → HasCell cells row slot → ((i j : ℕ) → HasCell new i j ↔ (HasCell on i j ⊎ ((i ≡ row) × (j ≡ slot))))
      → (i j : ℕ) → HasCell new i j ↔ (HasCell was i j ⊎ (HasCell cells i j × (j ≡ slot) × (i < row + 1)))
  row_more new has more i j = (λ is. into ((more i j).0 is), λ is. (more i j).1 (back is))
    where
      into : HasCell on i j ⊎ ((i ≡ row) × (j ≡ slot)) → HasCell was i j ⊎ (HasCell cells i j × (j ≡ slot) × (i < row + 1))
      into (inl before) =
          elim ((so_far i j).0 before) [
            | inl first ↦ inl first
            | inr one ↦ let less = one.2 in inr (one.0, one.1, omega (arith, less))
          ]
      into (inr at) =
          let here = at.0 in inr (subst (λ (k : ℕ). HasCell cells k j) (sym at.0) (subst (HasCell cells row) (sym at.1) has), at.1, omega (arith, here))

      back : HasCell was i j ⊎ (HasCell cells i j × (j ≡ slot) × (i < row + 1)) → HasCell on i j ⊎ ((i ≡ row) × (j ≡ slot))
      back (inl first) = inl ((so_far i j).1 (inl first))
      back (inr one) =
          elim (below_or_last row i one.2) [
            | inl less ↦ inl ((so_far i j).1 (inr (one.0, one.1, less)))
            | inr same ↦ inr (same, one.1)
          ]

  pub row_kept : (¬ HasCell cells row slot) → (i j : ℕ) → HasCell on i j ↔ (HasCell was i j ⊎ (HasCell cells i j × (j ≡ slot) × (i < row + 1)))
  row_kept not_has i j = (λ is. into ((so_far i j).0 is), λ is. (so_far i j).1 (back is))
    where
      into : HasCell was i j ⊎ (HasCell cells i j × (j ≡ slot) × (i < row)) → HasCell was i j ⊎ (HasCell cells i j × (j ≡ slot) × (i < row + 1))
      into (inl first) = inl first
      into (inr one) = let less = one.2 in inr (one.0, one.1, omega (arith, less))

      back : HasCell was i j ⊎ (HasCell cells i j × (j ≡ slot) × (i < row + 1)) → HasCell was i j ⊎ (HasCell cells i j × (j ≡ slot) × (i < row))
      back (inl first) = inl first
      back (inr one) =
          elim (below_or_last row i one.2) [
            | inl less ↦ inr (one.0, one.1, less)
            | inr same ↦ absurd (not_has (subst (λ (k : ℕ). HasCell cells k slot) same (subst (HasCell cells i) one.1 one.0)))
          ]

-- of the cells of a stripe with so many rows all rows are all cells
pub rows_all : (cells was on : CellSet) (slot r : ℕ) → ((i j : ℕ) → HasCell cells i j → i < r)
    → ((i j : ℕ) → HasCell on i j ↔ (HasCell was i j ⊎ (HasCell cells i j × (j ≡ slot) × (i < r))))
    → (i j : ℕ) → HasCell on i j ↔ (HasCell was i j ⊎ (HasCell cells i j × (j ≡ slot)))
rows_all cells was on slot r inside so_far i j = (
  λ has. elim ((so_far i j).0 has) [ inl first ↦ inl first | inr one ↦ inr (one.0, one.1) ],
  λ is. (so_far i j).1 (elim is [ inl first ↦ inl first | inr one ↦ inr (one.0, one.1, inside i j one.0) ]),
)

-- The cells on those of the slots below one: the slot itself is one of them, and its cells are added, or it isn't.
module _ (cells on : CellSet) (slots : Slots) (slot : ℕ)
    (so_far : (i j : ℕ) → HasCell on i j ↔ (HasCell cells i j × HasSlot slots j × (j < slot))) where
  pub slot_more : (new : CellSet) → HasSlot slots slot → ((i j : ℕ) → HasCell new i j ↔ (HasCell on i j ⊎ (HasCell cells i j × (j ≡ slot))))
      → (i j : ℕ) → HasCell new i j ↔ (HasCell cells i j × HasSlot slots j × (j < slot + 1))
  slot_more new has more i j = (λ is. into ((more i j).0 is), λ is. (more i j).1 (back is))
    where
      into : HasCell on i j ⊎ (HasCell cells i j × (j ≡ slot)) → HasCell cells i j × HasSlot slots j × (j < slot + 1)
      into (inl before) = let one = (so_far i j).0 before in let less = one.2 in (one.0, one.1, omega (arith, less))
      into (inr at) = let same = at.1 in (at.0, subst (HasSlot slots) (sym at.1) has, omega (arith, same))

      back : HasCell cells i j × HasSlot slots j × (j < slot + 1) → HasCell on i j ⊎ (HasCell cells i j × (j ≡ slot))
      back one =
          elim (below_or_last slot j one.2) [
            | inl less ↦ inl ((so_far i j).1 (one.0, one.1, less))
            | inr same ↦ inr (one.0, same)
          ]

  pub slot_kept : (¬ HasSlot slots slot) → (i j : ℕ) → HasCell on i j ↔ (HasCell cells i j × HasSlot slots j × (j < slot + 1))
  slot_kept not_has i j = (
    λ is. let one = (so_far i j).0 is in let less = one.2 in (one.0, one.1, omega (arith, less)),
    λ one.
        elim (below_or_last slot j one.2) [
          | inl less ↦ (so_far i j).1 (one.0, one.1, less)
          | inr same ↦ absurd (not_has (subst (HasSlot slots) same one.1))
        ],
  )

-- of the cells of a stripe with so many slots all below are all cells
pub slots_all : (cells on : CellSet) (slots : Slots) (n : ℕ) → ((i j : ℕ) → HasCell cells i j → j < n)
    → ((i j : ℕ) → HasCell on i j ↔ (HasCell cells i j × HasSlot slots j × (j < n)))
    → (i j : ℕ) → HasCell on i j ↔ (HasCell cells i j × HasSlot slots j)
slots_all cells on slots n inside so_far i j =
    (λ has. let one = (so_far i j).0 has in (one.0, one.1), λ one. (so_far i j).1 (one.0, one.1, inside i j one.0))

-- SCRUBBING

-- stripe t was gathered, over the live slots of this member
module _ (m : Membership) (g : Geometry) (same : g ≡ m.array.geometry) (live : Slots) (are : AreLive m live) (t : ℕ) (gathered : Gathered)
    (was read : Stripe) (old mid : RackState) (gathers : Gathers g live t (IsCellOf g) gathered was read old mid) (y : Snapshot)
    (below : t < m.array.geometry.stripes) where
  pub scrub_stops : (fault : FenceFault) (result : Result ℕ ArrayFault) → IsErrAnd result (λ e. e ≡ array_fault fault)
      → FencesGone gathered.gone (Some fault) (snapshot m mid) y → Scrubs t (outcome result) (snapshot m old) y
  scrub_stops fault result is leaves =
      subst (λ (a : Result ℕ Refusal). Scrubs t a (snapshot m old) y) (sym (epoch_answer result fault is))
      (Scrubs.Stops was read gathered fault (snapshot m old) y below
      (loads m g same live are t gathered was read old mid gathers y (Some fault) leaves))

  module _ (leaves : FencesGone gathered.gone None (snapshot m mid) y) (later : Slots) (are_later : AreLive y.member later) (cells : CellSet)
      (members : (i j : ℕ) → HasCell cells i j ↔ (HasCell gathered.erased i j × HasSlot later j)) where
    -- a redo of them, where there are some
    pub redo_of_them : IsCellSet cells → cell_count cells ≢ 0 → IsRedo m.array.geometry (record { stripe = t; cells = cells })
    redo_of_them formed some =
        let one = cell_count_member cells (omega (arith, some)) in
        record {
          stripe_in = below;
          formed = formed;
          inside = λ i j has. subst (λ (k : Geometry). IsCellOf k i j) same (gathers.wanted_erased i j ((members i j).0 has).0);
          row = one.0;
          slot = one.1;
          some = one.4;
        }

    on_live : AreOnLive y.member gathered.erased cells
    on_live i j = (
      λ has. let one = (members i j).0 has in (one.0, (are_later.are j).0 one.1),
      λ one. (members i j).1 (one.0, (are_later.are j).1 one.1),
    )

    pub scrub_sound : IsWithinLimits m.array.geometry → cell_count cells ≡ 0 → Scrubs t (Ok 0) (snapshot m old) y
    scrub_sound limits none =
        Scrubs.Sound was read gathered (snapshot m old) y below
        (loads m g same live are t gathered was read old mid gathers y None leaves)
        (λ i j erased live_then.
        let inside = gathers.wanted_erased i j erased in
        let few_rows = limits.rows.1 in
        let few_slots = limits.devices.1 in
        let row : i < m.array.geometry.r = subst (λ (k : Geometry). i < k.r) same inside.0 in
        let slot : j < m.array.geometry.n = subst (λ (k : Geometry). j < k.n) same inside.1 in
        let counted = cell_counted cells i j (omega (arith, row, few_rows)) (omega (arith, slot, few_slots)) ((on_live i j).1 (erased, live_then)) in
        absurd (omega (arith, counted, none)))

    module _ (k : Geometry) (alike : k ≡ m.array.geometry) where
      pub scrub_lost : (into : Stripe) (counts : List ℕ) → (¬ IsCovered k gathered.erased)
          → ((j : ℕ) → j < 32 → slice_index counts j ≡ count_in_slot gathered.erased j)
          → Scrubs t (Err (Lost t counts)) (snapshot m old) y
      scrub_lost into counts uncovered counted =
          Scrubs.Unrestored was read into gathered (Lost t counts) (snapshot m old) y below
          (loads m g same live are t gathered was read old mid gathers y None leaves)
          (subst (λ (s : Geometry). IsLoaded s t gathered.erased read into (Err (Lost t counts))) alike (uncovered, (counts, refl, counted)))

      pub scrub_writes : (kept into : Stripe) → kept ≡ read → IsCovered k gathered.erased → SameHeld k gathered.erased into kept
          → IsRestored k gathered.erased kept into → IsCellSet cells → cell_count cells ≢ 0 → (refusal : Option FenceFault)
          (h : Geometry) → h ≡ m.array.geometry → (z : Snapshot) → Redoes h (record { stripe = t; cells = cells }) into AtRest refusal y z
          → Scrubs t (answer_of (cell_count cells) refusal) (snapshot m old) z
      scrub_writes kept into as_read covered held restored formed some refusal h again z run =
          let redo : Redo = record { stripe = t; cells = cells } in
          Scrubs.Rewrote was read into gathered redo refusal (snapshot m old) y z below
          (loads m g same live are t gathered was read old mid gathers y None leaves)
          (subst (λ (s : Geometry). IsLoaded s t gathered.erased read into (Ok tt)) alike
          (subst (λ (s : Stripe). IsLoaded k t gathered.erased s into (Ok tt)) as_read (covered, held, restored)))
          refl (redo_of_them formed some) on_live
          (subst (λ (s : Geometry). Redoes s redo into AtRest refusal y z) again run)

      pub scrub_refused : (kept into : Stripe) → kept ≡ read → IsCovered k gathered.erased → SameHeld k gathered.erased into kept
          → IsRestored k gathered.erased kept into → IsCellSet cells → cell_count cells ≢ 0 → (fault : FenceFault) (result : Result ℕ ArrayFault)
          → IsErrAnd result (λ e. e ≡ array_fault fault) → (h : Geometry) → h ≡ m.array.geometry → (z : Snapshot)
          → Redoes h (record { stripe = t; cells = cells }) into AtRest (Some fault) y z
          → Scrubs t (outcome result) (snapshot m old) z
      scrub_refused kept into as_read covered held restored formed some fault result is h again z run =
          subst (λ (a : Result ℕ Refusal). Scrubs t a (snapshot m old) z) (sym (epoch_answer result fault is))
          (scrub_writes kept into as_read covered held restored formed some (Some fault) h again z run)

-- there is no such stripe
pub scrub_past : (t asked limit : ℕ) (x : Snapshot) → asked ≡ t → limit ≡ x.member.array.geometry.stripes → limit ≤ t
    → Scrubs t (Err (OutOfRange asked limit)) x x
scrub_past t asked limit x is_asked is_limit past =
    rw (is_asked, is_limit) (Scrubs.OutOf x (omega (arith, is_limit, past)))

-- STAMPING

module _ (frozen : Bool) (label : List ℕ) (m last : Membership) (old new : RackState) where
  pub stamped : (fallen : Slots) → Stamps frozen label m last (Ok fallen) old new → StampsAs frozen label (Ok tt) (snapshot m old) (snapshot last new)
  stamped fallen stamps = StampsAs.Stamped (Ok fallen) (snapshot m old) (snapshot last new) stamps

  pub stamp_refused : (fault : FenceFault) (kept : ArrayFault) → kept ≡ array_fault fault → Stamps frozen label m last (Err fault) old new
      → StampsAs frozen label (Err (refusal_for kept)) (snapshot m old) (snapshot last new)
  stamp_refused fault kept same stamps =
      subst (λ (r : Refusal). StampsAs frozen label (Err r) (snapshot m old) (snapshot last new))
      (sym (ap refusal_for same ∙ fault_refused fault))
      (StampsAs.Stamped (Err fault) (snapshot m old) (snapshot last new) stamps)
