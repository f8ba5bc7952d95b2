-- Of a cell it is known whether it is an open gate, and so of slots whether one of them has one.
use Rattle.std.proofs.Common.{◌≡◌, ℕ, zero, suc, ◌<◌, ◌↔◌, Bool, true, false, List, take, drop, inl, inr, refl, sym, ap, ◌∙◌, subst, arith}
use Rattle.std.specs.Prelude.{◌⊎◌}
use Rattle.std.specs.Int.{w32, from_be_bytes}
use Rattle.std.proofs.lemmas.Bool.{cases_Bool, cases_eq, cases_lt, false≢true}
use Rattle.std.proofs.lemmas.List.Elements.{All-from_get_or}
use Rattle.stair_model.specs.CellSet.{CellSet, HasCell, IsCellSet, cell_count, has_cell}
use Rattle.stair_model.specs.Device.{gate_sector}
use Rattle.stair_model.specs.Geometry.{Geometry, IsWithinLimits}
use Rattle.stair_model.specs.Slots.{IsSlotSet, Slots, has_slot, no_slots}
use Rattle.stair_model.proofs.FirstLaws.{IsKnown, known_both}
use Rattle.stair_model.proofs.PlaceLaws.{length-list_of, list_of, list_of_at}
use Rattle.stair_model.proofs.SetLaws.{cell_count_member}
use Rattle.stair_rack.specs.History.{Happening, slot_state}
use Rattle.stair_rack.specs.Media.{Image}
use Rattle.stair_rack.specs.Sector.{Cell, Damaged, Good, Torn, TornOverDamage}
use Rattle.stair_super.proofs.Decided.{known_if, known_lt, known_text}
use Rattle.stair_member.specs.Membership.{Membership, why_of}
use Rattle.stair_member.specs.declared.why.Why.{Why}
use Rattle.stair_member.specs.declared.why.Why.TheVariants.{Here}
use Rattle.stair_member.proofs.CountingLemmas.{slot_in_range, slots_by, slots_by-at, slots_by-formed}
use Rattle.stair_journal.specs.Gate.{IsOpenWith, ReadsClosed, open_gate}
use Rattle.stair_journal.specs.GateSteps.{IsMarkedCell}
use Rattle.stair_journal.specs.Redo.{IsRedo}
use Rattle.stair_journal.specs.declared.redo.Redo.{Redo}
use Rattle.stair_journal.proofs.ReadGateLemmas.{cell_counted, has_cell-past, named}
use Rattle.stair_state.specs.Forms.{IsOpen}
use Rattle.stair_invariant.specs.Opening.{AllAreClosed, GatesTell, OneIsOpen}
use Rattle.stair_invariant.specs.UnderWay.{IsInUse}

-- A SET OF CELLS BY A TEST

row_by : (ℕ → ℕ → Bool) → ℕ → Slots
row_by test i = slots_by (test i)

-- the cells that pass it, of those below 32
cells_by : (ℕ → ℕ → Bool) → CellSet
cells_by test = record { rows = list_of 32 (row_by test) }

row_is : (test : ℕ → ℕ → Bool) (i j : ℕ) → i < 32 → has_cell (cells_by test) i j ≡ has_slot (slots_by (test i)) j
unfolding cells_by row_by
row_is test i j row = ap (λ (s : Slots). has_slot s j) (list_of_at 32 (row_by test) i no_slots row)

formed_by : (test : ℕ → ℕ → Bool) → IsCellSet (cells_by test)
unfolding cells_by row_by
formed_by test = record {
  count = length-list_of 32 (row_by test);
  slots = All-from_get_or IsSlotSet (list_of 32 (row_by test)) no_slots
      (λ i below.
      let within : i < 32 = omega (arith, length-list_of 32 (row_by test)) in
      subst IsSlotSet (sym (list_of_at 32 (row_by test) i no_slots within)) (slots_by-formed (test i)));
}

passes_by : (test : ℕ → ℕ → Bool) (i j : ℕ) → i < 32 → j < 32 → has_cell (cells_by test) i j ≡ test i j
passes_by test i j row slot = row_is test i j row ∙ slots_by-at (test i) j slot

below_by : (test : ℕ → ℕ → Bool) (i j : ℕ) → HasCell (cells_by test) i j → (i < 32) × (j < 32)
below_by test i j has =
    elim (cases_lt i 32) [
      | inl row ↦ (row, slot_in_range (slots_by (test i)) j (slots_by-formed (test i)) (sym (row_is test i j row) ∙ has))
      | inr past ↦ absurd (false≢true (sym (has_cell-past (cells_by test) i j (formed_by test) past) ∙ has))
    ]

-- whether what is known holds
holds : {P : Type 0} → P ⊎ (¬ P) → Bool
holds (inl p) = true
holds (inr never) = false

holds_tells : {P : Type 0} (known : P ⊎ (¬ P)) → (holds known ≡ true) ↔ P
unfolding holds
holds_tells (inl p) = ((λ passes. p), (λ q. refl))
holds_tells (inr never) = ((λ passes. absurd (false≢true passes)), (λ q. absurd (never q)))

-- THE REDO THAT BYTES NAME

module _ (g : Geometry) (limits : IsWithinLimits g) (bytes : List ℕ) where
  marked_known : (i j : ℕ) → IsKnown (IsMarkedCell g bytes i j)
  marked_known i j = known_both (known_lt i g.r) (known_both (known_lt j g.n) (cases_eq _ _))

  abbrev test : ℕ → ℕ → Bool
  test i j = holds (marked_known i j)

  abbrev marked_redo : Redo
  marked_redo = record { stripe = from_be_bytes w32 (take 4 (drop 12 bytes)); cells = cells_by test }

  members : (i j : ℕ) → HasCell marked_redo.cells i j ↔ IsMarkedCell g bytes i j
  members i j = (
    λ has.
        let below = below_by test i j has in
        (holds_tells (marked_known i j)).0 (sym (passes_by test i j below.0 below.1) ∙ has),
    λ marked.
        let row : i < g.r = marked.0 in
        let slot : j < g.n = marked.1.0 in
        passes_by test i j (omega (arith, row, limits.rows.1)) (omega (arith, slot, limits.devices.1)) ∙ (holds_tells (marked_known i j)).1 marked,
  )

  only : (redo : Redo) → IsOpenWith g (Good bytes) redo → marked_redo ≡ redo
  only redo opened = named g bytes marked_redo redo limits opened refl (formed_by test) members

  redo_known : IsKnown (IsRedo g marked_redo)
  redo_known =
      known_if {P = (marked_redo.stripe < g.stripes) × (0 < cell_count marked_redo.cells)} {Q = IsRedo g marked_redo}
      (λ has. let some = cell_count_member marked_redo.cells has.1 in
      record {
        stripe_in = has.0;
        formed = formed_by test;
        inside = λ i j is. let marked = (members i j).0 is in (marked.0, marked.1.0);
        row = some.0;
        slot = some.1;
        some = some.4;
      })
      (λ is. let below = below_by test is.row is.slot is.some in (is.stripe_in, cell_counted marked_redo.cells is.row is.slot below.0 below.1 is.some))
      (known_both (known_lt marked_redo.stripe g.stripes) (known_lt 0 (cell_count marked_redo.cells)))

  bytes_known : ((redo : Redo) × IsOpenWith g (Good bytes) redo) ⊎ ReadsClosed g (Good bytes)
  bytes_known =
      elim (known_both (known_text bytes (open_gate g marked_redo)) redo_known) [
        | inl both ↦ inl (marked_redo, record { good = ap Good both.0; formed = both.1 })
        | inr none ↦
            inr
            (λ redo opened.
            let same : marked_redo ≡ redo = only redo opened in
            let here : IsOpenWith g (Good bytes) marked_redo = subst (IsOpenWith g (Good bytes)) (sym same) opened in
            let good : Good bytes ≡ Good (open_gate g marked_redo) = here.good in
            none ((cc), here.formed))
      ]

pub gate_known : (g : Geometry) → IsWithinLimits g → (cell : Cell) → ((redo : Redo) × IsOpenWith g cell redo) ⊎ ReadsClosed g cell
gate_known g limits (Good bytes) = bytes_known g limits bytes
gate_known g limits Damaged = inr (λ redo opened. let good = opened.good in cc)
gate_known g limits Torn = inr (λ redo opened. let good = opened.good in cc)
gate_known g limits TornOverDamage = inr (λ redo opened. let good = opened.good in cc)

-- SLOTS

-- one of the slots has an open gate
record OneOpen (g : Geometry) (live : ℕ → Type 0) (image : Image) : Type 0 where
  pub slot : ℕ
  pub redo : Redo
  pub on : live slot
  pub opened : IsOpen g image slot redo

-- Of slots below n of which it is known whether they are live: one has an open gate, or all are closed.
module _ (g : Geometry) (limits : IsWithinLimits g) (live : ℕ → Type 0) (known : (j : ℕ) → IsKnown (live j)) (image : Image) where
  told_below : (n : ℕ) → ((j : ℕ) → live j → j < n) → GatesTell g live image
  told_below n within = by (upto n)
    where
      upto : (k : ℕ) → OneOpen g live image ⊎ ((j : ℕ) → j < k → live j → ReadsClosed g ((image j).cell gate_sector))
      upto zero = inr (λ j below on. absurd (omega arith))
      upto (suc k) =
          elim (upto k) [
            | inl one ↦ inl one
            | inr closed ↦
                elim (known k) [
                  | inr off ↦ inr (λ j below on. elim (cases_lt j k) [ inl lower ↦ closed j lower on | inr here ↦ absurd (off (subst live (omega (arith, below, here)) on)) ])
                  | inl on ↦
                      elim (gate_known g limits ((image k).cell gate_sector)) [
                        | inl opened ↦ inl (record { slot = k; redo = opened.0; on = on; opened = opened.1 })
                        | inr shut ↦
                            inr
                            (λ j below on'.
                            elim (cases_lt j k) [
                              | inl lower ↦ closed j lower on'
                              | inr here ↦ subst (λ (i : ℕ). ReadsClosed g ((image i).cell gate_sector)) (omega (arith, below, here)) shut
                            ])
                      ]
                ]
          ]

      by : OneOpen g live image ⊎ ((j : ℕ) → j < n → live j → ReadsClosed g ((image j).cell gate_sector)) → GatesTell g live image
      by (inl one) = OneIsOpen one.slot one.redo one.on one.opened
      by (inr closed) = AllAreClosed (λ j on. closed j (within j on) on)

here_known : (why : Why) → IsKnown (why ≡ Here)
here_known Here = inl refl
here_known why = inr (λ is. cc)

pub in_use_known : (m : Membership) (h : List Happening) (j : ℕ) → IsKnown (IsInUse m h j)
in_use_known m h j =
    known_if {P = (j < m.array.geometry.n) × ((why_of m j ≡ Here) × ((slot_state h j).attached ≡ true))} {Q = IsInUse m h j}
    (λ both. (record { below = both.0; why = both.1.0 }, both.1.1)) (λ used. (used.0.below, (used.0.why, used.1)))
    (known_both (known_lt j m.array.geometry.n) (known_both (here_known (why_of m j)) attached_known))
  where
    attached_known : IsKnown ((slot_state h j).attached ≡ true)
    attached_known =
        elim (cases_Bool (slot_state h j).attached) [ inl on ↦ inl on | inr off ↦ inr (λ on. false≢true (sym off ∙ on)) ]

-- what the gates of the slots in use tell
pub gates_tell : (g : Geometry) → IsWithinLimits g → (m : Membership) (h : List Happening) (image : Image) → GatesTell g (IsInUse m h) image
gates_tell g limits m h image = told_below g limits (IsInUse m h) (in_use_known m h) image m.array.geometry.n (λ j used. used.0.below)
