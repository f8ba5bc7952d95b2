-- The codeword of a stripe's data cells: there is one, and a stripe that holds it is encoded.
use Rattle.std.proofs.Common.{◌≡◌, ℕ, ◌<◌, [], false, length, slice_index, inl, inr, sym, subst, ap, ◌∙◌, lit<, arith}
use Rattle.std.specs.Prelude.{All}
use Rattle.std.proofs.lemmas.Bool.{cases_Bool, cases_lt, false≢true}
use Rattle.std.proofs.lemmas.List.{ext_get_or}
use Rattle.std.proofs.lemmas.List.Elements.{All-nil, All-get_or}
use Rattle.stair_model.specs.Canonical.{canonical_chunks, canonical_rows, IsCanonicalCodeword}
use Rattle.stair_model.specs.Cell.{cell_at, is_global, is_parity}
use Rattle.stair_model.specs.CellSet.{CellSet, HasCell}
use Rattle.stair_model.specs.Codeword.{Word}
use Rattle.stair_model.specs.Encoding.{IsEncodedFrom}
use Rattle.stair_model.specs.Geometry.{Geometry, IsWithinLimits, data_chunks}
use Rattle.stair_model.specs.Stripe.{Stripe, SECTOR, IsSector, IsStripeOf, IsWellFormed, cell, byte_of}
use Rattle.stair_model.proofs.CanonicalLaws.{canonical_is_codeword}
use Rattle.stair_model.proofs.CellLaws.{OfParity, OfGlobal, OfData, kind_of_cell}
use Rattle.stair_model.proofs.DataLaws.{data_cell_tells}
use Rattle.stair_model.proofs.EncodingLaws.{not_global-above}
use Rattle.stair_model.proofs.StripeLaws.{cell-IsSector, byte_at-lt, filled-IsSector, sector_bytes}
use Rattle.stair_model.proofs.VirtualRowLaws.{SameDataCells, canonical_exists}
use Rattle.stair_canon.specs.Canonical.{CanonicalStripe, IsWellFormed as IsWellFormedCanon, byte_at, is_known, number, symbol}
use Rattle.stair_canon.specs.Parities.{AreParities}
use Rattle.stair_canon.specs.Solving.{Loads}
use Rattle.stair_canon.proofs.Grid.{bytes-known, bytes-unknown, number_in, symbol-in, symbol-out}
use Rattle.stair_down.proofs.Walk.{IsTarget, HasReached}

-- ---- symbols are sectors

symbol-IsSector : (c : CanonicalStripe) (i j : ℕ) → IsWellFormedCanon c → i < canonical_rows c.geometry → j < canonical_chunks c.geometry
    → IsSector (symbol c i j)
symbol-IsSector c i j formed i_in j_in =
    let k = number c.geometry i j in
    subst IsSector (sym (symbol-in c i j j_in))
    (elim (cases_Bool (is_known c.symbols k)) [
      | inl known ↦
          subst IsSector (sym (bytes-known c.symbols k known))
          (All-get_or IsSector c.symbols.memory k [] (omega (arith, number_in c.geometry i j i_in j_in, formed.count)) formed.sectors)
      | inr unknown ↦ subst IsSector (sym (bytes-unknown c.symbols k unknown)) (filled-IsSector 0 (lit< tt))
    ])

symbol_bytes : (c : CanonicalStripe) (i j : ℕ) → IsWellFormedCanon c → All (λ b. b < 256) (symbol c i j)
symbol_bytes c i j formed =
    let k = number c.geometry i j in
    elim (cases_lt j (canonical_chunks c.geometry)) [
      | inl within ↦
          subst (All (λ b. b < 256)) (sym (symbol-in c i j within))
          (elim (cases_Bool (is_known c.symbols k)) [
            | inl known ↦ subst (All (λ b. b < 256)) (sym (bytes-known c.symbols k known)) (sector_bytes c.symbols.memory k formed.sectors)
            | inr unknown ↦ subst (All (λ b. b < 256)) (sym (bytes-unknown c.symbols k unknown)) (filled-IsSector 0 (lit< tt)).1
          ])
      | inr past ↦ subst (All (λ b. b < 256)) (sym (symbol-out c i j past)) (sector_bytes [] j (All-nil IsSector))
    ]

symbol_byte-lt : (c : CanonicalStripe) (q i j : ℕ) → IsWellFormedCanon c → byte_at c q i j < 256
symbol_byte-lt c q i j formed = byte_at-lt (symbol c i j) q (symbol_bytes c i j formed)

-- ---- the codeword

pub target_exists : (stripe : Stripe) (old new : CanonicalStripe) → IsWithinLimits old.geometry → IsWellFormedCanon new
    → Loads stripe old new → (x : ℕ → Word) × IsTarget old.geometry stripe x
target_exists stripe old new limits formed loads = (
  λ q. (made q).0,
  record {
    codeword = λ q q_in. (made q).1;
    cells = λ q i j q_in i_in j_in test.
        (made q).2 i j j_in (not_global-above g i j i_in test)
        ∙ ap (λ bytes. slice_index bytes q) (loads.cells i j (i_in, omega arith));
  },
)
  where
    g : Geometry
    g = old.geometry

    made : (q : ℕ) → (x : Word) × IsCanonicalCodeword g x × SameDataCells g x (byte_at new q)
    made q = canonical_exists g (byte_at new q) limits (λ i j. symbol_byte-lt new q i j formed)

-- ---- the stripe that holds it

-- a cell that is no parity is a data cell
data_unless_parity : (g : Geometry) (i j : ℕ) → is_parity (cell_at g i j) ≡ false → (j < data_chunks g) × (is_global g i j ≡ false)
data_unless_parity g i j no_parity =
    elim (kind_of_cell g i j) [
      | OfParity from is ↦ absurd (false≢true (sym no_parity ∙ ap is_parity is))
      | OfGlobal below place is ↦ absurd (false≢true (sym no_parity ∙ ap is_parity is))
      | OfData below place is ↦ (below, place.test)
    ]

-- at the end of the walk, the stripe into which the cells were stored is encoded
pub encoded_at_end : (before after : Stripe) (x : ℕ → Word) (old loaded c : CanonicalStripe) (row : ℕ) → IsWithinLimits old.geometry
    → IsWellFormedCanon loaded → Loads before old loaded → IsTarget old.geometry before x → old.geometry.r ≡ row
    → HasReached old.geometry x c row 0
    → (parities : CellSet) → AreParities old.geometry parities
    → ((i j : ℕ) → i < old.geometry.r → j < old.geometry.n → HasCell parities i j → cell after i j ≡ symbol c i j)
    → ((i j : ℕ) → i < old.geometry.r → j < old.geometry.n → ¬ HasCell parities i j → cell after i j ≡ cell before i j)
    → IsStripeOf old.geometry after → IsWellFormed after → IsEncodedFrom old.geometry before after
encoded_at_end before after x old loaded c row limits formed loads target end reached parities are_parities stored others of after_formed = record {
  of = of;
  formed = after_formed;
  codeword = canonical_is_codeword g after x limits (λ q q_in. (λ i j i_in j_in. byte_is q i j q_in i_in j_in, target.codeword q q_in));
  same_data = λ i j d i_in j_in is.
      let kind = data_cell_tells g i j d is in
      let was : length (cell before i j) ≡ SECTOR =
      ap length (sym (loads.cells i j (i_in, j_in)))
      ∙ (symbol-IsSector loaded i j formed (omega (arith, ap (λ x. x.r) loads.geometry))
      (omega (arith, ap (λ x. x.n) loads.geometry))).0 in
      let is_now : length (cell after i j) ≡ SECTOR = (cell-IsSector g after i j of after_formed i_in j_in).0 in
      ext_get_or 0 (cell before i j) (cell after i j) (was ∙ sym is_now)
      (λ q within.
      let q_in : q < SECTOR = omega (arith, was) in
      sym (target.cells q i j q_in i_in kind.in_chunk kind.test) ∙ byte_is q i j q_in i_in j_in);
}
  where
    g : Geometry
    g = old.geometry

    byte_is : (q i j : ℕ) → q < SECTOR → i < g.r → j < g.n → x q i j ≡ byte_of after q i j
    byte_is q i j q_in i_in j_in =
        elim (cases_Bool (is_parity (cell_at g i j))) [
          | inl parity ↦
              reached.rows q i j q_in (omega (arith, end)) (omega arith)
              ∙ sym (ap (λ bytes. slice_index bytes q) (stored i j i_in j_in ((are_parities.members i j i_in j_in).1 parity)))
          | inr no_parity ↦
              let kind = data_unless_parity g i j no_parity in
              target.cells q i j q_in i_in kind.0 kind.1
              ∙ sym (ap (λ bytes. slice_index bytes q)
              (others i j i_in j_in (λ has. false≢true (sym no_parity ∙ (are_parities.members i j i_in j_in).0 has))))
        ]
