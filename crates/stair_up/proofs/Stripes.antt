-- From a stripe whose cells are loaded to one in which all cells are found.
use Rattle.std.proofs.Common.{◌≡◌, ℕ, ◌+◌, ◌<◌, ◌≤◌, List, slice_index, inl, inr, sym, subst, ap, ◌∙◌, arith}
use Rattle.std.proofs.lemmas.Bool.{cases_Bool, cases_eq, false≢true}
use Rattle.std.proofs.lemmas.List.{get_or-replicate}
use Rattle.stair_model.specs.Geometry.{Geometry, IsWithinLimits}
use Rattle.stair_model.specs.CellSet.{CellSet, HasCell, count_in_slot, has_cell}
use Rattle.stair_model.specs.Coverage.{rest}
use Rattle.stair_model.specs.Codeword.{Word}
use Rattle.stair_model.specs.Restoring.{SameHeld}
use Rattle.stair_model.specs.Stripe.{Stripe, SECTOR, byte_of, cell}
use Rattle.stair_model.proofs.CanonicalLaws.{coverage_le_greatest}
use Rattle.stair_canon.specs.Canonical.{CanonicalStripe, symbol}
use Rattle.stair_canon.specs.Solving.{Loads}
use Rattle.stair_canon.specs.Order.{AreInOrder}
use Rattle.stair_up.specs.SolveSteps.{AreCanonical, IsFound, HasGiven, StaysFound, FindsCells, FindsLastChunks, FindsLightRows, FindsRow, FindsStripe}
use Rattle.stair_canon.proofs.Columns.{place_of}
use Rattle.stair_up.proofs.Finds.{HasGiven-stays}

-- the first rows are found, where the cells of the chunks from place m on were
abbrev pub FindsRowsBefore : CellSet → List ℕ → ℕ → CanonicalStripe → CanonicalStripe → Type 0
FindsRowsBefore erased columns row old new =
    (x : ℕ → Word) → AreCanonical old.geometry x → HasGiven old.geometry erased x old →
    ((p i : ℕ) → old.geometry.m ≤ p → p < old.geometry.n → i < old.geometry.r → IsFound x old i (slice_index columns p)) →
    StaysFound x old new × ((p i : ℕ) → p < old.geometry.n → i < row → IsFound x new i (slice_index columns p))

pub FindsRowsBefore-none : (erased : CellSet) (columns : List ℕ) (c : CanonicalStripe) → FindsRowsBefore erased columns 0 c c
FindsRowsBefore-none erased columns c x canonical given last = (λ i j found. found, λ p i below none. absurd (omega arith))

pub FindsRowsBefore-more : (erased : CellSet) (columns : List ℕ) (row : ℕ) (old mid new : CanonicalStripe) → mid.geometry ≡ old.geometry
    → row < old.geometry.r → FindsRowsBefore erased columns row old mid → FindsRow erased columns row mid new
    → FindsRowsBefore erased columns (row + 1) old new
FindsRowsBefore-more erased columns row old mid new same row_in before finds x canonical given last = (
  λ i j found. here.0 i j (earlier.0 i j found),
  λ p i below row_before.
      elim (cases_eq i row) [
        | inl this ↦ subst (λ (s : ℕ). IsFound x new s (slice_index columns p)) (sym this) (row_found p below)
        | inr apart ↦ here.0 _ _ (earlier.1 p i below (omega arith))
      ],
)
  where
    earlier : StaysFound x old mid × ((p i : ℕ) → p < old.geometry.n → i < row → IsFound x mid i (slice_index columns p))
    earlier = before x canonical given last

    here : StaysFound x mid new × ((p : ℕ) → p < mid.geometry.n → IsFound x new row (slice_index columns p))
    here =
        finds x (subst (λ (g : Geometry). AreCanonical g x) (sym same) canonical)
        (subst (λ (g : Geometry). HasGiven g erased x mid) (sym same) (HasGiven-stays old.geometry erased x old mid earlier.0 given))
        (subst (λ (g : Geometry). (p : ℕ) → g.m ≤ p → p < g.n → IsFound x mid row (slice_index columns p)) (sym same)
        (λ p low high. earlier.0 _ _ (last p row low high row_in)))

    row_found : (p : ℕ) → p < old.geometry.n → IsFound x new row (slice_index columns p)
    row_found = subst (λ (g : Geometry). (p : ℕ) → p < g.n → IsFound x new row (slice_index columns p)) same here.1

-- what is loaded is given
pub HasGiven-loaded : (erased : CellSet) (stripe : Stripe) (old new : CanonicalStripe) (x : ℕ → Word) → IsWithinLimits old.geometry
    → Loads stripe old new → AreCanonical old.geometry x
    → ((q i j : ℕ) → q < SECTOR → i < old.geometry.r → j < old.geometry.n → ¬ HasCell erased i j → byte_of stripe q i j ≡ x q i j)
    → HasGiven old.geometry erased x new
HasGiven-loaded erased stripe old new x limits loads canonical held = record {
  held = λ i j i_in j_in not_erased q q_in.
      ap (λ (bytes : List ℕ). slice_index bytes q) (loads.cells i j (i_in, j_in)) ∙ held q i j q_in i_in j_in not_erased;
  zeros = λ l h l_in covers q q_in.
      let le = coverage_le_greatest old.geometry limits l l_in in
      ap (λ (bytes : List ℕ). slice_index bytes q)
      (loads.others (old.geometry.r + h) (old.geometry.n + l) (omega (arith, le)) (omega arith) (λ is_cell. omega (arith, is_cell.0)))
      ∙ get_or-replicate SECTOR q 0 0 q_in ∙ sym ((canonical q q_in).zeros l h l_in covers);
}

-- all cells are found
pub FindsCells-from : (erased : CellSet) (columns : List ℕ) (row : ℕ) (old mid new : CanonicalStripe) → IsWithinLimits old.geometry
    → AreInOrder old.geometry (count_in_slot erased) columns → FindsLastChunks erased columns old mid → mid.geometry ≡ old.geometry
    → FindsRowsBefore erased columns row mid new → old.geometry.r ≤ row → FindsCells erased old new
FindsCells-from erased columns row old mid new limits order last same_mid rows all x canonical given i j i_in j_in =
    let one = place_of old.geometry (count_in_slot erased) columns limits order j j_in in
    subst (λ (t : ℕ). IsFound x new i t) one.2 (rows_found.1 one.0 i one.1 (omega arith))
  where
    last_found : StaysFound x old mid × ((p s : ℕ) → old.geometry.m ≤ p → p < old.geometry.n → s < old.geometry.r → IsFound x mid s (slice_index columns p))
    last_found = last x canonical given

    rows_found : StaysFound x mid new × ((p s : ℕ) → p < old.geometry.n → s < row → IsFound x new s (slice_index columns p))
    rows_found =
        subst (λ (g : Geometry). AreCanonical g x → HasGiven g erased x mid
        → ((p s : ℕ) → g.m ≤ p → p < g.n → s < g.r → IsFound x mid s (slice_index columns p))
        → StaysFound x mid new × ((p s : ℕ) → p < g.n → s < row → IsFound x new s (slice_index columns p))) same_mid (rows x)
        canonical (HasGiven-stays old.geometry erased x old mid last_found.0 given) last_found.1

-- of a canonical stripe of the same geometry
pub FindsCells-same : (erased : CellSet) (old loaded new : CanonicalStripe) → loaded.geometry ≡ old.geometry → FindsCells erased loaded new
    → (x : ℕ → Word) → AreCanonical old.geometry x → HasGiven old.geometry erased x loaded
    → (i j : ℕ) → i < old.geometry.r → j < old.geometry.n → IsFound x new i j
FindsCells-same erased old loaded new same finds x =
    subst (λ (g : Geometry). AreCanonical g x → HasGiven g erased x loaded → (i j : ℕ) → i < g.r → j < g.n → IsFound x new i j) same (finds x)

-- after rows with at most m erased cells, those of the rest
pub FindsCells-rest : (erased left : CellSet) (old loaded mid new : CanonicalStripe) → loaded.geometry ≡ old.geometry
    → mid.geometry ≡ old.geometry → left ≡ rest old.geometry erased → FindsLightRows erased loaded mid → FindsCells left mid new
    → (x : ℕ → Word) → AreCanonical old.geometry x → HasGiven old.geometry erased x loaded
    → (i j : ℕ) → i < old.geometry.r → j < old.geometry.n → IsFound x new i j
FindsCells-rest erased left old loaded mid new same same_mid is_rest rows finds x canonical given =
    FindsCells-same left old mid new same_mid finds x canonical
    (subst (λ (cells : CellSet). HasGiven old.geometry cells x mid) (sym is_rest)
    (subst (λ (g : Geometry). AreCanonical g x → HasGiven g erased x loaded → HasGiven g (rest g erased) x mid) same (rows x) canonical given))

-- and so are those of the stripe in which they are stored
pub FindsStripe-stored : (erased : CellSet) (before after : Stripe) (old loaded new : CanonicalStripe) → IsWithinLimits old.geometry
    → Loads before old loaded
    → ((x : ℕ → Word) → AreCanonical old.geometry x → HasGiven old.geometry erased x loaded
    → (i j : ℕ) → i < old.geometry.r → j < old.geometry.n → IsFound x new i j)
    → ((i j : ℕ) → i < old.geometry.r → j < old.geometry.n → cell after i j ≡ symbol new i j)
    → FindsStripe old.geometry erased before after
FindsStripe-stored erased before after old loaded new limits loads found stored x canonical held q i j q_in i_in j_in =
    ap (λ (bytes : List ℕ). slice_index bytes q) (stored i j i_in j_in)
    ∙ found x canonical (HasGiven-loaded erased before old loaded x limits loads canonical held) i j i_in j_in q q_in

-- where the cells that were erased are stored, all are stored: the others are those that were loaded, and have stayed
pub stored_all : (g : Geometry) (erased : CellSet) (before after : Stripe) (new : CanonicalStripe)
    → ((i j : ℕ) → i < g.r → j < g.n → ¬ HasCell erased i j → symbol new i j ≡ cell before i j)
    → ((i j : ℕ) → i < g.r → j < g.n → HasCell erased i j → cell after i j ≡ symbol new i j)
    → SameHeld g erased after before
    → (i j : ℕ) → i < g.r → j < g.n → cell after i j ≡ symbol new i j
stored_all g erased before after new stayed stored held i j i_in j_in =
    elim (cases_Bool (has_cell erased i j)) [
      | inl has ↦ stored i j i_in j_in has
      | inr has_not ↦
          let not_erased : ¬ HasCell erased i j = λ has. false≢true (sym has_not ∙ has) in
          held i j i_in j_in not_erased ∙ sym (stayed i j i_in j_in not_erased)
    ]
