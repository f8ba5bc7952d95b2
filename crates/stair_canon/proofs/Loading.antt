-- A canonical stripe of which one symbol is set, and of which so many are.
use Rattle.std.proofs.Common.{◌≡◌, ℕ, ◌+◌, ◌*◌, ◌<◌, ◌↔◌, List, [], Bool, true, false, length, set, replicate, inl, inr, refl, sym, subst, ap, ◌∙◌, arith}
use Rattle.std.proofs.lemmas.Bool.{cases_lt, false≢true}
use Rattle.std.proofs.lemmas.List.{get_or-set_same, get_or-set_other, length-set}
use Rattle.std.proofs.lemmas.List.Elements.{All-set}
use Rattle.stair_model.specs.Canonical.{canonical_chunks, canonical_rows}
use Rattle.stair_model.specs.Geometry.{Geometry}
use Rattle.stair_model.specs.Stripe.{Stripe, IsSector, SECTOR, cell}
use Rattle.stair_model.proofs.CellOrder.{IsBefore-apart, HoldsBefore, HoldsBefore-none, HoldsBefore-turn, HoldsBefore-more, HoldsBefore-all}
use Rattle.stair_canon.specs.Canonical.{CanonicalStripe, KnownSymbols, IsKnown, IsWellFormed, bytes_of, is_known, mark, number, symbol}
use Rattle.stair_canon.specs.Solving.{IsCell, Loads}
use Rattle.stair_canon.proofs.Grid.{symbol-in, symbol-out, mark-in, mark-out, number_in, number_once, bytes-known, bytes-unknown}

-- symbol k alone is set
pub record SetsAt (k : ℕ) (bytes : List ℕ) (known : Bool) (old new : KnownSymbols) : Type 0 where
  pub here : bytes_of new k ≡ bytes
  pub marked : is_known new k ≡ known
  pub others : (t : ℕ) → (t ≡ k → ⊥) → bytes_of new t ≡ bytes_of old t
  pub other_marks : (t : ℕ) → (t ≡ k → ⊥) → is_known new t ≡ is_known old t

-- what `put` and `forget` leave
abbrev pub after_put : KnownSymbols → ℕ → List ℕ → KnownSymbols
after_put s k bytes = record { memory = set s.memory k bytes; known = set s.known k true }

abbrev pub after_forget : KnownSymbols → ℕ → KnownSymbols
after_forget s k = record { memory = s.memory; known = set s.known k false }

module _ (s : KnownSymbols) (k : ℕ) where
  SetsAt-put : (bytes : List ℕ) → k < length s.memory → k < length s.known → SetsAt k bytes true s (after_put s k bytes)
  SetsAt-put bytes in_memory in_known = record {
    here =
        bytes-known (after_put s k bytes) k (get_or-set_same s.known k true false in_known)
        ∙ get_or-set_same s.memory k bytes [] in_memory;
    marked = get_or-set_same s.known k true false in_known;
    others = λ t apart.
        rw (get_or-set_other s.known k t true false apart, get_or-set_other s.memory k t bytes [] apart) refl;
    other_marks = λ t apart. get_or-set_other s.known k t true false apart;
  }

  SetsAt-forget : k < length s.known → SetsAt k (replicate SECTOR 0) false s (after_forget s k)
  SetsAt-forget in_known = record {
    here = bytes-unknown (after_forget s k) k (get_or-set_same s.known k false false in_known);
    marked = get_or-set_same s.known k false false in_known;
    others = λ t apart. rw (get_or-set_other s.known k t false false apart) refl;
    other_marks = λ t apart. get_or-set_other s.known k t false false apart;
  }

-- the symbol in row i of column j is set, and nothing else
pub record Sets (i j : ℕ) (bytes : List ℕ) (known : Bool) (old new : CanonicalStripe) : Type 0 where
  pub geometry : new.geometry ≡ old.geometry
  pub formed : IsWellFormed new
  pub here : symbol new i j ≡ bytes
  pub marked : mark new i j ≡ known
  pub others : (s t : ℕ) → ¬ ((s ≡ i) × (t ≡ j)) → symbol new s t ≡ symbol old s t
  pub other_marks : (s t : ℕ) → ¬ ((s ≡ i) × (t ≡ j)) → mark new s t ≡ mark old s t

-- the same canonical stripe with other symbols
abbrev pub with_symbols : CanonicalStripe → KnownSymbols → CanonicalStripe
with_symbols c symbols = record { geometry = c.geometry; symbols = symbols }

module _ (c : CanonicalStripe) (i j : ℕ) (bytes : List ℕ) (known : Bool) (new : KnownSymbols)
    (column_in : j < canonical_chunks c.geometry) (formed : IsWellFormed (with_symbols c new))
    (sets : SetsAt (number c.geometry i j) bytes known c.symbols new) where
  apart : (s t : ℕ) → t < canonical_chunks c.geometry → ¬ ((s ≡ i) × (t ≡ j)) → number c.geometry s t ≡ number c.geometry i j → ⊥
  apart s t t_in other same = other (number_once c.geometry s t i j t_in column_in same)

  Sets-at : Sets i j bytes known c (with_symbols c new)
  Sets-at = record {
    geometry = refl;
    formed = formed;
    here = symbol-in (with_symbols c new) i j column_in ∙ sets.here;
    marked = mark-in (with_symbols c new) i j column_in ∙ sets.marked;
    others = λ s t other.
        elim (cases_lt t (canonical_chunks c.geometry)) [
          | inl within ↦
              symbol-in (with_symbols c new) s t within
              ∙ sets.others (number c.geometry s t) (apart s t within other)
              ∙ sym (symbol-in c s t within)
          | inr past ↦ symbol-out (with_symbols c new) s t past ∙ sym (symbol-out c s t past)
        ];
    other_marks = λ s t other.
        elim (cases_lt t (canonical_chunks c.geometry)) [
          | inl within ↦
              mark-in (with_symbols c new) s t within
              ∙ sets.other_marks (number c.geometry s t) (apart s t within other)
              ∙ sym (mark-in c s t within)
          | inr past ↦ mark-out (with_symbols c new) s t past ∙ sym (mark-out c s t past)
        ];
  }

module _ (c : CanonicalStripe) (formed : IsWellFormed c) (k : ℕ) where
  pub IsWellFormed-put : (bytes : List ℕ) → IsSector bytes → IsWellFormed (with_symbols c (after_put c.symbols k bytes))
  IsWellFormed-put bytes sector = record {
    limits = formed.limits;
    count = length-set c.symbols.memory k bytes ∙ formed.count;
    marks = length-set c.symbols.known k true ∙ formed.marks;
    sectors = All-set IsSector c.symbols.memory k bytes sector formed.sectors;
  }

  pub IsWellFormed-forget : IsWellFormed (with_symbols c (after_forget c.symbols k))
  IsWellFormed-forget = record {
    limits = formed.limits;
    count = formed.count;
    marks = length-set c.symbols.known k false ∙ formed.marks;
    sectors = formed.sectors;
  }

-- ---- loading

-- the symbol is as `load` leaves it
pub record IsLoadedAt (g : Geometry) (stripe : Stripe) (c : CanonicalStripe) (i j : ℕ) : Type 0 where
  pub cells : IsCell g i j → symbol c i j ≡ cell stripe i j
  pub others : ¬ IsCell g i j → symbol c i j ≡ replicate SECTOR 0
  pub known : IsKnown c i j ↔ IsCell g i j

-- the symbols before place (row, column) are loaded
pub record HasLoaded (g : Geometry) (stripe : Stripe) (c : CanonicalStripe) (row column : ℕ) : Type 0 where
  pub geometry : c.geometry ≡ g
  pub formed : IsWellFormed c
  pub so_far : HoldsBefore (canonical_chunks g) (IsLoadedAt g stripe c) row column

pub HasLoaded-none : (stripe : Stripe) (c : CanonicalStripe) → IsWellFormed c → HasLoaded c.geometry stripe c 0 0
HasLoaded-none stripe c formed = record {
  geometry = refl;
  formed = formed;
  so_far = HoldsBefore-none (canonical_chunks c.geometry) (IsLoadedAt c.geometry stripe c);
}

-- a row more
pub HasLoaded-turn : (g : Geometry) (stripe : Stripe) (c : CanonicalStripe) (row column : ℕ) → canonical_chunks g ≡ column
    → HasLoaded g stripe c row column → HasLoaded g stripe c (row + 1) 0
HasLoaded-turn g stripe c row column all loaded = record {
  geometry = loaded.geometry;
  formed = loaded.formed;
  so_far = HoldsBefore-turn (canonical_chunks g) (IsLoadedAt g stripe c) row column all loaded.so_far;
}

-- a symbol more
module _ (g : Geometry) (stripe : Stripe) (old new : CanonicalStripe) (row column : ℕ) (bytes : List ℕ) (known : Bool)
    (loaded : HasLoaded g stripe old row column) (sets : Sets row column bytes known old new) where
  still : (i j : ℕ) → ¬ ((i ≡ row) × (j ≡ column)) → IsLoadedAt g stripe old i j → IsLoadedAt g stripe new i j
  still i j apart at = record {
    cells = λ is_cell. sets.others i j apart ∙ at.cells is_cell;
    others = λ no_cell. sets.others i j apart ∙ at.others no_cell;
    known = subst (λ (b : Bool). (b ≡ true) ↔ IsCell g i j) (sym (sets.other_marks i j apart)) at.known;
  }

  HasLoaded-more : IsLoadedAt g stripe new row column → HasLoaded g stripe new row (column + 1)
  HasLoaded-more now = record {
    geometry = sets.geometry ∙ loaded.geometry;
    formed = sets.formed;
    so_far =
        HoldsBefore-more (canonical_chunks g) (IsLoadedAt g stripe old) (IsLoadedAt g stripe new) row column loaded.so_far
        (λ i j column_in before. still i j (IsBefore-apart i j row column before)) now;
  }

-- a cell of the stripe
IsLoadedAt-cell : (g : Geometry) (stripe : Stripe) (old new : CanonicalStripe) (i j : ℕ) → IsCell g i j
    → Sets i j (cell stripe i j) true old new → IsLoadedAt g stripe new i j
IsLoadedAt-cell g stripe old new i j is_cell sets = record {
  cells = λ same. sets.here;
  others = λ no_cell. absurd (no_cell is_cell);
  known = (λ is_known. is_cell, λ same. sets.marked);
}

-- another symbol
IsLoadedAt-other : (g : Geometry) (stripe : Stripe) (old new : CanonicalStripe) (i j : ℕ) → ¬ IsCell g i j
    → Sets i j (replicate SECTOR 0) false old new → IsLoadedAt g stripe new i j
IsLoadedAt-other g stripe old new i j no_cell sets = record {
  cells = λ is_cell. absurd (no_cell is_cell);
  others = λ other. sets.here;
  known = (λ is_known. absurd (false≢true (sym sets.marked ∙ is_known)), λ is_cell. absurd (no_cell is_cell));
}

-- all symbols are loaded
pub Loads-all : (stripe : Stripe) (old new : CanonicalStripe) (row : ℕ) → canonical_rows old.geometry ≡ row
    → HasLoaded old.geometry stripe new row 0 → Loads stripe old new
Loads-all stripe old new row all loaded =
    let at : (i j : ℕ) → i < canonical_rows old.geometry → j < canonical_chunks old.geometry → IsLoadedAt old.geometry stripe new i j =
    HoldsBefore-all (canonical_chunks old.geometry) (IsLoadedAt old.geometry stripe new) (canonical_rows old.geometry) row all loaded.so_far
    in
    record {
      geometry = loaded.geometry;
      cells = λ i j is_cell. (at i j (omega (arith, is_cell.0)) (omega (arith, is_cell.1))).cells is_cell;
      others = λ i j row_in column_in no_cell. (at i j row_in column_in).others no_cell;
      known = λ i j row_in column_in. (at i j row_in column_in).known;
    }

-- a symbol that was put, or forgotten
module _ (g : Geometry) (stripe : Stripe) (c : CanonicalStripe) (i j k : ℕ) (loaded : HasLoaded g stripe c i j)
    (row_in : i < canonical_rows g) (column_in : j < canonical_chunks g) (is : k ≡ number g i j) where
  here : k ≡ number c.geometry i j
  here = is ∙ ap (λ (x : Geometry). number x i j) (sym loaded.geometry)

  column : j < canonical_chunks c.geometry
  column = omega (arith, column_in, ap canonical_chunks loaded.geometry)

  inside : number c.geometry i j < canonical_rows c.geometry * canonical_chunks c.geometry
  inside =
      subst (λ (x : Geometry). number x i j < canonical_rows x * canonical_chunks x) (sym loaded.geometry) (number_in g i j row_in column_in)

  pub in_memory : k < length c.symbols.memory
  in_memory = omega (arith, inside, here, loaded.formed.count)

  pub in_known : k < length c.symbols.known
  in_known = omega (arith, inside, here, loaded.formed.marks)

  pub HasLoaded-cell : (bytes : List ℕ) → IsCell g i j → bytes ≡ cell stripe i j → IsSector bytes
      → HasLoaded g stripe (with_symbols c (after_put c.symbols k bytes)) i (j + 1)
  HasLoaded-cell bytes is_cell same sector =
      let new = after_put c.symbols k bytes in
      let sets =
      Sets-at c i j bytes true new column (IsWellFormed-put c loaded.formed k bytes sector)
      (subst (λ (x : ℕ). SetsAt x bytes true c.symbols new) here (SetsAt-put c.symbols k bytes in_memory in_known)) in
      HasLoaded-more g stripe c (with_symbols c new) i j bytes true loaded sets
      (IsLoadedAt-cell g stripe c (with_symbols c new) i j is_cell
      (subst (λ (x : List ℕ). Sets i j x true c (with_symbols c new)) same sets))

  pub HasLoaded-other : ¬ IsCell g i j → HasLoaded g stripe (with_symbols c (after_forget c.symbols k)) i (j + 1)
  HasLoaded-other no_cell =
      let new = after_forget c.symbols k in
      let sets =
      Sets-at c i j (replicate SECTOR 0) false new column (IsWellFormed-forget c loaded.formed k)
      (subst (λ (x : ℕ). SetsAt x (replicate SECTOR 0) false c.symbols new) here (SetsAt-forget c.symbols k in_known)) in
      HasLoaded-more g stripe c (with_symbols c new) i j (replicate SECTOR 0) false loaded sets
      (IsLoadedAt-other g stripe c (with_symbols c new) i j no_cell sets)
