-- The data cells of a stripe determine its parities, and may hold any blocks.
use Rattle.std.proofs.Common.{◌≡◌, ℕ, ◌+◌, ◌-◌, ◌*◌, ◌/◌, ◌%◌, ◌<◌, List, [], length, slice_index, slice_index_or, inl, inr, refl, sym, ◌∙◌, ap, ap₂, subst, arith, false}
use Rattle.std.specs.Prelude.{All}
use Rattle.std.proofs.lemmas.Bool.{cases_lt}
use Rattle.std.proofs.lemmas.List.{ext_get_or}
use Rattle.std.proofs.lemmas.List.Elements.{All-get_or, All-from_get_or}
use Rattle.std.proofs.lemmas.Nat.{mul-add-lt, div-mul-add, mod-mul-add, div_below, mod_below, div-add-mod'}
use Rattle.stair_model.specs.Geometry.{Geometry, IsWithinLimits, classes, coverage, data_chunks, data_cells}
use Rattle.stair_model.specs.Cell.{Data, is_global, class_of, data_before, cell_at}
use Rattle.stair_model.specs.Stripe.{Stripe, SECTOR, IsSector, IsStripeOf, IsWellFormed, cell, byte_of}
use Rattle.stair_model.specs.Codeword.{Word, IsCodeword}
use Rattle.stair_model.specs.Canonical.{IsCanonicalCodeword}
use Rattle.stair_model.specs.Encoding.{IsEncodedFrom, IsEncodingOf, SameData}
use Rattle.stair_model.proofs.CellLaws.{is_global_tells, cell_at_data}
use Rattle.stair_model.proofs.DataLaws.{data_cell_tells, data_in_range}
use Rattle.stair_model.proofs.StripeLaws.{byte_at-lt, sector_bytes, same_sector, same_cell}
use Rattle.stair_model.proofs.CanonicalLaws.{extension_exists, codeword_is_canonical, canonical_is_codeword}
use Rattle.stair_model.proofs.PlaceLaws.{list_of, length-list_of, list_of_at}
use Rattle.stair_model.proofs.KnownSymbolLaws.{globals_of, globals_of_first, globals_of_last}
use Rattle.stair_model.proofs.VirtualRowLaws.{SameDataCells, canonical_determined, canonical_exists}

-- ---- which cells are data

-- a cell above the global parities of its chunk is a data cell
pub above_is_data : (g : Geometry) (i j : ℕ) → j < data_chunks g → i < g.r - globals_of g j → cell_at g i j ≡ Data (data_before g i j)
above_is_data g i j chunk above =
    elim (is_global_tells g i j) [
      | inl among ↦
          let count : globals_of g j ≡ coverage g (class_of g j) = globals_of_last g j (omega arith) in
          absurd (omega arith)
      | inr apart ↦ cell_at_data g i j chunk apart.test
    ]

-- a cell that isn't global is above the global parities of its chunk
pub not_global-above : (g : Geometry) (i j : ℕ) → i < g.r → is_global g i j ≡ false → i < g.r - globals_of g j
not_global-above g i j row test =
    elim (is_global_tells g i j) [
      | inl among ↦ let other = among.test in absurd (cc)
      | inr apart ↦
          elim (cases_lt j (data_chunks g - classes g)) [
            | inl before ↦ let none : globals_of g j ≡ 0 = globals_of_first g j before in omega arith
            | inr from ↦
                let count : globals_of g j ≡ coverage g (class_of g j) = globals_of_last g j from in
                elim apart.why [
                  | inl before ↦ absurd (omega arith)
                  | inr above ↦ omega arith
                ]
          ]
    ]

-- and so is each data cell
pub data_is_above : (g : Geometry) (i j d : ℕ) → i < g.r → cell_at g i j ≡ Data d → i < g.r - globals_of g j
data_is_above g i j d row is = not_global-above g i j row (data_cell_tells g i j d is).test

-- a stripe by its three fields
abbrev stripe_from : ℕ → ℕ → List (List ℕ) → Stripe
stripe_from rows chunks cells = record { rows = rows; chunks = chunks; cells = cells }

-- stripes with the same bytes are the same
same_stripe : (g : Geometry) (a b : Stripe) → IsWithinLimits g → IsStripeOf g a → IsWellFormed a → IsStripeOf g b → IsWellFormed b
    → ((p i j : ℕ) → p < SECTOR → i < g.r → j < g.n → byte_of a p i j ≡ byte_of b p i j) → a ≡ b
same_stripe g a b limits a_of a_formed b_of b_formed same =
    ap₂ (λ rows chunks. stripe_from rows chunks a.cells) rows chunks
    ∙ ap (λ cells. stripe_from b.rows b.chunks cells)
    (ext_get_or [] a.cells b.cells (a_formed.count ∙ ap₂ (λ (x y : ℕ). x * y) rows chunks ∙ sym b_formed.count)
    (λ k k_in.
    let within : k < g.r * g.n = subst (λ (n : ℕ). k < n) (a_formed.count ∙ ap₂ (λ (x y : ℕ). x * y) a_of.rows a_of.chunks) k_in in
    let row : k / g.n < g.r = div_below k g.n g.r (omega (arith, limits.devices.0)) within in
    let chunk : k % g.n < g.n = mod_below k g.n (omega (arith, limits.devices.0)) in
    ap (λ n. slice_index_or a.cells n []) (sym (place a a_of k))
    ∙ same_cell g a b (k / g.n) (k % g.n) a_of a_formed b_of b_formed row chunk
    (λ p p_in. same p (k / g.n) (k % g.n) p_in row chunk)
    ∙ ap (λ n. slice_index_or b.cells n []) (place b b_of k)))
  where
    rows : a.rows ≡ b.rows
    rows = a_of.rows ∙ sym b_of.rows

    chunks : a.chunks ≡ b.chunks
    chunks = a_of.chunks ∙ sym b_of.chunks

    place : (s : Stripe) → IsStripeOf g s → (k : ℕ) → k / g.n * s.chunks + k % g.n ≡ k
    place s of k = ap (λ (n : ℕ). k / g.n * n + k % g.n) of.chunks ∙ div-add-mod' k g.n

-- codewords are the same where at each byte their canonical codewords have the same cells
pub codewords_from_canonical : (g : Geometry) (a b : Stripe) → IsWithinLimits g → IsStripeOf g a → IsWellFormed a → IsCodeword g a
    → IsStripeOf g b → IsWellFormed b → IsCodeword g b
    → ((p : ℕ) (x y : Word) → p < SECTOR → IsCanonicalCodeword g x → IsCanonicalCodeword g y
    → ((i j : ℕ) → i < g.r → j < g.n → x i j ≡ byte_of a p i j) → ((i j : ℕ) → i < g.r → j < g.n → y i j ≡ byte_of b p i j)
    → (i j : ℕ) → i < g.r → j < g.n → x i j ≡ y i j)
    → a ≡ b
codewords_from_canonical g a b limits a_of a_formed a_codeword b_of b_formed b_codeword same =
    same_stripe g a b limits a_of a_formed b_of b_formed
    (λ p i j p_in row chunk.
    let x = extension_exists g (byte_of a p) in
    let y = extension_exists g (byte_of b p) in
    sym (x.1.cells i j row chunk)
    ∙ same p x.0 y.0 p_in (codeword_is_canonical g a p x.0 limits a_of a_formed a_codeword p_in x.1)
    (codeword_is_canonical g b p y.0 limits b_of b_formed b_codeword p_in y.1) x.1.cells y.1.cells i j row chunk
    ∙ y.1.cells i j row chunk)

-- ---- one encoding

-- codewords with the same data cells have the same bytes
same_bytes : (g : Geometry) (a b : Stripe) → IsWithinLimits g → IsStripeOf g a → IsWellFormed a → IsCodeword g a
    → IsStripeOf g b → IsWellFormed b → IsCodeword g b → SameData g a b
    → (p i j : ℕ) → p < SECTOR → i < g.r → j < g.n → byte_of a p i j ≡ byte_of b p i j
same_bytes g a b limits a_of a_formed a_codeword b_of b_formed b_codeword same p i j p_in row chunk =
    let x = extension_exists g (byte_of a p) in
    let y = extension_exists g (byte_of b p) in
    let cells : SameDataCells g x.0 y.0 =
    λ s c c_in above.
    x.1.cells s c (omega arith) (omega arith)
    ∙ ap (λ (bytes : List ℕ). slice_index bytes p)
    (same s c (data_before g s c) (omega arith) (omega arith) (above_is_data g s c c_in above))
    ∙ sym (y.1.cells s c (omega arith) (omega arith))
    in
    sym (x.1.cells i j row chunk)
    ∙ canonical_determined g x.0 y.0 limits
    (codeword_is_canonical g a p x.0 limits a_of a_formed a_codeword p_in x.1)
    (codeword_is_canonical g b p y.0 limits b_of b_formed b_codeword p_in y.1)
    cells i j (omega arith) (omega arith)
    ∙ y.1.cells i j row chunk

-- codewords with the same data cells are the same
pub codewords_agree : (g : Geometry) (a b : Stripe) → IsWithinLimits g → IsStripeOf g a → IsWellFormed a → IsCodeword g a
    → IsStripeOf g b → IsWellFormed b → IsCodeword g b → SameData g a b → a ≡ b
codewords_agree g a b limits a_of a_formed a_codeword b_of b_formed b_codeword same =
    same_stripe g a b limits a_of a_formed b_of b_formed
    (same_bytes g a b limits a_of a_formed a_codeword b_of b_formed b_codeword same)

-- blocks have at most one encoding
pub encoding_unique : (g : Geometry) (blocks : List (List ℕ)) (a b : Stripe) → IsWithinLimits g → IsEncodingOf g blocks a
    → IsEncodingOf g blocks b → a ≡ b
encoding_unique g blocks a b limits first second =
    codewords_agree g a b limits first.of first.formed first.codeword second.of second.formed second.codeword
    (λ i j d row chunk is. first.holds i j d row chunk is ∙ sym (second.holds i j d row chunk is))

-- ---- and some encoding

-- the stripe that has at each byte position the word of that number
abbrev stripe_of : Geometry → (ℕ → Word) → Stripe
stripe_of g x = stripe_from g.r g.n (list_of (g.r * g.n) (λ k. list_of SECTOR (λ p. x p (k / g.n) (k % g.n))))

cell-stripe_of : (g : Geometry) (x : ℕ → Word) (i j : ℕ) → i < g.r → j < g.n
    → cell (stripe_of g x) i j ≡ list_of SECTOR (λ p. x p i j)
cell-stripe_of g x i j row chunk =
    list_of_at (g.r * g.n) (λ k. list_of SECTOR (λ p. x p (k / g.n) (k % g.n))) (i * g.n + j) []
    (omega (arith, mul-add-lt i g.n j g.r row chunk))
    ∙ ap₂ (λ s c. list_of SECTOR (λ p. x p s c)) (div-mul-add i g.n j chunk) (mod-mul-add i g.n j chunk)

byte-stripe_of : (g : Geometry) (x : ℕ → Word) (p i j : ℕ) → p < SECTOR → i < g.r → j < g.n
    → byte_of (stripe_of g x) p i j ≡ x p i j
byte-stripe_of g x p i j p_in row chunk =
    ap (λ (bytes : List ℕ). slice_index bytes p) (cell-stripe_of g x i j row chunk)
    ∙ list_of_at SECTOR (λ q. x q i j) p 0 p_in

-- a list of bytes is a sector
list_of-IsSector : (f : ℕ → ℕ) → ((p : ℕ) → p < SECTOR → f p < 256) → IsSector (list_of SECTOR f)
list_of-IsSector f bytes = (
  length-list_of SECTOR f,
  All-from_get_or (λ b. b < 256) (list_of SECTOR f) 0
      (λ p p_in.
      let within : p < SECTOR = omega (arith, length-list_of SECTOR f) in
      subst (λ (b : ℕ). b < 256) (sym (list_of_at SECTOR f p 0 within)) (bytes p within)),
)

stripe_of-IsWellFormed : (g : Geometry) (x : ℕ → Word) → IsWithinLimits g
    → ((p i j : ℕ) → p < SECTOR → i < g.r → j < g.n → x p i j < 256) → IsWellFormed (stripe_of g x)
stripe_of-IsWellFormed g x limits bytes = record {
  count = length-list_of (g.r * g.n) sectors;
  sectors = All-from_get_or IsSector (list_of (g.r * g.n) sectors) []
      (λ k k_in.
      let within : k < g.r * g.n = omega (arith, length-list_of (g.r * g.n) sectors) in
      subst IsSector (sym (list_of_at (g.r * g.n) sectors k [] within))
      (list_of-IsSector (λ p. x p (k / g.n) (k % g.n))
      (λ p p_in. bytes p (k / g.n) (k % g.n) p_in
      (div_below k g.n g.r (omega (arith, limits.devices.0)) within) (mod_below k g.n (omega (arith, limits.devices.0))))));
}
  where
    sectors : ℕ → List ℕ
    sectors k = list_of SECTOR (λ p. x p (k / g.n) (k % g.n))

-- blocks of sectors, one for each data cell, have an encoding
pub encoding_exists : (g : Geometry) (blocks : List (List ℕ)) → IsWithinLimits g → length blocks ≡ data_cells g
    → All IsSector blocks → (stripe : Stripe) × IsEncodingOf g blocks stripe
encoding_exists g blocks limits count sectors = (
  stripe_of g x,
  record {
    of = record { rows = refl; chunks = refl };
    formed = stripe_of-IsWellFormed g x limits (λ p i j p_in row chunk. ((made p).1.chunks j (omega arith)).bytes i (omega arith));
    codeword = canonical_is_codeword g (stripe_of g x) x limits
        (λ p p_in. ((λ i j row chunk. sym (byte-stripe_of g x p i j p_in row chunk)), (made p).1));
    holds = holds;
  },
)
  where
    -- at byte position p, each data cell's byte of its block
    wanted : ℕ → Word
    wanted p i j = slice_index (slice_index_or blocks (data_before g i j) []) p

    made : (p : ℕ) → (x : Word) × IsCanonicalCodeword g x × SameDataCells g x (wanted p)
    made p =
        canonical_exists g (wanted p) limits
        (λ i j. byte_at-lt (slice_index_or blocks (data_before g i j) []) p (sector_bytes blocks (data_before g i j) sectors))

    x : ℕ → Word
    x p = (made p).0

    holds : (i j d : ℕ) → i < g.r → j < g.n → cell_at g i j ≡ Data d → cell (stripe_of g x) i j ≡ slice_index_or blocks d []
    holds i j d row chunk is =
        let range = data_in_range g i j d limits row is in
        let sector : IsSector (slice_index_or blocks d []) = All-get_or IsSector blocks d [] (omega (arith, range.0, count)) sectors in
        same_sector (cell (stripe_of g x) i j) (slice_index_or blocks d [])
        (ap length (cell-stripe_of g x i j row chunk) ∙ length-list_of SECTOR (λ p. x p i j))
        sector.0
        (λ p p_in. byte-stripe_of g x p i j p_in row chunk
        ∙ (made p).2 i j range.1 (data_is_above g i j d row is)
        ∙ ap (λ n. slice_index (slice_index_or blocks n []) p) (data_cell_tells g i j d is).number)

-- two ways to encode one stripe end in one stripe
pub encoded_same : (g : Geometry) (before a b : Stripe) → IsWithinLimits g → IsEncodedFrom g before a → IsEncodedFrom g before b → a ≡ b
encoded_same g before a b limits first second =
    codewords_agree g a b limits first.of first.formed first.codeword second.of second.formed second.codeword
    (λ i j d row chunk is. sym (first.same_data i j d row chunk is) ∙ second.same_data i j d row chunk is)
