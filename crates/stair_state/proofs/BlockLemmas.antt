-- The stripes that encode blocks.
use Rattle.std.proofs.Common.{◌≡◌, ℕ, ◌+◌, ◌*◌, ◌/◌, ◌%◌, ◌<◌, ◌≤◌, List, [], ◌∷◌, length, slice_index_or, inl, inr, refl, sym, ◌∙◌, ap, ap₂, subst, arith, div-add-mod'}
use Rattle.std.proofs.lemmas.Bool.{cases_lt, cases_eq, cond-true, cond-false, eq-eqb, ne_eqb}
use Rattle.std.proofs.lemmas.List.Elements.{All-from_get_or}
use Rattle.std.proofs.lemmas.List.FromFn.{length-map-range_with_len, get_or-map-range_with_len}
use Rattle.std.proofs.lemmas.Nat.{div_below, mul-add-lt, div-mul-add, mod-mul-add}
use Rattle.stair_model.specs.Cell.{Data, IsPlaceOf, cell_at}
use Rattle.stair_model.specs.Codeword.{IsCodeword}
use Rattle.stair_model.specs.Encoding.{IsEncodedFrom, IsEncodingOf}
use Rattle.stair_model.specs.Geometry.{Geometry, IsWithinLimits, block_count, data_cells}
use Rattle.stair_model.specs.Stripe.{Stripe, IsSector, IsStripeOf, IsWellFormed, cell, with_cell}
use Rattle.stair_model.proofs.DataLaws.{data_in_range, data_once}
use Rattle.stair_model.proofs.EncodingLaws.{encoding_exists, encoding_unique}
use Rattle.stair_model.proofs.StripeLaws.{cell-with_cell_same, cell-with_cell_other}
use Rattle.stair_state.specs.Blocks.{AreEncodingsOf, Blocks, Codewords, IsSetFrom, stripe_blocks, with_block, with_blocks, with_word}

-- THE BLOCKS OF ONE STRIPE

length-stripe_blocks : (g : Geometry) (blocks : Blocks) (t : ℕ) → length (stripe_blocks g blocks t) ≡ data_cells g
unfolding stripe_blocks
length-stripe_blocks g blocks t = length-map-range_with_len (λ d. blocks (t * data_cells g + d)) 0 (data_cells g)

stripe_block : (g : Geometry) (blocks : Blocks) (t d : ℕ) → d < data_cells g
    → slice_index_or (stripe_blocks g blocks t) d [] ≡ blocks (t * data_cells g + d)
unfolding stripe_blocks
stripe_block g blocks t d below =
    get_or-map-range_with_len (λ k. blocks (t * data_cells g + k)) 0 (data_cells g) d d [] below (omega arith)

-- each data cell of the stripe holds its block of stripe t
abbrev pub HoldsBlocks : Geometry → Blocks → ℕ → Stripe → Type 0
HoldsBlocks g blocks t word = (i j d : ℕ) → i < g.r → j < g.n → cell_at g i j ≡ Data d
    → cell word i j ≡ blocks (t * data_cells g + d)

pub holds_blocks : (g : Geometry) (blocks : Blocks) (t : ℕ) (word : Stripe) → IsWithinLimits g
    → IsEncodingOf g (stripe_blocks g blocks t) word → HoldsBlocks g blocks t word
holds_blocks g blocks t word limits is i j d row chunk at =
    is.holds i j d row chunk at ∙ stripe_block g blocks t d (data_in_range g i j d limits row at).0

pub encodes_blocks : (g : Geometry) (blocks : Blocks) (t : ℕ) (word : Stripe) → IsWithinLimits g → IsStripeOf g word
    → IsWellFormed word → IsCodeword g word → HoldsBlocks g blocks t word → IsEncodingOf g (stripe_blocks g blocks t) word
encodes_blocks g blocks t word limits of formed codeword holds = record {
  of = of;
  formed = formed;
  codeword = codeword;
  holds = λ i j d row chunk at.
      holds i j d row chunk at ∙ sym (stripe_block g blocks t d (data_in_range g i j d limits row at).0);
}

-- ALL STRIPES

word_exists : (g : Geometry) (blocks : Blocks) (t : ℕ) → IsWithinLimits g → ((b : ℕ) → b < block_count g → IsSector (blocks b))
    → t < g.stripes → (word : Stripe) × IsEncodingOf g (stripe_blocks g blocks t) word
word_exists g blocks t limits sectors t_in =
    encoding_exists g (stripe_blocks g blocks t) limits (length-stripe_blocks g blocks t)
    (All-from_get_or IsSector (stripe_blocks g blocks t) []
    (λ d d_in.
    let below : d < data_cells g = omega (arith, length-stripe_blocks g blocks t) in
    subst IsSector (sym (stripe_block g blocks t d below))
    (sectors (t * data_cells g + d) (mul-add-lt t (data_cells g) d g.stripes t_in below))))

word_or_any : (g : Geometry) (blocks : Blocks) (t : ℕ) → IsWithinLimits g → ((b : ℕ) → b < block_count g → IsSector (blocks b))
    → (word : Stripe) × (t < g.stripes → IsEncodingOf g (stripe_blocks g blocks t) word)
word_or_any g blocks t limits sectors =
    elim (cases_lt t g.stripes) [
      | inl below ↦ let made = word_exists g blocks t limits sectors below in (made.0, λ t_in. made.1)
      | inr past ↦ (record { rows = 0; chunks = 0; cells = [] }, λ t_in. absurd (omega arith))
    ]

pub exist : (g : Geometry) (blocks : Blocks) → IsWithinLimits g → ((b : ℕ) → b < block_count g → IsSector (blocks b))
    → (words : Codewords) × AreEncodingsOf g blocks words
exist g blocks limits sectors = (
  λ t. (word_or_any g blocks t limits sectors).0,
  record { each = λ t. (word_or_any g blocks t limits sectors).1 },
)

pub unique : (g : Geometry) (blocks : Blocks) (a b : Codewords) (t : ℕ) → IsWithinLimits g → AreEncodingsOf g blocks a
    → AreEncodingsOf g blocks b → t < g.stripes → a t ≡ b t
unique g blocks a b t limits first second t_in =
    encoding_unique g (stripe_blocks g blocks t) (a t) (b t) limits (first.each t t_in) (second.each t t_in)

-- the stripe of a block's place is one of the array's, and the block is that data cell's
placed_in : (g : Geometry) (b t i j : ℕ) → IsWithinLimits g → b < block_count g → IsPlaceOf g b t i j → t < g.stripes
placed_in g b t i j limits b_in place =
    subst (λ (s : ℕ). s < g.stripes) (sym place.in_stripe) (div_below b (data_cells g) g.stripes limits.blocks (omega arith))

placed_number : (g : Geometry) (b t i j : ℕ) → IsPlaceOf g b t i j → t * data_cells g + b % data_cells g ≡ b
placed_number g b t i j place =
    ap (λ (s : ℕ). s * data_cells g + b % data_cells g) place.in_stripe ∙ div-add-mod' b (data_cells g)

pub at : (g : Geometry) (blocks : Blocks) (words : Codewords) (b t i j : ℕ) → IsWithinLimits g → AreEncodingsOf g blocks words
    → b < block_count g → IsPlaceOf g b t i j → cell (words t) i j ≡ blocks b
at g blocks words b t i j limits are b_in place =
    holds_blocks g blocks t (words t) limits (are.each t (placed_in g b t i j limits b_in place)) i j (b % data_cells g)
    place.row_in place.chunk_in place.at
    ∙ ap blocks (placed_number g b t i j place)

-- ONE BLOCK CHANGED

with_block_same : (blocks : Blocks) (b k : ℕ) (bytes : List ℕ) → k ≡ b → with_block blocks b bytes k ≡ bytes
with_block_same blocks b k bytes same = cond-true _ _ _ (eq-eqb k b same)

with_block_other : (blocks : Blocks) (b k : ℕ) (bytes : List ℕ) → ¬ (k ≡ b) → with_block blocks b bytes k ≡ blocks k
with_block_other blocks b k bytes other = cond-false _ _ _ (ne_eqb k b other)

module _ (g : Geometry) (blocks : Blocks) (words : Codewords) (b t i j : ℕ) (bytes : List ℕ) (after : Stripe)
    (limits : IsWithinLimits g) (are : AreEncodingsOf g blocks words) (b_in : b < block_count g)
    (place : IsPlaceOf g b t i j) (sector : IsSector bytes) (encoded : IsEncodedFrom g (with_cell (words t) i j bytes) after) where
  t_in : t < g.stripes
  t_in = placed_in g b t i j limits b_in place

  before : IsEncodingOf g (stripe_blocks g blocks t) (words t)
  before = are.each t t_in

  -- another data cell of the stripe is another block
  other_number : (k l d : ℕ) → cell_at g k l ≡ Data d → ¬ ((k ≡ i) × (l ≡ j)) → k < g.r → ¬ (t * data_cells g + d ≡ b)
  other_number k l d is other row same =
      let below : d < data_cells g = (data_in_range g k l d limits row is).0 in
      let number : d ≡ b % data_cells g = sym (mod-mul-add t (data_cells g) d below) ∙ ap (λ (x : ℕ). x % data_cells g) same in
      other (data_once g k l i j d is (place.at ∙ ap Data (sym number)))

  after_holds : HoldsBlocks g (with_block blocks b bytes) t after
  after_holds k l d row chunk is =
      sym (encoded.same_data k l d row chunk is) ∙ elim (cases_eq k i) [
        | inl same_row ↦
            elim (cases_eq l j) [
              | inl same_chunk ↦ here same_row same_chunk
              | inr other ↦ elsewhere (λ both. other both.1)
            ]
        | inr other ↦ elsewhere (λ both. other both.0)
      ]
    where
      here : k ≡ i → l ≡ j → cell (with_cell (words t) i j bytes) k l ≡ with_block blocks b bytes (t * data_cells g + d)
      here same_row same_chunk =
          let cells : Data d ≡ Data (b % data_cells g) = sym is ∙ ap₂ (cell_at g) same_row same_chunk ∙ place.at in
          let number : d ≡ b % data_cells g = cc in
          ap₂ (cell (with_cell (words t) i j bytes)) same_row same_chunk
          ∙ cell-with_cell_same (words t) i j bytes before.formed (omega (arith, before.of.rows, place.row_in)) (omega (arith, before.of.chunks, place.chunk_in))
          ∙ sym (with_block_same blocks b (t * data_cells g + d) bytes (ap (λ (x : ℕ). t * data_cells g + x) number ∙ placed_number g b t i j place))

      elsewhere : ¬ ((k ≡ i) × (l ≡ j)) → cell (with_cell (words t) i j bytes) k l ≡ with_block blocks b bytes (t * data_cells g + d)
      elsewhere other =
          cell-with_cell_other (words t) k l i j bytes (omega (arith, before.of.chunks, chunk)) (omega (arith, before.of.chunks, place.chunk_in)) other
          ∙ holds_blocks g blocks t (words t) limits before k l d row chunk is
          ∙ sym (with_block_other blocks b (t * data_cells g + d) bytes (other_number k l d is other row))

  -- the block is none of another stripe's
  rest_holds : (k : ℕ) → k < g.stripes → ¬ (k ≡ t) → HoldsBlocks g (with_block blocks b bytes) k (words k)
  rest_holds k k_in other p q d row chunk is =
      let below : d < data_cells g = (data_in_range g p q d limits row is).0 in
      holds_blocks g blocks k (words k) limits (are.each k k_in) p q d row chunk is
      ∙ sym (with_block_other blocks b (k * data_cells g + d) bytes
      (λ same. other (sym (div-mul-add k (data_cells g) d below) ∙ ap (λ (x : ℕ). x / data_cells g) same ∙ sym place.in_stripe)))

  pub set : AreEncodingsOf g (with_block blocks b bytes) (with_word words t after)
  set = record {
    each = λ k k_in.
        elim (cases_eq k t) [
          | inl same ↦
              subst (IsEncodingOf g (stripe_blocks g (with_block blocks b bytes) k)) (sym (cond-true _ _ _ (eq-eqb k t same)))
              (encodes_blocks g (with_block blocks b bytes) k after limits encoded.of encoded.formed encoded.codeword
              (subst (λ (s : ℕ). HoldsBlocks g (with_block blocks b bytes) s after) (sym same) after_holds))
          | inr other ↦
              subst (IsEncodingOf g (stripe_blocks g (with_block blocks b bytes) k)) (sym (cond-false _ _ _ (ne_eqb k t other)))
              (let word = are.each k k_in in
              encodes_blocks g (with_block blocks b bytes) k (words k) limits word.of word.formed word.codeword (rest_holds k k_in other))
        ];
  }

-- SEVERAL BLOCKS OF A STRIPE CHANGED

word_same : (words : Codewords) (t k : ℕ) (word : Stripe) → k ≡ t → with_word words t word k ≡ word
word_same words t k word same = cond-true _ _ _ (eq-eqb k t same)

word_other : (words : Codewords) (t k : ℕ) (word : Stripe) → ¬ (k ≡ t) → with_word words t word k ≡ words k
word_other words t k word other = cond-false _ _ _ (ne_eqb k t other)

-- what one list of stripes encodes another one does that has the same stripes
same_words : (g : Geometry) (blocks : Blocks) (a b : Codewords) → ((k : ℕ) → b k ≡ a k) → AreEncodingsOf g blocks a
    → AreEncodingsOf g blocks b
same_words g blocks a b same are = record {
  each = λ k k_in. subst (IsEncodingOf g (stripe_blocks g blocks k)) (sym (same k)) (are.each k k_in);
}

pub set_all : (g : Geometry) (blocks : Blocks) (words : Codewords) (first t : ℕ) (contents : List (List ℕ)) (after : Stripe)
    → IsWithinLimits g → AreEncodingsOf g blocks words → first + length contents ≤ block_count g
    → IsSetFrom g t first contents (words t) after
    → AreEncodingsOf g (with_blocks blocks first contents) (with_word words t after)
set_all g blocks words first t [] after limits are within is_set =
    same_words g blocks words (with_word words t after) (λ k. elim (cases_eq k t) [
      | inl same ↦ word_same words t k after same ∙ is_set ∙ ap words (sym same)
      | inr other ↦ word_other words t k after other
    ]) are
set_all g blocks words first t (bytes ∷ more) after limits are within is_set =
    let mid = is_set.2 in
    let one = set g blocks words first t is_set.0 is_set.1 bytes mid limits are (omega (arith, within)) is_set.3 is_set.4 is_set.5 in
    same_words g (with_blocks blocks first (bytes ∷ more)) (with_word (with_word words t mid) t after) (with_word words t after)
    (λ k. elim (cases_eq k t) [
      | inl same ↦ word_same words t k after same ∙ sym (word_same (with_word words t mid) t k after same)
      | inr other ↦
          word_other words t k after other ∙ sym (word_other words t k mid other)
          ∙ sym (word_other (with_word words t mid) t k after other)
    ])
    (set_all g (with_block blocks first bytes) (with_word words t mid) (first + 1) t more after limits one (omega (arith, within))
    (subst (λ (w : Stripe). IsSetFrom g t (first + 1) more w after) (sym (word_same words t t mid refl)) is_set.6))
