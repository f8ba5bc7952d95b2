-- Bytes of blocks that lie one after the other.
use Rattle.std.proofs.Common.{◌≡◌, ◌∙◌, ◌+◌, ◌*◌, ◌-◌, ◌<◌, ◌≤◌, ◌++◌, ℕ, zero, suc, List, [], ◌∷◌, drop, length, length-append, replicate, take, refl, sym, ap, arith}
use Rattle.std.specs.Prelude.{All, slice_get}
use Rattle.std.specs.List.{concat}
use Rattle.std.proofs.lemmas.List.{get_or-take, get_or-drop, length-drop, length-take, length-take-le, replicate-append-replicate, take-append-drop}
use Rattle.std.proofs.lemmas.List.Elements.{All-head, All-tail}
use Rattle.std.proofs.lemmas.List.Folds.{concat-append}
use Rattle.stair_model.specs.Stripe.{SECTOR}
use Rattle.stair_state.specs.Blocks.{zero_block}
use Rattle.stair_volume.specs.Volumes.{overwritten}

-- ---- an element of two lists

pub slice_get-left : {X : Type 0} (xs ys : List X) (i : ℕ) → i < length xs → slice_get (xs ++ ys) i ≡ slice_get xs i
slice_get-left [] ys i within = absurd (omega arith)
slice_get-left (x ∷ xs) ys zero within = refl
slice_get-left (x ∷ xs) ys (suc i) within = slice_get-left xs ys i (omega arith)

pub slice_get-right : {X : Type 0} (xs ys : List X) (i : ℕ) → slice_get (xs ++ ys) (length xs + i) ≡ slice_get ys i
slice_get-right [] ys i = let none : 0 + i ≡ i = omega arith in ap (slice_get ys) none
slice_get-right (x ∷ xs) ys i = let more : suc (length xs) + i ≡ suc (length xs + i) = omega arith in ap (slice_get (x ∷ (xs ++ ys))) more ∙ slice_get-right xs ys i

-- ---- whole blocks

abbrev pub AreWhole : List (List ℕ) → Type 0
AreWhole blocks = All (λ bytes. length bytes ≡ SECTOR) blocks

pub length-whole : (blocks : List (List ℕ)) → AreWhole blocks → length (concat blocks) ≡ SECTOR * length blocks
length-whole [] whole = refl
length-whole (bytes ∷ blocks) whole =
    omega (
      arith,
      length-append bytes (concat blocks),
      All-head (λ bytes. length bytes ≡ SECTOR) bytes blocks whole,
      length-whole blocks (All-tail (λ bytes. length bytes ≡ SECTOR) bytes blocks whole),
    )

pub whole-take : (n : ℕ) (blocks : List (List ℕ)) → AreWhole blocks → AreWhole (take n blocks)
whole-take n blocks whole k d within =
    let below : k < n = omega (arith, within, length-take n blocks) in
    ap length (get_or-take n blocks k d below) ∙ whole k d (omega (arith, within, length-take n blocks))

pub whole-drop : (n : ℕ) (blocks : List (List ℕ)) → AreWhole blocks → AreWhole (drop n blocks)
whole-drop n blocks whole k d within = ap length (get_or-drop n blocks k d) ∙ whole (n + k) d (omega (arith, within, length-drop n blocks))

-- ---- blocks in a row, and what is written over some of them

-- blocks in three parts, by their bytes
pub at_front : (a b : List (List ℕ)) (at : ℕ) → AreWhole a → at < SECTOR * length a → slice_get (concat (a ++ b)) at ≡ slice_get (concat a) at
at_front a b at whole below =
    ap (λ (l : List ℕ). slice_get l at) (concat-append a b) ∙ slice_get-left (concat a) (concat b) at (omega (arith, below, length-whole a whole))

pub at_back : (a b : List (List ℕ)) (at i : ℕ) → AreWhole a → at ≡ SECTOR * length a + i → slice_get (concat (a ++ b)) at ≡ slice_get (concat b) i
at_back a b at i whole is =
    let place : at ≡ length (concat a) + i = omega (arith, is, length-whole a whole) in
    ap (slice_get (concat (a ++ b))) place ∙ ap (λ (l : List ℕ). slice_get l (length (concat a) + i)) (concat-append a b)
    ∙ slice_get-right (concat a) (concat b) i

-- byte i of blocks of a list, counted from a block on
pub at_range : (blocks : List (List ℕ)) (block count i : ℕ) → AreWhole blocks → block + count ≤ length blocks → i < SECTOR * count
    → slice_get (concat (take count (drop block blocks))) i ≡ slice_get (concat blocks) (SECTOR * block + i)
at_range blocks block count i whole fits below =
    let front : length (take block blocks) ≡ block = length-take-le block blocks (omega (arith, fits)) in
    let rest : List (List ℕ) = drop block blocks in
    let some : length (take count rest) ≡ count = length-take-le count rest (omega (arith, length-drop block blocks, fits)) in
    sym (ap (λ (l : List (List ℕ)). slice_get (concat l) (SECTOR * block + i)) (sym (take-append-drop block blocks))
    ∙ at_back (take block blocks) rest (SECTOR * block + i) i (whole-take block blocks whole) (omega (arith, front))
    ∙ ap (λ (l : List (List ℕ)). slice_get (concat l) i) (sym (take-append-drop count rest))
    ∙ at_front (take count rest) (drop count rest) i (whole-take count rest (whole-drop block blocks whole)) (omega (arith, below, some)))

pub length-range : (blocks : List (List ℕ)) (block count : ℕ) → AreWhole blocks → block + count ≤ length blocks
    → length (concat (take count (drop block blocks))) ≡ SECTOR * count
length-range blocks block count whole fits =
    let some : length (take count (drop block blocks)) ≡ count = length-take-le count (drop block blocks) (omega (arith, length-drop block blocks, fits)) in
    length-whole (take count (drop block blocks)) (whole-take count (drop block blocks) (whole-drop block blocks whole)) ∙ ap (λ (n : ℕ). SECTOR * n) some

module _ (block : ℕ) (contents blocks : List (List ℕ)) (new : AreWhole contents) (old : AreWhole blocks)
    (fits : block + length contents ≤ length blocks) where
  abbrev front : List (List ℕ)
  front = take block blocks

  abbrev back : List (List ℕ)
  back = drop (block + length contents) blocks

  long : length front ≡ block
  long = length-take-le block blocks (omega (arith, fits))

  pub over_front : (at : ℕ) → at < SECTOR * block → slice_get (concat (overwritten block contents blocks)) at ≡ slice_get (concat blocks) at
  over_front at below =
      at_front front (contents ++ back) at (whole-take block blocks old) (omega (arith, below, long))
      ∙ sym (at_front front (drop block blocks) at (whole-take block blocks old) (omega (arith, below, long)))
      ∙ ap (λ (l : List (List ℕ)). slice_get (concat l) at) (take-append-drop block blocks)

  pub over_here : (at i : ℕ) → at ≡ SECTOR * block + i → i < SECTOR * length contents
      → slice_get (concat (overwritten block contents blocks)) at ≡ slice_get (concat contents) i
  over_here at i is below =
      at_back front (contents ++ back) at i (whole-take block blocks old) (omega (arith, is, long)) ∙ at_front contents back i new below

  pub over_back : (at i : ℕ) → at ≡ SECTOR * (block + length contents) + i
      → slice_get (concat (overwritten block contents blocks)) at ≡ slice_get (concat blocks) at
  over_back at i is =
      let upto : length (take (block + length contents) blocks) ≡ block + length contents = length-take-le (block + length contents) blocks fits in
      at_back front (contents ++ back) at (SECTOR * length contents + i) (whole-take block blocks old) (omega (arith, is, long))
      ∙ at_back contents back (SECTOR * length contents + i) i new refl
      ∙ sym (at_back (take (block + length contents) blocks) back at i (whole-take (block + length contents) blocks old) (omega (arith, is, upto)))
      ∙ ap (λ (l : List (List ℕ)). slice_get (concat l) at) (take-append-drop (block + length contents) blocks)

-- ---- zeros

pub zeros_joined : (count : ℕ) → concat (replicate count zero_block) ≡ replicate (SECTOR * count) 0
zeros_joined zero = refl
zeros_joined (suc count) =
    let more : SECTOR + SECTOR * count ≡ SECTOR * suc count = omega arith in
    ap (λ (l : List ℕ). zero_block ++ l) (zeros_joined count) ∙ replicate-append-replicate SECTOR (SECTOR * count) 0
    ∙ ap (λ (n : ℕ). replicate n 0) more
