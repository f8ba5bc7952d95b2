-- Blocks in a row, and what becomes of them by a write.
use Rattle.std.proofs.Common.{◌≡◌, ◌∙◌, ◌+◌, ◌-◌, ◌<◌, ◌≤◌, ◌++◌, ◌⊎◌, ℕ, zero, suc, List, [], ◌∷◌, inl, inr, length, drop, take, get_or, replicate, refl, sym, ap, arith}
use Rattle.std.proofs.lemmas.List.{take-append-drop}
use Rattle.stair_state.specs.Blocks.{Blocks}
use Rattle.stair_volume.specs.Volumes.{blocks_from, overwritten}

-- the same blocks, in a range
pub blocks_from-same : (held now : Blocks) (first count : ℕ) → ((b : ℕ) → first ≤ b → b < first + count → now b ≡ held b)
    → blocks_from now first count ≡ blocks_from held first count
blocks_from-same held now first zero same = refl
blocks_from-same held now first (suc count) same = λ i.
    same first (omega arith) (omega arith) i
    ∷ blocks_from-same held now (first + 1) count (λ b from below. same b (omega (arith, from)) (omega (arith, below))) i

pub length-blocks_from : (held : Blocks) (first count : ℕ) → length (blocks_from held first count) ≡ count
length-blocks_from held first zero = refl
length-blocks_from held first (suc count) = ap suc (length-blocks_from held (first + 1) count)

-- one range after another
pub blocks_from-split : (held : Blocks) (first a b : ℕ) → blocks_from held first (a + b) ≡ blocks_from held first a ++ blocks_from held (first + a) b
blocks_from-split held first zero b =
    let none : 0 + b ≡ b = omega arith in let here : first ≡ first + 0 = omega arith in λ i. blocks_from held (here i) (none i)
blocks_from-split held first (suc a) b =
    let more : suc a + b ≡ suc (a + b) = omega arith in
    ap (blocks_from held first) more
    ∙ ap (λ (l : List (List ℕ)). held first ∷ l)
    (blocks_from-split held (first + 1) a b ∙ ap (λ (f : ℕ). blocks_from held (first + 1) a ++ blocks_from held f b) (omega arith))

-- the front of a range, and what is after it
pub take-blocks_from : (held : Blocks) (first a b : ℕ) → take a (blocks_from held first (a + b)) ≡ blocks_from held first a
take-blocks_from held first zero b = refl
take-blocks_from held first (suc a) b =
    let more : suc a + b ≡ suc (a + b) = omega arith in
    ap (λ (n : ℕ). take (suc a) (blocks_from held first n)) more ∙ ap (λ (l : List (List ℕ)). held first ∷ l) (take-blocks_from held (first + 1) a b)

pub drop-blocks_from : (held : Blocks) (first a b : ℕ) → drop a (blocks_from held first (a + b)) ≡ blocks_from held (first + a) b
drop-blocks_from held first zero b =
    let none : 0 + b ≡ b = omega arith in let here : first ≡ first + 0 = omega arith in λ i. blocks_from held (here i) (none i)
drop-blocks_from held first (suc a) b =
    let more : suc a + b ≡ suc (a + b) = omega arith in
    ap (λ (n : ℕ). drop (suc a) (blocks_from held first n)) more
    ∙ drop-blocks_from held (first + 1) a b ∙ ap (λ (f : ℕ). blocks_from held f b) (omega arith)

-- so many blocks from one of a range on
pub range_of : (held : Blocks) (first all block count : ℕ) → block + count ≤ all
    → take count (drop block (blocks_from held first all)) ≡ blocks_from held (first + block) count
range_of held first all block count within =
    let rest : ℕ = all - (block + count) in
    let parts : all ≡ block + (count + rest) = omega (arith, within) in
    ap (λ (n : ℕ). take count (drop block (blocks_from held first n))) parts
    ∙ ap (take count) (drop-blocks_from held first block (count + rest))
    ∙ take-blocks_from held (first + block) count rest

-- blocks that are all such
pub blocks_from-all : (held : Blocks) (bytes : List ℕ) (first count : ℕ) → ((b : ℕ) → first ≤ b → b < first + count → held b ≡ bytes)
    → blocks_from held first count ≡ replicate count bytes
blocks_from-all held bytes first zero are = refl
blocks_from-all held bytes first (suc count) are = λ i.
    are first (omega arith) (omega arith) i
    ∷ blocks_from-all held bytes (first + 1) count (λ b from below. are b (omega (arith, from)) (omega (arith, below))) i

-- blocks that are these
pub blocks_from-these : (held : Blocks) (contents : List (List ℕ)) (first : ℕ) → ((k : ℕ) → k < length contents → held (first + k) ≡ get_or contents k [])
    → blocks_from held first (length contents) ≡ contents
blocks_from-these held [] first are = refl
blocks_from-these held (bytes ∷ contents) first are = λ i.
    (ap held (let same : first ≡ first + 0 = omega arith in same) ∙ are 0 (omega arith)) i
    ∷ blocks_from-these held contents (first + 1)
    (λ k below. ap held (let next : first + 1 + k ≡ first + suc k = omega arith in next) ∙ are (suc k) (omega (arith, below))) i

-- the blocks from `first` on are these contents, and all others are as they were
pub record IsSetTo (held now : Blocks) (first : ℕ) (contents : List (List ℕ)) : Type 0 where
  pub beside : (b : ℕ) → (b < first) ⊎ (first + length contents ≤ b) → now b ≡ held b
  pub set : (k : ℕ) → k < length contents → now (first + k) ≡ get_or contents k []

-- a range in which they lie has them in their places
pub range_set : (held now : Blocks) (first all block : ℕ) (contents : List (List ℕ)) → IsSetTo held now (first + block) contents
    → block + length contents ≤ all → blocks_from now first all ≡ overwritten block contents (blocks_from held first all)
range_set held now first all block contents is within =
    let rest : ℕ = all - (block + length contents) in
    let parts : all ≡ block + (length contents + rest) = omega (arith, within) in
    let split : blocks_from now first all
    ≡ blocks_from now first block ++ (blocks_from now (first + block) (length contents) ++ blocks_from now (first + block + length contents) rest) =
    ap (blocks_from now first) parts ∙ blocks_from-split now first block (length contents + rest)
    ∙ ap (λ (l : List (List ℕ)). blocks_from now first block ++ l) (blocks_from-split now (first + block) (length contents) rest) in
    let front : blocks_from now first block ≡ take block (blocks_from held first all) =
    blocks_from-same held now first block (λ b from below. is.beside b (inl (omega (arith, below))))
    ∙ sym (take-blocks_from held first block (length contents + rest)) ∙ ap (λ (n : ℕ). take block (blocks_from held first n)) (sym parts) in
    let these : blocks_from now (first + block) (length contents) ≡ contents = blocks_from-these now contents (first + block) is.set in
    let both : all ≡ block + length contents + rest = omega (arith, within) in
    let back : blocks_from now (first + block + length contents) rest ≡ drop (block + length contents) (blocks_from held first all) =
    blocks_from-same held now (first + block + length contents) rest (λ b from below. is.beside b (inr from))
    ∙ ap (λ (f : ℕ). blocks_from held f rest) (let same : first + block + length contents ≡ first + (block + length contents) = omega arith in same)
    ∙ sym (drop-blocks_from held first (block + length contents) rest)
    ∙ ap (λ (n : ℕ). drop (block + length contents) (blocks_from held first n)) (sym both) in
    split ∙ (λ i. front i ++ (these i ++ back i))

-- nothing is changed by no blocks
pub overwritten-none : (block : ℕ) (blocks : List (List ℕ)) → overwritten block [] blocks ≡ blocks
overwritten-none block blocks =
    let here : block + 0 ≡ block = omega arith in
    ap (λ (n : ℕ). take block blocks ++ drop n blocks) here ∙ take-append-drop block blocks
