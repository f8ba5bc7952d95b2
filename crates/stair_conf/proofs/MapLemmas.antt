-- Two maps that make the same list.
use Rattle.std.proofs.Common.{◌≡◌, ◌<◌, ℕ, zero, suc, List, [], ◌∷◌, length, get_or, map, arith}

-- they agree at each index
pub mapped_at : {A B C : Type 0} (f : A → C) (g : B → C) (xs : List A) (ys : List B) (i : ℕ) (x : A) (y : B) → i < length xs
    → map f xs ≡ map g ys → f (get_or xs i x) ≡ g (get_or ys i y)
mapped_at f g [] ys i x y within same = absurd (omega arith)
mapped_at f g (a ∷ xs) [] i x y within same = cc
mapped_at f g (a ∷ xs) (b ∷ ys) zero x y within same = cc
mapped_at f g (a ∷ xs) (b ∷ ys) (suc i) x y within same =
    let tails : map f xs ≡ map g ys = cc in
    mapped_at f g xs ys i x y (omega arith) tails
