-- What is put, piece by piece.
use Rattle.std.proofs.Common.{◌≡◌, ℕ, ◌+◌, ◌≤◌, List, ◌++◌, take, drop, sym, ap, ◌∙◌}
use Rattle.std.proofs.lemmas.List.{take-take}
use lib.Seq.{take-add}

-- the bytes that were put, and the next ones after them
pub take-part_more : (put k size : ℕ) (xs : List ℕ) → k ≤ size → take put xs ++ take k (take size (drop put xs)) ≡ take (put + k) xs
take-part_more put k size xs in_size =
    ap (λ b. take put xs ++ b) (take-take k size (drop put xs) in_size) ∙ sym (take-add put k xs)
