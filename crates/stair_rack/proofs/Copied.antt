-- What a copy of a part of some bytes to the front of a piece leaves of them.
use Rattle.std.proofs.Common.{◌≡◌, ℕ, ◌+◌, ◌≤◌, List, ◌++◌, length, take, drop, sym, ap, ◌∙◌, arith, length-drop}
use Rattle.std.proofs.lemmas.List.{drop-drop, length-take-le, take-append-drop, take_at}

-- bytes from g on are the n bytes that were copied to the front of the piece, and those after them
pub drop-copied : (bytes piece copy : List ℕ) (g n m : ℕ) → m ≡ n → g + n ≤ length bytes → copy ≡ take m (drop g bytes)
    → drop g bytes ≡ take n (copy ++ drop n piece) ++ drop (g + n) bytes
drop-copied bytes piece copy g n m same room is =
    let part : copy ≡ take n (drop g bytes) = is ∙ ap (λ k. take k (drop g bytes)) same in
    let fits : n ≤ length (drop g bytes) = omega (arith, length-drop g bytes) in
    let len : length copy ≡ n = ap length part ∙ length-take-le n (drop g bytes) fits in
    rw (take_at copy (drop n piece) n len, part, ← drop-drop n g bytes) (sym (take-append-drop n (drop g bytes)))
