-- What was written, part by part.
use Rattle.std.proofs.Common.{◌≡◌, ℕ, ◌+◌, ◌-◌, ◌≤◌, List, [], ◌++◌, length, take, replicate, sym, ap, ◌∙◌, append_assoc, add-one}
use Rattle.std.proofs.lemmas.List.{take_all, append-nil}
use Rattle.stair_super.specs.Superblock.{Superblock}
use Rattle.stair_super.specs.Spelling.{padded, zeros, entry, entries}

pub both : (p0 p1 p2 a b : List ℕ) → p1 ≡ p0 ++ a → p2 ≡ p1 ++ b → p2 ≡ p0 ++ (a ++ b)
both p0 p1 p2 a b first second = second ∙ ap (λ (l : List ℕ). l ++ b) first ∙ append_assoc p0 a b

pub whole : (p0 p1 p4 m rest z : List ℕ) → p0 ≡ [] → p1 ≡ p0 ++ m → p4 ≡ p1 ++ rest → p4 ++ z ≡ m ++ (rest ++ z)
whole p0 p1 p4 m rest z empty first last =
    ap (λ (l : List ℕ). l ++ z) (last ∙ ap (λ (l : List ℕ). l ++ rest) (first ∙ ap (λ (l : List ℕ). l ++ m) empty))
    ∙ append_assoc m rest z

pub coverage_put : (page old e : List ℕ) (l k : ℕ) → page ≡ old ++ take l e → length e ≤ l → k ≡ 32 - length e → page ++ zeros k ≡ old ++ padded e
unfolding zeros
coverage_put page old e l k so_far all count =
    ap (λ (t : List ℕ). t ++ zeros k) (so_far ∙ ap (λ (t : List ℕ). old ++ t) (take_all l e all))
    ∙ append_assoc old e (zeros k)
    ∙ ap (λ (n : ℕ). old ++ (e ++ replicate n 0)) count

pub no_entries : (s : Superblock) (page : List ℕ) → page ≡ page ++ entries s 0
unfolding entries
no_entries s page = sym (append-nil page)

pub entry_put : (s : Superblock) (page old next text : List ℕ) (j : ℕ) → page ≡ old ++ entries s j → entry s j ≡ text → next ≡ page ++ text → next ≡ old ++ entries s (j + 1)
unfolding entries
entry_put s page old next text j so_far here put =
    put
    ∙ ap (λ (l : List ℕ). l ++ text) so_far
    ∙ append_assoc old (entries s j) text
    ∙ ap (λ (l : List ℕ). old ++ (entries s j ++ l)) (sym here)
    ∙ ap (λ (n : ℕ). old ++ entries s n) (sym (add-one j))
