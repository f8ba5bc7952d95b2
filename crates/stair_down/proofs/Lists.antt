-- Words that are solved from one list of places at another.
use Rattle.std.proofs.Common.{◌≡◌, ℕ, ◌<◌, ◌⊎◌, List, inl, inr, sym, subst, ◌∙◌}
use Rattle.std.specs.Prelude.{Contains}
use Rattle.stair_model.specs.CauchyCode.{AreSolved, Agree}
use Rattle.stair_model.specs.Stripe.{SECTOR}
use Rattle.stair_mds.specs.Solving.{Shape, AreWantedPlaces}

-- a codeword that has the known symbols has the symbol after at each place that is known or wanted
pub solved_at : (code : Shape) (IsCode : (ℕ → ℕ) → Type 0) (known wanted : List ℕ) (before after : ℕ → ℕ → ℕ)
    → AreWantedPlaces code known wanted → AreSolved IsCode known wanted before after
    → ((q p : ℕ) → ¬ Contains wanted p → after q p ≡ before q p)
    → (q : ℕ) (c : ℕ → ℕ) → q < SECTOR → IsCode c → Agree known c (before q)
    → (p : ℕ) → Contains known p ⊎ Contains wanted p → c p ≡ after q p
solved_at code IsCode known wanted before after places solved others q c q_in codeword agree p (inl one) =
    subst (λ (x : ℕ). c x ≡ before q x) one.2 (agree one.0 p one.1)
    ∙ sym (others q p (λ other.
    places.unknown other.0 p other.1 (subst (λ (x : ℕ). Contains known x) (sym other.2) one)))
solved_at code IsCode known wanted before after places solved others q c q_in codeword agree p (inr one) =
    subst (λ (x : ℕ). c x ≡ after q x) one.2 (solved.each q c q_in codeword agree one.0 p one.1)
