-- Stripes restored one after another.
use Rattle.std.proofs.Common.{◌≡◌, ℕ, zero, suc, ◌+◌, ◌*◌, ◌/◌, ◌%◌, ◌<◌, ◌≤◌, List, [], slice_index_or, inl, inr, refl, subst, sym, ◌∙◌, ap, ap₂, arith}
use Rattle.std.specs.Prelude.{IfOk, IsOk, Result, Ok, Err}
use Rattle.std.proofs.lemmas.Bool.{cases_eq, false≢true}
use Rattle.std.proofs.lemmas.List.{ext_get_or}
use Rattle.std.proofs.lemmas.Nat.{div_below, mod_below, div-add-mod'}
use Rattle.stair_model.specs.CellSet.{CellSet, HasCell}
use Rattle.stair_model.specs.Geometry.{Geometry}
use Rattle.stair_model.specs.Restoring.{IsRestored}
use Rattle.stair_model.specs.Stripe.{Stripe, IsStripeOf, IsWellFormed, cell}
use Rattle.stair_c.proofs.SectorLemmas.{kept_at, was_at}
use Rattle.stair_c.specs.Chunks.{HasStripes, IsSameAt}
use Rattle.stair_c.specs.Restores.{IsRestoredAt}

-- the stripes before this one were restored, and the others are as they were
pub record RestoresBelow (g : Geometry) (k : ℕ) (erased : List ℕ) (number : ℕ) (old new : List (List ℕ)) : Type 0 where
  pub whole : HasStripes g k new
  pub below : (s : ℕ) → s < number → IsRestoredAt g k erased old new s
  pub rest : (s : ℕ) → number ≤ s → s < k → IsSameAt g k old new s

module _ (g : Geometry) (k : ℕ) (erased : List ℕ) where
  pub restores_none : (sectors : List (List ℕ)) → HasStripes g k sectors → RestoresBelow g k erased 0 sectors sectors
  restores_none sectors whole = record { whole = whole; below = λ s none. absurd (omega (arith, none)); rest = λ s from in_range i j i_in j_in. refl }

  pub restores_more : (number : ℕ) (old mid new : List (List ℕ)) → number < k → RestoresBelow g k erased number old mid
      → HasStripes g k new → IsRestoredAt g k erased mid new number
      → ((s : ℕ) → s < k → ¬ (s ≡ number) → IsSameAt g k mid new s)
      → RestoresBelow g k erased (number + 1) old new
  restores_more number old mid new number_in so_far whole this others =
      record { whole = whole; below = below; rest = rest }
    where
      below : (s : ℕ) → s < number + 1 → IsRestoredAt g k erased old new s
      below s s_in =
          elim (cases_eq s number) [
            | inl last ↦ subst (IsRestoredAt g k erased old new) (sym last) (record {
              cells = this.cells;
              before = this.before;
              after = this.after;
              are = this.are;
              was = was_at g k old mid number this.before (so_far.rest number (omega arith) number_in) this.was;
              is = this.is;
              covered = this.covered;
              held = this.held;
              restored = this.restored;
            })
            | inr other ↦
                let sooner = so_far.below s (omega (arith, s_in, other)) in
                record {
                  cells = sooner.cells;
                  before = sooner.before;
                  after = sooner.after;
                  are = sooner.are;
                  was = sooner.was;
                  is = kept_at g k mid new s sooner.after (others s (omega (arith, s_in, number_in, other)) other) sooner.is;
                  covered = sooner.covered;
                  held = sooner.held;
                  restored = sooner.restored;
                }
          ]

      rest : (s : ℕ) → number + 1 ≤ s → s < k → IsSameAt g k old new s
      rest s from s_in i j i_in j_in =
          others s s_in (λ same. absurd (omega (arith, from, same))) i j i_in j_in ∙ so_far.rest s (omega (arith, from)) s_in i j i_in j_in

-- what holds of a result holds where it is Ok
pub when_ok : {T E : Type 0} {P : Type 0} → (r : Result T E) → IsOk r → IfOk r (λ _. P) → P
when_ok (Ok value) ok holds = holds
when_ok (Err error) ok holds = absurd (false≢true ok)

-- a stripe by its three fields
abbrev stripe_from : ℕ → ℕ → List (List ℕ) → Stripe
stripe_from rows chunks cells = record { rows = rows; chunks = chunks; cells = cells }

positive : (k r n : ℕ) → k < r * n → 0 < n
positive k r zero below = absurd (omega (arith, below))
positive k r (suc n) below = omega arith

-- stripes of a geometry with the same cells are the same
same_cells : (g : Geometry) (a b : Stripe) → IsStripeOf g a → IsWellFormed a → IsStripeOf g b → IsWellFormed b
    → ((i j : ℕ) → i < g.r → j < g.n → cell a i j ≡ cell b i j) → a ≡ b
same_cells g a b a_of a_formed b_of b_formed same =
    ap₂ (λ rows chunks. stripe_from rows chunks a.cells) rows chunks
    ∙ ap (λ cells. stripe_from b.rows b.chunks cells)
    (ext_get_or [] a.cells b.cells (a_formed.count ∙ ap₂ (λ (x y : ℕ). x * y) rows chunks ∙ sym b_formed.count)
    (λ k k_in.
    let within : k < g.r * g.n = subst (λ (n : ℕ). k < n) (a_formed.count ∙ ap₂ (λ (x y : ℕ). x * y) a_of.rows a_of.chunks) k_in in
    let some : 0 < g.n = positive k g.r g.n within in
    ap (λ n. slice_index_or a.cells n []) (sym (place a a_of k))
    ∙ same (k / g.n) (k % g.n) (div_below k g.n g.r some within) (mod_below k g.n some)
    ∙ ap (λ n. slice_index_or b.cells n []) (place b b_of k)))
  where
    rows : a.rows ≡ b.rows
    rows = a_of.rows ∙ sym b_of.rows

    chunks : a.chunks ≡ b.chunks
    chunks = a_of.chunks ∙ sym b_of.chunks

    place : (s : Stripe) → IsStripeOf g s → (k : ℕ) → k / g.n * s.chunks + k % g.n ≡ k
    place s of k = ap (λ (n : ℕ). k / g.n * n + k % g.n) of.chunks ∙ div-add-mod' k g.n

-- a stripe of which nothing is erased is restored as it is
pub whole_restored : (g : Geometry) (erased : CellSet) (s : Stripe) → IsStripeOf g s → IsWellFormed s
    → ((i j : ℕ) → i < g.r → j < g.n → ¬ HasCell erased i j) → IsRestored g erased s s
whole_restored g erased s of formed none c c_of c_formed codeword same =
    same_cells g s c of formed c_of c_formed (λ i j row slot. sym (same i j row slot (none i j row slot)))
