-- A stripe in which the parities are found is encoded.
use Rattle.std.proofs.Common.{◌≡◌, ℕ, ◌-◌, ◌<◌, ◌↔◌, List, slice_index, inl, inr, sym, ap, ◌∙◌, arith}
use Rattle.std.specs.Prelude.{IsTrue}
use Rattle.std.proofs.lemmas.Bool.{cases_lt}
use Rattle.stair_model.specs.Geometry.{Geometry, IsWithinLimits, data_chunks}
use Rattle.stair_model.specs.Stripe.{Stripe, SECTOR, IsStripeOf, IsWellFormed, cell, byte_of}
use Rattle.stair_model.specs.Cell.{is_parity, cell_at}
use Rattle.stair_model.specs.CellSet.{CellSet, HasCell}
use Rattle.stair_model.specs.Codeword.{Word}
use Rattle.stair_model.specs.Canonical.{IsCanonicalCodeword}
use Rattle.stair_model.specs.Encoding.{IsEncodedFrom}
use Rattle.stair_model.proofs.CellLaws.{parity_is_no_data, no_data_is_parity}
use Rattle.stair_model.proofs.CanonicalLaws.{canonical_is_codeword}
use Rattle.stair_model.proofs.StripeLaws.{byte_of-lt}
use Rattle.stair_model.proofs.KnownSymbolLaws.{globals_of}
use Rattle.stair_model.proofs.VirtualRowLaws.{SameDataCells, canonical_exists}
use Rattle.stair_up.specs.SolveSteps.{AreCanonical, FindsStripe}
use Rattle.stair_up.proofs.Parities.{parities_of, parities_of_data, data_above, data_is_above}

pub IsEncodedFrom-found : (g : Geometry) (cells : CellSet) (before after : Stripe) → IsWithinLimits g
    → ((i j : ℕ) → i < g.r → j < g.n → HasCell cells i j ↔ IsTrue (is_parity (cell_at g i j)))
    → IsStripeOf g after → IsWellFormed after
    → ((i j : ℕ) → i < g.r → j < g.n → ¬ HasCell cells i j → cell after i j ≡ cell before i j)
    → FindsStripe g cells before after → IsEncodedFrom g before after
IsEncodedFrom-found g cells before after limits members of formed held finds = record {
  of = of;
  formed = formed;
  codeword = canonical_is_codeword g after x limits (λ q q_in. ((λ i j row chunk. sym (same q i j q_in row chunk)), canonical q q_in));
  same_data = λ i j d row chunk is_data. sym (held i j row chunk (λ has. parity_is_no_data (cell_at g i j) d ((members i j row chunk).0 has) is_data));
}
  where
    made : (q : ℕ) → (x : Word) × IsCanonicalCodeword g x × SameDataCells g x (byte_of after q)
    made q = canonical_exists g (byte_of after q) limits (λ i j. byte_of-lt after formed q i j)

    x : ℕ → Word
    x q = (made q).0

    canonical : AreCanonical g x
    canonical q q_in = (made q).1

    -- a cell that isn't erased holds data
    is_data : (i j : ℕ) → i < g.r → j < g.n → ¬ HasCell cells i j → (j < data_chunks g) × (i < g.r - globals_of g j)
    is_data i j row chunk not_erased =
        elim (cases_lt i (g.r - parities_of g j)) [
          | inl above ↦
              let one = data_above g i j above in
              let place = data_is_above g i j one.0 row one.1 in
              (place.0, omega (arith, above, parities_of_data g j place.0))
          | inr below ↦
              absurd (not_erased ((members i j row chunk).1
              (no_data_is_parity (cell_at g i j)
              (λ d holds. omega (arith, below, (data_is_above g i j d row holds).1)))))
        ]

    same : (q i j : ℕ) → q < SECTOR → i < g.r → j < g.n → byte_of after q i j ≡ x q i j
    same =
        finds x canonical
        (λ q i j q_in row chunk not_erased.
        let place = is_data i j row chunk not_erased in
        ap (λ (bytes : List ℕ). slice_index bytes q) (sym (held i j row chunk not_erased)) ∙ sym ((made q).2 i j place.0 place.1))
