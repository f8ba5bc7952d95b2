-- A stripe in which all cells are found is the codeword.
use Rattle.std.proofs.Common.{◌≡◌, ℕ, ◌<◌, List, slice_index, sym, ap, ◌∙◌}
use Rattle.stair_model.specs.Geometry.{Geometry, IsWithinLimits}
use Rattle.stair_model.specs.Stripe.{Stripe, SECTOR, IsStripeOf, IsWellFormed, byte_of}
use Rattle.stair_model.specs.CellSet.{CellSet}
use Rattle.stair_model.specs.Codeword.{Word, IsCodeword}
use Rattle.stair_model.specs.Canonical.{IsExtensionOf}
use Rattle.stair_model.specs.Restoring.{IsRestored}
use Rattle.stair_model.proofs.CanonicalLaws.{extension_exists, codeword_is_canonical, canonical_is_codeword}
use Rattle.stair_model.proofs.EncodingLaws.{codewords_agree}
use Rattle.stair_model.proofs.StripeLaws.{same_cell}
use Rattle.stair_up.specs.SolveSteps.{AreCanonical, FindsStripe}

pub IsRestored-from : (g : Geometry) (erased : CellSet) (before after : Stripe) → IsWithinLimits g → IsStripeOf g after → IsWellFormed after
    → FindsStripe g erased before after → IsRestored g erased before after
IsRestored-from g erased before after limits of formed finds c c_of c_formed codeword held =
    codewords_agree g after c limits of formed is_codeword c_of c_formed codeword
    (λ i j d row chunk is_data.
    same_cell g after c i j of formed c_of c_formed row chunk
    (λ q q_in. same q i j q_in row chunk ∙ (extension q).cells i j row chunk))
  where
    x : ℕ → Word
    x q = (extension_exists g (byte_of c q)).0

    extension : (q : ℕ) → IsExtensionOf g (byte_of c q) (x q)
    extension q = (extension_exists g (byte_of c q)).1

    canonical : AreCanonical g x
    canonical q q_in = codeword_is_canonical g c q (x q) limits c_of c_formed codeword q_in (extension q)

    same : (q i j : ℕ) → q < SECTOR → i < g.r → j < g.n → byte_of after q i j ≡ x q i j
    same =
        finds x canonical
        (λ q i j q_in row chunk not_erased.
        ap (λ (bytes : List ℕ). slice_index bytes q) (sym (held i j row chunk not_erased)) ∙ sym ((extension q).cells i j row chunk))

    is_codeword : IsCodeword g after
    is_codeword =
        canonical_is_codeword g after x limits
        (λ q q_in. ((λ i j row chunk. sym (same q i j q_in row chunk)), canonical q q_in))
