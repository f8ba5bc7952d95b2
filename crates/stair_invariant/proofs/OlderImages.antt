-- An image in which an epoch before the member's is current represents what the images represented from which those of the fence come,
-- and of less of it no slot is live that wasn't.
use Rattle.std.proofs.Common.{◌≡◌, ℕ, ◌<◌, List, ◌⊎◌, Bool, true, inl, inr, sym, ◌∙◌, subst, arith}
use Rattle.std.specs.Prelude.{None}
use Rattle.stair_model.specs.Geometry.{Geometry}
use Rattle.stair_model.specs.Slots.{Slots}
use Rattle.stair_rack.specs.History.{Happening}
use Rattle.stair_rack.specs.Media.{Image}
use Rattle.stair_super.specs.declared.mark.Mark.TheVariants.{Live}
use Rattle.stair_member.specs.Current.{ByOutside, IsLive, IsLost, Serves}
use Rattle.stair_member.specs.Membership.{Membership}
use Rattle.stair_member.specs.Reserve.{MayStand}
use Rattle.stair_member.proofs.SuperLemmas.{super_cells}
use Rattle.stair_state.specs.Degraded.{IsDegraded}
use Rattle.stair_state.specs.Represents.{Encodings, ImageRepresents, OnlyShrinks}
use Rattle.stair_state.specs.State.{State}
use Rattle.stair_state.specs.Tolerance.{IsToleratedAlone}
use Rattle.stair_state.proofs.DegradedLemmas.{degraded_copies}
use Rattle.stair_state.proofs.ExchangedLemmas.{others_before}
use Rattle.stair_state.proofs.FormLemmas.{same_kept}
use Rattle.stair_invariant.proofs.CameLemmas.{IsLeftBy, origin}
use Rattle.stair_invariant.proofs.LikeLemmas.{AreLike, current_like, like_back, mark_like, represents_like, tolerated_like}
use Rattle.stair_invariant.proofs.MendedLemmas.{IsMendable, put_back, put_less, put_like, put_place, rewritten_behind}
use Rattle.stair_invariant.proofs.OlderLemmas.{IsOlder, back, back_serves, holds_test, kept_size, mendable, rewritten, serves_decided, test_holds, test_of, uncut, uncut_alone, uncut_under, uncut_less, uncut_like}

module _ {gone : Slots} {m last : Membership} {old h new : List Happening} {image : Image} (w : IsLeftBy gone m last old h new image)
    (only : (other : Geometry) → MayStand other (origin w).was → other ≡ m.array.geometry) where
  -- what it represents
  pub older_represents : (s : State) (encodings : Encodings s) → s.geometry ≡ m.array.geometry
      → ((y : Image) → IsDegraded (origin w).was y → IsToleratedAlone s.geometry y → ImageRepresents s encodings y)
      → {x : Image} → IsOlder m image x → ImageRepresents s encodings x
  older_represents s encodings same each {x} o =
      represents_like s encodings x (uncut w o) (uncut_like w o) (subst (λ (y : Geometry). IsToleratedAlone y x) (sym same) o.alone)
      (each (uncut w o) (uncut_less w o) (subst (λ (y : Geometry). IsToleratedAlone y (uncut w o)) (sym same) (uncut_alone w o only)))

  -- LESS OF IT

  module _ (shrinks : OnlyShrinks m.array.geometry (origin w).was) {more less : Image} (o : IsOlder m image more) (under : IsOlder m image less)
      (lesser : IsDegraded more less) where
    abbrev g : Geometry
    g = m.array.geometry

    abbrev was : Image
    was = (origin w).was

    -- a slot that serves in the lesser image may be put back in the other as well
    mendable_too : (j : ℕ) → Serves (λ i. (less i).size ≡ None) m.array.geometry less under.alone.current j → IsMendable ((origin w).was j) (more j)
    mendable_too j serves = record {
      size = sym size_less ∙ of.size;
      behind = rewritten_behind (was j) (more j) (rewritten w o j);
      whole = of.whole;
      same = λ t. (
        λ super. (of.same t).0 (super_cells ((more j).cell) ((less j).cell) t (sym (cell 0 (omega arith))) (sym (cell 1 (omega arith))) super),
        λ super. super_cells ((less j).cell) ((more j).cell) t (cell 0 (omega arith)) (cell 1 (omega arith)) ((of.same t).1 super),
      );
    }
      where
        of : IsMendable (was j) (less j)
        of = mendable w under j serves

        cell : (k : ℕ) → k < 2 → (less j).cell k ≡ (more j).cell k
        cell k lt = same_kept {was = (more j).cell k} (degraded_copies (lesser j) k) (serves.places k lt)

        size_less : (less j).size ≡ (more j).size
        size_less = kept_size (lesser j) (λ is. serves.places 0 (omega arith) (ByOutside is))

    -- it serves in one of the two
    OneServes : ℕ → Type 0
    OneServes j =
        Serves (λ i. (more i).size ≡ None) m.array.geometry more o.alone.current j
        ⊎ Serves (λ i. (less i).size ≡ None) m.array.geometry less under.alone.current j

    one_decided : (j : ℕ) → OneServes j ⊎ (¬ OneServes j)
    unfolding OneServes
    one_decided j =
        elim (serves_decided g more o.alone.current j) [
          | inl first ↦ inl (inl first)
          | inr no_first ↦
              elim (serves_decided g less under.alone.current j) [
                | inl second ↦ inl (inr second)
                | inr no_second ↦ inr (λ one. elim one [ inl first ↦ no_first first | inr second ↦ no_second second ])
              ]
        ]

    both_back : ℕ → Bool
    both_back j = test_of (one_decided j)

    both_mendable : (j : ℕ) → both_back j ≡ true → IsMendable ((origin w).was j) (more j)
    unfolding both_back OneServes
    both_mendable j is =
        elim (test_holds (one_decided j) is) [
          | inl first ↦ mendable w o j first
          | inr second ↦ mendable_too j second
        ]

    more_in_both : (j : ℕ) → Serves (λ i. (more i).size ≡ None) m.array.geometry more o.alone.current j → both_back j ≡ true
    unfolding both_back OneServes
    more_in_both j serves = holds_test (one_decided j) (inl serves)

    less_in_both : (j : ℕ) → back w under j ≡ true → both_back j ≡ true
    unfolding both_back OneServes
    less_in_both j is = holds_test (one_decided j) (inr (back_serves w under j is))

    both_put : Image
    both_put = put_back both_back was more

    both_like : AreLike more both_put
    unfolding both_put
    both_like = put_like was more both_back both_mendable (rewritten w o)

    both_less : IsDegraded (origin w).was both_put
    unfolding both_put
    both_less = put_less was more both_back both_mendable (rewritten w o)

    both_whole : (j k : ℕ) → Serves (λ i. (more i).size ≡ None) m.array.geometry more o.alone.current j → k < 2 → ¬ IsLost ((both_put j).cell k)
    unfolding both_put
    both_whole j k serves lt lost =
        (both_mendable j (more_in_both j serves)).whole k lt
        (subst IsLost (put_place was more both_back both_mendable (rewritten w o) j k (more_in_both j serves) lt) lost)

    both_alone : IsToleratedAlone m.array.geometry both_put
    both_alone = tolerated_like g more both_put both_like o.alone both_whole (others_before g was both_put both_less only)

    shrunk : IsDegraded both_put (uncut w under)
    unfolding both_put
    shrunk = uncut_under w under more both_back both_mendable less_in_both lesser

    pub older_shrinks : (j : ℕ) → IsLive m.array.geometry less under.alone.current j → IsLive m.array.geometry more o.alone.current j
    older_shrinks j live =
        mark_like both_put more (like_back more both_put both_like) g o.alone.current Live j
        (shrinks both_put (uncut w under) (inr both_alone) both_less shrunk (uncut_alone w under only) o.alone.current under.alone.current j
        (current_like more both_put both_like g o.alone.current o.alone.is_current)
        (current_like less (uncut w under) (uncut_like w under) g under.alone.current under.alone.is_current)
        (mark_like less (uncut w under) (uncut_like w under) g under.alone.current Live j live))
