-- Of an image and of less of it whose current superblock names an earlier epoch: what is live in the lesser one is marked Live by
-- the current superblock of the other, with the same joined number. The lesser image with the slot of that superblock put back
-- tells it, since it too is within tolerance.
use Rattle.std.proofs.Common.{◌≡◌, ◌≢◌, ℕ, ◌<◌, ◌≤◌, List, None, inl, inr, refl, sym, ap, ◌∙◌, subst, arith}
use Rattle.std.specs.Prelude.{◌⊎◌}
use Rattle.std.proofs.lemmas.Bool.{cases_eq}
use Rattle.stair_model.specs.Geometry.{Geometry}
use Rattle.stair_rack.specs.Crash.{CrashMayLeave}
use Rattle.stair_rack.specs.History.{Happening}
use Rattle.stair_rack.specs.Media.{Image, SlotImage}
use Rattle.stair_super.specs.Superblock.{Superblock, joined_at, mark_at}
use Rattle.stair_super.specs.declared.mark.Mark.TheVariants.{Live}
use Rattle.stair_member.specs.Current.{IsCurrent, IsFailed, IsLive, IsLost, Serves}
use Rattle.stair_member.specs.Reserve.{IsOrderly, MayStand}
use Rattle.stair_member.specs.Superblocks.{Counts, IsSuperOf}
use Rattle.stair_member.proofs.SuperLemmas.{counts_bears, one_current, one_super, slot_below, super_cells}
use Rattle.stair_state.specs.Degraded.{IsDegraded, IsDegradedSlot}
use Rattle.stair_state.specs.Represents.{IsImageOf, Left, Lesser, OnlyShrinks, Represents}
use Rattle.stair_state.specs.State.{State}
use Rattle.stair_state.specs.Tolerance.{IsToleratedAlone}
use Rattle.stair_state.proofs.AgreeLemmas.{current_upto, own_joined}
use Rattle.stair_state.proofs.DegradedLemmas.{again, bears_before, degraded_copies, degraded_same}
use Rattle.stair_state.proofs.ExchangedLemmas.{counts_in, exchanged_tolerated, others_before, serves_or_failed, serves_there, slot_cases, slot_here, slot_there, with_slot}
use Rattle.stair_state.proofs.FormLemmas.{same_kept}
use Rattle.stair_state.proofs.StillLemmas.{known_none}

-- a rack that represents a state has images of which no loss of media adds a live slot
pub only_shrinks : (s : State) (h : List Happening) (image : Image) → Represents s h → CrashMayLeave h image → OnlyShrinks s.geometry image
only_shrinks s h image stands left more less from degraded lesser alone =
    stands.shrinks more less (image_of from) (Lesser image left (again image more less degraded lesser) alone) lesser
  where
    image_of : (more ≡ image) ⊎ IsToleratedAlone s.geometry more → IsImageOf s.geometry h more
    image_of (inl same) = Left (subst (CrashMayLeave h) (sym same) left)
    image_of (inr is) = Lesser image left degraded is

module _ (g : Geometry) (was is : Image) (current : Superblock) (orderly : IsOrderly g was) (shrinks : OnlyShrinks g was)
    (only : (other : Geometry) → MayStand other was → other ≡ g) (is_current : IsCurrent g was current) (degraded : IsDegraded was is)
    (alone : IsToleratedAlone g is) (older : alone.current.array.epoch < current.array.epoch) where
  -- the slot of the current superblock
  abbrev b : ℕ
  b = current.slot

  abbrev gone : ℕ → Type 0
  gone i = (is i).size ≡ None

  abbrev serves : ℕ → Type 0
  serves i = Serves gone g is alone.current i

  -- what is live was so in the other image
  shrunk : (j : ℕ) → IsLive g is alone.current j → IsLive g was current j
  shrunk j live = shrinks was is (inl refl) (degraded_same was) degraded alone current alone.current j is_current alone.is_current live

  same_cell : (j k : ℕ) → ¬ IsLost ((is j).cell k) → (is j).cell k ≡ (was j).cell k
  same_cell j k kept = same_kept {was = (was j).cell k} (degraded_copies (degraded j) k) kept

  -- what counted in a slot of which no place is lost counts
  counted : (j : ℕ) (t : Superblock) → ((k : ℕ) → k < 2 → ¬ IsLost ((is j).cell k)) → Counts g was j t → Counts g is j t
  counted j t whole counts = record {
    super =
        super_cells ((was j).cell) ((is j).cell) t (sym (same_cell j 0 (whole 0 (omega arith)))) (sym (same_cell j 1 (whole 1 (omega arith)))) counts.super;
    slot = counts.slot;
    identity = counts.identity;
  }

  -- that slot has failed
  b_failed : IsFailed gone g is alone.current b
  b_failed =
      elim (serves_or_failed gone g is alone.current b (slot_below g was b current is_current.counts) (known_none (is b).size)) [
        | inr failed ↦ failed
        | inl serving ↦
            let upto : current.array.epoch ≤ alone.current.array.epoch =
            current_upto g is alone.current b current alone.is_current (counted b current serving.places is_current.counts) in
            absurd (omega (arith, upto, older))
      ]

  -- THE SLOT PUT BACK

  abbrev restored : Image
  restored = with_slot is b (was b)

  here : restored b ≡ was b
  here = slot_here is b (was b)

  there : (i : ℕ) → i ≢ b → restored i ≡ is i
  there i other = slot_there is b (was b) i other

  restored_degraded : IsDegraded was restored
  restored_degraded i = slot_cases (λ n slot. IsDegradedSlot (was n) slot) is b (was b) i (degraded_same was b) (λ other. degraded i)

  restored_more : IsDegraded restored is
  restored_more i = slot_cases (λ n slot. IsDegradedSlot slot (is n)) is b (was b) i (degraded b) (λ other. degraded_same is i)

  counts_here : Counts g restored b current
  counts_here = record {
    super = subst (λ (slot : SlotImage). IsSuperOf slot.cell current) (sym here) is_current.counts.super;
    slot = is_current.counts.slot;
    identity = is_current.counts.identity;
  }

  restored_current : IsCurrent g restored current
  restored_current = record {
    counts = counts_here;
    newest = λ j t counts.
        elim (cases_eq j b) [
          | inl at ↦
              let same : t ≡ current =
              one_super ((restored b).cell) t current (subst (λ (n : ℕ). IsSuperOf ((restored n).cell) t) at counts.super) counts_here.super in
              inr (ap (λ (s : Superblock). s.array.epoch) same, omega (arith, at))
          | inr other ↦
              let upto : t.array.epoch ≤ alone.current.array.epoch =
              current_upto g is alone.current j t alone.is_current (counts_in g restored is j t (there j other) counts) in
              inl (omega (arith, upto, older))
        ];
  }

  -- a slot that served is live with it
  lives : (i : ℕ) → serves i → IsLive g restored current i
  lives i serving =
      let before : IsLive g was current i = shrunk i serving.live in
      record {
        below = before.below;
        marked = before.marked;
        super = before.super;
        counts =
            counts_in g is restored i before.super (sym (serves_there alone b (was b) b_failed i serving))
            (counted i before.super serving.places before.counts);
        joined = before.joined;
      }

  restored_alone : IsToleratedAlone g restored
  restored_alone =
      exchanged_tolerated alone b (was b) b_failed (λ i none. none) (λ i. known_none (is i).size)
      (others_before g was restored restored_degraded only) current restored_current lives

  -- WHAT IS LIVE

  -- in another slot than that of the current superblock
  joined_there : (j : ℕ) → j ≢ b → IsLive g is alone.current j → joined_at alone.current j ≡ joined_at current j
  joined_there j other live =
      let with_it : IsLive g restored current j =
      shrinks restored is (inr restored_alone) restored_degraded restored_more alone current alone.current j restored_current alone.is_current live in
      let same : live.super ≡ with_it.super =
      one_super ((is j).cell) live.super with_it.super live.counts.super
      (counts_in g restored is j with_it.super (there j other) with_it.counts).super in
      sym live.joined ∙ ap (λ (t : Superblock). t.joined) same ∙ with_it.joined

  -- in that one, where the current superblock hides none of another admission
  joined_here : IsLive g is alone.current b → joined_at alone.current b ≡ joined_at current b
  joined_here live =
      let before : IsLive g was current b = shrunk b live in
      let hidden : live.super.joined ≡ current.joined =
      orderly.hides b live.super current (bears_before (degraded_copies (degraded b)) (counts_bears g is b live.super live.counts))
      is_current.counts.super before.marked in
      sym live.joined ∙ hidden ∙ own_joined g was b current is_current.counts

  live_in_both : (j : ℕ) → IsLive g is alone.current j → (mark_at current j ≡ Live) × (joined_at alone.current j ≡ joined_at current j)
  live_in_both j live = ((shrunk j live).marked, joined)
    where
      joined : joined_at alone.current j ≡ joined_at current j
      joined =
          elim (cases_eq j b) [
            | inl at ↦
                subst (λ (n : ℕ). joined_at alone.current n ≡ joined_at current n) (sym at)
                (joined_here (subst (λ (n : ℕ). IsLive g is alone.current n) at live))
            | inr other ↦ joined_there j other live
          ]

pub live_as_current : (g : Geometry) (more less : Image) (current older : Superblock) → IsOrderly g more → OnlyShrinks g more
    → ((other : Geometry) → MayStand other more → other ≡ g) → IsDegraded more less → IsToleratedAlone g less → IsCurrent g more current
    → IsCurrent g less older → older.array.epoch < current.array.epoch → (j : ℕ) → IsLive g less older j
    → (mark_at current j ≡ Live) × (joined_at older j ≡ joined_at current j)
live_as_current g more less current older orderly shrinks only degraded alone is_current is_older earlier j live =
    let same : alone.current ≡ older = one_current g less alone.current older alone.is_current is_older in
    subst (λ (t : Superblock). (mark_at current j ≡ Live) × (joined_at t j ≡ joined_at current j)) same
    (live_in_both g more less current orderly shrinks only is_current degraded alone
    (subst (λ (t : Superblock). t.array.epoch < current.array.epoch) (sym same) earlier) j
    (subst (λ (t : Superblock). IsLive g less t j) (sym same) live))
