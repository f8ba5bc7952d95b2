-- What a survey found of the images from which those of the first fence after it come.
use Rattle.std.proofs.Common.{◌≡◌, ℕ, ◌<◌, ◌≤◌, List, ◌⊎◌, inl, refl, sym, ◌∙◌, subst, arith}
use Rattle.stair_model.specs.Device.{gate_sector}
use Rattle.stair_model.specs.Geometry.{Geometry}
use Rattle.stair_model.specs.Slots.{Slots}
use Rattle.stair_rack.specs.Answers.{Ran, any_call}
use Rattle.stair_rack.specs.History.{Happening, slot_state}
use Rattle.stair_rack.specs.Media.{Image}
use Rattle.stair_rack.specs.Offline.{WasPulled}
use Rattle.stair_rack.specs.Sector.{Damaged, MayLeave, damaged}
use Rattle.stair_rack.proofs.CrashLemmas.{settled_left}
use Rattle.stair_rack.proofs.MomentLemmas.{ran_any, ran_join}
use Rattle.stair_rack.proofs.TidyLemmas.{HasSize, size_on}
use Rattle.stair_super.specs.Superblock.{Superblock}
use Rattle.stair_member.specs.Asked.{LeavesSectors}
use Rattle.stair_member.specs.Current.{IsCurrent, IsLive}
use Rattle.stair_member.specs.Epochs.{IsIssuing}
use Rattle.stair_member.specs.Membership.{IsHere, Membership, why_of}
use Rattle.stair_member.specs.Reserve.{Bears}
use Rattle.stair_member.specs.declared.why.Why.TheVariants.{Here}
use Rattle.stair_member.proofs.EditionLemmas.{none_held_there}
use Rattle.stair_state.specs.Degraded.{Blank, IsDegraded, IsDegradedSlot, Stays, Taken}
use Rattle.stair_state.specs.Forms.{HasGate, RepresentsBy}
use Rattle.stair_state.specs.Represents.{ImageRepresents, IsLargeEnough, Left}
use Rattle.stair_state.specs.State.{State}
use Rattle.stair_state.specs.Surveyed.{Bare, IsOwnOrBare, Own}
use Rattle.stair_state.proofs.DegradedLemmas.{bears_before, degraded_copies}
use Rattle.stair_state.proofs.FormLemmas.{represents_still}
use Rattle.stair_state.proofs.OutsideLemmas.{ComesFrom, comes_from, unwritten_ran}
use Rattle.stair_invariant.specs.Opening.{IsFoundFor}
use Rattle.stair_invariant.proofs.CameLemmas.{IsLeftBy, came_behind, copied_again, fence_ran, origin, own_issuing}

module _ {s : State} {m last : Membership} {before old mid h new : List Happening} {gone : Slots} {image : Image}
    (found : IsFoundFor s m before old mid) (w : IsLeftBy gone m last mid h new image) where
  abbrev g : Geometry
  g = m.array.geometry

  -- the image that it comes from, of those before the survey
  pub first : ComesFrom old (origin w).was
  first = comes_from old mid (unwritten_ran found.ran) found.returned (origin w).was (origin w).left

  pub first_represents : ImageRepresents s found.represents.encodings first.was
  first_represents = found.represents.each first.was (Left first.left)

  pub first_current : IsCurrent g first.was first_represents.current
  first_current = subst (λ (x : Geometry). IsCurrent x first.was first_represents.current) found.geometry first_represents.is_current

  -- a slot that is here was live in it
  pub first_live : (j : ℕ) → j < g.n → why_of m j ≡ Here → IsLive s.geometry first.was first_represents.current j
  first_live j below here =
      subst (λ (x : Geometry). IsLive x first.was first_represents.current j) (sym found.geometry)
      (found.live j below here first.was first.left first_represents.current first_current)

  -- after the superblock places each cell is as it was, or damaged
  pub first_behind : (j k : ℕ) → gate_sector ≤ k → ((image j).cell k ≡ (first.was j).cell k) ⊎ ((image j).cell k ≡ Damaged)
  first_behind j k past =
      copied_again (degraded_copies (first.degraded j) k)
      (came_behind w.issued.slots w.issued.editions j ((origin w).was j) (image j) ((origin w).issued j) k past)

  -- All slots that are live to the member have one form in less of it, tolerated or not.
  pub form : (x : Image) → IsDegraded image x → (live : ℕ → Type 0) → ((j : ℕ) → live j → (j < m.array.geometry.n) × (why_of m j ≡ Here))
      → HasGate live x → RepresentsBy s.geometry found.represents.encodings.old found.represents.encodings.new live x
  form x degraded live within gate =
      represents_still s.geometry (IsLive s.geometry first.was first_represents.current) live first.was x
      (λ j on. let is = within j on in first_live j is.0 is.1)
      (record { each = λ j k on past. copied_again (first_behind j k past) (degraded_copies (degraded j) k) })
      found.represents.encodings.old found.represents.encodings.new gate first_represents.form

  -- SLOTS THAT TAKE PART

  -- one has the medium that it had before the survey, or is bare
  pub own_still : (j : ℕ) → IsHere m j → IsOwnOrBare (slot_state old j) (slot_state h j)
  own_still j here =
      own_issuing w.issued.slots w.issued.editions (slot_state old j) j mid h (fence_ran w) w.returned (found.own j here)

  any_ran : Ran any_call old h
  any_ran =
      ran_join {allowed = any_call} (ran_any {allowed = LeavesSectors} found.ran)
      (ran_any {allowed = IsIssuing w.issued.slots w.issued.editions} (fence_ran w))

  -- one that bears a superblock isn't bare
  bare_none : (j : ℕ) (t : Superblock) → ((k : ℕ) → (slot_state h j).sector k ≡ damaged) → ¬ Bears g j ((image j).cell) t
  bare_none j t bare bears =
      none_held_there ((image j).cell bears.place) t
      (settled_left Damaged ((image j).cell bears.place)
      (subst (λ x. MayLeave x ((image j).cell bears.place)) (bare bears.place) ((w.left j).each bears.place))) bears.holds

  -- so it has its medium still
  pub never_pulled : (j : ℕ) (t : Superblock) → IsHere m j → Bears g j ((image j).cell) t → ¬ WasPulled old h j
  never_pulled j t here bears pulled = by (own_still j here)
    where
      by : IsOwnOrBare (slot_state old j) (slot_state h j) → ⊥
      by (Own was same some) = omega (arith, same, pulled)
      by (Bare off bare) = bare_none j t bare bears

  size_same : (j : ℕ) (t : Superblock) → IsHere m j → Bears g j ((image j).cell) t → (slot_state h j).size ≡ (slot_state old j).size
  size_same j t here bears = by (own_still j here)
    where
      by : IsOwnOrBare (slot_state old j) (slot_state h j) → (slot_state h j).size ≡ (slot_state old j).size
      by (Own was same some) =
          elim (size_on {allowed = any_call} (slot_state old j).pulls (slot_state old j).size j was any_ran (HasSize.Same refl refl)) [
            | HasSize.Same pulls is ↦ is
            | HasSize.Other less ↦ absurd (never_pulled j t here bears less)
          ]
      by (Bare off bare) = absurd (bare_none j t bare bears)

  -- and one that is live to the member is large enough, also in less of the image
  pub large_still : (x : Image) → IsDegraded image x → (j : ℕ) (t : Superblock) → j < g.n → why_of m j ≡ Here → Bears g j ((x j).cell) t
      → IsLargeEnough s.geometry (x j).size
  large_still x degraded j t below here bears =
      subst (IsLargeEnough s.geometry) (sym same) (first_represents.full j (first_live j below here))
    where
      borne : Bears g j ((image j).cell) t
      borne = bears_before (degraded_copies (degraded j)) bears

      stays : IsDegradedSlot (image j) (x j) → (x j).size ≡ (image j).size
      stays (Taken none all) = absurd (none_held_there ((x j).cell bears.place) t (all bears.place) bears.holds)
      stays (Blank size is all) = absurd (none_held_there ((x j).cell bears.place) t (all bears.place) bears.holds)
      stays (Stays same copies) = same

      same : (x j).size ≡ (first.was j).size
      same =
          stays (degraded j) ∙ (w.left j).size ∙ size_same j t (record { below = below; why = inl here }) borne ∙ sym (first.left j).size
