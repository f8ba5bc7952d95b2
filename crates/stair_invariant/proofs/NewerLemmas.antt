-- While a fence goes on: an image whose current superblock is of the member's epoch or a later one marks the slots as the member has them.
use Rattle.std.proofs.Common.{◌≡◌, ◌≢◌, ℕ, ◌<◌, ◌≤◌, List, ◌⊎◌, inl, inr, sym, ap, ◌∙◌, subst, arith, None, Some}
use Rattle.stair_model.specs.Geometry.{Geometry}
use Rattle.stair_model.specs.Slots.{Slots, HasSlot}
use Rattle.stair_rack.specs.History.{Happening}
use Rattle.stair_rack.specs.Media.{Image}
use Rattle.stair_super.specs.Superblock.{Superblock, joined_at, joined_in, mark_in}
use Rattle.stair_super.specs.declared.configuration.Configuration.{Configuration}
use Rattle.stair_super.specs.declared.mark.Mark.TheVariants as mark
use Rattle.stair_super.specs.declared.mark.Mark.TheVariants.{Live}
use Rattle.stair_member.specs.Aims.{IsAimed, mark_for}
use Rattle.stair_member.specs.Current.{HasMark, IsLive, IsRebuilding}
use Rattle.stair_member.specs.Fencing.{IsCopy, MayBear}
use Rattle.stair_member.specs.Membership.{Membership, why_of}
use Rattle.stair_member.specs.Reserve.{Bears}
use Rattle.stair_member.specs.declared.aim.EpochChange.TheVariants.{Fence}
use Rattle.stair_member.specs.declared.why.Why.{Why}
use Rattle.stair_member.specs.declared.why.Why.TheVariants.{Here, Rebuilding}
use Rattle.stair_member.proofs.EditionLemmas.{borne}
use Rattle.stair_member.proofs.SuperLemmas.{counts_bears}
use Rattle.stair_state.specs.Degraded.{IsDegraded}
use Rattle.stair_state.specs.Tolerance.{IsToleratedAlone}
use Rattle.stair_state.proofs.DegradedLemmas.{bears_before, degraded_copies, orderly_before}
use Rattle.stair_invariant.proofs.CameLemmas.{IsLeftBy, fence_ran}
use Rattle.stair_invariant.proofs.ChangingLemmas.{live_back, live_here}
use Rattle.stair_invariant.proofs.MidwayLemmas.{rebuilding_why}

-- less of an image, within tolerance, in which the member's epoch is current, or a later one
pub record IsNewer (m : Membership) (image x : Image) : Type 0 where
  pub degraded : IsDegraded image x
  pub alone : IsToleratedAlone m.array.geometry x
  pub newer : m.array.epoch ≤ alone.current.array.epoch

-- a slot whose medium is the one that the member's epoch means is marked by its reason
abbrev pub IsMarkedByReason : Membership → Image → Type 0
IsMarkedByReason m image = (j : ℕ) (s : Superblock) → j < m.array.geometry.n → Bears m.array.geometry j ((image j).cell) s
    → s.joined ≡ joined_in m.array j → mark_in m.array j ≡ mark_for (why_of m j)

-- no later epoch marks a slot Down that is here and bears something
abbrev pub DropsNone : Membership → Image → Type 0
DropsNone m image = (i j : ℕ) (a t : Superblock) → Bears m.array.geometry i ((image i).cell) a → m.drawn < a.array.epoch → j < m.array.geometry.n
    → why_of m j ≡ Here → Bears m.array.geometry j ((image j).cell) t → mark_in a.array j ≢ mark.Down

-- a configuration is what the member says, or what a later epoch names
pub data IsNamed (gone : Slots) (m : Membership) (array : Configuration) : Type 0 where
  Same : array ≡ m.array → IsNamed gone m array
  Anew : m.drawn < array.epoch → IsAimed Fence (HasSlot gone) m array → IsNamed gone m array

module _ {gone : Slots} {m last : Membership} {old h new : List Happening} {image : Image} (w : IsLeftBy gone m last old h new image) {x : Image}
    (n : IsNewer m image x) where
  abbrev g : Geometry
  g = m.array.geometry

  abbrev current : Superblock
  current = n.alone.current

  -- the current superblock was borne before
  pub current_borne : Bears m.array.geometry n.alone.current.slot ((image n.alone.current.slot).cell) n.alone.current
  current_borne = bears_before (degraded_copies (n.degraded current.slot)) (counts_bears g x current.slot current n.alone.is_current.counts)

  pub named : IsNamed gone m n.alone.current.array
  named =
      by
      (borne None m w.issued.slots w.issued.editions old h image current.slot current w.begun (fence_ran w) w.returned w.left current_borne)
    where
      by : MayBear g old current.slot current ⊎ IsCopy w.issued.slots w.issued.editions current.slot current → IsNamed gone m current.array
      by (inl was) =
          let knows = w.begun.known was.image was.left in
          let most : current.array.epoch ≤ m.array.epoch = knows.latest current.slot current was.bears in
          let newer : m.array.epoch ≤ current.array.epoch = n.newer in
          Same (knows.named current.slot current was.bears (omega (arith, most, newer)))
      by (inr copy) =
          let array : current.array ≡ copy.edition.array = ap (λ (s : Superblock). s.array) copy.is in
          elim (w.issued.each copy.edition copy.among).epoch [
            | inl same ↦ Same (array ∙ same)
            | inr later ↦
                Anew (subst (λ (a : Configuration). m.drawn < a.epoch) (sym array) later.0)
                (subst (λ (a : Configuration). IsAimed Fence (HasSlot gone) m a) (sym array) later.1)
          ]

  module _ (marked : IsMarkedByReason m image) where
    -- a slot that it marks is so to the member
    marks_of : (j : ℕ) (why : Why) → mark_for why ≢ mark.Down → HasMark m.array.geometry x n.alone.current (mark_for why) j
        → mark_for (why_of m j) ≡ mark_for why
    marks_of j why up is = by named
      where
        borne_so : Bears g j ((image j).cell) is.super
        borne_so = bears_before (degraded_copies (n.degraded j)) (counts_bears g x j is.super is.counts)

        by : IsNamed gone m current.array → mark_for (why_of m j) ≡ mark_for why
        by (Same same) =
            sym (marked j is.super is.below borne_so (is.joined ∙ ap (λ (a : Configuration). joined_in a j) same))
            ∙ ap (λ (a : Configuration). mark_in a j) (sym same) ∙ is.marked
        by (Anew later of) =
            elim (of.marks j is.below) [
              | inl so ↦ sym so ∙ is.marked
              | inr gone_is ↦ absurd (up (sym is.marked ∙ gone_is.1))
            ]

    pub live_is_here : (j : ℕ) → IsLive m.array.geometry x n.alone.current j → why_of m j ≡ Here
    live_is_here j live = live_here (why_of m j) (marks_of j Here (λ is. cc) live)

    pub rebuilt_is : (j : ℕ) → IsRebuilding m.array.geometry x n.alone.current j → why_of m j ≡ Rebuilding
    rebuilt_is j is = rebuilding_why (why_of m j) (marks_of j Rebuilding (λ same. cc) is)

    -- with the joined number that the member's epoch gives it
    pub joined_of : (j : ℕ) → IsLive m.array.geometry x n.alone.current j → joined_at n.alone.current j ≡ joined_in m.array j
    joined_of j live = by named
      where
        by : IsNamed gone m current.array → joined_at current j ≡ joined_in m.array j
        by (Same same) = ap (λ (a : Configuration). joined_in a j) same
        by (Anew later of) =
            of.joined j live.below (λ down. let both : Live ≡ mark.Down = sym live.marked ∙ down in absurd (cc))
            (λ is. let never : None ≡ Some j = is in absurd (cc))

    pub marked_live : (j : ℕ) → IsLive m.array.geometry x n.alone.current j → mark_in m.array j ≡ Live
    marked_live j live =
        marked j live.super live.below (bears_before (degraded_copies (n.degraded j)) (counts_bears g x j live.super live.counts))
        (live.joined ∙ joined_of j live) ∙ ap mark_for (live_is_here j live)

  -- A slot that is here, that the member's epoch marks Live, and that is live in less of the image with its joined number, is live.
  pub live_on : DropsNone m image → (less : Image) → IsDegraded x less → (after : Superblock) (j : ℕ) → IsLive m.array.geometry less after j
      → why_of m j ≡ Here → joined_at after j ≡ joined_in m.array j → mark_in m.array j ≡ Live → IsLive m.array.geometry x n.alone.current j
  live_on drops less lesser after j live here joined is_live =
      live_back g x less current after j lesser (orderly_before g image x n.degraded w.orderly) n.alone.is_current live mark_now joined_now
    where
      borne_so : Bears g j ((image j).cell) live.super
      borne_so =
          bears_before (degraded_copies (n.degraded j))
          (bears_before (degraded_copies (lesser j)) (counts_bears g less j live.super live.counts))

      mark_now : mark_in current.array j ≡ Live
      mark_now = by named
        where
          by : IsNamed gone m current.array → mark_in current.array j ≡ Live
          by (Same same) = ap (λ (a : Configuration). mark_in a j) same ∙ is_live
          by (Anew later of) =
              elim (of.marks j live.below) [
                | inl so ↦ so ∙ ap mark_for here
                | inr gone_is ↦ absurd (drops current.slot j current live.super current_borne later live.below here borne_so gone_is.1)
              ]

      joined_now : joined_at after j ≡ joined_at current j
      joined_now = by named
        where
          by : IsNamed gone m current.array → joined_at after j ≡ joined_at current j
          by (Same same) = joined ∙ sym (ap (λ (a : Configuration). joined_in a j) same)
          by (Anew later of) =
              joined
              ∙ sym
              (of.joined j live.below (λ down. let both : Live ≡ mark.Down = sym mark_now ∙ down in absurd (cc))
              (λ is. let never : None ≡ Some j = is in absurd (cc)))
