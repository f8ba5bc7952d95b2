-- While an epoch is established no medium is live that the one before left out.
use Rattle.std.proofs.Common.{◌≡◌, ◌∙◌, ◌⊎◌, ℕ, List, Some, inl, inr, refl, sym, ap}
use Rattle.stair_model.specs.Slots.{HasSlot, Slots}
use Rattle.stair_rack.specs.Crash.{CrashMayLeave, image_now}
use Rattle.stair_rack.specs.History.{Happening}
use Rattle.stair_rack.specs.Media.{Image}
use Rattle.stair_rack.specs.Moments.{IsMoment}
use Rattle.stair_rack.proofs.CrashLemmas.{CrashMayLeave-now}
use Rattle.stair_super.specs.Superblock.{Superblock, joined_in}
use Rattle.stair_super.specs.declared.configuration.Configuration.{Configuration}
use Rattle.stair_member.specs.Aims.{IsAimed}
use Rattle.stair_member.specs.Current.{IsCurrent, IsLive}
use Rattle.stair_member.specs.Epochs.{Issued}
use Rattle.stair_member.specs.Membership.{Membership, why_of}
use Rattle.stair_member.specs.declared.aim.EpochChange.{EpochChange}
use Rattle.stair_member.specs.declared.why.Why.TheVariants.{Here}
use Rattle.stair_state.specs.Holding.{IsBorneSince, IsConsistentBy}
use Rattle.stair_state.specs.Reassembly.{IsReassembly}
use Rattle.stair_state.specs.State.{State}
use Rattle.stair_state.specs.Tolerance.{IsToleratedAlone}
use Rattle.stair_state.proofs.HoldingLemmas.{current_since}
use Rattle.stair_invariant.specs.Returning.{KnowsMedia, current_media_of}
use Rattle.stair_reinsert.specs.Beginning.{BeginsWherever}
use Rattle.stair_reinsert.proofs.EpochLaws.{keeps}
use Rattle.stair_reinsert.proofs.EpochStands.{names_since}
use Rattle.stair_reinsert.proofs.ServingEpochs.{names_own}
use Rattle.stair_reinsert.proofs.StoodSince.{held_here}
use Rattle.stair_lives.specs.Stale.{NeverLiveWhileBegun}

module _ (s : State) (aim : EpochChange) (gone : Slots) (m start last : Membership) (old c new : List Happening)
    (begins : BeginsWherever s (current_media_of m) m.array.epoch aim start old) (issued : Issued aim gone start last old new) (at : IsMoment old c new)
    (image to : Image) (current : Superblock) (left : CrashMayLeave c image) (reassembly : IsReassembly image to) (alone : IsToleratedAlone s.geometry to)
    (is : IsCurrent s.geometry to current) where
  it : IsConsistentBy s begins.is.encodings (current_media_of m) m.array.epoch image
  it = keeps s (current_media_of m) m.array.epoch aim gone start last old c new image begins issued at left

  since : IsBorneSince s.geometry m.array.epoch image current
  since = current_since s begins.is.encodings (current_media_of m) m.array.epoch image it to reassembly alone current is

  pub meant_live : (j : ℕ) (live : IsLive s.geometry to current j) → (why_of m j ≡ Here) × (live.super.joined ≡ joined_in m.array j)
  meant_live j live =
      let held = held_here m j live.super.joined (it.live j current since live.marked ∙ ap (λ (n : ℕ). Some n) (sym live.joined)) in (held.here, held.number)

  old_or_begun : m.array.geometry ≡ s.geometry → KnowsMedia s m old → start.array ≡ m.array
      → (current.array ≡ start.array) ⊎ IsAimed aim (HasSlot gone) start current.array
  old_or_begun same knows began =
      names_since s (current_media_of m) m.array.epoch aim gone start last old c new image begins issued at left
      (λ (named : Configuration). (named ≡ start.array) ⊎ IsAimed aim (HasSlot gone) start named)
      (λ x there. inl (names_own s m old knows same (image_now old) (CrashMayLeave-now old) x there ∙ sym began)) (inl refl) (λ named aimed. inr aimed) current
      since

pub never_live_while_begun : NeverLiveWhileBegun
never_live_while_begun s aim gone m start last old c new same knows began begins issued at = (
  λ image to current j left reassembly alone is live.
      meant_live s aim gone m start last old c new begins issued at image to current left reassembly alone is j live,
  λ image to current left reassembly alone is.
      old_or_begun s aim gone m start last old c new begins issued at image to current left reassembly alone is same knows began,
)
