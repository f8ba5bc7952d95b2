-- Why a stale medium does no harm.
use Rattle.std.proofs.Common.{◌≡◌, ℕ, ◌<◌, List, Some, refl, sym, ap, ◌∙◌, subst}
use Rattle.stair_model.specs.Slots.{Slots}
use Rattle.stair_rack.specs.Crash.{CrashMayLeave}
use Rattle.stair_rack.specs.History.{Happening, Write}
use Rattle.stair_rack.specs.Media.{Image}
use Rattle.stair_rack.specs.Moments.{IsMoment}
use Rattle.stair_rack.specs.Sector.{Good}
use Rattle.stair_rack.specs.Stretch.{WasAnswered}
use Rattle.stair_rack.specs.declared.rack.Reply.{Reply}
use Rattle.stair_rack.proofs.MomentLemmas.{at_moment}
use Rattle.stair_rack.proofs.StretchLemmas.{answered_allowed}
use Rattle.stair_super.specs.Spelling.{SpellsSuperblock, spelled}
use Rattle.stair_super.specs.Superblock.{Superblock, joined_in}
use Rattle.stair_member.specs.Aims.{admitted}
use Rattle.stair_member.specs.Counting.{AllBut}
use Rattle.stair_member.specs.Current.{IsCurrent, IsLive}
use Rattle.stair_member.specs.Editions.{copy_of}
use Rattle.stair_member.specs.Epochs.{ASync, AWrite, AreReserved, IsIssuing, Issued, WasGiven}
use Rattle.stair_member.specs.Membership.{Membership, why_of}
use Rattle.stair_member.specs.declared.aim.EpochChange.{EpochChange}
use Rattle.stair_member.specs.declared.why.Why.TheVariants.{Here}
use Rattle.stair_member.proofs.CountingLemmas.{all_but_mapped}
use Rattle.stair_member.proofs.EditionLemmas.{holds_copy}
use Rattle.stair_member.proofs.SuperLemmas.{holds_once}
use Rattle.stair_state.specs.Holding.{IsBorneSince, IsConsistentBy, IsConsistentUnderReassembly}
use Rattle.stair_state.specs.Reassembly.{IsBorne, IsReassembly, Location}
use Rattle.stair_state.specs.State.{State}
use Rattle.stair_state.specs.Tolerance.{IsToleratedAlone}
use Rattle.stair_state.proofs.HoldingLemmas.{current_since}
use Rattle.stair_invariant.specs.Returning.{KnowsMedia, current_media_of}
use Rattle.stair_reinsert.specs.Drawn.{WasDrawn}
use Rattle.stair_reinsert.proofs.ServingEpochs.{names_own}
use Rattle.stair_reinsert.proofs.StoodSince.{held_here}

pub one_configuration : (s : State) (h : List Happening) → IsConsistentUnderReassembly s h → (image : Image) → CrashMayLeave h image → (i j : ℕ)
    (p q : Location) (a b : Superblock) → IsBorne s.geometry image i p a → IsBorne s.geometry image j q b → a.array.epoch ≡ b.array.epoch
    → a.array ≡ b.array
one_configuration s h it image left = (it.is.each image left).one_list

-- A DRAW BEFORE ITS EPOCH

-- the superblock that a write of the call spells is one of its editions
module _ (aim : EpochChange) (gone : Slots) (m last : Membership) (old h new : List Happening) (issued : Issued aim gone m last old new) (at : IsMoment old h new)
  where
    so : AreReserved (admitted aim) issued.slots issued.editions m old h
    so = at_moment {P = AreReserved (admitted aim) issued.slots issued.editions m old} issued.reserved at

    was_drawn : (epoch j : ℕ) → WasGiven issued.slots so.editions epoch m.array.epoch old h j → WasDrawn m epoch old h j
    was_drawn epoch j given = record {
      super = copy_of given.has.edition j;
      own = refl;
      draw = given.has.draws;
      names = given.has.reaches;
      place = given.has.place;
      place_in = given.has.place_in;
      got = given.got;
    }

    pub drawn_first : (j k : ℕ) (bytes : List ℕ) (answer : Reply) (super : Superblock) → WasAnswered j (Write k bytes answer) old h
        → SpellsSuperblock bytes super → m.array.epoch < super.array.epoch
        → AllBut m.array.geometry.n m.array.geometry.m (WasDrawn m super.array.epoch old h)
    drawn_first j k bytes answer super written spells later =
        by (answered_allowed {allowed = IsIssuing issued.slots so.editions} so.ran written)
      where
        by : IsIssuing issued.slots so.editions j (Write k bytes answer) → AllBut m.array.geometry.n m.array.geometry.m (WasDrawn m super.array.epoch old h)
        by (AWrite e l told has among formed small is) =
            all_but_mapped {P = λ i. WasGiven issued.slots so.editions super.array.epoch m.array.epoch old h i} {Q = WasDrawn m super.array.epoch old h}
            (λ i below given. was_drawn super.array.epoch i given)
            (subst (λ (n : ℕ). AllBut m.array.geometry.n m.array.geometry.m (λ i. WasGiven issued.slots so.editions n m.array.epoch old h i)) (sym epoch)
            (so.reserved e among (subst (λ (n : ℕ). m.array.epoch < n) epoch later)))
          where
            same : bytes ≡ spelled (copy_of e j)
            same = cc

            epoch : super.array.epoch ≡ e.array.epoch
            epoch =
                ap (λ (x : Superblock). x.array.epoch)
                (holds_once (Good bytes) super (copy_of e j) (record { bytes = bytes; good = refl; spells = spells })
                (holds_copy (Good bytes) e j formed (ap Good same)))
        by (ASync told has is) = absurd (cc)

-- WHAT IS CURRENT, AND LIVE

module _ (s : State) (m : Membership) (h : List Happening) (knows : KnowsMedia s m h) (same : m.array.geometry ≡ s.geometry) (image to : Image)
    (current : Superblock) (left : CrashMayLeave h image) (reassembly : IsReassembly image to) (alone : IsToleratedAlone s.geometry to)
    (is : IsCurrent s.geometry to current) where
  it : IsConsistentBy s knows.is.encodings (current_media_of m) m.array.epoch image
  it = knows.is.each image left

  since : IsBorneSince s.geometry m.array.epoch image current
  since = current_since s knows.is.encodings (current_media_of m) m.array.epoch image it to reassembly alone current is

  pub newest_current : current.array ≡ m.array
  newest_current = names_own s m h knows same image left current since

  pub live_meant : (j : ℕ) (live : IsLive s.geometry to current j) → (why_of m j ≡ Here) × (live.super.joined ≡ joined_in m.array j)
  live_meant j live =
      let held = held_here m j live.super.joined (it.live j current since live.marked ∙ ap (λ (n : ℕ). Some n) (sym live.joined)) in (held.here, held.number)
