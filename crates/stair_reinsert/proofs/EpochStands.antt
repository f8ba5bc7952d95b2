-- While an epoch is established what a crash leaves is consistent by itself, with the seats that its own current superblock has; and in the
-- end the rack is, with those of what is current then.
use Rattle.std.proofs.Common.{ℕ, List, [], ◌∷◌, ◌≡◌, ◌<◌, Some, ap, inl, subst, sym, arith}
use Rattle.std.specs.Prelude.{IsTrue}
use Rattle.stair_model.specs.Geometry.{Geometry}
use Rattle.stair_model.specs.Slots.{HasSlot, Slots}
use Rattle.stair_rack.specs.Answers.{IsHistory}
use Rattle.stair_rack.specs.Crash.{CrashMayLeave, image_now}
use Rattle.stair_rack.specs.History.{Happening, Made, stopped}
use Rattle.stair_rack.specs.Media.{Image}
use Rattle.stair_rack.specs.Moments.{IsMoment}
use Rattle.stair_rack.specs.Offline.{IsOffline}
use Rattle.stair_rack.proofs.MomentLemmas.{moment_last, ran_before}
use Rattle.stair_rack.proofs.TidyLemmas.{history_on, history_tidy, left_past_end}
use Rattle.stair_super.specs.Superblock.{Superblock, mark_in}
use Rattle.stair_super.specs.declared.configuration.Configuration.{Configuration}
use Rattle.stair_member.specs.Aims.{IsAimed, mark_for}
use Rattle.stair_member.specs.Current.{IsCurrent, IsFailed}
use Rattle.stair_member.specs.Epochs.{IsIssuing, Issued}
use Rattle.stair_member.specs.Membership.{IsMissing, Membership, why_of}
use Rattle.stair_member.specs.Seats.{seats_of}
use Rattle.stair_member.specs.declared.aim.EpochChange.{EpochChange}
use Rattle.stair_member.specs.declared.why.Why.TheVariants as why
use Rattle.stair_member.proofs.SuperLemmas.{one_current, super_formed}
use Rattle.stair_state.specs.Holding.{CurrentMedia, IsBorneSince, IsConsistentBy, IsConsistentUnderReassembly}
use Rattle.stair_state.specs.Represents.{HaveSeats, Encodings}
use Rattle.stair_state.specs.State.{State}
use Rattle.stair_state.specs.Tolerance.{IsToleratedAlone}
use Rattle.stair_state.proofs.AgreeLemmas.{current_agree}
use Rattle.stair_state.proofs.AloneLemmas.{IsImageTidy, each_left, left_is, steady_made}
use Rattle.stair_state.proofs.HoldingLemmas.{current_since}
use Rattle.stair_state.proofs.StillLemmas.{steady_cells}
use Rattle.stair_invariant.specs.SeatSteps.{EachMayDrop}
use Rattle.stair_invariant.specs.Session.{seats_in}
use Rattle.stair_invariant.proofs.SeatLemmas.{IsListed, listed_super}
use Rattle.stair_invariant.proofs.Stamping.{live_before}
use Rattle.stair_reinsert.specs.Beginning.{BeginsWherever}
use Rattle.stair_state.proofs.AloneLemmas.{reseated}
use Rattle.stair_state.proofs.ReturnLemmas.{by_seats}
use Rattle.stair_reinsert.proofs.EpochLaws.{keeps, with_geometry}
use Rattle.stair_reinsert.proofs.KeptSince.{since_kept}
use Rattle.stair_reinsert.proofs.SessionBehind.{left_reassembled}
use Rattle.stair_reinsert.proofs.SteadyEpoch.{steady_epoch}

-- what held of all that was borne since the epoch, of what the member's names, and of what an epoch names that is for this, holds at each
-- moment
pub names_since : (s : State) (current_media : CurrentMedia) (since : ℕ) (aim : EpochChange) (gone : Slots) (m last : Membership) (old h new : List Happening)
    (image : Image) → BeginsWherever s current_media since aim m old → Issued aim gone m last old new → IsMoment old h new → CrashMayLeave h image
    → (Q : Configuration → Type 0) → ((x : Superblock) → IsBorneSince s.geometry since (image_now old) x → Q x.array) → Q m.array
    → ((named : Configuration) → IsAimed aim (HasSlot gone) m named → Q named) → (x : Superblock) → IsBorneSince s.geometry since image x → Q x.array
names_since s current_media since aim gone m last old h new image begins issued at left Q first present coming x =
    subst
    (λ (y : Geometry). BeginsWherever (with_geometry s y) current_media since aim m old
    → ((z : Superblock) → IsBorneSince y since (image_now old) z → Q z.array) → IsBorneSince y since image x → Q x.array) begins.geometry
    (λ b were there. since_kept current_media since aim m s.content s.in_doubt s.seats old b gone last h new issued at image left Q were present coming x there)
    begins first

-- DROPPED SLOTS

-- seats are as this array names them, or some are of slots that are dropped
Drops : Configuration → Configuration → Type 0
Drops was named = IsListed named → EachMayDrop (seats_in was) (seats_in named)

none_dropped : (was named : Configuration) → named ≡ was → Drops was named
unfolding Drops
none_dropped was named is_own listed j = inl (ap (λ (x : Configuration). seats_in x j) is_own)

-- so it is of each current superblock where it is of one
pub each_drops : (g : Geometry) (image : Image) (was : Configuration) (now : IsToleratedAlone g image)
    → EachMayDrop (seats_in was) (seats_in now.current.array) → (current : Superblock) → IsCurrent g image current
    → EachMayDrop (seats_in was) (seats_in current.array)
each_drops g image was now drops current is_current =
    subst (λ (x : Superblock). EachMayDrop (seats_in was) (seats_in x.array)) (one_current g image now.current current now.is_current is_current) drops

-- and a slot that wasn't live to the member isn't in what is current
pub unlive : (g : Geometry) (before new : List Happening) (m last : Membership) → m.array.geometry ≡ g
    → ((j : ℕ) → j < m.array.geometry.n → mark_in m.array j ≡ mark_for (why_of m j))
    → ((current : Superblock) → IsCurrent g (image_now new) current → EachMayDrop (seats_in m.array) (seats_in current.array)) → (current : Superblock)
    → IsCurrent g (image_now new) current → (j : ℕ) → j < g.n → ¬ (why_of m j ≡ why.Here) → IsMissing last j
    → IsFailed (IsOffline before new) g (image_now new) current j
unlive g before new m last same marks drops current is_current j below other missing =
    IsFailed.NotLive below
    (λ live.
    other
    (live_before m marks current.array j (subst (λ (x : Geometry). j < x.n) (sym same) below) (drops current is_current j) live.marked))

-- A consistent image that is within tolerance alone stands by itself for the state, with the seats of what is current.
module _ (s : State) (encodings : Encodings s) (current_media : CurrentMedia) (since : ℕ) (image : Image) (tidy : IsImageTidy image)
    (it : IsConsistentBy s encodings current_media since image) (alone : IsToleratedAlone s.geometry image) where
  one_seats : HaveSeats (Some (seats_in alone.current.array)) s.geometry (Made image ∷ [])
  one_seats other is_left current j only is_current =
      ap (λ (x : Superblock). seats_of x j)
      (one_current s.geometry image current alone.current
      (subst (λ (y : Image). IsCurrent s.geometry y current) (left_is image tidy other is_left) is_current) alone.is_current)

  pub alone_stands : IsConsistentUnderReassembly (record s { seats = Some (seats_in alone.current.array) }) (Made image ∷ [])
  alone_stands = record {
    current_media = current_media;
    since = since;
    is = record {
      encodings = reseated s (Some (seats_in alone.current.array)) encodings;
      each =
          each_left image tidy
          (IsConsistentBy (record s { seats = Some (seats_in alone.current.array) })
          (reseated s (Some (seats_in alone.current.array)) encodings) current_media since)
          (by_seats s (Some (seats_in alone.current.array)) encodings current_media since image it);
      seats = one_seats;
      steady = steady_made s.geometry image;
    };
  }

module _ (s : State) (current_media : CurrentMedia) (since : ℕ) (aim : EpochChange) (gone : Slots) (m last : Membership) (old new : List Happening)
    (begins : BeginsWherever s current_media since aim m old) (issued : Issued aim gone m last old new) where
  -- the state with these seats
  abbrev pub seated_as : Configuration → State
  seated_as array = record s { seats = Some (seats_in array) }

  module _ (c : List Happening) (at : IsMoment old c new) (image : Image) (left : CrashMayLeave c image) where
    history : IsHistory c
    history = history_on {allowed = IsIssuing issued.slots issued.editions} begins.history (ran_before {allowed = IsIssuing issued.slots issued.editions} issued.ran at)

    it : IsConsistentBy s begins.is.encodings current_media since image
    it = keeps s current_media since aim gone m last old c new image begins issued at left

    tidy : IsImageTidy image
    tidy = left_past_end c (history_tidy history) image left

    module _ (alone : IsToleratedAlone s.geometry image) where
      pub stands_alone : IsConsistentUnderReassembly (seated_as alone.current.array) (Made image ∷ [])
      stands_alone = alone_stands s begins.is.encodings current_media since image tidy it alone

      -- what is current then was named before, or is for this
      pub current_names : (Q : Configuration → Type 0) → ((x : Superblock) → IsBorneSince s.geometry since (image_now old) x → Q x.array) → Q m.array
          → ((named : Configuration) → IsAimed aim (HasSlot gone) m named → Q named) → Q alone.current.array
      current_names Q first present coming =
          names_since s current_media since aim gone m last old c new image begins issued at left Q first present coming alone.current
          (current_since s begins.is.encodings current_media since image it image (left_reassembled c history image left) alone alone.current alone.is_current)

      -- and where that was this array, and the epoch drops slots at most, it has its seats, or some are of slots that are dropped
      pub current_drops : (was : Configuration) → ((x : Superblock) → IsBorneSince s.geometry since (image_now old) x → x.array ≡ was) → m.array ≡ was
          → ((named : Configuration) → IsListed named → IsAimed aim (HasSlot gone) m named → EachMayDrop (seats_in was) (seats_in named))
          → EachMayDrop (seats_in was) (seats_in alone.current.array)
      unfolding Drops
      current_drops was names own drops =
          current_names (Drops was) (λ x there. none_dropped was x.array (names x there)) (none_dropped was m.array own)
          (λ named aimed listed. drops named listed aimed) (listed_super alone.current (super_formed _ alone.current alone.is_current.counts.super))

  -- nothing is unsynced at the end, so that all that a crash may leave has one current superblock
  module _ (going : ¬ IsTrue (stopped new)) (now : IsToleratedAlone s.geometry (image_now new)) where
    end_seats : HaveSeats (Some (seats_in now.current.array)) s.geometry new
    end_seats image left current j only is_current =
        ap (λ (x : Superblock). seats_of x j)
        (one_current s.geometry (image_now new) current now.current
        (current_agree s.geometry s.geometry.n (omega arith) image (image_now new) current
        (λ i k below place.
        steady_cells s.geometry new image
        (steady_epoch s.geometry aim gone m last old new begins.history begins.is.steady issued going) left i k below place) is_current)
        now.is_current)

    pub stands_ended : IsConsistentUnderReassembly (seated_as now.current.array) new
    stands_ended = record {
      current_media = current_media;
      since = since;
      is = record {
        encodings = reseated s (Some (seats_in now.current.array)) begins.is.encodings;
        each = λ image left.
            by_seats s (Some (seats_in now.current.array)) begins.is.encodings current_media since image
            (it new (moment_last issued.ran.more issued.ran.is) image left);
        seats = end_seats;
        steady = steady_epoch s.geometry aim gone m last old new begins.history begins.is.steady issued going;
      };
    }
