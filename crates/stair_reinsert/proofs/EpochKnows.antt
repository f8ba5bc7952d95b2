-- Once an epoch stands a session knows of all media what it is to know.
use Rattle.std.proofs.Common.{◌≡◌, ℕ, List, ap, Option, Some, inl, inr, subst, ◌<◌}
use Rattle.std.specs.Prelude.{IsTrue}
use Rattle.stair_model.specs.Slots.{Slots}
use Rattle.stair_rack.specs.Crash.{CrashMayLeave, image_now}
use Rattle.stair_rack.specs.History.{Happening, stopped}
use Rattle.stair_rack.specs.Media.{Image}
use Rattle.stair_rack.proofs.TidyLemmas.{history_on}
use Rattle.stair_super.specs.Superblock.{Superblock}
use Rattle.stair_super.specs.declared.configuration.Configuration.{Configuration}
use Rattle.stair_member.specs.Current.{IsCurrent}
use Rattle.stair_member.specs.Epochs.{IsIssuing, IsTaken}
use Rattle.stair_member.specs.Membership.{Membership, IsHere}
use Rattle.stair_member.specs.Seats.{Seats, seats_of}
use Rattle.stair_member.specs.declared.aim.EpochChange.{EpochChange}
use Rattle.stair_state.specs.Holding.{CurrentMedia, IsBorneSince, IsConsistentBy, IsCurrentMedium}
use Rattle.stair_state.specs.Reassembly.{IsReassembly}
use Rattle.stair_state.specs.State.{Change, Content, State}
use Rattle.stair_state.specs.Tolerance.{IsTolerated}
use Rattle.stair_state.proofs.HoldingLemmas.{current_since}
use Rattle.stair_state.proofs.OutsideLemmas.{tolerated_alone}
use Rattle.stair_invariant.specs.Returning.{KnowsMedia, current_media_of}
use Rattle.stair_invariant.specs.Session.{seats_in}
use Rattle.stair_state.proofs.AloneLemmas.{reseated}
use Rattle.stair_state.proofs.ReturnLemmas.{by_seats}
use Rattle.stair_reinsert.specs.Beginning.{AreCurrentMediaClosed, BeginsWherever, StandsWherever}
use Rattle.stair_reinsert.proofs.BehindSince.{closed_since}
use Rattle.stair_reinsert.proofs.KeptSince.{numbers, so}
use Rattle.stair_reinsert.proofs.SessionBehind.{left_reassembled}
use Rattle.stair_reinsert.proofs.SteadyEpoch.{steady_epoch}
use Rattle.stair_reinsert.proofs.OwnNewest.{own_newest}
use Rattle.stair_reinsert.proofs.StoodSince.{end, knows_then, latest, less, names_it, stands_since, taken_up}
use Rattle.stair_journal.specs.Gate.{ReadsClosed}
use Rattle.stair_model.specs.Device.{gate_sector}
use Rattle.stair_model.specs.Geometry.{Geometry}
use Rattle.stair_rack.proofs.CrashLemmas.{CrashMayLeave-now}
use Rattle.stair_member.specs.Aims.{admitted}

module _ (current_media : CurrentMedia) (since : ℕ) (aim : EpochChange) (m : Membership) (content : Content) (in_doubt : Option Change) (seats : Option Seats)
    (old : List Happening) where
  abbrev s : State
  s = record { geometry = m.array.geometry; content = content; in_doubt = in_doubt; seats = seats }

  module _ (begins : BeginsWherever s current_media since aim m old) (gone : Slots) (last : Membership) (before new : List Happening)
      (stands : StandsWherever aim gone m last old new) (closed : AreCurrentMediaClosed m.array.geometry current_media m old)
      (tolerated : IsTolerated m.array.geometry before new) (going : ¬ IsTrue (stopped new)) where
    module _ (image : Image) (left : CrashMayLeave new image) where
      it : IsConsistentBy s begins.is.encodings (current_media_of last) last.array.epoch image
      it = stands_since current_media since aim m content in_doubt seats old begins gone last new stands image left

      seat : (current : Superblock) (j : ℕ) → IsCurrent m.array.geometry image current → seats_of current j ≡ seats_in last.array j
      seat current j is_current =
          let there : IsBorneSince m.array.geometry last.array.epoch image current =
          current_since s begins.is.encodings (current_media_of last) last.array.epoch image it image
          (left_reassembled new (history_on {allowed = IsIssuing stands.issued.slots stands.issued.editions} begins.history stands.issued.ran) image left)
          (tolerated_alone m.array.geometry before new image tolerated left) current is_current in
          ap (λ (c : Configuration). seats_in c j)
          (names_it current_media since aim m content in_doubt seats old begins gone last new stands image left current there)

      closed_then : (to : Image) (j : ℕ) → IsReassembly image to → IsCurrentMedium m.array.geometry (current_media_of last) j ((to j).cell)
          → ReadsClosed m.array.geometry ((to j).cell gate_sector)
      closed_then to j reassembly current_medium =
          closed_since s begins.is.encodings current_media since aim m stands.issued.slots
          (so current_media since aim m content in_doubt seats old begins gone last new new stands.issued
          (end current_media since aim m content in_doubt seats old begins gone last new stands image left) image left).editions old new begins.history
          (so current_media since aim m content in_doubt seats old begins gone last new new stands.issued
          (end current_media since aim m content in_doubt seats old begins gone last new stands image left) image left).ran begins.behind image left
          (numbers current_media since aim m content in_doubt seats old begins gone last new new stands.issued
          (end current_media since aim m content in_doubt seats old begins gone last new stands image left) image left) closed to j reassembly
          (record {
            super = current_medium.super;
            bears = current_medium.bears;
            joined = less current_media since aim m content in_doubt seats old begins gone last new stands image left j current_medium.super.joined current_medium.joined;
          })

    -- who takes part then did so before, or was to be admitted
    taken_part : (j : ℕ) → IsHere last j → IsTaken (admitted aim) m j
    taken_part j here =
        elim (taken_up current_media since aim m content in_doubt seats old begins gone last new stands (image_now new) (CrashMayLeave-now new) j here) [
          | inl was ↦ inl was.0
          | inr joins ↦ inr (joins, subst (λ (y : Geometry). j < y.n) stands.established.stands.geometry here.below)
        ]

    pub knows_media : KnowsMedia (record s { seats = Some (seats_in last.array) }) last new
    knows_media = record {
      known = λ image left. knows_then current_media since aim m content in_doubt seats old begins gone last new stands image left;
      is = record {
        encodings = reseated s (Some (seats_in last.array)) begins.is.encodings;
        each = λ image left. by_seats s (Some (seats_in last.array)) begins.is.encodings (current_media_of last) last.array.epoch image (it image left);
        seats = λ image left current j only is_current. seat image left current j is_current;
        steady = steady_epoch m.array.geometry aim gone m last old new begins.history begins.is.steady stands.issued going;
      };
      own = λ j here on.
          own_newest aim gone m last old new begins.history begins.is.steady stands going j here on (λ used. begins.supers j (taken_part j here) used);
      latest = λ image left. latest current_media since aim m content in_doubt seats old begins gone last new stands image left;
      closed = λ image left to j. closed_then image left to j;
    }
