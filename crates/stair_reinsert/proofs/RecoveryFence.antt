-- The fences of a recovery, of an array whose media come back: from the first one on nothing is written from the gate on, until the gates
-- of all live slots were read.
use Rattle.std.proofs.Common.{IsTrue, List, None, Option, ap, inl, inr, refl, subst, sym, ◌<◌, ◌∙◌, ◌∷◌, ◌≡◌, ◌⊎◌, [], ℕ, arith}
use Rattle.stair_model.specs.Device.{gate_sector}
use Rattle.stair_model.specs.Geometry.{Geometry}
use Rattle.stair_model.specs.Slots.{Slots}
use Rattle.stair_rack.specs.Answers.{IsBesideAttach, IsHistory, IsNoAttach, Ran, any_call}
use Rattle.stair_rack.specs.Crash.{CrashMayLeave, EachImage, image_now}
use Rattle.stair_rack.specs.History.{Attach, Happening, Made, Read, Sectors, SlotCall, Sync, Write, slot_state, stopped}
use Rattle.stair_rack.specs.Media.{Image}
use Rattle.stair_rack.specs.Moments.{IsMoment}
use Rattle.stair_rack.specs.Offline.{IsAttached, IsHeld, IsKept}
use Rattle.stair_rack.specs.Sector.{Cell, Leaves, Sector, content}
use Rattle.stair_rack.proofs.CrashLemmas.{CrashMayLeave-now, Leaves-settled, nothing_unsynced}
use Rattle.stair_rack.proofs.MomentLemmas.{moment_last, ran_any, ran_before, ran_join, ran_weakened}
use Rattle.stair_rack.proofs.OfflineLemmas.{held_on}
use Rattle.stair_rack.proofs.TidyLemmas.{history_on, history_tidy, left_past_end}
use Rattle.stair_super.specs.Superblock.{joined_in}
use Rattle.stair_member.specs.Aims.{mark_for}
use Rattle.stair_member.specs.Counting.{AtMost}
use Rattle.stair_member.specs.Epochs.{IsIssuing, Issued}
use Rattle.stair_member.specs.Membership.{IsHere, IsMissing, Membership}
use Rattle.stair_member.specs.Seats.{Seats}
use Rattle.stair_member.specs.declared.aim.EpochChange.TheVariants.{Fence}
use Rattle.stair_journal.specs.Gate.{ReadsClosed, IsOpenWith}
use Rattle.stair_state.specs.Holding.{CurrentMedia, IsConsistentBy, IsConsistentSince, IsConsistentUnderReassembly}
use Rattle.stair_state.specs.Recovering.{IsShut}
use Rattle.stair_state.specs.Redoing.{AttachesNone}
use Rattle.stair_state.specs.Represents.{AreSteady, Encodings, HaveSeats, no_write}
use Rattle.stair_state.specs.State.{Change, Content, State, changed_if}
use Rattle.stair_state.specs.Tolerance.{IsTolerated}
use Rattle.stair_state.proofs.AloneLemmas.{IsImageTidy, each_left, left_consistent, steady_made}
use Rattle.stair_state.proofs.OutsideLemmas.{steady_looks}
use Rattle.stair_state.proofs.ReturnLemmas.{at_image, came_looking, consistent_by_after}
use Rattle.stair_invariant.specs.InSession.{IsBehindPlaces, IsBesideEpochs}
use Rattle.stair_invariant.specs.Leading.{IsOpenAmid}
use Rattle.stair_invariant.specs.Opening.{opened_with}
use Rattle.stair_invariant.specs.Returning.{CoversMedia, HasOwnNewest, IsKnownWherever, current_media_of}
use Rattle.stair_invariant.specs.Session.{IsRebuiltIn}
use Rattle.stair_invariant.proofs.OpenWithLemmas.{amid_beside}
use Rattle.stair_invariant.proofs.OwnLaws.{newest_beside}
use Rattle.stair_invariant.proofs.Serving.{any_read, read_beside}
use Rattle.stair_reinsert.specs.Beginning.{BeginsWherever, IsBesideMember, SaysContent, StandsWherever}
use Rattle.stair_reinsert.specs.Behind.{ByMember, HasNumber, IsKnownBehind}
use Rattle.stair_reinsert.proofs.EpochLaws.{keeps, own, knows, covers}
use Rattle.stair_reinsert.proofs.GivenLemmas.{issuing_ran}
use Rattle.stair_reinsert.proofs.NameLemmas.{still_attached}
use Rattle.stair_reinsert.proofs.ReadsLead.{read_looks}
use Rattle.stair_reinsert.proofs.RecoveryBehind.{looked_behind, stands_behind, was_here}
use Rattle.stair_reinsert.proofs.SessionBegins.{session_begins}
use Rattle.stair_reinsert.proofs.SessionBehind.{left_reassembled}
use Rattle.stair_reinsert.proofs.SteadyEpoch.{steady_epoch}
use Rattle.stair_reinsert.proofs.StoodSince.{stands_since}
use Rattle.stair_reinsert.proofs.SupersSince.{known_so, latest_so}

-- the state with this geometry, seats aside
abbrev pub unseated : Geometry → Content → Option Change → State
unseated g kept change = record { geometry = g; content = kept; in_doubt = change; seats = None }

-- The rack is consistent by these holders since an epoch, and so are the media in use after their superblock places.
pub record IsConsistentBehind (kept : Content) (change : Option Change) (current_media : CurrentMedia) (since : ℕ) (m : Membership) (h : List Happening)
    (g : Geometry) : Type 0 where
  pub is : IsConsistentSince (unseated g kept change) current_media since h
  pub behind : IsKnownBehind (unseated g kept change) is.encodings current_media since Fence m h

-- In a recovery that began at `before` the member's epoch stands, and of all media it is known that they represent the state.
pub record IsUntouched (before : List Happening) (kept : Content) (change : Option Change) (m : Membership) (h : List Happening) : Type 0 where
  pub history : IsHistory h
  pub amid : IsOpenAmid before (opened_with m) h
  pub known : EachImage (IsKnownWherever None m (IsAttached h)) h
  pub stands : IsConsistentBehind kept change (current_media_of m) m.array.epoch m h m.array.geometry
  pub latest : CoversMedia m.array.geometry m.array.epoch h
  pub own : (j : ℕ) → IsHere m j → IsAttached h j → HasOwnNewest m h j
  pub says : SaysContent (unseated m.array.geometry kept change) Fence m

-- of the slots in use nothing is unsynced
abbrev pub AreSynced : Membership → List Happening → Type 0
AreSynced m h = (j k : ℕ) → IsHere m j → IsAttached h j → ((slot_state h j).sector k).since ≡ []

-- THE RACK STANDS FOR THE STATE

pub image_stands : (s : State) (encodings : Encodings s) (current_media : CurrentMedia) (since : ℕ) (image : Image) → s.seats ≡ None → IsImageTidy image
    → IsConsistentBy s encodings current_media since image → IsConsistentUnderReassembly s (Made image ∷ [])
image_stands s encodings current_media since image unseated_so tidy it = record {
  current_media = current_media;
  since = since;
  is = record {
    encodings = encodings;
    each = each_left image tidy (IsConsistentBy s encodings current_media since) it;
    seats = subst (λ (o : Option Seats). HaveSeats o s.geometry (Made image ∷ [])) (sym unseated_so) tt;
    steady = steady_made s.geometry image;
  };
}

module _ (before : List Happening) (kept : Content) (change : Option Change) (m : Membership) (h : List Happening) (is : IsUntouched before kept change m h) where
  pub untouched_stands : IsConsistentUnderReassembly (unseated m.array.geometry kept change) h
  untouched_stands = record { current_media = current_media_of m; since = m.array.epoch; is = is.stands.is }

  pub untouched_left : (image : Image) → CrashMayLeave h image → IsConsistentUnderReassembly (unseated m.array.geometry kept change) (Made image ∷ [])
  untouched_left image left = left_consistent (unseated m.array.geometry kept change) h image is.history untouched_stands left

  -- a fence begins on it
  pub untouched_begins : IsTolerated m.array.geometry before h
      → BeginsWherever (unseated m.array.geometry kept change) (current_media_of m) m.array.epoch Fence m h
  untouched_begins tolerated =
      session_begins (unseated m.array.geometry kept change) Fence before (opened_with m) h is.history is.amid.array refl refl (λ j never. cc) is.known
      is.stands.is tolerated is.own is.stands.behind is.says

-- A FENCE, whatever it answers

module _ (s : State) (unseated_so : s.seats ≡ None) (current_media : CurrentMedia) (since : ℕ) (gone : Slots) (m last : Membership) (old new : List Happening)
    (begins : BeginsWherever s current_media since Fence m old) (issued : Issued Fence gone m last old new) where
  -- what a crash leaves at a moment of it represents the state,
  pub fence_left : (c : List Happening) → IsMoment old c new → (image : Image) → CrashMayLeave c image → IsConsistentUnderReassembly s (Made image ∷ [])
  fence_left c at image left =
      image_stands s begins.is.encodings current_media since image unseated_so
      (left_past_end c
      (history_tidy
      (history_on {allowed = IsIssuing issued.slots issued.editions} begins.history (ran_before {allowed = IsIssuing issued.slots issued.editions} issued.ran at)))
      image left)
      (keeps s current_media since Fence gone m last old c new image begins issued at left)

  -- and so does the rack in the end
  pub fence_ended : ¬ IsTrue (stopped new) → IsConsistentUnderReassembly s new
  fence_ended going = record {
    current_media = current_media;
    since = since;
    is = record {
      encodings = begins.is.encodings;
      each = λ image left.
          keeps s current_media since Fence gone m last old new new image begins issued (moment_last issued.ran.more issued.ran.is) left;
      seats = subst (λ (o : Option Seats). HaveSeats o s.geometry new) (sym unseated_so) tt;
      steady =
          subst (λ (y : Geometry). AreSteady y new) begins.geometry
          (steady_epoch m.array.geometry Fence gone m last old new begins.history
          (subst (λ (y : Geometry). AreSteady y old) (sym begins.geometry) begins.is.steady) issued going);
    };
  }

-- ONCE ITS EPOCH STANDS

module _ (kept : Content) (change : Option Change) (current_media : CurrentMedia) (since : ℕ) (gone : Slots) (m last : Membership) (before old new : List Happening)
    (begins : BeginsWherever (unseated m.array.geometry kept change) current_media since Fence m old) (stands : StandsWherever Fence gone m last old new)
    (going : ¬ IsTrue (stopped new)) where
  same : last.array.geometry ≡ m.array.geometry
  same = stands.established.stands.geometry

  alone : (j : ℕ) → Ran (IsNoAttach j) old new
  alone j = issuing_ran stands.issued.slots stands.issued.editions j stands.issued.ran

  history_new : IsHistory new
  history_new = history_on {allowed = IsIssuing stands.issued.slots stands.issued.editions} begins.history stands.issued.ran

  behind_first : IsKnownBehind (unseated m.array.geometry kept change) begins.is.encodings (current_media_of last) last.array.epoch Fence last new
  behind_first = stands_behind current_media since m kept change None old begins gone last new stands

  stands_first : IsConsistentBehind kept change (current_media_of last) last.array.epoch last new m.array.geometry
  stands_first = record {
    is = record {
      encodings = begins.is.encodings;
      each = λ image left. stands_since current_media since Fence m kept change None old begins gone last new stands image left;
      seats = tt;
      steady = steady_epoch m.array.geometry Fence gone m last old new begins.history begins.is.steady stands.issued going;
    };
    behind = behind_first;
  }

  pub synced : AreSynced last new
  synced j k here on =
      by (still_attached j (alone j) on).1
      (stands.on_disk.synced j k here ((history_tidy begins.history).attached j (still_attached j (alone j) on).0))
    where
      by : (slot_state new j).pulls ≡ (slot_state old j).pulls → IsKept (slot_state old j).pulls k (λ (x : Sector). x.since ≡ []) (slot_state new j)
          → ((slot_state new j).sector k).since ≡ []
      by pulls (IsKept.Here at some (inl harmed)) = ap (λ (x : Sector). x.since) harmed
      by pulls (IsKept.Here at some (inr is)) = is
      by pulls (IsKept.Lost less) = absurd (omega (arith, less, pulls))

  own_then : (j : ℕ) → IsHere last j → IsAttached new j → HasOwnNewest last new j
  own_then j here on =
      own (unseated m.array.geometry kept change) current_media since Fence gone m last old new j begins stands going here on

  pub stands_untouched : IsOpenAmid before (opened_with last) new → IsUntouched before kept change last new
  stands_untouched amid = record {
    history = history_new;
    amid = amid;
    known = knows (unseated m.array.geometry kept change) current_media since Fence gone m last old new begins stands;
    stands = subst (IsConsistentBehind kept change (current_media_of last) last.array.epoch last new) (sym same) stands_first;
    latest =
        subst (λ (y : Geometry). CoversMedia y last.array.epoch new) (sym same)
        (covers (unseated m.array.geometry kept change) current_media since Fence gone m last old new begins stands);
    own = own_then;
    says = record {
      frozen = frozen_so begins.says.frozen;
      label = label_so begins.says.label;
      frozen_new = frozen_so begins.says.frozen;
      label_new = label_so begins.says.label;
    };
  }
    where
      frozen_so : (m.array.frozen ≡ kept.frozen) ⊎ (m.array.frozen ≡ (changed_if change kept).frozen)
          → (last.array.frozen ≡ kept.frozen) ⊎ (last.array.frozen ≡ (changed_if change kept).frozen)
      frozen_so (inl is) = inl (stands.established.aimed_at.frozen ∙ is)
      frozen_so (inr is) = inr (stands.established.aimed_at.frozen ∙ is)

      label_so : (m.array.label ≡ kept.label) ⊎ (m.array.label ≡ (changed_if change kept).label)
          → (last.array.label ≡ kept.label) ⊎ (last.array.label ≡ (changed_if change kept).label)
      label_so (inl is) = inl (stands.established.aimed_at.label ∙ is)
      label_so (inr is) = inr (stands.established.aimed_at.label ∙ is)

  -- WHAT LASTS, after the first fence of a session

  module _ (began : Ran any_call before old) (held : (j : ℕ) → IsHere m j → IsHeld before old j) where
    gate_shut : (j : ℕ) → IsRebuiltIn last j → IsAttached new j → ReadsClosed m.array.geometry (((slot_state new j).sector gate_sector).base)
    gate_shut j rebuilt on redo opened =
        behind_first.rebuilding (image_now new) (CrashMayLeave-now new) (image_now new) j (joined_in last.array j) redo
        (left_reassembled new history_new (image_now new) (CrashMayLeave-now new))
        (ByMember
        (stands.established.stands.marks j (subst (λ (y : Geometry). j < y.n) same rebuilt.below) ∙ ap mark_for rebuilt.why) refl)
        (HasNumber.InUse (record { below = rebuilt.below; why = inr rebuilt.why }) on refl refl (λ k. inl refl))
        (subst (λ (c : Cell). IsOpenWith m.array.geometry c redo)
        (sym
        (ap (λ (x : Sector). content x)
        (nothing_unsynced ((slot_state new j).sector gate_sector)
        (synced j gate_sector (record { below = rebuilt.below; why = inr rebuilt.why }) on)))) opened)

    shut_first : (j : ℕ) → IsRebuiltIn last j → IsAttached new j → IsShut m.array.geometry new new j
    shut_first j rebuilt on =
        IsKept.Here refl ((history_tidy history_new).attached j on)
        (inr
        (subst (λ (x : Sector). Leaves (ReadsClosed m.array.geometry) (ReadsClosed m.array.geometry) x)
        (sym
        (nothing_unsynced ((slot_state new j).sector gate_sector)
        (synced j gate_sector (record { below = rebuilt.below; why = inr rebuilt.why }) on)))
        (Leaves-settled (((slot_state new j).sector gate_sector).base) (gate_shut j rebuilt on) (gate_shut j rebuilt on))))

    pub first_amid : IsOpenAmid before (opened_with last) new
    first_amid = record {
      array = record {
        member = stands.member;
        marks = λ j below. stands.established.stands.marks j (subst (λ (y : Geometry). j < y.n) same below);
        enough = subst (λ (y : Geometry). AtMost y.m (IsMissing last)) (sym same) stands.established.stands.enough;
        rebuilds = λ rebuild never. absurd (cc);
      };
      ran = ran_join {allowed = any_call} began (ran_any {allowed = IsIssuing stands.issued.slots stands.issued.editions} stands.issued.ran);
      held = λ j here.
          held_on {allowed = IsIssuing stands.issued.slots stands.issued.editions} j stands.issued.ran
          (held j (was_here current_media since m kept change None old begins gone last new stands j here).0);
      own = λ j here on. (own_then j here on).own;
      shut = λ j rebuilt on. subst (λ (y : Geometry). IsShut y new new j) (sym same) (shut_first j rebuilt on);
    }

-- AFTER READS

module _ (before : List Happening) (kept : Content) (change : Option Change) (m : Membership) (old new : List Happening)
    (is : IsUntouched before kept change m old) (ran : Ran any_read old new) where
  beside : Ran (IsBesideMember m) old new
  beside = ran_weakened {allowed = any_read} {more = IsBesideMember m} (read_looks m) ran

  looks : Ran no_write old new
  looks = ran_weakened {allowed = IsBesideMember m} {more = no_write} (λ j c may. may.writes) beside

  pub epochs : Ran (IsBesideEpochs m) old new
  epochs =
      ran_weakened {allowed = any_read} {more = IsBesideEpochs m} (λ j c may. (read_beside (opened_with m) j c may).session.epochs) ran

  places : Ran IsBehindPlaces old new
  places = ran_weakened {allowed = IsBesideEpochs m} {more = IsBehindPlaces} (λ j c may. may.behind) epochs

  pub apart : (j : ℕ) → Ran (IsNoAttach j) old new
  apart j = ran_weakened {allowed = any_read} {more = IsNoAttach j} (λ i c may same. none i c may) ran
    where
      none : (i : ℕ) (c : SlotCall) → any_read i c → IsBesideAttach c
      none i (Attach answer) may = absurd may
      none i (Sectors size) may = absurd may
      none i (Read k answer) may = tt
      none i (Write k bytes answer) may = absurd may
      none i (Sync answer) may = absurd may

  each_then : (image : Image) → CrashMayLeave new image
      → IsConsistentBy (unseated m.array.geometry kept change) is.stands.is.encodings (current_media_of m) m.array.epoch image
  each_then image left =
      let from = λ (j : ℕ). at_image (came_looking j looks) (image j) (left j) in
      consistent_by_after (unseated m.array.geometry kept change) is.stands.is.encodings (current_media_of m) m.array.epoch old image from
      (is.stands.is.each (λ j. (from j).was) (λ j. (from j).left))

  pub reads_untouched : IsUntouched before kept change m new
  reads_untouched = record {
    history = history_on {allowed = any_read} is.history ran;
    amid = amid_beside before (opened_with m) old new is.amid is.history epochs;
    known = λ image left.
        known_so m old new is.history is.stands.is.steady places (λ j here. apart j) (is.known (image_now old) (CrashMayLeave-now old)) image left;
    stands = record {
      is = record {
        encodings = is.stands.is.encodings;
        each = λ image left. each_then image left;
        seats = tt;
        steady = steady_looks m.array.geometry old new looks is.stands.is.steady;
      };
      behind =
          looked_behind m old new is.history beside (unseated m.array.geometry kept change) is.stands.is.encodings (current_media_of m) m.array.epoch
          is.stands.is.steady is.stands.behind;
    };
    latest = λ image left. latest_so m.array.geometry old new is.stands.is.steady places image left m.array.epoch is.latest;
    own = λ j here on.
        newest_beside m old new is.amid.array.member is.history
        (ran_weakened {allowed = IsBesideEpochs m} {more = λ i c. IsBehindPlaces i c × AttachesNone (IsHere m) i c}
        (λ i c may. (may.behind, may.attaches)) epochs) j here on (is.own j here);
    says = is.says;
  }
