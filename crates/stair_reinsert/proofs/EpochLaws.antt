-- The laws of a call that establishes an epoch, of a state's own geometry.
use Rattle.std.proofs.Common.{◌≡◌, ◌≢◌, ℕ, ◌<◌, List, inl, inr, refl, subst, None, Some}
use Rattle.std.specs.Prelude.{IsTrue}
use Rattle.stair_model.specs.Geometry.{Geometry}
use Rattle.stair_model.specs.Slots.{Slots}
use Rattle.stair_rack.specs.Answers.{IsHistory}
use Rattle.stair_rack.specs.Crash.{CrashMayLeave, EachImage, image_now}
use Rattle.stair_rack.specs.History.{Happening, stopped}
use Rattle.stair_rack.specs.Media.{Image}
use Rattle.stair_rack.specs.Moments.{IsMoment}
use Rattle.stair_rack.specs.Offline.{IsAttached}
use Rattle.stair_rack.specs.RackState.{RackState}
use Rattle.stair_member.specs.Aims.{admitted}
use Rattle.stair_member.specs.Epochs.{Issued}
use Rattle.stair_member.specs.Establishing.{Establishes}
use Rattle.stair_member.specs.Membership.{IsHere, Membership}
use Rattle.stair_member.specs.declared.aim.EpochChange.{EpochChange}
use Rattle.stair_member.specs.declared.aim.EpochChange.TheVariants.{Promote}
use Rattle.stair_state.specs.Blocks.{AreEncodingsOf, Codewords}
use Rattle.stair_state.specs.Holding.{CurrentMedia, IsConsistentBy}
use Rattle.stair_state.specs.State.{State, new_content}
use Rattle.stair_state.specs.Tolerance.{IsTolerated}
use Rattle.stair_invariant.specs.Session.{ArrayState, IsOpenWith, seats_in}
use Rattle.stair_invariant.specs.Returning.{CoversMedia, HasOwnNewest, IsKnownWherever, KnowsMedia, current_media_of}
use Rattle.stair_reinsert.specs.Beginning.{AreCurrentMediaClosed, BeginsWherever, SaysContent, StandsWherever}
use Rattle.stair_reinsert.specs.Behind.{IsKnownBehind}
use Rattle.stair_reinsert.proofs.SessionBegins.{session_begins}
use Rattle.stair_reinsert.proofs.SessionBehind.{session_behind, session_closed}
use Rattle.stair_reinsert.proofs.OwnNewest.{own_newest}
use Rattle.stair_rack.proofs.CrashLemmas.{CrashMayLeave-now}
use Rattle.stair_reinsert.proofs.EpochKnows.{knows_media}
use Rattle.stair_invariant.proofs.OpenLaws.{goes_on_within}
use Rattle.stair_reinsert.proofs.KeptSince.{kept_since}
use Rattle.stair_reinsert.proofs.StoodSince.{knows_then, latest, stands_since, taken_up}

abbrev pub with_geometry : State → Geometry → State
with_geometry s y = record { geometry = y; content = s.content; in_doubt = s.in_doubt; seats = s.seats }

pub keeps : (s : State) (current_media : CurrentMedia) (since : ℕ) (aim : EpochChange) (gone : Slots) (m last : Membership) (old h new : List Happening) (image : Image)
    (begins : BeginsWherever s current_media since aim m old) → Issued aim gone m last old new → IsMoment old h new → CrashMayLeave h image
    → IsConsistentBy s begins.is.encodings current_media since image
keeps s current_media since aim gone m last old h new image begins issued at left =
    subst
    (λ (y : Geometry). (b : BeginsWherever (with_geometry s y) current_media since aim m old)
    → IsConsistentBy (with_geometry s y) b.is.encodings current_media since image) begins.geometry
    (λ b. kept_since current_media since aim m s.content s.in_doubt s.seats old b gone last h new issued at image left) begins

pub stands : (s : State) (current_media : CurrentMedia) (since : ℕ) (aim : EpochChange) (gone : Slots) (m last : Membership) (old new : List Happening) (image : Image)
    (begins : BeginsWherever s current_media since aim m old) → StandsWherever aim gone m last old new → CrashMayLeave new image
    → IsConsistentBy s begins.is.encodings (current_media_of last) last.array.epoch image
stands s current_media since aim gone m last old new image begins stood left =
    subst
    (λ (y : Geometry). (b : BeginsWherever (with_geometry s y) current_media since aim m old)
    → IsConsistentBy (with_geometry s y) b.is.encodings (current_media_of last) last.array.epoch image) begins.geometry
    (λ b. stands_since current_media since aim m s.content s.in_doubt s.seats old b gone last new stood image left) begins

pub covers : (s : State) (current_media : CurrentMedia) (since : ℕ) (aim : EpochChange) (gone : Slots) (m last : Membership) (old new : List Happening)
    → BeginsWherever s current_media since aim m old → StandsWherever aim gone m last old new → CoversMedia s.geometry last.array.epoch new
covers s current_media since aim gone m last old new begins stood =
    subst
    (λ (y : Geometry). BeginsWherever (with_geometry s y) current_media since aim m old → CoversMedia y last.array.epoch new) begins.geometry
    (λ b image left. latest current_media since aim m s.content s.in_doubt s.seats old b gone last new stood image left) begins

pub knows : (s : State) (current_media : CurrentMedia) (since : ℕ) (aim : EpochChange) (gone : Slots) (m last : Membership) (old new : List Happening)
    → BeginsWherever s current_media since aim m old → StandsWherever aim gone m last old new → EachImage (IsKnownWherever None last (IsAttached new)) new
knows s current_media since aim gone m last old new begins stood =
    subst
    (λ (y : Geometry). BeginsWherever (with_geometry s y) current_media since aim m old → EachImage (IsKnownWherever None last (IsAttached new)) new)
    begins.geometry (λ b image left. knows_then current_media since aim m s.content s.in_doubt s.seats old b gone last new stood image left) begins

pub established : (aim : EpochChange) (m last : Membership) (old new : RackState) (establishes : Establishes aim m last None old new) → IsTrue new.honest
    → ((slot : ℕ) → aim ≡ Promote slot → IsHere m slot) → StandsWherever aim establishes.gone m last old.history new.history
established aim m last old new establishes honest promoted = record {
  issued = establishes.issued honest;
  member = establishes.rules;
  established = establishes.done refl;
  dropped = establishes.were_gone.dropped;
  among = establishes.among honest refl;
  on_disk = establishes.on_disk honest refl;
  promoted = promoted;
}

pub goes_on : (s : State) (current_media : CurrentMedia) (since : ℕ) (aim : EpochChange) (gone : Slots) (m last : Membership) (before old new : List Happening)
    → BeginsWherever s current_media since aim m old → StandsWherever aim gone m last old new → AreCurrentMediaClosed s.geometry current_media m old
    → IsTolerated s.geometry before new → KnowsMedia (record s { seats = Some (seats_in last.array) }) last new
goes_on s current_media since aim gone m last before old new begins stood closed tolerated =
    subst
    (λ (y : Geometry). BeginsWherever (with_geometry s y) current_media since aim m old → AreCurrentMediaClosed y current_media m old → IsTolerated y before new
    → KnowsMedia (record (with_geometry s y) { seats = Some (seats_in last.array) }) last new) begins.geometry
    (λ b shut within.
    knows_media current_media since aim m s.content s.in_doubt s.seats old b gone last before new stood shut within
    (goes_on_within m.array.geometry before new within)) begins closed tolerated

pub own : (s : State) (current_media : CurrentMedia) (since : ℕ) (aim : EpochChange) (gone : Slots) (m last : Membership) (old new : List Happening) (j : ℕ)
    → BeginsWherever s current_media since aim m old → StandsWherever aim gone m last old new → ¬ IsTrue (stopped new) → IsHere last j → IsAttached new j
    → HasOwnNewest last new j
own s current_media since aim gone m last old new j begins stood going here on =
    subst (λ (y : Geometry). BeginsWherever (with_geometry s y) current_media since aim m old → HasOwnNewest last new j) begins.geometry
    (λ b.
    own_newest aim gone m last old new b.history b.is.steady stood going j here on
    (λ used.
    b.supers j
    (elim (taken_up current_media since aim m s.content s.in_doubt s.seats old b gone last new stood (image_now new) (CrashMayLeave-now new) j here) [
      | inl was ↦ inl was.0
      | inr joins ↦ inr (joins, subst (λ (y : Geometry). j < y.n) stood.established.stands.geometry here.below)
    ]) used)) begins

-- A SESSION

pub begins : (s : State) (aim : EpochChange) (before : List Happening) (a : ArrayState) (words : Codewords) (h : List Happening) → IsHistory h
    → IsOpenWith before a words h → a.member.array.geometry ≡ s.geometry → AreEncodingsOf s.geometry s.content.blocks words
    → (new_content s).blocks ≡ s.content.blocks → admitted aim ≡ None → ((j : ℕ) → aim ≢ Promote j) → KnowsMedia s a.member h
    → IsTolerated s.geometry before h → SaysContent s aim a.member
    → BeginsWherever s (current_media_of a.member) a.member.array.epoch aim a.member h
begins s aim before a words h history is_open geometry encoded certain none_joins none_promoted knows tolerated says =
    session_begins s aim before a h history is_open.array geometry none_joins none_promoted knows.known knows.is tolerated knows.own behind says
  where
    behind : IsKnownBehind s knows.is.encodings (current_media_of a.member) a.member.array.epoch aim a.member h
    behind =
        subst
        (λ (y : Geometry). (k : KnowsMedia (with_geometry s y) a.member h) → IsTolerated y before h → AreEncodingsOf y s.content.blocks words
        → IsKnownBehind (with_geometry s y) k.is.encodings (current_media_of a.member) a.member.array.epoch aim a.member h) geometry
        (λ k within are. session_behind s.content s.in_doubt s.seats before a words h history is_open k within are certain aim none_joins) knows tolerated
        encoded

pub closes : (s : State) (before : List Happening) (a : ArrayState) (words : Codewords) (h : List Happening) → IsHistory h
    → IsOpenWith before a words h → a.member.array.geometry ≡ s.geometry → AreEncodingsOf s.geometry s.content.blocks words
    → (new_content s).blocks ≡ s.content.blocks → KnowsMedia s a.member h → IsTolerated s.geometry before h
    → AreCurrentMediaClosed s.geometry (current_media_of a.member) a.member h
closes s before a words h history is_open geometry encoded certain knows tolerated =
    subst
    (λ (y : Geometry). KnowsMedia (with_geometry s y) a.member h → IsTolerated y before h → AreEncodingsOf y s.content.blocks words
    → AreCurrentMediaClosed y (current_media_of a.member) a.member h) geometry
    (λ k within are. session_closed s.content s.in_doubt s.seats before a words h history is_open k within are certain) knows tolerated encoded
