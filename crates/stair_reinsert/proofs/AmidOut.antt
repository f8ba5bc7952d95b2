-- In the midst of a redo of an array whose media come back slots that were gone are left out, after calls beside the epochs: the slots that take
-- part did so before, with their media, and what is known of all media is known again.
use Rattle.std.proofs.Common.{IsTrue, List, None, Option, Result, ap, inl, inr, subst, sym, ◌<◌, ◌∙◌, ◌≡◌, ◌≢◌, ◌⊎◌, ℕ, arith}
use Rattle.stair_model.specs.Device.{gate_sector}
use Rattle.stair_model.specs.Slots.{HasSlot, Slots}
use Rattle.stair_rack.specs.Answers.{IsHistory, IsNoAttach, Ran, any_call}
use Rattle.stair_rack.specs.Crash.{EachImage, image_now}
use Rattle.stair_rack.specs.History.{Happening, SlotCall, Sync, Write}
use Rattle.stair_rack.specs.Offline.{IsAttached}
use Rattle.stair_rack.specs.Stretch.{every_slot}
use Rattle.stair_rack.specs.RackState.{RackState}
use Rattle.stair_rack.proofs.CrashLemmas.{CrashMayLeave-now}
use Rattle.stair_rack.proofs.MomentLemmas.{moment_between, ran_any, ran_join, ran_none, ran_weakened}
use Rattle.stair_rack.proofs.TidyLemmas.{history_on}
use Rattle.stair_super.specs.Spelling.{spelled}
use Rattle.stair_super.specs.Superblock.{Superblock, joined_in}
use Rattle.stair_super.specs.declared.mark.Mark.TheVariants as mark
use Rattle.stair_member.specs.declared.why.Why.TheVariants as why
use Rattle.stair_member.specs.declared.why.Why.{Why}
use Rattle.stair_member.specs.Aims.{mark_for}
use Rattle.stair_member.specs.Editions.{copy_of}
use Rattle.stair_member.specs.Epochs.{ASync, AWrite, IsIssuing}
use Rattle.stair_member.specs.Establishing.{Establishes, Fences, refusal_of}
use Rattle.stair_member.specs.Membership.{IsHere, why_of}
use Rattle.stair_member.specs.Seats.{Seat}
use Rattle.stair_member.specs.declared.aim.EpochChange.TheVariants.{Fence}
use Rattle.stair_member.specs.declared.fault.FenceFault.{FenceFault}
use Rattle.stair_state.specs.Holding.{IsConsistentSince}
use Rattle.stair_state.specs.Reassembly.{InSlot, IsBorne, Location}
use Rattle.stair_state.specs.Redoing.{AttachesNone, Stage}
use Rattle.stair_state.specs.State.{Change, Content}
use Rattle.stair_state.specs.Tolerance.{IsTolerated}
use Rattle.stair_invariant.specs.Effects.{Fenced, FencesGone, NoneWas, Snapshot, snapshot}
use Rattle.stair_invariant.specs.InSession.{IsBesideEpochs}
use Rattle.stair_invariant.specs.Leading.{IsAmidRedo, IsOpenAmid, led_to}
use Rattle.stair_invariant.specs.Opening.{StaysArray}
use Rattle.stair_invariant.specs.Rebuilding.{Rebuild}
use Rattle.stair_invariant.specs.Returning.{AnyReturns, CoversMedia, HasOwnNewest, IsKnownWherever, current_media_of}
use Rattle.stair_invariant.specs.Session.{IsLiveIn, IsRebuiltIn}
use Rattle.stair_invariant.proofs.AmidRedoLemmas.{live_still, still_for}
use Rattle.stair_invariant.proofs.EstablishingLemmas.{issuing_attaches}
use Rattle.stair_invariant.proofs.FencesLemmas.{amid_left, establishes}
use Rattle.stair_invariant.proofs.OpenLaws.{goes_on_within}
use Rattle.stair_invariant.proofs.OpenWithLemmas.{amid_beside}
use Rattle.stair_invariant.proofs.RedoingLemmas.{out_ran}
use Rattle.stair_invariant.proofs.Serving.{StaysWithinToleranceTo, tolerated_now}
use Rattle.stair_invariant.proofs.StaysArrayLemmas.{left_stays, stays_again}
use Rattle.stair_reinsert.specs.Beginning.{BeginsWherever, StandsWherever}
use Rattle.stair_reinsert.specs.Following.{name_of}
use Rattle.stair_reinsert.proofs.AmidFence.{leaving_begins}
use Rattle.stair_reinsert.proofs.BorneSince.{IsBorneOf, borne_since}
use Rattle.stair_reinsert.proofs.EpochLaws.{covers, established, knows, own, stands}
use Rattle.stair_reinsert.proofs.NameLemmas.{attached_name}
use Rattle.stair_reinsert.proofs.RedoPhase.{IsAmidAny, SparesGate, all_alone, amid_known, history_then, latest_then, named_then, own_then, steady_then, ungated_then, with_member, consistent_then}
use Rattle.stair_reinsert.proofs.RedoStart.{in_redo, RedoAny, redo_of}
use Rattle.stair_reinsert.proofs.StageSince.{SinceIn}
use Rattle.stair_reinsert.proofs.SteadyEpoch.{steady_epoch}

module _ (before : List Happening) {kept : Content} {change : Option Change} (doing : RedoAny kept change) (stage : Stage) (rebuild : Option Rebuild)
    (stopped : Option FenceFault) (p : Snapshot) (is : IsAmidAny before doing stage rebuild stopped p) (mid : RackState)
    (beside : Ran (IsBesideEpochs p.member) p.told.history mid.history) (free : Ran (AttachesNone every_slot) p.told.history mid.history)
    (since : (j : ℕ) → IsLiveIn p.member j → IsAttached doing.start j → SinceIn (redo_of doing) stage doing.start mid.history j) (gone : Slots)
    (y : Snapshot) (leaves : FencesGone gone None (snapshot p.member mid) y) (honest : IsTrue y.told.honest)
    (below : (j : ℕ) → HasSlot gone j → j < p.member.array.geometry.n) where
  open doing use {m, stage_first, start, starts}

  history_mid : IsHistory mid.history
  history_mid =
      history_then before doing stage rebuild stopped p is mid.history beside free since

  unattached : (j : ℕ) → Ran (IsNoAttach j) start mid.history
  unattached =
      all_alone before doing stage rebuild stopped p is mid.history beside free since

  stays_then : StaysArray p.member y.member
  stays_then = left_stays gone None (snapshot p.member mid) y leaves is.amid.amid.array.member

  ran_out : Ran any_call mid.history y.told.history
  ran_out = out_ran gone None (snapshot p.member mid) y leaves honest

  -- THE SLOTS THAT TAKE PART

  open_then : IsOpenAmid before (led_to (with_member rebuild stopped p) y.member) y.told.history
  open_then =
      amid_left gone before (with_member rebuild stopped p) mid y leaves honest history_mid
      (amid_beside before (with_member rebuild stopped p) p.told.history mid.history is.amid.amid is.history beside)

  -- a slot that takes part then has the number that it had
  part_same : (j : ℕ) (w : Why) → j < y.member.array.geometry.n → why_of y.member j ≡ w → mark_for w ≢ mark.Down
      → joined_in y.member.array j ≡ joined_in p.member.array j
  part_same j w inside is up =
      elim (stays_then.seats j) [
        | inl same ↦ ap (λ (s : Seat). s.joined) same
        | inr fell ↦ absurd (up (sym (open_then.array.marks j inside ∙ ap mark_for is) ∙ ap (λ (s : Seat). s.mark) fell.1))
      ]

  -- and took part before, by the same reason
  live_first : (j : ℕ) → IsLiveIn y.member j → IsLiveIn p.member j
  live_first j live = (live_still gone p.member mid y j leaves live).0

  live_same : (j : ℕ) → IsLiveIn y.member j → joined_in y.member.array j ≡ joined_in p.member.array j
  live_same j live = part_same j why.Here live.below live.why (λ same. cc)

  rebuilt_first : (j : ℕ) → IsRebuiltIn y.member j → IsRebuiltIn p.member j
  rebuilt_first j rebuilt =
      let was = still_for gone p.member mid y j why.Rebuilding (λ same. cc) leaves rebuilt.below rebuilt.why in
      record { below = was.0; why = was.1 }

  rebuilt_same : (j : ℕ) → IsRebuiltIn y.member j → joined_in y.member.array j ≡ joined_in p.member.array j
  rebuilt_same j rebuilt = part_same j why.Rebuilding rebuilt.below rebuilt.why (λ same. cc)

  here_before : (j : ℕ) → IsHere y.member j → IsHere p.member j × (joined_in y.member.array j ≡ joined_in p.member.array j)
  here_before j here = by here.why
    where
      by : (why_of y.member j ≡ why.Here) ⊎ (why_of y.member j ≡ why.Rebuilding)
          → IsHere p.member j × (joined_in y.member.array j ≡ joined_in p.member.array j)
      by (inl up) =
          let live : IsLiveIn y.member j = record { below = here.below; why = up } in
          let was = live_first j live in (record { below = was.below; why = inl was.why }, live_same j live)
      by (inr up) =
          let rebuilt : IsRebuiltIn y.member j = record { below = here.below; why = up } in
          let was = rebuilt_first j rebuilt in (record { below = was.below; why = inr was.why }, rebuilt_same j rebuilt)

  -- WHAT IS KNOWN OF THE MEDIA, at a point from there on

  record IsSo (z : Snapshot) : Type 0 where
    known : EachImage (IsKnownWherever None z.member (IsAttached z.told.history)) z.told.history
    consistent : IsConsistentSince (in_redo m kept change) (current_media_of z.member) z.member.array.epoch z.told.history
    latest : CoversMedia m.array.geometry z.member.array.epoch z.told.history
    own : (j : ℕ) → IsHere z.member j → IsAttached z.told.history j → HasOwnNewest z.member z.told.history j
    named : (j : ℕ) (q : Location) (x : Superblock) → IsHere p.member j → IsAttached start j → IsBorne m.array.geometry (image_now z.told.history) j q x
        → x.joined ≡ joined_in p.member.array j → name_of z.told.history j q ≡ name_of start j InSlot
    spares : (j : ℕ) → Ran (SparesGate j) mid.history z.told.history
    attaches : Ran (AttachesNone every_slot) mid.history z.told.history

  so_mid : IsSo (snapshot p.member mid)
  so_mid = record {
    known = λ image left.
        amid_known before doing stage rebuild stopped p is mid.history beside free since image left;
    consistent =
        consistent_then before doing stage rebuild stopped p is mid.history beside free since;
    latest =
        latest_then before doing stage rebuild stopped p is mid.history beside free since;
    own =
        own_then before doing stage rebuild stopped p is mid.history beside free since;
    named =
        named_then before doing stage rebuild stopped p is mid.history beside free since;
    spares = λ j. ran_none {allowed = SparesGate j} mid.history;
    attaches = ran_none {allowed = AttachesNone every_slot} mid.history;
  }

  -- after a fence
  module _ (answer : Result Slots FenceFault) (fences : Fences gone p.member y.member answer mid y.told) (fine : refusal_of answer ≡ None)
      (tolerated : IsTolerated m.array.geometry before mid.history) (within : IsTolerated m.array.geometry before y.told.history) where
    abbrev e : Establishes Fence fences.start y.member None mid y.told
    e = establishes gone before (with_member rebuild stopped p) y.member answer mid y.told fences fine honest history_mid

    abbrev began : BeginsWherever (in_redo m kept change) (current_media_of p.member) p.member.array.epoch Fence fences.start mid.history
    began =
        leaving_begins before doing stage rebuild stopped p is mid beside free since gone y.member answer y.told fences honest below tolerated

    stood : StandsWherever Fence e.gone fences.start y.member mid.history y.told.history
    stood = established Fence fences.start y.member mid y.told e honest (λ slot never. absurd (cc))

    abbrev ran_fence : Ran (IsIssuing (e.issued honest).slots (e.issued honest).editions) mid.history y.told.history
    ran_fence = (e.issued honest).ran

    issues_spare : (j i : ℕ) (call : SlotCall) → IsIssuing (e.issued honest).slots (e.issued honest).editions i call → SparesGate j i call
    issues_spare j i call (AWrite edition k answer on among formed small issues) bytes given same wrote =
        let one : Write k (spelled (copy_of edition i)) answer ≡ Write gate_sector bytes given = sym issues ∙ wrote in
        let at : k ≡ gate_sector = cc in
        omega (arith, at, small)
    issues_spare j i call (ASync answer on issues) bytes given same wrote =
        let never : Sync answer ≡ Write gate_sector bytes given = sym issues ∙ wrote in absurd (cc)

    named_fenced : (j : ℕ) (q : Location) (x : Superblock) → IsHere p.member j → IsAttached start j
        → IsBorne m.array.geometry (image_now y.told.history) j q x → x.joined ≡ joined_in p.member.array j
        → name_of y.told.history j q ≡ name_of start j InSlot
    named_fenced j q x here on there same =
        by
        (borne_since (e.issued honest).slots (e.issued honest).editions m.array.geometry mid.history y.told.history history_mid ran_fence
        (steady_then before doing stage rebuild stopped p is mid.history beside free
        since) (image_now y.told.history) (CrashMayLeave-now y.told.history) j q x there)
      where
        by : IsBorneOf (e.issued honest).slots (e.issued honest).editions m.array.geometry mid.history j (name_of y.told.history j q) x
            → name_of y.told.history j q ≡ name_of start j InSlot
        by (IsBorneOf.Before place named borne) = sym named ∙ so_mid.named j place x here on borne same
        by (IsBorneOf.Given at attached copy) = at ∙ attached_name j starts.history (unattached j) attached

    so_fenced : IsSo y
    so_fenced = record {
      known =
          knows (in_redo m kept change) (current_media_of p.member) p.member.array.epoch Fence e.gone fences.start y.member mid.history y.told.history began stood;
      consistent = record {
        encodings = began.is.encodings;
        each = λ image left.
            stands (in_redo m kept change) (current_media_of p.member) p.member.array.epoch Fence e.gone fences.start y.member mid.history y.told.history image
            began stood left;
        seats = tt;
        steady =
            steady_epoch m.array.geometry Fence e.gone fences.start y.member mid.history y.told.history began.history began.is.steady (e.issued honest)
            (goes_on_within m.array.geometry before y.told.history within);
      };
      latest =
          covers (in_redo m kept change) (current_media_of p.member) p.member.array.epoch Fence e.gone fences.start y.member mid.history y.told.history began stood;
      own = λ j here on.
          own (in_redo m kept change) (current_media_of p.member) p.member.array.epoch Fence e.gone fences.start y.member mid.history y.told.history j began stood
          (goes_on_within m.array.geometry before y.told.history within) here on;
      named = named_fenced;
      spares = λ j.
          ran_weakened {allowed = IsIssuing (e.issued honest).slots (e.issued honest).editions} {more = SparesGate j} (λ i call. issues_spare j i call)
          ran_fence;
      attaches =
          ran_weakened {allowed = IsIssuing (e.issued honest).slots (e.issued honest).editions} {more = AttachesNone every_slot}
          (λ i call may. issuing_attaches (e.issued honest).slots (e.issued honest).editions every_slot i call may) ran_fence;
    }

  -- SO IT GOES ON, in the stage that it is in then

  module _ (calm : StaysWithinToleranceTo AnyReturns m.array.geometry before y.told.history) where
    to_mid : Ran any_call before mid.history
    to_mid = ran_join {allowed = any_call} is.amid.amid.ran (ran_any {allowed = IsBesideEpochs p.member} beside)

    so : IsSo y
    so = by leaves
      where
        by : FencesGone gone None (snapshot p.member mid) y → IsSo y
        by (NoneWas none same fine) = subst IsSo (sym same) so_mid
        by (Fenced j has answer fine fences) =
            so_fenced answer fences (sym fine)
            (calm mid.history (moment_between {a = any_call} {b = any_call} to_mid ran_out))
            (tolerated_now AnyReturns m.array.geometry before y.told.history (ran_join {allowed = any_call} to_mid ran_out) calm)

    pub out_attaches : Ran (AttachesNone every_slot) mid.history y.told.history
    out_attaches = so.attaches

    pub goes_out : (now : Stage) (rebuilds : Option Rebuild)
        → IsAmidRedo (redo_of doing) before (with_member rebuilds None y) now start y.told.history
        → ((j : ℕ) → IsLiveIn y.member j → IsAttached start j → SinceIn (redo_of doing) now start y.told.history j)
        → (now ≡ stage_first) ⊎ ((j : ℕ) → IsLiveIn y.member j → IsAttached start j)
        → IsAmidAny before doing now rebuilds None y
    goes_out now rebuilds amid then used = record {
      amid = amid;
      history = history_on {allowed = any_call} history_mid ran_out;
      stays = stays_again m p.member y.member is.stays stays_then;
      known = so.known;
      consistent = so.consistent;
      latest = so.latest;
      own = so.own;
      named = λ j q x here on there same. let was = here_before j here in so.named j q x was.0 on there (same ∙ was.1);
      live = λ j live. let was = is.live j (live_first j live) in (was.0, live_same j live ∙ was.1);
      rebuilt = λ j rebuilt. let was = is.rebuilt j (rebuilt_first j rebuilt) in (was.0, rebuilt_same j rebuilt ∙ was.1);
      ungated = λ j rebuilt.
          ran_join {allowed = SparesGate j}
          (ungated_then before doing stage rebuild stopped p is mid.history beside free since j (rebuilt_first j rebuilt)) (so.spares j);
      since = then;
      used = used;
    }
