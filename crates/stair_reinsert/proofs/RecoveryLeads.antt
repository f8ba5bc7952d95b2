-- What a recovery comes to, of an array whose media come back: at each moment whatever a crash leaves represents the state; refused or not the
-- rack does in the end; and where it isn't the array serves what is decided.
use Rattle.std.proofs.Common.{ap, Err, IsTrue, List, None, Ok, Option, Result, Some, refl, subst, sym, ◌∙◌, ◌∷◌, ◌≡◌, false, []}
use Rattle.stair_model.specs.Geometry.{Geometry}
use Rattle.stair_model.specs.Slots.{Slots, no_slots}
use Rattle.stair_model.specs.Stripe.{Stripe}
use Rattle.stair_rack.specs.Answers.{Ran, any_call}
use Rattle.stair_rack.specs.Crash.{CrashMayLeave}
use Rattle.stair_rack.specs.History.{Happening, Made, stopped}
use Rattle.stair_rack.specs.Media.{Image}
use Rattle.stair_rack.specs.Moments.{AtEveryMoment, IsMoment}
use Rattle.stair_rack.specs.RackState.{RackState}
use Rattle.stair_rack.proofs.MomentLemmas.{at_every_from, at_every_join, at_moment, moment_between, ran_any, ran_before, ran_join}
use Rattle.stair_member.specs.Asked.{LeavesSectors}
use Rattle.stair_member.specs.Establishing.{Fences}
use Rattle.stair_member.specs.Membership.{Membership}
use Rattle.stair_member.specs.declared.fault.FenceFault.{FenceFault}
use Rattle.stair_member.specs.declared.fault.FenceFault.TheVariants.{TooFew}
use Rattle.stair_member.specs.declared.why.Why.{Why}
use Rattle.stair_member.proofs.AskedLemmas.{asked_ran}
use Rattle.stair_journal.specs.Gate.{closed_gate}
use Rattle.stair_journal.specs.Journalling.{gate_writes}
use Rattle.stair_journal.specs.declared.body.Body.{Body}
use Rattle.stair_journal.specs.declared.redo.Redo.{Redo}
use Rattle.stair_state.specs.Holding.{IsConsistentUnderReassembly}
use Rattle.stair_state.specs.State.{Change, Content, State, without_seats}
use Rattle.stair_state.specs.Tolerance.{ToleratedSince}
use Rattle.stair_invariant.specs.Effects.{FindsBody, FindsRedo, Snapshot, Replays}
use Rattle.stair_invariant.specs.Mixed.{IsToleratedMixed, IsToleratedUnread, NoJournalRead}
use Rattle.stair_invariant.specs.Opening.{StaysArray}
use Rattle.stair_invariant.specs.Returning.{AnyReturns, StaysWithinTolerance}
use Rattle.stair_invariant.proofs.FindsLemmas.{found_ran, honest_back}
use Rattle.stair_invariant.proofs.HonestLemmas.{found_honest, replay_honest}
use Rattle.stair_invariant.proofs.OpenLaws.{goes_on_within}
use Rattle.stair_invariant.proofs.Serving.{StaysWithinToleranceTo, calm_sooner, tolerated_now}
use Rattle.stair_invariant.proofs.StaysArrayLemmas.{body_stays, fence_stays, found_stays, replay_stays, stage_stays, stays_again}
use Rattle.stair_array.specs.Calls.{answer_of, refused}
use Rattle.stair_array.specs.Machine.{Refusal}
use Rattle.stair_array.specs.Openings.{ClearsJournal, Recovers}
use Rattle.stair_array.proofs.RecoveredLemmas.{body_ran, cleared_honest, cleared_ran, replayed_ran, fence_ran}
use Rattle.stair_rack.proofs.StretchLemmas.{each_join}
use Rattle.stair_reinsert.proofs.LookedSoFar.{asked_unread, issuing_unread, looked_mixed}
use Rattle.stair_reinsert.proofs.OpeningEnough.{first_enough}
use Rattle.stair_reinsert.proofs.RecoveryEnough.{finding_enough}
use Rattle.stair_reinsert.proofs.RecoveryGatesEnough.{closing_enough, replay_enough}
use Rattle.stair_reinsert.proofs.RecoveryOutEnough.{body_enough}
use Rattle.stair_reinsert.proofs.RecoveryEnd.{IsOpenedAny, replay_moments, replay_ended, replay_opens, closed_opens}
use Rattle.stair_reinsert.proofs.RecoveryFence.{AreSynced, IsUntouched, unseated}
use Rattle.stair_reinsert.proofs.RecoveryFinding.{IsLastRound, StandsUnseated, finding_moments, finding_refused, finding_ends}
use Rattle.stair_reinsert.proofs.RecoveryFound.{IsToldAny, found_told}
use Rattle.stair_reinsert.proofs.RecoveryParts.{IsReadAny, body_moments, body_ended, body_read}
use Rattle.stair_reinsert.proofs.RecoverySurvey.{IsFoundAny, first_left, first_ended, first_untouched, first_synced, first_geometry}
use Rattle.stair_reinsert.proofs.RecoveryOpening.{closing_moments, closing_ended}

-- CLEARING THE JOURNAL

module _ (before : List Happening) (kept : Content) (change : Option Change) (g : Geometry) where
  -- it was opened, or an epoch was refused, not for want of slots
  pub data Clears (m : Membership) : Result Geometry Refusal → Snapshot → Type 0 where
    Opens : (own : Geometry) (y : Snapshot) → own ≡ g → IsOpenedAny before kept change g y → StaysArray m y.member → Clears m (Ok own) y
    Refuses : (fault : FenceFault) (y : Snapshot) → IsConsistentUnderReassembly (unseated g kept change) y.told.history
        → (IsToleratedUnread g before y.told.history → (whys : List Why) → ¬ (fault ≡ TooFew whys)) → Clears m (Err (refused fault)) y

  module _ (redo : Option Redo) (opened : Slots) (x : Snapshot) (is : IsToldAny before kept change redo opened x) (same : x.member.array.geometry ≡ g) where
    pub told_geometry : is.m.array.geometry ≡ g
    told_geometry = sym is.amid.stays.geometry ∙ same

    pub own_calm : (h : List Happening) → StaysWithinToleranceTo AnyReturns g before h → StaysWithinToleranceTo AnyReturns is.m.array.geometry before h
    own_calm h calm = subst (λ (y : Geometry). StaysWithinToleranceTo AnyReturns y before h) (sym told_geometry) calm

    pub given_stands : (h : List Happening) → IsConsistentUnderReassembly (unseated is.m.array.geometry kept change) h
        → IsConsistentUnderReassembly (unseated g kept change) h
    given_stands h stands = subst (λ (y : Geometry). IsConsistentUnderReassembly (unseated y kept change) h) told_geometry stands

    pub given_moments : (old new : List Happening) → AtEveryMoment (StandsUnseated before kept change is.m.array.geometry) old new
        → AtEveryMoment (StandsUnseated before kept change g) old new
    given_moments old new every =
        subst (λ (y : Geometry). AtEveryMoment (StandsUnseated before kept change y) old new) told_geometry every

    pub given_opens : (y : Snapshot) → IsOpenedAny before kept change is.m.array.geometry y → IsOpenedAny before kept change g y
    given_opens y opens = subst (λ (k : Geometry). IsOpenedAny before kept change k y) told_geometry opens

  -- A redo that was found whole, once its body was read
  module _ (redo : Redo) (opened : Slots) (body : Body) (was stripe : Stripe) (x y : Snapshot) (found : FindsBody redo body was stripe None x y)
      (is : IsToldAny before kept change (Some redo) opened x) (same : x.member.array.geometry ≡ g) (honest : IsTrue y.told.honest)
      (calm : StaysWithinToleranceTo AnyReturns g before y.told.history) where
    read_y : IsReadAny before kept change redo opened body was stripe None x y found is honest
    read_y =
        body_read before kept change redo opened body was stripe None x y found is honest refl (own_calm (Some redo) opened x is same y.told.history calm)

    same_y : y.member.array.geometry ≡ g
    same_y = read_y.told.amid.stays.geometry ∙ read_y.geometry ∙ told_geometry (Some redo) opened x is same

  pub clears : (m : Membership) (redo : Option Redo) (opened : Slots) (answer : Result Geometry Refusal) (x z : Snapshot) → ClearsJournal redo opened answer x z
      → IsToldAny before kept change redo opened x → x.member.array.geometry ≡ g → StaysArray m x.member → IsTrue z.told.honest
      → StaysWithinToleranceTo AnyReturns g before z.told.history → Clears m answer z
  clears m _ _ _ _ _ (ClearsJournal.Closes opened live None x y are does) is same stays honest calm =
      Opens x.member.array.geometry y same
      (given_opens None opened x is same y
      (closed_opens before kept change opened x is live are None y does honest refl (own_calm None opened x is same y.told.history calm)))
      (stays_again m x.member y.member stays (stage_stays (gate_writes closed_gate) live None x y does stays.rules))
  clears m _ _ _ _ _ (ClearsJournal.Closes opened live (Some fault) x y are does) is same stays honest calm =
      Refuses fault y
      (given_stands None opened x is same y.told.history
      (closing_ended before kept change opened x is live are (Some fault) y does honest (own_calm None opened x is same y.told.history calm)))
      (λ unread whys few.
      closing_enough before kept change opened x is live are (Some fault) y does honest (own_calm None opened x is same y.told.history calm) whys
      (ap (λ (f : FenceFault). Some f) few))
  clears m _ _ _ _ _ (ClearsJournal.Stops redo opened body was stripe fault x y found) is same stays honest calm =
      Refuses fault y
      (given_stands (Some redo) opened x is same y.told.history
      (body_ended before kept change redo opened body was stripe (Some fault) x y found is honest (own_calm (Some redo) opened x is same y.told.history calm)))
      (λ unread whys few.
      body_enough before kept change redo opened body was stripe (Some fault) x y found is honest (own_calm (Some redo) opened x is same y.told.history calm)
      whys (ap (λ (f : FenceFault). Some f) few))
  clears m _ _ _ _ _ (ClearsJournal.BodyLost redo opened body was stripe sector x y found lost) is same stays honest calm =
      let whole : body.unread ≡ None = (read_y redo opened body was stripe x y found is same honest calm).whole in
      let never : None ≡ Some sector = sym whole ∙ lost in
      absurd (cc)
  clears m _ _ _ _ _ (ClearsJournal.Replayed redo opened body was stripe refusal x y z found whole run) is same stays honest calm = by refusal run
    where
      honest_y : IsTrue y.told.honest
      honest_y = honest_back y.told z.told (replay_honest redo stripe opened refusal y z run) honest

      calm_y : StaysWithinToleranceTo AnyReturns g before y.told.history
      calm_y =
          calm_sooner AnyReturns g before y.told.history z.told.history
          (moment_between {a = any_call} {b = any_call}
          (ran_join {allowed = any_call} is.amid.amid.amid.ran (body_ran redo body was stripe None x y found honest_y))
          (replayed_ran redo stripe opened refusal y z run honest)) calm

      read : IsReadAny before kept change redo opened body was stripe None x y found is honest_y
      read = read_y redo opened body was stripe x y found is same honest_y calm_y

      own_run : (r : Option FenceFault) → Replays redo stripe opened r y z → Replays read.told.redo stripe opened r y z
      own_run r goes = subst (λ (o : Redo). Replays o stripe opened r y z) read.same goes

      geometry_y : y.member.array.geometry ≡ g
      geometry_y = same_y redo opened body was stripe x y found is same honest_y calm_y

      stays_y : StaysArray m y.member
      stays_y = stays_again m x.member y.member stays (body_stays redo body was stripe None x y found stays.rules)

      by : (r : Option FenceFault) → Replays redo stripe opened r y z → Clears m (answer_of x.member.array.geometry r) z
      by None goes =
          Opens x.member.array.geometry z same
          (given_opens (Some redo) opened y read.told geometry_y z
          (replay_opens before kept change redo opened y read.told stripe (read.cells whole) None z (own_run None goes) refl honest
          (own_calm (Some redo) opened y read.told geometry_y z.told.history calm)))
          (stays_again m y.member z.member stays_y (replay_stays redo stripe opened None y z goes stays_y.rules))
      by (Some fault) goes =
          Refuses fault z
          (given_stands (Some redo) opened y read.told geometry_y z.told.history
          (replay_ended before kept change redo opened y read.told stripe (read.cells whole) fault (Some fault) z (own_run (Some fault) goes) refl honest
          (own_calm (Some redo) opened y read.told geometry_y z.told.history calm)))
          (λ unread whys few.
          replay_enough before kept change redo opened y read.told stripe (read.cells whole) whys (Some fault) z (own_run (Some fault) goes)
          (ap (λ (f : FenceFault). Some f) few) honest (own_calm (Some redo) opened y read.told geometry_y z.told.history calm))

  pub clears_moments : (redo : Option Redo) (opened : Slots) (answer : Result Geometry Refusal) (x z : Snapshot) → ClearsJournal redo opened answer x z
      → IsToldAny before kept change redo opened x → x.member.array.geometry ≡ g → IsTrue z.told.honest
      → AtEveryMoment (StandsUnseated before kept change g) x.told.history z.told.history
  clears_moments _ _ _ _ _ (ClearsJournal.Closes opened live refusal x y are does) is same honest =
      given_moments None opened x is same x.told.history y.told.history (closing_moments before kept change opened x is live are refusal y does honest)
  clears_moments _ _ _ _ _ (ClearsJournal.Stops redo opened body was stripe fault x y found) is same honest =
      given_moments (Some redo) opened x is same x.told.history y.told.history
      (body_moments before kept change redo opened body was stripe (Some fault) x y found is honest)
  clears_moments _ _ _ _ _ (ClearsJournal.BodyLost redo opened body was stripe sector x y found lost) is same honest =
      given_moments (Some redo) opened x is same x.told.history y.told.history
      (body_moments before kept change redo opened body was stripe None x y found is honest)
  clears_moments _ _ _ _ _ (ClearsJournal.Replayed redo opened body was stripe refusal x y z found whole run) is same honest =
      at_every_join {P = StandsUnseated before kept change g}
      (given_moments (Some redo) opened x is same x.told.history y.told.history
      (body_moments before kept change redo opened body was stripe None x y found is honest_y))
      (at_every_from {P = StandsUnseated before kept change g} later.more later.is
      (λ c at calm.
      let calm_y = upto c at calm in
      let read = read_y redo opened body was stripe x y found is same honest_y calm_y in
      let geometry_y = same_y redo opened body was stripe x y found is same honest_y calm_y in
      at_moment {P = StandsUnseated before kept change g}
      (given_moments (Some redo) opened y read.told geometry_y y.told.history z.told.history
      (replay_moments before kept change redo opened y read.told stripe (read.cells whole) refusal z
      (subst (λ (o : Redo). Replays o stripe opened refusal y z) read.same run) honest)) at calm))
    where
      honest_y : IsTrue y.told.honest
      honest_y = honest_back y.told z.told (replay_honest redo stripe opened refusal y z run) honest

      later : Ran any_call y.told.history z.told.history
      later = replayed_ran redo stripe opened refusal y z run honest

      upto : (c : List Happening) → IsMoment y.told.history c z.told.history → StaysWithinToleranceTo AnyReturns g before c → StaysWithinToleranceTo AnyReturns g before y.told.history
      upto c at calm =
          calm_sooner AnyReturns g before y.told.history c
          (moment_between {a = any_call} {b = any_call}
          (ran_join {allowed = any_call} is.amid.amid.amid.ran (body_ran redo body was stripe None x y found honest_y))
          (ran_before {allowed = any_call} later at)) calm

-- ALL OF IT, by the member that a survey found

module _ (s : State) (first : RackState) (u : Snapshot) (found : IsFoundAny s first u) where
  abbrev pub before : List Happening
  before = first.history

  -- whatever a crash leaves here represents the state, if what is asked of the outside was kept up to here
  abbrev pub StandsCalm : List Happening → Type 0
  StandsCalm c = StaysWithinTolerance AnyReturns s.geometry false first.history c → (image : Image) → CrashMayLeave c image
      → IsConsistentUnderReassembly (without_seats s) (Made image ∷ [])

  module _ (honest_u : IsTrue u.told.honest) where
    survey_ran : Ran any_call first.history u.told.history
    survey_ran = ran_any {allowed = LeavesSectors} (asked_ran 32 first.history u.told.history (found.surveys.asked honest_u))

    -- a stretch that is kept was so as the survey ended
    mixed_u : (c : List Happening) → Ran any_call u.told.history c → StaysWithinTolerance AnyReturns s.geometry false first.history c
        → IsToleratedMixed s.geometry first.history first.history u.told.history
    mixed_u c ran calm =
        looked_mixed s.geometry (Ok u.member) first u.told c found.surveys honest_u (moment_between {a = any_call} {b = any_call} survey_ran ran) calm.1

  -- THE FIRST FENCE

  module _ (w : Snapshot) (answer : Result Slots FenceFault) (does : Fences no_slots u.member w.member answer u.told w.told) (honest : IsTrue w.told.honest) where
    honest_before : IsTrue u.told.honest
    honest_before = subst IsTrue (sym does.establishes.honest) honest

    first_runs : Ran any_call u.told.history w.told.history
    first_runs = fence_ran u.member w.member answer u.told w.told does honest

    first_unread : NoJournalRead first.history w.told.history
    first_unread =
        let issued = does.establishes.issued honest in
        each_join (asked_unread 32 first.history u.told.history (found.surveys.asked honest_before))
        (issuing_unread issued.slots issued.editions u.told.history w.told.history issued.ran)

    upto_w : Ran any_call first.history w.told.history
    upto_w = ran_join {allowed = any_call} (survey_ran honest_before) first_runs

    first_moments : AtEveryMoment StandsCalm u.told.history w.told.history
    first_moments =
        at_every_from {P = StandsCalm} first_runs.more first_runs.is
        (λ c at calm image left.
        first_left s first u w found answer does honest (mixed_u honest_before c (ran_before {allowed = any_call} first_runs at) calm) c at image left)

    going_w : ToleratedSince s.geometry first.history w.told.history → ¬ IsTrue (stopped w.told.history)
    going_w calm = goes_on_within s.geometry first.history w.told.history (tolerated_now AnyReturns s.geometry first.history w.told.history upto_w calm)

  -- where it stood, and what came after it was calm

  module _ (fallen : Slots) (y : Snapshot) (e : Fences no_slots u.member y.member (Ok fallen) u.told y.told) (honest_y : IsTrue y.told.honest)
      (c : List Happening) (later : Ran any_call y.told.history c) (calm : StaysWithinTolerance AnyReturns s.geometry false first.history c) where
    mixed_y : IsToleratedMixed s.geometry first.history first.history u.told.history
    mixed_y = mixed_u (honest_before y (Ok fallen) e honest_y) c (ran_join {allowed = any_call} (first_runs y (Ok fallen) e honest_y) later) calm

    going_y : ¬ IsTrue (stopped y.told.history)
    going_y =
        going_w y (Ok fallen) e honest_y
        (calm_sooner AnyReturns s.geometry first.history y.told.history c
        (moment_between {a = any_call} {b = any_call} (upto_w y (Ok fallen) e honest_y) later) calm.0)

    untouched_y : IsUntouched first.history s.content s.in_doubt y.member y.told.history
    untouched_y = first_untouched s first u y found (Ok fallen) e honest_y mixed_y refl going_y

    synced_y : AreSynced y.member y.told.history
    synced_y = first_synced s first u y found (Ok fallen) e honest_y mixed_y refl going_y

    geometry_y : y.member.array.geometry ≡ s.geometry
    geometry_y = first_geometry s first u y found (Ok fallen) e honest_y mixed_y refl going_y

  -- ALL GATES WERE READ, and what came after that was calm

  module _ (fallen opened : Slots) (redo : Option Redo) (y z : Snapshot) (e : Fences no_slots u.member y.member (Ok fallen) u.told y.told)
      (finds : FindsRedo redo opened None y z) (honest_z : IsTrue z.told.honest) where
    honest_first : IsTrue y.told.honest
    honest_first = honest_back y.told z.told (found_honest redo opened None y z finds) honest_z

    second : Ran any_call y.told.history z.told.history
    second = found_ran redo opened None y z finds honest_z

    module _ (c : List Happening) (later : Ran any_call z.told.history c) (calm : StaysWithinTolerance AnyReturns s.geometry false first.history c) where
      all : Ran any_call y.told.history c
      all = ran_join {allowed = any_call} second later

      calm_z : StaysWithinToleranceTo AnyReturns s.geometry first.history z.told.history
      calm_z =
          calm_sooner AnyReturns s.geometry first.history z.told.history c
          (moment_between {a = any_call} {b = any_call} (ran_join {allowed = any_call} (upto_w y (Ok fallen) e honest_first) second) later) calm.0

      round : IsLastRound first.history s.content s.in_doubt s.geometry redo opened z
      round =
          finding_ends first.history s.content s.in_doubt s.geometry redo opened None y z finds refl (untouched_y fallen y e honest_first c all calm)
          (synced_y fallen y e honest_first c all calm) (geometry_y fallen y e honest_first c all calm) honest_z calm_z

      told_z : IsToldAny first.history s.content s.in_doubt redo opened z
      told_z = found_told first.history s.content s.in_doubt s.geometry redo opened z round honest_z calm_z

      same_z : z.member.array.geometry ≡ s.geometry
      same_z = round.geometry

  -- at each moment of the whole
  pub recovers_moments : (answer : Result Geometry Refusal) (v : Snapshot) → Recovers answer u v → IsTrue v.told.honest
      → AtEveryMoment StandsCalm u.told.history v.told.history
  recovers_moments _ v (Recovers.NoEpoch fault _ _ e) honest = first_moments v (Err fault) e honest
  recovers_moments _ v (Recovers.Stops fallen opened redo fault _ y _ e finds) honest =
      let honest_y = honest_back y.told v.told (found_honest redo opened (Some fault) y v finds) honest in
      let later = found_ran redo opened (Some fault) y v finds honest in
      at_every_join {P = StandsCalm} (first_moments y (Ok fallen) e honest_y)
      (at_every_from {P = StandsCalm} later.more later.is
      (λ c at calm.
      let upto = ran_before {allowed = any_call} later at in
      at_moment {P = StandsUnseated first.history s.content s.in_doubt s.geometry}
      (finding_moments first.history s.content s.in_doubt s.geometry redo opened (Some fault) y v finds (untouched_y fallen y e honest_y c upto calm)
      (geometry_y fallen y e honest_y c upto calm) honest) at calm.0))
  recovers_moments _ v (Recovers.Goes fallen opened redo answer _ y z _ e finds clear) honest =
      at_every_join {P = StandsCalm} (first_moments y (Ok fallen) e honest_y)
      (at_every_join {P = StandsCalm}
      (at_every_from {P = StandsCalm} then.more then.is
      (λ c at calm.
      let upto = ran_before {allowed = any_call} then at in
      at_moment {P = StandsUnseated first.history s.content s.in_doubt s.geometry}
      (finding_moments first.history s.content s.in_doubt s.geometry redo opened None y z finds (untouched_y fallen y e honest_y c upto calm)
      (geometry_y fallen y e honest_y c upto calm) honest_z) at calm.0))
      (at_every_from {P = StandsCalm} third.more third.is
      (λ c at calm.
      let upto = ran_before {allowed = any_call} third at in
      at_moment {P = StandsUnseated first.history s.content s.in_doubt s.geometry}
      (clears_moments first.history s.content s.in_doubt s.geometry redo opened answer z v clear
      (told_z fallen opened redo y z e finds honest_z c upto calm) (same_z fallen opened redo y z e finds honest_z c upto calm) honest) at calm.0)))
    where
      honest_z : IsTrue z.told.honest
      honest_z = honest_back z.told v.told (cleared_honest redo opened answer z v clear) honest

      honest_y : IsTrue y.told.honest
      honest_y = honest_first fallen opened redo y z e finds honest_z

      then : Ran any_call y.told.history z.told.history
      then = second fallen opened redo y z e finds honest_z

      third : Ran any_call z.told.history v.told.history
      third = cleared_ran redo opened answer z v clear honest

  -- and in the end
  pub recovers_clears : (answer : Result Geometry Refusal) (v : Snapshot) → Recovers answer u v → IsTrue v.told.honest
      → StaysWithinTolerance AnyReturns s.geometry false first.history v.told.history
      → Clears first.history s.content s.in_doubt s.geometry u.member answer v
  recovers_clears _ v (Recovers.NoEpoch fault _ _ e) honest calm =
      Refuses fault v
      (first_ended s first u v found (Err fault) e honest
      (mixed_u (honest_before v (Err fault) e honest) v.told.history (first_runs v (Err fault) e honest) calm) (going_w v (Err fault) e honest calm.0))
      (λ unread. first_enough s first u v found fault e honest (unread (first_unread v (Err fault) e honest)))
  recovers_clears _ v (Recovers.Stops fallen opened redo fault _ y _ e finds) honest calm =
      let honest_y = honest_back y.told v.told (found_honest redo opened (Some fault) y v finds) honest in
      let later = found_ran redo opened (Some fault) y v finds honest in
      let untouched = untouched_y fallen y e honest_y v.told.history later calm in
      let same = geometry_y fallen y e honest_y v.told.history later calm in
      Refuses fault v (finding_refused first.history s.content s.in_doubt s.geometry redo opened fault (Some fault) y v finds refl untouched same honest calm.0)
      (λ unread whys few.
      finding_enough first.history s.content s.in_doubt s.geometry redo opened whys (Some fault) y v finds (ap (λ (f : FenceFault). Some f) few) untouched same
      honest calm.0)
  recovers_clears _ v (Recovers.Goes fallen opened redo answer _ y z _ e finds clear) honest calm =
      let honest_z = honest_back z.told v.told (cleared_honest redo opened answer z v clear) honest in
      let third = cleared_ran redo opened answer z v clear honest in
      clears first.history s.content s.in_doubt s.geometry u.member redo opened answer z v clear
      (told_z fallen opened redo y z e finds honest_z v.told.history third calm) (same_z fallen opened redo y z e finds honest_z v.told.history third calm)
      (stays_again u.member y.member z.member (fence_stays no_slots u y (Ok fallen) e found.rules)
      (found_stays redo opened None y z finds (fence_stays no_slots u y (Ok fallen) e found.rules).rules)) honest calm.0
