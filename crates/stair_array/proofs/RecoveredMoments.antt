-- At each moment of an opening whatever a crash leaves represents the state of the array, where no medium has come back.
use Rattle.std.proofs.Common.{◌≡◌, List, [], ◌∷◌, refl, subst, None, Option, Some}
use Rattle.std.specs.Prelude.{IsTrue, Result, Ok, Err}
use Rattle.stair_model.specs.Slots.{Slots, no_slots}
use Rattle.stair_model.specs.Geometry.{Geometry}
use Rattle.stair_rack.specs.Answers.{Ran, any_call}
use Rattle.stair_rack.specs.Crash.{CrashMayLeave}
use Rattle.stair_rack.specs.History.{Happening, Made}
use Rattle.stair_rack.specs.Media.{Image}
use Rattle.stair_rack.specs.Moments.{AtEveryMoment}
use Rattle.stair_rack.proofs.MomentLemmas.{at_every_from, at_every_join, at_moment, moment_between, ran_before, ran_join}
use Rattle.stair_rack.proofs.StretchLemmas.{each_after}
use Rattle.stair_member.specs.Establishing.{Fences}
use Rattle.stair_member.specs.Membership.{Membership}
use Rattle.stair_member.specs.declared.fault.FenceFault.{FenceFault}
use Rattle.stair_journal.specs.Gate.{closed_gate}
use Rattle.stair_journal.specs.Journalling.{gate_writes}
use Rattle.stair_journal.specs.declared.redo.Redo.{Redo}
use Rattle.stair_state.specs.Redoing.{Redoing}
use Rattle.stair_state.specs.Represents.{Encodings, RepresentsAlone}
use Rattle.stair_state.specs.State.{State, without_seats}
use Rattle.stair_state.specs.Surveyed.{NamesContent}
use Rattle.stair_state.specs.Tolerance.{IsToleratedAlone}
use Rattle.stair_state.proofs.OutsideLemmas.{tolerated_alone}
use Rattle.stair_invariant.specs.Effects.{FindsRedo, Snapshot, Replays}
use Rattle.stair_invariant.specs.Opening.{StandsWithin}
use Rattle.stair_invariant.specs.Session.{seats_in}
use Rattle.stair_invariant.proofs.FindsLemmas.{found_ran}
use Rattle.stair_invariant.proofs.HonestLemmas.{found_honest, replay_honest}
use Rattle.stair_invariant.proofs.RecoveryEndLemmas.{first_stands, goes_on, without}
use Rattle.stair_invariant.proofs.StandsWithinLemmas.{body_stands, closing_stands, finding_stands, replay_stands}
use Rattle.stair_array.specs.Machine.{Refusal}
use Rattle.stair_array.specs.Openings.{ClearsJournal, Recovers}
use Rattle.stair_array.proofs.RecoveredLemmas.{Calm, IsFoundAt, IsReadAt, IsSurveyed, body_at, body_ran, calm_now, calm_then, cleared_honest, does_ran, fence_at, fence_ran, finding_at, honest_then, replayed_ran}

module _ (s : State) (before : List Happening) where
  -- where it is calm up to here
  abbrev pub StandsHere : List Happening → Type 0
  StandsHere c = Calm s before c → (image : Image) → CrashMayLeave c image → RepresentsAlone (without_seats s) image

  -- what is within tolerance
  alone_here : (c : List Happening) → Ran any_call before c → (calm : Calm s before c)
      → ((image : Image) → CrashMayLeave c image → (tolerated : IsToleratedAlone s.geometry image)
      → RepresentsAlone (record s { seats = Some (seats_in tolerated.current.array) }) image)
      → (image : Image) → CrashMayLeave c image → RepresentsAlone (without_seats s) image
  alone_here c ran calm stands image left =
      let alone = tolerated_alone s.geometry before c image (calm_now s before c ran calm) left in
      without (record s { seats = Some (seats_in alone.current.array) }) (Made image ∷ []) (stands image left alone)

  -- THE FIRST FENCE

  fence_moments : (u w : Snapshot) (answer : Result Slots FenceFault) → IsSurveyed s before u → Fences no_slots u.member w.member answer u.told w.told
      → IsTrue w.told.honest → AtEveryMoment StandsHere u.told.history w.told.history
  fence_moments u w answer is e honest =
      at_every_from {P = StandsHere} ran.more ran.is
      (λ c at calm image left.
      let so_far : Ran any_call u.told.history c = ran_before {allowed = any_call} ran at in
      let to_u = moment_between {a = any_call} {b = any_call} is.ran so_far in
      let all = ran_join {allowed = any_call} is.ran so_far in
      let f = is.found (calm_then s before u.told.history c to_u calm) in
      alone_here c all calm
      (first_stands s u.member w.member answer before before u.told w.told c f e honest at (each_after calm.1 to_u)
      (goes_on s before c (calm_now s before c all calm))) image left)
    where
      ran : Ran any_call u.told.history w.told.history
      ran = fence_ran u.member w.member answer u.told w.told e honest

  -- A LATER PART

  part_moments : (u v : Snapshot) → Ran any_call before u.told.history → Ran any_call u.told.history v.told.history
      → (Calm s before u.told.history
      → AtEveryMoment (StandsWithin s u.member.array u.told.history) u.told.history v.told.history)
      → AtEveryMoment StandsHere u.told.history v.told.history
  part_moments u v upto ran every =
      at_every_from {P = StandsHere} ran.more ran.is
      (λ c at calm image left.
      let so_far : Ran any_call u.told.history c = ran_before {allowed = any_call} ran at in
      let to_u = moment_between {a = any_call} {b = any_call} upto so_far in
      let all = ran_join {allowed = any_call} upto so_far in
      let going = goes_on s before c (calm_now s before c all calm) in
      alone_here c all calm
      (λ picture may tolerated.
      (at_moment {P = StandsWithin s u.member.array u.told.history} (every (calm_then s before u.told.history c to_u calm)) at (each_after calm.1 to_u) going
      picture may tolerated).0) image left)

  -- what is known once a redo was found
  record IsKnownAt (redo : Option Redo) (opened : Slots) (z : Snapshot) : Type 0 where
    pub member : Membership
    pub encodings : Encodings s
    pub same : s.geometry ≡ member.array.geometry
    pub content : NamesContent s member.array
    pub redoing : Redoing
    pub start : List Happening
    pub is : IsFoundAt s before member encodings same content redoing start redo opened z

  clearing_moments : (redo : Option Redo) (opened : Slots) (answer : Result Geometry Refusal) (z y : Snapshot) → ClearsJournal redo opened answer z y
      → Ran any_call before z.told.history → (Calm s before z.told.history → IsKnownAt redo opened z) → IsTrue y.told.honest
      → AtEveryMoment StandsHere z.told.history y.told.history
  clearing_moments _ _ _ _ _ (ClearsJournal.Closes opened live refusal x y are does) upto known honest =
      part_moments x y upto (does_ran (gate_writes closed_gate) live refusal x y does honest)
      (λ calm.
      let k = known calm in
      closing_stands s k.encodings k.redoing k.is.stage k.start x k.is.at.recovering k.is.at.geometry k.is.at.names (k.is.told.none refl) live refusal y are
      does honest)
  clearing_moments _ _ _ _ _ (ClearsJournal.Stops redo opened body was stripe fault x y found) upto known honest =
      part_moments x y upto (body_ran redo body was stripe (Some fault) x y found honest)
      (λ calm.
      let k = known calm in
      body_stands s k.encodings k.redoing k.is.stage k.start x k.is.at.recovering k.is.at.geometry k.is.at.names redo body was stripe (Some fault) y found
      honest)
  clearing_moments _ _ _ _ _ (ClearsJournal.BodyLost redo opened body was stripe sector x y found lost) upto known honest =
      part_moments x y upto (body_ran redo body was stripe None x y found honest)
      (λ calm.
      let k = known calm in
      body_stands s k.encodings k.redoing k.is.stage k.start x k.is.at.recovering k.is.at.geometry k.is.at.names redo body was stripe None y found honest)
  clearing_moments _ _ _ _ _ (ClearsJournal.Replayed redo opened body was stripe refusal x y z found read run) upto known honest =
      let honest_y = honest_then y.told z.told (replay_honest redo stripe opened refusal y z run) honest in
      let first : Ran any_call x.told.history y.told.history = body_ran redo body was stripe None x y found honest_y in
      let second : Ran any_call y.told.history z.told.history = replayed_ran redo stripe opened refusal y z run honest in
      at_every_join {P = StandsHere}
      (part_moments x y upto first
      (λ calm.
      let k = known calm in
      body_stands s k.encodings k.redoing k.is.stage k.start x k.is.at.recovering k.is.at.geometry k.is.at.names redo body was stripe None y found honest_y))
      (part_moments y z (ran_join {allowed = any_call} upto first) second
      (λ calm.
      let k =
      known (calm_then s before x.told.history y.told.history (moment_between {a = any_call} {b = any_call} upto first) calm) in
      let now : IsReadAt s before k.member k.encodings k.same k.content k.redoing k.start redo opened stripe y =
      body_at s before k.member k.encodings k.same k.content k.redoing k.start redo opened body was stripe x y found read k.is honest_y calm in
      replay_stands s k.encodings k.redoing now.stage k.start y now.at.recovering now.at.geometry now.at.names (Some redo) opened stripe refusal z now.told
      now.redoing now.going now.cells (subst (λ (r : Redo). Replays r stripe opened refusal y z) now.same_redo run) honest))

  -- ALL OF IT

  finding_moments_of : (u y z : Snapshot) (fallen : Slots) (redo : Option Redo) (opened : Slots) (refusal : Option FenceFault) → IsSurveyed s before u
      → Fences no_slots u.member y.member (Ok fallen) u.told y.told → FindsRedo redo opened refusal y z → IsTrue y.told.honest → IsTrue z.told.honest
      → AtEveryMoment StandsHere y.told.history z.told.history
  finding_moments_of u y z fallen redo opened refusal is e found honest_y honest =
      let first : Ran any_call u.told.history y.told.history = fence_ran u.member y.member (Ok fallen) u.told y.told e honest_y in
      part_moments y z (ran_join {allowed = any_call} is.ran first) (found_ran redo opened refusal y z found honest)
      (λ calm.
      let f = is.found (calm_then s before u.told.history y.told.history (moment_between {a = any_call} {b = any_call} is.ran first) calm) in
      let now = fence_at s before u y fallen is f e honest_y calm in
      finding_stands s f.represents.encodings now.redoing now.stage y.told.history y now.at.recovering now.at.geometry now.at.names redo opened refusal z found
      honest)

  pub recover_moments : (answer : Result Geometry Refusal) (u v : Snapshot) → Recovers answer u v → IsSurveyed s before u → IsTrue v.told.honest
      → AtEveryMoment StandsHere u.told.history v.told.history
  recover_moments _ _ _ (Recovers.NoEpoch fault x y e) is honest = fence_moments x y (Err fault) is e honest
  recover_moments _ _ _ (Recovers.Stops fallen opened redo fault x y z e found) is honest =
      let honest_y = honest_then y.told z.told (found_honest redo opened (Some fault) y z found) honest in
      at_every_join {P = StandsHere} (fence_moments x y (Ok fallen) is e honest_y)
      (finding_moments_of x y z fallen redo opened (Some fault) is e found honest_y honest)
  recover_moments _ _ _ (Recovers.Goes fallen opened redo answer x y z w e found clears) is honest =
      let honest_z = honest_then z.told w.told (cleared_honest redo opened answer z w clears) honest in
      let honest_y = honest_then y.told z.told (found_honest redo opened None y z found) honest_z in
      let first : Ran any_call x.told.history y.told.history = fence_ran x.member y.member (Ok fallen) x.told y.told e honest_y in
      let second : Ran any_call y.told.history z.told.history = found_ran redo opened None y z found honest_z in
      let upto : Ran any_call before y.told.history = ran_join {allowed = any_call} is.ran first in
      at_every_join {P = StandsHere}
      (at_every_join {P = StandsHere} (fence_moments x y (Ok fallen) is e honest_y)
      (finding_moments_of x y z fallen redo opened None is e found honest_y honest_z))
      (clearing_moments redo opened answer z w clears (ran_join {allowed = any_call} upto second)
      (λ calm.
      let calm_y = calm_then s before y.told.history z.told.history (moment_between {a = any_call} {b = any_call} upto second) calm in
      let f = is.found (calm_then s before x.told.history y.told.history (moment_between {a = any_call} {b = any_call} is.ran first) calm_y) in
      let now = fence_at s before x y fallen is f e honest_y calm_y in
      record {
        member = x.member;
        encodings = f.represents.encodings;
        same = f.geometry;
        content = f.content;
        redoing = now.redoing;
        start = y.told.history;
        is =
            finding_at s before x.member f.represents.encodings f.geometry f.content now.redoing now.stage y.told.history redo opened y z found now.at honest_z
            calm;
      }) honest)
