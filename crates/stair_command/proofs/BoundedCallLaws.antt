-- How great the draws in an image become over a call.
use Rattle.std.proofs.Common.{◌≡◌, ◌∙◌, ◌*◌, ◌+◌, ◌<◌, ◌≤◌, ℕ, List, [], ◌∷◌, Ok, Err, inl, inr, sym, ap, subst, arith}
use Rattle.std.specs.Prelude.{IsTrue, Result}
use Rattle.stair_model.specs.Geometry.{Geometry}
use Rattle.stair_rack.specs.History.{Attach, Happening, Read, Sectors, SlotCall, Sync, Write}
use Rattle.stair_rack.specs.Sector.{Cell, Good}
use Rattle.stair_rack.specs.RackState.{IsReading, RackState}
use Rattle.stair_rack.proofs.CrashLemmas.{CrashMayLeave-now}
use Rattle.stair_rack.specs.Crash.{image_now}
use Rattle.stair_rack.proofs.MomentLemmas.{at_every_join, at_every_none, at_last, at_moment, ran_weakened}
use Rattle.stair_member.specs.Asked.{LeavesSectors}
use Rattle.stair_member.specs.Findings.{IsPlaceFound, Unread}
use Rattle.stair_member.specs.Findings as found
use Rattle.stair_member.specs.Membership.{Membership}
use Rattle.stair_member.specs.Superblocks.{HoldsSuper}
use Rattle.stair_member.specs.Survey.{Surveys}
use Rattle.stair_member.specs.declared.fault.SurveyFault.{SurveyFault}
use Rattle.stair_member.proofs.AskedLemmas.{asked_ran}
use Rattle.stair_member.proofs.JudgeLemmas.{counts_in}
use Rattle.stair_member.proofs.SuperLemmas.{counts_limits, super_at}
use Rattle.stair_super.specs.Superblock.{Superblock}
use Rattle.stair_state.specs.Represents.{no_write}
use Rattle.stair_array.proofs.KeepLemmas.{no_writes}
use Rattle.stair_array.specs.Draws.{allowance}
use Rattle.stair_array.specs.Promise.{Begun, Closed, Found, Opened, Phase}
use Rattle.stair_command.specs.Action.{Create, Survey}
use Rattle.stair_command.specs.Bounded.{AreOfArray, CallsAreBounded, IsBoundedAt, StaysBounded, StaysWithin}
use Rattle.stair_command.specs.Devices.{DeviceView, Devices, WorksAll, seen_of}
use Rattle.stair_command.specs.Drawn.{over_steps}
use Rattle.stair_command.specs.Kept.{HasMember}
use Rattle.stair_command.specs.Trace.{TraceItem, Did, AlongTrace, Stepped}
use Rattle.stair_command.proofs.BoundedLaws.{IsFine, stays_bounded}
use Rattle.stair_command.proofs.BoundedTraceLaws.{HasRoom, starts_from, stays_over, stays_weaker, trace_allows, weaker, weigh_little}
use Rattle.stair_command.proofs.KeptLaws.{known_begun, same_session}

-- ---- surveys

-- the greatest draw that a survey sees was borne
pub survey_few : (m : Membership) (old new : RackState) (most : ℕ) → IsTrue new.honest → Surveys (Ok m) old new
    → StaysBounded m.array.geometry most old.history new.history → m.drawn ≤ most
survey_few m old new most honest surveys stays =
    let f = surveys.findings in
    let drawn = surveys.answered.0.drawn in
    let below : drawn.slot < 32 =
    counts_in m.array.geometry f.image drawn.slot (record { super = drawn.super; counts = drawn.counts }) in
    let held : drawn.super.draw ≤ most =
    elim (super_at drawn.counts.super) [
      | inl holds ↦ seen drawn.slot 0 drawn.super (omega arith) ((surveys.found.each drawn.slot below).places 0 (omega arith)) holds drawn.counts.identity
      | inr holds ↦ seen drawn.slot 1 drawn.super (omega arith) ((surveys.found.each drawn.slot below).places 1 (omega arith)) holds drawn.counts.identity
    ] in
    omega (arith, held, drawn.is)
  where
    read : (j k : ℕ) (s : Superblock) (cell : Cell) → k < 2 → IsReading j k old new cell → (holds : HoldsSuper cell s) → cell ≡ Good holds.bytes
        → s.array.geometry ≡ m.array.geometry → s.draw ≤ most
    read j k s (Good bytes) place reading holds good same =
        let was = reading honest in
        let at = (at_moment {P = IsBoundedAt m.array.geometry most} stays was.is_one) (image_now was.moment) (CrashMayLeave-now was.moment) in
        at.in_slots j k place s (record { bytes = holds.bytes; good = was.found ∙ good; spells = holds.spells }) same
    read j k s cell place reading holds good same = absurd (let is = good in cc)

    seen : {gone : Type 0} {cell : Cell} (j k : ℕ) (s : Superblock) → k < 2 → IsPlaceFound gone j k old new cell → HoldsSuper cell s
        → s.array.geometry ≡ m.array.geometry → s.draw ≤ most
    seen {cell = cell} j k s place (found.Read reading) holds same = read j k s cell place reading holds holds.good same
    seen j k s place (Unread gone is) holds same = absurd (let good = holds.good in cc)

-- an array that a survey finds has at most 32 slots
pub survey_slots : (m : Membership) (old new : RackState) → Surveys (Ok m) old new → m.array.geometry.n ≤ 32
survey_slots m old new surveys =
    let drawn = surveys.answered.0.drawn in
    (counts_limits m.array.geometry surveys.findings.image drawn.slot drawn.super drawn.counts).devices.1

-- ---- calls that write nothing

module _ (g : Geometry) (most : ℕ) where
  leaves_fine : (j : ℕ) (call : SlotCall) → LeavesSectors j call → IsFine g most j call
  leaves_fine j (Write k bytes answer) is = absurd is
  leaves_fine j (Attach answer) is = tt
  leaves_fine j (Sectors size) is = tt
  leaves_fine j (Read k answer) is = tt
  leaves_fine j (Sync answer) is = tt

  no_write_fine : (j : ℕ) (call : SlotCall) → no_write j call → IsFine g most j call
  no_write_fine j (Write k bytes answer) is = absurd is
  no_write_fine j (Attach answer) is = tt
  no_write_fine j (Sectors size) is = tt
  no_write_fine j (Read k answer) is = tt
  no_write_fine j (Sync answer) is = tt

-- while an array is looked for no draw becomes greater
pub survey_stays : (g : Geometry) (most : ℕ) (found : Result Membership SurveyFault) (old new : RackState) → IsTrue new.honest → Surveys found old new
    → IsBoundedAt g most old.history → StaysBounded g most old.history new.history
survey_stays g most found old new honest surveys bounded =
    stays_bounded g most (ran_weakened (leaves_fine g most) (asked_ran 32 old.history new.history (surveys.asked honest))) bounded

-- ---- a call

module _ {R W : Type 0} (view : DeviceView R W) (honest : IsTrue view.rack.honest) (g : Geometry) (most bound : ℕ) where
  -- the session ended
  over_closed : (trace : List TraceItem) (x y : Devices R W) → AlongTrace (WorksAll view) trace x y → x.session ≡ Closed → IsBoundedAt g bound (view.rack.history x.rack) → StaysWithin view g bound x y
  over_closed trace x y works closed bounded =
      stays_over view honest g bound trace x y works bound (omega arith)
      (λ begun. let same : Closed ≡ Begun = sym closed ∙ begun in cc) bounded
      (λ n has. absurd (subst (λ (s : Phase). HasMember s n) closed has))

  -- a survey that found the array
  over_found : (m : Membership) (trace : List TraceItem) (x y : Devices R W) → AlongTrace (WorksAll view) trace x y → x.session ≡ Found m → m.array.geometry ≡ g → m.drawn ≤ most → m.array.geometry.n ≤ 32 → most + 64 + over_steps allowance trace ≤ bound
      → IsBoundedAt g most (view.rack.history x.rack) → StaysWithin view g bound x y
  over_found m trace x y works is same few slots room bounded =
      let small = weigh_little m slots in
      stays_over view honest g bound trace x y works most (omega (arith, room))
      (λ begun. let same : Found m ≡ Begun = sym is ∙ begun in cc) bounded
      (λ n has.
      subst (HasRoom view honest g bound most trace) (sym (subst (λ (s : Phase). HasMember s n) is has))
      (record { geometry = same; known = few; room = omega (arith, room, small) }))

  pub from_begun : (trace : List TraceItem) (x y : Devices R W) (works : AlongTrace (WorksAll view) trace x y) → AreOfArray view g trace x y works → x.session ≡ Begun → most + 64 + over_steps allowance trace ≤ bound
      → IsBoundedAt g most (view.rack.history x.rack) → StaysWithin view g bound x y
  from_begun [] x y works of begun room bounded =
      subst (λ (d : Devices R W). StaysWithin view g bound x d) (sym works)
      (at_every_none {P = IsBoundedAt g bound} (view.rack.history x.rack)
      (weaker g most bound (omega (arith, room)) (view.rack.history x.rack) bounded))
  from_begun (Stepped step answer events left ∷ trace) x y works of begun room bounded =
      elim works.1.0 [
        | inl does ↦ absurd (known_begun x.session does.was.member begun (starts_from step does.was x.session does.starts))
        | inr stopped ↦ absurd (let same : Begun ≡ Opened stopped.array = sym begun ∙ stopped.is_open in cc)
      ]
  from_begun (Did (Create array) outcome ∷ trace) x y works of begun room bounded =
      let ran = no_writes (works.1.0.ran honest) of.0 in
      let stays : StaysBounded g most (view.rack.history x.rack) (view.rack.history works.0.rack) =
      stays_bounded g most (ran_weakened (no_write_fine g most) ran) bounded in
      let low : most ≤ bound = omega (arith, room) in
      at_every_join (stays_weaker g most bound low stays)
      (over_closed trace works.0 y works.2 works.1.2
      (weaker g most bound low (view.rack.history works.0.rack) (at_last stays)))
  from_begun (Did Survey (Ok m) ∷ trace) x y works of begun room bounded =
      let stays : StaysBounded g most (view.rack.history x.rack) (view.rack.history works.0.rack) =
      survey_stays g most (Ok m) (seen_of view x).told (seen_of view works.0).told honest works.1.0 bounded in
      let low : most ≤ bound = omega (arith, room) in
      let few : m.drawn ≤ most =
      survey_few m (seen_of view x).told (seen_of view works.0).told most honest works.1.0
      (subst (λ (array : Geometry). StaysBounded array most (view.rack.history x.rack) (view.rack.history works.0.rack)) (sym of.0) stays) in
      at_every_join (stays_weaker g most bound low stays)
      (over_found m trace works.0 y works.2 works.1.2 of.0 few
      (survey_slots m (seen_of view x).told (seen_of view works.0).told works.1.0) (omega (arith, room)) (at_last stays))
  from_begun (Did Survey (Err fault) ∷ trace) x y works of begun room bounded =
      let stays : StaysBounded g most (view.rack.history x.rack) (view.rack.history works.0.rack) =
      survey_stays g most (Err fault) (seen_of view x).told (seen_of view works.0).told honest works.1.0 bounded in
      let low : most ≤ bound = omega (arith, room) in
      at_every_join (stays_weaker g most bound low stays)
      (over_closed trace works.0 y works.2 works.1.2
      (weaker g most bound low (view.rack.history works.0.rack) (at_last stays)))
  from_begun (item ∷ trace) x y works of begun room bounded =
      let same : view.rack.history works.0.rack ≡ view.rack.history x.rack = ap (λ (d : Devices R W). view.rack.history d.rack) works.1 in
      subst (λ (h : List Happening). StaysBounded g bound h (view.rack.history y.rack)) same
      (from_begun trace works.0 y works.2 of.1 (same_session view works.1 ∙ begun) (omega (arith, room))
      (subst (IsBoundedAt g most) (sym same) bounded))

pub calls_bounded : (R W : Type 0) → CallsAreBounded R W
calls_bounded R W view trace x y works g most honest begun bounded of =
    let stays = from_begun view honest g most (most + 64 + over_steps allowance trace) trace x y works of begun (omega arith) bounded in
    let split = trace_allows trace in
    record {
      allowed = stays;
      counted = λ q opened replaced stamped.
          stays_weaker g (most + 64 + over_steps allowance trace) (most + 100 + 5 * q) (omega (arith, split, opened, replaced, stamped)) stays;
    }
