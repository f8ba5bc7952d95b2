-- How long an opening is asked for tolerance of mixed images: its survey writes nothing, and neither that nor its first fence reads a
-- journal.
use Rattle.std.proofs.Common.{IsTrue, List, ◌∷◌, ◌≡◌, ◌<◌, ℕ, arith, refl, subst, suc, sym, zero}
use Rattle.std.specs.Prelude.{Result}
use Rattle.stair_model.specs.Device.{gate_sector}
use Rattle.stair_model.specs.Geometry.{Geometry}
use Rattle.stair_model.specs.Slots.{Slots}
use Rattle.stair_rack.specs.Answers.{Calls, Ran}
use Rattle.stair_rack.specs.History.{Acted, Attach, Called, Happening, Made, Read, SlotCall, Stopped}
use Rattle.stair_rack.specs.Moments.{IsMoment}
use Rattle.stair_rack.specs.Outside.{IsAct}
use Rattle.stair_rack.specs.Stretch.{NothingWritten, every_slot}
use Rattle.stair_rack.specs.RackState.{RackState}
use Rattle.stair_rack.specs.declared.rack.Reply.TheVariants as reply
use Rattle.stair_rack.proofs.MomentLemmas.{IsThis, calls_ran, moment_sooner}
use Rattle.stair_rack.proofs.StretchLemmas.{each_join, each_none, each_of_ran, none_written}
use Rattle.stair_member.specs.Asked.{AsksBelow, AsksSlot, LeavesSectors, NotThere, There}
use Rattle.stair_member.specs.Editions.{Edition}
use Rattle.stair_member.specs.Epochs.{ASync, AWrite, IsIssuing}
use Rattle.stair_member.specs.Membership.{Membership}
use Rattle.stair_member.specs.Survey.{Surveys}
use Rattle.stair_member.specs.declared.fault.SurveyFault.{SurveyFault}
use Rattle.stair_member.proofs.AskedLemmas.{asked_ran}
use Rattle.stair_invariant.specs.Mixed.{IsToleratedMixed, IsToleratedUnread, IsToleratedUnwritten, NoJournalRead, ReadsNoJournal}
use Rattle.stair_array.proofs.OpeningsLeadLemmas.{looks_write_none}
use Rattle.stair_reinsert.proofs.MixedImages.{tolerated_inside}

-- A SURVEY WRITES NOTHING

pub survey_unwritten : (answer : Result Membership SurveyFault) (first last : RackState) → Surveys answer first last → IsTrue last.honest
    → NothingWritten first.history last.history
survey_unwritten answer first last surveys honest =
    none_written {allowed = LeavesSectors} {slots = every_slot} looks_write_none (asked_ran 32 first.history last.history (surveys.asked honest))

-- so it is asked up to its end, at whatever later moment
pub looked_mixed : (g : Geometry) (answer : Result Membership SurveyFault) (first last : RackState) (h : List Happening) → Surveys answer first last
    → IsTrue last.honest → IsMoment first.history last.history h → IsToleratedUnwritten g first.history h
    → IsToleratedMixed g first.history first.history last.history
looked_mixed g answer first last h surveys honest at tolerated = tolerated last.history at (survey_unwritten answer first last surveys honest)

-- AND READS NO JOURNAL

act_unread : (h : List Happening) (e : Happening) → IsAct h e → ReadsNoJournal h e
act_unread h (Made image) act = tt
act_unread h Stopped act = tt
act_unread h (Acted j a) act = tt
act_unread h (Called j c) act = absurd act

-- one call
call_unread : {old new : List Happening} {j : ℕ} (c : SlotCall) → ((h : List Happening) (i : ℕ) → ReadsNoJournal h (Called i c)) → Calls old new j c
    → NoJournalRead old new
call_unread {j = j} c spares called =
    each_of_ran {allowed = IsThis j c} {P = ReadsNoJournal} act_unread
    (λ h i d is. subst (λ (e : SlotCall). ReadsNoJournal h (Called i e)) (sym is.1) (spares h i)) (calls_ran called)

first_below : 0 < gate_sector
first_below = omega arith

second_below : 1 < gate_sector
second_below = omega arith

slot_unread : (j : ℕ) (old new : List Happening) → AsksSlot j old new → NoJournalRead old new
slot_unread j old new (NotThere gone) = call_unread (Attach reply.Gone) (λ h i. tt) gone
slot_unread j old new (There attached between first second found one two) =
    each_join (call_unread (Attach reply.Done) (λ h i. tt) found)
    (each_join (call_unread (Read 0 first) (λ h i. first_below) one) (call_unread (Read 1 second) (λ h i. second_below) two))

pub asked_unread : (count : ℕ) (old new : List Happening) → AsksBelow count old new → NoJournalRead old new
asked_unread zero old new same = subst (λ h. NoJournalRead old h) (sym same) (each_none old)
asked_unread (suc j) old new asked = each_join (asked_unread j old asked.0 asked.1) (slot_unread j asked.0 new asked.2)

-- nor does a call that establishes an epoch
pub issuing_unread : (slots : Slots) (editions : List Edition) (old new : List Happening) → Ran (IsIssuing slots editions) old new
    → NoJournalRead old new
issuing_unread slots editions old new ran =
    each_of_ran {allowed = IsIssuing slots editions} {P = ReadsNoJournal} act_unread (λ h j c may. by h j c may) ran
  where
    by : (h : List Happening) (j : ℕ) (c : SlotCall) → IsIssuing slots editions j c → ReadsNoJournal h (Called j c)
    by h j c (AWrite e k answer has among formed small is) = subst (λ (d : SlotCall). ReadsNoJournal h (Called j d)) (sym is) tt
    by h j c (ASync answer has is) = subst (λ (d : SlotCall). ReadsNoJournal h (Called j d)) (sym is) tt

-- WHAT IS ASKED TO THE END OF A STRETCH IMPLIES BOTH

pub mixed_unwritten : (g : Geometry) (before h : List Happening) → IsToleratedMixed g before before h → IsToleratedUnwritten g before h
mixed_unwritten g before h tolerated moment at unwritten = tolerated_inside g before (λ m sooner. moment_sooner sooner at) tolerated

pub mixed_unread : (g : Geometry) (before h : List Happening) → IsToleratedMixed g before before h → IsToleratedUnread g before h
mixed_unread g before h tolerated unread = tolerated
