-- The calls of a survey change no sector.
use Rattle.std.proofs.Common.{ℕ, zero, suc, List, sym, subst}
use Rattle.stair_rack.specs.Answers.{Calls, Ran}
use Rattle.stair_rack.specs.History.{Happening, SlotCall, Attach, Read}
use Rattle.stair_rack.specs.declared.rack.Reply.TheVariants as reply
use Rattle.stair_rack.proofs.MomentLemmas.{IsThis, calls_ran, ran_join, ran_none, ran_weakened}
use Rattle.stair_member.specs.Asked.{AsksBelow, AsksSlot, LeavesSectors, NotThere, There}

-- one call
call_leaves : {old new : List Happening} {j : ℕ} (c : SlotCall) → ((i : ℕ) → LeavesSectors i c) → Calls old new j c → Ran LeavesSectors old new
call_leaves {j = j} c leaves called =
    ran_weakened {allowed = IsThis j c} {more = LeavesSectors} (λ i d is. subst (λ (e : SlotCall). LeavesSectors i e) (sym is.1) (leaves i))
    (calls_ran called)

slot_leaves : (j : ℕ) (old new : List Happening) → AsksSlot j old new → Ran LeavesSectors old new
slot_leaves j old new (NotThere gone) = call_leaves (Attach reply.Gone) (λ i. tt) gone
slot_leaves j old new (There attached between first second found one two) =
    ran_join (call_leaves (Attach reply.Done) (λ i. tt) found)
    (ran_join (call_leaves (Read 0 first) (λ i. tt) one) (call_leaves (Read 1 second) (λ i. tt) two))

pub asked_ran : (j : ℕ) (old new : List Happening) → AsksBelow j old new → Ran LeavesSectors old new
asked_ran zero old new same = subst (λ h. Ran LeavesSectors old h) (sym same) (ran_none old)
asked_ran (suc j) old new asked = ran_join (asked_ran j old asked.0 asked.1) (slot_leaves j asked.0 new asked.2)
