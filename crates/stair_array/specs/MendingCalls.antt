-- What the calls of an array answer that mend its slots: one chunk, an admission, a promotion.
use Rattle.std.specs.Prelude.{◌≡◌, ◌+◌, ℕ, Option, None, Some, Result, Ok, Err}
use Rattle.stair_rack.specs.declared.rack.Reply.{Reply}
use Rattle.stair_rack.specs.declared.rack.Reply.TheVariants as reply
use Rattle.stair_model.specs.Slots.{Slots}
use Rattle.stair_member.specs.Establishing.{Joins}
use Rattle.stair_member.specs.Membership.{Membership, why_of}
use Rattle.stair_member.specs.declared.aim.EpochChange.TheVariants.{Admit}
use Rattle.stair_member.specs.declared.fault.AdmitFault.{AdmitFault}
use Rattle.stair_member.specs.declared.fault.AdmitFault.TheVariants as admit
use Rattle.stair_member.specs.declared.why.Why.{Why}
use Rattle.stair_member.specs.declared.why.Why.TheVariants as why
use Rattle.stair_invariant.specs.Effects.{Snapshot}
use Rattle.stair_invariant.specs.Rebuilding.{Rebuild}
use Rattle.stair_array.specs.Faults.{refusal_for}
use Rattle.stair_array.specs.Machine.{Dropped, EpochsSpent, Gone, Progress, Promoted, Refusal, TooFew}
use Rattle.stair_array.specs.Mends.{joined_as, promoted_as}
use Rattle.stair_array.specs.Promise.{rebuild_after, rebuild_of}
use Rattle.stair_array.specs.declared.fault.ArrayFault.{ArrayFault}
use Rattle.stair_array.specs.declared.fault.ArrayFault.TheVariants as array

-- ONE CHUNK

-- whether the chunk of a slot was written that has this reason afterwards
abbrev pub reply_for : Why → Reply
reply_for why.Rebuilding = reply.Done
reply_for _ = reply.Gone

-- what a chunk of slot j came to, with what is known of the slots afterwards
abbrev pub chunk_as : ℕ → Membership → Result (Unit {0}) ArrayFault → Result Reply Refusal
chunk_as j last (Ok done) = Ok (reply_for (why_of last j))
chunk_as j last (Err fault) = Err (refusal_for fault)

-- How far a rebuild has come after slot j's chunk of stripe t: to the next stripe where the slot is still rebuilt, and as far as
-- before where the stripe was lost. None is under way where an epoch was refused.
abbrev pub rebuild_past : ℕ → ℕ → Membership → Option Rebuild → Result (Unit {0}) ArrayFault
    → Option Rebuild
rebuild_past j t last was (Ok done) =
    rebuild_of (why_of last j) (record { slot = j; stripe = t + 1 })
rebuild_past j t last was (Err (array.Lost stripe counts)) = rebuild_after last was
rebuild_past j t last was (Err other) = None

-- AN ADMISSION AND A PROMOTION

-- what an admission answers
abbrev pub admitted_as : Result (Unit {0}) AdmitFault → Result (Unit {0}) Refusal
admitted_as (Ok done) = Ok tt
admitted_as (Err (admit.TooFew whys)) = Err (TooFew whys)
admitted_as (Err admit.EpochsSpent) = Err EpochsSpent
admitted_as (Err (admit.Gone slot)) = Err (Gone slot)

-- what a promotion of slot j answers: one whose slot was gone dropped it
abbrev pub promotion_as : ℕ → Result (Unit {0}) AdmitFault → Result Progress Refusal
promotion_as j (Ok done) = Ok (Promoted j)
promotion_as j (Err (admit.TooFew whys)) = Err (TooFew whys)
promotion_as j (Err admit.EpochsSpent) = Err EpochsSpent
promotion_as j (Err (admit.Gone slot)) = Ok (Dropped j)

-- an epoch in which this slot is admitted was established, or refused
pub data AdmitsSlot (slot : ℕ) : Result (Unit {0}) Refusal → Snapshot → Snapshot → Type 0 where
  Joined : (answer : Result Slots AdmitFault) (x y : Snapshot)
      → Joins (Admit slot) slot x.member y.member answer x.told y.told
      → AdmitsSlot slot (joined_as answer) x y
