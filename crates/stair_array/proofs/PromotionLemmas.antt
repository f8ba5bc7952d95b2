-- What a promotion does to what a session knows of its slots, what it answers, and why it is refused, on any rack.
use Rattle.std.proofs.Common.{◌≡◌, ℕ, ◌<◌, inr, refl, sym, ◌∙◌, subst, None, Option, Some}
use Rattle.std.specs.Prelude.{Err, IsTrue, Ok, Result, ⊤}
use Rattle.std.proofs.lemmas.Bool.{cond-true, eq-eqb}
use Rattle.stair_model.specs.Geometry.{Geometry}
use Rattle.stair_model.specs.Slots.{HasSlot, Slots}
use Rattle.stair_rack.specs.Count.{Rose}
use Rattle.stair_rack.specs.declared.rack.Reply.TheVariants as reply
use Rattle.stair_rack.proofs.RackStateLemmas.{gones_wider, later_none}
use Rattle.stair_member.specs.Epochs.{IsRefusedBy}
use Rattle.stair_member.specs.Establishing.{Joins, refusal_in}
use Rattle.stair_member.specs.Membership.{IsHere, Membership, why_of}
use Rattle.stair_member.specs.declared.aim.EpochChange.TheVariants.{Promote}
use Rattle.stair_member.specs.declared.fault.AdmitFault.{AdmitFault}
use Rattle.stair_member.specs.declared.fault.AdmitFault.TheVariants as admit
use Rattle.stair_member.specs.declared.fault.FenceFault.{FenceFault}
use Rattle.stair_member.specs.declared.fault.FenceFault.TheVariants as fence
use Rattle.stair_member.specs.declared.why.Why.TheVariants as why
use Rattle.stair_invariant.specs.Effects.{Snapshot}
use Rattle.stair_invariant.specs.Session.{IsArray, IsLiveIn, IsRebuiltIn}
use Rattle.stair_array.specs.Calls.{answer_of, refused}
use Rattle.stair_array.specs.Machine.{Dropped, IsFinal, Progress, Promoted, Refusal}
use Rattle.stair_array.specs.Mends.{Joined, Promotes, SyncsSlot, Unsynced, promoted_as}
use Rattle.stair_array.specs.Promise.{Stops, unopened}
use Rattle.stair_array.proofs.AnsweredLemmas.{IsLeftOut, epoch_left_out, honest_before}
use Rattle.stair_array.proofs.CauseLemmas.{epoch_array}
use Rattle.stair_array.proofs.PerformsLemmas.{answered_err, final_refused, goes_on}
use Rattle.stair_array.proofs.PromotePartLemmas.{IsRebuildPart, part_rebuilds, promotion_rebuilds, rebuilds_join, rebuilds_left_out}
use Rattle.stair_array.proofs.RebuildPartLemmas.{falls_array, falls_gone, falls_left_out, falls_part, falls_stops, falls_why, gone_rose, sync_falls, sync_left_out, sync_part}

-- WHAT IS ANSWERED OF IT

-- where the array doesn't stop an epoch stands
joined_stands : (j : ℕ) (given : Result Slots AdmitFault) → ¬ Stops (promoted_as j given) → refusal_in given ≡ None
joined_stands j (Ok fallen) going = refl
joined_stands j (Err (admit.TooFew whys)) going = absurd (going tt)
joined_stands j (Err admit.EpochsSpent) going = absurd (going tt)
joined_stands j (Err (admit.Gone slot)) going = refl

joined_err : (j : ℕ) (given : Result Slots AdmitFault) (why : Refusal) → promoted_as j given ≡ Err why
    → (fault : FenceFault) × (refusal_in given ≡ Some fault) × (why ≡ refused fault)
joined_err j (Ok fallen) why is = absurd (cc)
joined_err j (Err (admit.TooFew whys)) why is = (fence.TooFew whys, refl, (let same : why ≡ refused (fence.TooFew whys) = cc in same))
joined_err j (Err admit.EpochsSpent) why is = (fence.EpochsSpent, refl, (let same : why ≡ refused fence.EpochsSpent = cc in same))
joined_err j (Err (admit.Gone slot)) why is = absurd (cc)

pub rebuilt_here : (m : Membership) (j : ℕ) → IsRebuiltIn m j → IsHere m j
rebuilt_here m j rebuilt = record { below = rebuilt.below; why = inr rebuilt.why }

-- an answer of a step that came to no promotion, and whose slot didn't fall: nothing, a chunk, or a refusal that isn't for good
abbrev pub IsBeside : Result Progress Refusal → Type 0
IsBeside (Ok (Promoted j)) = ⊥
IsBeside (Ok (Dropped j)) = ⊥
IsBeside (Ok progress) = ⊤
IsBeside (Err refusal) = ¬ IsFinal refusal

pub dropped_never : (j : ℕ) (refusal : Option FenceFault) → ¬ IsBeside (answer_of (Dropped j) refusal)
dropped_never j None is = is
dropped_never j (Some fault) is = is (final_refused fault)

joined_never : (j : ℕ) (given : Result Slots AdmitFault) → ¬ IsBeside (promoted_as j given)
joined_never j (Ok fallen) is = is
joined_never j (Err (admit.TooFew whys)) is = is tt
joined_never j (Err admit.EpochsSpent) is = is tt
joined_never j (Err (admit.Gone slot)) is = is

pub promotes_never : (j : ℕ) (answer : Result Progress Refusal) (x z : Snapshot) → Promotes j answer x z → ¬ IsBeside answer
promotes_never j _ _ _ (Unsynced refusal x y z syncs drops) = dropped_never j refusal
promotes_never j _ _ _ (Joined given x y z syncs joins) = joined_never j given

-- AN EPOCH THAT PROMOTES, after a sync
module _ (j : ℕ) (given : Result Slots AdmitFault) (x y z : Snapshot) (syncs : SyncsSlot j reply.Done x y)
    (joins : Joins (Promote j) j y.member z.member given y.told z.told) (array : IsArray (unopened x.member)) (rebuilt : IsRebuiltIn x.member j) where
  array_y : IsArray (unopened y.member)
  array_y = subst (λ (m : Membership). IsArray (unopened m)) (sym syncs.member) array

  first : IsRebuildPart x y
  first = part_rebuilds x y array.marks (sync_part j reply.Done x y syncs array.member)

  second : IsRebuildPart y z
  second =
      promotion_rebuilds j y.member z.member (refusal_in given) y.told z.told joins.establishes array_y.member array_y.marks
      (subst (λ (m : Membership). IsRebuiltIn m j) (sym syncs.member) rebuilt)

  joined_part : IsRebuildPart x z
  joined_part = rebuilds_join x y z first second

  joined_left_out : IsTrue z.told.honest → IsLeftOut x z
  joined_left_out honest =
      rebuilds_left_out x y z first second honest
      (sync_left_out j reply.Done x y syncs refl (honest_before y.told z.told second.after honest))
      (epoch_left_out (Promote j) y.member y.member z.member (refusal_in given) y.told z.told joins.establishes honest)

  below : j < z.member.array.geometry.n
  below = subst (λ (g : Geometry). j < g.n) (sym joined_part.goes_on.geometry) rebuilt.below

  below_y : j < y.member.array.geometry.n
  below_y = subst (λ (m : Membership). j < m.array.geometry.n) (sym syncs.member) rebuilt.below

  joined_live : refusal_in given ≡ None → ¬ HasSlot joins.establishes.gone j → IsLiveIn z.member j
  joined_live fine kept =
      record { below = below; why = (joins.establishes.done fine).whys j below_y kept ∙ cond-true _ _ _ (eq-eqb j j refl) }

  joined_rose : HasSlot joins.establishes.gone j → Rose (x.told.gones j) (z.told.gones j)
  joined_rose has =
      gones_wider x.told y.told z.told z.told first.after.later second.after.later.honest second.after.later.counts (later_none z.told) j
      (joins.establishes.were_gone.rose j has)

-- A PROMOTION

module _ (j : ℕ) where
  pub promotes_part : (answer : Result Progress Refusal) (x z : Snapshot) → Promotes j answer x z → IsArray (unopened x.member)
      → IsRebuiltIn x.member j → IsRebuildPart x z
  promotes_part _ _ _ (Unsynced refusal x y z syncs drops) array rebuilt =
      part_rebuilds x z array.marks
      (falls_part j refusal x z (sync_falls j refusal x y z syncs drops) array.member (rebuilt_here x.member j rebuilt))
  promotes_part _ _ _ (Joined given x y z syncs joins) array rebuilt = joined_part j given x y z syncs joins array rebuilt

  pub promotes_left_out : (answer : Result Progress Refusal) (x z : Snapshot) → Promotes j answer x z → IsArray (unopened x.member)
      → IsRebuiltIn x.member j → IsTrue z.told.honest → IsLeftOut x z
  promotes_left_out _ _ _ (Unsynced refusal x y z syncs drops) array rebuilt =
      falls_left_out j refusal x z (sync_falls j refusal x y z syncs drops) array.member (rebuilt_here x.member j rebuilt)
  promotes_left_out _ _ _ (Joined given x y z syncs joins) array rebuilt = joined_left_out j given x y z syncs joins array rebuilt

  pub promotes_array : (answer : Result Progress Refusal) (x z : Snapshot) → Promotes j answer x z → IsArray (unopened x.member)
      → IsRebuiltIn x.member j → ¬ Stops answer → IsArray (unopened z.member)
  promotes_array _ _ _ (Unsynced refusal x y z syncs drops) array rebuilt going =
      falls_array j refusal x z (sync_falls j refusal x y z syncs drops) array.member (rebuilt_here x.member j rebuilt)
      (goes_on (Dropped j) refusal going) array
  promotes_array _ _ _ (Joined given x y z syncs joins) array rebuilt going =
      epoch_array (Promote j) y.member z.member (refusal_in given) y.told z.told joins.establishes (joined_stands j given going)

  pub promotes_refused : (answer : Result Progress Refusal) (x z : Snapshot) → Promotes j answer x z → IsArray (unopened x.member)
      → IsRebuiltIn x.member j → (why : Refusal) → answer ≡ Err why → (fault : FenceFault) × (why ≡ refused fault) × IsRefusedBy z.member fault
  promotes_refused _ _ _ (Unsynced refusal x y z syncs drops) array rebuilt why is =
      let by = answered_err (Dropped j) refusal why is in
      let stops =
      falls_stops j refusal x z (sync_falls j refusal x y z syncs drops) array.member (rebuilt_here x.member j rebuilt) by.0 by.1 in
      (by.0, by.2, stops.by)
  promotes_refused _ _ _ (Joined given x y z syncs joins) array rebuilt why is =
      let by = joined_err j given why is in (by.0, by.2, (joins.establishes.refused by.0 by.1).0)

  -- where it is promoted it is live
  pub promotes_live : (answer : Result Progress Refusal) (x z : Snapshot) → Promotes j answer x z → IsArray (unopened x.member)
      → IsRebuiltIn x.member j → (i : ℕ) → answer ≡ Ok (Promoted i) → (j ≡ i) × IsLiveIn z.member j
  promotes_live _ _ _ (Unsynced None x y z syncs drops) array rebuilt i is = absurd (cc)
  promotes_live _ _ _ (Unsynced (Some fault) x y z syncs drops) array rebuilt i is = absurd (cc)
  promotes_live _ _ _ (Joined (Ok fallen) x y z syncs joins) array rebuilt i is =
      ((let same : j ≡ i = cc in same), joined_live j (Ok fallen) x y z syncs joins array rebuilt refl joins.told)
  promotes_live _ _ _ (Joined (Err (admit.TooFew whys)) x y z syncs joins) array rebuilt i is = absurd (cc)
  promotes_live _ _ _ (Joined (Err admit.EpochsSpent) x y z syncs joins) array rebuilt i is = absurd (cc)
  promotes_live _ _ _ (Joined (Err (admit.Gone slot)) x y z syncs joins) array rebuilt i is = absurd (cc)

  -- where it is dropped it was gone
  pub promotes_dropped : (answer : Result Progress Refusal) (x z : Snapshot) → Promotes j answer x z → IsArray (unopened x.member)
      → IsRebuiltIn x.member j → (i : ℕ) → answer ≡ Ok (Dropped i)
      → (j ≡ i) × (why_of z.member j ≡ why.Gone) × Rose (x.told.gones j) (z.told.gones j)
  promotes_dropped _ _ _ (Unsynced None x y z syncs drops) array rebuilt i is =
      let falls = sync_falls j None x y z syncs drops in
      let here = rebuilt_here x.member j rebuilt in (
        (let same : j ≡ i = cc in same),
        falls_why j None x z falls array.member here,
        gone_rose x.member j x.told z.told (falls_gone j None x z falls array.member here),
      )
  promotes_dropped _ _ _ (Unsynced (Some fault) x y z syncs drops) array rebuilt i is = absurd (cc)
  promotes_dropped _ _ _ (Joined (Ok fallen) x y z syncs joins) array rebuilt i is = absurd (cc)
  promotes_dropped _ _ _ (Joined (Err (admit.TooFew whys)) x y z syncs joins) array rebuilt i is = absurd (cc)
  promotes_dropped _ _ _ (Joined (Err admit.EpochsSpent) x y z syncs joins) array rebuilt i is = absurd (cc)
  promotes_dropped _ _ _ (Joined (Err (admit.Gone slot)) x y z syncs joins) array rebuilt i is = (
    (let same : j ≡ i = cc in same),
    joins.establishes.were_gone.dropped j joins.told.1,
    joined_rose j (Err (admit.Gone slot)) x y z syncs joins array rebuilt joins.told.1,
  )
