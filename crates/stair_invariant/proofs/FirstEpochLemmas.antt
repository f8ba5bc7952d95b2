-- The first fence of an opening, by what its contract says.
use Rattle.std.proofs.Common.{◌≡◌, List, sym, ◌∙◌, subst, true≢false, None}
use Rattle.std.specs.Prelude.{IsTrue, Ok, Result}
use Rattle.std.proofs.lemmas.List.{ext_get_or}
use Rattle.stair_model.specs.Slots.{Slots, no_slots}
use Rattle.stair_model.proofs.SetLaws.{has_slot-none}
use Rattle.stair_rack.specs.History.{Happening}
use Rattle.stair_rack.specs.Moments.{IsMoment}
use Rattle.stair_rack.specs.Stretch.{NothingReturned}
use Rattle.stair_rack.specs.RackState.{RackState}
use Rattle.stair_member.specs.Epochs.{Issued}
use Rattle.stair_member.specs.Establishing.{Fences, Leaves}
use Rattle.stair_member.specs.Fencing.{HasStood, IsBegun, IsFencing}
use Rattle.stair_member.specs.Membership.{Membership}
use Rattle.stair_member.specs.declared.aim.EpochChange.TheVariants.{Fence}
use Rattle.stair_member.specs.declared.fault.FenceFault.{FenceFault}
use Rattle.stair_member.specs.declared.why.Why.TheVariants.{Here}
use Rattle.stair_invariant.proofs.LeftOutLemmas.{stood_by}

-- a member that no slot left is as it was
none_left : (m start : Membership) → Leaves no_slots m start → start ≡ m
none_left m start leaves =
    let whys : start.whys ≡ m.whys =
    ext_get_or Here start.whys m.whys leaves.size (λ j below. leaves.others j (λ has. true≢false (sym has ∙ has_slot-none j))) in
    λ i. record { array = leaves.array i; drawn = leaves.drawn i; whys = whys i; places = leaves.places i }

-- up to a moment at which nothing has come back it is a fence by the member,
pub first_fencing : (m last : Membership) (answer : Result Slots FenceFault) (old new : RackState) (h : List Happening)
    → Fences no_slots m last answer old new → IsBegun None m old.history → IsTrue new.honest → IsMoment old.history h new.history
    → NothingReturned old.history h → (gone : Slots) × IsFencing Fence gone m last old.history h new.history
first_fencing m last answer old new h e begun honest at none = (
  e.establishes.gone,
  record {
    begun = begun;
    moment = at;
    issued =
        subst (λ (x : Membership). Issued Fence e.establishes.gone x last old.history new.history) (none_left m e.start e.leaves) (e.establishes.issued honest);
    returned = none;
  },
)

-- and if it isn't refused its epoch stands.
pub first_stood : (m last : Membership) (fallen : Slots) (old new : RackState) → Fences no_slots m last (Ok fallen) old new
    → IsBegun None m old.history → IsTrue new.honest → NothingReturned old.history new.history
    → (gone : Slots) × HasStood Fence gone m last old.history new.history
first_stood m last fallen old new e begun honest none =
    let same = none_left m e.start e.leaves in (
      e.establishes.gone,
      subst (λ (x : Membership). HasStood Fence e.establishes.gone x last old.history new.history) same
          (stood_by Fence e.start last old new e.establishes honest
          (subst (λ (x : Membership). IsBegun None x old.history) (sym same) begun) none (λ slot never. absurd (cc))),
    )
