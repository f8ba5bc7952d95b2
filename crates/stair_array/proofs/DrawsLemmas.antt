-- Epochs that draw few times before they stop leave a number to draw.
use Rattle.std.proofs.Common.{◌≡◌, ℕ, ◌+◌, ◌*◌, ◌≤◌, List, refl, sym, ap, ◌∙◌, subst, arith}
use Rattle.std.specs.Prelude.{◌-◌, ◌^◌, IfErr, IsOk, Ok, Err}
use Rattle.stair_model.specs.Sum.{sum_below}
use Rattle.stair_model.proofs.CountLaws.{sum_below_constant, sum_below_le}
use Rattle.stair_rack.specs.RackState.{RackState}
use Rattle.stair_rack.specs.declared.watcher.Event.{Event}
use Rattle.stair_member.specs.Membership.{IsMembership, Membership, why_of}
use Rattle.stair_member.specs.declared.why.Why.{Why}
use Rattle.stair_member.specs.declared.why.Why.TheVariants as why
use Rattle.stair_array.specs.Causes.{AreSpent, HasCause}
use Rattle.stair_array.specs.Draws.{Before, DrawsFew, HadSeen, HasDraws, OnMedium, allowance, most_drawn, weight, weights}
use Rattle.stair_array.specs.Machine.{Answer, EpochsSpent, Recover, Refusal, ReplaceSlot, SetFrozen, SetLabel, Step}
use Rattle.stair_array.specs.Promise.{Performs, Seen}

weight_most : (reason : Why) → weight reason ≤ 2
weight_most why.Here = omega arith
weight_most why.Rebuilding = omega arith
weight_most reason = omega arith

allowance_most : (step : Step) → allowance step ≤ 3
allowance_most Recover = omega arith
allowance_most (SetFrozen frozen) = omega arith
allowance_most (SetLabel label) = omega arith
allowance_most (ReplaceSlot j) = omega arith
allowance_most step = omega arith

-- after a step that began with room for all of a session's draws the last one isn't used up
pub never_spent : (step : Step) (m last : Membership) (x y : RackState) → IsMembership m → (few : DrawsFew step m last x y) → few.draw ≤ most_drawn
    → ¬ (last.drawn ≡ 2 ^ 64 - 1)
never_spent step m last x y rules few room spent =
    let devices = rules.array.limits.devices in
    let each : weights m ≤ sum_below m.array.geometry.n (λ j. 2) =
    sum_below_le m.array.geometry.n (λ j. weight (why_of m j)) (λ j. 2) (λ j below. weight_most (why_of m j)) in
    let all : sum_below m.array.geometry.n (λ j. 2) ≡ m.array.geometry.n * 2 = sum_below_constant m.array.geometry.n 2 in
    let upto : last.drawn + weights last ≤ few.draw + weights m + allowance step = few.few in
    let allowed : allowance step ≤ 3 = allowance_most step in
    let had : few.draw ≤ 2 ^ 64 - 2 ^ 39 = room in
    omega (arith, devices, each, all, upto, allowed, had, spent)

-- a step that admits no slot draws on from what its member had seen
pub draws_on : (step : Step) → ((j : ℕ) → ¬ (step ≡ ReplaceSlot j)) → (m : Membership) (x y : RackState) (draw : ℕ) → HadSeen step m x y draw
    → draw ≡ m.drawn
draws_on step other m x y draw (Before same) = same
draws_on step other m x y draw (OnMedium j k super admits place moment geometry is least) = absurd (other j admits)

-- So a step that admits no slot and began so is done, where it is refused at most for want of a number to draw.
pub done_with_room : (step : Step) → ((j : ℕ) → ¬ (step ≡ ReplaceSlot j)) → (answer : Answer step) (events : List Event) (x y : Seen)
    → (p : Performs step answer events x y) → IsMembership p.was.member → HasDraws p.was.member
    → (HasCause step EpochsSpent p.was p.is.member x.told y.told → AreSpent p.is.member)
    → ((refusal : Refusal) → answer ≡ Err refusal → refusal ≡ EpochsSpent) → IsOk answer
done_with_room step other answer events x y p rules can caused only = by answer refl
  where
    room : p.draws_few.draw ≤ most_drawn
    room =
        subst (λ (n : ℕ). n ≤ most_drawn) (sym (draws_on step other p.was.member x.told y.told p.draws_few.draw p.draws_few.had_seen)) can

    by : (given : Answer step) → answer ≡ given → IsOk answer
    by (Ok done) same = subst (λ (r : Answer step). IsOk r) (sym same) refl
    by (Err refusal) same =
        let cause =
        subst (λ (r : Answer step). IfErr r (λ why. HasCause step why p.was p.is.member x.told y.told))
        (same ∙ ap (λ (why : Refusal). Err why) (only refusal same)) p.caused in
        absurd (never_spent step p.was.member p.is.member x.told y.told rules p.draws_few room (caused cause).spent)
