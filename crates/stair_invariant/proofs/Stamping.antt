-- An open array while an epoch is established that neither admits nor promotes a slot, and by which laws it is led on, whether media come
-- back or not: a frozen mark or a label is changed so.
use Rattle.std.proofs.Common.{◌≡◌, ◌≢◌, ℕ, ◌<◌, List, None, Option, Some, inl, inr, refl, sym, ap, ◌∙◌}
use Rattle.std.specs.Prelude.{IsTrue}
use Rattle.stair_model.specs.Slots.{no_slots}
use Rattle.stair_rack.specs.Answers.{IsHistory}
use Rattle.stair_rack.specs.Crash.{CrashMayLeave}
use Rattle.stair_rack.specs.History.{Happening}
use Rattle.stair_rack.specs.Media.{Image}
use Rattle.stair_rack.specs.Moments.{IsMoment}
use Rattle.stair_rack.specs.RackState.{RackState}
use Rattle.stair_super.specs.Superblock.{mark_in}
use Rattle.stair_super.specs.declared.configuration.Configuration.{Configuration}
use Rattle.stair_super.specs.declared.mark.Mark.TheVariants as mark
use Rattle.stair_member.specs.Aims.{IsAimed, admitted, aimed, mark_for}
use Rattle.stair_member.specs.Establishing.{Establishes}
use Rattle.stair_member.specs.Membership.{IsMembership, Membership, why_of}
use Rattle.stair_member.specs.Seats.{Seat}
use Rattle.stair_member.specs.declared.aim.EpochChange.{EpochChange}
use Rattle.stair_member.specs.declared.aim.EpochChange.TheVariants.{Admit, Fence, Promote, Stamp}
use Rattle.stair_member.specs.declared.fault.FenceFault.{FenceFault}
use Rattle.stair_member.specs.declared.fault.FenceFault.TheVariants as fence
use Rattle.stair_member.specs.declared.why.Why.{Why}
use Rattle.stair_member.specs.declared.why.Why.TheVariants as why
use Rattle.stair_state.specs.Blocks.{Codewords}
use Rattle.stair_state.specs.State.{Change, Content, changed_if}
use Rattle.stair_invariant.specs.InSession.{IsAimedContent, IsOfContent}
use Rattle.stair_invariant.specs.Leading.{led_to}
use Rattle.stair_invariant.specs.Returning.{Returning}
use Rattle.stair_invariant.specs.SeatSteps.{EachMayDrop, MayDrop}
use Rattle.stair_invariant.specs.Session.{ArrayState, IsOpenWith, seats_in}
use Rattle.stair_invariant.proofs.ChangingLemmas.{live_here}
use Rattle.stair_invariant.proofs.LeftOutLemmas.{none_leave}
use Rattle.stair_invariant.proofs.OpenWithLemmas.{amid_of, keeps_rebuilds, open_after}
use Rattle.stair_invariant.proofs.SeatLemmas.{IsListed, apart_drops}
use Rattle.stair_invariant.proofs.Serving.{StaysWithinToleranceTo, IsGoing, IsServing, StandsAs, StandsIn}

-- The epoch is for this: it neither admits nor promotes, and says the rest of the content, with the change in doubt, which is of no block.
pub record IsPlain (aim : EpochChange) (m : Membership) (words : Codewords) (kept : Content) (doubt : Option Change) : Type 0 where
  pub admits : admitted aim ≡ None
  pub promotes : (j : ℕ) → aim ≢ Promote j
  pub says : IsAimedContent aim m words kept doubt
  pub blocks : (changed_if doubt kept).blocks ≡ kept.blocks

-- a slot that stays keeps its reason then
pub plain_aimed : (aim : EpochChange) → admitted aim ≡ None → ((j : ℕ) → aim ≢ Promote j) → (j : ℕ) (w : Why) → aimed aim j w ≡ w
plain_aimed Fence none never j w = refl
plain_aimed (Stamp frozen label) none never j w = refl
plain_aimed (Admit slot) none never j w = absurd (cc)
plain_aimed (Promote slot) none never j w = absurd (never slot refl)

-- such an epoch drops slots at most
pub plain_drops : (aim : EpochChange) (gone : ℕ → Type 0) (m : Membership) (named : Configuration) → IsMembership m → IsListed named
    → ((j : ℕ) → j < m.array.geometry.n → mark_in m.array j ≡ mark_for (why_of m j)) → admitted aim ≡ None → ((j : ℕ) → aim ≢ Promote j)
    → IsAimed aim gone m named → EachMayDrop (seats_in m.array) (seats_in named)
plain_drops aim gone m named rules listed marks none never is j =
    apart_drops aim gone m named rules listed marks is j (plain_aimed aim none never j (why_of m j))
    (λ joins. let some : None ≡ Some j = sym none ∙ joins in absurd (cc))

-- where slots were dropped at most, one that is marked live was live to the member
pub live_before : (m : Membership) → ((i : ℕ) → i < m.array.geometry.n → mark_in m.array i ≡ mark_for (why_of m i)) → (now : Configuration) (j : ℕ)
    → j < m.array.geometry.n → MayDrop (seats_in m.array j) (seats_in now j) → mark_in now j ≡ mark.Live → why_of m j ≡ why.Here
live_before m marked now j below (inr fell) live =
    absurd (let never : mark.Live ≡ mark.Down = sym live ∙ ap (λ (s : Seat). s.mark) fell.1 in cc)
live_before m marked now j below (inl same) live =
    live_here (why_of m j) (sym (marked j below) ∙ sym (ap (λ (s : Seat). s.mark) same) ∙ live)

-- Once it stands the record is led on, whichever media come back.
pub plain_open : (aim : EpochChange) (before : List Happening) (a : ArrayState) (words : Codewords) (last : Membership) (old new : RackState)
    → IsHistory old.history → IsOpenWith before a words old.history → admitted aim ≡ None → ((j : ℕ) → aim ≢ Promote j)
    → Establishes aim a.member last None old new → IsTrue new.honest → IsOpenWith before (led_to a last) words new.history
plain_open aim before a words last old new history is none never e honest =
    open_after aim no_slots e.gone before a (led_to a last) a.member old.history new.history (amid_of before a words old.history is) history
    (none_leave a.member) (λ j joins. absurd (let some : None ≡ Some j = sym none ∙ joins in cc)) (e.issued honest) e.rules (e.done refl)
    e.were_gone.dropped (e.on_disk honest refl) (λ j promotes. absurd (never j promotes)) (keeps_rebuilds a last is.array e.geometry) words is.live
    (λ j promotes. absurd (never j promotes)) is.rebuilt

-- THE LAWS

pub record LeadsStamps (returning : Returning) : Type 0 where
  -- at each moment of it, refused or not, an image represents the state with the change in doubt
  pub moments : (before : List Happening) (a : ArrayState) (words : Codewords) (kept : Content) (doubt : Option Change) (aim : EpochChange)
      (last : Membership) (refusal : Option FenceFault) (old new : RackState) → IsServing returning before a words kept old.history
      → IsPlain aim a.member words kept doubt → Establishes aim a.member last refusal old new → IsTrue new.honest → (c : List Happening)
      → IsMoment old.history c new.history → StaysWithinToleranceTo returning a.member.array.geometry before c → (image : Image) → CrashMayLeave c image
      → StandsIn returning a.member kept doubt image
  -- so does the rack in the end
  pub ended : (before : List Happening) (a : ArrayState) (words : Codewords) (kept : Content) (doubt : Option Change) (aim : EpochChange)
      (last : Membership) (refusal : Option FenceFault) (old new : RackState) → IsServing returning before a words kept old.history
      → IsPlain aim a.member words kept doubt → Establishes aim a.member last refusal old new → IsTrue new.honest
      → StaysWithinToleranceTo returning a.member.array.geometry before new.history → StandsAs returning a.member kept doubt new.history
  -- where it isn't refused, and its epoch says that the change was made, the array serves the content with it
  pub serves : (before : List Happening) (a : ArrayState) (words : Codewords) (kept : Content) (doubt : Option Change) (aim : EpochChange)
      (last : Membership) (old new : RackState) → IsServing returning before a words kept old.history → IsPlain aim a.member words kept doubt
      → Establishes aim a.member last None old new → IsTrue new.honest → IsOfContent last words (changed_if doubt kept)
      → IsGoing returning a.member.array.geometry before new.history
      → IsServing returning before (led_to a last) words (changed_if doubt kept) new.history
  -- it isn't refused for want of slots
  pub enough : (before : List Happening) (a : ArrayState) (words : Codewords) (kept : Content) (doubt : Option Change) (aim : EpochChange)
      (last : Membership) (whys : List Why) (old new : RackState) → IsServing returning before a words kept old.history
      → IsPlain aim a.member words kept doubt → Establishes aim a.member last (Some (fence.TooFew whys)) old new → IsTrue new.honest
      → StaysWithinToleranceTo returning a.member.array.geometry before new.history → ⊥
