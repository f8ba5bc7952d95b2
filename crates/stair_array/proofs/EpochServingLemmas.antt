-- An open array while an epoch is established for which it is ready, where no medium comes back: what a crash leaves meanwhile, and how
-- it ends.
use Rattle.std.proofs.Common.{◌≡◌, ℕ, ◌<◌, List, inl, inr, refl, sym, ◌∙◌, subst, arith, true≢false, None, Some, Option}
use Rattle.std.specs.Prelude.{◌⊎◌, IsTrue}
use Rattle.stair_model.specs.Geometry.{Geometry}
use Rattle.stair_model.specs.Slots.{HasSlot, no_slots}
use Rattle.stair_model.proofs.SetLaws.{has_slot-none}
use Rattle.stair_rack.specs.Answers.{IsHistory, Ran, any_call}
use Rattle.stair_rack.specs.Crash.{CrashMayLeave, image_now}
use Rattle.stair_rack.specs.History.{Happening, stopped}
use Rattle.stair_rack.specs.Media.{Image}
use Rattle.stair_rack.specs.Moments.{IsMoment}
use Rattle.stair_rack.specs.Offline.{IsHeld, IsOffline, IsOfflineUntilAttached}
use Rattle.stair_rack.specs.Stretch.{NothingReturned}
use Rattle.stair_rack.specs.RackState.{RackState}
use Rattle.stair_rack.proofs.CrashLemmas.{CrashMayLeave-now}
use Rattle.stair_rack.proofs.MomentLemmas.{moment_between, moment_last, ran_any, ran_before, ran_join}
use Rattle.stair_rack.proofs.OfflineLemmas.{offline_now}
use Rattle.stair_rack.proofs.StretchLemmas.{each_after}
use Rattle.stair_rack.proofs.TidyLemmas.{history_on}
use Rattle.stair_super.specs.Superblock.{Superblock, mark_in}
use Rattle.stair_super.specs.declared.configuration.Configuration.{Configuration}
use Rattle.stair_super.specs.declared.mark.Mark.TheVariants as mark
use Rattle.stair_member.specs.Aims.{admitted, aimed}
use Rattle.stair_member.specs.Current.{IsCurrent, IsFailed}
use Rattle.stair_member.specs.Epochs.{IsIssuing}
use Rattle.stair_member.specs.Establishing.{Establishes}
use Rattle.stair_member.specs.Fencing.{HasStood, IsFencing}
use Rattle.stair_member.specs.Membership.{IsMissing, Membership, why_of}
use Rattle.stair_member.specs.declared.aim.EpochChange.{EpochChange}
use Rattle.stair_member.specs.declared.aim.EpochChange.TheVariants.{Promote}
use Rattle.stair_member.specs.declared.fault.FenceFault.{FenceFault}
use Rattle.stair_member.specs.declared.fault.FenceFault.TheVariants as fence
use Rattle.stair_member.specs.declared.why.Why.{Why}
use Rattle.stair_member.specs.declared.why.Why.TheVariants as why
use Rattle.stair_member.proofs.SuperLemmas.{one_current}
use Rattle.stair_state.specs.Blocks.{Codewords}
use Rattle.stair_state.specs.Represents.{AreSteady, Represents, RepresentsAlone}
use Rattle.stair_state.specs.State.{Change, Content}
use Rattle.stair_state.specs.Tolerance.{IsTolerated, IsToleratedAlone}
use Rattle.stair_state.proofs.OutsideLemmas.{tolerated_alone}
use Rattle.stair_invariant.specs.InSession.{IsAimedContent, IsOfContent, IsReadyFor, state_with}
use Rattle.stair_invariant.specs.Leading.{led_to}
use Rattle.stair_invariant.specs.Returning.{NoneReturns}
use Rattle.stair_invariant.specs.SeatSteps.{EachMayDrop, MayDrop, SeatsMove}
use Rattle.stair_invariant.specs.Session.{ArrayState, IsLiveIn, IsOpenWith, IsRebuiltIn, seats_in}
use Rattle.stair_invariant.proofs.EnoughLeft.{epoch_never_few}
use Rattle.stair_invariant.proofs.LeftOutLemmas.{none_leave, stood_where}
use Rattle.stair_invariant.proofs.OpenWithLemmas.{established_open, keeps_rebuilds}
use Rattle.stair_invariant.proofs.SeatLemmas.{seats_meanwhile}
use Rattle.stair_invariant.proofs.Serving.{StaysWithinToleranceTo, IsGoing, IsServing, tolerated_now}
use Rattle.stair_invariant.proofs.SessionLemmas.{meanwhile}
use Rattle.stair_invariant.proofs.SteadyEndLemmas.{epoch_steady}
use Rattle.stair_invariant.proofs.Stamping.{live_before}
use Rattle.stair_array.proofs.SeatedLemmas.{seated}
use Rattle.stair_array.proofs.ServingLemmas.{goes_on}

module _ (before : List Happening) (a : ArrayState) (words : Codewords) (kept : Content) (doubt : Option Change) (of : IsOfContent a.member words kept)
    (aim : EpochChange) (aims : IsAimedContent aim a.member words kept doubt) (last : Membership) (refusal : Option FenceFault) (old new : RackState)
    (e : Establishes aim a.member last refusal old new) (honest : IsTrue new.honest) (ran_old : Ran any_call before old.history)
    (ready : IsReadyFor aim a.member words old.history) (rebuilt : (slot : ℕ) → aim ≡ Promote slot → IsRebuiltIn a.member slot) where
  abbrev CalmTo : List Happening → Type 0
  CalmTo = StaysWithinToleranceTo NoneReturns a.member.array.geometry before

  -- seats are as they were, or as the aim has them
  abbrev pub SeatsGo : Configuration → Type 0
  SeatsGo array = (array ≡ a.member.array) ⊎ SeatsMove aim (HasSlot e.gone) (seats_in a.member.array) (seats_in array)

  ran : Ran any_call old.history new.history
  ran = let issued = e.issued honest in ran_any {allowed = IsIssuing issued.slots issued.editions} issued.ran

  -- a slot that is dropped at most doesn't become live
  pub not_raised : (array : Configuration) (j : ℕ) → MayDrop (seats_in a.member.array j) (seats_in array j) → ¬ (why_of a.member j ≡ why.Here)
      → IsMissing last j → ¬ (mark_in array j ≡ mark.Live)
  not_raised array j may other missing live =
      other (live_before a.member ready.session.marks array j (subst (λ (g : Geometry). j < g.n) e.geometry missing.below) may live)

  -- nor does any by an aim that drops slots at most
  pub none_raised : ((array : Configuration) → SeatsGo array → EachMayDrop (seats_in a.member.array) (seats_in array)) → (array : Configuration)
      → SeatsGo array → (j : ℕ) → ¬ (why_of a.member j ≡ why.Here) → IsMissing last j
      → (¬ (mark_in array j ≡ mark.Live)) ⊎ IsOfflineUntilAttached before new.history j
  none_raised drops array go j other missing = inl (not_raised array j (drops array go j) other missing)

  epoch_ran : Ran any_call before new.history
  epoch_ran = ran_join {allowed = any_call} ran_old ran

  -- AT EACH MOMENT an image represents the array, with the change in doubt and the seats that its own current superblock has.
  module _ (c : List Happening) (at : IsMoment old.history c new.history) (calm : CalmTo c) where
    upto : Ran any_call before c
    upto = ran_join {allowed = any_call} ran_old (ran_before {allowed = any_call} ran at)

    to_old : IsMoment before old.history c
    to_old = moment_between {a = any_call} {b = any_call} ran_old (ran_before {allowed = any_call} ran at)

    fencing : IsFencing aim e.gone a.member last old.history c new.history
    fencing = record { begun = ready.begun; moment = at; issued = e.issued honest; returned = each_after calm.1 to_old }

    going : ¬ IsTrue (stopped c)
    going = goes_on NoneReturns a.member.array.geometry before c upto calm

    alone_stands : (image : Image) → CrashMayLeave c image → (alone : IsToleratedAlone a.member.array.geometry image)
        → RepresentsAlone (state_with a.member kept doubt alone.current.array) image × SeatsGo alone.current.array
    alone_stands image left alone = (
      meanwhile aim e.gone a.member last words old.history c new.history image ready fencing going left kept doubt of aims alone,
      seats_meanwhile aim e.gone a.member words old.history ready rebuilt last c new.history image alone.current fencing going left alone
          alone.is_current,
    )

    pub epoch_stands : (image : Image) → CrashMayLeave c image
        → (array : Configuration) × RepresentsAlone (state_with a.member kept doubt array) image × SeatsGo array
    epoch_stands image left =
        let alone = tolerated_alone a.member.array.geometry before c image (tolerated_now NoneReturns a.member.array.geometry before c upto calm) left
        in
        let is = alone_stands image left alone in
        (alone.current.array, is.0, is.1)

  -- IN THE END nothing is unsynced, so that the rack represents the array with one list of seats, refused or not.
  pub epoch_represents : CalmTo new.history
      → (array : Configuration) × Represents (state_with a.member kept doubt array) new.history × SeatsGo array
  epoch_represents calm = (
    now.current.array,
    seated a.member kept doubt before new.history ready.begun.member.array.limits history tolerated steady
        (λ image left alone. (alone_stands new.history end calm image left alone).0),
    (alone_stands new.history end calm (image_now new.history) (CrashMayLeave-now new.history) now).1,
  )
    where
      end : IsMoment old.history new.history new.history
      end = moment_last ran.more ran.is

      history : IsHistory new.history
      history = history_on {allowed = any_call} ready.begun.history ran

      tolerated : IsTolerated a.member.array.geometry before new.history
      tolerated = tolerated_now NoneReturns a.member.array.geometry before new.history epoch_ran calm

      now : IsToleratedAlone a.member.array.geometry (image_now new.history)
      now = tolerated_alone a.member.array.geometry before new.history (image_now new.history) tolerated (CrashMayLeave-now new.history)

      steady : AreSteady a.member.array.geometry new.history
      steady =
          epoch_steady aim (admitted aim) a.member a.member last refusal old new e ready.begun honest
          (each_after calm.1 (moment_between {a = any_call} {b = any_call} ran_old ran))
          (goes_on NoneReturns a.member.array.geometry before new.history epoch_ran calm)

  -- Where it isn't refused the array serves on.
  module _ (fine : refusal ≡ None) (on : IsGoing NoneReturns a.member.array.geometry before new.history) where
    none : NothingReturned old.history new.history
    none = each_after on.0 (moment_between {a = any_call} {b = any_call} ran_old ran)

    epoch_stood : HasStood aim e.gone a.member last old.history new.history
    epoch_stood = stood_where aim a.member last refusal old new e fine honest ready.begun none ready.promoted

    pub epoch_serves : (content : Content) → IsOfContent last words content → IsOpenWith before a words old.history
        → ((j : ℕ) → admitted aim ≡ Some j → IsHeld before old.history j) → IsServing NoneReturns before (led_to a last) words content new.history
    epoch_serves content of_last is held =
        let then =
        established_open aim e.gone before a (led_to a last) words old.history new.history is ready held epoch_stood on.1
        (keeps_rebuilds a last is.array e.geometry) in
        record { is_open = then.0; history = then.1.history; of = of_last; knows = then.1 }

  -- Where it is, it isn't for want of slots, if it is for an aim by which live slots stay so, and a slot that it misses becomes live
  -- only where it is offline.
  module _ (stays_live : (j : ℕ) → IsLiveIn a.member j → aimed aim j why.Here ≡ why.Here)
      (raised : (array : Configuration) → SeatsGo array → (j : ℕ) → ¬ (why_of a.member j ≡ why.Here) → IsMissing last j
      → (¬ (mark_in array j ≡ mark.Live)) ⊎ IsOfflineUntilAttached before new.history j)
      (is : IsOpenWith before a words old.history) (calm : CalmTo new.history) where
    tolerated_then : IsTolerated a.member.array.geometry before new.history
    tolerated_then = tolerated_now NoneReturns a.member.array.geometry before new.history epoch_ran calm

    unlive : (current : Superblock) → IsCurrent a.member.array.geometry (image_now new.history) current → (j : ℕ)
        → j < a.member.array.geometry.n → ¬ (why_of a.member j ≡ why.Here) → IsMissing last j
        → IsFailed (IsOffline before new.history) a.member.array.geometry (image_now new.history) current j
    unlive current is_current j below other missing =
        let image = image_now new.history in
        let left = CrashMayLeave-now new.history in
        let alone = tolerated_alone a.member.array.geometry before new.history image tolerated_then left in
        let same : alone.current ≡ current = one_current a.member.array.geometry image alone.current current alone.is_current is_current in
        let go : SeatsGo current.array =
        subst (λ (c : Superblock). SeatsGo c.array) same (alone_stands new.history (moment_last ran.more ran.is) calm image left alone).1 in
        elim (raised current.array go j other missing) [
          | inl not_live ↦ IsFailed.NotLive below (λ live. not_live live.marked)
          | inr off ↦ IsFailed.Offline below (offline_now off)
        ]

    pub never_few : (fault : FenceFault) → refusal ≡ Some fault → (whys : List Why) → ¬ (fault ≡ fence.TooFew whys)
    never_few fault failed =
        epoch_never_few aim before a.member a.member no_slots (none_leave a.member) last fault old new
        (subst (λ (r : Option FenceFault). Establishes aim a.member last r old new) failed e) honest stays_live a.member.array.geometry refl
        tolerated_then unlive (λ j live. is.held j (record { below = live.below; why = inl live.why }))
        (λ j live on. (is.live j live on).large 1 (omega arith)) (λ j live has. absurd (true≢false (sym has ∙ has_slot-none j)))
