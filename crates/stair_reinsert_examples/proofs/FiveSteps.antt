-- A survey of five devices slot by slot: what the outside does before a slot is attached, and whether its device is seen then.
use Rattle.std.specs.Prelude.{◌&&◌, is_some, not as negated}
use Rattle.std.proofs.Common.{◌≡◌, ℕ, ◌<◌, ◌≤◌, List, [], ◌∷◌, ◌++◌, refl, sym, ap, ◌∙◌, subst, arith, Bool, Option, Some, None, false, true, if◌then◌else◌}
use Rattle.std.proofs.lemmas.Bool.{lt-ltb}
use Rattle.stair_model.specs.Slots.{HasSlot, IsSlotSet, Slots}
use Rattle.stair_rack.specs.Answers.{Calls, Ran, Runs, Told, any_call, is_good, is_ready, no_call, reply_if}
use Rattle.stair_rack.specs.History.{Attach, Called, Happening, Read, SlotCall, SlotState, slot_state, stopped}
use Rattle.stair_rack.specs.Media.{has_sector}
use Rattle.stair_rack.specs.Offline.{IsAttached, IsHeld, NoMedium}
use Rattle.stair_rack.specs.Sector.{content}
use Rattle.stair_rack.specs.declared.rack.Got.{Got}
use Rattle.stair_rack.specs.declared.rack.Got.TheVariants as got
use Rattle.stair_rack.specs.declared.rack.Reply.TheVariants.{Done, Gone}
use Rattle.stair_rack.proofs.MomentLemmas.{calls_ran, ran_any, ran_join, ran_none}
use Rattle.stair_rack.proofs.StepLemmas.{slot_after_call}
use Rattle.stair_member.specs.Asked.{AsksBelow, AsksSlot, LeavesSectors, NotThere, There}
use Rattle.stair_member.specs.Editions.{Edition}
use Rattle.stair_state.specs.Blocks.{Codewords}
use Rattle.stair_reinsert.specs.Misled.{empty_after, looked_at, made_of}
use Rattle.stair_reinsert.specs.Still.{IsStill}
use Rattle.stair_reinsert_examples.proofs.FiveDevices.{place_cell}
use Rattle.stair_reinsert_examples.proofs.FiveMoments.{GoesOn, HoldsDevice, same_holds}
use Rattle.stair_reinsert_examples.proofs.FiveSurvey.{Asked, WasGone, WasSeen, asked_past, empty_asked, five_cases, tail_ran}
use Rattle.stair_reinsert.proofs.StillStretch.{still_same}

one_still : (h : List Happening) (j : ℕ) (c : SlotCall) → LeavesSectors j c → IsStill h (Called j c ∷ h)
one_still h j c may = record { more = Called j c ∷ []; is = refl; each = (tt, may) }

-- ANSWERS

attach_done : (h : List Happening) (j n : ℕ) → (slot_state h j).size ≡ Some n → stopped h ≡ false
    → Done ≡ reply_if (is_some (slot_state h j).size && negated (stopped h))
attach_done h j n there going =
    sym
    (ap (λ (o : Option ℕ). reply_if (is_some o && negated (stopped h))) there ∙ ap (λ (b : Bool). reply_if (true && negated b)) going)

attach_gone : (h : List Happening) (j : ℕ) → (slot_state h j).size ≡ None → Gone ≡ reply_if (is_some (slot_state h j).size && negated (stopped h))
attach_gone h j none = sym (ap (λ (o : Option ℕ). reply_if (is_some o && negated (stopped h))) none)

attached_now : (h : List Happening) (j : ℕ) → IsAttached (Called j (Attach Done) ∷ h) j
attached_now h j = ap (λ (b : SlotState). b.attached) (slot_after_call h j (Attach Done))

attached_read : (h : List Happening) (j k : ℕ) (answer : Got) → IsAttached h j → IsAttached (Called j (Read k answer) ∷ h) j
attached_read h j k answer on = ap (λ (b : SlotState). b.attached) (slot_after_call h j (Read k answer)) ∙ on

ready : (h : List Happening) (j : ℕ) → IsAttached h j → stopped h ≡ false → is_ready h j ≡ true
ready h j on going = ap (λ (b : Bool). b && negated (stopped h)) on ∙ ap (λ (b : Bool). true && negated b) going

module _ (words : Codewords) (editions : ℕ → Edition) where
  read_good : (h : List Happening) (j k : ℕ) → k < 2 → IsAttached h j → stopped h ≡ false → HoldsDevice words editions j (slot_state h j)
      → got.Good ≡ (if is_ready h j then (if has_sector (slot_state h j).size k && is_good (content ((slot_state h j).sector k)) then got.Good else got.Bad)
      else got.Gone)
  read_good h j k place on going holds =
      sym
      (ap (λ (b : Bool). if b then (if readable then got.Good else got.Bad) else got.Gone) (ready h j on going)
      ∙ ap (λ (b : Bool). if b then got.Good else got.Bad) is_readable)
    where
      readable : Bool
      readable = has_sector (slot_state h j).size k && is_good (content ((slot_state h j).sector k))

      is_readable : (has_sector (slot_state h j).size k && is_good (content ((slot_state h j).sector k))) ≡ true
      is_readable =
          ap (λ (o : Option ℕ). has_sector o k && is_good (content ((slot_state h j).sector k))) holds.size
          ∙ ap (λ (b : Bool). b && is_good (content ((slot_state h j).sector k))) (lt-ltb k 9 (omega (arith, place)))
          ∙ ap (λ s. is_good (content s)) (holds.sectors k)
          ∙ ap is_good (place_cell words editions j k place)

  holds_on : (h : List Happening) (j : ℕ) (c : SlotCall) → LeavesSectors j c → HoldsDevice words editions j (slot_state h j)
      → HoldsDevice words editions j (slot_state (Called j c ∷ h) j)
  holds_on h j c may holds =
      same_holds words editions j (slot_state h j) (slot_state (Called j c ∷ h) j) (still_same j (one_still h j c may)).0 holds

  module _ (gone : Slots) (gone_formed : IsSlotSet gone) where
    abbrev old : List Happening
    old = made_of words editions

    -- the slot's device is seen, or it is gone, after these acts
    pub data StepOf (j : ℕ) (x y : List Happening) : Type 0 where
      Sees : ¬ HasSlot gone j → (acts : List Happening) → Runs no_call acts x → HoldsDevice words editions j (slot_state (acts ++ x) j)
          → stopped (acts ++ x) ≡ false → y ≡ looked_at j (acts ++ x) → StepOf j x y
      Misses : HasSlot gone j → (acts : List Happening) → Runs no_call acts x → (slot_state (acts ++ x) j).size ≡ None
          → y ≡ Called j (Attach Gone) ∷ (acts ++ x) → StepOf j x y

    -- THE CALLS

    missed : (j : ℕ) (acts x : List Happening) → Runs no_call acts x → (slot_state (acts ++ x) j).size ≡ None
        → Calls x (Called j (Attach Gone) ∷ (acts ++ x)) j (Attach Gone)
    missed j acts x runs none = Told acts runs (attach_gone (acts ++ x) j none) refl

    module _ (j : ℕ) (acts x : List Happening) (runs : Runs no_call acts x) (holds : HoldsDevice words editions j (slot_state (acts ++ x) j))
        (going : stopped (acts ++ x) ≡ false) where
      abbrev attached : List Happening
      attached = Called j (Attach Done) ∷ (acts ++ x)

      abbrev between : List Happening
      between = Called j (Read 0 got.Good) ∷ attached

      holds_attached : HoldsDevice words editions j (slot_state attached j)
      holds_attached = holds_on (acts ++ x) j (Attach Done) tt holds

      holds_between : HoldsDevice words editions j (slot_state between j)
      holds_between = holds_on attached j (Read 0 got.Good) tt holds_attached

      holds_end : HoldsDevice words editions j (slot_state (looked_at j (acts ++ x)) j)
      holds_end = holds_on between j (Read 1 got.Good) tt holds_between

      found : Calls x attached j (Attach Done)
      found = Told acts runs (attach_done (acts ++ x) j 9 holds.size going) refl

      one : Calls attached between j (Read 0 got.Good)
      one = Told [] tt (read_good attached j 0 (omega arith) (attached_now (acts ++ x) j) going holds_attached) refl

      on_between : IsAttached between j
      on_between = attached_read attached j 0 got.Good (attached_now (acts ++ x) j)

      two : Calls between (looked_at j (acts ++ x)) j (Read 1 got.Good)
      two = Told [] tt (read_good between j 1 (omega arith) on_between going holds_between) refl

      ready_between : is_ready between j ≡ true
      ready_between = ready between j on_between going

      ready_end : is_ready (looked_at j (acts ++ x)) j ≡ true
      ready_end = ready (looked_at j (acts ++ x)) j (attached_read between j 1 got.Good on_between) going

    -- ONE SLOT

    pub asks : (j : ℕ) (x y : List Happening) → StepOf j x y → AsksSlot j x y
    asks j x y (Sees seen acts runs holds going is) =
        subst (AsksSlot j x) (sym is)
        (There (attached j acts x runs holds going) (between j acts x runs holds going) got.Good got.Good (found j acts x runs holds going)
        (one j acts x runs holds going) (two j acts x runs holds going))
    asks j x y (Misses has acts runs none is) = subst (AsksSlot j x) (sym is) (NotThere (missed j acts x runs none))

    pub goes_by : (j : ℕ) (x y : List Happening) → StepOf j x y → Ran any_call x y
    goes_by j x y (Sees seen acts runs holds going is) =
        subst (Ran any_call x) (sym is)
        (ran_join (ran_any (calls_ran (found j acts x runs holds going)))
        (ran_join (ran_any (calls_ran (one j acts x runs holds going))) (ran_any (calls_ran (two j acts x runs holds going)))))
    goes_by j x y (Misses has acts runs none is) = subst (Ran any_call x) (sym is) (ran_any (calls_ran (missed j acts x runs none)))

    pub asked_by : (new : List Happening) (j : ℕ) (x y : List Happening) → StepOf j x y → j < 5 → Ran any_call old x → Ran any_call y new
        → (¬ HasSlot gone j → IsHeld old new j) → Asked words editions gone gone_formed new j
    asked_by new j x y (Sees seen acts runs holds going is) below upto rest held =
        WasSeen seen below x (attached j acts x runs holds going) (between j acts x runs holds going) (looked_at j (acts ++ x)) upto
        (found j acts x runs holds going) (one j acts x runs holds going) (two j acts x runs holds going) (ready_between j acts x runs holds going)
        (holds_between j acts x runs holds going) (ready_end j acts x runs holds going) (holds_end j acts x runs holds going)
        (subst (λ (h : List Happening). Ran any_call h new) is rest) (held seen)
    asked_by new j x y (Misses has acts runs none is) below upto rest held =
        WasGone has x (Called j (Attach Gone) ∷ (acts ++ x)) upto (missed j acts x runs none)
        (NoMedium (ap (λ (b : SlotState). b.size) (slot_after_call (acts ++ x) j (Attach Gone)) ∙ none))
        (subst (λ (h : List Happening). Ran any_call h new) is rest)

    -- ALL FIVE, AND THE SLOTS BEHIND THEM

    pub record FiveSteps (x : List Happening) : Type 0 where
      pub x1 : List Happening
      pub x2 : List Happening
      pub x3 : List Happening
      pub x4 : List Happening
      pub s0 : StepOf 0 old x1
      pub s1 : StepOf 1 x1 x2
      pub s2 : StepOf 2 x2 x3
      pub s3 : StepOf 3 x3 x4
      pub s4 : StepOf 4 x4 x

    module _ (x : List Happening) (steps : FiveSteps x) (failed : Slots) (goes : GoesOn words editions failed x) where
      abbrev new : List Happening
      new = empty_after 27 x

      pub asked_below : AsksBelow 32 old new
      asked_below =
          empty_asked words editions failed old x goes (
            steps.x4,
            (
              steps.x3,
              (
                steps.x2,
                (steps.x1, (old, refl, asks 0 old steps.x1 steps.s0), asks 1 steps.x1 steps.x2 steps.s1),
                asks 2 steps.x2 steps.x3 steps.s2,
              ),
              asks 3 steps.x3 steps.x4 steps.s3,
            ),
            asks 4 steps.x4 x steps.s4,
          ) 27

      to_1 : Ran any_call old steps.x1
      to_1 = goes_by 0 old steps.x1 steps.s0

      to_2 : Ran any_call old steps.x2
      to_2 = ran_join to_1 (goes_by 1 steps.x1 steps.x2 steps.s1)

      to_3 : Ran any_call old steps.x3
      to_3 = ran_join to_2 (goes_by 2 steps.x2 steps.x3 steps.s2)

      to_4 : Ran any_call old steps.x4
      to_4 = ran_join to_3 (goes_by 3 steps.x3 steps.x4 steps.s3)

      pub to_5 : Ran any_call old x
      to_5 = ran_join to_4 (goes_by 4 steps.x4 x steps.s4)

      pub rest_5 : Ran any_call x new
      unfolding empty_after
      rest_5 = tail_ran words editions gone gone_formed failed x goes to_5 27 0

      rest_4 : Ran any_call steps.x4 new
      rest_4 = ran_join (goes_by 4 steps.x4 x steps.s4) rest_5

      rest_3 : Ran any_call steps.x3 new
      rest_3 = ran_join (goes_by 3 steps.x3 steps.x4 steps.s3) rest_4

      rest_2 : Ran any_call steps.x2 new
      rest_2 = ran_join (goes_by 2 steps.x2 steps.x3 steps.s2) rest_3

      rest_1 : Ran any_call steps.x1 new
      rest_1 = ran_join (goes_by 1 steps.x1 steps.x2 steps.s1) rest_2

      pub asked_each : ((j : ℕ) → j < 5 → ¬ HasSlot gone j → IsHeld old new j) → ((j : ℕ) → 5 ≤ j → j < 32 → HasSlot gone j) → (j : ℕ) → j < 32
          → Asked words editions gone gone_formed new j
      asked_each held past =
          five_cases (λ j. j < 32 → Asked words editions gone gone_formed new j)
          (λ small. asked_by new 0 old steps.x1 steps.s0 (omega arith) (ran_none old) rest_1 (held 0 (omega arith)))
          (λ small. asked_by new 1 steps.x1 steps.x2 steps.s1 (omega arith) to_1 rest_2 (held 1 (omega arith)))
          (λ small. asked_by new 2 steps.x2 steps.x3 steps.s2 (omega arith) to_2 rest_3 (held 2 (omega arith)))
          (λ small. asked_by new 3 steps.x3 steps.x4 steps.s3 (omega arith) to_3 rest_4 (held 3 (omega arith)))
          (λ small. asked_by new 4 steps.x4 x steps.s4 (omega arith) to_4 rest_5 (held 4 (omega arith)))
          (λ j from small. asked_past words editions gone gone_formed failed x goes to_5 j from small (past j from small))
