-- At each moment of the parts of a recovery, whatever a crash leaves represents the array before its redo or after it.
use Rattle.std.proofs.Common.{◌≡◌, ℕ, ◌<◌, List, inl, inr, refl, sym, ◌∙◌, subst, arith, None, Some, Option, true, false}
use Rattle.std.specs.Prelude.{◌⊎◌, IsTrue}
use Rattle.std.proofs.lemmas.Bool.{false≢true}
use Rattle.stair_model.specs.CellSet.{HasCell}
use Rattle.stair_model.specs.Geometry.{Geometry, IsWithinLimits, sectors_needed}
use Rattle.stair_model.specs.Slots.{HasSlot, Slots}
use Rattle.stair_model.specs.Stripe.{Stripe, cell}
use Rattle.stair_rack.specs.Answers.{Ran, any_call}
use Rattle.stair_rack.specs.History.{Happening, slot_state, stopped}
use Rattle.stair_rack.specs.Moments.{AtEveryMoment, IsMoment}
use Rattle.stair_rack.specs.Offline.{IsHeld, IsOfflineUntilAttached}
use Rattle.stair_rack.specs.Placed.{Placed}
use Rattle.stair_rack.specs.Reading.{IsReadOf}
use Rattle.stair_rack.specs.Sector.{damaged}
use Rattle.stair_rack.specs.Stretch.{NothingReturned}
use Rattle.stair_rack.specs.RackState.{IsGone, RackState}
use Rattle.stair_rack.proofs.KeepingLemmas.{phase_ran}
use Rattle.stair_rack.proofs.MomentLemmas.{at_every_from, at_every_join, at_last, at_moment, moment_between, moment_last, ran_any, ran_before, ran_join}
use Rattle.stair_rack.proofs.OfflineLemmas.{stopped_on}
use Rattle.stair_rack.proofs.StretchLemmas.{each_after, each_before}
use Rattle.stair_super.specs.declared.configuration.Configuration.{Configuration}
use Rattle.stair_member.specs.Membership.{IsHere, Membership, why_of}
use Rattle.stair_member.specs.declared.fault.FenceFault.{FenceFault}
use Rattle.stair_member.specs.declared.why.Why.TheVariants as why
use Rattle.stair_journal.specs.Bodies.{IsBodySector}
use Rattle.stair_journal.specs.Gate.{closed_gate, open_gate}
use Rattle.stair_journal.specs.Gates.{IsGateSector}
use Rattle.stair_journal.specs.Journalling.{gate_writes}
use Rattle.stair_journal.specs.declared.body.Body.{Body}
use Rattle.stair_journal.specs.declared.redo.Redo.{Redo}
use Rattle.stair_journal.proofs.WritesLemmas.{gate_writes_is}
use Rattle.stair_state.specs.Blocks.{Codewords}
use Rattle.stair_state.specs.Redoing.{AtRest, IsIn, IsRedoing, Placing, Redoing, Stage, Uncommitted}
use Rattle.stair_state.specs.State.{Change, Content}
use Rattle.stair_state.proofs.RecoveryLemmas.{closing}
use Rattle.stair_state.proofs.RedoPhaseLemmas.{large_some}
use Rattle.stair_invariant.specs.Effects.{AreLive, AreUnopened, DoesStage, FindsBody, FindsRedo, FencesGone, Snapshot, Redoes, Replays, snapshot}
use Rattle.stair_invariant.specs.Opening.{IsRecovering, IsToldBy}
use Rattle.stair_invariant.specs.Session.{IsLiveIn}
use Rattle.stair_invariant.specs.UnderWay.{IsInUse, IsUnderWay}
use Rattle.stair_invariant.proofs.FindsLemmas.{found_ran, honest_back, live_here}
use Rattle.stair_invariant.proofs.HonestLemmas.{found_honest, honest_first, left_honest, mid_honest}
use Rattle.stair_invariant.proofs.PhaseMoments.{MayBeIn, Says, Stands, led_moments, of_left, phase_moments}
use Rattle.stair_invariant.proofs.ReadOnLemmas.{lasts, recovering_read, used_read}
use Rattle.stair_invariant.proofs.RedoMoments.{all_moments}
use Rattle.stair_invariant.proofs.RedoingLemmas.{out_ran, redo_ran}
use Rattle.stair_invariant.proofs.ReplayLemmas.{gates_beside, gates_then, opening_ends, opening_stays, opens_gates}

module _ (a : Redoing) (limits : IsWithinLimits a.geometry) (old_words new_words : Codewords) (start : List Happening) (content : Content)
    (change : Option Change) (first : Configuration) where
  abbrev StandsSo : List Happening → List Happening → Type 0
  StandsSo = Stands a limits start content change first

  abbrev SaysSo : Membership → Type 0
  SaysSo = Says a limits start content change first

  may_be : (stage : Stage) → (stage ≡ AtRest) ⊎ (IsRedoing a × ((stage ≡ Uncommitted) ⊎ (stage ≡ Placing))) → MayBeIn a stage
  may_be stage (inl rest) = inl rest
  may_be stage (inr redo) = inr redo.0

  -- READS, and what is left out after them

  module _ (stage : Stage) (slots : Slots) (sectors : ℕ → Type 0) (gone : Slots) (refusal : Option FenceFault) (x y : Snapshot) (mid : RackState)
      (is : IsRecovering a stage old_words new_words start x.member x.told.history)
      (ran : Ran (IsReadOf (HasSlot slots) sectors) x.told.history mid.history) (here : (j : ℕ) → HasSlot gone j → IsHere x.member j)
      (were_gone : (j : ℕ) → HasSlot gone j → IsGone j x.told mid) (leaves : FencesGone gone refusal (snapshot x.member mid) y)
      (first_honest : IsTrue mid.honest) (honest : IsTrue y.told.honest) (says : SaysSo x.member) where
    at : (c : List Happening) → IsMoment x.told.history c mid.history → NothingReturned x.told.history c
        → IsRecovering a stage old_words new_words start x.member c
    at c moment none =
        recovering_read a stage old_words new_words start x.member {slots = HasSlot slots} {sectors = sectors} x.told.history c
        (ran_before {allowed = IsReadOf (HasSlot slots) sectors} ran moment) none is

    in_the_end : IsMoment x.told.history mid.history mid.history
    in_the_end = moment_last ran.more ran.is

    -- a slot that was gone bears nothing
    bare : NothingReturned x.told.history mid.history → ¬ IsTrue (stopped mid.history) → (j : ℕ) → HasSlot gone j → why_of x.member j ≡ why.Here
        → ((slot_state mid.history j).attached ≡ false) × ((k : ℕ) → (slot_state mid.history j).sector k ≡ damaged)
    bare none going j has up =
        elim ((at mid.history in_the_end none).way.epoch.own j (here j has)) [
          | inr off ↦ off
          | inl on ↦ absurd (never on.0)
        ]
      where
        never : (slot_state mid.history j).attached ≡ true → ⊥
        never on =
            let used : IsInUse x.member x.told.history j =
            used_read a stage old_words new_words start x.member {slots = HasSlot slots} {sectors = sectors} x.told.history mid.history ran none is j
            (record { below = (here j has).below; why = up }, on) in
            by
            ((were_gone j has).shut first_honest x.told.history
            (IsHeld.InUse used.1 (large_some a.geometry (slot_state x.told.history j).size (is.way.large j used)) (omega arith)))
          where
            by : IsOfflineUntilAttached x.told.history mid.history j → ⊥
            by (IsOfflineUntilAttached.RackStopped stops) = going stops
            by (IsOfflineUntilAttached.Unattached off pulled) = false≢true (sym off ∙ on)

    pub read_moments : AtEveryMoment (StandsSo x.told.history) x.told.history y.told.history
    read_moments =
        led_moments a limits start content change first stage stage (may_be stage is.begun) (may_be stage is.begun) gone refusal x y mid
        (ran_any {allowed = IsReadOf (HasSlot slots) sectors} ran) here leaves honest (λ c moment none. (at c moment none).way)
        (λ none going. (at mid.history in_the_end none).way) bare says

    -- and what the member says then
    pub read_says : NothingReturned x.told.history mid.history → FencesGone gone None (snapshot x.member mid) y → SaysSo y.member
    read_says none done =
        of_left a limits start content change first gone stage (snapshot x.member mid) y (at mid.history in_the_end none).way here done says

  -- FINDING A REDO

  module _ (stage : Stage) where
    pub finding_moments : (redo : Option Redo) (opened : Slots) (refusal : Option FenceFault) (x z : Snapshot) → FindsRedo redo opened refusal x z
        → IsRecovering a stage old_words new_words start x.member x.told.history → IsTrue z.told.honest → SaysSo x.member
        → AtEveryMoment (StandsSo x.told.history) x.told.history z.told.history
    finding_moments _ _ _ _ _ (FindsRedo.Found gates live mid x are reads none) is honest says =
        read_moments stage live IsGateSector gates.gone None x (snapshot x.member mid) mid is (reads.ran honest)
        (λ j has. live_here x.member live are j (reads.live_gone j has)) reads.gone (FencesGone.NoneWas none refl refl) honest honest says
    finding_moments _ _ _ _ _ (FindsRedo.Stops gates live mid redo opened fault x y are reads leaves) is honest says =
        let now = honest_back mid y.told (left_honest gates.gone (Some fault) (snapshot x.member mid) y leaves) honest in
        read_moments stage live IsGateSector gates.gone (Some fault) x y mid is (reads.ran now)
        (λ j has. live_here x.member live are j (reads.live_gone j has)) reads.gone leaves now honest says
    finding_moments _ _ _ _ _ (FindsRedo.Again gates live mid redo opened refusal j x y z are reads gone leaves rest) is honest says =
        let after : IsTrue y.told.honest = honest_back y.told z.told (found_honest redo opened refusal y z rest) honest in
        let now : IsTrue mid.honest = honest_back mid y.told (left_honest gates.gone None (snapshot x.member mid) y leaves) after in
        let ran : Ran (IsReadOf (HasSlot live) IsGateSector) x.told.history mid.history = reads.ran now in
        let leaving : Ran any_call mid.history y.told.history = out_ran gates.gone None (snapshot x.member mid) y leaves after in
        let later : Ran any_call y.told.history z.told.history = found_ran redo opened refusal y z rest honest in
        let here = λ (i : ℕ) (has : HasSlot gates.gone i). live_here x.member live are i (reads.live_gone i has) in
        at_every_join {P = StandsSo x.told.history}
        (read_moments stage live IsGateSector gates.gone None x y mid is ran here reads.gone leaves now after says)
        (at_every_from {P = StandsSo x.told.history} later.more later.is
        (λ c c_at none going.
        let so_far = ran_before {allowed = any_call} later c_at in
        let before = ran_join {allowed = any_call} (ran_any {allowed = IsReadOf (HasSlot live) IsGateSector} ran) leaving in
        let to_y = moment_between {a = any_call} {b = any_call} before so_far in
        let to_mid = moment_between {a = IsReadOf (HasSlot live) IsGateSector} {b = any_call} ran leaving in
        let none_mid = each_before (each_before none to_y) to_mid in
        let at_mid : IsRecovering a stage old_words new_words start x.member mid.history =
        recovering_read a stage old_words new_words start x.member {slots = HasSlot live} {sectors = IsGateSector} x.told.history mid.history ran none_mid is in
        let at_y =
        lasts a stage old_words new_words start gates.gone (snapshot x.member mid) y at_mid here after (each_after (each_before none to_y) to_mid)
        (λ stops. going (stopped_on {allowed = any_call} so_far stops)) leaves in
        at_moment {P = StandsSo y.told.history}
        (finding_moments redo opened refusal y z rest at_y.recovering honest
        (read_says stage live IsGateSector gates.gone None x y mid is ran here reads.gone leaves now after says none_mid leaves)) c_at (each_after none to_y) going))

  -- ITS BODY

  pub body_moments : (stage : Stage) (redo : Redo) (body : Body) (was into : Stripe) (refusal : Option FenceFault) (x y : Snapshot)
      → FindsBody redo body was into refusal x y → IsRecovering a stage old_words new_words start x.member x.told.history → IsTrue y.told.honest
      → SaysSo x.member → AtEveryMoment (StandsSo x.told.history) x.told.history y.told.history
  body_moments stage redo body was into refusal x y found is honest says =
      let now = honest_back found.mid y.told (left_honest body.gone refusal (snapshot x.member found.mid) y found.leaves) honest in
      read_moments stage found.live (IsBodySector x.member.array.geometry redo) body.gone refusal x y found.mid is (found.reads.ran now)
      (λ j has. live_here x.member found.live found.are_live j (found.reads.live_gone j has)) found.reads.gone found.leaves now honest says

  -- PHASES OF GATES

  gate_small : (gate : List ℕ) (j k : ℕ) (bytes : List ℕ) → gate_writes gate j k ≡ Some bytes → k < sectors_needed a.geometry
  gate_small gate j k bytes is = let at = (gate_writes_is gate j k bytes is).at in omega (arith, at)

  module _ (gate : List ℕ) (stage then : Stage) (may : MayBeIn a stage) (may_then : MayBeIn a then) (to : Slots) (refusal : Option FenceFault) (x y : Snapshot)
      (live : (j : ℕ) → HasSlot to j → IsLiveIn x.member j) (does : DoesStage (gate_writes gate) to refusal x y) (honest : IsTrue y.told.honest)
      (way : IsUnderWay a stage start x.member x.told.history) (says : SaysSo x.member) where
    gates : Placed (gate_writes gate) (HasSlot to) (HasSlot does.gone) x.told.history does.mid.history
    gates = does.phase.placed (mid_honest (gate_writes gate) to refusal x y does honest)

    pub gates_moments : AtEveryMoment (IsIn a stage (IsInUse x.member x.told.history) start) x.told.history does.mid.history
        → (¬ IsTrue (stopped does.mid.history) → IsIn a then (IsInUse x.member x.told.history) start does.mid.history)
        → AtEveryMoment (StandsSo x.told.history) x.told.history y.told.history
    gates_moments stays ends =
        phase_moments a limits start content change first stage then may may_then (gate_writes gate) to does.gone refusal x y does.mid gates
        (gate_small gate) (λ j has. let on = live j (does.phase.among j has) in record { below = on.below; why = inl on.why }) does.leaves honest way
        (gates_beside x.member gate to (HasSlot does.gone) x.told.history does.mid.history live gates)
        (λ c at none.
        gates_then a stage start x.member gate to (HasSlot does.gone) x.told.history does.mid.history live way gates c at none stage
        (at_moment {P = IsIn a stage (IsInUse x.member x.told.history) start} stays at))
        (λ none going.
        let ran = phase_ran gates in
        gates_then a stage start x.member gate to (HasSlot does.gone) x.told.history does.mid.history live way gates does.mid.history
        (moment_last ran.more ran.is) none then (ends going)) says

  -- at rest
  pub closing_moments : (live : Slots) (refusal : Option FenceFault) (x y : Snapshot) → AreLive x.member live
      → DoesStage (gate_writes closed_gate) live refusal x y → IsUnderWay a AtRest start x.member x.told.history → IsTrue y.told.honest
      → SaysSo x.member → AtEveryMoment (StandsSo x.told.history) x.told.history y.told.history
  closing_moments live refusal x y are does way honest says =
      gates_moments closed_gate AtRest AtRest (inl refl) (inl refl) live refusal x y (λ j has. (are.are j).0 has) does honest way says stays
      (λ going. at_last {P = IsIn a AtRest (IsInUse x.member x.told.history) start} stays)
    where
      stays : AtEveryMoment (IsIn a AtRest (IsInUse x.member x.told.history) start) x.told.history does.mid.history
      stays =
          closing a (IsInUse x.member x.told.history) start AtRest (HasSlot live) (HasSlot does.gone) x.told.history does.mid.history (inl refl) way.cells
          (does.phase.placed (mid_honest (gate_writes closed_gate) live refusal x y does honest))

  -- DOING A REDO AGAIN

  module _ (stage : Stage) (redo : Option Redo) (opened : Slots) (redoing : IsRedoing a) (at_stage : (stage ≡ Uncommitted) ⊎ (stage ≡ Placing)) where
    opening_moments : (to : Slots) (refusal : Option FenceFault) (x y : Snapshot) → AreUnopened x.member opened to
        → DoesStage (gate_writes (open_gate a.geometry a.redo)) to refusal x y
        → IsRecovering a stage old_words new_words start x.member x.told.history → IsToldBy redo opened a stage start x.member x.told.history
        → IsTrue y.told.honest → SaysSo x.member → AtEveryMoment (StandsSo x.told.history) x.told.history y.told.history
    opening_moments to refusal x y are does is told honest says =
        let phase = does.phase.placed (mid_honest (gate_writes (open_gate a.geometry a.redo)) to refusal x y does honest) in
        gates_moments (open_gate a.geometry a.redo) stage Placing (inr redoing) (inr redoing) to refusal x y (λ j has. ((are.are j).0 has).0) does honest
        is.way says
        (opening_stays a stage old_words new_words start redo opened to x.member (HasSlot does.gone) x.told.history does.mid.history is told redoing at_stage are phase)
        (opening_ends a stage old_words new_words start redo opened to x.member (HasSlot does.gone) x.told.history does.mid.history is told redoing at_stage are phase)

    pub replay_moments : (stripe : Stripe) (refusal : Option FenceFault) (x z : Snapshot) → Replays a.redo stripe opened refusal x z
        → ((i c : ℕ) → HasCell a.redo.cells i c → cell stripe i c ≡ cell (a.new a.redo.stripe) i c)
        → IsRecovering a stage old_words new_words start x.member x.told.history → IsToldBy redo opened a stage start x.member x.told.history
        → IsTrue z.told.honest → SaysSo x.member → AtEveryMoment (StandsSo x.told.history) x.told.history z.told.history
    replay_moments stripe _ _ _ (Replays.Stops to fault x y are does) cells is told honest says =
        opening_moments to (Some fault) x y are
        (subst (λ (g : Geometry). DoesStage (gate_writes (open_gate g a.redo)) to (Some fault) x y) (sym is.way.geometry) does) is told honest says
    replay_moments stripe _ _ _ (Replays.Goes to refusal x y z are does more) cells is told honest says =
        let run : Redoes a.geometry a.redo stripe Placing refusal y z =
        subst (λ (g : Geometry). Redoes g a.redo stripe Placing refusal y z) (sym is.way.geometry) more in
        let opens : DoesStage (gate_writes (open_gate a.geometry a.redo)) to None x y =
        subst (λ (g : Geometry). DoesStage (gate_writes (open_gate g a.redo)) to None x y) (sym is.way.geometry) does in
        let now : IsTrue y.told.honest = honest_first a.geometry a.redo stripe Placing refusal y z run honest in
        let gates = opens.phase.placed (mid_honest (gate_writes (open_gate a.geometry a.redo)) to None x y opens now) in
        let leaving : Ran any_call opens.mid.history y.told.history = out_ran opens.gone None (snapshot x.member opens.mid) y opens.leaves now in
        let before : Ran any_call x.told.history y.told.history = ran_join {allowed = any_call} (phase_ran gates) leaving in
        let later : Ran any_call y.told.history z.told.history = redo_ran a redoing stripe cells start Placing refusal y z run honest in
        at_every_join {P = StandsSo x.told.history} (opening_moments to None x y are opens is told now says)
        (at_every_from {P = StandsSo x.told.history} later.more later.is
        (λ c c_at none going.
        let so_far = ran_before {allowed = any_call} later c_at in
        let to_y = moment_between {a = any_call} {b = any_call} before so_far in
        let to_mid = moment_between {a = any_call} {b = any_call} (phase_ran gates) leaving in
        let on : ¬ IsTrue (stopped y.told.history) = λ stops. going (stopped_on {allowed = any_call} so_far stops) in
        let none_y = each_before none to_y in
        let live : (j : ℕ) → HasSlot to j → IsLiveIn x.member j = λ j has. ((are.are j).0 has).0 in
        let at_mid : IsUnderWay a Placing start x.member opens.mid.history =
        gates_then a stage start x.member (open_gate a.geometry a.redo) to (HasSlot opens.gone) x.told.history opens.mid.history live is.way gates
        opens.mid.history (moment_last (phase_ran gates).more (phase_ran gates).is) (each_before none_y to_mid) Placing
        (opening_ends a stage old_words new_words start redo opened to x.member (HasSlot opens.gone) x.told.history opens.mid.history is told redoing at_stage
        are gates (λ stops. on (stopped_on {allowed = any_call} leaving stops))) in
        let says_y : SaysSo y.member =
        of_left a limits start content change first opens.gone Placing (snapshot x.member opens.mid) y at_mid
        (λ j has. let up = live j (opens.phase.among j has) in record { below = up.below; why = inl up.why }) opens.leaves says in
        at_moment {P = StandsSo y.told.history}
        (all_moments a redoing stripe cells start content change first Placing refusal y z run honest
        (opens_gates a stage old_words new_words start redo opened to x y is told redoing at_stage are opens now none_y on)
        (record { of = says_y.of; kept = says_y.kept })) c_at (each_after none to_y) going))
