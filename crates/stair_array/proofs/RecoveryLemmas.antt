-- The parts of an opening, put together from what its phases did.
use Rattle.std.proofs.Common.{◌≡◌, ◌≢◌, ◌<◌, ℕ, None, Option, Some, ap, refl, subst, sym, ◌∙◌, true≢false}
use Rattle.std.specs.Prelude.{◌↔◌, Err, IfSome, MatchResult, Ok, Result}
use Rattle.std.specs.Result.{IsErrAnd}
use Rattle.stair_model.specs.Geometry.{Geometry}
use Rattle.stair_model.specs.Slots.{HasSlot, IsSlotSet, Slots, no_slots, slot_count}
use Rattle.stair_model.proofs.SetLaws.{has_slot-none, same_slots}
use Rattle.stair_model.specs.Stripe.{Stripe}
use Rattle.stair_rack.specs.Sector.{Cell}
use Rattle.stair_rack.specs.RackState.{RackState}
use Rattle.stair_member.specs.Establishing.{Fences}
use Rattle.stair_member.specs.Membership.{Membership}
use Rattle.stair_member.specs.declared.fault.FenceFault.{FenceFault}
use Rattle.stair_member.specs.declared.fault.FenceFault.TheVariants as fence
use Rattle.stair_journal.specs.Gate.{closed_gate, open_gate}
use Rattle.stair_journal.specs.Journalling.{gate_writes}
use Rattle.stair_journal.specs.Gates.{IsFirstRedo, NoneOpen, OpenFirst, ReadsGates}
use Rattle.stair_journal.specs.Redo.{IsRedo}
use Rattle.stair_journal.specs.declared.gates.Gates.{Gates}
use Rattle.stair_journal.specs.Phases.{DoesPhase}
use Rattle.stair_journal.specs.declared.body.Body.{Body}
use Rattle.stair_journal.specs.declared.redo.Redo.{Redo}
use Rattle.stair_stripes.specs.Placing.{cell_writes}
use Rattle.stair_state.specs.Redoing.{Done, InPlace, Placing}
use Rattle.stair_invariant.specs.Effects.{AreLive, AreUnopened, DoesStage, FindsBody, FindsRedo, FencesGone, Snapshot, Redoes, Replays, TakePart, snapshot}
use Rattle.stair_array.specs.Calls.{answer_of, refused}
use Rattle.stair_array.specs.Faults.{IsAnsweredAs, opening_refusal, recover_fault}
use Rattle.stair_array.specs.Machine.{JournalLost, Refusal}
use Rattle.stair_array.specs.Openings.{ClearsJournal, Recovers}
use Rattle.stair_array.proofs.OutLemmas.{fewer_live}
use Rattle.stair_array.specs.declared.fault.RecoverFault.{RecoverFault}

pub none_left : {A : Type 0} (o : Option A) → ((x : A) → o ≢ Some x) → o ≡ None
none_left None other = refl
none_left (Some x) other = absurd (other x refl)

-- what a fault that is handed on is told of
pub told_of_fault : {A : Type 0} (P : A → Type 0) (Q : FenceFault → Type 0) (result : Result A FenceFault) (fault : FenceFault)
    → IsErrAnd result (λ e. e ≡ fault) → Q fault → MatchResult result P Q
told_of_fault P Q (Ok x) fault is holds = absurd is
told_of_fault P Q (Err e) fault same holds = subst Q (sym same) holds

-- GATES

-- a redo with which a gate was open is one
pub first_redo : (g : Geometry) (some : ℕ → Type 0) (gate : ℕ → Cell) (redo : Option Redo) → IsFirstRedo g some gate redo → IfSome redo (IsRedo g)
first_redo g some gate _ (NoneOpen closed) = tt
first_redo g some gate _ (OpenFirst j redo is is_open lower) = is_open.formed

-- A round of reading the gates of the live slots, from a moment whose end is one of the whole.
module _ (start : Snapshot) (m : Membership) (g : Geometry) (same : g ≡ m.array.geometry) (live : Slots) (gates : Gates) (old mid : RackState)
    (are : AreLive m live) (reads : ReadsGates g live gates old mid)
    (so_far : (redo : Option Redo) (opened : Slots) (refusal : Option FenceFault) (z : Snapshot) → FindsRedo redo opened refusal (snapshot m old) z
    → FindsRedo redo opened refusal start z) where
  reads_own : ReadsGates m.array.geometry live gates old mid
  reads_own = subst (λ (k : Geometry). ReadsGates k live gates old mid) same reads

  pub gone_below : (j : ℕ) → HasSlot gates.gone j → j < m.array.geometry.n
  gone_below j has = ((are.are j).0 (reads.live_gone j has)).below

  pub gates_found : ((j : ℕ) → ¬ HasSlot gates.gone j) → FindsRedo gates.redo gates.opened None start (snapshot m mid)
  gates_found none = so_far gates.redo gates.opened None (snapshot m mid) (FindsRedo.Found gates live mid (snapshot m old) are reads_own none)

  pub gates_redo : IfSome gates.redo (IsRedo m.array.geometry)
  gates_redo = first_redo m.array.geometry _ reads_own.gate gates.redo reads_own.redo

  pub gates_refused : (fault : FenceFault) (y : Snapshot) → FencesGone gates.gone (Some fault) (snapshot m mid) y
      → (redo : Option Redo) (opened : Slots) → FindsRedo redo opened (Some fault) start y
  gates_refused fault y leaves redo opened =
      so_far redo opened (Some fault) y (FindsRedo.Stops gates live mid redo opened fault (snapshot m old) y are reads_own leaves)

  pub gates_again : (y : Snapshot) → FencesGone gates.gone None (snapshot m mid) y → (j : ℕ) → HasSlot gates.gone j
      → (redo : Option Redo) (opened : Slots) (refusal : Option FenceFault) (z : Snapshot) → FindsRedo redo opened refusal y z
      → FindsRedo redo opened refusal start z
  gates_again y leaves j has redo opened refusal z more =
      so_far redo opened refusal z (FindsRedo.Again gates live mid redo opened refusal j (snapshot m old) y z are reads_own has leaves more)

  pub gates_fewer : (y : Snapshot) (later : Slots) → FencesGone gates.gone None (snapshot m mid) y → AreLive y.member later → (j : ℕ)
      → HasSlot gates.gone j → slot_count later < slot_count live
  gates_fewer y later leaves are_later j has =
      fewer_live gates.gone live later (snapshot m mid) y j leaves are are_later has (reads.live_gone j has)

-- A REDO'S END

placing_goes_on : Placing ≢ Done
placing_goes_on same = cc

in_place_goes_on : InPlace ≢ Done
in_place_goes_on same = cc

module _ (g : Geometry) (redo : Redo) (stripe : Stripe) where
  -- so many slots got the cells of the redo, or the live ones a closed gate
  abbrev pub IsPlaced : Option FenceFault → Snapshot → Snapshot → Type 0
  IsPlaced refusal x y = (to : Slots) × TakePart x.member to × DoesStage (cell_writes g redo stripe) to refusal x y

  pub placing_stops : (fault : FenceFault) (refusal : Option FenceFault) (x y : Snapshot) → refusal ≡ Some fault → IsPlaced (Some fault) x y
      → Redoes g redo stripe Placing refusal x y
  placing_stops fault refusal x y same placed =
      subst (λ (r : Option FenceFault). Redoes g redo stripe Placing r x y) (sym same)
      (Redoes.Stops Placing placed.0 fault x y placing_goes_on placed.1 placed.2)

  abbrev pub IsClosed : Option FenceFault → Snapshot → Snapshot → Type 0
  IsClosed refusal x y = (live : Slots) × AreLive x.member live × DoesStage (gate_writes closed_gate) live refusal x y

  closing : (refusal : Option FenceFault) (x y : Snapshot) → IsClosed refusal x y → Redoes g redo stripe InPlace refusal x y
  closing None x y closed = Redoes.Goes InPlace closed.0 None x y y in_place_goes_on closed.1 closed.2 (Redoes.Ends y)
  closing (Some fault) x y closed = Redoes.Stops InPlace closed.0 fault x y in_place_goes_on closed.1 closed.2

  pub placing_goes : (refusal : Option FenceFault) (x y z : Snapshot) → IsPlaced None x y → IsClosed refusal y z
      → Redoes g redo stripe Placing refusal x z
  placing_goes refusal x y z placed closed =
      Redoes.Goes Placing placed.0 refusal x y z placing_goes_on placed.1 placed.2 (closing refusal y z closed)

-- A REDO AGAIN

module _ (redo : Redo) (stripe : Stripe) (m : Membership) (live opened unopened gone : Slots) (are : AreLive m live) (formed : IsSlotSet unopened)
    (rest : (j : ℕ) → HasSlot unopened j ↔ (HasSlot live j × ¬ HasSlot opened j)) (old mid : RackState)
    (opens : DoesPhase (gate_writes (open_gate m.array.geometry redo)) unopened gone old mid) where
  are_unopened : AreUnopened m opened unopened
  are_unopened = record {
    formed = formed;
    are = λ j. (
      λ has. let both = (rest j).0 has in ((are.are j).0 both.0, both.1),
      λ is. (rest j).1 ((are.are j).1 is.0, is.1),
    );
  }

  opening : (refusal : Option FenceFault) (y : Snapshot) → FencesGone gone refusal (snapshot m mid) y
      → DoesStage (gate_writes (open_gate m.array.geometry redo)) unopened refusal (snapshot m old) y
  opening refusal y leaves = record { gone = gone; mid = mid; phase = opens; leaves = leaves }

  pub replay_stops : (fault : FenceFault) (refusal : Option FenceFault) (y : Snapshot) → refusal ≡ Some fault
      → FencesGone gone (Some fault) (snapshot m mid) y → Replays redo stripe opened refusal (snapshot m old) y
  replay_stops fault refusal y same leaves =
      subst (λ (r : Option FenceFault). Replays redo stripe opened r (snapshot m old) y) (sym same)
      (Replays.Stops unopened fault (snapshot m old) y are_unopened (opening (Some fault) y leaves))

  pub replay_goes : (refusal : Option FenceFault) (y z : Snapshot) (g : Geometry) (kept : Stripe) → g ≡ m.array.geometry → kept ≡ stripe
      → FencesGone gone None (snapshot m mid) y → Redoes g redo kept Placing refusal y z → Replays redo stripe opened refusal (snapshot m old) z
  replay_goes refusal y z g kept same same_stripe leaves more =
      Replays.Goes unopened refusal (snapshot m old) y z are_unopened (opening None y leaves)
      (subst (λ (k : Geometry). Redoes k redo stripe Placing refusal y z) same
      (subst (λ (s : Stripe). Redoes g redo s Placing refusal y z) same_stripe more))

-- WHAT COMES OF IT

fault_refusal : (fault : FenceFault) → opening_refusal (recover_fault fault) ≡ Some (refused fault)
fault_refusal (fence.TooFew whys) = refl
fault_refusal fence.EpochsSpent = refl

-- a refused epoch is handed on
pub epoch_refused : (g : Geometry) (result : Result (Unit {0}) RecoverFault) (fault : FenceFault)
    → IsErrAnd result (λ e. e ≡ recover_fault fault) → IsAnsweredAs g result (Err (refused fault))
epoch_refused g (Ok done) fault is = absurd is
epoch_refused g (Err e) fault same = (refused fault, ap opening_refusal same ∙ fault_refusal fault, refl)

-- what clearing the journal answered, and did
abbrev pub HasCleared : Option Redo → Slots → Geometry → Result (Unit {0}) RecoverFault → Snapshot → Snapshot → Type 0
HasCleared redo opened g result x y = (answer : Result Geometry Refusal) × IsAnsweredAs g result answer × ClearsJournal redo opened answer x y

module _ (found : Option Redo) (opened : Slots) (result : Result (Unit {0}) RecoverFault) (x y : Snapshot) where
  pub journal_closed : found ≡ None → (refusal : Option FenceFault)
      → IsAnsweredAs x.member.array.geometry result (answer_of x.member.array.geometry refusal)
      → (live : Slots) × AreLive x.member live × DoesStage (gate_writes closed_gate) live refusal x y
      → HasCleared found opened x.member.array.geometry result x y
  journal_closed none refusal answered closed = (
    answer_of x.member.array.geometry refusal,
    answered,
    subst (λ (r : Option Redo). ClearsJournal r opened (answer_of x.member.array.geometry refusal) x y) (sym none)
        (ClearsJournal.Closes opened closed.0 refusal x y closed.1 closed.2),
  )

  module _ (redo : Redo) (some : found ≡ Some redo) where
    of_redo : (answer : Result Geometry Refusal) → ClearsJournal (Some redo) opened answer x y → ClearsJournal found opened answer x y
    of_redo answer is = subst (λ (r : Option Redo). ClearsJournal r opened answer x y) (sym some) is

    pub body_stops : (was stripe : Stripe) (fault : FenceFault) → IsAnsweredAs x.member.array.geometry result (Err (refused fault))
        → (body : Body) × FindsBody redo body was stripe (Some fault) x y → HasCleared found opened x.member.array.geometry result x y
    body_stops was stripe fault answered body = (
      Err (refused fault),
      answered,
      of_redo (Err (refused fault)) (ClearsJournal.Stops redo opened body.0 was stripe fault x y body.1),
    )

    pub body_lost : (body : Body) (was stripe : Stripe) (sector : ℕ) → IsAnsweredAs x.member.array.geometry result (Err (JournalLost sector))
        → FindsBody redo body was stripe None x y → body.unread ≡ Some sector → HasCleared found opened x.member.array.geometry result x y
    body_lost body was stripe sector answered finds lost = (
      Err (JournalLost sector),
      answered,
      of_redo (Err (JournalLost sector)) (ClearsJournal.BodyLost redo opened body was stripe sector x y finds lost),
    )

    pub journal_replayed : (body : Body) (was stripe : Stripe) (mid : Snapshot) (refusal : Option FenceFault)
        → IsAnsweredAs x.member.array.geometry result (answer_of x.member.array.geometry refusal)
        → FindsBody redo body was stripe None x mid → body.unread ≡ None → Replays redo stripe opened refusal mid y
        → HasCleared found opened x.member.array.geometry result x y
    journal_replayed body was stripe mid refusal answered finds whole replays = (
      answer_of x.member.array.geometry refusal,
      answered,
      of_redo (answer_of x.member.array.geometry refusal)
          (ClearsJournal.Replayed redo opened body was stripe refusal x mid y finds whole replays),
    )

-- THE OPENING

-- what an opening answered, and did
abbrev pub HasRecovered : Geometry → Result (Unit {0}) RecoverFault → Snapshot → Snapshot → Type 0
HasRecovered g result x y = (answer : Result Geometry Refusal) × IsAnsweredAs g result answer × Recovers answer x y

module _ (leaving : Slots) (none : (j : ℕ) → ¬ HasSlot leaving j) (formed : IsSlotSet leaving) (g : Geometry)
    (result : Result (Unit {0}) RecoverFault) (x y : Snapshot) where
  fences_none : (answer : Result Slots FenceFault) → Fences leaving x.member y.member answer x.told y.told
      → Fences no_slots x.member y.member answer x.told y.told
  fences_none answer fences =
      let same : leaving ≡ no_slots =
      same_slots leaving no_slots formed refl (λ j. (λ has. absurd (none j has), λ has. absurd (true≢false (sym has ∙ has_slot-none j))))
      in
      subst (λ (s : Slots). Fences s x.member y.member answer x.told y.told) same fences

  pub no_epoch : (fault : FenceFault) → IsAnsweredAs g result (Err (refused fault))
      → Fences leaving x.member y.member (Err fault) x.told y.told → HasRecovered g result x y
  no_epoch fault answered fences = (Err (refused fault), answered, Recovers.NoEpoch fault x y (fences_none (Err fault) fences))

  module _ (fallen : Slots) (fences : Fences leaving x.member y.member (Ok fallen) x.told y.told) (z : Snapshot) where
    pub gates_unread : (fault : FenceFault) → IsAnsweredAs g result (Err (refused fault))
        → ((redo : Option Redo) (opened : Slots) → FindsRedo redo opened (Some fault) y z) → HasRecovered g result x z
    gates_unread fault answered finds = (
      Err (refused fault),
      answered,
      Recovers.Stops fallen no_slots None fault x y z (fences_none (Ok fallen) fences) (finds None no_slots),
    )

    pub journal_cleared : (redo : Option Redo) (opened : Slots) (w : Snapshot) (k : Geometry) → k ≡ g → FindsRedo redo opened None y z
        → HasCleared redo opened k result z w → HasRecovered g result x w
    journal_cleared redo opened w k same finds cleared = (
      cleared.0,
      subst (λ (s : Geometry). IsAnsweredAs s result cleared.0) same cleared.1,
      Recovers.Goes fallen opened redo cleared.0 x y z w (fences_none (Ok fallen) fences) finds cleared.2,
    )
