-- The end of a recovery of an array whose media come back: its gates are closed at rest, or the redo that was found is done again; it serves
-- what the state held before or after the change in doubt.
use Rattle.std.proofs.Common.{IsTrue, List, None, Option, Some, refl, subst, sym, ◌∷◌, ◌≡◌, ◌⊎◌, ℕ, []}
use Rattle.stair_model.specs.CellSet.{HasCell}
use Rattle.stair_model.specs.Geometry.{Geometry}
use Rattle.stair_model.specs.Slots.{Slots}
use Rattle.stair_model.specs.Stripe.{Stripe, cell}
use Rattle.stair_rack.specs.Answers.{Ran, any_call}
use Rattle.stair_rack.specs.History.{Happening, Made}
use Rattle.stair_rack.specs.Moments.{AtEveryMoment, IsMoment}
use Rattle.stair_rack.proofs.MomentLemmas.{at_every_from, at_every_join, moment_between, moment_last, ran_before, ran_join}
use Rattle.stair_member.specs.Membership.{Membership}
use Rattle.stair_member.specs.declared.aim.EpochChange.TheVariants.{Fence}
use Rattle.stair_member.specs.declared.fault.FenceFault.{FenceFault}
use Rattle.stair_journal.specs.Gate.{closed_gate, open_gate}
use Rattle.stair_journal.specs.Journalling.{gate_writes}
use Rattle.stair_journal.specs.declared.redo.Redo.{Redo}
use Rattle.stair_state.specs.Blocks.{AreEncodingsOf, Codewords}
use Rattle.stair_state.specs.Holding.{IsConsistentUnderReassembly}
use Rattle.stair_state.specs.Redoing.{AtRest, Done, Placing}
use Rattle.stair_state.specs.Represents.{Encodings}
use Rattle.stair_state.specs.State.{Change, Content, State}
use Rattle.stair_invariant.specs.Effects.{AreLive, AreUnopened, DoesStage, Snapshot, Redoes, Replays}
use Rattle.stair_invariant.specs.InSession.{IsOfContent, state_with}
use Rattle.stair_invariant.specs.Opening.{IsDecidedAs, StaysArray, opened_with}
use Rattle.stair_invariant.specs.Returning.{AnyReturns}
use Rattle.stair_invariant.proofs.AmidRedoLemmas.{redo_ends}
use Rattle.stair_invariant.proofs.DecidedLemmas.{decides}
use Rattle.stair_invariant.proofs.FindsLemmas.{honest_back}
use Rattle.stair_invariant.proofs.HonestLemmas.{redo_honest}
use Rattle.stair_invariant.proofs.Serving.{StaysWithinToleranceTo, IsServing, calm_sooner, tolerated_now}
use Rattle.stair_invariant.proofs.StageFoundLemmas.{first_among, last_among}
use Rattle.stair_array.proofs.RecoveredLemmas.{does_ran, redoes_ran}
use Rattle.stair_reinsert.specs.Beginning.{SaysContent}
use Rattle.stair_state.proofs.AloneLemmas.{reseated}
use Rattle.stair_state.proofs.ReturnLemmas.{by_seats}
use Rattle.stair_reinsert.proofs.RecoveryFence.{unseated}
use Rattle.stair_reinsert.proofs.RecoveryFound.{IsToldAny}
use Rattle.stair_reinsert.proofs.RecoveryOpening.{closed_rests, opening_ended, opening_moments, opened_placing}
use Rattle.stair_reinsert.proofs.RedoEnd.{Ends, Rests, settled_knows}
use Rattle.stair_reinsert.proofs.RedoPhase.{IsAmidAny}
use Rattle.stair_reinsert.proofs.RedoStart.{in_redo, redo_by, says_on}
use Rattle.stair_reinsert.proofs.RedosLead.{IsDoneAny, redo_stands, redo_ended, redo_done}
use Rattle.stair_reinsert.proofs.RecoveryFinding.{StandsUnseated}

-- seats aside
pub without : (s : State) (h : List Happening) → IsConsistentUnderReassembly s h → IsConsistentUnderReassembly (record s { seats = None }) h
without s h it = record {
  current_media = it.current_media;
  since = it.since;
  is = record {
    encodings = reseated s None it.is.encodings;
    each = λ image left. by_seats s None it.is.encodings it.current_media it.since image (it.is.each image left);
    seats = tt;
    steady = it.is.steady;
  };
}

-- The array was opened in a session that began at `before`: it serves what is decided.
pub record IsOpenedAny (before : List Happening) (kept : Content) (change : Option Change) (g : Geometry) (y : Snapshot) : Type 0 where
  pub words : Codewords
  pub content : Content
  pub decided : IsDecidedAs (unseated g kept change) y.member words content
  pub serves : IsServing AnyReturns before (opened_with y.member) words content y.told.history
  pub geometry : y.member.array.geometry ≡ g

-- WHAT IS DECIDED

pub record IsDecidedFor (m : Membership) (kept : Content) (change : Option Change) (y : Membership) (words : Codewords) : Type 0 where
  pub content : Content
  pub is : IsDecidedAs (in_redo m kept change) y words content

pub decides_for : (m : Membership) (kept : Content) (change : Option Change) (both : Encodings (in_redo m kept change)) (y : Membership) (words : Codewords)
    → SaysContent (in_redo m kept change) Fence m → StaysArray m y → (words ≡ both.old) ⊎ (words ≡ both.new) → IsDecidedFor m kept change y words
decides_for m kept change both y words says stays either =
    let its = says_on kept change m says y stays in
    let made = decides (in_redo m kept change) both y words (record { frozen = its.frozen; label = its.label }) either in
    record { content = made.0; is = made.1 }

of_content : (m : Membership) (kept : Content) (change : Option Change) (y : Membership) (words : Codewords) (d : IsDecidedFor m kept change y words)
    → y.array.geometry ≡ m.array.geometry → IsOfContent y words d.content
of_content m kept change y words d same = record {
  encodings = subst (λ (g : Geometry). AreEncodingsOf g d.content.blocks words) (sym same) d.is.encodings;
  frozen = d.is.frozen;
  label = d.is.label;
}

-- AT REST

module _ (before : List Happening) (kept : Content) (change : Option Change) (opened : Slots) (x : Snapshot)
    (is : IsToldAny before kept change None opened x) (live : Slots) (are : AreLive x.member live) (refusal : Option FenceFault) (y : Snapshot)
    (does : DoesStage (gate_writes closed_gate) live refusal x y) (honest : IsTrue y.told.honest) (fine : refusal ≡ None)
    (calm : StaysWithinToleranceTo AnyReturns is.m.array.geometry before y.told.history) where
  rests : IsAmidAny before is.of AtRest None None y
  rests = closed_rests before kept change opened x is live are refusal y does honest fine calm

  d : IsDecidedFor is.m kept change y.member is.first
  d = decides_for is.m kept change is.both y.member is.first is.says rests.stays (first_among is.words)

  pub closed_opens : IsOpenedAny before kept change is.m.array.geometry y
  closed_opens = record {
    words = is.first;
    content = d.content;
    decided = d.is;
    serves = record {
      is_open =
          redo_ends (redo_by is.m is.first is.first is.redo) before (opened_with y.member) is.start y.told.history (record {
            amid = rests.amid.amid;
            geometry = rests.amid.geometry;
            ran = rests.amid.ran;
            large = rests.amid.large;
            is_in = record { gates = rests.amid.is_in.gates; bodies = rests.amid.is_in.bodies; chunks = rests.amid.is_in.chunks };
            rebuilt = λ one never. absurd (cc);
          });
      history = rests.history;
      of = of_content is.m kept change y.member is.first d rests.stays.geometry;
      knows =
          settled_knows before is.of AtRest Rests None None y rests
          (tolerated_now AnyReturns is.m.array.geometry before y.told.history rests.amid.amid.ran calm) d.content d.is.encodings d.is.frozen
          d.is.label;
    };
    geometry = rests.stays.geometry;
  }

-- A REDO AGAIN

module _ (before : List Happening) (kept : Content) (change : Option Change) (one : Redo) (opened : Slots) (x : Snapshot)
    (is : IsToldAny before kept change (Some one) opened x) (stripe : Stripe)
    (cells : (i c : ℕ) → HasCell is.redo.cells i c → cell stripe i c ≡ cell (is.last is.redo.stripe) i c) where
  same_geometry : x.member.array.geometry ≡ is.m.array.geometry
  same_geometry = is.amid.stays.geometry

  own_opens : {to : Slots} {refusal : Option FenceFault} {y : Snapshot} → DoesStage (gate_writes (open_gate x.member.array.geometry is.redo)) to refusal x y
      → DoesStage (gate_writes (open_gate is.m.array.geometry is.redo)) to refusal x y
  own_opens {to} {refusal} {y} does =
      subst (λ (g : Geometry). DoesStage (gate_writes (open_gate g is.redo)) to refusal x y) same_geometry does

  own_redo : {refusal : Option FenceFault} {y z : Snapshot} → Redoes x.member.array.geometry is.redo stripe Placing refusal y z
      → Redoes is.m.array.geometry is.redo stripe Placing refusal y z
  own_redo {refusal} {y} {z} more = subst (λ (g : Geometry). Redoes g is.redo stripe Placing refusal y z) same_geometry more

  -- what was called, where the redo itself was begun
  module _ (refusal : Option FenceFault) (y z : Snapshot) (to : Slots) (are : AreUnopened x.member opened to)
      (does : DoesStage (gate_writes (open_gate x.member.array.geometry is.redo)) to None x y)
      (more : Redoes x.member.array.geometry is.redo stripe Placing refusal y z) (honest : IsTrue z.told.honest) where
    honest_y : IsTrue y.told.honest
    honest_y = honest_back y.told z.told (redo_honest x.member.array.geometry is.redo stripe Placing refusal y z more) honest

    opens_ran : Ran any_call x.told.history y.told.history
    opens_ran = does_ran (gate_writes (open_gate x.member.array.geometry is.redo)) to None x y does honest_y

    redo_ran_then : Ran any_call y.told.history z.told.history
    redo_ran_then = redoes_ran x.member.array.geometry is.redo stripe Placing refusal y z more honest

    pub placing : (c : List Happening) → IsMoment y.told.history c z.told.history → StaysWithinToleranceTo AnyReturns is.m.array.geometry before c
        → IsAmidAny before is.of Placing None None y
    placing c at calm =
        opened_placing before kept change one opened x is to are None y (own_opens does) honest_y refl
        (calm_sooner AnyReturns is.m.array.geometry before y.told.history c
        (moment_between {a = any_call} {b = any_call} (ran_join {allowed = any_call} is.amid.amid.amid.ran opens_ran)
        (ran_before {allowed = any_call} redo_ran_then at)) calm)

    pub end : IsMoment y.told.history z.told.history z.told.history
    end = moment_last redo_ran_then.more redo_ran_then.is

    again_moments : AtEveryMoment (StandsUnseated before kept change is.m.array.geometry) x.told.history z.told.history
    again_moments =
        at_every_join {P = StandsUnseated before kept change is.m.array.geometry}
        (opening_moments before kept change one opened x is to are None y (own_opens does) honest_y)
        (at_every_from {P = StandsUnseated before kept change is.m.array.geometry} redo_ran_then.more redo_ran_then.is
        (λ c at calm image left.
        let stands =
        redo_stands before is.of stripe cells Placing refusal y z (own_redo more) honest None None (placing c at calm) c at calm image left in
        without (state_with is.m kept change stands.array) (Made image ∷ []) stands.stands))

    again_ended : (fault : FenceFault) → refusal ≡ Some fault → StaysWithinToleranceTo AnyReturns is.m.array.geometry before z.told.history
        → IsConsistentUnderReassembly (unseated is.m.array.geometry kept change) z.told.history
    again_ended fault refused calm =
        let stands =
        redo_ended before is.of stripe cells Placing
        refusal y z (own_redo more) fault refused honest calm None None (placing z.told.history end calm) in
        without (state_with is.m kept change stands.array) z.told.history stands.stands

    module _ (fine : refusal ≡ None) (calm : StaysWithinToleranceTo AnyReturns is.m.array.geometry before z.told.history) where
      made : IsDoneAny before is.of stripe cells None
          None y z
      made =
          redo_done before is.of stripe cells Placing refusal y z (own_redo more) fine honest calm None None (placing z.told.history end calm)

      d_last : IsDecidedFor is.m kept change z.member is.last
      d_last = decides_for is.m kept change is.both z.member is.last is.says made.done.stays (last_among is.words)

      again_opens : IsOpenedAny before kept change is.m.array.geometry z
      again_opens = record {
        words = is.last;
        content = d_last.content;
        decided = d_last.is;
        serves = record {
          is_open = made.is_open;
          history = made.done.history;
          of = of_content is.m kept change z.member is.last d_last made.done.stays.geometry;
          knows =
              settled_knows before is.of Done Ends made.rebuilds made.stops z made.done
              (tolerated_now AnyReturns is.m.array.geometry before z.told.history made.done.amid.amid.ran calm) d_last.content d_last.is.encodings
              d_last.is.frozen d_last.is.label;
        };
        geometry = made.done.stays.geometry;
      }

  -- At each moment whatever a crash leaves represents the state, refused or not,
  pub replay_moments : (refusal : Option FenceFault) (z : Snapshot) → Replays is.redo stripe opened refusal x z → IsTrue z.told.honest
      → AtEveryMoment (StandsUnseated before kept change is.m.array.geometry) x.told.history z.told.history
  replay_moments refusal z (Replays.Goes to _ _ y _ are does more) honest = again_moments refusal y z to are does more honest
  replay_moments _ z (Replays.Stops to fault _ _ are does) honest =
      opening_moments before kept change one opened x is to are (Some fault) z (own_opens does) honest

  -- and so does the rack where it is refused,
  pub replay_ended : (fault : FenceFault) (refusal : Option FenceFault) (z : Snapshot) → Replays is.redo stripe opened refusal x z → refusal ≡ Some fault
      → IsTrue z.told.honest → StaysWithinToleranceTo AnyReturns is.m.array.geometry before z.told.history
      → IsConsistentUnderReassembly (unseated is.m.array.geometry kept change) z.told.history
  replay_ended fault refusal z (Replays.Goes to _ _ y _ are does more) refused honest calm =
      again_ended refusal y z to are does more honest fault refused calm
  replay_ended fault _ z (Replays.Stops to other _ _ are does) refused honest calm =
      opening_ended before kept change one opened x is to are (Some other) z (own_opens does) honest calm

  -- and else the array serves.
  pub replay_opens : (refusal : Option FenceFault) (z : Snapshot) → Replays is.redo stripe opened refusal x z → refusal ≡ None → IsTrue z.told.honest
      → StaysWithinToleranceTo AnyReturns is.m.array.geometry before z.told.history → IsOpenedAny before kept change is.m.array.geometry z
  replay_opens refusal z (Replays.Goes to _ _ y _ are does more) fine honest calm = again_opens refusal y z to are does more honest fine calm
  replay_opens _ z (Replays.Stops to other _ _ are does) fine honest calm = absurd (cc)
