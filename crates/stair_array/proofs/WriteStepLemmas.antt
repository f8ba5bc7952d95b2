-- A write of blocks is a step of the array's machine, and what a crash leaves in the midst of it is what one within the step leaves,
-- whether media come back or not.
use Rattle.std.proofs.Common.{◌≡◌, ℕ, ◌<◌, List, [], inl, inr, refl, sym, ◌∙◌, subst, None, Some, Option}
use Rattle.std.specs.Prelude.{IsTrue, Ok, Err, length}
use Rattle.stair_model.specs.Geometry.{Geometry, block_count}
use Rattle.stair_rack.specs.Answers.{IsHistory}
use Rattle.stair_rack.specs.Crash.{EachImage}
use Rattle.stair_rack.specs.History.{Happening}
use Rattle.stair_rack.specs.Moments.{IsMoment}
use Rattle.stair_rack.proofs.MomentLemmas.{at_moment}
use Rattle.stair_rack.specs.declared.watcher.Event.{Event}
use Rattle.stair_super.specs.declared.configuration.Configuration.{Configuration}
use Rattle.stair_member.specs.Membership.{Membership}
use Rattle.stair_member.specs.Seats.{Seats}
use Rattle.stair_member.specs.declared.fault.FenceFault.{FenceFault}
use Rattle.stair_member.specs.declared.fault.FenceFault.TheVariants as fence
use Rattle.stair_state.specs.Blocks.{AreOfOneStripe}
use Rattle.stair_state.specs.State.{BlocksAre, Change, Content, State, changed_if}
use Rattle.stair_invariant.specs.Effects.{Snapshot, snapshot}
use Rattle.stair_invariant.specs.InSession.{state_with}
use Rattle.stair_invariant.specs.Leading.{led_to}
use Rattle.stair_invariant.specs.Opening.{StaysArray}
use Rattle.stair_invariant.specs.Returning.{StaysWithinTolerance, Returning, StandsFor}
use Rattle.stair_invariant.specs.SeatSteps.{EachMayDrop}
use Rattle.stair_invariant.specs.Session.{seats_in}
use Rattle.stair_invariant.proofs.Serving.{StaysWithinToleranceTo, IsServing, LeadsReads, LeadsRedos}
use Rattle.stair_array.specs.Calls.{refused}
use Rattle.stair_array.specs.Machine.{Answer, CutWithin, Gone, HoldsAfter, InDoubt, IsAsItWas, IsFinal, PassesTests, Recover, Refusal, Row, TooFew, WasBegun, WriteBlocks}
use Rattle.stair_array.specs.Promise.{IsInState, IsLed, IsLeftBy, IsOpenFor, Keeps, Performs, Seen, is_open}
use Rattle.stair_array.proofs.OpenStepLemmas.{forgetting, forgotten_in, goes_on_as, kept_fault, open_first, serves_as, serves_bare, stops_as, calm_first}
use Rattle.stair_array.proofs.WriteDoubtLemmas.{Certain, Doubtful, MayDoubt, MayWrite, written}
use Rattle.stair_array.proofs.WriteOutcomeLemmas.{Outcome, Refused, StandsWith, Stopped, Written, moments, outcome}

-- what refuses an epoch is for good
refused_final : (fault : FenceFault) → IsFinal (refused fault)
refused_final (fence.TooFew whys) = tt
refused_final fence.EpochsSpent = tt

module _ (returning : Returning) (laws : LeadsReads returning) (redos : LeadsRedos returning) (first : ℕ) (contents : List (List ℕ))
    (answer : Answer (WriteBlocks first contents)) (events : List Event) (x y : Seen)
    (p : Performs (WriteBlocks first contents) answer events x y) (honest : IsTrue y.told.honest) (before : List Happening) (s : State)
    (history : IsHistory x.told.history) (state : IsInState returning before s x) where
  pub no_opening : ¬ (WriteBlocks first contents ≡ Recover)
  no_opening same = cc

  abbrev pub begins : IsOpenFor returning before s p.was x.told.history
  begins = open_first returning laws (WriteBlocks first contents) no_opening answer events x y p before s state

  pub serves : IsServing returning before (forgetting p.was) begins.words s.content x.told.history
  serves = serves_bare returning laws (WriteBlocks first contents) no_opening answer events x y p before s state history

  pub calm_begun : (h : List Happening) → StaysWithinTolerance returning s.geometry (is_open x.session) before h
      → StaysWithinToleranceTo returning p.was.member.array.geometry before h
  calm_begun = calm_first returning laws (WriteBlocks first contents) no_opening answer events x y p before s state

  -- by the tests of an array that may be written
  passes : (seats : Seats) → MayWrite first contents p.was.member
      → PassesTests (WriteBlocks first contents) s seats
  passes seats writes = (
    subst (λ (g : Geometry). first < block_count g) begins.geometry writes.below,
    subst (λ (g : Geometry). AreOfOneStripe g first (length contents)) begins.geometry writes.together,
    sym begins.frozen ∙ writes.thawed,
  )

  -- A ROW of the machine, from the seats that the array has to those that it is left with

  row : (given : Answer (WriteBlocks first contents)) (now : State) (array : Configuration) → now.geometry ≡ s.geometry
      → (WasBegun (WriteBlocks first contents) given → PassesTests (WriteBlocks first contents) s (seats_in p.was.member.array))
      → HoldsAfter (WriteBlocks first contents) given s now → now.seats ≡ Some (seats_in array)
      → EachMayDrop (seats_in p.was.member.array) (seats_in array)
      → Row (WriteBlocks first contents) given (seats_in p.was.member.array) s now
  row given now array geometry passes holds known drops = record {
    geometry = geometry;
    begins = begins.certain;
    passes = passes;
    holds = holds;
    seats = seats_in array;
    known = known;
    marks = drops;
  }

  -- WHERE IT LEADS

  as_it_was : (now : State) → now.content ≡ s.content → now.in_doubt ≡ None → IsAsItWas s now
  as_it_was now content certain = record { content = content; in_doubt = certain ∙ sym begins.certain }

  -- a refusal for good leaves no doubt, or the write in doubt
  held : (refusal : Refusal) → IsFinal refusal → (array : Configuration) (doubt : Option Change)
      → MayDoubt first contents p.was.member doubt
      → HoldsAfter (WriteBlocks first contents) (Err refusal) s (state_with p.was.member s.content doubt array)
  held refusal final array _ Certain = inl (as_it_was (state_with p.was.member s.content None array) refl refl)
  held refusal final array _ (Doubtful writes) =
      inr (final, InDoubt (BlocksAre first contents) refl (record { content = refl; in_doubt = refl }))

  -- what the array holds once it is done
  abbrev set_content : Content
  set_content = changed_if (written first contents) s.content

  led : (given : Answer (WriteBlocks first contents)) (v : Snapshot) → v ≡ snapshot p.is.member y.told → given ≡ answer
      → Outcome returning before p.was.rebuild p.was.stopped begins.words s.content first contents (snapshot p.was.member x.told) given v
      → StaysWithinToleranceTo returning p.was.member.array.geometry before y.told.history
      → IsLed returning p.was.member before s (WriteBlocks first contents) answer y
  led _ _ at is_answer (Stopped fault v doubt writes may is) calm =
      let now : State = state_with p.was.member s.content doubt is.array in
      record {
        state = now;
        is_step = record {
          begun = seats_in p.was.member.array;
          begins = begins.seats;
          row =
              subst (λ (r : Answer (WriteBlocks first contents)). Row (WriteBlocks first contents) r (seats_in p.was.member.array) s now) is_answer
              (row (Err (refused fault)) now is.array begins.geometry (λ begun. passes (seats_in p.was.member.array) writes)
              (held (refused fault) (refused_final fault) is.array doubt may) refl is.dropped);
        };
        is_in =
            stops_as returning laws (WriteBlocks first contents) no_opening answer events x y p before s state now
            (subst (λ (u : Snapshot). StandsFor returning now u.told.history) at is.stands)
            (kept_fault (Unit {0}) fault p.is.stopped
            (subst (λ (r : Answer (WriteBlocks first contents)). Keeps r p.is.stopped) (sym is_answer)
            (goes_on_as returning laws (WriteBlocks first contents) no_opening answer events x y p before s state).1));
      }
  led _ _ at is_answer (Refused refusal v serves_on stays not_final) calm =
      let last : Membership = p.is.member in
      let now : State = state_with last s.content None last.array in
      let stays_y : StaysArray p.was.member last = subst (λ (u : Snapshot). StaysArray p.was.member u.member) at stays in
      record {
        state = now;
        is_step = record {
          begun = seats_in p.was.member.array;
          begins = begins.seats;
          row =
              subst (λ (r : Answer (WriteBlocks first contents)). Row (WriteBlocks first contents) r (seats_in p.was.member.array) s now) is_answer
              (row (Err refusal) now last.array (stays_y.geometry ∙ begins.geometry) (λ begun. absurd (not_final begun))
              (inl (as_it_was now refl refl)) refl stays_y.seats);
        };
        is_in =
            serves_as returning laws (WriteBlocks first contents) no_opening answer events x y p before s state begins.words s.content stays_y
            (subst (λ (u : Snapshot). IsServing returning before (led_to p.was u.member) begins.words s.content u.told.history) at serves_on) p.rebuild
            (forgotten_in begins.words p.is.remembered p.remembers) calm;
      }
  led _ _ at is_answer (Written v writes is) calm =
      let last : Membership = p.is.member in
      let now : State = state_with last set_content None last.array in
      let stays_y : StaysArray p.was.member last = subst (λ (u : Snapshot). StaysArray p.was.member u.member) at is.stays in
      record {
        state = now;
        is_step = record {
          begun = seats_in p.was.member.array;
          begins = begins.seats;
          row =
              subst (λ (r : Answer (WriteBlocks first contents)). Row (WriteBlocks first contents) r (seats_in p.was.member.array) s now) is_answer
              (row (Ok tt) now last.array (stays_y.geometry ∙ begins.geometry) (λ begun. passes (seats_in p.was.member.array) writes)
              (record { content = refl; in_doubt = refl }) refl stays_y.seats);
        };
        is_in =
            serves_as returning laws (WriteBlocks first contents) no_opening answer events x y p before s state is.new set_content stays_y
            (subst (λ (u : Snapshot). IsServing returning before (led_to p.was u.member) is.new set_content u.told.history) at is.serves) p.rebuild
            (forgotten_in is.new p.is.remembered p.remembers) calm;
      }

  pub leads : StaysWithinTolerance returning s.geometry (is_open x.session) before y.told.history
      → IsLed returning p.was.member before s (WriteBlocks first contents) answer y
  leads calm =
      let here = calm_begun y.told.history calm in
      led answer (snapshot p.is.member y.told) refl refl
      (outcome returning laws before p.was.rebuild p.was.stopped begins.words s.content first contents redos answer (snapshot p.was.member x.told)
      (snapshot p.is.member y.told) p.does serves honest here) here

  -- WHAT A CRASH LEAVES

  cut_within : (array : Configuration) → EachMayDrop (seats_in p.was.member.array) (seats_in array) → (doubt : Option Change)
      → MayDoubt first contents p.was.member doubt
      → CutWithin (WriteBlocks first contents) (seats_in p.was.member.array) s (state_with p.was.member s.content doubt array)
  cut_within array drops _ Certain =
      let now : State = state_with p.was.member s.content None array in
      inr (Err (Gone 0), row (Err (Gone 0)) now array begins.geometry (λ final. absurd final) (inl (as_it_was now refl refl)) refl drops)
  cut_within array drops _ (Doubtful writes) =
      let now : State = state_with p.was.member s.content (Some (BlocksAre first contents)) array in
      inr (
        Err (TooFew []),
        row (Err (TooFew [])) now array begins.geometry (λ final. passes (seats_in p.was.member.array) writes)
            (held (TooFew []) tt array (Some (BlocksAre first contents)) (Doubtful writes)) refl drops,
      )

  pub cuts : (c : List Happening) → IsMoment x.told.history c y.told.history → StaysWithinTolerance returning s.geometry (is_open x.session) before c
      → EachImage (IsLeftBy returning (WriteBlocks first contents) p.was.member before c s) c
  cuts c at calm image left =
      let is =
      at_moment {P = StandsWith returning before p.was.rebuild p.was.stopped begins.words s.content first contents p.was.member}
      (moments returning laws before p.was.rebuild p.was.stopped begins.words s.content first contents redos answer (snapshot p.was.member x.told)
      (snapshot p.is.member y.told) p.does serves honest) at (calm_begun c calm) image left in
      record {
        state = state_with p.was.member s.content is.doubt is.is.array;
        cut = record {
          begun = seats_in p.was.member.array;
          begins = begins.seats;
          within = cut_within is.is.array is.is.dropped is.doubt is.may;
        };
        stands = is.is.stands;
      }
