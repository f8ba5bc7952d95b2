-- What a chunk that is written leaves at each moment, the last one of its slot too, whether media come back or not.
use Rattle.std.proofs.Common.{List, None, Option, Some, ap, arith, inl, inr, refl, subst, sym, ℕ, ◌+◌, ◌<◌, ◌∙◌, ◌≡◌, ◌≤◌}
use Rattle.std.specs.Prelude.{Err, IsTrue, Ok, Result, true}
use Rattle.stair_model.specs.Geometry.{Geometry}
use Rattle.stair_rack.specs.Answers.{IsHistory, any_call}
use Rattle.stair_rack.specs.Crash.{EachImage}
use Rattle.stair_rack.specs.History.{Happening}
use Rattle.stair_rack.specs.Moments.{AtEveryMoment, IsMoment}
use Rattle.stair_rack.specs.Offline.{IsAttached}
use Rattle.stair_rack.specs.RackState.{RackState}
use Rattle.stair_rack.specs.declared.rack.Reply.{Reply}
use Rattle.stair_rack.specs.declared.rack.Reply.TheVariants as reply
use Rattle.stair_rack.proofs.MomentLemmas.{at_moment, ran_join}
use Rattle.stair_super.specs.declared.configuration.Configuration.{Configuration}
use Rattle.stair_member.specs.Membership.{Membership, why_of}
use Rattle.stair_member.specs.declared.fault.FenceFault.{FenceFault}
use Rattle.stair_member.specs.declared.why.Why.{Why}
use Rattle.stair_state.specs.Blocks.{AreEncodingsOf, Codewords}
use Rattle.stair_state.specs.State.{Content, State}
use Rattle.stair_invariant.specs.Effects.{Snapshot, snapshot}
use Rattle.stair_invariant.specs.InSession.{IsOfContent, state_with}
use Rattle.stair_invariant.specs.Leading.{led_to, rebuild_if, rebuild_in}
use Rattle.stair_invariant.specs.Opening.{StaysArray, opened_with}
use Rattle.stair_invariant.specs.Rebuilding.{IsRebuiltTo, Rebuild}
use Rattle.stair_invariant.specs.Returning.{StaysWithinTolerance, Knows, Returning, StandsFor}
use Rattle.stair_invariant.specs.SeatSteps.{EachMayDrop}
use Rattle.stair_invariant.specs.Session.{ArrayState, IsRebuiltIn, Remembered, seats_in}
use Rattle.stair_invariant.proofs.Mending.{LeadsBeside, LeadsPromotions, calm_going}
use Rattle.stair_invariant.proofs.OpenWithLemmas.{rebuilds_on}
use Rattle.stair_invariant.proofs.Serving.{StaysWithinToleranceTo, IsServing, LeadsReads}
use Rattle.stair_array.specs.Calls.{answer_of}
use Rattle.stair_array.specs.Causes.{IsNextChunk}
use Rattle.stair_array.specs.Machine.{EpochsSpent, RebuildNext, Refusal, Row, SeatsAfter}
use Rattle.stair_array.specs.MendingSteps.{WritesNext}
use Rattle.stair_array.specs.Mends.{Rebuilds}
use Rattle.stair_array.specs.Promise.{IsInState, IsLeftBy, IsOpenFor, Opened, ServesState, running}
use Rattle.stair_array.proofs.ChunkServingLemmas.{chunk_more, chunk_serves}
use Rattle.stair_array.proofs.LoadingLemmas.{Serves, stripe_moments}
use Rattle.stair_array.proofs.OpenStepLemmas.{calm_over, forgets_open, forgetting}
use Rattle.stair_array.proofs.PartsLemmas.{out_after}
use Rattle.stair_array.proofs.ReadPartLemmas.{array_with, none_asked}
use Rattle.stair_array.proofs.RebuildCourseLemmas.{NextIsRebuilt, next_rebuilt}
use Rattle.stair_array.proofs.RebuildEndLemmas.{chunks_next, moments_join, plain, stands_moved}
use Rattle.stair_array.proofs.RebuildSeatLemmas.{MayMove, MovesAt, moments_sooner}
use Rattle.stair_array.proofs.RebuildStripeLemmas.{chunk_moments, fell_moments, going_by, is_now, l, load_moments, upto_y}
use Rattle.stair_array.proofs.ServingLemmas.{going_sooner}
use Rattle.stair_mend.specs.Steps.{chunk_came}
use Rattle.stair_mend.proofs.StepLemmas.{next_dropped, next_refused, next_wrote}

-- A CHUNK AS A STEP

module _ (was : ArrayState) (j t : ℕ) (next : IsNextChunk was j t) (answer : Result Reply Refusal) (x y : Snapshot) (writes : WritesNext j t answer x y) where
  pub chunk_step : t < x.member.array.geometry.stripes → t + 1 < x.member.array.geometry.stripes → (given : Result Reply Refusal) → answer ≡ given
      → Rebuilds was (chunk_came j t given) x y
  chunk_step below more (Ok reply.Done) same = next_wrote was j t next answer x y writes more same
  chunk_step below more (Ok reply.Gone) same = next_dropped was j t next answer x y writes below same
  chunk_step below more (Err refusal) same = next_refused was j t next answer x y writes below refusal same

-- AT EACH MOMENT

module _ (returning : Returning) (laws : LeadsReads returning) (besides : LeadsBeside returning) (promotions : LeadsPromotions returning)
    (before : List Happening) (was : ArrayState) (words : Codewords) (kept : Content) where
  abbrev ServesAt : Snapshot → Type 0
  ServesAt x = Serves returning before was.rebuild was.stopped words kept x x.told.history

  pub next_moments : (j t : ℕ) (answer : Result Reply Refusal) (x z : Snapshot) → WritesNext j t answer x z → IsNextChunk was j t
      → t < x.member.array.geometry.stripes → ServesAt x → NextIsRebuilt was x → IsTrue z.told.honest
      → AtEveryMoment (MovesAt returning before kept x.member) x.told.history z.told.history
  next_moments j t _ _ _ (WritesNext.Unread into refusal x y loads) at below is next honest =
      stands_moved returning before x.member kept x.told.history y.told.history
      (stripe_moments returning laws before was.rebuild was.stopped words kept x is t into x (none_asked x) (Err refusal) x y loads refl honest)
  next_moments j t _ _ _ (WritesNext.FellLoading into x y loads fell) at below is next honest =
      load_moments returning laws besides promotions before was words kept x is next j t into y at below loads honest
  next_moments j t _ _ _ (WritesNext.Fell into refusal x y z w loads rebuilt wrote drops) at below is next honest =
      let after = (out_after drops.gone refusal z w drops.leaves).later in
      let honest_z = subst IsTrue (sym after.honest) honest in
      let honest_y = subst IsTrue (sym wrote.later.honest) honest_z in
      let upto = upto_y returning laws besides promotions before was words kept x is next j t into y at below loads honest_y in
      moments_join returning before kept x.member x.told.history y.told.history w.told.history upto
      (load_moments returning laws besides promotions before was words kept x is next j t into y at below loads honest_y)
      (ran_join {allowed = any_call} (wrote.later.ran honest_z) (after.ran honest))
      (λ on.
      moments_sooner returning before kept x.member y.member (l returning laws besides promotions before was words kept x is next j t into y at below
      loads honest_y on).stays y.told.history
      w.told.history
      (moments_join returning before kept y.member y.told.history z.told.history w.told.history (ran_join {allowed = any_call} upto
      (wrote.later.ran honest_z))
      (chunk_moments returning laws besides promotions before was words kept x is next j t into y at below loads honest_y on rebuilt reply.Gone z
      wrote honest_z) (after.ran honest)
      (λ on_z.
      fell_moments returning laws besides promotions before was words kept x is next j t into y at below loads honest_y on rebuilt reply.Gone z wrote
      honest_z w honest on_z refusal
      drops)))
  next_moments j t _ _ _ (WritesNext.Wrote into x y z loads rebuilt wrote) at below is next honest =
      let honest_y = subst IsTrue (sym wrote.later.honest) honest in
      moments_join returning before kept x.member x.told.history y.told.history z.told.history
      (upto_y returning laws besides promotions before was words kept x is next j t into y at below loads honest_y)
      (load_moments returning laws besides promotions before was words kept x is next j t into y at below loads honest_y) (wrote.later.ran honest)
      (λ on.
      moments_sooner returning before kept x.member y.member (l returning laws besides promotions before was words kept x is next j t into y at below
      loads honest_y on).stays y.told.history
      z.told.history (chunk_moments returning laws besides promotions before was words kept x is next j t into y at below loads honest_y on rebuilt
      reply.Done z wrote honest))

  -- The chunk was written, be it the last one of its slot: the array serves on, and its rebuild has come past it.
  pub record GoesPast (j t : ℕ) (x z : Snapshot) : Type 0 where
    pub stays : StaysArray x.member z.member
    pub serves : IsServing returning before (running z.member (Some (record { slot = j; stripe = t + 1 })) None) words kept z.told.history

  fell_never : (refusal : Option FenceFault) → ¬ (answer_of reply.Gone refusal ≡ Ok reply.Done)
  fell_never None same = cc
  fell_never (Some fault) same = cc

  pub next_past : (j t : ℕ) (answer : Result Reply Refusal) (x z : Snapshot) → WritesNext j t answer x z → answer ≡ Ok reply.Done
      → IsNextChunk was j t → t < x.member.array.geometry.stripes → ServesAt x → NextIsRebuilt was x → IsTrue z.told.honest
      → StaysWithinToleranceTo returning x.member.array.geometry before z.told.history → GoesPast j t x z
  next_past j t _ _ _ (WritesNext.Unread into refusal x y loads) done at below is next honest calm = absurd (cc)
  next_past j t _ _ _ (WritesNext.FellLoading into x y loads fell) done at below is next honest calm = absurd (cc)
  next_past j t _ _ _ (WritesNext.Fell into refusal x y z w loads rebuilt wrote drops) done at below is next honest calm =
      absurd (fell_never refusal done)
  next_past j t _ _ _ (WritesNext.Wrote into x y z loads rebuilt wrote) done at below is next honest calm =
      let honest_y = subst IsTrue (sym wrote.later.honest) honest in
      let upto = upto_y returning laws besides promotions before was words kept x is next j t into y at below loads honest_y in
      let on_z =
      calm_going returning x.member.array.geometry before z.told.history (ran_join {allowed = any_call} upto (wrote.later.ran honest)) calm in
      let on_y = going_sooner returning x.member.array.geometry before y.told.history z.told.history upto (wrote.later.ran honest) on_z in
      let loaded = l returning laws besides promotions before was words kept x is next j t into y at below loads honest_y on_y in
      let led = led_to (array_with was.rebuild was.stopped x) y.member in
      let serves_y = plain returning before led words kept y.told.history loaded.serves in
      let serves_z =
      chunk_serves returning laws besides before y.member words kept j rebuilt y.told serves_y z honest t into reply.Done wrote
      (going_by returning laws besides promotions before was words kept x is next j t into y at below loads honest_y on_y z.told.history on_z) in
      let below_y = subst (λ (g : Geometry). t < g.stripes) (sym loaded.stays.geometry) below in
      let chunks =
      chunk_more returning laws besides before y.member words kept j rebuilt y.told serves_y z honest t into reply.Done wrote refl loaded.same below_y
      (chunks_next returning before was led words kept y.told.history j t loaded.serves at
      (λ r same slot. ap (rebuild_in y.member) same ∙ ap (λ (w : Why). rebuild_if w r) (ap (why_of y.member) slot ∙ rebuilt.why))) in
      subst (λ (p : Snapshot). GoesPast j t x p)
      (sym (is_now returning laws besides promotions before was words kept x is next j t into y at below loads honest_y on_y rebuilt reply.Done z
      wrote honest))
      (record {
        stays = loaded.stays;
        serves = record {
          is_open =
              rebuilds_on before (opened_with y.member) (running y.member (Some (record { slot = j; stripe = t + 1 })) None) words z.told.history
              serves_z.is_open refl
              (λ r is_r.
              let one : ◌≡◌ {A = Rebuild} (record { slot = j; stripe = t + 1 }) r = cc in
              subst
              (λ (k : Rebuild). IsRebuiltIn y.member k.slot
              × ((k.stripe ≤ y.member.array.geometry.stripes)
              × (IsAttached z.told.history k.slot
              → IsRebuiltTo y.member.array.geometry words k.slot k.stripe z.told.history z.told.history))) one
              (rebuilt, (omega (arith, below_y), chunks)));
          history = serves_z.history;
          of = serves_z.of;
          knows = serves_z.knows;
        };
      })

-- of a rack that is an array in a state
module _ (returning : Returning) (laws : LeadsReads returning) (besides : LeadsBeside returning) (promotions : LeadsPromotions returning)
    (m last : Membership) (rebuild : Option Rebuild) (known : Option Remembered) (j t : ℕ) (answer : Result Reply Refusal) (x y : RackState)
    (before : List Happening) (s : State) (at : IsNextChunk (running m rebuild known) j t) (below : t < m.array.geometry.stripes)
    (wrote : WritesNext j t answer (snapshot m x) (snapshot last y)) (honest : IsTrue y.honest) (history : IsHistory x.history)
    (state : IsInState returning before s (record { told = x; session = Opened (running m rebuild known) })) where
  abbrev was : ArrayState
  was = running m rebuild known

  begins : IsOpenFor returning before s was x.history
  begins = by state.serves
    where
      by : ServesState returning before s (Opened was) x → IsOpenFor returning before s was x.history
      by (inl is) = is
      by (inr stops) = absurd (cc)

  of_state : IsOfContent m begins.words s.content
  of_state = record {
    encodings = subst (λ (g : Geometry). AreEncodingsOf g s.content.blocks begins.words) (sym begins.geometry) begins.encodings;
    frozen = begins.frozen;
    label = begins.label;
  }

  same_state : s ≡ state_with m s.content None m.array
  same_state = λ i. record {
    geometry = sym begins.geometry i;
    content = s.content;
    in_doubt = begins.certain i;
    seats = begins.seats i;
  }

  serves : IsServing returning before (forgetting was) begins.words s.content x.history
  serves = record {
    is_open = forgets_open before was begins.words x.history begins.is_open;
    history = history;
    of = of_state;
    knows = subst (λ (r : State). Knows returning r m x.history) same_state begins.knows;
  }

  calm_begun : (h : List Happening) → StaysWithinTolerance returning s.geometry true before h → StaysWithinToleranceTo returning m.array.geometry before h
  calm_begun h = calm_over returning m.array.geometry s.geometry before h begins.geometry

  spent_moves : (array : Configuration) → MayMove (seats_in m.array) (seats_in array)
      → SeatsAfter RebuildNext (Err EpochsSpent) (seats_in m.array) (seats_in array)
  spent_moves array (inl dropped) = inl dropped
  spent_moves array (inr moved) = inr (tt, moved.0, moved.1)

  row : (array : Configuration) → MayMove (seats_in m.array) (seats_in array)
      → Row RebuildNext (Err EpochsSpent) (seats_in m.array) s (state_with m s.content None array)
  row array moved = record {
    geometry = begins.geometry;
    begins = begins.certain;
    passes = λ begun. tt;
    holds = inl (record { content = refl; in_doubt = sym begins.certain });
    seats = seats_in array;
    known = refl;
    marks = spent_moves array moved;
  }

  pub chunk_cuts : (c : List Happening) → IsMoment x.history c y.history → StaysWithinTolerance returning s.geometry true before c
      → EachImage (IsLeftBy returning RebuildNext m before c s) c
  chunk_cuts c moment calm image left =
      let is =
      at_moment {P = MovesAt returning before s.content m}
      (next_moments returning laws besides promotions before was begins.words s.content j t answer (snapshot m x) (snapshot last y) wrote at below serves
      (next_rebuilt was x begins.is_open.array) honest) moment (calm_begun c calm) image left in
      record {
        state = state_with m s.content None is.0;
        cut = record { begun = seats_in m.array; begins = begins.seats; within = inr (Err EpochsSpent, row is.0 is.2) };
        stands = is.1;
      }

  -- once the chunk was written it is in the state, but for slots that were dropped
  pub chunk_past : answer ≡ Ok reply.Done → StaysWithinTolerance returning s.geometry true before y.history
      → EachMayDrop (seats_in m.array) (seats_in last.array)
      × IsInState returning before (record s { seats = Some (seats_in last.array) })
      (record { told = y; session = Opened (running last (Some (record { slot = j; stripe = t + 1 })) None) })
  chunk_past done calm =
      let past =
      next_past returning laws besides promotions before was begins.words s.content j t answer (snapshot m x) (snapshot last y) wrote done at below
      serves (next_rebuilt was x begins.is_open.array) honest (calm_begun y.history calm) in
      let geometry : last.array.geometry ≡ s.geometry = past.stays.geometry ∙ begins.geometry in
      let stands =
      laws.stands before (running last (Some (record { slot = j; stripe = t + 1 })) None) begins.words s.content y.history past.serves
      (calm_over returning last.array.geometry m.array.geometry before y.history past.stays.geometry (calm_begun y.history calm)) in
      let same : state_with last s.content None last.array ≡ record s { seats = Some (seats_in last.array) } =
      λ i. record { geometry = geometry i; content = s.content; in_doubt = sym begins.certain i; seats = Some (seats_in last.array) } in (
        past.stays.seats,
        record {
          stands = subst (λ (r : State). StandsFor returning r y.history) same stands;
          serves =
              inl (record {
                words = begins.words;
                encodings = begins.encodings;
                is_open = past.serves.is_open;
                geometry = geometry;
                frozen = past.serves.of.frozen;
                label = past.serves.of.label;
                seats = refl;
                certain = begins.certain;
                knows = subst (λ (r : State). Knows returning r last y.history) same past.serves.knows;
                remembered = tt;
              });
        },
      )
