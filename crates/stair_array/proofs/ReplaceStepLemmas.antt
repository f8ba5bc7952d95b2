-- The replacement of a slot is a step of the array's machine, and what a crash leaves in the midst of it is what one within the step
-- leaves, whether media come back or not.
use Rattle.std.proofs.Common.{◌≡◌, ℕ, ◌<◌, List, inl, inr, refl, sym, ap, ◌∙◌, subst, None, Some, Option}
use Rattle.std.specs.Prelude.{◌⊎◌, IsTrue, Result, Ok, Err}
use Rattle.stair_model.specs.Geometry.{Geometry}
use Rattle.stair_model.specs.Slots.{HasSlot, Slots}
use Rattle.stair_rack.specs.Answers.{Ran, any_call, IsHistory}
use Rattle.stair_rack.specs.Crash.{EachImage}
use Rattle.stair_rack.specs.History.{Happening}
use Rattle.stair_rack.specs.Moments.{AtEveryMoment, IsMoment}
use Rattle.stair_rack.specs.declared.watcher.Event.{Event}
use Rattle.stair_rack.proofs.MomentLemmas.{at_every_from, at_every_join, at_every_mapped, at_moment, ran_any, ran_none, ran_join, ran_weakened}
use Rattle.stair_super.specs.Superblock.{mark_in}
use Rattle.stair_super.specs.declared.configuration.Configuration.{Configuration}
use Rattle.stair_super.specs.declared.mark.Mark.TheVariants as mark
use Rattle.stair_member.specs.Aims.{mark_for}
use Rattle.stair_member.specs.Establishing.{Joins, refusal_in, Establishes}
use Rattle.stair_member.specs.Membership.{Membership, why_of}
use Rattle.stair_member.specs.declared.aim.EpochChange.TheVariants.{Admit}
use Rattle.stair_member.specs.declared.fault.AdmitFault.{AdmitFault}
use Rattle.stair_member.specs.declared.fault.AdmitFault.TheVariants as admit
use Rattle.stair_member.specs.declared.fault.FenceFault.{FenceFault}
use Rattle.stair_member.specs.declared.fault.FenceFault.TheVariants as fence
use Rattle.stair_member.specs.declared.why.Why.{Why}
use Rattle.stair_state.specs.State.{State}
use Rattle.stair_invariant.specs.Effects.{Snapshot, snapshot}
use Rattle.stair_invariant.specs.InSession.{state_with}
use Rattle.stair_invariant.specs.Leading.{IsBesideArray, led_to}
use Rattle.stair_invariant.specs.Returning.{StaysWithinTolerance, Returning}
use Rattle.stair_invariant.specs.SeatSteps.{EachMayDrop, SeatGoes, SeatsMove}
use Rattle.stair_invariant.specs.Session.{seats_in}
use Rattle.stair_invariant.proofs.FencesLemmas.{stays_open}
use Rattle.stair_invariant.proofs.Serving.{StaysWithinToleranceTo, IsGoing, IsServing, LeadsReads}
use Rattle.stair_invariant.proofs.Mending.{IsLookedAt, calm_going, LeadsAdmissions, LeadsBeside, epoch_moves, seen_by}
use Rattle.stair_array.specs.Calls.{refused}
use Rattle.stair_array.specs.Causes.{IsFree}
use Rattle.stair_array.specs.Machine.{AlreadyArray, Answer, EpochsSpent, Gone, IsAsItWas, IsFinal, OutOfRange, Recover, Refusal, ReplaceSlot, Row, SlotBusy, SmallDevice}
use Rattle.stair_array.specs.Mends.{Admitted, Busy, IsPreparing, OutOf, PreparesSlot, Prepared, Replaces, Unprepared, WasGone, WasOther, WasSmall, joined_as}
use Rattle.stair_array.specs.Promise.{IsInState, IsLed, IsLeftBy, IsOpenFor, Keeps, Performs, Seen, is_open}
use Rattle.stair_array.proofs.BesideServingLemmas.{beside_moments}
use Rattle.stair_array.proofs.LeftServingLemmas.{StandsAt}
use Rattle.stair_array.proofs.OpenStepLemmas.{forgotten_in, calm_first, goes_on_as, kept_fault, open_first, serves_first, serves_over, stops_as}
use Rattle.stair_array.proofs.PartsLemmas.{epoch_after}
use Rattle.stair_array.proofs.PreparedLemmas.{down_out, prepared_looked, prepares_ran, preparing_beside, unprepared_member}
use Rattle.stair_array.proofs.PreparedSlotLemmas.{IsReady, ready_of}
use Rattle.stair_array.proofs.ServingLemmas.{going_sooner}

-- a refusal before the admission isn't one for good
pub unprepared_goes_on : (slot : ℕ) (answer : Result (Unit {0}) Refusal) (x z : Snapshot) → PreparesSlot slot answer x z → (refusal : Refusal)
    → answer ≡ Err refusal → ¬ IsFinal refusal
unprepared_goes_on slot _ _ _ (WasGone x y only found) refusal is =
    let same : Gone slot ≡ refusal = cc in subst (λ (r : Refusal). ¬ IsFinal r) same (λ never. never)
unprepared_goes_on slot _ _ _ (WasSmall has needs mid x y looks small) refusal is =
    let same : SmallDevice slot has needs ≡ refusal = cc in subst (λ (r : Refusal). ¬ IsFinal r) same (λ never. never)
unprepared_goes_on slot _ _ _ (WasOther mid x y looks other) refusal is =
    let same : AlreadyArray slot ≡ refusal = cc in subst (λ (r : Refusal). ¬ IsFinal r) same (λ never. never)
unprepared_goes_on slot _ _ _ (Prepared first second mid x y z looks fit later placed sees rules) refusal is = absurd (cc)

module _ (returning : Returning) (laws : LeadsReads returning) (besides : LeadsBeside returning) (admissions : LeadsAdmissions returning)
    (slot : ℕ) (answer : Answer (ReplaceSlot slot)) (events : List Event) (x y : Seen) (p : Performs (ReplaceSlot slot) answer events x y)
    (honest : IsTrue y.told.honest) (before : List Happening) (s : State) (history : IsHistory x.told.history)
    (state : IsInState returning before s x) where
  pub no_opening : ¬ (ReplaceSlot slot ≡ Recover)
  no_opening same = cc

  abbrev m : Membership
  m = p.was.member

  abbrev last : Membership
  last = p.is.member

  abbrev pub begins : IsOpenFor returning before s p.was x.told.history
  begins = open_first returning laws (ReplaceSlot slot) no_opening answer events x y p before s state

  pub serves : IsServing returning before p.was begins.words s.content x.told.history
  serves = serves_first returning laws (ReplaceSlot slot) no_opening answer events x y p before s state history

  pub calm_begun : (h : List Happening) → StaysWithinTolerance returning s.geometry (is_open x.session) before h
      → StaysWithinToleranceTo returning m.array.geometry before h
  calm_begun = calm_first returning laws (ReplaceSlot slot) no_opening answer events x y p before s state

  ran : Ran any_call x.told.history y.told.history
  ran = p.later.ran honest

  all_ran : Ran any_call before y.told.history
  all_ran = ran_join {allowed = any_call} serves.is_open.ran ran

  -- ROWS

  as_it_was : (now : State) → now.content ≡ s.content → now.in_doubt ≡ None → IsAsItWas s now
  as_it_was now content certain = record { content = content; in_doubt = certain ∙ sym begins.certain }

  no_drop : EachMayDrop (seats_in m.array) (seats_in m.array)
  no_drop j = inl refl

  -- the state of the array with these seats
  abbrev with_seats : Configuration → State
  with_seats array = state_with m s.content None array

  passes : IsFree m slot → (slot < s.geometry.n) × (mark_in m.array slot ≡ mark.Down)
  passes free = (subst (λ (g : Geometry). slot < g.n) begins.geometry free.0, free.1)

  -- a refusal leaves the array as it was, with slots that were gone dropped, or with the slot as one that is rebuilt
  refused_row : (refusal : Refusal) → (IsFinal refusal → IsFree m slot) → (array : Configuration)
      → (EachMayDrop (seats_in m.array) (seats_in array)
      ⊎ (IsFinal refusal × SeatGoes slot mark.Down mark.Rebuilding (seats_in m.array) (seats_in array)))
      → (now : State) → now.geometry ≡ m.array.geometry → now.content ≡ s.content → now.in_doubt ≡ None → now.seats ≡ Some (seats_in array)
      → Row (ReplaceSlot slot) (Err refusal) (seats_in m.array) s now
  refused_row refusal free array moved now geometry content certain seats = record {
    geometry = geometry ∙ begins.geometry;
    begins = begins.certain;
    passes = λ final. passes (free final);
    holds = inl (as_it_was now content certain);
    seats = seats_in array;
    known = seats;
    marks = moved;
  }

  -- WHERE IT WAS REFUSED BEFORE THE ADMISSION nothing of the array was changed

  still : (v : Snapshot) → v ≡ snapshot last y.told → v.member ≡ m → Ran (IsBesideArray p.was) x.told.history v.told.history → (refusal : Refusal)
      → answer ≡ Err refusal → ¬ IsFinal refusal → StaysWithinToleranceTo returning m.array.geometry before y.told.history
      → IsLed returning m before s (ReplaceSlot slot) answer y
  still v at same_member beside refusal same not_final calm =
      record {
        state = state_with last s.content None last.array;
        is_step = record {
          begun = seats_in m.array;
          begins = begins.seats;
          row =
              subst (λ (r : Answer (ReplaceSlot slot)). Row (ReplaceSlot slot) r (seats_in m.array) s (state_with last s.content None last.array))
              (sym same)
              (refused_row refusal (λ final. absurd (not_final final)) m.array (inl no_drop) (state_with last s.content None last.array)
              (ap (λ (k : Membership). k.array.geometry) same_last) refl refl
              (ap (λ (k : Membership). Some (seats_in k.array)) same_last));
        };
        is_in =
            serves_over returning laws (ReplaceSlot slot) no_opening answer events x y p before s state begins.words s.content
            (ap (λ (k : Membership). k.array.geometry) same_last)
            (subst (λ (k : Membership). IsServing returning before (led_to p.was k) begins.words s.content y.told.history) (sym same_last)
            (record {
              is_open = stays_open before p.was begins.words y.told.history then.is_open;
              history = then.history;
              of = then.of;
              knows = then.knows;
            })) p.rebuild (forgotten_in begins.words p.is.remembered p.remembers) calm;
      }
    where
      same_last : last ≡ m
      same_last = sym (ap (λ (u : Snapshot). u.member) at) ∙ same_member

      to_y : Ran (IsBesideArray p.was) x.told.history y.told.history
      to_y = subst (λ (u : Snapshot). Ran (IsBesideArray p.was) x.told.history u.told.history) at beside

      then : IsServing returning before p.was begins.words s.content y.told.history
      then =
          besides.beside before p.was begins.words s.content x.told.history y.told.history serves to_y
          (calm_going returning m.array.geometry before y.told.history all_ran calm)

  -- what a crash leaves amid calls that are beside
  abbrev LeavesAt : List Happening → Type 0
  LeavesAt c = StaysWithinToleranceTo returning m.array.geometry before c → EachImage (IsLeftBy returning (ReplaceSlot slot) m before c s) c

  beside_leaves : (h : List Happening) → Ran (IsBesideArray p.was) x.told.history h → AtEveryMoment LeavesAt x.told.history h
  beside_leaves h beside =
      at_every_mapped {P = StandsAt returning before p.was.member s.content} {Q = LeavesAt}
      (λ c stands calm image left.
      let is = stands calm image left in
      record {
        state = with_seats is.array;
        cut = record {
          begun = seats_in m.array;
          begins = begins.seats;
          within =
              inr (
                Err (Gone slot),
                refused_row (Gone slot) (λ final. absurd final) is.array (inl is.dropped) (with_seats is.array) refl refl refl
                    refl,
              );
        };
        stands = is.stands;
      }) (beside_moments returning laws besides before p.was begins.words s.content x.told.history h serves beside)

  preparing : IsFree m slot → {h : List Happening} → Ran (IsPreparing m.array.geometry slot) x.told.history h
      → Ran (IsBesideArray p.was) x.told.history h
  preparing free ran =
      ran_weakened {allowed = IsPreparing m.array.geometry slot} {more = IsBesideArray p.was}
      (preparing_beside p.was serves.is_open.array slot (down_out p.was serves.is_open.array slot free.1)) ran

  -- THE ADMISSION, by what the look at the medium saw
  module _ (z : Snapshot) (prep : IsReady slot (snapshot m x.told) z) (free : IsFree m slot) (honest_z : IsTrue z.told.honest)
      (ran_z : Ran any_call z.told.history y.told.history) where
    looked : IsLookedAt p.was slot z.member x.told.history z.told.history
    looked = prepared_looked p.was serves.is_open.array slot x.told z prep honest_z free.0 free.1

    same_array : z.member.array ≡ m.array
    same_array = looked.sees.array

    same_geometry : z.member.array.geometry ≡ m.array.geometry
    same_geometry = ap (λ (c : Configuration). c.geometry) same_array

    abbrev state_of : Configuration → State
    state_of array = state_with z.member s.content None array

    -- seats as the aim has them are those of the machine
    moved : {final : Type 0} (was : final) (gone : Slots) (array : Configuration)
        → (array ≡ z.member.array) ⊎ SeatsMove (Admit slot) (HasSlot gone) (seats_in z.member.array) (seats_in array)
        → EachMayDrop (seats_in m.array) (seats_in array)
        ⊎ (final × SeatGoes slot mark.Down mark.Rebuilding (seats_in m.array) (seats_in array))
    moved was gone array (inl same) = inl (λ j. inl (ap (λ (c : Configuration). seats_in c j) (same ∙ same_array)))
    moved was gone array (inr moves) =
        elim moves.moves [
          | inl goes ↦
              inr (was, subst (λ (c : Configuration). SeatGoes slot mark.Down mark.Rebuilding (seats_in c) (seats_in array)) same_array goes)
          | inr drops ↦ inl (subst (λ (c : Configuration). EachMayDrop (seats_in c) (seats_in array)) same_array drops.1)
        ]

    -- at each moment of it
    joins_leaves : (refusal : Option FenceFault) → Establishes (Admit slot) z.member last refusal z.told y.told → (c : List Happening)
        → IsMoment z.told.history c y.told.history → LeavesAt c
    joins_leaves refusal e c at calm image left =
        let found =
        admissions.moments before p.was begins.words s.content slot z.member last refusal x.told.history z.told y.told serves looked e honest c at
        calm image left in
        record {
          state = state_of found.array;
          cut = record {
            begun = seats_in m.array;
            begins = begins.seats;
            within = inr (
              Err EpochsSpent,
              refused_row EpochsSpent (λ final. free) found.array (moved tt e.gone found.array found.moved) (state_of found.array)
                  same_geometry refl refl refl,
            );
          };
          stands = found.stands;
        }

    -- refused for good
    failed : (fault : FenceFault) → answer ≡ Err (refused fault) → IsFinal (refused fault)
        → Establishes (Admit slot) z.member last (Some fault) z.told y.told → StaysWithinToleranceTo returning m.array.geometry before y.told.history
        → IsLed returning m before s (ReplaceSlot slot) answer y
    failed fault same final e calm =
        let found =
        admissions.ended before p.was begins.words s.content slot z.member last (Some fault) x.told.history z.told y.told serves looked e honest calm
        in
        record {
          state = state_of found.array;
          is_step = record {
            begun = seats_in m.array;
            begins = begins.seats;
            row =
                subst (λ (r : Answer (ReplaceSlot slot)). Row (ReplaceSlot slot) r (seats_in m.array) s (state_of found.array)) (sym same)
                (refused_row (refused fault) (λ is. free) found.array (moved final e.gone found.array found.moved) (state_of found.array)
                same_geometry refl refl refl);
          };
          is_in =
              stops_as returning laws (ReplaceSlot slot) no_opening answer events x y p before s state (state_of found.array) found.stands
              (kept_fault (Unit {0}) fault p.is.stopped
              (subst (λ (r : Answer (ReplaceSlot slot)). Keeps r p.is.stopped) same
              (goes_on_as returning laws (ReplaceSlot slot) no_opening answer events x y p before s state).1));
        }

    -- it isn't for want of slots
    enough : (whys : List Why) → Establishes (Admit slot) z.member last (Some (fence.TooFew whys)) z.told y.told
        → StaysWithinToleranceTo returning m.array.geometry before y.told.history → ⊥
    enough whys e calm =
        admissions.enough before p.was begins.words s.content slot z.member last whys x.told.history z.told y.told serves looked e honest calm

    -- an epoch stands, with the slot or without it
    module _ (e : Establishes (Admit slot) z.member last None z.told y.told) (calm : StaysWithinToleranceTo returning m.array.geometry before y.told.history) where
      on_y : IsGoing returning m.array.geometry before y.told.history
      on_y = calm_going returning m.array.geometry before y.told.history all_ran calm

      last_geometry : last.array.geometry ≡ m.array.geometry
      last_geometry = e.geometry ∙ same_geometry

      -- by what was seen the array serves
      saw : IsServing returning before (seen_by p.was z.member) begins.words s.content z.told.history
      saw =
          admissions.saw before p.was begins.words s.content slot z.member x.told.history z.told.history serves looked
          (going_sooner returning m.array.geometry before z.told.history y.told.history
          (ran_join {allowed = any_call} serves.is_open.ran (ran_any {allowed = IsBesideArray p.was} looked.ran)) ran_z on_y)

      moves : SeatsMove (Admit slot) (HasSlot e.gone) (seats_in z.member.array) (seats_in last.array)
      moves =
          epoch_moves (Admit slot) z.member last z.told y.told looked.rules saw.is_open.array.marks
          (subst (λ (c : Configuration). (slot < c.geometry.n) × (mark_in c slot ≡ mark.Down)) (sym same_array) free) e

      in_state : IsInState returning before (state_with last s.content None last.array) y
      in_state =
          serves_over returning laws (ReplaceSlot slot) no_opening answer events x y p before s state begins.words s.content last_geometry
          (admissions.serves before p.was begins.words s.content slot z.member last x.told.history z.told y.told serves looked e honest on_y)
          p.rebuild (forgotten_in begins.words p.is.remembered p.remembers) calm

      -- the slot is marked as one that is rebuilt, or Down where it was gone
      marked : mark_in last.array slot ≡ mark_for (why_of last slot)
      marked = (e.done refl).stands.marks slot (subst (λ (g : Geometry). slot < g.n) (sym same_geometry) free.0)

      dropped_out : HasSlot e.gone slot → EachMayDrop (seats_in m.array) (seats_in last.array)
      dropped_out gone =
          elim moves.moves [
            | inr drops ↦ subst (λ (c : Configuration). EachMayDrop (seats_in c) (seats_in last.array)) same_array drops.1
            | inl goes ↦
                let never : mark.Rebuilding ≡ mark.Down = sym goes.is ∙ marked ∙ ap mark_for (e.were_gone.dropped slot gone) in
                absurd (cc)
          ]

      goes_in : ¬ HasSlot e.gone slot → SeatGoes slot mark.Down mark.Rebuilding (seats_in m.array) (seats_in last.array)
      goes_in kept =
          elim moves.moves [
            | inr drops ↦ absurd (kept drops.0)
            | inl goes ↦ subst (λ (c : Configuration). SeatGoes slot mark.Down mark.Rebuilding (seats_in c) (seats_in last.array)) same_array goes
          ]

      abbrev now : State
      now = state_with last s.content None last.array

      was_gone : answer ≡ Err (Gone slot) → HasSlot e.gone slot → IsLed returning m before s (ReplaceSlot slot) answer y
      was_gone same gone = record {
        state = now;
        is_step = record {
          begun = seats_in m.array;
          begins = begins.seats;
          row =
              subst (λ (r : Answer (ReplaceSlot slot)). Row (ReplaceSlot slot) r (seats_in m.array) s now) (sym same)
              (refused_row (Gone slot) (λ final. absurd final) last.array (inl (dropped_out gone)) now last_geometry refl refl refl);
        };
        is_in = in_state;
      }

      was_admitted : answer ≡ Ok tt → ¬ HasSlot e.gone slot → IsLed returning m before s (ReplaceSlot slot) answer y
      was_admitted same kept = record {
        state = now;
        is_step = record {
          begun = seats_in m.array;
          begins = begins.seats;
          row =
              subst (λ (r : Answer (ReplaceSlot slot)). Row (ReplaceSlot slot) r (seats_in m.array) s now) (sym same)
              (record {
                geometry = last_geometry ∙ begins.geometry;
                begins = begins.certain;
                passes = λ begun. passes free;
                holds = record { content = refl; in_doubt = refl };
                seats = seats_in last.array;
                known = refl;
                marks = goes_in kept;
              });
        };
        is_in = in_state;
      }

    admitted_leads : (joined : Result Slots AdmitFault) → Joins (Admit slot) slot z.member last joined z.told y.told → answer ≡ joined_as joined
        → StaysWithinToleranceTo returning m.array.geometry before y.told.history → IsLed returning m before s (ReplaceSlot slot) answer y
    admitted_leads (Ok fallen) joins same calm = was_admitted joins.establishes calm same joins.told
    admitted_leads (Err (admit.Gone i)) joins same calm =
        was_gone joins.establishes calm (same ∙ ap (λ (k : ℕ). Err (Gone k)) joins.told.0) joins.told.1
    admitted_leads (Err (admit.TooFew whys)) joins same calm = absurd (enough whys joins.establishes calm)
    admitted_leads (Err admit.EpochsSpent) joins same calm = failed fence.EpochsSpent same tt joins.establishes calm

  -- ALL OF IT

  -- where it was refused at once
  at_once : (u : Snapshot) → u ≡ snapshot m x.told → u ≡ snapshot last y.told → (refusal : Refusal) → answer ≡ Err refusal → ¬ IsFinal refusal
      → StaysWithinToleranceTo returning m.array.geometry before y.told.history → IsLed returning m before s (ReplaceSlot slot) answer y
  at_once u at_u at_v =
      still u at_v (ap (λ (w : Snapshot). w.member) at_u)
      (subst (λ (w : Snapshot). Ran (IsBesideArray p.was) x.told.history w.told.history) (sym at_u) (ran_none x.told.history))

  free_at : (u : Snapshot) → u ≡ snapshot m x.told → IsFree u.member slot → IsFree m slot
  free_at u at free = subst (λ (w : Snapshot). IsFree w.member slot) at free

  prepared_at : (given : Result (Unit {0}) Refusal) (u v : Snapshot) → u ≡ snapshot m x.told → PreparesSlot slot given u v → IsTrue v.told.honest
      → Ran (IsPreparing m.array.geometry slot) x.told.history v.told.history
  prepared_at given u v at prepares honest_v =
      subst (λ (w : Snapshot). Ran (IsPreparing w.member.array.geometry slot) w.told.history v.told.history) at
      (prepares_ran slot given u v prepares honest_v)

  honest_at : (v : Snapshot) → v ≡ snapshot last y.told → IsTrue v.told.honest
  honest_at v at = subst (λ (w : Snapshot). IsTrue w.told.honest) (sym at) honest

  -- an admission
  module _ (joined : Result Slots AdmitFault) (u z v : Snapshot) (free : IsFree u.member slot) (prepares : PreparesSlot slot (Ok tt) u z)
      (joins : Joins (Admit slot) slot z.member v.member joined z.told v.told) (at_u : u ≡ snapshot m x.told) (at_v : v ≡ snapshot last y.told) where
    honest_z : IsTrue z.told.honest
    honest_z = subst IsTrue (sym joins.establishes.honest) (honest_at v at_v)

    prep : IsReady slot (snapshot m x.told) z
    prep = ready_of slot (Ok tt) (snapshot m x.told) z (subst (λ (w : Snapshot). PreparesSlot slot (Ok tt) w z) at_u prepares) refl

    joins_y : Joins (Admit slot) slot z.member last joined z.told y.told
    joins_y = subst (λ (w : Snapshot). Joins (Admit slot) slot z.member w.member joined z.told w.told) at_v joins

    first_ran : Ran (IsPreparing m.array.geometry slot) x.told.history z.told.history
    first_ran = prepared_at (Ok tt) u z at_u prepares honest_z

    ran_z : Ran any_call z.told.history y.told.history
    ran_z = (epoch_after (Admit slot) z.member last (refusal_in joined) z.told y.told joins_y.establishes).later.ran honest

    admission_leads : answer ≡ joined_as joined → StaysWithinToleranceTo returning m.array.geometry before y.told.history
        → IsLed returning m before s (ReplaceSlot slot) answer y
    admission_leads is calm = admitted_leads z prep (free_at u at_u free) honest_z ran_z joined joins_y is calm

    pub admission_enough : StaysWithinToleranceTo returning m.array.geometry before y.told.history → (whys : List Why)
        → refusal_in joined ≡ Some (fence.TooFew whys) → ⊥
    admission_enough calm whys is =
        enough z prep (free_at u at_u free) honest_z ran_z whys
        (subst (λ (r : Option FenceFault). Establishes (Admit slot) z.member last r z.told y.told) is joins_y.establishes) calm

    admission_leaves : AtEveryMoment LeavesAt x.told.history y.told.history
    admission_leaves =
        at_every_join {P = LeavesAt} (beside_leaves z.told.history (preparing (free_at u at_u free) first_ran))
        (at_every_from {P = LeavesAt} ran_z.more ran_z.is
        (λ c at calm.
        joins_leaves z prep (free_at u at_u free) honest_z ran_z (refusal_in joined) joins_y.establishes c at calm))

  leads_by : (given : Answer (ReplaceSlot slot)) (u v : Snapshot) → Replaces slot given u v → u ≡ snapshot m x.told → v ≡ snapshot last y.told
      → answer ≡ given → StaysWithinToleranceTo returning m.array.geometry before y.told.history → IsLed returning m before s (ReplaceSlot slot) answer y
  leads_by _ _ _ (OutOf u past) at_u at_v is calm =
      at_once u at_u at_v (OutOfRange slot u.member.array.geometry.n) is (λ never. never) calm
  leads_by _ _ _ (Busy u below busy) at_u at_v is calm =
      at_once u at_u at_v (SlotBusy slot (mark_in u.member.array slot)) is (λ never. never) calm
  leads_by _ _ _ (Unprepared refusal u v free prepares) at_u at_v is calm =
      still v at_v (unprepared_member slot (Err refusal) u v prepares refusal refl ∙ ap (λ (w : Snapshot). w.member) at_u)
      (preparing (free_at u at_u free) (prepared_at (Err refusal) u v at_u prepares (honest_at v at_v))) refusal is
      (unprepared_goes_on slot (Err refusal) u v prepares refusal refl) calm
  leads_by _ _ _ (Admitted joined u z v free prepares joins) at_u at_v is calm =
      admission_leads joined u z v free prepares joins at_u at_v is calm

  leaves_by : (given : Answer (ReplaceSlot slot)) (u v : Snapshot) → Replaces slot given u v → u ≡ snapshot m x.told → v ≡ snapshot last y.told
      → AtEveryMoment LeavesAt x.told.history y.told.history
  leaves_by _ _ _ (OutOf u past) at_u at_v =
      beside_leaves y.told.history
      (subst (λ (w : Snapshot). Ran (IsBesideArray p.was) x.told.history w.told.history) (sym at_u ∙ at_v) (ran_none x.told.history))
  leaves_by _ _ _ (Busy u below busy) at_u at_v =
      beside_leaves y.told.history
      (subst (λ (w : Snapshot). Ran (IsBesideArray p.was) x.told.history w.told.history) (sym at_u ∙ at_v) (ran_none x.told.history))
  leaves_by _ _ _ (Unprepared refusal u v free prepares) at_u at_v =
      beside_leaves y.told.history
      (preparing (free_at u at_u free)
      (subst (λ (w : Snapshot). Ran (IsPreparing m.array.geometry slot) x.told.history w.told.history) at_v
      (prepared_at (Err refusal) u v at_u prepares (honest_at v at_v))))
  leaves_by _ _ _ (Admitted joined u z v free prepares joins) at_u at_v = admission_leaves joined u z v free prepares joins at_u at_v

  pub leads : StaysWithinTolerance returning s.geometry (is_open x.session) before y.told.history → IsLed returning m before s (ReplaceSlot slot) answer y
  leads calm = leads_by answer (snapshot m x.told) (snapshot last y.told) p.does refl refl refl (calm_begun y.told.history calm)

  pub cuts : (c : List Happening) → IsMoment x.told.history c y.told.history → StaysWithinTolerance returning s.geometry (is_open x.session) before c
      → EachImage (IsLeftBy returning (ReplaceSlot slot) m before c s) c
  cuts c at calm =
      at_moment {P = LeavesAt} (leaves_by answer (snapshot m x.told) (snapshot last y.told) p.does refl refl) at (calm_begun c calm)
