-- A write of blocks that was refused for good, whatever has failed: what is left of the array where more slots were cut off than is tolerated.
use Rattle.std.proofs.Common.{◌≡◌, ℕ, ◌<◌, List, refl, sym, ◌∙◌, subst, None, Some, Option, length, inl, inr}
use Rattle.std.specs.Prelude.{IsTrue, Result, Err}
use Rattle.stair_model.specs.CellSet.{CellSet}
use Rattle.stair_model.specs.Geometry.{Geometry, block_count}
use Rattle.stair_model.specs.Stripe.{Stripe}
use Rattle.stair_rack.specs.Answers.{Ran, any_call}
use Rattle.stair_rack.specs.Crash.{CrashMayLeave, EachImage, image_now}
use Rattle.stair_rack.specs.History.{Happening}
use Rattle.stair_rack.specs.Media.{Image}
use Rattle.stair_rack.specs.Offline.{IsHeld, IsOffline, IsAttached}
use Rattle.stair_rack.specs.Stretch.{NothingReturned}
use Rattle.stair_rack.specs.declared.watcher.Event.{Event}
use Rattle.stair_rack.proofs.CrashLemmas.{CrashMayLeave-now}
use Rattle.stair_rack.proofs.MomentLemmas.{ran_weakened}
use Rattle.stair_rack.proofs.OfflineLemmas.{held_on}
use Rattle.stair_super.specs.declared.mark.Mark.TheVariants.{Live}
use Rattle.stair_member.specs.Membership.{Membership, why_of}
use Rattle.stair_member.specs.Seats.{Seats}
use Rattle.stair_member.specs.declared.fault.FenceFault.{FenceFault}
use Rattle.stair_member.specs.declared.why.Why.TheVariants as why
use Rattle.stair_journal.specs.declared.redo.Redo.{Redo}
use Rattle.stair_state.specs.Blocks.{Codewords}
use Rattle.stair_state.specs.Redoing.{AtRest, Redoing, AttachesNone, next}
use Rattle.stair_state.specs.State.{Content, State}
use Rattle.stair_invariant.specs.Effects.{Snapshot, Redoes, snapshot}
use Rattle.stair_invariant.specs.CutOff.{IsStillThere}
use Rattle.stair_invariant.specs.Leading.{rebuild_in, led_to}
use Rattle.stair_invariant.specs.Rebuilding.{Rebuild}
use Rattle.stair_invariant.specs.Returning.{NoneReturns}
use Rattle.stair_invariant.specs.Session.{IsLiveIn, seats_in}
use Rattle.stair_invariant.proofs.AmidRedoLemmas.{redo_begins}
use Rattle.stair_invariant.proofs.BesideLemmas.{attached_on}
use Rattle.stair_invariant.proofs.ChangingLemmas.{live_here}
use Rattle.stair_invariant.proofs.RedoingLemmas.{over_here}
use Rattle.stair_invariant.proofs.StaysArrayLemmas.{stays_again}
use Rattle.stair_invariant.proofs.RedoingLemmas.{over_here}
use Rattle.stair_invariant.proofs.Serving.{IsGoing, IsServing, redoing_of}
use Rattle.stair_invariant.proofs.StaysArrayLemmas.{stays_again}
use Rattle.stair_array.specs.Calls.{WritesBlocks, answer_of}
use Rattle.stair_array.specs.Machine.{Frozen, IsFinal, OutOfRange, Refusal, WriteBlocks, Recover}
use Rattle.stair_array.specs.Promise.{IsInState, Performs, Seen, IsOpenFor}
use Rattle.stair_array.specs.Writes.{IsCutOffIn}
use Rattle.stair_array.proofs.CourseLemmas.{redo_part}
use Rattle.stair_array.proofs.GoneToLemmas.{attaches_none}
use Rattle.stair_array.proofs.LoadingLemmas.{Comes, Serves, LiveStill}
use Rattle.stair_array.proofs.NoneReturnsLemmas.{reads_lead}
use Rattle.stair_array.proofs.OpenStepLemmas.{forgetting, open_first, serves_bare}
use Rattle.stair_array.proofs.ReadPartLemmas.{array_with}
use Rattle.stair_array.proofs.RedoDoubtLemmas.{Begins, of_redo}
use Rattle.stair_array.proofs.WriteCutOffLemmas.{IsRefusedIn, cut_off, rest_refused}
use Rattle.stair_array.proofs.WriteDoubtLemmas.{IsReady, doing, inside, new_words, stripe_in, written}
use Rattle.stair_array.proofs.WriteOutcomeLemmas.{is_ready, to_end}
use Rattle.stair_array.proofs.WritePartLemmas.{IsKnown, prepared}
use Rattle.stair_array.proofs.WriteRedoLemmas.{IsAmid, IsRefusedAfter, mid_amid, mid_off, mid_way, refused_after}

module _ (before : List Happening) (rebuild : Option Rebuild) (stopped_by : Option FenceFault) (words : Codewords) (kept : Content) (first : ℕ)
    (contents : List (List ℕ)) where
  -- by some epoch it was
  pub record IsStopped (x z : Snapshot) : Type 0 where
    pub fault : FenceFault
    pub refused : IsRefusedIn before kept first contents x.member fault z

  -- WHERE A REDO WAS REFUSED, whatever has failed

  module _ (new : Codewords) (redo : Redo) (stripe : Stripe) (x y : Snapshot)
      (starts : Begins NoneReturns before rebuild stopped_by words new kept (written first contents) redo stripe x y) (live_y : LiveStill x y) where
    abbrev r : Redoing
    r = redoing_of (array_with rebuild stopped_by x) words new redo

    begins_amid : IsAmid before r starts.redoing stripe starts.cells y.told.history AtRest (rebuild_in y.member rebuild) None y
    begins_amid = record {
      amid =
          redo_begins r before (led_to (array_with rebuild stopped_by x) y.member) y.told.history starts.serves.is_open (sym starts.stays.geometry);
      begun = starts.serves.knows;
    }

    refused_in : (fault : FenceFault) (z : Snapshot) → Redoes x.member.array.geometry redo stripe AtRest (Some fault) y z → IsTrue z.told.honest
        → IsGoing NoneReturns x.member.array.geometry before z.told.history → IsRefusedIn before kept first contents x.member fault z
    refused_in fault z run honest on = record {
      array = array_with at.rebuild at.stopped_by at.snapshot;
      mid = at.does.mid;
      gone = at.does.gone;
      leaves = at.does.leaves;
      redoing = r;
      stage = next at.stage;
      start = y.told.history;
      begun = inr starts.redoing;
      way =
          mid_way before r starts.redoing stripe starts.cells y.told.history at.stage at.not_done at.to
          (Some fault) at.rebuild at.stopped_by at.snapshot z at.over at.does
          honest on.0 on.1 at.is;
      amid =
          mid_amid before r starts.redoing stripe starts.cells y.told.history at.stage at.not_done at.to
          (Some fault) at.rebuild at.stopped_by at.snapshot z at.over at.does
          honest on.0 on.1 at.is;
      change = written first contents;
      is_write = inr refl;
      of =
          of_redo NoneReturns before rebuild stopped_by words new kept (written first contents) redo stripe x y starts at.snapshot.member
          (stays_again x.member y.member at.snapshot.member starts.stays at.stays);
      stays = stays_again x.member y.member at.snapshot.member starts.stays at.stays;
      here = λ j has. over_here at.stage at.snapshot.member at.to at.over j (at.does.phase.among j has);
      off =
          mid_off before r starts.redoing stripe starts.cells y.told.history at.stage at.not_done at.to
          (Some fault) at.rebuild at.stopped_by at.snapshot z at.over at.does
          honest on.0 on.1 at.is;
      live = λ j live attached. at.live j (live_y j live (attached_y j attached)) attached;
    }
      where
        at : IsRefusedAfter before r starts.redoing stripe starts.cells y.told.history y fault z
        at =
            refused_after before r starts.redoing stripe starts.cells y.told.history AtRest (Some fault) y z run fault refl honest on.0 on.1
            (rebuild_in y.member rebuild) None begins_amid

        attached_y : (j : ℕ) → IsAttached z.told.history j → IsAttached y.told.history j
        attached_y j attached =
            attached_on y.told.history z.told.history j
            (ran_weakened {allowed = attaches_none} {more = AttachesNone (λ i. i ≡ j)} (λ i c may here. may)
            ((redo_part x.member.array.geometry redo stripe AtRest (Some fault) y z run starts.stays.rules
            (sym starts.stays.geometry) starts.redoing.formed).after.beside
            honest)) attached

  -- ALL OF IT

  unready_stopped : (x : Snapshot) (t : ℕ) (cells : CellSet) (loaded : Stripe) (u : Snapshot) → IsTrue u.told.honest
      → IsGoing NoneReturns x.member.array.geometry before u.told.history → (refusal : Refusal) (answer : Result (Unit {0}) Refusal) (y : Snapshot)
      → Comes NoneReturns before rebuild stopped_by words kept (IsKnown words t (length contents) cells loaded x) x answer y → y ≡ u
      → answer ≡ Err refusal → IsFinal refusal → IsStopped x y
  unready_stopped x t cells loaded u honest on refusal _ _ (Comes.Has y serves stays live known) ends same final = absurd (cc)
  unready_stopped x t cells loaded u honest on refusal _ _ (Comes.Lacks other y serves stays not_final) ends same final =
      absurd (not_final (subst IsFinal (let one : refusal ≡ other = cc in one) final))
  unready_stopped x t cells loaded u honest on refusal _ _ (Comes.Stops fault y at) ends same final = record {
    fault = fault;
    refused =
        rest_refused before words kept first contents x.member fault y at (subst (λ (p : Snapshot). IsTrue p.told.honest) (sym ends) honest)
        (subst (λ (p : Snapshot). IsGoing NoneReturns x.member.array.geometry before p.told.history) (sym ends) on);
  }

  pub was_stopped : (answer : Result (Unit {0}) Refusal) (x z : Snapshot) → WritesBlocks first contents answer x z
      → Serves NoneReturns before rebuild stopped_by words kept x x.told.history → IsTrue z.told.honest
      → IsGoing NoneReturns x.member.array.geometry before z.told.history → (refusal : Refusal)
      → answer ≡ Err refusal → IsFinal refusal → IsStopped x z
  was_stopped _ _ _ (WritesBlocks.OutOf x past) is honest on refusal same final =
      let one : refusal ≡ OutOfRange first (block_count x.member.array.geometry) = cc in absurd (subst IsFinal one final)
  was_stopped _ _ _ (WritesBlocks.IsFrozen x below frozen) is honest on refusal same final =
      let one : refusal ≡ Frozen = cc in absurd (subst IsFinal one final)
  was_stopped _ _ _ (WritesBlocks.Unready t cells loaded given x y place prepares) is honest on refusal same final =
      unready_stopped x t cells loaded y honest on refusal (Err given) y
      (prepared NoneReturns reads_lead before rebuild stopped_by words kept t (length contents) cells loaded (Err given) x y prepares is
      (inside first contents x.member t cells place) (stripe_in first contents x.member t cells place is.is_open.array.member.array.limits) honest on) refl
      same final
  was_stopped _ _ _ (WritesBlocks.Wrote redo loaded stripe given x y z place formed prepares set run) is honest on refusal same final =
      by given refl run same
    where
      ready : IsReady NoneReturns before rebuild stopped_by words kept first contents x redo.stripe redo.cells loaded y
      ready =
          is_ready NoneReturns reads_lead before rebuild stopped_by words kept first contents redo loaded stripe given x y z is place prepares run
          honest z.told.history
          (to_end NoneReturns reads_lead before rebuild stopped_by words kept first contents redo loaded stripe given x y z is place prepares run
          honest) on

      by : (fault : Option FenceFault) → given ≡ fault → Redoes x.member.array.geometry redo stripe AtRest fault y z
          → answer_of {T = Unit {0}} tt fault ≡ Err refusal → IsStopped x z
      by None is_given run same = absurd (cc)
      by (Some fault) is_given run same = record {
        fault = fault;
        refused =
            refused_in (new_words NoneReturns before rebuild stopped_by words kept first contents redo loaded stripe x y is place formed set ready)
            redo stripe x y
            (doing NoneReturns before rebuild stopped_by words kept first contents redo loaded stripe x y is place formed set ready) ready.live fault
            z run
            honest on;
      }

-- THE STEP

module _ (first : ℕ) (contents : List (List ℕ)) (refusal : Refusal) (events : List Event) (x y : Seen)
    (p : Performs (WriteBlocks first contents) (Err refusal) events x y) (final : IsFinal refusal) (honest : IsTrue y.told.honest)
    (before : List Happening) (s : State) (seats : Seats) (state : IsInState NoneReturns before s x) (known : s.seats ≡ Some seats)
    (none : NothingReturned before y.told.history)
    (still : EachImage (IsStillThere (IsOffline before y.told.history) s.geometry (λ j. (seats j).mark ≡ Live)) y.told.history) where
  abbrev m : Membership
  m = p.was.member

  not_opening : ¬ (WriteBlocks first contents ≡ Recover)
  not_opening same = cc

  abbrev begins_here : IsOpenFor NoneReturns before s p.was x.told.history
  begins_here = open_first NoneReturns reads_lead (WriteBlocks first contents) not_opening (Err refusal) events x y p before s state

  abbrev serves_here : IsServing NoneReturns before (forgetting p.was) begins_here.words s.content x.told.history
  serves_here =
      serves_bare NoneReturns reads_lead (WriteBlocks first contents) not_opening (Err refusal) events x y p before s state begins_here.knows.history

  on : IsGoing NoneReturns m.array.geometry before y.told.history
  on = (none, λ stops. (still (image_now y.told.history) (CrashMayLeave-now y.told.history)).journal.serves.online (IsOffline.RackStopped stops))

  ran : Ran any_call x.told.history y.told.history
  ran = p.later.ran honest

  same_seats : seats_in m.array ≡ seats
  same_seats =
      let both : Some (seats_in m.array) ≡ Some seats = sym begins_here.seats ∙ known in
      let same : seats_in m.array ≡ seats = cc in same

  held : (j : ℕ) → IsLiveIn m j → IsHeld before y.told.history j
  held j live =
      held_on {allowed = any_call} j ran
      (serves_here.is_open.held j (record { below = live.below; why = inl live.why }))

  -- a slot that the state has as live is so to the array
  still_here : (image : Image) → CrashMayLeave y.told.history image
      → IsStillThere (IsOffline before y.told.history) m.array.geometry (IsLiveIn m) image
  still_here image left =
      let is = still image left in
      let live : IsLiveIn m is.journal_slot = record {
        below =
            subst (λ (g : Geometry). is.journal_slot < g.n) (sym begins_here.geometry)
            is.journal.serves.live.below;
        why = here is.journal_slot
            (subst (λ (g : Geometry). is.journal_slot < g.n) (sym begins_here.geometry)
            is.journal.serves.live.below) is.among;
      } in
      subst (λ (g : Geometry). IsStillThere (IsOffline before y.told.history) g (IsLiveIn m) image)
      (sym begins_here.geometry)
      (record {
        identity = is.identity;
        current = is.current;
        is_current = is.is_current;
        journal_slot = is.journal_slot;
        journal = is.journal;
        among = live;
      })
    where
      here : (j : ℕ) → j < m.array.geometry.n → (seats j).mark ≡ Live → why_of m j ≡ why.Here
      here j below marked =
          live_here (why_of m j)
          (sym (serves_here.is_open.array.marks j below)
          ∙ subst (λ (of : Seats). (of j).mark ≡ Live) (sym same_seats) marked)

  pub left_over : IsCutOffIn first contents s seats y.told.history
  left_over =
      let stops =
      was_stopped before p.was.rebuild p.was.stopped begins_here.words s.content first contents
      (Err refusal) (snapshot m x.told) (snapshot p.is.member y.told) p.does
      serves_here honest on refusal refl final in
      subst (λ (of : Seats). IsCutOffIn first contents s of y.told.history) same_seats
      (cut_off before s.content first contents m stops.fault (snapshot p.is.member y.told) stops.refused honest on held still_here s
      (sym begins_here.geometry) refl
      begins_here.certain)
