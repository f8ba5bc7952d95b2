-- Of which slots a step reads sectors from the gate on: of those that were live when it began, and of one that is to be admitted.
use Rattle.std.proofs.Common.{◌≡◌, ◌∙◌, ◌<◌, ◌⊎◌, ℕ, List, Option, None, Some, Result, inl, inr, refl, sym, ap, subst}
use Rattle.std.specs.Prelude.{IsTrue}
use Rattle.stair_model.specs.CellSet.{CellSet}
use Rattle.stair_model.specs.Geometry.{Geometry}
use Rattle.stair_model.specs.Slots.{HasSlot, Slots}
use Rattle.stair_model.specs.Stripe.{Stripe}
use Rattle.stair_rack.specs.Answers.{Calls, Ran}
use Rattle.stair_rack.specs.History.{Attach, Happening, Read, Sectors, SlotCall, Sync, Write}
use Rattle.stair_rack.specs.Placed.{IsSyncOf, IsWriteOf, Placed, Writes}
use Rattle.stair_rack.specs.Reading.{IsReadOf}
use Rattle.stair_rack.specs.declared.rack.Reply.{Reply}
use Rattle.stair_super.specs.declared.configuration.Configuration.{Configuration}
use Rattle.stair_rack.proofs.MomentLemmas.{calls_ran, ran_join, ran_none, ran_weakened}
use Rattle.stair_rack.specs.RackState.{RackState}
use Rattle.stair_member.specs.Editions.{Edition}
use Rattle.stair_member.specs.Epochs.{ASync, AWrite, IsIssuing}
use Rattle.stair_member.specs.Establishing.{Establishes, Fences, refusal_of}
use Rattle.stair_member.specs.Membership.{Membership, why_of}
use Rattle.stair_member.specs.declared.aim.EpochChange.{EpochChange}
use Rattle.stair_member.specs.declared.fault.FenceFault.{FenceFault}
use Rattle.stair_member.specs.declared.why.Why.TheVariants.{Gone, Here}
use Rattle.stair_member.proofs.CountingLemmas.{has_or_not}
use Rattle.stair_invariant.specs.Effects as course
use Rattle.stair_invariant.specs.Effects.{AreLive, DoesStage, FindsBody, FindsRedo, FencesGone, Loads, Snapshot, Redoes, Replays, snapshot}
use Rattle.stair_invariant.specs.Session.{ArrayState, IsLiveIn, Remembered}
use Rattle.stair_invariant.proofs.HonestLemmas.{found_honest, left_honest, load_honest, redo_honest, replay_honest}
use Rattle.stair_array.specs.Calls as calls
use Rattle.stair_array.specs.Mends as mends
use Rattle.stair_array.specs.Openings as opening
use Rattle.stair_array.specs.Calls.{AsksFor, CannotHave, LoadsStripe, Prepares, Reads, WritesBlocks}
use Rattle.stair_array.specs.Machine.{Answer, LookAtSeats, Progress, ReadBlock, RebuildNext, Recover, Refusal, ReplaceSlot, ScrubStripe, SetFrozen, SetLabel, Step, WriteBlocks}
use Rattle.stair_array.specs.Mends.{FencesSlot, IsPreparing, Looks, OnlyPrepared, PreparesSlot, Promotes, Rebuilds, Replaces, Scrubs, SyncsSlot, WritesChunk}
use Rattle.stair_array.specs.Openings.{ClearsJournal, Recovers}
use Rattle.stair_array.specs.Promise.{Does, Found, Opened, Seen, Phase, StartsFrom}
use Rattle.stair_array.proofs.OutLemmas.{left_live}
use Rattle.stair_array.proofs.ReadPartLemmas.{asked_ran}
use Rattle.stair_array.proofs.RecoveredLemmas.{cleared_honest}
use Rattle.stair_lives.specs.Stale.{HasMember, OnlyLiveAreRead, ReadsBehind}

module _ (Some_slots : ℕ → Type 0) where
  abbrev Only : RackState → RackState → Type 0
  Only old new = Ran (ReadsBehind Some_slots) old.history new.history

  -- each live slot is one of them
  abbrev Has : Membership → Type 0
  Has m = (j : ℕ) → IsLiveIn m j → Some_slots j

  only_same : {x y : Snapshot} → y ≡ x → Only x.told y.told
  only_same {x} {y} same = subst (λ (p : Snapshot). Only x.told p.told) (sym same) (ran_none x.told.history)

  only_none : (x : Snapshot) → Only x.told x.told
  only_none x = ran_none x.told.history

  write_only : (what : Writes) (to : ℕ → Type 0) (j : ℕ) (call : SlotCall) → IsWriteOf what to j call → ReadsBehind Some_slots j call
  write_only what to j call is = subst (ReadsBehind Some_slots j) (sym is.is) tt

  sync_only : (to : ℕ → Type 0) (j : ℕ) (call : SlotCall) → IsSyncOf to j call → ReadsBehind Some_slots j call
  sync_only to j call is = subst (ReadsBehind Some_slots j) (sym is.is) tt

  issue_only : (slots : Slots) (editions : List Edition) (j : ℕ) (call : SlotCall) → IsIssuing slots editions j call → ReadsBehind Some_slots j call
  issue_only slots editions j call (AWrite e k answer has among formed small is) = subst (ReadsBehind Some_slots j) (sym is) tt
  issue_only slots editions j call (ASync answer has is) = subst (ReadsBehind Some_slots j) (sym is) tt

  read_only : (slots sectors : ℕ → Type 0) → ((j : ℕ) → slots j → Some_slots j) → (j : ℕ) (call : SlotCall) → IsReadOf slots sectors j call
      → ReadsBehind Some_slots j call
  read_only slots sectors among j (Read k answer) is = λ behind. among j is.0
  read_only slots sectors among j (Attach answer) is = absurd is
  read_only slots sectors among j (Sectors size) is = absurd is
  read_only slots sectors among j (Write k bytes answer) is = absurd is
  read_only slots sectors among j (Sync answer) is = absurd is

  placed_only : {what : Writes} {to gone : ℕ → Type 0} {old new : List Happening} → Placed what to gone old new → Ran (ReadsBehind Some_slots) old new
  placed_only {what} {to} placed = ran_join (ran_weakened (write_only what to) placed.writes) (ran_weakened (sync_only to) placed.syncs)

  established_only : {aim : EpochChange} {m last : Membership} {refusal : Option FenceFault} {old new : RackState} → Establishes aim m last refusal old new
      → IsTrue new.honest → Only old new
  established_only does honest = let issued = does.issued honest in ran_weakened (issue_only issued.slots issued.editions) issued.ran

  left_only : {gone : Slots} {refusal : Option FenceFault} {x y : Snapshot} → FencesGone gone refusal x y → IsTrue y.told.honest → Only x.told y.told
  left_only (course.NoneWas none same quiet) honest = only_same same
  left_only (course.Fenced j has answer is fences) honest = established_only fences.establishes honest

  has_left : {gone : Slots} {x y : Snapshot} → FencesGone gone None x y → Has x.member → Has y.member
  has_left {gone} {x} {y} leaves has j live = has j (left_live gone x y j leaves live)

  among_live : (m : Membership) (live : Slots) → AreLive m live → Has m → (j : ℕ) → HasSlot live j → Some_slots j
  among_live m live are has j is = has j ((are.are j).0 is)

  -- PARTS OF A STEP

  stage_only : {what : Writes} {to : Slots} {refusal : Option FenceFault} {x y : Snapshot} → (does : DoesStage what to refusal x y) → IsTrue y.told.honest
      → Only x.told y.told
  stage_only does honest =
      ran_join (placed_only (does.phase.placed (subst IsTrue (sym (left_honest _ _ _ _ does.leaves)) honest))) (left_only does.leaves honest)

  loaded_only : {t : ℕ} {wanted : ℕ → ℕ → Type 0} {gathered : _} {was into : Stripe} {refusal : Option FenceFault} {x y : Snapshot}
      → (loads : Loads t wanted gathered was into refusal x y) → Has x.member → IsTrue y.told.honest → Only x.told y.told
  loaded_only {x = x} loads has honest =
      ran_join
      (ran_weakened
      (λ j call is. subst (ReadsBehind Some_slots j) (sym is.is) (λ behind. among_live x.member loads.live loads.are_live has j is.on))
      (loads.gathers.ran (subst IsTrue (sym (left_honest _ _ _ _ loads.leaves)) honest)))
      (left_only loads.leaves honest)

  has_loaded : {t : ℕ} {wanted : ℕ → ℕ → Type 0} {gathered : _} {was into : Stripe} {x y : Snapshot}
      → (loads : Loads t wanted gathered was into None x y) → Has x.member → Has y.member
  has_loaded loads has = has_left loads.leaves has

  body_only : {redo : _} {body : _} {was into : Stripe} {refusal : Option FenceFault} {x y : Snapshot}
      → (finds : FindsBody redo body was into refusal x y) → Has x.member → IsTrue y.told.honest → Only x.told y.told
  body_only {x = x} finds has honest =
      ran_join
      (ran_weakened (read_only _ _ (among_live x.member finds.live finds.are_live has))
      (finds.reads.ran (subst IsTrue (sym (left_honest _ _ _ _ finds.leaves)) honest)))
      (left_only finds.leaves honest)

  redo_only : {array : Geometry} {redo : _} {stripe : Stripe} {s : _} {refusal : Option FenceFault} {x y : Snapshot}
      → (does : Redoes array redo stripe s refusal x y) → IsTrue y.told.honest → Only x.told y.told
  redo_only (course.Ends x) honest = only_none x
  redo_only (course.Goes s to refusal x y z apart over does rest) honest =
      ran_join (stage_only does (subst IsTrue (sym (redo_honest _ _ _ _ _ _ _ rest)) honest)) (redo_only rest honest)
  redo_only (course.Stops s to fault x y apart over does) honest = stage_only does honest

  found_only : {redo : Option _} {opened : Slots} {refusal : Option FenceFault} {x y : Snapshot}
      → (finds : FindsRedo redo opened refusal x y) → Has x.member → IsTrue y.told.honest → Only x.told y.told
  found_only (course.Found gates live mid x are reads none) has honest =
      ran_weakened (read_only _ _ (among_live x.member live are has)) (reads.ran honest)
  found_only (course.Again gates live mid redo opened refusal j x y z are reads gone leaves rest) has honest =
      let honest_y : IsTrue y.told.honest = subst IsTrue (sym (found_honest _ _ _ _ _ rest)) honest in
      ran_join
      (ran_join
      (ran_weakened (read_only _ _ (among_live x.member live are has)) (reads.ran (subst IsTrue (sym (left_honest _ _ _ _ leaves)) honest_y)))
      (left_only leaves honest_y)) (found_only rest (has_left leaves has) honest)
  found_only (course.Stops gates live mid redo opened fault x y are reads leaves) has honest =
      ran_join
      (ran_weakened (read_only _ _ (among_live x.member live are has)) (reads.ran (subst IsTrue (sym (left_honest _ _ _ _ leaves)) honest)))
      (left_only leaves honest)

  has_found : {redo : Option _} {opened : Slots} {refusal : Option FenceFault} {x y : Snapshot} → (finds : FindsRedo redo opened refusal x y)
      → refusal ≡ None → Has x.member → Has y.member
  has_found (course.Found gates live mid x are reads none) fine has = has
  has_found (course.Again gates live mid redo opened refusal j x y z are reads gone leaves rest) fine has =
      has_found rest fine (has_left leaves has)
  has_found (course.Stops gates live mid redo opened fault x y are reads leaves) fine has =
      let never : Some fault ≡ None = fine in absurd (cc)

  replayed_only : {redo : _} {stripe : Stripe} {opened : Slots} {refusal : Option FenceFault} {x y : Snapshot}
      → (does : Replays redo stripe opened refusal x y) → IsTrue y.told.honest → Only x.told y.told
  replayed_only (course.Goes to refusal x y z are does rest) honest =
      ran_join (stage_only does (subst IsTrue (sym (redo_honest _ _ _ _ _ _ _ rest)) honest)) (redo_only rest honest)
  replayed_only (course.Stops to fault x y are does) honest = stage_only does honest

  cleared_only : {redo : Option _} {opened : Slots} {answer : Result Geometry Refusal} {x y : Snapshot}
      → (clears : ClearsJournal redo opened answer x y) → Has x.member → IsTrue y.told.honest → Only x.told y.told
  cleared_only (opening.Closes opened live refusal x y are does) has honest = stage_only does honest
  cleared_only (opening.Stops redo opened body was stripe fault x y finds) has honest = body_only finds has honest
  cleared_only (opening.BodyLost redo opened body was stripe sector x y finds lost) has honest = body_only finds has honest
  cleared_only (opening.Replayed redo opened body was stripe refusal x y z finds found again) has honest =
      ran_join (body_only finds has (subst IsTrue (sym (replay_honest _ _ _ _ _ _ again)) honest)) (replayed_only again honest)

  -- once an epoch stands without some slots, what is live was live before
  has_fenced : {leaving : Slots} {m last : Membership} {answer : Result Slots FenceFault} {old new : RackState}
      → (e : Fences leaving m last answer old new) → refusal_of answer ≡ None → Has m → Has last
  has_fenced {leaving} {m} {last} e stands has j live = has j (record { below = below; why = before })
    where
      first : j < e.start.array.geometry.n
      first = subst (λ (g : Geometry). j < g.n) e.establishes.geometry live.below

      below : j < m.array.geometry.n
      below = subst (λ (g : Geometry). j < g.n) (ap (λ (c : Configuration). c.geometry) e.leaves.array) first

      started : why_of e.start j ≡ Here
      started =
          elim (has_or_not e.establishes.gone j) [
            | inl dropped ↦ let never : Here ≡ Gone = sym live.why ∙ e.establishes.were_gone.dropped j dropped in absurd (cc)
            | inr kept ↦ sym ((e.establishes.done stands).whys j first kept) ∙ live.why
          ]

      before : why_of m j ≡ Here
      before =
          elim (has_or_not leaving j) [
            | inl left ↦ let never : Here ≡ Gone = sym started ∙ e.leaves.left j left in absurd (cc)
            | inr kept ↦ sym (e.leaves.others j kept) ∙ started
          ]

  opened_only : {answer : Result Geometry Refusal} {x y : Snapshot} → (does : Recovers answer x y) → Has x.member → IsTrue y.told.honest → Only x.told y.told
  opened_only (opening.NoEpoch fault x y fences) has honest = established_only fences.establishes honest
  opened_only (opening.Stops fallen opened redo fault x y z fences found) has honest =
      let honest_y : IsTrue y.told.honest = subst IsTrue (sym (found_honest _ _ _ _ _ found)) honest in
      ran_join (established_only fences.establishes honest_y) (found_only found (has_fenced fences refl has) honest)
  opened_only (opening.Goes fallen opened redo answer x y z w fences found cleared) has honest =
      let honest_z : IsTrue z.told.honest = subst IsTrue (sym (cleared_honest _ _ _ _ _ cleared)) honest in
      let honest_y : IsTrue y.told.honest = subst IsTrue (sym (found_honest _ _ _ _ _ found)) honest_z in
      let has_y = has_fenced fences refl has in
      ran_join (ran_join (established_only fences.establishes honest_y) (found_only found has_y honest_z))
      (cleared_only cleared (has_found found refl has_y) honest)

  stripe_only : {t : ℕ} {into : Stripe} {answer : Result (Unit {0}) Refusal} {x y : Snapshot} → (does : LoadsStripe t into answer x y) → Has x.member
      → IsTrue y.told.honest → Only x.told y.told
  stripe_only (calls.Loaded was read gathered answer x y loads restored) has honest = loaded_only loads has honest
  stripe_only (calls.Stops was read gathered fault x y loads) has honest = loaded_only loads has honest

  stripe_honest : {t : ℕ} {into : Stripe} {answer : Result (Unit {0}) Refusal} {x y : Snapshot} → LoadsStripe t into answer x y
      → x.told.honest ≡ y.told.honest
  stripe_honest (calls.Loaded was read gathered answer x y loads restored) = load_honest _ _ _ _ _ _ _ _ loads
  stripe_honest (calls.Stops was read gathered fault x y loads) = load_honest _ _ _ _ _ _ _ _ loads

  asked_only : {t i j : ℕ} {answer : _} {x y : Snapshot} → AsksFor t i j answer x y → Has x.member → IsTrue y.told.honest → Only x.told y.told
  asked_only {j = j} asks has honest =
      ran_weakened (read_only _ _ (λ s same. subst Some_slots (sym same) (has j asks.live))) (asked_ran _ _ _ _ _ asks honest)

  without_only : {t i j : ℕ} {x y : Snapshot} → CannotHave t i j x y → Has x.member → IsTrue y.told.honest → Only x.told y.told
  without_only (calls.NotLive away same) has honest = only_same same
  without_only (calls.WasBad asks reading) has honest = asked_only asks has honest
  without_only (calls.WasGone asks gone) has honest = asked_only asks has honest

  has_without : {t i j : ℕ} {x y : Snapshot} → CannotHave t i j x y → Has x.member → Has y.member
  has_without (calls.NotLive away same) has = subst (λ (p : Snapshot). Has p.member) (sym same) has
  has_without (calls.WasBad asks reading) has = subst Has (sym asks.member) has
  has_without (calls.WasGone asks gone) has = subst Has (sym asks.member) has

  read_step : {b : ℕ} {old after : Option Remembered} {answer : Result (List ℕ) Refusal} {x y : Snapshot} → (does : Reads b old after answer x y)
      → Has x.member → IsTrue y.told.honest → Only x.told y.told
  read_step (calls.OutOf x past) has honest = only_none x
  read_step (calls.Recalled one i j x known place) has honest = only_none x
  read_step (calls.Own t i j bytes x y place asks reading) has honest = asked_only asks has honest
  read_step (calls.Restored t i j into x y z place cannot loads) has honest =
      ran_join (without_only cannot has (subst IsTrue (sym (stripe_honest loads)) honest)) (stripe_only loads (has_without cannot has) honest)
  read_step (calls.Refused t i j into refusal x y z place cannot loads) has honest =
      ran_join (without_only cannot has (subst IsTrue (sym (stripe_honest loads)) honest)) (stripe_only loads (has_without cannot has) honest)

  ready_only : {t count : ℕ} {cells : CellSet} {loaded : Stripe} {answer : Result (Unit {0}) Refusal} {x y : Snapshot}
      → (does : Prepares t count cells loaded answer x y) → Has x.member → IsTrue y.told.honest → Only x.told y.told
  ready_only (calls.Filled x full) has honest = only_none x
  ready_only (calls.ByCells gathered was x y few loads none) has honest = loaded_only loads has honest
  ready_only (calls.Stops gathered was fault x y few loads) has honest = loaded_only loads has honest
  ready_only (calls.AfterCells gathered was into i j answer x y z few loads erased whole) has honest =
      ran_join (loaded_only loads has (subst IsTrue (sym (stripe_honest whole)) honest)) (stripe_only whole (has_loaded loads has) honest)
  ready_only (calls.ByStripe i j answer x y few is away loads) has honest = stripe_only loads has honest

  written_only : {first : ℕ} {contents : List (List ℕ)} {answer : Result (Unit {0}) Refusal} {x y : Snapshot}
      → (does : WritesBlocks first contents answer x y) → Has x.member → IsTrue y.told.honest → Only x.told y.told
  written_only (calls.OutOf x past) has honest = only_none x
  written_only (calls.IsFrozen x within frozen) has honest = only_none x
  written_only (calls.Unready t cells loaded refusal x y place ready) has honest = ready_only ready has honest
  written_only (calls.Wrote redo loaded stripe refusal x y z place formed ready set done) has honest =
      ran_join (ready_only ready has (subst IsTrue (sym (redo_honest _ _ _ _ _ _ _ done)) honest)) (redo_only done honest)

  scrubbed_only : {t : ℕ} {answer : Result ℕ Refusal} {x y : Snapshot} → (does : Scrubs t answer x y) → Has x.member → IsTrue y.told.honest
      → Only x.told y.told
  scrubbed_only (mends.OutOf x past) has honest = only_none x
  scrubbed_only (mends.Stops was read gathered fault x y within loads) has honest = loaded_only loads has honest
  scrubbed_only (mends.Sound was read gathered x y within loads none) has honest = loaded_only loads has honest
  scrubbed_only (mends.Unrestored was read into gathered refusal x y within loads lost) has honest = loaded_only loads has honest
  scrubbed_only (mends.Rewrote was read into gathered redo refusal x y z within loads whole of_stripe formed on done) has honest =
      ran_join (loaded_only loads has (subst IsTrue (sym (redo_honest _ _ _ _ _ _ _ done)) honest)) (redo_only done honest)

  -- a slot that is looked at, and prepared
  module _ (slot : ℕ) (is_one : Some_slots slot) where
    this_only : (call : SlotCall) → ReadsBehind Some_slots slot call
    this_only (Read k answer) = λ behind. is_one
    this_only (Attach answer) = tt
    this_only (Sectors size) = tt
    this_only (Write k bytes answer) = tt
    this_only (Sync answer) = tt

    slot_only : (j : ℕ) (call : SlotCall) → j ≡ slot → ReadsBehind Some_slots j call
    slot_only j call same = subst (λ (i : ℕ). ReadsBehind Some_slots i call) (sym same) (this_only call)

    called_only : {old new : List Happening} {call : SlotCall} → Calls old new slot call → Ran (ReadsBehind Some_slots) old new
    called_only called = ran_weakened (λ j call is. slot_only j call is.0) (calls_ran called)

    preparing_slot : (g : Geometry) (j : ℕ) (call : SlotCall) → IsPreparing g slot j call → j ≡ slot
    preparing_slot g j (Attach answer) is = is
    preparing_slot g j (Sectors size) is = is
    preparing_slot g j (Read k answer) is = is
    preparing_slot g j (Write k bytes answer) is = is.0
    preparing_slot g j (Sync answer) is = is

    looked_only : {mid : RackState} {x y : Snapshot} → Looks slot mid x y → IsTrue y.told.honest → Only x.told y.told
    looked_only looks honest =
        ran_join (called_only (looks.attached (subst IsTrue (sym looks.later.honest) honest)))
        (ran_weakened (λ j call is. slot_only j call is.0.0) (looks.ran honest))

    prepared_only : {x y : Snapshot} → OnlyPrepared slot x y → IsTrue y.told.honest → Only x.told y.told
    prepared_only {x = x} only honest =
        ran_weakened (λ j call is. slot_only j call (preparing_slot x.member.array.geometry j call is)) (only.ran honest)

    fit_only : {answer : Result (Unit {0}) Refusal} {x y : Snapshot} → PreparesSlot slot answer x y → IsTrue y.told.honest → Only x.told y.told
    fit_only (mends.WasGone x y only gone) honest = prepared_only only honest
    fit_only (mends.WasSmall needs_has needs mid x y looks small) honest = looked_only looks honest
    fit_only (mends.WasOther mid x y looks bears) honest = looked_only looks honest
    fit_only (mends.Prepared first second mid x y z looks fit later placed sees rules) honest =
        ran_join (looked_only looks (subst IsTrue (sym later.honest) honest)) (placed_only (placed honest))

    replaced_only : {answer : Result (Unit {0}) Refusal} {x y : Snapshot} → (does : Replaces slot answer x y) → IsTrue y.told.honest → Only x.told y.told
    replaced_only (mends.OutOf x past) honest = only_none x
    replaced_only (mends.Busy x within busy) honest = only_none x
    replaced_only (mends.Unprepared refusal x y free fit) honest = fit_only fit honest
    replaced_only (mends.Admitted answer x y z free fit joins) honest =
        ran_join (fit_only fit (subst IsTrue (sym joins.establishes.honest) honest)) (established_only joins.establishes honest)

  dropped_only : {j : ℕ} {refusal : Option FenceFault} {x y : Snapshot} → FencesSlot j refusal x y → IsTrue y.told.honest → Only x.told y.told
  dropped_only drops honest = left_only drops.leaves honest

  synced_only : {j : ℕ} {answer : Reply} {x y : Snapshot} → SyncsSlot j answer x y → IsTrue y.told.honest → Only x.told y.told
  synced_only {j} {answer} syncs honest =
      ran_weakened (λ i call is. subst (ReadsBehind Some_slots i) (sym is.1) tt) (calls_ran (syncs.synced honest))

  promoted_only : {j : ℕ} {answer : Result Progress Refusal} {x y : Snapshot} → (does : Promotes j answer x y) → IsTrue y.told.honest → Only x.told y.told
  promoted_only (mends.Unsynced refusal x y z syncs drops) honest =
      ran_join (synced_only syncs (subst IsTrue (sym (left_honest _ _ _ _ drops.leaves)) honest)) (dropped_only drops honest)
  promoted_only (mends.Joined answer x y z syncs joins) honest =
      ran_join (synced_only syncs (subst IsTrue (sym joins.establishes.honest) honest)) (established_only joins.establishes honest)

  promoted_honest : {j : ℕ} {answer : Result Progress Refusal} {x y : Snapshot} → Promotes j answer x y → x.told.honest ≡ y.told.honest
  promoted_honest (mends.Unsynced refusal x y z syncs drops) = syncs.later.honest ∙ left_honest _ _ _ _ drops.leaves
  promoted_honest (mends.Joined answer x y z syncs joins) = syncs.later.honest ∙ joins.establishes.honest

  chunk_only : {j t : ℕ} {into : Stripe} {answer : Reply} {x y : Snapshot} → WritesChunk j t into answer x y → IsTrue y.told.honest → Only x.told y.told
  chunk_only wrote honest = ran_weakened (write_only _ _) (wrote.wrote honest).ran

  rebuilt_only : {was : ArrayState} {answer : Result Progress Refusal} {x y : Snapshot} → (does : Rebuilds was answer x y) → Has x.member
      → IsTrue y.told.honest → Only x.told y.told
  rebuilt_only (mends.NoneIs x none) has honest = only_none x
  rebuilt_only (mends.Unread j t into refusal x y next within loads) has honest = stripe_only loads has honest
  rebuilt_only (mends.FellLoading j t into x y next within loads fell) has honest = stripe_only loads has honest
  rebuilt_only (mends.Fell j t into refusal x y z w next within loads rebuilt wrote drops) has honest =
      let honest_z : IsTrue z.told.honest = subst IsTrue (sym (left_honest _ _ _ _ drops.leaves)) honest in
      ran_join (ran_join (stripe_only loads has (subst IsTrue (sym wrote.later.honest) honest_z)) (chunk_only wrote honest_z)) (dropped_only drops honest)
  rebuilt_only (mends.Wrote j t into x y z next within loads rebuilt wrote) has honest =
      ran_join (stripe_only loads has (subst IsTrue (sym wrote.later.honest) honest)) (chunk_only wrote honest)
  rebuilt_only (mends.WroteLast j t into answer x y z w next within loads rebuilt wrote promotes) has honest =
      let honest_z : IsTrue z.told.honest = subst IsTrue (sym (promoted_honest promotes)) honest in
      ran_join (ran_join (stripe_only loads has (subst IsTrue (sym wrote.later.honest) honest_z)) (chunk_only wrote honest_z))
      (promoted_only promotes honest)
  rebuilt_only (mends.OnlyPromotes j t answer x y next at_end promotes) has honest = promoted_only promotes honest

  -- A STEP

  step_only : (step : Step) (was : ArrayState) (after : Option Remembered) (answer : Answer step) (x y : Snapshot) → Does step was after answer x y
      → Has x.member → ((j : ℕ) → step ≡ ReplaceSlot j → Some_slots j) → IsTrue y.told.honest → Only x.told y.told
  step_only Recover was after answer x y does has replaces honest = opened_only does has honest
  step_only (ReadBlock b) was after answer x y does has replaces honest = read_step does has honest
  step_only (WriteBlocks first contents) was after answer x y does has replaces honest = written_only does has honest
  step_only (ScrubStripe t) was after answer x y does has replaces honest = scrubbed_only does has honest
  step_only (ReplaceSlot j) was after answer x y does has replaces honest = replaced_only j (replaces j refl) does honest
  step_only RebuildNext was after answer x y does has replaces honest = rebuilt_only does has honest
  step_only (SetFrozen frozen) was after answer x y (mends.Stamped given a b stamps) has replaces honest = established_only stamps.establishes honest
  step_only (SetLabel label) was after answer x y (mends.Stamped given a b stamps) has replaces honest = established_only stamps.establishes honest
  step_only LookAtSeats was after answer x y does has replaces honest = only_same does

-- with the session's member
starts_with : (step : Step) (was : ArrayState) (session : Phase) (m : Membership) → StartsFrom step was session → HasMember session m → was.member ≡ m
starts_with Recover was (Found found) m starts has = ap (λ (a : ArrayState). a.member) starts ∙ has
starts_with Recover was _ m starts has = absurd starts
starts_with _ was (Opened a) m starts has = ap (λ (b : ArrayState). b.member) starts.0 ∙ has
starts_with _ was _ m starts has = absurd starts

pub only_live_are_read : OnlyLiveAreRead
only_live_are_read step answer events x y m (inr stopped) honest has =
    subst (λ (z : Seen). Ran (ReadsBehind (λ j. IsLiveIn m j ⊎ (step ≡ ReplaceSlot j))) x.told.history z.told.history) (sym stopped.same)
    (ran_none x.told.history)
only_live_are_read step answer events x y m (inl p) honest has =
    step_only (λ j. IsLiveIn m j ⊎ (step ≡ ReplaceSlot j)) step p.was p.is.remembered answer (snapshot p.was.member x.told) (snapshot p.is.member y.told) p.does
    (λ j live. inl (subst (λ (k : Membership). IsLiveIn k j) (starts_with step p.was x.session m p.starts has) live)) (λ j same. inr same) honest
