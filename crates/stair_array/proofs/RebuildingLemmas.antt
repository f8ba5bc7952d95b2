-- A rebuild that is under way, its next chunk, and what a step of it came to.
use Rattle.std.proofs.Common.{◌≡◌, ◌≢◌, ◌+◌, ◌<◌, ◌≤◌, ℕ, None, Option, Some, ap, arith, inl, inr, refl, subst, sym, ◌∙◌}
use Rattle.std.specs.Prelude.{◌⊎◌, Bool, Err, IfSome, IsTrue, List, Ok, Result, ⊤}
use Rattle.std.specs.Result.{IsErrAnd}
use Rattle.stair_model.specs.CellSet.{CellSet, IsCellSet}
use Rattle.stair_model.specs.Geometry.{Geometry, IsWithinLimits}
use Rattle.stair_model.specs.Slots.{HasSlot, Slots}
use Rattle.stair_model.specs.Stripe.{Stripe}
use Rattle.stair_rack.specs.Answers.{Calls}
use Rattle.stair_rack.specs.Count.{Rose}
use Rattle.stair_rack.specs.History.{Happening, SlotCall, Sync}
use Rattle.stair_rack.specs.Placed.{IsGoneSlot, IsSlot}
use Rattle.stair_rack.specs.RackCounts.{NoneFalls}
use Rattle.stair_rack.specs.Stretch.{WasAnswered}
use Rattle.stair_rack.specs.RackState.{RackState, rack_state}
use Rattle.stair_rack.specs.Writing.{IsOnSlot, Writing}
use Rattle.stair_rack.specs.declared.rack.Reply.{Reply}
use Rattle.stair_rack.specs.declared.rack.Reply.TheVariants as reply
use Rattle.stair_rack.proofs.MomentLemmas.{ran_any}
use Rattle.stair_rack.proofs.RackStateLemmas.{later_called}
use Rattle.stair_member.specs.Epochs.{of_fence}
use Rattle.stair_member.specs.Establishing.{Fences, Joins, refusal_of}
use Rattle.stair_member.specs.Membership.{IsHere, Membership, why_of}
use Rattle.stair_member.specs.declared.aim.EpochChange.TheVariants.{Promote}
use Rattle.stair_member.specs.declared.fault.AdmitFault.{AdmitFault}
use Rattle.stair_member.specs.declared.fault.AdmitFault.TheVariants as admit
use Rattle.stair_member.specs.declared.fault.FenceFault.{FenceFault}
use Rattle.stair_member.specs.declared.fault.FenceFault.TheVariants as fence
use Rattle.stair_member.specs.declared.why.Why.{Why}
use Rattle.stair_member.specs.declared.why.Why.TheVariants as why
use Rattle.stair_member.proofs.CountingLemmas.{has_or_not}
use Rattle.stair_journal.specs.Phases.{AnswersGone}
use Rattle.stair_journal.specs.Redo.{IsRedo}
use Rattle.stair_journal.specs.declared.redo.Redo.{Redo}
use Rattle.stair_stripes.specs.Placing.{cell_writes}
use Rattle.stair_invariant.specs.Chunks.{AreOfChunk}
use Rattle.stair_invariant.specs.Effects.{Fenced, FencesGone, NoneWas, Snapshot, snapshot}
use Rattle.stair_invariant.specs.Rebuilding.{Rebuild}
use Rattle.stair_invariant.specs.Session.{ArrayState, IsRebuiltIn}
use Rattle.stair_array.specs.Arrays.{IsUnderWay}
use Rattle.stair_array.specs.Calls.{LoadsStripe, refused}
use Rattle.stair_array.specs.Causes.{IsLowestRebuilt, IsNextChunk}
use Rattle.stair_array.specs.Faults.{array_fault, refusal_for}
use Rattle.stair_array.specs.Machine.{Dropped, Refusal, Progress as Came}
use Rattle.stair_array.specs.MendingCalls.{chunk_as, promotion_as, rebuild_past, reply_for}
use Rattle.stair_array.specs.Mends.{FencesSlot, Promotes, SyncsSlot, WritesChunk, promoted_as}
use Rattle.stair_array.specs.MendingSteps.{WritesNext}
use Rattle.stair_array.specs.Promise.{KeepsProgress, rebuild_after, rebuild_of, running}
use Rattle.stair_array.specs.declared.fault.ArrayFault.{ArrayFault}
use Rattle.stair_array.specs.declared.fault.ArrayFault.TheVariants as array

-- WHAT IS LEFT OF A REBUILD

-- it goes on where its slot has this reason, and is the same one then
pub goes_on : (w : Why) (was one : Rebuild) → rebuild_of w was ≡ Some one → (w ≡ why.Rebuilding) × (was ≡ one)
goes_on why.Here was one is = let never : None ≡ Some one = is in absurd (cc)
goes_on why.Gone was one is = let never : None ≡ Some one = is in absurd (cc)
goes_on why.NoSuper was one is = let never : None ≡ Some one = is in absurd (cc)
goes_on why.OtherArray was one is = let never : None ≡ Some one = is in absurd (cc)
goes_on why.OtherSlot was one is = let never : None ≡ Some one = is in absurd (cc)
goes_on why.MarkedDown was one is = let never : None ≡ Some one = is in absurd (cc)
goes_on why.OtherJoined was one is = let never : None ≡ Some one = is in absurd (cc)
goes_on why.Rebuilding was one is = let same : Some was ≡ Some one = is in (refl, cc)

rebuilding_or : (w : Why) → (w ≡ why.Rebuilding) ⊎ (w ≢ why.Rebuilding)
rebuilding_or why.Here = inr (λ is. absurd (cc))
rebuilding_or why.Gone = inr (λ is. absurd (cc))
rebuilding_or why.NoSuper = inr (λ is. absurd (cc))
rebuilding_or why.OtherArray = inr (λ is. absurd (cc))
rebuilding_or why.OtherSlot = inr (λ is. absurd (cc))
rebuilding_or why.MarkedDown = inr (λ is. absurd (cc))
rebuilding_or why.OtherJoined = inr (λ is. absurd (cc))
rebuilding_or why.Rebuilding = inl refl

-- and it ends where it has another one
pub ends : (w : Why) (was : Rebuild) → w ≢ why.Rebuilding → rebuild_of w was ≡ None
ends why.Here was other = refl
ends why.Gone was other = refl
ends why.NoSuper was other = refl
ends why.OtherArray was other = refl
ends why.OtherSlot was other = refl
ends why.MarkedDown was other = refl
ends why.OtherJoined was other = refl
ends why.Rebuilding was other = absurd (other refl)

module _ (m last : Membership) (same : last.array.geometry ≡ m.array.geometry) where
  pub under_after : (rebuild : Option Rebuild) → IsUnderWay m rebuild → IsUnderWay last (rebuild_after last rebuild)
  under_after None under one is = let never : None ≡ Some one = is in absurd (cc)
  under_after (Some was) under one is =
      let on = goes_on (why_of last was.slot) was one is in
      let first = under was refl in
      subst (λ (r : Rebuild). IsRebuiltIn last r.slot × (r.stripe ≤ last.array.geometry.stripes)) on.1 (
        record { below = subst (λ (g : Geometry). was.slot < g.n) (sym same) first.0.below; why = on.0 },
        subst (λ (g : Geometry). was.stripe ≤ g.stripes) (sym same) first.1,
      )

-- SLOTS THAT ARE LEFT OUT

-- where these slots were left out and an epoch stands, none of them takes part
module _ (leaving : Slots) (m last : Membership) (answer : Result Slots FenceFault) (old new : RackState) (stands : None ≡ refusal_of answer)
    (e : Fences leaving m last answer old new) (j : ℕ) (has : HasSlot leaving j) where
  fence_left : ¬ IsHere last j
  fence_left here =
      let below : j < e.start.array.geometry.n = subst (λ (g : Geometry). j < g.n) e.establishes.geometry here.below in
      let gone : why_of last j ≡ why.Gone =
      elim (has_or_not e.establishes.gone j) [
        | inl dropped ↦ e.establishes.were_gone.dropped j dropped
        | inr kept ↦ (e.establishes.done (sym stands)).whys j below kept ∙ e.leaves.left j has
      ]
      in
      elim here.why [
        | inl live ↦ let never : why.Gone ≡ why.Here = sym gone ∙ live in absurd (cc)
        | inr rebuilt ↦ let never : why.Gone ≡ why.Rebuilding = sym gone ∙ rebuilt in absurd (cc)
      ]

left_out : (gone : Slots) (x y : Snapshot) (j : ℕ) → FencesGone gone None x y → HasSlot gone j → ¬ IsHere y.member j
left_out gone x y j (NoneWas none same fine) has = absurd (none j has)
left_out gone x y j (Fenced i some answer fine e) has = fence_left gone x.member y.member answer x.told y.told fine e j has

pub dropped_away : (j : ℕ) (x y : Snapshot) → FencesSlot j None x y → ¬ IsHere y.member j
dropped_away j x y d = left_out d.gone x y j d.leaves ((d.alone j).1 refl)

refused_alike : (f : FenceFault) → refusal_for (array_fault f) ≡ refused f
refused_alike (fence.TooFew whys) = refl
refused_alike fence.EpochsSpent = refl

-- an epoch that was refused to a chunk
written_answer : (j : ℕ) (last : Membership) (result : Result (Unit {0}) ArrayFault) (fault : FenceFault)
    → IsErrAnd result (λ e. e ≡ array_fault fault) → chunk_as j last result ≡ Err (refused fault)
written_answer j last (Ok done) fault is = absurd is
written_answer j last (Err e) fault same = ap (λ (a : ArrayFault). Err (refusal_for a)) same ∙ ap (λ (r : Refusal). Err r) (refused_alike fault)

-- and to a promotion
promoted_alike : (j : ℕ) (f : FenceFault) → promotion_as j (Err (of_fence f)) ≡ Err (refused f)
promoted_alike j (fence.TooFew whys) = refl
promoted_alike j fence.EpochsSpent = refl

promoted_answer : (j : ℕ) (result : Result (Unit {0}) AdmitFault) (fault : FenceFault) → IsErrAnd result (λ e. e ≡ of_fence fault)
    → promotion_as j result ≡ Err (refused fault)
promoted_answer j (Ok done) fault is = absurd is
promoted_answer j (Err e) fault same = ap (λ (a : AdmitFault). promotion_as j (Err a)) same ∙ promoted_alike j fault

-- an admission or a promotion that is handed on
pub handed_promotion : (j : ℕ) (result : Result (Unit {0}) AdmitFault) (why : AdmitFault) → IsErrAnd result (λ e. e ≡ why)
    → promotion_as j result ≡ promoted_as j (Err why)
handed_promotion j (Ok done) why is = absurd is
handed_promotion j (Err e) why same = ap (λ (a : AdmitFault). promotion_as j (Err a)) same ∙ alike why
  where
    alike : (f : AdmitFault) → promotion_as j (Err f) ≡ promoted_as j (Err f)
    alike (admit.TooFew whys) = refl
    alike admit.EpochsSpent = refl
    alike (admit.Gone slot) = refl

-- PROMOTING

-- slot j was synced, which the rack answered so
module _ (m : Membership) (j : ℕ) (honest : Bool) (old new : List Happening) (bads bads' : ℕ) (gones gones' : ℕ → ℕ) (answer : Reply)
    (told : IsTrue honest → Calls old new j (Sync answer)) (counts : NoneFalls bads bads' gones gones')
    (rose : answer ≡ reply.Gone → Rose (gones j) (gones' j)) where
  synced : (found : Reply) → answer ≡ found → SyncsSlot j found (snapshot m (rack_state honest old bads gones)) (snapshot m (rack_state honest new bads' gones'))
  synced found same = record {
    member = refl;
    later = later_called honest old new bads bads' gones gones' j (Sync answer) told counts;
    synced = λ is. subst (λ (a : Reply). Calls old new j (Sync a)) same (told is);
    rose = λ gone. rose (same ∙ gone);
  }

  pub promotes_none : answer ≡ reply.Gone → (y : Snapshot) → FencesSlot j None (snapshot m (rack_state honest new bads' gones')) y
      → Promotes j (Ok (Dropped j)) (snapshot m (rack_state honest old bads gones)) y
  promotes_none gone y drops =
      Promotes.Unsynced None (snapshot m (rack_state honest old bads gones)) (snapshot m (rack_state honest new bads' gones')) y (synced reply.Gone gone) drops

  pub promotes_stops : answer ≡ reply.Gone → (result : Result (Unit {0}) AdmitFault) (fault : FenceFault) → IsErrAnd result (λ e. e ≡ of_fence fault)
      → (y : Snapshot) → FencesSlot j (Some fault) (snapshot m (rack_state honest new bads' gones')) y
      → Promotes j (promotion_as j result) (snapshot m (rack_state honest old bads gones)) y
  promotes_stops gone result fault is y drops =
      subst (λ (a : Result Came Refusal). Promotes j a (snapshot m (rack_state honest old bads gones)) y) (sym (promoted_answer j result fault is))
      (Promotes.Unsynced (Some fault) (snapshot m (rack_state honest old bads gones)) (snapshot m (rack_state honest new bads' gones')) y (synced reply.Gone gone)
      drops)

  pub promotes : answer ≡ reply.Done → (joined : Result Slots AdmitFault) (last end : Membership) (later : RackState) → end ≡ last
      → Joins (Promote j) j m last joined (rack_state honest new bads' gones') later
      → Promotes j (promoted_as j joined) (snapshot m (rack_state honest old bads gones)) (snapshot end later)
  promotes done joined last end later same joins =
      Promotes.Joined joined (snapshot m (rack_state honest old bads gones)) (snapshot m (rack_state honest new bads' gones')) (snapshot end later)
      (synced reply.Done done)
      (subst (λ (l : Membership). Joins (Promote j) j m l joined (rack_state honest new bads' gones') later) (sym same) joins)

-- ONE CHUNK

pub reply_gone : (w : Why) → w ≢ why.Rebuilding → reply_for w ≡ reply.Gone
reply_gone why.Here other = refl
reply_gone why.Gone other = refl
reply_gone why.NoSuper other = refl
reply_gone why.OtherArray other = refl
reply_gone why.OtherSlot other = refl
reply_gone why.MarkedDown other = refl
reply_gone why.OtherJoined other = refl
reply_gone why.Rebuilding other = absurd (other refl)

-- the stripe wasn't loaded, which is handed on
pub next_unread : (j t : ℕ) (into : Stripe) (x y : Snapshot) (result : Result (Unit {0}) ArrayFault) (fault : ArrayFault) → IsErrAnd result (λ e. e ≡ fault)
    → LoadsStripe t into (Err (refusal_for fault)) x y → WritesNext j t (chunk_as j y.member result) x y
next_unread j t into x y (Ok done) fault is loads = absurd is
next_unread j t into x y (Err e) fault same loads =
    rw same (WritesNext.Unread into (refusal_for fault) x y loads)

-- the slot fell as others were left out
pub next_away : (j t : ℕ) (into : Stripe) (x y : Snapshot) → LoadsStripe t into (Ok tt) x y → why_of y.member j ≢ why.Rebuilding
    → WritesNext j t (Ok (reply_for (why_of y.member j))) x y
next_away j t into x y loads other =
    subst (λ (r : Reply). WritesNext j t (Ok r) x y) (sym (reply_gone (why_of y.member j) other))
    (WritesNext.FellLoading into x y loads (λ rebuilt. other rebuilt.why))

-- the redo of a whole chunk
pub redo_of_chunk : (g : Geometry) (j t : ℕ) (cells : CellSet) → IsWithinLimits g → j < g.n → t < g.stripes → AreOfChunk g j cells → IsCellSet cells
    → IsRedo g (record { stripe = t; cells = cells })
redo_of_chunk g j t cells limits slot stripe are formed = record {
  stripe_in = stripe;
  formed = formed;
  inside = λ i k has. let at = (are i k).0 has in (at.0, subst (λ (l : ℕ). l < g.n) (sym at.1) slot);
  row = 0;
  slot = j;
  some = let some_rows = limits.rows.0 in (are 0 j).1 (omega (arith, some_rows), refl);
}

-- Slot j's chunk of stripe t was written, by a member with this geometry, and the rack answered so.
module _ (m : Membership) (g : Geometry) (same : g ≡ m.array.geometry) (j t : ℕ) (cells : CellSet) (are : AreOfChunk g j cells)
    (formed : IsRedo g (record { stripe = t; cells = cells })) (into : Stripe) (answer : Reply) (honest : Bool) (old new : List Happening)
    (bads bads' : ℕ) (gones gones' : ℕ → ℕ)
    (told : IsTrue honest → Writing (cell_writes g (record { stripe = t; cells = cells }) into) (IsSlot j) (IsGoneSlot j answer) (IsOnSlot j) old new)
    (told_gone : IsTrue honest → (i : ℕ) (call : SlotCall) → WasAnswered i call old new → AnswersGone call → IsGoneSlot j answer i)
    (rose : answer ≡ reply.Gone → Rose (gones j) (gones' j)) (counts : NoneFalls bads bads' gones gones') where
  wrote_chunk : (found : Reply) → answer ≡ found
      → WritesChunk j t into found (snapshot m (rack_state honest old bads gones)) (snapshot m (rack_state honest new bads' gones'))
  wrote_chunk found is = record {
    member = refl;
    later = record { counts = counts; honest = refl; ran = λ yes. ran_any (told yes).ran };
    redo = redo;
    of_stripe = refl;
    formed = subst (λ (k : Geometry). IsRedo k redo) same formed;
    cells = subst (λ (k : Geometry). AreOfChunk k j cells) same are;
    wrote = λ yes.
        subst (λ (a : Reply). Writing (cell_writes m.array.geometry redo into) (IsSlot j) (IsGoneSlot j a) (IsOnSlot j) old new) is
        (subst (λ (k : Geometry). Writing (cell_writes k redo into) (IsSlot j) (IsGoneSlot j answer) (IsOnSlot j) old new) same (told yes));
    rose = λ gone. rose (is ∙ gone);
    gone = λ yes i call was gone. subst (λ (a : Reply). IsGoneSlot j a i) is (told_gone yes i call was gone);
  }
    where
      redo : Redo
      redo = record { stripe = t; cells = cells }

  -- after the stripe was loaded
  module _ (x : Snapshot) (loads : LoadsStripe t into (Ok tt) x (snapshot m (rack_state honest old bads gones))) (rebuilt : IsRebuiltIn m j) where
    pub next_written : answer ≡ reply.Done → WritesNext j t (Ok (reply_for (why_of m j))) x (snapshot m (rack_state honest new bads' gones'))
    next_written done =
        subst (λ (r : Reply). WritesNext j t (Ok r) x (snapshot m (rack_state honest new bads' gones'))) (sym (ap reply_for rebuilt.why))
        (WritesNext.Wrote into x (snapshot m (rack_state honest old bads gones)) (snapshot m (rack_state honest new bads' gones')) loads rebuilt
        (wrote_chunk reply.Done done))

    module _ (gone : answer ≡ reply.Gone) (y : Snapshot) where
      pub next_fell : FencesSlot j None (snapshot m (rack_state honest new bads' gones')) y → y.member.array.geometry ≡ m.array.geometry
          → WritesNext j t (Ok (reply_for (why_of y.member j))) x y
      next_fell drops geometry =
          subst (λ (r : Reply). WritesNext j t (Ok r) x y)
          (sym (reply_gone (why_of y.member j)
          (λ goes. dropped_away j (snapshot m (rack_state honest new bads' gones')) y drops
          (record { below = subst (λ (k : Geometry). j < k.n) (sym geometry) rebuilt.below; why = inr goes }))))
          (WritesNext.Fell into None x (snapshot m (rack_state honest old bads gones)) (snapshot m (rack_state honest new bads' gones')) y loads rebuilt
          (wrote_chunk reply.Gone gone) drops)

      pub next_stops : (result : Result (Unit {0}) ArrayFault) (fault : FenceFault) → IsErrAnd result (λ e. e ≡ array_fault fault)
          → FencesSlot j (Some fault) (snapshot m (rack_state honest new bads' gones')) y → WritesNext j t (chunk_as j y.member result) x y
      next_stops result fault is drops =
          subst (λ (a : Result Reply Refusal). WritesNext j t a x y) (sym (written_answer j y.member result fault is))
          (WritesNext.Fell into (Some fault) x (snapshot m (rack_state honest old bads gones)) (snapshot m (rack_state honest new bads' gones')) y loads rebuilt
          (wrote_chunk reply.Gone gone) drops)

-- THE NEXT CHUNK

-- of a rebuild that is under way
pub next_under : (m : Membership) (rebuild : Option Rebuild) → IfSome rebuild (λ next. IsNextChunk (running m rebuild None) next.slot next.stripe)
next_under m None = tt
next_under m (Some one) = IsNextChunk.UnderWay one refl refl refl

-- it is of the member and the rebuild alone
pub next_same : (a b : ArrayState) (j t : ℕ) → b.member ≡ a.member → b.rebuild ≡ a.rebuild → IsNextChunk a j t → IsNextChunk b j t
next_same a b j t member rebuild (IsNextChunk.UnderWay one is at to) = IsNextChunk.UnderWay one (rebuild ∙ is) at to
next_same a b j t member rebuild (IsNextChunk.First none lowest zero) =
    IsNextChunk.First (rebuild ∙ none) (subst (λ (m : Membership). IsLowestRebuilt m j) (sym member) lowest) zero

-- of a slot that is rebuilt
pub next_rebuilt : (a : ArrayState) (j t : ℕ) → IsNextChunk a j t → IsUnderWay a.member a.rebuild
    → IsRebuiltIn a.member j × (t ≤ a.member.array.geometry.stripes)
next_rebuilt a j t (IsNextChunk.UnderWay one is at to) under =
    (subst (IsRebuiltIn a.member) at (under one is).0, subst (λ (k : ℕ). k ≤ a.member.array.geometry.stripes) to (under one is).1)
next_rebuilt a j t (IsNextChunk.First none lowest zero) under = (lowest.rebuilt, omega (arith, zero))

-- WHAT A STEP LEAVES OF A REBUILD

-- a step that leaves what goes on keeps it so
pub progress_by : (was is : ArrayState) → IsUnderWay was.member was.rebuild → is.member.array.geometry ≡ was.member.array.geometry
    → is.rebuild ≡ rebuild_after is.member was.rebuild → (before : Option Rebuild) → was.rebuild ≡ before → KeepsProgress was is
progress_by was is under same left None before =
    KeepsProgress.Stays (left ∙ ap (rebuild_after is.member) before ∙ sym before)
    (λ one on. let never : None ≡ Some one = sym (left ∙ ap (rebuild_after is.member) before) ∙ on in absurd (cc))
progress_by was is under same left (Some one) before = by_why (why_of is.member one.slot) refl
  where
    first : IsRebuiltIn was.member one.slot
    first = (under one before).0

    by_why : (w : Why) → why_of is.member one.slot ≡ w → KeepsProgress was is
    by_why w at =
        elim (rebuilding_or w) [
          | inl goes ↦
              KeepsProgress.Stays (left ∙ ap (rebuild_after is.member) before ∙ ap (λ (v : Why). rebuild_of v one) (at ∙ goes) ∙ sym before)
              (λ other on. (under_after was.member is.member same was.rebuild under other (sym left ∙ on)).0)
          | inr other ↦
              KeepsProgress.Ended one before (λ rebuilt. other (sym at ∙ rebuilt.why))
              (left ∙ ap (rebuild_after is.member) before ∙ ends (why_of is.member one.slot) one (λ goes. other (sym at ∙ goes)))
        ]

-- nothing changed
pub progress_none : (a : ArrayState) → IsUnderWay a.member a.rebuild → KeepsProgress a a
progress_none a under = KeepsProgress.Stays refl (λ one is. (under one is).0)

-- WHAT A CHUNK LEAVES OF A REBUILD

-- it is under way by the rules
pub under_past : (m last : Membership) (rebuild : Option Rebuild) (j t : ℕ) (written : Result (Unit {0}) ArrayFault) → IsUnderWay m rebuild
    → last.array.geometry ≡ m.array.geometry → IsRebuiltIn m j → t < m.array.geometry.stripes
    → IsUnderWay last (rebuild_past j t last rebuild written)
under_past m last rebuild j t (Ok done) under same rebuilt below one is =
    let on = goes_on (why_of last j) (record { slot = j; stripe = t + 1 }) one is in
    subst (λ (r : Rebuild). IsRebuiltIn last r.slot × (r.stripe ≤ last.array.geometry.stripes)) on.1 (
      record { below = subst (λ (g : Geometry). j < g.n) (sym same) rebuilt.below; why = on.0 },
      subst (λ (g : Geometry). t + 1 ≤ g.stripes) (sym same) (omega (arith, below)),
    )
under_past m last rebuild j t (Err (array.Lost stripe counts)) under same rebuilt below one is = under_after m last same rebuild under one is
under_past m last rebuild j t (Err other) under same rebuilt below one is = let never : None ≡ Some one = is in absurd (cc)
