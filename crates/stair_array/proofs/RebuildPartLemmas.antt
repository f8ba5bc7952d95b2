-- The parts of a step of a rebuild, on any rack: a chunk that is written, a sync, and a slot that was gone and is dropped.
use Rattle.std.proofs.Common.{◌≡◌, ℕ, ◌≤◌, List, ◌∷◌, ◌++◌, cond, false, inl, refl, sym, ap, ◌∙◌, subst, None, Option, Some, arith}
use Rattle.std.specs.Prelude.{IsTrue}
use Rattle.stair_model.specs.Slots.{HasSlot, has_slot, slot_count}
use Rattle.stair_model.specs.Stripe.{Stripe}
use Rattle.stair_rack.specs.Answers.{Calls, IsNoAttach, Told, Untold, any_call, is_ready}
use Rattle.stair_rack.specs.Count.{Rose}
use Rattle.stair_rack.specs.History.{Called, Happening, SlotCall, Sync}
use Rattle.stair_rack.specs.Placed.{IsSlot, IsWriteOf, IsGoneSlot, Writes}
use Rattle.stair_rack.specs.Stretch.{WasAnswered}
use Rattle.stair_rack.specs.RackState.{RackState}
use Rattle.stair_rack.specs.declared.rack.Reply.{Reply}
use Rattle.stair_rack.specs.declared.rack.Reply.TheVariants as reply
use Rattle.stair_rack.proofs.MomentLemmas.{IsThis, calls_ran, ran_none, ran_weakened}
use Rattle.stair_rack.proofs.OfflineLemmas.{held_on, offline_from_unready, unready_lasts, unready_when_stopped}
use Rattle.stair_rack.proofs.StretchLemmas.{answered_allowed}
use Rattle.stair_rack.proofs.RackStateLemmas.{later_none}
use Rattle.stair_member.specs.Membership.{IsHere, IsMembership, Membership, why_of}
use Rattle.stair_member.specs.declared.fault.FenceFault.{FenceFault}
use Rattle.stair_member.specs.declared.why.Why.TheVariants as why
use Rattle.stair_stripes.specs.Placing.{cell_writes}
use Rattle.stair_state.specs.Redoing.{Placing}
use Rattle.stair_invariant.specs.Effects.{Fenced, FencesGone, NoneWas, Snapshot, snapshot}
use Rattle.stair_invariant.specs.Session.{IsArray}
use Rattle.stair_array.specs.Causes.{WasGoneTo}
use Rattle.stair_array.specs.Mends.{FencesSlot, SyncsSlot, WritesChunk}
use Rattle.stair_array.specs.Promise.{IsAnsweredGone, unopened}
use Rattle.stair_array.proofs.AnsweredLemmas.{IsLeftOut, out_gone, out_left_out, written_gone}
use Rattle.stair_array.proofs.CauseLemmas.{left_array, left_refused}
use Rattle.stair_array.proofs.CourseLemmas.{redo_range, writes_beside}
use Rattle.stair_array.proofs.GoneToLemmas.{IsAfter, attaches_none, gone_to_by, gone_to_wider}
use Rattle.stair_array.proofs.LoadCauseLemmas.{StopsBy}
use Rattle.stair_array.proofs.PartsLemmas.{IsPart, fence_part, out_after}
use Rattle.stair_array.proofs.PromotePartLemmas.{one_counted}
use Rattle.stair_array.proofs.ReadCourseLemmas.{told_part}

-- A CHUNK

module _ (j t : ℕ) (into : Stripe) (answer : Reply) (x y : Snapshot) (wrote : WritesChunk j t into answer x y) where
  abbrev what : Writes
  what = cell_writes x.member.array.geometry wrote.redo into

  pub chunk_after : IsAfter x.told y.told
  chunk_after = record {
    later = wrote.later;
    beside = λ honest.
        ran_weakened {allowed = IsWriteOf what (IsSlot j)} {more = attaches_none} (writes_beside what (IsSlot j)) (wrote.wrote honest).ran;
  }

  pub chunk_part : IsMembership x.member → IsPart 0 x y
  chunk_part = told_part x y wrote.member chunk_after

  -- its slot alone answered gone, where that is the answer
  pub chunk_told : IsTrue y.told.honest → (i : ℕ) (call : SlotCall) → WasAnswered i call x.told.history y.told.history → IsAnsweredGone call
      → IsGoneSlot j answer i
  chunk_told honest i call was gone =
      wrote.gone honest i call was
      (written_gone what (IsSlot j) i call (inl (answered_allowed {allowed = IsWriteOf what (IsSlot j)} (wrote.wrote honest).ran was)) gone)

  pub chunk_left_out : answer ≡ reply.Done → IsTrue y.told.honest → IsLeftOut x y
  chunk_left_out done honest i call here was gone =
      let never : reply.Done ≡ reply.Gone = sym done ∙ (chunk_told honest i call was gone).1 in absurd (cc)

  pub chunk_gone : answer ≡ reply.Gone → IsMembership x.member → IsHere x.member j → WasGoneTo x.member j x.told y.told
  chunk_gone is rules here =
      gone_to_by x.member j x.told y.told chunk_after here (wrote.rose is)
      (λ honest session held reach.
      (wrote.wrote honest).shut session j (refl, is) held
      (λ attached k bytes written.
      reach attached k (redo_range x.member.array.geometry wrote.redo into Placing x refl rules wrote.formed j k bytes written)))

-- A SYNC

-- a slot that answered gone isn't ready then
unready_synced : (old new : List Happening) (j : ℕ) → Calls old new j (Sync reply.Gone) → is_ready new j ≡ false
unready_synced old new j (Told acts runs answered is) =
    let last : List Happening = Called j (Sync reply.Gone) ∷ (acts ++ old) in
    subst (λ (h : List Happening). is_ready h j ≡ false) (sym is)
    (unready_lasts (acts ++ old) last j (Sync reply.Gone) answered refl (ran_none {allowed = IsNoAttach j} last))
unready_synced old new j (Untold acts runs answered is_stopped nothing is) =
    subst (λ (h : List Happening). is_ready h j ≡ false) (sym is) (unready_when_stopped (acts ++ old) j is_stopped)

module _ (j : ℕ) (answer : Reply) (x y : Snapshot) (syncs : SyncsSlot j answer x y) where
  sync_beside : (i : ℕ) (call : SlotCall) → IsThis j (Sync answer) i call → attaches_none i call
  sync_beside i call this = subst (attaches_none i) (sym this.1) tt

  pub sync_after : IsAfter x.told y.told
  sync_after = record {
    later = syncs.later;
    beside = λ honest. ran_weakened {allowed = IsThis j (Sync answer)} {more = attaches_none} sync_beside (calls_ran (syncs.synced honest));
  }

  pub sync_part : IsMembership x.member → IsPart 0 x y
  sync_part = told_part x y syncs.member sync_after

  pub sync_told : IsTrue y.told.honest → (i : ℕ) (call : SlotCall) → WasAnswered i call x.told.history y.told.history → IsAnsweredGone call
      → IsGoneSlot j answer i
  sync_told honest i call was gone =
      let this = answered_allowed {allowed = IsThis j (Sync answer)} (calls_ran (syncs.synced honest)) was in
      (this.0, subst IsAnsweredGone this.1 gone)

  pub sync_left_out : answer ≡ reply.Done → IsTrue y.told.honest → IsLeftOut x y
  sync_left_out done honest i call here was gone =
      let never : reply.Done ≡ reply.Gone = sym done ∙ (sync_told honest i call was gone).1 in absurd (cc)

  pub sync_gone : answer ≡ reply.Gone → WasGoneTo x.member j x.told y.told
  sync_gone is =
      WasGoneTo.Offline
      (record {
        rose = syncs.rose is;
        shut = λ honest before held.
            offline_from_unready (held_on {allowed = any_call} j (syncs.later.ran honest) held)
            (unready_synced x.told.history y.told.history j
            (subst (λ (r : Reply). Calls x.told.history y.told.history j (Sync r)) is (syncs.synced honest)));
      })

-- A SLOT THAT FALLS

-- slot j was gone, no other slot answered so meanwhile, and it is dropped
pub record Falls (j : ℕ) (refusal : Option FenceFault) (x z : Snapshot) : Type 0 where
  pub mid : RackState
  pub before : IsAfter x.told mid
  pub was : WasGoneTo x.member j x.told mid
  pub told : IsTrue mid.honest → (i : ℕ) (call : SlotCall) → WasAnswered i call x.told.history mid.history → IsAnsweredGone call → i ≡ j
  pub drops : FencesSlot j refusal (snapshot x.member mid) z

pub chunk_falls : (j t : ℕ) (into : Stripe) (refusal : Option FenceFault) (x y z : Snapshot) → WritesChunk j t into reply.Gone x y
    → FencesSlot j refusal y z → IsMembership x.member → IsHere x.member j → Falls j refusal x z
chunk_falls j t into refusal x y z wrote drops rules here = record {
  mid = y.told;
  before = chunk_after j t into reply.Gone x y wrote;
  was = chunk_gone j t into reply.Gone x y wrote refl rules here;
  told = λ honest i call was gone. (chunk_told j t into reply.Gone x y wrote honest i call was gone).0;
  drops = subst (λ (m : Membership). FencesSlot j refusal (snapshot m y.told) z) wrote.member drops;
}

pub sync_falls : (j : ℕ) (refusal : Option FenceFault) (x y z : Snapshot) → SyncsSlot j reply.Gone x y → FencesSlot j refusal y z → Falls j refusal x z
sync_falls j refusal x y z syncs drops = record {
  mid = y.told;
  before = sync_after j reply.Gone x y syncs;
  was = sync_gone j reply.Gone x y syncs refl;
  told = λ honest i call was gone. (sync_told j reply.Gone x y syncs honest i call was gone).0;
  drops = subst (λ (m : Membership). FencesSlot j refusal (snapshot m y.told) z) syncs.member drops;
}

pub gone_rose : (m : Membership) (j : ℕ) (old new : RackState) → WasGoneTo m j old new → Rose (old.gones j) (new.gones j)
gone_rose m j old new (WasGoneTo.Offline gone) = gone.rose
gone_rose m j old new (WasGoneTo.PastEnd rose here has needs small) = rose

module _ (j : ℕ) (refusal : Option FenceFault) (x z : Snapshot) (falls : Falls j refusal x z) (rules : IsMembership x.member)
    (here : IsHere x.member j) where
  leaves : FencesGone falls.drops.gone refusal (snapshot x.member falls.mid) z
  leaves = falls.drops.leaves

  own : HasSlot falls.drops.gone j
  own = (falls.drops.alone j).1 refl

  after : IsAfter falls.mid z.told
  after = out_after falls.drops.gone refusal (snapshot x.member falls.mid) z leaves

  some : 1 ≤ slot_count falls.drops.gone
  some =
      let limit = rules.array.limits.devices.1 in
      let below = here.below in
      one_counted 32 j (λ k. cond (has_slot falls.drops.gone k) 1 0) (omega (arith, limit, below)) (ap (λ b. cond b 1 0) own)

  each_here : (i : ℕ) → HasSlot falls.drops.gone i → IsHere x.member i
  each_here i has = subst (IsHere x.member) (sym ((falls.drops.alone i).0 has)) here

  each_gone : (i : ℕ) → HasSlot falls.drops.gone i → WasGoneTo x.member i x.told falls.mid
  each_gone i has = subst (λ (k : ℕ). WasGoneTo x.member k x.told falls.mid) (sym ((falls.drops.alone i).0 has)) falls.was

  pub falls_part : IsPart 0 x z
  falls_part = by leaves
    where
      by : FencesGone falls.drops.gone refusal (snapshot x.member falls.mid) z → IsPart 0 x z
      by (NoneWas none same fine) = absurd (none j own)
      by (Fenced i has answer fine e) =
          fence_part falls.drops.gone x.member z.member answer x.told falls.mid z.told e rules falls.before each_here each_gone 0
          (let one = some in omega (arith, one))

  pub falls_why : why_of z.member j ≡ why.Gone
  falls_why = out_gone falls.drops.gone refusal (snapshot x.member falls.mid) z leaves j own here.below

  pub falls_left_out : IsTrue z.told.honest → IsLeftOut x z
  falls_left_out =
      out_left_out falls.drops.gone refusal x z falls.mid falls.before
      (λ honest i call was gone. (falls.drops.alone i).1 (falls.told honest i call was gone)) leaves

  pub falls_gone : WasGoneTo x.member j x.told z.told
  falls_gone = gone_to_wider x.member j x.told x.told falls.mid z.told (later_none x.told) falls.before.later after falls.was

  pub falls_stops : (fault : FenceFault) → refusal ≡ Some fault → StopsBy fault x z
  falls_stops fault is = record {
    by = left_refused falls.drops.gone refusal (snapshot x.member falls.mid) z leaves fault is;
    one = record { slot = j; here = here; gone = falls_gone };
  }

  pub falls_array : refusal ≡ None → IsArray (unopened x.member) → IsArray (unopened z.member)
  falls_array = left_array falls.drops.gone refusal (snapshot x.member falls.mid) z leaves
