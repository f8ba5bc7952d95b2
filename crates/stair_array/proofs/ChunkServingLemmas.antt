-- An open array while the chunk of a slot that it rebuilds is written, and while that slot is synced, whether media come back or not.
use Rattle.std.proofs.Common.{List, ap, arith, refl, subst, sym, ℕ, ◌+◌, ◌<◌, ◌∙◌, ◌≡◌}
use Rattle.std.specs.Prelude.{IsTrue}
use Rattle.stair_model.specs.Device.{gate_sector}
use Rattle.stair_model.specs.Slots.{no_slots}
use Rattle.stair_model.specs.Stripe.{Stripe, cell}
use Rattle.stair_rack.specs.Answers.{Calls, IsBesideAttach, Ran, any_call}
use Rattle.stair_rack.specs.History.{Happening, SlotCall, Sync}
use Rattle.stair_rack.specs.Moments.{AtEveryMoment}
use Rattle.stair_rack.specs.Offline.{IsAttached, WasPulled}
use Rattle.stair_rack.specs.Placed.{IsGoneSlot, IsSlot, IsWriteOf, Writes}
use Rattle.stair_rack.specs.RackState.{RackState}
use Rattle.stair_rack.specs.declared.rack.Reply.{Reply}
use Rattle.stair_rack.specs.declared.rack.Reply.TheVariants as reply
use Rattle.stair_rack.proofs.MomentLemmas.{IsThis, calls_ran, ran_none, ran_weakened}
use Rattle.stair_member.specs.Membership.{Membership, why_of}
use Rattle.stair_member.specs.declared.why.Why.TheVariants as why
use Rattle.stair_stripes.specs.Placing.{cell_writes}
use Rattle.stair_stripes.proofs.PlacingLemmas.{cell_writes_is}
use Rattle.stair_state.specs.Blocks.{Codewords}
use Rattle.stair_state.specs.Redoing.{AttachesNone}
use Rattle.stair_state.specs.State.{Content}
use Rattle.stair_invariant.specs.Effects.{Snapshot, snapshot}
use Rattle.stair_invariant.specs.Leading.{IsBesideArray}
use Rattle.stair_invariant.specs.Opening.{opened_with}
use Rattle.stair_invariant.specs.Rebuilding.{IsRebuiltTo}
use Rattle.stair_invariant.specs.Returning.{Returning}
use Rattle.stair_invariant.specs.Session.{IsRebuiltIn}
use Rattle.stair_invariant.proofs.KnownLemmas.{attached_before}
use Rattle.stair_invariant.proofs.Mending.{IsRebuiltWhole, LeadsBeside, rebuilt_wholly}
use Rattle.stair_invariant.proofs.RebaseLemmas.{rebuilt_now}
use Rattle.stair_invariant.proofs.RebuildingLemmas.{rebuilt_more}
use Rattle.stair_invariant.proofs.Serving.{IsGoing, IsServing, LeadsReads}
use Rattle.stair_array.specs.Mends.{SyncsSlot, WritesChunk}
use Rattle.stair_array.proofs.BesideServingLemmas.{beside_moments}
use Rattle.stair_array.proofs.LeftServingLemmas.{StandsAt}
use Rattle.stair_array.proofs.SlotSyncLemmas.{alone, is_done, synced_alone}

module _ (returning : Returning) (laws : LeadsReads returning) (besides : LeadsBeside returning) (before : List Happening) (m : Membership)
    (words : Codewords) (kept : Content) (j : ℕ)
    (rebuilt : IsRebuiltIn m j) (old : RackState) (is : IsServing returning before (opened_with m) words kept old.history) (z : Snapshot)
    (honest : IsTrue z.told.honest) where
  not_live : (i : ℕ) → i ≡ j → ¬ (why_of m i ≡ why.Here)
  not_live i at live =
      let never : why.Here ≡ why.Rebuilding = sym live ∙ ap (why_of m) at ∙ rebuilt.why in
      absurd (cc)

  -- A CHUNK

  module _ (t : ℕ) (into : Stripe) (answer : Reply) (wrote : WritesChunk j t into answer (snapshot m old) z) where
    abbrev what : Writes
    what = cell_writes m.array.geometry wrote.redo into

    writes : Ran (IsWriteOf what (IsSlot j)) old.history z.told.history
    writes = (wrote.wrote honest).ran

    -- its calls are beside all that the array has
    write_beside : (i : ℕ) (c : SlotCall) → IsWriteOf what (IsSlot j) i c → IsBesideArray (opened_with m) i c
    write_beside i c w =
        let cell_is = cell_writes_is m.array.geometry wrote.redo into i w.sector w.bytes w.is_one in
        let at = cell_is.at in
        subst (IsBesideArray (opened_with m) i) (sym w.is)
        (record {
          session = record {
            epochs = record {
              behind = omega (arith, at);
              attaches = λ here. tt;
              gate = λ below up bytes given same.
                  let gate : w.sector ≡ gate_sector = cc in
                  omega (arith, at, gate);
            };
            spares = λ live. absurd (not_live i w.on live.1);
          };
          chunks = λ rebuild never. absurd (cc);
        })

    chunk_beside : Ran (IsBesideArray (opened_with m)) old.history z.told.history
    chunk_beside = ran_weakened {allowed = IsWriteOf what (IsSlot j)} {more = IsBesideArray (opened_with m)} write_beside writes

    pub chunk_serves : IsGoing returning m.array.geometry before z.told.history
        → IsServing returning before (opened_with m) words kept z.told.history
    chunk_serves on = besides.beside before (opened_with m) words kept old.history z.told.history is chunk_beside on

    pub chunk_stands : AtEveryMoment (StandsAt returning before m kept) old.history z.told.history
    chunk_stands = beside_moments returning laws besides before (opened_with m) words kept old.history z.told.history is chunk_beside

    -- where it was written the rebuild has come one stripe further
    pub chunk_more : answer ≡ reply.Done → into ≡ words t → t < m.array.geometry.stripes
        → (IsAttached old.history j → IsRebuiltTo m.array.geometry words j t old.history old.history) → IsAttached z.told.history j
        → IsRebuiltTo m.array.geometry words j (t + 1) z.told.history z.told.history
    chunk_more done same below chunks attached =
        rebuilt_now m.array.geometry words j (t + 1) old.history z.told.history was.1
        (rebuilt_more m.array.geometry words wrote.redo into j t old.history old.history z.told.history (IsGoneSlot j answer) wrote.cells
        wrote.of_stripe below (λ i row. ap (λ (s : Stripe). cell s i j) same) (wrote.wrote honest)
        (λ gone. let never : reply.Done ≡ reply.Gone = sym done ∙ gone.1 in absurd (cc)) (ran_none {allowed = any_call} old.history)
        is.history (chunks was.0))
      where
        was : IsAttached old.history j × ¬ WasPulled old.history z.told.history j
        was =
            attached_before {some = IsSlot j} j refl
            (ran_weakened {allowed = IsWriteOf what (IsSlot j)} {more = AttachesNone (IsSlot j)}
            (λ i c w here. subst IsBesideAttach (sym w.is) tt) writes) attached

  -- A SYNC

  module _ (answer : Reply) (syncs : SyncsSlot j answer (snapshot m old) z) where
    sync_one : (i : ℕ) (c : SlotCall) → IsThis j (Sync answer) i c → IsBesideArray (opened_with m) i c
    sync_one i c this =
        subst (IsBesideArray (opened_with m) i) (sym this.1)
        (record {
          session = record {
            epochs = record { behind = tt; attaches = λ here. tt; gate = λ below up bytes given same. absurd (cc) };
            spares = tt;
          };
          chunks = λ rebuild never. absurd (cc);
        })

    sync_beside : Ran (IsBesideArray (opened_with m)) old.history z.told.history
    sync_beside = ran_weakened {allowed = IsThis j (Sync answer)} {more = IsBesideArray (opened_with m)} sync_one (calls_ran (syncs.synced honest))

    pub sync_serves : IsGoing returning m.array.geometry before z.told.history
        → IsServing returning before (opened_with m) words kept z.told.history
    sync_serves on = besides.beside before (opened_with m) words kept old.history z.told.history is sync_beside on

    pub sync_stands : AtEveryMoment (StandsAt returning before m kept) old.history z.told.history
    sync_stands = beside_moments returning laws besides before (opened_with m) words kept old.history z.told.history is sync_beside

    -- with all chunks written the slot is rebuilt whole then
    pub sync_whole : answer ≡ reply.Done
        → (IsAttached old.history j → IsRebuiltTo m.array.geometry words j m.array.geometry.stripes old.history old.history)
        → IsRebuiltWhole (opened_with m) words z.told.history j
    sync_whole done chunks =
        rebuilt_wholly before (opened_with m) words j (alone j small) no_slots old.history z.told.history is.is_open rebuilt
        (synced_alone j small old.history z.told.history called) (is_done j small) chunks called
      where
        small : j < 32
        small = let limit = is.is_open.array.member.array.limits.devices in let below = rebuilt.below in omega (arith, limit, below)

        called : Calls old.history z.told.history j (Sync reply.Done)
        called = subst (λ (r : Reply). Calls old.history z.told.history j (Sync r)) done (syncs.synced honest)
