-- What keeps the chunks of the slot that is being rebuilt, and how it comes to be at rest.
use Rattle.std.proofs.Common.{◌≡◌, ℕ, ◌+◌, ◌-◌, ◌<◌, ◌≤◌, List, ◌⊎◌, inl, inr, refl, sym, ap, ◌∙◌, subst, arith, Some, None}
use Rattle.std.specs.Prelude.{IsTrue, Option, ⊤}
use Rattle.std.proofs.lemmas.Bool.{cases_Bool, cases_lt}
use Rattle.stair_model.specs.CellSet.{HasCell}
use Rattle.stair_model.specs.Device.{Chunk, body_sector, cell_sector, gate_sector}
use Rattle.stair_model.specs.Geometry.{Geometry, IsWithinLimits}
use Rattle.stair_model.specs.Slots.{Slots}
use Rattle.stair_model.specs.Stripe.{Stripe, cell}
use Rattle.stair_model.proofs.DeviceLaws.{last_sector, part_once}
use Rattle.stair_rack.specs.Answers.{IsBesideAttach, IsHistory, Ran, any_call}
use Rattle.stair_rack.specs.History.{Happening, SlotCall, Sync, Write, slot_state}
use Rattle.stair_rack.specs.Media.{has_sector}
use Rattle.stair_rack.specs.Offline.{ButForOutside, Here, IsAttached, IsKept, Lost, WasPulled}
use Rattle.stair_rack.specs.Passes.{IsDone, IsOn, Settled}
use Rattle.stair_rack.specs.Placed.{IsSlot, IsSyncOf, IsWriteOf, Placed}
use Rattle.stair_rack.specs.Sector.{Cell, Good, Damaged, Leaves, Sector, content, damaged, settled, synced}
use Rattle.stair_rack.specs.Writing.{IsOnSlot, Writing}
use Rattle.stair_rack.specs.declared.rack.Reply.TheVariants as reply
use Rattle.stair_rack.proofs.CrashLemmas.{Leaves-settled, Leaves-synced}
use Rattle.stair_rack.proofs.KeptLemmas.{IsKept-mapped, IsKept-onward, IsKept-since, keeps_sector}
use Rattle.stair_rack.proofs.OfflineLemmas.{pulls_on}
use Rattle.stair_rack.proofs.MomentLemmas.{ran_after, ran_before}
use Rattle.stair_rack.proofs.KeepingLemmas.{phase_ran}
use Rattle.stair_rack.proofs.WritingLemmas.{Reach, beside_writes, reach_on}
use Rattle.stair_rack.proofs.StandingLemmas.{has_lower}
use Rattle.stair_rack.proofs.StepLemmas.{kept}
use Rattle.stair_rack.proofs.TidyLemmas.{history_on, history_tidy}
use Rattle.stair_journal.specs.Body.{Harmed, Holds, IsOrDamaged}
use Rattle.stair_journal.specs.Gate.{ReadsClosed}
use Rattle.stair_journal.specs.declared.redo.Redo.{Redo}
use Rattle.stair_stripes.specs.Placing.{cell_writes}
use Rattle.stair_stripes.proofs.PlacingLemmas.{cell_writes_cell, cell_writes_is}
use Rattle.stair_state.specs.Blocks.{Codewords}
use Rattle.stair_state.specs.Forms.{IsInRedo}
use Rattle.stair_state.specs.Recovering.{IsShut}
use Rattle.stair_state.specs.Redoing.{AtRest, IsIn, IsRedoing, Placing, Redoing, writes_in}
use Rattle.stair_state.proofs.StageLemmas.{in_redo_known}
use Rattle.stair_invariant.specs.Session.{ServesSlot}
use Rattle.stair_invariant.specs.Rebuilding.{IsRebuiltTo}
use Rattle.stair_invariant.specs.Chunks.{AreOfChunk, IsBesideChunks}
use Rattle.stair_invariant.proofs.RebaseLemmas.{stage_now}

-- WHAT READS FIND

-- what reads find of a sector stays, where it isn't written
pub reads_on : {allowed : ℕ → SlotCall → Type 0} {old new : List Happening} (P : Cell → Type 0) (pulls j k : ℕ)
    → ((bytes : List ℕ) → ¬ allowed j (Write k bytes reply.Done)) → Ran allowed old new
    → IsKept pulls k (λ s. P (content s)) (slot_state old j) → IsKept pulls k (λ s. P (content s)) (slot_state new j)
reads_on {allowed} P pulls j k spares ran start =
    kept {allowed = allowed} {P = λ h. IsKept pulls k (λ s. P (content s)) (slot_state h j)}
    (keeps_sector {allowed = allowed} {j = j} {k = k} {P = λ s. P (content s)} pulls
    (record { write = λ bytes s may before. absurd (spares bytes may); sync = λ s may holds. holds })) ran start

-- nothing is rebuilt at first
pub rebuilt_none : (g : Geometry) (words : Codewords) (j : ℕ) (start h : List Happening) → IsRebuiltTo g words j 0 start h
rebuilt_none g words j start h =
    record { chunks = λ t i none stripe row. absurd (omega (arith, none)); reach = λ t i none stripe row. absurd (omega (arith, none)) }

-- calls that write none of its chunks keep them
pub rebuilt_on : {allowed : ℕ → SlotCall → Type 0} {old new : List Happening} (g : Geometry) (words : Codewords) (j next : ℕ)
    (start : List Happening) → ((t i : ℕ) (bytes : List ℕ) → t < next → i < g.r → ¬ allowed j (Write (cell_sector g t i) bytes reply.Done))
    → ((c : SlotCall) → allowed j c → IsBesideAttach c)
    → Ran allowed old new → IsRebuiltTo g words j next start old → IsRebuiltTo g words j next start new
rebuilt_on {allowed} g words j next start spares beside ran is = record {
  chunks = λ t i done stripe row.
      reads_on {allowed = allowed} (IsOrDamaged (cell (words t) i j)) (slot_state start j).pulls j (cell_sector g t i)
      (λ bytes. spares t i bytes done row) ran (is.chunks t i done stripe row);
  reach = λ t i done stripe row. reach_on {allowed = allowed} j (cell_sector g t i) beside ran (is.reach t i done stripe row);
}

pub rebuilt_beside : (g : Geometry) (words : Codewords) (j next : ℕ) (start old new : List Happening) → IsRebuiltTo g words j next start old
    → Ran (IsBesideChunks g j next) old new → IsRebuiltTo g words j next start new
rebuilt_beside g words j next start old new is ran =
    rebuilt_on {allowed = IsBesideChunks g j next} g words j next start
    (λ t i bytes done row may. (may refl).1 t i bytes reply.Done done row refl) (λ c may. (may refl).0) ran is

-- A REDO WHOSE CELLS ARE PLACED ON IT TOO

module _ (a : Redoing) (redoing : IsRedoing a) (j next : ℕ) (below : j < a.geometry.n) (start old new : List Happening) (to gone : ℕ → Type 0)
    (phase : Placed (writes_in a Placing) to gone old new) (on : to j) (fine : ¬ gone j)
    (is : IsRebuiltTo a.geometry a.old j next start old) where
  abbrev sector_at : ℕ → ℕ → ℕ
  sector_at t i = cell_sector a.geometry t i

  abbrev Was : ℕ → ℕ → Sector → Type 0
  Was t i s = IsOrDamaged (cell (a.old t) i j) (content s)

  abbrev Is : ℕ → ℕ → Sector → Type 0
  Is t i s = IsOrDamaged (cell (a.new t) i j) (content s)

  rises : (slot_state old j).pulls ≤ (slot_state new j).pulls
  rises = let ran = phase_ran phase in pulls_on {allowed = any_call} j ran

  damaged_is : (t i : ℕ) (s : Sector) → s ≡ damaged → Is t i s
  damaged_is t i s same = Harmed (ap content same)

  -- one of the redo's cells has its new bytes
  placed_cell : (t i : ℕ) → t < next → t < a.geometry.stripes → i < a.geometry.r → IsInRedo a.redo t i j
      → ButForOutside start new j (sector_at t i) (Is t i)
  placed_cell t i done stripe row has =
      IsKept-onward {P = Was t i} {Q = λ s. s ≡ settled (Good (cell (a.new t) i j))} {R = Is t i} rises (is.chunks t i done stripe row)
      (λ some. phase.done j (sector_at t i) (cell (a.new t) i j) on fine written) (λ s before now. inr (Holds (ap content now)))
    where
      written : writes_in a Placing j (sector_at t i) ≡ Some (cell (a.new t) i j)
      written =
          subst (λ (x : ℕ). cell_writes a.geometry a.redo (a.new a.redo.stripe) j (cell_sector a.geometry x i) ≡ Some (cell (a.new x) i j))
          (sym has.stripe) (cell_writes_cell a.geometry a.redo (a.new a.redo.stripe) j i has.has)

  -- any other is settled as it read
  other_cell : (t i : ℕ) → t < next → t < a.geometry.stripes → i < a.geometry.r → ¬ IsInRedo a.redo t i j
      → ButForOutside start new j (sector_at t i) (Is t i)
  other_cell t i done stripe row beside =
      IsKept-onward {P = Was t i} {Q = λ s. s ≡ synced ((slot_state old j).sector (sector_at t i))} {R = Is t i} rises
      (is.chunks t i done stripe row) (λ some. phase.rest j (sector_at t i) some on fine unwritten)
      (λ s before now. inr (subst (Is t i) (sym now) (still ((slot_state old j).sector (sector_at t i)) before)))
    where
      same : cell (a.new t) i j ≡ cell (a.old t) i j
      same = elim (redoing.same t i j stripe row below) [ inl has ↦ absurd (beside has) | inr is ↦ is ]

      still : (s : Sector) → (s ≡ damaged) ⊎ Was t i s → Is t i (synced s)
      still s (inl harmed) = Harmed (ap content harmed)
      still s (inr holds) = subst (λ (bytes : List ℕ). IsOrDamaged bytes (content s)) (sym same) holds

      chunk_is : (row' : ℕ) → Chunk t i ≡ Chunk a.redo.stripe row' → HasCell a.redo.cells row' j → IsInRedo a.redo t i j
      chunk_is row' part has =
          let at : t ≡ a.redo.stripe = cc in
          let of : row' ≡ i = cc in
          record { stripe = at; has = subst (λ (x : ℕ). HasCell a.redo.cells x j) of has }

      none_or : (o : Option (List ℕ)) → writes_in a Placing j (sector_at t i) ≡ o → writes_in a Placing j (sector_at t i) ≡ None
      none_or None at = at
      none_or (Some bytes) at =
          let w = cell_writes_is a.geometry a.redo (a.new a.redo.stripe) j (sector_at t i) bytes at in
          let inside = redoing.formed.inside w.row j w.has in
          let part = part_once a.geometry (Chunk t i) (Chunk a.redo.stripe w.row) (stripe, row) (redoing.formed.stripe_in, inside.0) w.at in
          absurd (beside (chunk_is w.row part w.has))

      unwritten : writes_in a Placing j (sector_at t i) ≡ None
      unwritten = none_or (writes_in a Placing j (sector_at t i)) refl

  -- its chunks are those of the new stripes
  pub rebuilt_placed : IsRebuiltTo a.geometry a.new j next start new
  rebuilt_placed = record {
    chunks = λ t i done stripe row.
        elim (in_redo_known a.redo t i j) [
          | inl has ↦ placed_cell t i done stripe row has
          | inr beside ↦ other_cell t i done stripe row beside
        ];
    reach = λ t i done stripe row.
        reach_on {allowed = IsSyncOf to} j (sector_at t i) (λ c may. subst IsBesideAttach (sym may.is) tt) phase.syncs
        (reach_on {allowed = IsWriteOf (writes_in a Placing) to} j (sector_at t i) (beside_writes (writes_in a Placing) to j) phase.writes
        (is.reach t i done stripe row));
  }

-- ONE CHUNK MORE

module _ (g : Geometry) (words : Codewords) (redo : Redo) (stripe : Stripe) (j next : ℕ) (start old new : List Happening) (gone : ℕ → Type 0)
    (of_chunk : AreOfChunk g j redo.cells) (at : redo.stripe ≡ next) (small : next < g.stripes)
    (right : (i : ℕ) → i < g.r → cell stripe i j ≡ cell (words next) i j)
    (writing : Writing (cell_writes g redo stripe) (IsSlot j) gone (IsOnSlot j) old new) (fine : ¬ gone j) (since : Ran any_call start old)
    (history : IsHistory old)
    (is : IsRebuiltTo g words j next start old) where
  -- the chunk of the stripe is written
  new_chunk : (i : ℕ) → i < g.r → ButForOutside start new j (cell_sector g next i) (λ s. IsOrDamaged (cell (words next) i j) (content s))
  new_chunk i row =
      let has = (of_chunk i j).1 (row, refl) in
      let written : cell_writes g redo stripe j (cell_sector g next i) ≡ Some (cell stripe i j) =
      subst (λ (x : ℕ). cell_writes g redo stripe j (cell_sector g x i) ≡ Some (cell stripe i j)) at (cell_writes_cell g redo stripe j i has) in
      IsKept-mapped (λ s now. Holds (now ∙ ap (λ (bytes : List ℕ). Good bytes) (right i row)))
      (IsKept-since (pulls_on {allowed = any_call} j since) (writing.done j (cell_sector g next i) (cell stripe i j) refl fine written))

  -- those before it aren't
  old_chunk : (t i : ℕ) → t < next → t < g.stripes → i < g.r → ButForOutside start new j (cell_sector g t i) (λ s. IsOrDamaged (cell (words t) i j) (content s))
  old_chunk t i done inside row =
      reads_on {allowed = IsWriteOf (cell_writes g redo stripe) (IsSlot j)} (IsOrDamaged (cell (words t) i j)) (slot_state start j).pulls j
      (cell_sector g t i) spares writing.ran (is.chunks t i done inside row)
    where
      spares : (bytes : List ℕ) → ¬ IsWriteOf (cell_writes g redo stripe) (IsSlot j) j (Write (cell_sector g t i) bytes reply.Done)
      spares bytes w =
          let same : cell_sector g t i ≡ w.sector = cc in
          let c = cell_writes_is g redo stripe j w.sector w.bytes w.is_one in
          let inside_row = (of_chunk c.row j).0 c.has in
          let part = part_once g (Chunk t i) (Chunk redo.stripe c.row) (inside, row) (subst (λ (x : ℕ). x < g.stripes) (sym at) small, inside_row.0) (same ∙ c.at) in
          let never : t ≡ redo.stripe = cc in
          omega (arith, never, at, done)

  -- the medium has each of its sectors
  new_reach : (i : ℕ) → i < g.r → Reach (cell_sector g next i) (slot_state new j)
  new_reach i row =
      let has = (of_chunk i j).1 (row, refl) in
      let written : cell_writes g redo stripe j (cell_sector g next i) ≡ Some (cell stripe i j) =
      subst (λ (x : ℕ). cell_writes g redo stripe j (cell_sector g x i) ≡ Some (cell stripe i j)) at (cell_writes_cell g redo stripe j i has) in
      let landed = writing.landed j (cell_sector g next i) (cell stripe i j) refl fine written in
      reach_on {allowed = IsWriteOf (cell_writes g redo stripe) (IsSlot j)} j (cell_sector g next i)
      (beside_writes (cell_writes g redo stripe) (IsSlot j) j) (ran_after {allowed = IsWriteOf (cell_writes g redo stripe) (IsSlot j)} writing.ran landed.is_one)
      (λ attached. there landed.moment (history_on {allowed = IsWriteOf (cell_writes g redo stripe) (IsSlot j)} history (ran_before {allowed = IsWriteOf (cell_writes g redo stripe) (IsSlot j)} writing.ran landed.is_one)) landed.holds)
    where
      there : (h : List Happening) → IsHistory h → content ((slot_state h j).sector (cell_sector g next i)) ≡ Good (cell stripe i j)
          → IsTrue (has_sector (slot_state h j).size (cell_sector g next i))
      there h is_history reads =
          elim (cases_Bool (has_sector (slot_state h j).size (cell_sector g next i))) [
            | inl is ↦ is
            | inr past ↦
                let none : content ((slot_state h j).sector (cell_sector g next i)) ≡ Damaged =
                ap content ((history_tidy is_history).past_end j (cell_sector g next i) past) in
                let never : Damaged ≡ Good (cell stripe i j) = sym none ∙ reads in
                absurd (cc)
          ]

  pub rebuilt_more : IsRebuiltTo g words j (next + 1) start new
  rebuilt_more = record {
    reach = λ t i done inside row.
        elim (cases_lt t next) [
          | inl before ↦
              reach_on {allowed = IsWriteOf (cell_writes g redo stripe) (IsSlot j)} j (cell_sector g t i)
              (beside_writes (cell_writes g redo stripe) (IsSlot j) j) writing.ran (is.reach t i before inside row)
          | inr not ↦
              let here : t ≡ next = omega arith in
              subst (λ (x : ℕ). Reach (cell_sector g x i) (slot_state new j)) (sym here) (new_reach i row)
        ];
    chunks = λ t i done inside row.
        elim (cases_lt t next) [
          | inl before ↦ old_chunk t i before inside row
          | inr not ↦
              let here : t ≡ next = omega arith in
              subst (λ (x : ℕ). ButForOutside start new j (cell_sector g x i) (λ s. IsOrDamaged (cell (words x) i j) (content s))) (sym here) (new_chunk i row)
        ];
  }

-- AT REST

-- Once all chunks were written and the slot was synced it is at rest.
pub rebuilt_whole : (a : Redoing) (j : ℕ) (to gone : Slots) (start old new : List Happening) → Settled to gone old new → IsDone to gone j
    → IsRebuiltTo a.geometry a.old j a.geometry.stripes start old → IsShut a.geometry start old j → IsIn a AtRest (IsSlot j) start new
rebuilt_whole a j to gone start old new settles done is shut = record {
  gates = λ i on. subst (λ (x : ℕ). ButForOutside start new x gate_sector (Leaves (ReadsClosed a.geometry) (ReadsClosed a.geometry))) (sym on) gate;
  bodies = λ i row c on has. subst (λ (x : ℕ). ButForOutside start new x (body_sector a.geometry row c) (Leaves (λ s. ⊤) (λ s. ⊤))) (sym on) (body row c);
  chunks = λ i t row on below stripe inside.
      subst
      (λ (x : ℕ). ButForOutside start new x (cell_sector a.geometry t row)
      (Leaves (IsOrDamaged (cell (a.old t) row x)) (IsOrDamaged (cell (a.old t) row x)))) (sym on) (chunk t row stripe inside);
}
  where
    rises : (slot_state old j).pulls ≤ (slot_state new j).pulls
    rises = pulls_on {allowed = IsOn to Sync} j settles.ran

    gate : ButForOutside start new j gate_sector (Leaves (ReadsClosed a.geometry) (ReadsClosed a.geometry))
    gate =
        IsKept-onward {P = Leaves (ReadsClosed a.geometry) (ReadsClosed a.geometry)} {Q = λ s. s ≡ synced ((slot_state old j).sector gate_sector)}
        {R = Leaves (ReadsClosed a.geometry) (ReadsClosed a.geometry)} rises shut (λ some. settles.settled j gate_sector done some)
        (λ s before now. gate_after s before now)
      where
        gate_after : (s : Sector) → ((slot_state old j).sector gate_sector ≡ damaged) ⊎ Leaves (ReadsClosed a.geometry) (ReadsClosed a.geometry) ((slot_state old j).sector gate_sector)
            → s ≡ synced ((slot_state old j).sector gate_sector) → (s ≡ damaged) ⊎ Leaves (ReadsClosed a.geometry) (ReadsClosed a.geometry) s
        gate_after s (inl harmed) now = inl (now ∙ ap synced harmed)
        gate_after s (inr leaves) now =
            inr (subst (Leaves (ReadsClosed a.geometry) (ReadsClosed a.geometry)) (sym now) (Leaves-synced (λ c holds. holds) leaves))

    body : (row c : ℕ) → ButForOutside start new j (body_sector a.geometry row c) (Leaves (λ s. ⊤) (λ s. ⊤))
    body row c =
        IsKept-moved gate
      where
        IsKept-moved : ButForOutside start new j gate_sector (Leaves (ReadsClosed a.geometry) (ReadsClosed a.geometry))
            → ButForOutside start new j (body_sector a.geometry row c) (Leaves (λ s. ⊤) (λ s. ⊤))
        IsKept-moved (Here same some which) = Here same some (inr (record { each = λ cell left. tt; base = tt }))
        IsKept-moved (Lost less) = Lost less

    chunk : (t row : ℕ) → t < a.geometry.stripes → row < a.geometry.r
        → ButForOutside start new j (cell_sector a.geometry t row) (Leaves (IsOrDamaged (cell (a.old t) row j)) (IsOrDamaged (cell (a.old t) row j)))
    chunk t row stripe inside =
        IsKept-onward {P = λ s. IsOrDamaged (cell (a.old t) row j) (content s)}
        {Q = λ s. s ≡ synced ((slot_state old j).sector (cell_sector a.geometry t row))}
        {R = Leaves (IsOrDamaged (cell (a.old t) row j)) (IsOrDamaged (cell (a.old t) row j))} rises (is.chunks t row stripe stripe inside)
        (λ some. settles.settled j (cell_sector a.geometry t row) done some)
        (λ s before now. chunk_after s before now)
      where
        Has : Cell → Type 0
        Has c = IsOrDamaged (cell (a.old t) row j) c

        chunk_after : (s : Sector)
            → ((slot_state old j).sector (cell_sector a.geometry t row) ≡ damaged)
            ⊎ IsOrDamaged (cell (a.old t) row j) (content ((slot_state old j).sector (cell_sector a.geometry t row)))
            → s ≡ synced ((slot_state old j).sector (cell_sector a.geometry t row))
            → (s ≡ damaged) ⊎ Leaves (IsOrDamaged (cell (a.old t) row j)) (IsOrDamaged (cell (a.old t) row j)) s
        chunk_after s (inl harmed) now = inl (now ∙ ap synced harmed)
        chunk_after s (inr holds) now =
            inr
            (subst (Leaves (IsOrDamaged (cell (a.old t) row j)) (IsOrDamaged (cell (a.old t) row j))) (sym now)
            (Leaves-settled (content ((slot_state old j).sector (cell_sector a.geometry t row))) holds holds))

-- Where it is attached it serves then.
pub rebuilt_serves : (g : Geometry) (words : Codewords) (j : ℕ) (to gone : Slots) (start old new : List Happening) → IsWithinLimits g
    → Settled to gone old new → IsDone to gone j → IsRebuiltTo g words j g.stripes start old → IsShut g start old j → IsAttached new j
    → ¬ WasPulled start new j → ServesSlot g words new j
rebuilt_serves g words j to gone start old new limits settles done is shut attached stays = record {
  rests = λ redo after.
      let a : Redoing = record { geometry = g; redo = redo; old = words; new = after } in
      stage_now a AtRest (IsSlot j) (IsSlot j) start new (rebuilt_whole a j to gone start old new settles done is shut)
      (λ i on. (on, subst (λ (x : ℕ). ¬ WasPulled start new x) (sym on) stays));
  large = λ k small.
      let last = last_sector g limits in
      has_lower (slot_state new j).size k (cell_sector g (g.stripes - 1) (g.r - 1)) (omega (arith, last, small))
      (reach_on {allowed = IsOn to Sync} j (cell_sector g (g.stripes - 1) (g.r - 1))
      (λ c may. subst IsBesideAttach (sym may.1.1) tt) settles.ran
      (is.reach (g.stripes - 1) (g.r - 1) (omega (arith, some_stripes)) (omega (arith, some_stripes)) (omega (arith, some_rows))) attached);
}
  where
    some_stripes : 1 ≤ g.stripes
    some_stripes = limits.size.0

    some_rows : 1 ≤ g.r
    some_rows = limits.rows.0
