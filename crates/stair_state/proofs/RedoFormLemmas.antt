-- What stands in each stage of a redo, and how one begins.
use Rattle.std.proofs.Common.{◌≡◌, ℕ, ◌<◌, List, [], ◌∷◌, ◌⊎◌, true, inl, inr, refl, sym, subst, ◌∙◌}
use Rattle.std.specs.Prelude.{IsSome, not, ⊤}
use Rattle.std.proofs.lemmas.Bool.{cases_Bool}
use Rattle.stair_model.specs.Device.{Body, Chunk, DevicePart, Gate, Superblock, body_sector, cell_sector, gate_sector, sector_of}
use Rattle.stair_model.specs.Geometry.{Geometry}
use Rattle.stair_model.specs.Stripe.{cell}
use Rattle.stair_rack.specs.Answers.{is_ready}
use Rattle.stair_rack.specs.Crash.{CrashMayLeave, EachImage, image_now}
use Rattle.stair_rack.specs.History.{Happening, Made, slot_state, stopped}
use Rattle.stair_rack.specs.Media.{Image, has_sector}
use Rattle.stair_rack.specs.Offline.{ButForOutside, Here, IsKept, Lost, WasPulled}
use Rattle.stair_rack.specs.Placed.{IsSlot}
use Rattle.stair_rack.specs.Sector.{Damaged, Leaves}
use Rattle.stair_journal.specs.Body.{IsOrDamaged}
use Rattle.stair_journal.specs.Gate.{ReadsClosed}
use Rattle.stair_journal.specs.declared.redo.Redo.{Redo}
use Rattle.stair_rack.proofs.CrashLemmas.{CrashMayLeave-now, MayLeave-base, cell_left, in_each_image, settled_cell}
use Rattle.stair_rack.proofs.OfflineLemmas.{and-true_left}
use Rattle.stair_rack.proofs.TidyLemmas.{IsTidy-made, sectors_within}
use Rattle.stair_state.specs.Blocks.{Codewords}
use Rattle.stair_state.specs.Forms.{CommittedNew, Encodes, HasForm, HasGate, HaveBody, HaveOneRedo, IdleNew, IdleOld, IsIdle, IsInRedo, IsOpen, RepresentsBy}
use Rattle.stair_state.specs.Redoing.{AreHeld, AtRest, Done, InPlace, IsIn, IsLeftIn, IsOpenWithNoOther, IsRedoing, Placing, Redoing, Stage, new_in, old_in}
use Rattle.stair_state.proofs.CommitLemmas.{opened_gate}
use Rattle.stair_state.proofs.StageLemmas.{Concerns, LeftIn, PartHas, PartIn, PartLeaves, SlotIn, is_in, is_left_in, left_in, open_or_lost_alone, part_damage, slot_in}

-- WHAT A CRASH LEAVES

-- a slot whose medium wasn't pulled is left in the stage
pub slot_left : (a : Redoing) (stage : Stage) (start h : List Happening) (image : Image) (j : ℕ) → CrashMayLeave h image
    → ¬ WasPulled start h j → SlotIn a stage start h j → LeftIn a stage image j
slot_left a stage start h image j left stays is part concerns =
    elim (cell_left {Q = PartHas a stage j part} {Base = PartHas a stage j part} h image (slot_state start j).pulls j
    (sector_of a.geometry part) (part_damage a stage j part) left (is.each part concerns)) [
      | inl pulled ↦ absurd (stays pulled)
      | inr has ↦ has
    ]

-- a slot that is so left in each image is in the stage
pub slot_started : (a : Redoing) (stage : Stage) (h : List Happening) (j : ℕ) → IsSome (slot_state h j).size
    → ((image : Image) → CrashMayLeave h image → LeftIn a stage image j) → SlotIn a stage h h j
slot_started a stage h j some each = record { each = λ part concerns. Here refl some (inr (leaves part concerns)) }
  where
    leaves : (part : DevicePart) → Concerns a j part → PartLeaves a stage j part ((slot_state h j).sector (sector_of a.geometry part))
    leaves part concerns =
        let sector = (slot_state h j).sector (sector_of a.geometry part) in
        let every =
        in_each_image h j (sector_of a.geometry part) (PartHas a stage j part) (λ image left. each image left part concerns) in
        record { each = every; base = every sector.base (MayLeave-base sector) }

-- a medium that is left in a stage is in it in a rack that is made over it
pub slot_made : (a : Redoing) (stage : Stage) (image : Image) (j : ℕ) → IsSome (image j).size → LeftIn a stage image j
    → SlotIn a stage (Made image ∷ []) (Made image ∷ []) j
slot_made a stage image j some left = slot_started a stage h j some still
  where
    h : List Happening
    h = Made image ∷ []

    still : (again : Image) → CrashMayLeave h again → LeftIn a stage again j
    still again may part concerns =
        let k = sector_of a.geometry part in
        elim (cases_Bool (has_sector (image j).size k)) [
          | inl within ↦
              let same = settled_cell h again j k ((image j).cell k) may (sectors_within (image j).size (image j).cell k within) in
              subst (PartHas a stage j part) (sym same) (left part concerns)
          | inr past ↦
              let none = settled_cell h again j k Damaged may ((IsTidy-made image).past_end j k past) in
              subst (PartHas a stage j part) (sym none) (part_damage a stage j part)
        ]

-- a slot that is in a stage has a medium, if it wasn't pulled
slot_some : (a : Redoing) (stage : Stage) (start h : List Happening) (j : ℕ) → ¬ WasPulled start h j → SlotIn a stage start h j
    → IsSome (slot_state h j).size
slot_some a stage start h j stays is =
    elim (is.each Gate tt) [ Here same some holds ↦ some | Lost pulled ↦ absurd (stays pulled) ]

-- ALL LIVE SLOTS

module _ (a : Redoing) (stage : Stage) where
  -- slots with media are in the stage where each image that a crash may leave is
  pub started : (live : ℕ → Type 0) (h : List Happening) → ((j : ℕ) → live j → IsSome (slot_state h j).size)
      → EachImage (IsLeftIn a stage live) h → IsIn a stage live h h
  started live h some each =
      is_in a stage live h h
      (λ j on. slot_started a stage h j (some j on) (λ image left. left_in a stage live image (each image left) j on))

  -- media that are in the stage are so in a rack that is made over them
  pub made : (live : ℕ → Type 0) (image : Image) → ((j : ℕ) → live j → IsSome (image j).size) → IsLeftIn a stage live image
      → IsIn a stage live (Made image ∷ []) (Made image ∷ [])
  made live image some left =
      let h = Made image ∷ [] in
      is_in a stage live h h (λ j on. slot_made a stage image j (some j on) (left_in a stage live image left j on))

  -- some of the live slots, none of which was pulled, and what a crash leaves of them
  module _ (live now : ℕ → Type 0) (start h : List Happening) (image : Image) (is : IsIn a stage live start h)
      (left : CrashMayLeave h image) (among : (j : ℕ) → now j → live j × ¬ WasPulled start h j) where
    among_in : (j : ℕ) → now j → SlotIn a stage start h j
    among_in j on = slot_in a stage live start h is j (among j on).0

    pub crash_leaves : IsLeftIn a stage now image
    crash_leaves = is_left_in a stage now image (λ j on. slot_left a stage start h image j left (among j on).1 (among_in j on))

    -- a rack over it is in the same stage
    pub crashed : IsIn a stage now (Made image ∷ []) (Made image ∷ [])
    crashed =
        made now image (λ j on. subst IsSome (sym (left j).size) (slot_some a stage start h j (among j on).1 (among_in j on))) crash_leaves

-- what reads find of a live slot that is ready
pub ready_left : (a : Redoing) (stage : Stage) (live : ℕ → Type 0) (start h : List Happening) (j : ℕ) → AreHeld a.geometry live start h
    → IsIn a stage live start h → live j → is_ready h j ≡ true → (¬ WasPulled start h j) × IsLeftIn a stage (IsSlot j) (image_now h)
ready_left a stage live start h j held is on ready =
    let b = slot_state h j in
    let stays = held.same j on (and-true_left b.attached (not (stopped h)) ready) in
    let this : (i : ℕ) → i ≡ j → live i × ¬ WasPulled start h i =
    λ i same. subst (λ (x : ℕ). live x × ¬ WasPulled start h x) (sym same) (on, stays) in
    (stays, crash_leaves a stage live (IsSlot j) start h (image_now h) is (CrashMayLeave-now h) this)

-- THE FORM

module _ (a : Redoing) (redoing : IsRedoing a) (live : ℕ → Type 0) (image : Image) where
  -- CLOSED GATES

  idle_closed : (words : Codewords) → Encodes a.geometry words live image
      → ((j : ℕ) → live j → ReadsClosed a.geometry ((image j).cell gate_sector)) → IsIdle a.geometry words live image
  idle_closed words encodes shut = record { encodes = encodes; body = λ j other on opened. absurd (shut j on other opened) }

  one_closed : ((j : ℕ) → live j → ReadsClosed a.geometry ((image j).cell gate_sector)) → HaveOneRedo a.geometry live image
  one_closed shut i j x y on also first second = absurd (shut i on x first)

  -- GATES THAT MAY BE OPEN WITH THIS REDO ALONE

  one_alone : ((j : ℕ) → live j → IsOpenWithNoOther a ((image j).cell gate_sector)) → HaveOneRedo a.geometry live image
  one_alone alone i j x y on also first second = alone i on x first ∙ sym (alone j also y second)

  body_alone : HaveBody a.geometry a.redo a.new live image → ((j : ℕ) → live j → IsOpenWithNoOther a ((image j).cell gate_sector))
      → (j : ℕ) (other : Redo) → live j → IsOpen a.geometry image j other → HaveBody a.geometry other a.new live image
  body_alone body alone j other on opened =
      subst (λ (redo : Redo). HaveBody a.geometry redo a.new live image) (sym (alone j on other opened)) body

  all_alone : ((j : ℕ) → live j → IsOpenWithNoOther a ((image j).cell gate_sector)) → (j : ℕ) (other : Redo) → live j
      → IsOpen a.geometry image j other → (t i k : ℕ) → t < a.geometry.stripes → i < a.geometry.r → k < a.geometry.n
      → IsInRedo other t i k ⊎ (cell (a.new t) i k ≡ cell (a.old t) i k)
  all_alone alone j other on opened t i k t_in i_in k_in =
      subst (λ (redo : Redo). IsInRedo redo t i k ⊎ (cell (a.new t) i k ≡ cell (a.old t) i k)) (sym (alone j on other opened))
      (redoing.same t i k t_in i_in k_in)

  -- THE STAGES

  at_rest : IsLeftIn a AtRest live image → RepresentsBy a.geometry a.old a.old live image
  at_rest left = record {
    one_redo = one_closed left.gates;
    form =
        IdleOld (idle_closed a.old (λ t i j t_in i_in j_in on. left.chunks j t i on j_in t_in i_in) left.gates);
  }

  uncommitted : IsLeftIn a Stage.Uncommitted live image → RepresentsBy a.geometry a.old a.new live image
  uncommitted left = record {
    one_redo = one_alone left.gates;
    form =
        HasForm.Uncommitted (record {
          encodes = λ t i j t_in i_in j_in on. left.chunks j t i on j_in t_in i_in;
          body = body_alone (λ j on i c has. left.bodies j i c on has) left.gates;
          all = all_alone left.gates;
        });
  }

  placing : HasGate live image → IsLeftIn a Placing live image → RepresentsBy a.geometry a.new a.new live image
  placing gate left = record {
    one_redo = one_alone (λ j on. open_or_lost_alone a redoing ((image j).cell gate_sector) (left.gates j on));
    form =
        CommittedNew (record {
          redo = a.redo;
          first = gate.slot;
          first_live = gate.among;
          first_open = opened_gate a.geometry image live a.redo gate.slot (left.gates gate.slot gate.among) gate.kept;
          gates = left.gates;
          body = λ j on i c has. left.bodies j i c on has;
          encodes = λ t i j t_in i_in j_in on. left.chunks j t i on j_in t_in i_in;
        });
  }

  in_place : IsLeftIn a InPlace live image → RepresentsBy a.geometry a.new a.new live image
  in_place left = record {
    one_redo = one_alone left.gates;
    form =
        IdleNew (record {
          encodes = λ t i j t_in i_in j_in on. left.chunks j t i on j_in t_in i_in;
          body = body_alone (λ j on i c has. left.bodies j i c on has) left.gates;
        });
  }

  done : IsLeftIn a Done live image → RepresentsBy a.geometry a.new a.new live image
  done left = record {
    one_redo = one_closed left.gates;
    form =
        IdleNew (idle_closed a.new (λ t i j t_in i_in j_in on. left.chunks j t i on j_in t_in i_in) left.gates);
  }

  -- what is left of the live slots in a stage represents the stage's stripes; while cells are being placed one of the gates
  -- mustn't be lost
  pub stands : (stage : Stage) → ((stage ≡ Placing) → HasGate live image) → IsLeftIn a stage live image
      → RepresentsBy a.geometry (old_in a stage) (new_in a stage) live image
  stands AtRest gate left = at_rest left
  stands Stage.Uncommitted gate left = uncommitted left
  stands Placing gate left = placing (gate refl) left
  stands InPlace gate left = in_place left
  stands Done gate left = done left

-- FROM ONE REDO TO THE NEXT

-- a slot with closed gates that has these stripes is at rest for each redo that leads on from them
pub slot_again : (a b : Redoing) (start h : List Happening) (j : ℕ) → b.geometry ≡ a.geometry → b.old ≡ a.new
    → SlotIn a Done start h j → SlotIn b AtRest start h j
slot_again a b start h j same words is = record { each = by_part }
  where
    gate : ButForOutside start h j gate_sector (Leaves (ReadsClosed a.geometry) (ReadsClosed a.geometry))
    gate = is.each Gate tt

    -- of a body nothing is said
    body : (k : ℕ) → IsKept (slot_state start j).pulls gate_sector (Leaves (ReadsClosed a.geometry) (ReadsClosed a.geometry)) (slot_state h j)
        → ButForOutside start h j k (Leaves (λ sector. ⊤) (λ sector. ⊤))
    body k (Here at some holds) = Here at some (inr (record { each = λ sector left. tt; base = tt }))
    body k (Lost less) = Lost less

    -- row i of its chunk of stripe t holds that cell of these stripes
    ChunkIs : (t i : ℕ) → Geometry → Codewords → Type 0
    ChunkIs t i g words =
        ButForOutside start h j (cell_sector g t i) (Leaves (IsOrDamaged (cell (words t) i j)) (IsOrDamaged (cell (words t) i j)))

    chunk : (t i : ℕ) → Concerns b j (Chunk t i) → ChunkIs t i b.geometry b.old
    chunk t i within =
        let inside = subst (λ (g : Geometry). (j < g.n) × (t < g.stripes) × (i < g.r)) same within in
        subst (λ (g : Geometry). ChunkIs t i g b.old) (sym same)
        (subst (ChunkIs t i a.geometry) (sym words) (is.each (Chunk t i) inside))

    by_part : (part : DevicePart) → Concerns b j part → PartIn b AtRest start j part h
    by_part (Superblock place) never = absurd never
    by_part Gate concerned = subst (λ (g : Geometry). ButForOutside start h j gate_sector (Leaves (ReadsClosed g) (ReadsClosed g))) (sym same) gate
    by_part (Body i c) has = body (body_sector b.geometry i c) gate
    by_part (Chunk t i) within = chunk t i within
