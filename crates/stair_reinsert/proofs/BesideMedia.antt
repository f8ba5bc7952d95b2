-- What the media of a slot hold where calls wrote some of its sectors alone: in all others what they held, or damage, wherever they lie.
use Rattle.std.proofs.Common.{◌≡◌, ℕ, List, refl, sym, ◌∙◌, subst, ◌⊎◌, inl, inr, None, Option, Some, slice_get, ◌==◌, [], ap}
use Rattle.std.specs.Prelude.{⊤, if◌then◌else◌}
use Rattle.std.proofs.lemmas.Bool.{cases_Bool, cases_eq, cond-false, cond-true, eq-eqb, ne_eqb}
use Rattle.stair_rack.specs.Answers.{Ran}
use Rattle.stair_rack.specs.Crash.{CrashMayLeave, SlotMayLeave}
use Rattle.stair_rack.specs.History.{Happening, SlotCall, Attach, Sectors, Read, Write, Sync, SlotState, after_call, slot_state, with_sector}
use Rattle.stair_rack.specs.Media.{Image, Medium, SlotImage, has_sector}
use Rattle.stair_rack.specs.Sector.{Cell, Damaged, Good, MayLeave, Sector, content, wrote}
use Rattle.stair_rack.specs.declared.rack.Reply.TheVariants as reply
use Rattle.stair_rack.proofs.CrashLemmas.{content_left}
use Rattle.stair_rack.proofs.StepLemmas.{Keeps, kept}
use Rattle.stair_state.specs.Degraded.{AreDamagedCopies}
use Rattle.stair_state.specs.Reassembly.{InSlot, IsMediumOf, Location, Outside, IsReassembledSlot, Unwritten, Empty, OneOf}
use Rattle.stair_state.proofs.FormLemmas.{good_before, good_whole}
use Rattle.stair_state.proofs.OutsideLemmas.{look_left, slot_now, slot_now_left}
use Rattle.stair_reinsert.specs.Following.{SurvivesDamage, name_of}
use Rattle.stair_reinsert.proofs.NameLemmas.{named_call_cases}
use Rattle.stair_reinsert.proofs.WhereverLemmas.{Holds, act_holds, call_removed}

-- calls that write none of slot j's sectors but these
abbrev pub WritesWithin : ℕ → (ℕ → Type 0) → ℕ → SlotCall → Type 0
WritesWithin j W i (Attach answer) = ⊤
WritesWithin j W i (Sectors size) = ⊤
WritesWithin j W i (Read k answer) = ⊤
WritesWithin j W i (Write k bytes answer) = i ≡ j → W k
WritesWithin j W i (Sync answer) = ⊤

-- But for these sectors the cells are those of the slot's medium of this name as it was at `old`, or damaged; or none can be read.
pub data HasCellsBut (old : List Happening) (j : ℕ) (W : ℕ → Type 0) (name : Location) (size : ℕ) (cell : ℕ → Cell) : Type 0 where
  CellsOf : (was : SlotImage) (place : Location) (medium : Medium) → SlotMayLeave (slot_state old j) was → IsMediumOf was place medium
      → name_of old j place ≡ name → medium.size ≡ size → ((k : ℕ) → ¬ W k → (cell k ≡ medium.cell k) ⊎ (cell k ≡ Damaged))
      → HasCellsBut old j W name size cell
  NoCells : ((k : ℕ) → ¬ W k → cell k ≡ Damaged) → HasCellsBut old j W name size cell

pub copied_again : {was is : ℕ → Cell} {k : ℕ} {first : Cell} → AreDamagedCopies was is → (was k ≡ first) ⊎ (was k ≡ Damaged)
    → (is k ≡ first) ⊎ (is k ≡ Damaged)
copied_again {k = k} copies before =
    elim (copies k) [
      | inr harmed ↦ inr harmed
      | inl same ↦ elim before [ inl own ↦ inl (same ∙ own) | inr harmed ↦ inr (same ∙ harmed) ]
    ]

module _ (old : List Happening) (j : ℕ) (W : ℕ → Type 0) (name : Location) where
  pub cells_survive : (size : ℕ) → SurvivesDamage (HasCellsBut old j W name size)
  cells_survive size = record { harmed = harmed; blank = λ cell all. NoCells (λ k kept. all k) }
    where
      harmed : (was is : ℕ → Cell) → AreDamagedCopies was is → HasCellsBut old j W name size was → HasCellsBut old j W name size is
      harmed was is copies (CellsOf first place medium left at named sized cells) =
          CellsOf first place medium left at named sized (λ k kept. copied_again {was = was} {is = is} copies (cells k kept))
      harmed was is copies (NoCells all) =
          NoCells (λ k kept. elim (copies k) [ inl same ↦ same ∙ all k kept | inr bad ↦ bad ])

  abbrev pub HoldsCells : SlotState → (Location → Location) → Type 0
  HoldsCells = Holds j name (HasCellsBut old j W name) cells_survive

  -- what holds of these cells holds where others are the same but for those sectors
  cells_over : (size : ℕ) (was is : ℕ → Cell) → ((k : ℕ) → ¬ W k → is k ≡ was k) → HasCellsBut old j W name size was → HasCellsBut old j W name size is
  cells_over size was is same (CellsOf first place medium left at named sized cells) =
      CellsOf first place medium left at named sized
      (λ k kept. elim (cells k kept) [ inl own ↦ inl (same k kept ∙ own) | inr harmed ↦ inr (same k kept ∙ harmed) ])
  cells_over size was is same (NoCells all) = NoCells (λ k kept. same k kept ∙ all k kept)

  -- A WRITE of one of them

  module _ (b : SlotState) (k : ℕ) (bytes : List ℕ) (image : SlotImage) (left : SlotMayLeave (with_sector k (wrote bytes (b.sector k)) b) image) where
    -- the slot as it was before it
    abbrev unwritten : SlotImage
    unwritten = record { size = image.size; cell = λ l. if l == k then content (b.sector l) else image.cell l; removed = image.removed }

    other_cell : (l : ℕ) → ¬ (l ≡ k) → unwritten.cell l ≡ image.cell l
    other_cell l other = cond-false (l == k) (content (b.sector l)) (image.cell l) (ne_eqb l k other)

    unwritten_left : SlotMayLeave b unwritten
    unwritten_left = record {
      size = left.size;
      each = λ l.
          elim (cases_eq l k) [
            | inl same ↦
                subst (MayLeave (b.sector l)) (sym (cond-true (l == k) (content (b.sector l)) (image.cell l) (eq-eqb l k same)))
                (content_left (b.sector l))
            | inr other ↦
                subst (MayLeave (b.sector l)) (sym (cond-false (l == k) (content (b.sector l)) (image.cell l) (ne_eqb l k other)))
                (subst (λ (s : Sector). MayLeave s (image.cell l))
                (cond-false (l == k) (wrote bytes (b.sector k)) (b.sector l) (ne_eqb l k other)) (left.each l))
          ];
      removed = left.removed;
    }

  -- CALLS

  call_cells : (b : SlotState) (names : Location → Location) (c : SlotCall) → WritesWithin j W j c → HoldsCells b names → HoldsCells (after_call c b) names
  call_cells b names c may holds = record {
    inside = λ named image left size has. by c may named image left size has;
    outside = λ i m named at. holds.outside i m named (subst (λ xs. slice_get xs i ≡ Some m) (call_removed c b) at);
  }
    where
      by : (d : SlotCall) → WritesWithin j W j d → names InSlot ≡ name → (image : SlotImage) → SlotMayLeave (after_call d b) image → (size : ℕ)
          → image.size ≡ Some size → HasCellsBut old j W name size image.cell
      by (Attach answer) may named image left size has = holds.inside named image (look_left b j (Attach answer) tt image left) size has
      by (Sectors count) may named image left size has = holds.inside named image left size has
      by (Read k answer) may named image left size has = holds.inside named image left size has
      by (Write k bytes reply.Done) may named image left size has =
          cells_over size (unwritten b k bytes image left).cell image.cell
          (λ l kept. sym (other_cell b k bytes image left l (λ same. kept (subst W (sym same) (may refl)))))
          (holds.inside named (unwritten b k bytes image left) (unwritten_left b k bytes image left) size has)
      by (Write k bytes reply.Gone) may named image left size has = holds.inside named image left size has
      by (Sync answer) may named image left size has = holds.inside named image (look_left b j (Sync answer) tt image left) size has

  cells_keep : Keeps (WritesWithin j W) (λ h. HoldsCells (slot_state h j) (name_of h j))
  cells_keep = record {
    act = act_holds j name (HasCellsBut old j W name) cells_survive;
    call = λ h i c may answered holds.
        named_call_cases HoldsCells h i j c
        (λ same. call_cells (slot_state h j) (name_of h j) c (subst (λ (n : ℕ). WritesWithin j W n c) same may) holds) holds;
  }

  cells_first : HoldsCells (slot_state old j) (name_of old j)
  cells_first = record {
    inside = λ named image left size has.
        CellsOf image InSlot (record { size = size; cell = image.cell }) left (has, refl) named refl (λ k kept. inl refl);
    outside = λ i m named at.
        CellsOf (slot_now (slot_state old j)) (Outside i) m (slot_now_left (slot_state old j)) at named refl (λ k kept. inl refl);
  }

-- wherever it lies
pub cells_wherever : (old h : List Happening) (j : ℕ) (W : ℕ → Type 0) → Ran (WritesWithin j W) old h → (image : Image) → CrashMayLeave h image
    → (p : Location) (medium : Medium) → IsMediumOf (image j) p medium → HasCellsBut old j W (name_of h j p) medium.size medium.cell
cells_wherever old h j W ran image left p medium is = by p is refl
  where
    at_end : (name : Location) → HoldsCells old j W name (slot_state h j) (name_of h j)
    at_end name =
        kept {allowed = WritesWithin j W} {P = λ x. HoldsCells old j W name (slot_state x j) (name_of x j)} (cells_keep old j W name) ran
        (cells_first old j W name)

    by : (q : Location) → IsMediumOf (image j) q medium → name_of h j q ≡ name_of h j p → HasCellsBut old j W (name_of h j p) medium.size medium.cell
    by InSlot is named =
        subst (HasCellsBut old j W (name_of h j p) medium.size) is.1 ((at_end (name_of h j p)).inside named (image j) (left j) medium.size is.0)
    by (Outside i) is named =
        (at_end (name_of h j p)).outside i medium named (subst (λ xs. slice_get xs i ≡ Some medium) (left j).removed is)

-- A SLOT that none was written of holds one of the slot's media of before, however it is reassembled.
pub record WasSlot (old : List Happening) (j : ℕ) (to : SlotImage) : Type 0 where
  pub was : SlotImage
  pub may : SlotMayLeave (slot_state old j) was
  pub slot : IsReassembledSlot was to

pub spared_slot : (old h : List Happening) (j : ℕ) → Ran (WritesWithin j (λ k. ⊥)) old h → (image : Image) → CrashMayLeave h image → (to : SlotImage)
    → IsReassembledSlot (image j) to → WasSlot old j to
spared_slot old h j ran image left to (Unwritten size is all) =
    record { was = slot_now (slot_state old j); may = slot_now_left (slot_state old j); slot = Unwritten size is all }
spared_slot old h j ran image left to (Empty none all) =
    record { was = slot_now (slot_state old j); may = slot_now_left (slot_state old j); slot = Empty none all }
spared_slot old h j ran image left to (OneOf p medium is size copies past) = by (cells_wherever old h j (λ k. ⊥) ran image left p medium is)
  where
    by : HasCellsBut old j (λ k. ⊥) (name_of h j p) medium.size medium.cell → WasSlot old j to
    by (CellsOf was place first may at named sized cells) = record {
      was = was;
      may = may;
      slot =
          OneOf place first at (size ∙ ap Some (sym sized))
          (λ k. copied_again {was = medium.cell} {is = to.cell} copies (cells k (λ never. never))) past;
    }
    by (NoCells all) = record {
      was = slot_now (slot_state old j);
      may = slot_now_left (slot_state old j);
      slot = Unwritten medium.size size (λ k. elim (copies k) [ inl same ↦ same ∙ all k (λ never. never) | inr harmed ↦ harmed ]);
    }

-- ITS FIRST SECTORS, of which none was written: the slot as it would be with the cells that its medium had then
pub record HadSlot (old : List Happening) (j : ℕ) (W : ℕ → Type 0) (to : SlotImage) : Type 0 where
  pub was : SlotImage
  pub may : SlotMayLeave (slot_state old j) was
  pub had : SlotImage
  pub slot : IsReassembledSlot was had
  -- what can be read of them could be read then
  pub good : (k : ℕ) (bytes : List ℕ) → ¬ W k → to.cell k ≡ Good bytes → had.cell k ≡ Good bytes

-- a medium with nothing past its end
abbrev pub bounded : Medium → SlotImage
bounded medium = record {
  size = Some medium.size;
  cell = λ k. if has_sector (Some medium.size) k then medium.cell k else Damaged;
  removed = [];
}

pub had_slot : (old h : List Happening) (j : ℕ) (W : ℕ → Type 0) → Ran (WritesWithin j W) old h → (image : Image) → CrashMayLeave h image
    → (to : SlotImage) → IsReassembledSlot (image j) to → HadSlot old j W to
had_slot old h j W ran image left to (Unwritten size is all) = record {
  was = slot_now (slot_state old j);
  may = slot_now_left (slot_state old j);
  had = to;
  slot = Unwritten size is all;
  good = λ k bytes kept good. good;
}
had_slot old h j W ran image left to (Empty none all) = record {
  was = slot_now (slot_state old j);
  may = slot_now_left (slot_state old j);
  had = to;
  slot = Empty none all;
  good = λ k bytes kept good. good;
}
had_slot old h j W ran image left to (OneOf p medium is size copies past) = by (cells_wherever old h j W ran image left p medium is)
  where
    by : HasCellsBut old j W (name_of h j p) medium.size medium.cell → HadSlot old j W to
    by (CellsOf was place first may at named sized cells) = record {
      was = was;
      may = may;
      had = bounded first;
      slot =
          OneOf place first at refl
          (λ k. elim (cases_Bool (has_sector (Some first.size) k)) [
            | inl within ↦ inl (cond-true (has_sector (Some first.size) k) (first.cell k) Damaged within)
            | inr out ↦ inr (cond-false (has_sector (Some first.size) k) (first.cell k) Damaged out)
          ]) (λ k none. cond-false (has_sector (Some first.size) k) (first.cell k) Damaged none);
      good = λ k bytes kept good.
          elim (cases_Bool (has_sector (Some first.size) k)) [
            | inr out ↦
                absurd
                (good_whole good
                (past k (ap (λ (o : Option ℕ). has_sector o k) (size ∙ ap Some (sym sized)) ∙ out)))
            | inl within ↦
                cond-true (has_sector (Some first.size) k) (first.cell k) Damaged within
                ∙ good_before (copied_again {was = medium.cell} {is = to.cell} copies (cells k kept)) good
          ];
    }
    by (NoCells all) = record {
      was = slot_now (slot_state old j);
      may = slot_now_left (slot_state old j);
      had = record { size = None; cell = λ k. Damaged; removed = [] };
      slot = Empty refl (λ k. refl);
      good = λ k bytes kept good.
          absurd
          (good_whole good (elim (copies k) [ inl same ↦ same ∙ all k kept | inr harmed ↦ harmed ]));
    }
