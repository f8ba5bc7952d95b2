-- What a crash may leave of sectors, through acts and calls.
use Rattle.std.proofs.Common.{◌≡◌, ℕ, ◌<◌, List, [], ◌∷◌, ◌++◌, ◌⊎◌, inl, inr, refl, sym, ap, ◌∙◌, subst}
use Rattle.std.specs.Prelude.{⊤, IsTrue, IsSome, ◌==◌, if◌then◌else◌}
use Rattle.std.proofs.lemmas.Bool.{cases_eq, cond-true, cond-false, eq-eqb, ne_eqb}
use Rattle.stair_rack.specs.Sector.{Cell, Good, Damaged, Sector, settled, damaged, newest, content, wrote, synced, torn, LeftOf, MayLeave, Leaves}
use Rattle.stair_rack.specs.Media.{Medium, SlotImage, Image}
use Rattle.stair_rack.specs.History.{SlotCall, Write, Sync, Happening, Made, Stopped, Acted, Called, SlotState, slot_state, stopped}
use Rattle.stair_rack.specs.Crash.{SlotMayLeave, CrashMayLeave, image_now, Settles}
use Rattle.stair_rack.specs.Outside.{IsAct}
use Rattle.stair_rack.specs.Answers.{IsCall, Runs, Ran}
use Rattle.stair_rack.specs.Moments.{AtEveryMoment}
use Rattle.stair_rack.specs.Offline.{IsKept, Here, Lost, ButForOutside, WasPulled}
use Rattle.stair_rack.specs.declared.rack.Reply.TheVariants as reply
use Rattle.stair_rack.proofs.StepLemmas.{slot_after_call, kept, kept_throughout, throughout_kept, throughout_end}
use Rattle.stair_rack.proofs.KeptLemmas.{with_sector_same, SectorKeeps, keeps_sector}
use Rattle.stair_rack.proofs.OfflineLemmas.{keeps_stopped, IsRefused, refused}

-- ONE SECTOR

pub newest_left : (base : Cell) (since : List (List ℕ)) → LeftOf base since (newest base since)
newest_left base [] = refl
newest_left base (bytes ∷ since) = inl refl

base_left : (base : Cell) (since : List (List ℕ)) → LeftOf base since base
base_left base [] = refl
base_left base (bytes ∷ since) = inr (inr (base_left base since))

-- a crash may leave what a read finds, and what lies under the writes
pub content_left : (s : Sector) → MayLeave s (content s)
content_left s = newest_left s.base s.since

pub MayLeave-base : (s : Sector) → MayLeave s s.base
MayLeave-base s = base_left s.base s.since

-- of a settled sector it leaves nothing else
pub settled_left : (cell cell' : Cell) → MayLeave (settled cell) cell' → cell' ≡ cell
settled_left cell cell' left = left

pub synced_left : (s : Sector) (cell : Cell) → MayLeave (synced s) cell → cell ≡ content s
synced_left s cell left = left

-- of a sector that was written besides, the new bytes, a torn cell, or what it left before
pub wrote_left : (bytes : List ℕ) (s : Sector) (cell : Cell) → MayLeave (wrote bytes s) cell
    → (cell ≡ Good bytes) ⊎ (cell ≡ torn s.base) ⊎ MayLeave s cell
wrote_left bytes s cell left = left

pub nothing_unsynced : (s : Sector) → s.since ≡ [] → s ≡ settled s.base
nothing_unsynced s none = ap (λ (since : List (List ℕ)). record { base = s.base; since = since }) none

-- EVERY CELL THAT A CRASH MAY LEAVE

pub Leaves-content : {Q Base : Cell → Type 0} {s : Sector} → Leaves Q Base s → Q (content s)
Leaves-content {s = s} leaves = leaves.each (content s) (content_left s)

pub Leaves-settled : {Q Base : Cell → Type 0} (cell : Cell) → Q cell → Base cell → Leaves Q Base (settled cell)
Leaves-settled {Q} cell holds under = record { each = λ c left. subst Q (sym left) holds; base = under }

pub Leaves-wrote : {Q Base : Cell → Type 0} {s : Sector} (bytes : List ℕ) → Q (Good bytes) → ((cell : Cell) → Base cell → Q (torn cell))
    → Leaves Q Base s → Leaves Q Base (wrote bytes s)
Leaves-wrote {Q} {Base} {s} bytes good cut leaves = record {
  each = λ cell left.
      elim (wrote_left bytes s cell left) [
        | inl is ↦ subst Q (sym is) good
        | inr rest ↦ elim rest [ inl is ↦ subst Q (sym is) (cut s.base leaves.base) | inr before ↦ leaves.each cell before ]
      ];
  base = leaves.base;
}

pub Leaves-synced : {Q Base : Cell → Type 0} {s : Sector} → ((cell : Cell) → Q cell → Base cell) → Leaves Q Base s → Leaves Q Base (synced s)
Leaves-synced {Q} {Base} {s} under leaves =
    let now : Q (content s) = Leaves-content leaves in Leaves-settled (content s) now (under (content s) now)

pub Leaves-mapped : {Q Q' Base Base' : Cell → Type 0} {s : Sector} → ((cell : Cell) → Q cell → Q' cell) → ((cell : Cell) → Base cell → Base' cell)
    → Leaves Q Base s → Leaves Q' Base' s
Leaves-mapped {s = s} within under leaves =
    record { each = λ cell left. within cell (leaves.each cell left); base = under s.base leaves.base }

-- What the outside and these calls of slot j do to its sector k keeps `Leaves Q Base`.
pub record KeepsLeaving (allowed : ℕ → SlotCall → Type 0) (j k : ℕ) (Q Base : Cell → Type 0) : Type 0 where
  pub damage : Q Damaged
  pub under_damage : Base Damaged
  pub write : (bytes : List ℕ) → allowed j (Write k bytes reply.Done) → Q (Good bytes)
  pub cut : (bytes : List ℕ) (cell : Cell) → allowed j (Write k bytes reply.Done) → Base cell → Q (torn cell)
  pub sync : (cell : Cell) → allowed j (Sync reply.Done) → Q cell → Base cell

pub SectorKeeps-leaves : {allowed : ℕ → SlotCall → Type 0} {j k : ℕ} {Q Base : Cell → Type 0} → KeepsLeaving allowed j k Q Base
    → SectorKeeps allowed j k (Leaves Q Base)
SectorKeeps-leaves {allowed} {j} {k} {Q} {Base} keeps = record {
  write = λ bytes s may before. Leaves-wrote bytes (keeps.write bytes may) (λ cell under. keeps.cut bytes cell may under) (whole s before);
  sync = λ s may before. Leaves-synced (λ cell holds. keeps.sync cell may holds) before;
}
  where
    whole : (s : Sector) → (s ≡ damaged) ⊎ Leaves Q Base s → Leaves Q Base s
    whole s (inl is) = subst (Leaves Q Base) (sym is) (Leaves-settled Damaged keeps.damage keeps.under_damage)
    whole s (inr leaves) = leaves

-- so it holds at every moment of a run
pub leaves_throughout : {allowed : ℕ → SlotCall → Type 0} {Q Base : Cell → Type 0} {old new : List Happening} (pulls j k : ℕ)
    → KeepsLeaving allowed j k Q Base → Ran allowed old new → IsKept pulls k (Leaves Q Base) (slot_state old j)
    → AtEveryMoment (λ h. IsKept pulls k (Leaves Q Base) (slot_state h j)) old new
leaves_throughout {allowed} {Q} {Base} pulls j k keeps ran start =
    kept_throughout {allowed = allowed} {P = λ h. IsKept pulls k (Leaves Q Base) (slot_state h j)}
    (keeps_sector {allowed = allowed} {j = j} {k = k} {P = Leaves Q Base} pulls (SectorKeeps-leaves keeps)) ran start

pub leaves_on : {allowed : ℕ → SlotCall → Type 0} {Q Base : Cell → Type 0} {old new : List Happening} (pulls j k : ℕ)
    → KeepsLeaving allowed j k Q Base → Ran allowed old new → IsKept pulls k (Leaves Q Base) (slot_state old j)
    → IsKept pulls k (Leaves Q Base) (slot_state new j)
leaves_on {allowed} {Q} {Base} pulls j k keeps ran start =
    kept {allowed = allowed} {P = λ h. IsKept pulls k (Leaves Q Base) (slot_state h j)}
    (keeps_sector {allowed = allowed} {j = j} {k = k} {P = Leaves Q Base} pulls (SectorKeeps-leaves keeps)) ran start

-- read off an image, or off the medium that was pulled
pub cell_left : {Q Base : Cell → Type 0} (h : List Happening) (image : Image) (pulls j k : ℕ) → Q Damaged → CrashMayLeave h image
    → IsKept pulls k (Leaves Q Base) (slot_state h j) → (pulls < (slot_state h j).pulls) ⊎ Q ((image j).cell k)
cell_left {Q} h image pulls j k damage left (Here same some (inl is)) =
    inr (subst Q (sym (settled_left Damaged ((image j).cell k) (subst (λ s. MayLeave s ((image j).cell k)) is ((left j).each k)))) damage)
cell_left h image pulls j k damage left (Here same some (inr leaves)) = inr (leaves.each ((image j).cell k) ((left j).each k))
cell_left h image pulls j k damage left (Lost less) = inl less

pub pulled_cell : {Q Base : Cell → Type 0} (b : SlotState) (m : Medium) (pulls k : ℕ) → Q Damaged → Settles b m
    → IsKept pulls k (Leaves Q Base) b → (pulls < b.pulls) ⊎ Q (m.cell k)
pulled_cell {Q} b m pulls k damage settles (Here same some (inl is)) =
    inr (subst Q (sym (settled_left Damaged (m.cell k) (subst (λ s. MayLeave s (m.cell k)) is (settles.each k)))) damage)
pulled_cell b m pulls k damage settles (Here same some (inr leaves)) = inr (leaves.each (m.cell k) (settles.each k))
pulled_cell b m pulls k damage settles (Lost less) = inl less

-- a sync takes nothing in that a crash might not have left before
pub synced_within : (s : Sector) (cell : Cell) → MayLeave (synced s) cell → MayLeave s cell
synced_within s cell left = subst (MayLeave s) (sym (synced_left s cell left)) (content_left s)

-- of a sector that isn't written a crash leaves what it might have left before, or damage by the outside, or the medium was
-- pulled
pub unwritten_left : {allowed : ℕ → SlotCall → Type 0} {old new : List Happening} (j k : ℕ)
    → ((bytes : List ℕ) → ¬ allowed j (Write k bytes reply.Done)) → Ran allowed old new → IsSome (slot_state old j).size → (image : Image)
    → CrashMayLeave new image
    → WasPulled old new j ⊎ (((image j).cell k ≡ Damaged) ⊎ MayLeave ((slot_state old j).sector k) ((image j).cell k))
unwritten_left {allowed} {old} {new} j k unwritten ran some image left =
    let Q : Cell → Type 0 = λ cell. (cell ≡ Damaged) ⊎ MayLeave ((slot_state old j).sector k) cell in
    let Under : Cell → Type 0 = λ cell. ⊤ in
    let keeps : KeepsLeaving allowed j k Q Under = record {
      damage = inl refl;
      under_damage = tt;
      write = λ bytes may. absurd (unwritten bytes may);
      cut = λ bytes cell may under. absurd (unwritten bytes may);
      sync = λ cell may holds. tt;
    } in
    let start : ButForOutside old old j k (Leaves Q Under) = Here refl some (inr (record { each = λ cell may. inr may; base = tt })) in
    let pulls = (slot_state old j).pulls in
    cell_left {Q = Q} {Base = Under} new image pulls j k (inl refl) left (leaves_on {allowed = allowed} {Q = Q} {Base = Under} pulls j k keeps ran start)

-- IMAGES

-- a crash now may leave the image now
pub CrashMayLeave-now : (h : List Happening) → CrashMayLeave h (image_now h)
CrashMayLeave-now h j = record { size = refl; each = λ k. content_left ((slot_state h j).sector k); removed = refl }

-- the image with another cell in one sector
abbrev pub with_cell : Image → ℕ → ℕ → Cell → Image
with_cell image j k cell i = if i == j then record (image i) { cell = λ l. if l == k then cell else (image i).cell l } else image i

with_cell_same : (image : Image) (j k : ℕ) (cell : Cell)
    → with_cell image j k cell j ≡ record (image j) { cell = λ l. if l == k then cell else (image j).cell l }
with_cell_same image j k cell = cond-true _ _ _ (eq-eqb j j refl)

pub with_cell_at : (image : Image) (j k : ℕ) (cell : Cell) → (with_cell image j k cell j).cell k ≡ cell
with_cell_at image j k cell = ap (λ (x : SlotImage). x.cell k) (with_cell_same image j k cell) ∙ cond-true _ _ _ (eq-eqb k k refl)

-- a crash leaves a sector's cell whatever it leaves of the others
pub CrashMayLeave-with_cell : (h : List Happening) (image : Image) (j k : ℕ) (cell : Cell) → CrashMayLeave h image
    → MayLeave ((slot_state h j).sector k) cell → CrashMayLeave h (with_cell image j k cell)
CrashMayLeave-with_cell h image j k cell left may i =
    elim (cases_eq i j) [
      | inl same ↦
          subst (λ n. SlotMayLeave (slot_state h n) (with_cell image j k cell n)) (sym same)
          (subst (SlotMayLeave (slot_state h j)) (sym (with_cell_same image j k cell)) (record {
            size = (left j).size;
            each = λ l.
                elim (cases_eq l k) [
                  | inl at ↦
                      subst (λ n. MayLeave ((slot_state h j).sector n) (if n == k then cell else (image j).cell n)) (sym at)
                      (subst (MayLeave ((slot_state h j).sector k)) (sym (cond-true _ _ _ (eq-eqb k k refl))) may)
                  | inr other ↦ subst (MayLeave ((slot_state h j).sector l)) (sym (cond-false _ _ _ (ne_eqb l k other))) ((left j).each l)
                ];
            removed = (left j).removed;
          }))
      | inr other ↦ subst (SlotMayLeave (slot_state h i)) (sym (cond-false _ _ _ (ne_eqb i j other))) (left i)
    ]

-- so what holds of a sector's cell in every image holds of every cell that a crash may leave of it
pub in_each_image : (h : List Happening) (j k : ℕ) (Q : Cell → Type 0) → ((image : Image) → CrashMayLeave h image → Q ((image j).cell k))
    → (cell : Cell) → MayLeave ((slot_state h j).sector k) cell → Q cell
in_each_image h j k Q each cell may =
    subst Q (with_cell_at (image_now h) j k cell)
    (each (with_cell (image_now h) j k cell) (CrashMayLeave-with_cell h (image_now h) j k cell (CrashMayLeave-now h) may))

-- a settled sector may be left as its content alone
pub settled_cell : (h : List Happening) (image : Image) (j k : ℕ) (cell : Cell) → CrashMayLeave h image → (slot_state h j).sector k ≡ settled cell
    → (image j).cell k ≡ cell
settled_cell h image j k cell left is = settled_left cell ((image j).cell k) (subst (λ s. MayLeave s ((image j).cell k)) is ((left j).each k))

-- of a device that was synced a crash leaves what reads found
pub synced_cell : (h : List Happening) (image : Image) (j k : ℕ) → CrashMayLeave (Called j (Sync reply.Done) ∷ h) image
    → (image j).cell k ≡ content ((slot_state h j).sector k)
synced_cell h image j k left =
    settled_cell (Called j (Sync reply.Done) ∷ h) image j k (content ((slot_state h j).sector k)) left
    (ap (λ (b : SlotState). b.sector k) (slot_after_call h j (Sync reply.Done)))

-- a sector that was written reads as these bytes
pub written_now : (h : List Happening) (j k : ℕ) (bytes : List ℕ)
    → content ((slot_state (Called j (Write k bytes reply.Done) ∷ h) j).sector k) ≡ Good bytes
written_now h j k bytes =
    ap (λ (b : SlotState). content (b.sector k)) (slot_after_call h j (Write k bytes reply.Done))
    ∙ ap content (with_sector_same k (wrote bytes ((slot_state h j).sector k)) (slot_state h j))

-- STOPPED RACKS

refused_event : (allowed : ℕ → SlotCall → Type 0) (h : List Happening) (e : Happening) → IsTrue (stopped h) → IsAct h e ⊎ IsCall allowed h e
    → IsAct h e ⊎ IsCall IsRefused h e
refused_event allowed h e is (inl act) = inl act
refused_event allowed h (Made image) is (inr call) = absurd call
refused_event allowed h Stopped is (inr call) = absurd call
refused_event allowed h (Acted j a) is (inr call) = absurd call
refused_event allowed h (Called j c) is (inr call) = inr (refused h j c is call.1, call.1)

runs_refused : (allowed : ℕ → SlotCall → Type 0) (more old : List Happening) → IsTrue (stopped old) → Runs allowed more old → Runs IsRefused more old
runs_refused allowed [] old is runs = tt
runs_refused allowed (e ∷ more) old is runs =
    let before : IsTrue (stopped (more ++ old)) =
    throughout_end (λ h. IsTrue (stopped h)) more old (throughout_kept {allowed = allowed} {P = λ h. IsTrue (stopped h)} keeps_stopped more old runs.0 is) in
    (runs_refused allowed more old is runs.0, refused_event allowed (more ++ old) e before runs.1)

-- once it is stopped, nothing is called that does anything
pub ran_refused : {allowed : ℕ → SlotCall → Type 0} {old new : List Happening} → IsTrue (stopped old) → Ran allowed old new → Ran IsRefused old new
ran_refused {allowed} {old} is ran = record { more = ran.more; is = ran.is; runs = runs_refused allowed ran.more old is ran.runs }

pub SectorKeeps-refused : (j k : ℕ) (P : Sector → Type 0) → SectorKeeps IsRefused j k P
SectorKeeps-refused j k P = record { write = λ bytes s may before. absurd (cc); sync = λ s may before. absurd (cc) }

-- and each fact of a sector stays
pub stopped_throughout : {allowed : ℕ → SlotCall → Type 0} {P : Sector → Type 0} {old new : List Happening} (pulls j k : ℕ) → IsTrue (stopped old)
    → Ran allowed old new → IsKept pulls k P (slot_state old j) → AtEveryMoment (λ h. IsKept pulls k P (slot_state h j)) old new
stopped_throughout {allowed} {P} pulls j k is ran start =
    kept_throughout {allowed = IsRefused} {P = λ h. IsKept pulls k P (slot_state h j)}
    (keeps_sector {allowed = IsRefused} {j = j} {k = k} {P = P} pulls (SectorKeeps-refused j k P)) (ran_refused {allowed = allowed} is ran) start
