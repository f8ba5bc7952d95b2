-- What a write of blocks came to.
use Rattle.std.proofs.Common.{◌≡◌, ℕ, ◌*◌, ◌/◌, ◌<◌, ◌≤◌, List, [], ◌∷◌, length, take, drop, zero, suc, inl, inr, false, sym, ap, subst, ◌∙◌, arith, None, Option, Some}
use Rattle.std.specs.Prelude.{All, ◌⊎◌, Err, IsTrue, Ok, Result}
use Rattle.std.specs.Result.{IsErrAnd}
use Rattle.std.specs.Simd.{first_chunks}
use Rattle.std.proofs.lemmas.List.{length-drop, length-take-le, take_all}
use Rattle.std.proofs.lemmas.List.Elements.{All-cons, All-drop, All-nil, All-take}
use Rattle.stair_model.specs.CellSet.{CellSet, HasCell, cell_count}
use Rattle.stair_model.specs.Device.{cell_sector}
use Rattle.stair_model.specs.Geometry.{Geometry, block_count, data_cells}
use Rattle.stair_model.specs.Stripe.{IsSector, SECTOR, Stripe}
use Rattle.stair_rack.specs.RackCounts.{RisesAtMost}
use Rattle.stair_rack.specs.Sector.{Damaged}
use Rattle.stair_rack.specs.RackState.{IsLater, RackState}
use Rattle.stair_rack.proofs.GoneLemmas.{is_gone_wider}
use Rattle.stair_rack.proofs.RackStateLemmas.{later_none, reading_wider}
use Rattle.stair_super.specs.declared.configuration.Configuration.{Configuration}
use Rattle.stair_member.specs.declared.fault.FenceFault.{FenceFault}
use Rattle.stair_journal.specs.Redo.{IsRedo}
use Rattle.stair_journal.specs.declared.redo.Redo.{Redo}
use Rattle.stair_state.specs.Blocks.{AreOfOneStripe}
use Rattle.stair_state.specs.Redoing.{AtRest}
use Rattle.stair_invariant.specs.Effects.{Snapshot, Redoes}
use Rattle.stair_array.specs.Arrays.{LacksOne, blocks_of, outcome}
use Rattle.stair_array.specs.Calls.{AreInPlace, AreOfBlocks, AreSet, Prepares, WritesBlocks, answer_of}
use Rattle.stair_array.specs.Faults.{array_fault, refusal_for}
use Rattle.stair_array.specs.Machine.{Frozen, Refusal}
use Rattle.stair_array.specs.WritingSteps.{Readies}
use Rattle.stair_array.specs.declared.fault.ArrayFault.{ArrayFault}
use Rattle.stair_array.specs.declared.fault.ArrayFault.TheVariants as array
use Rattle.stair_array.proofs.ChangingLemmas.{as_many}
use Rattle.stair_array.proofs.GoneToLemmas.{IsAfter, attaches_none}
use Rattle.stair_array.proofs.ReadingLemmas.{epoch_answer}

-- IN MEMORY

-- blocks that fill the stripe were put into it
pub filled_ready : (x : Snapshot) (g : Geometry) (redo : Redo) (first : ℕ) (contents : List (List ℕ)) (stripe loaded : Stripe)
    → g ≡ x.member.array.geometry → redo.stripe ≡ first / data_cells x.member.array.geometry → length contents ≡ data_cells g
    → ((cells : CellSet) (was : Stripe) → AreSet g (first / data_cells g) first contents cells was stripe)
    → Readies redo first contents stripe (Ok tt) x x
filled_ready x g redo first contents stripe loaded same at full set = (
  loaded,
  Prepares.Filled x (full ∙ ap data_cells same),
  subst (λ (t : ℕ). AreSet x.member.array.geometry t first contents redo.cells loaded stripe) (sym at)
      (subst (λ (h : Geometry). AreSet h (first / data_cells h) first contents redo.cells loaded stripe) same (set redo.cells loaded)),
)

-- or were set in it
pub set_ready : (x y : Snapshot) (g : Geometry) (redo : Redo) (first : ℕ) (contents : List (List ℕ)) (loaded stripe : Stripe)
    → g ≡ x.member.array.geometry → AreOfBlocks x.member.array.geometry first (length contents) redo.cells
    → length contents < data_cells x.member.array.geometry
    → ((count : ℕ) → count < data_cells x.member.array.geometry → Prepares redo.stripe count redo.cells loaded (Ok tt) x y)
    → ((t : ℕ) (cells : CellSet) → AreOfBlocks g first (length contents) cells → AreSet g t first contents cells loaded stripe)
    → Readies redo first contents stripe (Ok tt) x y
set_ready x y g redo first contents loaded stripe same of few prepared set = (
  loaded,
  prepared (length contents) few,
  subst (λ (h : Geometry). AreSet h redo.stripe first contents redo.cells loaded stripe) same
      (set redo.stripe redo.cells (subst (λ (h : Geometry). AreOfBlocks h first (length contents) redo.cells) (sym same) of)),
)

-- THE WRITE

pub are_in_place : (array : Configuration) (g : Geometry) (redo : Redo) (first : ℕ) (contents : List (List ℕ)) → g ≡ array.geometry
    → first < block_count array.geometry → array.frozen ≡ false → All IsSector contents → AreOfOneStripe array.geometry first (length contents)
    → IsRedo g redo → redo.stripe ≡ first / data_cells g → AreOfBlocks g first (length contents) redo.cells
    → AreInPlace array first contents redo.stripe redo.cells
are_in_place array g redo first contents same below thawed sectors together formed at of = record {
  below = below;
  thawed = thawed;
  sectors = sectors;
  together = together;
  stripe = at ∙ ap (λ (h : Geometry). first / data_cells h) same;
  formed = formed.formed;
  change = subst (λ (h : Geometry). AreOfBlocks h first (length contents) redo.cells) same of;
}

module _ (x : Snapshot) (redo : Redo) (first : ℕ) (contents : List (List ℕ)) (place : AreInPlace x.member.array first contents redo.stripe redo.cells) where
  pub unready : (y : Snapshot) (stripe : Stripe) (fault : ArrayFault) (result : Result (Unit {0}) ArrayFault) → IsErrAnd result (λ e. e ≡ fault)
      → Readies redo first contents stripe (Err (refusal_for fault)) x y → WritesBlocks first contents (outcome result) x y
  unready y stripe fault (Ok done) is ready = absurd is
  unready y stripe fault (Err e) same ready =
      subst (λ (f : ArrayFault). WritesBlocks first contents (Err (refusal_for f)) x y) (sym same)
      (WritesBlocks.Unready redo.stripe redo.cells ready.0 (refusal_for fault) x y place ready.1)

  module _ (formed : IsRedo x.member.array.geometry redo) (y z : Snapshot) (stripe : Stripe) (same : y.member.array.geometry ≡ x.member.array.geometry)
      (ready : Readies redo first contents stripe (Ok tt) x y) where
    done : (refusal : Option FenceFault) → Redoes y.member.array.geometry redo stripe AtRest refusal y z
        → WritesBlocks first contents (answer_of tt refusal) x z
    done refusal run =
        WritesBlocks.Wrote redo ready.0 stripe refusal x y z place formed ready.1 ready.2
        (subst (λ (g : Geometry). Redoes g redo stripe AtRest refusal y z) same run)

    pub wrote : Redoes y.member.array.geometry redo stripe AtRest None y z → WritesBlocks first contents (Ok tt) x z
    wrote run = done None run

    pub wrote_stops : (fault : FenceFault) (result : Result (Unit {0}) ArrayFault) → IsErrAnd result (λ e. e ≡ array_fault fault)
        → Redoes y.member.array.geometry redo stripe AtRest (Some fault) y z → WritesBlocks first contents (outcome result) x z
    wrote_stops fault result is run =
        subst (λ (a : Result (Unit {0}) Refusal). WritesBlocks first contents a x z) (sym (epoch_answer result fault is)) (done (Some fault) run)

-- no block has this number
pub written_past : (first : ℕ) (contents : List (List ℕ)) (x : Snapshot) (fault : ArrayFault) (result : Result (Unit {0}) ArrayFault)
    → block_count x.member.array.geometry ≤ first → fault ≡ array.OutOfRange first (block_count x.member.array.geometry)
    → IsErrAnd result (λ e. e ≡ fault) → WritesBlocks first contents (outcome result) x x
written_past first contents x fault (Ok done) past is told = absurd told
written_past first contents x fault (Err e) past is same =
    subst (λ (f : ArrayFault). WritesBlocks first contents (Err (refusal_for f)) x x) (sym (same ∙ is)) (WritesBlocks.OutOf x past)

-- ITS READS

lacks_wider : (t : ℕ) (cells : CellSet) (x : Snapshot) (mid now : RackState) → IsLater x.told mid → IsAfter mid now → LacksOne t cells x mid
    → LacksOne t cells x now
lacks_wider t cells x mid now first rest (LacksOne.NotLive i j has away) = LacksOne.NotLive i j has away
lacks_wider t cells x mid now first rest (LacksOne.WasBad i j has bad) =
    LacksOne.WasBad i j has
    (reading_wider x.told x.told mid now (later_none x.told) first.honest first.counts rest.later j (cell_sector x.member.array.geometry t i) Damaged bad)
lacks_wider t cells x mid now first rest (LacksOne.WasGone i j has gone) =
    LacksOne.WasGone i j has
    (is_gone_wider {allowed = attaches_none} x.told x.told mid now (later_none x.told) first.honest first.counts rest.later j (λ c beside. beside)
    rest.beside gone)

lacks_same : (t : ℕ) (a b : CellSet) (x : Snapshot) (now : RackState) → ((i j : ℕ) → HasCell a i j → HasCell b i j) → LacksOne t a x now
    → LacksOne t b x now
lacks_same t a b x now more (LacksOne.NotLive i j has away) = LacksOne.NotLive i j (more i j has) away
lacks_same t a b x now more (LacksOne.WasBad i j has bad) = LacksOne.WasBad i j (more i j has) bad
lacks_same t a b x now more (LacksOne.WasGone i j has gone) = LacksOne.WasGone i j (more i j has) gone

-- each of the cells was read once, or one of them couldn't be had: whichever set has them, and also later, where nothing more was read
pub reads_once : (g : Geometry) (first count t u : ℕ) (a b : CellSet) (x : Snapshot) (mid now : RackState) (o m n : Option ℕ) → t ≡ u
    → AreOfBlocks g first count a → AreOfBlocks g first count b → IsLater x.told mid → IsAfter mid now → n ≡ m
    → RisesAtMost (cell_count a) o m ⊎ LacksOne t a x mid → RisesAtMost (cell_count b) o n ⊎ LacksOne u b x now
reads_once g first count t u a b x mid now o m n at of_a of_b before rest same (inl few) =
    inl
    (subst (λ (k : Option ℕ). RisesAtMost (cell_count b) o k) (sym same)
    (subst (λ (c : ℕ). RisesAtMost c o m) (as_many g first count a b of_a of_b) few))
reads_once g first count t u a b x mid now o m n at of_a of_b before rest same (inr lacks) =
    inr
    (subst (λ (s : ℕ). LacksOne s b x now) at
    (lacks_same t a b x now (λ i j has. (of_b i j).1 ((of_a i j).0 has)) (lacks_wider t a x mid now before rest lacks)))

-- BYTES AS BLOCKS

chunks_sectors : (n : ℕ) (bytes : List ℕ) → n * SECTOR ≤ length bytes → All (λ b. b < 256) bytes → All IsSector (first_chunks SECTOR n bytes)
chunks_sectors zero bytes within fits = All-nil IsSector
chunks_sectors (suc n) bytes within fits =
    All-cons IsSector (take SECTOR bytes) (first_chunks SECTOR n (drop SECTOR bytes))
    (length-take-le SECTOR bytes (omega (arith, within)), All-take (λ b. b < 256) SECTOR bytes fits)
    (chunks_sectors n (drop SECTOR bytes) (omega (arith, within, length-drop SECTOR bytes)) (All-drop (λ b. b < 256) SECTOR bytes fits))

pub blocks_sectors : (bytes : List ℕ) → All (λ b. b < 256) bytes → All IsSector (blocks_of bytes)
blocks_sectors bytes fits = chunks_sectors (length bytes / SECTOR) bytes (omega arith) fits

-- of a sector
pub one_block : (bytes : List ℕ) → length bytes ≡ SECTOR → blocks_of bytes ≡ bytes ∷ []
one_block bytes is =
    ap (λ (n : ℕ). first_chunks SECTOR (n / SECTOR) bytes) is
    ∙ ap (λ (l : List ℕ). l ∷ []) (take_all SECTOR bytes (omega (arith, is)))

pub frozen_write : (first : ℕ) (contents : List (List ℕ)) (x : Snapshot) → first < block_count x.member.array.geometry
    → IsTrue x.member.array.frozen → WritesBlocks first contents (Err Frozen) x x
frozen_write first contents x below frozen = WritesBlocks.IsFrozen x below frozen
