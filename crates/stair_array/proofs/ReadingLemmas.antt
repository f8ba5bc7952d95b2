-- What reading a cell and loading a stripe came to.
use Rattle.std.proofs.Common.{◌≡◌, ◌<◌, ◌≤◌, ℕ, None, Option, Some, ap, refl, subst, sym, ◌∙◌}
use Rattle.std.specs.Prelude.{Bool, true, Err, IsTrue, List, Ok, Result, slice_index}
use Rattle.std.specs.Option.{option_eq}
use Rattle.std.specs.Result.{IsErrAnd}
use Rattle.stair_model.specs.CellSet.{count_in_slot}
use Rattle.stair_model.specs.Coverage.{IsCovered}
use Rattle.stair_model.specs.Device.{cell_sector}
use Rattle.stair_model.specs.Geometry.{Geometry, block_count}
use Rattle.stair_model.specs.Restoring.{IsRestored, SameHeld}
use Rattle.stair_model.specs.Slots.{Slots}
use Rattle.stair_model.specs.Stripe.{Stripe, cell}
use Rattle.stair_rack.specs.Answers.{Calls, IsHistory}
use Rattle.stair_rack.specs.Count.{Rose}
use Rattle.stair_rack.specs.History.{Happening, Read, slot_state}
use Rattle.stair_rack.specs.RackCounts.{NoneFalls}
use Rattle.stair_rack.specs.Sector.{Good, content}
use Rattle.stair_rack.specs.RackState.{IsLater, IsReading, RackState, rack_state}
use Rattle.stair_rack.specs.declared.rack.Got.{Got}
use Rattle.stair_rack.specs.declared.rack.Got.TheVariants as got
use Rattle.stair_rack.proofs.MomentLemmas.{ran_any}
use Rattle.stair_rack.proofs.PassCounts.{NoneFalls-same}
use Rattle.stair_rack.proofs.RackStateLemmas.{gone_to_read, later_called, later_join, reading_bad, reading_good}
use Rattle.stair_member.specs.Membership.{Membership, why_of}
use Rattle.stair_member.specs.declared.fault.FenceFault.{FenceFault}
use Rattle.stair_member.specs.declared.fault.FenceFault.TheVariants as fence
use Rattle.stair_member.specs.declared.why.Why.TheVariants.{Here}
use Rattle.stair_stripes.specs.Gathering.{Gathers, IsCellOf}
use Rattle.stair_stripes.specs.declared.gathering.Gathered.{Gathered}
use Rattle.stair_invariant.specs.Effects.{AreLive, Fenced, FencesGone, Loads, NoneWas, Snapshot, snapshot}
use Rattle.stair_invariant.specs.Session.{Remembered}
use Rattle.stair_invariant.proofs.HonestLemmas.{left_honest}
use Rattle.stair_invariant.proofs.RedoingLemmas.{out_ran}
use Rattle.stair_array.specs.Arrays.{answer_as, outcome, remembered_as}
use Rattle.stair_array.specs.Calls.{AsksFor, CannotHave, IsInPlace, IsLoaded, LoadsStripe, Reads, WasBad, WasGone, refused}
use Rattle.stair_array.specs.Faults.{array_fault, refusal_for}
use Rattle.stair_array.specs.Machine.{Lost, Refusal}
use Rattle.stair_array.specs.declared.fault.ArrayFault.{ArrayFault}
use Rattle.stair_array.specs.declared.fault.ArrayFault.TheVariants as array

pub fault_refused : (fault : FenceFault) → refusal_for (array_fault fault) ≡ refused fault
fault_refused (fence.TooFew whys) = refl
fault_refused fence.EpochsSpent = refl

-- a refused epoch is handed on
pub epoch_answer : {T : Type 0} (result : Result T ArrayFault) (fault : FenceFault)
    → IsErrAnd result (λ e. e ≡ array_fault fault) → outcome result ≡ Err (refused fault)
epoch_answer (Ok given) fault is = absurd is
epoch_answer (Err e) fault same = ap (λ (a : ArrayFault). Err (refusal_for a)) same ∙ ap (λ (r : Refusal). Err r) (fault_refused fault)

-- A CELL

-- cell (i, j) of stripe t was read, and the rack answered so
module _ (m : Membership) (t i j k : ℕ) (at : k ≡ cell_sector m.array.geometry t i) (below : j < m.array.geometry.n) (live : why_of m j ≡ Here)
    (honest : Bool) (old new : List Happening) (bads bads' : ℕ) (gones gones' : ℕ → ℕ) (counts : NoneFalls bads bads' gones gones')
    (answer : Got) (told : IsTrue honest → Calls old new j (Read k answer)) where
  answered : (found : Got) → answer ≡ found → IsTrue honest → Calls old new j (Read (cell_sector m.array.geometry t i) found)
  answered found same is =
      subst (λ (s : ℕ). Calls old new j (Read s found)) at (subst (λ (a : Got). Calls old new j (Read k a)) same (told is))

  pub asked : (found : Got) → answer ≡ found
      → AsksFor t i j found (snapshot m (rack_state honest old bads gones)) (snapshot m (rack_state honest new bads' gones'))
  asked found same = record {
    live = record { below = below; why = live };
    member = refl;
    later = later_called honest old new bads bads' gones gones' j (Read k answer) told counts;
    called = answered found same;
  }

  pub was_read : (bytes : List ℕ) → answer ≡ got.Good → (IsTrue honest → content ((slot_state new j).sector k) ≡ Good bytes)
      → AsksFor t i j got.Good (snapshot m (rack_state honest old bads gones)) (snapshot m (rack_state honest new bads' gones'))
      × IsReading j (cell_sector m.array.geometry t i) (rack_state honest old bads gones) (rack_state honest new bads' gones') (Good bytes)
  was_read bytes good holds = (
    asked got.Good good,
    reading_good honest old new bads bads' gones gones' j (cell_sector m.array.geometry t i) bytes (answered got.Good good)
        (λ is. ap (λ (s : ℕ). content ((slot_state new j).sector s)) (sym at) ∙ holds is),
  )

  pub was_bad : answer ≡ got.Bad → (IsTrue honest → IsHistory old) → Rose bads bads'
      → CannotHave t i j (snapshot m (rack_state honest old bads gones)) (snapshot m (rack_state honest new bads' gones'))
  was_bad bad began rose =
      WasBad (asked got.Bad bad)
      (reading_bad honest old new bads bads' gones gones' j (cell_sector m.array.geometry t i) began (answered got.Bad bad) rose)

  pub was_gone : answer ≡ got.Gone → Rose (gones j) (gones' j)
      → CannotHave t i j (snapshot m (rack_state honest old bads gones)) (snapshot m (rack_state honest new bads' gones'))
  was_gone gone rose =
      WasGone (asked got.Gone gone)
      (gone_to_read honest old new bads bads' gones gones' j (cell_sector m.array.geometry t i) (answered got.Gone gone) rose)

-- A STRIPE

-- what leaves slots out comes later
pub left_later : (gone : Slots) (refusal : Option FenceFault) (x y : Snapshot) → FencesGone gone refusal x y → IsLater x.told y.told
left_later gone refusal x y leaves = record {
  counts = counts leaves;
  honest = left_honest gone refusal x y leaves;
  ran = λ honest. ran_any (out_ran gone refusal x y leaves honest);
}
  where
    counts : FencesGone gone refusal x y → NoneFalls x.told.bads y.told.bads x.told.gones y.told.gones
    counts (NoneWas none same fine) =
        subst (λ (p : Snapshot). NoneFalls x.told.bads p.told.bads x.told.gones p.told.gones) (sym same) (NoneFalls-same x.told.bads x.told.gones)
    counts (Fenced j has answer fine e) = e.establishes.counts

-- stripe t was gathered, over the live slots of this member
module _ (m : Membership) (g : Geometry) (same : g ≡ m.array.geometry) (live : Slots) (are : AreLive m live) (t : ℕ) (gathered : Gathered)
    (was read : Stripe) (old mid : RackState) (gathers : Gathers g live t (IsCellOf g) gathered was read old mid) (y : Snapshot) where
  own : Gathers m.array.geometry live t (IsCellOf m.array.geometry) gathered was read old mid
  own = subst (λ (k : Geometry). Gathers k live t (IsCellOf k) gathered was read old mid) same gathers

  pub loads : (refusal : Option FenceFault) → FencesGone gathered.gone refusal (snapshot m mid) y
      → Loads t (IsCellOf m.array.geometry) gathered was read refusal (snapshot m old) y
  loads refusal leaves = record { live = live; are_live = are; mid = mid; gathers = own; leaves = leaves }

  pub load_later : (refusal : Option FenceFault) → FencesGone gathered.gone refusal (snapshot m mid) y → IsLater old y.told
  load_later refusal leaves =
      let first : IsLater old mid = record { counts = gathers.counts; honest = gathers.honest; ran = λ honest. ran_any (gathers.ran honest) } in
      later_join first (left_later gathered.gone refusal (snapshot m mid) y leaves)

  pub load_stops : (into : Stripe) (fault : FenceFault) (result : Result (Unit {0}) ArrayFault) → IsErrAnd result (λ e. e ≡ array_fault fault)
      → FencesGone gathered.gone (Some fault) (snapshot m mid) y → LoadsStripe t into (outcome result) (snapshot m old) y
  load_stops into fault result is leaves =
      subst (λ (a : Result (Unit {0}) Refusal). LoadsStripe t into a (snapshot m old) y) (sym (epoch_answer result fault is))
      (LoadsStripe.Stops was read gathered fault (snapshot m old) y (loads (Some fault) leaves))

  module _ (leaves : FencesGone gathered.gone None (snapshot m mid) y) (k : Geometry) (alike : k ≡ m.array.geometry) where
    pub load_restores : (kept into : Stripe) → kept ≡ read → IsCovered k gathered.erased → SameHeld k gathered.erased into kept
        → IsRestored k gathered.erased kept into → LoadsStripe t into (Ok tt) (snapshot m old) y
    load_restores kept into as_read covered held restored =
        LoadsStripe.Loaded was read gathered (Ok tt) (snapshot m old) y (loads None leaves)
        (subst (λ (s : Geometry). IsLoaded s t gathered.erased read into (Ok tt)) alike
        (subst (λ (s : Stripe). IsLoaded k t gathered.erased s into (Ok tt)) as_read (covered, held, restored)))

    pub load_lost : (into : Stripe) (counts : List ℕ) → (¬ IsCovered k gathered.erased)
        → ((j : ℕ) → j < 32 → slice_index counts j ≡ count_in_slot gathered.erased j)
        → LoadsStripe t into (Err (Lost t counts)) (snapshot m old) y
    load_lost into counts uncovered counted =
        LoadsStripe.Loaded was read gathered (Err (Lost t counts)) (snapshot m old) y (loads None leaves)
        (subst (λ (s : Geometry). IsLoaded s t gathered.erased read into (Err (Lost t counts))) alike (uncovered, (counts, refl, counted)))

-- A BLOCK

-- what is remembered is of the stripe that the array has in its buffer
pub is_remembered : {E : ℕ → ℕ → Bool} → ((s t : ℕ) → E s t ≡ true → s ≡ t) → (known : Option ℕ) (t : ℕ) (cells : Stripe)
    → option_eq E known (Some t) ≡ true → remembered_as known cells ≡ Some (record { stripe = t; cells = cells })
is_remembered same None t cells is = absurd (cc)
is_remembered same (Some s) t cells is = ap (λ (u : ℕ). Some (record { stripe = u; cells = cells })) (same s t is)

-- block b is cell (i, j) of stripe t
module _ (b t i j : ℕ) (old : Option Remembered) (x : Snapshot) (place : IsInPlace x.member.array.geometry b t i j) where
  -- its stripe is remembered
  pub read_recalled : (cells : Stripe) (bytes : List ℕ) → old ≡ Some (record { stripe = t; cells = cells }) → bytes ≡ cell cells i j
      → Reads b old old (Ok bytes) x x
  read_recalled cells bytes known same =
      subst (λ (c : List ℕ). Reads b old old (Ok c) x x) (sym same) (Reads.Recalled (record { stripe = t; cells = cells }) i j x known place)

  -- its own cell was read
  pub read_own : (bytes : List ℕ) (y : Snapshot) → AsksFor t i j got.Good x y
      → IsReading j (cell_sector x.member.array.geometry t i) x.told y.told (Good bytes) → Reads b old old (Ok bytes) x y
  read_own bytes y asks reads = Reads.Own t i j bytes x y place asks reads

  -- it couldn't be had, and the stripe was loaded
  pub read_restored : (into : Stripe) (y z : Snapshot) (bytes : List ℕ) → bytes ≡ cell into i j → CannotHave t i j x y
      → LoadsStripe t into (Ok tt) y z → Reads b old (Some (record { stripe = t; cells = into })) (Ok bytes) x z
  read_restored into y z bytes same cannot loads =
      subst (λ (c : List ℕ). Reads b old (Some (record { stripe = t; cells = into })) (Ok c) x z) (sym same) (Reads.Restored t i j into x y z place cannot loads)

  -- or refused
  pub read_refused : (into : Stripe) (y z : Snapshot) (fault : ArrayFault) (given : List ℕ) (result : Result (Unit {0}) ArrayFault)
      → IsErrAnd result (λ e. e ≡ fault) → CannotHave t i j x y → LoadsStripe t into (Err (refusal_for fault)) y z
      → Reads b old None (answer_as given result) x z
  read_refused into y z fault given (Ok done) is cannot loads = absurd is
  read_refused into y z fault given (Err e) same cannot loads =
      subst (λ (f : ArrayFault). Reads b old None (Err (refusal_for f)) x z) (sym same)
      (Reads.Refused t i j into (refusal_for fault) x y z place cannot loads)

-- there is no such block
pub read_past : (b : ℕ) (old : Option Remembered) (x : Snapshot) (given : List ℕ) (fault : ArrayFault) (result : Result (Unit {0}) ArrayFault)
    → block_count x.member.array.geometry ≤ b → fault ≡ array.OutOfRange b (block_count x.member.array.geometry)
    → IsErrAnd result (λ e. e ≡ fault) → Reads b old old (answer_as given result) x x
read_past b old x given fault (Ok done) past is told = absurd told
read_past b old x given fault (Err e) past is same =
    subst (λ (f : ArrayFault). Reads b old old (Err (refusal_for f)) x x) (sym (same ∙ is)) (Reads.OutOf x past)
