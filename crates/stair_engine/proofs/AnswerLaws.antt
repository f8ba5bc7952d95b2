-- From what was taken to what is judged of it.
use Rattle.std.proofs.Common.{◌≡◌, ℕ, ◌+◌, ◌*◌, ◌<◌, ◌≤◌, ◌↔◌, inl, inr, List, [], ◌++◌, None, Some, Result, Ok, Err, length, take, drop, get_or, refl, sym, ap, ◌∙◌, subst, arith}
use Rattle.std.specs.Prelude.{Option, IsOk, IsErr, IsNone, IsSome, IfOk}
use Rattle.std.specs.List.{concat}
use Rattle.std.proofs.lemmas.Bool.{cases_lt}
use Rattle.std.proofs.Math.Nat.{mul-le-mul}
use Rattle.std.proofs.lemmas.List.{get_or_past, take_all, take-append-le}
use lib.Seq.{drop_at}
use Rattle.stair_model.specs.Geometry.{Geometry, IsWithinLimits}
use Rattle.stair_model.specs.Stripe.{Stripe, IsStripeOf, IsWellFormed}
use Rattle.stair_model.specs.CellSet.{CellSet, IsInStripe, count_in_slot}
use Rattle.stair_model.specs.Codeword.{IsCodeword}
use Rattle.stair_model.specs.Coverage.{IsCovered}
use Rattle.stair_model.specs.Encoding.{IsEncodedFrom}
use Rattle.stair_model.proofs.CoverageLaws.{count_in_slot-none}
use Rattle.stair_model.specs.Restoring.{IsRestored, SameHeld}
use Rattle.stair_conf.specs.declared.job.Method.{Method}
use Rattle.stair_status.specs.declared.status.Status.TheVariants.{Done, NoCodeword, Lost}
use Rattle.stair_conf.specs.declared.job.StripeCommand.TheVariants.{Encode, Restore}
use Rattle.stair_command.specs.Answer.{HasBytes, Judges, cell_bytes, map_bytes}
use Rattle.stair_command.specs.Encode.{IsCostOfMethod, TakesSteps}
use Rattle.stair_command.specs.Restore.{CountsErased, IsErasedBy}
use Rattle.stair_engine.specs.Taking.{HoldsInput, IsMapAndCells}
use Rattle.stair_engine.proofs.BlockLaws.{IsEncodingOf-held}
use Rattle.stair_engine.proofs.CellLaws.{length-cell_bytes}

-- the stripe has these bytes
pub HasBytes-cells : (g : Geometry) (stripe : Stripe) → IsStripeOf g stripe → IsWellFormed stripe → (bytes : List ℕ) → concat stripe.cells ≡ bytes
    → HasBytes g stripe bytes
HasBytes-cells g stripe of well bytes same = record {
  of = of;
  well_formed = well;
  same_bytes = same;
  count = sym (ap length same) ∙ length-cell_bytes g stripe of well;
}

-- a map and cells, one after the other
pub IsMapAndCells-all : (g : Geometry) (stripe : Stripe) (erased : CellSet) (map : List ℕ) → length map ≡ map_bytes g → IsErasedBy g map erased
    → IsStripeOf g stripe → IsWellFormed stripe → IsMapAndCells g stripe erased (map ++ concat stripe.cells)
IsMapAndCells-all g stripe erased map long by of well =
    let cells = concat stripe.cells in
    let front : map ≡ take (map_bytes g) (map ++ cells) =
    sym (take_all (map_bytes g) map (omega (arith, long))) ∙ sym (take-append-le (map_bytes g) map cells (omega (arith, long)))
    in (
      subst (λ (m : List ℕ). IsErasedBy g m erased) front by,
      HasBytes-cells g stripe of well (drop (map_bytes g) (map ++ cells)) (sym (drop_at map cells (map_bytes g) long)),
    )

-- a stripe has cells
pub some_cells : (g : Geometry) → IsWithinLimits g → 0 < cell_bytes g
some_cells g limits =
    let rows : (1 ≤ g.r) × (g.r ≤ 32) = limits.rows in
    let chunks : (3 ≤ g.n) × (g.n ≤ 32) = limits.devices in
    let any : 1 ≤ g.n = omega (arith, chunks.0) in
    let some : 1 * 1 ≤ g.r * g.n = mul-le-mul rows.0 any in
    omega (arith, some)

CountsErased-counts : (g : Geometry) (erased : CellSet) (counts : List ℕ) → IsWithinLimits g → IsInStripe g erased → length counts ≡ 32
    → ((j : ℕ) → j < 32 → get_or counts j 0 ≡ count_in_slot erased j) → CountsErased g erased counts
CountsErased-counts g erased counts limits within long each = record {
  count = long;
  slots = λ j in_slots. each j (omega (arith, in_slots, limits.devices.1));
  behind = λ j behind. elim (cases_lt j 32) as (λ _. get_or counts j 0 ≡ 0) [
    | inl below ↦ each j below ∙ count_in_slot-none erased j (λ i has. omega (arith, behind, (within i j has).1))
    | inr past ↦ get_or_past counts j 0 (omega (arith, past, long))
  ];
}

-- a result is not of both kinds
not_ok_and_err : {T E : Type 0} (r : Result T E) → IsOk r → IsErr r → ⊥
not_ok_and_err (Ok x) ok err = cc
not_ok_and_err (Err y) ok err = cc

not_none_and_some : {T : Type 0} (o : Option T) → IsNone o → IsSome o → ⊥
not_none_and_some None none some = cc
not_none_and_some (Some x) none some = cc

-- what holds where there is a value
pub at_ok : {T E P : Type 0} (r : Result T E) → IsOk r → IfOk r (λ _. P) → P
at_ok (Ok x) ok fact = fact
at_ok (Err y) ok fact = cc

-- what `stripe` judges of the blocks that a stripe holds, and the steps that it takes
pub judged_blocks : (method : Method) (told shape : Geometry) (before after : Stripe) (input : List ℕ) (n n' cost : ℕ) → told ≡ shape
    → IsWithinLimits told → HoldsInput told before input → IsEncodedFrom shape before after → IsCostOfMethod method shape cost → n' ≡ n + cost
    → Judges (Encode method) told input Done (concat after.cells) × TakesSteps method told n n'
judged_blocks method told shape before after input n n' cost same limits holds encoded is takes =
    subst
    (λ (of : Geometry). IsWithinLimits of → HoldsInput of before input → Judges (Encode method) of input Done (concat after.cells)
    × TakesSteps method of n n') (sym same)
    (λ within held. (
      (held.0, held.1, (after, IsEncodingOf-held shape held.0 before after within held.2 encoded, refl)),
      (cost, is, takes),
    ))
    limits holds

-- what `restore` judges of a map and cells, by a code that tells its geometry
module _ {T E : Type 0} (told shape : Geometry) (erased : CellSet) (stripe restored : Stripe) (input : List ℕ) (same : told ≡ shape)
    (took : IsMapAndCells told stripe erased input) (result : Result T E) (covered : IsOk result ↔ IsCovered shape erased) where
  is_covered : IsOk result ↔ IsCovered told erased
  is_covered = subst (λ (of : Geometry). IsOk result ↔ IsCovered of erased) (sym same) covered

  -- the pattern is not covered
  pub judged_lost : (counts : List ℕ) (n : ℕ) → IsWithinLimits told → IsErr result → length counts ≡ 32
      → ((j : ℕ) → j < 32 → get_or counts j 0 ≡ count_in_slot erased j) → n ≡ told.n → Judges Restore told input (Lost 0 counts n) []
  judged_lost counts n limits refused long each is = (
    erased,
    stripe,
    took.0,
    took.1,
    (
      λ is_in. not_ok_and_err result (is_covered.1 is_in) refused,
      refl,
      CountsErased-counts told erased counts limits took.0.within long each,
      is,
      refl,
    ),
  )

  -- what was restored breaks an equation, so no codeword has the held cells
  pub judged_none : {B : Type 0} (broken : Option B) → IsOk result → IfOk result (λ _. IsRestored shape erased stripe restored)
      → (IsNone broken ↔ IsCodeword told restored) → IsSome broken → Judges Restore told input NoCodeword []
  judged_none broken ok is codeword some = (
    erased,
    stripe,
    took.0,
    took.1,
    (
      is_covered.0 ok,
      λ other holds.
          let is_told = subst (λ (of : Geometry). IsRestored of erased stripe restored) (sym same) (at_ok result ok is) in
          let one : restored ≡ other = is_told other holds.of holds.well_formed holds.meets_equations holds.held in
          not_none_and_some broken (codeword.1 (subst (IsCodeword told) (sym one) holds.meets_equations)) some,
      refl,
    ),
  )

  -- what was restored is a codeword
  pub judged_restored : {B : Type 0} (broken : Option B) → IsOk result → SameHeld shape erased restored stripe → IsStripeOf shape restored
      → IfOk result (λ _. IsWellFormed restored) → (IsNone broken ↔ IsCodeword told restored) → IsNone broken
      → Judges Restore told input Done (concat restored.cells)
  judged_restored broken ok held of formed codeword none = (
    erased,
    stripe,
    took.0,
    took.1,
    (
      is_covered.0 ok,
      (
        restored,
        record {
          of = subst (λ (k : Geometry). IsStripeOf k restored) (sym same) of;
          well_formed = at_ok result ok formed;
          meets_equations = codeword.0 none;
          held = subst (λ (k : Geometry). SameHeld k erased restored stripe) (sym same) held;
        },
        refl,
      ),
    ),
  )
