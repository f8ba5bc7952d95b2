-- The cells of a stripe, as bytes, row by row.
use Rattle.std.proofs.Common.{◌≡◌, ℕ, ◌+◌, ◌*◌, ◌<◌, ◌≤◌, List, [], ◌∷◌, ◌++◌, length, take, drop, get_or, set, refl, sym, ap, ap₂, ◌∙◌, subst, arith, length-append, append_assoc, append-nil, take-append-drop}
use Rattle.std.specs.Prelude.{Option, All}
use Rattle.std.specs.List.{concat}
use Rattle.std.specs.Io.KnownBytes.{Appends}
use Rattle.std.proofs.KnownBytes.{Appends-trans}
use Rattle.std.proofs.Math.Nat.{mul-le-mul}
use Rattle.std.proofs.lemmas.List.{take_more, take_more_set, take_all}
use Rattle.std.proofs.lemmas.List.Elements.{All-head, All-tail}
use Rattle.std.proofs.lemmas.List.Folds.{concat-append}
use Rattle.stair_model.specs.Geometry.{Geometry, IsWithinLimits}
use Rattle.stair_model.specs.Stripe.{Stripe, IsSector, IsStripeOf, IsWellFormed, with_cell}
use Rattle.stair_model.proofs.StripeLaws.{number_in}
use Rattle.stair_command.specs.declared.intake.Intake.{Intake}
use Rattle.stair_command.specs.Outside.{SourceView}
use Rattle.stair_command.specs.Trace.{IsPart}
use Rattle.stair_command.specs.Taking.{TakesBytes, intake_of}
use Rattle.stair_command.proofs.IntakeLaws.{TakesBytes-none, TakesBytes-more}

pub concat-push : (xs : List (List ℕ)) (x : List ℕ) → concat (xs ++ x ∷ []) ≡ concat xs ++ x
concat-push [] x = append-nil x
concat-push (y ∷ ys) x = ap (λ b. y ++ b) (concat-push ys x) ∙ sym (append_assoc y (concat ys) x)

pub length-concat : (xs : List (List ℕ)) → All IsSector xs → length (concat xs) ≡ length xs * 512
length-concat [] sectors = refl
length-concat (x ∷ xs) sectors =
    omega (arith, length-append x (concat xs), (All-head IsSector x xs sectors).0, length-concat xs (All-tail IsSector x xs sectors))

-- how many cells a stripe has
pub length-cells : (g : Geometry) (stripe : Stripe) → IsStripeOf g stripe → IsWellFormed stripe → length stripe.cells ≡ g.r * g.n
length-cells g stripe of well = well.count ∙ ap₂ (λ (a b : ℕ). a * b) of.rows of.chunks

-- the bytes of all cells
pub length-cell_bytes : (g : Geometry) (stripe : Stripe) → IsStripeOf g stripe → IsWellFormed stripe
    → length (concat stripe.cells) ≡ g.r * g.n * 512
length-cell_bytes g stripe of well = length-concat stripe.cells well.sectors ∙ ap (λ k. k * 512) (length-cells g stripe of well)

-- all slots of a row, and so one row more
pub row_more : (row n slot : ℕ) → slot ≡ n → row * n + slot ≡ (row + 1) * n
row_more row n slot all = grind arith

-- a stripe has few cells
pub few_cells : (g : Geometry) → IsWithinLimits g → g.r * g.n ≤ 32 * 32
few_cells g limits = mul-le-mul limits.rows.1 limits.devices.1

-- before anything was taken there is room for all that is needed
pub has_room : (intake : Intake) (needed : ℕ) → intake ≡ intake_of needed → intake.took + needed ≤ intake.needed
has_room intake needed is = omega (arith, ap (λ (k : Intake). k.took) is, ap (λ (k : Intake). k.needed) is)

-- the stripe's first `done` cells are what the source gave
pub record HasTaken {S : Type 0} (view : SourceView S) (g : Geometry) (first now : Intake) (stripe : Stripe) (done : ℕ) (old new : S) : Type 0 where
  pub of : IsStripeOf g stripe
  pub well_formed : IsWellFormed stripe
  pub taken : TakesBytes view first now (concat (take done stripe.cells)) old new
  pub took_is : now.took ≡ first.took + done * 512
  pub needed_is : now.needed ≡ first.needed

pub HasTaken-none : {S : Type 0} (view : SourceView S) (g : Geometry) (intake : Intake) (stripe : Stripe) (a : S) → IsStripeOf g stripe → IsWellFormed stripe
    → HasTaken view g intake intake stripe 0 a a
HasTaken-none view g intake stripe a of well = record {
  of = of;
  well_formed = well;
  taken = TakesBytes-none view intake a;
  took_is = omega arith;
  needed_is = refl;
}

pub HasTaken-more : {S : Type 0} (view : SourceView S) (g : Geometry) (first now next : Intake) (stripe : Stripe) (row slot : ℕ) (sector : List ℕ) (a b c : S)
    → row < g.r → slot < g.n → length sector ≡ 512 → IsWellFormed (with_cell stripe row slot sector)
    → HasTaken view g first now stripe (row * g.n + slot) a b → TakesBytes view now next sector b c
    → HasTaken view g first next (with_cell stripe row slot sector) (row * g.n + (slot + 1)) a c
HasTaken-more view g first now next stripe row slot sector a b c row_in slot_in long well before gives =
    let cells = stripe.cells in
    let at = row * stripe.chunks + slot in
    let done = row * g.n + slot in
    let same : at ≡ done = ap (λ n. row * n + slot) before.of.chunks in
    let in_stripe : at < length cells =
    omega (arith, same, length-cells g stripe before.of before.well_formed, number_in g row slot row_in slot_in)
    in
    let front : take (row * g.n + (slot + 1)) (set cells at sector) ≡ take done cells ++ sector ∷ [] =
    ap (λ k. take k (set cells at sector)) (omega (arith, same)) ∙ take_more_set cells at sector in_stripe
    ∙ ap (λ k. take k cells ++ sector ∷ []) same
    in
    record {
      of = record { rows = before.of.rows; chunks = before.of.chunks };
      well_formed = well;
      taken =
          subst (λ (bytes : List ℕ). TakesBytes view first next bytes a c) (sym (ap concat front ∙ concat-push (take done cells) sector))
          (TakesBytes-more view first now next (concat (take done cells)) sector a b c before.taken gives);
      took_is = omega (arith, ap (λ (k : Intake). k.took) gives.counted, before.took_is, long);
      needed_is = ap (λ (k : Intake). k.needed) gives.counted ∙ before.needed_is;
    }

-- all cells were taken
pub HasTaken-all : {S : Type 0} (view : SourceView S) (g : Geometry) (first now : Intake) (stripe : Stripe) (done : ℕ) (a b : S)
    → done ≡ g.r * g.n → HasTaken view g first now stripe done a b → TakesBytes view first now (concat stripe.cells) a b
HasTaken-all view g first now stripe done a b all has =
    let whole : length stripe.cells ≤ done = omega (arith, all, length-cells g stripe has.of has.well_formed) in
    subst (λ (cells : List (List ℕ)). TakesBytes view first now (concat cells) a b) (take_all done stripe.cells whole) has.taken

-- the cells with one more
cells_more : (g : Geometry) (stripe : Stripe) (row slot : ℕ) (sector : List ℕ) → IsStripeOf g stripe → IsWellFormed stripe
    → row < g.r → slot < g.n → sector ≡ get_or stripe.cells (row * stripe.chunks + slot) []
    → concat (take (row * g.n + (slot + 1)) stripe.cells) ≡ concat (take (row * g.n + slot) stripe.cells) ++ sector
cells_more g stripe row slot sector of well row_in slot_in is =
    let done = row * g.n + slot in
    let in_cells : done < length stripe.cells = omega (arith, length-cells g stripe of well, number_in g row slot row_in slot_in) in
    let at : sector ≡ get_or stripe.cells done [] = is ∙ ap (λ n. get_or stripe.cells (row * n + slot) []) of.chunks in
    let front : take (row * g.n + (slot + 1)) stripe.cells ≡ take done stripe.cells ++ sector ∷ [] =
    ap (λ k. take k stripe.cells) (omega arith) ∙ take_more stripe.cells done [] in_cells ∙ ap (λ x. take done stripe.cells ++ x ∷ []) (sym at)
    in
    ap concat front ∙ concat-push (take done stripe.cells) sector

-- one cell more was put out
pub puts_cell : (g : Geometry) (stripe : Stripe) (row slot : ℕ) (sector : List ℕ) (a b c : Option (List ℕ)) → IsStripeOf g stripe → IsWellFormed stripe
    → row < g.r → slot < g.n → sector ≡ get_or stripe.cells (row * stripe.chunks + slot) []
    → Appends a b (concat (take (row * g.n + slot) stripe.cells)) → Appends b c sector
    → Appends a c (concat (take (row * g.n + (slot + 1)) stripe.cells))
puts_cell g stripe row slot sector a b c of well row_in slot_in is before more =
    subst (Appends a c) (sym (cells_more g stripe row slot sector of well row_in slot_in is))
    (Appends-trans a b c (concat (take (row * g.n + slot) stripe.cells)) sector before more)

-- a part of one cell more was put out, and so a part of all cells
pub puts_part : (g : Geometry) (stripe : Stripe) (row slot : ℕ) (sector part : List ℕ) → IsStripeOf g stripe → IsWellFormed stripe
    → row < g.r → slot < g.n → sector ≡ get_or stripe.cells (row * stripe.chunks + slot) []
    → IsPart part sector → IsPart (concat (take (row * g.n + slot) stripe.cells) ++ part) (concat stripe.cells)
puts_part g stripe row slot sector part of well row_in slot_in is in_sector =
    let next = row * g.n + (slot + 1) in
    let front = concat (take (row * g.n + slot) stripe.cells) in
    let behind = concat (drop next stripe.cells) in
    let rest = in_sector.0 in
    let whole : concat stripe.cells ≡ (front ++ part) ++ (rest ++ behind) =
    ap concat (sym (take-append-drop next stripe.cells)) ∙ concat-append (take next stripe.cells) (drop next stripe.cells)
    ∙ ap (λ x. x ++ behind) (cells_more g stripe row slot sector of well row_in slot_in is) ∙ append_assoc front sector behind
    ∙ ap (λ x. front ++ (x ++ behind)) in_sector.1 ∙ ap (λ x. front ++ x) (append_assoc part rest behind)
    ∙ sym (append_assoc front part (rest ++ behind))
    in
    (rest ++ behind, whole, omega (arith, in_sector.2, length-append rest behind))
