-- The bytes of erased cells make no difference.
use Rattle.std.proofs.Common.{◌≡◌, ◌≢◌, ℕ, zero, suc, ◌+◌, ◌*◌, ◌<◌, ◌↔◌, inl, inr, List, [], ◌∷◌, ◌++◌, length, take, drop, get_or, refl, sym, ap, ◌∙◌, subst, arith, length-drop, take-append-drop}
use Rattle.std.specs.Prelude.{All}
use Rattle.std.specs.List.{concat}
use Rattle.std.proofs.lemmas.Bool.{cases_lt}
use Rattle.std.proofs.lemmas.List.{length-take-le, take_all, take-append-le}
use Rattle.std.proofs.lemmas.List.Elements.{All-nil, All-cons, All-head, All-tail, All-take, All-drop}
use lib.Seq.{drop-append-add}
use Rattle.stair_model.specs.Geometry.{Geometry}
use Rattle.stair_model.specs.Stripe.{Stripe, IsSector, cell}
use Rattle.stair_model.specs.CellSet.{CellSet, HasCell}
use Rattle.stair_status.specs.declared.status.Status.{Status}
use Rattle.stair_status.specs.declared.status.Status.TheVariants.{Done, NotCodeword, NoCodeword, Limit, Input, Lost}
use Rattle.stair_conf.specs.declared.job.StripeCommand.TheVariants.{Restore}
use Rattle.stair_command.specs.Answer.{HasBytes, IsAnswer, IsJudged, cell_bytes, map_bytes}
use Rattle.stair_engine.specs.Laws.{DifferAtErased, cell_of_input}
use Rattle.stair_command.specs.Restore.{HoldsCells, IsErasedBy, JudgesErased}
use Rattle.stair_model.proofs.StripeLaws.{number_in}
use Rattle.stair_engine.proofs.CellLaws.{length-cells}

empty-length : (xs : List ℕ) → length xs ≡ 0 → xs ≡ []
empty-length [] none = refl
empty-length (x ∷ xs) none = absurd (omega (arith, none))

-- bytes, sector by sector
sectors_of : ℕ → List ℕ → List (List ℕ)
sectors_of zero bytes = []
sectors_of (suc n) bytes = take 512 bytes ∷ sectors_of n (drop 512 bytes)

concat-sectors_of : (n : ℕ) (bytes : List ℕ) → length bytes ≡ n * 512 → concat (sectors_of n bytes) ≡ bytes
unfolding sectors_of
concat-sectors_of zero bytes long = sym (empty-length bytes (omega (arith, long)))
concat-sectors_of (suc n) bytes long =
    ap (λ rest. take 512 bytes ++ rest) (concat-sectors_of n (drop 512 bytes) (omega (arith, long, length-drop 512 bytes)))
    ∙ take-append-drop 512 bytes

length-sectors_of : (n : ℕ) (bytes : List ℕ) → length (sectors_of n bytes) ≡ n
unfolding sectors_of
length-sectors_of zero bytes = refl
length-sectors_of (suc n) bytes = omega (arith, length-sectors_of n (drop 512 bytes))

all-sectors_of : (n : ℕ) (bytes : List ℕ) → length bytes ≡ n * 512 → All (λ x. x < 256) bytes → All IsSector (sectors_of n bytes)
unfolding sectors_of
all-sectors_of zero bytes long small = All-nil IsSector
all-sectors_of (suc n) bytes long small =
    All-cons IsSector (take 512 bytes) (sectors_of n (drop 512 bytes))
    (length-take-le 512 bytes (omega (arith, long)), All-take (λ x. x < 256) 512 bytes small)
    (all-sectors_of n (drop 512 bytes) (omega (arith, long, length-drop 512 bytes)) (All-drop (λ x. x < 256) 512 bytes small))

-- a sector among the bytes of all
sector_at : (xs : List (List ℕ)) (k : ℕ) → All IsSector xs → k < length xs → get_or xs k [] ≡ take 512 (drop (k * 512) (concat xs))
sector_at [] k sectors below = absurd (omega (arith, below))
sector_at (x ∷ xs) zero sectors below =
    let long : length x ≡ 512 = (All-head IsSector x xs sectors).0 in
    sym (take-append-le 512 x (concat xs) (omega (arith, long)) ∙ take_all 512 x (omega (arith, long)))
sector_at (x ∷ xs) (suc k) sectors below =
    let long : length x ≡ 512 = (All-head IsSector x xs sectors).0 in
    let at : suc k * 512 ≡ length x + k * 512 = omega (arith, long) in
    sector_at xs k (All-tail IsSector x xs sectors) (omega (arith, below))
    ∙ sym (ap (λ d. take 512 (drop d (x ++ concat xs))) at ∙ ap (take 512) (drop-append-add x (concat xs) (k * 512)))

-- the stripe that the bytes after the map make
stripe_of : (g : Geometry) (bytes : List ℕ) → length bytes ≡ cell_bytes g → All (λ x. x < 256) bytes → (stripe : Stripe) × HasBytes g stripe bytes
stripe_of g bytes long small = (
  record { rows = g.r; chunks = g.n; cells = sectors_of (g.r * g.n) bytes },
  record {
    of = record { rows = refl; chunks = refl };
    well_formed = record { count = length-sectors_of (g.r * g.n) bytes; sectors = all-sectors_of (g.r * g.n) bytes long small };
    same_bytes = concat-sectors_of (g.r * g.n) bytes long;
    count = long;
  },
)

-- a cell of the stripe is a cell of the input
cell-input : (g : Geometry) (stripe : Stripe) (input : List ℕ) → HasBytes g stripe (drop (map_bytes g) input) → (i j : ℕ) → i < g.r → j < g.n
    → cell stripe i j ≡ cell_of_input g input i j
cell-input g stripe input has i j row_in slot_in =
    let k = i * g.n + j in
    let below : k < length stripe.cells = omega (arith, length-cells g stripe has.of has.well_formed, number_in g i j row_in slot_in) in
    ap (λ n. get_or stripe.cells (i * n + j) []) has.of.chunks ∙ sector_at stripe.cells k has.well_formed.sectors below
    ∙ ap (λ bytes. take 512 (drop (k * 512) bytes)) has.same_bytes

-- a cell that isn't erased is held
held_mark : (mark : ℕ) → ¬ (mark ≢ 46) → mark ≡ 46
held_mark mark both =
    elim (cases_lt mark 46) as (λ _. mark ≡ 46) [
      | inl below ↦ absurd (both (λ same. omega (arith, below, same)))
      | inr above ↦ elim (cases_lt 46 mark) as (λ _. mark ≡ 46) [
        | inl past ↦ absurd (both (λ same. omega (arith, past, same)))
        | inr within ↦ omega (arith, above, within)
      ]
    ]

-- the stripes have the same held cells
abbrev SameHeld : Geometry → CellSet → Stripe → Stripe → Type 0
SameHeld g erased a b = (i j : ℕ) → i < g.r → j < g.n → ¬ HasCell erased i j → cell a i j ≡ cell b i j

same_held : (g : Geometry) (a b : List ℕ) (erased : CellSet) (x y : Stripe) → DifferAtErased g a b → IsErasedBy g (take (map_bytes g) a) erased
    → HasBytes g x (drop (map_bytes g) a) → HasBytes g y (drop (map_bytes g) b) → SameHeld g erased x y
same_held g a b erased x y differ by has_x has_y i j row_in slot_in held =
    let mark = get_or (take (map_bytes g) a) (i * g.n + j) 0 in
    let is : mark ≡ 46 = held_mark mark (λ other. held ((by.marked i j row_in slot_in).1 other)) in
    cell-input g x a has_x i j row_in slot_in ∙ differ.same_held i j row_in slot_in is ∙ sym (cell-input g y b has_y i j row_in slot_in)

holds_same : (g : Geometry) (erased : CellSet) (x y codeword : Stripe) → SameHeld g erased x y → HoldsCells g erased x codeword
    → HoldsCells g erased y codeword
holds_same g erased x y codeword same holds = record {
  of = holds.of;
  well_formed = holds.well_formed;
  meets_equations = holds.meets_equations;
  held = λ i j row_in slot_in held. holds.held i j row_in slot_in held ∙ same i j row_in slot_in held;
}

judges_same : (g : Geometry) (erased : CellSet) (x y : Stripe) (status : Status) (output : List ℕ) → SameHeld g erased x y
    → JudgesErased g erased x status output → JudgesErased g erased y status output
judges_same g erased x y (Lost stripe counts n) output same judges = judges
judges_same g erased x y NoCodeword output same judges = (
  judges.0,
  λ codeword holds. judges.1 codeword (holds_same g erased y x codeword (λ i j row_in slot_in held. sym (same i j row_in slot_in held)) holds),
  judges.2,
)
judges_same g erased x y Done output same judges =
    (judges.0, (judges.1.0, holds_same g erased x y judges.1.0 same judges.1.1, judges.1.2))
judges_same g erased x y _ output same judges = absurd judges

judged_same : (g : Geometry) (a b : List ℕ) (status : Status) (output : List ℕ) → DifferAtErased g a b
    → IsJudged Restore g a status output → IsJudged Restore g b status output
judged_same g a b status output differ is =
    let erased = is.judged.0 in
    let x = is.judged.1 in
    let long : length (drop (map_bytes g) b) ≡ cell_bytes g =
    omega (arith, length-drop (map_bytes g) b, differ.same_length, is.whole)
    in
    let made = stripe_of g (drop (map_bytes g) b) long (All-drop (λ v. v < 256) (map_bytes g) b differ.b_bytes) in
    let same : SameHeld g erased x made.0 = same_held g a b erased x made.0 differ is.judged.2 is.judged.3 made.1 in
    record {
      limits = is.limits;
      whole = sym differ.same_length ∙ is.whole;
      judged = (
        erased,
        made.0,
        subst (λ (m : List ℕ). IsErasedBy g m erased) differ.same_map is.judged.2,
        made.1,
        judges_same g erased x made.0 status output same is.judged.4,
      );
    }

answer_same : (g : Geometry) (a b : List ℕ) → DifferAtErased g a b → (status : Status) (output : List ℕ)
    → IsAnswer Restore g a status output → IsAnswer Restore g b status output
answer_same g a b differ (Limit k) output is = is
answer_same g a b differ (Input needed took) output is = (
  is.0,
  record {
    other = λ same. is.1.other (differ.same_length ∙ same);
    needs = is.1.needs;
    takes = omega (arith, is.1.takes, differ.same_length);
  },
  is.2,
)
answer_same g a b differ Done output is = judged_same g a b Done output differ is
answer_same g a b differ (NotCodeword k) output is = judged_same g a b (NotCodeword k) output differ is
answer_same g a b differ NoCodeword output is = judged_same g a b NoCodeword output differ is
answer_same g a b differ (Lost stripe counts n) output is = judged_same g a b (Lost stripe counts n) output differ is
answer_same g a b differ _ output is = absurd is

-- the inputs differ the other way round too
DifferAtErased-sym : (g : Geometry) (a b : List ℕ) → DifferAtErased g a b → DifferAtErased g b a
DifferAtErased-sym g a b differ = record {
  same_length = sym differ.same_length;
  same_map = sym differ.same_map;
  same_held = λ i j row_in slot_in held.
      sym (differ.same_held i j row_in slot_in (ap (λ map. get_or map (i * g.n + j) 0) differ.same_map ∙ held));
  a_bytes = differ.b_bytes;
  b_bytes = differ.a_bytes;
}

pub erased_bytes : (g : Geometry) (a b : List ℕ) → DifferAtErased g a b → (status : Status) (output : List ℕ)
    → IsAnswer Restore g a status output ↔ IsAnswer Restore g b status output
erased_bytes g a b differ status output =
    (answer_same g a b differ status output, answer_same g b a (DifferAtErased-sym g a b differ) status output)
