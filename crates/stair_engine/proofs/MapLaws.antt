-- The erased cells of a map, row by row.
use Rattle.std.proofs.Common.{◌≡◌, ◌≢◌, ℕ, ◌+◌, ◌*◌, ◌<◌, ◌≤◌, ◌⊎◌, ◌↔◌, inl, inr, le_refl, List, [], ◌++◌, length, get_or, refl, sym, ap, ◌∙◌, arith, length-append}
use Rattle.std.proofs.Math.Nat.{mul-le-mul}
use Rattle.std.proofs.lemmas.Bool.{cases_lt}
use Rattle.std.proofs.lemmas.List.{get_or_append_left, get_or-append-add}
use Rattle.stair_model.specs.Geometry.{Geometry}
use Rattle.stair_model.specs.CellSet.{CellSet, HasCell}
use Rattle.stair_command.specs.declared.intake.Intake.{Intake}
use Rattle.stair_command.specs.Outside.{SourceView}
use Rattle.stair_command.specs.Taking.{TakesBytes}
use Rattle.stair_engine.specs.Taking.{TakesMap}
use Rattle.stair_model.proofs.StripeLaws.{number_in}
use Rattle.stair_engine.proofs.CellLaws.{row_more}
use Rattle.stair_command.proofs.IntakeLaws.{TakesBytes-none, TakesBytes-more}

-- of this row, the cells were added whose marks, below `count`, aren't those of held ones
abbrev pub AddsErased : CellSet → CellSet → ℕ → ℕ → List ℕ → Type 0
AddsErased old now row count marks =
    (i j : ℕ) → HasCell now i j ↔ (HasCell old i j ⊎ ((i ≡ row) × (j < count) × (get_or marks j 0 ≢ 46)))

pub AddsErased-none : (set : CellSet) (row : ℕ) (marks : List ℕ) → AddsErased set set row 0 marks
AddsErased-none set row marks i j = (
  λ has. inl has,
  λ either. elim either as (λ _. HasCell set i j) [ inl had ↦ had | inr added ↦ absurd (omega (arith, added.1)) ],
)

-- one more cell is erased
pub AddsErased-erased : (old now next : CellSet) (row slot : ℕ) (marks : List ℕ) → get_or marks slot 0 ≢ 46
    → AddsErased old now row slot marks → ((i j : ℕ) → HasCell next i j ↔ (HasCell now i j ⊎ ((i ≡ row) × (j ≡ slot))))
    → AddsErased old next row (slot + 1) marks
AddsErased-erased old now next row slot marks erased before more i j = (
  λ has. elim ((more i j).0 has) as (λ _. HasCell old i j ⊎ ((i ≡ row) × (j < slot + 1) × (get_or marks j 0 ≢ 46))) [
    | inl had ↦ elim ((before i j).0 had) as (λ _. HasCell old i j ⊎ ((i ≡ row) × (j < slot + 1) × (get_or marks j 0 ≢ 46))) [
      | inl earlier ↦ inl earlier
      | inr added ↦ inr (added.0, omega (arith, added.1), added.2)
    ]
    | inr is ↦ inr (is.0, omega (arith, is.1), λ held. erased (ap (λ k. get_or marks k 0) (sym is.1) ∙ held))
  ],
  λ either. elim either as (λ _. HasCell next i j) [
    | inl earlier ↦ (more i j).1 (inl ((before i j).1 (inl earlier)))
    | inr added ↦ elim (cases_lt j slot) as (λ _. HasCell next i j) [
      | inl below ↦ (more i j).1 (inl ((before i j).1 (inr (added.0, below, added.2))))
      | inr above ↦ (more i j).1 (inr (added.0, omega (arith, added.1, above)))
    ]
  ],
)

-- one more cell is held
pub AddsErased-held : (old now : CellSet) (row slot : ℕ) (marks : List ℕ) → get_or marks slot 0 ≡ 46
    → AddsErased old now row slot marks → AddsErased old now row (slot + 1) marks
AddsErased-held old now row slot marks held before i j = (
  λ has. elim ((before i j).0 has) as (λ _. HasCell old i j ⊎ ((i ≡ row) × (j < slot + 1) × (get_or marks j 0 ≢ 46))) [
    | inl earlier ↦ inl earlier
    | inr added ↦ inr (added.0, omega (arith, added.1), added.2)
  ],
  λ either. elim either as (λ _. HasCell now i j) [
    | inl earlier ↦ (before i j).1 (inl earlier)
    | inr added ↦ elim (cases_lt j slot) as (λ _. HasCell now i j) [
      | inl below ↦ (before i j).1 (inr (added.0, below, added.2))
      | inr above ↦
          let at : j ≡ slot = omega (arith, added.1, above) in
          absurd (added.2 (ap (λ k. get_or marks k 0) at ∙ held))
    ]
  ],
)

-- a row more is within all rows
pub row_in_rows : (row r n : ℕ) → row < r → row * n + n ≤ r * n
row_in_rows row r n below = omega (arith, row_more row n n refl, mul-le-mul below (le_refl n))

-- the first rows of a map were taken, and their erased cells are in the set
pub record HasMapped {S : Type 0} (view : SourceView S) (g : Geometry) (first now : Intake) (erased : CellSet) (row : ℕ) (old new : S) : Type 0 where
  pub map : List ℕ
  pub long : length map ≡ row * g.n
  pub marked : (i j : ℕ) → HasCell erased i j ↔ ((i < row) × (j < g.n) × (get_or map (i * g.n + j) 0 ≢ 46))
  pub taken : TakesBytes view first now map old new
  pub took_is : now.took ≡ first.took + row * g.n
  pub needed_is : now.needed ≡ first.needed

pub HasMapped-none : {S : Type 0} (view : SourceView S) (g : Geometry) (intake : Intake) (erased : CellSet) (a : S) → ((i j : ℕ) → ¬ HasCell erased i j)
    → HasMapped view g intake intake erased 0 a a
HasMapped-none view g intake erased a none = record {
  map = [];
  long = omega arith;
  marked = λ i j. (λ has. absurd (none i j has), λ in_rows. absurd (omega (arith, in_rows.0)));
  taken = TakesBytes-none view intake a;
  took_is = omega arith;
  needed_is = refl;
}

-- one row more
pub HasMapped-more : {S : Type 0} (view : SourceView S) (g : Geometry) (first now next : Intake) (erased erased' : CellSet) (row : ℕ) (marks : List ℕ) (a b c : S)
    → length marks ≡ g.n → HasMapped view g first now erased row a b → TakesBytes view now next marks b c
    → AddsErased erased erased' row (length marks) marks → HasMapped view g first next erased' (row + 1) a c
HasMapped-more view g first now next erased erased' row marks a b c long before gives adds =
    let map = before.map in
    let earlier_mark : (i j : ℕ) → i < row → j < g.n → get_or (map ++ marks) (i * g.n + j) 0 ≡ get_or map (i * g.n + j) 0 =
    λ i j row_in slot_in. get_or_append_left map marks 0 (i * g.n + j)
    (omega (arith, before.long, number_in (record g { r = row }) i j row_in slot_in))
    in
    let this_mark : (j : ℕ) → get_or (map ++ marks) (row * g.n + j) 0 ≡ get_or marks j 0 =
    λ j. ap (λ k. get_or (map ++ marks) (k + j) 0) (sym before.long) ∙ get_or-append-add map marks j 0
    in
    record {
      map = map ++ marks;
      long = omega (arith, length-append map marks, before.long, long);
      marked = λ i j. (
        λ has. elim ((adds i j).0 has) as (λ _. (i < row + 1) × (j < g.n) × (get_or (map ++ marks) (i * g.n + j) 0 ≢ 46)) [
          | inl had ↦
              let was = (before.marked i j).0 had in
              (omega (arith, was.0), was.1, λ held. was.2 (sym (earlier_mark i j was.0 was.1) ∙ held))
          | inr added ↦
              let at : i * g.n + j ≡ row * g.n + j = ap (λ k. k * g.n + j) added.0 in (
                omega (arith, added.0),
                omega (arith, added.1, long),
                λ held. added.2 (sym (ap (λ k. get_or (map ++ marks) k 0) at ∙ this_mark j) ∙ held),
              )
        ],
        λ is. elim (cases_lt i row) as (λ _. HasCell erased' i j) [
          | inl earlier ↦
              (adds i j).1 (inl ((before.marked i j).1 (earlier, is.1, λ held. is.2 (earlier_mark i j earlier is.1 ∙ held))))
          | inr this ↦
              let same : i ≡ row = omega (arith, is.0, this) in
              let at : i * g.n + j ≡ row * g.n + j = ap (λ k. k * g.n + j) same in
              (adds i j).1
              (inr (same, omega (arith, is.1, long), λ held. is.2 (ap (λ k. get_or (map ++ marks) k 0) at ∙ this_mark j ∙ held)))
        ],
      );
      taken = TakesBytes-more view first now next map marks a b c before.taken gives;
      took_is = omega (arith, ap (λ (k : Intake). k.took) gives.counted, before.took_is, long);
      needed_is = ap (λ (k : Intake). k.needed) gives.counted ∙ before.needed_is;
    }

-- all rows
pub HasMapped-all : {S : Type 0} (view : SourceView S) (g : Geometry) (first now : Intake) (erased : CellSet) (row : ℕ) (a b : S) → row ≡ g.r
    → HasMapped view g first now erased row a b → TakesMap view g first now erased a b
HasMapped-all view g first now erased row a b all has = (
  has.map,
  has.long ∙ ap (λ k. k * g.n) all,
  record {
    within = λ i j in_set. let is = (has.marked i j).0 in_set in (omega (arith, is.0, all), is.1);
    marked = λ i j row_in slot_in. (
      λ in_set. ((has.marked i j).0 in_set).2,
      λ erased_is. (has.marked i j).1 (omega (arith, row_in, all), slot_in, erased_is),
    );
  },
  has.taken,
)
