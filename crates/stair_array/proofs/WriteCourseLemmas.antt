-- What a write of blocks does to what a session knows of its slots, and who is left out in it, on any rack.
use Rattle.std.proofs.Common.{ℕ, List, sym, None, Some}
use Rattle.std.specs.Prelude.{Err, IsTrue, Ok, Result}
use Rattle.stair_model.specs.CellSet.{CellSet, HasCell}
use Rattle.stair_model.specs.Stripe.{Stripe}
use Rattle.stair_member.specs.Membership.{IsMembership}
use Rattle.stair_stripes.specs.Gathering.{IsCellOf}
use Rattle.stair_state.specs.Redoing.{AtRest}
use Rattle.stair_invariant.specs.Effects.{Snapshot}
use Rattle.stair_array.specs.Calls.{LoadsStripe, Prepares, WritesBlocks}
use Rattle.stair_array.specs.Machine.{Refusal}
use Rattle.stair_array.proofs.AnsweredLemmas.{IsLeftOut, honest_before, left_out_join, never_answered, redo_left_out}
use Rattle.stair_array.proofs.CourseLemmas.{load_part, redo_part}
use Rattle.stair_array.proofs.PartsLemmas.{IsPart, part_join, part_none}
use Rattle.stair_array.proofs.ReadCourseLemmas.{load_left_out, loaded_part}

-- ITS PARTS

pub prepared_part : (t count : ℕ) (cells : CellSet) (loaded : Stripe) (answer : Result (Unit {0}) Refusal) (x z : Snapshot)
    → Prepares t count cells loaded answer x z → IsMembership x.member → IsPart 0 x z
prepared_part t count cells loaded _ _ _ (Prepares.Filled x full) rules = part_none x rules
prepared_part t count cells loaded _ _ _ (Prepares.ByCells gathered was x y few loads all) rules =
    load_part t (HasCell cells) gathered was loaded None x y loads rules
prepared_part t count cells loaded _ _ _ (Prepares.Stops gathered was fault x y few loads) rules =
    load_part t (HasCell cells) gathered was loaded (Some fault) x y loads rules
prepared_part t count cells loaded _ _ _ (Prepares.AfterCells gathered was into i j answer x y z few loads erased whole) rules =
    let first = load_part t (HasCell cells) gathered was into None x y loads rules in
    part_join 0 0 x y z first (loaded_part t loaded answer y z whole first.rules)
prepared_part t count cells loaded _ _ _ (Prepares.ByStripe i j answer x y few has away whole) rules = loaded_part t loaded answer x y whole rules

pub written_part : (first : ℕ) (contents : List (List ℕ)) (answer : Result (Unit {0}) Refusal) (x z : Snapshot) → WritesBlocks first contents answer x z
    → IsMembership x.member → IsPart 0 x z
written_part first contents _ _ _ (WritesBlocks.OutOf x past) rules = part_none x rules
written_part first contents _ _ _ (WritesBlocks.IsFrozen x below frozen) rules = part_none x rules
written_part first contents _ _ _ (WritesBlocks.Unready t cells loaded refusal x y place ready) rules =
    prepared_part t _ cells loaded (Err refusal) x y ready rules
written_part first contents _ _ _ (WritesBlocks.Wrote redo loaded stripe refusal x y z place formed ready set run) rules =
    let sooner = prepared_part redo.stripe _ redo.cells loaded (Ok tt) x y ready rules in
    part_join 0 0 x y z sooner (redo_part x.member.array.geometry redo stripe AtRest refusal y z run sooner.rules (sym sooner.geometry) formed)

-- WHO IS LEFT OUT

whole_left_out : (t : ℕ) (into : Stripe) (answer : Result (Unit {0}) Refusal) (x y : Snapshot) → LoadsStripe t into answer x y → IsTrue y.told.honest
    → IsLeftOut x y
whole_left_out t into _ _ _ (LoadsStripe.Loaded was read gathered answer x y loads is) honest =
    load_left_out t (IsCellOf x.member.array.geometry) gathered was read None x y loads honest
whole_left_out t into _ _ _ (LoadsStripe.Stops was read gathered fault x y loads) honest =
    load_left_out t (IsCellOf x.member.array.geometry) gathered was read (Some fault) x y loads honest

prepared_left_out : (t count : ℕ) (cells : CellSet) (loaded : Stripe) (answer : Result (Unit {0}) Refusal) (x z : Snapshot)
    → Prepares t count cells loaded answer x z → IsMembership x.member → IsTrue z.told.honest → IsLeftOut x z
prepared_left_out t count cells loaded _ _ _ (Prepares.Filled x full) rules honest =
    λ j call here was gone. absurd (never_answered j call x.told.history was)
prepared_left_out t count cells loaded _ _ _ (Prepares.ByCells gathered was x y few loads all) rules honest =
    load_left_out t (HasCell cells) gathered was loaded None x y loads honest
prepared_left_out t count cells loaded _ _ _ (Prepares.Stops gathered was fault x y few loads) rules honest =
    load_left_out t (HasCell cells) gathered was loaded (Some fault) x y loads honest
prepared_left_out t count cells loaded _ _ _ (Prepares.AfterCells gathered was into i j answer x y z few loads erased whole) rules honest =
    let first = load_part t (HasCell cells) gathered was into None x y loads rules in
    let second = loaded_part t loaded answer y z whole first.rules in
    left_out_join 0 0 x y z first second honest
    (load_left_out t (HasCell cells) gathered was into None x y loads (honest_before y.told z.told second.after honest))
    (whole_left_out t loaded answer y z whole honest)
prepared_left_out t count cells loaded _ _ _ (Prepares.ByStripe i j answer x y few has away whole) rules honest =
    whole_left_out t loaded answer x y whole honest

pub written_left_out : (first : ℕ) (contents : List (List ℕ)) (answer : Result (Unit {0}) Refusal) (x z : Snapshot)
    → WritesBlocks first contents answer x z → IsMembership x.member → IsTrue z.told.honest → IsLeftOut x z
written_left_out first contents _ _ _ (WritesBlocks.OutOf x past) rules honest =
    λ j call here was gone. absurd (never_answered j call x.told.history was)
written_left_out first contents _ _ _ (WritesBlocks.IsFrozen x below frozen) rules honest =
    λ j call here was gone. absurd (never_answered j call x.told.history was)
written_left_out first contents _ _ _ (WritesBlocks.Unready t cells loaded refusal x y place ready) rules honest =
    prepared_left_out t _ cells loaded (Err refusal) x y ready rules honest
written_left_out first contents _ _ _ (WritesBlocks.Wrote redo loaded stripe refusal x y z place formed ready set run) rules honest =
    let sooner = prepared_part redo.stripe _ redo.cells loaded (Ok tt) x y ready rules in
    let of_y = sym sooner.geometry in
    let second = redo_part x.member.array.geometry redo stripe AtRest refusal y z run sooner.rules of_y formed in
    left_out_join 0 0 x y z sooner second honest
    (prepared_left_out redo.stripe _ redo.cells loaded (Ok tt) x y ready rules (honest_before y.told z.told second.after honest))
    (redo_left_out x.member.array.geometry redo stripe AtRest refusal y z run sooner.rules of_y formed honest)
