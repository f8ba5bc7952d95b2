-- The geometry's numbers stand at their places.
use Rattle.std.proofs.Common.{◌≡◌, ℕ, ◌≤◌, List, Some, Result, Ok, Err, length, take, sym, ap, subst, ◌∙◌, arith}
use Rattle.std.specs.Prelude.{IfOk, IsOk}
use Rattle.std.specs.Result.{result_ok}
use Rattle.stair_model.specs.Geometry.{Geometry, geometry_of, IsWithinLimits}
use Rattle.stair_base.specs.declared.geometry.GeometryFault.{GeometryFault}
use Rattle.stair_super.specs.Superblock.{Superblock}
use Rattle.stair_super.specs.Spelling.{SpellsSuperblock}
use Rattle.stair_super.proofs.Fields.{laid, n_is, m_is, r_is, classes_is, coverage_is, stripes_is}
use Rattle.stair_super.proofs.reading.geometry_of.Goals as goal

few : (s : Superblock) (bytes : List ℕ) → SpellsSuperblock bytes s → length s.array.geometry.e ≤ 32
few s bytes spells = omega (arith, spells.block.rules.array.limits.covered_chunks, spells.block.rules.array.limits.devices)

pub returns-then-classes-gt32 : goal.returns-then-classes-gt32
returns-then-classes-gt32 c = λ s spells.
    absurd (omega (arith, classes_is c.args.bytes.now s spells, few s c.args.bytes.now spells))

-- a call that succeeds where the limits hold, and answers the geometry of its numbers
answered : (g h : Geometry) (result : Result Geometry GeometryFault) → g ≡ h → IsWithinLimits h → IfOk result (λ x. x ≡ g) → (IsWithinLimits g → IsOk result) → result_ok result ≡ Some h
answered g h (Ok x) same limits ok within = ap Some (ok ∙ same)
answered g h (Err fault) same limits ok within =
    let no : IsOk {T = Geometry} {E = GeometryFault} (Err fault) = within (subst IsWithinLimits (sym same) limits) in
    cc

numbers_same : (g : Geometry) (n m r : ℕ) (e : List ℕ) (stripes : ℕ) (id : List ℕ) → n ≡ g.n → m ≡ g.m → r ≡ g.r → e ≡ g.e → stripes ≡ g.stripes → id ≡ g.id → geometry_of n m r e stripes id ≡ g
numbers_same g n m r e stripes id n-is m-is r-is e-is stripes-is id-is =
    λ i. record { n = n-is i; m = m-is i; r = r-is i; e = e-is i; stripes = stripes-is i; id = id-is i }

pub returns : goal.returns
returns c = λ s spells.
    let bytes = c.args.bytes.now in
    let same = numbers_same s.array.geometry c.from.result c.from-2.result c.from-3.result (take c.from-classes.result c.coverage_of.result) c.from-4.result c.id_of.result
    (c.from.ensures ∙ n_is bytes s spells)
    (c.from-2.ensures ∙ m_is bytes s spells)
    (c.from-3.ensures ∙ r_is bytes s spells)
    (ap (λ (l : List ℕ). take c.from-classes.result l) c.coverage_of.ensures ∙ coverage_is bytes s c.from-classes.result spells (c.from-classes.ensures ∙ classes_is bytes s spells))
    (c.from-4.ensures ∙ c.u32_at.ensures ∙ stripes_is bytes s spells)
    (c.id_of.ensures ∙ (laid bytes s spells).id) in
    c.ok.ensures.value
    ∙ answered _ s.array.geometry c.large.result same spells.block.rules.array.limits c.large.ensures.ok c.large.ensures.within.1
