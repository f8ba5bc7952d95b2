-- The commands that change which volumes there are: a fault that ends them, and how their parts are joined.
use Rattle.std.proofs.Common.{◌≡◌, ◌∙◌, ◌+◌, ◌≤◌, ℕ, List, [], Ok, Err, Result, None, Option, Some, ap, arith, refl, subst, sym}
use Rattle.std.proofs.lemmas.List.Elements.{All-contains}
use Rattle.std.specs.Option.{ok_or}
use Rattle.std.specs.Result.{IsErrAnd}
use Rattle.stair_model.specs.Geometry.{Geometry, block_count}
use Rattle.stair_conf.specs.declared.job.VolumeJob.TheVariants as volume
use Rattle.stair_array.specs.declared.fault.ArrayFault.{ArrayFault}
use Rattle.stair_command.specs.Comes.{ExecutesOnDevices}
use Rattle.stair_command.specs.Devices.{DeviceView, Devices}
use Rattle.stair_command.specs.Program.{Program, Over, Put}
use Rattle.stair_status.specs.declared.status.Status.TheVariants.{Done}
use Rattle.stair_command.proofs.ComesLaws.{comes_none, comes_then}
use Rattle.stair_volume.specs.declared.extent.Extent.{Extent}
use Rattle.stair_volume.specs.declared.fault.VolumeFault.{VolumeFault}
use Rattle.stair_volume.specs.declared.table_fault.TableFault.{TableFault}
use Rattle.stair_volume.specs.declared.table_fault.TableFault.TheVariants.{NoVolume}
use Rattle.stair_volume.specs.Changes.{volume_of, with_volume, without_volume}
use Rattle.stair_volume.specs.Commands.{clears, dropped_line, if_found, made_line, makes, on_table, ready_line, removes, sets_table, status_of_table, status_of_volume}
use Rattle.stair_volume.specs.Parts.{after_line, after_steps}
use Rattle.stair_volume.specs.Table.{IsTable, IsVolume, Table, find_in, table_with}
use Rattle.stair_volume.proofs.ChangeLaws.{find_is_volume, added_by_with}

-- a fault that was handed on
line_fails : (slots : ℕ) (result : Result (List ℕ) VolumeFault) (why : VolumeFault) → IsErrAnd result (λ f. f ≡ why)
    → Over (status_of_volume slots why) ≡ after_line slots result
line_fails slots (Ok line) why is = absurd is
line_fails slots (Err f) why is = ap (λ (f : VolumeFault). Over (status_of_volume slots f)) (sym is)

-- the blocks of a name, or the fault where it has none
pub found_ok : (found : Option Extent) (result : Result Extent TableFault) (extent : Extent) → result ≡ ok_or found NoVolume → result ≡ Ok extent
    → found ≡ Some extent
found_ok None result extent or is = let no : ◌≡◌ {A = Result Extent TableFault} (Err NoVolume) (Ok extent) = sym or ∙ is in cc
found_ok (Some e) result extent or is = let one : ◌≡◌ {A = Result Extent TableFault} (Ok e) (Ok extent) = sym or ∙ is in cc

pub record NoneFound (found : Option Extent) (why : TableFault) : Type 0 where
  pub none : found ≡ None
  pub fault : why ≡ NoVolume

pub found_err : (found : Option Extent) (result : Result Extent TableFault) (why : TableFault) → result ≡ ok_or found NoVolume → result ≡ Err why
    → NoneFound found why
found_err None result why or is =
    let one : ◌≡◌ {A = Result Extent TableFault} (Err NoVolume) (Err why) = sym or ∙ is in record { none = refl; fault = cc }
found_err (Some e) result why or is = let no : ◌≡◌ {A = Result Extent TableFault} (Ok e) (Err why) = sym or ∙ is in cc

-- the blocks of a new volume are of the array
pub made_within : (table grown : Table) (name : List ℕ) (blocks size : ℕ) (extent : Extent) → with_volume table name blocks ≡ Ok grown → IsTable grown
    → find_in grown.entries name ≡ Some extent → table.blocks ≡ size → extent.first + extent.blocks ≤ size
made_within table grown name blocks size extent made rules found of =
    let adds = added_by_with table grown name blocks made in
    let volume : IsVolume grown.blocks (volume_of name extent) =
    All-contains (IsVolume grown.blocks) grown.entries (volume_of name extent) rules.volumes ((find_is_volume grown name extent rules).0 found) in
    omega (arith, volume.within.inside, ap (λ (t : Table). t.blocks) adds.is, of)

module _ {R W : Type 0} (view : DeviceView R W) {x y : Devices R W} where
  -- a fault ends a command
  pub comes_failed : {program : Program} (slots : ℕ) (result : Result (List ℕ) VolumeFault) (why : VolumeFault) → IsErrAnd result (λ f. f ≡ why)
      → ExecutesOnDevices view program (Over (status_of_volume slots why)) x y → ExecutesOnDevices view program (after_line slots result) x y
  comes_failed {program} slots result why is comes = subst (λ (rest : Program). ExecutesOnDevices view program rest x y) (line_fails slots result why is) comes

  pub comes_from : {program other rest : Program} → program ≡ other → ExecutesOnDevices view program rest x y → ExecutesOnDevices view other rest x y
  comes_from {program} {other} {rest} same comes = subst (λ (p : Program). ExecutesOnDevices view p rest x y) same comes

  -- a line is put out after it
  pub comes_line : {program : Program} (slots : ℕ) (line other : List ℕ) → line ≡ other → ExecutesOnDevices view program (Put other (Over Done)) x y
      → ExecutesOnDevices view program (after_line slots (Ok line)) x y
  comes_line {program} slots line other same comes = subst (λ (l : List ℕ). ExecutesOnDevices view program (Put l (Over Done)) x y) (sym same) comes

-- a command that does nothing to devices
pub comes_still : {R W : Type 0} (view : DeviceView R W) (x : Devices R W) {program : Program} (slots : ℕ) (result : Result (List ℕ) VolumeFault) (why : VolumeFault)
    → program ≡ Over (status_of_volume slots why) → IsErrAnd result (λ f. f ≡ why) → ExecutesOnDevices view program (after_line slots result) x x
comes_still view x {program} slots result why over is =
    subst (λ (rest : Program). ExecutesOnDevices view program rest x x) (over ∙ line_fails slots result why is) (comes_none view program x)

-- the table is set, of an array whose geometry is this one
pub set_at : {R W : Type 0} (view : DeviceView R W) {x y : Devices R W} (g h : Geometry) (table : Table) (result : Result (Unit {0}) ArrayFault) (rest : Program)
    → h ≡ g → ((then : Program) → ExecutesOnDevices view (sets_table h table then) (after_steps h.n result then) x y)
    → ExecutesOnDevices view (sets_table g table rest) (after_steps g.n result rest) x y
set_at view {x} {y} g h table result rest same sets =
    subst (λ (of : Geometry). ExecutesOnDevices view (sets_table of table rest) (after_steps of.n result rest) x y) same (sets rest)

-- ---- no volumes

pub ready_program : (g h : Geometry) (empty : Table) (count : ℕ) → empty ≡ table_with count [] → count ≡ block_count h → h ≡ g
    → sets_table g empty (Put ready_line (Over Done)) ≡ on_table g volume.Ready None
ready_program g h empty count none all same =
    ap (λ (t : Table). sets_table g t (Put ready_line (Over Done)))
    (none ∙ ap (λ (n : ℕ). table_with n []) (all ∙ ap block_count same))

-- ---- a volume more

-- it isn't in the table
pub made_none : (g : Geometry) (table grown : Table) (name : List ℕ) (blocks : ℕ) → with_volume table name blocks ≡ Ok grown → (why : TableFault)
    → find_in grown.entries name ≡ None → why ≡ NoVolume → makes g name (with_volume table name blocks) ≡ Over (status_of_table why)
made_none g table grown name blocks made why none is =
    ap (makes g name) made ∙ ap (λ (e : Option Extent). if_found e (λ of. clears g of.blocks of.first of.blocks
    (sets_table g grown (Put (made_line name of) (Over Done))))) none ∙ ap (λ (f : TableFault). Over (status_of_table f)) (sym is)

module _ {R W : Type 0} (view : DeviceView R W) (g : Geometry) (table grown : Table) (name : List ℕ) (blocks : ℕ) (made : with_volume table name blocks ≡ Ok grown)
    (extent : Extent) (found : find_in grown.entries name ≡ Some extent) where
  abbrev pub put_made : Program
  put_made = Put (made_line name extent) (Over Done)

  made_program : makes g name (with_volume table name blocks) ≡ clears g extent.blocks extent.first extent.blocks (sets_table g grown put_made)
  made_program =
      ap (makes g name) made ∙ ap (λ (e : Option Extent). if_found e (λ of. clears g of.blocks of.first of.blocks
      (sets_table g grown (Put (made_line name of) (Over Done))))) found

  -- its blocks are cleared, or not
  pub made_clear : {x y : Devices R W} (result : Result (Unit {0}) ArrayFault)
      → ((rest : Program) → ExecutesOnDevices view (clears g extent.blocks extent.first extent.blocks rest) (after_steps g.n result rest) x y)
      → ExecutesOnDevices view (makes g name (with_volume table name blocks)) (after_steps g.n result (sets_table g grown put_made)) x y
  made_clear result clear = comes_from view (sym made_program) (clear (sets_table g grown put_made))

  -- and then the table is set, or not
  pub made_set : {x y z : Devices R W} (h : Geometry) (result : Result (Unit {0}) ArrayFault)
      → ((rest : Program) → ExecutesOnDevices view (clears g extent.blocks extent.first extent.blocks rest) rest x y) → h ≡ g
      → ((rest : Program) → ExecutesOnDevices view (sets_table h grown rest) (after_steps h.n result rest) y z)
      → ExecutesOnDevices view (makes g name (with_volume table name blocks)) (after_steps g.n result put_made) x z
  made_set h result clear same sets = comes_then view (made_clear (Ok tt) clear) (set_at view g h grown result put_made same sets)

-- ---- a volume less

pub removed_set : {R W : Type 0} (view : DeviceView R W) {x y : Devices R W} (g : Geometry) (table shrunk : Table) (name : List ℕ)
    (result : Result (Unit {0}) ArrayFault) → without_volume table name ≡ Ok shrunk
    → ((rest : Program) → ExecutesOnDevices view (sets_table g shrunk rest) (after_steps g.n result rest) x y)
    → ExecutesOnDevices view (removes g name (without_volume table name)) (after_steps g.n result (Put (dropped_line name) (Over Done))) x y
removed_set view g table shrunk name result removed sets =
    comes_from view (sym (ap (removes g name) removed)) (sets (Put (dropped_line name) (Over Done)))
