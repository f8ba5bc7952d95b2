-- Each command, of its parts.
use Rattle.std.proofs.Common.{◌≡◌, ◌≢◌, ◌∙◌, ◌+◌, ◌*◌, ◌^◌, ◌<◌, ◌≤◌, ℕ, zero, suc, List, Ok, Err, Result, None, Some, Option, Bool, ap, ap₂, arith, refl, subst, sym}
use Rattle.std.proofs.lemmas.Bool.{le-leb}
use Rattle.std.proofs.lemmas.List.Elements.{All-contains}
use Rattle.std.specs.Result.{IsErrAnd}
use Rattle.stair_model.specs.Geometry.{Geometry, block_count}
use Rattle.stair_array.specs.Arrays.{answer_as}
use Rattle.stair_array.specs.Machine.{ReadBlock, Refusal}
use Rattle.stair_array.specs.declared.fault.ArrayFault.{ArrayFault}
use Rattle.stair_conf.specs.declared.job.VolumeJob.{VolumeJob}
use Rattle.stair_conf.specs.declared.job.VolumeJob.TheVariants as volume
use Rattle.stair_array.specs.Machine as array
use Rattle.stair_array.specs.declared.fault.ArrayFault.TheVariants as refused
use Rattle.stair_command.specs.Comes.{ExecutesOnDevices}
use Rattle.stair_command.specs.Devices.{DeviceView, Devices, ExecutesWith}
use Rattle.stair_command.specs.Ending.{TakesNothing}
use Rattle.stair_command.specs.Outside.{SinkView, SourceView, Views, no_source, outside}
use Rattle.stair_command.specs.Program.{Program, Over, Put, unless_refused}
use Rattle.stair_command.specs.Refused.{status_of_refusal}
use Rattle.stair_command.specs.Steps.{Takes}
use Rattle.stair_command.specs.Talks.{PutsTo}
use Rattle.stair_command.specs.Transfers.{if_within, reads}
use Rattle.stair_status.specs.declared.status.Status.TheVariants.{Done, InputFault, NoTable, OutOfRange}
use Rattle.stair_command.proofs.DeviceLaws.{with_source, with_then}
use Rattle.stair_volume.specs.declared.extent.Entry.{Entry}
use Rattle.stair_volume.specs.declared.extent.Extent.{Extent}
use Rattle.stair_volume.specs.declared.fault.VolumeFault.{VolumeFault}
use Rattle.stair_volume.specs.declared.fault.VolumeFault.TheVariants as fault
use Rattle.stair_volume.specs.declared.table_fault.TableFault.TheVariants.{NoVolume}
use Rattle.stair_volume.specs.Changes.{volume_of}
use Rattle.stair_volume.specs.Commands.{if_found, on_table, status_of, status_of_volume, volume_program, within_volume}
use Rattle.stair_volume.specs.Page.{table_of}
use Rattle.stair_volume.specs.Parts.{IsFirstBlock, IsNoRange, after_done, after_steps}
use Rattle.stair_volume.specs.Table.{IsTable, IsVolume, Table, find_in}
use Rattle.stair_volume.proofs.ChangeLaws.{find_is_volume}
use Rattle.stair_volume.proofs.CommandLaws.{Did, did_come, did_end, did_fail, did_none, did_put, did_so}
use Rattle.stair_volume.proofs.StepLaws.{comes_read}

-- ---- ranges

-- what is done in a range of a volume
abbrev pub in_range : List Entry → (name : List ℕ) → (block count : ℕ) → (ℕ → ℕ → Program) → Program
in_range entries name block count k =
    if_found (find_in entries name) (λ extent. within_volume extent block count (k (extent.first + block) count))

-- a range of a volume ends within the array
pub range_within : (table : Table) (name : List ℕ) (extent : Extent) (block count : ℕ) → IsTable table → find_in table.entries name ≡ Some extent
    → block + count ≤ extent.blocks → extent.first + block + count ≤ table.blocks
range_within table name extent block count rules found within =
    let volume : IsVolume table.blocks (volume_of name extent) =
    All-contains (IsVolume table.blocks) table.entries (volume_of name extent) rules.volumes ((find_is_volume table name extent rules).0 found) in
    omega (arith, volume.within.inside)

pub range_fits : (table : Table) (name : List ℕ) (extent : Extent) (block count : ℕ) → IsTable table → find_in table.entries name ≡ Some extent
    → block + count ≤ extent.blocks → extent.first + block + count < 2 ^ 37
range_fits table name extent block count rules found within =
    omega (arith, range_within table name extent block count rules found within, rules.size)

-- so its numbers of blocks and bytes are small
pub range_small : (first count : ℕ) → (0 < count → first + count < 2 ^ 37) → first < 2 ^ 64 → (first + count < 2 ^ 64) × (512 * count < 2 ^ 63)
range_small first zero fits below = (omega (arith, below), omega arith)
range_small first (suc count) fits below = let few = fits (omega arith) in (omega (arith, few), omega (arith, few))

-- it hasn't this one
pub range_past : (slots : ℕ) (entries : List Entry) (name : List ℕ) (block count : ℕ) (k : ℕ → ℕ → Program) (why : VolumeFault)
    → IsNoRange entries name block count why → in_range entries name block count k ≡ Over (status_of_volume slots why)
range_past slots entries name block count k (fault.Table NoVolume) none =
    ap (λ (found : Option Extent). if_found found (λ extent. within_volume extent block count (k (extent.first + block) count))) none
range_past slots entries name block count k (fault.Array (refused.OutOfRange asked limit)) past =
    ap (λ (found : Option Extent). if_found found (λ extent. within_volume extent block count (k (extent.first + block) count))) past.1
    ∙ ap (λ (within : Bool). if_within past.0.blocks block within (k (past.0.first + block) count)) past.2
    ∙ ap₂ (λ (asked limit : ℕ). Over (OutOfRange asked limit)) (sym past.3) (sym past.4)
range_past slots entries name block count k _ past = absurd past

-- it has, or nothing is done
pub range_inside : (entries : List Entry) (name : List ℕ) (block count first : ℕ) (k : ℕ → ℕ → Program) → ((a b : ℕ) → k a 0 ≡ k b 0)
    → IsFirstBlock entries name block count first → in_range entries name block count k ≡ k first count
range_inside entries name block zero first k none range =
    ap (λ (found : Option Extent). if_found found (λ extent. within_volume extent block 0 (k (extent.first + block) 0))) range.found
    ∙ none (range.extent.first + block) first
range_inside entries name block (suc count) first k none range =
    ap (λ (found : Option Extent). if_found found (λ extent. within_volume extent block (suc count) (k (extent.first + block) (suc count)))) range.found
    ∙ ap (λ (within : Bool). if_within range.extent.blocks block within (k (range.extent.first + block) (suc count)))
    (le-leb (block + suc count) range.extent.blocks (range.within (omega arith)))
    ∙ ap (λ (b : ℕ). k b (suc count)) (sym (range.is (omega arith)))

-- ---- reading takes nothing

refusal_no_input : (slots : ℕ) (refusal : Refusal) → status_of_refusal slots refusal ≢ InputFault
refusal_no_input slots (array.OutOfRange asked limit) = λ is. cc
refusal_no_input slots array.Frozen = λ is. cc
refusal_no_input slots (array.Lost stripe counts) = λ is. cc
refusal_no_input slots (array.TooFew whys) = λ is. cc
refusal_no_input slots array.EpochsSpent = λ is. cc
refusal_no_input slots (array.JournalLost sector) = λ is. cc
refusal_no_input slots (array.SlotBusy slot was) = λ is. cc
refusal_no_input slots (array.Gone slot) = λ is. cc
refusal_no_input slots (array.SmallDevice slot has needs) = λ is. cc
refusal_no_input slots (array.AlreadyArray slot) = λ is. cc

put_untaken : (slots : ℕ) (rest : Program) → TakesNothing rest → (answer : Result (List ℕ) Refusal) (left : Bool)
    → TakesNothing (unless_refused slots (λ bytes left. Put bytes rest) answer left)
put_untaken slots rest none (Ok bytes) left = none
put_untaken slots rest none (Err refusal) left = refusal_no_input slots refusal

reads_untaken : (g : Geometry) (first count : ℕ) → TakesNothing (reads g first count)
reads_untaken g first zero = λ is. cc
reads_untaken g first (suc count) = put_untaken g.n (reads g (first + 1) count) (reads_untaken g (first + 1) count)

-- so it does the same over any source
pub did_read : {R W S K : Type 0} (view : DeviceView R W) (source : SourceView S) (sink : SinkView K) (g : Geometry) (first count : ℕ) (rest : Program)
    (a : S) {k l : K} {x y : Devices R W} → Did view (record { source = no_source; sink = sink }) (reads g first count) tt k x rest tt l y
    → Did view (record { source = source; sink = sink }) (reads g first count) a k x rest a l y
did_read view source sink g first count rest a {k} {l} {x} {y} did counter =
    with_source view source sink (reads g first count) rest k l counter counter x y (reads_untaken g first count) (did counter) a

-- ---- commands

module _ {R W S K : Type 0} (view : DeviceView R W) (streams : Views S K) {program : Program} {a : S} {k : K} {x : Devices R W} where
  -- a program that is this one
  pub did_as : {other rest : Program} {b : S} {l : K} {y : Devices R W} → program ≡ other → Did view streams other a k x rest b l y
      → Did view streams program a k x rest b l y
  did_as {other} {rest} {b} {l} {y} same did = subst (λ (p : Program). Did view streams p a k x rest b l y) (sym same) did

  -- it is over
  pub did_over : (rest : Program) → program ≡ rest → Did view streams program a k x rest a k x
  did_over rest over = did_so view streams program a k x a k x over (did_none view streams program a k x)

  pub did_over_by : (slots : ℕ) (result : Result (Unit {0}) VolumeFault) (why : VolumeFault) → IsErrAnd result (λ f. f ≡ why)
      → program ≡ Over (status_of_volume slots why) → Did view streams program a k x (Over (status_of slots result)) a k x
  did_over_by slots result why is over = did_fail view streams program a k x slots a k x result why is (did_over (Over (status_of_volume slots why)) over)

  -- something was done to the devices, and it is over
  pub did_fault : {y : Devices R W} (slots : ℕ) (result : Result (Unit {0}) VolumeFault) (why : VolumeFault) → IsErrAnd result (λ f. f ≡ why)
      → ExecutesOnDevices view program (Over (status_of_volume slots why)) x y → Did view streams program a k x (Over (status_of slots result)) a k y
  did_fault {y} slots result why is comes =
      did_fail view streams program a k x slots a k y result why is (did_come view streams program a k x a k (did_none view streams program a k x) comes)

  -- or a line is put out
  pub did_line : {y : Devices R W} {l : K} (slots : ℕ) (line other : List ℕ) (result : Result (Unit {0}) VolumeFault) → other ≡ line
      → ExecutesOnDevices view program (Put line (Over Done)) x y → PutsTo streams.sink (Put other (Over Done)) (after_done slots result (Over Done)) k l
      → Did view streams program a k x (Over (status_of slots result)) a l y
  did_line {y} {l} slots line other result same comes puts =
      did_end view streams program a k x slots a l y result
      (did_put view streams program a k x a y (did_come view streams program a k x a k (did_none view streams program a k x) comes)
      (subst (λ (said : List ℕ). PutsTo streams.sink (Put said (Over Done)) (after_done slots result (Over Done)) k l) same puts))

  -- all that was done was put out
  pub did_puts : {rest : Program} {l : K} → PutsTo streams.sink program rest k l → Did view streams program a k x rest a l x
  did_puts puts = did_put view streams program a k x a x (did_none view streams program a k x) puts

-- ---- the table

-- one that isn't there is no table of this array's
pub none_ready : (g : Geometry) (job : VolumeJob) → (job ≡ volume.Ready → ⊥) → on_table g job None ≡ Over NoTable
none_ready g volume.Ready other = absurd (other refl)
none_ready g (volume.Make name blocks) other = refl
none_ready g (volume.Remove name) other = refl
none_ready g volume.List other = refl
none_ready g (volume.Read name block count) other = refl
none_ready g (volume.Write name block count) other = refl

-- block 0 was read, or not
module _ {R W S K : Type 0} (view : DeviceView R W) (streams : Views S K) (job : VolumeJob) (g : Geometry) (page : List ℕ) (a : S) (k : K) {x y : Devices R W} where
  pub page_read : (result : Result (Unit {0}) ArrayFault) → Takes view (ReadBlock 0) (answer_as page result) x y
      → Did view streams (volume_program job g) a k x (after_steps g.n result (on_table g job (table_of (block_count g) page))) a k y
  page_read result takes =
      did_come view streams (volume_program job g) a k x a k (did_none view streams (volume_program job g) a k x)
      (comes_read view g.n 0 page result (λ bytes. on_table g job (table_of (block_count g) bytes)) takes)

  -- what is done after it, of an array whose geometry is this one
  module _ (takes : Takes view (ReadBlock 0) (Ok page) x y) (h : Geometry) (same : h ≡ g) (count : ℕ) (all : count ≡ block_count h) (table : Option Table)
      (is : table ≡ table_of count page) {b : S} {l : K} {z : Devices R W} where
    pub page_then : (result : Result (Unit {0}) VolumeFault) → Did view streams (on_table h job table) a k y (Over (status_of h.n result)) b l z
        → Did view streams (volume_program job g) a k x (Over (status_of g.n result)) b l z
    page_then result did counter =
        let read : table_of (block_count g) page ≡ table = ap (λ (n : ℕ). table_of n page) (ap block_count (sym same) ∙ sym all) ∙ sym is in
        with_then view streams (did_so view streams (volume_program job g) a k x a k y (ap (on_table g job) read) (page_read (Ok tt) takes) counter)
        (subst (λ (of : Geometry). ExecutesWith view streams (on_table of job table) (Over (status_of of.n result)) (outside a k counter) (outside b l counter) y z) same
        (did counter))
