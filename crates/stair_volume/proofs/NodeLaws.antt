-- What holds for each node of a command's program, given that it holds after it, holds for the program.
use Rattle.std.proofs.Common.{◌≢◌, ◌+◌, ◌++◌, ◌-◌, ◌*◌, ◌/◌, ◌==◌, ℕ, zero, suc, Bool, true, false, List, [], ◌∷◌, length, replicate, Option, None, Some, Ok, Err, Result}
use Rattle.std.specs.Prelude.{nat_lt}
use Rattle.stair_model.specs.Geometry.{Geometry, block_count}
use Rattle.stair_model.specs.Stripe.{SECTOR}
use Rattle.stair_state.specs.Blocks.{zero_block}
use Rattle.stair_array.specs.Arrays.{blocks_of}
use Rattle.stair_array.specs.Machine.{AlreadyArray, Answer, EpochsSpent, Frozen, Gone, JournalLost, Lost, OutOfRange, ReadBlock, Refusal, SlotBusy, SmallDevice, TooFew, WriteBlocks}
use Rattle.stair_conf.specs.declared.job.VolumeJob.{VolumeJob}
use Rattle.stair_conf.specs.declared.job.VolumeJob.TheVariants as volume
use Rattle.stair_command.specs.Pieces.{part_of, piece_blocks, whole_of}
use Rattle.stair_command.specs.Program.{Program, Over, Put, Take, Try, if_so, take_step, unless_refused}
use Rattle.stair_command.specs.Refused.{status_of_refusal}
use Rattle.stair_command.specs.Transfers.{if_within, is_within, reads, writes, wrote, wrote_line}
use Rattle.stair_status.specs.declared.status.Status.{Status}
use Rattle.stair_status.specs.declared.status.Status.TheVariants.{Done, Input, InputFault, OutOfMemory, OutputFault, Usage}
use Rattle.stair_command.proofs.WriteLaws.{turn}
use Rattle.stair_volume.specs.declared.extent.Entry.{Entry}
use Rattle.stair_volume.specs.declared.extent.Extent.{Extent}
use Rattle.stair_volume.specs.declared.table_fault.TableFault.{TableFault}
use Rattle.stair_volume.specs.declared.table_fault.TableFault.TheVariants as table
use Rattle.stair_volume.specs.Changes.{with_volume, without_volume}
use Rattle.stair_volume.specs.Commands.{PutsSome, TakesSome, clears, dropped_line, if_found, lists, made_line, makes, on_table, ready_line, removes, sets_table, status_of_table, volume_line, volume_program, within_volume}
use Rattle.stair_volume.specs.Page.{table_bytes, table_of}
use Rattle.stair_volume.specs.Table.{Table, find_in, table_with}

-- a status by which a program ends by itself: nothing failed, memory wasn't short, and the words spell a command
abbrev pub IsOwn : Status → Type 0
IsOwn status = (status ≢ InputFault) × (status ≢ OutputFault) × (status ≢ OutOfMemory) × (status ≢ Usage)

pub record IsSoOfNodes (job : VolumeJob) (IsSo : Program → Type 0) : Type 0 where
  pub over : (status : Status) → IsOwn status → IsSo (Over status)
  pub takes :
      TakesSome job → (least most : ℕ) (k short : List ℕ → Program) → ((bytes : List ℕ) → IsSo (k bytes)) → ((bytes : List ℕ) → IsSo (short bytes))
      → IsSo (Take least most k short)
  pub puts_last : (bytes : List ℕ) → IsSo (Put bytes (Over Done))
  pub puts : PutsSome job → (bytes : List ℕ) (program : Program) → IsSo program → IsSo (Put bytes program)
  pub reads :
      (b : ℕ) (k : Answer (ReadBlock b) → Bool → Program) → ((answer : Answer (ReadBlock b)) (left : Bool) → IsSo (k answer left)) → IsSo (Try (ReadBlock b) k)
  pub writes :
      (first : ℕ) (contents : List (List ℕ)) (k : Answer (WriteBlocks first contents) → Bool → Program)
      → ((answer : Answer (WriteBlocks first contents)) (left : Bool) → IsSo (k answer left)) → IsSo (Try (WriteBlocks first contents) k)

refused_own : (slots : ℕ) (refusal : Refusal) → IsOwn (status_of_refusal slots refusal)
refused_own slots (OutOfRange asked limit) = (λ is. cc, λ is. cc, λ is. cc, λ is. cc)
refused_own slots Frozen = (λ is. cc, λ is. cc, λ is. cc, λ is. cc)
refused_own slots (Lost t counts) = (λ is. cc, λ is. cc, λ is. cc, λ is. cc)
refused_own slots (TooFew whys) = (λ is. cc, λ is. cc, λ is. cc, λ is. cc)
refused_own slots EpochsSpent = (λ is. cc, λ is. cc, λ is. cc, λ is. cc)
refused_own slots (JournalLost sector) = (λ is. cc, λ is. cc, λ is. cc, λ is. cc)
refused_own slots (SlotBusy j mark) = (λ is. cc, λ is. cc, λ is. cc, λ is. cc)
refused_own slots (Gone j) = (λ is. cc, λ is. cc, λ is. cc, λ is. cc)
refused_own slots (SmallDevice j has needs) = (λ is. cc, λ is. cc, λ is. cc, λ is. cc)
refused_own slots (AlreadyArray j) = (λ is. cc, λ is. cc, λ is. cc, λ is. cc)

table_own : (why : TableFault) → IsOwn (status_of_table why)
table_own table.NoVolume = (λ is. cc, λ is. cc, λ is. cc, λ is. cc)
table_own table.NameTaken = (λ is. cc, λ is. cc, λ is. cc, λ is. cc)
table_own table.TableFull = (λ is. cc, λ is. cc, λ is. cc, λ is. cc)
table_own (table.NoRoom blocks) = (λ is. cc, λ is. cc, λ is. cc, λ is. cc)

module _ (job : VolumeJob) (g : Geometry) (IsSo : Program → Type 0) (nodes : IsSoOfNodes job IsSo) where
  read_so : (b : ℕ) (k : List ℕ → Program) → ((bytes : List ℕ) → IsSo (k bytes)) → IsSo (take_step g.n (ReadBlock b) k)
  read_so b k behind = nodes.reads b _ by
    where
      by : (answer : Answer (ReadBlock b)) (left : Bool) → IsSo (unless_refused g.n (λ (bytes : List ℕ) (left : Bool). k bytes) answer left)
      by (Ok bytes) left = behind bytes
      by (Err refusal) left = nodes.over (status_of_refusal g.n refusal) (refused_own g.n refusal)

  write_so : (first : ℕ) (contents : List (List ℕ)) (rest : Program) → IsSo rest → IsSo (take_step g.n (WriteBlocks first contents) (λ ok. rest))
  write_so first contents rest behind = nodes.writes first contents _ by
    where
      by : (answer : Answer (WriteBlocks first contents)) (left : Bool) → IsSo (unless_refused g.n (λ (ok : Unit {0}) (left : Bool). rest) answer left)
      by (Ok done) left = behind
      by (Err refusal) left = nodes.over (status_of_refusal g.n refusal) (refused_own g.n refusal)

  clears_so : (turns at left : ℕ) (rest : Program) → IsSo rest → IsSo (clears g turns at left rest)
  clears_so zero at left rest behind = behind
  clears_so (suc turns) at left rest behind =
      piece_so turns at left rest (left == 0) behind (clears_so turns (at + piece_blocks g at left) (left - piece_blocks g at left) rest behind)
    where
      piece_so : (turns at left : ℕ) (rest : Program) (none : Bool) → IsSo rest → IsSo (clears g turns (at + piece_blocks g at left) (left - piece_blocks g at left) rest)
          → IsSo (if_so none rest (take_step g.n (WriteBlocks at (replicate (piece_blocks g at left) zero_block))
          (λ ok. clears g turns (at + piece_blocks g at left) (left - piece_blocks g at left) rest)))
      piece_so turns at left rest true behind next = behind
      piece_so turns at left rest false behind next =
          write_so at (replicate (piece_blocks g at left) zero_block) (clears g turns (at + piece_blocks g at left) (left - piece_blocks g at left) rest) next

  sets_so : (t : Table) (rest : Program) → IsSo rest → IsSo (sets_table g t rest)
  sets_so t rest behind = write_so 0 (table_bytes t.entries ∷ []) rest behind

  lists_so : PutsSome job → (entries : List Entry) → IsSo (lists entries)
  lists_so puts [] = nodes.over Done (λ is. cc, λ is. cc, λ is. cc, λ is. cc)
  lists_so puts (entry ∷ later) = nodes.puts puts (volume_line entry.name entry.extent) (lists later) (lists_so puts later)

  reads_so : PutsSome job → (first count : ℕ) → IsSo (reads g first count)
  reads_so puts first zero = nodes.over Done (λ is. cc, λ is. cc, λ is. cc, λ is. cc)
  reads_so puts first (suc count) =
      read_so first (λ bytes. Put bytes (reads g (first + 1) count)) (λ bytes. nodes.puts puts bytes (reads g (first + 1) count) (reads_so puts (first + 1) count))

  wrote_so : TakesSome job → (all : ℕ) → IsSo (wrote all)
  wrote_so takes all =
      nodes.takes takes 1 1 (λ more. Over (Input (SECTOR * all) (SECTOR * all + 1))) (λ none. Put (wrote_line all) (Over Done))
      (λ more. nodes.over (Input (SECTOR * all) (SECTOR * all + 1)) (λ is. cc, λ is. cc, λ is. cc, λ is. cc)) (λ none. nodes.puts_last (wrote_line all))

  writes_so : TakesSome job → (first all turns done : ℕ) (held : List ℕ) → IsSo (writes g first all turns done held)
  writes_so takes first all zero done held = wrote_so takes all
  writes_so takes first all (suc turns) done held =
      by (nat_lt done all) (λ bytes. writes_so takes first all turns (done + length (held ++ bytes) / SECTOR) (part_of (held ++ bytes)))
    where
      by : (left : Bool)
          → ((bytes : List ℕ) → IsSo (writes g first all turns (done + length (held ++ bytes) / SECTOR) (part_of (held ++ bytes))))
          → IsSo (if_so left (turn g first all turns done held) (wrote all))
      by false again = wrote_so takes all
      by true again =
          nodes.takes takes (SECTOR - length held) (SECTOR * piece_blocks g (first + done) (all - done) - length held) _ _
          (λ bytes. write_so (first + done) (blocks_of (whole_of (held ++ bytes)))
          (writes g first all turns (done + length (held ++ bytes) / SECTOR) (part_of (held ++ bytes))) (again bytes))
          (λ bytes. nodes.over (Input (SECTOR * all) (SECTOR * done + length (held ++ bytes))) (λ is. cc, λ is. cc, λ is. cc, λ is. cc))

  ranged_so : (extent : Extent) (block count : ℕ) (program : Program) → IsSo program → IsSo (within_volume extent block count program)
  ranged_so extent block count program behind = by (is_within extent.blocks block count)
    where
      by : (within : Bool) → IsSo (if_within extent.blocks block within program)
      by true = behind
      by false = nodes.over _ (λ is. cc, λ is. cc, λ is. cc, λ is. cc)

  found_so : (o : Option Extent) (k : Extent → Program) → ((extent : Extent) → IsSo (k extent)) → IsSo (if_found o k)
  found_so None k behind = nodes.over _ (λ is. cc, λ is. cc, λ is. cc, λ is. cc)
  found_so (Some extent) k behind = behind extent

  makes_so : (name : List ℕ) (made : Result Table TableFault) → IsSo (makes g name made)
  makes_so name (Err why) = nodes.over (status_of_table why) (table_own why)
  makes_so name (Ok t) = found_so (find_in t.entries name) _ (λ extent.
      clears_so extent.blocks extent.first extent.blocks (sets_table g t (Put (made_line name extent) (Over Done)))
      (sets_so t (Put (made_line name extent) (Over Done)) (nodes.puts_last (made_line name extent))))

  removes_so : (name : List ℕ) (left : Result Table TableFault) → IsSo (removes g name left)
  removes_so name (Err why) = nodes.over (status_of_table why) (table_own why)
  removes_so name (Ok t) = sets_so t (Put (dropped_line name) (Over Done)) (nodes.puts_last (dropped_line name))

-- with the table that block 0 is, or none
table_so : (job : VolumeJob) (g : Geometry) (IsSo : Program → Type 0) → IsSoOfNodes job IsSo → (o : Option Table) → IsSo (on_table g job o)
table_so volume.Ready g IsSo nodes None =
    sets_so volume.Ready g IsSo nodes (table_with (block_count g) []) (Put ready_line (Over Done)) (nodes.puts_last ready_line)
table_so volume.Ready g IsSo nodes (Some t) = nodes.over _ (λ is. cc, λ is. cc, λ is. cc, λ is. cc)
table_so (volume.Make name blocks) g IsSo nodes None = nodes.over _ (λ is. cc, λ is. cc, λ is. cc, λ is. cc)
table_so (volume.Remove name) g IsSo nodes None = nodes.over _ (λ is. cc, λ is. cc, λ is. cc, λ is. cc)
table_so volume.List g IsSo nodes None = nodes.over _ (λ is. cc, λ is. cc, λ is. cc, λ is. cc)
table_so (volume.Read name block count) g IsSo nodes None = nodes.over _ (λ is. cc, λ is. cc, λ is. cc, λ is. cc)
table_so (volume.Write name block count) g IsSo nodes None = nodes.over _ (λ is. cc, λ is. cc, λ is. cc, λ is. cc)
table_so (volume.Make name blocks) g IsSo nodes (Some t) = makes_so (volume.Make name blocks) g IsSo nodes name (with_volume t name blocks)
table_so (volume.Remove name) g IsSo nodes (Some t) = removes_so (volume.Remove name) g IsSo nodes name (without_volume t name)
table_so volume.List g IsSo nodes (Some t) = lists_so volume.List g IsSo nodes tt t.entries
table_so (volume.Read name block count) g IsSo nodes (Some t) =
    found_so (volume.Read name block count) g IsSo nodes (find_in t.entries name) _ (λ extent.
    ranged_so (volume.Read name block count) g IsSo nodes extent block count (reads g (extent.first + block) count)
    (reads_so (volume.Read name block count) g IsSo nodes tt (extent.first + block) count))
table_so (volume.Write name block count) g IsSo nodes (Some t) =
    found_so (volume.Write name block count) g IsSo nodes (find_in t.entries name) _ (λ extent.
    ranged_so (volume.Write name block count) g IsSo nodes extent block count (writes g (extent.first + block) count count 0 [])
    (writes_so (volume.Write name block count) g IsSo nodes tt (extent.first + block) count count 0 []))

pub volume_so : (job : VolumeJob) (g : Geometry) (IsSo : Program → Type 0) → IsSoOfNodes job IsSo → IsSo (volume_program job g)
volume_so job g IsSo nodes =
    read_so job g IsSo nodes 0 (λ bytes. on_table g job (table_of (block_count g) bytes)) (λ bytes. table_so job g IsSo nodes (table_of (block_count g) bytes))
