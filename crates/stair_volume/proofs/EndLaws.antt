-- How the program of each command ends where its array serves.
use Rattle.std.proofs.Common.{◌≡◌, ◌∙◌, ◌+◌, ◌-◌, ◌/◌, ◌<◌, ◌≤◌, ◌++◌, cond, ℕ, zero, suc, Bool, true, false, List, [], ◌∷◌, inl, inr, length, replicate, Option, None, Some, Ok, Err, Result, refl, sym, ap, subst, arith}
use Rattle.std.specs.Prelude.{Contains, is_some, nat_le, nat_lt}
use Rattle.std.proofs.lemmas.Bool.{cases_Bool, false≢true, leb-true, ltb-true, ne_eqb}
use Rattle.std.proofs.Math.Seq.{get_or-append_seam}
use Rattle.std.proofs.lemmas.List.{length-append}
use Rattle.stair_model.specs.Geometry.{Geometry, IsWithinLimits, block_count}
use Rattle.stair_model.specs.Stripe.{SECTOR}
use Rattle.stair_state.specs.Blocks.{zero_block}
use Rattle.stair_state.specs.State.{State}
use Rattle.stair_array.specs.Arrays.{blocks_of}
use Rattle.stair_array.specs.Machine.{Frozen as Freezes, ReadBlock, Refusal, WriteBlocks}
use Rattle.stair_conf.specs.declared.job.VolumeJob.{VolumeJob}
use Rattle.stair_conf.specs.declared.job.VolumeJob.TheVariants as volume
use Rattle.stair_command.specs.Pieces.{part_of, piece_blocks, whole_of}
use Rattle.stair_command.specs.Program.{Program, Over, Put, if_so, take_step}
use Rattle.stair_command.specs.Refused.{status_of_refusal}
use Rattle.stair_command.specs.Served.{EndsServed}
use Rattle.stair_command.specs.Transfers.{if_within, is_within, reads, writes, wrote}
use Rattle.stair_status.specs.declared.status.Status.{Status}
use Rattle.stair_status.specs.declared.status.Status.TheVariants.{Done, Frozen}
use Rattle.stair_command.proofs.PieceLaws.{piece_left, piece_some, some_blocks}
use Rattle.stair_command.proofs.WriteLaws.{turn}
use Rattle.stair_volume.specs.declared.extent.Entry.{Entry}
use Rattle.stair_volume.specs.declared.extent.Extent.{Extent}
use Rattle.stair_volume.specs.declared.table_fault.TableFault.{TableFault}
use Rattle.stair_volume.specs.declared.table_fault.TableFault.TheVariants as table
use Rattle.stair_volume.specs.Changes.{placed, room, volume_of, with_volume, without_entry, without_volume}
use Rattle.stair_volume.specs.Commands.{clears, dropped_line, if_found, lists, made_line, makes, on_table, ready_line, removes, sets_table, status_of_table, volume_program, within_volume}
use Rattle.stair_volume.specs.Ends.{MayEnd}
use Rattle.stair_volume.specs.Page.{HasTable, table_bytes, table_of}
use Rattle.stair_volume.specs.Table.{IsTable, Table, end_of, extent_of, find_in, table_with}
use Rattle.stair_volume.specs.Volumes.{IsCommand}
use Rattle.stair_volume.proofs.ChangeLaws.{Contains-from_find, IsTable-added, added_by_with, find_is_volume}
use Rattle.stair_volume.proofs.ReadingLaws.{has_table_read}

-- an answer that is done is no refusal
refused_not_ok : {T : Type 0} (refusal : Refusal) (answer : Result T Refusal) → answer ≡ Err refusal → answer ≡ Err Freezes → refusal ≡ Freezes
refused_not_ok refusal answer is frozen = cc

module _ (IsEnd : Status → Type 0) (slots : ℕ) where
  -- a block that is there is read
  read_ends : (b : ℕ) (k : List ℕ → Program) (s : State) → b < block_count s.geometry
      → ((bytes : List ℕ) (later : State) → later.geometry ≡ s.geometry → EndsServed IsEnd (k bytes) later)
      → EndsServed IsEnd (take_step slots (ReadBlock b) k) s
  read_ends b k s below then (Ok bytes) left later step = then bytes later step.row.geometry
  read_ends b k s below then (Err refusal) left later step = absurd (false≢true (step.done below))

  -- blocks that are there are written, or the array is frozen
  write_ends : (first : ℕ) (contents : List (List ℕ)) (k : Unit {0} → Program) (s : State) → first < block_count s.geometry → IsEnd Frozen
      → ((later : State) → later.geometry ≡ s.geometry → EndsServed IsEnd (k tt) later)
      → EndsServed IsEnd (take_step slots (WriteBlocks first contents) k) s
  write_ends first contents k s below frozen then (Ok done) left later step = then later step.row.geometry
  write_ends first contents k s below frozen then (Err refusal) left later step =
      elim (cases_Bool s.content.frozen) as (λ _. IsEnd (status_of_refusal slots refusal)) [
        | inl is ↦
            subst (λ (why : Refusal). IsEnd (status_of_refusal slots why))
            (sym (refused_not_ok {T = Unit {0}} refusal (Err refusal) refl (step.frozen below is))) frozen
        | inr thawed ↦ absurd (false≢true (step.done (below, thawed)))
      ]

module _ (job : VolumeJob) (g : Geometry) where
  abbrev Ends : Program → State → Type 0
  Ends program s = EndsServed (MayEnd job) program s

  -- the table is written
  sets_end : (t : Table) (rest : Program) (s : State) → 0 < block_count s.geometry → MayEnd job Frozen
      → ((later : State) → later.geometry ≡ s.geometry → Ends rest later) → Ends (sets_table g t rest) s
  sets_end t rest s some frozen then = write_ends (MayEnd job) g.n 0 (table_bytes t.entries ∷ []) (λ ok. rest) s some frozen then

  -- zeros are
  clears_end : (turns at left : ℕ) (rest : Program) (s : State) → s.geometry ≡ g → left ≤ turns → at + left ≤ block_count g → MayEnd job Frozen
      → ((later : State) → later.geometry ≡ g → Ends rest later) → Ends (clears g turns at left rest) s
  clears_end zero at left rest s same few within frozen then = then s same
  clears_end (suc turns) at zero rest s same few within frozen then = then s same
  clears_end (suc turns) at (suc more) rest s same few within frozen then =
      let left = suc more in
      let piece = piece_blocks g at left in
      let some : 1 ≤ piece = piece_some g at left (omega arith) within in
      let most : piece ≤ left = piece_left g at left (omega arith) within in
      subst (λ (is : Bool). Ends (if_so is rest
      (take_step g.n (WriteBlocks at (replicate piece zero_block)) (λ ok. clears g turns (at + piece) (left - piece) rest))) s)
      (sym (ne_eqb left 0 (λ none. omega (arith, none))))
      (write_ends (MayEnd job) g.n at (replicate piece zero_block) (λ ok. clears g turns (at + piece) (left - piece) rest) s
      (subst (λ (f : Geometry). at < block_count f) (sym same) (omega (arith, within))) frozen
      (λ later on. clears_end turns (at + piece) (left - piece) rest later (on ∙ same) (omega (arith, some, few)) (omega (arith, within, most)) frozen then))

  -- blocks are read and put out
  reads_end : (first count : ℕ) (s : State) → s.geometry ≡ g → (0 < count → first + count ≤ block_count g) → Ends (reads g first count) s
  reads_end first zero s same within = tt
  reads_end first (suc count) s same within =
      read_ends (MayEnd job) g.n first (λ bytes. Put bytes (reads g (first + 1) count)) s
      (subst (λ (f : Geometry). first < block_count f) (sym same) (omega (arith, within (omega arith))))
      (λ bytes later on. reads_end (first + 1) count later (on ∙ same) (λ some. omega (arith, within (omega arith))))

  -- lines are put out
  lists_end : (entries : List Entry) (s : State) → Ends (lists entries) s
  lists_end [] s = tt
  lists_end (entry ∷ later) s = lists_end later s

-- an input is written
writes_end : (name : List ℕ) (block all : ℕ) (g : Geometry) (first turns done : ℕ) (held : List ℕ) (s : State) → s.geometry ≡ g
    → (0 < all → first + all ≤ block_count g) → EndsServed (MayEnd (volume.Write name block all)) (writes g first all turns done held) s
writes_end name block all g first zero done held s same within = (λ more enough. (refl, λ same. omega (arith, same)), λ none short. tt)
writes_end name block all g first (suc turns) done held s same within =
    by (nat_lt done all) refl
    (λ bytes later on. writes_end name block all g first turns (done + length (held ++ bytes) / SECTOR) (part_of (held ++ bytes)) later (on ∙ same)
    within)
  where
    by : (left : Bool) → nat_lt done all ≡ left
        → ((bytes : List ℕ) (later : State) → later.geometry ≡ s.geometry
        → EndsServed (MayEnd (volume.Write name block all)) (writes g first all turns (done + length (held ++ bytes) / SECTOR) (part_of (held ++ bytes))) later)
        → EndsServed (MayEnd (volume.Write name block all)) (if_so left (turn g first all turns done held) (wrote all)) s
    by false is again = (λ more enough. (refl, λ same. omega (arith, same)), λ none short. tt)
    by true is again =
        let left = ltb-true done all is in (
          λ bytes enough.
              write_ends (MayEnd (volume.Write name block all)) g.n (first + done) (blocks_of (whole_of (held ++ bytes)))
              (λ ok. writes g first all turns (done + length (held ++ bytes) / SECTOR) (part_of (held ++ bytes))) s
              (subst (λ (f : Geometry). first + done < block_count f) (sym same) (omega (arith, left, within (omega (arith, left))))) tt
              (λ later on. again bytes later on),
          λ bytes short. (refl, λ same. omega (arith, same, short, left, length-append held bytes)),
        )

-- why a volume isn't made, and why none is taken out
made_fault : (t : Table) (name : List ℕ) (blocks : ℕ) (why : TableFault) → with_volume t name blocks ≡ Err why
    → MayEnd (volume.Make name blocks) (status_of_table why)
unfolding with_volume
made_fault t name blocks why is = by (is_some (find_in t.entries name)) (nat_le 15 (length t.entries)) (room t blocks) is
  where
    told : (other : TableFault) → MayEnd (volume.Make name blocks) (status_of_table other) → why ≡ other → MayEnd (volume.Make name blocks) (status_of_table why)
    told other may same = subst (λ (w : TableFault). MayEnd (volume.Make name blocks) (status_of_table w)) (sym same) may

    by : (taken full : Bool) (place : Option ℕ)
        → ◌≡◌ {A = Result Table TableFault} (cond taken (Err table.NameTaken) (cond full (Err table.TableFull) (placed t name blocks place))) (Err why)
        → MayEnd (volume.Make name blocks) (status_of_table why)
    by true full place is = told table.NameTaken tt (cc)
    by false true place is = told table.TableFull tt (cc)
    by false false None is = told (table.NoRoom blocks) refl (cc)
    by false false (Some first) is = absurd cc

removed_fault : (t : Table) (name : List ℕ) (why : TableFault) → without_volume t name ≡ Err why → MayEnd (volume.Remove name) (status_of_table why)
unfolding without_volume
removed_fault t name why is = by (is_some (find_in t.entries name)) is
  where
    by : (there : Bool) → ◌≡◌ {A = Result Table TableFault} (cond there (Ok (without_entry t name)) (Err table.NoVolume)) (Err why)
        → MayEnd (volume.Remove name) (status_of_table why)
    by true is = absurd cc
    by false is = subst (λ (w : TableFault). MayEnd (volume.Remove name) (status_of_table w)) (let same : table.NoVolume ≡ why = cc in same) tt

module _ (g : Geometry) (some : 0 < block_count g) (s : State) (same : s.geometry ≡ g) where
  -- a volume of a table lies in the array
  inside : (bytes : List ℕ) (t : Table) (name : List ℕ) (extent : Extent) → t.blocks ≡ block_count g → IsTable t → find_in t.entries name ≡ Some extent
      → end_of extent ≤ block_count g
  inside bytes t name extent size rules found =
      let there = Contains-from_find t.entries name extent found in
      omega (arith, size, subst (λ (e : Entry). end_of e.extent ≤ t.blocks) there.2 (rules.volumes there.0 (volume_of name extent) there.1).within.inside)

  there_some : 0 < block_count s.geometry
  there_some = subst (λ (f : Geometry). 0 < block_count f) (sym same) some

  make_ends : (bytes : List ℕ) (t : Table) (name : List ℕ) (blocks : ℕ) → HasTable (block_count g) bytes t → IsCommand (volume.Make name blocks)
      → (made : Result Table TableFault) → with_volume t name blocks ≡ made → EndsServed (MayEnd (volume.Make name blocks)) (makes g name made) s
  make_ends bytes t name blocks has is (Err why) made = made_fault t name blocks why made
  make_ends bytes t name blocks has is (Ok t') made =
      let adds = added_by_with t t' name blocks made in
      let rules : IsTable t' = IsTable-added t t' name blocks has.rules is.0 is.1 adds in
      let size : t'.blocks ≡ block_count g = ap (λ (table : Table). table.blocks) adds.is ∙ has.of_array in
      found (find_in t'.entries name) refl rules size
    where
      found : (o : Option Extent) → find_in t'.entries name ≡ o → IsTable t' → t'.blocks ≡ block_count g
          → EndsServed (MayEnd (volume.Make name blocks)) (if_found o (λ extent. clears g extent.blocks extent.first extent.blocks
          (sets_table g t' (Put (made_line name extent) (Over Done))))) s
      found None is rules size = absurd (let adds = added_by_with t t' name blocks made in
          let entries : t'.entries ≡ t.entries ++ volume_of name (extent_of adds.first blocks) ∷ [] = ap (λ (table : Table). table.entries) adds.is in
          let there : Contains t'.entries (volume_of name (extent_of adds.first blocks)) =
          subst (λ (l : List Entry). Contains l (volume_of name (extent_of adds.first blocks))) (sym entries) (
            length t.entries,
            omega (arith, length-append t.entries (volume_of name (extent_of adds.first blocks) ∷ [])),
            get_or-append_seam t.entries (volume_of name (extent_of adds.first blocks)) [] (volume_of name (extent_of adds.first blocks)),
          ) in
          let some = (find_is_volume t' name (extent_of adds.first blocks) rules).1 there in cc)
      found (Some extent) is rules size =
          let job = volume.Make name blocks in
          clears_end job g extent.blocks extent.first extent.blocks (sets_table g t' (Put (made_line name extent) (Over Done))) s same (omega arith)
          (inside bytes t' name extent size rules is) tt
          (λ later on. sets_end job g t' (Put (made_line name extent) (Over Done)) later (subst (λ (f : Geometry). 0 < block_count f) (sym on) some) tt
          (λ last is_on. tt))

  remove_ends : (t : Table) (name : List ℕ) (left : Result Table TableFault) → without_volume t name ≡ left
      → EndsServed (MayEnd (volume.Remove name)) (removes g name left) s
  remove_ends t name (Err why) is = removed_fault t name why is
  remove_ends t name (Ok t') is = sets_end (volume.Remove name) g t' (Put (dropped_line name) (Over Done)) s there_some tt (λ later on. tt)

  -- what of a volume is asked for is in the array
  in_array : (extent : Extent) (block count : ℕ) → end_of extent ≤ block_count g → is_within extent.blocks block count ≡ true → 0 < count
      → extent.first + block + count ≤ block_count g
  in_array extent block zero ends is positive = absurd (omega (arith, positive))
  in_array extent block (suc count) ends is positive = omega (arith, ends, leb-true (block + suc count) extent.blocks is)

  read_ends_by : (bytes : List ℕ) (t : Table) (name : List ℕ) (block count : ℕ) → HasTable (block_count g) bytes t
      → (o : Option Extent) → find_in t.entries name ≡ o
      → EndsServed (MayEnd (volume.Read name block count)) (if_found o (λ extent. within_volume extent block count (reads g (extent.first + block) count))) s
  read_ends_by bytes t name block count has None is = tt
  read_ends_by bytes t name block count has (Some extent) is = by (is_within extent.blocks block count) refl
    where
      by : (within : Bool) → is_within extent.blocks block count ≡ within
          → EndsServed (MayEnd (volume.Read name block count)) (if_within extent.blocks block within (reads g (extent.first + block) count)) s
      by false past = tt
      by true within =
          reads_end (volume.Read name block count) g (extent.first + block) count s same
          (in_array extent block count (inside bytes t name extent has.of_array has.rules is) within)

  write_ends_by : (bytes : List ℕ) (t : Table) (name : List ℕ) (block count : ℕ) → HasTable (block_count g) bytes t
      → (o : Option Extent) → find_in t.entries name ≡ o
      → EndsServed (MayEnd (volume.Write name block count)) (if_found o (λ extent. within_volume extent block count (writes g (extent.first + block) count count 0 []))) s
  write_ends_by bytes t name block count has None is = tt
  write_ends_by bytes t name block count has (Some extent) is = by (is_within extent.blocks block count) refl
    where
      by : (within : Bool) → is_within extent.blocks block count ≡ within
          → EndsServed (MayEnd (volume.Write name block count)) (if_within extent.blocks block within (writes g (extent.first + block) count count 0 [])) s
      by false past = tt
      by true within =
          writes_end name block count g (extent.first + block) count 0 [] s same
          (in_array extent block count (inside bytes t name extent has.of_array has.rules is) within)

  -- by what block 0 is
  table_ends : (job : VolumeJob) → IsCommand job → (bytes : List ℕ) (o : Option Table) → table_of (block_count g) bytes ≡ o
      → EndsServed (MayEnd job) (on_table g job o) s
  table_ends volume.Ready is bytes None none =
      sets_end volume.Ready g (table_with (block_count g) []) (Put ready_line (Over Done)) s there_some tt (λ later on. tt)
  table_ends volume.Ready is bytes (Some t) found = tt
  table_ends (volume.Make name blocks) is bytes None none = tt
  table_ends (volume.Remove name) is bytes None none = tt
  table_ends volume.List is bytes None none = tt
  table_ends (volume.Read name block count) is bytes None none = tt
  table_ends (volume.Write name block count) is bytes None none = tt
  table_ends (volume.Make name blocks) is bytes (Some t) found =
      make_ends bytes t name blocks (has_table_read (block_count g) bytes t found) is (with_volume t name blocks) refl
  table_ends (volume.Remove name) is bytes (Some t) found = remove_ends t name (without_volume t name) refl
  table_ends volume.List is bytes (Some t) found = lists_end volume.List g t.entries s
  table_ends (volume.Read name block count) is bytes (Some t) found =
      read_ends_by bytes t name block count (has_table_read (block_count g) bytes t found) (find_in t.entries name) refl
  table_ends (volume.Write name block count) is bytes (Some t) found =
      write_ends_by bytes t name block count (has_table_read (block_count g) bytes t found) (find_in t.entries name) refl

-- The program of each command ends as it may.
pub volume_ends : (job : VolumeJob) (g : Geometry) (s : State) → IsCommand job → IsWithinLimits g → s.geometry ≡ g → EndsServed (MayEnd job) (volume_program job g) s
volume_ends job g s is limits same =
    let some = some_blocks g limits in
    read_ends (MayEnd job) g.n 0 (λ bytes. on_table g job (table_of (block_count g) bytes)) s (subst (λ (f : Geometry). 0 < block_count f) (sym same) some)
    (λ bytes later on. table_ends g some later (on ∙ same) job is bytes (table_of (block_count g) bytes) refl)
