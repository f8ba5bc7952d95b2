-- What is so along the program of each command: the volumes are those from before, or those after.
use Rattle.std.proofs.Common.{◌≡◌, ◌≢◌, ◌∙◌, ◌+◌, ◌-◌, ◌*◌, ◌/◌, ◌<◌, ◌≤◌, ◌++◌, ◌⊎◌, ℕ, zero, suc, Bool, true, false, List, [], ◌∷◌, append-nil, append_assoc, inl, inr, length, drop, take, replicate, Option, None, Some, Ok, Err, Result, refl, sym, ap, subst, arith}
use Rattle.std.specs.Prelude.{All, Contains, is_some, nat_le, nat_lt}
use Rattle.std.specs.List.{concat}
use Rattle.std.proofs.lemmas.Bool.{cases_Bool, leb-false, leb-true, ltb-false, ltb-true, ne_eqb}
use Rattle.std.proofs.lemmas.List.{get_or-replicate, get_or_append_left, length-append, length-replicate}
use Rattle.std.proofs.lemmas.List.Elements.{All-append, All-nil}
use Rattle.std.proofs.lemmas.List.Folds.{concat-append}
use Rattle.std.proofs.Math.Seq.{get_or-append_right, get_or-append_seam}
use Rattle.stair_model.specs.Geometry.{Geometry, IsWithinLimits, block_count}
use Rattle.stair_model.specs.Stripe.{SECTOR}
use Rattle.stair_model.proofs.LimitLaws.{block_count_few}
use Rattle.stair_state.specs.Blocks.{Blocks, with_blocks, zero_block}
use Rattle.stair_state.specs.State.{Content}
use Rattle.stair_array.specs.Arrays.{blocks_of}
use Rattle.stair_array.specs.Machine.{AlreadyArray, EpochsSpent, Frozen, Gone, JournalLost, Lost, OutOfRange, ReadBlock, Refusal, SlotBusy, SmallDevice, Step, TooFew, WriteBlocks, GivenBy}
use Rattle.stair_conf.specs.Name.{IsName}
use Rattle.stair_conf.specs.declared.job.VolumeJob.{VolumeJob}
use Rattle.stair_conf.specs.declared.job.VolumeJob.TheVariants as volume
use Rattle.stair_command.specs.Pieces.{part_of, piece_blocks, whole_of}
use Rattle.stair_command.specs.Program.{Program, Over, Put, if_so, take_step, unless_refused}
use Rattle.stair_command.specs.Refused.{status_of_refusal}
use Rattle.stair_command.specs.Transfers.{if_within, is_within, reads, wrote}
use Rattle.stair_command.specs.Transfers.{writes as write_rest}
use Rattle.stair_status.specs.declared.status.Status.{Status}
use Rattle.stair_status.specs.declared.status.Status.TheVariants.{Done, Input, NoVolume}
use Rattle.stair_command.proofs.LifeLaws.{block_set, blocks_stay}
use Rattle.stair_command.proofs.PieceLaws.{piece_left, piece_some}
use Rattle.stair_command.proofs.TurnLaws.{blocks_count, blocks_whole, few_whole, part_short, some_whole, whole_then_part}
use Rattle.stair_command.proofs.WriteLaws.{turn}
use Rattle.stair_volume.specs.declared.extent.Entry.{Entry}
use Rattle.stair_volume.specs.declared.extent.Extent.{Extent}
use Rattle.stair_volume.specs.declared.table_fault.TableFault.{TableFault}
use Rattle.stair_volume.specs.declared.table_fault.TableFault.TheVariants as table
use Rattle.stair_volume.specs.Changes.{volume_of, with_volume, without_entry, without_volume}
use Rattle.stair_volume.specs.Commands.{clears, dropped_line, if_found, lists, made_line, makes, on_table, ready_line, removes, sets_table, status_of_table, volume_line, volume_program, within_volume}
use Rattle.stair_volume.specs.Page.{HasTable, table_bytes, table_of}
use Rattle.stair_volume.specs.Table.{IsTable, Table, end_of, extent_of, find_in, table_with}
use Rattle.stair_volume.specs.Volumes.{AreFront, HasDone, HasNone, IsCommand, KeepsVolumes, MayHold, PutsOut, Volume, blocks_from, most_written, volume_at}
use Rattle.stair_volume.proofs.AlongLaws.{Come, EndsUndone, Stays, puts, takes, writes}
use Rattle.stair_volume.proofs.BlockLemmas.{IsSetTo, range_of}
use Rattle.stair_volume.proofs.ChangeLaws.{Contains-from_find, IsTable-added, IsTable-removed, added_by_with, find_is_volume, without_volume-none, without_volume-there}
use Rattle.stair_volume.proofs.HeldLaws.{IsBeside, IsTableSet, found_among, keeps_beside, keeps_same, listed_done, made_done, read_done, ready_done, removed_done, written_done}
use Rattle.stair_volume.proofs.ReadingLaws.{has_table_read, table_of-has_table}

-- ---- refusals

-- none is Done
pub refused_undone : (slots : ℕ) (refusal : Refusal) → status_of_refusal slots refusal ≢ Done
refused_undone slots (OutOfRange asked limit) same = cc
refused_undone slots Frozen same = cc
refused_undone slots (Lost t counts) same = cc
refused_undone slots (TooFew whys) same = cc
refused_undone slots EpochsSpent same = cc
refused_undone slots (JournalLost sector) same = cc
refused_undone slots (SlotBusy j mark) same = cc
refused_undone slots (Gone j) same = cc
refused_undone slots (SmallDevice j has needs) same = cc
refused_undone slots (AlreadyArray j) same = cc

table_undone : (why : TableFault) → status_of_table why ≢ Done
table_undone table.NoVolume same = cc
table_undone table.NameTaken same = cc
table_undone table.TableFull same = cc
table_undone (table.NoRoom blocks) same = cc

-- so a step that is refused ends the program undone
step_undone : (slots : ℕ) (step : Step) (k : GivenBy step → Program) (refusal : Refusal) (left : Bool)
    → EndsUndone (unless_refused slots (λ (x : GivenBy step) (gone : Bool). k x) (Err refusal) left)
step_undone slots step k refusal left = record { status = status_of_refusal slots refusal; undone = refused_undone slots refusal; is = refl }

-- ---- what is so

module _ (job : VolumeJob) (g : Geometry) (held : Blocks) where
  abbrev pub IsSo : List ℕ → Content → Type 0
  IsSo taken c = MayHold job taken (block_count g) held c.blocks

  -- where all is done
  pub record EndsSo (come : Come) : Type 0 where
    pub contents : List (List ℕ)
    pub front : AreFront contents come.taken
    pub all : length contents ≡ most_written job
    pub done : HasDone job contents (block_count g) held come.content.blocks
    pub puts : PutsOut job done.volumes come.put

  -- bytes more are no matter
  pub so_more : (taken bytes : List ℕ) (c : Content) → IsSo taken c → IsSo (taken ++ bytes) c
  so_more taken bytes c (inl kept) = inl kept
  so_more taken bytes c (inr may) = inr (
    may.0,
    record {
      rest = may.1.rest ++ bytes;
      are = ap (λ (l : List ℕ). l ++ bytes) may.1.are ∙ append_assoc (concat may.0) may.1.rest bytes;
      whole = may.1.whole;
    },
    may.2,
    may.3,
  )

  -- the program is over, and not all was done
  over_so : (status : Status) (come : Come) → status ≢ Done → IsSo come.taken come.content → Stays IsSo EndsSo (Over status) come
  over_so status come undone so = (so, λ done. absurd (undone done))

  -- nothing was taken that is to be written
  no_front : (taken : List ℕ) → AreFront [] taken
  no_front taken = record { rest = taken; are = refl; whole = All-nil (λ (bytes : List ℕ). length bytes ≡ SECTOR) }

  -- a command that writes none of its input
  may_have : (taken : List ℕ) (now : Blocks) → HasDone job [] (block_count g) held now → MayHold job taken (block_count g) held now
  may_have taken now done = inr ([], no_front taken, omega arith, done)

  -- THE TABLE

  -- the table is written, and a line is put out
  sets_stay : (t' : Table) (line : List ℕ) (come : Come) → most_written job ≡ 0 → IsTable t' → t'.blocks ≡ block_count g
      → KeepsVolumes (block_count g) held come.content.blocks
      → ((now : Blocks) → IsTableSet (block_count g) come.content.blocks now t' → HasDone job [] (block_count g) held now)
      → ((done : HasDone job [] (block_count g) held (writes come 0 (table_bytes t'.entries ∷ [])).content.blocks) → PutsOut job done.volumes (come.put ++ line))
      → Stays IsSo EndsSo (sets_table g t' (Put line (Over Done))) come
  sets_stay t' line come none rules size kept done put =
      let now = (writes come 0 (table_bytes t'.entries ∷ [])).content.blocks in
      let set : IsTableSet (block_count g) come.content.blocks now t' = record {
        is = refl;
        beside = λ b behind. blocks_stay (table_bytes t'.entries ∷ []) come.content.blocks 0 b (λ within. omega (arith, within.1, behind));
        rules = rules;
        size = size;
      } in
      let has = done now set in
      let so : MayHold job come.taken (block_count g) held now = may_have come.taken now has in (
        inl kept,
        λ left. (so, (so, λ _. record { contents = []; front = no_front come.taken; all = sym none; done = has; puts = put has })),
        λ refusal left. step_undone g.n (WriteBlocks 0 (table_bytes t'.entries ∷ [])) (λ ok. Put line (Over Done)) refusal left,
      )

  -- ZEROS

  module _ (extent : Extent) (inside : end_of extent ≤ block_count g)
      (kept : (now : Blocks) → IsBeside extent held now → KeepsVolumes (block_count g) held now) (rest : Program) where
    -- what is so once blocks up to this one are zeros
    record AreCleared (at : ℕ) (come : Come) : Type 0 where
      from : extent.first ≤ at
      beside : IsBeside extent held come.content.blocks
      zeros : (b : ℕ) → extent.first ≤ b → b < at → come.content.blocks b ≡ zero_block

    -- a piece more
    cleared_on : (at piece : ℕ) (come : Come) → at + piece ≤ end_of extent → AreCleared at come
        → AreCleared (at + piece) (writes come at (replicate piece zero_block))
    cleared_on at piece come within are =
        let set = replicate piece zero_block in
        let size : length set ≡ piece = length-replicate piece zero_block in
        record {
          from = omega (arith, are.from);
          beside = λ b off. blocks_stay set come.content.blocks at b (λ within. off_range b off within) ∙ are.beside b off;
          zeros = λ b from below. elim (cases_Bool (nat_le at b)) [
            | inl on ↦
                let there : at ≤ b = leb-true at b on in
                let is : at + (b - at) ≡ b = omega (arith, there) in
                ap (with_blocks come.content.blocks at set) (sym is)
                ∙ block_set set come.content.blocks at (b - at) (omega (arith, size, below, there))
                ∙ get_or-replicate piece (b - at) zero_block [] (omega (arith, below, there))
            | inr before ↦
                let there : b < at = leb-false at b before in
                blocks_stay set come.content.blocks at b (λ within. omega (arith, within.0, there)) ∙ are.zeros b from there
          ];
        }
      where
        off_range : (b : ℕ) → (b < extent.first) ⊎ (end_of extent ≤ b) → (at ≤ b) × (b < at + length (replicate piece zero_block)) → ⊥
        off_range b (inl before) there = omega (arith, before, are.from, there.0)
        off_range b (inr behind) there = omega (arith, behind, within, there.1, length-replicate piece zero_block)

    -- all of them, and then the rest
    clears_stay : (turns at left : ℕ) (come : Come) → left ≤ turns → at + left ≡ end_of extent → AreCleared at come
        → ((last : Come) → last.taken ≡ come.taken → last.put ≡ come.put → AreCleared (end_of extent) last → Stays IsSo EndsSo rest last)
        → Stays IsSo EndsSo (clears g turns at left rest) come
    clears_stay zero at left come few ends are then =
        then come refl refl (subst (λ (n : ℕ). AreCleared n come) (let all : at ≡ end_of extent = omega (arith, few, ends) in all) are)
    clears_stay (suc turns) at zero come few ends are then =
        then come refl refl (subst (λ (n : ℕ). AreCleared n come) (let all : at ≡ end_of extent = omega (arith, ends) in all) are)
    clears_stay (suc turns) at (suc more) come few ends are then =
        let left = suc more in
        let piece = piece_blocks g at left in
        let within : at + left ≤ block_count g = omega (arith, inside, ends) in
        let some : 1 ≤ piece = piece_some g at left (omega arith) within in
        let most : piece ≤ left = piece_left g at left (omega arith) within in
        let on : AreCleared (at + piece) (writes come at (replicate piece zero_block)) = cleared_on at piece come (omega (arith, most, ends)) are in
        subst (λ (is : Bool). Stays IsSo EndsSo (if_so is rest
        (take_step g.n (WriteBlocks at (replicate piece zero_block)) (λ ok. clears g turns (at + piece) (left - piece) rest))) come)
        (sym (ne_eqb left 0 (λ none. omega (arith, none)))) (
          inl (kept come.content.blocks are.beside),
          λ gone. clears_stay turns (at + piece) (left - piece) (writes come at (replicate piece zero_block)) (omega (arith, some, few))
              (omega (arith, ends, most)) on then,
          λ refusal gone. step_undone g.n (WriteBlocks at (replicate piece zero_block)) (λ ok. clears g turns (at + piece) (left - piece) rest) refusal gone,
        )

  -- READING AND LISTING

  -- what ends so does whatever was put out, where nothing is asked of that
  module _ (any : (volumes : List Volume) (put : List ℕ) → PutsOut job volumes put) where
    -- a line for each
    lists_stay : (entries : List Entry) (come : Come) → IsSo come.taken come.content → EndsSo come → Stays IsSo EndsSo (lists entries) come
    lists_stay [] come so ends = (so, λ _. ends)
    lists_stay (entry ∷ later) come so ends = (
      so,
      lists_stay later (puts come (volume_line entry.name entry.extent)) so
          (record { contents = ends.contents; front = ends.front; all = ends.all; done = ends.done; puts = any ends.done.volumes _ }),
    )

  -- so many blocks from this one on
  reads_stay : (first count : ℕ) (come : Come) → come.content.blocks ≡ held → IsSo come.taken come.content
      → EndsSo (puts come (concat (blocks_from held first count))) → Stays IsSo EndsSo (reads g first count) come
  reads_stay first zero come same so ends =
      (so, λ _. subst (λ (put : List ℕ). EndsSo (record come { put = put })) (append-nil come.put) ends)
  reads_stay first (suc count) come same so ends = (
    so,
    λ bytes left is. (
      so,
      reads_stay (first + 1) count (puts come bytes) same so
          (subst (λ (put : List ℕ). EndsSo (record come { put = put }))
          (sym (append_assoc come.put (held first) (concat (blocks_from held (first + 1) count)))
          ∙ ap (λ (l : List ℕ). (come.put ++ l) ++ concat (blocks_from held (first + 1) count))
          (sym (is ∙ ap (λ (blocks : Blocks). blocks first) same))) ends),
    ),
    λ refusal left. step_undone g.n (ReadBlock first) (λ bytes. Put bytes (reads g (first + 1) count)) refusal left,
  )

  -- WRITING

  module _ (first all : ℕ) (wants : all ≡ most_written job)
      (done_by : (contents : List (List ℕ)) (now : Blocks) → length contents ≤ all → IsSetTo held now first contents
      → HasDone job contents (block_count g) held now) (any : (volumes : List Volume) (put : List ℕ) → PutsOut job volumes put) where
    -- these came, whole, and were written; and after them a part of the next
    record AreWritten (contents : List (List ℕ)) (part : List ℕ) (come : Come) : Type 0 where
      few : length contents ≤ all
      taken : come.taken ≡ concat contents ++ part
      whole : All (λ bytes. length bytes ≡ SECTOR) contents
      set : IsSetTo held come.content.blocks first contents

    written_now : (contents : List (List ℕ)) (part : List ℕ) (come : Come) → AreWritten contents part come → IsSo come.taken come.content
    written_now contents part come are = inr (
      contents,
      record { rest = part; are = are.taken; whole = are.whole },
      omega (arith, are.few, wants),
      done_by contents come.content.blocks are.few are.set,
    )

    -- more may have come
    written_so : (contents : List (List ℕ)) (part : List ℕ) (come : Come) (bytes : List ℕ) → AreWritten contents part come
        → IsSo (come.taken ++ bytes) come.content
    written_so contents part come bytes are = so_more come.taken bytes come.content (written_now contents part come are)

    -- more of them
    written_on : (contents more : List (List ℕ)) (part left bytes : List ℕ) (come : Come) (at : ℕ) → at ≡ first + length contents
        → length contents + length more ≤ all → All (λ bytes. length bytes ≡ SECTOR) more → part ++ bytes ≡ concat more ++ left
        → AreWritten contents part come → AreWritten (contents ++ more) left (writes (takes come bytes) at more)
    written_on contents more part left bytes come at here few whole came are =
        let count : length (contents ++ more) ≡ length contents + length more = length-append contents more in
        record {
          few = omega (arith, count, few);
          taken = ap (λ (l : List ℕ). l ++ bytes) are.taken ∙ append_assoc (concat contents) part bytes
              ∙ ap (λ (l : List ℕ). concat contents ++ l) came ∙ sym (append_assoc (concat contents) (concat more) left)
              ∙ ap (λ (l : List ℕ). l ++ left) (sym (concat-append contents more));
          whole = All-append (λ (bytes : List ℕ). length bytes ≡ SECTOR) contents more are.whole whole;
          set = record {
            beside = λ b off. elim off as (λ _. with_blocks come.content.blocks at more b ≡ held b) [
              | inl before ↦
                  blocks_stay more come.content.blocks at b (λ within. omega (arith, within.0, before, here)) ∙ are.set.beside b (inl before)
              | inr behind ↦
                  blocks_stay more come.content.blocks at b (λ within. omega (arith, within.1, behind, here, count))
                  ∙ are.set.beside b (inr (omega (arith, behind, count)))
            ];
            set = λ k below. elim (cases_Bool (nat_le (length contents) k)) [
              | inl on ↦
                  let from : length contents ≤ k = leb-true (length contents) k on in
                  let there : first + k ≡ at + (k - length contents) = omega (arith, from, here) in
                  ap (with_blocks come.content.blocks at more) there
                  ∙ block_set more come.content.blocks at (k - length contents) (omega (arith, from, below, count))
                  ∙ sym (get_or-append_right contents more k [] from)
              | inr before ↦
                  let there : k < length contents = leb-false (length contents) k before in
                  blocks_stay more come.content.blocks at (first + k) (λ within. omega (arith, within.0, there, here))
                  ∙ are.set.set k there ∙ sym (get_or_append_left contents more [] k there)
            ];
          };
        }

    -- all of them
    all_stay : (contents : List (List ℕ)) (part : List ℕ) (come : Come) → length contents ≡ all → AreWritten contents part come
        → Stays IsSo EndsSo (wrote all) come
    all_stay contents part come count are = (
      written_now contents part come are,
      λ more enough. over_so (Input (SECTOR * all) (SECTOR * all + 1)) (takes come more) (λ same. cc) (written_so contents part come more are),
      λ none short. (
        written_so contents part come none are,
        (
          written_so contents part come none are,
          λ _. record {
            contents = contents;
            front = record {
              rest = part ++ none;
              are = ap (λ (l : List ℕ). l ++ none) are.taken ∙ append_assoc (concat contents) part none;
              whole = are.whole;
            };
            all = omega (arith, count, wants);
            done = done_by contents come.content.blocks are.few are.set;
            puts = any _ _;
          },
        ),
      ),
    )

    writes_stay : (turns done : ℕ) (contents : List (List ℕ)) (part : List ℕ) (come : Come) → length contents ≡ done → all ≤ done + turns
        → done ≤ all → length part < SECTOR → AreWritten contents part come → Stays IsSo EndsSo (write_rest g first all turns done part) come
    writes_stay zero done contents part come count fuel below short are = all_stay contents part come (omega (arith, count, fuel, below)) are
    writes_stay (suc turns) done contents part come count fuel below short are =
        by (nat_lt done all) refl
        (λ bytes after some few are. writes_stay turns (done + length (part ++ bytes) / SECTOR) (contents ++ blocks_of (whole_of (part ++ bytes)))
        (part_of (part ++ bytes)) after
        (omega (arith, length-append contents (blocks_of (whole_of (part ++ bytes))), count, blocks_count (part ++ bytes)))
        (omega (arith, fuel, some)) few (part_short (part ++ bytes)) are)
      where
        by : (left : Bool) → nat_lt done all ≡ left
            → ((bytes : List ℕ) (after : Come) → 0 < length (part ++ bytes) / SECTOR → done + length (part ++ bytes) / SECTOR ≤ all
            → AreWritten (contents ++ blocks_of (whole_of (part ++ bytes))) (part_of (part ++ bytes)) after
            → Stays IsSo EndsSo (write_rest g first all turns (done + length (part ++ bytes) / SECTOR) (part_of (part ++ bytes))) after)
            → Stays IsSo EndsSo (if_so left (turn g first all turns done part) (wrote all)) come
        by false is again = all_stay contents part come (omega (arith, count, below, ltb-false done all is)) are
        by true is again = (
          written_now contents part come are,
          λ bytes enough.
              let have = part ++ bytes in
              let more = blocks_of (whole_of have) in
              let piece = piece_blocks g (first + done) (all - done) in
              let some : 0 < piece = omega (arith, enough.enough, enough.within, short) in
              let most : piece ≤ all - done = omega arith in
              let few = few_whole piece part bytes short some enough in
              let fits : done + length have / SECTOR ≤ all = omega (arith, few, most, ltb-true done all is) in (
                written_so contents part come bytes are,
                λ gone. again bytes (writes (takes come bytes) (first + done) more) (some_whole piece part bytes short some enough) fits
                    (written_on contents more part (part_of have) bytes come (first + done) (omega (arith, count))
                    (omega (arith, count, blocks_count have, fits)) (blocks_whole have) (whole_then_part have) are),
                λ refusal gone. step_undone g.n (WriteBlocks (first + done) more)
                    (λ ok. write_rest g first all turns (done + length have / SECTOR) (part_of have)) refusal gone,
              ),
          λ bytes few. over_so (Input (SECTOR * all) (SECTOR * done + length (part ++ bytes))) (takes come bytes) (λ same. cc)
              (written_so contents part come bytes are),
        )

-- ---- each command

-- what is held as the array is opened
abbrev pub opened : Content → Come
opened c = record { content = c; taken = []; put = [] }

module _ (g : Geometry) (limits : IsWithinLimits g) (c : Content) where
  abbrev count : ℕ
  count = block_count g

  abbrev StaysFor : VolumeJob → Program → Type 0
  StaysFor job program = Stays (IsSo job g c.blocks) (EndsSo job g c.blocks) program (opened c)

  -- no volume is touched by a refusal
  refused_so : (job : VolumeJob) (status : Status) → status ≢ Done → StaysFor job (Over status)
  refused_so job status undone = over_so job g c.blocks status (opened c) undone (inl (keeps_same count c.blocks))

  none_there : table_of count (c.blocks 0) ≡ None → HasNone count c.blocks
  none_there none t has = absurd (let some = table_of-has_table count (c.blocks 0) t has in cc)

  -- t' is what is left without the volume
  without_is : (t t' : Table) (name : List ℕ) → without_volume t name ≡ Ok t' → t' ≡ without_entry t name
  without_is t t' name is = by (cases_Bool (is_some (find_in t.entries name)))
    where
      by : (is_some (find_in t.entries name) ≡ true) ⊎ (is_some (find_in t.entries name) ≡ false) → t' ≡ without_entry t name
      by (inl there) = let done = without_volume-there t name there in cc
      by (inr not_there) = absurd (let done = without_volume-none t name not_there in cc)

  ready_stays : HasNone count c.blocks → StaysFor volume.Ready (sets_table g (table_with count []) (Put ready_line (Over Done)))
  ready_stays none =
      sets_stay volume.Ready g c.blocks (table_with count []) ready_line (opened c) refl
      (record {
        size = block_count_few g limits;
        few = omega arith;
        volumes = λ k d within. absurd (omega (arith, within));
        named_apart = λ i j d before within. absurd (omega (arith, within));
        apart = λ i j d before within. absurd (omega (arith, within));
      })
      refl (keeps_same count c.blocks) (λ now set. ready_done count c.blocks now none set) (λ done. tt)

  make_stays : (t : Table) (name : List ℕ) (blocks : ℕ) → HasTable count (c.blocks 0) t → IsName name → 1 ≤ blocks
      → (made : Result Table TableFault) → with_volume t name blocks ≡ made → StaysFor (volume.Make name blocks) (makes g name made)
  make_stays t name blocks has is_name some (Err why) is = refused_so (volume.Make name blocks) (status_of_table why) (table_undone why)
  make_stays t name blocks has is_name some (Ok t') is =
      let adds = added_by_with t t' name blocks is in
      let extent = extent_of adds.first blocks in
      let rules : IsTable t' = IsTable-added t t' name blocks has.rules is_name some adds in
      let entries : t'.entries ≡ t.entries ++ volume_of name extent ∷ [] = ap (λ (table : Table). table.entries) adds.is in
      let there : Contains t'.entries (volume_of name extent) =
      subst (λ (l : List Entry). Contains l (volume_of name extent)) (sym entries)
      (length t.entries, omega (arith, length-append t.entries (volume_of name extent ∷ [])), get_or-append_seam t.entries (volume_of name extent) [] (volume_of name extent)) in
      let found : find_in t'.entries name ≡ Some extent = (find_is_volume t' name extent rules).1 there in
      let size : t'.blocks ≡ count = ap (λ (table : Table). table.blocks) adds.is ∙ has.of_array in
      let inside : end_of extent ≤ count = omega (arith, adds.least.free.within.inside, has.of_array) in
      let kept : (now : Blocks) → IsBeside extent c.blocks now → KeepsVolumes count c.blocks now =
      λ now beside. keeps_beside count c.blocks now extent t has adds.least.free.within.behind_table adds.least.free.apart beside in
      let job = volume.Make name blocks in
      let line = made_line name extent in
      subst (λ (o : Option Extent). StaysFor job (if_found o (λ extent. clears g extent.blocks extent.first extent.blocks
      (sets_table g t' (Put (made_line name extent) (Over Done)))))) (sym found)
      (clears_stay job g c.blocks extent inside kept (sets_table g t' (Put line (Over Done))) blocks adds.first blocks (opened c) (omega arith) refl
      (record { from = omega arith; beside = λ b off. refl; zeros = λ b from below. absurd (omega (arith, from, below)) })
      (λ last taken put are. sets_stay job g c.blocks t' line last refl rules size (kept last.content.blocks are.beside)
      (λ now set. made_done count c.blocks last.content.blocks now t t' name blocks has is_name some adds are.beside are.zeros set) (λ done. tt)))

  remove_stays : (t : Table) (name : List ℕ) → HasTable count (c.blocks 0) t → (left : Result Table TableFault) → without_volume t name ≡ left
      → StaysFor (volume.Remove name) (removes g name left)
  remove_stays t name has (Err why) is = refused_so (volume.Remove name) (status_of_table why) (table_undone why)
  remove_stays t name has (Ok t') is =
      let same : t' ≡ without_entry t name = without_is t t' name is in
      sets_stay (volume.Remove name) g c.blocks t' (dropped_line name) (opened c) refl (IsTable-removed t t' name has.rules is)
      (ap (λ (table : Table). table.blocks) same ∙ has.of_array) (keeps_same count c.blocks)
      (λ now set. removed_done count c.blocks now t t' name has is same set) (λ done. tt)

  list_stays : (t : Table) → HasTable count (c.blocks 0) t → StaysFor volume.List (lists t.entries)
  list_stays t has =
      lists_stay volume.List g c.blocks (λ volumes put. tt) t.entries (opened c) (inl (keeps_same count c.blocks))
      (record { contents = []; front = no_front volume.List g c.blocks []; all = refl; done = listed_done count c.blocks t has; puts = tt })

  -- what of a volume is asked for is there
  in_range : (extent : Extent) (block all : ℕ) → is_within extent.blocks block all ≡ true → 0 < all → block + all ≤ extent.blocks
  in_range extent block zero is some = absurd (omega (arith, some))
  in_range extent block (suc all) is some = leb-true (block + suc all) extent.blocks is

  read_stays : (t : Table) (name : List ℕ) (block all : ℕ) → HasTable count (c.blocks 0) t → (found : Option Extent) → find_in t.entries name ≡ found
      → StaysFor (volume.Read name block all) (if_found found (λ extent. within_volume extent block all (reads g (extent.first + block) all)))
  read_stays t name block all has None is = refused_so (volume.Read name block all) NoVolume (λ same. cc)
  read_stays t name block all has (Some extent) is = by (is_within extent.blocks block all) refl
    where
      job : VolumeJob
      job = volume.Read name block all

      by : (within : Bool) → is_within extent.blocks block all ≡ within
          → StaysFor job (if_within extent.blocks block within (reads g (extent.first + block) all))
      by false past = refused_so job _ (λ same. cc)
      by true within =
          let range = in_range extent block all within in
          reads_stay job g c.blocks (extent.first + block) all (opened c) refl (inl (keeps_same count c.blocks)) (record {
            contents = [];
            front = no_front job g c.blocks [];
            all = refl;
            done = read_done count c.blocks t name extent block all has is range;
            puts = (
              volume_at c.blocks (volume_of name extent),
              found_among c.blocks t name extent is,
              ap concat (ranged extent block all range),
            );
          })
        where
          ranged : (extent : Extent) (block all : ℕ) → (0 < all → block + all ≤ extent.blocks)
              → blocks_from c.blocks (extent.first + block) all ≡ take all (drop block (blocks_from c.blocks extent.first extent.blocks))
          ranged extent block zero range = refl
          ranged extent block (suc all) range = sym (range_of c.blocks extent.first extent.blocks block (suc all) (range (omega arith)))

  write_stays : (t : Table) (name : List ℕ) (block all : ℕ) → HasTable count (c.blocks 0) t → (found : Option Extent) → find_in t.entries name ≡ found
      → StaysFor (volume.Write name block all) (if_found found (λ extent. within_volume extent block all (write_rest g (extent.first + block) all all 0 [])))
  write_stays t name block all has None is = refused_so (volume.Write name block all) NoVolume (λ same. cc)
  write_stays t name block all has (Some extent) is = by (is_within extent.blocks block all) refl
    where
      job : VolumeJob
      job = volume.Write name block all

      first : 1 ≤ extent.first
      first = let there = Contains-from_find t.entries name extent is in
          subst (λ (e : Entry). 1 ≤ e.extent.first) there.2 (has.rules.volumes there.0 (volume_of name extent) there.1).within.behind_table

      by : (within : Bool) → is_within extent.blocks block all ≡ within
          → StaysFor job (if_within extent.blocks block within (write_rest g (extent.first + block) all all 0 []))
      by false past = refused_so job _ (λ same. cc)
      by true within =
          let range = in_range extent block all within in
          writes_stay job g c.blocks (extent.first + block) all refl
          (λ contents now few set. written_done count c.blocks now t name extent block all contents has is first
          (λ some. omega (arith, range (omega (arith, some, few)), few)) set)
          (λ volumes put. tt) all 0 [] [] (opened c) refl (omega arith) (omega arith) (omega arith)
          (record {
            few = omega arith;
            taken = refl;
            whole = All-nil (λ (bytes : List ℕ). length bytes ≡ SECTOR);
            set = record { beside = λ b off. refl; set = λ k below. absurd (omega (arith, below)) };
          })

  -- with what block 0 is
  table_stays : (job : VolumeJob) → IsCommand job → (o : Option Table) → table_of count (c.blocks 0) ≡ o → StaysFor job (on_table g job o)
  table_stays volume.Ready is None none = ready_stays (none_there none)
  table_stays volume.Ready is (Some t) some = refused_so volume.Ready _ (λ same. cc)
  table_stays (volume.Make name blocks) is None none = refused_so (volume.Make name blocks) _ (λ same. cc)
  table_stays (volume.Remove name) is None none = refused_so (volume.Remove name) _ (λ same. cc)
  table_stays volume.List is None none = refused_so volume.List _ (λ same. cc)
  table_stays (volume.Read name block all) is None none = refused_so (volume.Read name block all) _ (λ same. cc)
  table_stays (volume.Write name block all) is None none = refused_so (volume.Write name block all) _ (λ same. cc)
  table_stays (volume.Make name blocks) is (Some t) some =
      make_stays t name blocks (has_table_read count (c.blocks 0) t some) is.0 is.1 (with_volume t name blocks) refl
  table_stays (volume.Remove name) is (Some t) some = remove_stays t name (has_table_read count (c.blocks 0) t some) (without_volume t name) refl
  table_stays volume.List is (Some t) some = list_stays t (has_table_read count (c.blocks 0) t some)
  table_stays (volume.Read name block all) is (Some t) some =
      read_stays t name block all (has_table_read count (c.blocks 0) t some) (find_in t.entries name) refl
  table_stays (volume.Write name block all) is (Some t) some =
      write_stays t name block all (has_table_read count (c.blocks 0) t some) (find_in t.entries name) refl

  -- and of all of it
  pub volume_stays : (job : VolumeJob) → IsCommand job → StaysFor job (volume_program job g)
  volume_stays job is = (
    inl (keeps_same count c.blocks),
    λ bytes left same. table_stays job is (table_of count bytes) (ap (table_of count) (sym same)),
    λ refusal left. step_undone g.n (ReadBlock 0) (λ bytes. on_table g job (table_of count bytes)) refusal left,
  )
