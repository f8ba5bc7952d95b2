-- The example is a life in each outcome, and a second read gives the same.
use Rattle.std.proofs.Common.{◌≡◌, ◌∙◌, ◌*◌, ◌<◌, ℕ, zero, suc, true, false, List, [], ◌∷◌, append-nil, length, get_or, inl, inr, refl, sym, ap, arith}
use Rattle.std.specs.List.{concat}
use Rattle.std.proofs.lemmas.Bool.{cond-false, ne_eqb}
use Rattle.std.proofs.lemmas.List.{length-replicate, same_lists}
use Rattle.std.proofs.lemmas.Option.{same_Some, slice_get-get_or}
use Rattle.std.proofs.lemmas.List.Elements.{All-cons, All-nil}
use Rattle.stair_model.specs.Geometry.{block_count}
use Rattle.stair_model.specs.Stripe.{SECTOR}
use Rattle.stair_state.specs.Blocks.{Blocks, zero_block}
use Rattle.stair_state.specs.State.{new_content}
use Rattle.stair_conf.specs.declared.job.VolumeJob.TheVariants as volume
use Rattle.stair_command.specs.LifeExample.{block_of, example_geometry}
use Rattle.stair_volume.specs.Page.{HasTable, table_bytes}
use Rattle.stair_volume.specs.Table.{Table, table_with}
use Rattle.stair_volume.specs.Volumes.{AreFront, HasDone, HasVolumes, IsAmong, IsSettled, Volume}
use Rattle.stair_volume.proofs.HeldLaws.{keeps_same}
use Rattle.stair_volume.proofs.PageLaws.{table_is_sector}
use Rattle.stair_volume.proofs.TestLaws.{Decides-table}
use Rattle.stair_volume_lives.specs.Example.{EachIsReadAgain, EitherIsLived, bytes_if, cut_write, example_entry, example_name, first_blocks, holding, in_doubt, new_blocks, read_both, written_blocks}
use Rattle.stair_volume_lives.specs.Lives.{AreBytes, Begins, Bytes, Turns, bytes_in, earlier, last_written}
use Rattle.stair_volume_lives.proofs.LivesLaws.{read_explained}

abbrev size : ℕ
size = block_count example_geometry

abbrev table : Table
table = table_with size (example_entry ∷ [])

is_well_formed : (Rattle.stair_volume.specs.Table.is_table table) ≡ true
unfolding Rattle.stair_volume.specs.Table.is_table
is_well_formed = refl

-- a table over any other blocks
has_table : (held : Blocks) → held 0 ≡ table_bytes (example_entry ∷ []) → HasTable size (held 0) table
has_table held is = record { of_array = refl; rules = (Decides-table table).0 is_well_formed; text = is }

abbrev volume_with : List (List ℕ) → Volume
volume_with blocks = record { name = example_name; blocks = blocks }

abbrev volumes_with : List (List ℕ) → List Volume
volumes_with blocks = volume_with blocks ∷ []

its_own : (blocks : List (List ℕ)) → IsAmong (volumes_with blocks) example_name (volume_with blocks)
its_own blocks = record { before = []; after = []; are = refl; named = refl }

has_first : HasVolumes size first_blocks (volumes_with (zero_block ∷ zero_block ∷ []))
has_first = record { table = table; is_table = has_table first_blocks refl; are = refl }

has_written : HasVolumes size written_blocks (volumes_with new_blocks)
has_written = record { table = table; is_table = has_table written_blocks refl; are = refl }

-- the write was cut before it wrote, and is in doubt
cut : Turns example_name cut_write (holding first_blocks) in_doubt
cut = inr (record {
  held = first_blocks;
  settled = inl refl;
  holds = inl (keeps_same size first_blocks);
  may_hold = inr (new_blocks, front, omega arith, done);
})
  where
    front : AreFront new_blocks (concat new_blocks)
    front = record {
      rest = [];
      are = sym (append-nil (concat new_blocks));
      whole = All-cons (λ bytes. length bytes ≡ SECTOR) (block_of 1) (block_of 2 ∷ []) (length-replicate {A = ℕ} SECTOR 1)
          (All-cons (λ bytes. length bytes ≡ SECTOR) (block_of 2) [] (length-replicate {A = ℕ} SECTOR 2) (All-nil (λ bytes. length bytes ≡ SECTOR)));
    }

    done : HasDone (volume.Write example_name 0 2) new_blocks size first_blocks (new_content in_doubt).blocks
    done = record {
      volumes = volumes_with (zero_block ∷ zero_block ∷ []);
      begins = has_first;
      fits = (
        volume_with (zero_block ∷ zero_block ∷ []),
        its_own (zero_block ∷ zero_block ∷ []),
        λ some. omega arith,
      );
      has = has_written;
    }

-- and the read finds it made, or not
read : (held : Blocks) (blocks : List (List ℕ)) → length blocks ≡ 2 → HasVolumes size held (volumes_with blocks) → IsSettled in_doubt held
    → (put : List ℕ) → put ≡ concat blocks → Turns example_name (read_both put) in_doubt (holding held)
read held [] two has settled put puts = absurd (omega (arith, two))
read held (a ∷ []) two has settled put puts = absurd (omega (arith, two))
read held (a ∷ b ∷ c ∷ more) two has settled put puts = absurd (omega (arith, two))
read held (a ∷ b ∷ []) two has settled put puts = record {
  held = held;
  settled = settled;
  contents = [];
  front = record { rest = []; are = refl; whole = All-nil (λ bytes. length bytes ≡ SECTOR) };
  all = refl;
  done = record {
    volumes = volumes_with (a ∷ b ∷ []);
    begins = has;
    fits = (volume_with (a ∷ b ∷ []), its_own (a ∷ b ∷ []), λ some. omega arith);
    has = has;
  };
  puts = (volume_with (a ∷ b ∷ []), its_own (a ∷ b ∷ []), puts);
  certain = refl;
}

-- it begins with whole blocks
begins : Begins (holding first_blocks)
begins = record { certain = refl; whole = each }
  where
    each : (b : ℕ) → b < size → length (first_blocks b) ≡ SECTOR
    each zero within = table_is_sector table ((Decides-table table).0 is_well_formed)
    each (suc b) within =
        ap length (cond-false _ (table_bytes (example_entry ∷ [])) zero_block (ne_eqb (suc b) 0 (λ same. omega (arith, same))))
        ∙ length-replicate {A = ℕ} SECTOR 0

pub either_is_lived : EitherIsLived
either_is_lived true = (
  begins,
  (
    in_doubt,
    (holding first_blocks, refl, refl, cut),
    refl,
    read written_blocks new_blocks refl has_written (inr refl) (concat new_blocks) refl,
  ),
)
either_is_lived false = (
  begins,
  (
    in_doubt,
    (holding first_blocks, refl, refl, cut),
    refl,
    read first_blocks (zero_block ∷ zero_block ∷ []) refl has_first (inl refl) (concat (zero_block ∷ zero_block ∷ [])) refl,
  ),
)

-- two reads of the same bytes
one_put : (held : Bytes) (name : List ℕ) (from count : ℕ) (a b : List ℕ) → AreBytes held name from count a → AreBytes held name from count b → a ≡ b
one_put held name from count a b one other =
    same_lists a b (one.length ∙ sym other.length) (λ k d within.
    same_Some (get_or a k d) (get_or b k d)
    (sym (slice_get-get_or a k d within) ∙ one.each k (omega (arith, within, one.length)) ∙ sym (other.each k (omega (arith, within, one.length)))
    ∙ slice_get-get_or b k d (omega (arith, within, one.length, other.length))))

pub each_is_read_again : EachIsReadAgain
each_is_read_again made put now lives =
    let again = read_explained (holding first_blocks) now (read_both (bytes_if made) ∷ cut_write ∷ []) [] example_name 0 2 [] put begins lives in
    one_put (last_written (cut_write ∷ []) (earlier again.fates) (bytes_in (holding first_blocks))) example_name (SECTOR * 0) (SECTOR * 2) put (bytes_if made)
    (record { length = again.are.length; each = again.are.each }) (again.reads.0 refl)
