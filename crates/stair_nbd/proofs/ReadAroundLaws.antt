-- What the first and the last block hold around the bytes of a request, as it is read.
use Rattle.std.proofs.Common.{◌≡◌, ◌∙◌, ◌<◌, ◌≤◌, ℕ, List, [], ◌++◌, length, take, drop, Ok, Err, Result, ap, ap₂, arith, refl, subst, sym}
use Rattle.std.specs.Prelude.{Bool, ◌&&◌, ◌==◌, false, nat_lt, true}
use Rattle.std.proofs.lemmas.Bool.{eq-eqb, le-ltb, lt-ltb, ne_eqb}
use Rattle.std.proofs.lemmas.List.{take_all}
use Rattle.stair_model.specs.Geometry.{Geometry}
use Rattle.stair_model.specs.Stripe.{SECTOR}
use Rattle.stair_array.specs.Arrays.{answer_as}
use Rattle.stair_array.specs.Machine.{ReadBlock}
use Rattle.stair_array.specs.declared.fault.ArrayFault.{ArrayFault}
use Rattle.stair_command.specs.Comes.{ExecutesOnDevices}
use Rattle.stair_command.specs.Devices.{DeviceView, Devices}
use Rattle.stair_command.specs.Program.{Program, if_so}
use Rattle.stair_command.specs.Steps.{Takes}
use Rattle.stair_command.proofs.ComesLaws.{comes_none, comes_then}
use Rattle.stair_watch.specs.WatcherList.{AllStay}
use Rattle.stair_nbd.specs.Client.{around, end_block, end_within, first_block, reads_back, reads_front, skipped, tries, was_read}
use Rattle.stair_nbd.specs.declared.wire.Request.{Request}
use Rattle.stair_nbd.proofs.TriedLaws.{HasGeometry, IsOpen, comes_read, comes_unread, geometry_stays}

-- the program that goes on with the bytes of the blocks, of which these hold the bytes of the request
abbrev pub around_program : Request → List ℕ → Program → (List ℕ → Program) → Program
around_program q old refused k =
    reads_front q refused (λ front. reads_back q front refused (λ back. k (around q front (take q.length (drop (skipped q) old)) back)))

module _ (q : Request) where
  -- the last block was read as the first
  pub read_before : 0 < skipped q → end_block q ≡ first_block q → was_read q ≡ true
  read_before some same = ap₂ (λ (a b : Bool). a && b) (lt-ltb 0 (skipped q) some) (eq-eqb (end_block q) (first_block q) same)

  -- or wasn't, as none of the first was
  pub none_before : skipped q ≡ 0 → was_read q ≡ false
  none_before none = ap (λ (a : Bool). a && (end_block q == first_block q)) (le-ltb 0 (skipped q) (omega (arith, none)))

  -- or as it is another
  pub other_before : (end_block q ≡ first_block q → ⊥) → was_read q ≡ false
  other_before other = by (nat_lt 0 (skipped q))
    where
      by : (some : Bool) → (some && (end_block q == first_block q)) ≡ false
      by true = ne_eqb (end_block q) (first_block q) other
      by false = refl

module _ {R W : Type 0} (view : DeviceView R W) (q : Request) where
  -- how the first block is read, and the last
  abbrev Front : Program → (List ℕ → Program) → Program
  Front refused k = tries (ReadBlock (first_block q)) refused k

  abbrev Back : Program → (List ℕ → Program) → Program
  Back refused k = tries (ReadBlock (end_block q)) refused k

  -- the bytes begin with the first block, or within it
  front_whole : (refused : Program) (k : List ℕ → Program) → skipped q ≡ 0 → reads_front q refused k ≡ k []
  front_whole refused k none = ap (λ (is : Bool). if_so is (k []) (Front refused k)) (eq-eqb (skipped q) 0 none)

  front_part : (refused : Program) (k : List ℕ → Program) → 0 < skipped q → reads_front q refused k ≡ Front refused k
  front_part refused k some = ap (λ (is : Bool). if_so is (k []) (Front refused k)) (ne_eqb (skipped q) 0 (λ none. omega (arith, some, none)))

  -- and end with the last, or within it
  back_whole : (front : List ℕ) (refused : Program) (k : List ℕ → Program) → end_within q ≡ 0 → reads_back q front refused k ≡ k []
  back_whole front refused k none =
      ap (λ (is : Bool). if_so is (k []) (if_so (was_read q) (k front) (Back refused k))) (eq-eqb (end_within q) 0 none)

  back_part : (front : List ℕ) (refused : Program) (k : List ℕ → Program) (was : Bool) → 0 < end_within q → was_read q ≡ was
      → reads_back q front refused k ≡ if_so was (k front) (Back refused k)
  back_part front refused k was some is =
      ap (λ (is : Bool). if_so is (k []) (if_so (was_read q) (k front) (Back refused k))) (ne_eqb (end_within q) 0 (λ none. omega (arith, some, none)))
      ∙ ap (λ (is : Bool). if_so is (k front) (Back refused k)) is

  module _ (old : List ℕ) (x : Devices R W) where
    -- What the first block holds before the bytes, if any, is before them.
    pub record FrontRead (block blocks : List ℕ) (y : Devices R W) : Type 0 where
      pub front : List ℕ
      pub long : skipped q ≤ length front
      pub joined : blocks ≡ take (skipped q) front ++ drop (skipped q) old
      pub here : 0 < skipped q → block ≡ front
      pub sector : 0 < skipped q → length front ≡ SECTOR
      pub geometry : (g : Geometry) → HasGeometry g x.session → HasGeometry g y.session
      pub stay : AllStay view.watcher y.watchers
      pub comes : (refused : Program) (k : List ℕ → Program) → ExecutesOnDevices view (reads_front q refused k) (k front) x y

    -- nothing is before them
    pub none_kept : (block blocks : List ℕ) (y : Devices R W) → y ≡ x → blocks ≡ old → skipped q ≡ 0 → AllStay view.watcher x.watchers
        → FrontRead block blocks y
    none_kept block blocks y same is none stay = record {
      front = [];
      long = omega (arith, none);
      joined = is ∙ ap₂ (λ (a b : List ℕ). a ++ b) (sym (take_all (skipped q) [] (omega arith))) (ap (λ (n : ℕ). drop n old) (sym none));
      here = λ some. absurd (omega (arith, some, none));
      sector = λ some. absurd (omega (arith, some, none));
      geometry = λ g has. subst (λ (d : Devices R W). HasGeometry g d.session) (sym same) has;
      stay = subst (λ (d : Devices R W). AllStay view.watcher d.watchers) (sym same) stay;
      comes = λ refused k.
          subst (λ (d : Devices R W). ExecutesOnDevices view (reads_front q refused k) (k []) x d) (sym same)
          (subst (λ (program : Program). ExecutesOnDevices view program (k []) x x) (sym (front_whole refused k none)) (comes_none view (k []) x));
    }

    module _ (bytes : List ℕ) (result : Result (Unit {0}) ArrayFault) (y : Devices R W) (some : 0 < skipped q)
        (place : ℕ) (at_place : place ≡ first_block q) (given : Takes view (ReadBlock place) (answer_as bytes result) x y) where
      -- the first block, by its number
      takes : Takes view (ReadBlock (first_block q)) (answer_as bytes result) x y
      takes = subst (λ (b : ℕ). Takes view (ReadBlock b) (answer_as bytes result) x y) at_place given

      -- the first block was read
      pub front_kept : {ok : Unit {0}} (before : ℕ) (kept block blocks : List ℕ) (z : Devices R W) → z ≡ y → block ≡ bytes → blocks ≡ kept ++ drop before old
          → kept ≡ take before bytes → before ≡ skipped q → result ≡ Ok ok → length bytes ≡ SECTOR → IsOpen y.session → AllStay view.watcher y.watchers
          → FrontRead block blocks z
      front_kept before kept block blocks z same is joined from at ok sector opened stay = record {
        front = bytes;
        long = omega (arith, sector);
        joined = joined ∙ ap (λ (a : List ℕ). a ++ drop before old) from ∙ ap (λ (n : ℕ). take n bytes ++ drop n old) at;
        here = λ some. is;
        sector = λ some. sector;
        geometry = λ g has.
            subst (λ (d : Devices R W). HasGeometry g d.session) (sym same)
            (geometry_stays view x y (ReadBlock (first_block q)) (answer_as bytes result) takes opened g has);
        stay = subst (λ (d : Devices R W). AllStay view.watcher d.watchers) (sym same) stay;
        comes = λ refused k.
            subst (λ (d : Devices R W). ExecutesOnDevices view (reads_front q refused k) (k bytes) x d) (sym same)
            (subst (λ (program : Program). ExecutesOnDevices view program (k bytes) x y) (sym (front_part refused k some))
            (comes_read view x y refused result (first_block q) bytes k ok takes));
      }

      -- or refused
      pub front_refused : {why : ArrayFault} → result ≡ Err why → (refused : Program) (k : List ℕ → Program) → ExecutesOnDevices view (around_program q old refused k) refused x y
      front_refused err refused k =
          let on : List ℕ → Program = λ front. reads_back q front refused (λ back. k (around q front (take q.length (drop (skipped q) old)) back)) in
          subst (λ (program : Program). ExecutesOnDevices view program refused x y) (sym (front_part refused on some))
          (comes_unread view x y refused result (first_block q) bytes on err takes)

  -- After this front the last block is this, as far as it is kept.
  pub record BackRead (front back : List ℕ) (x y : Devices R W) : Type 0 where
    pub comes : (refused : Program) (k : List ℕ → Program) → ExecutesOnDevices view (reads_back q front refused k) (k back) x y

  module _ (front : List ℕ) (x : Devices R W) where
    -- nothing is after them
    pub none_behind : end_within q ≡ 0 → BackRead front [] x x
    none_behind none = record {
      comes = λ refused k. subst (λ (program : Program). ExecutesOnDevices view program (k []) x x) (sym (back_whole front refused k none)) (comes_none view (k []) x);
    }

    module _ (some : 0 < end_within q) where
      -- what is after them is of the first block
      pub same_behind : (back : List ℕ) (y : Devices R W) → y ≡ x → back ≡ front → was_read q ≡ true → BackRead front back x y
      same_behind back y same is was = record {
        comes = λ refused k.
            subst (λ (d : Devices R W). ExecutesOnDevices view (reads_back q front refused k) (k back) x d) (sym same)
            (subst (λ (b : List ℕ). ExecutesOnDevices view (reads_back q front refused k) (k b) x x) (sym is)
            (subst (λ (program : Program). ExecutesOnDevices view program (k front) x x) (sym (back_part front refused k true some was)) (comes_none view (k front) x)));
      }

      module _ (was : was_read q ≡ false) (bytes : List ℕ) (result : Result (Unit {0}) ArrayFault) (y : Devices R W)
          (place : ℕ) (at_place : place ≡ end_block q) (given : Takes view (ReadBlock place) (answer_as bytes result) x y) where
        -- the last block, by its number
        taken_last : Takes view (ReadBlock (end_block q)) (answer_as bytes result) x y
        taken_last = subst (λ (b : ℕ). Takes view (ReadBlock b) (answer_as bytes result) x y) at_place given

        -- the last block was read
        pub back_kept : {ok : Unit {0}} (back : List ℕ) (z : Devices R W) → z ≡ y → back ≡ bytes → result ≡ Ok ok → BackRead front back x z
        back_kept back z same is ok = record {
          comes = λ refused k.
              subst (λ (d : Devices R W). ExecutesOnDevices view (reads_back q front refused k) (k back) x d) (sym same)
              (subst (λ (b : List ℕ). ExecutesOnDevices view (reads_back q front refused k) (k b) x y) (sym is)
              (subst (λ (program : Program). ExecutesOnDevices view program (k bytes) x y) (sym (back_part front refused k false some was))
              (comes_read view x y refused result (end_block q) bytes k ok taken_last)));
        }

        -- or refused
        back_unread : {why : ArrayFault} → result ≡ Err why → (refused : Program) (k : List ℕ → Program) → ExecutesOnDevices view (reads_back q front refused k) refused x y
        back_unread err refused k =
            subst (λ (program : Program). ExecutesOnDevices view program refused x y) (sym (back_part front refused k false some was))
            (comes_unread view x y refused result (end_block q) bytes k err taken_last)

  module _ (old : List ℕ) (x : Devices R W) (block blocks : List ℕ) (y : Devices R W) (kept : FrontRead old x block blocks y) where
    -- the program after both
    abbrev on : (List ℕ → Program) → List ℕ → List ℕ → Program
    on k front back = k (around q front (take q.length (drop (skipped q) old)) back)

    -- before the last
    at_back : (refused : Program) (k : List ℕ → Program) → ExecutesOnDevices view (around_program q old refused k) (reads_back q kept.front refused (on k kept.front)) x y
    at_back refused k = kept.comes refused (λ front. reads_back q front refused (on k front))

    -- the last block was refused
    pub back_refused : 0 < end_within q → was_read q ≡ false → (bytes : List ℕ) (result : Result (Unit {0}) ArrayFault) (z : Devices R W)
        (place : ℕ) → place ≡ end_block q → Takes view (ReadBlock place) (answer_as bytes result) y z
        → {why : ArrayFault} → result ≡ Err why → (refused : Program) (k : List ℕ → Program)
        → ExecutesOnDevices view (around_program q old refused k) refused x z
    back_refused some was bytes result z place at_place takes err refused k =
        comes_then view (at_back refused k) (back_unread kept.front y some was bytes result z place at_place takes err refused (on k kept.front))

    -- all is there
    pub around_done : (back last : List ℕ) (z : Devices R W) → BackRead kept.front back y z
        → last ≡ around q kept.front (take q.length (drop (skipped q) old)) back → (refused : Program) (k : List ℕ → Program)
        → ExecutesOnDevices view (around_program q old refused k) (k last) x z
    around_done back last z behind same refused k =
        subst (λ (bytes : List ℕ). ExecutesOnDevices view (around_program q old refused k) (k bytes) x z) (sym same)
        (comes_then view (at_back refused k) (behind.comes refused (on k kept.front)))
