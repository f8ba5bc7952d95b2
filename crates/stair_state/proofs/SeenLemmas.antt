-- What was read of an array between two moments, in which media were taken away and cells damaged, tells it.
use Rattle.std.proofs.Common.{◌≡◌, ◌≢◌, ℕ, ◌<◌, ◌≤◌, List, None, ◌⊎◌, inl, inr, sym, ap, ◌∙◌, subst, arith}
use Rattle.std.proofs.lemmas.Bool.{cases_lt}
use Rattle.stair_model.specs.Geometry.{Geometry, IsWithinLimits}
use Rattle.stair_model.proofs.FirstLaws.{IsKnown}
use Rattle.stair_rack.specs.Media.{Image}
use Rattle.stair_rack.specs.Sector.{Cell, Good}
use Rattle.stair_super.specs.Superblock.{Superblock, joined_at, joined_in, mark_at, mark_in}
use Rattle.stair_super.specs.declared.configuration.Configuration.{Configuration}
use Rattle.stair_super.specs.declared.mark.Mark.{Mark}
use Rattle.stair_super.specs.declared.mark.Mark.TheVariants.{Down}
use Rattle.stair_member.specs.Counting.{AllBut}
use Rattle.stair_member.specs.Current.{HasMark, IsCurrent, IsLive, IsLost, Serves}
use Rattle.stair_member.specs.Reserve.{Bears, BearsFor, HasReached, IsOrderly, MayStand}
use Rattle.stair_member.specs.Superblocks.{Counts, CountsFor, HoldsSuper, Identifies}
use Rattle.stair_member.proofs.CountingLemmas.{all_but_mapped, common, more_from_all_but, more_mapped}
use Rattle.stair_member.proofs.StandingLemmas.{others}
use Rattle.stair_member.proofs.SuperLemmas.{counts_bears, counts_limits, slot_below, super_by_holds, super_cells}
use Rattle.stair_state.specs.Degraded.{AreDamagedCopies, IsDegraded}
use Rattle.stair_state.specs.Represents.{Shrinks}
use Rattle.stair_state.specs.Tolerance.{IsToleratedAlone, IsWithinTolerance}
use Rattle.stair_state.proofs.AgreeLemmas.{borne_upto, current_upto, has_newest, mark_moved, own_joined, own_mark}
use Rattle.stair_member.proofs.EditionLemmas.{bears_below}
use Rattle.stair_state.proofs.DegradedLemmas.{bears_before, degraded_copies, holds_before, orderly_copies}
use Rattle.stair_state.proofs.FormLemmas.{same_kept}
use Rattle.stair_state.proofs.ToleranceLemmas.{tolerated_fewer}

-- Of the first image, which represents the array, the last one is degraded, and what was read meanwhile are its cells, of
-- which some may be damaged; each superblock place that is good at the end was read.
pub record IsLookedAt (g : Geometry) (offline : ℕ → Type 0) (first read last : Image) : Type 0 where
  pub orderly : IsOrderly g first
  pub others : (other : Geometry) → MayStand other first → other ≡ g
  pub shrinks : (less : Image) → IsDegraded first less → IsToleratedAlone g less → Shrinks g first less
  pub degraded : IsDegraded first last
  pub copies : (j : ℕ) → AreDamagedCopies (first j).cell (read j).cell
  pub kept : (j k : ℕ) (bytes : List ℕ) → j < 32 → k < 2 → (last j).cell k ≡ Good bytes → (read j).cell k ≡ Good bytes
  pub after : IsWithinTolerance offline g last
  pub empty : (j : ℕ) → (last j).size ≡ None → offline j
  pub known : (j : ℕ) → IsKnown (offline j)

-- no superblock place of the slot is lost
abbrev pub IsWhole : Image → ℕ → Type 0
IsWhole image j = (k : ℕ) → k < 2 → ¬ IsLost ((image j).cell k)

-- where neither of the two is
pub whole_places : (image : Image) (j : ℕ) → ¬ IsLost ((image j).cell 0) → ¬ IsLost ((image j).cell 1) → IsWhole image j
whole_places image j first second k place =
    elim (cases_lt k 1) [
      | inl below ↦ subst (λ (i : ℕ). ¬ IsLost ((image j).cell i)) (omega arith) first
      | inr above ↦ subst (λ (i : ℕ). ¬ IsLost ((image j).cell i)) (omega (arith, place)) second
    ]

module _ {g : Geometry} {offline : ℕ → Type 0} {first read last : Image} (looks : IsLookedAt g offline first read last) where
  -- the current superblock of the last image
  abbrev pub ending : Superblock
  ending = looks.after.current

  pub is_ending : IsCurrent g last ending
  is_ending = looks.after.is_current

  pub limits : IsWithinLimits g
  limits = counts_limits g last ending.slot ending is_ending.counts

  pub fits : g.n ≤ 32
  fits = limits.devices.1

  pub last_copies : (j : ℕ) → AreDamagedCopies (first j).cell (last j).cell
  last_copies j = degraded_copies (looks.degraded j)

  pub all_serve : AllBut g.n g.m (Serves offline g last ending)
  all_serve = others g last ending looks.after.few

  -- WHAT A PLACE HOLDS

  pub holds_read : (j k : ℕ) (s : Superblock) → j < g.n → k < 2 → HoldsSuper ((last j).cell k) s → HoldsSuper ((read j).cell k) s
  holds_read j k s below place holds = record {
    bytes = holds.bytes;
    good = looks.kept j k holds.bytes (omega (arith, limits.devices)) place holds.good;
    spells = holds.spells;
  }

  pub holds_first : (j k : ℕ) (s : Superblock) → HoldsSuper ((read j).cell k) s → HoldsSuper ((first j).cell k) s
  holds_first j k s holds = holds_before (looks.copies j k) holds

  whole_cell : (j k : ℕ) → IsWhole last j → k < 2 → (last j).cell k ≡ (first j).cell k
  whole_cell j k whole place = same_kept (last_copies j k) (whole k place)

  pub first_whole : (j : ℕ) → IsWhole last j → IsWhole first j
  first_whole j whole k place lost = whole k place (subst IsLost (sym (whole_cell j k whole place)) lost)

  pub holds_last : (j k : ℕ) (s : Superblock) → IsWhole last j → k < 2 → HoldsSuper ((first j).cell k) s → HoldsSuper ((last j).cell k) s
  holds_last j k s whole place holds = subst (λ (cell : Cell). HoldsSuper cell s) (sym (whole_cell j k whole place)) holds

  -- a superblock that counts in a slot none of whose places is lost at the end counted at first, and counts in what was read
  pub counts_first : (j : ℕ) (s : Superblock) → IsWhole last j → Counts g last j s → Counts g first j s
  counts_first j s whole counts = record {
    super = super_cells ((last j).cell) ((first j).cell) s (whole_cell j 0 whole (omega arith)) (whole_cell j 1 whole (omega arith)) counts.super;
    slot = counts.slot;
    identity = counts.identity;
  }

  pub counts_read : (j : ℕ) (s : Superblock) → IsWhole last j → Counts g first j s → Counts g read j s
  counts_read j s whole counts =
      let below : j < g.n = slot_below g first j s counts in
      record {
        super = super_by_holds ((first j).cell) ((read j).cell) s
            (λ k t place holds. holds_read j k t below place (holds_last j k t whole place holds))
            (λ k t place holds. holds_first j k t holds) counts.super;
        slot = counts.slot;
        identity = counts.identity;
      }

  -- WHICH ARRAY STANDS

  pub read_stands : Identifies g read
  read_stands =
      more_from_all_but {n = g.n} {m = g.m} {P = CountsFor g read} limits.devices.1 limits.majority
      (all_but_mapped {P = Serves offline g last ending} {Q = CountsFor g read}
      (λ j below serves. record {
        super = serves.live.super;
        counts = counts_read j serves.live.super serves.places (counts_first j serves.live.super serves.places serves.live.counts);
      }) all_serve)

  pub read_only : (other : Geometry) → Identifies other read → other ≡ g
  read_only other stands =
      looks.others other
      (more_mapped {P = CountsFor other read} {Q = BearsFor other first}
      (λ j for. record { super = for.super; bears = bears_before (looks.copies j) (counts_bears other read j for.super for.counts) }) stands)

  -- EPOCHS

  pub bears_read : (j : ℕ) (s : Superblock) → Bears g j ((last j).cell) s → Bears g j ((read j).cell) s
  bears_read j s bears = record {
    place = bears.place;
    place_in = bears.place_in;
    holds = holds_read j bears.place s (bears_below g j ((last j).cell) s bears) bears.place_in bears.holds;
    slot = bears.slot;
    identity = bears.identity;
  }

  pub ending_borne : Bears g ending.slot ((last ending.slot).cell) ending
  ending_borne = counts_bears g last ending.slot ending is_ending.counts

  pub ending_first : Bears g ending.slot ((first ending.slot).cell) ending
  ending_first = bears_before (last_copies ending.slot) ending_borne

  pub last_alone : IsToleratedAlone g last
  last_alone = tolerated_fewer {fewer = λ j. (last j).size ≡ None} {more = offline} looks.empty looks.after

  -- what is current in what was read was borne at first
  pub found_first : (found : Superblock) → IsCurrent g read found → Bears g found.slot ((first found.slot).cell) found
  found_first found is_found = bears_before (looks.copies found.slot) (counts_bears g read found.slot found is_found.counts)

  -- of the current superblocks at first and of what was read
  module _ (current found : Superblock) (is_current : IsCurrent g first current) (is_found : IsCurrent g read found) where
    ending_upto : ending.array.epoch ≤ found.array.epoch
    ending_upto =
        borne_upto g read found ending.slot ending (orderly_copies g first read looks.copies looks.orderly) is_found
        (bears_read ending.slot ending ending_borne)

    found_upto : found.array.epoch ≤ current.array.epoch
    found_upto = borne_upto g first current found.slot found looks.orderly is_current (found_first found is_found)

    none_between : ending.array.epoch < found.array.epoch → ¬ (found.array.epoch < current.array.epoch)
    none_between more less =
        let reached : AllBut g.n g.m (HasReached g first found.array.epoch) =
        looks.orderly.reached found.slot current.slot found current (found_first found is_found)
        (counts_bears g first current.slot current is_current.counts) less in
        let at =
        common {n = g.n} {m = g.m} {P = Serves offline g last ending} {Q = HasReached g first found.array.epoch}
        limits.devices.1 limits.majority all_serve reached in
        let serves : Serves offline g last ending at.0 = at.2 in
        let s : Superblock = serves.live.super in
        let from : found.array.epoch ≤ s.array.epoch =
        at.3 s (counts_first at.0 s serves.places serves.live.counts) (first_whole at.0 serves.places 0 (omega arith))
        (first_whole at.0 serves.places 1 (omega arith)) in
        let upto : s.array.epoch ≤ ending.array.epoch = current_upto g last ending at.0 s is_ending serves.live.counts in
        omega (arith, more, from, upto)

    -- what was read names what the rack named at the end or at first
    pub found_is : (found.array ≡ ending.array) ⊎ (found.array ≡ current.array)
    found_is =
        let least : ending.array.epoch ≤ found.array.epoch = ending_upto in
        let most : found.array.epoch ≤ current.array.epoch = found_upto in
        elim (cases_lt ending.array.epoch found.array.epoch) [
          | inl more ↦
              elim (cases_lt found.array.epoch current.array.epoch) [
                | inl less ↦ absurd (none_between more less)
                | inr not_less ↦
                    inr
                    (looks.orderly.one_list found.slot current.slot found current (found_first found is_found)
                    (counts_bears g first current.slot current is_current.counts) (omega arith))
              ]
          | inr not_more ↦ inl (looks.orderly.one_list found.slot ending.slot found ending (found_first found is_found) ending_first (omega arith))
        ]

    -- SLOTS THAT SERVE

    pub serving_first : (j : ℕ) → Serves offline g last ending j → IsLive g first current j
    serving_first j serves = looks.shrinks last looks.degraded last_alone current ending j is_current is_ending serves.live

    pub serving_read : (j : ℕ) → Serves offline g last ending j → IsLive g read found j
    serving_read j serves =
        elim found_is [
          | inl same ↦
              mark_moved g last read ending found j (sym same)
              (λ s counts. counts_read j s serves.places (counts_first j s serves.places counts)) serves.live
          | inr same ↦
              mark_moved g first read current found j (sym same) (λ s counts. counts_read j s serves.places counts) (serving_first j serves)
        ]

    -- SLOTS THAT HAD A MARK IN WHAT WAS READ

    -- where it names what the rack named at first
    pub mark_by_first : {mark : Mark} (j : ℕ) → mark ≢ Down → found.array ≡ current.array → HasMark g read found mark j → HasMark g first current mark j
    mark_by_first {mark} j up same has =
        let s : Superblock = has.super in
        let bears : Bears g j ((first j).cell) s = bears_before (looks.copies j) (counts_bears g read j s has.counts) in
        let newest = has_newest g first j s looks.orderly bears in
        let t : Superblock = newest.super in
        let bears_t = counts_bears g first j t newest.counts in
        let marked : mark_at current j ≡ mark = sym (ap (λ (array : Configuration). mark_in array j) same) ∙ has.marked in
        let above : joined_at s j ≤ joined_at t j =
        looks.orderly.joined j j j s t bears bears_t newest.upto (own_mark g read j s has.counts) (own_mark g first j t newest.counts) in
        let down : joined_at t j ≤ joined_at current j =
        looks.orderly.joined j current.slot j t current bears_t (counts_bears g first current.slot current is_current.counts)
        (current_upto g first current j t is_current newest.counts) (own_mark g first j t newest.counts) (λ is_down. up (sym marked ∙ is_down)) in
        let named : joined_at found j ≡ joined_at current j = ap (λ (array : Configuration). joined_in array j) same in
        let own_s : s.joined ≡ joined_at s j = own_joined g read j s has.counts in
        let own_t : t.joined ≡ joined_at t j = own_joined g first j t newest.counts in
        let joined : s.joined ≡ joined_at found j = has.joined in
        record {
          below = has.below;
          marked = marked;
          super = t;
          counts = newest.counts;
          joined = omega (arith, above, down, named, own_s, own_t, joined);
        }
