-- The example while epochs without slot 3 are established: the calls that establish them keep the other slots as its premise needs them.
use Rattle.std.proofs.Common.{◌≡◌, ◌≢◌, ◌∙◌, ◌-◌, ◌<◌, ◌≤◌, ◌⊎◌, ℕ, false, List, [], ◌∷◌, ◌++◌, None, Option, Some, inl, inr, refl, sym, ap, subst, arith}
use Rattle.std.proofs.lemmas.Bool.{cases_eq, cases_lt, false≢true}
use Rattle.stair_rack.specs.Crash.{SlotMayLeave}
use Rattle.stair_rack.specs.History.{Acted, Attach, Called, Happening, Made, Read, Sectors, SlotCall, SlotState, Stopped, Sync, Write, after_call, slot_state, stopped, with_sector}
use Rattle.stair_rack.specs.Media.{SlotImage}
use Rattle.stair_rack.specs.Moments.{AtEveryMoment, Throughout}
use Rattle.stair_rack.specs.Offline.{IsOffline, NoMedium, RackStopped, Unattached}
use Rattle.stair_rack.specs.Sector.{Cell, Damaged, Good, LeftOf, Leaves, MayLeave, Sector, Torn, TornOverDamage, content, newest, settled, synced, torn, wrote}
use Rattle.stair_rack.specs.Stretch.{EachHappening, EachOf}
use Rattle.stair_rack.specs.declared.rack.Reply.TheVariants as reply
use Rattle.stair_rack.proofs.CrashLemmas.{Leaves-settled, Leaves-wrote}
use Rattle.stair_rack.proofs.KeptLemmas.{with_sector_cases}
use Rattle.stair_rack.proofs.MomentLemmas.{at_every_mapped}
use Rattle.stair_rack.proofs.StepLemmas.{slot_call_cases, throughout_end}
use Rattle.stair_super.specs.Spelling.{spelled}
use Rattle.stair_member.specs.Current.{ByOutside, IsLost, Worn}
use Rattle.stair_member.specs.Editions.{Edition, copy_of}
use Rattle.stair_member.specs.Superblocks.{HasSuper}
use Rattle.stair_member.proofs.EditionLemmas.{holds_copy}
use Rattle.stair_state.specs.Blocks.{Codewords}
use Rattle.stair_state.proofs.FormLemmas.{good_kept}
use Rattle.stair_reinsert.specs.Misled.{device_cell, five}
use Rattle.stair_reinsert.proofs.LookedSoFar.{mixed_unwritten}
use Rattle.stair_reinsert.proofs.MixedImages.{tolerated_at}
use Rattle.stair_reinsert_examples.proofs.FiveDevices.{good_cell, place_cell}
use Rattle.stair_reinsert_examples.proofs.FiveMoments.{HoldsDevice, Holding, SlotIs, Without}
use Rattle.stair_lives.specs.Example.{Cut, Holds, StaysWithinToleranceAmid, IsMomentAmid, IsPlaceAmid, IsSlotAmid, IsSpelledAmid, KeepsAmid, left_out, reinserted, without_third}
use Rattle.stair_lives.proofs.Amid.{amid_super, mixed_amid, third_alone}
use Rattle.stair_lives.proofs.LeftOutAgain.{goes, other_is}

-- CELLS

-- what lies under unsynced writes: such a copy in a place, and any bytes behind
abbrev HoldsCopy : ℕ → Cell → Type 0
HoldsCopy j cell = (bytes : List ℕ) × IsSpelledAmid j bytes × (cell ≡ Good bytes)

abbrev HasBytes : Cell → Type 0
HasBytes cell = (bytes : List ℕ) × (cell ≡ Good bytes)

copy_place : (j : ℕ) (cell : Cell) → HoldsCopy j cell → IsPlaceAmid j cell
copy_place j cell (bytes, copy, good) = Holds copy.epoch copy.draw copy.from copy.drawn copy.fits (good ∙ ap Good copy.is)

place_copy : (j : ℕ) (bytes : List ℕ) → IsPlaceAmid j (Good bytes) → HoldsCopy j (Good bytes)
place_copy j bytes (Holds epoch draw from drawn fits is) = (
  spelled (copy_of (without_third epoch draw) j),
  record { epoch = epoch; draw = draw; from = from; drawn = drawn; fits = fits; is = refl },
  is,
)
place_copy j bytes (Cut torn) = absurd (cc)

torn_copy : (j : ℕ) (cell : Cell) → HoldsCopy j cell → IsPlaceAmid j (torn cell)
torn_copy j cell (bytes, copy, good) = Cut (ap torn good)

torn_kept : (cell : Cell) → HasBytes cell → ¬ IsLost (torn cell)
torn_kept cell (bytes, good) (ByOutside harmed) = let both : Torn ≡ Damaged = sym (ap torn good) ∙ harmed in absurd (cc)
torn_kept cell (bytes, good) (Worn worn) = let both : Torn ≡ TornOverDamage = sym (ap torn good) ∙ worn in absurd (cc)

-- a sync settles what was written last
settles : (Q Base : Cell → Type 0) → ((bytes : List ℕ) → Q (Good bytes) → Base (Good bytes)) → (base : Cell) (since : List (List ℕ))
    → Leaves Q Base (record { base = base; since = since }) → Base (newest base since)
settles Q Base good base [] leaves = leaves.base
settles Q Base good base (bytes ∷ since) leaves = good bytes (leaves.each (Good bytes) (inl refl))

synced_leaves : (Q Base : Cell → Type 0) → ((bytes : List ℕ) → Q (Good bytes) → Base (Good bytes)) → ((cell : Cell) → Base cell → Q cell)
    → (s : Sector) → Leaves Q Base s → Leaves Q Base (synced s)
synced_leaves Q Base good under s leaves =
    let now : Base (content s) = settles Q Base good s.base s.since leaves in Leaves-settled (content s) (under (content s) now) now

-- SLOTS

record IsStateAmid (j : ℕ) (b : SlotState) : Type 0 where
  size : b.size ≡ Some 9
  pulls : b.pulls ≡ 0
  places : (k : ℕ) → k < 2 → Leaves (IsPlaceAmid j) (HoldsCopy j) (b.sector k)
  one : ((b.sector 0).since ≡ []) ⊎ ((b.sector 1).since ≡ [])
  behind : (k : ℕ) → 2 ≤ k → k < 9 → Leaves (λ (c : Cell). ¬ IsLost c) HasBytes (b.sector k)

-- each sector of a slot that isn't written is settled with such a cell
abbrev IsUnwritten : (ℕ → Cell → Type 0) → SlotState → Type 0
IsUnwritten P b = (k : ℕ) → (cell : Cell) × P k cell × (b.sector k ≡ settled cell)

module _ (j : ℕ) (b : SlotState) (is : IsStateAmid j b) where
  sync_state : IsStateAmid j (record b { sector = λ k. synced (b.sector k) })
  sync_state = record {
    size = is.size;
    pulls = is.pulls;
    places = λ k place. synced_leaves (IsPlaceAmid j) (HoldsCopy j) (place_copy j) (copy_place j) (b.sector k) (is.places k place);
    one = inl refl;
    behind = λ k from small.
        synced_leaves (λ (c : Cell). ¬ IsLost c) HasBytes (λ bytes kept. (bytes, refl)) (λ cell has. good_kept has.1) (b.sector k) (is.behind k from small);
  }

  behind_state : (k : ℕ) (bytes : List ℕ) → 2 ≤ k → IsStateAmid j (with_sector k (wrote bytes (b.sector k)) b)
  behind_state k bytes from = record {
    size = is.size;
    pulls = is.pulls;
    places = λ i place.
        with_sector_cases (Leaves (IsPlaceAmid j) (HoldsCopy j)) k i (wrote bytes (b.sector k)) b (λ same. absurd (omega (arith, from, place, same)))
        (is.places i place);
    one =
        elim is.one [
          | inl first ↦
              inl
              (with_sector_cases (λ (s : Sector). s.since ≡ []) k 0 (wrote bytes (b.sector k)) b (λ same. absurd (omega (arith, from, same))) first)
          | inr second ↦
              inr
              (with_sector_cases (λ (s : Sector). s.since ≡ []) k 1 (wrote bytes (b.sector k)) b (λ same. absurd (omega (arith, from, same))) second)
        ];
    behind = λ i after small.
        with_sector_cases (Leaves (λ (c : Cell). ¬ IsLost c) HasBytes) k i (wrote bytes (b.sector k)) b
        (λ same.
        Leaves-wrote bytes (good_kept refl) torn_kept (subst (λ (n : ℕ). Leaves (λ (c : Cell). ¬ IsLost c) HasBytes (b.sector n)) same (is.behind i after small)))
        (is.behind i after small);
  }

  place_state : (k : ℕ) (bytes : List ℕ) → k < 2 → IsSpelledAmid j bytes → ((b.sector (1 - k)).since ≡ [])
      → IsStateAmid j (with_sector k (wrote bytes (b.sector k)) b)
  place_state k bytes place copy other = record {
    size = is.size;
    pulls = is.pulls;
    places = λ i small.
        with_sector_cases (Leaves (IsPlaceAmid j) (HoldsCopy j)) k i (wrote bytes (b.sector k)) b
        (λ same.
        Leaves-wrote bytes (copy_place j (Good bytes) (bytes, copy, refl)) (torn_copy j)
        (subst (λ (n : ℕ). Leaves (IsPlaceAmid j) (HoldsCopy j) (b.sector n)) same (is.places i small)))
        (is.places i small);
    one =
        elim (cases_eq k 0) [
          | inl first ↦
              inr
              (with_sector_cases (λ (s : Sector). s.since ≡ []) k 1 (wrote bytes (b.sector k)) b (λ same. absurd (omega (arith, same, first)))
              (subst (λ (n : ℕ). (b.sector n).since ≡ []) (omega (arith, first)) other))
          | inr not ↦
              let second : k ≡ 1 = omega (arith, not, place) in
              inl
              (with_sector_cases (λ (s : Sector). s.since ≡ []) k 0 (wrote bytes (b.sector k)) b (λ same. absurd (omega (arith, same, second)))
              (subst (λ (n : ℕ). (b.sector n).since ≡ []) (omega (arith, second)) other))
        ];
    behind = λ i after small.
        with_sector_cases (Leaves (λ (c : Cell). ¬ IsLost c) HasBytes) k i (wrote bytes (b.sector k)) b (λ same. absurd (omega (arith, same, place, after)))
        (is.behind i after small);
  }

  call_state : (h : List Happening) (call : SlotCall) → slot_state h j ≡ b → KeepsAmid h (Called j call) → IsStateAmid j (after_call call b)
  call_state h (Attach reply.Done) at may =
      record { size = is.size; pulls = is.pulls; places = is.places; one = is.one; behind = is.behind }
  call_state h (Attach reply.Gone) at may =
      record { size = is.size; pulls = is.pulls; places = is.places; one = is.one; behind = is.behind }
  call_state h (Sectors size) at may = is
  call_state h (Read k answer) at may = is
  call_state h (Write k bytes reply.Gone) at may = is
  call_state h (Write k bytes reply.Done) at may =
      elim (cases_lt k 2) [
        | inl place ↦
            elim may.2 [
              | inl from ↦ behind_state k bytes from
              | inr copy ↦ place_state k bytes place copy.0 (subst (λ (s : SlotState). (s.sector (1 - k)).since ≡ []) at copy.1)
            ]
        | inr from ↦ behind_state k bytes from
      ]
  call_state h (Sync reply.Done) at may = sync_state
  call_state h (Sync reply.Gone) at may = is

call_unwritten : (P : ℕ → Cell → Type 0) (j : ℕ) (b : SlotState) (h : List Happening) (call : SlotCall) → ((j < 5) → (j ≢ 3) → ⊥)
    → KeepsAmid h (Called j call) → IsUnwritten P b → IsUnwritten P (after_call call b)
call_unwritten P j b h (Attach reply.Done) not may is = is
call_unwritten P j b h (Attach reply.Gone) not may is = is
call_unwritten P j b h (Sectors size) not may is = is
call_unwritten P j b h (Read k answer) not may is = is
call_unwritten P j b h (Write k bytes answer) not may is = absurd (not may.0 may.1)
call_unwritten P j b h (Sync reply.Done) not may is = λ k. let at = is k in (at.0, at.1, ap synced at.2)
call_unwritten P j b h (Sync reply.Gone) not may is = is

-- MOMENTS

module _ (words : Codewords) where
  abbrev third_cell : ℕ → Cell → Type 0
  third_cell k cell = (cell ≡ device_cell words left_out 3 k) ⊎ (cell ≡ Damaged)

  abbrev bare_cell : ℕ → Cell → Type 0
  bare_cell k cell = cell ≡ Damaged

  record IsRackAmid (h : List Happening) : Type 0 where
    going : stopped h ≡ false
    states : (j : ℕ) → j < 5 → j ≢ 3 → IsStateAmid j (slot_state h j)
    third : IsUnwritten third_cell (slot_state h 3)
    bare : (j : ℕ) → 5 ≤ j → IsUnwritten bare_cell (slot_state h j)

  next : (h : List Happening) (e : Happening) → KeepsAmid h e → IsRackAmid h → IsRackAmid (e ∷ h)
  next h (Made image) may is = absurd may
  next h Stopped may is = absurd may
  next h (Acted j act) may is = absurd may
  next h (Called i call) may is = record {
    going = is.going;
    states = λ j below other.
        slot_call_cases (IsStateAmid j) h i j call
        (λ same.
        call_state j (slot_state h j) (is.states j below other) h call refl (subst (λ (n : ℕ). KeepsAmid h (Called n call)) same may))
        (is.states j below other);
    third =
        slot_call_cases (IsUnwritten third_cell) h i 3 call
        (λ same.
        call_unwritten third_cell 3 (slot_state h 3) h call (λ below other. other refl) (subst (λ (n : ℕ). KeepsAmid h (Called n call)) same may)
        is.third)
        is.third;
    bare = λ j past.
        slot_call_cases (IsUnwritten bare_cell) h i j call
        (λ same.
        call_unwritten bare_cell j (slot_state h j) h call (λ below other. omega (arith, past, below))
        (subst (λ (n : ℕ). KeepsAmid h (Called n call)) same may) (is.bare j past))
        (is.bare j past);
  }

  along : (more old : List Happening) → EachOf KeepsAmid more old → IsRackAmid old → Throughout IsRackAmid more old
  along [] old each start = start
  along (e ∷ more) old each start =
      let before = along more old each.0 start in (next (more ++ old) e each.1 (throughout_end IsRackAmid more old before), before)

  -- what a crash leaves of such a slot
  one_left : (j k : ℕ) (b : SlotState) (left : SlotImage) → j < 5 → j ≢ 3 → k < 2 → IsStateAmid j b → SlotMayLeave b left
      → ((b.sector k).since ≡ []) → HasSuper left.cell
  one_left j k b left below other place is may none =
      let copy = (is.places k place).base in
      let formed = copy.1 in
      let cell : left.cell k ≡ (b.sector k).base = subst (λ (since : List (List ℕ)). LeftOf (b.sector k).base since (left.cell k)) none (may.each k) in
      record {
        place = k;
        place_in = place;
        super = copy_of (without_third formed.epoch formed.draw) j;
        holds =
            holds_copy (left.cell k) (without_third formed.epoch formed.draw) j
            (amid_super formed.epoch formed.draw formed.from formed.drawn formed.fits j below other) (cell ∙ copy.2 ∙ ap Good formed.is);
      }

  slot_left : (j : ℕ) (b : SlotState) (left : SlotImage) → j < 5 → j ≢ 3 → IsStateAmid j b → SlotMayLeave b left → IsSlotAmid j left.cell
  slot_left j b left below other is may = record {
    places = λ k place. (is.places k place).each (left.cell k) (may.each k);
    one =
        elim is.one [
          | inl none ↦ one_left j 0 b left below other (omega arith) is may none
          | inr none ↦ one_left j 1 b left below other (omega arith) is may none
        ];
    whole = λ k from small. (is.behind k from small).each (left.cell k) (may.each k);
  }

  unwritten_left : (P : ℕ → Cell → Type 0) (b : SlotState) (left : SlotImage) → IsUnwritten P b → SlotMayLeave b left → (k : ℕ) → P k (left.cell k)
  unwritten_left P b left is may k =
      let at = is k in
      let cell : left.cell k ≡ at.0 = subst (λ (s : Sector). MayLeave s (left.cell k)) at.2 (may.each k) in subst (P k) (sym cell) at.1

  moment_amid : (h : List Happening) → IsRackAmid (reinserted words) → IsRackAmid h → IsMomentAmid words h
  moment_amid h start is = record {
    slots = λ j left below other may. slot_left j (slot_state h j) left below other (is.states j below other) may;
    online = λ j below other off. by j (is.states j below other) (start.states j below other) off;
    third = λ left may. unwritten_left third_cell (slot_state h 3) left is.third may;
    bare = λ j left past may. unwritten_left bare_cell (slot_state h j) left (is.bare j past) may;
  }
    where
      by : (j : ℕ) → IsStateAmid j (slot_state h j) → IsStateAmid j (slot_state (reinserted words) j) → ¬ IsOffline (reinserted words) h j
      by j at was (NoMedium none) = let both : ◌≡◌ {A = Option ℕ} None (Some 9) = sym none ∙ at.size in absurd (cc)
      by j at was (Unattached off pulled) = omega (arith, pulled, at.pulls, was.pulls)
      by j at was (RackStopped stops) = false≢true (sym is.going ∙ stops)

  -- IT BEGINS SO

  device_state : (j : ℕ) (b : SlotState) → j < 5 → j ≢ 3 → HoldsDevice words left_out j b → b.pulls ≡ 0 → IsStateAmid j b
  device_state j b below other holds unpulled = record {
    size = holds.size;
    pulls = unpulled;
    places = λ k place.
        subst (Leaves (IsPlaceAmid j) (HoldsCopy j)) (sym (holds.sectors k))
        (Leaves-settled (device_cell words left_out j k) (copy_place j (device_cell words left_out j k) (copied k place)) (copied k place));
    one = inl (ap (λ (s : Sector). s.since) (holds.sectors 0));
    behind = λ k from small.
        let it = good_cell words left_out j k small in
        subst (Leaves (λ (c : Cell). ¬ IsLost c) HasBytes) (sym (holds.sectors k)) (Leaves-settled (device_cell words left_out j k) (good_kept it.1) it);
  }
    where
      copied : (k : ℕ) → k < 2 → HoldsCopy j (device_cell words left_out j k)
      copied k place = (
        spelled (copy_of (left_out j) j),
        record {
          epoch = 5;
          draw = 5;
          from = omega arith;
          drawn = omega arith;
          fits = omega arith;
          is = ap (λ (e : Edition). spelled (copy_of e j)) (other_is j other);
        },
        place_cell words left_out j k place,
      )

  start : IsRackAmid (reinserted words)
  start = record {
    going = (goes words).going;
    states = λ j below other.
        let at = (goes words).kept j below (λ has. other (third_alone j has)) in device_state j (slot_state (reinserted words) j) below other at.0 at.1;
    third = by ((goes words).slots 3);
    bare = λ j past. past_bare j past ((goes words).slots j);
  }
    where
      by : SlotIs words left_out 3 (slot_state (reinserted words) 3) → IsUnwritten third_cell (slot_state (reinserted words) 3)
      by (Holding holds) k = (device_cell words left_out 3 k, inl refl, holds.sectors k)
      by (Without none all) k = (Damaged, inr refl, all k)

      past_bare : (j : ℕ) → 5 ≤ j → SlotIs words left_out j (slot_state (reinserted words) j) → IsUnwritten bare_cell (slot_state (reinserted words) j)
      past_bare j past (Holding holds) k = absurd (omega (arith, past, holds.below))
      past_bare j past (Without none all) k = (Damaged, refl, all k)

  pub kept_amid : (h : List Happening) → EachHappening KeepsAmid (reinserted words) h → AtEveryMoment (IsMomentAmid words) (reinserted words) h
  kept_amid h keeps =
      at_every_mapped {P = IsRackAmid} {Q = IsMomentAmid words} (λ moment is. moment_amid moment start is)
      (record { more = keeps.more; is = keeps.is; each = along keeps.more (reinserted words) keeps.each start })

pub calm_amid : (words : Codewords) → StaysWithinToleranceAmid words
calm_amid words = record {
  begins = moment_amid words (reinserted words) (start words) (start words);
  kept = kept_amid words;
  calm = λ h each. (
    λ moment at. tolerated_at five (reinserted words) (reinserted words) h (mixed_amid words h each) moment at,
    mixed_unwritten five (reinserted words) h (mixed_amid words h each),
  );
  unread = λ h each none. mixed_amid words h each;
}
