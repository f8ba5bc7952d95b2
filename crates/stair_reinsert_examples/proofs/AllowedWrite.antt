-- What right bodies leave of the history in which a write was cut: the write is in doubt, until an epoch stands without the device
-- whose gate is open.
use Rattle.std.proofs.Common.{◌≡◌, ◌≢◌, ℕ, zero, suc, ◌+◌, ◌<◌, ◌≤◌, List, [], ◌∷◌, inl, inr, refl, sym, ap, ◌∙◌, subst, arith, Option, Some}
use Rattle.std.proofs.lemmas.Bool.{cases_lt, cond-true, cond-false, false≢true, lt-ltb, le-ltb}
use Rattle.stair_model.specs.CellSet.{HasCell}
use Rattle.stair_model.specs.Device.{body_sector, cell_sector, gate_sector}
use Rattle.stair_model.specs.Slots.{HasSlot, no_slots}
use Rattle.stair_model.specs.Stripe.{cell}
use Rattle.stair_model.proofs.SetLaws.{has_slot-none, slot_count_none}
use Rattle.stair_rack.specs.History.{Made}
use Rattle.stair_rack.specs.Media.{Image, Medium, has_sector}
use Rattle.stair_rack.specs.Sector.{Cell, Good}
use Rattle.stair_super.specs.Spelling.{spelled}
use Rattle.stair_super.specs.Superblock.{IsSuperblock, Superblock, joined_in, mark_in}
use Rattle.stair_super.specs.declared.configuration.Configuration.{Configuration}
use Rattle.stair_super.specs.declared.mark.Mark.TheVariants.{Down, Live, Rebuilding}
use Rattle.stair_member.specs.Counting.{AllBut}
use Rattle.stair_member.specs.Editions.{Edition, copy_of}
use Rattle.stair_member.specs.Reserve.{Bears}
use Rattle.stair_journal.specs.Body.{Harmed, Holds, IsOrDamaged}
use Rattle.stair_journal.specs.Gate.{IsOpenWith, closed_gate, open_gate}
use Rattle.stair_journal.specs.declared.redo.Redo.{Redo}
use Rattle.stair_journal.proofs.GateLemmas.{closed, once}
use Rattle.stair_state.specs.Blocks.{AreEncodingsOf, Codewords, with_blocks, zero_blocks}
use Rattle.stair_state.specs.Degraded.{AreDamagedCopies}
use Rattle.stair_state.specs.Forms.{HaveBody, IsInRedo, IsOpen, Uncommitted}
use Rattle.stair_state.specs.Holding.{CurrentMediumReserved, CurrentMedia, IsBorneSince, IsConsistentBy, IsConsistentUnderReassembly}
use Rattle.stair_state.specs.Reassembly.{IsBorne, IsMediumOf, IsReassembly, Location}
use Rattle.stair_state.specs.Represents.{Encodings}
use Rattle.stair_state.proofs.AloneLemmas.{IsImageTidy, each_left, steady_made}
use Rattle.stair_state.proofs.FormLemmas.{good_before}
use Rattle.stair_state.proofs.ReassembledLemmas.{IsBorneFrom, from_slot}
use Rattle.stair_reinsert.specs.Misled.{five}
use Rattle.stair_reinsert_examples.specs.Refused.{IsAllowed, all_live, doubted, first_pulled, whole_redo, without_first, writing, writing_cell, writing_device}
use Rattle.stair_reinsert_examples.proofs.AllowedEpochs.{few_first, first_formed, has_first, only_first, past_down}
use Rattle.stair_reinsert_examples.proofs.FiveDevices.{five_limits}
use Rattle.stair_reinsert_examples.proofs.FiveStood.{HasBoth, HasStood, IsAtRest, bears_own, stood_consistent, super_bears}
use Rattle.stair_reinsert_examples.proofs.FiveSupers.{named_super}
use Rattle.stair_reinsert_examples.proofs.FiveSurvey.{five_cases}
use Rattle.stair_reinsert_examples.proofs.RefusedLemmas.{IsDeviceOf, IsTidyMedium, first_pulled_lies, first_pulled_tidy, place_of}
use Rattle.stair_reinsert_examples.proofs.RefusedWrite.{all_formed, redo_formed, redo_inside}

live_up : Live ≢ Down
live_up same = cc

live_built : Live ≢ Rebuilding
live_built same = cc

down_built : Down ≢ Rebuilding
down_built same = cc

module _ (old new : Codewords) where
  -- CELLS

  device_place : (e : Edition) (gate : List ℕ) (j k : ℕ) → k < 2 → writing_cell old new e gate j k ≡ Good (spelled (copy_of e j))
  device_place e gate j k place = cond-true _ _ _ (lt-ltb k 9 (omega (arith, place))) ∙ cond-true _ _ _ (lt-ltb k 2 place)

  device_body : (e : Edition) (gate : List ℕ) (j i : ℕ) → i < 5 → writing_cell old new e gate j (3 + i) ≡ Good (cell (new 0) 0 i)
  device_body e gate j =
      five_cases (λ i. i < 5 → writing_cell old new e gate j (3 + i) ≡ Good (cell (new 0) 0 i)) (λ b. refl) (λ b. refl) (λ b. refl) (λ b. refl)
      (λ b. refl) (λ i past below. absurd (omega (arith, past, below)))

  -- the device of slot 0, and another one
  first_is : (others : Edition) (j : ℕ) → j < 1 → writing old new others j ≡ writing_device old new all_live (open_gate five whole_redo) 0
  first_is others j first = cond-true _ _ _ (lt-ltb j 1 first)

  other_is : (others : Edition) (j : ℕ) → 1 ≤ j → writing old new others j ≡ writing_device old new others closed_gate j
  other_is others j above = cond-false _ _ _ (le-ltb j 1 above)

  all_tidy : (others : Edition) → IsImageTidy (first_pulled (writing old new others))
  all_tidy others = first_pulled_tidy (writing old new others) each
    where
      each : (j : ℕ) → IsTidyMedium (writing old new others j)
      each j =
          elim (cases_lt j 1) [
            | inl first ↦ subst IsTidyMedium (sym (first_is others j first)) (λ k beyond. cond-false _ _ _ beyond)
            | inr above ↦ subst IsTidyMedium (sym (other_is others j above)) (λ k beyond. cond-false _ _ _ beyond)
          ]

  -- AN EPOCH STANDS WITHOUT SLOT 0

  without_super : (j : ℕ) → j < 5 → mark_in without_first.array j ≢ Down → IsSuperblock (copy_of without_first j)
  without_super j below up =
      named_super 5 Down Live Live Live Live 0 1 1 1 1 (omega arith) refl (omega arith, omega arith) (omega arith, omega arith)
      (omega arith, omega arith) (omega arith, omega arith) 5 j (omega arith) (omega arith) below up

  without_supers : (j : ℕ) → j < 5 → j ≢ 0 → IsSuperblock (copy_of without_first j)
  without_supers =
      five_cases (λ j. j < 5 → j ≢ 0 → IsSuperblock (copy_of without_first j)) (λ b other. absurd (other refl)) (λ b other. without_super 1 b live_up)
      (λ b other. without_super 2 b live_up) (λ b other. without_super 3 b live_up) (λ b other. without_super 4 b live_up)
      (λ j past below other. absurd (omega (arith, past, below)))

  abbrev late : Image
  late = first_pulled (writing old new without_first)

  late_stood : HasStood old late without_first 0 (λ p. all_live)
  late_stood = record {
    tidy = all_tidy without_first;
    kept = λ j p m other is. kept j p m other (first_pulled_lies (writing old new without_first) j p m is);
    old = λ p m is.
        let lies = first_pulled_lies (writing old new without_first) 0 p m is in
        record {
          below = omega arith;
          formed = all_formed 0 (omega arith);
          of_five = refl;
          places = λ k place. ap (λ (c : ℕ → Cell). c k) lies.cells ∙ device_place all_live (open_gate five whole_redo) 0 k place;
        };
    earlier = λ p m is. omega arith;
    one = λ p q m n is also same. refl;
    apart = λ p q m n is also same.
        let first = first_pulled_lies (writing old new without_first) 0 p m is in
        let second = first_pulled_lies (writing old new without_first) 0 q n also in
        first.place ∙ sym second.place;
    drawn = omega arith;
    down = refl;
    none_rebuilt =
        five_cases (λ j. mark_in without_first.array j ≢ Rebuilding) down_built live_built live_built live_built live_built
        (past_down Down Live Live Live Live);
    frozen = refl;
    label = refl;
  }
    where
      kept : (j : ℕ) (p : Location) (m : Medium) → j ≢ 0 → IsDeviceOf (writing old new without_first) j p m → IsAtRest old without_first j p m
      kept j p m other lies =
          let above : 1 ≤ j = elim (cases_lt j 1) [ inl first ↦ absurd (other (omega (arith, first))) | inr rest ↦ rest ] in
          let cells : m.cell ≡ writing_cell old new without_first closed_gate j = lies.cells ∙ ap (λ (x : Medium). x.cell) (other_is without_first j above) in
          record {
            place = lies.place ∙ cond-false _ _ _ (le-ltb j 1 above);
            both = record {
              below = lies.below;
              formed = without_supers j lies.below other;
              of_five = refl;
              places = λ k place. ap (λ (c : ℕ → Cell). c k) cells ∙ device_place without_first closed_gate j k place;
            };
            size = lies.size ∙ ap (λ (x : Medium). x.size) (other_is without_first j above);
            gate = ap (λ (c : ℕ → Cell). c 2) cells;
            chunk = ap (λ (c : ℕ → Cell). c 8) cells;
          }

  pub late_allowed : AreEncodingsOf five zero_blocks old → IsAllowed late
  late_allowed encoded = stood_consistent old late without_first 0 (λ p. all_live) encoded late_stood only_first first_formed few_first has_first

  -- THE WRITE IS IN DOUBT

  abbrev pulled : Image
  pulled = first_pulled (writing old new all_live)

  -- a medium of it: its superblocks, the new stripe in the body, and the old one in its chunk
  record IsWriting (j : ℕ) (p : Location) (m : Medium) : Type 0 where
    both : HasBoth m all_live j
    place : p ≡ place_of j
    size : m.size ≡ 9
    body : (i : ℕ) → i < 5 → m.cell (3 + i) ≡ Good (cell (new 0) 0 i)
    chunk : m.cell 8 ≡ Good (cell (old 0) 0 j)
    gate : (redo : Redo) → IsOpenWith five (m.cell gate_sector) redo → redo ≡ whole_redo

  writing_there : (j : ℕ) (p : Location) (m : Medium) → IsMediumOf (pulled j) p m → IsWriting j p m
  writing_there j p m is = by (first_pulled_lies (writing old new all_live) j p m is)
    where
      of_cells : (gate : List ℕ) (i : ℕ) → j ≡ i → IsDeviceOf (writing old new all_live) j p m → m.cell ≡ writing_cell old new all_live gate i → m.size ≡ 9
          → ((redo : Redo) → IsOpenWith five (Good gate) redo → redo ≡ whole_redo) → IsWriting j p m
      of_cells gate i same lies cells size tells = record {
        both = record {
          below = lies.below;
          formed = all_formed j lies.below;
          of_five = refl;
          places = λ k place.
              ap (λ (c : ℕ → Cell). c k) cells ∙ device_place all_live gate i k place ∙ ap (λ (x : ℕ). Good (spelled (copy_of all_live x))) (sym same);
        };
        place = lies.place;
        size = size;
        body = λ k below. ap (λ (c : ℕ → Cell). c (3 + k)) cells ∙ device_body all_live gate i k below;
        chunk = ap (λ (c : ℕ → Cell). c 8) cells ∙ ap (λ (x : ℕ). Good (cell (old 0) 0 x)) (sym same);
        gate = λ redo opened. tells redo (subst (λ (c : Cell). IsOpenWith five c redo) (ap (λ (c : ℕ → Cell). c gate_sector) cells) opened);
      }

      by : IsDeviceOf (writing old new all_live) j p m → IsWriting j p m
      by lies =
          elim (cases_lt j 1) [
            | inl first ↦
                of_cells (open_gate five whole_redo) 0 (omega (arith, first)) lies (lies.cells ∙ ap (λ (x : Medium). x.cell) (first_is all_live j first))
                (lies.size ∙ ap (λ (x : Medium). x.size) (first_is all_live j first))
                (λ redo opened. once five (Good (open_gate five whole_redo)) redo whole_redo five_limits opened (record { good = refl; formed = redo_formed }))
            | inr above ↦
                of_cells closed_gate j refl lies (lies.cells ∙ ap (λ (x : Medium). x.cell) (other_is all_live j above))
                (lies.size ∙ ap (λ (x : Medium). x.size) (other_is all_live j above)) (λ redo opened. absurd (closed five redo opened))
          ]

  record IsOwn (i : ℕ) (p : Location) (a : Superblock) : Type 0 where
    place : p ≡ place_of i
    is : a ≡ copy_of all_live i

  own : (i : ℕ) (p : Location) (a : Superblock) → IsBorne five pulled i p a → IsOwn i p a
  own i p a borne =
      let there = writing_there i p borne.medium borne.is_one in
      record { place = there.place; is = bears_own borne.medium all_live i a there.both borne.bears }

  own_array : (i : ℕ) (p : Location) (a : Superblock) → IsBorne five pulled i p a → a.array ≡ all_live.array
  own_array i p a borne = ap (λ (t : Superblock). t.array) (own i p a borne).is

  since_own : (a : Superblock) → IsBorneSince five 4 pulled a → a.array ≡ all_live.array
  since_own a borne = own_array borne.slot borne.place a borne.borne

  never_rebuilt : (j : ℕ) → mark_in all_live.array j ≢ Rebuilding
  never_rebuilt =
      five_cases (λ j. mark_in all_live.array j ≢ Rebuilding) live_built live_built live_built live_built live_built (past_down Live Live Live Live Live)

  -- a holder in a reassembly
  record IsHeld (to : Image) (j : ℕ) : Type 0 where
    from : Medium
    place : Location
    writes : IsWriting j place from
    copies : AreDamagedCopies from.cell ((to j).cell)
    size : (to j).size ≡ Some 9

  held : (to : Image) (j : ℕ) (a : Superblock) → IsReassembly pulled to → Bears five j ((to j).cell) a → IsHeld to j
  held to j a reassembly bears = by (from_slot five pulled to j a (reassembly j) bears)
    where
      by : IsBorneFrom five pulled to j a → IsHeld to j
      by from =
          let there = writing_there j from.place from.medium from.is_one in
          record { from = from.medium; place = from.place; writes = there; copies = from.copies; size = from.size ∙ ap Some there.size }

  -- a gate that is open is so with the one redo
  one_open : (to : Image) (j : ℕ) (redo : Redo) → IsHeld to j → IsOpen five to j redo → redo ≡ whole_redo
  one_open to j redo is opened =
      is.writes.gate redo (record { good = good_before (is.copies gate_sector) opened.good; formed = opened.formed })

  copied : (to : Image) (j k : ℕ) (bytes : List ℕ) → IsHeld to j → ((is : IsHeld to j) → is.from.cell k ≡ Good bytes) → IsOrDamaged bytes ((to j).cell k)
  copied to j k bytes is good =
      elim (is.copies k) [
        | inl same ↦ Holds (same ∙ good is)
        | inr harmed ↦ Harmed harmed
      ]

  has_body : (to : Image) (j i k : ℕ) → IsHeld to j → HasCell whole_redo.cells i k → IsOrDamaged (cell (new 0) i k) ((to j).cell (body_sector five i k))
  has_body to j zero k is has = copied to j (3 + k) (cell (new 0) 0 k) is (λ it. it.writes.body k (redo_inside zero k has).1)
  has_body to j (suc i) k is has = let none = (redo_inside (suc i) k has).0 in absurd (omega (arith, none))

  has_chunk : (to : Image) (t i j : ℕ) → IsHeld to j → t < 1 → i < 1 → IsOrDamaged (cell (old t) i j) ((to j).cell (cell_sector five t i))
  has_chunk to zero zero j is t_in i_in = copied to j 8 (cell (old 0) 0 j) is (λ it. it.writes.chunk)
  has_chunk to zero (suc i) j is t_in i_in = absurd (omega (arith, i_in))
  has_chunk to (suc t) i j is t_in i_in = absurd (omega (arith, t_in))

  in_redo : (t i k : ℕ) → t < 1 → i < 1 → k < 5 → IsInRedo whole_redo t i k
  in_redo zero zero k t_in i_in below = record { stripe = refl; has = has k below }
    where
      has : (x : ℕ) → x < 5 → HasCell whole_redo.cells 0 x
      has =
          five_cases (λ x. x < 5 → HasCell whole_redo.cells 0 x) (λ b. refl) (λ b. refl) (λ b. refl) (λ b. refl) (λ b. refl)
          (λ x past small. absurd (omega (arith, past, small)))
  in_redo zero (suc i) k t_in i_in below = absurd (omega (arith, i_in))
  in_redo (suc t) i k t_in i_in below = absurd (omega (arith, t_in))

  module _ (first second : List ℕ) (old_are : AreEncodingsOf five zero_blocks old)
      (new_are : AreEncodingsOf five (with_blocks zero_blocks 0 (first ∷ second ∷ [])) new) where
    abbrev encodings : Encodings (doubted first second)
    encodings = record { old = old; new = new; old_are = old_are; new_are = new_are }

    abbrev current_media : CurrentMedia
    current_media j = Some (joined_in all_live.array j)

    reserved : AllBut 5 2 (CurrentMediumReserved five current_media pulled)
    reserved = record {
      exceptions = no_slots;
      formed = refl;
      few = omega (arith, slot_count_none no_slots (λ j small has. false≢true (sym (has_slot-none j) ∙ has)));
      others = λ j below out joined current_medium q m x is super slot geometry same one two i p t borne.
          let draw : x.draw ≡ 4 =
          ap (λ (y : Superblock). y.draw) (bears_own m all_live j x (writing_there j q m is).both (super_bears x super slot geometry)) in
          let epoch : t.array.epoch ≡ 4 = ap (λ (c : Configuration). c.epoch) (own_array i p t borne) in
          omega (arith, draw, epoch);
    }

    by_current_media : IsConsistentBy (doubted first second) encodings current_media 4 pulled
    by_current_media = record {
      overtaken = λ i p a borne earlier.
          let epoch : a.array.epoch ≡ 4 = ap (λ (c : Configuration). c.epoch) (own_array i p a borne) in absurd (omega (arith, epoch, earlier));
      reserved = reserved;
      live = λ j a borne marked. ap (λ (c : Configuration). Some (joined_in c j)) (sym (since_own a borne));
      rebuilt = λ j joined a borne marked current_medium.
          absurd (never_rebuilt j (sym (ap (λ (c : Configuration). mark_in c j) (since_own a borne)) ∙ marked));
      frozen = λ a borne. inl (ap (λ (c : Configuration). c.frozen) (since_own a borne));
      label = λ a borne. inl (ap (λ (c : Configuration). c.label) (since_own a borne));
      forms = λ to some reassembly have gate.
          let is = λ (j : ℕ) (on : HasSlot some j). held to j (have j on).super reassembly (have j on).bears in
          record {
            one_redo = λ i j a b on also open_i open_j. one_open to i a (is i on) open_i ∙ sym (one_open to j b (is j also) open_j);
            form = Uncommitted (record {
              encodes = λ t i j t_in i_in j_in on. has_chunk to t i j (is j on) t_in i_in;
              body = λ j redo on opened.
                  subst (λ (x : Redo). HaveBody five x new (HasSlot some) to) (sym (one_open to j redo (is j on) opened))
                  (λ l also i k has. has_body to l i k (is l also) has);
              all = λ j redo on opened t i k t_in i_in k_in.
                  inl (subst (λ (x : Redo). IsInRedo x t i k) (sym (one_open to j redo (is j on) opened)) (in_redo t i k t_in i_in k_in));
            });
          };
      full = λ to j reassembly current_medium k small.
          ap (λ (o : Option ℕ). has_sector o k) (held to j current_medium.super reassembly current_medium.bears).size ∙ lt-ltb k 9 small;
      rebuilding = λ to j a b redo reassembly borne marked bears same.
          absurd (never_rebuilt j (sym (ap (λ (c : Configuration). mark_in c j) (since_own a borne)) ∙ marked));
      one_list = λ i j p q a b one two same. own_array i p a one ∙ sym (own_array j q b two);
      own_joined = λ j p q a b one two same. (own j p a one).place ∙ sym (own j q b two).place;
    }

    pub doubted_consistent : IsConsistentUnderReassembly (doubted first second) (Made pulled ∷ [])
    doubted_consistent = record {
      current_media = current_media;
      since = 4;
      is = record {
        encodings = encodings;
        each = each_left pulled (all_tidy all_live) (IsConsistentBy (doubted first second) encodings current_media 4) by_current_media;
        seats = tt;
        steady = steady_made five pulled;
      };
    }
