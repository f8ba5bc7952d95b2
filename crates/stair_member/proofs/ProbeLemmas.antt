-- What a read of the superblock places of a slot tells, and what a look at the slot makes of it.
use Rattle.std.proofs.Common.{◌≡◌, ℕ, ◌<◌, ◌↔◌, Bool, true, false, List, inl, inr, refl, sym, subst, ◌∙◌, arith, Option, None}
use Rattle.std.specs.Prelude.{IsTrue}
use Rattle.stair_rack.specs.Answers.{Calls, IsHistory, any_call, is_ready}
use Rattle.stair_rack.specs.Count.{Rose, kept-Rose}
use Rattle.stair_rack.specs.History.{Happening, Attach, Read, slot_state}
use Rattle.stair_rack.specs.Offline.{IsOffline}
use Rattle.stair_rack.specs.RackCounts.{NoneFalls}
use Rattle.stair_rack.specs.Sector.{Cell, Good, Damaged, content}
use Rattle.stair_rack.specs.RackState.{IsFoundGone, IsLater, IsReading, RackState, rack_state}
use Rattle.stair_rack.specs.declared.rack.Got.{Got}
use Rattle.stair_rack.specs.declared.rack.Got.TheVariants as got
use Rattle.stair_rack.specs.declared.rack.Reply.TheVariants as reply
use Rattle.stair_rack.proofs.CallLemmas.{attach_done, attach_gone}
use Rattle.stair_rack.proofs.MomentLemmas.{IsThis, at_end, calls_ran, ran_join, ran_none}
use Rattle.stair_rack.proofs.OfflineLemmas.{held_on, offline_from_unready, offline_now, pulls_on}
use Rattle.stair_rack.proofs.ReadLemmas.{was_read_gone}
use Rattle.stair_rack.proofs.RackStateLemmas.{gone_wider, later_called, later_join, later_none, reading_bad, reading_good, reading_wider}
use Rattle.stair_super.specs.Spelling.{SpellsSuperblock}
use Rattle.stair_super.specs.Superblock.{Superblock}
use Rattle.stair_member.specs.Asked.{AsksSlot, FindsSlot, IsWhatWasRead, FoundBoth, FoundNone}
use Rattle.stair_member.specs.Findings.{IsPlaceFound}
use Rattle.stair_member.specs.JudgeSteps.{IsNewest, IsSight}
use Rattle.stair_member.specs.Probing.{ProbesPlace, ProbesSlot, WasGone, block_in}
use Rattle.stair_member.specs.Superblocks.{HasSuper, HoldsThis}
use Rattle.stair_member.specs.Survey.{IsNextPlace}
use Rattle.stair_member.specs.declared.probe.PlaceProbe.TheVariants as probe
use Rattle.stair_member.specs.declared.probe.SlotProbe.{SlotProbe}
use Rattle.stair_member.proofs.DecisionLemmas.{no_super, spelled_here}
use Rattle.stair_member.proofs.SightLemmas.{both, place_cases, place_found_mapped}
use Rattle.stair_member.proofs.SuperLemmas.{super_held}

-- ONE READ

module _ (honest : Bool) (old new : List Happening) (bads bads' : ℕ) (gones gones' : ℕ → ℕ) (j k : ℕ) (began : IsTrue honest → IsHistory old)
    (counts : NoneFalls bads bads' gones gones') where
  later : (answer : Got) → (IsTrue honest → Calls old new j (Read k answer)) → IsLater (rack_state honest old bads gones) (rack_state honest new bads' gones')
  later answer told = later_called honest old new bads bads' gones gones' j (Read k answer) told counts

  pub probed_block : (bytes : List ℕ) (s : Superblock) → (IsTrue honest → Calls old new j (Read k got.Good))
      → (IsTrue honest → content ((slot_state new j).sector k) ≡ Good bytes) → SpellsSuperblock bytes s
      → ProbesPlace j k (probe.Block s) (rack_state honest old bads gones) (rack_state honest new bads' gones')
  probed_block bytes s told good spells = record {
    later = later got.Good told;
    began = began;
    cell = Good bytes;
    answer = got.Good;
    called = told;
    finds = λ honest. sym (good honest);
    unread = λ is. absurd (cc);
    found = IsPlaceFound.Read (reading_good honest old new bads bads' gones gones' j k bytes told good);
    holds = record { bytes = bytes; good = refl; spells = spells };
    gone = λ is. absurd (cc);
  }

  pub probed_nothing : (bytes : List ℕ) → (IsTrue honest → Calls old new j (Read k got.Good))
      → (IsTrue honest → content ((slot_state new j).sector k) ≡ Good bytes) → ((s : Superblock) → ¬ SpellsSuperblock bytes s)
      → ProbesPlace j k probe.Nothing (rack_state honest old bads gones) (rack_state honest new bads' gones')
  probed_nothing bytes told good none = record {
    later = later got.Good told;
    began = began;
    cell = Good bytes;
    answer = got.Good;
    called = told;
    finds = λ honest. sym (good honest);
    unread = λ is. absurd (cc);
    found = IsPlaceFound.Read (reading_good honest old new bads bads' gones gones' j k bytes told good);
    holds = λ s holds. none s (spelled_here bytes s holds);
    gone = λ is. absurd (cc);
  }

  pub probed_bad : (IsTrue honest → Calls old new j (Read k got.Bad)) → Rose bads bads'
      → ProbesPlace j k probe.Nothing (rack_state honest old bads gones) (rack_state honest new bads' gones')
  probed_bad told rose = record {
    later = later got.Bad told;
    began = began;
    cell = Damaged;
    answer = got.Bad;
    called = told;
    finds = λ honest. refl;
    unread = λ is. absurd (cc);
    found = IsPlaceFound.Read (reading_bad honest old new bads bads' gones gones' j k began told rose);
    holds = λ s. no_super Damaged s refl;
    gone = λ is. absurd (cc);
  }

  pub probed_gone : (IsTrue honest → Calls old new j (Read k got.Gone)) → Rose (gones j) (gones' j)
      → ProbesPlace j k probe.Gone (rack_state honest old bads gones) (rack_state honest new bads' gones')
  probed_gone told rose = record {
    later = later got.Gone told;
    began = began;
    cell = Damaged;
    answer = got.Gone;
    called = told;
    finds = λ honest. (refl, refl);
    unread = λ is. refl;
    found = IsPlaceFound.Unread refl refl;
    holds = λ s. no_super Damaged s refl;
    gone = λ is. record { gone = rose; unready = λ is. was_read_gone (told is) };
  }

-- BOTH READS

-- A slot that an attach found is gone to a call after it: it is offline.
gone_after : (old att new : RackState) (j : ℕ) → IsLater old att → IsLater att new → Rose (att.gones j) (new.gones j)
    → (IsTrue new.honest → Calls old.history att.history j (Attach reply.Done)) → (IsTrue new.honest → is_ready new.history j ≡ false)
    → IsFoundGone j old new
gone_after old att new j first second rose attached unready = (
  kept-Rose (old.gones j) (att.gones j) (new.gones j) (first.counts.gone j).not_less (second.counts.gone j).not_less rose,
  λ is.
      at_end {a = any_call} {P = λ h. IsOffline old.history h j} (ran_join (first.ran (second.honest ∙ is)) (second.ran is))
      (offline_now
      (offline_from_unready
      (held_on {allowed = any_call} j (second.ran is) (attach_done old.history att.history j old.history (omega arith) (attached is))) (unready is))),
)

module _ {j : ℕ} {slot : SlotProbe} {old new : RackState} (probes : ProbesSlot j slot old new) where
  pub probe_later : IsLater old new
  probe_later = later_join probes.first.later probes.second.later

  -- what both places were found to hold
  pub probe_cells : ℕ → Cell
  probe_cells = both probes.first.cell probes.second.cell

  pub probe_places : (gone : Type 0) → (WasGone slot → gone) → (k : ℕ) → k < 2 → IsPlaceFound gone j k old new (both probes.first.cell probes.second.cell k)
  probe_places gone lost k below =
      elim (place_cases k below) [
        | inl is ↦
            subst (λ l. IsPlaceFound gone j l old new (both probes.first.cell probes.second.cell l)) (sym is)
            (place_found_mapped (slot.first ≡ probe.Gone) gone j 0 old probes.between old new probes.first.cell (λ is. lost (inl is))
            (reading_wider old old probes.between new (later_none old) probes.first.later.honest probes.first.later.counts probes.second.later j 0
            probes.first.cell)
            probes.first.found)
        | inr is ↦
            subst (λ l. IsPlaceFound gone j l old new (both probes.first.cell probes.second.cell l)) (sym is)
            (place_found_mapped (slot.second ≡ probe.Gone) gone j 1 probes.between new old new probes.second.cell (λ is. lost (inr is))
            (reading_wider old probes.between new new probes.first.later probes.second.later.honest probes.second.later.counts (later_none new) j 1
            probes.second.cell)
            probes.second.found)
      ]

  -- a slot that wasn't gone was read
  pub probe_readings : ¬ WasGone slot → (k : ℕ) → k < 2 → IsReading j k old new (both probes.first.cell probes.second.cell k)
  probe_readings here k below = read_by (probe_places (WasGone slot) (λ lost. lost) k below)
    where
      read_by : {cell : Cell} → IsPlaceFound (WasGone slot) j k old new cell → IsReading j k old new cell
      read_by (IsPlaceFound.Read reading) = reading
      read_by (IsPlaceFound.Unread lost is) = absurd (here lost)

  -- one that was attached before, and was gone, is found gone
  module _ (start att : RackState) (first : IsLater start att) (second : IsLater att old)
      (attached : IsTrue new.honest → Calls start.history att.history j (Attach reply.Done)) where
    gone_first : slot.first ≡ probe.Gone → IsFoundGone j start new
    gone_first lost =
        let was = probes.first.gone lost in
        let between = later_join second probes.first.later in
        gone_wider start start probes.between new (later_none start) (later_join first between).honest (later_join first between).counts
        probes.second.later j
        (gone_after start att probes.between j first between
        (kept-Rose (att.gones j) (old.gones j) (probes.between.gones j) (second.counts.gone j).not_less (probes.first.later.counts.gone j).not_less
        was.gone) (λ is. attached (sym probes.second.later.honest ∙ is)) was.unready)

    gone_second : slot.second ≡ probe.Gone → IsFoundGone j start new
    gone_second lost =
        let was = probes.second.gone lost in
        let between = later_join second probes.first.later in
        gone_after start att new j first (later_join second probe_later)
        (kept-Rose (att.gones j) (probes.between.gones j) (new.gones j) (between.counts.gone j).not_less (probes.second.later.counts.gone j).not_less
        was.gone) attached was.unready

    pub probe_gone : WasGone slot → IsFoundGone j start new
    probe_gone lost = elim lost [ inl is ↦ gone_first is | inr is ↦ gone_second is ]

-- A LOOK

-- a medium of which nothing could be read has no superblock
damaged_bare : ¬ HasSuper (λ k. Damaged)
damaged_bare has = no_super Damaged has.super refl has.holds

pub sight_gone : (honest : Bool) (old new : List Happening) (bads bads' : ℕ) (gones gones' : ℕ → ℕ) (j : ℕ)
    → (IsTrue honest → Calls old new j (Attach reply.Gone)) → Rose (gones j) (gones' j)
    → IsSight j (rack_state honest old bads gones) (rack_state honest new bads' gones') None 0 true
sight_gone honest old new bads bads' gones gones' j told rose = record {
  cell = λ k. Damaged;
  places = λ k below. IsPlaceFound.Unread refl refl;
  finds = λ on. record { from = old; to = new; sooner = ran_none old; finds = FoundNone (told on) refl refl refl; later = ran_none new };
  newest = damaged_bare;
  next = record { below = omega arith; other = λ s of. absurd (damaged_bare (super_held (λ k. Damaged) s of)) };
  gone = λ is. (
    rose,
    λ on.
        at_end {a = IsThis j (Attach reply.Gone)} {P = λ h. IsOffline old h j} (calls_ran (told on))
        (elim (attach_gone old new j (told on)) [ inl none ↦ IsOffline.NoMedium none | inr stop ↦ IsOffline.RackStopped stop ]),
  );
  held = λ on not_lost. absurd (not_lost refl);
}

read_mapped : (gone gone' : Type 0) (answer : Got) (h : List Happening) (j k : ℕ) (cell : Cell) → (gone → gone') → IsWhatWasRead gone answer h j k cell
    → IsWhatWasRead gone' answer h j k cell
read_mapped gone gone' got.Good h j k cell into is = is
read_mapped gone gone' got.Bad h j k cell into is = is
read_mapped gone gone' got.Gone h j k cell into is = (is.0, into is.1)

-- The slot was attached, and both places were read.
module _ {j : ℕ} {slot : SlotProbe} (old att new : RackState) (probes : ProbesSlot j slot att new) (attach : IsLater old att)
    (attached : IsTrue new.honest → Calls old.history att.history j (Attach reply.Done)) where
  first_called : IsTrue new.honest → Calls att.history probes.between.history j (Read 0 probes.first.answer)
  first_called is = probes.first.called (probes.second.later.honest ∙ is)

  pub asks_slot : IsTrue new.honest → AsksSlot j old.history new.history
  asks_slot is =
      AsksSlot.There att.history probes.between.history probes.first.answer probes.second.answer (attached is) (first_called is)
      (probes.second.called is)

  finds_slot : (lost : Bool) → (IsTrue lost ↔ WasGone slot) → IsTrue new.honest
      → FindsSlot (IsTrue lost) j (both probes.first.cell probes.second.cell) old.history new.history
  finds_slot lost either is =
      FoundBoth att.history probes.between.history probes.first.answer probes.second.answer (attached is) (first_called is) (probes.second.called is)
      (read_mapped (slot.first ≡ probe.Gone) (IsTrue lost) probes.first.answer probes.between.history j 0 probes.first.cell (λ gone. either.1 (inl gone))
      (probes.first.finds (probes.second.later.honest ∙ is)))
      (read_mapped (slot.second ≡ probe.Gone) (IsTrue lost) probes.second.answer new.history j 1 probes.second.cell (λ gone. either.1 (inr gone))
      (probes.second.finds is))
      (λ lost_is. elim (either.0 lost_is) [ inl gone ↦ inl (probes.first.unread gone) | inr gone ↦ inr (probes.second.unread gone) ])

  pub sight_read : (block : Option Superblock) (next : ℕ) (lost : Bool)
      → ((cell : ℕ → Cell) → HoldsThis (cell 0) (block_in slot.first) → HoldsThis (cell 1) (block_in slot.second) → IsNewest cell block)
      → ((cell : ℕ → Cell) → HoldsThis (cell 0) (block_in slot.first) → HoldsThis (cell 1) (block_in slot.second) → IsNextPlace cell next)
      → (IsTrue lost ↔ WasGone slot) → IsSight j old new block next lost
  sight_read block next lost newest place either =
      let probed = probe_later probes in
      record {
        cell = both probes.first.cell probes.second.cell;
        places = λ k below.
            place_found_mapped (IsTrue lost) (IsTrue lost) j k att new old new (both probes.first.cell probes.second.cell k) (λ is. is)
            (reading_wider old att new new attach probed.honest probed.counts (later_none new) j k (both probes.first.cell probes.second.cell k))
            (probe_places probes (IsTrue lost) (λ is. either.1 is) k below);
        finds = λ is. record {
          from = old.history;
          to = new.history;
          sooner = ran_none old.history;
          finds = finds_slot lost either is;
          later = ran_none new.history;
        };
        newest = newest (both probes.first.cell probes.second.cell) probes.first.holds probes.second.holds;
        next = place (both probes.first.cell probes.second.cell) probes.first.holds probes.second.holds;
        gone = λ is. probe_gone probes old att attach (later_none att) attached (either.0 is);
        held = λ is not_lost before ran.
            held_on {allowed = any_call} j (probed.ran is)
            (attach_done old.history att.history j before (pulls_on {allowed = any_call} j ran) (attached is));
      }
