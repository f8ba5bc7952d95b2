-- Asking live slots for a sector, one by one.
use Rattle.std.proofs.Common.{◌≡◌, ℕ, ◌+◌, ◌<◌, ◌↔◌, Bool, List, inl, inr, refl, subst, sym, ◌∙◌, arith, below_more, Option}
use Rattle.std.specs.Prelude.{◌⊎◌, IsTrue, if◌then◌else◌}
use Rattle.stair_model.specs.Slots.{Slots, HasSlot, IsSlotSet, has_slot, slot_count}
use Rattle.stair_rack.specs.Answers.{Calls}
use Rattle.stair_rack.specs.History.{Happening, Read}
use Rattle.stair_rack.specs.RackCounts.{NoneFalls, RisesAtMost}
use Rattle.stair_rack.specs.Reading.{EachBelow, IsReadOf}
use Rattle.stair_rack.specs.Sector.{Damaged, Good}
use Rattle.stair_rack.specs.RackState.{IsGone, IsReading, RackState, rack_state}
use Rattle.stair_rack.specs.declared.rack.Got.{Got}
use Rattle.stair_rack.proofs.GoneLemmas.{is_gone_wider}
use Rattle.stair_rack.proofs.MomentLemmas.{ran_join, ran_none}
use Rattle.stair_rack.proofs.PassCounts.{rises_more, rises_none, rises_within}
use Rattle.stair_rack.proofs.ReadRuns.{read_ran, reads_beside, reads_within}
use Rattle.stair_rack.proofs.RackStateLemmas.{later_called, later_join, later_none, reading_wider}
use Rattle.stair_journal.specs.BodySteps.{Asks, Fails, Gives}
use Rattle.stair_journal.specs.Reads.{PassesSlot, asking}
use Rattle.stair_journal.proofs.LiveCounts.{live_below, live_next, live_none, live_within}
use Rattle.stair_journal.proofs.TurnLemmas.{each_more}

-- ONE SLOT

module _ (live gone : Slots) (j k : ℕ) (honest : Bool) (old new : List Happening) (bads bads' : ℕ) (gones gones' : ℕ → ℕ) (answer : Got)
    (on : HasSlot live j) (told : IsTrue honest → Calls old new j (Read k answer)) (counts : NoneFalls bads bads' gones gones') where
  -- the slot was there
  pub asks_kept : Asks live (λ s. s ≡ k) gone gone (rack_state honest old bads gones) (rack_state honest new bads' gones')
  asks_kept = record {
    more = λ i has. has;
    newly = λ i has. inl has;
    formed = λ was. was;
    later = later_called honest old new bads bads' gones gones' j (Read k answer) told counts;
    ran = λ is. read_ran {slots = HasSlot live} {sectors = λ s. s ≡ k} on refl (told is);
  }

  -- it was gone
  pub asks_lost : (gone' : Slots) → IsSlotSet gone' → ((i : ℕ) → HasSlot gone' i ↔ (HasSlot gone i ⊎ (i ≡ j)))
      → IsGone j (rack_state honest old bads gones) (rack_state honest new bads' gones')
      → Asks live (λ s. s ≡ k) gone gone' (rack_state honest old bads gones) (rack_state honest new bads' gones')
  asks_lost gone' formed added lost = record {
    more = λ i has. (added i).1 (inl has);
    newly = λ i has.
        elim ((added i).0 has) [
          | inl was ↦ inl was
          | inr is ↦
              inr
              (subst (HasSlot live) (sym is) on, subst (λ s. IsGone s (rack_state honest old bads gones) (rack_state honest new bads' gones')) (sym is) lost)
        ];
    formed = λ _. formed;
    later = asks_kept.later;
    ran = asks_kept.ran;
  }

-- LONGER STRETCHES

pub asks_none : (live : Slots) (sectors : ℕ → Type 0) (gone : Slots) (now : RackState) → Asks live sectors gone gone now now
asks_none live sectors gone now = record {
  more = λ j has. has;
  newly = λ j has. inl has;
  formed = λ was. was;
  later = later_none now;
  ran = λ honest. ran_none now.history;
}

module _ (live : Slots) (sectors sectors' : ℕ → Type 0) (gone gone' gone'' : Slots) (old mid new : RackState)
    (first : Asks live sectors gone gone' old mid) (second : Asks live sectors' gone' gone'' mid new) where
  -- what a slot is found gone for lasts
  gone_on : (j : ℕ) → IsGone j old mid → IsGone j old new
  gone_on j was =
      is_gone_wider {allowed = IsReadOf (HasSlot live) sectors'} old old mid new (later_none old) first.later.honest first.later.counts second.later
      j (reads_beside (HasSlot live) sectors' j) second.ran was

  gone_since : (j : ℕ) → IsGone j mid new → IsGone j old new
  gone_since j is =
      is_gone_wider {allowed = IsReadOf (HasSlot live) sectors'} old mid new new first.later second.later.honest second.later.counts
      (later_none new) j (reads_beside (HasSlot live) sectors' j) (λ honest. ran_none new.history) is

  pub asks_join : ((k : ℕ) → sectors' k → sectors k) → Asks live sectors gone gone'' old new
  asks_join within = record {
    more = λ j has. second.more j (first.more j has);
    newly = λ j has.
        elim (second.newly j has) [
          | inl was ↦ elim (first.newly j was) [ inl before ↦ inl before | inr is ↦ inr (is.0, gone_on j is.1) ]
          | inr is ↦ inr (is.0, gone_since j is.1)
        ];
    formed = λ was. second.formed (first.formed was);
    later = later_join first.later second.later;
    ran = λ honest.
        ran_join (first.ran (second.later.honest ∙ honest))
        (reads_within {slots = HasSlot live} {sectors = sectors'} {slots' = HasSlot live} {sectors' = sectors} (λ j on. on) within
        (second.ran honest));
  }

  pub fails_on : (j k : ℕ) → Fails gone' old mid j k → Fails gone'' old new j k
  fails_on j k (inl was) = inl (second.more j was)
  fails_on j k (inr bad) =
      inr (reading_wider old old mid new (later_none old) first.later.honest first.later.counts second.later j k Damaged bad)

  pub fails_since : (j k : ℕ) → Fails gone'' mid new j k → Fails gone'' old new j k
  fails_since j k (inl is) = inl is
  fails_since j k (inr bad) =
      inr (reading_wider old mid new new first.later second.later.honest second.later.counts (later_none new) j k Damaged bad)

-- ALL SLOTS

-- The slots below i were asked, and none gave the sector.
pub record NoneGives (live : Slots) (k i : ℕ) (gone gone' : Slots) (old now : RackState) (count count' : Option ℕ) : Type 0 where
  pub asks : Asks live (λ s. s ≡ k) gone gone' old now
  pub none : (j : ℕ) → j < i → HasSlot live j → Fails gone' old now j k
  pub formed : 0 < i → IsSlotSet live
  pub in_turn : IsTrue now.honest → EachBelow (PassesSlot live k) i (asking gone old.history) (asking gone' now.history)
  pub reads : RisesAtMost (live_below live i) count count'

pub none_asked : (live : Slots) (k : ℕ) (gone : Slots) (now : RackState) (count : Option ℕ) → NoneGives live k 0 gone gone now now count count
none_asked live k gone now count = record {
  asks = asks_none live (λ s. s ≡ k) gone now;
  none = λ j below. absurd (omega arith);
  formed = λ below. absurd (omega arith);
  in_turn = λ honest. refl;
  reads = subst (λ n. RisesAtMost n count count) (sym (live_none live)) (rises_none count);
}

module _ (live : Slots) (k i : ℕ) (gone gone' gone'' : Slots) (old mid new : RackState) (count count' count'' : Option ℕ)
    (before : NoneGives live k i gone gone' old mid count count') (ask : Asks live (λ s. s ≡ k) gone' gone'' mid new) (formed : IsSlotSet live)
    (reads : RisesAtMost (if has_slot live i then 1 else 0) count' count'') where
  pub asks_more : Asks live (λ s. s ≡ k) gone gone'' old new
  asks_more = asks_join live (λ s. s ≡ k) (λ s. s ≡ k) gone gone' gone'' old mid new before.asks ask (λ s is. is)

  none_before : (j : ℕ) → j < i → HasSlot live j → Fails gone'' old new j k
  none_before j below on =
      fails_on live (λ s. s ≡ k) (λ s. s ≡ k) gone gone' gone'' old mid new before.asks ask j k (before.none j below on)

  reads_more : RisesAtMost (live_below live (i + 1)) count count''
  reads_more =
      rises_more (live_below live i) (if has_slot live i then 1 else 0) (live_below live (i + 1)) count count' count'' (live_next live i) before.reads
      reads

  -- it doesn't give it either
  pub none_more : (HasSlot live i → Fails gone'' mid new i k)
      → (IsTrue new.honest → PassesSlot live k i (asking gone' mid.history) (asking gone'' new.history))
      → NoneGives live k (i + 1) gone gone'' old new count count''
  none_more fails passes = record {
    asks = asks_more;
    none = below_more (λ j. HasSlot live j → Fails gone'' old new j k) i none_before
        (λ on. fails_since live (λ s. s ≡ k) (λ s. s ≡ k) gone gone' gone'' old mid new before.asks ask i k (fails on));
    formed = λ _. formed;
    in_turn = λ honest.
        each_more (PassesSlot live k) i (asking gone old.history) (asking gone' mid.history) (asking gone'' new.history)
        (before.in_turn (ask.later.honest ∙ honest)) (passes honest);
    reads = reads_more;
  }

  -- it gives it
  pub gives : (bytes : List ℕ) → HasSlot live i → IsReading i k mid new (Good bytes) → Gives live k gone'' bytes old new
  gives bytes on read = record {
    slot = i;
    live_slot = on;
    read = reading_wider old mid new new before.asks.later ask.later.honest ask.later.counts (later_none new) i k (Good bytes) read;
    lower = none_before;
  }

  pub gives_reads : i < 32 → RisesAtMost (slot_count live) count count''
  gives_reads below = rises_within (live_below live (i + 1)) (slot_count live) count count'' (live_within live (i + 1) (omega arith)) reads_more
