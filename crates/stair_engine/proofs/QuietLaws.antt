-- A survey of a rack that is left alone finds each slot that was live at first, also one that has lost a superblock place.
use Rattle.std.proofs.Common.{◌≡◌, ◌∙◌, ◌<◌, ℕ, List, Option, None, Some, inl, inr, refl, sym, ap, true, arith}
use Rattle.std.specs.Prelude.{IsSome, IsTrue}
use Rattle.std.proofs.lemmas.Bool.{true≢false}
use Rattle.stair_model.specs.Geometry.{Geometry}
use Rattle.stair_model.specs.Slots.{HasSlot}
use Rattle.stair_rack.specs.Answers.{IsHistory, Ran, is_good}
use Rattle.stair_rack.specs.Crash.{image_now}
use Rattle.stair_rack.specs.History.{slot_state}
use Rattle.stair_rack.specs.Media.{Image}
use Rattle.stair_rack.specs.Offline.{IsOffline, WasPulled}
use Rattle.stair_rack.specs.Sector.{Good}
use Rattle.stair_rack.specs.Stretch.{NothingDamaged, NothingReturned}
use Rattle.stair_rack.specs.RackState.{RackState}
use Rattle.stair_rack.proofs.MomentLemmas.{ran_none}
use Rattle.stair_super.specs.Superblock.{Superblock}
use Rattle.stair_member.specs.Current.{IsCurrent, IsLive}
use Rattle.stair_member.specs.Findings.{AreFound, Findings}
use Rattle.stair_member.specs.Membership.{Membership, why_of}
use Rattle.stair_member.specs.Superblocks.{Counts, HoldsSuper}
use Rattle.stair_member.specs.Survey.{IsSurveyed}
use Rattle.stair_member.specs.declared.why.Why.TheVariants.{Here}
use Rattle.stair_member.proofs.SuperLemmas.{one_current, slot_below, super_by_holds, super_held}
use Rattle.stair_state.specs.Represents.{Represents, no_write}
use Rattle.stair_state.specs.State.{State}
use Rattle.stair_state.specs.Tolerance.{ToleratedSince}
use Rattle.stair_state.proofs.AgreeLemmas.{agree_back, live_here, mark_agree, mark_moved}
use Rattle.stair_state.proofs.FormLemmas.{good_whole}
use Rattle.stair_state.proofs.SeenLemmas.{IsLookedAt, fits, holds_first, last_copies}
use Rattle.stair_state.proofs.StillLemmas.{empty_lost, gone_lost, read_image}
use Rattle.stair_state.proofs.SurveyedLemmas.{agree, current_read, goes_on, looks, reasons}
use Rattle.stair_engine.proofs.SparedLaws.{stays_good}

some_unless : (size : Option ℕ) → (size ≡ None → ⊥) → IsSome size
some_unless None never = absurd (never refl)
some_unless (Some n) never = refl

module _ (s : State) (old new : RackState) (f : Findings) (found : AreFound f old new) (honest : IsTrue new.honest) (is : IsHistory old.history)
    (ran : Ran no_write old.history new.history) (stands : Represents s old.history) (none : NothingReturned old.history new.history)
    (tolerated : ToleratedSince s.geometry old.history new.history) (undamaged : NothingDamaged old.history new.history)
    (unpulled : (j : ℕ) → IsSome (slot_state old.history j).size → ¬ WasPulled old.history new.history j) where
  abbrev g : Geometry
  g = s.geometry

  abbrev first : Image
  first = image_now old.history

  abbrev last : Image
  last = image_now new.history

  looked : IsLookedAt s.geometry (λ j. IsOffline old.history new.history j) (image_now old.history) (read_image f) (image_now new.history)
  looked = looks s old.history old new f found honest is ran (ran_none old.history) stands none tolerated

  -- what could be read at first can be read at the end
  good_then : (j k : ℕ) (bytes : List ℕ) → (first j).cell k ≡ Good bytes → (last j).cell k ≡ Good bytes
  good_then j k bytes good =
      elim (last_copies looked j k) [
        | inl same ↦ same ∙ good
        | inr harmed ↦ absurd (true≢false (sym (stays_good j k some (unpulled j some) undamaged ran (ap is_good good)) ∙ ap is_good harmed))
      ]
    where
      some : IsSome (slot_state old.history j).size
      some = some_unless (slot_state old.history j).size (λ empty. good_whole good (empty_lost old.history j is empty k))

  -- so each superblock was read
  holds_then : (j k : ℕ) (t : Superblock) → j < 32 → k < 2 → HoldsSuper ((first j).cell k) t → HoldsSuper ((read_image f j).cell k) t
  holds_then j k t slot place holds = record {
    bytes = holds.bytes;
    good = looked.kept j k holds.bytes slot place (good_then j k holds.bytes holds.good);
    spells = holds.spells;
  }

  counts_then : (j : ℕ) (t : Superblock) → Counts g first j t → Counts g (read_image f) j t
  counts_then j t counts =
      let slot : j < 32 = omega (arith, slot_below g first j t counts, fits looked) in
      record {
        super = super_by_holds ((first j).cell) ((read_image f j).cell) t (λ k u place holds. holds_then j k u slot place holds)
            (λ k u place holds. holds_first looked j k u holds) counts.super;
        slot = counts.slot;
        identity = counts.identity;
      }

  counts_first : (j : ℕ) (t : Superblock) → Counts g (read_image f) j t → Counts g first j t
  counts_first j t counts =
      let slot : j < 32 = omega (arith, slot_below g (read_image f) j t counts, fits looked) in
      record {
        super = super_by_holds ((read_image f j).cell) ((first j).cell) t (λ k u place holds. holds_first looked j k u holds)
            (λ k u place holds. holds_then j k u slot place holds) counts.super;
        slot = counts.slot;
        identity = counts.identity;
      }

  current_then : (current : Superblock) → IsCurrent g first current → IsCurrent g (read_image f) current
  current_then current is_current = record {
    counts = counts_then current.slot current is_current.counts;
    newest = λ j t counts. is_current.newest j t (counts_first j t counts);
  }

  not_gone : (current : Superblock) (j : ℕ) → IsLive g first current j → ¬ HasSlot f.gone j
  not_gone current j live gone =
      let held = super_held ((first j).cell) live.super live.counts.super in
      let slot : j < 32 = omega (arith, live.below, fits looked) in
      elim (gone_lost f old new found honest is ran none j slot gone) [
        | inl stops ↦ absurd (goes_on s old.history old new f found honest is ran (ran_none old.history) stands none tolerated stops)
        | inr all ↦ absurd (good_whole (good_then j held.place held.holds.bytes held.holds.good) (all held.place))
      ]

  -- a slot that was live is here
  pub live_found : (m : Membership) → IsSurveyed f m → (current : Superblock) (j : ℕ) → IsCurrent g first current → IsLive g first current j
      → why_of m j ≡ Here
  live_found m surveyed current j is_current live =
      let same : current ≡ surveyed.current =
      one_current g (read_image f) current surveyed.current (current_then current is_current)
      (current_read s old.history old new f found honest is ran (ran_none old.history) stands none tolerated m surveyed) in
      live_here (HasSlot f.gone) g f.image surveyed.current j (why_of m j) (not_gone current j live)
      (mark_agree g 32 (fits looked) (read_image f) f.image surveyed.current j (agree_back 32 f.image (read_image f) (agree f))
      (mark_moved g first (read_image f) current surveyed.current j (ap (λ (c : Superblock). c.array) same) (λ t counts. counts_then j t counts) live))
      (reasons s old.history old new f found honest is ran (ran_none old.history) stands none tolerated m surveyed j live.below)
