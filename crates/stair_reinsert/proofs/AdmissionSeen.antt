-- A slot that was attached and looked at, and isn't attached anew: what its superblock places hold is what was read there, and so what the
-- member knows of it.
use Rattle.std.proofs.Common.{◌≡◌, ◌≢◌, ℕ, ◌<◌, ◌≤◌, ◌-◌, List, [], ◌⊎◌, inl, inr, refl, sym, ap, ◌∙◌, subst, arith, true≢false, None, Some, Option}
use Rattle.std.specs.Prelude.{false, max}
use Rattle.std.proofs.lemmas.Bool.{cases_eq}
use Rattle.stair_model.specs.Geometry.{Geometry}
use Rattle.stair_rack.specs.Answers.{IsHistory, IsNoAttach, Ran, any_call, is_good}
use Rattle.stair_rack.specs.Crash.{image_now}
use Rattle.stair_rack.specs.History.{Attach, Happening, slot_state}
use Rattle.stair_rack.specs.Moments.{IsMoment}
use Rattle.stair_rack.specs.Offline.{Here, IsAttached, IsKept, Lost}
use Rattle.stair_rack.specs.Placed.{IsSlot}
use Rattle.stair_rack.specs.Reading.{WasRead}
use Rattle.stair_rack.specs.Sector.{Cell, Damaged, Good, Sector, Torn, TornOverDamage, content, synced}
use Rattle.stair_rack.specs.RackState.{IsReading}
use Rattle.stair_rack.proofs.CrashLemmas.{nothing_unsynced}
use Rattle.stair_rack.proofs.KeptLemmas.{IsKept-now, SectorKeeps, keeps_sector}
use Rattle.stair_rack.proofs.MomentLemmas.{IsThis, calls_ran, moment_between, ran_after, ran_any, ran_before, ran_join, ran_weakened}
use Rattle.stair_rack.proofs.StepLemmas.{kept}
use Rattle.stair_rack.proofs.TidyLemmas.{history_on, history_tidy}
use Rattle.stair_super.specs.Superblock.{Superblock}
use Rattle.stair_member.specs.Current.{ByOutside, IsLost}
use Rattle.stair_member.specs.Membership.{Membership, place_of}
use Rattle.stair_member.specs.Seeing.{draw_in}
use Rattle.stair_member.specs.Superblocks.{HoldsSuper, HoldsThis, IsSuperOf}
use Rattle.stair_member.specs.Survey.{InFirst, InSecond, IsPlaceOf}
use Rattle.stair_rack.specs.declared.rack.Reply.TheVariants as reply
use Rattle.stair_super.specs.declared.configuration.Configuration.{Configuration}
use Rattle.stair_state.specs.Represents.{AreSteady}
use Rattle.stair_state.specs.Redoing.{AttachesNone}
use Rattle.stair_invariant.specs.InSession.{IsBehindPlaces}
use Rattle.stair_invariant.specs.Leading.{IsBesideArray}
use Rattle.stair_invariant.specs.Session.{ArrayState}
use Rattle.stair_invariant.proofs.Mending.{IsLookedAt}
use Rattle.stair_array.proofs.PreparedLemmas.{held_below}
use Rattle.stair_reinsert.specs.Given.{KnowsSuper}
use Rattle.stair_reinsert.proofs.NameLemmas.{still_attached}
use Rattle.stair_reinsert.proofs.PlacesSince.{steady_behind}

-- what a place holds now, by what was read there
data IsAsRead (now read : Cell) : Type 0 where
  SameCell : now ≡ read → IsAsRead now read
  Unread : is_good now ≡ false → is_good read ≡ false → IsAsRead now read
  HarmedSince : now ≡ Damaged → IsAsRead now read

place_keeps : (j k : ℕ) (first : Sector) → k < 2 → first.since ≡ [] → SectorKeeps IsBehindPlaces j k (λ s. s ≡ first)
place_keeps j k first place none = record {
  write = λ bytes s may before. absurd (omega (arith, may, place));
  sync = λ s may same. let whole = nothing_unsynced first none in ap synced same ∙ ap synced whole ∙ sym whole;
}

none_good : {cell : Cell} {s : Superblock} → is_good cell ≡ false → ¬ HoldsSuper cell s
none_good bad holds = true≢false (sym (ap is_good holds.good) ∙ bad)

module _ (a : ArrayState) (slot : ℕ) (seen : Membership) (old new : List Happening) (history : IsHistory old)
    (steady : AreSteady a.member.array.geometry old) (l : IsLookedAt a slot seen old new) (on : IsAttached new slot) where
  abbrev g : Geometry
  g = a.member.array.geometry

  behind : Ran IsBehindPlaces old new
  behind = ran_weakened {allowed = IsBesideArray a} {more = IsBehindPlaces} (λ i c may. may.session.epochs.behind) l.ran

  -- AT A MOMENT of the look
  module _ (c : List Happening) (at : IsMoment l.start.history c l.end.history) where
    to_start : Ran any_call old l.start.history
    to_start = ran_any {allowed = IsThis slot (Attach reply.Done)} (calls_ran l.attached)

    after : Ran any_call c new
    after = ran_join {allowed = any_call} (ran_any {allowed = AttachesNone (IsSlot slot)} (ran_after {allowed = AttachesNone (IsSlot slot)} l.none at)) (ran_any {allowed = AttachesNone (IsSlot slot)} l.later)

    moment : IsMoment old c new
    moment =
        moment_between {a = any_call} {b = any_call}
        (ran_join {allowed = any_call} to_start (ran_any {allowed = AttachesNone (IsSlot slot)} (ran_before {allowed = AttachesNone (IsSlot slot)} l.none at)))
        after

    unattached : Ran (IsNoAttach slot) c new
    unattached =
        ran_join {allowed = IsNoAttach slot} (ran_after {allowed = AttachesNone (IsSlot slot)} l.none at) l.later

    was : IsAttached c slot × ((slot_state new slot).pulls ≡ (slot_state c slot).pulls)
    was = still_attached slot unattached on

    since_none : (k : ℕ) → k < 2 → ((slot_state c slot).sector k).since ≡ []
    since_none k small = steady_behind g old c steady (ran_before {allowed = IsBehindPlaces} behind moment) slot k l.below small

    -- from then on a place holds what it held, or damage
    held_since : (k : ℕ) → k < 2
        → ((image_now new slot).cell k ≡ content ((slot_state c slot).sector k)) ⊎ ((image_now new slot).cell k ≡ Damaged)
    held_since k small =
        by
        (kept {allowed = IsBehindPlaces} {P = λ y. IsKept (slot_state c slot).pulls k (λ s. s ≡ (slot_state c slot).sector k) (slot_state y slot)}
        (keeps_sector {allowed = IsBehindPlaces} {j = slot} {k = k} {P = λ s. s ≡ (slot_state c slot).sector k} (slot_state c slot).pulls
        (place_keeps slot k ((slot_state c slot).sector k) small (since_none k small))) (ran_after {allowed = IsBehindPlaces} behind moment)
        (IsKept-now c slot k
        ((history_tidy (history_on {allowed = IsBehindPlaces} history (ran_before {allowed = IsBehindPlaces} behind moment))).attached slot was.0)))
      where
        by : IsKept (slot_state c slot).pulls k (λ s. s ≡ (slot_state c slot).sector k) (slot_state new slot)
            → ((image_now new slot).cell k ≡ content ((slot_state c slot).sector k)) ⊎ ((image_now new slot).cell k ≡ Damaged)
        by (Here pulls some (inl harmed)) = inr (ap content harmed)
        by (Here pulls some (inr same)) = inl (ap content same)
        by (Lost less) = let same = was.1 in absurd (omega (arith, less, same))

  -- SO EACH PLACE IS AS IT WAS READ

  as_read : (k : ℕ) → k < 2 → IsAsRead ((image_now new slot).cell k) (l.cell k)
  as_read k small = by (l.cell k) (l.reading k small)
    where
      now : Cell
      now = (image_now new slot).cell k

      by : (read : Cell) → IsReading slot k l.start l.end read → IsAsRead ((image_now new slot).cell k) read
      by (Good bytes) reading =
          let w : WasRead (λ cell. cell ≡ Good bytes) l.start.history l.end.history slot k = reading l.honest in
          elim (held_since w.moment w.is_one k small) [
            | inl same ↦ SameCell (same ∙ w.found)
            | inr harmed ↦ HarmedSince harmed
          ]
      by Damaged reading =
          let w : WasRead (λ cell. is_good cell ≡ false) l.start.history l.end.history slot k = reading.1 l.honest in
          elim (held_since w.moment w.is_one k small) [
            | inl same ↦ Unread (ap is_good same ∙ w.found) refl
            | inr harmed ↦ HarmedSince harmed
          ]
      by Torn reading = absurd reading
      by TornOverDamage reading = absurd reading

  -- what it holds was read
  held_read : (now read : Cell) → IsAsRead now read → (s : Superblock) → HoldsSuper now s → HoldsSuper read s
  held_read now read (SameCell same) s holds = subst (λ (c : Cell). HoldsSuper c s) same holds
  held_read now read (Unread bad other) s holds = absurd (none_good bad holds)
  held_read now read (HarmedSince harmed) s holds = absurd (none_good (ap is_good harmed) holds)

  -- and where it isn't lost it holds what was read
  holds_now : (now read : Cell) (found : Option Superblock) → IsAsRead now read → ¬ IsLost now → HoldsThis read found → HoldsThis now found
  holds_now now read None still whole none = λ s holds. none s (held_read now read still s holds)
  holds_now now read (Some s) (SameCell same) whole holds = subst (λ (c : Cell). HoldsSuper c s) (sym same) holds
  holds_now now read (Some s) (Unread bad other) whole holds = absurd (none_good other holds)
  holds_now now read (Some s) (HarmedSince harmed) whole holds = absurd (whole (ByOutside harmed))

  -- THE DRAWS were seen

  pub drawn_seen : (k : ℕ) (s : Superblock) → k < 2 → HoldsSuper ((image_now new slot).cell k) s → s.draw ≤ seen.drawn
  drawn_seen k s small holds = by (cases_eq k 0)
    where
      read : HoldsSuper (l.cell k) s
      read = held_read ((image_now new slot).cell k) (l.cell k) (as_read k small) s holds

      drawn : seen.drawn ≡ max (max a.member.drawn (draw_in l.first)) (draw_in l.second)
      drawn = l.sees.drawn

      by : (k ≡ 0) ⊎ (k ≢ 0) → s.draw ≤ seen.drawn
      by (inl zero) =
          let least = held_below (l.cell 0) l.first l.in_first s (subst (λ (i : ℕ). HoldsSuper (l.cell i) s) zero read) in
          omega (arith, least, drawn)
      by (inr other) =
          let one : k ≡ 1 = omega (arith, small, other) in
          let least = held_below (l.cell 1) l.second l.in_second s (subst (λ (i : ℕ). HoldsSuper (l.cell i) s) one read) in
          omega (arith, least, drawn)

  -- ITS SUPERBLOCK lies aside

  pub lies_aside : (s : Superblock) → IsSuperOf ((image_now new slot).cell) s → ¬ IsLost ((image_now new slot).cell 0)
      → ¬ IsLost ((image_now new slot).cell 1) → HoldsSuper ((image_now new slot).cell (1 - place_of seen slot)) s
  lies_aside s super first second =
      by (1 - place_of seen slot)
      ((l.sees.next (image_now new slot).cell
      (holds_now ((image_now new slot).cell 0) (l.cell 0) l.first (as_read 0 (omega arith)) first l.in_first)
      (holds_now ((image_now new slot).cell 1) (l.cell 1) l.second (as_read 1 (omega arith)) second l.in_second)).other s super)
    where
      by : (k : ℕ) → IsPlaceOf (image_now new slot).cell s k → HoldsSuper ((image_now new slot).cell k) s
      by _ (InFirst holds) = holds
      by _ (InSecond holds other) = holds

  pub knows_slot : KnowsSuper seen new slot
  knows_slot = record {
    there = (history_tidy (history_on {allowed = IsBehindPlaces} history behind)).attached slot on;
    steady = λ k small. steady_behind g old new steady behind slot k l.below small;
    drawn = drawn_seen;
    place =
        let few : seen.array.geometry.n ≤ 32 = l.rules.array.limits.devices.1 in
        let below : slot < seen.array.geometry.n = subst (λ (c : Configuration). slot < c.geometry.n) (sym l.sees.array) l.below in
        l.rules.places slot (omega (arith, below, few));
    aside = lies_aside;
  }
