-- While an epoch is established the places of a slot are written in turn: the other place only once the next one holds nothing
-- of before.
use Rattle.std.proofs.Common.{◌≡◌, ℕ, ◌-◌, ◌<◌, ◌≤◌, List, [], ◌∷◌, inl, inr, refl, sym, ap, ◌∙◌, subst, arith}
use Rattle.std.specs.Prelude.{◌⊎◌, true, false, Contains, IsSome, slice_get, ⊤}
use Rattle.std.proofs.lemmas.Bool.{cases_eq}
use Rattle.stair_model.specs.Slots.{Slots, HasSlot}
use Rattle.stair_rack.specs.Answers.{Ran, is_good}
use Rattle.stair_rack.specs.Crash.{CrashMayLeave, image_now}
use Rattle.stair_rack.specs.History.{Happening, Made, Stopped, Acted, Called, SlotAct, Pulled, InsertedBlank, InsertedOld, SectorDamaged, SlotCall, SlotState, Attach, Sectors, Read, Write, Sync, after_act, after_call, slot_state}
use Rattle.stair_rack.specs.Media.{Image}
use Rattle.stair_rack.specs.Moments.{AtEveryMoment, Throughout}
use Rattle.stair_rack.specs.Offline.{IsAttached, IsKept}
use Rattle.stair_rack.specs.Outside.{IsAct, MayHappen}
use Rattle.stair_rack.specs.Sector.{Cell, Damaged, Good, Leaves, MayLeave, Sector, content, damaged, settled, synced, torn, wrote}
use Rattle.stair_rack.specs.Stretch.{EachHappening, EachOf}
use Rattle.stair_rack.specs.declared.rack.Reply.TheVariants as reply
use Rattle.stair_rack.proofs.CrashLemmas.{CrashMayLeave-now, leaves_on, nothing_unsynced, settled_left}
use Rattle.stair_rack.proofs.KeptLemmas.{IsKept-mapped, not_none, with_old_cases, with_sector_cases}
use Rattle.stair_rack.proofs.MomentLemmas.{at_every_mapped, at_moment, ran_before}
use Rattle.stair_rack.proofs.StepLemmas.{slot_act_cases, slot_call_cases}
use Rattle.stair_rack.proofs.StretchLemmas.{kept_where}
use Rattle.stair_rack.proofs.TidyLemmas.{history_tidy}
use Rattle.stair_super.specs.Spelling.{spelled}
use Rattle.stair_super.specs.Superblock.{Superblock, IsSuperblock}
use Rattle.stair_member.specs.Editions.{Edition, copy_of}
use Rattle.stair_member.specs.Epochs.{AsWas, Given, IsIssuing, IsStanding}
use Rattle.stair_member.specs.Fencing.{IsFencing}
use Rattle.stair_member.specs.Membership.{IsHere, Membership, place_of}
use Rattle.stair_member.specs.Superblocks.{HoldsSuper}
use Rattle.stair_member.specs.declared.aim.EpochChange.{EpochChange}
use Rattle.stair_member.proofs.EditionLemmas.{Bare, Comes, Cut, Harmed, Same, Stayed, Wrote, holds_copy, issuing_places, none_held_there, slot_is}
use Rattle.stair_member.proofs.SuperLemmas.{holds_once}

-- what is damaged isn't good
no_good : (bytes : List ℕ) → settled Damaged ≡ settled (Good bytes) → ⊥
no_good bytes is = let cells : Damaged ≡ Good bytes = ap (λ (x : Sector). x.base) is in absurd (cc)

-- what holds at every moment holds after each happening
after_each : (P : List Happening → Type 0) (more old : List Happening) → Throughout P more old → EachOf (λ h e. P (e ∷ h)) more old
after_each P [] old all = tt
after_each P (e ∷ more) old all = (after_each P more old all.1, all.0)

module _ (aim : EpochChange) (gone : Slots) (m last : Membership) (old h new : List Happening) (f : IsFencing aim gone m last old h new)
    (j : ℕ) (here : IsHere m j) (has : HasSlot f.issued.slots j) (on : IsAttached old j) (some : IsSome (slot_state old j).size) where
  abbrev p : ℕ
  p = place_of m j

  abbrev o : ℕ
  o = 1 - place_of m j

  abbrev first : SlotState
  first = slot_state old j

  abbrev slots : Slots
  slots = f.issued.slots

  abbrev editions : List Edition
  editions = f.issued.editions

  p_in : p < 2
  p_in =
      let fits : m.array.geometry.n ≤ 32 = f.begun.member.array.limits.devices.1 in
      let below : j < m.array.geometry.n = here.below in
      f.begun.member.places j (omega (arith, fits, below))

  -- all that the cell holds is new
  abbrev IsFresh : Cell → Type 0
  IsFresh cell = (t : Superblock) → HoldsSuper cell t → m.drawn < t.draw

  copy_fresh : (e : Edition) → Contains editions e → IsSuperblock (copy_of e j) → (cell : Cell) → cell ≡ Good (spelled (copy_of e j)) → IsFresh cell
  copy_fresh e among formed cell is t holds =
      let same : t ≡ copy_of e j = holds_once cell t (copy_of e j) holds (holds_copy cell e j formed is) in
      let draws : t.draw ≡ e.draw = ap (λ (x : Superblock). x.draw) same in
      let above : m.drawn < e.draw = (f.issued.each e among).above in
      omega (arith, draws, above)

  fresh_damaged : IsFresh Damaged
  fresh_damaged t holds = absurd (none_held_there Damaged t refl holds)

  fresh_comes : (cell : Cell) → Comes (HasSlot slots) editions j Damaged cell → IsFresh cell
  fresh_comes cell (Stayed is) t holds = absurd (none_held_there cell t is holds)
  fresh_comes cell (Harmed is) t holds = absurd (none_held_there cell t is holds)
  fresh_comes cell (Cut on bad) t holds = let both : false ≡ true = sym bad ∙ ap is_good holds.good in absurd (cc)
  fresh_comes cell (Wrote e on among formed is) t holds = copy_fresh e among formed cell is t holds

  -- what a place held at first isn't
  old_draw : (k : ℕ) (t : Superblock) → k < 2 → HoldsSuper (content (first.sector k)) t → t.draw ≤ m.drawn
  old_draw k t lt holds = (f.begun.known (image_now old) (CrashMayLeave-now old)).drawn j k t (inl here) on lt holds

  not_fresh : (k : ℕ) (e : Edition) → k < 2 → Contains editions e → IsSuperblock (copy_of e j)
      → first.sector k ≡ settled (Good (spelled (copy_of e j))) → ⊥
  not_fresh k e lt among formed is =
      let holds : HoldsSuper (content (first.sector k)) (copy_of e j) =
      holds_copy (content (first.sector k)) e j formed (ap content is) in
      let upto : e.draw ≤ m.drawn = old_draw k (copy_of e j) lt holds in
      let above : m.drawn < e.draw = (f.issued.each e among).above in
      omega (arith, upto, above)

  -- THE TWO STATES OF A SLOT

  -- the other place is as it was
  abbrev IsUntouched : SlotState → Type 0
  IsUntouched b = IsKept first.pulls o (λ (x : Sector). x ≡ first.sector o) b

  -- the next place holds nothing of before
  abbrev IsOver : SlotState → Type 0
  IsOver b = IsKept first.pulls p (Leaves IsFresh (λ c. ⊤)) b

  abbrev InTurn : List Happening → Type 0
  InTurn h = IsUntouched (slot_state h j) ⊎ IsOver (slot_state h j)

  abbrev Stands : List Happening → Type 0
  Stands h = IsStanding m editions old h j

  old_settled : first.sector o ≡ settled (first.sector o).base
  old_settled =
      nothing_unsynced (first.sector o) (f.begun.settled j o here.below (omega arith))

  -- an edition can't lie settled there after one happening
  module _ (b : SlotState) (untouched : IsUntouched b) (e : Edition) (among : Contains editions e) (formed : IsSuperblock (copy_of e j)) where
    abbrev IsNot : SlotState → Type 0
    IsNot c = c.pulls ≡ first.pulls → c.sector o ≡ settled (Good (spelled (copy_of e j))) → ⊥

    not_sector : b.pulls ≡ first.pulls → (b.sector o ≡ damaged) ⊎ (b.sector o ≡ first.sector o)
    not_sector pulls = by untouched
      where
        by : IsKept first.pulls o (λ (x : Sector). x ≡ first.sector o) b → (b.sector o ≡ damaged) ⊎ (b.sector o ≡ first.sector o)
        by (IsKept.Here same has_size (inl is)) = inl is
        by (IsKept.Here same has_size (inr is)) = inr is
        by (IsKept.Lost less) = absurd (omega (arith, less, pulls))

    not_now : IsNot b
    not_now pulls is =
        elim (not_sector pulls) [
          | inl harmed ↦ no_good (spelled (copy_of e j)) (sym harmed ∙ is)
          | inr same ↦ not_fresh o e (omega arith) among formed (sym same ∙ is)
        ]

    not_synced : b.pulls ≡ first.pulls → synced (b.sector o) ≡ settled (Good (spelled (copy_of e j))) → ⊥
    not_synced pulls is =
        elim (not_sector pulls) [
          | inl harmed ↦ no_good (spelled (copy_of e j)) (sym (ap synced harmed) ∙ is)
          | inr same ↦
              let settled_so : b.sector o ≡ settled (first.sector o).base = same ∙ old_settled in
              let both : settled (first.sector o).base ≡ settled (Good (spelled (copy_of e j))) = sym (ap synced settled_so) ∙ is in
              not_fresh o e (omega arith) among formed (old_settled ∙ both)
        ]

    not_act : (a : SlotAct) → MayHappen b a → IsNot (after_act a b)
    not_act (Pulled n) may pulls is = no_good (spelled (copy_of e j)) is
    not_act (InsertedBlank n) may pulls is = no_good (spelled (copy_of e j)) is
    not_act (InsertedOld i) may pulls is = place_back untouched
      where
        old_pulls : b.pulls ≡ first.pulls
        old_pulls = with_old_cases (λ c. c.pulls ≡ first.pulls → b.pulls ≡ first.pulls) i (slice_get b.removed i) b (λ same. same) (λ n same. same) pulls

        place_back : IsUntouched b → ⊥
        place_back (IsKept.Here same has_size holds) = not_none b.size may.0 has_size
        place_back (IsKept.Lost less) = omega (arith, less, old_pulls)
    not_act (SectorDamaged k) may pulls is =
        with_sector_cases (λ (x : Sector). x ≡ settled (Good (spelled (copy_of e j))) → ⊥) k o damaged b (λ at harmed. no_good (spelled (copy_of e j)) harmed) (not_now pulls) is

    not_call : (c : SlotCall) → IsNot (after_call c b)
    not_call (Attach reply.Done) pulls is = not_now pulls is
    not_call (Attach reply.Gone) pulls is = not_now pulls is
    not_call (Sectors n) pulls is = not_now pulls is
    not_call (Read k answer) pulls is = not_now pulls is
    not_call (Write k bytes reply.Done) pulls is =
        with_sector_cases (λ (x : Sector). x ≡ settled (Good (spelled (copy_of e j))) → ⊥) k o (wrote bytes (b.sector k)) b
        (λ at written. absurd (let none : (bytes ∷ (b.sector k).since) ≡ [] = ap (λ (x : Sector). x.since) written in cc)) (not_now pulls) is
    not_call (Write k bytes reply.Gone) pulls is = not_now pulls is
    not_call (Sync reply.Done) pulls is = not_synced pulls is
    not_call (Sync reply.Gone) pulls is = not_now pulls is

  -- AT EACH MOMENT

  abbrev IsNeverNow : SlotState → Type 0
  IsNeverNow b = (e : Edition) → Contains editions e → IsSuperblock (copy_of e j) → b.pulls ≡ first.pulls
      → b.sector o ≡ settled (Good (spelled (copy_of e j))) → ⊥

  judge : (h : List Happening) → IsNeverNow (slot_state h j) → Stands h → InTurn h
  judge h never (AsWas one two) = inl one
  judge h never (Given d) =
      elim (cases_eq d.place p) [
        | inl next ↦
            inr
            (IsKept-mapped
            (λ x is. record {
              each = λ cell left.
                  copy_fresh d.edition d.among d.formed cell
                  (settled_left (Good (spelled (copy_of d.edition j))) cell (subst (λ (y : Sector). MayLeave y cell) is left));
              base = tt;
            })
            (subst (λ (k : ℕ). IsKept first.pulls k (λ (x : Sector). x ≡ settled (Good (spelled (copy_of d.edition j)))) (slot_state h j)) next d.on_disk))
        | inr apart ↦
            let within : d.place < 2 = d.place_in in
            let small : p < 2 = p_in in
            let other : d.place ≡ o = omega (arith, apart, within, small) in
            inl
            (by (subst (λ (k : ℕ). IsKept first.pulls k (λ (x : Sector). x ≡ settled (Good (spelled (copy_of d.edition j)))) (slot_state h j)) other d.on_disk))
      ]
    where
      by : IsKept first.pulls o (λ (x : Sector). x ≡ settled (Good (spelled (copy_of d.edition j)))) (slot_state h j) → IsUntouched (slot_state h j)
      by (IsKept.Here same has_size (inl is)) = IsKept.Here same has_size (inl is)
      by (IsKept.Here same has_size (inr is)) = absurd (never d.edition d.among d.formed same is)
      by (IsKept.Lost less) = IsKept.Lost less

  over_on : (h then : List Happening) → Ran (IsIssuing slots editions) h then → IsOver (slot_state h j) → IsOver (slot_state then j)
  over_on h then ran over =
      leaves_on {allowed = IsIssuing slots editions} {Q = IsFresh} {Base = λ c. ⊤} first.pulls j p (record {
        damage = fresh_damaged;
        under_damage = tt;
        write = λ bytes may. fresh_comes (Good bytes) ((issuing_places slots (HasSlot slots) editions j (λ k. Damaged) (λ is. is)).write p bytes may);
        cut = λ bytes cell may under. fresh_comes (torn cell) ((issuing_places slots (HasSlot slots) editions j (λ k. Damaged) (λ is. is)).cut p bytes cell may);
        sync = λ cell may is. tt;
      }) ran over

  never_act : (h : List Happening) (e : Happening) → IsAct h e → IsUntouched (slot_state h j) → IsNeverNow (slot_state (e ∷ h) j)
  never_act h (Made image) act untouched x among formed = absurd act
  never_act h Stopped act untouched x among formed = not_now (slot_state h j) untouched x among formed
  never_act h (Acted i a) act untouched x among formed =
      slot_act_cases (λ b. b.pulls ≡ first.pulls → b.sector o ≡ settled (Good (spelled (copy_of x j))) → ⊥) h i j a
      (λ same. not_act (slot_state h j) untouched x among formed a (subst (λ (k : ℕ). MayHappen (slot_state h k) a) same act.1))
      (not_now (slot_state h j) untouched x among formed)
  never_act h (Called i c) act untouched x among formed = absurd act

  never_call : (h : List Happening) (i : ℕ) (c : SlotCall) → IsUntouched (slot_state h j) → IsNeverNow (slot_state (Called i c ∷ h) j)
  never_call h i c untouched x among formed =
      slot_call_cases (λ b. b.pulls ≡ first.pulls → b.sector o ≡ settled (Good (spelled (copy_of x j))) → ⊥) h i j c
      (λ same. not_call (slot_state h j) untouched x among formed c) (not_now (slot_state h j) untouched x among formed)

  stood_each : EachHappening (λ h e. Stands (e ∷ h)) old new
  stood_each =
      let every : AtEveryMoment Stands old new =
      at_every_mapped {P = λ h. (i : ℕ) → HasSlot slots i → IsSome (slot_state old i).size → IsStanding m editions old h i} {Q = Stands}
      (λ h all. all j has some) f.issued.standing in
      record { more = every.more; is = every.is; each = after_each Stands every.more old every.each }

  pub in_turn : AtEveryMoment InTurn old new
  in_turn =
      kept_where {P = λ h e. Stands (e ∷ h)} {allowed = IsIssuing slots editions} {R = InTurn} (record {
        act = λ h e act stands turn.
            elim turn [
              | inl untouched ↦ judge (e ∷ h) (never_act h e act untouched) stands
              | inr over ↦ inr (over_on h (e ∷ h) (record { more = e ∷ []; is = refl; runs = (tt, inl act) }) over)
            ];
        call = λ h i c may answered stands turn.
            elim turn [
              | inl untouched ↦ judge (Called i c ∷ h) (never_call h i c untouched) stands
              | inr over ↦ inr (over_on h (Called i c ∷ h) (record { more = Called i c ∷ []; is = refl; runs = (tt, inr (may, answered)) }) over)
            ];
      }) f.issued.ran stood_each (inl (IsKept.Here refl some (inr refl)))

  -- IN AN IMAGE

  pub turn_in : (image : Image) → CrashMayLeave h image → (e : Edition) (s : Superblock)
      → Contains editions e → IsSuperblock (copy_of e j) → HoldsSuper ((image_now old j).cell p) s → HoldsSuper ((image j).cell p) s
      → ¬ HoldsSuper ((image j).cell o) (copy_of e j)
  turn_in image left e s among formed was now copy = by (at_moment {P = InTurn} in_turn f.moment)
    where
      lost : first.pulls < (slot_state h j).pulls → ⊥
      lost less =
          elim (slot_is slots editions old h j (history_tidy f.begun.history) (λ k lt. f.begun.settled j k here.below lt)
          (ran_before {allowed = IsIssuing slots editions} f.issued.ran f.moment) f.returned) [
            | Same was same has_size each ↦ omega (arith, same, less)
            | Bare off bare ↦
                none_held_there ((image j).cell p) s
                (settled_left Damaged ((image j).cell p) (subst (λ (x : Sector). MayLeave x ((image j).cell p)) (bare p) ((left j).each p))) now
          ]

      by : InTurn h → ⊥
      by (inl (IsKept.Here same has_size (inl is))) =
          none_held_there ((image j).cell o) (copy_of e j)
          (settled_left Damaged ((image j).cell o) (subst (λ (x : Sector). MayLeave x ((image j).cell o)) is ((left j).each o))) copy
      by (inl (IsKept.Here same has_size (inr is))) =
          let cell : (image j).cell o ≡ (first.sector o).base =
          settled_left (first.sector o).base ((image j).cell o)
          (subst (λ (x : Sector). MayLeave x ((image j).cell o)) (is ∙ old_settled) ((left j).each o)) in
          let base : (first.sector o).base ≡ content (first.sector o) = sym (ap content old_settled) in
          let upto : e.draw ≤ m.drawn =
          old_draw o (copy_of e j) (omega arith) (subst (λ (c : Cell). HoldsSuper c (copy_of e j)) (cell ∙ base) copy) in
          let above : m.drawn < e.draw = (f.issued.each e among).above in
          omega (arith, upto, above)
      by (inl (IsKept.Lost less)) = lost less
      by (inr (IsKept.Here same has_size (inl is))) =
          none_held_there ((image j).cell p) s
          (settled_left Damaged ((image j).cell p) (subst (λ (x : Sector). MayLeave x ((image j).cell p)) is ((left j).each p))) now
      by (inr (IsKept.Here same has_size (inr leaves))) =
          let upto : s.draw ≤ m.drawn = old_draw p s p_in was in
          let above : m.drawn < s.draw = leaves.each ((image j).cell p) ((left j).each p) s now in
          omega (arith, upto, above)
      by (inr (IsKept.Lost less)) = lost less
