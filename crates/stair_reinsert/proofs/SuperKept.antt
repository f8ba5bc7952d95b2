-- A superblock that a medium has is never written over: while an epoch is established the medium's superblock is that one, or one
-- that it was given.
use Rattle.std.proofs.Common.{◌≡◌, ℕ, ◌+◌, ◌-◌, ◌<◌, ◌≤◌, List, [], ◌∷◌, ◌⊎◌, inl, inr, refl, sym, ap, ◌∙◌, subst, arith, false}
use Rattle.std.specs.Prelude.{Contains, IsSome, ⊤}
use Rattle.std.proofs.lemmas.Bool.{cases_eq, false≢true}
use Rattle.stair_model.specs.Slots.{HasSlot, Slots}
use Rattle.stair_rack.specs.Answers.{Ran, is_good}
use Rattle.stair_rack.specs.Crash.{SlotMayLeave, image_now}
use Rattle.stair_rack.specs.History.{Happening, Write, slot_state}
use Rattle.stair_rack.specs.Media.{SlotImage}
use Rattle.stair_rack.specs.Moments.{IsMoment}
use Rattle.stair_rack.specs.Offline.{Here, IsKept}
use Rattle.stair_rack.specs.Sector.{Cell, Damaged, Good, LeftOf, Leaves, MayLeave, Sector, Torn, TornOverDamage, content, settled, torn}
use Rattle.stair_rack.specs.declared.rack.Reply.TheVariants as reply
use Rattle.stair_rack.proofs.CrashLemmas.{KeepsLeaving, Leaves-settled, leaves_on, nothing_unsynced, settled_left}
use Rattle.stair_rack.proofs.MomentLemmas.{at_moment, moment_sooner, ran_before, ran_none}
use Rattle.stair_super.specs.Spelling.{spelled}
use Rattle.stair_super.specs.Superblock.{IsSuperblock, Superblock}
use Rattle.stair_member.specs.Current.{ByOutside, IsLost, Worn}
use Rattle.stair_member.specs.Editions.{Edition, copy_of}
use Rattle.stair_member.specs.Epochs.{ASync, AWrite, AsWas, Given, HasDraw, IsIssuing, IsStanding, Issued}
use Rattle.stair_member.specs.Membership.{Membership, place_of}
use Rattle.stair_member.specs.Superblocks.{First, HoldsSuper, IsSuperOf, Second}
use Rattle.stair_member.specs.declared.aim.EpochChange.{EpochChange}
use Rattle.stair_member.proofs.DecisionLemmas.{super_decided}
use Rattle.stair_member.proofs.EditionLemmas.{holds_copy}
use Rattle.stair_member.proofs.NewestLemmas.{super_no_older}
use Rattle.stair_member.proofs.SuperLemmas.{holds_once, super_cells}
use Rattle.stair_state.specs.Reassembly.{InSlot}
use Rattle.stair_state.proofs.FormLemmas.{good_kept, same_kept}
use Rattle.stair_reinsert.specs.Following.{SurvivesDamage, Wherever, name_of}
use Rattle.stair_reinsert.specs.Given.{AsBefore, GivenCopy, HasGivenOrOwn, IsGivenOrOwn, KnowsSuper}
use Rattle.stair_reinsert.proofs.GivenLemmas.{issuing_ran}
use Rattle.stair_reinsert.proofs.WhereverLemmas.{kept_left, own_wherever}

-- CELLS

pub torn_not_good : (cell : Cell) → is_good (torn cell) ≡ false
torn_not_good (Good bytes) = refl
torn_not_good Damaged = refl
torn_not_good Torn = refl
torn_not_good TornOverDamage = refl

torn_lost : (base : Cell) → IsLost base → IsLost (torn base)
torn_lost base (ByOutside is) = Worn (ap torn is)
torn_lost base (Worn is) = Worn (ap torn is)

-- what a crash may leave that can't be read
cut_left : (base : Cell) (since : List (List ℕ)) (cell : Cell) → LeftOf base since cell → is_good cell ≡ false → (cell ≡ base) ⊎ (cell ≡ torn base)
cut_left base [] cell left bad = inl left
cut_left base (bytes ∷ since) cell (inl good) bad = absurd (false≢true (sym bad ∙ ap is_good good))
cut_left base (bytes ∷ since) cell (inr (inl cut)) bad = inr cut
cut_left base (bytes ∷ since) cell (inr (inr older)) bad = cut_left base since cell older bad

module _ (slots : Slots) (editions : List Edition) (m : Membership) (old : List Happening) (j : ℕ) (knows : KnowsSuper m old j)
    (written : HasSlot slots j) (above : (e : Edition) → Contains editions e → m.drawn < e.draw) where
  abbrev at_first : ℕ → Cell
  at_first = (image_now old j).cell

  abbrev IsLater : Superblock → Type 0
  IsLater s = IsGivenOrOwn slots editions old j s

  abbrev HasLater : (ℕ → Cell) → Type 0
  HasLater cell = HasGivenOrOwn slots editions old j cell

  place_in : place_of m j < 2
  place_in = knows.place

  settled_first : (k : ℕ) → k < 2 → (slot_state old j).sector k ≡ settled (at_first k)
  settled_first k small =
      let is = nothing_unsynced ((slot_state old j).sector k) (knows.steady k small) in
      is ∙ ap settled (sym (ap content is))

  -- WHAT A PLACE HOLDS

  data PlaceHas (k : ℕ) (cell : Cell) : Type 0 where
    Was : cell ≡ at_first k → PlaceHas k cell
    Harmed : cell ≡ Damaged → PlaceHas k cell
    Whole : (e : Edition) → Contains editions e → IsSuperblock (copy_of e j) → cell ≡ Good (spelled (copy_of e j)) → PlaceHas k cell
    CutShort : is_good cell ≡ false → PlaceHas k cell

  wrote : (k : ℕ) (bytes : List ℕ) → IsIssuing slots editions j (Write k bytes reply.Done) → PlaceHas k (Good bytes)
  wrote k bytes (AWrite e l answer has among formed below is) = let same : bytes ≡ spelled (copy_of e j) = cc in Whole e among formed (ap Good same)
  wrote k bytes (ASync answer has is) = absurd (cc)

  places_keep : (k : ℕ) → KeepsLeaving (IsIssuing slots editions) j k (PlaceHas k) (λ cell. ⊤)
  places_keep k = record {
    damage = Harmed refl;
    under_damage = tt;
    write = wrote k;
    cut = λ bytes cell may under. CutShort (torn_not_good cell);
    sync = λ cell may has. tt;
  }

  -- at a moment while the medium is in its slot
  module _ (x : List Happening) (ran : Ran (IsIssuing slots editions) old x) (standing : IsStanding m editions old x j)
      (same : (slot_state x j).pulls ≡ (slot_state old j).pulls) (image : SlotImage) (left : SlotMayLeave (slot_state x j) image) where
    place_has : (k : ℕ) → k < 2 → PlaceHas k (image.cell k)
    place_has k small =
        kept_left {P = Leaves (PlaceHas k) (λ cell. ⊤)} (PlaceHas k) (slot_state old j).pulls k (slot_state x j) image (Harmed refl)
        (λ cell leaves may. leaves.each cell may) same left
        (leaves_on {allowed = IsIssuing slots editions} (slot_state old j).pulls j k (places_keep k) ran
        (Here refl knows.there
        (inr (subst (Leaves (PlaceHas k) (λ cell. ⊤)) (sym (settled_first k small)) (Leaves-settled (at_first k) (Was refl) tt)))))

    copy_given : (k : ℕ) (s : Superblock) (e : Edition) → HoldsSuper (image.cell k) s → Contains editions e → IsSuperblock (copy_of e j)
        → image.cell k ≡ Good (spelled (copy_of e j)) → IsLater s
    copy_given k s e holds among formed is =
        GivenCopy (record { slot = written; edition = e; among = among; is = holds_once (image.cell k) s (copy_of e j) holds (holds_copy (image.cell k) e j formed is) })

    -- both places are as they were
    both_were : (s : Superblock) → IsSuperOf image.cell s → ¬ IsLost (image.cell 0) → ¬ IsLost (image.cell 1) → image.cell 0 ≡ at_first 0
        → image.cell 1 ≡ at_first 1 → IsLater s
    both_were s super first second zero' one' =
        AsBefore (super_cells image.cell at_first s zero' one' super) (subst (λ (c : Cell). ¬ IsLost c) zero' first)
        (subst (λ (c : Cell). ¬ IsLost c) one' second)

    -- the other place was cut short, and the superblock's place is as it was
    module _ (s : Superblock) (k l : ℕ) (k_in : k < 2) (l_in : l < 2) (others : ¬ (k ≡ l)) (holds : HoldsSuper (image.cell k) s)
        (was : image.cell k ≡ at_first k) (kept : ¬ IsLost (image.cell l)) (bad : is_good (image.cell l) ≡ false)
        (unharmed : image.cell l ≡ at_first l → IsLater s)
        (lost_neither : ¬ IsLost (at_first k) → ¬ IsLost (at_first l) → (¬ IsLost (at_first 0)) × (¬ IsLost (at_first 1))) where
      held_then : HoldsSuper (at_first k) s
      held_then = subst (λ (c : Cell). HoldsSuper c s) was holds

      not_harmed : (q : ℕ) → l ≡ q → ¬ (image.cell q ≡ Damaged)
      not_harmed q is harmed = kept (ByOutside (ap image.cell is ∙ harmed))

      by_given : HasDraw editions (m.drawn + 1) m.array.epoch old x j → IsLater s
      by_given d =
          on
          (kept_left {P = λ t. t ≡ settled (Good (spelled (copy_of d.edition j)))}
          (λ cell. (cell ≡ Good (spelled (copy_of d.edition j))) ⊎ (cell ≡ Damaged)) (slot_state old j).pulls d.place (slot_state x j) image
          (inr refl)
          (λ cell is may. inl (settled_left (Good (spelled (copy_of d.edition j))) cell (subst (λ t. MayLeave t cell) is may))) same left d.on_disk)
        where
          elsewhere : ¬ (d.place ≡ k) → l ≡ d.place
          elsewhere other = let small : d.place < 2 = d.place_in in omega (arith, small, k_in, l_in, others, other)

          on : (image.cell d.place ≡ Good (spelled (copy_of d.edition j))) ⊎ (image.cell d.place ≡ Damaged) → IsLater s
          on (inl is) =
              elim (cases_eq d.place k) [
                | inl here ↦
                    copy_given k s d.edition holds d.among d.formed
                    (subst (λ (i : ℕ). image.cell i ≡ Good (spelled (copy_of d.edition j))) here is)
                | inr other ↦ absurd (false≢true (sym bad ∙ ap (λ (i : ℕ). is_good (image.cell i)) (elsewhere other) ∙ ap is_good is))
              ]
          on (inr is) =
              elim (cases_eq d.place k) [
                | inl here ↦ absurd (good_kept holds.good (ByOutside (ap image.cell (sym here) ∙ is)))
                | inr other ↦ absurd (not_harmed d.place (elsewhere other) is)
              ]

      -- it was cut over what lay there
      cut_over : l ≡ place_of m j → ¬ IsLost (at_first l) → IsLater s
      cut_over next unlost =
          let both = lost_neither (good_kept held_then.good) unlost in
          elim (super_decided at_first) [
            | inl some ↦
                let it = knows.aside some.0 some.1 both.0 both.1 in
                let is_k : 1 - place_of m j ≡ k = omega (arith, next, k_in, l_in, others, place_in) in
                let also : HoldsSuper (at_first k) some.0 = subst (λ (i : ℕ). HoldsSuper (at_first i) some.0) is_k it in
                let one : some.0 ≡ s = holds_once (at_first k) some.0 s also held_then in
                AsBefore (subst (λ (t : Superblock). IsSuperOf at_first t) one some.1) both.0 both.1
            | inr none ↦ absurd (none (record { place = k; place_in = k_in; super = s; holds = held_then }))
          ]

      -- over what it may have been
      based : l ≡ place_of m j → (base : Cell) → ((image.cell l ≡ base) ⊎ (image.cell l ≡ torn base)) → (base ≡ at_first l) ⊎ (base ≡ Damaged)
          → IsLater s
      based at_next base (inl is) (inl before) = unharmed (is ∙ before)
      based at_next base (inr cut) (inl before) =
          cut_over at_next (λ lost. kept (subst IsLost (sym cut) (torn_lost base (subst IsLost (sym before) lost))))
      based at_next base (inl is) (inr harmed) = absurd (kept (ByOutside (is ∙ harmed)))
      based at_next base (inr cut) (inr harmed) = absurd (kept (subst IsLost (sym cut) (torn_lost base (ByOutside harmed))))

      on_other : l ≡ 1 - place_of m j
          → IsKept (slot_state old j).pulls (1 - place_of m j) (λ t. t ≡ (slot_state old j).sector (1 - place_of m j)) (slot_state x j) → IsLater s
      on_other is keeps =
          elim
          (kept_left {P = λ t. t ≡ (slot_state old j).sector q} (λ cell. (cell ≡ at_first q) ⊎ (cell ≡ Damaged)) (slot_state old j).pulls q
          (slot_state x j) image (inr refl)
          (λ cell stays may.
          inl (settled_left (at_first q) cell (subst (λ t. MayLeave t cell) (stays ∙ settled_first q (omega (arith, place_in))) may))) same left keeps) [
            | inl before ↦ unharmed (ap image.cell is ∙ before ∙ ap at_first (sym is))
            | inr harmed ↦ absurd (not_harmed q is harmed)
          ]
        where
          q : ℕ
          q = 1 - place_of m j

      on_next : l ≡ place_of m j
          → IsKept (slot_state old j).pulls (place_of m j) (λ t. (t.base ≡ ((slot_state old j).sector (place_of m j)).base) ⊎ (t.base ≡ Damaged))
          (slot_state x j) → IsLater s
      on_next is keeps =
          kept_left {P = λ t. (t.base ≡ ((slot_state old j).sector q).base) ⊎ (t.base ≡ Damaged)}
          (λ cell. image.cell q ≡ cell → IsLater s) (slot_state old j).pulls q (slot_state x j) image
          (λ at. absurd (not_harmed q is at))
          (λ cell base may at.
          let here : image.cell l ≡ cell = ap image.cell is ∙ at in
          elim (cut_left ((slot_state x j).sector q).base ((slot_state x j).sector q).since cell may (sym (ap is_good here) ∙ bad)) [
            | inl whole ↦ based is ((slot_state x j).sector q).base (inl (here ∙ whole)) (first_base base)
            | inr cut ↦ based is ((slot_state x j).sector q).base (inr (here ∙ cut)) (first_base base)
          ]) same left keeps refl
        where
          q : ℕ
          q = place_of m j

          first_base : {c : Cell} → (c ≡ ((slot_state old j).sector q).base) ⊎ (c ≡ Damaged) → (c ≡ at_first l) ⊎ (c ≡ Damaged)
          first_base (inl before) =
              inl (before ∙ ap (λ (t : Sector). t.base) (settled_first q place_in) ∙ ap at_first (sym is))
          first_base (inr harmed) = inr harmed

      cut_short : IsStanding m editions old x j → IsLater s
      cut_short (AsWas other next) =
          elim (cases_eq l (place_of m j)) [
            | inl at_next ↦ on_next at_next next
            | inr elsewhere ↦ on_other (omega (arith, place_in, l_in, elsewhere)) other
          ]
      cut_short (Given d) = by_given d

    -- the other place holds a copy: that one would be newer
    not_beside : (k l : ℕ) (s : Superblock) → k < 2 → l < 2 → IsSuperOf image.cell s → HoldsSuper (at_first k) s → (e : Edition)
        → Contains editions e → IsSuperblock (copy_of e j) → image.cell l ≡ Good (spelled (copy_of e j)) → IsLater s
    not_beside k l s k_in l_in super held e among formed is =
        let newer = super_no_older image.cell s (copy_of e j) l l_in super (holds_copy (image.cell l) e j formed is) in
        let most : s.draw ≤ m.drawn = knows.drawn k s k_in held in
        let more : m.drawn < e.draw = above e among in
        let least : e.draw ≤ s.draw = newer.draws in
        absurd (omega arith)

    -- the superblock lies in place k
    lies_in : (k l : ℕ) → k < 2 → l < 2 → ¬ (k ≡ l) → ¬ IsLost (image.cell k) → ¬ IsLost (image.cell l) → (s : Superblock) → IsSuperOf image.cell s
        → HoldsSuper (image.cell k) s → (image.cell k ≡ at_first k → image.cell l ≡ at_first l → IsLater s)
        → (¬ IsLost (at_first k) → ¬ IsLost (at_first l) → (¬ IsLost (at_first 0)) × (¬ IsLost (at_first 1))) → IsLater s
    lies_in k l k_in l_in others here kept s super holds both lost_neither = on (place_has k k_in)
      where
        beside : image.cell k ≡ at_first k → PlaceHas l (image.cell l) → IsLater s
        beside was (Was is) = both was is
        beside was (Harmed is) = absurd (kept (ByOutside is))
        beside was (Whole e among formed is) =
            not_beside k l s k_in l_in super (subst (λ (c : Cell). HoldsSuper c s) was holds) e among formed is
        beside was (CutShort bad) = cut_short s k l k_in l_in others holds was kept bad (both was) lost_neither standing

        on : PlaceHas k (image.cell k) → IsLater s
        on (Was is) = beside is (place_has l l_in)
        on (Harmed is) = absurd (here (ByOutside is))
        on (Whole e among formed is) = copy_given k s e holds among formed is
        on (CutShort bad) = absurd (false≢true (sym bad ∙ ap is_good holds.good))

    later_now : HasLater image.cell
    later_now first second s (First holds rest) =
        lies_in 0 1 (omega arith) (omega arith) (λ is. omega (arith, is)) first second s (First holds rest) holds
        (both_were s (First holds rest) first second) (λ a b. (a, b))
    later_now first second s (Second holds rest) =
        lies_in 1 0 (omega arith) (omega arith) (λ is. omega (arith, is)) second first s (Second holds rest) holds
        (λ one' zero'. both_were s (Second holds rest) first second zero' one') (λ a b. (b, a))

  later_survives : SurvivesDamage HasLater
  later_survives = record {
    harmed = λ was is copies has first second s super.
        has (subst (λ (c : Cell). ¬ IsLost c) (same_kept (copies 0) first) first) (subst (λ (c : Cell). ¬ IsLost c) (same_kept (copies 1) second) second) s
        (super_cells is was s (same_kept (copies 0) first) (same_kept (copies 1) second) super);
    blank = λ cell all first second s super. absurd (first (ByOutside (all 0)));
  }

  pub later_wherever : (h : List Happening) → Ran (IsIssuing slots editions) old h → ((x : List Happening) → IsMoment old x h → IsStanding m editions old x j)
      → Wherever h j (name_of old j InSlot) HasLater
  later_wherever h ran standing =
      own_wherever j HasLater later_survives {allowed = IsIssuing slots editions} {start = old} {from = old} {h = h} knows.there (ran_none old)
      (λ pulled. omega (arith, pulled)) (issuing_ran slots editions j ran)
      (λ x at same image left. later_now x (ran_before ran at) (standing x at) same image left)

pub superblock_kept : (aim : EpochChange) (gone : Slots) (m last : Membership) (old h new : List Happening) (issued : Issued aim gone m last old new) (j : ℕ)
    → IsMoment old h new → HasSlot issued.slots j → KnowsSuper m old j
    → Wherever h j (name_of old j InSlot) (HasGivenOrOwn issued.slots issued.editions old j)
superblock_kept aim gone m last old h new issued j moment written knows =
    later_wherever issued.slots issued.editions m old j knows written (λ e among. (issued.each e among).above) h (ran_before issued.ran moment)
    (λ x at.
    at_moment {P = λ y. (i : ℕ) → HasSlot issued.slots i → IsSome (slot_state old i).size → IsStanding m issued.editions old y i} issued.standing
    (moment_sooner at moment) j written knows.there)
