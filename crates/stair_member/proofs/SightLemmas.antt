-- What a look at the slots tells.
use Rattle.std.proofs.Common.{◌≡◌, ◌≢◌, ℕ, suc, ◌+◌, ◌-◌, ◌*◌, ◌<◌, ◌≤◌, ◌↔◌, below_more, Bool, true, false, List, [], inl, inr, refl, sym, subst, ◌∙◌, arith, Option, None, Some, length, length-set, set, get_or-set_other, get_or-set_same}
use Rattle.std.specs.Prelude.{◌⊎◌, ◌==◌, IsTrue, slice_index, if◌then◌else◌}
use Rattle.std.proofs.lemmas.Bool.{cases_Bool, cases_eq, cases_lt, false≢true}
use Rattle.stair_model.specs.Slots.{Slots, HasSlot, IsSlotSet, has_slot}
use Rattle.stair_model.proofs.SetLaws.{same_test}
use Rattle.stair_rack.specs.Answers.{IsHistory, Ran, any_call}
use Rattle.stair_rack.specs.History.{Happening, Attach, Read}
use Rattle.stair_rack.specs.Media.{Image}
use Rattle.stair_rack.specs.Offline.{IsHeld}
use Rattle.stair_rack.specs.RackCounts.{NoneFalls, RisesAtMost}
use Rattle.stair_rack.specs.Sector.{Cell, Damaged}
use Rattle.stair_rack.specs.declared.rack.Reply.TheVariants as reply
use Rattle.stair_rack.proofs.PassCounts.{rises_more, rises_none}
use Rattle.stair_rack.proofs.MomentLemmas.{IsThis, calls_ran, ran_any, ran_join}
use Rattle.stair_rack.proofs.OfflineLemmas.{held_on}
use Rattle.stair_super.specs.Newer.{IsOlder, is_older, newer_super}
use Rattle.stair_super.proofs.Order.{older_is}
use Rattle.stair_super.specs.Superblock.{Superblock}
use Rattle.stair_member.specs.Asked.{AsksBelow, AsksSlot, FindsWithin}
use Rattle.stair_member.specs.Findings.{Findings, IsPlaceFound}
use Rattle.stair_member.specs.JudgeSteps.{AreSights, IsNewest, IsSight, newest_at}
use Rattle.stair_member.specs.Superblocks.{HoldsThis, IsSuperOf, First, Second}
use Rattle.stair_member.specs.Survey.{IsNextPlace, IsPlaceOf, InFirst, InSecond}
use Rattle.stair_rack.specs.RackState.{IsFoundGone, IsLater, IsReading, RackState}
use Rattle.stair_member.specs.declared.surveying.Sights.{Sights}
use Rattle.stair_member.proofs.DecisionLemmas.{none_held}
use Rattle.stair_member.proofs.SuperLemmas.{holds_once, one_super, super_held}
use Rattle.stair_rack.proofs.RackStateLemmas.{gone_wider, later_join, later_none, reading_wider}

-- BOTH PLACES

-- the cell of each place, by its number
abbrev pub both : Cell → Cell → ℕ → Cell
both first second k = if k == 0 then first else second

pub place_cases : (k : ℕ) → k < 2 → (k ≡ 0) ⊎ (k ≡ 1)
place_cases k below = elim (cases_eq k 0) [ inl is ↦ inl is | inr other ↦ inr (omega arith) ]

older_irreflexive : (s : Superblock) → ¬ IsOlder s s
older_irreflexive s (inl less) = omega (arith, less)
older_irreflexive s (inr both) = omega (arith, both.1)

-- a place that doesn't hold the medium's superblock
module _ (cell : ℕ → Cell) where
  pub newest_second : (s t : Superblock) → HoldsThis (cell 0) (Some s) → HoldsThis (cell 1) (Some t) → IsOlder s t → IsSuperOf cell t
  newest_second s t first second older =
      Second second (λ other holds. subst (λ (u : Superblock). IsOlder u t) (holds_once (cell 0) s other first holds) older)

  pub newest_first : (s t : Superblock) → HoldsThis (cell 0) (Some s) → HoldsThis (cell 1) (Some t) → ¬ IsOlder s t → IsSuperOf cell s
  newest_first s t first second not_older =
      First first (λ other holds older. not_older (subst (λ (u : Superblock). IsOlder s u) (holds_once (cell 1) other t holds second) older))

  pub newest_only_first : (s : Superblock) → HoldsThis (cell 0) (Some s) → HoldsThis (cell 1) None → IsSuperOf cell s
  newest_only_first s first none = First first (λ other holds older. none other holds)

  pub newest_only_second : (t : Superblock) → HoldsThis (cell 0) None → HoldsThis (cell 1) (Some t) → IsSuperOf cell t
  newest_only_second t none second = Second second (λ other holds. absurd (none other holds))

  pub newest_of : (o p : Option Superblock) → HoldsThis (cell 0) o → HoldsThis (cell 1) p → IsNewest cell (newer_super o p)
  newest_of None None first second = none_held cell first second
  newest_of None (Some t) first second = newest_only_second t first second
  newest_of (Some s) None first second = newest_only_first s first second
  newest_of (Some s) (Some t) first second =
      elim (cases_Bool (is_older s t)) [
        | inl is ↦
            subst (λ (b : Bool). IsNewest cell (if b then Some t else Some s)) (sym is) (newest_second s t first second ((older_is s t).0 is))
        | inr is ↦
            subst (λ (b : Bool). IsNewest cell (if b then Some t else Some s)) (sym is)
            (newest_first s t first second (λ older. false≢true (sym is ∙ (older_is s t).1 older)))
      ]

  next_in : (next : ℕ) (s : Superblock) → next < 2 → IsSuperOf cell s → ((t : Superblock) → t ≡ s → IsPlaceOf cell t (1 - next))
      → IsNextPlace cell next
  next_in next s below is other = record { below = below; other = λ t of. other t (one_super cell t s of is) }

  pub next_first : (s t : Superblock) → HoldsThis (cell 0) (Some s) → HoldsThis (cell 1) (Some t) → IsOlder s t → IsNextPlace cell 0
  next_first s t first second older =
      next_in 0 t (omega arith) (newest_second s t first second older)
      (λ u same.
      subst (λ (v : Superblock). IsPlaceOf cell v 1) (sym same)
      (InSecond second
      (λ holds. older_irreflexive t (subst (λ (v : Superblock). IsOlder v t) (holds_once (cell 0) s t first holds) older))))

  pub next_second : (s t : Superblock) → HoldsThis (cell 0) (Some s) → HoldsThis (cell 1) (Some t) → ¬ IsOlder s t → IsNextPlace cell 1
  next_second s t first second not_older =
      next_in 1 s (omega arith) (newest_first s t first second not_older)
      (λ u same. subst (λ (v : Superblock). IsPlaceOf cell v 0) (sym same) (InFirst first))

  pub next_only_first : (s : Superblock) → HoldsThis (cell 0) (Some s) → HoldsThis (cell 1) None → IsNextPlace cell 1
  next_only_first s first none =
      next_in 1 s (omega arith) (newest_only_first s first none)
      (λ u same. subst (λ (v : Superblock). IsPlaceOf cell v 0) (sym same) (InFirst first))

  pub next_none : (o : Option Superblock) → HoldsThis (cell 0) None → HoldsThis (cell 1) o → IsNextPlace cell 0
  next_none None first second = record { below = omega arith; other = λ t of. absurd (none_held cell first second (super_held cell t of)) }
  next_none (Some t) first second =
      next_in 0 t (omega arith) (newest_only_second t first second)
      (λ u same. subst (λ (v : Superblock). IsPlaceOf cell v 1) (sym same) (InSecond second (λ holds. first t holds)))

-- ALL SLOTS

pub place_found_mapped : (gone gone' : Type 0) (j k : ℕ) (mid new old later : RackState) (cell : Cell) → (gone → gone')
    → (IsReading j k mid new cell → IsReading j k old later cell) → IsPlaceFound gone j k mid new cell → IsPlaceFound gone' j k old later cell
place_found_mapped gone gone' j k mid new old later cell on wider (IsPlaceFound.Read reading) = IsPlaceFound.Read (wider reading)
place_found_mapped gone gone' j k mid new old later cell on wider (IsPlaceFound.Unread is lost) = IsPlaceFound.Unread (on is) lost

-- the calls on a slot are calls
pub asks_ran : {old new : List Happening} {j : ℕ} → AsksSlot j old new → Ran any_call old new
asks_ran {old} {new} {j} (AsksSlot.NotThere called) = ran_any {allowed = IsThis j (Attach reply.Gone)} (calls_ran called)
asks_ran {old} {new} {j} (AsksSlot.There attached between first second a b c) =
    ran_join (ran_any {allowed = IsThis j (Attach reply.Done)} (calls_ran a))
    (ran_join (ran_any {allowed = IsThis j (Read 0 first)} (calls_ran b)) (ran_any {allowed = IsThis j (Read 1 second)} (calls_ran c)))

finds_wider : {gone : Type 0} {j : ℕ} {cell : ℕ → Cell} {old mid new later : List Happening} → Ran any_call old mid → Ran any_call new later
    → FindsWithin gone j cell mid new → FindsWithin gone j cell old later
finds_wider before after within = record {
  from = within.from;
  to = within.to;
  sooner = ran_join before within.sooner;
  finds = within.finds;
  later = ran_join within.later after;
}

-- what bears a sight out does so in each longer stretch
sight_wider : (old mid new later : RackState) → IsLater old mid → mid.honest ≡ new.honest → NoneFalls mid.bads new.bads mid.gones new.gones
    → IsLater new later
    → (j : ℕ) (block : Option Superblock) (next : ℕ) (lost : Bool) → IsSight j mid new block next lost → IsSight j old later block next lost
sight_wider old mid new later first same within second j block next lost sight = record {
  cell = sight.cell;
  places = λ k below.
      place_found_mapped (IsTrue lost) (IsTrue lost) j k mid new old later (sight.cell k) (λ is. is)
      (reading_wider old mid new later first same within second j k (sight.cell k)) (sight.places k below);
  finds = λ is. finds_wider (first.ran (same ∙ second.honest ∙ is)) (second.ran is) (sight.finds (second.honest ∙ is));
  newest = sight.newest;
  next = sight.next;
  gone = λ is. gone_wider old mid new later first same within second j (sight.gone is);
  held = λ is not_lost before ran.
      held_on {allowed = any_call} j (second.ran is)
      (sight.held (second.honest ∙ is) not_lost before (ran_join ran (first.ran (same ∙ second.honest ∙ is))));
}

-- The slots below i were looked at, and this is kept of them.
pub record AreSightsBelow (i : ℕ) (newest : List (Option Superblock)) (next : List ℕ) (gone : Slots) (old now : RackState)
    (count count' : Option ℕ) : Type 0 where
  pub each : (j : ℕ) → j < i → IsSight j old now (newest_at newest j) (slice_index next j) (has_slot gone j)
  pub formed : IsSlotSet gone
  pub rest : (j : ℕ) → i ≤ j → ¬ HasSlot gone j
  pub later : IsLater old now
  pub asked : IsTrue now.honest → AsksBelow i old.history now.history
  pub began : 0 < i → IsTrue now.honest → IsHistory old.history
  pub reads : RisesAtMost (2 * i) count count'
  pub size : length newest ≡ 32
  pub size' : length next ≡ 32

pub sights_none : (newest : List (Option Superblock)) (next : List ℕ) (gone : Slots) (now : RackState) (count : Option ℕ) → IsSlotSet gone
    → ((j : ℕ) → ¬ HasSlot gone j) → length newest ≡ 32 → length next ≡ 32 → AreSightsBelow 0 newest next gone now now count count
sights_none newest next gone now count formed none size size' = record {
  each = λ j below. absurd (omega arith);
  formed = formed;
  rest = λ j least. none j;
  later = later_none now;
  asked = λ is. refl;
  began = λ below is. absurd (omega arith);
  reads = rises_none count;
  size = size;
  size' = size';
}

-- the slot was gone and was added to those that were, or it wasn't
pub added_lost : (i : ℕ) (gone gone' : Slots) (lost : Bool) → lost ≡ true → ((j : ℕ) → HasSlot gone' j ↔ (HasSlot gone j ⊎ (j ≡ i)))
    → (j : ℕ) → HasSlot gone' j ↔ (HasSlot gone j ⊎ ((j ≡ i) × IsTrue lost))
added_lost i gone gone' lost is added j = (
  λ has. elim ((added j).0 has) [ inl had ↦ inl had | inr same ↦ inr (same, is) ],
  λ either. (added j).1 (elim either [ inl had ↦ inl had | inr same ↦ inr same.0 ]),
)

pub added_none : (i : ℕ) (gone : Slots) (lost : Bool) → lost ≡ false → (j : ℕ) → HasSlot gone j ↔ (HasSlot gone j ⊎ ((j ≡ i) × IsTrue lost))
added_none i gone lost is j =
    (λ has. inl has, λ either. elim either [ inl had ↦ had | inr same ↦ absurd (false≢true (sym is ∙ same.1)) ])

-- the next slot is looked at
module _ (i : ℕ) (newest : List (Option Superblock)) (next : List ℕ) (gone gone' : Slots) (old now new : RackState) (count count' count'' : Option ℕ)
    (before : AreSightsBelow i newest next gone old now count count') (block : Option Superblock) (place : ℕ) (lost : Bool)
    (sight : IsSight i now new block place lost) (later : IsLater now new) (began : IsTrue new.honest → IsHistory now.history)
    (asked : IsTrue new.honest → AsksSlot i now.history new.history) (reads : RisesAtMost 2 count' count'') (formed : IsSlotSet gone')
    (added : (j : ℕ) → HasSlot gone' j ↔ (HasSlot gone j ⊎ ((j ≡ i) × IsTrue lost))) (below : i < 32) where
  few : i < length newest
  few = omega (arith, before.size)

  few' : i < length next
  few' = omega (arith, before.size')

  lost_here : has_slot gone' i ≡ lost
  lost_here = same_test (has_slot gone' i) lost (into, λ is. (added i).1 (inr (refl, is)))
    where
      into : HasSlot gone' i → IsTrue lost
      into has = elim ((added i).0 has) [ inl had ↦ absurd (before.rest i (omega arith) had) | inr is ↦ is.1 ]

  lost_before : (j : ℕ) → j < i → has_slot gone' j ≡ has_slot gone j
  lost_before j below = same_test (has_slot gone' j) (has_slot gone j) (into, λ had. (added j).1 (inl had))
    where
      into : HasSlot gone' j → HasSlot gone j
      into has = elim ((added j).0 has) [ inl had ↦ had | inr is ↦ absurd (omega (arith, is.0)) ]

  sights_here : IsSight i old new (newest_at (set newest i block) i) (slice_index (set next i place) i) (has_slot gone' i)
  sights_here =
      subst (λ (o : Option Superblock). IsSight i old new o (slice_index (set next i place) i) (has_slot gone' i))
      (sym (get_or-set_same newest i block None few))
      (subst (λ (k : ℕ). IsSight i old new block k (has_slot gone' i)) (sym (get_or-set_same next i place 0 few'))
      (subst (λ (b : Bool). IsSight i old new block place b) (sym lost_here)
      (sight_wider old now new new before.later later.honest later.counts (later_none new) i block place lost sight)))

  sights_before : (j : ℕ) → j < i → IsSight j old new (newest_at (set newest i block) j) (slice_index (set next i place) j) (has_slot gone' j)
  sights_before j below =
      let other : j ≢ i = omega arith in
      subst (λ (o : Option Superblock). IsSight j old new o (slice_index (set next i place) j) (has_slot gone' j))
      (sym (get_or-set_other newest i j block None other))
      (subst (λ (k : ℕ). IsSight j old new (newest_at newest j) k (has_slot gone' j)) (sym (get_or-set_other next i j place 0 other))
      (subst (λ (b : Bool). IsSight j old new (newest_at newest j) (slice_index next j) b) (sym (lost_before j below))
      (sight_wider old old now new (later_none old) before.later.honest before.later.counts later j (newest_at newest j) (slice_index next j)
      (has_slot gone j)
      (before.each j below))))

  rest_after : (j : ℕ) → i + 1 ≤ j → ¬ HasSlot gone' j
  rest_after j least has =
      elim ((added j).0 has) [ inl had ↦ before.rest j (omega arith) had | inr is ↦ absurd (omega (arith, is.0)) ]

  began_first : IsTrue new.honest → IsHistory old.history
  began_first is =
      elim (cases_lt 0 i) [
        | inl some ↦ before.began some (later.honest ∙ is)
        | inr none ↦
            let zero_slots : i ≡ 0 = omega arith in
            let same : now.history ≡ old.history =
            subst (λ (k : ℕ). AsksBelow k old.history now.history) zero_slots (before.asked (later.honest ∙ is)) in
            subst (λ h. IsHistory h) same (began is)
      ]

  pub sights_more : AreSightsBelow (i + 1) (set newest i block) (set next i place) gone' old new count count''
  sights_more = record {
    each =
        below_more (λ j. IsSight j old new (newest_at (set newest i block) j) (slice_index (set next i place) j) (has_slot gone' j)) i
        sights_before sights_here;
    formed = formed;
    rest = rest_after;
    later = later_join before.later later;
    asked = λ is. let next_is : suc i ≡ i + 1 = omega arith in subst (λ (k : ℕ). AsksBelow k old.history new.history) next_is (suc_asked is);
    began = λ below. began_first;
    reads = rises_more (2 * i) 2 (2 * (i + 1)) count count' count'' (omega arith) before.reads reads;
    size = length-set newest i block ∙ before.size;
    size' = length-set next i place ∙ before.size';
  }
    where
      suc_asked : IsTrue new.honest → AsksBelow (suc i) old.history new.history
      suc_asked is = (now.history, before.asked (later.honest ∙ is), asked is)

-- what is found for each slot below 32 is found by one function
chosen : (P : ℕ → (ℕ → Cell) → Type 0) → ((j : ℕ) → j < 32 → (cell : ℕ → Cell) × P j cell)
    → (cells : ℕ → ℕ → Cell) × ((j : ℕ) → j < 32 → P j (cells j))
chosen P each = (λ j. (pick j (cases_lt j 32)).0, λ j below. (pick j (cases_lt j 32)).1 below)
  where
    pick : (j : ℕ) → (j < 32) ⊎ (32 ≤ j) → (cell : ℕ → Cell) × (j < 32 → P j cell)
    pick j (inl below) = ((each j below).0, λ _. (each j below).1)
    pick j (inr past) = (λ k. Damaged, λ below. absurd (omega arith))

image_of : (ℕ → ℕ → Cell) → Image
image_of cells j = record { size = None; cell = cells j; removed = [] }

-- a sight, but for its cells
record IsSightOf (j : ℕ) (old new : RackState) (block : Option Superblock) (place : ℕ) (lost : Bool) (cells : ℕ → Cell) : Type 0 where
  places : (k : ℕ) → k < 2 → IsPlaceFound (IsTrue lost) j k old new (cells k)
  finds : IsTrue new.honest → FindsWithin (IsTrue lost) j cells old.history new.history
  newest : IsNewest cells block
  next : IsNextPlace cells place
  gone : IsTrue lost → IsFoundGone j old new
  held : IsTrue new.honest → ¬ IsTrue lost → (before : List Happening) → Ran any_call before old.history → IsHeld before new.history j

sight_of_cells : (j : ℕ) (old new : RackState) (block : Option Superblock) (place : ℕ) (lost : Bool) → IsSight j old new block place lost
    → (cells : ℕ → Cell) × IsSightOf j old new block place lost cells
sight_of_cells j old new block place lost s =
    (s.cell, record { places = s.places; finds = s.finds; newest = s.newest; next = s.next; gone = s.gone; held = s.held })

pub sights_all : (sights : Sights) (old now : RackState) (count count' : Option ℕ)
    → AreSightsBelow 32 sights.newest sights.next sights.gone old now count count'
    → AreSights sights old now
unfolding image_of
sights_all sights old now count count' all =
    let some =
    chosen (λ j cells. IsSightOf j old now (newest_at sights.newest j) (slice_index sights.next j) (has_slot sights.gone j) cells)
    (λ j below. sight_of_cells j old now (newest_at sights.newest j) (slice_index sights.next j) (has_slot sights.gone j) (all.each j below)) in
    let f : Findings = record { image = image_of some.0; gone = sights.gone } in
    record {
      findings = f;
      found = record {
        formed = all.formed;
        each = λ j below. record { places = (some.1 j below).places; finds = (some.1 j below).finds; gone = (some.1 j below).gone; held = (some.1 j below).held };
      };
      tells = record {
        gone = refl;
        shows = record { each = λ j below. (some.1 j below).newest };
        next = λ j below. (some.1 j below).next;
        size = all.size';
      };
    }
