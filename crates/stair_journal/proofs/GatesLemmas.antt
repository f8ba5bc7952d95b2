-- How far reading the gates of a rack has come.
use Rattle.std.proofs.Common.{◌≡◌, ℕ, ◌+◌, ◌<◌, ◌↔◌, Bool, false, List, inl, inr, refl, sym, ap, subst, ◌∙◌, arith, Option, None, Some}
use Rattle.std.specs.Prelude.{◌⊎◌, ◌==◌, IsTrue, if◌then◌else◌}
use Rattle.std.specs.Option.{unwrap_or}
use Rattle.std.proofs.lemmas.Bool.{cases_lt, cond-false, cond-true, false≢true}
use Rattle.std.proofs.lemmas.Bool.Decides.{eqb_tells}
use Rattle.stair_model.specs.Device.{gate_sector}
use Rattle.stair_model.specs.Geometry.{Geometry, IsWithinLimits}
use Rattle.stair_model.specs.Slots.{Slots, HasSlot, IsSlotSet, has_slot}
use Rattle.stair_base.proofs.SlotLemmas.{HasSlot-below}
use Rattle.stair_rack.specs.Answers.{Calls, IsHistory, Ran}
use Rattle.stair_rack.specs.Count.{Rose}
use Rattle.stair_rack.specs.History.{Happening, Read, slot_state}
use Rattle.stair_rack.specs.RackCounts.{NoneFalls, RisesAtMost}
use Rattle.stair_rack.specs.Reading.{EachBelow, IsReadOf}
use Rattle.stair_rack.specs.Sector.{Cell, Damaged, Good, content}
use Rattle.stair_rack.specs.RackState.{IsGone, IsLater, IsReading, RackState, rack_state}
use Rattle.stair_rack.specs.declared.rack.Got.TheVariants as got
use Rattle.stair_rack.proofs.GoneLemmas.{is_gone_wider}
use Rattle.stair_rack.proofs.MomentLemmas.{ran_any, ran_join, ran_none}
use Rattle.stair_rack.proofs.PassCounts.{rises_more, rises_none}
use Rattle.stair_rack.proofs.ReadRuns.{read_ran, reads_beside, reads_within}
use Rattle.stair_rack.proofs.RackStateLemmas.{later_join, later_none, reading_bad, reading_good, reading_wider}
use Rattle.stair_journal.specs.Gate.{IsOpenWith, ReadsClosed}
use Rattle.stair_journal.specs.GatesSteps.{IsGateRead, IsNoted, IsReadOnce, IsSeen, IsSeenOpen, first_redo}
use Rattle.stair_journal.specs.Gates.{IsFirstRedo, IsGateSector, IsOpened, IsRead, NoneOpen, OpenFirst, ReadsGates}
use Rattle.stair_journal.specs.Reads.{ReadsGate}
use Rattle.stair_journal.specs.declared.gates.Gates.{Gates}
use Rattle.stair_journal.specs.declared.gates.Seen.{Seen}
use Rattle.stair_journal.specs.declared.gates.Seen.TheVariants.{Closed, Gone, Open}
use Rattle.stair_journal.specs.declared.redo.Redo.{Redo}
use Rattle.stair_journal.proofs.GateLemmas.{once}
use Rattle.stair_journal.proofs.LiveCounts.{live_below, live_more, live_none, live_skipped}
use Rattle.stair_journal.proofs.ReadToldLemmas.{gates_told}
use Rattle.stair_journal.proofs.TurnLemmas.{gate_read, gate_unread}

-- NOTING A GATE

-- a gate that is open with this redo is noted
module _ (i : ℕ) (redo first : Redo) (old : Gates) (is : first ≡ unwrap_or old.redo redo) where
  first_is : (o : Option Redo) → first ≡ unwrap_or o redo → Some first ≡ first_redo o (Open redo)
  first_is None same = ap Some same
  first_is (Some r) same = ap Some same

  same_open : first ≡ redo → IsSeenOpen (Some first) (Open redo)
  same_open same = record { with_redo = first; told = refl; is_open = ap Open (sym same) }

  open_same : IsSeenOpen (Some first) (Open redo) → first ≡ redo
  open_same seen = let told = seen.told in let is_open = seen.is_open in cc

  pub noted_opened : (opened : Slots) → first ≡ redo → IsSlotSet opened → ((j : ℕ) → HasSlot opened j ↔ (HasSlot old.opened j ⊎ (j ≡ i)))
      → IsNoted i (Open redo) old (record { redo = Some first; opened = opened; gone = old.gone })
  noted_opened opened same formed added = record {
    redo = first_is old.redo is;
    opened = λ j. (
      λ has. elim ((added j).0 has) [ inl was ↦ inl was | inr here ↦ inr (here, same_open same) ],
      λ either. (added j).1 (elim either [ inl was ↦ inl was | inr here ↦ inr here.0 ]),
    );
    gone = λ j. (λ has. inl has, λ either. elim either [ inl was ↦ was | inr here ↦ let lost = here.1 in absurd (cc) ]);
    formed_opened = λ _. formed;
    formed_gone = λ was. was;
  }

  pub noted_other : ¬ (first ≡ redo) → IsNoted i (Open redo) old (record { redo = Some first; opened = old.opened; gone = old.gone })
  noted_other other = record {
    redo = first_is old.redo is;
    opened = λ j. (λ has. inl has, λ either. elim either [ inl was ↦ was | inr here ↦ absurd (other (open_same here.1)) ]);
    gone = λ j. (λ has. inl has, λ either. elim either [ inl was ↦ was | inr here ↦ let lost = here.1 in absurd (cc) ]);
    formed_opened = λ was. was;
    formed_gone = λ was. was;
  }

-- a gate that can't be read reads as closed
pub bad_closed : (g : Geometry) → ReadsClosed g Damaged
bad_closed g redo is = let bad = is.good in cc

module _ (P : Cell → Type 0) (honest : Bool) (old new : List Happening) (bads bads' : ℕ) (gones gones' : ℕ → ℕ) (j : ℕ) where
  pub gate_good : (bytes : List ℕ) → (IsTrue honest → Calls old new j (Read gate_sector got.Good))
      → (IsTrue honest → content ((slot_state new j).sector gate_sector) ≡ Good bytes) → P (Good bytes)
      → IsGateRead P j (rack_state honest old bads gones) (rack_state honest new bads' gones')
  gate_good bytes told good says = record {
    cell = Good bytes;
    read = reading_good honest old new bads bads' gones gones' j gate_sector bytes told good;
    says = says;
  }

  pub gate_bad : (IsTrue honest → IsHistory old) → (IsTrue honest → Calls old new j (Read gate_sector got.Bad)) → Rose bads bads' → P Damaged
      → IsGateRead P j (rack_state honest old bads gones) (rack_state honest new bads' gones')
  gate_bad began told rose says = record {
    cell = Damaged;
    read = reading_bad honest old new bads bads' gones gones' j gate_sector began told rose;
    says = says;
  }

-- THE FIRST REDO

-- The slots `some`, all below i, become `some'`, and their gates stay.
module _ (g : Geometry) (i : ℕ) (some some' : ℕ → Type 0) (gate gate' : ℕ → Cell) (below : (j : ℕ) → some j → j < i)
    (into : (j : ℕ) → some j → some' j) (agree : (j : ℕ) → some j → gate' j ≡ gate j) where
  closed_on : (j : ℕ) → some j → ReadsClosed g (gate j) → ReadsClosed g (gate' j)
  closed_on j on closed = subst (ReadsClosed g) (sym (agree j on)) closed

  open_on : (j : ℕ) (redo : Redo) → some j → IsOpenWith g (gate j) redo → IsOpenWith g (gate' j) redo
  open_on j redo on is = subst (λ cell. IsOpenWith g cell redo) (sym (agree j on)) is

  -- no gate more, or one that reads as closed
  first_stays : {redo : Option Redo} → ((j : ℕ) → some' j → some j ⊎ ReadsClosed g (gate' j)) → IsFirstRedo g some gate redo
      → IsFirstRedo g some' gate' redo
  first_stays from (NoneOpen all) =
      NoneOpen (λ j on. elim (from j on) [ inl was ↦ closed_on j was (all j was) | inr closed ↦ closed ])
  first_stays from (OpenFirst j redo on is lower) =
      OpenFirst j redo (into j on) (open_on j redo on is)
      (λ k less on'. elim (from k on') [ inl was ↦ closed_on k was (lower k less was) | inr closed ↦ closed ])

  -- gate i is the first that is open
  first_found : (redo : Redo) → some' i → IsOpenWith g (gate' i) redo → ((j : ℕ) → j < i → some' j → some j) → IsFirstRedo g some gate None
      → IsFirstRedo g some' gate' (Some redo)
  first_found redo on is from (NoneOpen all) =
      OpenFirst i redo on is (λ j less on'. let was = from j less on' in closed_on j was (all j was))

  -- a lower one is
  first_kept : {first : Redo} → ((j : ℕ) → j < i → some' j → some j) → IsFirstRedo g some gate (Some first)
      → IsFirstRedo g some' gate' (Some first)
  first_kept from (OpenFirst j redo on is lower) =
      OpenFirst j redo (into j on) (open_on j redo on is)
      (λ k less on'. let top = below j on in let was = from k (omega arith) on' in closed_on k was (lower k less was))

  first_more : (redo : Option Redo) (seen : Seen) → IsFirstRedo g some gate redo → ((j : ℕ) → j < i → some' j → some j)
      → ((r : Redo) → seen ≡ Open r → some' i × IsOpenWith g (gate' i) r)
      → (¬ ((r : Redo) × (seen ≡ Open r)) → (j : ℕ) → some' j → some j ⊎ ReadsClosed g (gate' j))
      → IsFirstRedo g some' gate' (first_redo redo seen)
  first_more (Some first) seen is from opened closed = first_kept from is
  first_more None (Open redo) is from opened closed =
      let here = opened redo refl in first_found redo here.0 here.1 from is
  first_more None Closed is from opened closed = first_stays (closed (λ some_redo. let told = some_redo.1 in cc)) is
  first_more None Gone is from opened closed = first_stays (closed (λ some_redo. let told = some_redo.1 in cc)) is

-- OPENED SLOTS

-- Slot i is opened where E holds.
module _ (g : Geometry) (i : ℕ) (some some' : ℕ → Type 0) (gate gate' : ℕ → Cell) (opened opened' : Slots) (redo redo' : Option Redo) (E : Type 0)
    (into : (j : ℕ) → some j → some' j) (from : (j : ℕ) → some' j → some j ⊎ (j ≡ i))
    (before : (j : ℕ) → HasSlot opened j ↔ (some j × IsOpened g redo (gate j)))
    (same : (j : ℕ) → some j → IsOpened g redo (gate j) ↔ IsOpened g redo' (gate' j))
    (added : (j : ℕ) → HasSlot opened' j ↔ (HasSlot opened j ⊎ ((j ≡ i) × E)))
    (here : E → some' i × IsOpened g redo' (gate' i)) (only : some' i → IsOpened g redo' (gate' i) → E) where
  pub opened_more : (j : ℕ) → HasSlot opened' j ↔ (some' j × IsOpened g redo' (gate' j))
  opened_more j = (
    λ has.
        elim ((added j).0 has) [
          | inl was ↦ let both = (before j).0 was in (into j both.0, (same j both.0).0 both.1)
          | inr is ↦ let both = here is.1 in (subst some' (sym is.0) both.0, subst (λ k. IsOpened g redo' (gate' k)) (sym is.0) both.1)
        ],
    λ both.
        elim (from j both.0) [
          | inl was ↦ (added j).1 (inl ((before j).1 (was, (same j was).1 both.1)))
          | inr is ↦ (added j).1 (inr (is, only (subst some' is both.0) (subst (λ k. IsOpened g redo' (gate' k)) is both.1)))
        ],
  )

-- ONE GATE MORE

-- slot j is below i, is live and wasn't gone
abbrev pub IsReadBelow : Slots → Slots → ℕ → ℕ → Type 0
IsReadBelow live gone i j = (j < i) × IsRead live gone j

-- The gates of the live slots below i were read, and this is known of them.
pub record AreGatesRead (g : Geometry) (live : Slots) (i : ℕ) (gates : Gates) (old now : RackState) (count count' : Option ℕ) : Type 0 where
  pub gate : ℕ → Cell
  pub read : (j : ℕ) → IsReadBelow live gates.gone i j → IsReading j gate_sector old now (gate j)
  pub redo : IsFirstRedo g (IsReadBelow live gates.gone i) gate gates.redo
  pub opened : (j : ℕ) → HasSlot gates.opened j ↔ (IsReadBelow live gates.gone i j × IsOpened g gates.redo (gate j))
  pub live_gone : (j : ℕ) → HasSlot gates.gone j → (j < i) × HasSlot live j
  pub gone : (j : ℕ) → HasSlot gates.gone j → IsGone j old now
  pub formed_opened : IsSlotSet gates.opened
  pub formed_gone : IsSlotSet gates.gone
  pub formed_live : 0 < i → IsSlotSet live
  pub later : IsLater old now
  pub ran : IsTrue now.honest → Ran (IsReadOf (HasSlot live) IsGateSector) old.history now.history
  pub in_turn : IsTrue now.honest → EachBelow (ReadsGate live gates.gone) i old.history now.history
  pub reads : RisesAtMost (live_below live i) count count'

pub gates_none : (g : Geometry) (live : Slots) (gates : Gates) (now : RackState) (count : Option ℕ) → gates.redo ≡ None
    → ((j : ℕ) → ¬ HasSlot gates.opened j) → ((j : ℕ) → ¬ HasSlot gates.gone j) → IsSlotSet gates.opened → IsSlotSet gates.gone
    → AreGatesRead g live 0 gates now now count count
gates_none g live gates now count none unopened present formed formed' = record {
  gate = λ j. Damaged;
  read = λ j on. absurd (omega (arith, on.0));
  redo = subst (IsFirstRedo g (IsReadBelow live gates.gone 0) (λ j. Damaged)) (sym none) (NoneOpen (λ j on. absurd (omega (arith, on.0))));
  opened = λ j. (λ has. absurd (unopened j has), λ both. absurd (let below = both.0.0 in omega arith));
  live_gone = λ j has. absurd (present j has);
  gone = λ j has. absurd (present j has);
  formed_opened = formed;
  formed_gone = formed';
  formed_live = λ below. absurd (omega arith);
  later = later_none now;
  ran = λ honest. ran_none now.history;
  in_turn = λ honest. refl;
  reads = subst (λ k. RisesAtMost k count count) (sym (live_none live)) (rises_none count);
}

-- what is known of lower slots is known of more of them
module _ (live gone gone' : Slots) (i : ℕ) (same : (j : ℕ) → j < i → HasSlot gone' j → HasSlot gone j) (more : (j : ℕ) → HasSlot gone j → HasSlot gone' j) where
  read_into : (j : ℕ) → IsReadBelow live gone i j → IsReadBelow live gone' (i + 1) j
  read_into j on = let below = on.0 in (omega arith, (on.1.0, λ has. on.1.1 (same j below has)))

  read_from : (j : ℕ) → j < i → IsReadBelow live gone' (i + 1) j → IsReadBelow live gone i j
  read_from j below on = (below, (on.1.0, λ has. on.1.1 (more j has)))

  read_cases : (j : ℕ) → IsReadBelow live gone' (i + 1) j → IsReadBelow live gone i j ⊎ (j ≡ i)
  read_cases j on =
      let most = on.0 in
      elim (cases_lt j i) [ inl below ↦ inl (read_from j below on) | inr least ↦ inr (omega arith) ]

  -- where slot i isn't read
  read_only : ¬ IsRead live gone' i → (j : ℕ) → IsReadBelow live gone' (i + 1) j → IsReadBelow live gone i j
  read_only unread j on =
      elim (read_cases j on) [ inl was ↦ was | inr is ↦ absurd (unread (subst (IsRead live gone') is on.1)) ]

-- what is known of all gates that were read, at a later moment
module _ (g : Geometry) (live : Slots) (i : ℕ) (gates : Gates) (old now : RackState) (count count' : Option ℕ)
    (before : AreGatesRead g live i gates old now count count') where
  -- slot i isn't live
  pub gates_skipped : IsSlotSet live → has_slot live i ≡ false → AreGatesRead g live (i + 1) gates old now count count'
  gates_skipped formed off = record {
    gate = before.gate;
    read = λ j on. before.read j (only j on);
    redo = first_stays g i some some' before.gate before.gate (λ j on. on.0) into (λ j on. refl) (λ j on. inl (only j on)) before.redo;
    opened = opened_more g i some some' before.gate before.gate gates.opened gates.opened gates.redo gates.redo ⊥ into (λ j on. inl (only j on))
        before.opened (λ j on. (λ is. is, λ is. is)) (λ j. (λ has. inl has, λ either. elim either [ inl was ↦ was | inr never ↦ absurd never.1 ]))
        (λ never. absurd never) (λ on. absurd (let below = (only i on).0 in omega arith));
    live_gone = λ j has. let was = before.live_gone j has in (omega (arith, was.0), was.1);
    gone = before.gone;
    formed_opened = before.formed_opened;
    formed_gone = before.formed_gone;
    formed_live = λ _. formed;
    later = before.later;
    ran = before.ran;
    in_turn = λ honest.
        gate_unread live gates.gone gates.gone i old.history now.history now.history (before.in_turn honest) (λ on. false≢true (sym off ∙ on));
    reads = subst (λ k. RisesAtMost k count count') (sym (live_skipped live i off)) before.reads;
  }
    where
      some : ℕ → Type 0
      some = IsReadBelow live gates.gone i

      some' : ℕ → Type 0
      some' = IsReadBelow live gates.gone (i + 1)

      into : (j : ℕ) → some j → some' j
      into = read_into live gates.gone gates.gone i (λ j below has. has) (λ j has. has)

      only : (j : ℕ) → some' j → some j
      only = read_only live gates.gone gates.gone i (λ j below has. has) (λ j has. has) (λ on. false≢true (sym off ∙ on.0))

-- The gate of slot i, which is live, is read.
module _ (g : Geometry) (limits : IsWithinLimits g) (i : ℕ) (now new : RackState) where
  -- the cell that was read
  abbrev seen_cell : (seen : Seen) → IsSeen g i now new seen → Cell
  seen_cell (Open redo) is = is.cell
  seen_cell Closed is = is.cell
  seen_cell Gone is = Damaged

  seen_reading : (seen : Seen) (is : IsSeen g i now new seen) → ¬ (seen ≡ Gone) → IsReading i gate_sector now new (seen_cell seen is)
  seen_reading (Open redo) is there = is.read
  seen_reading Closed is there = is.read
  seen_reading Gone is there = absurd (there refl)

  seen_open : (seen : Seen) (is : IsSeen g i now new seen) (r : Redo) → seen ≡ Open r → IsOpenWith g (seen_cell seen is) r
  seen_open (Open redo) is r same = let redos : redo ≡ r = cc in subst (IsOpenWith g is.cell) redos is.says
  seen_open Closed is r same = absurd (cc)
  seen_open Gone is r same = absurd (cc)

  open_seen : (seen : Seen) (is : IsSeen g i now new seen) (r : Redo) → ¬ (seen ≡ Gone) → IsOpenWith g (seen_cell seen is) r → seen ≡ Open r
  open_seen (Open redo) is r there opened = ap Open (once g is.cell redo r limits is.says opened)
  open_seen Closed is r there opened = absurd (is.says r opened)
  open_seen Gone is r there opened = absurd (there refl)

module _ (g : Geometry) (limits : IsWithinLimits g) (live : Slots) (i : ℕ) (gates gates' : Gates) (old now new : RackState) (count count' count'' : Option ℕ)
    (before : AreGatesRead g live i gates old now count count') (formed : IsSlotSet live) (live_here : HasSlot live i) (seen : Seen)
    (is_seen : IsSeen g i now new seen) (counts : NoneFalls now.bads new.bads now.gones new.gones) (same_honest : now.honest ≡ new.honest)
    (read_once : IsTrue new.honest → IsReadOnce i seen now.history new.history) (reads : RisesAtMost 1 count' count'')
    (noted : IsNoted i seen gates gates') where
  ran : IsTrue new.honest → Ran (IsReadOf (λ j. j ≡ i) IsGateSector) now.history new.history
  ran honest = read_ran refl refl (read_once honest).called

  later : IsLater now new
  later = record { counts = counts; honest = same_honest; ran = λ honest. ran_any {allowed = IsReadOf (λ j. j ≡ i) IsGateSector} (ran honest) }

  abbrev some : ℕ → Type 0
  some = IsReadBelow live gates.gone i

  abbrev some' : ℕ → Type 0
  some' = IsReadBelow live gates'.gone (i + 1)

  gone_same : (j : ℕ) → j < i → HasSlot gates'.gone j → HasSlot gates.gone j
  gone_same j below has = elim ((noted.gone j).0 has) [ inl was ↦ was | inr is ↦ absurd (let here = is.0 in omega arith) ]

  gone_more : (j : ℕ) → HasSlot gates.gone j → HasSlot gates'.gone j
  gone_more j was = (noted.gone j).1 (inl was)

  into : (j : ℕ) → some j → some' j
  into = read_into live gates.gone gates'.gone i gone_same gone_more

  from : (j : ℕ) → j < i → some' j → some j
  from = read_from live gates.gone gates'.gone i gone_same gone_more

  cases : (j : ℕ) → some' j → some j ⊎ (j ≡ i)
  cases = read_cases live gates.gone gates'.gone i gone_same gone_more

  noted_gone : (seen ≡ Gone) ↔ HasSlot gates'.gone i
  noted_gone = (
    λ is. (noted.gone i).1 (inr (refl, is)),
    λ has.
        elim ((noted.gone i).0 has) [
          | inl was ↦ absurd (let below = (before.live_gone i was).0 in omega arith)
          | inr is ↦ is.1
        ],
  )

  there : IsRead live gates'.gone i → ¬ (seen ≡ Gone)
  there on is = on.1 (noted_gone.0 is)

  here : ¬ (seen ≡ Gone) → some' i
  here not_gone = (omega arith, (live_here, λ has. not_gone (noted_gone.1 has)))

  abbrev cell : Cell
  cell = seen_cell g limits i now new seen is_seen

  abbrev gate' : ℕ → Cell
  gate' j = if j == i then cell else before.gate j

  gate_other : (j : ℕ) → j < i → gate' j ≡ before.gate j
  gate_other j below =
      elim (eqb_tells j i) [ inl same ↦ absurd (let is = same.1 in omega arith) | inr other ↦ cond-false _ _ _ other.0 ]

  gate_here : gate' i ≡ cell
  gate_here = elim (eqb_tells i i) [ inl same ↦ cond-true _ _ _ same.0 | inr other ↦ absurd (other.1 refl) ]

  open_here : (r : Redo) → seen ≡ Open r → some' i × IsOpenWith g (gate' i) r
  open_here r is = (
    here (λ lost. cc),
    subst (λ c. IsOpenWith g c r) (sym gate_here) (seen_open g limits i now new seen is_seen r is),
  )

  here_open : (r : Redo) → some' i → IsOpenWith g (gate' i) r → seen ≡ Open r
  here_open r on is = open_seen g limits i now new seen is_seen r (there on.1) (subst (λ c. IsOpenWith g c r) gate_here is)

  read_more : (j : ℕ) → some' j → IsReading j gate_sector old new (gate' j)
  read_more j on =
      elim (cases j on) [
        | inl was ↦
            subst (IsReading j gate_sector old new) (sym (gate_other j was.0))
            (reading_wider old old now new (later_none old) before.later.honest before.later.counts later j gate_sector (before.gate j)
            (before.read j was))
        | inr is ↦
            subst (λ k. IsReading k gate_sector old new (gate' k)) (sym is)
            (subst (IsReading i gate_sector old new) (sym gate_here)
            (reading_wider old now new new before.later same_honest counts (later_none new) i gate_sector cell
            (seen_reading g limits i now new seen is_seen (there (subst (IsRead live gates'.gone) is on.1)))))
      ]

  closed_more : ¬ ((r : Redo) × (seen ≡ Open r)) → (j : ℕ) → some' j → some j ⊎ ReadsClosed g (gate' j)
  closed_more not_open j on =
      elim (cases j on) [
        | inl was ↦ inl was
        | inr is ↦
            inr
            (λ r opened.
            not_open
            (r, here_open r (subst some' is on) (subst (λ k. IsOpenWith g (gate' k) r) is opened)))
      ]

  redo_more : IsFirstRedo g some' gate' gates'.redo
  redo_more =
      subst (IsFirstRedo g some' gate') (sym noted.redo)
      (first_more g i some some' before.gate gate' (λ j on. on.0) into (λ j on. gate_other j on.0) gates.redo seen before.redo from open_here closed_more)

  same_opened : (redo : Option Redo) → IsFirstRedo g some before.gate redo → gates'.redo ≡ first_redo redo seen → (j : ℕ) → some j
      → IsOpened g redo (before.gate j) ↔ IsOpened g gates'.redo (gate' j)
  same_opened None (NoneOpen all) is j on = (
    λ opened. let told = opened.told in absurd (cc),
    λ opened. absurd (all j on opened.with_redo (subst (λ c. IsOpenWith g c opened.with_redo) (gate_other j on.0) opened.is_open)),
  )
  same_opened (Some first) kept is j on = (
    λ opened. record {
      with_redo = opened.with_redo;
      told = is ∙ opened.told;
      is_open = subst (λ c. IsOpenWith g c opened.with_redo) (sym (gate_other j on.0)) opened.is_open;
    },
    λ opened. record {
      with_redo = opened.with_redo;
      told = sym is ∙ opened.told;
      is_open = subst (λ c. IsOpenWith g c opened.with_redo) (gate_other j on.0) opened.is_open;
    },
  )

  opened_here : IsSeenOpen gates'.redo seen → some' i × IsOpened g gates'.redo (gate' i)
  opened_here e =
      let opened = open_here e.with_redo e.is_open in (opened.0, record { with_redo = e.with_redo; told = e.told; is_open = opened.1 })

  here_opened : some' i → IsOpened g gates'.redo (gate' i) → IsSeenOpen gates'.redo seen
  here_opened on opened =
      record { with_redo = opened.with_redo; told = opened.told; is_open = here_open opened.with_redo on opened.is_open }

  gone_now : (j : ℕ) → HasSlot gates'.gone j → IsGone j old new
  gone_now j has =
      elim ((noted.gone j).0 has) [
        | inl was ↦
            is_gone_wider {allowed = IsReadOf (λ k. k ≡ i) IsGateSector} old old now new (later_none old) before.later.honest before.later.counts
            later j (reads_beside (λ k. k ≡ i) IsGateSector j) ran (before.gone j was)
        | inr is ↦
            let now_gone : IsGone i now new = subst (IsSeen g i now new) is.1 is_seen in
            subst (λ k. IsGone k old new) (sym is.0)
            (is_gone_wider {allowed = IsReadOf (λ k. k ≡ i) IsGateSector} old now new new before.later same_honest counts
            (later_none new) i (reads_beside (λ k. k ≡ i) IsGateSector i) (λ honest. ran_none new.history) now_gone)
      ]

  live_gone_now : (j : ℕ) → HasSlot gates'.gone j → (j < i + 1) × HasSlot live j
  live_gone_now j has =
      elim ((noted.gone j).0 has) [
        | inl was ↦ let on = before.live_gone j was in (omega (arith, on.0), on.1)
        | inr is ↦ (omega (arith, is.0), subst (HasSlot live) (sym is.0) live_here)
      ]

  pub gates_more : AreGatesRead g live (i + 1) gates' old new count count''
  gates_more = record {
    gate = gate';
    read = read_more;
    redo = redo_more;
    opened = opened_more g i some some' before.gate gate' gates.opened gates'.opened gates.redo gates'.redo (IsSeenOpen gates'.redo seen) into cases
        before.opened (same_opened gates.redo before.redo noted.redo) noted.opened opened_here here_opened;
    live_gone = live_gone_now;
    gone = gone_now;
    formed_opened = noted.formed_opened before.formed_opened;
    formed_gone = noted.formed_gone before.formed_gone;
    formed_live = λ _. formed;
    later = later_join before.later later;
    ran = λ honest.
        ran_join (before.ran (same_honest ∙ honest))
        (reads_within {slots = λ j. j ≡ i} {sectors = IsGateSector} {slots' = HasSlot live} {sectors' = IsGateSector}
        (λ j is. subst (HasSlot live) (sym is) live_here) (λ k is. is) (ran honest));
    in_turn = λ honest.
        gate_read live gates.gone gates'.gone i old.history now.history new.history (before.in_turn (same_honest ∙ honest))
        (λ j below. (gone_more j, gone_same j below)) live_here seen noted_gone (read_once honest);
    reads = rises_more (live_below live i) 1 (live_below live (i + 1)) count count' count'' (live_more live i live_here) before.reads reads;
  }

-- ALL GATES

pub gates_all : (g : Geometry) (live : Slots) (gates : Gates) (old now : RackState) (count count' : Option ℕ)
    → AreGatesRead g live 32 gates old now count count' → ReadsGates g live gates old now
gates_all g live gates old now count count' all = record {
  gate = all.gate;
  read = λ j on. all.read j (below j on);
  redo = first_stays g 32 (IsReadBelow live gates.gone 32) (IsRead live gates.gone) all.gate all.gate (λ j on. on.0) (λ j on. on.1) (λ j on. refl)
      (λ j on. inl (below j on)) all.redo;
  opened = λ j. (
    λ has. let both = (all.opened j).0 has in (both.0.1, both.1),
    λ both. (all.opened j).1 (below j both.0, both.1),
  );
  live_gone = λ j has. (all.live_gone j has).1;
  gone = all.gone;
  formed_opened = all.formed_opened;
  formed_gone = all.formed_gone;
  honest = all.later.honest;
  counts = all.later.counts;
  told = λ honest. gates_told live gates.gone old.history now.history (all.in_turn honest);
  ran = all.ran;
}
  where
    below : (j : ℕ) → IsRead live gates.gone j → IsReadBelow live gates.gone 32 j
    below j on = (HasSlot-below live (all.formed_live (omega arith)) j on.0, on)
