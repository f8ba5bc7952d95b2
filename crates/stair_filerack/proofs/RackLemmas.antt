-- A slot of the rack is changed, and the others stay.
use Rattle.std.proofs.Common.{◌≡◌, ◌<◌, ℕ, List, [], length, get_or, set, inl, inr, sym, ◌∙◌, ap, subst, arith, refl}
use Rattle.std.proofs.lemmas.Bool.{cases_eq, cases_lt}
use Rattle.std.proofs.lemmas.List.{get_or_default, get_or_past, get_or-set_same, get_or-set_other, length-set, set-get_or}
use Rattle.stair_rack.specs.Count.{Rose}
use Rattle.stair_rack.specs.RackCounts.{IsLaterCount, NoneFalls}
use Rattle.stair_filerack.specs.declared.access.Access.{Access}
use Rattle.stair_filerack.specs.Slot.{FileSlot, untouched, detached}
use Rattle.stair_filerack.specs.FileRack.{FileRackState, IsDetached, slot_at, gones_of}

-- the changed slot, and another one
pub slot_same : {File : Type 0} (slots : List (FileSlot File)) (i j : ℕ) (slot : FileSlot File) → i < length slots → i ≡ j
    → get_or (set slots i slot) j (untouched []) ≡ slot
slot_same slots i j slot within same =
    subst (λ (n : ℕ). get_or (set slots i slot) n (untouched []) ≡ slot) same (get_or-set_same slots i slot (untouched []) within)

-- the slot that was read
pub slot_read : {File : Type 0} (slots : List (FileSlot File)) (i j : ℕ) (was : FileSlot File) → i < length slots → i ≡ j
    → was ≡ get_or slots i was → was ≡ get_or slots j (untouched [])
slot_read slots i j was within same is =
    is ∙ get_or_default slots i was (untouched []) within ∙ ap (λ (n : ℕ). get_or slots n (untouched [])) same

pub same_count : (count : ℕ) → IsLaterCount count count
same_count count = record { not_less = omega arith; fits = λ below. below }

-- no slot's count falls where that of the changed one doesn't
pub gones_kept : {File : Type 0} (slots : List (FileSlot File)) (i : ℕ) (was slot : FileSlot File) → i < length slots
    → was ≡ get_or slots i was → IsLaterCount was.gones slot.gones → (j : ℕ)
    → IsLaterCount (get_or slots j (untouched [])).gones (get_or (set slots i slot) j (untouched [])).gones
gones_kept {File} slots i was slot within is later j =
    let none : FileSlot File = untouched [] in
    elim (cases_eq j i) [
      | inl same ↦
          let old : was ≡ get_or slots j none = slot_read slots i j was within (sym same) is in
          let new : get_or (set slots i slot) j none ≡ slot = slot_same slots i j slot within (sym same) in
          subst (λ (s : FileSlot File). IsLaterCount (get_or slots j none).gones s.gones) (sym new)
          (subst (λ (s : FileSlot File). IsLaterCount s.gones slot.gones) old later)
      | inr other ↦
          subst (λ (s : FileSlot File). IsLaterCount (get_or slots j none).gones s.gones)
          (sym (get_or-set_other slots i j slot none other)) (same_count (get_or slots j none).gones)
    ]

-- a rack for this, with this count of bad sectors and these slots
abbrev pub rack_of : {File : Type 0} → Access → ℕ → List (FileSlot File) → FileRackState File
rack_of access bads slots = record { access = access; bads = bads; slots = slots }

-- Slot `i` of the rack, which was `was`, is `slot` afterwards.
pub record Changes {File : Type 0} (old : FileRackState File) (slots : List (FileSlot File)) (i j : ℕ) (was slot : FileSlot File) : Type 0 where
  pub its_slots : old.slots ≡ slots
  pub within : i < length slots
  pub same : i ≡ j
  pub is : was ≡ get_or slots i was

-- what the parts of a rack say of its slot that was taken out and put back
pub changed_slot : {File : Type 0} (old : FileRackState File) (access : Access) (bads : ℕ) (slots : List (FileSlot File)) (i j : ℕ) (was slot : FileSlot File)
    → rack_of access bads slots ≡ old → i ≡ j → was ≡ get_or slots i was → i < length slots → Changes old slots i j was slot
changed_slot {File} old access bads slots i j was slot parts same is within = record {
  its_slots = ap (λ (r : FileRackState File). r.slots) (sym parts);
  within = within;
  same = same;
  is = is;
}

pub slot_was : {File : Type 0} (old : FileRackState File) (slots : List (FileSlot File)) (i j : ℕ) (was slot : FileSlot File)
    → Changes old slots i j was slot → was ≡ slot_at old j
slot_was old slots i j was slot c =
    slot_read slots i j was c.within c.same c.is ∙ ap (λ (l : List (FileSlot _)). get_or l j (untouched [])) (sym c.its_slots)

pub counts_kept : {File : Type 0} (old : FileRackState File) (bads : ℕ) (slots : List (FileSlot File)) (i j : ℕ) (was slot : FileSlot File)
    → Changes old slots i j was slot → IsLaterCount old.bads bads → IsLaterCount was.gones slot.gones
    → NoneFalls old.bads bads (gones_of old) (λ n. (get_or (set slots i slot) n (untouched [])).gones)
counts_kept old bads slots i j was slot c bad later = record {
  bad = bad;
  gone = λ n.
      subst (λ (l : List (FileSlot _)). IsLaterCount (get_or l n (untouched [])).gones (get_or (set slots i slot) n (untouched [])).gones)
      (sym c.its_slots) (gones_kept slots i was slot c.within c.is later n);
}

-- no count falls where that of the changed slot doesn't and no bad sector is counted
pub gones_alone : {File : Type 0} (old : FileRackState File) (access : Access) (bads : ℕ) (slots : List (FileSlot File)) (i j : ℕ) (was slot : FileSlot File)
    → rack_of access bads slots ≡ old → Changes old slots i j was slot → IsLaterCount was.gones slot.gones
    → NoneFalls old.bads bads (gones_of old) (λ n. (get_or (set slots i slot) n (untouched [])).gones)
gones_alone {File} old access bads slots i j was slot parts c later =
    counts_kept old bads slots i j was slot c
    (subst (λ (r : FileRackState File). IsLaterCount r.bads bads) parts (same_count bads)) later

pub gone_rose : {File : Type 0} (old : FileRackState File) (slots : List (FileSlot File)) (i j : ℕ) (was slot : FileSlot File)
    → Changes old slots i j was slot → Rose was.gones slot.gones → Rose (gones_of old j) (get_or (set slots i slot) j (untouched [])).gones
gone_rose {File} old slots i j was slot c rose =
    subst (λ (s : FileSlot File). Rose (slot_at old j).gones s.gones) (sym (slot_same slots i j slot c.within c.same))
    (subst (λ (s : FileSlot File). Rose s.gones slot.gones) (slot_was old slots i j was slot c) rose)

-- the slots afterwards, where that one changed so
pub set_changed : {File : Type 0} (old : FileRackState File) (slots : List (FileSlot File)) (i j : ℕ) (was slot : FileSlot File)
    (change : FileSlot File → FileSlot File) → Changes old slots i j was slot → slot ≡ change was
    → set slots i slot ≡ set old.slots j (change (slot_at old j))
set_changed {File} old slots i j was slot change c is =
    ap (λ (s : FileSlot File). set slots i s) (is ∙ ap change (slot_was old slots i j was slot c))
    ∙ ap (λ (n : ℕ). set slots n (change (slot_at old j))) c.same
    ∙ ap (λ (l : List (FileSlot File)). set l j (change (slot_at old j))) (sym c.its_slots)

-- the rack afterwards, which differs in its slots alone
pub with_slots : {File : Type 0} (old : FileRackState File) (access : Access) (bads : ℕ) (slots new later : List (FileSlot File))
    → rack_of access bads slots ≡ old → new ≡ later → rack_of access bads new ≡ record old { slots = later }
with_slots {File} old access bads slots new later parts is =
    subst (λ (r : FileRackState File). rack_of access bads new ≡ record r { slots = later }) parts (ap (rack_of access bads) is)

-- the rack afterwards, where that slot changed so
pub rack_changed : {File : Type 0} (old : FileRackState File) (access : Access) (bads : ℕ) (slots : List (FileSlot File)) (i j : ℕ) (was slot : FileSlot File)
    (change : FileSlot File → FileSlot File) → rack_of access bads slots ≡ old → Changes old slots i j was slot → slot ≡ change was
    → rack_of access bads (set slots i slot) ≡ record old { slots = set old.slots j (change (slot_at old j)) }
rack_changed old access bads slots i j was slot change parts c is =
    with_slots old access bads slots (set slots i slot) (set old.slots j (change (slot_at old j))) parts
    (set_changed old slots i j was slot change c is)

-- what a call says of that slot, of the rack's slot before and after it
pub changed_says : {File : Type 0} (old : FileRackState File) (slots : List (FileSlot File)) (i j : ℕ) (was slot : FileSlot File)
    (Says : FileSlot File → FileSlot File → Type 0) → Changes old slots i j was slot → Says was slot
    → Says (slot_at old j) (get_or (set slots i slot) j (untouched []))
changed_says {File} old slots i j was slot Says c says =
    subst (λ (s : FileSlot File). Says (slot_at old j) s) (sym (slot_same slots i j slot c.within c.same))
    (subst (λ (s : FileSlot File). Says s slot) (slot_was old slots i j was slot c) says)

-- the slots and the rack afterwards, where that slot changed so by parts of its own
pub set_changed_as : {File : Type 0} (old : FileRackState File) (slots : List (FileSlot File)) (i j : ℕ) (was slot : FileSlot File)
    (change : FileSlot File → FileSlot File → FileSlot File) → Changes old slots i j was slot → slot ≡ change slot was
    → set slots i slot ≡ set old.slots j (change (get_or (set slots i slot) j (untouched [])) (slot_at old j))
set_changed_as {File} old slots i j was slot change c is =
    subst (λ (s : FileSlot File). set slots i slot ≡ set old.slots j (change s (slot_at old j)))
    (sym (slot_same slots i j slot c.within c.same))
    (set_changed old slots i j was slot (change slot) c is)

pub rack_changed_as : {File : Type 0} (old : FileRackState File) (access : Access) (bads : ℕ) (slots : List (FileSlot File)) (i j : ℕ) (was slot : FileSlot File)
    (change : FileSlot File → FileSlot File → FileSlot File) → rack_of access bads slots ≡ old → Changes old slots i j was slot → slot ≡ change slot was
    → rack_of access bads (set slots i slot) ≡ record old { slots = set old.slots j (change (get_or (set slots i slot) j (untouched [])) (slot_at old j)) }
rack_changed_as old access bads slots i j was slot change parts c is =
    with_slots old access bads slots (set slots i slot) _ parts (set_changed_as old slots i j was slot change c is)

-- the slots afterwards, where that one is as it was
pub set_same : {File : Type 0} (old : FileRackState File) (slots : List (FileSlot File)) (i j : ℕ) (was slot : FileSlot File)
    → Changes old slots i j was slot → slot ≡ was → set slots i slot ≡ old.slots
set_same old slots i j was slot c is =
    set_changed old slots i j was slot (λ s. s) c is ∙ set-get_or old.slots j (untouched [])

-- the count of each slot of a new rack, and of each that there is none of
pub none_gone : {File : Type 0} (slots : List (FileSlot File)) (path : ℕ → List ℕ) → length slots ≡ 32
    → ((j : ℕ) → j < 32 → get_or slots j (untouched []) ≡ untouched (path j)) → (j : ℕ) → (get_or slots j (untouched [])).gones ≡ 0
none_gone {File} slots path count each j =
    elim (cases_lt j 32) [
      | inl below ↦ ap (λ (s : FileSlot File). s.gones) (each j below)
      | inr past ↦ ap (λ (s : FileSlot File). s.gones) (get_or_past slots j (untouched []) (omega (arith, count, past)))
    ]

-- Of two racks the second differs in what its slots hold alone.
pub record AreHeldAlone {File : Type 0} (old new : FileRackState File) : Type 0 where
  pub count : length new.slots ≡ 32
  pub access : new.access ≡ old.access
  pub bads : new.bads ≡ old.bads
  pub slots : (j : ℕ) → j < 32 → detached (slot_at new j) ≡ detached (slot_at old j)

-- a rack and itself, which was taken apart
pub held_first : {File : Type 0} (old : FileRackState File) (access : Access) (bads : ℕ) (slots : List (FileSlot File))
    → length slots ≡ 32 → rack_of access bads slots ≡ old → AreHeldAlone old (rack_of access bads slots)
held_first {File} old access bads slots count parts =
    subst (λ (r : FileRackState File). AreHeldAlone r (rack_of access bads slots)) parts
    (record { count = count; access = refl; bads = refl; slots = λ j below. refl })

-- one slot more
pub held_next : {File : Type 0} (old : FileRackState File) (access : Access) (bads : ℕ) (slots : List (FileSlot File)) (i : ℕ)
    (was slot : FileSlot File) → i < length slots → was ≡ get_or slots i was → detached slot ≡ detached was
    → AreHeldAlone old (rack_of access bads slots) → AreHeldAlone old (rack_of access bads (set slots i slot))
held_next {File} old access bads slots i was slot within is alone so_far = record {
  count = length-set slots i slot ∙ so_far.count;
  access = so_far.access;
  bads = so_far.bads;
  slots = λ j below.
      elim (cases_eq j i) [
        | inl same ↦
            ap detached (slot_same slots i j slot within (sym same)) ∙ alone ∙ ap detached (slot_read slots i j was within (sym same) is)
            ∙ so_far.slots j below
        | inr other ↦ ap detached (get_or-set_other slots i j slot (untouched []) other) ∙ so_far.slots j below
      ];
}

-- the same, once the slots of the second were released
pub detached_all : {File : Type 0} (old between : FileRackState File) (access : Access) (bads : ℕ) (slots new : List (FileSlot File))
    → rack_of access bads slots ≡ between → between.access ≡ old.access → between.bads ≡ old.bads
    → ((j : ℕ) → j < 32 → detached (slot_at between j) ≡ detached (slot_at old j))
    → ((j : ℕ) → j < 32 → get_or new j (untouched []) ≡ detached (get_or slots j (untouched [])))
    → IsDetached old (rack_of access bads new)
detached_all {File} old between access bads slots new parts its_access its_bads alone let_go = record {
  access = ap (λ (r : FileRackState File). r.access) parts ∙ its_access;
  bads = ap (λ (r : FileRackState File). r.bads) parts ∙ its_bads;
  slots = λ j below. let_go j below ∙ ap (λ (r : FileRackState File). detached (slot_at r j)) parts ∙ alone j below;
}
