-- What a crash leaves while superblocks alone are written, and what it might have left before.
use Rattle.std.proofs.Common.{◌≡◌, ℕ, ◌<◌, ◌≤◌, List, ◌⊎◌, inl, inr, refl, sym, ap, ◌∙◌, subst, arith}
use Rattle.std.specs.Prelude.{IsSome, None, Some, Option, ⊤}
use Rattle.std.proofs.lemmas.Bool.{cases_Bool, cases_lt}
use Rattle.stair_model.specs.Device.{gate_sector}
use Rattle.stair_model.specs.Slots.{Slots, HasSlot}
use Rattle.stair_rack.specs.Answers.{Ran}
use Rattle.stair_rack.specs.Crash.{CrashMayLeave, SlotMayLeave}
use Rattle.stair_rack.specs.History.{Happening, IsTidy, SlotState, Write, slot_state}
use Rattle.stair_rack.specs.Media.{Image, SlotImage, has_sector}
use Rattle.stair_rack.specs.Moments.{IsMoment}
use Rattle.stair_rack.specs.Offline.{IsKept}
use Rattle.stair_rack.specs.Sector.{Cell, Damaged, Leaves, MayLeave, Sector, content}
use Rattle.stair_rack.specs.Stretch.{NothingReturned}
use Rattle.stair_rack.specs.declared.rack.Reply.TheVariants as reply
use Rattle.stair_rack.proofs.CrashLemmas.{MayLeave-base, content_left, leaves_on, settled_left}
use Rattle.stair_rack.proofs.KeptLemmas.{not_none}
use Rattle.stair_rack.proofs.MomentLemmas.{ran_before}
use Rattle.stair_rack.proofs.TidyLemmas.{HasSize, history_tidy, size_on}
use Rattle.stair_member.specs.Editions.{Edition}
use Rattle.stair_member.specs.Epochs.{ASync, AWrite, IsIssuing, Issued}
use Rattle.stair_member.specs.Fencing.{IsBegun, IsFencing}
use Rattle.stair_member.specs.Membership.{Membership}
use Rattle.stair_member.specs.Reserve.{IsOrderly}
use Rattle.stair_member.specs.declared.aim.EpochChange.TheVariants.{Fence}
use Rattle.stair_member.proofs.OrderLemmas.{orderly}
use Rattle.stair_member.proofs.EditionLemmas.{Comes, Harmed, Places, SlotIs, Stayed, issuing_places, places_on}
use Rattle.stair_member.proofs.EditionLemmas as edition
use Rattle.stair_state.specs.Degraded.{Blank, IsDegradedSlot, Taken}
use Rattle.stair_state.specs.Surveyed.{Bare, IsOwnOrBare, Own}
use Rattle.stair_state.proofs.DegradedLemmas.{degraded_copies}

-- THE MEDIUM OF A SLOT

to_slot : (first b : SlotState) → IsOwnOrBare first b → SlotIs first (λ k c. ⊤) b
to_slot first b (Own was same some) = edition.Same was same some (λ k lt. record { each = λ cell left. tt; base = tt })
to_slot first b (Bare off bare) = edition.Bare off bare

from_slot : (first b : SlotState) → SlotIs first (λ k c. ⊤) b → IsOwnOrBare first b
from_slot first b (edition.Same was same some each) = Own was same some
from_slot first b (edition.Bare off bare) = Bare off bare

-- a slot has the medium that it had, or is bare, while superblocks alone are written
pub own_issuing : (slots : Slots) (editions : List Edition) (first : SlotState) (j : ℕ) (old h : List Happening) → Ran (IsIssuing slots editions) old h
    → NothingReturned old h → IsOwnOrBare first (slot_state old j) → IsOwnOrBare first (slot_state h j)
own_issuing slots editions first j old h ran returned own =
    from_slot first (slot_state h j)
    (places_on {allowed = IsIssuing slots editions} {j = j} {P = λ k c. ⊤}
    (record {
      harm = λ k. tt;
      write = λ k bytes may. tt;
      cut = λ k bytes cell may. tt;
      attach = (issuing_places slots (HasSlot slots) editions j (λ k. Damaged) (λ has. has)).attach;
    }) first returned ran (to_slot first (slot_state old j) own))

-- it has its own, or none, when a stretch begins
pub own_first : (h : List Happening) (j : ℕ) → IsTidy h → IsOwnOrBare (slot_state h j) (slot_state h j)
own_first h j tidy = at_size (slot_state h j).size refl
  where
    at_size : (size : Option ℕ) → (slot_state h j).size ≡ size → IsOwnOrBare (slot_state h j) (slot_state h j)
    at_size None is =
        Bare
        (elim (cases_Bool (slot_state h j).attached) [ inl on ↦ absurd (not_none (slot_state h j).size is (tidy.attached j on)) | inr off ↦ off ])
        (λ k. tidy.past_end j k (ap (λ size. has_sector size k) is))
    at_size (Some size) is = let some : IsSome (slot_state h j).size = subst IsSome (sym is) refl in Own some refl some

-- A SLOT OF AN IMAGE

-- A slot of an image that a crash leaves since: less of what it might have left; or it has this in its places.
pub data IsIssuedTo (slots : Slots) (editions : List Edition) (j : ℕ) (was is : SlotImage) : Type 0 where
  Less : IsDegradedSlot was is → IsIssuedTo slots editions j was is
  Rewritten : is.size ≡ was.size → ((k : ℕ) → k < 2 → Comes (HasSlot slots) editions j (was.cell k) (is.cell k))
      → ((k : ℕ) → gate_sector ≤ k → (is.cell k ≡ was.cell k) ⊎ (is.cell k ≡ Damaged)) → IsIssuedTo slots editions j was is

pub record SlotCame (slots : Slots) (editions : List Edition) (j : ℕ) (first : SlotState) (is : SlotImage) : Type 0 where
  pub was : SlotImage
  pub left : SlotMayLeave first was
  pub issued : IsIssuedTo slots editions j was is

module _ (slots : Slots) (editions : List Edition) (old h : List Happening) (tidy : IsTidy old) (ran : Ran (IsIssuing slots editions) old h)
    (returned : NothingReturned old h) (image : Image) (left : CrashMayLeave h image) (j : ℕ) where
  abbrev first : SlotState
  first = slot_state old j

  abbrev now : SlotState
  now = slot_state h j

  -- a cell of a sector from the gate on, and one of a place
  Behind : Sector → Cell → Type 0
  Behind s cell = MayLeave s cell ⊎ (cell ≡ Damaged)

  record InPlace (s : Sector) (cell : Cell) : Type 0 where
    was : Cell
    may_be : MayLeave s was
    comes : Comes (HasSlot slots) editions j was cell

  -- of a slot that has its medium still: what was and wasn't damaged
  leaves : {P : Cell → Type 0} {Base : Cell → Type 0} (k : ℕ) → P Damaged → now.pulls ≡ first.pulls
      → IsKept first.pulls k (Leaves P Base) now → P ((image j).cell k)
  leaves {P} k harm same (IsKept.Here is some (inl none)) =
      subst P (sym (settled_left Damaged ((image j).cell k) (subst (λ s. MayLeave s ((image j).cell k)) none ((left j).each k)))) harm
  leaves {P} k harm same (IsKept.Here is some (inr each)) = each.each ((image j).cell k) ((left j).each k)
  leaves {P} k harm same (IsKept.Lost less) = absurd (omega (arith, same, less))

  begins : {P Base : Cell → Type 0} (k : ℕ) → IsSome first.size → ((cell : Cell) → MayLeave (first.sector k) cell → P cell)
      → Base (first.sector k).base → IsKept first.pulls k (Leaves P Base) first
  begins k some each base = IsKept.Here refl some (inr (record { each = each; base = base }))

  behind : (k : ℕ) → gate_sector ≤ k → IsSome first.size → now.pulls ≡ first.pulls → Behind (first.sector k) ((image j).cell k)
  unfolding Behind
  behind k from some same =
      leaves {P = Behind (first.sector k)} {Base = Behind (first.sector k)} k (inr refl) same
      (leaves_on {allowed = IsIssuing slots editions} {Q = Behind (first.sector k)} {Base = Behind (first.sector k)} first.pulls j k (record {
        damage = inr refl;
        under_damage = inr refl;
        write = λ bytes may. absurd (unwritten bytes may);
        cut = λ bytes cell may. absurd (unwritten bytes may);
        sync = λ cell may is. is;
      }) ran
      (begins {P = Behind (first.sector k)} {Base = Behind (first.sector k)} k some (λ cell is. inl is) (inl (MayLeave-base (first.sector k)))))
    where
      unwritten : (bytes : List ℕ) → ¬ IsIssuing slots editions j (Write k bytes reply.Done)
      unwritten bytes (AWrite e l answer has among formed below is) = let same : k ≡ l = cc in omega (arith, from, below, same)
      unwritten bytes (ASync answer has is) = absurd (cc)

  in_place : (k : ℕ) → IsSome first.size → now.pulls ≡ first.pulls → InPlace (first.sector k) ((image j).cell k)
  in_place k some same =
      leaves {P = InPlace (first.sector k)} {Base = λ c. ⊤} k harm same
      (leaves_on {allowed = IsIssuing slots editions} {Q = InPlace (first.sector k)} {Base = λ c. ⊤} first.pulls j k (record {
        damage = harm;
        under_damage = tt;
        write = λ bytes may. record {
          was = content (first.sector k);
          may_be = content_left (first.sector k);
          comes = issuing.write k bytes may;
        };
        cut = λ bytes cell may under. record {
          was = content (first.sector k);
          may_be = content_left (first.sector k);
          comes = issuing.cut k bytes cell may;
        };
        sync = λ cell may is. tt;
      }) ran
      (begins {P = InPlace (first.sector k)} {Base = λ c. ⊤} k some (λ cell is. record { was = cell; may_be = is; comes = Stayed refl }) tt))
    where
      issuing : Places (IsIssuing slots editions) j (λ l. Comes (HasSlot slots) editions j (content (first.sector k)))
      issuing = issuing_places slots (HasSlot slots) editions j (λ l. content (first.sector k)) (λ has. has)

      harm : InPlace (first.sector k) Damaged
      harm = record { was = content (first.sector k); may_be = content_left (first.sector k); comes = Harmed refl }

  own : IsOwnOrBare first now
  own = own_issuing slots editions first j old h ran returned (own_first old j tidy)

  far_cell : (k : ℕ) → Behind (first.sector k) ((image j).cell k)
      → (c : Cell) × MayLeave (first.sector k) c × (((image j).cell k ≡ c) ⊎ ((image j).cell k ≡ Damaged))
  unfolding Behind
  far_cell k (inl is) = ((image j).cell k, is, inl refl)
  far_cell k (inr harmed) = (content (first.sector k), content_left (first.sector k), inr harmed)

  -- what it was
  came : SlotCame slots editions j first (image j)
  came = by own
    where
      by : IsOwnOrBare first now → SlotCame slots editions j first (image j)
      by (Bare off bare) =
          let none : (k : ℕ) → (image j).cell k ≡ Damaged =
          λ k. settled_left Damaged ((image j).cell k) (subst (λ s. MayLeave s ((image j).cell k)) (bare k) ((left j).each k)) in
          record {
            was = record { size = first.size; cell = λ k. content (first.sector k); removed = first.removed };
            left = record { size = refl; each = λ k. content_left (first.sector k); removed = refl };
            issued = at_size (image j).size refl none;
          }
        where
          at_size : (size : Option ℕ) → (image j).size ≡ size → ((k : ℕ) → (image j).cell k ≡ Damaged)
              → IsIssuedTo slots editions j (record { size = first.size; cell = λ k. content (first.sector k); removed = first.removed }) (image j)
          at_size None is none = Less (Taken is none)
          at_size (Some size) is none = Less (Blank size is none)
      by (Own some same here) =
          let size : now.size ≡ first.size =
          elim (size_on {allowed = IsIssuing slots editions} first.pulls first.size j some ran (HasSize.Same refl refl)) [
            | HasSize.Same pulls is ↦ is
            | HasSize.Other less ↦ absurd (omega (arith, same, less))
          ] in
          record {
            was = record { size = first.size; cell = λ k. (cell_was some same k).0; removed = first.removed };
            left = record { size = refl; each = λ k. (cell_was some same k).1; removed = refl };
            issued =
                Rewritten ((left j).size ∙ size) (λ k lt. (cell_was some same k).2 lt) (λ k from. (cell_was some same k).3 from);
          }
        where
          cell_was : IsSome first.size → now.pulls ≡ first.pulls → (k : ℕ)
              → (c : Cell) × MayLeave (first.sector k) c × (k < 2 → Comes (HasSlot slots) editions j c ((image j).cell k))
              × (gate_sector ≤ k → ((image j).cell k ≡ c) ⊎ ((image j).cell k ≡ Damaged))
          cell_was some same k =
              elim (cases_lt k 2) [
                | inl lt ↦
                    let at = in_place k some same in
                    (at.was, at.may_be, (λ within. at.comes), (λ from. absurd (omega (arith, lt, from))))
                | inr past ↦
                    let at = far_cell k (behind k past some same) in
                    (at.0, at.1, (λ within. absurd (omega (arith, past, within))), (λ from. at.2))
              ]

-- AN IMAGE

-- copies of copies
pub copied_again : {was is less : Cell} → (is ≡ was) ⊎ (is ≡ Damaged) → (less ≡ is) ⊎ (less ≡ Damaged) → (less ≡ was) ⊎ (less ≡ Damaged)
copied_again before (inr harmed) = inr harmed
copied_again (inl before) (inl same) = inl (same ∙ before)
copied_again (inr harmed) (inl same) = inr (same ∙ harmed)

-- one that a crash might have left, and that this one comes from
pub record Came (slots : Slots) (editions : List Edition) (old : List Happening) (image : Image) : Type 0 where
  pub was : Image
  pub left : CrashMayLeave old was
  pub issued : (j : ℕ) → IsIssuedTo slots editions j (was j) (image j)

pub came_from : (slots : Slots) (editions : List Edition) (old h : List Happening) → IsTidy old → Ran (IsIssuing slots editions) old h
    → NothingReturned old h → (image : Image) → CrashMayLeave h image → Came slots editions old image
came_from slots editions old h tidy ran returned image left = record {
  was = λ j. (came slots editions old h tidy ran returned image left j).was;
  left = λ j. (came slots editions old h tidy ran returned image left j).left;
  issued = λ j. (came slots editions old h tidy ran returned image left j).issued;
}

-- after the places each cell is as it was, or damaged
pub came_behind : (slots : Slots) (editions : List Edition) (j : ℕ) (was is : SlotImage) → IsIssuedTo slots editions j was is
    → (k : ℕ) → gate_sector ≤ k → (is.cell k ≡ was.cell k) ⊎ (is.cell k ≡ Damaged)
came_behind slots editions j was is (Less less) k past = degraded_copies less k
came_behind slots editions j was is (Rewritten size places far) k past = far k past

-- OF A FENCE

-- A crash leaves this image, whose superblocks are in order, at a moment of a fence that began so, when no medium had come back.
pub record IsLeftBy (gone : Slots) (m last : Membership) (old h new : List Happening) (image : Image) : Type 0 where
  pub begun : IsBegun None m old
  pub issued : Issued Fence gone m last old new
  pub at : IsMoment old h new
  pub returned : NothingReturned old h
  pub left : CrashMayLeave h image
  pub orderly : IsOrderly m.array.geometry image

pub left_by : {gone : Slots} {m last : Membership} {old h new : List Happening} {image : Image} → IsFencing Fence gone m last old h new
    → CrashMayLeave h image → IsLeftBy gone m last old h new image
left_by {gone} {m} {last} {old} {h} {new} {image} f left = record {
  begun = f.begun;
  issued = f.issued;
  at = f.moment;
  returned = f.returned;
  left = left;
  orderly = orderly Fence gone m last old h new image f left;
}

module _ {gone : Slots} {m last : Membership} {old h new : List Happening} {image : Image} (w : IsLeftBy gone m last old h new image) where
  -- what was called by then
  pub fence_ran : Ran (IsIssuing w.issued.slots w.issued.editions) old h
  fence_ran = ran_before {allowed = IsIssuing w.issued.slots w.issued.editions} w.issued.ran w.at

  -- the image that it comes from
  pub origin : Came w.issued.slots w.issued.editions old image
  origin = came_from w.issued.slots w.issued.editions old h (history_tidy w.begun.history) fence_ran w.returned image w.left
