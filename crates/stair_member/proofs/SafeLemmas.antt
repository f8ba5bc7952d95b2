-- What a slot has at every moment of a call: its superblock of before, or one of the call.
use Rattle.std.proofs.Common.{◌≡◌, ℕ, ◌+◌, ◌-◌, ◌<◌, ◌≤◌, false, List, [], ◌⊎◌, inl, inr, refl, sym, ap, ◌∙◌, subst, arith}
use Rattle.std.specs.Prelude.{IsSome, Contains}
use Rattle.std.proofs.lemmas.Bool.{false≢true}
use Rattle.stair_model.specs.Slots.{Slots, HasSlot}
use Rattle.stair_rack.specs.Answers.{Ran}
use Rattle.stair_rack.specs.History.{Happening, Write, slot_state}
use Rattle.stair_rack.specs.Offline.{ButForOutside, IsKept}
use Rattle.stair_rack.specs.Sector.{Cell, Damaged, Sector}
use Rattle.stair_rack.specs.declared.rack.Reply.TheVariants as reply
use Rattle.stair_rack.proofs.KeptLemmas.{IsKept-mapped, IsKept-now, keeps_sector}
use Rattle.stair_rack.proofs.StepLemmas.{kept}
use Rattle.stair_super.specs.Superblock.{IsSuperblock}
use Rattle.stair_member.specs.Editions.{Edition, copy_of}
use Rattle.stair_member.specs.Epochs.{AsWas, Given, HasGot, IsOnDisk, IsStanding}
use Rattle.stair_member.specs.HandSteps.{IsGiving, IsUnsynced, Syncs, Writes}
use Rattle.stair_member.specs.Membership.{Membership, place_of}

-- ---- the newest superblock of a slot

-- But for the outside, the place of slot j that isn't next holds one of these editions: with at least this draw, and of at
-- least this epoch.
pub record HasNewest (m : Membership) (draw epoch : ℕ) (editions : List Edition) (old h : List Happening) (j : ℕ) : Type 0 where
  pub edition : Edition
  pub among : Contains editions edition
  pub formed : IsSuperblock (copy_of edition j)
  pub draws : draw ≤ edition.draw
  pub reaches : epoch ≤ edition.array.epoch
  pub on_disk : IsOnDisk old h j (1 - place_of m j) (copy_of edition j)

-- the slot, one of these, got it in the call
pub record GotNewest (slots : Slots) (m : Membership) (draw epoch : ℕ) (editions : List Edition) (old h : List Happening) (j : ℕ)
    : Type 0 where
  pub slot : HasSlot slots j
  pub newest : HasNewest m draw epoch editions old h j
  pub got : HasGot old h j (1 - place_of m j) (copy_of newest.edition j)

-- of a member whose next place of the slot is the same
pub newest_like : (m m' : Membership) (draw epoch : ℕ) (editions : List Edition) (old h : List Happening) (j : ℕ) → place_of m' j ≡ place_of m j
    → HasNewest m draw epoch editions old h j → HasNewest m' draw epoch editions old h j
newest_like m m' draw epoch editions old h j same newest = record {
  edition = newest.edition;
  among = newest.among;
  formed = newest.formed;
  draws = newest.draws;
  reaches = newest.reaches;
  on_disk = subst (λ k. IsOnDisk old h j (1 - k) (copy_of newest.edition j)) (sym same) newest.on_disk;
}

pub got_newest_like : (slots : Slots) (m m' : Membership) (draw epoch : ℕ) (editions : List Edition) (old h : List Happening) (j : ℕ)
    → place_of m' j ≡ place_of m j → GotNewest slots m draw epoch editions old h j → GotNewest slots m' draw epoch editions old h j
got_newest_like slots m m' draw epoch editions old h j same n = record {
  slot = n.slot;
  newest = record {
    edition = n.newest.edition;
    among = n.newest.among;
    formed = n.newest.formed;
    draws = n.newest.draws;
    reaches = n.newest.reaches;
    on_disk = subst (λ k. IsOnDisk old h j (1 - k) (copy_of n.newest.edition j)) (sym same) n.newest.on_disk;
  };
  got = subst (λ k. HasGot old h j (1 - k) (copy_of n.newest.edition j)) (sym same) n.got;
}

-- ---- a slot that has a superblock

-- the sector was last synced as this cell, or is damaged
abbrev pub IsBased : Cell → Sector → Type 0
IsBased cell s = (s.base ≡ cell) ⊎ (s.base ≡ Damaged)

-- The call hasn't synced what it wrote to the slot, and the next place is still the same; or the slot has a superblock of the
-- call, with a new draw.
pub data IsSafe (m0 m : Membership) (editions : List Edition) (old h : List Happening) (j : ℕ) : Type 0 where
  Untouched : place_of m j ≡ place_of m0 j
      → ButForOutside old h j (1 - place_of m0 j) (λ s. s ≡ (slot_state old j).sector (1 - place_of m0 j))
      → ButForOutside old h j (place_of m0 j) (IsBased ((slot_state old j).sector (place_of m0 j)).base) → IsSafe m0 m editions old h j
  Renewed : HasNewest m (m0.drawn + 1) m0.array.epoch editions old h j → IsSafe m0 m editions old h j

pub safe_first : (m0 : Membership) (h : List Happening) (j : ℕ) → IsSome (slot_state h j).size → IsSafe m0 m0 [] h h j
safe_first m0 h j some =
    Untouched refl (IsKept-now h j (1 - place_of m0 j) some)
    (IsKept-mapped {P = λ s. s ≡ (slot_state h j).sector (place_of m0 j)} {Q = IsBased ((slot_state h j).sector (place_of m0 j)).base}
    (λ s is. inl (ap (λ (x : Sector). x.base) is)) (IsKept-now h j (place_of m0 j) some))

pub safe_like : (m0 m m' : Membership) (editions : List Edition) (old h : List Happening) (j : ℕ) → place_of m' j ≡ place_of m j
    → IsSafe m0 m editions old h j → IsSafe m0 m' editions old h j
safe_like m0 m m' editions old h j same (Untouched at other next) = Untouched (same ∙ at) other next
safe_like m0 m m' editions old h j same (Renewed newest) = Renewed (newest_like m m' (m0.drawn + 1) m0.array.epoch editions old h j same newest)

-- at every moment
abbrev pub AreStanding : Membership → List Edition → List Happening → List Happening → Type 0
AreStanding m0 editions old h = (j : ℕ) → j < 32 → IsSome (slot_state old j).size → IsStanding m0 editions old h j

pub standing_wider : (m0 : Membership) (editions more : List Edition) (old h : List Happening) (j : ℕ)
    → ((e : Edition) → Contains editions e → Contains more e) → IsStanding m0 editions old h j → IsStanding m0 more old h j
standing_wider m0 editions more old h j within (AsWas other next) = AsWas other next
standing_wider m0 editions more old h j within (Given has) = Given (record {
  edition = has.edition;
  among = within has.edition has.among;
  formed = has.formed;
  draws = has.draws;
  reaches = has.reaches;
  place = has.place;
  place_in = has.place_in;
  on_disk = has.on_disk;
})

-- ---- while the slot isn't synced

module _ (m : Membership) (j pulls : ℕ) (small : place_of m j < 2) (h x : List Happening) (ran : Ran (IsUnsynced m j) h x) where
  spared : (bytes : List ℕ) → ¬ IsGiving m false j (Write (1 - place_of m j) bytes reply.Done)
  spared bytes (Writes k answer (inl at) same) = let is_same : 1 - place_of m j ≡ k = cc in omega (arith, is_same, at, small)
  spared bytes (Writes k answer (inr both) same) = false≢true both.0
  spared bytes (Syncs answer same) = absurd (cc)

  pub other_kept : (sector : Sector) → IsKept pulls (1 - place_of m j) (λ s. s ≡ sector) (slot_state h j)
      → IsKept pulls (1 - place_of m j) (λ s. s ≡ sector) (slot_state x j)
  other_kept sector start =
      kept {allowed = IsUnsynced m j} {P = λ y. IsKept pulls (1 - place_of m j) (λ s. s ≡ sector) (slot_state y j)}
      (keeps_sector {allowed = IsUnsynced m j} {j = j} {k = 1 - place_of m j} {P = λ s. s ≡ sector} pulls (record {
        write = λ bytes s may before. absurd (spared bytes (may refl).0);
        sync = λ s may before. absurd ((may refl).1 refl);
      })) ran start

  pub next_kept : (cell : Cell) → IsKept pulls (place_of m j) (IsBased cell) (slot_state h j) → IsKept pulls (place_of m j) (IsBased cell) (slot_state x j)
  next_kept cell start =
      kept {allowed = IsUnsynced m j} {P = λ y. IsKept pulls (place_of m j) (IsBased cell) (slot_state y j)}
      (keeps_sector {allowed = IsUnsynced m j} {j = j} {k = place_of m j} {P = IsBased cell} pulls (record {
        write = λ bytes s may before. elim before [ inl is ↦ inr (ap (λ (y : Sector). y.base) is) | inr based ↦ based ];
        sync = λ s may before. absurd ((may refl).1 refl);
      })) ran start
