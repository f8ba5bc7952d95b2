-- What superblocks of an image say, through acts and calls, where the calls write only such as say it.
use Rattle.std.proofs.Common.{refl, ◌≡◌, ◌<◌, ℕ, List, ◌∷◌, subst}
use Rattle.std.proofs.lemmas.List.Elements.{All-contains, All-contains_itself, All-weaker}
use Rattle.std.specs.Prelude.{All, Contains}
use Rattle.stair_model.specs.Geometry.{Geometry}
use Rattle.stair_rack.specs.Answers.{Ran}
use Rattle.stair_rack.specs.Crash.{EachImage, image_now}
use Rattle.stair_rack.specs.EachMedium.{EachMedium}
use Rattle.stair_rack.specs.History.{Acted, Attach, Called, Happening, InsertedBlank, InsertedOld, Made, Pulled, Read, SectorDamaged, Sectors, SlotAct, SlotCall, SlotState, Stopped, Sync, Write, after_act, after_call, slot_state}
use Rattle.stair_rack.specs.Media.{Image, Medium}
use Rattle.stair_rack.specs.Moments.{IsMoment}
use Rattle.stair_rack.specs.Outside.{IsAct}
use Rattle.stair_rack.specs.Sector.{Cell, Damaged, Good, MayLeave, Torn, TornOverDamage, content, damaged, torn, wrote}
use Rattle.stair_rack.specs.Stretch.{NothingReturned, ReturnsNothing}
use Rattle.stair_rack.specs.declared.rack.Reply.TheVariants as reply
use Rattle.stair_rack.proofs.CrashLemmas.{CrashMayLeave-now, MayLeave-base, in_each_image}
use Rattle.stair_rack.proofs.MediumLemmas.{MediumKeeps, media_left, media_throughout}
use Rattle.stair_rack.proofs.KeptLemmas.{with_sector_cases}
use Rattle.stair_rack.proofs.MomentLemmas.{at_last, at_moment}
use Rattle.stair_rack.proofs.StepLemmas.{slot_act_cases, slot_call_cases}
use Rattle.stair_rack.proofs.StretchLemmas.{kept_where}
use Rattle.stair_super.specs.Superblock.{Superblock}
use Rattle.stair_member.specs.Superblocks.{HoldsSuper}
use Rattle.stair_member.proofs.SuperLemmas.{holds_once}
use Rattle.stair_command.specs.LeftOut.{HasSuperblock, InSlot, MayHave, NamesLive, Outside}

-- ---- calls that name a slot

-- The superblock is one of this array for slot i. It marks slot j Live, with this joined number, and has a draw above this one.
pub record IsNew (g : Geometry) (j joined drawn i : ℕ) (s : Superblock) : Type 0 where
  pub slot : s.slot ≡ i
  pub identity : s.array.geometry ≡ g
  pub names : NamesLive j joined s
  pub above : drawn < s.draw

pub record HasNew (g : Geometry) (j joined drawn i : ℕ) (cell : Cell) : Type 0 where
  pub super : Superblock
  pub holds : HoldsSuper cell super
  pub is_new : IsNew g j joined drawn i super

-- a call that writes to a superblock place only such a one
abbrev pub IsNaming : Geometry → (j joined drawn i : ℕ) → SlotCall → Type 0
IsNaming g j joined drawn i (Write k bytes answer) = k < 2 → HasNew g j joined drawn i (Good bytes)
IsNaming g j joined drawn i _ = Unit {0}

-- what a superblock place of slot i holds that held `was`
pub data PlaceComes (g : Geometry) (j joined drawn i : ℕ) (was cell : Cell) : Type 0 where
  Stayed : cell ≡ was → PlaceComes g j joined drawn i was cell
  Harmed : cell ≡ Damaged → PlaceComes g j joined drawn i was cell
  Wrote : HasNew g j joined drawn i cell → PlaceComes g j joined drawn i was cell

module _ (g : Geometry) (j joined drawn i k : ℕ) (place : k < 2) (was : Cell) where
  abbrev Is : SlotState → Type 0
  Is b = PlaceComes g j joined drawn i was (content (b.sector k))

  is_act : (h : List Happening) (n : ℕ) (b : SlotState) (a : SlotAct) → ReturnsNothing h (Acted n a) → Is b → Is (after_act a b)
  is_act h n b (Pulled m) none is = Harmed refl
  is_act h n b (InsertedBlank size) none is = Harmed refl
  is_act h n b (InsertedOld l) none is = absurd none
  is_act h n b (SectorDamaged l) none is =
      with_sector_cases (λ s. PlaceComes g j joined drawn i was (content s)) l k damaged b (λ at. Harmed refl) is

  is_call : (b : SlotState) (c : SlotCall) → IsNaming g j joined drawn i c → Is b → Is (after_call c b)
  is_call b (Attach reply.Done) may is = is
  is_call b (Attach reply.Gone) may is = is
  is_call b (Sectors size) may is = is
  is_call b (Read l answer) may is = is
  is_call b (Write l bytes reply.Done) may is =
      with_sector_cases (λ s. PlaceComes g j joined drawn i was (content s)) l k (wrote bytes (b.sector l)) b
      (λ at. Wrote (may (subst (λ n. n < 2) at place))) is
  is_call b (Write l bytes reply.Gone) may is = is
  is_call b (Sync reply.Done) may is = is
  is_call b (Sync reply.Gone) may is = is

  on_act : (h : List Happening) (e : Happening) → IsAct h e → ReturnsNothing h e → Is (slot_state h i) → Is (slot_state (e ∷ h) i)
  on_act h (Made image) may none is = absurd may
  on_act h Stopped may none is = is
  on_act h (Acted n a) may none is = slot_act_cases Is h n i a (λ same. is_act h n (slot_state h i) a none is) is
  on_act h (Called n c) may none is = absurd may

-- over calls that name the slot
pub place_comes : (g : Geometry) (j joined drawn i k : ℕ) {old new : List Happening} → k < 2 → Ran (IsNaming g j joined drawn) old new
    → NothingReturned old new → PlaceComes g j joined drawn i ((image_now old i).cell k) ((image_now new i).cell k)
place_comes g j joined drawn i k {old} {new} place ran none =
    at_last {P = λ h. Is g j joined drawn i k place ((image_now old i).cell k) (slot_state h i)}
    (kept_where {P = ReturnsNothing} {allowed = IsNaming g j joined drawn}
    {R = λ h. Is g j joined drawn i k place ((image_now old i).cell k) (slot_state h i)} (record {
      act = λ h e may returns is. on_act g j joined drawn i k place ((image_now old i).cell k) h e may returns is;
      call = λ h n c may answered returns is.
          slot_call_cases (Is g j joined drawn i k place ((image_now old i).cell k)) h n i c
          (λ same.
          is_call g j joined drawn i k place ((image_now old i).cell k) (slot_state h i) c (subst (λ m. IsNaming g j joined drawn m c) same may) is)
          is;
    }) ran none (Stayed refl))

-- ---- what superblocks say

module _ (g : Geometry) (P : Superblock → Type 0) where
  -- a superblock of the array that the cell holds is so
  abbrev pub Says : Cell → Type 0
  Says cell = (s : Superblock) → HoldsSuper cell s → s.array.geometry ≡ g → P s

  -- a call that writes to a superblock place only what is so
  abbrev pub IsSaying : ℕ → SlotCall → Type 0
  IsSaying j (Write k bytes answer) = k < 2 → Says (Good bytes)
  IsSaying j _ = Unit {0}

  -- as one that names a slot, where what names it is so
  pub says_naming : (j joined drawn : ℕ) → ((s : Superblock) → NamesLive j joined s → P s) → (i : ℕ) (call : SlotCall) → IsNaming g j joined drawn i call
      → IsSaying i call
  says_naming j joined drawn names i (Write k bytes answer) may = λ place s holds same.
      let new = may place in
      subst P (holds_once (Good bytes) new.super s new.holds holds) (names new.super new.is_new.names)
  says_naming j joined drawn names i (Attach answer) may = tt
  says_naming j joined drawn names i (Sectors size) may = tt
  says_naming j joined drawn names i (Read k answer) may = tt
  says_naming j joined drawn names i (Sync answer) may = tt

  abbrev IsIn : ℕ → Cell → Type 0
  IsIn k cell = k < 2 → Says cell

  -- a cell that can't be read holds no superblock
  none_damaged : Says Damaged
  none_damaged s holds same = absurd (let good = holds.good in cc)

  none_torn : (cell : Cell) → Says (torn cell)
  none_torn (Good bytes) s holds same = absurd (let good = holds.good in cc)
  none_torn Damaged s holds same = absurd (let good = holds.good in cc)
  none_torn Torn s holds same = absurd (let good = holds.good in cc)
  none_torn TornOverDamage s holds same = absurd (let good = holds.good in cc)

  keeps_places : (j : ℕ) → MediumKeeps IsSaying j IsIn IsIn
  keeps_places j k = record {
    damage = λ place. none_damaged;
    under_damage = λ place. none_damaged;
    write = λ bytes may place. may place;
    cut = λ bytes cell may under place. none_torn cell;
    sync = λ cell may holds. holds;
  }

  -- ---- images, and sectors

  -- each superblock of the image is so
  record AllSay (image : Image) : Type 0 where
    in_slots : (j k : ℕ) → k < 2 → Says ((image j).cell k)
    outside : (j : ℕ) → All (λ (medium : Medium). (k : ℕ) → k < 2 → Says (medium.cell k)) (image j).removed

  abbrev MediaIn : List Happening → ℕ → Type 0
  MediaIn h j = EachMedium IsIn IsIn (slot_state h j)

  media_of : (h : List Happening) → EachImage AllSay h → (j : ℕ) → MediaIn h j
  media_of h says j = record {
    inside = λ k.
        let each : (cell : Cell) → MayLeave ((slot_state h j).sector k) cell → IsIn k cell =
        in_each_image h j k (IsIn k) (λ image left place. (says image left).in_slots j k place) in
        record { each = each; base = each ((slot_state h j).sector k).base (MayLeave-base ((slot_state h j).sector k)) };
    removed = (says (image_now h) (CrashMayLeave-now h)).outside j;
  }

  said_by : (h : List Happening) → ((j : ℕ) → MediaIn h j) → EachImage AllSay h
  said_by h media image left = record {
    in_slots = λ j k place. (media_left h image j left (media j)).0 k place;
    outside = λ j. (media_left h image j left (media j)).1;
  }

  -- of the superblocks that a crash may leave
  all_said : (h : List Happening) → ((s : Superblock) → MayHave g h s → P s) → EachImage AllSay h
  all_said h each image left = record {
    in_slots = λ j k place s holds same. each s (record { image = image; left = left; has = InSlot j k place holds same });
    outside = λ j.
        All-weaker (Contains (image j).removed) (λ (medium : Medium). (k : ℕ) → k < 2 → Says (medium.cell k))
        (λ medium among k place s holds same. each s (record { image = image; left = left; has = Outside j k medium among place holds same }))
        (image j).removed (All-contains_itself (image j).removed);
  }

  said : (image : Image) (s : Superblock) → AllSay image → HasSuperblock g image s → P s
  said image s says (InSlot j k place holds same) = says.in_slots j k place s holds same
  said image s says (Outside j k medium among place holds same) =
      All-contains (λ (medium : Medium). (k : ℕ) → k < 2 → Says (medium.cell k)) (image j).removed medium (says.outside j) among k place s holds same

  -- calls that write only such leave it so
  pub stays_said : {old new : List Happening} → Ran IsSaying old new → ((s : Superblock) → MayHave g old s → P s) → (h : List Happening)
      (s : Superblock) → IsMoment old h new → MayHave g h s → P s
  stays_said {old} {new} ran first h s at may =
      said may.image s
      (said_by h
      (λ j.
      at_moment {P = λ (h : List Happening). MediaIn h j}
      (media_throughout {allowed = IsSaying} {j = j} {Q = IsIn} {Base = IsIn} (keeps_places j) (λ k cell holds. holds) ran
      (media_of old (all_said old first) j)) at) may.image may.left) may.has
