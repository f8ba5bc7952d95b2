-- While no superblock place is written the superblocks of media stay as they were, wherever they lie, whichever slots are attached.
use Rattle.std.proofs.Common.{◌≡◌, ℕ, ◌<◌, List, ◌⊎◌, inl, inr, refl, sym, ap, ◌∙◌, subst, arith, Some, ◌≤◌, slice_get, []}
use Rattle.stair_model.specs.Geometry.{Geometry}
use Rattle.stair_rack.specs.Answers.{Ran}
use Rattle.stair_rack.specs.Crash.{CrashMayLeave, SlotMayLeave, image_now}
use Rattle.stair_rack.specs.History.{Attach, Happening, Read, Sectors, SlotCall, SlotState, Sync, Write, after_call, slot_state}
use Rattle.stair_rack.specs.Media.{Image, Medium, SlotImage}
use Rattle.stair_rack.specs.Sector.{Cell, Damaged, MayLeave, content, wrote}
use Rattle.stair_rack.proofs.CrashLemmas.{nothing_unsynced, settled_left}
use Rattle.stair_rack.proofs.MomentLemmas.{ran_weakened}
use Rattle.stair_rack.proofs.StepLemmas.{keeps_slot, kept}
use Rattle.stair_rack.proofs.KeptLemmas.{with_sector_cases}
use Rattle.stair_state.proofs.OutsideLemmas.{IsSettled, settled_act}
use Rattle.stair_rack.specs.declared.rack.Reply.TheVariants as reply
use Rattle.stair_super.specs.Superblock.{Superblock}
use Rattle.stair_member.specs.Current.{ByOutside, IsLost}
use Rattle.stair_member.specs.Superblocks.{HoldsSuper, IsSuperOf}
use Rattle.stair_member.proofs.SuperLemmas.{super_cells}
use Rattle.stair_state.specs.Reassembly.{InSlot, IsBorne, IsMediumOf, Location, Outside}
use Rattle.stair_state.specs.Represents.{AreSteady}
use Rattle.stair_state.proofs.FormLemmas.{good_whole}
use Rattle.stair_invariant.specs.InSession.{IsBehindPlaces}
use Rattle.stair_reinsert.specs.Following.{name_of}
use Rattle.stair_reinsert.proofs.BesideMedia.{HasCellsBut, WritesWithin, CellsOf, NoCells, cells_wherever}
use Rattle.stair_reinsert.proofs.BorneSince.{WasSuper}

-- THE PLACES OF A MEDIUM

-- They are those that the slot's medium of this name had at `old`, and it is as large; some may be damaged since. Or none can be read.
pub data HasPlacesOf (old : List Happening) (j : ℕ) (name : Location) (size : ℕ) (cell : ℕ → Cell) : Type 0 where
  OfFirst : (place : Location) (medium : Medium) → IsMediumOf (image_now old j) place medium → name_of old j place ≡ name → medium.size ≡ size
      → ((k : ℕ) → k < 2 → (cell k ≡ medium.cell k) ⊎ (cell k ≡ Damaged)) → HasPlacesOf old j name size cell
  NoneLeft : ((k : ℕ) → k < 2 → cell k ≡ Damaged) → HasPlacesOf old j name size cell

-- a call that writes after the places writes no place
behind_within : (j i : ℕ) (c : SlotCall) → IsBehindPlaces i c → WritesWithin j (λ k. 2 ≤ k) i c
behind_within j i (Attach answer) may = tt
behind_within j i (Sectors size) may = tt
behind_within j i (Read k answer) may = tt
behind_within j i (Write k bytes answer) may = λ same. may
behind_within j i (Sync answer) may = tt

module _ (g : Geometry) (old h : List Happening) (steady : AreSteady g old) (behind : Ran IsBehindPlaces old h) (j : ℕ) (below : j < g.n) where
  first_left : (k : ℕ) → k < 2 → (image : SlotImage) → SlotMayLeave (slot_state old j) image → image.cell k ≡ (image_now old j).cell k
  first_left k small image left =
      let settles = nothing_unsynced ((slot_state old j).sector k) (steady j k below small) in
      settled_left ((slot_state old j).sector k).base (image.cell k) (subst (λ s. MayLeave s (image.cell k)) settles (left.each k))
      ∙ sym (ap content settles)

  pub places_wherever : (image : Image) → CrashMayLeave h image → (p : Location) (medium : Medium) → IsMediumOf (image j) p medium
      → HasPlacesOf old j (name_of h j p) medium.size medium.cell
  places_wherever image left p medium is =
      by
      (cells_wherever old h j (λ k. 2 ≤ k)
      (ran_weakened {allowed = IsBehindPlaces} {more = WritesWithin j (λ k. 2 ≤ k)} (behind_within j) behind) image left p medium is)
    where
      by : HasCellsBut old j (λ k. 2 ≤ k) (name_of h j p) medium.size medium.cell → HasPlacesOf old j (name_of h j p) medium.size medium.cell
      by (CellsOf was InSlot first may at named sized cells) =
          OfFirst InSlot (record { size = first.size; cell = (image_now old j).cell }) (sym may.size ∙ at.0, refl) named sized
          (λ k small.
          subst (λ (c : Cell). (medium.cell k ≡ c) ⊎ (medium.cell k ≡ Damaged))
          (sym (ap (λ (cell : ℕ → Cell). cell k) at.1) ∙ first_left k small was may) (cells k (λ least. omega (arith, least, small))))
      by (CellsOf was (Outside i) first may at named sized cells) =
          OfFirst (Outside i) first (subst (λ (xs : List Medium). slice_get xs i ≡ Some first) may.removed at) named sized
          (λ k small. cells k (λ least. omega (arith, least, small)))
      by (NoCells all) = NoneLeft (λ k small. all k (λ least. omega (arith, least, small)))

  -- WHAT IT BEARS

  -- it bore it at first, by the same name
  pub record WasBorneSo (name : Location) (s : Superblock) : Type 0 where
    pub place : Location
    pub named : name_of old j place ≡ name
    pub borne : IsBorne g (image_now old) j place s

  pub borne_so : (image : Image) → CrashMayLeave h image → (p : Location) (s : Superblock) → IsBorne g image j p s → WasBorneSo (name_of h j p) s
  borne_so image left p s borne = by (places_wherever image left p borne.medium borne.is_one)
    where
      k : ℕ
      k = borne.bears.place

      by : HasPlacesOf old j (name_of h j p) borne.medium.size borne.medium.cell → WasBorneSo (name_of h j p) s
      by (NoneLeft all) = absurd (good_whole borne.bears.holds.good (all k borne.bears.place_in))
      by (OfFirst place medium at named sized cells) =
          elim (cells k borne.bears.place_in) [
            | inr harmed ↦ absurd (good_whole borne.bears.holds.good harmed)
            | inl same ↦ record {
              place = place;
              named = named;
              borne = record {
                medium = medium;
                is_one = at;
                bears = record {
                  place = k;
                  place_in = borne.bears.place_in;
                  holds = subst (λ (c : Cell). HoldsSuper c s) same borne.bears.holds;
                  slot = borne.bears.slot;
                  identity = borne.bears.identity;
                };
              };
            }
          ]

  -- and had its superblock, where neither place of it is lost
  pub super_so : (image : Image) → CrashMayLeave h image → (p : Location) (medium : Medium) (s : Superblock) → IsMediumOf (image j) p medium
      → IsSuperOf medium.cell s → ¬ IsLost (medium.cell 0) → ¬ IsLost (medium.cell 1)
      → (place : Location) × (name_of old j place ≡ name_of h j p) × WasSuper old j place s
  super_so image left p medium s is super first second = by (places_wherever image left p medium is)
    where
      whole : (k : ℕ) (was : Cell) → ¬ IsLost (medium.cell k) → (medium.cell k ≡ was) ⊎ (medium.cell k ≡ Damaged) → medium.cell k ≡ was
      whole k was kept either = elim either [ inl same ↦ same | inr harmed ↦ absurd (kept (ByOutside harmed)) ]

      by : HasPlacesOf old j (name_of h j p) medium.size medium.cell
          → (place : Location) × (name_of old j place ≡ name_of h j p) × WasSuper old j place s
      by (NoneLeft all) = absurd (first (ByOutside (all 0 (omega arith))))
      by (OfFirst place was at named sized cells) =
          let zeroth : medium.cell 0 ≡ was.cell 0 = whole 0 (was.cell 0) first (cells 0 (omega arith)) in
          let one : medium.cell 1 ≡ was.cell 1 = whole 1 (was.cell 1) second (cells 1 (omega arith)) in (
            place,
            named,
            record {
              medium = was;
              is_one = at;
              super = super_cells medium.cell was.cell s zeroth one super;
              first = subst (λ (c : Cell). ¬ IsLost c) zeroth first;
              second = subst (λ (c : Cell). ¬ IsLost c) one second;
            },
          )

-- nor is anything unsynced in them then
pub steady_behind : (g : Geometry) (old h : List Happening) → AreSteady g old → Ran IsBehindPlaces old h → AreSteady g h
steady_behind g old h steady behind j k below small =
    kept {allowed = IsBehindPlaces} {P = λ y. IsSettled k (slot_state y j)}
    (keeps_slot {allowed = IsBehindPlaces} {j = j} {R = IsSettled k} (record {
      act = settled_act k;
      call = λ y c may is before. by (slot_state y j) c may before;
    })) behind (steady j k below small)
  where
    by : (b : SlotState) (c : SlotCall) → IsBehindPlaces j c → IsSettled k b → IsSettled k (after_call c b)
    by b (Attach reply.Done) may is = is
    by b (Attach reply.Gone) may is = is
    by b (Sectors size) may is = is
    by b (Read l answer) may is = is
    by b (Write l bytes reply.Done) may is =
        with_sector_cases (λ s. s.since ≡ []) l k (wrote bytes (b.sector l)) b (λ at. absurd (omega (arith, at, may, small))) is
    by b (Write l bytes reply.Gone) may is = is
    by b (Sync reply.Done) may is = refl
    by b (Sync reply.Gone) may is = is
