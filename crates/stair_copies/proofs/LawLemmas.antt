-- No device is an older copy that has reached the epoch, or was given a draw for it.
use Rattle.std.proofs.Common.{◌≡◌, ◌≢◌, ℕ, ◌+◌, ◌-◌, ◌<◌, ◌≤◌, false, inl, inr, refl, sym, ap, ◌∙◌, subst, arith, Option, None, Some, List}
use Rattle.std.specs.Prelude.{IsTrue, slice_index}
use Rattle.std.proofs.lemmas.Bool.{cases_lt, false≢true, ne_eqb}
use Rattle.stair_model.specs.Slots.{Slots}
use Rattle.stair_rack.specs.Crash.{CrashMayLeave, image_now}
use Rattle.stair_rack.specs.History.{Happening, Write, slot_state}
use Rattle.stair_rack.specs.Media.{Image}
use Rattle.stair_rack.specs.Moments.{IsMoment}
use Rattle.stair_rack.specs.Sector.{Cell, Good, Damaged, TornOverDamage}
use Rattle.stair_rack.specs.RackState.{RackState}
use Rattle.stair_rack.specs.declared.rack.Reply.TheVariants as reply
use Rattle.stair_rack.proofs.MomentLemmas.{ran_before}
use Rattle.stair_rack.proofs.StandingLemmas.{standing_on}
use Rattle.stair_super.specs.Spelling.{spelled}
use Rattle.stair_super.specs.Superblock.{IsSuperblock}
use Rattle.stair_super.specs.declared.configuration.Configuration.{Configuration}
use Rattle.stair_member.specs.Aims.{admitted}
use Rattle.stair_member.specs.ChangesSteps.{IsLiveSlot, issue, with_draw}
use Rattle.stair_member.specs.Current.{ByOutside, IsLost, Worn}
use Rattle.stair_member.specs.Editions.{edition_of}
use Rattle.stair_member.specs.Epochs.{IsOnDisk}
use Rattle.stair_member.specs.Fencing.{HasStood, IsFencing}
use Rattle.stair_member.specs.HandSteps.{IsGiving, IsSpreading, Syncs, Writes, is_twice}
use Rattle.stair_member.specs.Membership.{IsHere, IsMembership, Membership, place_of, why_of}
use Rattle.stair_member.specs.Reserve.{HasReached}
use Rattle.stair_member.specs.RoundSteps.{BeganOut, DrewOut}
use Rattle.stair_member.specs.Superblocks.{Counts, HoldsSuper}
use Rattle.stair_member.specs.declared.aim.EpochChange.{EpochChange}
use Rattle.stair_member.proofs.AgainLemmas.{each_stood}
use Rattle.stair_member.proofs.ChangeLemmas.{up_here}
use Rattle.stair_member.proofs.EditionLemmas.{holds_copy}
use Rattle.stair_member.proofs.FencingLemmas.{on_disk}
use Rattle.stair_member.proofs.NewestLemmas.{super_no_older}
use Rattle.stair_member.proofs.OrderLemmas.{each_reached}
use Rattle.stair_member.proofs.RoundLemmas.{draw_rules}
use Rattle.stair_member.proofs.SuperLemmas.{super_formed}
use Rattle.stair_copies.specs.Copies.{IsOlderCopy}

good_kept : (cell : Cell) (bytes : List ℕ) → cell ≡ Good bytes → ¬ IsLost cell
good_kept cell bytes is (ByOutside lost) = let clash : Good bytes ≡ Damaged = sym is ∙ lost in cc
good_kept cell bytes is (Worn lost) = let clash : Good bytes ≡ TornOverDamage = sym is ∙ lost in cc

-- no place of an older copy is lost
places_kept : (array : Configuration) (j : ℕ) (cell : ℕ → Cell) → IsOlderCopy array j cell → (k : ℕ) → k < 2 → ¬ IsLost (cell k)
places_kept array j cell copy k below =
    elim (cases_lt k 1) [
      | inl first ↦ subst (λ (p : ℕ). ¬ IsLost (cell p)) (omega arith) (good_kept (cell 0) copy.first copy.holds.in_first)
      | inr second ↦ subst (λ (p : ℕ). ¬ IsLost (cell p)) (omega arith) (good_kept (cell 1) copy.second copy.holds.in_second)
    ]

pub reached : (array : Configuration) (image : Image) (j : ℕ) → HasReached array.geometry image array.epoch j
    → ¬ IsOlderCopy array j ((image j).cell)
reached array image j has copy =
    let counts : Counts array.geometry image j copy.super =
    record { super = copy.is_super; slot = copy.behind.meant.slot; identity = copy.behind.meant.identity } in
    let epoch : array.epoch ≤ copy.super.array.epoch =
    has copy.super counts (places_kept array j ((image j).cell) copy 0 (omega arith)) (places_kept array j ((image j).cell) copy 1 (omega arith)) in
    let drawn : copy.super.array.epoch ≤ copy.super.draw = (super_formed ((image j).cell) copy.super copy.is_super).rules.drawn in
    let older : copy.super.draw < array.epoch = copy.behind.older in
    omega arith

pub meanwhile : (aim : EpochChange) (gone : Slots) (m last : Membership) (old h new : List Happening) (image : Image) (j : ℕ)
    → IsFencing aim gone m last old h new → CrashMayLeave h image → admitted aim ≢ Some j
    → HasReached m.array.geometry (image_now old) m.array.epoch j → ¬ IsOlderCopy m.array j ((image j).cell)
meanwhile aim gone m last old h new image j fencing left other has =
    reached m.array image j (each_reached aim gone m last old h new image j m.array.epoch fencing left (omega arith) other has)

pub stood : (aim : EpochChange) (gone : Slots) (m last : Membership) (old new : List Happening) (image : Image) (j : ℕ)
    → HasStood aim gone m last old new → CrashMayLeave new image → IsHere last j → ¬ IsOlderCopy last.array j ((image j).cell)
stood aim gone m last old new image j has left here =
    reached last.array image j (each_stood aim gone m last old new image j has left here)

-- ---- after the draws

module _ (aim : EpochChange) (m mid last : Membership) (which : Option ℕ) (old between new : RackState) (h : List Happening) (image : Image) (j : ℕ)
    (drew : DrewOut m mid None old between) (began : BeganOut aim mid last which between new) (honest : IsTrue between.honest)
    (honest_new : IsTrue new.honest) (at : IsMoment between.history h new.history)
    (same : (slot_state h j).pulls ≡ (slot_state old.history j).pulls) (left : CrashMayLeave h image) (live : IsLiveSlot m j)
    (other : admitted aim ≢ Some j) where
  small : j < 32
  small =
      let most : m.array.geometry.n ≤ 32 = drew.was.array.limits.devices.1 in
      let below : j < m.array.geometry.n = live.below in
      omega arith

  place_small : place_of m j < 2
  place_small = drew.was.places j small

  not_twice : (joining : Option ℕ) → joining ≢ Some j → is_twice joining j ≡ false
  not_twice None not = refl
  not_twice (Some slot) not = ne_eqb slot j (λ same. not (ap (λ (x : ℕ). Some x) same))

  formed : IsSuperblock (issue (with_draw m) j)
  formed =
      let rules : IsMembership (with_draw m) = draw_rules m drew.was drew.room in
      let below : j < m.array.geometry.n = live.below in
      record {
        sizes = record {
          id = rules.sizes.id;
          draw = rules.sizes.drawn;
          marks = rules.sizes.marks;
          joins = rules.sizes.joins;
          label = rules.sizes.label;
        };
        rules = record {
          array = rules.array;
          slot_in = below;
          drawn = rules.known;
          here = up_here (why_of m j) _ (rules.marked j below) (inl live.why);
          own = refl;
        };
      }

  -- the place that has the draw isn't the next one
  turned : place_of began.begun j ≡ 1 - place_of m j
  turned =
      let on = (drew.lives j).1 live in
      let of_mid : place_of mid j ≡ 1 - place_of m j = drew.places.done j small on in
      let of_begun : place_of began.begun j ≡ place_of mid j = ap (λ (p : List ℕ). slice_index p j) began.begins.places in
      of_begun ∙ of_mid

  spared : (bytes : List ℕ) → ¬ IsSpreading began.begun began.here (admitted aim) j (Write (place_of m j) bytes reply.Done)
  spared bytes is = by is.1
    where
      by : IsGiving began.begun (is_twice (admitted aim) j) j (Write (place_of m j) bytes reply.Done) → ⊥
      by (Writes k answer (inl next) call) =
          let is_same : place_of m j ≡ k = cc in
          omega (arith, is_same, next, turned, place_small)
      by (Writes k answer (inr both) call) = false≢true (sym (not_twice (admitted aim) other) ∙ both.0)
      by (Syncs answer call) = absurd (cc)

  on_at : IsOnDisk old.history h j (place_of m j) (issue (with_draw m) j)
  on_at =
      standing_on {allowed = IsSpreading began.begun began.here (admitted aim)} (slot_state old.history j).pulls j (place_of m j)
      (Good (spelled (issue (with_draw m) j))) spared
      (ran_before {allowed = IsSpreading began.begun began.here (admitted aim)} (began.told honest_new).below.ran at)
      ((drew.told honest).below.stands j (place_of m j) small ((drew.lives j).1 live) (inl refl))

  pub drawn : ¬ IsOlderCopy began.begun.array j ((image j).cell)
  drawn copy =
      let k : ℕ = place_of m j in
      let is : (image j).cell k ≡ Good (spelled (issue (with_draw m) j)) =
      on_disk (slot_state old.history j).pulls k (Good (spelled (issue (with_draw m) j))) ((image j).cell k) (slot_state h j) same
      ((left j).each k) (places_kept began.begun.array j ((image j).cell) copy k place_small) on_at in
      let holds : HoldsSuper ((image j).cell k) (issue (with_draw m) j) =
      holds_copy ((image j).cell k) (edition_of (with_draw m)) j formed is in
      let mid_drawn : mid.drawn ≡ m.drawn + 1 = ap (λ (x : Membership). x.drawn) drew.places.rest in
      let epoch : began.begun.array.epoch ≡ mid.drawn = began.begins.names.epoch_is in
      let newer = super_no_older ((image j).cell) copy.super (issue (with_draw m) j) k place_small copy.is_super holds in
      let draws : m.drawn + 1 ≤ copy.super.draw = newer.draws in
      let older : copy.super.draw < began.begun.array.epoch = copy.behind.older in
      omega arith
