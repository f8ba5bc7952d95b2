-- Once an epoch stands its superblocks are current, and the slots that are live are here.
use Rattle.std.proofs.Common.{◌≡◌, ◌≢◌, ℕ, ◌-◌, ◌<◌, ◌≤◌, List, ◌⊎◌, inl, inr, refl, sym, ap, ◌∙◌, subst, arith}
use Rattle.std.specs.Prelude.{Contains}
use Rattle.stair_model.specs.Geometry.{Geometry}
use Rattle.stair_model.specs.Slots.{Slots}
use Rattle.stair_rack.specs.Crash.{CrashMayLeave, image_now}
use Rattle.stair_rack.specs.History.{Happening, slot_state}
use Rattle.stair_rack.specs.Media.{Image}
use Rattle.stair_rack.specs.Moments.{IsMoment}
use Rattle.stair_rack.specs.Offline.{ButForOutside}
use Rattle.stair_rack.specs.Sector.{Good, settled}
use Rattle.stair_rack.proofs.MomentLemmas.{at_last, moment_last}
use Rattle.stair_super.specs.Spelling.{spelled}
use Rattle.stair_super.specs.Superblock.{Superblock, IsSuperblock, mark_in}
use Rattle.stair_super.specs.declared.configuration.Configuration.{Configuration}
use Rattle.stair_super.specs.declared.mark.Mark.TheVariants as mark
use Rattle.stair_super.specs.declared.mark.Mark.TheVariants.{Live, Down}
use Rattle.stair_member.specs.Aims.{admitted, mark_for}
use Rattle.stair_member.specs.Counting.{AtMost, AllBut}
use Rattle.stair_member.specs.Current.{IsCurrent, IsFailed, IsLive, Serves}
use Rattle.stair_member.specs.Editions.{Edition, copy_of, edition_of}
use Rattle.stair_member.specs.Epochs.{AreReserved, HasDraw, Stands, StandsOnDisk}
use Rattle.stair_member.specs.Fencing.{HasStood, IsFencing, IsNamedBy}
use Rattle.stair_member.specs.Membership.{Membership, IsHere, IsMembership, IsMissing, place_of, why_of}
use Rattle.stair_member.specs.Reserve.{Bears}
use Rattle.stair_member.specs.Superblocks.{HoldsSuper, Counts}
use Rattle.stair_member.specs.declared.aim.EpochChange.{EpochChange}
use Rattle.stair_member.specs.declared.why.Why.{Why}
use Rattle.stair_member.specs.declared.why.Why.TheVariants.{Here, Gone, NoSuper, OtherArray, OtherSlot, MarkedDown, OtherJoined, Rebuilding}
use Rattle.stair_member.proofs.CountingLemmas.{common}
use Rattle.stair_member.proofs.EditionLemmas.{IsOf, Entry, Issue, IsWritable, held_of, holds_copy}
use Rattle.stair_member.proofs.FencingLemmas.{IsWhole, Reaches, known, from, on_disk, reaches, there}
use Rattle.stair_member.proofs.StandingLemmas.{others}
use Rattle.stair_member.proofs.SuperLemmas.{counts_bears}

-- ---- reasons

here_or_not : (why : Why) → (why ≡ Here) ⊎ (why ≢ Here)
here_or_not Here = inl refl
here_or_not Gone = inr (λ same. cc)
here_or_not NoSuper = inr (λ same. cc)
here_or_not OtherArray = inr (λ same. cc)
here_or_not OtherSlot = inr (λ same. cc)
here_or_not MarkedDown = inr (λ same. cc)
here_or_not OtherJoined = inr (λ same. cc)
here_or_not Rebuilding = inr (λ same. cc)

live_here : (why : Why) → mark_for why ≡ Live → why ≡ Here
live_here Here marked = refl
live_here Gone marked = absurd (cc)
live_here NoSuper marked = absurd (cc)
live_here OtherArray marked = absurd (cc)
live_here OtherSlot marked = absurd (cc)
live_here MarkedDown marked = absurd (cc)
live_here OtherJoined marked = absurd (cc)
live_here Rebuilding marked = absurd (cc)

-- at most m are missing: all but m are here
pub all_here : (g : Geometry) (last : Membership) → last.array.geometry ≡ g → AtMost g.m (IsMissing last) → AllBut g.n g.m (λ j. why_of last j ≡ Here)
all_here g last same few = record {
  exceptions = few.slots;
  formed = few.formed;
  few = few.few;
  others = λ j below out.
      elim (here_or_not (why_of last j)) [
        | inl here ↦ here
        | inr not ↦ absurd (out (few.within j (record { below = subst (λ (x : Geometry). j < x.n) (sym same) below; why = not })))
      ];
}

-- the superblock of a slot that is here
not_down : (why : Why) → (why ≡ Here) ⊎ (why ≡ Rebuilding) → mark_for why ≢ Down
not_down why (inl here) down = let e : Live ≡ Down = sym (ap mark_for here) ∙ down in cc
not_down why (inr here) down = let e : mark.Rebuilding ≡ Down = sym (ap mark_for here) ∙ down in cc

pub formed_here : (m last : Membership) (j : ℕ) → IsMembership last → Stands m last → j < m.array.geometry.n
    → (why_of last j ≡ Here) ⊎ (why_of last j ≡ Rebuilding) → IsSuperblock (copy_of (edition_of last) j)
formed_here m last j is stands below here =
    record {
      sizes = record { id = is.sizes.id; draw = is.sizes.drawn; marks = is.sizes.marks; joins = is.sizes.joins; label = is.sizes.label };
      rules = record {
        array = is.array;
        slot_in = subst (λ (x : Geometry). j < x.n) (sym stands.geometry) below;
        drawn = is.known;
        here = λ down. not_down (why_of last j) here (sym (stands.marks j below) ∙ down);
        own = refl;
      };
    }

module _ (aim : EpochChange) (gone : Slots) (m last : Membership) (old new : List Happening) (f : IsFencing aim gone m last old new new) (is : IsMembership last)
    (stands : Stands m last) (image : Image) (left : CrashMayLeave new image) (r : AreReserved (admitted aim) f.issued.slots f.issued.editions m old new) where
  end : IsMoment old new new
  end = moment_last f.issued.ran.more f.issued.ran.is

  -- an edition of the call that is the last one
  record IsLast (e : Edition) : Type 0 where
    among : Contains f.issued.editions e
    array : e.array ≡ last.array
    draw : e.draw ≡ last.drawn

  -- no medium bore so late an epoch when the call began
  pub no_entry : (s : Superblock) (j : ℕ) → Bears m.array.geometry j ((image_now old j).cell) s → last.array.epoch ≤ s.array.epoch → ⊥
  no_entry s j bears least =
      let most : s.array.epoch ≤ m.array.epoch = (known f).latest j s bears in
      let within : m.array.epoch ≤ m.drawn = f.begun.member.known in
      let above : m.drawn < last.array.epoch = stands.above in
      omega arith

  -- what stands on the disk of a slot that is here, where no place of it is lost
  module _ (j : ℕ) (below : j < m.array.geometry.n) (here : (why_of last j ≡ Here) ⊎ (why_of last j ≡ Rebuilding)) (whole : IsWhole ((image j).cell))
      (on : ButForOutside old new j (1 - place_of last j) (λ s. s ≡ settled (Good (spelled (copy_of (edition_of last) j))))) where
    formed : IsSuperblock (copy_of (edition_of last) j)
    formed = formed_here m last j is stands below here

    place_in : 1 - place_of last j < 2
    place_in = omega arith

    it_is : IsOf (IsWritable f.issued.slots old) r.editions j ((image_now old j).cell (1 - place_of last j)) (copy_of (edition_of last) j)
        → (e : Edition) × IsLast e × (copy_of (edition_of last) j ≡ copy_of e j)
    it_is (Entry was) =
        absurd
        (no_entry (copy_of (edition_of last) j) j
        (record { place = 1 - place_of last j; place_in = place_in; holds = was; slot = refl; identity = stands.geometry }) (omega arith))
    it_is (Issue e has among of_e same) = (
      e,
      record {
        among = r.within e among;
        array = ap (λ (s : Superblock). s.array) (sym same);
        draw = ap (λ (s : Superblock). s.draw) (sym same);
      },
      same,
    )

    pub last_place : HoldsSuper ((image j).cell (1 - place_of last j)) (copy_of (edition_of last) j)
    last_place =
        let at = there aim gone m last old new new f image left r j below whole in
        let cell : (image j).cell (1 - place_of last j) ≡ Good (spelled (copy_of (edition_of last) j)) =
        on_disk (slot_state old j).pulls (1 - place_of last j) (Good (spelled (copy_of (edition_of last) j))) ((image j).cell (1 - place_of last j))
        (slot_state new j) at.same ((left j).each (1 - place_of last j)) (whole (1 - place_of last j) place_in) on in
        holds_copy ((image j).cell (1 - place_of last j)) (edition_of last) j formed cell

    last_edition : (e : Edition) × IsLast e × (copy_of (edition_of last) j ≡ copy_of e j)
    last_edition =
        it_is
        (held_of (IsWritable f.issued.slots old) r.editions j ((image_now old j).cell (1 - place_of last j)) ((image j).cell (1 - place_of last j))
        (copy_of (edition_of last) j) ((there aim gone m last old new new f image left r j below whole).each (1 - place_of last j) place_in)
        last_place)

    -- so its superblock names that epoch or a later one
    pub named : (s : Superblock) → Counts m.array.geometry image j s → last.array.epoch ≤ s.array.epoch
    named s counts =
        let found = last_edition in
        let e : Edition = found.0 in
        let of : IsLast e = found.1 in
        let d : HasDraw f.issued.editions e.draw e.array.epoch old new j = record {
          edition = e;
          among = of.among;
          formed = subst IsSuperblock found.2 formed;
          draws = omega arith;
          reaches = omega arith;
          place = 1 - place_of last j;
          place_in = place_in;
          on_disk =
              subst (λ (b : Superblock). ButForOutside old new j (1 - place_of last j) (λ s. s ≡ settled (Good (spelled b)))) found.2 on;
        } in
        let above : m.drawn < e.draw = (f.issued.each e of.among).above in
        let reached : Reaches m e.draw e.array.epoch s =
        reaches aim gone m last old new new f image left r j s e.draw e.array.epoch counts whole d in
        let least : e.array.epoch ≤ s.array.epoch = reached.epochs above in
        let epoch : e.array.epoch ≡ last.array.epoch = ap (λ (c : Configuration). c.epoch) of.array in
        omega arith

  -- the current superblock is of the last epoch, whose edition this is
  current_is : (e : Edition) → IsLast e → (current : Superblock) → IsCurrent m.array.geometry image current
      → last.array.epoch ≤ current.array.epoch → current.array ≡ last.array
  current_is e of current is_current least = at_last_epoch (from aim gone m last old new new f image left r current.slot current bears)
    where
      bears : Bears m.array.geometry current.slot ((image current.slot).cell) current
      bears = counts_bears m.array.geometry image current.slot current is_current.counts

      at_last_epoch : IsOf (IsWritable f.issued.slots old) r.editions current.slot ((image_now old current.slot).cell bears.place) current
          → current.array ≡ last.array
      at_last_epoch (Entry was) =
          absurd
          (no_entry current current.slot
          (record { place = bears.place; place_in = bears.place_in; holds = was; slot = bears.slot; identity = bears.identity }) least)
      at_last_epoch (Issue b has among formed same) =
          let array : current.array ≡ b.array = ap (λ (s : Superblock). s.array) same in
          let epoch : current.array.epoch ≡ b.array.epoch = ap (λ (c : Configuration). c.epoch) array in
          let of_e : e.array.epoch ≡ last.array.epoch = ap (λ (c : Configuration). c.epoch) of.array in
          let issued = f.issued.each b (r.within b among) in
          let most : b.draw ≤ last.drawn = issued.most in
          let within : b.array.epoch ≤ b.draw = issued.known in
          let drawn : last.array.epoch ≡ last.drawn = stands.epoch in
          array ∙ f.issued.one_list b e (r.within b among) of.among (omega arith) ∙ of.array

  pub stands_then : {offline : ℕ → Type 0} (current : Superblock) → StandsOnDisk (admitted aim) last old new
      → IsCurrent m.array.geometry image current → AtMost m.array.geometry.m (IsFailed offline m.array.geometry image current)
      → IsNamedBy last image current
  stands_then {offline} current disk is_current few =
      let limits = f.begun.member.array.limits in
      let found =
      common {n = m.array.geometry.n} {m = m.array.geometry.m} {P = Serves offline m.array.geometry image current} {Q = λ j. why_of last j ≡ Here}
      limits.devices.1 limits.majority (others m.array.geometry image current few) (all_here m.array.geometry last stands.geometry stands.enough) in
      let j : ℕ = found.0 in
      let serves : Serves offline m.array.geometry image current j = found.2 in
      let s : Superblock = serves.live.super in
      let below : j < m.array.geometry.n = found.1 in
      let here : IsHere last j =
      record { below = subst (λ (x : Geometry). j < x.n) (sym stands.geometry) below; why = inl found.3 } in
      let on = disk.on_disk j here in
      let least : last.array.epoch ≤ s.array.epoch = named j below (inl found.3) serves.places on s serves.live.counts in
      let e = last_edition j below (inl found.3) serves.places on in
      let array : current.array ≡ last.array =
      current_is e.0 e.1 current is_current
      (at_least current.array.epoch s.array.epoch current.slot j (is_current.newest j s serves.live.counts) least) in
      record { array = array; live = live current array }
    where
      at_least : (a b i j : ℕ) → (b < a) ⊎ ((b ≡ a) × (i ≤ j)) → last.array.epoch ≤ b → last.array.epoch ≤ a
      at_least a b i j (inl less) least = omega arith
      at_least a b i j (inr tie) least = let same = tie.0 in omega arith

      live : (current : Superblock) → current.array ≡ last.array → (j : ℕ) → IsLive last.array.geometry image current j → why_of last j ≡ Here
      live current array j of =
          let below : j < m.array.geometry.n = subst (λ (x : Geometry). j < x.n) stands.geometry of.below in
          live_here (why_of last j) (sym (stands.marks j below) ∙ ap (λ (c : Configuration). mark_in c j) (sym array) ∙ of.marked)

pub stands : {offline : ℕ → Type 0} (aim : EpochChange) (gone : Slots) (m last : Membership) (old new : List Happening) (image : Image)
    (current : Superblock) → HasStood aim gone m last old new → CrashMayLeave new image → IsCurrent m.array.geometry image current
    → AtMost m.array.geometry.m (IsFailed offline m.array.geometry image current) → IsNamedBy last image current
stands {offline} aim gone m last old new image current st left =
    stands_then aim gone m last old new st.fencing st.member st.established.stands image left
    (at_last {P = AreReserved (admitted aim) st.fencing.issued.slots st.fencing.issued.editions m old} st.fencing.issued.reserved) {offline = offline} current
    st.on_disk
