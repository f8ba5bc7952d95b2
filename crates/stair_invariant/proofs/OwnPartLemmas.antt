-- A slot that has its own superblock takes part in whatever a crash leaves, however many other slots are lost.
use Rattle.std.proofs.Common.{true≢false, subst, Option, ◌≡◌, ◌∙◌, ℕ, ◌<◌, ◌≤◌, List, None, inl, inr, refl, sym, ap, arith}
use Rattle.std.specs.Prelude.{IsTrue, true, ◌-◌}
use Rattle.stair_model.specs.Geometry.{Geometry}
use Rattle.stair_model.specs.Slots.{HasSlot, Slots}
use Rattle.stair_rack.specs.Crash.{CrashMayLeave, EachImage}
use Rattle.stair_rack.specs.History.{Happening, slot_state, stopped}
use Rattle.stair_rack.specs.Media.{Image, has_sector}
use Rattle.stair_rack.specs.Offline.{IsAttached, IsHeld, IsOfflineUntilAttached}
use Rattle.stair_rack.specs.RackState.{RackState}
use Rattle.stair_rack.specs.Sector.{content, damaged}
use Rattle.stair_super.specs.Spelling.{spelled}
use Rattle.stair_super.specs.Superblock.{Superblock, joined_in, mark_in}
use Rattle.stair_super.specs.declared.configuration.Configuration.{Configuration}
use Rattle.stair_member.specs.Aims.{mark_for}
use Rattle.stair_member.specs.Current.{IsCurrent, IsLive}
use Rattle.stair_member.specs.Fencing.{IsBegun, IsKnownTo}
use Rattle.stair_member.specs.Membership.{IsHere, IsMembership, Membership, place_of, why_of}
use Rattle.stair_member.specs.Reserve.{Bears}
use Rattle.stair_member.specs.Superblocks.{Counts, HoldsSuper}
use Rattle.stair_member.specs.declared.fault.FenceFault.{FenceFault}
use Rattle.stair_member.proofs.CountingLemmas.{has_or_not}
use Rattle.stair_member.proofs.DecisionLemmas.{super_decided}
use Rattle.stair_member.proofs.EditionLemmas.{spells_copy}
use Rattle.stair_member.proofs.SuperLemmas.{counts_bears}
use Rattle.stair_state.proofs.AgreeLemmas.{own_joined}
use Rattle.stair_state.specs.Represents.{IsLargeEnough}
use Rattle.stair_invariant.specs.Effects.{Fenced, FencesGone, NoneWas, Snapshot, snapshot}
use Rattle.stair_invariant.specs.InSession.{TakesPart}
use Rattle.stair_invariant.specs.Leading.{IsOpenAmid}
use Rattle.stair_invariant.specs.Session.{ArrayState, HasOwn, IsLiveIn, own_super}
use Rattle.stair_invariant.proofs.InSessionLemmas.{large_places}
use Rattle.stair_invariant.proofs.LeftOutLemmas.{start_geometry}
use Rattle.stair_invariant.proofs.OwnLaws.{as_read, mine_formed}

module _ (m : Membership) (h : List Happening) (image : Image) (j : ℕ) (is : IsMembership m)
    (marks : mark_in m.array j ≡ mark_for (why_of m j)) (here : IsHere m j) (own : HasOwn m h j)
    (kept : ¬ ((slot_state h j).sector (1 - place_of m j) ≡ damaged)) (known : IsKnownTo None m (IsAttached h) image)
    (left : CrashMayLeave h image) where
  abbrev g : Geometry
  g = m.array.geometry

  abbrev mine : Superblock
  mine = own_super m own.draw j

  aside_in : 1 - place_of m j < 2
  aside_in = omega arith

  -- its own superblock lies in the place that isn't written next
  lies : HoldsSuper ((image j).cell (1 - place_of m j)) mine
  lies =
      elim own.own [
        | inl harmed ↦ absurd (kept harmed)
        | inr stands ↦ record {
          bytes = spelled mine;
          good = as_read m h image j is here own left (1 - place_of m j) aside_in ∙ ap content stands;
          spells = spells_copy (record { array = m.array; draw = own.draw }) j (mine_formed m h image j is here own left);
        }
      ]

  borne : Bears m.array.geometry j ((image j).cell) mine
  borne = record { place = 1 - place_of m j; place_in = aside_in; holds = lies; slot = refl; identity = refl }

  -- what is newest on its medium names the member's epoch
  record IsOwnNewest : Type 0 where
    pub super : Superblock
    pub counts : Counts m.array.geometry image j super
    pub array : super.array ≡ m.array

  newest : IsOwnNewest
  newest =
      elim (super_decided ((image j).cell)) [
        | inr none ↦ absurd (none (record { place = 1 - place_of m j; place_in = aside_in; super = mine; holds = lies }))
        | inl found ↦
            let hid = known.orderly.hidden j mine found.0 borne found.1 in
            let bears = counts_bears m.array.geometry image j found.0 hid.0 in
            let least : m.array.epoch ≤ found.0.array.epoch = hid.1 in
            let most : found.0.array.epoch ≤ m.array.epoch = known.latest j found.0 bears in
            record { super = found.0; counts = hid.0; array = known.named j found.0 bears (omega (arith, least, most)) }
      ]

  -- and so does what is current
  pub current_own : (current : Superblock) → IsCurrent m.array.geometry image current → current.array ≡ m.array
  current_own current is_current =
      let bears = counts_bears m.array.geometry image current.slot current is_current.counts in
      let most : current.array.epoch ≤ m.array.epoch = known.latest current.slot current bears in
      let same : newest.super.array.epoch ≡ m.array.epoch = ap (λ (c : Configuration). c.epoch) newest.array in
      elim (is_current.newest j newest.super newest.counts) [
        | inl less ↦ absurd (omega (arith, most, same, less))
        | inr tie ↦ let at : newest.super.array.epoch ≡ current.array.epoch = tie.0 in known.named current.slot current bears (omega (arith, at, same))
      ]

  -- so the slot has its mark by it
  pub own_part : TakesPart m j image
  own_part current names = record {
    below = here.below;
    marked = ap (λ (c : Configuration). mark_in c j) names ∙ marks;
    super = newest.super;
    counts = newest.counts;
    joined =
        own_joined m.array.geometry image j newest.super newest.counts
        ∙ ap (λ (c : Configuration). joined_in c j) (newest.array ∙ sym names);
  }

-- IN A SESSION, in the midst of a redo too

module _ (before : List Happening) (a : ArrayState) (h : List Happening) (is : IsOpenAmid before a h) (begun : IsBegun None a.member h) (j : ℕ)
    (here : IsHere a.member j) (on : IsAttached h j) (kept : ¬ ((slot_state h j).sector (1 - place_of a.member j) ≡ damaged)) where
  abbrev own : HasOwn a.member h j
  own = is.own j here on

  pub takes_part : EachImage (TakesPart a.member j) h
  takes_part image left =
      own_part a.member h image j is.array.member (is.array.marks j here.below) here (is.own j here on) kept (begun.known image left) left

  pub current_is : EachImage (λ image. (current : Superblock) → IsCurrent a.member.array.geometry image current → current.array ≡ a.member.array) h
  current_is image left =
      current_own a.member h image j is.array.member (is.array.marks j here.below) here (is.own j here on) kept (begun.known image left) left

-- a live slot is live in whatever a crash leaves
pub live_left : (before : List Happening) (a : ArrayState) (h : List Happening) (j : ℕ) → IsOpenAmid before a h → IsBegun None a.member h
    → IsLiveIn a.member j → IsAttached h j → ¬ ((slot_state h j).sector (1 - place_of a.member j) ≡ damaged)
    → EachImage (λ image. (current : Superblock) → IsCurrent a.member.array.geometry image current → IsLive a.member.array.geometry image current j) h
live_left before a h j is begun live on kept image left current is_current =
    let here : IsHere a.member j = record { below = live.below; why = inl live.why } in
    let part = takes_part before a h is begun j here on kept image left current (current_is before a h is begun j here on kept image left current is_current) in
    record {
      below = part.below;
      marked = part.marked ∙ ap mark_for live.why;
      super = part.super;
      counts = part.counts;
      joined = part.joined;
    }

-- and while it stays attached it stays live: only slots that are offline are left out
pub stays_live : (leaving : Slots) (before : List Happening) (a : ArrayState) (refusal : Option FenceFault) (x : RackState) (y : Snapshot) (j : ℕ)
    → IsOpenAmid before a x.history → FencesGone leaving refusal (snapshot a.member x) y → refusal ≡ None → IsTrue y.told.honest
    → ¬ IsTrue (stopped y.told.history) → IsLiveIn a.member j → (IsAttached x.history j → IsLargeEnough a.member.array.geometry (slot_state x.history j).size)
    → ¬ HasSlot leaving j → IsAttached y.told.history j → IsLiveIn y.member j
stays_live leaving before a refusal x y j is (NoneWas out same quiet) fine honest going live large stays on =
    subst (λ (p : Snapshot). IsLiveIn p.member j) (sym same) live
stays_live leaving before a refusal x y j is (Fenced i has answer quiet does) fine honest going live large stays on =
    elim (has_or_not does.establishes.gone j) [
      | inr out ↦ record {
        below = subst (λ (g : Geometry). j < g.n) (sym (does.establishes.geometry)) below;
        why = (does.establishes.done (sym quiet ∙ fine)).whys j below out ∙ does.leaves.others j stays ∙ live.why;
      }
      | inl gone ↦ absurd (by (does.establishes.were_gone.shut honest before j gone held places))
    ]
  where
    below : j < does.start.array.geometry.n
    below = subst (λ (g : Geometry). j < g.n) (sym (start_geometry leaving a.member does.start does.leaves)) live.below

    held : IsHeld before x.history j
    held = is.held j (record { below = live.below; why = inl live.why })

    places : (slot_state x.history j).attached ≡ true → IsTrue (has_sector (slot_state x.history j).size 1)
    places attached = large_places a.member.array.geometry (slot_state x.history j).size is.array.member.array.limits (large attached)

    by : IsOfflineUntilAttached before y.told.history j → ⊥
    by (IsOfflineUntilAttached.RackStopped stops) = going stops
    by (IsOfflineUntilAttached.Unattached off pulled) = true≢false (sym on ∙ off)
