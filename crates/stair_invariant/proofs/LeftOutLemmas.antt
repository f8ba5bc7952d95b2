-- A fence by the member that some slots left, as one by the member that it was, and what the call's contract says of an epoch
-- that stands.
use Rattle.std.proofs.Common.{ℕ, ◌+◌, ◌-◌, ◌<◌, ◌∙◌, ◌≡◌, ◌≢◌, ◌⊎◌, List, None, Some, ap, inl, inr, refl, subst, sym, true≢false, Option}
use Rattle.std.specs.Prelude.{◌&&◌, IsSome, IsTrue, false, not, slice_index}
use Rattle.stair_model.specs.Geometry.{Geometry}
use Rattle.stair_model.specs.Slots.{HasSlot, Slots, no_slots}
use Rattle.stair_model.proofs.SetLaws.{has_slot-none}
use Rattle.stair_rack.specs.Answers.{is_ready}
use Rattle.stair_rack.specs.History.{Happening, slot_state, stopped}
use Rattle.stair_rack.specs.Offline.{ButForOutside, IsHeld, IsOfflineUntilAttached, RackStopped, Unattached}
use Rattle.stair_rack.specs.Placed.{IsSlot}
use Rattle.stair_rack.specs.Sector.{Damaged}
use Rattle.stair_rack.specs.Stretch.{NothingReturned}
use Rattle.stair_rack.specs.RackState.{RackState}
use Rattle.stair_rack.proofs.MomentLemmas.{at_every_mapped, moment_last}
use Rattle.stair_rack.proofs.OfflineLemmas.{offline_from_unready, offline_on, unready_when_stopped}
use Rattle.stair_super.specs.Superblock.{joined_in}
use Rattle.stair_super.specs.declared.configuration.Configuration.{Configuration}
use Rattle.stair_member.specs.Aims.{IsAimed, admitted, mark_for}
use Rattle.stair_member.specs.Counting.{AllBut}
use Rattle.stair_member.specs.Editions.{Edition}
use Rattle.stair_member.specs.Epochs.{AreReserved, AsWas, Given, HasDraw, IsIssued, IsIssuing, IsStanding, IsTaken, Issued, WasGiven}
use Rattle.stair_member.specs.Establishing.{Establishes, Leaves}
use Rattle.stair_member.specs.Fencing.{HasStood, IsBegun, IsFencing}
use Rattle.stair_member.specs.Membership.{IsHere, Membership, place_of, why_of}
use Rattle.stair_member.specs.declared.aim.EpochChange.{EpochChange}
use Rattle.stair_member.specs.declared.aim.EpochChange.TheVariants.{Fence, Promote}
use Rattle.stair_member.specs.declared.fault.FenceFault.{FenceFault}
use Rattle.stair_member.specs.declared.why.Why.{Why}
use Rattle.stair_member.specs.declared.why.Why.TheVariants.{Gone, Here, Rebuilding}
use Rattle.stair_member.proofs.CountingLemmas.{has_or_not}
use Rattle.stair_invariant.proofs.EstablishingLemmas.{issuing_attaches}

-- WHAT IT SAYS OF ITS SLOTS

-- of a member that some slots left nothing is so that wasn't, but that these are gone
module _ (leaving : Slots) (m start : Membership) (leaves : Leaves leaving m start) where
  pub start_geometry : start.array.geometry ≡ m.array.geometry
  start_geometry = ap (λ (c : Configuration). c.geometry) leaves.array

  pub why_before : (j : ℕ) → why_of start j ≢ Gone → why_of start j ≡ why_of m j
  why_before j stays = elim (has_or_not leaving j) [ inl has ↦ absurd (stays (leaves.left j has)) | inr out ↦ leaves.others j out ]

  pub live_before : (j : ℕ) → why_of start j ≡ Here → why_of m j ≡ Here
  live_before j is = sym (why_before j (λ is_gone. let never : Here ≡ Gone = sym is ∙ is_gone in cc)) ∙ is

  pub rebuilding_before : (j : ℕ) → why_of start j ≡ Rebuilding → why_of m j ≡ Rebuilding
  rebuilding_before j is = sym (why_before j (λ is_gone. let never : Rebuilding ≡ Gone = sym is ∙ is_gone in cc)) ∙ is

  pub here_before : (j : ℕ) → IsHere start j → IsHere m j
  here_before j here = record {
    below = subst (λ (g : Geometry). j < g.n) start_geometry here.below;
    why = elim here.why [ inl live ↦ inl (live_before j live) | inr rebuilt ↦ inr (rebuilding_before j rebuilt) ];
  }

pub none_leave : (m : Membership) → Leaves no_slots m m
none_leave m = record {
  array = refl;
  drawn = refl;
  size = refl;
  places = refl;
  left = λ j has. absurd (true≢false (sym has ∙ has_slot-none j));
  others = λ j out. refl;
}

-- AS ONE BY THE MEMBER THAT IT WAS

-- Slots that left and took part are offline, in the session that began at `before`.
module _ (leaving gone all : Slots) (before : List Happening) (m start last : Membership) (old h new : List Happening) (leaves : Leaves leaving m start)
    (within : (j : ℕ) → HasSlot gone j ⊎ HasSlot leaving j → HasSlot all j) (begun : IsBegun None m old)
    (off : (j : ℕ) → HasSlot leaving j → IsHere m j → IsOfflineUntilAttached before old j) (f : IsFencing Fence gone start last old h new) where
  abbrev was : Issued Fence gone start last old new
  was = f.issued

  to_start : (j : ℕ) → j < m.array.geometry.n → j < start.array.geometry.n
  to_start j below = subst (λ (g : Geometry). j < g.n) (sym (start_geometry leaving m start leaves)) below

  aimed_all : (named : Configuration) → IsAimed Fence (HasSlot gone) start named → IsAimed Fence (HasSlot all) m named
  aimed_all named is = record {
    geometry = is.geometry ∙ start_geometry leaving m start leaves;
    frozen = is.frozen ∙ ap (λ (c : Configuration). c.frozen) leaves.array;
    label = is.label ∙ ap (λ (c : Configuration). c.label) leaves.array;
    marks = λ j below.
        elim (is.marks j (to_start j below)) [
          | inl marked ↦
              elim (has_or_not leaving j) [
                | inl has ↦ inr (within j (inr has), marked ∙ ap mark_for (leaves.left j has))
                | inr out ↦ inl (marked ∙ ap mark_for (leaves.others j out))
              ]
          | inr dropped ↦ inr (within j (inl dropped.0), dropped.1)
        ];
    joined = λ j below up apart. is.joined j (to_start j below) up apart ∙ ap (λ (c : Configuration). joined_in c j) leaves.array;
    joins = is.joins;
  }

  issued_all : (e : Edition) → IsIssued Fence (HasSlot gone) start last e → IsIssued Fence (HasSlot all) m last e
  issued_all e is = record {
    geometry = is.geometry ∙ start_geometry leaving m start leaves;
    above = subst (λ (n : ℕ). n < e.draw) leaves.drawn is.above;
    most = is.most;
    known = is.known;
    epoch =
        elim is.epoch [
          | inl same ↦ inl (same ∙ leaves.array)
          | inr later ↦ inr (subst (λ (n : ℕ). n < e.array.epoch) leaves.drawn later.0, aimed_all e.array later.1)
        ];
    latest = is.latest;
  }

  -- one that left isn't ready, so it is offline in whichever session it is held
  unready : (j : ℕ) → IsOfflineUntilAttached before old j → is_ready old j ≡ false
  unready j (Unattached apart pulled) = ap (λ b. b && not (stopped old)) apart
  unready j (RackStopped is_stopped) = unready_when_stopped old j is_stopped

  module _ (now : List Happening) (r : AreReserved None was.slots was.editions start old now) where
    left_offline : (j : ℕ) → HasSlot leaving j → IsHere m j → (session : List Happening) → IsHeld session old j → IsOfflineUntilAttached session now j
    left_offline j has here session held =
        offline_on {allowed = IsIssuing was.slots r.editions} j (λ c may. issuing_attaches was.slots r.editions (IsSlot j) j c may refl) r.ran
        (offline_from_unready {before = session} {h = old} {j = j} held (unready j (off j has here)))

    here_still : (j : ℕ) → IsHere m j → ¬ HasSlot leaving j → IsHere start j
    here_still j here out = record {
      below = to_start j here.below;
      why = subst (λ (w : Why). (w ≡ Here) ⊎ (w ≡ Rebuilding)) (sym (leaves.others j out)) here.why;
    }

    taken_here : (j : ℕ) → IsTaken None m j → IsHere m j
    taken_here j (inl here) = here
    taken_here j (inr joins) = absurd (let never : None ≡ Some j = joins.0 in cc)

    reserved_all : AreReserved None was.slots was.editions m old now
    reserved_all = record {
      editions = r.editions;
      within = r.within;
      ran = r.ran;
      reserved = λ e among above.
          subst
          (λ (c : Configuration). c.epoch < e.array.epoch
          → AllBut c.geometry.n c.geometry.m (λ j. WasGiven was.slots r.editions e.array.epoch c.epoch old now j))
          leaves.array (r.reserved e among) above;
      reached = λ x y one other less.
          subst
          (λ (c : Configuration). AllBut c.geometry.n c.geometry.m (λ j. WasGiven was.slots r.editions y.array.epoch x.array.epoch old now j))
          leaves.array (r.reached x y one other less);
      left_out = λ e j among dropped session held full.
          elim (has_or_not leaving j) [
            | inl has ↦ left_offline j has (taken_here j dropped.taken) session held
            | inr out ↦
                r.left_out e j among
                (record {
                  is_new = subst (λ (c : Configuration). c.epoch < e.array.epoch) (sym leaves.array) dropped.is_new;
                  taken = inl (here_still j (taken_here j dropped.taken) out);
                  down = dropped.down;
                }) session held full
          ];
    }

  place_same : (j : ℕ) → place_of start j ≡ place_of m j
  place_same j = ap (λ (l : List ℕ). slice_index l j) leaves.places

  standing_all : (h : List Happening) (j : ℕ) → IsStanding start was.editions old h j → IsStanding m was.editions old h j
  standing_all h j (AsWas aside next) =
      AsWas (subst (λ (k : ℕ). ButForOutside old h j (1 - k) (λ s. s ≡ (slot_state old j).sector (1 - k))) (place_same j) aside)
      (subst
      (λ (k : ℕ). ButForOutside old h j k (λ s. (s.base ≡ ((slot_state old j).sector k).base) ⊎ (s.base ≡ Damaged))) (place_same j) next)
  standing_all h j (Given has) =
      Given
      (subst (λ (c : Configuration). HasDraw was.editions (m.drawn + 1) c.epoch old h j) leaves.array
      (subst (λ (n : ℕ). HasDraw was.editions (n + 1) start.array.epoch old h j) leaves.drawn has))

  pub left_fencing : IsFencing Fence all m last old h new
  left_fencing = record {
    begun = begun;
    moment = f.moment;
    issued = record {
      slots = was.slots;
      taking = λ j on.
          elim (was.taking j on) [ inl here ↦ inl (here_before leaving m start leaves j here) | inr joins ↦ absurd (let never : None ≡ Some j = joins.0 in cc) ];
      editions = was.editions;
      ran = was.ran;
      each = λ e among. issued_all e (was.each e among);
      one_list = was.one_list;
      rising = was.rising;
      reserved =
          at_every_mapped {P = AreReserved None was.slots was.editions start old} {Q = AreReserved None was.slots was.editions m old} reserved_all
          was.reserved;
      standing =
          at_every_mapped {P = λ h. (j : ℕ) → HasSlot was.slots j → IsSome (slot_state old j).size → IsStanding start was.editions old h j}
          {Q = λ h. (j : ℕ) → HasSlot was.slots j → IsSome (slot_state old j).size → IsStanding m was.editions old h j}
          (λ h stands j on some. standing_all h j (stands j on some)) was.standing;
      drew =
          subst
          (λ (c : Configuration). c.epoch < last.array.epoch
          → AllBut c.geometry.n c.geometry.m (λ j. WasGiven was.slots was.editions last.array.epoch c.epoch old new j)) leaves.array was.drew;
      steady = was.steady;
      apart = was.apart;
    };
    returned = f.returned;
  }

-- WHAT THE CALL'S CONTRACT SAYS

-- on an honest rack an epoch that was established stands
pub stood_where : (aim : EpochChange) (m last : Membership) (refusal : Option FenceFault) (old new : RackState)
    (does : Establishes aim m last refusal old new) → refusal ≡ None → IsTrue new.honest → IsBegun (admitted aim) m old.history
    → NothingReturned old.history new.history → ((slot : ℕ) → aim ≡ Promote slot → IsHere m slot)
    → HasStood aim does.gone m last old.history new.history
stood_where aim m last refusal old new does fine honest begun none promoted = record {
  fencing = record {
    begun = begun;
    moment = let ran = (does.issued honest).ran in moment_last ran.more ran.is;
    issued = does.issued honest;
    returned = none;
  };
  member = does.rules;
  established = does.done fine;
  dropped = does.were_gone.dropped;
  among = does.among honest fine;
  on_disk = does.on_disk honest fine;
  promoted = promoted;
}

pub stood_by : (aim : EpochChange) (m last : Membership) (old new : RackState) (does : Establishes aim m last None old new) → IsTrue new.honest
    → IsBegun (admitted aim) m old.history → NothingReturned old.history new.history
    → ((slot : ℕ) → aim ≡ Promote slot → IsHere m slot) → HasStood aim does.gone m last old.history new.history
stood_by aim m last old new does = stood_where aim m last None old new does refl
