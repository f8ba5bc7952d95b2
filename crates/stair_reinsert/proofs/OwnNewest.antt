-- Once an epoch stands a slot that takes part has its own superblock, and nothing in its next place ties with it.
use Rattle.std.proofs.Common.{◌≡◌, ℕ, ◌-◌, ◌<◌, ◌≤◌, List, ◌⊎◌, inl, inr, refl, sym, ap, ◌∙◌, subst, arith, Option, None, Some}
use Rattle.std.specs.Prelude.{IsTrue}
use Rattle.std.proofs.lemmas.Bool.{cases_lt}
use Rattle.stair_model.specs.Geometry.{Geometry}
use Rattle.stair_model.specs.Slots.{Slots}
use Rattle.stair_rack.specs.Answers.{IsHistory}
use Rattle.stair_rack.specs.Crash.{image_now}
use Rattle.stair_rack.specs.History.{Happening, slot_state, stopped}
use Rattle.stair_rack.specs.Offline.{Here, IsAttached, IsKept, Lost}
use Rattle.stair_rack.specs.Sector.{Cell, Good, MayLeave, Sector, content, damaged, settled}
use Rattle.stair_rack.proofs.CrashLemmas.{CrashMayLeave-now, nothing_unsynced, settled_left}
use Rattle.stair_rack.proofs.KeptLemmas.{not_none}
use Rattle.stair_rack.proofs.TidyLemmas.{history_on, history_tidy}
use Rattle.stair_super.specs.Newer.{IsOlder}
use Rattle.stair_super.specs.Spelling.{spelled}
use Rattle.stair_super.specs.Superblock.{Superblock}
use Rattle.stair_member.specs.Editions.{Edition, copy_of, edition_of}
use Rattle.stair_member.specs.Epochs.{IsIssuing}
use Rattle.stair_member.specs.Fencing.{IsCopy}
use Rattle.stair_member.specs.Membership.{IsHere, Membership, place_of}
use Rattle.stair_member.specs.Superblocks.{HoldsSuper}
use Rattle.stair_member.specs.declared.aim.EpochChange.{EpochChange}
use Rattle.stair_state.specs.Reassembly.{InSlot, IsMediumOf, Location}
use Rattle.stair_state.specs.Represents.{AreSteady}
use Rattle.stair_state.proofs.FormLemmas.{good_whole}
use Rattle.stair_invariant.specs.Session.{own_super}
use Rattle.stair_invariant.specs.Returning.{HasOwnNewest}
use Rattle.stair_reinsert.specs.Beginning.{StandsWherever}
use Rattle.stair_reinsert.specs.Following.{name_of}
use Rattle.stair_reinsert.specs.Given.{KnowsSuper}
use Rattle.stair_reinsert.proofs.BorneSince.{copy_given}
use Rattle.stair_reinsert.proofs.GivenLemmas.{issuing_ran}
use Rattle.stair_reinsert.proofs.MediaSince.{IsCellSince, IsHarmed, IsMediumSince, IsStill, IsWritten, New, Same, medium_since}
use Rattle.stair_reinsert.proofs.NameLemmas.{attached_name, name_apart, still_attached}
use Rattle.stair_reinsert.proofs.SteadyEpoch.{steady_epoch}

module _ (aim : EpochChange) (gone : Slots) (m last : Membership) (old new : List Happening) (history : IsHistory old)
    (steady : AreSteady m.array.geometry old) (stands : StandsWherever aim gone m last old new) (going : ¬ IsTrue (stopped new)) (j : ℕ) (here : IsHere last j)
    (on : IsAttached new j) (super_then : IsAttached old j → KnowsSuper m old j) where
  still : IsAttached old j × ((slot_state new j).pulls ≡ (slot_state old j).pulls)
  still = still_attached j (issuing_ran stands.issued.slots stands.issued.editions j stands.issued.ran) on

  below : j < m.array.geometry.n
  below = subst (λ (y : Geometry). j < y.n) stands.established.stands.geometry here.below

  abbrev mine : Superblock
  mine = own_super last last.drawn j

  -- an older one, or the same
  is_older : (x : Superblock) → (x.draw < last.drawn) ⊎ IsCopy stands.issued.slots stands.issued.editions j x → (x ≡ mine) ⊎ IsOlder x mine
  is_older x (inl less) = inr (inl less)
  is_older x (inr copy) =
      let draw : x.draw ≡ copy.edition.draw = ap (λ (y : Superblock). y.draw) copy.is in
      let epoch : x.array.epoch ≡ copy.edition.array.epoch = ap (λ (y : Superblock). y.array.epoch) copy.is in
      let edition = stands.issued.each copy.edition copy.among in
      let most : copy.edition.draw ≤ last.drawn = edition.most in
      elim (cases_lt copy.edition.draw last.drawn) [
        | inl less ↦ inr (inl (omega (arith, less, draw)))
        | inr least ↦
            elim edition.latest [
              | inr earlier ↦ inr (inr (omega (arith, most, least, draw), omega (arith, earlier, epoch)))
              | inl same ↦ inl (copy.is ∙ same_copy same (omega (arith, most, least)))
            ]
      ]
    where
      same_copy : {e : Edition} → e.array ≡ last.array → e.draw ≡ last.drawn → copy_of e j ≡ mine
      same_copy array drawn = λ i. copy_of (record { array = array i; draw = drawn i }) j

  -- what a place holds now was there before, or was given
  held : (k : ℕ) → k < 2 → (x : Superblock) → HoldsSuper (content ((slot_state new j).sector k)) x
      → (x.draw < last.drawn) ⊎ IsCopy stands.issued.slots stands.issued.editions j x
  held k small x holds = sized (slot_state new j).size refl
    where
      history_new : IsHistory new
      history_new = history_on {allowed = IsIssuing stands.issued.slots stands.issued.editions} history stands.issued.ran

      by : (n : ℕ) → IsMediumSince stands.issued.slots stands.issued.editions old j (name_of new j InSlot) n ((image_now new j).cell)
          → (x.draw < last.drawn) ⊎ IsCopy stands.issued.slots stands.issued.editions j x
      by n (New all) = absurd (good_whole holds.good (all k))
      by n (Same was place medium may is named size cells) = cell_by (cells k)
        where
          inside : place ≡ InSlot
          inside =
              name_apart old j place InSlot
              (named ∙ attached_name j history (issuing_ran stands.issued.slots stands.issued.editions j stands.issued.ran) on)

          lies : was.cell ≡ medium.cell
          lies = (subst (λ (p : Location). IsMediumOf was p medium) inside is).1

          cell_by : IsCellSince stands.issued.slots stands.issued.editions old j place k (medium.cell k) ((image_now new j).cell k)
              → (x.draw < last.drawn) ⊎ IsCopy stands.issued.slots stands.issued.editions j x
          cell_by (IsHarmed harmed) = absurd (good_whole holds.good harmed)
          cell_by (IsWritten at used wrote) =
              inr (copy_given stands.issued.slots stands.issued.editions old j k ((image_now new j).cell k) x wrote holds)
          cell_by (IsStill same) =
              let s : Sector = (slot_state old j).sector k in
              let settles : s ≡ settled s.base = nothing_unsynced s (steady j k below small) in
              let cell : (image_now new j).cell k ≡ (image_now old j).cell k =
              same ∙ ap (λ (c : ℕ → Cell). c k) (sym lies)
              ∙ settled_left s.base (was.cell k) (subst (λ t. MayLeave t (was.cell k)) settles (may.each k))
              ∙ sym (ap content settles) in
              let upto : x.draw ≤ m.drawn =
              (super_then still.0).drawn k x small (subst (λ (c : Cell). HoldsSuper c x) cell holds) in
              let above : m.drawn < last.array.epoch = stands.established.stands.above in
              let epoch : last.array.epoch ≡ last.drawn = stands.established.stands.epoch in
              inl (omega (arith, upto, above, epoch))

      sized : (o : Option ℕ) → (slot_state new j).size ≡ o → (x.draw < last.drawn) ⊎ IsCopy stands.issued.slots stands.issued.editions j x
      sized None none = absurd (not_none (slot_state new j).size none ((history_tidy history_new).attached j on))
      sized (Some n) is =
          by n
          (medium_since stands.issued.slots stands.issued.editions old new j history stands.issued.ran (image_now new) (CrashMayLeave-now new) InSlot
          (record { size = n; cell = (image_now new j).cell }) (is, refl))

  newest : (x : Superblock) → HoldsSuper (content ((slot_state new j).sector (place_of last j))) x → (x ≡ mine) ⊎ IsOlder x mine
  newest x holds = is_older x (held (place_of last j) place_in x holds)
    where
      place_in : place_of last j < 2
      place_in =
          let few : last.array.geometry.n ≤ 32 = stands.member.array.limits.devices.1 in
          let inside : j < last.array.geometry.n = here.below in
          stands.member.places j (omega (arith, inside, few))

  not_newer : (x : Superblock) → (x ≡ mine) ⊎ IsOlder x mine → ¬ IsOlder mine x
  not_newer x (inl same) older = refl_older (subst (λ (y : Superblock). IsOlder mine y) same older)
    where
      refl_older : IsOlder mine mine → ⊥
      refl_older (inl less) = omega (arith, less)
      refl_older (inr tie) = let less = tie.1 in omega (arith, less)
  not_newer x (inr (inl a)) (inl b) = omega (arith, a, b)
  not_newer x (inr (inl a)) (inr b) = let same = b.0 in omega (arith, a, same)
  not_newer x (inr (inr a)) (inl b) = let same = a.0 in omega (arith, same, b)
  not_newer x (inr (inr a)) (inr b) = let one = a.1 in let two = b.1 in omega (arith, one, two)

  pub own_newest : HasOwnNewest last new j
  own_newest = record {
    own = record {
      draw = last.drawn;
      reached = let epoch : last.array.epoch ≡ last.drawn = stands.established.stands.epoch in omega (arith, epoch);
      seen = omega arith;
      own = disk (stands.on_disk.on_disk j here);
      newest = λ other holds. not_newer other (newest other holds);
      settled_both = λ k small.
          steady_epoch m.array.geometry aim gone m last old new history steady stands.issued going j k below small;
    };
    newest = newest;
  }
    where
      disk : IsKept (slot_state old j).pulls (1 - place_of last j) (λ s. s ≡ settled (Good (spelled (copy_of (edition_of last) j)))) (slot_state new j)
          → ((slot_state new j).sector (1 - place_of last j) ≡ damaged)
          ⊎ ((slot_state new j).sector (1 - place_of last j) ≡ settled (Good (spelled (own_super last last.drawn j))))
      disk (Here pulls some kept) = kept
      disk (Lost less) = let same = still.1 in absurd (omega (arith, less, same))
