-- What the member of a survey says of the holders of chunks, though media came back meanwhile: by the superblock that names its
-- epoch, which a medium bore when the survey began.
use Rattle.std.specs.Prelude.{Ok}
use Rattle.std.proofs.Common.{◌≡◌, ℕ, ◌≤◌, List, ◌⊎◌, inl, inr, sym, ap, ◌∙◌, subst, arith, Some, None}
use Rattle.stair_model.specs.Geometry.{Geometry}
use Rattle.stair_rack.specs.Answers.{Ran}
use Rattle.stair_rack.specs.RackState.{RackState}
use Rattle.stair_rack.specs.Sector.{Cell}
use Rattle.stair_rack.specs.History.{Happening, slot_state}
use Rattle.stair_rack.specs.Media.{Image}
use Rattle.stair_rack.specs.Crash.{CrashMayLeave, image_now}
use Rattle.stair_rack.proofs.CrashLemmas.{CrashMayLeave-now}
use Rattle.stair_super.specs.declared.mark.Mark.TheVariants.{Live, Rebuilding}
use Rattle.stair_super.specs.Superblock.{Superblock, joined_at, mark_at, joined_in, mark_in}
use Rattle.stair_super.specs.declared.configuration.Configuration.{Configuration}
use Rattle.stair_member.specs.declared.aim.EpochChange.TheVariants.{Fence}
use Rattle.stair_member.specs.Counting.{AllBut}
use Rattle.stair_member.specs.Survey.{IsSurveyed}
use Rattle.stair_member.specs.declared.why.Why.{Why}
use Rattle.stair_member.specs.Membership.{IsHere, IsMarkedFor, IsMembership, Membership}
use Rattle.stair_member.specs.Current.{IsLost}
use Rattle.stair_member.proofs.SuperLemmas.{super_held, super_cells}
use Rattle.stair_member.proofs.CountingLemmas.{all_but_mapped}
use Rattle.stair_state.specs.State.{State, new_content}
use Rattle.stair_state.specs.Holding.{CurrentMediumReserved, CurrentMedia, IsBorneSince, IsConsistentBy, OfAdmitted}
use Rattle.stair_state.specs.Reassembly.{IsBorne, Location}
use Rattle.stair_state.specs.Represents.{no_write}
use Rattle.stair_state.proofs.ReturnLemmas.{MediaCameFrom, New, Same, at_image, came_looking}
use Rattle.stair_state.proofs.HoldingLemmas.{current_since}
use Rattle.stair_state.proofs.FormLemmas.{good_whole, same_kept}
use Rattle.stair_reinsert.specs.Beginning.{AreMeant, HasDrawnAll, SaysContent}
use Rattle.stair_reinsert.specs.Found.{IsToleratedReassembly}
use Rattle.stair_reinsert.proofs.KnownLemmas.{WasSurveyed, borne_before, borne_steady, came, is_history, it, looked, mine, surveyed}
use Rattle.stair_reinsert.proofs.SurveyLemmas.{current_together, together}

module _ {s : State} {current_media : CurrentMedia} {since : ℕ} {before : List Happening} {old new : RackState} {m : Membership}
    (survey : WasSurveyed s current_media since before old new m) where
  open survey use {began, consistent, honest, surveys, tolerated}

  abbrev g : Geometry
  g = s.geometry

  abbrev found : IsSurveyed surveys.findings m
  found = surveyed survey

  abbrev seen : IsToleratedReassembly s.geometry old.history (together before old new (Ok m) surveys honest began)
  seen = came survey

  -- THE SUPERBLOCK THAT NAMES ITS EPOCH

  pub current_since_then : IsBorneSince s.geometry since (came survey).was (surveyed survey).current
  current_since_then =
      current_since s consistent.encodings current_media since seen.was (it survey) (together before old new (Ok m) surveys honest began)
      seen.reassembled seen.alone found.current
      (current_together before old new (Ok m) surveys honest began s.geometry tolerated m found)

  -- so it was borne in whatever a crash might have left then
  pub named_since : (image : Image) → CrashMayLeave old.history image → IsBorneSince s.geometry since image (surveyed survey).current
  named_since image left = record {
    slot = current_since_then.slot;
    place = current_since_then.place;
    borne =
        borne_steady s.geometry old.history seen.was image consistent.steady seen.left left current_since_then.slot current_since_then.place found.current
        current_since_then.borne;
    since_then = current_since_then.since_then;
  }

  epoch_is : m.array.epoch ≡ found.current.array.epoch
  epoch_is = ap (λ (c : Configuration). c.epoch) found.array

  pub recent_member : since ≤ m.array.epoch
  recent_member = let least : since ≤ found.current.array.epoch = current_since_then.since_then in omega (arith, least, epoch_is)

  -- WHAT IT MEANS

  abbrev then : IsConsistentBy s consistent.encodings current_media since (came survey).was
  then = it survey

  marked_as : (j : ℕ) → mark_in m.array j ≡ mark_at found.current j
  marked_as j = ap (λ (c : Configuration). mark_in c j) found.array

  joined_as : (j : ℕ) → joined_in m.array j ≡ joined_at found.current j
  joined_as j = ap (λ (c : Configuration). joined_in c j) found.array

  live_meant : (j : ℕ) → mark_in m.array j ≡ Live → current_media j ≡ Some (joined_in m.array j)
  live_meant j live = then.live j found.current current_since_then (sym (marked_as j) ∙ live) ∙ ap Some (sym (joined_as j))

  rebuilt_meant : (j n : ℕ) → mark_in m.array j ≡ Rebuilding → current_media j ≡ Some n → n ≡ joined_in m.array j
  rebuilt_meant j n rebuilt current_medium =
      then.rebuilt j n found.current current_since_then (sym (marked_as j) ∙ rebuilt) current_medium ∙ sym (joined_as j)

  pub found_meant : IsMembership m → AreMeant current_media Fence m
  found_meant rules = record {
    taken = λ j n taken current_medium. elim taken [ inl here ↦ (here, number j n here current_medium) | inr joins ↦ absurd (not_joining joins.0) ];
    live = live_meant;
    rebuilt = rebuilt_meant;
    promoted = λ j promoted. absurd (cc);
  }
    where
      not_joining : {j : ℕ} → None ≡ Some j → ⊥
      not_joining joins = cc

      once : {a b : ℕ} → Some a ≡ Some b → a ≡ b
      once same = cc

      number : (j n : ℕ) → IsHere m j → current_media j ≡ Some n → n ≡ joined_in m.array j
      number j n here current_medium =
          let marked = rules.marked j here.below in
          elim here.why [
            | inl is ↦
                once (sym current_medium ∙ live_meant j (subst (λ (why : Why). IsMarkedFor why (mark_in m.array j)) is marked))
            | inr is ↦ rebuilt_meant j n (subst (λ (why : Why). IsMarkedFor why (mark_in m.array j)) is marked) current_medium
          ]

  pub found_says : SaysContent s Fence m
  found_says = record { frozen = frozen; label = label; frozen_new = frozen; label_new = label }
    where
      frozen : (m.array.frozen ≡ s.content.frozen) ⊎ (m.array.frozen ≡ (new_content s).frozen)
      frozen =
          subst (λ (c : Configuration). (c.frozen ≡ s.content.frozen) ⊎ (c.frozen ≡ (new_content s).frozen)) (sym found.array)
          (then.frozen found.current current_since_then)

      label : (m.array.label ≡ s.content.label) ⊎ (m.array.label ≡ (new_content s).label)
      label =
          subst (λ (c : Configuration). (c.label ≡ s.content.label) ⊎ (c.label ≡ (new_content s).label)) (sym found.array)
          (then.label found.current current_since_then)

  -- WHAT IS DRAWN

  abbrev looks : Ran no_write old.history new.history
  looks = looked survey

  abbrev last : Image
  last = image_now new.history

  abbrev from : (j : ℕ) → MediaCameFrom (slot_state old.history j) (image_now new.history j)
  from j = at_image (came_looking j looks) (last j) (CrashMayLeave-now new.history j)

  -- the image that the last one came from
  abbrev first : Image
  first j = (from j).was

  first_left : CrashMayLeave old.history first
  first_left j = (from j).left

  -- what holds of the superblock of the medium that was admitted in an epoch
  admitted_last : (joined j : ℕ) (Q R : Superblock → Type 0) → ((x : Superblock) → Q x → R x) → OfAdmitted s.geometry first joined Q j
      → OfAdmitted s.geometry (image_now new.history) joined R j
  admitted_last joined j Q R map holds p medium x is super slot geometry same whole_first whole_second =
      elim ((from j).medium p medium is) [
        | Same earlier at size copied ↦
            map x
            (holds ((from j).place p) earlier x at
            (super_cells medium.cell earlier.cell x (same_kept (copied 0) whole_first) (same_kept (copied 1) whole_second) super) slot geometry same
            (subst (λ (c : Cell). ¬ IsLost c) (same_kept (copied 0) whole_first) whole_first)
            (subst (λ (c : Cell). ¬ IsLost c) (same_kept (copied 1) whole_second) whole_second))
        | New all ↦ let held = super_held medium.cell x super in absurd (good_whole held.holds.good (all held.place))
      ]

  borne_first : (i : ℕ) (q : Location) (t : Superblock) → IsBorne s.geometry (image_now new.history) i q t → (p : Location) × IsBorne s.geometry first i p t
  borne_first i q t borne =
      let was =
      borne_before s.geometry old.history new.history last i q t (is_history survey)
      looks (CrashMayLeave-now new.history) borne in (
        was.place,
        borne_steady s.geometry old.history was.was first consistent.steady was.left first_left i was.place t was.borne,
      )

  drawn_last : AllBut s.geometry.n s.geometry.m (λ j. CurrentMediumReserved s.geometry current_media (image_now new.history) j
      × ((joined : ℕ) → current_media j ≡ Some joined → OfAdmitted s.geometry (image_now new.history) joined (λ x. m.array.epoch ≤ x.draw) j))
  drawn_last =
      all_but_mapped {P = CurrentMediumReserved s.geometry current_media first}
      {Q = λ j. CurrentMediumReserved s.geometry current_media (image_now new.history) j
      × ((joined : ℕ) → current_media j ≡ Some joined → OfAdmitted s.geometry (image_now new.history) joined (λ x. m.array.epoch ≤ x.draw) j)}
      (λ j below reserved. (
        λ joined current_medium.
            admitted_last joined j (λ x. (i : ℕ) (q : Location) (t : Superblock) → IsBorne s.geometry first i q t → t.array.epoch ≤ x.draw)
            (λ x. (i : ℕ) (q : Location) (t : Superblock) → IsBorne s.geometry (image_now new.history) i q t → t.array.epoch ≤ x.draw)
            (λ x above i q t borne. let was = borne_first i q t borne in above i was.0 t was.1) (reserved joined current_medium),
        λ joined current_medium.
            admitted_last joined j (λ x. (i : ℕ) (q : Location) (t : Superblock) → IsBorne s.geometry first i q t → t.array.epoch ≤ x.draw)
            (λ x. m.array.epoch ≤ x.draw)
            (λ x above.
            let named = named_since first first_left in
            let upto : found.current.array.epoch ≤ x.draw = above named.slot named.place found.current named.borne in omega (arith, upto, epoch_is))
            (reserved joined current_medium),
      )) (consistent.each first first_left).reserved

  pub found_drawn : AllBut m.array.geometry.n m.array.geometry.m (HasDrawnAll m current_media (image_now new.history))
  found_drawn =
      subst
      (λ (y : Geometry). AllBut y.n y.m (λ j. CurrentMediumReserved y current_media (image_now new.history) j
      × ((joined : ℕ) → current_media j ≡ Some joined → OfAdmitted y (image_now new.history) joined (λ x. m.array.epoch ≤ x.draw) j)))
      (sym (mine survey)) drawn_last
