-- The cells that a scrub repaired, on an honest rack: each was bad, and where nothing was pulled or damaged they are all that were.
use Rattle.std.proofs.Common.{◌≡◌, ℕ, ◌<◌, List, false, true, inl, inr, refl, sym, ap, ◌∙◌, subst, None, Option, Some, arith}
use Rattle.std.specs.Prelude.{IsSome, IsTrue, Ok, Result, replicate}
use Rattle.std.proofs.lemmas.Bool.{cases_Bool, cases_lt, false≢true}
use Rattle.stair_model.specs.CellSet.{CellSet, HasCell, cell_count, has_cell}
use Rattle.stair_model.specs.Device.{cell_sector}
use Rattle.stair_model.specs.Geometry.{Geometry}
use Rattle.stair_model.specs.Slots.{HasSlot, Slots, no_slots}
use Rattle.stair_model.specs.Stripe.{Stripe, cell}
use Rattle.stair_model.proofs.SetLaws.{HasCell-none, IsCellSet-none, cell_count_member, has_slot-none}
use Rattle.stair_rack.specs.Answers.{any_call, is_good}
use Rattle.stair_rack.specs.History.{Happening, SlotCall, slot_state, stopped}
use Rattle.stair_rack.specs.Media.{has_sector}
use Rattle.stair_rack.specs.Offline.{Here, IsHeld, IsKept, IsOffline, IsOfflineUntilAttached, Lost, WasPulled}
use Rattle.stair_rack.specs.Reading.{WasRead}
use Rattle.stair_rack.specs.Sector.{Cell, Good, Sector, content}
use Rattle.stair_rack.proofs.KeptLemmas.{IsLooking, SectorKeeps-looking, keeps_sector}
use Rattle.stair_rack.proofs.MomentLemmas.{at_some_wider, ran_after, ran_before, ran_none}
use Rattle.stair_rack.proofs.OfflineLemmas.{WasPulled-later, held_on, stopped_on}
use Rattle.stair_rack.proofs.ReadLemmas.{was_read_found}
use Rattle.stair_rack.proofs.StepLemmas.{kept}
use Rattle.stair_rack.proofs.TidyLemmas.{HasSize, size_on}
use Rattle.stair_member.specs.Establishing.{Fences, refusal_of}
use Rattle.stair_member.specs.Membership.{IsMembership, why_of}
use Rattle.stair_member.specs.declared.fault.FenceFault.{FenceFault}
use Rattle.stair_member.specs.declared.why.Why.TheVariants as why
use Rattle.stair_member.proofs.CountingLemmas.{common, has_or_not}
use Rattle.stair_member.proofs.StoodLemmas.{all_here}
use Rattle.stair_journal.specs.Redo.{IsRedo}
use Rattle.stair_journal.specs.declared.redo.Redo.{Redo}
use Rattle.stair_stripes.specs.Gathering.{IsCellOf, IsReadOfCell}
use Rattle.stair_stripes.specs.declared.gathering.Gathered.{Gathered}
use Rattle.stair_state.specs.Redoing.{AtRest}
use Rattle.stair_invariant.specs.Effects.{Fenced, FencesGone, Loads, NoneWas, Snapshot, Redoes, snapshot}
use Rattle.stair_invariant.specs.Session.{IsLiveIn}
use Rattle.stair_invariant.proofs.LeftOutLemmas.{start_geometry}
use Rattle.stair_array.specs.Calls.{answer_of}
use Rattle.stair_array.specs.Machine.{Refusal}
use Rattle.stair_array.specs.Mends.{AreOnLive, Scrubs}
use Rattle.stair_array.specs.Promise.{AreRepaired, WasBad}
use Rattle.stair_array.proofs.AnsweredLemmas.{honest_before}
use Rattle.stair_array.proofs.CauseLemmas.{fence_array}
use Rattle.stair_array.proofs.CourseLemmas.{gathers_after, load_part}
use Rattle.stair_array.proofs.GoneToLemmas.{IsAfter}
use Rattle.stair_array.proofs.PartsLemmas.{IsPart, live_back, out_after}
use Rattle.stair_array.proofs.RedoLemmas.{redo_after}
use Rattle.stair_array.proofs.ScrubCourseLemmas.{read_bad}

-- SLOTS IN USE

-- a held slot that isn't offline is in use
pub record IsUsed (h : List Happening) (j : ℕ) : Type 0 where
  pub held : IsHeld h h j
  pub some : IsSome (slot_state h j).size

used : (before h : List Happening) (j : ℕ) → IsHeld before h j → ¬ IsOffline before h j → IsUsed h j
used before h j (IsHeld.InUse attached some least) online = record { held = IsHeld.InUse attached some (omega arith); some = some }
used before h j (IsHeld.Unattached apart pulled) online = absurd (online (IsOffline.Unattached apart pulled))
used before h j (IsHeld.RackStopped is) online = absurd (online (IsOffline.RackStopped is))

-- one that isn't pulled, of a rack that goes on, isn't offline
never_shut : (before h : List Happening) (j : ℕ) → IsOfflineUntilAttached before h j → ¬ WasPulled before h j → ¬ IsTrue (stopped h) → ⊥
never_shut before h j (IsOfflineUntilAttached.Unattached apart pulled) unpulled going = unpulled pulled
never_shut before h j (IsOfflineUntilAttached.RackStopped is) unpulled going = going is

-- AN EPOCH THAT STANDS

-- a slot is live in it, so that the rack goes on
epoch_going : (leaving : Slots) (x y : Snapshot) (answer : Result Slots FenceFault) → Fences leaving x.member y.member answer x.told y.told
    → None ≡ refusal_of answer → IsTrue y.told.honest → ¬ IsTrue (stopped y.told.history)
epoch_going leaving x y answer e fine honest =
    let array = fence_array leaving x.member y.member answer x.told y.told e (sym fine) in
    let here = all_here y.member.array.geometry y.member refl array.enough in
    let one =
    common {n = y.member.array.geometry.n} {m = y.member.array.geometry.m} {P = λ j. why_of y.member j ≡ why.Here}
    {Q = λ j. why_of y.member j ≡ why.Here} array.member.array.limits.devices.1 array.member.array.limits.majority here here in
    (e.establishes.on_disk honest (sym fine)).going one.0 (record { below = one.1; why = inl one.2 })

-- A CELL THAT WAS BAD AT FIRST

abbrev IsBad : Sector → Type 0
IsBad s = is_good (content s) ≡ false

cell_read_looks : (g : Geometry) (live : Slots) (t : ℕ) (wanted : ℕ → ℕ → Type 0) (j : ℕ) (c : SlotCall) → IsReadOfCell g live t wanted j c
    → IsLooking c
cell_read_looks g live t wanted j c is = subst IsLooking (sym is.is) tt

-- Its slot is in use and isn't pulled as the stripe is gathered and slots that were gone are left out.
module _ (t : ℕ) (gathered : Gathered) (was read : Stripe) (x y : Snapshot)
    (loads : Loads t (IsCellOf x.member.array.geometry) gathered was read None x y) (honest : IsTrue y.told.honest) (i j : ℕ)
    (live : IsLiveIn x.member j) (in_use : IsUsed x.told.history j) (unpulled : ¬ WasPulled x.told.history y.told.history j) where
  to_mid : IsAfter x.told loads.mid
  to_mid = gathers_after x.member.array.geometry loads.live t (IsCellOf x.member.array.geometry) gathered was read x.told loads.mid loads.gathers

  to_end : IsAfter loads.mid y.told
  to_end = out_after gathered.gone None (snapshot x.member loads.mid) y loads.leaves

  honest_mid : IsTrue loads.mid.honest
  honest_mid = honest_before loads.mid y.told to_end honest

  unpulled_mid : ¬ WasPulled x.told.history loads.mid.history j
  unpulled_mid pulled = unpulled (WasPulled-later {allowed = any_call} x.told.history j (to_end.later.ran honest) pulled)

  -- it isn't gone to the gathering
  not_gone : ¬ HasSlot gathered.gone j
  not_gone has = by loads.leaves
    where
      by : FencesGone gathered.gone None (snapshot x.member loads.mid) y → ⊥
      by (NoneWas none same fine) = none j has
      by (Fenced l some answer fine e) =
          never_shut x.told.history loads.mid.history j ((loads.gathers.gone j has).shut honest_mid x.told.history in_use.held) unpulled_mid
          (λ stops.
          epoch_going gathered.gone (snapshot x.member loads.mid) y answer e fine honest
          (stopped_on {allowed = any_call} (to_end.later.ran honest) stops))

  size_mid : (slot_state loads.mid.history j).size ≡ (slot_state x.told.history j).size
  size_mid =
      elim (size_on {allowed = any_call} (slot_state x.told.history j).pulls (slot_state x.told.history j).size j in_use.some
      (to_mid.later.ran honest_mid) (HasSize.Same refl refl)) [
        | HasSize.Same same is ↦ is
        | HasSize.Other less ↦ absurd (unpulled_mid less)
      ]

  -- nor to an epoch, so that it is live after it
  stays_live : IsTrue (has_sector (slot_state x.told.history j).size 1) → IsLiveIn y.member j
  stays_live full = by loads.leaves
    where
      by : FencesGone gathered.gone None (snapshot x.member loads.mid) y → IsLiveIn y.member j
      by (NoneWas none same fine) = subst (λ (p : Snapshot). IsLiveIn p.member j) (sym same) live
      by (Fenced l some answer fine e) =
          let below = subst (λ (g : Geometry). j < g.n) (sym (start_geometry gathered.gone x.member e.start e.leaves)) live.below in
          record {
            below = subst (λ (g : Geometry). j < g.n) (sym e.establishes.geometry) below;
            why =
                elim (has_or_not e.establishes.gone j) [
                  | inl dropped ↦
                      absurd
                      (never_shut x.told.history y.told.history j
                      (e.establishes.were_gone.shut honest x.told.history j dropped
                      (held_on {allowed = any_call} j (to_mid.later.ran honest_mid) in_use.held)
                      (λ attached. subst (λ (size : Option ℕ). IsTrue (has_sector size 1)) (sym size_mid) full)) unpulled
                      (epoch_going gathered.gone (snapshot x.member loads.mid) y answer e fine honest))
                  | inr kept ↦ (e.establishes.done (sym fine)).whys j below kept ∙ e.leaves.others j not_gone ∙ live.why
                ];
          }

  -- and the cell is bad until it is read, so that it is erased
  bad_erased : i < x.member.array.geometry.r
      → is_good (content ((slot_state x.told.history j).sector (cell_sector x.member.array.geometry t i))) ≡ false → HasCell gathered.erased i j
  bad_erased row bad =
      elim (cases_Bool (has_cell gathered.erased i j)) [
        | inl erased ↦ erased
        | inr kept ↦
            absurd
            (never ((loads.gathers.given i j (row, live.below) (λ has. false≢true (sym kept ∙ has))).1 honest_mid))
      ]
    where
      g : Geometry
      g = x.member.array.geometry

      pulls : ℕ
      pulls = (slot_state x.told.history j).pulls

      k : ℕ
      k = cell_sector g t i

      never : ¬ WasRead (λ (c : Cell). c ≡ Good (cell read i j)) x.told.history loads.mid.history j k
      never was_read =
          by
          (kept {allowed = IsReadOfCell g loads.live t (IsCellOf g)} {P = λ h. IsKept pulls k IsBad (slot_state h j)}
          (keeps_sector {allowed = IsReadOfCell g loads.live t (IsCellOf g)} {j = j} {k = k} {P = IsBad} pulls
          (SectorKeeps-looking {allowed = IsReadOfCell g loads.live t (IsCellOf g)} j k IsBad (cell_read_looks g loads.live t (IsCellOf g) j)))
          (ran_before {allowed = IsReadOfCell g loads.live t (IsCellOf g)} (loads.gathers.ran honest_mid) was_read.is_one)
          (Here refl in_use.some (inr bad)))
        where
          good : is_good (content ((slot_state was_read.moment j).sector k)) ≡ true
          good = ap is_good was_read.found

          by : IsKept pulls k IsBad (slot_state was_read.moment j) → ⊥
          by (Here same some (inl damage)) = false≢true (sym (ap (λ (s : Sector). is_good (content s)) damage) ∙ good)
          by (Here same some (inr still)) = false≢true (sym still ∙ good)
          by (Lost less) =
              unpulled_mid
              (WasPulled-later {allowed = any_call} x.told.history j
              (ran_after {allowed = any_call} (to_mid.later.ran honest_mid) was_read.is_one) less)

-- CELLS THAT WERE REPAIRED

abbrev no_cells : CellSet
no_cells = record { rows = replicate 32 no_slots }

has_none : (i j : ℕ) → ¬ HasCell no_cells i j
has_none = HasCell-none no_slots (λ j has. false≢true (sym (has_slot-none j) ∙ has))

count_none : cell_count no_cells ≡ 0
count_none =
    elim (cases_lt 0 (cell_count no_cells)) [
      | inl above ↦ let one = cell_count_member no_cells above in absurd (has_none one.0 one.1 one.4)
      | inr least ↦ omega (arith, least)
    ]

-- none, where each cell that is erased lies on a slot that isn't live any more
sound_repaired : (t : ℕ) (gathered : Gathered) (was read : Stripe) (x y : Snapshot)
    → Loads t (IsCellOf x.member.array.geometry) gathered was read None x y
    → ((i j : ℕ) → HasCell gathered.erased i j → ¬ IsLiveIn y.member j) → IsTrue y.told.honest → AreRepaired x.member t 0 x.told y.told
sound_repaired t gathered was read x y loads sound honest = record {
  cells = no_cells;
  formed = IsCellSet-none no_slots refl;
  number = count_none;
  each = λ i j has. absurd (has_none i j has);
  all = λ before i j unpulled live row held online full bad.
      let in_use = used before x.told.history j held online in
      absurd
      (sound i j (bad_erased t gathered was read x y loads honest i j live in_use unpulled row bad)
      (stays_live t gathered was read x y loads honest i j live in_use unpulled full));
}

-- those of the redo
module _ (t : ℕ) (gathered : Gathered) (was read into : Stripe) (redo : Redo) (x y z : Snapshot)
    (loads : Loads t (IsCellOf x.member.array.geometry) gathered was read None x y) (rules : IsMembership x.member)
    (formed : IsRedo x.member.array.geometry redo) (on_live : AreOnLive y.member gathered.erased redo.cells)
    (run : Redoes x.member.array.geometry redo into AtRest None y z) (honest : IsTrue z.told.honest) where
  after : IsAfter y.told z.told
  after = redo_after x.member.array.geometry redo into AtRest None y z run

  honest_y : IsTrue y.told.honest
  honest_y = honest_before y.told z.told after honest

  first : IsPart 0 x y
  first = load_part t (IsCellOf x.member.array.geometry) gathered was read None x y loads rules

  was_bad : (i j : ℕ) → HasCell redo.cells i j → WasBad j (cell_sector x.member.array.geometry t i) x.told z.told
  was_bad i j has =
      let both = (on_live i j).0 has in
      let k = cell_sector x.member.array.geometry t i in
      at_some_wider {a = any_call} {b = any_call} {P = λ h. is_good (content ((slot_state h j).sector k)) ≡ false}
      (ran_none {allowed = any_call} x.told.history) (after.later.ran honest)
      (was_read_found {Q = λ (c : Cell). is_good c ≡ false}
      ((read_bad t gathered was read x y loads rules i j both.0 both.1).1 honest_y))

  unpulled_first : (j : ℕ) → ¬ WasPulled x.told.history z.told.history j → ¬ WasPulled x.told.history y.told.history j
  unpulled_first j unpulled pulled = unpulled (WasPulled-later {allowed = any_call} x.told.history j (after.later.ran honest) pulled)

  redo_repaired : AreRepaired x.member t (cell_count redo.cells) x.told z.told
  redo_repaired = record {
    cells = redo.cells;
    formed = formed.formed;
    number = refl;
    each = λ i j has. (live_back 0 x y first j ((on_live i j).0 has).1, (formed.inside i j has).0, was_bad i j has);
    all = λ before i j unpulled live row held online full bad.
        let in_use = used before x.told.history j held online in
        (on_live i j).1 (
          bad_erased t gathered was read x y loads honest_y i j live in_use (unpulled_first j unpulled) row bad,
          stays_live t gathered was read x y loads honest_y i j live in_use (unpulled_first j unpulled) full,
        );
  }

pub scrubbed_repaired : (t : ℕ) (answer : Result ℕ Refusal) (x z : Snapshot) → Scrubs t answer x z → IsMembership x.member → (count : ℕ)
    → answer ≡ Ok count → IsTrue z.told.honest → AreRepaired x.member t count x.told z.told
scrubbed_repaired t _ _ _ (Scrubs.OutOf x past) rules count same honest = absurd (cc)
scrubbed_repaired t _ _ _ (Scrubs.Stops was read gathered fault x y below loads) rules count same honest = absurd (cc)
scrubbed_repaired t _ _ _ (Scrubs.Sound was read gathered x y below loads sound) rules count same honest =
    let number : 0 ≡ count = cc in
    subst (λ (n : ℕ). AreRepaired x.member t n x.told y.told) number (sound_repaired t gathered was read x y loads sound honest)
scrubbed_repaired t _ _ _ (Scrubs.Unrestored was read into gathered refusal x y below loads is) rules count same honest = absurd (cc)
scrubbed_repaired t _ _ _ (Scrubs.Rewrote was read into gathered redo refusal x y z below loads is of_stripe formed on_live run) rules count same
    honest =
    by refusal run same
  where
    by : (found : Option FenceFault) → Redoes x.member.array.geometry redo into AtRest found y z → answer_of (cell_count redo.cells) found ≡ Ok count
        → AreRepaired x.member t count x.told z.told
    by (Some fault) run is = absurd (cc)
    by None run is =
        let number : cell_count redo.cells ≡ count = cc in
        subst (λ (n : ℕ). AreRepaired x.member t n x.told z.told) number
        (redo_repaired t gathered was read into redo x y z loads rules formed on_live run honest)
