-- Why cells weren't gathered, or a stripe wasn't loaded, on any rack.
use Rattle.std.proofs.Common.{◌≡◌, ℕ, ◌<◌, List, inl, inr, refl, sym, ◌∙◌, subst, None, Option, Some}
use Rattle.std.specs.Prelude.{Err, Ok, Result}
use Rattle.stair_model.specs.CellSet.{HasCell}
use Rattle.stair_model.specs.Coverage.{IsCovered}
use Rattle.stair_model.specs.Device.{cell_sector}
use Rattle.stair_model.specs.CellSet.{IsInStripe}
use Rattle.stair_model.specs.Geometry.{Geometry}
use Rattle.stair_model.specs.Slots.{HasSlot}
use Rattle.stair_model.specs.Stripe.{Stripe}
use Rattle.stair_rack.specs.Sector.{Damaged}
use Rattle.stair_rack.specs.RackState.{IsReading}
use Rattle.stair_rack.proofs.RackStateLemmas.{later_none, reading_wider}
use Rattle.stair_member.specs.Epochs.{IsRefusedBy}
use Rattle.stair_member.specs.declared.fault.FenceFault.{FenceFault}
use Rattle.stair_member.specs.declared.why.Why.TheVariants as why
use Rattle.stair_member.proofs.CountingLemmas.{has_or_not}
use Rattle.stair_stripes.specs.Gathering.{IsAway, IsCellOf}
use Rattle.stair_stripes.specs.declared.gathering.Gathered.{Gathered}
use Rattle.stair_invariant.specs.Effects.{Fenced, FencesGone, Loads, NoneWas, Snapshot, snapshot}
use Rattle.stair_invariant.specs.Session.{IsLiveIn}
use Rattle.stair_invariant.proofs.FindsLemmas.{live_here}
use Rattle.stair_array.specs.Calls.{IsLoaded, LoadsStripe, refused}
use Rattle.stair_array.specs.Causes.{IsErasedFor, IsLost, LostOne, WasGoneTo}
use Rattle.stair_array.specs.Machine.{Lost, Refusal}
use Rattle.stair_array.proofs.CauseLemmas.{left_refused}
use Rattle.stair_array.proofs.CourseLemmas.{gathers_after}
use Rattle.stair_array.proofs.GoneToLemmas.{IsAfter, after_none, gone_to_earlier, gone_to_wider}
use Rattle.stair_array.proofs.OutLemmas.{left_not}
use Rattle.stair_array.proofs.PartsLemmas.{IsPart, WhyStays, here_back, live_back, out_after}

-- an epoch was refused, and a slot was gone
pub record StopsBy (fault : FenceFault) (x z : Snapshot) : Type 0 where
  pub by : IsRefusedBy z.member fault
  pub one : LostOne x.member x.told z.told

-- why stripe t wasn't loaded: an epoch was refused, or what is erased isn't covered
pub data Unloaded (t : ℕ) (refusal : Refusal) (x z : Snapshot) : Type 0 where
  ByEpoch : (fault : FenceFault) → refusal ≡ refused fault → StopsBy fault x z → Unloaded t refusal x z
  ByPattern : (counts : List ℕ) → refusal ≡ Lost t counts → IsLost x.member z.member x.told z.told t counts → Unloaded t refusal x z

-- CELLS

module _ (t : ℕ) (wanted : ℕ → ℕ → Type 0) (gathered : Gathered) (was read : Stripe) (refusal : Option FenceFault) (x z : Snapshot)
    (loads : Loads t wanted gathered was read refusal x z) where
  to_mid : IsAfter x.told loads.mid
  to_mid = gathers_after x.member.array.geometry loads.live t wanted gathered was read x.told loads.mid loads.gathers

  to_end : IsAfter loads.mid z.told
  to_end = out_after gathered.gone refusal (snapshot x.member loads.mid) z loads.leaves

  was_gone : (j : ℕ) → HasSlot gathered.gone j → WasGoneTo x.member j x.told z.told
  was_gone j has =
      gone_to_wider x.member j x.told x.told loads.mid z.told (later_none x.told) to_mid.later to_end (WasGoneTo.Offline (loads.gathers.gone j has))

  lost_by : (fault : FenceFault) → refusal ≡ Some fault → FencesGone gathered.gone refusal (snapshot x.member loads.mid) z
      → LostOne x.member x.told z.told
  lost_by fault is (NoneWas none same fine) = absurd (let never : None ≡ Some fault = sym fine ∙ is in cc)
  lost_by fault is (Fenced j has answer fine e) =
      record { slot = j; here = live_here x.member loads.live loads.are_live j (loads.gathers.live_gone j has).0; gone = was_gone j has }

  pub cells_stopped : (fault : FenceFault) → refusal ≡ Some fault → StopsBy fault x z
  cells_stopped fault is = record {
    by = left_refused gathered.gone refusal (snapshot x.member loads.mid) z loads.leaves fault is;
    one = lost_by fault is loads.leaves;
  }

  -- a cell of a slot that was live is erased since its slot was gone, or it read as bad
  pub erased_for : refusal ≡ None → (i j : ℕ) → HasCell gathered.erased i j → IsLiveIn x.member j → IsErasedFor x.member z.member x.told z.told t i j
  erased_for fine i j has live =
      elim (has_or_not gathered.gone j) [
        | inl gone ↦
            IsErasedFor.SlotGone (was_gone j gone)
            (λ on.
            left_not gathered.gone (snapshot x.member loads.mid) z j
            (subst (λ (r : Option FenceFault). FencesGone gathered.gone r (snapshot x.member loads.mid) z) fine loads.leaves) on gone)
        | inr out ↦
            IsErasedFor.ReadBad
            (reading_wider x.told x.told loads.mid z.told (later_none x.told) to_mid.later.honest to_mid.later.counts to_end.later j
            (cell_sector x.member.array.geometry t i) Damaged (loads.gathers.bad i j has (used out)).0)
      ]
    where
      used : ¬ HasSlot gathered.gone j → ¬ IsAway loads.live gathered.gone j
      used out (inl dead) = dead ((loads.are_live.are j).1 live)
      used out (inr gone) = out gone

-- A STRIPE

lost : (t : ℕ) (gathered : Gathered) (was read into : Stripe) (x z : Snapshot)
    → Loads t (IsCellOf x.member.array.geometry) gathered was read None x z → (answer : Result (Unit {0}) Refusal)
    → IsLoaded x.member.array.geometry t gathered.erased read into answer → (why : Refusal) → answer ≡ Err why → Unloaded t why x z
lost t gathered was read into x z loads (Ok done) is why same = absurd (cc)
lost t gathered was read into x z loads (Err found) is why same =
    Unloaded.ByPattern is.1.0 ((let one : found ≡ why = cc in sym one) ∙ is.1.1)
    (record {
      erased = gathered.erased;
      formed = loads.gathers.formed_erased;
      inside = loads.gathers.wanted_erased;
      uncovered = is.0;
      counted = is.1.2;
      each = erased_for t (IsCellOf x.member.array.geometry) gathered was read None x z loads refl;
    })

pub loaded_refused : (t : ℕ) (into : Stripe) (answer : Result (Unit {0}) Refusal) (x z : Snapshot) → LoadsStripe t into answer x z → (why : Refusal)
    → answer ≡ Err why → Unloaded t why x z
loaded_refused t into _ _ _ (LoadsStripe.Loaded was read gathered answer x z loads is) why same =
    lost t gathered was read into x z loads answer is why same
loaded_refused t into _ _ _ (LoadsStripe.Stops was read gathered fault x z loads) why same =
    Unloaded.ByEpoch fault (let one : refused fault ≡ why = cc in sym one)
    (cells_stopped t (IsCellOf x.member.array.geometry) gathered was read (Some fault) x z loads fault refl)

-- AFTER WHAT WENT BEFORE

module _ (x y z : Snapshot) (first : IsPart 0 x y) (second : IsPart 0 y z) where
  afterwards : (j : ℕ) → WasGoneTo y.member j y.told z.told → WasGoneTo x.member j x.told z.told
  afterwards j was =
      gone_to_wider x.member j x.told y.told z.told z.told first.after.later second.after.later (after_none z.told)
      (gone_to_earlier x.member y.member j y.told z.told first.geometry (here_back 0 x y first j) was)

  pub stops_sooner : (fault : FenceFault) → StopsBy fault y z → StopsBy fault x z
  stops_sooner fault stops = record {
    by = stops.by;
    one = record {
      slot = stops.one.slot;
      here = here_back 0 x y first stops.one.slot stops.one.here;
      gone = afterwards stops.one.slot stops.one.gone;
    };
  }

  module _ (t i j : ℕ) where
    bad_sooner : IsReading j (cell_sector y.member.array.geometry t i) y.told z.told Damaged
        → IsReading j (cell_sector x.member.array.geometry t i) x.told z.told Damaged
    bad_sooner bad =
        subst (λ (g : Geometry). IsReading j (cell_sector g t i) x.told z.told Damaged) first.geometry
        (reading_wider x.told y.told z.told z.told first.after.later second.after.later.honest second.after.later.counts (later_none z.told) j
        (cell_sector y.member.array.geometry t i) Damaged bad)

    erased_sooner : IsErasedFor y.member z.member y.told z.told t i j → IsErasedFor x.member z.member x.told z.told t i j
    erased_sooner (IsErasedFor.SlotGone was dead) = IsErasedFor.SlotGone (afterwards j was) dead
    erased_sooner (IsErasedFor.ReadBad bad) = IsErasedFor.ReadBad (bad_sooner bad)

    -- a slot that was live before may have been gone before
    erased_by : (IsLiveIn y.member j → IsErasedFor y.member z.member y.told z.told t i j) → IsLiveIn x.member j → WhyStays x y j
        → IsErasedFor x.member z.member x.told z.told t i j
    erased_by each live (WhyStays.Same same) =
        erased_sooner
        (each (record { below = subst (λ (g : Geometry). j < g.n) (sym first.geometry) live.below; why = same ∙ live.why }))
    erased_by each live (WhyStays.Went gone was) =
        IsErasedFor.SlotGone
        (gone_to_wider x.member j x.told x.told y.told z.told (later_none x.told) first.after.later second.after was)
        (λ on.
        let never : why.Gone ≡ why.Here = sym gone ∙ (live_back 0 y z second j on).why in absurd (cc))

  pub unloaded_sooner : (t : ℕ) (why : Refusal) → Unloaded t why y z → Unloaded t why x z
  unloaded_sooner t why (Unloaded.ByEpoch fault same stops) = Unloaded.ByEpoch fault same (stops_sooner fault stops)
  unloaded_sooner t why (Unloaded.ByPattern counts same is) =
      Unloaded.ByPattern counts same
      (record {
        erased = is.erased;
        formed = is.formed;
        inside = subst (λ (g : Geometry). IsInStripe g is.erased) first.geometry is.inside;
        uncovered = λ covered. is.uncovered (subst (λ (g : Geometry). IsCovered g is.erased) (sym first.geometry) covered);
        counted = is.counted;
        each = λ i j has live. erased_by t i j (is.each i j has) live (first.whys j live.below);
      })
