-- What a read of a block did: cells were read, and slots that were gone are left out.
use Rattle.std.proofs.Common.{None, ◌≡◌, ℕ, ◌<◌, List, inl, inr, refl, sym, ap, subst, arith, Option}
use Rattle.std.specs.Prelude.{◌⊎◌, IsTrue, Ok}
use Rattle.std.proofs.lemmas.Nat.{div_below}
use Rattle.stair_model.specs.Cell.{IsPlaceOf}
use Rattle.stair_model.specs.CellSet.{HasCell}
use Rattle.stair_model.specs.Device.{cell_sector}
use Rattle.stair_model.specs.Geometry.{Geometry, IsWithinLimits, block_count, data_cells}
use Rattle.stair_model.specs.Slots.{HasSlot, Slots}
use Rattle.stair_model.specs.Stripe.{Stripe, cell}
use Rattle.stair_rack.specs.Answers.{Ran, any_call}
use Rattle.stair_rack.specs.History.{Happening, Read, SlotCall}
use Rattle.stair_rack.specs.Moments.{AtEveryMoment}
use Rattle.stair_rack.specs.Offline.{IsOfflineUntilAttached}
use Rattle.stair_rack.specs.Reading.{IsReadOf}
use Rattle.stair_rack.specs.Sector.{Good}
use Rattle.stair_rack.specs.RackState.{IsReading, RackState}
use Rattle.stair_rack.specs.declared.rack.Got.{Got}
use Rattle.stair_rack.proofs.MomentLemmas.{IsThis, at_every_from, at_every_join, at_moment, calls_ran, moment_between, ran_any, ran_before, ran_join, ran_none, ran_weakened}
use Rattle.stair_rack.proofs.OfflineLemmas.{held_on}
use Rattle.stair_member.specs.Membership.{IsHere, Membership}
use Rattle.stair_member.specs.declared.fault.FenceFault.{FenceFault}
use Rattle.stair_member.proofs.CountingLemmas.{has_or_not}
use Rattle.stair_stripes.specs.Gathering.{Gathers, IsCellOf, IsReadOfCell}
use Rattle.stair_stripes.specs.declared.gathering.Gathered.{Gathered}
use Rattle.stair_state.specs.Blocks.{Codewords}
use Rattle.stair_state.specs.State.{Content}
use Rattle.stair_invariant.specs.Effects.{AreLive, FencesGone, Loads, Snapshot, snapshot}
use Rattle.stair_invariant.specs.Opening.{StaysArray}
use Rattle.stair_invariant.specs.Rebuilding.{Rebuild}
use Rattle.stair_invariant.specs.Returning.{Returning}
use Rattle.stair_invariant.specs.Session.{ArrayState, IsLiveIn}
use Rattle.stair_invariant.proofs.HonestLemmas.{left_honest}
use Rattle.stair_invariant.proofs.RedoingLemmas.{out_ran}
use Rattle.stair_invariant.proofs.Serving.{StaysWithinToleranceTo, IsGoing, IsServing, calm_sooner, any_read, LeadsReads}
use Rattle.stair_invariant.proofs.StaysArrayLemmas.{left_stays}
use Rattle.stair_invariant.proofs.Mending.{calm_going}
use Rattle.stair_array.specs.Calls.{AsksFor, CannotHave, IsLoaded, NotLive, WasBad, WasGone}
use Rattle.stair_array.proofs.LeftServingLemmas.{StandsAt, leaving_stands, reading_stands}
use Rattle.stair_array.proofs.ServingLemmas.{going_sooner, read_good}

-- a block that is in range lies in a stripe of the array
pub placed_in : (g : Geometry) (b t i j : ℕ) → IsWithinLimits g → b < block_count g → IsPlaceOf g b t i j → t < g.stripes
placed_in g b t i j limits b_in place =
    subst (λ (s : ℕ). s < g.stripes) (sym place.in_stripe) (div_below b (data_cells g) g.stripes limits.blocks (omega arith))

-- READS, of whichever sectors

any_of : (slots sectors : ℕ → Type 0) {old new : List Happening} → Ran (IsReadOf slots sectors) old new → Ran any_read old new
any_of slots sectors ran = ran_weakened {allowed = IsReadOf slots sectors} {more = any_read} is_one ran
  where
    is_one : (j : ℕ) (c : SlotCall) → IsReadOf slots sectors j c → any_read j c
    is_one j (SlotCall.Attach answer) may = absurd may
    is_one j (SlotCall.Sectors size) may = absurd may
    is_one j (SlotCall.Read k answer) may = (tt, tt)
    is_one j (SlotCall.Write k bytes answer) may = absurd may
    is_one j (SlotCall.Sync answer) may = absurd may

any_gathered : (g : Geometry) (live : Slots) (t : ℕ) (wanted : ℕ → ℕ → Type 0) {old new : List Happening} → Ran (IsReadOfCell g live t wanted) old new
    → Ran any_read old new
any_gathered g live t wanted ran =
    ran_weakened {allowed = IsReadOfCell g live t wanted} {more = any_read} (λ j c may. subst (any_read j) (sym may.is) (tt, tt)) ran

-- what couldn't be had was asked for at most
pub record HasAsked (x y : Snapshot) : Type 0 where
  pub member : y.member ≡ x.member
  pub honest : x.told.honest ≡ y.told.honest
  pub ran : IsTrue y.told.honest → Ran any_read x.told.history y.told.history

-- it is a read of the cell
pub asked_ran : {answer : Got} (t i j : ℕ) (x y : Snapshot) → AsksFor t i j answer x y → IsTrue y.told.honest
    → Ran (IsReadOf (λ s. s ≡ j) (λ k. k ≡ cell_sector x.member.array.geometry t i)) x.told.history y.told.history
asked_ran {answer} t i j x y asks honest =
    let k = cell_sector x.member.array.geometry t i in
    ran_weakened {allowed = IsThis j (Read k answer)} {more = IsReadOf (λ s. s ≡ j) (λ s. s ≡ k)}
    (λ a c this. subst (IsReadOf (λ s. s ≡ j) (λ s. s ≡ k) a) (sym this.1) (this.0, refl)) (calls_ran (asks.called honest))

pub asked_of : {answer : Got} (t i j : ℕ) (x y : Snapshot) → AsksFor t i j answer x y → HasAsked x y
asked_of t i j x y asks = record {
  member = asks.member;
  honest = asks.later.honest;
  ran = λ honest. any_of (λ s. s ≡ j) (λ k. k ≡ cell_sector x.member.array.geometry t i) (asked_ran t i j x y asks honest);
}

pub has_asked : (t i j : ℕ) (x y : Snapshot) → CannotHave t i j x y → HasAsked x y
has_asked t i j x y (NotLive out same) = record {
  member = ap (λ (p : Snapshot). p.member) same;
  honest = sym (ap (λ (p : Snapshot). p.told.honest) same);
  ran = λ honest. subst (λ (p : Snapshot). Ran any_read x.told.history p.told.history) (sym same) (ran_none {allowed = any_read} x.told.history);
}
has_asked t i j x y (WasBad asks bad) = asked_of t i j x y asks
has_asked t i j x y (WasGone asks gone) = asked_of t i j x y asks

-- Wanted cells of a stripe were gathered by this member, after reads, and the slots that were gone are left out.
pub record HasLoaded (t : ℕ) (wanted : ℕ → ℕ → Type 0) (gathered : Gathered) (read : Stripe) (refusal : Option FenceFault) (x z : Snapshot)
    : Type 0 where
  pub live : Slots
  pub are_live : AreLive x.member live
  pub was : Stripe
  pub first : RackState
  pub mid : RackState
  pub first_honest : x.told.honest ≡ first.honest
  pub first_ran : IsTrue first.honest → Ran any_read x.told.history first.history
  pub inside : (i j : ℕ) → wanted i j → IsCellOf x.member.array.geometry i j
  pub gathers : Gathers x.member.array.geometry live t wanted gathered was read first mid
  pub leaves : FencesGone gathered.gone refusal (snapshot x.member mid) z

pub has_loaded : (t : ℕ) (wanted : ℕ → ℕ → Type 0) (gathered : Gathered) (was read : Stripe) (refusal : Option FenceFault) (x y z : Snapshot)
    → HasAsked x y → ((i j : ℕ) → wanted i j → IsCellOf x.member.array.geometry i j) → Loads t wanted gathered was read refusal y z
    → HasLoaded t wanted gathered read refusal x z
has_loaded t wanted gathered was read refusal x y z asked inside loads =
    let now : Loads t wanted gathered was read refusal (snapshot x.member y.told) z =
    subst (λ (m : Membership). Loads t wanted gathered was read refusal (snapshot m y.told) z) asked.member loads in
    record {
      live = now.live;
      are_live = now.are_live;
      was = was;
      first = y.told;
      mid = now.mid;
      first_honest = asked.honest;
      first_ran = asked.ran;
      inside = inside;
      gathers = now.gathers;
      leaves = now.leaves;
    }

-- so was a whole stripe
pub whole_loaded : (t : ℕ) (gathered : Gathered) (was read : Stripe) (refusal : Option FenceFault) (x y z : Snapshot) → HasAsked x y
    → Loads t (IsCellOf y.member.array.geometry) gathered was read refusal y z
    → HasLoaded t (IsCellOf x.member.array.geometry) gathered read refusal x z
whole_loaded t gathered was read refusal x y z asked loads =
    has_loaded t (IsCellOf x.member.array.geometry) gathered was read refusal x y z asked (λ i j is. is)
    (subst (λ (m : Membership). Loads t (IsCellOf m.array.geometry) gathered was read refusal y z) asked.member loads)

-- where nothing was asked for before
pub none_asked : (x : Snapshot) → HasAsked x x
none_asked x = record { member = refl; honest = refl; ran = λ honest. ran_none {allowed = any_read} x.told.history }

-- AN ARRAY THAT SERVES at x

-- an array with this member
abbrev pub array_with : Option Rebuild → Option FenceFault → Snapshot → ArrayState
array_with rebuild stopped x = record { member = x.member; rebuild = rebuild; stopped = stopped; remembered = None }

module _ (returning : Returning) (laws : LeadsReads returning) (before : List Happening) (rebuild : Option Rebuild) (stopped : Option FenceFault)
    (words : Codewords) (kept : Content) (x : Snapshot) where
  abbrev Calm : List Happening → Type 0
  Calm = StaysWithinToleranceTo returning x.member.array.geometry before

  abbrev Going : List Happening → Type 0
  Going = IsGoing returning x.member.array.geometry before

  abbrev Stands : List Happening → Type 0
  Stands = StandsAt returning before x.member kept

  abbrev Serves : List Happening → Type 0
  Serves = IsServing returning before (array_with rebuild stopped x) words kept

  module _ (is : Serves x.told.history) where
    -- A STRIPE THAT WAS LOADED

    module _ (t : ℕ) {wanted : ℕ → ℕ → Type 0} (gathered : Gathered) (read : Stripe) (refusal : Option FenceFault) (z : Snapshot)
        (l : HasLoaded t wanted gathered read refusal x z) (honest : IsTrue z.told.honest) where
      pub honest_mid : IsTrue l.mid.honest
      honest_mid = subst IsTrue (sym (left_honest gathered.gone refusal (snapshot x.member l.mid) z l.leaves)) honest

      honest_first : IsTrue l.first.honest
      honest_first = subst IsTrue (sym l.gathers.honest) honest_mid

      pub ran_first : Ran any_read x.told.history l.first.history
      ran_first = l.first_ran honest_first

      pub ran_gathering : Ran any_read l.first.history l.mid.history
      ran_gathering = any_gathered x.member.array.geometry l.live t wanted (l.gathers.ran honest_mid)

      pub ran_reading : Ran any_read x.told.history l.mid.history
      ran_reading = ran_join {allowed = any_read} ran_first ran_gathering

      pub ran_leaving : Ran any_call l.mid.history z.told.history
      ran_leaving = out_ran gathered.gone refusal (snapshot x.member l.mid) z l.leaves honest

      upto_mid : Ran any_call before l.mid.history
      upto_mid = ran_join {allowed = any_call} is.is_open.ran (ran_any {allowed = any_read} ran_reading)

      pub all_ran : Ran any_call before z.told.history
      all_ran = ran_join {allowed = any_call} upto_mid ran_leaving

      pub to_mid : (c : List Happening) → Ran any_call l.mid.history c → Calm c → Calm l.mid.history
      to_mid c ran calm =
          calm_sooner returning x.member.array.geometry before l.mid.history c (moment_between {a = any_call} {b = any_call} upto_mid ran) calm

      pub live_of : (j : ℕ) → HasSlot l.live j → IsLiveIn x.member j
      live_of j has = (l.are_live.are j).0 has

      pub gone_here : (j : ℕ) → HasSlot gathered.gone j → IsHere x.member j
      gone_here j has = let on = live_of j (l.gathers.live_gone j has).0 in record { below = on.below; why = inl on.why }

      pub gone_off : (j : ℕ) → HasSlot gathered.gone j → IsOfflineUntilAttached before l.mid.history j
      gone_off j has = (l.gathers.gone j has).shut honest_mid before (held_on {allowed = any_read} j ran_first (is.is_open.held j (gone_here j has)))

      pub going_mid : Going z.told.history → Going l.mid.history
      going_mid on = going_sooner returning x.member.array.geometry before l.mid.history z.told.history upto_mid ran_leaving on

      pub calm_going_mid : Calm l.mid.history → Going l.mid.history
      calm_going_mid calm = calm_going returning x.member.array.geometry before l.mid.history upto_mid calm

      pub serves_mid : Going l.mid.history → Serves l.mid.history
      serves_mid on = laws.reads before (array_with rebuild stopped x) words kept x.told.history l.mid.history is ran_reading on

      pub serves_first : Going l.mid.history → Serves l.first.history
      serves_first on =
          laws.reads before (array_with rebuild stopped x) words kept x.told.history l.first.history is ran_first
          (going_sooner returning x.member.array.geometry before l.first.history l.mid.history
          (ran_join {allowed = any_call} is.is_open.ran (ran_any {allowed = any_read} ran_first))
          (ran_any {allowed = any_read} ran_gathering) on)

      pub stays_so : StaysArray x.member z.member
      stays_so = left_stays gathered.gone refusal (snapshot x.member l.mid) z l.leaves is.is_open.array.member

      -- at each moment of it the array stands as it was
      pub loading_moments : AtEveryMoment Stands x.told.history z.told.history
      loading_moments =
          at_every_join {P = Stands}
          (reading_stands returning laws before (array_with rebuild stopped x) words kept x.told.history l.mid.history is ran_reading)
          (at_every_from {P = Stands} ran_leaving.more ran_leaving.is
          (λ c at calm.
          at_moment {P = Stands}
          (leaving_stands returning laws before (array_with rebuild stopped x) words kept gathered.gone refusal l.mid z l.leaves honest
          (serves_mid (calm_going_mid (to_mid c (ran_before {allowed = any_call} ran_leaving at) calm))) gone_here (λ j has live. gone_off j has)) at calm))

      -- each wanted cell that isn't erased was read as that of the stripe
      pub read_same : Going l.mid.history → t < x.member.array.geometry.stripes → (i j : ℕ) → wanted i j → ¬ HasCell gathered.erased i j
          → cell (words t) i j ≡ cell read i j
      read_same on stripe i j is_wanted out =
          elim (has_or_not l.live j) [
            | inr off ↦ absurd (given.0 (inl off))
            | inl has ↦
                sym
                (read_good returning laws before (array_with rebuild stopped x) words kept l.first.history l.mid.history
                (serves_first on) ran_gathering on t i j
                (live_of j has) stripe (l.inside i j is_wanted).0 (cell read i j) (given.1 honest_mid))
          ]
        where
          given : (¬ ((¬ HasSlot l.live j) ⊎ HasSlot gathered.gone j))
              × IsReading j (cell_sector x.member.array.geometry t i) l.first l.mid (Good (cell read i j))
          given = l.gathers.given i j is_wanted out

      -- so that a whole stripe is restored as it is
      pub restored : ((i j : ℕ) → IsCellOf x.member.array.geometry i j → wanted i j) → Going l.mid.history → t < x.member.array.geometry.stripes
          → (into : Stripe) → IsLoaded x.member.array.geometry t gathered.erased read into (Ok tt) → into ≡ words t
      restored whole on stripe into loaded =
          let word = is.of.encodings.each t stripe in
          loaded.2 (words t) word.of word.formed word.codeword (λ i j row slot out. read_same on stripe i j (whole i j (row, slot)) out)
