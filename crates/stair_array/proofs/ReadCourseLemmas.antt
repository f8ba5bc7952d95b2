-- What a read of a block does to what a session knows of its slots, and who is left out in it, on any rack.
use Rattle.std.proofs.Common.{◌≡◌, ℕ, ◌<◌, List, ◌∷◌, ◌++◌, false, inl, inr, refl, sym, ap, ◌∙◌, subst, None, Option, Some}
use Rattle.std.specs.Prelude.{IsTrue, Result}
use Rattle.std.proofs.lemmas.Bool.{cases_Bool, false≢true}
use Rattle.stair_model.specs.CellSet.{has_cell}
use Rattle.stair_model.specs.Device.{cell_sector}
use Rattle.stair_model.specs.Geometry.{Geometry}
use Rattle.stair_model.specs.Slots.{HasSlot, Slots}
use Rattle.stair_model.specs.Stripe.{Stripe}
use Rattle.stair_rack.specs.Answers.{Calls, IsNoAttach, Ran, Told, Untold, any_call, is_ready}
use Rattle.stair_rack.specs.History.{Called, Happening, Read, SlotCall}
use Rattle.stair_rack.specs.Reading.{IsReadOf, WasRead}
use Rattle.stair_rack.specs.Sector.{Cell}
use Rattle.stair_rack.specs.Stretch.{WasAnswered}
use Rattle.stair_rack.specs.RackState.{RackState}
use Rattle.stair_rack.specs.declared.rack.Got.{Got}
use Rattle.stair_rack.specs.declared.rack.Got.TheVariants as got
use Rattle.stair_rack.proofs.MomentLemmas.{IsThis, calls_ran, moment_between, ran_before, ran_none, ran_weakened}
use Rattle.stair_rack.proofs.OfflineLemmas.{unready_lasts, unready_on, unready_when_stopped}
use Rattle.stair_rack.proofs.ReadRuns.{reads_beside}
use Rattle.stair_rack.proofs.StretchLemmas.{answered_allowed}
use Rattle.stair_member.specs.Membership.{IsHere, IsMembership, Membership, why_of}
use Rattle.stair_member.specs.declared.fault.FenceFault.{FenceFault}
use Rattle.stair_member.specs.declared.why.Why.TheVariants as why
use Rattle.stair_member.proofs.CountingLemmas.{has_or_not}
use Rattle.stair_journal.proofs.ToldLemmas.{answered_cases}
use Rattle.stair_stripes.specs.Gathering.{Gathers, IsAway, IsCellOf, IsReadOfCell}
use Rattle.stair_stripes.specs.declared.gathering.Gathered.{Gathered}
use Rattle.stair_invariant.specs.Effects.{Loads, Snapshot, snapshot}
use Rattle.stair_invariant.specs.Session.{IsLiveIn, Remembered}
use Rattle.stair_array.specs.Calls.{AsksFor, CannotHave, LoadsStripe, NotLive, Reads, WasBad, WasGone}
use Rattle.stair_array.specs.Machine.{Refusal}
use Rattle.stair_array.specs.Promise.{IsAnsweredGone}
use Rattle.stair_array.proofs.AnsweredLemmas.{IsLeftOut, honest_before, never_answered, out_gone, out_left_out}
use Rattle.stair_array.proofs.CourseLemmas.{gathers_after, load_part}
use Rattle.stair_array.proofs.GoneToLemmas.{IsAfter, after_join, after_none, attaches_none}
use Rattle.stair_array.proofs.PartsLemmas.{IsPart, out_after, part_join, part_none, part_told}
use Rattle.stair_array.proofs.ReadPartLemmas.{asked_ran}

-- ITS PARTS

pub asked_after : (t i j : ℕ) (answer : Got) (x y : Snapshot) → AsksFor t i j answer x y → IsAfter x.told y.told
asked_after t i j answer x y asks =
    let k = cell_sector x.member.array.geometry t i in
    record {
      later = asks.later;
      beside = λ honest.
          ran_weakened {allowed = IsReadOf (λ s. s ≡ j) (λ s. s ≡ k)} {more = attaches_none} (reads_beside (λ s. s ≡ j) (λ s. s ≡ k))
          (asked_ran t i j x y asks honest);
    }

pub cannot_after : (t i j : ℕ) (x y : Snapshot) → CannotHave t i j x y → IsAfter x.told y.told
cannot_after t i j x y (NotLive out same) = subst (λ (p : Snapshot). IsAfter x.told p.told) (sym same) (after_none x.told)
cannot_after t i j x y (WasBad asks bad) = asked_after t i j got.Bad x y asks
cannot_after t i j x y (WasGone asks gone) = asked_after t i j got.Gone x y asks

pub cannot_member : (t i j : ℕ) (x y : Snapshot) → CannotHave t i j x y → y.member ≡ x.member
cannot_member t i j x y (NotLive out same) = ap (λ (p : Snapshot). p.member) same
cannot_member t i j x y (WasBad asks bad) = asks.member
cannot_member t i j x y (WasGone asks gone) = asks.member

pub told_part : (x y : Snapshot) → y.member ≡ x.member → IsAfter x.told y.told → IsMembership x.member → IsPart 0 x y
told_part x y same after rules =
    subst (λ (m : Membership). IsPart 0 x (snapshot m y.told)) (sym same) (part_told x.member x.told y.told rules after)

pub loaded_after : (t : ℕ) (into : Stripe) (answer : Result (Unit {0}) Refusal) (x y : Snapshot) → LoadsStripe t into answer x y → IsAfter x.told y.told
loaded_after t into _ _ _ (LoadsStripe.Loaded was read gathered answer x y loads is) =
    after_join
    (gathers_after x.member.array.geometry loads.live t (IsCellOf x.member.array.geometry) gathered was read x.told loads.mid loads.gathers)
    (out_after gathered.gone None (snapshot x.member loads.mid) y loads.leaves)
loaded_after t into _ _ _ (LoadsStripe.Stops was read gathered fault x y loads) =
    after_join
    (gathers_after x.member.array.geometry loads.live t (IsCellOf x.member.array.geometry) gathered was read x.told loads.mid loads.gathers)
    (out_after gathered.gone (Some fault) (snapshot x.member loads.mid) y loads.leaves)

pub loaded_part : (t : ℕ) (into : Stripe) (answer : Result (Unit {0}) Refusal) (x y : Snapshot) → LoadsStripe t into answer x y
    → IsMembership x.member → IsPart 0 x y
loaded_part t into _ _ _ (LoadsStripe.Loaded was read gathered answer x y loads is) rules =
    load_part t (IsCellOf x.member.array.geometry) gathered was read None x y loads rules
loaded_part t into _ _ _ (LoadsStripe.Stops was read gathered fault x y loads) rules =
    load_part t (IsCellOf x.member.array.geometry) gathered was read (Some fault) x y loads rules

pub cannot_part : (t i j : ℕ) (x y : Snapshot) → CannotHave t i j x y → IsMembership x.member → IsPart 0 x y
cannot_part t i j x y cannot = told_part x y (cannot_member t i j x y cannot) (cannot_after t i j x y cannot)

stripe_part : (t i j : ℕ) (into : Stripe) (answer : Result (Unit {0}) Refusal) (x y z : Snapshot) → CannotHave t i j x y
    → LoadsStripe t into answer y z → IsMembership x.member → IsPart 0 x z
stripe_part t i j into answer x y z cannot loads rules =
    let first = cannot_part t i j x y cannot rules in part_join 0 0 x y z first (loaded_part t into answer y z loads first.rules)

pub read_part : (b : ℕ) (old after : Option Remembered) (answer : Result (List ℕ) Refusal) (x z : Snapshot) → Reads b old after answer x z → IsMembership x.member → IsPart 0 x z
read_part b old _ _ _ _ (Reads.OutOf x past) rules = part_none x rules
read_part b old _ _ _ _ (Reads.Recalled one i j x known place) rules = part_none x rules
read_part b old _ _ _ _ (Reads.Own t i j bytes x y place asks reading) rules = told_part x y asks.member (asked_after t i j got.Good x y asks) rules
read_part b old _ _ _ _ (Reads.Restored t i j into x y z place cannot loads) rules = stripe_part t i j into _ x y z cannot loads rules
read_part b old _ _ _ _ (Reads.Refused t i j into refusal x y z place cannot loads) rules = stripe_part t i j into _ x y z cannot loads rules

-- A STRIPE

read_is : (g : Geometry) (live : Slots) (t : ℕ) (wanted : ℕ → ℕ → Type 0) (j : ℕ) (c : SlotCall) → IsReadOfCell g live t wanted j c
    → IsAnsweredGone c → (k : ℕ) × (c ≡ Read k got.Gone)
read_is g live t wanted j c is gone =
    let same : is.answer ≡ got.Gone = subst IsAnsweredGone is.is gone in
    (cell_sector g t is.row, is.is ∙ ap (λ (a : Got). Read (cell_sector g t is.row) a) same)

-- each slot that answers gone as a stripe is gathered is left out
pub load_left_out : (t : ℕ) (wanted : ℕ → ℕ → Type 0) (gathered : Gathered) (was into : Stripe) (refusal : Option FenceFault) (x y : Snapshot)
    → Loads t wanted gathered was into refusal x y → IsTrue y.told.honest → IsLeftOut x y
load_left_out t wanted gathered was into refusal x y loads =
    out_left_out gathered.gone refusal x y loads.mid
    (gathers_after x.member.array.geometry loads.live t wanted gathered was into x.told loads.mid loads.gathers) told loads.leaves
  where
    told : IsTrue loads.mid.honest → (j : ℕ) (call : SlotCall) → WasAnswered j call x.told.history loads.mid.history → IsAnsweredGone call
        → HasSlot gathered.gone j
    told honest j call was answered =
        let may =
        answered_allowed {allowed = IsReadOfCell x.member.array.geometry loads.live t wanted} (loads.gathers.ran honest) was in
        let is = read_is x.member.array.geometry loads.live t wanted j call may answered in
        loads.gathers.told honest j is.0 (subst (λ (c : SlotCall). WasAnswered j c x.told.history loads.mid.history) is.1 was)

-- A CELL THAT WAS ASKED FOR

-- its slot alone answered, and so
asked_answers : (t i j : ℕ) (answer : Got) (x y : Snapshot) → AsksFor t i j answer x y → IsTrue y.told.honest → (s : ℕ) (call : SlotCall)
    → WasAnswered s call x.told.history y.told.history → IsAnsweredGone call → (s ≡ j) × (answer ≡ got.Gone)
asked_answers t i j answer x y asks honest s call was gone =
    let k = cell_sector x.member.array.geometry t i in
    let this = answered_allowed {allowed = IsThis j (Read k answer)} (calls_ran (asks.called honest)) was in
    (this.0, subst IsAnsweredGone this.1 gone)

-- a slot that answered gone isn't ready then, though its medium be back in it
unready_asked : (old new : List Happening) (j k : ℕ) → Calls old new j (Read k got.Gone) → is_ready new j ≡ false
unready_asked old new j k (Told acts runs answered is) =
    let last : List Happening = Called j (Read k got.Gone) ∷ (acts ++ old) in
    subst (λ (h : List Happening). is_ready h j ≡ false) (sym is)
    (unready_lasts (acts ++ old) last j (Read k got.Gone) answered refl (ran_none {allowed = IsNoAttach j} last))
unready_asked old new j k (Untold acts runs answered is_stopped nothing is) =
    subst (λ (h : List Happening). is_ready h j ≡ false) (sym is) (unready_when_stopped (acts ++ old) j is_stopped)

-- so no cell of it is read until it is attached
never_read : (Q : Cell → Type 0) (old new : List Happening) (j k : ℕ) → Ran attaches_none old new → is_ready old j ≡ false → ¬ WasRead Q old new j k
never_read Q old new j k beside unready was =
    let still : is_ready was.moment j ≡ false =
    unready_on {allowed = attaches_none} j (λ c may. may) (ran_before {allowed = attaches_none} beside was.is_one) unready in
    false≢true (sym still ∙ was.ready)

-- and it is gone to the gathering too
gone_again : (g : Geometry) (live : Slots) (t : ℕ) (gathered : Gathered) (was into : Stripe) (old new : RackState)
    → Gathers g live t (IsCellOf g) gathered was into old new → IsTrue new.honest → (i j : ℕ) → i < g.r → j < g.n → HasSlot live j
    → is_ready old.history j ≡ false → HasSlot gathered.gone j
gone_again g live t gathered was into old new gathers honest i j row slot on unready =
    elim (has_or_not gathered.gone j) [ inl gone ↦ gone | inr out ↦ absurd (never out) ]
  where
    beside : Ran attaches_none old.history new.history
    beside = (gathers_after g live t (IsCellOf g) gathered was into old new gathers).beside honest

    used : ¬ HasSlot gathered.gone j → ¬ IsAway live gathered.gone j
    used out (inl dead) = dead on
    used out (inr gone) = out gone

    never : ¬ ¬ HasSlot gathered.gone j
    never out =
        elim (cases_Bool (has_cell gathered.erased i j)) [
          | inl erased ↦
              never_read _ old.history new.history j (cell_sector g t i) beside unready ((gathers.bad i j erased (used out)).0.1 honest)
          | inr kept ↦
              never_read _ old.history new.history j (cell_sector g t i) beside unready
              ((gathers.given i j (row, slot) (λ has. false≢true (sym kept ∙ has))).1 honest)
        ]

-- WHO IS LEFT OUT

own_left_out : (t i j : ℕ) (x y : Snapshot) → AsksFor t i j got.Good x y → IsTrue y.told.honest → IsLeftOut x y
own_left_out t i j x y asks honest s call here was gone =
    let never : got.Good ≡ got.Gone = (asked_answers t i j got.Good x y asks honest s call was gone).1 in absurd (cc)

-- a cell couldn't be had, and its stripe was gathered
module _ (t i j : ℕ) (gathered : Gathered) (was read : Stripe) (refusal : Option FenceFault) (x y z : Snapshot) (cannot : CannotHave t i j x y)
    (row : i < x.member.array.geometry.r) (loads : Loads t (IsCellOf y.member.array.geometry) gathered was read refusal y z)
    (honest : IsTrue z.told.honest) where
  same : y.member ≡ x.member
  same = cannot_member t i j x y cannot

  honest_mid : IsTrue loads.mid.honest
  honest_mid = honest_before loads.mid z.told (out_after gathered.gone refusal (snapshot y.member loads.mid) z loads.leaves) honest

  honest_y : IsTrue y.told.honest
  honest_y = subst IsTrue (sym loads.gathers.honest) honest_mid

  to_mid : IsAfter y.told loads.mid
  to_mid = gathers_after y.member.array.geometry loads.live t (IsCellOf y.member.array.geometry) gathered was read y.told loads.mid loads.gathers

  gone_then : AsksFor t i j got.Gone x y → HasSlot gathered.gone j
  gone_then asks =
      gone_again y.member.array.geometry loads.live t gathered was read y.told loads.mid loads.gathers honest_mid i j
      (subst (λ (m : Membership). i < m.array.geometry.r) (sym same) row)
      (subst (λ (m : Membership). j < m.array.geometry.n) (sym same) asks.live.below)
      ((loads.are_live.are j).1 (subst (λ (m : Membership). IsLiveIn m j) (sym same) asks.live))
      (unready_asked x.told.history y.told.history j (cell_sector x.member.array.geometry t i) (asks.called honest_y))

  sooner : CannotHave t i j x y → (s : ℕ) (call : SlotCall) → IsHere y.member s → WasAnswered s call x.told.history y.told.history
      → IsAnsweredGone call → why_of z.member s ≡ why.Gone
  sooner (NotLive out at) s call here answered gone =
      absurd
      (never_answered s call x.told.history (subst (λ (p : Snapshot). WasAnswered s call x.told.history p.told.history) at answered))
  sooner (WasBad asks bad) s call here answered gone =
      let never : got.Bad ≡ got.Gone = (asked_answers t i j got.Bad x y asks honest_y s call answered gone).1 in absurd (cc)
  sooner (WasGone asks lost) s call here answered gone =
      let at : s ≡ j = (asked_answers t i j got.Gone x y asks honest_y s call answered gone).0 in
      out_gone gathered.gone refusal (snapshot y.member loads.mid) z loads.leaves s (subst (HasSlot gathered.gone) (sym at) (gone_then asks)) here.below

  stripe_left_out : IsLeftOut x z
  stripe_left_out s call here answered gone =
      let here_y : IsHere y.member s = subst (λ (m : Membership). IsHere m s) (sym same) here in
      let before = cannot_after t i j x y cannot in
      let after = load_after in
      elim (answered_cases (moment_between {a = any_call} {b = any_call} (before.later.ran honest_y) (after.later.ran honest)) answered) [
        | inl early ↦ sooner cannot s call here_y early gone
        | inr late ↦
            load_left_out t (IsCellOf y.member.array.geometry) gathered was read refusal y z loads honest s call here_y late gone
      ]
    where
      load_after : IsAfter y.told z.told
      load_after = after_join to_mid (out_after gathered.gone refusal (snapshot y.member loads.mid) z loads.leaves)

loaded_left_out : (t i j : ℕ) (into : Stripe) (answer : Result (Unit {0}) Refusal) (x y z : Snapshot) → CannotHave t i j x y
    → i < x.member.array.geometry.r → LoadsStripe t into answer y z → IsTrue z.told.honest → IsLeftOut x z
loaded_left_out t i j into _ x _ _ cannot row (LoadsStripe.Loaded was read gathered answer y z loads is) honest =
    stripe_left_out t i j gathered was read None x y z cannot row loads honest
loaded_left_out t i j into _ x _ _ cannot row (LoadsStripe.Stops was read gathered fault y z loads) honest =
    stripe_left_out t i j gathered was read (Some fault) x y z cannot row loads honest

pub read_left_out : (b : ℕ) (old after : Option Remembered) (answer : Result (List ℕ) Refusal) (x z : Snapshot) → Reads b old after answer x z → IsTrue z.told.honest → IsLeftOut x z
read_left_out b old _ _ _ _ (Reads.OutOf x past) honest = λ j call here was gone. absurd (never_answered j call x.told.history was)
read_left_out b old _ _ _ _ (Reads.Recalled one i j x known place) honest =
    λ s call here was gone. absurd (never_answered s call x.told.history was)
read_left_out b old _ _ _ _ (Reads.Own t i j bytes x y place asks reading) honest = own_left_out t i j x y asks honest
read_left_out b old _ _ _ _ (Reads.Restored t i j into x y z place cannot loads) honest =
    loaded_left_out t i j into _ x y z cannot place.place.row_in loads honest
read_left_out b old _ _ _ _ (Reads.Refused t i j into refusal x y z place cannot loads) honest =
    loaded_left_out t i j into _ x y z cannot place.place.row_in loads honest
