-- What loading cells of a stripe comes to, whether media come back or not.
use Rattle.std.proofs.Common.{◌≡◌, ℕ, ◌<◌, List, refl, sym, ◌∙◌, subst, None, Some, Option}
use Rattle.std.specs.Prelude.{IsTrue, Result, Ok, Err}
use Rattle.std.proofs.lemmas.Bool.{true≢false}
use Rattle.stair_model.specs.Geometry.{Geometry}
use Rattle.stair_model.specs.Slots.{HasSlot, Slots, no_slots}
use Rattle.stair_model.specs.Stripe.{Stripe}
use Rattle.stair_model.proofs.SetLaws.{has_slot-none}
use Rattle.stair_rack.specs.Answers.{any_call}
use Rattle.stair_rack.specs.History.{Happening}
use Rattle.stair_rack.specs.History as history
use Rattle.stair_rack.specs.Media.{Image}
use Rattle.stair_rack.specs.Moments.{AtEveryMoment}
use Rattle.stair_rack.specs.Offline.{IsAttached, IsOfflineUntilAttached}
use Rattle.stair_rack.specs.RackState.{RackState}
use Rattle.stair_rack.proofs.MomentLemmas.{ran_weakened}
use Rattle.stair_rack.proofs.OfflineLemmas.{stopped_on}
use Rattle.stair_member.specs.Membership.{IsHere, Membership}
use Rattle.stair_member.specs.declared.fault.FenceFault.{FenceFault}
use Rattle.stair_stripes.specs.Gathering.{IsCellOf}
use Rattle.stair_stripes.specs.declared.gathering.Gathered.{Gathered}
use Rattle.stair_state.specs.Blocks.{Codewords}
use Rattle.stair_state.specs.Redoing.{AttachesNone}
use Rattle.stair_state.specs.State.{Content, Change}
use Rattle.stair_invariant.specs.Effects.{FencesGone, NoneWas, Snapshot, snapshot}
use Rattle.stair_invariant.specs.Leading.{led_to}
use Rattle.stair_invariant.specs.Opening.{StaysArray}
use Rattle.stair_invariant.specs.Rebuilding.{Rebuild}
use Rattle.stair_invariant.specs.Returning.{Returning, StandsFor, StandsForAlone}
use Rattle.stair_invariant.specs.Session.{ArrayState, IsLiveIn, seats_in, IsArray}
use Rattle.stair_invariant.proofs.BesideLemmas.{attached_on}
use Rattle.stair_invariant.proofs.OpenWithLemmas.{amid_of}
use Rattle.stair_invariant.proofs.OwnPartLemmas.{stays_live}
use Rattle.stair_invariant.proofs.Serving.{StaysWithinToleranceTo, IsGoing, IsServing, LeadsReads, StandsAs, StandsIn}
use Rattle.stair_invariant.proofs.StaysArrayLemmas.{drops_twice, left_stays}
use Rattle.stair_array.specs.Calls.{IsLoaded, LoadsStripe, refused}
use Rattle.stair_array.specs.Machine.{IsFinal, Refusal}
use Rattle.stair_array.proofs.GoneToLemmas.{attaches_none}
use Rattle.stair_array.proofs.LedOnLemmas.{led_again}
use Rattle.stair_array.proofs.LeftServingLemmas.{StandsAt, leaving_refused}
use Rattle.stair_array.proofs.OpenStepLemmas.{calm_over}
use Rattle.stair_array.proofs.PartsLemmas.{out_after}
use Rattle.stair_array.proofs.ReadPartLemmas.{HasAsked, HasLoaded, array_with, going_mid, gone_here, gone_off, loading_moments, ran_leaving, restored, serves_mid, stays_so, whole_loaded, all_ran}
use Rattle.stair_array.proofs.ServingLemmas.{going_on}

-- WHERE AN EPOCH WAS REFUSED

-- Slots that were gone to reads were to be left out by an array that served on, and that was refused. Each slot that was live at first and is
-- attached in the end was live to it.
pub record IsRefusedAt (returning : Returning) (before : List Happening) (words : Codewords) (kept : Content) (m : Membership) (fault : FenceFault)
    (z : Snapshot) : Type 0 where
  pub array : ArrayState
  pub mid : RackState
  pub gone : Slots
  pub leaves : FencesGone gone (Some fault) (snapshot array.member mid) z
  pub serves : IsServing returning before array words kept mid.history
  pub stays : StaysArray m array.member
  pub here : (j : ℕ) → HasSlot gone j → IsHere array.member j
  pub off : (j : ℕ) → HasSlot gone j → IsOfflineUntilAttached before mid.history j
  pub live : (j : ℕ) → IsLiveIn m j → IsAttached z.told.history j → IsLiveIn array.member j

-- what represents a later member's state does so for the first one's
pub stands_over : (returning : Returning) (m n : Membership) (kept : Content) (doubt : Option Change) (h : List Happening) → StaysArray m n
    → StandsAs returning n kept doubt h → StandsAs returning m kept doubt h
stands_over returning m n kept doubt h stays is = record {
  array = is.array;
  stands =
      subst
      (λ (g : Geometry). StandsFor returning (record { geometry = g; content = kept; in_doubt = doubt; seats = Some (seats_in is.array) }) h)
      stays.geometry is.stands;
  dropped = drops_twice (seats_in m.array) (seats_in n.array) (seats_in is.array) stays.seats is.dropped;
}

pub stands_in_over : (returning : Returning) (m n : Membership) (kept : Content) (doubt : Option Change) (image : Image) → StaysArray m n
    → StandsIn returning n kept doubt image → StandsIn returning m kept doubt image
stands_in_over returning m n kept doubt image stays is = record {
  array = is.array;
  stands =
      subst
      (λ (g : Geometry). StandsForAlone returning (record { geometry = g; content = kept; in_doubt = doubt; seats = Some (seats_in is.array) }) image)
      stays.geometry is.stands;
  dropped = drops_twice (seats_in m.array) (seats_in n.array) (seats_in is.array) stays.seats is.dropped;
}

-- what is led to twice is led to at once
pub serves_twice : (returning : Returning) (before : List Happening) (a : ArrayState) (y z : Membership) (words : Codewords) (kept : Content)
    (h : List Happening) → IsArray a → StaysArray a.member y → IsArray (led_to a y) → StaysArray y z
    → IsServing returning before (led_to (led_to a y) z) words kept h → IsServing returning before (led_to a z) words kept h
serves_twice returning before a y z words kept h array first then stays is = record {
  is_open = led_again before a y z words h array first then stays is.is_open;
  history = is.history;
  of = is.of;
  knows = is.knows;
}

-- within tolerance the rack represents the array then
pub refused_stands : (returning : Returning) → LeadsReads returning → (before : List Happening) (words : Codewords) (kept : Content) (m : Membership)
    (fault : FenceFault) (z : Snapshot) → IsRefusedAt returning before words kept m fault z → IsTrue z.told.honest
    → StaysWithinToleranceTo returning m.array.geometry before z.told.history → StandsAs returning m kept None z.told.history
refused_stands returning laws before words kept m fault z at honest calm =
    stands_over returning m at.array.member kept None z.told.history at.stays
    (leaving_refused returning laws before at.array words kept at.gone (Some fault) at.mid z at.leaves honest at.serves at.here
    (λ j has live. at.off j has) fault refl
    (calm_over returning at.array.member.array.geometry m.array.geometry before z.told.history at.stays.geometry calm))

-- the array serves; it serves on, without slots that were gone
abbrev pub Serves : Returning → List Happening → Option Rebuild → Option FenceFault → Codewords → Content → Snapshot → List Happening → Type 0
Serves returning before rebuild stopped words kept x h = IsServing returning before (array_with rebuild stopped x) words kept h

abbrev pub ServesOn : Returning → List Happening → Option Rebuild → Option FenceFault → Codewords → Content → Snapshot → Snapshot → Type 0
ServesOn returning before rebuild stopped words kept x y =
    IsServing returning before (led_to (array_with rebuild stopped x) y.member) words kept y.told.history

-- a slot that was live, and is attached still, is live still
abbrev pub LiveStill : Snapshot → Snapshot → Type 0
LiveStill x y = (j : ℕ) → IsLiveIn x.member j → IsAttached y.told.history j → IsLiveIn y.member j

module _ (returning : Returning) (before : List Happening) (rebuild : Option Rebuild) (stopped : Option FenceFault) (words : Codewords)
    (kept : Content) where
  -- The array serves on, and this is so; or it serves on and is refused what isn't an epoch; or an epoch was refused.
  pub data Comes (Right : Type 0) (x : Snapshot) : Result (Unit {0}) Refusal → Snapshot → Type 0 where
    Has : (y : Snapshot) → ServesOn returning before rebuild stopped words kept x y → StaysArray x.member y.member → LiveStill x y → Right
        → Comes Right x (Ok tt) y
    Lacks : (refusal : Refusal) (y : Snapshot) → ServesOn returning before rebuild stopped words kept x y → StaysArray x.member y.member
        → ¬ IsFinal refusal → Comes Right x (Err refusal) y
    Stops : (fault : FenceFault) (y : Snapshot) → IsRefusedAt returning before words kept x.member fault y → Comes Right x (Err (refused fault)) y

  -- what follows from it is so then
  pub comes_so : {Right Whole : Type 0} (x : Snapshot) → (Right → Whole) → (answer : Result (Unit {0}) Refusal)
      (y : Snapshot) → Comes Right x answer y → Comes Whole x answer y
  comes_so x so _ _ (Has y serves stays live right) = Has y serves stays live (so right)
  comes_so x so _ _ (Lacks refusal y serves stays not_final) = Lacks refusal y serves stays not_final
  comes_so x so _ _ (Stops fault y at) = Stops fault y at

module _ (returning : Returning) (laws : LeadsReads returning) (before : List Happening) (rebuild : Option Rebuild) (stopped : Option FenceFault)
    (words : Codewords) (kept : Content) where
  -- an array of which no slot was gone serves on
  pub same_serves : (x y : Snapshot) → y.member ≡ x.member → IsTrue y.told.honest → Serves returning before rebuild stopped words kept x y.told.history
      → IsGoing returning x.member.array.geometry before y.told.history → ServesOn returning before rebuild stopped words kept x y
  same_serves x y same honest is on =
      laws.left before (array_with rebuild stopped x) words kept no_slots y.told y is (NoneWas none alike refl) honest
      (λ j has. absurd (none j has)) on
    where
      none : (j : ℕ) → ¬ HasSlot no_slots j
      none j has = absurd (true≢false (sym has ∙ has_slot-none j))

      alike : y ≡ snapshot x.member y.told
      alike = λ i. record { member = same i; told = y.told }

  pub same_stays : (x y : Snapshot) → y.member ≡ x.member → Serves returning before rebuild stopped words kept x x.told.history
      → StaysArray x.member y.member
  same_stays x y same is =
      left_stays no_slots None x (snapshot y.member x.told)
      (NoneWas (λ j has. absurd (true≢false (sym has ∙ has_slot-none j))) (λ i. record { member = same i; told = x.told }) refl)
      is.is_open.array.member

  module _ (x : Snapshot) (is : Serves returning before rebuild stopped words kept x x.told.history) where
    -- CELLS THAT WERE GATHERED

    module _ (t : ℕ) {wanted : ℕ → ℕ → Type 0} (gathered : Gathered) (read : Stripe) where
      -- over the slots that are left
      pub load_serves : (z : Snapshot) → HasLoaded t wanted gathered read None x z → IsTrue z.told.honest
          → IsGoing returning x.member.array.geometry before z.told.history → ServesOn returning before rebuild stopped words kept x z
      load_serves z l honest on =
          laws.left before (array_with rebuild stopped x) words kept gathered.gone l.mid z
          (serves_mid returning laws before rebuild stopped words kept x is t gathered read None z l honest
          (going_mid returning laws before rebuild stopped words kept x is t gathered read None z l honest on))
          l.leaves honest (gone_here returning laws before rebuild stopped words kept x is t gathered read None z l honest) on

      -- or the epoch without the others was refused
      pub load_stops : (fault : FenceFault) (z : Snapshot) → HasLoaded t wanted gathered read (Some fault) x z → IsTrue z.told.honest
          → IsGoing returning x.member.array.geometry before z.told.history → IsRefusedAt returning before words kept x.member fault z
      load_stops fault z l honest on = record {
        array = array_with rebuild stopped x;
        mid = l.mid;
        gone = gathered.gone;
        leaves = l.leaves;
        serves =
            serves_mid returning laws before rebuild stopped words kept x is t gathered read (Some fault) z l honest
            (going_mid returning laws before rebuild stopped words kept x is t gathered read (Some fault) z l honest on);
        stays = same_stays x x refl is;
        here = gone_here returning laws before rebuild stopped words kept x is t gathered read (Some fault) z l honest;
        off = gone_off returning laws before rebuild stopped words kept x is t gathered read (Some fault) z l honest;
        live = λ j live attached. live;
      }

      -- a live slot that was gone isn't attached any more
      pub load_live : (z : Snapshot) → HasLoaded t wanted gathered read None x z → IsTrue z.told.honest
          → IsGoing returning x.member.array.geometry before z.told.history → LiveStill x z
      load_live z l honest on j live attached =
          stays_live gathered.gone before (array_with rebuild stopped x) None l.mid z j
          (amid_of before (array_with rebuild stopped x) words l.mid.history mid.is_open) l.leaves refl honest going live
          (λ was. (mid.is_open.live j live was).large) stays_out attached
        where
          going : ¬ IsTrue (history.stopped z.told.history)
          going =
              going_on returning x.member.array.geometry before z.told.history
              (all_ran returning laws before rebuild stopped words kept x is t gathered read None z l honest) on

          mid : Serves returning before rebuild stopped words kept x l.mid.history
          mid =
              serves_mid returning laws before rebuild stopped words kept x is t gathered read None z l honest
              (going_mid returning laws before rebuild stopped words kept x is t gathered read None z l honest on)

          by : IsOfflineUntilAttached before l.mid.history j → ⊥
          by (IsOfflineUntilAttached.RackStopped stops) =
              going
              (stopped_on {allowed = any_call} (ran_leaving returning laws before rebuild stopped words kept x is t gathered read None z l honest)
              stops)
          by (IsOfflineUntilAttached.Unattached off pulled) =
              let was : IsAttached l.mid.history j =
              attached_on l.mid.history z.told.history j
              (ran_weakened {allowed = attaches_none} {more = AttachesNone (λ i. i ≡ j)} (λ i c may at. may)
              ((out_after gathered.gone None (snapshot x.member l.mid) z l.leaves).beside honest)) attached in
              true≢false (sym was ∙ off)

          stays_out : ¬ HasSlot gathered.gone j
          stays_out has = by (gone_off returning laws before rebuild stopped words kept x is t gathered read None z l honest j has)

    -- A STRIPE, after what was asked for

    module _ (t : ℕ) (into : Stripe) (y : Snapshot) (asked : HasAsked x y) where
      pub stripe_moments : (answer : Result (Unit {0}) Refusal) (u z : Snapshot) → LoadsStripe t into answer u z → u ≡ y → IsTrue z.told.honest
          → AtEveryMoment (StandsAt returning before x.member kept) x.told.history z.told.history
      stripe_moments _ _ _ (LoadsStripe.Loaded was read gathered answer u z loads given) at honest =
          loading_moments returning laws before rebuild stopped words kept x is t gathered read None z
          (whole_loaded t gathered was read None x u z (subst (HasAsked x) (sym at) asked) loads) honest
      stripe_moments _ _ _ (LoadsStripe.Stops was read gathered fault u z loads) at honest =
          loading_moments returning laws before rebuild stopped words kept x is t gathered read (Some fault) z
          (whole_loaded t gathered was read (Some fault) x u z (subst (HasAsked x) (sym at) asked) loads) honest

      -- it was loaded as it is
      pub stripe_comes : t < x.member.array.geometry.stripes → (answer : Result (Unit {0}) Refusal) (u z : Snapshot) → LoadsStripe t into answer u z
          → u ≡ y → IsTrue z.told.honest → IsGoing returning x.member.array.geometry before z.told.history
          → Comes returning before rebuild stopped words kept (into ≡ words t) x answer z
      stripe_comes stripe _ _ _ (LoadsStripe.Stops was read gathered fault u z loads) at honest on =
          Stops fault z
          (load_stops t gathered read fault z (whole_loaded t gathered was read (Some fault) x u z (subst (HasAsked x) (sym at) asked) loads) honest on)
      stripe_comes stripe _ _ _ (LoadsStripe.Loaded was read gathered answer u z loads given) at honest on = by answer given
        where
          now : HasAsked x u
          now = subst (HasAsked x) (sym at) asked

          l : HasLoaded t (IsCellOf x.member.array.geometry) gathered read None x z
          l = whole_loaded t gathered was read None x u z now loads

          serves : ServesOn returning before rebuild stopped words kept x z
          serves = load_serves t gathered read z l honest on

          stays : StaysArray x.member z.member
          stays = stays_so returning laws before rebuild stopped words kept x is t gathered read None z l honest

          by : (answer : Result (Unit {0}) Refusal) → IsLoaded u.member.array.geometry t gathered.erased read into answer
              → Comes returning before rebuild stopped words kept (into ≡ words t) x answer z
          by (Err refusal) lost = Lacks refusal z serves stays (λ final. subst IsFinal lost.1.1 final)
          by (Ok done) loaded =
              Has z serves stays (load_live t gathered read z l honest on)
              (restored returning laws before rebuild stopped words kept x is t gathered read None z l honest (λ i j inside. inside)
              (going_mid returning laws before rebuild stopped words kept x is t gathered read None z l honest on) stripe into
              (subst (λ (m : Membership). IsLoaded m.array.geometry t gathered.erased read into (Ok tt)) now.member loaded))
