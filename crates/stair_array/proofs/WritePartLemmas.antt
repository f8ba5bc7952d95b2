-- How the cells of a write come to be known, and what that leads to, whether media come back or not.
use Rattle.std.proofs.Common.{◌≡◌, ℕ, ◌<◌, List, inl, inr, refl, sym, ap, ◌∙◌, subst, None, Some, Option}
use Rattle.std.specs.Prelude.{◌⊎◌, IsTrue, Result, Err}
use Rattle.stair_model.specs.CellSet.{CellSet, HasCell}
use Rattle.stair_model.specs.Geometry.{Geometry, data_cells}
use Rattle.stair_model.specs.Stripe.{Stripe, cell}
use Rattle.stair_rack.specs.Answers.{Ran, any_call}
use Rattle.stair_rack.specs.History.{Happening}
use Rattle.stair_rack.specs.Moments.{AtEveryMoment}
use Rattle.stair_rack.specs.Offline.{IsAttached}
use Rattle.stair_rack.proofs.MomentLemmas.{at_every_from, at_every_join, at_every_none, at_moment, moment_between, ran_before, ran_weakened}
use Rattle.stair_member.specs.declared.fault.FenceFault.{FenceFault}
use Rattle.stair_member.specs.declared.fault.FenceFault.TheVariants as fence
use Rattle.stair_stripes.specs.Gathering.{IsCellOf}
use Rattle.stair_stripes.specs.declared.gathering.Gathered.{Gathered}
use Rattle.stair_state.specs.Blocks.{Codewords}
use Rattle.stair_state.specs.Redoing.{AttachesNone}
use Rattle.stair_state.specs.State.{Content}
use Rattle.stair_invariant.specs.Effects.{Snapshot}
use Rattle.stair_invariant.specs.Leading.{rebuild_in}
use Rattle.stair_invariant.specs.Opening.{StaysArray}
use Rattle.stair_invariant.specs.Rebuilding.{Rebuild}
use Rattle.stair_invariant.specs.Returning.{Returning}
use Rattle.stair_invariant.proofs.BesideLemmas.{attached_on}
use Rattle.stair_invariant.proofs.Serving.{IsGoing, calm_sooner, LeadsReads, StaysWithinToleranceTo}
use Rattle.stair_invariant.proofs.StaysArrayLemmas.{stays_again}
use Rattle.stair_invariant.proofs.Mending.{calm_going}
use Rattle.stair_array.specs.Calls.{LoadsStripe, Prepares, refused}
use Rattle.stair_array.specs.Machine.{Refusal}
use Rattle.stair_array.proofs.CourseLemmas.{load_part}
use Rattle.stair_array.proofs.LeftServingLemmas.{serving_stands, StandsAt}
use Rattle.stair_array.proofs.GoneToLemmas.{attaches_none}
use Rattle.stair_array.proofs.LoadingLemmas.{Comes, IsRefusedAt, Serves, ServesOn, comes_so, load_live, load_serves, load_stops, same_serves, same_stays, stripe_comes, stripe_moments, LiveStill, serves_twice, stands_in_over}
use Rattle.stair_array.proofs.OpenStepLemmas.{calm_over, going_over}
use Rattle.stair_array.proofs.ReadCourseLemmas.{loaded_part}
use Rattle.stair_array.proofs.ReadDoneLemmas.{load_refused, stripe_refused}
use Rattle.stair_array.proofs.ReadPartLemmas.{HasLoaded, all_ran, going_mid, has_loaded, loading_moments, none_asked, read_same, stays_so, array_with}
use Rattle.stair_array.proofs.ServingLemmas.{going_sooner}

-- TWO PARTS IN TURN, of which the first left slots out

module _ (returning : Returning) (before : List Happening) (rebuild : Option Rebuild) (stopped : Option FenceFault) (words : Codewords)
    (kept : Content) (x y : Snapshot) (first : StaysArray x.member y.member) where
  -- a slot that is attached in the end was so in between, and was live then
  pub refused_on : LiveStill x y → (fault : FenceFault) (z : Snapshot)
      → ((j : ℕ) → IsAttached z.told.history j → IsAttached y.told.history j) → IsRefusedAt returning before words kept y.member fault z
      → IsRefusedAt returning before words kept x.member fault z
  refused_on live fault z attached at = record {
    array = at.array;
    mid = at.mid;
    gone = at.gone;
    leaves = at.leaves;
    serves = at.serves;
    stays = stays_again x.member y.member at.array.member first at.stays;
    here = at.here;
    off = at.off;
    live = λ j was on. at.live j (live j was (attached j on)) on;
  }

  pub comes_on : {Right Whole : Type 0} → (Right → Whole) → Serves returning before rebuild stopped words kept x x.told.history
      → ServesOn returning before rebuild stopped words kept x y → LiveStill x y → (answer : Result (Unit {0}) Refusal) (z : Snapshot)
      → ((j : ℕ) → IsAttached z.told.history j → IsAttached y.told.history j)
      → Comes returning before (rebuild_in y.member rebuild) None words kept Right y answer z
      → Comes returning before rebuild stopped words kept Whole x answer z
  comes_on so is then live _ _ attached (Comes.Has z serves stays live_z right) =
      Comes.Has z (serves_twice returning before (array_with rebuild stopped x) y.member z.member words kept z.told.history is.is_open.array first
      then.is_open.array
      stays serves) (stays_again x.member y.member z.member first stays)
      (λ j was on. live_z j (live j was (attached j on)) on) (so right)
  comes_on so is then live _ _ attached (Comes.Lacks refusal z serves stays not_final) =
      Comes.Lacks refusal z (serves_twice returning before (array_with rebuild stopped x) y.member z.member words kept z.told.history is.is_open.array
      first then.is_open.array
      stays serves)
      (stays_again x.member y.member z.member first stays) not_final
  comes_on so is then live _ _ attached (Comes.Stops fault z at) = Comes.Stops fault z (refused_on live fault z attached at)

-- THE CELLS OF A WRITE, of stripe t

-- the blocks fill the stripe, or what was loaded has its cells
abbrev pub IsKnown : Codewords → ℕ → ℕ → CellSet → Stripe → Snapshot → Type 0
IsKnown words t count cells loaded x =
    (count ≡ data_cells x.member.array.geometry) ⊎ ((i j : ℕ) → HasCell cells i j → cell (words t) i j ≡ cell loaded i j)

module _ (returning : Returning) (laws : LeadsReads returning) (before : List Happening) (rebuild : Option Rebuild) (stopped : Option FenceFault)
    (words : Codewords) (kept : Content) (t count : ℕ)
    (cells : CellSet) (loaded : Stripe) where
  abbrev Known : Snapshot → Type 0
  Known = IsKnown words t count cells loaded

  of_word : (x : Snapshot) → loaded ≡ words t → Known x
  of_word x same = inr (λ i j has. ap (λ (s : Stripe). cell s i j) (sym same))

  abbrev ServesAt : Snapshot → List Happening → Type 0
  ServesAt x h = Serves returning before rebuild stopped words kept x h

  abbrev InStripe : Snapshot → Type 0
  InStripe x = (i j : ℕ) → HasCell cells i j → IsCellOf x.member.array.geometry i j

  module _ (answer : Result (Unit {0}) Refusal) (gathered : Gathered) (was into : Stripe) (x y z : Snapshot)
      (loads : HasLoaded t (HasCell cells) gathered into None x y) (rest : LoadsStripe t loaded answer y z)
      (is : ServesAt x x.told.history) (honest_y : IsTrue y.told.honest) (honest : IsTrue z.told.honest)
      (later : Ran any_call y.told.history z.told.history) (beside : Ran attaches_none y.told.history z.told.history) where
    stays : StaysArray x.member y.member
    stays = stays_so returning laws before rebuild stopped words kept x is t gathered into None y loads honest_y

    upto : Ran any_call before y.told.history
    upto = all_ran returning laws before rebuild stopped words kept x is t gathered into None y loads honest_y

    serves_y : IsGoing returning x.member.array.geometry before y.told.history → ServesOn returning before rebuild stopped words kept x y
    serves_y on = load_serves returning laws before rebuild stopped words kept x is t gathered into y loads honest_y on

    going_y : (c : List Happening) → Ran any_call y.told.history c → IsGoing returning x.member.array.geometry before c
        → IsGoing returning x.member.array.geometry before y.told.history
    going_y c ran on = going_sooner returning x.member.array.geometry before y.told.history c upto ran on

    calm_y : (c : List Happening) → Ran any_call y.told.history c → StaysWithinToleranceTo returning x.member.array.geometry before c
        → StaysWithinToleranceTo returning x.member.array.geometry before y.told.history
    calm_y c ran calm =
        calm_sooner returning x.member.array.geometry before y.told.history c (moment_between {a = any_call} {b = any_call} upto ran) calm

    calm_next : (c : List Happening) → StaysWithinToleranceTo returning x.member.array.geometry before c
        → StaysWithinToleranceTo returning y.member.array.geometry before c
    calm_next c calm = calm_over returning y.member.array.geometry x.member.array.geometry before c stays.geometry calm

    after_moments : AtEveryMoment (StandsAt returning before x.member kept) x.told.history z.told.history
    after_moments =
        at_every_join {P = StandsAt returning before x.member kept}
        (loading_moments returning laws before rebuild stopped words kept x is t gathered into None y loads honest_y)
        (at_every_from {P = StandsAt returning before x.member kept} later.more later.is
        (λ c at calm image left.
        let so_far : Ran any_call y.told.history c = ran_before {allowed = any_call} later at in
        stands_in_over returning x.member y.member kept None image stays
        (at_moment {P = StandsAt returning before y.member kept}
        (stripe_moments returning laws before (rebuild_in y.member rebuild) None words kept y
        (serves_y (calm_going returning x.member.array.geometry before y.told.history upto (calm_y c so_far calm))) t loaded y
        (none_asked y) answer y z rest
        refl honest) at (calm_next c calm) image left)))

    after_comes : t < x.member.array.geometry.stripes → IsGoing returning x.member.array.geometry before z.told.history
        → Comes returning before rebuild stopped words kept (Known x) x answer z
    after_comes stripe on =
        let on_y = going_y z.told.history later on in
        let then = serves_y on_y in
        comes_on returning before rebuild stopped words kept x y stays (of_word x) is then
        (load_live returning laws before rebuild stopped words kept x is t gathered into y loads honest_y on_y) answer z
        (λ j attached.
        attached_on y.told.history z.told.history j
        (ran_weakened {allowed = attaches_none} {more = AttachesNone (λ i. i ≡ j)} (λ i c may at. may) beside) attached)
        (stripe_comes returning laws before (rebuild_in y.member rebuild) None words kept y then t loaded y (none_asked y)
        (subst (λ (g : Geometry). t < g.stripes) (sym stays.geometry) stripe) answer y z rest refl honest
        (going_over returning y.member.array.geometry x.member.array.geometry before z.told.history stays.geometry on))

    after_refused : t < x.member.array.geometry.stripes → StaysWithinToleranceTo returning x.member.array.geometry before z.told.history → (refusal : Refusal)
        → answer ≡ Err refusal → refusal ≡ refused fence.EpochsSpent
    after_refused stripe calm refusal same =
        stripe_refused returning laws before (rebuild_in y.member rebuild) None words kept y
        (serves_y (calm_going returning x.member.array.geometry before y.told.history upto (calm_y z.told.history later calm))) t loaded y
        (none_asked y) (subst (λ (g : Geometry). t < g.stripes) (sym stays.geometry) stripe) answer y z rest refl honest (calm_next z.told.history calm) refusal same

  -- ALL OF IT

  pub preparing_moments : (answer : Result (Unit {0}) Refusal) (x z : Snapshot) → Prepares t count cells loaded answer x z → ServesAt x x.told.history
      → InStripe x → IsTrue z.told.honest
      → AtEveryMoment (StandsAt returning before x.member kept) x.told.history z.told.history
  preparing_moments _ _ _ (Prepares.Filled x full) is inside honest =
      at_every_none {P = StandsAt returning before x.member kept} x.told.history
      (serving_stands returning laws before (array_with rebuild stopped x) words kept x.told.history (λ calm. is))
  preparing_moments _ _ _ (Prepares.ByCells gathered was x y few loads none) is inside honest =
      loading_moments returning laws before rebuild stopped words kept x is t gathered loaded None y
      (has_loaded t (HasCell cells) gathered was loaded None x x y (none_asked x) inside loads) honest
  preparing_moments _ _ _ (Prepares.Stops gathered was fault x y few loads) is inside honest =
      loading_moments returning laws before rebuild stopped words kept x is t gathered loaded (Some fault) y
      (has_loaded t (HasCell cells) gathered was loaded (Some fault) x x y (none_asked x) inside loads) honest
  preparing_moments _ _ _ (Prepares.AfterCells gathered was into i j answer x y z few loads erased rest) is inside honest =
      let first = load_part t (HasCell cells) gathered was into None x y loads is.is_open.array.member in
      let second = loaded_part t loaded answer y z rest first.rules in
      after_moments answer gathered was into x y z (has_loaded t (HasCell cells) gathered was into None x x y (none_asked x) inside loads) rest is
      (subst IsTrue (sym second.after.later.honest) honest) honest (second.after.later.ran honest) (second.after.beside honest)
  preparing_moments _ _ _ (Prepares.ByStripe i j answer x y few has out loads) is inside honest =
      stripe_moments returning laws before rebuild stopped words kept x is t loaded x (none_asked x) answer x y loads refl honest

  pub prepared : (answer : Result (Unit {0}) Refusal) (x z : Snapshot) → Prepares t count cells loaded answer x z → ServesAt x x.told.history
      → InStripe x → t < x.member.array.geometry.stripes → IsTrue z.told.honest
      → IsGoing returning x.member.array.geometry before z.told.history → Comes returning before rebuild stopped words kept (Known x) x answer z
  prepared _ _ _ (Prepares.Filled x full) is inside stripe honest on =
      Comes.Has x (same_serves returning laws before rebuild stopped words kept x x refl honest is on)
      (same_stays returning laws before rebuild stopped words kept x x refl is) (λ j live on. live) (inl full)
  prepared _ _ _ (Prepares.ByCells gathered was x y few loads none) is inside stripe honest on =
      let l = has_loaded t (HasCell cells) gathered was loaded None x x y (none_asked x) inside loads in
      Comes.Has y (load_serves returning laws before rebuild stopped words kept x is t gathered loaded y l honest on)
      (stays_so returning laws before rebuild stopped words kept x is t gathered loaded None y l honest)
      (load_live returning laws before rebuild stopped words kept x is t gathered loaded y l honest on)
      (inr (λ i j has.
      read_same returning laws before rebuild stopped words kept x is t gathered loaded None y l honest
      (going_mid returning laws before rebuild stopped words kept x is t gathered loaded None y l honest on) stripe i j has (none i j)))
  prepared _ _ _ (Prepares.Stops gathered was fault x y few loads) is inside stripe honest on =
      Comes.Stops fault y
      (load_stops returning laws before rebuild stopped words kept x is t gathered loaded fault y
      (has_loaded t (HasCell cells) gathered was loaded (Some fault) x x y (none_asked x) inside loads) honest on)
  prepared _ _ _ (Prepares.AfterCells gathered was into i j answer x y z few loads erased rest) is inside stripe honest on =
      let first = load_part t (HasCell cells) gathered was into None x y loads is.is_open.array.member in
      let second = loaded_part t loaded answer y z rest first.rules in
      after_comes answer gathered was into x y z (has_loaded t (HasCell cells) gathered was into None x x y (none_asked x) inside loads) rest is
      (subst IsTrue (sym second.after.later.honest) honest) honest (second.after.later.ran honest) (second.after.beside honest) stripe on
  prepared _ _ _ (Prepares.ByStripe i j answer x y few has out loads) is inside stripe honest on =
      comes_so returning before rebuild stopped words kept x (of_word x) answer y
      (stripe_comes returning laws before rebuild stopped words kept x is t loaded x (none_asked x) stripe answer x y loads refl honest on)

  -- nothing is refused in it but an epoch of which no number is left to draw
  pub prepares_refused : (answer : Result (Unit {0}) Refusal) (x z : Snapshot) → Prepares t count cells loaded answer x z → ServesAt x x.told.history
      → InStripe x → t < x.member.array.geometry.stripes → IsTrue z.told.honest
      → StaysWithinToleranceTo returning x.member.array.geometry before z.told.history → (refusal : Refusal) → answer ≡ Err refusal
      → refusal ≡ refused fence.EpochsSpent
  prepares_refused _ _ _ (Prepares.Filled x full) is inside stripe honest calm refusal same = absurd (cc)
  prepares_refused _ _ _ (Prepares.ByCells gathered was x y few loads none) is inside stripe honest calm refusal same = absurd (cc)
  prepares_refused _ _ _ (Prepares.Stops gathered was fault x y few loads) is inside stripe honest calm refusal same =
      let one : refused fault ≡ refusal = cc in
      sym one
      ∙ load_refused returning laws before rebuild stopped words kept x is t gathered loaded fault y
      (has_loaded t (HasCell cells) gathered was loaded (Some fault) x x y (none_asked x) inside loads) honest calm
  prepares_refused _ _ _ (Prepares.AfterCells gathered was into i j answer x y z few loads erased rest) is inside stripe honest calm refusal same =
      let first = load_part t (HasCell cells) gathered was into None x y loads is.is_open.array.member in
      let second = loaded_part t loaded answer y z rest first.rules in
      after_refused answer gathered was into x y z (has_loaded t (HasCell cells) gathered was into None x x y (none_asked x) inside loads) rest is
      (subst IsTrue (sym second.after.later.honest) honest) honest (second.after.later.ran honest) (second.after.beside honest) stripe calm refusal same
  prepares_refused _ _ _ (Prepares.ByStripe i j answer x y few has out loads) is inside stripe honest calm refusal same =
      stripe_refused returning laws before rebuild stopped words kept x is t loaded x
      (none_asked x) stripe answer x y loads refl honest calm refusal same
