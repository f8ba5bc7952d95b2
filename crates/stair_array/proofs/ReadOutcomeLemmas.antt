-- What a read of a block comes to, whether media come back or not.
use Rattle.std.proofs.Common.{◌≡◌, ℕ, ◌<◌, List, refl, sym, ap, ◌∙◌, subst, Option}
use Rattle.std.specs.Prelude.{IsTrue, Result, Ok, Err}
use Rattle.stair_model.specs.Geometry.{block_count}
use Rattle.stair_model.specs.Stripe.{Stripe, cell}
use Rattle.stair_rack.specs.Answers.{any_call}
use Rattle.stair_rack.specs.History.{Happening}
use Rattle.stair_rack.specs.Moments.{AtEveryMoment}
use Rattle.stair_rack.proofs.MomentLemmas.{at_every_none, ran_any, ran_join}
use Rattle.stair_member.specs.declared.fault.FenceFault.{FenceFault}
use Rattle.stair_state.specs.Blocks.{Codewords}
use Rattle.stair_state.specs.State.{Content}
use Rattle.stair_state.proofs.BlockLemmas as blocks
use Rattle.stair_invariant.specs.Effects.{Snapshot}
use Rattle.stair_invariant.specs.Rebuilding.{Rebuild}
use Rattle.stair_invariant.specs.Returning.{Returning}
use Rattle.stair_invariant.specs.Session.{IsRememberedIn, Remembered}
use Rattle.stair_invariant.proofs.Serving.{any_read, LeadsReads, StaysWithinToleranceTo}
use Rattle.stair_invariant.proofs.Mending.{calm_going}
use Rattle.stair_array.specs.Calls.{Reads, refused}
use Rattle.stair_array.specs.Machine.{IsFinal, Refusal}
use Rattle.stair_array.proofs.KeptStepLemmas.{Gives, Lacks, Outcome, Stops}
use Rattle.stair_array.proofs.LeftServingLemmas.{reading_stands, serving_stands, StandsAt}
use Rattle.stair_array.proofs.LoadingLemmas.{Comes, Serves, refused_stands, same_serves, same_stays, stripe_comes, stripe_moments}
use Rattle.stair_array.proofs.PartsLemmas.{part_join}
use Rattle.stair_array.proofs.ReadCourseLemmas.{cannot_part, loaded_part}
use Rattle.stair_array.proofs.ReadPartLemmas.{array_with, asked_of, has_asked, placed_in}
use Rattle.stair_array.proofs.ServingLemmas.{read_good}

-- what is asked of a block before it is read, and what is read of it
abbrev pub IsInside : ℕ → Snapshot → Type 0
IsInside b x = b < block_count x.member.array.geometry

abbrev pub IsBlock : ℕ → Content → List ℕ → Type 0
IsBlock b kept bytes = bytes ≡ kept.blocks b

module _ (returning : Returning) (laws : LeadsReads returning) (before : List Happening) (rebuild : Option Rebuild) (stopped : Option FenceFault)
    (words : Codewords) (kept : Content) where
  module _ (b : ℕ) where
    abbrev pub ReadOutcome : Snapshot → Result (List ℕ) Refusal → Snapshot → Type 0
    ReadOutcome x answer y = Outcome returning before rebuild stopped words kept x (List ℕ) (IsInside b x) (IsBlock b kept) answer y

    abbrev ServesAt : Snapshot → List Happening → Type 0
    ServesAt x h = Serves returning before rebuild stopped words kept x h

    abbrev CalmAt : Snapshot → List Happening → Type 0
    CalmAt x h = StaysWithinToleranceTo returning x.member.array.geometry before h

    -- by its stripe, which was loaded
    module _ (x : Snapshot) (inside : b < block_count x.member.array.geometry) (t : ℕ) (into : Stripe) (u : Snapshot)
        (honest : IsTrue u.told.honest) (calm : CalmAt x u.told.history) where
      abbrev Loading : Result (Unit {0}) Refusal → Snapshot → Type 0
      Loading = Comes returning before rebuild stopped words kept (into ≡ words t) x

      was_had : (bytes : List ℕ) → (into ≡ words t → bytes ≡ kept.blocks b) → (answer : Result (Unit {0}) Refusal) (z : Snapshot) → Loading answer z
          → answer ≡ Ok tt → ReadOutcome x (Ok bytes) z
      was_had bytes right _ _ (Comes.Has z serves stays live same) fine = Gives bytes z serves stays inside (right same)
      was_had bytes right _ _ (Comes.Lacks refusal z serves stays not_final) fine = absurd (cc)
      was_had bytes right _ _ (Comes.Stops fault z at) fine = absurd (cc)

      was_refused : (refusal : Refusal) (answer : Result (Unit {0}) Refusal) (z : Snapshot) → Loading answer z → z ≡ u → answer ≡ Err refusal
          → ReadOutcome x (Err refusal) z
      was_refused refusal _ _ (Comes.Has z serves stays live same) ends fine = absurd (cc)
      was_refused refusal _ _ (Comes.Lacks other z serves stays not_final) ends fine =
          Lacks refusal z serves stays (λ final. not_final (subst IsFinal (let one : refusal ≡ other = cc in one) final))
      was_refused refusal _ _ (Comes.Stops fault z at) ends fine =
          let stands =
          refused_stands returning laws before words kept x.member fault z at (subst (λ (p : Snapshot). IsTrue p.told.honest) (sym ends) honest)
          (subst (λ (p : Snapshot). CalmAt x p.told.history) (sym ends) calm) in
          subst (λ (r : Refusal). ReadOutcome x (Err r) z) (let one : refused fault ≡ refusal = cc in one) (Stops fault z inside stands)

    -- ALL OF IT

    pub moments : (old after : Option Remembered) (answer : Result (List ℕ) Refusal) (x z : Snapshot) → Reads b old after answer x z → ServesAt x x.told.history → IsTrue z.told.honest
        → AtEveryMoment (StandsAt returning before x.member kept) x.told.history z.told.history
    moments old _ _ _ _ (Reads.OutOf x past) is honest =
        at_every_none {P = StandsAt returning before x.member kept} x.told.history
        (serving_stands returning laws before (array_with rebuild stopped x) words kept x.told.history (λ calm. is))
    moments old _ _ _ _ (Reads.Recalled one i j x known place) is honest =
        at_every_none {P = StandsAt returning before x.member kept} x.told.history
        (serving_stands returning laws before (array_with rebuild stopped x) words kept x.told.history (λ calm. is))
    moments old _ _ _ _ (Reads.Own t i j bytes x y place asks reading) is honest =
        reading_stands returning laws before (array_with rebuild stopped x) words kept x.told.history y.told.history is
        ((asked_of t i j x y asks).ran honest)
    moments old _ _ _ _ (Reads.Restored t i j into x y z place cannot loads) is honest =
        stripe_moments returning laws before rebuild stopped words kept x is t into y (has_asked t i j x y cannot) (Ok tt) y z loads refl honest
    moments old _ _ _ _ (Reads.Refused t i j into refusal x y z place cannot loads) is honest =
        stripe_moments returning laws before rebuild stopped words kept x is t into y (has_asked t i j x y cannot) (Err refusal) y z loads refl honest

    pub outcome : (old after : Option Remembered) (answer : Result (List ℕ) Refusal) (x z : Snapshot) → Reads b old after answer x z → IsRememberedIn words old → ServesAt x x.told.history → IsTrue z.told.honest
        → CalmAt x z.told.history → ReadOutcome x answer z
    outcome old _ _ _ _ (Reads.OutOf x past) kept_in is honest calm =
        Lacks _ x
        (same_serves returning laws before rebuild stopped words kept x x refl honest is
        (calm_going returning x.member.array.geometry before x.told.history is.is_open.ran calm))
        (same_stays returning laws before rebuild stopped words kept x x refl is) (λ final. absurd final)
    outcome old _ _ _ _ (Reads.Recalled one i j x known place) kept_in is honest calm =
        let limits = is.is_open.array.member.array.limits in
        let same : one.cells ≡ words one.stripe = subst (IsRememberedIn words) known kept_in in
        Gives (cell one.cells i j) x
        (same_serves returning laws before rebuild stopped words kept x x refl honest is
        (calm_going returning x.member.array.geometry before x.told.history is.is_open.ran calm))
        (same_stays returning laws before rebuild stopped words kept x x refl is) place.below
        (ap (λ (s : Stripe). cell s i j) same
        ∙ blocks.at x.member.array.geometry kept.blocks words b one.stripe i j limits is.of.encodings place.below place.place)
    outcome old _ _ _ _ (Reads.Own t i j bytes x y place asks reading) kept_in is honest calm =
        let asked = asked_of t i j x y asks in
        let limits = is.is_open.array.member.array.limits in
        let stripe = placed_in x.member.array.geometry b t i j limits place.below place.place in
        let on =
        calm_going returning x.member.array.geometry before y.told.history
        (ran_join {allowed = any_call} is.is_open.ran (ran_any {allowed = any_read} (asked.ran honest))) calm in
        Gives bytes y
        (same_serves returning laws before rebuild stopped words kept x y asked.member honest
        (laws.reads before (array_with rebuild stopped x) words kept x.told.history y.told.history is (asked.ran honest) on)
        on) (same_stays returning laws before rebuild stopped words kept x y asked.member is) place.below
        (read_good returning laws before (array_with rebuild stopped x) words kept x.told.history y.told.history is (asked.ran honest) on
        t i j asks.live stripe place.place.row_in bytes (reading honest)
        ∙ blocks.at x.member.array.geometry kept.blocks words b t i j limits is.of.encodings place.below place.place)
    outcome old _ _ _ _ (Reads.Restored t i j into x y z place cannot loads) kept_in is honest calm =
        let limits = is.is_open.array.member.array.limits in
        let stripe = placed_in x.member.array.geometry b t i j limits place.below place.place in
        let first = cannot_part t i j x y cannot is.is_open.array.member in
        let ran = (part_join 0 0 x y z first (loaded_part t into (Ok tt) y z loads first.rules)).after.later.ran honest in
        was_had x place.below t into z honest calm (cell into i j)
        (λ same.
        ap (λ (s : Stripe). cell s i j) same
        ∙ blocks.at x.member.array.geometry kept.blocks words b t i j limits is.of.encodings place.below place.place) (Ok tt) z
        (stripe_comes returning laws before rebuild stopped words kept x is t into y (has_asked t i j x y cannot) stripe (Ok tt) y z loads refl honest
        (calm_going returning x.member.array.geometry before z.told.history (ran_join {allowed = any_call} is.is_open.ran ran) calm)) refl
    outcome old _ _ _ _ (Reads.Refused t i j into refusal x y z place cannot loads) kept_in is honest calm =
        let limits = is.is_open.array.member.array.limits in
        let stripe = placed_in x.member.array.geometry b t i j limits place.below place.place in
        let first = cannot_part t i j x y cannot is.is_open.array.member in
        let ran = (part_join 0 0 x y z first (loaded_part t into (Err refusal) y z loads first.rules)).after.later.ran honest in
        was_refused x place.below t into z honest calm refusal (Err refusal) z
        (stripe_comes returning laws before rebuild stopped words kept x is t into y (has_asked t i j x y cannot) stripe
        (Err refusal) y z loads refl honest
        (calm_going returning x.member.array.geometry before z.told.history (ran_join {allowed = any_call} is.is_open.ran ran) calm)) refl refl

    -- and what is remembered then is of the stripes that it serves, as what was remembered before
    pub remembers : (old after : Option Remembered) (answer : Result (List ℕ) Refusal) (x z : Snapshot) → Reads b old after answer x z
        → IsRememberedIn words old → ServesAt x x.told.history → IsTrue z.told.honest → CalmAt x z.told.history → IsRememberedIn words after
    remembers old _ _ _ _ (Reads.OutOf x past) kept_in is honest calm = kept_in
    remembers old _ _ _ _ (Reads.Recalled one i j x known place) kept_in is honest calm = kept_in
    remembers old _ _ _ _ (Reads.Own t i j bytes x y place asks reading) kept_in is honest calm = kept_in
    remembers old _ _ _ _ (Reads.Restored t i j into x y z place cannot loads) kept_in is honest calm =
        let limits = is.is_open.array.member.array.limits in
        let stripe = placed_in x.member.array.geometry b t i j limits place.below place.place in
        let first = cannot_part t i j x y cannot is.is_open.array.member in
        let ran = (part_join 0 0 x y z first (loaded_part t into (Ok tt) y z loads first.rules)).after.later.ran honest in
        was_restored (Ok tt) z
        (stripe_comes returning laws before rebuild stopped words kept x is t into y (has_asked t i j x y cannot) stripe (Ok tt) y z loads refl honest
        (calm_going returning x.member.array.geometry before z.told.history (ran_join {allowed = any_call} is.is_open.ran ran) calm)) refl
      where
        was_restored : (answer : Result (Unit {0}) Refusal) (u : Snapshot) → Comes returning before rebuild stopped words kept (into ≡ words t) x answer u
            → answer ≡ Ok tt → into ≡ words t
        was_restored _ _ (Comes.Has u serves stays live same) fine = same
        was_restored _ _ (Comes.Lacks refusal u serves stays not_final) fine = absurd (cc)
        was_restored _ _ (Comes.Stops fault u at) fine = absurd (cc)
    remembers old _ _ _ _ (Reads.Refused t i j into refusal x y z place cannot loads) kept_in is honest calm = tt
