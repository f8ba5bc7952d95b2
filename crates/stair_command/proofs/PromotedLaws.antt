-- A slot becomes live by a promotion alone.
use Rattle.std.proofs.Common.{◌≡◌, ◌≢◌, ◌∙◌, ◌<◌, ◌⊎◌, ℕ, List, [], ◌∷◌, Result, Ok, Err, Option, None, Some, inl, inr, refl, sym, ap, subst}
use Rattle.std.specs.Prelude.{Bool}
use Rattle.std.proofs.lemmas.Bool.{cases_eq, cond-false, ne_eqb}
use Rattle.stair_model.specs.Geometry.{Geometry}
use Rattle.stair_model.specs.Slots.{HasSlot, Slots}
use Rattle.stair_model.specs.Stripe.{Stripe}
use Rattle.stair_rack.specs.RackState.{RackState}
use Rattle.stair_rack.specs.declared.watcher.Event.{Event}
use Rattle.stair_member.specs.Aims.{aimed}
use Rattle.stair_member.specs.Establishing.{Did as Begins, Establishes, Fences, HasBegun, IsGoneIfToldSo, Joins, NotYet, refusal_in}
use Rattle.stair_member.specs.Membership.{Membership, why_of}
use Rattle.stair_member.specs.declared.aim.EpochChange.{EpochChange}
use Rattle.stair_member.specs.declared.aim.EpochChange.TheVariants.{Fence, Promote}
use Rattle.stair_member.specs.declared.fault.AdmitFault.{AdmitFault}
use Rattle.stair_member.specs.declared.fault.AdmitFault.TheVariants as admit
use Rattle.stair_member.specs.declared.fault.FenceFault.{FenceFault}
use Rattle.stair_member.specs.declared.why.Why.{Why}
use Rattle.stair_member.specs.declared.why.Why.TheVariants as why
use Rattle.stair_member.proofs.CountingLemmas.{has_or_not}
use Rattle.stair_invariant.specs.Effects.{Fenced, FencesGone, NoneWas, Snapshot, snapshot}
use Rattle.stair_invariant.specs.Session.{ArrayState, IsLiveIn}
use Rattle.stair_array.specs.Calls.{Loaded, LoadsStripe, Stops as Stopped}
use Rattle.stair_array.specs.Causes.{IsAdmitted, IsPromoted, Stays, Went}
use Rattle.stair_array.specs.Machine.{Answer, EpochsSpent, Progress, Promoted, RebuildNext, Recover, Refusal, Step, TooFew}
use Rattle.stair_array.specs.Mends.{Fell, FellLoading, Joined, NoneIs, OnlyPromotes, Promotes, Rebuilds, Unread, Unsynced, Wrote, WroteLast, promoted_as}
use Rattle.stair_array.specs.Promise.{EndsIn, Ends, Found, GoesOn, Keeps, Opened, Performs, Seen, Phase, StartsFrom, Stops}
use Rattle.stair_command.specs.Devices.{DeviceView, Devices, WorksAll, seen_of}
use Rattle.stair_command.specs.Action.{Create, Survey}
use Rattle.stair_command.specs.Kept.{HasMember}
use Rattle.stair_command.specs.Sound.{HasItem, IsPromotionOf, KnewOnce}
use Rattle.stair_command.specs.Trace.{TraceItem, Did, Stepped, AlongTrace}
use Rattle.stair_command.proofs.KeptLaws.{Closes, Same, Takes, comes, known_once, never_known, open_known, same_session}

-- ---- slots that are live

here_or_not : (reason : Why) → (reason ≡ why.Here) ⊎ (reason ≢ why.Here)
here_or_not why.Here = inl refl
here_or_not why.Gone = inr (λ same. cc)
here_or_not why.NoSuper = inr (λ same. cc)
here_or_not why.OtherArray = inr (λ same. cc)
here_or_not why.OtherSlot = inr (λ same. cc)
here_or_not why.MarkedDown = inr (λ same. cc)
here_or_not why.OtherJoined = inr (λ same. cc)
here_or_not why.Rebuilding = inr (λ same. cc)

pub live_or_not : (m : Membership) (j : ℕ) → j < m.array.geometry.n → IsLiveIn m j ⊎ (¬ IsLiveIn m j)
live_or_not m j below =
    elim (here_or_not (why_of m j)) [
      | inl here ↦ inl (record { below = below; why = here })
      | inr away ↦ inr (λ live. away live.why)
    ]

-- one that is gone isn't
gone_dead : (m : Membership) (j : ℕ) → why_of m j ≡ why.Gone → IsLiveIn m j → ⊥
gone_dead m j gone live = let never : why.Gone ≡ why.Here = sym gone ∙ live.why in cc

-- ---- epochs

-- a slot that is live after an epoch wasn't gone, and was live before or is to be so
live_by : (aim : EpochChange) (m last : Membership) (refusal : Option FenceFault) (old new : RackState) (e : Establishes aim m last refusal old new) (j : ℕ)
    → IsLiveIn last j → (¬ HasSlot e.gone j) × ((why_of m j ≡ why.Here) ⊎ (aimed aim j (why_of m j) ≡ why.Here))
live_by aim m last refusal old new e j live =
    elim (has_or_not e.gone j) [
      | inl gone ↦ absurd (gone_dead last j (e.were_gone.dropped j gone) live)
      | inr kept ↦ (kept, by kept e.began)
    ]
  where
    below : j < m.array.geometry.n
    below = subst (λ (g : Geometry). j < g.n) e.geometry live.below

    by : ¬ HasSlot e.gone j → HasBegun aim e.gone m last → (why_of m j ≡ why.Here) ⊎ (aimed aim j (why_of m j) ≡ why.Here)
    by kept (NotYet same whys) = inl (sym (whys j below kept) ∙ live.why)
    by kept (Begins above named whys) = inr (sym (whys j below kept) ∙ live.why)

fence_live : (leaving : Slots) (m last : Membership) (answer : Result Slots FenceFault) (old new : RackState) → Fences leaving m last answer old new
    → (j : ℕ) → IsLiveIn last j → IsLiveIn m j
fence_live leaving m last answer old new fences j live =
    elim (has_or_not leaving j) [
      | inl left ↦ absurd (gone_dead fences.start j (fences.leaves.left j left) started)
      | inr kept ↦
          record {
            below = subst (λ (g : Geometry). j < g.n) (ap (λ c. c.geometry) fences.leaves.array) started.below;
            why = sym (fences.leaves.others j kept) ∙ started.why;
          }
    ]
  where
    started : IsLiveIn fences.start j
    started =
        let by = live_by Fence fences.start last _ old new fences.establishes j live in
        record {
          below = subst (λ (g : Geometry). j < g.n) fences.establishes.geometry live.below;
          why = elim by.1 [ inl here ↦ here | inr here ↦ here ];
        }

-- ---- the parts of a step of a rebuild

left_live : (gone : Slots) (refusal : Option FenceFault) (x y : Snapshot) → FencesGone gone refusal x y → (j : ℕ) → IsLiveIn y.member j → IsLiveIn x.member j
left_live gone refusal x y (NoneWas none same fine) j live = subst (λ (z : Snapshot). IsLiveIn z.member j) same live
left_live gone refusal x y (Fenced i has answer is fences) j live = fence_live gone x.member y.member answer x.told y.told fences j live

stripe_live : (t : ℕ) (into : Stripe) (answer : Result (Unit {0}) Refusal) (x y : Snapshot) → LoadsStripe t into answer x y → (j : ℕ) → IsLiveIn y.member j
    → IsLiveIn x.member j
stripe_live t into _ _ _ (Loaded was read gathered answer x y loads is) j live = left_live gathered.gone None (snapshot x.member loads.mid) y loads.leaves j live
stripe_live t into _ _ _ (Stopped was read gathered fault x y loads) j live =
    left_live gathered.gone (Some fault) (snapshot x.member loads.mid) y loads.leaves j live

same_live : (x y : Snapshot) → y.member ≡ x.member → (j : ℕ) → IsLiveIn y.member j → IsLiveIn x.member j
same_live x y same j live = subst (λ (m : Membership). IsLiveIn m j) same live

-- a slot that is live after such a step was so before, or this is its promotion; or the array stops
abbrev MayRise : ℕ → Result Progress Refusal → Membership → Type 0
MayRise j answer m = IsLiveIn m j ⊎ ((answer ≡ Ok (Promoted j)) ⊎ Stops answer)

-- an epoch that promotes slot i
joined_live : (i j : ℕ) (given : Result Slots AdmitFault) (x y : Snapshot) → Joins (Promote i) i x.member y.member given x.told y.told → IsLiveIn y.member j
    → MayRise j (promoted_as i given) x.member
joined_live i j given x y joins live =
    elim by.1 [
      | inl here ↦ inl (record { below = below; why = here })
      | inr here ↦
          elim (cases_eq j i) [
            | inl same ↦ inr (own given joins.told same)
            | inr other ↦ inl (record { below = below; why = sym (cond-false _ _ _ (ne_eqb j i other)) ∙ here })
          ]
    ]
  where
    by : (¬ HasSlot joins.establishes.gone j) × ((why_of x.member j ≡ why.Here) ⊎ (aimed (Promote i) j (why_of x.member j) ≡ why.Here))
    by = live_by (Promote i) x.member y.member (refusal_in given) x.told y.told joins.establishes j live

    below : j < x.member.array.geometry.n
    below = subst (λ (g : Geometry). j < g.n) joins.establishes.geometry live.below

    own : (given : Result Slots AdmitFault) → IsGoneIfToldSo i joins.establishes.gone given → j ≡ i
        → (promoted_as i given ≡ Ok (Promoted j)) ⊎ Stops (promoted_as i given)
    own (Ok fallen) told same = inl (ap (λ (k : ℕ). Ok (Promoted k)) (sym same))
    own (Err (admit.TooFew whys)) told same = inr tt
    own (Err admit.EpochsSpent) told same = inr tt
    own (Err (admit.Gone slot)) told same = absurd (by.0 (subst (HasSlot joins.establishes.gone) (sym same) told.1))

promoted_live : (i : ℕ) (answer : Result Progress Refusal) (x z : Snapshot) → Promotes i answer x z → (j : ℕ) → IsLiveIn z.member j → MayRise j answer x.member
promoted_live i _ _ _ (Unsynced refusal x y z syncs drops) j live =
    inl (same_live x y syncs.member j (left_live drops.gone refusal y z drops.leaves j live))
promoted_live i _ _ _ (Joined given x y z syncs joins) j live =
    subst (λ (m : Membership). MayRise j (promoted_as i given) m) syncs.member (joined_live i j given y z joins live)

-- from a point before, from which on slots were dropped at most
rise_sooner : (j : ℕ) (answer : Result Progress Refusal) (m n : Membership) → (IsLiveIn n j → IsLiveIn m j) → MayRise j answer n → MayRise j answer m
rise_sooner j answer m n back (inl live) = inl (back live)
rise_sooner j answer m n back (inr rose) = inr rose

rebuilt_live : (was : ArrayState) (answer : Result Progress Refusal) (x z : Snapshot) → Rebuilds was answer x z → (j : ℕ) → IsLiveIn z.member j
    → MayRise j answer x.member
rebuilt_live was _ _ _ (NoneIs x none) j live = inl live
rebuilt_live was _ _ _ (Unread i t into refusal x y next below loads) j live = inl (stripe_live t into (Err refusal) x y loads j live)
rebuilt_live was _ _ _ (FellLoading i t into x y next below loads fell) j live = inl (stripe_live t into (Ok tt) x y loads j live)
rebuilt_live was _ _ _ (Fell i t into refusal x y z w next below loads rebuilt wrote drops) j live =
    inl (stripe_live t into (Ok tt) x y loads j (same_live y z wrote.member j (left_live drops.gone refusal z w drops.leaves j live)))
rebuilt_live was _ _ _ (Wrote i t into x y z next below loads rebuilt wrote) j live =
    inl (stripe_live t into (Ok tt) x y loads j (same_live y z wrote.member j live))
rebuilt_live was _ _ _ (WroteLast i t into answer x y z w next last loads rebuilt wrote promotes) j live =
    rise_sooner j answer x.member z.member (λ up. stripe_live t into (Ok tt) x y loads j (same_live y z wrote.member j up))
    (promoted_live i answer z w promotes j live)
rebuilt_live was _ _ _ (OnlyPromotes i t answer x y next all promotes) j live = promoted_live i answer x y promotes j live

-- ---- steps

-- a slot that is live after a step was so before, or this is its promotion; or the array stops
step_live : (step : Step) (answer : Answer step) (events : List Event) (left : Bool) (x y : Seen) (does : Performs step answer events x y) (j : ℕ)
    → IsLiveIn does.is.member j → IsLiveIn does.was.member j ⊎ (IsPromotionOf j (Stepped step answer events left) ⊎ Stops answer)
step_live RebuildNext answer events left x y does j live =
    elim (rebuilt_live does.was answer (snapshot does.was.member x.told) (snapshot does.is.member y.told) does.does j live) [
      | inl was ↦ inl was
      | inr rose ↦
          elim rose [
            | inl is ↦ inr (inl (subst (λ (a : Answer RebuildNext). IsPromotionOf j (Stepped RebuildNext a events left)) (sym is) refl))
            | inr stops ↦ inr (inr stops)
          ]
    ]
step_live step answer events left x y does j live =
    let below : j < does.was.member.array.geometry.n = subst (λ (g : Geometry). j < g.n) does.goes_on.geometry live.below in
    elim (does.goes_on.whys j below) [
      | Stays same ↦ inl (record { below = below; why = sym same ∙ live.why })
      | Went gone was ↦ absurd (gone_dead does.is.member j gone live)
      | IsAdmitted is rebuilt ↦ absurd (let never : why.Rebuilding ≡ why.Here = sym rebuilt ∙ live.why in cc)
      | IsPromoted is was here ↦ absurd (let same = is in cc)
    ]

-- an answer by which the array stops is kept
stop_kept : {T : Type 0} (answer : Result T Refusal) (stopped : Option FenceFault) → Keeps answer stopped → Stops answer → stopped ≡ None → ⊥
stop_kept (Err (TooFew whys)) stopped keeps stops none = let never : None ≡ Some keeps.0 = sym none ∙ keeps.1 in cc
stop_kept (Err EpochsSpent) stopped keeps stops none = let never : None ≡ Some keeps.0 = sym none ∙ keeps.1 in cc
stop_kept (Err refusal) stopped keeps stops none = stops
stop_kept (Ok given) stopped keeps stops none = stops

-- ---- sessions

-- the session has an array that was stopped
abbrev IsStopped : Phase → Type 0
IsStopped (Opened a) = a.stopped ≡ None → ⊥
IsStopped _ = ⊥

-- from which no step starts
never_starts : (step : Step) (was : ArrayState) (session : Phase) → StartsFrom step was session → IsStopped session → ⊥
never_starts Recover was (Found m) starts stopped = stopped
never_starts Recover was _ starts stopped = starts
never_starts _ was (Opened a) starts stopped = stopped starts.1
never_starts _ was _ starts stopped = starts

module _ {R W : Type 0} (view : DeviceView R W) where
  -- it stays so
  stopped_on : (item : TraceItem) (x y : Devices R W) → IsStopped x.session → WorksAll view item x y → IsStopped y.session
  stopped_on (Stepped step answer events left) x y stopped works =
      elim works.0 [
        | inl does ↦ absurd (never_starts step does.was x.session does.starts stopped)
        | inr again ↦ subst (λ (z : Seen). IsStopped z.session) (sym again.same) stopped
      ]
  stopped_on (Did (Create g) outcome) x y stopped works = absurd (subst IsStopped works.1 stopped)
  stopped_on (Did Survey outcome) x y stopped works = absurd (subst IsStopped works.1 stopped)
  stopped_on item x y stopped works = subst IsStopped (sym (same_session view works)) stopped

  stopped_still : (trace : List TraceItem) (x y : Devices R W) → AlongTrace (WorksAll view) trace x y → IsStopped x.session → IsStopped y.session
  stopped_still [] x y works stopped = subst IsStopped (sym (same_session view works)) stopped
  stopped_still (item ∷ trace) x y works stopped = stopped_still trace works.0 y works.2 (stopped_on item x works.0 stopped works.1)

  -- so a step by which it stops is none of a trace that leads to one that goes on
  stops_never : (step : Step) (answer : Answer step) (events : List Event) (trace : List TraceItem) (x y z : Devices R W)
      (does : Performs step answer events (seen_of view x) (seen_of view y)) → AlongTrace (WorksAll view) trace y z → (last : ArrayState)
      → z.session ≡ Opened last → last.stopped ≡ None → Stops answer → ⊥
  stops_never step answer events trace x y z does works last opened none stops =
      let ends : IsStopped z.session = stopped_still trace y z works (by does.ends) in
      (subst IsStopped opened ends) none
    where
      by : EndsIn step answer does.is y.session → IsStopped y.session
      by (Ends is err closed) = absurd (never_known view trace y z last.member works closed (subst (λ (s : Phase). HasMember s last.member) (sym opened) refl))
      by (GoesOn ok keeps goes) = subst IsStopped (sym goes) (λ going. stop_kept answer does.is.stopped keeps stops going)

  -- the geometry stays
  pub geometry_stays : (trace : List TraceItem) (x y : Devices R W) (m last : Membership) → AlongTrace (WorksAll view) trace x y → HasMember x.session m
      → HasMember y.session last → last.array.geometry ≡ m.array.geometry
  geometry_stays [] x y m last works has ends =
      ap (λ (n : Membership). n.array.geometry) (known_once y.session last m ends (subst (λ (s : Phase). HasMember s m) (sym (same_session view works)) has))
  geometry_stays (item ∷ trace) x y m last works has ends =
      elim (comes view item x works.0 m has works.1) [
        | Same same ↦ geometry_stays trace works.0 y m last works.2 (subst (λ (s : Phase). HasMember s m) (sym same) has) ends
        | Closes closed ↦ absurd (never_known view trace works.0 y last works.2 closed ends)
        | Takes step answer events left is does known opened ↦
            geometry_stays trace works.0 y does.is.member last works.2 (open_known works.0.session does.is.member opened) ends
            ∙ does.goes_on.geometry ∙ ap (λ (n : Membership). n.array.geometry) known
      ]

  -- ---- a slot that is live in the end, and wasn't at first
  module _ (j : ℕ) (last : ArrayState) (none : last.stopped ≡ None) (live : IsLiveIn last.member j) where
    last_known : (y : Devices R W) → y.session ≡ Opened last → HasMember y.session last.member
    last_known y opened = subst (λ (s : Phase). HasMember s last.member) (sym opened) refl

    pub was_promoted : (trace : List TraceItem) (x y : Devices R W) (works : AlongTrace (WorksAll view) trace x y) (m : Membership) → HasMember x.session m
        → y.session ≡ Opened last → ¬ IsLiveIn m j → HasItem (IsPromotionOf j) trace
    was_promoted [] x y works m has ends dead =
        let same : m ≡ last.member =
        known_once x.session m last.member has (subst (λ (s : Phase). HasMember s last.member) (same_session view works) (last_known y ends)) in
        absurd (dead (subst (λ (n : Membership). IsLiveIn n j) (sym same) live))
    was_promoted (item ∷ trace) x y works m has ends dead =
        elim (comes view item x works.0 m has works.1) [
          | Same same ↦ inr (was_promoted trace works.0 y works.2 m (subst (λ (s : Phase). HasMember s m) (sym same) has) ends dead)
          | Closes closed ↦ absurd (never_known view trace works.0 y last.member works.2 closed (last_known y ends))
          | Takes step answer events left is does known opened ↦
              took step answer events left is does known (open_known works.0.session does.is.member opened)
              (λ n has. was_promoted trace works.0 y works.2 n has ends)
        ]
      where
        took : (step : Step) (answer : Answer step) (events : List Event) (left : Bool) → item ≡ Stepped step answer events left
            → (does : Performs step answer events (seen_of view x) (seen_of view works.0)) → does.was.member ≡ m
            → HasMember works.0.session does.is.member
            → ((n : Membership) → HasMember works.0.session n → ¬ IsLiveIn n j → HasItem (IsPromotionOf j) trace)
            → HasItem (IsPromotionOf j) (item ∷ trace)
        took step answer events left is does known has_then later =
            let same = geometry_stays trace works.0 y does.is.member last.member works.2 has_then (last_known y ends) in
            elim (live_or_not does.is.member j (subst (λ (g : Geometry). j < g.n) same live.below)) [
              | inr still ↦ inr (later does.is.member has_then still)
              | inl up ↦
                  elim (step_live step answer events left (seen_of view x) (seen_of view works.0) does j up) [
                    | inl was ↦ absurd (dead (subst (λ (n : Membership). IsLiveIn n j) known was))
                    | inr rose ↦
                        elim rose [
                          | inl promoted ↦ inl (subst (IsPromotionOf j) (sym is) promoted)
                          | inr stops ↦ absurd (stops_never step answer events trace x works.0 y does works.2 last ends none stops)
                        ]
                  ]
            ]

    pub brought_up : (trace : List TraceItem) (x y : Devices R W) (works : AlongTrace (WorksAll view) trace x y) (m : Membership) → KnewOnce view m trace x y works
        → y.session ≡ Opened last → ¬ IsLiveIn m j → HasItem (IsPromotionOf j) trace
    brought_up [] x y works m knew ends dead = was_promoted [] x y works m knew ends dead
    brought_up (item ∷ trace) x y works m (inl has) ends dead = was_promoted (item ∷ trace) x y works m has ends dead
    brought_up (item ∷ trace) x y works m (inr later) ends dead = inr (brought_up trace works.0 y works.2 m later ends dead)
