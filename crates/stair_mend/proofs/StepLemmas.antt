-- One step of a rebuild, by the calls that it makes.
use Rattle.std.proofs.Common.{◌≡◌, ◌≢◌, ◌+◌, ◌<◌, ◌≤◌, ℕ, None, Option, Some, ap, arith, inl, inr, refl, subst, sym, ◌∙◌}
use Rattle.std.specs.Prelude.{Err, Ok, Result, ⊤}
use Rattle.std.proofs.lemmas.Bool.{cases_lt, cond-true, eq-eqb}
use Rattle.stair_model.specs.Geometry.{Geometry}
use Rattle.stair_model.specs.Slots.{HasSlot, Slots}
use Rattle.stair_model.specs.Stripe.{Stripe}
use Rattle.stair_rack.specs.declared.rack.Reply.{Reply}
use Rattle.stair_rack.specs.declared.rack.Reply.TheVariants as reply
use Rattle.stair_super.specs.declared.configuration.Configuration.{Configuration}
use Rattle.stair_member.specs.Establishing.{Joins, refusal_in}
use Rattle.stair_member.specs.Membership.{IsHere, Membership, why_of}
use Rattle.stair_member.specs.declared.aim.EpochChange.TheVariants.{Promote}
use Rattle.stair_member.specs.declared.fault.AdmitFault.{AdmitFault}
use Rattle.stair_member.specs.declared.fault.AdmitFault.TheVariants as admit
use Rattle.stair_member.specs.declared.fault.FenceFault.{FenceFault}
use Rattle.stair_member.specs.declared.fault.FenceFault.TheVariants as fence
use Rattle.stair_member.specs.declared.why.Why.{Why}
use Rattle.stair_member.specs.declared.why.Why.TheVariants as why
use Rattle.stair_invariant.specs.Effects.{Snapshot, snapshot}
use Rattle.stair_invariant.specs.Rebuilding.{Rebuild}
use Rattle.stair_invariant.specs.Session.{ArrayState, IsLiveIn, IsRebuiltIn}
use Rattle.stair_array.specs.Arrays.{IsUnderWay}
use Rattle.stair_array.specs.Calls.{LoadsStripe, refused}
use Rattle.stair_array.specs.Causes.{IsNextChunk}
use Rattle.stair_array.specs.Faults.{IsOfLoading, refusal_for}
use Rattle.stair_array.specs.Machine.{Answer, Chunk, Dropped, EpochsSpent, Lost, RebuildNext, Refusal, TooFew, Progress as Came}
use Rattle.stair_array.specs.MendingCalls.{rebuild_past}
use Rattle.stair_array.specs.MendingSteps.{WritesNext}
use Rattle.stair_array.specs.Mends.{Promotes, Rebuilds, SyncsSlot}
use Rattle.stair_array.specs.News.{AddsFallen, AddsNews, StayDown, promoted_after}
use Rattle.stair_array.specs.Promise.{KeepsRebuild, rebuild_of, rebuild_then}
use Rattle.stair_array.specs.declared.fault.ArrayFault.{ArrayFault}
use Rattle.stair_array.specs.declared.fault.ArrayFault.TheVariants as array
use Rattle.stair_array.specs.declared.news.News.{News}
use Rattle.stair_array.proofs.NewsLemmas.{slots_news}
use Rattle.stair_array.proofs.OutLemmas.{left_live}
use Rattle.stair_array.proofs.RebuildingLemmas.{dropped_away, ends, goes_on, progress_by}
use Rattle.stair_array.proofs.StayDownLemmas.{fallen_join}

-- A CHUNK

-- a stripe that is loaded may be refused so
abbrev MayRefuse : Refusal → Type 0
MayRefuse (Lost t counts) = ⊤
MayRefuse (TooFew whys) = ⊤
MayRefuse EpochsSpent = ⊤
MayRefuse other = ⊥

may_refuse : (fault : FenceFault) → MayRefuse (refused fault)
may_refuse (fence.TooFew whys) = tt
may_refuse fence.EpochsSpent = tt

load_refusal : (t : ℕ) (into : Stripe) (answer : Result (Unit {0}) Refusal) (x y : Snapshot) → LoadsStripe t into answer x y → (refusal : Refusal)
    → answer ≡ Err refusal → MayRefuse refusal
load_refusal t into _ _ _ (LoadsStripe.Loaded was read gathered (Ok done) x y loads is) refusal same = absurd (cc)
load_refusal t into _ _ _ (LoadsStripe.Loaded was read gathered (Err lost) x y loads is) refusal same =
    let alike : lost ≡ refusal = cc in
    subst MayRefuse (sym is.1.1 ∙ alike) tt
load_refusal t into _ _ _ (LoadsStripe.Stops was read gathered fault x y loads) refusal same =
    let alike : refused fault ≡ refusal = cc in
    subst MayRefuse alike (may_refuse fault)

-- and so may a chunk that isn't written
next_may : (j t : ℕ) (answer : Result Reply Refusal) (x y : Snapshot) → WritesNext j t answer x y → (refusal : Refusal) → answer ≡ Err refusal
    → MayRefuse refusal
next_may j t _ _ _ (WritesNext.Unread into why x y load) refusal same =
    let alike : why ≡ refusal = cc in
    subst MayRefuse alike (load_refusal t into (Err why) x y load why refl)
next_may j t _ _ _ (WritesNext.FellLoading into x y load fell) refusal same = absurd (cc)
next_may j t _ _ _ (WritesNext.Fell into None x y z w load rebuilt chunk drops) refusal same = absurd (cc)
next_may j t _ _ _ (WritesNext.Fell into (Some fault) x y z w load rebuilt chunk drops) refusal same =
    let alike : refused fault ≡ refusal = cc in
    subst MayRefuse alike (may_refuse fault)
next_may j t _ _ _ (WritesNext.Wrote into x y z load rebuilt chunk) refusal same = absurd (cc)

pub of_chunk : (j t : ℕ) (fault : ArrayFault) (x y : Snapshot) → WritesNext j t (Err (refusal_for fault)) x y → IsOfLoading fault
of_chunk j t fault x y writes = by_fault fault (next_may j t (Err (refusal_for fault)) x y writes (refusal_for fault) refl)
  where
    by_fault : (f : ArrayFault) → MayRefuse (refusal_for f) → IsOfLoading f
    by_fault (array.Lost stripe counts) may = tt
    by_fault (array.TooFew whys) may = tt
    by_fault array.EpochsSpent may = tt
    by_fault array.Frozen may = absurd may
    by_fault (array.OutOfRange asked limit) may = absurd may

-- a slot that was rebuilt, and isn't once a stripe was loaded, doesn't take part then
loaded_back : (t : ℕ) (into : Stripe) (answer : Result (Unit {0}) Refusal) (x y : Snapshot) → LoadsStripe t into answer x y → (j : ℕ)
    → answer ≡ Ok tt → IsLiveIn y.member j → IsLiveIn x.member j
loaded_back t into _ _ _ (LoadsStripe.Loaded was read gathered answer x y loads is) j same live =
    left_live gathered.gone (snapshot x.member loads.mid) y j loads.leaves live
loaded_back t into _ _ _ (LoadsStripe.Stops was read gathered fault x y loads) j same live = absurd (cc)

pub loaded_away : (t : ℕ) (into : Stripe) (x y : Snapshot) → LoadsStripe t into (Ok tt) x y → (j : ℕ) → IsRebuiltIn x.member j
    → why_of y.member j ≢ why.Rebuilding → ¬ IsHere y.member j
loaded_away t into x y loads j rebuilt other here =
    elim here.why [
      | inl live ↦
          let was = loaded_back t into (Ok tt) x y loads j refl (record { below = here.below; why = live }) in
          let never : why.Here ≡ why.Rebuilding = sym was.why ∙ rebuilt.why in absurd (cc)
      | inr goes ↦ other goes
    ]

-- and so does one that isn't rebuilt after its chunk
next_gone : (j t : ℕ) (answer : Result Reply Refusal) (x y : Snapshot) → WritesNext j t answer x y → (written : Reply) → answer ≡ Ok written
    → IsRebuiltIn x.member j → why_of y.member j ≢ why.Rebuilding → ¬ IsHere y.member j
next_gone j t _ _ _ (WritesNext.Unread into refusal x y load) written same rebuilt other = absurd (cc)
next_gone j t _ _ _ (WritesNext.FellLoading into x y load fell) written same rebuilt other = loaded_away t into x y load j rebuilt other
next_gone j t _ _ _ (WritesNext.Fell into None x y z w load on chunk drops) written same rebuilt other = dropped_away j z w drops
next_gone j t _ _ _ (WritesNext.Fell into (Some fault) x y z w load on chunk drops) written same rebuilt other = absurd (cc)
next_gone j t _ _ _ (WritesNext.Wrote into x y z load on chunk) written same rebuilt other =
    absurd (other (ap (λ (m : Membership). why_of m j) chunk.member ∙ on.why))

-- THE NEXT CHUNK

one_alike : (r s : Rebuild) → Some r ≡ Some s → r ≡ s
one_alike r s e = cc

-- there is one alone
pub next_alone : (a : ArrayState) (j t k u : ℕ) → IsNextChunk a j t → IsNextChunk a k u → (j ≡ k) × (t ≡ u)
next_alone a j t k u (IsNextChunk.UnderWay one is at to) (IsNextChunk.UnderWay other same there until) =
    let alike : one ≡ other = one_alike one other (sym is ∙ same) in
    (sym at ∙ ap (λ (r : Rebuild). r.slot) alike ∙ there, sym to ∙ ap (λ (r : Rebuild). r.stripe) alike ∙ until)
next_alone a j t k u (IsNextChunk.UnderWay one is at to) (IsNextChunk.First none lowest zero) =
    let never : Some one ≡ None = sym is ∙ none in absurd (cc)
next_alone a j t k u (IsNextChunk.First none lowest zero) (IsNextChunk.UnderWay other same there until) =
    let never : Some other ≡ None = sym same ∙ none in absurd (cc)
next_alone a j t k u (IsNextChunk.First none lowest zero) (IsNextChunk.First other low nil) = (
  elim (cases_lt j k) [
    | inl below ↦ absurd (low.lowest j below lowest.rebuilt)
    | inr from ↦
        elim (cases_lt k j) [
          | inl below ↦ absurd (lowest.lowest k below low.rebuilt)
          | inr to ↦ omega (arith, from, to)
        ]
  ],
  zero ∙ sym nil,
)

rebuild_is : (r : Rebuild) (j t : ℕ) → r.slot ≡ j → r.stripe ≡ t → r ≡ record { slot = j; stripe = t }
rebuild_is r j t slot stripe = rw (← slot, ← stripe) refl

abbrev pub at_stripe : ℕ → ℕ → Option Rebuild
at_stripe j t = Some (record { slot = j; stripe = t })

-- a stripe that isn't the first one is of a rebuild that is under way
pub under_next : (a : ArrayState) (j t : ℕ) → 0 < t → IsNextChunk a j t → a.rebuild ≡ Some (record { slot = j; stripe = t })
under_next a j t some (IsNextChunk.UnderWay one is at to) = is ∙ ap Some (rebuild_is one j t at to)
under_next a j t some (IsNextChunk.First none lowest zero) = absurd (omega (arith, some, zero))

-- ONE STEP

-- The next chunk was slot j's of stripe t, and it was written or the slot was gone: what the step came to.
module _ (was : ArrayState) (j t : ℕ) (next : IsNextChunk was j t) where
  pub next_refused : (answer : Result Reply Refusal) (x y : Snapshot) → WritesNext j t answer x y → t < x.member.array.geometry.stripes
      → (refusal : Refusal) → answer ≡ Err refusal → Rebuilds was (Err refusal) x y
  next_refused _ _ _ (WritesNext.Unread into why x y load) below refusal same =
      let alike : why ≡ refusal = cc in
      subst (λ (r : Refusal). Rebuilds was (Err r) x y) alike (Rebuilds.Unread j t into why x y next below load)
  next_refused _ _ _ (WritesNext.FellLoading into x y load fell) below refusal same = absurd (cc)
  next_refused _ _ _ (WritesNext.Fell into None x y z w load rebuilt chunk drops) below refusal same = absurd (cc)
  next_refused _ _ _ (WritesNext.Fell into (Some fault) x y z w load rebuilt chunk drops) below refusal same =
      let alike : refused fault ≡ refusal = cc in
      subst (λ (r : Refusal). Rebuilds was (Err r) x w) alike (Rebuilds.Fell j t into (Some fault) x y z w next below load rebuilt chunk drops)
  next_refused _ _ _ (WritesNext.Wrote into x y z load rebuilt chunk) below refusal same = absurd (cc)

  pub next_dropped : (answer : Result Reply Refusal) (x y : Snapshot) → WritesNext j t answer x y → t < x.member.array.geometry.stripes
      → answer ≡ Ok reply.Gone → Rebuilds was (Ok (Dropped j)) x y
  next_dropped _ _ _ (WritesNext.Unread into why x y load) below same = absurd (cc)
  next_dropped _ _ _ (WritesNext.FellLoading into x y load fell) below same = Rebuilds.FellLoading j t into x y next below load fell
  next_dropped _ _ _ (WritesNext.Fell into None x y z w load rebuilt chunk drops) below same =
      Rebuilds.Fell j t into None x y z w next below load rebuilt chunk drops
  next_dropped _ _ _ (WritesNext.Fell into (Some fault) x y z w load rebuilt chunk drops) below same = absurd (cc)
  next_dropped _ _ _ (WritesNext.Wrote into x y z load rebuilt chunk) below same = absurd (cc)

  pub next_wrote : (answer : Result Reply Refusal) (x z : Snapshot) → WritesNext j t answer x z → t + 1 < x.member.array.geometry.stripes
      → answer ≡ Ok reply.Done → Rebuilds was (Ok (Chunk j t)) x z
  next_wrote _ _ _ (WritesNext.Unread into why x y load) more same = absurd (cc)
  next_wrote _ _ _ (WritesNext.FellLoading into x y load fell) more same = absurd (cc)
  next_wrote _ _ _ (WritesNext.Fell into None x y z w load rebuilt chunk drops) more same = absurd (cc)
  next_wrote _ _ _ (WritesNext.Fell into (Some fault) x y z w load rebuilt chunk drops) more same = absurd (cc)
  next_wrote _ _ _ (WritesNext.Wrote into x y z load rebuilt chunk) more same = Rebuilds.Wrote j t into x y z next more load rebuilt chunk

  pub next_last : (answer : Result Reply Refusal) (x z : Snapshot) → WritesNext j t answer x z → t + 1 ≡ x.member.array.geometry.stripes
      → answer ≡ Ok reply.Done → (came : Result Came Refusal) (w : Snapshot) → Promotes j came z w → Rebuilds was came x w
  next_last _ _ _ (WritesNext.Unread into why x y load) last same came w promotes = absurd (cc)
  next_last _ _ _ (WritesNext.FellLoading into x y load fell) last same came w promotes = absurd (cc)
  next_last _ _ _ (WritesNext.Fell into None x y z v load rebuilt chunk drops) last same came w promotes = absurd (cc)
  next_last _ _ _ (WritesNext.Fell into (Some fault) x y z v load rebuilt chunk drops) last same came w promotes = absurd (cc)
  next_last _ _ _ (WritesNext.Wrote into x y z load rebuilt chunk) last same came w promotes =
      Rebuilds.WroteLast j t into came x y z w next last load rebuilt chunk promotes

-- where all chunks were written before
pub at_end : (a : ArrayState) (j t : ℕ) → IsNextChunk a j t → 0 < t → t ≡ a.member.array.geometry.stripes
    → a.rebuild ≡ at_stripe j a.member.array.geometry.stripes
at_end a j t next some end = under_next a j t some next ∙ ap (at_stripe j) end

-- WHAT A CHUNK LEAVES

-- it was refused
pub refused_then : (j t : ℕ) (last : Membership) (rebuild left : Option Rebuild) (fault : ArrayFault) → IsOfLoading fault
    → left ≡ rebuild_past j t last rebuild (Err fault) → left ≡ rebuild_then (Err (refusal_for fault)) last rebuild
refused_then j t last rebuild left (array.Lost stripe counts) of is = is
refused_then j t last rebuild left (array.TooFew whys) of is = is
refused_then j t last rebuild left array.EpochsSpent of is = is
refused_then j t last rebuild left array.Frozen of is = absurd of
refused_then j t last rebuild left (array.OutOfRange asked limit) of is = absurd of

pub refused_keeps : (was is : ArrayState) (j t : ℕ) (fault : ArrayFault) → IsOfLoading fault → IsUnderWay was.member was.rebuild
    → is.member.array.geometry ≡ was.member.array.geometry → is.rebuild ≡ rebuild_past j t is.member was.rebuild (Err fault)
    → KeepsRebuild RebuildNext (Err (refusal_for fault)) was is
refused_keeps was is j t (array.Lost stripe counts) of under same left = progress_by was is under same left was.rebuild refl
refused_keeps was is j t (array.TooFew whys) of under same left = tt
refused_keeps was is j t array.EpochsSpent of under same left = tt
refused_keeps was is j t array.Frozen of under same left = absurd of
refused_keeps was is j t (array.OutOfRange asked limit) of under same left = absurd of

-- it was written, or its slot fell
module _ (was is : ArrayState) (j t : ℕ) (left : is.rebuild ≡ rebuild_past j t is.member was.rebuild (Ok tt)) where
  abbrev behind : Rebuild
  behind = record { slot = j; stripe = t + 1 }

  pub still : IsNextChunk is j (t + 1) → why_of is.member j ≡ why.Rebuilding
  still next = (goes_on (why_of is.member j) behind behind (sym left ∙ under_next is j (t + 1) (omega arith) next)).0

  pub fallen : ¬ IsNextChunk is j (t + 1) → why_of is.member j ≢ why.Rebuilding
  fallen other goes = other (IsNextChunk.UnderWay behind (left ∙ ap (λ (w : Why). rebuild_of w behind) goes) refl refl)

  pub none_left : why_of is.member j ≢ why.Rebuilding → is.rebuild ≡ None
  none_left other = left ∙ ends (why_of is.member j) behind other

  pub one_left : why_of is.member j ≡ why.Rebuilding → is.rebuild ≡ Some behind
  one_left goes = left ∙ ap (λ (w : Why). rebuild_of w behind) goes

  module _ (same : is.member.array.geometry ≡ was.member.array.geometry) (rebuilt : IsRebuiltIn was.member j) where
    pub rebuilt_on : why_of is.member j ≡ why.Rebuilding → IsRebuiltIn is.member j
    rebuilt_on goes = record { below = subst (λ (g : Geometry). j < g.n) (sym same) rebuilt.below; why = goes }

    pub chunk_keeps : why_of is.member j ≡ why.Rebuilding → t + 1 < was.member.array.geometry.stripes
        → KeepsRebuild RebuildNext (Ok (Chunk j t)) was is
    chunk_keeps goes more = (more, rebuilt_on goes, one_left goes)

    -- after the last chunk
    pub all_written : why_of is.member j ≡ why.Rebuilding → t + 1 ≡ was.member.array.geometry.stripes
        → is.rebuild ≡ at_stripe j is.member.array.geometry.stripes
    all_written goes last = one_left goes ∙ ap (at_stripe j) (last ∙ ap (λ (g : Geometry). g.stripes) (sym same))

-- and a slot that fell is dropped
pub fallen_keeps : (was is : ArrayState) (j t : ℕ) (answer : Result Reply Refusal) (written : Reply) (x y : Snapshot) → WritesNext j t answer x y
    → answer ≡ Ok written → x.member ≡ was.member → y.member ≡ is.member → IsRebuiltIn was.member j → why_of is.member j ≢ why.Rebuilding
    → is.rebuild ≡ None → KeepsRebuild RebuildNext (Ok (Dropped j)) was is
fallen_keeps was is j t answer written x y writes same first last rebuilt other none = (
  none,
  subst (λ (m : Membership). ¬ IsHere m j) last
      (next_gone j t answer x y writes written same (subst (λ (m : Membership). IsRebuiltIn m j) (sym first) rebuilt)
      (λ goes. other (ap (λ (m : Membership). why_of m j) (sym last) ∙ goes))),
)

-- WHAT A PROMOTION LEAVES

-- a slot that was promoted is live, and one that was gone doesn't take part
module _ (j : ℕ) (given : Result Slots AdmitFault) (x y z : Snapshot) (syncs : SyncsSlot j reply.Done x y)
    (joins : Joins (Promote j) j y.member z.member given y.told z.told) where
  joined_live : refusal_in given ≡ None → ¬ HasSlot joins.establishes.gone j → IsRebuiltIn x.member j → IsLiveIn z.member j
  joined_live fine kept rebuilt =
      let below : j < y.member.array.geometry.n = subst (λ (m : Membership). j < m.array.geometry.n) (sym syncs.member) rebuilt.below in
      record {
        below = subst (λ (g : Geometry). j < g.n) (sym joins.establishes.geometry) below;
        why = (joins.establishes.done fine).whys j below kept ∙ cond-true _ _ _ (eq-eqb j j refl);
      }

  joined_away : HasSlot joins.establishes.gone j → ¬ IsHere z.member j
  joined_away has here =
      let gone = joins.establishes.were_gone.dropped j has in
      elim here.why [
        | inl live ↦ let never : why.Gone ≡ why.Here = sym gone ∙ live in absurd (cc)
        | inr rebuilt ↦ let never : why.Gone ≡ why.Rebuilding = sym gone ∙ rebuilt in absurd (cc)
      ]

pub promoted_then : (j : ℕ) (answer : Answer RebuildNext) (x z : Snapshot) → Promotes j answer x z → (last : Membership) (rebuild left : Option Rebuild)
    → left ≡ None → left ≡ rebuild_then answer last rebuild
promoted_then j _ _ _ (Promotes.Unsynced None x y z syncs drops) last rebuild left none = none
promoted_then j _ _ _ (Promotes.Unsynced (Some (fence.TooFew whys)) x y z syncs drops) last rebuild left none = none
promoted_then j _ _ _ (Promotes.Unsynced (Some fence.EpochsSpent) x y z syncs drops) last rebuild left none = none
promoted_then j _ _ _ (Promotes.Joined (Ok fallen) x y z syncs joins) last rebuild left none = none
promoted_then j _ _ _ (Promotes.Joined (Err (admit.TooFew whys)) x y z syncs joins) last rebuild left none = none
promoted_then j _ _ _ (Promotes.Joined (Err admit.EpochsSpent) x y z syncs joins) last rebuild left none = none
promoted_then j _ _ _ (Promotes.Joined (Err (admit.Gone at)) x y z syncs joins) last rebuild left none = none

pub promoted_keeps : (was is : ArrayState) (j t : ℕ) (answer : Answer RebuildNext) (x z : Snapshot) → Promotes j answer x z → IsNextChunk was j t
    → was.member.array.geometry.stripes ≤ t + 1 → IsRebuiltIn x.member j → z.member ≡ is.member → is.rebuild ≡ None
    → KeepsRebuild RebuildNext answer was is
promoted_keeps was is j t _ _ _ (Promotes.Unsynced None x y z syncs drops) next last rebuilt same none =
    (none, subst (λ (m : Membership). ¬ IsHere m j) same (dropped_away j y z drops))
promoted_keeps was is j t _ _ _ (Promotes.Unsynced (Some (fence.TooFew whys)) x y z syncs drops) next last rebuilt same none = tt
promoted_keeps was is j t _ _ _ (Promotes.Unsynced (Some fence.EpochsSpent) x y z syncs drops) next last rebuilt same none = tt
promoted_keeps was is j t _ _ _ (Promotes.Joined (Ok done) x y z syncs joins) next last rebuilt same none = (
  none,
  subst (λ (m : Membership). IsLiveIn m j) same (joined_live j (Ok done) x y z syncs joins refl joins.told rebuilt),
  λ u is_next. subst (λ (s : ℕ). was.member.array.geometry.stripes ≤ s + 1) (next_alone was j t j u next is_next).1 last,
)
promoted_keeps was is j t _ _ _ (Promotes.Joined (Err (admit.TooFew whys)) x y z syncs joins) next last rebuilt same none = tt
promoted_keeps was is j t _ _ _ (Promotes.Joined (Err admit.EpochsSpent) x y z syncs joins) next last rebuilt same none = tt
promoted_keeps was is j t _ _ _ (Promotes.Joined (Err (admit.Gone at)) x y z syncs joins) next last rebuilt same none =
    (none, subst (λ (m : Membership). ¬ IsHere m j) same (joined_away j (Err (admit.Gone at)) x y z syncs joins joins.told.1))

-- THE NEWS OF A STEP

-- where nothing was promoted
pub step_news : (answer : Answer RebuildNext) → ((k : Option ℕ) → promoted_after RebuildNext answer k ≡ k) → (old new : Configuration) (was is : News)
    → AddsFallen old new was is → AddsNews RebuildNext answer old new was is
step_news answer promotes = slots_news RebuildNext answer (λ r. refl) (λ k. refl) promotes

pub refused_news : (fault : ArrayFault) (old new : Configuration) (was is : News) → AddsFallen old new was is
    → AddsNews RebuildNext (Err (refusal_for fault)) old new was is
refused_news fault = step_news (Err (refusal_for fault)) (λ k. refl)

-- a chunk, and then a promotion
pub last_news : (answer : Answer RebuildNext) (a b c : Configuration) (was amid is : News) → StayDown a b → StayDown b c → AddsFallen a b was amid
    → AddsNews RebuildNext answer b c amid is → AddsNews RebuildNext answer a c was is
last_news answer a b c was amid is first second fell adds = record {
  fenced = fallen_join a b c was amid is first second fell.fenced adds.fenced;
  repaired = adds.repaired ∙ ap (λ (n : News). n.repaired) fell.others;
  admitted = adds.admitted ∙ ap (λ (n : News). n.admitted) fell.others;
  promoted = adds.promoted ∙ ap (λ (n : News). promoted_after RebuildNext answer n.promoted) fell.others;
}
