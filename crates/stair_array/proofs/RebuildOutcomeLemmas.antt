-- What a step of a rebuild comes to, whether media come back or not, and what a crash leaves in the midst of it.
use Rattle.std.proofs.Common.{List, arith, inl, inr, refl, subst, sym, ℕ, ◌<◌, ◌∙◌, ◌≡◌}
use Rattle.std.specs.Prelude.{Err, IsTrue, Ok, Result}
use Rattle.std.proofs.lemmas.Bool.{cases_lt}
use Rattle.stair_model.specs.Geometry.{Geometry}
use Rattle.stair_rack.specs.Answers.{Ran, any_call}
use Rattle.stair_rack.specs.History.{Happening}
use Rattle.stair_rack.specs.Moments.{AtEveryMoment}
use Rattle.stair_rack.specs.Offline.{IsAttached}
use Rattle.stair_rack.specs.declared.rack.Reply.TheVariants as reply
use Rattle.stair_rack.proofs.MomentLemmas.{at_every_none, ran_join}
use Rattle.stair_super.specs.Superblock.{mark_in}
use Rattle.stair_super.specs.declared.mark.Mark.TheVariants as mark
use Rattle.stair_member.specs.Membership.{Membership, why_of}
use Rattle.stair_state.specs.Blocks.{Codewords}
use Rattle.stair_state.specs.State.{Content}
use Rattle.stair_invariant.specs.Effects.{Snapshot}
use Rattle.stair_invariant.specs.Rebuilding.{IsRebuiltTo}
use Rattle.stair_invariant.specs.Returning.{Returning}
use Rattle.stair_invariant.specs.Session.{ArrayState, IsRebuiltIn}
use Rattle.stair_invariant.proofs.SeatLemmas.{listed_member, past_down}
use Rattle.stair_invariant.proofs.Serving.{StaysWithinToleranceTo, IsGoing, LeadsReads}
use Rattle.stair_invariant.proofs.Mending.{calm_going, LeadsBeside, LeadsPromotions}
use Rattle.stair_array.specs.Causes.{IsNextChunk}
use Rattle.stair_array.specs.Machine.{Chunk, Nothing, Progress, Refusal}
use Rattle.stair_array.specs.Mends.{Rebuilds}
use Rattle.stair_array.proofs.LedOnLemmas.{rebuilt_why}
use Rattle.stair_array.proofs.LeftServingLemmas.{StandsAt, serving_stands}
use Rattle.stair_array.proofs.LoadingLemmas.{Serves, same_serves, stripe_moments}
use Rattle.stair_array.proofs.PartsLemmas.{out_after}
use Rattle.stair_array.proofs.ReadPartLemmas.{array_with, none_asked}
use Rattle.stair_array.proofs.RebuildCourseLemmas.{NextIsRebuilt}
use Rattle.stair_array.proofs.RebuildEndLemmas.{chunks_next, moments_join, plain, promote_ends, promote_moments, promotes_later, stands_moved}
use Rattle.stair_array.proofs.RebuildSeatLemmas.{Goes, MovesAt, Outcome, moments_sooner}
use Rattle.stair_array.proofs.RebuildStripeLemmas.{chunk_moments, fell, fell_loading, fell_moments, going_by, is_now, l, last_moments, led_on, load_moments, unread, upto_y, wrote_chunk, wrote_last}
use Rattle.stair_array.proofs.ServingLemmas.{going_sooner}

-- a rack that goes on at last did so before
going_before : (returning : Returning) (g : Geometry) (before mid late new : List Happening) → Ran any_call before mid → Ran any_call mid late
    → Ran any_call late new → StaysWithinToleranceTo returning g before new → IsGoing returning g before mid × IsGoing returning g before late
going_before returning g before mid late new upto first second calm =
    let upto_late = ran_join {allowed = any_call} upto first in
    let on = calm_going returning g before new (ran_join {allowed = any_call} upto_late second) calm in
    let on_late = going_sooner returning g before late new upto_late second on in
    (going_sooner returning g before mid late upto first on_late, on_late)

module _ (returning : Returning) (laws : LeadsReads returning) (besides : LeadsBeside returning) (promotions : LeadsPromotions returning)
    (before : List Happening) (was : ArrayState) (words : Codewords) (kept : Content) where
  abbrev ServesAt : Snapshot → Type 0
  ServesAt x = Serves returning before was.rebuild was.stopped words kept x x.told.history

  -- no slot that isn't rebuilt is marked so
  none_marked : (x : Snapshot) → ServesAt x → ((i : ℕ) → ¬ IsRebuiltIn x.member i) → (i : ℕ)
      → ¬ (mark_in x.member.array i ≡ mark.Rebuilding)
  none_marked x is none i up =
      elim (cases_lt i x.member.array.geometry.n) [
        | inl below ↦
            none i
            (record { below = below; why = rebuilt_why (why_of x.member i) (sym (is.is_open.array.marks i below) ∙ up) })
        | inr past ↦
            let never : mark.Rebuilding ≡ mark.Down =
            sym up ∙ past_down x.member.array i (listed_member x.member is.is_open.array.member) past in
            absurd (cc)
      ]

  all_chunks : (x : Snapshot) → ServesAt x → (j t : ℕ) → IsNextChunk was j t
      → t ≡ x.member.array.geometry.stripes → IsAttached x.told.history j
      → IsRebuiltTo x.member.array.geometry words j x.member.array.geometry.stripes x.told.history x.told.history
  all_chunks x is j t at last attached =
      subst (λ (k : ℕ). IsRebuiltTo x.member.array.geometry words j k x.told.history x.told.history) last
      (chunks_next returning before was (array_with was.rebuild was.stopped x) words kept x.told.history j t is at (λ r same slot. same) attached)

  pub outcome : (answer : Result Progress Refusal) (x z : Snapshot) → Rebuilds was answer x z → was.member ≡ x.member
      → ServesAt x → NextIsRebuilt was x → IsTrue z.told.honest
      → StaysWithinToleranceTo returning x.member.array.geometry before z.told.history → Outcome returning before was words kept x.member answer z
  outcome _ _ _ (Rebuilds.NoneIs x none) member is next honest calm =
      let on = calm_going returning x.member.array.geometry before x.told.history is.is_open.ran calm in
      Goes Nothing x (plain returning before (array_with was.rebuild was.stopped x) words kept x.told.history is) refl
      (none_marked x is (λ i up. none i (subst (λ (m : Membership). IsRebuiltIn m i) (sym member) up)), λ i. inl refl)
      (led_on returning laws besides promotions before was words kept x is next x (same_serves returning laws before was.rebuild was.stopped words
      kept x x refl honest is on))
  outcome _ _ _ (Rebuilds.Unread j t into refusal x y at below loads) member is next honest calm =
      unread returning laws besides promotions before was words kept x is next t into refusal y below loads honest calm
  outcome _ _ _ (Rebuilds.FellLoading j t into x y at below loads falls) member is next honest calm =
      let upto = upto_y returning laws besides promotions before was words kept x is next j t into y at below loads honest in
      fell_loading returning laws besides promotions before was words kept x is next j t into y at below loads honest
      (calm_going returning x.member.array.geometry before y.told.history upto calm) falls
  outcome _ _ _ (Rebuilds.Fell j t into refusal x y z w at below loads rebuilt wrote drops) member is next honest calm =
      let after = (out_after drops.gone refusal z w drops.leaves).later in
      let honest_z = subst IsTrue (sym after.honest) honest in
      let honest_y = subst IsTrue (sym wrote.later.honest) honest_z in
      let on =
      going_before returning x.member.array.geometry before y.told.history z.told.history w.told.history
      (upto_y returning laws besides promotions before was words kept x is next j t into y at below loads honest_y) (wrote.later.ran honest_z)
      (after.ran honest) calm in
      fell returning laws besides promotions before was words kept x is next j t into y at below loads honest_y on.0 rebuilt reply.Gone z wrote
      honest_z w honest
      (going_by returning laws besides promotions before was words kept x is next j t into y at below loads honest_y on.0 z.told.history on.1)
      refusal drops calm
  outcome _ _ _ (Rebuilds.Wrote j t into x y z at further loads rebuilt wrote) member is next honest calm =
      let below : t < x.member.array.geometry.stripes = omega (arith, further) in
      let honest_y = subst IsTrue (sym wrote.later.honest) honest in
      let upto = upto_y returning laws besides promotions before was words kept x is next j t into y at below loads honest_y in
      let on_z =
      calm_going returning x.member.array.geometry before z.told.history (ran_join {allowed = any_call} upto (wrote.later.ran honest)) calm in
      let on_y = going_sooner returning x.member.array.geometry before y.told.history z.told.history upto (wrote.later.ran honest) on_z in
      subst (λ (p : Snapshot). Outcome returning before was words kept x.member (Ok (Chunk j t)) p)
      (sym (is_now returning laws besides promotions before was words kept x is next j t into y at below loads honest_y on_y rebuilt reply.Done z
      wrote honest))
      (wrote_chunk returning laws besides promotions before was words kept x is next j t into y at below loads honest_y on_y rebuilt reply.Done z
      wrote honest refl further
      (going_by returning laws besides promotions before was words kept x is next j t into y at below loads honest_y on_y z.told.history on_z))
  outcome _ _ _ (Rebuilds.WroteLast j t into answer x y z w at last loads rebuilt wrote promotes) member is next honest calm =
      let below : t < x.member.array.geometry.stripes = omega (arith, last) in
      let after = promotes_later j answer z w promotes in
      let honest_z = subst IsTrue (sym after.honest) honest in
      let honest_y = subst IsTrue (sym wrote.later.honest) honest_z in
      let on =
      going_before returning x.member.array.geometry before y.told.history z.told.history w.told.history
      (upto_y returning laws besides promotions before was words kept x is next j t into y at below loads honest_y) (wrote.later.ran honest_z)
      (after.ran honest) calm in
      wrote_last returning laws besides promotions before was words kept x is next j t into y at below loads honest_y on.0 rebuilt reply.Done z wrote
      honest_z w honest
      (going_by returning laws besides promotions before was words kept x is next j t into y at below loads honest_y on.0 z.told.history on.1) refl
      last answer promotes calm
  outcome _ _ _ (Rebuilds.OnlyPromotes j t answer x y at last promotes) member is next honest calm =
      promote_ends returning laws besides promotions before was words kept j answer x y promotes (next j t at)
      (plain returning before (array_with was.rebuild was.stopped x) words kept x.told.history is) (all_chunks x is j t at last) honest calm

  pub moments : (answer : Result Progress Refusal) (x z : Snapshot) → Rebuilds was answer x z
      → ServesAt x → NextIsRebuilt was x → IsTrue z.told.honest
      → AtEveryMoment (MovesAt returning before kept x.member) x.told.history z.told.history
  moments _ _ _ (Rebuilds.NoneIs x none) is next honest =
      stands_moved returning before x.member kept x.told.history x.told.history
      (at_every_none {P = StandsAt returning before x.member kept} x.told.history
      (serving_stands returning laws before (array_with was.rebuild was.stopped x) words kept x.told.history (λ calm. is)))
  moments _ _ _ (Rebuilds.Unread j t into refusal x y at below loads) is next honest =
      stands_moved returning before x.member kept x.told.history y.told.history
      (stripe_moments returning laws before was.rebuild was.stopped words kept x is t into x (none_asked x) (Err refusal) x y loads refl honest)
  moments _ _ _ (Rebuilds.FellLoading j t into x y at below loads fell) is next honest =
      load_moments returning laws besides promotions before was words kept x is next j t into y at below loads honest
  moments _ _ _ (Rebuilds.Fell j t into refusal x y z w at below loads rebuilt wrote drops) is next honest =
      let after = (out_after drops.gone refusal z w drops.leaves).later in
      let honest_z = subst IsTrue (sym after.honest) honest in
      let honest_y = subst IsTrue (sym wrote.later.honest) honest_z in
      let upto = upto_y returning laws besides promotions before was words kept x is next j t into y at below loads honest_y in
      moments_join returning before kept x.member x.told.history y.told.history w.told.history upto
      (load_moments returning laws besides promotions before was words kept x is next j t into y at below loads honest_y)
      (ran_join {allowed = any_call} (wrote.later.ran honest_z) (after.ran honest))
      (λ on.
      moments_sooner returning before kept x.member y.member (l returning laws besides promotions before was words kept x is next j t into y at below
      loads honest_y on).stays y.told.history
      w.told.history
      (moments_join returning before kept y.member y.told.history z.told.history w.told.history (ran_join {allowed = any_call} upto
      (wrote.later.ran honest_z))
      (chunk_moments returning laws besides promotions before was words kept x is next j t into y at below loads honest_y on rebuilt reply.Gone z
      wrote honest_z) (after.ran honest)
      (λ on_z.
      fell_moments returning laws besides promotions before was words kept x is next j t into y at below loads honest_y on rebuilt reply.Gone z wrote
      honest_z w honest on_z refusal
      drops)))
  moments _ _ _ (Rebuilds.Wrote j t into x y z at further loads rebuilt wrote) is next honest =
      let below : t < x.member.array.geometry.stripes = omega (arith, further) in
      let honest_y = subst IsTrue (sym wrote.later.honest) honest in
      moments_join returning before kept x.member x.told.history y.told.history z.told.history
      (upto_y returning laws besides promotions before was words kept x is next j t into y at below loads honest_y)
      (load_moments returning laws besides promotions before was words kept x is next j t into y at below loads honest_y) (wrote.later.ran honest)
      (λ on.
      moments_sooner returning before kept x.member y.member (l returning laws besides promotions before was words kept x is next j t into y at below
      loads honest_y on).stays y.told.history
      z.told.history (chunk_moments returning laws besides promotions before was words kept x is next j t into y at below loads honest_y on rebuilt
      reply.Done z wrote honest))
  moments _ _ _ (Rebuilds.WroteLast j t into answer x y z w at last loads rebuilt wrote promotes) is next honest =
      let below : t < x.member.array.geometry.stripes = omega (arith, last) in
      let after = promotes_later j answer z w promotes in
      let honest_z = subst IsTrue (sym after.honest) honest in
      let honest_y = subst IsTrue (sym wrote.later.honest) honest_z in
      let upto = upto_y returning laws besides promotions before was words kept x is next j t into y at below loads honest_y in
      moments_join returning before kept x.member x.told.history y.told.history w.told.history upto
      (load_moments returning laws besides promotions before was words kept x is next j t into y at below loads honest_y)
      (ran_join {allowed = any_call} (wrote.later.ran honest_z) (after.ran honest))
      (λ on.
      moments_sooner returning before kept x.member y.member (l returning laws besides promotions before was words kept x is next j t into y at below
      loads honest_y on).stays y.told.history
      w.told.history
      (moments_join returning before kept y.member y.told.history z.told.history w.told.history (ran_join {allowed = any_call} upto
      (wrote.later.ran honest_z))
      (chunk_moments returning laws besides promotions before was words kept x is next j t into y at below loads honest_y on rebuilt reply.Done z
      wrote honest_z) (after.ran honest)
      (λ on_z.
      last_moments returning laws besides promotions before was words kept x is next j t into y at below loads honest_y on rebuilt reply.Done z wrote
      honest_z w honest on_z refl last
      answer promotes)))
  moments _ _ _ (Rebuilds.OnlyPromotes j t answer x y at last promotes) is next honest =
      promote_moments returning laws besides promotions before was words kept j answer x y promotes (next j t at)
      (plain returning before (array_with was.rebuild was.stopped x) words kept x.told.history is) (all_chunks x is j t at last) honest
