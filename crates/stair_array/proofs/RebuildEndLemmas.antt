-- How a step of a rebuild ends, whether media come back or not: a slot is dropped, or promoted; and which chunks a rebuild has come to.
use Rattle.std.proofs.Common.{List, None, Option, Some, ap, inl, inr, refl, subst, sym, ℕ, ◌<◌, ◌∙◌, ◌≡◌}
use Rattle.std.specs.Prelude.{IsTrue, Result}
use Rattle.stair_model.specs.Geometry.{Geometry}
use Rattle.stair_rack.specs.Answers.{Ran, any_call}
use Rattle.stair_rack.specs.History.{Happening}
use Rattle.stair_rack.specs.Moments.{AtEveryMoment}
use Rattle.stair_rack.specs.Offline.{IsAttached}
use Rattle.stair_rack.specs.RackState.{IsLater, RackState}
use Rattle.stair_rack.specs.declared.rack.Reply.{Reply}
use Rattle.stair_rack.specs.declared.rack.Reply.TheVariants as reply
use Rattle.stair_rack.proofs.MomentLemmas.{at_every_from, at_every_join, at_every_mapped, at_moment, ran_before, ran_join}
use Rattle.stair_rack.proofs.RackStateLemmas.{later_join}
use Rattle.stair_super.specs.Superblock.{mark_in}
use Rattle.stair_super.specs.declared.mark.Mark.TheVariants as mark
use Rattle.stair_member.specs.Aims.{mark_for}
use Rattle.stair_member.specs.Establishing.{Joins, refusal_in}
use Rattle.stair_member.specs.Membership.{Membership}
use Rattle.stair_member.specs.declared.aim.EpochChange.TheVariants.{Promote}
use Rattle.stair_member.specs.declared.fault.FenceFault.{FenceFault}
use Rattle.stair_member.specs.declared.fault.FenceFault.TheVariants as fence
use Rattle.stair_state.specs.Blocks.{Codewords}
use Rattle.stair_state.specs.State.{Content}
use Rattle.stair_invariant.specs.Effects.{Snapshot, snapshot}
use Rattle.stair_invariant.specs.Opening.{StaysArray, opened_with}
use Rattle.stair_invariant.specs.Rebuilding.{IsRebuiltTo, Rebuild}
use Rattle.stair_invariant.specs.Returning.{Returning}
use Rattle.stair_invariant.specs.Session.{ArrayState, IsRebuiltIn, seats_in}
use Rattle.stair_invariant.proofs.OpenWithLemmas.{rebuilds_on}
use Rattle.stair_invariant.proofs.RebuildingLemmas.{rebuilt_none}
use Rattle.stair_invariant.proofs.Serving.{StaysWithinToleranceTo, IsGoing, IsServing, LeadsReads}
use Rattle.stair_invariant.proofs.Mending.{calm_going, LeadsBeside, LeadsPromotions}
use Rattle.stair_array.specs.Calls.{answer_of}
use Rattle.stair_array.specs.Causes.{IsNextChunk}
use Rattle.stair_array.specs.Machine.{Dropped, Progress, Refusal}
use Rattle.stair_array.specs.Mends.{FencesSlot, Joined, Promotes, SyncsSlot, Unsynced}
use Rattle.stair_array.proofs.ChunkServingLemmas.{sync_serves, sync_stands, sync_whole}
use Rattle.stair_array.proofs.DropServingLemmas.{drop_enough, drop_later, drop_refused, drop_serves, drop_stands, drop_stays, drop_why}
use Rattle.stair_array.proofs.LeftServingLemmas.{StandsAt}
use Rattle.stair_array.proofs.PartsLemmas.{epoch_after, out_after}
use Rattle.stair_array.proofs.PromoteServingLemmas.{none_rebuilt, promotion_ends, promotion_stands}
use Rattle.stair_array.proofs.RebuildSeatLemmas.{Goes, MovesAt, Outcome, Spent, goes_by}
use Rattle.stair_array.proofs.ServingLemmas.{going_sooner}

-- the array serves without its rebuild too
pub plain : (returning : Returning) (before : List Happening) (a : ArrayState) (words : Codewords) (kept : Content) (h : List Happening)
    → IsServing returning before a words kept h → IsServing returning before (opened_with a.member) words kept h
plain returning before a words kept h is = record {
  is_open = rebuilds_on before a (opened_with a.member) words h is.is_open refl (λ rebuild never. absurd (cc));
  history = is.history;
  of = is.of;
  knows = is.knows;
}

pub stands_moved : (returning : Returning) (before : List Happening) (m : Membership) (kept : Content) (old new : List Happening)
    → AtEveryMoment (StandsAt returning before m kept) old new → AtEveryMoment (MovesAt returning before kept m) old new
stands_moved returning before m kept old new =
    at_every_mapped {P = StandsAt returning before m kept} {Q = MovesAt returning before kept m}
    (λ c stands calm image left. let is = stands calm image left in (is.array, is.stands, inl is.dropped))

-- In turn: what is so at each moment of the one part, and of the other one where nothing has come back before it.
pub moments_join : (returning : Returning) (before : List Happening) (kept : Content) (m : Membership) (old mid new : List Happening)
    → Ran any_call before mid
    → AtEveryMoment (MovesAt returning before kept m) old mid → Ran any_call mid new
    → (IsGoing returning m.array.geometry before mid → AtEveryMoment (MovesAt returning before kept m) mid new)
    → AtEveryMoment (MovesAt returning before kept m) old new
moments_join returning before kept m old mid new upto first later second =
    at_every_join {P = MovesAt returning before kept m} first
    (at_every_from {P = MovesAt returning before kept m} later.more later.is
    (λ c at calm.
    let so_far = ran_before {allowed = any_call} later at in
    at_moment {P = MovesAt returning before kept m}
    (second
    (going_sooner returning m.array.geometry before mid c upto so_far
    (calm_going returning m.array.geometry before c (ran_join {allowed = any_call} upto so_far) calm))) at calm))

-- THE END of a step: a slot that is rebuilt is dropped, or promoted.
module _ (returning : Returning) (laws : LeadsReads returning) (before : List Happening) (was : ArrayState) (words : Codewords) (kept : Content)
    (m : Membership) (j : ℕ) (rebuilt : IsRebuiltIn m j) (old : RackState) (is : IsServing returning before (opened_with m) words kept old.history)
    (z : Snapshot)
    (honest : IsTrue z.told.honest) where
  marked_so : mark_in m.array j ≡ mark.Rebuilding
  marked_so = is.is_open.array.marks j rebuilt.below ∙ ap mark_for rebuilt.why

  module _ (refusal : Option FenceFault) (drops : FencesSlot j refusal (snapshot m old) z) where
    pub drop_moments : AtEveryMoment (MovesAt returning before kept m) old.history z.told.history
    drop_moments =
        stands_moved returning before m kept old.history z.told.history
        (drop_stands returning laws before m words kept j rebuilt old is z honest refusal drops)

    pub drop_ends : StaysWithinToleranceTo returning m.array.geometry before z.told.history
        → Outcome returning before was words kept m (answer_of (Dropped j) refusal) z
    drop_ends calm = by refusal refl
      where
        later : Ran any_call old.history z.told.history
        later = (drop_later returning laws before m words kept j rebuilt old is z honest refusal drops).ran honest

        on : IsGoing returning m.array.geometry before z.told.history
        on = calm_going returning m.array.geometry before z.told.history (ran_join {allowed = any_call} is.is_open.ran later) calm

        stays : StaysArray m z.member
        stays = drop_stays returning laws before m words kept j rebuilt old is z honest refusal drops

        by : (given : Option FenceFault) → refusal ≡ given → Outcome returning before was words kept m (answer_of (Dropped j) given) z
        by (Some (fence.TooFew whys)) at =
            absurd (drop_enough returning laws before m words kept j rebuilt old is z honest refusal drops calm whys at)
        by (Some fence.EpochsSpent) at =
            let found = drop_refused returning laws before m words kept j rebuilt old is z honest refusal drops fence.EpochsSpent at calm in
            Spent z found.array found.stands (inl found.dropped)
        by None at =
            let serves = drop_serves returning laws before m words kept j rebuilt old is z honest refusal drops at on in
            let below = subst (λ (g : Geometry). j < g.n) (sym stays.geometry) rebuilt.below in
            let down : mark_in z.member.array j ≡ mark.Down =
            serves.is_open.array.marks j below
            ∙ ap mark_for (drop_why returning laws before m words kept j rebuilt old is z honest refusal drops) in
            Goes (Dropped j) z serves stays.geometry
            (goes_by j mark.Down (seats_in m.array) (seats_in z.member.array) stays.seats marked_so down (inr refl))
            (λ b same keeps. none_rebuilt before z.member words z.told.history serves.is_open b same keeps.0)

module _ (returning : Returning) (laws : LeadsReads returning) (besides : LeadsBeside returning) (promotions : LeadsPromotions returning)
    (before : List Happening) (was : ArrayState) (words : Codewords) (kept : Content) (j : ℕ) where
  -- after a sync
  module _ (x y : Snapshot) (answer : Reply) (syncs : SyncsSlot j answer x y) (rebuilt : IsRebuiltIn x.member j)
      (is : IsServing returning before (opened_with x.member) words kept x.told.history) (honest : IsTrue y.told.honest) where
    synced_upto : Ran any_call before y.told.history
    synced_upto = ran_join {allowed = any_call} is.is_open.ran (syncs.later.ran honest)

    synced_moments : AtEveryMoment (MovesAt returning before kept x.member) x.told.history y.told.history
    synced_moments =
        stands_moved returning before x.member kept x.told.history y.told.history
        (sync_stands returning laws besides before x.member words kept j rebuilt x.told is y honest answer syncs)

    synced_serves : IsGoing returning x.member.array.geometry before y.told.history
        → IsServing returning before (opened_with x.member) words kept y.told.history
    synced_serves = sync_serves returning laws besides before x.member words kept j rebuilt x.told is y honest answer syncs

  pub promote_moments : (answer : Result Progress Refusal) (x z : Snapshot) → Promotes j answer x z
      → IsRebuiltIn x.member j → IsServing returning before (opened_with x.member) words kept x.told.history
      → (IsAttached x.told.history j → IsRebuiltTo x.member.array.geometry words j x.member.array.geometry.stripes x.told.history x.told.history)
      → IsTrue z.told.honest → AtEveryMoment (MovesAt returning before kept x.member) x.told.history z.told.history
  promote_moments _ _ _ (Unsynced refusal x y z syncs drops) rebuilt is chunks honest =
      let after = (out_after drops.gone refusal y z drops.leaves).later in
      let honest_y = subst IsTrue (sym after.honest) honest in
      moments_join returning before kept x.member x.told.history y.told.history z.told.history (synced_upto x y reply.Gone syncs rebuilt is honest_y)
      (synced_moments x y reply.Gone syncs rebuilt is honest_y) (after.ran honest)
      (λ on.
      drop_moments returning laws before was words kept x.member j rebuilt y.told (synced_serves x y reply.Gone syncs rebuilt is honest_y on) z
      honest refusal
      (subst (λ (m : Membership). FencesSlot j refusal (snapshot m y.told) z) syncs.member drops))
  promote_moments _ _ _ (Joined given x y z syncs joins) rebuilt is chunks honest =
      let after = (epoch_after (Promote j) y.member z.member (refusal_in given) y.told z.told joins.establishes).later in
      let honest_y = subst IsTrue (sym after.honest) honest in
      moments_join returning before kept x.member x.told.history y.told.history z.told.history (synced_upto x y reply.Done syncs rebuilt is honest_y)
      (synced_moments x y reply.Done syncs rebuilt is honest_y) (after.ran honest)
      (λ on.
      promotion_stands returning promotions before x.member words kept j y.told (synced_serves x y reply.Done syncs rebuilt is honest_y on)
      (sync_whole returning laws besides before x.member words kept j rebuilt x.told is y honest_y reply.Done syncs refl chunks) z honest given
      (subst (λ (m : Membership). Joins (Promote j) j m z.member given y.told z.told) syncs.member joins))

  pub promote_ends : (answer : Result Progress Refusal) (x z : Snapshot) → Promotes j answer x z
      → IsRebuiltIn x.member j → IsServing returning before (opened_with x.member) words kept x.told.history
      → (IsAttached x.told.history j → IsRebuiltTo x.member.array.geometry words j x.member.array.geometry.stripes x.told.history x.told.history)
      → IsTrue z.told.honest → StaysWithinToleranceTo returning x.member.array.geometry before z.told.history
      → Outcome returning before was words kept x.member answer z
  promote_ends _ _ _ (Unsynced refusal x y z syncs drops) rebuilt is chunks honest calm =
      let after = (out_after drops.gone refusal y z drops.leaves).later in
      let honest_y = subst IsTrue (sym after.honest) honest in
      let upto = synced_upto x y reply.Gone syncs rebuilt is honest_y in
      let on =
      going_sooner returning x.member.array.geometry before y.told.history z.told.history upto (after.ran honest)
      (calm_going returning x.member.array.geometry before z.told.history (ran_join {allowed = any_call} upto (after.ran honest)) calm) in
      drop_ends returning laws before was words kept x.member j rebuilt y.told (synced_serves x y reply.Gone syncs rebuilt is honest_y on) z honest
      refusal
      (subst (λ (m : Membership). FencesSlot j refusal (snapshot m y.told) z) syncs.member drops) calm
  promote_ends _ _ _ (Joined given x y z syncs joins) rebuilt is chunks honest calm =
      let after = (epoch_after (Promote j) y.member z.member (refusal_in given) y.told z.told joins.establishes).later in
      let honest_y = subst IsTrue (sym after.honest) honest in
      let upto = synced_upto x y reply.Done syncs rebuilt is honest_y in
      let on =
      going_sooner returning x.member.array.geometry before y.told.history z.told.history upto (after.ran honest)
      (calm_going returning x.member.array.geometry before z.told.history (ran_join {allowed = any_call} upto (after.ran honest)) calm) in
      promotion_ends returning promotions before x.member words kept j y.told (synced_serves x y reply.Done syncs rebuilt is honest_y on)
      (sync_whole returning laws besides before x.member words kept j rebuilt x.told is y honest_y reply.Done syncs refl chunks) z honest was given
      (subst (λ (m : Membership). Joins (Promote j) j m z.member given y.told z.told) syncs.member joins) calm

-- WHICH CHUNKS a rebuild has come to
pub chunks_next : (returning : Returning) (before : List Happening) (was a : ArrayState) (words : Codewords) (kept : Content) (h : List Happening)
    (j t : ℕ)
    → IsServing returning before a words kept h
    → IsNextChunk was j t → ((r : Rebuild) → was.rebuild ≡ Some r → r.slot ≡ j → a.rebuild ≡ Some r) → IsAttached h j
    → IsRebuiltTo a.member.array.geometry words j t h h
chunks_next returning before was a words kept h j t is (IsNextChunk.UnderWay r same slot stripe) goes attached =
    subst (λ (k : ℕ). IsRebuiltTo a.member.array.geometry words k t h h) slot
    (subst (λ (k : ℕ). IsRebuiltTo a.member.array.geometry words r.slot k h h) stripe
    (is.is_open.rebuilt r (goes r same slot) (subst (IsAttached h) (sym slot) attached)))
chunks_next returning before was a words kept h j t is (IsNextChunk.First none lowest first) goes attached =
    subst (λ (k : ℕ). IsRebuiltTo a.member.array.geometry words j k h h) (sym first) (rebuilt_none a.member.array.geometry words j h h)

pub promotes_later : (j : ℕ) (answer : Result Progress Refusal) (x z : Snapshot) → Promotes j answer x z → IsLater x.told z.told
promotes_later j _ _ _ (Unsynced refusal x y z syncs drops) = later_join syncs.later (out_after drops.gone refusal y z drops.leaves).later
promotes_later j _ _ _ (Joined given x y z syncs joins) =
    later_join syncs.later (epoch_after (Promote j) y.member z.member (refusal_in given) y.told z.told joins.establishes).later
