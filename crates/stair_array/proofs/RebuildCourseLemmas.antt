-- What a step of a rebuild does to what a session knows of its slots, who is left out in it, why it is refused, and what stands, on any rack.
use Rattle.std.proofs.Common.{◌≡◌, ℕ, ◌+◌, ◌≤◌, refl, sym, ap, subst, None, Option, Some, arith}
use Rattle.std.specs.Prelude.{Err, IsTrue, Ok, Result}
use Rattle.stair_model.specs.Stripe.{Stripe}
use Rattle.stair_rack.specs.Count.{Rose}
use Rattle.stair_rack.specs.RackState.{RackState}
use Rattle.stair_rack.specs.declared.rack.Reply.TheVariants as reply
use Rattle.stair_rack.proofs.RackStateLemmas.{gones_wider, later_none}
use Rattle.stair_member.specs.Epochs.{IsRefusedBy}
use Rattle.stair_member.specs.Membership.{IsHere, Membership, why_of}
use Rattle.stair_member.specs.declared.fault.FenceFault.{FenceFault}
use Rattle.stair_member.specs.declared.why.Why.TheVariants as why
use Rattle.stair_stripes.specs.Gathering.{IsCellOf}
use Rattle.stair_invariant.specs.Effects.{Snapshot, snapshot}
use Rattle.stair_invariant.specs.Session.{ArrayState, IsArray, IsRebuiltIn}
use Rattle.stair_array.specs.Calls.{LoadsStripe, refused}
use Rattle.stair_array.specs.Causes.{IsNextChunk}
use Rattle.stair_array.specs.Machine.{Dropped, Progress, Refusal}
use Rattle.stair_array.specs.Mends.{FencesSlot, Rebuilds, WritesChunk}
use Rattle.stair_array.specs.Promise.{Stops, unopened}
use Rattle.stair_array.proofs.AnsweredLemmas.{IsLeftOut, honest_before, left_out_join, never_answered}
use Rattle.stair_array.proofs.LoadCauseLemmas.{StopsBy, Unloaded, loaded_refused, stops_sooner}
use Rattle.stair_array.proofs.PartsLemmas.{IsPart, part_join, part_none}
use Rattle.stair_array.proofs.PerformsLemmas.{answered_err, goes_on}
use Rattle.stair_array.proofs.PromotePartLemmas.{IsRebuildPart, part_rebuilds, rebuilds_join, rebuilds_left_out}
use Rattle.stair_array.proofs.PromotionLemmas.{IsBeside, dropped_never, promotes_array, promotes_left_out, promotes_never, promotes_part, promotes_refused, rebuilt_here}
use Rattle.stair_array.proofs.ReadCauseLemmas.{loaded_array}
use Rattle.stair_array.proofs.ReadCourseLemmas.{load_left_out, loaded_part}
use Rattle.stair_array.proofs.RebuildPartLemmas.{Falls, chunk_falls, chunk_left_out, chunk_part, falls_array, falls_gone, falls_left_out, falls_part, falls_stops, falls_why, gone_rose}

stripe_left_out : (t : ℕ) (into : Stripe) (answer : Result (Unit {0}) Refusal) (x y : Snapshot) → LoadsStripe t into answer x y
    → IsTrue y.told.honest → IsLeftOut x y
stripe_left_out t into _ _ _ (LoadsStripe.Loaded was read gathered answer x y loads is) =
    load_left_out t (IsCellOf x.member.array.geometry) gathered was read None x y loads
stripe_left_out t into _ _ _ (LoadsStripe.Stops was read gathered fault x y loads) =
    load_left_out t (IsCellOf x.member.array.geometry) gathered was read (Some fault) x y loads

-- A STRIPE IS LOADED

module _ (j t : ℕ) (into : Stripe) (x y z : Snapshot) (loads : LoadsStripe t into (Ok tt) x y) (array : IsArray (unopened x.member)) where
  pub stripe_part : IsPart 0 x y
  stripe_part = loaded_part t into (Ok tt) x y loads array.member

  stripe_array : IsArray (unopened y.member)
  stripe_array = loaded_array t into (Ok tt) x y loads (λ never. never) array

  -- and the chunk is written
  module _ (wrote : WritesChunk j t into reply.Done y z) where
    wrote_part : IsPart 0 y z
    wrote_part = chunk_part j t into reply.Done y z wrote stripe_part.rules

    pub written_part : IsPart 0 x z
    written_part = part_join 0 0 x y z stripe_part wrote_part

    pub written_left_out : IsTrue z.told.honest → IsLeftOut x z
    written_left_out honest =
        left_out_join 0 0 x y z stripe_part wrote_part honest
        (stripe_left_out t into (Ok tt) x y loads (honest_before y.told z.told wrote_part.after honest))
        (chunk_left_out j t into reply.Done y z wrote refl honest)

    pub written_array : IsArray (unopened z.member)
    written_array = subst (λ (m : Membership). IsArray (unopened m)) (sym wrote.member) stripe_array

    pub written_rebuilt : IsRebuiltIn y.member j → IsRebuiltIn z.member j
    written_rebuilt = subst (λ (m : Membership). IsRebuiltIn m j) (sym wrote.member)

  -- or its slot was gone
  module _ (refusal : Option FenceFault) (w : Snapshot) (rebuilt : IsRebuiltIn y.member j) (wrote : WritesChunk j t into reply.Gone y z)
      (drops : FencesSlot j refusal z w) where
    here : IsHere y.member j
    here = rebuilt_here y.member j rebuilt

    falls : Falls j refusal y w
    falls = chunk_falls j t into refusal y z w wrote drops stripe_part.rules here

    fell_part : IsPart 0 y w
    fell_part = falls_part j refusal y w falls stripe_part.rules here

    pub fallen_part : IsPart 0 x w
    fallen_part = part_join 0 0 x y w stripe_part fell_part

    pub fallen_left_out : IsTrue w.told.honest → IsLeftOut x w
    fallen_left_out honest =
        left_out_join 0 0 x y w stripe_part fell_part honest
        (stripe_left_out t into (Ok tt) x y loads (honest_before y.told w.told fell_part.after honest))
        (falls_left_out j refusal y w falls stripe_part.rules here honest)

    pub fallen_array : refusal ≡ None → IsArray (unopened w.member)
    fallen_array fine = falls_array j refusal y w falls stripe_part.rules here fine stripe_array

    pub fallen_why : why_of w.member j ≡ why.Gone
    fallen_why = falls_why j refusal y w falls stripe_part.rules here

    pub fallen_rose : Rose (x.told.gones j) (w.told.gones j)
    fallen_rose =
        gones_wider x.told y.told w.told w.told stripe_part.after.later fell_part.after.later.honest fell_part.after.later.counts (later_none w.told) j
        (gone_rose y.member j y.told w.told (falls_gone j refusal y w falls stripe_part.rules here))

    pub fallen_stops : (fault : FenceFault) → refusal ≡ Some fault → StopsBy fault x w
    fallen_stops fault is = stops_sooner x y w stripe_part fell_part fault (falls_stops j refusal y w falls stripe_part.rules here fault is)

-- A STEP OF A REBUILD

-- Why it is refused: a stripe wasn't loaded; the slot was gone as its chunk was written, and no epoch without it could be
-- established; or none could be after the last chunk.
pub data IsStopped (was : ArrayState) (why : Refusal) (x z : Snapshot) : Type 0 where
  Loading : (j t : ℕ) → IsNextChunk was j t → Unloaded t why x z → IsStopped was why x z
  Falling : (fault : FenceFault) → why ≡ refused fault → StopsBy fault x z → IsStopped was why x z
  Promoting : (j t : ℕ) → IsNextChunk was j t → x.member.array.geometry.stripes ≤ t + 1 → (fault : FenceFault) → why ≡ refused fault
      → IsRefusedBy z.member fault → IsStopped was why x z

-- the slot whose chunk comes next is rebuilt
abbrev pub NextIsRebuilt : ArrayState → Snapshot → Type 0
NextIsRebuilt was x = (j t : ℕ) → IsNextChunk was j t → IsRebuiltIn x.member j

-- as it is by an open array
pub next_rebuilt : (was : ArrayState) (old : RackState) → IsArray was → NextIsRebuilt was (snapshot was.member old)
next_rebuilt was old array j t (IsNextChunk.UnderWay under is slot stripe) = subst (IsRebuiltIn was.member) slot (array.rebuilds under is).0
next_rebuilt was old array j t (IsNextChunk.First none lowest first) = lowest.rebuilt

module _ (was : ArrayState) where
  pub rebuilt_part : (answer : Result Progress Refusal) (x z : Snapshot) → Rebuilds was answer x z → IsArray (unopened x.member)
      → NextIsRebuilt was x → IsRebuildPart x z
  rebuilt_part _ _ _ (Rebuilds.NoneIs x none) array next = part_rebuilds x x array.marks (part_none x array.member)
  rebuilt_part _ _ _ (Rebuilds.Unread j t into refusal x y is below loads) array next =
      part_rebuilds x y array.marks (loaded_part t into (Err refusal) x y loads array.member)
  rebuilt_part _ _ _ (Rebuilds.FellLoading j t into x y is below loads fell) array next =
      part_rebuilds x y array.marks (loaded_part t into (Ok tt) x y loads array.member)
  rebuilt_part _ _ _ (Rebuilds.Fell j t into refusal x y z w is below loads rebuilt wrote drops) array next =
      part_rebuilds x w array.marks (fallen_part j t into x y z loads array refusal w rebuilt wrote drops)
  rebuilt_part _ _ _ (Rebuilds.Wrote j t into x y z is below loads rebuilt wrote) array next =
      part_rebuilds x z array.marks (written_part j t into x y z loads array wrote)
  rebuilt_part _ _ _ (Rebuilds.WroteLast j t into answer x y z w is at_end loads rebuilt wrote promotes) array next =
      rebuilds_join x z w (part_rebuilds x z array.marks (written_part j t into x y z loads array wrote))
      (promotes_part j answer z w promotes (written_array j t into x y z loads array wrote) (written_rebuilt j t into x y z loads array wrote rebuilt))
  rebuilt_part _ _ _ (Rebuilds.OnlyPromotes j t answer x y is at_end promotes) array next = promotes_part j answer x y promotes array (next j t is)

  -- where it comes to no promotion and its slot didn't fall it drops slots at most
  pub beside_part : (answer : Result Progress Refusal) (x z : Snapshot) → Rebuilds was answer x z → IsArray (unopened x.member)
      → IsBeside answer → IsPart 0 x z
  beside_part _ _ _ (Rebuilds.NoneIs x none) array beside = part_none x array.member
  beside_part _ _ _ (Rebuilds.Unread j t into refusal x y is below loads) array beside = loaded_part t into (Err refusal) x y loads array.member
  beside_part _ _ _ (Rebuilds.FellLoading j t into x y is below loads fell) array beside = absurd beside
  beside_part _ _ _ (Rebuilds.Fell j t into refusal x y z w is below loads rebuilt wrote drops) array beside = absurd (dropped_never j refusal beside)
  beside_part _ _ _ (Rebuilds.Wrote j t into x y z is below loads rebuilt wrote) array beside = written_part j t into x y z loads array wrote
  beside_part _ _ _ (Rebuilds.WroteLast j t into answer x y z w is at_end loads rebuilt wrote promotes) array beside =
      absurd (promotes_never j answer z w promotes beside)
  beside_part _ _ _ (Rebuilds.OnlyPromotes j t answer x y is at_end promotes) array beside = absurd (promotes_never j answer x y promotes beside)

  pub rebuilt_left_out : (answer : Result Progress Refusal) (x z : Snapshot) → Rebuilds was answer x z → IsArray (unopened x.member)
      → NextIsRebuilt was x → IsTrue z.told.honest → IsLeftOut x z
  rebuilt_left_out _ _ _ (Rebuilds.NoneIs x none) array next honest =
      λ j call here was_answered gone. absurd (never_answered j call x.told.history was_answered)
  rebuilt_left_out _ _ _ (Rebuilds.Unread j t into refusal x y is below loads) array next honest =
      stripe_left_out t into (Err refusal) x y loads honest
  rebuilt_left_out _ _ _ (Rebuilds.FellLoading j t into x y is below loads fell) array next honest =
      stripe_left_out t into (Ok tt) x y loads honest
  rebuilt_left_out _ _ _ (Rebuilds.Fell j t into refusal x y z w is below loads rebuilt wrote drops) array next honest =
      fallen_left_out j t into x y z loads array refusal w rebuilt wrote drops honest
  rebuilt_left_out _ _ _ (Rebuilds.Wrote j t into x y z is below loads rebuilt wrote) array next honest =
      written_left_out j t into x y z loads array wrote honest
  rebuilt_left_out _ _ _ (Rebuilds.WroteLast j t into answer x y z w is at_end loads rebuilt wrote promotes) array next honest =
      let array_z = written_array j t into x y z loads array wrote in
      let rebuilt_z = written_rebuilt j t into x y z loads array wrote rebuilt in
      let second = promotes_part j answer z w promotes array_z rebuilt_z in
      rebuilds_left_out x z w (part_rebuilds x z array.marks (written_part j t into x y z loads array wrote)) second honest
      (written_left_out j t into x y z loads array wrote (honest_before z.told w.told second.after honest))
      (promotes_left_out j answer z w promotes array_z rebuilt_z honest)
  rebuilt_left_out _ _ _ (Rebuilds.OnlyPromotes j t answer x y is at_end promotes) array next honest =
      promotes_left_out j answer x y promotes array (next j t is) honest

  pub rebuilt_array : (answer : Result Progress Refusal) (x z : Snapshot) → Rebuilds was answer x z → IsArray (unopened x.member)
      → NextIsRebuilt was x → ¬ Stops answer → IsArray (unopened z.member)
  rebuilt_array _ _ _ (Rebuilds.NoneIs x none) array next going = array
  rebuilt_array _ _ _ (Rebuilds.Unread j t into refusal x y is below loads) array next going =
      loaded_array t into (Err refusal) x y loads going array
  rebuilt_array _ _ _ (Rebuilds.FellLoading j t into x y is below loads fell) array next going =
      loaded_array t into (Ok tt) x y loads (λ never. never) array
  rebuilt_array _ _ _ (Rebuilds.Fell j t into refusal x y z w is below loads rebuilt wrote drops) array next going =
      fallen_array j t into x y z loads array refusal w rebuilt wrote drops (goes_on (Dropped j) refusal going)
  rebuilt_array _ _ _ (Rebuilds.Wrote j t into x y z is below loads rebuilt wrote) array next going =
      written_array j t into x y z loads array wrote
  rebuilt_array _ _ _ (Rebuilds.WroteLast j t into answer x y z w is at_end loads rebuilt wrote promotes) array next going =
      promotes_array j answer z w promotes (written_array j t into x y z loads array wrote)
      (written_rebuilt j t into x y z loads array wrote rebuilt) going
  rebuilt_array _ _ _ (Rebuilds.OnlyPromotes j t answer x y is at_end promotes) array next going =
      promotes_array j answer x y promotes array (next j t is) going

  pub rebuilt_stopped : (answer : Result Progress Refusal) (x z : Snapshot) → Rebuilds was answer x z → IsArray (unopened x.member)
      → NextIsRebuilt was x → (why : Refusal) → answer ≡ Err why → IsStopped was why x z
  rebuilt_stopped _ _ _ (Rebuilds.NoneIs x none) array next why same = absurd (cc)
  rebuilt_stopped _ _ _ (Rebuilds.Unread j t into refusal x y is below loads) array next why same =
      let one : refusal ≡ why = cc in
      Loading j t is (loaded_refused t into (Err refusal) x y loads why (ap (λ (r : Refusal). Err r) one))
  rebuilt_stopped _ _ _ (Rebuilds.FellLoading j t into x y is below loads fell) array next why same = absurd (cc)
  rebuilt_stopped _ _ _ (Rebuilds.Fell j t into refusal x y z w is below loads rebuilt wrote drops) array next why same =
      let by = answered_err (Dropped j) refusal why same in
      Falling by.0 by.2 (fallen_stops j t into x y z loads array refusal w rebuilt wrote drops by.0 by.1)
  rebuilt_stopped _ _ _ (Rebuilds.Wrote j t into x y z is below loads rebuilt wrote) array next why same = absurd (cc)
  rebuilt_stopped _ _ _ (Rebuilds.WroteLast j t into answer x y z w is at_end loads rebuilt wrote promotes) array next why same =
      let by =
      promotes_refused j answer z w promotes (written_array j t into x y z loads array wrote)
      (written_rebuilt j t into x y z loads array wrote rebuilt) why same in
      Promoting j t is (omega (arith, at_end)) by.0 by.1 by.2
  rebuilt_stopped _ _ _ (Rebuilds.OnlyPromotes j t answer x y is at_end promotes) array next why same =
      let by = promotes_refused j answer x y promotes array (next j t is) why same in
      Promoting j t is (omega (arith, at_end)) by.0 by.1 by.2
