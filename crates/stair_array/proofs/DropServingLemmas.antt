-- An open array while a slot that it rebuilds is dropped, which was gone to a call, whether media come back or not.
use Rattle.std.proofs.Common.{List, None, Option, Some, ap, arith, inl, refl, subst, sym, ℕ, ◌∙◌, ◌≡◌}
use Rattle.std.specs.Prelude.{Err, IsTrue, Ok}
use Rattle.stair_model.specs.Slots.{HasSlot}
use Rattle.stair_rack.specs.Answers.{Ran, any_call}
use Rattle.stair_rack.specs.Crash.{image_now}
use Rattle.stair_rack.specs.History.{Happening}
use Rattle.stair_rack.specs.Moments.{AtEveryMoment}
use Rattle.stair_rack.specs.Offline.{IsOfflineUntilAttached}
use Rattle.stair_rack.specs.RackState.{IsLater, RackState}
use Rattle.stair_rack.proofs.CrashLemmas.{CrashMayLeave-now}
use Rattle.stair_rack.proofs.MomentLemmas.{ran_join, at_last}
use Rattle.stair_rack.proofs.TidyLemmas.{history_on}
use Rattle.stair_super.specs.Superblock.{Superblock}
use Rattle.stair_member.specs.Current.{IsCurrent, IsLive}
use Rattle.stair_member.specs.Membership.{IsHere, Membership, why_of}
use Rattle.stair_member.specs.declared.fault.FenceFault.{FenceFault}
use Rattle.stair_member.specs.declared.fault.FenceFault.TheVariants.{TooFew}
use Rattle.stair_member.specs.declared.why.Why.{Why}
use Rattle.stair_member.specs.declared.why.Why.TheVariants as why
use Rattle.stair_state.specs.Blocks.{Codewords}
use Rattle.stair_state.specs.State.{Content}
use Rattle.stair_state.specs.Tolerance.{IsTolerated}
use Rattle.stair_invariant.specs.Effects.{Fenced, FencesGone, NoneWas, Snapshot, snapshot}
use Rattle.stair_invariant.specs.Opening.{StaysArray, opened_with}
use Rattle.stair_invariant.specs.Returning.{Returning}
use Rattle.stair_invariant.specs.Session.{IsLiveIn, IsRebuiltIn}
use Rattle.stair_invariant.proofs.StaysArrayLemmas.{left_stays}
use Rattle.stair_invariant.proofs.Serving.{StaysWithinToleranceTo, IsGoing, IsServing, tolerated_now, StandsAs, LeadsReads}
use Rattle.stair_array.specs.Mends.{FencesSlot}
use Rattle.stair_array.proofs.AnsweredLemmas.{out_gone}
use Rattle.stair_array.proofs.EnoughLemmas.{never_few}
use Rattle.stair_array.proofs.LeftServingLemmas.{StandsAt, leaving_stands, leaving_refused, stands_live}
use Rattle.stair_array.proofs.PartsLemmas.{out_after}
use Rattle.stair_array.proofs.PromotionLemmas.{rebuilt_here}

module _ (returning : Returning) (laws : LeadsReads returning) (before : List Happening) (m : Membership) (words : Codewords) (kept : Content) (j : ℕ)
    (rebuilt : IsRebuiltIn m j) (old : RackState) (is : IsServing returning before (opened_with m) words kept old.history) (z : Snapshot)
    (honest : IsTrue z.told.honest)
    (refusal : Option FenceFault) (drops : FencesSlot j refusal (snapshot m old) z) where
  own_only : (i : ℕ) → HasSlot drops.gone i → i ≡ j
  own_only i has = (drops.alone i).0 has

  here : (i : ℕ) → HasSlot drops.gone i → IsHere m i
  here i has = subst (IsHere m) (sym (own_only i has)) (rebuilt_here m j rebuilt)

  -- it isn't live
  off : (i : ℕ) → HasSlot drops.gone i → IsLiveIn m i → IsOfflineUntilAttached before old.history i
  off i has live =
      let never : why.Here ≡ why.Rebuilding = sym live.why ∙ ap (why_of m) (own_only i has) ∙ rebuilt.why in
      absurd (cc)

  pub drop_later : IsLater old z.told
  drop_later = (out_after drops.gone refusal (snapshot m old) z drops.leaves).later

  pub drop_stands : AtEveryMoment (StandsAt returning before m kept) old.history z.told.history
  drop_stands = leaving_stands returning laws before (opened_with m) words kept drops.gone refusal old z drops.leaves honest is here off

  pub drop_stays : StaysArray m z.member
  drop_stays = left_stays drops.gone refusal (snapshot m old) z drops.leaves is.is_open.array.member

  pub drop_why : why_of z.member j ≡ why.Gone
  drop_why = out_gone drops.gone refusal (snapshot m old) z drops.leaves j ((drops.alone j).1 refl) rebuilt.below

  -- done
  pub drop_serves : refusal ≡ None → IsGoing returning m.array.geometry before z.told.history
      → IsServing returning before (opened_with z.member) words kept z.told.history
  drop_serves fine on =
      laws.left before (opened_with m) words kept drops.gone old z is
      (subst (λ (r : Option FenceFault). FencesGone drops.gone r (snapshot m old) z) fine drops.leaves) honest here on

  -- refused
  pub drop_refused : (fault : FenceFault) → refusal ≡ Some fault → StaysWithinToleranceTo returning m.array.geometry before z.told.history
      → StandsAs returning m kept None z.told.history
  drop_refused fault at calm =
      leaving_refused returning laws before (opened_with m) words kept drops.gone refusal old z drops.leaves honest is here off fault at calm

  -- not for want of slots
  module _ (calm : StaysWithinToleranceTo returning m.array.geometry before z.told.history) where
    later : Ran any_call old.history z.told.history
    later = drop_later.ran honest

    tolerated : IsTolerated m.array.geometry before z.told.history
    tolerated = tolerated_now returning m.array.geometry before z.told.history (ran_join {allowed = any_call} is.is_open.ran later) calm

    -- what is live in the end was so to the array
    live_was : (current : Superblock) → IsCurrent m.array.geometry (image_now z.told.history) current → (i : ℕ)
        → IsLive m.array.geometry (image_now z.told.history) current i → why_of m i ≡ why.Here
    live_was =
        stands_live returning before m kept z.told.history (history_on {allowed = any_call} is.history later)
        (tolerated (image_now z.told.history) (CrashMayLeave-now z.told.history))
        (at_last {P = StandsAt returning before m kept} drop_stands calm (image_now z.told.history) (CrashMayLeave-now z.told.history))
        is.is_open.array.marks

    pub drop_enough : (whys : List Why) → ¬ (refusal ≡ Some (TooFew whys))
    drop_enough whys at = by drops.leaves
      where
        by : FencesGone drops.gone refusal (snapshot m old) z → ⊥
        by (NoneWas none same fine) = let never : None ≡ Some (TooFew whys) = sym fine ∙ at in absurd (cc)
        by (Fenced i has (Ok fallen) fine does) = let never : None ≡ Some (TooFew whys) = sym fine ∙ at in absurd (cc)
        by (Fenced i has (Err fault) fine does) =
            let one : fault ≡ TooFew whys = (let both : Some fault ≡ Some (TooFew whys) = sym fine ∙ at in cc) in
            never_few before m drops.gone z.member fault old z.told does honest m.array.geometry refl tolerated live_was
            (λ k live. is.is_open.held k (record { below = live.below; why = inl live.why }))
            (λ k live on. (is.is_open.live k live on).large 1 (omega arith)) (λ k live left. off k left live) whys one
