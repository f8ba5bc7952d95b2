-- What lasts in the midst of a redo is so once an opening's first epoch stands.
use Rattle.std.proofs.Common.{◌≡◌, ℕ, inr, List, inl, subst, sym, arith, None, Some}
use Rattle.std.specs.Prelude.{IsTrue}
use Rattle.stair_model.specs.Geometry.{Geometry}
use Rattle.stair_model.specs.Slots.{Slots}
use Rattle.stair_rack.specs.Answers.{Ran, any_call}
use Rattle.stair_rack.specs.History.{Happening, stopped}
use Rattle.stair_rack.specs.Offline.{IsHeld}
use Rattle.stair_rack.proofs.MomentLemmas.{ran_any, ran_join}
use Rattle.stair_rack.proofs.OfflineLemmas.{held_on, pulls_on}
use Rattle.stair_member.specs.Asked.{LeavesSectors}
use Rattle.stair_member.specs.Counting.{AtMost}
use Rattle.stair_member.specs.Epochs.{IsIssuing, IsTaken}
use Rattle.stair_member.specs.Fencing.{HasStood}
use Rattle.stair_member.specs.Membership.{IsHere, IsMissing, Membership}
use Rattle.stair_member.specs.declared.aim.EpochChange.TheVariants.{Fence}
use Rattle.stair_member.proofs.AgainLemmas.{stayed}
use Rattle.stair_state.specs.State.{State}
use Rattle.stair_invariant.specs.Leading.{IsOpenAmid}
use Rattle.stair_invariant.specs.Opening.{IsFoundFor}
use Rattle.stair_invariant.proofs.OpeningEndLemmas.{begins}
use Rattle.stair_invariant.proofs.OwnLaws.{own_stood}

-- a slot that is held in a session is so in one that began earlier
held_before : (before old h : List Happening) (j : ℕ) → Ran any_call before old → IsHeld old h j → IsHeld before h j
held_before before old h j ran (IsHeld.InUse on some least) =
    let more = pulls_on {allowed = any_call} j ran in IsHeld.InUse on some (omega (arith, least, more))
held_before before old h j ran (IsHeld.Unattached off pulled) = let more = pulls_on {allowed = any_call} j ran in IsHeld.Unattached off (omega (arith, pulled, more))
held_before before old h j ran (IsHeld.RackStopped stops) = IsHeld.RackStopped stops

module _ (s : State) (m last : Membership) (before old mid new : List Happening) (found : IsFoundFor s m before old mid) (gone : Slots)
    (st : HasStood Fence gone m last mid new) (going : ¬ IsTrue (stopped new)) where
  held_then : (j : ℕ) → IsHere m j → IsHeld before new j
  held_then j here =
      held_on {allowed = IsIssuing st.fencing.issued.slots st.fencing.issued.editions} j st.fencing.issued.ran
      (held_before before old mid j found.began (found.held j here))

  was_here : (j : ℕ) → IsHere last j → IsHere m j
  was_here j here = by (stayed Fence gone m last mid new st j here)
    where
      by : IsTaken None m j → IsHere m j
      by (inl was) = was
      by (inr never) = let joins : None ≡ Some j = never.0 in absurd (cc)

  pub opened_amid : IsOpenAmid before (record { member = last; rebuild = None; stopped = None; remembered = None }) new
  opened_amid = record {
    array = record {
      member = st.member;
      marks = (begins s m last before old mid new found gone st going).marks;
      enough = subst (λ (g : Geometry). AtMost g.m (IsMissing last)) (sym st.established.stands.geometry) st.established.stands.enough;
      rebuilds = λ rebuild never. absurd (cc);
    };
    ran =
        ran_join {allowed = any_call} found.began
        (ran_join {allowed = any_call} (ran_any {allowed = LeavesSectors} found.ran)
        (ran_any {allowed = IsIssuing st.fencing.issued.slots st.fencing.issued.editions} st.fencing.issued.ran));
    held = λ j here. held_then j (was_here j here);
    own = own_stood Fence gone m last mid new st;
    shut = λ j rebuilt. (begins s m last before old mid new found gone st going).shut j rebuilt.below rebuilt.why;
  }
