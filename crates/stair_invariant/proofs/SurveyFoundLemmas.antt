-- What a survey finds of a rack that represents a state is what an opening rests on.
use Rattle.std.proofs.Common.{◌≡◌, ℕ, ◌<◌, List, inl, inr, sym, ap, ◌∙◌, subst, arith}
use Rattle.std.specs.Prelude.{IsTrue, Result, Ok}
use Rattle.stair_model.specs.Geometry.{Geometry}
use Rattle.stair_rack.specs.Answers.{Ran, any_call}
use Rattle.stair_rack.specs.Crash.{EachImage, image_now}
use Rattle.stair_rack.specs.History.{Happening}
use Rattle.stair_rack.specs.Stretch.{NothingReturned}
use Rattle.stair_rack.specs.RackState.{RackState}
use Rattle.stair_rack.proofs.CrashLemmas.{CrashMayLeave-now}
use Rattle.stair_rack.proofs.MomentLemmas.{moment_last, ran_any, ran_join}
use Rattle.stair_super.specs.Superblock.{Superblock}
use Rattle.stair_member.specs.Asked.{LeavesSectors}
use Rattle.stair_member.specs.Current.{IsCurrent, IsLive}
use Rattle.stair_member.specs.Membership.{IsMembership, Membership, why_of}
use Rattle.stair_member.specs.Survey.{Surveys}
use Rattle.stair_member.specs.declared.fault.SurveyFault.{SurveyFault}
use Rattle.stair_member.specs.declared.why.Why.TheVariants.{Here}
use Rattle.stair_member.proofs.AskedLemmas.{asked_ran}
use Rattle.stair_member.proofs.SuperLemmas.{one_current}
use Rattle.stair_state.specs.Represents.{AreSteady, ImageRepresents, Left, Represents}
use Rattle.stair_state.specs.State.{State}
use Rattle.stair_state.specs.Surveyed.{FindsArray}
use Rattle.stair_state.specs.Tolerance.{IsWithinTolerance, ToleratedSince}
use Rattle.stair_rack.specs.Offline.{IsOffline}
use Rattle.stair_state.proofs.AgreeLemmas.{current_agree}
use Rattle.stair_state.proofs.BegunLemmas.{begins}
use Rattle.stair_state.proofs.MarkedLemmas.{held_since, marks_by_reasons}
use Rattle.stair_state.proofs.NamedLemmas.{names_content}
use Rattle.stair_state.proofs.OutsideLemmas.{steady_looks, unwritten_ran}
use Rattle.stair_state.proofs.OwnLemmas.{found_own}
use Rattle.stair_state.proofs.ShutLemmas.{found_shut}
use Rattle.stair_state.proofs.StillLemmas.{steady_cells}
use Rattle.stair_state.proofs.SurveyedLemmas.{finds_array}
use Rattle.stair_invariant.specs.Opening.{IsFoundFor, IsNamedAt}

-- what is current in what the rack holds is so in whatever a crash leaves of settled places
named_at : (m : Membership) (h : List Happening) (current : Superblock) → AreSteady m.array.geometry h
    → IsCurrent m.array.geometry (image_now h) current → current.array ≡ m.array → IsNamedAt m h
named_at m h current steady is names image left other is_other =
    let here : IsCurrent m.array.geometry (image_now h) other =
    current_agree m.array.geometry m.array.geometry.n (omega arith) image (image_now h) other
    (λ j k j_in k_in. steady_cells m.array.geometry h image steady left j k j_in k_in) is_other in
    ap (λ (t : Superblock). t.array) (one_current m.array.geometry (image_now h) other current here is) ∙ names

pub found_for : (s : State) (before : List Happening) (old new : RackState) (answer : Result Membership SurveyFault) (m : Membership)
    → Surveys answer old new → IsTrue new.honest → Ran any_call before old.history → Represents s old.history
    → NothingReturned old.history new.history → ToleratedSince s.geometry before new.history → IsMembership m → answer ≡ Ok m
    → IsFoundFor s m before old.history new.history
found_for s before old new answer m surveys honest began stands none tolerated rules ok = record {
  represents = stands;
  geometry = same;
  began = began;
  ran = ran;
  returned = none;
  tolerated = subst (λ (g : Geometry). ToleratedSince g before new.history) same tolerated;
  begun = begins s before old new answer m surveys honest began stands none tolerated rules ok;
  named =
      elim (finds.named first.current last.current first.is_current last.is_current) [
        | inl at_end ↦
            inr
            (named_at m new.history last.current steady_new (subst (λ (g : Geometry). IsCurrent g (image_now new.history) last.current) same last.is_current)
            (sym at_end ∙ ap (λ (x : Membership). x.array) same_member))
        | inr at_first ↦
            inl
            (named_at m old.history first.current steady_old
            (subst (λ (g : Geometry). IsCurrent g (image_now old.history) first.current) same first.is_current)
            (sym at_first ∙ ap (λ (x : Membership). x.array) same_member))
      ];
  content = names_content s before old new answer m surveys honest began stands none tolerated ok;
  live = live_of same same_member;
  marked = marks_by_reasons s before old new answer m surveys honest began stands none tolerated ok rules;
  rebuilding = found_shut s before old new answer m surveys honest began stands none tolerated ok;
  own = found_own old new answer m surveys honest none ok;
  held = held_since s before old new answer m surveys honest began stands none tolerated ok;
}
  where
    ran : Ran LeavesSectors old.history new.history
    ran = asked_ran 32 old.history new.history (surveys.asked honest)

    finds : FindsArray s answer before old.history new.history
    finds = finds_array s before old new answer surveys honest began stands none tolerated

    same_member : finds.member ≡ m
    same_member = let was : answer ≡ Ok finds.member = finds.found in let to : answer ≡ Ok m = ok in cc

    same : s.geometry ≡ m.array.geometry
    same = sym finds.identity ∙ ap (λ (x : Membership). x.array.geometry) same_member

    -- each slot that is live to it was live at first
    LiveTo : Geometry → Membership → Type 0
    LiveTo g x = (j : ℕ) → j < g.n → why_of x j ≡ Here
        → EachImage (λ image. (current : Superblock) → IsCurrent g image current → IsLive g image current j) old.history

    live_of : s.geometry ≡ m.array.geometry → finds.member ≡ m → LiveTo m.array.geometry m
    live_of to member = subst (λ (g : Geometry). LiveTo g m) to (subst (LiveTo s.geometry) member finds.live)

    steady_old : AreSteady m.array.geometry old.history
    steady_old = subst (λ (g : Geometry). AreSteady g old.history) same stands.steady

    steady_new : AreSteady m.array.geometry new.history
    steady_new = steady_looks m.array.geometry old.history new.history (unwritten_ran ran) steady_old

    first : ImageRepresents s stands.encodings (image_now old.history)
    first = stands.each (image_now old.history) (Left (CrashMayLeave-now old.history))

    last : IsWithinTolerance (IsOffline before new.history) s.geometry (image_now new.history)
    last =
        let all = ran_join began (ran_any {allowed = LeavesSectors} ran) in
        tolerated new.history (moment_last all.more all.is) (image_now new.history) (CrashMayLeave-now new.history)
