-- A read of a block keeps what is promised of a step, whether media come back or not: it is done where it can be.
use Rattle.std.proofs.Common.{◌≡◌, ℕ, ◌<◌, ◌≤◌, List, refl, sym, ap, ◌∙◌, subst, arith, None, Some, Option}
use Rattle.std.specs.Prelude.{IsOk, IsTrue, Result, Err}
use Rattle.stair_model.specs.Coverage.{IsCovered}
use Rattle.stair_model.specs.Geometry.{Geometry, block_count}
use Rattle.stair_model.specs.Stripe.{Stripe}
use Rattle.stair_rack.specs.Answers.{IsHistory}
use Rattle.stair_rack.specs.History.{Happening}
use Rattle.stair_rack.specs.declared.watcher.Event.{Event}
use Rattle.stair_member.specs.Membership.{Membership}
use Rattle.stair_member.specs.declared.fault.FenceFault.{FenceFault}
use Rattle.stair_member.specs.declared.fault.FenceFault.TheVariants as fence
use Rattle.stair_stripes.specs.declared.gathering.Gathered.{Gathered}
use Rattle.stair_state.specs.Blocks.{Codewords}
use Rattle.stair_state.specs.State.{Content, State}
use Rattle.stair_invariant.specs.Effects.{Snapshot, snapshot}
use Rattle.stair_invariant.specs.Rebuilding.{Rebuild}
use Rattle.stair_invariant.specs.Returning.{StaysWithinTolerance, Returning}
use Rattle.stair_invariant.specs.Session.{Remembered}
use Rattle.stair_invariant.proofs.Serving.{IsServing, LeadsReads, StaysWithinToleranceTo}
use Rattle.stair_array.specs.Calls.{IsInPlace, IsLoaded, LoadsStripe, Reads, refused}
use Rattle.stair_array.specs.Machine.{Answer, ReadBlock, Refusal}
use Rattle.stair_array.specs.Promise.{CanBeDone, IsInState, LeadsStep, Performs, Seen, is_open}
use Rattle.stair_array.proofs.CoveredLemmas.{covered, never_too_few}
use Rattle.stair_array.proofs.DrawsLemmas.{done_with_room}
use Rattle.stair_array.proofs.ReadPartLemmas.{HasAsked, HasLoaded, array_with, has_asked, placed_in, whole_loaded}
use Rattle.stair_array.proofs.ReadStepLemmas.{begins, calm_begun, cuts, leads, serves}

-- NOTHING IS REFUSED but an epoch of which no number is left to draw

module _ (returning : Returning) (laws : LeadsReads returning) (before : List Happening) (rebuild : Option Rebuild) (stopped : Option FenceFault)
    (words : Codewords) (kept : Content) (x : Snapshot)
    (is : IsServing returning before (array_with rebuild stopped x) words kept x.told.history) where
  pub load_refused : (t : ℕ) {wanted : ℕ → ℕ → Type 0} (gathered : Gathered) (read : Stripe) (fault : FenceFault) (z : Snapshot)
      → HasLoaded t wanted gathered read (Some fault) x z → IsTrue z.told.honest → StaysWithinToleranceTo returning x.member.array.geometry before z.told.history
      → refused fault ≡ refused fence.EpochsSpent
  load_refused t gathered read fault z l honest calm = by fault refl
    where
      by : (given : FenceFault) → fault ≡ given → refused fault ≡ refused fence.EpochsSpent
      by (fence.TooFew whys) few =
          absurd
          (never_too_few returning laws before rebuild stopped words kept x is t gathered read (Some fault) z l honest calm whys
          (ap (λ (f : FenceFault). Some f) few))
      by fence.EpochsSpent spent = ap refused spent

  pub stripe_refused : (t : ℕ) (into : Stripe) (y : Snapshot) → HasAsked x y → t < x.member.array.geometry.stripes → (answer : Result (Unit {0}) Refusal)
      (u z : Snapshot) → LoadsStripe t into answer u z → u ≡ y → IsTrue z.told.honest → StaysWithinToleranceTo returning x.member.array.geometry before z.told.history
      → (refusal : Refusal) → answer ≡ Err refusal → refusal ≡ refused fence.EpochsSpent
  stripe_refused t into y asked stripe _ _ _ (LoadsStripe.Loaded was read gathered answer u z loads loaded) at honest calm refusal same =
      let now = subst (HasAsked x) (sym at) asked in
      let l = whole_loaded t gathered was read None x u z now loads in
      let all : IsCovered x.member.array.geometry gathered.erased =
      covered returning laws before rebuild stopped words kept x is t gathered read None z l honest calm stripe in
      let lost : IsLoaded u.member.array.geometry t gathered.erased read into (Err refusal) =
      subst (IsLoaded u.member.array.geometry t gathered.erased read into) same loaded in
      absurd (lost.0 (subst (λ (m : Membership). IsCovered m.array.geometry gathered.erased) (sym now.member) all))
  stripe_refused t into y asked stripe _ _ _ (LoadsStripe.Stops was read gathered fault u z loads) at honest calm refusal same =
      let one : refused fault ≡ refusal = cc in
      sym one
      ∙ load_refused t gathered read fault z (whole_loaded t gathered was read (Some fault) x u z (subst (HasAsked x) (sym at) asked) loads) honest calm

  pub only_spent : (b : ℕ) (old after : Option Remembered) (answer : Result (List ℕ) Refusal) (v z : Snapshot) → Reads b old after answer v z → v ≡ x → IsTrue z.told.honest
      → StaysWithinToleranceTo returning x.member.array.geometry before z.told.history → b < block_count x.member.array.geometry → (refusal : Refusal)
      → answer ≡ Err refusal → refusal ≡ refused fence.EpochsSpent
  only_spent b old _ _ _ _ (Reads.OutOf v past) at honest calm inside refusal same =
      let out : block_count x.member.array.geometry ≤ b = subst (λ (p : Snapshot). block_count p.member.array.geometry ≤ b) at past in
      absurd (omega (arith, inside, out))
  only_spent b old _ _ _ _ (Reads.Recalled one i j v known place) at honest calm inside refusal same = absurd (cc)
  only_spent b old _ _ _ _ (Reads.Own t i j bytes v y place asks reading) at honest calm inside refusal same = absurd (cc)
  only_spent b old _ _ _ _ (Reads.Restored t i j into v y z place cannot loads) at honest calm inside refusal same = absurd (cc)
  only_spent b old _ _ _ _ (Reads.Refused t i j into lost v y z place cannot loads) at honest calm inside refusal same =
      let asked : HasAsked x y = subst (λ (p : Snapshot). HasAsked p y) at (has_asked t i j v y cannot) in
      let here = subst (λ (p : Snapshot). IsInPlace p.member.array.geometry b t i j) at place in
      stripe_refused t into y asked (placed_in x.member.array.geometry b t i j is.is_open.array.member.array.limits inside here.place)
      (Err lost) y z loads refl honest calm refusal (ap (λ (r : Refusal). Err r) (let one : lost ≡ refusal = cc in one))

-- THE STEP

module _ (returning : Returning) (laws : LeadsReads returning) (b : ℕ) (answer : Answer (ReadBlock b)) (events : List Event) (x y : Seen)
    (p : Performs (ReadBlock b) answer events x y)
    (honest : IsTrue y.told.honest) (before : List Happening) (s : State) (history : IsHistory x.told.history) (state : IsInState returning before s x)
    (calm : StaysWithinTolerance returning s.geometry (is_open x.session) before y.told.history) where
  pub none_refused : b < block_count s.geometry → (refusal : Refusal) → answer ≡ Err refusal → refusal ≡ refused fence.EpochsSpent
  none_refused below refusal same =
      only_spent returning laws before p.was.rebuild p.was.stopped (begins returning laws b answer events x y p honest before s history state).words
      s.content
      (snapshot p.was.member x.told) (serves returning laws b answer events x y p honest before s history state) b p.was.remembered p.is.remembered answer
      (snapshot p.was.member x.told) (snapshot p.is.member y.told) p.does refl honest
      (calm_begun returning laws b answer events x y p honest before s history state y.told.history calm)
      (subst (λ (g : Geometry). b < block_count g) (sym (begins returning laws b answer events x y p honest before s history state).geometry) below)
      refusal same

  -- so it is done
  complete : CanBeDone (ReadBlock b) s p.was.member x.told.history y.told.history → IsOk answer
  complete can =
      done_with_room (ReadBlock b) (λ j same. cc) answer events x y p (serves returning laws b answer events x y p honest before s history
      state).is_open.array.member can.draws
      (λ cause. cause.1) (none_refused (can.passes _ (begins returning laws b answer events x y p honest before s history state).seats))

-- So it is what is promised of a step.
pub promise : (returning : Returning) → LeadsReads returning → (b : ℕ) (answer : Answer (ReadBlock b)) (events : List Event) (x y : Seen)
    → (p : Performs (ReadBlock b) answer events x y)
    → LeadsStep returning p.was.member (ReadBlock b) answer x y
promise returning laws b answer events x y p = record {
  leads = λ honest before s history state calm. leads returning laws b answer events x y p honest before s history state calm;
  cuts = λ honest before s history state c at calm. cuts returning laws b answer events x y p honest before s history state c at calm;
  complete = λ honest before s history state calm unread can. complete returning laws b answer events x y p honest before s history state calm can;
}
