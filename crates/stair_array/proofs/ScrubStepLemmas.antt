-- A scrub of a stripe is a step of the array's machine, and what a crash leaves in the midst of it is what one within the step leaves,
-- whether media come back or not.
use Rattle.std.proofs.Common.{ℕ, ◌<◌, List, inl, refl, ◌∙◌, subst}
use Rattle.std.specs.Prelude.{IsTrue}
use Rattle.stair_model.specs.Geometry.{Geometry}
use Rattle.stair_rack.specs.Answers.{IsHistory}
use Rattle.stair_rack.specs.Crash.{EachImage}
use Rattle.stair_rack.specs.History.{Happening}
use Rattle.stair_rack.specs.Moments.{IsMoment}
use Rattle.stair_rack.specs.declared.watcher.Event.{Event}
use Rattle.stair_invariant.specs.Effects.{snapshot}
use Rattle.stair_invariant.specs.Returning.{StaysWithinTolerance, Returning}
use Rattle.stair_state.specs.State.{State}
use Rattle.stair_invariant.proofs.Serving.{IsServing, LeadsReads, LeadsRedos, StaysWithinToleranceTo}
use Rattle.stair_array.specs.Machine.{Answer, ScrubStripe}
use Rattle.stair_array.specs.Promise.{IsInState, IsLed, IsLeftBy, IsOpenFor, Performs, Seen, is_open}
use Rattle.stair_array.proofs.KeptStepLemmas as kept
use Rattle.stair_array.proofs.KeptStepLemmas.{IsKeeping}
use Rattle.stair_array.proofs.OpenStepLemmas.{forgetting, forgotten_in}
use Rattle.stair_array.proofs.ScrubPartLemmas.{AnyCount, IsInside, moments, outcome}

pub keeping : (t : ℕ) → IsKeeping (ScrubStripe t)
keeping t = record {
  no_opening = λ same. cc;
  begins = λ returning m before h s seats are. are;
  may_begin = λ s certain. certain;
  refuses = λ refusal old new was. inl was;
  knows = λ answer known seats are. are;
  drops = λ answer old new dropped. dropped;
  rebuilds = λ answer was is keeps. keeps;
}

module _ (returning : Returning) (laws : LeadsReads returning) (redos : LeadsRedos returning) (t : ℕ) (answer : Answer (ScrubStripe t))
    (events : List Event) (x y : Seen) (p : Performs (ScrubStripe t) answer events x y)
    (honest : IsTrue y.told.honest) (before : List Happening) (s : State) (history : IsHistory x.told.history)
    (state : IsInState returning before s x) where
  abbrev pub begins : IsOpenFor returning before s p.was x.told.history
  begins = kept.begins returning laws (ScrubStripe t) (keeping t) answer events x y p before s history state

  abbrev pub serves : IsServing returning before (forgetting p.was) begins.words s.content x.told.history
  serves = kept.serves returning laws (ScrubStripe t) (keeping t) answer events x y p before s history state

  pub calm_begun : (h : List Happening) → StaysWithinTolerance returning s.geometry (is_open x.session) before h
      → StaysWithinToleranceTo returning p.was.member.array.geometry before h
  calm_begun = kept.calm_begun returning laws (ScrubStripe t) (keeping t) answer events x y p before s history state

  pub leads : StaysWithinTolerance returning s.geometry (is_open x.session) before y.told.history → IsLed returning p.was.member before s (ScrubStripe t) answer y
  leads calm =
      kept.led returning laws (ScrubStripe t) (keeping t) answer events x y p before s history state (IsInside t (snapshot p.was.member x.told)) AnyCount
      (λ inside. subst (λ (g : Geometry). t < g.stripes) begins.geometry inside)
      (λ count now so was. record { content = was.content; in_doubt = was.in_doubt ∙ begins.certain }) answer (snapshot p.is.member y.told) refl refl
      (outcome returning laws before p.was.rebuild p.was.stopped begins.words s.content t redos answer (snapshot p.was.member x.told)
      (snapshot p.is.member y.told) p.does
      serves honest (calm_begun y.told.history calm)) (forgotten_in begins.words p.is.remembered p.remembers) (calm_begun y.told.history calm)

  pub cuts : (c : List Happening) → IsMoment x.told.history c y.told.history → StaysWithinTolerance returning s.geometry (is_open x.session) before c
      → EachImage (IsLeftBy returning (ScrubStripe t) p.was.member before c s) c
  cuts =
      kept.cuts returning laws (ScrubStripe t) (keeping t) answer events x y p before s history state
      (moments returning laws before p.was.rebuild p.was.stopped begins.words s.content t redos answer (snapshot p.was.member x.told)
      (snapshot p.is.member y.told) p.does
      serves honest)
