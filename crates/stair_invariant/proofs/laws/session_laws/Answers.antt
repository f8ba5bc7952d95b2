-- Each from the words.
use Rattle.std.proofs.Common.{◌≡◌, ◌∙◌, Bool, true, false, List, None, refl, sym, arith, true≢false}
use Rattle.stair_model.specs.Geometry.{Geometry}
use Rattle.stair_model.specs.Slots.{no_slots}
use Rattle.stair_model.specs.Stripe.{Stripe}
use Rattle.stair_model.proofs.SetLaws.{has_slot-none}
use Rattle.stair_rack.specs.History.{Happening}
use Rattle.stair_journal.specs.declared.redo.Redo.{Redo}
use Rattle.stair_state.specs.Redoing.{Done}
use Rattle.stair_state.specs.Tolerance.{ToleratedSince}
use Rattle.stair_invariant.specs.Effects.{FencesGone, NoneWas, Fenced, Snapshot, Redoes, Ends, Goes}
use Rattle.stair_invariant.specs.Returning.{StaysWithinTolerance, AnyReturns, NoneReturns, Returning}
use Rattle.stair_invariant.proofs.laws.session_laws.Goals as goal

nothing : (x y : Snapshot) → FencesGone no_slots None x y → y ≡ x
nothing x y (NoneWas none same quiet) = same
nothing x y (Fenced j has answer is fences) = absurd (true≢false (sym has ∙ has_slot-none j))

at_end : (g : Geometry) (redo : Redo) (stripe : Stripe) (x y : Snapshot) → Redoes g redo stripe Done None x y → y ≡ x
at_end g redo stripe x y (Ends was) = refl
at_end g redo stripe x y (Goes stage to refusal was mid end apart over does later) = absurd (apart refl)

calm : (returning : Returning) (g : Geometry) (is_open : Bool) (before h : List Happening) → StaysWithinTolerance returning g is_open before h
    → ToleratedSince g before h
calm NoneReturns g is_open before h is = is.0
calm AnyReturns g true before h is = is
calm AnyReturns g false before h is = is.0

pub returns : goal.returns
returns c = record {
  none_rebuilt = λ g words j start h. record { chunks = λ t i below. absurd (omega arith); reach = λ t i below. absurd (omega arith) };
  rebuilds = λ before a words h rebuild opened is. (opened.array.rebuilds rebuild is).0;
  nothing_left = nothing;
  done = at_end;
  calm = calm;
  stands = λ s image is. is;
}
