-- From the rows of the steps.
use Rattle.std.proofs.Common.{◌≡◌, List, None, inl, inr, ap, subst}
use Rattle.std.proofs.lemmas.Bool.{false≢true}
use Rattle.std.specs.Prelude.{IsSome}
use Rattle.stair_state.specs.State.{Content}
use Rattle.stair_invariant.specs.Session.{ArrayState}
use Rattle.stair_rack.specs.declared.watcher.Event.{Event}
use Rattle.stair_array.specs.Machine.{Answer, LookAtSeats, ReadBlock, RebuildNext, Recover, ReplaceSlot, ScrubStripe, SetFrozen, SetLabel, Step, WriteBlocks}
use Rattle.stair_array.specs.Promise.{DoesStep, Opened, Seen, Phase, StartsFrom}
use Rattle.stair_array.proofs.machine.promise_laws.Goals as goal

-- no step starts from an array that was stopped
starts_unstopped : (step : Step) (was a : ArrayState) → StartsFrom step was (Opened a) → a.stopped ≡ None
starts_unstopped Recover was a starts = absurd starts
starts_unstopped (ReadBlock b) was a starts = starts.1
starts_unstopped (WriteBlocks first contents) was a starts = starts.1
starts_unstopped (ScrubStripe t) was a starts = starts.1
starts_unstopped (ReplaceSlot j) was a starts = starts.1
starts_unstopped RebuildNext was a starts = starts.1
starts_unstopped (SetFrozen frozen) was a starts = starts.1
starts_unstopped (SetLabel label) was a starts = starts.1
starts_unstopped LookAtSeats was a starts = starts.1

does_nothing : (step : Step) (answer : Answer step) (events : List Event) (x y : Seen) (a : ArrayState) → DoesStep step answer events x y
    → x.session ≡ Opened a → IsSome a.stopped → y ≡ x
does_nothing step answer events x y a (inl performs) is stopped =
    let none : a.stopped ≡ None =
    starts_unstopped step performs.was a (subst (λ (session : Phase). StartsFrom step performs.was session) is performs.starts) in
    absurd (false≢true (subst IsSome none stopped))
does_nothing step answer events x y a (inr stopped) is some = stopped.same

pub returns : goal.returns
returns c = record {
  stopped = does_nothing;
  reads = λ returning m b bytes x y before s leads honest history is_in calm.
      let on = leads.leads honest before s history is_in calm in
      (on.is_step.row.holds.0, (on.state, on.is_step.row.holds.1.content, on.is_in.stands));
  writes = λ returning m first contents x y before s leads honest history is_in calm.
      let on = leads.leads honest before s history is_in calm in (
        on.state,
        ap (λ (k : Content). k.blocks) on.is_step.row.holds.content,
        on.is_step.row.holds.in_doubt,
        on.is_in.stands,
      );
}
