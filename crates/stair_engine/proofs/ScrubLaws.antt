-- The loop of `scrub`: what is so before each stripe.
use Rattle.std.proofs.Common.{◌≡◌, ◌∙◌, ◌+◌, ◌-◌, ◌*◌, ◌<◌, ◌≤◌, ℕ, suc, List, Ok, Err, ap, arith, refl, subst, sym}
use Rattle.stair_model.specs.Geometry.{Geometry}
use Rattle.stair_invariant.specs.Session.{ArrayState}
use Rattle.stair_array.specs.Faults.{refusal_for}
use Rattle.stair_array.specs.Machine.{ScrubStripe}
use Rattle.stair_array.specs.Promise.{Opened}
use Rattle.stair_array.specs.declared.fault.ArrayFault.{ArrayFault}
use Rattle.stair_command.specs.Comes.{ExecutesOnDevices}
use Rattle.stair_command.specs.Devices.{DeviceView, Devices, devices}
use Rattle.stair_command.specs.Program.{Program, Over, take_step}
use Rattle.stair_command.specs.Refused.{status_of_refusal}
use Rattle.stair_command.specs.Steps.{Takes}
use Rattle.stair_command.proofs.ComesLaws.{comes_none, comes_refusal, comes_step, comes_then}
use Rattle.stair_command.proofs.TakenLaws.{taken_geometry}
use Rattle.stair_watch.specs.WatcherList.{AllStay}
use Rattle.stair_engine.specs.Mending.{scrubbed, scrubs}

-- after a stripe with so many cells
abbrev pub scrub_on : Geometry → (stripe left cells : ℕ) → ℕ → Program
scrub_on g stripe left cells count = scrubs g stripe left (cells + count)

-- one stripe more
scrubs_next : (g : Geometry) (done cells : ℕ) → done < g.stripes
    → scrubs g done (g.stripes - done) cells ≡ take_step g.n (ScrubStripe done) (scrub_on g (done + 1) (g.stripes - (done + 1)) cells)
scrubs_next g done cells below =
    let more : g.stripes - done ≡ suc (g.stripes - (done + 1)) = omega (arith, below) in
    ap (λ (left : ℕ). scrubs g done left cells) more

module _ {R W : Type 0} (view : DeviceView R W) where
  -- So many stripes were scrubbed, with so many cells.
  pub record ScrubbedSoFar (g : Geometry) (done cells : ℕ) (first now : Devices R W) (is : ArrayState) : Type 0 where
    pub geometry : is.member.array.geometry ≡ g
    pub stay : AllStay view.watcher now.watchers
    pub upto : done ≤ g.stripes
    pub few : cells ≤ done * 65535
    pub comes : ExecutesOnDevices view (scrubs g 0 g.stripes 0) (scrubs g done (g.stripes - done) cells) first now

  pub none_scrubbed : (g : Geometry) (x : Devices R W) (is : ArrayState) → is.member.array.geometry ≡ g → AllStay view.watcher x.watchers
      → ScrubbedSoFar g 0 0 x x is
  none_scrubbed g x is same stay = record {
    geometry = same;
    stay = stay;
    upto = omega arith;
    few = omega arith;
    comes =
        let all : g.stripes ≡ g.stripes - 0 = omega arith in
        subst (λ (left : ℕ). ExecutesOnDevices view (scrubs g 0 g.stripes 0) (scrubs g 0 left 0) x x) all (comes_none view (scrubs g 0 g.stripes 0) x);
  }

  module _ (g : Geometry) (done cells : ℕ) (first : Devices R W) (now next : R) (is after : ArrayState) (left rest : List W)
      (so_far : ScrubbedSoFar g done cells first (devices now (Opened is) left) is) (below : done < g.stripes) where
    -- the next stripe was scrubbed
    pub one_scrubbed : (count : ℕ) → count < 65536 → AllStay view.watcher rest
        → Takes view (ScrubStripe done) (Ok count) (devices now (Opened is) left) (devices next (Opened after) rest)
        → ScrubbedSoFar g (done + 1) (cells + count) first (devices next (Opened after) rest) after
    one_scrubbed count small stay takes = record {
      geometry = taken_geometry view (ScrubStripe done) (Ok count) _ _ is.member after.member takes refl refl ∙ so_far.geometry;
      stay = stay;
      upto = omega (arith, below);
      few = omega (arith, so_far.few, small);
      comes = comes_then view so_far.comes
          (subst (λ (program : Program). ExecutesOnDevices view program (scrubs g (done + 1) (g.stripes - (done + 1)) (cells + count)) (devices now (Opened is) left)
          (devices next (Opened after) rest)) (sym (scrubs_next g done cells below))
          (comes_step view g.n (ScrubStripe done) count (scrub_on g (done + 1) (g.stripes - (done + 1)) cells) _ _ takes));
    }

    -- or it was refused
    pub scrub_refused : (fault : ArrayFault) (slots : ℕ) → slots ≡ g.n
        → Takes view (ScrubStripe done) (Err (refusal_for fault)) (devices now (Opened is) left) (devices next (Opened after) rest)
        → ExecutesOnDevices view (scrubs g 0 g.stripes 0) (Over (status_of_refusal slots (refusal_for fault))) first (devices next (Opened after) rest)
    scrub_refused fault slots same takes =
        comes_then view so_far.comes
        (subst (λ (program : Program). ExecutesOnDevices view program (Over (status_of_refusal slots (refusal_for fault))) (devices now (Opened is) left)
        (devices next (Opened after) rest)) (sym (scrubs_next g done cells below))
        (subst (λ (n : ℕ). ExecutesOnDevices view (take_step g.n (ScrubStripe done) (scrub_on g (done + 1) (g.stripes - (done + 1)) cells))
        (Over (status_of_refusal n (refusal_for fault))) (devices now (Opened is) left) (devices next (Opened after) rest)) (sym same)
        (comes_refusal view g.n (ScrubStripe done) (refusal_for fault) (scrub_on g (done + 1) (g.stripes - (done + 1)) cells) _ _ takes)))

  -- all were
  pub all_scrubbed : (g : Geometry) (done cells : ℕ) (first now : Devices R W) (is : ArrayState) → ScrubbedSoFar g done cells first now is
      → g.stripes ≤ done → ExecutesOnDevices view (scrubs g 0 g.stripes 0) (scrubbed g.stripes cells) first now
  all_scrubbed g done cells first now is so_far past =
      let all : done ≡ g.stripes = omega (arith, so_far.upto, past) in
      let none : g.stripes - done ≡ 0 = omega (arith, all) in
      subst (λ (stripes : ℕ). ExecutesOnDevices view (scrubs g 0 g.stripes 0) (scrubbed stripes cells) first now) all
      (subst (λ (left : ℕ). ExecutesOnDevices view (scrubs g 0 g.stripes 0) (scrubs g done left cells) first now) none so_far.comes)
