-- One put more; a fault after a part; and all of it.
use Rattle.std.proofs.Common.{ℕ, ◌-◌, ◌≤◌, arith, length, length-take, length-drop, refl}
use Rattle.std.proofs.KnownBytes.{Appends-kept, Appends-trans}
use Rattle.stair_rack.specs.Count.{kept-Rose}
use Rattle.stair_watch.proofs.PutLemmas.{take-part_more}
use Rattle.stair_watch.proofs.put.put_until_fault.Goals as goal

pub loop-put-preserved : goal.loop-put-preserved
loop-put-preserved g c =
    let put = c.loop-put.put in
    let bytes = c.args.bytes.now in
    let few : c.in-Bytes.count ≤ length bytes - put = omega (arith, c.in-Bytes.ensures.within.1, length-take {A = ℕ}, length-drop {A = ℕ}) in
    record {
      within = omega arith;
      bytes =
          rw (← take-part_more put c.in-Bytes.count (length bytes - put) bytes few)
          (Appends-trans _ _ _ _ _ c.loop-put.invariant.bytes c.in-Bytes.ensures.bytes);
      count = omega arith;
    }

pub returns-in-Failed : goal.returns-in-Failed
returns-in-Failed g c = record {
  within = c.loop-put.invariant.within;
  grows = Appends-kept _ _ _ _ c.loop-put.invariant.bytes c.in-Failed.ensures.bytes;
  rises = omega (arith, c.loop-put.invariant.count, c.put.ensures.count);
  fault = λ few. kept-Rose _ _ _ c.loop-put.invariant.count c.put.ensures.count (c.in-Failed.ensures.failed refl);
}

pub returns : goal.returns
returns g c = record {
  within = c.loop-put.invariant.within;
  grows = c.loop-put.invariant.bytes;
  rises = c.loop-put.invariant.count;
  fault = λ few. absurd (omega (arith, few, c.loop-put-test.false));
}
