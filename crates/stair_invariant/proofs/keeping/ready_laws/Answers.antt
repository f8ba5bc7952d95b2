-- The laws are lemmas.
use Rattle.stair_invariant.proofs.ReadyLemmas.{laid, looked, ready_admit, ready_plain, ready_promote, seen, sees}
use Rattle.stair_invariant.proofs.keeping.ready_laws.Goals as goal

pub returns : goal.returns
returns c = record {
  plain = ready_plain;
  promotes = ready_promote;
  joins = ready_admit;
  looked = looked;
  laid = laid;
  seen = seen;
  sees = sees;
}
