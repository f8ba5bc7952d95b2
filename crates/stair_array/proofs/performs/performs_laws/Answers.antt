-- The laws are lemmas.
use Rattle.std.proofs.Common.{refl}
use Rattle.stair_array.proofs.PerformsLemmas.{performs}
use Rattle.stair_array.proofs.ReplaceLemmas.{replace_performs}
use Rattle.stair_array.proofs.ReadCauseLemmas.{read_performs}
use Rattle.stair_array.proofs.RebuildLemmas.{rebuild_performs}
use Rattle.stair_array.proofs.ScrubLemmas.{scrub_performs}
use Rattle.stair_array.proofs.SeatsLookLemmas.{look_performs}
use Rattle.stair_array.proofs.StampLemmas.{frozen_performs, label_performs}
use Rattle.stair_array.proofs.WriteCauseLemmas.{write_performs}
use Rattle.stair_array.proofs.performs.performs_laws.Goals as goal

pub returns : goal.returns
returns c = record {
  opening = λ m last answer x y rules does. performs m last answer x y rules does;
  read = λ b m last rebuild known after stopped answer x y array does kept. read_performs b answer m last rebuild known after stopped x y array does kept;
  write = λ first contents m last rebuild known stopped answer x y array does kept.
      write_performs first contents answer m last rebuild known stopped x y array does kept;
  scrub = λ t m last rebuild known stopped answer x y array does kept. scrub_performs t answer m last rebuild known stopped x y array does kept;
  replace = λ slot m last rebuild known stopped answer x y array does kept.
      replace_performs slot answer m last rebuild known stopped x y array does kept;
  rebuild = λ m last rebuild known stopped answer x y array does kept. rebuild_performs answer m last rebuild known stopped x y array does kept;
  freeze = λ frozen m last rebuild known stopped answer x y array does kept.
      frozen_performs frozen answer m last rebuild known stopped x y array does kept;
  label = λ label m last rebuild known stopped answer x y array does kept.
      label_performs label answer m last rebuild known stopped x y array does kept;
  look = λ m rebuild known x array. look_performs m rebuild known x array;
  stopped = λ step array fault x is_open stopped.
      record { array = array; is_open = is_open; fault = fault; stopped = stopped; answered = refl; silent = refl; same = refl };
}
