-- The laws are lemmas.
use Rattle.stair_reinsert.proofs.StaleLemmas.{drawn_first, live_meant, newest_current, one_configuration}
use Rattle.stair_reinsert.proofs.stale.stale_laws.Goals as goal

pub returns : goal.returns
returns c = record {
  one_configuration = one_configuration;
  drawn = drawn_first;
  newest = λ s m h knows same image to current left reassembly alone is. newest_current s m h knows same image to current left reassembly alone is;
  live = λ s m h knows same image to current j left reassembly alone is live.
      live_meant s m h knows same image to current left reassembly alone is j live;
}
