-- The laws are lemmas.
use Rattle.stair_reinsert.proofs.TogetherLemmas.{greatest_is_current, live_in_both}
use Rattle.stair_reinsert.proofs.current_media.together_laws.Goals as goal

pub returns-clause-current : goal.returns-clause-current
returns-clause-current c = λ s encodings image a b first second it is_a is_b alone_a alone_b current_a current_b each most.
    greatest_is_current s encodings image a b first second it is_a is_b alone_a alone_b current_a current_b each most

pub returns-clause-live : goal.returns-clause-live
returns-clause-live c = λ s encodings image a b first second j it is_a is_b alone_a alone_b current_a current_b live_a live_b.
    live_in_both s encodings image a b first second it is_a is_b alone_a alone_b current_a current_b j live_a live_b
