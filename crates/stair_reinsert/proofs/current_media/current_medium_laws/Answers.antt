-- The laws are lemmas on what an array is.
use Rattle.stair_state.proofs.HoldingLemmas.{consistent_by, live_current_medium, none_earlier, recent}
use Rattle.stair_state.proofs.ReturnLemmas.{looks_consistent}
use Rattle.stair_reinsert.proofs.current_media.current_medium_laws.Goals as goal

pub returns-clause-consistent : goal.returns-clause-consistent
returns-clause-consistent c = consistent_by

pub returns-clause-recent : goal.returns-clause-recent
returns-clause-recent c = λ s encodings current_media since image to current it reassembly tolerated is_current.
    recent s encodings current_media since image it to reassembly tolerated current is_current

pub returns-clause-live : goal.returns-clause-live
returns-clause-live c = λ s encodings current_media since image to current j it reassembly tolerated is_current live.
    live_current_medium s encodings current_media since image it to reassembly tolerated current is_current j live

pub returns-clause-none_earlier : goal.returns-clause-none_earlier
returns-clause-none_earlier c = λ s encodings current_media since epoch image to current it reached reassembly tolerated is_current.
    none_earlier s encodings current_media since image it to reassembly tolerated current is_current epoch reached

pub returns-clause-kept : goal.returns-clause-kept
returns-clause-kept c = looks_consistent
