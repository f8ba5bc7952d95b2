use Rattle.stair_conf.proofs.WordsLemmas.{job_plain, spells_once}
use Rattle.stair_conf.proofs.laws.words_laws.Goals as goal

pub returns : goal.returns
returns c = record { one_job = spells_once; no_hyphen = job_plain }
