-- The laws are lemmas.
use Rattle.stair_rack.proofs.MomentLemmas.{moment_first, moment_last}
use Rattle.stair_reinsert.proofs.LookedSoFar.{mixed_unread, mixed_unwritten}
use Rattle.stair_reinsert.proofs.MixedImages.{counted, mixed_alone, mixed_reassembly, tolerated_at, worst_mixed}
use Rattle.stair_reinsert.proofs.OtherArrays.{alone_borne, borne_alone}
use Rattle.stair_reinsert.proofs.StillStretch.{still_tolerated}
use Rattle.stair_reinsert.proofs.openings.mixed_laws.Goals as goal

pub returns-clause-moments : goal.returns-clause-moments
returns-clause-moments c = λ g before old h new tolerated at. tolerated_at g before old new tolerated h at

pub returns-clause-counted : goal.returns-clause-counted
returns-clause-counted c = λ g before old new ran tolerated. counted g before old new tolerated (moment_first ran.more ran.is)

pub returns-clause-alone : goal.returns-clause-alone
returns-clause-alone c = λ g h. (borne_alone g h, alone_borne g h)

pub returns-clause-asked : goal.returns-clause-asked
returns-clause-asked c = λ g before h since tolerated. ((since, mixed_unwritten g before h tolerated), mixed_unread g before h tolerated)

pub returns-clause-reassembly : goal.returns-clause-reassembly
returns-clause-reassembly c = λ g before old new to history ran tolerated mixed. mixed_reassembly before old new history ran g to tolerated mixed

pub returns-clause-still : goal.returns-clause-still
returns-clause-still c = λ g old new history steady still tolerated. still_tolerated g old new history steady still tolerated

pub returns-clause-worst : goal.returns-clause-worst
returns-clause-worst c = λ g before old new to ran tolerated worst.
    mixed_alone g before old new tolerated to (λ j. worst_mixed j (to j) (moment_last ran.more ran.is) (worst j))
