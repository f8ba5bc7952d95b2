-- The empty set is the one that the word names.
use Rattle.stair_array.proofs.NewsLemmas.{nothing_new}
use Rattle.stair_array.proofs.news.News.none.Goals as goal

pub returns : goal.returns
returns c = nothing_new _ c.empty.ensures.well_formed c.empty.ensures.none
