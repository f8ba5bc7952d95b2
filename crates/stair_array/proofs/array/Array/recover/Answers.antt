-- The news of an opening are the slots that became Down in it.
use Rattle.stair_array.proofs.NewsLemmas.{recover_news}
use Rattle.stair_array.proofs.array.Array.recover.Goals as goal

pub returns-clause-news : goal.returns-clause-news
returns-clause-news g c = recover_news _ _ _ _ _ c.none-news.ensures c.add_fallen.ensures
