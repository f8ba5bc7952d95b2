-- The laws are lemmas.
use Rattle.stair_invariant.proofs.AfterLemmas.{after}
use Rattle.stair_invariant.proofs.AmidLemmas.{amid, fenced}
use Rattle.stair_invariant.proofs.SessionLemmas.{meanwhile, names_meanwhile, represents_now}
use Rattle.stair_invariant.proofs.epochs.epoch_laws.Goals as goal

pub returns : goal.returns
returns c = record {
  represents = λ m words content before h is of tolerated. represents_now m words h is content of before tolerated;
  meanwhile = λ aim gone m last words content doubt old h new image ready f going left of aimed tolerated.
      meanwhile aim gone m last words old h new image ready f going left content doubt of aimed tolerated;
  names = λ aim gone m last words old h new image current ready f going left tolerated is_current.
      names_meanwhile aim gone m last words old h new image ready f going left current tolerated is_current;
  amid = λ a m stage live start h before content doubt is same redoing staged serving old_are new_are frozen label.
      amid a m stage live start h content doubt is same redoing staged serving old_are new_are frozen label before;
  fenced = λ a m last stage live gone start old h new image content doubt is same redoing staged serving old_are new_are frozen label.
      fenced a m stage live start old content doubt is same redoing staged serving old_are new_are frozen label gone last h new image;
  after = after;
}
