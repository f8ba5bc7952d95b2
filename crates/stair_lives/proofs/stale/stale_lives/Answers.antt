-- The laws are lemmas.
use Rattle.stair_lives.proofs.Begun.{never_live_while_begun}
use Rattle.stair_lives.proofs.LivesLaws.{never_stale, never_stale_within, newest_is_found, media_stay_out, media_stay_out_within, all_name_once, all_name_once_within}
use Rattle.stair_lives.proofs.NewestLemmas.{left_out_stays}
use Rattle.stair_lives.proofs.stale.stale_lives.Goals as goal

pub returns : goal.returns
returns g c = record {
  never = λ view streams first h calls m last trace_items honest since. never_stale view streams first honest h calls m last trace_items since;
  within = λ view streams first x calls m last trace_items trace watchers y works honest since calm now serves.
      never_stale_within view streams first honest x calls m last trace_items trace watchers y works since calm now serves;
  found = λ view streams first x calls m last trace_items trace watchers y works honest since calm member is_found.
      newest_is_found view streams first honest x calls m last trace_items trace watchers y works since calm member is_found;
  named = left_out_stays;
  media = λ view streams first h later calls m last trace_items j name honest since none out looks.
      media_stay_out view streams first honest h calls m last trace_items since later j name none out looks;
  media_within = λ view streams first x calls m last trace_items trace watchers y works honest since calm now serves j name none out.
      media_stay_out_within view streams first honest x calls m last trace_items trace watchers y works since calm now serves j name none out;
  begun = never_live_while_begun;
  once = λ view streams first h calls honest. all_name_once view streams first honest h calls;
  once_within = λ view streams first program rest old new x y watchers left moment calls borne honest at calm.
      all_name_once_within view streams first honest program rest old new x y watchers left moment calls borne at calm;
}
