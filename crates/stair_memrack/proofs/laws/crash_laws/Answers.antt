-- What a crash leaves is settled in a rack that is made over it.
use Rattle.std.proofs.Common.{[], ◌∷◌}
use Rattle.stair_rack.specs.History.{Made}
use Rattle.stair_rack.proofs.CrashLemmas.{settled_cell}
use Rattle.stair_rack.proofs.TidyLemmas.{history_tidy, made_of_left}
use Rattle.stair_memrack.specs.Picks.{crash_image}
use Rattle.stair_memrack.proofs.PickLemmas.{crash_image-may}
use Rattle.stair_memrack.proofs.laws.crash_laws.Goals as goal

pub returns : goal.returns
returns c = record {
  left = crash_image-may;
  made_again = λ picks h image is left j k.
      settled_cell (Made (crash_image picks h) ∷ []) image j k ((crash_image picks h j).cell k) left
      (made_of_left h (history_tidy is) (crash_image picks h) (crash_image-may picks h) j k);
}
