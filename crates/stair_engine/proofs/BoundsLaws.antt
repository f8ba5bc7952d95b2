-- How far the draws of superblocks rise in a call: it opens one array at most, and sets few stamps.
use Rattle.std.proofs.Common.{◌≡◌, ◌+◌, ◌*◌, List, [], ◌∷◌, refl, arith}
use Rattle.stair_array.specs.Draws.{allowance}
use Rattle.stair_array.specs.Promise.{Begun}
use Rattle.stair_command.specs.Devices.{devices as at}
use Rattle.stair_command.specs.Drawn.{at_step, opens, over_steps, replaces, stamps}
use Rattle.stair_command.specs.Program.{Over}
use Rattle.stair_command.specs.Trace.{TraceItem, Stepped}
use Rattle.stair_command.proofs.BoundedArrayLaws.{calls_of_array}
use Rattle.stair_command.proofs.BoundedCallLaws.{calls_bounded}
use Rattle.stair_command.proofs.BoundedTraceLaws.{stays_weaker, trace_allows}
use Rattle.stair_command.proofs.PlannedLaws.{counted_along}
use Rattle.stair_engine.specs.Laws.{DrawsAreBounded}
use Rattle.stair_engine.specs.Programs.{program_of}
use Rattle.stair_engine.proofs.JobLaws.{words_count}
use Rattle.stair_engine.proofs.LineLaws.{opens_or_stamps}

item_counts : (item : TraceItem) → at_step opens_or_stamps item ≡ at_step opens item + at_step stamps item
item_counts (Stepped step answer events left) = refl
item_counts _ = refl

trace_counts : (trace : List TraceItem) → over_steps opens_or_stamps trace ≡ over_steps opens trace + over_steps stamps trace
trace_counts [] = refl
trace_counts (item ∷ trace) = omega (arith, item_counts item, trace_counts trace)

pub draws_are_bounded : (R W S K : Type 0) → DrawsAreBounded R W S K
draws_are_bounded R W S K view streams words status a b x y watchers left whole s most stands bounded =
    let trace = whole.with.means.trace in
    let first = at x Begun watchers in
    let last = at y whole.session left in
    let few = counted_along opens_or_stamps refl 4 trace (program_of words) (Over status) (words_count words) whole.with.means.follows in
    let stays =
    calls_bounded R W view trace first last whole.with.works s.geometry most stands.honest refl bounded
    (calls_of_array R W view s trace first last whole.with.works stands) in
    stays_weaker s.geometry (most + 64 + over_steps allowance trace) (most + 100 + 5 * over_steps replaces trace)
    (omega (arith, few, trace_counts trace, trace_allows trace)) stays.allowed
