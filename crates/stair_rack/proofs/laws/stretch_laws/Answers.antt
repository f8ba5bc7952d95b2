-- The laws are lemmas.
use Rattle.std.proofs.Common.{◌≡◌, refl}
use Rattle.stair_rack.specs.Sector.{Good, settled}
use Rattle.stair_rack.specs.History.{slot_state}
use Rattle.stair_rack.specs.Answers.{IsNoAttach, any_call}
use Rattle.stair_rack.specs.Offline.{ButForOutside}
use Rattle.stair_rack.specs.Placed.{IsSlot}
use Rattle.stair_rack.proofs.MomentLemmas.{at_last}
use Rattle.stair_rack.proofs.StandingLemmas.{standing_while, settled_or}
use Rattle.stair_rack.proofs.StretchLemmas.{IsUndamaged, Whole, undamaged_throughout, but_for_pulls, call_answered}
use Rattle.stair_rack.proofs.ReadLemmas.{read_answered, was_read_good, was_read_bad, was_read_gone, ready_unpulled}
use Rattle.stair_rack.proofs.laws.stretch_laws.Goals as goal

pub returns-clause-stands : goal.returns-clause-stands
returns-clause-stands c = λ before old new j k cell ran none start.
    at_last {P = λ h. ButForOutside before h j k (λ s. s ≡ settled cell)}
    (standing_while {allowed = any_call} {slots = IsSlot j} (slot_state before j).pulls j k cell refl none ran start)

pub returns-clause-left : goal.returns-clause-left
returns-clause-left c = λ before h image j k cell left stands. settled_or before h image left j k cell stands

pub returns-clause-undamaged : goal.returns-clause-undamaged
returns-clause-undamaged c = λ old new j k cell ran none some fine stands.
    but_for_pulls
    (at_last {P = λ h. IsUndamaged (slot_state old j).pulls k (slot_state h j)}
    (undamaged_throughout {allowed = any_call} (slot_state old j).pulls j k none ran (Whole refl some fine))) stands

pub returns-clause-read : goal.returns-clause-read
returns-clause-read c = read_answered

pub returns-clause-read_good : goal.returns-clause-read_good
returns-clause-read_good c = λ old new j k bytes called is. was_read_good (λ cell. cell ≡ Good bytes) called is

pub returns-clause-read_gone : goal.returns-clause-read_gone
returns-clause-read_gone c = λ old new j k called. was_read_gone called

pub returns-clause-read_bad : goal.returns-clause-read_bad
returns-clause-read_bad c = λ old new j k is_history called. was_read_bad is_history called

pub returns-clause-unpulled : goal.returns-clause-unpulled
returns-clause-unpulled c = λ old new j ran ready. ready_unpulled {allowed = IsNoAttach j} j (λ call no_attach. no_attach refl) ran ready

pub returns-clause-answered : goal.returns-clause-answered
returns-clause-answered c = call_answered
