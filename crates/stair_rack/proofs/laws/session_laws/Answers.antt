-- The laws are lemmas.
use Rattle.std.proofs.Common.{Some, sym, ap, ◌∙◌}
use Rattle.stair_rack.specs.Answers.{any_call}
use Rattle.stair_rack.proofs.OfflineLemmas.{offline_from_gone, attach_gone_now, unready_lasts, held_lasts, stopped_on}
use Rattle.stair_rack.proofs.TidyLemmas.{history_on, history_called, history_tidy, size_answered}
use Rattle.stair_rack.proofs.CallLemmas.{attach_found, attach_found_none, sectors_of_last}
use Rattle.stair_rack.proofs.laws.session_laws.Goals as goal

pub returns-clause-offline : goal.returns-clause-offline
returns-clause-offline c = offline_from_gone

pub returns-clause-held : goal.returns-clause-held
returns-clause-held c = held_lasts

pub returns-clause-attach : goal.returns-clause-attach
returns-clause-attach c = attach_gone_now

pub returns-clause-lasts : goal.returns-clause-lasts
returns-clause-lasts c = unready_lasts

pub returns-clause-stopped : goal.returns-clause-stopped
returns-clause-stopped c = λ h new is ran. stopped_on ran is

pub returns-clause-history : goal.returns-clause-history
returns-clause-history c = λ old new is ran. history_on {allowed = any_call} is ran

pub returns-clause-called : goal.returns-clause-called
returns-clause-called c = λ old new j call is called. history_called is called

pub returns-clause-tidy : goal.returns-clause-tidy
returns-clause-tidy c = λ h is. history_tidy is

pub returns-clause-sectors : goal.returns-clause-sectors
returns-clause-sectors c = λ h j n is attached answered. size_answered h (history_tidy is) j n attached answered

pub returns-clause-sectors_found : goal.returns-clause-sectors_found
returns-clause-sectors_found c = λ old mid now new j n attached ran called.
    attach_found old mid j attached ∙ ap Some (sym (sectors_of_last mid now new j n ran called))

pub returns-clause-sectors_gone : goal.returns-clause-sectors_gone
returns-clause-sectors_gone c = λ old mid now new j n attached ran called.
    sectors_of_last mid now new j n ran called ∙ attach_found_none old mid j attached
