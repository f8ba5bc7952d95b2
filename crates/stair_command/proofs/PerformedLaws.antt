-- What is performed leads on, of every step, where no medium comes back; so every call is borne out.
use Rattle.std.proofs.Common.{◌≡◌, List, sym, subst}
use Rattle.stair_member.specs.Membership.{IsMembership}
use Rattle.stair_invariant.specs.Returning.{AnyReturns, NoneReturns, Returning}
use Rattle.stair_invariant.specs.Session.{ArrayState}
use Rattle.stair_array.specs.Machine.{Answer, Recover, Step}
use Rattle.stair_array.specs.Promise.{Begun, Found, Phase, StartsFrom}
use Rattle.stair_reinsert.proofs.AnyReturnsLead.{any_returns_leads}
use Rattle.stair_array.proofs.StepsLead.{LeadsArrays, none_returns_leads, promises}
use Rattle.stair_command.specs.Devices.{DeviceView, KeepsRules, ExecutesWhole, devices}
use Rattle.stair_command.specs.Headline.{RefinesProgram, PerformedLeads}
use Rattle.stair_command.specs.Outside.{Outside, Views}
use Rattle.stair_command.specs.Program.{Program}
use Rattle.stair_command.proofs.HeadlineLaws.{all_lead, borne_with}

-- an opening began with what was found
found_rules : (was : ArrayState) (session : Phase) → StartsFrom Recover was session → KeepsRules session → IsMembership was.member
found_rules was (Found m) starts rules = subst (λ (a : ArrayState). IsMembership a.member) (sym starts) rules
found_rules was _ starts rules = absurd starts

-- of every array that is led on by such laws
pub performed_leads : (returning : Returning) → LeadsArrays returning → PerformedLeads returning
performed_leads returning laws step answer events x y performs rules =
    promises returning laws step answer events x y performs (λ same. opening step answer performs.was x.session performs.starts rules same)
  where
    opening : (s : Step) (a : Answer s) (was : ArrayState) (session : Phase) → StartsFrom s was session → KeepsRules session → s ≡ Recover
        → IsMembership was.member
    opening s a was session starts kept same =
        found_rules was session (subst (λ (one : Step). StartsFrom one was session) same starts) kept

-- so of any
pub all_performed : (returning : Returning) → PerformedLeads returning
all_performed NoneReturns = performed_leads NoneReturns none_returns_leads
all_performed AnyReturns = performed_leads AnyReturns any_returns_leads

pub step_leads : PerformedLeads NoneReturns
step_leads = all_performed NoneReturns

-- a call is borne out
pub borne_whole : {R W S K : Type 0} (view : DeviceView R W) (streams : Views S K) (program rest : Program) (a b : Outside S K) (x y : R)
    (watchers left : List W) → ExecutesWhole view streams program rest a b x y watchers left → RefinesProgram view streams program rest a b x y watchers left
borne_whole view streams program rest a b x y watchers left whole =
    borne_with view streams program rest a b x y watchers left whole.session whole.with
    (λ returning.
    all_lead returning view (all_performed returning) whole.with.means.trace (devices x Begun watchers) (devices y whole.session left) whole.with.works)
