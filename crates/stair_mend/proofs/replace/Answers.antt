-- The slot isn't free, or its device was refused or admitted. A rebuild goes on where its slot is still rebuilt.
use Rattle.std.proofs.Common.{◌∙◌, ◌≡◌, ap, refl, None}
use Rattle.std.specs.Prelude.{Ok}
use Rattle.stair_rack.specs.Told.{told}
use Rattle.stair_super.specs.declared.configuration.Configuration.{Configuration}
use Rattle.stair_invariant.specs.Effects.{snapshot}
use Rattle.stair_array.specs.Arrays.{OpenArray, state_of}
use Rattle.stair_array.specs.Promise.{rebuild_after}
use Rattle.stair_array.proofs.GoesOnLemmas.{progress_then}
use Rattle.stair_array.proofs.RebuildingLemmas.{progress_by, progress_none}
use Rattle.stair_mend.proofs.ReplacingLemmas.{admitted, admitted_news, not_free, rebuild_stays, unadmitted, unadmitted_news, unprepared}
use Rattle.stair_mend.proofs.replace.Goals as goal

pub returns-in-Some-clause-rebuild : goal.returns-in-Some-clause-rebuild
returns-in-Some-clause-rebuild g c =
    rebuild_stays c.args.array.now.member c.args.array.now.rebuild c.geometry.ensures.under

pub returns-in_err-is_free-clause-does : goal.returns-in_err-is_free-clause-does
returns-in_err-is_free-clause-does g c none =
    rw c.forget.ensures
    (not_free (snapshot c.args.array.now.member (told g.R.Rack c.args.rack.now)) c.args.slot _ _ c.from_residual.ensures.1
    (rw c.forget.ensures at c.in_err-is_free.ensures.not))

pub returns-in_err-is_free-clause-rebuild : goal.returns-in_err-is_free-clause-rebuild
returns-in_err-is_free-clause-rebuild g c =
    rw c.forget.ensures (rebuild_stays c.args.array.now.member c.args.array.now.rebuild c.geometry.ensures.under)

pub returns-in_err-is_free-clause-goes_on : goal.returns-in_err-is_free-clause-goes_on
returns-in_err-is_free-clause-goes_on g c none =
    rw c.forget.ensures (progress_then None (progress_none (state_of c.args.array.now) c.geometry.ensures.under))

pub returns-in_err-prepare_slot-clause-does : goal.returns-in_err-prepare_slot-clause-does
returns-in_err-prepare_slot-clause-does g c none =
    unprepared c.args.slot (snapshot c.args.array.now.member (told g.R.Rack c.args.rack.now))
    (snapshot c.prepare_slot.new.array.member (told g.R.Rack c.prepare_slot.new.rack)) _ _
    c.from_residual-in_err-prepare_slot.ensures.1 (rw c.forget.ensures at c.in_ok-is_free.ensures.free)
    (rw c.forget.ensures at c.in_err-prepare_slot.ensures.does)

pub returns-in_err-prepare_slot-clause-rebuild : goal.returns-in_err-prepare_slot-clause-rebuild
returns-in_err-prepare_slot-clause-rebuild g c =
    rw (c.in_err-prepare_slot.ensures.same, c.forget.ensures) (rebuild_stays c.args.array.now.member c.args.array.now.rebuild c.geometry.ensures.under)

pub returns-in_err-prepare_slot-clause-goes_on : goal.returns-in_err-prepare_slot-clause-goes_on
returns-in_err-prepare_slot-clause-goes_on g c none =
    rw (c.in_err-prepare_slot.ensures.same, c.forget.ensures) (progress_then None (progress_none (state_of c.args.array.now) c.geometry.ensures.under))

pub returns-in_err-admit_slot-clause-does : goal.returns-in_err-admit_slot-clause-does
returns-in_err-admit_slot-clause-does g c none =
    unadmitted c.args.slot (snapshot c.args.array.now.member (told g.R.Rack c.args.rack.now))
    (snapshot c.prepare_slot.new.array.member (told g.R.Rack c.prepare_slot.new.rack))
    (snapshot c.admit_slot.new.self.member (told g.R.Rack c.admit_slot.new.rack)) _ _ c.from_residual-in_err-admit_slot.ensures.1
    (rw c.forget.ensures at c.in_ok-is_free.ensures.free) (rw c.forget.ensures at c.in_ok-prepare_slot.ensures.does)
    (c.in_err-admit_slot.ensures.does c.prepare_slot.ensures.going)

pub returns-in_err-admit_slot-clause-rebuild : goal.returns-in_err-admit_slot-clause-rebuild
returns-in_err-admit_slot-clause-rebuild g c =
    let kept : c.prepare_slot.new.array.rebuild ≡ c.args.array.now.rebuild =
    c.prepare_slot.ensures.rebuild ∙ ap (λ (a : OpenArray). a.rebuild) c.forget.ensures in
    c.admit_slot.ensures.rebuild ∙ ap (rebuild_after c.admit_slot.new.self.member) kept

pub returns-in_err-admit_slot-clause-goes_on : goal.returns-in_err-admit_slot-clause-goes_on
returns-in_err-admit_slot-clause-goes_on g c none =
    let same : c.admit_slot.new.self.member.array.geometry ≡ c.args.array.now.member.array.geometry =
    c.admit_slot.ensures.geometry ∙ ap (λ (k : Configuration). k.geometry) c.prepare_slot.ensures.array
    ∙ ap (λ (a : OpenArray). a.member.array.geometry) c.forget.ensures in
    let kept : c.prepare_slot.new.array.rebuild ≡ c.args.array.now.rebuild =
    c.prepare_slot.ensures.rebuild ∙ ap (λ (a : OpenArray). a.rebuild) c.forget.ensures in
    progress_by (state_of c.args.array.now) (state_of c.admit_slot.new.self) c.geometry.ensures.under same
    (c.admit_slot.ensures.rebuild ∙ ap (rebuild_after c.admit_slot.new.self.member) kept) c.args.array.now.rebuild refl

pub returns-clause-rebuild : goal.returns-clause-rebuild
returns-clause-rebuild g c =
    let kept : c.prepare_slot.new.array.rebuild ≡ c.args.array.now.rebuild =
    c.prepare_slot.ensures.rebuild ∙ ap (λ (a : OpenArray). a.rebuild) c.forget.ensures in
    c.admit_slot.ensures.rebuild ∙ ap (rebuild_after c.admit_slot.new.self.member) kept

pub returns-clause-goes_on : goal.returns-clause-goes_on
returns-clause-goes_on g c none =
    let same : c.admit_slot.new.self.member.array.geometry ≡ c.args.array.now.member.array.geometry =
    c.admit_slot.ensures.geometry ∙ ap (λ (k : Configuration). k.geometry) c.prepare_slot.ensures.array
    ∙ ap (λ (a : OpenArray). a.member.array.geometry) c.forget.ensures in
    let kept : c.prepare_slot.new.array.rebuild ≡ c.args.array.now.rebuild =
    c.prepare_slot.ensures.rebuild ∙ ap (λ (a : OpenArray). a.rebuild) c.forget.ensures in
    progress_by (state_of c.args.array.now) (state_of c.admit_slot.new.self) c.geometry.ensures.under same
    (c.admit_slot.ensures.rebuild ∙ ap (rebuild_after c.admit_slot.new.self.member) kept) c.args.array.now.rebuild refl

pub returns-in_err-admit_slot-clause-news : goal.returns-in_err-admit_slot-clause-news
returns-in_err-admit_slot-clause-news g c =
    let were : c.prepare_slot.new.array.news ≡ c.args.array.now.news =
    c.prepare_slot.ensures.news ∙ ap (λ (a : OpenArray). a.news) c.forget.ensures in
    let named : c.prepare_slot.new.array.member.array ≡ c.args.array.now.member.array =
    c.prepare_slot.ensures.array ∙ ap (λ (a : OpenArray). a.member.array) c.forget.ensures in
    unadmitted_news c.args.slot _ _ c.from_residual-in_err-admit_slot.ensures.1 _ c.prepare_slot.new.array.member.array _ _ c.prepare_slot.new.array.news _
    named were c.in_err-admit_slot.ensures.news

pub returns-clause-news : goal.returns-clause-news
returns-clause-news g c =
    let were : c.prepare_slot.new.array.news ≡ c.args.array.now.news =
    c.prepare_slot.ensures.news ∙ ap (λ (a : OpenArray). a.news) c.forget.ensures in
    let named : c.prepare_slot.new.array.member.array ≡ c.args.array.now.member.array =
    c.prepare_slot.ensures.array ∙ ap (λ (a : OpenArray). a.member.array) c.forget.ensures in
    admitted_news c.args.slot (Ok tt) _ c.prepare_slot.new.array.member.array _ _ c.prepare_slot.new.array.news _ named were
    c.in_ok-admit_slot.ensures.news

pub returns-clause-does : goal.returns-clause-does
returns-clause-does g c none =
    admitted c.args.slot (snapshot c.args.array.now.member (told g.R.Rack c.args.rack.now))
    (snapshot c.prepare_slot.new.array.member (told g.R.Rack c.prepare_slot.new.rack))
    (snapshot c.admit_slot.new.self.member (told g.R.Rack c.admit_slot.new.rack)) (Ok tt)
    (rw c.forget.ensures at c.in_ok-is_free.ensures.free) (rw c.forget.ensures at c.in_ok-prepare_slot.ensures.does)
    (c.in_ok-admit_slot.ensures.does c.prepare_slot.ensures.going)
