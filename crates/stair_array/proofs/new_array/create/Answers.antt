-- The three stages, one after the other.
use Rattle.std.proofs.Common.{inl, refl, arith}
use Rattle.std.proofs.lemmas.Result.{err_from_is_err_and, on_ok_weaker}
use Rattle.stair_rack.proofs.MomentLemmas.{ran_any, ran_join}
use Rattle.stair_rack.proofs.StretchLemmas.{each_join}
use Rattle.stair_rack.specs.RackState.{IsLater, RackState}
use Rattle.stair_rack.specs.Told.{told}
use Rattle.stair_array.specs.Look.{IsLook}
use Rattle.stair_array.specs.Looking.{IsNotCreated}
use Rattle.stair_array.specs.Making.{IsBehind, IsMaking, IsSlotOf, IsStoppedBy, NoneCame}
use Rattle.stair_array.proofs.CreateLemmas.{all_finished, came_after, enrolling_creates, given_up, laying_creates, laying_in_turn, laying_no_place, looks_create, looks_in_turn, looks_no_place, on_err}
use Rattle.stair_array.proofs.CreatesLemmas.{ends_so, is_made, not_created}
use Rattle.stair_array.proofs.DeviceLemmas.{making_no_attach}
use Rattle.stair_array.proofs.EnrolLemmas.{in_turn_then}
use Rattle.stair_array.proofs.LookLemmas.{taken_on}
use Rattle.stair_rack.proofs.RackStateLemmas.{later_join, later_none}
use Rattle.stair_array.proofs.new_array.create.Goals as goal

-- a slot was refused before anything was written
pub returns-in_err-look_at_all : goal.returns-in_err-look_at_all
returns-in_err-look_at_all g c =
    let tell : g.row.R.Denot → RackState =
    λ rack. told g.R.Rack rack in
    let of = c.args.geometry.now in
    let later : IsLater (tell c.args.rack.now) (tell c.look_at_all.new.rack) =
    record { counts = c.look_at_all.ensures.counts; honest = refl; ran = λ honest. ran_any (c.look_at_all.ensures.ran honest) } in
    let p = err_from_is_err_and c.from_residual.result c.from_residual.ensures.1 in
    rw (p.1, p.2)
    (not_created of _ (tell c.args.rack.now) (tell c.look_at_all.new.rack) c.look_at_all.ensures.began (inl c.in_err-look_at_all.ensures.refused) later
    (λ honest. looks_create of (c.look_at_all.ensures.ran honest))
    (λ honest. (NoneCame (looks_no_place (c.look_at_all.ensures.ran honest)), looks_in_turn of (c.look_at_all.ensures.ran honest))))

-- a slot was gone while the devices were laid out
pub returns-in_err-lay_out : goal.returns-in_err-lay_out
returns-in_err-lay_out g c =
    let tell : g.row.R.Denot → RackState =
    λ rack. told g.R.Rack rack in
    let of = c.args.geometry.now in
    let old = tell c.args.rack.now in
    let looked = tell c.look_at_all.new.rack in
    let laid = tell c.lay_out.new.rack in
    let first : IsLater old looked =
    record { counts = c.look_at_all.ensures.counts; honest = refl; ran = λ honest. ran_any (c.look_at_all.ensures.ran honest) } in
    let second : IsLater looked laid =
    record { counts = c.lay_out.ensures.counts; honest = refl; ran = λ honest. ran_any (c.lay_out.ensures.ran honest) } in
    let p = err_from_is_err_and c.from_residual-in_err-lay_out.result c.from_residual-in_err-lay_out.ensures.1 in
    rw (p.1, p.2)
    (not_created of _ old laid c.look_at_all.ensures.began
    (given_up of c.in_err-lay_out.field-0.0 old looked looked laid c.in_ok-look_at_all.ensures.passed (later_none looked) second second
    (λ honest j below. c.in_ok-look_at_all.ensures.taken honest j (omega (arith, below, c.lay_out.ensures.limits.devices)) below)
    c.in_err-lay_out.ensures.gone) (later_join first second)
    (λ honest. ran_join (looks_create of (c.look_at_all.ensures.ran honest)) (laying_creates of (c.lay_out.ensures.ran honest)))
    (λ honest. (
      NoneCame (each_join (looks_no_place (c.look_at_all.ensures.ran honest)) (laying_no_place of (c.lay_out.ensures.ran honest))),
      each_join (looks_in_turn of (c.look_at_all.ensures.ran honest)) (laying_in_turn of (c.lay_out.ensures.ran honest)),
    )))

pub returns : goal.returns
returns g c =
    let tell : g.row.R.Denot → RackState =
    λ rack. told g.R.Rack rack in
    let of = c.args.geometry.now in
    let old = tell c.args.rack.now in
    let looked = tell c.look_at_all.new.rack in
    let laid = tell c.lay_out.new.rack in
    let new = tell c.enrol_all.new.rack in
    let first : IsLater old looked =
    record { counts = c.look_at_all.ensures.counts; honest = refl; ran = λ honest. ran_any (c.look_at_all.ensures.ran honest) } in
    let second : IsLater looked laid =
    record { counts = c.lay_out.ensures.counts; honest = refl; ran = λ honest. ran_any (c.lay_out.ensures.ran honest) } in
    let third : IsLater laid new =
    record { counts = c.enrol_all.ensures.counts; honest = refl; ran = λ honest. ran_any (c.enrol_all.ensures.ran honest) } in
    let written = later_join second third in
    ends_so of c.enrol_all.result old new c.look_at_all.ensures.began
    (on_err c.enrol_all.result (λ fault. IsStoppedBy of fault laid new) (λ fault. IsNotCreated of fault old new) c.enrol_all.ensures.gone
    (λ fault is.
    given_up of fault old looked laid new c.in_ok-look_at_all.ensures.passed second third written
    (λ honest j below.
    taken_on (c.in_ok-look_at_all.ensures.taken honest j (omega (arith, below, c.lay_out.ensures.limits.devices)) below)
    (making_no_attach of j (c.lay_out.ensures.ran honest))) is))
    (record { mid = looked; passed = c.in_ok-look_at_all.ensures.passed; later = written }) (later_join first written)
    (λ honest.
    ran_join (looks_create of (c.look_at_all.ensures.ran honest))
    (ran_join (laying_creates of (c.lay_out.ensures.ran honest)) (enrolling_creates of (c.enrol_all.ensures.ran honest))))
    (λ honest. (
      came_after of old.history looked.history laid.history new.history c.lay_out.ensures.limits (c.in_ok-look_at_all.ensures.taken honest)
          (c.in_ok-lay_out.ensures.made honest) (c.look_at_all.ensures.ran honest) (c.lay_out.ensures.ran honest) (c.enrol_all.ensures.ran honest),
      in_turn_then of
          (ran_join (ran_any {allowed = IsLook} (c.look_at_all.ensures.ran honest))
          (ran_any {allowed = IsMaking of (IsSlotOf of) (IsBehind of)} (c.lay_out.ensures.ran honest)))
          (each_join (looks_in_turn of (c.look_at_all.ensures.ran honest)) (laying_in_turn of (c.lay_out.ensures.ran honest)))
          (c.enrol_all.ensures.in_turn honest),
    ))
    (λ honest.
    on_ok_weaker c.enrol_all.result
    (λ made.
    is_made of old.history new.history c.lay_out.ensures.limits c.enrol_all.ensures.id
    (all_finished of old.history looked.history laid.history new.history c.lay_out.ensures.limits (c.in_ok-look_at_all.ensures.taken honest)
    (c.in_ok-lay_out.ensures.made honest) (c.lay_out.ensures.ran honest) (c.enrol_all.ensures.ran honest) made))
    (c.enrol_all.ensures.made honest))
