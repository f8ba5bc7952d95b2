-- No slot is rebuilt; or the next chunk was written, the slot fell, or it was promoted.
use Rattle.std.proofs.Common.{◌∙◌, ◌≡◌, ap, arith, refl, sym, None}
use Rattle.std.specs.Prelude.{Ok}
use Rattle.stair_model.specs.Geometry.{Geometry}
use Rattle.stair_rack.specs.Told.{told}
use Rattle.stair_invariant.specs.Effects.{snapshot}
use Rattle.stair_array.specs.Arrays.{state_of}
use Rattle.stair_array.specs.MendingCalls.{reply_for}
use Rattle.stair_array.specs.Mends.{Rebuilds}
use Rattle.stair_array.proofs.GoesOnLemmas.{progress_then}
use Rattle.stair_array.proofs.RebuildingLemmas.{next_rebuilt, progress_none, reply_gone}
use Rattle.stair_mend.proofs.StepLemmas.{at_end, chunk_keeps, fallen, fallen_keeps, next_dropped, next_last, next_refused, next_wrote, none_left, of_chunk, promoted_keeps, promoted_then, rebuilt_on, refused_keeps, still}
use Rattle.stair_mend.proofs.rebuild_step.Goals as goal

pub returns-in_default-next_chunk-clause-does : goal.returns-in_default-next_chunk-clause-does
returns-in_default-next_chunk-clause-does g c none =
    rw c.forget.ensures (Rebuilds.NoneIs _ (c.in_default-next_chunk.ensures.none refl))

pub returns-in_default-next_chunk-clause-goes_on : goal.returns-in_default-next_chunk-clause-goes_on
returns-in_default-next_chunk-clause-goes_on g c none =
    rw c.forget.ensures (progress_then None (progress_none (state_of c.args.array.now) c.geometry.ensures.under))

pub promote-requires-clause-written : goal.promote-requires-clause-written
promote-requires-clause-written g c =
    let stripes : c.stripes-stripes.result ≡ c.args.array.now.member.array.geometry.stripes =
    c.stripes-stripes.ensures.value ∙ ap (λ (k : Geometry). k.stripes) c.geometry.ensures.value in
    let most = (next_rebuilt (state_of c.args.array.now) c.in-Some-next_chunk.slot c.in-Some-next_chunk.stripe c.in-Some-next_chunk.ensures.some c.geometry.ensures.under).1 in
    let past = c.if-stripe-stripes.true in
    let limits = c.stripes-stripes.ensures.limits.size.0 in
    let value = c.stripes-stripes.ensures.value in
    at_end (state_of c.args.array.now) c.in-Some-next_chunk.slot c.in-Some-next_chunk.stripe c.in-Some-next_chunk.ensures.some (omega (arith, limits, value, past)) (omega (arith, stripes, past, most))

pub returns-then-stripe-stripes-clause-does : goal.returns-then-stripe-stripes-clause-does
returns-then-stripe-stripes-clause-does g c none =
    let stripes : c.stripes-stripes.result ≡ c.args.array.now.member.array.geometry.stripes =
    c.stripes-stripes.ensures.value ∙ ap (λ (k : Geometry). k.stripes) c.geometry.ensures.value in
    let most = (next_rebuilt (state_of c.args.array.now) c.in-Some-next_chunk.slot c.in-Some-next_chunk.stripe c.in-Some-next_chunk.ensures.some c.geometry.ensures.under).1 in
    let past = c.if-stripe-stripes.true in
    Rebuilds.OnlyPromotes c.in-Some-next_chunk.slot c.in-Some-next_chunk.stripe _ _ _ c.in-Some-next_chunk.ensures.some (omega (arith, stripes, past, most)) c.promote.ensures.does

pub returns-then-stripe-stripes-clause-rebuild : goal.returns-then-stripe-stripes-clause-rebuild
returns-then-stripe-stripes-clause-rebuild g c none =
    promoted_then c.in-Some-next_chunk.slot _ _ _ c.promote.ensures.does _ _ _ c.promote.ensures.rebuild

pub returns-then-stripe-stripes-clause-goes_on : goal.returns-then-stripe-stripes-clause-goes_on
returns-then-stripe-stripes-clause-goes_on g c none =
    let stripes : c.stripes-stripes.result ≡ c.args.array.now.member.array.geometry.stripes =
    c.stripes-stripes.ensures.value ∙ ap (λ (k : Geometry). k.stripes) c.geometry.ensures.value in
    let rebuilt = (next_rebuilt (state_of c.args.array.now) c.in-Some-next_chunk.slot c.in-Some-next_chunk.stripe c.in-Some-next_chunk.ensures.some c.geometry.ensures.under).0 in
    let past = c.if-stripe-stripes.true in
    promoted_keeps (state_of c.args.array.now) (state_of c.promote.new.array) c.in-Some-next_chunk.slot c.in-Some-next_chunk.stripe _ (snapshot c.args.array.now.member (told g.R.Rack c.args.rack.now))
    (snapshot c.promote.new.array.member (told g.R.Rack c.promote.new.rack)) c.promote.ensures.does c.in-Some-next_chunk.ensures.some
    (omega (arith, stripes, past)) rebuilt refl c.promote.ensures.rebuild

pub fault_of-requires : goal.fault_of-requires
fault_of-requires g c =
    of_chunk c.in-Some-next_chunk.slot c.in-Some-next_chunk.stripe c.in-Err.fault (snapshot c.args.array.now.member (told g.R.Rack c.args.rack.now))
    (snapshot c.chunk_to.new.self.member (told g.R.Rack c.chunk_to.new.rack)) (c.in-Err.ensures.does (sym c.in_default.ensures))

pub returns-in-Err-clause-does : goal.returns-in-Err-clause-does
returns-in-Err-clause-does g c none =
    let stripes : c.stripes-stripes.result ≡ c.args.array.now.member.array.geometry.stripes =
    c.stripes-stripes.ensures.value ∙ ap (λ (k : Geometry). k.stripes) c.geometry.ensures.value in
    let below = c.if-stripe-stripes.false in
    rw c.fault_of.ensures
    (next_refused (state_of c.args.array.now) c.in-Some-next_chunk.slot c.in-Some-next_chunk.stripe c.in-Some-next_chunk.ensures.some _ (snapshot c.args.array.now.member (told g.R.Rack c.args.rack.now))
    (snapshot c.chunk_to.new.self.member (told g.R.Rack c.chunk_to.new.rack)) (c.in-Err.ensures.does none) (omega (arith, stripes, below)) _ refl)

pub returns-in-Err-clause-goes_on : goal.returns-in-Err-clause-goes_on
returns-in-Err-clause-goes_on g c none =
    rw c.fault_of.ensures
    (refused_keeps (state_of c.args.array.now) (state_of c.chunk_to.new.self) c.in-Some-next_chunk.slot c.in-Some-next_chunk.stripe c.in-Err.fault
    (of_chunk c.in-Some-next_chunk.slot c.in-Some-next_chunk.stripe c.in-Err.fault (snapshot c.args.array.now.member (told g.R.Rack c.args.rack.now))
    (snapshot c.chunk_to.new.self.member (told g.R.Rack c.chunk_to.new.rack)) (c.in-Err.ensures.does none)) c.geometry.ensures.under c.in-Err.ensures.geometry (c.in-Err.ensures.rebuild none))

pub returns-then-not-is_next-clause-does : goal.returns-then-not-is_next-clause-does
returns-then-not-is_next-clause-does g c none =
    let stripes : c.stripes-stripes.result ≡ c.args.array.now.member.array.geometry.stripes =
    c.stripes-stripes.ensures.value ∙ ap (λ (k : Geometry). k.stripes) c.geometry.ensures.value in
    let below = c.if-stripe-stripes.false in
    let left = c.in_default-chunk_to.ensures.rebuild none in
    let other = fallen (state_of c.args.array.now) (state_of c.chunk_to.new.self) c.in-Some-next_chunk.slot c.in-Some-next_chunk.stripe left c.if-not-is_next.ensures in
    next_dropped (state_of c.args.array.now) c.in-Some-next_chunk.slot c.in-Some-next_chunk.stripe c.in-Some-next_chunk.ensures.some _ (snapshot c.args.array.now.member (told g.R.Rack c.args.rack.now))
    (snapshot c.chunk_to.new.self.member (told g.R.Rack c.chunk_to.new.rack)) (c.in_default-chunk_to.ensures.does none) (omega (arith, stripes, below)) (ap Ok (reply_gone _ other))

pub returns-then-not-is_next-clause-rebuild : goal.returns-then-not-is_next-clause-rebuild
returns-then-not-is_next-clause-rebuild g c none =
    let left = c.in_default-chunk_to.ensures.rebuild none in
    none_left (state_of c.args.array.now) (state_of c.chunk_to.new.self) c.in-Some-next_chunk.slot c.in-Some-next_chunk.stripe left (fallen (state_of c.args.array.now) (state_of c.chunk_to.new.self) c.in-Some-next_chunk.slot c.in-Some-next_chunk.stripe left c.if-not-is_next.ensures)

pub returns-then-not-is_next-clause-goes_on : goal.returns-then-not-is_next-clause-goes_on
returns-then-not-is_next-clause-goes_on g c none =
    let left = c.in_default-chunk_to.ensures.rebuild none in
    let other = fallen (state_of c.args.array.now) (state_of c.chunk_to.new.self) c.in-Some-next_chunk.slot c.in-Some-next_chunk.stripe left c.if-not-is_next.ensures in
    let rebuilt = (next_rebuilt (state_of c.args.array.now) c.in-Some-next_chunk.slot c.in-Some-next_chunk.stripe c.in-Some-next_chunk.ensures.some c.geometry.ensures.under).0 in
    fallen_keeps (state_of c.args.array.now) (state_of c.chunk_to.new.self) c.in-Some-next_chunk.slot c.in-Some-next_chunk.stripe _ _ (snapshot c.args.array.now.member (told g.R.Rack c.args.rack.now))
    (snapshot c.chunk_to.new.self.member (told g.R.Rack c.chunk_to.new.rack)) (c.in_default-chunk_to.ensures.does none) refl refl refl rebuilt other
    (none_left (state_of c.args.array.now) (state_of c.chunk_to.new.self) c.in-Some-next_chunk.slot c.in-Some-next_chunk.stripe left other)

pub returns-then-stripe-stripes-2-clause-does : goal.returns-then-stripe-stripes-2-clause-does
returns-then-stripe-stripes-2-clause-does g c none =
    let stripes : c.stripes-stripes.result ≡ c.args.array.now.member.array.geometry.stripes =
    c.stripes-stripes.ensures.value ∙ ap (λ (k : Geometry). k.stripes) c.geometry.ensures.value in
    let left = c.in_default-chunk_to.ensures.rebuild none in
    let goes = still (state_of c.args.array.now) (state_of c.chunk_to.new.self) c.in-Some-next_chunk.slot c.in-Some-next_chunk.stripe left c.if-not-is_next.ensures in
    let more = c.if-stripe-stripes-2.true in
    next_wrote (state_of c.args.array.now) c.in-Some-next_chunk.slot c.in-Some-next_chunk.stripe c.in-Some-next_chunk.ensures.some _ (snapshot c.args.array.now.member (told g.R.Rack c.args.rack.now))
    (snapshot c.chunk_to.new.self.member (told g.R.Rack c.chunk_to.new.rack)) (c.in_default-chunk_to.ensures.does none) (omega (arith, stripes, more)) (ap Ok (ap reply_for goes))

pub returns-then-stripe-stripes-2-clause-goes_on : goal.returns-then-stripe-stripes-2-clause-goes_on
returns-then-stripe-stripes-2-clause-goes_on g c none =
    let stripes : c.stripes-stripes.result ≡ c.args.array.now.member.array.geometry.stripes =
    c.stripes-stripes.ensures.value ∙ ap (λ (k : Geometry). k.stripes) c.geometry.ensures.value in
    let left = c.in_default-chunk_to.ensures.rebuild none in
    let goes = still (state_of c.args.array.now) (state_of c.chunk_to.new.self) c.in-Some-next_chunk.slot c.in-Some-next_chunk.stripe left c.if-not-is_next.ensures in
    let rebuilt = (next_rebuilt (state_of c.args.array.now) c.in-Some-next_chunk.slot c.in-Some-next_chunk.stripe c.in-Some-next_chunk.ensures.some c.geometry.ensures.under).0 in
    let more = c.if-stripe-stripes-2.true in
    chunk_keeps (state_of c.args.array.now) (state_of c.chunk_to.new.self) c.in-Some-next_chunk.slot c.in-Some-next_chunk.stripe left c.in_default-chunk_to.ensures.geometry rebuilt goes
    (omega (arith, stripes, more))

pub returns-clause-does : goal.returns-clause-does
returns-clause-does g c none =
    let stripes : c.stripes-stripes.result ≡ c.args.array.now.member.array.geometry.stripes =
    c.stripes-stripes.ensures.value ∙ ap (λ (k : Geometry). k.stripes) c.geometry.ensures.value in
    let left = c.in_default-chunk_to.ensures.rebuild none in
    let goes = still (state_of c.args.array.now) (state_of c.chunk_to.new.self) c.in-Some-next_chunk.slot c.in-Some-next_chunk.stripe left c.if-not-is_next.ensures in
    let below = c.if-stripe-stripes.false in
    let last = c.if-stripe-stripes-2.false in
    next_last (state_of c.args.array.now) c.in-Some-next_chunk.slot c.in-Some-next_chunk.stripe c.in-Some-next_chunk.ensures.some _ (snapshot c.args.array.now.member (told g.R.Rack c.args.rack.now))
    (snapshot c.chunk_to.new.self.member (told g.R.Rack c.chunk_to.new.rack)) (c.in_default-chunk_to.ensures.does none) (omega (arith, stripes, below, last)) (ap Ok (ap reply_for goes)) _ _
    c.promote-2.ensures.does

pub returns-clause-rebuild : goal.returns-clause-rebuild
returns-clause-rebuild g c none =
    promoted_then c.in-Some-next_chunk.slot _ _ _ c.promote-2.ensures.does _ _ _ c.promote-2.ensures.rebuild

pub returns-clause-goes_on : goal.returns-clause-goes_on
returns-clause-goes_on g c none =
    let stripes : c.stripes-stripes.result ≡ c.args.array.now.member.array.geometry.stripes =
    c.stripes-stripes.ensures.value ∙ ap (λ (k : Geometry). k.stripes) c.geometry.ensures.value in
    let left = c.in_default-chunk_to.ensures.rebuild none in
    let goes = still (state_of c.args.array.now) (state_of c.chunk_to.new.self) c.in-Some-next_chunk.slot c.in-Some-next_chunk.stripe left c.if-not-is_next.ensures in
    let rebuilt = (next_rebuilt (state_of c.args.array.now) c.in-Some-next_chunk.slot c.in-Some-next_chunk.stripe c.in-Some-next_chunk.ensures.some c.geometry.ensures.under).0 in
    let last = c.if-stripe-stripes-2.false in
    promoted_keeps (state_of c.args.array.now) (state_of c.promote-2.new.array) c.in-Some-next_chunk.slot c.in-Some-next_chunk.stripe _
    (snapshot c.chunk_to.new.self.member (told g.R.Rack c.chunk_to.new.rack)) (snapshot c.promote-2.new.array.member (told g.R.Rack c.promote-2.new.rack)) c.promote-2.ensures.does
    c.in-Some-next_chunk.ensures.some (omega (arith, stripes, last))
    (rebuilt_on (state_of c.args.array.now) (state_of c.chunk_to.new.self) c.in-Some-next_chunk.slot c.in-Some-next_chunk.stripe left c.in_default-chunk_to.ensures.geometry rebuilt goes) refl
    c.promote-2.ensures.rebuild
