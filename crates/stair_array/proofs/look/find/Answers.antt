-- Each way out of the look, by the calls up to there.
use Rattle.std.proofs.Common.{◌≡◌, ◌≤◌, sym, ◌∙◌, arith}
use Rattle.stair_rack.specs.declared.rack.Reply.TheVariants as reply
use Rattle.stair_rack.proofs.MomentLemmas.{ran_join}
use Rattle.stair_rack.proofs.PassCounts.{Done-compared, Gone-compared}
use Rattle.stair_array.proofs.LookLemmas.{found_other, found_own, found_small, found_unsynced, gone_attach, look_ran, reads_ran, settled_own, taken_own}
use Rattle.stair_array.proofs.look.find.Goals as goal

pub returns-then-eq-clause-does : goal.returns-then-eq-clause-does
returns-then-eq-clause-does g c =
    let gone : c.attach.result ≡ reply.Gone = Gone-compared c.attach.result (sym c.eq.ensures ∙ c.if-eq.true) in
    gone_attach c.args.geometry.now g.R.Rack.is_honest (g.R.Rack.history c.args.rack.now) (g.R.Rack.history c.attach.new.self)
    (g.R.Rack.bads c.args.rack.now) (g.R.Rack.bads c.attach.new.self) (g.R.Rack.gones c.args.rack.now) (g.R.Rack.gones c.attach.new.self) c.args.slot
    (λ honest. rw gone at (c.attach.ensures.does honest)) (c.attach.ensures.gone gone)

pub returns-then-eq-clause-ran : goal.returns-then-eq-clause-ran
returns-then-eq-clause-ran g c honest = look_ran tt (c.attach.ensures.does honest)

pub returns-then-slot-n-clause-does : goal.returns-then-slot-n-clause-does
returns-then-slot-n-clause-does g c =
    let done : c.attach.result ≡ reply.Done = Done-compared c.attach.result (sym c.eq.ensures ∙ c.if-eq.false) in
    found_other c.args.geometry.now g.R.Rack.is_honest (g.R.Rack.history c.args.rack.now) (g.R.Rack.history c.attach.new.self)
    (g.R.Rack.bads c.args.rack.now) (g.R.Rack.bads c.attach.new.self) (g.R.Rack.gones c.args.rack.now) (g.R.Rack.gones c.attach.new.self) c.args.slot
    (λ honest. rw done at (c.attach.ensures.does honest)) c.attach.ensures.counts (g.R.Rack.history c.find_super.new.rack) (g.R.Rack.bads c.find_super.new.rack)
    (g.R.Rack.gones c.find_super.new.rack) c.find_super.result (rw c.n.ensures.value at c.if-slot-n.true) c.find_super.ensures.ran c.find_super.ensures.counts
    c.find_super.ensures.does

pub returns-then-slot-n-clause-taken : goal.returns-then-slot-n-clause-taken
returns-then-slot-n-clause-taken g c honest is below =
    let past : c.args.geometry.now.n ≤ c.args.slot = rw c.n.ensures.value at c.if-slot-n.true in
    absurd (omega arith)

pub returns-then-slot-n-clause-settled : goal.returns-then-slot-n-clause-settled
returns-then-slot-n-clause-settled g c is below =
    let past : c.args.geometry.now.n ≤ c.args.slot = rw c.n.ensures.value at c.if-slot-n.true in
    absurd (omega arith)

pub returns-then-slot-n-clause-ran : goal.returns-then-slot-n-clause-ran
returns-then-slot-n-clause-ran g c honest = ran_join (look_ran tt (c.attach.ensures.does honest)) (reads_ran (c.find_super.ensures.ran honest))

pub returns-then-eq-2-clause-does : goal.returns-then-eq-2-clause-does
returns-then-eq-2-clause-does g c =
    let done : c.attach.result ≡ reply.Done = Done-compared c.attach.result (sym c.eq.ensures ∙ c.if-eq.false) in
    let gone : c.sync.result ≡ reply.Gone = Gone-compared c.sync.result (sym c.eq-2.ensures ∙ c.if-eq-2.true) in
    found_unsynced c.args.geometry.now g.R.Rack.is_honest (g.R.Rack.history c.args.rack.now) (g.R.Rack.history c.attach.new.self)
    (g.R.Rack.bads c.args.rack.now) (g.R.Rack.bads c.attach.new.self) (g.R.Rack.gones c.args.rack.now) (g.R.Rack.gones c.attach.new.self) c.args.slot
    (λ honest. rw done at (c.attach.ensures.does honest)) c.attach.ensures.counts (g.R.Rack.history c.sync.new.self) (g.R.Rack.bads c.sync.new.self)
    (g.R.Rack.gones c.sync.new.self) (λ honest. rw gone at (c.sync.ensures.does honest)) c.sync.ensures.counts (c.sync.ensures.gone gone)

pub returns-then-eq-2-clause-ran : goal.returns-then-eq-2-clause-ran
returns-then-eq-2-clause-ran g c honest = ran_join (look_ran tt (c.attach.ensures.does honest)) (look_ran tt (c.sync.ensures.does honest))

pub returns-then-has-need-clause-does : goal.returns-then-has-need-clause-does
returns-then-has-need-clause-does g c =
    let attached : c.attach.result ≡ reply.Done = Done-compared c.attach.result (sym c.eq.ensures ∙ c.if-eq.false) in
    let synced : c.sync.result ≡ reply.Done = Done-compared c.sync.result (sym c.eq-2.ensures ∙ c.if-eq-2.false) in
    found_small c.args.geometry.now g.R.Rack.is_honest (g.R.Rack.history c.args.rack.now) (g.R.Rack.history c.attach.new.self)
    (g.R.Rack.bads c.args.rack.now) (g.R.Rack.bads c.attach.new.self) (g.R.Rack.gones c.args.rack.now) (g.R.Rack.gones c.attach.new.self) c.args.slot
    (λ honest. rw attached at (c.attach.ensures.does honest)) c.attach.ensures.counts (g.R.Rack.history c.sync.new.self) (g.R.Rack.history c.sectors-has.new.self)
    (g.R.Rack.bads c.sync.new.self) (g.R.Rack.bads c.sectors-has.new.self) (g.R.Rack.gones c.sync.new.self) (g.R.Rack.gones c.sectors-has.new.self) c.sectors-has.result
    (λ honest. rw synced at (c.sync.ensures.does honest)) c.sync.ensures.counts c.sectors-has.ensures.does c.sectors-has.ensures.counts
    (rw c.n.ensures.value at c.if-slot-n.false) (rw c.need.ensures.value at c.if-has-need.true)

pub returns-then-has-need-clause-ran : goal.returns-then-has-need-clause-ran
returns-then-has-need-clause-ran g c honest =
    ran_join (look_ran tt (c.attach.ensures.does honest))
    (ran_join (look_ran tt (c.sync.ensures.does honest)) (look_ran tt (c.sectors-has.ensures.does honest)))

pub returns-clause-does : goal.returns-clause-does
returns-clause-does g c =
    let attached : c.attach.result ≡ reply.Done = Done-compared c.attach.result (sym c.eq.ensures ∙ c.if-eq.false) in
    let synced : c.sync.result ≡ reply.Done = Done-compared c.sync.result (sym c.eq-2.ensures ∙ c.if-eq-2.false) in
    found_own c.args.geometry.now g.R.Rack.is_honest (g.R.Rack.history c.args.rack.now) (g.R.Rack.history c.attach.new.self)
    (g.R.Rack.bads c.args.rack.now) (g.R.Rack.bads c.attach.new.self) (g.R.Rack.gones c.args.rack.now) (g.R.Rack.gones c.attach.new.self) c.args.slot
    (λ honest. rw attached at (c.attach.ensures.does honest)) c.attach.ensures.counts (g.R.Rack.history c.sync.new.self) (g.R.Rack.history c.sectors-has.new.self)
    (g.R.Rack.bads c.sync.new.self) (g.R.Rack.bads c.sectors-has.new.self) (g.R.Rack.gones c.sync.new.self) (g.R.Rack.gones c.sectors-has.new.self) c.sectors-has.result
    (λ honest. rw synced at (c.sync.ensures.does honest)) c.sync.ensures.counts c.sectors-has.ensures.does c.sectors-has.ensures.counts
    (rw c.n.ensures.value at c.if-slot-n.false) (g.R.Rack.history c.find_super-2.new.rack) (g.R.Rack.bads c.find_super-2.new.rack) (g.R.Rack.gones c.find_super-2.new.rack)
    c.find_super-2.result (rw c.need.ensures.value at c.if-has-need.false) c.find_super-2.ensures.ran c.find_super-2.ensures.counts
    c.find_super-2.ensures.does

pub returns-clause-taken : goal.returns-clause-taken
returns-clause-taken g c honest is below =
    let attached : c.attach.result ≡ reply.Done = Done-compared c.attach.result (sym c.eq.ensures ∙ c.if-eq.false) in
    let synced : c.sync.result ≡ reply.Done = Done-compared c.sync.result (sym c.eq-2.ensures ∙ c.if-eq-2.false) in
    taken_own c.args.geometry.now g.R.Rack.is_honest (g.R.Rack.history c.args.rack.now) (g.R.Rack.history c.attach.new.self)
    (g.R.Rack.bads c.args.rack.now) (g.R.Rack.bads c.attach.new.self) (g.R.Rack.gones c.args.rack.now) (g.R.Rack.gones c.attach.new.self) c.args.slot
    (λ honest. rw attached at (c.attach.ensures.does honest)) c.attach.ensures.counts (g.R.Rack.history c.sync.new.self) (g.R.Rack.history c.sectors-has.new.self)
    (g.R.Rack.bads c.sync.new.self) (g.R.Rack.bads c.sectors-has.new.self) (g.R.Rack.gones c.sync.new.self) (g.R.Rack.gones c.sectors-has.new.self) c.sectors-has.result
    (λ honest. rw synced at (c.sync.ensures.does honest)) c.sync.ensures.counts c.sectors-has.ensures.does c.sectors-has.ensures.counts
    below (g.R.Rack.history c.find_super-2.new.rack) (rw c.need.ensures.value at c.if-has-need.false) honest
    (c.find_super-2.ensures.ran honest) (c.sync.ensures.began honest)

pub returns-clause-settled : goal.returns-clause-settled
returns-clause-settled g c is =
    let attached : c.attach.result ≡ reply.Done = Done-compared c.attach.result (sym c.eq.ensures ∙ c.if-eq.false) in
    let synced : c.sync.result ≡ reply.Done = Done-compared c.sync.result (sym c.eq-2.ensures ∙ c.if-eq-2.false) in
    settled_own c.args.geometry.now g.R.Rack.is_honest (g.R.Rack.history c.args.rack.now) (g.R.Rack.history c.attach.new.self)
    (g.R.Rack.bads c.args.rack.now) (g.R.Rack.bads c.attach.new.self) (g.R.Rack.gones c.args.rack.now) (g.R.Rack.gones c.attach.new.self) c.args.slot
    (λ honest. rw attached at (c.attach.ensures.does honest)) c.attach.ensures.counts (g.R.Rack.history c.sync.new.self) (g.R.Rack.history c.sectors-has.new.self)
    (g.R.Rack.bads c.sync.new.self) (g.R.Rack.bads c.sectors-has.new.self) (g.R.Rack.gones c.sync.new.self) (g.R.Rack.gones c.sectors-has.new.self) c.sectors-has.result
    (λ honest. rw synced at (c.sync.ensures.does honest)) c.sync.ensures.counts c.sectors-has.ensures.does c.sectors-has.ensures.counts
    (rw c.n.ensures.value at c.if-slot-n.false) (g.R.Rack.history c.find_super-2.new.rack) (g.R.Rack.bads c.find_super-2.new.rack) (g.R.Rack.gones c.find_super-2.new.rack)
    c.find_super-2.ensures.ran

pub returns-clause-ran : goal.returns-clause-ran
returns-clause-ran g c honest =
    ran_join (look_ran tt (c.attach.ensures.does honest))
    (ran_join (look_ran tt (c.sync.ensures.does honest))
    (ran_join (look_ran tt (c.sectors-has.ensures.does honest)) (reads_ran (c.find_super-2.ensures.ran honest))))
