-- One slot more; a part of one; and all of them.
use Rattle.std.proofs.Common.{◌≡◌, ℕ, zero, suc, ◌+◌, ◌<◌, ◌≤◌, List, [], ◌++◌, inl, inr, sym, ap, ◌∙◌, subst, arith, add-one, append_assoc, append-nil, eq-or-lt_of_le}
use Rattle.stair_model.specs.Geometry.{Geometry}
use Rattle.stair_member.specs.Membership.{Membership}
use Rattle.stair_command.specs.Executes.{Holds}
use Rattle.stair_command.specs.Outside.{sink_view}
use Rattle.stair_engine.specs.Show.{array_text, slot_line, slot_lines}
use Rattle.stair_command.specs.Trace.{HasPut}
use Rattle.stair_command.proofs.TextLaws.{puts_first, puts_more, puts_more_part}
use Rattle.stair_engine.proofs.show.put_member.Goals as goal

-- with the line of the next slot
lines_more : (m : Membership) (text : List ℕ) (j : ℕ) → (text ++ slot_lines m j) ++ slot_line m j ≡ text ++ slot_lines m (j + 1)
lines_more m text j =
    append_assoc text (slot_lines m j) (slot_line m j) ∙ ap (λ (k : ℕ). text ++ slot_lines m k) (sym (add-one j))

-- the lines after those of the first slots
lines_behind : (m : Membership) (j n : ℕ) → j ≤ n → (behind : List ℕ) × (slot_lines m j ++ behind ≡ slot_lines m n)
lines_behind m j zero in_all =
    let none : j ≡ zero = omega (arith, in_all) in
    ([], append-nil (slot_lines m j) ∙ ap (slot_lines m) none)
lines_behind m j (suc n) in_all =
    elim (eq-or-lt_of_le in_all) [
      | inl same ↦ ([], append-nil (slot_lines m j) ∙ ap (slot_lines m) same)
      | inr below ↦ let before = lines_behind m j n (omega (arith, below)) in (
        before.0 ++ slot_line m n,
        sym (append_assoc (slot_lines m j) before.0 (slot_line m n)) ∙ ap (λ (bytes : List ℕ). bytes ++ slot_line m n) before.1,
      )
    ]

-- all lines
lines_whole : (m : Membership) (text : List ℕ) (j n : ℕ) → j < n
    → (behind : List ℕ) × (((text ++ slot_lines m j) ++ slot_line m j) ++ behind ≡ text ++ slot_lines m n)
lines_whole m text j n below =
    let rest = lines_behind m (j + 1) n (omega (arith, below)) in (
      rest.0,
      ap (λ (bytes : List ℕ). bytes ++ rest.0) (lines_more m text j) ∙ append_assoc text (slot_lines m (j + 1)) rest.0
          ∙ ap (λ (bytes : List ℕ). text ++ bytes) rest.1,
    )

pub returns-in_err-put_array-clause-puts : goal.returns-in_err-put_array-clause-puts
returns-in_err-put_array-clause-puts g c =
    let m = c.args.member.now in
    puts_first (sink_view g.K.Sink) _ (array_text m) (slot_lines m m.array.geometry.n) _ _ c.from_residual.ensures.0
    c.in_err-put_array.ensures.puts

pub loop-slot-init : goal.loop-slot-init
loop-slot-init g c =
    let text = array_text c.args.member.now in
    subst (λ (bytes : List ℕ). Holds (sink_view g.K.Sink) (HasPut bytes) c.args.output.now c.put_array.new.output)
    (sym (append-nil text)) c.in_ok-put_array.ensures.puts

pub returns-in_err-put_all-clause-puts : goal.returns-in_err-put_all-clause-puts
returns-in_err-put_all-clause-puts g c =
    let m = c.args.member.now in
    let slot = c.loop-slot.slot in
    let n = m.array.geometry.n in
    let below : slot < n = omega (arith, c.loop-slot-test.true, c.n-slot-end.ensures.value, ap (λ (of : Geometry). of.n) c.geometry.ensures.value) in
    let whole = lines_whole m (array_text m) slot n below in
    puts_more_part (sink_view g.K.Sink) _ (array_text m ++ slot_lines m slot) (slot_line m slot) whole.0
    (array_text m ++ slot_lines m n) _ _ _ c.from_residual-in_err-put_all.ensures.0 whole.1 c.loop-slot.invariant
    (rw (c.bytes.ensures ∙ c.slot_line.ensures) at c.in_err-put_all.ensures.puts)

pub loop-slot-preserved : goal.loop-slot-preserved
loop-slot-preserved g c =
    let view = sink_view g.K.Sink in
    let m = c.args.member.now in
    let slot = c.loop-slot.slot in
    subst (λ (bytes : List ℕ). Holds view (HasPut bytes) c.args.output.now c.put_all.new.output) (lines_more m (array_text m) slot)
    (puts_more view (array_text m ++ slot_lines m slot) (slot_line m slot) _ _ _ c.loop-slot.invariant
    (rw (c.bytes.ensures ∙ c.slot_line.ensures) at c.in_ok-put_all.ensures.puts))

pub returns-clause-puts : goal.returns-clause-puts
returns-clause-puts g c =
    let m = c.args.member.now in
    let all : c.loop-slot.slot ≡ m.array.geometry.n =
    omega (arith, c.loop-slot-test.false, c.loop-slot.auto.slot-end, c.n-slot-end.ensures.value, ap (λ (g : Geometry). g.n) c.geometry.ensures.value)
    in
    let view = sink_view g.K.Sink in
    subst (λ (slot : ℕ). Holds view (HasPut (array_text m ++ slot_lines m slot)) c.args.output.now c.loop-slot.output) all c.loop-slot.invariant
