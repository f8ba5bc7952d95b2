-- One bit more.
use Rattle.std.proofs.Common.{◌≡◌, ℕ, ◌+◌, ◌-◌, ◌*◌, ◌^◌, Bool, true, false, cond, sym, ap, ◌∙◌, add-zero, arith}
use Rattle.stair_model.specs.CellSet.{CellSet}
use Rattle.stair_model.specs.Geometry.{Geometry}
use Rattle.stair_model.specs.Sum.{sum_below}
use Rattle.stair_model.proofs.CountLaws.{sum_below_none, sum_below_next}
use Rattle.stair_journal.specs.Gate.{has_number, bitmap_byte}
use Rattle.stair_journal.proofs.BitLemmas.{bit_fits, weight_is}
use Rattle.stair_journal.proofs.gate.bitmap_byte.Goals as goal
use Rattle.stair_journal.proofs.gate.bitmap_byte.Goals.{then-has_number, else-has_number}

-- the bits of byte q, by their places
abbrev weighed : Geometry → CellSet → ℕ → ℕ → ℕ
weighed g cells q p = cond (has_number g cells (8 * q + p)) (2 ^ (7 - p)) 0

tested : (g : Geometry) (cells : CellSet) (q p first : ℕ) (b is : Bool) → first ≡ 8 * q → b ≡ has_number g cells (first + p) → b ≡ is
    → cond is (2 ^ (7 - p)) 0 ≡ weighed g cells q p
tested g cells q p first b is start has was =
    ap (λ (t : Bool). cond t (2 ^ (7 - p)) 0) (sym was ∙ has ∙ ap (λ (k : ℕ). has_number g cells (k + p)) start)

pub loop-p-init : goal.loop-p-init
loop-p-init c = sym (sum_below_none (weighed c.args.geometry.now c.args.cells.now c.args.q))

pub overflow_add-byte : goal.overflow_add-byte
overflow_add-byte c =
    omega (arith, bit_fits (λ p. has_number c.args.geometry.now c.args.cells.now (8 * c.args.q + p)) c.loop-p.p c.loop-p.byte (omega arith) c.loop-p.invariant)

pub loop-p-preserved : goal.loop-p-preserved
loop-p-preserved c =
    let f = weighed c.args.geometry.now c.args.cells.now c.args.q in
    let start = ap (λ (k : ℕ). 8 * k) c.from-first.ensures in
    elim c.if-has_number.branch [
      | then-has_number w ↦
          w.byte-is
          ∙ sum_below_next c.loop-p.p c.loop-p.byte _ f c.loop-p.invariant
          (weight_is c.loop-p.p (omega arith)
          ∙ tested c.args.geometry.now c.args.cells.now c.args.q c.loop-p.p _ _ true start c.has_number.ensures w.if-has_number.true)
      | else-has_number w ↦
          w.byte-is ∙ sym (add-zero c.loop-p.byte)
          ∙ sum_below_next c.loop-p.p c.loop-p.byte 0 f c.loop-p.invariant
          (tested c.args.geometry.now c.args.cells.now c.args.q c.loop-p.p _ _ false start c.has_number.ensures w.if-has_number.false)
    ]

pub returns : goal.returns
unfolding bitmap_byte
returns c =
    let all : c.loop-p.p ≡ 8 = omega arith in
    c.loop-p.invariant ∙ ap (λ (k : ℕ). sum_below k (weighed c.args.geometry.now c.args.cells.now c.args.q)) all
