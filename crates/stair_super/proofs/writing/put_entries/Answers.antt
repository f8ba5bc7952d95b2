-- Each slot has its nine bytes.
use Rattle.std.proofs.Common.{◌≡◌, ℕ, ◌+◌, List, [], ◌∷◌, ◌++◌, length, get_or, sym, ap, ◌∙◌, ap₂, arith}
use Rattle.std.proofs.lemmas.List.{length-append, get_or_default}
use Rattle.stair_super.specs.declared.mark.Mark.{Mark}
use Rattle.stair_super.specs.declared.mark.Mark.TheVariants.{Live, Down}
use Rattle.stair_super.specs.Superblock.{mark_at}
use Rattle.stair_super.specs.Spelling.{code, number64, entry, entries}
use Rattle.stair_super.proofs.Parts.{length-entries}
use Rattle.stair_super.proofs.Fields.{entry_is, entry_past, within}
use Rattle.stair_super.proofs.Written.{both, no_entries, entry_put}
use Rattle.stair_super.proofs.writing.put_entries.Goals as goal
use Rattle.stair_super.proofs.writing.put_entries.Goals.{then-j-n, else-j-n}

-- the length of what is written so far
length_so_far : (page old text : List ℕ) (n : ℕ) → page ≡ old ++ text → length text ≡ n → length page ≡ length old + n
length_so_far page old text n so_far sized = ap length so_far ∙ length-append old text ∙ ap (λ (k : ℕ). length old + k) sized

pub loop-j-init : goal.loop-j-init
loop-j-init c = no_entries c.args.block.now c.args.page.now

pub put-requires : goal.put-requires
put-requires c =
    omega (arith, length_so_far c.loop-j.page c.args.page.now (entries c.args.block.now c.loop-j.j) _ c.loop-j.invariant (length-entries c.args.block.now c.loop-j.j))

pub put_u64-requires : goal.put_u64-requires
put_u64-requires c =
    omega (arith, length_so_far c.loop-j.page c.args.page.now (entries c.args.block.now c.loop-j.j) _ c.loop-j.invariant (length-entries c.args.block.now c.loop-j.j))

pub skip-requires : goal.skip-requires
skip-requires c =
    omega (arith, length_so_far c.loop-j.page c.args.page.now (entries c.args.block.now c.loop-j.j) _ c.loop-j.invariant (length-entries c.args.block.now c.loop-j.j))

pub loop-j-preserved : goal.loop-j-preserved
loop-j-preserved c =
    let s = c.args.block.now in
    let j = c.loop-j.j in
    elim c.if-j-n.branch [
      | then-j-n w ↦
          let mark : w.code_of.result ≡ code (mark_at s j) =
          w.code_of.ensures
          ∙ ap code (get_or_default c.marks-marks.result j Live Down (omega (arith, ap length c.marks-marks.ensures.value, c.marks-marks.ensures.rules.sizes.marks)) ∙ ap (λ (l : List Mark). get_or l j Down) c.marks-marks.ensures.value) in
          let joined = ap (λ (l : List ℕ). number64 (get_or l j 0)) c.joins-joins.ensures.value in
          let text : entry s j ≡ w.code_of.result ∷ number64 (get_or c.joins-joins.result j 0) =
          entry_is s j (within j _ _ w.if-j-n.true (c.from-n.ensures ∙ c.n.ensures.value ∙ ap (λ g. g.n) c.geometry.ensures.value))
          ∙ ap₂ (λ (x : ℕ) (l : List ℕ). x ∷ l) (sym mark) (sym joined) in
          entry_put s c.loop-j.page c.args.page.now _ (w.code_of.result ∷ number64 (get_or c.joins-joins.result j 0)) j c.loop-j.invariant text
          (w.page-is ∙ both c.loop-j.page w.put.new.self w.put_u64.new.self (w.code_of.result ∷ []) (number64 (get_or c.joins-joins.result j 0)) w.put.ensures.text w.put_u64.ensures.text)
      | else-j-n w ↦
          entry_put s c.loop-j.page c.args.page.now _ _ j c.loop-j.invariant
          (entry_past s j (omega (arith, c.n.ensures.value, ap (λ g. g.n) c.geometry.ensures.value)))
          (w.page-is ∙ w.skip.ensures.text)
    ]

pub returns-clause-len : goal.returns-clause-len
returns-clause-len c =
    let all : c.loop-j.j ≡ 32 = omega arith in
    length_so_far _ c.args.page.now (entries c.args.block.now 32) _ (c.loop-j.invariant ∙ ap (λ (n : ℕ). c.args.page.now ++ entries c.args.block.now n) all) (length-entries c.args.block.now 32)
