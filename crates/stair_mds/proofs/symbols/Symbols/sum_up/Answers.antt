-- Symbols are set to sums, of bytes.
use Rattle.std.proofs.Common.{List, ℕ, sym, subst, ◌∙◌}
use Rattle.stair_gf.specs.SetsSums.{SetsSums}
use Rattle.stair_mds.proofs.Summing.{AreSymbols-sums, written_back}
use Rattle.stair_mds.proofs.symbols.Symbols.sum_up.Goals as goal

pub invariant_of-self : goal.invariant_of-self
invariant_of-self c =
    let items = c.self.inside.symbols.items in
    let new = c.sums.new.symbols in
    let sets : SetsSums items new c.args.into.now c.args.from.now c.args.by.now c.args.width =
    subst (λ (x : List (List ℕ)). SetsSums x new c.args.into.now c.args.from.now c.args.by.now c.args.width) c.deref_mut.ensures.value c.sums.ensures in
    rw (written_back new _ c.self.inside.symbols.len (sets.count ∙ sym c.self.inside.symbols.ok.0))
    (AreSymbols-sums items new c.args.into.now c.args.from.now c.args.by.now c.args.width sets c.self.invariant)

pub returns : goal.returns
returns c =
    let items = c.self.inside.symbols.items in
    let new = c.sums.new.symbols in
    let sets : SetsSums items new c.args.into.now c.args.from.now c.args.by.now c.args.width =
    subst (λ (x : List (List ℕ)). SetsSums x new c.args.into.now c.args.from.now c.args.by.now c.args.width) c.deref_mut.ensures.value c.sums.ensures in
    rw (written_back new _ c.self.inside.symbols.len (sets.count ∙ sym c.self.inside.symbols.ok.0), ← c.self.view_is) sets
