-- All wanted places are solved at once, from the known ones that are read.
use Rattle.std.proofs.Common.{◌≡◌, List, ℕ, ◌≤◌, length, subst, sym, ap, ◌∙◌, arith, take}
use Rattle.std.specs.Prelude.{All}
use Rattle.std.proofs.lemmas.List.{length-take-le}
use Rattle.stair_model.specs.Stripe.{IsSector}
use Rattle.stair_gf.specs.SetsSums.{SetsSums}
use Rattle.stair_mds.specs.Kept.{HasPattern}
use Rattle.stair_mds.specs.Solving.{Code, IsPrepared}
use Rattle.stair_mds.proofs.Pattern.{AreApart-along, AreReadSymbols, AreReadSymbols-take, HasSolved-sums}
use Rattle.stair_mds.proofs.Room.{wanted_few}
use Rattle.stair_mds.proofs.SolvedSoFar.{SolvesAlong-all}
use Rattle.stair_mds.proofs.mds.Mds.apply_along.Goals as goal

pub symbols-into-requires-clause-few : goal.symbols-into-requires-clause-few
symbols-into-requires-clause-few g c =
    let code = c.args.self.now in
    let items = c.self.inside.coefficients.items in
    let pattern : HasPattern code items =
    subst (λ (x : Code). IsPrepared x → HasPattern x items) c.self.view_is c.self.invariant.pattern c.requires.prepared in
    let few : length code.wanted ≤ 32 =
    wanted_few code.shape code.known code.wanted pattern.known pattern.wanted _ _ (ap (λ s. s.shape.held) c.self.view_is)
    (ap (λ s. s.shape.total) c.self.view_is) c.self.invariant.few_wanted in
    omega (arith, few, ap length (c.deref-2.ensures.value ∙ ap (λ s. s.wanted) c.self.view_is))

pub slice_bounds-into-end : goal.slice_bounds-into-end
slice_bounds-into-end g c =
    let code = c.args.self.now in
    let items = c.self.inside.coefficients.items in
    let pattern : HasPattern code items =
    subst (λ (x : Code). IsPrepared x → HasPattern x items) c.self.view_is c.self.invariant.pattern c.requires.prepared in
    let few : length code.wanted ≤ 32 =
    wanted_few code.shape code.known code.wanted pattern.known pattern.wanted _ _ (ap (λ s. s.shape.held) c.self.view_is)
    (ap (λ s. s.shape.total) c.self.view_is) c.self.invariant.few_wanted in
    let all : c.len-wanted.result ≡ length code.wanted =
    c.len-wanted.ensures ∙ c.self.inside.wanted.ok.0 ∙ ap (λ s. length s.wanted) c.self.view_is in
    omega (arith, few, all, c.symbols-into.ensures.count)

pub slice_bounds-sum_up-end : goal.slice_bounds-sum_up-end
slice_bounds-sum_up-end g c =
    let code = c.args.self.now in
    let items = c.self.inside.coefficients.items in
    let pattern : HasPattern code items =
    subst (λ (x : Code). IsPrepared x → HasPattern x items) c.self.view_is c.self.invariant.pattern c.requires.prepared in
    let few : length code.wanted ≤ 32 =
    wanted_few code.shape code.known code.wanted pattern.known pattern.wanted _ _ (ap (λ s. s.shape.held) c.self.view_is)
    (ap (λ s. s.shape.total) c.self.view_is) c.self.invariant.few_wanted in
    let all : c.len-wanted.result ≡ length code.wanted =
    c.len-wanted.ensures ∙ c.self.inside.wanted.ok.0 ∙ ap (λ s. length s.wanted) c.self.view_is in
    sym (length-take-le c.len-wanted.result c.symbols-into.result (omega (arith, few, all, c.symbols-into.ensures.count)))

pub sum_up-requires-clause-apart : goal.sum_up-requires-clause-apart
sum_up-requires-clause-apart g c =
    let code = c.args.self.now in
    let items = c.self.inside.coefficients.items in
    let held : c.self.inside.held ≡ code.shape.held = ap (λ s. s.shape.held) c.self.view_is in
    let known : c.deref.result.now ≡ code.known = c.deref.ensures.value ∙ ap (λ s. s.known) c.self.view_is in
    let wanted : c.deref-2.result.now ≡ code.wanted = c.deref-2.ensures.value ∙ ap (λ s. s.wanted) c.self.view_is in
    let all : c.len-wanted.result ≡ length code.wanted =
    c.len-wanted.ensures ∙ c.self.inside.wanted.ok.0 ∙ ap (λ s. length s.wanted) c.self.view_is in
    let pattern : HasPattern code items =
    subst (λ (x : Code). IsPrepared x → HasPattern x items) c.self.view_is c.self.invariant.pattern c.requires.prepared in
    let few : length code.wanted ≤ 32 =
    wanted_few code.shape code.known code.wanted pattern.known pattern.wanted _ _ (ap (λ s. s.shape.held) c.self.view_is)
    (ap (λ s. s.shape.total) c.self.view_is) c.self.invariant.few_wanted in
    AreApart-along code.shape c.args.line (length c.args.work.now) c.args.read code.known code.wanted _ _ pattern.known pattern.wanted c.requires.line c.requires.read
    (subst (λ (n : ℕ). AreReadSymbols c.args.line n code.wanted (take c.len-wanted.result c.symbols-into.result)) all
    (AreReadSymbols-take c.args.line c.len-wanted.result code.wanted c.deref-2.result.now c.symbols-into.result wanted (omega (arith, all))
    (omega (arith, few, all, c.symbols-into.ensures.count)) c.symbols-into.ensures.each))
    (AreReadSymbols-take c.args.line c.args.read code.known c.deref.result.now c.symbols-from.result known c.requires.read
    (omega (arith, c.requires.read, pattern.known.count, held, c.self.invariant.few, c.symbols-from.ensures.count)) c.symbols-from.ensures.each)

pub returns-clause-solved : goal.returns-clause-solved
returns-clause-solved g c =
    let code = c.args.self.now in
    let items = c.self.inside.coefficients.items in
    let held : c.self.inside.held ≡ code.shape.held = ap (λ s. s.shape.held) c.self.view_is in
    let total : length c.self.inside.weights.items ≡ code.shape.total = sym c.self.inside.weights.ok.0 ∙ ap (λ s. s.shape.total) c.self.view_is in
    let known : c.deref.result.now ≡ code.known = c.deref.ensures.value ∙ ap (λ s. s.known) c.self.view_is in
    let wanted : c.deref-2.result.now ≡ code.wanted = c.deref-2.ensures.value ∙ ap (λ s. s.wanted) c.self.view_is in
    let all : c.len-wanted.result ≡ length code.wanted =
    c.len-wanted.ensures ∙ c.self.inside.wanted.ok.0 ∙ ap (λ s. length s.wanted) c.self.view_is in
    let pattern : HasPattern code items =
    subst (λ (x : Code). IsPrepared x → HasPattern x items) c.self.view_is c.self.invariant.pattern c.requires.prepared in
    let few : length code.wanted ≤ 32 =
    wanted_few code.shape code.known code.wanted pattern.known pattern.wanted _ _ (ap (λ s. s.shape.held) c.self.view_is)
    (ap (λ s. s.shape.total) c.self.view_is) c.self.invariant.few_wanted in
    let sectors : All IsSector c.args.work.now = subst (λ (symbols : List (List ℕ)). All IsSector symbols) c.work.view_is c.work.invariant.sectors in
    let into = take c.len-wanted.result c.symbols-into.result in
    let from = take c.args.read c.symbols-from.result in
    let sets : SetsSums c.args.work.now c.sum_up.new.self into from items code.shape.held =
    subst (λ (by : List ℕ). SetsSums c.args.work.now c.sum_up.new.self into from by code.shape.held) c.deref-3.ensures.value
    (subst (SetsSums c.args.work.now c.sum_up.new.self into from c.deref-3.result.now) (c.from-held.ensures ∙ held) c.sum_up.ensures) in
    let kept = c.self.invariant.weights in
    SolvesAlong-all code.shape c.args.line c.args.read code.known code.wanted c.args.work.now c.sum_up.new.self
    (omega (arith, held, total, kept.within)) (omega (arith, total, kept.bytes))
    pattern.known pattern.wanted c.requires.read c.requires.line sectors
    (HasSolved-sums code.shape c.args.line c.args.read code.known code.wanted into from items c.args.work.now c.sum_up.new.self
    (subst (λ (n : ℕ). AreReadSymbols c.args.line n code.wanted into) all
    (AreReadSymbols-take c.args.line c.len-wanted.result code.wanted c.deref-2.result.now c.symbols-into.result wanted (omega (arith, all))
    (omega (arith, few, all, c.symbols-into.ensures.count)) c.symbols-into.ensures.each))
    (AreReadSymbols-take c.args.line c.args.read code.known c.deref.result.now c.symbols-from.result known c.requires.read
    (omega (arith, c.requires.read, pattern.known.count, held, c.self.invariant.few, c.symbols-from.ensures.count)) c.symbols-from.ensures.each)
    pattern.coefficients (omega (arith, c.requires.read, pattern.known.count)) sets)
