-- One part after the other.
use Rattle.std.proofs.Common.{◌≡◌, ℕ, List, ◌++◌, ap, ◌∙◌}
use Rattle.stair_super.specs.Spelling.{padded, number32, counts}
use Rattle.stair_super.proofs.Written.{both}
use Rattle.stair_super.proofs.writing.put_geometry.Goals as goal

pub returns-clause-text : goal.returns-clause-text
returns-clause-text c =
    let g = c.args.geometry.now in
    let old = c.args.page.now in
    let id : c.put.new.self ≡ old ++ g.id = c.put.ensures.text ∙ ap (λ (l : List ℕ). old ++ l) c.id.ensures.value in
    let numbers : c.put-2.new.self ≡ c.put.new.self ++ counts g =
    rw (← c.n.ensures.value, ← c.m.ensures.value, ← c.r.ensures.value, ← c.classes.ensures.value) c.put-2.ensures.text in
    let stripes : c.put_u32.new.self ≡ c.put_coverage.new.page ++ number32 g.stripes =
    c.put_u32.ensures.text ∙ ap (λ (n : ℕ). c.put_coverage.new.page ++ number32 n) c.stripes.ensures.value in
    let last = both c.put-2.new.self _ _ (padded g.e) (number32 g.stripes) c.put_coverage.ensures.text stripes in
    let later = both c.put.new.self _ _ (counts g) (padded g.e ++ number32 g.stripes) numbers last in
    both old _ _ g.id (counts g ++ (padded g.e ++ number32 g.stripes)) id later
