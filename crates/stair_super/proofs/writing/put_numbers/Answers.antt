-- One number after the other.
use Rattle.std.proofs.Common.{◌≡◌, ℕ, ◌∷◌, [], ◌++◌, ap, ◌∙◌}
use Rattle.stair_super.specs.Spelling.{number64, zeros}
use Rattle.stair_super.proofs.Written.{both}
use Rattle.stair_super.proofs.writing.put_numbers.Goals as goal

pub returns-clause-text : goal.returns-clause-text
returns-clause-text c =
    let s = c.args.block.now in
    let old = c.args.page.now in
    let slot : c.put.new.self ≡ old ++ s.slot ∷ [] = c.put.ensures.text ∙ ap (λ (n : ℕ). old ++ n ∷ []) c.slot.ensures.value in
    let joined : c.put_u64.new.self ≡ c.skip.new.self ++ number64 s.joined =
    c.put_u64.ensures.text ∙ ap (λ (n : ℕ). c.skip.new.self ++ number64 n) c.joined.ensures.value in
    let draw : c.put_u64-2.new.self ≡ c.put_u64.new.self ++ number64 s.draw =
    c.put_u64-2.ensures.text ∙ ap (λ (n : ℕ). c.put_u64.new.self ++ number64 n) c.draw.ensures.value in
    let epoch : c.put_u64-3.new.self ≡ c.put_u64-2.new.self ++ number64 s.array.epoch =
    c.put_u64-3.ensures.text ∙ ap (λ (n : ℕ). c.put_u64-2.new.self ++ number64 n) c.epoch.ensures.value in
    let last = both c.put_u64.new.self _ _ (number64 s.draw) (number64 s.array.epoch) draw epoch in
    let later = both c.skip.new.self _ _ (number64 s.joined) (number64 s.draw ++ number64 s.array.epoch) joined last in
    let more = both c.put.new.self _ _ (zeros 7) (number64 s.joined ++ (number64 s.draw ++ number64 s.array.epoch)) c.skip.ensures.text later in
    both old _ _ (s.slot ∷ []) (zeros 7 ++ (number64 s.joined ++ (number64 s.draw ++ number64 s.array.epoch))) slot more
