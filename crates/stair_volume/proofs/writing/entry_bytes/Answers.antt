-- One field after the other.
use Rattle.std.proofs.Common.{ℕ, List, [], ◌∷◌, length, ap, ◌∙◌}
use Rattle.stair_volume.specs.Page.{with_field, zeros}
use Rattle.stair_volume.proofs.FieldLemmas.{entry_written}
use Rattle.stair_volume.proofs.writing.entry_bytes.Goals as goal

pub returns : goal.returns
returns c =
    let name = c.bytes-name.ensures.value in
    entry_written c.args.entry.now c.put.new.bytes c.put-2.new.bytes c.put-3.new.bytes c.put-4.new.bytes c.put-5.new.bytes c.bytes-name.ensures.rules.short
    (c.put.ensures ∙ ap (λ (l : List ℕ). with_field (zeros 32) 0 (length l ∷ [])) name)
    (c.put-2.ensures ∙ ap (λ (l : List ℕ). with_field c.put.new.bytes 1 l) name)
    c.put-3.ensures
    (c.put-4.ensures ∙ ap (λ (l : List ℕ). with_field c.put-3.new.bytes 20 l) c.to_be_bytes.ensures)
    (c.put-5.ensures ∙ ap (λ (l : List ℕ). with_field c.put-4.new.bytes 28 l) c.to_be_bytes-2.ensures)
