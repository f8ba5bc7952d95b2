-- The name and the numbers are those that the bytes hold.
use Rattle.std.proofs.Common.{◌≡◌, ℕ, ◌+◌, ◌*◌, ◌^◌, Option, refl, sym, ap₂, ◌∙◌, subst, arith}
use Rattle.std.specs.Prelude.{MatchOption}
use Rattle.std.proofs.lemmas.Option.{none-some}
use Rattle.stair_conf.specs.Name.{IsName}
use Rattle.stair_volume.specs.declared.extent.Entry.{Entry}
use Rattle.stair_volume.specs.Page.{entry_at}
use Rattle.stair_volume.proofs.ReadingLaws.{too_long, name_read, entry_read}
use Rattle.stair_volume.proofs.reading.read_entry.Goals as goal

pub returns-then-len-gt-NAME_LIMIT : goal.returns-then-len-gt-NAME_LIMIT
returns-then-len-gt-NAME_LIMIT c =
    too_long c.args.bytes.now c.args.k c.requires c.told-bytes (omega (arith, c.from-len.ensures, c.if-len-gt-NAME_LIMIT.true))

pub returns-in_err-name : goal.returns-in_err-name
returns-in_err-name c =
    let bytes = c.args.bytes.now in
    let k = c.args.k in
    let nameless : IsName (entry_at bytes k).name → ⊥ = λ named.
    none-some (entry_at bytes k).name ((c.in_err-name.ensures (entry_at bytes k).name).1 (sym (name_read bytes k c.from-len.result c.from-len.ensures), named)) in
    subst (λ (o : Option Entry). MatchOption o (IsName (entry_at bytes k).name → ⊥) (λ entry. entry ≡ entry_at bytes k)) (sym c.from_residual.ensures) nameless

pub returns : goal.returns
returns c =
    let bytes = c.args.bytes.now in
    entry_read bytes c.args.k c.in_ok-name.name c.u64_at.result (c.from.result * 2 ^ 32 + c.from-2.result)
    (((c.in_ok-name.ensures c.in_ok-name.name).0 refl).0 ∙ name_read bytes c.args.k c.from-len.result c.from-len.ensures)
    c.u64_at.ensures
    (ap₂ (λ (high low : ℕ). high * 2 ^ 32 + low) c.from.ensures (c.from-2.ensures ∙ c.u32_at.ensures))
