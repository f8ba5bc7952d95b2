use Rattle.std.proofs.Common.{ℕ, ◌+◌, List, ◌++◌, Some, ap, sym, subst, ◌∙◌}
use Rattle.stair_image.specs.Seal.{sealed}
use Rattle.stair_filerack.specs.Files.{FindsSector}
use Rattle.stair_filerack.specs.Slot.{held_as, released}
use Rattle.stair_filerack.proofs.PendingLemmas.{way_keeps}
use Rattle.stair_filerack.proofs.file.write_sector.Goals as goal

pub returns-clause-done : goal.returns-clause-done
returns-clause-done g c =
    let way = c.in_ok-make_way.ensures.way in
    let bytes = c.seal.ensures ∙ ap (λ (n : ℕ). sealed n c.args.from.now) c.from.ensures in (
      held_as c.make_way.new.pending c.make_way.new.image,
      way,
      subst (λ image. FindsSector g.T.Seek.stream_position c.args.sector c.make_way.new.image image.file) (sym c.image.view_is) c.in_ok-find_sector.ensures.found,
      c.add.ensures ∙ ap (λ (sector : List ℕ). c.make_way.new.pending ++ sector) bytes,
      ap (λ (n : ℕ). Some (n + 1)) c.from-2.ensures,
      ap (λ image. image.ahead) c.image.view_is ∙ c.find_sector.ensures.ahead
          ∙ ap released (way_keeps g.T.Write.contents c.args.sector _ (held_as c.make_way.new.pending c.make_way.new.image) way),
    )
