-- The field stands after what was written, and after it all is zero still.
use Rattle.std.proofs.Common.{◌+◌, ◌≤◌, length, ap, ◌∙◌, arith}
use Rattle.std.proofs.lemmas.List.{length-append, length-take-le}
use Rattle.stair_super.proofs.PageLemmas.{put_rest, put_front, put_whole}
use Rattle.stair_super.proofs.page.Page.put.Goals as goal

fits : (c : goal.After-self-1) → c.self.inside.len + length c.args.field.now ≤ 512
fits c = omega (arith, c.requires, ap length c.self.view_is, length-take-le c.self.inside.len c.self.inside.bytes (omega (arith, c.self.invariant.fits, c.self.invariant.whole)))

pub invariant_of-self : goal.invariant_of-self
invariant_of-self c =
    let field = c.copy_from_slice.ensures.after in
    record {
      fits = fits c;
      whole = rw field (put_whole c.self.inside.bytes c.args.field.now c.self.inside.len _ (fits c) c.self.invariant.whole (omega arith));
      rest = rw field (put_rest c.self.inside.bytes c.args.field.now c.self.inside.len _ (fits c) c.self.invariant.whole (omega arith) c.self.invariant.rest);
    }

pub returns-clause-text : goal.returns-clause-text
returns-clause-text c =
    rw (c.copy_from_slice.ensures.after, ← c.self.view_is) (put_front c.self.inside.bytes c.args.field.now c.self.inside.len _ (omega (arith, c.self.invariant.fits, c.self.invariant.whole)))

pub returns-clause-len : goal.returns-clause-len
returns-clause-len c =
    ap length (returns-clause-text c) ∙ length-append c.args.self.now c.args.field.now
