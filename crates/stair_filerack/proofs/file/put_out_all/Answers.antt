use Rattle.std.proofs.Common.{refl}
use Rattle.stair_filerack.proofs.file.put_out_all.Goals as goal

pub returns : goal.returns
returns g c =
    rw (← c.image.view_is)
    (c.put_out.new.file, (c.in_ok-put_out.ensures.all, c.put_out.ensures.none), refl, c.in_ok-put_out.ensures.empty)
