-- The rule, at what was found.
use Rattle.std.proofs.Common.{refl}
use Rattle.stair_array.specs.Looking.{Holds, WasSmall}
use Rattle.stair_array.proofs.look.look_at.Goals as goal

pub returns-in-Small-clause-refused : goal.returns-in-Small-clause-refused
returns-in-Small-clause-refused g c =
    record { finding = WasSmall c.in-Small.has; found = c.in-Small.ensures.does; refused = (refl, refl, c.need.ensures.value) }

pub returns-in-Bare-clause-passed : goal.returns-in-Bare-clause-passed
returns-in-Bare-clause-passed g c =
    let was = c.in-Bare.ensures.does in
    record { finding = Holds was.0; found = was.1; passes = was.2; settled = c.in-Bare.ensures.settled refl }

pub returns-in-Super-clause-refused : goal.returns-in-Super-clause-refused
returns-in-Super-clause-refused g c =
    let was = c.in-Super.ensures.does in record { finding = Holds was.0; found = was.1; refused = (refl, was.2) }
