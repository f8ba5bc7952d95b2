-- What is written so far of 512 bytes.
use Rattle.std.specs.Prelude.{◌≡◌, ◌-◌, ◌≤◌, drop, length}
use Rattle.stair_model.specs.Stripe.{SECTOR}
use Rattle.stair_super.specs.Spelling.{zeros}
use Rattle.stair_super.specs.declared.page.Page.TheInside.{Inside}

-- after it all is zero
pub record IsPage (a : Inside) : Type 0 where
  pub fits : a.len ≤ SECTOR
  pub whole : length a.bytes ≡ SECTOR
  pub rest : drop a.len a.bytes ≡ zeros (SECTOR - a.len)
