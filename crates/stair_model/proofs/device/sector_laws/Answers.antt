use Rattle.stair_model.proofs.DeviceLaws.{sector_in_range, part_once, sector_has_part, last_sector}
use Rattle.stair_model.proofs.device.sector_laws.Goals as goal

pub returns : goal.returns
returns c = record {
  in_range = sector_in_range;
  one_part = λ g part part' limits. part_once g part part';
  has_part = sector_has_part;
  last = last_sector;
}
