use Rattle.stair_model.proofs.CanonicalLaws.{extension_exists, extension_unique, extension_chunk}
use Rattle.stair_canon.proofs.laws.extension_laws.Goals as goal

pub returns : goal.returns
returns c = record { exists = extension_exists; one = extension_unique; chunks = extension_chunk }
