-- Each law, by inductions on traces.
use Rattle.stair_command.proofs.PromotedLaws.{brought_up}
use Rattle.stair_command.proofs.SoundLaws.{promoted_sound, replaced_sound, scrubbed_sound}
use Rattle.stair_command.proofs.sound.sound_laws.Goals as goal

pub returns : goal.returns
returns g c = record {
  brought_up = λ view trace old new works m last j opened none knew live dead. brought_up view j last none live trace old new works m knew opened dead;
  promoted = λ view trace old new works last j honest fresh opened has. promoted_sound view honest trace old new works last j fresh opened has;
  replaced = λ view trace old new works last j honest opened has. replaced_sound view honest trace old new works last j opened has;
  scrubbed = λ view trace old new works last t j honest fresh opened none has live.
      scrubbed_sound view honest last t j none live trace old new works fresh opened has;
}
