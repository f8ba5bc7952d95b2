-- Each law, by the programs of the jobs.
use Rattle.stair_command.specs.Outside.{views}
use Rattle.stair_engine.proofs.MeaningLaws.{bytes_are_answered, words_are_done}
use Rattle.stair_engine.proofs.CallLaws.{all_is_kept, array_is_left, array_is_made, arrays_are_spared, memory_comes_first, rack_is_left, show_only_looks, source_is_left, usage_is_exact}
use Rattle.stair_engine.proofs.BoundsLaws.{draws_are_bounded}
use Rattle.stair_engine.proofs.CameLaws.{whole_blocks_stand}
use Rattle.stair_engine.proofs.ChangedLaws.{volumes_are_changed, volumes_are_read_alike}
use Rattle.stair_engine.proofs.CompleteLaws.{all_is_complete, all_is_complete_with_reinsertion, replacement_is_done, script_is_done}
use Rattle.stair_engine.proofs.ConstantLaws.{plan_is_done}
use Rattle.stair_engine.proofs.CountedLaws.{scrubs_are_counted}
use Rattle.stair_engine.proofs.HaltLaws.{guards_halt}
use Rattle.stair_engine.proofs.MendedLaws.{array_is_mended, session_is_mended}
use Rattle.stair_engine.proofs.ServeLaws.{clients_are_answered}
use Rattle.stair_engine.proofs.laws.program_laws.Goals as goal

pub returns : goal.returns
returns g c =
    let view = views g.S.Source g.K.Sink in
    record {
      usage = usage_is_exact _ _;
      constant = plan_is_done _ _;
      done = words_are_done view;
      answers = bytes_are_answered view;
      kept = all_is_kept _ _;
      left = rack_is_left _ _ _ _;
      looks = show_only_looks _ _ _ _;
      untaken = source_is_left _ _;
      written = whole_blocks_stand _ _;
      stands = array_is_left _ _ _ _;
      memory = memory_comes_first _ _ _ _;
      created = array_is_made _ _ _ _;
      spared = arrays_are_spared _ _ _ _;
      complete = all_is_complete _ _ _ _;
      complete_with_reinsertion = all_is_complete_with_reinsertion _ _ _ _;
      mended = array_is_mended _ _ _ _;
      ended = session_is_mended _ _ _ _;
      replaced = replacement_is_done _ _ _ _;
      scripted = script_is_done _ _ _ _;
      halted = guards_halt _ _ _ _;
      answered = clients_are_answered _ _ _ _;
      changed = volumes_are_changed _ _ _ _;
      alike = volumes_are_read_alike _ _ _ _;
      bounded = draws_are_bounded _ _ _ _;
      counted = scrubs_are_counted _ _ _ _;
    }
