use Rattle.stair_script.proofs.LineLemmas.{line-IsLine, line_length, line_once, line_printable, printed-SpellsLine}
use Rattle.stair_script.proofs.DecidedLemmas.{line_known}
use Rattle.stair_script.proofs.WordLemmas.{spelling_digits}
use Rattle.stair_script.proofs.laws.line_laws.Goals as goal

pub returns : goal.returns
returns c = record {
  one_line = line_once;
  decided = line_known;
  printing = printed-SpellsLine;
  range = line-IsLine;
  longest = line_length;
  printable = line_printable;
  digits = spelling_digits;
}
