use Rattle.ct_script.proofs.ByLines.{read_by_lines}
use Rattle.ct_script.proofs.laws.scripts_are_read_line_by_line.Goals as goal

pub returns : goal.returns
returns c = read_by_lines
