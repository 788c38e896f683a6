use Rattle.lrs_machine.proofs.LinesApart.{lines_tell_commands_apart}
use Rattle.lrs_machine.proofs.laws.lines_tell_commands_apart.Goals as goal

pub returns : goal.returns
returns c = lines_tell_commands_apart
