use Rattle.lrs_element.proofs.Expanding.{expand_turned}
use Rattle.lrs_element.proofs.link.Piece.turned.Goals as goal

pub returns-clause-turned : goal.returns-clause-turned
returns-clause-turned c = expand_turned c.args.self
