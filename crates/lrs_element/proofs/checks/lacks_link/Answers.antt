use Rattle.lrs_element.proofs.Finding.{lacking}
use Rattle.lrs_element.proofs.checks.lacks_link.Goals as goal

pub returns : goal.returns
returns g c = lacking c.args.piece.link (g.L.KnownLinks.links c.args.links.now) c.link.result c.is_none.result c.is_none.ensures c.link.ensures
