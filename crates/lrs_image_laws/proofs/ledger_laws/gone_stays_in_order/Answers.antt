use Rattle.lrs_image_laws.proofs.GoneInOrder.{gone_stays_in_order}
use Rattle.lrs_image_laws.proofs.ledger_laws.gone_stays_in_order.Goals as goal

pub returns : goal.returns
returns c = gone_stays_in_order
