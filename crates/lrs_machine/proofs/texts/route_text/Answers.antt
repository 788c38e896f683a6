use Rattle.lrs_machine.proofs.Ascii.{IsAscii-route}
use Rattle.lrs_machine.proofs.texts.route_text.Goals as goal

pub as_text-requires : goal.as_text-requires
as_text-requires c = rw c.bytes.ensures.text (IsAscii-route c.args.name.now c.bytes.ensures.alphabet)
