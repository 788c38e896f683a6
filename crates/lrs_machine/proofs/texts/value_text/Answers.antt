use Rattle.lrs_machine.proofs.Ascii.{IsAscii-value}
use Rattle.lrs_machine.proofs.texts.value_text.Goals as goal

pub as_text-requires : goal.as_text-requires
as_text-requires c = rw c.bytes.ensures.text (IsAscii-value c.args.value.now c.bytes.ensures.alphabet)
