use Rattle.lrs_machine.proofs.Ascii.{IsAscii-class}
use Rattle.lrs_machine.proofs.texts.class_text.Goals as goal

pub as_text-requires : goal.as_text-requires
as_text-requires c = rw c.bytes.ensures.text (IsAscii-class c.args.name.now c.bytes.ensures.alphabet)
