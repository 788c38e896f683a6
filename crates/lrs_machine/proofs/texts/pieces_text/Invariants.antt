use Rattle.std.proofs.Common.{◌≡◌, string_bytes, take}
use Rattle.lrs_machine.specs.Lines
use Rattle.lrs_machine.proofs.texts.pieces_text.Given as goal

abbrev pub invariant-loop-i : goal.invariant-loop-i
invariant-loop-i l = string_bytes l.words ≡ Lines.pieces_text (take l.i l.pieces)
