use Rattle.std.proofs.lemmas.Str.{IsUtf8-from_ascii}
use Rattle.lrs_machine.proofs.Ascii.{IsAscii-route}
use Rattle.lrs_sheet_questions.proofs.lines.name_of.Goals as goal

pub unreachable-requires : goal.unreachable-requires
unreachable-requires c = c.in-Err.ensures.cases.0 (rw c.bytes.ensures.text (IsUtf8-from_ascii _ (IsAscii-route c.args.route.now c.bytes.ensures.alphabet)))
