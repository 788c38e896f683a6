use Rattle.std.proofs.Common.{◌≡◌, length}
use Rattle.lrs_cli_sheets.proofs.AnswerLine.{IsLineSoFar}
use Rattle.lrs_cli_sheets.proofs.confirmation.read_line.Given as goal

abbrev pub invariant-loop-turn : goal.invariant-loop-turn
invariant-loop-turn g l =
    record {
      long : length l.line.items ≡ l._turn;
      line : IsLineSoFar (g.S.Read.remaining l.fn.reader) (g.S.Read.remaining l.reader) l.line.items;
    }
