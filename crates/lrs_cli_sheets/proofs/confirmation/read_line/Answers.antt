use Rattle.std.proofs.Common.{ℕ, List, arith, rules, subst, sym}
use Rattle.lrs_cli_sheets.proofs.AnswerLine.{IsLineSoFar, line_ended, line_full, line_longer, text_ended}
use Rattle.lrs_cli_sheets.proofs.confirmation.read_line.Goals as goal

pub returns-in_default : goal.returns-in_default
returns-in_default g c =
    line_ended 4096 (g.S.Read.remaining c.args.reader.now) (g.S.Read.remaining c.loop-turn.reader) (g.S.Read.remaining c.next_byte.new.reader) c.loop-turn.line.items c.in-Some.byte
    (omega (arith, c.loop-turn.invariant.long, c.loop-turn-test.true)) c.loop-turn.invariant.line (rw c.in-Some.is at c.in_ok-byte.ensures.some) (search rules)

pub returns-in_default-2 : goal.returns-in_default-2
returns-in_default-2 g c =
    text_ended 4096 (g.S.Read.remaining c.args.reader.now) (g.S.Read.remaining c.loop-turn.reader) c.loop-turn.line.items
    (omega (arith, c.loop-turn.invariant.long, c.loop-turn-test.true)) c.loop-turn.invariant.line (search rules)

pub loop-turn-preserved : goal.loop-turn-preserved
loop-turn-preserved g c = record {
  long = search rules;
  line = subst (λ (xs : List ℕ). IsLineSoFar (g.S.Read.remaining c.args.reader.now) (g.S.Read.remaining c.next_byte.new.reader) xs) (sym c.in_ok-push-in-Some.ensures.items)
      (line_longer (g.S.Read.remaining c.args.reader.now) (g.S.Read.remaining c.loop-turn.reader) (g.S.Read.remaining c.next_byte.new.reader) c.loop-turn.line.items _ c.loop-turn.invariant.line (search rules) (search rules));
}

pub returns : goal.returns
returns g c =
    line_full 4096 (g.S.Read.remaining c.args.reader.now) (g.S.Read.remaining c.loop-turn.reader) c.loop-turn.line.items (search rules) c.loop-turn.invariant.line
