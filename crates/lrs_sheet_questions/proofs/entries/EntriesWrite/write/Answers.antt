use Rattle.std.proofs.Common.{◌≡◌, ◌<◌, ℕ, arith, length, sym, subst, take, ◌∙◌}
use Rattle.std.proofs.lemmas.Bool.Decides.{nat_tests}
use Rattle.lrs_sheet_questions.specs.Entries.{front_of}
use Rattle.lrs_sheet_questions.specs.FirstLine.{line_length}
use Rattle.lrs_sheet_questions.specs.Kinds.{entry_word}
use Rattle.lrs_sheet_questions.proofs.Passing.{one-line, some-line}
use Rattle.lrs_sheet_questions.proofs.Story.{has-grown, stage-grown}
use Rattle.lrs_sheet_questions.proofs.entries.EntriesWrite.write.Goals as goal

pub write_line-requires-clause-line : goal.write_line-requires-clause-line
write_line-requires-clause-line g c =
    let bytes = c.args.buf.now in
    subst (λ (n : ℕ). take n bytes ≡ take (line_length (take n bytes)) (take n bytes)) (sym c.first_line-length.ensures.long) (one-line bytes)

pub write_line-requires-clause-some : goal.write_line-requires-clause-some
write_line-requires-clause-some g c =
    let bytes = c.args.buf.now in
    let some : 0 < length bytes = grind (arith, nat_tests, c.is_empty.ensures, c.if-is_empty.false) in
    subst (λ (n : ℕ). 0 < length (take n bytes)) (sym c.first_line-length.ensures.long) (some-line bytes some)

pub invariant_of-self-2 : goal.invariant_of-self-2
invariant_of-self-2 g c =
    let self = c.args.self.now in
    let bytes = c.args.buf.now in
    let line = c.first_line-length in
    let story = self.given.text in
    let grown = c.note.new.self.text in
    let front = front_of self.key (entry_word self.kind) in
    let now = g.W.Write.contents self.to.now in
    let told = self.told c.if-self.false in
    let some : 0 < length bytes = grind (arith, nat_tests, c.is_empty.ensures, c.if-is_empty.false) in
    record {
      staged = c.behind_line-self.ensures ∙ stage-grown self.to.ghost_name front now story grown self.stage line.result.1 line.result.0 bytes told c.note.ensures some self.staged line.ensures.long line.ensures.whole;
      told = λ broken. has-grown self.to.ghost_name front (take line.result.0 bytes) now story grown told c.note.ensures self.stage (g.W.Write.contents c.write_line.new.to) self.staged c.in_ok-write_line.ensures;
    }
