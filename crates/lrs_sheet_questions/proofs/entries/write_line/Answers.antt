use Rattle.std.proofs.Common.{◌≡◌, ◌++◌, [], refl, sym, subst}
use Rattle.csv.proofs.WriteFacts.{appends-none}
use Rattle.lrs_report.proofs.Writing.{appends_last}
use Rattle.std.specs.Io.KnownBytes.{Appends}
use Rattle.lrs_machine.specs.Lines.{Text}
use Rattle.lrs_sheet_questions.specs.Entries.{front_of}
use Rattle.lrs_sheet_questions.specs.Kinds.{entry_word}
use Rattle.lrs_sheet_questions.specs.Passing.{told_from}
use Rattle.lrs_sheet_questions.specs.declared.stage.Stage.TheVariants.{Header, Start, Inside}
use Rattle.lrs_sheet_questions.proofs.Passing.{header-line, inside-line, start-line}
use Rattle.lrs_sheet_questions.proofs.entries.write_line.Goals as goal

pub returns-in-Header : goal.returns-in-Header
returns-in-Header g c =
    let front = front_of c.args.key (entry_word c.args.kind) in
    let line = c.args.line.now in
    let none : told_from front Header line ≡ [] = subst (λ (t : Text). told_from front Header t ≡ []) (sym c.requires.line) (header-line front line) in
    rw (c.in-Header.is, none) (appends-none (g.W.Write.contents c.args.to.now))

pub returns-in_ok-write_front-in-Start : goal.returns-in_ok-write_front-in-Start
returns-in_ok-write_front-in-Start g c =
    let front = front_of c.args.key (entry_word c.args.kind) in
    let line = c.args.line.now in
    let same : told_from front Start line ≡ front ++ line = subst (λ (t : Text). told_from front Start t ≡ front ++ t) (sym c.requires.line) (start-line front line c.requires.some) in
    rw (c.in-Start.is, same) (appends_last c.write_all.result (g.W.Write.contents c.args.to.now) (g.W.Write.contents c.write_front.new.to) (g.W.Write.contents c.write_all.new.self) front line (front ++ line) c.in_ok-write_front-in-Start.ensures c.write_all.ensures.bytes refl)

pub returns-in-Inside : goal.returns-in-Inside
returns-in-Inside g c =
    let front = front_of c.args.key (entry_word c.args.kind) in
    let line = c.args.line.now in
    let same : told_from front Inside line ≡ line = subst (λ (t : Text). told_from front Inside t ≡ t) (sym c.requires.line) (inside-line front line) in
    rw (c.in-Inside.is, same) c.write_all-in-Inside.ensures.bytes
