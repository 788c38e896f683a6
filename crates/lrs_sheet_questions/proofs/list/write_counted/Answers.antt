use Rattle.std.proofs.Common.{ℕ, ◌∷◌, [], refl, subst}
use Rattle.std.specs.Fmt.{decimal}
use Rattle.std.specs.Io.KnownBytes.{Appends}
use Rattle.lrs_report.proofs.Writing.{appends_last}
use Rattle.lrs_sheet_questions.specs.Entries.{behind_first, count_line, entry_lines, list_lines}
use Rattle.lrs_sheet_questions.specs.Kinds.{entry_word, list_word}
use Rattle.lrs_sheet_questions.specs.Lines.{fields_line}
use Rattle.lrs_sheet_questions.specs.Lists.{list_text}
use Rattle.lrs_sheet_questions.proofs.list.write_counted.Goals as goal

pub returns : goal.returns
returns g c =
    let key = c.args.key in
    let list = list_word c.args.kind in
    let entry = entry_word c.args.kind in
    let text = list_text c.args.told.now in
    let start = g.W.Write.contents c.args.writer.now in
    let middle = g.W.Write.contents c.write_count.new.writer in
    let counted : Appends start middle (count_line key list (behind_first text)) = subst (λ (n : ℕ). Appends start middle (fields_line (key ∷ list ∷ decimal n ∷ []))) c.requires c.in_ok-write_count.ensures in
    appends_last c.write_entries.result start middle (g.W.Write.contents c.write_entries.new.to) (count_line key list (behind_first text)) (entry_lines key entry (behind_first text)) (list_lines key list entry text) counted c.write_entries.ensures refl
