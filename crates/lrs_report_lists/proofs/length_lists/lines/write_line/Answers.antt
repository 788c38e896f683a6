use Rattle.std.proofs.Common.{◌≡◌, ℕ, List, [], ◌∷◌, ◌++◌, append_assoc, decimal}
use Rattle.lrs_measure.specs.FractionTexts.{metres_text}
use Rattle.lrs_report_lists.specs.Lines.{csv_line}
use Rattle.lrs_report_lists.proofs.Writing.{appends_last}
use Rattle.lrs_report_lists.specs.Length.Lines.{length_line}
use Rattle.lrs_report_lists.proofs.length_lists.lines.write_line.Goals as goal

parts : (a b c d e f : List ℕ) → (a ++ 44 ∷ (b ++ 44 ∷ [])) ++ (c ++ 44 ∷ (d ++ 44 ∷ (e ++ 44 ∷ (f ++ 10 ∷ [])))) ≡ csv_line (a ∷ b ∷ c ∷ d ∷ e ∷ f ∷ [])
parts a b c d e f = simp append_assoc

pub returns : goal.returns
returns g c =
    let row = c.args.row.now in
    appends_last c.write_numbers.result (g.W.Write.contents c.args.writer.now) (g.W.Write.contents c.write_key.new.writer) (g.W.Write.contents c.write_numbers.new.writer) _ _ (length_line row) c.in_ok-write_key.ensures c.write_numbers.ensures
    (parts row.class row.value (metres_text row.left) (metres_text row.right) (metres_text row.length) (decimal row.assets))
