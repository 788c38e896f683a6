use Rattle.std.proofs.Common.{ap, ◌++◌, ◌∙◌}
use Rattle.std.specs.Prelude.{List, ℕ}
use Rattle.std.specs.List.{flat_map}
use Rattle.lrs_image.specs.OpenLists.{image_of}
use Rattle.lrs_report_lists.specs.Lines.{gone_line}
use Rattle.lrs_report_lists.specs.Lists.{gone_header, gone_text}
use Rattle.lrs_report_lists.specs.Parts.{gone_line_of}
use Rattle.lrs_report_lists.specs.WantedRows.{is_gone_wanted}
use Rattle.lrs_report_lists.proofs.Chosen.{texts_of_chosen}
use Rattle.lrs_report_lists.proofs.Writing.{appends_last}
use Rattle.lrs_report_lists.proofs.ledger.write_gone.Goals as goal

pub returns : goal.returns
returns g c =
    let i = image_of c.args.kept.now in
    let wanted = c.args.wanted.now in
    appends_last c.write_each_part.result (g.W.Write.contents c.args.writer.now) (g.W.Write.contents c.write_all.new.self) (g.W.Write.contents c.write_each_part.new.writer) _ _ (gone_text wanted i) c.in_ok-write_all.ensures.bytes c.write_each_part.ensures
    (ap (λ (t : List ℕ). gone_header ++ t) (ap (flat_map (gone_line_of wanted i)) c.as_slice.ensures.value ∙ texts_of_chosen (is_gone_wanted wanted i.assets) (gone_line i) i.gone))
