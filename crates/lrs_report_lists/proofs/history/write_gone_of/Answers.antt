use Rattle.std.proofs.Common.{ap, List, ◌∙◌}
use Rattle.std.specs.List.{flat_map}
use Rattle.lrs_machine.specs.declared.image.Edit.{Edit}
use Rattle.lrs_image.specs.OpenLists.{image_of}
use Rattle.lrs_report_lists.specs.Lines.{left_line}
use Rattle.lrs_report_lists.specs.Lists.{gone_of}
use Rattle.lrs_report_lists.specs.Parts.{left_line_of}
use Rattle.lrs_report_lists.specs.WantedRows.{is_gone_of}
use Rattle.lrs_report_lists.proofs.Chosen.{texts_of_chosen}
use Rattle.lrs_report_lists.proofs.Writing.{as_text}
use Rattle.lrs_report_lists.proofs.history.write_gone_of.Goals as goal

pub returns : goal.returns
returns g c =
    let i = image_of c.args.kept.now in
    let asset = c.args.asset in
    as_text c.write_each_left.result _ _ _ (gone_of asset i) c.write_each_left.ensures
    (ap (λ (es : List Edit). flat_map (left_line_of asset es) c.as_slice.result.now) c.as_slice-edits.ensures.value ∙ ap (flat_map (left_line_of asset i.edits)) c.as_slice.ensures.value ∙ texts_of_chosen (is_gone_of asset) (left_line i.edits) i.gone)
