use Rattle.std.proofs.Common.{ap, List, ◌∙◌}
use Rattle.std.specs.List.{flat_map}
use Rattle.lrs_machine.specs.declared.image.Edit.{Edit}
use Rattle.lrs_image.specs.OpenLists.{image_of}
use Rattle.lrs_report_lists.specs.Lines.{entered_line}
use Rattle.lrs_report_lists.specs.Lists.{entered_of}
use Rattle.lrs_report_lists.specs.Parts.{entered_line_of}
use Rattle.lrs_report_lists.specs.WantedRows.{is_part_of}
use Rattle.lrs_report_lists.proofs.Chosen.{texts_of_chosen}
use Rattle.lrs_report_lists.proofs.Writing.{as_text}
use Rattle.lrs_report_lists.proofs.history.write_entered_of.Goals as goal

pub returns : goal.returns
returns g c =
    let i = image_of c.args.kept.now in
    let asset = c.args.asset in
    as_text c.write_each_entered.result _ _ _ (entered_of asset i) c.write_each_entered.ensures
    (ap (λ (es : List Edit). flat_map (entered_line_of asset es) c.as_slice.result.now) c.as_slice-edits.ensures.value ∙ ap (flat_map (entered_line_of asset i.edits)) c.as_slice.ensures.value ∙ texts_of_chosen (is_part_of asset) (entered_line i.edits) i.entered)
