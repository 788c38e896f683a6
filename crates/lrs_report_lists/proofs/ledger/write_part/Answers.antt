use Rattle.std.proofs.Common.{ap, List, ◌∙◌}
use Rattle.std.specs.Prelude.{Option}
use Rattle.lrs_events.specs.declared.class.Asset.{Asset}
use Rattle.lrs_machine.specs.declared.image.Edit.{Edit}
use Rattle.lrs_image.specs.OpenLists.{image_of}
use Rattle.lrs_image.proofs.Tables.{assets_in_order}
use Rattle.lrs_report_lists.specs.Lines.{asset_numbered, edit_numbered}
use Rattle.lrs_report_lists.specs.Parts.{gone_line_if, gone_line_of}
use Rattle.lrs_report_lists.proofs.Writing.{as_text}
use Rattle.lrs_report_lists.proofs.ledger.write_part.Goals as goal

pub asset_numbered-asset-requires : goal.asset_numbered-asset-requires
asset_numbered-asset-requires g c = record { order = assets_in_order (image_of c.args.kept.now) c.requires.sound }

pub returns : goal.returns
returns g c =
    let i = image_of c.args.kept.now in
    let gone = c.args.gone.now in
    let wanted = c.args.wanted.now in
    as_text c.write_part_if.result _ _ _ (gone_line_of wanted i gone) c.write_part_if.ensures
    (ap (λ (a : Option Asset). gone_line_if wanted (edit_numbered c.as_slice.result.now gone.part.edit) a gone) c.asset_numbered-asset.ensures
    ∙ ap (λ (es : List Edit). gone_line_if wanted (edit_numbered es gone.part.edit) (asset_numbered i.assets gone.part.asset) gone) c.as_slice.ensures.value)
