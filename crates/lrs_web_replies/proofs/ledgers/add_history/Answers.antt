use Rattle.std.proofs.Common.{Some, List, map, filter, ap, sym, ◌++◌, ◌∙◌}
use Rattle.std.specs.List.{flat_map}
use Rattle.std.proofs.lemmas.List.Concat.{flat_map-append}
use Rattle.lrs_machine.specs.declared.image.Edit.{Edit}
use Rattle.lrs_image.specs.OpenLists.{image_of}
use Rattle.lrs_report_lists.specs.WantedRows.{is_gone_of, is_part_of}
use Rattle.lrs_report_lists.proofs.Writing.{appends_last}
use Rattle.lrs_web_replies.specs.Listings.{entered_data, history_items, left_data}
use Rattle.lrs_web_replies.specs.Parts.{entered_part, item_text, left_part}
use Rattle.lrs_web_replies.proofs.Listing.{of_chosen}
use Rattle.lrs_web_replies.proofs.ledgers.add_history.Goals as goal

pub returns : goal.returns
returns c =
    let i = image_of c.args.kept.now in
    let asset = c.args.asset in
    let entered = map (entered_data i.edits) (filter (is_part_of asset) i.entered) in
    let left = map (left_data i.edits) (filter (is_gone_of asset) i.gone) in
    let first = ap (λ (es : List Edit). flat_map (entered_part asset es) c.as_slice.result.now) c.as_slice-edits.ensures.value
    ∙ ap (flat_map (entered_part asset i.edits)) c.as_slice.ensures.value ∙ of_chosen (is_part_of asset) (entered_data i.edits) i.entered in
    let second = ap (λ (es : List Edit). flat_map (left_part asset es) c.as_slice-2.result.now) c.as_slice-edits.ensures.value
    ∙ ap (flat_map (left_part asset i.edits)) c.as_slice-2.ensures.value ∙ of_chosen (is_gone_of asset) (left_data i.edits) i.gone in
    appends_last c.add_each_left.result (Some c.args.bytes.now.items) (Some c.add_each_entered.new.bytes.items) (Some c.add_each_left.new.bytes.items) _ _ (flat_map item_text (history_items asset i)) c.in_ok-add_each_entered.ensures c.add_each_left.ensures
    (ap (λ t. t ++ flat_map (left_part asset c.as_slice-edits.result.now) c.as_slice-2.result.now) first ∙ ap (λ t. flat_map item_text entered ++ t) second ∙ sym (flat_map-append item_text entered left))
