use Rattle.std.proofs.Common.{ℕ, List, length, codes, ap, ◌∙◌, arith, filter, map}
use Rattle.lrs_image.specs.OpenLists.{image_of}
use Rattle.lrs_web_replies.specs.Parts.{front_text, item_text}
use Rattle.std.specs.List.{flat_map}
use Rattle.lrs_report_lists.specs.WantedRows.{is_gone_wanted}
use Rattle.lrs_web_replies.specs.Parts.{gone_part}
use Rattle.lrs_web_replies.specs.Listings.{gone_data}
use Rattle.lrs_web_replies.proofs.Listing.{behind, named, of_chosen}
use Rattle.lrs_web_replies.proofs.ledgers.gone_json.Goals as goal

pub returns : goal.returns
returns c =
    let i = image_of c.args.kept.now in
    let name = codes "gone" in
    let w = c.args.wanted.now in
    let items = map (gone_data i) (filter (is_gone_wanted w i.assets) i.gone) in
    let same = ap (λ (t : List ℕ). length t) c.in_ok-bytes.ensures in
    named c.end.result _ c.len-start.result name items c.end.ensures (omega arith) (behind (front_text name) _ _ _ (flat_map item_text items) c.in_ok-bytes.ensures c.in_ok-add_parts.ensures (ap (flat_map (gone_part w i)) c.as_slice.ensures.value ∙ of_chosen (is_gone_wanted w i.assets) (gone_data i) i.gone))
