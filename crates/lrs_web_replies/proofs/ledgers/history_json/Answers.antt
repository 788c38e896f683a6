use Rattle.std.proofs.Common.{ℕ, List, length, codes, ap, refl, arith}
use Rattle.std.specs.List.{flat_map}
use Rattle.lrs_image.specs.OpenLists.{image_of}
use Rattle.lrs_web_replies.specs.Listings.{history_items}
use Rattle.lrs_web_replies.specs.Parts.{front_text, item_text}
use Rattle.lrs_web_replies.proofs.Listing.{behind, named}
use Rattle.lrs_web_replies.proofs.ledgers.history_json.Goals as goal

pub returns : goal.returns
returns c =
    let name = codes "history" in
    let items = history_items c.args.asset (image_of c.args.kept.now) in
    let same = ap (λ (t : List ℕ). length t) c.in_ok-bytes.ensures in
    named c.end.result _ c.len-start.result name items c.end.ensures (omega arith) (behind (front_text name) _ _ _ (flat_map item_text items) c.in_ok-bytes.ensures c.in_ok-add_history.ensures refl)
