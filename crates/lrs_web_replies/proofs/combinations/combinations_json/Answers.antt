use Rattle.std.proofs.Common.{ℕ, List, length, codes, ap, arith, map}
use Rattle.std.specs.List.{flat_map}
use Rattle.lrs_web_replies.specs.Combinations.{combination_data}
use Rattle.lrs_web_replies.specs.Parts.{front_text, item_text}
use Rattle.lrs_web_replies.proofs.Listing.{behind, named, of_each}
use Rattle.lrs_web_replies.proofs.combinations.combinations_json.Goals as goal

pub returns : goal.returns
returns c =
    let name = codes "combinations" in
    let items = map combination_data c.args.combinations.now in
    let same = ap (λ (t : List ℕ). length t) c.in_ok-bytes.ensures in
    named c.end.result _ c.len-start.result name items c.end.ensures (omega arith)
    (behind (front_text name) _ _ _ (flat_map item_text items) c.in_ok-bytes.ensures c.in_ok-add_combinations.ensures (of_each combination_data c.args.combinations.now))
