use Rattle.std.proofs.Common.{◌∷◌, [], codes}
use Rattle.std.specs.Prelude.{option_map, vec_items}
use Rattle.serde_json.specs.Written.{compact_text}
use Rattle.lrs_web_replies.specs.Parts.{front_text, name_text}
use Rattle.lrs_web_replies.specs.Trials.{count_data, member_text, named_data}
use Rattle.lrs_web_replies.proofs.TrialText.{five_added}
use Rattle.lrs_web_replies.proofs.trial.add_place.Goals as goal

pub returns : goal.returns
returns c =
    let advice = c.args.advice.now in
    five_added c.add_letter.result c.args.bytes.now.items (front_text (codes "line")) (compact_text (count_data advice.line)) (member_text (codes "key") (named_data (option_map vec_items advice.key)))
    (name_text (codes "column")) (compact_text (named_data (option_map (λ letter. letter ∷ []) advice.column)))
    c.add_front.new.bytes.items c.add_line_number.new.bytes.items c.add_named.new.bytes.items c.add_name.new.bytes.items c.add_letter.new.bytes.items
    c.in_ok-add_front.ensures c.in_ok-add_line_number.ensures c.in_ok-add_named.ensures c.in_ok-add_name.ensures c.add_letter.ensures
