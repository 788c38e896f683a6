use Rattle.std.proofs.Common.{◌≡◌, ◌++◌, List, ℕ, OnOk, codes, subst}
use Rattle.std.specs.Prelude.{option_map, vec_items}
use Rattle.serde_json.specs.Written.{compact_text}
use Rattle.lrs_web_replies.specs.Parts.{name_text}
use Rattle.lrs_web_replies.specs.Trials.{member_text, named_data, text_data}
use Rattle.lrs_web_replies.proofs.TrialText.{four_added}
use Rattle.lrs_web_replies.proofs.trial.add_words.Goals as goal

pub returns : goal.returns
returns c =
    let advice = c.args.advice.now in
    four_added c.add_shown.result c.args.bytes.now.items (member_text (codes "value") (named_data (option_map vec_items advice.value))) (member_text (codes "wanted") (named_data (option_map vec_items advice.wanted)))
    (name_text (codes "text")) (compact_text (text_data advice.text.items))
    c.add_named.new.bytes.items c.add_named-2.new.bytes.items c.add_name.new.bytes.items c.add_shown.new.bytes.items
    c.in_ok-add_named.ensures c.in_ok-add_named-2.ensures c.in_ok-add_name.ensures
    (subst (λ (t : List ℕ). OnOk c.add_shown.result (c.add_shown.new.bytes.items ≡ c.add_name.new.bytes.items ++ compact_text (text_data t))) c.as_slice.ensures.value c.add_shown.ensures)
