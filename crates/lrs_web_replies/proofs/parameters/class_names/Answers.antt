use Rattle.std.proofs.Common.{refl, inr, map, ap, sym, take_all, ◌∙◌}
use Rattle.std.specs.Cow.{cow_str_bytes}
use Rattle.std.specs.List.{list_all}
use Rattle.lrs_events.specs.Names.{is_class_name}
use Rattle.lrs_web_replies.proofs.ClassNames.{not_all, one_more}
use Rattle.lrs_web_replies.proofs.parameters.class_names.Goals as goal

pub returns-in-None-clause-unread : goal.returns-in-None-clause-unread
returns-in-None-clause-unread c =
    inr (refl, not_all c.args.texts.now c.loop-text.text-index c.text-item.result c.as_bytes.result.now c.loop-text-test.true c.text-item.is (c.as_bytes.ensures.value ∙ c.as_str.ensures.value) c.in-None.ensures)

pub loop-text-init : goal.loop-text-init
loop-text-init c = (c.new-names.ensures.items, refl)

pub loop-text-preserved : goal.loop-text-preserved
loop-text-preserved c =
    let text = c.as_bytes.ensures.value ∙ c.as_str.ensures.value in
    one_more c.args.texts.now c.loop-text.text-index c.text-item.result c.in-Some.name c.loop-text.names.items c.push.new.self.items c.loop-text-test.true c.text-item.is
    (ap is_class_name (sym text) ∙ c.in-Some.ensures.0) (c.in-Some.ensures.1 ∙ text) c.in_ok-push-in-Some.ensures.items c.loop-text.invariant

pub returns-clause-read : goal.returns-clause-read
returns-clause-read c =
    let all = take_all c.loop-text.text-index c.args.texts.now c.loop-text-test.false in
    (c.from_vec.ensures ∙ c.loop-text.invariant.0 ∙ ap (map cow_str_bytes) all, ap (λ some. list_all is_class_name (map cow_str_bytes some)) (sym all) ∙ c.loop-text.invariant.1)
