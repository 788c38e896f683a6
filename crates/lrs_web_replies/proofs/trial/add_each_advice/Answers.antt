use Rattle.lrs_web_replies.specs.Parts.{item_text}
use Rattle.lrs_web_replies.specs.Trials.{advice_data}
use Rattle.std.proofs.Common.{Some, append-nil, ap, sym, take_all, ◌++◌, ◌∙◌}
use Rattle.std.specs.List.{flat_map}
use Rattle.lrs_report_lists.proofs.Writing.{appends_next}
use Rattle.lrs_web_replies.proofs.trial.add_each_advice.Goals as goal

pub loop-one-preserved : goal.loop-one-preserved
loop-one-preserved c =
    appends_next (λ one. item_text (advice_data one)) c.loop-one.one-index c.args.advice.now c.one-item.result (Some c.args.bytes.now.items) (Some c.loop-one.bytes.items) (Some c.add_advice.new.bytes.items) c.loop-one-test.true c.one-item.is c.loop-one.invariant c.in_ok-add_advice.ensures

pub loop-one-init : goal.loop-one-init
loop-one-init c = sym (append-nil c.args.bytes.now.items)

pub returns : goal.returns
returns c = c.loop-one.invariant ∙ ap (λ some. c.args.bytes.now.items ++ flat_map (λ one. item_text (advice_data one)) some) (take_all c.loop-one.one-index c.args.advice.now c.loop-one-test.false)
