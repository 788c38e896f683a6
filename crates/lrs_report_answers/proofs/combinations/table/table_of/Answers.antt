use Rattle.std.proofs.Common.{subst, sym, ◌∙◌, length, eqb-true}
use Rattle.lrs_report_answers.specs.CombinationParts.{IsTable}
use Rattle.lrs_report_answers.proofs.Combined.Groups.{Leads, leads_end, leads_first, leads_next}
use Rattle.lrs_report_answers.proofs.combinations.table.table_of.Goals as goal

pub loop-rest-init : goal.loop-rest-init
loop-rest-init c =
    let entries = c.args.entries.now in
    subst (Leads entries entries) (sym c.new-rows.ensures.items) (leads_first entries c.requires.order)

pub loop-rest-preserved : goal.loop-rest-preserved
loop-rest-preserved c =
    let others = c.split_at.result.1.now in
    let sum = c.in_ok-sum in
    subst (Leads c.args.entries.now others) (sym c.in_ok-push.ensures.items)
    (leads_next c.args.entries.now c.loop-rest.rest.now c.loop-rest.rows.items c.index-rest-0.result c.group_len-count.result sum.sum c.split_at.result.0.now others c.loop-rest.invariant
    c.group_len-count.ensures c.split_at.ensures.front c.split_at.ensures.back sum.ensures.values sum.ensures.left sum.ensures.right sum.ensures.either)

pub returns : goal.returns
returns c = λ fit.
    let rest = c.loop-rest.rest.now in
    subst (IsTable c.args.entries.now) (sym c.from_vec.ensures) (leads_end c.args.entries.now rest c.loop-rest.rows.items c.loop-rest.invariant (eqb-true (length rest) 0 (sym c.loop-rest-test.ensures)) fit)
