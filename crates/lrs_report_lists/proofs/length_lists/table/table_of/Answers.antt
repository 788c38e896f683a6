use Rattle.std.proofs.Common.{subst, sym, ◌∙◌, length, eqb-true}
use Rattle.lrs_report_lists.specs.Length.Parts.{IsTable}
use Rattle.lrs_report_lists.proofs.Length.Groups.{Leads, leads_end, leads_first, leads_next}
use Rattle.lrs_report_lists.proofs.Length.Pushed.{nothing_left}
use Rattle.lrs_report_lists.proofs.length_lists.table.table_of.Goals as goal

pub loop-rest-init : goal.loop-rest-init
loop-rest-init c =
    let entries = c.args.entries.now in
    subst (Leads entries entries) (sym c.new-lengths.ensures.items) (leads_first entries c.requires.order)

pub loop-rest-preserved : goal.loop-rest-preserved
loop-rest-preserved c =
    let others = c.split_at.result.1.now in
    subst (Leads c.args.entries.now others) (sym c.in_ok-push.ensures.items)
    (leads_next c.args.entries.now c.loop-rest.rest.now c.loop-rest.lengths.items c.index-rest-0.result c.group_len-count.result c.group_length.result c.split_at.result.0.now others c.loop-rest.invariant
    c.group_len-count.ensures c.split_at.ensures.front c.split_at.ensures.back c.group_length.ensures.class c.group_length.ensures.value c.group_length.ensures.left c.group_length.ensures.right c.group_length.ensures.length
    (λ assets order known. c.group_length.ensures.assets ∙ c.in_ok-assets.ensures assets order known))

pub returns : goal.returns
returns c = λ n assets ends order known.
    let rest = c.loop-rest.rest.now in
    let none = nothing_left rest (eqb-true (length rest) 0 (sym c.loop-rest-test.ensures)) in
    subst (IsTable n assets c.args.entries.now) (sym c.from_vec.ensures) (leads_end c.args.entries.now rest c.loop-rest.lengths.items c.loop-rest.invariant none n assets ends order known)
