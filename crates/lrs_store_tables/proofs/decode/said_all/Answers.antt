use Rattle.std.proofs.Common.{◌≡◌, ◌<◌, ◌+◌, ◌∙◌, length, take, Some, sym, ap, subst, rules}
use Rattle.lrs_store_tables.specs.Contents.Decoders.{each_of}
use Rattle.lrs_store_tables.proofs.SaidRows.{each_of-more, each_of-at}
use Rattle.lrs_store_tables.proofs.decode.said_all.Goals as goal

pub returns-in_default : goal.returns-in_default
returns-in_default g c =
    let rows = c.args.rows.now in
    let i = c.loop-row.row-index in
    let bound : i < length rows = search rules in
    sym (each_of-at g.T.Said.said rows i c.row-item.result bound (ap g.T.Said.said (sym c.row-item.is) ∙ sym c.said.ensures ∙ c.in_default.is))

pub loop-row-preserved : goal.loop-row-preserved
loop-row-preserved g c =
    let rows = c.args.rows.now in
    let i = c.loop-row.row-index in
    let bound : i < length rows = search rules in
    let more = each_of-more g.T.Said.said rows i c.row-item.result c.in-Some.value c.loop-row.found.items bound c.loop-row.invariant (ap g.T.Said.said (sym c.row-item.is) ∙ sym c.said.ensures ∙ c.in-Some.is) in
    subst (λ zs. each_of g.T.Said.said (take (i + 1) rows) ≡ Some zs) (sym c.in_ok-push.ensures.items) more
