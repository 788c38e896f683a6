use Rattle.std.proofs.Common.{[], ◌∷◌, ◌++◌, append-nil, ap, ◌∙◌}
use Rattle.lrs_ordered.specs.SearchedLists.{joined}
use Rattle.lrs_ordered.proofs.Joins.{joined-append}
use Rattle.lrs_ordered.proofs.insertion.push_fresh.Goals as goal

pub returns-clause-rows : goal.returns-clause-rows
returns-clause-rows g c =
    let old = c.args.chunks.now.items in
    let fresh = c.push.new.self in
    ap joined c.push_reserved.ensures.items
    ∙ joined-append old (fresh ∷ [])
    ∙ ap (λ l. joined old ++ l) (append-nil fresh ∙ c.push.ensures ∙ ap (λ l. l ++ c.args.row ∷ []) c.take_spare-fresh.ensures.spare)
