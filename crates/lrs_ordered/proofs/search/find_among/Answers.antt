use Rattle.std.proofs.Common.{sym, ap, ◌∙◌}
use Rattle.std.specs.Prelude.{◌||◌}
use Rattle.std.specs.List.{find}
use Rattle.std.specs.Ordering.{is_lt, is_gt, is_eq}
use Rattle.lrs_ordered.specs.SearchedLists.{rises_by}
use Rattle.lrs_ordered.proofs.Joins.{two_at}
use Rattle.lrs_ordered.proofs.Finds.{found_in}
use Rattle.lrs_ordered.proofs.search.find_among.Goals as goal

pub find_in-requires : goal.find_in-requires
find_in-requires g c =
    let order = λ (row : g.row.T.Denot). g.T.Keyed.key_order row c.args.key.now in
    record {
      order = ap (rises_by order) (c.as_slice.ensures ∙ c.index-chunks-at.is)
          ∙ two_at (λ a b. is_lt (order a) || is_gt (order b)) c.args.chunks.now c.chunk_of-at.result c.index-chunks-at.result c.chunk_of-at.ensures.within c.requires.order;
    }

pub returns : goal.returns
returns g c =
    let order = λ (row : g.row.T.Denot). g.T.Keyed.key_order row c.args.key.now in
    let at = c.chunk_of-at.ensures in
    c.find_in.ensures
    ∙ ap (find (λ row. is_eq (order row))) (c.as_slice.ensures ∙ c.index-chunks-at.is)
    ∙ sym (found_in order c.args.chunks.now c.chunk_of-at.result c.index-chunks-at.result at.within at.front at.rear)
