use Rattle.std.proofs.Common.{◌++◌, ap, ◌∙◌}
use Rattle.std.specs.List.{flat_map}
use Rattle.lrs_difference.specs.Sweep.{edges_of}
use Rattle.lrs_difference.proofs.SortedEdges.{gathered}
use Rattle.lrs_difference.proofs.alone.edges_in_order.Goals as goal

pub returns : goal.returns
returns c =
    gathered c.args.left.now c.args.right.now c.push_all_edges.new.edges.items c.push_all_edges-2.new.edges.items c.sort.new.edges.items
    (c.in_ok-push_all_edges.ensures ∙ ap (λ zs. zs ++ flat_map edges_of c.args.left.now) c.new-edges.ensures.items) c.in_ok-push_all_edges-2.ensures c.sort.ensures.same c.sort.ensures.order
