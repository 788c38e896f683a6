use Rattle.std.proofs.Common.{◌<◌, length, get_or, Some, sym, ap, ◌∙◌, arith}
use Rattle.std.specs.Ordering.{is_eq}
use Rattle.lrs_ordered.specs.SearchedLists.{none_by}
use Rattle.lrs_ordered.proofs.Finds.{find_none}
use Rattle.lrs_ordered.proofs.Removes.{filter_all, removed, found_there}
use Rattle.lrs_ordered.proofs.removal.remove_in.Goals as goal

pub returns-in-Some-clause-row : goal.returns-in-Some-clause-row
returns-in-Some-clause-row g c =
    let order = λ (row : g.row.T.Denot). g.T.Keyed.key_order row c.args.key.now in
    let chunk = c.args.chunk.now in
    let within : c.in-Some.at < length chunk = omega (arith, ap length c.as_slice.ensures, c.in-Some.ensures.within) in
    let here = ap (λ rows. is_eq (order (get_or rows c.in-Some.at c.remove.result))) (sym c.as_slice.ensures) ∙ c.in-Some.ensures.found c.remove.result in
    ap Some c.remove.ensures.row ∙ sym (found_there order chunk c.in-Some.at c.remove.result c.requires.order within here)

pub returns-in-Some-clause-rows : goal.returns-in-Some-clause-rows
returns-in-Some-clause-rows g c =
    let order = λ (row : g.row.T.Denot). g.T.Keyed.key_order row c.args.key.now in
    let chunk = c.args.chunk.now in
    let within : c.in-Some.at < length chunk = omega (arith, ap length c.as_slice.ensures, c.in-Some.ensures.within) in
    let here = ap (λ rows. is_eq (order (get_or rows c.in-Some.at c.remove.result))) (sym c.as_slice.ensures) ∙ c.in-Some.ensures.found c.remove.result in
    c.remove.ensures.rows ∙ removed order chunk c.in-Some.at c.remove.result c.requires.order within here

pub returns-in-None-clause-row : goal.returns-in-None-clause-row
returns-in-None-clause-row g c =
    let order = λ (row : g.row.T.Denot). g.T.Keyed.key_order row c.args.key.now in
    sym (find_none order c.args.chunk.now (ap (none_by order) (sym c.as_slice.ensures) ∙ c.in-None.ensures.missed))

pub returns-in-None-clause-rows : goal.returns-in-None-clause-rows
returns-in-None-clause-rows g c =
    let order = λ (row : g.row.T.Denot). g.T.Keyed.key_order row c.args.key.now in
    sym (filter_all order c.args.chunk.now (ap (none_by order) (sym c.as_slice.ensures) ∙ c.in-None.ensures.missed))
