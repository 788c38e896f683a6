use Rattle.std.proofs.Common.{refl, ◌∙◌, ◌+◌, ◌++◌, ap, sym, append-nil, arith}
use Rattle.lrs_report_lists.specs.Length.Parts.{entries_of, route_length}
use Rattle.lrs_report_lists.proofs.Length.Axis.{fits_next, gathered, rows_next}
use Rattle.lrs_report_lists.proofs.length_lists.entries.all_entries.Goals as goal

pub push_route-requires-clause-rows : goal.push_route-requires-clause-rows
push_route-requires-clause-rows c = (rows_next c.in-Some.route_row.now c.next.new.self c.loop-route_row.route_row-iterator c.in-Some.ensures.steps c.loop-route_row.invariant.rows).0

pub push_route-requires-clause-fits : goal.push_route-requires-clause-fits
push_route-requires-clause-fits c =
    let start = c.loop-route_row.start in
    let e = c.in-Some.route_row.now in
    let next = fits_next start (start + route_length e) e c.next.new.self c.loop-route_row.route_row-iterator c.in-Some.ensures.steps refl c.loop-route_row.invariant.fits in
    omega (arith, next)

pub overflow_add-start : goal.overflow_add-start
overflow_add-start c =
    let start = c.loop-route_row.start in
    let e = c.in-Some.route_row.now in
    let next = fits_next start (start + route_length e) e c.next.new.self c.loop-route_row.route_row-iterator c.in-Some.ensures.steps refl c.loop-route_row.invariant.fits in
    let len = c.length-start.ensures.length in
    omega (arith, next, len)

pub loop-route_row-preserved : goal.loop-route_row-preserved
loop-route_row-preserved c =
    let start = c.loop-route_row.start in
    let e = c.in-Some.route_row.now in
    let rest = c.next.new.self in
    let left = c.loop-route_row.route_row-iterator in
    let to = ap (λ n. start + n) c.length-start.ensures.length in
    record {
      done = gathered c.args.assets.now.rows start (start + c.length-start.result) e rest left c.loop-route_row.entries.items c.push_route.new.entries.items _ c.in-Some.ensures.steps c.in_ok-push_route.ensures to c.loop-route_row.invariant.done;
      rows = (rows_next e rest left c.in-Some.ensures.steps c.loop-route_row.invariant.rows).1;
      fits = fits_next start (start + c.length-start.result) e rest left c.in-Some.ensures.steps to c.loop-route_row.invariant.fits;
    }

pub returns : goal.returns
returns c =
    let entries = c.loop-route_row.entries.items in
    sym (append-nil entries) ∙ ap (λ z. entries ++ entries_of c.args.assets.now.rows c.loop-route_row.start z) (sym c.in-None.ensures.steps.0) ∙ c.loop-route_row.invariant.done
