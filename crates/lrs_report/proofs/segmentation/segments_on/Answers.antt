use Rattle.std.proofs.Common.{◌≡◌, ◌-◌, ap, ◌∙◌, map, arith}
use Rattle.std.specs.List.{range_with_len}
use Rattle.lrs_measure.specs.Runs.{runs_from, runs_of}
use Rattle.lrs_machine.specs.Segments.{same_values, values_of}
use Rattle.lrs_report.specs.SideValues.{is_holder}
use Rattle.lrs_report.specs.Columns.{values_at}
use Rattle.lrs_report.specs.Sweep.{run_of}
use Rattle.lrs_report.proofs.Faults.{read_along}
use Rattle.lrs_report.proofs.Swept.{runs_again}
use Rattle.lrs_report.proofs.segmentation.segments_on.Goals as goal

pub returns : goal.returns
returns g c =
    let columns = c.in_ok-columns.columns.items in
    let len = c.args.len in
    let whole : len - 0 ≡ len = omega arith in
    let read = read_along (values_at columns) (values_of (g.A.KnownRows.rows c.args.assets.now) c.args.wanted.now) (is_holder c.args.spans.now c.args.side) 0 len (λ j low high. c.in_ok-columns.ensures.values j (omega (arith, high))) in
    ap (map run_of) c.in_ok-all.ensures
    ∙ runs_again (runs_from same_values 0 (map (values_at columns) (range_with_len 0 (len - 0))))
    ∙ ap (λ n. runs_of same_values (map (values_at columns) (range_with_len 0 n))) whole
    ∙ ap (runs_of same_values) read
