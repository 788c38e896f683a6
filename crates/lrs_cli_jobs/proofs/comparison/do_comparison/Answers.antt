use Rattle.lrs_cli_jobs.specs.Jobs.{printed}
use Rattle.lrs_cli_jobs.proofs.Comparisons.{of_first}
use Rattle.lrs_cli_jobs.proofs.comparison.do_comparison.Goals as goal

pub returns-in-Ok-Plain : goal.returns-in-Ok-Plain
returns-in-Ok-Plain g c = of_first _ _ c.args.options.expected (g.W.Write.contents c.args.to) c.in-Ok-Plain.plain.image (printed g.W.Write.contents c.compare_expected-given.result) (rw c.in-Ok-Plain.field-0-is at c.in-Ok-Plain.ensures.source) c.compare_expected-given.ensures

pub returns-in-Ok-Seen : goal.returns-in-Ok-Seen
returns-in-Ok-Seen g c = of_first _ _ c.args.options.expected (g.W.Write.contents c.args.to) c.in-Ok-Seen.seen.image (printed g.W.Write.contents c.compare_expected-given-in-Ok-Seen.result) (rw c.in-Ok-Seen.field-0-is at c.in-Ok-Seen.ensures.source) c.compare_expected-given-in-Ok-Seen.ensures

pub returns-in-Ok-Kept : goal.returns-in-Ok-Kept
returns-in-Ok-Kept g c = of_first _ _ c.args.options.expected (g.W.Write.contents c.args.to) c.in-Ok-Kept.kept.image (printed g.W.Write.contents c.compare_expected-given-in-Ok-Kept.result) (rw c.in-Ok-Kept.field-0-is at c.in-Ok-Kept.ensures.source) c.compare_expected-given-in-Ok-Kept.ensures
