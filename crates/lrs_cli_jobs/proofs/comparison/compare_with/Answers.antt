use Rattle.std.proofs.Common.{refl}
use Rattle.lrs_cli_jobs.proofs.Comparisons.{told}
use Rattle.lrs_cli_jobs.proofs.comparison.compare_with.Goals as goal

pub returns-in-Ok-Plain : goal.returns-in-Ok-Plain
returns-in-Ok-Plain g c = told g.W.Write.contents _ _ c.args.options.expected (g.W.Write.contents c.args.to) c.args.before.now.image c.in-Ok-Plain.plain.image c.do_difference-given.result refl (rw c.in-Ok-Plain.field-0-is at c.in-Ok-Plain.ensures.source) c.requires.expected c.do_difference-given.ensures.ended c.do_difference-given.ensures.failed

pub returns-in-Ok-Seen : goal.returns-in-Ok-Seen
returns-in-Ok-Seen g c = told g.W.Write.contents _ _ c.args.options.expected (g.W.Write.contents c.args.to) c.args.before.now.image c.in-Ok-Seen.seen.image c.do_difference-given-in-Ok-Seen.result refl (rw c.in-Ok-Seen.field-0-is at c.in-Ok-Seen.ensures.source) c.requires.expected c.do_difference-given-in-Ok-Seen.ensures.ended c.do_difference-given-in-Ok-Seen.ensures.failed

pub returns-in-Ok-Kept : goal.returns-in-Ok-Kept
returns-in-Ok-Kept g c = told g.W.Write.contents _ _ c.args.options.expected (g.W.Write.contents c.args.to) c.args.before.now.image c.in-Ok-Kept.kept.image c.do_difference-given-in-Ok-Kept.result refl (rw c.in-Ok-Kept.field-0-is at c.in-Ok-Kept.ensures.source) c.requires.expected c.do_difference-given-in-Ok-Kept.ensures.ended c.do_difference-given-in-Ok-Kept.ensures.failed
