use Rattle.std.proofs.Common.{◌<◌, ◌^◌, length, subst}
use Rattle.lrs_report.proofs.Swept.{few_segments}
use Rattle.lrs_report.proofs.sweep.Segments.again.Goals as goal

pub returns-clause-few : goal.returns-clause-few
returns-clause-few g c = subst (λ ss. length ss < 2 ^ 64) c.self.view_is (few_segments c.self.inside.first c.self.inside.columns.items c.self.inside.len c.self.invariant)
