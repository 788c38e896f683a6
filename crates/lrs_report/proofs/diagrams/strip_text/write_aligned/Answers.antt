use Rattle.std.proofs.Common.{ap, ◌++◌, length}
use Rattle.std.specs.Prelude.{List, ℕ}
use Rattle.lrs_report.specs.Drawings.Strips.{aligned}
use Rattle.lrs_report.proofs.Writing.{appends_last}
use Rattle.lrs_report.proofs.Drawings.StripColumns.{spaces_before}
use Rattle.lrs_report.proofs.diagrams.strip_text.write_aligned.Goals as goal

pub returns : goal.returns
returns g c =
    appends_last c.write_all-2.result (g.W.Write.contents c.args.writer.now) (g.W.Write.contents c.write_all.new.self) (g.W.Write.contents c.write_all-2.new.self) _ c.args.text.now (aligned c.args.text.now)
    c.in_ok-write_all.ensures.bytes c.write_all-2.ensures.bytes (ap (λ (z : List ℕ). z ++ c.args.text.now) (spaces_before (length c.args.text.now) c.min.result c.min.ensures))
