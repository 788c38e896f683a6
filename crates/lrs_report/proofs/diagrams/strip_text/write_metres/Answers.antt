use Rattle.std.proofs.Common.{◌∙◌, ap, subst, ◌/◌}
use Rattle.std.specs.Fmt.{decimal, styled_decimal}
use Rattle.std.specs.Io.KnownBytes.{Appends}
use Rattle.std.specs.Prelude.{OnOk, ℕ, List}
use Rattle.lrs_report.proofs.Drawings.StripColumns.{digits_aligned, metres_aligned}
use Rattle.lrs_report.proofs.diagrams.strip_text.write_metres.Goals as goal

pub returns : goal.returns
returns g c =
    let whole = ap (λ s. styled_decimal s (c.args.millimetres / 1000)) c.laid_out.ensures ∙ digits_aligned (decimal (c.args.millimetres / 1000)) in
    subst (λ (text : List ℕ). OnOk c.write.result (Appends (g.W.Write.contents c.args.writer.now) (g.W.Write.contents c.write.new.self) text)) (metres_aligned c.args.millimetres _ whole) c.write.ensures.bytes
