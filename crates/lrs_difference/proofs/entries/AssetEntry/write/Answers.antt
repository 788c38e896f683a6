use Rattle.std.proofs.Common.{ap, ◌∙◌}
use Rattle.lrs_report_lists.proofs.Writing.{appends_last}
use Rattle.lrs_machine.specs.Image.{asset_entry}
use Rattle.lrs_difference.specs.declared.line.Item.TheVariants as item
use Rattle.lrs_difference.specs.Difference.{facts_of}
use Rattle.lrs_difference.specs.Lines.{line_text, sign_text}
use Rattle.lrs_difference.proofs.Words.{sign_first}
use Rattle.lrs_difference.proofs.entries.AssetEntry.write.Goals as goal

pub returns : goal.returns
returns g c =
    let x = item.Asset (facts_of (asset_entry c.args.self.now)) in
    appends_last c.write_asset.result (g.W.Write.contents c.args.writer.now) (g.W.Write.contents c.write_sign.new.writer) (g.W.Write.contents c.write_asset.new.writer) _ _ (line_text (record { sign = c.args.sign; item = x })) c.in_ok-write_sign.ensures c.write_asset.ensures
    (sign_first (sign_text c.args.sign) (item.Asset c.facts_of.result) ∙ ap (λ f. line_text (record { sign = c.args.sign; item = item.Asset f })) c.facts_of.ensures)
