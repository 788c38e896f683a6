use Rattle.std.proofs.Common.{ap, sym, ◌∙◌}
use Rattle.std.specs.List.{flat_map}
use Rattle.std.specs.Option.{option_copied}
use Rattle.lrs_difference.specs.declared.line.Sign.TheVariants.{Added}
use Rattle.lrs_difference.specs.Lines.{line_text}
use Rattle.lrs_report_lists.proofs.Writing.{leads_end}
use Rattle.lrs_difference.proofs.Passing.{head_none}
use Rattle.lrs_difference.proofs.merge.write_added.Goals as goal

pub returns : goal.returns
returns g c =
    let text = flat_map (λ y. line_text (record { sign = Added; item = g.T.Entry.item y })) in
    leads_end (g.W.Write.contents c.args.writer.now) (g.W.Write.contents c.loop-first.writer) (text c.loop-first.rest) (text c.args.rest.now) c.loop-first.invariant
    (ap text (head_none c.loop-first.rest (sym c.first.ensures ∙ ap option_copied c.in_default.is)))
