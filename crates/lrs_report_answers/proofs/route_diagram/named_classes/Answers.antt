use Rattle.std.proofs.Common.{arith, ◌∙◌, Some, inr, ap, sym, refl}
use Rattle.std.proofs.lemmas.Grind.{common_steps}
use Rattle.std.specs.Option.{option_map}
use Rattle.std.proofs.lemmas.Option.{slice_get-map}
use Rattle.lrs_report_answers.specs.DrawnRows.{class_named}
use Rattle.lrs_report_answers.proofs.Banded.{there}
use Rattle.lrs_report_answers.proofs.route_diagram.named_classes.Goals as goal

pub returns-in_default-clause-unknown : goal.returns-in_default-clause-unknown
returns-in_default-clause-unknown c =
    let class = class_named c.args.classes.now.rows in
    inr (
      c.loop-at.at,
      record {
        before = c.loop-at.found.items;
        known = c.loop-at.invariant;
        unknown = slice_get-map class c.args.names.now c.loop-at.at
            ∙ ap (option_map class) (there c.args.names.now c.loop-at.at c.index-names-at.result c.loop-at-test.true c.index-names-at.is)
            ∙ ap Some (sym c.class_named.ensures ∙ c.in_default.is);
      },
      refl,
    )

pub loop-at-preserved : goal.loop-at-preserved
loop-at-preserved c = grind (arith, common_steps)

pub returns : goal.returns
returns c = grind (arith, common_steps)
