use Rattle.std.proofs.Common.{ap, ◌∙◌, not}
use Rattle.lrs_measure.specs.Lists.{each_two}
use Rattle.lrs_measure.specs.Texts.{same_name}
use Rattle.lrs_measure.proofs.Filters.{each_two-filter}
use Rattle.lrs_ordered.proofs.Keys.{other_names}
use Rattle.lrs_position.specs.declared.route.Referent.{Referent}
use Rattle.lrs_position.specs.Routes.{referent_before}
use Rattle.lrs_image.proofs.Named.{others-step, others-end}
use Rattle.lrs_image.proofs.open_route.remove_named.Goals as goal

pub loop-name-preserved : goal.loop-name-preserved
loop-name-preserved c =
    let rows = c.loop-name.refs.rows in
    let name = c.name-item.result in
    let left = c.remove.ensures.rows ∙ other_names (λ (r : Referent). r.name) name rows in
    record {
      order = ap (each_two referent_before) left ∙ each_two-filter referent_before (λ (r : Referent). not (same_name r.name name)) rows c.loop-name.invariant.order;
      rest = others-step (λ (r : Referent). r.name) c.args.names.now rows c.remove.new.self.rows _ c.loop-name.name-index name c.loop-name-test.true c.name-item.is left c.loop-name.invariant.rest;
      room = c.remove.ensures.room ∙ c.loop-name.invariant.room;
    }

pub returns-clause-refs : goal.returns-clause-refs
returns-clause-refs c = others-end (λ (r : Referent). r.name) c.args.names.now c.loop-name.refs.rows _ c.loop-name.name-index c.loop-name-test.false c.loop-name.invariant.rest
