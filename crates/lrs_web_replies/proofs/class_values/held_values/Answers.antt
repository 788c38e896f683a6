use Rattle.std.proofs.Common.{List, ap, map, take_all, ◌∙◌}
use Rattle.std.proofs.lemmas.List.{map_more}
use Rattle.serde_json.specs.Data.{Data}
use Rattle.serde_json.proofs.Views.{view-Array}
use Rattle.serde_json.specs.View.{view}
use Rattle.lrs_web_replies.specs.JsonParts.{list}
use Rattle.lrs_web_replies.specs.Overlay.{held_data}
use Rattle.lrs_web_replies.proofs.class_values.held_values.Goals as goal

pub loop-one-preserved : goal.loop-one-preserved
loop-one-preserved c =
    let more = map_more held_data c.args.held.now c.loop-one.one-index c.one-item.result c.loop-one-test.true in
    cc (more, c.one-item.is, c.loop-one.invariant, c.in_ok-push_held.ensures)

pub loop-one-init : goal.loop-one-init
loop-one-init c = ap (map view) c.new-values.ensures.items

pub returns : goal.returns
returns c = view-Array c.loop-one.values ∙ ap (λ (ds : List Data). list ds) (c.loop-one.invariant ∙ ap (map held_data) (take_all c.loop-one.one-index c.args.held.now c.loop-one-test.false))
