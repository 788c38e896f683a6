use Rattle.std.proofs.Common.{map, ap, ◌∙◌}
use Rattle.std.specs.List.{filter_map}
use Rattle.lrs_machine.specs.Image.{referent_entry}
use Rattle.lrs_difference.specs.Placed.{entry_of}
use Rattle.lrs_difference.proofs.Gathered.{each_entry, pushed_as}
use Rattle.lrs_difference.proofs.referent_list.push_route.Goals as goal

pub returns : goal.returns
returns c =
    let course = c.args.row.now.route.course in
    pushed_as c.push_referents.result (map entry_of c.push_referents.new.entries.items) (map entry_of c.args.entries.now.items) _ _ c.push_referents.ensures
    (each_entry course c.as_slice.result.now ∙ ap (filter_map (referent_entry course)) c.as_slice.ensures)
