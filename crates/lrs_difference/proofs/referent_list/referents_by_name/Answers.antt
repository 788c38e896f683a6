use Rattle.lrs_image.specs.OpenLists.{image_of}
use Rattle.std.proofs.Common.{map, ap, ◌∙◌}
use Rattle.lrs_difference.specs.Placed.{entry_of}
use Rattle.lrs_difference.proofs.Gathered.{chunks_as, have_names, listed}
use Rattle.lrs_difference.proofs.referent_list.referents_by_name.Goals as goal

pub sort-requires : goal.sort-requires
sort-requires c = have_names (image_of c.args.kept.now) c.requires.sound _ c.in_ok-entries.ensures

pub returns : goal.returns
returns c =
    chunks_as c.in_chunks.result c.sort.new.entries.items _ c.in_chunks.ensures (ap (map entry_of) c.sort.ensures ∙ listed (image_of c.args.kept.now) _ c.in_ok-entries.ensures)
