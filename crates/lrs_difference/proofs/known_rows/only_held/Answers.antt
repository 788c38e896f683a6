use Rattle.std.proofs.Common.{ap, ◌∙◌}
use Rattle.std.specs.List.{flat_map}
use Rattle.lrs_image.specs.OpenLists.{image_of}
use Rattle.lrs_image.proofs.Tables.{assets_in_order}
use Rattle.lrs_difference.specs.Held.{held_in}
use Rattle.lrs_difference.specs.HeldRows.{known_row}
use Rattle.lrs_difference.proofs.KnownRows.{alone_as, only_stretches, told_as}
use Rattle.lrs_difference.proofs.known_rows.only_held.Goals as goal

pub known_rows-requires : goal.known_rows-requires
known_rows-requires c = record { order = assets_in_order (image_of c.args.one.now) c.requires.sound }

pub returns : goal.returns
returns c =
    let a = image_of c.args.one.now in
    let b = image_of c.args.other.now in
    told_as c.known_rows.result _ _
    (λ rows e.
    only_stretches a b c.requires.sound c.in_ok-alone.alone.items
    (alone_as c.deref.result.now (held_in a) c.deref-2.result.now (held_in b) c.in_ok-alone.alone.items (c.deref.ensures.value ∙ c.in_ok-left.ensures) (c.deref-2.ensures.value ∙ c.in_ok-right.ensures) c.in_ok-alone.ensures)
    rows.rows (e ∙ ap (flat_map (known_row a.assets)) c.deref-3.ensures.value))
    c.known_rows.ensures
