use Rattle.std.proofs.Common.{ap, sym, subst, ◌∙◌}
use Rattle.std.specs.Option.{option_map}
use Rattle.lrs_image.specs.Change.{CanBecome, CanChangeRoute}
use Rattle.lrs_image.specs.OpenLists.{row_of_open, routes_with, HasOpened}
use Rattle.lrs_image.proofs.Named.{same_some}
use Rattle.lrs_image.proofs.routes.put_changed.Goals as goal

pub finish-requires-clause-can : goal.finish-requires-clause-can
finish-requires-clause-can c =
    let taken = subst (λ change. HasOpened change c.args.opened c.args.routes.now.rows) c.in-Some-Some.is-1 c.requires.opened in
    let can = subst (λ change. CanChangeRoute change (routes_with c.args.opened c.args.routes.now.rows)) c.in-Some-Some.is-1 c.requires.can in
    subst (CanBecome c.in-Some-Some.change) (same_some can.row (row_of_open c.in-Some-Some.opened) (sym can.found ∙ sym taken.found ∙ ap (option_map row_of_open) c.in-Some-Some.is-0)) can.becomes
