use Rattle.std.proofs.Common.{◌≡◌, List, true, subst, sym}
use Rattle.lrs_inventory.specs.Prelude.{Referent, is_route}
use Rattle.lrs_inventory.proofs.NewCourse.{fits_alone}
use Rattle.lrs_verbs.proofs.verbs.route.new_entry.Goals as goal

pub invariant_of-route : goal.invariant_of-route
invariant_of-route c =
    let course = c.args.course in
    let marks = c.args.marks in
    record { fits = subst (λ (refs : List Referent). is_route course marks refs ≡ true) (sym c.new.ensures) (fits_alone course marks c.len-len.ensures.limits c.requires.fit) }
