use Rattle.std.proofs.Common.{◌++◌, ◌∙◌, map, append-nil, append_assoc, ap, sym}
use Rattle.std.specs.List.{flat_map}
use Rattle.lrs_machine.specs.Image.{referents_on}
use Rattle.lrs_difference.specs.Placed.{entry_of}
use Rattle.lrs_difference.proofs.referent_list.gathered.Goals as goal

pub loop-row-preserved : goal.loop-row-preserved
loop-row-preserved c =
    let before = map entry_of c.loop-row.entries.items in
    let rest = flat_map referents_on c.next.new.self in
    ap (λ es. es ++ rest) c.in_ok-push_route.ensures ∙ append_assoc before (referents_on c.in-Some.row.now) rest ∙ ap (λ es. before ++ flat_map referents_on es) (sym c.in-Some.ensures.steps) ∙ c.loop-row.invariant

pub returns : goal.returns
returns c =
    let before = map entry_of c.loop-row.entries.items in
    sym (append-nil before) ∙ ap (λ es. before ++ flat_map referents_on es) (sym c.in-None.ensures.steps.0) ∙ c.loop-row.invariant
