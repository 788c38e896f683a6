use Rattle.std.proofs.Common.{◌≡◌, ◌<◌, ◌∷◌, ◌++◌, ℕ, List, length, rules, subst}
use Rattle.std.specs.List.{flat_map}
use Rattle.lrs_cli_tasks.specs.Columns.{field_at, picked_line}
use Rattle.lrs_report.proofs.Writing.{appends_last}
use Rattle.lrs_cli_tasks.proofs.Picking.{line_next}
use Rattle.lrs_cli_tasks.proofs.picked.write_line.Goals as goal

pub returns-in_ok-write_all-in-Some : goal.returns-in_ok-write_all-in-Some
returns-in_ok-write_all-in-Some g c =
    let line = c.args.line.now in
    let first = c.in-Some.first.now in
    let others = c.in-Some.others.now in
    let same : first ∷ others ≡ c.args.places.now = search rules in
    let some : 0 < length line = search rules in
    appends_last c.write_others.result _ _ _ (field_at line first) (flat_map (λ place. 44 ∷ field_at line place) others) (picked_line c.args.places.now line)
    (rw c.field_at.ensures at c.in_ok-write_all-in-Some.ensures.bytes) c.write_others.ensures
    (subst (λ (ps : List ℕ). field_at line first ++ flat_map (λ place. 44 ∷ field_at line place) others ≡ picked_line ps line) same (line_next first others line some))
