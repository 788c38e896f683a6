use Rattle.std.proofs.Common.{◌≡◌, ◌+◌, false, ◌<◌, ◌≤◌, length, get_or, List, subst, sym}
use Rattle.std.specs.Prelude.{is_none}
use Rattle.std.specs.List.{AllZip}
use Rattle.lrs_position.specs.declared.expression.Expr.{Expr}
use Rattle.lrs_position.specs.declared.route.Referent.{Referent}
use Rattle.lrs_position.specs.Translations.{referent_at}
use Rattle.lrs_report_answers.specs.Place.Answers.{IsPosition, targets_of}
use Rattle.lrs_report_answers.proofs.Place.Targets.{ArePositions, all_positions, is_known, one_more}
use Rattle.lrs_report_answers.proofs.places.positions.positions_of.Goals as goal

pub position_by-requires-in-loop-referent-clause-known : goal.position_by-requires-in-loop-referent-clause-known
position_by-requires-in-loop-referent-clause-known c =
    subst (λ (refs : List Referent). is_none (referent_at refs c.referent-item.result.name) ≡ false) c.as_slice-referent-items.ensures
    (is_known c.as_slice-referent-items.result.now c.loop-referent.referent-index c.referent-item.result c.loop-referent-test.true c.referent-item.is)

pub loop-referent-preserved : goal.loop-referent-preserved
loop-referent-preserved c =
    let same = c.as_slice-referent-items.ensures in
    let i = c.loop-referent.referent-index in
    let r = c.referent-item.result in
    subst (ArePositions c.args.route.now c.args.chainage (i + 1)) (sym {A = List Expr} c.in_ok-push-3.ensures.items)
    (one_more c.args.route.now c.args.chainage i r c.loop-referent.positions.items c.position_by-in-loop-referent.result (subst (λ (refs : List Referent). i < length refs) same c.loop-referent-test.true)
    (subst (λ (refs : List Referent). r ≡ get_or refs i r) same c.referent-item.is) c.loop-referent.invariant c.position_by-in-loop-referent.ensures)

pub returns : goal.returns
returns c =
    let i = c.loop-referent.referent-index in
    subst (λ (positions : List Expr). AllZip (IsPosition c.args.route.now c.args.chainage) (targets_of c.args.route.now.refs) positions) (sym c.from_vec.ensures)
    (all_positions c.args.route.now c.args.chainage i c.loop-referent.positions.items (subst (λ (refs : List Referent). length refs ≤ i) c.as_slice-referent-items.ensures c.loop-referent-test.false) c.loop-referent.invariant)
