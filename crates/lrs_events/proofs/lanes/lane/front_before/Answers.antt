use Rattle.std.proofs.Common.{◌≡◌, ℕ, ◌+◌, ◌≤◌, true, [], length, take, sym, subst, arith}
use Rattle.lrs_events.specs.LaneLists.Order.{stand_before}
use Rattle.lrs_events.proofs.LaneLists.Fronts.{stands_is, stands_more}
use Rattle.lrs_events.proofs.lanes.lane.front_before.Goals.{then-not-stands_before, else-not-stands_before}
use Rattle.lrs_events.proofs.lanes.lane.front_before.Goals as goal

pub loop-other-init : goal.loop-other-init
loop-other-init c = record { within = omega arith; front = stands_is (length c.args.rows.now) c.args.rows.now [] (λ r s m k. absurd k) }

pub loop-other-preserved : goal.loop-other-preserved
loop-other-preserved c =
    let rows = c.args.rows.now in
    let others = c.args.others.now in
    let i = c.loop-other.other-index in
    let front = c.loop-other.front in
    let IsFront : ℕ → Type 0 = λ n. stand_before n rows (take (i + 1) others) ≡ true in
    let IsWithin : ℕ → Type 0 = λ n. n ≤ length rows in
    record {
      within = elim c.if-not-stands_before.branch [
        | then-not-stands_before w ↦ subst IsWithin (sym w.front-is) (let e = w.min-front.ensures in let h = c.loop-other.invariant.within in omega (arith, e, h))
        | else-not-stands_before w ↦ subst IsWithin (sym w.front-is) c.loop-other.invariant.within
      ];
      front = elim c.if-not-stands_before.branch [
        | then-not-stands_before w ↦
            subst IsFront (sym w.front-is)
            (stands_more front w.rows_before.result w.min-front.result i rows others c.other-item.result c.loop-other-test.true c.other-item.is c.loop-other.invariant.front w.rows_before.ensures.point.0 w.min-front.ensures)
        | else-not-stands_before w ↦
            subst IsFront (sym w.front-is)
            (stands_more front front front i rows others c.other-item.result c.loop-other-test.true c.other-item.is c.loop-other.invariant.front (c.stands_before.ensures w.if-not-stands_before.false) (omega arith))
      ];
    }
