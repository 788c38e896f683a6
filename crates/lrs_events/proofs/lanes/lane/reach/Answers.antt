use Rattle.std.proofs.Common.{◌≡◌, ℕ, List, sym, subst, true, false}
use Rattle.std.specs.Prelude.{nat_le}
use Rattle.std.specs.List.Sorted.{IsNonDecreasingBy, IsPartitionPoint}
use Rattle.lrs_events.proofs.LaneLists.Lanes.{greatest_rises, starts_rise, met_slice, met_nothing}
use Rattle.lrs_events.proofs.lanes.lane.reach.Goals as goal

pub ended-start-requires : goal.ended-start-requires
ended-start-requires c = subst (λ (z : List ℕ). IsNonDecreasingBy (λ n. n) z) (sym c.requires.greatest) (greatest_rises 0 c.args.rows.now)

pub begun-end-requires : goal.begun-end-requires
begun-end-requires c = starts_rise c.args.rows.now c.requires.order

pub returns-then-start-end : goal.returns-then-start-end
returns-then-start-end c =
    let low = c.args.low in
    let start = c.ended-start.result in
    sym (met_slice c.args.rows.now low c.args.high start c.begun-end.result
    (subst (λ (z : List ℕ). IsPartitionPoint (λ n. nat_le n low ≡ true) (λ n. nat_le n low ≡ false) z start) c.requires.greatest c.ended-start.ensures.point)
    c.begun-end.ensures.point c.if-start-end.true)

pub returns-else-start-end : goal.returns-else-start-end
returns-else-start-end c =
    let low = c.args.low in
    let start = c.ended-start.result in
    sym (met_nothing c.args.rows.now low c.args.high start c.begun-end.result
    (subst (λ (z : List ℕ). IsPartitionPoint (λ n. nat_le n low ≡ true) (λ n. nat_le n low ≡ false) z start) c.requires.greatest c.ended-start.ensures.point)
    c.begun-end.ensures.point c.if-start-end.false)
