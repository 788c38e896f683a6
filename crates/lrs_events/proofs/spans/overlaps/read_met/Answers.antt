use Rattle.std.proofs.Common.{◌≡◌, false, [], ◌∷◌, ap, ◌∙◌}
use Rattle.std.specs.Prelude.{◌&&◌, nat_lt}
use Rattle.std.proofs.lemmas.Bool.{and_from, lt-ltb, le-ltb}
use Rattle.lrs_events.specs.Row.Removals.{is_met}
use Rattle.lrs_events.proofs.RouteSpans.Pushes.{pushed, not_pushed, second_fails, filtered_more}
use Rattle.lrs_events.proofs.spans.overlaps.read_met.Goals.{then-row-high+then-low-row+in_ok-push, else-row-high, else-row-high-via-then-row-high+else-low-row, else-row-high-via-else-row-high}
use Rattle.lrs_events.proofs.spans.overlaps.read_met.Goals as goal

pub loop-row-preserved : goal.loop-row-preserved
loop-row-preserved c =
    let low = c.args.low in
    let high = c.args.high in
    let r = c.row-item.result in
    let out = c.loop-row.found.items in
    filtered_more (is_met low high) c.args.rows.now c.loop-row.row-index r out c.if-row-high.found.items c.loop-row-test.true c.row-item.is c.loop-row.invariant
    (elim c.if-row-high.branch [
      | then-row-high+then-low-row+in_ok-push w ↦
          pushed (is_met low high r) out c.if-row-high.found.items (r ∷ [])
          (and_from (nat_lt r.from high) (nat_lt low r.to) (lt-ltb r.from high w.if-row-high.true) (lt-ltb low r.to w.if-low-row.true))
          (ap (λ z. z.items) w.found-is ∙ w.in_ok-push.ensures.items)
      | else-row-high w ↦
          let fails : is_met low high r ≡ false = elim w.else-row-high.branch [
            | else-row-high-via-then-row-high+else-low-row v ↦ second_fails (nat_lt r.from high) (nat_lt low r.to) (le-ltb low r.to v.if-low-row.false)
            | else-row-high-via-else-row-high v ↦ ap (λ b. b && nat_lt low r.to) (le-ltb r.from high v.if-row-high.false)
          ] in
          not_pushed (is_met low high r) out c.if-row-high.found.items (r ∷ []) fails (ap (λ z. z.items) w.found-is)
    ])
