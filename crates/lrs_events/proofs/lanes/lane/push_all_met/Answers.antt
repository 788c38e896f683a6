use Rattle.std.proofs.Common.{◌≡◌, ◌∙◌, ◌+◌, ◌<◌, ℕ, Bool, cond, List, [], ◌∷◌, ◌++◌, length, get_or, take, append_assoc, sym, ap}
use Rattle.std.specs.List.{filter}
use Rattle.std.proofs.lemmas.List.Elements.{filter_more}
use Rattle.std.proofs.lemmas.List.{append-nil}
use Rattle.lrs_events.specs.declared.span.Span.{Span}
use Rattle.lrs_events.specs.LaneLists.Lane.{is_met}
use Rattle.lrs_events.proofs.lanes.lane.push_all_met.Goals as goal
use Rattle.lrs_events.proofs.lanes.lane.push_all_met.Goals.{then-is_met+in_ok-push, else-is_met}

met_more : (test : Span → Bool) (rows : List Span) (i : ℕ) (r : Span) (front out new : List Span) → i < length rows → r ≡ get_or rows i r → out ≡ front ++ filter test (take i rows)
    → new ≡ out ++ cond (test r) (r ∷ []) [] → new ≡ front ++ filter test (take (i + 1) rows)
met_more test rows i r front out new h is k e =
    let met = filter test (take i rows) in
    e ∙ ap (λ z. z ++ cond (test r) (r ∷ []) []) k ∙ append_assoc front met (cond (test r) (r ∷ []) [])
    ∙ ap (λ z. front ++ z) (sym (filter_more test rows i r h ∙ ap (λ z. met ++ cond (test z) (z ∷ []) []) (sym is)))

pub loop-row-preserved : goal.loop-row-preserved
loop-row-preserved c =
    let r = c.row-item.result in
    let out = c.loop-row.out.items in
    met_more (is_met c.args.low c.args.high) c.args.rows.now c.loop-row.row-index r c.args.out.now.items out c.if-is_met.out.items c.loop-row-test.true c.row-item.is c.loop-row.invariant
    (elim c.if-is_met.branch [
      | then-is_met+in_ok-push w ↦ ap (λ v. v.items) w.out-is ∙ w.in_ok-push.ensures.items ∙ ap (λ b. out ++ cond b (r ∷ []) []) (sym w.if-is_met.true ∙ c.is_met.ensures)
      | else-is_met w ↦ ap (λ v. v.items) w.out-is ∙ sym (append-nil out) ∙ ap (λ b. out ++ cond b (r ∷ []) []) (sym w.if-is_met.false ∙ c.is_met.ensures)
    ])
