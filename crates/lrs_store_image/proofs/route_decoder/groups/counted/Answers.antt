use Rattle.std.proofs.Common.{◌≡◌, ◌<◌, ◌+◌, ◌∙◌, ◌++◌, ◌∷◌, [], suc, length, take, Some, sym, ap, subst, rules, arith}
use Rattle.std.proofs.lemmas.Grind.{common_steps}
use Rattle.lrs_store_tables.specs.Contents.Decoders.{Numbered, counted}
use Rattle.lrs_store_image.proofs.DecodedRoutes.Grouped.{counted_fails, counted_more}
use Rattle.lrs_store_image.proofs.route_decoder.groups.counted.Goals as goal

pub returns-then-row-n : goal.returns-then-row-n
returns-then-row-n g c =
    let rows = c.args.rows.now in
    let i = c.loop-row.row-index in
    let bound : i < length rows = search rules in
    let own = c.loop-row.invariant.1 in
    let nought : 0 + i ≡ i = omega arith in
    let view : c.row-item.result.n ≡ c.row.inside.n = search rules in
    sym (counted_fails 0 i rows c.row-item.result c.loop-row.found.items bound c.loop-row.invariant.0 (λ e. c.if-row-n.true (sym view ∙ ap (λ (r : Numbered g.row.T.Denot). r.n) c.row-item.is ∙ e ∙ nought ∙ sym own)))

pub loop-row-preserved : goal.loop-row-preserved
loop-row-preserved g c =
    let rows = c.args.rows.now in
    let i = c.loop-row.row-index in
    let bound : i < length rows = search rules in
    let own = c.loop-row.invariant.1 in
    let nought : 0 + i ≡ i = omega arith in
    let view : c.row-item.result.n ≡ c.row.inside.n = search rules in
    let here = ap (λ (r : Numbered g.row.T.Denot). r.n) (sym c.row-item.is) ∙ view ∙ c.if-row-n.false ∙ own ∙ sym nought in
    let more = counted_more 0 i rows c.row-item.result c.loop-row.found.items bound c.loop-row.invariant.0 here in
    let next : i + 1 ≡ suc i = omega arith in
    let said : c.row-item.result.said ≡ c.row.inside.said = search rules in (
      subst (λ n. counted 0 (take n rows) ≡ Some c.push.new.self.items) (sym next)
          (more ∙ ap (λ r. Some (c.loop-row.found.items ++ r ∷ [])) (ap (λ (r : Numbered g.row.T.Denot). r.said) (sym c.row-item.is) ∙ said) ∙ ap (λ l. Some l) (sym c.in_ok-push.ensures.items)),
      omega (arith, own),
    )

pub returns : goal.returns
returns g c = grind (arith, common_steps)
