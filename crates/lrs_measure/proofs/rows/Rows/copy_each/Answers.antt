use Rattle.std.proofs.Common.{◌≡◌, ◌≤◌, ◌<◌, ◌+◌, ℕ, List, [], ◌∷◌, ◌++◌, length, get_or, take, sym, ap, subst, ◌∙◌}
use Rattle.std.proofs.lemmas.List.{take_more, take_all}
use Rattle.lrs_measure.proofs.rows.Rows.copy_each.Goals as goal

copied_more : {X : Type 0} (xs seen : List X) (i : ℕ) (x y : X) (out new : List X) → seen ≡ xs → i < length seen → x ≡ get_or seen i x → y ≡ x → out ≡ take i xs → new ≡ out ++ y ∷ [] → new ≡ take (i + 1) xs
copied_more xs seen i x y out new same h is copy k e =
    e ∙ ap (λ z. z ++ y ∷ []) (k ∙ ap (take i) (sym same)) ∙ ap (λ z. take i seen ++ z ∷ []) (copy ∙ is) ∙ sym (take_more seen i x h) ∙ ap (take (i + 1)) same

pub loop-item-preserved : goal.loop-item-preserved
loop-item-preserved g c =
    copied_more c.args.self.now c.deref-item-items.result.now c.loop-item.item-index c.item-item.result c.in_ok-copy.field-0 c.loop-item.items.items c.push.new.self.items (c.deref-item-items.ensures.value ∙ c.self.view_is) c.loop-item-test.true
    c.item-item.is c.in_ok-copy.ensures c.loop-item.invariant c.in_ok-push.ensures.items

pub returns : goal.returns
returns g c =
    c.loop-item.invariant
    ∙ take_all c.loop-item.item-index c.args.self.now (subst (λ (z : List g.row.T.Denot). length z ≤ c.loop-item.item-index) (c.deref-item-items.ensures.value ∙ c.self.view_is) c.loop-item-test.false)
