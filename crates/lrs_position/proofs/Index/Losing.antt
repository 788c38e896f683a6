-- Stretches that are taken out where they were put in.
use Rattle.std.proofs.Common.{ℕ, ◌≡◌, ◌+◌, ◌<◌, ◌≤◌, Bool, true, false, cond, List, [], ◌∷◌, ◌++◌, take, length, get_or, Option, Some, None, refl, sym, ap, subst, ◌∙◌, ⊎_elim}
use Rattle.std.specs.Prelude.{◌||◌}
use Rattle.std.specs.List.{list_any}
use Rattle.std.specs.Ordering.{eq_by_cmp}
use Rattle.std.specs.FinMap.{remove, get, get-remove, same_map}
use Rattle.std.proofs.lemmas.Bool.{cases_Bool}
use Rattle.std.proofs.lemmas.List.{take_more, take_all}
use Rattle.std.proofs.lemmas.List.Folds.{list_any-append}
use Rattle.lrs_measure.specs.Texts.{Name}
use Rattle.lrs_element.specs.declared.link.Piece.{Piece}
use Rattle.lrs_element.specs.Course.{Millimetre}
use Rattle.lrs_position.specs.declared.ground_index.LinkStretch.{LinkStretch}
use Rattle.lrs_position.specs.Index.Ground.{Stretches, millimetre_cmp, begins_at, HasGained}
use Rattle.lrs_position.specs.Index.Stretches.{AreApart}
use Rattle.lrs_position.proofs.Index.Order.{total, exact}
use Rattle.lrs_position.proofs.Index.Pieces.{passing, begins_is, begins_where}

was_there : (b : Bool) (o : Option LinkStretch) (x : LinkStretch) → cond b None o ≡ Some x → (b ≡ false) × (o ≡ Some x)
was_there true o x h = absurd (cc h)
was_there false o x h = (refl, h)

pub apart_less : (old : Stretches) (k : Millimetre) → AreApart old → AreApart (remove old k)
apart_less old k apart = record {
  filled = λ l a s h. apart.filled l a s (was (l, a) s h);
  apart = λ l a c s t h g lt. apart.apart l a c s t (was (l, a) s h) (was (l, c) t g) lt;
}
  where
    was : (q : Millimetre) (s : LinkStretch) → get (remove old k) q ≡ Some s → get old q ≡ Some s
    was q s h = (was_there (eq_by_cmp millimetre_cmp q k) (get old q) s (sym (get-remove total old k q) ∙ h)).1

-- The stretches where these pieces begin are out.
pub record IsWithout (old new : Stretches) (ps : List Piece) : Type 0 where
  pub at : (q : Millimetre) → get new q ≡ cond (list_any (begins_at q) ps) None (get old q)

pub without_none : (s : Stretches) → IsWithout s s []
without_none s = record { at = λ q. refl }

out_twice : (a b : Bool) (o : Option LinkStretch) → cond b None (cond a None o) ≡ cond (a || (b || false)) None o
out_twice true true o = refl
out_twice true false o = refl
out_twice false true o = refl
out_twice false false o = refl

pub without_next : (old mid new : Stretches) (ps : List Piece) (i : ℕ) (p d : Piece) → i < length ps → p ≡ get_or ps i d → IsWithout old mid (take i ps) → new ≡ remove mid (p.link, p.from) → IsWithout old new (take (i + 1) ps)
without_next old mid new ps i p d lt is h e = record {
  at = λ q.
      let one = begins_at q p in
      ap (λ (s : Stretches). get s q) e
      ∙ get-remove total mid (p.link, p.from) q
      ∙ ap (λ (b : Bool). cond b None (get mid q)) (sym (begins_is q p))
      ∙ ap (cond one None) (h.at q)
      ∙ out_twice (list_any (begins_at q) (take i ps)) one (get old q)
      ∙ ap (λ (b : Bool). cond b None (get old q)) (sym (ap (list_any (begins_at q)) (take_more ps i d lt ∙ ap (λ (x : Piece). take i ps ++ x ∷ []) (sym is)) ∙ list_any-append (begins_at q) (take i ps) (p ∷ [])));
}

pub without_all : (old new : Stretches) (ps : List Piece) (i : ℕ) → length ps ≤ i → IsWithout old new (take i ps) → IsWithout old new ps
without_all old new ps i le h = subst (IsWithout old new) (take_all i ps le) h

-- what gained the pieces is again as it was
pub undone : (before old new : Stretches) (route : Name) (ps : List Piece) → HasGained before old route ps → IsWithout old new ps → new ≡ before
undone before old new route ps g out = same_map total exact new before (λ q. out.at q ∙ ⊎_elim
    (λ (t : list_any (begins_at q) ps ≡ true).
    let p = passing (begins_at q) (λ p. get before (p.link, p.from) ≡ None) ps g.begun t in
    ap (λ (b : Bool). cond b None (get old q)) t ∙ sym (ap (get before) (begins_where q p.it p.passes) ∙ p.holds))
    (λ (f : list_any (begins_at q) ps ≡ false). ap (λ (b : Bool). cond b None (get old q)) f ∙ g.others q f)
    (cases_Bool (list_any (begins_at q) ps)))
