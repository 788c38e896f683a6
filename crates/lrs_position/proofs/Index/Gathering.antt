-- Pieces inserted one after another.
use Rattle.std.proofs.Common.{ℕ, ◌≡◌, ◌+◌, ◌<◌, ◌≤◌, Bool, true, false, if◌then◌else◌, List, [], ◌∷◌, ◌++◌, take, length, get_or, Option, Some, None, refl, sym, ap, subst, ◌∙◌, arith, ⊎_elim}
use Rattle.std.specs.Prelude.{◌||◌, is_some}
use Rattle.std.specs.List.{list_any, AllByRecursion}
use Rattle.std.specs.FinMap.{get}
use Rattle.std.proofs.lemmas.Bool.{cases_Bool, both_ways, false_from_ne_true, or_parts}
use Rattle.std.proofs.lemmas.List.{take_more, take_all}
use Rattle.std.proofs.lemmas.List.Folds.{list_any-append, list_any_at}
use Rattle.std.proofs.lemmas.List.Concat.{flat_map-append}
use Rattle.std.proofs.lemmas.List.Elements.{All-from_recursion}
use Rattle.lrs_measure.specs.Texts.{Name}
use Rattle.lrs_element.specs.declared.link.Piece.{Piece}
use Rattle.lrs_element.specs.declared.link.Ground.{Ground}
use Rattle.lrs_element.specs.Course.{Millimetre, expand, course_of, runs_over, is_at, meets}
use Rattle.lrs_element.specs.Pieces.{IsFilled}
use Rattle.lrs_position.specs.declared.ground_index.LinkStretch.{LinkStretch}
use Rattle.lrs_position.specs.Index.Ground.{Stretches, route_over, is_shared, is_run_once, IsStretch, begins_at, HasGained, IsWhole, AreWhole}
use Rattle.lrs_position.proofs.Index.Sharing.{which_millimetre, some_millimetre, runs_over_from, is_taken}
use Rattle.lrs_position.proofs.Index.Pieces.{passing, course_at, any_course, begins_where, once_only}
use Rattle.lrs_position.proofs.Index.Cutting.{each, both}

pub runs_over-append : (xs ys : List Piece) (m : Millimetre) → runs_over (course_of (xs ++ ys)) m ≡ (runs_over (course_of xs) m || runs_over (course_of ys) m)
runs_over-append xs ys m = ap (λ (zs : List Ground). runs_over zs m) (flat_map-append expand xs ys) ∙ list_any-append (is_at m) (course_of xs) (course_of ys)

or_other : {X : Type 0} (a b : Bool) (x y : X) → (if b then x else (if a then x else y)) ≡ (if a || b then x else y)
or_other true true x y = refl
or_other true false x y = refl
or_other false b x y = refl

pub gained_none : (s : Stretches) (route : Name) → HasGained s s route []
gained_none s route = record { over = λ m. refl; stretches = tt; begun = tt; others = λ q h. refl }

module _ (route : Name) (a b c : Stretches) (xs ys : List Piece) (g : HasGained a b route xs) (h : HasGained b c route ys) where
  -- a stretch of the first ones stays
  stays : (p : Piece) → IsStretch b route p → IsStretch c route p
  stays p s = h.others (p.link, p.from) (false_from_ne_true _ (λ t.
      let q = passing (begins_at (p.link, p.from)) (λ p. get b (p.link, p.from) ≡ None) ys h.begun t in
      absurd (cc (sym (ap (get b) (begins_where (p.link, p.from) q.it q.passes) ∙ q.holds) ∙ s)))) ∙ s

  -- and where a later one begins none began
  none_before : (p : Piece) → get b (p.link, p.from) ≡ None → get a (p.link, p.from) ≡ None
  none_before p n = sym (g.others (p.link, p.from) (false_from_ne_true _ (λ t.
      let q = passing (begins_at (p.link, p.from)) (IsStretch b route) xs g.stretches t in
      absurd (cc (sym (ap (get b) (begins_where (p.link, p.from) q.it q.passes) ∙ q.holds) ∙ n))))) ∙ n

  pub gained_both : HasGained a c route (xs ++ ys)
  gained_both = record {
    over = λ m.
        h.over m
        ∙ ap (λ (o : Option Name). if runs_over (course_of ys) m then Some route else o) (g.over m)
        ∙ or_other (runs_over (course_of xs) m) (runs_over (course_of ys) m) (Some route) (route_over a m)
        ∙ ap (λ (t : Bool). if t then Some route else route_over a m) (sym (runs_over-append xs ys m));
    stretches = both (IsStretch c route) xs ys (each (IsStretch b route) (IsStretch c route) xs stays g.stretches) h.stretches;
    begun = both (λ p. get a (p.link, p.from) ≡ None) xs ys g.begun (each (λ p. get b (p.link, p.from) ≡ None) (λ p. get a (p.link, p.from) ≡ None) ys none_before h.begun);
    others = λ q n. let o = or_parts (list_any (begins_at q) xs) (list_any (begins_at q) ys) (sym (list_any-append (begins_at q) xs ys) ∙ n) in h.others q o.1 ∙ g.others q o.0;
  }

module _ (old mid : Stretches) (route : Name) (ps : List Piece) (i : ℕ) (p d : Piece) (lt : i < length ps) (is : p ≡ get_or ps i d) where
  pub gained_next : (new : Stretches) → HasGained old mid route (take i ps) → HasGained mid new route (p ∷ []) → HasGained old new route (take (i + 1) ps)
  gained_next new g h = subst (HasGained old new route) (sym (take_more ps i d lt ∙ ap (λ (x : Piece). take i ps ++ x ∷ []) (sym is))) (gained_both route old mid new (take i ps) (p ∷ []) g h)

  pub next_filled : AllByRecursion IsFilled ps → IsFilled p
  next_filled f = subst IsFilled (sym is) (All-from_recursion IsFilled ps f i d lt)

  -- the next piece is free
  pub next_free : is_run_once (course_of ps) ≡ true → is_shared old (course_of ps) ≡ false → HasGained old mid route (take i ps) → is_shared mid (expand p) ≡ false
  next_free once free g = false_from_ne_true _ (λ t.
      let w = which_millimetre (is_taken mid) p t in
      let m : Millimetre = (p.link, w.0) in
      ⊎_elim
      (λ (r : runs_over (course_of (take i ps)) m ≡ true).
      absurd (once_only ps i d m once lt r (ap (λ (x : Piece). runs_over (expand x) m) (sym is) ∙ runs_over_from p p.link w.0 refl w.1 w.2)))
      (λ (n : runs_over (course_of (take i ps)) m ≡ false).
      let was : is_taken old m ≡ true = sym (ap (λ (o : Option Name). is_some o) (g.over m ∙ ap (λ (b : Bool). if b then Some route else route_over old m) n)) ∙ w.3 in
      let here : is_shared old (expand p) ≡ true = some_millimetre (is_taken old) p w.0 w.1 w.2 was in
      absurd (both_ways _ free (course_at (λ g. is_taken old (g.link, g.mm)) ps i d lt (ap (λ (x : Piece). is_shared old (expand x)) (sym is) ∙ here))))
      (cases_Bool (runs_over (course_of (take i ps)) m)))

pub gained_all : (old new : Stretches) (route : Name) (ps : List Piece) (i : ℕ) → length ps ≤ i → HasGained old new route (take i ps) → HasGained old new route ps
gained_all old new route ps i le h = subst (HasGained old new route) (take_all i ps le) h

-- ---- what shares no millimetre with them stays whole

module _ (old new : Stretches) (route : Name) (ps : List Piece) (g : HasGained old new route ps) where
  pub gained_whole : (others : List Piece) → meets (course_of others) (course_of ps) ≡ false → AreWhole old others → AreWhole new others
  gained_whole [] apart w = tt
  gained_whole (o ∷ os) apart w =
      let u = or_parts (meets (expand o) (course_of ps)) (meets (course_of os) (course_of ps)) (sym (list_any-append (λ x. runs_over (course_of ps) (x.link, x.mm)) (expand o) (course_of os)) ∙ apart) in
      (one u.0 w.0, gained_whole os u.1 w.1)
    where
      one : meets (expand o) (course_of ps) ≡ false → IsWhole old o → IsWhole new o
      one n w = record {
        begins = λ m a s h le lt b e. w.begins m a s (was m a s h le lt b e) le lt b e;
        ends = λ m a s h le lt b e. w.ends m a s (was m a s h le lt b e) le lt b e;
      }
        where
          was : (m a : ℕ) (s : LinkStretch) → get new (o.link, a) ≡ Some s → a ≤ m → m < s.end → o.from ≤ m → m < o.to → get old (o.link, a) ≡ Some s
          was m a s h le lt b e = sym (g.others (o.link, a) (false_from_ne_true _ (λ t.
              let q = passing (begins_at (o.link, a)) (IsStretch new route) ps g.stretches t in
              let i = begins_where (o.link, a) q.it q.passes in
              let same : Some s ≡ Some (record { end = q.it.to; route = route }) = sym h ∙ ap (get new) i ∙ q.holds in
              let is : ◌≡◌ {A = LinkStretch} s (record { end = q.it.to; route = route }) = cc same in
              let f : s.end ≡ q.it.to = ap (λ (x : LinkStretch). x.end) is in
              let c : a ≡ q.it.from = ap (λ (x : Millimetre). x.1) i in
              let r : runs_over (expand q.it) (o.link, m) ≡ true = runs_over_from q.it o.link m (sym (ap (λ (x : Millimetre). x.0) i)) (omega (arith, c, le)) (omega (arith, f, lt)) in
              let over : runs_over (course_of ps) (o.link, m) ≡ true = any_course (is_at (o.link, m)) ps ∙ list_any_at (λ p. runs_over (expand p) (o.link, m)) ps q.place q.it q.inside (ap (λ (x : Piece). runs_over (expand x) (o.link, m)) q.is ∙ r) in
              absurd (both_ways _ n (some_millimetre (runs_over (course_of ps)) o m b e over))))) ∙ h
