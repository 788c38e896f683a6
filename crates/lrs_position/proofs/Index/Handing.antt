-- Ground that another route gets, or none.
use Rattle.std.proofs.Common.{ℕ, ◌≡◌, ◌+◌, ◌<◌, ◌≤◌, Bool, true, false, if◌then◌else◌, List, [], ◌∷◌, ◌++◌, take, length, get_or, Option, Some, None, refl, sym, ap, subst, ◌∙◌, arith, ⊎_elim, ◌⊎◌, inl, inr, append-nil}
use Rattle.std.specs.Prelude.{◌||◌, nat_eq, option_and_then, option_map}
use Rattle.std.specs.Option.{option_and}
use Rattle.std.specs.FinMap.{get}
use Rattle.std.proofs.lemmas.Bool.{cases_lt, cases_Bool, both_ways, eq-eqb, eqb-true}
use Rattle.std.proofs.lemmas.List.{take_more, take_all}
use Rattle.lrs_measure.specs.Texts.{Name}
use Rattle.lrs_element.specs.declared.link.Piece.{Piece}
use Rattle.lrs_element.specs.declared.link.Ground.{Ground}
use Rattle.lrs_element.specs.Course.{Millimetre, expand, course_of, runs_over}
use Rattle.lrs_position.specs.declared.ground_index.LinkStretch.{LinkStretch}
use Rattle.lrs_position.specs.Index.Ground.{Stretches, route_over, IsWhole, StaysWhole}
use Rattle.lrs_position.specs.Index.Stretches.{AreApart, IsLast, AreParts, handed}
use Rattle.lrs_position.proofs.Index.Over.{over_gives, over_stretch, same_answer, no_answer}
use Rattle.lrs_position.proofs.Index.Sharing.{runs_over_from, runs_over_gives}
use Rattle.lrs_position.proofs.Index.Gathering.{runs_over-append}

within_or : (l a b k x : ℕ) → ((k ≡ l) × (a ≤ x) × (x < b)) ⊎ (k ≡ l → a ≤ x → x < b → ⊥)
within_or l a b k x = ⊎_elim
    (λ (t : nat_eq k l ≡ true). ⊎_elim
    (λ (before : x < a). inr (λ e ge lt. absurd (omega arith)))
    (λ (ge : a ≤ x). ⊎_elim
    (λ (lt : x < b). inl (eqb-true k l t, ge, lt))
    (λ (behind : b ≤ x). inr (λ e ge lt. absurd (omega arith)))
    (cases_lt x b))
    (cases_lt x a))
    (λ (f : nat_eq k l ≡ false). inr (λ e ge lt. absurd (both_ways _ f (eq-eqb k l e))))
    (cases_Bool (nat_eq k l))

-- The stretches of the link that begin from one edge on and before another have the other route, or are out.
pub record IsHanded (old new : Stretches) (l from to : ℕ) (route : Option Name) : Type 0 where
  pub within : (x : ℕ) → from ≤ x → x < to → get new (l, x) ≡ option_and_then (handed route) (get old (l, x))
  pub others : (k x : ℕ) → (k ≡ l → from ≤ x → x < to → ⊥) → get new (k, x) ≡ get old (k, x)

pub handed_first : (s : Stretches) (l to : ℕ) (route : Option Name) → IsHanded s s l to to route
handed_first s l to route = record { within = λ x ge lt. absurd (omega arith); others = λ k x n. refl }

module _ (old mid : Stretches) (l edge to : ℕ) (route : Option Name) (h : IsHanded old mid l edge to route) where
  not_yet : (k x : ℕ) → x < edge → get mid (k, x) ≡ get old (k, x)
  not_yet k x lt = h.others k x (λ e ge lt'. absurd (omega arith))

  nothing : (x : ℕ) → x < edge → get mid (l, x) ≡ None → get mid (l, x) ≡ option_and_then (handed route) (get old (l, x))
  nothing x lt none = none ∙ ap (option_and_then (handed route)) (sym none ∙ not_yet l x lt)

  pub handed_more : (new : Stretches) (begin : ℕ) (s : LinkStretch) → edge ≤ to → IsLast mid l edge begin s → get new (l, begin) ≡ handed route s → ((m : Millimetre) → (m ≡ (l, begin) → ⊥) → get new m ≡ get mid m) → IsHanded old new l begin to route
  handed_more new begin s le last here there = record {
    within = λ x ge lt. ⊎_elim
        (λ (before : x < edge). ⊎_elim
        (λ (behind : begin < x).
        there (l, x) (λ i. let e : x ≡ begin = ap (λ (q : Millimetre). q.1) i in absurd (omega (arith, e, behind)))
        ∙ nothing x before (no_answer (get mid (l, x)) (λ t g. let n = last.last x t g before in absurd (omega (arith, n, behind)))))
        (λ (at : x ≤ begin).
        let e : begin ≡ x = omega arith in
        let was : get old (l, begin) ≡ Some s = sym (not_yet l begin last.before) ∙ last.stretch in
        ap (λ (n : ℕ). get new (l, n)) (sym e) ∙ here ∙ ap (option_and_then (handed route)) (sym was ∙ ap (λ (n : ℕ). get old (l, n)) e))
        (cases_lt begin x))
        (λ (done : edge ≤ x).
        there (l, x) (λ i. let e : x ≡ begin = ap (λ (q : Millimetre). q.1) i in let b = last.before in absurd (omega (arith, e, done, b)))
        ∙ h.within x done lt)
        (cases_lt x edge);
    others = λ k x n.
        there (k, x) (λ i. let e : x ≡ begin = ap (λ (q : Millimetre). q.1) i in let b = last.before in n (ap (λ (q : Millimetre). q.0) i) (omega (arith, e)) (omega (arith, e, b, le)))
        ∙ h.others k x (λ e ge lt. let b = last.before in n e (omega (arith, b, ge)) lt);
  }

  pub handed_last : (from : ℕ) → (edge ≡ to) ⊎ (from ≤ edge) → ((a : ℕ) → from ≤ a → a < edge → get mid (l, a) ≡ None) → IsHanded old mid l from to route
  handed_last from reached none = record {
    within = λ x ge lt. ⊎_elim
        (λ (before : x < edge). nothing x before (none x ge before))
        (λ (done : edge ≤ x). h.within x done lt)
        (cases_lt x edge);
    others = λ k x n. h.others k x (λ e ge lt. ⊎_elim (λ (all : edge ≡ to). absurd (omega (arith, all, ge, lt))) (λ (le : from ≤ edge). n e (omega (arith, ge, le)) lt) reached);
  }

-- ---- a piece whose stretches are handed over

handed_gives : (route : Option Name) (o : Option LinkStretch) (t : LinkStretch) → option_and_then (handed route) o ≡ Some t → (s : LinkStretch) × (o ≡ Some s) × (t.end ≡ s.end) × (route ≡ Some t.route)
handed_gives route None t h = absurd (cc h)
handed_gives None (Some s) t h = absurd (cc h)
handed_gives (Some r) (Some s) t h =
    let j : ◌≡◌ {A = LinkStretch} (record { end = s.end; route = r }) t = cc h in
    (s, refl, sym (ap (λ (x : LinkStretch). x.end) j), ap (λ (x : LinkStretch). Some x.route) j)

and_some : (o route : Option Name) (x : Name) → option_and o route ≡ Some x → (y : Name) × (o ≡ Some y) × (route ≡ Some x)
and_some None route x h = absurd (cc h)
and_some (Some y) route x h = (y, refl, h)

module _ (old new : Stretches) (p : Piece) (route : Option Name) (h : IsHanded old new p.link p.from p.to route) where
  -- what begins there began there before, and ended there
  was : (k x : ℕ) (t : LinkStretch) → get new (k, x) ≡ Some t → (s : LinkStretch) × (get old (k, x) ≡ Some s) × (t.end ≡ s.end)
  was k x t g = ⊎_elim
      (λ inside.
      let e = handed_gives route (get old (p.link, x)) t (sym (h.within x inside.1 inside.2) ∙ ap (λ (n : ℕ). get new (n, x)) (sym inside.0) ∙ g) in
      (e.0, ap (λ (n : ℕ). get old (n, x)) inside.0 ∙ e.1, e.2))
      (λ outside. (t, sym (h.others k x outside) ∙ g, refl))
      (within_or p.link p.from p.to k x)

  pub parts_handed : AreParts old new
  parts_handed k x t g = let w = was k x t g in record { from = x; before = w.0; was = w.1; begins = omega arith; ends = omega (arith, w.2) }

  pub apart_handed : AreApart old → AreApart new
  apart_handed apart = record {
    filled = λ k x t g. let w = was k x t g in let f = apart.filled k x w.0 w.1 in omega (arith, f, w.2);
    apart = λ k x y t u g g' lt. let w = was k x t g in let v = was k y u g' in let n = apart.apart k x y w.0 v.0 w.1 v.1 lt in omega (arith, n, w.2);
  }

  module _ (apart : AreApart old) (w : IsWhole old p) where
    over_within : (m : ℕ) → p.from ≤ m → m < p.to → route_over new (p.link, m) ≡ option_and (route_over old (p.link, m)) route
    over_within m ge lt = same_answer (route_over new (p.link, m)) (option_and (route_over old (p.link, m)) route)
        (λ r e.
        let o = over_gives new p.link m r e in
        ⊎_elim
        (λ inside.
        let g = handed_gives route (get old (p.link, o.from)) o.stretch (sym (h.within o.from inside.1 inside.2) ∙ o.is) in
        ap (λ (y : Option Name). option_and y route) (over_stretch old p.link m o.from g.0 apart g.1 o.begins (omega (arith, g.2, o.ends)))
        ∙ g.3 ∙ ap (λ (x : Name). Some x) o.route)
        (λ outside.
        let g = sym (h.others p.link o.from outside) ∙ o.is in
        absurd (outside refl (w.begins m o.from o.stretch g o.begins o.ends ge lt) (omega (arith, o.begins, lt))))
        (within_or p.link p.from p.to p.link o.from))
        (λ r e.
        let u = and_some (route_over old (p.link, m)) route r e in
        let o = over_gives old p.link m u.0 u.1 in
        over_stretch new p.link m o.from (record { end = o.stretch.end; route = r }) (apart_handed apart)
        (h.within o.from (w.begins m o.from o.stretch o.is o.begins o.ends ge lt) (omega (arith, o.begins, lt))
        ∙ ap (option_and_then (handed route)) o.is
        ∙ ap (λ (x : Option Name). handed x o.stretch) u.2)
        o.begins o.ends)

    -- a stretch with a millimetre beside the piece does not begin within it
    beside : (k m x : ℕ) (s : LinkStretch) → (k ≡ p.link → p.from ≤ m → m < p.to → ⊥) → get old (k, x) ≡ Some s → x ≤ m → m < s.end → k ≡ p.link → p.from ≤ x → x < p.to → ⊥
    beside k m x s outside g le lt e ge before =
        let f = apart.filled k x s g in
        let n = w.ends x x s (ap (λ (n : ℕ). get old (n, x)) (sym e) ∙ g) (omega arith) f ge before in
        outside e (omega (arith, ge, le)) (omega (arith, lt, n))

    over_beside : (k m : ℕ) → (k ≡ p.link → p.from ≤ m → m < p.to → ⊥) → route_over new (k, m) ≡ route_over old (k, m)
    over_beside k m outside = same_answer (route_over new (k, m)) (route_over old (k, m))
        (λ r e.
        let o = over_gives new k m r e in
        let g = was k o.from o.stretch o.is in
        let n = beside k m o.from g.0 outside g.1 o.begins (omega (arith, g.2, o.ends)) in
        over_stretch old k m o.from o.stretch apart (sym (h.others k o.from n) ∙ o.is) o.begins o.ends ∙ ap (λ (x : Name). Some x) o.route)
        (λ r e.
        let o = over_gives old k m r e in
        let n = beside k m o.from o.stretch outside o.is o.begins o.ends in
        over_stretch new k m o.from o.stretch (apart_handed apart) (h.others k o.from n ∙ o.is) o.begins o.ends ∙ ap (λ (x : Name). Some x) o.route)

    pub over_handed : (m : Millimetre) → route_over new m ≡ (if runs_over (expand p) m then option_and (route_over old m) route else route_over old m)
    over_handed m = ⊎_elim
        (λ (t : runs_over (expand p) m ≡ true).
        let r = runs_over_gives p m.0 m.1 t in
        ap (λ (n : ℕ). route_over new (n, m.1)) (sym r.0)
        ∙ over_within m.1 r.1 r.2
        ∙ ap (λ (n : ℕ). option_and (route_over old (n, m.1)) route) r.0
        ∙ sym (ap (λ (b : Bool). if b then option_and (route_over old m) route else route_over old m) t))
        (λ (f : runs_over (expand p) m ≡ false).
        over_beside m.0 m.1 (λ e ge lt. absurd (both_ways _ f (runs_over_from p m.0 m.1 (sym e) ge lt)))
        ∙ sym (ap (λ (b : Bool). if b then option_and (route_over old m) route else route_over old m) f))
        (cases_Bool (runs_over (expand p) m))

-- ---- pieces one after another

-- The ground of the pieces that a route ran over has the other route, or none.
pub record AreHanded (old new : Stretches) (ps : List Piece) (route : Option Name) : Type 0 where
  pub over : (m : Millimetre) → route_over new m ≡ (if runs_over (course_of ps) m then option_and (route_over old m) route else route_over old m)
  pub others : StaysWhole old new

pub handed_none : (s : Stretches) (route : Option Name) → AreHanded s s [] route
handed_none s route = record { over = λ m. refl; others = λ ps w. w }

and_twice : (a b : Bool) (o route : Option Name) → (if b then option_and (if a then option_and o route else o) route else (if a then option_and o route else o)) ≡ (if a || b then option_and o route else o)
and_twice true true None route = refl
and_twice true true (Some x) None = refl
and_twice true true (Some x) (Some y) = refl
and_twice true false o route = refl
and_twice false b o route = refl

pub handed_next : (old mid new : Stretches) (ps : List Piece) (i : ℕ) (p d : Piece) (route : Option Name) → i < length ps → p ≡ get_or ps i d → AreHanded old mid (take i ps) route → ((m : Millimetre) → route_over new m ≡ (if runs_over (expand p) m then option_and (route_over mid m) route else route_over mid m)) → StaysWhole mid new → AreHanded old new (take (i + 1) ps) route
handed_next old mid new ps i p d route lt is g over others = record {
  over = λ m.
      let one : runs_over (expand p) m ≡ runs_over (course_of (p ∷ [])) m = ap (λ (xs : List Ground). runs_over xs m) (sym (append-nil (expand p))) in
      over m
      ∙ ap (λ (o : Option Name). if runs_over (expand p) m then option_and o route else o) (g.over m)
      ∙ and_twice (runs_over (course_of (take i ps)) m) (runs_over (expand p) m) (route_over old m) route
      ∙ ap (λ (b : Bool). if b then option_and (route_over old m) route else route_over old m)
      (ap (λ (b : Bool). runs_over (course_of (take i ps)) m || b) one
      ∙ sym (runs_over-append (take i ps) (p ∷ []) m)
      ∙ ap (λ (xs : List Piece). runs_over (course_of xs) m) (sym (take_more ps i d lt ∙ ap (λ (x : Piece). take i ps ++ x ∷ []) (sym is))));
  others = λ qs w. others qs (g.others qs w);
}

pub handed_all : (old new : Stretches) (ps : List Piece) (i : ℕ) (route : Option Name) → length ps ≤ i → AreHanded old new (take i ps) route → AreHanded old new ps route
handed_all old new ps i route le h = subst (λ (xs : List Piece). AreHanded old new xs route) (take_all i ps le) h

pub and_none : (o : Option Name) → option_and {U = Name} o None ≡ None
and_none None = refl
and_none (Some x) = refl

pub and_other : (o : Option Name) (route : Name) → option_and o (Some route) ≡ option_map (λ r. route) o
and_other None route = refl
and_other (Some x) route = refl
