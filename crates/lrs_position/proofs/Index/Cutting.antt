-- Stretches that are cut at an edge, and what stays whole.
use Rattle.std.proofs.Common.{ℕ, ◌≡◌, ◌≢◌, ◌+◌, ◌<◌, ◌≤◌, List, [], ◌∷◌, ◌++◌, take, length, get_or, Some, None, refl, sym, ap, subst, ◌∙◌, arith, ⊎_elim}
use Rattle.std.specs.List.{AllByRecursion}
use Rattle.std.specs.FinMap.{insert, get}
use Rattle.std.proofs.lemmas.Bool.{cases_lt}
use Rattle.std.proofs.lemmas.List.{take_more, take_all}
use Rattle.lrs_measure.specs.Texts.{Name}
use Rattle.lrs_element.specs.declared.link.Piece.{Piece}
use Rattle.lrs_element.specs.Course.{Millimetre}
use Rattle.lrs_position.specs.declared.ground_index.LinkStretch.{LinkStretch}
use Rattle.lrs_position.specs.Index.Ground.{Stretches, route_over, IsWhole, AreWhole, StaysWhole}
use Rattle.lrs_position.specs.Index.Stretches.{AreApart, IsCut, IsPart, AreParts}
use Rattle.lrs_position.proofs.Index.Over.{IsOver, over_gives, over_from, over_stretch, same_answer, no_answer, one_stretch}
use Rattle.lrs_position.proofs.Index.Putting.{put_here, put_there, put_which, put_back, same_place, apart_within}

-- for each element
pub each : {X : Type 0} (P Q : X → Type 0) (xs : List X) → ((x : X) → P x → Q x) → AllByRecursion P xs → AllByRecursion Q xs
each P Q [] f h = tt
each P Q (x ∷ xs) f h = (f x h.0, each P Q xs f h.1)

pub both : {X : Type 0} (P : X → Type 0) (xs ys : List X) → AllByRecursion P xs → AllByRecursion P ys → AllByRecursion P (xs ++ ys)
both P [] ys h k = k
both P (x ∷ xs) ys h k = (h.0, both P xs ys h.1 k)

-- ---- parts of stretches

pub parts_both : (a b c : Stretches) → AreParts a b → AreParts b c → AreParts a c
parts_both a b c f g l x s h =
    let p = g l x s h in
    let q = f l p.from p.before p.was in
    record { from = q.from; before = q.before; was = q.was; begins = omega (arith, q.begins, p.begins); ends = omega (arith, q.ends, p.ends) }

pub cut_parts : (old new : Stretches) (l e : ℕ) → AreParts old new → IsCut old l e → IsCut new l e
cut_parts old new l e parts cut a s h lt =
    let p = parts l a s h in
    let n = cut p.from p.before p.was (omega (arith, p.begins, lt)) in
    omega (arith, n, p.ends)

pub whole_parts : (old new : Stretches) → AreParts old new → (p : Piece) → IsWhole old p → IsWhole new p
whole_parts old new parts p w = record {
  begins = λ m a s h le lt b e.
      let q = parts p.link a s h in
      let n = w.begins m q.from q.before q.was (omega (arith, q.begins, le)) (omega (arith, q.ends, lt)) b e in
      omega (arith, q.begins, n);
  ends = λ m a s h le lt b e.
      let q = parts p.link a s h in
      let n = w.ends m q.from q.before q.was (omega (arith, q.begins, le)) (omega (arith, q.ends, lt)) b e in
      omega (arith, q.ends, n);
}

pub stays_whole : (old new : Stretches) → AreParts old new → StaysWhole old new
stays_whole old new parts pieces w = each (IsWhole old) (IsWhole new) pieces (whole_parts old new parts) w

pub whole_cut : (kept : Stretches) (p : Piece) → IsCut kept p.link p.from → IsCut kept p.link p.to → IsWhole kept p
whole_cut kept p front rear = record {
  begins = λ m a s h le lt b e. ⊎_elim
      (λ (before : a < p.from). let n = front a s h before in absurd (omega arith))
      (λ (ge : p.from ≤ a). ge)
      (cases_lt a p.from);
  ends = λ m a s h le lt b e. rear a s h (omega (arith, le, e));
}

-- ---- one cut

-- What begins at x once the stretch from a to s.end is cut at e: the rear, the front, or what began there.
data IsNow (old : Stretches) (l a e : ℕ) (s : LinkStretch) (x : Millimetre) (t : LinkStretch) : Type 0 where
  rear : x ≡ (l, e) → t ≡ s → IsNow old l a e s x t
  front : x ≡ (l, a) → t ≡ record { end = e; route = s.route } → IsNow old l a e s x t
  same : x ≢ (l, a) → get old x ≡ Some t → IsNow old l a e s x t

link_of : {x y : Millimetre} → x ≡ y → x.0 ≡ y.0
link_of i = ap (λ (q : Millimetre). q.0) i

place_of : {x y : Millimetre} → x ≡ y → x.1 ≡ y.1
place_of i = ap (λ (q : Millimetre). q.1) i

end_of : {s t : LinkStretch} → s ≡ t → s.end ≡ t.end
end_of j = ap (λ (x : LinkStretch). x.end) j

route_of : {s t : LinkStretch} → s ≡ t → s.route ≡ t.route
route_of j = ap (λ (x : LinkStretch). x.route) j

on_link : (kept : Stretches) (k l x : ℕ) (t : LinkStretch) → k ≡ l → get kept (k, x) ≡ Some t → get kept (l, x) ≡ Some t
on_link kept k l x t n h = ap (λ (k : ℕ). get kept (k, x)) (sym n) ∙ h

one_place : (k l x a : ℕ) → k ≡ l → a ≤ x → x ≤ a → ◌≡◌ {A = Millimetre} (k, x) (l, a)
one_place k l x a n ge le = let e : x ≡ a = omega arith in λ i. (n i, e i)

module _ (old : Stretches) (l a e : ℕ) (s : LinkStretch) where
  abbrev front_part : LinkStretch
  front_part = record { end = e; route = s.route }

  abbrev short : Stretches
  short = insert old (l, a) front_part

  abbrev new : Stretches
  new = insert short (l, e) s

  now : (x : Millimetre) (t : LinkStretch) → get new x ≡ Some t → IsNow old l a e s x t
  now x t h = ⊎_elim
      (λ is. rear is.0 is.1)
      (λ other. ⊎_elim
      (λ is. front is.0 is.1)
      (λ was. same was.0 was.1)
      (put_which old (l, a) front_part x t other.1))
      (put_which short (l, e) s x t h)

  module _ (was : get old (l, a) ≡ Some s) (inside : a < e) (crosses : e < s.end) (apart : AreApart old) where
    pub apart_short : AreApart short
    apart_short = apart_within old (l, a) s front_part apart was inside (omega (arith, crosses))

    -- and back again
    pub as_it_was : (x : Stretches) → x ≡ short → insert x (l, a) s ≡ old
    as_it_was x is = ap (λ (y : Stretches). insert y (l, a) s) is ∙ put_back old (l, a) s front_part was

    -- no stretch began at the edge
    none_there : get old (l, e) ≡ None
    none_there = no_answer (get old (l, e)) (λ t h. let n = apart.apart l a e s t was h inside in absurd (omega (arith, n, crosses)))

    was_part : (k x : ℕ) (t : LinkStretch) → IsNow old l a e s (k, x) t → IsPart old k x t
    was_part k x t (rear i j) = record { from = a; before = s; was = on_link old l k a s (sym (link_of i)) was; begins = omega (arith, place_of i, inside); ends = omega (arith, end_of j) }
    was_part k x t (front i j) = record { from = a; before = s; was = on_link old l k a s (sym (link_of i)) was; begins = omega (arith, place_of i); ends = omega (arith, end_of j, crosses) }
    was_part k x t (same i j) = record { from = x; before = t; was = j; begins = omega arith; ends = omega arith }

    pub parts_cut : AreParts old new
    parts_cut k x t h = was_part k x t (now (k, x) t h)

    full : (k x : ℕ) (t : LinkStretch) → IsNow old l a e s (k, x) t → x < t.end
    full k x t (rear i j) = omega (arith, place_of i, end_of j, crosses)
    full k x t (front i j) = omega (arith, place_of i, end_of j, inside)
    full k x t (same i j) = apart.filled k x t j

    -- one that is not the cut one and begins before the edge ends at the cut one or before it
    before_edge : (k x : ℕ) (t : LinkStretch) → k ≡ l → ◌≢◌ {A = Millimetre} (k, x) (l, a) → get old (k, x) ≡ Some t → x < e → t.end ≤ e
    before_edge k x t n other h lt =
        let h' = on_link old k l x t n h in
        ⊎_elim
        (λ (before : x < a). let m = apart.apart l x a t s h' was before in omega (arith, m, inside))
        (λ (ge : a ≤ x). ⊎_elim
        (λ (behind : a < x). let m = apart.apart l a x s t was h' behind in absurd (omega (arith, m, lt, crosses)))
        (λ (le : x ≤ a). absurd (other (one_place k l x a n ge le)))
        (cases_lt a x))
        (cases_lt x a)

    along : (k x y : ℕ) (t u : LinkStretch) → IsNow old l a e s (k, x) t → IsNow old l a e s (k, y) u → x < y → t.end ≤ y
    along k x y t u (rear i j) (rear i' j') lt = absurd (omega (arith, place_of i, place_of i', lt))
    along k x y t u (rear i j) (front i' j') lt = absurd (omega (arith, place_of i, place_of i', lt, inside))
    along k x y t u (rear i j) (same i' j') lt =
        let f : x ≡ e = place_of i in
        let n = apart.apart l a y s u was (on_link old k l y u (link_of i) j') (omega (arith, f, lt, inside)) in
        omega (arith, end_of j, n)
    along k x y t u (front i j) (rear i' j') lt = omega (arith, place_of i', end_of j)
    along k x y t u (front i j) (front i' j') lt = absurd (omega (arith, place_of i, place_of i', lt))
    along k x y t u (front i j) (same i' j') lt =
        let f : x ≡ a = place_of i in
        let n = apart.apart l a y s u was (on_link old k l y u (link_of i) j') (omega (arith, f, lt)) in
        omega (arith, end_of j, n, crosses)
    along k x y t u (same i j) (rear i' j') lt =
        let g : y ≡ e = place_of i' in
        let n = before_edge k x t (link_of i') i j (omega (arith, g, lt)) in
        omega (arith, g, n)
    along k x y t u (same i j) (front i' j') lt =
        let g : y ≡ a = place_of i' in
        let n = apart.apart l x a t s (on_link old k l x t (link_of i') j) was (omega (arith, g, lt)) in
        omega (arith, g, n)
    along k x y t u (same i j) (same i' j') lt = apart.apart k x y t u j j' lt

    pub apart_cut : AreApart new
    apart_cut = record {
      filled = λ k x t h. full k x t (now (k, x) t h);
      apart = λ k x y t u h g lt. along k x y t u (now (k, x) t h) (now (k, y) u g) lt;
    }

    cut_at : (x : ℕ) (t : LinkStretch) → x < e → IsNow old l a e s (l, x) t → t.end ≤ e
    cut_at x t lt (rear i j) = absurd (omega (arith, place_of i, lt))
    cut_at x t lt (front i j) = omega (arith, end_of j)
    cut_at x t lt (same i j) = before_edge l x t refl i j lt

    pub is_cut : IsCut new l e
    is_cut x t h lt = cut_at x t lt (now (l, x) t h)

    -- ---- the same route runs over each millimetre

    was_over : (k m x : ℕ) (t : LinkStretch) → x ≤ m → m < t.end → IsNow old l a e s (k, x) t → IsOver old k m t.route
    was_over k m x t le lt (rear i j) = record { from = a; stretch = s; is = on_link old l k a s (sym (link_of i)) was; begins = omega (arith, place_of i, le, inside); ends = omega (arith, end_of j, lt); route = route_of (sym j) }
    was_over k m x t le lt (front i j) = record { from = a; stretch = s; is = on_link old l k a s (sym (link_of i)) was; begins = omega (arith, place_of i, le); ends = omega (arith, end_of j, lt, crosses); route = route_of (sym j) }
    was_over k m x t le lt (same i j) = record { from = x; stretch = t; is = j; begins = le; ends = lt; route = refl }

    over_before : (k m : ℕ) (r : Name) → route_over new (k, m) ≡ Some r → route_over old (k, m) ≡ Some r
    over_before k m r h =
        let o = over_gives new k m r h in
        over_from old k m o.stretch.route apart (was_over k m o.from o.stretch o.begins o.ends (now (k, o.from) o.stretch o.is)) ∙ ap (λ (x : Name). Some x) o.route

    front_there : get new (l, a) ≡ Some front_part
    front_there = put_there short (l, e) s (l, a) (λ i. let f : a ≡ e = place_of i in absurd (omega (arith, f, inside))) ∙ put_here old (l, a) front_part

    over_part : (m : ℕ) → a ≤ m → m < s.end → route_over new (l, m) ≡ Some s.route
    over_part m ge lt = ⊎_elim
        (λ (before : m < e). over_stretch new l m a front_part apart_cut front_there ge before)
        (λ (behind : e ≤ m). over_stretch new l m e s apart_cut (put_here short (l, e) s) behind lt)
        (cases_lt m e)

    over_still : (k m : ℕ) (r : Name) → route_over old (k, m) ≡ Some r → route_over new (k, m) ≡ Some r
    over_still k m r h =
        let o = over_gives old k m r h in
        ⊎_elim
        (λ (i : ◌≡◌ {A = Millimetre} (k, o.from) (l, a)).
        let j : o.stretch ≡ s = one_stretch old l o.from a o.stretch s (place_of i) (on_link old k l o.from o.stretch (link_of i) o.is) was in
        ap (λ (n : ℕ). route_over new (n, m)) (link_of i)
        ∙ over_part m (omega (arith, place_of i, o.begins)) (omega (arith, end_of j, o.ends))
        ∙ ap (λ (x : Name). Some x) (route_of (sym j) ∙ o.route))
        (λ (other : ◌≢◌ {A = Millimetre} (k, o.from) (l, a)).
        over_stretch new k m o.from o.stretch apart_cut
        (put_there short (l, e) s (k, o.from) (λ i. absurd (cc (sym (ap (get old) i ∙ none_there) ∙ o.is))) ∙ put_there old (l, a) front_part (k, o.from) other ∙ o.is)
        o.begins o.ends
        ∙ ap (λ (x : Name). Some x) o.route)
        (same_place (k, o.from) (l, a))

    pub over_cut : (m : Millimetre) → route_over new m ≡ route_over old m
    over_cut m = same_answer (route_over new m) (route_over old m) (over_before m.0 m.1) (over_still m.0 m.1)

-- ---- pieces one after another

-- The stretches are cut at the edges of the pieces.
pub record AreCut (old new : Stretches) (ps : List Piece) : Type 0 where
  pub same : (m : Millimetre) → route_over new m ≡ route_over old m
  pub whole : AreWhole new ps
  pub others : StaysWhole old new

pub cut_none : (s : Stretches) → AreCut s s []
cut_none s = record { same = λ m. refl; whole = tt; others = λ ps w. w }

pub cut_next : (old mid new : Stretches) (ps : List Piece) (i : ℕ) (p d : Piece) → i < length ps → p ≡ get_or ps i d → AreCut old mid (take i ps) → ((m : Millimetre) → route_over new m ≡ route_over mid m) → IsWhole new p → StaysWhole mid new → AreCut old new (take (i + 1) ps)
cut_next old mid new ps i p d lt is g over whole others = record {
  same = λ m. over m ∙ g.same m;
  whole = subst (AreWhole new) (sym (take_more ps i d lt ∙ ap (λ (x : Piece). take i ps ++ x ∷ []) (sym is))) (both (IsWhole new) (take i ps) (p ∷ []) (others (take i ps) g.whole) (whole, tt));
  others = λ qs w. others qs (g.others qs w);
}

pub cut_all : (old new : Stretches) (ps : List Piece) (i : ℕ) → length ps ≤ i → AreCut old new (take i ps) → AreCut old new ps
cut_all old new ps i le h = subst (AreCut old new) (take_all i ps le) h
