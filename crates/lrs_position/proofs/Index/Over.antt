-- Which route runs over a millimetre: that of the stretch that has it.
use Rattle.std.proofs.Common.{ℕ, zero, suc, ◌≡◌, ◌+◌, ◌<◌, ◌≤◌, Bool, true, false, if◌then◌else◌, List, [], ◌∷◌, Option, Some, None, length, get_or, refl, sym, ap, ◌∙◌, arith, ⊎_elim, ◌⊎◌, inl, inr}
use Rattle.std.specs.Prelude.{nat_lt, is_some, option_and_then}
use Rattle.std.specs.Option.{option_or}
use Rattle.std.specs.List.{range_with_len}
use Rattle.std.specs.FinMap.{empty, get, get-empty}
use Rattle.std.proofs.lemmas.Bool.{cases_lt, lt-ltb, ltb-true}
use Rattle.std.proofs.lemmas.List.FromFn.{length-range_with_len, get_or-range_with_len}
use Rattle.lrs_measure.specs.Texts.{Name}
use Rattle.lrs_element.specs.Course.{Millimetre}
use Rattle.lrs_position.specs.declared.ground_index.LinkStretch.{LinkStretch}
use Rattle.lrs_position.specs.Index.Ground.{Stretches, millimetre_cmp, reaching, first_some, route_over}
use Rattle.lrs_position.specs.Index.Stretches.{AreApart, IsFirst, IsLast}

pub same_answer : {X : Type 0} (o p : Option X) → ((x : X) → o ≡ Some x → p ≡ Some x) → ((x : X) → p ≡ Some x → o ≡ Some x) → o ≡ p
same_answer None None f g = refl
same_answer None (Some y) f g = g y refl
same_answer (Some x) p f g = sym (f x refl)

pub no_answer : {X : Type 0} (o : Option X) → ((x : X) → o ≡ Some x → ⊥) → o ≡ None
no_answer None f = refl
no_answer (Some x) f = absurd (f x refl)

pub which_answer : {X : Type 0} (o : Option X) → is_some o ≡ true → (x : X) × (o ≡ Some x)
which_answer None h = absurd (cc h)
which_answer (Some x) h = (x, refl)

-- ---- the first of some answers

or_some : {X : Type 0} (o p : Option X) (x : X) → option_or o p ≡ Some x → (o ≡ Some x) ⊎ (p ≡ Some x)
or_some None p x h = inr h
or_some (Some y) p x h = inl h

or_none : {X : Type 0} (o p : Option X) → option_or o p ≡ None → (o ≡ None) × (p ≡ None)
or_none None p h = (refl, h)
or_none (Some y) p h = absurd (cc h)

some_first : {X Y : Type 0} (f : X → Option Y) (xs : List X) (y : Y) → first_some f xs ≡ Some y → (i : ℕ) × (x : X) × (i < length xs) × (get_or xs i x ≡ x) × (f x ≡ Some y)
some_first f [] y h = absurd (cc h)
some_first f (x ∷ xs) y h = ⊎_elim
    (λ (here : f x ≡ Some y). (zero, x, omega arith, refl, here))
    (λ (later : first_some f xs ≡ Some y). let a = some_first f xs y later in (suc a.0, a.1, omega (arith, a.2), a.3, a.4))
    (or_some (f x) (first_some f xs) y h)

none_first : {X Y : Type 0} (f : X → Option Y) (xs : List X) → first_some f xs ≡ None → (i : ℕ) (d : X) → i < length xs → f (get_or xs i d) ≡ None
none_first f [] h i d lt = absurd (omega arith)
none_first f (x ∷ xs) h zero d lt = (or_none (f x) (first_some f xs) h).0
none_first f (x ∷ xs) h (suc i) d lt = none_first f xs (or_none (f x) (first_some f xs) h).1 i d (omega arith)

-- ---- the stretch that has a millimetre

-- A stretch of the route has the millimetre.
pub record IsOver (kept : Stretches) (l m : ℕ) (r : Name) : Type 0 where
  pub from : ℕ
  pub stretch : LinkStretch
  pub is : get kept (l, from) ≡ Some stretch
  pub begins : from ≤ m
  pub ends : m < stretch.end
  pub route : stretch.route ≡ r

abbrev from_edge : Stretches → ℕ → ℕ → ℕ → Option Name
from_edge kept l m a = option_and_then (reaching m) (get kept (l, a))

reaches : (m : ℕ) (o : Option LinkStretch) (r : Name) → option_and_then (reaching m) o ≡ Some r → (s : LinkStretch) × (o ≡ Some s) × (m < s.end) × (s.route ≡ r)
reaches m None r h = absurd (cc h)
reaches m (Some s) r h = by (nat_lt m s.end) refl h
  where
    by : (b : Bool) → nat_lt m s.end ≡ b → (if b then Some s.route else None) ≡ Some r → (t : LinkStretch) × (Some s ≡ Some t) × (m < t.end) × (t.route ≡ r)
    by true e h = (s, refl, ltb-true _ _ e, cc h)
    by false e h = absurd (cc h)

reached : (m : ℕ) (o : Option LinkStretch) (s : LinkStretch) → o ≡ Some s → m < s.end → option_and_then (reaching m) o ≡ Some s.route
reached m o s e lt = ap (option_and_then (reaching m)) e ∙ ap (λ (b : Bool). if b then Some s.route else None) (lt-ltb m s.end lt)

pub over_gives : (kept : Stretches) (l m : ℕ) (r : Name) → route_over kept (l, m) ≡ Some r → IsOver kept l m r
over_gives kept l m r h =
    let a = some_first (from_edge kept l m) (range_with_len 0 (m + 1)) r h in
    let i : a.0 < m + 1 = omega (arith, length-range_with_len 0 (m + 1), a.2) in
    let s : a.1 ≡ 0 + a.0 = sym a.3 ∙ get_or-range_with_len 0 (m + 1) a.0 a.1 i in
    let e = reaches m (get kept (l, a.1)) r a.4 in
    record { from = a.1; stretch = e.0; is = e.1; begins = omega arith; ends = e.2; route = e.3 }

-- two stretches with one millimetre are one
pub one_begin : (kept : Stretches) (l m a c : ℕ) (s t : LinkStretch) → AreApart kept → get kept (l, a) ≡ Some s → get kept (l, c) ≡ Some t → a ≤ m → m < s.end → c ≤ m → m < t.end → a ≡ c
one_begin kept l m a c s t apart p q h k h' k' = ⊎_elim
    (λ (lt : a < c). let e = apart.apart l a c s t p q lt in absurd (omega arith))
    (λ (ge : c ≤ a). ⊎_elim
    (λ (lt : c < a). let e = apart.apart l c a t s q p lt in absurd (omega arith))
    (λ (le : a ≤ c). omega arith)
    (cases_lt c a))
    (cases_lt a c)

pub one_stretch : (kept : Stretches) (l a c : ℕ) (s t : LinkStretch) → a ≡ c → get kept (l, a) ≡ Some s → get kept (l, c) ≡ Some t → s ≡ t
one_stretch kept l a c s t e p q = let same : Some s ≡ Some t = sym p ∙ ap (λ (n : ℕ). get kept (l, n)) e ∙ q in cc same

pub over_from : (kept : Stretches) (l m : ℕ) (r : Name) → AreApart kept → IsOver kept l m r → route_over kept (l, m) ≡ Some r
over_from kept l m r apart o = by (route_over kept (l, m)) refl
  where
    by : (p : Option Name) → route_over kept (l, m) ≡ p → route_over kept (l, m) ≡ Some r
    by None e =
        let at = get_or-range_with_len 0 (m + 1) o.from 0 (let b = o.begins in omega arith) in
        let n = none_first (from_edge kept l m) (range_with_len 0 (m + 1)) e o.from 0 (let b = o.begins in omega (arith, length-range_with_len 0 (m + 1))) in
        let z : 0 + o.from ≡ o.from = omega arith in
        let some = reached m (get kept (l, o.from)) o.stretch o.is o.ends in
        let is : None ≡ Some o.stretch.route = sym n ∙ ap (from_edge kept l m) (at ∙ z) ∙ some in
        absurd (cc is)
    by (Some q) e =
        let p = over_gives kept l m q e in
        let b = one_begin kept l m p.from o.from p.stretch o.stretch apart p.is o.is p.begins p.ends o.begins o.ends in
        let s = one_stretch kept l p.from o.from p.stretch o.stretch b p.is o.is in
        e ∙ ap (λ (x : Name). Some x) (sym p.route ∙ ap (λ (x : LinkStretch). x.route) s ∙ o.route)

pub over_stretch : (kept : Stretches) (l m a : ℕ) (s : LinkStretch) → AreApart kept → get kept (l, a) ≡ Some s → a ≤ m → m < s.end → route_over kept (l, m) ≡ Some s.route
over_stretch kept l m a s apart is le lt = over_from kept l m s.route apart (record { from = a; stretch = s; is = is; begins = le; ends = lt; route = refl })

pub nothing_over : (m : Millimetre) → route_over empty m ≡ None
nothing_over m = no_answer (route_over empty m) (λ r h. let o = over_gives empty m.0 m.1 r h in absurd (cc (sym (get-empty millimetre_cmp (m.0, o.from)) ∙ o.is)))

-- ---- the last stretch that begins at the millimetre or before it

pub over_first : (kept : Stretches) (l m : ℕ) → IsFirst kept l (m + 1) → route_over kept (l, m) ≡ None
over_first kept l m h = no_answer (route_over kept (l, m)) (λ r e.
    let o = over_gives kept l m r e in
    let b = o.begins in
    absurd (cc (sym (h o.from (omega arith)) ∙ o.is)))

-- a stretch that begins no later than the last one, and ends no later or is the last one itself
pub no_later : (kept : Stretches) (l e a c : ℕ) (s t : LinkStretch) → AreApart kept → IsLast kept l e a s → get kept (l, c) ≡ Some t → c < e → t.end ≤ s.end
no_later kept l e a c s t apart last is lt =
    let le = last.last c t is lt in
    let f = apart.filled l a s last.stretch in
    ⊎_elim
    (λ (lower : c < a). let n = apart.apart l c a t s is last.stretch lower in omega arith)
    (λ (ge : a ≤ c). let same = one_stretch kept l c a t s (omega arith) is last.stretch in let e = ap (λ (x : LinkStretch). x.end) same in omega arith)
    (cases_lt c a)

pub over_last : (kept : Stretches) (l m a : ℕ) (s : LinkStretch) → AreApart kept → IsLast kept l (m + 1) a s → m < s.end → route_over kept (l, m) ≡ Some s.route
over_last kept l m a s apart last lt = over_stretch kept l m a s apart last.stretch (let b = last.before in omega arith) lt

pub over_behind : (kept : Stretches) (l m a : ℕ) (s : LinkStretch) → AreApart kept → IsLast kept l (m + 1) a s → s.end ≤ m → route_over kept (l, m) ≡ None
over_behind kept l m a s apart last le = no_answer (route_over kept (l, m)) (λ r e.
    let o = over_gives kept l m r e in
    let b = o.begins in
    let n = no_later kept l (m + 1) a o.from s o.stretch apart last o.is (omega arith) in
    let g = o.ends in
    absurd (omega arith))
