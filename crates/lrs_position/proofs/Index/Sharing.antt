-- When a piece shares a millimetre.
use Rattle.std.proofs.Common.{ℕ, ◌≡◌, ◌+◌, ◌-◌, ◌<◌, ◌≤◌, Bool, true, false, if◌then◌else◌, max, Some, None, List, refl, sym, ap, ◌∙◌, arith}
use Rattle.std.specs.Prelude.{nat_lt, nat_eq, ◌&&◌, is_some}
use Rattle.std.specs.List.{list_any}
use Rattle.std.specs.FinMap.{get}
use Rattle.std.proofs.lemmas.Bool.{and_parts, and_from, lt-ltb, ltb-true, eq-eqb, eqb-true, false_from_ne_true, both_ways}
use Rattle.std.proofs.lemmas.List.Folds.{Any-from_list_any, list_any_at}
use Rattle.lrs_measure.specs.Texts.{Name}
use Rattle.lrs_element.specs.declared.link.Piece.{Piece}
use Rattle.lrs_element.specs.declared.link.Ground.{Ground}
use Rattle.lrs_element.specs.Course.{Millimetre, expand, runs_over, is_at, meets}
use Rattle.lrs_element.specs.Pieces.{ground_of, piece_len}
use Rattle.lrs_element.proofs.Expanding.{length-expand, get_or-expand}
use Rattle.lrs_position.specs.declared.ground_index.LinkStretch.{LinkStretch}
use Rattle.lrs_position.specs.Index.Ground.{Stretches, route_over, is_shared}
use Rattle.lrs_position.specs.Index.Stretches.{AreApart, IsFirst, IsLast}
use Rattle.lrs_position.proofs.Index.Over.{IsOver, over_gives, over_stretch, which_answer, no_answer, no_later}

pub same_test : (x y : Bool) → (x ≡ true → y ≡ true) → (y ≡ true → x ≡ true) → x ≡ y
same_test true y f g = sym (f refl)
same_test false true f g = g refl
same_test false false f g = refl

-- ---- a piece and what is true of one of its millimetres

place_in : (f : Bool) (a b m : ℕ) → a ≤ m → m < b → (i : ℕ) × (i < b - a) × ((if f then a + i else b - 1 - i) ≡ m)
place_in true a b m h l = (m - a, omega arith, omega arith)
place_in false a b m h l = (b - 1 - m, omega arith, omega arith)

within : (f : Bool) (a b i m : ℕ) → i < b - a → m ≡ (if f then a + i else b - 1 - i) → (a ≤ m) × (m < b)
within true a b i m h e = (omega arith, omega arith)
within false a b i m h e = (omega arith, omega arith)

module _ (t : Millimetre → Bool) (p : Piece) where
  abbrev on_ground : Ground → Bool
  on_ground g = t (g.link, g.mm)

  pub some_millimetre : (m : ℕ) → p.from ≤ m → m < p.to → t (p.link, m) ≡ true → list_any on_ground (expand p) ≡ true
  some_millimetre m h l e =
      let i = place_in p.forward p.from p.to m h l in
      let g : Ground = ground_of p i.0 in
      list_any_at on_ground (expand p) i.0 g (omega (arith, length-expand p, i.1)) (ap on_ground (get_or-expand p i.0 g i.1) ∙ ap (λ (k : ℕ). t (p.link, k)) i.2 ∙ e)

  pub which_millimetre : list_any on_ground (expand p) ≡ true → (m : ℕ) × (p.from ≤ m) × (m < p.to) × (t (p.link, m) ≡ true)
  which_millimetre h =
      let a = Any-from_list_any on_ground (expand p) h in
      let i : a.0 < piece_len p = omega (arith, length-expand p, a.2) in
      let s : a.1 ≡ ground_of p a.0 = sym a.3 ∙ get_or-expand p a.0 a.1 i in
      let b = within p.forward p.from p.to a.0 a.1.mm i (ap (λ (g : Ground). g.mm) s) in
      (a.1.mm, b.0, b.1, ap (λ (l : ℕ). t (l, a.1.mm)) (sym (ap (λ (g : Ground). g.link) s)) ∙ a.4)

pub runs_over_from : (p : Piece) (l m : ℕ) → p.link ≡ l → p.from ≤ m → m < p.to → runs_over (expand p) (l, m) ≡ true
runs_over_from p l m e h k = some_millimetre (λ x. nat_eq x.0 l && nat_eq x.1 m) p m h k (and_from _ _ (eq-eqb _ _ e) (eq-eqb m m refl))

pub runs_over_gives : (p : Piece) (l m : ℕ) → runs_over (expand p) (l, m) ≡ true → (p.link ≡ l) × (p.from ≤ m) × (m < p.to)
runs_over_gives p l m h =
    let w = which_millimetre (λ x. nat_eq x.0 l && nat_eq x.1 m) p h in
    let t = and_parts _ _ w.3 in
    let e : w.0 ≡ m = eqb-true _ _ t.1 in
    (eqb-true _ _ t.0, omega (arith, w.1, e), omega (arith, w.2, e))

-- ---- ground that a route runs over

abbrev pub is_taken : Stretches → Millimetre → Bool
is_taken kept m = is_some (route_over kept m)

pub taken_by : (kept : Stretches) (l m : ℕ) → is_taken kept (l, m) ≡ true → (r : Name) × IsOver kept l m r
taken_by kept l m t = let w = which_answer (route_over kept (l, m)) t in (w.0, over_gives kept l m w.0 w.1)

pub taken_from : (kept : Stretches) (l m a : ℕ) (s : LinkStretch) → AreApart kept → get kept (l, a) ≡ Some s → a ≤ m → m < s.end → is_taken kept (l, m) ≡ true
taken_from kept l m a s apart is le lt = ap is_some (over_stretch kept l m a s apart is le lt)

-- ---- a piece and the last stretch that begins before its end

pub shares_none : (kept : Stretches) (p : Piece) → IsFirst kept p.link p.to → is_shared kept (expand p) ≡ false
shares_none kept p h = false_from_ne_true _ (λ t.
    let w = which_millimetre (is_taken kept) p t in
    let o = taken_by kept p.link w.0 w.3 in
    absurd (cc (sym (h o.1.from (omega (arith, o.1.begins, w.2))) ∙ o.1.is)))

pub shares_last : (kept : Stretches) (p : Piece) (a : ℕ) (s : LinkStretch) → AreApart kept → IsLast kept p.link p.to a s → p.from < p.to → nat_lt p.from s.end ≡ is_shared kept (expand p)
shares_last kept p a s apart last filled = same_test _ _
    (λ t.
    let lt : p.from < s.end = ltb-true _ _ t in
    let f = apart.filled p.link a s last.stretch in
    let before = last.before in
    let m : ℕ = max p.from a in
    some_millimetre (is_taken kept) p m (omega arith) (omega arith) (taken_from kept p.link m a s apart last.stretch (omega arith) (omega arith)))
    (λ t.
    let w = which_millimetre (is_taken kept) p t in
    let o = (taken_by kept p.link w.0 w.3).1 in
    let n = no_later kept p.link p.to a o.from s o.stretch apart last o.is (omega (arith, o.begins, w.2)) in
    lt-ltb _ _ (omega (arith, o.ends, w.1, n)))

-- ---- courses that share no ground

pub free_at : (kept : Stretches) (xs : List Ground) (m : Millimetre) → is_shared kept xs ≡ false → runs_over xs m ≡ true → route_over kept m ≡ None
free_at kept xs m free t = no_answer (route_over kept m) (λ r h. both_ways _ free
    (let a = Any-from_list_any (is_at m) xs t in
    let u = and_parts (nat_eq a.1.link m.0) (nat_eq a.1.mm m.1) a.4 in
    list_any_at (λ g. is_taken kept (g.link, g.mm)) xs a.0 a.1 a.2
    (ap (λ (g : Ground). is_taken kept (g.link, g.mm)) a.3
    ∙ ap (is_taken kept) (λ i. (eqb-true a.1.link m.0 u.0 i, eqb-true a.1.mm m.1 u.1 i)) ∙ ap is_some h)))

-- ground that routes run over shares nothing with free ground
pub taken_apart : (kept : Stretches) (xs ys : List Ground) → ((m : Millimetre) → runs_over xs m ≡ true → is_taken kept m ≡ true) → is_shared kept ys ≡ false → meets xs ys ≡ false
taken_apart kept xs ys taken free = false_from_ne_true _ (λ t.
    let a = Any-from_list_any (λ g. runs_over ys (g.link, g.mm)) xs t in
    let m : Millimetre = (a.1.link, a.1.mm) in
    let here : is_at m a.1 ≡ true = and_from (nat_eq a.1.link a.1.link) (nat_eq a.1.mm a.1.mm) (eq-eqb a.1.link a.1.link refl) (eq-eqb a.1.mm a.1.mm refl) in
    let over = list_any_at (is_at m) xs a.0 a.1 a.2 (ap (is_at m) a.3 ∙ here) in
    absurd (cc (sym (ap is_some (free_at kept ys m free a.4)) ∙ taken m over)))
