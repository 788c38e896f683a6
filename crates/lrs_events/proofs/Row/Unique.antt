-- Rows in order, apart and merged are determined by what they stand for.
use Rattle.std.proofs.Common.{◌≡◌, ℕ, ◌<◌, ◌≤◌, Bool, true, false, ◌⊎◌, inl, inr, List, [], ◌∷◌, refl, sym, ap, subst, ◌∙◌, arith}
use Rattle.std.specs.Prelude.{◌||◌, ◌&&◌, not, nat_lt, nat_le, nat_eq}
use Rattle.std.specs.List.{list_all}
use Rattle.std.specs.declared.cmp.Ordering.{Ordering}
use Rattle.std.specs.declared.cmp.Ordering.TheVariants.{Less, Equal, Greater}
use Rattle.std.specs.Ordering.{is_eq, is_lt, ordering_reverse}
use Rattle.std.specs.Cmp.{tied_itself}
use Rattle.std.specs.Cmp.Lexicographic.{nat_list_cmp_total, bytes_decides}
use Rattle.std.proofs.lemmas.Bool.{false≢true, both_ways, not-true, and_parts, or_cases, eqb-true, eq-eqb, ltb-true, leb-true, lt-ltb, le-leb, cases_order, cases_Bool}
use Rattle.lrs_measure.specs.Lists.{In, each_two}
use Rattle.lrs_measure.specs.Texts.{Name, name_cmp, same_name, name_before}
use Rattle.lrs_measure.proofs.Members.{any_found, any_of, all_at, two_at}
use Rattle.lrs_events.specs.declared.side.Side.{Side}
use Rattle.lrs_events.specs.declared.side.Side.TheVariants.{L, R, B}
use Rattle.lrs_events.specs.declared.side.LinkSide.{LinkSide}
use Rattle.lrs_events.specs.declared.side.LinkSide.TheVariants.{Left, Right}
use Rattle.lrs_events.specs.declared.span.Span.{Span}
use Rattle.lrs_events.specs.Spans.{span_before, same_side, are_apart, is_row, are_rows}
use Rattle.lrs_events.specs.Members.{has_side, between, stands_for, has_member, is_member, SameMembers}
use Rattle.lrs_events.specs.Row.Members.{RowsAreOne}

-- ---- sides

abbrev pub sides_agree : Side → Side → Type 0
sides_agree a b = (s : LinkSide) → has_side a s ≡ has_side b s

pub same_sides : (a b : Side) → sides_agree a b → a ≡ b
same_sides L L h = refl
same_sides L R h = absurd (false≢true (sym (h Left)))
same_sides L B h = absurd (false≢true (h Right))
same_sides R L h = absurd (false≢true (h Left))
same_sides R R h = refl
same_sides R B h = absurd (false≢true (h Left))
same_sides B L h = absurd (false≢true (sym (h Right)))
same_sides B R h = absurd (false≢true (sym (h Left)))
same_sides B B h = refl

pub is_same : (a b : Side) → a ≡ b → same_side a b ≡ true
is_same L b e = ap (same_side L) (sym e)
is_same R b e = ap (same_side R) (sym e)
is_same B b e = ap (same_side B) (sym e)

-- a side that a row has
abbrev pub some_side : Side → LinkSide
some_side L = Left
some_side R = Right
some_side B = Left

pub has_some : (a : Side) → has_side a (some_side a) ≡ true
has_some L = refl
has_some R = refl
has_some B = refl

-- ---- what a row stands for

-- the row is of the class and the asset, and over the millimetre
pub record IsOver (r : Span) (class : Name) (asset j : ℕ) : Type 0 where
  pub of_class : r.class ≡ class
  pub of_asset : r.asset ≡ asset
  pub low : r.from ≤ j
  pub high : j < r.to

pub over : (r : Span) (class : Name) (asset j : ℕ) (s : LinkSide) → has_member r class asset j s ≡ true → IsOver r class asset j
over r class asset j s h =
    let a = and_parts (same_name r.class class) (stands_for r asset j s) h in
    let b = and_parts (nat_eq r.asset asset) (between r.from r.to r.side j s) a.1 in
    let c = and_parts (nat_le r.from j && nat_lt j r.to) (has_side r.side s) b.1 in
    let d = and_parts (nat_le r.from j) (nat_lt j r.to) c.0 in
    record { of_class = (bytes_decides r.class class).0 a.0; of_asset = eqb-true r.asset asset b.0; low = leb-true r.from j d.0; high = ltb-true j r.to d.1 }

-- there it stands for its sides
pub its_sides : (r : Span) (class : Name) (asset j : ℕ) (s : LinkSide) → IsOver r class asset j → has_member r class asset j s ≡ has_side r.side s
its_sides r class asset j s o =
    λ i. (bytes_decides r.class class).1 o.of_class i && (eq-eqb r.asset asset o.of_asset i && ((le-leb r.from j o.low i && lt-ltb j r.to o.high i) && has_side r.side s))

-- ---- rows that are apart

pub data IsApart (r q : Span) : Type 0 where
  ahead : r.to < q.from → IsApart r q
  behind : q.to < r.from → IsApart r q
  touches : (r.to ≡ q.from) ⊎ (q.to ≡ r.from) → same_side r.side q.side ≡ false → IsApart r q

pub apart : (r q : Span) → are_apart r q ≡ true → r.asset ≡ q.asset → IsApart r q
apart r q h e = by (or_cases (not (nat_eq r.asset q.asset)) (same_name r.class q.class && rest) h)
  where
    touch : Bool
    touch = (nat_eq r.to q.from || nat_eq q.to r.from) && not (same_side r.side q.side)

    rest : Bool
    rest = nat_lt r.to q.from || nat_lt q.to r.from || touch

    meet : (nat_eq r.to q.from ≡ true) ⊎ (nat_eq q.to r.from ≡ true) → (r.to ≡ q.from) ⊎ (q.to ≡ r.from)
    meet (inl k) = inl (eqb-true r.to q.from k)
    meet (inr k) = inr (eqb-true q.to r.from k)

    inner : (nat_lt r.to q.from ≡ true) ⊎ (nat_lt q.to r.from ≡ true) → IsApart r q
    inner (inl k) = ahead (ltb-true r.to q.from k)
    inner (inr k) = behind (ltb-true q.to r.from k)

    outer : ((nat_lt r.to q.from || nat_lt q.to r.from) ≡ true) ⊎ (touch ≡ true) → IsApart r q
    outer (inl k) = inner (or_cases (nat_lt r.to q.from) (nat_lt q.to r.from) k)
    outer (inr k) =
        let both = and_parts (nat_eq r.to q.from || nat_eq q.to r.from) (not (same_side r.side q.side)) k in
        touches (meet (or_cases (nat_eq r.to q.from) (nat_eq q.to r.from) both.0)) (not-true (same_side r.side q.side) both.1)

    by : (not (nat_eq r.asset q.asset) ≡ true) ⊎ ((same_name r.class q.class && rest) ≡ true) → IsApart r q
    by (inl k) = absurd (both_ways (nat_eq r.asset q.asset) (not-true (nat_eq r.asset q.asset) k) (eq-eqb r.asset q.asset e))
    by (inr k) = outer (or_cases (nat_lt r.to q.from || nat_lt q.to r.from) touch (and_parts (same_name r.class q.class) rest k).1)

-- two rows of one asset over one millimetre are not apart
not_both : (r q : Span) (class : Name) (asset j : ℕ) → IsOver r class asset j → IsOver q class asset j → IsApart r q → ⊥
not_both r q class asset j o u (ahead k) = let a = o.high in let b = u.low in omega (arith, a, b, k)
not_both r q class asset j o u (behind k) = let a = o.low in let b = u.high in omega (arith, a, b, k)
not_both r q class asset j o u (touches (inl k) s) = let a = o.high in let b = u.low in omega (arith, a, b, k)
not_both r q class asset j o u (touches (inr k) s) = let a = o.low in let b = u.high in omega (arith, a, b, k)

-- one row is over a millimetre
pub one_over : (rows : List Span) (r q : Span) (class : Name) (asset j : ℕ) → each_two are_apart rows ≡ true → In r rows → In q rows → IsOver r class asset j → IsOver q class asset j → r ≡ q
one_over rows r q class asset j h m n o u = by (two_at are_apart r q rows h m n)
  where
    by : (r ≡ q) ⊎ ((are_apart r q ≡ true) ⊎ (are_apart q r ≡ true)) → r ≡ q
    by (inl e) = e
    by (inr (inl k)) = absurd (not_both r q class asset j o u (apart r q k (o.of_asset ∙ sym u.of_asset)))
    by (inr (inr k)) = absurd (not_both q r class asset j u o (apart q r k (u.of_asset ∙ sym o.of_asset)))

-- where a row is over a millimetre, its sides are what is held there
pub held_there : (rows : List Span) (r : Span) (class : Name) (asset j : ℕ) (s : LinkSide) → each_two are_apart rows ≡ true → In r rows → IsOver r class asset j → is_member rows class asset j s ≡ has_side r.side s
held_there rows r class asset j s h m o = by (cases_Bool (has_side r.side s)) (cases_Bool (is_member rows class asset j s))
  where
    by : (has_side r.side s ≡ true) ⊎ (has_side r.side s ≡ false) → (is_member rows class asset j s ≡ true) ⊎ (is_member rows class asset j s ≡ false)
        → is_member rows class asset j s ≡ has_side r.side s
    by (inl a) (inl b) = b ∙ sym a
    by (inr a) (inr b) = b ∙ sym a
    by (inl a) (inr b) = absurd (both_ways (is_member rows class asset j s) b (any_of (λ q. has_member q class asset j s) r rows m (its_sides r class asset j s o ∙ a)))
    by (inr a) (inl b) =
        let found = any_found (λ q. has_member q class asset j s) rows b in
        let same = one_over rows r found.0 class asset j h m found.1 o (over found.0 class asset j s found.2) in
        absurd (both_ways (has_side r.side s) a (sym (its_sides r class asset j s o) ∙ ap (λ q. has_member q class asset j s) same ∙ found.2))

-- ---- the order of rows

-- a row is not behind the other
pub data IsNotBehind (r q : Span) : Type 0 where
  by_class : name_before r.class q.class ≡ true → IsNotBehind r q
  by_asset : r.class ≡ q.class → r.asset < q.asset → IsNotBehind r q
  by_start : r.class ≡ q.class → r.asset ≡ q.asset → r.from ≤ q.from → IsNotBehind r q

not_behind : (r q : Span) → span_before r q ≡ true → IsNotBehind r q
not_behind r q h = by (or_cases (name_before r.class q.class) (same_name r.class q.class && number) h)
  where
    number : Bool
    number = nat_lt r.asset q.asset || (nat_eq r.asset q.asset && nat_lt r.from q.from)

    inner : r.class ≡ q.class → (nat_lt r.asset q.asset ≡ true) ⊎ ((nat_eq r.asset q.asset && nat_lt r.from q.from) ≡ true) → IsNotBehind r q
    inner e (inl k) = by_asset e (ltb-true r.asset q.asset k)
    inner e (inr k) =
        let both = and_parts (nat_eq r.asset q.asset) (nat_lt r.from q.from) k in
        let less = ltb-true r.from q.from both.1 in
        by_start e (eqb-true r.asset q.asset both.0) (omega (arith, less))

    by : (name_before r.class q.class ≡ true) ⊎ ((same_name r.class q.class && number) ≡ true) → IsNotBehind r q
    by (inl k) = by_class k
    by (inr k) =
        let both = and_parts (same_name r.class q.class) number k in
        inner ((bytes_decides r.class q.class).0 both.0) (or_cases (nat_lt r.asset q.asset) (nat_eq r.asset q.asset && nat_lt r.from q.from) both.1)

-- the first row is behind none
first : (r q : Span) (rows : List Span) → each_two span_before (r ∷ rows) ≡ true → In q (r ∷ rows) → IsNotBehind r q
first r q rows h (inl e) = by_start (ap (λ z. z.class) (sym e)) (ap (λ z. z.asset) (sym e)) (let k : r.from ≡ q.from = ap (λ z. z.from) (sym e) in omega (arith, k))
first r q rows h (inr m) = not_behind r q (all_at (span_before r) q rows (and_parts (list_all (span_before r) rows) (each_two span_before rows) h).0 m)

-- nor behind what a row stands for
up_to : (r q : Span) (y : Span) → IsNotBehind r q → IsOver q y.class y.asset y.from → IsNotBehind r y
up_to r q y (by_class k) o = by_class (subst (λ c. name_before r.class c ≡ true) o.of_class k)
up_to r q y (by_asset c k) o = let e = o.of_asset in by_asset (c ∙ o.of_class) (omega (arith, k, e))
up_to r q y (by_start c a k) o = let e = o.low in by_start (c ∙ o.of_class) (a ∙ o.of_asset) (omega (arith, k, e))

pub less_one : (m n : Name) → name_before m n ≡ true → m ≡ n → ⊥
less_one m n h e = by (name_cmp m n) (sym (ap (λ k. is_eq (name_cmp m k)) (sym e) ∙ ap is_eq (tied_itself nat_list_cmp_total m))) h
  where
    by : (o : Ordering) → true ≡ is_eq o → is_lt o ≡ true → ⊥
    by Less a b = false≢true (sym a)
    by Equal a b = false≢true b
    by Greater a b = false≢true b

pub less_both : (m n : Name) → name_before m n ≡ true → name_before n m ≡ true → ⊥
less_both m n h k = by (name_cmp m n) (name_cmp n m) (nat_list_cmp_total.antisymm m n) h k
  where
    by : (o p : Ordering) → o ≡ ordering_reverse p → is_lt o ≡ true → is_lt p ≡ true → ⊥
    by o Less e a b = false≢true (sym (ap is_lt e) ∙ a)
    by o Equal e a b = false≢true b
    by o Greater e a b = false≢true b

-- two rows of which neither is behind the other begin together
pub record BeginTogether (x y : Span) : Type 0 where
  pub class : x.class ≡ y.class
  pub asset : x.asset ≡ y.asset
  pub from : x.from ≡ y.from

together : (x y : Span) → IsNotBehind x y → IsNotBehind y x → BeginTogether x y
together x y (by_class h) (by_class k) = absurd (less_both x.class y.class h k)
together x y (by_class h) (by_asset c k) = absurd (less_one x.class y.class h (sym c))
together x y (by_class h) (by_start c a k) = absurd (less_one x.class y.class h (sym c))
together x y (by_asset c h) (by_class k) = absurd (less_one y.class x.class k (sym c))
together x y (by_asset c h) (by_asset d k) = absurd (omega (arith, h, k))
together x y (by_asset c h) (by_start d a k) = absurd (omega (arith, h, a))
together x y (by_start c a h) (by_class k) = absurd (less_one y.class x.class k (sym c))
together x y (by_start c a h) (by_asset d k) = absurd (omega (arith, a, k))
together x y (by_start c a h) (by_start d b k) = record { class = c; asset = a; from = omega (arith, h, k) }

-- ---- uniqueness

-- what a row stands for at a millimetre is stood for by a row of the other list
pub counterpart : (xs ys : List Span) (x : Span) (j : ℕ) → SameMembers xs ys → In x xs → IsOver x x.class x.asset j → (q : Span) × In q ys × IsOver q x.class x.asset j
counterpart xs ys x j same m o =
    let s = some_side x.side in
    let found = any_found (λ q. has_member q x.class x.asset j s) ys
    (sym (same x.class x.asset j s) ∙ any_of (λ q. has_member q x.class x.asset j s) x xs m (its_sides x x.class x.asset j s o ∙ has_some x.side)) in
    (found.0, found.1, over found.0 x.class x.asset j s found.2)

pub at_start : (r : Span) → r.from < r.to → IsOver r r.class r.asset r.from
at_start r h = record { of_class = refl; of_asset = refl; low = omega arith; high = h }

filled : (r : Span) (rows : List Span) → list_all is_row rows ≡ true → In r rows → r.from < r.to
filled r rows h m = ltb-true r.from r.to (and_parts (nat_lt r.from r.to) _ (all_at is_row r rows h m)).0

pub record Kept (rows : List Span) : Type 0 where
  pub each : list_all is_row rows ≡ true
  pub order : each_two span_before rows ≡ true
  pub apart : each_two are_apart rows ≡ true

pub kept : (rows : List Span) → are_rows rows ≡ true → Kept rows
kept rows h =
    let a = and_parts (list_all is_row rows && each_two span_before rows) (each_two are_apart rows) h in
    let b = and_parts (list_all is_row rows) (each_two span_before rows) a.0 in
    record { each = b.0; order = b.1; apart = a.1 }

later_rows : (x : Span) (xs : List Span) → Kept (x ∷ xs) → Kept xs
later_rows x xs k = record {
  each = (and_parts (is_row x) (list_all is_row xs) k.each).1;
  order = (and_parts (list_all (span_before x) xs) (each_two span_before xs) k.order).1;
  apart = (and_parts (list_all (are_apart x) xs) (each_two are_apart xs) k.apart).1;
}

module _ (x y : Span) (xs ys : List Span) (kx : Kept (x ∷ xs)) (ky : Kept (y ∷ ys)) (same : SameMembers (x ∷ xs) (y ∷ ys)) where
  fx : x.from < x.to
  fx = filled x (x ∷ xs) kx.each (inl refl)

  fy : y.from < y.to
  fy = filled y (y ∷ ys) ky.each (inl refl)

  start : BeginTogether x y
  start =
      let q = counterpart (x ∷ xs) (y ∷ ys) x x.from same (inl refl) (at_start x fx) in
      let r = counterpart (y ∷ ys) (x ∷ xs) y y.from (λ class asset j s. sym (same class asset j s)) (inl refl) (at_start y fy) in
      together x y (up_to x r.0 y (first x r.0 xs kx.order r.1) r.2) (up_to y q.0 x (first y q.0 ys ky.order q.1) q.2)

  over_y : (j : ℕ) → y.from ≤ j → j < y.to → IsOver y x.class x.asset j
  over_y j low high = record { of_class = sym start.class; of_asset = sym start.asset; low = low; high = high }

  over_x : (j : ℕ) → x.from ≤ j → j < x.to → IsOver x x.class x.asset j
  over_x j low high = record { of_class = refl; of_asset = refl; low = low; high = high }

  side : x.side ≡ y.side
  side = same_sides x.side y.side (λ s.
      let e = start.from in
      sym (held_there (x ∷ xs) x x.class x.asset x.from s kx.apart (inl refl) (over_x x.from (omega arith) fx))
      ∙ same x.class x.asset x.from s
      ∙ held_there (y ∷ ys) y x.class x.asset x.from s ky.apart (inl refl) (over_y x.from (omega (arith, e)) (omega (arith, e, fy))))

-- a row does not end before the other
not_shorter : (x y : Span) (xs ys : List Span) → Kept (x ∷ xs) → Kept (y ∷ ys) → SameMembers (x ∷ xs) (y ∷ ys) → BeginTogether x y → x.side ≡ y.side → x.from < x.to → x.to < y.to → ⊥
not_shorter x y xs ys kx ky same start side fx less =
    let e = start.from in
    let oy : IsOver y y.class y.asset x.to = record { of_class = refl; of_asset = refl; low = omega (arith, e, fx); high = less } in
    let found = counterpart (y ∷ ys) (x ∷ xs) y x.to (λ class asset j s. sym (same class asset j s)) (inl refl) oy in
    let q = found.0 in
    let o = found.2 in
    let its : q.side ≡ y.side = same_sides q.side y.side (λ s.
    sym (held_there (x ∷ xs) q y.class y.asset x.to s kx.apart found.1 o) ∙ same y.class y.asset x.to s ∙ held_there (y ∷ ys) y y.class y.asset x.to s ky.apart (inl refl) oy) in
    by q o (side ∙ sym its) found.1 (two_at are_apart x q (x ∷ xs) kx.apart (inl refl) found.1)
  where
    clash : (q : Span) → IsOver q y.class y.asset x.to → x.side ≡ q.side → IsApart x q → ⊥
    clash q o s (ahead k) = let a = o.low in omega (arith, a, k)
    clash q o s (behind k) = let a = o.high in omega (arith, a, k, fx)
    clash q o s (touches t k) = both_ways (same_side x.side q.side) k (is_same x.side q.side s)

    clash_too : (q : Span) → IsOver q y.class y.asset x.to → x.side ≡ q.side → IsApart q x → ⊥
    clash_too q o s (ahead k) = let a = o.high in omega (arith, a, k, fx)
    clash_too q o s (behind k) = let a = o.low in omega (arith, a, k)
    clash_too q o s (touches t k) = both_ways (same_side q.side x.side) k (is_same q.side x.side (sym s))

    by : (q : Span) → IsOver q y.class y.asset x.to → x.side ≡ q.side → In q (x ∷ xs) → (x ≡ q) ⊎ ((are_apart x q ≡ true) ⊎ (are_apart q x ≡ true)) → ⊥
    by q o s m (inl k) = let a = o.high in let t : x.to ≡ q.to = ap (λ z. z.to) k in omega (arith, a, t)
    by q o s m (inr (inl k)) = clash q o s (apart x q k (start.asset ∙ sym o.of_asset))
    by q o s m (inr (inr k)) = clash_too q o s (apart q x k (o.of_asset ∙ sym start.asset))

one_row : (x y : Span) (xs ys : List Span) → Kept (x ∷ xs) → Kept (y ∷ ys) → SameMembers (x ∷ xs) (y ∷ ys) → x ≡ y
one_row x y xs ys kx ky same =
    let b = start x y xs ys kx ky same in
    let s = side x y xs ys kx ky same in
    let e = ends b s (cases_order x.to y.to) in
    λ i. record { asset = b.asset i; class = b.class i; from = b.from i; to = e i; side = s i }
  where
    ends : BeginTogether x y → x.side ≡ y.side → (x.to ≡ y.to) ⊎ ((x.to < y.to) ⊎ (y.to < x.to)) → x.to ≡ y.to
    ends b s (inl e) = e
    ends b s (inr (inl k)) = absurd (not_shorter x y xs ys kx ky same b s (fx x y xs ys kx ky same) k)
    ends b s (inr (inr k)) = absurd (not_shorter y x ys xs ky kx (λ class asset j t. sym (same class asset j t)) (record { class = sym b.class; asset = sym b.asset; from = sym b.from }) (sym s) (fy x y xs ys kx ky same) k)

-- the rows behind the first have the members that it has not
behind_first : (x : Span) (xs : List Span) → Kept (x ∷ xs) → (class : Name) (asset j : ℕ) (s : LinkSide) → is_member xs class asset j s ≡ (is_member (x ∷ xs) class asset j s && not (has_member x class asset j s))
behind_first x xs k class asset j s = by (cases_Bool (has_member x class asset j s)) (cases_Bool (is_member xs class asset j s))
  where
    whole : Bool
    whole = is_member xs class asset j s

    by : (has_member x class asset j s ≡ true) ⊎ (has_member x class asset j s ≡ false) → (whole ≡ true) ⊎ (whole ≡ false) → whole ≡ ((has_member x class asset j s || whole) && not (has_member x class asset j s))
    by (inl a) (inl b) =
        let found = any_found (λ q. has_member q class asset j s) xs b in
        let o = over x class asset j s a in
        let u = over found.0 class asset j s found.2 in
        absurd (not_both x found.0 class asset j o u (apart x found.0 (all_at (are_apart x) found.0 xs (and_parts (list_all (are_apart x) xs) (each_two are_apart xs) k.apart).0 found.1) (o.of_asset ∙ sym u.of_asset)))
    by (inl a) (inr b) = b ∙ sym (λ i. (a i || whole) && not (a i))
    by (inr a) b = sym ((λ i. (a i || whole) && not (a i)) ∙ and_true whole)
      where
        and_true : (c : Bool) → (c && true) ≡ c
        and_true true = refl
        and_true false = refl

rows_one : (xs ys : List Span) → Kept xs → Kept ys → SameMembers xs ys → xs ≡ ys
rows_one [] [] kx ky same = refl
rows_one [] (y ∷ ys) kx ky same = absurd ((counterpart (y ∷ ys) [] y y.from (λ class asset j s. sym (same class asset j s)) (inl refl) (at_start y (filled y (y ∷ ys) ky.each (inl refl)))).1)
rows_one (x ∷ xs) [] kx ky same = absurd ((counterpart (x ∷ xs) [] x x.from same (inl refl) (at_start x (filled x (x ∷ xs) kx.each (inl refl)))).1)
rows_one (x ∷ xs) (y ∷ ys) kx ky same =
    let e = one_row x y xs ys kx ky same in
    let rest = rows_one xs ys (later_rows x xs kx) (later_rows y ys ky) (λ class asset j s.
    behind_first x xs kx class asset j s
    ∙ (λ i. same class asset j s i && not (has_member (e i) class asset j s))
    ∙ sym (behind_first y ys ky class asset j s)) in
    λ i. e i ∷ rest i

pub rows_are_one : RowsAreOne
rows_are_one xs ys h k same = rows_one xs ys (kept xs h) (kept ys k) same
