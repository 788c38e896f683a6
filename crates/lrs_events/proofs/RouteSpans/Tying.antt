-- Lanes stay tied to rows.
use Rattle.std.proofs.Common.{◌≡◌, ℕ, zero, suc, ◌+◌, ◌<◌, ◌≤◌, Bool, true, false, ◌⊎◌, inl, inr, List, [], ◌∷◌, ◌++◌, length, get_or, take, length-append, refl, sym, ap, subst, ◌∙◌, arith}
use Rattle.std.specs.Prelude.{◌||◌, ◌&&◌, not}
use Rattle.std.specs.List.{list_any}
use Rattle.std.specs.Cmp.Lexicographic.{bytes_decides}
use Rattle.std.proofs.lemmas.Bool.{false≢true, both_ways, and_parts, or_cases, or_left, or_right, cases_lt, cases_Bool}
use Rattle.std.proofs.lemmas.List.{take_more}
use Rattle.std.proofs.lemmas.List.Folds.{list_any-append}
use Rattle.lrs_measure.specs.Lists.{each_two}
use Rattle.lrs_measure.specs.Texts.{Name, same_name}
use Rattle.lrs_events.specs.declared.side.LinkSide.{LinkSide}
use Rattle.lrs_events.specs.declared.side.LinkSide.TheVariants.{Left, Right}
use Rattle.lrs_events.specs.declared.span.Span.{Span}
use Rattle.lrs_events.specs.Changes.{same_row, has_row, changed}
use Rattle.lrs_events.proofs.Row.Differing.{one_row}
use Rattle.lrs_events.specs.Members.{has_side}
use Rattle.lrs_events.specs.Spans.{are_rows, span_before}
use Rattle.lrs_events.specs.declared.spans.lanes.ClassLanes.{ClassLanes}
use Rattle.lrs_events.specs.LaneLists.Order.{place_before}
use Rattle.lrs_events.specs.RouteSpans.LanesOfRows.{is_on, has_lanes, IsClass, AreTied, AreKept}
use Rattle.lrs_events.specs.RouteSpans.OpenRows.{SameClass, SameLanes, StayTied, IsChangedClass, CanChange, AreChanged, HaveRoom}
use Rattle.lrs_events.proofs.RouteSpans.Holding.{has_row-changed, has_row-lane, lane_in_order}

-- whether a class has lanes depends on the classes alone
pub same_classes : (xs ys : List ClassLanes) → length ys ≡ length xs → ((k : ℕ) (d : ClassLanes) → k < length xs → (get_or ys k d).class ≡ (get_or xs k d).class) → (c : Name) → has_lanes ys c ≡ has_lanes xs c
same_classes [] [] e h c = refl
same_classes [] (y ∷ ys) e h c = absurd (omega (arith, e))
same_classes (x ∷ xs) [] e h c = absurd (omega (arith, e))
same_classes (x ∷ xs) (y ∷ ys) e h c = λ j. same_name (h 0 x (omega arith) j) c || same_classes xs ys (omega (arith, e)) (λ k d l. h (suc k) d (omega (arith, l))) c j

same_class : (rows : List Span) (l m : ClassLanes) → SameClass l m → IsClass rows l → IsClass rows m
same_class rows l m s h = record {
  left = λ r. (λ j. has_row (s.left j) r) ∙ h.left r ∙ (λ j. has_row rows r && is_on (sym s.class j) Left r);
  right = λ r. (λ j. has_row (s.right j) r) ∙ h.right r ∙ (λ j. has_row rows r && is_on (sym s.class j) Right r);
  left_order = ap (each_two place_before) s.left ∙ h.left_order;
  right_order = ap (each_two place_before) s.right ∙ h.right_order;
}

pub stay_tied : (xs ys : List ClassLanes) → SameLanes xs ys → StayTied xs ys
stay_tied xs ys s rows t = record {
  each = λ k d l. same_class rows (get_or xs k d) (get_or ys k d) (s.each k d (inside k l)) (t.each k d (inside k l));
  all = λ r h. same_classes xs ys s.count (λ k d l. (s.each k d l).class) r.class ∙ t.all r h;
  once = λ i j d l m e. t.once i j d l (inside j m) (sym (s.each i d (first i j l (inside j m))).class ∙ e ∙ (s.each j d (inside j m)).class);
}
  where
    inside : (k : ℕ) → k < length ys → k < length xs
    inside k l = let c = s.count in omega (arith, l, c)

    first : (i j : ℕ) → i < j → j < length xs → i < length xs
    first i j l m = omega (arith, l, m)

pub same_has : (xs ys : List ClassLanes) → SameLanes xs ys → (c : Name) → has_lanes ys c ≡ has_lanes xs c
same_has xs ys s c = same_classes xs ys s.count (λ k d l. (s.each k d l).class) c

pub kept_same : (rows new : List Span) (xs ys zs : List ClassLanes) → new ≡ rows → AreKept rows xs → StayTied xs ys → SameLanes ys zs → AreKept new zs
kept_same rows new xs ys zs e k f s = record {
  canonical = ap are_rows e ∙ k.canonical;
  tied = stay_tied ys zs s new (f new (subst (λ (z : List Span). AreTied z xs) (sym e) k.tied));
}

-- ---- a class gets lanes

module _ {X : Type 0} where
  get_front : (xs : List X) (l : X) (k : ℕ) (d : X) → k < length xs → get_or (xs ++ l ∷ []) k d ≡ get_or xs k d
  get_front [] l k d h = absurd (omega (arith, h))
  get_front (x ∷ xs) l zero d h = refl
  get_front (x ∷ xs) l (suc k) d h = get_front xs l k d (omega (arith, h))

  get_last : (xs : List X) (l : X) (d : X) → get_or (xs ++ l ∷ []) (length xs) d ≡ l
  get_last [] l d = refl
  get_last (x ∷ xs) l d = get_last xs l d

  pub none_at : (p : X → Bool) (xs : List X) (k : ℕ) (d : X) → list_any p xs ≡ false → k < length xs → p (get_or xs k d) ≡ true → ⊥
  none_at p [] k d h l e = omega (arith, l)
  none_at p (x ∷ xs) zero d h l e = both_ways (p x || list_any p xs) h (or_left (p x) (list_any p xs) e)
  none_at p (x ∷ xs) (suc k) d h l e = none_at p xs k d (rest (p x) h) (omega (arith, l)) e
    where
      rest : (b : Bool) → (b || list_any p xs) ≡ false → list_any p xs ≡ false
      rest true g = absurd (false≢true (sym g))
      rest false g = g

pub stay_added : (xs : List ClassLanes) (l : ClassLanes) → has_lanes xs l.class ≡ false → l.left.rows ≡ [] → l.right.rows ≡ [] → StayTied xs (xs ++ l ∷ [])
stay_added xs l fresh empty_left empty_right rows t = record {
  each = λ k d n. each k d (cases_lt k (length xs)) n;
  all = λ r h. list_any-append (λ (m : ClassLanes). same_name m.class r.class) xs (l ∷ []) ∙ or_left (has_lanes xs r.class) (has_lanes (l ∷ []) r.class) (t.all r h);
  once = λ i j d n m. once i j d n (cases_lt j (length xs)) m;
}
  where
    nothing : (s : LinkSide) (r : Span) → false ≡ (has_row rows r && is_on l.class s r)
    nothing s r = by (cases_Bool (has_row rows r)) (cases_Bool (same_name r.class l.class))
      where
        off : (a b : Bool) → a ≡ false → false ≡ (a && b)
        off a b e = sym (λ j. e j && b)

        off_too : (a b c : Bool) → b ≡ false → false ≡ (a && (b && c))
        off_too true b c e = sym (λ j. e j && c)
        off_too false b c e = refl

        by : (has_row rows r ≡ true) ⊎ (has_row rows r ≡ false) → (same_name r.class l.class ≡ true) ⊎ (same_name r.class l.class ≡ false) → false ≡ (has_row rows r && is_on l.class s r)
        by (inr a) b = off (has_row rows r) (is_on l.class s r) a
        by (inl a) (inr b) = off_too (has_row rows r) (same_name r.class l.class) (has_side r.side s) b
        by (inl a) (inl b) = absurd (both_ways (has_lanes xs l.class) fresh (subst (λ (n : Name). has_lanes xs n ≡ true) ((bytes_decides r.class l.class).0 b) (t.all r a)))

    new : IsClass rows l
    new = record {
      left = λ r. (λ j. has_row (empty_left j) r) ∙ nothing Left r;
      right = λ r. (λ j. has_row (empty_right j) r) ∙ nothing Right r;
      left_order = ap (each_two place_before) empty_left;
      right_order = ap (each_two place_before) empty_right;
    }

    each : (k : ℕ) (d : ClassLanes) → (k < length xs) ⊎ (length xs ≤ k) → k < length (xs ++ l ∷ []) → IsClass rows (get_or (xs ++ l ∷ []) k d)
    each k d (inl n) h = subst (IsClass rows) (sym (get_front xs l k d n)) (t.each k d n)
    each k d (inr n) h =
        let e : k ≡ length xs = omega (arith, n, h, length-append xs (l ∷ [])) in
        subst (IsClass rows) (sym ((λ j. get_or (xs ++ l ∷ []) (e j) d) ∙ get_last xs l d)) new

    once : (i j : ℕ) (d : ClassLanes) → i < j → (j < length xs) ⊎ (length xs ≤ j) → j < length (xs ++ l ∷ []) → (get_or (xs ++ l ∷ []) i d).class ≡ (get_or (xs ++ l ∷ []) j d).class → ⊥
    once i j d n (inl m) h e = t.once i j d n m (sym (ap (λ (z : ClassLanes). z.class) (get_front xs l i d (omega (arith, n, m)))) ∙ e ∙ ap (λ (z : ClassLanes). z.class) (get_front xs l j d m))
    once i j d n (inr m) h e =
        let q : j ≡ length xs = omega (arith, m, h, length-append xs (l ∷ [])) in
        let first : i < length xs = omega (arith, n, q) in
        none_at (λ (z : ClassLanes). same_name z.class l.class) xs i d fresh first
        ((bytes_decides (get_or xs i d).class l.class).1
        (sym (ap (λ (z : ClassLanes). z.class) (get_front xs l i d first)) ∙ e ∙ ap (λ (z : ClassLanes). z.class) ((λ w. get_or (xs ++ l ∷ []) (q w) d) ∙ get_last xs l d)))

pub added_has : (xs : List ClassLanes) (l : ClassLanes) (c : Name) → l.class ≡ c → has_lanes (xs ++ l ∷ []) c ≡ true
added_has xs l c e = list_any-append (λ (m : ClassLanes). same_name m.class c) xs (l ∷ []) ∙ or_right (has_lanes xs c) (has_lanes (l ∷ []) c) (or_left (same_name l.class c) false ((bytes_decides l.class c).1 e))

-- the class of one more row has lanes
pub one_more_known : (come : List Span) (i : ℕ) (row : Span) (xs ys : List ClassLanes) → i < length come → row ≡ get_or come i row → ((r : Span) → has_row (take i come) r ≡ true → has_lanes xs r.class ≡ true)
    → ((c : Name) → has_lanes xs c ≡ true → has_lanes ys c ≡ true) → has_lanes ys row.class ≡ true → (r : Span) → has_row (take (i + 1) come) r ≡ true → has_lanes ys r.class ≡ true
one_more_known come i row xs ys l e known keeps own r h =
    by (or_cases (has_row (take i come) r) (has_row (get_or come i row ∷ []) r) (sym (list_any-append (λ s. same_row s r) (take i come) (get_or come i row ∷ [])) ∙ ap (λ z. has_row z r) (sym (take_more come i row l)) ∙ h))
  where
    here : (same_row (get_or come i row) r ≡ true) ⊎ (false ≡ true) → has_lanes ys r.class ≡ true
    here (inl q) = subst (λ (z : Span). has_lanes ys z.class ≡ true) (e ∙ one_row (get_or come i row) r q) own
    here (inr q) = absurd (false≢true q)

    by : (has_row (take i come) r ≡ true) ⊎ (has_row (get_or come i row ∷ []) r ≡ true) → has_lanes ys r.class ≡ true
    by (inl q) = keeps r.class (known r q)
    by (inr q) = here (or_cases (same_row (get_or come i row) r) false q)

-- ---- a change of lanes

module _ (gone come rows : List Span) (h : are_rows (changed span_before gone come rows) ≡ true) where
  pub can_change : (xs : List ClassLanes) → AreTied rows xs → HaveRoom come xs → (k : ℕ) (d : ClassLanes) → k < length xs → CanChange gone come (get_or xs k d)
  can_change xs t o k d l =
      let c = t.each k d l in
      let m = get_or xs k d in
      record {
        room = o.each k d l;
        left = lane_in_order (is_on m.class Left) gone come rows m.left.rows h c.left c.left_order;
        right = lane_in_order (is_on m.class Right) gone come rows m.right.rows h c.right c.right_order;
      }

  changed_class : (l m : ClassLanes) → IsClass rows l → CanChange gone come l → IsChangedClass gone come l m → IsClass (changed span_before gone come rows) m
  changed_class l m c o e = record {
    left = λ r. (λ j. has_row (e.left j) r) ∙ has_row-lane (is_on l.class Left) span_before place_before gone come rows l.left.rows c.left r ∙ (λ j. has_row (changed span_before gone come rows) r && is_on (sym e.class j) Left r);
    right = λ r. (λ j. has_row (e.right j) r) ∙ has_row-lane (is_on l.class Right) span_before place_before gone come rows l.right.rows c.right r ∙ (λ j. has_row (changed span_before gone come rows) r && is_on (sym e.class j) Right r);
    left_order = ap (each_two place_before) e.left ∙ o.left;
    right_order = ap (each_two place_before) e.right ∙ o.right;
  }

  pub stay_changed : (xs ys : List ClassLanes) → AreTied rows xs → HaveRoom come xs → AreChanged gone come xs ys → AreTied (changed span_before gone come rows) ys
  stay_changed xs ys t o a = record {
    each = λ k d l. let n = inside k l in changed_class (get_or xs k d) (get_or ys k d) (t.each k d n) (can_change xs t o k d n) (a.each k d n);
    all = λ r m. same_classes xs ys a.count (λ k d l. (a.each k d l).class) r.class ∙ known r (or_cases (has_row rows r && not (has_row gone r)) (has_row come r) (sym (has_row-changed span_before gone come rows r) ∙ m));
    once = λ i j d l m e. let n = inside j m in t.once i j d l n (sym (a.each i d (omega (arith, l, n))).class ∙ e ∙ (a.each j d n).class);
  }
    where
      inside : (k : ℕ) → k < length ys → k < length xs
      inside k l = let c = a.count in omega (arith, l, c)

      known : (r : Span) → ((has_row rows r && not (has_row gone r)) ≡ true) ⊎ (has_row come r ≡ true) → has_lanes xs r.class ≡ true
      known r (inl k) = t.all r (and_parts (has_row rows r) (not (has_row gone r)) k).0
      known r (inr k) = o.all r k

  pub kept_changed : (new : List Span) (xs ys : List ClassLanes) → new ≡ changed span_before gone come rows → AreTied rows xs → HaveRoom come xs → AreChanged gone come xs ys → AreKept new ys
  kept_changed new xs ys e t o a = subst (λ (z : List Span). AreKept z ys) (sym e) (record { canonical = h; tied = stay_changed xs ys t o a })

-- lanes are set to what a change makes of them, one after the other
pub record HasChanged (gone come : List Span) (i : ℕ) (xs ys : List ClassLanes) : Type 0 where
  pub count : length ys ≡ length xs
  pub each : (k : ℕ) (d : ClassLanes) → k < i → IsChangedClass gone come (get_or xs k d) (get_or ys k d)
  pub rest : (k : ℕ) (d : ClassLanes) → i ≤ k → get_or ys k d ≡ get_or xs k d
