-- The rows of a route that goes on as another does.
use Rattle.std.proofs.Common.{◌≡◌, ℕ, ◌+◌, ◌-◌, ◌<◌, ◌≤◌, Bool, true, false, ◌⊎◌, inl, inr, List, [], ◌∷◌, ◌++◌, length, get_or, take, drop, refl, sym, ap, subst, ◌∙◌, arith}
use Rattle.std.specs.Prelude.{not, nat_eq, nat_le, slice_range}
use Rattle.std.proofs.Math.Seq.{take-add}
use Rattle.std.specs.List.{list_all}
use Rattle.std.specs.Cmp.Lexicographic.{bytes_decides}
use Rattle.std.proofs.lemmas.Bool.{both_ways, not-true, or_cases, leb-true, eq-eqb, cases_eq, cases_Bool, or_left, or_right, and_from, le-leb, ne_eqb}
use Rattle.std.proofs.lemmas.List.{append_cancel_left, take_more, append-nil, take-append-drop, take_all}
use Rattle.lrs_measure.specs.Lists.{In, each_two}
use Rattle.lrs_measure.specs.Texts.{Name, same_name, name_before}
use Rattle.lrs_measure.specs.Limits.{longest_route}
use Rattle.lrs_measure.proofs.Members.{all_at, all_of, any_found, any_of, In-append_left, In-append_right, In-append_cases, In-take}
use Rattle.lrs_events.specs.declared.side.LinkSide.{LinkSide}
use Rattle.lrs_events.specs.declared.span.Span.{Span}
use Rattle.lrs_events.specs.Spans.{are_rows, is_row, span_before}
use Rattle.lrs_events.specs.Members.{has_side, has_member, is_member}
use Rattle.lrs_events.specs.Changes.{has_row, changed}
use Rattle.lrs_events.specs.Row.Members.{leaves_free, is_free}
use Rattle.lrs_events.specs.Row.Order.{IsLeft, by_class, by_asset, by_place, Joins, IsPlace, IsStart, IsAfter, alone, joined, grown}
use Rattle.lrs_events.specs.Row.Changes.{IsChange}
use Rattle.lrs_events.specs.Row.Joins.{moved, end_by, have_room, is_of_one_class, are_of_one_class, IsJoin, IsSeam, apart, goes_on, AddsSeam}
use Rattle.lrs_events.proofs.Row.Unique.{over, its_sides}
use Rattle.lrs_events.proofs.Row.Rows.{IsFull, IsAhead, Pairs, AreRows, BeginsFirst, begins_class, begins_asset, first_begins, rows_from, rows_are, full_from, left_place, pairs_append, pairs_front, pairs_across}
use Rattle.lrs_events.proofs.Row.Differing.{has_found, has_in}
use Rattle.lrs_events.proofs.Row.Replaced.{pairs_two}
use Rattle.lrs_events.proofs.Row.Fitting.{one_test, each_two-append, Fits, fits_elsewhere, In-changed, come-In, stay-In, is_change, changed_rows_are}

-- what is known of the two routes' rows
pub record AreTwo (shift : ℕ) (first second : List Span) : Type 0 where
  pub first_rows : AreRows first
  pub second_rows : AreRows second
  pub low : (r : Span) → In r first → r.to ≤ shift
  pub high : (r : Span) → In r second → r.to + shift ≤ longest_route
  pub one_class : (r s : Span) → In r first → In s second → r.asset ≡ s.asset → r.class ≡ s.class

pub two_from : (shift : ℕ) (first second : List Span) → are_rows first ≡ true → are_rows second ≡ true → end_by shift first ≡ true → have_room shift second ≡ true
    → are_of_one_class first second ≡ true → AreTwo shift first second
two_from shift first second h k e f c = record {
  first_rows = rows_from first h;
  second_rows = rows_from second k;
  low = λ r m. leb-true r.to shift (all_at (λ r. nat_le r.to shift) r first e m);
  high = λ r m. leb-true (r.to + shift) longest_route (all_at (λ r. nat_le (r.to + shift) longest_route) r second f m);
  one_class = λ r s m n a. by r s a (or_cases (not (nat_eq r.asset s.asset)) (same_name r.class s.class) (all_at (is_of_one_class r) s second (all_at (λ r. list_all (is_of_one_class r) second) r first c m) n));
}
  where
    by : (r s : Span) → r.asset ≡ s.asset → (not (nat_eq r.asset s.asset) ≡ true) ⊎ (same_name r.class s.class ≡ true) → r.class ≡ s.class
    by r s a (inl k) = absurd (both_ways (nat_eq r.asset s.asset) (not-true (nat_eq r.asset s.asset) k) (eq-eqb r.asset s.asset a))
    by r s a (inr k) = (bytes_decides r.class s.class).0 k

-- the moved row may be placed among the first
pub moved_free : (shift : ℕ) (first second : List Span) (r : Span) → AreTwo shift first second → In r second → is_free first (moved shift r) ≡ true
moved_free shift first second r t n = all_of (leaves_free (moved shift r)) first (λ q m. by q m (cases_eq q.asset r.asset))
  where
    by : (q : Span) → In q first → (q.asset ≡ r.asset) ⊎ (q.asset ≡ r.asset → ⊥) → leaves_free (moved shift r) q ≡ true
    by q m (inr k) = or_left _ _ (ap not (ne_eqb q.asset r.asset k))
    by q m (inl a) =
        let l = t.low q m in
        or_right (not (nat_eq q.asset r.asset)) _ (and_from (same_name q.class r.class) _ ((bytes_decides q.class r.class).1 (t.one_class q r m n a)) (or_left _ _ (le-leb q.to (r.from + shift) (omega (arith, l)))))

-- ---- one row

-- what the row of the list that the search found tells of all of them
pub seam_found : (first : List Span) (row : Span) (at start from : ℕ) (gone : List Span) → IsFull row → ((r : Span) → In r first → IsFull r) → IsPlace first at row → take at first ≡ take start first ++ gone
    → IsAfter (take start first) row gone from → IsSeam first row gone (grown row from row.to)
seam_found first row at start _ _ f g p e (alone n) = apart (λ r m j. by r j (In-append_cases r (take at first) (drop at first) (subst (In r) (sym (take-append-drop at first)) m)))
  where
    by : (r : Span) → Joins r row → In r (take at first) ⊎ In r (drop at first) → ⊥
    by r j (inl m) = n r (subst (In r) (e ∙ append-nil (take start first)) m) j
    by r j (inr m) =
        let l = left_place row r (p.behind r m) (sym j.of_class) (sym j.of_asset) in
        let a = j.at in let b = f.some in
        let c = (g r (subst (In r) (take-append-drop at first) (In-append_right r (take at first) (drop at first) m))).some in
        omega (arith, l, a, b, c)
seam_found first row at start _ _ f g p e (joined l j) = goes_on l (In-take l at first (subst (In l) (sym e) (In-append_right l (take start first) (l ∷ []) (inl refl)))) j

-- the row that comes for one of the second
pub data Comes (shift : ℕ) (first gone : List Span) (r : Span) : Span → Type 0 where
  comes_alone : ((l : Span) → In l first → Joins l (moved shift r) → ⊥) → Comes shift first gone r (moved shift r)
  comes_with : (l : Span) → In l first → In l gone → Joins l (moved shift r) → Comes shift first gone r (grown (moved shift r) l.from (r.to + shift))

-- the row that goes, for which one comes that begins with it
pub record Goes (shift : ℕ) (first rows come : List Span) (l : Span) : Type 0 where
  pub row : Span
  pub of_rows : In row rows
  pub was : In l first
  pub joins : Joins l (moved shift row)
  pub came : In (grown (moved shift row) l.from (row.to + shift)) come

-- what was removed and inserted for some of the second
pub record AreJoined (shift : ℕ) (first rows gone come : List Span) : Type 0 where
  pub each : (x : Span) → In x come → (r : Span) × In r rows × Comes shift first gone r x
  pub every : (r : Span) → In r rows → (x : Span) × In x come × Comes shift first gone r x
  pub went : (l : Span) → In l gone → Goes shift first rows come l
  pub pairs : Pairs come
  pub in_order : each_two span_before gone ≡ true

pub joined_none : (shift : ℕ) (first : List Span) → AreJoined shift first [] [] []
joined_none shift first = record { each = λ x m. absurd m; every = λ r m. absurd m; went = λ l m. absurd m; pairs = tt; in_order = refl }

module _ (shift : ℕ) (first second : List Span) (t : AreTwo shift first second) where
  -- what begins with a row of the first is of a row that begins its route
  at_start : (l r : Span) → In l first → Joins l (moved shift r) → (r.from ≡ 0) × (l.to ≡ shift)
  at_start l r m j = let a = j.at in let b = t.low l m in (omega (arith, a, b), omega (arith, a, b))

  -- inserted rows are in the order of those for which they are inserted
  in_turn : (gone : List Span) (q r x y : Span) → IsFull q → IsAhead q r → Comes shift first gone q x → Comes shift first gone r y → IsAhead x y
  in_turn gone q r x y f a cx cy = record { left = left cx cy a.left; one_class = λ e. class cx ∙ a.one_class (sym (asset cx) ∙ e ∙ asset cy) ∙ sym (class cy); not_joined = λ j. apart_too cx cy j }
    where
      class : {r x : Span} → Comes shift first gone r x → x.class ≡ r.class
      class (comes_alone n) = refl
      class (comes_with l m g j) = refl

      asset : {r x : Span} → Comes shift first gone r x → x.asset ≡ r.asset
      asset (comes_alone n) = refl
      asset (comes_with l m g j) = refl

      side : {r x : Span} → Comes shift first gone r x → x.side ≡ r.side
      side (comes_alone n) = refl
      side (comes_with l m g j) = refl

      end : {r x : Span} → Comes shift first gone r x → x.to ≡ r.to + shift
      end (comes_alone n) = refl
      end (comes_with l m g j) = refl

      start : {y : Span} → Comes shift first gone r y → q.to ≤ r.from → y.from ≡ r.from + shift
      start (comes_alone n) k = refl
      start (comes_with l m g j) k = let z = (at_start l r m j).0 in let s = f.some in absurd (omega (arith, z, s, k))

      left : Comes shift first gone q x → Comes shift first gone r y → IsLeft q r → IsLeft x y
      left cx cy (by_class h) = by_class (subst (λ c. name_before x.class c ≡ true) (sym (class cy)) (subst (λ c. name_before c r.class ≡ true) (sym (class cx)) h))
      left cx cy (by_asset c h) = let u = asset cx in let v = asset cy in by_asset (class cx ∙ c ∙ sym (class cy)) (omega (arith, h, u, v))
      left cx cy (by_place c b h) = let u = end cx in let v = start cy h in by_place (class cx ∙ c ∙ sym (class cy)) (asset cx ∙ b ∙ sym (asset cy)) (omega (arith, h, u, v))

      apart_too : Comes shift first gone q x → Comes shift first gone r y → Joins x y → ⊥
      apart_too cx cy j =
          let c : q.class ≡ r.class = sym (class cx) ∙ j.of_class ∙ class cy in
          let b : q.asset ≡ r.asset = sym (asset cx) ∙ j.of_asset ∙ asset cy in
          let l = left_place q r a.left c b in
          let u = end cx in let v = start cy l in let k = j.at in
          a.not_joined (record { of_class = c; of_asset = b; at = omega (arith, u, v, k); on_side = sym (side cx) ∙ j.on_side ∙ side cy })

  more_gone : (gone old : List Span) (r x : Span) → Comes shift first gone r x → Comes shift first (gone ++ old) r x
  more_gone gone old r _ (comes_alone n) = comes_alone n
  more_gone gone old r _ (comes_with l m g j) = comes_with l m (In-append_left l gone old g) j

  -- one row more
  module _ (rows gone come : List Span) (row : Span) (h : AreJoined shift first rows gone come) (fr : (q : Span) → In q rows → IsFull q) (ahead : (q : Span) → In q rows → IsAhead q row) where
    -- what is removed for it stands behind what was removed
    goes_behind : (g l : Span) → In g gone → In l first → Joins l (moved shift row) → span_before g l ≡ true
    goes_behind g l m n j = let k = h.went g m in first_begins g l (by k.row k.joins (fr k.row k.of_rows) (ahead k.row k.of_rows).left)
      where
        by : (q : Span) → Joins g (moved shift q) → IsFull q → IsLeft q row → BeginsFirst g l
        by q i f (by_class k) = begins_class (subst (λ c. name_before g.class c ≡ true) (sym j.of_class) (subst (λ c. name_before c row.class ≡ true) (sym i.of_class) k))
        by q i f (by_asset c k) = let u = i.of_asset in let v = j.of_asset in begins_asset (i.of_class ∙ c ∙ sym j.of_class) (omega (arith, k, u, v))
        by q i f (by_place c b k) = let z = (at_start l row n j).0 in let s = f.some in absurd (omega (arith, z, s, k))

    with_row : (old : List Span) (whole : Span) → Comes shift first (gone ++ old) row whole → ((l : Span) → In l old → Goes shift first (rows ++ row ∷ []) (come ++ whole ∷ []) l)
        → each_two span_before old ≡ true → ((l : Span) → In l old → In l first × Joins l (moved shift row)) → AreJoined shift first (rows ++ row ∷ []) (gone ++ old) (come ++ whole ∷ [])
    with_row old whole c w o b = record {
      each = λ x m. each x (In-append_cases x come (whole ∷ []) m);
      every = λ r m. every r (In-append_cases r rows (row ∷ []) m);
      went = λ l m. went l (In-append_cases l gone old m);
      pairs = pairs_append come (whole ∷ []) h.pairs (λ s m. absurd m, tt) (λ x y m n. last x y m n);
      in_order = each_two-append span_before gone old h.in_order o (λ x y m n. let k = b y n in goes_behind x y m k.0 k.1);
    }
      where
        each : (x : Span) → In x come ⊎ In x (whole ∷ []) → (r : Span) × In r (rows ++ row ∷ []) × Comes shift first (gone ++ old) r x
        each x (inl m) = let k = h.each x m in (k.0, In-append_left k.0 rows (row ∷ []) k.1, more_gone gone old k.0 x k.2)
        each x (inr (inl e)) = (row, In-append_right row rows (row ∷ []) (inl refl), subst (λ z. Comes shift first (gone ++ old) row z) (sym e) c)
        each x (inr (inr m)) = absurd m

        every : (r : Span) → In r rows ⊎ In r (row ∷ []) → (x : Span) × In x (come ++ whole ∷ []) × Comes shift first (gone ++ old) r x
        every r (inl m) = let k = h.every r m in (k.0, In-append_left k.0 come (whole ∷ []) k.1, more_gone gone old r k.0 k.2)
        every r (inr (inl e)) = (whole, In-append_right whole come (whole ∷ []) (inl refl), subst (λ z. Comes shift first (gone ++ old) z whole) (sym e) c)
        every r (inr (inr m)) = absurd m

        went : (l : Span) → In l gone ⊎ In l old → Goes shift first (rows ++ row ∷ []) (come ++ whole ∷ []) l
        went l (inl m) = let g = h.went l m in record {
          row = g.row;
          of_rows = In-append_left g.row rows (row ∷ []) g.of_rows;
          was = g.was;
          joins = g.joins;
          came = In-append_left (grown (moved shift g.row) l.from (g.row.to + shift)) come (whole ∷ []) g.came;
        }
        went l (inr m) = w l m

        last : (x y : Span) → In x come → In y (whole ∷ []) → IsAhead x y
        last x y m (inl e) = let k = h.each x m in
            subst (IsAhead x) (sym e) (in_turn (gone ++ old) k.0 row x whole (fr k.0 k.1) (ahead k.0 k.1) (more_gone gone old k.0 x k.2) c)
        last x y m (inr n) = absurd n

    joined_row : (old : List Span) (whole : Span) → IsSeam first (moved shift row) old whole → AreJoined shift first (rows ++ row ∷ []) (gone ++ old) (come ++ whole ∷ [])
    joined_row _ _ (apart n) = with_row [] (moved shift row) (comes_alone n) (λ l m. absurd m) refl (λ l m. absurd m)
    joined_row _ _ (goes_on l m j) = with_row (l ∷ []) (grown (moved shift row) l.from (row.to + shift)) (comes_with l m (In-append_right l gone (l ∷ []) (inl refl)) j) (λ q n. one q n) refl (λ q n. its q n)
      where
        its : (q : Span) → In q (l ∷ []) → In q first × Joins q (moved shift row)
        its q (inl e) = (subst (λ z. In z first) (sym e) m, subst (λ z. Joins z (moved shift row)) (sym e) j)
        its q (inr n) = absurd n

        one : (q : Span) → In q (l ∷ []) → Goes shift first (rows ++ row ∷ []) (come ++ grown (moved shift row) l.from (row.to + shift) ∷ []) q
        one q (inl e) = subst (Goes shift first (rows ++ row ∷ []) (come ++ grown (moved shift row) l.from (row.to + shift) ∷ [])) (sym e) (record {
          row = row;
          of_rows = In-append_right row rows (row ∷ []) (inl refl);
          was = m;
          joins = j;
          came = In-append_right (grown (moved shift row) l.from (row.to + shift)) come (grown (moved shift row) l.from (row.to + shift) ∷ []) (inl refl);
        })
        one q (inr n) = absurd n

  -- ---- all rows

  module _ (gone come : List Span) (h : AreJoined shift first second gone come) where
    abbrev pub new : List Span
    new = changed span_before gone come first

    come_full : (x : Span) → In x come → IsFull x
    come_full x m = let k = h.each x m in by k.0 x (t.second_rows.full k.0 k.1) (t.high k.0 k.1) k.2
      where
        by : (r x : Span) → IsFull r → r.to + shift ≤ longest_route → Comes shift first gone r x → IsFull x
        by r _ f s (comes_alone n) = let a = f.some in record { some = omega (arith, a); short = s }
        by r _ f s (comes_with l m g j) = let a = f.some in let b = (t.first_rows.full l m).some in let c = j.at in record { some = omega (arith, a, b, c); short = s }

    come_fits : (x y : Span) → In x come → In y first → (In y gone → ⊥) → Fits x y
    come_fits x y m n stays = let k = h.each x m in by k.0 x k.1 k.2
      where
        by : (r x : Span) → In r second → Comes shift first gone r x → Fits x y
        by r _ o (comes_alone none) = fits_elsewhere (moved shift r) y (λ e. sym (t.one_class y r n o (sym e))) (λ c a. inr (record {
          left = let l = t.low y n in by_place (sym c) (sym a) (omega (arith, l));
          one_class = λ e. sym c;
          not_joined = λ j. none y n j;
        }))
        by r _ o (comes_with l q g j) = fits_elsewhere (grown (moved shift r) l.from (r.to + shift)) y (λ e. sym (t.one_class y r n o (sym e)))
            (λ c a. inr (front c a (pairs_two first t.first_rows.pairs l y q n)))
          where
            front : r.class ≡ y.class → r.asset ≡ y.asset → (l ≡ y) ⊎ (IsAhead l y ⊎ IsAhead y l) → IsAhead y (grown (moved shift r) l.from (r.to + shift))
            front c a (inl e) = absurd (stays (subst (λ z. In z gone) e g))
            front c a (inr (inl k)) =
                let p = left_place l y k.left (j.of_class ∙ c) (j.of_asset ∙ a) in
                let u = (at_start l r q j).1 in let v = (t.first_rows.full y n).some in let w = t.low y n in absurd (omega (arith, p, u, v, w))
            front c a (inr (inr k)) = record {
              left = by_place (sym c) (sym a) (left_place y l k.left (sym c ∙ sym j.of_class) (sym a ∙ sym j.of_asset));
              one_class = λ e. sym c;
              not_joined = λ i. k.not_joined (record { of_class = sym c ∙ sym j.of_class; of_asset = sym a ∙ sym j.of_asset; at = i.at; on_side = i.on_side ∙ sym j.on_side });
            }

    pub joined_rows : AreRows new
    joined_rows = changed_rows_are gone come first t.first_rows (record { full = come_full; pairs = h.pairs }) come_fits

    fresh : (r : Span) → In r come → In r first → ⊥
    fresh x m n = let k = h.each x m in by k.0 (t.second_rows.full k.0 k.1) k.2
      where
        by : (r : Span) → IsFull r → Comes shift first gone r x → ⊥
        by r f c = let a = ends c in let b = t.low x n in let s = f.some in omega (arith, a, b, s)
          where
            ends : {y : Span} → Comes shift first gone r y → y.to ≡ r.to + shift
            ends (comes_alone n) = refl
            ends (comes_with l m g j) = refl

    pub joined_change : IsChange first gone come new
    joined_change = is_change gone come first (λ r m. (h.went r m).was) fresh

    -- what one stands for at a millimetre another stands for at one of its own
    there : (x y : Span) (class : Name) (asset j k : ℕ) (s : LinkSide) → x.class ≡ y.class → x.asset ≡ y.asset → x.side ≡ y.side → x.from ≤ j → j < x.to → has_member y class asset k s ≡ true → has_member x class asset j s ≡ true
    there x y class asset j k s c a d low high m =
        let o = over y class asset k s m in
        its_sides x class asset j s (record { of_class = c ∙ o.of_class; of_asset = a ∙ o.of_asset; low = low; high = high })
        ∙ ap (λ z. has_side z s) d ∙ sym (its_sides y class asset k s o) ∙ m

    module _ (class : Name) (asset j : ℕ) (s : LinkSide) where
      stands : ℕ → Span → Bool
      stands k r = has_member r class asset k s

      pub joined_before : j < shift → is_member new class asset j s ≡ is_member first class asset j s
      joined_before less = one_test (is_member new class asset j s) (is_member first class asset j s) to from
        where
          mine : (r x : Span) → has_member x class asset j s ≡ true → Comes shift first gone r x → is_member first class asset j s ≡ true
          mine r _ e (comes_alone n) = let o = (over (moved shift r) class asset j s e).low in absurd (omega (arith, o, less))
          mine r _ e (comes_with l m g i) =
              let o = over (grown (moved shift r) l.from (r.to + shift)) class asset j s e in
              let k = i.at in
              any_of (λ q. has_member q class asset j s) l first m (there l (grown (moved shift r) l.from (r.to + shift)) class asset j j s i.of_class i.of_asset i.on_side o.low (omega (arith, less, k)) e)

          found : (z : Span) → has_member z class asset j s ≡ true → In z come ⊎ (In z first × (In z gone → ⊥)) → is_member first class asset j s ≡ true
          found z e (inl m) = let k = h.each z m in mine k.0 z e k.2
          found z e (inr m) = any_of (λ q. has_member q class asset j s) z first m.0 e

          to : is_member new class asset j s ≡ true → is_member first class asset j s ≡ true
          to e = let f = any_found (λ q. has_member q class asset j s) new e in found f.0 f.2 (In-changed f.0 gone come first f.1)

          kept : (z : Span) → In z first → has_member z class asset j s ≡ true → (has_row gone z ≡ true) ⊎ (has_row gone z ≡ false) → is_member new class asset j s ≡ true
          kept z m e (inr n) = any_of (λ q. has_member q class asset j s) z new (stay-In z gone come first m (λ k. both_ways (has_row gone z) n (has_in gone z k))) e
          kept z m e (inl y) =
              let g = h.went z (has_found gone z y) in
              let x = grown (moved shift g.row) z.from (g.row.to + shift) in
              let o = over z class asset j s e in
              let a = o.low in let b = o.high in let c = g.joins.at in let f = (t.second_rows.full g.row g.of_rows).some in
              any_of (λ q. has_member q class asset j s) x new (come-In x gone come first g.came)
              (there x z class asset j j s (sym g.joins.of_class) (sym g.joins.of_asset) (sym g.joins.on_side) a (omega (arith, b, c, f)) e)

          from : is_member first class asset j s ≡ true → is_member new class asset j s ≡ true
          from e = let f = any_found (λ q. has_member q class asset j s) first e in kept f.0 f.1 f.2 (cases_Bool (has_row gone f.0))

      pub joined_behind : is_member new class asset (j + shift) s ≡ is_member second class asset j s
      joined_behind = one_test (is_member new class asset (j + shift) s) (is_member second class asset j s) to from
        where
          mine : (r x : Span) → In r second → has_member x class asset (j + shift) s ≡ true → Comes shift first gone r x → is_member second class asset j s ≡ true
          mine r _ m e (comes_alone n) =
              let o = over (moved shift r) class asset (j + shift) s e in let a = o.low in let b = o.high in
              any_of (λ q. has_member q class asset j s) r second m (there r (moved shift r) class asset j (j + shift) s refl refl refl (omega (arith, a)) (omega (arith, b)) e)
          mine r _ m e (comes_with l q g i) =
              let o = over (grown (moved shift r) l.from (r.to + shift)) class asset (j + shift) s e in let b = o.high in let z = (at_start l r q i).0 in
              any_of (λ q. has_member q class asset j s) r second m (there r (grown (moved shift r) l.from (r.to + shift)) class asset j (j + shift) s refl refl refl (omega (arith, z)) (omega (arith, b)) e)

          found : (z : Span) → has_member z class asset (j + shift) s ≡ true → In z come ⊎ (In z first × (In z gone → ⊥)) → is_member second class asset j s ≡ true
          found z e (inl m) = let k = h.each z m in mine k.0 z k.1 e k.2
          found z e (inr m) = let o = (over z class asset (j + shift) s e).high in let l = t.low z m.0 in absurd (omega (arith, o, l))

          to : is_member new class asset (j + shift) s ≡ true → is_member second class asset j s ≡ true
          to e = let f = any_found (λ q. has_member q class asset (j + shift) s) new e in found f.0 f.2 (In-changed f.0 gone come first f.1)

          comes : (r x : Span) → In x come → has_member r class asset j s ≡ true → Comes shift first gone r x → is_member new class asset (j + shift) s ≡ true
          comes r _ m e (comes_alone n) =
              let o = over r class asset j s e in let a = o.low in let b = o.high in
              any_of (λ q. has_member q class asset (j + shift) s) (moved shift r) new (come-In (moved shift r) gone come first m)
              (there (moved shift r) r class asset (j + shift) j s refl refl refl (omega (arith, a)) (omega (arith, b)) e)
          comes r _ m e (comes_with l q g i) =
              let o = over r class asset j s e in let b = o.high in let z = (at_start l r q i).1 in let f = (t.first_rows.full l q).some in
              any_of (λ q. has_member q class asset (j + shift) s) (grown (moved shift r) l.from (r.to + shift)) new (come-In (grown (moved shift r) l.from (r.to + shift)) gone come first m)
              (there (grown (moved shift r) l.from (r.to + shift)) r class asset (j + shift) j s refl refl refl (omega (arith, z, f)) (omega (arith, b)) e)

          from : is_member second class asset j s ≡ true → is_member new class asset (j + shift) s ≡ true
          from e = let f = any_found (λ q. has_member q class asset j s) second e in let k = h.every f.0 f.1 in comes f.0 k.0 k.1 f.2 k.2

    pub joined_all : IsJoin shift first second new
    joined_all = record { before = λ class asset j s l. joined_before class asset j s l; behind = λ class asset j s. joined_behind class asset j s }

-- ---- as the search found them

pub added_seam : (first : List Span) (row : Span) (at start from : ℕ) (gone come new_gone new_come : List Span) → are_rows first ≡ true → is_row row ≡ true → IsPlace first at row → IsStart first at row start from
    → new_gone ≡ gone ++ slice_range first start at → new_come ≡ come ++ (grown row from row.to ∷ []) → AddsSeam first row gone come new_gone new_come
added_seam first row at start from gone come new_gone new_come h f p s g k = record {
  old = s.gone;
  whole = grown row from row.to;
  seam = seam_found first row at start from s.gone (full_from row f) (rows_from first h).full p s.parts s.after;
  goes = g ∙ ap (λ z. gone ++ z) (append_cancel_left (take start first) (slice_range first start at) s.gone (in_two ∙ s.parts));
  comes = k;
}
  where
    in_two : take start first ++ slice_range first start at ≡ take at first
    in_two = let l = s.low in let e : start + (at - start) ≡ at = omega (arith, l) in sym (take-add start (at - start) first) ∙ ap (λ n. take n first) e

-- one row of the second more
pub joined_more : (shift : ℕ) (first second : List Span) (i : ℕ) (row : Span) (gone come new_gone new_come : List Span) → AreTwo shift first second → i < length second → row ≡ get_or second i row
    → AreJoined shift first (take i second) gone come → AddsSeam first (moved shift row) gone come new_gone new_come → AreJoined shift first (take (i + 1) second) new_gone new_come
joined_more shift first second i row gone come new_gone new_come t l e h a =
    let w : take (i + 1) second ≡ take i second ++ row ∷ [] = take_more second i row l ∙ (λ k. take i second ++ sym e k ∷ []) in
    let p : Pairs (take i second ++ row ∷ []) = subst Pairs w (pairs_front (take (i + 1) second) (drop (i + 1) second) (subst Pairs (sym (take-append-drop (i + 1) second)) t.second_rows.pairs)) in
    let done = joined_row shift first second t (take i second) gone come row h (λ q m. t.second_rows.full q (In-take q i second m)) (λ q m. pairs_across (take i second) (row ∷ []) q row p m (inl refl)) a.old a.whole a.seam in
    subst (λ (z : List Span). AreJoined shift first z new_gone new_come) (sym w)
    (subst (λ (z : List Span). AreJoined shift first (take i second ++ row ∷ []) z new_come) (sym a.goes)
    (subst (λ (z : List Span). AreJoined shift first (take i second ++ row ∷ []) (gone ++ a.old) z) (sym a.comes) done))

-- the change, whole
pub record IsJoined (shift : ℕ) (first second gone come : List Span) : Type 0 where
  pub kept : are_rows (changed span_before gone come first) ≡ true
  pub change : IsChange first gone come (changed span_before gone come first)
  pub joined : IsJoin shift first second (changed span_before gone come first)
  pub in_order : each_two span_before gone ≡ true

pub joined_whole : (shift : ℕ) (first second : List Span) (i : ℕ) (gone come : List Span) → AreTwo shift first second → length second ≤ i → AreJoined shift first (take i second) gone come → IsJoined shift first second gone come
joined_whole shift first second i gone come t l h =
    let a = subst (λ (z : List Span). AreJoined shift first z gone come) (take_all i second l) h in
    record { kept = rows_are _ (joined_rows shift first second t gone come a); change = joined_change shift first second t gone come a; joined = joined_all shift first second t gone come a; in_order = a.in_order }
