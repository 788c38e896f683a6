-- The rows in front of all that goes and comes stay as they are, and the greatest ends up to them.
use Rattle.std.proofs.Common.{◌≡◌, ℕ, ◌+◌, ◌-◌, ◌<◌, ◌≤◌, zero, suc, min, max, true, cond, not, ◌⊎◌, inl, inr, List, [], ◌∷◌, ◌++◌, length, get_or, take, drop, refl, sym, ap, subst, ◌∙◌, arith, append_assoc}
use Rattle.std.specs.List.{list_all, AllWithin}
use Rattle.std.proofs.lemmas.Bool.{both_ways, not_from_false, false_from_ne_true, cases_lt}
use Rattle.std.proofs.lemmas.List.{get_or_past, get_or_default, length-append, take_more, take_at, take-append-drop, length-take-le, drop_more, drop_all, append-nil}
use Rattle.std.proofs.lemmas.List.Elements.{filter-append}
use Rattle.lrs_measure.specs.Lists.{In, each_two}
use Rattle.lrs_measure.specs.OrderedLists.{insert_by, insert_all}
use Rattle.lrs_measure.proofs.Members.{any_found, all_at, all_of, In-append_cases, In-shorter}
use Rattle.lrs_measure.proofs.Places.{two_pass, all_first}
use Rattle.lrs_measure.proofs.Filters.{filter_all}
use Rattle.lrs_events.specs.declared.span.Span.{Span}
use Rattle.lrs_events.specs.Changes.{same_row, has_row, without_rows, changed}
use Rattle.lrs_events.specs.declared.lanes.order.RowOrder.TheVariants.{ByPlace}
use Rattle.lrs_events.specs.LaneLists.Order.{place_before, stand_before}
use Rattle.lrs_events.specs.LaneLists.Lane.{greatest_from, last_from}
use Rattle.lrs_events.proofs.LaneLists.Ranks.{itself, before_trans, row_ranks, row_is}

-- as words on members
stands : (n : ℕ) (rows others : List Span) → stand_before n rows others ≡ true → (r s : Span) → In r (take n rows) → In s others → place_before r s ≡ true
stands n rows others h r s m k = all_at (place_before r) s others (all_at (λ q. list_all (place_before q) others) r (take n rows) h m) k

pub stands_is : (n : ℕ) (rows others : List Span) → ((r s : Span) → In r (take n rows) → In s others → place_before r s ≡ true) → stand_before n rows others ≡ true
stands_is n rows others h = all_of (λ r. list_all (place_before r) others) (take n rows) (λ r m. all_of (place_before r) others (λ s k. h r s m k))

stands_fewer : (m n : ℕ) (rows others : List Span) → m ≤ n → stand_before n rows others ≡ true → stand_before m rows others ≡ true
stands_fewer m n rows others le h = stands_is m rows others (λ r s k. stands n rows others h r s (In-shorter r m n rows le k))

-- one more of the others
pub stands_more : (front at next i : ℕ) (rows others : List Span) (x : Span) → i < length others → x ≡ get_or others i x → stand_before front rows (take i others) ≡ true
    → AllWithin (λ r. place_before r x ≡ true) rows 0 at → next ≡ min front at → stand_before next rows (take (i + 1) others) ≡ true
stands_more front at next i rows others x within is h point e = stands_is next rows (take (i + 1) others) (λ r s m k. by r s m (In-append_cases s (take i others) (x ∷ []) (subst (In s) (take_more others i x within ∙ (λ j. take i others ++ sym is j ∷ [])) k)))
  where
    by : (r s : Span) → In r (take next rows) → In s (take i others) ⊎ In s (x ∷ []) → place_before r s ≡ true
    by r s m (inl k) = stands front rows (take i others) h r s (In-shorter r next front rows (omega (arith, e)) m) k
    by r s m (inr (inl q)) = ap (place_before r) q ∙ all_first (λ r. place_before r x ≡ true) rows at point r (In-shorter r next at rows (omega (arith, e)) m)
    by r s m (inr (inr q)) = absurd q

-- rows up to one that comes before x
pub stands_up_to : (front : ℕ) (rows : List Span) (x p : Span) → (front ≡ 0 → ⊥) → front ≤ length rows → each_two place_before rows ≡ true → p ≡ get_or rows (front - 1) p → place_before p x ≡ true
    → AllWithin (λ r. place_before r x ≡ true) rows 0 front
stands_up_to front rows x p some within order is h k d low high = by (cases_lt k (front - 1))
  where
    last : place_before (get_or rows (front - 1) d) x ≡ true
    last = ap (λ z. place_before z x) (get_or_default rows (front - 1) d p (omega (arith, some, within)) ∙ sym is) ∙ h

    by : (k < front - 1) ⊎ (front - 1 ≤ k) → place_before (get_or rows k d) x ≡ true
    by (inl l) = before_trans place_before (row_ranks ByPlace) (get_or rows k d) (get_or rows (front - 1) d) x (two_pass place_before rows k (front - 1) d order l (omega (arith, some, within))) last
    by (inr l) = let e : k ≡ front - 1 = omega (arith, l, high, some) in ap (λ n. place_before (get_or rows n d) x) e ∙ last

insert_by-front : (x : Span) (front rear : List Span) → ((r : Span) → In r front → place_before r x ≡ true) → insert_by place_before x (front ++ rear) ≡ front ++ insert_by place_before x rear
insert_by-front x [] rear h = refl
insert_by-front x (r ∷ front) rear h =
    ap (λ b. cond b (x ∷ r ∷ (front ++ rear)) (r ∷ insert_by place_before x (front ++ rear))) ((row_ranks ByPlace).one_way r x (h r (inl refl)))
    ∙ ap (λ ys. r ∷ ys) (insert_by-front x front rear (λ s m. h s (inr m)))

insert_all-front : (xs front rear : List Span) → ((r s : Span) → In r front → In s xs → place_before r s ≡ true) → insert_all place_before xs (front ++ rear) ≡ front ++ insert_all place_before xs rear
insert_all-front [] front rear h = refl
insert_all-front (x ∷ xs) front rear h =
    ap (insert_all place_before xs) (insert_by-front x front rear (λ r m. h r x m (inl refl)))
    ∙ insert_all-front xs front (insert_by place_before x rear) (λ r s m k. h r s m (inr k))

without_rows-front : (gone front rear : List Span) → ((r s : Span) → In r front → In s gone → place_before r s ≡ true) → without_rows gone (front ++ rear) ≡ front ++ without_rows gone rear
without_rows-front gone front rear h =
    filter-append (λ r. not (has_row gone r)) front rear
    ∙ ap (λ ys. ys ++ without_rows gone rear) (filter_all (λ r. not (has_row gone r)) front (λ r m. not_from_false _ (false_from_ne_true (has_row gone r) (stays r m))))
  where
    stays : (r : Span) → In r front → has_row gone r ≡ true → ⊥
    stays r m k =
        let f = any_found (λ s. same_row s r) gone k in
        both_ways (place_before r r) (itself place_before (row_ranks ByPlace) r) (ap (place_before r) (sym (row_is f.0 r f.2)) ∙ h r f.0 m f.1)

-- what is in front of a change stays
changed_behind : (n : ℕ) (gone come rows : List Span) → stand_before n rows gone ≡ true → stand_before n rows come ≡ true
    → changed place_before gone come rows ≡ take n rows ++ changed place_before gone come (drop n rows)
changed_behind n gone come rows g k =
    ap (λ ys. insert_all place_before come (without_rows gone ys)) (sym (take-append-drop n rows))
    ∙ ap (insert_all place_before come) (without_rows-front gone (take n rows) (drop n rows) (stands n rows gone g))
    ∙ insert_all-front come (take n rows) (without_rows gone (drop n rows)) (stands n rows come k)

pub kept_front : (n f g : ℕ) (gone come rows new : List Span) → n ≡ min f g → stand_before f rows gone ≡ true → stand_before g rows come ≡ true → new ≡ changed place_before gone come rows
    → new ≡ take n rows ++ changed place_before gone come (drop n rows)
kept_front n f g gone come rows new e h k c = c ∙ changed_behind n gone come rows (stands_fewer n f rows gone (omega (arith, e)) h) (stands_fewer n g rows come (omega (arith, e)) k)

pub same_front : (n : ℕ) (rows new rear : List Span) → n ≤ length rows → new ≡ take n rows ++ rear → take n new ≡ take n rows
same_front n rows new rear le e = ap (take n) e ∙ take_at (take n rows) rear n (length-take-le n rows le)

pub front_fits : (n : ℕ) (rows new rear : List Span) → n ≤ length rows → new ≡ take n rows ++ rear → n ≤ length new
front_fits n rows new rear le e = let a = ap length e in let b = length-append (take n rows) rear in let c = length-take-le n rows le in omega (arith, a, b, c)

-- ---- the greatest ends

pub take-greatest : (n g : ℕ) (rows : List Span) → take n (greatest_from g rows) ≡ greatest_from g (take n rows)
take-greatest zero g rows = refl
take-greatest (suc n) g [] = refl
take-greatest (suc n) g (r ∷ rs) = ap (λ ys. max g r.to ∷ ys) (take-greatest n (max g r.to) rs)

pub length-greatest : (g : ℕ) (rows : List Span) → length (greatest_from g rows) ≡ length rows
length-greatest g [] = refl
length-greatest g (r ∷ rs) = let rest = length-greatest (max g r.to) rs in omega (arith, rest)

greatest-append : (g : ℕ) (xs ys : List Span) → greatest_from g (xs ++ ys) ≡ greatest_from g xs ++ greatest_from (last_from g (greatest_from g xs)) ys
greatest-append g [] ys = refl
greatest-append g (x ∷ xs) ys = ap (λ zs. max g x.to ∷ zs) (greatest-append (max g x.to) xs ys)

pub last_is : (ms : List ℕ) → get_or ms (length ms - 1) 0 ≡ last_from 0 ms
last_is [] = get_or_past [] (length {A = ℕ} [] - 1) 0 (omega arith)
last_is (m ∷ []) = let e : length (m ∷ []) - 1 ≡ 0 = omega arith in ap (λ i. get_or (m ∷ []) i 0) e
last_is (m ∷ k ∷ ms) =
    let e : length (m ∷ k ∷ ms) - 1 ≡ suc (length ms) = omega arith in
    let f : length (k ∷ ms) - 1 ≡ length ms = omega arith in
    ap (λ i. get_or (m ∷ k ∷ ms) i 0) e ∙ sym (ap (λ i. get_or (k ∷ ms) i 0) f) ∙ last_is (k ∷ ms)

-- one more row
pub greatest_more : (rows : List Span) (i most next : ℕ) (r : Span) (out new all : List ℕ) → i < length rows → r ≡ get_or rows i r → next ≡ max r.to most → new ≡ out ++ next ∷ []
    → out ++ greatest_from most (drop i rows) ≡ all → new ++ greatest_from next (drop (i + 1) rows) ≡ all
greatest_more rows i most next r out new all h e n o k =
    let d : drop i rows ≡ r ∷ drop (i + 1) rows = drop_more rows i r h ∙ (λ j. sym e j ∷ drop (i + 1) rows) in
    let m : max most r.to ≡ next = omega (arith, n) in
    (λ j. o j ++ greatest_from next (drop (i + 1) rows)) ∙ append_assoc out (next ∷ []) (greatest_from next (drop (i + 1) rows))
    ∙ (λ j. out ++ (sym m j ∷ greatest_from (sym m j) (drop (i + 1) rows))) ∙ (λ j. out ++ greatest_from most (sym d j)) ∙ k

pub greatest_done : (rows : List Span) (i most : ℕ) (out all : List ℕ) → length rows ≤ i → out ++ greatest_from most (drop i rows) ≡ all → out ≡ all
greatest_done rows i most out all h k = sym (append-nil out) ∙ (λ j. out ++ greatest_from most (sym (drop_all i rows h) j)) ∙ k

-- the ends of the first rows, and those behind them
pub greatest_whole : (start : ℕ) (rows : List Span) (out new : List ℕ) → out ≡ greatest_from 0 (take start rows) → new ≡ out ++ greatest_from (last_from 0 out) (drop start rows) → new ≡ greatest_from 0 rows
greatest_whole start rows out new h e =
    e ∙ (λ i. h i ++ greatest_from (last_from 0 (h i)) (drop start rows)) ∙ sym (greatest-append 0 (take start rows) (drop start rows)) ∙ ap (greatest_from 0) (take-append-drop start rows)
