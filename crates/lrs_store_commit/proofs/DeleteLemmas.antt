-- What DELETE leaves of a table.
use Rattle.std.proofs.Common.{◌≡◌, ℤ, List, [], ◌∷◌, map, Bool, true, false, cond, not, ◌||◌, refl, sym, ap, ◌∙◌}
use Rattle.std.specs.Prelude.{filter}
use Rattle.std.specs.List.{AllByRecursion, list_any}
use Rattle.std.specs.List.Sorted.{IsPermutation}
use Rattle.std.proofs.lemmas.List.Sorted.{list_any-IsPermutation}
use Rattle.sqlite_value.specs.declared.value.Value.TheVariants.{Int}
use Rattle.std.specs.declared.cmp.Ordering.{Ordering}
use Rattle.std.specs.declared.cmp.Ordering.TheVariants.{Less, Equal, Greater}
use Rattle.std.specs.Ordering.{is_eq, ordering_reverse}
use Rattle.sqlite_value.specs.Order.{Row, value_cmp}
use Rattle.sqlite_value.proofs.OrderLemmas.{value_cmp_total}
use Rattle.sqlite_trees.specs.Tree.{rowid, has_rowid, without_rowid, IsTable}
use Rattle.sqlite_rules.specs.Edit.{without_all, id_in}
use Rattle.lrs_store_tables.specs.RowLaws.{both_filters, none_out}

abbrev is_among : List ℤ → Row → Bool
is_among ids r = list_any (λ id. has_rowid id r) ids

-- the rows whose rowid is none of these
pub left_after : (ids : List ℤ) (rows : List Row) → without_all rows ids ≡ filter (λ r. not (is_among ids r)) rows
left_after [] rows = sym (none_out rows)
left_after (id ∷ ids) rows = left_after ids (without_rowid id rows) ∙ both_filters (has_rowid id) (is_among ids) rows

filter_same : (p q : Row → Bool) (rows : List Row) → AllByRecursion (λ r. p r ≡ q r) rows → filter (λ r. not (p r)) rows ≡ filter (λ r. not (q r)) rows
filter_same p q [] h = refl
filter_same p q (r ∷ rs) h = ap (λ b. cond (not b) (r ∷ filter (λ x. not (p x)) rs) (filter (λ x. not (p x)) rs)) h.0 ∙ ap (λ xs. cond (not (q r)) (r ∷ xs) xs) (filter_same p q rs h.1)

-- ---- which rows have one of the rowids

abbrev ties : Row → Row → Bool
ties x r = is_eq (value_cmp (rowid r) (rowid x))

own_reverse : (o : Ordering) → o ≡ ordering_reverse o → o ≡ Equal
own_reverse Less e = absurd cc
own_reverse Equal e = refl
own_reverse Greater e = absurd cc

self_ties : (x : Row) → ties x x ≡ true
self_ties x = ap is_eq (own_reverse _ (value_cmp_total.antisymm (rowid x) (rowid x)))

above : (x y : Row) → value_cmp (rowid x) (rowid y) ≡ Less → ties x y ≡ false
above x y low = ap is_eq (value_cmp_total.antisymm (rowid y) (rowid x) ∙ ap ordering_reverse low)

any_step : (f : Row → Bool) (y : Row) (ys : List Row) (b : Bool) → f y ≡ false → list_any f ys ≡ false → list_any f (cond b (y ∷ ys) ys) ≡ false
any_step f y ys true misses none = ap (λ a. a || list_any f ys) misses ∙ none
any_step f y ys false misses none = none

none_below : (p : Row → Bool) (x : Row) (xs : List Row) → AllByRecursion (λ y. value_cmp (rowid x) (rowid y) ≡ Less) xs → list_any (λ y. ties y x) (filter p xs) ≡ false
none_below p x [] up = refl
none_below p x (y ∷ ys) up = any_step (λ z. ties z x) y (filter p ys) (p y) (ap is_eq up.0) (none_below p x ys up.1)

at_head : (x : Row) (xs : List Row) (b : Bool) → list_any (λ y. ties y x) xs ≡ false → list_any (λ y. ties y x) (cond b (x ∷ xs) xs) ≡ b
at_head x xs true none = ap (λ a. a || list_any (λ y. ties y x) xs) (self_ties x)
at_head x xs false none = none

in_tail : (x r : Row) (xs : List Row) (b c : Bool) → value_cmp (rowid x) (rowid r) ≡ Less → list_any (λ y. ties y r) xs ≡ c → list_any (λ y. ties y r) (cond b (x ∷ xs) xs) ≡ c
in_tail x r xs true c low e = ap (λ a. a || list_any (λ y. ties y r) xs) (above x r low) ∙ e
in_tail x r xs false c low e = e

all_both : {A : Type 0} {P Q R : A → Type 0} → ((x : A) → P x → Q x → R x) → (xs : List A) → AllByRecursion P xs → AllByRecursion Q xs → AllByRecursion R xs
all_both f [] p q = tt
all_both f (x ∷ xs) p q = (f x p.0 q.0, all_both f xs p.1 q.1)

found_all : (p : Row → Bool) (rows : List Row) → IsTable rows → AllByRecursion (λ r. list_any (λ y. ties y r) (filter p rows) ≡ p r) rows
found_all p [] up = tt
found_all p (x ∷ xs) up = (
  at_head x (filter p xs) (p x) (none_below p x xs up.0),
  all_both {R = λ r. list_any (λ y. ties y r) (cond (p x) (x ∷ filter p xs) (filter p xs)) ≡ p r} (λ r low e. in_tail x r (filter p xs) (p x) (p r) low e) xs up.0 (found_all p xs up.1),
)

abbrev pub id_of : Row → ℤ
id_of r = id_in (rowid r)

any_map : {A : Type 0} (f : A → Bool) (g : Row → A) (xs : List Row) → list_any f (map g xs) ≡ list_any (λ x. f (g x)) xs
any_map f g [] = refl
any_map f g (x ∷ xs) = ap (λ b. f (g x) || b) (any_map f g xs)

same_step : (f g : Row → Bool) (y : Row) (ys : List Row) (b : Bool) → f y ≡ g y → list_any f ys ≡ list_any g ys → list_any f (cond b (y ∷ ys) ys) ≡ list_any g (cond b (y ∷ ys) ys)
same_step f g y ys true e es = ap (λ a. a || list_any f ys) e ∙ ap (λ b. g y || b) es
same_step f g y ys false e es = es

any_ints : (p : Row → Bool) (r : Row) (xs : List Row) → AllByRecursion (λ x. Int (id_of x) ≡ rowid x) xs → list_any (λ x. has_rowid (id_of x) r) (filter p xs) ≡ list_any (λ x. ties x r) (filter p xs)
any_ints p r [] ints = refl
any_ints p r (x ∷ xs) ints = same_step (λ z. has_rowid (id_of z) r) (λ z. ties z r) x (filter p xs) (p x) (ap (λ v. is_eq (value_cmp (rowid r) v)) ints.0) (any_ints p r xs ints.1)

all_map : {A : Type 0} {P Q : A → Type 0} → ((x : A) → P x → Q x) → (xs : List A) → AllByRecursion P xs → AllByRecursion Q xs
all_map f [] h = tt
all_map f (x ∷ xs) h = (f x h.0, all_map f xs h.1)

-- DELETE leaves the rows that do not pass, in their order
pub deleted : (p : Row → Bool) (rows : List Row) (ids : List ℤ) → IsTable rows → AllByRecursion (λ x. Int (id_of x) ≡ rowid x) rows → IsPermutation (map id_of (filter p rows)) ids
    → without_all rows ids ≡ filter (λ r. not (p r)) rows
deleted p rows ids up ints found =
    let each = λ (r : Row) (e : list_any (λ y. ties y r) (filter p rows) ≡ p r).
    sym (list_any-IsPermutation (λ id. has_rowid id r) _ _ found) ∙ any_map (λ id. has_rowid id r) id_of (filter p rows) ∙ any_ints p r rows ints ∙ e in
    left_after ids rows ∙ filter_same (is_among ids) p rows (all_map {Q = λ r. is_among ids r ≡ p r} each rows (found_all p rows up))
