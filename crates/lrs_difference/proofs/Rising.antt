-- Lists in order, put together.
use Rattle.std.proofs.Common.{◌≡◌, ℕ, ◌+◌, ◌<◌, ◌≤◌, Bool, true, Option, Some, None, inl, inr, ◌⊎◌, List, [], ◌∷◌, ◌++◌, map, refl, ap, ◌∙◌, arith}
use Rattle.std.specs.Prelude.{nat_lt}
use Rattle.std.specs.List.{filter_map, flat_map, list_all}
use Rattle.std.proofs.lemmas.Bool.{and_parts, and_from, lt-ltb}
use Rattle.lrs_measure.specs.Lists.{In, each_two}
use Rattle.lrs_measure.specs.Runs.{Run}
use Rattle.lrs_measure.specs.MaximalRuns.{IsChain}
use Rattle.lrs_measure.proofs.EachTwo.{joined}
use Rattle.lrs_measure.proofs.Members.{all_at, all_of, flat_map_found, In-append_cases, map_found}
use Rattle.lrs_events.specs.declared.side.Side.{Side}
use Rattle.lrs_events.specs.Canonical.{held_run}
use Rattle.lrs_difference.specs.declared.line.Item.{Item}
use Rattle.lrs_difference.specs.Items.{item_before}
use Rattle.lrs_difference.proofs.Keys.{earlier_group, group}
use Rattle.lrs_difference.proofs.Rows.{held_in}

-- what elements in order give is in order, where what each gives is, and what the first of two gives stands before what the other gives
pub each_given : {X Y : Type 0} → (before : X → X → Bool) (test : Y → Y → Bool) (f : X → List Y) (xs : List X) → each_two before xs ≡ true → ((x : X) → each_two test (f x) ≡ true)
    → ((x z : X) → before x z ≡ true → (y w : Y) → In y (f x) → In w (f z) → test y w ≡ true) → each_two test (flat_map f xs) ≡ true
each_given before test f [] h each across = refl
each_given before test f (x ∷ xs) h each across =
    let both = and_parts (list_all (before x) xs) (each_two before xs) h in
    joined test (f x) (flat_map f xs) (each x) (each_given before test f xs both.1 each across) (λ y w m n.
    let z = flat_map_found f w xs n in
    across x z.0 (all_at (before x) z.0 xs both.0 z.1) y w m z.2)

-- ---- groups of items

abbrev pub IsBelow : ℕ → List Item → Type 0
IsBelow n xs = (x : Item) → In x xs → group x < n

abbrev pub IsGroup : ℕ → List Item → Type 0
IsGroup n xs = (x : Item) → In x xs → group x ≡ n

pub group_of : {X : Type 0} → (n : ℕ) (f : X → Item) (xs : List X) → ((x : X) → group (f x) ≡ n) → IsGroup n (map f xs)
group_of n f xs h y m = let x = map_found f y xs m in ap group x.2 ∙ h x.0

-- items in order, and the items of a later group behind them
pub record AreInOrder (n : ℕ) (xs : List Item) : Type 0 where
  pub order : each_two item_before xs ≡ true
  pub below : IsBelow n xs

pub first_group : (n : ℕ) (xs : List Item) → each_two item_before xs ≡ true → IsGroup n xs → AreInOrder (n + 1) xs
first_group n xs h g = record { order = h; below = λ x m. (let e = g x m in omega (arith, e)) }

pub next_group : (n : ℕ) (xs ys : List Item) → AreInOrder n xs → each_two item_before ys ≡ true → IsGroup n ys → AreInOrder (n + 1) (xs ++ ys)
next_group n xs ys h k g = record {
  order = joined item_before xs ys h.order k (λ x y a b. earlier_group x y (let l = h.below x a in let e = g y b in omega (arith, l, e)));
  below = below;
}
  where
    by : (x : Item) → In x xs ⊎ In x ys → group x < n + 1
    by x (inl m) = let l = h.below x m in omega (arith, l)
    by x (inr m) = let e = g x m in omega (arith, e)

    below : IsBelow (n + 1) (xs ++ ys)
    below x m = by x (In-append_cases x xs ys m)

-- ---- rows by their start

starts_at : {A : Type 0} → (from to : ℕ) (q : Run A) (rs : List (Run A)) → IsChain from to rs → In q rs → from ≤ q.from
starts_at from to q [] h m = absurd m
starts_at from to q (r ∷ rs) h (inl e) = let begin = h.0 in let same = ap (λ z. z.from) e in omega (arith, begin, same)
starts_at from to q (r ∷ rs) h (inr m) = let begin = h.0 in let some = h.1 in let later = starts_at r.to to q rs h.2 m in omega (arith, begin, some, later)

pub rows_rise : (from to : ℕ) (rs : List (Run (Option Side))) → IsChain from to rs → each_two (λ u v. nat_lt u.from v.from) (filter_map held_run rs) ≡ true
rows_rise from to [] h = refl
rows_rise from to (r ∷ rs) h = by r.value (rows_rise r.to to rs h.2)
  where
    by : (o : Option Side) → each_two (λ u v. nat_lt u.from v.from) (filter_map held_run rs) ≡ true → each_two (λ u v. nat_lt u.from v.from) (filter_map held_run (record { from = r.from; to = r.to; value = o } ∷ rs)) ≡ true
    by None later = later
    by (Some side) later =
        and_from (list_all (λ (v : Run Side). nat_lt r.from v.from) (filter_map held_run rs)) (each_two (λ u v. nat_lt u.from v.from) (filter_map held_run rs))
        (all_of (λ (v : Run Side). nat_lt r.from v.from) (filter_map held_run rs) (λ v m.
        let some = h.1 in
        let behind = starts_at r.to to (record { from = v.from; to = v.to; value = Some v.value }) rs h.2 (held_in v rs m) in
        lt-ltb r.from v.from (omega (arith, some, behind)))) later
