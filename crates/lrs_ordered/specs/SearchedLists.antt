-- Lists that are searched by halves, and lists of lists.
use Rattle.std.specs.List.{list_all}
use Rattle.std.specs.Prelude.{Bool, true, false, ◌||◌, not, List, [], ◌∷◌, ◌++◌}
use Rattle.std.specs.declared.cmp.Ordering.{Ordering}
use Rattle.std.specs.Ordering.{is_lt, is_eq, is_gt}
use Rattle.lrs_measure.specs.Lists.{each_two}

-- no element that passes comes before one that fails
abbrev pub is_parted : {X : Type 0} → (X → Bool) → List X → Bool
is_parted p xs = each_two (λ a b. not (p a) || p b) xs

-- the elements that x comes before are the rear of the list
abbrev pub is_split_by : {X : Type 0} → (X → X → Bool) → X → List X → Bool
is_split_by before x xs = is_parted (before x) xs

-- the elements of lists, one list after the other
abbrev pub joined : {X : Type 0} → List (List X) → List X
joined [] = []
joined (xs ∷ rest) = xs ++ joined rest

-- whether the first element passes, or there is none
abbrev pub first_passes : {X : Type 0} → (X → Bool) → List X → Bool
first_passes p [] = true
first_passes p (x ∷ xs) = p x

abbrev pub is_filled : {X : Type 0} → List X → Bool
is_filled [] = false
is_filled (x ∷ xs) = true

-- no list is empty
abbrev pub are_filled : {X : Type 0} → List (List X) → Bool
are_filled xss = list_all is_filled xss

-- each is
abbrev pub are_empty : {X : Type 0} → List (List X) → Bool
are_empty xss = list_all (λ xs. not (is_filled xs)) xss

-- At most one element is at the place that is looked for: those before it are below, and those after it above.
abbrev pub rises_by : {X : Type 0} → (X → Ordering) → List X → Bool
rises_by order xs = each_two (λ a b. is_lt (order a) || is_gt (order b)) xs

abbrev pub none_by : {X : Type 0} → (X → Ordering) → List X → Bool
none_by order xs = list_all (λ x. not (is_eq (order x))) xs
