-- The order of items by their keys.
use Rattle.std.proofs.Common.{◌≡◌, ℕ, ◌<◌, true, cond, List, [], ◌∷◌, refl, ap, ◌∙◌, arith}
use Rattle.std.specs.Prelude.{nat_eq, nat_lt}
use Rattle.std.specs.Ordering.{is_lt, ordering_then}
use Rattle.std.specs.declared.cmp.Ordering.TheVariants.{Less, Equal, Greater}
use Rattle.std.proofs.lemmas.Bool.{eq-eqb, le-ltb, lt-ltb}
use Rattle.lrs_measure.specs.Texts.{name_before, name_cmp}
use Rattle.lrs_events.proofs.Row.Rows.{name_trans}
use Rattle.lrs_events.proofs.Row.Unique.{less_both}
use Rattle.lrs_difference.specs.declared.line.Item.{Item}
use Rattle.lrs_difference.specs.declared.line.Item.TheVariants.{Link, Class, Route, Referent, Asset, Holds}
use Rattle.lrs_difference.specs.Items.{item_before, item_key}

-- a lesser first number decides
pub lesser_first : (m n : ℕ) (xs ys : List ℕ) → nat_lt m n ≡ true → name_before (m ∷ xs) (n ∷ ys) ≡ true
lesser_first m n xs ys h = ap (λ b. is_lt (ordering_then (cond b Less (cond (nat_eq m n) Equal Greater)) (name_cmp xs ys))) h

-- ... and behind an equal one the rest decides
pub same_first : (n : ℕ) (xs ys : List ℕ) → name_before (n ∷ xs) (n ∷ ys) ≡ name_before xs ys
same_first n xs ys =
    ap (λ b. is_lt (ordering_then (cond b Less (cond (nat_eq n n) Equal Greater)) (name_cmp xs ys))) (le-ltb n n (omega arith))
    ∙ ap (λ b. is_lt (ordering_then (cond b Equal Greater) (name_cmp xs ys))) (eq-eqb n n refl)

pub behind_first : (n : ℕ) (xs ys : List ℕ) → name_before xs ys ≡ true → name_before (n ∷ xs) (n ∷ ys) ≡ true
behind_first n xs ys h = same_first n xs ys ∙ h

-- the first number of a key
abbrev pub group : Item → ℕ
group (Link number length) = 0
group (Class name kind) = 1
group (Route name course marks) = 2
group (Referent name link mm) = 3
group (Asset asset) = 4
group (Holds asset link from to side) = 5

abbrev rest : Item → List ℕ
rest (Link number length) = number ∷ []
rest (Class name kind) = name
rest (Route name course marks) = name
rest (Referent name link mm) = name
rest (Asset asset) = asset.number ∷ []
rest (Holds asset link from to side) = asset.number ∷ link ∷ from ∷ []

begins : (x : Item) → item_key x ≡ group x ∷ rest x
begins (Link number length) = refl
begins (Class name kind) = refl
begins (Route name course marks) = refl
begins (Referent name link mm) = refl
begins (Asset asset) = refl
begins (Holds asset link from to side) = refl

pub earlier_group : (x y : Item) → group x < group y → item_before x y ≡ true
earlier_group x y h = (λ i. name_before (begins x i) (begins y i)) ∙ lesser_first (group x) (group y) (rest x) (rest y) (lt-ltb (group x) (group y) h)

pub item_trans : (x y z : Item) → item_before x y ≡ true → item_before y z ≡ true → item_before x z ≡ true
item_trans x y z h k = name_trans (item_key x) (item_key y) (item_key z) h k

pub item_one_way : (x y : Item) → item_before x y ≡ true → item_before y x ≡ true → ⊥
item_one_way x y h k = less_both (item_key x) (item_key y) h k
