-- Two lists that are merged by the keys of their entries.
use Rattle.std.specs.Prelude.{◌≡◌, ◌&&◌, nat_eq, Bool, true, false, List, [], ◌∷◌, map, Option, Some, None}
use Rattle.lrs_measure.specs.Lists.{same_bool}
use Rattle.lrs_element.specs.declared.link.Piece.{Piece}
use Rattle.lrs_difference.specs.declared.line.Item.{Item}
use Rattle.lrs_difference.specs.declared.line.Line.{Line}
use Rattle.lrs_difference.specs.Difference.{in_order, lacking}
use Rattle.lrs_difference.specs.Items.{item_before}

-- The order is one by keys, entries that say the same have one key, and items are in this order.
pub record IsByKey {A : Type 0} (before same : A → A → Bool) (item : A → Item) : Type 0 where
  pub one_way : (a b : A) → before a b ≡ true → before b a ≡ false
  pub onward : (a b c : A) → before b a ≡ false → before b c ≡ true → before a c ≡ true
  pub apart : (a b : A) → before a b ≡ true → same a b ≡ false
  pub mirrored : (a b : A) → same a b ≡ same b a
  pub items : (a b : A) → item_before (item a) (item b) ≡ before a b

-- The lines of what the one list has and the other has not in the same way.
abbrev pub lines_between : {A : Type 0} → (A → A → Bool) → (A → Item) → List A → List A → List Line
lines_between same item xs ys = in_order (map item (lacking same xs ys)) (map item (lacking same ys xs))

-- the first of entries is there, and passes the test
abbrev pub first_is : {A : Type 0} → (A → Bool) → List A → Bool
first_is test [] = false
first_is test (y ∷ ys) = test y

-- an entry that is at hand, and those behind it
abbrev pub with_first : {A : Type 0} → Option A → List A → List A
with_first None others = []
with_first (Some x) others = x ∷ others

abbrev pub same_piece : Piece → Piece → Bool
same_piece p q = nat_eq p.link q.link && nat_eq p.from q.from && nat_eq p.to q.to && same_bool p.forward q.forward
