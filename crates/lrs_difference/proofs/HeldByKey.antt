-- Rows of what is held are in an order by keys, and none says the same as another.
use Rattle.std.proofs.Common.{◌≡◌, Bool, false, List, [], ◌∷◌, map, refl, ap}
use Rattle.lrs_measure.proofs.Filters.{filter_all}
use Rattle.std.specs.Prelude.{not}
use Rattle.std.specs.List.{list_any}
use Rattle.lrs_difference.specs.declared.held_rows.HeldRow.{HeldRow}
use Rattle.lrs_difference.specs.Difference.{in_order, lacking}
use Rattle.lrs_difference.specs.HeldRows.{held_item, row_before}
use Rattle.lrs_difference.specs.Items.{item_key}
use Rattle.lrs_difference.specs.Merging.{IsByKey, lines_between}
use Rattle.lrs_difference.proofs.ByKey.{names_one_way, names_onward}

abbrev pub never : HeldRow → HeldRow → Bool
never a b = false

pub rows_by_key : IsByKey row_before never held_item
rows_by_key = record {
  one_way = λ a b. names_one_way (item_key (held_item a)) (item_key (held_item b));
  onward = λ a b c. names_onward (item_key (held_item a)) (item_key (held_item b)) (item_key (held_item c));
  apart = λ a b h. refl;
  mirrored = λ a b. refl;
  items = λ a b. refl;
}

none : (x : HeldRow) (ys : List HeldRow) → list_any (never x) ys ≡ false
none x [] = refl
none x (y ∷ ys) = none x ys

all_lacking : (xs ys : List HeldRow) → lacking never xs ys ≡ xs
all_lacking xs ys = filter_all (λ x. not (list_any (never x) ys)) xs (λ x m. ap not (none x ys))

pub rows_between : (xs ys : List HeldRow) → lines_between never held_item xs ys ≡ in_order (map held_item xs) (map held_item ys)
rows_between xs ys = λ i. in_order (map held_item (all_lacking xs ys i)) (map held_item (all_lacking ys xs i))
