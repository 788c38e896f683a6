-- The text of a difference, and of its groups.
use Rattle.std.specs.Prelude.{◌≡◌, ℕ, nat_eq, List, [], ◌∷◌, slice_index_or}
use Rattle.std.specs.List.{filter, flat_map}
use Rattle.lrs_machine.specs.Lines.{Text}
use Rattle.lrs_machine.specs.declared.image.Image.{Image}
use Rattle.lrs_difference.specs.declared.line.Item.{Item}
use Rattle.lrs_difference.specs.Difference.{difference}
use Rattle.lrs_difference.specs.Items.{item_key}
use Rattle.lrs_difference.specs.Lines.{lines_text}

-- The difference of two inventories as text.
abbrev pub difference_text : Image → Image → Text
difference_text before after = lines_text (difference before after)

-- links, classes, routes, referents, assets, and what assets hold: the first number of the key
abbrev pub group : Item → ℕ
group x = slice_index_or (item_key x) 0 0

-- the lines of one group alone
abbrev pub group_text : ℕ → Image → Image → Text
group_text g before after = lines_text (filter (λ l. nat_eq (group l.item) g) (difference before after))

-- ... of several groups, one behind the other
abbrev pub groups_text : List ℕ → Image → Image → Text
groups_text groups before after = flat_map (λ g. group_text g before after) groups

-- The text of a difference is that of its groups.
abbrev pub DifferenceIsItsGroups : Type 0
DifferenceIsItsGroups = (before after : Image) → difference_text before after ≡ groups_text (0 ∷ 1 ∷ 2 ∷ 3 ∷ 4 ∷ 5 ∷ []) before after

-- all but what assets hold
abbrev pub listed_groups : List ℕ
listed_groups = 0 ∷ 1 ∷ 2 ∷ 3 ∷ 4 ∷ []
