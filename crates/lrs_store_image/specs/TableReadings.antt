-- What a table's reading answers, where memory serves.
use Rattle.std.specs.Prelude.{◌≡◌, Result, Ok, Err, ⊤}
use Rattle.lrs_machine.specs.declared.table.Table.{Table}
use Rattle.lrs_image.specs.declared.keeper.LoadFault.{LoadFault}
use Rattle.lrs_image.specs.declared.keeper.LoadFault.TheVariants.{Memory, Store, Unsound}

-- what is wanted, unless memory ran out
abbrev pub Reads : {A : Type 0} → Result A Table → Result A LoadFault → Type 0
Reads wanted (Ok x) = wanted ≡ Ok x
Reads wanted (Err Memory) = ⊤
Reads wanted (Err Store) = ⊥
Reads wanted (Err (Unsound t)) = wanted ≡ Err t
