-- The text of the lengths: a header, and a line for each class and value, with lengths in metres, and how many assets hold them.
use Rattle.std.specs.Prelude.{List, [], ◌∷◌, ◌++◌, codes, decimal}
use Rattle.std.specs.List.{flat_map}
use Rattle.lrs_measure.specs.FractionTexts.{metres_text}
use Rattle.lrs_machine.specs.Lines.{Text}
use Rattle.lrs_report_lists.specs.Lines.{csv_line}
use Rattle.lrs_report_lists.specs.declared.length_lists.table.ValueLength.{ValueLength}

abbrev pub length_line : ValueLength → Text
length_line l = csv_line (l.class ∷ l.value ∷ metres_text l.left ∷ metres_text l.right ∷ metres_text l.length ∷ decimal l.assets ∷ [])

-- the line as it is written, its class and value first
abbrev pub key_part : ValueLength → Text
key_part l = l.class ++ 44 ∷ (l.value ++ 44 ∷ [])

abbrev pub numbers_part : ValueLength → Text
numbers_part l = metres_text l.left ++ 44 ∷ (metres_text l.right ++ 44 ∷ (metres_text l.length ++ 44 ∷ (decimal l.assets ++ 10 ∷ [])))

abbrev pub lengths_text : List ValueLength → Text
lengths_text lengths = csv_line (codes "class" ∷ codes "value" ∷ codes "left" ∷ codes "right" ∷ codes "length" ∷ codes "assets" ∷ []) ++ flat_map length_line lengths
