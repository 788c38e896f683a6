-- A referent with its millimetre, as it is gathered.
use Rattle.std.specs.Prelude.{◌≡◌, ◌||◌, Bool, true, List, []}
use Rattle.std.specs.List.{cons_option}
use Rattle.lrs_measure.specs.Lists.{each_two}
use Rattle.lrs_measure.specs.Texts.{Name, name_before}
use Rattle.lrs_element.specs.declared.link.Ground.{Ground}
use Rattle.lrs_element.specs.Course.{Millimetre}
use Rattle.lrs_position.specs.declared.route.Referent.{Referent}
use Rattle.lrs_machine.specs.Image.{referent_entry}
use Rattle.lrs_difference.specs.declared.referent_list.PlacedReferent.{PlacedReferent}

abbrev pub entry_of : PlacedReferent → Name × Millimetre
entry_of r = (r.name, (r.link, r.mm))

abbrev pub named_before : PlacedReferent → PlacedReferent → Bool
named_before a b = name_before a.name b.name

-- a referent of a course, where it stands on it
abbrev pub entry_on : List Ground → Referent → List (Name × Millimetre)
entry_on course r = cons_option (referent_entry course r) []

-- no two have one name
abbrev pub HaveNames : List PlacedReferent → Type 0
HaveNames rows = each_two (λ a b. named_before a b || named_before b a) rows ≡ true
