-- Totals while rows are added to them, one after the other.
use Rattle.std.specs.Prelude.{ℕ, ◌+◌, Bool, if◌then◌else◌, List, map}
use Rattle.std.specs.List.{fold}
use Rattle.std.specs.Option.{option_map_or}
use Rattle.std.specs.declared.cmp.Ordering.{Ordering}
use Rattle.std.specs.Ordering.{is_eq}
use Rattle.lrs_measure.specs.Lists.{each_two}
use Rattle.lrs_measure.specs.Texts.{Name, name_before, name_cmp}
use Rattle.lrs_events.specs.declared.class.Asset.{Asset}
use Rattle.lrs_events.specs.declared.class.Class.{Class}
use Rattle.lrs_events.specs.declared.part.Gone.{Gone}
use Rattle.lrs_events.specs.declared.part.Part.{Part}
use Rattle.lrs_events.specs.declared.span.Span.{Span}
use Rattle.lrs_machine.specs.declared.total.Total.{Total}
use Rattle.lrs_report.specs.declared.list_tally.Sum.{Sum}
use Rattle.lrs_report.specs.declared.list_tally.Sum.TheVariants.{Entered, Retired, Abandoned, Present}
use Rattle.lrs_report.specs.ListTotals.{asset_class, kept_sum, part_length, row_length}

-- the total with n more in a sum
abbrev pub raised : Sum → ℕ → Total → Total
raised (Entered) n t = record { class = t.class; entered = kept_sum (t.entered + n); retired = t.retired; abandoned = t.abandoned; present = t.present }
raised (Retired) n t = record { class = t.class; entered = t.entered; retired = kept_sum (t.retired + n); abandoned = t.abandoned; present = t.present }
raised (Abandoned) n t = record { class = t.class; entered = t.entered; retired = t.retired; abandoned = kept_sum (t.abandoned + n); present = t.present }
raised (Present) n t = record { class = t.class; entered = t.entered; retired = t.retired; abandoned = t.abandoned; present = kept_sum (t.present + n) }

-- how the class of a total compares with another
abbrev pub class_order : Name → Total → Ordering
class_order class t = name_cmp t.class class

abbrev pub total_before : Total → Total → Bool
total_before a b = name_before a.class b.class

-- the totals are in the order of their classes
abbrev pub are_by_class : List Total → Bool
are_by_class totals = each_two total_before totals

-- the totals with n more in a sum of the class
abbrev pub raised_of : Name → Sum → ℕ → List Total → List Total
raised_of class sum n totals = map (λ t. if is_eq (class_order class t) then raised sum n t else t) totals

-- ... with a part more
abbrev pub with_part : List Asset → Sum → Part → List Total → List Total
with_part assets sum part totals = option_map_or (λ class. raised_of class sum (part_length part) totals) (asset_class assets part.asset) totals

abbrev pub with_entered : List Asset → List Part → List Total → List Total
with_entered assets entered totals = fold (λ ts p. with_part assets Entered p ts) totals entered

abbrev pub sum_of : Gone → Sum
sum_of g = if g.abandoned then Abandoned else Retired

abbrev pub with_gone : List Asset → List Gone → List Total → List Total
with_gone assets gone totals = fold (λ ts g. with_part assets (sum_of g) g.part ts) totals gone

-- ... with the rows of a route more
abbrev pub with_rows : List Span → List Total → List Total
with_rows rows totals = fold (λ ts r. raised_of r.class Present (row_length r) ts) totals rows

-- ... of all routes
abbrev pub with_routes : List (List Span) → List Total → List Total
with_routes routes totals = fold (λ ts rows. with_rows rows ts) totals routes

-- the total of a class without rows
abbrev pub no_total : Class → Total
no_total c = record { class = c.name; entered = 0; retired = 0; abandoned = 0; present = 0 }
