-- Rows of ledgers, counted one after the other.
use Rattle.std.specs.Prelude.{ℕ, ◌+◌, ◌-◌, Bool, false, if◌then◌else◌, List, [], ◌∷◌, map, Option}
use Rattle.std.specs.List.{find}
use Rattle.std.specs.Option.{option_map, option_map_or}
use Rattle.std.specs.Ordering.{nat_cmp, is_eq}
use Rattle.lrs_measure.specs.OrderedLists.{insert_some}
use Rattle.lrs_measure.specs.Texts.{Name, name_before, same_name}
use Rattle.lrs_events.specs.declared.class.Asset.{Asset}
use Rattle.lrs_events.specs.declared.class.Class.{Class}
use Rattle.lrs_events.specs.declared.part.Part.{Part}
use Rattle.lrs_events.specs.declared.part.Gone.{Gone}
use Rattle.lrs_machine.specs.declared.total.Total.{Total}
use Rattle.lrs_report.specs.ListTotals.{kept_sum}
use Rattle.lrs_report_answers.specs.declared.tallies.tally.Count.{Count}
use Rattle.lrs_report_answers.specs.declared.tallies.tally.CountedSum.{CountedSum}
use Rattle.lrs_report_answers.specs.declared.tallies.tally.CountedSum.TheVariants.{Entered, Retired, Abandoned}

-- the classes that are counted
abbrev pub names_of : List Count → List Name
names_of counts = map (λ c. c.class) counts

abbrev pub no_count : Class → Count
no_count c = record { class = c.name; entered = 0; retired = 0; abandoned = 0 }

abbrev pub count_before : Count → Count → Bool
count_before a b = name_before a.class b.class

-- the counts with that of a new class, of which there are no rows
abbrev pub with_class : Option Class → List Count → List Count
with_class class counts = insert_some count_before (option_map no_count class) counts

abbrev pub is_count_of : Name → Option Count → Bool
is_count_of class o = option_map_or (λ c. same_name class c.class) o false

-- the count with n more in a column
abbrev pub raised : CountedSum → ℕ → Count → Count
raised (Entered) n c = record { class = c.class; entered = kept_sum (c.entered + n); retired = c.retired; abandoned = c.abandoned }
raised (Retired) n c = record { class = c.class; entered = c.entered; retired = kept_sum (c.retired + n); abandoned = c.abandoned }
raised (Abandoned) n c = record { class = c.class; entered = c.entered; retired = c.retired; abandoned = kept_sum (c.abandoned + n) }

-- the counts with n more in a column of the class
abbrev pub raised_of : Name → CountedSum → ℕ → List Count → List Count
raised_of class column n counts = map (λ c. if same_name class c.class then raised column n c else c) counts

-- ... with a row more
abbrev pub with_part : List Asset → CountedSum → Part → List Count → List Count
with_part assets column part counts = option_map_or (λ a. raised_of a.class column (part.to - part.from) counts) (find (λ a. is_eq (nat_cmp a.number part.asset)) assets) counts

-- ... with many rows more
abbrev pub with_rows : {Row : Type 0} → List Asset → (Row → CountedSum) → (Row → Part) → List Row → List Count → List Count
with_rows assets column part [] counts = counts
with_rows assets column part (r ∷ rows) counts = with_rows assets column part rows (with_part assets (column r) (part r) counts)

abbrev pub with_entered : List Asset → List Part → List Count → List Count
with_entered assets entered counts = with_rows assets (λ p. Entered) (λ p. p) entered counts

abbrev pub column_of : Gone → CountedSum
column_of g = if g.abandoned then Abandoned else Retired

abbrev pub with_gone : List Asset → List Gone → List Count → List Count
with_gone assets gone counts = with_rows assets column_of (λ g. g.part) gone counts

-- what a count says of its class
abbrev pub total_counted : Count → Total
total_counted c = record { class = c.class; entered = c.entered; retired = c.retired; abandoned = c.abandoned; present = c.entered - kept_sum (c.retired + c.abandoned) }
