-- Columns: what a class has along a route, in stretches that follow one another, each with a value or none.
use Rattle.std.specs.Prelude.{◌≡◌, ℕ, ◌<◌, nat_lt, nat_le, min, if◌then◌else◌, List, [], ◌∷◌, ◌++◌, map, Option, Some, None}
use Rattle.lrs_measure.specs.Texts.{Name}
use Rattle.lrs_events.specs.declared.span.Span.{Span}
use Rattle.lrs_machine.specs.Segments.{Values}
use Rattle.lrs_report.specs.declared.columns.ValueStretch.{ValueStretch}

-- the stretches go from a chainage to another
abbrev pub IsColumn : ℕ → ℕ → List ValueStretch → Type 0
IsColumn from to [] = from ≡ to
IsColumn from to (s ∷ ss) = (from < s.to) × IsColumn s.to to ss

abbrev pub first_stretch : List ValueStretch → Option ValueStretch
first_stretch [] = None
first_stretch (s ∷ ss) = Some s

-- the value of the first stretch
abbrev pub first_value : List ValueStretch → Option Name
first_value [] = None
first_value (s ∷ ss) = s.value

-- where the first stretch ends, or the route where there is none
abbrev pub first_end : ℕ → List ValueStretch → ℕ
first_end len [] = len
first_end len (s ∷ ss) = s.to

-- where the first of the columns' first stretches ends
abbrev pub least_end : ℕ → List (List ValueStretch) → ℕ
least_end len [] = len
least_end len (c ∷ cs) = min (first_end len c) (least_end len cs)

-- the stretches without a first one that ends up to a chainage
abbrev pub behind : ℕ → List ValueStretch → List ValueStretch
behind to [] = []
behind to (s ∷ ss) = if nat_le s.to to then ss else s ∷ ss

-- the value at a chainage: that of the first stretch that ends behind it
abbrev pub value_at : List ValueStretch → ℕ → Option Name
value_at [] j = None
value_at (s ∷ ss) j = if nat_lt j s.to then s.value else value_at ss j

-- one value or none of each column
abbrev pub values_at : List (List ValueStretch) → ℕ → Values
values_at columns j = map (λ c. value_at c j) columns

-- the stretch without a value between two chainages, if there is something between them
abbrev pub gap : ℕ → ℕ → List ValueStretch
gap from to = if nat_lt from to then record { to = to; value = None } ∷ [] else []

-- the stretches from a chainage on of rows that follow one another, each of the value of its asset, and those between them
abbrev pub stretches_from : (ℕ → Option Name) → ℕ → ℕ → List Span → List ValueStretch
stretches_from value from len [] = gap from len
stretches_from value from len (r ∷ rs) = gap from r.from ++ record { to = r.to; value = value r.asset } ∷ stretches_from value r.to len rs

-- a first stretch, if there is one, and those behind it
abbrev pub stretches_behind : (ℕ → Option Name) → ℕ → Option ValueStretch → List Span → List ValueStretch
stretches_behind value len None rows = []
stretches_behind value len (Some s) rows = s ∷ stretches_from value s.to len rows
