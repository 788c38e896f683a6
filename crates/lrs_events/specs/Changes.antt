-- What a change of rows makes of them: removed rows and inserted rows.
use Rattle.std.specs.Prelude.{Bool, ◌&&◌, not, nat_eq, List, filter}
use Rattle.std.specs.List.{list_any}
use Rattle.lrs_measure.specs.Texts.{same_name}
use Rattle.lrs_measure.specs.OrderedLists.{insert_all}
use Rattle.lrs_events.specs.declared.span.Span.{Span}
use Rattle.lrs_events.specs.declared.change.SpanChange.{SpanChange}
use Rattle.lrs_events.specs.Spans.{same_side, span_before}

abbrev pub same_row : Span → Span → Bool
same_row r s = same_name r.class s.class && nat_eq r.asset s.asset && nat_eq r.from s.from && nat_eq r.to s.to && same_side r.side s.side

-- whether the row is one of these
abbrev pub has_row : List Span → Span → Bool
has_row rows r = list_any (λ s. same_row s r) rows

-- the rows without the removed ones
abbrev pub without_rows : List Span → List Span → List Span
without_rows gone rows = filter (λ r. not (has_row gone r)) rows

-- ... and with the inserted ones in their places
abbrev pub changed : (Span → Span → Bool) → List Span → List Span → List Span → List Span
changed before gone come rows = insert_all before come (without_rows gone rows)

-- what a change makes of the rows of a route
abbrev pub changed_rows : SpanChange → List Span → List Span
changed_rows change rows = changed span_before change.gone.items change.come.items rows
