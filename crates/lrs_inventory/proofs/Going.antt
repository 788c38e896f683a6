-- Rows and referents that are removed are of the route.
use Rattle.std.proofs.Common.{◌≡◌, Bool, true, inl, inr, List, [], ◌∷◌, map, filter, refl, sym}
use Rattle.std.proofs.lemmas.Bool.{and_from}
use Rattle.std.specs.List.{list_any, list_all}
use Rattle.std.specs.Cmp.Lexicographic.{bytes_decides}
use Rattle.lrs_measure.specs.Lists.{In}
use Rattle.lrs_measure.proofs.Members.{In-filter, any_of}
use Rattle.lrs_inventory.specs.Prelude.{Referent, Span, span_before, has_row, IsPlan, RouteChange, spans_after}
use Rattle.lrs_events.specs.Changes.{changed, changed_rows}
use Rattle.lrs_events.specs.declared.change.SpanChange.{SpanChange}
use Rattle.lrs_events.proofs.Row.Differing.{has_in}
use Rattle.lrs_image.specs.Change.{refers_to}

-- each row that was there is one of the rows
pub rows_there : (rows gone : List Span) → ((r : Span) → In r gone → In r rows) → list_all (has_row rows) gone ≡ true
rows_there rows [] were = refl
rows_there rows (g ∷ gs) were = and_from (has_row rows g) (list_all (has_row rows) gs) (has_in rows g (were g (inl refl))) (rows_there rows gs (λ r m. were r (inr m)))

-- the rows that a plan removes were there
pub plan_there : (rows : List Span) (plan : SpanChange) → IsPlan rows plan → list_all (has_row rows) plan.gone.items ≡ true
plan_there rows plan is = rows_there rows plan.gone.items is.change.were

-- the rows after a change by a plan
pub rows_by : (rows : List Span) (c : RouteChange) (plan : SpanChange) → c.spans_gone ≡ plan.gone.items → c.spans_come ≡ plan.come.items → changed_rows plan rows ≡ spans_after c rows
rows_by rows c plan gone come = λ j. changed span_before (sym gone j) (sym come j) rows

-- each referent of some is named by them
pub names_there : (refs some : List Referent) → ((q : Referent) → In q some → In q refs) → list_all (λ name. list_any (refers_to name) refs) (map (λ q. q.name) some) ≡ true
names_there refs [] were = refl
names_there refs (q ∷ qs) were =
    and_from (list_any (refers_to q.name) refs) (list_all (λ name. list_any (refers_to name) refs) (map (λ p. p.name) qs))
    (any_of (refers_to q.name) q refs (were q (inl refl)) ((bytes_decides q.name q.name).1 refl)) (names_there refs qs (λ p m. were p (inr m)))

-- ... and so those that pass a test
pub names_kept : (test : Referent → Bool) (refs : List Referent) → list_all (λ name. list_any (refers_to name) refs) (map (λ q. q.name) (filter test refs)) ≡ true
names_kept test refs = names_there refs (filter test refs) (λ q m. (In-filter test q refs m).0)
