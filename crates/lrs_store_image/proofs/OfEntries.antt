-- What holds of entries that are read: their courses, and the rows on them.
use Rattle.std.proofs.Common.{◌≡◌, true, List, [], ◌∷◌, map, Option, Some, None, Result, Ok, Err, sym, ap, ap₂, subst, refl, ◌∙◌}
use Rattle.std.specs.Prelude.{IfOk}
use Rattle.std.specs.List.{list_all, list_any}
use Rattle.std.proofs.lemmas.Bool.{and_parts}
use Rattle.lrs_measure.specs.Texts.{same_name}
use Rattle.lrs_element.specs.declared.link.Link.{Link}
use Rattle.lrs_position.specs.declared.route.Route.{Route}
use Rattle.lrs_events.specs.declared.class.Class.{Class}
use Rattle.lrs_events.specs.declared.class.Asset.{Asset}
use Rattle.lrs_machine.specs.declared.image.RouteRow.{RouteRow}
use Rattle.lrs_machine.specs.declared.table.Table.TheVariants as table
use Rattle.lrs_machine.specs.Sound.{RouteSpans, are_spans_of, keeps_exclusive, are_courses, asset_before}
use Rattle.lrs_machine.proofs.Pairs.{each_two-map}
use Rattle.std.proofs.lemmas.List.Folds.{list_all-map}
use Rattle.lrs_measure.specs.Lists.{each_two}
use Rattle.lrs_events.specs.declared.part.Part.{Part}
use Rattle.lrs_image_sound.specs.Tables.{fits_route, route_courses, route_spans}
use Rattle.lrs_image.specs.declared.keeper.LoadFault.{LoadFault}
use Rattle.lrs_store_image.specs.TableReadings.{Reads}
use Rattle.lrs_store_tables.specs.Contents.Tables.{SpanRow}
use Rattle.lrs_store_tables.specs.Contents.Decoders.{span_of}
use Rattle.lrs_store_tables.specs.Contents.Decoders as option
use Rattle.lrs_store_tables.specs.Contents.Content.{read, entries_of, row_with, each_of_known, with_edit}
use Rattle.lrs_store_image.specs.DecodedRoutes.Spans.{courses_over, are_sound}
use Rattle.lrs_store_image.proofs.Chained.{read_passes, read_said}

courses-map : (es : List RouteRow) → courses_over (map (λ e. e.route) es) ≡ route_courses es
courses-map [] = refl
courses-map (e ∷ es) = ap (λ l. record { route = e.route.name; entries = e.route.course } ∷ l) (courses-map es)

routes-map : (f : Route → RouteRow) → ((r : Route) → (f r).route ≡ r) → (rs : List Route) → map (λ e. e.route) (map f rs) ≡ rs
routes-map f h [] = refl
routes-map f h (r ∷ rs) = ap₂ (λ a l. a ∷ l) (h r) (routes-map f h rs)

-- entries are of the routes that they were read beside
entries_routes : (assets : List Asset) (rows : List SpanRow) (rs : List Route) (es : List RouteRow) → entries_of assets rows rs ≡ Some es → map (λ e. e.route) es ≡ rs
entries_routes assets rows rs es = by (each_of_known (span_of assets) (λ name. list_any (λ route. same_name route.name name) rs) rows)
  where
    by : (o : Option _) → option.◌>>=◌ o (λ said. Some (map (row_with said) rs)) ≡ Some es → map (λ e. e.route) es ≡ rs
    by None h = absurd (cc)
    by (Some said) h = let same : map (row_with said) rs ≡ es = cc in subst (λ l. map (λ e. e.route) l ≡ rs) same (routes-map (row_with said) (λ r. refl) rs)

module _ (links : List Link) (classes : List Class) (assets : List Asset) (rows : List SpanRow) (rs : List Route) (es : List RouteRow)
    (is : read table.Span (entries_of assets rows rs) (are_sound links classes assets) ≡ Ok es) where
  -- their courses are those of the routes
  pub courses_stay : route_courses es ≡ courses_over rs
  courses_stay = sym (courses-map es) ∙ ap courses_over (entries_routes assets rows rs es (read_said table.Span (entries_of assets rows rs) (are_sound links classes assets) es is))

  -- the rows of each fit it
  pub rows_fit : list_all (fits_route assets) es ≡ true
  rows_fit =
      sym (list_all-map (are_spans_of assets) (λ (e : RouteRow). let s : RouteSpans = record { course = e.route.course; rows = e.spans } in s) es)
      ∙ (and_parts (list_all (are_spans_of assets) (route_spans es)) (list_all (keeps_exclusive links assets (route_spans es)) classes)
      (read_passes table.Span (entries_of assets rows rs) (are_sound links classes assets) es is)).0

module _ (links : List Link) (classes : List Class) (assets : List Asset) (rows : List SpanRow) (rs : List Route) where
  -- the courses of what is read are sound, where those of the routes are
  pub courses_read : (r : Result (List RouteRow) LoadFault) → Reads (read table.Span (entries_of assets rows rs) (are_sound links classes assets)) r
      → are_courses links (courses_over rs) ≡ true → IfOk r (λ es. are_courses links (route_courses es) ≡ true)
  courses_read (Ok es) is fit = ap (are_courses links) (courses_stay links classes assets rows rs es is) ∙ fit
  courses_read (Err e) is fit = tt

  -- the rows of what is read fit
  pub rows_read : (r : Result (List RouteRow) LoadFault) → Reads (read table.Span (entries_of assets rows rs) (are_sound links classes assets)) r → IfOk r (λ es. list_all (fits_route assets) es ≡ true)
  rows_read (Ok es) is = rows_fit links classes assets rows rs es is
  rows_read (Err e) is = tt

-- which edit entered an asset plays no part in the order of assets
pub order_with : (entered : List Part) (assets : List Asset) → each_two asset_before (map (with_edit entered) assets) ≡ each_two asset_before assets
order_with entered assets = each_two-map asset_before (with_edit entered) assets
