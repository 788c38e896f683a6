-- An image that a store holds is sound: what the tests of the tables read is what the tests of the image read.
use Rattle.std.proofs.Common.{◌≡◌, Bool, true, false, cond, List, [], ◌∷◌, map, Option, Some, None, Ok, Err, refl, sym, ap, subst, ◌∙◌}
use Rattle.std.specs.Prelude.{◌&&◌, Result, IsTrue, IfSome, IfOk}
use Rattle.std.specs.List.{list_any}
use Rattle.std.proofs.lemmas.Bool.{and_parts}
use Rattle.lrs_measure.specs.Texts.{same_name}
use Rattle.lrs_position.specs.declared.route.Route.{Route}
use Rattle.lrs_position.specs.Routes.{is_route}
use Rattle.lrs_events.specs.declared.class.Asset.{Asset}
use Rattle.lrs_machine.specs.declared.image.RouteRow.{RouteRow}
use Rattle.lrs_machine.specs.declared.image.Image.{Image}
use Rattle.lrs_machine.specs.declared.table.Table.{Table}
use Rattle.lrs_machine.specs.declared.table.Table.TheVariants as table
use Rattle.lrs_machine.specs.Image.{nothing}
use Rattle.lrs_events.specs.Parts.{part_before}
use Rattle.lrs_machine.specs.Sound.{RouteCourse, Test, first_failed, first_unsound, tests, IsSound, link_before, are_links, class_before, are_classes, asset_before, are_assets, are_courses, are_all_marks, are_all_referents, are_spans, are_entered, gone_before, are_gone, are_edits, are_origins}
use Rattle.lrs_store_tables.specs.Contents.Tables.{Tables, MarkRow, RefRow, SpanRow}
use Rattle.lrs_store_tables.specs.Contents.Decoders.{if_true, each_of, each_sorted, sorted, said_of, number_before, counted, link_of, class_of, asset_of, mark_of, referent_of, span_of, part_of, gone_of, origin_of}
use Rattle.lrs_store_tables.specs.Contents.Decoders as option
use Rattle.lrs_store_tables.specs.Contents.Content.{read, Measured, courses_of, each_of_known, is_one_of, marks_of, measured_with, measured_of, referent_before, referents_of, route_with, routes_of, spans_of, row_with, entries_of, edits_of, inventory_of, version_of, origin_before, has_origins, image_of, content_of, has_no_rows}
use Rattle.lrs_store_tables.specs.Contents.Content as content
use Rattle.lrs_store_tables.proofs.Contents.Entries.{assets-same, spans-same, entered-same, gone-same}

-- what is read was decoded and passes its test
record WasRead {A : Type 0} (o : Option A) (test : A → Bool) (x : A) : Type 0 where
  decoded : o ≡ Some x
  passes : test x ≡ true

-- a step takes what was read before it
behind_read : {A B : Type 0} (P : B → Type 0) (t : Table) (o : Option A) (test : A → Bool) (f : A → Result B Table)
    → ((x : A) → WasRead o test x → IfOk (f x) P) → IfOk (content.◌>>=◌ (read t o test) f) P
behind_read P t None test f h = tt
behind_read P t (Some x) test f h =
    elim (test x) as (λ b. test x ≡ b → IfOk (content.◌>>=◌ (cond b (Ok x) (Err t)) f) P) [
      | true ↦ λ passes. h x (record { decoded = refl; passes = passes })
      | false ↦ λ _. tt
    ] refl

-- a step takes what is known of what the step before it gave
behind_known : {A B : Type 0} (P : B → Type 0) (Q : A → Type 0) (r : Result A Table) (f : A → Result B Table) → IfOk r Q → ((x : A) → Q x → IfOk (f x) P) → IfOk (content.◌>>=◌ r f) P
behind_known P Q (Ok x) f is h = h x is
behind_known P Q (Err t) f is h = tt

-- a step takes what was there before it
behind_some : {A B : Type 0} (P : B → Type 0) (o : Option A) (f : A → Option B) → ((x : A) → IfSome (f x) P) → IfSome (option.◌>>=◌ o f) P
behind_some P None f h = tt
behind_some P (Some x) f h = h x

behind_true : {A : Type 0} (P : A → Type 0) (b : Bool) (value : IsTrue b → A) → ((h : IsTrue b) → P (value h)) → IfSome (if_true b value) P
behind_true P true value h = h refl
behind_true P false value h = tt

is_some_as : {A : Type 0} (P : A → Type 0) (o : Option A) (x : A) → IfSome o P → o ≡ Some x → P x
is_some_as P (Some y) x h e = let same : y ≡ x = cc in subst P same h
is_some_as P None x h e = absurd (cc)

-- what every row says, row by row
map-each_of : {X Y Z : Type 0} (f : X → Option Y) (g : Y → Z) (h : X → Z) → ((x : X) → IfSome (f x) (λ y. g y ≡ h x)) → (xs : List X) → IfSome (each_of f xs) (λ ys. map g ys ≡ map h xs)
map-each_of f g h each [] = refl
map-each_of f g h each (x ∷ xs) = by (f x) (each x) (each_of f xs) (map-each_of f g h each xs)
  where
    by : (o : Option _) → IfSome o (λ y. g y ≡ h x) → (r : Option (List _)) → IfSome r (λ ys. map g ys ≡ map h xs)
        → IfSome (option.◌>>=◌ o (λ y. option.◌>>=◌ r (λ ys. Some (y ∷ ys)))) (λ ys. map g ys ≡ h x ∷ map h xs)
    by None first r rest = tt
    by (Some y) first None rest = tt
    by (Some y) first (Some ys) rest = cc

map_id : {X : Type 0} (xs : List X) → map (λ x. x) xs ≡ xs
map_id [] = refl
map_id (x ∷ xs) = ap (λ t. x ∷ t) (map_id xs)

map-map : {X Y Z : Type 0} (f : Y → Z) (g : X → Y) (xs : List X) → map f (map g xs) ≡ map (λ x. f (g x)) xs
map-map f g [] = refl
map-map f g (x ∷ xs) = ap (λ t. f (g x) ∷ t) (map-map f g xs)

-- the marks are read course by course
measured-courses : (rows : List MarkRow) (courses : List RouteCourse) → IfSome (measured_of rows courses) (λ ms. map (λ m. m.course) ms ≡ map (λ c. c) courses)
measured-courses rows courses =
    behind_some _ (each_of_known mark_of (is_one_of courses) rows) _ (λ said.
    map-each_of (measured_with said) (λ (m : Measured). m.course) (λ (c : RouteCourse). c)
    (λ c. behind_some _ (counted 0 (sorted number_before (said_of c.route said))) _ (λ marks. refl)) courses)

-- what a route has of its course and marks
abbrev measured : Route → Measured
measured r = record { course = record { route = r.name; entries = r.course }; marks = r.marks }

-- the referents are read route by route
routes-measured : (rows : List RefRow) (ms : List Measured) → IfSome (routes_of rows ms) (λ rs. map measured rs ≡ map (λ m. m) ms)
routes-measured rows ms =
    behind_some _ (each_of_known referent_of (λ route. list_any (λ m. same_name m.course.route route) ms) rows) _ (λ said.
    map-each_of (route_with said) measured (λ (m : Measured). m)
    (λ m. behind_true _ (is_route m.course.entries m.marks (sorted referent_before (said_of m.course.route said))) _ (λ fits. refl)) ms)

-- the spans are read route by route
entries-routes : (assets : List Asset) (rows : List SpanRow) (rs : List Route) → IfSome (entries_of assets rows rs) (λ es. map (λ e. e.route) es ≡ map (λ r. r) rs)
entries-routes assets rows rs =
    behind_some _ (each_of_known (span_of assets) (λ name. list_any (λ route. same_name route.name name) rs) rows) _ (λ said. map-map (λ (e : RouteRow). e.route) (row_with said) rs)

first_failed-passed : (t : Test) (ts : List Test) → t.passes ≡ true → first_failed (t ∷ ts) ≡ first_failed ts
first_failed-passed t ts h = ap (λ b. cond b (first_failed ts) (Some t.table)) h

-- every test passes
abbrev AllPassed : List Test → Type 0
AllPassed [] = Unit {0}
AllPassed (t ∷ ts) = (t.passes ≡ true) × AllPassed ts

none_failed : (ts : List Test) → AllPassed ts → first_failed ts ≡ None
none_failed [] h = refl
none_failed (t ∷ ts) h = first_failed-passed t ts h.0 ∙ none_failed ts h.1

all_passed : (i : Image) → AllPassed (tests i) → IsSound i
unfolding first_unsound
all_passed i h = none_failed (tests i) h

-- Where each asset was entered, by one edit, the image of the rows is sound.
inventory_is_sound : (t : Tables) → IfOk (inventory_of t) (λ i. are_origins i.entered i.assets ≡ true → IsSound i)
inventory_is_sound t =
    behind_read _ table.Link (each_sorted link_before link_of t.link) are_links _ (λ links link.
    behind_read _ table.Class (each_sorted class_before class_of t.class) are_classes _ (λ classes class.
    behind_read _ table.Asset (each_sorted asset_before asset_of t.asset) (are_assets classes) _ (λ assets asset.
    behind_read _ table.Piece (courses_of t.piece) (are_courses links) _ (λ courses piece.
    behind_read _ table.Mark (measured_of t.mark courses) (λ ms. are_all_marks (map marks_of ms)) _ (λ ms mark.
    behind_read _ table.Ref (routes_of t.ref ms) (λ rs. are_all_referents (map referents_of rs)) _ (λ rs ref.
    behind_read _ table.Span (entries_of assets t.span rs) (λ es. are_spans links classes assets (map spans_of es)) _ (λ es span.
    behind_read _ table.Entered (each_sorted part_before part_of t.entered) (are_entered links assets) _ (λ entered enter.
    behind_read _ table.Gone (each_sorted gone_before gone_of t.gone) (are_gone links assets (map spans_of es) entered) _ (λ gone go.
    behind_read _ table.Edit (edits_of t.edit) (are_edits entered gone) _ (λ edits edit. λ origins.
    let of_courses : map (λ m. m.course) ms ≡ courses = is_some_as _ _ ms (measured-courses t.mark courses) mark.decoded ∙ map_id courses in
    let of_ms : map measured rs ≡ ms = is_some_as _ _ rs (routes-measured t.ref ms) ref.decoded ∙ map_id ms in
    let of_rs : map (λ e. e.route) es ≡ rs = is_some_as _ _ es (entries-routes assets t.span rs) span.decoded ∙ map_id rs in
    let through : map (λ e. measured e.route) es ≡ ms = sym (map-map measured (λ (e : RouteRow). e.route) es) ∙ ap (map measured) of_rs ∙ of_ms in
    all_passed _ (
      link.passes,
      (
        class.passes,
        (
          assets-same entered classes assets ∙ asset.passes,
          (
            ap (are_courses links) (sym (map-map (λ (m : Measured). m.course) (λ (e : RouteRow). measured e.route) es) ∙ ap (map (λ (m : Measured). m.course)) through ∙ of_courses) ∙ piece.passes,
            (
              ap are_all_marks (sym (map-map marks_of (λ (e : RouteRow). measured e.route) es) ∙ ap (map marks_of) through) ∙ mark.passes,
              (
                ap are_all_referents (sym (map-map referents_of (λ (e : RouteRow). e.route) es) ∙ ap (map referents_of) of_rs) ∙ ref.passes,
                (
                  spans-same entered links classes assets (map spans_of es) ∙ span.passes,
                  (
                    entered-same entered links assets entered ∙ enter.passes,
                    (
                      gone-same entered links assets (map spans_of es) entered gone ∙ go.passes,
                      (edit.passes, (origins, tt)),
                    ),
                  ),
                ),
              ),
            ),
          ),
        ),
      ),
    )))))))))))

image_is_sound : (t : Tables) → IfOk (image_of t) IsSound
image_is_sound t =
    behind_read _ table.Version (version_of t.version) (λ v. true) _ (λ version _.
    behind_known _ _ (inventory_of t) _ (inventory_is_sound t) (λ image sound.
    behind_read _ table.Origin (each_sorted origin_before origin_of t.origin) (λ os. are_origins image.entered image.assets && has_origins version image.assets os) _ (λ os origin.
    sound (and_parts (are_origins image.entered image.assets) (has_origins version image.assets os) origin.passes).0)))

nothing_is_sound : IsSound nothing
unfolding first_unsound
nothing_is_sound = refl

pub content_is_sound : (t : Tables) (i : Image) → content_of t ≡ Ok i → IsSound i
unfolding content_of
content_is_sound t i e = by (has_no_rows t) e
  where
    by : (b : Bool) → cond b (Ok nothing) (image_of t) ≡ Ok i → IsSound i
    by true h = let same : nothing ≡ i = cc in subst IsSound same nothing_is_sound
    by false h = from (image_of t) (image_is_sound t) h
      where
        from : (r : Result Image Table) → IfOk r IsSound → r ≡ Ok i → IsSound i
        from (Ok x) is h = let same : x ≡ i = cc in subst IsSound same is
        from (Err t) is h = absurd (cc)
