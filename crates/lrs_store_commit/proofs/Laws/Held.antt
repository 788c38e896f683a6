-- A store of version 2 has the rows that the image it holds is written as.
use Rattle.std.proofs.Common.{◌≡◌, ◌<◌, Bool, true, false, cond, inl, inr, List, [], ◌∷◌, map, length, pos, Option, Some, None, Ok, Err, refl, sym, ap, subst, ◌∙◌, IsPermutation, flat_map}
use Rattle.std.specs.Prelude.{◌&&◌, nat_eq, Result}
use Rattle.std.specs.List.{AllByRecursion, list_all, list_any}
use Rattle.std.proofs.lemmas.Bool.{and_parts, eqb-true}
use Rattle.std.proofs.lemmas.List.Sorted.{IsPermutation-refl}
use Rattle.std.specs.Cmp.Lexicographic.{bytes_decides}
use Rattle.lrs_measure.specs.Lists.{In, each_two}
use Rattle.lrs_measure.specs.OrderedLists.{insert_by}
use Rattle.lrs_measure.specs.Texts.{Name, same_name, name_before}
use Rattle.lrs_measure.proofs.Members.{In-map, map_found, any_found, all_at}
use Rattle.lrs_element.specs.declared.link.Piece.{Piece}
use Rattle.lrs_element.specs.declared.marks.Mark.{Mark}
use Rattle.lrs_element.specs.Course.{course_of, piece_count}
use Rattle.lrs_position.specs.declared.route.Referent.{Referent}
use Rattle.lrs_position.specs.declared.route.Route.{Route}
use Rattle.lrs_position.specs.Routes.{is_route}
use Rattle.lrs_events.specs.declared.class.Asset.{Asset}
use Rattle.lrs_events.specs.declared.span.Span.{Span}
use Rattle.lrs_events.specs.Parts.{part_before}
use Rattle.lrs_events.specs.Spans.{span_before}
use Rattle.lrs_machine.specs.declared.image.RouteRow.{RouteRow}
use Rattle.lrs_machine.specs.declared.image.Image.{Image}
use Rattle.lrs_machine.specs.declared.table.Table.{Table}
use Rattle.lrs_machine.specs.declared.table.Table.TheVariants as table
use Rattle.lrs_machine.specs.Sound.{RouteCourse, link_before, are_links, class_before, are_classes, asset_before, are_assets, course_before, is_course, are_courses, are_all_marks, are_all_referents, are_spans, are_entered, gone_before, are_gone, are_edits, are_origins}
use Rattle.lrs_machine.proofs.Pairs.{each_two-map}
use Rattle.lrs_store_tables.specs.Contents.Tables.{Tables, PieceRow, OriginRow}
use Rattle.lrs_store_tables.specs.Contents.Decoders.{each_of, each_sorted, sorted, OfRoute, said_of, Numbered, number_before, counted, link_of, class_of, asset_of, piece_of, mark_of, referent_of, span_of, part_of, gone_of, edit_of, Origin, origin_of}
use Rattle.lrs_store_tables.specs.Contents.Content.{read, with_name, routes_named, course_in_fewest, course_of_route, courses_of, each_of_known, Measured, is_one_of, measured_with, measured_of, referent_before, route_with, routes_of, row_with, entries_of, edits_of, marks_of, referents_of, spans_of, with_edit, inventory_of, version_of, origin_before, are_origins_of, has_origins, has_no_rows, image_of, content_of}
use Rattle.lrs_store_tables.specs.Contents.Content as content
use Rattle.lrs_store_tables.specs.Contents.Encoders.{link_row, class_row, asset_row, piece_row, mark_row, ref_row, span_row, entered_row, gone_row, edit_row, numbered, ArePiecesOf}
use Rattle.lrs_store_tables.specs.Contents.EncodedImages.{Encodes}
use Rattle.lrs_store_tables.specs.Contents.Laws.{origin_row}
use Rattle.lrs_store_commit.specs.Laws.ImageLaws.{ContentIsEncoded}
use Rattle.lrs_store_commit.proofs.Laws.Decoded.{some_is, bind_some, only_some, true_some, link_back, class_back, asset_back, piece_said, says_piece, mark_said, mark_back, referent_said, referent_back, span_said, span_back, part_back, gone_back, edit_said, edit_back, origin_said, origin_back, each_map, map_id, map-map, rows_back, each_member}
use Rattle.lrs_store_commit.proofs.Laws.Grouped.{In-sorted, sorted_back, table_back, counted_member, numbered_back, rows_of_routes, said_member}

-- ---- what was read of each table

pub record WasRead {A B : Type 0} (o : Option A) (test : A → Bool) (f : A → Result B Table) (y : B) : Type 0 where
  pub value : A
  pub decoded : o ≡ Some value
  pub passes : test value ≡ true
  pub next : f value ≡ Ok y

pub was_read : {A B : Type 0} (t : Table) (o : Option A) (test : A → Bool) (f : A → Result B Table) (y : B) → content.◌>>=◌ (read t o test) f ≡ Ok y → WasRead o test f y
was_read t None test f y h = absurd (cc)
was_read t (Some x) test f y h =
    elim (test x) as (λ b. test x ≡ b → content.◌>>=◌ (cond b (Ok x) (Err t)) f ≡ Ok y → WasRead (Some x) test f y) [
      | true ↦ λ passes k. record { value = x; decoded = refl; passes = passes; next = k }
      | false ↦ λ _ k. absurd (cc)
    ] refl h

-- the tables beside version and origin were read to this image
pub record IsRead (t : Tables) (i : Image) : Type 0 where
  pub assets_read : List Asset
  pub courses : List RouteCourse
  pub measured : List Measured
  pub routes : List Route
  pub link : each_sorted link_before link_of t.link ≡ Some i.links
  pub class : each_sorted class_before class_of t.class ≡ Some i.classes
  pub asset : each_sorted asset_before asset_of t.asset ≡ Some assets_read
  pub with_edits : i.assets ≡ map (with_edit i.entered) assets_read
  pub piece : courses_of t.piece ≡ Some courses
  pub courses_pass : are_courses i.links courses ≡ true
  pub mark : measured_of t.mark courses ≡ Some measured
  pub ref : routes_of t.ref measured ≡ Some routes
  pub span : entries_of assets_read t.span routes ≡ Some i.routes
  pub entered : each_sorted part_before part_of t.entered ≡ Some i.entered
  pub gone : each_sorted gone_before gone_of t.gone ≡ Some i.gone
  pub edit : edits_of t.edit ≡ Some i.edits

pub ok_is : {A : Type 0} (x y : A) → (let r : Result A Table = Ok x in r) ≡ Ok y → x ≡ y
ok_is x y h = cc

pub is_read : (t : Tables) (i : Image) → inventory_of t ≡ Ok i → IsRead t i
is_read t i h =
    let links = was_read table.Link (each_sorted link_before link_of t.link) are_links _ i h in
    let classes = was_read table.Class (each_sorted class_before class_of t.class) are_classes _ i links.next in
    let assets = was_read table.Asset (each_sorted asset_before asset_of t.asset) (are_assets classes.value) _ i classes.next in
    let courses = was_read table.Piece (courses_of t.piece) (are_courses links.value) _ i assets.next in
    let measured = was_read table.Mark (measured_of t.mark courses.value) (λ ms. are_all_marks (map marks_of ms)) _ i courses.next in
    let routes = was_read table.Ref (routes_of t.ref measured.value) (λ rs. are_all_referents (map referents_of rs)) _ i measured.next in
    let entries = was_read table.Span (entries_of assets.value t.span routes.value) (λ es. are_spans links.value classes.value assets.value (map spans_of es)) _ i routes.next in
    let entered = was_read table.Entered (each_sorted part_before part_of t.entered) (are_entered links.value assets.value) _ i entries.next in
    let gone = was_read table.Gone (each_sorted gone_before gone_of t.gone) (are_gone links.value assets.value (map spans_of entries.value) entered.value) _ i entered.next in
    let edits = was_read table.Edit (edits_of t.edit) (are_edits entered.value gone.value) _ i gone.next in
    let made = ok_is _ i edits.next in
    subst (IsRead t) made (record {
      assets_read = assets.value;
      courses = courses.value;
      measured = measured.value;
      routes = routes.value;
      link = links.decoded;
      class = classes.decoded;
      asset = assets.decoded;
      with_edits = refl;
      piece = courses.decoded;
      courses_pass = courses.passes;
      mark = measured.decoded;
      ref = routes.decoded;
      span = entries.decoded;
      entered = entered.decoded;
      gone = gone.decoded;
      edit = edits.decoded;
    })

-- ---- the routes that are named

In-insert_name : (n m : Name) (names : List Name) → In n (m ∷ names) → In n (insert_by name_before m names)
In-insert_name n m [] k = k
In-insert_name n m (x ∷ names) k =
    elim (name_before m x) as (λ b. In n (cond b (m ∷ x ∷ names) (x ∷ insert_by name_before m names))) [
      | true ↦ k
      | false ↦ by k (In-insert_name n m names)
    ]
  where
    by : In n (m ∷ x ∷ names) → (In n (m ∷ names) → In n (insert_by name_before m names)) → In n (x ∷ insert_by name_before m names)
    by (inl e) later = inr (later (inl e))
    by (inr (inl e)) later = inl e
    by (inr (inr j)) later = inr (later (inr j))

In-with_name : (n m : Name) (names : List Name) → In n (m ∷ names) → In n (with_name m names)
In-with_name n m names k =
    elim (list_any (same_name m) names) as (λ b. list_any (same_name m) names ≡ b → In n (cond b names (insert_by name_before m names))) [
      | true ↦ λ e. by k (any_found (same_name m) names e)
      | false ↦ λ _. In-insert_name n m names k
    ] refl
  where
    by : In n (m ∷ names) → ((x : Name) × In x names × (same_name m x ≡ true)) → In n names
    by (inl e) found = subst (λ x. In x names) (sym (e ∙ (bytes_decides _ _).0 found.2)) found.1
    by (inr j) found = j

In-routes_named : {X : Type 0} (r : OfRoute X) (said : List (OfRoute X)) → In r said → In r.route (routes_named said)
In-routes_named r [] m = absurd m
In-routes_named r (s ∷ said) (inl e) = In-with_name r.route s.route (routes_named said) (inl (ap (λ (x : OfRoute _). x.route) e))
In-routes_named r (s ∷ said) (inr m) = In-with_name r.route s.route (routes_named said) (inr (In-routes_named r said m))

-- ---- what is said of known routes

pub record AreKnown {Row X : Type 0} (decoded : Row → Option (OfRoute X)) (is_known : Name → Bool) (rows : List Row) (said : List (OfRoute X)) : Type 0 where
  pub each : each_of decoded rows ≡ Some said
  pub known : (r : OfRoute X) → In r said → is_known r.route ≡ true

pub are_known : {Row X : Type 0} (decoded : Row → Option (OfRoute X)) (is_known : Name → Bool) (rows : List Row) (said : List (OfRoute X)) → each_of_known decoded is_known rows ≡ Some said → AreKnown decoded is_known rows said
are_known decoded is_known rows said h =
    let first = bind_some (each_of decoded rows) _ said h in
    let test = only_some (list_all (λ r. is_known r.route) first.0) first.0 said first.2 in
    subst (AreKnown decoded is_known rows) test.1 (record { each = first.1; known = λ r m. all_at (λ r. is_known r.route) r first.0 test.0 m })

-- a route of a list is known by its name
named_in : {E : Type 0} (name : E → Name) (n : Name) (es : List E) → list_any (λ e. same_name (name e) n) es ≡ true → In n (map name es)
named_in name n es h =
    let found = any_found (λ e. same_name (name e) n) es h in
    subst (λ m. In m (map name es)) ((bytes_decides (name found.0) n).0 found.2) (In-map name found.0 es found.1)

-- ---- what a route is made of

abbrev pub name_of : RouteRow → Name
name_of e = e.route.name

-- the fewest pieces that were read of a route
pub record HasPieces (said : List (OfRoute (Numbered Piece))) (c : RouteCourse) : Type 0 where
  pieces : List Piece
  counts : counted 0 (sorted number_before (said_of c.route said)) ≡ Some pieces
  course_is : course_of pieces ≡ c.entries
  few : length pieces ≡ piece_count (course_of pieces)

has_pieces : (said : List (OfRoute (Numbered Piece))) (n : Name) (c : RouteCourse) → course_of_route said n ≡ Some c → (n ≡ c.route) × HasPieces said c
has_pieces said n c h =
    let pieces = bind_some (counted 0 (sorted number_before (said_of n said))) _ c h in
    let course = bind_some (course_in_fewest pieces.0) _ c pieces.2 in
    let made : record { route = n; entries = course.0 } ≡ c = some_is _ c course.2 in
    let test = only_some (nat_eq (length pieces.0) (piece_count (course_of pieces.0))) (course_of pieces.0) course.0 course.1 in (
      ap (λ (c : RouteCourse). c.route) made,
      subst (HasPieces said) made (record { pieces = pieces.0; counts = pieces.1; course_is = test.1; few = eqb-true _ _ test.0 }),
    )

all_by : {X : Type 0} (P : X → Type 0) (xs : List X) → ((x : X) → In x xs → P x) → AllByRecursion P xs
all_by P [] h = tt
all_by P (x ∷ xs) h = (h x (inl refl), all_by P xs (λ y m. h y (inr m)))

all_filled : (rows : List PieceRow) (said : List (OfRoute (Numbered Piece))) (n : Name) (pieces : List Piece) → each_of piece_of rows ≡ Some said → counted 0 (sorted number_before (said_of n said)) ≡ Some pieces
    → AllByRecursion (λ p. p.from < p.to) pieces
all_filled rows said n pieces h counts = all_by (λ p. p.from < p.to) pieces (λ p m.
    let s = counted_member 0 (sorted number_before (said_of n said)) pieces p counts m in
    let r = said_member n said s.0 (In-sorted number_before s.0 (said_of n said) s.1) in
    let row = each_member piece_of rows said r.0 h r.1 in
    subst (λ (p : Piece). p.from < p.to) (ap (λ (s : Numbered Piece). s.said) r.2 ∙ s.2) (says_piece row.0 r.0 row.2).filled)

-- what was counted, or nothing
abbrev or_nothing : {X : Type 0} → Option (List X) → List X
or_nothing None = []
or_nothing (Some xs) = xs

-- the pieces of the route of a name
abbrev pieces_in : List (OfRoute (Numbered Piece)) → Name → List Piece
pieces_in said n = or_nothing (counted 0 (sorted number_before (said_of n said)))

-- ---- all routes of the image

module _ (t : Tables) (i : Image) (r : IsRead t i) where
  pub piece_read : (said : List (OfRoute (Numbered Piece))) × (each_of piece_of t.piece ≡ Some said) × (each_of (course_of_route said) (routes_named said) ≡ Some r.courses)
  piece_read = bind_some (each_of piece_of t.piece) _ r.courses r.piece

  pub mark_read : (said : List (OfRoute (Numbered Mark))) × (each_of_known mark_of (is_one_of r.courses) t.mark ≡ Some said) × (each_of (measured_with said) r.courses ≡ Some r.measured)
  mark_read = bind_some (each_of_known mark_of (is_one_of r.courses) t.mark) _ r.measured r.mark

  abbrev pub is_measured : Name → Bool
  is_measured route = list_any (λ (m : Measured). same_name m.course.route route) r.measured

  pub ref_read : (said : List (OfRoute Referent)) × (each_of_known referent_of is_measured t.ref ≡ Some said) × (each_of (route_with said) r.measured ≡ Some r.routes)
  ref_read = bind_some (each_of_known referent_of is_measured t.ref) _ r.routes r.ref

  abbrev pub is_a_route : Name → Bool
  is_a_route name = list_any (λ (route : Route). same_name route.name name) r.routes

  pub span_read : (said : List (OfRoute Span)) × (each_of_known (span_of r.assets_read) is_a_route t.span ≡ Some said) × (Some (map (row_with said) r.routes) ≡ Some i.routes)
  span_read = bind_some (each_of_known (span_of r.assets_read) is_a_route t.span) _ i.routes r.span

  entries_are : map (row_with span_read.0) r.routes ≡ i.routes
  entries_are = some_is _ i.routes span_read.2

  -- the names are the same in each table

  pub course_names : map (λ (c : RouteCourse). c.route) r.courses ≡ routes_named piece_read.0
  course_names =
      each_map (course_of_route piece_read.0) (λ (c : RouteCourse). c.route) (λ (n : Name). n) (λ n c h. sym (has_pieces piece_read.0 n c h).0) (routes_named piece_read.0) r.courses piece_read.2
      ∙ map_id (routes_named piece_read.0)

  record IsMeasured (c : RouteCourse) (m : Measured) : Type 0 where
    course : m.course ≡ c
    counts : counted 0 (sorted number_before (said_of c.route mark_read.0)) ≡ Some m.marks

  is_measured_with : (c : RouteCourse) (m : Measured) → measured_with mark_read.0 c ≡ Some m → IsMeasured c m
  is_measured_with c m h =
      let marks = bind_some (counted 0 (sorted number_before (said_of c.route mark_read.0))) _ m h in
      subst (IsMeasured c) (some_is _ m marks.2) (record { course = refl; counts = marks.1 })

  measured_names : map (λ (m : Measured). m.course.route) r.measured ≡ map (λ (c : RouteCourse). c.route) r.courses
  measured_names =
      each_map (measured_with mark_read.0) (λ (m : Measured). m.course.route) (λ (c : RouteCourse). c.route) (λ c m h. ap (λ (c : RouteCourse). c.route) (is_measured_with c m h).course) r.courses r.measured mark_read.2

  record IsMade (m : Measured) (route : Route) : Type 0 where
    name : route.name ≡ m.course.route
    course : route.course ≡ m.course.entries
    marks : route.marks ≡ m.marks
    refs : route.refs ≡ sorted referent_before (said_of m.course.route ref_read.0)

  is_made : (m : Measured) (route : Route) → route_with ref_read.0 m ≡ Some route → IsMade m route
  is_made m route h =
      let made = true_some (is_route m.course.entries m.marks (sorted referent_before (said_of m.course.route ref_read.0))) _ route h in
      subst (IsMade m) made.1 (record { name = refl; course = refl; marks = refl; refs = refl })

  route_names : map (λ (route : Route). route.name) r.routes ≡ map (λ (m : Measured). m.course.route) r.measured
  route_names = each_map (route_with ref_read.0) (λ (route : Route). route.name) (λ (m : Measured). m.course.route) (λ m route h. (is_made m route h).name) r.measured r.routes ref_read.2

  new_asset_names : map name_of i.routes ≡ map (λ (route : Route). route.name) r.routes
  new_asset_names = sym (ap (map name_of) entries_are) ∙ map-map name_of (row_with span_read.0) r.routes

  pub to_courses : map name_of i.routes ≡ map (λ (c : RouteCourse). c.route) r.courses
  to_courses = new_asset_names ∙ route_names ∙ measured_names

  in_order : each_two name_before (map name_of i.routes) ≡ true
  in_order =
      let courses = and_parts (each_two course_before r.courses) _ (and_parts (each_two course_before r.courses && list_all (is_course i.links) r.courses) _ (and_parts _ _ r.courses_pass).0).0 in
      ap (each_two name_before) to_courses ∙ each_two-map name_before (λ (c : RouteCourse). c.route) r.courses ∙ courses.0

  -- where a route of the image comes from

  record ComesFrom (e : RouteRow) : Type 0 where
    course : RouteCourse
    known_course : In course r.courses
    measured : Measured
    has_marks : IsMeasured course measured
    route : Route
    made : IsMade measured route
    entry : e ≡ row_with span_read.0 route

  comes_from : (e : RouteRow) → In e i.routes → ComesFrom e
  comes_from e m =
      let route = map_found (row_with span_read.0) e r.routes (subst (In e) (sym entries_are) m) in
      let measured = each_member (route_with ref_read.0) r.measured r.routes route.0 ref_read.2 route.1 in
      let course = each_member (measured_with mark_read.0) r.courses r.measured measured.0 mark_read.2 measured.1 in
      record {
        course = course.0;
        known_course = course.1;
        measured = measured.0;
        has_marks = is_measured_with course.0 measured.0 course.2;
        route = route.0;
        made = is_made measured.0 route.0 measured.2;
        entry = route.2;
      }

  pieces_of_course : (c : RouteCourse) → In c r.courses → HasPieces piece_read.0 c
  pieces_of_course c m =
      let named = each_member (course_of_route piece_read.0) (routes_named piece_read.0) r.courses c piece_read.2 m in
      (has_pieces piece_read.0 named.0 c named.2).1

  -- the pieces of a route of the image
  pub record HasOwn (e : RouteRow) : Type 0 where
    pub pieces : HasPieces piece_read.0 (let c : RouteCourse = record { route = e.route.name; entries = e.route.course } in c)
    pub marks : counted 0 (sorted number_before (said_of e.route.name mark_read.0)) ≡ Some e.route.marks
    pub refs : e.route.refs ≡ sorted referent_before (said_of e.route.name ref_read.0)
    pub spans : e.spans ≡ sorted span_before (said_of e.route.name span_read.0)

  pub has_own : (e : RouteRow) → In e i.routes → HasOwn e
  has_own e m =
      let from = comes_from e m in
      let here : RouteRow = row_with span_read.0 from.route in
      let same_course : from.course ≡ record { route = from.route.name; entries = from.route.course } =
      sym (λ i. record { route = (from.made.name ∙ ap (λ (c : RouteCourse). c.route) from.has_marks.course) i; entries = (from.made.course ∙ ap (λ (c : RouteCourse). c.entries) from.has_marks.course) i }) in
      let name : from.route.name ≡ from.measured.course.route = from.made.name in
      let to_course : from.course.route ≡ from.route.name = ap (λ (c : RouteCourse). c.route) same_course in
      subst HasOwn (sym from.entry) (record {
        pieces = subst (HasPieces piece_read.0) same_course (pieces_of_course from.course from.known_course);
        marks = subst (λ n. counted 0 (sorted number_before (said_of n mark_read.0)) ≡ Some from.route.marks) to_course (from.has_marks.counts ∙ ap Some (sym from.made.marks));
        refs = subst (λ n. from.route.refs ≡ sorted referent_before (said_of n ref_read.0)) (sym name) from.made.refs;
        spans = refl;
      })

  abbrev pieces : Name → List Piece
  pieces = pieces_in piece_read.0

  are_pieces : (e : RouteRow) → In e i.routes → ArePiecesOf e.route.course (pieces e.route.name)
  are_pieces e m =
      let own = (has_own e m).pieces in
      let same : own.pieces ≡ pieces e.route.name = ap or_nothing (sym own.counts) in
      subst (ArePiecesOf e.route.course) same (record { course_is = own.course_is; fewest = record { filled = all_filled t.piece piece_read.0 e.route.name own.pieces piece_read.1 own.counts; fewest = own.few } })

  -- ---- the rows of routes

  pieces_back : IsPermutation (flat_map (λ e. numbered (piece_row e.route.name) 0 (pieces e.route.name)) i.routes) t.piece
  pieces_back =
      rows_of_routes (λ n (s : Numbered Piece). piece_row n s.n s.said) name_of (λ e. numbered (piece_row e.route.name) 0 (pieces e.route.name)) piece_read.0 t.piece i.routes
      (rows_back piece_of piece_said (λ r s h. (says_piece r s h).row_is) t.piece piece_read.0 piece_read.1)
      in_order
      (λ s m. subst (In s.route) (sym (to_courses ∙ course_names)) (In-routes_named s piece_read.0 m))
      (λ e m.
      let own = (has_own e m).pieces in
      numbered_back (piece_row e.route.name) 0 (said_of e.route.name piece_read.0) (pieces e.route.name) (own.counts ∙ ap Some (ap or_nothing (sym own.counts))))

  marks_back : IsPermutation (flat_map (λ e. numbered (mark_row e.route.name) 0 e.route.marks) i.routes) t.mark
  marks_back =
      let known = are_known mark_of (is_one_of r.courses) t.mark mark_read.0 mark_read.1 in
      rows_of_routes (λ n (s : Numbered Mark). mark_row n s.n s.said) name_of (λ e. numbered (mark_row e.route.name) 0 e.route.marks) mark_read.0 t.mark i.routes
      (rows_back mark_of mark_said mark_back t.mark mark_read.0 known.each)
      in_order
      (λ s m. subst (In s.route) (sym to_courses) (named_in (λ (c : RouteCourse). c.route) s.route r.courses (known.known s m)))
      (λ e m. numbered_back (mark_row e.route.name) 0 (said_of e.route.name mark_read.0) e.route.marks (has_own e m).marks)

  refs_back : IsPermutation (flat_map (λ e. map (ref_row e.route.name) e.route.refs) i.routes) t.ref
  refs_back =
      let known = are_known referent_of is_measured t.ref ref_read.0 ref_read.1 in
      rows_of_routes ref_row name_of (λ e. map (ref_row e.route.name) e.route.refs) ref_read.0 t.ref i.routes
      (rows_back referent_of referent_said referent_back t.ref ref_read.0 known.each)
      in_order
      (λ s m. subst (In s.route) (sym (new_asset_names ∙ route_names)) (named_in (λ (m : Measured). m.course.route) s.route r.measured (known.known s m)))
      (λ e m. sorted_back (ref_row e.route.name) referent_before (said_of e.route.name ref_read.0) e.route.refs (has_own e m).refs)

  spans_back : IsPermutation (flat_map (λ e. map (span_row e.route.name) e.spans) i.routes) t.span
  spans_back =
      let known = are_known (span_of r.assets_read) is_a_route t.span span_read.0 span_read.1 in
      rows_of_routes span_row name_of (λ e. map (span_row e.route.name) e.spans) span_read.0 t.span i.routes
      (rows_back (span_of r.assets_read) span_said (span_back r.assets_read) t.span span_read.0 known.each)
      in_order
      (λ s m. subst (In s.route) (sym new_asset_names) (named_in (λ (route : Route). route.name) s.route r.routes (known.known s m)))
      (λ e m. sorted_back (span_row e.route.name) span_before (said_of e.route.name span_read.0) e.spans (has_own e m).spans)

  -- ---- the other rows

  assets_back : IsPermutation (map asset_row i.assets) t.asset
  assets_back =
      subst (λ rows. IsPermutation rows t.asset) (sym (ap (map asset_row) r.with_edits ∙ map-map asset_row (with_edit i.entered) r.assets_read))
      (table_back asset_before asset_of asset_row asset_back t.asset r.assets_read r.asset)

  edits_back : IsPermutation (numbered edit_row 1 i.edits) t.edit
  edits_back =
      let in_order = bind_some (each_sorted number_before edit_of t.edit) _ i.edits r.edit in
      let said = bind_some (each_of edit_of t.edit) _ in_order.0 in_order.1 in
      let counts : counted 1 (sorted number_before said.0) ≡ Some i.edits = ap (counted 1) (some_is _ in_order.0 said.2) ∙ in_order.2 in
      subst (IsPermutation (numbered edit_row 1 i.edits)) (rows_back edit_of edit_said edit_back t.edit said.0 said.1) (numbered_back edit_row 1 said.0 i.edits counts)

  encodes : IsPermutation (map origin_row i.assets) t.origin → t.version ≡ pos 2 ∷ [] → Encodes i t
  encodes origins two = record {
    pieces = pieces;
    are = all_by (λ (e : RouteRow). ArePiecesOf e.route.course (pieces e.route.name)) i.routes are_pieces;
    rows = record {
      version = subst (IsPermutation (pos 2 ∷ [])) (sym two) (IsPermutation-refl (pos 2 ∷ []));
      link = table_back link_before link_of link_row link_back t.link i.links r.link;
      class = table_back class_before class_of class_row class_back t.class i.classes r.class;
      asset = assets_back;
      piece = pieces_back;
      mark = marks_back;
      ref = refs_back;
      span = spans_back;
      entered = table_back part_before part_of entered_row part_back t.entered i.entered r.entered;
      gone = table_back gone_before gone_of gone_row gone_back t.gone i.gone r.gone;
      edit = edits_back;
      origin = origins;
    };
  }

-- ---- origins

origins_are : (assets : List Asset) (os : List Origin) → are_origins_of assets os ≡ true → map origin_said os ≡ map origin_row assets
origins_are [] [] h = refl
origins_are [] (o ∷ os) h = absurd (cc)
origins_are (a ∷ assets) [] h = absurd (cc)
origins_are (a ∷ assets) (o ∷ os) h =
    let both = and_parts (nat_eq o.asset a.number && nat_eq o.edit a.entered_by) (are_origins_of assets os) h in
    let same = and_parts (nat_eq o.asset a.number) (nat_eq o.edit a.entered_by) both.0 in
    let first : origin_said o ≡ origin_row a = λ i. record { asset = pos (eqb-true o.asset a.number same.0 i); edit = pos (eqb-true o.edit a.entered_by same.1 i) } in
    ap (λ r. r ∷ map origin_said os) first ∙ ap (λ rs. origin_row a ∷ rs) (origins_are assets os both.1)

-- what was read of the whole store
abbrev last : List OriginRow → Image → Result Image Table
last rows image = content.◌>>=◌ (read table.Origin (each_sorted origin_before origin_of rows) (λ os. are_origins image.entered image.assets && has_origins 2 image.assets os)) (λ origins. Ok image)

ends : (r : Result Image Table) (rows : List OriginRow) (i : Image) → content.◌>>=◌ r (last rows) ≡ Ok i → (r ≡ Ok i) × IsPermutation (map origin_row i.assets) rows
ends (Err e) rows i h = absurd (cc)
ends (Ok image) rows i h =
    let origins = was_read table.Origin (each_sorted origin_before origin_of rows) (λ os. are_origins image.entered image.assets && has_origins 2 image.assets os) (λ origins. Ok image) i h in
    let test = (and_parts (are_origins image.entered image.assets) (are_origins_of image.assets origins.value) origins.passes).1 in
    let back = table_back origin_before origin_of origin_said origin_back rows origins.value origins.decoded in
    (origins.next, subst (λ (j : Image). IsPermutation (map origin_row j.assets) rows) (ok_is image i origins.next) (subst (λ xs. IsPermutation xs rows) (origins_are image.assets origins.value test) back))

pub content_is_encoded : ContentIsEncoded
unfolding content_of
content_is_encoded t i two h =
    let first : content_of t ≡ content.◌>>=◌ (inventory_of t) (last t.origin) = ap (λ v. content_of (record t { version = v })) two in
    let both = ends (inventory_of t) t.origin i (sym first ∙ h) in
    encodes t i (is_read t i both.0) both.1 two
