-- A store with the rows that a sound image is written as holds this image.
use Rattle.std.proofs.Common.{◌≡◌, ℕ, ◌<◌, ◌≤◌, Bool, true, false, cond, inl, inr, List, [], ◌∷◌, map, length, pos, Option, Some, Ok, Err, refl, sym, ap, subst, ◌∙◌, arith, flat_map}
use Rattle.std.specs.Prelude.{◌&&◌, not, nat_eq, nat_le, nat_lt, Result}
use Rattle.std.specs.List.{AllByRecursion, list_all, list_any}
use Rattle.std.specs.Str.{is_utf8}
use Rattle.std.specs.Cmp.Lexicographic.{bytes_decides}
use Rattle.std.proofs.lemmas.Bool.{and_parts, and_from, leb-true, ltb-true, eqb-true, eq-eqb}
use Rattle.lrs_measure.specs.Lists.{In, each_two, is_nothing}
use Rattle.lrs_measure.specs.Texts.{Name, same_name, name_before}
use Rattle.lrs_measure.proofs.Members.{In-map, all_at, any_of, any_found}
use Rattle.lrs_element.specs.declared.link.Piece.{Piece}
use Rattle.lrs_element.specs.declared.marks.Mark.{Mark}
use Rattle.lrs_element.specs.Course.{course_of, piece_count, meets}
use Rattle.lrs_position.specs.declared.route.Referent.{Referent}
use Rattle.lrs_position.specs.declared.route.Route.{Route}
use Rattle.lrs_position.specs.Names.{is_route_name, is_referent_name}
use Rattle.lrs_position.specs.Routes.{is_route, is_route_course, have_marks, are_referents}
use Rattle.lrs_events.specs.declared.class.Class.{Class}
use Rattle.lrs_events.specs.declared.class.Asset.{Asset}
use Rattle.lrs_events.specs.declared.part.Gone.{Gone}
use Rattle.lrs_events.specs.declared.span.Span.{Span}
use Rattle.lrs_events.specs.Names.{is_class_name, is_value}
use Rattle.lrs_events.specs.Parts.{part_before}
use Rattle.lrs_events.specs.Places.{differs}
use Rattle.lrs_events.specs.Spans.{span_before, is_row, are_rows, are_apart}
use Rattle.lrs_machine.specs.declared.image.RouteRow.{RouteRow}
use Rattle.lrs_machine.specs.declared.image.Edit.{Edit}
use Rattle.lrs_machine.specs.declared.image.Image.{Image}
use Rattle.lrs_machine.specs.declared.table.Table.{Table}
use Rattle.lrs_machine.specs.declared.table.Table.TheVariants as table
use Rattle.lrs_machine.specs.Keys.{is_key}
use Rattle.lrs_machine.specs.Sound.{RouteCourse, Test, IsSound, first_unsound, tests, link_before, are_links, class_before, are_classes, asset_before, are_assets, course_before, is_course, is_on_a_link, are_courses, are_all_marks, are_all_referents, is_span, are_spans_of, are_spans, are_parts, are_entered, gone_before, parts_of, are_balanced, are_gone, is_part, is_named_by, are_edits, are_origins}
use Rattle.lrs_machine.specs.Sound as sound
use Rattle.lrs_machine.proofs.Pairs.{each_two-map}
use Rattle.lrs_machine.proofs.SoundImages.{passed, and_three, Tested, tested, origin_of}
use Rattle.lrs_store_tables.specs.Contents.Tables.{Tables}
use Rattle.lrs_store_tables.specs.Contents.Decoders.{only_if, if_true, each_of, each_sorted, sorted, OfRoute, said_of, Numbered, number_before, counted, link_of, class_of, asset_of, piece_of, mark_of, referent_of, class_of_asset, span_of, part_of, gone_of, edit_of}
use Rattle.lrs_store_tables.specs.Contents.Decoders as option
use Rattle.lrs_store_tables.specs.Contents.Content.{read, routes_named, course_in_fewest, course_of_route, courses_of, each_of_known, Measured, is_one_of, measured_with, measured_of, referent_before, route_with, routes_of, row_with, entries_of, edits_of, marks_of, referents_of, spans_of, with_edit, inventory_of, origin_before, has_origins, image_of, content_of}
use Rattle.lrs_store_tables.specs.Contents.Content as content
use Rattle.lrs_store_tables.specs.Contents.Encoders.{link_row, class_row, asset_row, piece_row, mark_row, ref_row, span_row, entered_row, gone_row, edit_row, numbered, ArePiecesOf}
use Rattle.lrs_store_tables.specs.Contents.EncodedImages.{encoded, ArePiecesOfAll}
use Rattle.lrs_store_tables.proofs.Contents.BroughtUp.{brought_up_holds_the_same}
use Rattle.lrs_store_tables.proofs.Contents.Entries.{assets-same, spans-same, entered-same, gone-same}
use Rattle.lrs_store_commit.specs.Laws.ImageLaws.{HasTexts, EncodedHolds}
use Rattle.lrs_store_commit.proofs.Laws.Decoded.{map_id, map-map}
use Rattle.lrs_store_commit.proofs.Laws.Written.{bind_is, only_is, true_is, told, link_there, class_there, asset_there, piece_told, piece_there, mark_told, mark_there, referent_there, span_there, part_there, gone_there, edit_told, edit_there}
use Rattle.lrs_store_commit.proofs.Laws.Told.{each_there, each_numbered, each_flat, sorted-same, under, numbers_counted, numbered-told, all_told, said_back, told_known, names_told}
use Rattle.lrs_store_commit.proofs.Laws.Bounded.{link_bounds, class_found, class_of-entered, entered_back, piece_bounds, CourseFits, course_fits, some_pieces, MarksFit, marks_fit, asset_bounds, asset_class, few_edits, part_fits}

-- ---- steps

read_is : {A B : Type 0} (t : Table) (o : Option A) (test : A → Bool) (f : A → Result B Table) (x : A) (y : Result B Table) → o ≡ Some x → test x ≡ true → f x ≡ y → content.◌>>=◌ (read t o test) f ≡ y
read_is t o test f x y e passes h =
    ap (λ o. content.◌>>=◌ (read t o test) f) e ∙ ap (λ b. content.◌>>=◌ (cond b (Ok x) (Err t)) f) passes ∙ h

-- rows that say what is in order say it in order
in_order_there : {Row X : Type 0} (before : X → X → Bool) (decoded : Row → Option X) (rows : List Row) (xs : List X) → each_of decoded rows ≡ Some xs → each_two before xs ≡ true → each_sorted before decoded rows ≡ Some xs
in_order_there before decoded rows xs h order = bind_is (each_of decoded rows) _ xs _ h (ap Some (sorted-same before xs order))

-- a table of rows, one for each that is kept
table_there : {Row X : Type 0} (before : X → X → Bool) (decoded : Row → Option X) (row : X → Row) (xs : List X) → ((x : X) → In x xs → decoded (row x) ≡ Some x) → each_two before xs ≡ true → each_sorted before decoded (map row xs) ≡ Some xs
table_there before decoded row xs h order = in_order_there before decoded (map row xs) xs (each_there decoded row (λ x. x) xs h ∙ ap Some (map_id xs)) order

known_there : {Row X : Type 0} (decoded : Row → Option (OfRoute X)) (is_known : Name → Bool) (rows : List Row) (said : List (OfRoute X)) → each_of decoded rows ≡ Some said → list_all (λ r. is_known r.route) said ≡ true → each_of_known decoded is_known rows ≡ Some said
known_there decoded is_known rows said h k = bind_is (each_of decoded rows) _ said _ h (only_is (list_all (λ r. is_known r.route) said) said k)

all_in : {X : Type 0} (P : X → Type 0) (x : X) (xs : List X) → AllByRecursion P xs → In x xs → P x
all_in P x [] h m = absurd m
all_in P x (y ∷ ys) h (inl e) = subst P (sym e) h.0
all_in P x (y ∷ ys) h (inr m) = all_in P x ys h.1 m

same_all : {X : Type 0} (f : X → X) (xs : List X) → ((x : X) → In x xs → f x ≡ x) → map f xs ≡ xs
same_all f [] h = refl
same_all f (x ∷ xs) h = ap (λ y. y ∷ map f xs) (h x (inl refl)) ∙ ap (λ ys. x ∷ ys) (same_all f xs (λ y m. h y (inr m)))

some_numbered : {X : Type 0} (k : ℕ) (xs : List X) → is_nothing xs ≡ false → is_nothing (numbered under k xs) ≡ false
some_numbered k [] h = h
some_numbered k (x ∷ xs) h = refl

-- the tests of a route's own type
record RouteFits (r : Route) : Type 0 where
  course : CourseFits r.course
  marks : MarksFit (length r.course) r.marks
  order : each_two referent_before r.refs ≡ true
  on : (x : Referent) → In x r.refs → x.at < length r.course

route_fits : (r : Route) → RouteFits r
route_fits r =
    let all = and_three (is_route_course r.course) (have_marks r.course r.marks) (are_referents (length r.course) r.refs) r.fits in
    let refs = and_parts (each_two referent_before r.refs) (list_all (λ x. nat_lt x.at (length r.course)) r.refs) all.2 in
    record {
      course = course_fits r.course all.0;
      marks = marks_fit (length r.course) r.marks all.1;
      order = refs.0;
      on = λ x m. ltb-true x.at (length r.course) (all_at (λ x. nat_lt x.at (length r.course)) x r.refs refs.1 m);
    }

abbrev name_of : RouteRow → Name
name_of e = e.route.name

module _ (pieces : Name → List Piece) (i : Image) (texts : HasTexts i) (is_sound : IsSound i) (are : ArePiecesOfAll pieces i.routes) where
  t : Tested i
  t = tested i is_sound

  -- ---- the tests

  class_test : are_classes i.classes ≡ true
  unfolding first_unsound
  class_test = passed (record { table = table.Class; passes = are_classes i.classes }) (tests i) is_sound (inr (inl refl))

  asset_test : are_assets i.classes i.assets ≡ true
  unfolding first_unsound
  asset_test = passed (record { table = table.Asset; passes = are_assets i.classes i.assets }) (tests i) is_sound (inr (inr (inl refl)))

  course_test : are_courses i.links (sound.courses_of i) ≡ true
  unfolding first_unsound
  course_test = passed (record { table = table.Piece; passes = are_courses i.links (sound.courses_of i) }) (tests i) is_sound (inr (inr (inr (inl refl))))

  mark_test : are_all_marks (sound.marks_of i) ≡ true
  unfolding first_unsound
  mark_test = passed (record { table = table.Mark; passes = are_all_marks (sound.marks_of i) }) (tests i) is_sound (inr (inr (inr (inr (inl refl)))))

  ref_test : are_all_referents (sound.referents_of i) ≡ true
  unfolding first_unsound
  ref_test = passed (record { table = table.Ref; passes = are_all_referents (sound.referents_of i) }) (tests i) is_sound (inr (inr (inr (inr (inr (inl refl))))))

  span_test : are_spans i.links i.classes i.assets (sound.spans_of i) ≡ true
  unfolding first_unsound
  span_test = passed (record { table = table.Span; passes = are_spans i.links i.classes i.assets (sound.spans_of i) }) (tests i) is_sound (inr (inr (inr (inr (inr (inr (inl refl)))))))

  entered_test : are_entered i.links i.assets i.entered ≡ true
  unfolding first_unsound
  entered_test = passed (record { table = table.Entered; passes = are_entered i.links i.assets i.entered }) (tests i) is_sound (inr (inr (inr (inr (inr (inr (inr (inl refl))))))))

  gone_test : are_gone i.links i.assets (sound.spans_of i) i.entered i.gone ≡ true
  unfolding first_unsound
  gone_test = passed (record { table = table.Gone; passes = are_gone i.links i.assets (sound.spans_of i) i.entered i.gone }) (tests i) is_sound (inr (inr (inr (inr (inr (inr (inr (inr (inl refl)))))))))

  edit_test : are_edits i.entered i.gone i.edits ≡ true
  unfolding first_unsound
  edit_test = passed (record { table = table.Edit; passes = are_edits i.entered i.gone i.edits }) (tests i) is_sound (inr (inr (inr (inr (inr (inr (inr (inr (inr (inl refl))))))))))

  -- ---- the tables of their own

  links_there : each_sorted link_before link_of (map link_row i.links) ≡ Some i.links
  links_there = table_there link_before link_of link_row i.links (λ l m. let b = link_bounds l in link_there l (omega (arith, b.0)) (omega (arith, b.1))) t.link_order

  classes_there : each_sorted class_before class_of (map class_row i.classes) ≡ Some i.classes
  classes_there = table_there class_before class_of class_row i.classes (λ c m. class_there c (all_at (λ (c : Class). is_class_name c.name) c i.classes texts.classes m)) class_test

  -- assets are read without their edits
  abbrev bare : List Asset
  bare = map (with_edit []) i.assets

  asset_said : (a : Asset) → In a i.assets → asset_of (asset_row a) ≡ Some (with_edit [] a)
  asset_said a m =
      let b = asset_bounds i t a m in
      let c = any_found (λ (c : Class). same_name c.name a.class) i.classes (asset_class i t a m) in
      let named : is_class_name a.class ≡ true = subst (λ n. is_class_name n ≡ true) ((bytes_decides c.0.name a.class).0 c.2) (all_at (λ (c : Class). is_class_name c.name) c.0 i.classes texts.classes c.1) in
      asset_there a (omega (arith, b.0)) (omega (arith, b.1)) named (all_at (λ (a : Asset). is_value a.value) a i.assets texts.values m)

  assets_there : each_sorted asset_before asset_of (map asset_row i.assets) ≡ Some bare
  assets_there =
      in_order_there asset_before asset_of (map asset_row i.assets) bare (each_there asset_of asset_row (with_edit []) i.assets asset_said) (each_two-map asset_before (with_edit []) i.assets ∙ t.asset_order)

  entered_there : each_sorted part_before part_of (map entered_row i.entered) ≡ Some i.entered
  entered_there = table_there part_before part_of entered_row i.entered
      (λ p m. part_there p (part_fits i t p (all_at (is_part i.links i.assets) p i.entered t.entered.inside m) (all_at (is_named_by i.edits) p i.entered t.entered_named m)))
      (and_parts (each_two part_before i.entered) (are_parts i.links i.assets i.entered) entered_test).0

  gone_is_there : each_sorted gone_before gone_of (map gone_row i.gone) ≡ Some i.gone
  gone_is_there = table_there gone_before gone_of gone_row i.gone
      (λ g m.
      let of_gone = In-map (λ (g : Gone). g.part) g i.gone m in
      gone_there g (part_fits i t g.part (all_at (is_part i.links i.assets) g.part (parts_of i.gone) t.gone.inside of_gone) (all_at (is_named_by i.edits) g.part (parts_of i.gone) t.gone_named of_gone)))
      (and_three (each_two gone_before i.gone) (are_parts i.links i.assets (parts_of i.gone)) (are_balanced i.links i.assets (sound.spans_of i) i.entered (parts_of i.gone)) gone_test).0

  edits_there : edits_of (numbered edit_row 1 i.edits) ≡ Some i.edits
  edits_there =
      let few = few_edits i t in
      let each = each_numbered edit_of edit_row edit_told 1 i.edits (λ n e l m.
      edit_there n e (omega (arith, l, few)) (all_at (λ (e : Edit). is_key e.key) e i.edits texts.keys m) (all_at (λ (e : Edit). is_utf8 e.line) e i.edits texts.lines m)) in
      bind_is (each_sorted number_before edit_of (numbered edit_row 1 i.edits)) _ (sorted number_before (numbered under 1 i.edits)) _
      (bind_is (each_of edit_of (numbered edit_row 1 i.edits)) _ (numbered under 1 i.edits) _ each refl)
      (numbers_counted 1 i.edits)

  -- ---- the tables of routes

  courses_order : each_two name_before (map name_of i.routes) ≡ true
  courses_order =
      let all = and_parts (each_two course_before (sound.courses_of i) && list_all (is_course i.links) (sound.courses_of i) && each_two (λ c d. not (meets c.entries d.entries)) (sound.courses_of i)) _ course_test in
      let three = and_three (each_two course_before (sound.courses_of i)) (list_all (is_course i.links) (sound.courses_of i)) (each_two (λ c d. not (meets c.entries d.entries)) (sound.courses_of i)) all.0 in
      each_two-map name_before name_of i.routes ∙ sym (each_two-map course_before (λ e. record { route = e.route.name; entries = e.route.course }) i.routes) ∙ three.0

  pieces_of_entry : (e : RouteRow) → In e i.routes → ArePiecesOf e.route.course (pieces e.route.name)
  pieces_of_entry e m = all_in (λ (e : RouteRow). ArePiecesOf e.route.course (pieces e.route.name)) e i.routes are m

  named : (e : RouteRow) → In e i.routes → is_route_name e.route.name ≡ true
  named e m = all_at (λ (e : RouteRow). is_route_name e.route.name) e i.routes texts.routes m

  on_links : (e : RouteRow) → In e i.routes → list_all (is_on_a_link i.links) e.route.course ≡ true
  on_links e m =
      let course = all_at (is_course i.links) _ (sound.courses_of i) t.courses (In-map (λ e. record { route = e.route.name; entries = e.route.course }) e i.routes m) in
      (and_three (is_route_course e.route.course) (list_all (is_on_a_link i.links) e.route.course) (each_two differs e.route.course) course).1

  -- pieces

  abbrev own_pieces : RouteRow → List (Numbered Piece)
  own_pieces e = numbered under 0 (pieces e.route.name)

  abbrev pieces_told : List (OfRoute (Numbered Piece))
  pieces_told = all_told name_of own_pieces i.routes

  few_pieces : (e : RouteRow) → In e i.routes → length (pieces e.route.name) ≤ 1_000
  few_pieces e m =
      let own = pieces_of_entry e m in
      let as_many : length (pieces e.route.name) ≡ piece_count e.route.course = own.fewest.fewest ∙ ap piece_count own.course_is in
      let few = (route_fits e.route).course.few_pieces in
      omega (arith, as_many, few)

  pieces_of_route : (e : RouteRow) → In e i.routes → each_of piece_of (numbered (piece_row e.route.name) 0 (pieces e.route.name)) ≡ Some (map (told e.route.name) (own_pieces e))
  pieces_of_route e m =
      let own = pieces_of_entry e m in
      let few = few_pieces e m in
      each_numbered piece_of (piece_row e.route.name) (piece_told e.route.name) 0 (pieces e.route.name) (λ n p l k.
      let filled : p.from < p.to = all_in (λ (p : Piece). p.from < p.to) p (pieces e.route.name) own.fewest.filled k in
      let bounds = piece_bounds i.links e.route.course (pieces e.route.name) p own.course_is (on_links e m) k filled in
      piece_there e.route.name n p (omega (arith, l, few)) (omega (arith, bounds.0)) filled (omega (arith, bounds.1)) (named e m))
      ∙ ap Some (numbered-told e.route.name 0 (pieces e.route.name))

  pieces_say : each_of piece_of (flat_map (λ e. numbered (piece_row e.route.name) 0 (pieces e.route.name)) i.routes) ≡ Some pieces_told
  pieces_say = each_flat piece_of (λ e. numbered (piece_row e.route.name) 0 (pieces e.route.name)) (λ e. map (told e.route.name) (own_pieces e)) i.routes pieces_of_route

  abbrev course_of_entry : RouteRow → RouteCourse
  course_of_entry e = record { route = e.route.name; entries = e.route.course }

  course_there : (e : RouteRow) → In e i.routes → course_of_route pieces_told e.route.name ≡ Some (course_of_entry e)
  course_there e m =
      let own = pieces_of_entry e m in
      bind_is (counted 0 (sorted number_before (said_of e.route.name pieces_told))) _ (pieces e.route.name) _
      (ap (λ xs. counted 0 (sorted number_before xs)) (said_back name_of own_pieces e i.routes courses_order m) ∙ numbers_counted 0 (pieces e.route.name))
      (bind_is (course_in_fewest (pieces e.route.name)) _ e.route.course _
      (only_is (nat_eq (length (pieces e.route.name)) (piece_count (course_of (pieces e.route.name)))) (course_of (pieces e.route.name)) (eq-eqb _ _ own.fewest.fewest) ∙ ap Some own.course_is)
      refl)

  courses_there : courses_of (flat_map (λ e. numbered (piece_row e.route.name) 0 (pieces e.route.name)) i.routes) ≡ Some (sound.courses_of i)
  courses_there =
      bind_is (each_of piece_of (flat_map (λ e. numbered (piece_row e.route.name) 0 (pieces e.route.name)) i.routes)) _ pieces_told _ pieces_say
      (ap (each_of (course_of_route pieces_told)) (names_told name_of own_pieces i.routes courses_order (λ e m.
      some_numbered 0 (pieces e.route.name) (some_pieces e.route.course (pieces e.route.name) (pieces_of_entry e m).course_is (route_fits e.route).course.some)))
      ∙ each_there (course_of_route pieces_told) name_of course_of_entry i.routes course_there)

  -- marks

  abbrev own_marks : RouteRow → List (Numbered Mark)
  own_marks e = numbered under 0 e.route.marks

  abbrev marks_told : List (OfRoute (Numbered Mark))
  marks_told = all_told name_of own_marks i.routes

  marks_of_route : (e : RouteRow) → In e i.routes → each_of mark_of (numbered (mark_row e.route.name) 0 e.route.marks) ≡ Some (map (told e.route.name) (own_marks e))
  marks_of_route e m =
      let fits = route_fits e.route in
      let few = fits.marks.few in
      let short = fits.course.short in
      each_numbered mark_of (mark_row e.route.name) (mark_told e.route.name) 0 e.route.marks (λ n x l k.
      let b = fits.marks.within x k in
      mark_there e.route.name n x (omega (arith, l, few)) (omega (arith, b.0, short)) (omega (arith, b.1)))
      ∙ ap Some (numbered-told e.route.name 0 e.route.marks)

  abbrev measured_of_entry : RouteRow → Measured
  measured_of_entry e = record { course = course_of_entry e; marks = e.route.marks }

  -- a route is one of those that are known by their names
  is_known : {Y : Type 0} (name : Y → Name) (f : RouteRow → Y) → ((e : RouteRow) → name (f e) ≡ e.route.name) → (e : RouteRow) → In e i.routes → list_any (λ y. same_name (name y) e.route.name) (map f i.routes) ≡ true
  is_known name f same e m = any_of (λ y. same_name (name y) e.route.name) (f e) (map f i.routes) (In-map f e i.routes m) ((bytes_decides (name (f e)) e.route.name).1 (same e))

  measured_there : measured_of (flat_map (λ e. numbered (mark_row e.route.name) 0 e.route.marks) i.routes) (sound.courses_of i) ≡ Some (map measured_of_entry i.routes)
  measured_there =
      bind_is (each_of_known mark_of (is_one_of (sound.courses_of i)) (flat_map (λ e. numbered (mark_row e.route.name) 0 e.route.marks) i.routes)) _ marks_told _
      (known_there mark_of (is_one_of (sound.courses_of i)) (flat_map (λ e. numbered (mark_row e.route.name) 0 e.route.marks) i.routes) marks_told
      (each_flat mark_of (λ e. numbered (mark_row e.route.name) 0 e.route.marks) (λ e. map (told e.route.name) (own_marks e)) i.routes marks_of_route)
      (told_known name_of own_marks (is_one_of (sound.courses_of i)) i.routes (is_known (λ (c : RouteCourse). c.route) course_of_entry (λ e. refl))))
      (each_there (measured_with marks_told) course_of_entry measured_of_entry i.routes (λ e m.
      bind_is (counted 0 (sorted number_before (said_of e.route.name marks_told))) _ e.route.marks _
      (ap (λ xs. counted 0 (sorted number_before xs)) (said_back name_of own_marks e i.routes courses_order m) ∙ numbers_counted 0 e.route.marks)
      refl))

  -- referents

  abbrev own_refs : RouteRow → List Referent
  own_refs e = e.route.refs

  abbrev refs_told : List (OfRoute Referent)
  refs_told = all_told name_of own_refs i.routes

  refs_of_route : (e : RouteRow) → In e i.routes → each_of referent_of (map (ref_row e.route.name) e.route.refs) ≡ Some (map (told e.route.name) e.route.refs)
  refs_of_route e m =
      let fits = route_fits e.route in
      let short = fits.course.short in
      let texts_of = all_at (λ (e : RouteRow). list_all (λ r. is_referent_name r.name) e.route.refs) e i.routes texts.referents m in
      each_there referent_of (ref_row e.route.name) (told e.route.name) e.route.refs (λ r k.
      let on = fits.on r k in
      referent_there e.route.name r (omega (arith, on, short)) (all_at (λ (r : Referent). is_referent_name r.name) r e.route.refs texts_of k))

  -- a route with the referents that are its own
  with_refs : (r : Route) (refs : List Referent) → refs ≡ r.refs
      → if_true (is_route r.course r.marks refs) (λ fits. let x : Route = record { name = r.name; course = r.course; marks = r.marks; refs = refs; fits = fits } in x) ≡ Some r
  with_refs r refs e =
      subst (λ refs. if_true (is_route r.course r.marks refs) (λ fits. let x : Route = record { name = r.name; course = r.course; marks = r.marks; refs = refs; fits = fits } in x) ≡ Some r) (sym e)
      (true_is (is_route r.course r.marks r.refs) (λ fits. let x : Route = record { name = r.name; course = r.course; marks = r.marks; refs = r.refs; fits = fits } in x) r.fits)

  abbrev is_measured : Name → Bool
  is_measured route = list_any (λ (m : Measured). same_name m.course.route route) (map measured_of_entry i.routes)

  routes_there : routes_of (flat_map (λ e. map (ref_row e.route.name) e.route.refs) i.routes) (map measured_of_entry i.routes) ≡ Some (map (λ (e : RouteRow). e.route) i.routes)
  routes_there =
      bind_is (each_of_known referent_of is_measured (flat_map (λ e. map (ref_row e.route.name) e.route.refs) i.routes)) _ refs_told _
      (known_there referent_of is_measured (flat_map (λ e. map (ref_row e.route.name) e.route.refs) i.routes) refs_told
      (each_flat referent_of (λ e. map (ref_row e.route.name) e.route.refs) (λ e. map (told e.route.name) e.route.refs) i.routes refs_of_route)
      (told_known name_of own_refs is_measured i.routes (is_known (λ (m : Measured). m.course.route) measured_of_entry (λ e. refl))))
      (each_there (route_with refs_told) measured_of_entry (λ (e : RouteRow). e.route) i.routes (λ e m.
      with_refs e.route (sorted referent_before (said_of e.route.name refs_told))
      (ap (sorted referent_before) (said_back name_of own_refs e i.routes courses_order m) ∙ sorted-same referent_before e.route.refs (route_fits e.route).order)))

  -- spans

  abbrev own_spans : RouteRow → List Span
  own_spans e = e.spans

  abbrev spans_told : List (OfRoute Span)
  spans_told = all_told name_of own_spans i.routes

  spans_test : (e : RouteRow) → In e i.routes → are_spans_of i.assets (spans_of e) ≡ true
  spans_test e m = all_at (are_spans_of i.assets) (spans_of e) (sound.spans_of i) t.spans (In-map spans_of e i.routes m)

  span_order : (e : RouteRow) → In e i.routes → each_two span_before e.spans ≡ true
  span_order e m =
      let rows = and_parts (are_rows e.spans) (list_all (is_span i.assets (length e.route.course)) e.spans) (spans_test e m) in
      (and_three (list_all is_row e.spans) (each_two span_before e.spans) (each_two are_apart e.spans) rows.0).1

  span_said : (e : RouteRow) → In e i.routes → (s : Span) → In s e.spans → span_of bare (span_row e.route.name s) ≡ Some (told e.route.name s)
  span_said e m s k =
      let rows = and_parts (are_rows e.spans) (list_all (is_span i.assets (length e.route.course)) e.spans) (spans_test e m) in
      let row = (and_three (list_all is_row e.spans) (each_two span_before e.spans) (each_two are_apart e.spans) rows.0).0 in
      let filled = ltb-true s.from s.to (and_parts (nat_lt s.from s.to) _ (all_at is_row s e.spans row k)).0 in
      let fits = and_parts (nat_le s.to (length e.route.course)) (list_any (λ (a : Asset). nat_eq a.number s.asset && same_name a.class s.class) i.assets) (all_at (is_span i.assets (length e.route.course)) s e.spans rows.1 k) in
      let within = leb-true s.to (length e.route.course) fits.0 in
      let short = (route_fits e.route).course.short in
      let a = any_found (λ (a : Asset). nat_eq a.number s.asset && same_name a.class s.class) i.assets fits.1 in
      let same = and_parts (nat_eq a.0.number s.asset) (same_name a.0.class s.class) a.2 in
      let number = eqb-true a.0.number s.asset same.0 in
      let least = (asset_bounds i t a.0 a.1).0 in
      let class : class_of_asset bare s.asset ≡ Some s.class =
      class_of-entered [] i.assets s.asset ∙ ap (class_of_asset i.assets) (sym number) ∙ class_found a.0 i.assets t.asset_order a.1 ∙ ap Some ((bytes_decides a.0.class s.class).0 same.1) in
      span_there bare e.route.name s (omega (arith, number, least)) class filled (omega (arith, within, short))

  abbrev is_a_route : Name → Bool
  is_a_route name = list_any (λ (route : Route). same_name route.name name) (map (λ (e : RouteRow). e.route) i.routes)

  entries_there : entries_of bare (flat_map (λ e. map (span_row e.route.name) e.spans) i.routes) (map (λ (e : RouteRow). e.route) i.routes) ≡ Some i.routes
  entries_there =
      bind_is (each_of_known (span_of bare) is_a_route (flat_map (λ e. map (span_row e.route.name) e.spans) i.routes)) _ spans_told _
      (known_there (span_of bare) is_a_route (flat_map (λ e. map (span_row e.route.name) e.spans) i.routes) spans_told
      (each_flat (span_of bare) (λ e. map (span_row e.route.name) e.spans) (λ e. map (told e.route.name) e.spans) i.routes (λ e m. each_there (span_of bare) (span_row e.route.name) (told e.route.name) e.spans (span_said e m)))
      (told_known name_of own_spans is_a_route i.routes (is_known (λ (r : Route). r.name) (λ (e : RouteRow). e.route) (λ e. refl))))
      (ap Some (map-map (row_with spans_told) (λ (e : RouteRow). e.route) i.routes ∙ same_all (λ e. row_with spans_told e.route) i.routes (λ e m.
      let own : sorted span_before (said_of e.route.name spans_told) ≡ e.spans = ap (sorted span_before) (said_back name_of own_spans e i.routes courses_order m) ∙ sorted-same span_before e.spans (span_order e m) in
      λ j. record { route = e.route; spans = own j })))

  -- ---- the image

  entries_back : map (with_edit i.entered) bare ≡ i.assets
  entries_back = map-map (with_edit i.entered) (with_edit []) i.assets ∙ same_all (λ a. with_edit i.entered (with_edit [] a)) i.assets (λ a m.
      let origin = origin_of i t a m in
      let entry = entered_back a i.entered origin.0 origin.1 in
      λ j. record a { entered_by = entry j })

  inventory_is : inventory_of (encoded pieces i) ≡ Ok i
  inventory_is =
      let rows = encoded pieces i in
      read_is table.Link (each_sorted link_before link_of rows.link) are_links _ i.links _ links_there t.link_order
      (read_is table.Class (each_sorted class_before class_of rows.class) are_classes _ i.classes _ classes_there class_test
      (read_is table.Asset (each_sorted asset_before asset_of rows.asset) (are_assets i.classes) _ bare _ assets_there (assets-same [] i.classes i.assets ∙ asset_test)
      (read_is table.Piece (courses_of rows.piece) (are_courses i.links) _ (sound.courses_of i) _ courses_there course_test
      (read_is table.Mark (measured_of rows.mark (sound.courses_of i)) (λ ms. are_all_marks (map marks_of ms)) _ (map measured_of_entry i.routes) _ measured_there
      (ap are_all_marks (map-map marks_of measured_of_entry i.routes) ∙ mark_test)
      (read_is table.Ref (routes_of rows.ref (map measured_of_entry i.routes)) (λ rs. are_all_referents (map referents_of rs)) _ (map (λ (e : RouteRow). e.route) i.routes) _ routes_there
      (ap are_all_referents (map-map referents_of (λ (e : RouteRow). e.route) i.routes) ∙ ref_test)
      (read_is table.Span (entries_of bare rows.span (map (λ (e : RouteRow). e.route) i.routes)) (λ es. are_spans i.links i.classes bare (map spans_of es)) _ i.routes _ entries_there
      (spans-same [] i.links i.classes i.assets (sound.spans_of i) ∙ span_test)
      (read_is table.Entered (each_sorted part_before part_of rows.entered) (are_entered i.links bare) _ i.entered _ entered_there (entered-same [] i.links i.assets i.entered ∙ entered_test)
      (read_is table.Gone (each_sorted gone_before gone_of rows.gone) (are_gone i.links bare (sound.spans_of i) i.entered) _ i.gone _ gone_is_there (gone-same [] i.links i.assets (sound.spans_of i) i.entered i.gone ∙ gone_test)
      (read_is table.Edit (edits_of rows.edit) (are_edits i.entered i.gone) _ i.edits _ edits_there edit_test
      (ap (λ assets. Ok (record i { assets = assets })) entries_back))))))))))

-- the rows in a store of version 1
abbrev first_version : Tables → Tables
first_version t = record t { version = pos 1 ∷ []; origin = [] }

-- without origins nothing more is looked at
last : (r : Result Image Table) (i : Image) → r ≡ Ok i → are_origins i.entered i.assets ≡ true
    → content.◌>>=◌ r (λ image. content.◌>>=◌ (read table.Origin (each_sorted origin_before option.origin_of []) (λ os. are_origins image.entered image.assets && has_origins 1 image.assets os)) (λ origins. Ok image)) ≡ Ok i
last r i is origins =
    ap (λ r. content.◌>>=◌ r (λ image. content.◌>>=◌ (read table.Origin (each_sorted origin_before option.origin_of []) (λ os. are_origins image.entered image.assets && has_origins 1 image.assets os)) (λ origins. Ok image))) is
    ∙ read_is table.Origin (each_sorted origin_before option.origin_of []) (λ os. are_origins i.entered i.assets && has_origins 1 i.assets os) (λ origins. Ok i) [] (Ok i) refl (and_from (are_origins i.entered i.assets) _ origins refl) refl

first_holds : (pieces : Name → List Piece) (i : Image) → HasTexts i → IsSound i → ArePiecesOfAll pieces i.routes → content_of (first_version (encoded pieces i)) ≡ Ok i
unfolding content_of
first_holds pieces i texts is_sound are = last (inventory_of (encoded pieces i)) i (inventory_is pieces i texts is_sound are) (tested i is_sound).origins

pub encoded_holds : EncodedHolds
encoded_holds pieces i texts is_sound are = brought_up_holds_the_same (first_version (encoded pieces i)) i refl (first_holds pieces i texts is_sound are)
