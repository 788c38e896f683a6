-- A route and a diagram are shown in one way: what is drawn is one drawing.
use Rattle.std.proofs.Common.{◌≡◌, ◌⊎◌, inl, inr, ℕ, zero, suc, ◌+◌, ◌<◌, ◌≤◌, Bool, true, false, not, List, [], ◌∷◌, length, map, filter, take, count_by, cond, Option, Some, None, Ok, Err, refl, sym, ap, subst, ◌∙◌, arith}
use Rattle.std.specs.Prelude.{◌||◌, ◌^◌, MatchOption, slice_get, unwrap_or}
use Rattle.std.specs.Ordering.{is_eq, is_lt, ordering_reverse}
use Rattle.std.specs.declared.cmp.Ordering.{Ordering}
use Rattle.std.specs.declared.cmp.Ordering.TheVariants.{Less, Equal, Greater}
use Rattle.std.specs.Cmp.Lexicographic.{bytes_decides, nat_list_cmp_total, texts_ties}
use Rattle.std.specs.List.{find, list_all, list_any}
use Rattle.std.specs.Cmp.{IsStrictWeakOrder}
use Rattle.std.proofs.Math.Bridge.{le_prop}
use Rattle.std.proofs.lemmas.Bool.{and_parts, both_ways, cases_Bool, cases_lt, false_from_ne_true, false≢true, not-true, or_left, or_parts}
use Rattle.std.proofs.lemmas.List.Sums.{sum_by-cons}
use Rattle.std.proofs.lemmas.List.Sorted.{sum_by-IsPermutation}
use Rattle.lrs_measure.specs.Limits.{longest_route}
use Rattle.lrs_measure.specs.Lists.{In, each_two}
use Rattle.lrs_measure.specs.Texts.{Name, same_name}
use Rattle.lrs_measure.proofs.Members.{all_at, any_found}
use Rattle.lrs_element.specs.declared.link.Ground.{Ground}
use Rattle.lrs_element.specs.declared.marks.Mark.{Mark}
use Rattle.lrs_position.specs.declared.route.Referent.{Referent}
use Rattle.lrs_position.specs.declared.route.Route.{Route}
use Rattle.lrs_events.specs.Changes.{has_row, same_row}
use Rattle.lrs_events.specs.declared.class.Asset.{Asset}
use Rattle.lrs_events.specs.declared.class.Class.{Class}
use Rattle.lrs_events.specs.declared.side.LinkSide.{LinkSide}
use Rattle.lrs_events.specs.declared.side.LinkSide.TheVariants.{Left, Right}
use Rattle.lrs_events.specs.declared.span.Span.{Span}
use Rattle.lrs_events.specs.LaneLists.Lane.{is_met}
use Rattle.lrs_events.specs.LaneLists.Order.{place_before}
use Rattle.lrs_events.specs.declared.lanes.order.RowOrder.TheVariants.{ByPlace}
use Rattle.lrs_events.proofs.LaneLists.Ranks.{itself, row_is, row_itself, row_ranks}
use Rattle.lrs_events.proofs.LaneLists.Strict.{sorted_two}
use Rattle.lrs_machine.specs.declared.image.Image.{Image}
use Rattle.lrs_machine.specs.declared.image.RouteRow.{RouteRow}
use Rattle.lrs_image.specs.Change.{is_named}
use Rattle.lrs_report.specs.declared.diagrams.diagram.ClassBands.{ClassBands}
use Rattle.lrs_report.specs.declared.diagrams.diagram.Diagram.{Diagram}
use Rattle.lrs_report.specs.declared.diagrams.diagram.DrawnPiece.{DrawnPiece}
use Rattle.lrs_report.specs.declared.diagrams.diagram.DrawnRow.{DrawnRow}
use Rattle.lrs_report.specs.declared.diagrams.scale.Scale.{Scale}
use Rattle.lrs_report_lists.proofs.FewestPieces.{fewest-same}
use Rattle.lrs_report_answers.proofs.Naming.{along_ranks}
use Rattle.lrs_report_answers.specs.DrawnRows.{AreAlong, AreBands, AreChosen, ArePlaced, IsBand, IsDrawing, IsDrawn, IsDrawnOn, IsFirstUnknown, IsStretch, along, class_named, drawn_row, is_point, placed, stands_before}
use Rattle.lrs_report_answers.specs.Answers.{UnlessMemory, route_missing}
use Rattle.lrs_report_answers.specs.ToldAnswers.{IsNamedRoute}
use Rattle.lrs_report_answers.specs.declared.fault.AskFault.{AskFault}
use Rattle.lrs_report_answers.specs.declared.fault.AskFault.TheVariants.{Memory, Seg}
use Rattle.lrs_report_answers.specs.declared.told.Told.TheVariants as told
use Rattle.lrs_machine.specs.declared.segment.SegFault.TheVariants as seg
use Rattle.lrs_web_requests.specs.Text.{Answer}
use Rattle.lrs_web_requests.specs.declared.paths.Format.{Format}
use Rattle.lrs_web_replies.specs.QuestionAnswers.{ShowsTold}
use Rattle.lrs_web_replies.specs.declared.pages.Page.{Page}
use Rattle.lrs_web_replies.specs.Answers.{route_data}
use Rattle.lrs_web_replies.specs.Replies.{json_answer}
use Rattle.lrs_promises.proofs.Framed.{first_same, rest_same}
use Rattle.lrs_promises.proofs.Once.{OneUnlessMemory, same_some, unless_memory}

-- ---- a route

pub named_once : (i : Image) (name : Name) → OneUnlessMemory (IsNamedRoute i name)
named_once i name r q h g some also = by (find (is_named name) i.routes) h g
  where
    by : (o : Option RouteRow) → MatchOption o (r ≡ Err route_missing) (λ e. UnlessMemory (λ route. route ≡ e.route) r) → MatchOption o (q ≡ Err route_missing) (λ e. UnlessMemory (λ route. route ≡ e.route) q) → r ≡ q
    by None x y = x ∙ sym y
    by (Some e) x y = unless_memory (λ route. route ≡ e.route) (λ c d k l. k ∙ sym l) r q x y some also

pub route_once : (format : Format) (page : Page) (r : Route) (a b : Answer) → ShowsTold format page (told.Route r) a → ShowsTold format page (told.Route r) b → a ≡ b
route_once format page r a b (d, h, is) (e, g, also) =
    let pieces = fewest-same h.pieces g.pieces h.fewest g.fewest (h.course ∙ sym g.course) in
    is ∙ ap (json_answer 200) (h.is ∙ ap (route_data r) pieces ∙ sym g.is) ∙ sym also

-- ---- what lies on a side

in_lane : (r : Span) (rows : List Span) → has_row rows r ≡ true → In r rows
in_lane r rows h = let found = any_found (λ s. same_row s r) rows h in subst (λ z. In z rows) (row_is found.0 r found.2) found.1

place_ranks : IsStrictWeakOrder place_before
place_ranks = row_ranks ByPlace

-- a row that stands before others is none of them
absent : (x : Span) (xs : List Span) → list_all (place_before x) xs ≡ true → has_row xs x ≡ false
absent x xs up = false_from_ne_true (has_row xs x) (λ h. both_ways (place_before x x) (itself place_before place_ranks x) (all_at (place_before x) x xs up (in_lane x xs h)))

-- lanes of the same rows are the same
one_lane : (xs ys : List Span) → each_two place_before xs ≡ true → each_two place_before ys ≡ true → ((r : Span) → has_row xs r ≡ has_row ys r) → xs ≡ ys
one_lane [] [] up also has = refl
one_lane [] (y ∷ ys) up also has = absurd (false≢true (has y ∙ or_left (same_row y y) (has_row ys y) (row_itself y)))
one_lane (x ∷ xs) [] up also has = absurd (false≢true (sym (has x) ∙ or_left (same_row x x) (has_row xs x) (row_itself x)))
one_lane (x ∷ xs) (y ∷ ys) up also has =
    let one = and_parts (list_all (place_before x) xs) (each_two place_before xs) up in
    let two = and_parts (list_all (place_before y) ys) (each_two place_before ys) also in
    let e = head one.0 two.0 (in_lane x (y ∷ ys) (sym (has x) ∙ or_left (same_row x x) (has_row xs x) (row_itself x))) (in_lane y (x ∷ xs) (has y ∙ or_left (same_row y y) (has_row ys y) (row_itself y))) in
    λ i. e i ∷ one_lane xs ys one.1 two.1 (λ r. rest r e one.0 two.0 (same_row x r) refl) i
  where
    head : list_all (place_before x) xs ≡ true → list_all (place_before y) ys ≡ true → In x (y ∷ ys) → In y (x ∷ xs) → x ≡ y
    head first other (inl e) n = e
    head first other (inr m) (inl e) = sym e
    head first other (inr m) (inr n) = absurd (both_ways (place_before y x) (place_ranks.one_way x y (all_at (place_before x) y xs first n)) (all_at (place_before y) x ys other m))

    rest : (r : Span) → x ≡ y → list_all (place_before x) xs ≡ true → list_all (place_before y) ys ≡ true → (b : Bool) → same_row x r ≡ b → has_row xs r ≡ has_row ys r
    rest r e first other true here =
        ap (has_row xs) (sym (row_is x r here)) ∙ absent x xs first ∙ sym (absent y ys other) ∙ ap (has_row ys) (sym e ∙ row_is x r here)
    rest r e first other false here =
        ap (λ b. b || has_row xs r) (sym here) ∙ has r ∙ ap (λ b. b || has_row ys r) (ap (λ z. same_row z r) (sym e) ∙ here)

band_once : (assets : List Asset) (rows : List Span) (from to : ℕ) (class : Class) (side : LinkSide) (d e : List DrawnRow) → IsBand assets rows from to class side d → IsBand assets rows from to class side e → d ≡ e
band_once assets rows from to class side d e (lane, h, is) (other, g, also) =
    let lanes = one_lane lane other h.in_order g.in_order (λ r. h.has r ∙ sym (g.has r)) in
    is ∙ ap (λ (l : List Span). map (drawn_row assets (is_point class.kind)) (filter (is_met from to) l)) lanes ∙ sym also

bands_once : (assets : List Asset) (rows : List Span) (from to : ℕ) (classes : List Class) (bs cs : List ClassBands) → AreBands assets rows from to classes bs → AreBands assets rows from to classes cs → bs ≡ cs
bands_once assets rows from to [] [] [] h g = refl
bands_once assets rows from to [] [] (c ∷ cs) h g = absurd g
bands_once assets rows from to [] (b ∷ bs) cs h g = absurd h
bands_once assets rows from to (class ∷ classes) [] cs h g = absurd h
bands_once assets rows from to (class ∷ classes) (b ∷ bs) [] h g = absurd g
bands_once assets rows from to (class ∷ classes) (b ∷ bs) (c ∷ cs) h g =
    let named : b.class ≡ c.class = h.0.class_is ∙ sym g.0.class_is in
    let left = band_once assets rows from to class Left b.left c.left h.0.left g.0.left in
    let right = band_once assets rows from to class Right b.right c.right h.0.right g.0.right in
    let others = bands_once assets rows from to classes bs cs h.1 g.1 in
    λ i. record { class = named i; left = left i; right = right i } ∷ others i

-- ---- referents along a route

abbrev same_referent : Referent → Referent → Bool
same_referent r s = same_name (r.at ∷ r.name) (s.at ∷ s.name)

referent_is : (r s : Referent) → same_referent r s ≡ true → r ≡ s
referent_is r s h =
    let texts = (bytes_decides (r.at ∷ r.name) (s.at ∷ s.name)).0 h in
    let at = first_same r.at s.at r.name s.name texts in
    let name = rest_same r.at s.at r.name s.name texts in
    λ i. record { name = name i; at = at i }

-- of two referents that stand in one place in either order
tied_referents : (r s : Referent) → stands_before r s ≡ false → stands_before s r ≡ false → r ≡ s
tied_referents r s h k = by (along r s) refl
  where
    by : (o : Ordering) → o ≡ along r s → r ≡ s
    by Less e = absurd (both_ways (stands_before r s) h (ap is_lt (sym e)))
    by Equal e = referent_is r s (texts_ties (r.at ∷ r.name) (s.at ∷ s.name) ∙ ap is_eq (sym e))
    by Greater e = absurd (both_ways (stands_before s r) k (ap is_lt (nat_list_cmp_total.antisymm (s.at ∷ s.name) (r.at ∷ r.name) ∙ ap ordering_reverse (sym e))))

abbrev weight : Bool → ℕ
weight b = cond b 1 0

abbrev not_behind : Referent → Referent → Bool
not_behind r s = not (stands_before s r)

-- a referent that is counted among others is one of them
counted_in : (x : Referent) (xs ys : List Referent) → count_by (same_referent x) (x ∷ xs) ≡ count_by (same_referent x) ys → In x ys
counted_in x xs ys e = by (cases_Bool (list_any (same_referent x) ys))
  where
    none_counted : (zs : List Referent) → list_any (same_referent x) zs ≡ false → count_by (same_referent x) zs ≡ 0
    none_counted [] h = refl
    none_counted (z ∷ zs) h =
        let both = or_parts (same_referent x z) (list_any (same_referent x) zs) h in
        sum_by-cons (λ y. cond (same_referent x y) 1 0) z zs ∙ ap (λ b. cond b 1 0 + count_by (same_referent x) zs) both.0 ∙ ap (λ n. 0 + n) (none_counted zs both.1)

    by : (list_any (same_referent x) ys ≡ true) ⊎ (list_any (same_referent x) ys ≡ false) → In x ys
    by (inl h) = let f = any_found (same_referent x) ys h in subst (λ z. In z ys) (sym (referent_is x f.0 f.2)) f.1
    by (inr h) =
        let none = none_counted ys h in
        let one = sum_by-cons (λ y. cond (same_referent x y) 1 0) x xs ∙ ap (λ b. cond b 1 0 + count_by (same_referent x) xs) ((bytes_decides (x.at ∷ x.name) (x.at ∷ x.name)).1 refl) in
        absurd (omega (arith, e, none, one))

-- referents in their order are one list
ordered_once : (ys zs : List Referent) → each_two not_behind ys ≡ true → each_two not_behind zs ≡ true → ((p : Referent → Bool) → count_by p zs ≡ count_by p ys) → ys ≡ zs
ordered_once [] [] h k c = refl
ordered_once [] (z ∷ zs) h k c = absurd (counted_in z zs [] (c (same_referent z)))
ordered_once (y ∷ ys) [] h k c = absurd (counted_in y ys [] (sym (c (same_referent y))))
ordered_once (y ∷ ys) (z ∷ zs) h k c =
    let one = and_parts (list_all (not_behind y) ys) (each_two not_behind ys) h in
    let two = and_parts (list_all (not_behind z) zs) (each_two not_behind zs) k in
    let e = head one.0 two.0 (counted_in z zs (y ∷ ys) (c (same_referent z))) (counted_in y ys (z ∷ zs) (sym (c (same_referent y)))) in
    λ i. e i ∷ ordered_once ys zs one.1 two.1 (λ p. rest p e) i
  where
    head : list_all (not_behind y) ys ≡ true → list_all (not_behind z) zs ≡ true → In z (y ∷ ys) → In y (z ∷ zs) → y ≡ z
    head first other (inl e) n = sym e
    head first other (inr m) (inl e) = e
    head first other (inr m) (inr n) = tied_referents y z (not-true (stands_before y z) (all_at (not_behind z) y zs other n)) (not-true (stands_before z y) (all_at (not_behind y) z ys first m))

    rest : (p : Referent → Bool) → y ≡ z → count_by p zs ≡ count_by p ys
    rest p e =
        let both = sym (sum_by-cons (λ x. cond (p x) 1 0) z zs) ∙ c p ∙ sum_by-cons (λ x. cond (p x) 1 0) y ys in
        let heads : weight (p y) ≡ weight (p z) = ap (λ (x : Referent). weight (p x)) e in
        omega (arith, both, heads)

along_once : (refs ys zs : List Referent) → AreAlong refs ys → AreAlong refs zs → ys ≡ zs
along_once refs ys zs h g =
    ordered_once ys zs (sorted_two stands_before along_ranks ys h.1) (sorted_two stands_before along_ranks zs g.1)
    (λ p. sum_by-IsPermutation (λ x. cond (p x) 1 0) refs zs g.0 ∙ sym (sum_by-IsPermutation (λ x. cond (p x) 1 0) refs ys h.0))

-- ---- pieces

placed_once : (course : List Ground) (d e : List DrawnPiece) → ArePlaced course d → ArePlaced course e → d ≡ e
placed_once course d e (ps, course_is, few, is) (qs, course_too, least, also) = is ∙ ap (placed 0) (fewest-same ps qs few least (course_is ∙ sym course_too)) ∙ sym also

-- ---- classes

some_same : (cs ds : List Class) → map (λ c. Some c) cs ≡ map (λ c. Some c) ds → cs ≡ ds
some_same [] [] e = refl
some_same [] (d ∷ ds) e = cc e
some_same (c ∷ cs) [] e = cc e
some_same (c ∷ cs) (d ∷ ds) e =
    let first = same_some c d (first_same (Some c) (Some d) (map (λ x. Some x) cs) (map (λ x. Some x) ds) e) in
    let others = some_same cs ds (rest_same (Some c) (Some d) (map (λ x. Some x) cs) (map (λ x. Some x) ds) e) in
    λ i. first i ∷ others i

chosen_once : (classes : List Class) (names : List Name) (cs ds : List Class) → AreChosen classes names cs → AreChosen classes names ds → cs ≡ ds
chosen_once classes [] cs ds h g = h ∙ sym g
chosen_once classes (name ∷ names) cs ds h g = some_same cs ds (sym h ∙ g)

none_unknown : (cs : List Class) (at : ℕ) → slice_get (map (λ c. Some c) cs) at ≡ Some None → ⊥
none_unknown [] at e = cc e
none_unknown (c ∷ cs) zero e = cc e
none_unknown (c ∷ cs) (suc at) e = none_unknown cs at e

-- where the classes are known, none is unknown
chosen_known : (classes : List Class) (names : List Name) (chosen : List Class) (at : ℕ) → AreChosen classes names chosen → slice_get (map (class_named classes) names) at ≡ Some None → ⊥
chosen_known classes [] chosen at are e = cc e
chosen_known classes (name ∷ names) chosen at are e = none_unknown chosen at (sym (ap (λ l. slice_get l at) are) ∙ e)

-- what is taken of the front stands at its place
taken_at : (classes : List Class) (names : List Name) (at up : ℕ) → at < up → slice_get (map (class_named classes) (take up names)) at ≡ slice_get (map (class_named classes) names) at
taken_at classes [] at zero below = refl
taken_at classes [] at (suc up) below = refl
taken_at classes (name ∷ names) at zero below = absurd (omega (arith, below))
taken_at classes (name ∷ names) zero (suc up) below = refl
taken_at classes (name ∷ names) (suc at) (suc up) below = taken_at classes names at up (omega (arith, below))

not_before : (classes : List Class) (names : List Name) (at up : ℕ) → IsFirstUnknown classes names at → IsFirstUnknown classes names up → at < up → ⊥
not_before classes names at up h g below = none_unknown g.before at (sym (ap (λ l. slice_get l at) g.known) ∙ taken_at classes names at up below ∙ h.unknown)

unknown_once : (classes : List Class) (names : List Name) (at up : ℕ) → IsFirstUnknown classes names at → IsFirstUnknown classes names up → at ≡ up
unknown_once classes names at up h g = by (cases_lt at up) (cases_lt up at)
  where
    by : (at < up) ⊎ (up ≤ at) → (up < at) ⊎ (at ≤ up) → at ≡ up
    by (inl below) k = absurd (not_before classes names at up h g below)
    by (inr above) (inl below) = absurd (not_before classes names up at g h below)
    by (inr above) (inr under) = omega (arith, above, under)

-- ---- diagrams

abbrev scale_of : (from to : ℕ) → from < to → to ≤ longest_route → Scale
scale_of from to ordered longest = record { from = from; to = to; ordered = ordered; longest = longest }

scales_alike : (from to low high : ℕ) (o : from < to) (l : to ≤ longest_route) (p : low < high) (m : high ≤ longest_route) → from ≡ low → to ≡ high → scale_of from to o l ≡ scale_of low high p m
scales_alike from to low high o l p m start stop =
    let P : ℕ → Type 0 = λ x. (p : x < high) → scale_of from to o l ≡ scale_of x high p m in
    let Q : ℕ → Type 0 = λ x. (p : from < x) (m : x ≤ longest_route) → scale_of from to o l ≡ scale_of from x p m in
    subst P start (λ p. subst Q stop (λ p m. λ i. scale_of from to (le_prop o p i) (le_prop l m i)) p m) p

abbrev diagram_of : Name → Scale → List Mark → List Referent → List DrawnPiece → (classes : List ClassBands) → length classes < 2 ^ 32 → Diagram
diagram_of route scale marks referents pieces classes few = record { route = route; scale = scale; marks = marks; referents = referents; pieces = pieces; classes = classes; few = few }

diagrams_alike : (d e : Diagram) → d.route ≡ e.route → d.scale ≡ e.scale → d.marks ≡ e.marks → d.referents ≡ e.referents → d.pieces ≡ e.pieces → d.classes ≡ e.classes → d ≡ e
diagrams_alike d e route scale marks referents pieces classes =
    let P : List ClassBands → Type 0 = λ cs. (few : length cs < 2 ^ 32) → d ≡ diagram_of d.route d.scale d.marks d.referents d.pieces cs few in
    let same : d ≡ diagram_of d.route d.scale d.marks d.referents d.pieces e.classes e.few =
    subst P classes (λ few. λ i. diagram_of d.route d.scale d.marks d.referents d.pieces d.classes (le_prop d.few few i)) e.few in
    same ∙ (λ i. diagram_of (route i) (scale i) (marks i) (referents i) (pieces i) e.classes e.few)

drawing_once : (i : Image) (r : RouteRow) (chosen : List Class) (from to : ℕ) (d e : Diagram) → IsDrawing i r chosen from to d → IsDrawing i r chosen from to e → d ≡ e
drawing_once i r chosen from to d e h g =
    diagrams_alike d e (h.route ∙ sym g.route)
    (scales_alike d.scale.from d.scale.to e.scale.from e.scale.to d.scale.ordered d.scale.longest e.scale.ordered e.scale.longest (h.start ∙ sym g.start) (h.stop ∙ sym g.stop))
    (h.marks ∙ sym g.marks)
    (along_once r.route.refs d.referents e.referents h.referents g.referents)
    (placed_once r.route.course d.pieces e.pieces h.pieces g.pieces)
    (bands_once i.assets r.spans from to chosen d.classes e.classes h.classes g.classes)

module _ (i : Image) (r : RouteRow) (names : List Name) (from to : ℕ) where
  -- what is drawn is not refused
  not_refused : (chosen : List Class) (fault : AskFault) → AreChosen i.classes names chosen → IsStretch r from to → (fault ≡ Memory → ⊥) → IsDrawnOn i r names from to (Err fault) → ⊥
  not_refused chosen fault are stretch lacks (inl (inl memory)) = lacks memory
  not_refused chosen fault are stretch lacks (inl (inr (at, first, is))) = chosen_known i.classes names chosen at are first.unknown
  not_refused chosen fault are stretch lacks (inr (others, known, none, is)) = none stretch

  refused_once : (f g : AskFault) → (f ≡ Memory → ⊥) → (g ≡ Memory → ⊥) → IsDrawnOn i r names from to (Err f) → IsDrawnOn i r names from to (Err g) → f ≡ g
  refused_once f g lacks also (inl (inl memory)) k = absurd (lacks memory)
  refused_once f g lacks also (inl (inr (at, first, is))) (inl (inl memory)) = absurd (also memory)
  refused_once f g lacks also (inl (inr (at, first, is))) (inl (inr (up, second, so))) = is ∙ ap (λ (n : ℕ). Seg (seg.NoClass n)) (unknown_once i.classes names at up first second) ∙ sym so
  refused_once f g lacks also (inl (inr (at, first, is))) (inr (chosen, are, none, so)) = absurd (chosen_known i.classes names chosen at are first.unknown)
  refused_once f g lacks also (inr (chosen, are, none, is)) (inl (inl memory)) = absurd (also memory)
  refused_once f g lacks also (inr (chosen, are, none, is)) (inl (inr (at, first, so))) = absurd (chosen_known i.classes names chosen at are first.unknown)
  refused_once f g lacks also (inr (chosen, are, none, is)) (inr (others, known, never, so)) = is ∙ sym so

  drawn_on_once : OneUnlessMemory (IsDrawnOn i r names from to)
  drawn_on_once (Ok d) (Ok e) (chosen, are, stretch, h) (others, known, also, g) some too =
      let same = chosen_once i.classes names chosen others are known in
      ap (λ (x : Diagram). Ok x) (drawing_once i r chosen from to d e h (subst (λ cs. IsDrawing i r cs from to e) (sym same) g))
  drawn_on_once (Ok d) (Err f) (chosen, are, stretch, h) g some too = absurd (not_refused chosen f are stretch (λ e. too (ap (λ (x : AskFault). Err x) e)) g)
  drawn_on_once (Err f) (Ok e) h (chosen, are, stretch, g) some too = absurd (not_refused chosen f are stretch (λ e. some (ap (λ (x : AskFault). Err x) e)) h)
  drawn_on_once (Err f) (Err g) h k some too =
      ap (λ (x : AskFault). Err x) (refused_once f g (λ e. some (ap (λ (x : AskFault). Err x) e)) (λ e. too (ap (λ (x : AskFault). Err x) e)) h k)

pub drawn_once : (i : Image) (name : Name) (names : List Name) (from to : Option ℕ) → OneUnlessMemory (IsDrawn i name names from to)
drawn_once i name names from to r q h g some also = by (find (is_named name) i.routes) h g
  where
    by : (o : Option RouteRow) → MatchOption o (r ≡ Err route_missing) (λ e. IsDrawnOn i e names (unwrap_or from 0) (unwrap_or to (length e.route.course)) r)
        → MatchOption o (q ≡ Err route_missing) (λ e. IsDrawnOn i e names (unwrap_or from 0) (unwrap_or to (length e.route.course)) q) → r ≡ q
    by None x y = x ∙ sym y
    by (Some e) x y = drawn_on_once i e names (unwrap_or from 0) (unwrap_or to (length e.route.course)) r q x y some also
