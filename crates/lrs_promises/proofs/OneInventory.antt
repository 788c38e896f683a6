-- Sound inventories of one state are the same, but for the rows of their ledgers.
use Rattle.std.proofs.Common.{◌≡◌, ◌⊎◌, inl, inr, ℕ, true, false, List, [], ◌∷◌, length, map, Some, None, refl, sym, ap, subst, ◌∙◌}
use Rattle.std.specs.Prelude.{IsTrue, ◌&&◌}
use Rattle.std.specs.List.{list_all}
use Rattle.std.specs.Cmp.{IsStrictWeakOrder}
use Rattle.std.specs.Cmp.Lexicographic.{bytes_decides, nat_list_cmp_total}
use Rattle.std.proofs.Math.Bool.{Bool-set}
use Rattle.std.proofs.lemmas.Bool.{and_parts, both_ways, cases_Bool}
use Rattle.std.proofs.lemmas.List.Sorted.{ranks_by}
use Rattle.lrs_measure.specs.Limits.{is_link}
use Rattle.lrs_measure.specs.Lists.{In, each_two}
use Rattle.lrs_measure.specs.Texts.{Name, name_before, same_name}
use Rattle.lrs_element.specs.declared.link.Ground.{Ground}
use Rattle.lrs_element.specs.declared.link.Link.{Link}
use Rattle.lrs_element.specs.declared.marks.Mark.{Mark}
use Rattle.lrs_position.specs.Locations.{Alignment}
use Rattle.lrs_position.specs.Routes.{are_referents, have_marks, is_route, is_route_course, referent_before}
use Rattle.lrs_position.specs.Translations.{referent_at}
use Rattle.lrs_position.specs.declared.route.Referent.{Referent}
use Rattle.lrs_position.specs.declared.route.Route.{Route}
use Rattle.lrs_events.specs.declared.class.Asset.{Asset}
use Rattle.lrs_events.specs.declared.class.Class.{Class}
use Rattle.lrs_events.specs.declared.class.Kind.{Kind}
use Rattle.lrs_events.specs.declared.span.Span.{Span}
use Rattle.lrs_machine.specs.Image.{asset_entry, link_entry, route_entry, state_of}
use Rattle.lrs_machine.specs.Machine.{referent_chainage}
use Rattle.lrs_machine.specs.Sound.{IsSound}
use Rattle.lrs_machine.specs.State.{State}
use Rattle.lrs_machine.specs.declared.image.Image.{Image}
use Rattle.lrs_machine.specs.declared.image.RouteRow.{RouteRow}
use Rattle.lrs_image_laws.proofs.FromReferents.{referents_found}
use Rattle.lrs_image_laws.proofs.Naming.{later_name}
use Rattle.lrs_promises.specs.DeskLaws.Rows.{class_of_asset, courses_by_name}
use Rattle.lrs_promises.proofs.DeskLaws.Alike.{rows_are_determined}
use Rattle.lrs_promises.specs.Determinism.{InventoriesAreOne, SameInventories}
use Rattle.lrs_promises.proofs.Framed.{first_same, rest_same}
use Rattle.lrs_promises.proofs.Once.{same_some, some_is_not_none}

-- ---- lists of entries

none_of_some : {X : Type 0} (x : X) (xs : List X) → [] ≡ x ∷ xs → ⊥
none_of_some x xs e = cc e

-- lists whose entries tell the rows apart
map_once : {X Y : Type 0} (f : X → Y) → ((x y : X) → f x ≡ f y → x ≡ y) → (xs ys : List X) → map f xs ≡ map f ys → xs ≡ ys
map_once f apart [] [] e = refl
map_once f apart [] (y ∷ ys) e = absurd (none_of_some (f y) (map f ys) e)
map_once f apart (x ∷ xs) [] e = absurd (none_of_some (f x) (map f xs) (sym e))
map_once f apart (x ∷ xs) (y ∷ ys) e =
    let first = apart x y (first_same (f x) (f y) (map f xs) (map f ys) e) in
    let rest = map_once f apart xs ys (rest_same (f x) (f y) (map f xs) (map f ys) e) in
    λ k. first k ∷ rest k

abbrev link_of : (number length : ℕ) → IsTrue (is_link number length) → Link
link_of number length limits = record { number = number; length = length; limits = limits }

-- a test has one proof that it is true
links_alike : (n k m j : ℕ) (h : IsTrue (is_link n k)) (g : IsTrue (is_link m j)) → n ≡ m → k ≡ j → link_of n k h ≡ link_of m j g
links_alike n k m j h g number length =
    let P : ℕ → Type 0 = λ x. (g : IsTrue (is_link n x)) → link_of n k h ≡ link_of n x g in
    let Q : ℕ → Type 0 = λ x. (g : IsTrue (is_link x j)) → link_of n k h ≡ link_of x j g in
    subst Q number (subst P length (λ g. ap (link_of n k) (Bool-set (is_link n k) true h g))) g

same_link : (l m : Link) → link_entry l ≡ link_entry m → l ≡ m
same_link l m e = links_alike l.number l.length m.number m.length l.limits m.limits (ap (λ (p : ℕ × ℕ). p.0) e) (ap (λ (p : ℕ × ℕ). p.1) e)

abbrev class_entry : Class → Name × Kind
class_entry c = (c.name, c.kind)

same_class : (c d : Class) → class_entry c ≡ class_entry d → c ≡ d
same_class c d e = λ k. record { name = (e k).0; kind = (e k).1 }

same_asset : (a b : Asset) → asset_entry a ≡ asset_entry b → a ≡ b
same_asset a b e = λ k. record { number = (e k).0; class = (e k).1.class; value = (e k).1.value; lateral = (e k).1.lateral; entered_by = (e k).1.entered_by }

-- ---- referents

name_ranks : IsStrictWeakOrder name_before
name_ranks = ranks_by nat_list_cmp_total (λ (n : Name). n)

-- the first of referents is found, or is passed over
here : (x : Referent) (xs : List Referent) (name : Name) → same_name x.name name ≡ true → referent_at (x ∷ xs) name ≡ Some x.at
here x xs name e = rw e refl

passed : (x : Referent) (xs : List Referent) (name : Name) → same_name x.name name ≡ false → referent_at (x ∷ xs) name ≡ referent_at xs name
passed x xs name e = rw e refl

own_name : (x : Referent) → same_name x.name x.name ≡ true
own_name x = (bytes_decides x.name x.name).1 refl

-- none behind it has its name
none_later : (x : Referent) (xs : List Referent) → list_all (referent_before x) xs ≡ true → referent_at xs x.name ≡ None
none_later x [] up = refl
none_later x (y ∷ ys) up =
    let both = and_parts (referent_before x y) (list_all (referent_before x) ys) up in
    passed y ys x.name (later_name x.name y.name both.0) ∙ none_later x ys both.1

-- what is found behind one has a later name
later : (y : Referent) (ys : List Referent) (name : Name) (at : ℕ) → list_all (referent_before y) ys ≡ true → referent_at ys name ≡ Some at → name_before y.name name ≡ true
later y [] name at up found = absurd (some_is_not_none at (sym found))
later y (z ∷ zs) name at up found =
    let both = and_parts (referent_before y z) (list_all (referent_before y) zs) up in
    by (cases_Bool (same_name z.name name)) both.0 (λ e. later y zs name at both.1 (sym (passed z zs name e) ∙ found))
  where
    by : (same_name z.name name ≡ true) ⊎ (same_name z.name name ≡ false) → name_before y.name z.name ≡ true → (same_name z.name name ≡ false → name_before y.name name ≡ true) → name_before y.name name ≡ true
    by (inl e) first rest = ap (name_before y.name) (sym ((bytes_decides z.name name).0 e)) ∙ first
    by (inr e) first rest = rest e

-- referents in the order of their names are one list, where each name stands in one place
one_refs : (xs ys : List Referent) → each_two referent_before xs ≡ true → each_two referent_before ys ≡ true → ((name : Name) → referent_at xs name ≡ referent_at ys name) → xs ≡ ys
one_refs [] [] up also same = refl
one_refs [] (y ∷ ys) up also same = absurd (some_is_not_none y.at (sym (here y ys y.name (own_name y)) ∙ sym (same y.name)))
one_refs (x ∷ xs) [] up also same = absurd (some_is_not_none x.at (sym (here x xs x.name (own_name x)) ∙ same x.name))
one_refs (x ∷ xs) (y ∷ ys) up also same =
    let one = and_parts (list_all (referent_before x) xs) (each_two referent_before xs) up in
    let two = and_parts (list_all (referent_before y) ys) (each_two referent_before ys) also in
    let names = named one.0 two.0 (cases_Bool (same_name y.name x.name)) in
    let at : x.at ≡ y.at = same_some x.at y.at (sym (here x xs x.name (own_name x)) ∙ same x.name ∙ here y ys x.name ((bytes_decides y.name x.name).1 (sym names))) in
    λ k. record { name = names k; at = at k } ∷ one_refs xs ys one.1 two.1 (λ name. rest name names one.0 two.0 (cases_Bool (same_name x.name name))) k
  where
    named : list_all (referent_before x) xs ≡ true → list_all (referent_before y) ys ≡ true → (same_name y.name x.name ≡ true) ⊎ (same_name y.name x.name ≡ false) → x.name ≡ y.name
    named first other (inl e) = sym ((bytes_decides y.name x.name).0 e)
    named first other (inr e) =
        let one = later y ys x.name x.at other (sym (passed y ys x.name e) ∙ sym (same x.name) ∙ here x xs x.name (own_name x)) in
        let two = later x xs y.name y.at first (sym (passed x xs y.name (later_name y.name x.name one)) ∙ same y.name ∙ here y ys y.name (own_name y)) in
        absurd (both_ways (name_before x.name y.name) (name_ranks.one_way y.name x.name one) two)

    rest : (name : Name) → x.name ≡ y.name → list_all (referent_before x) xs ≡ true → list_all (referent_before y) ys ≡ true → (same_name x.name name ≡ true) ⊎ (same_name x.name name ≡ false)
        → referent_at xs name ≡ referent_at ys name
    rest name names first other (inl e) =
        let is = (bytes_decides x.name name).0 e in
        ap (referent_at xs) (sym is) ∙ none_later x xs first ∙ sym (none_later y ys other) ∙ ap (referent_at ys) (sym names ∙ is)
    rest name names first other (inr e) = sym (passed x xs name e) ∙ same name ∙ passed y ys name (ap (λ n. same_name n name) (sym names) ∙ e)

-- ---- routes

abbrev route_of : Name → (course : List Ground) (marks : List Mark) (refs : List Referent) → IsTrue (is_route course marks refs) → Route
route_of name course marks refs fits = record { name = name; course = course; marks = marks; refs = refs; fits = fits }

routes_alike : (n k : Name) (c d : List Ground) (m w : List Mark) (rs qs : List Referent) (h : IsTrue (is_route c m rs)) (g : IsTrue (is_route d w qs)) → n ≡ k → c ≡ d → m ≡ w → rs ≡ qs
    → route_of n c m rs h ≡ route_of k d w qs g
routes_alike n k c d m w rs qs h g names courses marks refs =
    let P : List Referent → Type 0 = λ x. (g : IsTrue (is_route c m x)) → route_of n c m rs h ≡ route_of n c m x g in
    let Q : List Mark → Type 0 = λ x. (g : IsTrue (is_route c x qs)) → route_of n c m rs h ≡ route_of n c x qs g in
    let R : List Ground → Type 0 = λ x. (g : IsTrue (is_route x w qs)) → route_of n c m rs h ≡ route_of n x w qs g in
    subst R courses (subst Q marks (subst P refs (λ g. ap (route_of n c m rs) (Bool-set (is_route c m rs) true h g)))) g ∙ ap (λ (x : Name). route_of x d w qs g) names

in_order : (r : Route) → each_two referent_before r.refs ≡ true
in_order r =
    let fits = and_parts (is_route_course r.course && have_marks r.course r.marks) (are_referents (length r.course) r.refs) r.fits in
    (and_parts (each_two referent_before r.refs) _ fits.1).0

abbrev rows_of_route : RouteRow → Name × List Span
rows_of_route e = (e.route.name, e.spans)

module _ (i j : Image) (s : IsSound i) (t : IsSound j) (same : state_of i ≡ state_of j) where
  -- what stands on a route, by name
  same_referents : (e f : RouteRow) → In e i.routes → In f j.routes → route_entry e ≡ route_entry f → e.route.refs ≡ f.route.refs
  same_referents e f m n is =
      one_refs e.route.refs f.route.refs (in_order e.route) (in_order f.route) (λ name.
      sym (referents_found i e s m name) ∙ (λ k. referent_chainage (same k) ((is k).1) name) ∙ referents_found j f t n name)

  same_routes : (xs ys : List RouteRow) → ((e : RouteRow) → In e xs → In e i.routes) → ((f : RouteRow) → In f ys → In f j.routes) → map route_entry xs ≡ map route_entry ys
      → map rows_of_route xs ≡ map rows_of_route ys → xs ≡ ys
  same_routes [] [] xi yj h g = refl
  same_routes [] (y ∷ ys) xi yj h g = absurd (none_of_some (route_entry y) (map route_entry ys) h)
  same_routes (x ∷ xs) [] xi yj h g = absurd (none_of_some (route_entry x) (map route_entry xs) (sym h))
  same_routes (x ∷ xs) (y ∷ ys) xi yj h g =
      let entry = first_same (route_entry x) (route_entry y) (map route_entry xs) (map route_entry ys) h in
      let spans = ap (λ (r : Name × List Span). r.1) (first_same (rows_of_route x) (rows_of_route y) (map rows_of_route xs) (map rows_of_route ys) g) in
      let refs = same_referents x y (xi x (inl refl)) (yj y (inl refl)) entry in
      let route : x.route ≡ y.route = routes_alike x.route.name y.route.name x.route.course y.route.course x.route.marks y.route.marks x.route.refs y.route.refs x.route.fits y.route.fits
      (ap (λ (p : Name × Alignment). p.0) entry) (ap (λ (p : Name × Alignment). p.1.course) entry) (ap (λ (p : Name × Alignment). p.1.marks) entry) refs in
      let rest = same_routes xs ys (λ e m. xi e (inr m)) (λ f m. yj f (inr m)) (rest_same (route_entry x) (route_entry y) (map route_entry xs) (map route_entry ys) h)
      (rest_same (rows_of_route x) (rows_of_route y) (map rows_of_route xs) (map rows_of_route ys) g) in
      λ k. record { route = route k; spans = spans k } ∷ rest k

  pub same_inventories : SameInventories i j
  unfolding state_of
  same_inventories = record {
    links = map_once link_entry same_link i.links j.links (ap (λ (u : State). u.links.rows) same);
    classes = map_once class_entry same_class i.classes j.classes (ap (λ (u : State). u.classes.rows) same);
    assets = map_once asset_entry same_asset i.assets j.assets (ap (λ (u : State). u.assets.rows) same);
    routes = same_routes i.routes j.routes (λ e m. m) (λ f m. m) (ap (λ (u : State). u.routes.rows) same)
        (rows_are_determined i j s t (record {
          courses = ap courses_by_name same;
          classes = λ n. ap (λ (u : State). class_of_asset u n) same;
          holds = λ a p. ap (λ (u : State). u.holds a p) same;
        }));
    edits = map_once (λ e. record { key = e.key; line = e.line }) (λ d e is. λ k. record { key = (is k).key; line = (is k).line }) i.edits j.edits (ap (λ (u : State). u.done) same);
  }

pub inventories_are_one : InventoriesAreOne
inventories_are_one = same_inventories
