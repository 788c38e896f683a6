-- The difference has no line exactly where two inventories say the same.
use Rattle.std.proofs.Common.{◌≡◌, ℕ, Bool, true, false, not, inl, inr, Option, Some, None, [], length, refl, sym, ap, ◌∙◌, arith}
use Rattle.std.specs.Prelude.{◌||◌, ◌&&◌, nat_lt, nat_le}
use Rattle.std.specs.List.{list_all}
use Rattle.std.proofs.lemmas.Bool.{and_parts, ltb-true}
use Rattle.lrs_measure.specs.Lists.{each_two}
use Rattle.lrs_measure.specs.Limits.{most_routes}
use Rattle.lrs_measure.specs.Texts.{Name, name_before}
use Rattle.lrs_element.specs.Course.{meets}
use Rattle.lrs_events.specs.declared.class.Class.{Class}
use Rattle.lrs_events.specs.Places.{Place}
use Rattle.lrs_events.proofs.Row.Unique.{less_both}
use Rattle.lrs_machine.specs.declared.image.Image.{Image}
use Rattle.lrs_machine.specs.declared.image.RouteRow.{RouteRow}
use Rattle.lrs_machine.specs.declared.table.Table.TheVariants as table
use Rattle.lrs_machine.specs.Image.{route_entry, state_of}
use Rattle.lrs_machine.specs.Register.{entries}
use Rattle.lrs_machine.specs.Sound.{IsSound, are_classes, are_courses, course_before, courses_of, first_unsound, is_course, tests}
use Rattle.lrs_machine.proofs.Pairs.{each_two-map}
use Rattle.lrs_machine.proofs.SoundImages.{passed, sound_is_lawful}
use Rattle.lrs_difference.specs.declared.line.Sign.TheVariants.{Removed, Added}
use Rattle.lrs_difference.specs.Difference.{difference, facts_in, facts_of, in_order, referents_in}
use Rattle.lrs_difference.specs.Items.{same_asset, same_class, same_link, same_referent, same_route}
use Rattle.lrs_difference.specs.Laws.{NoLineWhereTheyAgree, SayTheSame, gives_some, items_of}
use Rattle.lrs_difference.proofs.Itself.{not_both}
use Rattle.lrs_difference.proofs.Lacking.{HasNoMore, lacks_none, lacks_nothing, none_lacks, none_only, only_none}
use Rattle.lrs_difference.proofs.Leading.{lines_lead}
use Rattle.lrs_difference.proofs.Referents.{listed_stands, standing_is_listed}
use Rattle.lrs_difference.proofs.Same as decided
use Rattle.lrs_difference.proofs.Signs.{added_between, removed_between}
use Rattle.lrs_difference.proofs.Sorted.{one_list}
use Rattle.lrs_difference.proofs.Stretches.{no_stretches}

-- ---- the orders

less_one_way : (m n : ℕ) → nat_lt m n ≡ true → nat_lt n m ≡ true → ⊥
less_one_way m n h k = let a = ltb-true m n h in let b = ltb-true n m k in omega (arith, a, b)

module _ (i : Image) (sound : IsSound i) where
  pub classes_in_order : each_two (λ x y. name_before x.0 y.0) (entries (state_of i).classes) ≡ true
  unfolding first_unsound state_of
  classes_in_order =
      each_two-map (λ x y. name_before x.0 y.0) (λ (c : Class). (c.name, c.kind)) i.classes
      ∙ passed (record { table = table.Class; passes = are_classes i.classes }) (tests i) sound (inr (inl refl))

  pub routes_in_order : each_two (λ x y. name_before x.0 y.0) (entries (state_of i).routes) ≡ true
  unfolding first_unsound state_of
  routes_in_order =
      let courses = courses_of i in
      let order = each_two course_before courses in
      let each = list_all (is_course i.links) courses in
      let free = each_two (λ c d. not (meets c.entries d.entries)) courses in
      let few = nat_le (length courses) most_routes in
      let test = passed (record { table = table.Piece; passes = are_courses i.links courses }) (tests i) sound (inr (inr (inr (inl refl)))) in
      each_two-map (λ x y. name_before x.0 y.0) route_entry i.routes
      ∙ sym (each_two-map course_before (λ (e : RouteRow). record { route = e.route.name; entries = e.route.course }) i.routes)
      ∙ (and_parts order each (and_parts (order && each) free (and_parts (order && each && free) few test).0).0).0

  pub facts_in_order : each_two (λ x y. nat_lt x.number y.number) (facts_in (state_of i)) ≡ true
  facts_in_order = each_two-map (λ x y. nat_lt x.number y.number) facts_of (entries (state_of i).assets) ∙ (sound_is_lawful i sound).grounded.assets

-- ---- where there is no line, they say the same

same_option : {X : Type 0} → (o p : Option X) → ((x : X) → o ≡ Some x → p ≡ Some x) → ((x : X) → p ≡ Some x → o ≡ Some x) → o ≡ p
same_option None None to back = refl
same_option None (Some x) to back = back x refl
same_option (Some x) p to back = sym (to x refl)

module _ (a b : Image) (sa : IsSound a) (sb : IsSound b) where
  same_referents : HasNoMore a b → HasNoMore b a → (name : Name) → (state_of a).referents name ≡ (state_of b).referents name
  same_referents h k name =
      same_option ((state_of a).referents name) ((state_of b).referents name)
      (λ m e. listed_stands b sb (name, m) (none_lacks same_referent decided.referents (referents_in a) (referents_in b) h.referents (name, m) (standing_is_listed a name m e)))
      (λ m e. listed_stands a sa (name, m) (none_lacks same_referent decided.referents (referents_in b) (referents_in a) k.referents (name, m) (standing_is_listed b name m e)))

  same_holds : difference a b ≡ [] → (asset : ℕ) (p : Place) → (state_of a).holds asset p ≡ (state_of b).holds asset p
  same_holds none asset p =
      sym (lines_lead a b sa sb asset p ∙ (λ i. (state_of a).holds asset p && not (gives_some Removed (none i) asset p) || gives_some Added (none i) asset p) ∙ kept ((state_of a).holds asset p))
    where
      kept : (h : Bool) → (h && not false || false) ≡ h
      kept true = refl
      kept false = refl

  same_from : difference a b ≡ [] → SayTheSame a b
  same_from none =
      let s = state_of a in
      let t = state_of b in
      let h = none_only a b (sym (removed_between a b) ∙ ap (items_of Removed) none) in
      let k = none_only b a (sym (added_between a b) ∙ ap (items_of Added) none) in
      let links = one_list (λ x y. nat_lt x.0 y.0) (λ x y. less_one_way x.0 y.0) (entries s.links) (entries t.links) (sound_is_lawful a sa).grounded.links (sound_is_lawful b sb).grounded.links
      (none_lacks same_link decided.links (entries s.links) (entries t.links) h.links) (none_lacks same_link decided.links (entries t.links) (entries s.links) k.links) in
      let classes = one_list (λ x y. name_before x.0 y.0) (λ x y. less_both x.0 y.0) (entries s.classes) (entries t.classes) (classes_in_order a sa) (classes_in_order b sb)
      (none_lacks same_class decided.classes (entries s.classes) (entries t.classes) h.classes) (none_lacks same_class decided.classes (entries t.classes) (entries s.classes) k.classes) in
      let routes = one_list (λ x y. name_before x.0 y.0) (λ x y. less_both x.0 y.0) (entries s.routes) (entries t.routes) (routes_in_order a sa) (routes_in_order b sb)
      (none_lacks same_route decided.routes (entries s.routes) (entries t.routes) h.routes) (none_lacks same_route decided.routes (entries t.routes) (entries s.routes) k.routes) in
      record {
        links = λ i. record { rows = links i };
        classes = λ i. record { rows = classes i };
        routes = λ i. record { rows = routes i };
        referents = same_referents h k;
        assets = one_list (λ x y. nat_lt x.number y.number) (λ x y. less_one_way x.number y.number) (facts_in s) (facts_in t) (facts_in_order a sa) (facts_in_order b sb)
            (none_lacks same_asset decided.assets (facts_in s) (facts_in t) h.assets) (none_lacks same_asset decided.assets (facts_in t) (facts_in s) k.assets);
        holds = same_holds none;
      }

-- ---- where they say the same, there is no line

other_way : (a b : Image) → SayTheSame a b → SayTheSame b a
other_way a b h = record {
  links = sym h.links;
  classes = sym h.classes;
  routes = sym h.routes;
  referents = λ name. sym (h.referents name);
  assets = sym h.assets;
  holds = λ asset p. sym (h.holds asset p);
}

no_more : (a b : Image) → IsSound a → SayTheSame a b → HasNoMore a b
no_more a b sa h =
    let s = state_of a in
    let t = state_of b in
    record {
      links = lacks_nothing same_link decided.links (entries s.links) (entries t.links) (ap (λ r. r.rows) h.links);
      classes = lacks_nothing same_class decided.classes (entries s.classes) (entries t.classes) (ap (λ r. r.rows) h.classes);
      routes = lacks_nothing same_route decided.routes (entries s.routes) (entries t.routes) (ap (λ r. r.rows) h.routes);
      referents = lacks_none same_referent decided.referents (referents_in a) (referents_in b) (λ x m. standing_is_listed b x.0 x.1 (sym (h.referents x.0) ∙ listed_stands a sa x m));
      assets = lacks_nothing same_asset decided.assets (facts_in s) (facts_in t) h.assets;
      held = no_stretches s t (λ asset p. ap (λ b. s.holds asset p && not b) (sym (h.holds asset p)) ∙ not_both (s.holds asset p));
    }

none_from : (a b : Image) → IsSound a → IsSound b → SayTheSame a b → difference a b ≡ []
unfolding difference
none_from a b sa sb h = (λ k. in_order (only_none a b (no_more a b sa h) k) (only_none b a (no_more b a sb (other_way a b h)) k))

pub no_line : NoLineWhereTheyAgree
no_line a b sa sb = (same_from a b sa sb, none_from a b sa sb)
