-- A sound image stands for a lawful state.
use Rattle.std.proofs.Common.{◌≡◌, ℕ, ◌≤◌, Bool, true, false, cond, ◌⊎◌, inl, inr, List, [], ◌∷◌, map, length, Some, None, refl, sym, ap, subst, ◌∙◌, arith}
use Rattle.std.specs.Prelude.{◌&&◌, ◌||◌, not, is_some, nat_eq, nat_le, nat_lt, unwrap_or}
use Rattle.std.specs.List.{list_any, list_all}
use Rattle.std.specs.Ordering.{nat_cmp}
use Rattle.std.specs.Cmp.Lexicographic.{bytes_decides, nat_list_cmp_total}
use Rattle.std.specs.FinMap.{find}
use Rattle.std.proofs.lemmas.Bool.{false≢true, both_ways, not-true, and_parts, and_from, or_cases, leb-true, le-leb, ltb-true, lt-ltb, eqb-true, eq-eqb}
use Rattle.std.proofs.lemmas.Cmp.{nat_cmp_total}
use Rattle.std.proofs.lemmas.List.{length-map}
use Rattle.std.proofs.lemmas.Map.Lookups.{exact_unsigned, exact_bytes}
use Rattle.lrs_measure.specs.Lists.{In, each_two}
use Rattle.lrs_measure.specs.Texts.{Name, name_cmp, same_name}
use Rattle.lrs_element.specs.declared.link.Link.{Link}
use Rattle.lrs_position.specs.Locations.{Alignment}
use Rattle.lrs_events.specs.declared.class.Class.{Class}
use Rattle.lrs_events.specs.declared.class.Kind.{Kind}
use Rattle.lrs_events.specs.declared.class.Kind.TheVariants.{Exclusive}
use Rattle.lrs_events.specs.declared.class.Asset.{Asset}
use Rattle.lrs_events.specs.declared.part.Part.{Part}
use Rattle.lrs_events.specs.declared.part.Gone.{Gone}
use Rattle.lrs_events.specs.Places.{Place, differs}
use Rattle.lrs_events.specs.Spans.{holds_by_spans, are_rows}
use Rattle.lrs_element.specs.Course.{meets}
use Rattle.lrs_position.specs.Routes.{is_route_course}
use Rattle.lrs_events.specs.Parts.{has_place, has_pair, part_before}
use Rattle.lrs_machine.specs.Segments.{is_exclusive}
use Rattle.lrs_machine.specs.declared.image.Image.{Image}
use Rattle.lrs_machine.specs.declared.image.Edit.{Edit}
use Rattle.lrs_machine.specs.declared.table.Table.TheVariants as table
use Rattle.lrs_machine.specs.EnteredNumbers.{is_asset_number, is_lateral_offset}
use Rattle.lrs_measure.specs.Limits.{most_assets, most_routes, most_edits, most_pairs}
use Rattle.lrs_measure.proofs.Members.{any_found, any_of, all_at, all_of, In-map, map_found, list_any-map}
use Rattle.lrs_measure.proofs.Counts.{one_at}
use Rattle.lrs_machine.specs.State.{Reason, same_reason}
use Rattle.lrs_machine.specs.State as state
use Rattle.lrs_machine.specs.Image.{state_of, holds_on, link_entry, asset_entry, route_entry, reason_of}
use Rattle.lrs_machine.specs.Sound.{link_before, are_links, asset_before, are_assets, course_before, are_courses, are_spans, are_entered, gone_before, are_gone, are_balanced, are_edits, Test, IsSound, first_unsound, first_failed, tests, courses_of, spans_of, parts_of, places_of, has_asset_place, holds_in, holders_of, is_asset, is_course, is_on_a_link, is_span, are_spans_of, keeps_exclusive, is_part, share_nothing, pairs_of, is_balanced_at, is_named_by, are_parts, is_origin, are_origins}
use Rattle.lrs_machine.specs.Laws.{IsBalanced, IsExclusive, IsNamed, IsGrounded, SoundIsLawful}
use Rattle.lrs_machine.proofs.Pairs.{HasPlace, place_had, pair_had, one_row, each_two-map, part_on, part_asset, held, held_on, held_asset, Balance, balance, entered_by, has_entered, gone_by, has_gone, takes_away, same_reason_is, is_same_side}
use Rattle.lrs_machine.proofs.Finding.{find_numbered, find_found, find_known}

-- ---- the tests that a sound image passes

pub here : (t : Test) (ts : List Test) → first_failed (t ∷ ts) ≡ None → t.passes ≡ true
here t ts h = by t.passes h
  where
    by : (b : Bool) → cond b (first_failed ts) (Some t.table) ≡ None → b ≡ true
    by true k = refl
    by false k = cc

pub later : (t : Test) (ts : List Test) → first_failed (t ∷ ts) ≡ None → first_failed ts ≡ None
later t ts h = by t.passes h
  where
    by : (b : Bool) → cond b (first_failed ts) (Some t.table) ≡ None → first_failed ts ≡ None
    by true k = k
    by false k = cc

pub passed : (t : Test) (ts : List Test) → first_failed ts ≡ None → In t ts → t.passes ≡ true
passed t [] h m = absurd m
passed t (u ∷ us) h (inl e) = ap (λ w. w.passes) e ∙ here u us h
passed t (u ∷ us) h (inr m) = passed t us (later u us h) m

-- what the laws need of the parts of a ledger
pub record PartsTested (i : Image) (parts : List Part) : Type 0 where
  pub inside : list_all (is_part i.links i.assets) parts ≡ true
  pub apart : each_two share_nothing parts ≡ true

pub and_three : (a b c : Bool) → (a && b && c) ≡ true → (a ≡ true) × (b ≡ true) × (c ≡ true)
and_three true true true h = (refl, refl, refl)
and_three true true false h = absurd (false≢true h)
and_three true false c h = absurd (false≢true h)
and_three false b c h = absurd (false≢true h)

pub parts_tested : (i : Image) (parts : List Part) → are_parts i.links i.assets parts ≡ true → PartsTested i parts
parts_tested i parts h =
    let all = and_three (list_all (is_part i.links i.assets) parts) (each_two share_nothing parts) (list_all (λ a. nat_le (pairs_of a.number parts) most_pairs) i.assets) h in
    record { inside = all.0; apart = all.1 }

-- what the laws need of the tables
pub record Tested (i : Image) : Type 0 where
  pub link_order : each_two link_before i.links ≡ true
  pub asset_order : each_two asset_before i.assets ≡ true
  pub assets : list_all (is_asset i.classes) i.assets ≡ true
  pub courses : list_all (is_course i.links) (courses_of i) ≡ true
  pub spans : list_all (are_spans_of i.assets) (spans_of i) ≡ true
  pub exclusive : list_all (keeps_exclusive i.links i.assets (spans_of i)) i.classes ≡ true
  pub entered : PartsTested i i.entered
  pub gone : PartsTested i (parts_of i.gone)
  pub balanced : list_all (λ a. list_all (is_balanced_at (spans_of i) i.entered (parts_of i.gone) a.number) (places_of i.links)) i.assets ≡ true
  pub entered_named : list_all (is_named_by i.edits) i.entered ≡ true
  pub gone_named : list_all (is_named_by i.edits) (parts_of i.gone) ≡ true
  pub few_edits : nat_le (length i.edits) most_edits ≡ true
  pub origins : are_origins i.entered i.assets ≡ true

pub tested : (i : Image) → IsSound i → Tested i
unfolding first_unsound
tested i h =
    let assets = and_three (each_two asset_before i.assets) (list_all (is_asset i.classes) i.assets) (nat_le (length i.assets) most_assets)
    (passed (record { table = table.Asset; passes = are_assets i.classes i.assets }) (tests i) h (inr (inr (inl refl)))) in
    let courses = and_parts (each_two course_before (courses_of i) && list_all (is_course i.links) (courses_of i) && each_two (λ c d. not (meets c.entries d.entries)) (courses_of i)) (nat_le (length (courses_of i)) most_routes)
    (passed (record { table = table.Piece; passes = are_courses i.links (courses_of i) }) (tests i) h (inr (inr (inr (inl refl))))) in
    let spans = and_parts (list_all (are_spans_of i.assets) (spans_of i)) (list_all (keeps_exclusive i.links i.assets (spans_of i)) i.classes)
    (passed (record { table = table.Span; passes = are_spans i.links i.classes i.assets (spans_of i) }) (tests i) h (inr (inr (inr (inr (inr (inr (inl refl)))))))) in
    let entered = and_parts (each_two part_before i.entered) (are_parts i.links i.assets i.entered)
    (passed (record { table = table.Entered; passes = are_entered i.links i.assets i.entered }) (tests i) h (inr (inr (inr (inr (inr (inr (inr (inl refl))))))))) in
    let gone = and_three (each_two gone_before i.gone) (are_parts i.links i.assets (parts_of i.gone)) (are_balanced i.links i.assets (spans_of i) i.entered (parts_of i.gone))
    (passed (record { table = table.Gone; passes = are_gone i.links i.assets (spans_of i) i.entered i.gone }) (tests i) h (inr (inr (inr (inr (inr (inr (inr (inr (inl refl)))))))))) in
    let edits = and_parts (each_two (λ d e. not (same_name d.key e.key)) i.edits && list_all (is_named_by i.edits) i.entered && list_all (is_named_by i.edits) (parts_of i.gone)) (nat_le (length i.edits) most_edits)
    (passed (record { table = table.Edit; passes = are_edits i.entered i.gone i.edits }) (tests i) h (inr (inr (inr (inr (inr (inr (inr (inr (inr (inl refl))))))))))) in
    let named = and_three (each_two (λ d e. not (same_name d.key e.key)) i.edits) (list_all (is_named_by i.edits) i.entered) (list_all (is_named_by i.edits) (parts_of i.gone)) edits.0 in
    record {
      link_order = passed (record { table = table.Link; passes = are_links i.links }) (tests i) h (inl refl);
      asset_order = assets.0;
      assets = assets.1;
      courses = (and_three (each_two course_before (courses_of i)) (list_all (is_course i.links) (courses_of i)) (each_two (λ c d. not (meets c.entries d.entries)) (courses_of i)) courses.0).1;
      spans = spans.0;
      exclusive = spans.1;
      entered = parts_tested i i.entered entered.1;
      gone = parts_tested i (parts_of i.gone) gone.1;
      balanced = gone.2;
      entered_named = named.1;
      gone_named = named.2;
      few_edits = edits.1;
      origins = passed (record { table = table.Origin; passes = are_origins i.entered i.assets }) (tests i) h (inr (inr (inr (inr (inr (inr (inr (inr (inr (inr (inl refl)))))))))));
    }

-- ---- the state that it stands for

abbrev done : Edit → state.Edit
done e = record { key = e.key; line = e.line }

abbrev pub holds : Image → ℕ → Place → Bool
holds i a p = list_any (λ e. holds_on e a p) i.routes

abbrev enters : Image → ℕ → ℕ → Place → Bool
enters i m a p = list_any (λ part. has_pair part m a p) i.entered

abbrev takes : Image → ℕ → Reason → ℕ → Place → Bool
takes i m why a p = list_any (takes_away m why a p) i.gone

module _ (i : Image) (t : Tested i) where
  -- the pair of an asset and a place is balanced
  abbrev pub IsBalancedAt : ℕ → Place → Type 0
  IsBalancedAt a p = Balance (holds i a p) (has_asset_place i.entered a p) (has_asset_place (parts_of i.gone) a p)

  pub balanced_at : (x : Asset) (a : ℕ) (p : Place) → In x i.assets → x.number ≡ a → In p (places_of i.links) → IsBalancedAt a p
  balanced_at x a p m e n =
      let all : list_all (is_balanced_at (spans_of i) i.entered (parts_of i.gone) x.number) (places_of i.links) ≡ true =
      all_at (λ a. list_all (is_balanced_at (spans_of i) i.entered (parts_of i.gone) a.number) (places_of i.links)) x i.assets t.balanced m in
      let at : Balance (holds_in (spans_of i) a p) (has_asset_place i.entered a p) (has_asset_place (parts_of i.gone) a p) =
      balance _ _ _ (subst (λ b. is_balanced_at (spans_of i) i.entered (parts_of i.gone) b p ≡ true) e (all_at (is_balanced_at (spans_of i) i.entered (parts_of i.gone) x.number) p (places_of i.links) all n)) in
      subst (λ b. Balance b (has_asset_place i.entered a p) (has_asset_place (parts_of i.gone) a p)) (list_any-map (λ s. holds_by_spans s.course s.rows a p) (λ e. record { course = e.route.course; rows = e.spans }) i.routes) at

  -- a part of a ledger is of a known asset and a place of the links
  pub by_part : (parts : List Part) (a : ℕ) (p : Place) → PartsTested i parts → has_asset_place parts a p ≡ true → IsBalancedAt a p
  by_part parts a p good h =
      let found = any_found (λ part. nat_eq part.asset a && has_place part p) parts h in
      let inside = all_at (is_part i.links i.assets) found.0 parts good.inside found.1 in
      let has = place_had found.0 a p found.2 in
      let x = part_asset i.links i.assets found.0 inside in
      balanced_at x.0 a p x.1 (x.2 ∙ has.of_asset) (part_on i.links i.assets found.0 a p inside has)

  -- what is held is of a known asset and a place of the links
  pub held_by : (a : ℕ) (p : Place) → holds i a p ≡ true → ((x : Asset) × In x i.assets × (x.number ≡ a)) × In p (places_of i.links)
  held_by a p h =
      let found = any_found (λ e. holds_on e a p) i.routes h in
      let e = found.0 in
      let is = held e.route.course e.spans a p found.2 in
      let course : is_course i.links (record { route = e.route.name; entries = e.route.course }) ≡ true =
      all_at (is_course i.links) _ (courses_of i) t.courses (In-map (λ e. record { route = e.route.name; entries = e.route.course }) e i.routes found.1) in
      let spans : are_spans_of i.assets (record { course = e.route.course; rows = e.spans }) ≡ true =
      all_at (are_spans_of i.assets) _ (spans_of i) t.spans (In-map (λ e. record { course = e.route.course; rows = e.spans }) e i.routes found.1) in
      let on_links = and_three (is_route_course e.route.course) (list_all (is_on_a_link i.links) e.route.course) (each_two differs e.route.course) course in
      let of_assets = and_parts (are_rows e.spans) (list_all (is_span i.assets (length e.route.course)) e.spans) spans in
      (held_asset i.assets (length e.route.course) e.route.course e.spans a p of_assets.1 is, held_on i.links e.route.course e.spans a p on_links.1 is)

  by_held : (a : ℕ) (p : Place) → holds i a p ≡ true → IsBalancedAt a p
  by_held a p h = let k = held_by a p h in balanced_at k.0.0 a p k.0.1 k.0.2 k.1

  -- a row of the entered parts that has the pair by this edit
  entered_row : (m a : ℕ) (p : Place) → enters i m a p ≡ true → (x : Part) × In x i.entered × (x.edit ≡ m) × HasPlace x a p
  entered_row m a p h =
      let found = any_found (λ part. has_pair part m a p) i.entered h in
      let had = pair_had found.0 m a p found.2 in
      (found.0, found.1, had.0, had.1)

  gone_row : (m : ℕ) (why : Reason) (a : ℕ) (p : Place) → takes i m why a p ≡ true → (g : Gone) × In g i.gone × (reason_of g ≡ why) × (g.part.edit ≡ m) × HasPlace g.part a p
  gone_row m why a p h =
      let found = any_found (takes_away m why a p) i.gone h in
      let both = and_parts (same_reason (reason_of found.0) why) (has_pair found.0.part m a p) found.2 in
      let had = pair_had found.0.part m a p both.1 in
      (found.0, found.1, same_reason_is _ _ both.0, had.0, had.1)

  entered_once : (m n a : ℕ) (p : Place) → enters i m a p ≡ true → enters i n a p ≡ true → m ≡ n
  entered_once m n a p h k =
      let x = entered_row m a p h in
      let y = entered_row n a p k in
      let same = one_row (λ part. part) i.entered x.0 y.0 a p t.entered.apart x.1 y.1 x.3 y.3 in
      sym x.2 ∙ ap (λ part. part.edit) same ∙ y.2

  gone_once : (m n a : ℕ) (why because : Reason) (p : Place) → takes i m why a p ≡ true → takes i n because a p ≡ true → (m ≡ n) × (why ≡ because)
  gone_once m n a why because p h k =
      let x = gone_row m why a p h in
      let y = gone_row n because a p k in
      let same = one_row (λ g. g.part) i.gone x.0 y.0 a p (sym (each_two-map share_nothing (λ g. g.part) i.gone) ∙ t.gone.apart) x.1 y.1 x.4 y.4 in
      (sym x.3 ∙ ap (λ g. g.part.edit) same ∙ y.3, sym x.2 ∙ ap reason_of same ∙ y.2)

  gone_entered : (n a : ℕ) (why : Reason) (p : Place) → takes i n why a p ≡ true → (m : ℕ) × (enters i m a p ≡ true)
  gone_entered n a why p h =
      let g = has_gone i.gone n why a p h in
      entered_by i.entered a p ((by_part (parts_of i.gone) a p t.gone g).gone_entered g)

  held_entered : (a : ℕ) (p : Place) → holds i a p ≡ true → (m : ℕ) × (enters i m a p ≡ true)
  held_entered a p h = entered_by i.entered a p ((by_held a p h).held_entered h)

  held_or_gone : (m a : ℕ) (p : Place) → enters i m a p ≡ true → (holds i a p ≡ true) ⊎ ((n : ℕ) × (why : Reason) × (takes i n why a p ≡ true))
  held_or_gone m a p h =
      let e = has_entered i.entered m a p h in
      either ((by_part i.entered a p t.entered e).held_or_gone e)
    where
      either : (holds i a p ≡ true) ⊎ (has_asset_place (parts_of i.gone) a p ≡ true) → (holds i a p ≡ true) ⊎ ((n : ℕ) × (why : Reason) × (takes i n why a p ≡ true))
      either (inl k) = inl k
      either (inr k) = inr (gone_by i.gone a p k)

  held_not_gone : (n a : ℕ) (why : Reason) (p : Place) → holds i a p ≡ true → takes i n why a p ≡ true → ⊥
  held_not_gone n a why p h k = (by_held a p h).held_not_gone h (has_gone i.gone n why a p k)

  balanced : IsBalanced (state_of i)
  unfolding state_of
  balanced = record {
    entered_once = entered_once;
    gone_once = gone_once;
    gone_entered = gone_entered;
    held_entered = held_entered;
    held_or_gone = held_or_gone;
    held_not_gone = held_not_gone;
  }

  -- what is held is held by the rows of spans
  in_spans : (n a : ℕ) (p : Place) → n ≡ a → holds i a p ≡ true → holds_in (spans_of i) n p ≡ true
  in_spans n a p e h =
      ap (λ k. holds_in (spans_of i) k p) e ∙ list_any-map (λ s. holds_by_spans s.course s.rows a p) (λ e. record { course = e.route.course; rows = e.spans }) i.routes ∙ h

  -- the row of a known asset, and of a known class
  asset_row : (a : ℕ) (x : state.Asset) → find nat_cmp a (map asset_entry i.assets) ≡ Some x → (r : Asset) × In r i.assets × (r.number ≡ a) × (r.class ≡ x.class) × (r.entered_by ≡ x.entered_by)
  asset_row a x h =
      let found = map_found asset_entry (a, x) i.assets (find_found exact_unsigned a x (map asset_entry i.assets) h) in
      (found.0, found.1, sym (ap (λ e. e.0) found.2), sym (ap (λ e. e.1.class) found.2), sym (ap (λ e. e.1.entered_by) found.2))

  class_row : (name : Name) (k : Kind) → find name_cmp name (map (λ c. (c.name, c.kind)) i.classes) ≡ Some k → (c : Class) × In c i.classes × (c.name ≡ name) × (c.kind ≡ k)
  class_row name k h =
      let found = map_found (λ (c : Class). (c.name, c.kind)) (name, k) i.classes (find_found exact_bytes name k (map (λ c. (c.name, c.kind)) i.classes) h) in
      (found.0, found.1, sym (ap (λ e. e.0) found.2), sym (ap (λ e. e.1) found.2))

  -- at most one asset of an exclusive class holds a place
  one_holder : (c : Class) (p : Place) → In c i.classes → c.kind ≡ Exclusive → In p (places_of i.links) → holders_of i.assets (spans_of i) c.name p ≤ 1
  one_holder c p m e n = by (or_cases (not (is_exclusive c.kind)) (list_all (λ q. nat_le (holders_of i.assets (spans_of i) c.name q) 1) (places_of i.links)) (all_at (keeps_exclusive i.links i.assets (spans_of i)) c i.classes t.exclusive m))
    where
      by : (not (is_exclusive c.kind) ≡ true) ⊎ (list_all (λ q. nat_le (holders_of i.assets (spans_of i) c.name q) 1) (places_of i.links) ≡ true) → holders_of i.assets (spans_of i) c.name p ≤ 1
      by (inl other) = absurd (both_ways (is_exclusive c.kind) (not-true _ other) (ap is_exclusive e))
      by (inr all) = leb-true _ 1 (all_at (λ q. nat_le (holders_of i.assets (spans_of i) c.name q) 1) p (places_of i.links) all n)

  exclusive : IsExclusive (state_of i)
  unfolding state_of
  exclusive a b x y p ha hb same hc h k =
      let r = asset_row a x ha in
      let q = asset_row b y hb in
      let c = class_row x.class Exclusive hc in
      let holder : Asset → Bool = λ z. same_name z.class c.0.name && holds_in (spans_of i) z.number p in
      let one = one_at holder r.0 q.0 i.assets (one_holder c.0 p c.1 c.3 (held_by a p h).1) r.1 q.1
      (and_from _ _ ((bytes_decides _ _).1 (r.3 ∙ sym c.2)) (in_spans r.0.number a p r.2 h))
      (and_from _ _ ((bytes_decides _ _).1 (q.3 ∙ sym same ∙ sym c.2)) (in_spans q.0.number b p q.2 k)) in
      sym r.2 ∙ ap (λ z. z.number) one ∙ q.2

  -- an edit that a row names was done
  named_edit : (x : Part) (m : ℕ) → x.edit ≡ m → is_named_by i.edits x ≡ true → (1 ≤ m) × (m ≤ length i.edits)
  named_edit x m e h =
      let both = and_parts (nat_le 1 x.edit) (nat_le x.edit (length i.edits)) h in
      let low = leb-true _ _ both.0 in
      let high = leb-true _ _ both.1 in
      (omega arith, omega arith)

  -- whether a part is of the asset, and by the edit that entered it
  abbrev is_of : Asset → Part → Bool
  is_of r part = nat_eq part.asset r.number

  abbrev is_by : Asset → Part → Bool
  is_by r part = not (nat_eq part.asset r.number) || nat_eq part.edit r.entered_by

  -- an asset was entered, and by one edit
  pub origin_of : (r : Asset) → In r i.assets → (list_any (is_of r) i.entered ≡ true) × (list_all (is_by r) i.entered ≡ true)
  origin_of r m = and_parts _ _ (all_at (is_origin i.entered) r i.assets t.origins m)

  pub entered_by_entry : (r : Asset) (x : Part) → In r i.assets → In x i.entered → x.asset ≡ r.number → x.edit ≡ r.entered_by
  entered_by_entry r x m n e = by (or_cases _ _ (all_at (is_by r) x i.entered (origin_of r m).1 n))
    where
      by : (not (nat_eq x.asset r.number) ≡ true) ⊎ (nat_eq x.edit r.entered_by ≡ true) → x.edit ≡ r.entered_by
      by (inl other) = absurd (both_ways (nat_eq x.asset r.number) (not-true _ other) (eq-eqb _ _ e))
      by (inr same) = eqb-true _ _ same

  -- a part has its own first place
  first_place : (x : Part) → is_part i.links i.assets x ≡ true → (p : Place) × (has_pair x x.edit x.asset p ≡ true)
  first_place x h =
      let some = ltb-true _ _ (and_parts _ _ (and_parts _ _ h).0).0 in (
        record { link = x.link; mm = x.from; side = x.side },
        and_from _ _ (and_from _ _ (eq-eqb x.edit x.edit refl) (eq-eqb x.asset x.asset refl))
            (and_from _ _ (and_from _ _ (and_from _ _ (eq-eqb x.link x.link refl) (le-leb x.from x.from (omega arith))) (lt-ltb x.from x.to some)) (is_same_side x.side x.side refl)),
      )

  was_entered : (a : ℕ) (x : state.Asset) → find nat_cmp a (map asset_entry i.assets) ≡ Some x → (p : Place) × (enters i x.entered_by a p ≡ true)
  was_entered a x h =
      let r = asset_row a x h in
      let part = any_found (is_of r.0) i.entered (origin_of r.0 r.1).0 in
      let same : part.0.asset ≡ r.0.number = eqb-true _ _ part.2 in
      let edit : part.0.edit ≡ x.entered_by = entered_by_entry r.0 part.0 r.1 part.1 same ∙ r.4 in
      let place = first_place part.0 (all_at (is_part i.links i.assets) part.0 i.entered t.entered.inside part.1) in (
        place.0,
        any_of (λ q. has_pair q x.entered_by a place.0) part.0 i.entered part.1
            (subst (λ m. has_pair part.0 m a place.0 ≡ true) edit (subst (λ b. has_pair part.0 part.0.edit b place.0 ≡ true) (same ∙ r.2) place.1)),
      )

  named : IsNamed (state_of i)
  unfolding state_of
  named = record {
    asset_known = λ m a p h.
        let r = entered_row m a p h in
        let x = part_asset i.links i.assets r.0 (all_at (is_part i.links i.assets) r.0 i.entered t.entered.inside r.1) in
        subst (λ k. is_some (find nat_cmp k (map asset_entry i.assets)) ≡ true) (x.2 ∙ r.3.of_asset) (find_known nat_cmp_total x.0.number _ (map asset_entry i.assets) (In-map asset_entry x.0 i.assets x.1));
    entered_done = λ m a p h.
        let r = entered_row m a p h in
        let d = named_edit r.0 m r.2 (all_at (is_named_by i.edits) r.0 i.entered t.entered_named r.1) in
        (d.0, omega (arith, d.1, length-map i.edits done));
    gone_done = λ m a why p h.
        let r = gone_row m why a p h in
        let d = named_edit r.0.part m r.3 (all_at (is_named_by i.edits) r.0.part (parts_of i.gone) t.gone_named (In-map (λ g. g.part) r.0 i.gone r.1)) in
        (d.0, omega (arith, d.1, length-map i.edits done));
    class_known = λ a x h.
        let r = asset_row a x h in
        let test = and_parts (is_asset_number r.0.number && is_lateral_offset r.0.lateral) (list_any (λ c. same_name c.name r.0.class) i.classes) (all_at (is_asset i.classes) r.0 i.assets t.assets r.1) in
        let c = any_found (λ c. same_name c.name r.0.class) i.classes test.1 in
        subst (λ k. is_some (find name_cmp k (map (λ c. (c.name, c.kind)) i.classes)) ≡ true) ((bytes_decides _ _).0 c.2 ∙ r.3)
        (find_known nat_list_cmp_total c.0.name c.0.kind (map (λ c. (c.name, c.kind)) i.classes) (In-map (λ (c : Class). (c.name, c.kind)) c.0 i.classes c.1));
    by_entry = λ m a x p got h.
        let r = asset_row a x got in
        let part = entered_row m a p h in
        sym part.2 ∙ entered_by_entry r.0 part.0 r.1 part.1 (part.3.of_asset ∙ sym r.2) ∙ r.4;
    was_entered = was_entered;
  }

  -- a link's row is found by its number
  link_found : (l : Link) → In l i.links → find nat_cmp l.number (map link_entry i.links) ≡ Some l.length
  link_found l m = find_numbered (λ (l : Link). l.number) (λ (l : Link). l.length) l i.links t.link_order m

  -- ground of a link's row is known
  known_ground : (link mm : ℕ) → list_any (λ l. nat_eq l.number link && nat_lt mm l.length) i.links ≡ true → nat_lt mm (unwrap_or (find nat_cmp link (map link_entry i.links)) 0) ≡ true
  known_ground link mm h =
      let l = any_found (λ l. nat_eq l.number link && nat_lt mm l.length) i.links h in
      let fits = and_parts (nat_eq l.0.number link) (nat_lt mm l.0.length) l.2 in
      subst (λ n. nat_lt mm (unwrap_or (find nat_cmp n (map link_entry i.links)) 0) ≡ true) (eqb-true l.0.number link fits.0) (ap (λ o. nat_lt mm (unwrap_or o 0)) (link_found l.0 l.1) ∙ fits.1)

  on_known_links : list_all (λ (route : Name × Alignment). list_all (λ g. nat_lt g.mm (unwrap_or (find nat_cmp g.link (map link_entry i.links)) 0)) route.1.course) (map route_entry i.routes) ≡ true
  on_known_links = all_of _ (map route_entry i.routes) (λ route m.
      let e = map_found route_entry route i.routes m in
      let course = all_at (is_course i.links) _ (courses_of i) t.courses (In-map (λ e. record { route = e.route.name; entries = e.route.course }) e.0 i.routes e.1) in
      let on_links = (and_three (is_route_course e.0.route.course) (list_all (is_on_a_link i.links) e.0.route.course) (each_two differs e.0.route.course) course).1 in
      subst (λ (r : Name × Alignment). list_all (λ g. nat_lt g.mm (unwrap_or (find nat_cmp g.link (map link_entry i.links)) 0)) r.1.course ≡ true) (sym e.2)
      (all_of _ e.0.route.course (λ g k. known_ground g.link g.mm (all_at (is_on_a_link i.links) g e.0.route.course on_links k))))

  -- each place of an entered part is within its link
  place_known : (m a : ℕ) (p : Place) → enters i m a p ≡ true → nat_lt p.mm (unwrap_or (find nat_cmp p.link (map link_entry i.links)) 0) ≡ true
  place_known m a p h =
      let r = entered_row m a p h in
      let x = r.0 in
      let within = (and_parts (nat_lt x.from x.to) (list_any (λ l. nat_eq l.number x.link && nat_le x.to l.length) i.links) (and_parts _ _ (all_at (is_part i.links i.assets) x i.entered t.entered.inside r.1)).0).1 in
      let l = any_found (λ l. nat_eq l.number x.link && nat_le x.to l.length) i.links within in
      let fits = and_parts (nat_eq l.0.number x.link) (nat_le x.to l.0.length) l.2 in
      let high = leb-true x.to l.0.length fits.1 in
      let below = r.3.high in
      known_ground p.link p.mm (any_of (λ l. nat_eq l.number p.link && nat_lt p.mm l.length) l.0 i.links l.1
      (and_from (nat_eq l.0.number p.link) (nat_lt p.mm l.0.length) (eq-eqb l.0.number p.link (eqb-true l.0.number x.link fits.0 ∙ r.3.on_link)) (lt-ltb p.mm l.0.length (omega (arith, high, below)))))

  grounded : IsGrounded (state_of i)
  unfolding state_of
  grounded = record {
    courses = on_known_links;
    places = place_known;
    links = each_two-map (λ (x y : ℕ × ℕ). nat_lt x.0 y.0) link_entry i.links ∙ t.link_order;
    assets = each_two-map (λ (x y : ℕ × state.Asset). nat_lt x.0 y.0) asset_entry i.assets ∙ t.asset_order;
  }

pub sound_is_lawful : SoundIsLawful
sound_is_lawful i h = let t = tested i h in record { balanced = balanced i t; exclusive = exclusive i t; named = named i t; grounded = grounded i t }
