-- Assets and routes that a binary search finds, and what rows say of them.
use Rattle.std.proofs.Common.{◌≡◌, ℕ, ◌<◌, Bool, true, false, cond, not, ◌⊎◌, inl, inr, List, [], ◌∷◌, length, get_or, Option, Some, None, Result, Ok, Err, refl, sym, ap, ◌∙◌}
use Rattle.std.specs.Prelude.{◌&&◌, ◌||◌, nat_eq}
use Rattle.std.specs.List.{list_any, list_all}
use Rattle.std.specs.List.Sorted.{IsBinarySearchResult, IsSearchInRange}
use Rattle.std.specs.Option.{option_map_or}
use Rattle.std.specs.declared.cmp.Ordering.TheVariants.{Equal}
use Rattle.std.specs.Ordering.{is_eq}
use Rattle.std.specs.Cmp.{Equal-is}
use Rattle.std.specs.Cmp.Lexicographic.{nat_list_cmp_total, bytes_decides, texts_ties}
use Rattle.std.proofs.lemmas.Bool.{false≢true, both_ways, and_parts, and_from, or_left, or_right, cases_Bool, eqb-true, false_from_ne_true}
use Rattle.lrs_measure.specs.Lists.{each_two}
use Rattle.lrs_measure.specs.Texts.{Name, name_cmp, same_name}
use Rattle.lrs_measure.proofs.Members.{any_found, any_of, all_at, all_of}
use Rattle.lrs_measure.proofs.Places.{place_in, member_at}
use Rattle.lrs_position.specs.declared.route.Route.{Route}
use Rattle.lrs_events.specs.declared.class.Asset.{Asset}
use Rattle.lrs_events.specs.declared.side.Side.{Side}
use Rattle.lrs_events.specs.declared.span.Span.{Span}
use Rattle.lrs_image_sound.proofs.Keyed.{found}
use Rattle.lrs_store_tables.specs.Contents.Tables.{SpanRow}
use Rattle.lrs_store_tables.specs.Contents.Decoders.{each_of, only_if, OfRoute, whole, side_numbered, class_of_asset, span_of}
use Rattle.lrs_store_tables.specs.Contents.Decoders as option
use Rattle.lrs_store_tables.specs.Contents.Content.{each_of_known}
use Rattle.lrs_store_image.proofs.DecodedRoutes.Reading.{each_of-passing}
use Rattle.lrs_store_image.specs.DecodedRoutes.Spans.{named_before, is_one_of, known_span, agree, agree_said}

some_alike : {A : Type 0} {a b : A} → ◌≡◌ {A = Option A} (Some a) (Some b) → a ≡ b
some_alike e = cc

same_itself : (a : Name) → same_name a a ≡ true
same_itself a = (bytes_decides a a).1 refl

-- ---- the class of an asset

class_some : (assets : List Asset) (n : ℕ) (c : Name) → class_of_asset assets n ≡ Some c → list_any (λ a. nat_eq a.number n && same_name a.class c) assets ≡ true
class_some [] n c h = absurd (cc h)
class_some (a ∷ rest) n c h = by (nat_eq a.number n) refl h (class_some rest n c)
  where
    by : (b : Bool) → nat_eq a.number n ≡ b → cond b (Some a.class) (class_of_asset rest n) ≡ Some c → (class_of_asset rest n ≡ Some c → list_any (λ a. nat_eq a.number n && same_name a.class c) rest ≡ true)
        → ((nat_eq a.number n && same_name a.class c) || list_any (λ a. nat_eq a.number n && same_name a.class c) rest) ≡ true
    by true e k more =
        or_left (nat_eq a.number n && same_name a.class c) (list_any (λ a. nat_eq a.number n && same_name a.class c) rest)
        (and_from (nat_eq a.number n) (same_name a.class c) e ((bytes_decides a.class c).1 (some_alike k)))
    by false e k more = or_right (nat_eq a.number n && same_name a.class c) (list_any (λ a. nat_eq a.number n && same_name a.class c) rest) (more k)

class_none : (assets : List Asset) (n : ℕ) → class_of_asset assets n ≡ None → list_any (λ a. nat_eq a.number n && true) assets ≡ false
class_none [] n h = refl
class_none (a ∷ rest) n h = by (nat_eq a.number n) h (class_none rest n)
  where
    by : (b : Bool) → cond b (Some a.class) (class_of_asset rest n) ≡ None → (class_of_asset rest n ≡ None → list_any (λ a. nat_eq a.number n && true) rest ≡ false) → ((b && true) || list_any (λ a. nat_eq a.number n && true) rest) ≡ false
    by true k more = absurd (cc k)
    by false k more = more k

module _ (assets : List Asset) (n : ℕ) where
  abbrev Finds : (Asset → Bool) → Bool → Type 0
  Finds test b = list_any (λ a. nat_eq a.number n && test a) assets ≡ b

  pub class_found : (x : Asset) → ((test : Asset → Bool) → Finds test (test x)) → Some x.class ≡ class_of_asset assets n
  class_found x h = by (class_of_asset assets n) refl
    where
      by : (o : Option Name) → class_of_asset assets n ≡ o → Some x.class ≡ o
      by None e = absurd (both_ways (list_any (λ a. nat_eq a.number n && true) assets) (class_none assets n e) (h (λ a. true)))
      by (Some c) e = ap Some ((bytes_decides x.class c).0 (sym (h (λ a. same_name a.class c)) ∙ class_some assets n c e))

  pub class_missing : ((test : Asset → Bool) → Finds test false) → None ≡ class_of_asset assets n
  class_missing h = by (class_of_asset assets n) refl
    where
      by : (o : Option Name) → class_of_asset assets n ≡ o → None ≡ o
      by None e = refl
      by (Some c) e = absurd (both_ways (list_any (λ a. nat_eq a.number n && same_name a.class c) assets) (h (λ a. same_name a.class c)) (class_some assets n c e))

-- ---- a route of a name

only : (a b : Name) (c : Bool) → c ≡ true → a ≡ b → Some a ≡ only_if c b
only a b true h e = ap Some e
only a b false h e = absurd (false≢true h)

none : (b : Name) (c : Bool) → c ≡ false → None ≡ only_if c b
none b true h = absurd (false≢true (sym h))
none b false h = refl

module _ (routes : List Route) (n : Name) where
  abbrev Search : Result ℕ ℕ → Type 0
  Search r = IsBinarySearchResult (λ y. name_cmp y.name n) routes r

  pub route_found : (at : ℕ) (x : Route) → at < length routes → x ≡ get_or routes at x → Search (Ok at) → Some x.name ≡ only_if (is_one_of routes n) n
  route_found at x within here is =
      let tie : same_name x.name n ≡ true = texts_ties x.name n ∙ ap is_eq (ap (λ (z : Route). name_cmp z.name n) here ∙ is x) in
      only x.name n (is_one_of routes n)
      (any_of (λ route. same_name route.name n) (get_or routes at x) routes (member_at routes at x within) (ap (λ (z : Route). same_name z.name n) (sym here) ∙ tie))
      ((bytes_decides x.name n).0 tie)

  pub route_missing : (i : ℕ) → each_two named_before routes ≡ true → IsSearchInRange (let r : Result ℕ ℕ = Err i in r) (length routes) → Search (Err i) → None ≡ only_if (is_one_of routes n) n
  route_missing i order within is = none n (is_one_of routes n) (false_from_ne_true (is_one_of routes n) (λ h.
      let f = any_found (λ route. same_name route.name n) routes h in
      let c = f.0 in
      let place = place_in c routes f.1 in
      let tie : name_cmp c.name n ≡ Equal = (Equal-is (name_cmp c.name n)).0 (sym (texts_ties c.name n) ∙ f.2) in
      found nat_list_cmp_total (λ (r : Route). r.name) routes n (Err i) order within is place.0 c place.1 (ap (λ (z : Route). name_cmp z.name n) (place.2 c) ∙ tie)))

-- ---- what rows say of an asset

module _ (assets : List Asset) where
  -- the span is of the class of its asset
  abbrev is_classed : Span → Bool
  is_classed s = option_map_or (same_name s.class) (class_of_asset assets s.asset) false

  classed_agree : (r s : Span) → is_classed r ≡ true → is_classed s ≡ true → agree r s ≡ true
  classed_agree r s h k = by (cases_Bool (nat_eq r.asset s.asset))
    where
      same : (o : Option Name) → option_map_or (same_name r.class) o false ≡ true → option_map_or (same_name s.class) o false ≡ true → same_name r.class s.class ≡ true
      same None h k = absurd (false≢true h)
      same (Some c) h k = (bytes_decides r.class s.class).1 ((bytes_decides r.class c).0 h ∙ sym ((bytes_decides s.class c).0 k))

      by : (nat_eq r.asset s.asset ≡ true) ⊎ (nat_eq r.asset s.asset ≡ false) → agree r s ≡ true
      by (inl e) =
          or_right (not (nat_eq r.asset s.asset)) (same_name r.class s.class)
          (same (class_of_asset assets r.asset) h (ap (λ n. option_map_or (same_name s.class) (class_of_asset assets n) false) (eqb-true r.asset s.asset e) ∙ k))
      by (inr e) = or_left (not (nat_eq r.asset s.asset)) (same_name r.class s.class) (ap not e)

  all_agree : (xs : List (OfRoute Span)) → list_all (λ s. is_classed s.said) xs ≡ true → each_two agree_said xs ≡ true
  all_agree [] h = refl
  all_agree (x ∷ xs) h =
      let both = and_parts (is_classed x.said) (list_all (λ s. is_classed s.said) xs) h in
      and_from (list_all (agree_said x) xs) (each_two agree_said xs)
      (all_of (agree_said x) xs (λ y m. classed_agree x.said y.said both.0 (all_at (λ s. is_classed s.said) y xs both.1 m))) (all_agree xs both.1)

  -- what a row says is classed
  says : (row : SpanRow) (s : OfRoute Span) → span_of assets row ≡ Some s → is_classed s.said ≡ true
  says row s h = asset (whole row.asset) h
    where
      made : (n : ℕ) (c : Name) (f t : Option ℕ) (d : Option ℕ) → class_of_asset assets n ≡ Some c
          → option.◌>>=◌ f (λ from. option.◌>>=◌ t (λ to. option.◌>>=◌ (option.◌>>=◌ d side_numbered) (λ side. Some (record { route = row.route; said = record { asset = n; class = c; from = from; to = to; side = side } })))) ≡ Some s → is_classed s.said ≡ true
      made n c None t d e k = absurd (cc k)
      made n c (Some from) None d e k = absurd (cc k)
      made n c (Some from) (Some to) d e k = by (option.◌>>=◌ d side_numbered) k
        where
          by : (o : Option Side) → option.◌>>=◌ o (λ side. Some (record { route = row.route; said = record { asset = n; class = c; from = from; to = to; side = side } })) ≡ Some s → is_classed s.said ≡ true
          by None k = absurd (cc k)
          by (Some side) k =
              ap (λ (z : OfRoute Span). is_classed z.said) (sym (some_alike k)) ∙ ap (λ o. option_map_or (same_name c) o false) e ∙ same_itself c

      class : (n : ℕ) (o : Option Name) → class_of_asset assets n ≡ o
          → option.◌>>=◌ o (λ class. option.◌>>=◌ (whole row.lo) (λ from. option.◌>>=◌ (whole row.hi) (λ to. option.◌>>=◌ (option.◌>>=◌ (whole row.side) side_numbered) (λ side. Some (record { route = row.route; said = record { asset = n; class = class; from = from; to = to; side = side } }))))) ≡ Some s → is_classed s.said ≡ true
      class n None e k = absurd (cc k)
      class n (Some c) e k = made n c (whole row.lo) (whole row.hi) (whole row.side) e k

      asset : (o : Option ℕ) → option.◌>>=◌ o (λ asset. option.◌>>=◌ (class_of_asset assets asset) (λ class. option.◌>>=◌ (whole row.lo) (λ from. option.◌>>=◌ (whole row.hi) (λ to. option.◌>>=◌ (option.◌>>=◌ (whole row.side) side_numbered) (λ side. Some (record { route = row.route; said = record { asset = asset; class = class; from = from; to = to; side = side } })))))) ≡ Some s → is_classed s.said ≡ true
      asset None k = absurd (cc k)
      asset (Some n) k = class n (class_of_asset assets n) refl k

  all_say : (rows : List SpanRow) (xs : List (OfRoute Span)) → each_of (span_of assets) rows ≡ Some xs → list_all (λ s. is_classed s.said) xs ≡ true
  all_say [] xs h = ap (list_all (λ (s : OfRoute Span). is_classed s.said)) (sym (some_alike h))
  all_say (row ∷ rows) xs h = by (span_of assets row) (each_of (span_of assets) rows) (says row) (all_say rows) h
    where
      by : (o : Option (OfRoute Span)) (m : Option (List (OfRoute Span))) → ((s : OfRoute Span) → o ≡ Some s → is_classed s.said ≡ true) → ((ys : List (OfRoute Span)) → m ≡ Some ys → list_all (λ s. is_classed s.said) ys ≡ true)
          → option.◌>>=◌ o (λ x. option.◌>>=◌ m (λ ys. Some (x ∷ ys))) ≡ Some xs → list_all (λ s. is_classed s.said) xs ≡ true
      by None m f g k = absurd (cc k)
      by (Some x) None f g k = absurd (cc k)
      by (Some x) (Some ys) f g k =
          ap (list_all (λ (s : OfRoute Span). is_classed s.said)) (sym (some_alike k)) ∙ and_from (is_classed x.said) (list_all (λ s. is_classed s.said) ys) (f x refl) (g ys refl)

  pub known_agree : (routes : List Route) (rows : List SpanRow) (xs : List (OfRoute Span)) → each_of_known (span_of assets) (is_one_of routes) rows ≡ Some xs → each_two agree_said xs ≡ true
  known_agree routes rows xs h = by (each_of (span_of assets) rows) refl h
    where
      kept : (b : Bool) (ys : List (OfRoute Span)) → ◌≡◌ {A = Option (List (OfRoute Span))} (only_if b ys) (Some xs) → ys ≡ xs
      kept true ys k = some_alike k
      kept false ys k = absurd (cc k)

      by : (o : Option (List (OfRoute Span))) → each_of (span_of assets) rows ≡ o → option.◌>>=◌ o (λ said. only_if (list_all (λ r. is_one_of routes r.route) said) said) ≡ Some xs → each_two agree_said xs ≡ true
      by None e k = absurd (cc k)
      by (Some ys) e k = all_agree xs (all_say rows xs (e ∙ ap Some (kept (list_all (λ r. is_one_of routes r.route) ys) ys k)))

  pub each_known : (routes : List Route) (rows : List SpanRow) → each_of (known_span assets routes) rows ≡ each_of_known (span_of assets) (is_one_of routes) rows
  each_known routes rows = each_of-passing (span_of assets) (λ (r : OfRoute Span). is_one_of routes r.route) rows
