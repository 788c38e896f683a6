-- No place has two holders of an exclusive class exactly where the parts keyed by their classes share nothing.
use Rattle.std.proofs.Common.{◌≡◌, ◌↔◌, ℕ, zero, suc, ◌+◌, ◌<◌, ◌≤◌, Bool, true, false, cond, ◌⊎◌, inl, inr, List, [], ◌∷◌, ◌++◌, take, length, get_or, Option, Some, None, slice_get, refl, sym, ap, subst, ◌∙◌, arith}
use Rattle.std.specs.Prelude.{◌&&◌, not, nat_le, nat_eq}
use Rattle.std.specs.List.{AllByRecursion, list_any, list_all, count_by}
use Rattle.std.proofs.lemmas.List.{take_more}
use Rattle.std.proofs.lemmas.Bool.{false≢true, and_parts, and_from, or_left, or_right, or_cases, both_ways, not-true, cases_Bool, ltb-true, leb-true, le-leb, eqb-true, eq-eqb}
use Rattle.lrs_measure.specs.Lists.{In, each_two}
use Rattle.lrs_measure.specs.Texts.{Name, same_name}
use Rattle.lrs_measure.proofs.Members.{any_found, any_of, all_at, all_of}
use Rattle.lrs_measure.proofs.Counts.{one_at, count_append, count_cons, count_yes, count_no, none_counted, at_most_one}
use Rattle.lrs_element.specs.declared.link.Link.{Link}
use Rattle.lrs_events.specs.declared.class.Class.{Class}
use Rattle.lrs_events.specs.declared.class.Asset.{Asset}
use Rattle.lrs_events.specs.declared.part.Part.{Part}
use Rattle.lrs_events.specs.Places.{Place}
use Rattle.lrs_events.specs.Parts.{has_place}
use Rattle.lrs_machine.specs.Segments.{is_exclusive}
use Rattle.lrs_machine.specs.Sound.{RouteSpans, holds_in, has_asset_place, is_part, share_nothing, asset_before, keeps_exclusive, holders_of, places_of}
use Rattle.lrs_machine.proofs.Pairs.{place_had, part_on}
use Rattle.lrs_image_sound.specs.SweptParts.{IsFilled}
use Rattle.lrs_events.specs.Parts.{has_for, times_had, IsHadOnce}
use Rattle.lrs_image_sound.specs.Balance.{AreHeld}
use Rattle.lrs_image_sound.specs.Exclusive.{excludes, is_of_exclusive, AreKeyed, ExclusiveIsApart}
use Rattle.lrs_image_sound.proofs.Had.{once_from_apart, apart_from_once}

-- ---- lists

module _ {X : Type 0} where
  count_weaker : (p q : X → Bool) (xs : List X) → ((x : X) → In x xs → p x ≡ true → q x ≡ true) → count_by p xs ≤ count_by q xs
  count_weaker p q [] w = omega arith
  count_weaker p q (x ∷ xs) w = by (cases_Bool (p x)) (count_weaker p q xs (λ y m. w y (inr m)))
    where
      by : (p x ≡ true) ⊎ (p x ≡ false) → count_by p xs ≤ count_by q xs → count_by p (x ∷ xs) ≤ count_by q (x ∷ xs)
      by (inl h) rest = let a = count_yes p x xs h in let b = count_yes q x xs (w x (inl refl) h) in omega (arith, a, b, rest)
      by (inr h) rest = let a = count_no p x xs h in let b = count_cons q x xs in omega (arith, a, b, rest)

  In-slice_get : (xs : List X) (k : ℕ) (x : X) → slice_get xs k ≡ Some x → In x xs
  In-slice_get [] k x h = absurd cc
  In-slice_get (y ∷ ys) zero x h = let same : y ≡ x = cc in inl (sym same)
  In-slice_get (y ∷ ys) (suc k) x h = inr (In-slice_get ys k x h)

  place_of_member : (x : X) (xs : List X) → In x xs → (k : ℕ) × (slice_get xs k ≡ Some x)
  place_of_member x [] m = absurd m
  place_of_member x (y ∷ ys) (inl e) = (zero, ap (λ z. Some z) (sym e))
  place_of_member x (y ∷ ys) (inr m) = let later = place_of_member x ys m in (suc later.0, later.1)

-- ---- classes

abbrev is_named : Name → ℕ → Asset → Bool
is_named class n a = nat_eq a.number n && same_name a.class class

of_some : (assets : List Asset) (o : Option Class) (n : ℕ) → excludes assets o n ≡ true → (c : Class) × (o ≡ Some c) × (is_exclusive c.kind ≡ true) × (list_any (is_named c.name n) assets ≡ true)
of_some assets None n h = absurd (false≢true h)
of_some assets (Some c) n h = let both = and_parts (is_exclusive c.kind) (list_any (is_named c.name n) assets) h in (c, refl, both.0, both.1)

module _ (links : List Link) (classes : List Class) (assets : List Asset) (routes : List RouteSpans) (held keyed : List Part)
    (order : each_two asset_before assets ≡ true) (h : AreHeld links assets routes held) (key : AreKeyed assets classes held keyed) where
  abbrev picks : ℕ → Place → Part → Bool
  picks k p x = is_of_exclusive assets classes k x.asset && has_place x p

  abbrev is_holder : Name → Place → Asset → Bool
  is_holder class p a = same_name a.class class && holds_in routes a.number p

  -- the asset of a part that is picked holds the place
  holder : (c : Class) (k : ℕ) (p : Place) → slice_get classes k ≡ Some c → (y : Part) → In y held → picks k p y ≡ true → (b : Asset) × In b assets × (is_holder c.name p b ≡ true) × (b.number ≡ y.asset)
  holder c k p at y m t =
      let both = and_parts (is_of_exclusive assets classes k y.asset) (has_place y p) t in
      let of_class : excludes assets (Some c) y.asset ≡ true = subst (λ o. excludes assets o y.asset ≡ true) at both.0 in
      let found = any_found (is_named c.name y.asset) assets (and_parts (is_exclusive c.kind) (list_any (is_named c.name y.asset) assets) of_class).1 in
      let b = found.0 in
      let named = and_parts (nat_eq b.number y.asset) (same_name b.class c.name) found.2 in
      let number : b.number ≡ y.asset = eqb-true b.number y.asset named.0 in
      let has : has_asset_place held b.number p ≡ true = any_of (has_for b.number p) y held m (and_from (nat_eq y.asset b.number) (has_place y p) (eq-eqb y.asset b.number (sym number)) both.1) in
      (b, found.1, and_from (same_name b.class c.name) (holds_in routes b.number p) named.1 (h.shows b.number p ∙ has), number)

  -- each place of a class is picked once
  once : list_all (keeps_exclusive links assets routes) classes ≡ true → IsHadOnce keyed
  once all k p = by (cases_Bool (list_any (picks k p) held))
    where
      counted : times_had k p keyed ≡ count_by (picks k p) held
      counted = key.counts k p

      by : (list_any (picks k p) held ≡ true) ⊎ (list_any (picks k p) held ≡ false) → times_had k p keyed ≤ 1
      by (inr none) = let c = none_counted (picks k p) held none in omega (arith, counted, c)
      by (inl some) =
          let found = any_found (picks k p) held some in
          let x = found.0 in
          let both = and_parts (is_of_exclusive assets classes k x.asset) (has_place x p) found.2 in
          let class = of_some assets (slice_get classes k) x.asset both.0 in
          let c = class.0 in
          let kept = all_at (keeps_exclusive links assets routes) c classes all (In-slice_get classes k c class.1) in
          let mine : has_for x.asset p x ≡ true = and_from (nat_eq x.asset x.asset) (has_place x p) (eq-eqb x.asset x.asset refl) both.1 in
          let on = part_on links assets x x.asset p (all_at (is_part links assets) x held h.inside found.1) (place_had x x.asset p mine) in
          let limit = all_at (λ q. nat_le (holders_of assets routes c.name q) 1) p (places_of links) (kept_all c kept class.2) on in
          let a = holder c k p class.1 x found.1 found.2 in
          let weaker = count_weaker (picks k p) (has_for x.asset p) held (λ y m t.
          let b = holder c k p class.1 y m t in
          let one : a.0 ≡ b.0 = one_at (is_holder c.name p) a.0 b.0 assets (leb-true (holders_of assets routes c.name p) 1 limit) a.1 b.1 a.2 b.2 in
          and_from (nat_eq y.asset x.asset) (has_place y p) (eq-eqb y.asset x.asset (sym b.3 ∙ ap (λ r. r.number) (sym one) ∙ a.3)) (and_parts (is_of_exclusive assets classes k y.asset) (has_place y p) t).1) in
          let least = h.once x.asset p in
          omega (arith, counted, weaker, least)
        where
          kept_all : (c : Class) → keeps_exclusive links assets routes c ≡ true → is_exclusive c.kind ≡ true → list_all (λ q. nat_le (holders_of assets routes c.name q) 1) (places_of links) ≡ true
          kept_all c kept e = or (or_cases (not (is_exclusive c.kind)) (list_all (λ q. nat_le (holders_of assets routes c.name q) 1) (places_of links)) kept)
            where
              or : (not (is_exclusive c.kind) ≡ true) ⊎ (list_all (λ q. nat_le (holders_of assets routes c.name q) 1) (places_of links) ≡ true) → list_all (λ q. nat_le (holders_of assets routes c.name q) 1) (places_of links) ≡ true
              or (inl n) = absurd (both_ways (is_exclusive c.kind) (not-true (is_exclusive c.kind) n) e)
              or (inr l) = l

  -- a holder's part is picked
  picked : (c : Class) (k : ℕ) (p : Place) → slice_get classes k ≡ Some c → is_exclusive c.kind ≡ true → (a : Asset) → In a assets → is_holder c.name p a ≡ true → (x : Part) × In x held × (picks k p x ≡ true) × (x.asset ≡ a.number)
  picked c k p at exclusive a m t =
      let both = and_parts (same_name a.class c.name) (holds_in routes a.number p) t in
      let found = any_found (has_for a.number p) held (sym (h.shows a.number p) ∙ both.1) in
      let x = found.0 in
      let has = and_parts (nat_eq x.asset a.number) (has_place x p) found.2 in
      let number : x.asset ≡ a.number = eqb-true x.asset a.number has.0 in
      let named : list_any (is_named c.name x.asset) assets ≡ true = any_of (is_named c.name x.asset) a assets m (and_from (nat_eq a.number x.asset) (same_name a.class c.name) (eq-eqb a.number x.asset (sym number)) both.0) in
      let of_class : excludes assets (Some c) x.asset ≡ true = and_from (is_exclusive c.kind) (list_any (is_named c.name x.asset) assets) exclusive named in
      (x, found.1, and_from (is_of_exclusive assets classes k x.asset) (has_place x p) (subst (λ o. excludes assets o x.asset ≡ true) (sym at) of_class) has.1, number)

  keeps : IsHadOnce keyed → (c : Class) → In c classes → keeps_exclusive links assets routes c ≡ true
  keeps had c m = by (cases_Bool (is_exclusive c.kind))
    where
      by : (is_exclusive c.kind ≡ true) ⊎ (is_exclusive c.kind ≡ false) → keeps_exclusive links assets routes c ≡ true
      by (inr f) = or_left (not (is_exclusive c.kind)) (list_all (λ p. nat_le (holders_of assets routes c.name p) 1) (places_of links)) (ap not f)
      by (inl e) =
          let place = place_of_member c classes m in
          let k = place.0 in
          or_right (not (is_exclusive c.kind)) (list_all (λ p. nat_le (holders_of assets routes c.name p) 1) (places_of links))
          (all_of (λ p. nat_le (holders_of assets routes c.name p) 1) (places_of links) (λ p n.
          le-leb (holders_of assets routes c.name p) 1 (at_most_one (is_holder c.name p) asset_before assets order (λ a b i j less s t.
          let x = picked c k p place.1 e a i s in
          let y = picked c k p place.1 e b j t in
          let limit = had k p in
          let counted = key.counts k p in
          let within : count_by (picks k p) held ≤ 1 = omega (arith, limit, counted) in
          let one : x.0 ≡ y.0 = one_at (picks k p) x.0 y.0 held within x.1 y.1 x.2 y.2 in
          let same : a.number ≡ b.number = sym x.3 ∙ ap (λ r. r.asset) one ∙ y.3 in
          let apart : a.number < b.number = ltb-true a.number b.number less in
          omega (arith, same, apart)))))

  pub exclusive_apart : (list_all (keeps_exclusive links assets routes) classes ≡ true) ↔ (each_two share_nothing keyed ≡ true)
  exclusive_apart = (λ all. apart_from_once keyed key.filled (once all), λ apart. all_of (keeps_exclusive links assets routes) classes (keeps (once_from_apart keyed apart)))

pub exclusive_is_apart : ExclusiveIsApart
exclusive_is_apart = exclusive_apart

-- ---- one part more

module _ (assets : List Asset) (classes : List Class) where
  pub keyed_none : AreKeyed assets classes [] []
  keyed_none = record { filled = tt; counts = λ k p. refl }

  filled_more : (xs : List Part) (x : Part) → AllByRecursion IsFilled xs → IsFilled x → AllByRecursion IsFilled (xs ++ x ∷ [])
  filled_more [] x h f = (f, tt)
  filled_more (y ∷ ys) x h f = (h.0, filled_more ys x h.1 f)

  pub keyed_yes : (held keyed : List Part) (x : Part) (at : ℕ) → AreKeyed assets classes held keyed → IsFilled x → ((k : ℕ) → is_of_exclusive assets classes k x.asset ≡ nat_eq at k)
      → AreKeyed assets classes (held ++ x ∷ []) (keyed ++ (let y : Part = record x { asset = at } in y) ∷ [])
  keyed_yes held keyed x at key full is =
      let y : Part = record x { asset = at } in
      record {
        filled = filled_more keyed y key.filled full;
        counts = λ k p.
            let mine : Part → Bool = λ z. is_of_exclusive assets classes k z.asset && has_place z p in
            let a = count_append (has_for k p) keyed (y ∷ []) in
            let b = count_append mine held (x ∷ []) in
            let c = key.counts k p in
            let d = count_cons (has_for k p) y [] in
            let e = count_cons mine x [] ∙ ap (λ t. cond (t && has_place x p) 1 0 + count_by mine []) (is k) in
            omega (arith, a, b, c, d, e);
      }

  pub keyed_no : (held keyed : List Part) (x : Part) → AreKeyed assets classes held keyed → ((k : ℕ) → is_of_exclusive assets classes k x.asset ≡ false) → AreKeyed assets classes (held ++ x ∷ []) keyed
  keyed_no held keyed x key is =
      record {
        filled = key.filled;
        counts = λ k p.
            let mine : Part → Bool = λ z. is_of_exclusive assets classes k z.asset && has_place z p in
            let b = count_append mine held (x ∷ []) in
            let c = key.counts k p in
            let e = count_no mine x [] (ap (λ t. t && has_place x p) (is k)) in
            let n : count_by mine [] ≡ 0 = refl in
            omega (arith, b, c, e, n);
      }

pub exclusive_same : (links : List Link) (classes : List Class) (assets : List Asset) (routes : List RouteSpans) (held keyed : List Part)
    → each_two asset_before assets ≡ true → AreHeld links assets routes held → AreKeyed assets classes held keyed → list_all (keeps_exclusive links assets routes) classes ≡ each_two share_nothing keyed
exclusive_same links classes assets routes held keyed order h key =
    let both = exclusive_apart links classes assets routes held keyed order h key in
    Rattle.std.specs.Cmp.both_ways (list_all (keeps_exclusive links assets routes) classes) (each_two share_nothing keyed) both.0 both.1

module _ (assets : List Asset) (classes : List Class) where
  filled_at : (xs : List Part) (i : ℕ) (d : Part) → AllByRecursion IsFilled xs → i < length xs → IsFilled (get_or xs i d)
  filled_at [] i d h lt = absurd (omega (arith, lt))
  filled_at (x ∷ xs) zero d h lt = h.0
  filled_at (x ∷ xs) (suc i) d h lt = filled_at xs i d h.1 (omega (arith, lt))

  pub keyed_yes_at : (held keyed now : List Part) (i at : ℕ) (d : Part) → i < length held → AllByRecursion IsFilled held → AreKeyed assets classes (take i held) keyed
      → ((k : ℕ) → is_of_exclusive assets classes k (get_or held i d).asset ≡ nat_eq at k) → now ≡ keyed ++ (let y : Part = record (get_or held i d) { asset = at } in y) ∷ []
      → AreKeyed assets classes (take (i + 1) held) now
  keyed_yes_at held keyed now i at d lt full key is e =
      let more = keyed_yes assets classes (take i held) keyed (get_or held i d) at key (filled_at held i d full lt) is in
      subst (λ l. AreKeyed assets classes l now) (sym (take_more held i d lt)) (subst (AreKeyed assets classes (take i held ++ get_or held i d ∷ [])) (sym e) more)

  pub keyed_no_at : (held keyed now : List Part) (i : ℕ) (d : Part) → i < length held → AreKeyed assets classes (take i held) keyed
      → ((k : ℕ) → is_of_exclusive assets classes k (get_or held i d).asset ≡ false) → now ≡ keyed → AreKeyed assets classes (take (i + 1) held) now
  keyed_no_at held keyed now i d lt key is e =
      let more = keyed_no assets classes (take i held) keyed (get_or held i d) key is in
      subst (λ l. AreKeyed assets classes l now) (sym (take_more held i d lt)) (subst (AreKeyed assets classes (take i held ++ get_or held i d ∷ [])) (sym e) more)
