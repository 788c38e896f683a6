-- Totals of a ledger: for each row of an asset of the class its length, as a row has each of its places once.
use Rattle.std.proofs.Common.{◌≡◌, ℕ, zero, suc, ◌+◌, ◌-◌, ◌*◌, ◌<◌, ◌≤◌, Bool, true, false, cond, ◌⊎◌, inl, inr, List, [], ◌∷◌, map, refl, sym, ap, ◌∙◌, arith, sum_by}
use Rattle.std.specs.Prelude.{◌&&◌, ◌||◌, nat_eq, nat_lt, nat_le, filter}
use Rattle.std.specs.List.{list_any, count_by, range_with_len}
use Rattle.std.specs.Option.{option_map_or}
use Rattle.std.proofs.lemmas.Bool.{both_ways, and_parts, and_from, cases_Bool, eqb-true, eq-eqb, ltb-true, lt-ltb, leb-true, le-leb}
use Rattle.std.proofs.lemmas.List.Sums.{sum_by-cons}
use Rattle.lrs_measure.specs.Texts.{Name, same_name}
use Rattle.lrs_events.specs.declared.part.Part.{Part}
use Rattle.lrs_events.specs.Parts.{has_place, has_pair, has_for, IsHadOnce}
use Rattle.lrs_events.specs.Places.{Place, same_place, same_link_side}
use Rattle.lrs_machine.specs.Totals.{total_of}
use Rattle.lrs_machine.specs.State.{State}
use Rattle.lrs_machine.specs.Readings.{all_places, assets_of, edits_of}
use Rattle.lrs_machine.specs.Laws.{IsCounted}
use Rattle.lrs_machine.specs.State as state
use Rattle.lrs_events.specs.declared.side.LinkSide.{LinkSide}
use Rattle.lrs_events.specs.declared.side.LinkSide.TheVariants.{Left, Right}
use Rattle.lrs_machine.proofs.Totals.{count-one}
use Rattle.lrs_machine.proofs.Totals.{totals_add_up}
use Rattle.lrs_machine.proofs.Counting.{totals_count_all}
use Rattle.lrs_machine.proofs.SoundImages.{and_three, sound_is_lawful}
use Rattle.lrs_machine.specs.Image.{state_of, reason_of}
use Rattle.lrs_machine.specs.State.{Reason, same_reason}
use Rattle.lrs_measure.specs.Limits.{most_pairs}
use Rattle.lrs_machine.specs.Readings.{total_entered, total_gone}
use Rattle.lrs_machine.specs.Sound.{IsSound, is_part, are_parts, share_nothing, pairs_of, parts_of, gone_before, are_balanced, spans_of}
use Rattle.lrs_machine.specs.declared.image.Image.{Image}
use Rattle.lrs_element.specs.declared.link.Link.{Link}
use Rattle.lrs_events.specs.declared.class.Asset.{Asset}
use Rattle.lrs_events.specs.declared.part.Gone.{Gone}
use Rattle.lrs_events.specs.Parts.{part_before}
use Rattle.lrs_measure.specs.Lists.{In, each_two}
use Rattle.lrs_measure.proofs.Members.{any_of, all_at}
use Rattle.std.specs.List.{list_all}
use Rattle.lrs_image.proofs.Tables.{passes}
use Rattle.lrs_image_sound.proofs.Balancing.{apart_is_once, filled}
use Rattle.lrs_report_answers.specs.Totals.{is_of_class, ledger_total, parts_gone, LedgersTotal}
use Rattle.lrs_report_answers.proofs.Joined.{is_false}

-- ---- sums

pub sum-same : {X : Type 0} (f g : X → ℕ) (xs : List X) → ((x : X) → In x xs → f x ≡ g x) → sum_by f xs ≡ sum_by g xs
sum-same f g [] same = refl
sum-same f g (x ∷ xs) same = sum_by-cons f x xs ∙ (λ i. same x (inl refl) i + sum-same f g xs (λ y m. same y (inr m)) i) ∙ sym (sum_by-cons g x xs)

pub sum-all : {X : Type 0} (f g : X → ℕ) (xs : List X) → ((x : X) → f x ≡ g x) → sum_by f xs ≡ sum_by g xs
sum-all f g xs same = ap (λ (h : _ → ℕ). sum_by h xs) (λ i x. same x i)

pub sum-none : {X : Type 0} (xs : List X) → sum_by (λ x. 0) xs ≡ 0
sum-none [] = refl
sum-none (x ∷ xs) = sum-none xs

sum-plus : {X : Type 0} (f g : X → ℕ) (xs : List X) → sum_by (λ x. f x + g x) xs ≡ sum_by f xs + sum_by g xs
sum-plus f g [] = refl
sum-plus f g (x ∷ xs) = omega (arith, sum_by-cons (λ x. f x + g x) x xs, sum_by-cons f x xs, sum_by-cons g x xs, sum-plus f g xs)

pub exchange : {X Y : Type 0} (f : X → Y → ℕ) (xs : List X) (ys : List Y) → sum_by (λ x. sum_by (f x) ys) xs ≡ sum_by (λ y. sum_by (λ x. f x y) xs) ys
exchange f [] ys = sym (sum-none ys)
exchange f (x ∷ xs) ys =
    sum_by-cons (λ x. sum_by (f x) ys) x xs ∙ ap (λ n. sum_by (f x) ys + n) (exchange f xs ys) ∙ sym (sum-plus (f x) (λ y. sum_by (λ x. f x y) xs) ys)
    ∙ sum-all _ _ ys (λ y. sym (sum_by-cons (λ x. f x y) x xs))

step : (v c : ℕ) (b : Bool) → cond b v 0 + v * c ≡ v * (cond b 1 0 + c)
step v c true = omega arith
step v c false = omega arith

pub sum-gate : {X : Type 0} (f : X → Bool) (v : ℕ) (xs : List X) → sum_by (λ x. cond (f x) v 0) xs ≡ v * count_by f xs
sum-gate f v [] = omega arith
sum-gate f v (x ∷ xs) =
    sum_by-cons (λ x. cond (f x) v 0) x xs ∙ ap (λ n. cond (f x) v 0 + n) (sum-gate f v xs) ∙ step v (count_by f xs) (f x)
    ∙ ap (λ n. v * n) (sym (sum_by-cons (λ x. cond (f x) 1 0) x xs))

pub sum-if : {X : Type 0} (b : Bool) (f : X → ℕ) (xs : List X) → sum_by (λ x. cond b (f x) 0) xs ≡ cond b (sum_by f xs) 0
sum-if true f xs = refl
sum-if false f xs = sum-none xs

-- ---- the places of a row

abbrev place_of : Part → ℕ → Place
place_of part k = record { link = part.link; mm = k; side = part.side }

no_number : (f : ℕ → Bool) (a n : ℕ) → ((k : ℕ) → a ≤ k → k < a + n → f k ≡ false) → count_by f (range_with_len a n) ≡ 0
no_number f a zero none = refl
no_number f a (suc n) none =
    sum_by-cons (λ x. cond (f x) 1 0) a (range_with_len (a + 1) n)
    ∙ (λ i. cond (none a (omega arith) (omega arith) i) 1 0 + no_number f (a + 1) n (λ k low high. none k (omega (arith, low)) (omega (arith, high))) i)

each_one : (f : ℕ → ℕ) (a n : ℕ) → ((k : ℕ) → a ≤ k → k < a + n → f k ≡ 1) → sum_by f (range_with_len a n) ≡ n
each_one f a zero one = refl
each_one f a (suc n) one =
    sum_by-cons f a (range_with_len (a + 1) n)
    ∙ (λ i. one a (omega arith) (omega arith) i + each_one f (a + 1) n (λ k low high. one k (omega (arith, low)) (omega (arith, high))) i) ∙ (omega arith)

module _ (part : Part) (some : part.from < part.to) where
  abbrev reach : ℕ
  reach = part.to - part.from

  abbrev at_link : Place → Bool
  at_link p = nat_eq part.link p.link

  abbrev on_side : Place → Bool
  on_side p = same_link_side part.side p.side

  had_at : (k : ℕ) → part.from ≤ k → k < part.to → (p : Place) → same_place (place_of part k) p ≡ true → has_place part p ≡ true
  had_at k low high p h =
      let t = and_parts (at_link p && nat_eq k p.mm) (on_side p) h in
      let u = and_parts (at_link p) (nat_eq k p.mm) t.0 in
      let at = eqb-true k p.mm u.1 in
      and_from (at_link p && nat_le part.from p.mm && nat_lt p.mm part.to) (on_side p)
      (and_from (at_link p && nat_le part.from p.mm) (nat_lt p.mm part.to)
      (and_from (at_link p) (nat_le part.from p.mm) u.0 (le-leb part.from p.mm (omega (arith, at, low))))
      (lt-ltb p.mm part.to (omega (arith, at, high)))) t.1

  in_row : (p : Place) → cond (has_place part p) 1 0 ≡ count_by (λ k. same_place (place_of part k) p) (range_with_len part.from reach)
  in_row p = by (cases_Bool (has_place part p))
    where
      by : (has_place part p ≡ true) ⊎ (has_place part p ≡ false) → cond (has_place part p) 1 0 ≡ count_by (λ k. same_place (place_of part k) p) (range_with_len part.from reach)
      by (inl h) =
          let t = and_parts (at_link p && nat_le part.from p.mm && nat_lt p.mm part.to) (on_side p) h in
          let u = and_parts (at_link p && nat_le part.from p.mm) (nat_lt p.mm part.to) t.0 in
          let v = and_parts (at_link p) (nat_le part.from p.mm) u.0 in
          let low = leb-true part.from p.mm v.1 in
          let high = ltb-true p.mm part.to u.1 in
          ap (λ b. cond b 1 0) h
          ∙ sym (count-one (λ k. same_place (place_of part k) p) part.from reach p.mm low (omega (arith, low, high))
          (and_from (at_link p && nat_eq p.mm p.mm) (on_side p) (and_from (at_link p) (nat_eq p.mm p.mm) v.0 (eq-eqb p.mm p.mm refl)) t.1)
          (λ k e. eqb-true k p.mm (and_parts (at_link p) (nat_eq k p.mm) (and_parts (at_link p && nat_eq k p.mm) (on_side p) e).0).1))
      by (inr h) =
          ap (λ b. cond b 1 0) h
          ∙ sym (no_number (λ k. same_place (place_of part k) p) part.from reach (λ k low high. is_false (same_place (place_of part k) p) (λ t. both_ways (has_place part p) h (had_at k low (omega (arith, high, some)) p t))))

  -- A row has as many places as it is long, where each of them is a place once.
  places_had : (places : List Place) → ((k : ℕ) → part.from ≤ k → k < part.to → count_by (same_place (place_of part k)) places ≡ 1) → count_by (has_place part) places ≡ reach
  places_had places once =
      sum-all _ _ places in_row
      ∙ exchange (λ p k. cond (same_place (place_of part k) p) 1 0) places (range_with_len part.from reach)
      ∙ each_one (λ k. count_by (same_place (place_of part k)) places) part.from reach (λ k low high. once k low (omega (arith, high, some)))

-- ---- the rows of a ledger

pub any_counted : {X : Type 0} (f : X → Bool) (xs : List X) → count_by f xs ≤ 1 → cond (list_any f xs) 1 0 ≡ count_by f xs
any_counted f [] few = refl
any_counted f (x ∷ xs) few = by (cases_Bool (f x)) (any_counted f xs)
  where
    all : count_by f (x ∷ xs) ≡ cond (f x) 1 0 + count_by f xs
    all = sum_by-cons (λ y. cond (f y) 1 0) x xs

    by : (f x ≡ true) ⊎ (f x ≡ false) → (count_by f xs ≤ 1 → cond (list_any f xs) 1 0 ≡ count_by f xs) → cond (f x || list_any f xs) 1 0 ≡ count_by f (x ∷ xs)
    by (inl h) rest = let e = all ∙ ap (λ b. cond b 1 0 + count_by f xs) h in ap (λ b. cond (b || list_any f xs) 1 0) h ∙ (omega (arith, e, few))
    by (inr h) rest = let e = all ∙ ap (λ b. cond b 1 0 + count_by f xs) h in ap (λ b. cond (b || list_any f xs) 1 0) h ∙ rest (omega (arith, e, few)) ∙ (omega (arith, e))

count-less : {X : Type 0} (f g : X → Bool) (xs : List X) → ((x : X) → f x ≡ true → g x ≡ true) → count_by f xs ≤ count_by g xs
count-less f g [] h = omega arith
count-less f g (x ∷ xs) h = by (cases_Bool (f x)) (count-less f g xs h)
  where
    left : count_by f (x ∷ xs) ≡ cond (f x) 1 0 + count_by f xs
    left = sum_by-cons (λ y. cond (f y) 1 0) x xs

    right : count_by g (x ∷ xs) ≡ cond (g x) 1 0 + count_by g xs
    right = sum_by-cons (λ y. cond (g y) 1 0) x xs

    by : (f x ≡ true) ⊎ (f x ≡ false) → count_by f xs ≤ count_by g xs → count_by f (x ∷ xs) ≤ count_by g (x ∷ xs)
    by (inl e) rest =
        let l = left ∙ ap (λ b. cond b 1 0 + count_by f xs) e in
        let r = right ∙ ap (λ b. cond b 1 0 + count_by g xs) (h x e) in
        omega (arith, l, r, rest)
    by (inr e) rest =
        let l = left ∙ ap (λ b. cond b 1 0 + count_by f xs) e in
        let r = right in
        omega (arith, l, r, rest)

gated : (b c : Bool) (h : Place → Bool) (places : List Place) → count_by (λ p. (b && c) && h p) places ≡ cond b (cond c (count_by h places) 0) 0
gated true true h places = refl
gated true false h places = sum-none places
gated false c h places = sum-none places

pub own_side : (x : LinkSide) → same_link_side x x ≡ true
own_side Left = refl
own_side Right = refl

weighed : (b : Bool) (n : ℕ) → (n * cond b 1 0) * 1 ≡ cond b n 0
weighed true n = omega arith
weighed false n = omega arith

module _ (s : State) (parts : List Part) (set : ℕ → ℕ → Place → Bool) (had : (n a : ℕ) (p : Place) → set n a p ≡ list_any (λ part. has_pair part n a p) parts) (once : IsHadOnce parts)
    (filled : (part : Part) → In part parts → part.from < part.to) (counted : (m a : ℕ) (p : Place) → set m a p ≡ true → IsCounted s a p × (count_by (nat_eq m) (edits_of s) ≡ 1)) (class : Name) where
  abbrev pairs : Part → ℕ → ℕ → Place → ℕ
  pairs part n a p = cond (has_pair part n a p) 1 0

  as_sum : (n a : ℕ) (p : Place) → cond (set n a p) 1 0 ≡ sum_by (λ part. pairs part n a p) parts
  as_sum n a p =
      let less = count-less (λ part. has_pair part n a p) (has_for a p) parts (λ part h.
      let t = and_parts (nat_eq part.edit n && nat_eq part.asset a) (has_place part p) h in
      and_from (nat_eq part.asset a) (has_place part p) (and_parts (nat_eq part.edit n) (nat_eq part.asset a) t.0).1 t.1) in
      let few = once a p in
      ap (λ b. cond b 1 0) (had n a p) ∙ any_counted (λ part. has_pair part n a p) parts (omega (arith, less, few))

  abbrev of_part : Part → ℕ → ℕ → ℕ
  of_part part n a = count_by (has_pair part n a) (all_places s)

  by_parts : sum_by (λ n. total_of (assets_of class s) (all_places s) (set n)) (edits_of s) ≡ sum_by (λ part. sum_by (λ n. sum_by (of_part part n) (assets_of class s)) (edits_of s)) parts
  by_parts =
      sum-all _ _ (edits_of s) (λ n. sum-all _ _ (assets_of class s) (λ a. sum-all _ _ (all_places s) (as_sum n a) ∙ exchange (λ p part. pairs part n a p) (all_places s) parts)
      ∙ exchange (λ a part. of_part part n a) (assets_of class s) parts)
      ∙ exchange (λ n part. sum_by (of_part part n) (assets_of class s)) (edits_of s) parts

  is_had : (part : Part) → In part parts → (k : ℕ) → part.from ≤ k → k < part.to → set part.edit part.asset (place_of part k) ≡ true
  is_had part m k low high =
      had part.edit part.asset (place_of part k)
      ∙ any_of (λ q. has_pair q part.edit part.asset (place_of part k)) part parts m
      (and_from (nat_eq part.edit part.edit && nat_eq part.asset part.asset) (has_place part (place_of part k))
      (and_from (nat_eq part.edit part.edit) (nat_eq part.asset part.asset) (eq-eqb part.edit part.edit refl) (eq-eqb part.asset part.asset refl))
      (and_from (nat_eq part.link part.link && nat_le part.from k && nat_lt k part.to) (same_link_side part.side part.side)
      (and_from (nat_eq part.link part.link && nat_le part.from k) (nat_lt k part.to)
      (and_from (nat_eq part.link part.link) (nat_le part.from k) (eq-eqb part.link part.link refl) (le-leb part.from k low)) (lt-ltb k part.to high)) (own_side part.side)))

  one_part : (part : Part) → In part parts → sum_by (λ n. sum_by (of_part part n) (assets_of class s)) (edits_of s) ≡ cond (is_of_class s class part.asset) (part.to - part.from) 0
  one_part part m =
      let some = filled part m in
      let first = counted part.edit part.asset (place_of part part.from) (is_had part m part.from (omega arith) some) in
      let its = first.0 in
      let size = places_had part some (all_places s) (λ k low high. (counted part.edit part.asset (place_of part k) (is_had part m k low high)).0.place) in
      let places = count_by (has_place part) (all_places s) in
      let assets = sum_by (λ a. cond (nat_eq part.asset a) places 0) (assets_of class s) in
      sum-all _ _ (edits_of s) (λ n. sum-all _ _ (assets_of class s) (λ a. gated (nat_eq part.edit n) (nat_eq part.asset a) (has_place part) (all_places s))
      ∙ sum-if (nat_eq part.edit n) (λ a. cond (nat_eq part.asset a) places 0) (assets_of class s))
      ∙ sum-gate (nat_eq part.edit) assets (edits_of s)
      ∙ (λ i. sum-gate (nat_eq part.asset) places (assets_of class s) i * first.1 i)
      ∙ (λ i. (size i * its.of_class class i) * 1)
      ∙ weighed (same_name its.row.class class) (part.to - part.from)
      ∙ ap (λ o. cond (option_map_or (λ (x : state.Asset). same_name x.class class) o false) (part.to - part.from) 0) (sym its.known)

  pub ledger_is : sum_by (λ n. total_of (assets_of class s) (all_places s) (set n)) (edits_of s) ≡ ledger_total class s parts
  ledger_is = by_parts ∙ sum-same _ _ parts one_part

-- ---- the ledgers of an image

any-filtered : {X Y : Type 0} (q : X → Bool) (view : X → Y) (f : Y → Bool) (xs : List X) → list_any (λ x. q x && f (view x)) xs ≡ list_any f (map view (filter q xs))
any-filtered q view f [] = refl
any-filtered q view f (x ∷ xs) = by (q x) (any-filtered q view f xs)
  where
    by : (b : Bool) → list_any (λ x. q x && f (view x)) xs ≡ list_any f (map view (filter q xs)) → ((b && f (view x)) || list_any (λ x. q x && f (view x)) xs) ≡ list_any f (map view (cond b (x ∷ filter q xs) (filter q xs)))
    by true rest = ap (λ t. f (view x) || t) rest
    by false rest = rest

count-filtered : {X Y : Type 0} (q : X → Bool) (view : X → Y) (f : Y → Bool) (xs : List X) → count_by f (map view (filter q xs)) ≤ count_by f (map view xs)
count-filtered q view f [] = omega arith
count-filtered q view f (x ∷ xs) = by (q x) (count-filtered q view f xs)
  where
    all : count_by f (map view (x ∷ xs)) ≡ cond (f (view x)) 1 0 + count_by f (map view xs)
    all = sum_by-cons (λ y. cond (f y) 1 0) (view x) (map view xs)

    by : (b : Bool) → count_by f (map view (filter q xs)) ≤ count_by f (map view xs) → count_by f (map view (cond b (x ∷ filter q xs) (filter q xs))) ≤ count_by f (map view (x ∷ xs))
    by true rest = let more = sum_by-cons (λ y. cond (f y) 1 0) (view x) (map view (filter q xs)) in omega (arith, all, more, rest)
    by false rest = omega (arith, all, rest)

in-filtered : {X Y : Type 0} (q : X → Bool) (view : X → Y) (y : Y) (xs : List X) → In y (map view (filter q xs)) → In y (map view xs)
in-filtered q view y [] m = m
in-filtered q view y (x ∷ xs) m = by (q x) m (in-filtered q view y xs)
  where
    by : (b : Bool) → In y (map view (cond b (x ∷ filter q xs) (filter q xs))) → (In y (map view (filter q xs)) → In y (map view xs)) → (y ≡ view x) ⊎ In y (map view xs)
    by true (inl e) rest = inl e
    by true (inr m) rest = inr (rest m)
    by false m rest = inr (rest m)

pub record AreParts (links : List Link) (assets : List Asset) (parts : List Part) : Type 0 where
  pub each : list_all (is_part links assets) parts ≡ true
  pub apart : each_two share_nothing parts ≡ true
  pub few : list_all (λ a. nat_le (pairs_of a.number parts) most_pairs) assets ≡ true

pub parts_are : (links : List Link) (assets : List Asset) (parts : List Part) → are_parts links assets parts ≡ true → AreParts links assets parts
parts_are links assets parts h =
    let t = and_three (list_all (is_part links assets) parts) (each_two share_nothing parts) (list_all (λ a. nat_le (pairs_of a.number parts) most_pairs) assets) h in
    record { each = t.0; apart = t.1; few = t.2 }

had_once : (links : List Link) (assets : List Asset) (parts : List Part) → AreParts links assets parts → IsHadOnce parts
had_once links assets parts h = (apart_is_once parts (filled links assets parts h.each)).0 h.apart

has_length : (links : List Link) (assets : List Asset) (parts : List Part) → AreParts links assets parts → (part : Part) → In part parts → part.from < part.to
has_length links assets parts h part m =
    let t = and_three (nat_lt part.from part.to) (list_any (λ (l : Link). nat_eq l.number part.link && nat_le part.to l.length) links) (list_any (λ (a : Asset). nat_eq a.number part.asset) assets) (all_at (is_part links assets) part parts h.each m) in
    ltb-true part.from part.to t.0

pub entered_parts : (i : Image) → IsSound i → AreParts i.links i.assets i.entered
entered_parts i s = parts_are i.links i.assets i.entered (and_parts (each_two part_before i.entered) (are_parts i.links i.assets i.entered) (passes i s).entered).1

pub gone_parts : (i : Image) → IsSound i → AreParts i.links i.assets (parts_of i.gone)
gone_parts i s =
    let t = and_three (each_two gone_before i.gone) (are_parts i.links i.assets (parts_of i.gone)) (are_balanced i.links i.assets (spans_of i) i.entered (parts_of i.gone)) (passes i s).gone in
    parts_are i.links i.assets (parts_of i.gone) t.1

entered_is : (i : Image) → IsSound i → (class : Name) → total_entered class (state_of i) ≡ ledger_total class (state_of i) i.entered
unfolding state_of
entered_is i s class =
    let h = entered_parts i s in
    ledger_is (state_of i) i.entered (state_of i).entered (λ n a p. refl) (had_once i.links i.assets i.entered h) (has_length i.links i.assets i.entered h) (totals_count_all (state_of i) (sound_is_lawful i s)).entered class

gone_is : (i : Image) → IsSound i → (why : Reason) (class : Name) → total_gone why class (state_of i) ≡ ledger_total class (state_of i) (parts_gone why i.gone)
unfolding state_of
gone_is i s why class =
    let h = gone_parts i s in
    let q : Gone → Bool = λ g. same_reason (reason_of g) why in
    ledger_is (state_of i) (parts_gone why i.gone) (λ n a p. (state_of i).gone n why a p) (λ n a p. any-filtered q (λ (g : Gone). g.part) (λ part. has_pair part n a p) i.gone)
    (λ a p. let less = count-filtered q (λ (g : Gone). g.part) (has_for a p) i.gone in let few = had_once i.links i.assets (parts_of i.gone) h a p in omega (arith, less, few))
    (λ part m. has_length i.links i.assets (parts_of i.gone) h part (in-filtered q (λ (g : Gone). g.part) part i.gone m))
    (λ m a p. (totals_count_all (state_of i) (sound_is_lawful i s)).gone m a why p) class

pub ledgers_total : LedgersTotal
ledgers_total i s class = record {
  entered = entered_is i s class;
  gone = λ why. gone_is i s why class;
  present = totals_add_up (state_of i) (sound_is_lawful i s) class;
}
