-- Totals count all members: what they look at has each pair of a lawful state once.
use Rattle.std.proofs.Common.{◌≡◌, ℕ, ◌+◌, ◌<◌, ◌≤◌, Bool, true, false, cond, List, [], ◌∷◌, map, filter, length, Some, refl, sym, ap, subst, ◌∙◌, arith}
use Rattle.std.specs.Prelude.{◌&&◌, nat_eq, nat_lt, unwrap_or}
use Rattle.std.specs.List.{list_all, flat_map, count_by, range_with_len}
use Rattle.std.specs.Ordering.{nat_cmp}
use Rattle.std.specs.Cmp.{unsigned_tied}
use Rattle.std.specs.FinMap.{find}
use Rattle.std.proofs.lemmas.Bool.{and_parts, eqb-true, eq-eqb, ne_eqb, ltb-true}
use Rattle.lrs_measure.specs.Texts.{Name, same_name}
use Rattle.lrs_measure.proofs.Counts.{count_cons, count-none, count_append}
use Rattle.lrs_events.specs.declared.side.LinkSide.{LinkSide}
use Rattle.lrs_events.specs.declared.side.LinkSide.TheVariants.{Left, Right}
use Rattle.lrs_events.specs.Places.{Place, same_link_side, same_place, places_of_link}
use Rattle.lrs_machine.specs.Register.{get}
use Rattle.lrs_machine.specs.State.{State, Asset}
use Rattle.lrs_machine.specs.Laws.{IsLawful, are_numbered, IsCounted, LawfulCountsAll}
use Rattle.lrs_machine.proofs.Registers.{some_if_known}
use Rattle.lrs_machine.proofs.Totals.{count-one}

-- ---- the places of links

one_side : (b : Bool) (s : LinkSide) (c : ℕ) → cond (b && same_link_side s Left) 1 0 + (cond (b && same_link_side s Right) 1 0 + c) ≡ cond b 1 0 + c
one_side true Left c = omega arith
one_side true Right c = omega arith
one_side false s c = omega arith

abbrev pub both_sides : ℕ → ℕ → List Place
both_sides n k = record { link = n; mm = k; side = Left } ∷ record { link = n; mm = k; side = Right } ∷ []

-- Where a test is of a millimetre and of one side, it counts millimetres.
pub by_millimetre : (test : Place → Bool) (over : ℕ → Bool) (s : LinkSide) (n : ℕ) → ((k : ℕ) (side : LinkSide) → test (record { link = n; mm = k; side = side }) ≡ (over k && same_link_side s side))
    → (ks : List ℕ) → count_by test (flat_map (both_sides n) ks) ≡ count_by over ks
by_millimetre test over s n is [] = refl
by_millimetre test over s n is (k ∷ ks) =
    let left : Place = record { link = n; mm = k; side = Left } in
    let right : Place = record { link = n; mm = k; side = Right } in
    let rest = flat_map (both_sides n) ks in
    count_cons test left (right ∷ rest)
    ∙ ap (λ m. cond (test left) 1 0 + m) (count_cons test right rest)
    ∙ (λ i. cond (is k Left i) 1 0 + (cond (is k Right i) 1 0 + count_by test rest))
    ∙ one_side (over k) s (count_by test rest)
    ∙ ap (λ m. cond (over k) 1 0 + m) (by_millimetre test over s n is ks)
    ∙ sym (count_cons over k ks)

-- the millimetres of the place, on a link
is_at_millimetre : (p : Place) (n len : ℕ) → count_by (same_place p) (places_of_link n len) ≡ count_by (λ k. nat_eq p.link n && nat_eq p.mm k) (range_with_len 0 len)
is_at_millimetre p n len = by_millimetre (same_place p) (λ k. nat_eq p.link n && nat_eq p.mm k) p.side n (λ k side. refl) (range_with_len 0 len)

other_link : (p : Place) (n len : ℕ) → nat_eq p.link n ≡ false → count_by (same_place p) (places_of_link n len) ≡ 0
other_link p n len h = is_at_millimetre p n len ∙ ap (λ b. count_by (λ k. b && nat_eq p.mm k) (range_with_len 0 len)) h ∙ count-none (range_with_len 0 len)

own_link : (p : Place) (n len : ℕ) → nat_eq p.link n ≡ true → p.mm < len → count_by (same_place p) (places_of_link n len) ≡ 1
own_link p n len h within =
    is_at_millimetre p n len ∙ ap (λ b. count_by (λ k. b && nat_eq p.mm k) (range_with_len 0 len)) h
    ∙ count-one (λ k. nat_eq p.mm k) 0 len p.mm (omega arith) (omega (arith, within)) (eq-eqb p.mm p.mm refl) (λ k e. sym (eqb-true p.mm k e))

abbrev places_in : List (ℕ × ℕ) → List Place
places_in rows = flat_map (λ l. places_of_link l.0 l.1) rows

-- a link that is not among the rows has none of their places
no_link : (p : Place) (rows : List (ℕ × ℕ)) (n : ℕ) → p.link ≡ n → list_all (λ l. nat_lt n l.0) rows ≡ true → count_by (same_place p) (places_in rows) ≡ 0
no_link p [] n e h = refl
no_link p (l ∷ ls) n e h =
    let both = and_parts (nat_lt n l.0) (list_all (λ l. nat_lt n l.0) ls) h in
    let less = ltb-true n l.0 both.0 in
    let here = other_link p l.0 l.1 (ne_eqb p.link l.0 (λ same. omega (arith, less, same, e))) in
    let rest = no_link p ls n e both.1 in
    let all = count_append (same_place p) (places_of_link l.0 l.1) (places_in ls) in
    omega (arith, here, rest, all)

place_once : (p : Place) (rows : List (ℕ × ℕ)) → are_numbered rows ≡ true → nat_lt p.mm (unwrap_or (find nat_cmp p.link rows) 0) ≡ true → count_by (same_place p) (places_in rows) ≡ 1
place_once p [] order h = let none = ltb-true p.mm 0 h in absurd (omega (arith, none))
place_once p (l ∷ ls) order h = by (nat_eq p.link l.0) refl (place_once p ls both.1)
  where
    both : (list_all (λ k. nat_lt l.0 k.0) ls ≡ true) × (are_numbered ls ≡ true)
    both = and_parts (list_all (λ k. nat_lt l.0 k.0) ls) (are_numbered ls) order

    all : count_by (same_place p) (places_in (l ∷ ls)) ≡ count_by (same_place p) (places_of_link l.0 l.1) + count_by (same_place p) (places_in ls)
    all = count_append (same_place p) (places_of_link l.0 l.1) (places_in ls)

    known : (b : Bool) → nat_eq p.link l.0 ≡ b → nat_lt p.mm (unwrap_or (cond b (Some l.1) (find nat_cmp p.link ls)) 0) ≡ true
    known b e = ap (λ c. nat_lt p.mm (unwrap_or (cond c (Some l.1) (find nat_cmp p.link ls)) 0)) (sym e ∙ sym (unsigned_tied p.link l.0)) ∙ h

    by : (b : Bool) → nat_eq p.link l.0 ≡ b → (nat_lt p.mm (unwrap_or (find nat_cmp p.link ls) 0) ≡ true → count_by (same_place p) (places_in ls) ≡ 1) → count_by (same_place p) (places_in (l ∷ ls)) ≡ 1
    by true e rest =
        let here = own_link p l.0 l.1 e (ltb-true p.mm l.1 (known true e)) in
        let none = no_link p ls l.0 (eqb-true p.link l.0 e) both.0 in
        omega (arith, all, here, none)
    by false e rest =
        let here = other_link p l.0 l.1 e in
        let later = rest (known false e) in
        omega (arith, all, here, later)

-- ---- the assets of a class

abbrev numbers_of : Name → List (ℕ × Asset) → List ℕ
numbers_of class rows = map (λ a. a.0) (filter (λ a. same_name a.1.class class) rows)

step : (n : ℕ) (class : Name) (a : ℕ × Asset) (rows : List (ℕ × Asset))
    → count_by (nat_eq n) (numbers_of class (a ∷ rows)) ≡ cond (same_name a.1.class class) (cond (nat_eq n a.0) 1 0) 0 + count_by (nat_eq n) (numbers_of class rows)
step n class a rows = by (same_name a.1.class class)
  where
    by : (b : Bool) → count_by (nat_eq n) (map (λ a. a.0) (cond b (a ∷ filter (λ a. same_name a.1.class class) rows) (filter (λ a. same_name a.1.class class) rows)))
        ≡ cond b (cond (nat_eq n a.0) 1 0) 0 + count_by (nat_eq n) (numbers_of class rows)
    by true = count_cons (nat_eq n) a.0 (numbers_of class rows)
    by false = omega arith

none_if : (b : Bool) → ◌≡◌ {A = ℕ} (cond b 0 0) 0
none_if true = refl
none_if false = refl

no_asset : (n : ℕ) (class : Name) (rows : List (ℕ × Asset)) → list_all (λ a. nat_lt n a.0) rows ≡ true → count_by (nat_eq n) (numbers_of class rows) ≡ 0
no_asset n class [] h = refl
no_asset n class (a ∷ rows) h =
    let both = and_parts (nat_lt n a.0) (list_all (λ a. nat_lt n a.0) rows) h in
    let less = ltb-true n a.0 both.0 in
    let other : nat_eq n a.0 ≡ false = ne_eqb n a.0 (λ same. omega (arith, less, same)) in
    let none : cond (same_name a.1.class class) (cond (nat_eq n a.0) 1 0) 0 ≡ 0 = ap (λ b. cond (same_name a.1.class class) (cond b 1 0) 0) other ∙ none_if (same_name a.1.class class) in
    step n class a rows ∙ (λ i. none i + no_asset n class rows both.1 i)

asset_once : (n : ℕ) (class : Name) (x : Asset) (rows : List (ℕ × Asset)) → are_numbered rows ≡ true → find nat_cmp n rows ≡ Some x
    → count_by (nat_eq n) (numbers_of class rows) ≡ cond (same_name x.class class) 1 0
asset_once n class x [] order h = absurd (cc)
asset_once n class x (a ∷ rows) order h = by (nat_eq n a.0) refl (asset_once n class x rows both.1)
  where
    both : (list_all (λ k. nat_lt a.0 k.0) rows ≡ true) × (are_numbered rows ≡ true)
    both = and_parts (list_all (λ k. nat_lt a.0 k.0) rows) (are_numbered rows) order

    found : (b : Bool) → nat_eq n a.0 ≡ b → cond b (Some a.1) (find nat_cmp n rows) ≡ Some x
    found b e = ap (λ c. cond c (Some a.1) (find nat_cmp n rows)) (sym e ∙ sym (unsigned_tied n a.0)) ∙ h

    value : Some a.1 ≡ Some x → a.1 ≡ x
    value e = cc

    by : (b : Bool) → nat_eq n a.0 ≡ b → (find nat_cmp n rows ≡ Some x → count_by (nat_eq n) (numbers_of class rows) ≡ cond (same_name x.class class) 1 0)
        → count_by (nat_eq n) (numbers_of class (a ∷ rows)) ≡ cond (same_name x.class class) 1 0
    by true e rest =
        let is = value (found true e) in
        let none = no_asset n class rows (subst (λ k. list_all (λ (b : ℕ × Asset). nat_lt k b.0) rows ≡ true) (sym (eqb-true n a.0 e)) both.0) in
        step n class a rows ∙ (λ i. cond (same_name (is i).class class) (cond (e i) 1 0) 0 + none i) ∙ plus_none (cond (same_name x.class class) 1 0)
      where
        plus_none : (m : ℕ) → m + 0 ≡ m
        plus_none m = omega arith
    by false e rest =
        step n class a rows ∙ (λ i. cond (same_name a.1.class class) (cond (e i) 1 0) 0 + count_by (nat_eq n) (numbers_of class rows))
        ∙ (λ i. none_if (same_name a.1.class class) i + count_by (nat_eq n) (numbers_of class rows)) ∙ none_plus (count_by (nat_eq n) (numbers_of class rows)) ∙ rest (found false e)
      where
        none_plus : (m : ℕ) → 0 + m ≡ m
        none_plus m = omega arith

-- ---- the pairs of a lawful state

counted : (s : State) → IsLawful s → (m asset : ℕ) (p : Place) → s.entered m asset p ≡ true → IsCounted s asset p
counted s h m asset p e =
    let x = some_if_known (get s.assets asset) (h.named.asset_known m asset p e) in
    record {
      row = x.0;
      known = x.1;
      of_class = λ class. asset_once asset class x.0 s.assets.rows h.grounded.assets x.1;
      place = place_once p s.links.rows h.grounded.links (h.grounded.places m asset p e);
    }

edit_once : (len m : ℕ) → (1 ≤ m) × (m ≤ len) → count_by (nat_eq m) (range_with_len 1 len) ≡ 1
edit_once len m done = let low = done.0 in let high = done.1 in count-one (nat_eq m) 1 len m low (omega (arith, high)) (eq-eqb m m refl) (λ k e. sym (eqb-true m k e))

pub totals_count_all : LawfulCountsAll
totals_count_all s h = record {
  held = λ asset p held. let e = h.balanced.held_entered asset p held in counted s h e.0 asset p e.1;
  entered = λ m asset p e. (counted s h m asset p e, edit_once (length s.done) m (h.named.entered_done m asset p e));
  gone = λ m asset why p g. let e = h.balanced.gone_entered m asset why p g in (counted s h e.0 asset p e.1, edit_once (length s.done) m (h.named.gone_done m asset why p g));
}
