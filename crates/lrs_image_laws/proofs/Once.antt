-- Parts that have each pair once share nothing.
use Rattle.std.proofs.Common.{◌≡◌, ℕ, ◌+◌, ◌<◌, ◌≤◌, Bool, true, false, cond, ◌⊎◌, inl, inr, List, [], ◌∷◌, refl, sym, ap, ◌∙◌, arith}
use Rattle.std.specs.Prelude.{◌&&◌, nat_eq, nat_lt, nat_le}
use Rattle.std.specs.List.{list_all, count_by}
use Rattle.std.proofs.lemmas.Bool.{and_parts, and_from, cases_Bool, eq-eqb, ltb-true, lt-ltb, le-leb}
use Rattle.std.proofs.lemmas.List.Sums.{sum_by-cons}
use Rattle.lrs_measure.specs.Lists.{In, each_two}
use Rattle.lrs_measure.proofs.Members.{all_at, all_of}
use Rattle.lrs_events.specs.declared.part.Part.{Part}
use Rattle.lrs_events.specs.Parts.{has_place, has_for, IsHadOnce}
use Rattle.lrs_events.specs.Places.{Place, same_link_side}
use Rattle.lrs_machine.specs.Sound.{share_nothing}
use Rattle.lrs_machine.proofs.Pairs.{is_same_side}
use Rattle.lrs_image_laws.proofs.Sounding.{Overlap, overlapping}

count_later : {X : Type 0} (p : X → Bool) (x : X) (xs : List X) → count_by p xs ≤ count_by p (x ∷ xs)
count_later p x xs = let e = sum_by-cons (λ y. cond (p y) 1 0) x xs in omega (arith, e)

count_here : {X : Type 0} (p : X → Bool) (x : X) (xs : List X) → p x ≡ true → count_by p (x ∷ xs) ≡ 1 + count_by p xs
count_here p x xs h = sum_by-cons (λ y. cond (p y) 1 0) x xs ∙ ap (λ b. cond b 1 0 + count_by p xs) h

count_member : {X : Type 0} (p : X → Bool) (x : X) (xs : List X) → In x xs → p x ≡ true → 1 ≤ count_by p xs
count_member p x [] m h = absurd m
count_member p x (y ∷ ys) (inl e) h = let k = count_here p y ys (ap p (sym e) ∙ h) in omega (arith, k)
count_member p x (y ∷ ys) (inr m) h = let k = count_later p y ys in let l = count_member p x ys m h in omega (arith, k, l)

-- a part has each of its places
pub has_own : (x : Part) (p : Place) → x.link ≡ p.link → x.side ≡ p.side → x.from ≤ p.mm → p.mm < x.to → has_place x p ≡ true
has_own x p link side low high =
    and_from (nat_eq x.link p.link && nat_le x.from p.mm && nat_lt p.mm x.to) (same_link_side x.side p.side)
    (and_from (nat_eq x.link p.link && nat_le x.from p.mm) (nat_lt p.mm x.to) (and_from (nat_eq x.link p.link) (nat_le x.from p.mm) (eq-eqb x.link p.link link) (le-leb x.from p.mm low)) (lt-ltb p.mm x.to high))
    (is_same_side x.side p.side side)

pub had : (x : Part) (a : ℕ) (p : Place) → x.asset ≡ a → has_place x p ≡ true → has_for a p x ≡ true
had x a p e h = and_from (nat_eq x.asset a) (has_place x p) (eq-eqb x.asset a e) h

pub parts_apart : (xs : List Part) → IsHadOnce xs → list_all (λ x. nat_lt x.from x.to) xs ≡ true → each_two share_nothing xs ≡ true
parts_apart [] once filled = refl
parts_apart (x ∷ xs) once filled =
    let both = and_parts (nat_lt x.from x.to) (list_all (λ x. nat_lt x.from x.to) xs) filled in
    and_from (list_all (share_nothing x) xs) (each_two share_nothing xs)
    (all_of (share_nothing x) xs (λ y m. by y m (ltb-true x.from x.to both.0) (ltb-true y.from y.to (all_at (λ x. nat_lt x.from x.to) y xs both.1 m)) (cases_Bool (share_nothing x y))))
    (parts_apart xs (λ a p. let k = once a p in let l = count_later (has_for a p) x xs in omega (arith, k, l)) both.1)
  where
    clash : (y : Part) → In y xs → Overlap x y → ⊥
    clash y m o =
        let p : Place = record { link = x.link; mm = o.mm; side = x.side } in
        let here = count_here (has_for x.asset p) x xs (had x x.asset p refl (has_own x p refl refl o.after o.before)) in
        let there = count_member (has_for x.asset p) y xs m (had y x.asset p (sym o.asset) (has_own y p (sym o.link) (sym o.side) o.after_too o.before_too)) in
        let most = once x.asset p in
        omega (arith, here, there, most)

    by : (y : Part) → In y xs → x.from < x.to → y.from < y.to → (share_nothing x y ≡ true) ⊎ (share_nothing x y ≡ false) → share_nothing x y ≡ true
    by y m f g (inl e) = e
    by y m f g (inr e) = absurd (clash y m (overlapping x y f g e))
