-- Names that are one, and names that differ.
use Rattle.std.proofs.Common.{◌≡◌, Bool, true, false, refl, sym, subst}
use Rattle.std.proofs.lemmas.Bool.{both_ways}
use Rattle.std.proofs.lemmas.Slice.Eq.{bytes_eq-Decides}
use Rattle.lrs_measure.specs.Texts.{Name, same_name, name_before}
use Rattle.lrs_image.proofs.Named.{name_apart}

pub same_is : (a b : Name) → same_name a b ≡ true → a ≡ b
same_is a b = (bytes_eq-Decides a b).0

pub same_itself : (a : Name) → same_name a a ≡ true
same_itself a = (bytes_eq-Decides a a).1 refl

pub same_test : (x y : Bool) → (x ≡ true → y ≡ true) → (y ≡ true → x ≡ true) → x ≡ y
same_test true y f g = sym (f refl)
same_test false true f g = g refl
same_test false false f g = refl

pub same_turned : (a b : Name) → same_name a b ≡ same_name b a
same_turned a b =
    same_test (same_name a b) (same_name b a)
    (λ h. subst (λ n. same_name n a ≡ true) (same_is a b h) (same_itself a))
    (λ h. subst (λ n. same_name n b ≡ true) (same_is b a h) (same_itself b))

pub earlier_differs : (a b : Name) → name_before a b ≡ true → same_name a b ≡ false
earlier_differs a b h = by (same_name a b) refl
  where
    by : (c : Bool) → same_name a b ≡ c → c ≡ false
    by false e = refl
    by true e =
        let back = sym (same_is a b e) in
        absurd (both_ways (name_before a a) (subst (λ n. name_before n a ≡ false) back (name_apart a b h)) (subst (λ n. name_before a n ≡ true) back h))
