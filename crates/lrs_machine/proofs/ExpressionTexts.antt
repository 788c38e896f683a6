-- Entered positions of one method are told apart by their texts.
use Rattle.std.proofs.Common.{◌≡◌, true, ◌&&◌, [], ◌∷◌, ◌++◌, Option, Some, None, refl, sym, ap, ◌∙◌, arith, append_assoc}
use Rattle.std.specs.Prelude.{nat_le, nat_eq, not, ℤ, pos, negsuc, unsigned_abs, codes}
use Rattle.std.specs.List.{list_all}
use Rattle.std.specs.Fmt.{decimal}
use Rattle.std.specs.Char.{is_ascii_digit}
use Rattle.std.proofs.lemmas.Bool.{false≢true, and_parts, eqb-true}
use Rattle.lrs_measure.specs.Fraction.{Fraction}
use Rattle.lrs_measure.specs.Alphabets.{is_capital, has_length}
use Rattle.lrs_measure.specs.Limits.{longest_route, greatest_measure}
use Rattle.lrs_position.specs.Names.{is_referent_name}
use Rattle.lrs_position.specs.declared.expression.Expr.{Expr}
use Rattle.lrs_position.specs.declared.expression.Expr.TheVariants.{Abs, Rel, Int}
use Rattle.lrs_position.specs.Expressions.{Ends, is_negative, greatest_denominator, is_entered, same_method, are_alike}
use Rattle.lrs_machine.specs.Lines.{Text, signed_text, method_text, expression_text, end_text}
use Rattle.lrs_machine.specs.WellFormedCommands.{IsPosition, IsEnd, IsLocation}
use Rattle.lrs_machine.proofs.Joined.{Lacks, lacks_from, lacks-append, split_at_first, starts_with, differ, not_empty}
use Rattle.lrs_machine.proofs.Decimals.{IsSmall, small_below, decimal_passes, lacks-decimal, decimals_apart, signed_apart, named_apart, lacks-signed, decimal_not_empty}

-- fractions of equal parts are equal
same_fraction : (p q : Fraction) → p.num ≡ q.num → p.den ≡ q.den → p ≡ q
same_fraction p q num den = λ i. record { num = num i; den = den i }

-- a number that is not negative is known by its size
same_size : (s t : ℤ) → not (is_negative s) ≡ true → not (is_negative t) ≡ true → unsigned_abs s ≡ unsigned_abs t → s ≡ t
same_size (pos m) (pos n) p q e = ap pos e
same_size (negsuc m) t p q e = absurd (false≢true p)
same_size (pos m) (negsuc n) p q e = absurd (false≢true q)

-- what is entered of a measure
record IsMeasure (m : Fraction) : Type 0 where
  whole : m.den ≡ 1
  positive : not (is_negative m.num) ≡ true
  small : IsSmall (unsigned_abs m.num)

-- what is entered of a distance
record IsDistance (t : Fraction) : Type 0 where
  whole : t.den ≡ 1
  small : IsSmall (unsigned_abs t.num)

-- what is entered of a proportion
record IsProportion (p : Fraction) : Type 0 where
  positive : not (is_negative p.num) ≡ true
  small : IsSmall (unsigned_abs p.num)
  small_den : IsSmall p.den

-- an entered measure is whole, not negative and small
measure_entered : (m : Fraction) → is_entered (Abs m) ≡ true → IsMeasure m
measure_entered m h =
    let outer = and_parts (nat_eq m.den 1 && not (is_negative m.num)) (nat_le (unsigned_abs m.num) greatest_measure) h in
    let inner = and_parts (nat_eq m.den 1) (not (is_negative m.num)) outer.0 in
    record { whole = eqb-true m.den 1 inner.0; positive = inner.1; small = small_below greatest_measure (unsigned_abs m.num) outer.1 (record { bound = omega arith }) }

-- an entered distance is whole and small
distance_entered : (name : Text) (t : Fraction) → is_entered (Rel name t) ≡ true → IsDistance t
distance_entered name t h =
    let both = and_parts (nat_eq t.den 1) (nat_le (unsigned_abs t.num) longest_route) h in
    record { whole = eqb-true t.den 1 both.0; small = small_below longest_route (unsigned_abs t.num) both.1 (record { bound = omega arith }) }

-- an entered proportion is not negative and has small parts
proportion_entered : (p : Fraction) → is_entered (Int p) ≡ true → IsProportion p
proportion_entered p h =
    let outer = and_parts (nat_le p.den greatest_denominator && not (is_negative p.num)) (nat_le (unsigned_abs p.num) p.den) h in
    let inner = and_parts (nat_le p.den greatest_denominator) (not (is_negative p.num)) outer.0 in
    let den : IsSmall p.den = small_below greatest_denominator p.den inner.0 (record { bound = omega arith }) in
    record { positive = inner.1; small = small_below p.den (unsigned_abs p.num) outer.1 den; small_den = den }

-- a referent's name is made of capitals and digits
referent_passes : (name : Text) → is_referent_name name ≡ true → list_all is_capital name ≡ true
referent_passes name h = (and_parts (has_length 12 name) (list_all is_capital name) h).1

-- a proportion's text, cut at its slash
cut : (p : Fraction) → expression_text (Int p) ≡ decimal (unsigned_abs p.num) ++ 47 ∷ decimal p.den
cut p = append_assoc (decimal (unsigned_abs p.num)) (47 ∷ []) (decimal p.den)

-- equal texts come only of equal proportions
proportions_apart : (p q : Fraction) → IsProportion p → IsProportion q → expression_text (Int p) ≡ expression_text (Int q) → p ≡ q
proportions_apart p q g h e =
    let both = split_at_first is_ascii_digit (decimal (unsigned_abs p.num)) (decimal (unsigned_abs q.num)) 47 47 (decimal p.den) (decimal q.den)
    (decimal_passes (unsigned_abs p.num) g.small) (decimal_passes (unsigned_abs q.num) h.small) refl refl (sym (cut p) ∙ e ∙ cut q) in
    let den : decimal p.den ≡ decimal q.den = let after = both.1 in cc in
    let size = decimals_apart (unsigned_abs p.num) (unsigned_abs q.num) g.small h.small both.0 in
    same_fraction p q (same_size p.num q.num g.positive h.positive size) (decimals_apart p.den q.den g.small_den h.small_den den)

-- equal texts come only of equal expressions, where the method is one
pub expressions_apart : (e f : Expr) → IsPosition e → IsPosition f → same_method e f ≡ true → expression_text e ≡ expression_text f → e ≡ f
expressions_apart (Abs m) (Abs n) p q alike same =
    let g = measure_entered m p.entered in
    let h = measure_entered n q.entered in
    let size = decimals_apart (unsigned_abs m.num) (unsigned_abs n.num) g.small h.small same in
    ap Abs (same_fraction m n (same_size m.num n.num g.positive h.positive size) (g.whole ∙ sym h.whole))
expressions_apart (Rel name t) (Rel other u) p q alike same =
    let g = distance_entered name t p.entered in
    let h = distance_entered other u q.entered in
    let both = named_apart is_capital name other t.num u.num refl refl (referent_passes name p.referent) (referent_passes other q.referent) same in
    let away = same_fraction t u (signed_apart t.num u.num g.small h.small both.1) (g.whole ∙ sym h.whole) in
    λ i. Rel (both.0 i) (away i)
expressions_apart (Int p) (Int q) g h alike same = ap Int (proportions_apart p q (proportion_entered p g.entered) (proportion_entered q h.entered) same)
expressions_apart _ _ p q alike same = absurd (false≢true alike)

-- equal texts of methods come only of expressions of one method
pub methods_apart : (e f : Expr) → method_text e ≡ method_text f → same_method e f ≡ true
methods_apart (Abs m) (Abs n) same = refl
methods_apart (Rel name t) (Rel other u) same = refl
methods_apart (Int p) (Int q) same = refl
methods_apart (Abs m) f same = absurd (differ (starts_with 97) (codes "abs") (method_text f) same refl refl)
methods_apart (Rel name t) f same = absurd (differ (starts_with 114) (codes "rel") (method_text f) same refl refl)
methods_apart (Int p) f same = absurd (differ (starts_with 105) (codes "int") (method_text f) same refl refl)

-- the text of a method has no comma
pub lacks-method : (e : Expr) → Lacks 44 (method_text e)
lacks-method (Abs m) = refl
lacks-method (Rel name t) = refl
lacks-method (Int p) = refl

-- nor has that of an entered expression
pub lacks-expression : (e : Expr) → IsPosition e → Lacks 44 (expression_text e)
lacks-expression (Abs m) p = lacks-decimal 44 (unsigned_abs m.num) refl (measure_entered m p.entered).small
lacks-expression (Rel name t) p = lacks-append 44 name (signed_text t.num) (lacks_from is_capital 44 name refl (referent_passes name p.referent)) (lacks-signed 44 t.num refl refl refl (distance_entered name t p.entered).small)
lacks-expression (Int p) h =
    let q = proportion_entered p h.entered in
    lacks-append 44 (decimal (unsigned_abs p.num) ++ codes "/") (decimal p.den) (lacks-append 44 (decimal (unsigned_abs p.num)) (codes "/") (lacks-decimal 44 (unsigned_abs p.num) refl q.small) refl) (lacks-decimal 44 p.den refl q.small_den)

-- the text of an entered expression is not empty
expression_not_empty : (e : Expr) → IsPosition e → expression_text e ≡ [] → ⊥
expression_not_empty (Abs m) p none = decimal_not_empty (unsigned_abs m.num) (measure_entered m p.entered).small none
expression_not_empty (Rel [] t) p none = false≢true p.referent
expression_not_empty (Rel (byte ∷ name) t) p none = cc
expression_not_empty (Int p) h none = not_empty 47 (decimal (unsigned_abs p.num)) (decimal p.den) (sym (cut p) ∙ none)

-- expressions of the method of a third are of one method
alike_ends : (a e f : Expr) → same_method a e ≡ true → same_method a f ≡ true → same_method e f ≡ true
alike_ends (Abs m) (Abs x) f p q = q
alike_ends (Rel name t) (Rel other u) f p q = q
alike_ends (Int m) (Int x) f p q = q
alike_ends _ _ f p q = absurd (false≢true p)

-- equal texts come only of equal ends, and an empty one only of none
ends_apart : (a : Expr) (x y : Option Expr) → IsEnd x → IsEnd y → are_alike a x ≡ true → are_alike a y ≡ true → end_text x ≡ end_text y → x ≡ y
ends_apart a None None p q g h same = refl
ends_apart a None (Some f) p q g h same = absurd (expression_not_empty f q (sym same))
ends_apart a (Some e) None p q g h same = absurd (expression_not_empty e p same)
ends_apart a (Some e) (Some f) p q g h same = ap Some (expressions_apart e f p q (alike_ends a e f g h) same)

-- equal fields come only of equal locations
pub locations_apart : (l k : Ends) → IsLocation l → IsLocation k → method_text l.from ≡ method_text k.from → expression_text l.from ≡ expression_text k.from → end_text l.to ≡ end_text k.to → l ≡ k
locations_apart l k p q method start end =
    let first = expressions_apart l.from k.from p.first q.first (methods_apart l.from k.from method) start in
    let alike : are_alike l.from k.to ≡ true = ap (λ (e : Expr). are_alike e k.to) first ∙ q.alike in
    let second = ends_apart l.from l.to k.to p.end q.end p.alike alike end in
    λ i. record { from = first i; to = second i }

-- the text of an end has no comma
lacks-end : (x : Option Expr) → IsEnd x → Lacks 44 (end_text x)
lacks-end None p = refl
lacks-end (Some e) p = lacks-expression e p

-- nor has a field of a location
pub lacks-location : (l : Ends) → IsLocation l → Lacks 44 (method_text l.from) × Lacks 44 (expression_text l.from) × Lacks 44 (end_text l.to)
lacks-location l p = (lacks-method l.from, lacks-expression l.from p.first, lacks-end l.to p.end)
