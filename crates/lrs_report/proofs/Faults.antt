-- Classes by their names, and what is known where nothing refuses segments.
use Rattle.std.proofs.Common.{◌≡◌, ℕ, zero, suc, ◌+◌, ◌<◌, ◌≤◌, Bool, true, false, cond, Option, Some, None, ◌⊎◌, inl, inr, List, [], ◌∷◌, length, map, refl, sym, ap, ◌∙◌, arith}
use Rattle.std.specs.Prelude.{◌&&◌, not, is_some, position}
use Rattle.std.specs.List.{find, list_all, AllByRecursion, range_with_len, position_or_len}
use Rattle.std.specs.Option.{option_map_or}
use Rattle.std.specs.Ordering.{is_eq}
use Rattle.std.specs.Cmp.Lexicographic.{bytes_decides}
use Rattle.std.proofs.lemmas.Bool.{and_parts, lt-ltb, cases_lt, cases_Bool}
use Rattle.lrs_measure.specs.Lists.{each_two}
use Rattle.lrs_measure.specs.Texts.{Name, name_cmp, same_name}
use Rattle.lrs_ordered.proofs.Keys.{finds_name}
use Rattle.lrs_events.specs.declared.class.Class.{Class}
use Rattle.lrs_events.specs.declared.side.Side.{Side}
use Rattle.lrs_events.specs.declared.span.Span.{Span}
use Rattle.lrs_events.proofs.Row.Unique.{less_one}
use Rattle.lrs_machine.specs.Sound.{class_before}
use Rattle.lrs_machine.specs.declared.segment.SegFault.{SegFault}
use Rattle.lrs_machine.specs.declared.segment.SegFault.TheVariants.{NoClass, NotExclusive}
use Rattle.lrs_machine.specs.Segments.{is_class, is_exclusive, is_exclusive_class, fault_at, segment_fault}
use Rattle.lrs_report.specs.SideValues.{HasOneHolder, AreExclusive}
use Rattle.lrs_report.proofs.Found.{found_some, found_passes}

-- ---- classes by their names

pub class_known : (name : Name) (o : Option Class) (classes : List Class) → o ≡ find (λ c. is_eq (name_cmp c.name name)) classes → is_some o ≡ is_class classes name
class_known name o classes e = ap is_some (e ∙ finds_name (λ (c : Class). c.name) name classes) ∙ found_some (λ c. same_name c.name name) classes

pub class_exclusive : (name : Name) (o : Option Class) (classes : List Class) → each_two class_before classes ≡ true → o ≡ find (λ c. is_eq (name_cmp c.name name)) classes
    → option_map_or (λ c. is_exclusive c.kind) o false ≡ is_exclusive_class classes name
class_exclusive name o classes order e =
    ap (λ p. option_map_or (λ (c : Class). is_exclusive c.kind) p false) (e ∙ finds_name (λ (c : Class). c.name) name classes)
    ∙ found_passes (λ c. same_name c.name name) class_before (λ c. is_exclusive c.kind) classes order once
  where
    once : (x y : Class) → class_before x y ≡ true → same_name x.name name ≡ true → same_name y.name name ≡ false
    once x y h k = by (cases_Bool (same_name y.name name))
      where
        by : (same_name y.name name ≡ true) ⊎ (same_name y.name name ≡ false) → same_name y.name name ≡ false
        by (inr l) = l
        by (inl l) = absurd (less_one x.name y.name h ((bytes_decides x.name name).0 k ∙ sym ((bytes_decides y.name name).0 l)))

-- ---- where nothing refuses

all_before : {K : Type 0} (t : K → Bool) (xs : List K) → length xs ≤ position_or_len (λ x. not (t x)) xs → list_all t xs ≡ true
all_before t [] h = refl
all_before t (x ∷ xs) h = by (t x) h (all_before t xs)
  where
    by : (b : Bool) → suc (length xs) ≤ cond (not (not b)) (1 + position_or_len (λ y. not (t y)) xs) 0 → (length xs ≤ position_or_len (λ y. not (t y)) xs → list_all t xs ≡ true) → (b && list_all t xs) ≡ true
    by true k rest = rest (omega (arith, k))
    by false k rest = absurd (omega (arith, k))

none_from : {K : Type 0} (t : K → Bool) (xs : List K) → position (λ x. not (t x)) xs ≡ None → list_all t xs ≡ true
none_from t xs h = all_before t xs (by (cases_lt (position_or_len (λ x. not (t x)) xs) (length xs)))
  where
    at : ℕ
    at = position_or_len (λ x. not (t x)) xs

    by : (at < length xs) ⊎ (length xs ≤ at) → length xs ≤ at
    by (inr k) = k
    by (inl k) = let found : Some at ≡ None = sym (ap (λ b. cond b (Some at) None) (lt-ltb at (length xs) k)) ∙ h in absurd cc

nothing_first : (o : Option ℕ) (fault : ℕ → SegFault) (next : Option SegFault) → fault_at o fault next ≡ None → (o ≡ None) × (next ≡ None)
nothing_first None fault next h = (refl, h)
nothing_first (Some i) fault next h = absurd cc

all_exclusive : (classes : List Class) (wanted : List Name) (side : Side) → segment_fault classes wanted side ≡ None → list_all (is_exclusive_class classes) wanted ≡ true
all_exclusive classes wanted side h =
    let first = nothing_first (position (λ name. not (is_class classes name)) wanted) NoClass _ h in
    let second = nothing_first (position (λ name. not (is_exclusive_class classes name)) wanted) NotExclusive _ first.1 in
    none_from (is_exclusive_class classes) wanted second.0

pub holders_are_one : (classes : List Class) (rows : List Span) (wanted : List Name) (side : Side) → AreExclusive classes rows → segment_fault classes wanted side ≡ None → AllByRecursion (HasOneHolder rows) wanted
holders_are_one classes rows wanted side h none = each wanted (all_exclusive classes wanted side none)
  where
    each : (names : List Name) → list_all (is_exclusive_class classes) names ≡ true → AllByRecursion (HasOneHolder rows) names
    each [] k = tt
    each (n ∷ ns) k = let parts = and_parts (is_exclusive_class classes n) (list_all (is_exclusive_class classes) ns) k in (h n parts.0, each ns parts.1)

-- ---- along a route

-- what is read at each place of a range
pub read_along : {A B : Type 0} (f : ℕ → A) (g : B → A) (h : ℕ → B) (a n : ℕ) → ((j : ℕ) → a ≤ j → j < a + n → f j ≡ g (h j)) → map f (range_with_len a n) ≡ map g (map h (range_with_len a n))
read_along f g h a zero k = refl
read_along f g h a (suc n) k =
    let one = k a (omega arith) (omega arith) in
    let rest = read_along f g h (a + 1) n (λ j low high. k j (omega (arith, low)) (omega (arith, high))) in
    λ i. one i ∷ rest i
