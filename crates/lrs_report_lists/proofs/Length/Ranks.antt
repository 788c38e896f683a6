-- The order of stretches is an order, and the order of classes and values is too.
use Rattle.std.proofs.Common.{◌≡◌, Bool, true, false, refl, sym, ap, ◌∙◌}
use Rattle.std.specs.Prelude.{◌&&◌, nat_lt}
use Rattle.std.specs.declared.cmp.Ordering.{Ordering}
use Rattle.std.specs.declared.cmp.Ordering.TheVariants.{Less, Equal, Greater}
use Rattle.std.specs.Ordering.{is_eq, is_lt, ordering_reverse}
use Rattle.std.specs.Cmp.{IsStrictWeakOrder}
use Rattle.std.specs.Cmp.Lexicographic.{nat_list_cmp_total, bytes_decides, texts_ties}
use Rattle.std.proofs.lemmas.Bool.{both_ways, and_parts, and_from, and_right, or_from, or_parts, false_from_ne_true, true_from_ne_false, not-true, ltb-false, le-leb}
use Rattle.std.proofs.lemmas.List.Sorted.{ranks_by, IsStrictWeakOrder-by_number}
use Rattle.lrs_measure.specs.Texts.{Name, name_cmp, same_name, name_before}
use Rattle.lrs_events.proofs.LaneLists.Ranks.{IsTie, itself, then_ranks}
use Rattle.lrs_report_lists.specs.declared.length_lists.entries.LengthEntry.{LengthEntry}
use Rattle.lrs_report_lists.specs.Length.Lengths.{key_before}
use Rattle.lrs_report_lists.specs.Length.Parts.{begins_by, entry_before, is_entry_of, is_later, not_behind}

names_rank : IsStrictWeakOrder name_before
names_rank = ranks_by nat_list_cmp_total (λ (c : Name). c)

names_tell : (c d : Name) → name_before c d ≡ false → name_before d c ≡ false → same_name c d ≡ true
names_tell c d h k = by (name_cmp c d) refl
  where
    by : (o : Ordering) → o ≡ name_cmp c d → same_name c d ≡ true
    by Less e = absurd (both_ways (name_before c d) h (ap is_lt (sym e)))
    by Equal e = texts_ties c d ∙ ap is_eq (sym e)
    by Greater e = absurd (both_ways (name_before d c) k (ap is_lt (nat_list_cmp_total.antisymm d c ∙ ap ordering_reverse (sym e))))

pub name_tie : {X : Type 0} (key : X → Name) → IsTie (λ x y. name_before (key x) (key y)) (λ x y. same_name (key x) (key y))
name_tie key = record {
  not_first = λ x y h. ap (λ z. name_before (key x) z) (sym ((bytes_decides (key x) (key y)).0 h)) ∙ itself name_before names_rank (key x);
  not_second = λ x y h. ap (λ z. name_before z (key x)) (sym ((bytes_decides (key x) (key y)).0 h)) ∙ itself name_before names_rank (key x);
  tells = λ x y h k. names_tell (key x) (key y) h k;
}

second : (c d : Bool) → (c && d) ≡ false → c ≡ true → d ≡ false
second c d h k = false_from_ne_true d (λ m. both_ways (c && d) h (and_from c d k m))

-- by one text and then by another
module _ {X : Type 0} (one two : X → Name) where
  abbrev pub before_by : X → X → Bool
  before_by x y = key_before (one x) (two x) (one y) (two y)

  abbrev pub same_by : X → X → Bool
  same_by x y = same_name (one x) (one y) && same_name (two x) (two y)

  pub key_ranks : IsStrictWeakOrder before_by
  key_ranks =
      then_ranks (λ x y. name_before (one x) (one y)) (λ x y. same_name (one x) (one y)) (λ x y. name_before (two x) (two y))
      (ranks_by nat_list_cmp_total one) (name_tie one) (ranks_by nat_list_cmp_total two)

  pub key_tie : IsTie before_by same_by
  key_tie = record {
    not_first = λ x y h.
        let both = and_parts (same_name (one x) (one y)) (same_name (two x) (two y)) h in
        or_from (name_before (one x) (one y)) (same_name (one x) (one y) && name_before (two x) (two y))
        ((name_tie one).not_first x y both.0)
        (and_right (same_name (one x) (one y)) (name_before (two x) (two y)) ((name_tie two).not_first x y both.1));
    not_second = λ x y h.
        let both = and_parts (same_name (one x) (one y)) (same_name (two x) (two y)) h in
        or_from (name_before (one y) (one x)) (same_name (one y) (one x) && name_before (two y) (two x))
        ((name_tie one).not_second x y both.0)
        (and_right (same_name (one y) (one x)) (name_before (two y) (two x)) ((name_tie two).not_second x y both.1));
    tells = λ x y h k.
        let p = or_parts (name_before (one x) (one y)) (same_name (one x) (one y) && name_before (two x) (two y)) h in
        let q = or_parts (name_before (one y) (one x)) (same_name (one y) (one x) && name_before (two y) (two x)) k in
        let ones = (name_tie one).tells x y p.0 q.0 in
        let back = (name_tie one).tells y x q.0 p.0 in
        and_from (same_name (one x) (one y)) (same_name (two x) (two y)) ones
        ((name_tie two).tells x y (second _ _ p.1 ones) (second _ _ q.1 back));
  }

abbrev class_of : LengthEntry → Name
class_of e = e.class

abbrev value_of : LengthEntry → Name
value_of e = e.value

-- stretches of one class and value
abbrev pub is_same : LengthEntry → LengthEntry → Bool
is_same a b = is_entry_of b.class b.value a

pub entry_ranks : IsStrictWeakOrder entry_before
entry_ranks =
    then_ranks (before_by class_of value_of) is_same (λ a b. nat_lt a.from b.from) (key_ranks class_of value_of) (key_tie class_of value_of)
    (IsStrictWeakOrder-by_number (λ (e : LengthEntry). e.from))

-- ---- what the order says of two stretches

not_behind_parts : (a b : LengthEntry) → not_behind a b ≡ true → (is_later b a ≡ false) × ((is_same b a && nat_lt b.from a.from) ≡ false)
not_behind_parts a b h = or_parts (is_later b a) (is_same b a && nat_lt b.from a.from) (not-true (entry_before b a) h)

-- of one class and value, they begin in their order
pub rise_together : (first a b : LengthEntry) → is_entry_of first.class first.value a ≡ true → is_entry_of first.class first.value b ≡ true → not_behind a b ≡ true → begins_by a b ≡ true
rise_together first a b p q h =
    let x = and_parts (same_name a.class first.class) (same_name a.value first.value) p in
    let y = and_parts (same_name b.class first.class) (same_name b.value first.value) q in
    let class = (bytes_decides b.class first.class).0 y.0 ∙ sym ((bytes_decides a.class first.class).0 x.0) in
    let value = (bytes_decides b.value first.value).0 y.1 ∙ sym ((bytes_decides a.value first.value).0 x.1) in
    let same : is_same b a ≡ true = and_from (same_name b.class a.class) (same_name b.value a.value) ((bytes_decides b.class a.class).1 class) ((bytes_decides b.value a.value).1 value) in
    le-leb a.from b.from (ltb-false b.from a.from (second (is_same b a) (nat_lt b.from a.from) (not_behind_parts a b h).1 same))

-- one of another class or value, that is not in front, comes later
pub is_behind : (first y : LengthEntry) → not_behind first y ≡ true → is_entry_of first.class first.value y ≡ false → is_later first y ≡ true
is_behind first y h other =
    true_from_ne_false (is_later first y) (λ n. both_ways (is_same y first) other ((key_tie class_of value_of).tells y first (not_behind_parts first y h).0 n))

-- what is not in front of a later one is later
pub still_later : (first y z : LengthEntry) → is_later first y ≡ true → not_behind y z ≡ true → is_later first z ≡ true
still_later first y z later h =
    true_from_ne_false (is_later first z) (λ n. both_ways (is_later first y) ((key_ranks class_of value_of).chain first z y n (not_behind_parts y z h).0) later)
