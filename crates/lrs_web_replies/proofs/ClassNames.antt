-- A text that is no class name, among many.
use Rattle.std.proofs.Common.{◌≡◌, ℕ, suc, zero, ◌+◌, ◌<◌, List, [], ◌∷◌, ◌++◌, length, map, take, get_or, Bool, true, false, ◌&&◌, refl, sym, ap, ◌∙◌, arith}
use Rattle.std.proofs.lemmas.List.{map_more}
use Rattle.std.proofs.lemmas.List.Folds.{list_all-append}
use Rattle.std.specs.Prelude.{IsTrue}
use Rattle.std.specs.Cow.{cow_str_bytes}
use Rattle.std.specs.List.{list_all}
use Rattle.std.specs.declared.borrow.CowStr.{CowStr}
use Rattle.lrs_events.specs.Names.{is_class_name}

both_first : (a b : Bool) → (a && b) ≡ true → a ≡ true
both_first true b h = refl
both_first false b h = h

both_second : (a b : Bool) → (a && b) ≡ true → b ≡ true
both_second true b h = h
both_second false b h = absurd (cc h)

all_at : {Z : Type 0} (texts : List (CowStr Z)) (i : ℕ) (d : CowStr Z) → i < length texts → list_all is_class_name (map cow_str_bytes texts) ≡ true
    → is_class_name (cow_str_bytes (get_or texts i d)) ≡ true
all_at [] i d low h = absurd (omega (arith, low))
all_at (x ∷ xs) zero d low h = both_first (is_class_name (cow_str_bytes x)) (list_all is_class_name (map cow_str_bytes xs)) h
all_at (x ∷ xs) (suc i) d low h =
    all_at xs i d (omega (arith, low)) (both_second (is_class_name (cow_str_bytes x)) (list_all is_class_name (map cow_str_bytes xs)) h)

-- where one text is no class name, not all are
pub not_all : {Z : Type 0} (texts : List (CowStr Z)) (i : ℕ) (item : CowStr Z) (bytes : List ℕ) → i < length texts → item ≡ get_or texts i item → bytes ≡ cow_str_bytes item
    → (IsTrue (is_class_name bytes) → ⊥) → IsTrue (list_all is_class_name (map cow_str_bytes texts)) → ⊥
not_all [] i item bytes low is at none all = absurd (omega (arith, low))
not_all (x ∷ xs) i item bytes low is at none all =
    none (ap is_class_name (at ∙ ap cow_str_bytes is) ∙ all_at (x ∷ xs) i item low all)

-- the texts that were gone through, and one more that is the name of a class
pub one_more : {Z : Type 0} (texts : List (CowStr Z)) (i : ℕ) (item : CowStr Z) (name : List ℕ) (names more : List (List ℕ)) → i < length texts → item ≡ get_or texts i item
    → is_class_name (cow_str_bytes item) ≡ true → name ≡ cow_str_bytes item → more ≡ names ++ name ∷ []
    → (names ≡ map cow_str_bytes (take i texts)) × (list_all is_class_name (map cow_str_bytes (take i texts)) ≡ true)
    → (more ≡ map cow_str_bytes (take (i + 1) texts)) × (list_all is_class_name (map cow_str_bytes (take (i + 1) texts)) ≡ true)
one_more texts i item name names more low at is same added before =
    let front = map cow_str_bytes (take i texts) in
    let next : map cow_str_bytes (take (i + 1) texts) ≡ front ++ cow_str_bytes item ∷ [] = map_more cow_str_bytes texts i item low ∙ ap (λ t. front ++ cow_str_bytes t ∷ []) (sym at) in (
      added ∙ ap (λ l. l ++ name ∷ []) before.0 ∙ ap (λ n. front ++ n ∷ []) same ∙ sym next,
      ap (list_all is_class_name) next ∙ list_all-append is_class_name front (cow_str_bytes item ∷ [])
          ∙ ap (λ b. b && (is_class_name (cow_str_bytes item) && true)) before.1 ∙ ap (λ b. b && true) is,
    )
