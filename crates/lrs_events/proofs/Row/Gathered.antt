-- Rows in order, row by row.
use Rattle.std.proofs.Common.{◌≡◌, ℕ, zero, suc, ◌+◌, ◌<◌, ◌≤◌, Bool, true, false, ◌⊎◌, inl, inr, List, [], ◌∷◌, length, get_or, take, drop, refl, sym, ap, subst, ◌∙◌}
use Rattle.std.specs.Prelude.{◌||◌, not, nat_eq}
use Rattle.std.specs.List.{list_all}
use Rattle.std.specs.Cmp.Lexicographic.{bytes_decides}
use Rattle.std.proofs.lemmas.Bool.{and_parts, or_cases, both_ways, not-true, eq-eqb}
use Rattle.std.proofs.lemmas.List.{take_more, drop_more, take_all}
use Rattle.std.proofs.lemmas.List.Folds.{list_any-append}
use Rattle.lrs_measure.specs.Lists.{In, each_two}
use Rattle.lrs_measure.specs.Texts.{same_name}
use Rattle.lrs_measure.proofs.Members.{all_at}
use Rattle.lrs_measure.proofs.Places.{member_at}
use Rattle.lrs_events.specs.declared.span.Span.{Span}
use Rattle.lrs_events.specs.Spans.{are_rows, is_row}
use Rattle.lrs_events.specs.Members.{has_member, is_member, SameMembers}
use Rattle.lrs_events.specs.Row.Members.{IsMore}
use Rattle.lrs_events.specs.Row.Order.{IsLeft, IsBehind, StaysBehind}
use Rattle.lrs_events.specs.Row.Clips.{is_left, follows, are_in_order}
use Rattle.lrs_events.proofs.Row.Places.{left_from}

-- how far the rows are merged
pub record IsMerged (rows : List Span) (i : ℕ) (out : List Span) : Type 0 where
  pub kept : are_rows out ≡ true
  pub same : SameMembers (take i rows) out
  pub behind : (s : Span) → In s (drop i rows) → IsBehind out s

pub merged_none : (rows : List Span) → IsMerged rows 0 []
merged_none rows = record { kept = refl; same = λ class asset j s. refl; behind = λ s m. record { left = λ r n. absurd n; one_class = λ r n. absurd n } }

each_two_drop : {X : Type 0} (test : X → X → Bool) (n : ℕ) (xs : List X) → each_two test xs ≡ true → each_two test (drop n xs) ≡ true
each_two_drop test zero xs h = h
each_two_drop test (suc n) [] h = refl
each_two_drop test (suc n) (x ∷ xs) h = each_two_drop test n xs (and_parts (list_all (test x) xs) (each_two test xs) h).1

follows_behind : (r s : Span) → follows r s ≡ true → IsBehind (r ∷ []) s
follows_behind r s h = record { left = λ q m. left q m; one_class = λ q m a. one q m a }
  where
    left : (q : Span) → In q (r ∷ []) → IsLeft q s
    left q (inl e) = subst (λ z. IsLeft z s) (sym e) (left_from r s (and_parts (is_left r s) (not (nat_eq r.asset s.asset) || same_name r.class s.class) h).0)
    left q (inr m) = absurd m

    class_of : r.asset ≡ s.asset → (not (nat_eq r.asset s.asset) ≡ true) ⊎ (same_name r.class s.class ≡ true) → r.class ≡ s.class
    class_of a (inl k) = absurd (both_ways (nat_eq r.asset s.asset) (not-true (nat_eq r.asset s.asset) k) (eq-eqb r.asset s.asset a))
    class_of a (inr k) = (bytes_decides r.class s.class).0 k

    one : (q : Span) → In q (r ∷ []) → q.asset ≡ s.asset → q.class ≡ s.class
    one q (inl e) a = ap (λ z. z.class) e ∙ class_of (sym (ap (λ z. z.asset) e) ∙ a) (or_cases (not (nat_eq r.asset s.asset)) (same_name r.class s.class) (and_parts (is_left r s) (not (nat_eq r.asset s.asset) || same_name r.class s.class) h).1)
    one q (inr m) a = absurd m

rest_is : (rows : List Span) (i : ℕ) (r : Span) → i < length rows → r ≡ get_or rows i r → drop i rows ≡ r ∷ drop (i + 1) rows
rest_is rows i r h e = drop_more rows i r h ∙ (λ k. sym e k ∷ drop (i + 1) rows)

-- the next row may be pushed
pub next_behind : (rows : List Span) (i : ℕ) (out : List Span) (r : Span) → i < length rows → r ≡ get_or rows i r → IsMerged rows i out → IsBehind out r
next_behind rows i out r h e m = m.behind r (subst (In r) (sym (rest_is rows i r h e)) (inl refl))

pub next_row : (rows : List Span) (i : ℕ) (r : Span) → i < length rows → r ≡ get_or rows i r → are_in_order rows ≡ true → is_row r ≡ true
next_row rows i r h e o = all_at is_row r rows (and_parts (list_all is_row rows) (each_two follows rows) o).0 (subst (λ z. In z rows) (sym e) (member_at rows i r h))

pub merged_more : (rows : List Span) (i : ℕ) (out new : List Span) (r : Span) → i < length rows → r ≡ get_or rows i r → are_in_order rows ≡ true → IsMerged rows i out
    → are_rows new ≡ true → IsMore out r new → StaysBehind out r new → IsMerged rows (i + 1) new
merged_more rows i out new r h e o m k more stays = record {
  kept = k;
  same = λ class asset j s.
      (λ n. is_member (take_more rows i r h n) class asset j s)
      ∙ list_any-append (λ q. has_member q class asset j s) (take i rows) (get_or rows i r ∷ [])
      ∙ (λ n. is_member (take i rows) class asset j s || or_nothing (has_member (sym e n) class asset j s) n)
      ∙ (λ n. m.same class asset j s n || has_member r class asset j s)
      ∙ sym (more class asset j s);
  behind = λ s n. stays.stays s (m.behind s (subst (In s) (sym (rest_is rows i r h e)) (inr n))) (follows_behind r s (all_at (follows r) s (drop (i + 1) rows) (heads s n) n));
}
  where
    or_nothing : (b : Bool) → (b || false) ≡ b
    or_nothing true = refl
    or_nothing false = refl

    heads : (s : Span) → In s (drop (i + 1) rows) → list_all (follows r) (drop (i + 1) rows) ≡ true
    heads s n = (and_parts (list_all (follows r) (drop (i + 1) rows)) (each_two follows (drop (i + 1) rows))
        (subst (λ z. each_two follows z ≡ true) (rest_is rows i r h e) (each_two_drop follows i rows (and_parts (list_all is_row rows) (each_two follows rows) o).1))).0

pub merged_all : (rows : List Span) (i : ℕ) (out : List Span) → length rows ≤ i → IsMerged rows i out → SameMembers rows out
merged_all rows i out h m class asset j s = (λ n. is_member (sym (take_all i rows h) n) class asset j s) ∙ m.same class asset j s
