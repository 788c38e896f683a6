-- What is added up over stretches in the order of their starts is how many millimetres they hold.
use Rattle.std.proofs.Common.{◌≡◌, ℕ, ◌+◌, ◌-◌, ◌<◌, ◌≤◌, min, max, Bool, true, false, cond, ◌⊎◌, inl, inr, List, [], ◌∷◌, refl, sym, ap, ◌∙◌, arith, fold}
use Rattle.std.specs.Prelude.{◌&&◌, ◌||◌, nat_lt, nat_le}
use Rattle.std.specs.List.{list_all, list_any}
use Rattle.std.proofs.lemmas.Bool.{and_parts, and_left, cases_lt, lt-ltb, le-ltb, le-leb, lt-leb, leb-true, ltb-true}
use Rattle.lrs_measure.specs.Lists.{each_two}
use Rattle.lrs_measure.proofs.Members.{any_found, all_at}
use Rattle.lrs_events.specs.declared.side.Side.{Side}
use Rattle.lrs_report_lists.specs.declared.length_lists.entries.LengthEntry.{LengthEntry}
use Rattle.lrs_report_lists.specs.declared.length_lists.held_lengths.HeldLength.{HeldLength}
use Rattle.lrs_report_lists.specs.Length.Parts.{begins_by, ends_by, held, is_over, longer, nothing_held}
use Rattle.lrs_report_lists.proofs.Length.Counts.{count, count-agree, count-between, count-none, count-or, is_between}
use Rattle.lrs_report_lists.proofs.Length.Tests.{and_nothing}

-- one stretch more holds what lies behind the end of those before it, and the others what lies behind its end
new_or_later : (from to end x : ℕ) (a : Bool) → (a ≡ true → from ≤ x)
    → (nat_le end x && ((nat_le from x && nat_lt x to && true) || a)) ≡ (is_between (max from end) to x || (nat_le (max end to) x && a))
new_or_later from to end x true h = by (h refl) (cases_lt x end) (cases_lt x to)
  where
    by : from ≤ x → (x < end) ⊎ (end ≤ x) → (x < to) ⊎ (to ≤ x)
        → (nat_le end x && ((nat_le from x && nat_lt x to && true) || true)) ≡ (is_between (max from end) to x || (nat_le (max end to) x && true))
    by f (inl e) t =
        let one : x < max from end = omega (arith, e) in
        let two : x < max end to = omega (arith, e) in
        (λ i. lt-leb end x e i && ((nat_le from x && nat_lt x to && true) || true)) ∙ sym (λ i. (lt-leb (max from end) x one i && nat_lt x to) || (lt-leb (max end to) x two i && true))
    by f (inr e) (inl t) =
        let one : max from end ≤ x = omega (arith, e, f) in
        (λ i. le-leb end x e i && ((le-leb from x f i && lt-ltb x to t i && true) || true)) ∙ sym (λ i. (le-leb (max from end) x one i && lt-ltb x to t i) || (nat_le (max end to) x && true))
    by f (inr e) (inr t) =
        let one : max from end ≤ x = omega (arith, e, f) in
        let two : max end to ≤ x = omega (arith, e, t) in
        (λ i. le-leb end x e i && ((le-leb from x f i && le-ltb x to t i && true) || true)) ∙ sym (λ i. (le-leb (max from end) x one i && le-ltb x to t i) || (le-leb (max end to) x two i && true))
new_or_later from to end x false h = by (cases_lt x end) (cases_lt x from) (cases_lt x to)
  where
    by : (x < end) ⊎ (end ≤ x) → (x < from) ⊎ (from ≤ x) → (x < to) ⊎ (to ≤ x)
        → (nat_le end x && ((nat_le from x && nat_lt x to && true) || false)) ≡ (is_between (max from end) to x || (nat_le (max end to) x && false))
    by (inl e) f t =
        let one : x < max from end = omega (arith, e) in
        let two : x < max end to = omega (arith, e) in
        (λ i. lt-leb end x e i && ((nat_le from x && nat_lt x to && true) || false)) ∙ sym (λ i. (lt-leb (max from end) x one i && nat_lt x to) || (lt-leb (max end to) x two i && false))
    by (inr e) (inl f) t =
        let one : x < max from end = omega (arith, f) in
        (λ i. le-leb end x e i && ((lt-leb from x f i && nat_lt x to && true) || false)) ∙ sym ((λ i. (lt-leb (max from end) x one i && nat_lt x to) || (nat_le (max end to) x && false)) ∙ and_nothing (nat_le (max end to) x))
    by (inr e) (inr f) (inl t) =
        let one : max from end ≤ x = omega (arith, e, f) in
        (λ i. le-leb end x e i && ((le-leb from x f i && lt-ltb x to t i && true) || false)) ∙ sym (λ i. (le-leb (max from end) x one i && lt-ltb x to t i) || (nat_le (max end to) x && false))
    by (inr e) (inr f) (inr t) =
        let one : max from end ≤ x = omega (arith, e, f) in
        let two : max end to ≤ x = omega (arith, e, t) in
        (λ i. le-leb end x e i && ((le-leb from x f i && le-ltb x to t i && true) || false)) ∙ sym (λ i. (le-leb (max from end) x one i && le-ltb x to t i) || (le-leb (max end to) x two i && false))

module _ (counted : Side → Bool) (n : ℕ) where
  abbrev longer_by : HeldLength → LengthEntry → HeldLength
  longer_by t e = longer counted t e

  -- what the stretches hold behind a chainage
  abbrev held_behind : ℕ → List LengthEntry → ℕ
  held_behind end es = count (λ x. nat_le end x && list_any (is_over counted x) es) 0 n

  none_behind : (end : ℕ) → held_behind end [] ≡ 0
  none_behind end = count-agree (λ x. nat_le end x && false) (λ x. false) 0 n (λ x. and_nothing (nat_le end x)) ∙ count-none 0 n

  -- a stretch on another side
  passed_over : (end : ℕ) (e : LengthEntry) (es : List LengthEntry) → counted e.side ≡ false → held_behind end (e ∷ es) ≡ held_behind end es
  passed_over end e es off =
      count-agree (λ x. nat_le end x && list_any (is_over counted x) (e ∷ es)) (λ x. nat_le end x && list_any (is_over counted x) es) 0 n
      (λ x. (λ i. nat_le end x && ((nat_le e.from x && nat_lt x e.to && off i) || list_any (is_over counted x) es))
      ∙ ap (λ b. nat_le end x && (b || list_any (is_over counted x) es)) (and_nothing (nat_le e.from x && nat_lt x e.to)))

  -- the others begin no earlier
  begins : (e : LengthEntry) (es : List LengthEntry) (x : ℕ) → list_all (begins_by e) es ≡ true → list_any (is_over counted x) es ≡ true → e.from ≤ x
  begins e es x order some =
      let found = any_found (is_over counted x) es some in
      let a = found.0 in
      let later = leb-true e.from a.from (all_at (begins_by e) a es order found.1) in
      let over = and_parts (nat_le a.from x && nat_lt x a.to) (counted a.side) found.2 in
      let low = leb-true a.from x (and_parts (nat_le a.from x) (nat_lt x a.to) over.0).0 in
      omega (arith, later, low)

  one_more : (end : ℕ) (e : LengthEntry) (es : List LengthEntry) → counted e.side ≡ true → list_all (begins_by e) es ≡ true → e.to ≤ n
      → held_behind end (e ∷ es) ≡ (e.to - max e.from end) + held_behind (max end e.to) es
  one_more end e es on order within =
      let new = is_between (max e.from end) e.to in
      let others = λ (x : ℕ). nat_le (max end e.to) x && list_any (is_over counted x) es in
      let split = count-agree (λ x. nat_le end x && list_any (is_over counted x) (e ∷ es)) (λ x. new x || others x) 0 n
      (λ x. (λ i. nat_le end x && ((nat_le e.from x && nat_lt x e.to && on i) || list_any (is_over counted x) es))
      ∙ new_or_later e.from e.to end x (list_any (is_over counted x) es) (begins e es x order)) in
      let apart : (x : ℕ) → new x ≡ true → others x ≡ false = λ x h.
      let low = ltb-true x e.to (and_parts (nat_le (max e.from end) x) (nat_lt x e.to) h).1 in
      and_left (nat_le (max end e.to) x) (list_any (is_over counted x) es) (lt-leb (max end e.to) x (omega (arith, low))) in
      let sizes : min e.to (0 + n) - max (max e.from end) 0 ≡ e.to - max e.from end = omega (arith, within) in
      split ∙ count-or new others 0 n apart ∙ ap (λ k. k + held_behind (max end e.to) es) (count-between (max e.from end) e.to 0 n ∙ sizes)

  added_up : (t : HeldLength) (es : List LengthEntry) → each_two begins_by es ≡ true → list_all (ends_by n) es ≡ true
      → (fold longer_by t es).total ≡ t.total + held_behind t.end es
  added_up t [] order ends = let none = none_behind t.end in omega (arith, none)
  added_up t (e ∷ es) order ends =
      let later = and_parts (list_all (begins_by e) es) (each_two begins_by es) order in
      let within = and_parts (ends_by n e) (list_all (ends_by n) es) ends in
      by (counted e.side) refl later.0 (leb-true e.to n within.0) (added_up t es later.1 within.1)
      (added_up (record { total = t.total + (e.to - max e.from t.end); end = max t.end e.to }) es later.1 within.1)
    where
      by : (b : Bool) → counted e.side ≡ b → list_all (begins_by e) es ≡ true → e.to ≤ n → (fold longer_by t es).total ≡ t.total + held_behind t.end es
          → (fold longer_by (record { total = t.total + (e.to - max e.from t.end); end = max t.end e.to }) es).total
          ≡ (t.total + (e.to - max e.from t.end)) + held_behind (max t.end e.to) es
          → (fold longer_by (cond b (record { total = t.total + (e.to - max e.from t.end); end = max t.end e.to }) t) es).total ≡ t.total + held_behind t.end (e ∷ es)
      by true on order within same more = let one = one_more t.end e es on order within in omega (arith, more, one)
      by false on order within same more = let none = passed_over t.end e es on in omega (arith, same, none)

  -- From the start on it is what they hold.
  pub swept : (es : List LengthEntry) → each_two begins_by es ≡ true → list_all (ends_by n) es ≡ true → (fold longer_by nothing_held es).total ≡ held counted es n
  swept es order ends =
      let all = added_up nothing_held es order ends in
      let from_start = count-agree (λ x. nat_le 0 x && list_any (is_over counted x) es) (λ x. list_any (is_over counted x) es) 0 n
      (λ x i. le-leb 0 x (omega arith) i && list_any (is_over counted x) es) in
      omega (arith, all, from_start)
