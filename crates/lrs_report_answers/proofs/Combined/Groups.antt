-- Entries of the same values in front of others: they are a group, and as one they stand in front in the table.
use Rattle.std.proofs.Common.{◌≡◌, ℕ, suc, ◌+◌, ◌<◌, ◌≤◌, ◌^◌, Bool, true, false, not, cond, List, [], ◌∷◌, ◌++◌, length, take, drop, get_or, sum_by, refl, sym, ap, ap₂, subst, ◌∙◌, arith, append_assoc, append-nil, take-append-drop}
use Rattle.std.specs.Prelude.{◌&&◌, ◌||◌}
use Rattle.std.specs.List.{list_all, list_any, prefix_len}
use Rattle.std.specs.Ordering.{is_lt}
use Rattle.std.proofs.lemmas.Bool.{both_ways, and_parts, and_from, or_left, false_from_ne_true, true_from_ne_false, not-true, not_from_false}
use Rattle.std.proofs.lemmas.List.Folds.{list_any-append, list_all-append}
use Rattle.std.proofs.lemmas.List.Sums.{prefix_len-le-length, sum_by-append, sum_by-cons}
use Rattle.lrs_measure.specs.Lists.{In, each_two}
use Rattle.lrs_measure.proofs.Members.{any_found, any_of, all_at, all_of, all_weaker}
use Rattle.lrs_machine.specs.Segments.{Values, same_values}
use Rattle.lrs_report_answers.specs.declared.combinations.Combination.{Combination}
use Rattle.lrs_report_answers.specs.declared.combinations.table.Part.{Part}
use Rattle.lrs_report_answers.specs.declared.combinations.table.Part.TheVariants as part
use Rattle.lrs_report_answers.specs.CombinationParts.{Fit, IsGroup, IsTable, has_values, is_ahead, not_behind, part_of, total_of, values_cmp}
use Rattle.lrs_report_answers.proofs.Combined.Order.{alike_level, level_alike, ranks, values_decide, values_equal, values_itself}
use Rattle.lrs_report_lists.proofs.Length.Tests.{front_passes, one_more, two-drop}

-- ---- the group in front

module _ (first : Combination) where
  abbrev is_alike : Combination → Bool
  is_alike c = has_values first.values c

  is_behind : (y : Combination) → not_behind first y ≡ true → is_alike y ≡ false → is_ahead first y ≡ true
  is_behind y h other = true_from_ne_false (is_ahead first y) (λ n. both_ways (is_alike y) other (level_alike y first (not-true (is_ahead y first) h) n))

  still_later : (y z : Combination) → is_ahead first y ≡ true → not_behind y z ≡ true → is_ahead first z ≡ true
  still_later y z later h = true_from_ne_false (is_ahead first z) (λ n. both_ways (is_ahead first y) (ranks.chain first z y n (not-true (is_ahead z y) h)) later)

  all_later : (y : Combination) (zs : List Combination) → is_ahead first y ≡ true → list_all (not_behind y) zs ≡ true → list_all (is_ahead first) zs ≡ true
  all_later y zs later order = all_weaker (not_behind y) (is_ahead first) zs (λ z h. still_later y z later h) order

  -- behind the front that is alike all come later
  rest_later : (xs : List Combination) → list_all (not_behind first) xs ≡ true → each_two not_behind xs ≡ true → list_all (is_ahead first) (drop (prefix_len is_alike xs) xs) ≡ true
  rest_later [] h order = refl
  rest_later (y ∷ ys) h order =
      let here = and_parts (not_behind first y) (list_all (not_behind first) ys) h in
      let up = and_parts (list_all (not_behind y) ys) (each_two not_behind ys) order in
      by (is_alike y) refl here.0 up.0 (rest_later ys here.1 up.1)
    where
      by : (b : Bool) → is_alike y ≡ b → not_behind first y ≡ true → list_all (not_behind y) ys ≡ true → list_all (is_ahead first) (drop (prefix_len is_alike ys) ys) ≡ true
          → list_all (is_ahead first) (drop (cond b (1 + prefix_len is_alike ys) 0) (y ∷ ys)) ≡ true
      by true e h up rest = ap (λ k. list_all (is_ahead first) (drop k (y ∷ ys))) (one_more (prefix_len is_alike ys)) ∙ rest
      by false e h up rest =
          let later = is_behind y h e in
          and_from (is_ahead first y) (list_all (is_ahead first) ys) later (all_later y ys later up)

  front_is : (xs : List Combination) → prefix_len is_alike (first ∷ xs) ≡ suc (prefix_len is_alike xs)
  front_is xs = ap (λ b. cond b (1 + prefix_len is_alike xs) 0) (values_itself first.values) ∙ one_more (prefix_len is_alike xs)

  group_of : (xs : List Combination) → each_two not_behind (first ∷ xs) ≡ true → IsGroup first (first ∷ xs) (prefix_len is_alike (first ∷ xs))
  group_of xs order =
      let all = first ∷ xs in
      let count = prefix_len is_alike all in
      let is = front_is xs in
      let both = and_parts (list_all (not_behind first) xs) (each_two not_behind xs) order in
      record {
        some = omega (arith, is);
        within = prefix_len-le-length is_alike all;
        has_first = ap (λ k. list_any is_alike (take k all)) is ∙ or_left (is_alike first) (list_any is_alike (take (prefix_len is_alike xs) xs)) (values_itself first.values);
        alike = front_passes is_alike all;
        later = ap (λ k. list_all (is_ahead first) (drop k all)) is ∙ rest_later xs both.0 both.1;
        order = two-drop not_behind count all order;
      }

  pub group_is : (entries : List Combination) (count : ℕ) → 0 < length entries → first ≡ get_or entries 0 first → each_two not_behind entries ≡ true → count ≡ prefix_len is_alike entries → IsGroup first entries count
  group_is [] count some is order e = absurd (omega (arith, some))
  group_is (x ∷ xs) count some is order e =
      subst (IsGroup first (x ∷ xs)) (sym e) (subst (λ (z : Combination). each_two not_behind (z ∷ xs) ≡ true → IsGroup first (z ∷ xs) (prefix_len is_alike (z ∷ xs))) is (group_of xs) order)

-- ---- totals

sums : (b : Bool) (x y z : ℕ) → z ≡ x + y → cond b x 0 + cond b y 0 ≡ cond b z 0
sums true x y z h = sym h
sums false x y z h = omega arith

pub total_none : (part : Part) (values : Values) (cs : List Combination) → list_all (λ c. not (has_values values c)) cs ≡ true → total_of part values cs ≡ 0
total_none part values [] h = refl
total_none part values (c ∷ cs) h =
    let both = and_parts (not (has_values values c)) (list_all (λ d. not (has_values values d)) cs) h in
    sum_by-cons (λ d. cond (has_values values d) (part_of part d) 0) c cs
    ∙ ap₂ (λ b n. cond b (part_of part c) 0 + n) (not-true (has_values values c) both.0) (total_none part values cs both.1)

-- one that comes later has other values
pub later_differs : (row c : Combination) → is_ahead row c ≡ true → has_values row.values c ≡ false
later_differs row c h = false_from_ne_true (has_values row.values c) (λ s.
    both_ways (is_ahead row c) (alike_level row c ((values_decide row.values c.values).1 (sym (values_equal c.values row.values s)))) h)

-- what has the values of one has those that it has, and no others
key_of : (row c : Combination) → has_values row.values c ≡ true → (values : Values) → has_values values c ≡ has_values values row
key_of row c h values = ap (λ v. same_values v values) (values_equal c.values row.values h)

module _ (row : Combination) (part : Part) (values : Values) where
  abbrev here : Combination → ℕ
  here c = cond (has_values values c) (part_of part c) 0

  alike_total : (group : List Combination) → list_all (has_values row.values) group ≡ true → total_of part values group ≡ cond (has_values values row) (sum_by (part_of part) group) 0
  alike_total [] h = by (has_values values row)
    where
      by : (b : Bool) → ◌≡◌ {A = ℕ} 0 (cond b 0 0)
      by true = refl
      by false = refl
  alike_total (c ∷ cs) h =
      let both = and_parts (has_values row.values c) (list_all (has_values row.values) cs) h in
      sum_by-cons here c cs
      ∙ ap₂ (λ b n. cond b (part_of part c) 0 + n) (key_of row c both.0 values) (alike_total cs both.1)
      ∙ sums (has_values values row) (part_of part c) (sum_by (part_of part) cs) (sum_by (part_of part) (c ∷ cs)) (sum_by-cons (part_of part) c cs)

-- ---- the table

module _ (group others : List Combination) (row : Combination) (some : list_any (has_values row.values) group ≡ true)
    (alike : list_all (has_values row.values) group ≡ true) (later : list_all (is_ahead row) others ≡ true) where
  -- the group is found by the values of its line
  group_key : (values : Values) → list_any (has_values values) group ≡ has_values values row
  group_key values = by (has_values values row) refl
    where
      by : (b : Bool) → has_values values row ≡ b → list_any (has_values values) group ≡ b
      by true e =
          let found = any_found (has_values row.values) group some in
          any_of (has_values values) found.0 group found.1 (key_of row found.0 found.2 values ∙ e)
      by false e = false_from_ne_true (list_any (has_values values) group) (λ h.
          let found = any_found (has_values values) group h in
          let mine = all_at (has_values row.values) found.0 group alike found.1 in
          both_ways (has_values values row) e (sym (key_of row found.0 mine values) ∙ found.2))

  pub own_sum : (part : Part) → sum_by (part_of part) group ≤ total_of part row.values (group ++ others)
  own_sum part =
      let whole = sum_by-append (λ c. cond (has_values row.values c) (part_of part c) 0) group others in
      let mine = alike_total row part row.values group alike ∙ ap (λ b. cond b (sum_by (part_of part) group) 0) (values_itself row.values) in
      omega (arith, whole, mine)

  module _ (more : List Combination) (table : IsTable others more) where
    ahead : (l : Combination) → In l more → is_ahead row l ≡ true
    ahead l m =
        let told = any_of (has_values l.values) l more m (values_itself l.values) in
        let found = any_found (has_values l.values) others (sym (table.exact l.values) ∙ told) in
        ap (λ v. is_lt (values_cmp row.values v)) (sym (values_equal found.0.values l.values found.2)) ∙ all_at (is_ahead row) found.0 others later found.1

    -- The line of the group in front of those of the others.
    pub line_in_front : ((part : Part) → part_of part row ≡ sum_by (part_of part) group) → IsTable (group ++ others) (row ∷ more)
    line_in_front is = record {
      order = (let front = all_of (is_ahead row) more ahead in and_from (list_all (is_ahead row) more) (each_two is_ahead more) front table.order);
      exact = λ values. sym (list_any-append (has_values values) group others ∙ (λ i. group_key values i || sym (table.exact values) i));
      totals = λ part values.
          sum_by-cons (λ c. cond (has_values values c) (part_of part c) 0) row more
          ∙ ap₂ (λ m n. cond (has_values values row) m 0 + n) (is part) (table.totals part values)
          ∙ ap (λ n. n + total_of part values others) (sym (alike_total row part values group alike))
          ∙ sym (sum_by-append (λ c. cond (has_values values c) (part_of part c) 0) group others);
    }

no_lines : IsTable [] []
no_lines = record { order = refl; exact = λ values. refl; totals = λ part values. refl }

-- ---- the loop

-- lines of what is left, behind those that are there, are lines of all
pub record Leads (entries rest lines : List Combination) : Type 0 where
  pub order : each_two not_behind rest ≡ true
  pub fits : Fit entries → Fit rest
  pub table : Fit entries → (more : List Combination) → IsTable rest more → IsTable entries (lines ++ more)

pub leads_first : (entries : List Combination) → each_two not_behind entries ≡ true → Leads entries entries []
leads_first entries order = record { order = order; fits = λ h. h; table = λ h more t. t }

module _ (entries rest lines : List Combination) (first : Combination) (count : ℕ) (row : Combination) (group others : List Combination)
    (leads : Leads entries rest lines) (is : IsGroup first rest count) (front : group ≡ take count rest) (rear : others ≡ drop count rest) (values : row.values ≡ first.values) where
  whole : group ++ others ≡ rest
  whole = (λ i. front i ++ rear i) ∙ take-append-drop count rest

  some_alike : list_any (has_values row.values) group ≡ true
  some_alike = (λ i. list_any (has_values (values i)) (front i)) ∙ is.has_first

  all_alike : list_all (has_values row.values) group ≡ true
  all_alike = (λ i. list_all (has_values (values i)) (front i)) ∙ is.alike

  all_behind : list_all (is_ahead row) others ≡ true
  all_behind = (λ i. list_all (λ c. is_lt (values_cmp (values i) c.values)) (rear i)) ∙ is.later

  fits_others : Fit rest → Fit others
  fits_others h part vs =
      let sum = sum_by-append (λ c. cond (has_values vs c) (part_of part c) 0) group others in
      let same = ap (total_of part vs) whole in
      let all = h part vs in
      omega (arith, sum, same, all)

  fits_group : Fit rest → (part : Part) → sum_by (part_of part) group < 2 ^ 64
  fits_group h part =
      let mine = own_sum group others row some_alike all_alike all_behind part in
      let same = ap (total_of part row.values) whole in
      let all = h part row.values in
      omega (arith, mine, same, all)

  pub leads_next : (sum_by (part_of part.Left) group < 2 ^ 64 → row.left ≡ sum_by (part_of part.Left) group)
      → (sum_by (part_of part.Right) group < 2 ^ 64 → row.right ≡ sum_by (part_of part.Right) group)
      → (sum_by (part_of part.Either) group < 2 ^ 64 → row.length ≡ sum_by (part_of part.Either) group) → Leads entries others (lines ++ row ∷ [])
  leads_next left right either = record {
    order = ap (each_two not_behind) rear ∙ is.order;
    fits = λ h. fits_others (leads.fits h);
    table = λ h more t.
        subst (IsTable entries) (sym (append_assoc lines (row ∷ []) more))
        (leads.table h (row ∷ more) (subst (λ (xs : List Combination). IsTable xs (row ∷ more)) whole (line_in_front group others row some_alike all_alike all_behind more t (sum_is (leads.fits h)))));
  }
    where
      sum_is : Fit rest → (part : Part) → part_of part row ≡ sum_by (part_of part) group
      sum_is h part.Left = left (fits_group h part.Left)
      sum_is h part.Right = right (fits_group h part.Right)
      sum_is h part.Either = either (fits_group h part.Either)

pub leads_end : (entries rest lines : List Combination) → Leads entries rest lines → length rest ≡ 0 → Fit entries → IsTable entries lines
leads_end entries [] lines leads none h = subst (IsTable entries) (append-nil lines) (leads.table h [] no_lines)
leads_end entries (x ∷ xs) lines leads none h = absurd (omega (arith, none))
