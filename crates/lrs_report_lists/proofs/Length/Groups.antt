-- Stretches of one class and value in front of others: they are a group, and their lengths stand in front in the table.
use Rattle.std.proofs.Common.{◌≡◌, ℕ, suc, ◌+◌, ◌<◌, Bool, true, false, not, cond, List, [], ◌∷◌, ◌++◌, length, take, drop, get_or, refl, sym, ap, ap₂, subst, ◌∙◌, arith, append_assoc, append-nil, take-append-drop}
use Rattle.std.specs.Prelude.{◌&&◌, ◌||◌, nat_eq}
use Rattle.std.specs.List.{list_all, list_any, prefix_len, count_by, range_with_len, AllByRecursion}
use Rattle.std.specs.Cmp.Lexicographic.{bytes_decides}
use Rattle.std.proofs.lemmas.Bool.{both_ways, and_parts, and_from, or_left, false_from_ne_true, not_from_false}
use Rattle.std.proofs.lemmas.List.Folds.{list_any-append, list_all-append}
use Rattle.std.proofs.lemmas.List.Sums.{prefix_len-le-length}
use Rattle.lrs_measure.specs.Lists.{In, each_two}
use Rattle.lrs_measure.specs.Texts.{Name, same_name}
use Rattle.lrs_measure.proofs.Members.{any_found, any_of, all_at, all_of, all_weaker}
use Rattle.lrs_events.specs.declared.class.Asset.{Asset}
use Rattle.lrs_events.specs.declared.side.Side.{Side}
use Rattle.lrs_machine.specs.Sound.{asset_before}
use Rattle.lrs_report_lists.specs.declared.length_lists.entries.LengthEntry.{LengthEntry}
use Rattle.lrs_report_lists.specs.declared.length_lists.table.ValueLength.{ValueLength}
use Rattle.lrs_report_lists.specs.Length.Lengths.{has_either, has_left, has_right, is_length_of, key_before, length_before}
use Rattle.lrs_report_lists.specs.Length.Parts.{HasHeld, IsGroup, IsTable, begins_by, ends_by, held, held_by, holders, holders_by, is_entry_of, is_held_by, is_later, is_over, not_behind}
use Rattle.lrs_report_lists.proofs.Length.Ranks.{before_by, is_behind, key_tie, rise_together, same_by, still_later}
use Rattle.lrs_report_lists.proofs.Length.Tests.{any-all, any-none, front_passes, one_more, or_nothing, two-drop, two-take, two-weaker}

-- ---- the group in front

own_name : (c : Name) → same_name c c ≡ true
own_name c = (bytes_decides c c).1 refl

own_key : (e : LengthEntry) → is_entry_of e.class e.value e ≡ true
own_key e = and_from (same_name e.class e.class) (same_name e.value e.value) (own_name e.class) (own_name e.value)

module _ (first : LengthEntry) where
  abbrev is_alike : LengthEntry → Bool
  is_alike e = is_entry_of first.class first.value e

  all_later : (y : LengthEntry) (zs : List LengthEntry) → is_later first y ≡ true → list_all (not_behind y) zs ≡ true → list_all (is_later first) zs ≡ true
  all_later y zs later order = all_weaker (not_behind y) (is_later first) zs (λ z h. still_later first y z later h) order

  -- behind the front that is alike all come later
  rest_later : (xs : List LengthEntry) → list_all (not_behind first) xs ≡ true → each_two not_behind xs ≡ true → list_all (is_later first) (drop (prefix_len is_alike xs) xs) ≡ true
  rest_later [] h order = refl
  rest_later (y ∷ ys) h order =
      let here = and_parts (not_behind first y) (list_all (not_behind first) ys) h in
      let up = and_parts (list_all (not_behind y) ys) (each_two not_behind ys) order in
      by (is_alike y) refl here.0 up.0 (rest_later ys here.1 up.1)
    where
      by : (b : Bool) → is_alike y ≡ b → not_behind first y ≡ true → list_all (not_behind y) ys ≡ true → list_all (is_later first) (drop (prefix_len is_alike ys) ys) ≡ true
          → list_all (is_later first) (drop (cond b (1 + prefix_len is_alike ys) 0) (y ∷ ys)) ≡ true
      by true e h up rest = ap (λ k. list_all (is_later first) (drop k (y ∷ ys))) (one_more (prefix_len is_alike ys)) ∙ rest
      by false e h up rest =
          let later = is_behind first y h e in
          and_from (is_later first y) (list_all (is_later first) ys) later (all_later y ys later up)

  front_is : (xs : List LengthEntry) → prefix_len is_alike (first ∷ xs) ≡ suc (prefix_len is_alike xs)
  front_is xs = ap (λ b. cond b (1 + prefix_len is_alike xs) 0) (own_key first) ∙ one_more (prefix_len is_alike xs)

  group_of : (xs : List LengthEntry) → each_two not_behind (first ∷ xs) ≡ true → IsGroup first (first ∷ xs) (prefix_len is_alike (first ∷ xs))
  group_of xs order =
      let all = first ∷ xs in
      let count = prefix_len is_alike all in
      let is = front_is xs in
      let both = and_parts (list_all (not_behind first) xs) (each_two not_behind xs) order in
      let alike = front_passes is_alike all in
      record {
        some = omega (arith, is);
        within = prefix_len-le-length is_alike all;
        has_first = ap (λ k. list_any is_alike (take k all)) is ∙ or_left (is_alike first) (list_any is_alike (take (prefix_len is_alike xs) xs)) (own_key first);
        alike = alike;
        rises = two-weaker is_alike not_behind begins_by (take count all) (λ a b p q h. rise_together first a b p q h) alike (two-take not_behind count all order);
        later = ap (λ k. list_all (is_later first) (drop k all)) is ∙ rest_later xs both.0 both.1;
        order = two-drop not_behind count all order;
      }

  pub group_is : (entries : List LengthEntry) (count : ℕ) → 0 < length entries → first ≡ get_or entries 0 first → each_two not_behind entries ≡ true → count ≡ prefix_len is_alike entries → IsGroup first entries count
  group_is [] count some is order e = absurd (omega (arith, some))
  group_is (x ∷ xs) count some is order e =
      subst (IsGroup first (x ∷ xs)) (sym e) (subst (λ (z : LengthEntry). each_two not_behind (z ∷ xs) ≡ true → IsGroup first (z ∷ xs) (prefix_len is_alike (z ∷ xs))) is (group_of xs) order)

-- ---- the table

-- class and value of a line, and of a stretch
abbrev pub Key : Type 0
Key = Name × Name

abbrev one : Key → Name
one k = k.0

abbrev two : Key → Name
two k = k.1

not_same : (a b : Key) → before_by one two a b ≡ true → same_by one two b a ≡ false
not_same a b h = false_from_ne_true (same_by one two b a) (λ s. both_ways (before_by one two a b) ((key_tie one two).not_second b a s) h)

not_alike : (a b : Key) → before_by one two a b ≡ true → same_by one two a b ≡ false
not_alike a b h = false_from_ne_true (same_by one two a b) (λ s. both_ways (before_by one two a b) ((key_tie one two).not_first a b s) h)

-- what has one class and value, and not another
same_key : (c v d w : Name) (e : LengthEntry) → is_entry_of c v e ≡ true → is_entry_of d w e ≡ (same_name c d && same_name v w)
same_key c v d w e h =
    let both = and_parts (same_name e.class c) (same_name e.value v) h in
    ap₂ (λ x y. same_name x d && same_name y w) ((bytes_decides e.class c).0 both.0) ((bytes_decides e.value v).0 both.1)

module _ (group others : List LengthEntry) (row : ValueLength) (some : list_any (is_entry_of row.class row.value) group ≡ true)
    (alike : list_all (is_entry_of row.class row.value) group ≡ true) (later : list_all (λ e. key_before row.class row.value e.class e.value) others ≡ true) where
  abbrev is_row : LengthEntry → Bool
  is_row e = is_entry_of row.class row.value e

  -- the group is found by the class and the value of its line
  group_key : (class value : Name) → list_any (is_entry_of class value) group ≡ is_length_of class value row
  group_key class value = by (is_length_of class value row) refl
    where
      by : (b : Bool) → is_length_of class value row ≡ b → list_any (is_entry_of class value) group ≡ b
      by true e =
          let found = any_found is_row group some in
          any_of (is_entry_of class value) found.0 group found.1 (same_key row.class row.value class value found.0 found.2 ∙ e)
      by false e = false_from_ne_true (list_any (is_entry_of class value) group) (λ h.
          let found = any_found (is_entry_of class value) group h in
          let mine = all_at is_row found.0 group alike found.1 in
          both_ways (is_length_of class value row) e (sym (same_key row.class row.value class value found.0 mine) ∙ found.2))

  others_differ : list_all (λ e. not (is_row e)) others ≡ true
  others_differ = all_weaker (λ e. key_before row.class row.value e.class e.value) (λ e. not (is_row e)) others
      (λ e h. not_from_false (is_row e) (not_same (row.class, row.value) (e.class, e.value) h)) later

  group_differs : (l : ValueLength) → length_before row l ≡ true → list_all (λ e. not (is_entry_of l.class l.value e)) group ≡ true
  group_differs l h = all_weaker is_row (λ e. not (is_entry_of l.class l.value e)) group
      (λ e mine. not_from_false (is_entry_of l.class l.value e) (same_key row.class row.value l.class l.value e mine ∙ not_alike (row.class, row.value) (l.class, l.value) h)) alike

  -- what some stretch of the group does, some stretch of its class and value does
  own_any : (does : LengthEntry → Bool) → list_any (λ e. is_row e && does e) (group ++ others) ≡ list_any does group
  own_any does =
      list_any-append (λ e. is_row e && does e) group others
      ∙ (λ i. any-all is_row does group alike i || any-none is_row does others others_differ i)
      ∙ or_nothing (list_any does group)

  -- what the group holds is what is held by its class and value
  own_held : (counted : Side → Bool) (n : ℕ) → held_by counted row.class row.value (group ++ others) n ≡ held counted group n
  own_held counted n = λ i. count_by (λ x. own_any (is_over counted x) i) (range_with_len 0 n)

  -- ... and the assets that hold it are those of its class and value
  own_holders : (assets : List Asset) → holders_by row.class row.value (group ++ others) assets ≡ holders group assets
  own_holders assets = λ i. count_by (λ a. own_any (λ e. nat_eq e.asset a.number) i) assets

  -- what some stretch of another line does, some of the others does
  other_any : (does : LengthEntry → Bool) (l : ValueLength) → length_before row l ≡ true
      → list_any (λ e. is_entry_of l.class l.value e && does e) (group ++ others) ≡ list_any (λ e. is_entry_of l.class l.value e && does e) others
  other_any does l h =
      list_any-append (λ e. is_entry_of l.class l.value e && does e) group others
      ∙ ap (λ b. b || list_any (λ e. is_entry_of l.class l.value e && does e) others) (any-none (is_entry_of l.class l.value) does group (group_differs l h))

  -- the others hold what they held
  other_held : (counted : Side → Bool) (n : ℕ) (l : ValueLength) → length_before row l ≡ true → held_by counted l.class l.value (group ++ others) n ≡ held_by counted l.class l.value others n
  other_held counted n l h = λ i. count_by (λ x. other_any (is_over counted x) l h i) (range_with_len 0 n)

  -- ... and are held by the assets that held them
  other_holders : (assets : List Asset) (l : ValueLength) → length_before row l ≡ true → holders_by l.class l.value (group ++ others) assets ≡ holders_by l.class l.value others assets
  other_holders assets l h = λ i. count_by (λ a. other_any (λ e. nat_eq e.asset a.number) l h i) assets

  module _ (n : ℕ) (assets : List Asset) (more : List ValueLength) (table : IsTable n assets others more) where
    ahead : (l : ValueLength) → In l more → length_before row l ≡ true
    ahead l m =
        let own = and_from (same_name l.class l.class) (same_name l.value l.value) (own_name l.class) (own_name l.value) in
        let told = any_of (is_length_of l.class l.value) l more m own in
        let found = any_found (is_entry_of l.class l.value) others (sym (table.exact l.class l.value) ∙ told) in
        let e = found.0 in
        let both = and_parts (same_name e.class l.class) (same_name e.value l.value) found.2 in
        ap₂ (λ x y. key_before row.class row.value x y) (sym ((bytes_decides e.class l.class).0 both.0)) (sym ((bytes_decides e.value l.value).0 both.1))
        ∙ all_at (λ f. key_before row.class row.value f.class f.value) e others later found.1

    kept : (ls : List ValueLength) → list_all (length_before row) ls ≡ true → AllByRecursion (HasHeld n assets others) ls → AllByRecursion (HasHeld n assets (group ++ others)) ls
    kept [] h all = tt
    kept (l ∷ ls) h all =
        let both = and_parts (length_before row l) (list_all (length_before row) ls) h in (
          record {
            left_is = all.0.left_is ∙ sym (other_held has_left n l both.0);
            right_is = all.0.right_is ∙ sym (other_held has_right n l both.0);
            length_is = all.0.length_is ∙ sym (other_held has_either n l both.0);
            assets_is = all.0.assets_is ∙ sym (other_holders assets l both.0);
          },
          kept ls both.1 all.1,
        )

    -- The line of the group in front of those of the others.
    pub line_in_front : row.left ≡ held has_left group n → row.right ≡ held has_right group n → row.length ≡ held has_either group n → row.assets ≡ holders group assets → IsTable n assets (group ++ others) (row ∷ more)
    line_in_front left right either count =
        let front = all_of (length_before row) more ahead in
        record {
          order = and_from (list_all (length_before row) more) (each_two length_before more) front table.order;
          exact = λ class value.
              sym (list_any-append (is_entry_of class value) group others
              ∙ (λ i. group_key class value i || sym (table.exact class value) i));
          counts = (
            record {
              left_is = left ∙ sym (own_held has_left n);
              right_is = right ∙ sym (own_held has_right n);
              length_is = either ∙ sym (own_held has_either n);
              assets_is = count ∙ sym (own_holders assets);
            },
            kept more front table.counts,
          );
        }

pub no_lines : (n : ℕ) (assets : List Asset) → IsTable n assets [] []
no_lines n assets = record { order = refl; exact = λ class value. refl; counts = tt }

-- ---- the loop

-- lines of what is left, behind those that are there, are lines of all
pub record Leads (entries rest : List LengthEntry) (lines : List ValueLength) : Type 0 where
  pub order : each_two not_behind rest ≡ true
  pub ends : (n : ℕ) → list_all (ends_by n) entries ≡ true → list_all (ends_by n) rest ≡ true
  pub known : (assets : List Asset) → list_all (is_held_by assets) entries ≡ true → list_all (is_held_by assets) rest ≡ true
  pub table : (n : ℕ) (assets : List Asset) → list_all (ends_by n) entries ≡ true → each_two asset_before assets ≡ true → list_all (is_held_by assets) entries ≡ true
      → (more : List ValueLength) → IsTable n assets rest more → IsTable n assets entries (lines ++ more)

pub leads_first : (entries : List LengthEntry) → each_two not_behind entries ≡ true → Leads entries entries []
leads_first entries order = record { order = order; ends = λ n h. h; known = λ assets h. h; table = λ n assets h o k more t. t }

pub leads_next : (entries rest : List LengthEntry) (lines : List ValueLength) (first : LengthEntry) (count : ℕ) (row : ValueLength) (group others : List LengthEntry)
    → Leads entries rest lines → IsGroup first rest count → group ≡ take count rest → others ≡ drop count rest
    → row.class ≡ first.class → row.value ≡ first.value
    → ((n : ℕ) → list_all (ends_by n) group ≡ true → row.left ≡ held has_left group n)
    → ((n : ℕ) → list_all (ends_by n) group ≡ true → row.right ≡ held has_right group n)
    → ((n : ℕ) → list_all (ends_by n) group ≡ true → row.length ≡ held has_either group n)
    → ((assets : List Asset) → each_two asset_before assets ≡ true → list_all (is_held_by assets) group ≡ true → row.assets ≡ holders group assets)
    → Leads entries others (lines ++ row ∷ [])
leads_next entries rest lines first count row group others leads is g o class value left right either holds =
    let whole : rest ≡ group ++ others = sym ((λ i. g i ++ o i) ∙ take-append-drop count rest) in
    let ends : (n : ℕ) → list_all (ends_by n) entries ≡ true → (list_all (ends_by n) group ≡ true) × (list_all (ends_by n) others ≡ true) = λ n h.
    and_parts (list_all (ends_by n) group) (list_all (ends_by n) others) (sym (list_all-append (ends_by n) group others) ∙ ap (list_all (ends_by n)) (sym whole) ∙ leads.ends n h) in
    let known : (assets : List Asset) → list_all (is_held_by assets) entries ≡ true → (list_all (is_held_by assets) group ≡ true) × (list_all (is_held_by assets) others ≡ true) = λ assets h.
    and_parts (list_all (is_held_by assets) group) (list_all (is_held_by assets) others) (sym (list_all-append (is_held_by assets) group others) ∙ ap (list_all (is_held_by assets)) (sym whole) ∙ leads.known assets h) in
    let some : list_any (is_entry_of row.class row.value) group ≡ true = (λ i. list_any (is_entry_of (class i) (value i)) (g i)) ∙ is.has_first in
    let alike : list_all (is_entry_of row.class row.value) group ≡ true = (λ i. list_all (is_entry_of (class i) (value i)) (g i)) ∙ is.alike in
    let later : list_all (λ e. key_before row.class row.value e.class e.value) others ≡ true = (λ i. list_all (λ e. key_before (class i) (value i) e.class e.value) (o i)) ∙ is.later in
    record {
      order = ap (each_two not_behind) o ∙ is.order;
      ends = λ n h. (ends n h).1;
      known = λ assets h. (known assets h).1;
      table = λ n assets h order k more t.
          let in_group = (ends n h).0 in
          let front = line_in_front group others row some alike later n assets more t (left n in_group) (right n in_group) (either n in_group) (holds assets order (known assets k).0) in
          subst (IsTable n assets entries) (sym (append_assoc lines (row ∷ []) more)) (leads.table n assets h order k (row ∷ more) (subst (λ (z : List LengthEntry). IsTable n assets z (row ∷ more)) (sym whole) front));
    }

pub leads_end : (entries rest : List LengthEntry) (lines : List ValueLength) → Leads entries rest lines → rest ≡ [] → (n : ℕ) (assets : List Asset) → list_all (ends_by n) entries ≡ true → each_two asset_before assets ≡ true → list_all (is_held_by assets) entries ≡ true
    → IsTable n assets entries lines
leads_end entries rest lines leads e n assets h order known =
    subst (IsTable n assets entries) (append-nil lines) (leads.table n assets h order known [] (subst (λ (z : List LengthEntry). IsTable n assets z []) (sym e) (no_lines n assets)))
