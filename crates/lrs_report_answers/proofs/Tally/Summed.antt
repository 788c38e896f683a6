-- The sums of counted rows are what the state has of each class.
use Rattle.std.proofs.Common.{◌≡◌, ℕ, ◌+◌, ◌-◌, ◌*◌, ◌≤◌, Bool, true, false, cond, ◌⊎◌, inl, inr, List, [], ◌∷◌, map, length, Option, Some, None, refl, sym, ap, ◌∙◌, arith, sum_by}
use Rattle.std.specs.Prelude.{◌&&◌, ◌||◌, nat_eq, nat_lt, nat_le, filter}
use Rattle.std.specs.List.{list_any, list_all}
use Rattle.std.specs.List as list
use Rattle.std.specs.Option.{option_map, option_map_or}
use Rattle.std.specs.Ordering.{nat_cmp, is_eq}
use Rattle.std.proofs.lemmas.Bool.{false≢true, and_parts, cases_Bool, eqb-true, eq-eqb, leb-true}
use Rattle.std.proofs.lemmas.List.Sums.{sum_by-cons}
use Rattle.lrs_measure.specs.Texts.{Name, same_name}
use Rattle.lrs_element.specs.declared.link.Link.{Link}
use Rattle.lrs_events.specs.declared.class.Asset.{Asset}
use Rattle.lrs_events.specs.declared.class.Class.{Class}
use Rattle.lrs_events.specs.declared.part.Part.{Part}
use Rattle.lrs_events.specs.declared.part.Gone.{Gone}
use Rattle.lrs_machine.specs.declared.image.Image.{Image}
use Rattle.lrs_measure.specs.Limits.{most_pairs, most_assets}
use Rattle.lrs_machine.specs.Image.{state_of, reason_of, asset_entry}
use Rattle.lrs_machine.specs.Readings.{total_entered, total_gone, total_present}
use Rattle.lrs_machine.specs.Register.{entries}
use Rattle.lrs_machine.specs.State.{State, Reason, Retired, Abandoned, same_reason}
use Rattle.lrs_machine.specs.State as state
use Rattle.lrs_machine.specs.Sound.{IsSound, is_part, is_asset, asset_before, pairs_of}
use Rattle.lrs_machine.proofs.SoundImages.{and_three}
use Rattle.lrs_measure.specs.Lists.{In, each_two}
use Rattle.lrs_measure.proofs.Members.{all_at}
use Rattle.lrs_image.proofs.Tables.{passes}
use Rattle.lrs_report_answers.specs.declared.tallies.tally.Count.{Count}
use Rattle.lrs_report_answers.specs.declared.tallies.tally.CountedSum.{CountedSum}
use Rattle.lrs_report_answers.specs.declared.tallies.tally.CountedSum.TheVariants as column
use Rattle.lrs_report_answers.specs.Tally.Counts.{no_count, raised, raised_of, with_part, with_rows, with_entered, with_gone, column_of, total_counted}
use Rattle.lrs_report.specs.ListTotals.{kept_sum}
use Rattle.lrs_report_answers.specs.Tally.RunningCounts.{count_in, counts_in}
use Rattle.lrs_report_answers.specs.Totals.{is_of_class, ledger_total, total_of_class, totals_of}
use Rattle.lrs_report_answers.proofs.AllRows.{sought, asset_is}
use Rattle.lrs_report_answers.proofs.Ledgers.{AreParts, sum-all, sum-none, exchange, entered_parts, ledgers_total}

-- ---- one count

abbrev same_column : CountedSum → CountedSum → Bool
same_column (column.Entered) (column.Entered) = true
same_column (column.Entered) (column.Retired) = false
same_column (column.Entered) (column.Abandoned) = false
same_column (column.Retired) (column.Entered) = false
same_column (column.Retired) (column.Retired) = true
same_column (column.Retired) (column.Abandoned) = false
same_column (column.Abandoned) (column.Entered) = false
same_column (column.Abandoned) (column.Retired) = false
same_column (column.Abandoned) (column.Abandoned) = true

-- what a row of n adds to a column
abbrev adds : CountedSum → Bool → ℕ → CountedSum → ℕ
adds c b n k = cond (same_column c k) (cond b n 0) 0

abbrev shown : Name → (CountedSum → ℕ) → Count
shown class f = record { class = class; entered = kept_sum (f column.Entered); retired = kept_sum (f column.Retired); abandoned = kept_sum (f column.Abandoned) }

more : (m n : ℕ) → kept_sum (kept_sum m + n) ≡ kept_sum (m + n)
more m n = omega arith

still : (m : ℕ) → kept_sum m ≡ kept_sum (m + 0)
still m = ap kept_sum (omega arith)

one_more : (c : CountedSum) (b : Bool) (class : Name) (n : ℕ) (f : CountedSum → ℕ) → cond b (raised c n (shown class f)) (shown class f) ≡ shown class (λ k. f k + adds c b n k)
one_more (column.Entered) true class n f = λ i. record { class = class; entered = more (f column.Entered) n i; retired = still (f column.Retired) i; abandoned = still (f column.Abandoned) i }
one_more (column.Retired) true class n f = λ i. record { class = class; entered = still (f column.Entered) i; retired = more (f column.Retired) n i; abandoned = still (f column.Abandoned) i }
one_more (column.Abandoned) true class n f = λ i. record { class = class; entered = still (f column.Entered) i; retired = still (f column.Retired) i; abandoned = more (f column.Abandoned) n i }
one_more (column.Entered) false class n f = λ i. record { class = class; entered = still (f column.Entered) i; retired = still (f column.Retired) i; abandoned = still (f column.Abandoned) i }
one_more (column.Retired) false class n f = λ i. record { class = class; entered = still (f column.Entered) i; retired = still (f column.Retired) i; abandoned = still (f column.Abandoned) i }
one_more (column.Abandoned) false class n f = λ i. record { class = class; entered = still (f column.Entered) i; retired = still (f column.Retired) i; abandoned = still (f column.Abandoned) i }

-- ---- the counts of all classes

abbrev pub counts : List Class → (CountedSum → Name → ℕ) → List Count
counts classes f = map (λ c. shown c.name (λ k. f k c.name)) classes

raised_is : (class : Name) (c : CountedSum) (n : ℕ) (classes : List Class) (f : CountedSum → Name → ℕ) → raised_of class c n (counts classes f) ≡ counts classes (λ k name. f k name + adds c (same_name class name) n k)
raised_is class c n [] f = refl
raised_is class c n (x ∷ xs) f = λ i. one_more c (same_name class x.name) x.name n (λ k. f k x.name) i ∷ raised_is class c n xs f i

unraised_is : (c : CountedSum) (n : ℕ) (classes : List Class) (f : CountedSum → Name → ℕ) → counts classes f ≡ counts classes (λ k name. f k name + adds c false n k)
unraised_is c n [] f = refl
unraised_is c n (x ∷ xs) f = λ i. one_more c false x.name n (λ k. f k x.name) i ∷ unraised_is c n xs f i

abbrev pub class_is : Option Asset → Name → Bool
class_is o class = option_map_or (λ (a : Asset). same_name a.class class) o false

found_is : (o : Option Asset) (c : CountedSum) (n : ℕ) (classes : List Class) (f : CountedSum → Name → ℕ)
    → option_map_or (λ (a : Asset). raised_of a.class c n (counts classes f)) o (counts classes f) ≡ counts classes (λ k name. f k name + adds c (class_is o name) n k)
found_is None c n classes f = unraised_is c n classes f
found_is (Some a) c n classes f = raised_is a.class c n classes f

module _ (assets : List Asset) (of_class : Name → ℕ → Bool) (is : (n : ℕ) (name : Name) → class_is (list.find (λ (a : Asset). is_eq (nat_cmp a.number n)) assets) name ≡ of_class name n) (classes : List Class) where
  part_is : (c : CountedSum) (p : Part) (f : CountedSum → Name → ℕ) → with_part assets c p (counts classes f) ≡ counts classes (λ k name. f k name + adds c (of_class name p.asset) (p.to - p.from) k)
  part_is c p f =
      found_is (list.find (λ (a : Asset). is_eq (nat_cmp a.number p.asset)) assets) c (p.to - p.from) classes f
      ∙ (λ i. counts classes (λ k name. f k name + adds c (is p.asset name i) (p.to - p.from) k))

  module _ {Row : Type 0} (col : Row → CountedSum) (part : Row → Part) where
    abbrev pub row_adds : CountedSum → Name → Row → ℕ
    row_adds k name r = adds (col r) (of_class name (part r).asset) ((part r).to - (part r).from) k

    row_more : (f : ℕ) (k : CountedSum) (name : Name) (r : Row) (rows : List Row) → (f + row_adds k name r) + sum_by (row_adds k name) rows ≡ f + sum_by (row_adds k name) (r ∷ rows)
    row_more f k name r rows = let e = sum_by-cons (row_adds k name) r rows in omega (arith, e)

    pub rows_are : (rows : List Row) (f : CountedSum → Name → ℕ) → with_rows assets col part rows (counts classes f) ≡ counts classes (λ k name. f k name + sum_by (row_adds k name) rows)
    rows_are [] f = λ i. counts classes (λ k name. (let e : f k name ≡ f k name + 0 = omega arith in e) i)
    rows_are (r ∷ rows) f =
        ap (with_rows assets col part rows) (part_is (col r) (part r) f)
        ∙ rows_are rows (λ k name. f k name + row_adds k name r)
        ∙ (λ i. counts classes (λ k name. row_more (f k name) k name r rows i))

-- ---- the sums over rows of the ledgers

none_more : (n : ℕ) → 0 + n ≡ n
none_more n = omega arith

pub sum-filtered : {X Y : Type 0} (q : X → Bool) (view : X → Y) (f : Y → ℕ) (xs : List X) → sum_by (λ x. cond (q x) (f (view x)) 0) xs ≡ sum_by f (map view (filter q xs))
sum-filtered q view f [] = refl
sum-filtered q view f (x ∷ xs) = sum_by-cons (λ x. cond (q x) (f (view x)) 0) x xs ∙ by (q x) (sum-filtered q view f xs)
  where
    by : (b : Bool) → sum_by (λ x. cond (q x) (f (view x)) 0) xs ≡ sum_by f (map view (filter q xs)) → cond b (f (view x)) 0 + sum_by (λ x. cond (q x) (f (view x)) 0) xs ≡ sum_by f (map view (cond b (x ∷ filter q xs) (filter q xs)))
    by true rest = ap (λ n. f (view x) + n) rest ∙ sym (sum_by-cons f (view x) (map view (filter q xs)))
    by false rest = none_more (sum_by (λ x. cond (q x) (f (view x)) 0) xs) ∙ rest

never_entered : (b : Bool) (n : ℕ) → cond (same_column (cond b column.Abandoned column.Retired) column.Entered) n 0 ≡ 0
never_entered true n = refl
never_entered false n = refl

abbrev column_of_reason : Reason → CountedSum
column_of_reason Retired = column.Retired
column_of_reason Abandoned = column.Abandoned

as_reason : (b : Bool) (why : Reason) → same_column (cond b column.Abandoned column.Retired) (column_of_reason why) ≡ same_reason (cond b Abandoned Retired) why
as_reason true Retired = refl
as_reason true Abandoned = refl
as_reason false Retired = refl
as_reason false Abandoned = refl

-- ---- no total is too great

abbrev reach : Part → ℕ
reach p = p.to - p.from

sum-less : {X : Type 0} (f g : X → ℕ) (xs : List X) → ((x : X) → In x xs → f x ≤ g x) → sum_by f xs ≤ sum_by g xs
sum-less f g [] h = omega arith
sum-less f g (x ∷ xs) h =
    let l = sum_by-cons f x xs in
    let r = sum_by-cons g x xs in
    let first = h x (inl refl) in
    let rest = sum-less f g xs (λ y m. h y (inr m)) in
    omega (arith, l, r, first, rest)

sum-times : {X : Type 0} (f : X → ℕ) (most : ℕ) (xs : List X) → list_all (λ x. nat_le (f x) most) xs ≡ true → sum_by f xs ≤ length xs * most
sum-times f most [] h = omega arith
sum-times f most (x ∷ xs) h =
    let t = and_parts (nat_le (f x) most) (list_all (λ x. nat_le (f x) most) xs) h in
    let e = sum_by-cons f x xs in
    let first = leb-true (f x) most t.0 in
    let rest = sum-times f most xs t.1 in
    let more : length (x ∷ xs) * most ≡ most + length xs * most = omega arith in
    omega (arith, e, first, rest, more)

one_has : {X : Type 0} (f g : X → Bool) (v : ℕ) (xs : List X) → ((x : X) → f x ≡ true → g x ≡ true) → list_any f xs ≡ true → v ≤ sum_by (λ x. cond (g x) v 0) xs
one_has f g v [] same h = absurd (false≢true h)
one_has f g v (x ∷ xs) same h = by (cases_Bool (f x)) (one_has f g v xs same)
  where
    all : sum_by (λ x. cond (g x) v 0) (x ∷ xs) ≡ cond (g x) v 0 + sum_by (λ x. cond (g x) v 0) xs
    all = sum_by-cons (λ x. cond (g x) v 0) x xs

    by : (f x ≡ true) ⊎ (f x ≡ false) → (list_any f xs ≡ true → v ≤ sum_by (λ x. cond (g x) v 0) xs) → v ≤ sum_by (λ x. cond (g x) v 0) (x ∷ xs)
    by (inl e) rest = let a = all ∙ ap (λ b. cond b v 0 + sum_by (λ x. cond (g x) v 0) xs) (same x e) in omega (arith, a)
    by (inr e) rest = let a = all in let r = rest (sym (ap (λ b. b || list_any f xs) e) ∙ h) in omega (arith, a, r)

through : (r b a d : ℕ) → r ≤ b → a ≡ b → a ≤ d → r ≤ d
through r b a d less same most = omega (arith, less, same, most)

at_most : (t l r : ℕ) → t ≡ l → l ≤ r → t ≤ r
at_most t l r same less = omega (arith, same, less)

-- all rows of a ledger together have no more than so many pairs for each asset
all_reach : (links : List Link) (assets : List Asset) (parts : List Part) → AreParts links assets parts → sum_by reach parts ≤ length assets * most_pairs
all_reach links assets parts h =
    let each = sum-times (λ (a : Asset). pairs_of a.number parts) most_pairs assets h.few in
    let turned = exchange (λ (a : Asset) (p : Part). cond (nat_eq p.asset a.number) (reach p) 0) assets parts in
    let less = sum-less reach (λ p. sum_by (λ (a : Asset). cond (nat_eq p.asset a.number) (reach p) 0) assets) parts (λ p m.
    one_has (λ (a : Asset). nat_eq a.number p.asset) (λ (a : Asset). nat_eq p.asset a.number) (reach p) assets (λ a e. eq-eqb p.asset a.number (sym (eqb-true a.number p.asset e)))
    (and_three (nat_lt p.from p.to) (list_any (λ (l : Link). nat_eq l.number p.link && nat_le p.to l.length) links) (list_any (λ (a : Asset). nat_eq a.number p.asset) assets) (all_at (is_part links assets) p parts h.each m)).2) in
    through (sum_by reach parts) (sum_by (λ (p : Part). sum_by (λ (a : Asset). cond (nat_eq p.asset a.number) (reach p) 0) assets) parts) (sum_by (λ (a : Asset). pairs_of a.number parts) assets) (length assets * most_pairs) less turned each

no_more : (b : Bool) (n : ℕ) → cond b n 0 ≤ n
no_more true n = omega arith
no_more false n = omega arith

fits : (n m few : ℕ) → n ≤ few * 20_000_000_000 → few ≤ 1_000_000 → m ≤ n → m ≤ 20_000_000_000_000_000
fits n m few h l s = omega (arith, h, l, s)

pub kept_is : (m x : ℕ) → x ≡ m → m ≤ 20_000_000_000_000_000 → kept_sum x ≡ m
kept_is m x e l = omega (arith, e, l)

present_is : (e r a p : ℕ) → p + r + a ≡ e → e ≤ 20_000_000_000_000_000 → e - kept_sum (r + a) ≡ p
present_is e r a p h l = omega (arith, h, l)

of_first : (a b t : ℕ) → a ≡ t → b ≡ 0 → (0 + a) + b ≡ t
of_first a b t e z = omega (arith, e, z)

of_second : (a b t : ℕ) → a ≡ 0 → b ≡ t → (0 + a) + b ≡ t
of_second a b t z e = omega (arith, e, z)

pub second_less : (p r a e n : ℕ) → p + r + a ≡ e → e ≤ n → r ≤ n
second_less p r a e n h l = omega (arith, h, l)

pub third_less : (p r a e n : ℕ) → p + r + a ≡ e → e ≤ n → a ≤ n
third_less p r a e n h l = omega (arith, h, l)

no_sum : 0 ≡ kept_sum 0
no_sum = omega arith

pub first_counts : (classes : List Class) → map no_count classes ≡ counts classes (λ k name. 0)
first_counts [] = refl
first_counts (c ∷ cs) = λ i. record { class = c.name; entered = no_sum i; retired = no_sum i; abandoned = no_sum i } ∷ first_counts cs i

-- ---- the totals

module _ (i : Image) (sound : IsSound i) where
  abbrev s : State
  s = state_of i

  of_entry : (o : Option Asset) (class : Name) → class_is o class ≡ option_map_or (λ (a : state.Asset). same_name a.class class) (option_map (λ (a : Asset). (asset_entry a).1) o) false
  of_entry None class = refl
  of_entry (Some a) class = refl

  of_class : (n : ℕ) (class : Name) → class_is (sought i n) class ≡ is_of_class s class n
  of_class n class = of_entry (sought i n) class ∙ ap (λ (o : Option state.Asset). option_map_or (λ (a : state.Asset). same_name a.class class) o false) (sym (asset_is i n))

  pub few_entered : (class : Name) → total_entered class s ≤ 20_000_000_000_000_000
  few_entered class =
      let e = (ledgers_total i sound class).entered in
      let less = sum-less (λ (p : Part). cond (is_of_class s class p.asset) (reach p) 0) reach i.entered (λ p m. no_more (is_of_class s class p.asset) (reach p)) in
      let most = all_reach i.links i.assets i.entered (entered_parts i sound) in
      let few = leb-true (length i.assets) most_assets (and_parts (each_two asset_before i.assets && list_all (is_asset i.classes) i.assets) (nat_le (length i.assets) most_assets) (passes i sound).assets).1 in
      fits (sum_by reach i.entered) (total_entered class s) (length i.assets) most few (at_most (total_entered class s) (ledger_total class s i.entered) (sum_by reach i.entered) e less)

  abbrev entered_adds : CountedSum → Name → Part → ℕ
  entered_adds k name p = adds column.Entered (is_of_class s name p.asset) (reach p) k

  abbrev gone_adds : CountedSum → Name → Gone → ℕ
  gone_adds k name g = adds (column_of g) (is_of_class s name g.part.asset) (reach g.part) k

  abbrev sums : CountedSum → Name → ℕ
  sums k name = (0 + sum_by (entered_adds k name) i.entered) + sum_by (gone_adds k name) i.gone

  counted_are : with_gone i.assets i.gone (with_entered i.assets i.entered (map no_count i.classes)) ≡ counts i.classes sums
  counted_are =
      ap (λ xs. with_gone i.assets i.gone (with_entered i.assets i.entered xs)) (first_counts i.classes)
      ∙ ap (with_gone i.assets i.gone) (rows_are i.assets (is_of_class s) of_class i.classes (λ (p : Part). column.Entered) (λ (p : Part). p) i.entered (λ k name. 0))
      ∙ rows_are i.assets (is_of_class s) of_class i.classes column_of (λ (g : Gone). g.part) i.gone (λ k name. 0 + sum_by (entered_adds k name) i.entered)

  entered_sum : (class : Name) → sums column.Entered class ≡ total_entered class s
  entered_sum class =
      of_first (sum_by (entered_adds column.Entered class) i.entered) (sum_by (gone_adds column.Entered class) i.gone) (total_entered class s) (sym (ledgers_total i sound class).entered)
      (sum-all (gone_adds column.Entered class) (λ g. 0) i.gone (λ g. never_entered g.abandoned (cond (is_of_class s class g.part.asset) (reach g.part) 0)) ∙ sum-none i.gone)

  gone_sum : (why : Reason) (class : Name) → sum_by (gone_adds (column_of_reason why) class) i.gone ≡ total_gone why class s
  gone_sum why class =
      sum-all (gone_adds (column_of_reason why) class) (λ g. cond (same_reason (reason_of g) why) (cond (is_of_class s class g.part.asset) (reach g.part) 0) 0) i.gone
      (λ g. ap (λ b. cond b (cond (is_of_class s class g.part.asset) (reach g.part) 0) 0) (as_reason g.abandoned why))
      ∙ sum-filtered (λ g. same_reason (reason_of g) why) (λ (g : Gone). g.part) (λ (p : Part). cond (is_of_class s class p.asset) (reach p) 0) i.gone
      ∙ sym ((ledgers_total i sound class).gone why)

  retired_sum : (class : Name) → sums column.Retired class ≡ total_gone Retired class s
  retired_sum class = of_second (sum_by (entered_adds column.Retired class) i.entered) (sum_by (gone_adds column.Retired class) i.gone) (total_gone Retired class s) (sum-none i.entered) (gone_sum Retired class)

  abandoned_sum : (class : Name) → sums column.Abandoned class ≡ total_gone Abandoned class s
  abandoned_sum class = of_second (sum_by (entered_adds column.Abandoned class) i.entered) (sum_by (gone_adds column.Abandoned class) i.gone) (total_gone Abandoned class s) (sum-none i.entered) (gone_sum Abandoned class)

  count_is : (class : Name) → shown class (λ k. sums k class) ≡ count_in s class
  count_is class =
      let few = few_entered class in
      let law = (ledgers_total i sound class).present in
      let e = kept_is (total_entered class s) (sums column.Entered class) (entered_sum class) few in
      let r = kept_is (total_gone Retired class s) (sums column.Retired class) (retired_sum class) (second_less (total_present class s) (total_gone Retired class s) (total_gone Abandoned class s) (total_entered class s) 20_000_000_000_000_000 law few) in
      let a = kept_is (total_gone Abandoned class s) (sums column.Abandoned class) (abandoned_sum class) (third_less (total_present class s) (total_gone Retired class s) (total_gone Abandoned class s) (total_entered class s) 20_000_000_000_000_000 law few) in
      λ j. record { class = class; entered = e j; retired = r j; abandoned = a j }

  counts_are : (classes : List Class) → counts classes sums ≡ map (λ (c : Name × _). count_in s c.0) (map (λ (c : Class). (c.name, c.kind)) classes)
  counts_are [] = refl
  counts_are (c ∷ cs) = λ j. count_is c.name j ∷ counts_are cs j

  in_state : map (λ (c : Name × _). count_in s c.0) (map (λ (c : Class). (c.name, c.kind)) i.classes) ≡ counts_in s
  unfolding state_of
  in_state = refl

  -- The rows of both ledgers, counted, give what the state has.
  pub all_counted : with_gone i.assets i.gone (with_entered i.assets i.entered (map no_count i.classes)) ≡ counts_in s
  all_counted = counted_are ∙ counts_are i.classes ∙ in_state

  total_is : (class : Name) → total_counted (count_in s class) ≡ total_of_class s class
  total_is class =
      let present = present_is (total_entered class s) (total_gone Retired class s) (total_gone Abandoned class s) (total_present class s) (ledgers_total i sound class).present (few_entered class) in
      λ j. record { class = class; entered = total_entered class s; retired = total_gone Retired class s; abandoned = total_gone Abandoned class s; present = present j }

  of_entries : {X : Type 0} (es : List (Name × X)) → map total_counted (map (λ e. count_in s e.0) es) ≡ map (λ e. total_of_class s e.0) es
  of_entries [] = refl
  of_entries (e ∷ es) = λ j. total_is e.0 j ∷ of_entries es j

  -- What the state has, counted, gives its totals.
  pub totals_counted : map total_counted (counts_in s) ≡ totals_of s
  totals_counted = of_entries (entries s.classes)
