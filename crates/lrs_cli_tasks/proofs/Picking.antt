-- Fields of a line, columns of a text, and the places of names.
use Rattle.std.proofs.Common.{◌≡◌, ◌∙◌, ◌⊎◌, ◌<◌, ◌+◌, ◌&&◌, ◌||◌, ℕ, suc, Bool, true, false, true≢false, not, cond, List, [], ◌∷◌, ◌++◌, map, length, Option, Some, None, Ok, Err, Result, inl, inr, is_some, option_map, IfNone, IfSome, refl, sym, ap, append_assoc, append-nil, zero-add, arith}
use Rattle.std.specs.Prelude.{◌==◌, IfErr, IfOk, nat_eq}
use Rattle.std.specs.List.{flat_map, join_with_byte, list_all}
use Rattle.std.specs.Io.KnownBytes.{Appends}
use Rattle.std.specs.Str.{bytes_eq}
use Rattle.std.proofs.lemmas.List.Splits.{length-slice_split}
use Rattle.lrs_cli_words.specs.declared.question.BadWord.TheVariants as word
use Rattle.lrs_cli_words.specs.declared.question.QuestionFault.{QuestionFault}
use Rattle.lrs_cli_words.specs.declared.question.QuestionFault.TheVariants.{Unreadable, Memory}
use Rattle.lrs_cli_tasks.specs.Columns.{ArePlaces, NamesTwice, are_apart, field_at, is_among, picked_cells, picked_line, place_of}
use Rattle.lrs_machine.specs.Lines.{Text, fields}
use Rattle.lrs_report.proofs.Writing.{appends_more}
use Rattle.lrs_sheet_records.specs.Words.{parts_of}

-- ---- fields with a comma between two

pub fields_next : {A : Type 0} (f : A → Text) (x : A) (xs : List A) → fields (map f (x ∷ xs)) ≡ f x ++ flat_map (λ y. 44 ∷ f y) xs
fields_next f x [] = sym (append-nil (f x))
fields_next f x (y ∷ ys) = ap (λ (t : Text). f x ++ 44 ∷ t) (fields_next f y ys)

pub line_next : (first : ℕ) (others : List ℕ) (line : Text) → 0 < length line → field_at line first ++ flat_map (λ place. 44 ∷ field_at line place) others ≡ picked_line (first ∷ others) line
line_next first others [] some = absurd (omega (arith, some))
line_next first others (byte ∷ rest) some = sym (fields_next (field_at (byte ∷ rest)) first others)

-- ---- lines

some_parts : (separator : ℕ) (text : Text) → 0 < length (parts_of separator text)
some_parts separator text = omega (arith, length-slice_split (λ (byte : ℕ). byte == separator) text)

lines_more : (places : List ℕ) (line : Text) (lines : List Text) → 0 < length lines
    → join_with_byte 10 (map (picked_line places) (line ∷ lines)) ≡ picked_line places line ++ 10 ∷ join_with_byte 10 (map (picked_line places) lines)
lines_more places line [] some = absurd (omega (arith, some))
lines_more places line (l ∷ ls) some = refl

cells_more : (places : List ℕ) (rest line behind : Text) → parts_of 10 rest ≡ line ∷ parts_of 10 behind → picked_cells places rest ≡ picked_line places line ++ 10 ∷ picked_cells places behind
cells_more places rest line behind split =
    ap (λ (ls : List Text). join_with_byte 10 (map (picked_line places) ls)) split ∙ lines_more places line (parts_of 10 behind) (some_parts 10 behind)

-- what was written, and what is left, is the whole
pub record HasPicked (places : List ℕ) (text rest : Text) (old new : Option (List ℕ)) : Type 0 where
  pub written : Text
  pub appended : Appends old new written
  pub left : written ++ picked_cells places rest ≡ picked_cells places text

-- one line more, and the end of the line
pub more_picked : (places : List ℕ) (text rest line behind : Text) (old a b c : Option (List ℕ)) → HasPicked places text rest old a → Appends a b (picked_line places line) → Appends b c (10 ∷ [])
    → parts_of 10 rest ≡ line ∷ parts_of 10 behind → HasPicked places text behind old c
more_picked places text rest line behind old a b c before one end split =
    let this = picked_line places line in record {
      written = (before.written ++ this) ++ 10 ∷ [];
      appended = appends_more old b c (before.written ++ this) (10 ∷ []) (appends_more old a b before.written this before.appended one) end;
      left = append_assoc (before.written ++ this) (10 ∷ []) (picked_cells places behind)
          ∙ append_assoc before.written this (10 ∷ picked_cells places behind)
          ∙ ap (λ (t : Text). before.written ++ t) (sym (cells_more places rest line behind split))
          ∙ before.left;
    }

-- ---- the place of a name

pub place_here : (x name : Text) (xs : List Text) → bytes_eq x name ≡ true → place_of (x ∷ xs) name ≡ Some 0
place_here x name xs same = ap (λ (b : Bool). cond b (Some 0) (option_map suc (place_of xs name))) same

pub place_later : (x name : Text) (xs : List Text) → bytes_eq x name ≡ false → place_of (x ∷ xs) name ≡ option_map suc (place_of xs name)
place_later x name xs other = ap (λ (b : Bool). cond b (Some 0) (option_map suc (place_of xs name))) other

abbrev pub behind_by : ℕ → Option ℕ → Option ℕ
behind_by n o = option_map (λ k. n + k) o

pub behind_none : (o : Option ℕ) → o ≡ behind_by 0 o
behind_none None = refl
behind_none (Some k) = ap Some (sym (zero-add k))

-- the names before the rest are passed
pub record HasPassed (names : List Text) (name : Text) (rest : List Text) (place : ℕ) : Type 0 where
  pub found : place_of names name ≡ behind_by place (place_of rest name)
  pub count : length names ≡ place + length rest

-- one list behind another
suc_none : (o : Option ℕ) → option_map suc o ≡ None → o ≡ None
suc_none None e = refl
suc_none (Some k) e = absurd (true≢false (ap is_some e))

suc_behind : (n : ℕ) (o : Option ℕ) → option_map suc (behind_by n o) ≡ behind_by (suc n) o
suc_behind n None = refl
suc_behind n (Some k) = ap Some (let e : suc (n + k) ≡ suc n + k = omega arith in e)

behind_step : (b : Bool) (x : Text) (xs ys : List Text) (name : Text) → bytes_eq x name ≡ b → place_of (x ∷ xs) name ≡ None
    → (place_of xs name ≡ None → place_of (xs ++ ys) name ≡ behind_by (length xs) (place_of ys name)) → place_of (x ∷ xs ++ ys) name ≡ behind_by (suc (length xs)) (place_of ys name)
behind_step true x xs ys name same none below = absurd (true≢false (ap is_some (sym (place_here x name xs same) ∙ none)))
behind_step false x xs ys name other none below =
    place_later x name (xs ++ ys) other ∙ ap (option_map suc) (below (suc_none (place_of xs name) (sym (place_later x name xs other) ∙ none))) ∙ suc_behind (length xs) (place_of ys name)

pub place_behind : (xs ys : List Text) (name : Text) → place_of xs name ≡ None → place_of (xs ++ ys) name ≡ behind_by (length xs) (place_of ys name)
place_behind [] ys name none = behind_none (place_of ys name)
place_behind (x ∷ xs) ys name none = behind_step (bytes_eq x name) x xs ys name refl none (place_behind xs ys name)

before_later : (o p : Option ℕ) (place : ℕ) → option_map suc o ≡ Some place → ((k : ℕ) → o ≡ Some k → p ≡ Some k) → option_map suc p ≡ Some place
before_later None p place e below = absurd (true≢false (ap is_some (sym e)))
before_later (Some k) p place e below = ap (option_map suc) (below k refl) ∙ e

before_step : (b : Bool) (x : Text) (xs ys : List Text) (name : Text) (place : ℕ) → bytes_eq x name ≡ b → place_of (x ∷ xs) name ≡ Some place
    → ((k : ℕ) → place_of xs name ≡ Some k → place_of (xs ++ ys) name ≡ Some k) → place_of (x ∷ xs ++ ys) name ≡ Some place
before_step true x xs ys name place same found below = place_here x name (xs ++ ys) same ∙ sym (place_here x name xs same) ∙ found
before_step false x xs ys name place other found below =
    place_later x name (xs ++ ys) other ∙ before_later (place_of xs name) (place_of (xs ++ ys) name) place (sym (place_later x name xs other) ∙ found) below

pub place_before : (xs ys : List Text) (name : Text) (place : ℕ) → place_of xs name ≡ Some place → place_of (xs ++ ys) name ≡ Some place
place_before [] ys name place found = absurd (true≢false (ap is_some (sym found)))
place_before (x ∷ xs) ys name place found = before_step (bytes_eq x name) x xs ys name place refl found (place_before xs ys name)

-- the same where the place behind the first list is given, or none is
module _ (first classes : List Text) (name : Text) (count : ℕ) (none : place_of first name ≡ None) (counted : count ≡ length first) where
  place_counted : place_of (first ++ classes) name ≡ behind_by count (place_of classes name)
  place_counted = place_behind first classes name none ∙ ap (λ (n : ℕ). behind_by n (place_of classes name)) (sym counted)

  pub behind_found : (r : Result ℕ QuestionFault) → IfOk r (λ place. behind_by count (place_of classes name) ≡ Some place) → IfOk r (λ place. place_of (first ++ classes) name ≡ Some place)
  behind_found (Ok place) found = place_counted ∙ found
  behind_found (Err e) found = tt

  pub behind_unread : (r : Result ℕ QuestionFault) → IfErr r (λ e. ((e ≡ Unreadable word.Columns) × (place_of classes name ≡ None)) ⊎ (e ≡ Memory))
      → IfErr r (λ e. ((e ≡ Unreadable word.Columns) × (place_of (first ++ classes) name ≡ None)) ⊎ (e ≡ Memory))
  behind_unread (Ok place) unread = tt
  behind_unread (Err e) (inl h) = inl (h.0, place_counted ∙ ap (behind_by count) h.1)
  behind_unread (Err e) (inr h) = inr h

-- classes that lead, and the columns behind them
module _ (columns leading later given : List Text) (name : Text) (whole : columns ≡ leading ++ later) (same : given ≡ leading) where
  pub leading_found : (place : ℕ) → place_of given name ≡ Some place → place_of columns name ≡ Some place
  leading_found place found =
      ap (λ (cs : List Text). place_of cs name) whole ∙ place_before leading later name place (ap (λ (cs : List Text). place_of cs name) (sym same) ∙ found)

  place_after : place_of given name ≡ None → place_of columns name ≡ behind_by (length given) (place_of later name)
  place_after none =
      ap (λ (cs : List Text). place_of cs name) whole ∙ place_behind leading later name (ap (λ (cs : List Text). place_of cs name) (sym same) ∙ none)
      ∙ ap (λ (cs : List Text). behind_by (length cs) (place_of later name)) (sym same)

  pub later_found : (place : ℕ) (r : Result ℕ QuestionFault) → place_of given name ≡ None → place_of later name ≡ Some place → IfOk r (λ sum. sum ≡ length given + place)
      → IfOk r (λ sum. place_of columns name ≡ Some sum)
  later_found place (Ok sum) none found is = place_after none ∙ ap (behind_by (length given)) found ∙ ap Some (sym is)
  later_found place (Err e) none found is = tt

  later_none : place_of given name ≡ None → place_of later name ≡ None → place_of columns name ≡ None
  later_none none unread = place_after none ∙ ap (behind_by (length given)) unread

  pub later_unread : (e : QuestionFault) → place_of given name ≡ None → ((e ≡ Unreadable word.Columns) × (place_of later name ≡ None)) ⊎ (e ≡ Memory)
      → ((e ≡ Unreadable word.Columns) × (place_of columns name ≡ None)) ⊎ (e ≡ Memory)
  later_unread e none (inl h) = inl (h.0, later_none none h.1)
  later_unread e none (inr h) = inr h

-- ---- places that are apart

group : (a b c : Bool) → (a && (b && c)) ≡ ((a && b) && c)
group true b c = refl
group false b c = refl

all_last : {A : Type 0} (test : A → Bool) (x : A) (ys : List A) → list_all test (ys ++ x ∷ []) ≡ (list_all test ys && (test x && true))
all_last test x [] = refl
all_last test x (y ∷ ys) = ap (λ (b : Bool). test y && b) (all_last test x ys) ∙ group (test y) (list_all test ys) (test x && true)

regroup : (a e p m : Bool) → ((a && (not e && true)) && (p && not m)) ≡ ((a && p) && not (e || m))
regroup false e p m = refl
regroup true true true m = refl
regroup true true false m = refl
regroup true false p m = refl

apart_last : (x : ℕ) (xs : List ℕ) → are_apart (xs ++ x ∷ []) ≡ (are_apart xs && not (is_among x xs))
apart_last x [] = refl
apart_last x (y ∷ ys) =
    ap (λ (b : Bool). b && are_apart (ys ++ x ∷ [])) (all_last (λ other. not (nat_eq y other)) x ys)
    ∙ ap (λ (b : Bool). (list_all (λ other. not (nat_eq y other)) ys && (not (nat_eq y x) && true)) && b) (apart_last x ys)
    ∙ regroup (list_all (λ other. not (nat_eq y other)) ys) (nat_eq y x) (are_apart ys) (is_among x ys)

and_not : (a b : Bool) → a ≡ true → b ≡ false → (a && not b) ≡ true
and_not true false e f = refl
and_not true true e f = absurd (true≢false f)
and_not false b e f = absurd (true≢false (sym e))

and_not_true : (a b : Bool) → b ≡ true → (a && not b) ≡ false
and_not_true true true f = refl
and_not_true true false f = absurd (true≢false (sym f))
and_not_true false b f = refl

-- ---- the places of names

map_last : {A B : Type 0} (f : A → B) (x : A) (xs : List A) → map f (xs ++ x ∷ []) ≡ map f xs ++ f x ∷ []
map_last f x [] = refl
map_last {A} {B} f x (y ∷ ys) = ap (λ (t : List B). f y ∷ t) (map_last f x ys)

-- the names before the rest have these places
pub record HasFound (columns : List Text) (names rest : Text) (places : List ℕ) : Type 0 where
  pub front : List Text
  pub split : parts_of 44 names ≡ front ++ parts_of 44 rest
  pub found : map (place_of columns) front ≡ map Some places
  pub apart : are_apart places ≡ true

module _ (columns : List Text) (names rest name : Text) (places : List ℕ) (place : ℕ) where
  found_last : (front : List Text) → map (place_of columns) front ≡ map Some places → place_of columns name ≡ Some place → map (place_of columns) (front ++ name ∷ []) ≡ map Some (places ++ place ∷ [])
  found_last front before one =
      map_last (place_of columns) name front ∙ ap (λ (t : List (Option ℕ)). t ++ place_of columns name ∷ []) before ∙ ap (λ (o : Option ℕ). map Some places ++ o ∷ []) one
      ∙ sym (map_last Some place places)

  split_last : (before : HasFound columns names rest places) (others : List Text) → parts_of 44 rest ≡ name ∷ others → parts_of 44 names ≡ (before.front ++ name ∷ []) ++ others
  split_last before others split = before.split ∙ ap (λ (ps : List Text). before.front ++ ps) split ∙ sym (append_assoc before.front (name ∷ []) others)

  pub one_found : (behind : Text) → HasFound columns names rest places → parts_of 44 rest ≡ name ∷ parts_of 44 behind → place_of columns name ≡ Some place → is_among place places ≡ false
      → HasFound columns names behind (places ++ place ∷ [])
  one_found behind before split one new = record {
    front = before.front ++ name ∷ [];
    split = split_last before (parts_of 44 behind) split;
    found = found_last before.front before.found one;
    apart = apart_last place places ∙ and_not (are_apart places) (is_among place places) before.apart new;
  }

  pub all_found : HasFound columns names rest places → parts_of 44 rest ≡ name ∷ [] → place_of columns name ≡ Some place → is_among place places ≡ false → ArePlaces columns names (places ++ place ∷ [])
  all_found before last one new = (
    ap (map (place_of columns)) (split_last before [] last ∙ append-nil (before.front ++ name ∷ [])) ∙ found_last before.front before.found one,
    apart_last place places ∙ and_not (are_apart places) (is_among place places) before.apart new,
  )

  pub names_twice : HasFound columns names rest places → (others : List Text) × (parts_of 44 rest ≡ name ∷ others) → place_of columns name ≡ Some place → is_among place places ≡ true → NamesTwice columns names
  names_twice before (others, split) one again = (
    before.front ++ name ∷ [],
    others,
    places ++ place ∷ [],
    split_last before others split,
    found_last before.front before.found one,
    apart_last place places ∙ and_not_true (are_apart places) (is_among place places) again,
  )

-- a first name is cut off, whatever is behind it
pub first_name : {A : Type 0} (text_of : A → Text) (o : Option A) (rest x : Text) → IfNone o (parts_of 44 rest ≡ x ∷ []) → IfSome o (λ b. parts_of 44 rest ≡ x ∷ parts_of 44 (text_of b))
    → (others : List Text) × (parts_of 44 rest ≡ x ∷ others)
first_name text_of None rest x last more = ([], last)
first_name text_of (Some b) rest x last more = (parts_of 44 (text_of b), more)
