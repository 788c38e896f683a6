-- The commands of some first records of a sheet are the first of its commands.
use Rattle.std.proofs.Common.{◌≡◌, ◌⊎◌, inl, inr, ℕ, zero, suc, ◌+◌, ◌<◌, ◌≤◌, Bool, true, false, List, [], ◌∷◌, ◌++◌, length, slice_get, append_assoc, Option, Some, None, refl, sym, ap, subst, ◌∙◌, arith}
use Rattle.std.specs.Prelude.{if◌then◌else◌}
use Rattle.std.specs.List.{AllByRecursion}
use Rattle.std.proofs.lemmas.Bool.{cases_lt}
use Rattle.std.proofs.lemmas.Option.{slice_get_past}
use Rattle.std.specs.Str.{bytes_eq}
use Rattle.csv.specs.Machine.{Read, ends_at_end, field_after, fields_after, is_end, next_record, step}
use Rattle.csv.specs.Reading.{AreRecords, Reached, default_config, strip_bom}
use Rattle.csv.specs.Records.{field_at}
use Rattle.csv.specs.declared.parser.Config.{Config}
use Rattle.csv.specs.declared.parser.State.{State as Place}
use Rattle.csv.specs.declared.parser.State.TheVariants as st
use Rattle.lrs_machine.specs.Lines.{Text}
use Rattle.lrs_machine.specs.Machine.{Record}
use Rattle.lrs_machine.specs.declared.answer.Field.{Field}
use Rattle.lrs_machine.specs.declared.answer.Field.TheVariants as field
use Rattle.lrs_machine.specs.declared.command.Command.{Command}
use Rattle.lrs_sheet_records.proofs.Complete.{records_are_judged}
use Rattle.lrs_sheet_records.specs.Kinds.{IsHeader, edit_record, width_of}
use Rattle.lrs_sheet_records.specs.Records.{FirstMalformed, IsWellFormedBy, SaysCommand, place_of, text_at, texts_of}
use Rattle.lrs_sheet_records.specs.Rows.{AreAll, BeginsWith}
use Rattle.lrs_sheet_records.specs.Shapes.{Fits, Shape}
use Rattle.lrs_sheet_records.specs.Verbs.{Row, all_verbs, shapes_in, shapes_of, verbs}
use Rattle.lrs_sheet_records.specs.declared.sheet.Sheet.{Sheet}
use Rattle.lrs_sheet_records.specs.declared.sheet.Sheet.TheVariants as sheet
use Rattle.lrs_sheet.specs.Laws.{Say}
use Rattle.lrs_sheet.specs.Sheets.{HaveWidth}
use Rattle.lrs_promises.specs.Calls.{GivesBehind, HasRecords}
use Rattle.lrs_promises.proofs.Framed.{front_begins}

-- ---- every text has records

-- a text whose next record is this one, or that has none, is read to its end
abbrev GoesOn : Config → Option Read → Type 0
GoesOn cfg next = (next ≡ None) ⊎ ((p : Read) × (rows : List (List Text)) × (next ≡ Some p) × AreRecords cfg p.1 p.2 rows)

whichever : (cfg : Config) (b : Bool) (x y : Option Read) → GoesOn cfg x → GoesOn cfg y → GoesOn cfg (if b then x else y)
whichever cfg true x y one other = one
whichever cfg false x y one other = other

behind_one : (cfg : Config) (row : List Text) (s : Place) (rest : Text) → (rows : List (List Text)) × AreRecords cfg s rest rows → GoesOn cfg (Some (row, s, rest))
behind_one cfg row s rest (rows, all) = inr ((row, s, rest), rows, refl, all)

records_from : (cfg : Config) (s : Place) (xs : Text) → GoesOn cfg (next_record cfg s [] [] xs) → (rows : List (List Text)) × AreRecords cfg s xs rows
unfolding Reached
records_from cfg s xs (inl none) = ([], (s, xs, (refl, refl), none))
records_from cfg s xs (inr (p, rows, is, (end, left, reached, none))) = (p.0 ∷ rows, (end, left, (p, is, refl, reached), none))

goes_on : (cfg : Config) (s : Place) (fields : List Text) (field xs : Text) → GoesOn cfg (next_record cfg s fields field xs)
unfolding next_record Reached
goes_on cfg s fields field [] =
    whichever cfg (ends_at_end s) (Some (fields ++ field ∷ [], st.StartRecord, [])) None
    (behind_one cfg (fields ++ field ∷ []) st.StartRecord [] ([], (st.StartRecord, [], (refl, refl), refl))) (inl refl)
goes_on cfg s fields field (c ∷ rest) =
    whichever cfg (is_end (step cfg s c).1) (Some (fields_after (step cfg s c).1 fields field, (step cfg s c).0, rest))
    (next_record cfg (step cfg s c).0 (fields_after (step cfg s c).1 fields field) (field_after (step cfg s c).1 c field) rest)
    (behind_one cfg (fields_after (step cfg s c).1 fields field) (step cfg s c).0 rest (records_from cfg (step cfg s c).0 rest (goes_on cfg (step cfg s c).0 [] [] rest)))
    (goes_on cfg (step cfg s c).0 (fields_after (step cfg s c).1 fields field) (field_after (step cfg s c).1 c field) rest)

reached_both : (cfg : Config) (s mid end : Place) (xs ys zs : Text) (a b : List (List Text)) → Reached cfg s xs a mid ys → Reached cfg mid ys b end zs → Reached cfg s xs (a ++ b) end zs
unfolding Reached
reached_both cfg s mid end xs ys zs [] b (same, is) h = subst (λ x. Reached cfg s x b end zs) (sym is) (subst (λ p. Reached cfg p ys b end zs) (sym same) h)
reached_both cfg s mid end xs ys zs (r ∷ a) b (p, next, is, more) h = (p, next, is, reached_both cfg p.1 mid end p.2 ys zs a b more h)

-- behind those that begin a text come others, to its end
others_behind : (input : Text) (front : List (List Text)) → BeginsWith input front → (more : List (List Text)) × AreAll input (front ++ more)
others_behind input front (place, rest, reached) =
    let (more, (end, left, others, none)) = records_from default_config place rest (goes_on default_config place [] [] rest) in
    (more, (end, left, reached_both default_config st.StartRecord place end (strip_bom input) rest left front more reached others, none))

-- ---- the first of another width

same_number : (a b : ℕ) → (a ≡ b) ⊎ (a ≡ b → ⊥)
same_number a b = elim (cases_lt a b) [
  | inl below ↦ inr (λ e. omega (arith, below, e))
  | inr above ↦ elim (cases_lt b a) [
    | inl over ↦ inr (λ e. omega (arith, over, e))
    | inr under ↦ inl (omega (arith, above, under))
  ]
]

module _ (sheet : Sheet) where
  -- all have the width of the sheet, or one is the first that has another
  abbrev Splits : List (List Text) → Type 0
  Splits rows = HaveWidth sheet rows ⊎ ((good : List (List Text)) × (bad : List Text) × (behind : List (List Text)) × (rows ≡ good ++ bad ∷ behind) × (length bad ≡ width_of sheet → ⊥) × HaveWidth sheet good)

  splits_next : (r : List Text) (rows : List (List Text)) → (length r ≡ width_of sheet) ⊎ (length r ≡ width_of sheet → ⊥) → Splits rows → Splits (r ∷ rows)
  splits_next r rows (inr odd) others = inr ([], r, rows, refl, odd, tt)
  splits_next r rows (inl wide) (inl all) = inl (wide, all)
  splits_next r rows (inl wide) (inr (good, bad, behind, is, odd, before)) = inr (r ∷ good, bad, behind, ap (λ l. r ∷ l) is, odd, (wide, before))

  splits : (rows : List (List Text)) → Splits rows
  splits [] = inl tt
  splits (r ∷ rows) = splits_next r rows (same_number (length r) (width_of sheet)) (splits rows)

-- ---- what records say

-- no verb uses more than nine fields
abbrev IsShort : Row → Type 0
IsShort row = length row.shapes ≤ 9

short_if : (b : Bool) (one other : List Shape) → length one ≤ 9 → length other ≤ 9 → length (if b then one else other) ≤ 9
short_if true one other h g = h
short_if false one other h g = g

short_in : (rows : List Row) (name : Text) → AllByRecursion IsShort rows → length (shapes_in rows name) ≤ 9
short_in [] name h = omega arith
short_in (row ∷ rows) name h = short_if (bytes_eq row.name name) row.shapes (shapes_in rows name) h.0 (short_in rows name h.1)

short_verbs : AllByRecursion IsShort verbs
short_verbs =
    let one : 1 ≤ 9 = omega arith in
    let two : 2 ≤ 9 = omega arith in
    let three : 3 ≤ 9 = omega arith in
    let four : 4 ≤ 9 = omega arith in
    let five : 5 ≤ 9 = omega arith in
    let nine : 9 ≤ 9 = omega arith in
    (two, (two, (three, (four, (one, (nine, (five, (three, (two, (two, (two, (five, (one, (nine, (one, tt)))))))))))))))

-- behind the last field there is no text
none_at : (fields : List Text) (p : ℕ) → length fields ≤ p → text_at fields p ≡ []
unfolding field_at
none_at [] p low = refl
none_at (f ∷ fields) zero low = absurd (omega (arith, low))
none_at (f ∷ fields) (suc p) low = none_at fields p (omega (arith, low))

fits_none : (texts : Field → Text) (shape : Option Shape) (text : Text) → shape ≡ None → text ≡ [] → Fits texts shape text
fits_none texts None text none empty = empty
fits_none texts (Some shape) text none empty = absurd (cc none)

fits_behind : (fields : List Text) (p : ℕ) → length fields ≤ 11 → 11 ≤ p → IsWellFormedBy all_verbs shapes_of fields p
fits_behind fields zero few high = absurd (omega (arith, high))
fits_behind fields (suc zero) few high = absurd (omega (arith, high))
fits_behind fields (suc (suc i)) few high =
    let shapes = shapes_of (text_at fields 1) in
    let short : length shapes ≤ 9 = short_in verbs (text_at fields 1) short_verbs in
    fits_none (texts_of fields) (slice_get shapes i) (text_at fields (2 + i)) (slice_get_past shapes i (omega (arith, short, high))) (none_at fields (2 + i) (omega (arith, few, high)))

field_named : (p : ℕ) → p < 11 → (f : Field) × (place_of f ≡ p)
field_named zero low = (field.Key, refl)
field_named (suc zero) low = (field.Verb, refl)
field_named (suc (suc zero)) low = (field.A, refl)
field_named (suc (suc (suc zero))) low = (field.B, refl)
field_named (suc (suc (suc (suc zero)))) low = (field.C, refl)
field_named (suc (suc (suc (suc (suc zero))))) low = (field.D, refl)
field_named (suc (suc (suc (suc (suc (suc zero)))))) low = (field.E, refl)
field_named (suc (suc (suc (suc (suc (suc (suc zero))))))) low = (field.F, refl)
field_named (suc (suc (suc (suc (suc (suc (suc (suc zero)))))))) low = (field.G, refl)
field_named (suc (suc (suc (suc (suc (suc (suc (suc (suc zero))))))))) low = (field.H, refl)
field_named (suc (suc (suc (suc (suc (suc (suc (suc (suc (suc zero)))))))))) low = (field.I, refl)
field_named (suc (suc (suc (suc (suc (suc (suc (suc (suc (suc (suc p))))))))))) low = absurd (omega (arith, low))

-- a field that is malformed is one of eleven
malformed_field : (fields : List Text) (p : ℕ) → length fields ≤ 11 → FirstMalformed fields p → (f : Field) × FirstMalformed fields (place_of f)
malformed_field fields p few first = elim (cases_lt p 11) [
  | inl low ↦ let (f, is) = field_named p low in (f, subst (λ q. FirstMalformed fields q) (sym is) first)
  | inr high ↦ absurd (first.malformed (fits_behind fields p few (omega (arith, high))))
]

few_fields : (kind : Sheet) (fields : List Text) → length fields ≡ width_of kind → length (edit_record kind fields) ≤ 11
few_fields sheet.Edits fields wide =
    let is : length fields ≡ 11 = wide in
    let few : length fields ≤ 11 = omega (arith, is) in
    few
few_fields sheet.Survey [] wide =
    let none : 0 ≤ 11 = omega arith in
    none
few_fields sheet.Survey (key ∷ others) wide =
    let is : suc (length others) ≡ 10 = wide in
    let few : suc (suc (length others)) ≤ 11 = omega (arith, is) in
    few

-- a record says a command, or has a malformed field
abbrev IsJudged : Sheet → List Text → Type 0
IsJudged kind fields = ((f : Field) × FirstMalformed (edit_record kind fields) (place_of f)) ⊎ ((r : Record) × SaysCommand (edit_record kind fields) r.key r.command)

judged : (kind : Sheet) (fields : List Text) → length fields ≡ width_of kind → IsJudged kind fields
judged kind fields wide = by (records_are_judged.some all_verbs (edit_record kind fields) (λ name known. known))
  where
    by : ((key : Text) × (command : Command) × SaysCommand (edit_record kind fields) key command) ⊎ ((p : ℕ) × FirstMalformed (edit_record kind fields) p) → IsJudged kind fields
    by (inl (key, command, says)) = inr (record { key = key; command = command }, says)
    by (inr (p, first)) = inl (malformed_field (edit_record kind fields) p (few_fields kind fields wide) first)

say_next : (kind : Sheet) (fields : List Text) (rows : List (List Text)) → IsJudged kind fields → (said : List Record) × Say kind rows said → (said : List Record) × Say kind (fields ∷ rows) said
say_next kind fields rows (inl malformed) (said, say) = (said, inl (malformed, say))
say_next kind fields rows (inr (r, says)) (said, say) = (r ∷ said, inr (r, said, refl, says, say))

all_say : (kind : Sheet) (rows : List (List Text)) → HaveWidth kind rows → (said : List Record) × Say kind rows said
all_say kind [] wide = ([], refl)
all_say kind (fields ∷ rows) wide = say_next kind fields rows (judged kind fields wide.0) (all_say kind rows wide.1)

say_both : (kind : Sheet) (a b : List (List Text)) (said others : List Record) → Say kind a said → Say kind b others → Say kind (a ++ b) (said ++ others)
say_both kind [] b said others h g = subst (λ l. Say kind b (l ++ others)) (sym h) g
say_both kind (fields ∷ a) b said others (inl (malformed, more)) g = inl (malformed, say_both kind a b said others more g)
say_both kind (fields ∷ a) b said others (inr (r, rest, is, says, more)) g = inr (r, rest ++ others, ap (λ l. l ++ others) is, says, say_both kind a b rest others more g)

-- ---- first records

module _ (passed : List (List Text)) (kind : Sheet) (input : Text) (header : List Text) (records : List (List Text)) (is : IsHeader kind header) where
  -- records that have the width of the sheet, behind the first ones, and all of the sheet with them
  abbrev GoesOnSo : List (List Text) → Type 0
  GoesOnSo more = HaveWidth kind more × HasRecords passed kind input (records ++ more)

  odd_place : (good behind : List (List Text)) (bad : List Text) → (passed ++ records) ++ (good ++ bad ∷ behind) ≡ ((passed ++ (records ++ good)) ++ bad ∷ []) ++ behind
  odd_place good behind bad = simp append_assoc

  as_far : (more : List (List Text)) → AreAll input (header ∷ ((passed ++ records) ++ more)) → Splits kind more → (wide : List (List Text)) × GoesOnSo wide
  as_far more all (inl wide) = (more, (wide, inr (header, is, inl (subst (λ l. AreAll input (header ∷ l)) (append_assoc passed records more) all))))
  as_far more (end, left, reached, none) (inr (good, bad, behind, e, odd, wide)) =
      let begins : BeginsWith input (header ∷ ((passed ++ records) ++ more)) = (end, left, reached) in
      let same = ap (λ l. (passed ++ records) ++ l) e ∙ odd_place good behind bad in
      let front = front_begins input header ((passed ++ (records ++ good)) ++ bad ∷ []) behind (subst (λ l. BeginsWith input (header ∷ l)) same begins) in
      (good, (wide, inr (header, is, inr (bad, front, odd))))

  -- what the first records say are the first commands of the sheet
  pub first_given : (said : List Record) → BeginsWith input (header ∷ (passed ++ records)) → Say kind records said → (others : List Record) × GivesBehind passed kind input (said ++ others)
  first_given said begins say =
      let (more, all) = others_behind input (header ∷ (passed ++ records)) begins in
      let (further, (wide, has)) = as_far more all (splits kind more) in
      let (others, say_others) = all_say kind further wide in
      (others, (records ++ further, has, say_both kind records further said others say say_others))
