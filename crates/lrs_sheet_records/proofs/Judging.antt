-- The first malformed field of a record, and what its fields say, as they are computed.
use Rattle.std.proofs.Common.{◌≡◌, ℕ, zero, suc, ◌+◌, ◌<◌, ◌-◌, Bool, true, false, List, [], ◌∷◌, Option, Some, None, drop, refl, sym, ap, ◌∙◌, arith, inl, inr}
use Rattle.std.specs.Prelude.{Contains, ◌||◌, if◌then◌else◌}
use Rattle.std.specs.List.{list_any}
use Rattle.std.specs.Str.{bytes_eq}
use Rattle.std.proofs.lemmas.Bool.{false≢true}
use Rattle.std.proofs.lemmas.Slice.Eq.{bytes_eq-Decides}
use Rattle.csv.specs.Records.{field_at}
use Rattle.lrs_machine.specs.Keys.{is_key}
use Rattle.lrs_machine.specs.Lines.{Text}
use Rattle.lrs_machine.specs.declared.command.Command.{Command}
use Rattle.lrs_sheet_records.proofs.Deciding.{argument_in, fits, fits-says, says-fits}
use Rattle.lrs_sheet_records.proofs.Misfits.{misfit-malformed, unknown-malformed}
use Rattle.lrs_sheet_records.specs.Fields.{FirstMisfit}
use Rattle.lrs_sheet_records.specs.Records.{FirstMalformedAmong, FirstMalformedBy, SayAll, SaysAmong, text_at, texts_of}
use Rattle.lrs_sheet_records.specs.Shapes.{Argument, Shape}
use Rattle.lrs_sheet_records.specs.Verbs.{arguments_of, shapes_of, verb_of}

-- the place of the first of some fields that is not empty
abbrev pub first_full : ℕ → List Text → Option ℕ
first_full place [] = None
first_full place ([] ∷ texts) = first_full (place + 1) texts
first_full place ((c ∷ text) ∷ texts) = Some place

-- the place of the first field, from a place on, that does not fit
abbrev pub misfit_in : List Text → ℕ → List Shape → Option ℕ
misfit_in fields place [] = first_full place (drop place fields)
misfit_in fields place (shape ∷ shapes) = if fits (texts_of fields) shape (text_at fields place) then misfit_in fields (place + 1) shapes else Some place

-- what the fields from a place on say
abbrev pub arguments_in : List Text → ℕ → List Shape → List Argument
arguments_in fields place [] = []
arguments_in fields place (shape ∷ shapes) = argument_in (texts_of fields) shape (text_at fields place) ∷ arguments_in fields (place + 1) shapes

abbrev pub is_among : List Text → Text → Bool
is_among names name = list_any (bytes_eq name) names

-- the place of the first malformed field
abbrev pub malformed_by : List Text → (Text → List Shape) → List Text → Option ℕ
malformed_by names shapes fields =
    if is_key (text_at fields 0) then (if is_among names (text_at fields 1) then misfit_in fields 2 (shapes (text_at fields 1)) else Some 1) else Some 0

abbrev pub malformed_in : List Text → List Text → Option ℕ
malformed_in names = malformed_by names shapes_of

-- fields from a place on
text_at-drop : (fields : List Text) (place i : ℕ) → text_at (drop place fields) i ≡ text_at fields (place + i)
unfolding field_at
text_at-drop [] zero i = refl
text_at-drop [] (suc place) i = refl
text_at-drop (f ∷ fields) zero i = let e : i ≡ 0 + i = omega arith in ap (text_at (f ∷ fields)) e
text_at-drop (f ∷ fields) (suc place) i = let e : suc (place + i) ≡ suc place + i = omega arith in text_at-drop fields place i ∙ ap (text_at (f ∷ fields)) e

-- where no field is full, each is empty
none-full : (place : ℕ) (texts : List Text) → first_full place texts ≡ None → (i : ℕ) → text_at texts i ≡ []
unfolding field_at
none-full place [] h i = refl
none-full place ([] ∷ texts) h zero = refl
none-full place ([] ∷ texts) h (suc i) = none-full (place + 1) texts h i
none-full place ((c ∷ text) ∷ texts) h i = absurd (cc h)

-- the first full one, so many behind a place
some-full : (place : ℕ) (texts : List Text) (m : ℕ) → first_full place texts ≡ Some m
    → (j : ℕ) × (m ≡ place + j) × ((i : ℕ) → i < j → text_at texts i ≡ []) × (text_at texts j ≡ [] → ⊥)
unfolding field_at
some-full place [] m h = absurd (cc h)
some-full place ([] ∷ texts) m h =
    let (j, at, empty, full) = some-full (place + 1) texts m h in
    (suc j, omega (arith, at), before empty, full)
  where
    before : {j : ℕ} → ((i : ℕ) → i < j → text_at texts i ≡ []) → (i : ℕ) → i < suc j → text_at ([] ∷ texts) i ≡ []
    before empty zero below = refl
    before empty (suc i) below = empty i (omega (arith, below))
some-full place ((c ∷ text) ∷ texts) m h =
    let same : place ≡ m = cc in
    (0, omega (arith, same), (λ i below. absurd (omega (arith, below))), (λ none. cc none))

-- the misfit that is computed is the first
pub misfit-from : (fields : List Text) (place : ℕ) (shapes : List Shape) (m : ℕ) → misfit_in fields place shapes ≡ Some m → FirstMisfit fields place shapes m
misfit-from fields place [] m h =
    let (j, at, empty, full) = some-full place (drop place fields) m h in (
      omega (arith, at),
      (λ i low high.
          let e : place + (i - place) ≡ i = omega (arith, low) in
          sym (ap (text_at fields) e) ∙ sym (text_at-drop fields place (i - place)) ∙ empty (i - place) (omega (arith, at, low, high))),
      (λ none. full (text_at-drop fields place j ∙ ap (text_at fields) (sym at) ∙ none)),
    )
misfit-from fields place (shape ∷ shapes) m h = elim (fits (texts_of fields) shape (text_at fields place))
    as (λ t. fits (texts_of fields) shape (text_at fields place) ≡ t → (if t then misfit_in fields (place + 1) shapes else Some place) ≡ Some m → FirstMisfit fields place (shape ∷ shapes) m) [
      | true ↦ λ e later. inr ((argument_in (texts_of fields) shape (text_at fields place), fits-says (texts_of fields) shape (text_at fields place) e), misfit-from fields (place + 1) shapes m later)
      | false ↦ λ e now.
          let same : m ≡ place = cc in
          inl (same, λ said. false≢true (sym e ∙ says-fits (texts_of fields) shape (text_at fields place) said.0 said.1))
    ] refl h

-- where there is none, the fields say what stands in them
pub fitting-say : (fields : List Text) (place : ℕ) (shapes : List Shape) → misfit_in fields place shapes ≡ None → SayAll fields place shapes (arguments_in fields place shapes)
fitting-say fields place [] h = λ i low.
    let e : place + (i - place) ≡ i = omega (arith, low) in
    sym (ap (text_at fields) e) ∙ sym (text_at-drop fields place (i - place)) ∙ none-full place (drop place fields) h (i - place)
fitting-say fields place (shape ∷ shapes) h = elim (fits (texts_of fields) shape (text_at fields place))
    as (λ t. fits (texts_of fields) shape (text_at fields place) ≡ t → (if t then misfit_in fields (place + 1) shapes else Some place) ≡ None → SayAll fields place (shape ∷ shapes) (arguments_in fields place (shape ∷ shapes))) [
      | true ↦ λ e later. (fits-says (texts_of fields) shape (text_at fields place) e, fitting-say fields (place + 1) shapes later)
      | false ↦ λ e now. absurd (cc now)
    ] refl h

-- a name that passes is among the names
pub among : (names : List Text) (name : Text) → is_among names name ≡ true → Contains names name
among [] name h = absurd (false≢true h)
among (other ∷ names) name h = elim (bytes_eq name other)
    as (λ t. bytes_eq name other ≡ t → (t || is_among names name) ≡ true → Contains (other ∷ names) name) [
      | true ↦ λ e known. (0, omega arith, sym ((bytes_eq-Decides name other).0 e))
      | false ↦ λ e later. let (k, below, is) = among names name later in (suc k, omega (arith, below), is)
    ] refl h

-- and one that is there passes
among-is : (names : List Text) (name : Text) → Contains names name → is_among names name ≡ true
among-is [] name (k, below, is) = absurd (omega (arith, below))
among-is (other ∷ names) name (zero, below, is) = rw ((bytes_eq-Decides name other).1 (sym is)) refl
among-is (other ∷ names) name (suc k, below, is) = or-later (bytes_eq name other) (is_among names name) (among-is names name (k, omega (arith, below), is))
  where
    or-later : (a b : Bool) → b ≡ true → (a || b) ≡ true
    or-later true b h = refl
    or-later false b h = h

module _ (names : List Text) (shapes : Text → List Shape) (fields : List Text) where
  -- The malformed field that is computed is the first.
  pub malformed-by : (m : ℕ) → malformed_by names shapes fields ≡ Some m → FirstMalformedBy names shapes fields m
  malformed-by m h = elim (is_key (text_at fields 0))
      as (λ t. is_key (text_at fields 0) ≡ t → (if t then (if is_among names (text_at fields 1) then misfit_in fields 2 (shapes (text_at fields 1)) else Some 1) else Some 0) ≡ Some m → FirstMalformedBy names shapes fields m) [
        | true ↦ λ key later. behind-key key later
        | false ↦ λ e now.
            let same : m ≡ 0 = cc in
            rw same (record { malformed = λ key. false≢true (sym e ∙ key); earlier = λ i below. absurd (omega (arith, below)) })
      ] refl h
    where
      behind-key : is_key (text_at fields 0) ≡ true → (if is_among names (text_at fields 1) then misfit_in fields 2 (shapes (text_at fields 1)) else Some 1) ≡ Some m → FirstMalformedBy names shapes fields m
      behind-key key h = elim (is_among names (text_at fields 1))
          as (λ t. is_among names (text_at fields 1) ≡ t → (if t then misfit_in fields 2 (shapes (text_at fields 1)) else Some 1) ≡ Some m → FirstMalformedBy names shapes fields m) [
            | true ↦ λ known later. misfit-malformed names shapes fields m key (among names (text_at fields 1) known) (misfit-from fields 2 (shapes (text_at fields 1)) m later)
            | false ↦ λ e now.
                let same : m ≡ 1 = cc in
                rw same (unknown-malformed names shapes fields key (λ known. false≢true (sym e ∙ among-is names (text_at fields 1) known)))
          ] refl h

  -- Where none is computed, the key and the name are well formed, and what is behind them fits.
  pub none-malformed : malformed_by names shapes fields ≡ None → (is_key (text_at fields 0) ≡ true) × (is_among names (text_at fields 1) ≡ true) × (misfit_in fields 2 (shapes (text_at fields 1)) ≡ None)
  none-malformed e = both (is_key (text_at fields 0)) (is_among names (text_at fields 1)) (misfit_in fields 2 (shapes (text_at fields 1))) e
    where
      both : (a b : Bool) (o : Option ℕ) → (if a then (if b then o else Some 1) else Some 0) ≡ None → (a ≡ true) × (b ≡ true) × (o ≡ None)
      both true true o e = (refl, refl, e)
      both true false o e = absurd (cc e)
      both false b o e = absurd (cc e)

pub malformed-from : (names fields : List Text) (m : ℕ) → malformed_in names fields ≡ Some m → FirstMalformedAmong names fields m
malformed-from names = malformed-by names shapes_of

-- Where no field is malformed, the record says the command of its verb and of its arguments.
pub says-from : (names fields : List Text) (key : Text) (command : Command) → is_key (text_at fields 0) ≡ true → key ≡ text_at fields 0 → is_among names (text_at fields 1) ≡ true → text_at fields 1 ≡ verb_of command
    → misfit_in fields 2 (shapes_of (verb_of command)) ≡ None → arguments_in fields 2 (shapes_of (verb_of command)) ≡ arguments_of command → SaysAmong names fields key command
says-from names fields key command is same known verb fit said = record {
  is_key = is;
  same_key = same;
  is_verb = among names (text_at fields 1) known;
  same_verb = verb;
  arguments = rw said at (fitting-say fields 2 (shapes_of (verb_of command)) fit);
}
