-- The fields of a record by their places.
use Rattle.std.proofs.Common.{Ok, Err, Result, ◌∙◌, Option, ◌-◌, sym, subst, ◌≡◌, ℕ, zero, suc, ◌≤◌, ◌<◌, ◌+◌, List, [], ◌∷◌, length, lit<, arith, refl, inl, inr, Some, None}
use Rattle.std.specs.Prelude.{slice_get, map, Contains, IsTrue}
use Rattle.std.specs.List.{AllByRecursion}
use Rattle.csv.specs.Records.{field_at}
use Rattle.lrs_sheet_records.specs.Records.{FirstMalformedBy, IsWellFormedBy, Refuses, RunsOutBy, place_of, text_at, texts_of}
use Rattle.lrs_sheet_records.specs.Shapes.{Fits, Shape, is_list_at}
use Rattle.lrs_sheet_records.specs.Verbs.{IsVerb, Row, all_verbs, every_verb, row_of, shapes_of}
use Rattle.lrs_sheet_records.specs.Fields.{FirstMisfit, ReadsArguments, ReadsCommand, RunsOut}
use Rattle.lrs_machine.specs.declared.command.Command.{Command}
use Rattle.lrs_sheet_records.specs.declared.fault.ReadFault.{ReadFault}
use Rattle.lrs_sheet_records.specs.declared.fault.ReadFault.TheVariants as fault
use Rattle.lrs_machine.specs.Keys.{is_key}
use Rattle.lrs_sheet_records.specs.declared.verb.Verb.{Verb}
use Rattle.lrs_sheet_records.specs.declared.verb.Verb.TheVariants as verb

-- there is nothing past the end
pub text_at-past : (fields : List (List ℕ)) (i : ℕ) → length fields ≤ i → text_at fields i ≡ []
unfolding field_at
text_at-past [] i h = refl
text_at-past (f ∷ fs) zero h = absurd (omega arith)
text_at-past (f ∷ fs) (suc i) h = text_at-past fs i (omega arith)

-- a field at an equal place
pub fits-along : (fields : List (List ℕ)) (shape : Option Shape) (a b : ℕ) → a ≡ b → Fits (texts_of fields) shape (text_at fields a) → Fits (texts_of fields) shape (text_at fields b)
fits-along fields shape a b e h = subst (λ (p : ℕ). Fits (texts_of fields) shape (text_at fields p)) e h

-- one more field that fits, in front of others
more-fit : (fields : List (List ℕ)) (place : ℕ) (shape : Shape) (shapes : List Shape) → Fits (texts_of fields) (Some shape) (text_at fields place)
    → (j : ℕ) → ((i : ℕ) → i < j → Fits (texts_of fields) (slice_get shapes i) (text_at fields (place + 1 + i)))
    → (i : ℕ) → i < suc j → Fits (texts_of fields) (slice_get (shape ∷ shapes) i) (text_at fields (place + i))
more-fit fields place shape shapes first j earlier zero below = fits-along fields (Some shape) place (place + 0) (omega arith) first
more-fit fields place shape shapes first j earlier (suc i) below = fits-along fields (slice_get shapes i) (place + 1 + i) (place + suc i) (omega arith) (earlier i (omega arith))

-- the first misfit, by its place among the shapes
pub misfit-at : (fields : List (List ℕ)) (place : ℕ) (shapes : List Shape) (m : ℕ) → FirstMisfit fields place shapes m
    → (j : ℕ) × (m ≡ place + j) × (Fits (texts_of fields) (slice_get shapes j) (text_at fields (place + j)) → ⊥)
    × ((i : ℕ) → i < j → Fits (texts_of fields) (slice_get shapes i) (text_at fields (place + i)))
misfit-at fields place [] m h =
    let e : m ≡ place + (m - place) = omega (arith, h.0) in (
      m - place,
      e,
      (λ none. h.2 (fits-along fields None (place + (m - place)) m (sym e) none)),
      (λ i below. h.1 (place + i) (omega arith) (omega arith)),
    )
misfit-at fields place (shape ∷ shapes) m (inl h) = (
  0,
  omega (arith, h.0),
  (λ fits. h.1 (fits-along fields (Some shape) (place + 0) place (omega arith) fits)),
  (λ i below. absurd (omega arith)),
)
misfit-at fields place (shape ∷ shapes) m (inr h) =
    let (j, e, bad, earlier) = misfit-at fields (place + 1) shapes m h.1 in (
      suc j,
      omega arith,
      (λ fits. bad (fits-along fields (slice_get shapes j) (place + suc j) (place + 1 + j) (omega arith) fits)),
      more-fit fields place shape shapes h.0 j earlier,
    )

-- a field with a list, by its place among the shapes
list-at : (fields : List (List ℕ)) (place : ℕ) (shapes : List Shape) → RunsOut fields place shapes
    → (j : ℕ) × IsTrue (is_list_at shapes j) × ((i : ℕ) → i < j → Fits (texts_of fields) (slice_get shapes i) (text_at fields (place + i)))
list-at fields place [] h = absurd h
list-at fields place (shape ∷ shapes) (inl list) = (0, list, λ i below. absurd (omega arith))
list-at fields place (shape ∷ shapes) (inr h) = let (j, list, earlier) = list-at fields (place + 1) shapes h.1 in (suc j, list, more-fit fields place shape shapes h.0 j earlier)

module _ (names : List (List ℕ)) (shapes : List ℕ → List Shape) (fields : List (List ℕ)) where
  -- the fields in front, behind a well formed key and name
  all-before : IsTrue (is_key (text_at fields 0)) → Contains names (text_at fields 1)
      → (j : ℕ) → ((i : ℕ) → i < j → Fits (texts_of fields) (slice_get (shapes (text_at fields 1)) i) (text_at fields (2 + i))) → (i : ℕ) → i < suc (suc j) → IsWellFormedBy names shapes fields i
  all-before key name j earlier zero below = key
  all-before key name j earlier (suc zero) below = name
  all-before key name j earlier (suc (suc i)) below = earlier i (omega arith)

  -- where the key and the name are well formed, the first misfit is the first malformed field
  pub misfit-malformed : (m : ℕ) → IsTrue (is_key (text_at fields 0)) → Contains names (text_at fields 1) → FirstMisfit fields 2 (shapes (text_at fields 1)) m → FirstMalformedBy names shapes fields m
  misfit-malformed m key name h =
      let (j, e, bad, earlier) = misfit-at fields 2 (shapes (text_at fields 1)) m h in
      let at : m ≡ suc (suc j) = omega arith in
      rw at (record { malformed = bad; earlier = all-before key name j earlier })

  -- ... and memory runs out at a field with a list
  pub runs-out : IsTrue (is_key (text_at fields 0)) → Contains names (text_at fields 1) → RunsOut fields 2 (shapes (text_at fields 1)) → RunsOutBy names shapes fields
  runs-out key name h =
      let (j, list, earlier) = list-at fields 2 (shapes (text_at fields 1)) h in
      record { at = j; list = list; earlier = λ i below. all-before key name j earlier i (omega (arith, below)) }

  -- a name that is none of them is the first malformed field behind a well formed key
  pub unknown-malformed : IsTrue (is_key (text_at fields 0)) → (Contains names (text_at fields 1) → ⊥) → FirstMalformedBy names shapes fields 1
  unknown-malformed key unknown = record { malformed = unknown; earlier = first }
    where
      first : (i : ℕ) → i < 1 → IsWellFormedBy names shapes fields i
      first zero below = key
      first (suc i) below = absurd (omega arith)

-- a name that differs from each of a list is not among them
pub not-among : (names : List (List ℕ)) (name : List ℕ) → AllByRecursion (λ other. name ≡ other → ⊥) names → Contains names name → ⊥
not-among [] name h (k, below, is) = absurd (omega arith)
not-among (other ∷ names) name h (zero, below, is) = h.0 (sym is)
not-among (other ∷ names) name h (suc k, below, is) = not-among names name h.1 (k, omega arith, is)

-- a fault of the fields after a well formed key
pub refuses : (fields : List (List ℕ)) (e : ReadFault) → IsTrue (is_key (text_at fields 0)) → ReadsCommand fields (Err e) → Refuses fields e
refuses fields fault.Memory key reads = runs-out all_verbs shapes_of fields key reads.0 reads.1
refuses fields (fault.Field at) key (inl (is, unknown)) = rw is (unknown-malformed all_verbs shapes_of fields key unknown)
refuses fields (fault.Field at) key (inr (known, misfit)) = misfit-malformed all_verbs shapes_of fields (place_of at) key known misfit

-- each verb is one of the table
pub is-verb : (v : Verb) → IsVerb (row_of v).name
is-verb verb.Link = (0, lit< tt, refl)
is-verb verb.Class = (1, lit< tt, refl)
is-verb verb.Route = (2, lit< tt, refl)
is-verb verb.Ref = (3, lit< tt, refl)
is-verb verb.Unref = (4, lit< tt, refl)
is-verb verb.Enter = (5, lit< tt, refl)
is-verb verb.Retire = (6, lit< tt, refl)
is-verb verb.Split = (7, lit< tt, refl)
is-verb verb.Join = (8, lit< tt, refl)
is-verb verb.Renumber = (9, lit< tt, refl)
is-verb verb.Recalibrate = (10, lit< tt, refl)
is-verb verb.Realign = (11, lit< tt, refl)
is-verb verb.Close = (12, lit< tt, refl)
is-verb verb.Supersede = (13, lit< tt, refl)
is-verb verb.Turn = (14, lit< tt, refl)

-- and each name of the table is of a verb
named-in : (vs : List Verb) (name : List ℕ) → Contains (map (λ (row : Row). row.name) (map row_of vs)) name → (v : Verb) × (name ≡ (row_of v).name)
named-in [] name (k, below, is) = absurd (omega arith)
named-in (v ∷ vs) name (zero, below, is) = (v, sym is)
named-in (v ∷ vs) name (suc k, below, is) = named-in vs name (k, omega arith, is)

pub verb-named : (name : List ℕ) → IsVerb name → (v : Verb) × (name ≡ (row_of v).name)
verb-named = named-in every_verb

-- the fields of a verb that there is
pub reads-verb : (fields : List (List ℕ)) (verb : List ℕ) (result : Result Command ReadFault) → IsVerb verb → text_at fields 1 ≡ verb → ReadsArguments fields verb result → ReadsCommand fields result
reads-verb fields verb (Ok command) known is reads = (rw is known, is ∙ sym reads.0, rw reads.0 reads.1)
reads-verb fields verb (Err (fault.Field field)) known is reads = inr (rw is known, rw is reads)
reads-verb fields verb (Err fault.Memory) known is reads = (rw is known, rw is reads)
