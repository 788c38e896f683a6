-- What a reader of records has read of its input.
use Rattle.std.proofs.Common.{◌≡◌, ℕ, List, [], ◌∷◌, ◌++◌, Option, Some, None, true, false, refl, sym, ◌∙◌, append_assoc}
use Rattle.std.proofs.lemmas.List.{append-nil}
use Rattle.std.specs.Prelude.{IfSome, option_map}
use Rattle.csv.specs.Machine.{Read, next_record}
use Rattle.csv.specs.Reading.{ExplainsRead, NextIs, ReadRecord, ReadsNext, Reached, default_config, pending_of, strip_bom}
use Rattle.csv.specs.declared.error.ErrorKind.{ErrorKind}
use Rattle.csv.specs.declared.error.ErrorKind.TheVariants as kind
use Rattle.csv.specs.declared.parser.Config.{Config}
use Rattle.csv.specs.declared.parser.State.{State}
use Rattle.csv.specs.declared.parser.State.TheVariants as st
use Rattle.csv.specs.declared.reader.Reader.{Reader}
use Rattle.csv.proofs.ReadFacts.{reached-more, rows-end}
use Rattle.lrs_sheet_records.specs.Rows.{Begins, EndsAfter, Gave, IsPlain, IsReadFault, fault_of_kind}

-- before the first read
pub known-start : (known source : Option (List ℕ)) (state : State) → source ≡ option_map strip_bom known → state ≡ st.StartRecord
    → IfSome known (λ input. (rest : List ℕ) × (source ≡ Some rest) × Reached default_config st.StartRecord (strip_bom input) [] state rest)
unfolding Reached
known-start None source state e s = tt
known-start (Some input) source state e s = (strip_bom input, e, (sym s, refl))

-- a read that found a record goes on with it
pub goes-on : (next : Option Read) (fields : List (List ℕ)) (s : State) (z : List ℕ) (cfg : Config) (s0 a : State) (xs y : List ℕ) (records : List (List (List ℕ)))
    → next ≡ next_record cfg a [] [] y → NextIs next true fields s z → Reached cfg s0 xs records a y
    → (s2 : State) × (y2 : List ℕ) × Reached cfg s0 xs (records ++ fields ∷ []) s2 y2
goes-on None fields s z cfg s0 a xs y records e n h = cc n
goes-on (Some p) fields s z cfg s0 a xs y records e n h =
    (p.1, p.2, rw n.1 (reached-more cfg s0 a xs y records p h (sym e)))

-- the same of a reader
pub took-more : (cfg : Config) (s0 a b : State) (xs y : List ℕ) (after : Option (List ℕ)) (fields : List (List ℕ)) (records : List (List (List ℕ)))
    → ReadsNext cfg a (Some y) after true fields b → Reached cfg s0 xs records a y
    → (s2 : State) × (y2 : List ℕ) × Reached cfg s0 xs (records ++ fields ∷ []) s2 y2
took-more cfg s0 a b xs y None fields records r h = absurd r
took-more cfg s0 a b xs y (Some z) fields records r h = goes-on (next_record cfg a [] [] y) fields b z cfg s0 a xs y records refl r h

-- why a read of bytes failed
pub explained : {R : Type 0} (rem : R → Option (List ℕ)) (old new : Reader R) (e : ErrorKind) → IsPlain old → ExplainsRead rem old new false e
    → IsReadFault rem old (fault_of_kind e)
explained rem old new (kind.Io e) plain why = tt
explained rem old new kind.OutOfMemory plain why = tt
explained rem old new (kind.Utf8 pos err) plain why = tt
explained rem old new (kind.Serialize text) plain why = absurd why
explained rem old new (kind.Deserialize pos err) plain why = absurd why
explained rem old new (kind.UnequalLengths pos expected len) plain (rigid, wanted, differ, fields, took, count) = (
  expected,
  wanted,
  λ input records (rest, source, reached). (
    fields,
    rw (append-nil records) (took-more default_config st.StartRecord old.state new.state (strip_bom input) rest (pending_of (rem new.rdr) new) fields records (rw (plain.config, source) at took) reached),
    λ same. differ (sym same ∙ count),
  ),
)

-- a read that found no record
pub ended : {R : Type 0} (rem : R → Option (List ℕ)) (old new : Reader R) (fields : List (List ℕ)) → IsPlain old → ReadRecord rem old new false fields
    → EndsAfter rem old []
ended rem old new fields plain read input records (rest, source, reached) =
    (old.state, rest, rw (append-nil records) reached, rows-end rem old new fields default_config rest plain.config source read)

-- nothing is read
pub gave-none : {R : Type 0} (rem : R → Option (List ℕ)) (rows : Reader R) → Gave rem rows rows []
gave-none rem rows = λ input before h. rw (append-nil before) h

-- what a reader gave, and then gave more
pub gave-more : {R : Type 0} (rem : R → Option (List ℕ)) (a b c : Reader R) (records more : List (List (List ℕ))) → Gave rem a b records → Gave rem b c more → Gave rem a c (records ++ more)
gave-more rem a b c records more first second = λ input before h. rw (← append_assoc before records more) (second input (before ++ records) (first input before h))

-- what a reader gave, it goes on with
pub begins : {R : Type 0} (rem : R → Option (List ℕ)) (a b : Reader R) (records : List (List (List ℕ))) → Gave rem a b records → Begins rem a records
begins rem a b records gave = λ input before h.
    let (rest, source, reached) = gave input before h in
    (b.state, rest, reached)
