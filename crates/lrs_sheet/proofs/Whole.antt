-- A whole sheet, from its header on.
use Rattle.std.proofs.Common.{◌≡◌, ℕ, List, [], ◌∷◌, length, Option, Some, None, refl, sym, ap, inl, inr, ◌∙◌, arith, Result, Ok, Err}
use Rattle.std.specs.Prelude.{IfSome}
use Rattle.std.specs.Io.KnownBytes.{Keeps}
use Rattle.csv.specs.Machine.{Read}
use Rattle.csv.specs.Reading.{Reached, default_config, expected_len, strip_bom}
use Rattle.csv.specs.declared.parser.Config.{Config}
use Rattle.csv.specs.declared.parser.State.{State as Place}
use Rattle.csv.specs.declared.parser.State.TheVariants as st
use Rattle.csv.specs.declared.reader.Reader.{Reader}
use Rattle.lrs_machine.specs.State.{State}
use Rattle.lrs_machine.specs.declared.answer.Limits.{Limits}
use Rattle.lrs_machine.specs.declared.image.Image.{Image}
use Rattle.lrs_machine.specs.declared.table.Table.{Table}
use Rattle.lrs_sheet.specs.declared.reply.Tally.{Tally}
use Rattle.lrs_sheet_records.specs.declared.fault.SheetFault.{SheetFault}
use Rattle.lrs_sheet_records.specs.declared.fault.SheetFault.TheVariants as fault
use Rattle.lrs_machine.specs.declared.stops.fault.Fault.TheVariants as stop
use Rattle.lrs_sheet.specs.Replies.{tally_of}
use Rattle.lrs_sheet_records.specs.declared.sheet.Sheet.{Sheet}
use Rattle.lrs_sheet_records.specs.Kinds.{IsHeader}
use Rattle.lrs_sheet.specs.Sheets.{BreaksOffBehind, HasAnsweredSome, HasDoneUpTo, HasFailedToKeep, HasStopped, RunsBehind, StandAtFront}
use Rattle.lrs_sheet_records.specs.Rows.{EndsAfter, Gave, HasRead, IsReadFault}
use Rattle.lrs_sheet.specs.Rows.{AnswersSome, BreaksAfter, DoesRows, DoesUpTo, FailsToKeep, Stops}

pub keeps-same : (contents : Option (List ℕ)) → Keeps contents contents
keeps-same None = tt
keeps-same (Some bytes) = refl

-- the first read failed
pub unread : {R : Type 0} (sheet : Sheet) (together : ℕ) (rem : R → Option (List ℕ)) (rows : Reader R) (known : Option (List ℕ)) (limits : Limits) (state : State) (contents : Option (List ℕ)) (passed : ℕ) (e : SheetFault) → expected_len rows ≡ None → IsReadFault rem rows e
    → IfSome known (λ input. (front : List (List (List ℕ))) → StandAtFront input front → length front ≡ passed → RunsBehind front sheet together limits input state state contents contents (Err e))
unread sheet together rem rows None limits state contents passed e first why = tt
unread sheet together rem rows (Some input) limits state contents passed fault.Read first why = λ front at count. inl (refl, keeps-same contents)
unread sheet together rem rows (Some input) limits state contents passed fault.Memory first why = λ front at count. inl (refl, keeps-same contents)
unread sheet together rem rows (Some input) limits state contents passed fault.Write first why = absurd why
unread sheet together rem rows (Some input) limits state contents passed fault.BadHeader first why = absurd why
unread sheet together rem rows (Some input) limits state contents passed (fault.Desk m) first why = absurd why
unread sheet together rem rows (Some input) limits state contents passed fault.BadCsv first (wanted, expected, next) = absurd (cc (first, expected))

-- a sheet with no record
pub empty-sheet : {R : Type 0} (sheet : Sheet) (together : ℕ) (rem : R → Option (List ℕ)) (rows : Reader R) (known : Option (List ℕ)) (limits : Limits) (state : State) (contents : Option (List ℕ)) (tally : Tally) (passed : ℕ)
    → IfSome known (λ input. HasRead rem rows input []) → EndsAfter rem rows [] → tally ≡ tally_of []
    → IfSome known (λ input. (front : List (List (List ℕ))) → StandAtFront input front → length front ≡ passed → RunsBehind front sheet together limits input state state contents contents (Ok tally))
empty-sheet sheet together rem rows None limits state contents tally passed start ends none = tt
empty-sheet sheet together rem rows (Some input) limits state contents tally passed start ends none = λ front at count. inl (ends input [] start, refl, keeps-same contents, none)

-- a sheet of another header
pub bad-header : {R : Type 0} (sheet : Sheet) (together : ℕ) (rem : R → Option (List ℕ)) (rows next : Reader R) (known : Option (List ℕ)) (limits : Limits) (state : State) (contents : Option (List ℕ)) (fields : List (List ℕ)) (passed : ℕ)
    → IfSome known (λ input. HasRead rem rows input []) → Gave rem rows next (fields ∷ []) → (IsHeader sheet fields → ⊥)
    → IfSome known (λ input. (front : List (List (List ℕ))) → StandAtFront input front → length front ≡ passed → RunsBehind front sheet together limits input state state contents contents (Err fault.BadHeader))
bad-header sheet together rem rows next None limits state contents fields passed start gave other = tt
bad-header sheet together rem rows next (Some input) limits state contents fields passed start gave other = λ front at count.
    let (rest, source, reached) = gave input [] start in
    (fields, (next.state, rest, reached), other, refl, keeps-same contents)

up-to-under : {R : Type 0} (sheet : Sheet) (rem : R → Option (List ℕ)) (next : Reader R) (input : List ℕ) (limits : Limits) (before after : State) (fields : List (List ℕ)) (front : List (List (List ℕ)))
    → HasRead rem next input (fields ∷ front) → IsHeader sheet fields → DoesUpTo sheet rem next limits before after → HasDoneUpTo front sheet limits input before after
up-to-under sheet rem next input limits before after fields front read header (records, further, replies, some, wide, replied, begins) =
    (fields, records, further, replies, header, begins input (fields ∷ front) read, some, wide, replied)

stopped-under : {R : Type 0} (sheet : Sheet) (together : ℕ) (rem : R → Option (List ℕ)) (next : Reader R) (input : List ℕ) (limits : Limits) (before after : State) (old new : Option (List ℕ)) (fields : List (List ℕ)) (front : List (List (List ℕ)))
    → HasRead rem next input (fields ∷ front) → IsHeader sheet fields → Stops sheet together rem next limits before after old new → HasStopped front sheet together limits input before after old new
stopped-under sheet together rem next input limits before after old new fields front read header (records, further, replies, come, answered, begins) =
    (fields, records, further, replies, header, begins input (fields ∷ front) read, come, answered)

failed-under : {R : Type 0} (sheet : Sheet) (together : ℕ) (rem : R → Option (List ℕ)) (next : Reader R) (input : List ℕ) (limits : Limits) (before after : State) (old new : Option (List ℕ)) (fields : List (List ℕ)) (front : List (List (List ℕ)))
    → HasRead rem next input (fields ∷ front) → IsHeader sheet fields → FailsToKeep sheet together rem next limits before after old new → HasFailedToKeep front sheet together limits input before after old new
failed-under sheet together rem next input limits before after old new fields front read header failed = record {
  header = fields;
  records = failed.records;
  further = failed.further;
  replies = failed.replies;
  settled = failed.settled;
  is_header = header;
  begins = failed.begins input (fields ∷ front) read;
  come_next = failed.come_next;
  answered = failed.answered;
  flight = failed.flight;
}

answered-under : {R : Type 0} (sheet : Sheet) (rem : R → Option (List ℕ)) (next : Reader R) (input : List ℕ) (limits : Limits) (before after : State) (old new : Option (List ℕ)) (fields : List (List ℕ)) (front : List (List (List ℕ)))
    → HasRead rem next input (fields ∷ front) → IsHeader sheet fields → AnswersSome sheet rem next limits before after old new → HasAnsweredSome front sheet limits input before after old new
answered-under sheet rem next input limits before after old new fields front read header (records, replies, answered, begins) =
    inr (fields, records, replies, header, begins input (fields ∷ front) read, answered)

under : {R : Type 0} (sheet : Sheet) (together : ℕ) (rem : R → Option (List ℕ)) (next : Reader R) (input : List ℕ) (limits : Limits) (before after : State) (old new : Option (List ℕ)) (fields : List (List ℕ)) (front : List (List (List ℕ))) (result : Result Tally SheetFault)
    → HasRead rem next input (fields ∷ front) → IsHeader sheet fields → DoesRows sheet together rem next limits before after old new result → RunsBehind front sheet together limits input before after old new result
under sheet together rem next input limits before after old new fields front (Ok tally) read header (records, replies, answered, counts, ends, few) =
    inr (fields, records, replies, header, ends input (fields ∷ front) read, answered, counts, few)
under sheet together rem next input limits before after old new fields front (Err fault.BadCsv) read header (records, replies, answered, next-differs) =
    let (bad, begins, differs) = next-differs input (fields ∷ front) read in
    (fields, records, bad, replies, header, begins, differs, answered)
under sheet together rem next input limits before after old new fields front (Err fault.BadHeader) read header does = absurd does
under sheet together rem next input limits before after old new fields front (Err fault.Read) read header does = answered-under sheet rem next input limits before after old new fields front read header does
under sheet together rem next input limits before after old new fields front (Err fault.Write) read header does = up-to-under sheet rem next input limits before after fields front read header does
under sheet together rem next input limits before after old new fields front (Err (fault.Desk stop.Memory)) read header does = stopped-under sheet together rem next input limits before after old new fields front read header does
under sheet together rem next input limits before after old new fields front (Err (fault.Desk stop.MustReopen)) read header does = stopped-under sheet together rem next input limits before after old new fields front read header does
under sheet together rem next input limits before after old new fields front (Err (fault.Desk stop.Keep)) read header does = failed-under sheet together rem next input limits before after old new fields front read header does
under sheet together rem next input limits before after old new fields front (Err fault.Memory) read header does = answered-under sheet rem next input limits before after old new fields front read header does

-- a text has one list of so many first records
one-front : (cfg : Config) (s s1 s2 : Place) (xs y1 y2 : List ℕ) (a b : List (List (List ℕ))) → Reached cfg s xs a s1 y1 → Reached cfg s xs b s2 y2 → length a ≡ length b → a ≡ b
unfolding Reached
one-front cfg s s1 s2 xs y1 y2 [] [] h g same = refl
one-front cfg s s1 s2 xs y1 y2 [] (r ∷ rs) h g same = absurd (omega (arith, same))
one-front cfg s s1 s2 xs y1 y2 (r ∷ rs) [] h g same = absurd (omega (arith, same))
one-front cfg s s1 s2 xs y1 y2 (r ∷ rs) (q ∷ qs) (p, next, is, more) (o, next', is', more') same =
    let one : o ≡ p = cc (next, next') in
    let first : r ≡ q = is ∙ sym (ap (λ (p : Read). p.0) one) ∙ sym is' in
    let others : rs ≡ qs = one-front cfg p.1 s1 s2 p.2 y1 y2 rs qs more (rw one at more') (omega (arith, same)) in
    rw (first, others) refl

-- the records that were read under the header are those at the front
read-front : {R : Type 0} (rem : R → Option (List ℕ)) (next : Reader R) (input : List ℕ) (fields : List (List ℕ)) (front read : List (List (List ℕ)))
    → HasRead rem next input (fields ∷ read) → StandAtFront input front → length front ≡ length read → HasRead rem next input (fields ∷ front)
read-front rem next input fields front [] has (inl none) same = rw none has
read-front rem next input fields front (r ∷ rs) has (inl none) same = absurd (let zero : 0 ≡ length (r ∷ rs) = sym (ap length none) ∙ same in omega (arith, zero))
read-front rem next input fields front read (rest, source, reached) (inr (header, (state, other, stand))) same =
    let all : fields ∷ read ≡ header ∷ front = one-front default_config st.StartRecord next.state state (strip_bom input) rest other (fields ∷ read) (header ∷ front) reached stand (omega (arith, same)) in
    let tail : read ≡ front = cc all in
    (rest, source, rw (sym tail) reached)

-- the records behind those at the front
pub under-header : {R : Type 0} (sheet : Sheet) (together : ℕ) (rem : R → Option (List ℕ)) (rows mid next : Reader R) (known : Option (List ℕ)) (limits : Limits) (before after : State) (old new : Option (List ℕ)) (fields : List (List ℕ)) (passed : ℕ) (result : Result Tally SheetFault)
    → IfSome known (λ input. HasRead rem rows input []) → Gave rem rows mid (fields ∷ []) → IsHeader sheet fields → ((read : List (List (List ℕ))) × (length read ≡ passed) × Gave rem mid next read) → DoesRows sheet together rem next limits before after old new result
    → IfSome known (λ input. (front : List (List (List ℕ))) → StandAtFront input front → length front ≡ passed → RunsBehind front sheet together limits input before after old new result)
under-header sheet together rem rows mid next None limits before after old new fields passed result start gave header skipped does = tt
under-header sheet together rem rows mid next (Some input) limits before after old new fields passed result start gave header (read, count, skips) does = λ front at same.
    under sheet together rem next input limits before after old new fields front result (read-front rem next input fields front read (skips input (fields ∷ []) (gave input [] start)) at (same ∙ sym count)) header does

-- a commit behind those at the front failed
pub broke-under : {R : Type 0} (sheet : Sheet) (together : ℕ) (rem : R → Option (List ℕ)) (rows mid next : Reader R) (known : Option (List ℕ)) (limits : Limits) (before after : State) (old new : Option (List ℕ)) (content : Result Image Table) (fields : List (List ℕ)) (passed : ℕ)
    → IfSome known (λ input. HasRead rem rows input []) → Gave rem rows mid (fields ∷ []) → IsHeader sheet fields → ((read : List (List (List ℕ))) × (length read ≡ passed) × Gave rem mid next read) → BreaksAfter sheet together rem next limits before after old new content
    → IfSome known (λ input. (front : List (List (List ℕ))) → StandAtFront input front → length front ≡ passed → BreaksOffBehind front sheet together limits input before after old new content)
unfolding failed-under
broke-under sheet together rem rows mid next None limits before after old new content fields passed start gave header skipped breaks = tt
broke-under sheet together rem rows mid next (Some input) limits before after old new content fields passed start gave header (read, count, skips) (failed, stands) = λ front at same.
    (failed-under sheet together rem next input limits before after old new fields front (read-front rem next input fields front read (skips input (fields ∷ []) (gave input [] start)) at (same ∙ sym count)) header failed, stands)

-- the whole sheet: no record stands at its front
pub whole : (P : List ℕ → List (List (List ℕ)) → Type 0) (known : Option (List ℕ)) → IfSome known (λ input. (front : List (List (List ℕ))) → StandAtFront input front → length front ≡ 0 → P input front) → IfSome known (λ input. P input [])
whole P None h = tt
whole P (Some input) h = h [] (inl refl) refl
