-- The bytes of a sheet and the state before it determine the reply and the state after it.
use Rattle.std.proofs.Common.{◌≡◌, ℕ, List, [], ◌∷◌, ◌++◌, Option, Some, None, refl, sym, ap, ◌∙◌, inl, inr}
use Rattle.std.specs.Option.{SomeIff}
use Rattle.std.proofs.lemmas.List.{append-nil}
use Rattle.csv.specs.Machine.{Read, next_record}
use Rattle.csv.specs.Reading.{Reached}
use Rattle.csv.specs.declared.parser.Config.{Config}
use Rattle.csv.specs.declared.parser.State.{State as Place}
use Rattle.lrs_machine.specs.Machine.{step}
use Rattle.lrs_machine.specs.State.{State}
use Rattle.lrs_machine.specs.declared.answer.Answer.{Answer}
use Rattle.lrs_machine.specs.declared.answer.Answer.TheVariants.{Refused}
use Rattle.lrs_machine.specs.declared.answer.Cause.TheVariants.{Malformed}
use Rattle.lrs_machine.specs.declared.answer.Field.{Field}
use Rattle.lrs_machine.specs.declared.answer.Limits.{Limits}
use Rattle.lrs_sheet_records.proofs.OneCommand.{one-command, one-malformed, well-formed}
use Rattle.lrs_sheet.specs.declared.reply.Reply.{Reply}
use Rattle.lrs_sheet.specs.Laws.{IsOneReply, Outcome, SheetDeterminesReply}
use Rattle.lrs_sheet_records.specs.Records.{text_at, place_of}
use Rattle.lrs_sheet_records.specs.Verbs.{all_verbs, shapes_of}
use Rattle.lrs_sheet_records.specs.declared.sheet.Sheet.{Sheet}
use Rattle.lrs_sheet_records.specs.Kinds.{edit_record}
use Rattle.lrs_sheet.specs.Replies.{IsAnswered, IsReplied, Replied, lines_of, tally_of}
use Rattle.lrs_sheet_records.specs.Rows.{AreAll}
use Rattle.lrs_sheet.specs.Sheets.{AnswersAll}

-- a text has one list of records
one-list : (cfg : Config) (s s1 s2 : Place) (xs y1 y2 : List ℕ) (a b : List (List (List ℕ))) → Reached cfg s xs a s1 y1 → next_record cfg s1 [] [] y1 ≡ None
    → Reached cfg s xs b s2 y2 → next_record cfg s2 [] [] y2 ≡ None → a ≡ b
unfolding Reached
one-list cfg s s1 s2 xs y1 y2 [] [] h none g end = refl
one-list cfg s s1 s2 xs y1 y2 [] (r ∷ rs) h none (p, next, is, more) end = cc (ap (λ (q : Place). next_record cfg q [] [] xs) h.0, ap (λ (q : List ℕ). next_record cfg s1 [] [] q) h.1, none, next)
one-list cfg s s1 s2 xs y1 y2 (r ∷ rs) [] (p, next, is, more) none g end = cc (ap (λ (q : Place). next_record cfg q [] [] xs) g.0, ap (λ (q : List ℕ). next_record cfg s2 [] [] q) g.1, end, next)
one-list cfg s s1 s2 xs y1 y2 (r ∷ rs) (q ∷ qs) (p, next, is, more) none (o, next', is', more') end =
    let same : o ≡ p = cc (next, next') in
    let first : r ≡ q = is ∙ sym (ap (λ (p : Read). p.0) same) ∙ sym is' in
    let others : rs ≡ qs = one-list cfg p.1 s1 s2 p.2 y1 y2 rs qs more none (rw same at more') end in
    rw (first, others) refl

pub all-one : (input : List ℕ) (a b : List (List (List ℕ))) → AreAll input a → AreAll input b → a ≡ b
all-one input a b (s1, y1, reached, none) (s2, y2, reached', end) = one-list _ _ s1 s2 _ y1 y2 a b reached none reached' end

-- a key is as its test says
one-key : (a b : Option (List ℕ)) (P : Type 0) (text : List ℕ) → SomeIff a P text → SomeIff b P text → a ≡ b
one-key None None P text h g = refl
one-key None (Some y) P text h g = absurd (h g.0)
one-key (Some x) None P text h g = absurd (g h.0)
one-key (Some x) (Some y) P text h g = ap Some (h.1 ∙ sym g.1)

-- a record is answered in one way
one-answer : (limits : Limits) (before after other : State) (fields : List (List ℕ)) (a b : Answer) → IsAnswered limits before fields a after → IsAnswered limits before fields b other → (a ≡ b) × (after ≡ other)
one-answer limits before after other fields a b (inl (key, command, says, answer, state)) (inl (key', command', says', answer', state')) =
    let (keys, same) = one-command all_verbs fields key key' command command' says says' in
    let moved : step limits key command before ≡ step limits key' command' before = λ i. step limits (keys i) (same i) before in
    (answer ∙ ap (λ o. o.answer) moved ∙ sym answer', state ∙ ap (λ o. o.state) moved ∙ sym state')
one-answer limits before after other fields a b (inr (field, first, answer, state)) (inr (field', first', answer', state')) =
    let same = one-malformed all_verbs shapes_of fields field field' first first' in
    (answer ∙ ap (λ (f : Field). Refused (Malformed f)) same ∙ sym answer', state ∙ sym state')
one-answer limits before after other fields a b (inl (key, command, says, answer, state)) (inr (field, first, answer', state')) =
    absurd (first.malformed (well-formed all_verbs fields key command says (place_of field)))
one-answer limits before after other fields a b (inr (field, first, answer', state')) (inl (key, command, says, answer, state)) =
    absurd (first.malformed (well-formed all_verbs fields key command says (place_of field)))

one-reply : (limits : Limits) (before after other : State) (fields : List (List ℕ)) (a b : Reply) → IsReplied limits before fields a after → IsReplied limits before fields b other → (a ≡ b) × (after ≡ other)
one-reply limits before after other fields a b (key, answered) (key', answered') =
    let (answers, states) = one-answer limits before after other fields a.answer b.answer answered answered' in
    let keys : a.key ≡ b.key = one-key a.key b.key _ (text_at fields 0) key key' in
    ((λ i. record { key = keys i; answer = answers i }), states)

-- records are answered in one way
pub one-run : (sheet : Sheet) (limits : Limits) (before after other : State) (records : List (List (List ℕ))) (a b : List Reply) → Replied sheet limits before records a after → Replied sheet limits before records b other → (a ≡ b) × (after ≡ other)
unfolding Replied
one-run sheet limits before after other [] [] [] h g = (refl, h ∙ sym g)
one-run sheet limits before after other [] [] (b ∷ bs) h g = absurd g
one-run sheet limits before after other [] (a ∷ rest) bs h g = absurd h
one-run sheet limits before after other (r ∷ rs) [] bs h g = absurd h
one-run sheet limits before after other (r ∷ rs) (a ∷ rest) [] h g = absurd g
one-run sheet limits before after other (r ∷ rs) (a ∷ rest) (b ∷ bs) (middle, first, more) (middle', first', more') =
    let (same, state) = one-reply limits before middle middle' (edit_record sheet r) a b first first' in
    let (others, end) = one-run sheet limits middle after other rs rest bs more (rw (sym state) at more') in
    (rw (same, others) refl, end)

-- from one reply
of-one : (old earlier : List ℕ) (one other : Outcome) (a b : List Reply) → a ≡ b → one.written ≡ old ++ lines_of a → other.written ≡ earlier ++ lines_of b
    → one.state ≡ other.state → one.tally ≡ tally_of a → other.tally ≡ tally_of b → IsOneReply old one earlier other
of-one old earlier one other a b same wrote wrote' state counts counts' = record {
  lines = (lines_of a, wrote, wrote' ∙ ap (λ (r : List Reply). earlier ++ lines_of r) (sym same));
  state = state;
  tally = counts ∙ ap tally_of same ∙ sym counts';
}

by-records : (sheet : Sheet) (limits : Limits) (input : List ℕ) (before : State) (old earlier : List ℕ) (one other : Outcome)
    → AnswersAll [] sheet limits input before one.state (Some old) (Some one.written) one.tally
    → AnswersAll [] sheet limits input before other.state (Some earlier) (Some other.written) other.tally
    → IsOneReply old one earlier other
by-records sheet limits input before old earlier one other (inl (all, state, wrote, counts)) (inl (all', state', wrote', counts')) =
    of-one old earlier one other [] [] refl (wrote ∙ sym (append-nil old)) (wrote' ∙ sym (append-nil earlier)) (state ∙ sym state') counts counts'
by-records sheet limits input before old earlier one other (inl (all, state, wrote, counts)) (inr (header, records, replies, is, all', answered, tallied, few)) =
    let e = all-one input [] (header ∷ records) all all' in cc e
by-records sheet limits input before old earlier one other (inr (header, records, replies, is, all', answered, tallied, few)) (inl (all, state, wrote, counts)) =
    let e = all-one input [] (header ∷ records) all all' in cc e
by-records sheet limits input before old earlier one other (inr (header, records, replies, is, all, answered, counts, few)) (inr (header', records', replies', is', all', answered', counts', few')) =
    let e = all-one input (header ∷ records) (header' ∷ records') all all' in
    let same : records' ≡ records = cc e in
    let (one-list, state) = one-run sheet limits before one.state other.state records replies replies' answered.replied (rw same at answered'.replied) in
    of-one old earlier one other replies replies' one-list answered.written answered'.written state counts counts'

pub sheet_determines_reply : SheetDeterminesReply
sheet_determines_reply sheet together others limits = by-records sheet limits
