-- A sheet whose replies were lost goes on as if it had not stopped.
use Rattle.std.proofs.Common.{◌≡◌, ℕ, Bool, true, false, cond, ◌||◌, ◌&&◌, suc, List, [], ◌∷◌, ◌++◌, length, take, drop, Option, Some, None, refl, sym, ap, subst, ◌∙◌, inl, inr, arith}
use Rattle.std.specs.Prelude.{nat_lt, not}
use Rattle.std.specs.Cmp.Lexicographic.{bytes_decides}
use Rattle.std.specs.List.{AllByRecursion, list_all}
use Rattle.std.proofs.lemmas.Bool.Decides.{nat_tests}
use Rattle.csv.specs.Reading.{default_config, strip_bom}
use Rattle.csv.specs.declared.parser.State.TheVariants as st
use Rattle.lrs_measure.specs.Lists.{each_two}
use Rattle.lrs_measure.specs.Texts.{same_name}
use Rattle.lrs_machine.specs.Lines.{Text}
use Rattle.lrs_machine.specs.Machine.{Record, state_after}
use Rattle.lrs_machine.specs.State.{State}
use Rattle.lrs_machine.specs.declared.answer.Limits.{Limits}
use Rattle.lrs_machine.specs.Stop.KnownEdits.{is_edit}
use Rattle.lrs_machine.specs.Stop.Resumptions.{decided}
use Rattle.lrs_machine.proofs.Stop.Resuming.{new_keys_go_on}
use Rattle.lrs_sheet_records.proofs.OneCommand.{one-command, well-formed}
use Rattle.lrs_sheet_records.specs.Kinds.{edit_record, width_of}
use Rattle.lrs_sheet_records.specs.Records.{SaysCommand, place_of}
use Rattle.lrs_sheet_records.specs.Verbs.{all_verbs}
use Rattle.lrs_sheet_records.specs.declared.sheet.Sheet.{Sheet}
use Rattle.lrs_sheet.specs.declared.reply.Reply.{Reply}
use Rattle.lrs_sheet.specs.Laws.{HasBegun, HasNewKeys, IsRestOf, Outcome, ResumedIsUnstopped, Say}
use Rattle.lrs_sheet.specs.Repetition.{HasKey, HaveKeysOnce, NoneHasKey}
use Rattle.lrs_sheet.specs.Replies.{Replied, lines_of}
use Rattle.lrs_sheet.specs.Resumption.{EndInEdit, IsEdit, IsNoEdit}
use Rattle.lrs_sheet_records.specs.Rows.{AreAll, BeginsWith}
use Rattle.lrs_sheet.proofs.Determined.{all-one, one-run}
use Rattle.lrs_sheet.proofs.Repeating.{begin_with}
use Rattle.lrs_sheet.proofs.Resuming.{no_first, one_first}

-- ---- what records say

-- records say the commands of one list
one_said : (sheet : Sheet) (records : List (List Text)) (a b : List Record) → Say sheet records a → Say sheet records b → a ≡ b
one_said sheet [] a b h g = h ∙ sym g
one_said sheet (fields ∷ records) a b (inl (m, more)) (inl (m', more')) = one_said sheet records a b more more'
one_said sheet (fields ∷ records) a b (inl ((field, first), more)) (inr (r, others, is, says, more')) = absurd (first.malformed (well-formed all_verbs (edit_record sheet fields) r.key r.command says (place_of field)))
one_said sheet (fields ∷ records) a b (inr (r, others, is, says, more)) (inl ((field, first), more')) = absurd (first.malformed (well-formed all_verbs (edit_record sheet fields) r.key r.command says (place_of field)))
one_said sheet (fields ∷ records) a b (inr (r, others, is, says, more)) (inr (q, others', is', says', more')) =
    let (keys, same) = one-command all_verbs (edit_record sheet fields) r.key q.key r.command q.command says says' in
    let one : r ≡ q = λ j. record { key = keys j; command = same j } in
    let rest : others ≡ others' = one_said sheet records others others' more more' in
    is ∙ (λ j. one j ∷ rest j) ∙ sym is'

-- what first records say, and the others
record SayBoth (sheet : Sheet) (a b : List (List Text)) (said : List Record) : Type 0 where
  pub first : List Record
  pub others : List Record
  pub both : said ≡ first ++ others
  pub say_first : Say sheet a first
  pub say_others : Say sheet b others

split_said : (sheet : Sheet) (a b : List (List Text)) (said : List Record) → Say sheet (a ++ b) said → SayBoth sheet a b said
split_said sheet [] b said h = record { first = []; others = said; both = refl; say_first = refl; say_others = h }
split_said sheet (fields ∷ a) b said (inl (m, more)) =
    let rest = split_said sheet a b said more in
    record { first = rest.first; others = rest.others; both = rest.both; say_first = inl (m, rest.say_first); say_others = rest.say_others }
split_said sheet (fields ∷ a) b said (inr (r, others, is, says, more)) =
    let rest = split_said sheet a b others more in
    record { first = r ∷ rest.first; others = rest.others; both = is ∙ ap (λ (x : List Record). r ∷ x) rest.both; say_first = inr (r, rest.first, refl, says, rest.say_first); say_others = rest.say_others }

-- records that are answered say commands, and leave the state after these
record Answered (sheet : Sheet) (limits : Limits) (before after : State) (records : List (List Text)) : Type 0 where
  pub said : List Record
  pub say : Say sheet records said
  pub state : after ≡ state_after limits said before

answered : (sheet : Sheet) (limits : Limits) (before after : State) (records : List (List Text)) (replies : List Reply) → Replied sheet limits before records replies after → Answered sheet limits before after records
unfolding Replied
answered sheet limits before after [] [] h = record { said = []; say = refl; state = h }
answered sheet limits before after [] (reply ∷ replies) h = absurd h
answered sheet limits before after (fields ∷ records) [] h = absurd h
answered sheet limits before after (fields ∷ records) (reply ∷ replies) (middle, (key, inl (k, command, says, answer, state)), more) =
    let rest = answered sheet limits middle after records replies more in
    let r : Record = record { key = k; command = command } in
    record { said = r ∷ rest.said; say = inr (r, rest.said, refl, says, rest.say); state = rest.state ∙ ap (state_after limits rest.said) state }
answered sheet limits before after (fields ∷ records) (reply ∷ replies) (middle, (key, inr (field, first, answer, state)), more) =
    let rest = answered sheet limits middle after records replies more in
    record { said = rest.said; say = inl ((field, first), rest.say); state = rest.state ∙ ap (state_after limits rest.said) state }

state_by : (sheet : Sheet) (limits : Limits) (before after : State) (records : List (List Text)) (replies : List Reply) (said : List Record) → Replied sheet limits before records replies after → Say sheet records said
    → after ≡ state_after limits said before
state_by sheet limits before after records replies said replied say =
    let a = answered sheet limits before after records replies replied in
    a.state ∙ ap (λ (x : List Record). state_after limits x before) (one_said sheet records a.said said a.say say)

-- first records are answered, and then the others
record RepliedBoth (sheet : Sheet) (limits : Limits) (before after : State) (a b : List (List Text)) (replies : List Reply) : Type 0 where
  pub first : List Reply
  pub others : List Reply
  pub middle : State
  pub behind : drop (length a) replies ≡ others
  pub replied : Replied sheet limits before a first middle
  pub then : Replied sheet limits middle b others after

split_replied : (sheet : Sheet) (limits : Limits) (before after : State) (a b : List (List Text)) (replies : List Reply) → Replied sheet limits before (a ++ b) replies after → RepliedBoth sheet limits before after a b replies
unfolding Replied
split_replied sheet limits before after [] b [] h = record { first = []; others = []; middle = before; behind = refl; replied = refl; then = h }
split_replied sheet limits before after [] b (reply ∷ replies) h = record { first = []; others = reply ∷ replies; middle = before; behind = refl; replied = refl; then = h }
split_replied sheet limits before after (fields ∷ a) b [] h = absurd h
split_replied sheet limits before after (fields ∷ a) b (reply ∷ replies) (middle, is, more) =
    let rest = split_replied sheet limits middle after a b replies more in
    record { first = reply ∷ rest.first; others = rest.others; middle = rest.middle; behind = rest.behind; replied = (middle, is, rest.replied); then = rest.then }

-- ---- those that are decided

no_edit_is_false : (sheet : Sheet) (s : State) (fields : List Text) (r : Record) → SaysCommand (edit_record sheet fields) r.key r.command → IsNoEdit sheet s fields → is_edit s r ≡ false
no_edit_is_false sheet s fields r says none = by (is_edit s r) refl
  where
    by : (b : Bool) → is_edit s r ≡ b → is_edit s r ≡ false
    by true e = absurd (none r.key (r.command, says, e))
    by false e = e

abbrev counted : Record → List Record → State → Bool
counted r rs s = nat_lt 0 (decided rs s) || is_edit s r

or_false : (a b : Bool) → a ≡ false → b ≡ false → (a || b) ≡ false
or_false false b e f = f
or_false true b e f = e

or_true : (a b : Bool) → b ≡ true → (a || b) ≡ true
or_true true b e = refl
or_true false b e = e

or_first : (a b : Bool) → a ≡ true → (a || b) ≡ true
or_first true b e = refl
or_first false b e = absurd (cc e)

none_decided : (sheet : Sheet) (s : State) (records : List (List Text)) (said : List Record) → Say sheet records said → AllByRecursion (IsNoEdit sheet s) records → decided said s ≡ 0
none_decided sheet s [] said say all = ap (λ (x : List Record). decided x s) say
none_decided sheet s (fields ∷ records) said (inl (m, more)) all = none_decided sheet s records said more all.1
none_decided sheet s (fields ∷ records) said (inr (r, others, is, says, more)) all =
    let rest = none_decided sheet s records others more all.1 in
    let zero_is : nat_lt 0 (decided others s) ≡ false = ap (λ n. nat_lt 0 n) rest in
    ap (λ (x : List Record). decided x s) is ∙ ap (λ b. cond b (suc (decided others s)) 0) (or_false (nat_lt 0 (decided others s)) (is_edit s r) zero_is (no_edit_is_false sheet s fields r says all.0))

-- up to an edit, with none behind it
up_to_edit : (s : State) (front : List Record) (r : Record) (others : List Record) → is_edit s r ≡ true → decided others s ≡ 0 → decided ((front ++ r ∷ []) ++ others) s ≡ length (front ++ r ∷ [])
up_to_edit s [] r others edit none = ap (λ b. cond b (suc (decided others s)) 0) (or_true (nat_lt 0 (decided others s)) (is_edit s r) edit) ∙ ap suc none
up_to_edit s (q ∷ front) r others edit none =
    let rest = up_to_edit s front r others edit none in
    let some : nat_lt 0 (length (front ++ r ∷ [])) ≡ true = some_there front r in
    ap (λ b. cond b (suc (decided ((front ++ r ∷ []) ++ others) s)) 0) (or_first (nat_lt 0 (decided ((front ++ r ∷ []) ++ others) s)) (is_edit s q) (ap (λ n. nat_lt 0 n) rest ∙ some)) ∙ ap suc rest
  where
    one_more : (n : ℕ) → nat_lt 0 (suc n) ≡ true
    one_more n = grind (arith, nat_tests)

    some_there : (front : List Record) (r : Record) → nat_lt 0 (length (front ++ r ∷ [])) ≡ true
    some_there [] r = one_more 0
    some_there (x ∷ xs) r = one_more (length (xs ++ r ∷ []))

-- what records say of which the last is an edit
record EndsSaid (s : State) (said : List Record) : Type 0 where
  pub front : List Record
  pub last : Record
  pub is : said ≡ front ++ last ∷ []
  pub edit : is_edit s last ≡ true

ends_said : (sheet : Sheet) (s : State) (front : List (List Text)) (last : List Text) (key : Text) (said : List Record) → Say sheet (front ++ last ∷ []) said → IsEdit sheet s key last → EndsSaid s said
ends_said sheet s front last key said say (command, says, edit) = by (split_said sheet front (last ∷ []) said say)
  where
    by : SayBoth sheet front (last ∷ []) said → EndsSaid s said
    by both = other both.say_others
      where
        other : Say sheet (last ∷ []) both.others → EndsSaid s said
        other (inl ((field, first), more)) = absurd (first.malformed (well-formed all_verbs (edit_record sheet last) key command says (place_of field)))
        other (inr (r, none, is, says', more)) =
            let (keys, same) = one-command all_verbs (edit_record sheet last) key r.key command r.command says says' in
            record {
              front = both.first;
              last = r;
              is = both.both ∙ ap (λ (x : List Record). both.first ++ x) (is ∙ ap (λ (x : List Record). r ∷ x) more);
              edit = (λ j. is_edit s (record { key = sym keys j; command = sym same j })) ∙ edit;
            }

decided_said : (sheet : Sheet) (s : State) (front others : List (List Text)) (key : Option Text) (a b : List Record) → EndInEdit sheet s front key → Say sheet front a → Say sheet others b → AllByRecursion (IsNoEdit sheet s) others
    → decided (a ++ b) s ≡ length a
decided_said sheet s front others None a b end say say' all =
    let empty : a ≡ [] = one_said sheet front a [] say (rw end refl) in
    rw empty (none_decided sheet s others b say' all)
decided_said sheet s front others (Some key) a b (before, last, is, edit) say say' all =
    let ends = ends_said sheet s before last key a (rw is at say) edit in
    rw ends.is (up_to_edit s ends.front ends.last b ends.edit (none_decided sheet s others b say' all))

-- ---- the keys of what records say

and_true : (a b : Bool) → a ≡ true → b ≡ true → (a && b) ≡ true
and_true true b e f = f
and_true false b e f = absurd (cc e)

-- a command of another key than a record does not have
other_key : (sheet : Sheet) (fields : List Text) (key : Text) (r : Record) → SaysCommand (edit_record sheet fields) r.key r.command → (HasKey sheet key fields → ⊥) → not (same_name key r.key) ≡ true
other_key sheet fields key r says none = by (same_name key r.key) refl
  where
    by : (b : Bool) → same_name key r.key ≡ b → not b ≡ true
    by true e = absurd (none (subst (λ (k : Text). HasKey sheet k fields) (sym ((bytes_decides key r.key).0 e)) (r.command, says)))
    by false e = refl

others_differ : (sheet : Sheet) (key : Text) (records : List (List Text)) (said : List Record) → Say sheet records said → NoneHasKey sheet key records → list_all (λ (q : Record). not (same_name key q.key)) said ≡ true
others_differ sheet key [] said say none = ap (λ (x : List Record). list_all (λ (q : Record). not (same_name key q.key)) x) say
others_differ sheet key (fields ∷ records) said (inl (m, more)) none = others_differ sheet key records said more none.1
others_differ sheet key (fields ∷ records) said (inr (r, others, is, says, more)) none =
    ap (λ (x : List Record). list_all (λ (q : Record). not (same_name key q.key)) x) is
    ∙ and_true (not (same_name key r.key)) (list_all (λ (q : Record). not (same_name key q.key)) others) (other_key sheet fields key r says none.0) (others_differ sheet key records others more none.1)

-- where no two records have one key, no two of their commands do
keys_differ : (sheet : Sheet) (records : List (List Text)) (said : List Record) → Say sheet records said → HaveKeysOnce sheet records → each_two (λ (a b : Record). not (same_name a.key b.key)) said ≡ true
keys_differ sheet [] said say once = ap (λ (x : List Record). each_two (λ (a b : Record). not (same_name a.key b.key)) x) say
keys_differ sheet (fields ∷ records) said (inl (m, more)) once = keys_differ sheet records said more once.1
keys_differ sheet (fields ∷ records) said (inr (r, others, is, says, more)) once =
    ap (λ (x : List Record). each_two (λ (a b : Record). not (same_name a.key b.key)) x) is
    ∙ and_true (list_all (λ (q : Record). not (same_name r.key q.key)) others) (each_two (λ (a b : Record). not (same_name a.key b.key)) others)
    (others_differ sheet r.key records others more (once.0 r.key (r.command, says))) (keys_differ sheet records others more once.1)

-- ---- the records of the text

begun : (input : Text) (header other : List Text) (records front : List (List Text)) → AreAll input (header ∷ records) → BeginsWith input (other ∷ front) → (behind : List (List Text)) × (records ≡ front ++ behind)
begun input header other records front (end, left, all, none) (place, rest, reached) =
    let first = one_first default_config st.StartRecord end place (strip_bom input) left rest header other records front all reached in
    begin_with default_config first.place end place first.rest left rest records front first.one none first.other

-- ---- going on

take_first : (a b : List Record) → take (length a) (a ++ b) ≡ a
take_first [] [] = refl
take_first [] (x ∷ xs) = refl
take_first (x ∷ xs) b = ap (λ (y : List Record). x ∷ y) (take_first xs b)

module _ (sheet : Sheet) (limits : Limits) (input : Text) (start now : State) (header : List Text) (front behind : List (List Text)) (all : AreAll input (header ∷ (front ++ behind)))
    (keys : HasNewKeys sheet start input) (once : HaveKeysOnce sheet (front ++ behind)) (begun_ : HasBegun sheet limits input start now) (key : Option Text) (end : EndInEdit sheet now front key) (none : AllByRecursion (IsNoEdit sheet now) behind) where
  -- the state is the one after the records that are decided
  settled : (replies : List Reply) (after middle : State) → Replied sheet limits start front replies middle → (said : List Record) → Say sheet (front ++ behind) said → middle ≡ now
  settled replies after middle replied said say =
      let both = split_said sheet front behind said say in
      let (rest, is) = begun input header begun_.header (front ++ behind) begun_.records all begun_.begins in
      let looked = split_said sheet begun_.records rest said (rw is at say) in
      let found : now ≡ state_after limits (take (length looked.first) said) start =
      state_by sheet limits start now begun_.records begun_.replies looked.first begun_.replied looked.say_first
      ∙ ap (λ (x : List Record). state_after limits x start) (sym (ap (take (length looked.first)) looked.both ∙ take_first looked.first looked.others)) in
      let resumed = new_keys_go_on limits start now said (length looked.first) found (record { new = keys header (front ++ behind) said all say; different = keys_differ sheet (front ++ behind) said say once }) in
      let count : decided said now ≡ length both.first = ap (λ (x : List Record). decided x now) both.both ∙ decided_said sheet now front behind key both.first both.others end both.say_first both.say_others none in
      let first : take (decided said now) said ≡ both.first = ap (λ n. take n said) count ∙ ap (take (length both.first)) both.both ∙ take_first both.first both.others in
      state_by sheet limits start middle front replies both.first replied both.say_first ∙ ap (λ (x : List Record). state_after limits x start) (sym first) ∙ sym resumed.found

  rest_of : (old earlier : Text) (whole rest : Outcome) (replies more : List Reply) → Replied sheet limits start (front ++ behind) replies whole.state → Replied sheet limits now behind more rest.state
      → whole.written ≡ old ++ lines_of replies → rest.written ≡ earlier ++ lines_of more → IsRestOf old whole earlier rest
  rest_of old earlier whole rest replies more replied behind_replied wrote wrote' =
      let both = split_replied sheet limits start whole.state front behind replies replied in
      let said = answered sheet limits start whole.state (front ++ behind) replies replied in
      let same = settled both.first whole.state both.middle both.replied said.said said.say in
      let (one, state) = one-run sheet limits now rest.state whole.state behind more both.others behind_replied (rw same at both.then) in
      record {
        replies = replies;
        decided = length front;
        written = wrote;
        behind = wrote' ∙ ap (λ (x : List Reply). earlier ++ lines_of x) (one ∙ sym both.behind);
        state = state;
      }

all_both : (P : List Text → Type 0) (a b : List (List Text)) → AllByRecursion P a → AllByRecursion P b → AllByRecursion P (a ++ b)
all_both P [] b p q = q
all_both P (r ∷ rs) b p q = (p.0, all_both P rs b p.1 q)

pub resumed_is_unstopped : ResumedIsUnstopped
resumed_is_unstopped must_reopen sheet together others limits input start now old earlier whole rest keys begun_ runs (inl not_begun) = absurd not_begun
resumed_is_unstopped must_reopen sheet together others limits input start now old earlier whole rest keys begun_ (inl (none, same, kept, count)) (inr (once, d, front, is_decided, runs)) =
    absurd (no_first input begun_.header begun_.records begun_.begins none)
resumed_is_unstopped must_reopen sheet together others limits input start now old earlier whole rest keys begun_ (inr more) (inr (once, d, front, is_decided, inl (none, same, kept, count))) =
    absurd (no_first input begun_.header begun_.records begun_.begins none)
resumed_is_unstopped must_reopen sheet together others limits input start now old earlier whole rest keys begun_ (inr (header, records, replies, is, all, answered_, counts, few)) (inr (once, d, front, is_decided, inr (header', behind, more, is', all', answered', counts', few'))) =
    let same : records ≡ front ++ behind = (let e = all-one input (header ∷ records) (header' ∷ (front ++ behind)) all all' in cc e) in
    let alone = once header' (front ++ behind) is' (begins_all _ all') (all_both (λ (r : List Text). length r ≡ width_of sheet) front behind is_decided.wide answered'.width) in
    rest_of sheet limits input start now header' front behind all' keys alone begun_ d.key is_decided.last (is_decided.others header' behind is' (begins_all _ all') answered'.width)
    old earlier whole rest replies more (rw same at answered_.replied) answered'.replied answered_.written answered'.written
  where
    begins_all : (rs : List (List Text)) → AreAll input rs → BeginsWith input rs
    begins_all rs (end, left, reached, none) = (end, left, reached)
