-- Records whose commands wait, and what becomes of them.
use Rattle.std.proofs.Common.{◌≡◌, inl, inr, ℕ, ◌+◌, List, [], ◌∷◌, ◌++◌, Option, Some, Result, length, refl, sym, ap, ◌∙◌, arith, append_assoc, length-append}
use Rattle.std.proofs.lemmas.List.{append-nil}
use Rattle.csv.proofs.WriteFacts.{appends-more}
use Rattle.std.specs.Io.KnownBytes.{Appends}
use Rattle.csv.specs.Reading.{expected_len}
use Rattle.csv.specs.declared.reader.Reader.{Reader}
use Rattle.lrs_machine.specs.Image.{state_of}
use Rattle.lrs_machine.specs.Lines.{Text}
use Rattle.lrs_machine.specs.Machine.{step}
use Rattle.lrs_machine.specs.State.{State}
use Rattle.lrs_machine.specs.declared.answer.Limits.{Limits}
use Rattle.lrs_machine.specs.declared.command.Command.{Command}
use Rattle.lrs_machine.specs.declared.image.Image.{Image}
use Rattle.lrs_machine.specs.declared.table.Table.{Table}
use Rattle.lrs_desk.specs.DeskView.{DeskView}
use Rattle.lrs_sheet_records.specs.Kinds.{edit_record, width_of}
use Rattle.lrs_sheet_records.specs.Records.{FirstMalformed, SaysCommand, place_of, text_at}
use Rattle.std.specs.Option.{SomeIff}
use Rattle.std.specs.Prelude.{IsTrue}
use Rattle.lrs_machine.specs.Keys.{is_key}
use Rattle.lrs_machine.specs.declared.answer.Answer.TheVariants.{Refused}
use Rattle.lrs_machine.specs.declared.answer.Cause.TheVariants.{Malformed}
use Rattle.lrs_machine.specs.declared.answer.Field.{Field}
use Rattle.lrs_sheet_records.specs.declared.sheet.Sheet.{Sheet}
use Rattle.lrs_sheet.specs.declared.reply.Reply.{Reply}
use Rattle.lrs_sheet.specs.declared.reply.Tally.{Tally}
use Rattle.lrs_sheet.specs.Replies.{IsReplied, Replied, lines_of, tally_of}
use Rattle.lrs_sheet.specs.Sheets.{AreAnswered, GoesAlong, HaveWidth}
use Rattle.lrs_sheet_records.specs.Rows.{Gave, IsPlain}
use Rattle.lrs_sheet.specs.Rows.{HasDone}
use Rattle.lrs_sheet.specs.WaitingCommands.{DoesAll, IsWaiting, Say, counted_all, done_all, replies_to}
use Rattle.lrs_sheet_records.proofs.ReadRows.{gave-more}
use Rattle.lrs_sheet.proofs.Done.{along, tally-more, width-more}
use Rattle.lrs_sheet.proofs.Together.{counts_done, lines-append}

-- a record and its command behind others
pub say-more : (sheet : Sheet) (records : List (List Text)) (commands : List (Text × Command)) (fields : List Text) (c : Text × Command) → Say sheet records commands → SaysCommand (edit_record sheet fields) c.0 c.1
    → Say sheet (records ++ fields ∷ []) (commands ++ c ∷ [])
say-more sheet [] [] fields c say says = (says, tt)
say-more sheet [] (d ∷ commands) fields c say says = absurd say
say-more sheet (r ∷ records) [] fields c say says = absurd say
say-more sheet (r ∷ records) (d ∷ commands) fields c say says = (say.0, say-more sheet records commands fields c say.1 says)

-- records that say commands are answered as these are
pub replied_said : (sheet : Sheet) (limits : Limits) (records : List (List Text)) (commands : List (Text × Command)) (s : State) → Say sheet records commands → Replied sheet limits s records (replies_to limits commands s) (done_all limits commands s)
unfolding Replied
replied_said sheet limits [] [] s say = refl
replied_said sheet limits [] (d ∷ commands) s say = absurd say
replied_said sheet limits (r ∷ records) [] s say = absurd say
replied_said sheet limits (r ∷ records) (d ∷ commands) s say =
    let next = step limits d.0 d.1 s in
    (next.state, ((say.0.is_key, say.0.same_key), inl (d.0, d.1, say.0, refl, refl)), replied_said sheet limits records commands next.state say.1)

-- some records and then others
pub replied-append : (sheet : Sheet) (limits : Limits) (a b : List (List Text)) (xs ys : List Reply) (s m e : State) → Replied sheet limits s a xs m → Replied sheet limits m b ys e → Replied sheet limits s (a ++ b) (xs ++ ys) e
unfolding Replied
replied-append sheet limits [] b [] ys s m e first next = rw first at next
replied-append sheet limits [] b (x ∷ xs) ys s m e first next = absurd first
replied-append sheet limits (r ∷ a) b [] ys s m e first next = absurd first
replied-append sheet limits (r ∷ a) b (x ∷ xs) ys s m e first next = (first.0, first.1, replied-append sheet limits a b xs ys first.0 m e first.2 next)

pub width-append : (sheet : Sheet) (a b : List (List Text)) → HaveWidth sheet a → HaveWidth sheet b → HaveWidth sheet (a ++ b)
width-append sheet [] b h g = g
width-append sheet (r ∷ a) b h g = (h.0, width-append sheet a b h.1 g)

tallied-append : (a b : List Reply) → tally_of (a ++ b) ≡ counted_all (tally_of a) b
tallied-append a [] = ap tally_of (append-nil a)
tallied-append a (r ∷ b) =
    ap tally_of (sym (append_assoc a (r ∷ []) b)) ∙ tallied-append (a ++ r ∷ []) b ∙ ap (λ (t : Tally). counted_all t b) (tally-more a r)

-- answered records, and then others that wait and are done
pub answered-more : (sheet : Sheet) (limits : Limits) (s m e : State) (records asked : List (List Text)) (replies : List Reply) (commands : List (Text × Command)) (a b c : Option Text)
    → AreAnswered sheet limits s records replies m a b → HaveWidth sheet asked → Say sheet asked commands → e ≡ done_all limits commands m → Appends b c (lines_of (replies_to limits commands m))
    → AreAnswered sheet limits s (records ++ asked) (replies ++ replies_to limits commands m) e a c
answered-more sheet limits s m e records asked replies commands a b c answered wide say state written = record {
  width = width-append sheet records asked answered.width wide;
  replied = rw state (replied-append sheet limits records asked replies (replies_to limits commands m) s m (done_all limits commands m) answered.replied (replied_said sheet limits asked commands m say));
  written = rw (lines-append replies (replies_to limits commands m)) (appends-more a b c (lines_of replies) (lines_of (replies_to limits commands m)) answered.written written);
}

module _ {K : Type 0} {holds : K → Result Image Table → Type 0} {R : Type 0} (sheet : Sheet) (rem : R → Option Text) (rows now : Reader R) (before after : DeskView K) (old new : Option Text) (tally : Tally) (commands : List (Text × Command)) (turns : ℕ)
    (w : IsWaiting sheet holds rem rows now before after old new tally commands turns) where
  -- all of them are done
  pub settled : (end : DeskView K) (last : Option Text) (counts : Tally) → DoesAll after.limits commands (state_of after.image) (state_of end.image) new last tally counts → GoesAlong holds after end
      → HasDone sheet holds rem rows now before end old last counts turns
  settled end last counts does along' =
      let d = rw w.desk.limits at does in
      record {
        records = w.records ++ w.asked;
        replies = w.replies ++ replies_to before.limits commands (state_of after.image);
        plain = w.plain;
        width = w.width;
        gave = w.gave;
        answered = answered-more sheet before.limits (state_of before.image) (state_of after.image) (state_of end.image) w.records w.asked w.replies commands old new last w.answered w.wide w.say d.state d.written;
        desk = along before after end w.desk along';
        counts = d.counted ∙ ap (λ (t : Tally). counted_all t (replies_to before.limits commands (state_of after.image))) w.counts ∙ sym (tallied-append w.replies (replies_to before.limits commands (state_of after.image)));
        few = counts_done before.limits commands (state_of after.image) (state_of end.image) new last tally counts d ∙ w.few;
        in_turn = length-append w.records w.asked ∙ w.in_turn;
      }

  -- one more waits
  pub waits : (next : Reader R) (fields : List Text) (c : Text × Command) → IsPlain next → expected_len next ≡ Some (length fields) → length fields ≡ width_of sheet → Gave rem now next (fields ∷ []) → SaysCommand (edit_record sheet fields) c.0 c.1
      → IsWaiting sheet holds rem rows next before after old new tally (commands ++ c ∷ []) (turns + 1)
  waits next fields c plain width wide gave says = record {
    records = w.records;
    replies = w.replies;
    asked = w.asked ++ fields ∷ [];
    plain = plain;
    width = width ∙ ap Some wide;
    gave = rw (← append_assoc w.records w.asked (fields ∷ [])) (gave-more rem rows now next (w.records ++ w.asked) (fields ∷ []) w.gave gave);
    answered = w.answered;
    desk = w.desk;
    counts = w.counts;
    say = say-more sheet w.asked commands fields c w.say says;
    wide = width-more sheet w.asked fields w.wide wide;
    few = (let one = length-append commands (c ∷ []) in let few = w.few in omega (arith, one, few));
    in_turn = (let one = length-append w.asked (fields ∷ []) in let all = w.in_turn in omega (arith, one, all));
  }

-- nothing waits
pub none_waits : {K : Type 0} {holds : K → Result Image Table → Type 0} {R : Type 0} (sheet : Sheet) (rem : R → Option Text) (rows now : Reader R) (before after : DeskView K) (old new : Option Text) (tally : Tally) (turns : ℕ)
    → HasDone sheet holds rem rows now before after old new tally turns → IsWaiting sheet holds rem rows now before after old new tally [] turns
none_waits sheet rem rows now before after old new tally turns done = record {
  records = done.records;
  replies = done.replies;
  asked = [];
  plain = done.plain;
  width = done.width;
  gave = rw (append-nil done.records) done.gave;
  answered = done.answered;
  desk = done.desk;
  counts = done.counts;
  say = tt;
  wide = tt;
  few = (let few = done.few in omega (arith, few));
  in_turn = (let all = done.in_turn in omega (arith, all));
}

-- a record that is malformed is refused, and nothing changes
pub refused : (limits : Limits) (s : State) (fields : List Text) (key : Option Text) (field : Field) → SomeIff key (IsTrue (is_key (text_at fields 0))) (text_at fields 0) → FirstMalformed fields (place_of field)
    → IsReplied limits s fields (record { key = key; answer = Refused (Malformed field) }) s
refused limits s fields key field has first = (has, inr (field, first, refl, refl))
