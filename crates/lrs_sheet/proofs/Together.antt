-- Commands that are done some at a time.
use Rattle.std.proofs.Common.{◌≡◌, ℕ, suc, ◌<◌, ◌-◌, ◌≤◌, ◌+◌, List, [], ◌∷◌, ◌++◌, Option, Result, length, take, drop, refl, sym, ap, ◌∙◌, arith}
use Rattle.std.proofs.Math.Seq.{take-add}
use Rattle.std.proofs.lemmas.Grind.{flat_map-append}
use Rattle.std.proofs.lemmas.List.{length-drop, take_all}
use Rattle.csv.proofs.WriteFacts.{appends-more, appends-none}
use Rattle.lrs_machine.specs.Image.{state_of}
use Rattle.lrs_machine.specs.Lines.{Text}
use Rattle.lrs_machine.specs.Machine.{step}
use Rattle.lrs_machine.specs.State.{State}
use Rattle.lrs_machine.specs.declared.answer.Limits.{Limits}
use Rattle.lrs_machine.specs.declared.command.Command.{Command}
use Rattle.lrs_machine.specs.declared.image.Image.{Image}
use Rattle.lrs_machine.specs.declared.table.Table.{Table}
use Rattle.lrs_desk.specs.DeskView.{DeskView}
use Rattle.lrs_machine.specs.declared.stops.fault.Fault.TheVariants as stop
use Rattle.lrs_sheet_records.specs.declared.fault.SheetFault.{SheetFault}
use Rattle.lrs_sheet_records.specs.declared.fault.SheetFault.TheVariants as fault
use Rattle.lrs_sheet.specs.declared.reply.Reply.{Reply}
use Rattle.lrs_sheet.specs.declared.reply.Tally.{Tally}
use Rattle.lrs_sheet.specs.Replies.{answer_count, counted, lines_of, reply_text}
use Rattle.lrs_sheet.specs.Sheets.{GoesAlong}
use Rattle.lrs_sheet.specs.WaitingCommands.{reply_of, replies_to, counted_all, done_all, DoesAll, DoesFront, StopsAmong, StopsAtFirst}
use Rattle.lrs_sheet.proofs.Done.{count-more-answer}

-- some commands and then others
pub done-append : (limits : Limits) (xs ys : List (Text × Command)) (s : State) → done_all limits (xs ++ ys) s ≡ done_all limits ys (done_all limits xs s)
done-append limits [] ys s = refl
done-append limits (x ∷ xs) ys s = done-append limits xs ys (step limits x.0 x.1 s).state

pub replies-append : (limits : Limits) (xs ys : List (Text × Command)) (s : State) → replies_to limits (xs ++ ys) s ≡ replies_to limits xs s ++ replies_to limits ys (done_all limits xs s)
replies-append limits [] ys s = refl
replies-append limits (x ∷ xs) ys s = ap (λ (rs : List Reply). reply_of x (step limits x.0 x.1 s).answer ∷ rs) (replies-append limits xs ys (step limits x.0 x.1 s).state)

counted-append : (t : Tally) (a b : List Reply) → counted_all t (a ++ b) ≡ counted_all (counted_all t a) b
counted-append t [] b = refl
counted-append t (r ∷ a) b = counted-append (counted t r.answer) a b

pub lines-append : (a b : List Reply) → lines_of (a ++ b) ≡ lines_of a ++ lines_of b
lines-append a b = flat_map-append (λ (r : Reply). reply_text r ++ 10 ∷ []) a b

-- how many answers there are
count_all : (t : Tally) (rs : List Reply) → answer_count (counted_all t rs) ≡ answer_count t + length rs
count_all t [] = omega arith
count_all t (r ∷ rs) = let more = count_all (counted t r.answer) rs in let one = count-more-answer t r.answer in omega (arith, more, one)

pub as_many : (limits : Limits) (xs : List (Text × Command)) (s : State) → length (replies_to limits xs s) ≡ length xs
as_many limits [] s = refl
as_many limits (x ∷ xs) s = ap suc (as_many limits xs (step limits x.0 x.1 s).state)

-- nothing is done yet
pub does_none : (limits : Limits) (s : State) (text : Option Text) (t : Tally) → DoesAll limits [] s s text text t t
does_none limits s text t = record { state = refl; written = appends-none text; counted = refl }

-- and then the others
pub does_both : (limits : Limits) (xs ys : List (Text × Command)) (s m e : State) (a b c : Option Text) (t u v : Tally) → DoesAll limits xs s m a b t u → DoesAll limits ys m e b c u v → DoesAll limits (xs ++ ys) s e a c t v
does_both limits xs ys s m e a b c t u v first next =
    let replies : replies_to limits (xs ++ ys) s ≡ replies_to limits xs s ++ replies_to limits ys m = replies-append limits xs ys s ∙ ap (λ (q : State). replies_to limits xs s ++ replies_to limits ys q) (sym first.state) in
    record {
      state = next.state ∙ ap (done_all limits ys) first.state ∙ sym (done-append limits xs ys s);
      written = rw (replies, lines-append (replies_to limits xs s) (replies_to limits ys m)) (appends-more a b c (lines_of (replies_to limits xs s)) (lines_of (replies_to limits ys m)) first.written next.written);
      counted = next.counted ∙ ap (λ (q : Tally). counted_all q (replies_to limits ys m)) first.counted ∙ sym (counted-append t (replies_to limits xs s) (replies_to limits ys m)) ∙ ap (counted_all t) (sym replies);
    }

-- a tally counts what is done
pub counts_done : (limits : Limits) (xs : List (Text × Command)) (s e : State) (a b : Option Text) (t u : Tally) → DoesAll limits xs s e a b t u → answer_count u ≡ answer_count t + length xs
counts_done limits xs s e a b t u does =
    rw does.counted (let all = count_all t (replies_to limits xs s) in let many = as_many limits xs s in omega (arith, all, many))

-- the others are not yet done
pub the_rest : (done : ℕ) (commands : List (Text × Command)) → take (length commands - done) (drop done commands) ≡ drop done commands
the_rest done commands = take_all (length commands - done) (drop done commands) (let less = length-drop done commands in omega (arith, less))

pub within_rest : (done n : ℕ) (commands : List (Text × Command)) → done ≤ length commands → n ≤ length (drop done commands) → done + n ≤ length commands
within_rest done n commands few fits = let less = length-drop done commands in omega (arith, few, fits, less)

module _ {K : Type 0} (holds : K → Result Image Table → Type 0) (commands : List (Text × Command)) (done : ℕ) (before mid : DeskView K) (a b : Option Text) (t u : Tally)
    (within : done < length commands) (does : DoesAll before.limits (take done commands) (state_of before.image) (state_of mid.image) a b t u) (along : GoesAlong holds before mid) where
  -- some more
  pub does_more : (n : ℕ) (after : DeskView K) (c : Option Text) (v : Tally) → DoesAll mid.limits (take n (drop done commands)) (state_of mid.image) (state_of after.image) b c u v
      → DoesAll before.limits (take (done + n) commands) (state_of before.image) (state_of after.image) a c t v
  does_more n after c v next =
      rw (take-add done n commands)
      (does_both before.limits (take done commands) (take n (drop done commands)) (state_of before.image) (state_of mid.image) (state_of after.image) a b c t u v does (rw along.limits at next))

  front : (settled : State) (c : Option Text) → c ≡ b → settled ≡ state_of mid.image → DoesFront before.limits commands (state_of before.image) settled a c
  front settled c wrote state = record { done = done; few = within; state = state ∙ does.state; written = rw wrote does.written }

  -- the next are not done, or not all of their lines are written
  pub stops_among : (after : DeskView K) (c : Option Text) (e : SheetFault) → StopsAtFirst holds (drop done commands) mid after b c e → StopsAmong holds commands before after a c e
  unfolding front
  stops_among after c fault.Write (n, some, few, state) = (
    done + n,
    omega (arith, some),
    (let less = length-drop done commands in omega (arith, few, less, within)),
    state
        ∙ ap (λ (l : Limits). done_all l (take n (drop done commands)) (state_of mid.image)) along.limits
        ∙ ap (done_all before.limits (take n (drop done commands))) does.state
        ∙ sym (done-append before.limits (take done commands) (take n (drop done commands)) (state_of before.image))
        ∙ ap (λ (xs : List (Text × Command)). done_all before.limits xs (state_of before.image)) (sym (take-add done n commands)),
  )
  stops_among after c (fault.Desk stop.Keep) (wrote, flight) = record {
    settled = state_of mid.image;
    front = front (state_of mid.image) c wrote refl;
    flight = rw along.limits at flight;
  }
  stops_among after c (fault.Desk stop.Memory) (image, wrote) = front (state_of after.image) c wrote (ap state_of image)
  stops_among after c (fault.Desk stop.MustReopen) (image, wrote) = front (state_of after.image) c wrote (ap state_of image)
  stops_among after c fault.Memory stops = absurd stops
  stops_among after c fault.Read stops = absurd stops
  stops_among after c fault.BadHeader stops = absurd stops
  stops_among after c fault.BadCsv stops = absurd stops
