-- A list of calls that is not done to its end.
use Rattle.std.proofs.Common.{◌≡◌, ◌⊎◌, inl, inr, ℕ, ◌<◌, suc, List, ◌∷◌, ◌++◌, length, take, drop, drop-cons, get_or, Result, Ok, Err, sym, ap, subst, ◌∙◌}
use Rattle.std.specs.Prelude.{IfErr, IsErrAnd}
use Rattle.std.proofs.lemmas.List.{take-append-drop}
use Rattle.lrs_machine.specs.Image.{state_of}
use Rattle.lrs_machine.specs.Lines.{Text}
use Rattle.lrs_machine.specs.declared.image.Image.{Image}
use Rattle.lrs_machine.specs.declared.table.Table.{Table}
use Rattle.lrs_desk.specs.DeskView.{DeskView}
use Rattle.lrs_sheet.specs.Sheets.{IsAfterCommands}
use Rattle.lrs_promises.specs.Calls.{Did, DidAll}
use Rattle.lrs_promises.specs.Headline.{HasStopped, Left}
use Rattle.lrs_promises.specs.declared.calls.Call.{Call}
use Rattle.lrs_promises.specs.declared.calls.Call.TheVariants as call
use Rattle.lrs_promises.specs.declared.calls.CallFault.{CallFault}
use Rattle.lrs_promises.specs.declared.calls.CallFault.TheVariants as why
use Rattle.lrs_promises.proofs.After.{both_after}
use Rattle.lrs_promises.proofs.Given.{all_gave, call_gave}

-- what is so of a fault is so of the one that is answered
pub if_fault : {A E : Type 0} (P : E → Type 0) (fault : E) (result : Result A E) → IsErrAnd result (λ e. e ≡ fault) → P fault → IfErr result P
if_fault P fault (Ok x) is p = absurd is
if_fault P fault (Err e) is p = subst P (sym is) p

module _ {K : Type 0} (holds : K → Result Image Table → Type 0) where
  -- the last call that was begun: it ended in a fault, or it was done and memory ran out behind it
  abbrev Ended : Call → CallFault → DeskView K → DeskView K → Type 0
  Ended next fault old new = Left holds next fault old new ⊎ ((fault ≡ why.Memory) × (text : Text) × Did holds next text old new)

  left_after : (next : Call) (fault : CallFault) (old new : DeskView K) → Left holds next fault old new → IsAfterCommands old.limits (state_of old.image) (state_of new.image)
  left_after (call.Edits bytes) fault old new h = h.left.left
  left_after (call.Survey bytes) fault old new h = h.left.left
  left_after (call.Request bytes) fault old new h = h.left.commands

  ended_after : (next : Call) (fault : CallFault) (old new : DeskView K) → Ended next fault old new → IsAfterCommands old.limits (state_of old.image) (state_of new.image)
  ended_after next fault old new (inl left) = left_after next fault old new left
  ended_after next fault old new (inr (memory, text, did)) = let g = call_gave holds next text old new did in (g.gave.commands, g.gave.state)

  pub stopped_at : (calls : List Call) (i : ℕ) (texts : List Text) (next : Call) (fault : CallFault) (old mid new : DeskView K) → i < length calls → next ≡ get_or calls i next
      → DidAll holds (take i calls) texts old mid → Ended next fault mid new → HasStopped holds calls fault old new
  stopped_at calls i texts next fault old mid new low is did ended =
      let g = all_gave holds (take i calls) texts old mid did in
      let later = subst (λ limits. IsAfterCommands limits (state_of mid.image) (state_of new.image)) g.along.limits (ended_after next fault mid new ended) in
      record {
        before = take i calls;
        last = next;
        others = drop (suc i) calls;
        are = sym (take-append-drop i calls) ∙ ap (λ cs. take i calls ++ cs) (drop-cons calls i next low ∙ ap (λ c. c ∷ drop (suc i) calls) (sym is));
        texts = texts;
        mid = mid;
        replies = did;
        ended = ended;
        commands = both_after old.limits (state_of old.image) (state_of mid.image) (state_of new.image) (g.gave.commands, g.gave.state) later;
      }
