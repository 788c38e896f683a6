-- What route edits and refusals leave.
use Rattle.std.proofs.Common.{◌≡◌, ℕ, ◌+◌, ◌⊎◌, Bool, true, false, length, Option, Some, None, Ok, Err, refl, inl, inr}
use Rattle.std.specs.Prelude.{Result, ⊤, take, drop, not}
use Rattle.std.specs.Option.{ok_or}
use Rattle.std.proofs.lemmas.Bool.{false≢true}
use Rattle.lrs_measure.specs.Texts.{Name, same_name}
use Rattle.lrs_element.specs.Course.{turned}
use Rattle.lrs_element.specs.Marks.{bad_mark, is_inner_mark, marks_to, marks_from, mirrored}
use Rattle.lrs_position.specs.Locations.{Alignment}
use Rattle.lrs_machine.specs.declared.answer.Cause.{Cause}
use Rattle.lrs_machine.specs.declared.answer.Cause.TheVariants as cause
use Rattle.lrs_machine.specs.declared.answer.Limits.{Limits}
use Rattle.lrs_machine.specs.declared.answer.Answer.TheVariants.{Done}
use Rattle.lrs_machine.specs.declared.command.Command.{Command}
use Rattle.lrs_machine.specs.declared.command.Command.TheVariants as verb
use Rattle.lrs_machine.specs.Register.{get, contains_key}
use Rattle.lrs_machine.specs.State.{State}
use Rattle.lrs_machine.specs.Machine.{attempt, step, next, outcome_of, step_by_key, place_of_key, ◌>>=◌, ◌>>◌, refuse_if, refuse_at, check_room, check_marks, set_route, drop_route, do_join_of}
use Rattle.lrs_machine.specs.Laws.{is_route_edit, SameAssets, RouteEditsKeep, OnlyDoneChanges}

-- the next state, where there is one, has the same assets, held pairs and ledgers
abbrev Keeps : State → Result State Cause → Type 0
Keeps s (Ok t) = SameAssets s t
Keeps s (Err c) = ⊤

same : (s : State) → SameAssets s s
same s = record { assets = refl; holds = refl; entered = refl; gone = refl }

then : {A : Type 0} (s : State) (r : Result A Cause) (q : Result State Cause) → Keeps s q → Keeps s (r >> q)
then s (Ok x) q h = h
then s (Err c) q h = tt

keeps : (n : ℕ) (command : Command) (s : State) → is_route_edit command ≡ true → Keeps s (attempt n command s)
unfolding attempt
keeps n (verb.Split route at name) s is = split (get s.routes route)
  where
    two : (b c : Bool) (t : State) → SameAssets s t → Keeps s (refuse_if b cause.RouteKnown >> (refuse_if c cause.NoMark >> Ok t))
    two true c t h = tt
    two false true t h = tt
    two false false t h = h

    split : (o : Option Alignment) → Keeps s (ok_or o cause.NoRoute >>= (λ a. refuse_if (contains_key s.routes name) cause.RouteKnown >> (refuse_if (not (is_inner_mark a.marks at)) cause.NoMark
        >> Ok (set_route route (take at a.course) (marks_to at a.marks) (set_route name (drop at a.course) (marks_from at a.marks) s)))))
    split None = tt
    split (Some a) = two (contains_key s.routes name) (not (is_inner_mark a.marks at)) _ (record { assets = refl; holds = refl; entered = refl; gone = refl })
keeps n (verb.Join first second) s is = both (get s.routes first) (get s.routes second)
  where
    three : (b c d : Bool) (t : State) → SameAssets s t → Keeps s (refuse_if b cause.SameRoute >> (refuse_if c cause.TooLong >> (refuse_if d cause.MeasureRange >> Ok t)))
    three true c d t h = tt
    three false true d t h = tt
    three false false true t h = tt
    three false false false t h = h

    both : (o p : Option Alignment) → Keeps s (ok_or o cause.NoRoute >>= (λ a. ok_or p cause.NoRoute >>= (λ b. do_join_of first second a b s)))
    both None p = tt
    both (Some a) None = tt
    both (Some a) (Some b) = three (same_name first second) _ _ _ (record { assets = refl; holds = refl; entered = refl; gone = refl })
keeps n (verb.Renumber route name) s is = renumber (get s.routes route) (contains_key s.routes name)
  where
    renumber : (o : Option Alignment) (b : Bool) → Keeps s (ok_or o cause.NoRoute >>= (λ a. refuse_if b cause.RouteKnown >> Ok (set_route name a.course a.marks (drop_route route s))))
    renumber None b = tt
    renumber (Some a) true = tt
    renumber (Some a) false = record { assets = refl; holds = refl; entered = refl; gone = refl }
keeps n (verb.Recalibrate route marks) s is = recalibrate (get s.routes route)
  where
    one : (o : Option ℕ) (t : State) → SameAssets s t → Keeps s (refuse_at o cause.BadMarks >> Ok t)
    one None t h = h
    one (Some i) t h = tt

    recalibrate : (o : Option Alignment) → Keeps s (ok_or o cause.NoRoute >>= (λ a. check_marks (length a.course) marks >> Ok (set_route route a.course marks s)))
    recalibrate None = tt
    recalibrate (Some a) = one (bad_mark (length a.course) marks) _ (record { assets = refl; holds = refl; entered = refl; gone = refl })
keeps n (verb.Turn route) s is = turn_it (get s.routes route)
  where
    turn_it : (o : Option Alignment) → Keeps s (ok_or o cause.NoRoute >>= (λ a. Ok (set_route route (turned a.course) (mirrored a.marks) s)))
    turn_it None = tt
    turn_it (Some a) = record { assets = refl; holds = refl; entered = refl; gone = refl }
keeps n (verb.Link l) s is = absurd (false≢true is)
keeps n (verb.Class c) s is = absurd (false≢true is)
keeps n (verb.Route name pieces marks) s is = absurd (false≢true is)
keeps n (verb.Ref name route at) s is = absurd (false≢true is)
keeps n (verb.Unref name) s is = absurd (false≢true is)
keeps n (verb.Enter e) s is = absurd (false≢true is)
keeps n (verb.Retire asset route location) s is = absurd (false≢true is)
keeps n (verb.Realign route first end pieces marks) s is = absurd (false≢true is)
keeps n (verb.Close route) s is = absurd (false≢true is)
keeps n (verb.Supersede e) s is = absurd (false≢true is)

settles : (key : Name) (command : Command) (s : State) (r : Result State Cause) → Keeps s r → SameAssets s (outcome_of key command s r).state
settles key command s (Ok t) h = record { assets = h.assets; holds = h.holds; entered = h.entered; gone = h.gone }
settles key command s (Err c) h = same s

by_place : (limits : Limits) (key : Name) (command : Command) (s : State) (o : Option ℕ) → is_route_edit command ≡ true → SameAssets s (step_by_key limits key command s o).state
by_place limits key command s (Some place) is = same s
by_place limits key command s None is = settles key command s (next limits command s) (then s (check_room limits command s) (attempt (length s.done + 1) command s) (keeps (length s.done + 1) command s is))

pub route_edits_keep : RouteEditsKeep
unfolding step
route_edits_keep limits key command s is = by_place limits key command s (place_of_key key s.done) is

only_done : (key : Name) (command : Command) (s : State) (r : Result State Cause) → ((outcome_of key command s r).answer ≡ Done (length s.done + 1)) ⊎ ((outcome_of key command s r).state ≡ s)
only_done key command s (Ok t) = inl refl
only_done key command s (Err c) = inr refl

only_done_by : (limits : Limits) (key : Name) (command : Command) (s : State) (o : Option ℕ) → ((step_by_key limits key command s o).answer ≡ Done (length s.done + 1)) ⊎ ((step_by_key limits key command s o).state ≡ s)
only_done_by limits key command s (Some place) = inr refl
only_done_by limits key command s None = only_done key command s (next limits command s)

pub only_done_changes : OnlyDoneChanges
unfolding step
only_done_changes limits key command s = only_done_by limits key command s (place_of_key key s.done)
