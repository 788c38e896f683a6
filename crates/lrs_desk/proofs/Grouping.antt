-- Commands that are done together, and what is kept of them.
use Rattle.std.proofs.Common.{◌≡◌, ◌⊎◌, inl, inr, ℕ, zero, suc, ◌+◌, ◌-◌, ◌≤◌, ◌<◌, true, List, [], ◌∷◌, ◌++◌, length, take, get_or, Option, Some, None, Result, Ok, Err, IfSome, IfNone, IfOk, OnOk, OnErr, refl, sym, ap, subst, ◌∙◌, arith, length-append}
use Rattle.std.specs.List.{AllByRecursion}
use Rattle.std.proofs.lemmas.List.{append-nil, take_more, take_all, take-map, map-append, length-map, length-take-le}
use Rattle.lrs_measure.specs.Texts.{Name}
use Rattle.lrs_machine.specs.declared.answer.Answer.{Answer}
use Rattle.lrs_machine.specs.declared.answer.Answer.TheVariants.{Done}
use Rattle.lrs_machine.specs.declared.answer.Limits.{Limits}
use Rattle.lrs_machine.specs.declared.command.Command.{Command}
use Rattle.lrs_machine.specs.declared.image.Image.{Image}
use Rattle.lrs_machine.specs.declared.table.Table.{Table}
use Rattle.lrs_machine.specs.Image.{state_of}
use Rattle.lrs_machine.specs.Machine.{Record, step, step_record, answers, state_after}
use Rattle.lrs_machine.specs.Sound.{IsSound}
use Rattle.lrs_machine.specs.State.{State}
use Rattle.lrs_image.specs.declared.change.Change.{Change}
use Rattle.lrs_image.specs.declared.keeper.CommitFault.{CommitFault}
use Rattle.lrs_image.specs.declared.keeper.CommitFault.TheVariants as commit
use Rattle.lrs_image.specs.Change.{apply, CanMake, rows_of}
use Rattle.lrs_image.specs.KeeperCalls.{HasRisen, HoldsOnly, HoldsSound}
use Rattle.lrs_image.specs.ChangeLists.{apply_all, CanMakeAll, IsChangedBy, rows_in}
use Rattle.lrs_image.proofs.Together.{apply_more, can_more, edits_after, rows_more}
use Rattle.lrs_machine.specs.Stop.StoppedRuns.{IsAccepted}
use Rattle.lrs_machine.proofs.Keeping.{only_done_changes}
use Rattle.lrs_desk.specs.Desk.{AreBounded, BreaksAmid, EndsLarge, EndsRefused, IsMade, OneIsDone, most_rows, records_of}
use Rattle.lrs_machine.specs.declared.stops.fault.Fault.{Fault}
use Rattle.lrs_machine.specs.declared.stops.fault.Fault.TheVariants.{Memory, Keep, MustReopen}
use Rattle.lrs_desk.specs.DeskView.{DeskView}
use Rattle.lrs_desk.specs.Group.{MayBeChanged, DoesNext, EndsGroup, GoesOnBy, HasDone, GoesOn, IsGroup, MayFollow}
use Rattle.lrs_desk.proofs.Deciding.{kept_edit}

module _ {X : Type 0} where
  all_more : (P : X → Type 0) (xs : List X) (y : X) → AllByRecursion P xs → P y → AllByRecursion P (xs ++ y ∷ [])
  all_more P [] y h p = (p, tt)
  all_more P (x ∷ xs) y h p = (h.0, all_more P xs y h.1 p)

-- images of one state have as many edits
as_many_edits : (i j : Image) → state_of j ≡ state_of i → length j.edits ≡ length i.edits
unfolding state_of
as_many_edits i j same = sym (length-map j.edits kept_edit) ∙ ap (λ (s : State). length s.done) same ∙ length-map i.edits kept_edit

module _ (limits : Limits) where
  -- commands, one after the other

  state_more : (rs : List Record) (r : Record) (s : State) → state_after limits (rs ++ r ∷ []) s ≡ (step_record limits r (state_after limits rs s)).state
  state_more [] r s = refl
  state_more (q ∷ rs) r s = state_more rs r (step_record limits q s).state

  answers_more : (rs : List Record) (r : Record) (s : State) → answers limits (rs ++ r ∷ []) s ≡ answers limits rs s ++ (step_record limits r (state_after limits rs s)).answer ∷ []
  answers_more [] r s = refl
  answers_more (q ∷ rs) r s = ap (λ rest. (step_record limits q s).answer ∷ rest) (answers_more rs r (step_record limits q s).state)

  as_many : (rs : List Record) (s : State) → length (answers limits rs s) ≡ length rs
  as_many [] s = refl
  as_many (r ∷ rs) s = ap suc (as_many rs (step_record limits r s).state)

  -- of fewer commands each was accepted too
  fewer_accepted : (m n : ℕ) (rs : List Record) (s : State) → m ≤ n → AllByRecursion IsAccepted (answers limits (take n rs) s) → AllByRecursion IsAccepted (answers limits (take m rs) s)
  fewer_accepted zero n rs s few h = tt
  fewer_accepted (suc m) zero rs s few h = absurd (omega (arith, few))
  fewer_accepted (suc m) (suc n) [] s few h = tt
  fewer_accepted (suc m) (suc n) (r ∷ rs) s few h = (h.0, fewer_accepted m n rs (step_record limits r s).state (omega (arith, few)) h.1)

  -- where none of the commands is done, the state stays
  one_done : (rs : List Record) (s : State) → OneIsDone (answers limits rs s) ⊎ (state_after limits rs s ≡ s)
  one_done [] s = inr refl
  one_done (r ∷ rs) s = by (only_done_changes limits r.key r.command s) (one_done rs (step_record limits r s).state)
    where
      by : ((step limits r.key r.command s).answer ≡ Done (length s.done + 1)) ⊎ ((step limits r.key r.command s).state ≡ s)
          → OneIsDone (answers limits rs (step_record limits r s).state) ⊎ (state_after limits rs (step_record limits r s).state ≡ (step_record limits r s).state)
          → OneIsDone (answers limits (r ∷ rs) s) ⊎ (state_after limits (r ∷ rs) s ≡ s)
      by (inl done) rest = inl (length s.done + 1, inl (sym done))
      by (inr same) (inl (number, there)) = inl (number, inr there)
      by (inr same) (inr still) = inr (still ∙ same)

  -- so where there are other edits behind them, one is done
  some_done : (rs : List Record) (i j : Image) → state_of j ≡ state_after limits rs (state_of i) → (length j.edits ≡ length i.edits → ⊥) → OneIsDone (answers limits rs (state_of i))
  some_done rs i j state differ = by (one_done rs (state_of i))
    where
      by : OneIsDone (answers limits rs (state_of i)) ⊎ (state_after limits rs (state_of i) ≡ state_of i) → OneIsDone (answers limits rs (state_of i))
      by (inl done) = done
      by (inr still) = absurd (differ (as_many_edits i j (state ∙ still)))

  -- no commands
  pub goes_on_from : (i : Image) → IsSound i → (given : List Answer) (changes : List Change) → given ≡ [] → changes ≡ [] → GoesOn limits [] i i given changes
  goes_on_from i sound given changes none_given none_made =
      subst (λ (told : List Answer). GoesOn limits [] i i told changes) (sym none_given) (subst (λ (cs : List Change). GoesOn limits [] i i [] cs) (sym none_made) (record {
        done = record {
          answered = refl;
          state = refl;
          made = record { can = tt; made = refl; sound = sound };
        };
        accepted = tt;
        none = λ e. refl;
        no_changes = λ e. refl;
      }))

  -- one more command

  module _ (rs : List Record) (r : Record) (i before after : Image) where
    made_more : (changes changes_after : List Change) → IsMade i before changes → MayBeChanged changes changes_after before after → IsMade i after changes_after
    made_more changes changes_after m (inl same) = record {
      can = subst (λ (cs : List Change). CanMakeAll cs i) (sym same.0) m.can;
      made = same.1 ∙ m.made ∙ ap (λ (cs : List Change). apply_all cs i) (sym same.0);
      sound = subst IsSound (sym same.1) m.sound;
    }
    made_more changes changes_after m (inr c) = record {
      can = subst (λ (cs : List Change). CanMakeAll cs i) (sym c.kept) (can_more changes c.change i m.can (subst (CanMake c.change) m.made c.can));
      made = c.made ∙ ap (apply c.change) m.made ∙ sym (apply_more changes c.change i) ∙ ap (λ (cs : List Change). apply_all cs i) (sym c.kept);
      sound = subst IsSound (sym c.made) c.can.sound;
    }

    module _ (given given_after : List Answer) (changes changes_after : List Change) where
      pub one_more : (rows : Option ℕ) → HasDone limits rs i before given changes → DoesNext limits r.key r.command before after given given_after changes changes_after rows
          → HasDone limits (rs ++ r ∷ []) i after given_after changes_after
      one_more rows done next =
          let state = next.state ∙ ap (λ (s : State). (step_record limits r s).state) done.state ∙ sym (state_more rs r (state_of i)) in
          record {
            answered = next.answered ∙ (λ j. done.answered j ++ (step_record limits r (done.state j)).answer ∷ []) ∙ sym (answers_more rs r (state_of i));
            state = state;
            made = made_more changes changes_after done.made next.changed;
          }

      pub one_more_accepted : (rows : ℕ) → GoesOn limits rs i before given changes → DoesNext limits r.key r.command before after given given_after changes changes_after (Some rows)
          → GoesOn limits (rs ++ r ∷ []) i after given_after changes_after
      one_more_accepted rows so_far next = record {
        done = one_more (Some rows) so_far.done next;
        accepted = subst (AllByRecursion IsAccepted) (sym (answers_more rs r (state_of i)))
            (all_more IsAccepted (answers limits rs (state_of i)) (step_record limits r (state_after limits rs (state_of i))).answer so_far.accepted
            (subst (λ (s : State). IsAccepted (step_record limits r s).answer) so_far.done.state next.goes_on.accepted));
        none = λ e. absurd (omega (arith, length-append rs (r ∷ []), ap (λ (qs : List Record). length qs) e));
        no_changes = λ e. absurd (omega (arith, length-append rs (r ∷ []), ap (λ (qs : List Record). length qs) e));
      }

-- whether another command may follow one that changes nothing
pub follows_still : (answer : Answer) (changes : List Change) (rows : ℕ) (next : Option ℕ) → rows ≡ rows_in changes → rows ≤ most_rows → IfSome next (λ n. IsAccepted answer × (n ≡ rows))
    → IfNone next (IsAccepted answer → ⊥) → GoesOnBy answer changes next
follows_still answer changes rows None listed few some none = inl none
follows_still answer changes rows (Some n) listed few some none = record {
  accepted = some.0;
  counted = some.1 ∙ listed;
  few = (let same = some.1 in omega (arith, few, same));
}

-- ... or one that makes a change
pub follows_with : (answer : Answer) (number : ℕ) → answer ≡ Done number → (changes changes_after : List Change) (change : Change) → changes_after ≡ changes ++ change ∷ [] → (rows : ℕ) (next : Option ℕ) → rows ≡ rows_in changes
    → IfSome next (λ n. (n ≡ rows + rows_of change.difference) × (n ≤ most_rows)) → IfNone next (most_rows < rows + rows_of change.difference) → GoesOnBy answer changes_after next
follows_with answer number done changes changes_after change kept rows None listed some none =
    let all : rows_in changes_after ≡ rows_in changes + rows_of change.difference = ap rows_in kept ∙ rows_more changes change in
    inr ((number, done), omega (arith, none, all, listed))
follows_with answer number done changes changes_after change kept rows (Some n) listed some none =
    let all : rows_in changes_after ≡ rows_in changes + rows_of change.difference = ap rows_in kept ∙ rows_more changes change in
    let sum = some.0 in
    record {
      accepted = subst IsAccepted (sym done) tt;
      counted = omega (arith, sum, all, listed);
      few = some.1;
    }

-- what lists few rows is bounded
pub bounded_all : (changes : List Change) → rows_in changes ≤ most_rows → AreBounded changes
bounded_all changes few = record { front = changes; last = []; are = sym (append-nil changes); one = omega arith; few = few }

-- ... and so with one more change
pub bounded_after : (changes changes_after : List Change) (before after : Image) → rows_in changes ≤ most_rows → MayBeChanged changes changes_after before after → AreBounded changes_after
bounded_after changes changes_after before after few (inl same) = bounded_all changes_after (subst (λ (cs : List Change). rows_in cs ≤ most_rows) (sym same.0) few)
bounded_after changes changes_after before after few (inr c) = record { front = changes; last = c.change ∷ []; are = c.kept; one = omega arith; few = few }

-- the first commands of a list

abbrev record_of : Name × Command → Record
record_of r = record { key = r.0; command = r.1 }

module _ (commands : List (Name × Command)) where
  -- one more of them
  pub at_next : (n : ℕ) (r : Name × Command) → n < length commands → r ≡ get_or commands n r → records_of (take (n + 1) commands) ≡ records_of (take n commands) ++ record { key = r.0; command = r.1 } ∷ []
  at_next n r within is =
      ap records_of (take_more commands n r within ∙ (λ j. take n commands ++ sym is j ∷ []))
      ∙ map-append record_of (take n commands) (r ∷ [])

  module _ (limits : Limits) (n : ℕ) (i j : Image) (given : List Answer) (changes : List Change) where
    -- they are a group, if each but the last was accepted
    pub is_group : HasDone limits (records_of (take n commands)) i j given changes → 1 ≤ n → n ≤ length commands
        → AllByRecursion IsAccepted (answers limits (take (n - 1) (records_of commands)) (state_of i)) → IsGroup limits (records_of commands) i j given changes
    is_group done some few accepted =
        let front : take n (records_of commands) ≡ records_of (take n commands) = take-map record_of n commands in
        let many : length given ≡ n = ap (λ (told : List Answer). length told) done.answered ∙ as_many limits (records_of (take n commands)) (state_of i) ∙ length-map (take n commands) record_of ∙ length-take-le n commands few in
        let firsts : records_of (take n commands) ≡ take (length given) (records_of commands) = sym front ∙ ap (λ (m : ℕ). take m (records_of commands)) (sym many) in
        record {
          first = record {
            some = omega (arith, some, many);
            few = omega (arith, few, many, length-map commands record_of);
            answered = done.answered ∙ ap (λ (rs : List Record). answers limits rs (state_of i)) firsts;
            state = done.state ∙ ap (λ (rs : List Record). state_after limits rs (state_of i)) firsts;
            accepted = subst (λ (m : ℕ). AllByRecursion IsAccepted (answers limits (take (m - 1) (records_of commands)) (state_of i))) (sym many) accepted;
          };
          made = done.made;
        }

    -- ... so all of those behind which others could follow
    pub is_group_so_far : GoesOn limits (records_of (take n commands)) i j given changes → 1 ≤ n → n ≤ length commands → IsGroup limits (records_of commands) i j given changes
    is_group_so_far so_far some few =
        is_group so_far.done some few
        (fewer_accepted limits (n - 1) n (records_of commands) (state_of i) (omega arith)
        (subst (λ (rs : List Record). AllByRecursion IsAccepted (answers limits rs (state_of i))) (sym (take-map record_of n commands)) so_far.accepted))

    -- each has its answer
    pub as_many_given : GoesOn limits (records_of (take n commands)) i j given changes → n ≤ length commands → length given ≡ n
    as_many_given so_far few =
        ap (λ (told : List Answer). length told) so_far.done.answered
        ∙ as_many limits (records_of (take n commands)) (state_of i)
        ∙ length-map (take n commands) record_of
        ∙ length-take-le n commands few

  -- without an answer nothing is staged
  pub none_staged : (limits : Limits) (n : ℕ) (i j : Image) (given : List Answer) (changes : List Change) → GoesOn limits (records_of (take n commands)) i j given changes → n ≤ length commands → length given ≡ 0 → changes ≡ []
  none_staged limits n i j given changes so_far few none =
      so_far.no_changes (ap (λ (m : ℕ). records_of (take m commands)) (sym (as_many_given limits n i j given changes so_far few) ∙ none))

  -- ... and nothing is changed
  pub none_changed : (limits : Limits) (n : ℕ) (i j : Image) (given : List Answer) (changes : List Change) → GoesOn limits (records_of (take n commands)) i j given changes → n ≤ length commands → length given ≡ 0 → j ≡ i
  none_changed limits n i j given changes so_far few none =
      so_far.none (ap (λ (m : ℕ). records_of (take m commands)) (sym (as_many_given limits n i j given changes so_far few) ∙ none))

  -- at the end of the list
  pub whole_group : (limits : Limits) (n : ℕ) (i j : Image) (given : List Answer) (changes : List Change)
      → GoesOn limits (records_of (take n commands)) i j given changes → length commands ≤ n → 1 ≤ length commands → IsGroup limits (records_of commands) i j given changes
  whole_group limits n i j given changes so_far past some =
      is_group_so_far limits (length commands) i j given changes
      (subst (λ (cs : List (Name × Command)). GoesOn limits (records_of cs) i j given changes) (take_all n commands past ∙ sym (take_all (length commands) commands (omega arith))) so_far)
      some (omega arith)

  -- ... each has its answer
  pub all_given : (limits : Limits) (n : ℕ) (i j : Image) (given : List Answer) (changes : List Change) → GoesOn limits (records_of (take n commands)) i j given changes → length commands ≤ n → length given ≡ length commands
  all_given limits n i j given changes so_far past =
      as_many_given limits (length commands) i j given changes (subst (λ (cs : List (Name × Command)). GoesOn limits (records_of cs) i j given changes) (take_all n commands past ∙ sym (take_all (length commands) commands (omega arith))) so_far) (omega arith)

  -- where memory runs out for another command than the first
  pub group_stays : (limits : Limits) (n : ℕ) (i j j_after : Image) (given given_after : List Answer) (changes changes_after : List Change)
      → GoesOn limits (records_of (take n commands)) i j given changes → n ≤ length commands → 1 ≤ length given_after → j_after ≡ j → given_after ≡ given → changes_after ≡ changes
      → IsGroup limits (records_of commands) i j_after given_after changes_after
  group_stays limits n i j j_after given given_after changes changes_after so_far few some same same_given same_changes =
      let many : n ≡ length given_after = sym (as_many_given limits n i j given changes so_far few) ∙ ap (λ (told : List Answer). length told) (sym same_given) in
      subst (λ (image : Image). IsGroup limits (records_of commands) i image given_after changes_after) (sym same)
      (subst (λ (told : List Answer). IsGroup limits (records_of commands) i j told changes_after) (sym same_given)
      (subst (λ (cs : List Change). IsGroup limits (records_of commands) i j given cs) (sym same_changes)
      (is_group_so_far limits n i j given changes so_far (omega (arith, many, some)) few)))

  -- one more command, which another may follow or not
  module _ (limits : Limits) (n : ℕ) (r : Name × Command) (i before after : Image) (given given_after : List Answer) (changes changes_after : List Change) (rows : Option ℕ)
      (within : n < length commands) (is : r ≡ get_or commands n r)
      (so_far : GoesOn limits (records_of (take n commands)) i before given changes)
      (next : DoesNext limits r.0 r.1 before after given given_after changes changes_after rows) where
    front_is : records_of (take n commands) ++ record_of r ∷ [] ≡ records_of (take (n + 1) commands)
    front_is = sym (at_next n r within is)

    all_done : HasDone limits (records_of (take (n + 1) commands)) i after given_after changes_after
    all_done =
        subst (λ (rs : List Record). HasDone limits rs i after given_after changes_after) front_is
        (one_more limits (records_of (take n commands)) (record_of r) i before after given given_after changes changes_after rows so_far.done next)

    pub group_grows : (more : ℕ) → rows ≡ Some more → GoesOn limits (records_of (take (n + 1) commands)) i after given_after changes_after
    group_grows more goes =
        subst (λ (rs : List Record). GoesOn limits rs i after given_after changes_after) front_is
        (one_more_accepted limits (records_of (take n commands)) (record_of r) i before after given given_after changes changes_after more so_far
        (subst (DoesNext limits r.0 r.1 before after given given_after changes changes_after) goes next))

    -- ... so many rows are listed then
    pub rows_follow : (more : ℕ) → rows ≡ Some more → MayFollow (step limits r.0 r.1 (state_of before)).answer changes_after more
    rows_follow more goes = subst (GoesOnBy (step limits r.0 r.1 (state_of before)).answer changes_after) goes next.goes_on

    pub group_ends : IsGroup limits (records_of commands) i after given_after changes_after
    group_ends =
        is_group limits (n + 1) i after given_after changes_after all_done
        (omega arith) (omega (arith, within))
        (subst (λ (rs : List Record). AllByRecursion IsAccepted (answers limits rs (state_of i)))
        (sym (take-map record_of n commands) ∙ ap (λ (m : ℕ). take m (records_of commands)) (let e : n ≡ (n + 1) - 1 = omega arith in e)) so_far.accepted)

    -- a group that ends with it ends refused, or is large
    pub ends_so : rows ≡ None → EndsRefused given_after ⊎ EndsLarge i after given_after
    ends_so goes = by (subst (GoesOnBy said changes_after) goes next.goes_on)
      where
        said : Answer
        said = (step limits r.0 r.1 (state_of before)).answer

        by : EndsGroup said changes_after → EndsRefused given_after ⊎ EndsLarge i after given_after
        by (inl refused) = inl (given, said, next.answered, refused)
        by (inr ((number, done), many)) = inr (
          (given, number, next.answered ∙ ap (λ (a : Answer). given ++ a ∷ []) done),
          (changes_after, all_done.made, many),
        )

-- what is kept

module _ (may found : Result Image Table → Type 0) (i j : Image) (changes : List Change) (only : HoldsOnly may i) where
  pub only_sound : IsSound i → HoldsSound may
  only_sound sound = λ c h. subst (λ (r : Result Image Table). IfOk r (λ image. IsSound image)) (sym (only c h)) sound

  pub can_all : CanMakeAll changes i → (c : Result Image Table) → may c → IfOk c (CanMakeAll changes)
  can_all can = λ c h. subst (λ (r : Result Image Table). IfOk r (CanMakeAll changes)) (sym (only c h)) can

  image_is : (image : Image) → may (Ok image) → image ≡ i
  image_is image h = let e = only (Ok image) h in cc e

  pub all_kept : j ≡ apply_all changes i → ((c : Result Image Table) → found c → IsChangedBy may changes c) → HoldsOnly found j
  all_kept made changed = λ c h.
      let by = changed c h in
      by.2 ∙ ap (λ (image : Image). let r : Result Image Table = Ok (apply_all changes image) in r) (image_is by.0 by.1) ∙ ap (λ (image : Image). let r : Result Image Table = Ok image in r) (sym made)

module _ {K : Type 0} (holds : K → Result Image Table → Type 0) (records : List Record) (old new : DeskView K) (given : List Answer) (changes : List Change) where
  pub breaks_amid : IsGroup old.limits records old.image new.image given changes → HoldsOnly (holds old.keeper) old.image
      → ((c : Result Image Table) → holds new.keeper c → holds old.keeper c ⊎ IsChangedBy (holds old.keeper) changes c)
      → (length new.image.edits ≡ length old.image.edits → ⊥) → new.must_reopen ≡ true → new.is_ahead ≡ true → HasRisen old.failures new.failures → BreaksAmid holds records old new
  breaks_amid group only found differ reopen ahead cause =
      let many : length given ≡ (length given - 1) + 1 = omega (arith, group.first.some) in
      let state : state_of new.image ≡ state_after old.limits (take ((length given - 1) + 1) records) (state_of old.image) = group.first.state ∙ ap (λ (n : ℕ). state_after old.limits (take n records) (state_of old.image)) many in
      record {
        accepted = length given - 1;
        few = omega (arith, group.first.some, group.first.few);
        are_accepted = group.first.accepted;
        done = some_done old.limits (take ((length given - 1) + 1) records) old.image new.image state differ;
        image = state;
        content = λ c h. elim (found c h) [
          | inl earlier ↦ inl (only c earlier)
          | inr made ↦ inr (new.image, all_kept (holds old.keeper) (λ x. x ≡ c) old.image new.image changes only group.made.made (λ x e. subst (IsChangedBy (holds old.keeper) changes) (sym e) made) c refl, state, group.made.sound)
        ];
        must_reopen = reopen;
        is_ahead = ahead;
        cause = cause;
      }

-- Nothing more is found once the changes are staged.
pub as_before : (old mid : Result Image Table → Type 0) → ((c : Result Image Table) → mid c → old c) → (changes : List Change) (c : Result Image Table) → mid c ⊎ IsChangedBy mid changes c → old c ⊎ IsChangedBy old changes c
as_before old mid le changes c h = elim h [
  | inl before ↦ inl (le c before)
  | inr after ↦ inr (after.0, le (Ok after.0) after.1, after.2)
]

-- What may be found once the changes are staged is the image alone, as before.
pub still_only : (old mid : Result Image Table → Type 0) → ((c : Result Image Table) → mid c → old c) → (i : Image) → HoldsOnly old i → HoldsOnly mid i
still_only old mid le i only c h = only c (le c h)

-- Where no edit was made, nothing is staged.
pub none_made : (i j : Image) (changes : List Change) → IsMade i j changes → length j.edits ≡ length i.edits → changes ≡ []
none_made i j [] m same = refl
none_made i j (c ∷ cs) m same = absurd (omega (arith, edits_after (c ∷ cs) i, same, ap (λ (image : Image). length image.edits) m.made))

-- An open keeper finds what it holds alone.
pub held : (may : Result Image Table → Type 0) (i : Image) → HoldsOnly may i → (c : Result Image Table) × may c → may (Ok i)
held may i only found = subst may (only found.0 found.1) found.1

-- What may be found after a command, where its commit has not failed: its image alone.
pub kept_after : (old_may may : Result Image Table → Type 0) (old new next : Image) (made : Result Answer Fault) → HoldsOnly old_may old → OnOk made (new ≡ next) → OnOk made (HoldsOnly may next)
    → OnErr made (new ≡ old) → (made ≡ Err Memory → (c : Result Image Table) → may c → old_may c) → (made ≡ Err MustReopen → ⊥) → (made ≡ Err Keep → ⊥) → HoldsOnly may new
kept_after old_may may old new next (Ok a) only ok kept err memory never no_failure = λ c h. kept c h ∙ ap (λ (i : Image). let r : Result Image Table = Ok i in r) (sym ok)
kept_after old_may may old new next (Err Memory) only ok kept err memory never no_failure = λ c h. only c (memory refl c h) ∙ ap (λ (i : Image). let r : Result Image Table = Ok i in r) (sym err)
kept_after old_may may old new next (Err Keep) only ok kept err memory never no_failure = absurd (no_failure refl)
kept_after old_may may old new next (Err MustReopen) only ok kept err memory never no_failure = absurd (never refl)

-- Without a change what may be found is the image alone, as before.
pub same_only : (may : Result Image Table → Type 0) (i j : Image) (changes : List Change) → IsMade i j changes → changes ≡ [] → HoldsOnly may i → HoldsOnly may j
same_only may i j changes m none only = λ c h.
    only c h ∙ ap (λ (image : Image). let r : Result Image Table = Ok image in r) (sym (m.made ∙ ap (λ (cs : List Change). apply_all cs i) none))

-- whatever the fault of a commit is, nothing was kept or all of it
pub failed_either : {A : Type 0} (found before after : Result Image Table → Type 0) (answer : Result A CommitFault) (fault : CommitFault) → answer ≡ Err fault
    → (answer ≡ Err commit.Memory → (c : Result Image Table) → found c → before c) → (answer ≡ Err commit.Store → (c : Result Image Table) → found c → before c ⊎ after c)
    → (c : Result Image Table) → found c → before c ⊎ after c
failed_either found before after answer commit.Memory is memory store c h = inl (memory is c h)
failed_either found before after answer commit.Store is memory store c h = store is c h
