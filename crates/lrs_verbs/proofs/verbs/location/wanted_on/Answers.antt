use Rattle.std.proofs.Common.{sym, ◌∙◌}
use Rattle.std.proofs.lemmas.Bool.{leb-false}
use Rattle.std.proofs.lemmas.Result.{err_from_is_err_and}
use Rattle.lrs_inventory.specs.Prelude.{alignment_of, state_of, located_stretch}
use Rattle.lrs_machine.specs.declared.answer.Cause.TheVariants as cause
use Rattle.lrs_machine.specs.Machine.{wanted_of}
use Rattle.lrs_verbs.specs.EntryRequests.{is_left_out}
use Rattle.lrs_inventory.proofs.Stopping.{answers_refused, answers_stopped, passed}
use Rattle.lrs_verbs.proofs.EntryChecks.{refuses_kind, refuses_stretch, refuses_empty, wants}
use Rattle.lrs_verbs.proofs.verbs.location.wanted_on.Goals as goal

pub returns-in_err-refuse_if-clause-refused : goal.returns-in_err-refuse_if-clause-refused
returns-in_err-refuse_if-clause-refused c =
    let s = state_of c.args.inventory.now in
    let e = c.args.asked.now in
    let b = c.requires.begun in
    let test = is_left_out c.args.only_exclusive in
    let err = err_from_is_err_and c.from_residual.result c.from_residual.ensures.1 in
    rw (err.1, err.2) (answers_refused (wanted_of test e s) c.is_refused-is_wrong.result cause.WrongKind c.refuse_if.result _ c.refuse_if.ensures c.in_err-refuse_if.was
    (λ wrong. refuses_kind e s test b.fresh c.args.kind b.class (alignment_of c.args.route.now.route) b.alignment (sym c.is_refused-is_wrong.ensures ∙ wrong)))

pub returns-in_err-stretch-clause-refused : goal.returns-in_err-stretch-clause-refused
returns-in_err-stretch-clause-refused c =
    let s = state_of c.args.inventory.now in
    let e = c.args.asked.now in
    let b = c.requires.begun in
    let a = alignment_of c.args.route.now.route in
    let test = is_left_out c.args.only_exclusive in
    let right = sym c.is_refused-is_wrong.ensures ∙ passed c.is_refused-is_wrong.result cause.WrongKind c.refuse_if.result _ c.refuse_if.ensures c.in_ok-refuse_if.was in
    let err = err_from_is_err_and c.from_residual-in_err-stretch.result c.from_residual-in_err-stretch.ensures.1 in
    rw (err.1, err.2) (answers_stopped (wanted_of test e s) (located_stretch s a e.location) _ c.in_err-stretch.ensures.answer
    (λ d is. refuses_stretch e s test b.fresh c.args.kind b.class a b.alignment right d is))

pub returns-in_err-refuse_if-2-clause-refused : goal.returns-in_err-refuse_if-2-clause-refused
returns-in_err-refuse_if-2-clause-refused c =
    let s = state_of c.args.inventory.now in
    let e = c.args.asked.now in
    let b = c.requires.begun in
    let a = alignment_of c.args.route.now.route in
    let x = c.in_ok-stretch.stretch in
    let test = is_left_out c.args.only_exclusive in
    let right = sym c.is_refused-is_wrong.ensures ∙ passed c.is_refused-is_wrong.result cause.WrongKind c.refuse_if.result _ c.refuse_if.ensures c.in_ok-refuse_if.was in
    let err = err_from_is_err_and c.from_residual-in_err-refuse_if-2.result c.from_residual-in_err-refuse_if-2.ensures.1 in
    rw (err.1, err.2) (answers_refused (wanted_of test e s) c.is_empty.result cause.Empty c.refuse_if-2.result _ c.refuse_if-2.ensures c.in_err-refuse_if-2.was
    (λ none. refuses_empty e s test b.fresh c.args.kind b.class a b.alignment right x c.in_ok-stretch.ensures.answer c.in_ok-stretch.ensures.within (sym c.is_empty.ensures ∙ none)))

pub returns-clause-wanted : goal.returns-clause-wanted
returns-clause-wanted c =
    let s = state_of c.args.inventory.now in
    let e = c.args.asked.now in
    let b = c.requires.begun in
    let a = alignment_of c.args.route.now.route in
    let x = c.in_ok-stretch.stretch in
    let test = is_left_out c.args.only_exclusive in
    let right = sym c.is_refused-is_wrong.ensures ∙ passed c.is_refused-is_wrong.result cause.WrongKind c.refuse_if.result _ c.refuse_if.ensures c.in_ok-refuse_if.was in
    let some = sym c.is_empty.ensures ∙ passed c.is_empty.result cause.Empty c.refuse_if-2.result _ c.refuse_if-2.ensures c.in_ok-refuse_if-2.was in
    record {
      begun = b;
      filled = leb-false x.to x.from some;
      within = c.in_ok-stretch.ensures.within;
      wanted = wants e s test b.fresh c.args.kind b.class a b.alignment right x c.in_ok-stretch.ensures.answer c.in_ok-stretch.ensures.within some;
    }
