use Rattle.std.proofs.Common.{◌∙◌, inl, inr, subst, sym}
use Rattle.lrs_cli_tasks.specs.Columns.{ArePlaces, columns_of}
use Rattle.lrs_cli_tasks.proofs.Picking.{HasFound, all_found, first_name, names_twice, one_found}
use Rattle.lrs_cli_tasks.proofs.columns.places_of.Goals as goal

pub returns-in-Err-clause-unread : goal.returns-in-Err-clause-unread
returns-in-Err-clause-unread c =
    elim c.in-Err.ensures.unread [
      | inl h ↦ inr (inl (
        h.0,
        names_twice (columns_of c.args.question.now) c.args.names.now c.names.rest.now c.cut_at.result.0.now c.names.places.items c.in_ok-place.place c.names.invariant
            (first_name (λ text. text.now) c.cut_at.result.1 c.names.rest.now c.cut_at.result.0.now c.cut_at.ensures.last c.cut_at.ensures.more) c.in_ok-place.ensures.found h.1,
      ))
      | inr h ↦ inr (inr h)
    ]

pub names-preserved : goal.names-preserved
names-preserved c =
    subst (HasFound (columns_of c.args.question.now) c.args.names.now c.in-Some.more.now) (sym c.in-Ok.ensures.pushed)
    (one_found (columns_of c.args.question.now) c.args.names.now c.names.rest.now c.cut_at.result.0.now c.names.places.items c.in_ok-place.place c.in-Some.more.now c.names.invariant
    (rw c.in-Some.is at c.cut_at.ensures.more) c.in_ok-place.ensures.found c.in-Ok.ensures.apart)

pub returns-in-None-clause-read : goal.returns-in-None-clause-read
returns-in-None-clause-read c =
    subst (ArePlaces (columns_of c.args.question.now) c.args.names.now) (sym (c.from_vec.ensures ∙ c.in-Ok.ensures.pushed))
    (all_found (columns_of c.args.question.now) c.args.names.now c.names.rest.now c.cut_at.result.0.now c.names.places.items c.in_ok-place.place c.names.invariant
    (rw c.in-None.is at c.cut_at.ensures.last) c.in_ok-place.ensures.found c.in-Ok.ensures.apart)
