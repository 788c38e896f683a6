use Rattle.std.proofs.Common.{◌∙◌, inr, subst, sym}
use Rattle.lrs_cli_words.specs.Questions.{SaysClasses}
use Rattle.lrs_cli_words.proofs.ClassesNamed.{HasRead, all_read, first_part, one_read, part_unread}
use Rattle.lrs_cli_words.proofs.lists.named_classes.Goals as goal

pub returns-in-Err-clause-unread : goal.returns-in-Err-clause-unread
returns-in-Err-clause-unread c =
    inr (part_unread c.args.text.now c.names.rest.now c.cut_at.result.0.now c.names.classes.items c.names.invariant c.in-Err.fault
    (first_part (λ text. text.now) c.cut_at.result.1 c.names.rest.now c.cut_at.result.0.now c.cut_at.ensures.last c.cut_at.ensures.more) c.in-Err.ensures.unread)

pub names-preserved : goal.names-preserved
names-preserved c =
    subst (HasRead c.args.text.now c.in-Some.more.now) (sym c.in-Ok-push.ensures.items)
    (one_read c.args.text.now c.names.rest.now c.cut_at.result.0.now c.names.classes.items c.names.invariant c.in-Ok.class c.in-Some.more.now
    (rw c.in-Some.is at c.cut_at.ensures.more) c.in-Ok.ensures.read)

pub returns-in-None-clause-read : goal.returns-in-None-clause-read
returns-in-None-clause-read c =
    subst (SaysClasses c.args.text.now) (sym (c.from_vec.ensures ∙ c.in-Ok-push.ensures.items))
    (all_read c.args.text.now c.names.rest.now c.cut_at.result.0.now c.names.classes.items c.names.invariant c.in-Ok.class
    (rw c.in-None.is at c.cut_at.ensures.last) c.in-Ok.ensures.read)
