use Rattle.std.proofs.Common.{◌++◌, sym}
use Rattle.lrs_sheet_records.specs.Words.{parts_of}
use Rattle.lrs_cli_tasks.specs.Columns.{class_columns, columns_of, leading_classes}
use Rattle.lrs_cli_tasks.proofs.Picking.{later_found, later_unread, leading_found}
use Rattle.lrs_cli_tasks.proofs.columns.column_place.Goals as goal

pub returns-in-Some-class_place-clause-found : goal.returns-in-Some-class_place-clause-found
returns-in-Some-class_place-clause-found c =
    leading_found (columns_of c.args.question.now) (leading_classes c.args.question.now) (parts_of 44 c.in-Some.first.now ++ class_columns c.args.question.now)
    c.leading_classes-leading.result.now c.args.name.now c.in-Some.ensures.some c.leading_classes-leading.ensures c.in-Some-class_place.place
    (sym (rw c.in-Some-class_place.is at c.class_place.ensures))

pub returns-in-Ok-clause-found : goal.returns-in-Ok-clause-found
returns-in-Ok-clause-found c =
    later_found (columns_of c.args.question.now) (leading_classes c.args.question.now) (parts_of 44 c.in-Some.first.now ++ class_columns c.args.question.now)
    c.leading_classes-leading.result.now c.args.name.now c.in-Some.ensures.some c.leading_classes-leading.ensures c.in-Ok.place c.place_after.result
    (sym (rw c.in-None.is at c.class_place.ensures)) (rw (c.as_bytes.ensures.value, c.class_columns.ensures) at c.in-Ok.ensures.found) c.place_after.ensures.found

pub returns-in-Err-clause-unread : goal.returns-in-Err-clause-unread
returns-in-Err-clause-unread c =
    later_unread (columns_of c.args.question.now) (leading_classes c.args.question.now) (parts_of 44 c.in-Some.first.now ++ class_columns c.args.question.now)
    c.leading_classes-leading.result.now c.args.name.now c.in-Some.ensures.some c.leading_classes-leading.ensures c.in-Err.fault
    (sym (rw c.in-None.is at c.class_place.ensures)) (rw (c.as_bytes.ensures.value, c.class_columns.ensures) at c.in-Err.ensures.unread)
