use Rattle.std.proofs.Common.{◌≡◌, ap, ◌∙◌, arith}
use Rattle.lrs_store_files.specs.declared.table_list.Known.TheVariants.{First}
use Rattle.lrs_store_questions.proofs.image.check_tables.Goals as goal

pub returns-in-First : goal.returns-in-First
returns-in-First g c clean =
    let all : c.in-First.count ≡ 12 = omega (arith, c.if-count-eq-TABLES.true) in
    c.in_ok-count.ensures clean (c.in-First.is ∙ ap First all)
