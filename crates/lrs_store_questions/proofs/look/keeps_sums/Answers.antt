use Rattle.std.proofs.Common.{◌≡◌, ◌%◌, ◌≤◌, sym, subst, ◌∙◌, inl, inr, arith, eq-eqb, ne_eqb, eqb-true}
use Rattle.std.proofs.lemmas.Bool.{cases_eq}
use Rattle.sqlite_wal.specs.Recovery as raw
use Rattle.sqlite_pool.specs.Stored.{reserved}
use Rattle.sqlite_pool.proofs.ProbeLemmas.{reserved_word}
use Rattle.sqlite.specs.Files.{image_of}
use Rattle.lrs_store_questions.proofs.look.keeps_sums.Goals as goal

pub returns-in-Ok-eq83-default-clause-begins : goal.returns-in-Ok-eq83-default-clause-begins
returns-in-Ok-eq83-default-clause-begins g c clean pages first found is len =
    sym (c.in-Ok-eq83-default.ensures.value clean pages first found is len).0 ∙ c.in-Ok-eq83-default.field-0-0-test

pub returns-in-Ok-eq83-default-clause-says : goal.returns-in-Ok-eq83-default-clause-says
returns-in-Ok-eq83-default-clause-says g c clean sums pages first found is len =
    sym (c.in-Ok-eq83-default.ensures.value clean pages first found is len).1 ∙ eqb-true _ _ sums

pub returns-in-Ok-eq83-default-clause-held : goal.returns-in-Ok-eq83-default-clause-held
returns-in-Ok-eq83-default-clause-held g c clean db held is =
    let used = held.0 in
    let few : reserved used ≤ 8 = grind arith in
    let it = held.2.found in
    let first = reserved_word used _ _ it (omega (arith, held.1.0)) held.2.ours.file.sound in
    let read = c.in-Ok-eq83-default.ensures.value clean it.stored first.0 (subst (λ n. raw.Recovers n (image_of g.D.Disk c.args.files.now) it.stored) is it.found) first.1 (first.2 ∙ is) in
    let word = read.1 ∙ first.3 in
    elim (cases_eq (used % 16) 8) [
      | inl on ↦ let eight : reserved used ≡ 8 = rw (eq-eqb _ 8 on) in rw (eq-eqb c.in-Ok-eq83-default.word 0x0840_2020 (omega arith)) (omega arith)
      | inr off ↦ let none : reserved used ≡ 0 = rw (ne_eqb _ 8 off) in rw (ne_eqb c.in-Ok-eq83-default.word 0x0840_2020 (omega arith)) (omega arith)
    ]
