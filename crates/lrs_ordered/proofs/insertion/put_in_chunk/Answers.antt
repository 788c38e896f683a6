use Rattle.std.proofs.Common.{[], ◌∷◌, ◌++◌, insert, append-nil, sym, ap, ◌∙◌}
use Rattle.std.proofs.lemmas.List.Edits.{insert_end}
use Rattle.lrs_measure.proofs.Insertions.{insert_by-place}
use Rattle.lrs_ordered.proofs.insertion.put_in_chunk.Goals as goal
use Rattle.lrs_ordered.proofs.insertion.put_in_chunk.Goals.{then-is_last+then-at-count, else-is_last}

pub returns-then-count-lt-MOST-clause-rows : goal.returns-then-count-lt-MOST-clause-rows
returns-then-count-lt-MOST-clause-rows g c =
    let before = g.T.Ordered.before in
    append-nil c.insert.new.self
    ∙ c.insert.ensures
    ∙ ap (λ k. insert c.args.chunk.now k c.args.row) c.place_of-at.ensures.place
    ∙ sym (insert_by-place before c.args.row c.args.chunk.now)

pub returns-clause-rows : goal.returns-clause-rows
returns-clause-rows g c =
    let before = g.T.Ordered.before in
    let row = c.args.row in
    let chunk = c.args.chunk.now in
    let placed = ap (λ k. insert chunk k row) c.place_of-at.ensures.place ∙ sym (insert_by-place before row chunk) in
    ap (λ l. c.if-is_last.chunk ++ l) (append-nil c.if-is_last.rear)
    ∙ elim c.if-is_last.branch [
      | then-is_last+then-at-count w ↦ (λ i. w.chunk-is i ++ w.rear-is i)
          ∙ ap (λ l. chunk ++ l) (w.push.ensures ∙ ap (λ l. l ++ row ∷ []) c.take_spare-rear.ensures.spare)
          ∙ sym (insert_end chunk row)
          ∙ ap (λ k. insert chunk k row) (sym (w.if-at-count.true ∙ c.len-count.ensures.len))
          ∙ placed
      | else-is_last w ↦ (λ i. w.chunk-is i ++ w.rear-is i) ∙ w.put_and_split.ensures.rows ∙ placed
    ]
