use Rattle.std.proofs.Common.{◌≡◌, ◌++◌, ◌∷◌, [], length, sym, ap, ◌∙◌, rules, arith}
use Rattle.std.specs.Vec.Iter.{into_iter_items, into_iter_len}
use Rattle.lrs_machine.specs.declared.image.Edit.{Edit}
use Rattle.lrs_store_image.proofs.Counted.{counting_from, counting_ends, counting_fails, counting_next}
use Rattle.lrs_store_image.proofs.edits.counted.Goals as goal

pub loop-numbered-init : goal.loop-numbered-init
loop-numbered-init c = (
  counting_from c.args.edits.items c.new-found.result.items (into_iter_items c.into_iter-numbered-iterator.result) c.new-found.ensures.items c.into_iter-numbered-iterator.ensures.into_iter_gives.0,
  search rules,
)

pub returns-else-follows : goal.returns-else-follows
returns-else-follows c =
    let at = c.loop-numbered in
    counting_fails c.args.edits.items at.found.items (into_iter_items at.numbered-iterator) at.invariant.0 c.in-Some.numbered (into_iter_items c.next.new.self) c.in-Some.ensures.steps.0 (search rules)

pub loop-numbered-preserved : goal.loop-numbered-preserved
loop-numbered-preserved c =
    let at = c.loop-numbered in
    let left = into_iter_items c.next.new.self in
    let steps : into_iter_items at.numbered-iterator ≡ c.in-Some.numbered ∷ left = c.in-Some.ensures.steps.0 in
    let gone = c.in-Some.ensures.steps.1 in
    let was = at.invariant.1 in
    let short = ap length steps in
    let said : c.in-Some.numbered.said ≡ c.numbered.inside.edit = search rules in (
      counting_next c.args.edits.items at.found.items (into_iter_items at.numbered-iterator) at.invariant.0 c.in-Some.numbered left steps c.push.new.self.items
          (c.in_ok-push.ensures.items ∙ ap (λ (e : Edit). at.found.items ++ e ∷ []) (sym said)) (search rules),
      omega (arith, gone, was, short),
    )

pub returns : goal.returns
returns c =
    let at = c.loop-numbered in
    let none : into_iter_len at.numbered-iterator ≡ 0 = search rules in
    counting_ends c.args.edits.items at.found.items (into_iter_items at.numbered-iterator) at.invariant.0 (sym at.invariant.1 ∙ none)
