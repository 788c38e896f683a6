use Rattle.std.proofs.Common.{◌≡◌, true, ◌++◌, refl, ap, sym, subst, ◌∙◌}
use Rattle.std.specs.List.{flat_map, list_all}
use Rattle.std.proofs.lemmas.Bool.{and_parts}
use Rattle.lrs_measure.specs.Lists.{each_two}
use Rattle.lrs_report_lists.proofs.Writing.{leads_next}
use Rattle.lrs_difference.proofs.Steps.{added_line, at_end, front, passed, passed_order, step, text_between, unless}
use Rattle.lrs_difference.proofs.Passing.{leads_last}
use Rattle.lrs_difference.proofs.merge.write_between.Goals as goal

pub loop-entry-preserved : goal.loop-entry-preserved
loop-entry-preserved g c =
    let before = g.T.Ordered.before in
    let same = g.T.Entry.same in
    let item = g.T.Entry.item in
    let k = c.requires.by_key in
    let x = c.in-Some.entry.now in
    let xs = c.next.new.self in
    let ys = c.loop-entry.rest in
    let mid = c.write_before.new.rest in
    let new = c.write_unless_same.new.rest in
    let text = text_between before same item k in
    let first = flat_map (added_line before same item k) (front (λ y. before y x) ys) in
    let left = subst (λ zs. each_two before zs ≡ true) c.in-Some.ensures.steps c.loop-entry.invariant.left in
    let right = c.loop-entry.invariant.right in
    let to_mid = c.in_ok-write_before.ensures.rest in
    let to_new = c.in_ok-write_unless_same.ensures.rest in
    let whole : text c.loop-entry.entry-iterator ys ≡ first ++ (unless before same item k x mid ++ text xs new) =
    ap (λ zs. text zs ys) c.in-Some.ensures.steps
    ∙ step before same item k x xs ys left right
    ∙ ap (λ zs. first ++ (unless before same item k x zs ++ text xs (passed before same item k x zs))) (sym to_mid)
    ∙ ap (λ zs. first ++ (unless before same item k x mid ++ text xs zs)) (sym to_new) in
    let start = g.W.Write.contents c.args.writer.now in
    let now = g.W.Write.contents c.loop-entry.writer in
    let between = g.W.Write.contents c.write_before.new.writer in
    let end = g.W.Write.contents c.write_unless_same.new.writer in
    let all = text c.args.left.now.rows c.args.right.now.rows in
    let one = leads_next start now between first (unless before same item k x mid ++ text xs new) (text c.loop-entry.entry-iterator ys) all c.loop-entry.invariant.written whole c.in_ok-write_before.ensures.written in
    record {
      written = leads_next start between end (unless before same item k x mid) (text xs new) (unless before same item k x mid ++ text xs new) all one refl c.in_ok-write_unless_same.ensures.written;
      left = (and_parts (list_all (before x) xs) (each_two before xs) left).1;
      right = subst (λ zs. each_two before zs ≡ true) (ap (passed before same item k x) (sym to_mid) ∙ sym to_new) (passed_order before same item k x xs ys right);
    }

pub returns : goal.returns
returns g c =
    let before = g.T.Ordered.before in
    let same = g.T.Entry.same in
    let item = g.T.Entry.item in
    let k = c.requires.by_key in
    let text = text_between before same item k in
    leads_last c.write_added.result (g.W.Write.contents c.args.writer.now) (g.W.Write.contents c.loop-entry.writer) (g.W.Write.contents c.write_added.new.writer) (text c.loop-entry.entry-iterator c.loop-entry.rest)
    (flat_map (added_line before same item k) c.loop-entry.rest) (text c.args.left.now.rows c.args.right.now.rows) c.loop-entry.invariant.written
    (ap (λ zs. text zs c.loop-entry.rest) c.in-None.ensures.steps.0 ∙ at_end before same item k c.loop-entry.rest) c.write_added.ensures
