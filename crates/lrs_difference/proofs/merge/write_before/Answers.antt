use Rattle.std.proofs.Common.{◌≡◌, ℕ, Bool, true, false, List, ap, sym, ◌∙◌, rules}
use Rattle.std.specs.List.{flat_map}
use Rattle.std.specs.Option.{option_copied}
use Rattle.lrs_difference.specs.declared.line.Sign.TheVariants.{Added}
use Rattle.lrs_difference.specs.Lines.{line_text}
use Rattle.lrs_report_lists.proofs.Writing.{leads_end, leads_next}
use Rattle.lrs_difference.proofs.Steps.{front}
use Rattle.lrs_difference.proofs.Passing.{behind_next, front_at, front_next, head_none}
use Rattle.lrs_difference.proofs.merge.write_before.Goals as goal

pub returns-then-not-is_before-clause-written : goal.returns-then-not-is_before-clause-written
returns-then-not-is_before-clause-written g c =
    let test : g.row.T.Denot → Bool = λ y. g.T.Ordered.before y c.args.entry.now in
    let text : List g.row.T.Denot → List ℕ = flat_map (λ y. line_text (record { sign = Added; item = g.T.Entry.item y })) in
    let no_more : test c.in-Some.first.now ≡ false = search rules in
    leads_end (g.W.Write.contents c.args.writer.now) (g.W.Write.contents c.loop-first.writer) (text (front test c.loop-first.rest)) (text (front test c.args.rest.now)) c.loop-first.invariant.written
    (ap text (front_at test c.loop-first.rest c.in-Some.first.now (sym c.first.ensures ∙ ap option_copied c.in-Some.is) no_more))

pub loop-first-preserved : goal.loop-first-preserved
loop-first-preserved g c =
    let test : g.row.T.Denot → Bool = λ y. g.T.Ordered.before y c.args.entry.now in
    let line : g.row.T.Denot → List ℕ = λ y. line_text (record { sign = Added; item = g.T.Entry.item y }) in
    let one_more : test c.in-Some.first.now ≡ true = search rules in
    let first = sym c.first.ensures ∙ ap option_copied c.in-Some.is in
    record {
      written = leads_next (g.W.Write.contents c.args.writer.now) (g.W.Write.contents c.loop-first.writer) (g.W.Write.contents c.write.new.writer) (line c.in-Some.first.now) (flat_map line (front test c.pass.new.self))
          (flat_map line (front test c.loop-first.rest)) (flat_map line (front test c.args.rest.now)) c.loop-first.invariant.written (ap (flat_map line) (front_next test c.loop-first.rest c.pass.new.self c.in-Some.first.now first one_more c.pass.ensures))
          c.in_ok-write.ensures;
      rest = sym (behind_next test c.loop-first.rest c.pass.new.self c.in-Some.first.now first one_more c.pass.ensures) ∙ c.loop-first.invariant.rest;
    }

pub returns-clause-written : goal.returns-clause-written
returns-clause-written g c =
    let test : g.row.T.Denot → Bool = λ y. g.T.Ordered.before y c.args.entry.now in
    let text : List g.row.T.Denot → List ℕ = flat_map (λ y. line_text (record { sign = Added; item = g.T.Entry.item y })) in
    leads_end (g.W.Write.contents c.args.writer.now) (g.W.Write.contents c.loop-first.writer) (text (front test c.loop-first.rest)) (text (front test c.args.rest.now)) c.loop-first.invariant.written
    (ap (λ xs. text (front test xs)) (head_none c.loop-first.rest (sym c.first.ensures ∙ ap option_copied c.in_default.is)))
