use Rattle.std.proofs.Common.{◌<◌, Option, ℕ, Some, ◌∙◌, sym, ap, subst, arith}
use Rattle.std.specs.BTreeMap.{get}
use Rattle.std.specs.Ordering.{nat_cmp}
use Rattle.lrs_inventory.proofs.Keyed.{past, IsCandidate, first_candidate, next_candidate, goes_back, is_place, is_nowhere}
use Rattle.lrs_inventory.proofs.keys.KeyIndex.find.Goals as goal

pub loop-candidate-init : goal.loop-candidate-init
loop-candidate-init c =
    subst (IsCandidate c.args.edits.now c.args.key.now) (sym (c.copied-candidate.ensures ∙ c.get.ensures.value ∙ ap (get nat_cmp c.args.self.now.newest) c.digest_of.ensures))
    (first_candidate c.args.edits.now c.args.key.now c.args.self.now c.requires.index)

pub loop-candidate-preserved : goal.loop-candidate-preserved
loop-candidate-preserved c =
    let here = subst (IsCandidate c.args.edits.now c.args.key.now) c.in-Some.is c.loop-candidate.invariant in
    subst (IsCandidate c.args.edits.now c.args.key.now) (sym (c.copied-candidate-in-Some.ensures ∙ c.get-in-Some.ensures.value))
    (next_candidate c.args.edits.now c.args.key.now c.args.self.now c.requires.index c.in-Some.place c.index-edits-place.result here (sym c.eq.ensures ∙ c.if-eq.false))

pub loop-candidate-smaller : goal.loop-candidate-smaller
loop-candidate-smaller c =
    let here = subst (IsCandidate c.args.edits.now c.args.key.now) c.in-Some.is c.loop-candidate.invariant in
    let back = goes_back c.args.edits.now c.args.key.now c.args.self.now c.requires.index c.in-Some.place here in
    subst (λ (o : Option ℕ). past c.copied-candidate-in-Some.result < past o) (sym c.in-Some.is)
    (subst (λ (o : Option ℕ). past o < past (Some c.in-Some.place)) (sym (c.copied-candidate-in-Some.ensures ∙ c.get-in-Some.ensures.value)) back)

pub returns-then-eq : goal.returns-then-eq
returns-then-eq c =
    let within = (subst (IsCandidate c.args.edits.now c.args.key.now) c.in-Some.is c.loop-candidate.invariant).within in
    sym (is_place c.args.edits.now c.args.key.now c.in-Some.place c.index-edits-place.result (omega (arith, within)) (sym c.eq.ensures ∙ c.if-eq.true) c.requires.once)

pub returns : goal.returns
returns c = sym (is_nowhere c.args.edits.now c.args.key.now (subst (IsCandidate c.args.edits.now c.args.key.now) c.in_default.is c.loop-candidate.invariant))
