use Rattle.std.proofs.Common.{◌≡◌, Bool, true, false, refl, ap, ◌∙◌}
use Rattle.std.specs.Prelude.{◌||◌, ◌&&◌, nat_eq}
use Rattle.lrs_events.specs.Spans.{holds_by_span}
use Rattle.lrs_verbs.proofs.verbs.enter.entered_parts.Goals as goal

or_nothing : (b : Bool) → (b || false) ≡ b
or_nothing true = refl
or_nothing false = refl

pub returns : goal.returns
returns c =
    let course = c.args.course.now in
    let row = c.args.row.now in
    record {
      edit_is = c.in_ok-entered.ensures.edit;
      pairs = λ m asset p. c.in_ok-entered.ensures.pairs m asset p ∙ ap (λ b. nat_eq m c.args.edit && b) (or_nothing (holds_by_span course row asset p));
      once = c.in_ok-entered.ensures.once c.requires.once;
      order = c.in_ok-entered.ensures.order c.requires.once;
      filled = c.in_ok-entered.ensures.filled;
    }
