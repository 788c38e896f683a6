use Rattle.std.proofs.Common.{◌≡◌, ◌⊎◌, inl, inr, ℕ, List, [], None, sym, ap, subst, ◌∙◌}
use Rattle.std.proofs.lemmas.Option.{none-some}
use Rattle.std.specs.Borrow.{Bor}
use Rattle.std.specs.Io.KnownBytes.{Appends}
use Rattle.lrs_measure.specs.Texts.{Name}
use Rattle.lrs_position.specs.declared.route.Route.{Route}
use Rattle.lrs_machine.specs.declared.image.Image.{Image}
use Rattle.lrs_machine.specs.declared.question.Listing.{Listing}
use Rattle.lrs_machine.specs.declared.question.OverlayWanted.{OverlayWanted}
use Rattle.lrs_machine.specs.declared.question.RowsWanted.{RowsWanted}
use Rattle.lrs_machine.specs.declared.total.Total.{Total}
use Rattle.lrs_report.specs.declared.diagrams.diagram.Diagram.{Diagram}
use Rattle.lrs_report_lists.specs.declared.length_lists.table.ValueLength.{ValueLength}
use Rattle.lrs_report_lists.proofs.Writing.{appends_none}
use Rattle.lrs_report_answers.specs.declared.combinations.Combination.{Combination}
use Rattle.lrs_report_answers.specs.declared.told.Told.{Told}
use Rattle.lrs_report_answers.specs.declared.told.Told.TheVariants as told
use Rattle.lrs_sheet_questions.specs.Lines.{told_lines}
use Rattle.lrs_sheet_questions.specs.Lists.{list_kind}
use Rattle.lrs_sheet_questions.specs.declared.kind.ListKind.TheVariants as kind
use Rattle.lrs_sheet_questions.proofs.Listed.{unlisted}
use Rattle.lrs_sheet_questions.proofs.lines.write_told.Goals as goal

-- what no sheet asks is told in no line
untold : (key : List ℕ) (t : Told)
    → ((x : Route) × (t ≡ told.Route x)) ⊎ ((x : Diagram) × (t ≡ told.Diagram x)) ⊎ ((x : List Total) × (t ≡ told.Totals x)) ⊎ ((x : List ValueLength) × (t ≡ told.Lengths x))
    ⊎ ((x : List Name) × (y : List Combination) × (t ≡ told.Combinations x y))
    ⊎ ((x : RowsWanted) × (y : Bor Image) × (t ≡ told.Rows x y)) ⊎ ((x : OverlayWanted) × (y : Bor Image) × (t ≡ told.Overlay x y))
    ⊎ ((x : Listing) × (y : Bor Image) × (t ≡ told.Listing x y)) ⊎ ((x : ℕ) × (t ≡ told.Health x))
    → list_kind t ≡ None → told_lines key t ≡ []
untold key t (inl (x, is)) none = ap (told_lines key) is
untold key t (inr (inl (x, is))) none = ap (told_lines key) is
untold key t (inr (inr (inl (x, is)))) none = ap (told_lines key) is
untold key t (inr (inr (inr (inl (x, is))))) none = absurd (none-some kind.Lengths (sym none ∙ ap list_kind is))
untold key t (inr (inr (inr (inr (inl (x, y, is)))))) none = ap (told_lines key) is
untold key t (inr (inr (inr (inr (inr (inl (x, y, is))))))) none = absurd (none-some kind.Rows (sym none ∙ ap list_kind is))
untold key t (inr (inr (inr (inr (inr (inr (inl (x, y, is)))))))) none = absurd (none-some kind.Overlay (sym none ∙ ap list_kind is))
untold key t (inr (inr (inr (inr (inr (inr (inr (inl (x, y, is))))))))) none = ap (told_lines key) is ∙ unlisted key x y.now (sym (ap list_kind is) ∙ none)
untold key t (inr (inr (inr (inr (inr (inr (inr (inr (x, is))))))))) none = ap (told_lines key) is

pub returns : goal.returns
returns g c =
    let writer = g.W.Write.contents c.args.writer.now in
    subst (λ (lines : List ℕ). Appends writer writer lines) (sym (untold c.args.key c.args.told c.in-Route.is c.requires.no_list)) (appends_none writer)
