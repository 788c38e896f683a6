use Rattle.std.specs.Fmt.{decimal}
use Rattle.lrs_report.specs.Drawings.Labels.{mark_place, piece_label, piece_place, referent_place, row_place}
use Rattle.lrs_report.specs.Drawings.Shapes.{value_text}
use Rattle.lrs_report.proofs.Drawings.Apart.{are_labels}
use Rattle.lrs_report.proofs.diagrams.laws.labels_stand_apart.Goals as goal

pub returns : goal.returns
returns c = λ s. (
  λ rows. are_labels (row_place s) (λ r. value_text r.value) 0 rows,
  λ marks. are_labels (mark_place s) (λ m. decimal m.measure) 0 marks,
  λ referents. are_labels (referent_place s) (λ r. r.name) 0 referents,
  λ pieces. are_labels (piece_place s) piece_label 0 pieces,
)
