use Rattle.lrs_measure.specs.Texts.{Name}
use Rattle.lrs_events.specs.Names.{is_class_name, is_value}
use Rattle.lrs_events.specs.declared.class.Asset.{Asset}
use Rattle.lrs_store_tables.proofs.SaidRows.{both_only}
use Rattle.lrs_store_tables.proofs.decode.asset.Goals as goal

pub returns : goal.returns
returns c =
    let make : Name → Name → Asset = λ class value. record { number = c.args.number; class = class; value = value; lateral = c.args.lateral; entered_by = 0 } in
    both_only (is_class_name c.args.class.now) (is_value c.args.text.now) c.args.class.now c.in_ok-class.class c.args.text.now c.in_ok-value.value make c.in_ok-class.ensures c.in_ok-value.ensures
