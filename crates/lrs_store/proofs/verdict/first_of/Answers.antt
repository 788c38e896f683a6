use Rattle.std.proofs.Common.{nat_lt}
use Rattle.lrs_store_tables.specs.StoredRows.{version_in, link_in, class_in, asset_in, piece_in, mark_in, ref_in, span_in, entered_in, gone_in, edit_in, origin_in}
use Rattle.lrs_store.proofs.JudgedLemmas.{said_if}
use Rattle.lrs_store.proofs.verdict.first_of.Goals as goal

pub returns : goal.returns
returns c = λ j. record {
  version = said_if version_in (nat_lt 0 c.args.count) c.args.rows.named.version.items c.rows_if.result.items c.rows_if.ensures j;
  link = said_if link_in (nat_lt 1 c.args.count) c.args.rows.named.link.items c.rows_if-2.result.items c.rows_if-2.ensures j;
  class = said_if class_in (nat_lt 2 c.args.count) c.args.rows.named.class.items c.rows_if-3.result.items c.rows_if-3.ensures j;
  asset = said_if asset_in (nat_lt 3 c.args.count) c.args.rows.named.asset.items c.rows_if-4.result.items c.rows_if-4.ensures j;
  piece = said_if piece_in (nat_lt 4 c.args.count) c.args.rows.routes.piece.items c.rows_if-5.result.items c.rows_if-5.ensures j;
  mark = said_if mark_in (nat_lt 5 c.args.count) c.args.rows.routes.mark.items c.rows_if-6.result.items c.rows_if-6.ensures j;
  ref = said_if ref_in (nat_lt 6 c.args.count) c.args.rows.routes.referent.items c.rows_if-7.result.items c.rows_if-7.ensures j;
  span = said_if span_in (nat_lt 7 c.args.count) c.args.rows.routes.span.items c.rows_if-8.result.items c.rows_if-8.ensures j;
  entered = said_if entered_in (nat_lt 8 c.args.count) c.args.rows.ledgers.entered.items c.rows_if-9.result.items c.rows_if-9.ensures j;
  gone = said_if gone_in (nat_lt 9 c.args.count) c.args.rows.ledgers.gone.items c.rows_if-10.result.items c.rows_if-10.ensures j;
  edit = said_if edit_in (nat_lt 10 c.args.count) c.args.rows.ledgers.edit.items c.rows_if-11.result.items c.rows_if-11.ensures j;
  origin = said_if origin_in (nat_lt 11 c.args.count) c.args.rows.ledgers.origin.items c.rows_if-12.result.items c.rows_if-12.ensures j;
}
