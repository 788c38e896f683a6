use Rattle.lrs_sheet_log.proofs.RouteRecords.{route_sheets_read}
use Rattle.lrs_sheet_log.proofs.laws.route_sheets_read.Goals as goal

pub returns : goal.returns
returns c = route_sheets_read
