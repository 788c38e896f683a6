use Rattle.std.proofs.Common.{subst}
use Rattle.lrs_web_replies.proofs.Paging.{EndsPage, page_ended}
use Rattle.lrs_web_replies.specs.PagedText.{PageText}
use Rattle.lrs_web_replies.proofs.paged_text.PagedText.end.Goals as goal

pub returns : goal.returns
returns c =
    let inside : PageText = record { start = c.self.inside.start; page = c.self.inside.page; bytes = c.self.inside.bytes.items } in
    subst (λ (t : PageText). EndsPage c.end.result t) c.self.view_is (page_ended c.end.result inside c.end.ensures)
