-- Whatever ends a sheet or a request, commands were done in order.
use Rattle.std.proofs.Common.{◌≡◌, inl, inr, [], ◌++◌, Result, sym, ap, ◌∙◌}
use Rattle.lrs_machine.specs.Image.{state_of}
use Rattle.lrs_machine.specs.Lines.{Text}
use Rattle.lrs_machine.specs.Machine.{state_after}
use Rattle.lrs_machine.specs.State.{State}
use Rattle.lrs_machine.specs.declared.answer.Limits.{Limits}
use Rattle.lrs_machine.specs.declared.image.Image.{Image}
use Rattle.lrs_machine.specs.declared.table.Table.{Table}
use Rattle.lrs_desk.specs.DeskView.{DeskView}
use Rattle.lrs_sheet.specs.Sheets.{IsAfterCommands}
use Rattle.lrs_web_requests.specs.Request.{Asked, refused, not_allowed, page, query, sheet as posted}
use Rattle.lrs_web_requests.specs.Text.{Answer}
use Rattle.lrs_web_requests.specs.declared.request.Course.{Course}
use Rattle.lrs_web_requests.specs.declared.request.Course.TheVariants as course
use Rattle.lrs_web.specs.RequestAnswers.{Does, DoesPosted, posted_at}
use Rattle.lrs_web.specs.declared.request.Posted.{Posted}
use Rattle.lrs_web.specs.declared.request.Posted.TheVariants as post
use Rattle.lrs_promises.proofs.Given.{state_both}

-- nothing was done
pub none_after : (limits : Limits) (before after : State) → after ≡ before → IsAfterCommands limits before after
none_after limits before after same = ([], same)

pub both_after : (limits : Limits) (before middle after : State) → IsAfterCommands limits before middle → IsAfterCommands limits middle after → IsAfterCommands limits before after
both_after limits before middle after (xs, first) (ys, second) = (xs ++ ys, second ∙ ap (state_after limits ys) first ∙ sym (state_both limits xs ys before))

module _ {K : Type 0} (holds : K → Result Image Table → Type 0) (old new : DeskView K) where
  same_after : new ≡ old → IsAfterCommands old.limits (state_of old.image) (state_of new.image)
  same_after same = none_after old.limits (state_of old.image) (state_of new.image) (ap (λ (d : DeskView K). state_of d.image) same)

  -- what is posted is some commands in order
  posted_after : (what : Posted) (way : Course) (body : Text) (answer : Answer) → DoesPosted holds what way body old answer new → IsAfterCommands old.limits (state_of old.image) (state_of new.image)
  posted_after post.Questions way body answer (same, told, ahead) = same_after same
  posted_after (post.Trial kind) way body answer (same, told, ahead) = same_after same
  posted_after (post.Draft kind) way body answer (same, told, ahead) = same_after same
  posted_after (post.Sheet kind) course.EachRecord body answer (ended, lines, run, is) = run.left
  posted_after (post.Sheet kind) course.BehindLast body answer (inl (ended, lines, run, is)) = run.left
  posted_after (post.Sheet kind) course.BehindLast body answer (inr (twice, repeated, same, is)) = same_after same
  posted_after (post.Sheet kind) course.AllOrNone body answer (inl (behind, replies, outcome, tried, inl (accepted, (ended, lines, run, is)))) = run.left
  posted_after (post.Sheet kind) course.AllOrNone body answer (inl (behind, replies, outcome, tried, inr (not_accepted, same, is))) = same_after same
  posted_after (post.Sheet kind) course.AllOrNone body answer (inr (same, is)) = same_after same

  -- so is what a request asks for
  pub does_after : (asked : Asked) (answer : Answer) → Does holds asked old answer new → IsAfterCommands old.limits (state_of old.image) (state_of new.image)
  does_after (refused status) answer does = same_after does.0
  does_after (not_allowed verb) answer does = same_after does.0
  does_after (page text) answer does = same_after does.0
  does_after (query resource format argument) answer does = same_after does.0
  does_after (posted resource way body) answer does = posted_after (posted_at resource) way body answer does
