-- What a question is answered over HTTP, for the image that is kept.
use Rattle.std.specs.Prelude.{◌≡◌, Result, Ok, Err}
use Rattle.serde_json.specs.Data.{Data}
use Rattle.lrs_machine.specs.declared.image.Image.{Image}
use Rattle.lrs_machine.specs.declared.question.Question.{Question}
use Rattle.lrs_report_answers.specs.declared.fault.AskFault.{AskFault}
use Rattle.lrs_report_answers.specs.declared.told.Told.{Told}
use Rattle.lrs_report_answers.specs.declared.told.Told.TheVariants as told
use Rattle.lrs_report_answers.specs.Combinations.{combinations_text}
use Rattle.lrs_report_answers.specs.ToldAnswers.{IsTold}
use Rattle.lrs_report.specs.Drawings.Pictures.{diagram_text}
use Rattle.lrs_report_lists.specs.Length.Lines.{lengths_text}
use Rattle.lrs_web_requests.specs.Text.{Answer}
use Rattle.lrs_web_requests.specs.declared.paths.Format.{Format}
use Rattle.lrs_web_replies.specs.Answers.{at_data, ShowsRoute, segments_data, translated_data, on_link_data, totals_data, found_data, whereabouts_data, lengths_data, health_data}
use Rattle.lrs_web_replies.specs.Combinations.{combinations_data}
use Rattle.lrs_web_replies.specs.Listings.{in_format, listing_answer, rows_answer}
use Rattle.lrs_web_replies.specs.Overlay.{overlay_answer}
use Rattle.lrs_web_replies.specs.declared.pages.Page.{Page}
use Rattle.lrs_web_replies.specs.Replies.{json_answer, svg_answer, refusal}

-- The table: the reply to each answer. A list, rows, an overlay and lengths are in the format that is asked for, the log is an edit sheet, a diagram a picture, and any other answer JSON.
abbrev pub ShowsTold : Format → Page → Told → Answer → Type 0
ShowsTold format page (told.At route found) answer = answer ≡ json_answer 200 (at_data route found.at found.ground found.hits)
ShowsTold format page (told.Route route) answer = (d : Data) × ShowsRoute route d × (answer ≡ json_answer 200 d)
ShowsTold format page (told.Segments route side len classes segments) answer = answer ≡ json_answer 200 (segments_data route side segments)
ShowsTold format page (told.Translated route e) answer = answer ≡ json_answer 200 (translated_data route e)
ShowsTold format page (told.OnLink route link distance) answer = answer ≡ json_answer 200 (on_link_data route (link, distance))
ShowsTold format page (told.Diagram diagram) answer = answer ≡ svg_answer (diagram_text diagram)
ShowsTold format page (told.Totals totals) answer = answer ≡ json_answer 200 (totals_data totals)
ShowsTold format page (told.Found rows) answer = answer ≡ json_answer 200 (found_data rows)
ShowsTold format page (told.Where w) answer = answer ≡ json_answer 200 (whereabouts_data w)
ShowsTold format page (told.Lengths lengths) answer = answer ≡ in_format format (lengths_data lengths) (lengths_text lengths)
ShowsTold format page (told.Combinations classes cs) answer = answer ≡ in_format format (combinations_data classes cs) (combinations_text classes cs)
ShowsTold format page (told.Rows w inventory) answer = answer ≡ rows_answer format page inventory.now w
ShowsTold format page (told.Overlay w inventory) answer = answer ≡ overlay_answer format page inventory.now w
ShowsTold format page (told.Listing l inventory) answer = answer ≡ listing_answer format page inventory.now l
ShowsTold format page (told.Health edits) answer = answer ≡ json_answer 200 (health_data edits)

-- A page of what is told is shown, or why nothing is told.
abbrev pub IsReplyTo : Format → Page → Result Told AskFault → Answer → Type 0
IsReplyTo format page (Ok t) answer = ShowsTold format page t answer
IsReplyTo format page (Err fault) answer = answer ≡ refusal fault

-- What the inventory of this image tells to a question is the reply.
abbrev pub AnswersQuestion : Format → Page → Image → Question → Answer → Type 0
AnswersQuestion format page i q answer = (said : Result Told AskFault) × IsTold i q said × IsReplyTo format page said answer
