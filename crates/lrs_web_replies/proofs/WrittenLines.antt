-- A list as CSV is its lines.
use Rattle.std.proofs.Common.{◌≡◌, refl, ap, ◌∙◌}
use Rattle.lrs_machine.specs.Lines.{Text}
use Rattle.lrs_machine.specs.declared.image.Image.{Image}
use Rattle.lrs_machine.specs.declared.question.Listing.{Listing}
use Rattle.lrs_machine.specs.declared.question.Listing.TheVariants as listing
use Rattle.lrs_web_requests.specs.Text.{Answer}
use Rattle.lrs_web_requests.specs.declared.paths.Format.TheVariants.{Csv}
use Rattle.lrs_web_replies.specs.Listings.{listing_answer, listing_text}
use Rattle.lrs_web_replies.specs.Replies.{csv_answer}
use Rattle.lrs_web_replies.specs.declared.pages.Page.{Page}

lines_of : (page : Page) (i : Image) (l : Listing) → csv_answer (listing_text i l) ≡ listing_answer Csv page i l
lines_of page i listing.Routes = refl
lines_of page i listing.Links = refl
lines_of page i listing.Classes = refl
lines_of page i (listing.Refs route exact) = refl
lines_of page i (listing.Marks route) = refl
lines_of page i (listing.Pieces route) = refl
lines_of page i (listing.Gone wanted) = refl
lines_of page i (listing.History asset) = refl
lines_of page i (listing.Log from until) = refl
lines_of page i (listing.LogOfKey key) = refl

-- a reply with the lines of a list is the list as CSV
pub as_lines : (page : Page) (i : Image) (l : Listing) (lines : Text) (answer : Answer) → lines ≡ listing_text i l → answer ≡ csv_answer lines → answer ≡ listing_answer Csv page i l
as_lines page i l lines answer same is = is ∙ ap csv_answer same ∙ lines_of page i l
