-- The text of a list of which a page is told, as it is written item by item.
use Rattle.std.specs.Prelude.{ℕ, ◌-◌, Bool, false, not, ◌&&◌, if◌then◌else◌, nat_eq, List, [], ◌∷◌, ◌++◌, length, option_map, Option, None, Some}
use Rattle.serde_json.specs.Data.{Data}
use Rattle.lrs_web_replies.specs.Parts.{front_text, item_text}
use Rattle.lrs_web_replies.specs.Pages.{is_admitted}
use Rattle.lrs_web_replies.specs.Questions.{Text}
use Rattle.lrs_web_replies.specs.declared.pages.Page.{Page}

-- The text of a list up to its end: where its items begin, what of the page is still to come, and the bytes
pub record PageText : Type 0 where
  pub start : ℕ
  pub page : Page
  pub bytes : Text

-- before its first item
abbrev pub begun : Text → Page → PageText
begun name page = record { start = length (front_text name); page = page; bytes = front_text name }

abbrev pub is_none_left : Option ℕ → Bool
is_none_left None = false
is_none_left (Some left) = nat_eq left 0

abbrev pub one_less : Option ℕ → Option ℕ
one_less limit = option_map (λ left. left - 1) limit

abbrev pub is_told : Page → Data → Bool
is_told page entry = not (is_none_left page.limit) && is_admitted page.after entry

-- an entry is added
abbrev pub with_entry : PageText → Data → PageText
with_entry t entry = record { start = t.start; page = record { limit = one_less t.page.limit; after = t.page.after }; bytes = t.bytes ++ item_text entry }

-- it is added where the page has it
abbrev pub add_one : PageText → Data → PageText
add_one t entry = if is_told t.page entry then with_entry t entry else t

-- entries are, one behind the other
abbrev pub add_all : PageText → List Data → PageText
add_all t [] = t
add_all t (entry ∷ entries) = add_all (add_one t entry) entries
