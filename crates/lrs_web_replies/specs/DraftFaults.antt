-- Why no sheet is drafted, as JSON: the name of the error, and a sentence.
use Rattle.std.specs.Prelude.{[], ◌∷◌, codes}
use Rattle.serde_json.specs.Data.{Data, string}
use Rattle.lrs_machine.specs.Lines.{Text}
use Rattle.lrs_web_requests.specs.Text.{Answer}
use Rattle.lrs_web_replies.specs.JsonParts.{with}
use Rattle.lrs_web_replies.specs.Replies.{json_answer}

-- the name of an error, and a sentence that says why
abbrev pub explained_data : Text → Text → Data
explained_data cause why = with ((codes "error", string cause) ∷ (codes "why", string why) ∷ [])

-- the words say no draft
abbrev pub bad_draft : Text → Answer
bad_draft why = json_answer 400 (explained_data (codes "BadDraft") why)

-- what they say cannot be done
abbrev pub not_drafted : Text → Answer
not_drafted why = json_answer 409 (explained_data (codes "NotDrafted") why)
