-- The bytes of a reply (RFC 9112, section 4).
use Rattle.std.specs.Prelude.{ℕ, List, [], ◌∷◌, ◌++◌, length, Option, Some, None, option_map, unwrap_or, codes, decimal}
use Rattle.http.specs.StatusCode.{code_digits, reason_phrase}
use Rattle.lrs_web_requests.specs.declared.response.ContentType.{ContentType}
use Rattle.lrs_web_requests.specs.declared.response.ContentType.TheVariants.{Json, Csv, Svg, Html}
use Rattle.lrs_web_requests.specs.declared.response.RequestMethod.{RequestMethod}
use Rattle.lrs_web_requests.specs.declared.response.RequestMethod.TheVariants.{Get, Post}
use Rattle.lrs_web_requests.specs.declared.response.Content.{Content}
use Rattle.lrs_web_requests.specs.declared.response.Response.{Response}

-- a reply without where it lies in memory
pub record Answer : Type 0 where
  pub status : ℕ
  pub content_type : Option ContentType
  pub allow : Option RequestMethod
  pub body : List ℕ

-- a status and nothing else
abbrev pub empty_answer : ℕ → Answer
empty_answer status = record { status = status; content_type = None; allow = None; body = [] }

abbrev pub crlf : List ℕ
crlf = 13 ∷ 10 ∷ []

abbrev pub media_type : ContentType → List ℕ
media_type Json = codes "application/json"
media_type Csv = codes "text/csv"
media_type Svg = codes "image/svg+xml"
media_type Html = codes "text/html; charset=utf-8"

-- What a browser is told of a page: it loads nothing from elsewhere, asks nobody but this service, and stands in no frame. (The page says itself which script it has.)
abbrev pub page_policy : List ℕ
page_policy =
    codes "Content-Security-Policy: default-src 'none'; style-src 'unsafe-inline'; script-src 'unsafe-inline'; img-src data:; connect-src 'self'; form-action 'none'; base-uri 'none'; frame-ancestors 'none'\r\nX-Content-Type-Options: nosniff\r\nX-Frame-Options: DENY\r\n"

abbrev pub policy : ContentType → List ℕ
policy Html = page_policy
policy kind = []

abbrev pub method_name : RequestMethod → List ℕ
method_name Get = codes "GET"
method_name Post = codes "POST"

abbrev pub status_line : ℕ → List ℕ
status_line status = codes "HTTP/1.1 " ++ code_digits status ++ codes " " ++ unwrap_or (reason_phrase status) [] ++ crlf

abbrev pub content_type_line : Option ContentType → List ℕ
content_type_line None = []
content_type_line (Some kind) = codes "Content-Type: " ++ media_type kind ++ crlf ++ policy kind

abbrev pub allow_line : Option RequestMethod → List ℕ
allow_line None = []
allow_line (Some verb) = codes "Allow: " ++ method_name verb ++ crlf

abbrev pub content_length_line : ℕ → List ℕ
content_length_line length = codes "Content-Length: " ++ decimal length ++ crlf

abbrev pub connection_line : List ℕ
connection_line = codes "Connection: close" ++ crlf

-- the status line, the fields, and the empty line
unfoldable pub head_text : Answer → List ℕ
head_text a =
    status_line a.status ++ content_type_line a.content_type ++ allow_line a.allow
    ++ content_length_line (length a.body) ++ (connection_line ++ crlf)

abbrev pub answer_text : Answer → List ℕ
answer_text a = head_text a ++ a.body

abbrev pub content_body : Option Content → List ℕ
content_body None = []
content_body (Some content) = content.bytes.items

-- what a reply says
abbrev pub answer_of : Response → Answer
answer_of reply = record {
  status = reply.status;
  content_type = option_map (λ content. content.kind) reply.content;
  allow = reply.allow;
  body = content_body reply.content;
}
