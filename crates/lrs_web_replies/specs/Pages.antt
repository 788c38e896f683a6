-- Pages of a list: the entries behind a key, and at most so many of them.
use Rattle.std.specs.Prelude.{◌≡◌, ⊤, ℕ, ◌-◌, ◌^◌, Bool, true, false, ◌==◌, ◌+◌, if◌then◌else◌, List, [], ◌∷◌, ◌++◌, codes, bytes_eq, drop, filter, take, option_and_then, option_map, unwrap_or, Option, None, Some, IsTrue}
use Rattle.std.specs.List.{list_any, position}
use Rattle.std.specs.Option.{option_map_or}
use Rattle.std.specs.Ordering.{match_ordering, nat_cmp}
use Rattle.std.specs.declared.cmp.Ordering.{Ordering}
use Rattle.std.specs.declared.cmp.Ordering.TheVariants.{Equal}
use Rattle.serde_json.specs.Data.{Data}
use Rattle.serde_json.specs.Find.{as_number, as_str, as_u64, get}
use Rattle.lrs_measure.specs.Texts.{Name, name_cmp}
use Rattle.lrs_position.specs.Names.{is_referent_name}
use Rattle.lrs_events.specs.declared.side.Side.{Side}
use Rattle.lrs_events.specs.declared.side.Side.TheVariants.{L, R, B}
use Rattle.lrs_web_requests.specs.Query.{parameter, switched, unknown_name}
use Rattle.lrs_web_requests.specs.declared.paths.Format.{Format}
use Rattle.lrs_web_requests.specs.declared.paths.Format.TheVariants.{Json}
use Rattle.lrs_web_requests.specs.declared.paths.Resource.{Resource}
use Rattle.lrs_web_requests.specs.declared.paths.Resource.TheVariants as path
use Rattle.lrs_web_replies.specs.Questions.{Text, known_names, passes_over, SaidIfGiven, SaysClass, SaysNumber, SaysRoute, SaysSide}
use Rattle.lrs_web_replies.specs.declared.pages.KeyField.{KeyField}
use Rattle.lrs_web_replies.specs.declared.pages.KeyMember.{KeyMember}
use Rattle.lrs_web_replies.specs.declared.pages.KeyMember.TheVariants as member
use Rattle.lrs_web_replies.specs.declared.pages.KeyValue.{KeyValue}
use Rattle.lrs_web_replies.specs.declared.pages.KeyValue.TheVariants as value
use Rattle.lrs_web_replies.specs.declared.pages.Page.{Page}
use Rattle.lrs_web_replies.specs.declared.pages.PageFault.{PageFault}
use Rattle.lrs_web_replies.specs.declared.pages.PageFault.TheVariants as fault

-- ---- the order of entries

abbrev pub member_text : KeyMember → Text
member_text member.Route = codes "route"
member_text member.Name = codes "name"
member_text member.Link = codes "link"
member_text member.Class = codes "class"
member_text member.Ref = codes "ref"
member_text member.Chainage = codes "chainage"
member_text member.From = codes "from"
member_text member.Side = codes "side"
member_text member.Asset = codes "asset"

-- the left side, then the right one, then both
abbrev pub side_place : Side → ℕ
side_place L = 0
side_place R = 1
side_place B = 2

abbrev pub side_text_place : Text → ℕ
side_text_place text = if bytes_eq text (codes "L") then 0 else (if bytes_eq text (codes "R") then 1 else 2)

-- how a field of a key stands to what is shown: numbers by their values, names by their bytes, sides in their order
abbrev pub value_order : KeyValue → Data → Ordering
value_order (value.Number n) shown = option_map_or (λ m. nat_cmp n m) (option_and_then as_u64 (as_number shown)) Equal
value_order (value.Route name) shown = option_map_or (λ text. name_cmp name text) (as_str shown) Equal
value_order (value.Class name) shown = option_map_or (λ text. name_cmp name text) (as_str shown) Equal
value_order (value.Referent name) shown = option_map_or (λ text. name_cmp name text) (as_str shown) Equal
value_order (value.Side side) shown = option_map_or (λ text. nat_cmp (side_place side) (side_text_place text)) (as_str shown) Equal

-- how it stands to the member of an entry that has its name
abbrev pub field_order : KeyField → Data → Ordering
field_order f entry = option_map_or (λ shown. value_order f.value shown) (get (member_text f.member) entry) Equal

-- an entry is behind a key where the first member that differs is greater
abbrev pub is_behind : List KeyField → Data → Bool
is_behind [] entry = false
is_behind (f ∷ fs) entry = match_ordering (field_order f entry) true (is_behind fs entry) false

-- ---- pages

-- every entry is admitted where no key is given, and else those behind it
abbrev pub is_admitted : Option (List KeyField) → Data → Bool
is_admitted None entry = true
is_admitted (Some key) entry = is_behind key entry

abbrev pub at_most : Option ℕ → List Data → List Data
at_most None entries = entries
at_most (Some limit) entries = take limit entries

-- the entries that are admitted, and of them at most so many
abbrev pub paged : Page → List Data → List Data
paged page entries = at_most page.limit (filter (is_admitted page.after) entries)

-- all entries
abbrev pub whole : Page
whole = record { limit = None; after = None }

-- ---- what a query gives

-- whether rows are told on the links under them
abbrev pub is_on_links : Text → Bool
is_on_links query = unwrap_or (switched (codes "on_links") query) false

-- the members that make the key of an entry of a list, in their order; none where a list is not told in pages
abbrev pub key_of : Format → Resource → Text → Option (List KeyMember)
key_of Json path.Routes query = Some (member.Name ∷ [])
key_of Json path.Links query = Some (member.Link ∷ [])
key_of Json path.Classes query = Some (member.Class ∷ [])
key_of Json path.Refs query = Some (member.Route ∷ member.Ref ∷ [])
key_of Json path.Marks query = Some (member.Route ∷ member.Chainage ∷ [])
key_of Json path.Pieces query = Some (member.Route ∷ member.From ∷ [])
key_of Json path.Rows query =
    if is_on_links query then None
    else Some (member.Route ∷ member.From ∷ member.Side ∷ member.Class ∷ member.Asset ∷ [])
key_of Json path.Overlay query = Some (member.Route ∷ member.Side ∷ member.From ∷ [])
key_of _ _ query = None

-- a field says a whole number, the name of a route, of a class or of a referent, or a side
abbrev pub SaysNumberValue : Text → KeyValue → Type 0
SaysNumberValue text (value.Number number) = SaysNumber 0 (2 ^ 64 - 1) text number
SaysNumberValue text _ = ⊥

abbrev pub SaysRouteValue : Text → KeyValue → Type 0
SaysRouteValue text (value.Route name) = SaysRoute text name
SaysRouteValue text _ = ⊥

abbrev pub SaysClassValue : Text → KeyValue → Type 0
SaysClassValue text (value.Class name) = SaysClass text name
SaysClassValue text _ = ⊥

abbrev pub SaysReferentValue : Text → KeyValue → Type 0
SaysReferentValue text (value.Referent name) = (name ≡ text) × IsTrue (is_referent_name text)
SaysReferentValue text _ = ⊥

abbrev pub SaysSideValue : Text → KeyValue → Type 0
SaysSideValue text (value.Side side) = SaysSide text side
SaysSideValue text _ = ⊥

-- it says what a member shows
abbrev pub SaysValue : KeyMember → Text → KeyValue → Type 0
SaysValue member.Route text value = SaysRouteValue text value
SaysValue member.Name text value = SaysRouteValue text value
SaysValue member.Link text value = SaysNumberValue text value
SaysValue member.Class text value = SaysClassValue text value
SaysValue member.Ref text value = SaysReferentValue text value
SaysValue member.Chainage text value = SaysNumberValue text value
SaysValue member.From text value = SaysNumberValue text value
SaysValue member.Side text value = SaysSideValue text value
SaysValue member.Asset text value = SaysNumberValue text value

abbrev pub SaysField : KeyMember → Text → KeyField → Type 0
SaysField m text f = (f.member ≡ m) × SaysValue m text f.value

-- where the first comma of a text stands
abbrev pub comma_place : Text → Option ℕ
comma_place text = position (λ byte. byte == 44) text

-- what stands before the first comma, and what behind it
abbrev pub first_field : Text → Text
first_field text = option_map_or (λ place. take place text) (comma_place text) text

abbrev pub fields_behind : Text → Option Text
fields_behind text = option_map (λ place. drop (place + 1) text) (comma_place text)

-- fields between commas say a key: one for each of its members, in their order
abbrev pub SaysFields : List KeyMember → Option Text → List KeyField → Type 0
SaysFields [] None [] = ⊤
SaysFields (m ∷ ms) (Some text) (f ∷ fs) = SaysField m (first_field text) f × SaysFields ms (fields_behind text) fs
SaysFields _ _ _ = ⊥

abbrev pub SaysKey : List KeyMember → Text → List KeyField → Type 0
SaysKey key text = SaysFields key (Some text)

abbrev pub GivesLimit : Text → Option ℕ → Type 0
GivesLimit query = SaidIfGiven (SaysNumber 1 (2 ^ 64 - 1)) (parameter (codes "limit") query)

abbrev pub GivesAfter : List KeyMember → Text → Option (List KeyField) → Type 0
GivesAfter key query = SaidIfGiven (SaysKey key) (parameter (codes "after") query)

-- the page that a query gives of a list with this key; all of it where it is not told in pages
abbrev pub GivesPage : Option (List KeyMember) → Text → Page → Type 0
GivesPage None query page = page ≡ whole
GivesPage (Some key) query page = GivesLimit query page.limit × GivesAfter key query page.after

-- why it gives none: the limit cannot be read, or it can and the key cannot
abbrev pub CannotPage : Option (List KeyMember) → Text → PageFault → Type 0
CannotPage key query fault.Memory = ⊤
CannotPage (Some key) query fault.Limit = (limit : Option ℕ) → GivesLimit query limit → ⊥
CannotPage (Some key) query fault.After = ((limit : Option ℕ) × GivesLimit query limit) × ((after : Option (List KeyField)) → GivesAfter key query after → ⊥)
CannotPage _ query _ = ⊥

abbrev pub page_fault_text : PageFault → Text
page_fault_text fault.Limit = codes "limit"
page_fault_text fault.After = codes "after"
page_fault_text fault.Memory = []

-- the names of the two parameters, where a list is told in pages
abbrev pub both_names : List Text
both_names = codes "limit" ∷ codes "after" ∷ []

abbrev pub page_names : Option (List KeyMember) → List Text
page_names None = []
page_names (Some key) = both_names

-- ---- what is not known

-- the first parameter of a query that its path does not know, besides these, where it does not pass over it
abbrev pub unknown_among : List Text → Resource → Text → Option Text
unknown_among others resource query =
    if passes_over resource then None else unknown_name (λ name. list_any (λ known. bytes_eq name known) (known_names resource ++ others)) query

abbrev pub unknown_in : Format → Resource → Text → Option Text
unknown_in format resource query = unknown_among (page_names (key_of format resource query)) resource query
