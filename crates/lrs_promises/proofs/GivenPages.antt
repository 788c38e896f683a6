-- The page that a query gives is one page.
use Rattle.std.proofs.Common.{◌≡◌, List, [], ◌∷◌, Option, Some, None, refl, sym, ap, ◌∙◌}
use Rattle.lrs_machine.specs.Lines.{Text}
use Rattle.lrs_web_requests.specs.Text.{Answer}
use Rattle.lrs_web_replies.specs.Pages.{CannotPage, GivesPage, SaysClassValue, SaysFields, SaysKey, SaysNumberValue, SaysReferentValue, SaysRouteValue, SaysSideValue, SaysValue, fields_behind, first_field}
use Rattle.lrs_web_replies.specs.Replies.{unpaged}
use Rattle.lrs_web_replies.specs.declared.pages.KeyField.{KeyField}
use Rattle.lrs_web_replies.specs.declared.pages.KeyMember.{KeyMember}
use Rattle.lrs_web_replies.specs.declared.pages.KeyMember.TheVariants as member
use Rattle.lrs_web_replies.specs.declared.pages.KeyValue.{KeyValue}
use Rattle.lrs_web_replies.specs.declared.pages.KeyValue.TheVariants as value
use Rattle.lrs_web_replies.specs.declared.pages.Page.{Page}
use Rattle.lrs_web_replies.specs.declared.pages.PageFault.{PageFault}
use Rattle.lrs_web_replies.specs.declared.pages.PageFault.TheVariants as why
use Rattle.lrs_promises.proofs.Parameters.{one_class, one_if_given, one_number, one_route, one_side}

one_number_value : (text : Text) (v w : KeyValue) → SaysNumberValue text v → SaysNumberValue text w → v ≡ w
one_number_value text (value.Number n) (value.Number k) h g = ap value.Number (one_number _ _ text n k h g)
one_number_value text (value.Number n) (value.Route r) h g = absurd g
one_number_value text (value.Number n) (value.Class c) h g = absurd g
one_number_value text (value.Number n) (value.Side s) h g = absurd g
one_number_value text (value.Number n) (value.Referent f) h g = absurd g
one_number_value text (value.Route r) w h g = absurd h
one_number_value text (value.Class c) w h g = absurd h
one_number_value text (value.Side s) w h g = absurd h
one_number_value text (value.Referent f) w h g = absurd h

one_route_value : (text : Text) (v w : KeyValue) → SaysRouteValue text v → SaysRouteValue text w → v ≡ w
one_route_value text (value.Route r) (value.Route q) h g = ap value.Route (one_route text r q h g)
one_route_value text (value.Route r) (value.Number n) h g = absurd g
one_route_value text (value.Route r) (value.Class c) h g = absurd g
one_route_value text (value.Route r) (value.Side s) h g = absurd g
one_route_value text (value.Route r) (value.Referent f) h g = absurd g
one_route_value text (value.Number n) w h g = absurd h
one_route_value text (value.Class c) w h g = absurd h
one_route_value text (value.Side s) w h g = absurd h
one_route_value text (value.Referent f) w h g = absurd h

one_class_value : (text : Text) (v w : KeyValue) → SaysClassValue text v → SaysClassValue text w → v ≡ w
one_class_value text (value.Class c) (value.Class d) h g = ap value.Class (one_class text c d h g)
one_class_value text (value.Class c) (value.Number n) h g = absurd g
one_class_value text (value.Class c) (value.Route r) h g = absurd g
one_class_value text (value.Class c) (value.Side s) h g = absurd g
one_class_value text (value.Class c) (value.Referent f) h g = absurd g
one_class_value text (value.Number n) w h g = absurd h
one_class_value text (value.Route r) w h g = absurd h
one_class_value text (value.Side s) w h g = absurd h
one_class_value text (value.Referent f) w h g = absurd h

one_side_value : (text : Text) (v w : KeyValue) → SaysSideValue text v → SaysSideValue text w → v ≡ w
one_side_value text (value.Side s) (value.Side t) h g = ap value.Side (one_side text s t h g)
one_side_value text (value.Side s) (value.Number n) h g = absurd g
one_side_value text (value.Side s) (value.Route r) h g = absurd g
one_side_value text (value.Side s) (value.Class c) h g = absurd g
one_side_value text (value.Side s) (value.Referent f) h g = absurd g
one_side_value text (value.Number n) w h g = absurd h
one_side_value text (value.Route r) w h g = absurd h
one_side_value text (value.Class c) w h g = absurd h
one_side_value text (value.Referent f) w h g = absurd h

one_referent_value : (text : Text) (v w : KeyValue) → SaysReferentValue text v → SaysReferentValue text w → v ≡ w
one_referent_value text (value.Referent f) (value.Referent e) h g = ap value.Referent (h.0 ∙ sym g.0)
one_referent_value text (value.Referent f) (value.Number n) h g = absurd g
one_referent_value text (value.Referent f) (value.Route r) h g = absurd g
one_referent_value text (value.Referent f) (value.Class c) h g = absurd g
one_referent_value text (value.Referent f) (value.Side s) h g = absurd g
one_referent_value text (value.Number n) w h g = absurd h
one_referent_value text (value.Route r) w h g = absurd h
one_referent_value text (value.Class c) w h g = absurd h
one_referent_value text (value.Side s) w h g = absurd h

one_value : (m : KeyMember) (text : Text) (v w : KeyValue) → SaysValue m text v → SaysValue m text w → v ≡ w
one_value member.Route = one_route_value
one_value member.Name = one_route_value
one_value member.Link = one_number_value
one_value member.Class = one_class_value
one_value member.Ref = one_referent_value
one_value member.Chainage = one_number_value
one_value member.From = one_number_value
one_value member.Side = one_side_value
one_value member.Asset = one_number_value

one_fields : (key : List KeyMember) (rest : Option Text) (fs gs : List KeyField) → SaysFields key rest fs → SaysFields key rest gs → fs ≡ gs
one_fields [] None [] [] h x = refl
one_fields [] None [] (g ∷ gs) h x = absurd x
one_fields [] None (f ∷ fs) gs h x = absurd h
one_fields [] (Some text) [] gs h x = absurd h
one_fields [] (Some text) (f ∷ fs) gs h x = absurd h
one_fields (m ∷ ms) None [] gs h x = absurd h
one_fields (m ∷ ms) None (f ∷ fs) gs h x = absurd h
one_fields (m ∷ ms) (Some text) [] gs h x = absurd h
one_fields (m ∷ ms) (Some text) (f ∷ fs) [] h x = absurd x
one_fields (m ∷ ms) (Some text) (f ∷ fs) (g ∷ gs) h x =
    let named : f.member ≡ g.member = h.0.0 ∙ sym x.0.0 in
    let told : f.value ≡ g.value = one_value m (first_field text) f.value g.value h.0.1 x.0.1 in
    let rest = one_fields ms (fields_behind text) fs gs h.1 x.1 in
    λ k. record { member = named k; value = told k } ∷ rest k

pub one_page : (key : Option (List KeyMember)) (query : Text) (p q : Page) → GivesPage key query p → GivesPage key query q → p ≡ q
one_page None query p q h g = h ∙ sym g
one_page (Some key) query p q h g =
    let limit = one_if_given _ (one_number _ _) _ p.limit q.limit h.0 g.0 in
    let after = one_if_given (SaysKey key) (λ text. one_fields key (Some text)) _ p.after q.after h.1 g.1 in
    λ k. record { limit = limit k; after = after k }

-- a page that is given is not one that is not
pub page_or_fault : (key : Option (List KeyMember)) (query : Text) (page : Page) (fault : PageFault) → GivesPage key query page → CannotPage key query fault → (fault ≡ why.Memory → ⊥) → ⊥
page_or_fault key query page why.Memory gives cannot never = never refl
page_or_fault None query page why.Limit gives cannot never = cannot
page_or_fault None query page why.After gives cannot never = cannot
page_or_fault (Some key) query page why.Limit gives cannot never = cannot page.limit gives.0
page_or_fault (Some key) query page why.After gives cannot never = cannot.1 page.after gives.1

-- why it is not is one reason
pub one_fault : (key : Option (List KeyMember)) (query : Text) (e f : PageFault) → CannotPage key query e → CannotPage key query f → (e ≡ why.Memory → ⊥) → (f ≡ why.Memory → ⊥) → e ≡ f
one_fault key query why.Memory f h g never also = absurd (never refl)
one_fault key query why.Limit why.Memory h g never also = absurd (also refl)
one_fault key query why.After why.Memory h g never also = absurd (also refl)
one_fault key query why.Limit why.Limit h g never also = refl
one_fault key query why.After why.After h g never also = refl
one_fault None query why.Limit why.After h g never also = absurd h
one_fault None query why.After why.Limit h g never also = absurd h
one_fault (Some key) query why.Limit why.After h g never also = absurd (h g.0.0 g.0.1)
one_fault (Some key) query why.After why.Limit h g never also = absurd (g h.0.0 h.0.1)

-- memory did not run out where something is answered
pub served_fault : (answer : Answer) (fault : PageFault) → (answer.status ≡ 503 → ⊥) → answer ≡ unpaged fault → fault ≡ why.Memory → ⊥
served_fault answer fault served is memory = served (ap (λ (a : Answer). a.status) (is ∙ ap unpaged memory))
