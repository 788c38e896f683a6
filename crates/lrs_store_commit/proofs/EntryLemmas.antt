-- Changes that are entries, and their rows.
use Rattle.std.proofs.Common.{◌≡◌, List, [], ◌∷◌, ◌++◌, length, ◌<◌, Option, Some, None, refl, ap, ap₂, ◌∙◌, arith}
use Rattle.std.specs.List.{AllByRecursion}
use Rattle.lrs_measure.specs.Texts.{Name}
use Rattle.lrs_element.specs.declared.link.Link.{Link}
use Rattle.lrs_element.specs.declared.link.Ground.{Ground}
use Rattle.lrs_element.specs.declared.marks.Mark.{Mark}
use Rattle.lrs_position.specs.declared.route.Referent.{Referent}
use Rattle.lrs_events.specs.declared.class.Class.{Class}
use Rattle.lrs_events.specs.declared.class.Asset.{Asset}
use Rattle.lrs_events.specs.declared.span.Span.{Span}
use Rattle.lrs_events.specs.declared.part.Part.{Part}
use Rattle.lrs_events.specs.declared.part.Gone.{Gone}
use Rattle.lrs_machine.specs.declared.image.RouteRow.{RouteRow}
use Rattle.lrs_image.specs.declared.change.RouteChange.{RouteChange}
use Rattle.lrs_image.specs.declared.change.Difference.{Difference}
use Rattle.lrs_image.specs.declared.change.Change.{Change}
use Rattle.lrs_image.specs.Change.{no_difference}
use Rattle.lrs_store_commit.specs.NewAssets.{with_one_span, BringsOneSpan, BringsOneAsset, IsNewAsset}

-- what is true of all is true of one more
pub all_more : {X : Type 0} (P : X → Type 0) (xs : List X) (x : X) → AllByRecursion P xs → P x → AllByRecursion P (xs ++ x ∷ [])
all_more P [] x all one = (one, tt)
all_more P (y ∷ ys) x all one = (all.0, all_more P ys x all.1 one)

pub record IsAlone {X : Type 0} (xs : List X) : Type 0 where
  pub one : X
  pub is : xs ≡ one ∷ []

pub alone : {X : Type 0} (xs : List X) → length xs ≡ 1 → IsAlone xs
alone [] is = absurd (omega (arith, is))
alone (x ∷ []) is = record { one = x; is = refl }
alone (x ∷ y ∷ more) is = absurd (omega (arith, is))

pub none_left : {X : Type 0} (xs : List X) → length xs ≡ 0 → xs ≡ []
none_left [] is = refl
none_left (x ∷ xs) is = absurd (omega (arith, is))

-- a change of a route by its fields
same_change : (route name : Name) (course : Option (List Ground)) (marks : Option (List Mark)) (refs : List Name) (spans : List Span) (gone : List Name) (come : List Referent) (spans_gone spans_come : List Span) (span : Span)
    → name ≡ route → course ≡ None → marks ≡ None → refs ≡ [] → spans ≡ [] → gone ≡ [] → come ≡ [] → spans_gone ≡ [] → spans_come ≡ span ∷ []
    → ◌≡◌ {A = RouteChange} (record { route = route; name = name; keys = record { refs = refs; spans = spans }; course = course; marks = marks; refs = record { gone = gone; come = come }; spans_gone = spans_gone; spans_come = spans_come }) (with_one_span route span)
same_change route name course marks refs spans gone come spans_gone spans_come span a b c d e f g h k = rw (a, b, c, d, e, f, g, h, k)

pub brings_span : (r : RouteChange) → r.name ≡ r.route → r.course ≡ None → r.marks ≡ None → length r.keys.refs ≡ 0 → length r.keys.spans ≡ 0 → length r.refs.gone ≡ 0 → length r.refs.come ≡ 0 → length r.spans_gone ≡ 0 → length r.spans_come ≡ 1 → BringsOneSpan r
brings_span r name course marks refs spans gone come spans_gone spans_come =
    let one = alone r.spans_come spans_come in
    record { span = one.one; is = same_change r.route r.name r.course r.marks r.keys.refs r.keys.spans r.refs.gone r.refs.come r.spans_gone r.spans_come one.one name course marks (none_left r.keys.refs refs) (none_left r.keys.spans spans) (none_left r.refs.gone gone) (none_left r.refs.come come) (none_left r.spans_gone spans_gone) one.is }

same_difference : (link : Option Link) (class : Option Class) (asset : Option Asset) (changed : Option RouteChange) (dropped : Option Name) (refs : List Name) (spans : List Span) (made : Option RouteRow) (entered : List Part) (gone : List Gone) (a : Asset)
    → link ≡ None → class ≡ None → asset ≡ Some a → dropped ≡ None → refs ≡ [] → spans ≡ [] → made ≡ None → gone ≡ []
    → ◌≡◌ {A = Difference} (record { link = link; class = class; asset = asset; changed = changed; dropped = dropped; keys = record { refs = refs; spans = spans }; made = made; entered = entered; gone = gone }) (record no_difference { asset = Some a; changed = changed; entered = entered })
same_difference link class asset changed dropped refs spans made entered gone a h i j k l m n o = rw (h, i, j, k, l, m, n, o)

pub brings_asset : (d : Difference) (a : Asset) → d.link ≡ None → d.class ≡ None → d.asset ≡ Some a → d.dropped ≡ None → length d.keys.refs ≡ 0 → length d.keys.spans ≡ 0 → d.made ≡ None → length d.gone ≡ 0 → BringsOneAsset d
brings_asset d a link class asset dropped refs spans made gone =
    record { asset = a; is = same_difference d.link d.class d.asset d.changed d.dropped d.keys.refs d.keys.spans d.made d.entered d.gone a link class asset dropped (none_left d.keys.refs refs) (none_left d.keys.spans spans) made (none_left d.gone gone) }

pub record IsSome {X : Type 0} (xs : List X) : Type 0 where
  pub first : X
  pub others : List X
  pub is : xs ≡ first ∷ others

pub not_empty : {X : Type 0} (xs : List X) → 0 < length xs → IsSome xs
not_empty [] some = absurd (omega (arith, some))
not_empty (x ∷ xs) some = record { first = x; others = xs; is = refl }

pub enters : (c : Change) (r : RouteChange) → c.difference.changed ≡ Some r → 0 < length c.difference.entered → BringsOneSpan r → BringsOneAsset c.difference → IsNewAsset c
enters c r changed some spanned named =
    let parts = not_empty c.difference.entered some in
    record {
      asset = named.asset;
      route = r.route;
      span = spanned.span;
      first = parts.first;
      others = parts.others;
      is = named.is ∙ ap₂ (λ (o : Option RouteChange) (ps : List Part). record no_difference { asset = Some named.asset; changed = o; entered = ps }) (changed ∙ ap Some spanned.is) parts.is;
    }

-- what an entry has
pub its_asset : (c : Change) (h : IsNewAsset c) → c.difference.asset ≡ Some h.asset
its_asset c h = ap (λ (d : Difference). d.asset) h.is

pub its_change : (c : Change) (h : IsNewAsset c) → c.difference.changed ≡ Some (with_one_span h.route h.span)
its_change c h = ap (λ (d : Difference). d.changed) h.is

pub its_parts : (c : Change) (h : IsNewAsset c) → c.difference.entered ≡ h.first ∷ h.others
its_parts c h = ap (λ (d : Difference). d.entered) h.is
