-- What spans and ledgers are tested for, once the tables before have passed.
use Rattle.std.proofs.Common.{◌≡◌, Bool, true, false, List, refl, sym, ◌∙◌}
use Rattle.std.specs.Prelude.{◌&&◌, nat_le}
use Rattle.std.specs.List.{AllByRecursion, list_all}
use Rattle.std.proofs.lemmas.Bool.{and_parts}
use Rattle.std.proofs.lemmas.List.Folds.{list_all-map}
use Rattle.lrs_measure.specs.Lists.{each_two}
use Rattle.lrs_element.specs.declared.link.Link.{Link}
use Rattle.lrs_events.specs.declared.class.Class.{Class}
use Rattle.lrs_events.specs.declared.class.Asset.{Asset}
use Rattle.lrs_events.specs.declared.part.Part.{Part}
use Rattle.lrs_events.specs.declared.part.Gone.{Gone}
use Rattle.lrs_machine.specs.declared.image.RouteRow.{RouteRow}
use Rattle.lrs_measure.specs.Limits.{most_pairs}
use Rattle.lrs_events.specs.Parts.{part_before}
use Rattle.lrs_machine.specs.Sound.{RouteSpans, gone_before, is_part, share_nothing, pairs_of, are_parts, parts_of, are_courses, are_entered, are_gone, are_balanced, are_spans, are_spans_of, keeps_exclusive}
use Rattle.lrs_machine.proofs.SoundImages.{and_three}
use Rattle.lrs_image_sound.specs.SweptParts.{IsFilled}
use Rattle.lrs_image_sound.specs.Balance.{AreHeld, IsLedger}
use Rattle.lrs_image_sound.specs.HeldParts.{AreOfRoutes}
use Rattle.lrs_image_sound.specs.Tables.{route_courses, route_spans, fits_route}
use Rattle.lrs_image_sound.proofs.Balancing.{filled}
use Rattle.lrs_image_sound.proofs.Rowed.{are_held, of_entry}

-- ---- spans

module _ (links : List Link) (classes : List Class) (assets : List Asset) (routes : List RouteRow) where
  abbrev exclusive : Bool
  exclusive = list_all (keeps_exclusive links assets (route_spans routes)) classes

  fitting : list_all (are_spans_of assets) (route_spans routes) ≡ list_all (fits_route assets) routes
  fitting = list_all-map (are_spans_of assets) of_entry routes

  pub spans_fail : list_all (fits_route assets) routes ≡ false → false ≡ are_spans links classes assets (route_spans routes)
  spans_fail h = sym (λ j. (fitting ∙ h) j && exclusive)

  pub spans_answer : (held : List Part) (kept : Bool) → list_all (fits_route assets) routes ≡ true → are_courses links (route_courses routes) ≡ true → AllByRecursion IsFilled held → AreOfRoutes (route_spans routes) held
      → (AreHeld links assets (route_spans routes) held → kept ≡ exclusive) → kept ≡ are_spans links classes assets (route_spans routes)
  spans_answer held kept fit courses full are answer = answer (are_held links assets routes courses fit held full are) ∙ sym (λ j. (fitting ∙ fit) j && exclusive)

  pub rows_fit : are_spans links classes assets (route_spans routes) ≡ true → list_all (fits_route assets) routes ≡ true
  rows_fit h = sym fitting ∙ (and_parts (list_all (are_spans_of assets) (route_spans routes)) exclusive h).0

-- ---- ledgers

module _ (links : List Link) (assets : List Asset) where
  three_of : (parts : List Part) → are_parts links assets parts ≡ true
      → (list_all (is_part links assets) parts ≡ true) × (each_two share_nothing parts ≡ true) × (list_all (λ a. nat_le (pairs_of a.number parts) most_pairs) assets ≡ true)
  three_of parts h = and_three (list_all (is_part links assets) parts) (each_two share_nothing parts) (list_all (λ a. nat_le (pairs_of a.number parts) most_pairs) assets) h

  pub filled_of : (parts : List Part) → are_parts links assets parts ≡ true → AllByRecursion IsFilled parts
  filled_of parts h = filled links assets parts (three_of parts h).0

  pub parts_entered : (entered : List Part) → are_entered links assets entered ≡ true → are_parts links assets entered ≡ true
  parts_entered entered h = (and_parts (each_two part_before entered) (are_parts links assets entered) h).1

  ledger_of : (parts : List Part) → are_parts links assets parts ≡ true → IsLedger links assets parts
  ledger_of parts h = let all = three_of parts h in record { inside = all.0; apart = all.1 }

  pub gone_fail : (routes : List RouteSpans) (entered : List Part) (gone : List Gone) → are_parts links assets (parts_of gone) ≡ false → false ≡ are_gone links assets routes entered gone
  gone_fail routes entered gone h = sym (second (each_two gone_before gone) (are_parts links assets (parts_of gone)) (are_balanced links assets routes entered (parts_of gone)) h)
    where
      second : (a b c : Bool) → b ≡ false → (a && b && c) ≡ false
      second true b c h = λ j. h j && c
      second false b c h = refl

  pub gone_answer : (routes : List RouteRow) (held entered : List Part) (gone : List Gone) (balanced : Bool) → each_two gone_before gone ≡ true → are_parts links assets (parts_of gone) ≡ true
      → are_courses links (route_courses routes) ≡ true → list_all (fits_route assets) routes ≡ true → are_entered links assets entered ≡ true → AllByRecursion IsFilled held → AreOfRoutes (route_spans routes) held
      → (AreHeld links assets (route_spans routes) held → IsLedger links assets entered → IsLedger links assets (parts_of gone) → balanced ≡ are_balanced links assets (route_spans routes) entered (parts_of gone))
      → balanced ≡ are_gone links assets (route_spans routes) entered gone
  gone_answer routes held entered gone balanced up parts courses fit ledger full are answer =
      answer (are_held links assets routes courses fit held full are) (ledger_of entered (parts_entered entered ledger)) (ledger_of (parts_of gone) parts)
      ∙ sym (λ j. up j && parts j && are_balanced links assets (route_spans routes) entered (parts_of gone))
