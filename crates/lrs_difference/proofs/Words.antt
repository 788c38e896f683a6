-- Words between spaces, written one after another.
use Rattle.std.proofs.Common.{◌≡◌, ℕ, ◌+◌, ◌<◌, Bool, true, false, Option, List, [], ◌∷◌, ◌++◌, map, take, length, append_assoc, append-nil, sym, ap, subst, ◌∙◌}
use Rattle.std.specs.Prelude.{codes, if◌then◌else◌, nat_eq, slice_index_or}
use Rattle.std.specs.Fmt.{decimal}
use Rattle.std.specs.Io.KnownBytes.{Appends}
use Rattle.lrs_events.specs.Names.{kind_text, side_text}
use Rattle.lrs_machine.specs.Lines.{Text, fields, marks_text, pieces_text, words}
use Rattle.lrs_machine.specs.Texts.{after_words}
use Rattle.lrs_machine.proofs.Words.{one_more}
use Rattle.lrs_report_lists.specs.CoursePieces.{pieces_of}
use Rattle.lrs_report_lists.specs.Lines.{csv_line}
use Rattle.lrs_report_lists.proofs.Writing.{appends_more}
use Rattle.lrs_difference.specs.declared.line.Item.{Item}
use Rattle.lrs_difference.specs.declared.line.Item.TheVariants.{Link, Class, Route, Referent, Asset, Holds}
use Rattle.lrs_difference.specs.Lines.{asset_fields, item_fields}

behind : (b : Bool) (before word : Text) → (before ++ (if b then [] else 32 ∷ [])) ++ word ≡ after_words b before word
behind true before word = ap (λ (t : Text). t ++ word) (append-nil before)
behind false before word = append_assoc before (32 ∷ []) word

module _ {X : Type 0} (text : X → Text) where
  -- one more word behind those before it
  pub word_next : (xs : List X) (i : ℕ) (x : X) (a b c d : Option (List ℕ)) → i < length xs → Appends a b (words (map text (take i xs))) → Appends b c (if nat_eq i 0 then [] else 32 ∷ []) → Appends c d (text (slice_index_or xs i x))
      → Appends a d (words (map text (take (i + 1) xs)))
  word_next xs i x a b c d low before space one =
      let so_far = words (map text (take i xs)) in
      let spaced = appends_more a b c so_far (if nat_eq i 0 then [] else 32 ∷ []) before space in
      let whole = appends_more a c d (so_far ++ (if nat_eq i 0 then [] else 32 ∷ [])) (text (slice_index_or xs i x)) spaced one in
      let e = behind (nat_eq i 0) so_far (text (slice_index_or xs i x)) ∙ sym (one_more text xs i x low) in
      subst (λ (t : List ℕ). Appends a d t) e whole

-- ---- lines, by their parts

pub route_parts : (a n p m : Text) → ((((a ++ 44 ∷ (n ++ 44 ∷ [])) ++ p) ++ 44 ∷ []) ++ m) ++ 10 ∷ [] ≡ csv_line (a ∷ n ∷ p ∷ m ∷ [])
route_parts a n p m = simp append_assoc

led : (s f : Text) (fs : List Text) → (s ++ 44 ∷ []) ++ csv_line (f ∷ fs) ≡ csv_line (s ∷ f ∷ fs)
led s f fs = append_assoc s (44 ∷ []) (csv_line (f ∷ fs)) ∙ sym (append_assoc s (44 ∷ fields (f ∷ fs)) (10 ∷ []))

-- a field before those of an item
pub sign_first : (s : Text) (x : Item) → (s ++ 44 ∷ []) ++ csv_line (item_fields x) ≡ csv_line (s ∷ item_fields x)
sign_first s (Link number length) = led s (codes "link") (decimal number ∷ decimal length ∷ [])
sign_first s (Class name kind) = led s (codes "class") (name ∷ kind_text kind ∷ [])
sign_first s (Route name course marks) = led s (codes "route") (name ∷ pieces_text (pieces_of course) ∷ marks_text marks ∷ [])
sign_first s (Referent name link mm) = led s (codes "ref") (name ∷ decimal link ∷ decimal mm ∷ [])
sign_first s (Asset a) = led s (codes "asset") (asset_fields a)
sign_first s (Holds a link from to side) = led s (codes "holds") (asset_fields a ++ decimal link ∷ decimal from ∷ decimal to ∷ side_text side ∷ [])
