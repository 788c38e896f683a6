-- The first unsound table, by the tests that passed before it.
use Rattle.std.proofs.Common.{◌≡◌, Bool, true, false, cond, List, [], ◌∷◌, Option, Some, None, sym, ap, ◌∙◌}
use Rattle.lrs_machine.specs.declared.image.Image.{Image}
use Rattle.lrs_machine.specs.declared.table.Table.{Table}
use Rattle.lrs_machine.specs.declared.table.Table.TheVariants as table
use Rattle.lrs_machine.specs.Sound.{Test, first_failed, first_unsound, are_links, are_classes, are_assets, are_courses, are_all_referents, are_spans, are_entered, are_gone, are_edits, are_origins, courses_of, referents_of, spans_of}
use Rattle.lrs_image_sound.proofs.Fitting.{marks_fit}

-- the first table whose test fails
abbrev named : (links classes assets pieces referents spans entered gone edits origins : Bool) → Option Table
named a b c d e f g h k l =
    cond a
    (cond b
    (cond c (cond d (cond e (cond f (cond g (cond h (cond k (cond l None (Some table.Origin)) (Some table.Edit)) (Some table.Gone)) (Some table.Entered)) (Some table.Span)) (Some table.Ref)) (Some table.Piece)) (Some table.Asset))
    (Some table.Class))
    (Some table.Link)

module _ (i : Image) where
  abbrev pub links : Bool
  links = are_links i.links

  abbrev pub classes : Bool
  classes = are_classes i.classes

  abbrev pub assets : Bool
  assets = are_assets i.classes i.assets

  abbrev pub pieces : Bool
  pieces = are_courses i.links (courses_of i)

  abbrev pub referents : Bool
  referents = are_all_referents (referents_of i)

  abbrev pub spans : Bool
  spans = are_spans i.links i.classes i.assets (spans_of i)

  abbrev pub entered : Bool
  entered = are_entered i.links i.assets i.entered

  abbrev pub gone : Bool
  gone = are_gone i.links i.assets (spans_of i) i.entered i.gone

  abbrev pub edits : Bool
  edits = are_edits i.entered i.gone i.edits

  abbrev pub origins : Bool
  origins = are_origins i.entered i.assets

  -- the tests, where that of marks answers this
  abbrev with_marks : Bool → List Test
  with_marks b =
      record { table = table.Link; passes = links } ∷ record { table = table.Class; passes = classes } ∷ record { table = table.Asset; passes = assets } ∷ record { table = table.Piece; passes = pieces }
      ∷ record { table = table.Mark; passes = b } ∷ record { table = table.Ref; passes = referents } ∷ record { table = table.Span; passes = spans } ∷ record { table = table.Entered; passes = entered }
      ∷ record { table = table.Gone; passes = gone } ∷ record { table = table.Edit; passes = edits }
      ∷ record { table = table.Origin; passes = origins } ∷ []

  is_named : first_unsound i ≡ named links classes assets pieces referents spans entered gone edits origins
  unfolding first_unsound
  is_named = ap (λ b. first_failed (with_marks b)) (marks_fit i.routes)

  pub at_link : links ≡ false → Some table.Link ≡ first_unsound i
  at_link a = sym (is_named ∙ (λ j. named (a j) classes assets pieces referents spans entered gone edits origins))

  pub at_class : links ≡ true → classes ≡ false → Some table.Class ≡ first_unsound i
  at_class a b = sym (is_named ∙ (λ j. named (a j) (b j) assets pieces referents spans entered gone edits origins))

  pub at_asset : links ≡ true → classes ≡ true → assets ≡ false → Some table.Asset ≡ first_unsound i
  at_asset a b c = sym (is_named ∙ (λ j. named (a j) (b j) (c j) pieces referents spans entered gone edits origins))

  pub at_piece : links ≡ true → classes ≡ true → assets ≡ true → pieces ≡ false → Some table.Piece ≡ first_unsound i
  at_piece a b c d = sym (is_named ∙ (λ j. named (a j) (b j) (c j) (d j) referents spans entered gone edits origins))

  pub at_ref : links ≡ true → classes ≡ true → assets ≡ true → pieces ≡ true → referents ≡ false → Some table.Ref ≡ first_unsound i
  at_ref a b c d e = sym (is_named ∙ (λ j. named (a j) (b j) (c j) (d j) (e j) spans entered gone edits origins))

  pub at_span : links ≡ true → classes ≡ true → assets ≡ true → pieces ≡ true → referents ≡ true → spans ≡ false → Some table.Span ≡ first_unsound i
  at_span a b c d e f = sym (is_named ∙ (λ j. named (a j) (b j) (c j) (d j) (e j) (f j) entered gone edits origins))

  pub at_entered : links ≡ true → classes ≡ true → assets ≡ true → pieces ≡ true → referents ≡ true → spans ≡ true → entered ≡ false → Some table.Entered ≡ first_unsound i
  at_entered a b c d e f g = sym (is_named ∙ (λ j. named (a j) (b j) (c j) (d j) (e j) (f j) (g j) gone edits origins))

  pub at_gone : links ≡ true → classes ≡ true → assets ≡ true → pieces ≡ true → referents ≡ true → spans ≡ true → entered ≡ true → gone ≡ false → Some table.Gone ≡ first_unsound i
  at_gone a b c d e f g h = sym (is_named ∙ (λ j. named (a j) (b j) (c j) (d j) (e j) (f j) (g j) (h j) edits origins))

  pub at_edit : links ≡ true → classes ≡ true → assets ≡ true → pieces ≡ true → referents ≡ true → spans ≡ true → entered ≡ true → gone ≡ true → edits ≡ false → Some table.Edit ≡ first_unsound i
  at_edit a b c d e f g h k = sym (is_named ∙ (λ j. named (a j) (b j) (c j) (d j) (e j) (f j) (g j) (h j) (k j) origins))

  pub at_origin : links ≡ true → classes ≡ true → assets ≡ true → pieces ≡ true → referents ≡ true → spans ≡ true → entered ≡ true → gone ≡ true → edits ≡ true → origins ≡ false → Some table.Origin ≡ first_unsound i
  at_origin a b c d e f g h k l = sym (is_named ∙ (λ j. named (a j) (b j) (c j) (d j) (e j) (f j) (g j) (h j) (k j) (l j)))

  pub at_none : links ≡ true → classes ≡ true → assets ≡ true → pieces ≡ true → referents ≡ true → spans ≡ true → entered ≡ true → gone ≡ true → edits ≡ true → origins ≡ true → None ≡ first_unsound i
  at_none a b c d e f g h k l = sym (is_named ∙ (λ j. named (a j) (b j) (c j) (d j) (e j) (f j) (g j) (h j) (k j) (l j)))
