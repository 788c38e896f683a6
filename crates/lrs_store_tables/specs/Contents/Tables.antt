-- The tables of a store as their rows stand there, in any order.
use Rattle.std.specs.Prelude.{ℕ, ℤ, List, [], IsPermutation}
use Rattle.lrs_measure.specs.Texts.{Name}

pub record LinkRow : Type 0 where
  pub number : ℤ
  pub length : ℤ

pub record ClassRow : Type 0 where
  pub name : Name
  pub kind : ℤ

pub record AssetRow : Type 0 where
  pub number : ℤ
  pub class : Name
  pub value : Name
  pub lateral : ℤ

-- the n-th piece of a route
pub record PieceRow : Type 0 where
  pub route : Name
  pub n : ℤ
  pub link : ℤ
  pub a : ℤ
  pub b : ℤ
  pub dir : ℤ

-- the n-th mark of a route
pub record MarkRow : Type 0 where
  pub route : Name
  pub n : ℤ
  pub chainage : ℤ
  pub measure : ℤ

pub record RefRow : Type 0 where
  pub name : Name
  pub route : Name
  pub place : ℤ

pub record SpanRow : Type 0 where
  pub asset : ℤ
  pub route : Name
  pub lo : ℤ
  pub hi : ℤ
  pub side : ℤ

pub record EnteredRow : Type 0 where
  pub edit : ℤ
  pub asset : ℤ
  pub link : ℤ
  pub lo : ℤ
  pub hi : ℤ
  pub side : ℤ

pub record GoneRow : Type 0 where
  pub cause : ℤ
  pub row : EnteredRow

pub record EditRow : Type 0 where
  pub number : ℤ
  pub token : Name
  pub line : List ℕ

-- the edit that entered an asset, in stores of version 2
pub record OriginRow : Type 0 where
  pub asset : ℤ
  pub edit : ℤ

pub record Tables : Type 0 where
  pub version : List ℤ
  pub link : List LinkRow
  pub class : List ClassRow
  pub asset : List AssetRow
  pub piece : List PieceRow
  pub mark : List MarkRow
  pub ref : List RefRow
  pub span : List SpanRow
  pub entered : List EnteredRow
  pub gone : List GoneRow
  pub edit : List EditRow
  pub origin : List OriginRow

-- a store without any row
abbrev pub no_rows : Tables
no_rows = record { version = []; link = []; class = []; asset = []; piece = []; mark = []; ref = []; span = []; entered = []; gone = []; edit = []; origin = [] }

-- the same rows, in any order
pub record AreSame (a b : Tables) : Type 0 where
  pub version : IsPermutation a.version b.version
  pub link : IsPermutation a.link b.link
  pub class : IsPermutation a.class b.class
  pub asset : IsPermutation a.asset b.asset
  pub piece : IsPermutation a.piece b.piece
  pub mark : IsPermutation a.mark b.mark
  pub ref : IsPermutation a.ref b.ref
  pub span : IsPermutation a.span b.span
  pub entered : IsPermutation a.entered b.entered
  pub gone : IsPermutation a.gone b.gone
  pub edit : IsPermutation a.edit b.edit
  pub origin : IsPermutation a.origin b.origin
