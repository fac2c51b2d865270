-- Data texts, and lists of them as a domain has them.
use Rattle.std.specs.Prelude.{◌<◌, ◌^◌, List, length}
use Rattle.std.specs.List.{AllByRecursion}
use Rattle.std.specs.Str.{IsUtf8}
use Rattle.lrp_model.specs.Texts.{Text, FitsText, Ascends}

-- the bytes are a data text: UTF-8 within the limits
pub record IsDataText (t : Text) : Type 0 where
  pub fits : FitsText t
  pub utf8 : IsUtf8 t

-- the texts of a domain: data texts, each before every later one, fewer than 2 ^ 32
pub record IsDomain (texts : List Text) : Type 0 where
  pub whole : AllByRecursion IsDataText texts
  pub ascends : Ascends texts
  pub few : length texts < 2 ^ 32
