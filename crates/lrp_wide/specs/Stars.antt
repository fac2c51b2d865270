-- Files in which a `*` is never the variable of a quantifier or of an operator.
use Rattle.std.specs.Prelude.{◌≢◌}
use Rattle.std.specs.List.{AllByRecursion}
use Rattle.lrp_model.specs.QueryMeaning.{star_name}
use Rattle.lrp_model.specs.RawQueries.{RawForm, RawForms, RawDefinitionView, RawFileView, raw_atom, raw_compare, raw_member, raw_not, raw_and, raw_or, raw_implies, raw_group, raw_exists, raw_forall, raw_ranged, raw_paired, no_raws, raw}

-- no variable that it binds is named as a `*`
abbrev mutual
  pub BindsNoStar : RawForm → Type 0
  BindsNoStar (raw_atom p n ts) = Unit {0}
  BindsNoStar (raw_compare p l op r) = Unit {0}
  BindsNoStar (raw_member p t point) = Unit {0}
  BindsNoStar (raw_not p f) = BindsNoStar f
  BindsNoStar (raw_and p fs) = BindNoStar fs
  BindsNoStar (raw_or p fs) = BindNoStar fs
  BindsNoStar (raw_implies p f g) = BindsNoStar f × BindsNoStar g
  BindsNoStar (raw_group p f) = BindsNoStar f
  BindsNoStar (raw_exists p c f) = (c.name ≢ star_name) × BindsNoStar f
  BindsNoStar (raw_forall p c f) = (c.name ≢ star_name) × BindsNoStar f
  BindsNoStar (raw_ranged word o from to f) = (o.name ≢ star_name) × BindsNoStar f
  BindsNoStar (raw_paired word o f g) = (o.name ≢ star_name) × (BindsNoStar f × BindsNoStar g)

  pub BindNoStar : RawForms → Type 0
  BindNoStar no_raws = Unit {0}
  BindNoStar (raw f fs) = BindsNoStar f × BindNoStar fs

abbrev pub DefinesNoStar : RawDefinitionView → Type 0
DefinesNoStar d = BindsNoStar d.body

-- each text of a file
pub record NamesNoStar (f : RawFileView) : Type 0 where
  pub definitions : AllByRecursion DefinesNoStar f.definitions
  pub query : BindsNoStar f.query.body
