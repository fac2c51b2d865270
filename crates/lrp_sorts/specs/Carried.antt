-- What a query has of the raw query that it was checked from.
use Rattle.std.specs.Prelude.{List, [], ◌∷◌, ◌++◌}
use Rattle.lrp_model.specs.RawQueries.{RawForm, RawForms, raw_atom, raw_compare, raw_member, raw_not, raw_and, raw_or, raw_implies, raw_group, raw_exists, raw_forall, raw_ranged, raw_paired, no_raws, raw}
use Rattle.lrp_model.specs.declared.relations.RowPoint.{RowPoint}

-- each `and` and `or` has a member, as in every raw query that is read
abbrev mutual
  pub HasMembers : RawForm → Type 0
  HasMembers (raw_atom p n ts) = Unit {0}
  HasMembers (raw_compare p l op r) = Unit {0}
  HasMembers (raw_member p t point) = Unit {0}
  HasMembers (raw_not p f) = HasMembers f
  HasMembers (raw_and p fs) = HasMember fs × HaveMembers fs
  HasMembers (raw_or p fs) = HasMember fs × HaveMembers fs
  HasMembers (raw_implies p f g) = HasMembers f × HasMembers g
  HasMembers (raw_group p f) = HasMembers f
  HasMembers (raw_ranged word o from to f) = HasMembers f
  HasMembers (raw_paired word o f g) = HasMembers g
  HasMembers (raw_exists p c f) = HasMembers f
  HasMembers (raw_forall p c f) = HasMembers f

  pub HaveMembers : RawForms → Type 0
  HaveMembers no_raws = Unit {0}
  HaveMembers (raw f fs) = HasMembers f × HaveMembers fs

  pub HasMember : RawForms → Type 0
  HasMember no_raws = ⊥
  HasMember (raw f fs) = Unit {0}

-- the points of a raw formula, in order of the text
abbrev mutual
  pub raw_points : RawForm → List RowPoint
  raw_points (raw_atom p n ts) = []
  raw_points (raw_compare p l op r) = []
  raw_points (raw_member p t point) = point ∷ []
  raw_points (raw_not p f) = raw_points f
  raw_points (raw_and p fs) = raw_points_each fs
  raw_points (raw_or p fs) = raw_points_each fs
  raw_points (raw_implies p f g) = raw_points f ++ raw_points g
  raw_points (raw_group p f) = raw_points f
  raw_points (raw_ranged word o from to f) = raw_points f
  raw_points (raw_paired word o f g) = raw_points g
  raw_points (raw_exists p c f) = raw_points f
  raw_points (raw_forall p c f) = raw_points f

  pub raw_points_each : RawForms → List RowPoint
  raw_points_each no_raws = []
  raw_points_each (raw f fs) = raw_points f ++ raw_points_each fs
