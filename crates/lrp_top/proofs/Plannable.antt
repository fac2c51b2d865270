-- A query that is read can be planned: each `and` and `or` has a member, and each point has a period.
use Rattle.std.proofs.Common.{◌≡◌, pos, ◌≤ℤ◌, sym, subst}
use Rattle.std.specs.List.{AllByRecursion}
use Rattle.lrp_top.proofs.Lists.{both_all}
use Rattle.lrp_model.specs.Formulas.{Form}
use Rattle.lrp_model.specs.TestPoints.{points}
use Rattle.lrp_model.specs.RawQueries.{RawForm, RawForms, raw_atom, raw_compare, raw_member, raw_not, raw_and, raw_or, raw_implies, raw_group, raw_exists, raw_forall, raw_ranged, raw_paired, no_raws, raw}
use Rattle.lrp_model.specs.declared.relations.RowPoint.{RowPoint}
use Rattle.lrp_query.specs.Lawful.{FitsRaw, FitRaws, HasTwo}
use Rattle.lrp_sorts.specs.Carried.{HasMember, HasMembers, HaveMembers, raw_points, raw_points_each}

-- two members are one
one_of_two : (fs : RawForms) → HasTwo fs → HasMember fs
one_of_two no_raws h = absurd h
one_of_two (raw f fs) h = tt

mutual
  -- each `and` and `or` of a formula that is read has a member
  pub has_members : (f : RawForm) → FitsRaw f → HasMembers f
  has_members (raw_atom p n ts) h = tt
  has_members (raw_compare p l op r) h = tt
  has_members (raw_member p t q) h = tt
  has_members (raw_not p f) h = has_members f h
  has_members (raw_and p fs) h = (one_of_two fs h.0, have_members fs h.1)
  has_members (raw_or p fs) h = (one_of_two fs h.0, have_members fs h.1)
  has_members (raw_implies p f g) h = (has_members f h.0, has_members g h.1)
  has_members (raw_group p f) h = has_members f h
  has_members (raw_ranged word o from to f) h = has_members f h.2
  has_members (raw_paired word o f g) h = has_members g h.1
  has_members (raw_exists p c f) h = has_members f h
  has_members (raw_forall p c f) h = has_members f h

  have_members : (fs : RawForms) → FitRaws fs → HaveMembers fs
  have_members no_raws h = tt
  have_members (raw f fs) h = (has_members f h.0, have_members fs h.1)

-- a period of at least 1
abbrev pub Repeats : RowPoint → Type 0
Repeats point = pos 1 ≤ℤ point.period

mutual
  -- each point of a formula that is read has one
  points_repeat : (f : RawForm) → FitsRaw f → AllByRecursion Repeats (raw_points f)
  points_repeat (raw_atom p n ts) h = tt
  points_repeat (raw_compare p l op r) h = tt
  points_repeat (raw_member p t q) h = (h.1.1, tt)
  points_repeat (raw_not p f) h = points_repeat f h
  points_repeat (raw_and p fs) h = each_repeats fs h.1
  points_repeat (raw_or p fs) h = each_repeats fs h.1
  points_repeat (raw_implies p f g) h = both_all Repeats (raw_points f) (raw_points g) (points_repeat f h.0) (points_repeat g h.1)
  points_repeat (raw_group p f) h = points_repeat f h
  points_repeat (raw_ranged word o from to f) h = points_repeat f h.2
  points_repeat (raw_paired word o f g) h = points_repeat g h.1
  points_repeat (raw_exists p c f) h = points_repeat f h
  points_repeat (raw_forall p c f) h = points_repeat f h

  each_repeats : (fs : RawForms) → FitRaws fs → AllByRecursion Repeats (raw_points_each fs)
  each_repeats no_raws h = tt
  each_repeats (raw f fs) h = both_all Repeats (raw_points f) (raw_points_each fs) (points_repeat f h.0) (each_repeats fs h.1)

-- a formula with the points of one that was read has points with periods
pub has_periods : (f : Form) (from : RawForm) → FitsRaw from → points f ≡ raw_points from → AllByRecursion Repeats (points f)
has_periods f from h e = subst (AllByRecursion Repeats) (sym e) (points_repeat from h)
