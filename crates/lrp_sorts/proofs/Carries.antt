-- What is carried over from a raw query to the query that it is.
use Rattle.std.proofs.Common.{◌≡◌, Bool, true, false, cond, [], ◌∷◌, ◌++◌, refl, ap, ◌∙◌, ◌&&◌}
use Rattle.lrp_model.specs.Core.{HasElement, HasElements, HaveElements}
use Rattle.lrp_model.specs.Checked.{plain, plain_each, compare_of}
use Rattle.lrp_model.specs.RawTerms.{is_equality}
use Rattle.lrp_model.specs.RawQueries.{RawForm, RawForms, raw_atom, raw_compare, raw_member, raw_not, raw_and, raw_or, raw_implies, raw_group, raw_exists, raw_forall, raw_ranged, raw_paired, no_raws, raw}
use Rattle.lrp_model.specs.Sorting.{Binders, term_sort, is_data_term}
use Rattle.lrp_model.specs.declared.formulas.Op.{Op}
use Rattle.lrp_model.specs.declared.formulas.Test.{Test}
use Rattle.lrp_model.specs.declared.raw.RawTerm.{RawTerm}
use Rattle.lrp_model.specs.TestPoints.{test_points, points, points_each}
use Rattle.lrp_sorts.specs.Carried.{HasMembers, HaveMembers, HasMember, raw_points, raw_points_each}

-- a member stays a member
member_stays : (fs : RawForms) (bs : Binders) → HasMember fs → HasElement (plain_each fs bs)
member_stays no_raws bs h = h
member_stays (raw f fs) bs h = h

-- each `and` and `or` keeps its members
mutual
  pub members_stay : (f : RawForm) (bs : Binders) → HasMembers f → HasElements (plain f bs)
  members_stay (raw_atom p n ts) bs h = h
  members_stay (raw_compare p l op r) bs h = h
  members_stay (raw_member p t point) bs h = h
  members_stay (raw_not p f) bs h = members_stay f bs h
  members_stay (raw_and p fs) bs h = (member_stays fs bs h.0, each_stay fs bs h.1)
  members_stay (raw_or p fs) bs h = (member_stays fs bs h.0, each_stay fs bs h.1)
  members_stay (raw_implies p f g) bs h = (members_stay f bs h.0, members_stay g bs h.1)
  members_stay (raw_group p f) bs h = members_stay f bs h
  members_stay (raw_ranged word o from to f) bs h = members_stay f bs h
  members_stay (raw_paired word o f g) bs h = members_stay g bs h
  members_stay (raw_exists p c f) bs h = members_stay f (c ∷ bs) h
  members_stay (raw_forall p c f) bs h = members_stay f (c ∷ bs) h

  -- so do those in a list
  each_stay : (fs : RawForms) (bs : Binders) → HaveMembers fs → HaveElements (plain_each fs bs)
  each_stay no_raws bs h = h
  each_stay (raw f fs) bs h = (members_stay f bs h.0, each_stay fs bs h.1)

-- a comparison has no point, of whichever kind it is
no_points : (b : Bool) (x y : Test) → test_points x ≡ [] → test_points y ≡ [] → test_points (cond b x y) ≡ []
no_points true x y e f = e
no_points false x y e f = f

-- the kind of a comparison does not matter
compared_points : (bs : Binders) (l : RawTerm) (op : Op) (r : RawTerm) → test_points (compare_of bs l op r) ≡ []
compared_points bs l op r = no_points (is_equality op && is_data_term (term_sort bs l) && is_data_term (term_sort bs r)) _ _ refl refl

-- the points are those of the raw formula
mutual
  pub points_stay : (f : RawForm) (bs : Binders) → points (plain f bs) ≡ raw_points f
  points_stay (raw_atom p n ts) bs = refl
  points_stay (raw_compare p l op r) bs = compared_points bs l op r
  points_stay (raw_member p t point) bs = refl
  points_stay (raw_not p f) bs = points_stay f bs
  points_stay (raw_and p fs) bs = all_points_stay fs bs
  points_stay (raw_or p fs) bs = all_points_stay fs bs
  points_stay (raw_implies p f g) bs = ap (λ l. l ++ points (plain g bs)) (points_stay f bs) ∙ ap (λ l. raw_points f ++ l) (points_stay g bs)
  points_stay (raw_group p f) bs = points_stay f bs
  points_stay (raw_ranged word o from to f) bs = points_stay f bs
  points_stay (raw_paired word o f g) bs = points_stay g bs
  points_stay (raw_exists p c f) bs = points_stay f (c ∷ bs)
  points_stay (raw_forall p c f) bs = points_stay f (c ∷ bs)

  -- the same of lists
  all_points_stay : (fs : RawForms) (bs : Binders) → points_each (plain_each fs bs) ≡ raw_points_each fs
  all_points_stay no_raws bs = refl
  all_points_stay (raw f fs) bs = ap (λ l. l ++ points_each (plain_each fs bs)) (points_stay f bs) ∙ ap (λ l. raw_points f ++ l) (all_points_stay fs bs)
