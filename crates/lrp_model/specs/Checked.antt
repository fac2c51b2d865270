-- The query that a well-sorted raw query is, without its places.
use Rattle.std.specs.Prelude.{◌&&◌, ◌∷◌, map, reverse, if◌then◌else◌}
use Rattle.lrp_model.specs.Formulas.{Form, Forms, Question, atom, test, negation, conjunction, disjunction, implication, exists, forall, no_forms, form}
use Rattle.lrp_model.specs.DatabaseMeaning.{column_of}
use Rattle.lrp_model.specs.Sorting.{Binders, term_sort, is_data_term}
use Rattle.lrp_model.specs.RawTerms.{time_of, data_of, term_by, is_equality, resolved_by}
use Rattle.lrp_model.specs.RawQueries.{RawForm, RawForms, RawQuestion, raw_atom, raw_compare, raw_member, raw_not, raw_and, raw_or, raw_implies, raw_group, raw_exists, raw_forall, raw_ranged, raw_paired, no_raws, raw}
use Rattle.lrp_model.specs.declared.raw.RawTerm.{RawTerm}
use Rattle.lrp_model.specs.declared.formulas.Term.{Term}
use Rattle.lrp_model.specs.declared.formulas.Op.{Op}
use Rattle.lrp_model.specs.declared.formulas.Test.{Test}
use Rattle.lrp_model.specs.declared.formulas.Test.TheVariants.{Compare, Member, Equal}

-- the term, by its sort among the binders
abbrev pub term_of : Binders → RawTerm → Term
term_of bs t = term_by (is_data_term (term_sort bs t)) t.kind

-- an `=` of two data terms is an equality, and every other comparison is one of times
abbrev pub compare_of : Binders → RawTerm → Op → RawTerm → Test
compare_of bs l op r =
    if is_equality op && is_data_term (term_sort bs l) && is_data_term (term_sort bs r) then Equal (data_of l.kind) (data_of r.kind)
    else Compare (time_of l.kind) op (time_of r.kind)

-- the formula within binders; one in parentheses is the formula itself. A query that is checked has no operators; one is seen as its last formula
abbrev mutual
  pub plain : RawForm → Binders → Form
  plain (raw_atom p n ts) bs = atom n (map (term_of bs) ts)
  plain (raw_compare p l op r) bs = test (compare_of bs l op r)
  plain (raw_member p t point) bs = test (Member (time_of t.kind) point)
  plain (raw_not p f) bs = negation (plain f bs)
  plain (raw_and p fs) bs = conjunction (plain_each fs bs)
  plain (raw_or p fs) bs = disjunction (plain_each fs bs)
  plain (raw_implies p f g) bs = implication (plain f bs) (plain g bs)
  plain (raw_group p f) bs = plain f bs
  plain (raw_exists p c f) bs = exists c.name c.sort (plain f (c ∷ bs))
  plain (raw_forall p c f) bs = forall c.name c.sort (plain f (c ∷ bs))
  plain (raw_ranged word o from to f) bs = plain f bs
  plain (raw_paired word o f g) bs = plain g bs

  pub plain_each : RawForms → Binders → Forms
  plain_each no_raws bs = no_forms
  plain_each (raw f fs) bs = form (plain f bs) (plain_each fs bs)

-- the query
abbrev pub plain_question : RawQuestion → Question
plain_question q = record { head = map column_of q.head; body = plain q.body (reverse q.head) }

-- ---- the same in place

abbrev pub resolved_term : Binders → RawTerm → RawTerm
resolved_term bs t = record { kind = resolved_by (is_data_term (term_sort bs t)) t.kind; place = t.place }

-- the formula within binders, the sorts of its names resolved
abbrev mutual
  pub resolved : RawForm → Binders → RawForm
  resolved (raw_atom p n ts) bs = raw_atom p n (map (resolved_term bs) ts)
  resolved (raw_compare p l op r) bs = raw_compare p (resolved_term bs l) op (resolved_term bs r)
  resolved (raw_member p t point) bs = raw_member p (resolved_term bs t) point
  resolved (raw_not p f) bs = raw_not p (resolved f bs)
  resolved (raw_and p fs) bs = raw_and p (resolved_each fs bs)
  resolved (raw_or p fs) bs = raw_or p (resolved_each fs bs)
  resolved (raw_implies p f g) bs = raw_implies p (resolved f bs) (resolved g bs)
  resolved (raw_group p f) bs = raw_group p (resolved f bs)
  resolved (raw_exists p c f) bs = raw_exists p c (resolved f (c ∷ bs))
  resolved (raw_forall p c f) bs = raw_forall p c (resolved f (c ∷ bs))
  resolved (raw_ranged word o from to f) bs = raw_ranged word o from to (resolved f bs)
  resolved (raw_paired word o f g) bs = raw_paired word o (resolved f bs) (resolved g bs)

  pub resolved_each : RawForms → Binders → RawForms
  resolved_each no_raws bs = no_raws
  resolved_each (raw f fs) bs = raw (resolved f bs) (resolved_each fs bs)
