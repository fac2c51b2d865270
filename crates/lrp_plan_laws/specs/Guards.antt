-- Where a data variable is dropped: only the texts of its sort complete a member.
use Rattle.std.specs.Prelude.{◌≡◌, false, List, Contains}
use Rattle.lrp_model.specs.Texts.{Text, Identifier}
use Rattle.lrp_model.specs.Rows.{text}
use Rattle.lrp_model.specs.Formulas.{Form, Forms, atom, test, sorted, negation, conjunction, disjunction, implication, exists, forall, no_forms, form}
use Rattle.lrp_model.specs.Satisfaction.{Structure, Assignment, Satisfies, with_value}
use Rattle.lrp_model.specs.Core.{is_named}
use Rattle.lrp_model.specs.declared.relations.Sort.{Sort}

-- v's texts of the sort are in the domain, and each text of the domain that satisfies the formula as v is of the sort
pub record IsGuarded (domain : List Text) (M : Structure) (v : Identifier) (s : Sort) (f : Form) : Type 0 where
  pub known : (t : Text) → Contains (M.domain s) t → Contains domain t
  pub guards : (env : Assignment) (t : Text) → Contains domain t → Satisfies f M (with_value v (text t) env) → Contains (M.domain s) t

-- no quantifier is over a named sort
abbrev mutual
  pub BindsPlainly : Form → Type 0
  BindsPlainly (atom name terms) = Unit {0}
  BindsPlainly (test t) = Unit {0}
  BindsPlainly (sorted s v) = Unit {0}
  BindsPlainly (negation f) = BindsPlainly f
  BindsPlainly (conjunction fs) = BindPlainly fs
  BindsPlainly (disjunction fs) = BindPlainly fs
  BindsPlainly (implication f g) = BindsPlainly f × BindsPlainly g
  BindsPlainly (exists v s f) = (is_named s ≡ false) × BindsPlainly f
  BindsPlainly (forall v s f) = (is_named s ≡ false) × BindsPlainly f

  pub BindPlainly : Forms → Type 0
  BindPlainly no_forms = Unit {0}
  BindPlainly (form f fs) = BindsPlainly f × BindPlainly fs
