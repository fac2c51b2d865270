-- The formula of a node, by its kind in memory.
use Rattle.std.proofs.Common.{◌≡◌, List, Vec, Box, Global, ap, ap₂, sym, ◌∙◌}
use Rattle.lrp_model.specs.RawQueries.{raw_form_of, raw_forms_of, raw_kind, raw_and, raw_atom, raw_compare, raw_exists, raw_forall, raw_group, raw_implies, raw_member, raw_not, raw_or}
use Rattle.lrp_model.specs.Texts.{Identifier}
use Rattle.lrp_model.specs.declared.formulas.Op.{Op}
use Rattle.lrp_model.specs.declared.raw.RawColumn.{RawColumn}
use Rattle.lrp_model.specs.declared.raw.RawFormula.{RawFormula}
use Rattle.lrp_model.specs.declared.raw.RawKind.{And, Atom, Compare, Exists, Forall, Group, Implies, Member, Not, Or}
use Rattle.lrp_model.specs.declared.raw.RawTerm.{RawTerm}
use Rattle.lrp_model.specs.declared.relations.RowPoint.{RowPoint}
use Rattle.lrp_model.proofs.RawViews.{raw_kind-And, raw_kind-Exists, raw_kind-Forall, raw_kind-Group, raw_kind-Implies, raw_kind-Not, raw_kind-Or}

module _ (f : RawFormula) where
  pub atom_node : (n : Identifier) (ts : List RawTerm) → f.kind ≡ Atom n ts → raw_form_of f ≡ raw_atom f.place n ts
  atom_node n ts e = ap (λ k. raw_kind k f.place) e

  pub compare_node : (op : Op) (l r : RawTerm) → f.kind ≡ Compare op l r → raw_form_of f ≡ raw_compare f.place l op r
  compare_node op l r e = ap (λ k. raw_kind k f.place) e

  pub member_node : (t : RawTerm) (point : RowPoint) → f.kind ≡ Member t point → raw_form_of f ≡ raw_member f.place t point
  member_node t point e = ap (λ k. raw_kind k f.place) e

  pub not_node : (of : RawFormula) (b : Box RawFormula Global) → f.kind ≡ Not b → of ≡ b.value → raw_form_of f ≡ raw_not f.place (raw_form_of of)
  not_node of b e h = ap (λ k. raw_kind k f.place) e ∙ raw_kind-Not b f.place ∙ ap (λ x. raw_not f.place (raw_form_of x)) (sym h)

  pub group_node : (of : RawFormula) (b : Box RawFormula Global) → f.kind ≡ Group b → of ≡ b.value → raw_form_of f ≡ raw_group f.place (raw_form_of of)
  group_node of b e h = ap (λ k. raw_kind k f.place) e ∙ raw_kind-Group b f.place ∙ ap (λ x. raw_group f.place (raw_form_of x)) (sym h)

  pub and_node : (fs : List RawFormula) (v : Vec RawFormula Global) → f.kind ≡ And v → fs ≡ v.items → raw_form_of f ≡ raw_and f.place (raw_forms_of fs)
  and_node fs v e h = ap (λ k. raw_kind k f.place) e ∙ raw_kind-And v f.place ∙ ap (λ x. raw_and f.place (raw_forms_of x)) (sym h)

  pub or_node : (fs : List RawFormula) (v : Vec RawFormula Global) → f.kind ≡ Or v → fs ≡ v.items → raw_form_of f ≡ raw_or f.place (raw_forms_of fs)
  or_node fs v e h = ap (λ k. raw_kind k f.place) e ∙ raw_kind-Or v f.place ∙ ap (λ x. raw_or f.place (raw_forms_of x)) (sym h)

  pub implies_node : (l r : RawFormula) (b d : Box RawFormula Global) → f.kind ≡ Implies b d → l ≡ b.value → r ≡ d.value → raw_form_of f ≡ raw_implies f.place (raw_form_of l) (raw_form_of r)
  implies_node l r b d e hl hr = ap (λ k. raw_kind k f.place) e ∙ raw_kind-Implies b d f.place ∙ ap₂ (λ x y. raw_implies f.place (raw_form_of x) (raw_form_of y)) (sym hl) (sym hr)

  pub exists_node : (c : RawColumn) (of : RawFormula) (b : Box RawFormula Global) → f.kind ≡ Exists c b → of ≡ b.value → raw_form_of f ≡ raw_exists f.place c (raw_form_of of)
  exists_node c of b e h = ap (λ k. raw_kind k f.place) e ∙ raw_kind-Exists c b f.place ∙ ap (λ x. raw_exists f.place c (raw_form_of x)) (sym h)

  pub forall_node : (c : RawColumn) (of : RawFormula) (b : Box RawFormula Global) → f.kind ≡ Forall c b → of ≡ b.value → raw_form_of f ≡ raw_forall f.place c (raw_form_of of)
  forall_node c of b e h = ap (λ k. raw_kind k f.place) e ∙ raw_kind-Forall c b f.place ∙ ap (λ x. raw_forall f.place c (raw_form_of x)) (sym h)
