-- A formula in a scene, node by node.
use Rattle.std.proofs.Common.{◌≡◌, ℕ, List, Vec, Box, Global, ap, ap₂, sym, ◌∙◌}
use Rattle.lrp_model.specs.RawQueries.{RawFileView, RawForm, raw_form_of, raw_forms_of, raw_and, raw_compare, raw_exists, raw_forall, raw_group, raw_implies, raw_member, raw_not, raw_or}
use Rattle.lrp_model.specs.Rows.{columns_in, relation_named}
use Rattle.lrp_model.specs.Texts.{Identifier}
use Rattle.lrp_model.specs.declared.formulas.Op.{Op}
use Rattle.lrp_model.specs.declared.raw.RawColumn.{RawColumn}
use Rattle.lrp_model.specs.declared.raw.RawFormula.{RawFormula}
use Rattle.lrp_model.specs.declared.raw.RawKind.{And, Atom, Compare, Exists, Forall, Group, Implies, Member, Not, Or}
use Rattle.lrp_model.specs.declared.raw.RawTerm.{RawTerm}
use Rattle.lrp_model.specs.declared.relations.Relation.{Relation}
use Rattle.lrp_model.specs.declared.relations.RowPoint.{RowPoint}
use Rattle.lrp_model.specs.declared.tokens.Place.{Place}
use Rattle.lrp_wide.specs.Inlining.{UseSetting, inlined_atom, meant_by, set_column, set_term}
use Rattle.lrp_wide.specs.Inside.{each_inlined_here, inlined_here, known_by}
use Rattle.lrp_wide.specs.Settings.{setting_of}
use Rattle.lrp_wide.specs.declared.inlining.Scene.{Scene}
use Rattle.lrp_wide.proofs.InlineNodes.{and_node, atom_node, compare_node, exists_node, forall_node, group_node, implies_node, member_node, not_node, or_node}

module _ (s : Scene) (f : RawFormula) (file : RawFileView) (p : Place) (at : p ≡ (setting_of s.setting).place f.place) (made : RawForm) where
  abbrev own : UseSetting
  own = setting_of s.setting

  pub atom_step : (n : Identifier) (ts l : List RawTerm) (x : Place) (k : ℕ) → f.kind ≡ Atom n ts → x ≡ p → k ≡ own.number f.place → l ≡ ts
      → made ≡ inlined_atom own x k n (columns_in (relation_named s.catalog.now n)) l (meant_by s.catalog.now (known_by s file) n) → made ≡ inlined_here s file (raw_form_of f)
  atom_step n ts l x k e ep en et m =
      let db : List Relation = s.catalog.now in
      let form : Place → ℕ → List RawTerm → RawForm = λ y j v. inlined_atom own y j n (columns_in (relation_named db n)) v (meant_by db (known_by s file) n) in
      m ∙ ap₂ (λ y j. form y j l) (ep ∙ at) en ∙ ap (form (own.place f.place) (own.number f.place)) et ∙ sym (ap (inlined_here s file) (atom_node f n ts e))

  pub compare_step : (op : Op) (l r : RawTerm) → f.kind ≡ Compare op l r → made ≡ raw_compare p (set_term own l) op (set_term own r) → made ≡ inlined_here s file (raw_form_of f)
  compare_step op l r e m = m ∙ ap (λ q. raw_compare q (set_term own l) op (set_term own r)) at ∙ sym (ap (inlined_here s file) (compare_node f op l r e))

  pub member_step : (t : RawTerm) (point : RowPoint) → f.kind ≡ Member t point → made ≡ raw_member p (set_term own t) point → made ≡ inlined_here s file (raw_form_of f)
  member_step t point e m = m ∙ ap (λ q. raw_member q (set_term own t) point) at ∙ sym (ap (inlined_here s file) (member_node f t point e))

  pub not_step : (of : RawFormula) (b : Box RawFormula Global) → f.kind ≡ Not b → of ≡ b.value → made ≡ raw_not p (inlined_here s file (raw_form_of of)) → made ≡ inlined_here s file (raw_form_of f)
  not_step of b e h m = m ∙ ap (λ q. raw_not q (inlined_here s file (raw_form_of of))) at ∙ sym (ap (inlined_here s file) (not_node f of b e h))

  pub group_step : (of : RawFormula) (b : Box RawFormula Global) → f.kind ≡ Group b → of ≡ b.value → made ≡ raw_group p (inlined_here s file (raw_form_of of)) → made ≡ inlined_here s file (raw_form_of f)
  group_step of b e h m = m ∙ ap (λ q. raw_group q (inlined_here s file (raw_form_of of))) at ∙ sym (ap (inlined_here s file) (group_node f of b e h))

  pub and_step : (fs : List RawFormula) (v : Vec RawFormula Global) → f.kind ≡ And v → fs ≡ v.items → made ≡ raw_and p (each_inlined_here s file (raw_forms_of fs)) → made ≡ inlined_here s file (raw_form_of f)
  and_step fs v e h m = m ∙ ap (λ q. raw_and q (each_inlined_here s file (raw_forms_of fs))) at ∙ sym (ap (inlined_here s file) (and_node f fs v e h))

  pub or_step : (fs : List RawFormula) (v : Vec RawFormula Global) → f.kind ≡ Or v → fs ≡ v.items → made ≡ raw_or p (each_inlined_here s file (raw_forms_of fs)) → made ≡ inlined_here s file (raw_form_of f)
  or_step fs v e h m = m ∙ ap (λ q. raw_or q (each_inlined_here s file (raw_forms_of fs))) at ∙ sym (ap (inlined_here s file) (or_node f fs v e h))

  pub implies_step : (l r : RawFormula) (b d : Box RawFormula Global) → f.kind ≡ Implies b d → l ≡ b.value → r ≡ d.value
      → made ≡ raw_implies p (inlined_here s file (raw_form_of l)) (inlined_here s file (raw_form_of r)) → made ≡ inlined_here s file (raw_form_of f)
  implies_step l r b d e hl hr m =
      m ∙ ap (λ q. raw_implies q (inlined_here s file (raw_form_of l)) (inlined_here s file (raw_form_of r))) at ∙ sym (ap (inlined_here s file) (implies_node f l r b d e hl hr))

  pub exists_step : (c : RawColumn) (of : RawFormula) (b : Box RawFormula Global) → f.kind ≡ Exists c b → of ≡ b.value
      → made ≡ raw_exists p (set_column own c) (inlined_here s file (raw_form_of of)) → made ≡ inlined_here s file (raw_form_of f)
  exists_step c of b e h m = m ∙ ap (λ q. raw_exists q (set_column own c) (inlined_here s file (raw_form_of of))) at ∙ sym (ap (inlined_here s file) (exists_node f c of b e h))

  pub forall_step : (c : RawColumn) (of : RawFormula) (b : Box RawFormula Global) → f.kind ≡ Forall c b → of ≡ b.value
      → made ≡ raw_forall p (set_column own c) (inlined_here s file (raw_form_of of)) → made ≡ inlined_here s file (raw_form_of f)
  forall_step c of b e h m = m ∙ ap (λ q. raw_forall q (set_column own c) (inlined_here s file (raw_form_of of))) at ∙ sym (ap (inlined_here s file) (forall_node f c of b e h))
