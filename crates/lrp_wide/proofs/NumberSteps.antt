-- The atoms of a formula, node by node.
use Rattle.std.proofs.Common.{◌≡◌, ℕ, ℤ, List, [], ◌∷◌, ◌++◌, Vec, Box, Global, ap, ap₂, sym, ◌∙◌, append_assoc, append-nil}
use Rattle.lrp_model.specs.RawQueries.{RawForm, operator_at, raw_form_of, raw_forms_of, raw_kind, raw_paired, raw_ranged}
use Rattle.lrp_model.specs.Rows.{columns_in, relation_named}
use Rattle.lrp_model.specs.Texts.{Identifier}
use Rattle.lrp_model.specs.declared.formulas.Op.{Op}
use Rattle.lrp_model.specs.declared.raw.Paired.{Paired}
use Rattle.lrp_model.specs.declared.raw.Ranged.{Ranged}
use Rattle.lrp_model.specs.declared.raw.RawColumn.{RawColumn}
use Rattle.lrp_model.specs.declared.raw.RawFormula.{RawFormula}
use Rattle.lrp_model.specs.declared.raw.RawKind.{And, Atom, Compare, Exists, Forall, Group, Implies, Member, Not, Or, Paired as PairedKind, Ranged as RangedKind}
use Rattle.lrp_model.specs.declared.raw.RawTerm.{RawTerm}
use Rattle.lrp_model.specs.declared.relations.Relation.{Relation}
use Rattle.lrp_model.specs.declared.relations.RowPoint.{RowPoint}
use Rattle.lrp_model.specs.declared.tokens.Place.{Place}
use Rattle.lrp_model.proofs.RawViews.{raw_kind-Paired, raw_kind-Ranged}
use Rattle.lrp_wide.specs.Counts.{kept_each, kept_in, stopped, stopped_counts}
use Rattle.lrp_wide.specs.Inlining.{Counted, Known, atom_numbers, counted_atom, counted_in, meant_by}
use Rattle.lrp_wide.proofs.NumberStops.{stopped-append, stopped-atom}
use Rattle.lrp_wide.proofs.InlineNodes.{and_node, atom_node, compare_node, exists_node, forall_node, group_node, implies_node, member_node, not_node, or_node}

module _ (db : List Relation) (ks : List Known) (f : RawFormula) (old new : List Counted) where
  -- by what the formula is
  is : (g : RawForm) → raw_form_of f ≡ g → new ≡ old ++ kept_in db ks g → new ≡ old ++ kept_in db ks (raw_form_of f)
  is g e h = h ∙ ap (λ x. old ++ kept_in db ks x) (sym e)

  pub atom_counted : (n : Identifier) (ts : List RawTerm) (taken : ℕ) → f.kind ≡ Atom n ts → new ≡ old ++ counted_atom f.place taken
      → taken ≡ stopped (atom_numbers (columns_in (relation_named db n)) ts (meant_by db ks n)) → new ≡ old ++ kept_in db ks (raw_form_of f)
  atom_counted n ts taken e h t = is _ (atom_node f n ts e) (h ∙ ap (λ (x : ℕ). old ++ counted_atom f.place x) t ∙ ap (λ l. old ++ l) (stopped-atom f.place (atom_numbers (columns_in (relation_named db n)) ts (meant_by db ks n))))

  pub compare_counted : (op : Op) (l r : RawTerm) → f.kind ≡ Compare op l r → new ≡ old → new ≡ old ++ kept_in db ks (raw_form_of f)
  compare_counted op l r e h = is _ (compare_node f op l r e) (h ∙ sym (append-nil old))

  pub member_counted : (t : RawTerm) (point : RowPoint) → f.kind ≡ Member t point → new ≡ old → new ≡ old ++ kept_in db ks (raw_form_of f)
  member_counted t point e h = is _ (member_node f t point e) (h ∙ sym (append-nil old))

  pub not_counted : (of : RawFormula) (b : Box RawFormula Global) → f.kind ≡ Not b → of ≡ b.value → new ≡ old ++ kept_in db ks (raw_form_of of) → new ≡ old ++ kept_in db ks (raw_form_of f)
  not_counted of b e h m = is _ (not_node f of b e h) m

  pub group_counted : (of : RawFormula) (b : Box RawFormula Global) → f.kind ≡ Group b → of ≡ b.value → new ≡ old ++ kept_in db ks (raw_form_of of) → new ≡ old ++ kept_in db ks (raw_form_of f)
  group_counted of b e h m = is _ (group_node f of b e h) m

  pub exists_counted : (c : RawColumn) (of : RawFormula) (b : Box RawFormula Global) → f.kind ≡ Exists c b → of ≡ b.value → new ≡ old ++ kept_in db ks (raw_form_of of) → new ≡ old ++ kept_in db ks (raw_form_of f)
  exists_counted c of b e h m = is _ (exists_node f c of b e h) m

  pub forall_counted : (c : RawColumn) (of : RawFormula) (b : Box RawFormula Global) → f.kind ≡ Forall c b → of ≡ b.value → new ≡ old ++ kept_in db ks (raw_form_of of) → new ≡ old ++ kept_in db ks (raw_form_of f)
  forall_counted c of b e h m = is _ (forall_node f c of b e h) m

  pub ranged_counted : (word : Ranged) (n : Identifier) (at : Place) (from to : ℤ) (of : RawFormula) (b : Box RawFormula Global) → f.kind ≡ RangedKind word n at from to b → of ≡ b.value
      → new ≡ old ++ kept_in db ks (raw_form_of of) → new ≡ old ++ kept_in db ks (raw_form_of f)
  ranged_counted word n at from to of b e h m =
      is _ (ap (λ k. raw_kind k f.place) e ∙ raw_kind-Ranged word n at from to b f.place ∙ ap (λ x. raw_ranged word (operator_at f.place n at) from to (raw_form_of x)) (sym h)) m

  pub and_counted : (fs : List RawFormula) (v : Vec RawFormula Global) → f.kind ≡ And v → fs ≡ v.items → new ≡ old ++ kept_each db ks (raw_forms_of fs) → new ≡ old ++ kept_in db ks (raw_form_of f)
  and_counted fs v e h m = is _ (and_node f fs v e h) m

  pub or_counted : (fs : List RawFormula) (v : Vec RawFormula Global) → f.kind ≡ Or v → fs ≡ v.items → new ≡ old ++ kept_each db ks (raw_forms_of fs) → new ≡ old ++ kept_in db ks (raw_form_of f)
  or_counted fs v e h m = is _ (or_node f fs v e h) m

  -- one after the other
  abbrev both_kept : RawFormula → RawFormula → List Counted
  both_kept l r = stopped_counts (counted_in db ks (raw_form_of l) ++ counted_in db ks (raw_form_of r))

  pub both_counted : (mid : List Counted) (l r : RawFormula) → mid ≡ old ++ kept_in db ks (raw_form_of l) → new ≡ mid ++ kept_in db ks (raw_form_of r) → new ≡ old ++ both_kept l r
  both_counted mid l r h k =
      k ∙ ap (λ x. x ++ kept_in db ks (raw_form_of r)) h ∙ append_assoc old (kept_in db ks (raw_form_of l)) (kept_in db ks (raw_form_of r))
      ∙ ap (λ x. old ++ x) (sym (stopped-append (counted_in db ks (raw_form_of l)) (counted_in db ks (raw_form_of r))))

  pub implies_counted : (l r : RawFormula) (b d : Box RawFormula Global) → f.kind ≡ Implies b d → l ≡ b.value → r ≡ d.value → new ≡ old ++ both_kept l r → new ≡ old ++ kept_in db ks (raw_form_of f)
  implies_counted l r b d e hl hr m = is _ (implies_node f l r b d e hl hr) m

  pub paired_counted : (word : Paired) (n : Identifier) (at : Place) (l r : RawFormula) (b d : Box RawFormula Global) → f.kind ≡ PairedKind word n at b d → l ≡ b.value → r ≡ d.value
      → new ≡ old ++ both_kept l r → new ≡ old ++ kept_in db ks (raw_form_of f)
  paired_counted word n at l r b d e hl hr m =
      is _ (ap (λ x. raw_kind x f.place) e ∙ raw_kind-Paired word n at b d f.place ∙ ap₂ (λ x y. raw_paired word (operator_at f.place n at) (raw_form_of x) (raw_form_of y)) (sym hl) (sym hr)) m
