-- What is left of an `and`: its variables, and the sort elements that are needed still.
use Rattle.std.proofs.Common.{◌≡◌, ◌+◌, ◌<◌, ◌≤◌, ℕ, zero, suc, Bool, true, false, ◌||◌, List, [], ◌∷◌, ◌++◌, length, drop, get_or, map, flat_map, refl, sym, ap, ◌∙◌, append_assoc, arith}
use Rattle.std.proofs.lemmas.List.{drop_more}
use Rattle.lrp_model.specs.declared.raw.RawTerm.{RawTerm}
use Rattle.lrp_model.specs.RawTerms.{said_term}
use Rattle.lrp_core.specs.FreeVariables.{variable_of, with_variables}
use Rattle.lrp_core.specs.VariableTrees.{tree_of, free_tree}
use Rattle.lrp_core.specs.declared.core_forms.Core.{Core}
use Rattle.lrp_core.specs.declared.variables.Variable.{Variable as ProgramVariable}
use Rattle.lrp_core.proofs.TreeViews.{tree_of-opened, tree_variables}
use Rattle.lrp_model.specs.Variables.{Variable, free, variables_of_test}
use Rattle.lrp_model.specs.declared.relations.Column.{Column}
use Rattle.lrp_model.specs.declared.formulas.Term.{Term}
use Rattle.lrp_model.specs.declared.formulas.Term.TheVariants.{Time, Data}
use Rattle.lrp_model.specs.declared.formulas.DataTerm.TheVariants.{Var, Const}
use Rattle.lrp_plan_laws.specs.Projections.{PlanGround as Ground}
use Rattle.lrp_plan_laws.specs.GuardedConjunctions.{SortElement, Standing, atom_form, sort_form, stands_alone, variables_left}
use Rattle.lrp_plan.specs.Taking.{HaveSame}
use Rattle.lrp_plan.proofs.Members.{more_same}
use Rattle.lrp_guarded.specs.Choices.{part_variables}
use Rattle.lrp_guarded.specs.Needs.{is_alone_at}
use Rattle.lrp_guarded.specs.Standing.{IsAtom, IsSortElement, IsPartOf, IsGuardedPart as IsPart, IsDeniedPart as IsDenied, AreElementsLeft as AreLeft}
use Rattle.lrp_guarded.specs.declared.elements.Part.{Part}
use Rattle.lrp_guarded.specs.declared.elements.Elements.{Elements}
use Rattle.lrp_guarded.proofs.Same.{same_all, same_from, same_then, same_flat, same_once}

-- one column and one term more
alone_step : (e : SortElement) (c : Column) (cs : List Column) (t : Term) (ts : List Term) → stands_alone e (c ∷ cs) (t ∷ ts) ≡ (is_alone_at e c t || stands_alone e cs ts)
alone_step e c cs (Time t) ts = refl
alone_step e c cs (Data (Var v)) ts = refl
alone_step e c cs (Data (Const t)) ts = refl

pub alone_more : (e : SortElement) (cs : List Column) (ts : List Term) (i : ℕ) (c : Column) (t : Term) → i < length cs → i < length ts → c ≡ get_or cs i c → t ≡ get_or ts i t → stands_alone e (drop i cs) (drop i ts) ≡ (is_alone_at e c t || stands_alone e (drop (i + 1) cs) (drop (i + 1) ts))
alone_more e cs ts i c t l m x y =
    ap (λ xs. stands_alone e xs (drop i ts)) (drop_more cs i c l ∙ ap (λ z. z ∷ drop (i + 1) cs) (sym x))
    ∙ ap (stands_alone e (c ∷ drop (i + 1) cs)) (drop_more ts i t m ∙ ap (λ z. z ∷ drop (i + 1) ts) (sym y))
    ∙ alone_step e c (drop (i + 1) cs) t (drop (i + 1) ts)

drop_all : {X : Type 0} (xs : List X) (i : ℕ) → length xs ≤ i → drop i xs ≡ []
drop_all [] zero le = refl
drop_all [] (suc i) le = refl
drop_all (x ∷ xs) zero le = absurd (omega arith)
drop_all (x ∷ xs) (suc i) le = drop_all xs i (omega arith)

alone_end : (e : SortElement) (cs : List Column) → stands_alone e cs [] ≡ false
alone_end e [] = refl
alone_end e (c ∷ cs) = refl

-- no term is left
pub alone_past : (e : SortElement) (cs : List Column) (ts : List RawTerm) (i : ℕ) → length ts ≤ i → stands_alone e (drop i cs) (map said_term (drop i ts)) ≡ false
alone_past e cs ts i le = ap (λ x. stands_alone e (drop i cs) (map said_term x)) (drop_all ts i le) ∙ alone_end e (drop i cs)

-- no column is left
pub alone_none : (e : SortElement) (cs : List Column) (ts : List Term) (i : ℕ) → length cs ≤ i → stands_alone e (drop i cs) ts ≡ false
alone_none e cs ts i le = ap (λ xs. stands_alone e xs ts) (drop_all cs i le)

-- the variables of a part
pub part_once : (over : Ground) (K : ℕ) (f : _) (e : Part) (p : _) → IsPartOf over K f e p → HaveSame (part_variables e) (free p.formula)
part_once over K f e p h = same_once (part_variables e) (free p.formula) (tree_variables _ _ _ _ (sym (tree_of-opened e.tree.now) ∙ h.tree))

-- the variables of all that is left
pub left_same : (over : Ground) (K : ℕ) (fs : List Core) (left : Elements) (at : Standing) (a b c d e : List ProgramVariable) → AreLeft over K fs left at
    → map variable_of a ≡ with_variables [] (flat_map (λ x. map variable_of x.variables.now) left.atoms.items) → map variable_of b ≡ with_variables (map variable_of a) (flat_map (λ x. map variable_of x.variables.now) left.sorts.items)
    → map variable_of c ≡ with_variables (map variable_of b) (flat_map part_variables left.others.items) → map variable_of d ≡ with_variables (map variable_of c) (flat_map variables_of_test left.tests)
    → map variable_of e ≡ with_variables (map variable_of d) (flat_map part_variables left.negations.items) → HaveSame (map variable_of e) (variables_left at)
left_same over K fs left at a b c d e h ea eb ec ed ee =
    let A : List Variable = flat_map (λ x. free (atom_form x)) at.atoms in
    let B : List Variable = flat_map (λ x. free (sort_form x)) at.sorts in
    let C : List Variable = flat_map (λ p. free p.formula) at.others in
    let D : List Variable = flat_map variables_of_test at.tests in
    let E : List Variable = flat_map (λ p. free p.formula) at.negations in
    let ha : HaveSame (map variable_of a) A = same_then _ _ A (same_from _ _ ea) (more_same [] [] _ A (same_all []) (same_flat (IsAtom over K) _ _ (λ x y r. r.variables) left.atoms.items at.atoms h.atoms)) in
    let hb : HaveSame (map variable_of b) (A ++ B) = same_then _ _ (A ++ B) (same_from _ _ eb) (more_same _ A _ B ha (same_flat IsSortElement _ _ (λ x y r. r.variables) left.sorts.items at.sorts h.sorts)) in
    let hc : HaveSame (map variable_of c) ((A ++ B) ++ C) = same_then _ _ ((A ++ B) ++ C) (same_from _ _ ec) (more_same _ (A ++ B) _ C hb (same_flat (IsPart over K fs) _ _ (λ x y r. part_once over K _ x y r.part) left.others.items at.others h.others)) in
    let hd : HaveSame (map variable_of d) (((A ++ B) ++ C) ++ D) = same_then _ _ (((A ++ B) ++ C) ++ D) (same_from _ _ ed) (more_same _ ((A ++ B) ++ C) _ D hc (same_from _ _ (ap (flat_map variables_of_test) h.tests))) in
    let he : HaveSame (map variable_of e) ((((A ++ B) ++ C) ++ D) ++ E) = same_then _ _ ((((A ++ B) ++ C) ++ D) ++ E) (same_from _ _ ee) (more_same _ (((A ++ B) ++ C) ++ D) _ E hd (same_flat (IsDenied over K fs) _ _ (λ x y r. part_once over K _ x y r.part) left.negations.items at.negations h.negations)) in
    same_then _ _ (variables_left at) he (same_from _ _ (append_assoc ((A ++ B) ++ C) D E ∙ append_assoc (A ++ B) C (D ++ E) ∙ append_assoc A B (C ++ (D ++ E))))
