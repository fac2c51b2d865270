-- The binders of a query's head, and forms over relations of the same columns.
use Rattle.std.proofs.Common.{◌≡◌, ◌≢◌, ◌<◌, List, [], ◌∷◌, ◌++◌, map, Contains, Option, Some, None, inl, inr, refl, sym, ap, subst, ◌∙◌, arith}
use Rattle.std.specs.Prelude.{MatchOption, reverse}
use Rattle.std.specs.List.{AllByRecursion}
use mathlib.Core.List.{reverse-cons}
use Rattle.lrp_model.specs.DatabaseMeaning.{column_of}
use Rattle.lrp_model.specs.Formulas.{Form, Forms, atom, test, sorted, negation, conjunction, disjunction, implication, exists, forall, no_forms, form}
use Rattle.lrp_model.specs.Rows.{relation_named}
use Rattle.lrp_model.specs.Satisfaction.{HaveDistinctNames}
use Rattle.lrp_model.specs.Texts.{Identifier}
use Rattle.lrp_model.specs.declared.formulas.Term.{Term}
use Rattle.lrp_model.specs.declared.raw.RawColumn.{RawColumn}
use Rattle.lrp_model.specs.declared.relations.Column.{Column}
use Rattle.lrp_model.specs.declared.relations.Relation.{Relation}
use Rattle.lrp_model.proofs.Decided.{cons_cases, contains_first, contains_later}
use Rattle.lrp_plan_laws.proofs.Members.{in_left, in_right, in_one}
use Rattle.lrp_kept.specs.SortedForms.{AreSortedForms, HaveColumnsOf, IsSortedAtom, IsSortedForm}
use Rattle.lrp_kept.proofs.DisjunctAtoms.{HaveOwnNames}

-- ---- a head turned round

abbrev columns_of : List RawColumn → List Column
columns_of cs = map column_of cs

turned : (cs ds : List RawColumn) → columns_of (cs ++ ds) ≡ columns_of cs ++ columns_of ds
turned [] ds = refl
turned (c ∷ cs) ds = ap (λ l. column_of c ∷ l) (turned cs ds)

turn_one : (c : RawColumn) (cs : List RawColumn) → columns_of (reverse (c ∷ cs)) ≡ columns_of (reverse cs) ++ column_of c ∷ []
turn_one c cs = ap columns_of (reverse-cons c cs) ∙ turned (reverse cs) (c ∷ [])

pub in_turned : (cs : List RawColumn) (b : Column) → Contains (columns_of cs) b → Contains (columns_of (reverse cs)) b
in_turned [] b i = absurd (let l : i.0 < 0 = i.1 in omega (arith, l))
in_turned (c ∷ cs) b i = subst (λ l. Contains l b) (sym (turn_one c cs)) (elim (cons_cases (column_of c) b (columns_of cs) i) [
  | inl e ↦ in_right (columns_of (reverse cs)) (column_of c ∷ []) b (subst (λ x. Contains (column_of c ∷ []) x) e (contains_first (column_of c) []))
  | inr more ↦ in_left (columns_of (reverse cs)) (column_of c ∷ []) b (in_turned cs b more)
])

pub of_turned : (cs : List RawColumn) (b : Column) → Contains (columns_of (reverse cs)) b → Contains (columns_of cs) b
of_turned [] b i = absurd (let l : i.0 < 0 = i.1 in omega (arith, l))
of_turned (c ∷ cs) b i = elim (in_one (columns_of (reverse cs)) (column_of c ∷ []) b (subst (λ l. Contains l b) (turn_one c cs) i)) [
  | inl before ↦ contains_later (column_of c) b (columns_of cs) (of_turned cs b before)
  | inr last ↦ elim (cons_cases (column_of c) b [] last) [
    | inl e ↦ subst (λ x. Contains (column_of c ∷ columns_of cs) x) e (contains_first (column_of c) (columns_of cs))
    | inr more ↦ absurd (let l : more.0 < 0 = more.1 in omega (arith, l))
  ]
]

-- columns whose names differ have a name each
named_apart : (c : Column) (cs : List Column) (b : Column) → AllByRecursion (λ d. c.name ≢ d.name) cs → Contains cs b → c.name ≡ b.name → ⊥
named_apart c [] b h i e = let l : i.0 < 0 = i.1 in omega (arith, l)
named_apart c (d ∷ cs) b h i e = elim (cons_cases d b cs i) [
  | inl s ↦ h.0 (e ∙ ap (λ (x : Column). x.name) (sym s))
  | inr more ↦ named_apart c cs b h.1 more e
]

own_names : (cs : List Column) → HaveDistinctNames cs → HaveOwnNames cs
own_names [] n b c i j e = absurd (let l : i.0 < 0 = i.1 in omega (arith, l))
own_names (d ∷ cs) n b c i j e = elim (cons_cases d b cs i) [
  | inl s ↦ elim (cons_cases d c cs j) [
    | inl t ↦ sym s ∙ t
    | inr k ↦ absurd (named_apart d cs c n.0 k (ap (λ (x : Column). x.name) s ∙ e))
  ]
  | inr l ↦ elim (cons_cases d c cs j) [
    | inl t ↦ absurd (named_apart d cs b n.0 l (ap (λ (x : Column). x.name) t ∙ sym e))
    | inr k ↦ own_names cs n.1 b c l k e
  ]
]

pub turned_own : (cs : List RawColumn) → HaveDistinctNames (columns_of cs) → HaveOwnNames (columns_of (reverse cs))
turned_own cs n b c i j e = own_names (columns_of cs) n b c (of_turned cs b i) (of_turned cs c j) e

-- ---- relations of the same columns

module _ (db other : List Relation) (have : HaveColumnsOf db other) where
  same_atom : (bs : List Column) (name : Identifier) (terms : List Term) (o : Option Relation) → relation_named db name ≡ o → MatchOption o ⊥ (IsSortedAtom bs terms) → MatchOption (relation_named other name) ⊥ (IsSortedAtom bs terms)
  same_atom bs name terms None e h = absurd h
  same_atom bs name terms (Some r) e h =
      let x = have.each name r e in
      subst (λ o. MatchOption o ⊥ (IsSortedAtom bs terms)) (sym x.1) (record { count = rw x.2 h.count; sorts = rw x.2 h.sorts })

  mutual
    pub same_form : (f : Form) (bs : List Column) → IsSortedForm f db bs → IsSortedForm f other bs
    same_form (atom name terms) bs h = same_atom bs name terms (relation_named db name) refl h
    same_form (test t) bs h = tt
    same_form (sorted s v) bs h = tt
    same_form (negation f) bs h = same_form f bs h
    same_form (conjunction fs) bs h = same_forms fs bs h
    same_form (disjunction fs) bs h = same_forms fs bs h
    same_form (implication f g) bs h = (same_form f bs h.0, same_form g bs h.1)
    same_form (exists v s f) bs h = (h.0, same_form f (record { name = v; sort = s } ∷ bs) h.1)
    same_form (forall v s f) bs h = (h.0, same_form f (record { name = v; sort = s } ∷ bs) h.1)

    same_forms : (fs : Forms) (bs : List Column) → AreSortedForms fs db bs → AreSortedForms fs other bs
    same_forms no_forms bs h = tt
    same_forms (form f fs) bs h = (same_form f bs h.0, same_forms fs bs h.1)
