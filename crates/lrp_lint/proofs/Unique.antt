-- What is found is one: strictly sorted lists of the same elements are one list.
use Rattle.std.proofs.Common.{◌≡◌, ◌∙◌, inl, inr, List, [], ◌∷◌, Option, Some, None, refl, sym, ap, ap₂, subst}
use Rattle.std.specs.Prelude.{Contains}
use Rattle.std.specs.Cmp.{IsTotalOrder}
use Rattle.std.specs.List.{AllByRecursion}
use Rattle.std.specs.List.Sorted.{IsStrictlySortedBy}
use Rattle.std.specs.Ordering.{ordering_reverse}
use Rattle.std.specs.declared.cmp.Ordering.{Ordering}
use Rattle.std.specs.declared.cmp.Ordering.TheVariants.{Less, Greater}
use Rattle.lrp_theory.proofs.Members.{head_in, in_cons, in_none, later}
use Rattle.lrp_model.specs.RawQueries.{RawQuestion}
use Rattle.lrp_model.specs.declared.relations.Relation.{Relation}
use Rattle.lrp_lint.specs.Listed.{AreFindings, IsListOfAll, AreQueryFindings, query_order, row_order}
use Rattle.lrp_lint.specs.contracts.flaws.QueryFindingOrd.TheImpl.Laws as by_place
use Rattle.lrp_lint.specs.contracts.flaws.RowFindingOrd.TheImpl.Laws as by_row
use Rattle.lrp_lint.specs.declared.findings.Findings.{Findings}
use Rattle.lrp_lint.specs.declared.flaws.QueryFinding.{QueryFinding}

module _ {F : Type 0} (order : F → F → Ordering) (total : IsTotalOrder order) where
  -- one is not before the other and after it
  apart : (x y : F) → order x y ≡ Less → order y x ≡ Less → ⊥
  apart x y l m =
      let greater : Less ≡ Greater = sym l ∙ total.antisymm x y ∙ ap ordering_reverse m in
      absurd (let d : Less ≡ Greater = greater in cc)

  before : (x : F) (xs : List F) → AllByRecursion (λ y. order x y ≡ Less) xs → (z : F) → Contains xs z → order x z ≡ Less
  before x [] h z c = absurd (in_none z c)
  before x (y ∷ ys) h z c = elim (in_cons y ys z c) [
    | inl e ↦ subst (λ w. order x w ≡ Less) e h.0
    | inr m ↦ before x ys h.1 z m
  ]

  first_same : (x y : F) (xs ys : List F) → AllByRecursion (λ z. order x z ≡ Less) xs → AllByRecursion (λ z. order y z ≡ Less) ys → Contains (y ∷ ys) x → Contains (x ∷ xs) y → x ≡ y
  first_same x y xs ys h k to from = elim (in_cons y ys x to) [
    | inl e ↦ sym e
    | inr m ↦ elim (in_cons x xs y from) [
      | inl e ↦ e
      | inr n ↦ absurd (apart x y (before x xs h y n) (before y ys k x m))
    ]
  ]

  pub one_list : (xs ys : List F) → IsStrictlySortedBy order xs → IsStrictlySortedBy order ys → ((z : F) → Contains xs z → Contains ys z) → ((z : F) → Contains ys z → Contains xs z) → xs ≡ ys
  unfolding IsStrictlySortedBy
  one_list [] [] s t to from = refl
  one_list [] (y ∷ ys) s t to from = absurd (in_none y (from y (head_in y ys)))
  one_list (x ∷ xs) [] s t to from = absurd (in_none x (to x (head_in x xs)))
  one_list (x ∷ xs) (y ∷ ys) s t to from =
      let e : x ≡ y = first_same x y xs ys s.0 t.0 (to x (head_in x xs)) (from y (head_in y ys)) in
      let rest : xs ≡ ys = one_list xs ys s.1 t.1
      (λ z c. elim (in_cons y ys z (to z (later x xs z c))) [
        | inl f ↦
            let l : order x x ≡ Less = subst (λ w. order x w ≡ Less) (sym (e ∙ f)) (before x xs s.0 z c) in
            absurd (apart x x l l)
        | inr m ↦ m
      ])
      (λ z c. elim (in_cons x xs z (from z (later y ys z c))) [
        | inl f ↦
            let l : order y y ≡ Less = subst (λ w. order y w ≡ Less) (sym (sym e ∙ f)) (before y ys t.0 z c) in
            absurd (apart y y l l)
        | inr m ↦ m
      ]) in
      ap₂ (λ w ws. w ∷ ws) e rest

  pub one_listed : (Is : F → Type 0) (xs ys : List F) → IsListOfAll order Is xs → IsListOfAll order Is ys → xs ≡ ys
  one_listed Is xs ys a b = one_list xs ys a.ascending b.ascending (λ z c. (b.same z).1 ((a.same z).0 c)) (λ z c. (a.same z).1 ((b.same z).0 c))

one_query : (db : List Relation) (asked : Option RawQuestion) (xs ys : List QueryFinding) → AreQueryFindings db asked xs → AreQueryFindings db asked ys → xs ≡ ys
one_query db None xs ys a b = a ∙ sym b
one_query db (Some q) xs ys a b = one_listed query_order by_place.total-law _ xs ys a b

pub one_findings : (db : List Relation) (asked : Option RawQuestion) (findings other : Findings) → AreFindings db asked findings → AreFindings db asked other → findings ≡ other
one_findings db asked findings other a b =
    let rows : findings.rows ≡ other.rows = one_listed row_order by_row.total-law _ findings.rows other.rows a.rows b.rows in
    let query : findings.query ≡ other.query = one_query db asked findings.query other.query a.query b.query in
    ap₂ (λ r q. record { rows = r; query = q }) rows query
