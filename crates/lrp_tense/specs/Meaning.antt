-- When an assignment satisfies a formula with temporal operators, read classically: each operator by its own sentence over all integers.
use Rattle.std.specs.Prelude.{◌≤ℤ◌, ◌<ℤ◌, ◌+ℤ◌, ℤ, map, ◌∷◌}
use Rattle.lrp_model.specs.RawQueries.{Operator, RawForm, RawForms, raw_atom, raw_compare, raw_member, raw_not, raw_and, raw_or, raw_implies, raw_group, raw_exists, raw_forall, raw_ranged, raw_paired, no_raws, raw}
use Rattle.lrp_model.specs.Rows.{Datum, time, Holds}
use Rattle.lrp_model.specs.Satisfaction.{Structure, Assignment, with_value, term_value, Passes, IsOfSort, Either, ForSome}
use Rattle.lrp_model.specs.Sorting.{Binders}
use Rattle.lrp_model.specs.Checked.{term_of, compare_of}
use Rattle.lrp_model.specs.RawTerms.{time_of}
use Rattle.lrp_model.specs.declared.relations.Sort.TheVariants.{Time}
use Rattle.lrp_model.specs.declared.raw.Ranged.{Ranged}
use Rattle.lrp_model.specs.declared.raw.Ranged.TheVariants.{Once, Always}
use Rattle.lrp_model.specs.declared.raw.Paired.{Paired}
use Rattle.lrp_model.specs.declared.raw.Paired.TheVariants.{Since, Until}
use Rattle.lrp_model.specs.declared.raw.RawColumn.{RawColumn}
use Rattle.lrp_model.specs.declared.formulas.Test.TheVariants.{Member}

-- the variable of an operator, which inside it is one for integers
abbrev pub operator_variable : Operator → RawColumn
operator_variable o = record { name = o.name; place = o.name_place; sort = Time; sort_place = o.name_place }

-- the moments of an interval: some of them satisfy F, or every one does
abbrev pub InRange : Ranged → ℤ → ℤ → (ℤ → Type 0) → Type 0
InRange Once low high F = ForSome (λ x. (low ≤ℤ x) × (x ≤ℤ high) × F x)
InRange Always low high F = (x : ℤ) → (low ≤ℤ x) × (x ≤ℤ high) → F x

-- some moment up to now satisfies G, and every later one up to now satisfies F; or the same from now on
abbrev pub InPair : Paired → ℤ → (ℤ → Type 0) → (ℤ → Type 0) → Type 0
InPair Since now F G = ForSome (λ x. (x ≤ℤ now) × G x × ((y : ℤ) → (x <ℤ y) × (y ≤ℤ now) → F y))
InPair Until now F G = ForSome (λ x. (now ≤ℤ x) × G x × ((y : ℤ) → (now ≤ℤ y) × (y <ℤ x) → F y))

-- within binders, the assignment satisfies the formula in the structure
abbrev mutual
  pub TenseSatisfies : RawForm → Binders → Structure → Assignment → Type 0
  TenseSatisfies (raw_atom p n ts) bs M env = Holds M.relations n (map (term_value env) (map (term_of bs) ts))
  TenseSatisfies (raw_compare p l op r) bs M env = Passes env (compare_of bs l op r)
  TenseSatisfies (raw_member p t point) bs M env = Passes env (Member (time_of t.kind) point)
  TenseSatisfies (raw_not p f) bs M env = TenseSatisfies f bs M env → ⊥
  TenseSatisfies (raw_and p fs) bs M env = TenseSatisfiesAll fs bs M env
  TenseSatisfies (raw_or p fs) bs M env = TenseSatisfiesSome fs bs M env
  TenseSatisfies (raw_implies p f g) bs M env = TenseSatisfies f bs M env → TenseSatisfies g bs M env
  TenseSatisfies (raw_group p f) bs M env = TenseSatisfies f bs M env
  TenseSatisfies (raw_exists p c f) bs M env = ForSome (λ d. IsOfSort M c.sort d × TenseSatisfies f (c ∷ bs) M (with_value c.name d env))
  TenseSatisfies (raw_forall p c f) bs M env = (d : Datum) → IsOfSort M c.sort d → TenseSatisfies f (c ∷ bs) M (with_value c.name d env)
  TenseSatisfies (raw_ranged word o from to f) bs M env =
      InRange word (env.times o.name +ℤ from) (env.times o.name +ℤ to) (λ x. TenseSatisfies f (operator_variable o ∷ bs) M (with_value o.name (time x) env))
  TenseSatisfies (raw_paired word o f g) bs M env =
      InPair word (env.times o.name) (λ y. TenseSatisfies f (operator_variable o ∷ bs) M (with_value o.name (time y) env)) (λ x. TenseSatisfies g (operator_variable o ∷ bs) M (with_value o.name (time x) env))

  pub TenseSatisfiesAll : RawForms → Binders → Structure → Assignment → Type 0
  TenseSatisfiesAll no_raws bs M env = Unit {0}
  TenseSatisfiesAll (raw f fs) bs M env = TenseSatisfies f bs M env × TenseSatisfiesAll fs bs M env

  pub TenseSatisfiesSome : RawForms → Binders → Structure → Assignment → Type 0
  TenseSatisfiesSome no_raws bs M env = ⊥
  TenseSatisfiesSome (raw f fs) bs M env = Either (TenseSatisfies f bs M env) (TenseSatisfiesSome fs bs M env)
