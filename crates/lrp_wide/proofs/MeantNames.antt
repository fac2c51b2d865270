-- What a name of an atom means, by the number of its definition.
use Rattle.std.proofs.Common.{◌≡◌, ℕ, Bool, cond, List, map, take, find, position, slice_get, Option, Some, None, refl, ap, sym, ◌∙◌}
use Rattle.std.proofs.lemmas.Option.{none-some}
use Rattle.std.specs.Option.{is_some}
use Rattle.std.specs.Str.{bytes_eq}
use Rattle.lrp_model.specs.Faults.{is_named_in}
use Rattle.lrp_model.specs.Rows.{relation_named}
use Rattle.lrp_model.specs.Texts.{Identifier}
use Rattle.lrp_model.specs.declared.relations.Relation.{Relation}
use Rattle.lrp_sorts.specs.Definitions.{Defined, definition_number}
use Rattle.lrp_sorts.proofs.Firsts.{is_found, named_placed, placed}
use Rattle.lrp_wide.specs.Inlining.{Known, known_named, meant_by}

-- the first so many definitions have the names of those that are known
module _ (d : Defined) (ks : List Known) (before : ℕ) (n : Identifier) (names : map (λ r. r.name) (take before d.definitions) ≡ map (λ k. k.name) ks) where
  same_place : position (bytes_eq n) (map (λ r. r.name) (take before d.definitions)) ≡ position (bytes_eq n) (map (λ k. k.name) ks)
  same_place = ap (position (bytes_eq n)) names

  -- no relation has it
  related : (o : Option Relation) → relation_named d.relations n ≡ o → is_named_in (map (λ r. r.name) d.relations) n ≡ is_some o
  related o e = sym (is_found (λ r. r.name) d.relations n) ∙ ap is_some e

  named : known_named ks n ≡ placed ks (position (bytes_eq n) (map (λ k. k.name) ks))
  named = named_placed (λ k. k.name) ks n

  -- a name of a relation, or of none of these definitions, means none
  meant : (o : Option Relation) (k : Option Known) → relation_named d.relations n ≡ o → known_named ks n ≡ k → meant_by d.relations ks n ≡ cond (is_some o) None k
  meant None k e f = rw (e, f) refl
  meant (Some r) k e f = rw e refl

  pub number_nowhere : definition_number d before n ≡ None → meant_by d.relations ks n ≡ None
  number_nowhere e = by (relation_named d.relations n) refl
    where
      by : (o : Option Relation) → relation_named d.relations n ≡ o → meant_by d.relations ks n ≡ None
      by (Some r) f = meant (Some r) (known_named ks n) f refl
      by None f =
          let place : position (bytes_eq n) (map (λ r. r.name) (take before d.definitions)) ≡ None =
          ap (λ b. cond b None (position (bytes_eq n) (map (λ r. r.name) (take before d.definitions)))) (sym (related None f)) ∙ e in
          meant None None f (named ∙ ap (placed ks) (sym same_place ∙ place))

  -- a name of one of them means that one
  pub number_there : (i : ℕ) → definition_number d before n ≡ Some i → meant_by d.relations ks n ≡ slice_get ks i
  number_there i e = by (relation_named d.relations n) refl
    where
      by : (o : Option Relation) → relation_named d.relations n ≡ o → meant_by d.relations ks n ≡ slice_get ks i
      by (Some r) f =
          let none : None ≡ Some i = ap (λ b. cond b None (position (bytes_eq n) (map (λ r. r.name) (take before d.definitions)))) (sym (related (Some r) f)) ∙ e in
          absurd (none-some i none)
      by None f =
          let place : position (bytes_eq n) (map (λ r. r.name) (take before d.definitions)) ≡ Some i =
          ap (λ b. cond b None (position (bytes_eq n) (map (λ r. r.name) (take before d.definitions)))) (sym (related None f)) ∙ e in
          meant None (slice_get ks i) f (named ∙ ap (placed ks) (sym same_place ∙ place))
