-- What kept form says of each disjunct, and what the kept reach reads of relations.
use Rattle.std.proofs.Common.{◌≡◌, ◌+◌, ◌*◌, ◌^◌, ℕ, true, false, not, List, [], ◌∷◌, ◌++◌, length, map, flat_map, refl, ap, ap₂, bytes_eq, Contains}
use Rattle.std.specs.Prelude.{◌&&◌, if◌then◌else◌}
use Rattle.std.proofs.lemmas.Bool.{and_parts}
use mathlib.Core.Path.{fun_ext}
use Rattle.lrp_model.specs.Formulas.{Form, Question}
use Rattle.lrp_model.specs.Sorts.{time_count}
use Rattle.lrp_model.specs.Reach.{greatest, term_magnitudes, test_reach}
use Rattle.lrp_model.specs.Texts.{Identifier}
use Rattle.lrp_model.specs.declared.relations.Relation.{Relation}
use Rattle.lrp_plan_laws.specs.Atoms.{Atom, atoms}
use Rattle.lrp_kept.specs.Choices.{disjunct_tests, listed_disjuncts}
use Rattle.lrp_kept.specs.KeptForm.{all_occur, all_pass, bound_variables, kept_elements, is_atom, is_conjunctive, is_disjunct, is_kept, is_neither, query_disjuncts, some_passes, tested_variables}
use Rattle.lrp_kept.specs.Limits.{kept_reach, most_of, scaled_kept_reach, time_quantifiers, number_beside}
use Rattle.lrp_model.specs.Variables.{head_variables}
use Rattle.lrp_keep.proofs.KeptAnswers.{not_true, one_passes}

parts_of : (q : Question) → is_kept q ≡ true → (f : Form) → Contains (listed_disjuncts q) f → (is_conjunctive (kept_elements f) ≡ true) × (all_occur (kept_elements f) (head_variables q.head) ≡ true)
parts_of q kept f c =
    let good : is_disjunct q.head f ≡ true = one_passes (is_disjunct q.head) (query_disjuncts q) f kept c in
    let two = and_parts (is_conjunctive (kept_elements f) && all_occur (kept_elements f) (head_variables q.head)) (all_occur (kept_elements f) (bound_variables f)) good in
    and_parts (is_conjunctive (kept_elements f)) (all_occur (kept_elements f) (head_variables q.head)) two.0

pub conjunctive_of : (q : Question) → is_kept q ≡ true → (f : Form) → Contains (listed_disjuncts q) f → is_conjunctive (kept_elements f) ≡ true
conjunctive_of q kept f c = (parts_of q kept f c).0

-- the variables of the head occur in atoms
pub head_occurs : (q : Question) → is_kept q ≡ true → (f : Form) → Contains (listed_disjuncts q) f → all_occur (kept_elements f) (head_variables q.head) ≡ true
head_occurs q kept f c = (parts_of q kept f c).1

pub literal_in : (f : Form) → is_conjunctive (kept_elements f) ≡ true → some_passes is_neither (kept_elements f) ≡ false
literal_in f e =
    let a = and_parts (not (some_passes is_neither (kept_elements f)) && some_passes is_atom (kept_elements f)) (all_pass (λ g. all_occur (kept_elements f) (tested_variables g)) (kept_elements f)) e in
    not_true (some_passes is_neither (kept_elements f)) (and_parts (not (some_passes is_neither (kept_elements f))) (some_passes is_atom (kept_elements f)) a.0).0

pub literal_of : (q : Question) → is_kept q ≡ true → (f : Form) → Contains (listed_disjuncts q) f → some_passes is_neither (kept_elements f) ≡ false
literal_of q kept f c = literal_in f (conjunctive_of q kept f c)

-- ---- the kept reach reads names alone

number_named : (db other : List Relation) (bounds : List ℕ) (name : Identifier) → map (λ (r : Relation). r.name) other ≡ map (λ (r : Relation). r.name) db → number_beside other bounds name ≡ number_beside db bounds name
number_named [] [] bounds name e = refl
number_named [] (s ∷ other) bounds name e = cc
number_named (r ∷ db) [] bounds name e = cc
number_named (r ∷ db) (s ∷ other) [] name e = refl
number_named (r ∷ db) (s ∷ other) (n ∷ bounds) name e =
    let head : s.name ≡ r.name = cc in
    let tail : map (λ (r : Relation). r.name) other ≡ map (λ (r : Relation). r.name) db = cc in
    ap₂ (λ m k. if bytes_eq m name then n else k) head (number_named db other bounds name tail)

-- the reach over numbers beside names
abbrev reach_by : (Identifier → ℕ) → ℕ → Question → ℕ
reach_by number period q =
    let steps = most_of (λ f. length (atoms f)) q + most_of (λ f. length (disjunct_tests f)) q in
    (most_of (λ f. greatest (map (λ (a : Atom). number a.name + 2 * greatest (flat_map term_magnitudes a.terms) + period) (atoms f) ++ map test_reach (disjunct_tests f))) q + steps * period) * 2 ^ most_of time_quantifiers q

pub reach_named : (db other : List Relation) (bounds : List ℕ) (period : ℕ) (q : Question) → map (λ (r : Relation). r.name) other ≡ map (λ (r : Relation). r.name) db → kept_reach other bounds period q ≡ kept_reach db bounds period q
reach_named db other bounds period q e = ap (λ number. reach_by number period q) (fun_ext (λ name. number_named db other bounds name e))

pub scaled_named : (db other : List Relation) (bounds : List ℕ) (period : ℕ) (q : Question) → map (λ (r : Relation). r.name) other ≡ map (λ (r : Relation). r.name) db → scaled_kept_reach other bounds period q ≡ scaled_kept_reach db bounds period q
scaled_named db other bounds period q e = ap (λ n. 2 ^ (time_count q.head + 1) * n) (reach_named db other bounds period q e)
