-- The answers of all whole choices are those of the query.
use Rattle.std.proofs.Common.{◌≡◌, ◌<◌, ◌+◌, ◌-◌, ℕ, zero, suc, Bool, true, false, List, [], ◌∷◌, length, map, flat_map, Contains, Option, Some, None, ◌⊎◌, inl, inr, refl, sym, ap, subst, ◌∙◌, arith}
use Rattle.std.specs.Prelude.{pos, ◌&&◌, not, slice_get}
use Rattle.std.proofs.lemmas.List.{length-map}
use Rattle.std.specs.List.{AllByRecursion, AllZip}
use Rattle.slab.specs.Slab.{get}
use Rattle.lrp_model.specs.Core.{conjuncts}
use Rattle.lrp_model.specs.Domains.{domain as domain_of}
use Rattle.lrp_model.specs.Formulas.{Form, Forms, Question, atom, test as test_form, sorted as sorted_form, negation, conjunction, disjunction, implication, exists, forall, no_forms, form}
use Rattle.lrp_model.specs.Rows.{Datum, time, text, texts_of, times_of}
use Rattle.lrp_model.specs.Satisfaction.{Assignment, HasShape, HaveDistinctNames, IsAnswer, IsOfKind, IsOfSort, Passes, Structure, assignment, structure}
use Rattle.lrp_model.specs.Sorts.{is_data}
use Rattle.lrp_model.specs.Texts.{AreDistinct, Ascends, Identifier, Text}
use Rattle.lrp_model.specs.Variables.{Variable, data_variable, bound_by, head_variables}
use Rattle.lrp_model.specs.declared.formulas.Test.{Test}
use Rattle.lrp_model.specs.declared.relations.Column.{Column}
use Rattle.lrp_model.specs.declared.relations.Relation.{Relation}
use Rattle.lrp_model.specs.declared.relations.Sort.{Sort}
use Rattle.lrp_model.specs.declared.relations.Sort.TheVariants.{Time, Data, Named}
use Rattle.lrp_model.proofs.Decided.{cons_cases, contains_first, contains_later, stable_of}
use Rattle.lrp_plan_laws.specs.Atoms.{Atom, atoms, atoms_each}
use Rattle.lrp_plan_laws.proofs.Members.{all_by, all_of}
use Rattle.lrp_store.specs.Stores.{IsStore, StoreView}
use Rattle.lrp_store.specs.Tables.{InAnswer, StoreHolds}
use Rattle.lrp_tables.proofs.TableLaws.{decided_store}
use Rattle.lrp_tables.specs.Columns.{head_texts, head_times, text_name, texts_of_term}
use Rattle.lrp_tables.specs.Tables.{HasAssignment, HasTexts}
use Rattle.lrp_parts.specs.Bound.{AreCompleted}
use Rattle.lrp_kept.specs.Choices.{ChosenWithValues, IsChosenBy, IsDerived, as_list, listed_disjuncts, tests_among}
use Rattle.lrp_parts.specs.Derivations.{AreKeysFor, Ground, HoldsIn, IsDerivedFor, IsDerivedFrom, IsHeldFor, IsOfChoice, IsOfPart, Levels, last_atom, atom_tests, tests_of_part, atom_texts}
use Rattle.lrp_kept.specs.Keys.{keys_of}
use Rattle.lrp_kept.specs.Disjuncts.{AreDisjunctsOf, IsAtomOf, IsDisjunctOf, bound_columns}
use Rattle.lrp_kept.specs.Held.{names_of, relations_of}
use Rattle.lrp_kept.specs.KeptForm.{all_occur, all_pass, bound_variables, kept_elements, is_atom_with, is_conjunctive, is_disjunct, is_kept, is_neither, matrix, query_disjuncts, some_passes}
use Rattle.lrp_kept.specs.SortedForms.{IsSortedForm, binders_at}
use Rattle.lrp_keep.specs.Unions.{AreDerived, HoldsAll, IsChoiceAnswerIn}
use Rattle.lrp_kept.specs.declared.disjuncts.Disjunct.{Disjunct}
use Rattle.lrp_kept.specs.declared.disjuncts.JoinedAtom.{JoinedAtom}
use Rattle.lrp_parts.proofs.Completed.{HasSortedTexts, binders_stay, from_chosen, in_the_end, to_chosen}
use Rattle.lrp_kept.proofs.Derived.{body_from, body_to}
use Rattle.lrp_kept.proofs.DisjunctAtoms.{HaveOwnNames, atoms_are, binder_text, own_names_at, sorted_atoms, sorted_elements, some_text}
use Rattle.lrp_parts.proofs.KeyedRows.{keys_chosen, rows_chosen}
use Rattle.lrp_kept.proofs.MatchedTexts.{in_domain}
use Rattle.lrp_parts.proofs.Parted.{tests_are}
use Rattle.lrp_tables.proofs.TupleLaws.{tuple_times, tuple_texts}
use Rattle.lrp_model.proofs.Unique.{shape_of}
use Rattle.lrp_plan_laws.proofs.Elements.{found as at_place, within as there_is}
use Rattle.lrp_plan_laws.proofs.PlanLaws.{and_first}

-- ---- lists

pub zip_at : {X Y : Type 0} (R : X → Y → Type 0) (xs : List X) (ys : List Y) (x : X) → AllZip R xs ys → Contains xs x → (i : ℕ) × (y : Y) × (slice_get ys i ≡ Some y) × R x y
zip_at R [] ys x z i = absurd (let l : i.0 < 0 = i.1 in omega (arith, l))
zip_at R (w ∷ xs) [] x z i = absurd z
zip_at R (w ∷ xs) (y ∷ ys) x z i = elim (cons_cases w x xs i) [
  | inl e ↦ (0, y, refl, subst (λ v. R v y) e z.0)
  | inr more ↦ let r = zip_at R xs ys x z.1 more in (suc r.0, r.1, r.2, r.3)
]

pub zip_back : {X Y : Type 0} (R : X → Y → Type 0) (xs : List X) (ys : List Y) (i : ℕ) (y : Y) → AllZip R xs ys → slice_get ys i ≡ Some y → (x : X) × Contains xs x × R x y
zip_back R [] [] i y z e = absurd (none_is y e)
  where
    none_is : {Z : Type 0} (y : Z) → None ≡ Some y → ⊥
    none_is y e = cc
zip_back R [] (w ∷ ys) i y z e = absurd z
zip_back R (x ∷ xs) [] i y z e = absurd z
zip_back R (x ∷ xs) (w ∷ ys) zero y z e = (x, contains_first x xs, subst (λ v. R x v) (let s : w ≡ y = cc in s) z.0)
zip_back R (x ∷ xs) (w ∷ ys) (suc i) y z e = let r = zip_back R xs ys i y z.1 e in (r.0, contains_later x r.0 xs r.1, r.2)

-- ---- Booleans

and_right : (a b : Bool) → (a && b) ≡ true → b ≡ true
and_right true b e = e
and_right false b e = cc

pub not_true : (a : Bool) → not a ≡ true → a ≡ false
not_true true e = cc
not_true false e = refl

pub one_occurs : (fs : Forms) (vs : List Variable) (v : Variable) → all_occur fs vs ≡ true → Contains vs v → some_passes (is_atom_with v) fs ≡ true
one_occurs fs [] v e i = absurd (let l : i.0 < 0 = i.1 in omega (arith, l))
one_occurs fs (w ∷ vs) v e i = elim (cons_cases w v vs i) [
  | inl s ↦ subst (λ x. some_passes (is_atom_with x) fs ≡ true) s (and_first (some_passes (is_atom_with w) fs) (all_occur fs vs) e)
  | inr more ↦ one_occurs fs vs v (and_right (some_passes (is_atom_with w) fs) (all_occur fs vs) e) more
]

pub one_passes : (p : Form → Bool) (fs : Forms) (f : Form) → all_pass p fs ≡ true → Contains (as_list fs) f → p f ≡ true
one_passes p no_forms f e i = absurd (let l : i.0 < 0 = i.1 in omega (arith, l))
one_passes p (form g fs) f e i = elim (cons_cases g f (as_list fs) i) [
  | inl s ↦ subst (λ x. p x ≡ true) s (and_first (p g) (all_pass p fs) e)
  | inr more ↦ one_passes p fs f (and_right (p g) (all_pass p fs) e) more
]

-- ---- what answers rest on

-- a disjunct's atoms and tests are those that the whole choice asks
pub record IsWholeAt (d : Disjunct) : Type 0 where
  pub some : 0 < length d.atoms.items
  pub tests_to : (t : Test) → Contains (atom_tests (last_atom d (length d.atoms.items))) t → Contains d.tests t
  pub tests_from : (t : Test) → Contains d.tests t → Contains (atom_tests (last_atom d (length d.atoms.items))) t
  pub texts : (v : Identifier) → Contains (atom_texts (last_atom d (length d.atoms.items))) v → (j : JoinedAtom) × Contains d.atoms.items j × Contains (flat_map texts_of_term j.terms) v

-- a query in kept form, its disjuncts over the ground's rows, whose binders within the head are sorted; the constants are known
pub record RestsOn (g : Ground) (q : Question) (bs : List Column) (ds : List Disjunct) : Type 0 where
  pub head : g.head ≡ q.head
  pub distinct : AreDistinct (names_of g.rows)
  pub disjuncts : AreDisjunctsOf (names_of g.rows) q ds
  pub whole : (i : ℕ) (d : Disjunct) → slice_get ds i ≡ Some d → IsWholeAt d
  pub kept : is_kept q ≡ true
  pub sorted : (f : Form) → Contains (listed_disjuncts q) f → IsSortedForm f (relations_of (get g.rows.sources) g.rows.relations.items) bs
  pub names : HaveDistinctNames q.head
  pub own : HaveOwnNames bs
  pub columns : (c : Column) → Contains q.head c → Contains bs c
  pub binders : (c : Column) → Contains bs c → Contains q.head c
  pub ascends : Ascends g.domain
  pub known : (s : Sort) (t : Text) → Contains (domain_of (relations_of (get g.rows.sources) g.rows.relations.items) q s) t → Contains g.domain t

-- ---- a tuple and its assignment

-- texts of their sorts are of the domain
known_texts : (M : Structure) (domain : List Text) → ((s : Sort) (t : Text) → Contains (M.domain s) t → Contains domain t) → (env : Assignment) (cs : List Column) (ds : List Datum) → AllZip (λ c d. IsOfSort M c.sort d) cs ds → map env.texts (head_texts cs) ≡ texts_of ds → HasTexts domain (head_texts cs) env
known_texts M domain known env [] [] h e = tt
known_texts M domain known env [] (d ∷ ds) h e = absurd h
known_texts M domain known env (c ∷ cs) [] h e = absurd h
known_texts M domain known env (c ∷ cs) (d ∷ ds) h e = by c.sort d h.0 e (λ r. known_texts M domain known env cs ds h.1 r)
  where
    by : (s : Sort) (d : Datum) → IsOfSort M s d → map env.texts (text_name s c.name (head_texts cs)) ≡ texts_of (d ∷ ds) → (map env.texts (head_texts cs) ≡ texts_of ds → HasTexts domain (head_texts cs) env) → HasTexts domain (text_name s c.name (head_texts cs)) env
    by Time (time x) k e rest = rest e
    by Time (text t) k e rest = absurd k
    by Data (time x) k e rest = absurd k
    by Data (text t) k e rest = (subst (λ u. Contains domain u) (let s : t ≡ env.texts c.name = cc in s) (known Data t k), rest (let s : map env.texts (head_texts cs) ≡ texts_of ds = cc in s))
    by (Named n) (time x) k e rest = absurd k
    by (Named n) (text t) k e rest = (subst (λ u. Contains domain u) (let s : t ≡ env.texts c.name = cc in s) (known (Named n) t k), rest (let s : map env.texts (head_texts cs) ≡ texts_of ds = cc in s))

-- a tuple whose texts are of their sorts fits
fitting : (M : Structure) (env : Assignment) (cs : List Column) (ds : List Datum) → HasShape cs ds → map env.texts (head_texts cs) ≡ texts_of ds → ((c : Column) → Contains cs c → is_data c.sort ≡ true → Contains (M.domain c.sort) (env.texts c.name)) → AllZip (λ c d. IsOfSort M c.sort d) cs ds
fitting M env [] [] k e h = tt
fitting M env [] (d ∷ ds) k e h = absurd k
fitting M env (c ∷ cs) [] k e h = absurd k
fitting M env (c ∷ cs) (d ∷ ds) k e h = by c.sort d k.0 e (h c (contains_first c cs)) (λ r. fitting M env cs ds k.1 r (λ b i. h b (contains_later c b cs i)))
  where
    by : (s : Sort) (d : Datum) → IsOfKind s d → map env.texts (text_name s c.name (head_texts cs)) ≡ texts_of (d ∷ ds) → (is_data s ≡ true → Contains (M.domain s) (env.texts c.name)) → (map env.texts (head_texts cs) ≡ texts_of ds → AllZip (λ c d. IsOfSort M c.sort d) cs ds) → IsOfSort M s d × AllZip (λ c d. IsOfSort M c.sort d) cs ds
    by Time (time x) k e g rest = (tt, rest e)
    by Time (text t) k e g rest = absurd k
    by Data (time x) k e g rest = absurd k
    by Data (text t) k e g rest = (subst (λ u. Contains (M.domain Data) u) (let s : env.texts c.name ≡ t = cc in s) (g refl), rest (let s : map env.texts (head_texts cs) ≡ texts_of ds = cc in s))
    by (Named n) (time x) k e g rest = absurd k
    by (Named n) (text t) k e g rest = (subst (λ u. Contains (M.domain (Named n)) u) (let s : env.texts c.name ≡ t = cc in s) (g refl), rest (let s : map env.texts (head_texts cs) ≡ texts_of ds = cc in s))

-- ---- one disjunct

module _ (g : Ground) (q : Question) (bs : List Column) (ds : List Disjunct) (on : RestsOn g q bs ds) where
  abbrev db : List Relation
  db = relations_of (get g.rows.sources) g.rows.relations.items

  abbrev M : Structure
  M = structure db q

  module _ (f : Form) (listed : Contains (listed_disjuncts q) f) (d : Disjunct) (is : IsDisjunctOf (names_of g.rows) f d) (whole : IsWholeAt d) where
    -- what kept form says of it
    good : is_disjunct q.head f ≡ true
    good = one_passes (is_disjunct q.head) (query_disjuncts q) f on.kept listed

    conjunctive : is_conjunctive (kept_elements f) ≡ true
    conjunctive = and_first (is_conjunctive (kept_elements f)) (all_occur (kept_elements f) (head_variables q.head)) (and_first (is_conjunctive (kept_elements f) && all_occur (kept_elements f) (head_variables q.head)) (all_occur (kept_elements f) (bound_variables f)) good)

    literal : some_passes is_neither (kept_elements f) ≡ false
    literal = not_true (some_passes is_neither (kept_elements f)) (and_first (not (some_passes is_neither (kept_elements f))) _ (and_first (not (some_passes is_neither (kept_elements f)) && some_passes _ (kept_elements f)) _ conjunctive))

    head_occurs : all_occur (kept_elements f) (head_variables q.head) ≡ true
    head_occurs = and_right (is_conjunctive (kept_elements f)) (all_occur (kept_elements f) (head_variables q.head)) (and_first (is_conjunctive (kept_elements f) && all_occur (kept_elements f) (head_variables q.head)) (all_occur (kept_elements f) (bound_variables f)) good)

    bound_occur : all_occur (kept_elements f) (bound_variables f) ≡ true
    bound_occur = and_right (is_conjunctive (kept_elements f) && all_occur (kept_elements f) (head_variables q.head)) (all_occur (kept_elements f) (bound_variables f)) good

    sorted : IsSortedForm f db bs
    sorted = on.sorted f listed

    zipped : AllZip (IsAtomOf (names_of g.rows)) (atoms_each (kept_elements f)) d.atoms.items
    zipped = subst (λ l. AllZip (IsAtomOf (names_of g.rows)) l d.atoms.items) (atoms_are f) is.atoms_are

    -- each binder of a text has one of its sort
    sorted_texts : (keys : List ℕ) → AreKeysFor g.rows d.atoms.items keys → length keys ≡ length d.atoms.items → HasSortedTexts g.domain M (IsOfChoice g d keys) (binders_at f bs)
    sorted_texts keys rows size env h b i kindly =
        let r = rows_chosen g.rows on.distinct env (atoms_each (kept_elements f)) d.atoms.items keys zipped rows size h.rows in
        in_domain db q b.sort (env.texts b.name) (binder_text db (binders_at f bs) env (kept_elements f) r.0 b (own_names_at f db bs sorted on.own) literal (sorted_elements f db bs sorted) r.1 r.2 i (occurs b i kindly))
      where
        as_text : (b : Column) → is_data b.sort ≡ true → bound_by b.sort b.name ≡ data_variable b.name
        as_text b e = by b.sort e
          where
            by : (s : Sort) → is_data s ≡ true → bound_by s b.name ≡ data_variable b.name
            by Time e = cc
            by Data e = refl
            by (Named n) e = refl

        in_head : (cs : List Column) (b : Column) → Contains cs b → Contains (head_variables cs) (bound_by b.sort b.name)
        in_head [] b i = absurd (let l : i.0 < 0 = i.1 in omega (arith, l))
        in_head (c ∷ cs) b i = elim (cons_cases c b cs i) [
          | inl e ↦ subst (λ (x : Column). Contains (head_variables (c ∷ cs)) (bound_by x.sort x.name)) e (contains_first (bound_by c.sort c.name) (head_variables cs))
          | inr more ↦ contains_later (bound_by c.sort c.name) (bound_by b.sort b.name) (head_variables cs) (in_head cs b more)
        ]

        -- a binder is one around the disjunct, or its own
        which : (f : Form) (cs : List Column) (b : Column) → Contains (binders_at f cs) b → Contains cs b ⊎ Contains (bound_variables f) (bound_by b.sort b.name)
        which (exists v s f) cs b i = elim (which f (record { name = v; sort = s } ∷ cs) b i) [
          | inl k ↦ elim (cons_cases (record { name = v; sort = s }) b cs k) [
            | inl e ↦ inr (subst (λ (x : Column). Contains (bound_by s v ∷ bound_variables f) (bound_by x.sort x.name)) e (contains_first (bound_by s v) (bound_variables f)))
            | inr more ↦ inl more
          ]
          | inr k ↦ inr (contains_later (bound_by s v) (bound_by b.sort b.name) (bound_variables f) k)
        ]
        which (atom name terms) cs b i = inl i
        which (test_form t) cs b i = inl i
        which (sorted_form s v) cs b i = inl i
        which (negation f) cs b i = inl i
        which (conjunction fs) cs b i = inl i
        which (disjunction fs) cs b i = inl i
        which (implication f k) cs b i = inl i
        which (forall v s f) cs b i = inl i

        occurs : (b : Column) → Contains (binders_at f bs) b → is_data b.sort ≡ true → some_passes (is_atom_with (data_variable b.name)) (kept_elements f) ≡ true
        occurs b i kindly = subst (λ v. some_passes (is_atom_with v) (kept_elements f) ≡ true) (as_text b kindly) (elim (which f bs b i) [
          | inl k ↦ one_occurs (kept_elements f) (head_variables q.head) (bound_by b.sort b.name) head_occurs (in_head q.head b (on.binders b k))
          | inr k ↦ one_occurs (kept_elements f) (bound_variables f) (bound_by b.sort b.name) bound_occur k
        ])

    -- ---- a choice by its keys

    abbrev AreWholeKeys : List ℕ → Type 0
    AreWholeKeys keys = AreKeysFor g.rows d.atoms.items keys × (length keys ≡ length d.atoms.items)

    chosen_by : (keys : List ℕ) → AreWholeKeys keys → (env : Assignment) → IsOfChoice g d keys env → IsChosenBy db (conjuncts (matrix f)) env
    chosen_by keys k env h =
        let r = rows_chosen g.rows on.distinct env (atoms_each (kept_elements f)) d.atoms.items keys zipped k.0 k.1 h.rows in
        record {
          rows = r.0;
          held = r.1;
          is = record {
            rows_match = r.2;
            tests_pass = all_by (Passes env) (tests_among (kept_elements f)) (λ t i. all_of (Passes env) (atom_tests (last_atom d (length keys))) t h.passes (subst (λ n. Contains (atom_tests (last_atom d n)) t) (sym k.1) (whole.tests_from t (subst (λ l. Contains l t) (sym is.tests_are) i))));
          };
        }

    keyed_by : (env : Assignment) → IsChosenBy db (conjuncts (matrix f)) env → (keys : List ℕ) × AreWholeKeys keys × IsOfChoice g d keys env
    keyed_by env c =
        let r = keys_chosen g.rows on.distinct env (atoms_each (kept_elements f)) d.atoms.items c.rows zipped c.held c.is.rows_match in (
          r.0,
          (r.1, r.2),
          record {
            known = all_by (λ v. Contains g.domain (env.texts v)) (atom_texts (last_atom d (length r.0))) (λ v i. text v (whole.texts v (subst (λ n. Contains (atom_texts (last_atom d n)) v) r.2 i)));
            rows = r.3;
            passes = all_by (Passes env) (atom_tests (last_atom d (length r.0))) (λ t i. all_of (Passes env) (tests_among (kept_elements f)) t c.is.tests_pass (subst (λ l. Contains l t) is.tests_are (whole.tests_to t (subst (λ n. Contains (atom_tests (last_atom d n)) t) r.2 i))));
          },
        )
      where
        atom_of : (all : List Atom) (js : List JoinedAtom) (j : JoinedAtom) → AllZip (IsAtomOf (names_of g.rows)) all js → Contains js j → (a : Atom) × Contains all a × (j.terms ≡ a.terms)
        atom_of [] [] j z i = absurd (let l : i.0 < 0 = i.1 in omega (arith, l))
        atom_of [] (k ∷ js) j z i = absurd z
        atom_of (a ∷ all) [] j z i = absurd z
        atom_of (a ∷ all) (k ∷ js) j z i = elim (cons_cases k j js i) [
          | inl e ↦ (a, contains_first a all, subst (λ (x : JoinedAtom). x.terms ≡ a.terms) e z.0.terms)
          | inr more ↦ let r = atom_of all js j z.1 more in (r.0, contains_later a r.0 all r.1, r.2)
        ]

        text : (v : Identifier) → (j : JoinedAtom) × Contains d.atoms.items j × Contains (flat_map texts_of_term j.terms) v → Contains g.domain (env.texts v)
        text v x =
            let a = atom_of (atoms_each (kept_elements f)) d.atoms.items x.0 zipped x.1 in
            let t = some_text db (binders_at f bs) env (atoms_each (kept_elements f)) c.rows a.0 v (sorted_atoms (kept_elements f) db (binders_at f bs) literal (sorted_elements f db bs sorted)) c.held c.is.rows_match a.1 (subst (λ ts. Contains (flat_map texts_of_term ts) v) a.2 x.2) in
            on.known t.0.sort (env.texts v) (in_domain db q t.0.sort (env.texts v) t.3)

    pub derived_to : (keys : List ℕ) → AreWholeKeys keys → (env : Assignment) → AreCompleted g.domain (bound_columns f) (IsOfChoice g d keys) env → ChosenWithValues f M env
    derived_to keys k env h = to_chosen g.domain M f db bs (IsOfChoice g d keys) sorted (sorted_texts keys k.0 k.1) (chosen_by keys k) env h

    pub derived_from : (env : Assignment) → ChosenWithValues f M env → (keys : List ℕ) × AreWholeKeys keys × AreCompleted g.domain (bound_columns f) (IsOfChoice g d keys) env
    derived_from env h = from_chosen g.domain M on.known f AreWholeKeys (λ keys. IsOfChoice g d keys) keyed_by env h

    -- the head's texts are of their sorts
    pub head_sorted : (keys : List ℕ) → AreWholeKeys keys → (env : Assignment) → AreCompleted g.domain (bound_columns f) (IsOfChoice g d keys) env → (c : Column) → Contains q.head c → is_data c.sort ≡ true → Contains (M.domain c.sort) (env.texts c.name)
    head_sorted keys k env h c i kindly =
        let r = in_the_end g.domain f db bs (IsOfChoice g d keys) env sorted h in
        subst (λ t. Contains (M.domain c.sort) t) (r.texts c (on.columns c i)) (sorted_texts keys k.0 k.1 r.last r.member c (binders_stay g.domain f bs c (on.columns c i)) kindly)

  -- ---- all disjuncts

  module _ (all : List Levels) (derived : AreDerived g ds all) where
    -- what is held of a whole choice
    pub whole_choice : (i : ℕ) (d : Disjunct) (levels : Levels) → slice_get ds i ≡ Some d → slice_get all i ≡ Some levels → (keys : List ℕ) (value : Option StoreView) → HoldsIn levels (length levels - 1) keys value → (length keys ≡ length d.atoms.items) × IsDerivedFor g d keys value
    whole_choice i d levels at there keys value h =
        let w = derived.each i d levels at there in
        let x = w.sound.each (length levels - 1) keys value h in
        let s : 0 < length d.atoms.items = (on.whole i d at).some in
        let c : length levels ≡ length d.atoms.items = w.sound.count in
        let e : length keys ≡ length levels - 1 + 1 = x.0 in
        (omega (arith, s, c, e), x.1)

    same_some : {X : Type 0} (x y : X) → Some x ≡ Some y → x ≡ y
    same_some x y e = cc

    -- each answer of a whole choice is one of the query
    pub choice_to : (tuple : List Datum) → HasShape q.head tuple → IsChoiceAnswerIn all g.domain (times_of tuple) (texts_of tuple) → IsAnswer db q tuple
    choice_to tuple shape c =
        let there = there_is all c.number c.levels c.at in
        let at = at_place ds c.number (let l : c.number < length all = there in let m : length all ≡ length ds = derived.count in omega (arith, l, m)) in
        let d = at.0 in
        let w = whole_choice c.number d c.levels at.1 c.at c.keys (Some c.store) c.held in
        let a = w.1.answers w.0 in
        let e : c.store ≡ a.0 = same_some c.store a.0 a.1 in
        let back = zip_back (IsDisjunctOf (names_of g.rows)) (listed_disjuncts q) ds c.number d on.disjuncts.each at.1 in
        let f = back.0 in
        let env = assignment q.head tuple in
        let times : map env.times a.2.made.vars.times ≡ times_of tuple = ap (map env.times) (a.2.table.times_are ∙ ap head_times on.head) ∙ tuple_times q.head tuple (record { times = λ v. pos 0; texts = λ v. [] }) on.names shape in
        let texts : map env.texts a.2.made.vars.texts ≡ texts_of tuple = ap (map env.texts) (a.2.table.texts_are ∙ ap head_texts on.head) ∙ tuple_texts q.head tuple (record { times = λ v. pos 0; texts = λ v. [] }) on.names shape in
        let s : StoreHolds g.domain a.2.made.store (times_of tuple) (texts_of tuple) = subst (λ v. StoreHolds g.domain v (times_of tuple) (texts_of tuple)) (e ∙ sym a.2.store) c.has in
        let has : HasAssignment a.2.made g.domain env = subst (λ l. StoreHolds g.domain a.2.made.store l (map env.texts a.2.made.vars.texts)) (sym times) (subst (λ l. StoreHolds g.domain a.2.made.store (times_of tuple) l) (sym texts) s) in
        let y = a.2.table.sound env has in
        let z : AreCompleted g.domain (bound_columns f) (IsOfChoice g d c.keys) env = subst (λ l. AreCompleted g.domain l (IsOfChoice g d c.keys) env) back.2.bound_are y.completed in
        record {
          fits = fitting M env q.head tuple shape (tuple_texts q.head tuple (record { times = λ v. pos 0; texts = λ v. [] }) on.names shape) (head_sorted f back.1 d back.2 (on.whole c.number d at.1) c.keys (w.1.rows, w.0) env z);
          satisfies = body_from q M env on.kept (record { disjunct = f; listed = back.1; chosen = derived_to f back.1 d back.2 (on.whole c.number d at.1) c.keys (w.1.rows, w.0) env z });
        }

    -- where a disjunct has a choice each atom has a row
    choices : (atoms : List JoinedAtom) (keys : List ℕ) → AreKeysFor g.rows atoms keys → length keys ≡ length atoms → AllByRecursion (λ (a : JoinedAtom). (key : ℕ) × Contains (keys_of g.rows a.relation) key) atoms
    choices [] keys h e = tt
    choices (a ∷ atoms) [] h e = absurd (let z : 0 ≡ suc (length atoms) = e in omega (arith, z))
    choices (a ∷ atoms) (key ∷ keys) h e = ((key, h.0), choices atoms keys h.1 (let z : suc (length keys) ≡ suc (length atoms) = e in omega (arith, z)))

    -- what a disjunct derives is an answer of a whole choice
    choice_found : (tuple : List Datum) → AllZip (λ c d. IsOfSort M c.sort d) q.head tuple → IsDerived M (query_disjuncts q) (assignment q.head tuple) → IsChoiceAnswerIn all g.domain (times_of tuple) (texts_of tuple)
    choice_found tuple fits x =
        let env = assignment q.head tuple in
        let shape = shape_of M q.head tuple fits in
        let z = zip_at (IsDisjunctOf (names_of g.rows)) (listed_disjuncts q) ds x.disjunct on.disjuncts.each x.listed in
        let d = z.1 in
        let whole = on.whole z.0 d z.2 in
        let c = derived_from x.disjunct x.listed d z.3 whole env x.chosen in
        let there = at_place all z.0 (let l : z.0 < length ds = there_is ds z.0 d z.2 in let m : length all ≡ length ds = derived.count in omega (arith, l, m)) in
        let w = derived.each z.0 d there.0 z.2 there.1 in
        let last = in_the_end g.domain x.disjunct db bs (IsOfChoice g d c.0) env (on.sorted x.disjunct x.listed) c.2 in
        let part : IsOfPart g d c.0 last.last = record { known = last.member.known; rows = last.member.rows; passes = all_by (Passes last.last) (tests_of_part d (length c.0)) (λ t i. all_of (Passes last.last) (atom_tests (last_atom d (length c.0))) t last.member.passes (tests_are d (length c.0) t i)) } in
        let held = held_for d there.0 whole.some w c.0 c.1.0 c.1.1 last.last part in
        let size : length c.0 - 1 ≡ length there.0 - 1 = (let a : length c.0 ≡ length d.atoms.items = c.1.1 in let b : length there.0 ≡ length d.atoms.items = w.sound.count in omega (arith, a, b)) in
        let sound = w.sound.each (length c.0 - 1) c.0 held.0 held.1 in
        let a = sound.1.answers c.1.1 in
        let known : HasTexts g.domain (head_texts g.head) env = subst (λ h. HasTexts g.domain (head_texts h) env) (sym on.head) (known_texts M g.domain on.known env q.head tuple fits (tuple_texts q.head tuple (record { times = λ v. pos 0; texts = λ v. [] }) on.names shape)) in
        let has : HasAssignment a.2.made g.domain env = a.2.table.whole env (record { known = known; completed = subst (λ l. AreCompleted g.domain l (IsOfChoice g d c.0) env) (sym z.3.bound_are) c.2 }) in
        let times : map env.times a.2.made.vars.times ≡ times_of tuple = ap (map env.times) (a.2.table.times_are ∙ ap head_times on.head) ∙ tuple_times q.head tuple (record { times = λ v. pos 0; texts = λ v. [] }) on.names shape in
        let texts : map env.texts a.2.made.vars.texts ≡ texts_of tuple = ap (map env.texts) (a.2.table.texts_are ∙ ap head_texts on.head) ∙ tuple_texts q.head tuple (record { times = λ v. pos 0; texts = λ v. [] }) on.names shape in
        let s : StoreHolds g.domain a.2.made.store (times_of tuple) (texts_of tuple) = subst (λ l. StoreHolds g.domain a.2.made.store (times_of tuple) l) texts (subst (λ l. StoreHolds g.domain a.2.made.store l (map env.texts a.2.made.vars.texts)) times has) in
        record {
          number = z.0;
          levels = there.0;
          at = there.1;
          keys = c.0;
          store = a.0;
          held = subst (λ n. HoldsIn there.0 n c.0 (Some a.0)) size (subst (λ v. HoldsIn there.0 (length c.0 - 1) c.0 v) a.1 held.1);
          has = subst (λ v. StoreHolds g.domain v (times_of tuple) (texts_of tuple)) a.2.store s;
        }
      where
        held_for : (d : Disjunct) (levels : Levels) → 0 < length d.atoms.items → IsDerivedFrom g d levels → (keys : List ℕ) → AreKeysFor g.rows d.atoms.items keys → length keys ≡ length d.atoms.items → (env : Assignment) → IsOfPart g d keys env → IsHeldFor levels keys
        held_for d levels low w [] rows size env i = absurd (let e : 0 ≡ length d.atoms.items = size in omega (arith, low, e))
        held_for d levels low w (key ∷ more) rows size env i = (w.whole (choices d.atoms.items (key ∷ more) rows size) key).held more rows env i

    -- an answer of the query isn't without one
    pub choice_from : (tuple : List Datum) → IsAnswer db q tuple → (IsChoiceAnswerIn all g.domain (times_of tuple) (texts_of tuple) → ⊥) → ⊥
    choice_from tuple x none = body_to q M (assignment q.head tuple) on.kept x.satisfies (λ y. none (choice_found tuple x.fits y))

    module _ (store : StoreView) (kept : IsStore store) (times_are : store.shape.times ≡ length (head_times q.head)) (texts_are : store.shape.texts ≡ length (head_texts q.head)) (holds : HoldsAll all g.domain store) where
      -- each answer that is held is one of the query
      pub answer_to : (tuple : List Datum) → InAnswer q.head g.domain store tuple → IsAnswer db q tuple
      answer_to tuple x = choice_to tuple x.shape (holds.to (times_of tuple) (texts_of tuple) x.held)

      -- and each answer of the query is held
      pub answer_from : (tuple : List Datum) → IsAnswer db q tuple → InAnswer q.head g.domain store tuple
      answer_from tuple x =
          let shape = shape_of M q.head tuple x.fits in
          let times : length (times_of tuple) ≡ store.shape.times = sym (ap length (tuple_times q.head tuple (record { times = λ v. pos 0; texts = λ v. [] }) on.names shape)) ∙ length-map (head_times q.head) (assignment q.head tuple).times ∙ sym times_are in
          let texts : length (texts_of tuple) ≡ store.shape.texts = sym (ap length (tuple_texts q.head tuple (record { times = λ v. pos 0; texts = λ v. [] }) on.names shape)) ∙ length-map (head_texts q.head) (assignment q.head tuple).texts ∙ sym texts_are in
          record {
            shape = shape;
            held = stable_of (decided_store g.domain on.ascends store kept (times_of tuple) (texts_of tuple) times texts) (λ none. choice_from tuple x (λ y. none (holds.from (times_of tuple) (texts_of tuple) y)));
          }
