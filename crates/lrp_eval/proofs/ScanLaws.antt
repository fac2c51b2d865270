-- The steps of an atom, and of the texts of a sort.
use Rattle.std.proofs.Common.{◌≡◌, ◌≤◌, ◌+◌, ◌*◌, ◌^◌, ⊎_elim, ℕ, suc, Bool, true, false, not, cond, List, [], ◌∷◌, length, map, Option, Some, None, Contains, Result, refl, sym, ap, subst, ◌∙◌, arith, bytes_eq}
use Rattle.std.specs.Prelude.{ℤ, pos, nat_abs, flat_map, MatchOption}
use Rattle.std.specs.List.{AllByRecursion, AllZip}
use Rattle.std.proofs.lemmas.Int.{ints}
use Rattle.lrp_theory.specs.Divides.{Divides, IsMultiple}
use Rattle.lrp_model.specs.Texts.{Text, Identifier}
use Rattle.lrp_model.specs.Steps.{Steps}
use Rattle.lrp_model.specs.Formulas.{Question, atom}
use Rattle.lrp_model.specs.Sorts.{is_data, FitsColumn, time_count, text_count}
use Rattle.lrp_model.specs.Rows.{text, IsInRow, rows_of, rows_in, relation_named}
use Rattle.lrp_model.specs.Variables.{time_variable, data_variable, free}
use Rattle.lrp_model.specs.Satisfaction.{structure}
use Rattle.lrp_model.specs.Domains.{constants, row_texts, database_texts}
use Rattle.lrp_model.specs.Periods.{value_periods}
use Rattle.lrp_model.specs.Reach.{greatest, scan_reach}
use Rattle.lrp_model.specs.declared.relations.Sort.{Sort}
use Rattle.lrp_model.specs.declared.relations.Column.{Column}
use Rattle.lrp_model.specs.declared.relations.Bound.{Bound}
use Rattle.lrp_model.specs.declared.relations.Value.{Value}
use Rattle.lrp_model.specs.declared.relations.Value.TheVariants.{Point, Const}
use Rattle.lrp_model.specs.declared.relations.Row.{Row}
use Rattle.lrp_model.specs.declared.relations.Relation.{Relation}
use Rattle.lrp_model.specs.declared.formulas.DataTerm.TheVariants.{Var as data_var, Const as data_const}
use Rattle.lrp_model.specs.declared.formulas.Term.{Term}
use Rattle.lrp_model.specs.declared.formulas.Term.TheVariants.{Time as time_term, Data as data_term}
use Rattle.lrp_model.specs.declared.plans.StepKind.TheVariants.{Scan, Sort as SortStep, Extend}
use Rattle.lrp_model.proofs.Decided.{cons_cases, contains_first, contains_later, contains_none}
use Rattle.lrp_model.proofs.Logic.{all_append}
use Rattle.lrp_tables.specs.declared.table.StepFault.{StepFault}
use Rattle.lrp_tables.specs.declared.table.Table.{Table}
use Rattle.lrp_tables.specs.Calls.{CanBeRow, CanStand, IsColumnBound, HasText}
use Rattle.lrp_tables.specs.Columns.{scan_times, scan_texts}
use Rattle.lrp_tables.specs.Steps.{CanScan, IsScanResult}
use Rattle.lrp_tables.specs.Tables.{IsScanned, named_variables}
use Rattle.lrp_model.specs.Kept.{IsKept, IsRowOf, IsBoundOf, AreValuesOf}
use Rattle.lrp_plan_laws.specs.Atoms.{IsKnownScan, texts_of_terms}
use Rattle.lrp_plan_laws.specs.Scopes.{IsNarrow}
use Rattle.lrp_eval.specs.Running.{IsNext, IsRunResult, text_row, text_column}
use Rattle.lrp_eval.proofs.Denotes.{Denotes, scan_keeps, sort_keeps}
use Rattle.lrp_eval.proofs.Named.{all_of, scan_variables, time_named, data_named, texts_are, are_texts}
use Rattle.lrp_eval.proofs.Nexts.{formula_kind, reach_kind, keeps_kind, period_nat, own_variables, sound_plan, sound_step, meant, ran, no_order, IsMeant}
use Rattle.lrp_eval.proofs.Reading.{step_small, own_periods, high, low}
use Rattle.lrp_plan_laws.proofs.Members.{all_by}
use Rattle.lrp_steps.proofs.Steps.{abs_is}

-- ---- rows of a relation that is kept

stands : (domain : List Text) (K : ℕ) (cs : List Column) (vs : List Value) → AreValuesOf cs vs → AllByRecursion (λ k. (1 ≤ k) × IsMultiple k K) (flat_map value_periods vs) → AllByRecursion (λ entry. Contains domain entry.1) (row_texts cs vs) → AllZip (CanStand domain (pos K)) cs vs
stands domain K [] [] h p t = tt
stands domain K [] (v ∷ vs) h p t = absurd h
stands domain K (c ∷ cs) [] h p t = absurd h
stands domain K (c ∷ cs) (Point at ∷ vs) h p t =
    ((h.0.0, h.0.1, subst (λ z. Divides z (pos K)) (abs_is at.period h.0.1) p.0.1), stands domain K cs vs h.1 p.1 t)
stands domain K (c ∷ cs) (Const x ∷ vs) h p t = ((ap not h.0.0, t.0), stands domain K cs vs h.1 p t.1)

between : (times : ℕ) (bs : List Bound) → AllByRecursion (IsBoundOf times) bs → AllByRecursion (IsColumnBound times) bs
between times [] h = tt
between times (b ∷ bs) h = (record { left = h.0.left; right = h.0.right }, between times bs h.1)

rows_can : (domain : List Text) (K : ℕ) (cs : List Column) (rows : List Row) → AllByRecursion (IsRowOf cs) rows → AllByRecursion (λ k. (1 ≤ k) × IsMultiple k K) (flat_map (λ row. flat_map value_periods row.values) rows)
    → AllByRecursion (λ entry. Contains domain entry.1) (flat_map (λ row. row_texts cs row.values) rows) → AllByRecursion (CanBeRow domain (pos K) cs) rows
rows_can domain K cs [] h p t = tt
rows_can domain K cs (row ∷ rows) h p t =
    let a = (all_append (λ k. (1 ≤ k) × IsMultiple k K) (flat_map value_periods row.values) (flat_map (λ row. flat_map value_periods row.values) rows)).0 p in
    let b = (all_append (λ entry. Contains domain entry.1) (row_texts cs row.values) (flat_map (λ row. row_texts cs row.values) rows)).0 t in
    (record { values = stands domain K cs row.values h.0.values a.0 b.0; bounds = between (time_count cs) row.bounds h.0.bounds }, rows_can domain K cs rows h.1 a.1 b.1)

-- the texts of a relation of the database
one_found : (b : Bool) (r found : Relation) (rest : Option Relation) (p : Relation → Type 0) → p r → (rest ≡ Some found → p found) → cond b (Some r) rest ≡ Some found → p found
one_found true r found rest p h k e = let same : r ≡ found = cc in subst p same h
one_found false r found rest p h k e = k e

suits : (cs : List Column) (ts : List Term) → AllZip FitsColumn cs ts → AllZip FitsColumn cs ts
suits [] [] h = tt
suits [] (t ∷ ts) h = absurd h
suits (c ∷ cs) [] h = absurd h
suits (c ∷ cs) (time_term t ∷ ts) h = (h.0, suits cs ts h.1)
suits (c ∷ cs) (data_term t ∷ ts) h = (h.0, suits cs ts h.1)

has_texts : (domain : List Text) (ts : List Term) → AllByRecursion (Contains domain) (texts_of_terms ts) → AllByRecursion (HasText domain) ts
has_texts domain [] h = tt
has_texts domain (time_term t ∷ ts) h = (tt, has_texts domain ts h)
has_texts domain (data_term (data_var v) ∷ ts) h = (tt, has_texts domain ts h)
has_texts domain (data_term (data_const t) ∷ ts) h = (h.0, has_texts domain ts h.1)

found_texts : (db : List Relation) (name : Identifier) (r : Relation) (p : (Sort × Text) → Type 0) → relation_named db name ≡ Some r → AllByRecursion p (database_texts db) → AllByRecursion p (flat_map (λ row. row_texts r.columns row.values) r.rows)
found_texts [] name r p e h = cc
found_texts (s ∷ db) name r p e h =
    let a = (all_append p (flat_map (λ row. row_texts s.columns row.values) s.rows) (database_texts db)).0 h in
    one_found (bytes_eq s.name name) s r (relation_named db name) (λ x. AllByRecursion p (flat_map (λ row. row_texts x.columns row.values) x.rows)) a.0 (λ f. found_texts db name r p f a.1) e

-- ---- the step of an atom

module _ {planned : Steps} {db : List Relation} {q : Question} {cap : ℕ} {domain : List Text} {tables : List Table} {name : Identifier} {terms : List Term} {period : ℤ} (n : IsNext planned db q cap domain tables (Scan name terms) period) where
  scan_is : IsKnownScan db q (record { name = name; terms = terms })
  scan_is = (sound_step n).scans name terms (sym n.kind_is)

  -- the database has the relation
  pub some_relation : relation_named db name ≡ None → ⊥
  some_relation e = subst (λ o. MatchOption o ⊥ (λ r. AllZip FitsColumn r.columns terms)) e scan_is.fits

  other : (of : ℕ) → Scan name terms ≡ Extend of → ⊥
  other of e = cc

  module _ {relation : Relation} (found : relation_named db name ≡ Some relation) (kept : IsKept relation) where
    rows_are : rows_of db name ≡ relation.rows
    rows_are = ap rows_in found

    own : IsNarrow (free (atom name terms))
    own = subst IsNarrow (own_variables n.step.kind q.head (free n.step.formula) (λ of e. other of (n.kind_is ∙ e)) ∙ ap free (formula_kind n)) (sound_step n).narrow.own

    reach_is : n.step.reach ≡ scan_reach relation.rows terms (nat_abs period)
    reach_is = reach_kind n ∙ ap (λ rows. scan_reach rows terms n.step.period) rows_are ∙ ap (scan_reach relation.rows terms) (sym (period_nat n))

    pub can_scan : CanScan domain period relation terms
    can_scan = record {
      low = low n;
      high = high n;
      times = kept.times;
      texts = kept.texts;
      rows = subst (λ p. AllByRecursion (CanBeRow domain p relation.columns) relation.rows) (sym n.period_is)
          (rows_can domain n.step.period relation.columns relation.rows kept.rows
          (subst (λ rows. AllByRecursion (λ k. (1 ≤ k) × IsMultiple k n.step.period) (flat_map (λ row. flat_map value_periods row.values) rows)) rows_are (own_periods n))
          (found_texts db name relation (λ entry. Contains domain entry.1) found (subst (λ d. AllByRecursion (λ entry. Contains d entry.1) (database_texts db)) (sym n.domain_is) (sound_plan n).texts)));
      terms_fit = suits relation.columns terms (subst (λ o. MatchOption o ⊥ (λ r. AllZip FitsColumn r.columns terms)) found scan_is.fits);
      terms_known = subst (λ d. AllByRecursion (HasText d) terms) (sym n.domain_is) (has_texts (constants db q) terms scan_is.texts);
      apart = λ v a b. own.kinds v ((scan_variables name terms (time_variable v)).0 ((time_named (scan_times terms) (scan_texts terms) v).1 a)) ((scan_variables name terms (data_variable v)).0 ((data_named (scan_times terms) (scan_texts terms) v).1 b));
      reach = (let s = step_small n in subst (λ r. r ≤ 2 ^ 62) reach_is (omega arith));
    }

    pub denotes : Denotes (constants db q) (structure db q) (named_variables (scan_times terms) (scan_texts terms)) (IsScanned domain relation terms) n.step.formula
    denotes =
        subst (Denotes (constants db q) (structure db q) (named_variables (scan_times terms) (scan_texts terms)) (IsScanned domain relation terms)) (sym (formula_kind n))
        (subst (λ d. Denotes (constants db q) (structure db q) (named_variables (scan_times terms) (scan_texts terms)) (IsScanned d relation terms) (atom name terms)) (sym n.domain_is)
        (scan_keeps (constants db q) (structure db q) (named_variables (scan_times terms) (scan_texts terms)) name terms (IsScanned (constants db q) relation terms) (scan_variables name terms)
        (λ env. (
          (λ h. (texts_are (constants db q) (scan_times terms) (scan_texts terms) env h.known, (h.row, subst (λ rows. Contains rows h.row) (sym rows_are) h.listed, h.is))),
          λ h. record { known = are_texts (constants db q) (scan_times terms) (scan_texts terms) env h.0; row = h.1.0; listed = subst (λ rows. Contains rows h.1.0) rows_are h.1.1; is = h.1.2 },
        ))))

    is_meant : IsMeant n (named_variables (scan_times terms) (scan_texts terms)) (IsScanned domain relation terms)
    is_meant = meant n _ _ other denotes

    pub scan_ran : (result : Result Table StepFault) → IsScanResult cap domain period relation terms result → IsRunResult planned db q cap (suc (length tables)) result
    scan_ran result is =
        ran n _ _ _ _ is_meant (period_nat n) (λ high. scan_reach relation.rows terms (nat_abs period) ≤ high) (λ high. high) (scan_reach relation.rows terms (nat_abs period)) (omega arith) (sym reach_is) (λ t i. no_order n other t) result is

-- ---- the texts of a sort

abbrev pub variable_term : Identifier → List Term
variable_term v = data_term (data_var v) ∷ []

no_bounds : (texts : List Text) → flat_map (λ row. map (λ bound. nat_abs bound.most) row.bounds) (map text_row texts) ≡ []
no_bounds [] = refl
no_bounds (t ∷ ts) = no_bounds ts

texts_can : (domain : List Text) (c : Column) (texts : List Text) → is_data c.sort ≡ true → AllByRecursion (Contains domain) texts → AllByRecursion (CanBeRow domain (pos 1) (c ∷ [])) (map text_row texts)
texts_can domain c [] d h = tt
texts_can domain c (t ∷ ts) d h = (record { values = ((d, h.0), tt); bounds = tt }, texts_can domain c ts d h.1)

row_listed : (texts : List Text) (t : Text) → Contains texts t → Contains (map text_row texts) (text_row t)
row_listed [] t c = absurd (contains_none t c)
row_listed (u ∷ us) t c =
    ⊎_elim (λ e. subst (λ z. Contains (text_row u ∷ map text_row us) (text_row z)) e (contains_first (text_row u) (map text_row us)))
    (λ d. contains_later (text_row u) (text_row t) (map text_row us) (row_listed us t d)) (cons_cases u t us c)

listed_row : (texts : List Text) (row : Row) (x : Text) → Contains (map text_row texts) row → IsInRow row (text x ∷ []) → Contains texts x
listed_row [] row x c is = absurd (contains_none row c)
listed_row (u ∷ us) row x c is =
    ⊎_elim (λ e. let i : IsInRow (text_row u) (text x ∷ []) = subst (λ r. IsInRow r (text x ∷ [])) (sym e) is in subst (λ z. Contains (u ∷ us) z) (sym i.values.0) (contains_first u us))
    (λ d. contains_later u x us (listed_row us row x d is)) (cons_cases (text_row u) row (map text_row us) c)

module _ {planned : Steps} {db : List Relation} {q : Question} {cap : ℕ} {domain : List Text} {tables : List Table} {name : Identifier} {s : Sort} {texts : List Text} {period : ℤ} (n : IsNext planned db q cap domain tables (SortStep name s texts) period)
    (column : Identifier) (relation : Relation) (columns : relation.columns ≡ text_column column ∷ []) (rows : relation.rows ≡ map text_row texts) where
  known : AllByRecursion (Contains domain) texts
  known = subst (λ d. AllByRecursion (Contains d) texts) (sym n.domain_is) (all_by (Contains (constants db q)) texts (λ t c. (sound_plan n).sorts s t (subst (λ ts. Contains ts t) (formula_kind n).1 c)))

  reach_one : scan_reach relation.rows (variable_term name) 1 ≡ 1
  reach_one = ap (λ rs. scan_reach rs (variable_term name) 1) rows ∙ ap (λ ns. greatest ns + 2 * 0 + 1) (no_bounds texts)

  pub can_scan_texts : CanScan domain (pos 1) relation (variable_term name)
  can_scan_texts = record {
    low = omega (arith, ints);
    high = omega (arith, ints);
    times = subst (λ cs. time_count cs ≤ 8) (sym columns) (omega arith);
    texts = subst (λ cs. text_count cs ≤ 8) (sym columns) (omega arith);
    rows = subst (λ cs. AllByRecursion (CanBeRow domain (pos 1) cs) relation.rows) (sym columns) (subst (λ rs. AllByRecursion (CanBeRow domain (pos 1) (text_column column ∷ [])) rs) (sym rows) (texts_can domain (text_column column) texts refl known));
    terms_fit = subst (λ cs. AllZip FitsColumn cs (variable_term name)) (sym columns) (refl, tt);
    terms_known = (tt, tt);
    apart = λ v a b. contains_none v a;
    reach = subst (λ r. r ≤ 2 ^ 62) (sym reach_one) (omega arith);
  }

  sort_denotes : Denotes (constants db q) (structure db q) (named_variables (scan_times (variable_term name)) (scan_texts (variable_term name))) (IsScanned domain relation (variable_term name)) n.step.formula
  sort_denotes =
      subst (Denotes (constants db q) (structure db q) (named_variables (scan_times (variable_term name)) (scan_texts (variable_term name))) (IsScanned domain relation (variable_term name))) (sym (formula_kind n).0)
      (sort_keeps (constants db q) (structure db q) (named_variables (scan_times (variable_term name)) (scan_texts (variable_term name))) s name (IsScanned domain relation (variable_term name)) (λ v. ((λ c. c), λ c. c))
      (λ env. (
        (λ h. subst (λ ts. Contains ts (env.texts name)) (formula_kind n).1 (listed_row texts h.row (env.texts name) (subst (λ rs. Contains rs h.row) rows h.listed) h.is)),
        λ c.
            let d : Contains texts (env.texts name) = subst (λ ts. Contains ts (env.texts name)) (sym (formula_kind n).1) c in
            record { known = (all_of (Contains domain) texts (env.texts name) known d, tt); row = text_row (env.texts name); listed = subst (λ rs. Contains rs (text_row (env.texts name))) (sym rows) (row_listed texts (env.texts name) d); is = record { values = (refl, tt); bounds = tt } },
      )))

  sort_other : (of : ℕ) → SortStep name s texts ≡ Extend of → ⊥
  sort_other of e = cc

  sort_meant : IsMeant n (named_variables (scan_times (variable_term name)) (scan_texts (variable_term name))) (IsScanned domain relation (variable_term name))
  sort_meant = meant n _ _ sort_other sort_denotes

  pub sort_ran : (result : Result Table StepFault) → IsScanResult cap domain (pos 1) relation (variable_term name) result → IsRunResult planned db q cap (suc (length tables)) result
  sort_ran result is =
      ran n (scan_times (variable_term name)) (scan_texts (variable_term name)) _ _ sort_meant (sym (keeps_kind n)) (λ high. scan_reach relation.rows (variable_term name) 1 ≤ high) (λ high. high) (scan_reach relation.rows (variable_term name) 1) (omega arith) (reach_one ∙ sym (reach_kind n)) (λ t i. no_order n sort_other t) result is
