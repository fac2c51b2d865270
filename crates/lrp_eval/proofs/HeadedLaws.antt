-- The last step has its table where the table before it has the head's columns.
use Rattle.std.proofs.Common.{◌≡◌, ◌≤◌, ◌+◌, ◌-◌, ◌<◌, ℕ, suc, List, [], ◌∷◌, ◌++◌, length, take, drop, take_all, get_or, true, false, Some, slice_get, refl, sym, ap, ap₂, subst, ◌∙◌, arith}
use Rattle.std.specs.Prelude.{ℤ}
use Rattle.std.specs.Str.{bytes_eq}
use Rattle.std.specs.Cmp.Lexicographic.{bytes_decides}
use Rattle.lrp_model.specs.Texts.{Identifier}
use Rattle.lrp_model.specs.Sorts.{is_time}
use Rattle.lrp_model.specs.declared.relations.Column.{Column}
use Rattle.lrp_model.specs.declared.relations.Sort.{Sort}
use Rattle.lrp_model.specs.declared.relations.Sort.TheVariants.{Time, Data, Named}
use Rattle.lrp_tables.specs.Columns.{head_times, head_texts, text_name, with_time_name}
use Rattle.lrp_model.specs.Formulas.{Question}
use Rattle.lrp_model.specs.Steps.{Steps}
use Rattle.lrp_model.specs.declared.relations.Relation.{Relation}
use Rattle.lrp_model.specs.declared.plans.Plan.{Plan}
use Rattle.lrp_model.specs.declared.plans.StepKind.{StepKind}
use Rattle.lrp_model.specs.declared.plans.StepKind.TheVariants.{Extend}
use Rattle.lrp_tables.specs.declared.table.Table.{Table}
use Rattle.lrp_plan_laws.proofs.Elements.{within}
use Rattle.lrp_eval.specs.Planned.{IsPlanOf}
use Rattle.lrp_eval.specs.Running.{AreRun, IsLastRun, IsNext, IsStepTable, StandsAtHead}
use Rattle.lrp_eval.proofs.HeadLaws.{head_stands}
use Rattle.lrp_eval.proofs.LoopLaws.{at_last, last_run, more_count, more_run, zip_length}
use Rattle.lrp_eval.proofs.Nexts.{formula_kind}
use Rattle.lrp_eval.proofs.PlanEnds.{some_steps}

-- there is a table
pub some_table : (tables : List Table) (t : Table) → slice_get tables (length tables - 1) ≡ Some t → 0 < length tables
some_table tables t e = let l : length tables - 1 < length tables = within tables (length tables - 1) t e in omega arith

pub headed_run : (planned : Steps) (db : List Relation) (q : Question) (cap : ℕ) (p : Plan) (tables front : List Table) (t : Table) (kind : StepKind) (period : ℤ) → IsPlanOf planned db q p → IsNext planned db q cap p.domain tables kind period
    → StandsAtHead q.head tables kind → AreRun planned db q cap tables → tables ≡ front ++ t ∷ [] → IsLastRun planned db q cap t
headed_run planned db q cap p tables front t kind period h next s run same =
    let n : IsNext planned db q cap p.domain tables (Extend (length tables)) period = subst (λ k. IsNext planned db q cap p.domain tables k period) s.kind_is next in
    let count : length tables ≡ length front + 1 = ap length same ∙ more_count front t (length front) refl in
    let place : length tables - 1 ≡ length front = omega (arith, count) in
    let last : slice_get tables (length tables - 1) ≡ Some t = ap (slice_get tables) place ∙ ap (λ l. slice_get l (length front)) same ∙ at_last front t in
    let e : s.table ≡ t = (let o : Some s.table ≡ Some t = sym s.last.at ∙ last in cc) in
    let r : IsStepTable planned db q cap (suc (length tables)) t = subst (IsStepTable planned db q cap (suc (length tables))) e (head_stands n s.last s.times s.texts) in
    let steps : length p.steps ≡ length planned = zip_length p.steps planned h.is.steps in
    let of : length tables ≡ length planned - 1 = (formula_kind n).0 in
    let some : 0 < length planned = some_steps h.sound in
    let more : length (tables ++ t ∷ []) ≡ length tables + 1 = more_count tables t (length tables) refl in
    last_run planned db q cap p (tables ++ t ∷ []) tables t h (omega (arith, steps, some, of, more)) (omega (arith, steps, some, of, more)) (more_run planned db q cap tables (tables ++ t ∷ []) t refl run r) refl

-- ---- the names of a head's columns
-- what is left of a list after its first element
rest_is : {A : Type 0} (x : A) (xs : List A) → take (length (x ∷ xs) - 1) xs ≡ xs
rest_is x xs = take_all (length (x ∷ xs) - 1) xs (omega arith)

clash : true ≡ false → ⊥
clash e = cc

time_name : (s : Sort) (v : Identifier) (rest : List Identifier) → is_time s ≡ true → with_time_name s v rest ≡ v ∷ rest
time_name Time v rest e = refl
time_name Data v rest e = absurd (clash (sym e))
time_name (Named name) v rest e = absurd (clash (sym e))

data_name : (s : Sort) (v : Identifier) (rest : List Identifier) → is_time s ≡ false → text_name s v rest ≡ v ∷ rest
data_name Time v rest e = absurd (clash e)
data_name Data v rest e = refl
data_name (Named name) v rest e = refl

equal_names : (v w : Identifier) → bytes_eq v w ≡ true → v ≡ w
equal_names v w e = (bytes_decides v w).0 e

pub first_time : (cs : List Column) (c : Column) (vs : List Identifier) (v : Identifier) → 1 ≤ length cs → c ≡ get_or cs 0 c → is_time c.sort ≡ true → 1 ≤ length vs → v ≡ get_or vs 0 v → bytes_eq c.name v ≡ true
    → take (length vs - 1) (drop 1 vs) ≡ head_times (take (length cs - 1) (drop 1 cs)) → vs ≡ head_times cs
first_time [] c vs v l e k m f n h = absurd (omega arith)
first_time (b ∷ cs) c [] v l e k m f n h = absurd (omega arith)
first_time (b ∷ cs) c (w ∷ ws) v l e k m f n h =
    let name : w ≡ b.name = sym f ∙ sym (equal_names c.name v n) ∙ ap (λ a. a.name) e in
    let rest : ws ≡ head_times cs = sym (rest_is w ws) ∙ h ∙ ap head_times (rest_is b cs) in
    ap₂ (λ x xs. x ∷ xs) name rest ∙ sym (time_name b.sort b.name (head_times cs) (ap (λ a. is_time a.sort) (sym e) ∙ k))

pub first_text : (cs : List Column) (c : Column) (vs : List Identifier) (v : Identifier) → 1 ≤ length cs → c ≡ get_or cs 0 c → is_time c.sort ≡ false → 1 ≤ length vs → v ≡ get_or vs 0 v → bytes_eq c.name v ≡ true
    → take (length vs - 1) (drop 1 vs) ≡ head_texts (take (length cs - 1) (drop 1 cs)) → vs ≡ head_texts cs
first_text [] c vs v l e k m f n h = absurd (omega arith)
first_text (b ∷ cs) c [] v l e k m f n h = absurd (omega arith)
first_text (b ∷ cs) c (w ∷ ws) v l e k m f n h =
    let name : w ≡ b.name = sym f ∙ sym (equal_names c.name v n) ∙ ap (λ a. a.name) e in
    let rest : ws ≡ head_texts cs = sym (rest_is w ws) ∙ h ∙ ap head_texts (rest_is b cs) in
    ap₂ (λ x xs. x ∷ xs) name rest ∙ sym (data_name b.sort b.name (head_texts cs) (ap (λ a. is_time a.sort) (sym e) ∙ k))
