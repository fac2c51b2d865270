-- The periods that a core form names, one part after the other.
use Rattle.std.proofs.Common.{◌≡◌, ◌<◌, ◌≤◌, ◌+◌, ℕ, List, [], ◌∷◌, ◌++◌, length, take, get_or, Option, Some, None, option_map, sym, ap, subst, ◌∙◌, append_assoc, append-nil, flat_map}
use Rattle.std.proofs.lemmas.List.{take_more}
use Rattle.lrp_core.specs.Cores.{core_of, cores_of}
use Rattle.lrp_core.specs.declared.core_forms.Core.{Core}
use Rattle.lrp_core.proofs.CoreViews.{cores_of-append}
use Rattle.lrp_model.specs.Formulas.{Form, Forms, atom, no_forms, form, joined}
use Rattle.lrp_model.specs.Texts.{Identifier}
use Rattle.lrp_model.specs.Rows.{rows_of}
use Rattle.lrp_model.specs.Satisfaction.{Structure}
use Rattle.lrp_model.specs.Periods.{periods, periods_each, row_periods}
use Rattle.lrp_model.specs.declared.relations.Relation.{Relation}
use Rattle.lrp_limits.specs.declared.facts.Facts.{Facts}
use Rattle.lrp_limits.specs.declared.periods.Period.{Period}
use Rattle.lrp_plan.specs.declared.sources.Sources.{Sources}
use Rattle.lrp_limits.specs.Multiples.{IsLeastWithinLimit, IsPeriodOf}
use Rattle.lrp_limits.specs.Facts.{AreFacts, KeepsMultiples, KeepsRows, KeepsFacts}
use Rattle.lrp_plan.specs.Sources.{AreSources}
use Rattle.lrp_plan.proofs.Planned.{take_all_of}
use Rattle.lrp_limits.proofs.Keeping.{common_both, keeps_more, keeps_as, none_stays, stands_for}

-- the least common multiple of two lists, the second one's being l
rows_joined : (ks ls : List ℕ) (l : ℕ) (o : Option ℕ) → IsLeastWithinLimit ls l → IsPeriodOf (ks ++ l ∷ []) o → IsPeriodOf (ks ++ ls) o
rows_joined ks ls l (Some m) h g = stands_for ks ls l m h g
rows_joined ks ls l None h g = λ n p c. let b = (common_both ks ls n).0 c in g n p ((common_both ks (l ∷ []) n).1 (b.0, ((h.multiples n).1 b.1, tt)))

pub rows_some : (k : ℕ) (rows : Option Period) (q : Period) (o : Option ℕ) → rows ≡ Some q → ((ks : List ℕ) → IsLeastWithinLimit ks k → IsPeriodOf (ks ++ q.number ∷ []) o) → KeepsRows (option_map (λ p. p.number) rows) k o
rows_some k rows q o e h = record { keeps = λ ks ls a b. rows_joined ks ls q.number o (subst (λ x. IsPeriodOf ls (option_map (λ (p : Period). p.number) x)) e b) (h ks a) }

pub rows_none : (k : ℕ) (rows : Option Period) → rows ≡ None → KeepsRows (option_map (λ p. p.number) rows) k None
rows_none k rows e = record { keeps = λ ks ls a b n p c. let none : IsPeriodOf ls None = subst (λ x. IsPeriodOf ls (option_map (λ (q : Period). q.number) x)) e b in none n p ((common_both ks ls n).0 c).1 }

pub facts_some : (facts : Facts) (period : Option Period) (p : Period) (o : Option ℕ) → period ≡ Some p → KeepsRows (option_map (λ q. q.number) facts.period) p.number o → KeepsFacts facts (option_map (λ q. q.number) period) o
facts_some facts period p o e h = record { keeps = λ all a. record { keeps = λ ks b. h.keeps ks (flat_map row_periods all) (subst (λ x. IsPeriodOf ks (option_map (λ (q : Period). q.number) x)) e b) a.period } }

pub facts_none : (facts : Facts) (period : Option Period) → period ≡ None → KeepsFacts facts (option_map (λ q. q.number) period) None
facts_none facts period e = record { keeps = λ all a. record { keeps = λ ks b. none_stays ks (flat_map row_periods all) (subst (λ x. IsPeriodOf ks (option_map (λ (q : Period). q.number) x)) e b) } }

-- ---- core forms

pub atom_whole : (sources : Sources) (f : Form) (name : Identifier) (terms : _) (facts : Facts) (old new : Option ℕ) → f ≡ atom name terms → ((M : Structure) → AreSources M sources → AreFacts (rows_of M.relations name) facts) → KeepsFacts facts old new
    → (M : Structure) → AreSources M sources → KeepsMultiples (periods f M.relations) old new
atom_whole sources f name terms facts old new e h k M s = subst (λ g. KeepsMultiples (periods g M.relations) old new) (sym e) (k.keeps (rows_of M.relations name) (h M s))

pub same_whole : (sources : Sources) (f g : Form) (old new : Option ℕ) → ((M : Structure) → periods f M.relations ≡ periods g M.relations) → ((M : Structure) → AreSources M sources → KeepsMultiples (periods g M.relations) old new) → (M : Structure) → AreSources M sources → KeepsMultiples (periods f M.relations) old new
same_whole sources f g old new e h M s = keeps_as (periods g M.relations) (periods f M.relations) old new (sym (e M)) (h M s)

each_push : (fs : Forms) (f : Form) (db : List Relation) → periods_each (joined fs (form f no_forms)) db ≡ periods_each fs db ++ periods f db
each_push no_forms f db = append-nil (periods f db)
each_push (form g fs) f db = ap (λ ks. periods g db ++ ks) (each_push fs f db) ∙ sym (append_assoc (periods g db) (periods_each fs db) (periods f db))

pub each_more : (M : Structure) (fs : List Core) (i : ℕ) (core : Core) (old mid new : Option ℕ) → i < length fs → core ≡ get_or fs i core → KeepsMultiples (periods_each (cores_of (take i fs)) M.relations) old mid → KeepsMultiples (periods (core_of core) M.relations) mid new → KeepsMultiples (periods_each (cores_of (take (i + 1) fs)) M.relations) old new
each_more M fs i core old mid new lt is h k =
    keeps_as _ _ old new (sym (ap (λ gs. periods_each gs M.relations) (ap cores_of (take_more fs i core lt ∙ ap (λ x. take i fs ++ x ∷ []) (sym is)) ∙ cores_of-append (take i fs) (core ∷ [])) ∙ each_push (cores_of (take i fs)) (core_of core) M.relations))
    (keeps_more (periods_each (cores_of (take i fs)) M.relations) (periods (core_of core) M.relations) old mid new h k)

pub each_all : (M : Structure) (fs : List Core) (i : ℕ) (old new : Option ℕ) → length fs ≤ i → KeepsMultiples (periods_each (cores_of (take i fs)) M.relations) old new → KeepsMultiples (periods_each (cores_of fs) M.relations) old new
each_all M fs i old new le h = subst (λ xs. KeepsMultiples (periods_each (cores_of xs) M.relations) old new) (take_all_of fs i le) h
