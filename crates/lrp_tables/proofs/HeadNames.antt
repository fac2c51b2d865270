-- The names of a head's time columns and of its data columns.
use Rattle.std.proofs.Common.{◌≡◌, ◌≢◌, suc, ◌<◌, ◌⊎◌, inr, ⊎_elim, List, [], ◌∷◌, ◌++◌, length, sym, subst, arith, Contains}
use Rattle.std.specs.Prelude.{AllPairs}
use Rattle.std.proofs.lemmas.List.Elements.{Contains-append_left, Contains-append_right, Contains-append_cases, Contains-get_or}
use Rattle.std.proofs.lemmas.List.Kept.{AllPairs-cons}
use Rattle.lrp_model.specs.Texts.{Identifier}
use Rattle.lrp_model.specs.Satisfaction.{HaveDistinctNames}
use Rattle.lrp_model.specs.declared.relations.Sort.{Sort}
use Rattle.lrp_model.specs.declared.relations.Sort.TheVariants.{Time, Data, Named}
use Rattle.lrp_model.specs.declared.relations.Column.{Column}
use Rattle.lrp_model.proofs.Ascending.{all_at}
use Rattle.lrp_model.proofs.Decided.{cons_cases, contains_first, contains_later, contains_none}
use Rattle.lrp_tables.specs.Columns.{head_times, head_texts, with_time_name, text_name}
use Rattle.lrp_tables.proofs.Named.{pairs_left, pairs_right, pairs_tail}

-- a name of a list that has this one first or not
of_time_name : (s : Sort) (v name : Identifier) (rest : List Identifier) → Contains (with_time_name s v rest) name → (v ≡ name) ⊎ Contains rest name
of_time_name Time v name rest c = cons_cases v name rest c
of_time_name Data v name rest c = inr c
of_time_name (Named n) v name rest c = inr c

of_text_name : (s : Sort) (v name : Identifier) (rest : List Identifier) → Contains (text_name s v rest) name → (v ≡ name) ⊎ Contains rest name
of_text_name Time v name rest c = inr c
of_text_name Data v name rest c = cons_cases v name rest c
of_text_name (Named n) v name rest c = cons_cases v name rest c

-- a name of a head is that of a column
pub of_head_times : (cs : List Column) (name : Identifier) → Contains (head_times cs) name → (c : Column) × Contains cs c × (c.name ≡ name)
of_head_times [] name h = absurd (contains_none name h)
of_head_times (c ∷ cs) name h =
    ⊎_elim (λ e. (c, contains_first c cs, e)) (λ later. let r = of_head_times cs name later in (r.0, contains_later c r.0 cs r.1, r.2)) (of_time_name c.sort c.name name (head_times cs) h)

pub of_head_texts : (cs : List Column) (name : Identifier) → Contains (head_texts cs) name → (c : Column) × Contains cs c × (c.name ≡ name)
of_head_texts [] name h = absurd (contains_none name h)
of_head_texts (c ∷ cs) name h =
    ⊎_elim (λ e. (c, contains_first c cs, e)) (λ later. let r = of_head_texts cs name later in (r.0, contains_later c r.0 cs r.1, r.2)) (of_text_name c.sort c.name name (head_texts cs) h)

-- a list whose elements all differ from one, and from each other, differs with it at its front
pub pairs_cons : (name : Identifier) (names : List Identifier) → (Contains names name → ⊥) → AllPairs ◌≢◌ names → AllPairs ◌≢◌ (name ∷ names)
pairs_cons name names none pairs = AllPairs-cons ◌≢◌ name names (λ k d h e. none (subst (λ v. Contains names v) (sym e) (Contains-get_or names k d h))) pairs

-- and in its middle
pub pairs_between : (front : List Identifier) (name : Identifier) (names : List Identifier) → (Contains (front ++ names) name → ⊥) → AllPairs ◌≢◌ (front ++ names) → AllPairs ◌≢◌ (front ++ name ∷ names)
pairs_between [] name names none pairs = pairs_cons name names none pairs
pairs_between (w ∷ front) name names none pairs = pairs_cons w (front ++ name ∷ names) apart (pairs_between front name names (λ c. none (contains_later w name (front ++ names) c)) (pairs_tail ◌≢◌ w (front ++ names) pairs))
  where
    first_apart : Contains (front ++ names) w → ⊥
    first_apart c = let l : c.0 < length (front ++ names) = c.1 in pairs 0 (suc c.0) w (omega arith) (omega arith) (sym c.2)

    apart : Contains (front ++ name ∷ names) w → ⊥
    apart c = ⊎_elim (λ l. first_apart (Contains-append_left front names w l))
        (λ r. ⊎_elim (λ e. none (subst (λ v. Contains (w ∷ front ++ names) v) (sym e) (contains_first w (front ++ names)))) (λ later. first_apart (Contains-append_right front names w later)) (cons_cases name w names r))
        (Contains-append_cases front (name ∷ names) w c)

-- the names of a head differ, of both kinds together
pub head_names_differ : (cs : List Column) → HaveDistinctNames cs → AllPairs ◌≢◌ (head_times cs ++ head_texts cs)
head_names_differ [] h = λ i j d low high. absurd (omega arith)
head_names_differ (c ∷ cs) h = by_sort c.sort (head_names_differ cs h.1)
  where
    new : Contains (head_times cs ++ head_texts cs) c.name → ⊥
    new m = ⊎_elim (λ l. let r = of_head_times cs c.name l in all_at (λ d. c.name ≢ d.name) cs r.0 h.0 r.1 (sym r.2)) (λ t. let r = of_head_texts cs c.name t in all_at (λ d. c.name ≢ d.name) cs r.0 h.0 r.1 (sym r.2))
        (Contains-append_cases (head_times cs) (head_texts cs) c.name m)

    by_sort : (s : Sort) → AllPairs ◌≢◌ (head_times cs ++ head_texts cs) → AllPairs ◌≢◌ (with_time_name s c.name (head_times cs) ++ text_name s c.name (head_texts cs))
    by_sort Time rest = pairs_cons c.name (head_times cs ++ head_texts cs) new rest
    by_sort Data rest = pairs_between (head_times cs) c.name (head_texts cs) new rest
    by_sort (Named n) rest = pairs_between (head_times cs) c.name (head_texts cs) new rest

-- of each kind
pub head_times_differ : (cs : List Column) → HaveDistinctNames cs → AllPairs ◌≢◌ (head_times cs)
head_times_differ cs h = pairs_left ◌≢◌ (head_times cs) (head_texts cs) (head_names_differ cs h)

pub head_texts_differ : (cs : List Column) → HaveDistinctNames cs → AllPairs ◌≢◌ (head_texts cs)
head_texts_differ cs h = pairs_right ◌≢◌ (head_times cs) (head_texts cs) (head_names_differ cs h)

-- two lists of which each has different names and that have no name in common differ together
pub pairs_apart : (names more : List Identifier) → AllPairs ◌≢◌ names → AllPairs ◌≢◌ more → ((name : Identifier) → Contains names name → Contains more name → ⊥) → AllPairs ◌≢◌ (names ++ more)
pairs_apart [] more pairs others apart = others
pairs_apart (w ∷ names) more pairs others apart = pairs_cons w (names ++ more)
    (λ c. ⊎_elim (λ l. let m : l.0 < length names = l.1 in pairs 0 (suc l.0) w (omega arith) (omega arith) (sym l.2)) (λ r. apart w (contains_first w names) r) (Contains-append_cases names more w c))
    (pairs_apart names more (pairs_tail ◌≢◌ w names pairs) others (λ name c d. apart name (contains_later w name names c) d))
