-- The query of first-order logic that stands for a file: operators are written out in each text by itself, and then each use of a definition and each `*`.
use Rattle.std.specs.Prelude.{◌≡◌, ◌+◌, ℕ, zero, suc, pos, Bool, true, false, Option, Some, None, find, List, [], ◌∷◌, ◌++◌, map, sum_by, cond, if◌then◌else◌}
use Rattle.std.specs.Str.{bytes_eq}
use Rattle.std.specs.Fmt.{decimal}
use Rattle.lrp_model.specs.Texts.{Identifier}
use Rattle.lrp_model.specs.DatabaseMeaning.{column_of}
use Rattle.lrp_model.specs.RawQueries.{RawForm, RawForms, RawQuestion, RawDefinitionView, RawFileView, raw_atom, raw_compare, raw_member, raw_not, raw_and, raw_or, raw_implies, raw_group, raw_exists, raw_forall, raw_ranged, raw_paired, no_raws, raw, operator_at}
use Rattle.lrp_model.specs.declared.tokens.Place.{Place}
use Rattle.lrp_model.specs.declared.relations.Sort.{Sort}
use Rattle.lrp_model.specs.declared.relations.Column.{Column}
use Rattle.lrp_model.specs.declared.relations.Relation.{Relation}
use Rattle.lrp_model.specs.declared.formulas.Op.TheVariants.{Eq}
use Rattle.lrp_model.specs.declared.raw.RawColumn.{RawColumn}
use Rattle.lrp_model.specs.declared.raw.RawTerm.{RawTerm}
use Rattle.lrp_model.specs.declared.raw.RawTermKind.{RawTermKind}
use Rattle.lrp_model.specs.declared.raw.RawTermKind.TheVariants.{Int, Text, Var, Shifted}
use Rattle.lrp_model.specs.Rows.{relation_named, columns_in}
use Rattle.lrp_tense.specs.Expanding.{expanded_question, is_before, name_term}
use Rattle.lrp_wide.specs.Meaning.{is_star}

-- ---- operators are written out

-- a definition whose operators are counted in its own text
abbrev pub plain_definition : RawDefinitionView → RawDefinitionView
plain_definition d = record d { body = (expanded_question (record { head = d.columns; body = d.body })).body }

abbrev pub plain_file : RawFileView → RawFileView
plain_file f = record { definitions = map plain_definition f.definitions; query = expanded_question f.query }

-- ---- names

-- ~~k, the variable of the `*` that has number k
abbrev pub star_variable : ℕ → Identifier
star_variable k = 126 ∷ 126 ∷ decimal k

-- v~~k, a variable of the definition in the use that has number k
abbrev pub inner_name : ℕ → Identifier → Identifier
inner_name k v = v ++ star_variable k

-- what is made of the names and the places of a text: in a definition that is used, the names inside and the place of the atom; and the number of the first use or `*` of the atom at a place
pub record UseSetting : Type 0 where
  pub name : Identifier → Identifier
  pub place : Place → Place
  pub number : Place → ℕ

-- the query's own text stays
abbrev pub own_setting : (Place → ℕ) → UseSetting
own_setting number = record { name = λ v. v; place = λ p. p; number = number }

abbrev pub set_kind : UseSetting → RawTermKind → RawTermKind
set_kind s (Int x) = Int x
set_kind s (Text t) = Text t
set_kind s (Var v) = Var (s.name v)
set_kind s (Shifted v plus) = Shifted (s.name v) plus

abbrev pub set_term : UseSetting → RawTerm → RawTerm
set_term s t = record { kind = set_kind s t.kind; place = s.place t.place }

abbrev pub set_column : UseSetting → RawColumn → RawColumn
set_column s c = record { name = s.name c.name; place = s.place c.place; sort = c.sort; sort_place = s.place c.sort_place }

-- ---- `*`

-- a variable that is added at an atom
abbrev pub column_added : Place → Identifier → Sort → RawColumn
column_added p v s = record { name = v; place = p; sort = s; sort_place = p }

-- an `exists` for each of these, the first outermost
abbrev pub some_each : Place → List RawColumn → RawForm → RawForm
some_each p [] f = f
some_each p (c ∷ cs) f = raw_exists p c (some_each p cs f)

-- how many of the terms that have a column are `*`
abbrev pub star_total : List Column → List RawTerm → ℕ
star_total (c ∷ cs) (t ∷ ts) = if is_star t then suc (star_total cs ts) else star_total cs ts
star_total _ _ = 0

-- the variables of these `*`, which are counted from k
abbrev pub star_columns : Place → ℕ → List Column → List RawTerm → List RawColumn
star_columns p k (c ∷ cs) (t ∷ ts) = if is_star t then column_added p (star_variable k) c.sort ∷ star_columns p (suc k) cs ts else star_columns p k cs ts
star_columns p k _ _ = []

-- the terms of an atom with these variables; terms after the last column stay
abbrev pub star_terms : UseSetting → Place → ℕ → List Column → List RawTerm → List RawTerm
star_terms s p k [] ts = map (set_term s) ts
star_terms s p k (c ∷ cs) [] = []
star_terms s p k (c ∷ cs) (t ∷ ts) = if is_star t then name_term p (star_variable k) ∷ star_terms s p (suc k) cs ts else set_term s t ∷ star_terms s p k cs ts

-- an atom of a relation
abbrev pub starred_atom : UseSetting → Place → ℕ → Identifier → List Column → List RawTerm → RawForm
starred_atom s p k n cs ts = some_each p (star_columns p k cs ts) (raw_atom p n (star_terms s p k cs ts))

-- ---- uses of definitions

-- a term that is a variable without an offset
abbrev pub plain_variable : RawTermKind → Option Identifier
plain_variable (Int x) = None
plain_variable (Text t) = None
plain_variable (Var v) = Some v
plain_variable (Shifted v plus) = None

-- a column with the variable that it is, or with a variable of its own that is compared with a term
pub data Passed : Type 0 where
  itself : Identifier → Identifier → Passed
  equal : RawColumn → Identifier → RawTerm → Passed

-- a term for a column in the use that has number k, where the next `*` has number j
abbrev pub pass_variable : UseSetting → Place → ℕ → Column → RawTerm → Option Identifier → Passed
pass_variable s p k c t (Some v) = itself c.name (s.name v)
pass_variable s p k c t None = equal (column_added p (inner_name k c.name) c.sort) c.name (set_term s t)

abbrev pub passed : UseSetting → Place → ℕ → ℕ → List Column → List RawTerm → List Passed
passed s p k j (c ∷ cs) (t ∷ ts) = if is_star t then itself c.name (star_variable j) ∷ passed s p k (suc j) cs ts else pass_variable s p k c t (plain_variable t.kind) ∷ passed s p k j cs ts
passed s p k j _ _ = []

-- the name that stands for a variable of the definition
abbrev pub passed_name : List Passed → ℕ → Identifier → Identifier
passed_name [] k v = inner_name k v
passed_name (itself c n ∷ rest) k v = if bytes_eq c v then n else passed_name rest k v
passed_name (equal b c t ∷ rest) k v = passed_name rest k v

-- the columns that are compared, and their comparisons
abbrev pub compared_columns : List Passed → List RawColumn
compared_columns [] = []
compared_columns (itself c n ∷ rest) = compared_columns rest
compared_columns (equal b c t ∷ rest) = b ∷ compared_columns rest

abbrev pub with_comparisons : Place → List Passed → RawForm → RawForms
with_comparisons p [] f = raw f no_raws
with_comparisons p (itself c n ∷ rest) f = with_comparisons p rest f
with_comparisons p (equal b c t ∷ rest) f = raw (raw_compare p (name_term p b.name) Eq t) (with_comparisons p rest f)

abbrev pub compared_form : Place → List RawColumn → List Passed → RawForm → RawForm
compared_form p [] ps f = f
compared_form p (c ∷ cs) ps f = some_each p (c ∷ cs) (raw_and p (with_comparisons p ps f))

-- ---- numbers: uses and `*` are counted in the order of their places, in each text by itself; a use takes one, one for each `*` among its terms, and then those of its definition

-- an atom of a text that takes numbers: its place, and how many it takes
pub record Counted : Type 0 where
  pub place : Place
  pub numbers : ℕ

-- a definition that stands before: its columns, the atoms that are counted in its text, and its formula in a setting
pub record Known : Type 0 where
  pub name : Identifier
  pub columns : List Column
  pub counted : List Counted
  pub form : UseSetting → RawForm

-- how many numbers all atoms of a text take, and how many those before a place
abbrev pub numbers_of : List Counted → ℕ
numbers_of cs = sum_by (λ c. c.numbers) cs

abbrev pub numbers_before : List Counted → Place → ℕ
numbers_before cs p = sum_by (λ c. cond (is_before c.place p) c.numbers 0) cs

-- uses and `*` of a text are counted along it, from a number on
abbrev pub counted_from : ℕ → List Counted → Place → ℕ
counted_from k cs p = k + numbers_before cs p

abbrev pub known_named : List Known → Identifier → Option Known
known_named ks n = find (λ k. bytes_eq k.name n) ks

-- how many numbers an atom takes: one for a use and those inside, and one for each `*`
abbrev pub atom_numbers : List Column → List RawTerm → Option Known → ℕ
atom_numbers columns ts None = star_total columns ts
atom_numbers columns ts (Some d) = suc (star_total d.columns ts + numbers_of d.counted)

-- an atom where the next number is k
abbrev pub use_form : UseSetting → Place → ℕ → Known → List RawTerm → RawForm
use_form s p k d ts =
    let ps = passed s p k (suc k) d.columns ts in
    let inside : UseSetting = record { name = passed_name ps k; place = λ q. p; number = counted_from (suc k + star_total d.columns ts) d.counted } in
    some_each p (star_columns p (suc k) d.columns ts) (compared_form p (compared_columns ps) ps (d.form inside))

abbrev pub inlined_atom : UseSetting → Place → ℕ → Identifier → List Column → List RawTerm → Option Known → RawForm
inlined_atom s p k n columns ts None = starred_atom s p k n columns ts
inlined_atom s p k n columns ts (Some d) = use_form s p k d ts

-- a definition that no relation hides
abbrev pub without_relation : Option Relation → Option Known → Option Known
without_relation None d = d
without_relation (Some r) d = None

-- a name is a relation's where the database has one, and else a definition's
abbrev pub meant_by : List Relation → List Known → Identifier → Option Known
meant_by db ks n = without_relation (relation_named db n) (known_named ks n)

-- an atom that takes so many numbers, where it takes some
abbrev pub counted_atom : Place → ℕ → List Counted
counted_atom p zero = []
counted_atom p (suc n) = record { place = p; numbers = suc n } ∷ []

module _ (db : List Relation) (ks : List Known) where
  -- the atoms of a text as it is written that take numbers, with how many each takes
  abbrev mutual
    pub counted_in : RawForm → List Counted
    counted_in (raw_atom p n ts) = counted_atom p (atom_numbers (columns_in (relation_named db n)) ts (meant_by db ks n))
    counted_in (raw_compare p l op r) = []
    counted_in (raw_member p t point) = []
    counted_in (raw_not p f) = counted_in f
    counted_in (raw_and p fs) = counted_each fs
    counted_in (raw_or p fs) = counted_each fs
    counted_in (raw_implies p f g) = counted_in f ++ counted_in g
    counted_in (raw_group p f) = counted_in f
    counted_in (raw_exists p c f) = counted_in f
    counted_in (raw_forall p c f) = counted_in f
    counted_in (raw_ranged word o from to f) = counted_in f
    counted_in (raw_paired word o f g) = counted_in f ++ counted_in g

    pub counted_each : RawForms → List Counted
    counted_each no_raws = []
    counted_each (raw f fs) = counted_in f ++ counted_each fs

  -- the formula in a setting; one that is inlined has no operators
  abbrev mutual
    pub inlined : RawForm → UseSetting → RawForm
    inlined (raw_atom p n ts) s = inlined_atom s (s.place p) (s.number p) n (columns_in (relation_named db n)) ts (meant_by db ks n)
    inlined (raw_compare p l op r) s = raw_compare (s.place p) (set_term s l) op (set_term s r)
    inlined (raw_member p t point) s = raw_member (s.place p) (set_term s t) point
    inlined (raw_not p f) s = raw_not (s.place p) (inlined f s)
    inlined (raw_and p fs) s = raw_and (s.place p) (inlined_each fs s)
    inlined (raw_or p fs) s = raw_or (s.place p) (inlined_each fs s)
    inlined (raw_implies p f g) s = raw_implies (s.place p) (inlined f s) (inlined g s)
    inlined (raw_group p f) s = raw_group (s.place p) (inlined f s)
    inlined (raw_exists p c f) s = raw_exists (s.place p) (set_column s c) (inlined f s)
    inlined (raw_forall p c f) s = raw_forall (s.place p) (set_column s c) (inlined f s)
    inlined (raw_ranged word o from to f) s = raw_ranged word o from to (inlined f s)
    inlined (raw_paired word o f g) s = raw_paired word o (inlined f s) (inlined g s)

    pub inlined_each : RawForms → UseSetting → RawForms
    inlined_each no_raws s = no_raws
    inlined_each (raw f fs) s = raw (inlined f s) (inlined_each fs s)

-- one definition more: its operators are written out, and its uses and `*` are counted as it is written
abbrev pub known_with : List Relation → List Known → RawDefinitionView → Known
known_with db ks d = record { name = d.name; columns = map column_of d.columns; counted = counted_in db ks d.body; form = inlined db ks (plain_definition d).body }

-- each knows those before it
abbrev pub known_of : List Relation → List Known → List RawDefinitionView → List Known
known_of db ks [] = ks
known_of db ks (d ∷ ds) = known_of db (ks ++ known_with db ks d ∷ []) ds

-- a query beside these definitions
abbrev pub inlined_query : List Relation → List Known → RawQuestion → RawQuestion
inlined_query db ks q =
    let number = counted_from 1 (counted_in db ks q.body) in
    record { head = q.head; body = inlined db ks (expanded_question q).body (own_setting number) }

-- the query of a file
abbrev pub expanded_file : List Relation → RawFileView → RawQuestion
expanded_file db f = inlined_query db (known_of db [] f.definitions) f.query
