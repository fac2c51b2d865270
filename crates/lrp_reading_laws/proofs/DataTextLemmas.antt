-- The texts of a database are data texts, and what terms and tests need for theirs to be.
use Rattle.std.proofs.Common.{◌&&◌, ℕ, suc, Bool, true, false, List, [], ◌∷◌, ◌++◌, length, map, flat_map, reverse, refl, sym, subst, if◌then◌else◌, arith}
use Rattle.std.specs.List.{AllByRecursion}
use Rattle.std.specs.Str.{IsUtf8}
use Rattle.lrp_model.specs.Checked.{plain, plain_each, plain_question, term_of}
use Rattle.lrp_model.specs.RawTerms.{data_of, is_equality, time_of}
use Rattle.lrp_model.specs.Columns.{column_text}
use Rattle.lrp_model.specs.DatabaseMeaning.{column_of}
use Rattle.lrp_model.specs.DatabaseReading.{IsDatabase}
use Rattle.lrp_model.specs.DataTexts.{IsDataText}
use Rattle.lrp_model.specs.Databases.{comma}
use Rattle.lrp_model.specs.Domains.{all_texts, database_texts, form_texts, forms_texts, row_texts, term_texts, test_texts, text_beside}
use Rattle.lrp_model.specs.Rows.{columns_in, relation_named}
use Rattle.lrp_model.specs.Lexing.{tokens, start}
use Rattle.lrp_model.specs.Queries.{Language, WrittenArgument, WrittenTerm, FitsArgument, FitsTerm, argument_text, term_text}
use Rattle.lrp_model.specs.Queries.WrittenArgument.{argument, star}
use Rattle.lrp_model.specs.Queries.WrittenTerm.{integer, text_term, variable, shifted}
use Rattle.lrp_model.specs.Queries.WrittenFormula.{atom_formula, compared, member, denied, all_of, any_of, implied, group, some, every, hole}
use Rattle.lrp_model.specs.Queries.FurtherMembers.{last, more}
use Rattle.lrp_model.specs.QueryMeaning.{raw_form, raw_forms, raw_term, term_kind}
use Rattle.lrp_model.specs.QueryReading.{IsQuery}
use Rattle.lrp_model.specs.RawQueries.{RawQuestion}
use Rattle.lrp_model.specs.Sorting.{Binders, is_data_term, term_sort}
use Rattle.lrp_model.specs.Texts.{Text}
use Rattle.lrp_model.specs.Tokens.{separated, from, located_text}
use Rattle.lrp_model.specs.Tokens.Token.{word_token, symbol_token, end_token}
use Rattle.lrp_model.specs.Tokens.Part.{any}
use Rattle.lrp_model.specs.declared.formulas.DataTerm.{DataTerm}
use Rattle.lrp_model.specs.declared.formulas.DataTerm.TheVariants.{Var as data_var, Const as data_const}
use Rattle.lrp_model.specs.declared.formulas.Op.{Op}
use Rattle.lrp_model.specs.declared.formulas.Term.{Term}
use Rattle.lrp_model.specs.declared.formulas.Term.TheVariants.{Time as time_term, Data as data_term}
use Rattle.lrp_model.specs.declared.formulas.Test.TheVariants.{Compare, Equal}
use Rattle.lrp_model.specs.declared.formulas.TimeTerm.{TimeTerm}
use Rattle.lrp_model.specs.declared.relations.Column.{Column}
use Rattle.lrp_model.specs.declared.relations.Relation.{Relation}
use Rattle.lrp_model.specs.declared.relations.Row.{Row}
use Rattle.lrp_model.specs.declared.relations.Sort.{Sort}
use Rattle.lrp_model.specs.declared.relations.Value.{Value}
use Rattle.lrp_model.specs.declared.relations.Value.TheVariants.{Point, Const}
use Rattle.lrp_model.specs.Kept.{AreKept, AreValuesOf, IsKept, IsRowOf}
use Rattle.lrp_rel.proofs.MeaningKept.{tree_kept}
use Rattle.lrp_rel.proofs.NameLemmas.{tree_named}
use Rattle.lrp_rel.proofs.TreeTexts.{tree_texted}
use Rattle.lrp_model.specs.declared.tokens.Place.{Place}
use Rattle.lrp_model.specs.declared.tokens.Symbol.TheVariants.{Close, Bar, CloseBrace}
use Rattle.lrp_model.specs.declared.tokens.Word.{Word}
use Rattle.lrp_model.specs.declared.tokens.Word.TheVariants.{And, Or, Implies}
use Rattle.lrp_model.specs.declared.written.Located.{Located}
use Rattle.lrp_text.proofs.NameTokens.{all_front, all_after, all_tail}
pub use Rattle.lrp_rel.proofs.TreeTexts.{takes_texted, TextPart, TextToken, tokens_texted}

-- ---- terms

-- a text among the written terms is a data text
abbrev pub IsGood : WrittenTerm → Type 0
IsGood (text_term t) = IsDataText t
IsGood (integer i) = Unit {0}
IsGood (variable n) = Unit {0}
IsGood (shifted n down k) = Unit {0}

pub term_good : (p : Place) (t : WrittenTerm) → AllByRecursion TextPart (from p (term_text t)) → FitsTerm t → IsGood t
term_good p (text_term t) h short = record { fits = h.0.1 short; utf8 = h.0.0 }
term_good p (integer i) h short = tt
term_good p (variable n) h short = tt
term_good p (shifted n down k) h short = tt

-- what an atom has for a column
abbrev pub IsGoodArgument : {l : Language} → WrittenArgument l → Type 0
IsGoodArgument (argument t) = IsGood t
IsGoodArgument (star t) = Unit {0}

argument_good : {l : Language} (p : Place) (t : WrittenArgument l) → AllByRecursion TextPart (from p (argument_text t)) → FitsArgument t → IsGoodArgument t
argument_good p (argument t) h short = term_good p t h short
argument_good p (star t) h short = tt

pub arguments_good : {l : Language} (ts : List (Located (WrittenArgument l))) → AllByRecursion TextPart (separated comma (located_text argument_text) ts) → AllByRecursion (λ t. FitsArgument t.item) ts → AllByRecursion (λ t. IsGoodArgument t.item) ts
arguments_good [] h short = tt
arguments_good (t ∷ []) h short = (argument_good t.place t.item h short.0, tt)
arguments_good (t ∷ u ∷ us) h short =
    let first = located_text argument_text t in
    let rest = separated comma (located_text argument_text) (u ∷ us) in
    (argument_good t.place t.item (all_front TextPart first (comma ∷ rest) h) short.0, arguments_good (u ∷ us) (all_tail TextPart comma rest (all_after TextPart first (comma ∷ rest) h)) short.1)

-- a text among the data terms is one
abbrev pub IsGoodData : DataTerm → Type 0
IsGoodData (data_const t) = IsDataText t
IsGoodData (data_var v) = Unit {0}

pub nothing_good : IsDataText []
nothing_good = record { fits = record { short = omega arith; plain = λ i below. absurd (omega arith) }; utf8 = ([], (refl, refl)) }

data_good : (t : WrittenTerm) → IsGood t → IsGoodData (data_of (term_kind t))
data_good (text_term t) h = h
data_good (integer i) h = nothing_good
data_good (variable n) h = tt
data_good (shifted n down k) h = nothing_good

-- ---- the entries of the domain

-- a data text with a sort
abbrev pub IsEntry : Sort × Text → Type 0
IsEntry entry = IsDataText entry.1

pub both : (xs ys : List (Sort × Text)) → AllByRecursion IsEntry xs → AllByRecursion IsEntry ys → AllByRecursion IsEntry (xs ++ ys)
both [] ys h k = k
both (x ∷ xs) ys h k = (h.0, both xs ys h.1 k)

pub term_entry : (b : Bool) (d : DataTerm) (t : TimeTerm) (c : Column) (cs : List Column) (rest : List Term) → IsGoodData d → AllByRecursion IsEntry (term_texts cs rest) → AllByRecursion IsEntry (term_texts (c ∷ cs) ((if b then data_term d else time_term t) ∷ rest))
term_entry true (data_const x) t c cs rest h k = (h, k)
term_entry true (data_var v) t c cs rest h k = k
term_entry false d t c cs rest h k = k

beside_entry : (binders : List Column) (other d : DataTerm) → IsGoodData d → AllByRecursion IsEntry (text_beside binders other d)
beside_entry binders other (data_const t) h = (h, tt)
beside_entry binders other (data_var v) h = tt

pub test_entries : (b : Bool) (binders : List Column) (d e : DataTerm) (x y : TimeTerm) (op : Op) → IsGoodData d → IsGoodData e → AllByRecursion IsEntry (test_texts binders (if b then Equal d e else Compare x op y))
test_entries true binders d e x y op h k = both (text_beside binders e d) (text_beside binders d e) (beside_entry binders e d h) (beside_entry binders d e k)
test_entries false binders d e x y op h k = tt

-- ---- a database

values_entries : (cs : List Column) (vs : List Value) → AreValuesOf cs vs → AllByRecursion IsEntry (row_texts cs vs)
values_entries [] [] h = tt
values_entries [] (v ∷ vs) h = absurd h
values_entries (c ∷ cs) [] h = tt
values_entries (c ∷ cs) (Point p ∷ vs) h = values_entries cs vs h.1
values_entries (c ∷ cs) (Const t ∷ vs) h = (h.0.1, values_entries cs vs h.1)

rows_entries : (cs : List Column) (rows : List Row) → AllByRecursion (IsRowOf cs) rows → AllByRecursion IsEntry (flat_map (λ row. row_texts cs row.values) rows)
rows_entries cs [] h = tt
rows_entries cs (row ∷ rows) h = both (row_texts cs row.values) (flat_map (λ r. row_texts cs r.values) rows) (values_entries cs row.values h.0.values) (rows_entries cs rows h.1)

relations_entries : (db : List Relation) → AllByRecursion IsKept db → AllByRecursion IsEntry (database_texts db)
relations_entries [] h = tt
relations_entries (r ∷ rs) h =
    both (flat_map (λ row. row_texts r.columns row.values) r.rows) (flat_map (λ s. flat_map (λ row. row_texts s.columns row.values) s.rows) rs) (rows_entries r.columns r.rows h.0.rows) (relations_entries rs h.1)

-- the texts of a database are data texts
pub database_entries : (bytes : List ℕ) (db : List Relation) → IsDatabase bytes db → AllByRecursion IsEntry (database_texts db)
database_entries bytes db d =
    let kept : AreKept db = subst AreKept (sym d.meant) (tree_kept d.tree d.text.lawful d.sound (tree_named bytes d.tree d.text.spelled) (tree_texted bytes d.tree d.text.utf8 d.text.spelled)) in
    relations_entries db kept.each
