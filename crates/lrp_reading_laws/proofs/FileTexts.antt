-- The texts of a file of the wide language are data texts, and so are those of the query that stands for it.
use Rattle.std.proofs.Common.{◌≡◌, ℕ, zero, suc, Bool, true, false, ◌&&◌, ◌==◌, List, [], ◌∷◌, ◌++◌, Option, Some, None, Result, Ok, Err, length, map, drop, reverse, refl, sym, ap, subst, if◌then◌else◌, ◌+◌, ◌-◌}
use Rattle.std.specs.Prelude.{flat_map, find, cond}
use Rattle.std.specs.List.{AllByRecursion}
use Rattle.std.specs.Str.{IsUtf8, bytes_eq}
use Rattle.std.specs.Char.{is_ascii_digit}
use Rattle.std.proofs.lemmas.Str.{IsUtf8-drop}
use Rattle.lrp_model.specs.Texts.{Text, Identifier}
use Rattle.lrp_model.specs.Checked.{plain, plain_question}
use Rattle.lrp_model.specs.Columns.{column_text}
use Rattle.lrp_model.specs.Databases.{comma}
use Rattle.lrp_model.specs.DatabaseMeaning.{column_of}
use Rattle.lrp_model.specs.DatabaseReading.{IsDatabase}
use Rattle.lrp_model.specs.Domains.{all_texts, database_texts, form_texts}
use Rattle.lrp_model.specs.Lexing.{Scanned, QuotedText as TextRead, scan, scan_in, symbol_in, further_symbol, no_symbol, one, one_or_two, text_scanned, text_from, is_letter, skip, after, headed, tokens_in, tokens_in_from, start}
use Rattle.lrp_model.specs.Queries.{WrittenQuery, WrittenDefinition, WrittenFile, FitsDefinition, FitsSizes, as_word, formula_text, definition_text, query_text, file_text}
use Rattle.lrp_model.specs.Queries.Language.{wide}
use Rattle.lrp_model.specs.QueryMeaning.{raw_form, raw_definition, raw_file}
use Rattle.lrp_model.specs.QueryReading.{IsFile}
use Rattle.lrp_model.specs.RawQueries.{RawForm, RawForms, RawDefinitionView, RawFileView, raw_atom, raw_compare, raw_member, raw_not, raw_and, raw_or, raw_implies, raw_group, raw_exists, raw_forall, raw_ranged, raw_paired, no_raws, raw}
use Rattle.lrp_model.specs.Rows.{relation_named, columns_in}
use Rattle.lrp_model.specs.Tokens.{Token, Tokens, Part, separated}
use Rattle.lrp_model.specs.Tokens.Token.{text_token, name_token, word_token, number_token, symbol_token, end_token, bad_token, hole_token}
use Rattle.lrp_model.specs.Tokens.Part.{any}
use Rattle.lrp_model.specs.declared.raw.RawColumn.{RawColumn}
use Rattle.lrp_model.specs.declared.raw.RawTerm.{RawTerm}
use Rattle.lrp_model.specs.declared.raw.RawTermKind.{RawTermKind}
use Rattle.lrp_model.specs.declared.raw.RawTermKind.TheVariants.{Int, Text as text_kind, Var, Shifted}
use Rattle.lrp_model.specs.declared.relations.Column.{Column}
use Rattle.lrp_model.specs.declared.relations.Relation.{Relation}
use Rattle.lrp_model.specs.declared.tokens.Place.{Place}
use Rattle.lrp_model.specs.declared.tokens.Symbol.{Symbol}
use Rattle.lrp_model.specs.declared.tokens.Symbol.TheVariants.{Open, Close, OpenBrace, CloseBrace, Comma, Colon, Semicolon, Bar, Plus, Minus, Le, Ge, Lt, Gt, Equals, Star}
use Rattle.lrp_model.proofs.Logic.{all_append}
use Rattle.lrp_tense.specs.Expanding.{operators, operator_number, name_term, expanded_question}
use Rattle.lrp_text.proofs.Cuts.{skip_cut, skip_rest, scan_cut_in, scan_rest_in}
use Rattle.lrp_text.proofs.NameTokens.{all_front, all_after}
use Rattle.lrp_text.proofs.Scans.{chosen}
use Rattle.lrp_rel.proofs.TreeTexts.{TextToken, TextPart, scan_texted, headed_texted, takes_texted}
use Rattle.lrp_wide.specs.Inlining.{UseSetting, Known, Passed, itself, equal, own_setting, set_kind, set_term, star_variable, star_total, star_columns, star_terms, some_each, starred_atom, plain_variable, pass_variable, passed, passed_name, compared_columns, with_comparisons, compared_form, counted_from, counted_in, use_form, inlined_atom, known_named, without_relation, meant_by, inlined, inlined_each, plain_definition, known_with, known_of, expanded_file}
use Rattle.lrp_wide.specs.Meaning.{is_star}
use Rattle.lrp_reading_laws.proofs.DataTextLemmas.{IsEntry, both, database_entries}
use Rattle.lrp_reading_laws.proofs.FormulaTexts.{IsGoodKind, IsGoodTerm, HasGoodTexts, HaveGoodTexts, good_entries, expanded_good, written_good}

-- ---- tokens

-- no symbol is a text
two_no : (s r : Symbol) (b : ℕ) (bs : List ℕ) (t : Text) → (one_or_two s r b bs).token ≡ text_token t → TextToken (text_token t)
two_no s r b [] t = λ e. absurd cc
two_no s r b (c ∷ bs) t = chosen (λ x. x.token ≡ text_token t → TextToken (text_token t)) (c == 61) _ (one s b (c ∷ bs)) (λ e d. absurd cc) (λ e d. absurd cc)

further_no : (b : ℕ) (bs : List ℕ) (t : Text) → (further_symbol b bs).token ≡ text_token t → TextToken (text_token t)
further_no b [] t = chosen (λ x. x.token ≡ text_token t → TextToken (text_token t)) (b == 42) (one Star b []) (no_symbol b []) (λ e d. absurd cc) (λ e d. absurd cc)
further_no b (c ∷ bs) t =
    chosen (λ x. x.token ≡ text_token t → TextToken (text_token t)) (b == 42) (one Star b (c ∷ bs)) _ (λ e d. absurd cc)
    (λ e. chosen (λ x. x.token ≡ text_token t → TextToken (text_token t)) ((b == 33) && (c == 61)) _ (no_symbol b (c ∷ bs)) (λ d f. absurd cc) (λ d f. absurd cc))

symbol_no : (flag : Bool) (b : ℕ) (bs : List ℕ) (t : Text) → (symbol_in flag b bs).token ≡ text_token t → TextToken (text_token t)
unfolding symbol_in
symbol_no flag b bs t =
    let P : Scanned → Type 0 = λ s. s.token ≡ text_token t → TextToken (text_token t) in
    chosen P (b == 40) (one Open b bs) _ (λ e d. absurd cc) (λ e. chosen P (b == 41) (one Close b bs) _ (λ e d. absurd cc) (λ e. chosen P (b == 123) (one OpenBrace b bs) _ (λ e d. absurd cc) (λ e.
    chosen P (b == 125) (one CloseBrace b bs) _ (λ e d. absurd cc) (λ e. chosen P (b == 44) (one Comma b bs) _ (λ e d. absurd cc) (λ e. chosen P (b == 58) (one Colon b bs) _ (λ e d. absurd cc) (λ e.
    chosen P (b == 59) (one Semicolon b bs) _ (λ e d. absurd cc) (λ e. chosen P (b == 124) (one Bar b bs) _ (λ e d. absurd cc) (λ e. chosen P (b == 43) (one Plus b bs) _ (λ e d. absurd cc) (λ e.
    chosen P (b == 45) (one Minus b bs) _ (λ e d. absurd cc) (λ e. chosen P (b == 61) (one Equals b bs) _ (λ e d. absurd cc) (λ e. chosen P (b == 60) _ _ (λ e. two_no Lt Le b bs t) (λ e.
    chosen P (b == 62) _ _ (λ e. two_no Gt Ge b bs t) (λ e. chosen P flag _ _ (λ w. further_no b bs t) (λ w d. absurd cc))))))))))))))

-- a text among the tokens of the wide language is one among the others
text_alike : (flag : Bool) (bs : List ℕ) (t : Text) → (scan_in flag bs).token ≡ text_token t → TextToken (scan bs).token → TextToken (text_token t)
unfolding scan_in
text_alike flag [] t e h = absurd cc
text_alike flag (b ∷ bs) t e h =
    let P : Scanned → Scanned → Type 0 = λ s r. s.token ≡ text_token t → TextToken r.token → TextToken (text_token t) in
    both_chosen P (is_letter b) _ _ _ _ (λ l d k. subst TextToken d k) (λ l.
    both_chosen P (is_ascii_digit b) _ _ _ _ (λ l d k. subst TextToken d k) (λ m.
    both_chosen P (b == 34) (text_scanned (text_from false bs)) (symbol_in flag b bs) (text_scanned (text_from false bs)) (symbol_in false b bs) (λ q d k. subst TextToken d k) (λ q d k. symbol_no flag b bs t d))) e h
  where
    both_chosen : (P : Scanned → Scanned → Type 0) (c : Bool) (s r u v : Scanned) → (c ≡ true → P s u) → (c ≡ false → P r v) → P (if c then s else r) (if c then u else v)
    both_chosen P true s r u v f g = f refl
    both_chosen P false s r u v f g = g refl

scan_texted_in : (flag : Bool) (bs : List ℕ) → IsUtf8 bs → TextToken (scan_in flag bs).token
scan_texted_in flag bs u = by (scan_in flag bs).token refl
  where
    by : (k : Token) → (scan_in flag bs).token ≡ k → TextToken k
    by (text_token t) e = text_alike flag bs t e (scan_texted bs u)
    by (name_token n) e = tt
    by (word_token w) e = tt
    by (number_token n) e = tt
    by (symbol_token s) e = tt
    by end_token e = tt
    by bad_token e = tt
    by hole_token e = tt

tokens_texted_in : (flag : Bool) (n : ℕ) (p : Place) (bs : List ℕ) → IsUtf8 bs → AllByRecursion (λ t. TextToken t.token) (tokens_in_from flag n p bs)
unfolding tokens_in_from
tokens_texted_in flag zero p bs u = tt
tokens_texted_in flag (suc n) p bs u =
    let a = skip false p bs in
    let s = scan_in flag a.bytes in
    let here : IsUtf8 a.bytes = subst IsUtf8 (skip_rest p bs) (IsUtf8-drop bs (length bs - length a.bytes) u (skip_cut p bs u)) in
    let afterwards : IsUtf8 s.left = subst IsUtf8 (scan_rest_in flag a.bytes) (IsUtf8-drop a.bytes (length a.bytes - length s.left) here (scan_cut_in flag a.bytes here)) in
    headed_texted a.place s s.token (tokens_in_from flag n (after a.place s.taken) s.left) (scan_texted_in flag a.bytes here) (tokens_texted_in flag n (after a.place s.taken) s.left afterwards)

-- ---- the texts of a file

abbrev DefinesGood : RawDefinitionView → Type 0
DefinesGood d = HasGoodTexts d.body

record IsGoodFile (f : RawFileView) : Type 0 where
  pub definitions : AllByRecursion DefinesGood f.definitions
  pub query : HasGoodTexts f.query.body

query_good : (q : WrittenQuery wide) → AllByRecursion TextPart (query_text q) → FitsSizes q.body → HasGoodTexts (raw_form q.body)
query_good q h short =
    let end = any (symbol_token CloseBrace) ∷ any end_token ∷ [] in
    let afterwards = any (symbol_token Bar) ∷ (formula_text q.body ++ end) in
    written_good q.body (all_front TextPart (formula_text q.body) end (all_after TextPart (separated comma column_text q.head) afterwards h.1).1) short

definition_good : (d : WrittenDefinition wide) → AllByRecursion TextPart (definition_text d) → FitsDefinition d → DefinesGood (raw_definition d)
definition_good d h fits =
    let end = any (symbol_token Semicolon) ∷ [] in
    let afterwards = any (symbol_token Close) ∷ any (name_token as_word) ∷ (formula_text d.body ++ end) in
    written_good d.body (all_front TextPart (formula_text d.body) end (all_after TextPart (separated comma column_text d.columns) afterwards h.1.1.1).1.1) fits.sizes

definitions_good : (ds : List (WrittenDefinition wide)) → AllByRecursion TextPart (flat_map definition_text ds) → AllByRecursion FitsDefinition ds → AllByRecursion DefinesGood (map raw_definition ds)
definitions_good [] h fits = tt
definitions_good (d ∷ ds) h fits = (definition_good d (all_front TextPart (definition_text d) (flat_map definition_text ds) h) fits.0, definitions_good ds (all_after TextPart (definition_text d) (flat_map definition_text ds) h) fits.1)

file_good : (bytes : List ℕ) (f : RawFileView) → IsFile bytes f → IsGoodFile f
file_good bytes f is =
    let tree = is.tree in
    let all = flat_map definition_text tree.definitions in
    let parts = takes_texted (file_text tree) (tokens_in true bytes) [] is.text.spelled (tokens_texted_in true (suc (length bytes)) start bytes is.text.utf8) in
    subst IsGoodFile (sym is.meant) (record {
      definitions = definitions_good tree.definitions (all_front TextPart all (query_text tree.query) parts) is.text.lawful.definitions;
      query = query_good tree.query (all_after TextPart all (query_text tree.query) parts) is.text.lawful.query.sizes;
    })

-- ---- uses and `*` that are written out

set_good : (s : UseSetting) (k : RawTermKind) → IsGoodKind k → IsGoodKind (set_kind s k)
set_good s (text_kind t) h = h
set_good s (Int x) h = tt
set_good s (Var v) h = tt
set_good s (Shifted v plus) h = tt

set_each : (s : UseSetting) (ts : List RawTerm) → AllByRecursion IsGoodTerm ts → AllByRecursion IsGoodTerm (map (set_term s) ts)
set_each s [] h = tt
set_each s (t ∷ ts) h = (set_good s t.kind h.0, set_each s ts h.1)

each_good : (p : Place) (cs : List RawColumn) (f : RawForm) → HasGoodTexts f → HasGoodTexts (some_each p cs f)
each_good p [] f h = h
each_good p (c ∷ cs) f h = each_good p cs f h

stars_good : (s : UseSetting) (p : Place) (cs : List Column) (ts : List RawTerm) (k : ℕ) → AllByRecursion IsGoodTerm ts → AllByRecursion IsGoodTerm (star_terms s p k cs ts)
stars_good s p [] ts k h = set_each s ts h
stars_good s p (c ∷ cs) [] k h = tt
stars_good s p (c ∷ cs) (t ∷ ts) k h = by (is_star t) (λ i. stars_good s p cs ts i h.1)
  where
    by : (b : Bool) → ((i : ℕ) → AllByRecursion IsGoodTerm (star_terms s p i cs ts)) → AllByRecursion IsGoodTerm (if b then name_term p (star_variable k) ∷ star_terms s p (suc k) cs ts else set_term s t ∷ star_terms s p k cs ts)
    by true r = (tt, r (suc k))
    by false r = (set_good s t.kind h.0, r k)

comparisons_good : (s : UseSetting) (p : Place) (k : ℕ) (cs : List Column) (ts : List RawTerm) (j : ℕ) (f : RawForm) → AllByRecursion IsGoodTerm ts → HasGoodTexts f → HaveGoodTexts (with_comparisons p (passed s p k j cs ts) f)
comparisons_good s p k [] ts j f h g = (g, tt)
comparisons_good s p k (c ∷ cs) [] j f h g = (g, tt)
comparisons_good s p k (c ∷ cs) (t ∷ ts) j f h g = by (is_star t) (plain_variable t.kind) (λ i. comparisons_good s p k cs ts i f h.1 g)
  where
    by : (b : Bool) (o : Option Identifier) → ((i : ℕ) → HaveGoodTexts (with_comparisons p (passed s p k i cs ts) f))
        → HaveGoodTexts (with_comparisons p (if b then itself c.name (star_variable j) ∷ passed s p k (suc j) cs ts else pass_variable s p k c t o ∷ passed s p k j cs ts) f)
    by true o r = r (suc j)
    by false (Some v) r = r j
    by false None r = ((tt, set_good s t.kind h.0), r j)

compared_good : (s : UseSetting) (p : Place) (k : ℕ) (columns : List RawColumn) (cs : List Column) (ts : List RawTerm) (j : ℕ) (f : RawForm) → AllByRecursion IsGoodTerm ts → HasGoodTexts f
    → HasGoodTexts (compared_form p columns (passed s p k j cs ts) f)
compared_good s p k [] cs ts j f h g = g
compared_good s p k (c ∷ columns) cs ts j f h g = each_good p (c ∷ columns) (raw_and p (with_comparisons p (passed s p k j cs ts) f)) (comparisons_good s p k cs ts j f h g)

-- a definition in each setting
abbrev IsGoodKnown : Known → Type 0
IsGoodKnown d = (s : UseSetting) → HasGoodTexts (d.form s)

abbrev IsGoodMeant : Option Known → Type 0
IsGoodMeant None = Unit {0}
IsGoodMeant (Some d) = IsGoodKnown d

atom_good : (s : UseSetting) (p : Place) (k : ℕ) (n : Identifier) (columns : List Column) (ts : List RawTerm) (o : Option Known) → IsGoodMeant o → AllByRecursion IsGoodTerm ts → HasGoodTexts (inlined_atom s p k n columns ts o)
atom_good s p k n columns ts None g h = each_good p (star_columns p k columns ts) (raw_atom p n (star_terms s p k columns ts)) (stars_good s p columns ts k h)
atom_good s p k n columns ts (Some d) g h =
    let ps = passed s p k (suc k) d.columns ts in
    let inside : UseSetting = record { name = passed_name ps k; place = λ q. p; number = counted_from (suc k + star_total d.columns ts) d.counted } in
    each_good p (star_columns p (suc k) d.columns ts) (compared_form p (compared_columns ps) ps (d.form inside)) (compared_good s p k (compared_columns ps) d.columns ts (suc k) (d.form inside) h (g inside))

known_good : (ks : List Known) (n : Identifier) → AllByRecursion IsGoodKnown ks → IsGoodMeant (known_named ks n)
known_good [] n g = tt
known_good (k ∷ ks) n g = by (bytes_eq k.name n) (known_good ks n g.1)
  where
    by : (b : Bool) → IsGoodMeant (known_named ks n) → IsGoodMeant (cond b (Some k) (known_named ks n))
    by true r = g.0
    by false r = r

meant_good : (db : List Relation) (ks : List Known) (n : Identifier) → AllByRecursion IsGoodKnown ks → IsGoodMeant (meant_by db ks n)
meant_good db ks n g = by (relation_named db n)
  where
    by : (o : Option Relation) → IsGoodMeant (without_relation o (known_named ks n))
    by None = known_good ks n g
    by (Some r) = tt

module _ (db : List Relation) (ks : List Known) (g : AllByRecursion IsGoodKnown ks) where
  mutual
    inlined_good : (f : RawForm) (s : UseSetting) → HasGoodTexts f → HasGoodTexts (inlined db ks f s)
    inlined_good (raw_atom p n ts) s h = atom_good s (s.place p) (s.number p) n (columns_in (relation_named db n)) ts (meant_by db ks n) (meant_good db ks n g) h
    inlined_good (raw_compare p l op r) s h = (set_good s l.kind h.0, set_good s r.kind h.1)
    inlined_good (raw_member p t point) s h = tt
    inlined_good (raw_not p f) s h = inlined_good f s h
    inlined_good (raw_and p fs) s h = inlined_good_each fs s h
    inlined_good (raw_or p fs) s h = inlined_good_each fs s h
    inlined_good (raw_implies p f i) s h = (inlined_good f s h.0, inlined_good i s h.1)
    inlined_good (raw_group p f) s h = inlined_good f s h
    inlined_good (raw_exists p c f) s h = inlined_good f s h
    inlined_good (raw_forall p c f) s h = inlined_good f s h
    inlined_good (raw_ranged word o from to f) s h = inlined_good f s h
    inlined_good (raw_paired word o f i) s h = (inlined_good f s h.0, inlined_good i s h.1)

    inlined_good_each : (fs : RawForms) (s : UseSetting) → HaveGoodTexts fs → HaveGoodTexts (inlined_each db ks fs s)
    inlined_good_each no_raws s h = tt
    inlined_good_each (raw f fs) s h = (inlined_good f s h.0, inlined_good_each fs s h.1)

all_good : (db : List Relation) (ks : List Known) (ds : List RawDefinitionView) → AllByRecursion IsGoodKnown ks → AllByRecursion DefinesGood ds → AllByRecursion IsGoodKnown (known_of db ks ds)
all_good db ks [] g h = g
all_good db ks (d ∷ ds) g h =
    all_good db (ks ++ known_with db ks d ∷ []) ds
    ((all_append IsGoodKnown ks (known_with db ks d ∷ [])).1 (g, (λ s. inlined_good db ks g (plain_definition d).body s (expanded_good d.body h.0 (operator_number (operators d.body)) []), tt))) h.1

-- of a database and the query that stands for a file
pub file_entries : (bytes file : List ℕ) (db : List Relation) (f : RawFileView) → IsDatabase bytes db → IsFile file f → AllByRecursion IsEntry (all_texts db (plain_question (expanded_file db f)))
file_entries bytes file db f d is =
    let q = f.query in
    let good = file_good file f is in
    let ks = known_of db [] f.definitions in
    let body = (expanded_file db f).body in
    let inside : HasGoodTexts body = inlined_good db ks (all_good db [] f.definitions tt good.definitions) (expanded_question q).body (own_setting (counted_from 1 (counted_in db ks q.body))) (expanded_good q.body good.query (operator_number (operators q.body)) []) in
    both (database_texts db) (form_texts (plain body (reverse q.head)) db (map column_of q.head)) (database_entries bytes db d) (good_entries body inside (reverse q.head) db (map column_of q.head))
