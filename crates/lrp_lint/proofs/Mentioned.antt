-- What the terms of an atom mention, term by term.
use Rattle.std.proofs.Common.{◌≡◌, ℕ, ◌+◌, ◌<◌, List, [], ◌∷◌, ◌++◌, Option, None, Some, refl, ap, sym, ◌∙◌, arith, append-nil, append_assoc, length, map, take, get_or, Bor}
use Rattle.std.specs.Prelude.{flat_map, reverse}
use Rattle.std.proofs.lemmas.List.{map-append, take_more}
use Rattle.lrp_model.specs.RawQueries.{raw_atom, raw_form_of, raw_question_of}
use Rattle.lrp_model.specs.Rows.{columns_in, relation_named, rows_in, rows_of}
use Rattle.lrp_model.specs.Texts.{Identifier}
use Rattle.lrp_model.specs.Sorting.{Binders}
use Rattle.lrp_model.specs.declared.raw.RawColumn.{RawColumn}
use Rattle.lrp_model.specs.declared.raw.RawQuery.{RawQuery}
use Rattle.lrp_model.specs.declared.raw.RawTerm.{RawTerm}
use Rattle.lrp_model.specs.declared.relations.Column.{Column}
use Rattle.lrp_model.specs.declared.relations.Relation.{Relation}
use Rattle.lrp_model.specs.declared.tokens.Place.{Place}
use Rattle.lrp_lint.specs.Known.{column_if_any}
use Rattle.lrp_lint.specs.Mentions.{Mention, empty_findings, mention_findings, mention_of, mentions, query_findings, term_mentions}
use Rattle.lrp_lint.specs.declared.flaws.QueryFinding.{QueryFinding}
use Rattle.lrp_lint.proofs.TextSets.{front_length}
use Rattle.lrp_lint.proofs.Walked.{found_twice}

pub no_terms : (cs : List Column) → term_mentions cs [] ≡ []
no_terms [] = refl
no_terms (c ∷ cs) = refl

-- one term in one column
pub one_term : (c : Column) (t : RawTerm) → term_mentions (c ∷ []) (t ∷ []) ≡ mention_of t.place t.kind c.sort
one_term c t = append-nil (mention_of t.place t.kind c.sort)

terms_push : (cs : List Column) (ts : List RawTerm) (t : RawTerm) → term_mentions cs (ts ++ t ∷ []) ≡ term_mentions cs ts ++ term_mentions (column_if_any cs (length ts)) (t ∷ [])
terms_push [] ts t = refl
terms_push (c ∷ cs) [] t = ap (λ ms. mention_of t.place t.kind c.sort ++ ms) (no_terms cs)
terms_push (c ∷ cs) (u ∷ ts) t =
    ap (λ ms. mention_of u.place u.kind c.sort ++ ms) (terms_push cs ts t) ∙ sym (append_assoc (mention_of u.place u.kind c.sort) (term_mentions cs ts) (term_mentions (column_if_any cs (length ts)) (t ∷ [])))

-- one term more
pub terms_more : (db : List Relation) (cs : List Column) (ts : List RawTerm) (i : ℕ) (t : RawTerm) (old mid new : List QueryFinding) → i < length ts → t ≡ get_or ts i t → mid ≡ old ++ flat_map (mention_findings db) (term_mentions cs (take i ts))
    → new ≡ mid ++ flat_map (mention_findings db) (term_mentions (column_if_any cs i) (t ∷ [])) → new ≡ old ++ flat_map (mention_findings db) (term_mentions cs (take (i + 1) ts))
terms_more db cs ts i t old mid new low is m n =
    let count : length (take i ts) ≡ i = front_length ts i (omega (arith, low)) in
    found_twice db old mid new (term_mentions cs (take i ts)) (term_mentions (column_if_any cs i) (t ∷ [])) m n
    ∙ ap (λ ms. old ++ flat_map (mention_findings db) ms) (sym (ap (term_mentions cs) (take_more ts i t low ∙ ap (λ x. take i ts ++ x ∷ []) (sym is)) ∙ terms_push cs (take i ts) t ∙ ap (λ k. term_mentions cs (take i ts) ++ term_mentions (column_if_any cs k) (t ∷ [])) count))

-- an atom mentions its relation, and then its texts
pub atom_found : (db : List Relation) (p : Place) (n : Identifier) (ts : List RawTerm) (r : Option Relation) (cs : List Column) (old mid new : List QueryFinding) → r ≡ relation_named db n → cs ≡ columns_in r → mid ≡ old ++ empty_findings p (rows_in r)
    → new ≡ mid ++ flat_map (mention_findings db) (term_mentions cs ts) → new ≡ old ++ flat_map (mention_findings db) (mentions (raw_atom p n ts) db [])
atom_found db p n ts r cs old mid new named columns m k =
    k ∙ ap (λ l. l ++ flat_map (mention_findings db) (term_mentions cs ts)) (m ∙ ap (λ o. old ++ empty_findings p (rows_in o)) named)
    ∙ ap (λ xs. (old ++ empty_findings p (rows_of db n)) ++ flat_map (mention_findings db) (term_mentions xs ts)) (columns ∙ ap columns_in named)
    ∙ append_assoc old (empty_findings p (rows_of db n)) (flat_map (mention_findings db) (term_mentions (columns_in (relation_named db n)) ts))

-- ---- a query

-- one column of the head more
pub head_more : (bs new : List (Bor RawColumn)) (b : Bor RawColumn) (head : List RawColumn) (i : ℕ) (x : RawColumn) → i < length head → x ≡ get_or head i x → map (λ (a : Bor RawColumn). a.now) bs ≡ take i head → new ≡ bs ++ b ∷ [] → b.now ≡ x
    → map (λ (a : Bor RawColumn). a.now) new ≡ take (i + 1) head
head_more bs new b head i x low is before made own =
    ap (map (λ (a : Bor RawColumn). a.now)) made ∙ map-append (λ (a : Bor RawColumn). a.now) bs (b ∷ []) ∙ ap (λ l. l ++ b.now ∷ []) before ∙ ap (λ y. take i head ++ y ∷ []) (own ∙ is) ∙ sym (take_more head i x low)

-- what its body names within the head's columns
pub query_walked : (db shown : List Relation) (q : RawQuery) (bs : Binders) (old new : List QueryFinding) → shown ≡ db → old ≡ [] → bs ≡ reverse q.head → new ≡ old ++ flat_map (mention_findings shown) (mentions (raw_form_of q.body) shown bs) → new ≡ query_findings db (raw_question_of q)
query_walked db shown q bs old new same none head is =
    is ∙ ap (λ l. l ++ flat_map (mention_findings shown) (mentions (raw_form_of q.body) shown bs)) none
    ∙ ap (λ d. flat_map (mention_findings d) (mentions (raw_form_of q.body) d bs)) same
    ∙ ap (λ xs. flat_map (mention_findings db) (mentions (raw_form_of q.body) db xs)) head
