-- What a query names, with its places: the relations of its atoms, and the texts at places of data sorts.
use Rattle.std.specs.Prelude.{◌&&◌, ◌==◌, length, Bool, true, false, List, [], ◌∷◌, ◌++◌, flat_map, reverse, unwrap_or, if◌then◌else◌}
use Rattle.std.specs.List.{list_any}
use Rattle.std.specs.Str.{bytes_eq}
use Rattle.lrp_model.specs.Texts.{Text, Identifier}
use Rattle.lrp_model.specs.Domains.{database_texts}
use Rattle.lrp_model.specs.Rows.{columns_in, relation_named, rows_of}
use Rattle.lrp_model.specs.Sorts.{same_sort}
use Rattle.lrp_model.specs.declared.relations.Row.{Row}
use Rattle.lrp_lint.specs.declared.flaws.QueryFinding.{QueryFinding}
use Rattle.lrp_lint.specs.declared.flaws.QueryFlaw.{QueryFlaw}
use Rattle.lrp_lint.specs.declared.flaws.QueryFlaw.TheVariants.{UnknownText, EmptyRelation}
use Rattle.lrp_model.specs.RawQueries.{RawForm, RawForms, RawQuestion, raw_atom, raw_compare, raw_member, raw_not, raw_and, raw_or, raw_implies, raw_group, raw_exists, raw_forall, raw_ranged, raw_paired, no_raws, raw}
use Rattle.lrp_model.specs.Sorting.{Binders, binder_sort}
use Rattle.lrp_model.specs.declared.formulas.Op.{Op}
use Rattle.lrp_model.specs.declared.formulas.Op.TheVariants.{Le, Lt, Ge, Gt, Eq}
use Rattle.lrp_model.specs.declared.raw.RawTerm.{RawTerm}
use Rattle.lrp_model.specs.declared.raw.RawTermKind.{RawTermKind}
use Rattle.lrp_model.specs.declared.raw.RawTermKind.TheVariants.{Int, Text as text_term, Var, Shifted}
use Rattle.lrp_model.specs.declared.relations.Column.{Column}
use Rattle.lrp_model.specs.declared.relations.Relation.{Relation}
use Rattle.lrp_model.specs.declared.relations.Sort.{Sort}
use Rattle.lrp_model.specs.declared.relations.Sort.TheVariants.{Data}
use Rattle.lrp_model.specs.declared.tokens.Place.{Place}

-- a relation that is named at a place, or a text at one of this sort
pub data Mention : Type 0 where
  relation_at : Place → Identifier → Mention
  text_at : Place → Sort → Text → Mention

-- the text that a term is, where it is one, with the sort of its place
abbrev pub mention_of : Place → RawTermKind → Sort → List Mention
mention_of p (text_term t) s = text_at p s t ∷ []
mention_of p (Int x) s = []
mention_of p (Var n) s = []
mention_of p (Shifted n plus) s = []

-- the texts among an atom's terms, each with the sort of its column; an atom has a term for each column, so the last case is that of none
abbrev pub term_mentions : List Column → List RawTerm → List Mention
term_mentions (c ∷ cs) (t ∷ ts) = mention_of t.place t.kind c.sort ++ term_mentions cs ts
term_mentions _ _ = []

-- the sort that a text has beside a term in `=`: that of the variable's innermost binder, or `data` beside another text
abbrev pub sort_opposite : Binders → RawTermKind → Sort
sort_opposite bs (Var n) = unwrap_or (binder_sort bs n) Data
sort_opposite bs (text_term t) = Data
sort_opposite bs (Int x) = Data
sort_opposite bs (Shifted n plus) = Data

-- the texts on both sides of an `=`; the other comparisons are of times
abbrev pub compare_mentions : Binders → RawTerm → Op → RawTerm → List Mention
compare_mentions bs l Eq r = mention_of l.place l.kind (sort_opposite bs r.kind) ++ mention_of r.place r.kind (sort_opposite bs l.kind)
compare_mentions bs l Le r = []
compare_mentions bs l Lt r = []
compare_mentions bs l Ge r = []
compare_mentions bs l Gt r = []

-- what a formula within binders names
abbrev mutual
  pub mentions : RawForm → List Relation → Binders → List Mention
  mentions (raw_atom p n ts) db bs = relation_at p n ∷ term_mentions (columns_in (relation_named db n)) ts
  mentions (raw_compare p l op r) db bs = compare_mentions bs l op r
  mentions (raw_member p t point) db bs = []
  mentions (raw_not p f) db bs = mentions f db bs
  mentions (raw_and p fs) db bs = mentions_each fs db bs
  mentions (raw_or p fs) db bs = mentions_each fs db bs
  mentions (raw_implies p f g) db bs = mentions f db bs ++ mentions g db bs
  mentions (raw_group p f) db bs = mentions f db bs
  mentions (raw_exists p c f) db bs = mentions f db (c ∷ bs)
  mentions (raw_forall p c f) db bs = mentions f db (c ∷ bs)
  mentions (raw_ranged word o from to f) db bs = mentions f db bs
  mentions (raw_paired word o f g) db bs = mentions f db bs ++ mentions g db bs

  pub mentions_each : RawForms → List Relation → Binders → List Mention
  mentions_each no_raws db bs = []
  mentions_each (raw f fs) db bs = mentions f db bs ++ mentions_each fs db bs

-- the text of the sort is this one
abbrev pub is_entry : Sort → Text → Sort × Text → Bool
is_entry s t entry = same_sort s entry.0 && bytes_eq t entry.1

-- some row has the text in a column of the sort
abbrev pub is_known : List Relation → Sort → Text → Bool
is_known db s t = list_any (is_entry s t) (database_texts db)

-- the finding of this kind at a place
abbrev pub found_at : Place → QueryFlaw → List QueryFinding
found_at p flaw = record { line = p.line; column = p.column; flaw = flaw } ∷ []

-- a relation that has no rows
abbrev pub empty_findings : Place → List Row → List QueryFinding
empty_findings p rows = if length rows == 0 then found_at p EmptyRelation else []

-- what is wrong with a mention
abbrev pub mention_findings : List Relation → Mention → List QueryFinding
mention_findings db (relation_at p n) = empty_findings p (rows_of db n)
mention_findings db (text_at p s t) = if is_known db s t then [] else found_at p UnknownText

-- what is wrong with the mentions of a query, in order of its text, and once more for each copy of a place
abbrev pub query_findings : List Relation → RawQuestion → List QueryFinding
query_findings db q = flat_map (mention_findings db) (mentions q.body db (reverse q.head))
