-- The raw query that a written query means.
use Rattle.std.specs.Prelude.{pos, codes, map, List, [], ◌∷◌}
use Rattle.lrp_model.specs.DatabaseMeaning.{signed, integer_of}
use Rattle.lrp_model.specs.Queries.{Language, WrittenTerm, WrittenArgument, WrittenFormula, FurtherMembers, WrittenQuery, WrittenDefinition, WrittenFile, Quantifier}
use Rattle.lrp_model.specs.Queries.WrittenArgument.{argument, star}
use Rattle.lrp_model.specs.Queries.Quantifier.{existential, universal}
use Rattle.lrp_model.specs.Texts.{Identifier}
use Rattle.lrp_model.specs.declared.tokens.Place.{Place}
use Rattle.lrp_model.specs.declared.raw.RawColumn.{RawColumn}
use Rattle.lrp_model.specs.declared.formulas.Op.TheVariants.{Eq}
use Rattle.lrp_model.specs.Queries.WrittenTerm.{integer, text_term, variable, shifted}
use Rattle.lrp_model.specs.Queries.WrittenFormula.{atom_formula, compared, member, denied, all_of, any_of, implied, group, some, every, ranged, paired, differing, several, bare_all, bare_any, bare_chain, chain, hole}
use Rattle.lrp_model.specs.Queries.FurtherMembers.{last, more}
use Rattle.lrp_model.specs.RawQueries.{RawForm, RawForms, RawQuestion, RawDefinitionView, RawFileView, place_of, raw_atom, raw_compare, raw_member, raw_not, raw_and, raw_or, raw_implies, raw_group, raw_exists, raw_forall, raw_ranged, raw_paired, no_raws, raw}
use Rattle.lrp_model.specs.declared.written.Located.{Located}
use Rattle.lrp_model.specs.declared.raw.RawTerm.{RawTerm}
use Rattle.lrp_model.specs.declared.raw.RawTermKind.{RawTermKind}
use Rattle.lrp_model.specs.declared.raw.RawTermKind.TheVariants.{Int, Text, Var, Shifted}

-- a term; an offset downwards is a negative one
abbrev pub term_kind : WrittenTerm → RawTermKind
term_kind (integer i) = Int (integer_of i)
term_kind (text_term t) = Text t
term_kind (variable n) = Var n
term_kind (shifted n down k) = Shifted n (signed down k)

abbrev pub raw_term : Located WrittenTerm → RawTerm
raw_term t = record { kind = term_kind t.item; place = t.place }

-- the name of a `*` before it is written out, which no bytes spell
abbrev pub star_name : Identifier
star_name = codes "*"

-- what an atom has for a column
abbrev pub argument_kind : {l : Language} → WrittenArgument l → RawTermKind
argument_kind (argument t) = term_kind t
argument_kind (star t) = Var star_name

abbrev pub raw_argument : {l : Language} → Located (WrittenArgument l) → RawTerm
raw_argument t = record { kind = argument_kind t.item; place = t.place }

abbrev pub raw_quantified : Quantifier → Place → RawColumn → RawForm → RawForm
raw_quantified existential = raw_exists
raw_quantified universal = raw_forall

-- quantifiers of these names, the first outermost, over a formula: each has the sort of the column, and its word's place
abbrev pub raw_several : Quantifier → Place → List (Located Identifier) → RawColumn → RawForm → RawForm
raw_several q p [] c f = raw_quantified q p c f
raw_several q p (n ∷ ns) c f = raw_quantified q p (record { name = n.item; place = n.place; sort = c.sort; sort_place = c.sort_place }) (raw_several q p ns c f)

-- a formula; one that begins with a term has the term's place, one without parentheses that of its first token, and a hole, which no bytes spell, is an `or` of nothing
abbrev mutual
  pub raw_form : {l : Language} → WrittenFormula l → RawForm
  raw_form (atom_formula p n ts) = raw_atom p n (map raw_argument ts)
  raw_form (compared l op r) = raw_compare l.place (raw_term l) op (raw_term r)
  raw_form (member t i k) = raw_member t.place (raw_term t) (record { offset = integer_of i; period = pos k })
  raw_form (denied p f) = raw_not p (raw_form f)
  raw_form (all_of p f fs) = raw_and p (raw (raw_form f) (raw_forms fs))
  raw_form (any_of p f fs) = raw_or p (raw (raw_form f) (raw_forms fs))
  raw_form (implied p f g) = raw_implies p (raw_form f) (raw_form g)
  raw_form (group p f) = raw_group p (raw_form f)
  raw_form (some p c f) = raw_exists p c (raw_form f)
  raw_form (every p c f) = raw_forall p c (raw_form f)
  raw_form (ranged t word o from to f) = raw_ranged word o (integer_of from) (integer_of to) (raw_form f)
  raw_form (paired t word o f g) = raw_paired word o (raw_form f) (raw_form g)
  raw_form (differing t l r) = raw_not l.place (raw_compare l.place (raw_term l) Eq (raw_term r))
  raw_form (several t q p ns c f) = raw_several q p (ns.first ∷ ns.others) c (raw_form f)
  raw_form (bare_all t f fs) = raw_and (place_of (raw_form f)) (raw (raw_form f) (raw_forms fs))
  raw_form (bare_any t f fs) = raw_or (place_of (raw_form f)) (raw (raw_form f) (raw_forms fs))
  raw_form (bare_chain t f fs) = raw_chain (place_of (raw_form f)) (raw_form f) fs
  raw_form (chain t p f g fs) = raw_implies p (raw_form f) (raw_chain (place_of (raw_form g)) (raw_form g) fs)
  raw_form (hole p) = raw_or p no_raws

  -- a formula, and what it implies in turn
  pub raw_chain : {l : Language} → Place → RawForm → FurtherMembers l → RawForm
  raw_chain p f (last g) = raw_implies p f (raw_form g)
  raw_chain p f (more g gs) = raw_implies p f (raw_chain (place_of (raw_form g)) (raw_form g) gs)

  pub raw_forms : {l : Language} → FurtherMembers l → RawForms
  raw_forms (last f) = raw (raw_form f) no_raws
  raw_forms (more f fs) = raw (raw_form f) (raw_forms fs)

abbrev pub raw_question : {l : Language} → WrittenQuery l → RawQuestion
raw_question q = record { head = q.head; body = raw_form q.body }

abbrev pub raw_definition : {l : Language} → WrittenDefinition l → RawDefinitionView
raw_definition d = record { name = d.name.item; place = d.name.place; columns = d.columns; body = raw_form d.body }

abbrev pub raw_file : {l : Language} → WrittenFile l → RawFileView
raw_file f = record { definitions = map raw_definition f.definitions; query = raw_question f.query }
