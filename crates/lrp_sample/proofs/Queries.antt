-- The tree of the sample's query, and that its text spells it.
use Rattle.std.proofs.Common.{◌≡◌, ℕ, false, [], ◌∷◌, refl, codes, arith}
use Rattle.std.specs.Str.{IsUtf8}
use Rattle.lrp_model.specs.declared.relations.Sort.TheVariants.{Time, Data}
use Rattle.lrp_model.specs.declared.formulas.Op.TheVariants.{Ge, Le}
use Rattle.lrp_model.specs.declared.written.Located.{Located}
use Rattle.lrp_model.specs.Tokens.{Spells}
use Rattle.lrp_model.specs.Lexing.{tokens, tokens_from, after, skip, run, after_run, word_or_name, text_from, symbol_from, scan, scan_in, symbol_in, tokens_in_from}
use Rattle.lrp_model.specs.Queries.{WrittenTerm, WrittenArgument, WrittenFormula, WrittenQuery, query_text, FitsQuery}
use Rattle.lrp_model.specs.Queries.WrittenTerm.{variable, shifted}
use Rattle.lrp_model.specs.Queries.Language.{first_order}
use Rattle.lrp_model.specs.Queries.WrittenFormula.{atom_formula, compared, denied, all_of, some}
use Rattle.lrp_model.specs.Queries.FurtherMembers.{last, more}
use Rattle.lrp_model.specs.Queries.WrittenArgument.{argument}
use Rattle.lrp_model.specs.QueryReading.{IsQuery}
use Rattle.lrp_model.specs.Sorting.{IsWellSorted}
use Rattle.lrp_model.specs.Checked.{plain_question}
use Rattle.lrp_sample.specs.Texts.{sample_query}
use Rattle.lrp_sample.specs.Trees.{sample_relations, place, binder, raw_sample, sample_question}

-- a term in the first line
abbrev here : WrittenTerm → ℕ → Located WrittenTerm
here t at = record { place = place at; item = t }

-- the same in an atom
abbrev given : WrittenTerm → ℕ → Located (WrittenArgument first_order)
given t at = record { place = place at; item = argument t }

-- some trip leaves at u or within 15 minutes after it
abbrev written_some : WrittenFormula first_order
written_some =
    some (place 60) (binder (codes "v") 67 Time 70) (some (place 75) (binder (codes "w") 82 Time 85) (some (place 90) (binder (codes "k") 97 Data 100) (all_of (place 105)
    (atom_formula (place 106) (codes "trip") (given (variable (codes "v")) 111 ∷ given (variable (codes "w")) 114 ∷ given (variable (codes "k")) 117 ∷ [])) (
    more (compared (here (variable (codes "v")) 124) Ge (here (variable (codes "u")) 129)) (
    last (compared (here (variable (codes "v")) 135) Le (here (shifted (codes "u") false 15) 140)))))))

-- the query as it is written
abbrev written_sample : WrittenQuery first_order
written_sample = record {
  head = binder (codes "t") 3 Time 6 ∷ binder (codes "l") 12 Data 15 ∷ [];
  body = some (place 22) (binder (codes "u") 29 Time 32) (all_of (place 37)
      (atom_formula (place 38) (codes "trip") (given (variable (codes "t")) 43 ∷ given (variable (codes "u")) 46 ∷ given (variable (codes "l")) 49 ∷ [])) (
      last (denied (place 56) written_some)));
  formula = tt;
}

query_spelled : Spells (query_text written_sample) (tokens sample_query)
unfolding tokens_in_from after skip run after_run word_or_name text_from symbol_in scan_in lib.Utf8.encode
query_spelled = (refl, ((refl, refl), (refl, ((refl, refl), (refl, ((refl, refl), (refl, ((refl, refl), (refl, ((refl, refl), ((refl, refl), (refl, ((refl, refl), ((refl, refl), ((refl, refl), (refl, ((refl, refl), (refl, ((refl, refl), (refl, ((refl, refl), (refl, (refl, ((refl, refl), ((refl, refl), ((refl, refl), (refl, ((refl, refl), ((refl, refl), ((refl, refl), (refl, ((refl, refl), ((refl, refl), ((refl, refl), (refl, ((refl, refl), ((refl, refl), ((refl, refl), (refl, ((refl, refl), (refl, ((refl, refl), (refl, ((refl, refl), (refl, (refl, ((refl, refl), (refl, ((refl, refl), (refl, ((refl, refl), (refl, ((refl, refl), (refl, (refl, (refl, (refl, (refl, (refl, refl)))))))))))))))))))))))))))))))))))))))))))))))))))))))))))

query_utf8 : IsUtf8 sample_query
unfolding lib.Utf8.encode
query_utf8 = (sample_query, (refl, refl))

query_fits : FitsQuery written_sample
query_fits = record { sizes = ((tt, (tt, (tt, tt))), ((tt, (tt, (tt, tt))), ((tt, tt), (tt, omega arith)))); depth = (tt, (tt, (tt, tt))) }

-- the text is read as the query
pub query_is_read : IsQuery sample_query raw_sample
query_is_read = record { tree = written_sample; text = record { utf8 = query_utf8; spelled = query_spelled; lawful = query_fits }; meant = refl }

-- it is well-sorted for the database
pub query_is_sorted : (seed size : ℕ) → IsWellSorted (sample_relations seed size) raw_sample
unfolding lib.Utf8.encode
query_is_sorted seed size = refl

-- and this is the query without its places
pub query_is_plain : plain_question raw_sample ≡ sample_question
unfolding lib.Utf8.encode
query_is_plain = refl
