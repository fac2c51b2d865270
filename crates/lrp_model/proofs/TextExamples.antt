-- Texts with their relations, their queries and their faults, computed by the definitions.
use Rattle.std.proofs.Common.{ℕ, Bool, true, false, List, [], ◌∷◌, refl, arith}
use Rattle.std.specs.Prelude.{pos, negsuc, codes}
use Rattle.lrp_model.specs.declared.tokens.Place.{Place}
use Rattle.lrp_model.specs.declared.tokens.Symbol.TheVariants.{Open, Close, OpenBrace, CloseBrace}
use Rattle.lrp_model.specs.declared.tokens.Word.TheVariants.{Relation as relation_word}
use Rattle.lrp_model.specs.declared.tokens.Fault.TheVariants.{Syntax as syntax}
use Rattle.lrp_model.specs.declared.relations.Sort.{Sort}
use Rattle.lrp_model.specs.declared.relations.Sort.TheVariants.{Time, Data, Named}
use Rattle.lrp_model.specs.declared.relations.Value.TheVariants.{Point as point, Const}
use Rattle.lrp_model.specs.declared.relations.Relation.{Relation}
use Rattle.lrp_model.specs.declared.formulas.Op.TheVariants.{Eq}
use Rattle.lrp_model.specs.declared.raw.RawColumn.{RawColumn}
use Rattle.lrp_model.specs.declared.written.Located.{Located}
use Rattle.lrp_model.specs.declared.written.Integer.{Integer}
use Rattle.lrp_model.specs.declared.written.WrittenValue.TheVariants.{Constant, Instant, Point}
use Rattle.lrp_model.specs.declared.written.BoundOp.TheVariants.{AtMost}
use Rattle.lrp_model.specs.declared.written.Side.TheVariants.{Alone, Shifted}
use Rattle.lrp_model.specs.declared.written.RawRelation.{RawRelation}
use Rattle.lrp_model.specs.declared.faults.DbKind.TheVariants.{Name, Column}
use Rattle.lrp_model.specs.declared.faults.QueryKind.{QueryKind}
use Rattle.lrp_model.specs.declared.faults.QueryKind.TheVariants.{Sort as WrongSort, Arity, Rebound, UnknownSort}
use Rattle.lrp_model.specs.Tokens.{Token, Placed, Tokens, Spells}
use Rattle.lrp_model.specs.Tokens.Token.{name_token, word_token, symbol_token, end_token}
use Rattle.lrp_model.specs.Lexing.{tokens, tokens_from, after, skip, run, after_run, word_or_name, text_from, symbol_from, scan, scan_in, symbol_in, tokens_in_from}
use Rattle.lrp_model.specs.Refused.{TextOf}
use Rattle.lrp_model.specs.Databases.{database_text, FitsDatabase}
use Rattle.lrp_model.specs.DatabaseReading.{IsDatabase, IsNoDatabaseText, HasDatabaseFault}
use Rattle.lrp_model.specs.Queries.{WrittenTerm, WrittenArgument, WrittenQuery}
use Rattle.lrp_model.specs.Queries.WrittenArgument.{argument}
use Rattle.lrp_model.specs.Queries.Language.{first_order}
use Rattle.lrp_model.specs.Queries.WrittenTerm.{variable, text_term}
use Rattle.lrp_model.specs.Queries.WrittenFormula.{atom_formula, compared, all_of, some}
use Rattle.lrp_model.specs.Queries.FurtherMembers.{last}
use Rattle.lrp_model.specs.QueryMeaning.{raw_question}
use Rattle.lrp_model.specs.QueryReading.{IsQueryText}
use Rattle.lrp_model.specs.Sorting.{IsSortFault}

-- a place in the first line
abbrev place : ℕ → Place
place column = record { line = 1; column = column }

abbrev here : {A : Type 0} → ℕ → A → Located A
here column x = record { place = place column; item = x }

abbrev column : List ℕ → ℕ → Sort → ℕ → RawColumn
column name at sort sort_at = record { name = name; place = place at; sort = sort; sort_place = place sort_at }

abbrev number : Bool → ℕ → Integer
number negative size = record { negative = negative; size = size }

-- ---- a database, and faults of two others

abbrev rows_bytes : List ℕ
rows_bytes = codes "relation r(t: time, d: data) { (480, \"a\\\"b\"); (-5+60n, \"\") where t <= 100; }"

abbrev rows_tree : List RawRelation
rows_tree =
    record {
      name = here 10 (codes "r");
      columns = column (codes "t") 12 Time 15 ∷ column (codes "d") 21 Data 24 ∷ [];
      rows =
          here 32 (record { values = here 33 (Instant (number false 480)) ∷ here 38 (Constant (codes "a\"b")) ∷ []; bounds = [] })
          ∷ here 47 (record { values = here 48 (Point (number true 5) 60) ∷ here 56 (Constant []) ∷ []; bounds = record { left = here 66 (codes "t"); op = AtMost; side = Alone (number false 100) } ∷ [] }) ∷ [];
    } ∷ []

rows_spelled : Spells (database_text rows_tree) (tokens rows_bytes)
unfolding tokens_in_from after skip run after_run word_or_name text_from symbol_in scan_in lib.Utf8.encode
rows_spelled = (refl, ((refl, refl), (refl, ((refl, refl), (refl, ((refl, refl), (refl, ((refl, refl), (refl, ((refl, refl), (refl, (refl, ((refl, refl), ((refl, refl), (refl, ((refl, refl), (refl, (refl, ((refl, refl), ((refl, refl), (refl, (refl, (refl, (refl, (refl, ((refl, refl), (refl, (refl, ((refl, refl), (refl, (refl, (refl, (refl, (refl, refl))))))))))))))))))))))))))))))))))

-- the instant 480 is the point 0+1n with its two bounds
pub rows_read : IsDatabase rows_bytes (record {
  name = codes "r";
  columns = record { name = codes "t"; sort = Time } ∷ record { name = codes "d"; sort = Data } ∷ [];
  rows =
      record { values = point (record { offset = pos 0; period = pos 1 }) ∷ Const (codes "a\"b") ∷ []; bounds = record { left = 1; right = 0; most = pos 480 } ∷ record { left = 0; right = 1; most = negsuc 479 } ∷ [] }
      ∷ record { values = point (record { offset = negsuc 4; period = pos 60 }) ∷ Const [] ∷ []; bounds = record { left = 1; right = 0; most = pos 100 } ∷ [] } ∷ [];
} ∷ [])
unfolding lib.Utf8.encode
rows_read = record {
  tree = rows_tree;
  text = record { utf8 = (rows_bytes, (refl, refl)); spelled = rows_spelled; lawful = ((((omega arith, (omega arith, tt)), tt), ((((omega arith, omega arith, omega arith), (omega arith, tt)), (omega arith, tt)), tt)), tt) };
  sound = refl;
  meant = refl;
}

-- a second column of one name
pub twice_named : HasDatabaseFault (codes "relation a(t: time, t: data) { }") (record { kind = Name; place = place 21 })
unfolding tokens_in_from after skip run after_run word_or_name text_from symbol_in scan_in lib.Utf8.encode
twice_named = record {
  tree = record { name = here 10 (codes "a"); columns = column (codes "t") 12 Time 15 ∷ column (codes "t") 21 Data 24 ∷ []; rows = [] } ∷ [];
  text = record { utf8 = (codes "relation a(t: time, t: data) { }", (refl, refl)); spelled = (refl, ((refl, refl), (refl, ((refl, refl), (refl, ((refl, refl), (refl, ((refl, refl), (refl, ((refl, refl), (refl, (refl, (refl, (refl, refl)))))))))))))); lawful = (tt, tt) };
  found = refl;
}

-- a bound on a column that is none of times
pub bound_on_data : HasDatabaseFault (codes "relation a(t: time, l: data) { (1, \"x\") where l <= t + 3; }") (record { kind = Column; place = place 47 })
unfolding tokens_in_from after skip run after_run word_or_name text_from symbol_in scan_in lib.Utf8.encode
bound_on_data = record {
  tree = record {
    name = here 10 (codes "a");
    columns = column (codes "t") 12 Time 15 ∷ column (codes "l") 21 Data 24 ∷ [];
    rows = here 32 (record { values = here 33 (Instant (number false 1)) ∷ here 36 (Constant (codes "x")) ∷ []; bounds = record { left = here 47 (codes "l"); op = AtMost; side = Shifted (here 52 (codes "t")) false 3 } ∷ [] }) ∷ [];
  } ∷ [];
  text = record { utf8 = (codes "relation a(t: time, l: data) { (1, \"x\") where l <= t + 3; }", (refl, refl)); spelled = (refl, ((refl, refl), (refl, ((refl, refl), (refl, ((refl, refl), (refl, ((refl, refl), (refl, ((refl, refl), (refl, (refl, ((refl, refl), ((refl, refl), (refl, ((refl, refl), (refl, (refl, ((refl, refl), (refl, ((refl, refl), (refl, (refl, (refl, (refl, (refl, refl)))))))))))))))))))))))))); lawful = ((((omega arith, (omega arith, tt)), (omega arith, tt)), tt), tt) };
  found = refl;
}

-- ---- a text that ends too early

abbrev relation_token : Placed
relation_token = record { token = word_token relation_word; place = place 1 }

abbrev end_at_9 : Placed
end_at_9 = record { token = end_token; place = place 9 }

abbrev here_token : Token → Placed
here_token t = record { token = t; place = place 1 }

-- no text has the end after the word `relation`
no_end : (lawful : Bool) (other : Tokens) → TextOf database_text FitsDatabase lawful (relation_token ∷ end_at_9 ∷ other) → ⊥
no_end lawful other t = none_of t.0 t.2
  where
    none_of : (tree : List RawRelation) → Spells (database_text tree) (relation_token ∷ end_at_9 ∷ other) → ⊥
    none_of [] s = cc
    none_of (r ∷ rs) s = cc

-- a lawful text begins with the word `relation`
pub ended : IsNoDatabaseText (codes "relation") syntax (place 9)
unfolding tokens_in_from after skip run after_run word_or_name text_from symbol_in scan_in lib.Utf8.encode
ended = record {
  utf8 = (codes "relation", (refl, refl));
  bad = end_at_9;
  tail = [];
  refused = record {
    front = relation_token ∷ [];
    whole = refl;
    cause = tt;
    more = here_token (name_token (codes "a")) ∷ here_token (symbol_token Open) ∷ here_token (symbol_token Close) ∷ here_token (symbol_token OpenBrace) ∷ here_token (symbol_token CloseBrace) ∷ here_token end_token ∷ [];
    begins = (record { name = here 1 (codes "a"); columns = []; rows = [] } ∷ [], (tt, tt), (refl, ((refl, refl), (refl, (refl, (refl, (refl, (refl, refl))))))));
    first = no_end true;
    syntax = λ e. no_end false;
    others = λ n. absurd (n refl);
  };
  place_is = refl;
}

-- ---- sort faults of queries

-- the bytes are a query with this first sort fault
pub record HasSortFault (db : List Relation) (bytes : List ℕ) (kind : QueryKind) (place : Place) : Type 0 where
  pub tree : WrittenQuery first_order
  pub text : IsQueryText bytes tree
  pub found : IsSortFault db (raw_question tree) (record { kind = kind; place = place })

-- relation bus(t: time)
abbrev bus : List Relation
bus = record { name = codes "bus"; columns = record { name = codes "t"; sort = Time } ∷ []; rows = [] } ∷ []

-- relation trip(t: time, l: line, c: city)
abbrev trip : List Relation
trip = record { name = codes "trip"; columns = record { name = codes "t"; sort = Time } ∷ record { name = codes "l"; sort = Named (codes "line") } ∷ record { name = codes "c"; sort = Named (codes "city") } ∷ []; rows = [] } ∷ []

abbrev name : ℕ → List ℕ → Located WrittenTerm
name at n = here at (variable n)

-- the same in an atom
abbrev term : ℕ → WrittenTerm → Located (WrittenArgument first_order)
term at t = here at (argument t)

-- the data variable stands in a time column, before the unknown relation
pub sort_of_a_term : HasSortFault bus (codes "{ d: data | (bus(d) and tram(d)) }") WrongSort (place 18)
unfolding tokens_in_from after skip run after_run word_or_name text_from symbol_in scan_in lib.Utf8.encode
sort_of_a_term = record {
  tree = record { head = column (codes "d") 3 Data 6 ∷ []; body = all_of (place 13) (atom_formula (place 14) (codes "bus") (term 18 (variable (codes "d")) ∷ [])) (last (atom_formula (place 25) (codes "tram") (term 30 (variable (codes "d")) ∷ []))); formula = tt };
  text = record { utf8 = (codes "{ d: data | (bus(d) and tram(d)) }", (refl, refl)); spelled = (refl, ((refl, refl), (refl, ((refl, refl), (refl, ((refl, refl), ((refl, refl), (refl, ((refl, refl), (refl, (refl, ((refl, refl), (refl, ((refl, refl), (refl, (refl, (refl, (refl, refl)))))))))))))))))); lawful = record { sizes = ((tt, tt), (tt, tt)); depth = (tt, tt) } };
  found = refl;
}

-- the name of the head is bound again
pub bound_twice : HasSortFault bus (codes "{ t: time | exists t: time bus(t, t) }") Rebound (place 20)
unfolding tokens_in_from after skip run after_run word_or_name text_from symbol_in scan_in lib.Utf8.encode
bound_twice = record {
  tree = record { head = column (codes "t") 3 Time 6 ∷ []; body = some (place 13) (column (codes "t") 20 Time 23) (atom_formula (place 28) (codes "bus") (term 32 (variable (codes "t")) ∷ term 35 (variable (codes "t")) ∷ [])); formula = tt };
  text = record { utf8 = (codes "{ t: time | exists t: time bus(t, t) }", (refl, refl)); spelled = (refl, ((refl, refl), (refl, ((refl, refl), (refl, ((refl, refl), ((refl, refl), (refl, ((refl, refl), ((refl, refl), (refl, ((refl, refl), (refl, ((refl, refl), (refl, (refl, (refl, refl))))))))))))))))); lawful = record { sizes = (tt, (tt, tt)); depth = tt } };
  found = refl;
}

-- too many terms, before the unbound variable
pub terms_too_many : HasSortFault bus (codes "{ t: time | bus(t, x) }") Arity (place 13)
unfolding tokens_in_from after skip run after_run word_or_name text_from symbol_in scan_in lib.Utf8.encode
terms_too_many = record {
  tree = record { head = column (codes "t") 3 Time 6 ∷ []; body = atom_formula (place 13) (codes "bus") (term 17 (variable (codes "t")) ∷ term 20 (variable (codes "x")) ∷ []); formula = tt };
  text = record { utf8 = (codes "{ t: time | bus(t, x) }", (refl, refl)); spelled = (refl, ((refl, refl), (refl, ((refl, refl), (refl, ((refl, refl), (refl, ((refl, refl), (refl, ((refl, refl), (refl, (refl, (refl, refl))))))))))))); lawful = record { sizes = (tt, (tt, tt)); depth = tt } };
  found = refl;
}

-- a variable of sort line in a column of sort city; the text before it has any data sort
pub lines_and_cities : HasSortFault trip (codes "{ l: line | exists t: time trip(t, \"x\", l) }") WrongSort (place 41)
unfolding tokens_in_from after skip run after_run word_or_name text_from symbol_in scan_in lib.Utf8.encode
lines_and_cities = record {
  tree = record { head = column (codes "l") 3 (Named (codes "line")) 6 ∷ []; body = some (place 13) (column (codes "t") 20 Time 23) (atom_formula (place 28) (codes "trip") (term 33 (variable (codes "t")) ∷ term 36 (text_term (codes "x")) ∷ term 41 (variable (codes "l")) ∷ [])); formula = tt };
  text = record { utf8 = (codes "{ l: line | exists t: time trip(t, \"x\", l) }", (refl, refl)); spelled = (refl, ((refl, refl), (refl, ((refl, refl), (refl, ((refl, refl), ((refl, refl), (refl, ((refl, refl), ((refl, refl), (refl, ((refl, refl), (refl, ((refl, refl), (refl, ((refl, refl), (refl, (refl, (refl, refl))))))))))))))))))); lawful = record { sizes = (tt, (omega arith, (tt, tt))); depth = tt } };
  found = refl;
}

-- no column has the sort lime
pub limes : HasSortFault trip (codes "{ l: lime | l = l }") UnknownSort (place 6)
unfolding tokens_in_from after skip run after_run word_or_name text_from symbol_in scan_in lib.Utf8.encode
limes = record {
  tree = record { head = column (codes "l") 3 (Named (codes "lime")) 6 ∷ []; body = compared (name 13 (codes "l")) Eq (name 17 (codes "l")); formula = tt };
  text = record { utf8 = (codes "{ l: lime | l = l }", (refl, refl)); spelled = (refl, ((refl, refl), (refl, ((refl, refl), (refl, ((refl, refl), (refl, ((refl, refl), (refl, (refl, refl)))))))))); lawful = record { sizes = (tt, tt); depth = tt } };
  found = refl;
}
