-- What the readers of queries ensure.
use Rattle.std.specs.Prelude.{◌≡◌, ℕ, List, [], map, Result, Ok, Err, Vec}
use Rattle.std.specs.Global.{Global}
use Rattle.lrp_model.specs.declared.tokens.Fault.{Fault as TokenFault}
use Rattle.lrp_model.specs.declared.tokens.Fault.TheVariants.{Syntax as syntax, Number as number, TextTooLong as text_too_long, Period as period, Deep as deep, Memory as memory}
use Rattle.lrp_model.specs.declared.tokens.Place.{Place}
use Rattle.lrp_model.specs.declared.faults.QueryRead.{QueryRead}
use Rattle.lrp_model.specs.declared.faults.QueryRead.TheVariants.{Fault, Memory}
use Rattle.lrp_model.specs.declared.faults.QueryKind.TheVariants.{Syntax, Number, Period, Deep, TextTooLong}
use Rattle.lrp_model.specs.declared.tokens.Word.{Word as WordOf}
use Rattle.lrp_model.specs.declared.tokens.Word.TheVariants.{Not as not_word, Exists as exists_word, Forall as forall_word}
use Rattle.lrp_model.specs.declared.tokens.Symbol.{Symbol as SymbolOf}
use Rattle.lrp_model.specs.declared.tokens.Symbol.TheVariants.{Open as open_sign, Minus as minus_sign, Le as le_sign, Lt as lt_sign, Ge as ge_sign, Gt as gt_sign, Equals as equals_sign}
use Rattle.lrp_model.specs.declared.formulas.Op.{Op}
use Rattle.lrp_model.specs.declared.formulas.Op.TheVariants.{Le, Lt, Ge, Gt, Eq}
use Rattle.lrp_model.specs.Tokens.{Tokens}
use Rattle.lrp_model.specs.TextFaults.{Grammatical, IsTextFault}
use Rattle.lrp_model.specs.QueryReading.{Texts, IsFileFault}
use Rattle.lrp_model.specs.RawQueries.{RawQuestion, RawFileView}
use Rattle.lrp_text.specs.Parsers.{ParseOutcome, Reads}
use Rattle.lrp_text.specs.declared.lexemes.Lexeme.{Lexeme}
use Rattle.lrp_text.specs.declared.lexemes.Lexeme.TheVariants.{Name as name_seen, Word as word_seen, Number as number_seen, LargeNumber as large_seen, Text as text_seen, LongText as long_seen, Symbol as symbol_seen, End as end_seen, Bad as bad_seen}
use Rattle.lrp_query.specs.declared.starts.Start.{Start}
use Rattle.lrp_query.specs.declared.starts.Start.TheVariants.{Not as by_not, Exists as by_exists, Forall as by_forall, Open as by_open, Name as by_name, Term as by_term}

-- the parser's outcome, seen so, unless memory ran out
abbrev pub ReadsAs : {A B : Type 0} → (A → B) → ParseOutcome B → Result A TokenFault → Tokens → Type 0
ReadsAs view outcome (Ok a) new = outcome ≡ Ok (view a, new)
ReadsAs view outcome (Err k) new = Reads outcome (Err k) new

-- the same of several
abbrev pub ReadsEach : {A B : Type 0} → (A → B) → ParseOutcome (List B) → Result (Vec A Global) TokenFault → Tokens → Type 0
ReadsEach view outcome (Ok all) new = outcome ≡ Ok (map view all.items, new)
ReadsEach view outcome (Err k) new = Reads outcome (Err k) new

-- the comparison that a symbol stands for
abbrev pub symbol_op : SymbolOf → Result Op TokenFault
symbol_op le_sign = Ok Le
symbol_op lt_sign = Ok Lt
symbol_op ge_sign = Ok Ge
symbol_op gt_sign = Ok Gt
symbol_op equals_sign = Ok Eq
symbol_op _ = Err syntax

-- the comparison that a lexeme shows
abbrev pub shown_op : Lexeme → Result Op TokenFault
shown_op (symbol_seen s) = symbol_op s
shown_op _ = Err syntax

-- how a formula begins that a reserved word begins
abbrev pub word_start : WordOf → Start
word_start not_word = by_not
word_start exists_word = by_exists
word_start forall_word = by_forall
word_start _ = by_term

-- how one begins that a symbol begins
abbrev pub symbol_start : SymbolOf → Start
symbol_start open_sign = by_open
symbol_start _ = by_term

-- how a formula begins, by the lexeme that comes first
abbrev pub shown_start : Lexeme → Start
shown_start name_seen = by_name
shown_start (word_seen w) = word_start w
shown_start (symbol_seen s) = symbol_start s
shown_start _ = by_term

-- the fault at a reserved word where a formula would be too deep
abbrev pub word_too_deep : WordOf → TokenFault
word_too_deep not_word = deep
word_too_deep exists_word = deep
word_too_deep forall_word = deep
word_too_deep _ = syntax

-- the same at a symbol
abbrev pub symbol_too_deep : SymbolOf → TokenFault
symbol_too_deep open_sign = deep
symbol_too_deep minus_sign = deep
symbol_too_deep _ = syntax

-- the fault where a formula would be too deep, by the lexeme that comes first
abbrev pub shown_too_deep : Lexeme → TokenFault
shown_too_deep name_seen = deep
shown_too_deep (word_seen w) = word_too_deep w
shown_too_deep (number_seen n) = deep
shown_too_deep large_seen = number
shown_too_deep text_seen = deep
shown_too_deep long_seen = deep
shown_too_deep (symbol_seen s) = symbol_too_deep s
shown_too_deep end_seen = syntax
shown_too_deep bad_seen = syntax

-- why bytes gave nothing by a grammar: the fault of the text, or want of memory
abbrev pub IsUnreadOf : Grammatical → List ℕ → QueryRead → Type 0
IsUnreadOf Grammar bytes (Fault f) = IsTextFault Grammar bytes f
IsUnreadOf Grammar bytes Memory = Unit {0}

-- why there is no query
abbrev pub IsUnread : List ℕ → QueryRead → Type 0
IsUnread = IsUnreadOf Texts

-- a query as a file without definitions
abbrev pub query_alone : RawQuestion → RawFileView
query_alone q = record { definitions = []; query = q }

-- why there is no file
abbrev pub IsFileUnread : List ℕ → QueryRead → Type 0
IsFileUnread bytes (Fault f) = IsFileFault bytes f
IsFileUnread bytes Memory = Unit {0}

-- the fault of a text, from the kind that was met at a place
abbrev pub refusal_of : TokenFault → Place → QueryRead
refusal_of syntax p = Fault (record { kind = Syntax; place = p })
refusal_of number p = Fault (record { kind = Number; place = p })
refusal_of text_too_long p = Fault (record { kind = TextTooLong; place = p })
refusal_of period p = Fault (record { kind = Period; place = p })
refusal_of deep p = Fault (record { kind = Deep; place = p })
refusal_of memory p = Memory
