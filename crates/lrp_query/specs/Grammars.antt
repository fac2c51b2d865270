-- What the program makes of what it reads, in each grammar.
use Rattle.std.specs.Prelude.{map, ◌≡◌, ◌<◌, ◌⊎◌, ℕ, ℤ, Bool, cond, codes, List, [], length, Option, Some, None, Ok, Err, Vec}
use Rattle.std.specs.Global.{Global}
use Rattle.std.specs.Str.{IsUtf8, bytes_eq}
use Rattle.lrp_model.specs.Texts.{Identifier}
use Rattle.lrp_model.specs.declared.raw.RawColumn.{RawColumn}
use Rattle.lrp_model.specs.declared.raw.RawDefinition.{RawDefinition}
use Rattle.lrp_model.specs.declared.raw.RawTerm.{RawTerm}
use Rattle.lrp_model.specs.declared.raw.RawTermKind.{RawTermKind}
use Rattle.lrp_model.specs.DatabaseMeaning.{integer_of}
use Rattle.lrp_model.specs.Queries.{Language}
use Rattle.lrp_model.specs.Queries.Language.{first_order, temporal, wide}
use Rattle.lrp_model.specs.RawQueries.{Operator, operator_at, RawForm, RawQuestion, RawDefinitionView, RawFileView, raw_form_of, raw_exists, raw_forall, raw_ranged, raw_paired}
use Rattle.lrp_model.specs.declared.raw.Ranged.{Ranged}
use Rattle.lrp_model.specs.declared.raw.Ranged.TheVariants.{Once, Always}
use Rattle.lrp_model.specs.declared.raw.Paired.{Paired}
use Rattle.lrp_model.specs.declared.raw.Paired.TheVariants.{Since, Until}
use Rattle.lrp_model.specs.declared.tokens.Fault.{Fault as TokenFault}
use Rattle.lrp_model.specs.declared.tokens.Place.{Place}
use Rattle.lrp_model.specs.declared.faults.QueryRead.{QueryRead}
use Rattle.lrp_model.specs.declared.faults.QueryRead.TheVariants.{Fault, Memory}
use Rattle.lrp_model.specs.declared.faults.QueryKind.TheVariants.{Utf8}
use Rattle.lrp_model.specs.Tokens.{Tokens}
use Rattle.lrp_model.specs.Lexing.{tokens_in}
use Rattle.lrp_model.specs.DatabaseReading.{IsNoUtf8}
use Rattle.lrp_text.specs.Parsers.{Parser, Reads, ◌>>=◌, ◌>>◌, pure}
use Rattle.lrp_text.specs.Taking.{expect_word}
use Rattle.lrp_model.specs.declared.tokens.Word.TheVariants.{Exists, Forall}
use Rattle.lrp_text.specs.Sources.{Stands}
use Rattle.lrp_text.specs.declared.lexemes.Lexeme.{Lexeme}
use Rattle.lrp_query.specs.Reading.{refusal_of}
use Rattle.lrp_query.specs.declared.formulas.Joined.{Joined as JoinedFormula}
use Rattle.lrp_query.specs.declared.binders.PlacedName.{PlacedName}
use Rattle.lrp_query.specs.declared.trees.Quantifier.{Quantifier}
use Rattle.lrp_query.specs.declared.trees.Quantifier.TheVariants.{Existential, Universal}
use Rattle.lrp_query.specs.declared.words.Leading.{Leading}
use Rattle.lrp_query.specs.declared.words.Leading.TheVariants.{OfRange, OfPair}
use Rattle.lrp_query.specs.declared.words.Opening.{Opening}
use Rattle.lrp_query.specs.Rules.{FormulaTrees, Trees, AfterName, raw_terms, raw_formulas, cut_at, existing, holding, enclosed, enclosed_whole, quantified, formula_with, query_over, query_with, WideAfterName, Joined, Definition, whole, member_of, wide_formula_with, file_with}
use Rattle.lrp_query.specs.OperatorRules.{OperatorTrees, with_operators, with_wide_operators}

-- formulas over raw terms, operators with these first words, and queries
pub record Making (R P F Q : Type 0) : Type 0 where
  pub formulas : FormulaTrees RawTerm F
  pub word_of : Identifier → Option (Leading R P)
  pub ranged : R → Opening → ℤ → ℤ → F → F
  pub paired : P → Opening → F → F → F
  pub question : List RawColumn → F → Q

module _ {R P F Q : Type 0} (make : Making R P F Q) where
  -- a hole, which no bytes spell, is an `or` of nothing
  abbrev pub trees_made : Trees RawTermKind RawTerm F Q
  trees_made = record { terms = raw_terms; formulas = make.formulas; cut = λ t. cut_at (make.formulas.disjunction t.place []) t.token; question = make.question }

  -- the ends of an interval are whole numbers
  abbrev pub operators_made : OperatorTrees R P ℤ F
  operators_made = record { word_of = make.word_of; number_of = integer_of; ranged = make.ranged; paired = make.paired }

  -- what stands after a name that begins a formula
  abbrev pub after_made : AfterName F
  after_made = with_operators trees_made operators_made

  -- a formula of at most this depth; the second number bounds the turns of each list
  abbrev pub formula_made : ℕ → ℕ → Parser F
  formula_made = formula_with trees_made after_made

  -- a query, and then the end
  abbrev pub query_made : ℕ → Parser Q
  query_made = query_with trees_made after_made

-- ---- the languages

-- the operator that a name begins, if it is the first word of one
abbrev pub word_of : Identifier → Option (Leading Ranged Paired)
word_of n = cond (bytes_eq n (codes "once")) (Some (OfRange Once)) (cond (bytes_eq n (codes "always")) (Some (OfRange Always)) (cond (bytes_eq n (codes "since")) (Some (OfPair Since)) (cond (bytes_eq n (codes "until")) (Some (OfPair Until)) None)))

-- the same in a language
abbrev pub word_in : Language → Identifier → Option (Leading Ranged Paired)
word_in first_order n = None
word_in temporal n = word_of n
word_in wide n = word_of n

-- an operator that begins so
abbrev pub opened_operator : Opening → Operator
opened_operator o = operator_at o.place o.name o.name_place

-- the raw query that a tree of the language means
abbrev pub raw_making : Language → Making Ranged Paired RawForm RawQuestion
raw_making l = record {
  formulas = raw_formulas;
  word_of = word_in l;
  ranged = λ word o. raw_ranged word (opened_operator o);
  paired = λ word o. raw_paired word (opened_operator o);
  question = λ cs f. record { head = cs; body = f };
}

-- how it is put together, which is the same in each
abbrev pub meant : Trees RawTermKind RawTerm RawForm RawQuestion
meant = trees_made (raw_making first_order)

abbrev pub operators_in : Language → OperatorTrees Ranged Paired ℤ RawForm
operators_in l = operators_made (raw_making l)

abbrev pub after_in : Language → AfterName RawForm
after_in l = after_made (raw_making l)

-- ---- the wide language, whose formulas go on after one that stands alone

abbrev pub wide_after : WideAfterName RawForm
wide_after = with_wide_operators meant (operators_in wide)

-- one that stands alone, of at most this depth
abbrev pub wide_formula : ℕ → ℕ → Parser RawForm
wide_formula depth turns = wide_formula_with meant wide_after depth turns

-- the same in each language
abbrev pub formula_in : Language → ℕ → ℕ → Parser RawForm
formula_in first_order = formula_made (raw_making first_order)
formula_in temporal = formula_made (raw_making temporal)
formula_in wide = wide_formula

-- the same of each depth
abbrev pub formulas_in : Language → ℕ → ℕ → Parser RawForm
formulas_in l turns = λ depth. formula_in l depth turns

-- one or more of these as the wide language puts them together without parentheses, and whether it does
abbrev pub whole_in : Language → ℕ → ℕ → Parser (Joined RawForm)
whole_in l depth turns = whole meant (formulas_in l turns) depth turns

-- any formula of the wide language, and whether it has no parentheses of its own
abbrev pub wide_joined : ℕ → ℕ → Parser (Joined RawForm)
wide_joined = whole_in wide

-- any formula of a language: in the others each stands alone
abbrev pub part_in : Language → ℕ → ℕ → Parser RawForm
part_in first_order depth turns = formula_in first_order depth turns
part_in temporal depth turns = formula_in temporal depth turns
part_in wide depth turns = member_of (wide_joined depth turns)

-- what stands after a name that begins a formula, a quantifier, and formulas in parentheses, whose parts are at most so deep
abbrev pub after_at : Language → ℕ → ℕ → Identifier → Place → Parser RawForm
after_at first_order depth turns = after_in first_order (formula_in first_order depth turns) turns
after_at temporal depth turns = after_in temporal (formula_in temporal depth turns) turns
after_at wide depth turns = wide_after (wide_formula depth turns) (member_of (wide_joined depth turns)) turns

abbrev pub existing_at : Language → ℕ → ℕ → Place → Parser RawForm
existing_at first_order depth turns p = existing meant (formula_in first_order depth turns) p
existing_at temporal depth turns p = existing meant (formula_in temporal depth turns) p
existing_at wide depth turns p = expect_word Exists >> quantified raw_exists (formulas_in wide turns) depth turns p

abbrev pub holding_at : Language → ℕ → ℕ → Place → Parser RawForm
holding_at first_order depth turns p = holding meant (formula_in first_order depth turns) p
holding_at temporal depth turns p = holding meant (formula_in temporal depth turns) p
holding_at wide depth turns p = expect_word Forall >> quantified raw_forall (formulas_in wide turns) depth turns p

abbrev pub enclosed_at : Language → ℕ → ℕ → Place → Parser RawForm
enclosed_at first_order depth turns p = enclosed meant (formula_in first_order depth turns) turns p
enclosed_at temporal depth turns p = enclosed meant (formula_in temporal depth turns) turns p
enclosed_at wide depth turns p = enclosed_whole meant (formulas_in wide turns) depth turns p

-- a query of each language, and then the end
abbrev pub query_in : Language → ℕ → Parser RawQuestion
query_in l turns = query_over meant (part_in l 64 turns) turns

-- what the program's formulas without parentheses of their own say
abbrev pub joined_of : JoinedFormula → Joined RawForm
joined_of j = record { formula = raw_form_of j.formula; bare = j.bare }

-- the names of a quantifier
abbrev pub name_and_place : PlacedName → Identifier × Place
name_and_place n = (n.name, n.place)

abbrev pub names_and_places : Vec PlacedName Global → List (Identifier × Place)
names_and_places ns = map name_and_place ns.items

-- what a quantifier binds
abbrev pub quantified_by : Quantifier → Place → RawColumn → RawForm → RawForm
quantified_by Existential = raw_exists
quantified_by Universal = raw_forall

-- what a definition of the program says
abbrev pub read_definition_of : RawDefinition → Definition RawForm
read_definition_of d = record { name = d.name; place = d.place; columns = d.columns; body = raw_form_of d.body }

abbrev pub raw_definition_read : Definition RawForm → RawDefinitionView
raw_definition_read d = record { name = d.name; place = d.place; columns = d.columns; body = d.body }

-- a file, and then the end
abbrev pub file_in : ℕ → Parser RawFileView
file_in turns = do
  read ← file_with meant wide_after turns
  pure (record { definitions = map raw_definition_read read.0; query = read.1 })

-- ---- bytes

module _ {Q : Type 0} (signs : Bool) (parser : ℕ → Parser Q) (bytes : List ℕ) where
  -- the bytes are UTF-8, and of their tokens this is read
  pub record IsTextRead (q : Q) : Type 0 where
    pub utf8 : IsUtf8 bytes
    pub reads : (turns : ℕ) → length (tokens_in signs bytes) < turns → parser turns (tokens_in signs bytes) ≡ Ok (q, [])

  -- the bytes are UTF-8, and of their tokens the one at this place is refused
  pub record IsTextStopped (k : TokenFault) (place : Place) : Type 0 where
    pub utf8 : IsUtf8 bytes
    pub left : Tokens
    pub lexeme : Lexeme
    pub slice : List ℕ
    pub stands : Stands left lexeme slice place
    pub stops : (turns : ℕ) → length (tokens_in signs bytes) < turns → Reads (parser turns (tokens_in signs bytes)) (Err k) left

  -- why nothing is read: bytes that are no UTF-8, a token that is refused, or want of memory
  abbrev pub IsTextUnread : QueryRead → Type 0
  IsTextUnread (Fault f) = ((f.kind ≡ Utf8) × IsNoUtf8 bytes f.place) ⊎ ((k : TokenFault) × (refusal_of k f.place ≡ Fault f) × IsTextStopped k f.place)
  IsTextUnread Memory = Unit {0}
