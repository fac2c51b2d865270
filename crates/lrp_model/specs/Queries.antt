-- The grammar of queries: written trees, what spells them, and which are lawful.
-- After 64 `not` only a formula of depth 65 can stand, so these 64 words begin no query that is shallow enough, and yet the fault belongs to the token after them. So a lawful tree may be cut off at depth 65 by a hole, which no bytes spell: then the 64 words begin a lawful text, and the token after them is the first with which it does not go on.
use Rattle.std.specs.Prelude.{◌≤◌, ℕ, zero, suc, ◌-◌, Bool, true, false, IsTrue, List, [], ◌∷◌, ◌++◌, length, flat_map, codes}
use Rattle.std.specs.List.{AllByRecursion}
use Rattle.lrp_model.specs.Texts.{Text, Identifier}
use Rattle.lrp_model.specs.declared.tokens.Symbol.{Symbol}
use Rattle.lrp_model.specs.declared.tokens.Symbol.TheVariants.{Open, Close, OpenBrace, CloseBrace, Comma, Semicolon, Bar, Plus, Le as le_sign, Ge as ge_sign, Lt as lt_sign, Gt as gt_sign, Equals, Star, Differs}
use Rattle.lrp_model.specs.declared.tokens.Word.{Word}
use Rattle.lrp_model.specs.declared.tokens.Word.TheVariants.{Letter, Exists, Forall, Not, And, Or, Implies, In}
use Rattle.lrp_model.specs.declared.tokens.Place.{Place}
use Rattle.lrp_model.specs.declared.written.Located.{Located}
use Rattle.lrp_model.specs.declared.written.Integer.{Integer}
use Rattle.lrp_model.specs.declared.raw.RawColumn.{RawColumn}
use Rattle.lrp_model.specs.declared.raw.Ranged.{Ranged}
use Rattle.lrp_model.specs.declared.raw.Ranged.TheVariants.{Once, Always}
use Rattle.lrp_model.specs.declared.raw.Paired.{Paired}
use Rattle.lrp_model.specs.declared.raw.Paired.TheVariants.{Since, Until}
use Rattle.lrp_model.specs.RawQueries.{Operator}
use Rattle.lrp_model.specs.declared.formulas.Op.{Op}
use Rattle.lrp_model.specs.declared.formulas.Op.TheVariants.{Le, Lt, Ge, Gt, Eq}
use Rattle.lrp_model.specs.Tokens.{Part, located_text, separated}
use Rattle.lrp_model.specs.Tokens.Token.{name_token, word_token, number_token, text_token, symbol_token, end_token, hole_token}
use Rattle.lrp_model.specs.Tokens.Part.{at, any}
use Rattle.lrp_model.specs.Limits.{greatest_number}
use Rattle.lrp_model.specs.Columns.{column_text}
use Rattle.lrp_model.specs.Databases.{integer_text, shift, comma}

-- ---- languages

-- what a language takes: formulas of first-order logic alone, temporal operators beside them, or these with definitions and with formulas as people write them
pub data Language : Type 0 where
  first_order : Language
  temporal : Language
  wide : Language

abbrev pub TakesOperators : Language → Type 0
TakesOperators first_order = ⊥
TakesOperators temporal = Unit {0}
TakesOperators wide = Unit {0}

abbrev pub is_wide : Language → Bool
is_wide first_order = false
is_wide temporal = false
is_wide wide = true

abbrev pub TakesWide : Language → Type 0
TakesWide l = IsTrue (is_wide l)

-- ---- written trees

-- an integer, a text, a name, or a name with an offset upwards or downwards
pub data WrittenTerm : Type 0 where
  integer : Integer → WrittenTerm
  text_term : Text → WrittenTerm
  variable : Identifier → WrittenTerm
  shifted : Identifier → Bool → ℕ → WrittenTerm

-- what an atom has for a column: a term, or in the wide language any value
pub data WrittenArgument (l : Language) : Type 0 where
  argument : WrittenTerm → WrittenArgument l
  star : TakesWide l → WrittenArgument l

-- which quantifier
pub data Quantifier : Type 0 where
  existential : Quantifier
  universal : Quantifier

-- the names of one quantifier before the last one, of which there is one at least
pub record EarlierNames : Type 0 where
  pub first : Located Identifier
  pub others : List (Located Identifier)

-- a formula of a language with the place of its first token, where no term has it; the members of an `and` or `or` are two at least. Formulas without parentheses have no place of their own
mutual
  pub data WrittenFormula (l : Language) : Type 0 where
    atom_formula : Place → Identifier → List (Located (WrittenArgument l)) → WrittenFormula l
    compared : Located WrittenTerm → Op → Located WrittenTerm → WrittenFormula l
    member : Located WrittenTerm → Integer → ℕ → WrittenFormula l
    denied : Place → WrittenFormula l → WrittenFormula l
    all_of : Place → WrittenFormula l → FurtherMembers l → WrittenFormula l
    any_of : Place → WrittenFormula l → FurtherMembers l → WrittenFormula l
    implied : Place → WrittenFormula l → WrittenFormula l → WrittenFormula l
    group : Place → WrittenFormula l → WrittenFormula l
    some : Place → RawColumn → WrittenFormula l → WrittenFormula l
    every : Place → RawColumn → WrittenFormula l → WrittenFormula l
    ranged : TakesOperators l → Ranged → Operator → Integer → Integer → WrittenFormula l → WrittenFormula l
    paired : TakesOperators l → Paired → Operator → WrittenFormula l → WrittenFormula l → WrittenFormula l
    -- a `!=`, and a quantifier of several names
    differing : TakesWide l → Located WrittenTerm → Located WrittenTerm → WrittenFormula l
    several : TakesWide l → Quantifier → Place → EarlierNames → RawColumn → WrittenFormula l → WrittenFormula l
    -- `and`, `or` and `implies` without parentheses, and in parentheses an `implies` after another
    bare_all : TakesWide l → WrittenFormula l → FurtherMembers l → WrittenFormula l
    bare_any : TakesWide l → WrittenFormula l → FurtherMembers l → WrittenFormula l
    bare_chain : TakesWide l → WrittenFormula l → FurtherMembers l → WrittenFormula l
    chain : TakesWide l → Place → WrittenFormula l → WrittenFormula l → FurtherMembers l → WrittenFormula l
    -- stands for a formula that would be too deep; no bytes spell one
    hole : Place → WrittenFormula l

  pub data FurtherMembers (l : Language) : Type 0 where
    last : WrittenFormula l → FurtherMembers l
    more : WrittenFormula l → FurtherMembers l → FurtherMembers l

-- ---- precedence

-- how loosely a formula binds: 0 where it stands alone, 1 an `and`, 2 an `or` and 3 an `implies` without parentheses
abbrev pub looseness : {l : Language} → WrittenFormula l → ℕ
looseness (bare_all t f fs) = 1
looseness (bare_any t f fs) = 2
looseness (bare_chain t f fs) = 3
looseness _ = 0

-- each part binds as tightly as its place asks: alone after `not`, a quantifier, `once` and `always` and between `and`, below `or` between `or`, and below `implies` between `implies`
abbrev mutual
  pub IsOrdered : {l : Language} → WrittenFormula l → Type 0
  IsOrdered (atom_formula p n ts) = Unit {0}
  IsOrdered (compared l op r) = Unit {0}
  IsOrdered (member t i k) = Unit {0}
  IsOrdered (denied p f) = (looseness f ≤ 0) × IsOrdered f
  IsOrdered (all_of p f fs) = (looseness f ≤ 0) × IsOrdered f × AreOrdered fs 0
  IsOrdered (any_of p f fs) = (looseness f ≤ 1) × IsOrdered f × AreOrdered fs 1
  IsOrdered (implied p f g) = (looseness f ≤ 2) × IsOrdered f × (looseness g ≤ 2) × IsOrdered g
  IsOrdered (group p f) = (looseness f ≤ 0) × IsOrdered f
  IsOrdered (some p c f) = (looseness f ≤ 0) × IsOrdered f
  IsOrdered (every p c f) = (looseness f ≤ 0) × IsOrdered f
  IsOrdered (ranged t word o from to f) = (looseness f ≤ 0) × IsOrdered f
  IsOrdered (paired t word o f g) = IsOrdered f × IsOrdered g
  IsOrdered (differing t l r) = Unit {0}
  IsOrdered (several t q p ns c f) = (looseness f ≤ 0) × IsOrdered f
  IsOrdered (bare_all t f fs) = (looseness f ≤ 0) × IsOrdered f × AreOrdered fs 0
  IsOrdered (bare_any t f fs) = (looseness f ≤ 1) × IsOrdered f × AreOrdered fs 1
  IsOrdered (bare_chain t f fs) = (looseness f ≤ 2) × IsOrdered f × AreOrdered fs 2
  IsOrdered (chain t p f g fs) = (looseness f ≤ 2) × IsOrdered f × (looseness g ≤ 2) × IsOrdered g × AreOrdered fs 2
  IsOrdered (hole p) = Unit {0}

  pub AreOrdered : {l : Language} → FurtherMembers l → ℕ → Type 0
  AreOrdered (last f) most = (looseness f ≤ most) × IsOrdered f
  AreOrdered (more f fs) most = (looseness f ≤ most) × IsOrdered f × AreOrdered fs most

-- a formula of the grammar; in the other languages each formula stands alone
abbrev pub IsFormula : (l : Language) → WrittenFormula l → Type 0
IsFormula first_order f = Unit {0}
IsFormula temporal f = Unit {0}
IsFormula wide f = IsOrdered f

pub record WrittenQuery (l : Language) : Type 0 where
  pub head : List RawColumn
  pub body : WrittenFormula l
  pub formula : IsFormula l body

-- a definition: a name for a formula over its columns
pub record WrittenDefinition (l : Language) : Type 0 where
  pub name : Located Identifier
  pub columns : List RawColumn
  pub body : WrittenFormula l
  pub formula : IsFormula l body

-- the definitions before a query, and the query
pub record WrittenFile (l : Language) : Type 0 where
  pub definitions : List (WrittenDefinition l)
  pub query : WrittenQuery l

-- ---- what spells a tree

-- term = integer | text | name [ ( "+" | "-" ) number ]
abbrev pub term_text : WrittenTerm → List Part
term_text (integer i) = integer_text i
term_text (text_term t) = any (text_token t) ∷ []
term_text (variable n) = any (name_token n) ∷ []
term_text (shifted n down k) = any (name_token n) ∷ any (symbol_token (shift down)) ∷ any (number_token k) ∷ []

-- value = term | "*"
abbrev pub argument_text : {l : Language} → WrittenArgument l → List Part
argument_text (argument t) = term_text t
argument_text (star t) = any (symbol_token Star) ∷ []

-- "<=" | ">=" | "<" | ">" | "="
abbrev pub op_symbol : Op → Symbol
op_symbol Le = le_sign
op_symbol Ge = ge_sign
op_symbol Lt = lt_sign
op_symbol Gt = gt_sign
op_symbol Eq = Equals

-- the first words of operators, which are no reserved words: no other formula begins with two names, so where a second name follows they begin an operator
abbrev pub ranged_word : Ranged → Identifier
ranged_word Once = codes "once"
ranged_word Always = codes "always"

abbrev pub paired_word : Paired → Identifier
paired_word Since = codes "since"
paired_word Until = codes "until"

-- the first word of an operator, and its variable
abbrev pub operator_text : Identifier → Operator → List Part
operator_text word o = at o.place (name_token word) ∷ at o.name_place (name_token o.name) ∷ any (symbol_token Open) ∷ []

-- integer "," integer ")"
abbrev pub interval_text : Integer → Integer → List Part
interval_text from to = integer_text from ++ any (symbol_token Comma) ∷ (integer_text to ++ any (symbol_token Close) ∷ [])

abbrev pub quantifier_word : Quantifier → Word
quantifier_word existential = Exists
quantifier_word universal = Forall

-- { name "," }
abbrev pub names_text : List (Located Identifier) → List Part
names_text [] = []
names_text (n ∷ ns) = at n.place (name_token n.item) ∷ comma ∷ names_text ns

abbrev mutual
  pub formula_text : {l : Language} → WrittenFormula l → List Part
  -- name "(" [ value { "," value } ] ")"
  formula_text (atom_formula p n ts) = at p (name_token n) ∷ any (symbol_token Open) ∷ (separated comma (located_text argument_text) ts ++ any (symbol_token Close) ∷ [])
  -- term ( "<=" | ">=" | "<" | ">" | "=" ) term
  formula_text (compared l op r) = located_text term_text l ++ any (symbol_token (op_symbol op)) ∷ located_text term_text r
  -- term "in" integer "+" number "n"
  formula_text (member t i k) = located_text term_text t ++ any (word_token In) ∷ (integer_text i ++ any (symbol_token Plus) ∷ any (number_token k) ∷ any (word_token Letter) ∷ [])
  -- "not" formula
  formula_text (denied p f) = at p (word_token Not) ∷ formula_text f
  -- "(" formula ( "implies" formula | { "and" formula } | { "or" formula } ) ")"
  formula_text (all_of p f fs) = at p (symbol_token Open) ∷ (formula_text f ++ (members_text And fs ++ any (symbol_token Close) ∷ []))
  formula_text (any_of p f fs) = at p (symbol_token Open) ∷ (formula_text f ++ (members_text Or fs ++ any (symbol_token Close) ∷ []))
  formula_text (implied p f g) = at p (symbol_token Open) ∷ (formula_text f ++ any (word_token Implies) ∷ (formula_text g ++ any (symbol_token Close) ∷ []))
  formula_text (group p f) = at p (symbol_token Open) ∷ (formula_text f ++ any (symbol_token Close) ∷ [])
  -- ( "exists" | "forall" ) name ":" sort formula
  formula_text (some p c f) = at p (word_token Exists) ∷ (column_text c ++ formula_text f)
  formula_text (every p c f) = at p (word_token Forall) ∷ (column_text c ++ formula_text f)
  -- ( "once" | "always" ) name "(" integer "," integer ")" formula
  formula_text (ranged t word o from to f) = operator_text (ranged_word word) o ++ (interval_text from to ++ formula_text f)
  -- ( "since" | "until" ) name "(" formula "," formula ")"
  formula_text (paired t word o f g) = operator_text (paired_word word) o ++ (formula_text f ++ any (symbol_token Comma) ∷ (formula_text g ++ any (symbol_token Close) ∷ []))
  -- term "!=" term
  formula_text (differing t l r) = located_text term_text l ++ any (symbol_token Differs) ∷ located_text term_text r
  -- ( "exists" | "forall" ) name { "," name } ":" sort one
  formula_text (several t q p ns c f) = at p (word_token (quantifier_word q)) ∷ (names_text (ns.first ∷ ns.others) ++ (column_text c ++ formula_text f))
  -- one { "and" one }, both { "or" both }, and either [ "implies" formula ]
  formula_text (bare_all t f fs) = formula_text f ++ members_text And fs
  formula_text (bare_any t f fs) = formula_text f ++ members_text Or fs
  formula_text (bare_chain t f fs) = formula_text f ++ members_text Implies fs
  formula_text (chain t p f g fs) = at p (symbol_token Open) ∷ (formula_text f ++ any (word_token Implies) ∷ (formula_text g ++ (members_text Implies fs ++ any (symbol_token Close) ∷ [])))
  formula_text (hole p) = at p hole_token ∷ []

  pub members_text : {l : Language} → Word → FurtherMembers l → List Part
  members_text w (last f) = any (word_token w) ∷ formula_text f
  members_text w (more f fs) = any (word_token w) ∷ (formula_text f ++ members_text w fs)

-- the first words of definitions, which are no reserved words
abbrev pub define_word : Identifier
define_word = codes "define"

abbrev pub as_word : Identifier
as_word = codes "as"

-- define = "define" name "(" [ column { "," column } ] ")" "as" formula ";"
abbrev pub definition_text : {l : Language} → WrittenDefinition l → List Part
definition_text d = any (name_token define_word) ∷ at d.name.place (name_token d.name.item) ∷ any (symbol_token Open) ∷ (separated comma column_text d.columns ++ any (symbol_token Close) ∷ any (name_token as_word) ∷ (formula_text d.body ++ any (symbol_token Semicolon) ∷ []))

-- query = "{" [ column { "," column } ] "|" formula "}", and after it the end
abbrev pub query_text : {l : Language} → WrittenQuery l → List Part
query_text q = any (symbol_token OpenBrace) ∷ (separated comma column_text q.head ++ any (symbol_token Bar) ∷ (formula_text q.body ++ any (symbol_token CloseBrace) ∷ any end_token ∷ []))

-- file = { define } query
abbrev pub file_text : {l : Language} → WrittenFile l → List Part
file_text f = flat_map definition_text f.definitions ++ query_text f.query

-- ---- what makes a tree lawful beyond the grammar

-- with a depth left, what stands inside has one less
abbrev pub Deeper : ℕ → (ℕ → Type 0) → Type 0
Deeper zero inner = ⊥
Deeper (suc n) inner = inner n

abbrev pub IsZero : ℕ → Type 0
IsZero zero = Unit {0}
IsZero (suc n) = ⊥

-- at most this deep, the formula itself counted; holes stand just below
abbrev mutual
  pub FitsDepth : {l : Language} → WrittenFormula l → ℕ → Type 0
  FitsDepth (atom_formula p n ts) d = Deeper d (λ m. Unit {0})
  FitsDepth (compared l op r) d = Deeper d (λ m. Unit {0})
  FitsDepth (member t i k) d = Deeper d (λ m. Unit {0})
  FitsDepth (denied p f) d = Deeper d (FitsDepth f)
  FitsDepth (all_of p f fs) d = Deeper d (λ m. FitsDepth f m × FitDepth fs m)
  FitsDepth (any_of p f fs) d = Deeper d (λ m. FitsDepth f m × FitDepth fs m)
  FitsDepth (implied p f g) d = Deeper d (λ m. FitsDepth f m × FitsDepth g m)
  FitsDepth (group p f) d = Deeper d (FitsDepth f)
  FitsDepth (some p c f) d = Deeper d (FitsDepth f)
  FitsDepth (every p c f) d = Deeper d (FitsDepth f)
  FitsDepth (ranged t word o from to f) d = Deeper d (FitsDepth f)
  FitsDepth (paired t word o f g) d = Deeper d (λ m. FitsDepth f m × FitsDepth g m)
  FitsDepth (differing t l r) d = Deeper d (λ m. Unit {0})
  FitsDepth (several t q p ns c f) d = Deeper d (λ m. FitsDepth f (m - length (ns.first ∷ ns.others)))
  FitsDepth (bare_all t f fs) d = FitsDepth f d × FitDepth fs d
  FitsDepth (bare_any t f fs) d = FitsDepth f d × FitDepth fs d
  FitsDepth (bare_chain t f fs) d = FitsDepth f d × FitsChain fs d
  FitsDepth (chain t p f g fs) d = Deeper d (λ m. FitsDepth f m × FitsDepth g m × Deeper m (FitsChain fs))
  FitsDepth (hole p) d = IsZero d

  -- after the first `implies` of a chain; after each further one the depth is one more
  pub FitsChain : {l : Language} → FurtherMembers l → ℕ → Type 0
  FitsChain (last f) d = FitsDepth f d
  FitsChain (more f fs) d = FitsDepth f d × Deeper d (FitsChain fs)

  pub FitDepth : {l : Language} → FurtherMembers l → ℕ → Type 0
  FitDepth (last f) d = FitsDepth f d
  FitDepth (more f fs) d = FitsDepth f d × FitDepth fs d

abbrev pub FitsTerm : WrittenTerm → Type 0
FitsTerm (integer i) = i.size ≤ greatest_number
FitsTerm (text_term t) = length t ≤ 255
FitsTerm (variable n) = Unit {0}
FitsTerm (shifted n down k) = k ≤ greatest_number

abbrev pub FitsArgument : {l : Language} → WrittenArgument l → Type 0
FitsArgument (argument t) = FitsTerm t
FitsArgument (star t) = Unit {0}

-- the sizes of numbers and texts, and periods that are not 0
abbrev mutual
  pub FitsSizes : {l : Language} → WrittenFormula l → Type 0
  FitsSizes (atom_formula p n ts) = AllByRecursion (λ t. FitsArgument t.item) ts
  FitsSizes (compared l op r) = FitsTerm l.item × FitsTerm r.item
  FitsSizes (member t i k) = FitsTerm t.item × (i.size ≤ greatest_number) × (1 ≤ k) × (k ≤ greatest_number)
  FitsSizes (denied p f) = FitsSizes f
  FitsSizes (all_of p f fs) = FitsSizes f × FitSizes fs
  FitsSizes (any_of p f fs) = FitsSizes f × FitSizes fs
  FitsSizes (implied p f g) = FitsSizes f × FitsSizes g
  FitsSizes (group p f) = FitsSizes f
  FitsSizes (some p c f) = FitsSizes f
  FitsSizes (every p c f) = FitsSizes f
  FitsSizes (ranged t word o from to f) = (from.size ≤ greatest_number) × (to.size ≤ greatest_number) × FitsSizes f
  FitsSizes (paired t word o f g) = FitsSizes f × FitsSizes g
  FitsSizes (differing t l r) = FitsTerm l.item × FitsTerm r.item
  FitsSizes (several t q p ns c f) = FitsSizes f
  FitsSizes (bare_all t f fs) = FitsSizes f × FitSizes fs
  FitsSizes (bare_any t f fs) = FitsSizes f × FitSizes fs
  FitsSizes (bare_chain t f fs) = FitsSizes f × FitSizes fs
  FitsSizes (chain t p f g fs) = FitsSizes f × FitsSizes g × FitSizes fs
  FitsSizes (hole p) = Unit {0}

  pub FitSizes : {l : Language} → FurtherMembers l → Type 0
  FitSizes (last f) = FitsSizes f
  FitSizes (more f fs) = FitsSizes f × FitSizes fs

-- lawful: the sizes fit, and no formula is deeper than 64
pub record FitsQuery {l : Language} (q : WrittenQuery l) : Type 0 where
  pub sizes : FitsSizes q.body
  pub depth : FitsDepth q.body 64

-- the same of a definition, and of a file
pub record FitsDefinition {l : Language} (d : WrittenDefinition l) : Type 0 where
  pub sizes : FitsSizes d.body
  pub depth : FitsDepth d.body 64

pub record FitsFile {l : Language} (f : WrittenFile l) : Type 0 where
  pub definitions : AllByRecursion FitsDefinition f.definitions
  pub query : FitsQuery f.query
