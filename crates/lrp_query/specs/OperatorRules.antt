-- Operators over formulas that a name begins where another name follows: how they are read, in each grammar that has some.
use Rattle.std.specs.Prelude.{false, true, Option, Some, None, if◌then◌else◌}
use Rattle.lrp_model.specs.Texts.{Identifier}
use Rattle.lrp_model.specs.declared.tokens.Symbol.{Symbol}
use Rattle.lrp_model.specs.declared.tokens.Symbol.TheVariants.{Open, Close, Comma}
use Rattle.lrp_model.specs.declared.tokens.Place.{Place}
use Rattle.lrp_model.specs.declared.tokens.Fault.TheVariants.{Syntax}
use Rattle.lrp_model.specs.declared.written.Integer.{Integer}
use Rattle.lrp_text.specs.Parsers.{Parser, ◌>>=◌, ◌>>◌, pure, fail, look}
use Rattle.lrp_text.specs.Taking.{is_name, expect, name}
use Rattle.lrp_text.specs.IntegerRule.{integer}
use Rattle.lrp_query.specs.declared.words.Leading.{Leading}
use Rattle.lrp_query.specs.declared.words.Leading.TheVariants.{OfRange, OfPair}
use Rattle.lrp_query.specs.declared.words.Opening.{Opening}
use Rattle.lrp_query.specs.Rules.{Trees, AfterName, after_name}

-- how operators are put together, those with an interval and those over two formulas
pub record OperatorTrees (R P N F : Type 0) : Type 0 where
  pub word_of : Identifier → Option (Leading R P)
  pub number_of : Integer → N
  pub ranged : R → Opening → N → N → F → F
  pub paired : P → Opening → F → F → F

-- where an operator begins, and its variable
abbrev pub opening : Place → Identifier × Place → Opening
opening p v = record { place = p; name = v.0; name_place = v.1 }

-- the ends of an interval, after a parenthesis
unfoldable pub ends : {N : Type 0} → (Integer → N) → Parser (N × N)
ends number_of = do
  from ← integer
  expect Comma
  to ← integer
  expect Close
  pure (number_of from, number_of to)

-- an operator with an interval, after its first word
unfoldable pub ranged : {R P N F : Type 0} → OperatorTrees R P N F → Parser F → R → Place → Parser F
ranged make inner word p = do
  v ← name
  expect Open
  e ← ends make.number_of
  f ← inner
  pure (make.ranged word (opening p v) e.0 e.1 f)

-- an operator over two formulas, after its first word
unfoldable pub paired : {R P N F : Type 0} → OperatorTrees R P N F → Parser F → P → Place → Parser F
paired make inner word p = do
  v ← name
  expect Open
  f ← inner
  expect Comma
  g ← inner
  expect Close
  pure (make.paired word (opening p v) f g)

-- an operator, after its first word; no other name stands before a name
abbrev pub operator : {R P N F : Type 0} → OperatorTrees R P N F → Parser F → Place → Option (Leading R P) → Parser F
operator make inner p (Some (OfRange word)) = ranged make inner word p
operator make inner p (Some (OfPair word)) = paired make inner word p
operator make inner p None = fail Syntax

-- the same where the parts of an operator over two formulas are read by another parser
abbrev pub wide_operator : {R P N F : Type 0} → OperatorTrees R P N F → Parser F → Parser F → Place → Option (Leading R P) → Parser F
wide_operator make inner outer p (Some (OfRange word)) = ranged make inner word p
wide_operator make inner outer p (Some (OfPair word)) = paired make outer word p
wide_operator make inner outer p None = fail Syntax

-- after a name that begins a formula: an operator where another name follows, and else what stands there without operators
unfoldable pub with_operators : {K T F Q R P N : Type 0} → Trees K T F Q → OperatorTrees R P N F → AfterName F
with_operators make operators inner turns n p = do
  again ← look false is_name
  if again then operator operators inner p (operators.word_of n) else after_name false make turns n p

-- the same in the wide language, where `inner` reads what `once` and `always` take, and `outer` what `since` and `until` take
unfoldable pub with_wide_operators : {K T F Q R P N : Type 0} → Trees K T F Q → OperatorTrees R P N F → Parser F → AfterName F
with_wide_operators make operators inner outer turns n p = do
  again ← look false is_name
  if again then wide_operator operators inner outer p (operators.word_of n) else after_name true make turns n p

-- ---- the same part by part, as it is read

-- the variable and a parenthesis
unfoldable pub variable : Parser (Identifier × Place)
variable = do
  v ← name
  expect Open
  pure v

-- a formula and the symbol after it
unfoldable pub closed_by : {F : Type 0} → Parser F → Symbol → Parser F
closed_by inner s = do
  f ← inner
  expect s
  pure f

-- an operator with an interval
unfoldable pub ranged_parts : {R P N F : Type 0} → OperatorTrees R P N F → Parser F → R → Place → Parser F
ranged_parts make inner word p = do
  v ← variable
  e ← ends make.number_of
  f ← inner
  pure (make.ranged word (opening p v) e.0 e.1 f)

-- an operator over two formulas
unfoldable pub paired_parts : {R P N F : Type 0} → OperatorTrees R P N F → Parser F → P → Place → Parser F
paired_parts make inner word p = do
  v ← variable
  f ← closed_by inner Comma
  g ← closed_by inner Close
  pure (make.paired word (opening p v) f g)
