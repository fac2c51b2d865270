-- The rules of databases are local.
use Rattle.std.proofs.Common.{ℕ, false, []}
use Rattle.lrp_model.specs.declared.tokens.Symbol.TheVariants.{Open, Close, OpenBrace, CloseBrace, Comma, Semicolon, Plus}
use Rattle.lrp_model.specs.declared.tokens.Word.TheVariants.{Relation, Where, Letter}
use Rattle.lrp_text.specs.Parsers.{accept, look, eat, listed, until_from}
use Rattle.lrp_text.specs.Taking.{is_symbol, is_word, expect, expect_word, period, text, is_text, is_name, located}
use Rattle.lrp_text.proofs.Local.{Local, bind_local, accept_local, pure_local, eat_local, look_local, if_local, separated_local, listed_local, until_local}
use Rattle.lrp_text.proofs.LocatedRule.{located_local}
use Rattle.lrp_text.proofs.ColumnRule.{column_local}
use Rattle.lrp_text.proofs.IntegerRule.{integer_local}
use Rattle.lrp_text.proofs.OffsetRule.{offset_local}
use Rattle.lrp_rel.proofs.Labels.{label_local}
use Rattle.lrp_text.specs.IntegerRule.{integer}
use Rattle.lrp_text.specs.OffsetRule.{offset}
use Rattle.lrp_rel.specs.Rules.{label, numeric, bare_value, value, named_side, side, bound_op_of, bound, bounds, row, relation}

-- an instant or a point depends on its tokens and on the next one alone
pub numeric_local : Local numeric
unfolding numeric
numeric_local =
    bind_local integer _ integer_local (λ i.
    bind_local (eat (is_symbol Plus)) _ (eat_local _) (λ more.
    if_local more _ _
    (bind_local period _ (accept_local _) (λ k. bind_local (expect_word Letter) _ (accept_local _) (λ u. pure_local _)))
    (pure_local _)))

-- a value depends on its tokens and on the next one alone
pub bare_value_local : Local bare_value
unfolding bare_value
bare_value_local =
    bind_local (look false is_text) _ (look_local _ _) (λ quoted.
    if_local quoted _ _ (bind_local text _ (accept_local _) (λ t. pure_local _)) numeric_local)

-- a value with its place depends on its tokens and on the next one alone
pub value_local : Local value
value_local = located_local bare_value bare_value_local

-- a side that names a column depends on its tokens and on the next one alone
pub named_side_local : Local named_side
unfolding named_side
named_side_local = bind_local label _ label_local (λ n. bind_local offset _ offset_local (λ o. pure_local _))

-- a side depends on its tokens and on the next one alone
pub side_local : Local side
unfolding side
side_local =
    bind_local (look false is_name) _ (look_local _ _) (λ named.
    if_local named _ _ named_side_local (bind_local integer _ integer_local (λ i. pure_local _)))

-- a bound depends on its tokens and on the next one alone
pub bound_local : Local bound
unfolding bound
bound_local =
    bind_local label _ label_local (λ n.
    bind_local (accept (λ t. bound_op_of t.token)) _ (accept_local _) (λ op.
    bind_local side _ side_local (λ s. pure_local _)))

-- the bounds of a row depends on its tokens and on the next one alone
pub bounds_local : (n : ℕ) → Local (bounds n)
unfolding bounds
bounds_local n =
    bind_local (eat (is_word Where)) _ (eat_local _) (λ some.
    if_local some _ _ (separated_local bound _ bound_local n []) (pure_local _))

-- a row depends on its tokens and on the next one alone
pub row_local : (n : ℕ) → Local (row n)
unfolding row
row_local n =
    bind_local (expect Open) _ (accept_local _) (λ u.
    bind_local (listed value (is_symbol Comma) (is_symbol Close) n) _ (listed_local value _ _ value_local n) (λ vs.
    bind_local (expect Close) _ (accept_local _) (λ v.
    bind_local (bounds n) _ (bounds_local n) (λ bs.
    bind_local (expect Semicolon) _ (accept_local _) (λ w. pure_local _)))))

-- a relation depends on its tokens and on the next one alone
pub relation_local : (n : ℕ) → Local (relation n)
unfolding relation
relation_local n =
    bind_local (expect_word Relation) _ (accept_local _) (λ u.
    bind_local label _ label_local (λ who.
    bind_local (expect Open) _ (accept_local _) (λ v.
    bind_local (listed _ (is_symbol Comma) (is_symbol Close) n) _ (listed_local _ _ _ column_local n) (λ cs.
    bind_local (expect Close) _ (accept_local _) (λ w.
    bind_local (expect OpenBrace) _ (accept_local _) (λ x.
    bind_local (until_from (located (row n)) (is_symbol CloseBrace) n []) _ (until_local _ _ (located_local (row n) (row_local n)) n []) (λ rows.
    bind_local (expect CloseBrace) _ (accept_local _) (λ y. pure_local _))))))))
