-- Each kind of test.
use Rattle.std.proofs.Common.{sym, subst}
use Rattle.std.specs.Prelude.{MatchOption}
use Rattle.std.proofs.lemmas.List.Elements.{Contains-append_left, Contains-append_right}
use Rattle.lrp_tables.specs.Columns.{names_of_time, names_of_data, times_of_test, texts_of_test}
use Rattle.lrp_tables.specs.Tables.{AreNamesAmong}
use Rattle.lrp_steps.specs.Conditions.{IsWithTest, HasNoTest}
use Rattle.lrp_steps.proofs.Conditioned.{ok_map}
use Rattle.lrp_steps.proofs.tested.with_test.Goals as goal

pub with_comparison-requires-clause-left : goal.with_comparison-requires-clause-left
with_comparison-requires-clause-left c = λ name h. subst (λ t. AreNamesAmong (times_of_test t) c.args.vars.now.times) c.in-Compare.is c.requires.times name (Contains-append_left (names_of_time c.in-Compare.left) (names_of_time c.in-Compare.right) name h)

pub with_comparison-requires-clause-right : goal.with_comparison-requires-clause-right
with_comparison-requires-clause-right c = λ name h. subst (λ t. AreNamesAmong (times_of_test t) c.args.vars.now.times) c.in-Compare.is c.requires.times name (Contains-append_right (names_of_time c.in-Compare.left) (names_of_time c.in-Compare.right) name h)

pub with_equal-requires-clause-left : goal.with_equal-requires-clause-left
with_equal-requires-clause-left c = λ name h. subst (λ t. AreNamesAmong (texts_of_test t) c.args.vars.now.texts) c.in-Equal.is c.requires.texts name (Contains-append_left (names_of_data c.in-Equal.left) (names_of_data c.in-Equal.right) name h)

pub with_equal-requires-clause-right : goal.with_equal-requires-clause-right
with_equal-requires-clause-right c = λ name h. subst (λ t. AreNamesAmong (texts_of_test t) c.args.vars.now.texts) c.in-Equal.is c.requires.texts name (Contains-append_right (names_of_data c.in-Equal.left) (names_of_data c.in-Equal.right) name h)

pub returns-in-Compare : goal.returns-in-Compare
returns-in-Compare c = ok_map c.with_comparison.result _ _ (λ found h. subst (λ t. MatchOption found (HasNoTest c.args.domain.now c.args.vars.now.times c.args.vars.now.texts t c.args.pattern) (IsWithTest c.args.domain.now c.args.vars.now.times c.args.vars.now.texts t c.args.pattern)) (sym c.in-Compare.is) (h c.args.domain.now c.args.vars.now.texts)) c.with_comparison.ensures

pub returns-in-Member : goal.returns-in-Member
returns-in-Member c = ok_map c.with_member.result _ _ (λ found h. subst (λ t. MatchOption found (HasNoTest c.args.domain.now c.args.vars.now.times c.args.vars.now.texts t c.args.pattern) (IsWithTest c.args.domain.now c.args.vars.now.times c.args.vars.now.texts t c.args.pattern)) (sym c.in-Member.is) (h c.args.domain.now c.args.vars.now.texts)) c.with_member.ensures

pub returns-in-Equal : goal.returns-in-Equal
returns-in-Equal c = ok_map c.with_equal.result _ _ (λ found h. subst (λ t. MatchOption found (HasNoTest c.args.domain.now c.args.vars.now.times c.args.vars.now.texts t c.args.pattern) (IsWithTest c.args.domain.now c.args.vars.now.times c.args.vars.now.texts t c.args.pattern)) (sym c.in-Equal.is) (h c.args.vars.now.times)) c.with_equal.ensures
