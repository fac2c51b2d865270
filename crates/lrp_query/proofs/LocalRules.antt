-- The rules of queries are local, whatever they make.
use Rattle.std.proofs.Common.{ℕ, zero, suc, false, [], ◌∷◌}
use Rattle.lrp_model.specs.Texts.{Identifier}
use Rattle.lrp_model.specs.declared.tokens.Symbol.TheVariants.{Open, Close, OpenBrace, CloseBrace, Comma, Bar, Plus}
use Rattle.lrp_model.specs.declared.tokens.Word.TheVariants.{Letter, Exists, Forall, Not, And, Or, Implies, In}
use Rattle.lrp_model.specs.declared.tokens.Place.{Place}
use Rattle.lrp_model.specs.declared.tokens.Fault.TheVariants.{Deep}
use Rattle.lrp_text.specs.Parsers.{Parser, accept, look, eat, listed, separated_from}
use Rattle.lrp_text.specs.Taking.{is_symbol, is_word, expect, expect_word, name, period, text, is_text, is_name, expect_end, here}
use Rattle.lrp_text.specs.ColumnRule.{column}
use Rattle.lrp_text.proofs.Local.{Local, bind_local, accept_local, pure_local, fail_local, eat_local, look_local, if_local, separated_local, listed_local}
use Rattle.lrp_text.proofs.ColumnRule.{column_local}
use Rattle.lrp_text.proofs.IntegerRule.{integer_local}
use Rattle.lrp_text.proofs.OffsetRule.{offset_local}
use Rattle.lrp_query.specs.declared.starts.Start.{Start}
use Rattle.lrp_query.specs.declared.starts.Start.TheVariants.{Not as by_not, Exists as by_exists, Forall as by_forall, Open as by_open, Name as by_name, Term as by_term}
use Rattle.lrp_text.specs.IntegerRule.{integer}
use Rattle.lrp_text.specs.OffsetRule.{offset}
use Rattle.lrp_query.specs.Rules.{TermTrees, Trees, AfterName, named_term, unnamed_term, bare_term, term, op_of, point, comparing, tested, atom_terms, after_name, named, unnamed, negated, existing, holding, implying, conjoined, disjoined, after_first, enclosed, start_of, is_hole_token, started, formula_over, formula_with, query_with, query_over}

module _ {K T : Type 0} (make : TermTrees K T) where
  -- a name with or without an offset depends on its tokens and on the next one alone
  pub named_term_local : (n : Identifier) → Local (named_term make n)
  unfolding named_term
  named_term_local n = bind_local offset _ offset_local (λ o. pure_local _)

  -- a text or an integer depends on its tokens and on the next one alone
  pub unnamed_term_local : Local (unnamed_term make)
  unfolding unnamed_term
  unnamed_term_local =
      bind_local (look false is_text) _ (look_local _ _) (λ text_next.
      if_local text_next _ _ (bind_local text _ (accept_local _) (λ t. pure_local _))
      (bind_local integer _ integer_local (λ i. pure_local _)))

  -- a term without its place depends on its tokens and on the next one alone
  pub bare_term_local : Local (bare_term make)
  unfolding bare_term
  bare_term_local =
      bind_local (look false is_name) _ (look_local _ _) (λ name_next.
      if_local name_next _ _ (bind_local name _ (accept_local _) (λ n. named_term_local n.0)) unnamed_term_local)

  -- a term depends on its tokens and on the next one alone
  pub term_local : Local (term make)
  unfolding term
  term_local =
      bind_local here _ (look_local _ _) (λ p.
      bind_local (bare_term make) _ bare_term_local (λ k. pure_local _))

module _ {K T F Q : Type 0} (make : Trees K T F Q) where
  -- a point depends on its tokens and on the next one alone
  pub point_local : (left : T) → Local (point make left)
  unfolding point
  point_local left =
      bind_local integer _ integer_local (λ i.
      bind_local (expect Plus) _ (accept_local _) (λ u.
      bind_local period _ (accept_local _) (λ k.
      bind_local (expect_word Letter) _ (accept_local _) (λ v. pure_local _))))

  -- a comparison depends on its tokens and on the next one alone
  pub comparing_local : (left : T) → Local (comparing make left)
  unfolding comparing
  comparing_local left =
      bind_local (accept (λ t. op_of t.token)) _ (accept_local _) (λ op.
      bind_local (term make.terms) _ (term_local make.terms) (λ right. pure_local _))

  -- what stands after a first term depends on its tokens and on the next one alone
  pub test_local : (left : T) → Local (tested false make left)
  unfolding tested
  test_local left =
      bind_local (eat (is_word In)) _ (eat_local _) (λ inside.
      if_local inside _ _ (point_local left) (comparing_local left))

  -- the terms of an atom depend on their tokens and on the next one alone
  pub atom_terms_local : (turns : ℕ) (n : Identifier) (p : Place) → Local (atom_terms false make turns n p)
  unfolding atom_terms
  atom_terms_local turns n p =
      bind_local (listed (term make.terms) (is_symbol Comma) (is_symbol Close) turns) _ (listed_local (term make.terms) _ _ (term_local make.terms) turns) (λ ts.
      bind_local (expect Close) _ (accept_local _) (λ u. pure_local _))

  -- what stands after a name depends on its tokens and on the next one alone
  pub after_name_local : (turns : ℕ) (n : Identifier) (p : Place) → Local (after_name false make turns n p)
  unfolding after_name
  after_name_local turns n p =
      bind_local (eat (is_symbol Open)) _ (eat_local _) (λ opens.
      if_local opens _ _ (atom_terms_local turns n p)
      (bind_local (named_term make.terms n) _ (named_term_local make.terms n) (λ k. test_local _)))

  -- what begins with a name depends on its tokens and on the next one alone
  pub named_local : (after : Identifier → Place → Parser F) → ((n : Identifier) (p : Place) → Local (after n p)) → Local (named after)
  unfolding named
  named_local after local = bind_local name _ (accept_local _) (λ n. local n.0 n.1)

  -- what begins with another term depends on its tokens and on the next one alone
  pub unnamed_local : (p : Place) → Local (unnamed false make p)
  unfolding unnamed
  unnamed_local p = bind_local (unnamed_term make.terms) _ (unnamed_term_local make.terms) (λ k. test_local _)

  module _ (inner : Parser F) (local : Local inner) (after : Identifier → Place → Parser F) (after_local : (n : Identifier) (p : Place) → Local (after n p)) (turns : ℕ) where
    -- a denied formula depends on its tokens and on the next one alone
    negated_local : (p : Place) → Local (negated make inner p)
    unfolding negated
    negated_local p =
        bind_local (expect_word Not) _ (accept_local _) (λ u.
        bind_local inner _ local (λ f. pure_local _))

    -- a formula after `exists` depends on its tokens and on the next one alone
    existing_local : (p : Place) → Local (existing make inner p)
    unfolding existing
    existing_local p =
        bind_local (expect_word Exists) _ (accept_local _) (λ u.
        bind_local column _ column_local (λ c.
        bind_local inner _ local (λ f. pure_local _)))

    -- a formula after `forall` depends on its tokens and on the next one alone
    holding_local : (p : Place) → Local (holding make inner p)
    unfolding holding
    holding_local p =
        bind_local (expect_word Forall) _ (accept_local _) (λ u.
        bind_local column _ column_local (λ c.
        bind_local inner _ local (λ f. pure_local _)))

    -- what stands after `implies` depends on its tokens and on the next one alone
    implying_local : (p : Place) (f : F) → Local (implying make inner p f)
    unfolding implying
    implying_local p f =
        bind_local inner _ local (λ g.
        bind_local (expect Close) _ (accept_local _) (λ u. pure_local _))

    -- what stands after `and` depends on its tokens and on the next one alone
    conjoined_local : (p : Place) (f : F) → Local (conjoined make inner turns p f)
    unfolding conjoined
    conjoined_local p f =
        bind_local (separated_from inner (is_word And) turns (f ∷ [])) _ (separated_local inner _ local turns _) (λ fs.
        bind_local (expect Close) _ (accept_local _) (λ u. pure_local _))

    -- what stands after `or` depends on its tokens and on the next one alone
    disjoined_local : (p : Place) (f : F) → Local (disjoined make inner turns p f)
    unfolding disjoined
    disjoined_local p f =
        bind_local (separated_from inner (is_word Or) turns (f ∷ [])) _ (separated_local inner _ local turns _) (λ fs.
        bind_local (expect Close) _ (accept_local _) (λ u. pure_local _))

    -- what stands after a first formula depends on its tokens and on the next one alone
    after_first_local : (p : Place) (f : F) → Local (after_first make inner turns p f)
    unfolding after_first
    after_first_local p f =
        bind_local (eat (is_word Implies)) _ (eat_local _) (λ implies.
        if_local implies _ _ (implying_local p f)
        (bind_local (eat (is_word And)) _ (eat_local _) (λ ands.
        if_local ands _ _ (conjoined_local p f)
        (bind_local (eat (is_word Or)) _ (eat_local _) (λ ors.
        if_local ors _ _ (disjoined_local p f)
        (bind_local (expect Close) _ (accept_local _) (λ u. pure_local _)))))))

    -- formulas in parentheses depend on their tokens and on the next one alone
    enclosed_local : (p : Place) → Local (enclosed make inner turns p)
    unfolding enclosed
    enclosed_local p =
        bind_local (expect Open) _ (accept_local _) (λ u.
        bind_local inner _ local (λ f. after_first_local p f))

    -- a formula that begins so depends on its tokens and on the next one alone
    started_local : (p : Place) (s : Start) → Local (started make after inner turns p s)
    started_local p by_not = negated_local p
    started_local p by_exists = existing_local p
    started_local p by_forall = holding_local p
    started_local p by_open = enclosed_local p
    started_local p by_name = named_local after after_local
    started_local p by_term = unnamed_local p

    -- a formula depends on its tokens and on the next one alone
    formula_over_local : Local (formula_over make after inner turns)
    unfolding formula_over
    formula_over_local =
        bind_local (look false (λ t. is_hole_token t.token)) _ (look_local _ _) (λ hole.
        if_local hole _ _ (fail_local Deep)
        (bind_local here _ (look_local _ _) (λ p.
        bind_local (look by_term (λ t. start_of t.token)) _ (look_local _ _) (λ s. started_local p s))))

  module _ (after : AfterName F) (after_local : (inner : Parser F) → Local inner → (turns : ℕ) (n : Identifier) (p : Place) → Local (after inner turns n p)) where
    -- a formula of any depth depends on its tokens and on the next one alone
    pub formula_local : (depth turns : ℕ) → Local (formula_with make after depth turns)
    unfolding formula_with
    formula_local zero turns = accept_local make.cut
    formula_local (suc depth) turns = formula_over_local (formula_with make after depth turns) (formula_local depth turns) (after (formula_with make after depth turns) turns) (after_local (formula_with make after depth turns) (formula_local depth turns) turns) turns

    -- a query depends on its tokens and on the next one alone
    pub query_local : (turns : ℕ) → Local (query_with make after turns)
    unfolding query_with query_over
    query_local turns =
        bind_local (expect OpenBrace) _ (accept_local _) (λ u.
        bind_local (listed column (is_symbol Comma) (is_symbol Bar) turns) _ (listed_local _ _ _ column_local turns) (λ cs.
        bind_local (expect Bar) _ (accept_local _) (λ v.
        bind_local (formula_with make after 64 turns) _ (formula_local 64 turns) (λ f.
        bind_local (expect CloseBrace) _ (accept_local _) (λ w.
        bind_local expect_end _ (accept_local _) (λ x. pure_local _))))))
