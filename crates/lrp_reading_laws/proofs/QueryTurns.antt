-- What is read of a query depends on no number of turns that is greater than the number of tokens.
use Rattle.std.proofs.Common.{◌≡◌, ◌<◌, ◌≤◌, ◌-◌, ◌==◌, ◌++◌, ◌∷◌, ℕ, zero, suc, Bool, true, false, List, [], Option, Some, None, refl, ap, Ok, length, arith}
use Rattle.lrp_model.specs.Texts.{Identifier}
use Rattle.lrp_model.specs.declared.tokens.Fault.TheVariants.{Deep, Syntax}
use Rattle.lrp_model.specs.declared.tokens.Place.{Place}
use Rattle.lrp_model.specs.declared.tokens.Symbol.TheVariants.{Open, Close, OpenBrace, CloseBrace, Comma, Colon, Semicolon, Bar, Star, Differs}
use Rattle.lrp_model.specs.declared.tokens.Word.TheVariants.{Exists, Forall, Not, And, Or, Implies, In}
use Rattle.lrp_model.specs.declared.raw.RawColumn.{RawColumn}
use Rattle.lrp_model.specs.Queries.{define_word, as_word}
use Rattle.lrp_model.specs.Tokens.{Placed, Tokens}
use Rattle.lrp_text.specs.Parsers.{Parser, and_then, ◌>>=◌, ◌>>◌, pure, accept, look, eat, taken, separated_from, listed}
use Rattle.lrp_text.specs.Taking.{is_symbol, is_word, is_name, is_token_named, required, expect, expect_named, expect_word, expect_end, name, here}
use Rattle.lrp_text.specs.ColumnRule.{column, sort}
use Rattle.lrp_text.specs.IntegerRule.{integer}
use Rattle.lrp_text.proofs.Local.{Local, left_of, pure_local, fail_local, accept_local, look_local, eat_local, bind_local, if_local}
use Rattle.lrp_text.proofs.ColumnRule.{column_local}
use Rattle.lrp_text.proofs.IntegerRule.{integer_local}
use Rattle.lrp_query.specs.declared.starts.Start.{Start}
use Rattle.lrp_query.specs.declared.starts.Start.TheVariants.{Not as by_not, Exists as by_exists, Forall as by_forall, Open as by_open, Name as by_name, Term as by_term}
use Rattle.lrp_query.specs.declared.words.Leading.{Leading}
use Rattle.lrp_query.specs.declared.words.Leading.TheVariants.{OfRange, OfPair}
use Rattle.lrp_query.specs.Rules.{Trees, TermTrees, AfterName, WideAfterName, Definition, Joined, star_or_term, term, named_term, unnamed_term, argument, differing, tested, atom_terms, after_name, named, unnamed, negated, existing, holding, implying, conjoined, disjoined, alone, after_first, enclosed, both, member_of, either, last_link, chained, whole, closed_whole, enclosed_whole, names_from, binders_rule, quantified, start_of, is_hole_token, started, formula_over, started_wide, wide_formula_over, formula_with, query_over, query_with, plainly, wide_up_to, wide_formula_with, wide_whole_with, wide_query_with, definition_with, definitions_from, file_with}
use Rattle.lrp_query.specs.OperatorRules.{OperatorTrees, ends, ranged, paired, operator, wide_operator, with_operators, with_wide_operators}
use Rattle.lrp_query.proofs.LocalRules.{named_term_local, unnamed_term_local, term_local, point_local, comparing_local, test_local, unnamed_local}
use Rattle.lrp_reading_laws.proofs.Agreeing.{Alike, Agree, then_alike, eat_alike, look_alike, chosen_alike, by_itself, bind_agree, if_agree, separated_agree, listed_agree}

-- ---- terms and tests, which count no turns

star_local : {K T : Type 0} (make : TermTrees K T) → Local (star_or_term make)
unfolding star_or_term
star_local make =
    bind_local here _ (look_local _ _) (λ p.
    bind_local (eat (is_symbol Star)) _ (eat_local _) (λ star. if_local star _ _ (pure_local _) (term_local make)))

argument_local : {K T : Type 0} (wide : Bool) (make : TermTrees K T) → Local (argument wide make)
argument_local false make = term_local make
argument_local true make = star_local make

differing_local : {K T F Q : Type 0} (make : Trees K T F Q) (left : T) → Local (differing make left)
unfolding differing
differing_local make left = bind_local (term make.terms) _ (term_local make.terms) (λ right. pure_local _)

wide_test_local : {K T F Q : Type 0} (make : Trees K T F Q) (left : T) → Local (tested true make left)
unfolding tested
wide_test_local make left =
    bind_local (eat (is_word In)) _ (eat_local _) (λ inside. if_local inside _ _ (point_local make left)
    (bind_local (eat (is_symbol Differs)) _ (eat_local _) (λ differs. if_local differs _ _ (differing_local make left) (comparing_local make left))))

tested_local : {K T F Q : Type 0} (wide : Bool) (make : Trees K T F Q) (left : T) → Local (tested wide make left)
tested_local false make left = test_local make left
tested_local true make left = wide_test_local make left

wide_unnamed_local : {K T F Q : Type 0} (make : Trees K T F Q) (p : Place) → Local (unnamed true make p)
unfolding unnamed
wide_unnamed_local make p = bind_local (unnamed_term make.terms) _ (unnamed_term_local make.terms) (λ k. wide_test_local make _)

-- ---- formulas

module _ {K T F Q : Type 0} (make : Trees K T F Q) (size n m : ℕ) (a : size ≤ n) (b : size ≤ m) where
  atom_agree : (wide : Bool) (r : Identifier) (p : Place) → Agree size (atom_terms wide make n r p) (atom_terms wide make m r p)
  unfolding atom_terms
  atom_agree wide r p =
      bind_agree size (listed (argument wide make.terms) (is_symbol Comma) (is_symbol Close) n) (listed (argument wide make.terms) (is_symbol Comma) (is_symbol Close) m) _ _
      (listed_agree size (argument wide make.terms) (argument wide make.terms) (is_symbol Comma) (is_symbol Close) (by_itself size _ (argument_local wide make.terms)) n m a b) (λ ts.
      bind_agree size (expect Close) (expect Close) _ _ (by_itself size _ (accept_local _)) (λ u. by_itself size _ (pure_local _)))

  pub name_agree : (wide : Bool) (r : Identifier) (p : Place) → Agree size (after_name wide make n r p) (after_name wide make m r p)
  unfolding after_name
  name_agree wide r p =
      bind_agree size (eat (is_symbol Open)) (eat (is_symbol Open)) _ _ (by_itself size _ (eat_local _)) (λ opens.
      if_agree size opens _ _ _ _ (atom_agree wide r p) (by_itself size _ (bind_local (named_term make.terms r) _ (named_term_local make.terms r) (λ k. tested_local wide make _))))

  query_agree : (f g : Parser F) → Agree size f g → Agree size (query_over make f n) (query_over make g m)
  unfolding query_over
  query_agree f g h =
      bind_agree size (expect OpenBrace) (expect OpenBrace) _ _ (by_itself size _ (accept_local _)) (λ u.
      bind_agree size (listed column (is_symbol Comma) (is_symbol Bar) n) (listed column (is_symbol Comma) (is_symbol Bar) m) _ _ (listed_agree size column column (is_symbol Comma) (is_symbol Bar) (by_itself size column column_local) n m a b) (λ cs.
      bind_agree size (expect Bar) (expect Bar) _ _ (by_itself size _ (accept_local _)) (λ v.
      bind_agree size f g _ _ h (λ x.
      bind_agree size (expect CloseBrace) (expect CloseBrace) _ _ (by_itself size _ (accept_local _)) (λ w.
      bind_agree size expect_end expect_end _ _ (by_itself size _ (accept_local _)) (λ y. by_itself size _ (pure_local _)))))))

  module _ (f g : Parser F) (h : Agree size f g) where
    negated_agree : (p : Place) → Agree size (negated make f p) (negated make g p)
    unfolding negated
    negated_agree p = bind_agree size (expect_word Not) (expect_word Not) _ _ (by_itself size _ (accept_local _)) (λ u. bind_agree size f g _ _ h (λ x. by_itself size _ (pure_local _)))

    existing_agree : (p : Place) → Agree size (existing make f p) (existing make g p)
    unfolding existing
    existing_agree p =
        bind_agree size (expect_word Exists) (expect_word Exists) _ _ (by_itself size _ (accept_local _)) (λ u.
        bind_agree size column column _ _ (by_itself size column column_local) (λ c. bind_agree size f g _ _ h (λ x. by_itself size _ (pure_local _))))

    holding_agree : (p : Place) → Agree size (holding make f p) (holding make g p)
    unfolding holding
    holding_agree p =
        bind_agree size (expect_word Forall) (expect_word Forall) _ _ (by_itself size _ (accept_local _)) (λ u.
        bind_agree size column column _ _ (by_itself size column column_local) (λ c. bind_agree size f g _ _ h (λ x. by_itself size _ (pure_local _))))

    implying_agree : (p : Place) (x : F) → Agree size (implying make f p x) (implying make g p x)
    unfolding implying
    implying_agree p x = bind_agree size f g _ _ h (λ y. bind_agree size (expect Close) (expect Close) _ _ (by_itself size _ (accept_local _)) (λ u. by_itself size _ (pure_local _)))

    conjoined_agree : (p : Place) (x : F) → Agree size (conjoined make f n p x) (conjoined make g m p x)
    unfolding conjoined
    conjoined_agree p x =
        bind_agree size (separated_from f (is_word And) n (x ∷ [])) (separated_from g (is_word And) m (x ∷ [])) _ _ (λ ts lt. separated_agree size f g (is_word And) h n m (x ∷ []) ts lt (omega (arith, lt, a)) (omega (arith, lt, b))) (λ fs.
        bind_agree size (expect Close) (expect Close) _ _ (by_itself size _ (accept_local _)) (λ u. by_itself size _ (pure_local _)))

    disjoined_agree : (p : Place) (x : F) → Agree size (disjoined make f n p x) (disjoined make g m p x)
    unfolding disjoined
    disjoined_agree p x =
        bind_agree size (separated_from f (is_word Or) n (x ∷ [])) (separated_from g (is_word Or) m (x ∷ [])) _ _ (λ ts lt. separated_agree size f g (is_word Or) h n m (x ∷ []) ts lt (omega (arith, lt, a)) (omega (arith, lt, b))) (λ fs.
        bind_agree size (expect Close) (expect Close) _ _ (by_itself size _ (accept_local _)) (λ u. by_itself size _ (pure_local _)))

    alone_agree : (p : Place) (x : F) → Agree size (alone make p x) (alone make p x)
    alone_agree p x = bind_agree size (expect Close) (expect Close) _ _ (by_itself size _ (accept_local _)) (λ u. by_itself size _ (pure_local _))

    first_agree : (p : Place) (x : F) → Agree size (after_first make f n p x) (after_first make g m p x)
    unfolding after_first
    first_agree p x =
        bind_agree size (eat (is_word Implies)) (eat (is_word Implies)) _ _ (by_itself size _ (eat_local _)) (λ implies. if_agree size implies _ _ _ _ (implying_agree p x)
        (bind_agree size (eat (is_word And)) (eat (is_word And)) _ _ (by_itself size _ (eat_local _)) (λ ands. if_agree size ands _ _ _ _ (conjoined_agree p x)
        (bind_agree size (eat (is_word Or)) (eat (is_word Or)) _ _ (by_itself size _ (eat_local _)) (λ ors. if_agree size ors _ _ _ _ (disjoined_agree p x) (alone_agree p x))))))

    enclosed_agree : (p : Place) → Agree size (enclosed make f n p) (enclosed make g m p)
    unfolding enclosed
    enclosed_agree p = bind_agree size (expect Open) (expect Open) _ _ (by_itself size _ (accept_local _)) (λ u. bind_agree size f g _ _ h (λ x. first_agree p x))

    module _ (after beyond : Identifier → Place → Parser F) (k : (r : Identifier) (p : Place) → Agree size (after r p) (beyond r p)) where
      pub named_agree : Agree size (named after) (named beyond)
      unfolding named
      named_agree = bind_agree size name name _ _ (by_itself size _ (accept_local _)) (λ r. k r.0 r.1)

      started_agree : (p : Place) (s : Start) → Agree size (started make after f n p s) (started make beyond g m p s)
      started_agree p by_not = negated_agree p
      started_agree p by_exists = existing_agree p
      started_agree p by_forall = holding_agree p
      started_agree p by_open = enclosed_agree p
      started_agree p by_name = named_agree
      started_agree p by_term = by_itself size _ (unnamed_local make p)

      over_agree : Agree size (formula_over make after f n) (formula_over make beyond g m)
      unfolding formula_over
      over_agree =
          bind_agree size (look false (λ t. is_hole_token t.token)) (look false (λ t. is_hole_token t.token)) _ _ (by_itself size _ (look_local _ _)) (λ hole. if_agree size hole _ _ _ _ (by_itself size _ (fail_local Deep))
          (bind_agree size here here _ _ (by_itself size _ (look_local _ _)) (λ p.
          bind_agree size (look by_term (λ t. start_of t.token)) (look by_term (λ t. start_of t.token)) _ _ (by_itself size _ (look_local _ _)) (λ s. started_agree p s))))

  -- formulas of each depth, where what stands after a name agrees as its parts do
  module _ (after : AfterName F) (k : (f g : Parser F) → Agree size f g → (r : Identifier) (p : Place) → Agree size (after f n r p) (after g m r p)) where
    formula_agree : (depth : ℕ) → Agree size (formula_with make after depth n) (formula_with make after depth m)
    unfolding formula_with
    formula_agree zero = by_itself size _ (accept_local _)
    formula_agree (suc depth) =
        over_agree (formula_with make after depth n) (formula_with make after depth m) (formula_agree depth) (after (formula_with make after depth n) n) (after (formula_with make after depth m) m) (k (formula_with make after depth n) (formula_with make after depth m) (formula_agree depth))

    narrow_agree : Agree size (query_with make after n) (query_with make after m)
    unfolding query_with
    narrow_agree = query_agree (formula_with make after 64 n) (formula_with make after 64 m) (formula_agree 64)

-- ---- operators

module _ {R P N F : Type 0} (make : OperatorTrees R P N F) (size : ℕ) (f g : Parser F) (h : Agree size f g) where
  ends_local : Local (ends make.number_of)
  unfolding ends
  ends_local =
      bind_local integer _ integer_local (λ x.
      bind_local (expect Comma) _ (accept_local _) (λ u.
      bind_local integer _ integer_local (λ y.
      bind_local (expect Close) _ (accept_local _) (λ v. pure_local _))))

  ranged_agree : (word : R) (p : Place) → Agree size (ranged make f word p) (ranged make g word p)
  unfolding ranged
  ranged_agree word p =
      bind_agree size name name _ _ (by_itself size _ (accept_local _)) (λ v.
      bind_agree size (expect Open) (expect Open) _ _ (by_itself size _ (accept_local _)) (λ u.
      bind_agree size (ends make.number_of) (ends make.number_of) _ _ (by_itself size _ ends_local) (λ e.
      bind_agree size f g _ _ h (λ x. by_itself size _ (pure_local _)))))

  paired_agree : (word : P) (p : Place) → Agree size (paired make f word p) (paired make g word p)
  unfolding paired
  paired_agree word p =
      bind_agree size name name _ _ (by_itself size _ (accept_local _)) (λ v.
      bind_agree size (expect Open) (expect Open) _ _ (by_itself size _ (accept_local _)) (λ u.
      bind_agree size f g _ _ h (λ x.
      bind_agree size (expect Comma) (expect Comma) _ _ (by_itself size _ (accept_local _)) (λ w.
      bind_agree size f g _ _ h (λ y.
      bind_agree size (expect Close) (expect Close) _ _ (by_itself size _ (accept_local _)) (λ z. by_itself size _ (pure_local _)))))))

module _ {R P N F : Type 0} (make : OperatorTrees R P N F) (size : ℕ) (f g outer other : Parser F) (h : Agree size f g) (k : Agree size outer other) where
  operator_agree : (p : Place) (o : Option (Leading R P)) → Agree size (operator make f p o) (operator make g p o)
  operator_agree p (Some (OfRange word)) = ranged_agree make size f g h word p
  operator_agree p (Some (OfPair word)) = paired_agree make size f g h word p
  operator_agree p None = by_itself size _ (fail_local Syntax)

  wide_operator_agree : (p : Place) (o : Option (Leading R P)) → Agree size (wide_operator make f outer p o) (wide_operator make g other p o)
  wide_operator_agree p (Some (OfRange word)) = ranged_agree make size f g h word p
  wide_operator_agree p (Some (OfPair word)) = paired_agree make size outer other k word p
  wide_operator_agree p None = by_itself size _ (fail_local Syntax)

module _ {K T F Q R P N : Type 0} (make : Trees K T F Q) (operators : OperatorTrees R P N F) (size n m : ℕ) (a : size ≤ n) (b : size ≤ m) where
  operators_agree : (f g : Parser F) → Agree size f g → (r : Identifier) (p : Place) → Agree size (with_operators make operators f n r p) (with_operators make operators g m r p)
  unfolding with_operators
  operators_agree f g h r p =
      bind_agree size (look false is_name) (look false is_name) _ _ (by_itself size _ (look_local _ _)) (λ again. if_agree size again _ _ _ _ (operator_agree operators size f g f g h h p (operators.word_of r)) (name_agree make size n m a b false r p))

  wide_operators_agree : (f g : Parser F) → Agree size f g → (outer other : Parser F) → Agree size outer other → (r : Identifier) (p : Place) → Agree size (with_wide_operators make operators f outer n r p) (with_wide_operators make operators g other m r p)
  unfolding with_wide_operators
  wide_operators_agree f g h outer other k r p =
      bind_agree size (look false is_name) (look false is_name) _ _ (by_itself size _ (look_local _ _)) (λ again. if_agree size again _ _ _ _ (wide_operator_agree operators size f g outer other h k p (operators.word_of r)) (name_agree make size n m a b true r p))

-- ---- queries of first-order logic, and with operators

-- with more turns than tokens
pub same_plain : {K T F Q : Type 0} (make : Trees K T F Q) (ts : Tokens) (n m : ℕ) → length ts < n → length ts < m → query_with make (plainly make) n ts ≡ query_with make (plainly make) m ts
same_plain make ts n m a b =
    let size : ℕ = suc (length ts) in
    let low : size ≤ n = omega (arith, a) in
    let less : size ≤ m = omega (arith, b) in
    (narrow_agree make size n m low less (plainly make) (λ f g h r p. name_agree make size n m low less false r p) ts (omega arith)).same

pub same_tense : {K T F Q R P N : Type 0} (make : Trees K T F Q) (operators : OperatorTrees R P N F) (ts : Tokens) (n m : ℕ) → length ts < n → length ts < m → query_with make (with_operators make operators) n ts ≡ query_with make (with_operators make operators) m ts
same_tense make operators ts n m a b =
    let size : ℕ = suc (length ts) in
    let low : size ≤ n = omega (arith, a) in
    let less : size ≤ m = omega (arith, b) in
    (narrow_agree make size n m low less (with_operators make operators) (operators_agree make operators size n m low less) ts (omega arith)).same

-- ---- formulas of the wide language

-- parsers of each depth that read alike
abbrev AgreeAll : {F : Type 0} → ℕ → (ℕ → Parser F) → (ℕ → Parser F) → Type 0
AgreeAll size f g = (depth : ℕ) → Agree size (f depth) (g depth)

module _ {K T F Q : Type 0} (make : Trees K T F Q) (size : ℕ) where
  -- one formula, or several with a word between: after the first one and the word fewer tokens are left than turns
  both_alike : (f g : Parser F) → Agree size f g → (n m : ℕ) (ts : Tokens) → length ts < size → length ts ≤ n → length ts ≤ m → Alike ts (both make f n ts) (both make g m ts)
  unfolding both
  both_alike f g h n m ts lt a b =
      then_alike (f ts) (g ts) _ _ ts (h ts lt) (λ x us e le.
      eat_alike (is_word And) us _ _ (λ vs less. then_alike (separated_from f (is_word And) n (x ∷ []) vs) (separated_from g (is_word And) m (x ∷ []) vs) _ _ vs
      (separated_agree size f g (is_word And) h n m (x ∷ []) vs (omega (arith, lt, le, less)) (omega (arith, a, le, less)) (omega (arith, b, le, less))) (λ fs ws d lw. record { same = refl; left = omega arith }))
      (record { same = refl; left = omega arith }))

  member_alike : (p q : Parser (Joined F)) (ts : Tokens) → Alike ts (p ts) (q ts) → Alike ts (member_of p ts) (member_of q ts)
  member_alike p q ts h = then_alike (p ts) (q ts) _ _ ts h (λ j us e le. record { same = refl; left = omega arith })

  either_alike : (f g : Parser F) → Agree size f g → (n m : ℕ) (ts : Tokens) → length ts < size → length ts ≤ n → length ts ≤ m → Alike ts (either make f n ts) (either make g m ts)
  unfolding either
  either_alike f g h n m ts lt a b =
      then_alike (both make f n ts) (both make g m ts) _ _ ts (both_alike f g h n m ts lt a b) (λ j us e le.
      eat_alike (is_word Or) us _ _ (λ vs less.
      then_alike (separated_from (member_of (both make f n)) (is_word Or) n (j.formula ∷ []) vs) (separated_from (member_of (both make g m)) (is_word Or) m (j.formula ∷ []) vs) _ _ vs
      (separated_agree (length us) (member_of (both make f n)) (member_of (both make g m)) (is_word Or)
      (λ ws lw. member_alike (both make f n) (both make g m) ws (both_alike f g h n m ws (omega (arith, lt, le, lw)) (omega (arith, a, le, lw)) (omega (arith, b, le, lw))))
      n m (j.formula ∷ []) vs less (omega (arith, a, le, less)) (omega (arith, b, le, less)))
      (λ fs ws d lw. record { same = refl; left = omega arith }))
      (record { same = refl; left = omega arith }))

  last_local : (x : F) (j : Joined F) → Local (last_link make x j)
  unfolding last_link
  last_local x j = bind_local (look false (is_word Implies)) _ (look_local _ _) (λ further. if_local further _ _ (fail_local Deep) (pure_local _))

  module _ (f g : ℕ → Parser F) (h : AgreeAll size f g) where
    chained_alike : (n m depth : ℕ) (x : F) (ts : Tokens) → length ts < size → length ts < n → length ts < m → Alike ts (chained make f depth n x ts) (chained make g depth m x ts)
    unfolding chained
    chained_alike zero m depth x ts lt a b = absurd (omega (arith, a))
    chained_alike (suc n) zero depth x ts lt a b = absurd (omega (arith, b))
    chained_alike (suc n) (suc m) depth x ts lt a b =
        then_alike (either make (f depth) n ts) (either make (g depth) m ts) _ _ ts (either_alike (f depth) (g depth) (h depth) n m ts lt (omega (arith, a)) (omega (arith, b))) (λ j us e le.
        chosen_alike (depth == 0) (last_link make x j) (last_link make x j) _ _ us (by_itself size (last_link make x j) (last_local x j) us (omega (arith, lt, le)))
        (eat_alike (is_word Implies) us _ _ (λ vs less.
        then_alike (chained make f (depth - 1) n j.formula vs) (chained make g (depth - 1) m j.formula vs) _ _ vs (chained_alike n m (depth - 1) j.formula vs (omega (arith, lt, le, less)) (omega (arith, a, le, less)) (omega (arith, b, le, less)))
        (λ y ws d lw. record { same = refl; left = omega arith }))
        (record { same = refl; left = omega arith })))

    whole_alike : (n m depth : ℕ) (ts : Tokens) → length ts < size → length ts ≤ n → length ts ≤ m → Alike ts (whole make f depth n ts) (whole make g depth m ts)
    unfolding whole
    whole_alike n m depth ts lt a b =
        then_alike (either make (f depth) n ts) (either make (g depth) m ts) _ _ ts (either_alike (f depth) (g depth) (h depth) n m ts lt a b) (λ j us e le.
        eat_alike (is_word Implies) us _ _ (λ vs less.
        then_alike (chained make f depth n j.formula vs) (chained make g depth m j.formula vs) _ _ vs (chained_alike n m depth j.formula vs (omega (arith, lt, le, less)) (omega (arith, a, le, less)) (omega (arith, b, le, less)))
        (λ y ws d lw. record { same = refl; left = omega arith }))
        (record { same = refl; left = omega arith }))

    module _ (n m : ℕ) (a : size ≤ n) (b : size ≤ m) where
      whole_agree : (depth : ℕ) → Agree size (whole make f depth n) (whole make g depth m)
      whole_agree depth ts lt = whole_alike n m depth ts lt (omega (arith, lt, a)) (omega (arith, lt, b))

      any_agree : (depth : ℕ) → Agree size (member_of (whole make f depth n)) (member_of (whole make g depth m))
      any_agree depth ts lt = member_alike (whole make f depth n) (whole make g depth m) ts (whole_agree depth ts lt)

      in_parentheses : (depth : ℕ) (p : Place) → Agree size (enclosed_whole make f depth n p) (enclosed_whole make g depth m p)
      unfolding enclosed_whole closed_whole
      in_parentheses depth p =
          bind_agree size (expect Open) (expect Open) _ _ (by_itself size _ (accept_local _)) (λ u.
          bind_agree size (whole make f depth n) (whole make g depth m) _ _ (whole_agree depth) (λ j.
          bind_agree size (expect Close) (expect Close) _ _ (by_itself size _ (accept_local _)) (λ v. by_itself size _ (pure_local _))))

      binders_agree : Agree size (binders_rule n) (binders_rule m)
      unfolding binders_rule
      binders_agree =
          bind_agree size (names_from n []) (names_from m []) _ _ (λ ts lt. separated_agree size name name (is_symbol Comma) (by_itself size _ (accept_local _)) n m [] ts lt (omega (arith, lt, a)) (omega (arith, lt, b))) (λ ns.
          bind_agree size (expect Colon) (expect Colon) _ _ (by_itself size _ (accept_local _)) (λ u.
          bind_agree size sort sort _ _ (by_itself size _ (accept_local _)) (λ s. by_itself size _ (pure_local _))))

      quantified_agree : (bind : Place → RawColumn → F → F) (depth : ℕ) (p : Place) → Agree size (quantified bind f depth n p) (quantified bind g depth m p)
      unfolding quantified
      quantified_agree bind depth p =
          bind_agree size (binders_rule n) (binders_rule m) _ _ binders_agree (λ cs.
          bind_agree size (f (depth - (length cs - 1))) (g (depth - (length cs - 1))) _ _ (h (depth - (length cs - 1))) (λ x. by_itself size _ (pure_local _)))

      module _ (after beyond : Identifier → Place → Parser F) (k : (r : Identifier) (p : Place) → Agree size (after r p) (beyond r p)) (depth : ℕ) where
        wide_started : (p : Place) (s : Start) → Agree size (started_wide make after f depth n p s) (started_wide make beyond g depth m p s)
        wide_started p by_not = negated_agree make size n m a b (f depth) (g depth) (h depth) p
        wide_started p by_exists = bind_agree size (expect_word Exists) (expect_word Exists) _ _ (by_itself size _ (accept_local _)) (λ u. quantified_agree make.formulas.existential depth p)
        wide_started p by_forall = bind_agree size (expect_word Forall) (expect_word Forall) _ _ (by_itself size _ (accept_local _)) (λ u. quantified_agree make.formulas.universal depth p)
        wide_started p by_open = in_parentheses depth p
        wide_started p by_name = named_agree make size n m a b (f depth) (g depth) (h depth) after beyond k
        wide_started p by_term = by_itself size _ (wide_unnamed_local make p)

        wide_over : Agree size (wide_formula_over make after f depth n) (wide_formula_over make beyond g depth m)
        unfolding wide_formula_over
        wide_over =
            bind_agree size (look false (λ t. is_hole_token t.token)) (look false (λ t. is_hole_token t.token)) _ _ (by_itself size _ (look_local _ _)) (λ hole. if_agree size hole _ _ _ _ (by_itself size _ (fail_local Deep))
            (bind_agree size here here _ _ (by_itself size _ (look_local _ _)) (λ p.
            bind_agree size (look by_term (λ t. start_of t.token)) (look by_term (λ t. start_of t.token)) _ _ (by_itself size _ (look_local _ _)) (λ s. wide_started p s))))

-- ---- files

-- after the first word of a definition fewer tokens are left
definition_takes : {A : Type 0} (test : Placed → Bool) (rest : Parser A) (ts : Tokens) (x : A) (us : Tokens) → ((vs : Tokens) → length vs < length ts → length (left_of (rest vs)) ≤ length vs) → (accept (λ t. required (test t)) >> rest) ts ≡ Ok (x, us) → length us < length ts
unfolding accept
definition_takes test rest [] x us k e = absurd cc
definition_takes {A} test rest (t ∷ ts) x us k e = by (test t) e
  where
    by : (b : Bool) → and_then (taken (required b) t ts) (λ u. rest) ≡ Ok (x, us) → length us < suc (length ts)
    by false d = absurd cc
    by true d =
        let low = k ts (omega arith) in
        let same : left_of (rest ts) ≡ us = ap left_of d in
        let size : length (left_of (rest ts)) ≡ length us = ap length same in
        omega (arith, low, size)

module _ {K T F Q R P N : Type 0} (make : Trees K T F Q) (operators : OperatorTrees R P N F) (size n m : ℕ) (a : size ≤ n) (b : size ≤ m) where
  abbrev wide_names : WideAfterName F
  wide_names = with_wide_operators make operators

  up_to_agree : (most : ℕ) → AgreeAll size (wide_up_to make wide_names n most) (wide_up_to make wide_names m most)
  unfolding wide_up_to
  up_to_agree zero depth = by_itself size _ (accept_local _)
  up_to_agree (suc most) depth =
      let f = wide_up_to make wide_names n most in
      let g = wide_up_to make wide_names m most in
      let h : AgreeAll size f g = up_to_agree most in
      let any = any_agree make size f g h n m a b most in
      if_agree size (depth == suc most) _ _ _ _ (wide_over make size f g h n m a b _ _ (wide_operators_agree make operators size n m a b (f most) (g most) (h most) (member_of (whole make f most n)) (member_of (whole make g most m)) any) most) (h depth)

  body_agree : Agree size (wide_whole_with make wide_names n) (wide_whole_with make wide_names m)
  body_agree = any_agree make size (λ depth. wide_formula_with make wide_names depth n) (λ depth. wide_formula_with make wide_names depth m) (λ depth. up_to_agree depth depth) n m a b 64

  -- what stands after the first word of a definition
  abbrev definition_rest : ℕ → Parser (Definition F)
  definition_rest turns = do
    r ← name
    expect Open
    cs ← listed column (is_symbol Comma) (is_symbol Close) turns
    expect Close
    expect_named as_word
    f ← wide_whole_with make wide_names turns
    expect Semicolon
    pure (record { name = r.0; place = r.1; columns = cs; body = f })

  rest_agree : Agree size (definition_rest n) (definition_rest m)
  rest_agree =
      bind_agree size name name _ _ (by_itself size _ (accept_local _)) (λ r.
      bind_agree size (expect Open) (expect Open) _ _ (by_itself size _ (accept_local _)) (λ u.
      bind_agree size (listed column (is_symbol Comma) (is_symbol Close) n) (listed column (is_symbol Comma) (is_symbol Close) m) _ _ (listed_agree size column column (is_symbol Comma) (is_symbol Close) (by_itself size column column_local) n m a b) (λ cs.
      bind_agree size (expect Close) (expect Close) _ _ (by_itself size _ (accept_local _)) (λ v.
      bind_agree size (expect_named as_word) (expect_named as_word) _ _ (by_itself size _ (accept_local _)) (λ w.
      bind_agree size (wide_whole_with make wide_names n) (wide_whole_with make wide_names m) _ _ body_agree (λ x.
      bind_agree size (expect Semicolon) (expect Semicolon) _ _ (by_itself size _ (accept_local _)) (λ y. by_itself size _ (pure_local _))))))))

  definition_agree : Agree size (definition_with make wide_names n) (definition_with make wide_names m)
  unfolding definition_with
  definition_agree = bind_agree size (expect_named define_word) (expect_named define_word) _ _ (by_itself size _ (accept_local _)) (λ u. rest_agree)

  definition_shorter : (ts : Tokens) (d : Definition F) (us : Tokens) → length ts < size → definition_with make wide_names n ts ≡ Ok (d, us) → length us < length ts
  unfolding definition_with
  definition_shorter ts d us lt e = definition_takes (is_token_named define_word) (definition_rest n) ts d us (λ vs less. (rest_agree vs (omega (arith, lt, less))).left) e

  definitions_alike : (k l : ℕ) (found : List (Definition F)) (ts : Tokens) → length ts < size → length ts < k → length ts < l → Alike ts (definitions_from make wide_names k n found ts) (definitions_from make wide_names l m found ts)
  unfolding definitions_from
  definitions_alike zero l found ts lt x y = absurd (omega (arith, x))
  definitions_alike (suc k) zero found ts lt x y = absurd (omega (arith, y))
  definitions_alike (suc k) (suc l) found ts lt x y =
      look_alike false (is_token_named define_word) ts _ _ (λ defines. chosen_alike defines _ _ (pure found) (pure found) ts
      (then_alike (definition_with make wide_names n ts) (definition_with make wide_names m ts) _ _ ts (definition_agree ts lt) (λ d us e le.
      let less = definition_shorter ts d us lt e in
      definitions_alike k l (found ++ d ∷ []) us (omega (arith, lt, le)) (omega (arith, x, less)) (omega (arith, y, less))))
      (record { same = refl; left = omega arith }))

  file_agree : Agree size (file_with make wide_names n) (file_with make wide_names m)
  unfolding file_with
  file_agree =
      bind_agree size (definitions_from make wide_names n n []) (definitions_from make wide_names m m []) _ _ (λ ts lt. definitions_alike n m [] ts lt (omega (arith, lt, a)) (omega (arith, lt, b))) (λ ds.
      bind_agree size (wide_query_with make wide_names n) (wide_query_with make wide_names m) _ _ (query_agree make size n m a b (wide_whole_with make wide_names n) (wide_whole_with make wide_names m) body_agree) (λ q. by_itself size _ (pure_local _)))

-- with more turns than tokens
pub same_file : {K T F Q R P N : Type 0} (make : Trees K T F Q) (operators : OperatorTrees R P N F) (ts : Tokens) (n m : ℕ) → length ts < n → length ts < m → file_with make (with_wide_operators make operators) n ts ≡ file_with make (with_wide_operators make operators) m ts
same_file make operators ts n m a b = (file_agree make operators (suc (length ts)) n m (omega (arith, a)) (omega (arith, b)) ts (omega arith)).same
