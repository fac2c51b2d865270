use Rattle.std.proofs.Common.{◌≡◌, ◌<◌, ◌≤◌, ℕ, [], ◌∷◌, map, length, ◌+◌, ◌*◌}
use Rattle.lrp_model.specs.RawQueries.{raw_form_of}
use Rattle.lrp_text.specs.Parsers.{separated_from}
use Rattle.lrp_text.specs.Taking.{is_word}
use Rattle.lrp_model.specs.declared.tokens.Word.TheVariants.{Or}
use Rattle.lrp_query.specs.Grammars.{formula_in, meant}
use Rattle.lrp_query.specs.Rules.{both, member_of}
use Rattle.lrp_query.proofs.formulas.+reading.Given as goal

abbrev pub decreases-read_formula : goal.decreases-read_formula
decreases-read_formula g l = 14 * l.depth

abbrev pub decreases-read_negation : goal.decreases-read_negation
decreases-read_negation g l = 14 * l.depth + 13

abbrev pub decreases-read_existential : goal.decreases-read_existential
decreases-read_existential g l = 14 * l.depth + 13

abbrev pub decreases-read_universal : goal.decreases-read_universal
decreases-read_universal g l = 14 * l.depth + 13

abbrev pub decreases-read_enclosed : goal.decreases-read_enclosed
decreases-read_enclosed g l = 14 * l.depth + 13

abbrev pub decreases-read_named : goal.decreases-read_named
decreases-read_named g l = 14 * l.depth + 13

abbrev pub decreases-read_after : goal.decreases-read_after
decreases-read_after g l = 14 * l.depth + 12

abbrev pub decreases-read_ranged : goal.decreases-read_ranged
decreases-read_ranged g l = 14 * l.depth + 11

abbrev pub decreases-read_paired : goal.decreases-read_paired
decreases-read_paired g l = 14 * l.depth + 11

abbrev pub decreases-read_closed : goal.decreases-read_closed
decreases-read_closed g l = 14 * l.depth + 10

abbrev pub decreases-read_part : goal.decreases-read_part
decreases-read_part g l = 14 * l.depth + 9

abbrev pub decreases-read_closed_whole : goal.decreases-read_closed_whole
decreases-read_closed_whole g l = 14 * l.depth + 9

abbrev pub decreases-read_whole : goal.decreases-read_whole
decreases-read_whole g l = 14 * l.depth + 8

abbrev pub decreases-read_chain : goal.decreases-read_chain
decreases-read_chain g l = 14 * l.depth + 7

abbrev pub decreases-read_either : goal.decreases-read_either
decreases-read_either g l = 14 * l.depth + 6

abbrev pub decreases-read_after_first : goal.decreases-read_after_first
decreases-read_after_first g l = 14 * l.depth + 5

abbrev pub decreases-read_alternatives : goal.decreases-read_alternatives
decreases-read_alternatives g l = 14 * l.depth + 5

abbrev pub decreases-read_both : goal.decreases-read_both
decreases-read_both g l = 14 * l.depth + 4

abbrev pub decreases-read_quantified : goal.decreases-read_quantified
decreases-read_quantified g l = 14 * l.depth + 4

abbrev pub decreases-read_implication : goal.decreases-read_implication
decreases-read_implication g l = 14 * l.depth + 4

abbrev pub decreases-read_conjunction : goal.decreases-read_conjunction
decreases-read_conjunction g l = 14 * l.depth + 4

abbrev pub decreases-read_disjunction : goal.decreases-read_disjunction
decreases-read_disjunction g l = 14 * l.depth + 4

abbrev pub decreases-read_members : goal.decreases-read_members
decreases-read_members g l = 14 * l.depth + 3

-- those so far and those that follow are the rule's
abbrev pub invariant-read_members-loop-found : goal.invariant-read_members-loop-found
invariant-read_members-loop-found g l = record {
  same : (turns more : ℕ) → length l.fn.tokens < turns → length l.fn.tokens < more → (n : ℕ) × (length l.tokens < n) × (separated_from (formula_in g.G.Grammar.language l.fn.depth turns) (is_word l.fn.word) n (map raw_form_of l.found.items) l.tokens ≡ separated_from (formula_in g.G.Grammar.language l.fn.depth turns) (is_word l.fn.word) more (raw_form_of l.fn.first ∷ []) l.fn.tokens);
  shorter : length l.tokens ≤ length l.fn.tokens;
}

abbrev pub decreases-read_members-loop-found : goal.decreases-read_members-loop-found
decreases-read_members-loop-found g l = length l.tokens

-- the same of alternatives
abbrev pub invariant-read_alternatives-loop-found : goal.invariant-read_alternatives-loop-found
invariant-read_alternatives-loop-found g l = record {
  same : (turns more : ℕ) → length l.fn.tokens < turns → length l.fn.tokens < more → (n : ℕ) × (length l.tokens < n) × (separated_from (member_of (both meant (formula_in g.G.Grammar.language l.fn.depth turns) more)) (is_word Or) n (map raw_form_of l.found.items) l.tokens ≡ separated_from (member_of (both meant (formula_in g.G.Grammar.language l.fn.depth turns) more)) (is_word Or) more (raw_form_of l.fn.first.formula ∷ []) l.fn.tokens);
  shorter : length l.tokens ≤ length l.fn.tokens;
}

abbrev pub decreases-read_alternatives-loop-found : goal.decreases-read_alternatives-loop-found
decreases-read_alternatives-loop-found g l = length l.tokens
