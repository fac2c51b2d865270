-- An operator over two formulas while the program expands it: its first formula is expanded.
use Rattle.std.specs.Prelude.{◌≡◌}
use Rattle.lrp_model.specs.RawQueries.{RawForm}
use Rattle.lrp_tense.specs.declared.written_operators.PairOperator.{PairOperator}
use Rattle.lrp_tense.specs.declared.expansion.BegunPair.{BegunPair}
use Rattle.lrp_tense.specs.Expanding.{present_name, moment_name, between_name, form_of_pair}
use Rattle.lrp_tense.specs.Numbers.{next_number}
use Rattle.lrp_tense.specs.Scopes.{ScopeView, inside_variable, past_one, expanded_in}
use Rattle.lrp_tense.specs.Written.{operator_of, form_inside}

-- it has the next number, and its first formula stands inside its variable for each moment between
pub record IsBegun (a : ScopeView) (p : PairOperator) (f : RawForm) (b : BegunPair) : Type 0 where
  pub moment : b.moment ≡ moment_name p.at.name.now (next_number a.numbers p.at.places.place)
  pub name : b.between.name ≡ between_name p.at.name.now (next_number a.numbers p.at.places.place)
  pub tree : form_inside b.between ≡ expanded_in (inside_variable (past_one a p.at.places.place) p.at.name.now (between_name p.at.name.now (next_number a.numbers p.at.places.place))) f

-- what it stands for with this second formula
abbrev pub pair_begun : ScopeView → PairOperator → BegunPair → RawForm → RawForm
pair_begun a p b g =
    form_of_pair p.word (operator_of p.at) b.moment b.between.name (present_name a.names p.at.name.now)
    (form_inside b.between) (expanded_in (inside_variable a p.at.name.now b.moment) g)
