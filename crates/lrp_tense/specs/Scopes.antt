-- What surrounds a formula while the program expands it.
use Rattle.std.specs.Prelude.{◌∷◌}
use Rattle.lrp_model.specs.Texts.{Identifier}
use Rattle.lrp_model.specs.RawQueries.{RawForm, RawForms}
use Rattle.lrp_model.specs.declared.tokens.Place.{Place}
use Rattle.lrp_tense.specs.Expanding.{Naming, renamed_to, operators, operators_each}
use Rattle.lrp_tense.specs.Numbers.{Numbers, after_one, after_all, expanded_from, each_from}

-- how operators are numbered, and the variables around the formula, the innermost first
pub record ScopeView : Type 0 where
  pub numbers : Numbers
  pub names : Naming

-- inside one variable more
abbrev pub inside_variable : ScopeView → Identifier → Identifier → ScopeView
inside_variable a v n = record a { names = renamed_to v n ∷ a.names }

-- after the operator at a place, those of a formula, and those of several
abbrev pub past_one : ScopeView → Place → ScopeView
past_one a p = record a { numbers = after_one a.numbers p }

abbrev pub past : ScopeView → RawForm → ScopeView
past a f = record a { numbers = after_all a.numbers (operators f) }

abbrev pub past_each : ScopeView → RawForms → ScopeView
past_each a fs = record a { numbers = after_all a.numbers (operators_each fs) }

-- a formula there, expanded, and several
abbrev pub expanded_in : ScopeView → RawForm → RawForm
expanded_in a f = expanded_from f a.numbers a.names

abbrev pub each_in : ScopeView → RawForms → RawForms
each_in a fs = each_from fs a.numbers a.names
