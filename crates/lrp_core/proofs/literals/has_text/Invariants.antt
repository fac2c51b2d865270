use Rattle.std.proofs.Common.{◌≡◌, List, [], map, take}
use Rattle.lrp_model.specs.RawTerms.{said_term}
use Rattle.lrp_model.specs.Domains.{term_texts}
use Rattle.lrp_model.specs.declared.relations.Column.{Column}
use Rattle.lrp_core.proofs.literals.has_text.Given as goal

-- the terms so far have no text
abbrev pub invariant-loop-term : goal.invariant-loop-term
invariant-loop-term l = (columns : List Column) → term_texts columns (map said_term (take l.term-index l.terms)) ≡ []
