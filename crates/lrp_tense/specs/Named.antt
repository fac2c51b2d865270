-- What the program keeps of the variables around a formula.
use Rattle.std.specs.Prelude.{◌-◌, List, length, slice_index_or, reverse}
use Rattle.lrp_model.specs.Texts.{Identifier}
use Rattle.lrp_tense.specs.declared.variables.Look.{Look}
use Rattle.lrp_tense.specs.Expanding.{Naming, Renaming}

-- how a name looks: its length and its last byte; a name that is read has a byte
abbrev pub look_at : Identifier → Look
look_at v = record { size = length v; last = slice_index_or v (length v - 1) 0 }

-- the innermost first, where the program has the outermost first
abbrev pub naming_of : List Renaming → Naming
naming_of vs = reverse vs
