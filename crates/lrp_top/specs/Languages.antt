-- In which language a question's query is, and which civil values its texts have.
use Rattle.std.specs.Prelude.{Bool, true, false, Option, Some, None}
use Rattle.lrp_civil.specs.declared.values.CivilText.{CivilText}
use Rattle.lrp_civil.specs.declared.values.CivilText.TheVariants.{Database, WideDatabase}
use Rattle.lrp_top.specs.declared.language.QueryLanguage.{QueryLanguage}
use Rattle.lrp_top.specs.declared.language.QueryLanguage.TheVariants.{FirstOrder, Temporal, Wide}
use Rattle.lrp_words.specs.Commands.{FilesAsked}

-- by the words for the wide language, and for temporal operators, which say nothing more in the wide one
abbrev pub language_for : Bool → Bool → Bool → QueryLanguage
language_for true tense civil = Wide civil
language_for false true civil = Temporal
language_for false false civil = FirstOrder

abbrev pub language_by : FilesAsked → QueryLanguage
language_by of = language_for of.wide of.tense of.civil

-- by the words for civil times, and for the wide language
abbrev pub civil_for : Bool → Bool → Option CivilText
civil_for false wide = None
civil_for true false = Some Database
civil_for true true = Some WideDatabase

abbrev pub civil_by : FilesAsked → Option CivilText
civil_by of = civil_for of.civil of.wide

abbrev pub usual_by : Bool → Option CivilText
usual_by civil = civil_for civil false

-- where the words say no more than whether there may be temporal operators
abbrev pub usual_language : Bool → QueryLanguage
usual_language tense = language_for false tense false
