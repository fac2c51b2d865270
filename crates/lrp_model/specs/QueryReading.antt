-- What reading a query means: the raw query of a text, or the fault that is reported.
use Rattle.std.specs.Prelude.{ℕ, Bool, true, List}
use Rattle.lrp_model.specs.Tokens.{Tokens}
use Rattle.lrp_model.specs.Refused.{TextOf, IsLawfulText, IsTextSaying, IsLawfulTextIn, IsTextSayingIn}
use Rattle.lrp_model.specs.TextFaults.{IsTextFault, IsTextFaultIn}
use Rattle.lrp_model.specs.declared.faults.QueryFault.{QueryFault}
use Rattle.lrp_model.specs.Queries.{Language, WrittenQuery, WrittenFile, query_text, file_text, FitsQuery, FitsFile}
use Rattle.lrp_model.specs.Queries.Language.{first_order, wide}
use Rattle.lrp_model.specs.QueryMeaning.{raw_question, raw_file}
use Rattle.lrp_model.specs.RawQueries.{RawQuestion, RawFileView}

-- the bytes are a lawful text of the language, of this written tree; as no bytes spell a hole, the tree has none
abbrev pub IsTextIn : (l : Language) → List ℕ → WrittenQuery l → Type 0
IsTextIn l = IsLawfulText (query_text {l = l}) FitsQuery

-- the bytes are a query in the language, and this is what it says
abbrev pub IsQueryIn : Language → List ℕ → RawQuestion → Type 0
IsQueryIn l = IsTextSaying (query_text {l = l}) FitsQuery raw_question

-- the tokens spell a tree of the language, and with the flag a lawful one
abbrev pub TextsIn : Language → Bool → Tokens → Type 0
TextsIn l = TextOf (query_text {l = l}) FitsQuery

-- the fault that reading reports; the other kinds are those of sorts
abbrev pub IsFaultIn : Language → List ℕ → QueryFault → Type 0
IsFaultIn l = IsTextFault (TextsIn l)

-- ---- queries of first-order logic

abbrev pub IsQueryText : List ℕ → WrittenQuery first_order → Type 0
IsQueryText = IsTextIn first_order

abbrev pub IsQuery : List ℕ → RawQuestion → Type 0
IsQuery = IsQueryIn first_order

abbrev pub Texts : Bool → Tokens → Type 0
Texts = TextsIn first_order

abbrev pub IsQueryFault : List ℕ → QueryFault → Type 0
IsQueryFault = IsFaultIn first_order

-- ---- files of the wide language

-- the bytes are a lawful file, of this written tree
abbrev pub IsFileText : List ℕ → WrittenFile wide → Type 0
IsFileText = IsLawfulTextIn true file_text FitsFile

-- the bytes are a file, and this is what it says
abbrev pub IsFile : List ℕ → RawFileView → Type 0
IsFile = IsTextSayingIn true file_text FitsFile (raw_file {l = wide})

-- the tokens spell a file, and with the flag a lawful one
abbrev pub FileTexts : Bool → Tokens → Type 0
FileTexts = TextOf (file_text {l = wide}) FitsFile

-- the fault that reading reports
abbrev pub IsFileFault : List ℕ → QueryFault → Type 0
IsFileFault bytes f = IsTextFaultIn true FileTexts bytes f.kind f
