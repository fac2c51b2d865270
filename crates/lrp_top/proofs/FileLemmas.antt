-- Bytes that may be those of a file, and why there are none.
use Rattle.std.proofs.Common.{◌≡◌, ℕ, zero, suc, ◌<◌, ◌≤◌, List, [], ◌∷◌, length, Bool, true, Option, Some, None, Result, Err, arith, refl, ap}
use Rattle.lrp_io.specs.Causes.{Rose}
use Rattle.lrp_io.specs.Files.{content_of}
use Rattle.lrp_io.specs.declared.shelf.File.{File}
use Rattle.lrp_model.specs.Formulas.{Question}
use Rattle.lrp_model.specs.Texts.{Identifier}
use Rattle.lrp_model.specs.declared.relations.Relation.{Relation}
use Rattle.lrp_civil.specs.declared.values.CivilText.{CivilText}
use Rattle.lrp_edits.specs.declared.edits.Edit.{Edit}
use Rattle.lrp_top.specs.Due.{IsQueryRead, IsQueryReadOf, IsDatabaseRead, IsDatabaseReadOf}
use Rattle.lrp_top.specs.Seen.{ShelfSeen, AreBytesOf, IsOverrun}
use Rattle.lrp_top.specs.Sources.{Source}
use Rattle.lrp_top.specs.Watched.{AreEditsRead, AreEditsReadOf}
use Rattle.lrp_top.specs.declared.language.QueryLanguage.{QueryLanguage}
use Rattle.lrp_outputs.specs.declared.refusal.Refusal.{Refusal}
use Rattle.lrp_outputs.specs.declared.refusal.Refusal.TheVariants.{ReadDatabase, LongDatabase, ReadQuery, LongQuery, Watch, Memory}
use Rattle.lrp_outputs.specs.declared.watch_refusal.WatchRefusal.TheVariants as watch

-- the bytes of a file of files, where these are told
abbrev Told : Option (List File) → Identifier → List ℕ → Type 0
Told files name bytes = (held : List File) → files ≡ Some held → bytes ≡ content_of held name

-- the same files
same_held : (held other : List File) → Some held ≡ Some other → held ≡ other
same_held held other e = cc

-- no files are not some
none_held : (held : List File) → None ≡ Some held → ⊥
none_held held e = cc

-- some bytes may always be those of a file
some_bytes : (files : Option (List File)) (name : Identifier) → (bytes : List ℕ) × Told files name bytes
some_bytes None name = ([], λ held e. absurd (none_held held e))
some_bytes (Some held) name = (content_of held name, λ other e. ap (λ h. content_of h name) (same_held held other e))

-- a list of a length
of_length : (n : ℕ) → (bytes : List ℕ) × (length bytes ≡ n)
of_length zero = ([], refl)
of_length (suc n) = let r = of_length n in (0 ∷ r.0, ap suc r.1)

-- bytes of a file that is too long where files are told
long_bytes : (files : Option (List File)) (name : Identifier) → ((held : List File) → files ≡ Some held → 16777216 < length (content_of held name)) → (bytes : List ℕ) × Told files name bytes × (16777216 < length bytes)
long_bytes None name h = let r = of_length 16777217 in (r.0, λ held e. absurd (none_held held e), (let e : length r.0 ≡ 16777217 = r.1 in omega arith))
long_bytes (Some held) name h = (content_of held name, (λ other e. ap (λ k. content_of k name) (same_held held other e)), h held refl)

-- what is so of bytes, whatever is seen, is so of those of a file
pub read_of : (civil : Option CivilText) (seen : ShelfSeen) (name : Identifier) (bytes : List ℕ) (result : Result (Source (List Relation)) Refusal) → AreBytesOf seen name bytes → ((s : ShelfSeen) (n : Identifier) → IsDatabaseReadOf civil s n bytes result) → IsDatabaseRead civil seen name result
read_of civil seen name bytes result told each = record { bytes = bytes; told = told; is = each seen name }

pub asked_of : (language : QueryLanguage) (db : List Relation) (seen : ShelfSeen) (name : Identifier) (bytes : List ℕ) (result : Result (Source Question) Refusal) → AreBytesOf seen name bytes → ((s : ShelfSeen) (n : Identifier) → IsQueryReadOf language db s n bytes result) → IsQueryRead language db seen name result
asked_of language db seen name bytes result told each = record { bytes = bytes; told = told; is = each seen name }

pub edits_read_of : (db : List Relation) (seen : ShelfSeen) (name : Identifier) (bytes : List ℕ) (result : Result (List Edit) Refusal) → AreBytesOf seen name bytes → ((s : ShelfSeen) (n : Identifier) → AreEditsReadOf db s n bytes result) → AreEditsRead db seen name result
edits_read_of db seen name bytes result told each = record { bytes = bytes; told = told; is = each seen name }

-- a database or a query that is too long
pub long_database : (civil : Option CivilText) (seen : ShelfSeen) (name : Identifier) → ((held : List File) → seen.files ≡ Some held → 16777216 < length (content_of held name)) → seen.may_be name ≡ true → 16777216 < seen.given → IsDatabaseRead civil seen name (Err LongDatabase)
long_database civil seen name h named many = let l = long_bytes seen.files name h in record { bytes = l.0; told = l.1; is = (l.2, record { named = named; many = many }) }

pub long_query : (language : QueryLanguage) (relations : List Relation) (seen : ShelfSeen) (name : Identifier) → ((held : List File) → seen.files ≡ Some held → 16777216 < length (content_of held name)) → seen.may_be name ≡ true → 16777216 < seen.given → IsQueryRead language relations seen name (Err LongQuery)
long_query language relations seen name h named many = let l = long_bytes seen.files name h in record { bytes = l.0; told = l.1; is = (l.2, record { named = named; many = many }) }

-- a file that was not read, and want of memory
pub unread_database : (civil : Option CivilText) (seen : ShelfSeen) (name : Identifier) → Rose (seen.faults_before name) (seen.faults name) → IsDatabaseRead civil seen name (Err ReadDatabase)
unread_database civil seen name rose = let b = some_bytes seen.files name in record { bytes = b.0; told = b.1; is = rose }

pub no_memory : (civil : Option CivilText) (seen : ShelfSeen) (name : Identifier) → IsDatabaseRead civil seen name (Err Memory)
no_memory civil seen name = let b = some_bytes seen.files name in record { bytes = b.0; told = b.1; is = tt }

-- the same of a query
pub unread_query : (language : QueryLanguage) (relations : List Relation) (seen : ShelfSeen) (name : Identifier) → Rose (seen.faults_before name) (seen.faults name) → IsQueryRead language relations seen name (Err ReadQuery)
unread_query language relations seen name rose = let b = some_bytes seen.files name in record { bytes = b.0; told = b.1; is = rose }

pub no_query_memory : (language : QueryLanguage) (relations : List Relation) (seen : ShelfSeen) (name : Identifier) → IsQueryRead language relations seen name (Err Memory)
no_query_memory language relations seen name = let b = some_bytes seen.files name in record { bytes = b.0; told = b.1; is = tt }

-- the same of edits
pub long_edits : (db : List Relation) (seen : ShelfSeen) (name : Identifier) → ((held : List File) → seen.files ≡ Some held → 16777216 < length (content_of held name)) → seen.may_be name ≡ true → 16777216 < seen.given → AreEditsRead db seen name (Err (Watch watch.Long))
long_edits db seen name h named many = let l = long_bytes seen.files name h in record { bytes = l.0; told = l.1; is = (l.2, record { named = named; many = many }) }

pub unread_edits : (db : List Relation) (seen : ShelfSeen) (name : Identifier) → Rose (seen.faults_before name) (seen.faults name) → AreEditsRead db seen name (Err (Watch watch.Read))
unread_edits db seen name rose = let b = some_bytes seen.files name in record { bytes = b.0; told = b.1; is = rose }

pub no_edits_memory : (db : List Relation) (seen : ShelfSeen) (name : Identifier) → AreEditsRead db seen name (Err Memory)
no_edits_memory db seen name = let b = some_bytes seen.files name in record { bytes = b.0; told = b.1; is = tt }

-- a file whose given bytes are few is not overrun
pub few_given : {P : Type 0} (seen : ShelfSeen) (name : Identifier) → IsOverrun seen name → seen.given ≤ 16777216 → P
few_given seen name over few = let many : 16777216 < seen.given = over.many in absurd (omega arith)
