-- The tree of a text, and the fault of one that has none, each at most once.
use Rattle.std.proofs.Common.{◌≡◌, ◌<◌, ℕ, suc, List, [], subst, Err, length, arith}
use Rattle.std.specs.Str.{IsUtf8}
use Rattle.lrp_model.specs.declared.tokens.Place.{Place}
use Rattle.lrp_model.specs.declared.tokens.Fault.{Fault as TokenFault}
use Rattle.lrp_model.specs.declared.tokens.Fault.TheVariants.{Syntax as syntax, Number as number, TextTooLong as text_too_long, Period as period, Deep, Memory as memory}
use Rattle.lrp_model.specs.declared.faults.DbFault.{DbFault}
use Rattle.lrp_model.specs.declared.faults.DbKind.{DbKind}
use Rattle.lrp_model.specs.declared.faults.DbKind.TheVariants.{Utf8, Syntax, Number, Period, TextTooLong, Name, Arity, Sort, Column, Wide, UnknownRelation}
use Rattle.lrp_model.specs.declared.written.RawRelation.{RawRelation}
use Rattle.lrp_model.specs.Tokens.{Tokens}
use Rattle.lrp_model.specs.Lexing.{tokens}
use Rattle.lrp_model.specs.Databases.{database_text, FitsDatabase}
use Rattle.lrp_model.specs.DatabaseReading.{IsDatabaseText, IsNoDatabaseText}
use Rattle.lrp_text.specs.Parsers.{Reads}
use Rattle.lrp_text.specs.Sources.{Stands}
use Rattle.lrp_text.specs.declared.lexemes.Lexeme.{Lexeme}
use Rattle.lrp_rel.specs.Rules.{database}
use Rattle.lrp_text.proofs.LongestFront.{not_cut}
use Rattle.lrp_text.proofs.OneFault.{not_refused}
use Rattle.lrp_rel.specs.declared.gathering.Gathered.{Gathered}
use Rattle.lrp_rel.specs.Gathered.{IsReadInto, AreRelationsGathered}
use Rattle.lrp_rel.specs.Reading.{IsDatabaseTextFaultOf, IsUnreadDatabase, IsGatheredFrom, database_refusal}
use Rattle.lrp_rel.proofs.DatabaseRules.{database_sound, database_refused}
use Rattle.lrp_rel.proofs.Shallow.{database_shallow}
use Rattle.lrp_rel.proofs.WholeTexts.{tree_read, never_deep as parser_never_deep, refused_there as parser_refused_there}

-- what was gathered is what the text says
gathered_read : (bytes : List ℕ) (g : Gathered) → IsUtf8 bytes → ((n : ℕ) → length (tokens bytes) < n → IsReadInto AreRelationsGathered (database n (tokens bytes)) g []) → IsGatheredFrom bytes g
gathered_read bytes g utf8 reads =
    let one = reads (suc (length (tokens bytes))) (omega arith) in
    record { tree = one.value; text = tree_read database_text FitsDatabase database database_sound bytes one.value utf8 one.read; are = one.stands }

-- the same of tokens that are those of the bytes
pub text_gathered : (bytes : List ℕ) (ts : Tokens) (g : Gathered) → ts ≡ tokens bytes → IsUtf8 bytes → ((n : ℕ) → length ts < n → IsReadInto AreRelationsGathered (database n ts) g []) → IsGatheredFrom bytes g
text_gathered bytes ts g e utf8 reads =
    let P : Tokens → Type 0 = λ xs. (n : ℕ) → length xs < n → IsReadInto AreRelationsGathered (database n xs) g [] in
    gathered_read bytes g utf8 (subst P e reads)

-- no text is refused for depth
pub never_deep : (ts us : Tokens) (k : TokenFault) → ((n : ℕ) → length ts < n → Reads {A = List RawRelation} (database n ts) (Err k) us) → k ≡ Deep → ⊥
never_deep = parser_never_deep database_text FitsDatabase database database_shallow

-- the text is refused at the token that stands there
refused_there : (bytes : List ℕ) (us : Tokens) (k : TokenFault) (l : Lexeme) (slice : List ℕ) (place : Place) → IsUtf8 bytes → Stands us l slice place → ((n : ℕ) → length (tokens bytes) < n → database n (tokens bytes) ≡ Err (k, us)) → IsNoDatabaseText bytes k place
refused_there = parser_refused_there database_text FitsDatabase database database_refused

-- what was met while a text was read is its fault
refused_as : (bytes : List ℕ) (us : Tokens) (k : TokenFault) (l : Lexeme) (slice : List ℕ) (place : Place) → IsUtf8 bytes → Stands us l slice place → ((n : ℕ) → length (tokens bytes) < n → Reads {A = List RawRelation} (database n (tokens bytes)) (Err k) us) → IsUnreadDatabase bytes (database_refusal k place)
refused_as bytes us memory l slice place utf8 s reads = tt
refused_as bytes us Deep l slice place utf8 s reads = tt
refused_as bytes us syntax l slice place utf8 s reads = refused_there bytes us syntax l slice place utf8 s reads
refused_as bytes us number l slice place utf8 s reads = refused_there bytes us number l slice place utf8 s reads
refused_as bytes us text_too_long l slice place utf8 s reads = refused_there bytes us text_too_long l slice place utf8 s reads
refused_as bytes us period l slice place utf8 s reads = refused_there bytes us period l slice place utf8 s reads

-- the same of tokens that are those of the bytes
pub text_refused : (bytes : List ℕ) (ts us : Tokens) (k : TokenFault) (l : Lexeme) (slice : List ℕ) (place : Place) → ts ≡ tokens bytes → IsUtf8 bytes → Stands us l slice place → ((n : ℕ) → length ts < n → Reads {A = List RawRelation} (database n ts) (Err k) us) → IsUnreadDatabase bytes (database_refusal k place)
text_refused bytes ts us k l slice place e utf8 s reads =
    let P : Tokens → Type 0 = λ xs. (n : ℕ) → length xs < n → Reads {A = List RawRelation} (database n xs) (Err k) us in
    refused_as bytes us k l slice place utf8 s (subst P e reads)

-- a text of the grammar has no fault of the bytes or of the grammar
pub no_fault : (bytes : List ℕ) (tree : List RawRelation) (k : DbKind) (f : DbFault) → IsDatabaseText bytes tree → IsDatabaseTextFaultOf bytes k f → ⊥
no_fault bytes tree Utf8 f t r = not_cut bytes f.place t.utf8 r
no_fault bytes tree Syntax f t r = not_refused database_text FitsDatabase bytes tree syntax f.place t r
no_fault bytes tree Number f t r = not_refused database_text FitsDatabase bytes tree number f.place t r
no_fault bytes tree TextTooLong f t r = not_refused database_text FitsDatabase bytes tree text_too_long f.place t r
no_fault bytes tree Period f t r = not_refused database_text FitsDatabase bytes tree period f.place t r
no_fault bytes tree Name f t r = r
no_fault bytes tree Arity f t r = r
no_fault bytes tree Sort f t r = r
no_fault bytes tree Column f t r = r
no_fault bytes tree Wide f t r = r
no_fault bytes tree UnknownRelation f t r = r
