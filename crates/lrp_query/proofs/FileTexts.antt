-- The file of a text, and the fault of one that is none.
use Rattle.std.proofs.Common.{◌≡◌, ◌<◌, inl, inr, ℕ, suc, true, false, List, [], ◌∷◌, refl, ap, ◌∙◌, sym, subst, Ok, Err, Result, IfOk, IfErr, length, arith}
use Rattle.std.specs.Str.{IsUtf8}
use Rattle.lrp_model.specs.declared.tokens.Place.{Place}
use Rattle.lrp_model.specs.declared.tokens.Fault.{Fault as TokenFault}
use Rattle.lrp_model.specs.declared.tokens.Fault.TheVariants.{Syntax as syntax, Number as number, TextTooLong as text_too_long, Period as period, Deep as deep, Memory as memory}
use Rattle.lrp_model.specs.declared.faults.QueryFault.{QueryFault}
use Rattle.lrp_model.specs.declared.faults.QueryRead.{QueryRead}
use Rattle.lrp_model.specs.declared.faults.QueryRead.TheVariants.{Fault, Memory}
use Rattle.lrp_model.specs.declared.faults.QueryKind.{QueryKind}
use Rattle.lrp_model.specs.declared.faults.QueryKind.TheVariants.{Utf8, Syntax, Number, Period, Deep, TextTooLong}
use Rattle.lrp_model.specs.declared.raw.RawFile.{RawFile}
use Rattle.lrp_model.specs.Tokens.{Placed, Tokens, Spells}
use Rattle.lrp_model.specs.Lexing.{tokens_in}
use Rattle.lrp_model.specs.Refused.{IsRefusedTextIn}
use Rattle.lrp_model.specs.Queries.{WrittenFile, file_text, FitsFile}
use Rattle.lrp_model.specs.Queries.Language.{wide}
use Rattle.lrp_model.specs.QueryMeaning.{raw_file}
use Rattle.lrp_model.specs.QueryReading.{IsFile, IsFileFault, FileTexts}
use Rattle.lrp_model.specs.RawQueries.{RawFileView, raw_file_of}
use Rattle.lrp_model.specs.TextFaults.{IsNoTextIn, IsTextFaultIn}
use Rattle.lrp_model.specs.Outcomes.{IsQueryOrMemory, IsFaultOrMemory}
use Rattle.lrp_text.specs.Parsers.{ParseOutcome, Reads}
use Rattle.lrp_text.proofs.Complete.{Answers}
use Rattle.lrp_text.specs.Sources.{Stands}
use Rattle.lrp_text.specs.declared.lexemes.Lexeme.{Lexeme}
use Rattle.lrp_text.proofs.LongestFront.{not_cut}
use Rattle.lrp_query.specs.Reading.{IsFileUnread, refusal_of}
use Rattle.lrp_query.specs.Grammars.{IsTextRead, IsTextUnread, file_in}
use Rattle.lrp_query.proofs.HoleFree.{tokens_clean}
use Rattle.lrp_query.proofs.Ranks.{ok_or_err}
use Rattle.lrp_query.proofs.OneFault.{fault_once}
use Rattle.lrp_query.proofs.FileRules.{file_rule}
use Rattle.lrp_query.proofs.FileRanks.{read_file, lawful_read, file_refused, file_ranked}

-- the program's parser is the one whose cut is a hole
as_read : (n : ℕ) (ts : Tokens) → file_in n ts ≡ read_file n ts
as_read n ts = refl

-- what was read is what the text says
file_read : (bytes : List ℕ) (v : RawFileView) → IsTextRead true file_in bytes v → IsFile bytes v
file_read bytes v t =
    let ts = tokens_in true bytes in
    let n = suc (length ts) in
    let w = (file_rule n).sound ts (v, []) (sym (as_read n ts) ∙ t.reads n (omega arith)) in
    record { tree = w.tree; text = record { utf8 = t.utf8; spelled = w.spelled; lawful = w.fits }; meant = w.means }

-- equal outcomes give one file
one_read : (o : ParseOutcome RawFileView) (a b : RawFileView) → o ≡ Ok (a, []) → o ≡ Ok (b, []) → a ≡ b
one_read o a b e d =
    let h : ◌≡◌ {A = ParseOutcome RawFileView} (Ok (a, [])) (Ok (b, [])) = sym e ∙ d in
    let k : ◌≡◌ {A = RawFileView × Tokens} (a, []) (b, []) = cc in
    ap (λ p. p.0) k

-- a text says one file
pub one_file : (bytes : List ℕ) (f g : RawFileView) → IsFile bytes f → IsFile bytes g → f ≡ g
one_file bytes f g a b =
    let ts = tokens_in true bytes in
    let n = suc (length ts) in
    a.meant ∙ one_read (read_file n ts) (raw_file a.tree) (raw_file b.tree) (lawful_read n a.tree ts [] (omega arith) a.text.lawful a.text.spelled) (lawful_read n b.tree ts [] (omega arith) b.text.lawful b.text.spelled) ∙ sym b.meant

-- whatever tree its tokens spell besides
pub one_said : (tree other : WrittenFile wide) (ts : Tokens) → FitsFile tree → Spells (file_text tree) ts → Spells (file_text other) ts → raw_file tree ≡ raw_file other
one_said tree other ts fits s r =
    let n = suc (length ts) in
    by (read_file n ts) (lawful_read n tree ts [] (omega arith) fits s) ((file_rule n).complete false (raw_file other) ts [] (omega arith) (record { tree = other; means = refl; fits = tt; spelled = r }) tt)
  where
    by : (o : ParseOutcome RawFileView) → o ≡ Ok (raw_file tree, []) → Answers o (raw_file other) [] (false ≡ true) → raw_file tree ≡ raw_file other
    by o e (inl d) = one_read o (raw_file tree) (raw_file other) e d
    by o e (inr d) = absurd (ok_or_err o (raw_file tree, []) d.fault e d.is)

-- a file is refused nowhere
not_refused : (bytes : List ℕ) (f : RawFileView) (k : TokenFault) (p : Place) → IsFile bytes f → IsRefusedTextIn true FileTexts bytes k p → ⊥
not_refused bytes f k p t r = r.refused.first r.tail (t.tree, t.text.lawful, subst (Spells (file_text t.tree)) r.refused.whole t.text.spelled)

-- it has no fault of the bytes or of the grammar
none_of : (bytes : List ℕ) (f : RawFileView) (k : QueryKind) (fault : QueryFault) → IsFile bytes f → IsTextFaultIn true FileTexts bytes k fault → ⊥
none_of bytes f Utf8 fault t r = not_cut bytes fault.place t.text.utf8 r
none_of bytes f Syntax fault t r = not_refused bytes f syntax fault.place t r.refusal
none_of bytes f Number fault t r = not_refused bytes f number fault.place t r.refusal
none_of bytes f Period fault t r = not_refused bytes f period fault.place t r.refusal
none_of bytes f Deep fault t r = not_refused bytes f deep fault.place t r.refusal
none_of bytes f TextTooLong fault t r = not_refused bytes f text_too_long fault.place t r.refusal
none_of bytes f _ fault t r = r

pub no_file_fault : (bytes : List ℕ) (f : RawFileView) (fault : QueryFault) → IsFile bytes f → IsFileFault bytes fault → ⊥
no_file_fault bytes f fault t r = none_of bytes f fault.kind fault t r

-- a text has one fault
pub one_file_fault : (bytes : List ℕ) (f g : QueryFault) → IsFileFault bytes f → IsFileFault bytes g → f ≡ g
one_file_fault = fault_once true FileTexts

-- ---- what a reader answers

-- the text is refused at the token that stands there
refused_there : (bytes : List ℕ) (us : Tokens) (k : TokenFault) (l : Lexeme) (slice : List ℕ) (place : Place) → IsUtf8 bytes → Stands us l slice place → ((n : ℕ) → length (tokens_in true bytes) < n → file_in n (tokens_in true bytes) ≡ Err (k, us)) → IsNoTextIn true FileTexts bytes k place
refused_there bytes us k l slice place utf8 s reads =
    let ts = tokens_in true bytes in
    let bad : Placed = record { token = s.token; place = place } in
    let there : (n : ℕ) → length ts < n → read_file n ts ≡ Err (k, bad ∷ s.left) = λ n lt. sym (as_read n ts) ∙ reads n lt ∙ ap (λ x. Err (k, x)) s.whole in
    let refused = file_refused ts k bad s.left there in
    record {
      refusal = record { utf8 = utf8; bad = bad; tail = s.left; refused = refused; place_is = refl };
      ranked = file_ranked ts refused.front k bad s.left refused.more (tokens_clean true bytes) refused.whole refused.begins refused.cause there;
    }

refused_as : (bytes : List ℕ) (us : Tokens) (k : TokenFault) (l : Lexeme) (slice : List ℕ) (place : Place) → IsUtf8 bytes → Stands us l slice place → ((n : ℕ) → length (tokens_in true bytes) < n → Reads (file_in n (tokens_in true bytes)) (Err k) us) → IsFileUnread bytes (refusal_of k place)
refused_as bytes us memory l slice place utf8 s reads = tt
refused_as bytes us syntax l slice place utf8 s reads = refused_there bytes us syntax l slice place utf8 s reads
refused_as bytes us number l slice place utf8 s reads = refused_there bytes us number l slice place utf8 s reads
refused_as bytes us text_too_long l slice place utf8 s reads = refused_there bytes us text_too_long l slice place utf8 s reads
refused_as bytes us period l slice place utf8 s reads = refused_there bytes us period l slice place utf8 s reads
refused_as bytes us deep l slice place utf8 s reads = refused_there bytes us deep l slice place utf8 s reads

-- and why nothing was read is its fault
file_unread : (bytes : List ℕ) (r : QueryRead) → IsTextUnread true file_in bytes r → IsFileUnread bytes r
file_unread bytes Memory u = tt
file_unread bytes (Fault f) (inl u) = subst (λ k. IsTextFaultIn true FileTexts bytes k f) (sym u.0) u.1
file_unread bytes (Fault f) (inr (k, e, s)) = subst (IsFileUnread bytes) e (refused_as bytes s.left k s.lexeme s.slice f.place s.utf8 s.stands s.stops)

-- what a reader of files answers to bytes
pub record IsFileAnswer (bytes : List ℕ) (r : Result RawFile QueryRead) : Type 0 where
  pub file : IfOk r (λ f. IsFile bytes (raw_file_of f))
  pub refused : IfErr r (IsFileUnread bytes)
  pub every_file : (f : RawFileView) → IsFile bytes f → IsQueryOrMemory raw_file_of f r
  pub every_fault : (fault : QueryFault) → IsFileFault bytes fault → IsFaultOrMemory fault r

-- what was read is what the text says, each text is read, and each other one is refused for its one fault
pub file_answered : (bytes : List ℕ) (r : Result RawFile QueryRead) → IfOk r (λ f. IsTextRead true file_in bytes (raw_file_of f)) → IfErr r (IsTextUnread true file_in bytes) → IsFileAnswer bytes r
file_answered bytes (Ok v) ok err =
    let said = file_read bytes (raw_file_of v) ok in
    record { file = said; refused = err; every_file = λ f t. one_file bytes (raw_file_of v) f said t; every_fault = λ f t. no_file_fault bytes (raw_file_of v) f said t }
file_answered bytes (Err Memory) ok err = record { file = ok; refused = tt; every_file = λ f t. tt; every_fault = λ f t. tt }
file_answered bytes (Err (Fault g)) ok err =
    let unread = file_unread bytes (Fault g) err in
    record { file = ok; refused = unread; every_file = λ f t. no_file_fault bytes f g t unread; every_fault = λ f t. one_file_fault bytes g f unread t }
