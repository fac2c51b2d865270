-- The query of a text of a grammar, and the fault of one that is none.
use Rattle.std.proofs.Common.{◌≡◌, ◌<◌, inl, inr, ℕ, suc, false, List, [], ◌∷◌, refl, ap, ◌∙◌, sym, subst, Ok, Err, Result, IfOk, IfErr, length, arith}
use Rattle.std.specs.Str.{IsUtf8}
use Rattle.lrp_model.specs.declared.tokens.Place.{Place}
use Rattle.lrp_model.specs.declared.tokens.Fault.{Fault as TokenFault}
use Rattle.lrp_model.specs.declared.tokens.Fault.TheVariants.{Syntax as syntax, Number as number, TextTooLong as text_too_long, Period as period, Deep as deep, Memory as memory}
use Rattle.lrp_model.specs.declared.faults.QueryFault.{QueryFault}
use Rattle.lrp_model.specs.declared.faults.QueryRead.{QueryRead}
use Rattle.lrp_model.specs.declared.faults.QueryRead.TheVariants.{Fault, Memory}
use Rattle.lrp_model.specs.declared.faults.QueryKind.{QueryKind}
use Rattle.lrp_model.specs.declared.faults.QueryKind.TheVariants.{Utf8, Syntax, Number, Period, Deep, UnknownRelation, Arity, Sort, Unbound, Rebound, Wide, TextTooLong, UnknownSort, Defined}
use Rattle.lrp_model.specs.Tokens.{Placed, Tokens}
use Rattle.lrp_model.specs.Lexing.{tokens}
use Rattle.lrp_model.specs.Refused.{TextOf, IsLawfulText, IsTextSaying}
use Rattle.lrp_text.specs.Parsers.{ParseOutcome, Parser, Reads}
use Rattle.lrp_text.specs.Sources.{Stands}
use Rattle.lrp_text.specs.declared.lexemes.Lexeme.{Lexeme}
use Rattle.lrp_text.proofs.LongestFront.{not_cut}
use Rattle.lrp_text.proofs.OneFault.{not_refused}
use Rattle.lrp_query.specs.Rules.{query_with}
use Rattle.lrp_model.specs.TextFaults.{Grammatical, IsNoTextOf, IsTextFault, IsTextFaultOf}
use Rattle.lrp_model.specs.Outcomes.{IsQueryOrMemory, IsFaultOrMemory}
use Rattle.lrp_query.specs.Reading.{IsUnreadOf, refusal_of}
use Rattle.lrp_query.specs.Grammars.{IsTextRead, IsTextUnread}
use Rattle.lrp_query.proofs.Layers.{Grammar, trees}
use Rattle.lrp_query.proofs.Readers.{Reader}
use Rattle.lrp_query.proofs.Natural.{mapped}
use Rattle.lrp_query.proofs.QueryRules.{query_text, query_sound, query_refused, one_tree}
use Rattle.lrp_query.proofs.HoleFree.{tokens_clean}
use Rattle.lrp_query.proofs.OneFault.{fault_once}
use Rattle.lrp_query.proofs.Ranks.{ranked}

-- an outcome with another value
mapped_ok : {A B : Type 0} (h : A → B) (o : ParseOutcome A) (b : B) (us : Tokens) → mapped h o ≡ Ok (b, us) → (a : A) × (o ≡ Ok (a, us)) × (b ≡ h a)
mapped_ok {A} {B} h (Ok q) b us e =
    let k : ◌≡◌ {A = B × Tokens} (h q.0, q.1) (b, us) = cc in
    (q.0, ap (λ x. Ok (q.0, x)) (ap (λ p. p.1) k), sym (ap (λ p. p.0) k))
mapped_ok h (Err x) b us e = absurd cc

-- a fault is the same
mapped_err : {A B : Type 0} (h : A → B) (o : ParseOutcome A) (e : TokenFault × Tokens) → mapped h o ≡ Err e → o ≡ Err e
mapped_err h (Ok q) e d = absurd cc
mapped_err h (Err x) e d = let k : x ≡ e = cc in ap Err k

-- what a reader of a grammar answers to bytes, of which its texts say this
pub record IsReaderAnswer {R V : Type 0} (Texts : Grammatical) (bytes : List ℕ) (Says : R → Type 0) (seen : V → R) (r : Result V QueryRead) : Type 0 where
  pub query : IfOk r (λ v. Says (seen v))
  pub refused : IfErr r (IsUnreadOf Texts bytes)
  pub every_query : (q : R) → Says q → IsQueryOrMemory seen q r
  pub every_fault : (f : QueryFault) → IsTextFault Texts bytes f → IsFaultOrMemory f r

module _ {F X Q : Type 0} (grammar : Grammar F X Q) where
  -- the texts of the grammar
  abbrev Texts : Grammatical
  Texts = TextOf (query_text grammar) grammar.FitsQuery

  -- a lawful tree that the tokens of the bytes spell
  abbrev pub IsTextOf : List ℕ → Q → Type 0
  IsTextOf = IsLawfulText (query_text grammar) grammar.FitsQuery

  -- a text of the grammar has no fault of the bytes or of the grammar
  no_fault : (bytes : List ℕ) (tree : Q) (k : QueryKind) (f : QueryFault) → IsTextOf bytes tree → IsTextFaultOf Texts bytes k f → ⊥
  no_fault bytes tree Utf8 f t r = not_cut bytes f.place t.utf8 r
  no_fault bytes tree Syntax f t r = not_refused (query_text grammar) grammar.FitsQuery bytes tree syntax f.place t r.refusal
  no_fault bytes tree Number f t r = not_refused (query_text grammar) grammar.FitsQuery bytes tree number f.place t r.refusal
  no_fault bytes tree Period f t r = not_refused (query_text grammar) grammar.FitsQuery bytes tree period f.place t r.refusal
  no_fault bytes tree Deep f t r = not_refused (query_text grammar) grammar.FitsQuery bytes tree deep f.place t r.refusal
  no_fault bytes tree TextTooLong f t r = not_refused (query_text grammar) grammar.FitsQuery bytes tree text_too_long f.place t r.refusal
  no_fault bytes tree UnknownRelation f t r = r
  no_fault bytes tree Arity f t r = r
  no_fault bytes tree Sort f t r = r
  no_fault bytes tree Unbound f t r = r
  no_fault bytes tree Rebound f t r = r
  no_fault bytes tree Wide f t r = r
  no_fault bytes tree UnknownSort f t r = r
  no_fault bytes tree Defined f t r = r

  -- a reader that gives what the trees mean
  module _ (reader : Reader grammar) {R : Type 0} (h : Q → R) (read : ℕ → Parser R) (meant : (n : ℕ) (ts : Tokens) → read n ts ≡ mapped h (query_with (trees grammar) reader.after n ts)) where
    -- what the bytes say
    abbrev pub Says : List ℕ → R → Type 0
    Says = IsTextSaying (query_text grammar) grammar.FitsQuery h

    -- what was read is what the text says
    query_read : (bytes : List ℕ) (r : R) → IsTextRead false read bytes r → Says bytes r
    query_read bytes r t =
        let ts = tokens bytes in
        let n = suc (length ts) in
        let w = mapped_ok h (query_with (trees grammar) reader.after n ts) r [] (sym (meant n ts) ∙ t.reads n (omega arith)) in
        let k = query_sound grammar reader.after reader.rules n ts (w.0, []) w.1 in
        record { tree = w.0; text = record { utf8 = t.utf8; spelled = k.0; lawful = k.1 }; meant = w.2 }

    -- a text says one query
    pub one_said : (bytes : List ℕ) (q r : R) → Says bytes q → Says bytes r → q ≡ r
    one_said bytes q r a b = a.meant ∙ ap h (one_tree grammar reader.after reader.rules a.tree b.tree (tokens bytes) a.text.lawful a.text.spelled b.text.spelled) ∙ sym b.meant

    -- and has no fault of the bytes or of the grammar
    pub none_said : (bytes : List ℕ) (q : R) (f : QueryFault) → Says bytes q → IsTextFault Texts bytes f → ⊥
    none_said bytes q f t r = no_fault bytes t.tree f.kind f t.text r

    -- the text is refused at the token that stands there
    refused_there : (bytes : List ℕ) (us : Tokens) (k : TokenFault) (l : Lexeme) (slice : List ℕ) (place : Place) → IsUtf8 bytes → Stands us l slice place → ((n : ℕ) → length (tokens bytes) < n → read n (tokens bytes) ≡ Err (k, us)) → IsNoTextOf Texts bytes k place
    refused_there bytes us k l slice place utf8 s reads =
        let ts = tokens bytes in
        let bad : Placed = record { token = s.token; place = place } in
        let written_reads : (n : ℕ) → length ts < n → query_with (trees grammar) reader.after n ts ≡ Err (k, bad ∷ s.left) = λ n lt. mapped_err h (query_with (trees grammar) reader.after n ts) (k, bad ∷ s.left) (sym (meant n ts) ∙ reads n lt ∙ ap (λ x. Err (k, x)) s.whole) in
        let refused = query_refused grammar reader.after reader.rules reader.local ts k bad s.left written_reads in
        record {
          refusal = record { utf8 = utf8; bad = bad; tail = s.left; refused = refused; place_is = refl };
          ranked = ranked grammar reader ts refused.front k bad s.left refused.more (tokens_clean false bytes) refused.whole refused.begins refused.cause written_reads;
        }

    -- what was met while a text was read is its fault
    refused_as : (bytes : List ℕ) (us : Tokens) (k : TokenFault) (l : Lexeme) (slice : List ℕ) (place : Place) → IsUtf8 bytes → Stands us l slice place → ((n : ℕ) → length (tokens bytes) < n → Reads (read n (tokens bytes)) (Err k) us) → IsUnreadOf Texts bytes (refusal_of k place)
    refused_as bytes us memory l slice place utf8 s reads = tt
    refused_as bytes us syntax l slice place utf8 s reads = refused_there bytes us syntax l slice place utf8 s reads
    refused_as bytes us number l slice place utf8 s reads = refused_there bytes us number l slice place utf8 s reads
    refused_as bytes us text_too_long l slice place utf8 s reads = refused_there bytes us text_too_long l slice place utf8 s reads
    refused_as bytes us period l slice place utf8 s reads = refused_there bytes us period l slice place utf8 s reads
    refused_as bytes us deep l slice place utf8 s reads = refused_there bytes us deep l slice place utf8 s reads

    -- and why nothing was read is its fault
    text_unread : (bytes : List ℕ) (r : QueryRead) → IsTextUnread false read bytes r → IsUnreadOf Texts bytes r
    text_unread bytes Memory u = tt
    text_unread bytes (Fault f) (inl u) = subst (λ k. IsTextFaultOf Texts bytes k f) (sym u.0) u.1
    text_unread bytes (Fault f) (inr (k, e, s)) = subst (IsUnreadOf Texts bytes) e (refused_as bytes s.left k s.lexeme s.slice f.place s.utf8 s.stands s.stops)

    -- what was read is what the text says, each text is read, and each other one is refused for its one fault
    pub answered : {V : Type 0} (seen : V → R) (bytes : List ℕ) (r : Result V QueryRead) → IfOk r (λ v. IsTextRead false read bytes (seen v)) → IfErr r (IsTextUnread false read bytes) → IsReaderAnswer Texts bytes (Says bytes) seen r
    answered seen bytes (Ok v) ok err =
        let said = query_read bytes (seen v) ok in
        record { query = said; refused = err; every_query = λ q t. one_said bytes (seen v) q said t; every_fault = λ f t. none_said bytes (seen v) f said t }
    answered seen bytes (Err Memory) ok err = record { query = ok; refused = tt; every_query = λ q t. tt; every_fault = λ f t. tt }
    answered seen bytes (Err (Fault g)) ok err =
        let unread = text_unread bytes (Fault g) err in
        record { query = ok; refused = unread; every_query = λ q t. none_said bytes q g t unread; every_fault = λ f t. fault_once false Texts bytes g f unread t }
