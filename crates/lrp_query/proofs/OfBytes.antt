-- What is read of the tokens of bytes is read of the bytes.
use Rattle.std.proofs.Common.{◌≡◌, ◌<◌, inl, inr, ℕ, Bool, List, [], length, take, refl, sym, subst, Ok, Err}
use Rattle.std.specs.Str.{IsUtf8, IsValidUpTo}
use Rattle.lrp_model.specs.declared.tokens.Place.{Place}
use Rattle.lrp_model.specs.declared.tokens.Fault.{Fault as TokenFault}
use Rattle.lrp_model.specs.declared.tokens.Fault.TheVariants.{Syntax as syntax, Number as number, TextTooLong as text_too_long, Period as period, Deep as deep, Memory as memory}
use Rattle.lrp_model.specs.Tokens.{Tokens}
use Rattle.lrp_model.specs.declared.faults.QueryRead.{QueryRead}
use Rattle.lrp_model.specs.declared.faults.QueryRead.TheVariants.{Fault}
use Rattle.lrp_model.specs.declared.faults.QueryKind.TheVariants.{Utf8}
use Rattle.lrp_model.specs.Lexing.{after, start, tokens_in}
use Rattle.lrp_text.specs.Parsers.{Parser, Reads}
use Rattle.lrp_text.specs.Sources.{Stands}
use Rattle.lrp_text.specs.declared.lexemes.Lexeme.{Lexeme}
use Rattle.lrp_query.specs.Reading.{refusal_of}
use Rattle.lrp_query.specs.Grammars.{IsTextRead, IsTextStopped, IsTextUnread}

module _ {Q : Type 0} (wide : Bool) (parser : ℕ → Parser Q) (bytes : List ℕ) where
  pub as_read : (ts : Tokens) (q : Q) → ts ≡ tokens_in wide bytes → IsUtf8 bytes → ((turns : ℕ) → length ts < turns → parser turns ts ≡ Ok (q, [])) → IsTextRead wide parser bytes q
  as_read ts q e utf8 reads =
      let P : Tokens → Type 0 = λ xs. (turns : ℕ) → length xs < turns → parser turns xs ≡ Ok (q, []) in
      record { utf8 = utf8; reads = subst P e reads }

  stopped : (k : TokenFault) (place : Place) → IsTextStopped wide parser bytes k place → IsTextUnread wide parser bytes (refusal_of k place)
  stopped memory place s = tt
  stopped syntax place s = inr (syntax, refl, s)
  stopped number place s = inr (number, refl, s)
  stopped text_too_long place s = inr (text_too_long, refl, s)
  stopped period place s = inr (period, refl, s)
  stopped deep place s = inr (deep, refl, s)

  pub as_stopped : (ts left : Tokens) (k : TokenFault) (lexeme : Lexeme) (slice : List ℕ) (place : Place) → ts ≡ tokens_in wide bytes → IsUtf8 bytes → Stands left lexeme slice place → ((turns : ℕ) → length ts < turns → Reads (parser turns ts) (Err k) left) → IsTextUnread wide parser bytes (refusal_of k place)
  as_stopped ts left k lexeme slice place e utf8 stands stops =
      let P : Tokens → Type 0 = λ xs. (turns : ℕ) → length xs < turns → Reads (parser turns xs) (Err k) left in
      stopped k place (record { utf8 = utf8; left = left; lexeme = lexeme; slice = slice; stands = stands; stops = subst P e stops })

  pub as_no_utf8 : (valid : ℕ) (r : QueryRead) → IsValidUpTo bytes valid → r ≡ Fault (record { kind = Utf8; place = after start (take valid bytes) }) → IsTextUnread wide parser bytes r
  as_no_utf8 valid r longest e = subst (IsTextUnread wide parser bytes) (sym e) (inl (refl, record { valid = valid; longest = longest; place_is = refl }))
