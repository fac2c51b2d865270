-- Definitions before a query, one at a time.
use Rattle.std.proofs.Common.{◌≡◌, ◌<◌, ℕ, zero, suc, List, [], ◌∷◌, ◌++◌, true, false, length, map, refl, sym, ap, ◌∙◌, arith, Ok, Err}
use Rattle.lrp_model.specs.declared.raw.RawDefinition.{RawDefinition}
use Rattle.lrp_model.specs.Queries.{define_word}
use Rattle.lrp_model.specs.RawQueries.{raw_definition_of}
use Rattle.lrp_model.specs.Tokens.{Tokens}
use Rattle.lrp_model.specs.declared.tokens.Fault.{Fault}
use Rattle.lrp_text.specs.Parsers.{ParseOutcome, Reads, look}
use Rattle.lrp_text.specs.Taking.{is_token_named}
use Rattle.lrp_text.proofs.Turns.{lifts}
use Rattle.lrp_query.specs.Rules.{Trees, WideAfterName, Definition, definition_with, definitions_from}
use Rattle.lrp_query.specs.Grammars.{raw_definition_read, read_definition_of}

module _ {K T F Q : Type 0} (make : Trees K T F Q) (after : WideAfterName F) (turns : ℕ) (found : List (Definition F)) (ts : Tokens) where
  -- no other one begins
  pub definitions_end : (n k : ℕ) → k < n → look false (is_token_named define_word) ts ≡ Ok (false, ts) → definitions_from make after n turns found ts ≡ Ok (found, ts)
  unfolding definitions_from
  definitions_end zero k lt e = absurd (omega (arith, lt))
  definitions_end (suc n) k lt e = rw e refl

  -- one more is read
  pub definitions_go : (n k : ℕ) (us : Tokens) (d : Definition F) → k < n → look false (is_token_named define_word) ts ≡ Ok (true, ts) → definition_with make after turns ts ≡ Ok (d, us) → length us < k → (m : ℕ) × (length us < m) × (definitions_from make after n turns found ts ≡ definitions_from make after m turns (found ++ d ∷ []) us)
  unfolding definitions_from
  definitions_go zero k us d lt e r s = absurd (omega (arith, lt))
  definitions_go (suc n) k us d lt e r s = (n, omega (arith, lt, s), rw (e, r) refl)

  one_fails : (n : ℕ) (us : Tokens) (k : Fault) → look false (is_token_named define_word) ts ≡ Ok (true, ts) → definition_with make after turns ts ≡ Err (k, us) → definitions_from make after (suc n) turns found ts ≡ Err (k, us)
  unfolding definitions_from
  one_fails n us k e r = rw (e, r) refl

  -- one that fails
  pub definitions_fail : (n k : ℕ) (us : Tokens) (result : ParseOutcome (List (Definition F))) (fault : Fault) → k < n → look false (is_token_named define_word) ts ≡ Ok (true, ts) → Reads (definition_with make after turns ts) (Err fault) us → definitions_from make after n turns found ts ≡ result → Reads result (Err fault) us
  definitions_fail zero k us result fault lt e r w = absurd (omega (arith, lt))
  definitions_fail (suc n) k us result fault lt e r w = lifts (definition_with make after turns ts) result us fault (λ kind d. sym w ∙ one_fails n us kind e d) r

-- definitions that were read say what those of the program do
pub definitions_seen : (ds : List RawDefinition) → map raw_definition_read (map read_definition_of ds) ≡ map raw_definition_of ds
definitions_seen [] = refl
definitions_seen (d ∷ ds) = ap (λ rest. raw_definition_of d ∷ rest) (definitions_seen ds)
