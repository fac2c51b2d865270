-- What a formula implies in turn, one `implies` at a time.
use Rattle.std.proofs.Common.{◌≡◌, ◌≤◌, ◌<◌, ◌-◌, ℕ, zero, suc, true, false, length, refl, arith, Ok, Err}
use Rattle.std.proofs.lemmas.Bool.{ne_eqb}
use Rattle.lrp_model.specs.Queries.{Language}
use Rattle.lrp_model.specs.RawQueries.{RawForm}
use Rattle.lrp_model.specs.Tokens.{Tokens}
use Rattle.lrp_model.specs.declared.tokens.Fault.{Fault}
use Rattle.lrp_model.specs.declared.tokens.Fault.TheVariants.{Syntax}
use Rattle.lrp_model.specs.declared.tokens.Word.TheVariants.{Implies}
use Rattle.lrp_text.specs.Parsers.{Parser, Reads, eat, look}
use Rattle.lrp_text.specs.Taking.{is_word}
use Rattle.lrp_text.proofs.Turns.{lifts}
use Rattle.lrp_query.specs.Rules.{Trees, Joined, both, chained, either, is_hole_token, too_deep}
use Rattle.lrp_query.specs.Grammars.{formula_in, formulas_in, meant}
use Rattle.lrp_query.proofs.Started.{cut_in}

module _ {K T F Q : Type 0} (make : Trees K T F Q) (inner : ℕ → Parser F) (depth : ℕ) (x : F) (ts : Tokens) where
  -- what it implies fails
  pub chain_unread : (more : ℕ) (us : Tokens) (k : Fault) → length ts < more → ((m : ℕ) → length ts ≤ m → Reads (either make (inner depth) m ts) (Err k) us) → Reads (chained make inner depth more x ts) (Err k) us
  unfolding chained
  chain_unread zero us k lt h = absurd (omega (arith, lt))
  chain_unread (suc m) us k lt h = lifts (either make (inner depth) m ts) (chained make inner depth (suc m) x ts) us k (λ j e. rw e refl) (h m (omega (arith, lt)))

  -- no other `implies` follows
  pub chain_ends : (depth ≡ 0 → ⊥) → (more : ℕ) (us vs : Tokens) (j : Joined F) → length ts < more → ((m : ℕ) → length ts ≤ m → either make (inner depth) m ts ≡ Ok (j, us)) → eat (is_word Implies) us ≡ Ok (false, vs) → chained make inner depth more x ts ≡ Ok (make.formulas.implication (make.formulas.place_of x) x j.formula, vs)
  unfolding chained
  chain_ends some zero us vs j lt h e = absurd (omega (arith, lt))
  chain_ends some (suc m) us vs j lt h e = rw (h m (omega (arith, lt)), ne_eqb depth 0 some, e) refl

  -- another one follows, and after it a formula
  pub chain_goes : (depth ≡ 0 → ⊥) → (more : ℕ) (us vs ws : Tokens) (j : Joined F) (g : F) → length ts < more → ((m : ℕ) → length ts ≤ m → either make (inner depth) m ts ≡ Ok (j, us)) → eat (is_word Implies) us ≡ Ok (true, vs) → length vs < length ts → ((m : ℕ) → length vs < m → chained make inner (depth - 1) m j.formula vs ≡ Ok (g, ws)) → chained make inner depth more x ts ≡ Ok (make.formulas.implication (make.formulas.place_of x) x g, ws)
  unfolding chained
  chain_goes some zero us vs ws j g lt h e s r = absurd (omega (arith, lt))
  chain_goes some (suc m) us vs ws j g lt h e s r = rw (h m (omega (arith, lt)), ne_eqb depth 0 some, e, r m (omega (arith, lt, s))) refl

  -- or none
  pub chain_fails : (depth ≡ 0 → ⊥) → (more : ℕ) (us vs ws : Tokens) (j : Joined F) (k : Fault) → length ts < more → ((m : ℕ) → length ts ≤ m → either make (inner depth) m ts ≡ Ok (j, us)) → eat (is_word Implies) us ≡ Ok (true, vs) → length vs < length ts → ((m : ℕ) → length vs < m → Reads (chained make inner (depth - 1) m j.formula vs) (Err k) ws) → Reads (chained make inner depth more x ts) (Err k) ws
  unfolding chained
  chain_fails some zero us vs ws j k lt h e s r = absurd (omega (arith, lt))
  chain_fails some (suc m) us vs ws j k lt h e s r = lifts (chained make inner (depth - 1) m j.formula vs) (chained make inner depth (suc m) x ts) ws k (λ i d. rw (h m (omega (arith, lt)), ne_eqb depth 0 some, e, d) refl) (r m (omega (arith, lt, s)))

-- at depth 0 each token is refused
pub chain_cut : (l : Language) (depth turns more : ℕ) (x : RawForm) (ts : Tokens) (k : Fault) → length ts < more → depth ≡ 0 → look Syntax (λ t. too_deep t.token) ts ≡ Ok (k, ts) → look false (λ t. is_hole_token t.token) ts ≡ Ok (false, ts) → Reads (chained meant (formulas_in l turns) depth more x ts) (Err k) ts
unfolding either both
chain_cut l depth turns more x ts k lt z e n = chain_unread meant (formulas_in l turns) depth x ts more ts k lt (λ m low. lifts (formula_in l depth turns ts) (either meant (formulas_in l turns depth) m ts) ts k (λ j d. rw d refl) (cut_in l depth turns ts k z e n))
