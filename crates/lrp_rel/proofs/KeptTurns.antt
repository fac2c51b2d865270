-- A repetition of which a reader keeps something else than its members, one turn at a time.
use Rattle.std.proofs.Common.{◌≡◌, ◌<◌, ℕ, Bool, true, false, List, [], ◌∷◌, ◌++◌, refl, ◌∙◌, sym, Ok, Err, length}
use Rattle.lrp_model.specs.declared.tokens.Fault.{Fault}
use Rattle.lrp_model.specs.Tokens.{Placed, Tokens}
use Rattle.lrp_text.specs.Parsers.{Parser, look, until_from, Reads}
use Rattle.lrp_text.proofs.Turns.{ends_below, goes_below, fails_below}
use Rattle.lrp_rel.specs.Gathered.{IsReadInto}

-- what is kept stands for the members found so far, and the rule goes on from these as it began
pub record KeptTurn {A B : Type 0} (p : Parser A) (stop : Placed → Bool) (Stands : List A → B → Type 0) (turns : ℕ) (whole ts : Tokens) (kept : B) : Type 0 where
  pub n : ℕ
  pub found : List A
  pub room : length ts < n
  pub same : until_from p stop n found ts ≡ until_from p stop turns [] whole
  pub stands : Stands found kept

-- before the first turn
pub turn_starts : {A B : Type 0} (p : Parser A) (stop : Placed → Bool) (Stands : List A → B → Type 0) (turns : ℕ) (whole : Tokens) (kept : B) → length whole < turns → Stands [] kept → KeptTurn p stop Stands turns whole whole kept
turn_starts p stop Stands turns whole kept lt h = record { n = turns; found = []; room = lt; same = refl; stands = h }

-- the token that ends the repetition comes next
pub turn_ends : {A B : Type 0} (p : Parser A) (stop : Placed → Bool) (Stands : List A → B → Type 0) (turns : ℕ) (whole ts : Tokens) (kept : B) → KeptTurn p stop Stands turns whole ts kept → look false stop ts ≡ Ok (true, ts) → IsReadInto Stands (until_from p stop turns [] whole) kept ts
turn_ends p stop Stands turns whole ts kept t e = record { value = t.found; read = sym t.same ∙ ends_below p stop t.n (length ts) t.found ts t.room e; stands = t.stands }

-- a member comes next
pub turn_goes : {A B : Type 0} (p : Parser A) (stop : Placed → Bool) (Stands : List A → B → Type 0) (turns : ℕ) (whole ts us : Tokens) (kept more : B) (a : A) → KeptTurn p stop Stands turns whole ts kept → look false stop ts ≡ Ok (false, ts) → p ts ≡ Ok (a, us) → length us < length ts → ((found : List A) → Stands found kept → Stands (found ++ a ∷ []) more) → KeptTurn p stop Stands turns whole us more
turn_goes p stop Stands turns whole ts us kept more a t e d s step =
    let next = goes_below p stop t.n (length ts) t.found ts us a t.room e d s in
    record { n = next.0; found = t.found ++ a ∷ []; room = next.1; same = sym next.2 ∙ t.same; stands = step t.found t.stands }

-- a member that fails
pub turn_fails : {A B : Type 0} (p : Parser A) (stop : Placed → Bool) (Stands : List A → B → Type 0) (turns : ℕ) (whole ts us : Tokens) (kept : B) (k : Fault) → KeptTurn p stop Stands turns whole ts kept → look false stop ts ≡ Ok (false, ts) → Reads (p ts) (Err k) us → Reads (until_from p stop turns [] whole) (Err k) us
turn_fails p stop Stands turns whole ts us kept k t e d = fails_below p stop t.n (length ts) t.found ts us (until_from p stop turns [] whole) k t.room e d t.same
