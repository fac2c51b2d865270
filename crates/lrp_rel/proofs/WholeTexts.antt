-- What a parser of whole texts finds in bytes: a lawful tree, or where they are refused, and never for depth.
use Rattle.std.proofs.Common.{◌≡◌, ◌<◌, ℕ, suc, List, [], ◌∷◌, refl, ap, ◌∙◌, subst, Ok, Err, length, arith}
use Rattle.std.specs.Str.{IsUtf8}
use Rattle.lrp_model.specs.declared.tokens.Place.{Place}
use Rattle.lrp_model.specs.declared.tokens.Fault.{Fault}
use Rattle.lrp_model.specs.declared.tokens.Fault.TheVariants.{Deep}
use Rattle.lrp_model.specs.Tokens.{Placed, Tokens, Part}
use Rattle.lrp_model.specs.Lexing.{tokens}
use Rattle.lrp_model.specs.Refused.{TextOf, IsRefusedAt, IsLawfulText, IsRefusedText}
use Rattle.lrp_text.specs.Parsers.{Parser, Reads}
use Rattle.lrp_text.specs.Sources.{Stands}
use Rattle.lrp_text.specs.declared.lexemes.Lexeme.{Lexeme}
use Rattle.lrp_text.proofs.Sound.{Sound}
use Rattle.lrp_rel.proofs.Shallow.{Shallow}

module _ {A : Type 0} (spell : A → List Part) (Fits : A → Type 0) (parser : ℕ → Parser A) where
  -- a tree that was read is the tree of the text
  pub tree_read : ((n : ℕ) → Sound (parser n) spell Fits) → (bytes : List ℕ) (tree : A) → IsUtf8 bytes → parser (suc (length (tokens bytes))) (tokens bytes) ≡ Ok (tree, []) → IsLawfulText spell Fits bytes tree
  tree_read sound bytes tree utf8 read =
      let k = sound (suc (length (tokens bytes))) (tokens bytes) (tree, []) read in
      record { utf8 = utf8; spelled = k.0; lawful = k.1 }

  -- the text is refused at the token that stands there
  pub refused_there : ((ts : Tokens) (k : Fault) (bad : Placed) (tail : Tokens) → ((n : ℕ) → length ts < n → parser n ts ≡ Err (k, bad ∷ tail)) → IsRefusedAt (TextOf spell Fits) ts k bad tail) → (bytes : List ℕ) (us : Tokens) (k : Fault) (l : Lexeme) (slice : List ℕ) (place : Place) → IsUtf8 bytes → Stands us l slice place → ((n : ℕ) → length (tokens bytes) < n → parser n (tokens bytes) ≡ Err (k, us)) → IsRefusedText (TextOf spell Fits) bytes k place
  refused_there refused bytes us k l slice place utf8 s reads =
      let bad : Placed = record { token = s.token; place = place } in
      record {
        utf8 = utf8;
        bad = bad;
        tail = s.left;
        refused = refused (tokens bytes) k bad s.left (λ n lt. reads n lt ∙ ap (λ x. Err (k, x)) s.whole);
        place_is = refl;
      }

  -- no text is refused for depth
  pub never_deep : ((n : ℕ) → Shallow (parser n)) → (ts us : Tokens) (k : Fault) → ((n : ℕ) → length ts < n → Reads {A = A} (parser n ts) (Err k) us) → k ≡ Deep → ⊥
  never_deep shallow ts us k reads e =
      let P : Fault → Type 0 = λ j. (n : ℕ) → length ts < n → Reads {A = A} (parser n ts) (Err j) us in
      let at_depth = subst P e reads in
      shallow (suc (length ts)) ts us (at_depth (suc (length ts)) (omega arith))
