-- What stands next, for the step of a lexer.
use Rattle.std.proofs.Common.{◌≡◌, ◌+◌, ℕ, List, ◌∙◌, sym, ap, subst, refl, length, Bool}
use Rattle.lrp_model.specs.declared.tokens.Place.{Place}
use Rattle.lrp_model.specs.Lexing.{Remainder, after, scan_in}
use Rattle.lrp_text.specs.declared.lexemes.Lexeme.{Lexeme}
use Rattle.lrp_text.specs.declared.lexemes.Lexeme.TheVariants.{Bad}
use Rattle.lrp_text.specs.Lexemes.{IsSaid, IsLexeme}
use Rattle.lrp_text.specs.Sources.{next_at, next_of, after_next, IsFoundLexeme}
use Rattle.lrp_text.proofs.Cuts.{scan_place}

-- the place after a slice of what stands next
after_slice : (wide : Bool) (old : Remainder) (at : Place) (slice : List ℕ) → at ≡ (next_at old).place → slice ≡ (next_of wide old).taken → record { line = at.line; column = at.column + length slice } ≡ after (next_at old).place (next_of wide old).taken
after_slice wide old at slice e d =
    let f : Place → List ℕ → Place = λ p s. record { line = p.line; column = p.column + length s } in
    ap (λ p. f p slice) e ∙ ap (f (next_at old).place) d ∙ sym (scan_place wide (next_at old).place (next_at old).bytes)

-- the four facts of what stands next
found_as : (wide : Bool) (old : Remainder) (l : Lexeme) (at : Place) (slice : List ℕ) (new : Remainder) → IsSaid l slice (next_of wide old).token → slice ≡ (next_of wide old).taken → at ≡ (next_at old).place → new ≡ after_next wide old → (l ≡ Bad → ⊥) → IsFoundLexeme wide old l slice at new
found_as wide old Bad at slice new said d e goes not_bad = absurd (not_bad refl)
found_as wide old _ at slice new said d e goes not_bad = (said, d, e, goes)

-- at a bad byte the source stays
pub found_bad : (wide : Bool) (old : Remainder) (text : List ℕ) (l : Lexeme) (at : Place) (slice : List ℕ) → text ≡ (next_at old).bytes → at ≡ (next_at old).place → slice ≡ (scan_in wide text).taken → IsLexeme l (scan_in wide text) → l ≡ Bad → IsFoundLexeme wide old l slice (record { line = at.line; column = at.column + length slice }) old
found_bad wide old text l at slice t e d said is =
    let same : slice ≡ (next_of wide old).taken = d ∙ ap (λ x. (scan_in wide x).taken) t in
    let bad : IsLexeme Bad (next_of wide old) = subst (λ x. IsLexeme Bad (scan_in wide x)) t (subst (λ x. IsLexeme x (scan_in wide text)) is said) in
    subst (λ x. IsFoundLexeme wide old x slice (record { line = at.line; column = at.column + length slice }) old) (sym is)
    (bad, same, after_slice wide old at slice e same, refl)

-- elsewhere it goes on after the slice
pub found_other : (wide : Bool) (old : Remainder) (text : List ℕ) (l : Lexeme) (at : Place) (slice rest : List ℕ) → text ≡ (next_at old).bytes → at ≡ (next_at old).place → slice ≡ (scan_in wide text).taken → rest ≡ (scan_in wide text).left → IsLexeme l (scan_in wide text) → (l ≡ Bad → ⊥) → IsFoundLexeme wide old l slice at (record { place = record { line = at.line; column = at.column + length slice }; bytes = rest })
found_other wide old text l at slice rest t e d r said not_bad =
    let same : slice ≡ (next_of wide old).taken = d ∙ ap (λ x. (scan_in wide x).taken) t in
    let left : rest ≡ (next_of wide old).left = r ∙ ap (λ x. (scan_in wide x).left) t in
    let new : Remainder = record { place = record { line = at.line; column = at.column + length slice }; bytes = rest } in
    let goes : new ≡ after_next wide old = ap (λ p. record { place = p; bytes = rest }) (after_slice wide old at slice e same) ∙ ap (λ b. record { place = after (next_at old).place (next_of wide old).taken; bytes = b }) left in
    let kept : IsLexeme l (next_of wide old) = subst (λ x. IsLexeme l (scan_in wide x)) t said in
    found_as wide old l at slice new (subst (λ x. IsSaid l x (next_of wide old).token) (sym same) kept) same e goes not_bad

-- the same of a flag that is the same
pub sign_kept : (flag wide : Bool) (old : Remainder) (l : Lexeme) (slice : List ℕ) (at : Place) (new : Remainder) → flag ≡ wide → IsFoundLexeme flag old l slice at new → IsFoundLexeme wide old l slice at new
sign_kept flag wide old l slice at new e found = subst (λ w. IsFoundLexeme w old l slice at new) e found
