-- The longest front of bytes that is UTF-8: bytes that are UTF-8 have no place after it, and others have one.
use Rattle.std.proofs.Common.{◌≡◌, ℕ, List, ap, ◌∙◌, sym, subst, length, take, take_all, arith}
use Rattle.std.proofs.lemmas.Str.{utf8_valid_len-IsValidUpTo}
use Rattle.std.specs.Str.{IsUtf8}
use Rattle.lrp_model.specs.declared.tokens.Place.{Place}
use Rattle.lrp_model.specs.Lexing.{after, start}
use Rattle.lrp_model.specs.DatabaseReading.{IsNoUtf8}

-- bytes that are UTF-8 are cut nowhere
pub not_cut : (bytes : List ℕ) (place : Place) → IsUtf8 bytes → IsNoUtf8 bytes place → ⊥
not_cut bytes place utf8 c = c.longest.longest (length bytes) c.longest.short (subst IsUtf8 (sym (take_all (length bytes) bytes (omega arith))) utf8)

-- others are cut at one place
pub same_cut : (bytes : List ℕ) (p q : Place) → IsNoUtf8 bytes p → IsNoUtf8 bytes q → p ≡ q
same_cut bytes p q a b =
    let e : a.valid ≡ b.valid = sym (utf8_valid_len-IsValidUpTo bytes a.valid a.longest) ∙ utf8_valid_len-IsValidUpTo bytes b.valid b.longest in
    a.place_is ∙ ap (λ n. after start (take n bytes)) e ∙ sym b.place_is
