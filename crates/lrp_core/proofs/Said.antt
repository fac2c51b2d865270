-- What terms say, one term more.
use Rattle.std.proofs.Common.{◌≡◌, ℕ, ◌+◌, ◌<◌, List, [], ◌∷◌, ◌++◌, map, ap, sym, ◌∙◌, length, take, get_or}
use Rattle.std.proofs.lemmas.List.{take_more, map-append}
use Rattle.lrp_model.specs.RawTerms.{said_term}
use Rattle.lrp_model.specs.declared.raw.RawTerm.{RawTerm}

pub said_more : (ts : List RawTerm) (i : ℕ) (t : RawTerm) → i < length ts → t ≡ get_or ts i t → map said_term (take (i + 1) ts) ≡ map said_term (take i ts) ++ said_term t ∷ []
said_more ts i t lt is = ap (map said_term) (take_more ts i t lt ∙ ap (λ x. take i ts ++ x ∷ []) (sym is)) ∙ map-append said_term (take i ts) (t ∷ [])
