-- The columns of a quantifier's names, one name at a time.
use Rattle.std.proofs.Common.{◌≡◌, ◌∙◌, ◌+◌, ◌<◌, ℕ, List, [], ◌∷◌, ◌++◌, map, take, get_or, length, refl, sym, ap}
use Rattle.std.proofs.lemmas.List.{map_push, take_more}
use Rattle.lrp_model.specs.declared.relations.Sort.{Sort}
use Rattle.lrp_model.specs.declared.raw.RawColumn.{RawColumn}
use Rattle.lrp_model.specs.declared.tokens.Place.{Place}
use Rattle.lrp_query.specs.declared.binders.PlacedName.{PlacedName}
use Rattle.lrp_query.specs.Rules.{column_at}
use Rattle.lrp_query.specs.Grammars.{name_and_place}

abbrev pub columns_at : Sort × Place → List PlacedName → List RawColumn
columns_at s names = map (column_at s) (map name_and_place names)

pub one_more : (s : Sort × Place) (names : List PlacedName) (i : ℕ) (one : PlacedName) (made more : List RawColumn) (column : RawColumn) → i < length names → one ≡ get_or names i one → made ≡ columns_at s (take i names) → more ≡ made ++ column ∷ [] → column ≡ column_at s (name_and_place one) → more ≡ columns_at s (take (i + 1) names)
one_more s names i one made more column lt is e m k =
    let longer : take (i + 1) names ≡ take i names ++ one ∷ [] = take_more names i one lt ∙ ap (λ x. take i names ++ x ∷ []) (sym is) in
    let grown : columns_at s (take (i + 1) names) ≡ columns_at s (take i names) ++ column_at s (name_and_place one) ∷ [] =
    ap (map (column_at s)) (ap (map name_and_place) longer ∙ map_push name_and_place (take i names) one) ∙ map_push (column_at s) (map name_and_place (take i names)) (name_and_place one) in
    m ∙ ap (λ xs. xs ++ column ∷ []) e ∙ ap (λ x. columns_at s (take i names) ++ x ∷ []) k ∙ sym grown
