-- The constants of a database, a query and edits, where those of the database stand once.
use Rattle.std.proofs.Common.{◌≡◌, ◌++◌, List, Result, Ok, Err, sym, ap, append_assoc, ◌∙◌}
use Rattle.std.specs.Prelude.{IfOk}
use Rattle.std.proofs.lemmas.List.{map-append}
use Rattle.lrp_model.specs.Texts.{Text, in_order}
use Rattle.lrp_model.specs.declared.relations.Sort.{Sort}
use Rattle.lrp_database.specs.Once.{once, texts_among}
use Rattle.lrp_database.proofs.OnceLaws.{once_in_order}

pub constants_made : {E : Type 0} (r : Result (List Text) E) (all : List Text) (xs ys : List (Sort × Text)) (zs : List Text) → all ≡ (once (texts_among xs) ++ texts_among ys) ++ zs → IfOk r (λ made. made ≡ in_order all)
    → IfOk r (λ made. made ≡ in_order (texts_among (xs ++ ys) ++ zs))
constants_made (Ok made) all xs ys zs e m =
    m ∙ ap in_order (e ∙ append_assoc (once (texts_among xs)) (texts_among ys) zs) ∙ once_in_order (texts_among xs) (texts_among ys ++ zs)
    ∙ ap in_order (sym (append_assoc (texts_among xs) (texts_among ys) zs) ∙ ap (λ ts. ts ++ zs) (sym (map-append (λ entry. entry.1) xs ys)))
constants_made (Err x) all xs ys zs e m = tt
