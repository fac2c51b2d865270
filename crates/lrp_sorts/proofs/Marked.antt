-- The first bytes of names.
use Rattle.std.proofs.Common.{◌≡◌, ℕ, Bool, true, false, not, cond, List, [], length, map, position, Option, Some, None, refl, ap, sym, ◌∙◌, arith}
use Rattle.std.specs.List.{list_any}
use Rattle.std.specs.Option.{is_some}
use Rattle.std.specs.Str.{bytes_eq}
use Rattle.lrp_model.specs.Faults.{is_named_in}
use Rattle.lrp_model.specs.Texts.{Identifier}
use Rattle.lrp_sorts.specs.Definitions.{AreMarked, Defined, definition_number, is_marked}
use Rattle.lrp_sorts.proofs.Firsts.{among, is_placed, names_taken}
use Rattle.lrp_sorts.proofs.Numbered.{nothing}

-- a name whose first byte isn't marked is none of them
pub unmarked_none : (marks : List Bool) (names : List Identifier) (n : Identifier) → AreMarked marks names → is_marked marks n ≡ false → position (bytes_eq n) names ≡ None
unmarked_none marks names n h f = by (position (bytes_eq n) names) refl
  where
    by : (o : Option ℕ) → position (bytes_eq n) names ≡ o → position (bytes_eq n) names ≡ None
    by None e = e
    by (Some i) e =
        let there : list_any (bytes_eq n) names ≡ true = sym (is_placed (bytes_eq n) names) ∙ ap is_some e in
        let marked : is_marked marks n ≡ true = h.each n there in
        absurd (grind (arith, marked, f))

-- so it differs from each of them
pub unmarked_apart : (marks : List Bool) (names : List Identifier) (n : Identifier) → AreMarked marks names → is_marked marks n ≡ false → true ≡ not (is_named_in names n)
unmarked_apart marks names n h f = by (is_named_in names n) refl
  where
    by : (b : Bool) → is_named_in names n ≡ b → true ≡ not (is_named_in names n)
    by false e = sym (ap not e)
    by true e =
        let marked : is_marked marks n ≡ true = h.each n e in
        absurd (grind (arith, marked, f))

-- none is, where there are no names
pub none_marked : (marks : List Bool) → length marks ≡ 256 → AreMarked marks []
none_marked marks size = record { size = size; each = λ n e. absurd cc }

-- what has no number among all definitions has none among the first
pub unnumbered : (d : Defined) (before : ℕ) (n : Identifier) → position (bytes_eq n) (map (λ r. r.name) d.definitions) ≡ None → None ≡ definition_number d before n
unnumbered d before n e =
    let named : Bool = is_named_in (map (λ r. r.name) d.relations) n in
    nothing named ∙ ap (cond named None) (sym (names_taken (λ r. r.name) d.definitions before n ∙ ap (among before) e))
