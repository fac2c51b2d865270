-- Writing out operators changes no `*`, and no term into one.
use Rattle.std.proofs.Common.{◌≡◌, ◌≢◌, ℕ, suc, Bool, true, false, cond, List, [], ◌∷◌, ◌++◌, map, refl, ap, sym, ◌∙◌, arith}
use Rattle.std.specs.Prelude.{if◌then◌else◌}
use Rattle.std.specs.Str.{bytes_eq}
use Rattle.std.specs.Fmt.{decimal}
use Rattle.std.specs.Cmp.Lexicographic.{bytes_decides}
use Rattle.lrp_model.specs.Texts.{Identifier}
use Rattle.lrp_model.specs.QueryMeaning.{star_name}
use Rattle.lrp_model.specs.RawQueries.{Operator}
use Rattle.lrp_model.specs.declared.tokens.Place.{Place}
use Rattle.lrp_model.specs.declared.relations.Column.{Column}
use Rattle.lrp_model.specs.declared.raw.RawTerm.{RawTerm}
use Rattle.lrp_model.specs.declared.raw.RawTermKind.{RawTermKind}
use Rattle.lrp_model.specs.declared.raw.RawTermKind.TheVariants.{Int, Text, Var, Shifted}
use Rattle.lrp_tense.specs.Expanding.{Naming, between_name, between_of, moment_name, moment_of, present_name, renamed, renamed_kind, renamed_to}
use Rattle.lrp_wide.specs.Meaning.{is_star, is_star_kind}
use Rattle.lrp_wide.specs.Inlining.{star_total}
use Rattle.lrp_wide.specs.Sizes.{KeepsStar, compared_total, is_compared, is_compared_kind}

-- two names that differ are not one by their bytes
apart : (m n : Identifier) (b : Bool) → bytes_eq m n ≡ b → m ≢ n → b ≡ false
apart m n true e differ = absurd (differ ((bytes_decides m n).0 e))
apart m n false e differ = refl

-- one variable more that keeps its name, and one that gets a name which is no `*`
pub keeps_own : (names : Naming) (v : Identifier) → KeepsStar names → KeepsStar (renamed_to v v ∷ names)
keeps_own names v k w = by (bytes_eq v w) refl
  where
    by : (b : Bool) → bytes_eq v w ≡ b → bytes_eq (cond b v (present_name names w)) star_name ≡ bytes_eq w star_name
    by true e = ap (λ x. bytes_eq x star_name) ((bytes_decides v w).0 e)
    by false e = k w

pub keeps_new : (names : Naming) (v n : Identifier) → v ≢ star_name → n ≢ star_name → KeepsStar names → KeepsStar (renamed_to v n ∷ names)
keeps_new names v n other new k w = by (bytes_eq v w) refl
  where
    by : (b : Bool) → bytes_eq v w ≡ b → bytes_eq (cond b n (present_name names w)) star_name ≡ bytes_eq w star_name
    by true e =
        apart n star_name (bytes_eq n star_name) refl new
        ∙ sym (ap (λ x. bytes_eq x star_name) (sym ((bytes_decides v w).0 e)) ∙ apart v star_name (bytes_eq v star_name) refl other)
    by false e = k w

pub keeps_none : KeepsStar []
keeps_none v = refl

-- a name with a `~` is no `*`
with_tilde : (v rest : Identifier) → v ++ 126 ∷ rest ≢ star_name
with_tilde [] rest e = grind (arith, e)
with_tilde (b ∷ []) rest e = grind (arith, e)
with_tilde (b ∷ c ∷ v) rest e = grind (arith, e)

pub moment_differs : (number : Place → ℕ) (o : Operator) → moment_of number o ≢ star_name
moment_differs number o = with_tilde o.name (decimal (number o.place))

pub between_differs : (number : Place → ℕ) (o : Operator) → between_of number o ≢ star_name
between_differs number o = with_tilde o.name (decimal (number o.place) ++ 126 ∷ [])

-- the terms of an atom
kept_star : (names : Naming) (k : RawTermKind) → KeepsStar names → is_star_kind (renamed_kind names k) ≡ is_star_kind k
kept_star names (Int x) h = refl
kept_star names (Text t) h = refl
kept_star names (Var v) h = h v
kept_star names (Shifted v plus) h = refl

kept_compared : (names : Naming) (k : RawTermKind) → is_compared_kind (renamed_kind names k) ≡ is_compared_kind k
kept_compared names (Int x) = refl
kept_compared names (Text t) = refl
kept_compared names (Var v) = refl
kept_compared names (Shifted v plus) = refl

one_total : (a b : Bool) (m n : ℕ) → a ≡ b → m ≡ n → (if a then suc m else m) ≡ (if b then suc n else n)
one_total true true m n e h = ap suc h
one_total false false m n e h = h
one_total true false m n e h = absurd (grind (arith, e))
one_total false true m n e h = absurd (grind (arith, e))

pub stars_kept : (names : Naming) (cs : List Column) (ts : List RawTerm) → KeepsStar names → star_total cs (map (renamed names) ts) ≡ star_total cs ts
stars_kept names [] ts h = refl
stars_kept names (c ∷ cs) [] h = refl
stars_kept names (c ∷ cs) (t ∷ ts) h = one_total (is_star (renamed names t)) (is_star t) (star_total cs (map (renamed names) ts)) (star_total cs ts) (kept_star names t.kind h) (stars_kept names cs ts h)

pub compared_kept : (names : Naming) (cs : List Column) (ts : List RawTerm) → compared_total cs (map (renamed names) ts) ≡ compared_total cs ts
compared_kept names [] ts = refl
compared_kept names (c ∷ cs) [] = refl
compared_kept names (c ∷ cs) (t ∷ ts) =
    one_total (is_compared (renamed names t)) (is_compared t) (compared_total cs (map (renamed names) ts)) (compared_total cs ts) (kept_compared names t.kind) (compared_kept names cs ts)
