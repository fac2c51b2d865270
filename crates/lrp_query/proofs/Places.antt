-- The place of a formula of the program, and the same formula at another place.
use Rattle.std.proofs.Common.{◌≡◌, ◌∙◌, List, true, refl, sym, ap}
use Rattle.lrp_model.specs.declared.tokens.Place.{Place}
use Rattle.lrp_model.specs.declared.raw.RawKind.{RawKind, Atom, Compare, Member, Not', And', Or', Implies', Group', Exists', Forall', Ranged', Paired'}
use Rattle.lrp_model.specs.declared.raw.RawFormula.{RawFormula}
use Rattle.lrp_model.specs.RawQueries.{RawForm, raw_kind, raw_form_of, raw_implies, place_of, raw_at}
use Rattle.lrp_query.specs.declared.formulas.Joined.{Joined as JoinedFormula}
use Rattle.lrp_query.specs.Rules.{Joined, bare_list}
use Rattle.lrp_query.specs.Grammars.{joined_of, meant}

pub placed : (k : RawKind) (p : Place) → place_of (raw_kind k p) ≡ p
placed (Atom name terms) p = refl
placed (Compare op left right) p = refl
placed (Member term point) p = refl
placed (Not' m k q) p = refl
placed (And' shape all) p = refl
placed (Or' shape all) p = refl
placed (Implies' m k q n j r) p = refl
placed (Group' m k q) p = refl
placed (Exists' binder m k q) p = refl
placed (Forall' binder m k q) p = refl
placed (Ranged' word name at from to m k q) p = refl
placed (Paired' word name at m k q n j r) p = refl

pub moved_to : (k : RawKind) (p q : Place) → raw_kind k q ≡ raw_at q (raw_kind k p)
moved_to (Atom name terms) p q = refl
moved_to (Compare op left right) p q = refl
moved_to (Member term point) p q = refl
moved_to (Not' m k i) p q = refl
moved_to (And' shape all) p q = refl
moved_to (Or' shape all) p q = refl
moved_to (Implies' m k i n j r) p q = refl
moved_to (Group' m k i) p q = refl
moved_to (Exists' binder m k i) p q = refl
moved_to (Forall' binder m k i) p q = refl
moved_to (Ranged' word name at from to m k i) p q = refl
moved_to (Paired' word name at m k i n j r) p q = refl

-- a list without parentheses stands at its first member
abbrev barely : RawForm → Joined RawForm
barely f = record { formula = f; bare = true }

pub bare_is : (list : Place → List RawForm → RawForm) (first made : RawFormula) (fs : List RawForm) (j : JoinedFormula) → joined_of j ≡ barely (raw_form_of made) → raw_form_of made ≡ list first.place fs → bare_list meant list (raw_form_of first) fs ≡ joined_of j
bare_is list first made fs j e h = ap (λ q. barely (list q fs)) (placed first.kind first.place) ∙ ap barely (sym h) ∙ sym e

-- and so does an implication
pub implied_is : (left : RawFormula) (made right : RawForm) → made ≡ raw_implies left.place (raw_form_of left) right → raw_implies (place_of (raw_form_of left)) (raw_form_of left) right ≡ made
implied_is left made right e = ap (λ q. raw_implies q (raw_form_of left) right) (placed left.kind left.place) ∙ sym e
