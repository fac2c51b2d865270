-- No hole stands in a tree that tokens without holes spell.
use Rattle.std.proofs.Common.{◌≡◌, false, List, [], ◌∷◌, ◌++◌, subst}
use Rattle.std.specs.List.{AllByRecursion}
use Rattle.lrp_model.specs.declared.tokens.Symbol.TheVariants.{Close, CloseBrace, Comma, Bar}
use Rattle.lrp_model.specs.declared.tokens.Word.{Word}
use Rattle.lrp_model.specs.declared.tokens.Word.TheVariants.{And, Or, Implies}
use Rattle.lrp_model.specs.Tokens.{Tokens, Part, Takes, separated}
use Rattle.lrp_model.specs.Tokens.Token.{symbol_token, word_token, end_token}
use Rattle.lrp_model.specs.Tokens.Part.{at, any}
use Rattle.lrp_model.specs.Columns.{column_text}
use Rattle.lrp_model.specs.Databases.{comma}
use Rattle.lrp_model.specs.Queries.{Language, WrittenFormula, FurtherMembers, WrittenQuery, formula_text, members_text, interval_text, names_text, query_text}
use Rattle.lrp_model.specs.Queries.WrittenFormula.{atom_formula, compared, member, denied, all_of, any_of, implied, group, some, every, ranged, paired, differing, several, bare_all, bare_any, bare_chain, chain, hole}
use Rattle.lrp_model.specs.Queries.FurtherMembers.{last, more}
use Rattle.lrp_text.proofs.NameTokens.{all_front, all_after}
use Rattle.lrp_query.specs.Rules.{is_hole_token}
use Rattle.lrp_query.proofs.Marks.{NoHoles}

-- no hole stands in the formula
abbrev mutual
  pub Whole : {l : Language} → WrittenFormula l → Type 0
  Whole (atom_formula p n ts) = Unit {0}
  Whole (compared l op r) = Unit {0}
  Whole (member t i k) = Unit {0}
  Whole (denied p f) = Whole f
  Whole (all_of p f fs) = Whole f × Wholes fs
  Whole (any_of p f fs) = Whole f × Wholes fs
  Whole (implied p f g) = Whole f × Whole g
  Whole (group p f) = Whole f
  Whole (some p c f) = Whole f
  Whole (every p c f) = Whole f
  Whole (ranged t word o a b f) = Whole f
  Whole (paired t word o f g) = Whole f × Whole g
  Whole (differing t l r) = Unit {0}
  Whole (several t q p ns c f) = Whole f
  Whole (bare_all t f fs) = Whole f × Wholes fs
  Whole (bare_any t f fs) = Whole f × Wholes fs
  Whole (bare_chain t f fs) = Whole f × Wholes fs
  Whole (chain t p f g fs) = Whole f × Whole g × Wholes fs
  Whole (hole p) = ⊥

  pub Wholes : {l : Language} → FurtherMembers l → Type 0
  Wholes (last f) = Whole f
  Wholes (more f fs) = Whole f × Wholes fs

-- a part is no hole
abbrev pub CleanPart : Part → Type 0
CleanPart (at p k) = is_hole_token k ≡ false
CleanPart (any k) = is_hole_token k ≡ false

-- parts that such tokens spell are none
pub clean_parts : (ps : List Part) (ts left : Tokens) → Takes ps ts left → NoHoles ts → AllByRecursion CleanPart ps
clean_parts [] ts left h c = tt
clean_parts (p ∷ ps) [] left h c = absurd h
clean_parts (at p k ∷ ps) (t ∷ ts) left h c = (subst (λ x. is_hole_token x ≡ false) h.0.0 c.0, clean_parts ps ts left h.1 c.1)
clean_parts (any k ∷ ps) (t ∷ ts) left h c = (subst (λ x. is_hole_token x ≡ false) h.0 c.0, clean_parts ps ts left h.1 c.1)

-- those of the first list, and of the second one
module _ (P : Part → Type 0) where
  pub front_of : (xs ys : List Part) → AllByRecursion P (xs ++ ys) → AllByRecursion P xs
  front_of = all_front P

  pub back_of : (xs ys : List Part) → AllByRecursion P (xs ++ ys) → AllByRecursion P ys
  back_of = all_after P

abbrev pub closing : List Part
closing = any (symbol_token Close) ∷ []

mutual
  pub whole : {l : Language} (w : WrittenFormula l) → AllByRecursion CleanPart (formula_text w) → Whole w
  whole (atom_formula p n ts) c = tt
  whole (compared l op r) c = tt
  whole (member t i k) c = tt
  whole (denied p f) c = whole f c.1
  whole (all_of p f fs) c = (whole f (front_of CleanPart (formula_text f) (members_text And fs ++ closing) c.1), wholes And fs (front_of CleanPart (members_text And fs) closing (back_of CleanPart (formula_text f) (members_text And fs ++ closing) c.1)))
  whole (any_of p f fs) c = (whole f (front_of CleanPart (formula_text f) (members_text Or fs ++ closing) c.1), wholes Or fs (front_of CleanPart (members_text Or fs) closing (back_of CleanPart (formula_text f) (members_text Or fs ++ closing) c.1)))
  whole (implied p f g) c =
      let rest : List Part = any (word_token Implies) ∷ (formula_text g ++ closing) in
      (whole f (front_of CleanPart (formula_text f) rest c.1), whole g (front_of CleanPart (formula_text g) closing (back_of CleanPart (formula_text f) rest c.1).1))
  whole (group p f) c = whole f (front_of CleanPart (formula_text f) closing c.1)
  whole (some p b f) c = whole f (back_of CleanPart (column_text b) (formula_text f) c.1)
  whole (every p b f) c = whole f (back_of CleanPart (column_text b) (formula_text f) c.1)
  whole (ranged t word o a b f) c = whole f (back_of CleanPart (interval_text a b) (formula_text f) c.1.1.1)
  whole (paired t word o f g) c =
      let rest : List Part = any (symbol_token Comma) ∷ (formula_text g ++ closing) in
      (whole f (front_of CleanPart (formula_text f) rest c.1.1.1), whole g (front_of CleanPart (formula_text g) closing (back_of CleanPart (formula_text f) rest c.1.1.1).1))
  whole (differing t l r) c = tt
  whole (several t q p ns b f) c = whole f (back_of CleanPart (column_text b) (formula_text f) (back_of CleanPart (names_text (ns.first ∷ ns.others)) (column_text b ++ formula_text f) c.1))
  whole (bare_all t f fs) c = (whole f (front_of CleanPart (formula_text f) (members_text And fs) c), wholes And fs (back_of CleanPart (formula_text f) (members_text And fs) c))
  whole (bare_any t f fs) c = (whole f (front_of CleanPart (formula_text f) (members_text Or fs) c), wholes Or fs (back_of CleanPart (formula_text f) (members_text Or fs) c))
  whole (bare_chain t f fs) c = (whole f (front_of CleanPart (formula_text f) (members_text Implies fs) c), wholes Implies fs (back_of CleanPart (formula_text f) (members_text Implies fs) c))
  whole (chain t p f g fs) c =
      let further : List Part = members_text Implies fs ++ closing in
      let rest : List Part = any (word_token Implies) ∷ (formula_text g ++ further) in
      let after = (back_of CleanPart (formula_text f) rest c.1).1 in
      (whole f (front_of CleanPart (formula_text f) rest c.1), whole g (front_of CleanPart (formula_text g) further after), wholes Implies fs (front_of CleanPart (members_text Implies fs) closing (back_of CleanPart (formula_text g) further after)))
  whole (hole p) c = cc

  pub wholes : {l : Language} (w : Word) (fs : FurtherMembers l) → AllByRecursion CleanPart (members_text w fs) → Wholes fs
  wholes w (last f) c = whole f c.1
  wholes w (more f fs) c = (whole f (front_of CleanPart (formula_text f) (members_text w fs) c.1), wholes w fs (back_of CleanPart (formula_text f) (members_text w fs) c.1))

-- ---- queries

-- what stands after the head
abbrev pub after_head : {l : Language} → WrittenFormula l → List Part
after_head f = any (symbol_token Bar) ∷ (formula_text f ++ any (symbol_token CloseBrace) ∷ any end_token ∷ [])

abbrev pub ends_query : List Part
ends_query = any (symbol_token CloseBrace) ∷ any end_token ∷ []

-- what holds of each part of a query holds of those of its body
pub body_parts : {l : Language} (P : Part → Type 0) (t : WrittenQuery l) → AllByRecursion P (query_text t) → AllByRecursion P (formula_text t.body)
body_parts P t h = front_of P (formula_text t.body) ends_query (back_of P (separated comma column_text t.head) (after_head t.body) h.1).1

-- the tokens that spell the body have no holes
pub whole_body : {l : Language} (t : WrittenQuery l) (ts : Tokens) → Takes (query_text t) ts [] → NoHoles ts → Whole t.body
whole_body t ts h c = whole t.body (body_parts CleanPart t (clean_parts (query_text t) ts [] h c))
