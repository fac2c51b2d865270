-- Formulas one after another: gathered, and written out.
use Rattle.std.proofs.Common.{◌≡◌, ◌+◌, ◌<◌, ℕ, suc, cond, arith, List, [], ◌∷◌, ◌++◌, Vec, Box, Global, length, take, get_or, refl, ap, ap₂, sym, ◌∙◌, append_assoc, append-nil}
use Rattle.std.specs.Prelude.{reverse, Result, Ok, Err, IfOk, OnOk}
use Rattle.std.specs.Str.{bytes_eq}
use Rattle.std.proofs.lemmas.List.{take_more, reverse-append, length-reverse}
use Rattle.lrp_model.specs.Texts.{Identifier}
use Rattle.lrp_model.specs.declared.tokens.Place.{Place}
use Rattle.lrp_model.specs.declared.raw.RawFormula.{RawFormula}
use Rattle.lrp_model.specs.RawQueries.{raw_paired, RawForm, RawForms, raw_form_of, raw_forms_of, raw_and, raw_or, raw_implies, raw, no_raws, Operator, operator_at, raw_kind}
use Rattle.lrp_model.specs.declared.raw.RawFormula.{RawFormula}
use Rattle.lrp_model.specs.declared.raw.RawKind.{And, Or, Implies, Paired as PairKind}
use Rattle.lrp_model.specs.declared.raw.Paired.{Paired}
use Rattle.lrp_tense.specs.declared.written_operators.PairOperator.{PairOperator}
use Rattle.lrp_tense.specs.declared.expansion.BegunPair.{BegunPair}
use Rattle.lrp_tense.specs.Expanding.{Naming, Renaming, present_name, operators, operators_each, moment_name, between_name, form_of_pair}
use Rattle.lrp_tense.specs.Named.{naming_of}
use Rattle.lrp_tense.specs.Numbers.{Numbers, next_number, after_one, after_all, expanded_from, each_from}
use Rattle.lrp_tense.specs.Scopes.{ScopeView, inside_variable, past, past_one, past_each, expanded_in, each_in}
use Rattle.lrp_tense.specs.Written.{operator_of, form_inside, pair_of}
use Rattle.lrp_tense.specs.BegunPair.{IsBegun, pair_begun}
use Rattle.lrp_model.proofs.RawViews.{raw_kind-And, raw_kind-Or, raw_kind-Implies, raw_kind-Paired}

-- ---- members of a node

-- an `and` of the expanded members
pub and_node : (f : RawFormula) (v : Vec RawFormula Global) (fs : List RawFormula) (a : ScopeView) → f.kind ≡ And v → fs ≡ v.items → raw_and f.place (each_in a (raw_forms_of fs)) ≡ expanded_in a (raw_form_of f)
and_node f v fs a e i = ap (λ l. raw_and f.place (each_in a (raw_forms_of l))) i ∙ sym (ap (λ k. expanded_in a (raw_kind k f.place)) e ∙ ap (expanded_in a) (raw_kind-And v f.place))

-- an `or` of them
pub or_node : (f : RawFormula) (v : Vec RawFormula Global) (fs : List RawFormula) (a : ScopeView) → f.kind ≡ Or v → fs ≡ v.items → raw_or f.place (each_in a (raw_forms_of fs)) ≡ expanded_in a (raw_form_of f)
or_node f v fs a e i = ap (λ l. raw_or f.place (each_in a (raw_forms_of l))) i ∙ sym (ap (λ k. expanded_in a (raw_kind k f.place)) e ∙ ap (expanded_in a) (raw_kind-Or v f.place))

-- after them
pub and_past : (f : RawFormula) (v : Vec RawFormula Global) (fs : List RawFormula) (a : ScopeView) → f.kind ≡ And v → fs ≡ v.items → past_each a (raw_forms_of fs) ≡ past a (raw_form_of f)
and_past f v fs a e i = ap (λ l. past_each a (raw_forms_of l)) i ∙ sym (ap (λ k. past a (raw_kind k f.place)) e ∙ ap (past a) (raw_kind-And v f.place))

pub or_past : (f : RawFormula) (v : Vec RawFormula Global) (fs : List RawFormula) (a : ScopeView) → f.kind ≡ Or v → fs ≡ v.items → past_each a (raw_forms_of fs) ≡ past a (raw_form_of f)
or_past f v fs a e i = ap (λ l. past_each a (raw_forms_of l)) i ∙ sym (ap (λ k. past a (raw_kind k f.place)) e ∙ ap (past a) (raw_kind-Or v f.place))

-- ---- results

-- what follows from what an Ok says of its value
pub if_ok_then : {A E : Type 0} (r : Result A E) (P Q : A → Type 0) → IfOk r P → ((x : A) → P x → Q x) → IfOk r Q
if_ok_then (Ok x) P Q h f = f x h
if_ok_then (Err x) P Q h f = h

-- what follows from it
pub then_ok : {A E : Type 0} (r : Result A E) (P Q : Type 0) → OnOk r P → (P → Q) → OnOk r Q
then_ok (Ok x) P Q h f = f h
then_ok (Err x) P Q h f = h

-- ---- one more member

raws_joined : RawForms → RawForms → RawForms
raws_joined no_raws gs = gs
raws_joined (raw f fs) gs = raw f (raws_joined fs gs)

raws_append : (fs gs : List RawFormula) → raw_forms_of (fs ++ gs) ≡ raws_joined (raw_forms_of fs) (raw_forms_of gs)
unfolding raws_joined
raws_append [] gs = refl
raws_append (f ∷ fs) gs = ap (raw (raw_form_of f)) (raws_append fs gs)

one_more : (fs : List RawFormula) (i : ℕ) (f : RawFormula) → i < length fs → f ≡ get_or fs i f → raw_forms_of (take (i + 1) fs) ≡ raws_joined (raw_forms_of (take i fs)) (raw (raw_form_of f) no_raws)
one_more fs i f lt is = ap raw_forms_of (take_more fs i f lt ∙ ap (λ x. take i fs ++ x ∷ []) (sym is)) ∙ raws_append (take i fs) (f ∷ [])

operators_join : (fs gs : RawForms) → operators_each (raws_joined fs gs) ≡ operators_each fs ++ operators_each gs
unfolding raws_joined
operators_join no_raws gs = refl
operators_join (raw f fs) gs = ap (λ x. operators f ++ x) (operators_join fs gs) ∙ sym (append_assoc (operators f) (operators_each fs) (operators_each gs))

-- after some operators and then others
pub after_append : (n : Numbers) (xs ys : List Place) → after_all n (xs ++ ys) ≡ after_all (after_all n xs) ys
after_append n [] ys = refl
after_append n (x ∷ xs) ys = after_append (after_one n x) xs ys

-- after the formulas so far, and one more
pub past_step : (fs : List RawFormula) (i : ℕ) (f : RawFormula) (a b c : ScopeView) → i < length fs → f ≡ get_or fs i f → b ≡ past_each a (raw_forms_of (take i fs)) → c ≡ past b (raw_form_of f) → c ≡ past_each a (raw_forms_of (take (i + 1) fs))
past_step fs i f a b c lt is e h =
    let one : operators_each (raw_forms_of (take (i + 1) fs)) ≡ operators_each (raw_forms_of (take i fs)) ++ operators (raw_form_of f) =
    ap operators_each (one_more fs i f lt is) ∙ operators_join (raw_forms_of (take i fs)) (raw (raw_form_of f) no_raws) ∙ ap (λ x. operators_each (raw_forms_of (take i fs)) ++ x) (append-nil (operators (raw_form_of f))) in
    h ∙ ap (λ x. past x (raw_form_of f)) e
    ∙ ap (λ (n : Numbers). record a { numbers = n }) (sym (ap (after_all a.numbers) one ∙ after_append a.numbers (operators_each (raw_forms_of (take i fs))) (operators (raw_form_of f))))

each_join : (fs gs : RawForms) (n : Numbers) (names : Naming) → each_from (raws_joined fs gs) n names ≡ raws_joined (each_from fs n names) (each_from gs (after_all n (operators_each fs)) names)
unfolding raws_joined
each_join no_raws gs n names = refl
each_join (raw f fs) gs n names =
    ap (raw (expanded_from f n names))
    (each_join fs gs (after_all n (operators f)) names ∙ ap (λ m. raws_joined (each_from fs (after_all n (operators f)) names) (each_from gs m names)) (sym (after_append n (operators f) (operators_each fs))))

-- the formulas expanded so far, and one more
pub expand_step : (fs : List RawFormula) (gs hs : List RawFormula) (i : ℕ) (f : RawFormula) (g : RawFormula) (a : ScopeView) → i < length fs → f ≡ get_or fs i f → hs ≡ gs ++ g ∷ []
    → raw_forms_of gs ≡ each_in a (raw_forms_of (take i fs)) → raw_form_of g ≡ expanded_in (past_each a (raw_forms_of (take i fs))) (raw_form_of f) → raw_forms_of hs ≡ each_in a (raw_forms_of (take (i + 1) fs))
expand_step fs gs hs i f g a lt is e h k =
    ap raw_forms_of e ∙ raws_append gs (g ∷ []) ∙ ap₂ (λ x y. raws_joined x (raw y no_raws)) h k
    ∙ sym (ap (each_in a) (one_more fs i f lt is) ∙ each_join (raw_forms_of (take i fs)) (raw (raw_form_of f) no_raws) a.numbers a.names)

-- ---- names

-- the name that is found from the last of some variables on is that of all of them
pub name_step : (vs : List Renaming) (i : ℕ) (v : Renaming) (w : Identifier) → i < length vs → v ≡ get_or vs i v → present_name (naming_of (take (i + 1) vs)) w ≡ cond (bytes_eq v.written w) v.present (present_name (naming_of (take i vs)) w)
name_step vs i v w lt is =
    let one : naming_of (take (i + 1) vs) ≡ v ∷ naming_of (take i vs) =
    ap reverse (take_more vs i v lt ∙ ap (λ x. take i vs ++ x ∷ []) (sym is)) ∙ reverse-append (take i vs) (v ∷ []) in
    ap (λ n. present_name n w) one

-- one variable more inside the others
pub naming_inside : (vs : List Renaming) (v : Renaming) → naming_of (vs ++ v ∷ []) ≡ v ∷ naming_of vs
naming_inside vs v = reverse-append vs (v ∷ [])

-- as many variables as names
pub length-naming_of : (vs : List Renaming) → length (naming_of vs) ≡ length vs
length-naming_of vs = length-reverse vs

-- inside a variable there is one
pub is_inside : (a b : ScopeView) (v n : Identifier) → b ≡ inside_variable a v n → 0 < length b.names
is_inside a b v n e = let one : length b.names ≡ suc (length a.names) = ap (λ c. length c.names) e in omega (arith, one)

-- ---- implications

-- the node of an implication
pub implies_node : (f l r : RawFormula) (left right : Box RawFormula Global) → f.kind ≡ Implies left right → l ≡ left.value → r ≡ right.value
    → raw_implies f.place (raw_form_of l) (raw_form_of r) ≡ raw_form_of f
implies_node f l r left right e el er =
    ap₂ (λ x y. raw_implies f.place (raw_form_of x) (raw_form_of y)) el er ∙ sym (ap (λ k. raw_kind k f.place) e ∙ raw_kind-Implies left right f.place)

-- an implication whose parts are expanded one after the other
pub implies_joined : (s t : ScopeView) (p : Place) (f g : RawForm) (x : RawForm) → t ≡ past s f → x ≡ expanded_in s f → raw_implies p x (expanded_in t g) ≡ expanded_in s (raw_implies p f g)
implies_joined s t p f g x e h = ap₂ (λ y a. raw_implies p y (expanded_in a g)) h e

pub implies_past : (s t u : ScopeView) (p : Place) (f g : RawForm) → t ≡ past s f → u ≡ past t g → u ≡ past s (raw_implies p f g)
implies_past s t u p f g e h = h ∙ ap (λ a. past a g) e ∙ ap (λ (n : Numbers). record s { numbers = n }) (sym (after_append s.numbers (operators f) (operators g)))

-- ---- operators over two formulas

-- its node
pub paired_node : (word : Paired) (f g h : RawFormula) (n : Identifier) (at : Place) (left right : Box RawFormula Global) → f.kind ≡ PairKind word n at left right → g ≡ left.value → h ≡ right.value
    → raw_paired word (operator_at f.place n at) (raw_form_of g) (raw_form_of h) ≡ raw_form_of f
paired_node word f g h n at left right e el er =
    ap₂ (λ x y. raw_paired word (operator_at f.place n at) (raw_form_of x) (raw_form_of y)) el er ∙ sym (ap (λ k. raw_kind k f.place) e ∙ raw_kind-Paired word n at left right f.place)

-- and where the operator is the program's
pub pair_node : (f g h : RawFormula) (p : PairOperator) (n : Identifier) (at : Place) (left right : Box RawFormula Global)
    → operator_of p.at ≡ operator_at f.place n at → f.kind ≡ PairKind p.word n at left right → g ≡ left.value → h ≡ right.value → pair_of p (raw_form_of g) (raw_form_of h) ≡ raw_form_of f
pair_node f g h p n at left right there e el er =
    ap (λ o. raw_paired p.word o (raw_form_of g) (raw_form_of h)) there ∙ paired_node p.word f g h n at left right e el er

-- with the next number it is what the expansion makes of it
pair_next : (word : Paired) (s : ScopeView) (o : Operator) (f g : RawForm)
    → form_of_pair word o (moment_name o.name (next_number s.numbers o.place)) (between_name o.name (next_number s.numbers o.place)) (present_name s.names o.name)
    (expanded_in (inside_variable (past_one s o.place) o.name (between_name o.name (next_number s.numbers o.place))) f) (expanded_in (inside_variable (past (past_one s o.place) f) o.name (moment_name o.name (next_number s.numbers o.place))) g)
    ≡ expanded_in s (raw_paired word o f g)
pair_next word s o f g = refl

-- the second formula expanded too, they are the operator's
pub pair_joined : (s t : ScopeView) (p : PairOperator) (b : BegunPair) (f g : RawForm) → IsBegun s p f b → t ≡ past (past_one s p.at.places.place) f → pair_begun t p b g ≡ expanded_in s (pair_of p f g)
pair_joined s t p b f g h e =
    let n : Identifier = p.at.name.now in
    let form : ScopeView → Identifier → Identifier → RawForm → RawForm =
    λ a m y x. form_of_pair p.word (operator_of p.at) m y (present_name a.names n) x (expanded_in (inside_variable a n m) g) in
    ap (λ a. form a b.moment b.between.name (form_inside b.between)) e
    ∙ ap (λ m. form (past (past_one s p.at.places.place) f) m b.between.name (form_inside b.between)) h.moment
    ∙ ap₂ (λ y x. form (past (past_one s p.at.places.place) f) (moment_name n (next_number s.numbers p.at.places.place)) y x) h.name h.tree
    ∙ pair_next p.word s (operator_of p.at) f g

-- and passed
pair_after : (word : Paired) (s : ScopeView) (o : Operator) (f g : RawForm) → past (past (past_one s o.place) f) g ≡ past s (raw_paired word o f g)
pair_after word s o f g = ap (λ (n : Numbers). record s { numbers = n }) (sym (after_append (after_one s.numbers o.place) (operators f) (operators g)))

pub pair_past : (s t u : ScopeView) (p : PairOperator) (f g : RawForm) → t ≡ past (past_one s p.at.places.place) f → u ≡ past t g → u ≡ past s (pair_of p f g)
pair_past s t u p f g e h = h ∙ ap (λ a. past a g) e ∙ pair_after p.word s (operator_of p.at) f g
