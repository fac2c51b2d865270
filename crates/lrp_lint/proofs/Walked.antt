-- What is wrong with the nodes of a raw formula, from what is wrong with their members.
use Rattle.std.proofs.Common.{◌≡◌, ℕ, ℤ, ◌+◌, ◌<◌, List, [], ◌∷◌, ◌++◌, Result, Ok, Err, OnOk, Box, Vec, Global, Bor, refl, ap, sym, ◌∙◌, length, take, get_or, map, append_assoc, rules, arith, suc, zero, ◌-◌}
use Rattle.std.specs.Prelude.{flat_map, reverse}
use Rattle.std.proofs.lemmas.List.{take_more, append-nil, map-append, reverse-append}
use Rattle.lrp_model.specs.RawQueries.{RawForm, raw_kind, raw_form_of, raw_forms_of, raw_atom, raw_not, raw_and, raw_or, raw_implies, raw_group, raw_exists, raw_forall}
use Rattle.lrp_model.specs.Sorting.{Binders}
use Rattle.lrp_model.specs.declared.raw.RawColumn.{RawColumn}
use Rattle.lrp_model.specs.declared.raw.RawFormula.{RawFormula}
use Rattle.lrp_model.specs.Texts.{Identifier}
use Rattle.lrp_model.specs.declared.formulas.Op.{Op}
use Rattle.lrp_model.specs.declared.raw.RawKind.{Atom, Compare, Member, Not, Group, And, Or, Implies, Exists, Forall, Ranged as RangedKind, Paired as PairedKind}
use Rattle.lrp_model.specs.declared.raw.Paired.{Paired}
use Rattle.lrp_model.specs.declared.raw.Ranged.{Ranged}
use Rattle.lrp_model.specs.declared.raw.RawTerm.{RawTerm}
use Rattle.lrp_model.specs.declared.relations.RowPoint.{RowPoint}
use Rattle.lrp_model.specs.declared.tokens.Place.{Place}
use Rattle.lrp_model.specs.declared.relations.Relation.{Relation}
use Rattle.lrp_model.proofs.RawViews.{raw_kind-And, raw_kind-Or, raw_kind-Not, raw_kind-Group, raw_kind-Ranged, raw_kind-Paired, raw_kind-Implies, raw_kind-Exists, raw_kind-Forall}
use Rattle.lrp_lint.specs.Known.{binders_in}
use Rattle.lrp_lint.specs.Mentions.{Mention, compare_mentions, mention_findings, mentions, mentions_each}
use Rattle.lrp_lint.specs.declared.flaws.QueryFinding.{QueryFinding}

-- those of two lists of mentions
pub flat_append : {A B : Type 0} (f : A → List B) (xs ys : List A) → flat_map f (xs ++ ys) ≡ flat_map f xs ++ flat_map f ys
flat_append f [] ys = refl
flat_append f (x ∷ xs) ys = ap (λ l. f x ++ l) (flat_append f xs ys) ∙ sym (append_assoc (f x) (flat_map f xs) (flat_map f ys))

-- two findings after one another
pub found_twice : (db : List Relation) (old mid new : List QueryFinding) (ms ns : List Mention) → mid ≡ old ++ flat_map (mention_findings db) ms → new ≡ mid ++ flat_map (mention_findings db) ns → new ≡ old ++ flat_map (mention_findings db) (ms ++ ns)
found_twice db old mid new ms ns m n =
    n ∙ ap (λ l. l ++ flat_map (mention_findings db) ns) m ∙ append_assoc old (flat_map (mention_findings db) ms) (flat_map (mention_findings db) ns)
    ∙ ap (λ l. old ++ l) (sym (flat_append (mention_findings db) ms ns))

-- an atom names what stands in it, within any binders
pub atom_names : (db : List Relation) (f : RawFormula) (n : Identifier) (ts shown : List RawTerm) (bs : Binders) → f.kind ≡ Atom n ts → shown ≡ ts → mentions (raw_atom f.place n shown) db [] ≡ mentions (raw_form_of f) db bs
atom_names db f n ts shown bs e i = ap (λ xs. mentions (raw_atom f.place n xs) db bs) i ∙ ap (λ k. mentions (raw_kind k f.place) db bs) (sym e)

-- a comparison names what stands on both sides
pub compare_names : (db : List Relation) (f : RawFormula) (o : Op) (l r : RawTerm) (bs cs : Binders) → f.kind ≡ Compare o l r → cs ≡ bs → compare_mentions cs l o r ≡ mentions (raw_form_of f) db bs
compare_names db f o l r bs cs e i = ap (λ xs. compare_mentions xs l o r) i ∙ ap (λ k. mentions (raw_kind k f.place) db bs) (sym e)

-- a membership names nothing
pub member_names : (db : List Relation) (f : RawFormula) (t : RawTerm) (point : RowPoint) (bs : Binders) → f.kind ≡ Member t point → [] ≡ mentions (raw_form_of f) db bs
member_names db f t point bs e = ap (λ k. mentions (raw_kind k f.place) db bs) (sym e)

-- a `not` and parentheses name what is in them
pub not_names : (db : List Relation) (f : RawFormula) (b : Box RawFormula Global) (g : RawFormula) (bs : Binders) → f.kind ≡ Not b → g ≡ b.value → mentions (raw_form_of g) db bs ≡ mentions (raw_form_of f) db bs
not_names db f b g bs e i = ap (λ x. mentions (raw_form_of x) db bs) i ∙ ap (λ x. mentions x db bs) (sym (ap (λ k. raw_kind k f.place) e ∙ raw_kind-Not b f.place))

pub group_names : (db : List Relation) (f : RawFormula) (b : Box RawFormula Global) (g : RawFormula) (bs : Binders) → f.kind ≡ Group b → g ≡ b.value → mentions (raw_form_of g) db bs ≡ mentions (raw_form_of f) db bs
group_names db f b g bs e i = ap (λ x. mentions (raw_form_of x) db bs) i ∙ ap (λ x. mentions x db bs) (sym (ap (λ k. raw_kind k f.place) e ∙ raw_kind-Group b f.place))

-- a quantifier names what its formula does, within one binder more
pub exists_names : (db : List Relation) (f : RawFormula) (c : RawColumn) (b : Box RawFormula Global) (g : RawFormula) (bs : Binders) → f.kind ≡ Exists c b → g ≡ b.value → mentions (raw_form_of g) db (c ∷ bs) ≡ mentions (raw_form_of f) db bs
exists_names db f c b g bs e i = ap (λ x. mentions (raw_form_of x) db (c ∷ bs)) i ∙ ap (λ x. mentions x db bs) (sym (ap (λ k. raw_kind k f.place) e ∙ raw_kind-Exists c b f.place))

pub forall_names : (db : List Relation) (f : RawFormula) (c : RawColumn) (b : Box RawFormula Global) (g : RawFormula) (bs : Binders) → f.kind ≡ Forall c b → g ≡ b.value → mentions (raw_form_of g) db (c ∷ bs) ≡ mentions (raw_form_of f) db bs
forall_names db f c b g bs e i = ap (λ x. mentions (raw_form_of x) db (c ∷ bs)) i ∙ ap (λ x. mentions x db bs) (sym (ap (λ k. raw_kind k f.place) e ∙ raw_kind-Forall c b f.place))

-- an operator with an interval names what its formula does
pub ranged_names : (db : List Relation) (f : RawFormula) (word : Ranged) (n : Identifier) (at : Place) (from to : ℤ) (b : Box RawFormula Global) (g : RawFormula) (bs : Binders) → f.kind ≡ RangedKind word n at from to b → g ≡ b.value → mentions (raw_form_of g) db bs ≡ mentions (raw_form_of f) db bs
ranged_names db f word n at from to b g bs e i = ap (λ x. mentions (raw_form_of x) db bs) i ∙ ap (λ x. mentions x db bs) (sym (ap (λ k. raw_kind k f.place) e ∙ raw_kind-Ranged word n at from to b f.place))

-- a formula of two parts names what the first does, and then the second
module _ (db : List Relation) (f : RawFormula) (l r : Box RawFormula Global) (g h : RawFormula) (bs cs : Binders) (old mid new : List QueryFinding)
    (left : g ≡ l.value) (right : h ≡ r.value) (same : cs ≡ bs) (m : mid ≡ old ++ flat_map (mention_findings db) (mentions (raw_form_of g) db bs)) (n : new ≡ mid ++ flat_map (mention_findings db) (mentions (raw_form_of h) db cs)) where
  both_found : mentions (raw_form_of l.value) db bs ++ mentions (raw_form_of r.value) db bs ≡ mentions (raw_form_of f) db bs → new ≡ old ++ flat_map (mention_findings db) (mentions (raw_form_of f) db bs)
  both_found whole =
      found_twice db old mid new (mentions (raw_form_of g) db bs) (mentions (raw_form_of h) db cs) m n
      ∙ ap (λ ms. old ++ flat_map (mention_findings db) ms)
      (ap (λ x. mentions (raw_form_of x) db bs ++ mentions (raw_form_of h) db cs) left
      ∙ ap (λ x. mentions (raw_form_of l.value) db bs ++ mentions (raw_form_of x) db cs) right
      ∙ ap (λ xs. mentions (raw_form_of l.value) db bs ++ mentions (raw_form_of r.value) db xs) same
      ∙ whole)

  pub implies_found : f.kind ≡ Implies l r → new ≡ old ++ flat_map (mention_findings db) (mentions (raw_form_of f) db bs)
  implies_found e = both_found (ap (λ x. mentions x db bs) (sym (ap (λ k. raw_kind k f.place) e ∙ raw_kind-Implies l r f.place)))

  pub paired_found : (word : Paired) (name : Identifier) (at : Place) → f.kind ≡ PairedKind word name at l r → new ≡ old ++ flat_map (mention_findings db) (mentions (raw_form_of f) db bs)
  paired_found word name at e = both_found (ap (λ x. mentions x db bs) (sym (ap (λ k. raw_kind k f.place) e ∙ raw_kind-Paired word name at l r f.place)))

-- an `and` and an `or` name what their members do
pub and_names : (db : List Relation) (f : RawFormula) (v : Vec RawFormula Global) (fs : List RawFormula) (bs : Binders) → f.kind ≡ And v → fs ≡ v.items → mentions_each (raw_forms_of fs) db bs ≡ mentions (raw_form_of f) db bs
and_names db f v fs bs e i = ap (λ fs. mentions_each (raw_forms_of fs) db bs) i ∙ ap (λ g. mentions g db bs) (sym (ap (λ k. raw_kind k f.place) e ∙ raw_kind-And v f.place))

pub or_names : (db : List Relation) (f : RawFormula) (v : Vec RawFormula Global) (fs : List RawFormula) (bs : Binders) → f.kind ≡ Or v → fs ≡ v.items → mentions_each (raw_forms_of fs) db bs ≡ mentions (raw_form_of f) db bs
or_names db f v fs bs e i = ap (λ fs. mentions_each (raw_forms_of fs) db bs) i ∙ ap (λ g. mentions g db bs) (sym (ap (λ k. raw_kind k f.place) e ∙ raw_kind-Or v f.place))

each_append : (db : List Relation) (bs : Binders) (fs gs : List RawFormula) → mentions_each (raw_forms_of (fs ++ gs)) db bs ≡ mentions_each (raw_forms_of fs) db bs ++ mentions_each (raw_forms_of gs) db bs
each_append db bs [] gs = refl
each_append db bs (f ∷ fs) gs = ap (λ l. mentions (raw_form_of f) db bs ++ l) (each_append db bs fs gs) ∙ sym (append_assoc (mentions (raw_form_of f) db bs) (mentions_each (raw_forms_of fs) db bs) (mentions_each (raw_forms_of gs) db bs))

-- one member more
pub one_more : (db : List Relation) (bs : Binders) (fs : List RawFormula) (i : ℕ) (f : RawFormula) → i < length fs → f ≡ get_or fs i f
    → mentions_each (raw_forms_of (take i fs)) db bs ++ mentions (raw_form_of f) db bs ≡ mentions_each (raw_forms_of (take (i + 1) fs)) db bs
one_more db bs fs i f lt is =
    ap (λ l. mentions_each (raw_forms_of (take i fs)) db bs ++ l) (sym (append-nil (mentions (raw_form_of f) db bs)))
    ∙ sym (each_append db bs (take i fs) (f ∷ []))
    ∙ ap (λ x. mentions_each (raw_forms_of (take i fs ++ x ∷ [])) db bs) is
    ∙ ap (λ l. mentions_each (raw_forms_of l) db bs) (sym (take_more fs i f lt))

-- ---- binders

-- one binder further in
pub one_in : (bs : List (Bor RawColumn)) (b : Bor RawColumn) → binders_in (bs ++ b ∷ []) ≡ b.now ∷ binders_in bs
one_in bs b = ap reverse (map-append (λ (x : Bor RawColumn). x.now) bs (b ∷ [])) ∙ reverse-append (map (λ (x : Bor RawColumn). x.now) bs) (b.now ∷ [])

-- the innermost one, and those around it
pub innermost : (bs outer : List (Bor RawColumn)) (b : Bor RawColumn) → bs ≡ outer ++ b ∷ [] → binders_in bs ≡ b.now ∷ binders_in outer
innermost bs outer b e = ap binders_in e ∙ one_in outer b

-- what follows from what an Ok says
pub then_ok : {A E : Type 0} (r : Result A E) (P Q : Type 0) → OnOk r P → (P → Q) → OnOk r Q
then_ok (Ok x) P Q h f = f h
then_ok (Err x) P Q h f = h

-- ---- the stack of binders

front_of : {A : Type 0} (xs ys : List A) → take (length xs) (xs ++ ys) ≡ xs
front_of [] ys = refl
front_of (x ∷ xs) ys = ap (λ l. x ∷ l) (front_of xs ys)

one_longer : {A : Type 0} (xs : List A) (x : A) → length (xs ++ x ∷ []) ≡ suc (length xs)
one_longer [] x = refl
one_longer (y ∷ xs) x = ap suc (one_longer xs x)

-- without its last element it is what it was before
pub popped : {A : Type 0} (old mid new : List A) (x : A) (n : ℕ) → mid ≡ old ++ x ∷ [] → n ≡ length mid → new ≡ take (n - 1) mid → new ≡ old
popped old mid new x n m c r =
    let long : length (old ++ x ∷ []) ≡ suc (length old) = one_longer old x in
    let count : n - 1 ≡ length old = by n (length mid) (length (old ++ x ∷ [])) (length old) c (ap length m) long in
    r ∙ ap (λ k. take k mid) count ∙ ap (take (length old)) m ∙ front_of old (x ∷ [])
  where
    by : (n a b k : ℕ) → n ≡ a → a ≡ b → b ≡ suc k → n - 1 ≡ k
    by n a b k p q r = omega (arith, p, q, r)
