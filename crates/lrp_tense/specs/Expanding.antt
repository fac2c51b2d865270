-- The query without operators that stands for one with them: each operator is written out by quantifiers over time, whose variables have names that no text spells.
use Rattle.std.specs.Prelude.{◌≢◌, ◌==◌, ◌||◌, ◌&&◌, nat_lt, ℕ, ℤ, suc, Bool, cond, List, [], ◌∷◌, ◌++◌, map, length, filter}
use Rattle.std.specs.List.{AllByRecursion}
use Rattle.std.specs.Str.{bytes_eq}
use Rattle.std.specs.Fmt.{decimal}
use Rattle.lrp_model.specs.Texts.{Identifier}
use Rattle.lrp_model.specs.RawQueries.{RawForm, RawForms, RawQuestion, raw_atom, raw_compare, raw_member, raw_not, raw_and, raw_or, raw_implies, raw_group, raw_exists, raw_forall, no_raws, raw, Operator, raw_ranged, raw_paired}
use Rattle.lrp_model.specs.declared.tokens.Place.{Place}
use Rattle.lrp_model.specs.declared.relations.Sort.TheVariants.{Time}
use Rattle.lrp_model.specs.declared.formulas.Op.{Op}
use Rattle.lrp_model.specs.declared.formulas.Op.TheVariants.{Le, Lt, Ge, Gt}
use Rattle.lrp_model.specs.declared.raw.Ranged.{Ranged}
use Rattle.lrp_model.specs.declared.raw.Ranged.TheVariants.{Once, Always}
use Rattle.lrp_model.specs.declared.raw.Paired.{Paired}
use Rattle.lrp_model.specs.declared.raw.Paired.TheVariants.{Since, Until}
use Rattle.lrp_model.specs.declared.raw.RawColumn.{RawColumn}
use Rattle.lrp_model.specs.declared.raw.RawTerm.{RawTerm}
use Rattle.lrp_model.specs.declared.raw.RawTermKind.{RawTermKind}
use Rattle.lrp_model.specs.declared.raw.RawTermKind.TheVariants.{Int, Text, Var, Shifted}

-- ---- operators and their numbers

-- the places of the operators of a formula
abbrev mutual
  pub operators : RawForm → List Place
  operators (raw_atom p n ts) = []
  operators (raw_compare p l op r) = []
  operators (raw_member p t point) = []
  operators (raw_not p f) = operators f
  operators (raw_and p fs) = operators_each fs
  operators (raw_or p fs) = operators_each fs
  operators (raw_implies p f g) = operators f ++ operators g
  operators (raw_group p f) = operators f
  operators (raw_exists p c f) = operators f
  operators (raw_forall p c f) = operators f
  operators (raw_ranged word o from to f) = o.place ∷ operators f
  operators (raw_paired word o f g) = o.place ∷ (operators f ++ operators g)

  pub operators_each : RawForms → List Place
  operators_each no_raws = []
  operators_each (raw f fs) = operators f ++ operators_each fs

-- the first place stands before the second
abbrev pub is_before : Place → Place → Bool
is_before p q = nat_lt p.line q.line || ((p.line == q.line) && nat_lt p.column q.column)

-- the number of the operator at a place among those at these places, counted from 1
abbrev pub operator_number : List Place → Place → ℕ
operator_number places p = suc (length (filter (λ q. is_before q p) places))

-- ---- names

-- v~i, the variable of the i-th operator for the moment that it asks for
abbrev pub moment_name : Identifier → ℕ → Identifier
moment_name v i = v ++ 126 ∷ decimal i

-- v~i~, its variable for each moment between
abbrev pub between_name : Identifier → ℕ → Identifier
between_name v i = v ++ 126 ∷ (decimal i ++ 126 ∷ [])

-- a variable as it is written, and its name in the expanded formula
pub record Renaming : Type 0 where
  pub written : Identifier
  pub present : Identifier

-- the variables of the operators and quantifiers around a formula, the innermost first
abbrev pub Naming : Type 0
Naming = List Renaming

-- the name of a written variable there: what the innermost that binds it gives, and else its own
abbrev pub present_name : Naming → Identifier → Identifier
present_name [] v = v
present_name (r ∷ rs) v = cond (bytes_eq r.written v) r.present (present_name rs v)

abbrev pub renamed_to : Identifier → Identifier → Renaming
renamed_to v n = record { written = v; present = n }

abbrev pub renamed_kind : Naming → RawTermKind → RawTermKind
renamed_kind names (Int x) = Int x
renamed_kind names (Text t) = Text t
renamed_kind names (Var v) = Var (present_name names v)
renamed_kind names (Shifted v plus) = Shifted (present_name names v) plus

abbrev pub renamed : Naming → RawTerm → RawTerm
renamed names t = record { kind = renamed_kind names t.kind; place = t.place }

-- ---- what an operator stands for

abbrev pub time_binder : Place → Identifier → RawColumn
time_binder p n = record { name = n; place = p; sort = Time; sort_place = p }

abbrev pub name_term : Place → Identifier → RawTerm
name_term p n = record { kind = Var n; place = p }

abbrev pub moved_term : Place → Identifier → ℤ → RawTerm
moved_term p n plus = record { kind = Shifted n plus; place = p }

abbrev pub both_forms : Place → RawForm → RawForm → RawForm
both_forms p f g = raw_and p (raw f (raw g no_raws))

abbrev pub all_three : Place → RawForm → RawForm → RawForm → RawForm
all_three p f g h = raw_and p (raw f (raw g (raw h no_raws)))

-- x compared with the operator's variable, by its name v there
abbrev pub beside : Operator → Identifier → Op → Identifier → RawForm
beside o x op v = raw_compare o.place (name_term o.place x) op (name_term o.name_place v)

-- x compared with that variable plus an end of the interval
abbrev pub beside_end : Operator → Identifier → Op → Identifier → ℤ → RawForm
beside_end o x op v end = raw_compare o.place (name_term o.place x) op (moved_term o.name_place v end)

-- two variables of the operator compared
abbrev pub beside_moment : Operator → Identifier → Op → Identifier → RawForm
beside_moment o y op x = raw_compare o.place (name_term o.place y) op (name_term o.place x)

-- exists x: time (x >= v + from and x <= v + to and f)
abbrev pub once_form : Operator → Identifier → Identifier → ℤ → ℤ → RawForm → RawForm
once_form o x v from to f = raw_exists o.place (time_binder o.place x) (all_three o.place (beside_end o x Ge v from) (beside_end o x Le v to) f)

-- forall x: time ((x >= v + from and x <= v + to) implies f)
abbrev pub always_form : Operator → Identifier → Identifier → ℤ → ℤ → RawForm → RawForm
always_form o x v from to f = raw_forall o.place (time_binder o.place x) (raw_implies o.place (both_forms o.place (beside_end o x Ge v from) (beside_end o x Le v to)) f)

-- forall y: time ((first and second) implies f)
abbrev pub between_form : Operator → Identifier → RawForm → RawForm → RawForm → RawForm
between_form o y first second f = raw_forall o.place (time_binder o.place y) (raw_implies o.place (both_forms o.place first second) f)

-- exists x: time (x <= v and g and forall y: time ((y > x and y <= v) implies f))
abbrev pub since_form : Operator → Identifier → Identifier → Identifier → RawForm → RawForm → RawForm
since_form o x y v f g = raw_exists o.place (time_binder o.place x) (all_three o.place (beside o x Le v) g (between_form o y (beside_moment o y Gt x) (beside o y Le v) f))

-- exists x: time (x >= v and g and forall y: time ((y >= v and y < x) implies f))
abbrev pub until_form : Operator → Identifier → Identifier → Identifier → RawForm → RawForm → RawForm
until_form o x y v f g = raw_exists o.place (time_binder o.place x) (all_three o.place (beside o x Ge v) g (between_form o y (beside o y Ge v) (beside_moment o y Lt x) f))

-- what an operator with an interval stands for, and one over two formulas
abbrev pub form_of_range : Ranged → Operator → Identifier → Identifier → ℤ → ℤ → RawForm → RawForm
form_of_range Once = once_form
form_of_range Always = always_form

abbrev pub form_of_pair : Paired → Operator → Identifier → Identifier → Identifier → RawForm → RawForm → RawForm
form_of_pair Since = since_form
form_of_pair Until = until_form

-- ---- the expanded formula

-- the name that the operator brings for its moment, and the one for each moment between, by the operator's number
abbrev pub moment_of : (Place → ℕ) → Operator → Identifier
moment_of number o = moment_name o.name (number o.place)

abbrev pub between_of : (Place → ℕ) → Operator → Identifier
between_of number o = between_name o.name (number o.place)

abbrev mutual
  pub expanded : RawForm → (Place → ℕ) → Naming → RawForm
  expanded (raw_atom p n ts) number names = raw_atom p n (map (renamed names) ts)
  expanded (raw_compare p l op r) number names = raw_compare p (renamed names l) op (renamed names r)
  expanded (raw_member p t point) number names = raw_member p (renamed names t) point
  expanded (raw_not p f) number names = raw_not p (expanded f number names)
  expanded (raw_and p fs) number names = raw_and p (expanded_each fs number names)
  expanded (raw_or p fs) number names = raw_or p (expanded_each fs number names)
  expanded (raw_implies p f g) number names = raw_implies p (expanded f number names) (expanded g number names)
  expanded (raw_group p f) number names = raw_group p (expanded f number names)
  expanded (raw_exists p c f) number names = raw_exists p c (expanded f number (renamed_to c.name c.name ∷ names))
  expanded (raw_forall p c f) number names = raw_forall p c (expanded f number (renamed_to c.name c.name ∷ names))
  expanded (raw_ranged word o from to f) number names =
      form_of_range word o (moment_of number o) (present_name names o.name) from to (expanded f number (renamed_to o.name (moment_of number o) ∷ names))
  expanded (raw_paired word o f g) number names =
      form_of_pair word o (moment_of number o) (between_of number o) (present_name names o.name) (expanded f number (renamed_to o.name (between_of number o) ∷ names)) (expanded g number (renamed_to o.name (moment_of number o) ∷ names))

  pub expanded_each : RawForms → (Place → ℕ) → Naming → RawForms
  expanded_each no_raws number names = no_raws
  expanded_each (raw f fs) number names = raw (expanded f number names) (expanded_each fs number names)

-- the query, its operators counted by their places
abbrev pub expanded_question : RawQuestion → RawQuestion
expanded_question q = record { head = q.head; body = expanded q.body (operator_number (operators q.body)) [] }

-- ---- which trees the law speaks of

-- the name has no `~`
abbrev pub IsPlain : Identifier → Type 0
IsPlain v = AllByRecursion (λ b. b ≢ 126) v

abbrev pub IsPlainKind : RawTermKind → Type 0
IsPlainKind (Int x) = Unit {0}
IsPlainKind (Text t) = Unit {0}
IsPlainKind (Var v) = IsPlain v
IsPlainKind (Shifted v plus) = IsPlain v

abbrev pub IsPlainTerm : RawTerm → Type 0
IsPlainTerm t = IsPlainKind t.kind

-- none of its variables' names has one
abbrev mutual
  pub HasPlainNames : RawForm → Type 0
  HasPlainNames (raw_atom p n ts) = AllByRecursion IsPlainTerm ts
  HasPlainNames (raw_compare p l op r) = IsPlainTerm l × IsPlainTerm r
  HasPlainNames (raw_member p t point) = IsPlainTerm t
  HasPlainNames (raw_not p f) = HasPlainNames f
  HasPlainNames (raw_and p fs) = HavePlainNames fs
  HasPlainNames (raw_or p fs) = HavePlainNames fs
  HasPlainNames (raw_implies p f g) = HasPlainNames f × HasPlainNames g
  HasPlainNames (raw_group p f) = HasPlainNames f
  HasPlainNames (raw_exists p c f) = IsPlain c.name × HasPlainNames f
  HasPlainNames (raw_forall p c f) = IsPlain c.name × HasPlainNames f
  HasPlainNames (raw_ranged word o from to f) = IsPlain o.name × HasPlainNames f
  HasPlainNames (raw_paired word o f g) = IsPlain o.name × HasPlainNames f × HasPlainNames g

  pub HavePlainNames : RawForms → Type 0
  HavePlainNames no_raws = Unit {0}
  HavePlainNames (raw f fs) = HasPlainNames f × HavePlainNames fs

-- no two elements are the same
abbrev pub AllDiffer : {A : Type 0} → List A → Type 0
AllDiffer [] = Unit {0}
AllDiffer (a ∷ others) = AllByRecursion (λ b. a ≢ b) others × AllDiffer others

-- no name of a variable has a `~`, and no two operators stand at one place
pub record IsExpandable (q : RawQuestion) : Type 0 where
  pub names : HasPlainNames q.body
  pub places : AllDiffer (operators q.body)
