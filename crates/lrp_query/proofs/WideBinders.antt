-- What is read of a quantifier with one name or more.
use Rattle.std.proofs.Common.{◌≡◌, inl, ◌≤◌, ◌-◌, ℕ, suc, Bool, true, false, List, [], ◌∷◌, ◌++◌, length, map, refl, ap, sym, ◌∙◌, subst, Ok, Err, arith}
use Rattle.lrp_model.specs.Texts.{Identifier}
use Rattle.lrp_model.specs.declared.tokens.Symbol.TheVariants.{Comma, Colon}
use Rattle.lrp_model.specs.declared.tokens.Place.{Place}
use Rattle.lrp_model.specs.declared.raw.RawColumn.{RawColumn}
use Rattle.lrp_model.specs.declared.relations.Sort.{Sort}
use Rattle.lrp_model.specs.declared.written.Located.{Located}
use Rattle.lrp_model.specs.Lexing.{start}
use Rattle.lrp_model.specs.Tokens.{Token, Placed, Tokens, Part, IsPart, Takes}
use Rattle.lrp_model.specs.Tokens.Token.{name_token, word_token, symbol_token}
use Rattle.lrp_model.specs.Tokens.Part.{at, any}
use Rattle.lrp_model.specs.Columns.{column_text}
use Rattle.lrp_model.specs.Databases.{comma}
use Rattle.lrp_model.specs.Refused.{Fitting}
use Rattle.lrp_model.specs.Queries.{Quantifier, formula_text, names_text, quantifier_word, looseness, IsOrdered}
use Rattle.lrp_model.specs.Queries.Quantifier.{existential, universal}
use Rattle.lrp_model.specs.Queries.WrittenFormula.{some, every, several}
use Rattle.lrp_model.specs.QueryMeaning.{raw_form, raw_quantified, raw_several}
use Rattle.lrp_model.specs.RawQueries.{RawForm}
use Rattle.lrp_text.specs.Parsers.{ParseOutcome, Parser, and_then, ◌>>=◌, pure}
use Rattle.lrp_text.specs.Taking.{is_symbol, is_symbol_token, expect, name, name_of, with_place}
use Rattle.lrp_text.specs.ColumnRule.{sort, sort_of}
use Rattle.lrp_text.proofs.Complete.{Anything, IsNot, accepts_back}
use Rattle.lrp_text.proofs.Sound.{accept_sound, takes_join, takes_split}
use Rattle.lrp_text.proofs.Viable.{One, accept_viable, always}
use Rattle.lrp_text.proofs.Local.{accept_local}
use Rattle.lrp_text.proofs.TokenTests.{name_part, name_told, name_seen, name_stops}
use Rattle.lrp_text.proofs.ColumnRule.{sort_part, sort_told, sort_seen, sort_stops}
use Rattle.lrp_text.proofs.OffsetRule.{NoShift}
use Rattle.lrp_query.specs.Rules.{column_at, each_bound, names_from, binders_rule, quantified}
use Rattle.lrp_query.proofs.Marks.{name_leaf, sort_leaf, fixed_accept}
use Rattle.lrp_query.proofs.Languages.{FitsAt}
use Rattle.lrp_query.proofs.WideTold.{Cut, fixed_tells}
use Rattle.lrp_query.proofs.WideRule.{Language, Rule, alike_rule, sooner_rule, Then, bind_rule, Made, map_rule, TokenRule, After, token_rule, Leaf, leaf_rule, Separated, Members, separated_rule}
use Rattle.lrp_query.proofs.WideTerms.{symbol_rule, symbol_kind}
use Rattle.lrp_query.proofs.WideWritten.{Formula, FormulaText, after_part}

-- ---- names

abbrev pub PlacedName : Type 0
PlacedName = Identifier × Place

abbrev pub NameText : Language PlacedName
NameText = Leaf (One name_part) (λ n. Unit {0})

pub one_name_rule : (size : ℕ) → Rule size true Anything NameText (λ c. name)
one_name_rule size = leaf_rule size name (One name_part) (λ n. Unit {0}) Anything (λ ts q e. (accept_sound (λ t. with_place t.place (name_of t.token)) name_part name_told ts q e, tt)) (λ n. accepts_back (λ t. with_place t.place (name_of t.token)) (name_part n) n (Unit {0}) (name_seen n)) (accept_viable (λ t. with_place t.place (name_of t.token)) name_part (λ n. Unit {0}) name_stops) (accept_local (λ t. with_place t.place (name_of t.token))) (fixed_tells true name (fixed_accept (λ t. with_place t.place (name_of t.token)) (λ t. name_leaf t.place t.token))) ([], start) (record { token = name_token []; place = start } ∷ []) tt ((refl, refl), refl)

sort_rule : TokenRule (λ t. with_place t.place (sort_of t.token)) sort_part (λ q. Unit {0})
sort_rule = record { told = sort_told; fits = λ t a e. tt; tells = λ t a L f is. inl (sort_seen a t is); stops = sort_stops; leaf = λ t. sort_leaf t.place t.token }

abbrev comma_token : Token
comma_token = symbol_token Comma

-- several names, the last of them apart
abbrev located : PlacedName → Located Identifier
located n = record { item = n.0; place = n.1 }

abbrev pub earlier_of : PlacedName → List PlacedName → List (Located Identifier)
earlier_of n [] = []
earlier_of n (m ∷ ms) = located n ∷ earlier_of m ms

abbrev pub last_of : PlacedName → List PlacedName → PlacedName
last_of n [] = n
last_of n (m ∷ ms) = last_of m ms

earlier_length : (n : PlacedName) (ms : List PlacedName) → length (earlier_of n ms) ≡ length ms
earlier_length n [] = refl
earlier_length n (m ∷ ms) = ap suc (earlier_length m ms)

abbrev names_parts : List (Located Identifier) → PlacedName → List Part
names_parts ns l = names_text ns ++ name_part l ∷ []

names_spelled : (c : Bool) (n : PlacedName) (ms : List PlacedName) (ts us : Tokens) → Separated (NameText c) comma_token (n ∷ ms) ts us → Takes (names_parts (earlier_of n ms) (last_of n ms)) ts us
names_spelled c n [] ts us s = s.1
names_spelled c n (m ∷ ms) ts us ([], s, r) = absurd r
names_spelled c n (m ∷ ms) ts us (t ∷ ks, s, (is, rest)) = takes_join (name_part n ∷ []) (comma ∷ names_parts (earlier_of m ms) (last_of m ms)) ts (t ∷ ks) us s.1 (is, names_spelled c m ms ks us rest)

abbrev placed : Located Identifier → PlacedName
placed n = (n.item, n.place)

-- all of them again
abbrev pub names_of : List (Located Identifier) → PlacedName → List PlacedName
names_of [] l = l ∷ []
names_of (n ∷ ns) l = placed n ∷ names_of ns l

names_read : (c : Bool) (ns : List (Located Identifier)) (l : PlacedName) (ts us : Tokens) → Takes (names_parts ns l) ts us → Separated (NameText c) comma_token (names_of ns l) ts us
names_read c [] l ts us s = (always (Unit {0}) c tt, s)
names_read c (n ∷ []) l [] us s = absurd s
names_read c (n ∷ []) l (t ∷ ts) us s = (ts, (always (Unit {0}) c tt, (s.0, refl)), after_part comma_token (name_part l ∷ []) (λ ks. NameText c l ks us) ts us s.1 (λ ks h. (always (Unit {0}) c tt, h)))
names_read c (n ∷ m ∷ ns) l [] us s = absurd s
names_read c (n ∷ m ∷ ns) l (t ∷ ts) us s = (ts, (always (Unit {0}) c tt, (s.0, refl)), after_part comma_token (names_parts (m ∷ ns) l) (λ ks. Separated (NameText c) comma_token (names_of (m ∷ ns) l) ks us) ts us s.1 (λ ks h. names_read c (m ∷ ns) l ks us h))

-- ---- what is read

-- a quantifier over these names
abbrev bound_tree : Quantifier → Place → PlacedName → List PlacedName → Sort × Place → Formula → Formula
bound_tree existential p n [] s f = some p (column_at s n) f
bound_tree universal p n [] s f = every p (column_at s n) f
bound_tree q p n (m ∷ ms) s f = several refl q p (record { first = located n; others = earlier_of m ms }) (column_at s (last_of m ms)) f

bound_means : (q : Quantifier) (p : Place) (n : PlacedName) (ms : List PlacedName) (s : Sort × Place) (g : RawForm) → each_bound (raw_quantified q) p (map (column_at s) (n ∷ ms)) g ≡ raw_several q p (earlier_of n ms) (column_at s (last_of n ms)) g
bound_means q p n [] s g = refl
bound_means q p n (m ∷ ms) s g = ap (raw_quantified q p (column_at s n)) (bound_means q p m ms s g)

tree_means : (q : Quantifier) (p : Place) (n : PlacedName) (ms : List PlacedName) (s : Sort × Place) (f : Formula) → raw_several q p (earlier_of n ms) (column_at s (last_of n ms)) (raw_form f) ≡ raw_form (bound_tree q p n ms s f)
tree_means existential p n [] s f = refl
tree_means universal p n [] s f = refl
tree_means existential p n (m ∷ ms) s f = refl
tree_means universal p n (m ∷ ms) s f = refl

tree_tight : (q : Quantifier) (p : Place) (n : PlacedName) (ms : List PlacedName) (s : Sort × Place) (f : Formula) → looseness (bound_tree q p n ms s f) ≤ 0
tree_tight existential p n [] s f = omega arith
tree_tight universal p n [] s f = omega arith
tree_tight existential p n (m ∷ ms) s f = omega arith
tree_tight universal p n (m ∷ ms) s f = omega arith

tree_ordered : (q : Quantifier) (p : Place) (n : PlacedName) (ms : List PlacedName) (s : Sort × Place) (f : Formula) → looseness f ≤ 0 → IsOrdered f → IsOrdered (bound_tree q p n ms s f)
tree_ordered existential p n [] s f t o = (t, o)
tree_ordered universal p n [] s f t o = (t, o)
tree_ordered existential p n (m ∷ ms) s f t o = (t, o)
tree_ordered universal p n (m ∷ ms) s f t o = (t, o)

-- the depth that is left
left_depth : (d : ℕ) (n : PlacedName) (ms : List PlacedName) (s : Sort × Place) → d - (length (map (column_at s) (n ∷ ms)) - 1) ≡ d - length (earlier_of n ms)
left_depth d n ms s =
    let e : length (earlier_of n ms) ≡ length ms = earlier_length n ms in
    let l : length (map (column_at s) ms) ≡ length ms = map_length ms in
    omega (arith, e, l)
  where
    map_length : (xs : List PlacedName) → length (map (column_at s) xs) ≡ length xs
    map_length [] = refl
    map_length (x ∷ xs) = ap suc (map_length xs)

tree_fits : (c : Bool) (d : ℕ) (q : Quantifier) (p : Place) (n : PlacedName) (ms : List PlacedName) (s : Sort × Place) (f : Formula) → Fitting c (FitsAt (d - length (earlier_of n ms)) f) → Fitting c (FitsAt (suc d) (bound_tree q p n ms s f))
tree_fits c d existential p n [] s f h = subst (λ k. Fitting c (FitsAt k f)) (omega arith) h
tree_fits c d universal p n [] s f h = subst (λ k. Fitting c (FitsAt k f)) (omega arith) h
tree_fits c d existential p n (m ∷ ms) s f h = h
tree_fits c d universal p n (m ∷ ms) s f h = h

-- a sort and a formula after names
abbrev sorted_parts : Sort × Place → Formula → List Part
sorted_parts s f = any (symbol_token Colon) ∷ sort_part s ∷ formula_text f

takes_names : (ns : List (Located Identifier)) (l : PlacedName) (s : Sort × Place) (f : Formula) (ts us : Tokens) → Takes (names_parts ns l ++ sorted_parts s f) ts us → Takes (names_text ns ++ (column_text (column_at s l) ++ formula_text f)) ts us
takes_names [] l s f ts us h = h
takes_names (n ∷ ns) l s f [] us h = h
takes_names (n ∷ ns) l s f (t ∷ []) us h = absurd h.1
takes_names (n ∷ ns) l s f (t ∷ u ∷ ts) us h = (h.0, (h.1.0, takes_names ns l s f ts us h.1.1))

gives_names : (ns : List (Located Identifier)) (l : PlacedName) (s : Sort × Place) (f : Formula) (ts us : Tokens) → Takes (names_text ns ++ (column_text (column_at s l) ++ formula_text f)) ts us → Takes (names_parts ns l ++ sorted_parts s f) ts us
gives_names [] l s f ts us h = h
gives_names (n ∷ ns) l s f [] us h = h
gives_names (n ∷ ns) l s f (t ∷ []) us h = absurd h.1
gives_names (n ∷ ns) l s f (t ∷ u ∷ ts) us h = (h.0, (h.1.0, gives_names ns l s f ts us h.1.1))

tree_spelled : (q : Quantifier) (p : Place) (n : PlacedName) (ms : List PlacedName) (s : Sort × Place) (f : Formula) (t : Placed) (ts us : Tokens) → IsPart (at p (word_token (quantifier_word q))) t → Takes (names_parts (earlier_of n ms) (last_of n ms) ++ sorted_parts s f) ts us → Takes (formula_text (bound_tree q p n ms s f)) (t ∷ ts) us
tree_spelled existential p n [] s f t ts us is h = (is, h)
tree_spelled universal p n [] s f t ts us is h = (is, h)
tree_spelled existential p n (m ∷ ms) s f t ts us is h = (is, takes_names (earlier_of n (m ∷ ms)) (last_of n (m ∷ ms)) s f ts us h)
tree_spelled universal p n (m ∷ ms) s f t ts us is h = (is, takes_names (earlier_of n (m ∷ ms)) (last_of n (m ∷ ms)) s f ts us h)

-- ---- the rule

-- what stands after the names
abbrev SortedText : ℕ → Quantifier → Place → List PlacedName → Language RawForm
SortedText d q p ns = After (λ (u : Unit {0}). any (symbol_token Colon)) (λ u. Unit {0}) (λ u. After sort_part (λ s. Unit {0}) (λ s. Made (each_bound (raw_quantified q) p (map (column_at s) ns)) (FormulaText (d - (length (map (column_at s) ns) - 1)))))

-- and with them
abbrev pub QuantifiedText : ℕ → Quantifier → Place → Language RawForm
QuantifiedText d q p = Then (Members NameText comma_token []) (SortedText d q p)

-- a tree of what stands after a quantifier's word
pub quantified_there : (d : ℕ) (q : Quantifier) (p r : Place) (c : Bool) (v : RawForm) (t : Placed) (ts us : Tokens) → IsPart (at r (word_token (quantifier_word q))) t → QuantifiedText d q p c v ts us → (w : Formula) × (looseness w ≤ 0) × IsOrdered w × (r ≡ p → v ≡ raw_form w) × Fitting c (FitsAt (suc d) w) × Takes (formula_text w) (t ∷ ts) us
quantified_there d q p r c v t ts us is (ns, ks, ([], l, s), m) = absurd s
quantified_there d q p r c v t ts us is (ns, [], (n ∷ ms, l, s), m) = absurd m
quantified_there d q p r c v t ts us is (ns, k ∷ [], (n ∷ ms, l, s), (u, colon, m)) = absurd m
quantified_there d q p r c v t ts us is (ns, k ∷ x ∷ ks, (n ∷ ms, l, s), (u, colon, (sort, sorted, (g, e, w)))) =
    let depth : d - (length (map (column_at sort) ns) - 1) ≡ d - length (earlier_of n ms) = ap (λ y. d - (length (map (column_at sort) y) - 1)) l ∙ left_depth d n ms sort in (
      bound_tree q r n ms sort w.tree,
      tree_tight q r n ms sort w.tree,
      tree_ordered q r n ms sort w.tree w.tight w.ordered,
      (λ same. e ∙ ap (λ y. each_bound (raw_quantified q) p (map (column_at sort) y) g) l ∙ ap (λ y. each_bound (raw_quantified q) p (map (column_at sort) (n ∷ ms)) y) w.means ∙ ap (λ y. each_bound (raw_quantified q) y (map (column_at sort) (n ∷ ms)) (raw_form w.tree)) (sym same) ∙ bound_means q r n ms sort (raw_form w.tree) ∙ tree_means q r n ms sort w.tree),
      tree_fits c d q r n ms sort w.tree (subst (λ y. Fitting c (FitsAt y w.tree)) depth w.fits),
      tree_spelled q r n ms sort w.tree t ts us is (takes_join (names_parts (earlier_of n ms) (last_of n ms)) (sorted_parts sort w.tree) ts (k ∷ x ∷ ks) us (names_spelled c n ms ts (k ∷ x ∷ ks) s) (colon.0, (sorted.0, w.spelled))),
    )

-- how long they are
names_long : (ns : List (Located Identifier)) (l : PlacedName) → length (names_of ns l) ≡ suc (length ns)
names_long [] l = refl
names_long (n ∷ ns) l = ap suc (names_long ns l)

several_again : (q : Quantifier) (p : Place) (s : Sort × Place) (ns : List (Located Identifier)) (l : PlacedName) (g : RawForm) → each_bound (raw_quantified q) p (map (column_at s) (names_of ns l)) g ≡ raw_several q p ns (column_at s l) g
several_again q p s [] l g = refl
several_again q p s (n ∷ ns) l g = ap (raw_quantified q p (column_at s (placed n))) (several_again q p s ns l g)

-- what is read of the names, a sort and a formula
pub quantified_of : (d : ℕ) (q : Quantifier) (p : Place) (c : Bool) (ns : List (Located Identifier)) (b : RawColumn) (f : Formula) (ts us : Tokens) → looseness f ≤ 0 → IsOrdered f → Fitting c (FitsAt (d - length ns) f) → Takes (names_text ns ++ (column_text b ++ formula_text f)) ts us → QuantifiedText d q p c (raw_several q p ns b (raw_form f)) ts us
quantified_of d q p c ns b f ts us tight o fit h =
    let l : PlacedName = (b.name, b.place) in
    let s : Sort × Place = (b.sort, b.sort_place) in
    let k = takes_split (names_parts ns l) (sorted_parts s f) ts us (gives_names ns l s f ts us h) in
    (names_of ns l, k.0, (names_of ns l, refl, names_read c ns l ts k.0 k.1), sorted s k.0 k.2)
  where
    map_long : (s : Sort × Place) (xs : List PlacedName) → length (map (column_at s) xs) ≡ length xs
    map_long s [] = refl
    map_long s (x ∷ xs) = ap suc (map_long s xs)

    sorted : (s : Sort × Place) (ks : Tokens) → Takes (any (symbol_token Colon) ∷ sort_part s ∷ formula_text f) ks us → SortedText d q p (names_of ns (b.name, b.place)) c (raw_several q p ns (column_at s (b.name, b.place)) (raw_form f)) ks us
    sorted s [] g = absurd g
    sorted s (x ∷ []) g = absurd g.1
    sorted s (x ∷ y ∷ ks) g =
        let long : length (map (column_at s) (names_of ns (b.name, b.place))) ≡ suc (length ns) = map_long s (names_of ns (b.name, b.place)) ∙ names_long ns (b.name, b.place) in
        let depth : d - length ns ≡ d - (length (map (column_at s) (names_of ns (b.name, b.place))) - 1) = omega (arith, long) in
        (tt, (g.0, always (Unit {0}) c tt), (s, (g.1.0, always (Unit {0}) c tt), (raw_form f, sym (several_again q p s ns (b.name, b.place) (raw_form f)), record { tree = f; tight = tight; ordered = o; means = refl; fits = subst (λ k. Fitting c (FitsAt k f)) depth fit; spelled = g.1.1 })))

-- three parsers, and then another one
reassociated : {A B C D E : Type 0} (p : Parser A) (q : Parser B) (r : Parser C) (h : A → C → D) (g : D → Parser E) (ts : Tokens) → (((p >>= (λ a. q >>= (λ b. r >>= (λ c. pure (h a c))))) >>= g) ts) ≡ ((p >>= (λ a. q >>= (λ b. r >>= (λ c. g (h a c))))) ts)
reassociated {A} {B} {C} {D} {E} p q r h g ts = first (p ts)
  where
    third : (a : A) (o : ParseOutcome C) → and_then (and_then o (λ c. pure (h a c))) g ≡ and_then o (λ c. g (h a c))
    third a (Ok x) = refl
    third a (Err e) = refl

    second : (a : A) (o : ParseOutcome B) → and_then (and_then o (λ b. r >>= (λ c. pure (h a c)))) g ≡ and_then o (λ b. r >>= (λ c. g (h a c)))
    second a (Ok x) = third a (r x.1)
    second a (Err e) = refl

    first : (o : ParseOutcome A) → and_then (and_then o (λ a. q >>= (λ b. r >>= (λ c. pure (h a c))))) g ≡ and_then o (λ a. q >>= (λ b. r >>= (λ c. g (h a c))))
    first (Ok x) = second x.0 (q x.1)
    first (Err e) = refl

module _ (size most d : ℕ) (inner : Cut → ℕ → Parser RawForm) (rules : (d : ℕ) → d ≤ most → Rule size false NoShift (FormulaText d) (λ c. inner c d)) (low : d ≤ most) where
  abbrev formula_of : Quantifier → Place → List PlacedName → Sort × Place → Cut → Parser RawForm
  formula_of q p ns s c = inner c (d - (length (map (column_at s) ns) - 1)) >>= (λ f. pure (each_bound (raw_quantified q) p (map (column_at s) ns) f))

  colon_follows : (q : Quantifier) (p : Place) (ns : List PlacedName) (c : Bool) (v : RawForm) (ms left : Tokens) → SortedText d q p ns c v ms left → NoShift left → Anything ms × IsNot (is_symbol Comma) ms
  colon_follows q p ns c v [] left t g = absurd t
  colon_follows q p ns c v (u ∷ ms) left t g = (tt, ap (is_symbol_token Comma) t.1.0)

  pub quantified_rule : (q : Quantifier) (p : Place) → Rule size true NoShift (QuantifiedText d q p) (λ c. quantified (raw_quantified q) (inner c) d size p)
  unfolding quantified binders_rule
  quantified_rule q p =
      alike_rule (λ c. quantified (raw_quantified q) (inner c) d size p) (λ c ts. reassociated (names_from size []) (expect Colon) sort (λ ns s. map (column_at s) ns) (λ cs. inner c (d - (length cs - 1)) >>= (λ f. pure (each_bound (raw_quantified q) p cs f))) ts)
      (bind_rule (λ ns c. expect Colon >>= (λ u. sort >>= (λ s. formula_of q p ns s c))) (separated_rule size true Anything NameText (λ c. name) (one_name_rule size) (is_symbol Comma) comma_token (symbol_kind Comma) (λ t ts e. tt) size (omega arith) [])
      (λ ns. token_rule (λ u c. sort >>= (λ s. formula_of q p ns s c)) (symbol_rule Colon)
      (λ u. sooner_rule true (token_rule (λ s c. formula_of q p ns s c) sort_rule (λ s. map_rule (each_bound (raw_quantified q) p (map (column_at s) ns)) (rules (d - (length (map (column_at s) ns) - 1)) (omega (arith, low)))))))
      (colon_follows q p))
