-- The columns of a head, one after the other.
use Rattle.std.proofs.Common.{◌≡◌, ℕ, suc, ◌+◌, ◌<◌, ◌==◌, Bool, true, false, cond, List, [], ◌∷◌, ◌++◌, map, reverse, Option, Some, option_map, refl, ap, sym, ◌∙◌, length, take, drop, get_or, Bor, append_assoc, drop-cons, add-one, bytes_eq, arith}
use Rattle.std.specs.List.{find}
use Rattle.std.specs.Option.{is_some}
use Rattle.std.specs.HashMap.{HashMap, UpdatesBy, get_by}
use Rattle.std.proofs.lemmas.List.{take_more, append-nil, reverse-append}
use Rattle.lrp_model.specs.Texts.{Identifier}
use Rattle.lrp_model.specs.Sorts.{is_time}
use Rattle.lrp_model.specs.Faults.{earliest, fault_if, ninth, is_named_in}
use Rattle.lrp_model.specs.Sorting.{Binders, query_standing, query_fault, binder_sort, binder_faults, sort_faults, head_faults}
use Rattle.lrp_model.specs.declared.tokens.Place.{Place}
use Rattle.lrp_model.specs.declared.faults.QueryFault.{QueryFault}
use Rattle.lrp_model.specs.declared.faults.QueryKind.TheVariants.{Rebound}
use Rattle.lrp_model.specs.declared.relations.Relation.{Relation}
use Rattle.lrp_model.specs.declared.relations.Sort.{Sort}
use Rattle.lrp_model.specs.declared.raw.RawColumn.{RawColumn}
use Rattle.lrp_model.specs.Sooner.{sooner}
use Rattle.lrp_model.proofs.FirstFault.{first_of_both, sooner_again}
use Rattle.lrp_sorts.specs.Scopes.{kept_at}
use Rattle.lrp_sorts.specs.declared.head.Before.{Before}
use Rattle.lrp_sorts.proofs.Binding.{bound_names}

-- ---- the ninth column of a kind

-- one column more of a kind
abbrev pub one_more_of : Bool → Before → Before
one_more_of b k = cond b (record k { times = k.times + 1 }) (record k { texts = k.texts + 1 })

-- the fault of a column, and those of what follows
ninth_split : (F : Place → QueryFault) (k : Before) (f : QueryFault) (cs : List RawColumn) (b : Bool)
    → earliest query_standing (cond b (fault_if (k.times == 8) f ++ ninth F (k.times + 1) k.texts cs) (fault_if (k.texts == 8) f ++ ninth F k.times (k.texts + 1) cs))
    ≡ sooner query_standing (earliest query_standing (fault_if (cond b (k.times == 8) (k.texts == 8)) f)) (earliest query_standing (ninth F (one_more_of b k).times (one_more_of b k).texts cs))
ninth_split F k f cs true = first_of_both query_standing (fault_if (k.times == 8) f) (ninth F (k.times + 1) k.texts cs)
ninth_split F k f cs false = first_of_both query_standing (fault_if (k.texts == 8) f) (ninth F k.times (k.texts + 1) cs)

-- a column is taken off what is left
pub ninth_step : (F : Place → QueryFault) (k l : Before) (cs : List RawColumn) (i : ℕ) (c : RawColumn) (found next own all : Option QueryFault) (full : Bool)
    → i < length cs → c ≡ get_or cs i c → next ≡ sooner query_standing found own → own ≡ earliest query_standing (fault_if full (F c.place)) → full ≡ cond (is_time c.sort) (k.times == 8) (k.texts == 8) → l ≡ one_more_of (is_time c.sort) k
    → sooner query_standing found (earliest query_standing (ninth F k.times k.texts (drop i cs))) ≡ all
    → sooner query_standing next (earliest query_standing (ninth F l.times l.texts (drop (i + 1) cs))) ≡ all
ninth_step F k l cs i c found next own all full lt is n o f e h =
    let rest : List RawColumn = drop (i + 1) cs in
    let whole : drop i cs ≡ c ∷ rest = drop-cons cs i c lt ∙ ap (λ x. x ∷ drop (suc i) cs) (sym is) ∙ ap (λ j. c ∷ drop j cs) (sym (add-one i)) in
    ap (λ l. sooner query_standing next (earliest query_standing (ninth F l.times l.texts rest))) e
    ∙ ap (λ x. sooner query_standing x (earliest query_standing (ninth F (one_more_of (is_time c.sort) k).times (one_more_of (is_time c.sort) k).texts rest))) (n ∙ ap (sooner query_standing found) (o ∙ ap (λ b. earliest query_standing (fault_if b (F c.place))) f))
    ∙ sym (sooner_again query_standing found _ _)
    ∙ ap (sooner query_standing found) (sym (ninth_split F k (F c.place) rest (is_time c.sort)))
    ∙ ap (λ l. sooner query_standing found (earliest query_standing (ninth F k.times k.texts l))) (sym whole)
    ∙ h

-- ---- the binders, each among those before it

-- one column more has the faults of its binder
head_faults-more : (db : List Relation) (bs : Binders) (cs : List RawColumn) (c : RawColumn) → head_faults db bs (cs ++ c ∷ []) ≡ head_faults db bs cs ++ binder_faults db (reverse cs ++ bs) c
head_faults-more db bs [] c = append-nil (binder_faults db bs c)
head_faults-more db bs (d ∷ cs) c =
    let turned : reverse cs ++ d ∷ bs ≡ reverse (d ∷ cs) ++ bs = sym (ap (λ l. l ++ bs) (reverse-append (d ∷ []) cs) ∙ append_assoc (reverse cs) (d ∷ []) bs) in
    ap (λ l. binder_faults db bs d ++ l) (head_faults-more db (d ∷ bs) cs c ∙ ap (λ l. head_faults db (d ∷ bs) cs ++ binder_faults db l c) turned)
    ∙ sym (append_assoc (binder_faults db bs d) (head_faults db (d ∷ bs) cs) (binder_faults db (reverse (d ∷ cs) ++ bs) c))

-- the columns before a column and it, backwards
pub turned_more : (cs : List RawColumn) (i : ℕ) (c : RawColumn) → i < length cs → c ≡ get_or cs i c → reverse (take (i + 1) cs) ≡ c ∷ reverse (take i cs)
turned_more cs i c lt is = ap reverse (take_more cs i c lt ∙ ap (λ x. take i cs ++ x ∷ []) (sym is)) ∙ reverse-append (take i cs) (c ∷ [])

-- one column more, which is bound before it or not
pub one_column_faults : (db : List Relation) (cs : List RawColumn) (i : ℕ) (c : RawColumn) (found next own : Option QueryFault) (bound : Bool) → i < length cs → c ≡ get_or cs i c
    → next ≡ sooner query_standing found own → own ≡ sooner query_standing (earliest query_standing (fault_if bound (query_fault Rebound c.place))) (earliest query_standing (sort_faults db c.sort c.sort_place))
    → bound ≡ is_some (binder_sort (reverse (take i cs)) c.name)
    → found ≡ earliest query_standing (head_faults db [] (take i cs)) → next ≡ earliest query_standing (head_faults db [] (take (i + 1) cs))
one_column_faults db cs i c found next own bound lt is n o b f =
    let before : List RawColumn = take i cs in
    let named : bound ≡ is_named_in (map (λ b. b.name) (reverse before)) c.name = b ∙ bound_names (reverse before) c.name in
    let of_binder : own ≡ earliest query_standing (binder_faults db (reverse before) c) =
    o ∙ ap (λ b. sooner query_standing (earliest query_standing (fault_if b (query_fault Rebound c.place))) (earliest query_standing (sort_faults db c.sort c.sort_place))) named
    ∙ sym (first_of_both query_standing (fault_if (is_named_in (map (λ b. b.name) (reverse before)) c.name) (query_fault Rebound c.place)) (sort_faults db c.sort c.sort_place)) in
    n ∙ ap (λ x. sooner query_standing x own) f ∙ ap (sooner query_standing _) of_binder
    ∙ sym (first_of_both query_standing (head_faults db [] before) (binder_faults db (reverse before) c))
    ∙ ap (λ l. earliest query_standing (head_faults db [] before ++ binder_faults db l c)) (sym (append-nil (reverse before)))
    ∙ ap (earliest query_standing) (sym (head_faults-more db [] before c))
    ∙ ap (λ x. earliest query_standing (head_faults db [] (before ++ x ∷ []))) is
    ∙ ap (λ l. earliest query_standing (head_faults db [] l)) (sym (take_more cs i c lt))

-- ---- the map from names to sorts

-- whether the name is the one or not
kept_choice : (b : Bool) (w old : Option (Bor Sort)) → option_map (λ (s : Bor Sort). s.now) (cond b w old) ≡ cond b (option_map (λ (s : Bor Sort). s.now) w) (option_map (λ (s : Bor Sort). s.now) old)
kept_choice true w old = refl
kept_choice false w old = refl

-- a map in which a name was bound, or is no more
pub updated : {S : Type 0} (k : Bor (List ℕ)) (m n : HashMap (Bor (List ℕ)) (Bor Sort) S) (w : Option (Bor Sort)) → UpdatesBy (λ x y. bytes_eq x.now y.now) (λ y. bytes_eq k.now y.now) m n w
    → (name : Identifier) → kept_at n name ≡ cond (bytes_eq k.now name) (option_map (λ (s : Bor Sort). s.now) w) (kept_at m name)
updated k m n w u name =
    ap (option_map (λ (s : Bor Sort). s.now)) (u.0 (record { ref_ptr = (0, 0); now = name }))
    ∙ kept_choice (bytes_eq k.now name) w (get_by (λ (y : Bor (List ℕ)). bytes_eq name y.now) m)

-- the same of the binder
pub sort_choice : (b : Bool) (c : RawColumn) (found : Option RawColumn) → cond b (Some c.sort) (option_map (λ (c : RawColumn). c.sort) found) ≡ option_map (λ (c : RawColumn). c.sort) (cond b (Some c) found)
sort_choice true c found = refl
sort_choice false c found = refl

-- the sort of the last column of a name, one column more
pub one_column_sort : (cs : List RawColumn) (i : ℕ) (c : RawColumn) (name : Identifier) (found next : Option Sort) → i < length cs → c ≡ get_or cs i c
    → next ≡ cond (bytes_eq c.name name) (Some c.sort) found → found ≡ binder_sort (reverse (take i cs)) name → next ≡ binder_sort (reverse (take (i + 1) cs)) name
one_column_sort cs i c name found next lt is n f =
    n ∙ ap (λ x. cond (bytes_eq c.name name) (Some c.sort) x) f
    ∙ sort_choice (bytes_eq c.name name) c (find (λ (b : RawColumn). bytes_eq b.name name) (reverse (take i cs)))
    ∙ ap (λ bs. binder_sort bs name) (sym (turned_more cs i c lt is))

-- the map with one column more
pub one_column_kept : {S : Type 0} (k : Bor (List ℕ)) (s : Bor Sort) (m n : HashMap (Bor (List ℕ)) (Bor Sort) S) (cs : List RawColumn) (i : ℕ) (c : RawColumn) → i < length cs → c ≡ get_or cs i c
    → k.now ≡ c.name → s.now ≡ c.sort → UpdatesBy (λ x y. bytes_eq x.now y.now) (λ y. bytes_eq k.now y.now) m n (Some s)
    → ((name : Identifier) → kept_at m name ≡ binder_sort (reverse (take i cs)) name)
    → (name : Identifier) → kept_at n name ≡ binder_sort (reverse (take (i + 1) cs)) name
one_column_kept k s m n cs i c lt is e f u old name =
    updated k m n (Some s) u name
    ∙ ap (λ x. cond (bytes_eq k.now name) (Some s.now) x) (old name)
    ∙ ap (λ x. cond (bytes_eq x name) (Some s.now) (binder_sort (reverse (take i cs)) name)) e
    ∙ ap (λ x. cond (bytes_eq c.name name) (Some x) (binder_sort (reverse (take i cs)) name)) f
    ∙ sort_choice (bytes_eq c.name name) c (find (λ (b : RawColumn). bytes_eq b.name name) (reverse (take i cs)))
    ∙ ap (λ bs. binder_sort bs name) (sym (turned_more cs i c lt is))

-- a column is counted once
pub counted_once : (b : Bool) (k : Before) → (one_more_of b k).times + (one_more_of b k).texts ≡ (k.times + k.texts) + 1
counted_once true k = omega arith
counted_once false k = omega arith
