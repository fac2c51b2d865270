-- The texts of each sort, gathered one text at a time.
use Rattle.std.proofs.Common.{◌≡◌, ⊎_elim, suc, Bool, true, false, ◌||◌, List, [], ◌∷◌, ◌++◌, Contains, Option, Some, None, Result, Ok, Err, IfOk, OnOk, filter, fold, length, cond, refl, sym, ap, subst, ◌∙◌}
use Rattle.std.specs.List.{list_any}
use Rattle.std.specs.Str.{bytes_eq}
use Rattle.std.specs.Cmp.Lexicographic.{bytes_decides}
use Rattle.std.specs.BTreeSet.{BTreeSet, keys, contains, insert_key}
use Rattle.std.specs.HashMap.{get}
use Rattle.std.specs.Ordering.{match_ordering}
use Rattle.std.specs.declared.cmp.Ordering.{Ordering}
use Rattle.std.specs.declared.cmp.Ordering.TheVariants.{Less, Equal, Greater}
use Rattle.std.proofs.lemmas.List.Elements.{Contains-append_left, Contains-append_right, Contains-append_cases, Contains-push_cases, filter-append}
use Rattle.lrp_model.specs.Texts.{Text, Identifier, text_cmp, put_text, in_order}
use Rattle.lrp_model.specs.Sorts.{same_sort}
use Rattle.lrp_model.specs.declared.relations.Sort.{Sort}
use Rattle.lrp_model.specs.declared.relations.Sort.TheVariants.{Time, Data, Named}
use Rattle.std.proofs.lemmas.Cmp.{nat_list_cmp_total}
use Rattle.std.proofs.lemmas.Map.Lookups.{exact_bytes}
use Rattle.std.proofs.lemmas.Map.Views.{btree_set_contains_iff}
use Rattle.lrp_model.proofs.Decided.{cons_cases, contains_first, contains_later, contains_none}
use Rattle.lrp_model.proofs.Ascending.{same_ascending}
use Rattle.lrp_model.proofs.DomainLaws.{contains_in_order, in_order_ascends}
use Rattle.lrp_database.specs.Once.{put_once, once, texts_among, texts_with}
use Rattle.lrp_plan.specs.Domains.{IsTextSet, AreDomains, Gathers, TakesText, gathered}
use Rattle.lrp_model.specs.Satisfaction.{Structure}
use Rattle.lrp_model.specs.Domains.{database_texts}
use Rattle.lrp_plan.specs.Sources.{AreSources}
use Rattle.lrp_plan.specs.declared.sources.Sources.{Sources}
use Rattle.lrp_plan.specs.declared.domains.Domains.{Domains}
use Rattle.lrp_plan.proofs.Texts.{same_texts}

-- lists with the same members have the same order
same_members : (xs ys : List Text) → ((w : Text) → Contains xs w → Contains ys w) → ((w : Text) → Contains ys w → Contains xs w) → in_order xs ≡ in_order ys
same_members xs ys to from =
    same_ascending (in_order xs) (in_order ys) (in_order_ascends xs) (in_order_ascends ys)
    (λ w h. (contains_in_order ys w).1 (to w ((contains_in_order xs w).0 h)))
    (λ w h. (contains_in_order xs w).1 (from w ((contains_in_order ys w).0 h)))

-- a further text at the end is put in its place
put_last : (t : Text) (xs : List Text) → put_text t (in_order xs) ≡ in_order (xs ++ t ∷ [])
put_last t xs = same_members (t ∷ xs) (xs ++ t ∷ [])
    (λ w h. ⊎_elim (λ a. Contains-append_right xs (t ∷ []) w a) (λ b. Contains-append_left xs (t ∷ []) w b) (Contains-append_cases (t ∷ []) xs w h))
    (λ w h. ⊎_elim (λ a. Contains-append_right (t ∷ []) xs w a) (λ b. Contains-append_left (t ∷ []) xs w b) (Contains-append_cases xs (t ∷ []) w h))

-- a text that is there changes nothing
put_there : (t : Text) (xs : List Text) → Contains (in_order xs) t → in_order xs ≡ in_order (xs ++ t ∷ [])
put_there t xs there = same_members xs (xs ++ t ∷ [])
    (λ w h. Contains-append_left xs (t ∷ []) w h)
    (λ w h. ⊎_elim (λ a. a) (λ e. subst (Contains xs) e ((contains_in_order xs t).0 there)) (Contains-push_cases xs t w h))

-- ---- one text more, in a set

insert_put : (us : List Text) (t : Text) → insert_key text_cmp us t ≡ put_text t us
insert_put [] t = refl
insert_put (u ∷ us) t = ap (λ r. match_ordering (text_cmp t u) (t ∷ u ∷ us) (u ∷ us) (u ∷ r)) (insert_put us t)

pub takes_new : (t k : Text) (old new : List Text) → k ≡ t → new ≡ insert_key text_cmp old k → TakesText t old new
takes_new t k old new e n = λ before h. n ∙ insert_put old k ∙ ap (put_text k) h ∙ ap (λ x. put_text x (in_order before)) e ∙ put_last t before

pub takes_there : (t : Text) (set : BTreeSet Text) → contains text_cmp set t ≡ true → TakesText t (keys set) (keys set)
takes_there t set there = λ before h. h ∙ put_there t before (subst (λ us. Contains us t) h ((btree_set_contains_iff nat_list_cmp_total exact_bytes set t).0 there))

-- ---- how many

grows_at : (o : Ordering) (t u : Text) (us : List Text) → text_cmp t u ≡ o → (Contains (u ∷ us) t → ⊥) → length (put_text t us) ≡ suc (length us) → length (match_ordering o (t ∷ u ∷ us) (u ∷ us) (u ∷ put_text t us)) ≡ suc (suc (length us))
grows_at Less t u us e h r = refl
grows_at Equal t u us e h r = absurd (h (subst (λ y. Contains (u ∷ us) y) (sym (exact_bytes t u e)) (contains_first u us)))
grows_at Greater t u us e h r = ap suc r

put_grows : (t : Text) (us : List Text) → (Contains us t → ⊥) → length (put_text t us) ≡ suc (length us)
put_grows t [] h = refl
put_grows t (u ∷ us) h = grows_at (text_cmp t u) t u us refl h (put_grows t us (λ c. h (contains_later u t us c)))

or_left : (a b : Bool) → (a || b) ≡ false → a ≡ false
or_left true b e = e
or_left false b e = refl

or_right : (a b : Bool) → (a || b) ≡ false → b ≡ false
or_right true b e = let x : true ≡ false = e in cc
or_right false b e = e

not_among : (us : List Text) (t : Text) → list_any (bytes_eq t) us ≡ false → Contains us t → ⊥
not_among [] t e c = contains_none t c
not_among (u ∷ us) t e c =
    ⊎_elim (λ x. let p : true ≡ false = sym ((bytes_decides t u).1 (sym x)) ∙ or_left (bytes_eq t u) (list_any (bytes_eq t) us) e in cc) (λ later. not_among us t (or_right (bytes_eq t u) (list_any (bytes_eq t) us) e) later) (cons_cases u t us c)

length_push : (us : List Text) (t : Text) → length (us ++ t ∷ []) ≡ suc (length us)
length_push [] t = refl
length_push (u ∷ us) t = ap suc (length_push us t)

once_step : (b : Bool) (t : Text) (acc : List Text) → list_any (bytes_eq t) acc ≡ b → length (in_order acc) ≡ length acc → length (in_order (cond b acc (acc ++ t ∷ []))) ≡ length (cond b acc (acc ++ t ∷ []))
once_step true t acc e h = h
once_step false t acc e h = ap length (sym (put_last t acc)) ∙ put_grows t (in_order acc) (λ c. not_among acc t e ((contains_in_order acc t).0 c)) ∙ ap suc h ∙ sym (length_push acc t)

once_counts : (xs acc : List Text) → length (in_order acc) ≡ length acc → length (in_order (fold put_once acc xs)) ≡ length (fold put_once acc xs)
once_counts [] acc h = h
once_counts (t ∷ ts) acc h = once_counts ts (put_once acc t) (once_step (list_any (bytes_eq t) acc) t acc refl h)

-- ---- by sorts

among_both : (xs ys : List (Sort × Text)) → texts_among (xs ++ ys) ≡ texts_among xs ++ texts_among ys
among_both [] ys = refl
among_both (x ∷ xs) ys = ap (λ zs. x.1 ∷ zs) (among_both xs ys)

with_both : (s : Sort) (xs ys : List (Sort × Text)) → texts_with s (xs ++ ys) ≡ texts_with s xs ++ texts_with s ys
with_both s xs ys = ap texts_among (filter-append (λ entry. same_sort entry.0 s) xs ys) ∙ among_both (filter (λ entry. same_sort entry.0 s) xs) (filter (λ entry. same_sort entry.0 s) ys)

with_three : (s : Sort) (xs ys zs : List (Sort × Text)) → texts_with s (xs ++ (ys ++ zs)) ≡ texts_with s (xs ++ ys) ++ texts_with s zs
with_three s xs ys zs = ap (texts_with s) (sym (append_assoc xs ys zs)) ∙ with_both s (xs ++ ys) zs
  where
    append_assoc : (xs ys zs : List (Sort × Text)) → (xs ++ ys) ++ zs ≡ xs ++ (ys ++ zs)
    append_assoc [] ys zs = refl
    append_assoc (x ∷ xs) ys zs = ap (λ r. x ∷ r) (append_assoc xs ys zs)

with_one : (s k : Sort) (t : Text) (b : Bool) → same_sort k s ≡ b → texts_with s ((k, t) ∷ []) ≡ cond b (t ∷ []) []
with_one s k t true e = ap (λ b. texts_among (cond b ((k, t) ∷ []) [])) e
with_one s k t false e = ap (λ b. texts_among (cond b ((k, t) ∷ []) [])) e

end_none : (xs : List Text) → xs ++ [] ≡ xs
end_none [] = refl
end_none (x ∷ xs) = ap (λ r. x ∷ r) (end_none xs)

-- a text of another sort
other_sort : (db before : List (Sort × Text)) (k s : Sort) (t : Text) (o : Option (BTreeSet Text)) → same_sort k s ≡ false → IsTextSet db before s o → IsTextSet db (before ++ (k, t) ∷ []) s o
other_sort db before k s t (Some set) e h = h ∙ ap in_order (sym (with_three s db before ((k, t) ∷ []) ∙ ap (λ ys. texts_with s (db ++ before) ++ ys) (with_one s k t false e) ∙ end_none (texts_with s (db ++ before))))
other_sort db before k s t None e h = with_both s before ((k, t) ∷ []) ∙ ap (λ ys. texts_with s before ++ ys) (with_one s k t false e) ∙ end_none (texts_with s before) ∙ h

-- a text of the sort
same_sorted : (db before : List (Sort × Text)) (k s : Sort) (t : Text) (old new : BTreeSet Text) → same_sort k s ≡ true → IsTextSet db before s (Some old) → TakesText t (keys old) (keys new) → IsTextSet db (before ++ (k, t) ∷ []) s (Some new)
same_sorted db before k s t old new e h see = see (texts_with s (db ++ before)) h ∙ ap in_order (sym (with_three s db before ((k, t) ∷ []) ∙ ap (λ ys. texts_with s (db ++ before) ++ ys) (with_one s k t true e)))

-- the first text of the sort
first_sorted : (db before : List (Sort × Text)) (k s : Sort) (t : Text) (old new : BTreeSet Text) → same_sort k s ≡ true → IsTextSet db before s None → keys old ≡ in_order (once (texts_with s db)) → TakesText t (keys old) (keys new) → IsTextSet db (before ++ (k, t) ∷ []) s (Some new)
first_sorted db before k s t old new e h o see =
    let one : texts_with s (before ++ (k, t) ∷ []) ≡ t ∷ [] = with_both s before ((k, t) ∷ []) ∙ ap (λ ys. ys ++ texts_with s ((k, t) ∷ [])) h ∙ with_one s k t true e in
    see (once (texts_with s db)) o ∙ ap (λ ys. in_order (once (texts_with s db) ++ ys)) (sym one) ∙ same_texts s db (before ++ (k, t) ∷ [])

same_is : (s k : Sort) → same_sort s k ≡ true → s ≡ k
same_is Time Time e = refl
same_is Data Data e = refl
same_is (Named m) (Named n) e = ap Named ((bytes_decides m n).0 e)
same_is Time Data e = cc
same_is Time (Named n) e = cc
same_is Data Time e = cc
same_is Data (Named n) e = cc
same_is (Named m) Time e = cc
same_is (Named m) Data e = cc

same_self : (s : Sort) → same_sort s s ≡ true
same_self Time = refl
same_self Data = refl
same_self (Named n) = (bytes_decides n n).1 refl

-- the texts of the sort take in the text, and those of other sorts stay
gathers : (db : List (Sort × Text)) (s : Sort) (t : Text) (old new : Domains) → ((before : List (Sort × Text)) → IsTextSet db before s (gathered old s) → IsTextSet db (before ++ (s, t) ∷ []) s (gathered new s))
    → ((k : Sort) → same_sort s k ≡ false → gathered new k ≡ gathered old k) → Gathers db s t old new
gathers db s t old new own others = λ before are k. at before are k (same_sort s k) refl
  where
    at : (before : List (Sort × Text)) → AreDomains db before old → (k : Sort) (b : Bool) → same_sort s k ≡ b → IsTextSet db (before ++ (s, t) ∷ []) k (gathered new k)
    at before are k true e = subst (λ z. IsTextSet db (before ++ (s, t) ∷ []) z (gathered new z)) (same_is s k e) (own before (are s))
    at before are k false e = subst (IsTextSet db (before ++ (s, t) ∷ []) k) (sym (others k e)) (other_sort db before s k t (gathered old k) e (are k))

pub timed_gathers : {T E : Type 0} (r : Result T E) (db : List (Sort × Text)) (s : Sort) (t : Text) (old new : Domains) → s ≡ Time → new.unnamed ≡ old.unnamed → new.named ≡ old.named
    → OnOk r (TakesText t (keys old.timed) (keys new.timed)) → OnOk r (Gathers db s t old new)
timed_gathers (Err x) db s t old new e u n h = tt
timed_gathers (Ok x) db s t old new e u n h = subst (λ z. Gathers db z t old new) (sym e) (gathers db Time t old new (λ before are. same_sorted db before Time Time t old.timed new.timed refl are h) others)
  where
    others : (k : Sort) → same_sort Time k ≡ false → gathered new k ≡ gathered old k
    others Time f = cc
    others Data f = u
    others (Named m) f = ap (λ named. get bytes_eq named m) n

-- a set of the sort `data`, and what the other sorts had
unnamed_by : (db : List (Sort × Text)) (t : Text) (old new : Domains) (set : BTreeSet Text) → new.timed ≡ old.timed → new.named ≡ old.named → new.unnamed ≡ Some set
    → ((before : List (Sort × Text)) → IsTextSet db before Data old.unnamed → IsTextSet db (before ++ (Data, t) ∷ []) Data (Some set)) → Gathers db Data t old new
unnamed_by db t old new set u n e own = gathers db Data t old new (λ before are. subst (IsTextSet db (before ++ (Data, t) ∷ []) Data) (sym e) (own before are)) others
  where
    others : (k : Sort) → same_sort Data k ≡ false → gathered new k ≡ gathered old k
    others Time f = ap Some u
    others Data f = cc
    others (Named m) f = ap (λ named. get bytes_eq named m) n

pub unnamed_gathers : {T E : Type 0} (r : Result T E) (db : List (Sort × Text)) (t : Text) (old new : Domains) (had set : BTreeSet Text) → new.timed ≡ old.timed → new.named ≡ old.named → old.unnamed ≡ Some had → new.unnamed ≡ Some set
    → OnOk r (TakesText t (keys had) (keys set)) → OnOk r (Gathers db Data t old new)
unnamed_gathers (Err x) db t old new had set u n o e h = tt
unnamed_gathers (Ok x) db t old new had set u n o e h = unnamed_by db t old new set u n e (λ before are. same_sorted db before Data Data t had set refl (subst (IsTextSet db before Data) o are) h)

pub first_unnamed : (db : List (Sort × Text)) (t : Text) (old new : Domains) (had set : BTreeSet Text) → new.timed ≡ old.timed → new.named ≡ old.named → old.unnamed ≡ None → new.unnamed ≡ Some set
    → keys had ≡ in_order (once (texts_with Data db)) → TakesText t (keys had) (keys set) → Gathers db Data t old new
first_unnamed db t old new had set u n o e k h = unnamed_by db t old new set u n e (λ before are. first_sorted db before Data Data t had set refl (subst (IsTextSet db before Data) o are) k h)

-- a result of the sort `data`, at a sort that is this one
pub data_gathers : {T E : Type 0} (r : Result T E) (db : List (Sort × Text)) (s : Sort) (t : Text) (old new : Domains) → s ≡ Data → OnOk r (Gathers db Data t old new) → OnOk r (Gathers db s t old new)
data_gathers r db s t old new e h = subst (λ z. OnOk r (Gathers db z t old new)) (sym e) h

-- the map has this set at the name, and else what it had
named_by : (db : List (Sort × Text)) (name : Identifier) (t : Text) (old new : Domains) (set : BTreeSet Text) → new.timed ≡ old.timed → new.unnamed ≡ old.unnamed
    → ((m : Identifier) → get bytes_eq new.named m ≡ cond (bytes_eq name m) (Some set) (get bytes_eq old.named m))
    → ((before : List (Sort × Text)) → IsTextSet db before (Named name) (get bytes_eq old.named name) → IsTextSet db (before ++ (Named name, t) ∷ []) (Named name) (Some set)) → Gathers db (Named name) t old new
named_by db name t old new set a u put own =
    gathers db (Named name) t old new (λ before are. subst (IsTextSet db (before ++ (Named name, t) ∷ []) (Named name)) (sym (put name ∙ ap (λ b. cond b (Some set) (get bytes_eq old.named name)) (same_self (Named name)))) (own before are)) others
  where
    others : (k : Sort) → same_sort (Named name) k ≡ false → gathered new k ≡ gathered old k
    others Time f = ap Some a
    others Data f = u
    others (Named m) f = put m ∙ ap (λ b. cond b (Some set) (get bytes_eq old.named m)) f

pub named_gathers : {T E : Type 0} (r : Result T E) (db : List (Sort × Text)) (s : Sort) (name : Identifier) (t : Text) (old new : Domains) (had set : BTreeSet Text) → s ≡ Named name → get bytes_eq old.named name ≡ Some had → new.timed ≡ old.timed → new.unnamed ≡ old.unnamed
    → ((m : Identifier) → get bytes_eq new.named m ≡ cond (bytes_eq name m) (Some set) (get bytes_eq old.named m)) → OnOk r (TakesText t (keys had) (keys set)) → OnOk r (Gathers db s t old new)
named_gathers (Err x) db s name t old new had set e g a u put h = tt
named_gathers (Ok x) db s name t old new had set e g a u put h =
    subst (λ z. Gathers db z t old new) (sym e) (named_by db name t old new set a u put (λ before are. same_sorted db before (Named name) (Named name) t had set (same_self (Named name)) (subst (IsTextSet db before (Named name)) g are) h))

pub first_gathers : (db : List (Sort × Text)) (s : Sort) (name : Identifier) (t : Text) (old new : Domains) (had set : BTreeSet Text) → s ≡ Named name → get bytes_eq old.named name ≡ None → new.timed ≡ old.timed → new.unnamed ≡ old.unnamed
    → ((m : Identifier) → get bytes_eq new.named m ≡ cond (bytes_eq name m) (Some set) (get bytes_eq old.named m)) → keys had ≡ in_order (once (texts_with s db)) → TakesText t (keys had) (keys set) → Gathers db s t old new
first_gathers db s name t old new had set e g a u put o h =
    subst (λ z. Gathers db z t old new) (sym e) (named_by db name t old new set a u put (λ before are. first_sorted db before (Named name) (Named name) t had set (same_self (Named name)) (subst (IsTextSet db before (Named name)) g are) (subst (λ z. keys had ≡ in_order (once (texts_with z db))) e o) h))

-- those of the database alone
begins : (db : List (Sort × Text)) (s : Sort) (us : List Text) → us ≡ in_order (once (texts_with s db)) → us ≡ in_order (texts_with s (db ++ []))
begins db s us h = h ∙ ap in_order (sym (end_none (once (texts_with s db)))) ∙ same_texts s db []

-- ---- what was gathered, or else what the database has

pub has_domain : (M : Structure) (sources : Sources) (s : Sort) (set : BTreeSet Text) → gathered sources.domains s ≡ Some set → AreSources M sources → keys set ≡ M.domain s
has_domain M sources s set g src = subst (IsTextSet (database_texts sources.database.now) sources.texts.items s) g (src.domains_are s) ∙ sym (src.texts_are s)

pub no_domain : (M : Structure) (sources : Sources) (s : Sort) → gathered sources.domains s ≡ None → AreSources M sources → in_order (once (texts_with s (database_texts sources.database.now))) ≡ M.domain s
no_domain M sources s g src =
    let db : List (Sort × Text) = database_texts sources.database.now in
    let none : texts_with s sources.texts.items ≡ [] = subst (IsTextSet db sources.texts.items s) g (src.domains_are s) in
    ap in_order (sym (end_none (once (texts_with s db)))) ∙ ap (λ ys. in_order (once (texts_with s db) ++ ys)) (sym none) ∙ same_texts s db sources.texts.items ∙ sym (src.texts_are s)

pub no_domain_count : (M : Structure) (sources : Sources) (s : Sort) → gathered sources.domains s ≡ None → AreSources M sources → length (once (texts_with s (database_texts sources.database.now))) ≡ length (M.domain s)
no_domain_count M sources s g src = sym (once_counts (texts_with s (database_texts sources.database.now)) [] refl) ∙ ap length (no_domain M sources s g src)

pub ordered_is : {E : Type 0} (r : Result (List Text) E) (sources : Sources) (s : Sort) (us : List Text) → us ≡ in_order (once (texts_with s (database_texts sources.database.now))) → gathered sources.domains s ≡ None → IfOk r (λ made. made ≡ us)
    → IfOk r (λ made. (M : Structure) → AreSources M sources → made ≡ M.domain s)
ordered_is (Ok made) sources s us e g h = λ M src. h ∙ e ∙ no_domain M sources s g src
ordered_is (Err x) sources s us e g h = tt

-- ---- a list of what a set has

append_both : (xs ys zs : List Text) → (xs ++ ys) ++ zs ≡ xs ++ (ys ++ zs)
append_both [] ys zs = refl
append_both (x ∷ xs) ys zs = ap (λ r. x ∷ r) (append_both xs ys zs)

pub copied_more : (out more left rest all : List Text) (x : Text) → out ++ left ≡ all → left ≡ x ∷ rest → more ≡ out ++ x ∷ [] → more ++ rest ≡ all
copied_more out more left rest all x h l m = ap (λ xs. xs ++ rest) m ∙ append_both out (x ∷ []) rest ∙ ap (λ ys. out ++ ys) (sym l) ∙ h

pub copied_all : (out left all : List Text) → out ++ left ≡ all → left ≡ [] → out ≡ all
copied_all out left all h l = sym (end_none out) ∙ ap (λ ys. out ++ ys) (sym l) ∙ h

-- no text of a query yet
pub begins_all : (db : List (Sort × Text)) (domains : Domains) → keys domains.timed ≡ in_order (once (texts_with Time db)) → domains.unnamed ≡ None → ((m : Identifier) → get bytes_eq domains.named m ≡ None) → AreDomains db [] domains
begins_all db domains a u n Time = begins db Time (keys domains.timed) a
begins_all db domains a u n Data = subst (IsTextSet db [] Data) (sym u) refl
begins_all db domains a u n (Named m) = subst (IsTextSet db [] (Named m)) (sym (n m)) refl
