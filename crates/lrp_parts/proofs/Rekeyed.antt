-- A row more under a new key, or one less: the other rows stand as they did.
use Rattle.std.proofs.Common.{◌≡◌, ◌≢◌, ◌<◌, ℕ, List, [], ◌∷◌, ◌++◌, length, Contains, Option, Some, None, inl, inr, sym, ap, subst, ◌∙◌, arith}
use Rattle.slab.specs.Slab.{get}
use Rattle.lrp_model.proofs.Decided.{cons_cases, contains_first, contains_later}
use Rattle.lrp_plan_laws.proofs.Members.{in_left, in_right, in_one}
use Rattle.lrp_zone.proofs.Cases.{eq_or}
use Rattle.lrp_parts.specs.Derivations.{Ground, IsLastKey, IsWithoutKey}
use Rattle.lrp_kept.specs.Keys.{keys_in, keys_of}
use Rattle.lrp_kept.specs.Keyed.{AreHeldRows, AreRelisted, IsHeldAfter, IsLetGoAt, HaveOwnKeys}
use Rattle.lrp_kept.specs.declared.rows.HeldRows.{HeldRows}
use Rattle.lrp_kept.specs.declared.rows.HeldRow.{HeldRow}
use Rattle.lrp_parts.proofs.Without.{with_rows}
use Rattle.lrp_parts.proofs.PartTables.{one_source}
use Rattle.lrp_plan_laws.proofs.Elements.{found}

not_both : (x : Option HeldRow) (s : HeldRow) → x ≡ None → x ≡ Some s → ⊥
not_both x s e f = let y : None ≡ Some s = sym e ∙ f in cc

-- ---- keys of their own

once_front : (front back : List ℕ) (key : ℕ) → HaveOwnKeys (front ++ key ∷ back) → Contains (front ++ back) key → ⊥
once_front [] back key h i = h.0 i
once_front (k ∷ front) back key h i = elim (cons_cases k key (front ++ back) i) [
  | inl e ↦ h.0 (subst (λ x. Contains (front ++ key ∷ back) x) (sym e) (in_right front (key ∷ back) key (contains_first key back)))
  | inr more ↦ once_front front back key h.1 more
]

in_fewer : (front back : List ℕ) (key k : ℕ) → Contains (front ++ key ∷ back) k → k ≢ key → Contains (front ++ back) k
in_fewer front back key k i n = elim (in_one front (key ∷ back) k i) [
  | inl f ↦ in_left front back k f
  | inr b ↦ elim (cons_cases key k back b) [ inl e ↦ absurd (n (sym e)) | inr more ↦ in_right front back k more ]
]

in_more : (front back : List ℕ) (key k : ℕ) → Contains (front ++ back) k → Contains (front ++ key ∷ back) k
in_more front back key k i = elim (in_one front back k i) [ inl f ↦ in_left front (key ∷ back) k f | inr b ↦ in_right front (key ∷ back) k (contains_later key k back b) ]

once_fewer : (front back : List ℕ) (key : ℕ) → HaveOwnKeys (front ++ key ∷ back) → HaveOwnKeys (front ++ back)
once_fewer [] back key h = h.1
once_fewer (k ∷ front) back key h = ((λ i. h.0 (in_more front back key k i)), once_fewer front back key h.1)

once_more : (keys : List ℕ) (key : ℕ) → HaveOwnKeys keys → (Contains keys key → ⊥) → HaveOwnKeys (keys ++ key ∷ [])
once_more [] key h none = ((λ i. let l : i.0 < 0 = i.1 in omega (arith, l)), tt)
once_more (k ∷ keys) key h none = (
  (λ i. elim (in_one keys (key ∷ []) k i) [
    | inl f ↦ h.0 f
    | inr b ↦ elim (cons_cases key k [] b) [ inl e ↦ none (subst (λ x. Contains (k ∷ keys) x) (sym e) (contains_first k keys)) | inr more ↦ let l : more.0 < 0 = more.1 in omega (arith, l) ]
  ]),
  once_more keys key h.1 (λ i. none (contains_later k key keys i)),
)

-- ---- other keys of one relation

module _ (number : ℕ) (keys : List ℕ) (old new : HeldRows) (x : AreRelisted number keys old.relations.items new.relations.items) where
  pub keys_there : (i : ℕ) → i ≢ number → keys_of new i ≡ keys_of old i
  keys_there i n = ap keys_in (x.rest i n)

  pub keys_here : number < length old.relations.items → keys_of new number ≡ keys
  keys_here low = let r = found old.relations.items number low in let s = x.at r.0 r.1 in ap keys_in s.1 ∙ s.2.keys_are

-- ---- a row more

module _ (source : HeldRow) (key : ℕ) (old new : HeldRows) (low : source.relation < length old.relations.items) (rows : AreHeldRows old) (w : IsHeldAfter source key old new) where
  abbrev own : ℕ
  own = source.relation

  here : keys_of new own ≡ keys_of old own ++ key ∷ []
  here = keys_here own (keys_of old own ++ key ∷ []) old new w.listed low

  there : (i : ℕ) → i ≢ own → keys_of new i ≡ keys_of old i
  there i n = keys_there own (keys_of old own ++ key ∷ []) old new w.listed i n

  -- the key is new
  not_listed : (i : ℕ) → Contains (keys_of old i) key → ⊥
  not_listed i c = let s = rows.there i key c in not_both (get old.sources key) s.source w.free s.held

  pub held_without : IsWithoutKey new old key
  held_without = record {
    to = λ i k c. (
      elim (eq_or i own) [
        | inl e ↦ subst (λ n. Contains (keys_of new n) k) (sym e) (subst (λ l. Contains l k) (sym here) (in_left (keys_of old own) (key ∷ []) k (subst (λ n. Contains (keys_of old n) k) e c)))
        | inr n ↦ subst (λ l. Contains l k) (sym (there i n)) c
      ],
      λ e. not_listed i (subst (λ x. Contains (keys_of old i) x) e c),
    );
    from = λ i k c n. elim (eq_or i own) [
      | inl e ↦ subst (λ m. Contains (keys_of old m) k) (sym e) (elim (in_one (keys_of old own) (key ∷ []) k (subst (λ l. Contains l k) here (subst (λ m. Contains (keys_of new m) k) e c))) [
        | inl f ↦ f
        | inr b ↦ elim (cons_cases key k [] b) [ inl s ↦ absurd (n (sym s)) | inr more ↦ absurd (let l : more.0 < 0 = more.1 in omega (arith, l)) ]
      ])
      | inr d ↦ subst (λ l. Contains l k) (there i d) c
    ];
    sources = λ k n. sym (w.others k n);
  }

  pub held_last : (g : Ground) → IsLastKey (with_rows g new) own key
  held_last g = record {
    before = keys_of old own;
    are = here;
    new = λ c. not_listed own c;
    alone = λ i c. elim (eq_or i own) [ inl e ↦ e | inr n ↦ absurd (not_listed i (subst (λ l. Contains l key) (there i n) c)) ];
  }

  pub held_rows : AreHeldRows new
  held_rows = record {
    there = λ i k c. elim (eq_or k key) [
      | inl e ↦ record { source = source; held = ap (get new.sources) e ∙ w.there; relation_is = sym ((held_last_of i (subst (λ x. Contains (keys_of new i) x) e c))) }
      | inr n ↦ let s = rows.there i k (held_without.from i k c n) in record { source = s.source; held = w.others k n ∙ s.held; relation_is = s.relation_is }
    ];
    once = λ i. elim (eq_or i own) [
      | inl e ↦ subst (λ m. HaveOwnKeys (keys_of new m)) (sym e) (subst (λ l. HaveOwnKeys l) (sym here) (once_more (keys_of old own) key (rows.once own) (not_listed own)))
      | inr n ↦ subst (λ l. HaveOwnKeys l) (sym (there i n)) (rows.once i)
    ];
  }
    where
      held_last_of : (i : ℕ) → Contains (keys_of new i) key → i ≡ own
      held_last_of i c = elim (eq_or i own) [ inl e ↦ e | inr n ↦ absurd (not_listed i (subst (λ l. Contains l key) (there i n) c)) ]

-- ---- a row less

module _ (relation place key : ℕ) (old new : HeldRows) (low : relation < length old.relations.items) (rows : AreHeldRows old) (w : IsLetGoAt relation place key old new) where
  now_here : keys_of new relation ≡ w.front ++ w.back
  now_here = keys_here relation (w.front ++ w.back) old new w.listed low

  now_there : (i : ℕ) → i ≢ relation → keys_of new i ≡ keys_of old i
  now_there i n = keys_there relation (w.front ++ w.back) old new w.listed i n

  was_listed : Contains (keys_of old relation) key
  was_listed = subst (λ l. Contains l key) (sym w.were) (in_right w.front (key ∷ w.back) key (contains_first key w.back))

  -- no other relation has the key
  alone : (i : ℕ) → Contains (keys_of old i) key → i ≡ relation
  alone i c =
      let s = rows.there i key c in
      let t = rows.there relation key was_listed in
      sym s.relation_is ∙ ap (λ (x : HeldRow). x.relation) (one_source (get old.sources key) s.source t.source s.held t.held) ∙ t.relation_is

  pub let_go_without : IsWithoutKey old new key
  let_go_without = record {
    to = λ i k c. elim (eq_or i relation) [
      | inl e ↦
          let d : Contains (w.front ++ w.back) k = subst (λ l. Contains l k) now_here (subst (λ m. Contains (keys_of new m) k) e c) in (
            subst (λ m. Contains (keys_of old m) k) (sym e) (subst (λ l. Contains l k) (sym w.were) (in_more w.front w.back key k d)),
            λ s. once_front w.front w.back key (subst (λ l. HaveOwnKeys l) w.were (rows.once relation)) (subst (λ x. Contains (w.front ++ w.back) x) s d),
          )
      | inr n ↦
          let d : Contains (keys_of old i) k = subst (λ l. Contains l k) (now_there i n) c in
          (d, λ s. n (alone i (subst (λ x. Contains (keys_of old i) x) s d)))
    ];
    from = λ i k c n. elim (eq_or i relation) [
      | inl e ↦ subst (λ m. Contains (keys_of new m) k) (sym e) (subst (λ l. Contains l k) (sym now_here) (in_fewer w.front w.back key k (subst (λ l. Contains l k) w.were (subst (λ m. Contains (keys_of old m) k) e c)) n))
      | inr d ↦ subst (λ l. Contains l k) (sym (now_there i d)) c
    ];
    sources = w.others;
  }

  pub let_go_rows : AreHeldRows new
  let_go_rows = record {
    there = λ i k c. let x = let_go_without.to i k c in let s = rows.there i k x.0 in record { source = s.source; held = w.others k x.1 ∙ s.held; relation_is = s.relation_is };
    once = λ i. elim (eq_or i relation) [
      | inl e ↦ subst (λ m. HaveOwnKeys (keys_of new m)) (sym e) (subst (λ l. HaveOwnKeys l) (sym now_here) (once_fewer w.front w.back key (subst (λ l. HaveOwnKeys l) w.were (rows.once relation))))
      | inr n ↦ subst (λ l. HaveOwnKeys l) (sym (now_there i n)) (rows.once i)
    ];
  }
