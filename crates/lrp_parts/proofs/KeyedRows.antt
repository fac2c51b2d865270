-- Rows and their keys: what is chosen among the rows of relations is chosen among the keys.
use Rattle.std.proofs.Common.{◌≡◌, ◌≢◌, ◌<◌, ℕ, zero, suc, Bool, true, false, List, [], ◌∷◌, length, map, flat_map, Contains, Option, Some, None, ◌⊎◌, inl, inr, refl, sym, ap, subst, ◌∙◌, bytes_eq, arith}
use Rattle.std.specs.Prelude.{slice_get, find, if◌then◌else◌}
use Rattle.std.specs.List.{AllZip}
use Rattle.slab.specs.Slab.{get}
use Rattle.lrp_model.specs.Rows.{IsInRow, relation_named, rows_in, rows_of}
use Rattle.lrp_model.specs.Satisfaction.{Assignment, term_value}
use Rattle.lrp_model.specs.Texts.{AreDistinct, Identifier}
use Rattle.lrp_model.specs.declared.relations.Relation.{Relation}
use Rattle.lrp_model.specs.declared.relations.Row.{Row}
use Rattle.lrp_model.proofs.Decided.{cons_cases, contains_first, contains_later}
use Rattle.lrp_plan_laws.specs.Atoms.{Atom}
use Rattle.lrp_plan_laws.proofs.CoreLaws.{own_name}
use Rattle.lrp_plan_laws.proofs.HeadLaws.{other_name}
use Rattle.lrp_plan_laws.proofs.Members.{all_of, in_left, in_right, in_one}
use Rattle.lrp_kept.specs.Choices.{Matches}
use Rattle.lrp_parts.specs.Derivations.{AreKeysFor, MatchKeys}
use Rattle.lrp_kept.specs.Keys.{keys_in, keys_of}
use Rattle.lrp_kept.specs.Disjuncts.{IsAtomOf}
use Rattle.lrp_kept.specs.Held.{names_of, held_relation, relations_of, held_row}
use Rattle.lrp_kept.specs.declared.disjuncts.JoinedAtom.{JoinedAtom}
use Rattle.lrp_kept.specs.declared.rows.HeldRelation.{HeldRelation}
use Rattle.lrp_kept.specs.declared.rows.HeldRows.{HeldRows}
use Rattle.lrp_kept.specs.declared.rows.HeldRow.{HeldRow}
use Rattle.lrp_holdings.proofs.Chained.{none_some, some_is}

module _ (sources : ℕ → Option HeldRow) where
  abbrev rows_under : List ℕ → List Row
  rows_under keys = flat_map (λ key. held_row (sources key)) keys

  -- ---- the rows of a relation

  named_in : (rs : List HeldRelation) (i : ℕ) (r : HeldRelation) → slice_get rs i ≡ Some r → Contains (map (λ (h : HeldRelation). h.name) rs) r.name
  named_in [] i r e = absurd (none_some r e)
  named_in (h ∷ rs) zero r e = subst (λ (x : HeldRelation). Contains (map (λ (h : HeldRelation). h.name) (h ∷ rs)) x.name) (some_is h r e) (contains_first h.name (map (λ (h : HeldRelation). h.name) rs))
  named_in (h ∷ rs) (suc i) r e = contains_later h.name r.name (map (λ (h : HeldRelation). h.name) rs) (named_in rs i r e)

  pub found_at : (rs : List HeldRelation) (i : ℕ) (r : HeldRelation) → AreDistinct (map (λ (h : HeldRelation). h.name) rs) → slice_get rs i ≡ Some r → relation_named (relations_of sources rs) r.name ≡ Some (held_relation sources r)
  found_at [] i r d e = absurd (none_some r e)
  found_at (h ∷ rs) zero r d e = subst (λ (x : HeldRelation). relation_named (relations_of sources (h ∷ rs)) x.name ≡ Some (held_relation sources x)) (some_is h r e) (by (bytes_eq h.name h.name) (own_name h.name))
    where
      by : (b : Bool) → b ≡ true → (if b then Some (held_relation sources h) else find (λ relation. bytes_eq relation.name h.name) (relations_of sources rs)) ≡ Some (held_relation sources h)
      by true t = refl
      by false t = cc
  found_at (h ∷ rs) (suc i) r d e = by (bytes_eq h.name r.name) (other_name h.name r.name (λ same. all_of (λ m. h.name ≢ m) (map (λ (h : HeldRelation). h.name) rs) r.name d.0 (named_in rs i r e) (sym same))) (found_at rs i r d.1 e)
    where
      by : (b : Bool) → b ≡ false → find (λ relation. bytes_eq relation.name r.name) (relations_of sources rs) ≡ Some (held_relation sources r) → (if b then Some (held_relation sources h) else find (λ relation. bytes_eq relation.name r.name) (relations_of sources rs)) ≡ Some (held_relation sources r)
      by true t rest = cc
      by false t rest = rest

  -- a row of a list of keys has one of them
  pub key_of_row : (keys : List ℕ) (row : Row) → Contains (rows_under keys) row → (key : ℕ) × (source : HeldRow) × Contains keys key × (sources key ≡ Some source) × (source.row ≡ row)
  key_of_row [] row i = absurd (let l : i.0 < 0 = i.1 in omega (arith, l))
  key_of_row (k ∷ keys) row i = by (sources k) refl (in_one (held_row (sources k)) (rows_under keys) row i) (λ j. key_of_row keys row j)
    where
      later : (key : ℕ) × (source : HeldRow) × Contains keys key × (sources key ≡ Some source) × (source.row ≡ row) → (key : ℕ) × (source : HeldRow) × Contains (k ∷ keys) key × (sources key ≡ Some source) × (source.row ≡ row)
      later x = (x.0, x.1, contains_later k x.0 keys x.2, x.3, x.4)

      by : (o : Option HeldRow) → sources k ≡ o → Contains (held_row (sources k)) row ⊎ Contains (rows_under keys) row → (Contains (rows_under keys) row → (key : ℕ) × (source : HeldRow) × Contains keys key × (sources key ≡ Some source) × (source.row ≡ row)) → (key : ℕ) × (source : HeldRow) × Contains (k ∷ keys) key × (sources key ≡ Some source) × (source.row ≡ row)
      by None e (inl j) rest = absurd (let c : Contains (held_row None) row = subst (λ x. Contains (held_row x) row) e j in let l : c.0 < 0 = c.1 in omega (arith, l))
      by None e (inr j) rest = later (rest j)
      by (Some source) e (inl j) rest = elim (cons_cases source.row row [] (subst (λ x. Contains (held_row x) row) e j)) [
        | inl same ↦ (k, source, contains_first k keys, e, same)
        | inr more ↦ absurd (let l : more.0 < 0 = more.1 in omega (arith, l))
      ]
      by (Some source) e (inr j) rest = later (rest j)

  -- and a key that has a row gives one
  pub row_of_key : (keys : List ℕ) (key : ℕ) (source : HeldRow) → Contains keys key → sources key ≡ Some source → Contains (rows_under keys) source.row
  row_of_key [] key source i e = absurd (let l : i.0 < 0 = i.1 in omega (arith, l))
  row_of_key (k ∷ keys) key source i e = elim (cons_cases k key keys i) [
    | inl same ↦ in_left (held_row (sources k)) (rows_under keys) source.row (subst (λ x. Contains (held_row x) source.row) (sym (ap sources same ∙ e)) (contains_first source.row []))
    | inr more ↦ in_right (held_row (sources k)) (rows_under keys) source.row (row_of_key keys key source more e)
  ]

module _ (held : HeldRows) (distinct : AreDistinct (names_of held)) where
  abbrev db : List Relation
  db = relations_of (get held.sources) held.relations.items

  name_at : (rs : List HeldRelation) (i : ℕ) (v : Identifier) → slice_get (map (λ (h : HeldRelation). h.name) rs) i ≡ Some v → (r : HeldRelation) × (slice_get rs i ≡ Some r) × (r.name ≡ v)
  name_at [] i v e = absurd (none_some v e)
  name_at (h ∷ rs) zero v e = (h, refl, some_is h.name v e)
  name_at (h ∷ rs) (suc i) v e = name_at rs i v e

  -- the relation of an atom, and its rows
  pub relation_at : (a : Atom) (j : JoinedAtom) → IsAtomOf (names_of held) a j → (r : HeldRelation) × (slice_get held.relations.items j.relation ≡ Some r) × (relation_named db a.name ≡ Some (held_relation (get held.sources) r))
  relation_at a j is =
      let x = name_at held.relations.items j.relation a.name is.name in
      (x.0, x.1, ap (relation_named db) (sym x.2) ∙ found_at (get held.sources) held.relations.items j.relation x.0 distinct x.1)

  pub rows_at : (a : Atom) (j : JoinedAtom) → IsAtomOf (names_of held) a j → rows_of db a.name ≡ flat_map (λ key. held_row (get held.sources key)) (keys_of held j.relation)
  rows_at a j is =
      let x = relation_at a j is in
      ap rows_in x.2 ∙ sym (ap (λ o. flat_map (λ key. held_row (get held.sources key)) (keys_in o)) x.1)

  -- ---- choices

  -- rows that match atoms stand under keys
  pub keys_chosen : (env : Assignment) (all : List Atom) (js : List JoinedAtom) (rows : List Row) → AllZip (IsAtomOf (names_of held)) all js → AllZip (λ (a : Atom) row. Contains (rows_of db a.name) row) all rows → AllZip (Matches env) all rows → (keys : List ℕ) × AreKeysFor held js keys × (length keys ≡ length js) × MatchKeys held env js keys
  keys_chosen env [] [] [] z h m = ([], tt, refl, tt)
  keys_chosen env [] [] (row ∷ rows) z h m = absurd h
  keys_chosen env [] (j ∷ js) rows z h m = absurd z
  keys_chosen env (a ∷ all) [] rows z h m = absurd z
  keys_chosen env (a ∷ all) (j ∷ js) [] z h m = absurd h
  keys_chosen env (a ∷ all) (j ∷ js) (row ∷ rows) z h m =
      let x = key_of_row (get held.sources) (keys_of held j.relation) row (subst (λ l. Contains l row) (rows_at a j z.0) h.0) in
      let r = keys_chosen env all js rows z.1 h.1 m.1 in
      let is : IsInRow x.1.row (map (term_value env) j.terms) = subst (λ ts. IsInRow x.1.row (map (term_value env) ts)) (sym z.0.terms) (subst (λ w. IsInRow w (map (term_value env) a.terms)) (sym x.4) m.0) in
      (x.0 ∷ r.0, (x.2, r.1), ap suc r.2, (record { source = x.1; held = x.3; is = is }, r.3))

  -- and keys whose rows match give such rows
  pub rows_chosen : (env : Assignment) (all : List Atom) (js : List JoinedAtom) (keys : List ℕ) → AllZip (IsAtomOf (names_of held)) all js → AreKeysFor held js keys → length keys ≡ length js → MatchKeys held env js keys → (rows : List Row) × AllZip (λ (a : Atom) row. Contains (rows_of db a.name) row) all rows × AllZip (Matches env) all rows
  rows_chosen env [] [] [] z h l m = ([], tt, tt)
  rows_chosen env [] [] (key ∷ keys) z h l m = absurd h
  rows_chosen env [] (j ∷ js) keys z h l m = absurd z
  rows_chosen env (a ∷ all) [] keys z h l m = absurd z
  rows_chosen env (a ∷ all) (j ∷ js) [] z h l m = absurd (let e : 0 ≡ suc (length js) = l in omega (arith, e))
  rows_chosen env (a ∷ all) (j ∷ js) (key ∷ keys) z h l m =
      let source = m.0.source in
      let r = rows_chosen env all js keys z.1 h.1 (let e : suc (length keys) ≡ suc (length js) = l in omega (arith, e)) m.1 in (
        source.row ∷ r.0,
        (subst (λ xs. Contains xs source.row) (sym (rows_at a j z.0)) (row_of_key (get held.sources) (keys_of held j.relation) key source h.0 m.0.held), r.1),
        (subst (λ ts. IsInRow source.row (map (term_value env) ts)) z.0.terms m.0.is, r.2),
      )

  -- keys of which nothing is asked give rows, too
  pub rows_under_keys : (all : List Atom) (js : List JoinedAtom) (keys : List ℕ) → AllZip (IsAtomOf (names_of held)) all js → AreKeysFor held js keys → length keys ≡ length js → ((i key : ℕ) → Contains (keys_of held i) key → (source : HeldRow) × (get held.sources key ≡ Some source)) → (rows : List Row) × AllZip (λ (a : Atom) row. Contains (rows_of db a.name) row) all rows × AllZip (λ key row. (source : HeldRow) × (get held.sources key ≡ Some source) × (source.row ≡ row)) keys rows
  rows_under_keys [] [] [] z h l there = ([], tt, tt)
  rows_under_keys [] [] (key ∷ keys) z h l there = absurd h
  rows_under_keys [] (j ∷ js) keys z h l there = absurd z
  rows_under_keys (a ∷ all) [] keys z h l there = absurd z
  rows_under_keys (a ∷ all) (j ∷ js) [] z h l there = absurd (let e : 0 ≡ suc (length js) = l in omega (arith, e))
  rows_under_keys (a ∷ all) (j ∷ js) (key ∷ keys) z h l there =
      let s = there j.relation key h.0 in
      let r = rows_under_keys all js keys z.1 h.1 (let e : suc (length keys) ≡ suc (length js) = l in omega (arith, e)) there in (
        s.0.row ∷ r.0,
        (subst (λ xs. Contains xs s.0.row) (sym (rows_at a j z.0)) (row_of_key (get held.sources) (keys_of held j.relation) key s.0 h.0 s.1), r.1),
        ((s.0, s.1, refl), r.2),
      )
