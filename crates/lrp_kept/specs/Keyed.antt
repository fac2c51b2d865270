-- Held rows under their keys, and what a row more or less makes of them.
use Rattle.std.specs.Prelude.{◌≡◌, ◌≢◌, ◌<◌, ℕ, List, [], ◌∷◌, ◌++◌, length, map, Contains, None, Some, slice_get}
use Rattle.slab.specs.Slab.{get}
use Rattle.lrp_model.specs.declared.relations.Relation.{Relation}
use Rattle.lrp_model.specs.declared.relations.Row.{Row}
use Rattle.lrp_kept.specs.Keys.{keys_at, keys_of}
use Rattle.lrp_kept.specs.EqualRows.{AreEqualRows}
use Rattle.lrp_kept.specs.declared.rows.HeldRelation.{HeldRelation}
use Rattle.lrp_kept.specs.declared.rows.HeldRows.{HeldRows}
use Rattle.lrp_kept.specs.declared.rows.HeldRow.{HeldRow}

-- the key has a row of the relation
pub record HasSource (rows : HeldRows) (relation key : ℕ) : Type 0 where
  pub source : HeldRow
  pub held : get rows.sources key ≡ Some source
  pub relation_is : source.relation ≡ relation

-- no key stands twice in the list
abbrev pub HaveOwnKeys : List ℕ → Type 0
HaveOwnKeys [] = Unit {0}
HaveOwnKeys (key ∷ keys) = (Contains keys key → ⊥) × HaveOwnKeys keys

-- each key that is listed has a row of its relation, and no key is listed twice
pub record AreHeldRows (rows : HeldRows) : Type 0 where
  pub there : (relation key : ℕ) → Contains (keys_of rows relation) key → HasSource rows relation key
  pub once : (relation : ℕ) → HaveOwnKeys (keys_of rows relation)

-- the same relation with these keys
pub record IsWithKeys (keys : List ℕ) (old new : HeldRelation) : Type 0 where
  pub name : new.name ≡ old.name
  pub columns : new.columns ≡ old.columns
  pub most : new.most ≡ old.most
  pub keys_are : new.keys.items ≡ keys

-- the keys of one relation are others, and each other relation is as it was
pub record AreRelisted (number : ℕ) (keys : List ℕ) (old new : List HeldRelation) : Type 0 where
  pub count : length new ≡ length old
  pub rest : (i : ℕ) → i ≢ number → slice_get new i ≡ slice_get old i
  pub at : (r : HeldRelation) → slice_get old number ≡ Some r → (s : HeldRelation) × (slice_get new number ≡ Some s) × IsWithKeys keys r s

-- the key at a place of one relation is taken out
pub record IsUnlisted (relation place key : ℕ) (old new : List HeldRelation) : Type 0 where
  pub front : List ℕ
  pub back : List ℕ
  pub were : keys_at old relation ≡ front ++ key ∷ back
  pub size : length front ≡ place
  pub listed : AreRelisted relation (front ++ back) old new

-- a row stands under a new key after the others of its relation
pub record IsHeldAfter (source : HeldRow) (key : ℕ) (old new : HeldRows) : Type 0 where
  pub free : get old.sources key ≡ None
  pub there : get new.sources key ≡ Some source
  pub others : (k : ℕ) → k ≢ key → get new.sources k ≡ get old.sources k
  pub listed : AreRelisted source.relation (keys_of old source.relation ++ key ∷ []) old.relations.items new.relations.items

-- the row at a place of a relation is gone, and with it its key
pub record IsLetGoAt (relation place key : ℕ) (old new : HeldRows) : Type 0 where
  pub front : List ℕ
  pub back : List ℕ
  pub were : keys_of old relation ≡ front ++ key ∷ back
  pub size : length front ≡ place
  pub gone : get new.sources key ≡ None
  pub others : (k : ℕ) → k ≢ key → get new.sources k ≡ get old.sources k
  pub listed : AreRelisted relation (front ++ back) old.relations.items new.relations.items

-- the same rows under the same keys
pub record AreSameRows (old new : HeldRows) : Type 0 where
  pub sources : (k : ℕ) → get new.sources k ≡ get old.sources k
  pub relation : ℕ
  pub listed : AreRelisted relation (keys_of old relation) old.relations.items new.relations.items

-- the row under the key at this place is equal to the row, and none before it is
pub record IsFirstEqual (rows : HeldRows) (relation : ℕ) (row : Row) (place : ℕ) : Type 0 where
  pub key : ℕ
  pub at : slice_get (keys_of rows relation) place ≡ Some key
  pub source : HeldRow
  pub held : get rows.sources key ≡ Some source
  pub equal : AreEqualRows source.row row
  pub before : (i k : ℕ) (other : HeldRow) → i < place → slice_get (keys_of rows relation) i ≡ Some k → get rows.sources k ≡ Some other → AreEqualRows other.row row → ⊥

-- no row of the relation is equal to it
pub record HasNoEqualRow (rows : HeldRows) (relation : ℕ) (row : Row) : Type 0 where
  pub none : (key : ℕ) (source : HeldRow) → Contains (keys_of rows relation) key → get rows.sources key ≡ Some source → AreEqualRows source.row row → ⊥

-- the relation, of which no row is held
pub record IsEmptyRelation (relation : Relation) (r : HeldRelation) : Type 0 where
  pub name : r.name ≡ relation.name
  pub columns : r.columns ≡ relation.columns
  pub keys : r.keys.items ≡ []
  pub most : r.most ≡ 0

-- the relations of a database, of which no row is held
pub record IsEmptyOf (db : List Relation) (rows : HeldRows) : Type 0 where
  pub names : map (λ r. r.name) rows.relations.items ≡ map (λ r. r.name) db
  pub columns : map (λ r. r.columns) rows.relations.items ≡ map (λ r. r.columns) db
  pub none : (i : ℕ) (r : HeldRelation) → slice_get rows.relations.items i ≡ Some r → (r.keys.items ≡ []) × (r.most ≡ 0)
  pub sources : (k : ℕ) → get rows.sources k ≡ None
