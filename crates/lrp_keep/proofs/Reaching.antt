-- No zone of a choice's answers has a greater reach than the kept one.
use Rattle.std.proofs.Common.{◌≡◌, ◌<◌, ◌≤◌, ◌+◌, ◌*◌, ◌^◌, ℕ, List, [], ◌∷◌, length, Contains, Some, sym, subst, arith}
use Rattle.std.specs.Prelude.{◌-◌}
use Rattle.std.proofs.lemmas.Option.{same_Some}
use Rattle.slab.specs.Slab.{get}
use Rattle.lrp_model.specs.Sorts.{time_count}
use Rattle.lrp_model.proofs.Decided.{contains_first, contains_later}
use Rattle.lrp_store.specs.Stores.{HasReach}
use Rattle.lrp_steps.specs.Rows.{bounds_reach}
use Rattle.lrp_parts.specs.Derivations.{AreKeysFor, AreRowsWithin, AreSound, Ground, HoldsIn, Levels}
use Rattle.lrp_kept.specs.Keys.{keys_of}
use Rattle.lrp_kept.specs.Sizes.{joined_reach, reach_over}
use Rattle.lrp_keep.specs.Taken.{HeldHaveReach}
use Rattle.lrp_kept.specs.declared.disjuncts.Disjunct.{Disjunct}
use Rattle.lrp_kept.specs.declared.disjuncts.JoinedAtom.{JoinedAtom}
use Rattle.lrp_kept.specs.declared.rows.HeldRow.{HeldRow}
use Rattle.lrp_kept.proofs.Room.{low_atom, low_tests, low_times, most_bound, room, stepped_reach}
use Rattle.lrp_steps.proofs.Steps.{farther}

-- no row of the atom has a bound above its relation's
abbrev pub HaveLowRows : Ground → List ℕ → List JoinedAtom → Type 0
HaveLowRows g bounds atoms = (a : JoinedAtom) (key : ℕ) (s : HeldRow) → Contains atoms a → Contains (keys_of g.rows a.relation) key → get g.rows.sources key ≡ Some s → bounds_reach s.row.bounds a.terms + g.period ≤ joined_reach bounds g.period a

rows_within : (g : Ground) (high : ℕ) (atoms : List JoinedAtom) (keys : List ℕ) → AreKeysFor g.rows atoms keys
    → ((a : JoinedAtom) (key : ℕ) (s : HeldRow) → Contains atoms a → Contains (keys_of g.rows a.relation) key → get g.rows.sources key ≡ Some s → bounds_reach s.row.bounds a.terms + g.period ≤ high) → AreRowsWithin g high atoms keys
rows_within g high [] [] k each = tt
rows_within g high (a ∷ atoms) [] k each = tt
rows_within g high [] (key ∷ keys) k each = absurd k
rows_within g high (a ∷ atoms) (key ∷ keys) k each =
    ((λ s e. each a key s (contains_first a atoms) k.0 e), rows_within g high atoms keys k.1 (λ b other s c l e. each b other s (contains_later a b atoms c) l e))

module _ (g : Ground) (bounds : List ℕ) (ds : List Disjunct) (d : Disjunct) (listed : Contains ds d) (some : 0 < length d.atoms.items) (rows : HaveLowRows g bounds d.atoms.items) where
  abbrev P : ℕ
  P = g.period

  abbrev high : ℕ
  high = stepped_reach bounds P ds

  low_row : (a : JoinedAtom) (key : ℕ) (s : HeldRow) → Contains d.atoms.items a → Contains (keys_of g.rows a.relation) key → get g.rows.sources key ≡ Some s → bounds_reach s.row.bounds a.terms + P ≤ high
  low_row a key s i k e = let l : bounds_reach s.row.bounds a.terms + P ≤ joined_reach bounds P a = rows a key s i k e in let m : joined_reach bounds P a ≤ high = low_atom bounds P ds d listed some a i in omega (arith, l, m)

  -- what is held of whole choices has at most the kept reach
  pub low_answers : (levels : Levels) → AreSound g d levels → HeldHaveReach (HoldsIn levels (length levels - 1)) (reach_over bounds P ds)
  low_answers levels sound keys s held =
      let one = sound.each (length levels - 1) keys (Some s) held in
      let n : length levels ≡ length d.atoms.items = sound.count in
      let count : length keys ≡ length levels - 1 + 1 = one.0 in
      let found = one.1.answers (omega (arith, n, count, some)) in
      let l : 2 ^ time_count d.bound * high ≤ high * 2 ^ most_bound ds = room (time_count d.bound) (most_bound ds) high high (low_times bounds P ds d listed some) (omega arith) in
      let r : HasReach found.0 (2 ^ time_count d.bound * high) = found.2.reach high (record { rows = rows_within g high d.atoms.items keys one.1.rows low_row; tests = low_tests bounds P ds d listed some }) in
      farther s (2 ^ time_count d.bound * high) (reach_over bounds P ds) l (subst (λ x. HasReach x (2 ^ time_count d.bound * high)) (sym (same_Some s found.0 found.1)) r)
