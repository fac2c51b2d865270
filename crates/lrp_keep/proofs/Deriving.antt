-- What derivations ask of a disjunct, from its form, the kept reach and the held rows.
use Rattle.std.proofs.Common.{◌≡◌, ◌<◌, ◌≤◌, ◌+◌, ◌*◌, ◌^◌, ℕ, true, false, List, [], length, Contains, Some, arith}
use Rattle.std.specs.Prelude.{◌-◌, pos, ◌≤ℤ◌, slice_get}
use Rattle.std.specs.List.{AllByRecursion}
use Rattle.slab.specs.Slab.{get}
use Rattle.lrp_theory.specs.Divides.{Divides}
use Rattle.lrp_model.specs.Formulas.{Form}
use Rattle.lrp_model.specs.Satisfaction.{HaveDistinctNames}
use Rattle.lrp_model.specs.Sorts.{time_count}
use Rattle.lrp_model.specs.Texts.{Identifier}
use Rattle.lrp_model.specs.Variables.{Variable, free, free_each, head_variables}
use Rattle.lrp_model.specs.declared.formulas.Test.{Test}
use Rattle.lrp_plan_laws.specs.Atoms.{atoms}
use Rattle.lrp_plan_laws.specs.Scopes.{IsNarrow}
use Rattle.lrp_tables.specs.Calls.{test_period, tests_reach}
use Rattle.lrp_tables.specs.Columns.{head_texts, head_times}
use Rattle.lrp_steps.specs.Rows.{bounds_reach, CanBeRead, DividesPeriod}
use Rattle.lrp_cutting.proofs.Lists.{got_in}
use Rattle.lrp_parts.specs.Derivations.{CanBeReadBy, CanDerive, Ground}
use Rattle.lrp_kept.specs.Keys.{keys_of}
use Rattle.lrp_kept.specs.Disjuncts.{IsAtomOf, IsDisjunctOf, bound_columns}
use Rattle.lrp_kept.specs.KeptForm.{all_occur, kept_elements, is_conjunctive, is_neither, some_passes}
use Rattle.lrp_kept.specs.Outlines.{IsOutlineFor}
use Rattle.lrp_kept.specs.Sizes.{joined_reach, scaled_over}
use Rattle.lrp_kept.specs.declared.disjuncts.Disjunct.{Disjunct}
use Rattle.lrp_kept.specs.declared.disjuncts.JoinedAtom.{JoinedAtom}
use Rattle.lrp_kept.specs.declared.rows.Sketch.{Sketch}
use Rattle.lrp_kept.specs.declared.rows.HeldRow.{HeldRow}
use Rattle.lrp_parts.proofs.After.{own_reach, rises}
use Rattle.lrp_keep.proofs.HeadNames.{HaveOtherNames, head_variables_are}
use Rattle.lrp_keep.proofs.HeadRoom.{near_row, near_tests}
use Rattle.lrp_keep.proofs.KeptAnswers.{zip_back}
use Rattle.lrp_parts.proofs.Narrow.{can_be_joined, has_head}
use Rattle.lrp_kept.proofs.Room.{at_most, atom_room, tests_room}
use Rattle.lrp_keep.proofs.WholeAtoms.{some_joined}
use Rattle.lrp_plan_laws.proofs.Elements.{within}

-- the row under the key is as the atom reads it, in cells of the period, and no bound of it is above the relation's
pub record IsReadable (g : Ground) (bounds : List ℕ) (d : Disjunct) (i : ℕ) (a : JoinedAtom) (key : ℕ) : Type 0 where
  pub source : HeldRow
  pub held : get g.rows.sources key ≡ Some source
  pub read : CanBeRead a.terms source.row
  pub periods : AllByRecursion (DividesPeriod (pos g.period)) source.row.values
  pub low : bounds_reach source.row.bounds a.terms + g.period ≤ joined_reach bounds g.period a
  pub sketched : (s : Sketch) → Contains source.sketches.items s → s.disjunct ≡ d.number → s.atom ≡ i → IsOutlineFor g.domain a.vars a.terms source.row s.outline

-- the head's names: the free variables of the disjunct are among them, each occurs in an atom, and no variable that it binds has one of them
pub record IsOfHead (g : Ground) (f : Form) : Type 0 where
  pub own : HaveDistinctNames g.head
  pub few_times : length (head_times g.head) ≤ 8
  pub few_texts : length (head_texts g.head) ≤ 8
  pub known : (w : Variable) → Contains (free f) w → Contains (head_variables g.head) w
  pub occur : all_occur (kept_elements f) (head_variables g.head) ≡ true
  pub apart : HaveOtherNames g.head (bound_columns f)

-- where the limit of the reach is kept
module _ (g : Ground) (bounds : List ℕ) (ds : List Disjunct) (d : Disjunct) (listed : Contains ds d) (some : 0 < length d.atoms.items) (high : scaled_over bounds g.period g.head ds ≤ 2 ^ 62) where
  pub read_by : (i : ℕ) (a : JoinedAtom) (key : ℕ) → slice_get d.atoms.items i ≡ Some a → IsReadable g bounds d i a key → CanBeReadBy g d i a key
  read_by i a key at r =
      let own : Contains d.atoms.items a = got_in d.atoms.items i a at in
      let high_atom : 2 ^ time_count d.bound * joined_reach bounds g.period a ≤ 2 ^ 62 = atom_room bounds g.period g.head ds high d listed some a own in
      let low : bounds_reach r.source.row.bounds a.terms + g.period ≤ joined_reach bounds g.period a = r.low in
      let all : joined_reach bounds g.period a ≤ 2 ^ 62 = at_most bounds g.period g.head ds high d listed some (joined_reach bounds g.period a) high_atom in
      record {
        source = r.source;
        held = r.held;
        read = r.read;
        periods = r.periods;
        room = omega (arith, low, all);
        drops = near_row bounds g.period g.head ds high d listed some a own (bounds_reach r.source.row.bounds a.terms + g.period) low;
        sketched = r.sketched;
      }

module _ (names : List Identifier) (f : Form) (d : Disjunct) (is : IsDisjunctOf names f d) (kept : is_conjunctive (kept_elements f) ≡ true) (literal : some_passes is_neither (kept_elements f) ≡ false) (g : Ground) (bounds : List ℕ) (ds : List Disjunct) (listed : Contains ds d) (high : scaled_over bounds g.period g.head ds ≤ 2 ^ 62) where
  some : 0 < length d.atoms.items
  some = some_joined names f d is kept

  low_tests : tests_reach d.tests + g.period ≤ 2 ^ 62
  low_tests = at_most bounds g.period g.head ds high d listed some (tests_reach d.tests + g.period) (tests_room bounds g.period g.head ds high d listed some)

  number_known : (i : ℕ) (a : JoinedAtom) → slice_get d.atoms.items i ≡ Some a → a.relation < length names
  number_known i a at = let x = zip_back (IsAtomOf names) (atoms f) d.atoms.items i a is.atoms_are at in within names a.relation x.0.name x.2.name

  pub can_derive : 0 < g.period → length names ≤ length g.rows.relations.items → IsNarrow (free_each (kept_elements f)) → ((t : Test) → Contains d.tests t → (pos 1 ≤ℤ test_period t) × Divides (test_period t) (pos g.period)) → IsOfHead g f
      → ((i : ℕ) (a : JoinedAtom) (key : ℕ) → slice_get d.atoms.items i ≡ Some a → Contains (keys_of g.rows a.relation) key → IsReadable g bounds d i a key) → CanDerive g d
  can_derive low count narrow periods head rows = record {
    low = low;
    high = omega (arith, low_tests);
    some = some;
    relations = λ i a at. let l : a.relation < length names = number_known i a at in omega (arith, l, count);
    joined = λ i a at. can_be_joined names f d is literal i a at g narrow periods;
    rise = λ i j a b l p q. rises d.tests [] [] d.atoms.items is.joined i j a b l p q;
    tests = λ i a at. own_reach d.tests [] [] d.atoms.items is.joined i a at;
    tests_room = low_tests;
    room = near_tests bounds g.period g.head ds high d listed some;
    rows = λ i a key at k. read_by g bounds ds d listed some high i a key at (rows i a key at k);
    head = λ a at. has_head names f d is literal (length d.atoms.items - 1) a at g head.own head.few_times head.few_texts head.known (head_variables_are names f d is kept g.head head.occur head.apart a at);
  }
