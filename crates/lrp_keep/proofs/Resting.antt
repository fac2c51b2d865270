-- What the answers of a keeper rest on, from a query that is well-sorted for relations of the same columns.
use Rattle.std.proofs.Common.{◌≡◌, ℕ, true, List, map, Contains, Some}
use Rattle.std.specs.Prelude.{reverse, slice_get}
use Rattle.slab.specs.Slab.{get}
use Rattle.lrp_model.specs.DatabaseMeaning.{column_of}
use Rattle.lrp_model.specs.Checked.{plain_question}
use Rattle.lrp_model.specs.Domains.{constants}
use Rattle.lrp_model.specs.RawQueries.{RawQuestion}
use Rattle.lrp_model.specs.Sorting.{IsWellSorted}
use Rattle.lrp_model.specs.Texts.{AreDistinct, Ascends}
use Rattle.lrp_model.specs.declared.relations.Relation.{Relation}
use Rattle.std.specs.List.{AllByRecursion}
use Rattle.lrp_plan_laws.proofs.GuardLaws.{domain_known}
use Rattle.lrp_plan_laws.proofs.Members.{all_of}
use Rattle.lrp_plan_laws.proofs.SortedScopes.{head_names}
use Rattle.lrp_parts.specs.Derivations.{Ground}
use Rattle.lrp_kept.specs.Disjuncts.{AreDisjunctsOf}
use Rattle.lrp_kept.specs.Held.{names_of, relations_of}
use Rattle.lrp_kept.specs.KeptForm.{is_kept}
use Rattle.lrp_kept.specs.SortedForms.{HaveColumnsOf}
use Rattle.lrp_kept.specs.declared.disjuncts.Disjunct.{Disjunct}
use Rattle.lrp_keep.proofs.KeptAnswers.{IsWholeAt, RestsOn}
use Rattle.lrp_kept.proofs.SortedForms.{disjuncts_sorted}
use Rattle.lrp_kept.proofs.SortedHeads.{in_turned, of_turned, same_form, turned_own}

pub rests_on : (g : Ground) (raw : RawQuestion) (ds : List Disjunct) (db : List Relation) → IsWellSorted db raw → HaveColumnsOf db (relations_of (get g.rows.sources) g.rows.relations.items) → g.head ≡ (plain_question raw).head → AreDistinct (names_of g.rows) → AreDisjunctsOf (names_of g.rows) (plain_question raw) ds
    → ((i : ℕ) (d : Disjunct) → slice_get ds i ≡ Some d → IsWholeAt d) → is_kept (plain_question raw) ≡ true → Ascends g.domain → AllByRecursion (Contains g.domain) (constants (relations_of (get g.rows.sources) g.rows.relations.items) (plain_question raw))
    → RestsOn g (plain_question raw) (map column_of (reverse raw.head)) ds
rests_on g raw ds db well have head distinct disjuncts whole kept ascends known = record {
  head = head;
  distinct = distinct;
  disjuncts = disjuncts;
  whole = whole;
  kept = kept;
  sorted = λ f i. same_form db (relations_of (get g.rows.sources) g.rows.relations.items) have f (map column_of (reverse raw.head)) (disjuncts_sorted db raw well f i);
  names = head_names db raw well;
  own = turned_own raw.head (head_names db raw well);
  columns = λ c i. in_turned raw.head c i;
  binders = λ c i. of_turned raw.head c i;
  ascends = ascends;
  known = λ s t i. all_of (Contains g.domain) (constants (relations_of (get g.rows.sources) g.rows.relations.items) (plain_question raw)) t known (domain_known (relations_of (get g.rows.sources) g.rows.relations.items) (plain_question raw) s t i);
}
