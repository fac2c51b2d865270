-- The lines of the least answers of a query that is decided anew.
use Rattle.std.proofs.Common.{ℕ, ◌≤◌, List, [], ◌∷◌, length, map, flat_map, Option, option_map, sym, subst}
use Rattle.std.specs.List.{AllByRecursion, AllZip}
use Rattle.lrp_model.specs.Formulas.{Question, question_of}
use Rattle.lrp_model.specs.Rows.{Tuple}
use Rattle.lrp_model.specs.Texts.{Text}
use Rattle.lrp_model.specs.declared.formulas.Query.{Query}
use Rattle.lrp_model.specs.declared.plans.Planning.{Planning}
use Rattle.lrp_model.specs.declared.relations.Relation.{Relation}
use Rattle.lrp_model.specs.declared.tuples.Spot.{Spot}
use Rattle.lrp_answers.specs.declared.answer.Answer.{Answer}
use Rattle.lrp_edits.specs.declared.edits.Edit.{Edit}
use Rattle.lrp_kept.proofs.SortedDisjuncts.{few_head_texts, few_head_times}
use Rattle.lrp_keep.specs.Keeps.{IsSortedQuery, KeepView}
use Rattle.lrp_outputs.specs.First.{IsFirst, first_line}
use Rattle.lrp_outputs.specs.Spots.{IsKnownLeast, answer_tuple}
use Rattle.lrp_tables.specs.Columns.{head_texts, head_times}
use Rattle.lrp_watch.specs.Anew.{TellsLeastsAnew}
use Rattle.lrp_watch.specs.Decided.{AreDecided}
use Rattle.lrp_watch.specs.LeastAnswers.{HasFewColumns, IsLeastOver, IsOverHead}
use Rattle.lrp_watch.proofs.Tellings.{firsts_told, known_told, lines_of}

pub few_columns_of : (db : List Relation) (query : Query) → IsSortedQuery db (question_of query) → HasFewColumns query.head.columns
few_columns_of db query is = record {
  times = subst (λ (p : Question). length (head_times p.head) ≤ 8) (sym is.is) (few_head_times db is.raw is.sorted);
  texts = subst (λ (p : Question). length (head_texts p.head) ≤ 8) (sym is.is) (few_head_texts db is.raw is.sorted);
}

module _ (query : Query) (domain : List Text) (a : Answer) (over : IsOverHead query domain a) where
  -- relations as they would be kept
  abbrev kept : List Relation → KeepView
  kept db = record { query = query; domain = domain; cap = 0; relations = db; period = 0; bounds = [] }

  abbrev AreLeasts : List (List Relation) → List (Option Spot) → Type 0
  AreLeasts dbs spots = AllZip (λ held least. IsLeastOver (question_of query) domain held least) dbs spots

  abbrev AreFirsts : List (List Relation) → List (Option Tuple) → Type 0
  AreFirsts dbs firsts = AllZip (λ held first. IsFirst held (question_of query) first) dbs firsts

  to_kept : (dbs : List (List Relation)) (spots : List (Option Spot)) → AreLeasts dbs spots → AllZip (λ (l : KeepView) least. IsLeastOver (question_of query) domain l.relations least) (map kept dbs) spots
  to_kept [] [] h = tt
  to_kept [] (s ∷ spots) h = absurd h
  to_kept (d ∷ dbs) [] h = absurd h
  to_kept (d ∷ dbs) (s ∷ spots) h = (h.0, to_kept dbs spots h.1)

  from_kept : (dbs : List (List Relation)) (firsts : List (Option Tuple)) → AllZip (λ (l : KeepView) first. IsFirst l.relations (question_of query) first) (map kept dbs) firsts → AreFirsts dbs firsts
  from_kept [] [] h = tt
  from_kept [] (s ∷ firsts) h = absurd h
  from_kept (d ∷ dbs) [] h = absurd h
  from_kept (d ∷ dbs) (s ∷ firsts) h = (h.0, from_kept dbs firsts h.1)

  module _ (way : Planning) (cap : ℕ) (edits : List Edit) (db : List Relation) (spots : List (Option Spot)) (d : AreDecided way (question_of query) cap domain edits db spots) where
    pub known_anew : AllByRecursion (IsKnownLeast a) spots
    known_anew = known_told (kept db) a over (map kept (db ∷ d.later)) spots (to_kept (db ∷ d.later) spots d.leasts)

    pub told_anew : TellsLeastsAnew way db (question_of query) edits cap (flat_map (λ least. first_line (option_map (answer_tuple a) least)) spots)
    told_anew = record {
      later = d.later;
      edited = d.edited;
      within = d.within;
      firsts = map (option_map (answer_tuple a)) spots;
      are = from_kept (db ∷ d.later) (map (option_map (answer_tuple a)) spots) (firsts_told (kept db) a over (map kept (db ∷ d.later)) spots (to_kept (db ∷ d.later) spots d.leasts));
      spelled = lines_of (option_map (answer_tuple a)) spots;
    }
