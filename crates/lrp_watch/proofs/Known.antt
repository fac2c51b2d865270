-- What a keeper's least answer tells of the query's over the rows now held.
use Rattle.std.proofs.Common.{◌≡◌, ℕ, ◌+◌, ◌-◌, ◌*◌, ◌<◌, ◌^◌, ◌≤◌, List, length, take, Option, Some, None, option_map, sym, ap₂, subst, arith, ◌∙◌}
use Rattle.lrp_model.specs.Formulas.{question_of}
use Rattle.lrp_model.specs.Order.{IsLeast}
use Rattle.lrp_model.specs.Rows.{Tuple}
use Rattle.lrp_model.specs.Sorts.{time_count}
use Rattle.lrp_model.specs.Satisfaction.{HasShape, IsAnswer}
use Rattle.lrp_model.specs.Texts.{Text}
use Rattle.lrp_model.specs.declared.relations.Column.{Column}
use Rattle.lrp_model.specs.declared.tuples.Shape.{Shape}
use Rattle.lrp_model.specs.declared.tuples.Spot.{Spot}
use Rattle.lrp_store.specs.Least.{StandsFor}
use Rattle.lrp_answers.specs.declared.answer.Answer.{Answer}
use Rattle.lrp_answers.specs.Spots.{spot_tuple}
use Rattle.lrp_keep.specs.Keeps.{IsKeptLeast, KeepView, shape_for}
use Rattle.lrp_outputs.specs.First.{IsFirst}
use Rattle.lrp_watch.specs.LeastAnswers.{IsLeastOver}
use Rattle.lrp_outputs.proofs.Spots.{texts_known}

-- ---- the shape of an answer

abbrev shape : ℕ → ℕ → Shape
shape times texts = record { times = times; texts = texts }

texts_left : (all times texts : ℕ) → all ≡ times + texts → texts ≡ all - times
texts_left all times texts e = omega (arith, e)

pub shape_is : (a : Answer) → a.store.shape ≡ shape_for a.head.columns
shape_is a =
    let count : length a.head.columns ≡ time_count a.head.columns + a.store.shape.texts = subst (λ n. length a.head.columns ≡ n + a.store.shape.texts) (sym a.times_are) a.columns_are in
    ap₂ shape (sym a.times_are) (texts_left (length a.head.columns) (time_count a.head.columns) a.store.shape.texts count)

-- ---- the least answer of a keeper

-- the tuple that a spot stands for is told of it
abbrev pub StandsForTuples : Type 0
StandsForTuples = (columns : List Column) (shape : Shape) (domain : List Text) (spot : Spot) (tuple : Tuple) → HasShape columns tuple → StandsFor shape domain spot tuple → spot_tuple columns shape domain spot ≡ tuple

-- the least answer that is kept is the query's
pub least_told : (k : KeepView) → StandsForTuples → (o : Option Spot) → IsKeptLeast k o → IsLeastOver (question_of k.query) k.domain k.relations o
least_told k stood None none = record { first = none; known = tt }
least_told k stood (Some spot) some = record {
  first = subst (λ t. IsLeast (IsAnswer k.relations (question_of k.query)) t) (sym (stood k.query.head.columns (shape_for k.query.head.columns) k.domain spot some.tuple some.shape some.stands)) some.least;
  known = texts_known (shape_for k.query.head.columns) k.domain spot some.tuple some.stands;
}
