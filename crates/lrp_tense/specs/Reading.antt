-- What the reader of queries with temporal operators ensures.
use Rattle.std.specs.Prelude.{ℕ, List, Result}
use Rattle.lrp_model.specs.RawQueries.{RawQuestion, raw_question_of}
use Rattle.lrp_model.specs.declared.faults.QueryRead.{QueryRead}
use Rattle.lrp_model.specs.declared.raw.RawQuery.{RawQuery}
use Rattle.lrp_query.specs.Reading.{IsUnreadOf}
use Rattle.lrp_tense.specs.TenseReading.{TenseTexts}
use Rattle.lrp_model.specs.Outcomes.{IsQueryOrMemory}

-- why there is no query: the fault of its text, or want of memory
abbrev pub IsTenseUnread : List ℕ → QueryRead → Type 0
IsTenseUnread = IsUnreadOf TenseTexts

-- this query, unless memory ran out
abbrev pub IsTenseOrMemory : RawQuestion → Result RawQuery QueryRead → Type 0
IsTenseOrMemory = IsQueryOrMemory raw_question_of
