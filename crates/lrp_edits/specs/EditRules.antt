-- The grammar of edits, as parsers over that of rows.
use Rattle.std.specs.Prelude.{ℕ, Bool, true, false, List, [], if◌then◌else◌}
use Rattle.lrp_model.specs.declared.tokens.Symbol.TheVariants.{Plus, Minus}
use Rattle.lrp_text.specs.Parsers.{Parser, ◌>>=◌, ◌>>◌, pure, eat, until_from}
use Rattle.lrp_text.specs.Taking.{is_symbol, is_end, expect, expect_end, located}
use Rattle.lrp_edits.specs.declared.edits.RawEdit.{RawEdit}
use Rattle.lrp_rel.specs.Rules.{label, row}

-- whether a row is added or taken out
unfoldable pub change : Parser Bool
change = do
  plus ← eat (is_symbol Plus)
  if plus then pure true else (do
    expect Minus
    pure false)

-- an edit: a sign, the name of a relation and a row; the number bounds the turns of each list
unfoldable pub edit : ℕ → Parser RawEdit
edit n = do
  add ← change
  who ← label
  r ← located (row n)
  pure (record { add = add; relation = who; row = r })

-- edits, and then the end
unfoldable pub edits : ℕ → Parser (List RawEdit)
edits n = do
  es ← until_from (edit n) is_end n []
  expect_end
  pure es
