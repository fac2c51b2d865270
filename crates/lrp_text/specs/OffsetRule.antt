-- The parser of offsets after a name, as the grammars of databases and of queries both have it.
use Rattle.std.specs.Prelude.{ℕ, Bool, true, false, if◌then◌else◌}
use Rattle.lrp_model.specs.declared.tokens.Symbol.TheVariants.{Plus, Minus}
use Rattle.lrp_text.specs.Parsers.{Parser, ◌>>=◌, pure, eat}
use Rattle.lrp_text.specs.Taking.{is_symbol, number}

-- what stands after a name: nothing, or an offset downwards or upwards
pub data Offset : Type 0 where
  unmoved : Offset
  moved_by : Bool → ℕ → Offset

-- an offset, if there is one
unfoldable pub offset : Parser Offset
offset = do
  up ← eat (is_symbol Plus)
  if up then (do
    k ← number
    pure (moved_by false k)) else (do
      down ← eat (is_symbol Minus)
      if down then (do
        k ← number
        pure (moved_by true k)) else pure unmoved)
