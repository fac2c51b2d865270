-- What calls say of files that are too long.
use Rattle.std.specs.Prelude.{Result}
use Rattle.lrp_model.specs.Texts.{Identifier}
use Rattle.lrp_outputs.specs.declared.refusal.Refusal.{Refusal}
use Rattle.lrp_top.specs.Due.{IsLengthOrMemory}
use Rattle.lrp_top.specs.Seen.{ShelfSeen, IsOverrun}

-- where the started file may have been overrun, whatever its name, a file is too long
abbrev pub TellsLength : {B : Type 0} → ShelfSeen → Result B Refusal → Type 0
TellsLength seen result = (name : Identifier) → IsOverrun seen name → IsLengthOrMemory result
