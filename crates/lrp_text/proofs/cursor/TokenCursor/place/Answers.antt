use Rattle.lrp_text.proofs.Looking.{look_place}
use Rattle.lrp_text.proofs.cursor.TokenCursor.place.Goals as goal

pub returns : goal.returns
returns c = look_place _ _ _ _ c.peek.ensures
