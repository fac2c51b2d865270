-- A column or a text has nothing that is asked for.
use Rattle.std.proofs.Common.{◌≡◌, false, rules}
use Rattle.lrp_hulls.proofs.columns.SpanColumns.may_meet.Goals as goal

pub returns-then-not-may_have_time : goal.returns-then-not-may_have_time
returns-then-not-may_have_time c = λ _ pieces have near. let beyond : c.may_have_time.result ≡ false = search rules in c.may_have_time.ensures beyond pieces have near

pub returns-then-not-may_have_text : goal.returns-then-not-may_have_text
returns-then-not-may_have_text c = λ _ pieces have near. let beyond : c.may_have_text.result ≡ false = search rules in c.may_have_text.ensures beyond pieces have near
