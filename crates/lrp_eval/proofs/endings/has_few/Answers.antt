-- The step before has no fewer cells, or a bound shows that there are few.
use Rattle.std.proofs.Common.{subst}
use Rattle.std.specs.Prelude.{ℕ, IfSome, IsTrue, None, Option, Some}
use Rattle.std.specs.Option.{is_some}
use Rattle.lrp_eval.proofs.GroupSteps.{drop_shows, held_whole, parts_show}
use Rattle.lrp_eval.proofs.endings.has_few.Goals as goal

some_holds : (o : Option ℕ) (P : Type 0) → IsTrue (is_some o) → IfSome o (λ count. P) → P
some_holds (Some n) P e h = h
some_holds None P e h = cc

pub bound_of-requires : goal.bound_of-requires
bound_of-requires c = held_whole c.requires.group c.requires.made c.requires.step c.args.parts.now c.requires.parts

pub returns-then-drops_last : goal.returns-then-drops_last
returns-then-drops_last c = λ e. drop_shows c.requires.group c.requires.made c.requires.step (c.drops_last.ensures c.if-drops_last.true)

pub returns : goal.returns
returns c = λ e. parts_show c.requires.group c.requires.made c.requires.step c.args.parts.now c.requires.parts (some_holds c.bound_of.result _ (subst IsTrue c.is_some.ensures e) c.bound_of.ensures)
