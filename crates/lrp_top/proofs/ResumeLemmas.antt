-- What is due after where a page begins.
use Rattle.std.proofs.Common.{◌≡◌, List, Option, None, Some, Result, Ok, option_map, sym, subst}
use Rattle.std.specs.Borrow.{Bor}
use Rattle.std.specs.Option.{option_copied}
use Rattle.std.specs.Prelude.{IfSome}
use Rattle.lrp_answers.specs.Listing.{listed_tuple}
use Rattle.lrp_model.specs.Rows.{Tuple}
use Rattle.lrp_model.specs.declared.relations.Column.{Column}
use Rattle.lrp_model.specs.declared.tuples.Tuple.{Tuple as ToldTuple}
use Rattle.lrp_top.specs.Questions.{resumed_as}
use Rattle.lrp_top.specs.Steps.{After}
use Rattle.lrp_outputs.specs.declared.refusal.Refusal.{Refusal}

-- what is due after where a page begins
pub after_resumed : {B : Type 0} (head : List Column) (o : Option ToldTuple) (r : Option (Bor ToldTuple)) (Next : Option Tuple → Result B Refusal → Type 0) (result : Result B Refusal) → option_copied r ≡ o → Next (option_map (λ t. listed_tuple head t.now) r) result → After (resumed_as head (Ok o)) Next result
after_resumed head o None Next result e n = subst (λ p. After (resumed_as head (Ok p)) Next result) e n
after_resumed head o (Some t) Next result e n = subst (λ p. After (resumed_as head (Ok p)) Next result) e n

-- what holds of a tuple holds of it where it is lent
pub lent : (P : ToldTuple → Type 0) (o : Option ToldTuple) (r : Option (Bor ToldTuple)) → option_copied r ≡ o → IfSome o P → IfSome r (λ t. P t.now)
lent P o None e h = tt
lent P o (Some t) e h = subst (λ p. IfSome p P) (sym e) h
