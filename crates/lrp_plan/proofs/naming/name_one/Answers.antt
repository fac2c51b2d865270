use Rattle.std.proofs.Common.{◌≡◌, ℕ, List, true, false, cond, Some, subst, rules}
use Rattle.std.specs.Option.{is_some}
use Rattle.std.specs.Str.{bytes_eq}
use Rattle.std.specs.HashMap.{get}
use Rattle.lrp_limits.specs.Facts.{AreFacts}
use Rattle.lrp_plan.proofs.Names.{stays_named, is_named}
use Rattle.lrp_plan.proofs.naming.name_one.Goals as goal

pub returns-in_ok-insert : goal.returns-in_ok-insert
returns-in_ok-insert c = λ before h name.
    let there : is_some (get bytes_eq c.args.facts.now c.args.relation.now.name) ≡ false = search rules in
    let put : (n : List ℕ) → get bytes_eq c.insert.new.self n ≡ cond (bytes_eq c.args.relation.now.name n) (Some c.facts_of-of_rows.result) (get bytes_eq c.args.facts.now n) =
    λ n. subst (λ k. get bytes_eq c.insert.new.self n ≡ cond (bytes_eq k n) (Some c.facts_of-of_rows.result) (get bytes_eq c.args.facts.now n)) c.in_ok-copy.ensures (c.in_ok-insert.ensures.updates.0 n) in
    let facts : AreFacts c.args.relation.now.rows c.facts_of-of_rows.result = subst (λ rows. AreFacts rows c.facts_of-of_rows.result) c.as_slice.ensures c.facts_of-of_rows.ensures in
    is_named c.args.relation.now c.facts_of-of_rows.result before (get bytes_eq c.args.facts.now) (get bytes_eq c.insert.new.self) facts there put h name

pub returns-else-not-contains_key : goal.returns-else-not-contains_key
returns-else-not-contains_key c = λ before h name.
    let there : is_some (get bytes_eq c.args.facts.now c.args.relation.now.name) ≡ true = search rules in
    stays_named c.args.relation.now before (get bytes_eq c.args.facts.now) there h name
