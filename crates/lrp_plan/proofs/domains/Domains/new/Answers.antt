use Rattle.std.proofs.Common.{◌≡◌, None, refl, rules}
use Rattle.std.specs.Str.{bytes_eq}
use Rattle.std.specs.BTreeSet.{keys}
use Rattle.std.specs.HashMap.{get}
use Rattle.lrp_model.specs.Texts.{Identifier, in_order}
use Rattle.lrp_model.specs.Domains.{database_texts}
use Rattle.lrp_model.specs.declared.relations.Sort.TheVariants.{Time}
use Rattle.lrp_database.specs.Once.{once, texts_with}
use Rattle.lrp_plan.proofs.Gathered.{begins_all}
use Rattle.lrp_plan.proofs.domains.Domains.new.Goals as goal

pub returns : goal.returns
returns c =
    let timed : keys c.in_ok-timed.timed ≡ in_order (once (texts_with Time (database_texts c.args.database.now))) = search rules in
    let none : (m : Identifier) → get bytes_eq c.new.result m ≡ None = λ m. search rules in
    begins_all (database_texts c.args.database.now) (record { alloc = c.args.alloc; timed = c.in_ok-timed.timed; unnamed = None; named = c.new.result }) timed refl none
