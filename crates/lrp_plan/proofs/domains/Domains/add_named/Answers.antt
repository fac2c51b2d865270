use Rattle.std.proofs.Common.{◌≡◌, Some, None, cond, refl, ap, ◌∙◌, subst, rules}
use Rattle.std.specs.Str.{bytes_eq}
use Rattle.std.specs.BTreeSet.{keys}
use Rattle.std.specs.HashMap.{get}
use Rattle.lrp_model.specs.Texts.{Identifier, in_order}
use Rattle.lrp_model.specs.Domains.{database_texts}
use Rattle.lrp_database.specs.Once.{once, texts_with}
use Rattle.lrp_plan.proofs.Gathered.{named_gathers, first_gathers}
use Rattle.lrp_plan.proofs.domains.Domains.add_named.Goals as goal

pub returns-in-Some : goal.returns-in-Some
returns-in-Some c =
    let had : get bytes_eq c.args.self.now.named c.args.name.now ≡ Some c.in-Some.texts.now = search rules in
    named_gathers c.see.result (database_texts c.args.database.now) c.args.sort.now c.args.name.now c.args.text.now c.args.self.now (record c.args.self.now { named = c.get_mut.follows.lender c.see.new.texts }) c.in-Some.texts.now c.see.new.texts c.requires had refl refl ((c.get_mut.follows.holds c.see.new.texts).3 (search rules)).0 c.see.ensures

pub returns-in_ok-insert-in-None : goal.returns-in_ok-insert-in-None
returns-in_ok-insert-in-None c =
    let none : get bytes_eq c.args.self.now.named c.args.name.now ≡ None = search rules in
    let from : keys c.in_ok-texts-in-None.texts ≡ in_order (once (texts_with c.args.sort.now (database_texts c.args.database.now))) = search rules in
    let put : (m : Identifier) → get bytes_eq c.insert.new.self m ≡ cond (bytes_eq c.args.name.now m) (Some c.see-in-None.new.texts) (get bytes_eq c.args.self.now.named m) =
    λ m. subst (λ k. get bytes_eq c.insert.new.self m ≡ cond (bytes_eq k m) (Some c.see-in-None.new.texts) (get bytes_eq c.args.self.now.named m)) c.in_ok-copy-in-None.ensures (c.in_ok-insert-in-None.ensures.updates.0 m ∙ ap (λ named. cond (bytes_eq c.in_ok-copy-in-None.field-0 m) (Some c.see-in-None.new.texts) (get bytes_eq named m)) c.get_mut.follows.holds-at-none) in
    first_gathers (database_texts c.args.database.now) c.args.sort.now c.args.name.now c.args.text.now c.args.self.now (record c.args.self.now { named = c.insert.new.self }) c.in_ok-texts-in-None.texts c.see-in-None.new.texts c.requires none refl refl put from c.in_ok-see-in-None.ensures
