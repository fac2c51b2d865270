use Rattle.std.proofs.Common.{◌≡◌, refl, rules}
use Rattle.std.specs.BTreeSet.{keys}
use Rattle.lrp_model.specs.Texts.{in_order}
use Rattle.lrp_model.specs.Domains.{database_texts}
use Rattle.lrp_model.specs.declared.relations.Sort.TheVariants.{Data}
use Rattle.lrp_database.specs.Once.{once, texts_with}
use Rattle.lrp_plan.proofs.Gathered.{unnamed_gathers, first_unnamed}
use Rattle.lrp_plan.proofs.domains.Domains.add_unnamed.Goals as goal

pub returns-in-Some : goal.returns-in-Some
returns-in-Some c = unnamed_gathers c.see.result (database_texts c.args.database.now) c.args.text.now c.args.self.now _ c.in-Some.texts c.see.new.texts refl refl c.in-Some.is refl c.see.ensures

pub returns-in_ok-see-in-None : goal.returns-in_ok-see-in-None
returns-in_ok-see-in-None c =
    let from : keys c.in_ok-texts-in-None.texts ≡ in_order (once (texts_with Data (database_texts c.args.database.now))) = search rules in
    first_unnamed (database_texts c.args.database.now) c.args.text.now c.args.self.now _ c.in_ok-texts-in-None.texts c.see-in-None.new.texts refl refl c.in-None.is refl from c.in_ok-see-in-None.ensures
