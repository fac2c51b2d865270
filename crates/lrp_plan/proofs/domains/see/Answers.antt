use Rattle.std.proofs.Common.{◌≡◌, true, rules}
use Rattle.std.specs.BTreeSet.{contains}
use Rattle.lrp_model.specs.Texts.{text_cmp}
use Rattle.lrp_plan.proofs.Gathered.{takes_new, takes_there}
use Rattle.lrp_plan.proofs.domains.see.Goals as goal

pub returns-in_ok-insert : goal.returns-in_ok-insert
returns-in_ok-insert c = takes_new c.args.text.now c.in_ok-copy.field-0 c.args.texts.now.keys c.insert.new.self.keys c.in_ok-copy.ensures c.in_ok-insert.ensures.keys

pub returns-else-not-contains : goal.returns-else-not-contains
returns-else-not-contains c =
    let there : contains text_cmp c.args.texts.now c.args.text.now ≡ true = search rules in
    takes_there c.args.text.now c.args.texts.now there
