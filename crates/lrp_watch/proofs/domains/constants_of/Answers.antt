-- The texts that were gathered are those of the database, of the query and of the edits.
use Rattle.std.proofs.Common.{◌≡◌, ◌++◌, rules}
use Rattle.std.specs.Prelude.{flat_map}
use Rattle.lrp_model.specs.Domains.{database_texts, form_texts}
use Rattle.lrp_model.specs.Formulas.{question_of}
use Rattle.lrp_database.specs.Once.{once, texts_among}
use Rattle.lrp_watch.specs.Watching.{row_texts_of}
use Rattle.lrp_watch.proofs.Constants.{constants_made}
use Rattle.lrp_watch.proofs.domains.constants_of.Goals as goal

pub returns : goal.returns
returns c =
    let db = c.args.database.now in
    let q = question_of c.args.query.now in
    let e : c.from_vec.result ≡ (once (texts_among (database_texts db)) ++ texts_among (form_texts q.body db q.head)) ++ flat_map row_texts_of c.args.edits.now = search rules in
    constants_made c.new.result c.from_vec.result (database_texts db) (form_texts q.body db q.head) (flat_map row_texts_of c.args.edits.now) e c.new.ensures
