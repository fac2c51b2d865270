use Rattle.lrp_run_laws.proofs.Digest.{digest_is}
use Rattle.lrp_run_laws.proofs.Follow.{followed, have_texts}
use Rattle.lrp_run_laws.specs.Contents.{digest_of}
use Rattle.lrp_run_laws.proofs.laws.pages_follow.Goals as goal

pub returns : goal.returns
returns c = λ language civil files db q from to after limit page end relations question.
    followed c.tuples_are_times_and_texts.ensures c.tokens_spell_one_tuple.ensures c.pages_resume.ensures c.texts_in_order.ensures.same (digest_of files) (digest_is files.database files.query) db q
    (have_texts c.read_texts_are_data_texts.ensures c.expanded_texts_are_data_texts.ensures c.expanded_files_have_data_texts.ensures language civil files db q relations question) from to after limit page end
