use Rattle.lrp_plan_laws.proofs.CoreLaws.{keeps, denies, core_is}
use Rattle.lrp_plan_laws.proofs.laws.core_form_is_sound.Goals as goal

pub returns-clause-keeps : goal.returns-clause-keeps
returns-clause-keeps c = λ f named M env. keeps f named M env

pub returns-clause-denies : goal.returns-clause-denies
returns-clause-denies c = λ f named M env. denies f named M env

pub returns-clause-query : goal.returns-clause-query
returns-clause-query c = λ named q M env. core_is named q M env
