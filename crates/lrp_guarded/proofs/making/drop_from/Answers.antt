use Rattle.std.proofs.Common.{sym, subst}
use Rattle.std.specs.Result.{OnOk}
use Rattle.lrp_core.specs.FreeVariables.{variable_of}
use Rattle.lrp_guarded.specs.Making.{DropsFrom}
use Rattle.lrp_guarded.proofs.Drops.{drops_time, drops_data}
use Rattle.lrp_guarded.proofs.making.drop_from.Goals as goal

pub returns-in_ok-name-in-Time : goal.returns-in_ok-name-in-Time
returns-in_ok-name-in-Time c =
    subst (λ v. OnOk c.drop_time.result (DropsFrom c.args.of (variable_of v) c.args.draft.now c.drop_time.new.self)) (sym c.in-Time.is)
    (drops_time c.drop_time.result c.in-Time.name c.in_ok-name-in-Time.name c.args.of c.args.draft.now c.drop_time.new.self c.in_ok-name-in-Time.ensures c.drop_time.ensures)

pub returns-in_ok-name-in-Data : goal.returns-in_ok-name-in-Data
returns-in_ok-name-in-Data c =
    subst (λ v. OnOk c.drop_data.result (DropsFrom c.args.of (variable_of v) c.args.draft.now c.drop_data.new.self)) (sym c.in-Data.is)
    (drops_data c.drop_data.result c.in-Data.name c.in_ok-name-in-Data.name c.args.of c.args.draft.now c.drop_data.new.self c.in_ok-name-in-Data.ensures c.drop_data.ensures)
