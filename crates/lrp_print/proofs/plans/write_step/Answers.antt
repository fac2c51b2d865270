use Rattle.std.proofs.Common.{◌++◌, codes}
use Rattle.std.specs.Fmt.{decimal, signed_decimal}
use Rattle.lrp_model.specs.PrintedPlans.{kind_bytes}
use Rattle.std.proofs.lemmas.Result.{err_from_is_err_and}
use Rattle.lrp_io.proofs.PieceLemmas.{written_after, written_err, front_after, front_before}
use Rattle.lrp_print.proofs.plans.write_step.Goals as goal

pub returns-in_err-write_bytes-clause-text : goal.returns-in_err-write_bytes-clause-text
returns-in_err-write_bytes-clause-text g c =
    let p = err_from_is_err_and c.from_residual-in_err-write_bytes.result c.from_residual-in_err-write_bytes.ensures.1 in
    written_err _ _ ((decimal c.args.number) ++ ((codes " ") ++ ((kind_bytes c.args.step.now.kind) ++ ((codes " [period ") ++ ((signed_decimal c.args.step.now.period) ++ ((codes ", reach ") ++ ((signed_decimal c.args.step.now.reach) ++ (codes "]\n")))))))) _ p.0 p.1
    (front_after _ _ _ (decimal c.args.number) ((codes " ") ++ ((kind_bytes c.args.step.now.kind) ++ ((codes " [period ") ++ ((signed_decimal c.args.step.now.period) ++ ((codes ", reach ") ++ ((signed_decimal c.args.step.now.reach) ++ (codes "]\n"))))))) c.in_ok-write_count.ensures.text (front_before _ _ (codes " ") ((kind_bytes c.args.step.now.kind) ++ ((codes " [period ") ++ ((signed_decimal c.args.step.now.period) ++ ((codes ", reach ") ++ ((signed_decimal c.args.step.now.reach) ++ (codes "]\n")))))) c.in_err-write_bytes.ensures.text))

pub returns-in_err-write_kind-clause-text : goal.returns-in_err-write_kind-clause-text
returns-in_err-write_kind-clause-text g c =
    let p = err_from_is_err_and c.from_residual-in_err-write_kind.result c.from_residual-in_err-write_kind.ensures.1 in
    written_err _ _ ((decimal c.args.number) ++ ((codes " ") ++ ((kind_bytes c.args.step.now.kind) ++ ((codes " [period ") ++ ((signed_decimal c.args.step.now.period) ++ ((codes ", reach ") ++ ((signed_decimal c.args.step.now.reach) ++ (codes "]\n")))))))) _ p.0 p.1
    (front_after _ _ _ (decimal c.args.number) ((codes " ") ++ ((kind_bytes c.args.step.now.kind) ++ ((codes " [period ") ++ ((signed_decimal c.args.step.now.period) ++ ((codes ", reach ") ++ ((signed_decimal c.args.step.now.reach) ++ (codes "]\n"))))))) c.in_ok-write_count.ensures.text (front_after _ _ _ (codes " ") ((kind_bytes c.args.step.now.kind) ++ ((codes " [period ") ++ ((signed_decimal c.args.step.now.period) ++ ((codes ", reach ") ++ ((signed_decimal c.args.step.now.reach) ++ (codes "]\n")))))) c.in_ok-write_bytes.ensures.text (front_before _ _ (kind_bytes c.args.step.now.kind) ((codes " [period ") ++ ((signed_decimal c.args.step.now.period) ++ ((codes ", reach ") ++ ((signed_decimal c.args.step.now.reach) ++ (codes "]\n"))))) c.in_err-write_kind.ensures.text)))

pub returns-in_err-write_bytes-2-clause-text : goal.returns-in_err-write_bytes-2-clause-text
returns-in_err-write_bytes-2-clause-text g c =
    let p = err_from_is_err_and c.from_residual-in_err-write_bytes-2.result c.from_residual-in_err-write_bytes-2.ensures.1 in
    written_err _ _ ((decimal c.args.number) ++ ((codes " ") ++ ((kind_bytes c.args.step.now.kind) ++ ((codes " [period ") ++ ((signed_decimal c.args.step.now.period) ++ ((codes ", reach ") ++ ((signed_decimal c.args.step.now.reach) ++ (codes "]\n")))))))) _ p.0 p.1
    (front_after _ _ _ (decimal c.args.number) ((codes " ") ++ ((kind_bytes c.args.step.now.kind) ++ ((codes " [period ") ++ ((signed_decimal c.args.step.now.period) ++ ((codes ", reach ") ++ ((signed_decimal c.args.step.now.reach) ++ (codes "]\n"))))))) c.in_ok-write_count.ensures.text (front_after _ _ _ (codes " ") ((kind_bytes c.args.step.now.kind) ++ ((codes " [period ") ++ ((signed_decimal c.args.step.now.period) ++ ((codes ", reach ") ++ ((signed_decimal c.args.step.now.reach) ++ (codes "]\n")))))) c.in_ok-write_bytes.ensures.text (front_after _ _ _ (kind_bytes c.args.step.now.kind) ((codes " [period ") ++ ((signed_decimal c.args.step.now.period) ++ ((codes ", reach ") ++ ((signed_decimal c.args.step.now.reach) ++ (codes "]\n"))))) c.in_ok-write_kind.ensures.text (front_before _ _ (codes " [period ") ((signed_decimal c.args.step.now.period) ++ ((codes ", reach ") ++ ((signed_decimal c.args.step.now.reach) ++ (codes "]\n")))) c.in_err-write_bytes-2.ensures.text))))

pub returns-in_err-write_integer-clause-text : goal.returns-in_err-write_integer-clause-text
returns-in_err-write_integer-clause-text g c =
    let p = err_from_is_err_and c.from_residual-in_err-write_integer.result c.from_residual-in_err-write_integer.ensures.1 in
    written_err _ _ ((decimal c.args.number) ++ ((codes " ") ++ ((kind_bytes c.args.step.now.kind) ++ ((codes " [period ") ++ ((signed_decimal c.args.step.now.period) ++ ((codes ", reach ") ++ ((signed_decimal c.args.step.now.reach) ++ (codes "]\n")))))))) _ p.0 p.1
    (front_after _ _ _ (decimal c.args.number) ((codes " ") ++ ((kind_bytes c.args.step.now.kind) ++ ((codes " [period ") ++ ((signed_decimal c.args.step.now.period) ++ ((codes ", reach ") ++ ((signed_decimal c.args.step.now.reach) ++ (codes "]\n"))))))) c.in_ok-write_count.ensures.text (front_after _ _ _ (codes " ") ((kind_bytes c.args.step.now.kind) ++ ((codes " [period ") ++ ((signed_decimal c.args.step.now.period) ++ ((codes ", reach ") ++ ((signed_decimal c.args.step.now.reach) ++ (codes "]\n")))))) c.in_ok-write_bytes.ensures.text (front_after _ _ _ (kind_bytes c.args.step.now.kind) ((codes " [period ") ++ ((signed_decimal c.args.step.now.period) ++ ((codes ", reach ") ++ ((signed_decimal c.args.step.now.reach) ++ (codes "]\n"))))) c.in_ok-write_kind.ensures.text (front_after _ _ _ (codes " [period ") ((signed_decimal c.args.step.now.period) ++ ((codes ", reach ") ++ ((signed_decimal c.args.step.now.reach) ++ (codes "]\n")))) c.in_ok-write_bytes-2.ensures.text (front_before _ _ (signed_decimal c.args.step.now.period) ((codes ", reach ") ++ ((signed_decimal c.args.step.now.reach) ++ (codes "]\n"))) c.in_err-write_integer.ensures.text)))))

pub returns-in_err-write_bytes-3-clause-text : goal.returns-in_err-write_bytes-3-clause-text
returns-in_err-write_bytes-3-clause-text g c =
    let p = err_from_is_err_and c.from_residual-in_err-write_bytes-3.result c.from_residual-in_err-write_bytes-3.ensures.1 in
    written_err _ _ ((decimal c.args.number) ++ ((codes " ") ++ ((kind_bytes c.args.step.now.kind) ++ ((codes " [period ") ++ ((signed_decimal c.args.step.now.period) ++ ((codes ", reach ") ++ ((signed_decimal c.args.step.now.reach) ++ (codes "]\n")))))))) _ p.0 p.1
    (front_after _ _ _ (decimal c.args.number) ((codes " ") ++ ((kind_bytes c.args.step.now.kind) ++ ((codes " [period ") ++ ((signed_decimal c.args.step.now.period) ++ ((codes ", reach ") ++ ((signed_decimal c.args.step.now.reach) ++ (codes "]\n"))))))) c.in_ok-write_count.ensures.text (front_after _ _ _ (codes " ") ((kind_bytes c.args.step.now.kind) ++ ((codes " [period ") ++ ((signed_decimal c.args.step.now.period) ++ ((codes ", reach ") ++ ((signed_decimal c.args.step.now.reach) ++ (codes "]\n")))))) c.in_ok-write_bytes.ensures.text (front_after _ _ _ (kind_bytes c.args.step.now.kind) ((codes " [period ") ++ ((signed_decimal c.args.step.now.period) ++ ((codes ", reach ") ++ ((signed_decimal c.args.step.now.reach) ++ (codes "]\n"))))) c.in_ok-write_kind.ensures.text (front_after _ _ _ (codes " [period ") ((signed_decimal c.args.step.now.period) ++ ((codes ", reach ") ++ ((signed_decimal c.args.step.now.reach) ++ (codes "]\n")))) c.in_ok-write_bytes-2.ensures.text (front_after _ _ _ (signed_decimal c.args.step.now.period) ((codes ", reach ") ++ ((signed_decimal c.args.step.now.reach) ++ (codes "]\n"))) c.in_ok-write_integer.ensures.text (front_before _ _ (codes ", reach ") ((signed_decimal c.args.step.now.reach) ++ (codes "]\n")) c.in_err-write_bytes-3.ensures.text))))))

pub returns-in_err-write_integer-2-clause-text : goal.returns-in_err-write_integer-2-clause-text
returns-in_err-write_integer-2-clause-text g c =
    let p = err_from_is_err_and c.from_residual-in_err-write_integer-2.result c.from_residual-in_err-write_integer-2.ensures.1 in
    written_err _ _ ((decimal c.args.number) ++ ((codes " ") ++ ((kind_bytes c.args.step.now.kind) ++ ((codes " [period ") ++ ((signed_decimal c.args.step.now.period) ++ ((codes ", reach ") ++ ((signed_decimal c.args.step.now.reach) ++ (codes "]\n")))))))) _ p.0 p.1
    (front_after _ _ _ (decimal c.args.number) ((codes " ") ++ ((kind_bytes c.args.step.now.kind) ++ ((codes " [period ") ++ ((signed_decimal c.args.step.now.period) ++ ((codes ", reach ") ++ ((signed_decimal c.args.step.now.reach) ++ (codes "]\n"))))))) c.in_ok-write_count.ensures.text (front_after _ _ _ (codes " ") ((kind_bytes c.args.step.now.kind) ++ ((codes " [period ") ++ ((signed_decimal c.args.step.now.period) ++ ((codes ", reach ") ++ ((signed_decimal c.args.step.now.reach) ++ (codes "]\n")))))) c.in_ok-write_bytes.ensures.text (front_after _ _ _ (kind_bytes c.args.step.now.kind) ((codes " [period ") ++ ((signed_decimal c.args.step.now.period) ++ ((codes ", reach ") ++ ((signed_decimal c.args.step.now.reach) ++ (codes "]\n"))))) c.in_ok-write_kind.ensures.text (front_after _ _ _ (codes " [period ") ((signed_decimal c.args.step.now.period) ++ ((codes ", reach ") ++ ((signed_decimal c.args.step.now.reach) ++ (codes "]\n")))) c.in_ok-write_bytes-2.ensures.text (front_after _ _ _ (signed_decimal c.args.step.now.period) ((codes ", reach ") ++ ((signed_decimal c.args.step.now.reach) ++ (codes "]\n"))) c.in_ok-write_integer.ensures.text (front_after _ _ _ (codes ", reach ") ((signed_decimal c.args.step.now.reach) ++ (codes "]\n")) c.in_ok-write_bytes-3.ensures.text (front_before _ _ (signed_decimal c.args.step.now.reach) (codes "]\n") c.in_err-write_integer-2.ensures.text)))))))

pub returns-clause-text : goal.returns-clause-text
returns-clause-text g c =
    written_after _ _ _ (decimal c.args.number) ((codes " ") ++ ((kind_bytes c.args.step.now.kind) ++ ((codes " [period ") ++ ((signed_decimal c.args.step.now.period) ++ ((codes ", reach ") ++ ((signed_decimal c.args.step.now.reach) ++ (codes "]\n"))))))) _ c.in_ok-write_count.ensures.text (written_after _ _ _ (codes " ") ((kind_bytes c.args.step.now.kind) ++ ((codes " [period ") ++ ((signed_decimal c.args.step.now.period) ++ ((codes ", reach ") ++ ((signed_decimal c.args.step.now.reach) ++ (codes "]\n")))))) _ c.in_ok-write_bytes.ensures.text (written_after _ _ _ (kind_bytes c.args.step.now.kind) ((codes " [period ") ++ ((signed_decimal c.args.step.now.period) ++ ((codes ", reach ") ++ ((signed_decimal c.args.step.now.reach) ++ (codes "]\n"))))) _ c.in_ok-write_kind.ensures.text (written_after _ _ _ (codes " [period ") ((signed_decimal c.args.step.now.period) ++ ((codes ", reach ") ++ ((signed_decimal c.args.step.now.reach) ++ (codes "]\n")))) _ c.in_ok-write_bytes-2.ensures.text (written_after _ _ _ (signed_decimal c.args.step.now.period) ((codes ", reach ") ++ ((signed_decimal c.args.step.now.reach) ++ (codes "]\n"))) _ c.in_ok-write_integer.ensures.text (written_after _ _ _ (codes ", reach ") ((signed_decimal c.args.step.now.reach) ++ (codes "]\n")) _ c.in_ok-write_bytes-3.ensures.text (written_after _ _ _ (signed_decimal c.args.step.now.reach) (codes "]\n") _ c.in_ok-write_integer-2.ensures.text c.write_bytes-4.ensures.text))))))
