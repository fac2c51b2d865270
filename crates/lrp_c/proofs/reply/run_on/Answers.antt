-- The run is over the files that the shelf has, and never fails at them.
use Rattle.std.proofs.Common.{◌≡◌, Some, sym, ap, ◌∙◌}
use Rattle.lrp_io.specs.Files.{holds_file}
use Rattle.lrp_c.proofs.RunLemmas.{run_is_over, never_fails, no_fault_of}
use Rattle.lrp_c.proofs.reply.run_on.Goals as goal

pub returns : goal.returns
returns g c =
    let stock = g.K.Stock.files in
    let same : c.args.files ≡ stock = c.requires in
    run_is_over c.run-status.ensures.run (ap Some c.new-shelf.result.same ∙ ap Some (sym same))
    (λ name is failed. never_fails _ _ (no_fault_of stock name c.run-status.new.shelf.held.faults (ap (λ fs. holds_file fs name) (sym same) ∙ is)) failed)
    (ap Some c.new-text.ensures.empty) (ap Some (sym c.into_bytes.ensures))
