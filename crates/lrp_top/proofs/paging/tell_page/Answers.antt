-- The text was written whole, or a front of it.
use Rattle.std.proofs.Common.{Ok, refl}
use Rattle.lrp_outputs.specs.Outputs.{page_text}
use Rattle.lrp_top.proofs.Endings.{ends_cut, ends_whole}
use Rattle.lrp_top.proofs.paging.tell_page.Goals as goal

pub returns-in-Ok : goal.returns-in-Ok
returns-in-Ok g c = ends_whole (Ok (page_text c.args.page.now)) _ _ c.in-Ok.ensures.text refl

pub returns-in-Err : goal.returns-in-Err
returns-in-Err g c = ends_cut (Ok (page_text c.args.page.now)) _ c.in-Err.ensures.text (c.in-Err.ensures.cause.failed)
