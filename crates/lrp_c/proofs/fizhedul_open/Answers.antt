-- The session is opened, or the handle is as it was.
use Rattle.std.proofs.Common.{inl, refl}
use Rattle.lrp_c.proofs.fizhedul_open.Goals as goal

pub returns-in-Ok : goal.returns-in-Ok
returns-in-Ok c = inl (refl, (c.in-Ok.boxed.value.files, c.give_back.ensures, c.in-Ok.ensures.packed))
