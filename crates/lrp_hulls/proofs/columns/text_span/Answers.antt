-- What was read stands there.
use Rattle.std.proofs.Common.{◌≡◌, Some, length, refl, subst}
use Rattle.std.specs.Prelude.{slice_get}
use Rattle.std.proofs.lemmas.Option.{slice_get_read}
use Rattle.lrp_hulls.proofs.columns.text_span.Goals as goal

pub returns : goal.returns
returns c = record {
  column = c.in_ok-column.column.now;
  is = slice_get_read c.args.columns.now (length c.args.columns.now) c.args.i c.in_ok-column.column.now refl c.in_ok-column.ensures.lookup.3.0 c.in_ok-column.ensures.lookup.1;
  there = subst (λ l. slice_get l c.args.number ≡ Some c.in_ok-span.span.now) c.deref.ensures.value
      (slice_get_read c.deref.result.now (length c.deref.result.now) c.args.number c.in_ok-span.span.now refl c.in_ok-span.ensures.lookup.3.0 c.in_ok-span.ensures.lookup.1);
}
