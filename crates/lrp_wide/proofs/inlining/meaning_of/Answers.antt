use Rattle.std.proofs.Common.{◌≡◌, Some, None, subst, sym, arith}
use Rattle.lrp_wide.specs.Inside.{IsWholeIfAny, IsMeant, IsWholeWritten}
use Rattle.lrp_wide.proofs.InlineAtoms.{meant-alone, meant-named, meant-other}
use Rattle.lrp_wide.proofs.inlining.meaning_of.Goals as goal

pub returns : goal.returns
returns c =
    let e : c.args.scene.now.written ≡ Some c.in_ok-written.written = c.in_ok-written.was in
    let whole : IsWholeWritten c.in_ok-written.written = subst IsWholeIfAny e c.requires in
    record {
      named = record { whole = whole; written = e; before = c.in_ok-number.ensures.before; there = omega (arith, c.in_ok-number.ensures.there, whole.definitions) };
      meaning = λ file around. meant-named c.args.scene.now file c.args.name.now around c.in_ok-written.written e c.in_ok-number.number (sym c.in_ok-number.ensures.number) c.in_ok-number.ensures.before;
    }

pub returns-in_err-written : goal.returns-in_err-written
returns-in_err-written c =
    let e : c.args.scene.now.written ≡ None = c.in_err-written.was in
    subst (IsMeant c.args.scene.now c.args.name.now) (sym c.from_residual.ensures) (record { named = tt; meaning = λ file around. meant-alone c.args.scene.now file c.args.name.now around e })

pub returns-in_err-number : goal.returns-in_err-number
returns-in_err-number c =
    let e : c.args.scene.now.written ≡ Some c.in_ok-written.written = c.in_ok-written.was in
    subst (IsMeant c.args.scene.now c.args.name.now) (sym c.from_residual-in_err-number.ensures) (record {
      named = tt;
      meaning = λ file around. meant-other c.args.scene.now file c.args.name.now around c.in_ok-written.written e (sym c.in_err-number.ensures.number);
    })
