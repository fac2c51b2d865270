use Rattle.std.proofs.Common.{◌≡◌, ◌<◌, ◌≤◌, ◌-◌, length, get_or, map, ap, ◌∙◌, arith, rules}
use Rattle.lrp_core.specs.FreeVariables.{variable_of}
use Rattle.lrp_guarded.proofs.Projected.{no_columns, none_past, columns_found}
use Rattle.lrp_guarded.proofs.making.Making.columns_of.Goals.{then-number-eq0-via-then-number-eq0, then-number-eq0-via-else-number-eq0+then-number-len}
use Rattle.lrp_guarded.proofs.making.Making.columns_of.Goals as goal

pub returns-then-number-eq0 : goal.returns-then-number-eq0
returns-then-number-eq0 c = λ over K steps i m o.
    elim c.then-number-eq0.branch [ then-number-eq0-via-then-number-eq0 w ↦ no_columns steps i c.args.of.number o.number (let t = w.if-number-eq0.true in omega (arith, t)) | then-number-eq0-via-else-number-eq0+then-number-len w ↦ none_past over K c.args.self.now steps i c.args.of.number w.len.result m o.within o.number (search rules) (let t = w.if-number-len.true in omega (arith, t)) ]

pub returns : goal.returns
returns c = λ over K steps i m o.
    let l : c.len.result ≡ length c.args.self.now.columns.items = search rules in
    let le : c.args.of.number ≤ length c.args.self.now.columns.items = let t = c.if-number-len.false in omega (arith, t, l) in
    let is : c.index.result.now ≡ get_or c.args.self.now.columns.items (c.args.of.number - 1) c.index.result.now = search rules in
    ap (map variable_of) c.as_slice.ensures ∙ columns_found over K c.args.self.now steps i c.args.of.number c.index.result.now m o.number (λ z. let t = c.if-number-eq0.false in absurd (omega (arith, t, z))) le is
