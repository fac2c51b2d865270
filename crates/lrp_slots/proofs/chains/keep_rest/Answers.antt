-- What is left of the chain is put in its place, and a cell with nothing left is taken out.
use Rattle.std.proofs.Common.{◌≡◌, ◌==◌, ◌∙◌, ap, sym, subst, ◌+◌, Some, None, cond, if◌then◌else◌}
use Rattle.std.specs.BTreeMap.{is_at}
use Rattle.lrp_slots.specs.declared.chains.Chain.{Chain}
use Rattle.lrp_slots.specs.Lists.{cell_cmp}
use Rattle.lrp_slots.specs.Links.{chain_at, slots_of, if_some}
use Rattle.lrp_slots.specs.Lines.{IsLine}
use Rattle.lrp_slots.proofs.Lines.{taken_updates, taken_line}
use Rattle.lrp_slots.proofs.Linked.{slots_of-insert, slots_of-remove}
use Rattle.lrp_slots.proofs.chains.keep_rest.Goals as goal

-- nothing is left
gone : (rest : Chain) → rest.count ≡ 0 → if_some rest ≡ None
gone rest e = ap (λ n. if n == 0 then None else Some rest) e

pub returns-then-rest-eq0-clause-updates : goal.returns-then-rest-eq0-clause-updates
returns-then-rest-eq0-clause-updates c = λ q.
    ap (λ es. chain_at es q) c.remove.ensures ∙ taken_updates c.args.chains.now c.args.cell.now q c.requires.line
    ∙ ap (λ o. cond (is_at (cell_cmp c.args.cell.now) q) o (chain_at c.args.chains.now q)) (sym (gone c.args.rest c.if-rest-eq0.true))

pub returns-then-rest-eq0-clause-ordered : goal.returns-then-rest-eq0-clause-ordered
returns-then-rest-eq0-clause-ordered c = subst IsLine (sym c.remove.ensures) (taken_line c.args.chains.now c.args.cell.now c.requires.line)

pub returns-then-rest-eq0-clause-total : goal.returns-then-rest-eq0-clause-total
returns-then-rest-eq0-clause-total c =
    λ chain held. ap (λ es. slots_of es + chain.count) c.remove.ensures ∙ slots_of-remove c.args.chains.now c.args.cell.now c.args.rest chain c.if-rest-eq0.true held

pub returns-clause-total : goal.returns-clause-total
returns-clause-total c =
    λ chain held. ap (λ es. slots_of es + chain.count) c.in-Ok.ensures.ok.inserted ∙ slots_of-insert c.args.chains.now c.args.cell.now c.args.rest chain c.requires.line held
