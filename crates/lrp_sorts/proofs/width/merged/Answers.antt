use Rattle.std.proofs.Common.{sym, subst}
use Rattle.lrp_sorts.specs.Widths.{AreKeptNames, names_after}
use Rattle.lrp_sorts.proofs.RawNodes.{if_ok_then}
use Rattle.lrp_sorts.proofs.Tallies.{turned_kept}
use Rattle.lrp_sorts.proofs.width.merged.Goals as goal

pub returns-then-len : goal.returns-then-len
returns-then-len c =
    if_ok_then c.appended.result _ _ c.appended.ensures (λ made h passes bs names more a b.
    turned_kept passes bs c.args.quantifiers names more (names_after made.items)
    (h passes bs more names b (subst (λ l. AreKeptNames passes bs c.args.quantifiers names (names_after l)) (sym c.deref.ensures.value) a)))

pub returns : goal.returns
returns c =
    if_ok_then c.appended-else-len.result _ _ c.appended-else-len.ensures (λ made h passes bs names more a b.
    h passes bs names more a (subst (λ l. AreKeptNames passes bs c.args.quantifiers more (names_after l)) (sym c.deref-else-len.ensures.value) b))
