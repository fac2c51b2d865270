-- The pattern asks what it did, and a tuple of the zone.
use Rattle.std.proofs.Common.{[], ◌∷◌, ◌++◌, length, sym, ap, subst, ◌∙◌}
use Rattle.lrp_steps.specs.Patterns.{AreKnown, AreNumbersAt}
use Rattle.lrp_steps.proofs.Found.{at_list, list_at, parts_more}
use Rattle.lrp_steps.proofs.lent.PieceAsked.at.Goals as goal

pub returns : goal.returns
returns c = record {
  size = c.in-Some.ensures.eight;
  zones = parts_more c.args.self.pattern.now.zones _ c.at-last.result _ (c.at-last.ensures ∙ ap (λ ps. record { zone = c.args.self.piece.now.zone; places = ps }) c.as_slice-2.ensures) (c.in_ok-zones.ensures ∙ ap (λ zones. zones ++ c.at-last.result ∷ []) c.zones.ensures);
  to = λ texts h. let g = c.in-Some.ensures.to texts h in (
    subst (λ known. AreKnown known texts) c.texts-known.ensures g.0,
    list_at c.args.places.now.texts c.args.self.piece.now.cell.texts texts c.requires.few c.requires.eight (subst (λ ps. AreNumbersAt ps c.args.self.piece.now.cell.texts (length ps) texts) c.as_slice.ensures g.1),
  );
  from = λ texts h e. c.in-Some.ensures.from texts (subst (λ known. AreKnown known texts) (sym c.texts-known.ensures) h) (subst (λ ps. AreNumbersAt ps c.args.self.piece.now.cell.texts (length ps) texts) (sym c.as_slice.ensures) (at_list c.args.places.now.texts c.args.self.piece.now.cell.texts texts c.requires.few c.requires.eight e));
  equal = c.equal.ensures;
}

pub returns-in_default : goal.returns-in_default
returns-in_default c = record {
  none = λ texts h e. c.in_default.ensures.none texts (subst (λ known. AreKnown known texts) (sym c.texts-known.ensures) h) (subst (λ ps. AreNumbersAt ps c.args.self.piece.now.cell.texts (length ps) texts) (sym c.as_slice.ensures) (at_list c.args.places.now.texts c.args.self.piece.now.cell.texts texts c.requires.few c.requires.eight e));
}
