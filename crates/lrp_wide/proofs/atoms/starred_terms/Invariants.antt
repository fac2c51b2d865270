use Rattle.lrp_wide.specs.Settings.{setting_of}
use Rattle.lrp_wide.proofs.InlineTerms.{AreStarred}
use Rattle.lrp_wide.proofs.atoms.starred_terms.Given as goal

-- the terms so far
abbrev pub invariant-loop-i : goal.invariant-loop-i
invariant-loop-i l = AreStarred (setting_of l.setting) l.met.place l.met.number l.columns l.met.terms.now l.i l.next l.all l.binders.items
