-- A page, or what is told of all answers.
use Rattle.std.proofs.Common.{subst}
use Rattle.lrp_top.specs.Questions.{IsProperPurpose}
use Rattle.lrp_top.proofs.KeepingLemmas.{kept_as, kept_own}
use Rattle.lrp_top.proofs.PagingLemmas.{asked_told}
use Rattle.lrp_top.proofs.paging.ask.Goals as goal

pub ask_page-requires-clause-proper : goal.ask_page-requires-clause-proper
ask_page-requires-clause-proper g c = subst IsProperPurpose c.in-Page.is c.requires.proper

pub ask_page-requires-clause-kept : goal.ask_page-requires-clause-kept
ask_page-requires-clause-kept g c = kept_as _ c.args.kept c.requires.reads c.requires.kept

pub ask_whole-requires-clause-kept : goal.ask_whole-requires-clause-kept
ask_whole-requires-clause-kept g c = kept_as _ c.args.kept c.requires.reads c.requires.kept

pub returns-in-Page-clause-kept : goal.returns-in-Page-clause-kept
returns-in-Page-clause-kept g c = kept_own _ _ _ c.ask_page.ensures.kept

pub returns-in-Page-clause-bytes : goal.returns-in-Page-clause-bytes
returns-in-Page-clause-bytes g c = c.ask_page.ensures.kept.bytes_are

pub returns-in_default-clause-kept : goal.returns-in_default-clause-kept
returns-in_default-clause-kept g c = kept_own _ _ _ c.ask_whole.ensures.kept

pub returns-in_default-clause-bytes : goal.returns-in_default-clause-bytes
returns-in_default-clause-bytes g c = c.ask_whole.ensures.kept.bytes_are

pub returns-in-Page-clause-told : goal.returns-in-Page-clause-told
returns-in-Page-clause-told g c = asked_told c.args.asked.now _ c.in-Page.is c.ask_page.ensures.told
