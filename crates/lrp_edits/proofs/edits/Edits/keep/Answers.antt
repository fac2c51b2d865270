-- One edit more, of a relation or of none.
use Rattle.std.proofs.Common.{ap, subst, Option}
use Rattle.std.specs.Option.{option_copied}
use Rattle.lrp_model.specs.Rows.{relation_named}
use Rattle.lrp_rel.specs.declared.gathering.Heading.{Heading}
use Rattle.lrp_edits.specs.EditGathered.{IsHeadingIn}
use Rattle.lrp_edits.specs.EditMeaning.{edit_of}
use Rattle.lrp_database.proofs.SeenLemmas.{on_ok}
use Rattle.lrp_edits.proofs.EditLemmas.{headed, none_headed, takes_known, takes_unknown}
use Rattle.lrp_edits.proofs.edits.Edits.keep.Goals as goal

pub keep_known-requires-clause-heading : goal.keep_known-requires-clause-heading
keep_known-requires-clause-heading c =
    let named = relation_named c.args.database.now c.args.edit.relation.item in
    let P : Option Heading → Type 0 = IsHeadingIn named in
    (headed named c.in-Some.heading.now (subst P (ap option_copied c.in-Some.is) c.heading_named.ensures)).heads.heads

pub keep_known-requires-clause-sound : goal.keep_known-requires-clause-sound
keep_known-requires-clause-sound c =
    let named = relation_named c.args.database.now c.args.edit.relation.item in
    let P : Option Heading → Type 0 = IsHeadingIn named in
    (headed named c.in-Some.heading.now (subst P (ap option_copied c.in-Some.is) c.heading_named.ensures)).heads.sound

pub returns-in-Some : goal.returns-in-Some
returns-in-Some c =
    let db = c.args.database.now in
    let e = c.args.edit in
    let named = relation_named db e.relation.item in
    let P : Option Heading → Type 0 = IsHeadingIn named in
    let found = headed named c.in-Some.heading.now (subst P (ap option_copied c.in-Some.is) c.heading_named.ensures) in
    on_ok c.keep_known.result (takes_known db e c.in-Some.heading.now c.args.self.now c.keep_known.new.self found) c.keep_known.ensures

pub returns-in-None : goal.returns-in-None
returns-in-None c =
    let db = c.args.database.now in
    let e = c.args.edit in
    let named = relation_named db e.relation.item in
    let P : Option Heading → Type 0 = IsHeadingIn named in
    let none = none_headed named (subst P (ap option_copied c.in-None.is) c.heading_named.ensures) in
    takes_unknown db e c.args.self.now c.keep_unknown.new.self none (c.keep_unknown.ensures (edit_of db e))
