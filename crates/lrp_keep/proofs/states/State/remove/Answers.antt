-- The first equal row is let go.
use Rattle.std.proofs.Common.{subst}
use Rattle.std.specs.Prelude.{MatchOption}
use Rattle.std.proofs.lemmas.Option.{slice_get_within}
use Rattle.lrp_kept.specs.Keyed.{HasNoEqualRow, IsFirstEqual}
use Rattle.lrp_kept.specs.Keys.{keys_of}
use Rattle.lrp_keep.proofs.states.State.remove.Goals as goal

pub let_go-requires-clause-place : goal.let_go-requires-clause-place
let_go-requires-clause-place c =
    let first : IsFirstEqual c.args.self.now.rows c.args.relation c.args.row.now c.in-Some.place = subst (λ o. MatchOption o (HasNoEqualRow c.args.self.now.rows c.args.relation c.args.row.now) (IsFirstEqual c.args.self.now.rows c.args.relation c.args.row.now)) c.in-Some.is c.place_of.ensures in
    slice_get_within (keys_of c.args.self.now.rows c.args.relation) c.in-Some.place first.key first.at

pub returns-in-Some-clause-taken : goal.returns-in-Some-clause-taken
returns-in-Some-clause-taken c = λ e. record {
  place = c.in-Some.place;
  first = subst (λ o. MatchOption o (HasNoEqualRow c.args.self.now.rows c.args.relation c.args.row.now) (IsFirstEqual c.args.self.now.rows c.args.relation c.args.row.now)) c.in-Some.is c.place_of.ensures;
  gone = c.let_go.ensures;
}
