use Rattle.std.proofs.Common.{◌≡◌, ◌∙◌, length, vec_len, rules}
use Rattle.lrp_core.specs.Cores.{core_of}
use Rattle.lrp_kept.specs.Held.{names_of}
use Rattle.lrp_kept.proofs.JoinedUp.{draft_named, made_is}
use Rattle.lrp_kept.proofs.disjuncts.push_one.Goals as goal

pub disjunct_of-requires : goal.disjunct_of-requires
disjunct_of-requires c = draft_named (names_of c.args.rows.now) (core_of c.args.core.now) c.in_ok-draft.draft c.requires c.in_ok-draft.ensures

pub returns : goal.returns
returns c =
    let size : vec_len c.args.all.now ≡ length c.args.all.now.items = search rules in
    record {
      disjunct = c.in_ok-disjunct.disjunct;
      is = made_is (names_of c.args.rows.now) (core_of c.args.core.now) c.in_ok-draft.draft c.in_ok-disjunct.disjunct c.requires c.in_ok-draft.ensures c.in_ok-disjunct.ensures.made;
      number = c.in_ok-disjunct.ensures.number ∙ c.len.ensures ∙ size;
      new_is = c.in_ok-push.ensures.items;
    }
