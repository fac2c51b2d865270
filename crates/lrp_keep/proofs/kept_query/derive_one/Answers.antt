use Rattle.lrp_keep.proofs.kept_query.derive_one.Goals as goal

pub returns-in_ok-push_derived-in-Ok-clause-derived : goal.returns-in_ok-push_derived-in-Ok-clause-derived
returns-in_ok-push_derived-in-Ok-clause-derived c = record { derived = c.in-Ok.derived; are = c.in_ok-push_derived-in-Ok.ensures; is = c.in-Ok.ensures.derived }
