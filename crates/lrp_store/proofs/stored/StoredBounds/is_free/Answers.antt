-- No entry is a table without bounds, and the other way round.
use Rattle.std.proofs.Common.{◌≡◌, List, [], ◌∷◌, length, Bool, Option, arith, None, replicate, sym, ◌∙◌}
use Rattle.std.specs.Prelude.{ℤ, ◌↔◌, IsTrue, nat_eq}
use Rattle.std.proofs.lemmas.Bool.{eqb-true}
use Rattle.lrp_store.specs.declared.stored.Entry.{Entry}
use Rattle.lrp_store.specs.Stored.{bounds_of, table_of, AreListed}
use Rattle.lrp_store.proofs.Looser.{free_table, free_list}
use Rattle.lrp_store.proofs.stored.StoredBounds.is_free.Goals as goal

free_where : (es : List Entry) (b : Bool) (now : List (Option ℤ)) → AreListed (bounds_of es) → table_of (bounds_of es) ≡ now → b ≡ nat_eq (length es) 0 → IsTrue b ↔ (now ≡ replicate 81 None)
free_where [] b now are view e = ((λ t. sym view ∙ free_table), (λ f. e))
free_where (x ∷ es) b now are view e = ((λ t. let n : length (x ∷ es) ≡ 0 = eqb-true (length (x ∷ es)) 0 (sym e ∙ t) in absurd (omega arith)), (λ f. let n = free_list (x ∷ es) are (view ∙ f) in cc))

pub returns : goal.returns
returns c = free_where c.self.inside.entries.items c.is_empty.result c.args.self.now c.self.invariant c.self.view_is c.is_empty.ensures
