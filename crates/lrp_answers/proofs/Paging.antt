-- What is given one after the other is a page.
use Rattle.std.proofs.Common.{◌≡◌, ℕ, ◌≤◌, List, [], ◌∷◌, length, Option, Some, None, Bool, Less, Equal, Greater, refl, sym, ap₂, subst, ◌∙◌, Contains}
use Rattle.std.specs.Prelude.{◌↔◌, IsTrue}
use Rattle.std.specs.List.{AllByRecursion}
use Rattle.std.specs.Ordering.{int_cmp, ordering_then}
use Rattle.std.specs.declared.cmp.Ordering.{Ordering}
use Rattle.std.specs.Cmp.Lexicographic.{slice_cmp}
use Rattle.std.specs.FinMap.{int_cmp-IsAntisymmetric, nat_cmp-IsAntisymmetric, slice_cmp-IsAntisymmetric}
use Rattle.lrp_model.specs.Texts.{text_cmp}
use Rattle.lrp_model.specs.Rows.{times_of, texts_of, Tuple}
use Rattle.lrp_model.specs.Order.{tuple_cmp, Before}
use Rattle.lrp_model.specs.Pages.{ComesAfter, last_of, AfterAll, Rises, IsPage}
use Rattle.lrp_model.specs.Satisfaction.{HasShape}
use Rattle.lrp_model.specs.Tuples.{in_head_order}
use Rattle.lrp_model.specs.declared.relations.Column.{Column}
use Rattle.lrp_model.proofs.Decided.{contains_first, contains_later}
use Rattle.lrp_model.proofs.TupleLaws.{in_head_order_is}
use Rattle.lrp_store.specs.Tables.{InAnswer}
use Rattle.lrp_answers.specs.Giving.{GivesTuples}
use Rattle.lrp_answers.specs.Listing.{WindowView, IsLeft}
use Rattle.lrp_answers.proofs.Orders.{less_equal, by_order, turned_back}
use Rattle.lrp_answers.proofs.Moves.{tuples_total}

-- ---- tuples that compare equal are one

both_equal : (a b : Ordering) → ordering_then a b ≡ Equal → (a ≡ Equal) × (b ≡ Equal)
both_equal Less b e = absurd (less_equal e)
both_equal Equal b e = (refl, e)
both_equal Greater b e = cc

same_tuple : (cs : List Column) (t u : Tuple) → HasShape cs t → HasShape cs u → tuple_cmp t u ≡ Equal → t ≡ u
same_tuple cs t u h k e =
    let both = both_equal (slice_cmp int_cmp (times_of t) (times_of u)) (slice_cmp text_cmp (texts_of t) (texts_of u)) e in
    sym (in_head_order_is cs t h)
    ∙ ap₂ (in_head_order cs) (slice_cmp-IsAntisymmetric int_cmp-IsAntisymmetric (times_of t) (times_of u) both.0) (slice_cmp-IsAntisymmetric (slice_cmp-IsAntisymmetric nat_cmp-IsAntisymmetric) (texts_of t) (texts_of u) both.1)
    ∙ in_head_order_is cs u k

-- ---- what is left after a tuple was left before

back : (w : WindowView) (p : Option Tuple) (t u : Tuple) → IsLeft w p t → IsLeft w (Some t) u → IsLeft w p u
back w p t u l m = record { is = m.is; inside = m.inside; later = by p l.later }
  where
    by : (q : Option Tuple) → ComesAfter q t → ComesAfter q u
    by None h = tt
    by (Some a) h = tuples_total.trans a t u h m.later

afterwards : (w : WindowView) (p : Option Tuple) (t u : Tuple) → IsLeft w p u → Before t u → IsLeft w (Some t) u
afterwards w p t u l b = record { is = l.is; inside = l.inside; later = b }

all_weaker : (P Q : Tuple → Type 0) → ((t : Tuple) → P t → Q t) → (ts : List Tuple) → AllByRecursion P ts → AllByRecursion Q ts
all_weaker P Q f [] h = tt
all_weaker P Q f (t ∷ ts) h = (f t h.0, all_weaker P Q f ts h.1)

-- ---- the parts of a page

all_after : (w : WindowView) (t : Tuple) (ts : List Tuple) (end : Option Tuple) → GivesTuples w (Some t) ts end → AllByRecursion (Before t) ts
all_after w t [] end g = tt
all_after w t (u ∷ us) end g = (g.0.is.later, all_weaker (Before u) (Before t) (λ v b. tuples_total.trans t u v g.0.is.later b) us (all_after w u us end g.1))

rises : (w : WindowView) (p : Option Tuple) (ts : List Tuple) (end : Option Tuple) → GivesTuples w p ts end → Rises ts
rises w p [] end g = tt
rises w p (t ∷ ts) end g = (all_after w t ts end g.1, rises w (Some t) ts end g.1)

all_due : (w : WindowView) (p : Option Tuple) (ts : List Tuple) (end : Option Tuple) → GivesTuples w p ts end → AllByRecursion (IsLeft w p) ts
all_due w p [] end g = tt
all_due w p (t ∷ ts) end g = (g.0.is, all_weaker (IsLeft w (Some t)) (IsLeft w p) (λ u l. back w p t u g.0.is l) ts (all_due w (Some t) ts end g.1))

whole : (w : WindowView) (p : Option Tuple) (ts : List Tuple) (end : Option Tuple) → GivesTuples w p ts end → (u : Tuple) → IsLeft w p u → (ComesAfter (last_of ts) u → ⊥) → Contains ts u
whole w p [] end g u l unless = absurd (unless tt)
whole w p (t ∷ ts) end g u l unless = by_order tuples_total t u (Contains (t ∷ ts) u)
    (λ e. contains_later t u ts (rest ts g.1 unless e (λ unless. whole w (Some t) ts end g.1 u (afterwards w p t u l e) unless)))
    (λ e. subst (Contains (t ∷ ts)) (same_tuple w.columns t u g.0.is.is.shape l.is.shape e) (contains_first t ts))
    (λ e. absurd (g.0.first u l (turned_back tuples_total t u e)))
  where
    rest : (us : List Tuple) → GivesTuples w (Some t) us end → (ComesAfter (last_of (t ∷ us)) u → ⊥) → Before t u → ((ComesAfter (last_of us) u → ⊥) → Contains us u) → Contains us u
    rest [] g unless b f = absurd (unless b)
    rest (v ∷ vs) g unless b f = f unless

left_end : (w : WindowView) (p : Option Tuple) (ts : List Tuple) (end : Option Tuple) → GivesTuples w p ts end → (u : Tuple) → IsLeft w end u → IsLeft w p u × AfterAll ts u
left_end w p [] end g u l = (subst (λ q. IsLeft w q u) (sym g) l, tt)
left_end w p (t ∷ ts) end g u l =
    let r = left_end w (Some t) ts end g.1 u l in
    (back w p t u g.0.is r.0, (r.0.later, r.1))

end_left : (w : WindowView) (p : Option Tuple) (ts : List Tuple) (end : Option Tuple) → GivesTuples w p ts end → (u : Tuple) → IsLeft w p u → AfterAll ts u → IsLeft w end u
end_left w p [] end g u l a = subst (λ q. IsLeft w q u) g l
end_left w p (t ∷ ts) end g u l a = end_left w (Some t) ts end g.1 u (afterwards w p t u l a.0) a.1

-- the law of `laws.rt`
pub page_is : (w : WindowView) (after end : Option Tuple) (limit : ℕ) (page : List Tuple) (more : Bool) → GivesTuples w after page end → length page ≤ limit → (IsTrue more → length page ≡ limit) → (IsTrue more ↔ ((t : Tuple) × IsLeft w end t))
    → IsPage (InAnswer w.columns w.domain w.store) w.from w.to after limit page more
page_is w after end limit page more g short full is = record {
  rises = rises w after page end g;
  due = all_due w after page end g;
  whole = whole w after page end g;
  more_is = (
    λ h. let t = is.0 h in let r = left_end w after page end g t.0 t.1 in (t.0, r.0, r.1),
    λ t. is.1 (t.0, end_left w after page end g t.0 t.1 t.2),
  );
  short = short;
  full = full;
}
