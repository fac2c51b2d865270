-- The relations of a database are looked at one after the other: their periods, and the greatest bounds of their rows.
use Rattle.std.proofs.Common.{◌≡◌, ◌<◌, ◌≤◌, ◌+◌, ◌^◌, ℕ, suc, Bool, true, false, List, [], ◌∷◌, ◌++◌, flat_map, Option, Some, None, inl, inr, refl, sym, ap, subst, ◌∙◌, append-nil, append_assoc, arith}
use Rattle.std.specs.Prelude.{if◌then◌else◌, slice_get, MatchOption}
use Rattle.std.specs.List.{AllByRecursion, list_any}
use Rattle.lrp_model.specs.declared.relations.Relation.{Relation}
use Rattle.lrp_model.specs.declared.relations.Row.{Row}
use Rattle.lrp_zone.proofs.Cases.{eq_or}
use Rattle.lrp_limits.specs.Facts.{KeepsMultiples}
use Rattle.lrp_limits.specs.Multiples.{IsPeriodOf}
use Rattle.lrp_limits.specs.declared.periods.Period.{Period}
use Rattle.lrp_limits.proofs.Keeping.{keeps_none}
use Rattle.lrp_limits.proofs.Raised.{raised, raised_above}
use Rattle.lrp_kept.specs.Limits.{raised_period, relation_bound}
use Rattle.lrp_model.specs.Periods.{row_periods}
use Rattle.lrp_kept.specs.Sizes.{is_reader, period_number}
use Rattle.lrp_kept.specs.declared.disjuncts.Disjunct.{Disjunct}
use Rattle.lrp_kept.specs.declared.rows.HeldRows.{HeldRows}
use Rattle.lrp_keep.specs.States.{AreMarkedBy, IsRelationMarked, periods_at, read_periods}
use Rattle.lrp_holdings.proofs.Chained.{some_is}

-- ---- periods

pub read_relation : (ds : List Disjunct) (number : ℕ) (r : Relation) (b : Bool) (o p : Option ℕ) → b ≡ list_any (is_reader number) ds → b ≡ true → KeepsMultiples (flat_map row_periods r.rows) o p → KeepsMultiples (periods_at ds number (Some r)) o p
read_relation ds number r b o p e t h = subst (λ c. KeepsMultiples (if c then flat_map row_periods r.rows else []) o p) (sym t ∙ e) h

pub skip_relation : (ds : List Disjunct) (number : ℕ) (r : Relation) (b : Bool) (o : Option ℕ) → b ≡ list_any (is_reader number) ds → b ≡ false → KeepsMultiples (periods_at ds number (Some r)) o o
skip_relation ds number r b o e t = subst (λ c. KeepsMultiples (if c then flat_map row_periods r.rows else []) o o) (sym t ∙ e) (keeps_none o)

pub none_read : (ks : List ℕ) (o : Option ℕ) → IsPeriodOf ks o → IsPeriodOf (ks ++ []) o
none_read ks o h = subst (λ l. IsPeriodOf l o) (sym (append-nil ks)) h

pub one_read : (ks : List ℕ) (ds : List Disjunct) (db : List Relation) (number : ℕ) (r : Relation) (o p : Option ℕ) → slice_get db number ≡ Some r → KeepsMultiples (periods_at ds number (Some r)) o p → IsPeriodOf (ks ++ read_periods ds db number) o → IsPeriodOf (ks ++ read_periods ds db (number + 1)) p
one_read ks ds db number r o p at h was =
    let e : suc number ≡ number + 1 = omega arith in
    subst (λ n. IsPeriodOf (ks ++ read_periods ds db n) p) e
    (subst (λ l. IsPeriodOf l p) (append_assoc ks (read_periods ds db number) (periods_at ds number (slice_get db number)))
    (subst (λ x. IsPeriodOf ((ks ++ read_periods ds db number) ++ periods_at ds number x) p) (sym at) (h.keeps (ks ++ read_periods ds db number) was)))

-- ---- bounds

pub none_marked : (db : List Relation) (rows : HeldRows) → AreMarkedBy db 0 rows rows
none_marked db rows = record { sources = refl; count = refl; rest = λ i l. refl; at = λ i h r l. absurd (omega (arith, l)) }

pub one_marked : (db : List Relation) (number : ℕ) (r : Relation) (most : ℕ) (old mid new : HeldRows) → slice_get db number ≡ Some r → most ≡ relation_bound r → AreMarkedBy db number old mid → IsRelationMarked number most mid new → AreMarkedBy db (number + 1) old new
one_marked db number r most old mid new at most_is a m = record {
  sources = m.sources ∙ a.sources;
  count = m.count ∙ a.count;
  rest = λ i l. m.rest i (λ e. let k : number + 1 ≤ i = l in let q : i ≡ number = e in omega (arith, k, q)) ∙ a.rest i (omega (arith, l));
  at = λ i h s l was is. elim (eq_or i number) [
    | inl e ↦
        let here : slice_get mid.relations.items number ≡ Some h = ap (slice_get mid.relations.items) (sym e) ∙ a.rest i (let q : i ≡ number = e in omega (arith, q)) ∙ was in
        let same : r ≡ s = some_is r s (sym at ∙ ap (slice_get db) (sym e) ∙ is) in
        ap (slice_get new.relations.items) e ∙ m.at h here ∙ ap (λ n. Some (record h { most = n })) (most_is ∙ ap relation_bound same)
    | inr n ↦ m.rest i n ∙ a.at i h s (omega (arith, l, n)) was is
  ];
}

-- ---- a row more

-- the kept period with those of the row, or none up to 2^62
pub raised_match : (ds : List Disjunct) (relation : ℕ) (row : Row) (k : ℕ) (b : Bool) (o : Option Period) → b ≡ list_any (is_reader relation) ds → b ≡ true → 1 ≤ k → AllByRecursion (λ n. 1 ≤ n) (row_periods row) → IsPeriodOf (k ∷ row_periods row) (period_number o)
    → MatchOption o (2 ^ 62 < (if list_any (is_reader relation) ds then raised_period k row else k)) (λ p. p.number ≡ (if list_any (is_reader relation) ds then raised_period k row else k))
raised_match ds relation row k b None e t low each h = subst (λ c. 2 ^ 62 < (if c then raised_period k row else k)) (sym t ∙ e) (raised_above k (row_periods row) low each h)
raised_match ds relation row k b (Some p) e t low each h = subst (λ c. p.number ≡ (if c then raised_period k row else k)) (sym t ∙ e) (raised k (row_periods row) p.number low each h)
