-- Names that operators give to variables, where no variable of the text without operators is bound around its binder.
use Rattle.std.proofs.Common.{◌≡◌, ◌≢◌, ◌⊎◌, inl, inr, ⊎_elim, Bool, true, false, cond, [], ◌∷◌, Some, None, refl, sym, ap, subst, ◌∙◌, bytes_eq}
use Rattle.std.specs.Cmp.Lexicographic.{bytes_decides}
use Rattle.lrp_model.specs.Texts.{Identifier}
use Rattle.lrp_model.specs.Sorting.{Binders, binder_sort}
use Rattle.lrp_model.specs.declared.relations.Sort.{Sort}
use Rattle.lrp_model.specs.declared.raw.RawColumn.{RawColumn}
use Rattle.lrp_tense.specs.Expanding.{Naming, present_name, renamed_to, IsPlain}
use Rattle.lrp_tense.proofs.Scoping.{own_name, other_name, bound_here, bound_further}

-- each variable has its sort under its present name too, which is its own or that of a variable which is bound
pub record IsNamedAs (names : Naming) (bs cs : Binders) : Type 0 where
  pub sorts : (w : Identifier) → IsPlain w → binder_sort cs (present_name names w) ≡ binder_sort bs w
  pub own : (w : Identifier) → IsPlain w → (present_name names w ≡ w) ⊎ ((s : Sort) × (binder_sort cs (present_name names w) ≡ Some s))

pub no_names : (bs : Binders) → IsNamedAs [] bs bs
no_names bs = record { sorts = λ w p. refl; own = λ w p. inl refl }

-- a name that no text spells, or the written one
abbrev pub IsNew : Identifier → Identifier → Type 0
IsNew v n = (n ≡ v) ⊎ (IsPlain n → ⊥)

module _ (names : Naming) (bs cs : Binders) (h : IsNamedAs names bs cs) (d : RawColumn) (free : binder_sort cs d.name ≡ None) where
  -- a name that is not bound is no variable's but its own
  pub differs_from : (v : Identifier) → IsNew v d.name → (w : Identifier) → IsPlain w → v ≢ w → d.name ≢ present_name names w
  differs_from v new w p ne same =
      ⊎_elim (λ e. ⊎_elim (λ i. ne (sym i ∙ same ∙ e)) (λ no_plain. no_plain (subst IsPlain (sym (same ∙ e)) p)) new)
      (λ b. let f : binder_sort cs (present_name names w) ≡ None = subst (λ n. binder_sort cs n ≡ None) same free in let g : binder_sort cs (present_name names w) ≡ Some b.0 = b.1 in cc) (h.own w p)

  still : (w : Identifier) → IsPlain w → d.name ≢ present_name names w → (present_name names w ≡ w) ⊎ ((s : Sort) × (binder_sort (d ∷ cs) (present_name names w) ≡ Some s))
  still w p ne = ⊎_elim (λ e. inl e) (λ b. inr (b.0, bound_further d cs (present_name names w) (other_name d.name (present_name names w) ne) ∙ b.1)) (h.own w p)

  -- one variable more
  pub one_more : (c : RawColumn) → d.sort ≡ c.sort → IsNew c.name d.name → IsNamedAs (renamed_to c.name d.name ∷ names) (c ∷ bs) (d ∷ cs)
  one_more c sort new = record { sorts = λ w p. sorts_by w p (bytes_eq c.name w) refl; own = λ w p. own_by w p (bytes_eq c.name w) refl }
    where
      not_it : (w : Identifier) → bytes_eq c.name w ≡ false → c.name ≢ w
      not_it w e s = let t : bytes_eq c.name w ≡ true = (bytes_decides c.name w).1 s in cc

      sorts_by : (w : Identifier) → IsPlain w → (b : Bool) → bytes_eq c.name w ≡ b → binder_sort (d ∷ cs) (cond b d.name (present_name names w)) ≡ binder_sort (c ∷ bs) w
      sorts_by w p true e = bound_here d cs d.name (own_name d.name) ∙ ap Some sort ∙ sym (bound_here c bs w e)
      sorts_by w p false e =
          bound_further d cs (present_name names w) (other_name d.name (present_name names w) (differs_from c.name new w p (not_it w e))) ∙ h.sorts w p ∙ sym (bound_further c bs w e)

      own_by : (w : Identifier) → IsPlain w → (b : Bool) → bytes_eq c.name w ≡ b → (cond b d.name (present_name names w) ≡ w) ⊎ ((s : Sort) × (binder_sort (d ∷ cs) (cond b d.name (present_name names w)) ≡ Some s))
      own_by w p true e = inr (d.sort, bound_here d cs d.name (own_name d.name))
      own_by w p false e = still w p (differs_from c.name new w p (not_it w e))

  -- one that no text spells is none of them
  module _ (no_plain : IsPlain d.name → ⊥) where
    pub apart : (w : Identifier) → IsPlain w → d.name ≢ present_name names w
    apart w p same =
        ⊎_elim (λ e. no_plain (subst IsPlain (sym (same ∙ e)) p))
        (λ b. let f : binder_sort cs (present_name names w) ≡ None = subst (λ n. binder_sort cs n ≡ None) same free in let g : binder_sort cs (present_name names w) ≡ Some b.0 = b.1 in cc) (h.own w p)

    -- and may stand beside
    pub one_aside : IsNamedAs names bs (d ∷ cs)
    one_aside = record {
      sorts = λ w p. bound_further d cs (present_name names w) (other_name d.name (present_name names w) (apart w p)) ∙ h.sorts w p;
      own = λ w p. still w p (apart w p);
    }
