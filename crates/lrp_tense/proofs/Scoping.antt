-- Names that keep variables apart, and assignments that agree through them.
use Rattle.std.proofs.Common.{◌≡◌, ◌≢◌, ℕ, ◌<◌, ◌^◌, Bool, true, false, cond, List, [], ◌∷◌, ◌++◌, Some, refl, sym, ap, subst, ◌∙◌, bytes_eq}
use Rattle.std.specs.Prelude.{ℤ, find, option_map}
use Rattle.std.specs.List.{AllByRecursion}
use Rattle.std.specs.Cmp.Lexicographic.{bytes_decides}
use Rattle.lrp_model.specs.Texts.{Identifier}
use Rattle.lrp_model.specs.Rows.{time, text}
use Rattle.lrp_model.specs.Satisfaction.{Assignment, with_value}
use Rattle.lrp_model.specs.Sorting.{Binders, binder_sort, alone_sort, is_data_term}
use Rattle.lrp_model.specs.declared.tokens.Place.{Place}
use Rattle.lrp_model.specs.declared.raw.RawColumn.{RawColumn}
use Rattle.lrp_model.proofs.Logic.{all_append, choose}
use Rattle.lrp_tense.specs.Expanding.{Naming, present_name, renamed_to, IsPlain, moment_name, between_name}
use Rattle.lrp_tense.proofs.FreshNames.{moment_not_plain, between_not_plain, moments_differ, betweens_differ, moment_not_between, between_not_moment}

-- ---- names that are one, and names that differ

pub own_name : (v : Identifier) → bytes_eq v v ≡ true
own_name v = (bytes_decides v v).1 refl

is_false : (b : Bool) → (b ≡ true → ⊥) → b ≡ false
is_false true h = absurd (h refl)
is_false false h = refl

pub other_name : (v w : Identifier) → v ≢ w → bytes_eq v w ≡ false
other_name v w n = is_false (bytes_eq v w) (λ e. n ((bytes_decides v w).0 e))

-- ---- numbers of operators

-- the places have small numbers, no two of them the same
abbrev pub AreNumbered : (Place → ℕ) → List Place → Type 0
AreNumbered number [] = Unit {0}
AreNumbered number (p ∷ ps) = (number p < 2 ^ 64) × (AllByRecursion (λ q. number p ≢ number q) ps × AreNumbered number ps)

pub numbered_parts : (number : Place → ℕ) (ps qs : List Place) → AreNumbered number (ps ++ qs) → AreNumbered number ps × AreNumbered number qs
numbered_parts number [] qs h = (tt, h)
numbered_parts number (p ∷ ps) qs h =
    let r : AreNumbered number ps × AreNumbered number qs = numbered_parts number ps qs h.1.1 in
    ((h.0, (((all_append (λ q. number p ≢ number q) ps qs).0 h.1.0).0, r.0)), r.1)

-- a name is none that an operator of this number brings
abbrev pub Misses : Identifier → Identifier → ℕ → Type 0
Misses n u i = (n ≢ moment_name u i) × (n ≢ between_name u i)

module _ (number : Place → ℕ) (v u : Identifier) (vp : IsPlain v) (up : IsPlain u) (p : Place) (small : number p < 2 ^ 64) where
  moment_misses : (ps : List Place) → AllByRecursion (λ q. number p ≢ number q) ps → AreNumbered number ps → AllByRecursion (λ q. Misses (moment_name v (number p)) u (number q)) ps
  moment_misses [] d h = tt
  moment_misses (q ∷ ps) d h = ((moments_differ v u (number p) (number q) vp up small h.0 d.0, moment_not_between v u (number p) (number q) vp up small h.0), moment_misses ps d.1 h.1.1)

  between_misses : (ps : List Place) → AllByRecursion (λ q. number p ≢ number q) ps → AreNumbered number ps → AllByRecursion (λ q. Misses (between_name v (number p)) u (number q)) ps
  between_misses [] d h = tt
  between_misses (q ∷ ps) d h = ((between_not_moment v u (number p) (number q) vp up small h.0, betweens_differ v u (number p) (number q) vp up small h.0 d.0), between_misses ps d.1 h.1.1)

plain_misses : (number : Place → ℕ) (v u : Identifier) → IsPlain v → (ps : List Place) → AllByRecursion (λ q. Misses v u (number q)) ps
plain_misses number v u h [] = tt
plain_misses number v u h (q ∷ ps) = (((λ e. moment_not_plain u v (number q) h (sym e)), λ e. between_not_plain u v (number q) h (sym e)), plain_misses number v u h ps)

-- ---- namings

-- no variable has a name that an operator at these places brings, or that of another variable
pub record IsApart (names : Naming) (number : Place → ℕ) (ps : List Place) : Type 0 where
  pub fresh : (w u : Identifier) → IsPlain w → IsPlain u → AllByRecursion (λ q. Misses (present_name names w) u (number q)) ps
  pub own : (w c : Identifier) → IsPlain w → IsPlain c → w ≢ c → present_name names w ≢ c

pub apart_left : (names : Naming) (number : Place → ℕ) (ps qs : List Place) → IsApart names number (ps ++ qs) → IsApart names number ps
apart_left names number ps qs h = record {
  fresh = λ w u wp up. ((all_append (λ q. Misses (present_name names w) u (number q)) ps qs).0 (h.fresh w u wp up)).0;
  own = h.own;
}

pub apart_right : (names : Naming) (number : Place → ℕ) (ps qs : List Place) → IsApart names number (ps ++ qs) → IsApart names number qs
apart_right names number ps qs h = record {
  fresh = λ w u wp up. ((all_append (λ q. Misses (present_name names w) u (number q)) ps qs).0 (h.fresh w u wp up)).1;
  own = h.own;
}

pub nothing_apart : (number : Place → ℕ) (ps : List Place) → IsApart [] number ps
nothing_apart number ps = record {
  fresh = λ w u wp up. plain_misses number w u wp ps;
  own = λ w c wp cp ne. ne;
}

-- with a quantifier's variable
pub apart_binder : (names : Naming) (number : Place → ℕ) (ps : List Place) (v : Identifier) → IsPlain v → IsApart names number ps → IsApart (renamed_to v v ∷ names) number ps
apart_binder names number ps v vp h = record {
  fresh = λ w u wp up. choose (λ n. AllByRecursion (λ q. Misses n u (number q)) ps) v w v (present_name names w) (λ e. plain_misses number v u vp ps) (λ ne. h.fresh w u wp up);
  own = λ w c wp cp ne. choose (λ n. n ≢ c) v w v (present_name names w) (λ e f. ne (sym e ∙ f)) (λ other. h.own w c wp cp ne);
}

-- with the variable of an operator, for its moment
pub apart_moment : (names : Naming) (number : Place → ℕ) (p : Place) (ps : List Place) (v : Identifier) → IsPlain v → AreNumbered number (p ∷ ps) → IsApart names number (p ∷ ps) → IsApart (renamed_to v (moment_name v (number p)) ∷ names) number ps
apart_moment names number p ps v vp n h = record {
  fresh = λ w u wp up. choose (λ m. AllByRecursion (λ q. Misses m u (number q)) ps) v w (moment_name v (number p)) (present_name names w) (λ e. moment_misses number v u vp up p n.0 ps n.1.0 n.1.1) (λ ne. (h.fresh w u wp up).1);
  own = λ w c wp cp ne. choose (λ m. m ≢ c) v w (moment_name v (number p)) (present_name names w) (λ e. moment_not_plain v c (number p) cp) (λ other. h.own w c wp cp ne);
}

-- and for each moment between
pub apart_between : (names : Naming) (number : Place → ℕ) (p : Place) (ps : List Place) (v : Identifier) → IsPlain v → AreNumbered number (p ∷ ps) → IsApart names number (p ∷ ps) → IsApart (renamed_to v (between_name v (number p)) ∷ names) number ps
apart_between names number p ps v vp n h = record {
  fresh = λ w u wp up. choose (λ m. AllByRecursion (λ q. Misses m u (number q)) ps) v w (between_name v (number p)) (present_name names w) (λ e. between_misses number v u vp up p n.0 ps n.1.0 n.1.1) (λ ne. (h.fresh w u wp up).1);
  own = λ w c wp cp ne. choose (λ m. m ≢ c) v w (between_name v (number p)) (present_name names w) (λ e. between_not_plain v c (number p) cp) (λ other. h.own w c wp cp ne);
}

-- ---- assignments

-- the variable is one for texts
abbrev pub is_for_texts : Binders → Identifier → Bool
is_for_texts bs w = is_data_term (alone_sort (binder_sort bs w))

-- each variable has its sort and its value under its present name too
pub record Follows (names : Naming) (bs cs : Binders) (env other : Assignment) : Type 0 where
  pub sorts : (w : Identifier) → IsPlain w → binder_sort cs (present_name names w) ≡ binder_sort bs w
  pub times : (w : Identifier) → IsPlain w → is_for_texts bs w ≡ false → other.times (present_name names w) ≡ env.times w
  pub texts : (w : Identifier) → IsPlain w → is_for_texts bs w ≡ true → other.texts (present_name names w) ≡ env.texts w

pub bound_here : (c : RawColumn) (bs : Binders) (n : Identifier) → bytes_eq c.name n ≡ true → binder_sort (c ∷ bs) n ≡ Some c.sort
bound_here c bs n e = ap (λ b. option_map (λ d. d.sort) (cond b (Some c) (find (λ d. bytes_eq d.name n) bs))) e

pub bound_further : (c : RawColumn) (bs : Binders) (n : Identifier) → bytes_eq c.name n ≡ false → binder_sort (c ∷ bs) n ≡ binder_sort bs n
bound_further c bs n e = ap (λ b. option_map (λ d. d.sort) (cond b (Some c) (find (λ d. bytes_eq d.name n) bs))) e

pub set_own : {A : Type 0} (n : Identifier) (x y : A) → cond (bytes_eq n n) x y ≡ x
set_own {A} n x y = ap (λ b. cond b x y) (own_name n)

pub set_other : {A : Type 0} (n m : Identifier) (x y : A) → n ≢ m → cond (bytes_eq n m) x y ≡ y
set_other {A} n m x y ne = ap (λ b. cond b x y) (other_name n m ne)

-- with one more variable, whose present name is no other's
module _ (names : Naming) (bs cs : Binders) (env other : Assignment) (c d : RawColumn) (same : d.sort ≡ c.sort) (free : (w : Identifier) → IsPlain w → c.name ≢ w → d.name ≢ present_name names w) (h : Follows names bs cs env other) where
  more_sorts : (w : Identifier) → IsPlain w → (b : Bool) → bytes_eq c.name w ≡ b → binder_sort (d ∷ cs) (cond b d.name (present_name names w)) ≡ binder_sort (c ∷ bs) w
  more_sorts w wp true e = bound_here d cs d.name (own_name d.name) ∙ ap Some same ∙ sym (bound_here c bs w e)
  more_sorts w wp false e =
      bound_further d cs (present_name names w) (other_name d.name (present_name names w) (free w wp (λ s. let t : bytes_eq c.name w ≡ true = (bytes_decides c.name w).1 s in cc))) ∙ h.sorts w wp ∙ sym (bound_further c bs w e)

  -- a value of the binder's kind
  module _ {A : Type 0} (of : Assignment → Identifier → A) (b : Bool) (old : (w : Identifier) → IsPlain w → is_for_texts bs w ≡ b → of other (present_name names w) ≡ of env w) where
    kept : (w : Identifier) → IsPlain w → bytes_eq c.name w ≡ false → is_for_texts (c ∷ bs) w ≡ b → of other (present_name names w) ≡ of env w
    kept w wp e k = old w wp (subst (λ o. is_data_term (alone_sort o) ≡ b) (bound_further c bs w e) k)

    set : (x : A) (w : Identifier) → IsPlain w → is_for_texts (c ∷ bs) w ≡ b → (t : Bool) → bytes_eq c.name w ≡ t
        → cond (bytes_eq d.name (cond t d.name (present_name names w))) x (of other (cond t d.name (present_name names w))) ≡ cond t x (of env w)
    set x w wp k true e = set_own d.name x (of other d.name)
    set x w wp k false e =
        set_other d.name (present_name names w) x (of other (present_name names w)) (free w wp (λ s. let t : bytes_eq c.name w ≡ true = (bytes_decides c.name w).1 s in cc)) ∙ kept w wp e k

    left : (is_data_term (alone_sort (Some c.sort)) ≡ b → ⊥) → (w : Identifier) → IsPlain w → is_for_texts (c ∷ bs) w ≡ b → (t : Bool) → bytes_eq c.name w ≡ t
        → of other (cond t d.name (present_name names w)) ≡ of env w
    left n w wp k true e = absurd (n (subst (λ o. is_data_term (alone_sort o) ≡ b) (bound_here c bs w e) k))
    left n w wp k false e = kept w wp e k

  -- a time for a variable of sort time, or a text for one of a data sort
  pub followed_time : (x : ℤ) → is_data_term (alone_sort (Some c.sort)) ≡ false → Follows (renamed_to c.name d.name ∷ names) (c ∷ bs) (d ∷ cs) (with_value c.name (time x) env) (with_value d.name (time x) other)
  followed_time x s = record {
    sorts = λ w wp. more_sorts w wp (bytes_eq c.name w) refl;
    times = λ w wp k. set (λ a. a.times) false h.times x w wp k (bytes_eq c.name w) refl;
    texts = λ w wp k. left (λ a. a.texts) true h.texts (λ e. cc) w wp k (bytes_eq c.name w) refl;
  }

  pub followed_text : (x : Identifier) → is_data_term (alone_sort (Some c.sort)) ≡ true → Follows (renamed_to c.name d.name ∷ names) (c ∷ bs) (d ∷ cs) (with_value c.name (text x) env) (with_value d.name (text x) other)
  followed_text x s = record {
    sorts = λ w wp. more_sorts w wp (bytes_eq c.name w) refl;
    times = λ w wp k. left (λ a. a.times) false h.times (λ e. cc) w wp k (bytes_eq c.name w) refl;
    texts = λ w wp k. set (λ a. a.texts) true h.texts x w wp k (bytes_eq c.name w) refl;
  }

-- a variable of a name that no variable has hides nothing
pub followed_aside : (names : Naming) (bs cs : Binders) (env other : Assignment) (d : RawColumn) (x : ℤ) → ((w : Identifier) → IsPlain w → d.name ≢ present_name names w) → Follows names bs cs env other → Follows names bs (d ∷ cs) env (with_value d.name (time x) other)
followed_aside names bs cs env other d x free h = record {
  sorts = λ w wp. bound_further d cs (present_name names w) (other_name d.name (present_name names w) (free w wp)) ∙ h.sorts w wp;
  times = λ w wp k. set_other d.name (present_name names w) x (other.times (present_name names w)) (free w wp) ∙ h.times w wp k;
  texts = λ w wp k. h.texts w wp k;
}
