-- Where a file is refused, and for which kind.
use Rattle.std.proofs.Common.{◌≡◌, ◌≢◌, inl, inr, ◌<◌, ◌+◌, ℕ, suc, Bool, true, false, [], ◌∷◌, ◌++◌, refl, ap, sym, ◌∙◌, subst, Ok, Err, length, arith, append-nil}
use Rattle.std.proofs.lemmas.List.{append_cancel_right}
use Rattle.lrp_model.specs.declared.tokens.Fault.{Fault}
use Rattle.lrp_model.specs.declared.tokens.Fault.TheVariants.{Syntax, Number, TextTooLong, Period, Deep, Memory}
use Rattle.lrp_model.specs.Tokens.{Placed, Tokens, Takes, Spells}
use Rattle.lrp_model.specs.Refused.{IsCause, Through, IsRefusedAt}
use Rattle.lrp_model.specs.TextFaults.{IsTooDeepIn, IsRankedIn}
use Rattle.lrp_model.specs.Queries.{WrittenFile, file_text, FitsFile}
use Rattle.lrp_model.specs.Queries.Language.{wide}
use Rattle.lrp_model.specs.QueryMeaning.{raw_file}
use Rattle.lrp_model.specs.QueryReading.{FileTexts}
use Rattle.lrp_model.specs.RawQueries.{RawFileView, raw_or, no_raws}
use Rattle.lrp_text.specs.Parsers.{ParseOutcome, Parser}
use Rattle.lrp_text.proofs.Complete.{Answers}
use Rattle.lrp_text.proofs.Sound.{takes_onto}
use Rattle.lrp_text.proofs.Viable.{after_front}
use Rattle.lrp_text.proofs.Local.{IsLocal, left_of, onto}
use Rattle.lrp_query.specs.Rules.{too_deep, is_hole_token}
use Rattle.lrp_query.proofs.Marks.{NoHoles}
use Rattle.lrp_query.proofs.Shown.{cut_told}
use Rattle.lrp_query.proofs.Ranks.{clean_at, clean_front, both_holes, is_hole, hole_shows, parts, same_front, IsDeepKind, deep_kind, not_large, same_fault, ok_or_err}
use Rattle.lrp_query.proofs.WideTold.{Cut, Told, took, refused, cut_off}
use Rattle.lrp_query.proofs.WideRule.{holes, Texts}
use Rattle.lrp_query.proofs.FileRules.{FileText, file_cut, file_rule}

-- what the program reads of tokens
abbrev pub read_file : ℕ → Parser RawFileView
read_file n = file_cut n holes

-- its texts are those of the grammar
text_of : (c : Bool) (x : Tokens) → Texts FileText c x → FileTexts c x
text_of c x t = (t.1.tree, t.1.fits, t.1.spelled)

-- ---- lawful files are read

answered_ok : (o : ParseOutcome RawFileView) (v : RawFileView) (left : Tokens) (P : Type 0) → P → Answers o v left P → o ≡ Ok (v, left)
answered_ok o v left P p (inl e) = e
answered_ok o v left P p (inr r) = absurd (r.unlawful p)

pub lawful_read : (n : ℕ) (f : WrittenFile wide) (ts left : Tokens) → length ts < n → FitsFile f → Takes (file_text f) ts left → read_file n ts ≡ Ok (raw_file f, left)
lawful_read n f ts left lt fits s = answered_ok (read_file n ts) (raw_file f) left (true ≡ true) refl ((file_rule n).complete true (raw_file f) ts left lt (record { tree = f; means = refl; fits = fits; spelled = s }) tt)

-- a text that is refused is refused for another cause than syntax, and isn't lawful
pub never : (n : ℕ) (c : Bool) (ts us : Tokens) (k : Fault) → length ts < n → read_file n ts ≡ Err (k, us) → FileTexts c ts → (k ≡ Syntax → ⊥) × (c ≡ true → ⊥)
never n c ts us k lt e t = by (read_file n ts) e ((file_rule n).complete c (raw_file t.0) ts [] lt (record { tree = t.0; means = refl; fits = t.1; spelled = t.2 }) tt)
  where
    by : (o : ParseOutcome RawFileView) → o ≡ Err (k, us) → Answers o (raw_file t.0) [] (c ≡ true) → (k ≡ Syntax → ⊥) × (c ≡ true → ⊥)
    by o e (inl d) = absurd (ok_or_err o (raw_file t.0, []) (k, us) d e)
    by o e (inr r) = let h : ◌≡◌ {A = ParseOutcome RawFileView} (Err (k, us)) (Err r.fault) = sym e ∙ r.is in let j : ◌≡◌ {A = Fault × Tokens} (k, us) r.fault = cc in ((λ s. r.kind (sym (ap (λ p. p.0) j) ∙ s)), r.unlawful)

-- ---- where a file is refused

-- at a fault that is none of syntax, a text goes through
others_of : (T : Tokens → Type 0) (front : Tokens) (k : Fault) (bad : Placed) (tail : Tokens) → Through T front k (bad ∷ tail) → k ≢ Syntax → (other : Tokens) × T (front ++ bad ∷ other)
others_of T front Syntax bad tail g ne = absurd (ne refl)
others_of T front _ bad tail g ne = let h : g.token ≡ bad = cc in (g.more, subst (λ x. T (front ++ x ∷ g.more)) h g.begins)

-- the token at a fault shows its cause
cause_of : (T : Tokens → Type 0) (front : Tokens) (k : Fault) (bad : Placed) (tail : Tokens) → Through T front k (bad ∷ tail) → IsCause k bad.token
cause_of T front Syntax bad tail g = tt
cause_of T front Number bad tail g = let h : g.token ≡ bad = cc in subst (λ x. IsCause Number x.token) h g.cause
cause_of T front TextTooLong bad tail g = let h : g.token ≡ bad = cc in subst (λ x. IsCause TextTooLong x.token) h g.cause
cause_of T front Period bad tail g = let h : g.token ≡ bad = cc in subst (λ x. IsCause Period x.token) h g.cause
cause_of T front Deep bad tail g = tt
cause_of T front Memory bad tail g = let h : g.token ≡ bad = cc in subst (λ x. IsCause Memory x.token) h g.cause

-- the outcome for these tokens with others after the bad one
again : (p : Parser RawFileView) (ts front : Tokens) (k : Fault) (bad : Placed) (tail other : Tokens) → IsLocal p ts → p ts ≡ Err (k, bad ∷ tail) → ts ≡ front ++ bad ∷ tail → p (front ++ bad ∷ other) ≡ Err (k, bad ∷ other)
again p ts front k bad tail other l e whole =
    let o : l.outcome ≡ Err (k, bad ∷ tail) = sym l.is ∙ e in
    let fronts : l.front ≡ front = append_cancel_right l.front front (bad ∷ tail) (sym (l.whole ∙ ap (λ x. l.front ++ left_of x) o) ∙ whole) in
    ap (λ f. p (f ++ bad ∷ other)) (sym fronts) ∙ l.same bad tail other (ap left_of o) ∙ ap (λ x. onto x (bad ∷ other)) o

-- refused exactly where the grammar says, for the cause that stands there
pub file_refused : (ts : Tokens) (k : Fault) (bad : Placed) (tail : Tokens) → ((n : ℕ) → length ts < n → read_file n ts ≡ Err (k, bad ∷ tail)) → IsRefusedAt FileTexts ts k bad tail
file_refused ts k bad tail reads =
    let size = suc (length ts) in
    let s = after_front (Texts FileText) FileTexts [] ts ts (k, bad ∷ tail) refl text_of ((file_rule size).viable ts (k, bad ∷ tail) (omega arith) (reads size (omega arith))) in
    let none : (c : Bool) (other : Tokens) → FileTexts c (s.front ++ bad ∷ other) → (k ≡ Syntax → ⊥) × (c ≡ true → ⊥) = λ c other t.
    let n = suc (length ts + length (s.front ++ bad ∷ other)) in
    never n c (s.front ++ bad ∷ other) (bad ∷ other) k (omega arith) (again (read_file n) ts s.front k bad tail other ((file_rule n).local holes ts) (reads n (omega arith)) s.whole) t in
    record {
      front = s.front;
      whole = s.whole;
      cause = cause_of (FileTexts false) s.front k bad tail s.through;
      more = s.more;
      begins = s.begins;
      first = λ other t. (none true other t).1 refl;
      syntax = λ e other t. (none false other t).0 e;
      others = others_of (FileTexts false) s.front k bad tail s.through;
    }

-- ---- for which kind

-- what stands where a formula would be too deep is refused so
there : (t : Placed) → is_hole_token t.token ≡ false → holes t ≡ Err (too_deep t.token)
there t real = cut_told (raw_or t.place no_raws) t.token real

-- a lawful text that goes on after tokens where each token is cut off goes on with a hole
hole_next : (n : ℕ) (front : Tokens) (b : Placed) (more : Tokens) → FileTexts true (front ++ b ∷ more) → length (front ++ b ∷ more) < n → ((c : Cut) (k : Fault) (b : Placed) (y : Tokens) → c b ≡ Err k → file_cut n c (front ++ b ∷ y) ≡ Err (k, b ∷ y)) → (h : Bool) → is_hole_token b.token ≡ h → IsTooDeepIn FileTexts front
hole_next n front b more text lt all true is = (b, more, is_hole b.token is, text)
hole_next n front b more text lt all false is = absurd (ok_or_err (read_file n (front ++ b ∷ more)) (raw_file text.0, []) (too_deep b.token, b ∷ more) (lawful_read n text.0 (front ++ b ∷ more) [] lt text.1 text.2) (all holes (too_deep b.token) b more (there b is)))

hole_after : (n : ℕ) (ts front : Tokens) (bad : Placed) (tail more : Tokens) → ts ≡ front ++ bad ∷ tail → length ts < n → length (front ++ more) < n → read_file n ts ≡ Err (Deep, bad ∷ tail) → ((c : Cut) (k : Fault) (b : Placed) (y : Tokens) → c b ≡ Err k → file_cut n c (front ++ b ∷ y) ≡ Err (k, b ∷ y)) → FileTexts true (front ++ more) → IsTooDeepIn FileTexts front
hole_after n ts front bad tail [] whole lt less e all text =
    let spelled : Spells (file_text text.0) front = subst (Spells (file_text text.0)) (append-nil front) text.2 in
    let taken : Takes (file_text text.0) ts (bad ∷ tail) = subst (λ x. Takes (file_text text.0) x (bad ∷ tail)) (sym whole) (takes_onto (file_text text.0) front (bad ∷ tail) spelled) in
    absurd (ok_or_err (read_file n ts) (raw_file text.0, bad ∷ tail) (Deep, bad ∷ tail) (lawful_read n text.0 ts (bad ∷ tail) lt text.1 taken) e)
hole_after n ts front bad tail (b ∷ more) whole lt less e all text = hole_next n front b more text less all (is_hole_token b.token) refl

deep_at : (n : ℕ) (ts front : Tokens) (bad : Placed) (tail more : Tokens) → NoHoles ts → ts ≡ front ++ bad ∷ tail → FileTexts true (front ++ more) → length ts < n → length (front ++ more) < n → read_file n ts ≡ Err (Deep, bad ∷ tail) → Told true (file_cut n) ts → IsTooDeepIn FileTexts front × (IsCause Number bad.token → ⊥)
deep_at n ts front bad tail more clean whole text lt less e (took a left h w cl all) = absurd (ok_or_err (read_file n ts) (a, left) (Deep, bad ∷ tail) (all holes) e)
deep_at n ts front bad tail more clean whole text lt less e (refused k us deep_never all) =
    let h : ◌≡◌ {A = ParseOutcome RawFileView} (Err (k, us)) (Err (Deep, bad ∷ tail)) = sym (all holes) ∙ e in
    let j : ◌≡◌ {A = Fault × Tokens} (k, us) (Deep, bad ∷ tail) = cc in
    absurd (deep_never (ap (λ p. p.0) j) clean)
deep_at n ts front bad tail more clean whole text lt less e (cut_off h t us ne w cl all) =
    let real : is_hole_token t.token ≡ false = clean_at h t us (subst NoHoles w clean) in
    let marked : read_file n ts ≡ Err (too_deep t.token, t ∷ us) = ap (read_file n) w ∙ all holes (too_deep t.token) t us (there t real) in
    let same = same_fault (read_file n ts) (too_deep t.token) Deep t bad us tail marked e in
    let token : t ≡ bad = (parts t bad us tail same.1).0 in
    let fronts : h ≡ front = append_cancel_right h front (bad ∷ tail) (sym (w ∙ ap (λ x. h ++ x) same.1) ∙ whole) in
    let each : (c : Cut) (k : Fault) (b : Placed) (y : Tokens) → c b ≡ Err k → file_cut n c (front ++ b ∷ y) ≡ Err (k, b ∷ y) = subst (λ f. (c : Cut) (k : Fault) (b : Placed) (y : Tokens) → c b ≡ Err k → file_cut n c (f ++ b ∷ y) ≡ Err (k, b ∷ y)) fronts all in
    (hole_after n ts front bad tail more whole lt less e each text, not_large bad.token (subst (λ x. too_deep x.token ≡ Deep) token same.0))

-- after tokens that a hole may follow each token is refused as where a formula would be too deep
shallow_at : (n : ℕ) (front : Tokens) (h : Placed) (other : Tokens) (q : RawFileView) (k : Fault) (bad : Placed) (tail : Tokens) → NoHoles front → is_hole_token h.token ≡ true → is_hole_token bad.token ≡ false → read_file n (front ++ h ∷ other) ≡ Ok (q, []) → read_file n (front ++ bad ∷ tail) ≡ Err (k, bad ∷ tail) → Told true (file_cut n) (front ++ h ∷ other) → IsDeepKind k
shallow_at n front h other q k bad tail clean is real ok e (took a left x w cl all) =
    let j : ◌≡◌ {A = ParseOutcome RawFileView} (Ok (a, left)) (Ok (q, [])) = sym (all holes) ∙ ok in
    let m : ◌≡◌ {A = RawFileView × Tokens} (a, left) (q, []) = cc in
    let none : left ≡ [] = ap (λ p. p.1) m in
    let free : NoHoles (front ++ h ∷ other) = subst NoHoles (sym (w ∙ ap (λ y. x ++ y) none ∙ append-nil x)) cl in
    absurd (both_holes h.token is (clean_at front h other free))
shallow_at n front h other q k bad tail clean is real ok e (refused j us deep_never all) = absurd (ok_or_err (read_file n (front ++ h ∷ other)) (q, []) (j, us) ok (all holes))
shallow_at n front h other q k bad tail clean is real ok e (cut_off x t us ne w cl all) = by (is_hole_token t.token) refl
  where
    by : (b : Bool) → is_hole_token t.token ≡ b → IsDeepKind k
    by false no_hole =
        let marked : read_file n (front ++ h ∷ other) ≡ Err (too_deep t.token, t ∷ us) = ap (read_file n) w ∙ all holes (too_deep t.token) t us (there t no_hole) in
        absurd (ok_or_err (read_file n (front ++ h ∷ other)) (q, []) (too_deep t.token, t ∷ us) ok marked)
    by true hole =
        let fronts : front ≡ x = same_front front x h t other us clean cl is hole w in
        let marked : read_file n (front ++ bad ∷ tail) ≡ Err (too_deep bad.token, bad ∷ tail) = ap (λ f. read_file n (f ++ bad ∷ tail)) fronts ∙ all holes (too_deep bad.token) bad tail (there bad real) in
        let same = same_fault (read_file n (front ++ bad ∷ tail)) k (too_deep bad.token) bad bad tail tail e marked in
        subst IsDeepKind (sym same.0) (deep_kind bad.token)

shallow_rank : (ts front : Tokens) (k : Fault) (bad : Placed) (tail : Tokens) → NoHoles ts → ts ≡ front ++ bad ∷ tail → IsTooDeepIn FileTexts front → ((n : ℕ) → length ts < n → read_file n ts ≡ Err (k, bad ∷ tail)) → IsDeepKind k
shallow_rank ts front k bad tail clean whole deep reads =
    let n = suc (length ts + length (front ++ deep.0 ∷ deep.1)) in
    let free : NoHoles (front ++ bad ∷ tail) = subst NoHoles whole clean in
    shallow_at n front deep.0 deep.1 (raw_file deep.3.0) k bad tail (clean_front front (bad ∷ tail) free) (hole_shows deep.0 deep.2) (clean_at front bad tail free)
    (lawful_read n deep.3.0 (front ++ deep.0 ∷ deep.1) [] (omega arith) deep.3.1 deep.3.2) (ap (read_file n) (sym whole) ∙ reads n (omega arith)) ((file_rule n).told (front ++ deep.0 ∷ deep.1))

-- the kind that is told has its rank
pub file_ranked : (ts front : Tokens) (k : Fault) (bad : Placed) (tail more : Tokens) → NoHoles ts → ts ≡ front ++ bad ∷ tail → FileTexts true (front ++ more) → IsCause k bad.token → ((n : ℕ) → length ts < n → read_file n ts ≡ Err (k, bad ∷ tail)) → IsRankedIn FileTexts k front bad.token
file_ranked ts front Deep bad tail more clean whole text cause reads =
    let n = suc (length ts + length (front ++ more)) in
    deep_at n ts front bad tail more clean whole text (omega arith) (omega arith) (reads n (omega arith)) ((file_rule n).told ts)
file_ranked ts front TextTooLong bad tail more clean whole text cause reads = λ d. shallow_rank ts front TextTooLong bad tail clean whole d reads
file_ranked ts front Period bad tail more clean whole text cause reads = λ d. shallow_rank ts front Period bad tail clean whole d reads
file_ranked ts front Syntax bad tail more clean whole text cause reads = tt
file_ranked ts front Number bad tail more clean whole text cause reads = tt
file_ranked ts front Memory bad tail more clean whole text cause reads = cause
