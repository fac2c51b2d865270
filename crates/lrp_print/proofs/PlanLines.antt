-- The lines of numbered steps, and the tests that a join carries.
use Rattle.std.proofs.Common.{◌≡◌, ◌<◌, ◌≤◌, ◌+◌, take_all, ℕ, length, take, drop, get_or, arith, List, [], ◌∷◌, ◌++◌, Option, refl, ap, append-nil, append_assoc, sym, ◌∙◌}
use Rattle.std.proofs.lemmas.List.{take-append-drop, take_more, length-take-le}
use Rattle.lrp_io.specs.Bytes.{appended, AppendsFront}
use Rattle.lrp_io.proofs.BytesLemmas.{appended_twice}
use Rattle.lrp_io.proofs.PieceLemmas.{front_after, front_before}
use Rattle.lrp_model.specs.PrintedPlans.{test_bytes, carried_bytes, step_line, step_lines}
use Rattle.lrp_model.specs.declared.formulas.Test.{Test}
use Rattle.lrp_model.specs.declared.plans.Step.{Step}
use Rattle.lrp_print.specs.Conditions.{after_where}
use Rattle.lrp_print.proofs.Lines.{front_as}

-- the tests that a join carries are its conditions
pub carried_are : (ts : List Test) → after_where test_bytes ts ≡ carried_bytes ts
carried_are [] = refl
carried_are (t ∷ ts) = refl

-- the lines of two lists of steps, one after the other
step_lines-append : (n : ℕ) (ss ts : List Step) → step_lines n (ss ++ ts) ≡ step_lines n ss ++ step_lines (n + length ss) ts
step_lines-append n [] ts = ap (λ k. step_lines k ts) (omega arith)
step_lines-append n (s ∷ ss) ts =
    ap (λ y. step_line n s ++ y) (step_lines-append (n + 1) ss ts ∙ ap (λ k. step_lines (n + 1) ss ++ step_lines k ts) (omega arith))
    ∙ sym (append_assoc (step_line n s) (step_lines (n + 1) ss) (step_lines (n + length (s ∷ ss)) ts))

-- the lines before one step, and its line
lines_step : (ss : List Step) (i : ℕ) (s : Step) → i < length ss → s ≡ get_or ss i s → step_lines 1 (take (i + 1) ss) ≡ step_lines 1 (take i ss) ++ step_line (i + 1) s
lines_step ss i s lt e =
    let size : length (take i ss) ≡ i = length-take-le i ss (omega arith) in
    let here : 1 + length (take i ss) ≡ i + 1 = omega (arith, size) in
    ap (step_lines 1) (take_more ss i s lt ∙ ap (λ x. take i ss ++ x ∷ []) (sym e)) ∙ step_lines-append 1 (take i ss) (s ∷ [])
    ∙ ap (λ y. step_lines 1 (take i ss) ++ y) (ap (λ k. step_lines k (s ∷ [])) here ∙ append-nil (step_line (i + 1) s))

-- after the lines of some steps, the next one's
pub line_step : (ss : List Step) (i number : ℕ) (s : Step) (old now new : Option (List ℕ)) → i < length ss → s ≡ get_or ss i s → number ≡ i + 1 → now ≡ appended old (step_lines 1 (take i ss)) → new ≡ appended now (step_line number s) → new ≡ appended old (step_lines 1 (take (i + 1) ss))
line_step ss i number s old now new lt e is before line =
    line ∙ ap (λ x. appended x (step_line number s)) before ∙ appended_twice old (step_lines 1 (take i ss)) (step_line number s)
    ∙ ap (appended old) (ap (λ k. step_lines 1 (take i ss) ++ step_line k s) is ∙ sym (lines_step ss i s lt e))

-- after the lines of some steps, a front of the next one's
pub line_front : (ss : List Step) (i number : ℕ) (s : Step) (old now new : Option (List ℕ)) → i < length ss → s ≡ get_or ss i s → number ≡ i + 1 → now ≡ appended old (step_lines 1 (take i ss)) → AppendsFront now new (step_line number s) → AppendsFront old new (step_lines 1 ss)
line_front ss i number s old now new lt e is before front =
    let so_far = step_lines 1 (take i ss) ++ step_line number s in
    let rest = step_lines (1 + length (take (i + 1) ss)) (drop (i + 1) ss) in
    let whole : so_far ++ rest ≡ step_lines 1 ss =
    ap (λ y. y ++ rest) (ap (λ k. step_lines 1 (take i ss) ++ step_line k s) is ∙ sym (lines_step ss i s lt e)) ∙ sym (step_lines-append 1 (take (i + 1) ss) (drop (i + 1) ss)) ∙ ap (step_lines 1) (take-append-drop (i + 1) ss) in
    let reached : AppendsFront old new so_far = front_after old now new (step_lines 1 (take i ss)) (step_line number s) before front in
    front_as old new (so_far ++ rest) (step_lines 1 ss) whole (front_before old new so_far rest reached)

-- past the last step, the lines of all
pub all_lines : (ss : List Step) (i : ℕ) → length ss ≤ i → step_lines 1 (take i ss) ≡ step_lines 1 ss
all_lines ss i le = ap (step_lines 1) (take_all i ss le)
