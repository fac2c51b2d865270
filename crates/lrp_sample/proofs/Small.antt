-- The numbers and texts of trips are small and plain.
use Rattle.std.proofs.Common.{◌≡◌, ◌<◌, ◌+◌, ◌%◌, ◌^◌, ℕ, List, [], ◌∷◌, ◌++◌, refl, ap, ◌∙◌, sym, subst, codes, arith, append_assoc}
use Rattle.std.proofs.lemmas.Bool.Decides.{nat_tests}
use Rattle.std.specs.List.{flat_map, AllByRecursion}
use Rattle.std.specs.Fmt.{decimal}
use Rattle.std.proofs.lemmas.Fmt.{decimal_digit}
use Rattle.lrp_model.specs.Printed.{escaped, quoted}
use Rattle.lrp_print.proofs.Scanned.{IsPlain}
use Rattle.lrp_sample.specs.Texts.{duration, departure, arrival, line, trip_line}

pub departure_small : (seed i : ℕ) → departure seed i < 2 ^ 64
departure_small seed i = omega arith

pub arrival_small : (seed i : ℕ) → arrival seed i < 2 ^ 64
arrival_small seed i = omega arith

pub duration_small : (i : ℕ) → duration i < 2 ^ 64
duration_small i = omega arith

-- a line is a letter and a digit
pub line_is : (i : ℕ) → line i ≡ 76 ∷ (48 + i % 10) ∷ []
line_is i = let lt : i % 10 < 10 = omega arith in ap (λ ds. 76 ∷ ds) (decimal_digit (i % 10) lt)

-- which stand in a text as they are
pub line_plain : (i : ℕ) → AllByRecursion IsPlain (line i)
line_plain i = subst (λ t. AllByRecursion IsPlain t) (sym (line_is i)) (refl, (plain_digit (i % 10) (omega arith), tt))
  where
    plain_digit : (d : ℕ) → d < 10 → IsPlain (48 + d)
    plain_digit d lt = grind (arith, nat_tests)

-- and between quotes
pub line_quoted : (i : ℕ) → quoted (line i) ≡ codes "\"L" ++ (decimal (i % 10) ++ codes "\"")
line_quoted i = ap quoted (line_is i) ∙ ap (λ ds. 34 ∷ 76 ∷ (ds ++ 34 ∷ [])) (digit_as_is (i % 10) (omega arith) ∙ sym (decimal_digit (i % 10) (omega arith)))
  where
    as_is : (d : ℕ) → d < 10 → escaped (48 + d) ≡ (48 + d) ∷ []
    as_is d lt = grind (arith, nat_tests)

    digit_as_is : (d : ℕ) → d < 10 → flat_map escaped ((48 + d) ∷ []) ≡ (48 + d) ∷ []
    digit_as_is d lt = ap (λ l. l ++ []) (as_is d lt)

-- the line of a trip, as it is printed
abbrev pub printed_line : ℕ → ℕ → List ℕ
printed_line seed i =
    codes "  (" ++ (decimal (departure seed i) ++ (codes "+1440n, " ++ (decimal (arrival seed i) ++ (codes "+1440n, \"L" ++ (decimal (i % 10) ++
    (codes "\") where arr = dep + " ++ (decimal (duration i) ++ codes ";\n")))))))

-- which is its line
pub printed_is : (seed i : ℕ) → printed_line seed i ≡ trip_line seed i
printed_is seed i =
    let bounds = codes ") where arr = dep + " ++ (decimal (duration i) ++ codes ";\n") in
    let text : codes "\"L" ++ (decimal (i % 10) ++ (codes "\"" ++ bounds)) ≡ quoted (line i) ++ bounds = ap (λ l. codes "\"L" ++ l) (sym (append_assoc (decimal (i % 10)) (codes "\"") bounds)) ∙ ap (λ l. l ++ bounds) (sym (line_quoted i)) in
    ap (λ l. codes "  (" ++ (decimal (departure seed i) ++ (codes "+1440n, " ++ (decimal (arrival seed i) ++ (codes "+1440n, " ++ l))))) text
