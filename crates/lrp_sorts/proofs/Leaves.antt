-- Formulas without parts: few names in them, and what they show beside what was found before.
use Rattle.std.proofs.Common.{◌≡◌, ◌≤◌, ◌+◌, ℕ, Bool, true, false, cond, List, [], ◌∷◌, ◌++◌, length, flat_map, nat_lt, Option, Some, None, ap, sym, arith}
use Rattle.std.proofs.lemmas.Bool.Decides.{nat_tests}
use Rattle.lrp_model.specs.Texts.{Identifier}
use Rattle.lrp_model.specs.Sorts.{is_time, is_data}
use Rattle.lrp_model.specs.Faults.{earliest, fault_if, is_named_in}
use Rattle.lrp_model.specs.RawQueries.{raw_form_of}
use Rattle.lrp_model.specs.Sorting.{Binders, binder_sort, count, counted, too_many, term_names, query_standing, query_fault, form_faults, free_names, widened, place_of}
use Rattle.lrp_model.specs.declared.faults.QueryKind.TheVariants.{Wide}
use Rattle.lrp_model.specs.declared.raw.RawFormula.{RawFormula}
use Rattle.lrp_model.specs.declared.raw.RawTerm.{RawTerm}
use Rattle.lrp_model.specs.declared.raw.RawTermKind.{RawTermKind}
use Rattle.lrp_model.specs.declared.tokens.Place.{Place}
use Rattle.lrp_model.specs.declared.raw.RawTermKind.TheVariants.{Int, Text, Var, Shifted}
use Rattle.lrp_model.specs.declared.relations.Relation.{Relation}
use Rattle.lrp_model.specs.declared.relations.Sort.{Sort}
use Rattle.std.proofs.lemmas.List.{length-append}

-- a term has one name at most
one_kind : (k : RawTermKind) (p : Place) → length (term_names (record { kind = k; place = p })) ≤ 1
one_kind (Int x) p = omega arith
one_kind (Text u) p = omega arith
one_kind (Var n) p = omega arith
one_kind (Shifted n plus) p = omega arith

one_name : (t : RawTerm) → length (term_names t) ≤ 1
one_name t = one_kind t.kind t.place

-- terms have no more names than they are
pub few_names : (ts : List RawTerm) → length (flat_map term_names ts) ≤ length ts
few_names [] = omega arith
few_names (t ∷ ts) =
    let both : length (term_names t ++ flat_map term_names ts) ≡ length (term_names t) + length (flat_map term_names ts) = length-append (term_names t) (flat_map term_names ts) in
    let one : length (term_names t) ≤ 1 = one_name t in
    let rest : length (flat_map term_names ts) ≤ length ts = few_names ts in
    omega (arith, both, one, rest)

-- two terms have two names at most
pub two_names : (s t : RawTerm) → length (term_names s ++ term_names t) ≤ 8
two_names s t =
    let both : length (term_names s ++ term_names t) ≡ length (term_names s) + length (term_names t) = length-append (term_names s) (term_names t) in
    let one : length (term_names s) ≤ 1 = one_name s in
    let other : length (term_names t) ≤ 1 = one_name t in
    omega (arith, both, one, other)

-- a term has
pub own_names : (t : RawTerm) → length (term_names t) ≤ 8
own_names t =
    let one : length (term_names t) ≤ 1 = one_name t in
    omega (arith, one)

chosen : (b : Bool) → cond b 1 0 ≤ 1
chosen true = omega arith
chosen false = omega arith

once : (passes : Sort → Bool) (s : Option Sort) → counted passes s ≤ 1
once passes None = omega arith
once passes (Some s) = chosen (passes s)

further : (b : Bool) (one rest all : ℕ) → one ≤ 1 → rest ≤ all → cond b rest (one + rest) ≤ all + 1
further true one rest all h k = omega arith
further false one rest all h k = omega arith

-- no more names are counted than there are
counted_few : (passes : Sort → Bool) (bs : Binders) (names : List Identifier) → count passes bs names ≤ length names
counted_few passes bs [] = omega arith
counted_few passes bs (n ∷ names) =
    let all : cond (is_named_in names n) (count passes bs names) (counted passes (binder_sort bs n) + count passes bs names) ≤ length names + 1 =
    further (is_named_in names n) (counted passes (binder_sort bs n)) (count passes bs names) (length names) (once passes (binder_sort bs n)) (counted_few passes bs names) in
    omega (arith, all)

below : (n : ℕ) → n ≤ 8 → nat_lt 8 n ≡ false
below n h = grind (arith, nat_tests)

neither : (a b : Bool) → a ≡ false → b ≡ false → (cond a true b) ≡ false
neither a b h k = cc

-- eight names are not too many
pub few_fit : (bs : Binders) (names : List Identifier) → length names ≤ 8 → too_many bs names ≡ false
few_fit bs names h =
    let times : count is_time bs names ≤ length names = counted_few is_time bs names in
    let texts : count is_data bs names ≤ length names = counted_few is_data bs names in
    let short : nat_lt 8 (count is_time bs names) ≡ false = below (count is_time bs names) (omega (arith, times, h)) in
    let other : nat_lt 8 (count is_data bs names) ≡ false = below (count is_data bs names) (omega (arith, texts, h)) in
    cc

-- so a formula with no more shows no width of its own
pub narrow_faults : (bs : Binders) (db : List Relation) (f : RawFormula) → length (free_names (raw_form_of f)) ≤ 8
    → earliest query_standing (form_faults (raw_form_of f) db bs) ≡ earliest query_standing (widened bs [] (raw_form_of f) (form_faults (raw_form_of f) db bs))
narrow_faults bs db f h =
    ap (λ b. earliest query_standing (fault_if b (query_fault Wide (place_of (raw_form_of f))) ++ form_faults (raw_form_of f) db bs)) (sym (few_fit bs (free_names (raw_form_of f)) h))
