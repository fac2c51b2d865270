-- Lines in pieces.
use Rattle.std.proofs.Common.{◌≡◌, ℕ, zero, suc, ◌+◌, ◌<◌, List, [], ◌∷◌, ◌++◌, length, get_or, take, Option, arith, refl, ap, ◌∙◌}
use Rattle.std.specs.Prelude.{⊤, codes}
use Rattle.std.specs.Borrow.{Bor}
use Rattle.std.specs.Fmt.{decimal}
use Rattle.std.specs.List.{AllByRecursion, flat_map}
use Rattle.lrp_io.specs.Bytes.{appended, AppendsFront}
use Rattle.lrp_print.proofs.Lines.{item_front}
use Rattle.lrp_lint.specs.Reports.{flaw_line, query_finding_line, query_lines, query_flaw_word, row_finding_line, row_lines}
use Rattle.lrp_model.specs.declared.relations.Relation.{Relation}
use Rattle.lrp_lint.specs.declared.flaws.QueryFinding.{QueryFinding}
use Rattle.lrp_lint.specs.declared.flaws.RowFinding.{RowFinding}

-- the seven pieces of the line of a row
pub row_pieces : (flaw name : List ℕ) (row : ℕ) (a b c d e g h : List ℕ) → a ≡ codes "database " → b ≡ flaw → c ≡ codes " " → d ≡ name → e ≡ codes " " → g ≡ decimal (row + 1) → h ≡ codes "\n"
    → a ++ (b ++ (c ++ (d ++ (e ++ (g ++ (h ++ [])))))) ≡ flaw_line flaw name row
row_pieces flaw name row a b c d e g h p q r s t u v = rw (p, q, r, s, t, u, v) refl

-- the seven pieces of the line of a place
pub place_pieces : (f : QueryFinding) (a b c d e g h : List ℕ) → a ≡ codes "query " → b ≡ query_flaw_word f.flaw → c ≡ codes " at " → d ≡ decimal f.line → e ≡ codes ":" → g ≡ decimal f.column → h ≡ codes "\n"
    → a ++ (b ++ (c ++ (d ++ (e ++ (g ++ (h ++ [])))))) ≡ query_finding_line f
place_pieces f a b c d e g h p q r s t u v = rw (p, q, r, s, t, u, v) refl

-- an element is there, whatever stands for one that is not
there : {A : Type 0} (xs : List A) (i : ℕ) (d : A) → i < length xs → get_or xs i d ≡ get_or xs i (get_or xs i d)
there [] i d l = absurd (omega arith)
there (x ∷ xs) zero d l = refl
there (x ∷ xs) (suc i) d l = there xs i d (omega arith)

-- a front of a piece after those before it is a front of all pieces
pub piece_front : (xs : List (Bor (List ℕ))) (i : ℕ) (d : Bor (List ℕ)) (old now new : Option (List ℕ)) → i < length xs → now ≡ appended old (flat_map (λ piece. piece.now) (take i xs)) → AppendsFront now new (get_or xs i d).now → AppendsFront old new (flat_map (λ piece. piece.now) xs)
piece_front xs i d old now new l so_far front = item_front (λ piece. piece.now) xs i (get_or xs i d) old now new l (there xs i d l) so_far front

-- ---- the lines of a report

-- every finding has a line
pub all_spelled : {A : Type 0} (xs : List A) → AllByRecursion (λ (x : A). ⊤) xs
all_spelled [] = tt
all_spelled (x ∷ xs) = (tt, all_spelled xs)

pub row_lines_as : (shown db : List Relation) (items found : List RowFinding) → shown ≡ db → items ≡ found → flat_map (row_finding_line shown) items ≡ row_lines db found
row_lines_as shown db items found e i = ap (λ rs. flat_map (row_finding_line rs) items) e ∙ ap (flat_map (row_finding_line db)) i

pub query_lines_as : (items found : List QueryFinding) → items ≡ found → flat_map query_finding_line items ≡ query_lines found
query_lines_as items found i = ap (flat_map query_finding_line) i
