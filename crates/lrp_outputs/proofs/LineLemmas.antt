-- Lines in pieces.
use Rattle.std.proofs.Common.{◌≡◌, ℕ, zero, suc, ◌<◌, List, [], ◌∷◌, ◌++◌, length, get_or, take, Option, arith, refl}
use Rattle.std.specs.Prelude.{codes}
use Rattle.std.specs.Borrow.{Bor}
use Rattle.std.specs.Fmt.{decimal}
use Rattle.std.specs.List.{flat_map}
use Rattle.lrp_io.specs.Bytes.{appended, AppendsFront}
use Rattle.lrp_model.specs.declared.tokens.Place.{Place}
use Rattle.lrp_print.proofs.Lines.{item_front}
use Rattle.lrp_outputs.specs.Outcomes.{cells_line, edit_line, fault_line, rows_line}
use Rattle.lrp_outputs.specs.RangeLines.{count_line}

-- the seven pieces of the line of a fault
pub fault_pieces : (whose kind : List ℕ) (place : Place) (a b c d e g h : List ℕ) → a ≡ whose → b ≡ kind → c ≡ codes " at " → d ≡ decimal place.line → e ≡ codes ":" → g ≡ decimal place.column → h ≡ codes "\n"
    → a ++ (b ++ (c ++ (d ++ (e ++ (g ++ (h ++ [])))))) ≡ fault_line whose kind place
fault_pieces whose kind place a b c d e g h p q r s t u v = rw (p, q, r, s, t, u, v) refl

-- the five pieces of the line of too many cells
pub cells_pieces : (cap : ℕ) (place : List ℕ) (number : ℕ) (a b c d e : List ℕ) → a ≡ codes "refused: more than " → b ≡ decimal cap → c ≡ place → d ≡ decimal number → e ≡ codes "\n" → a ++ (b ++ (c ++ (d ++ (e ++ [])))) ≡ cells_line cap place number
cells_pieces cap place number a b c d e p q r s t = rw (p, q, r, s, t) refl

-- the three pieces of the line of an edit
pub edit_pieces : (limit : List ℕ) (edit : ℕ) (a b c : List ℕ) → a ≡ limit → b ≡ decimal edit → c ≡ codes "\n" → a ++ (b ++ (c ++ [])) ≡ edit_line limit edit
edit_pieces limit edit a b c p q r = rw (p, q, r) refl

-- the three pieces of the line of a canonical answer with too many rows
pub rows_pieces : (cap : ℕ) (a b c : List ℕ) → a ≡ codes "refused: more than " → b ≡ decimal cap → c ≡ codes " canonical rows\n" → a ++ (b ++ (c ++ [])) ≡ rows_line cap
rows_pieces cap a b c p q r = rw (p, q, r) refl

-- the two pieces of the line of a number of answers
pub number_pieces : (number : ℕ) (a b : List ℕ) → a ≡ decimal number → b ≡ codes "\n" → a ++ (b ++ []) ≡ count_line number
number_pieces number a b p q = rw (p, q) refl

-- an element is there, whatever stands for one that is not
pub there : {A : Type 0} (xs : List A) (i : ℕ) (d : A) → i < length xs → get_or xs i d ≡ get_or xs i (get_or xs i d)
there [] i d l = absurd (omega arith)
there (x ∷ xs) zero d l = refl
there (x ∷ xs) (suc i) d l = there xs i d (omega arith)

-- a front of a piece after those before it is a front of all pieces
pub piece_front : (xs : List (Bor (List ℕ))) (i : ℕ) (d : Bor (List ℕ)) (old now new : Option (List ℕ)) → i < length xs → now ≡ appended old (flat_map (λ piece. piece.now) (take i xs)) → AppendsFront now new (get_or xs i d).now → AppendsFront old new (flat_map (λ piece. piece.now) xs)
piece_front xs i d old now new l so_far front = item_front (λ piece. piece.now) xs i (get_or xs i d) old now new l (there xs i d l) so_far front
