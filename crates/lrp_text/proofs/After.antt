-- The place after some bytes, one byte after the other.
use Rattle.std.proofs.Common.{◌≡◌, ◌==◌, ◌<◌, ◌≤◌, ◌+◌, ℕ, Bool, true, false, List, [], ◌∷◌, ◌++◌, refl, subst, sym, length, take, get_or, add-one, arith, if◌then◌else◌}
use Rattle.std.proofs.Math.Seq.{take-suc}
use Rattle.lrp_model.specs.declared.tokens.Place.{Place}
use Rattle.lrp_model.specs.Lexing.{after, moved}

-- the place after one more byte
after_one : (p : Place) (bs : List ℕ) (b : ℕ) → after p (bs ++ b ∷ []) ≡ moved (after p bs) b
unfolding after
after_one p [] b = refl
after_one p (a ∷ bs) b = after_one (moved p a) bs b

-- the place after one more byte of a list
pub after_more : (p : Place) (bs : List ℕ) (i : ℕ) (d : ℕ) → i < length bs → after p (take (i + 1) bs) ≡ moved (after p (take i bs)) (get_or bs i d)
after_more p bs i d lt = rw (add-one, take-suc bs i d lt) (after_one p (take i bs) (get_or bs i d))

-- the place after no bytes
pub after_none : (p : Place) → after p [] ≡ p
unfolding after
after_none p = refl

-- at most one line further on, and one column
abbrev pub IsNear : Place → Place → Type 0
IsNear p q = (q.line ≤ p.line + 1) × (q.column ≤ p.column + 1)

-- the place after a byte that is a line feed or not
near_by : (feed : Bool) (p : Place) → IsNear p (if feed then record { line = p.line + 1; column = 1 } else record { line = p.line; column = p.column + 1 })
near_by true p = (omega arith, omega arith)
near_by false p = (omega arith, omega arith)

-- a byte moves a place by one line or one column
pub moved_near : (p q : Place) (b : ℕ) → q ≡ moved p b → IsNear p q
moved_near p q b e = subst (IsNear p) (sym e) (near_by (b == 10) p)
