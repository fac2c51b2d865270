-- What follows from what a result says.
use Rattle.std.specs.Prelude.{Result, Ok, Err, Option, Some, None, IfOk, IfSome, OnOk}

-- what follows from what an Ok says of its value
pub if_ok_then : {A E : Type 0} (r : Result A E) (P Q : A → Type 0) → IfOk r P → ((x : A) → P x → Q x) → IfOk r Q
if_ok_then (Ok x) P Q h f = f x h
if_ok_then (Err x) P Q h f = h

pub then_ok : {A E : Type 0} (r : Result A E) (P Q : Type 0) → OnOk r P → (P → Q) → OnOk r Q
then_ok (Ok x) P Q h f = f h
then_ok (Err x) P Q h f = h

-- what follows from two facts of its value
pub if_ok_both : {A E : Type 0} (r : Result A E) (P R Q : A → Type 0) → IfOk r P → IfOk r R → ((x : A) → P x → R x → Q x) → IfOk r Q
if_ok_both (Ok x) P R Q h k f = f x h k
if_ok_both (Err x) P R Q h k f = h

-- what follows from what a Some says of its value
pub if_some_then : {A : Type 0} (o : Option A) (P Q : A → Type 0) → IfSome o P → ((x : A) → P x → Q x) → IfSome o Q
if_some_then (Some x) P Q h f = f x h
if_some_then None P Q h f = h
