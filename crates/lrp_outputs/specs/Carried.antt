-- What an output carries beside its values holds in at most one way, as each fact of a ghost field must.
use Rattle.std.specs.Prelude.{◌<◌, ℕ, ℤ, Bool, true, false, List, length, take, map, Option, Some, None}
use Rattle.std.specs.List.{AllByRecursion, AllByRecursion-prop}
use Rattle.std.specs.Coded.{×_prop, Π_prop, Unit-prop, le_prop, Coded-set, coded_list, coded_ℕ}
use Rattle.std.proofs.Math.Dec.{T_prop}
use Rattle.lrp_theory.specs.Entries.{AtMost, entry}
use Rattle.lrp_model.specs.Printed.{quoted}
use Rattle.lrp_model.specs.PrintedPages.{IsSmall}
use Rattle.lrp_model.specs.Texts.{Text}
use Rattle.lrp_model.specs.declared.formulas.Test.{Test}
use Rattle.lrp_model.specs.declared.formulas.Test.TheVariants.{Compare, Member, Equal}
use Rattle.lrp_model.specs.declared.plans.Step.{Step}
use Rattle.lrp_model.specs.declared.plans.StepKind.{StepKind}
use Rattle.lrp_model.specs.declared.plans.StepKind.TheVariants.{Scan, Leaf, Sort, Join, Select, Union, Minus, Complement, DropTime, DropData, Extend}
use Rattle.lrp_model.specs.declared.tuples.Spot.{Spot}
use Rattle.lrp_zone.specs.Zones.{ZoneView}
use Rattle.lrp_store.specs.Stores.{StoreView, zone_of}
use Rattle.lrp_answers.specs.declared.answer.Answer.{Answer}
use Rattle.lrp_answer_text.specs.Lines.{IsFormOf}
use Rattle.lrp_answer_text.specs.declared.texts.Form.{Form}
use Rattle.lrp_answer_text.specs.declared.texts.Form.TheVariants.{Plain, Json}
use Rattle.lrp_calendar.specs.Moments.{IsCivilMinute}
use Rattle.lrp_print.specs.Writable.{TestHasPeriod, KindHasPeriods, StepHasPeriods}
use Rattle.lrp_outputs.specs.Spots.{IsKnownLeast}
use Rattle.lrp_outputs.specs.Known.{IsKnownSpot, HasCivilTimes, HaveCivilTimes}
use Rattle.lrp_count.specs.declared.windows.Range.{Range}
use Rattle.lrp_outputs.specs.RangeLines.{HasEndsAs, IsDatedWhere, range_ends}
use Rattle.lrp_outputs.specs.Rooms.{HasSmallBounds, IsRoomy, greatest_in}

-- ---- spots

numbers_prop : (bound : ℕ) (ns : List ℕ) → IsProp (AllByRecursion (λ n. n < bound) ns)
numbers_prop bound = AllByRecursion-prop (λ n. n < bound) (λ n. Prim.hlevel (le_prop))

pub spot_prop : (a : Answer) (spot : Option Spot) → IsProp (IsKnownLeast a spot)
spot_prop a None = Unit-prop
spot_prop a (Some spot) = numbers_prop (length a.domain) (take a.store.shape.texts spot.texts)

pub least_answers_prop : (a : Answer) (spots : List (Option Spot)) → IsProp (AllByRecursion (IsKnownLeast a) spots)
least_answers_prop a = AllByRecursion-prop (IsKnownLeast a) (spot_prop a)

times_prop : (xs : List ℤ) → IsProp (AllByRecursion IsSmall xs)
times_prop = AllByRecursion-prop IsSmall (λ x. Prim.hlevel (le_prop))

known_prop : (a : Answer) (spot : Spot) → IsProp (IsKnownSpot a spot)
known_prop a spot =
    ×_prop (×_prop (numbers_prop (length a.domain) (take a.store.shape.texts spot.texts)) (times_prop (take a.store.shape.times spot.times)))
    (×_prop (Coded-set coded_ℕ (length spot.times) 8) (Coded-set coded_ℕ (length spot.texts) 8))

pub spots_prop : (a : Answer) (spots : List Spot) → IsProp (AllByRecursion (IsKnownSpot a) spots)
spots_prop a = AllByRecursion-prop (IsKnownSpot a) (known_prop a)

minutes_prop : (a : Answer) (spot : Spot) → IsProp (HasCivilTimes a spot)
minutes_prop a spot = AllByRecursion-prop IsCivilMinute (λ x. ×_prop (Prim.hlevel (T_prop)) (Prim.hlevel (T_prop))) (take a.store.shape.times spot.times)

pub civil_prop : (civil : Bool) (a : Answer) (spots : List Spot) → IsProp (HaveCivilTimes civil a spots)
civil_prop false a spots = Unit-prop
civil_prop true a spots = AllByRecursion-prop (HasCivilTimes a) (minutes_prop a) spots

dated_prop : (civil : Bool) (end : ℤ) → IsProp (IsDatedWhere civil end)
dated_prop false end = Unit-prop
dated_prop true end = ×_prop (Prim.hlevel (T_prop)) (Prim.hlevel (T_prop))

pub ends_prop : (civil : Bool) (ranges : List Range) → IsProp (AllByRecursion (HasEndsAs civil) ranges)
ends_prop civil = AllByRecursion-prop (HasEndsAs civil) (λ range. AllByRecursion-prop (IsDatedWhere civil) (dated_prop civil) (range_ends range))

-- ---- texts

pub form_prop : (domain : List Text) (form : Form) → IsProp (IsFormOf domain form)
form_prop domain Plain = Unit-prop
form_prop domain (Json texts) = Coded-set (coded_list (coded_list coded_ℕ)) texts (map quoted domain)

-- ---- zones

at_most_prop : (h : ℕ) (o : Option ℤ) → IsProp (AtMost h o)
at_most_prop h None = Unit-prop
at_most_prop h (Some a) = ×_prop (Prim.hlevel (T_prop)) (Prim.hlevel (T_prop))

small_prop : (z : ZoneView) (h : ℕ) → IsProp (HasSmallBounds z h)
small_prop z h = Π_prop (λ m. Π_prop (λ closed. Π_prop (λ same. Π_prop (λ i. Π_prop (λ j. Π_prop (λ il. Π_prop (λ jl. Π_prop (λ ne. at_most_prop h (entry m.cells i j)))))))))

pub roomy_prop : (s : StoreView) → IsProp (IsRoomy s)
roomy_prop s = Π_prop (λ cell. Π_prop (λ table. Π_prop (λ held. ×_prop (Prim.hlevel (le_prop)) (small_prop (zone_of s cell table) (greatest_in (zone_of s cell table))))))

-- ---- plans

test_prop : (t : Test) → IsProp (TestHasPeriod t)
test_prop (Compare left op right) = Unit-prop
test_prop (Member term point) = Prim.hlevel (T_prop)
test_prop (Equal left right) = Unit-prop

kind_prop : (k : StepKind) → IsProp (KindHasPeriods k)
kind_prop (Leaf t) = test_prop t
kind_prop (Join left right tests) = AllByRecursion-prop TestHasPeriod test_prop tests
kind_prop (Select of t) = test_prop t
kind_prop (Scan name terms) = Unit-prop
kind_prop (Sort v s texts) = Unit-prop
kind_prop (Union left right) = Unit-prop
kind_prop (Minus left right) = Unit-prop
kind_prop (Complement of) = Unit-prop
kind_prop (DropTime of v) = Unit-prop
kind_prop (DropData of v) = Unit-prop
kind_prop (Extend of) = Unit-prop

pub steps_prop : (steps : List Step) → IsProp (AllByRecursion StepHasPeriods steps)
steps_prop = AllByRecursion-prop StepHasPeriods (λ step. kind_prop step.kind)
