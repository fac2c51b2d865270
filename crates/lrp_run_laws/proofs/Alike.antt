-- Two runs of one task over the same bytes end alike.
use Rattle.std.proofs.Common.{◌≡◌, ◌≢◌, inl, inr, ◌++◌, ◌∙◌, ℕ, ℤ, Bool, List, length, Ordering, Less, Equal, Greater, refl, sym, ap, ap₂, subst, Option, Some, None}
use Rattle.std.specs.Prelude.{pos, codes}
use Rattle.std.specs.Cmp.{IsTotalOrder}
use Rattle.std.specs.Cmp.Lexicographic.{slice_cmp}
use Rattle.std.specs.FinMap.{IsAntisymmetric, slice_cmp-IsAntisymmetric, nat_cmp-IsAntisymmetric}
use Rattle.std.specs.Ordering.{nat_cmp, ordering_reverse}
use Rattle.std.proofs.lemmas.Cmp.{on_total, then_total, lists_total, nat_cmp_total, nat_list_cmp_total}
use Rattle.std.proofs.lemmas.Map.Lookups.{exact_bytes, exact_pairs}
use Rattle.lrp_theory.specs.Residues.{rank}
use Rattle.lrp_model.specs.Formulas.{Question}
use Rattle.lrp_model.specs.Order.{rank_cmp, IsLeast}
use Rattle.lrp_model.specs.Pages.{IsPage}
use Rattle.lrp_model.specs.Plans.{plan}
use Rattle.lrp_model.specs.Rows.{Datum, times_of, texts_of, Tuple}
use Rattle.lrp_model.specs.Satisfaction.{HasShape, structure, IsAnswer}
use Rattle.lrp_model.specs.Steps.{Steps}
use Rattle.lrp_model.specs.Texts.{Text, text_cmp}
use Rattle.lrp_model.specs.Tuples.{in_head_order}
use Rattle.lrp_model.specs.declared.relations.Column.{Column}
use Rattle.lrp_model.specs.declared.relations.Relation.{Relation}
use Rattle.lrp_eval.specs.Counts.{HasAnswerCount, HasCells}
use Rattle.lrp_outputs.specs.First.{IsFirst, least_line}
use Rattle.lrp_top.specs.Sampled.{TellsSample}
use Rattle.lrp_outputs.specs.SampleLines.{sample_lines}
use Rattle.lrp_sample.specs.Texts.{sample_database, sample_query}
use Rattle.lrp_top.specs.Written.{IsSorted}
use Rattle.lrp_top.specs.Telling.{TellsNumber, TellsPage, TellsRanges, TellsWitness}
use Rattle.lrp_top.specs.declared.language.QueryLanguage.TheVariants.{FirstOrder}
use Rattle.lrp_count.specs.Numbers.{HasSize}
use Rattle.lrp_count.specs.Ranges.{AreRanges, InWindowOf, IsAnswerTime}
use Rattle.lrp_count.specs.declared.windows.Range.{Range}
use Rattle.lrp_outputs.specs.RangeLines.{count_line, ranges_bytes}
use Rattle.lrp_outputs.specs.PageLines.{listed_bytes}
use Rattle.lrp_run_laws.proofs.Complete.{DatabaseTexts, QueryTexts}
use Rattle.lrp_model.proofs.Unique.{shape_of}

-- ---- the least answer is one

-- integers of one rank are one
abbrev pub OneRank : Type 0
OneRank = (x y : ℤ) → rank x ≡ rank y → x ≡ y

-- a tuple of the head's shape is that of its times and texts
abbrev pub WholeTuples : Type 0
WholeTuples = (columns : List Column) (tuple : List Datum) → HasShape columns tuple → in_head_order columns (times_of tuple) (texts_of tuple) ≡ tuple

ranks_total : IsTotalOrder rank_cmp
ranks_total = then_total (on_total times_of (lists_total (on_total rank nat_cmp_total))) (on_total texts_of (lists_total nat_list_cmp_total))

-- what is not after and not before is beside
beside : (o p : Ordering) → p ≡ ordering_reverse o → o ≢ Greater → p ≢ Greater → o ≡ Equal
beside Less p e h k = absurd (k e)
beside Equal p e h k = refl
beside Greater p e h k = absurd (h refl)

-- an answer has the head's shape
pub shaped : (db : List Relation) (q : Question) (tuple : Tuple) → IsAnswer db q tuple → HasShape q.head tuple
shaped db q tuple answer = shape_of (structure db q) q.head tuple answer.fits

module _ (one_rank : OneRank) (whole : WholeTuples) (db : List Relation) (q : Question) where
  rank_exact : IsAntisymmetric (λ (x y : ℤ). nat_cmp (rank x) (rank y))
  rank_exact x y e = one_rank x y (nat_cmp-IsAntisymmetric (rank x) (rank y) e)

  one_ranked : (t u : Tuple) → IsAnswer db q t → IsAnswer db q u → rank_cmp t u ≡ Equal → t ≡ u
  one_ranked t u a b e =
      let same : (times_of t, texts_of t) ≡ (times_of u, texts_of u) =
      exact_pairs (slice_cmp (λ (x y : ℤ). nat_cmp (rank x) (rank y))) (slice_cmp text_cmp) (slice_cmp-IsAntisymmetric rank_exact) (slice_cmp-IsAntisymmetric exact_bytes) (times_of t, texts_of t) (times_of u, texts_of u) e in
      sym (whole q.head t (shaped db q t a)) ∙ ap (λ (p : List ℤ × List Text). in_head_order q.head p.0 p.1) same ∙ whole q.head u (shaped db q u b)

  pub one_least : (t u : Tuple) → IsLeast (IsAnswer db q) t → IsLeast (IsAnswer db q) u → t ≡ u
  one_least t u a b = one_ranked t u a.is b.is (beside (rank_cmp t u) (rank_cmp u t) (ranks_total.antisymm u t) (a.first u b.is) (b.first t a.is))

  -- and so is what is told of it
  pub one_witness : (dates : Bool) (bytes other : List ℕ) → TellsWitness dates db q bytes → TellsWitness dates db q other → bytes ≡ other
  one_witness dates bytes other (inl none) (inl empty) = none.spelled ∙ sym empty.spelled
  one_witness dates bytes other (inl none) (inr some) = absurd (none.none some.tuple some.least.is)
  one_witness dates bytes other (inr some) (inl none) = absurd (none.none some.tuple some.least.is)
  one_witness dates bytes other (inr some) (inr more) = some.spelled ∙ ap (λ t. codes "Nonempty\n" ++ least_line dates t) (one_least some.tuple more.tuple some.least more.least) ∙ sym more.spelled

  pub one_start : (t u : Option Tuple) → IsFirst db q t → IsFirst db q u → t ≡ u
  one_start None None a b = refl
  one_start None (Some u) a b = absurd (a u b.is)
  one_start (Some t) None a b = absurd (b t a.is)
  one_start (Some t) (Some u) a b = ap Some (one_least t u a b)

-- ---- a page is one

abbrev pub OnePage : Type 0
OnePage = (db : List Relation) (query : Question) (from to : ℤ) (after : Option Tuple) (limit : ℕ) (page other : List Tuple) (more further : Bool)
    → IsPage (IsAnswer db query) from to after limit page more → IsPage (IsAnswer db query) from to after limit other further → (page ≡ other) × (more ≡ further)

pub one_listing : OnePage → (db : List Relation) (q : Question) (from to : ℤ) (after : Option Tuple) (limit : ℕ) (civil json : Bool) (digest bytes other : List ℕ) → TellsPage db q from to after limit civil json digest bytes → TellsPage db q from to after limit civil json digest other → bytes ≡ other
one_listing one db q from to after limit civil json digest bytes other a b =
    let same = one db q from to after limit a.page b.page a.more b.more a.is b.is in
    a.spelled ∙ ap₂ (listed_bytes civil json digest) same.0 same.1 ∙ sym b.spelled

-- ---- the sample is one

abbrev pub OneCells : Type 0
OneCells = (steps : Steps) (db : List Relation) (q : Question) (s count other : ℕ) → HasCells steps db q s count → HasCells steps db q s other → count ≡ other

abbrev pub OneCount : Type 0
OneCount = (db : List Relation) (q : Question) (from to : ℤ) (count other : ℕ) → HasAnswerCount db q from to count → HasAnswerCount db q from to other → count ≡ other

module _ (texts : DatabaseTexts) (queries : QueryTexts FirstOrder) (one_rank : OneRank) (whole : WholeTuples) (one_cells : OneCells) (one_count : OneCount) (seed size : ℕ) where
  -- what the sample tells of these relations and this query
  record TellsOf (bytes : List ℕ) (db : List Relation) (q : Question) : Type 0 where
    cells : ℕ
    counted : HasCells (plan db q) db q (length (plan db q)) cells
    first : Option Tuple
    least : IsFirst db q first
    window : ℕ
    answers : HasAnswerCount db q (pos 0) (pos 1439) window
    spelled : bytes ≡ sample_lines size cells first window

  one_told : (db : List Relation) (q : Question) (bytes other : List ℕ) → TellsOf bytes db q → TellsOf other db q → bytes ≡ other
  one_told db q bytes other a b =
      let cells : a.cells ≡ b.cells = one_cells (plan db q) db q (length (plan db q)) a.cells b.cells a.counted b.counted in
      let first : a.first ≡ b.first = one_start one_rank whole db q a.first b.first a.least b.least in
      let window : a.window ≡ b.window = one_count db q (pos 0) (pos 1439) a.window b.window a.answers b.answers in
      a.spelled ∙ ap₂ (λ c f. sample_lines size c f a.window) cells first ∙ ap (sample_lines size b.cells b.first) window ∙ sym b.spelled

  told_of : (bytes : List ℕ) (t : TellsSample seed size bytes) → TellsOf bytes t.db t.q
  told_of bytes t = record { cells = t.cells; counted = t.counted; first = t.first; least = t.least; window = t.window; answers = t.answers; spelled = t.spelled }

  pub one_sample : (bytes other : List ℕ) → TellsSample seed size bytes → TellsSample seed size other → bytes ≡ other
  one_sample bytes other a b =
      let db : a.db ≡ b.db = texts.one (sample_database seed size) a.db b.db a.database b.database in
      let q : a.q ≡ b.q = queries.one a.db sample_query a.q b.q a.query (subst (λ d. IsSorted d sample_query b.q) (sym db) b.query) in
      one_told b.db b.q bytes other (subst (λ d. TellsOf bytes d b.q) db (subst (TellsOf bytes a.db) q (told_of bytes a))) (told_of other b)

-- ---- numbers of answers and ranges are one

abbrev pub OneSize : Type 0
OneSize = (db : List Relation) (q : Question) (from to : ℤ) (size other : ℕ) → HasSize (InWindowOf (IsAnswer db q) from to) size → HasSize (InWindowOf (IsAnswer db q) from to) other → size ≡ other

pub one_number : OneSize → (db : List Relation) (q : Question) (from to : ℤ) (bytes other : List ℕ) → TellsNumber db q from to bytes → TellsNumber db q from to other → bytes ≡ other
one_number one db q from to bytes other a b = a.spelled ∙ ap count_line (one db q from to a.number b.number a.is b.is) ∙ sym b.spelled

abbrev pub OneListOfRanges : Type 0
OneListOfRanges = (db : List Relation) (q : Question) (from to : ℤ) (limit : ℕ) (ranges other : List Range) (more further : Bool)
    → AreRanges (IsAnswerTime (IsAnswer db q)) from to limit ranges more → AreRanges (IsAnswerTime (IsAnswer db q)) from to limit other further → (ranges ≡ other) × (more ≡ further)

pub one_ranges : OneListOfRanges → (db : List Relation) (q : Question) (from to : ℤ) (limit : ℕ) (civil json : Bool) (bytes other : List ℕ) → TellsRanges db q from to limit civil json bytes → TellsRanges db q from to limit civil json other → bytes ≡ other
one_ranges one db q from to limit civil json bytes other a b =
    let same = one db q from to limit a.ranges b.ranges a.more b.more a.are b.are in
    a.spelled ∙ ap₂ (ranges_bytes civil json) same.0 same.1 ∙ sym b.spelled
