-- The token after a page resumes after its last tuple.
use Rattle.std.proofs.Common.{◌≡◌, ◌≤◌, ◌<◌, ◌+◌, ◌^◌, ◌++◌, ◌∙◌, ℕ, ℤ, zero, suc, Bool, true, false, List, [], ◌∷◌, length, filter, get_or, map, Contains, refl, sym, ap, ap₂, subst, Option, Some, None, Ok, if◌then◌else◌, cond, arith}
use Rattle.std.specs.Prelude.{pos, negsuc, neg_ℤ, ◌≤ℤ◌, ◌↔◌, nat_abs}
use Rattle.std.proofs.lemmas.Int.{ints}
use Rattle.std.specs.List.{AllByRecursion, AllZip}
use Rattle.lrp_model.specs.Formulas.{Question}
use Rattle.lrp_model.specs.Pages.{IsAhead, IsPage, last_of}
use Rattle.lrp_model.specs.PrintedPages.{IsDigest, IsToken, token_of}
use Rattle.lrp_model.specs.Rows.{Datum, time, text, times_of, texts_of, Tuple}
use Rattle.lrp_model.specs.Satisfaction.{HasShape, IsAnswer, IsOfKind, IsOfSort, structure}
use Rattle.lrp_model.specs.Sorts.{same_sort, is_time, is_data, time_count, text_count}
use Rattle.lrp_model.proofs.ColumnCounts.{times_more, texts_more, one_more, none_more}
use Rattle.lrp_model.specs.Texts.{Text, in_order}
use Rattle.lrp_model.specs.Checked.{plain_question}
use Rattle.lrp_model.specs.DatabaseReading.{IsDatabase}
use Rattle.lrp_model.specs.QueryReading.{IsFile, IsQuery}
use Rattle.lrp_model.specs.RawQueries.{RawFileView, RawQuestion}
use Rattle.lrp_model.specs.DataTexts.{IsDataText}
use Rattle.lrp_model.specs.Domains.{all_texts, domain}
use Rattle.lrp_model.specs.Limits.{greatest_number}
use Rattle.lrp_model.specs.Tuples.{in_head_order}
use Rattle.lrp_model.specs.declared.relations.Column.{Column}
use Rattle.lrp_model.specs.declared.relations.Relation.{Relation}
use Rattle.lrp_model.specs.declared.relations.Sort.{Sort}
use Rattle.lrp_model.specs.declared.relations.Sort.TheVariants.{Time, Data, Named}
use Rattle.lrp_run_laws.specs.Contents.{Contents, SaysQuestion, SaysRelations}
use Rattle.lrp_run_laws.specs.Following.{IsFollowed, IsShortWindow, IsUnfinished}
use Rattle.lrp_tense.specs.Expanding.{expanded_question}
use Rattle.lrp_tense.specs.TenseReading.{IsTenseQuery}
use Rattle.lrp_top.specs.Written.{plain_by, query_plain}
use Rattle.lrp_top.specs.Resuming.{IsResumed}
use Rattle.lrp_top.specs.declared.language.QueryLanguage.{QueryLanguage}
use Rattle.lrp_top.specs.declared.language.QueryLanguage.TheVariants.{FirstOrder, Temporal, Wide}
use Rattle.lrp_wide.specs.Inlining.{expanded_file}
use Rattle.lrp_civil.specs.declared.values.CivilText.{CivilText}
use Rattle.lrp_run_laws.proofs.Alike.{WholeTuples, shaped}
use Rattle.lrp_run_laws.proofs.Complete.{OneToken}

-- ---- a tuple has as many times and texts as its columns

one_time : (s : Sort) (d : Datum) → IsOfKind s d → (ds : List Datum) (n : ℕ) → length (times_of ds) ≡ n → length (times_of (d ∷ ds)) ≡ cond (is_time s) 1 0 + n
one_time Time (time x) k ds n e = ap suc e ∙ sym (one_more n)
one_time Time (text t) k ds n e = absurd k
one_time Data (time x) k ds n e = absurd k
one_time Data (text t) k ds n e = e ∙ sym (none_more n)
one_time (Named name) (time x) k ds n e = absurd k
one_time (Named name) (text t) k ds n e = e ∙ sym (none_more n)

one_text : (s : Sort) (d : Datum) → IsOfKind s d → (ds : List Datum) (n : ℕ) → length (texts_of ds) ≡ n → length (texts_of (d ∷ ds)) ≡ cond (is_data s) 1 0 + n
one_text Time (time x) k ds n e = e ∙ sym (none_more n)
one_text Time (text t) k ds n e = absurd k
one_text Data (time x) k ds n e = absurd k
one_text Data (text t) k ds n e = ap suc e ∙ sym (one_more n)
one_text (Named name) (time x) k ds n e = absurd k
one_text (Named name) (text t) k ds n e = ap suc e ∙ sym (one_more n)

times_counted : (cs : List Column) (ds : List Datum) → HasShape cs ds → length (times_of ds) ≡ time_count cs
times_counted [] [] h = refl
times_counted [] (d ∷ ds) h = absurd h
times_counted (c ∷ cs) [] h = absurd h
times_counted (c ∷ cs) (d ∷ ds) h = one_time c.sort d h.0 ds (time_count cs) (times_counted cs ds h.1) ∙ sym (times_more c cs)

texts_counted : (cs : List Column) (ds : List Datum) → HasShape cs ds → length (texts_of ds) ≡ text_count cs
texts_counted [] [] h = refl
texts_counted [] (d ∷ ds) h = absurd h
texts_counted (c ∷ cs) [] h = absurd h
texts_counted (c ∷ cs) (d ∷ ds) h = one_text c.sort d h.0 ds (text_count cs) (texts_counted cs ds h.1) ∙ sym (texts_more c cs)

-- ---- the last of a page is due

last_due : (P : Tuple → Type 0) (page : List Tuple) (end : Tuple) → AllByRecursion P page → last_of page ≡ Some end → P end
last_due P [] end h e = absurd (no_last e)
  where
    no_last : ◌≡◌ {A = Option Tuple} None (Some end) → ⊥
    no_last x = cc
last_due P (t ∷ []) end h e = subst P (same e) h.0
  where
    same : Some t ≡ Some end → t ≡ end
    same x = cc
last_due P (t ∷ u ∷ us) end h e = last_due P (u ∷ us) end h.1 e

-- ---- its times are small

small_time : (from to x : ℤ) → IsShortWindow from to → from ≤ℤ x → x ≤ℤ to → nat_abs x ≤ greatest_number
small_time from to (pos n) w l h = let high : to ≤ℤ pos (2 ^ 62) = w.high in let r : n ≤ greatest_number = omega (arith, ints) in r
small_time from to (negsuc n) w l h = let low : neg_ℤ (pos (2 ^ 62)) ≤ℤ from = w.low in let r : suc n ≤ greatest_number = omega (arith, ints) in r

small_times : (from to : ℤ) (xs : List ℤ) → IsShortWindow from to → AllByRecursion (λ x. (from ≤ℤ x) × (x ≤ℤ to)) xs → AllByRecursion (λ x. nat_abs x ≤ greatest_number) xs
small_times from to [] w h = tt
small_times from to (x ∷ xs) w h = (small_time from to x w h.0.0 h.0.1, small_times from to xs w h.1)

-- ---- its texts are data texts

-- a member has what all have
member_has : (P : Text → Type 0) (ts : List Text) (t : Text) → AllByRecursion P ts → (k : ℕ) → k < length ts → get_or ts k t ≡ t → P t
member_has P [] t h k below e = absurd (omega arith)
member_has P (u ∷ us) t h zero below e = subst P e h.0
member_has P (u ∷ us) t h (suc k) below e = member_has P us t h.1 k (omega arith) e

-- those of a sort are among all
of_sort : (P : Text → Type 0) (s : Sort) (entries : List (Sort × Text)) → AllByRecursion (λ entry. P entry.1) entries → AllByRecursion P (map (λ entry. entry.1) (filter (λ entry. same_sort entry.0 s) entries))
of_sort P s [] h = tt
of_sort P s (entry ∷ entries) h = chosen (same_sort entry.0 s) (of_sort P s entries h.1)
  where
    chosen : (b : Bool) → AllByRecursion P (map (λ (e : Sort × Text). e.1) (filter (λ (e : Sort × Text). same_sort e.0 s) entries)) → AllByRecursion P (map (λ (e : Sort × Text). e.1) (if b then entry ∷ filter (λ (e : Sort × Text). same_sort e.0 s) entries else filter (λ (e : Sort × Text). same_sort e.0 s) entries))
    chosen true others = (h.0, others)
    chosen false others = others

-- the texts in order are those of the list
abbrev pub SameInOrder : Type 0
SameInOrder = (texts : List Text) (t : Text) → Contains (in_order texts) t ↔ Contains texts t

-- the texts of a database and a query are data texts
abbrev pub HaveDataTexts : List Relation → Question → Type 0
HaveDataTexts db q = AllByRecursion (λ entry. IsDataText entry.1) (all_texts db q)

-- what two files say has data texts
pub have_texts : ((database query : List ℕ) (relations : List Relation) (q : RawQuestion) → IsDatabase database relations → IsQuery query q → HaveDataTexts relations (plain_question q))
    → ((database query : List ℕ) (relations : List Relation) (q : RawQuestion) → IsDatabase database relations → IsTenseQuery query q → HaveDataTexts relations (plain_question (expanded_question q)))
    → ((database file : List ℕ) (relations : List Relation) (f : RawFileView) → IsDatabase database relations → IsFile file f → HaveDataTexts relations (plain_question (expanded_file relations f)))
    → (language : QueryLanguage) (civil : Option CivilText) (files : Contents) (db : List Relation) (q : Question) → SaysRelations civil files db → SaysQuestion language files db q → HaveDataTexts db q
have_texts texts expanded wide FirstOrder civil files db q says said = subst (HaveDataTexts db) (sym said.is.plain) (texts (plain_by civil files.database) files.query db said.is.raw says.is said.is.query)
have_texts texts expanded wide Temporal civil files db q says said = subst (HaveDataTexts db) (sym said.is.plain) (expanded (plain_by civil files.database) files.query db said.is.written says.is said.is.query)
have_texts texts expanded wide (Wide dates) civil files db q says said = subst (HaveDataTexts db) (sym said.is.plain) (wide (plain_by civil files.database) (query_plain dates files.query) db said.is.file says.is said.is.is)

module _ (ordered : SameInOrder) (db : List Relation) (q : Question) (texts : HaveDataTexts db q) where
  of_domain : (s : Sort) (t : Text) → Contains (domain db q s) t → IsDataText t
  of_domain s t c =
      let all = map (λ (entry : Sort × Text). entry.1) (filter (λ (entry : Sort × Text). same_sort entry.0 s) (all_texts db q)) in
      let d : Contains all t = (ordered all t).0 c in
      member_has IsDataText all t (of_sort IsDataText s (all_texts db q) texts) d.0 d.1 d.2

  datum_text : (s : Sort) (t : Text) → IsOfSort (structure db q) s (text t) → IsDataText t
  datum_text Time t h = absurd h
  datum_text Data t h = of_domain Data t h
  datum_text (Named n) t h = of_domain (Named n) t h

  answer_texts : (cs : List Column) (ds : List Datum) → AllZip (λ c d. IsOfSort (structure db q) c.sort d) cs ds → AllByRecursion IsDataText (texts_of ds)
  answer_texts [] [] h = tt
  answer_texts [] (d ∷ ds) h = absurd h
  answer_texts (c ∷ cs) [] h = tt
  answer_texts (c ∷ cs) (time x ∷ ds) h = answer_texts cs ds h.1
  answer_texts (c ∷ cs) (text t ∷ ds) h = (datum_text c.sort t h.0, answer_texts cs ds h.1)

-- ---- its token

-- the tuple has a token of a digest
abbrev HasToken : List ℕ → Tuple → Type 0
HasToken digest tuple = IsToken (token_of digest tuple) (Some digest) (times_of tuple) (texts_of tuple)

module _ (whole : WholeTuples) (db : List Relation) (q : Question) (digest : List ℕ) (end : Tuple) (answer : IsAnswer db q end) (token : HasToken digest end) where
  -- it resumes after the tuple
  resumes : IsResumed digest q.head (Some (token_of digest end)) (Ok (Some end))
  resumes =
      let shape = shaped db q end answer in
      record {
        digest = Some digest;
        times = times_of end;
        texts = texts_of end;
        token = token;
        counts = record { of_times = times_counted q.head end shape; of_texts = texts_counted q.head end shape };
        fresh = refl;
        tuple_is = sym (whole q.head end shape);
      }

  -- and after no other
  resumes_there : OneToken → (tuple : Option Tuple) → IsResumed digest q.head (Some (token_of digest end)) (Ok tuple) → tuple ≡ Some end
  resumes_there one None is = absurd is
  resumes_there one (Some tuple) is =
      let same = one (token_of digest end) is.digest (Some digest) is.times (times_of end) is.texts (texts_of end) is.token token in
      ap Some (is.tuple_is ∙ ap₂ (in_head_order q.head) same.1 same.2 ∙ whole q.head end (shaped db q end answer))

-- a page with more to come and the page after its last entry are one page
abbrev pub PagesJoin : Type 0
PagesJoin = (db : List Relation) (query : Question) (from to : ℤ) (after : Option Tuple) (a b : ℕ) (page next : List Tuple) (end : Tuple) (more : Bool)
    → IsPage (IsAnswer db query) from to after a page true → last_of page ≡ Some end → IsPage (IsAnswer db query) from to (Some end) b next more → IsPage (IsAnswer db query) from to after (a + b) (page ++ next) more

pub followed : WholeTuples → OneToken → PagesJoin → SameInOrder → (digest : List ℕ) → IsDigest digest → (db : List Relation) (q : Question) → HaveDataTexts db q → (from to : ℤ) (after : Option Tuple) (limit : ℕ) (page : List Tuple) (end : Tuple)
    → IsShortWindow from to → IsUnfinished db q from to after limit page end → IsFollowed digest db q from to after limit page end
followed whole one join ordered digest sized db q texts from to after limit page end window unfinished =
    let due = last_due (IsAhead (IsAnswer db q) from to after) page end unfinished.is.due unfinished.last in
    let token : HasToken digest end = record {
      spelled = refl;
      digest_is = sized;
      small = small_times from to (times_of end) window due.inside;
      whole = answer_texts ordered db q texts q.head end due.is.fits;
    } in
    record {
      resumed = resumes whole db q digest end due.is token;
      next = λ further civil json output told.
          let same : told.tuple ≡ Some end = resumes_there whole db q digest end due.is token one told.tuple told.resumed in
          join db q from to after limit further page told.page.page end told.page.more unfinished.is unfinished.last
          (subst (λ t. IsPage (IsAnswer db q) from to t further told.page.page told.page.more) same told.page.is);
    }
