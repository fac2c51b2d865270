-- The query of a file.
use Rattle.std.proofs.Common.{◌≡◌, ℕ, zero, suc, ◌+◌, ◌-◌, ◌≤◌, Option, Some, None, List, [], ◌∷◌, ◌++◌, map, length, take, slice_get, refl, ap, ap₂, sym, ◌∙◌, arith}
use Rattle.std.specs.Borrow.{Bor}
use Rattle.std.specs.Option.{option_copied}
use Rattle.std.proofs.lemmas.List.{length-append, length-map, take_all}
use Rattle.lrp_model.specs.RawQueries.{RawDefinitionView, RawFileView, RawForm, RawQuestion, raw_definition_of}
use Rattle.lrp_model.specs.declared.raw.RawColumn.{RawColumn}
use Rattle.lrp_model.specs.declared.relations.Relation.{Relation}
use Rattle.lrp_tense.specs.Expanding.{expanded_question}
use Rattle.lrp_wide.specs.Counts.{file_numbers, stopped_counts}
use Rattle.lrp_wide.specs.Inlining.{Counted, Known, UseSetting, counted_from, counted_in, expanded_file, inlined, known_of, own_setting, plain_definition}
use Rattle.lrp_wide.specs.Inside.{AreOwnNumbers, AreWrittenBy}
use Rattle.lrp_wide.specs.Settings.{setting_of}
use Rattle.lrp_wide.specs.declared.inlining.Written.{Written}
use Rattle.lrp_wide.proofs.InlineKnown.{known-length}

last_of : {X : Type 0} (xs : List X) (x : X) → slice_get (xs ++ x ∷ []) (length (xs ++ x ∷ []) - 1) ≡ Some x
last_of [] x = refl
last_of (y ∷ xs) x =
    let size = length-append xs (x ∷ []) in
    let at : length ((y ∷ xs) ++ x ∷ []) - 1 ≡ suc (length (xs ++ x ∷ []) - 1) = omega (arith, size) in
    ap (slice_get ((y ∷ xs) ++ x ∷ [])) at ∙ last_of xs x

-- the query's own text stays as it is, and its atoms are numbered from 1
own_from : (before : ℕ) (numbers : Option (Bor (List Counted))) (counted : List Counted) → option_copied numbers ≡ Some counted
    → setting_of (record { used = None; before = before; first = 1; numbers = numbers }) ≡ own_setting (counted_from 1 counted)
own_from before None counted e = absurd cc
own_from before (Some b) counted e = let s : Some b.now ≡ Some counted = e in let same : b.now ≡ counted = cc in ap (λ c. own_setting (counted_from 1 c)) same

module _ (w : Written) (f : RawFileView) (h : AreWrittenBy w f) where
  as_many : length f.definitions ≡ length w.plain.now
  as_many = sym (length-map f.definitions plain_definition) ∙ ap length (sym h.plain) ∙ length-map w.plain.now raw_definition_of

  -- what is made of the query beside all definitions
  pub file-is : (db : List Relation) (q made : RawQuestion) (numbers : Option (Bor (List Counted))) (before : ℕ) → q ≡ expanded_question f.query → db ≡ w.definitions.now.relations → before ≡ length w.plain.now
      → AreOwnNumbers w numbers → made.head ≡ q.head
      → made.body ≡ inlined db (take before (known_of db [] f.definitions)) q.body (setting_of (record { used = None; before = before; first = 1; numbers = numbers })) → made ≡ expanded_file w.definitions.now.relations f
  file-is db q made numbers before eq edb eb en eh e =
      let rs : List Relation = w.definitions.now.relations in
      let ks : List Known = known_of rs [] f.definitions in
      let counted : List Counted = counted_in rs ks f.query.body in
      let many = as_many in
      let size = known-length rs f.definitions in
      let known : take before (known_of db [] f.definitions) ≡ ks = ap (λ r. take before (known_of r [] f.definitions)) edb ∙ take_all before ks (omega (arith, many, size, eb)) in
      let all : slice_get w.numbers.now (length w.numbers.now - 1) ≡ Some (stopped_counts counted) = ap (λ l. slice_get l (length l - 1)) h.numbers ∙ last_of (map (λ (k : Known). stopped_counts k.counted) ks) (stopped_counts counted) in
      let own : setting_of (record { used = None; before = before; first = 1; numbers = numbers }) ≡ own_setting (counted_from 1 counted) = own_from before numbers counted (en counted all) in
      let body : made.body ≡ inlined rs ks (expanded_question f.query).body (own_setting (counted_from 1 counted)) =
      e ∙ ap (λ r. inlined r (take before (known_of db [] f.definitions)) q.body (setting_of (record { used = None; before = before; first = 1; numbers = numbers }))) edb
      ∙ ap₂ (λ l (x : RawQuestion). inlined rs l x.body (setting_of (record { used = None; before = before; first = 1; numbers = numbers }))) known eq ∙ ap (inlined rs ks (expanded_question f.query).body) own in
      let as_question : List RawColumn → RawForm → RawQuestion = λ a b. record { head = a; body = b } in
      ap₂ as_question (eh ∙ ap (λ (x : RawQuestion). x.head) eq) body
