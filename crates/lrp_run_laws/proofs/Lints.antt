-- Two looks over the same bytes come to one outcome.
use Rattle.std.proofs.Common.{◌≡◌, ◌≤◌, ◌∙◌, ℕ, Bool, true, false, List, length, refl, sym, ap, subst, Option, Some, None, Result, Ok, Err}
use Rattle.lrp_lint.specs.Listed.{AreFindings}
use Rattle.lrp_lint.specs.Reports.{report_text}
use Rattle.lrp_lint.specs.declared.findings.Findings.{Findings}
use Rattle.lrp_words.specs.Commands.{FilesLinted}
use Rattle.lrp_model.specs.RawQueries.{RawFileView, RawQuestion}
use Rattle.lrp_model.specs.Texts.{Identifier}
use Rattle.lrp_model.specs.declared.relations.Relation.{Relation}
use Rattle.lrp_outputs.specs.Outcomes.{Outcome}
use Rattle.lrp_outputs.specs.declared.refusal.Refusal.{Refusal}
use Rattle.lrp_top.specs.Due.{IsDatabaseRead, IsLinted, IsLintedOver, IsNamedRead, IsOutput, IsPlacedReadOf}
use Rattle.lrp_top.specs.Seen.{ShelfSeen, AreBytesOf}
use Rattle.lrp_top.specs.Sources.{Source}
use Rattle.lrp_top.specs.Telling.{TellsFindings}
use Rattle.lrp_top.specs.Written.{IsPlacedAs}
use Rattle.lrp_top.specs.Languages.{usual_by, usual_language}
use Rattle.lrp_top.specs.Written.{IsOverIn}
use Rattle.lrp_wide.specs.Limits.{HasTooMany, IsTooDeep}
use Rattle.lrp_run_laws.proofs.Agree.{Agree, Lasting, OneDatabaseFault, OneQueryFault, QueryRefused, longer, wrong, large, deep, by_parts, database_agree, output_agree, query_refused, query_refused_alike, then_agree}
use Rattle.lrp_run_laws.proofs.Complete.{DatabaseTexts, PlacedTexts, no_longer}

-- what is found is one
abbrev pub OneReport : Type 0
OneReport = (db : List Relation) (asked : Option RawQuestion) (findings other : Findings) → AreFindings db asked findings → AreFindings db asked other → findings ≡ other

one_report : OneReport → (db : List Relation) (asked : Option RawQuestion) (bytes other : List ℕ) → TellsFindings db asked bytes → TellsFindings db asked other → bytes ≡ other
one_report one db asked bytes other a b = a.spelled ∙ ap (λ f. report_text (record { database = db; findings = f })) (one db asked a.findings b.findings a.are b.are) ∙ sym b.spelled

-- ---- the query

-- the expanded query of a text of the usual languages is never too large
usual_small : (Over : List Relation → RawFileView → Type 0) (tense : Bool) (db : List Relation) (bytes : List ℕ) → IsOverIn Over (usual_language tense) db bytes → ⊥
usual_small Over false db bytes h = h
usual_small Over true db bytes h = h

module _ (tense : Bool) (texts : PlacedTexts tense) (one_fault : OneQueryFault (usual_language tense)) (db : List Relation) (bytes : List ℕ) where
  placed_stands : (raw : RawQuestion) → length bytes ≤ 16777216 → IsPlacedAs tense db bytes raw → (e : Refusal) → QueryRefused (usual_language tense) db bytes e → ⊥
  placed_stands raw short is _ (longer above) = no_longer (length bytes) short above
  placed_stands raw short is _ (wrong fault below f) = texts.faultless db bytes raw fault is f
  placed_stands raw short is _ (large below over) = usual_small HasTooMany tense db bytes over
  placed_stands raw short is _ (deep below over) = usual_small IsTooDeep tense db bytes over

  module _ (seen further : ShelfSeen) (name : Identifier) where
    one_placed : (d e : Option RawQuestion) → IsPlacedReadOf tense db seen name bytes (Ok d) → IsPlacedReadOf tense db further name bytes (Ok e) → d ≡ e
    one_placed None e i j = absurd i
    one_placed (Some d) None i j = absurd j
    one_placed (Some d) (Some e) i j = ap Some (texts.one db bytes d e i.1 j.1)

    read_stands : (of : ShelfSeen) (d : Option RawQuestion) → IsPlacedReadOf tense db of name bytes (Ok d) → (e : Refusal) → QueryRefused (usual_language tense) db bytes e → ⊥
    read_stands of None i e refused = i
    read_stands of (Some d) i e refused = placed_stands d i.0 i.1 e refused

    placed_of_bytes : (r s : Result (Option RawQuestion) Refusal) → IsPlacedReadOf tense db seen name bytes r → IsPlacedReadOf tense db further name bytes s → Lasting r → Lasting s → Agree (λ d e. d ≡ e) r s
    placed_of_bytes = by_parts (IsPlacedReadOf tense db seen name bytes) (IsPlacedReadOf tense db further name bytes) (λ d e. d ≡ e) one_placed
        (λ d f i j l. read_stands seen d i f (query_refused (usual_language tense) db further name bytes f j l))
        (λ e d i j l. read_stands further d j e (query_refused (usual_language tense) db seen name bytes e i l))
        (λ e f i j l m. query_refused_alike (usual_language tense) one_fault db bytes e f (query_refused (usual_language tense) db seen name bytes e i l) (query_refused (usual_language tense) db further name bytes f j m))

-- the bytes that are read of a query's file are these, where one is named
abbrev pub NamedReads : ShelfSeen → Option Identifier → List ℕ → Type 0
NamedReads seen None bytes = Unit {0}
NamedReads seen (Some name) bytes = (read : List ℕ) → AreBytesOf seen name read → read ≡ bytes

named_agree : (tense : Bool) (texts : PlacedTexts tense) (one_fault : OneQueryFault (usual_language tense)) (db : List Relation) (bytes : List ℕ) (seen further : ShelfSeen) (query : Option Identifier) → NamedReads seen query bytes → NamedReads further query bytes
    → (r s : Result (Option RawQuestion) Refusal) → IsNamedRead tense db seen query r → IsNamedRead tense db further query s → Lasting r → Lasting s → Agree (λ d e. d ≡ e) r s
named_agree tense texts one_fault db bytes seen further None told again r s i j l m =
    subst (λ x. Agree (λ d e. d ≡ e) x s) (sym i) (subst (λ y. Agree {A = Option RawQuestion} (λ d e. d ≡ e) (Ok None) y) (sym j) refl)
named_agree tense texts one_fault db bytes seen further (Some name) told again r s i j l m =
    placed_of_bytes tense texts one_fault db bytes seen further name r s (subst (λ b. IsPlacedReadOf tense db seen name b r) (told i.bytes i.told) i.is) (subst (λ b. IsPlacedReadOf tense db further name b s) (again j.bytes j.told) j.is) l m

-- ---- what is told

module _ (databases : DatabaseTexts) (database_fault : OneDatabaseFault) (placed : (tense : Bool) → PlacedTexts tense) (query_fault : (tense : Bool) → OneQueryFault (usual_language tense)) (one : OneReport) (of : FilesLinted) (d b : List ℕ) (seen further : ShelfSeen)
    (first : (read : List ℕ) → AreBytesOf seen of.database read → read ≡ d) (second : (read : List ℕ) → AreBytesOf further of.database read → read ≡ d) (third : NamedReads seen of.query b) (fourth : NamedReads further of.query b) where
  over_agree : (db : List Relation) (o v : Outcome) → IsLintedOver of.tense db seen of.query o → IsLintedOver of.tense db further of.query v → Lasting o → Lasting v → Agree (λ x y. x ≡ y) o v
  over_agree db = then_agree (IsNamedRead of.tense db seen of.query) (IsNamedRead of.tense db further of.query) (λ asked. IsOutput (TellsFindings db asked)) (λ asked. IsOutput (TellsFindings db asked)) (λ x y. x ≡ y) (λ x y. x ≡ y)
      (named_agree of.tense (placed of.tense) (query_fault of.tense) db b seen further of.query third fourth)
      (λ x y i j same o v n m. output_agree (TellsFindings db x) (TellsFindings db x) (λ x y. x ≡ y) (one_report one db x) o v n (subst (λ z. IsOutput (TellsFindings db z) v) (sym same) m))

  pub lint_agree : (o v : Outcome) → IsLinted of seen o → IsLinted of further v → Lasting o → Lasting v → Agree (λ x y. x ≡ y) o v
  lint_agree = then_agree (IsDatabaseRead (usual_by of.civil) seen of.database) (IsDatabaseRead (usual_by of.civil) further of.database) (λ s. IsLintedOver of.tense s.says seen of.query) (λ s. IsLintedOver of.tense s.says further of.query) (λ x y. x ≡ y) (λ x y. x ≡ y)
      (database_agree databases database_fault (usual_by of.civil) d seen further of.database first second)
      (λ x y i j same o v n m. over_agree x.says o v n (subst (λ (z : Source (List Relation)). IsLintedOver of.tense z.says further of.query v) (sym same) m))
