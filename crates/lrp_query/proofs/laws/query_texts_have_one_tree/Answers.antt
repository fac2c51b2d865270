use Rattle.std.proofs.Common.{◌≡◌, refl}
use Rattle.lrp_model.specs.Queries.{Language, TakesWide, WrittenQuery, query_text, FitsQuery}
use Rattle.lrp_model.specs.Queries.Language.{first_order, temporal, wide}
use Rattle.lrp_model.specs.Tokens.{Tokens, Spells}
use Rattle.lrp_query.proofs.Languages.{plain, tense, grammar}
use Rattle.lrp_query.proofs.LanguageReaders.{reader}
use Rattle.lrp_query.proofs.QueryRules.{one_tree}
use Rattle.lrp_query.proofs.laws.query_texts_have_one_tree.Goals as goal

one : (l : Language) → (TakesWide l → ⊥) → (tree other : WrittenQuery l) (tokens : Tokens) → FitsQuery tree → Spells (query_text tree) tokens → Spells (query_text other) tokens → tree ≡ other
one first_order narrow tree other tokens lawful spelled again = one_tree (grammar plain) (reader plain).after (reader plain).rules tree other tokens lawful spelled again
one temporal narrow tree other tokens lawful spelled again = one_tree (grammar tense) (reader tense).after (reader tense).rules tree other tokens lawful spelled again
one wide narrow tree other tokens lawful spelled again = absurd (narrow refl)

pub returns : goal.returns
returns c = λ l narrow tree other tokens lawful spelled again. one l narrow tree other tokens lawful spelled again
