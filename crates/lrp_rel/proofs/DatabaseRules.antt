-- The rule for databases: it refuses exactly where the grammar says, and reads one tree at most.
use Rattle.std.proofs.Common.{◌≡◌, ◌<◌, ◌∷◌, ℕ, false, List, Err, length, arith}
use Rattle.lrp_model.specs.declared.tokens.Word.TheVariants.{Relation}
use Rattle.lrp_model.specs.declared.tokens.Fault.{Fault}
use Rattle.lrp_model.specs.declared.written.RawRelation.{RawRelation}
use Rattle.lrp_model.specs.Tokens.{Placed, Tokens, Spells}
use Rattle.lrp_model.specs.Tokens.Token.{word_token}
use Rattle.lrp_model.specs.Refused.{TextOf, IsRefusedAt}
use Rattle.lrp_model.specs.Databases.{relation_text, database_text, FitsRelation, FitsDatabase}
use Rattle.lrp_text.specs.Taking.{is_end, is_end_token}
use Rattle.lrp_text.proofs.Complete.{Anything, first_sees_any, MemberUntil}
use Rattle.lrp_text.proofs.Sound.{Sound}
use Rattle.lrp_text.proofs.Refusal.{Rule, refused_at}
use Rattle.lrp_rel.specs.Rules.{relation, database}
use Rattle.lrp_rel.proofs.LocalRules.{relation_local}
use Rattle.lrp_rel.proofs.RelationRules.{from_name, relation_answers, relation_sound, relation_viable}
use Rattle.lrp_rel.proofs.UntilEnd.{ItemRule, items_once, items_rule, items_sound}

-- a relation as a member of a list
relations_member : (n : ℕ) → MemberUntil (relation n) relation_text FitsRelation Anything is_end n
relations_member n = record {
  one = λ a ts left lt h g. relation_answers n a ts left lt h;
  begins = λ a ts left h. (first_sees_any false is_end_token (word_token Relation) (from_name a.name a.columns a.rows) ts left h, tt);
}

-- a relation has a token
relation_has_token : (r : RawRelation) → 0 < length (relation_text r)
relation_has_token r = omega arith

-- the rule of a relation has all that an item's owes
relation_rule : ItemRule relation relation_text FitsRelation
relation_rule = record { local = relation_local; member = relations_member; sound = relation_sound; viable = relation_viable; some = relation_has_token }

-- what is read as a database is lawful, and the tokens spell it
pub database_sound : (n : ℕ) → Sound (database n) database_text FitsDatabase
unfolding database
database_sound n = items_sound relation relation_text FitsRelation relation_rule n

-- the rule of databases has all that a rule owes
database_rule : Rule database database_text FitsDatabase
unfolding database
database_rule = let r = items_rule relation relation_text FitsRelation relation_rule in record { local = r.local; complete = r.complete; viable = r.viable }

-- the tokens of no lawful database are refused where the grammar says, for its cause
pub database_refused : (ts : Tokens) (k : Fault) (bad : Placed) (tail : Tokens) → ((n : ℕ) → length ts < n → database n ts ≡ Err (k, bad ∷ tail)) → IsRefusedAt (TextOf database_text FitsDatabase) ts k bad tail
database_refused = refused_at database database_text FitsDatabase database_rule

-- tokens that spell a lawful database spell no other
pub one_tree : (a b : List RawRelation) (ts : Tokens) → FitsDatabase a → Spells (database_text a) ts → Spells (database_text b) ts → a ≡ b
one_tree = items_once relation relation_text FitsRelation relation_rule
