-- The rule for names with their places: local, complete, sound and viable.
use Rattle.std.proofs.Common.{◌≡◌, [], ◌∷◌, sym, subst, append-nil}
use Rattle.lrp_model.specs.declared.tokens.Place.{Place}
use Rattle.lrp_model.specs.declared.written.Located.{Located}
use Rattle.lrp_model.specs.Texts.{Identifier}
use Rattle.lrp_model.specs.Tokens.{Takes, Spells}
use Rattle.lrp_model.specs.Databases.{name_part}
use Rattle.lrp_model.specs.Refused.{TextOf}
use Rattle.lrp_text.specs.Taking.{name, name_of, with_place}
use Rattle.lrp_text.proofs.Local.{Local, bind_local, accept_local, pure_local}
use Rattle.lrp_text.proofs.Complete.{ReadsBack, Anything, accepts_back, last_back}
use Rattle.lrp_text.proofs.Sound.{Sound, bind_ok, accept_sound}
use Rattle.lrp_text.proofs.Viable.{Viable, One, accept_viable, sub_step, always}
use Rattle.lrp_text.proofs.TokenTests.{name_part as pair_part, name_told, name_seen, name_stops}
use Rattle.lrp_rel.specs.Rules.{label}

-- a name and its place, as one thing
abbrev located_name : Identifier × Place → Located Identifier
located_name n = record { place = n.1; item = n.0 }

-- a name with its place depends on its tokens and on the next one alone
pub label_local : Local label
unfolding label
label_local = bind_local name _ (accept_local _) (λ n. pure_local _)

-- the tokens of a name with its place are read back
pub label_back : (n : Located Identifier) (L : Type 0) → ReadsBack label (name_part n ∷ []) n L Anything
unfolding label
label_back n L = last_back name located_name (name_part n ∷ []) (n.item, n.place) L Anything (accepts_back (λ t. with_place t.place (name_of t.token)) (name_part n) (n.item, n.place) L (name_seen (n.item, n.place)))

-- a name with its place that is read is spelled so, and is lawful
pub label_sound : Sound label (λ n. name_part n ∷ []) (λ n. Unit {0})
unfolding label
label_sound ts q e =
    let n = bind_ok (name ts) _ q e in
    let h : (located_name n.0.0, n.0.1) ≡ q = cc in
    subst (λ y. Takes (name_part y.0 ∷ []) ts y.1 × Unit {0}) h (accept_sound _ pair_part name_told ts n.0 n.1, tt)

-- the tokens before a fault of a name with its place begin one
pub label_viable : Viable label (One name_part) (λ n. Unit {0})
unfolding label
label_viable ts e h =
    sub_step name _ (One pair_part) (λ n. Unit {0}) (TextOf (One name_part) (λ n. Unit {0})) ts e (λ us q d. (accept_sound _ pair_part name_told us q d, tt)) (accept_viable _ pair_part (λ n. Unit {0}) name_stops) h
    (λ c n x spelled fit. ([], (located_name n, always (Unit {0}) c tt, subst (λ y. Spells (One pair_part n) y) (sym (append-nil x)) spelled)))
    (λ n head us spelled fit d. absurd cc)
