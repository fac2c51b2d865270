use Rattle.std.proofs.Common.{◌≡◌, ◌+◌, ◌∷◌, [], ◌++◌, ◌∙◌, ap, sym, subst, take, drop, get_or, take_all, append_assoc}
use Rattle.std.specs.List.{flat_map}
use Rattle.std.proofs.lemmas.Result.{err_from_is_err_and}
use Rattle.lrp_io.specs.Bytes.{AppendsFront, appended}
use Rattle.lrp_model.specs.Printed.{quoted, escaped}
use Rattle.lrp_io.proofs.PieceLemmas.{written_after, written_put, written_err, front_after, front_before, flat_front}
use Rattle.lrp_print.proofs.pieces.write_quoted.Goals as goal

pub returns-in_err-write_byte-clause-text : goal.returns-in_err-write_byte-clause-text
returns-in_err-write_byte-clause-text g c =
    let written = g.S.Sink.written in
    let text = c.args.text.now in
    let i = c.loop-byte.byte-index in
    let b = get_or text i 0 in
    let p = err_from_is_err_and c.from_residual-in_err-write_byte.result c.from_residual-in_err-write_byte.ensures.1 in
    let far : AppendsFront (written c.args.out.now) (written c.write_byte.new.out) ((34 ∷ flat_map escaped (take i text)) ++ escaped b) = front_after _ _ _ (34 ∷ flat_map escaped (take i text)) (escaped b) c.loop-byte.invariant.so_far c.in_err-write_byte.ensures.text in
    let rest = flat_map escaped (drop (i + 1) text) ++ 34 ∷ [] in
    let whole : ((34 ∷ flat_map escaped (take i text)) ++ escaped b) ++ rest ≡ quoted text =
    ap (λ x. 34 ∷ x) (sym (append_assoc (flat_map escaped (take i text) ++ escaped b) (flat_map escaped (drop (i + 1) text)) (34 ∷ [])) ∙ ap (λ x. x ++ 34 ∷ []) (sym (flat_front escaped text i 0 c.loop-byte-test.true))) in
    written_err (written c.args.out.now) (written c.write_byte.new.out) (quoted text) _ p.0 p.1
    (subst (λ x. AppendsFront (written c.args.out.now) (written c.write_byte.new.out) x) whole (front_before _ _ ((34 ∷ flat_map escaped (take i text)) ++ escaped b) rest far))

pub returns-clause-text : goal.returns-clause-text
returns-clause-text g c =
    let written = g.S.Sink.written in
    let text = c.args.text.now in
    let all : take c.loop-byte.byte-index text ≡ text = take_all c.loop-byte.byte-index text c.loop-byte-test.false in
    let so_far : written c.loop-byte.out ≡ appended (written c.args.out.now) (34 ∷ flat_map escaped text) = c.loop-byte.invariant.so_far ∙ ap (λ x. appended (written c.args.out.now) (34 ∷ flat_map escaped x)) all in
    written_after _ _ _ (34 ∷ flat_map escaped text) (34 ∷ []) _ so_far (written_put _ _ (34 ∷ []) _ c.put_all-2.ensures.ok c.put_all-2.ensures.front)
