-- `into_loose` gives the pointer up.
use Rattle.std.proofs.Common.{◌≡◌, List, [], ◌∷◌, ◌++◌, refl, sym, subst, Option, Some, None, true}
use Rattle.std.specs.Prelude.{IfSome}
use mir.Val.{Val, vint, vptr}
use base.Logic.{SProp, ent, emp, id⊢}
use base.Fml.{ftrue}
use prog.Wp.{WpFn}
use types.Kit.{‵, raw, ◌⊛◌, ◌$◌, ◌∵◌, !, qed, by, move, keep, split, fsplit, fjoin, fpick, suffices, use0, rewrite}
use types.Run.{stop, fld, lit, of_opd, no_more, and_then, returns, enter}
use types.ByLocal.{alloc_all, pass_all, free_all, look_at, get, get_in, sets}
use types.Part.{agg, sub, whole}
use contract.Monad.{fact, fact_i}
use contract.Running.{tables}
use denote.Exit.{yes}
use denote.RattleType.{RattleType, owns}
use denote.Signature.{types_at, plain}
use denote.RawPtr.{null_ptr, block_ptr, ptr_val}
use denote.Steps.{nothing, heard}
use denote.Param.{layout}
use denote.Triple.Entry.{alive}
use denote.Triple.Walked.{Stays, stay_dropped, walk_of, Goes-dropped}
use Rattle.std.proofs.cell.Inside.{one}
use Rattle.std.proofs.raw_atomic.Walks.{proved_at, leaves}
use Rattle.std.specs.contracts.impls.GlobalAllocator.TheImpl.{ghosts}
use Rattle.std.proofs.alloc.Global.TheLaws as heap_laws
use Rattle.lrp_c.specs.Handles.{owned_at, is_some}
use Rattle.lrp_c.specs.Sessions.{IsSessionOf}
use Rattle.lrp_io.specs.declared.shelf.File.{File}
use Rattle.lrp_c.proofs.LooseSteps.{both, loose_out}
use Rattle.lrp_c.proofs.HeldSteps.{Z, R, Out, In, both_good, pointer_good, some_of, held_out, held_in, made_in}
use Rattle.lrp_c.specs.contracts.held.Held.into_loose.{ended, clauses}
use Rattle.lrp_c.specs.contracts.held.Held.into_loose.Key.{name as #self}
use Rattle.lrp_c.proofs.held.Held.into_loose.Statement.{statement}
use Rattle.lrp_c.proofs.held.Held.into_loose.Code as code

pub into_loose_spec : {M : Type 1} → statement M
into_loose_spec 𝓤 𝓛 𝓜 𝓡 wired =
    let H = 𝓛.H in let 𝓣 = tables 𝓤 H 𝓜 𝓡 𝓡.env in let En = ended in let c = clauses 𝓛 𝓜.mem 𝓡.returns in let fn = code.function in
    let hs : Stays En.signature.params En.kept = (stay_dropped (plain (λ _. Out)) yes, tt) in
    proved_at 𝓛 En hs c 𝓜 𝓡 (Goes-dropped 𝓛 0 (plain (λ _. Out)) yes (λ κs x f. refl), tt) #self fn (code.unfolded 𝓤 H 𝓜 𝓡 wired) (λ z are.
    let κs = z.0.0 in let qs = z.0.1 in let v = z.0.3.0 in let a = v.alloc in let p = v.at in let Post : Val → SProp 𝓤 = (walk_of 𝓛 En hs c).post z in let Run : List Val → SProp 𝓤 = λ ws. WpFn 𝓤 H 𝓣.C 𝓣.Λ fn ws Post in
    qed 𝓛 ((raw (alive 𝓛 En.signature κs qs) ⊛ ‵ (owns (types_at En.signature.params κs) z.0.3 z.0.4)) ∷ raw (fact 𝓤 (is_some v.files ≡ true)) ∷ []) ∵ move ! (1 ∷ []) $
    heard ! (is_some v.files ≡ true) (λ is. let some = some_of v.files is in
    split ! $ move ! (1 ∷ []) $ fsplit ! $ held_out ! v z.0.4.0 (λ h ws fits.
    let w : Val = both (ptr_val p) h in let typed = both_good p h fits in
    rewrite ! 0 (λ (k : Option (List File)). ‵ (owned_at (ghosts.dealloc_token a) R IsSessionOf p k)) some.1 refl $ fpick ! (λ s. let x : R.Denot = s.0 in
    suffices ! (Run (w ∷ [])) (subst (λ (us : List Val). ent 𝓤 (Run (w ∷ [])) (Run us)) (sym (λ i. ws i ++ [])) (id⊢ 𝓤 (Run (w ∷ [])))) $
    enter ! 𝓣.C 𝓣.Λ fn (w ∷ []) Post $ alloc_all ! (λ l. pass_all ! refl (typed, tt) $
    sets ! (of_opd ! (get_in ! (fld ! refl (stop !)) (sub ! 0 refl (whole !)))) refl (pointer_good p) $ sets ! (of_opd ! (get_in ! (fld ! refl (stop !)) (sub ! 1 refl (whole !)))) refl fits $
    sets ! (of_opd ! (get ! refl)) refl (pointer_good p) $ sets ! (agg ! (and_then ! (get ! refl) (and_then ! (get ! refl) (no_more !)))) refl typed $
    made_in ! p h a x $
    use0 𝓛 (raw (fact 𝓤 (IfSome v.files (λ fs. IsSessionOf fs x)))) (fact_i 𝓤 (IfSome v.files (λ fs. IsSessionOf fs x)) (emp 𝓤) (subst (λ (k : Option (List File)). IfSome k (λ fs. IsSessionOf fs x)) (sym some.1) s.1)) $ nothing ! $ nothing ! $ fjoin ! $
    returns ! (look_at ! 0 refl) $ free_all ! refl $ keep ! (4 ∷ 0 ∷ 2 ∷ 1 ∷ []) $ by ! (leaves 𝓛 En hs c z w (record { at = p; alloc = a; value = x }) (tt, tt) (tt, tt)))))))
