-- A handle by its parts: a pointer, the heap's handle, and what is owned at the pointer. Assumes `Logic`.
use Rattle.std.proofs.Common.{◌≡◌, List, [], ◌∷◌, ◌++◌, refl, subst, Option, Some, None, Bool, true, false}
use mathlib.Core.Bool.{◌&&◌}
use lib.Dec.{T, lit<}
use seplogic.Ra.Ura.{Ura}
use mir.Syntax.{impl, tnil, dnil, ty_ptr}
use mir.Val.{Val, vstruct, of_list, has_ty, WT}
use types.Logic.{Logic}
use types.Kit.{Item, Goal, Seq, Step, step, ‵, ◌$◌, move, drop, fsplit, fjoin, fpick, fpack, feq_i, feq_l}
use denote.RattleType.{RattleType, Valss}
use denote.Builtin.{RawPtr}
use denote.RawPtr.{Ptr, block_ptr, null_ptr, ptr_val}
use denote.Steps.{nothing}
use denote.Param.{layout}
use denote.Struct.Struct.{within}
use denote.Struct.Owning.{shape, to}
use Rattle.std.specs.Box.Ownership.{box_owns}
use Rattle.std.specs.contracts.alloc.Global as heap
use Rattle.std.proofs.alloc.Global.TheLaws as heap_laws
use Rattle.std.specs.contracts.impls.GlobalAllocator.TheImpl.{ghosts}
use Rattle.std.proofs.alloc.Calls.{Al, handle_tells}
use Rattle.std.proofs.cell.Inside.{Good}
use Rattle.lrp_c.specs.Handles.{owned_at, is_some}
use Rattle.lrp_c.specs.Sessions.{IsSessionOf}
use Rattle.lrp_io.specs.declared.shelf.File.{File}
use Rattle.lrp_c.specs.contracts.session.Session as state
use Rattle.lrp_c.specs.contracts.held.Held as held
use Rattle.lrp_c.specs.contracts.loose.Loose as loose
use Rattle.lrp_c.proofs.LooseSteps.{both, both_tt}

abbrev pub Z : RattleType
Z = heap.the_row

abbrev pub R : RattleType
R = state.the_row

abbrev pub Out : RattleType
Out = held.the_row

abbrev pub In : RattleType
In = loose.the_row R Z ghosts

abbrev al : Al
al = record { row = Z; laws = heap_laws.the_row_laws; g = ghosts; d = impl [] tnil dnil; drops = impl [] tnil dnil }

-- a pointer has its layout
pub pointer_good : (p : Ptr) → T (has_ty ty_ptr (ptr_val p)) × WT (ptr_val p)
pointer_good (block_ptr b o) = (tt, tt)
pointer_good null_ptr = (tt, record { fits = lit< tt })

-- so has a pointer beside the heap's handle
pub both_good : (p : Ptr) (h : Val) → Good (layout Z) h → T (has_ty ty_ptr (ptr_val p) && (has_ty (layout Z) h && true)) × WT (both (ptr_val p) h)
both_good p h fits = let g = pointer_good p in (both_tt (has_ty ty_ptr (ptr_val p)) (has_ty (layout Z) h) g.0 fits.0, (g.1, (fits.1, tt)))

-- something is kept
abbrev other : Bool → Type 0
other true = ⊥
other false = Unit {0}

not_there : false ≡ true → ⊥
not_there e = subst other e tt

pub some_of : {A : Type 0} (k : Option A) → is_some k ≡ true → (x : A) × (k ≡ Some x)
some_of (Some x) e = (x, refl)
some_of None e = absurd (not_there e)

module _ {M : Type 1} {𝓤 : Ura M} {𝓛 : Logic 𝓤} {K : Type 0} {Γ : List (Item 𝓤)} {G : Goal 𝓤 𝓛.H} where
  pub held_out : K → (d : Out.Denot) (vs : List Val)
      → ((h : Val) → vs ≡ both (ptr_val d.at) h ∷ [] → Good (layout Z) h → Seq K 𝓛 (‵ (owned_at (ghosts.dealloc_token d.alloc) R IsSessionOf d.at d.files) ∷ ‵ (Z.own_val d.alloc (h ∷ [])) ∷ Γ) G)
      → Seq K 𝓛 (‵ (Out.own_val d vs) ∷ Γ) G
  held_out t d vs k =
      fsplit t $ fpick t (λ vss. fsplit t $ feq_l t (λ ev. fsplit t $ feq_l t (λ ep. fsplit t $ handle_tells al t d.alloc vss.1.0 (λ h ea fits. move t (1 ∷ []) $ drop t $ move t (1 ∷ []) $
      k h (subst (λ (ws : List Val). vs ≡ vstruct (of_list (ptr_val d.at ∷ (ws ++ []))) ∷ []) ea (subst (λ (ps : List Val). vs ≡ vstruct (of_list (ps ++ (vss.1.0 ++ []))) ∷ []) ep ev)) fits))))

  pub held_in : K → (p : Ptr) (h : Val) (a : Z.Denot) (x : Option (List File))
      → Step K 𝓛 (‵ (Out.own_val (record { at = p; alloc = a; files = x }) (both (ptr_val p) h ∷ [])) ∷ Γ) G (‵ (owned_at (ghosts.dealloc_token a) R IsSessionOf p x) ∷ ‵ (Z.own_val a (h ∷ [])) ∷ Γ) G
  held_in t p h a x = step (λ s. let v : Val = both (ptr_val p) h in
      nothing t $ move t (2 ∷ 0 ∷ []) $ fjoin t $ feq_i t (List Val) (ptr_val p ∷ []) (ptr_val p ∷ []) refl $ fjoin t $ feq_i t (List Val) (v ∷ []) (v ∷ []) refl $ fjoin t $
      fpack t (Valss (RawPtr ∷ Z ∷ [])) (within (shape held.the_type) (to held.the_type (record { at = p; alloc = a; files = x })) (v ∷ [])) (ptr_val p ∷ [], (h ∷ [], tt)) $ fjoin t $ s)

  pub made_in : K → (p : Ptr) (h : Val) (a : Z.Denot) (x : R.Denot)
      → Step K 𝓛 (‵ (In.own_val (record { at = p; alloc = a; value = x }) (both (ptr_val p) h ∷ [])) ∷ Γ) G (‵ (box_owns (ghosts.dealloc_token a) R p x) ∷ ‵ (Z.own_val a (h ∷ [])) ∷ Γ) G
  made_in t p h a x = step (λ s. let v : Val = both (ptr_val p) h in
      nothing t $ move t (2 ∷ 0 ∷ []) $ fjoin t $ feq_i t (List Val) (ptr_val p ∷ []) (ptr_val p ∷ []) refl $ fjoin t $ feq_i t (List Val) (v ∷ []) (v ∷ []) refl $ fjoin t $
      fpack t (Valss (RawPtr ∷ Z ∷ [])) (within (shape (loose.the_type R Z ghosts)) (p, (a, tt)) (v ∷ [])) (ptr_val p ∷ [], (h ∷ [], tt)) $ fjoin t $ s)
