-- `lent` reads the pointer: what lies there is lent for longer than the handle is.
use Rattle.std.proofs.Common.{◌≡◌, Option, Some, IsSome, List, [], ◌∷◌, refl, sym, ap, ◌∙◌}
use mathlib.Core.List.{not-mem-nil}
use mir.Syntax.{named}
use mir.Val.{Val, vptr}
use base.Logic.{emp, fst∗, never}
use base.Fml.{ftrue, flft, Fml, Lft}
use types.Logic.{sem}
use types.Kit.{at_ret, ‵, raw, ◌⊛◌, ◌$◌, ◌∵◌, !, qed, move, keep, use0, use1, by, drop, split, join, fsplit, fjoin, feq_i, rewrite}
use types.Run.{enter, of_opd, load, addr, stop, fld, returns, first, blocks, exec}
use contract.Running.{tables}
use Rattle.std.proofs.VecSteps.Shapes.{after}
use types.ByLocal.{alloc_all, pass_all, free_all, look_at, get, through, sets, sets_last, env}
use types.Part.{whole, sub, look_in}
use contract.Monad.{fact, fact_i}
use denote.Exit.{yes}
use denote.Laws.{shows}
use denote.Memory.{cell_at, shared_of}
use denote.Opens.{hide}
use denote.RawPtr.{Ptr, block_ptr, null_ptr, in_a_block, block_of, count_of}
use denote.Ref.{ShrRef, shr_vals, shr_Tells}
use denote.SharingLaws.{shortens}
use denote.Signature.{plain}
use denote.Steps.{nothing, looks, shuts, peeks, heard}
use denote.Struct.Lending.{lent_at, lent_at_shr_laws}
use denote.Triple.Walked.{Stays, walk_of, stay_none_ref, Goes-none_ref}
use Rattle.std.proofs.raw_atomic.Walks.{proved, leaves}
use Rattle.guillotiere_c.specs.Keeping.{lends, paged_row as row}
use Rattle.guillotiere_c.specs.contracts.paged_handle.PagedReader as view
use Rattle.guillotiere_c.specs.contracts.paged_handle.PagedReader.lent as f
use Rattle.guillotiere_c.proofs.paged_handle.PagedReader.lent.Statement.{statement}
use Rattle.guillotiere_c.proofs.paged_handle.PagedReader.lent.Code as code
use Rattle.guillotiere_c.proofs.paged_handle.PagedReader.TheLaws.{lowers}
use Rattle.guillotiere_c.proofs.Lent.{by_held, lends_twice}
use Rattle.guillotiere_c.proofs.PagedReaders.{opens, row_laws}

abbrev stayed : Stays f.ended.signature.params f.ended.kept
stayed = (stay_none_ref (0 ∷ []) tt (plain (λ _. view.the_row)) yes, tt)

pub lent_spec : {M : Type 1} → statement M
lent_spec 𝓤 𝓛 𝓜 𝓡 wired =
    let clauses = f.clauses 𝓛 𝓜.mem 𝓡.returns in let walk = walk_of 𝓛 f.ended stayed clauses in
    let table = tables 𝓤 𝓛.H 𝓜 𝓡 𝓡.env in let fn = code.function in
    proved 𝓛 f.ended stayed clauses 𝓜 𝓡 (Goes-none_ref 𝓛 1 (0 ∷ []) tt (plain (λ _. view.the_row)) yes, tt)
    f.Key.name fn (code.unfolded 𝓤 𝓛.H 𝓜 𝓡 wired)
    (λ κs. (shr_vals, tt)) (λ κs. (shr_Tells (named 0) κs.0 view.the_row, tt)) (λ κs qs bounds a _ are.
    let κ : Lft = κs.0 in let b = a.0.ref_ptr.0 in let o = a.0.ref_ptr.1 in let h = a.0.now in let self = shr_vals a.0 in
    let start : walk.Ghost = ((κs, qs, bounds, a, (self, tt)), tt) in let has : Fml = lends row h.kept h.at in
    qed 𝓛 (((‵ (flft κs.0 qs.0) ⊛ ‵ ftrue) ⊛ ‵ ((ShrRef (named 0) κs.0 view.the_row).own_val a.0 self) ⊛ ‵ ftrue) ∷ raw
    (fact 𝓤 (IsSome h.kept)) ∷ []) ∵
    move ! (1 ∷ []) $ heard ! (IsSome h.kept) (λ held. by_held h.kept held (λ x some.
    let lent : Ptr → Fml = λ p. lent_at row p x [] in
    split ! $ split ! $ move ! (2 ∷ []) $ split ! $ keep ! (0 ∷ 2 ∷ []) $
    enter ! _ _ _ _ _ $ alloc_all ! (λ l. pass_all ! refl ((tt, tt), tt) $
    fsplit ! $ drop ! $ looks ! tt view.the_row (opens 𝓛) h b o (λ part words.
    let cell = λ (ws : List Val). ‵ (cell_at part view.the_row.mir ws b o) in
    move ! (1 ∷ []) $ peeks ! view.the_row _ (shows 𝓛 view.the_row) h words (λ is. fsplit ! $ move ! (1 ∷ []) $
    -- [what the handle lends; its fields; its cell; the way back, in two; the `&`]
    use1 𝓛 (‵ has ⊛ ‵ has) (lends_twice 𝓛 row row_laws h.kept h.at) $ split ! $ move ! (2 ∷ 1 ∷ []) $ fjoin ! $ move ! (1 ∷ 0 ∷ []) $
    -- [what the handle lends; what the handle has; its cell; the way back; the `&`]
    rewrite ! 0 (λ (k : Option row.Denot). ‵ (lends row k h.at)) some refl $ fsplit ! $ drop ! $
    in_a_block ! h.at lent (fst∗ 𝓤 (never 𝓤) (sem 𝓛 (shared_of row x (block_of null_ptr) (count_of null_ptr) []))) (λ block count there.
    let known = lowers.val_is h words is ∙ ap (λ (p : Ptr). lowers.lowered (record h { at = p }) ∷ []) there in
    let to : Ptr = block_ptr block count in let result : (ShrRef (named 0) κ row).Denot = record { ref_ptr = (block, count); now = x } in
    rewrite ! 2 cell known refl $ first ! $ blocks ! $
    sets ! (of_opd ! (load ! (through ! refl (fld ! refl (stop !))) (look_in ! 2 (sub ! 0 refl (whole !))))) refl (tt, tt) $
    sets ! (of_opd ! (get ! refl)) refl (tt, tt) $ sets_last ! (addr ! (through ! refl (stop !))) refl (tt, tt) $
    exec ! table.C table.Λ (env fn.locals l) (after 1 fn.body) (at_ret (env fn.locals l) (walk.post start)) $
    sets ! (of_opd ! (get ! refl)) refl (tt, tt) $
    rewrite ! 2 cell (sym known) refl $ move ! (2 ∷ 1 ∷ 3 ∷ []) $ shuts ! tt view.the_row part h words b o $
    -- [the token; what lies at the pointer; the `&`]
    move ! (1 ∷ []) $
    use1 𝓛 (‵ (lent_at row to x κ)) (shortens 𝓛 (lent_at row to x) (lent_at_shr_laws row row_laws to x) [] κ
    (λ z m. absurd (not-mem-nil m))) $
    fsplit ! $ drop ! $ hide ! $ feq_i ! (List Val) (vptr block count ∷ []) (vptr block count ∷ []) refl $ fjoin ! $
    move ! (1 ∷ []) $ nothing ! $ move ! (1 ∷ 0 ∷ []) $ join ! $ move ! (1 ∷ 0 ∷ []) $
    use0 𝓛 (raw (fact 𝓤 (h.kept ≡ Some x))) (fact_i 𝓤 (h.kept ≡ Some x) (emp 𝓤) some) $
    move ! (3 ∷ []) $ feq_i ! (List Val) (vptr b o ∷ []) (vptr b o ∷ []) refl $ fjoin ! $ nothing ! $ move ! (1 ∷ 0 ∷ []) $ fjoin ! $
    returns ! (look_at ! 0 refl) $ free_all ! refl $ keep ! (3 ∷ 0 ∷ 2 ∷ 1 ∷ []) $
    by ! (leaves 𝓛 f.ended stayed clauses start (vptr block count) result (tt, tt) (tt, tt)))))))))
