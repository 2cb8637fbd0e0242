-- `holds` compares the pointer with null, and gives back what it looked at.
use Rattle.std.proofs.Common.{◌≡◌, true, false, Option, is_some, List, [], ◌∷◌, refl, sym, ap, subst, ◌∙◌, lit<}
use mir.Syntax.{named}
use mir.Val.{Val, vbool, vptr}
use base.Logic.{emp, id⊢, fst∗, never}
use base.Fml.{ftrue, flft, Fml}
use types.Logic.{sem}
use types.Kit.{‵, raw, ◌⊛◌, ◌$◌, ◌∵◌, !, qed, move, keep, use0, by, drop, split, join, fsplit, fjoin, fpick, fpack, feq_i, feq_l, rewrite}
use types.Run.{enter, of_opd, lit, bin, un, load, stop, fld, returns}
use types.ByLocal.{alloc_all, pass_all, free_all, look_at, get, through, sets}
use types.Part.{whole, sub, look_in}
use contract.Monad.{fact, fact_i}
use denote.Exit.{yes}
use denote.Laws.{shows}
use denote.Memory.{cell_at, shared_of}
use denote.RawPtr.{Ptr, block_ptr, null_ptr, tests_null, Testable, in_a_block, block_of, count_of}
use denote.Struct.Lending.{lent_at}
use denote.Ref.{ShrRef, shr_vals, shr_Tells}
use denote.Signature.{plain}
use denote.Steps.{nothing, looks, shuts, peeks}
use denote.Triple.Walked.{Stays, walk_of, stay_none_ref, Goes-none_ref}
use Rattle.std.proofs.raw_atomic.Walks.{proved, leaves}
use Rattle.guillotiere_c.specs.Keeping.{lends, paged_row as row}
use Rattle.guillotiere_c.specs.contracts.paged_handle.PagedReader as view
use Rattle.guillotiere_c.specs.contracts.paged_handle.PagedReader.holds as f
use Rattle.guillotiere_c.proofs.paged_handle.PagedReader.holds.Statement.{statement}
use Rattle.guillotiere_c.proofs.paged_handle.PagedReader.holds.Code as code
use Rattle.guillotiere_c.proofs.paged_handle.PagedReader.TheLaws.{lowers}
use Rattle.guillotiere_c.proofs.Lent.{by_kept}
use Rattle.guillotiere_c.proofs.PagedReaders.{opens}

abbrev stayed : Stays f.ended.signature.params f.ended.kept
stayed = (stay_none_ref (0 ∷ []) tt (plain (λ _. view.the_row)) yes, tt)

-- what the handle lends, by what it holds; and what the value at a pointer lends
abbrev has : Ptr → Option row.Denot → Fml
has p k = lends row k p

abbrev lent : row.Denot → Ptr → Fml
lent x p = lent_at row p x []

pub holds_spec : {M : Type 1} → statement M
holds_spec 𝓤 𝓛 𝓜 𝓡 wired =
    let clauses = f.clauses 𝓛 𝓜.mem 𝓡.returns in let walk = walk_of 𝓛 f.ended stayed clauses in
    proved 𝓛 f.ended stayed clauses 𝓜 𝓡 (Goes-none_ref 𝓛 1 (0 ∷ []) tt (plain (λ _. view.the_row)) yes, tt)
    f.Key.name code.function (code.unfolded 𝓤 𝓛.H 𝓜 𝓡 wired)
    (λ κs. (shr_vals, tt)) (λ κs. (shr_Tells (named 0) κs.0 view.the_row, tt)) (λ κs qs bounds a _ are.
    let b = a.0.ref_ptr.0 in let o = a.0.ref_ptr.1 in let h = a.0.now in let self = shr_vals a.0 in
    let start : walk.Ghost = ((κs, qs, bounds, a, (self, tt)), tt) in
    let wordof = λ (p : Ptr). lowers.lowered (record h { at = p }) ∷ [] in
    qed 𝓛 (((‵ (flft κs.0 qs.0) ⊛ ‵ ftrue) ⊛ ‵ ((ShrRef (named 0) κs.0 view.the_row).own_val a.0 self) ⊛ ‵ ftrue) ∷ ‵ ftrue ∷ []) ∵
    split ! $ split ! $ move ! (2 ∷ []) $ split ! $ keep ! (0 ∷ 2 ∷ []) $
    enter ! _ _ _ _ _ $ alloc_all ! (λ l. pass_all ! refl ((tt, tt), tt) $
    fsplit ! $ drop ! $ looks ! tt view.the_row (opens 𝓛) h b o (λ part words.
    let cell = λ (ws : List Val). ‵ (cell_at part view.the_row.mir ws b o) in
    move ! (1 ∷ []) $ peeks ! view.the_row _ (shows 𝓛 view.the_row) h words (λ is. fsplit ! $ move ! (1 ∷ []) $
    -- [what the handle lends; its fields; its cell; the way back, in two; the `&`]
    by_kept h.kept
    (λ none. rewrite ! 0 (λ k. ‵ (has h.at k)) none refl $ feq_l ! (λ null.
    let known = lowers.val_is h words is ∙ ap wordof null in
    rewrite ! 1 cell known refl $
    sets ! (of_opd ! (load ! (through ! refl (fld ! refl (stop !))) (look_in ! 1 (sub ! 0 refl (whole !))))) refl
    (tt, record { fits = lit< tt }) $
    sets ! (bin ! (get ! refl) (lit ! tt) tt) refl (tt, tt) $ sets ! (un ! (get ! refl) tt) refl (tt, tt) $
    rewrite ! 1 cell (sym known) refl $ feq_i ! Ptr h.at null_ptr null $ rewrite ! 0 (λ k. ‵ (has h.at k)) (sym none) refl $
    move ! (1 ∷ []) $ fjoin ! $ move ! (1 ∷ []) $ shuts ! tt view.the_row part h words b o $
    nothing ! $ move ! (1 ∷ 0 ∷ []) $ join ! $ feq_i ! (List Val) (vbool false ∷ []) (vbool false ∷ []) refl $
    use0 𝓛 (raw (fact 𝓤 (false ≡ is_some h.kept))) (fact_i 𝓤 (false ≡ is_some h.kept) (emp 𝓤) (sym (ap is_some none))) $
    move ! (3 ∷ []) $ feq_i ! (List Val) (vptr b o ∷ []) (vptr b o ∷ []) refl $ fjoin ! $ nothing ! $ move ! (1 ∷ 0 ∷ []) $ fjoin ! $
    returns ! (look_at ! 0 refl) $ free_all ! refl $ keep ! (3 ∷ 0 ∷ 2 ∷ 1 ∷ []) $
    by ! (leaves 𝓛 f.ended stayed clauses start (vbool false) false (tt, tt) (tt, tt))))
    (λ x some. rewrite ! 0 (λ k. ‵ (has h.at k)) some refl $ fsplit ! $ fpick ! (λ may. drop ! $
    in_a_block ! h.at (lent x) (fst∗ 𝓤 (never 𝓤) (sem 𝓛 (shared_of row x (block_of null_ptr) (count_of null_ptr) []))) (λ block count there.
    let known = lowers.val_is h words is ∙ ap wordof there in
    rewrite ! 2 cell known refl $
    sets ! (of_opd ! (load ! (through ! refl (fld ! refl (stop !))) (look_in ! 2 (sub ! 0 refl (whole !))))) refl (tt, tt) $
    sets ! (bin ! (get ! refl) (lit ! tt) (tests_null (block_ptr block count) (subst Testable there may))) refl (tt, tt) $
    sets ! (un ! (get ! refl) tt) refl (tt, tt) $
    rewrite ! 2 cell (sym known) refl $ rewrite ! 0 (λ p. ‵ (lent x p)) (sym there) refl $
    use0 𝓛 (‵ ftrue) (id⊢ 𝓤 (emp 𝓤)) $ fpack ! (Testable h.at) (λ _. ftrue) may $ fjoin ! $ rewrite ! 0 (λ k. ‵ (has h.at k)) (sym some)
    refl $
    move ! (1 ∷ []) $ fjoin ! $ move ! (1 ∷ []) $ shuts ! tt view.the_row part h words b o $
    nothing ! $ move ! (1 ∷ 0 ∷ []) $ join ! $ feq_i ! (List Val) (vbool true ∷ []) (vbool true ∷ []) refl $
    use0 𝓛 (raw (fact 𝓤 (true ≡ is_some h.kept))) (fact_i 𝓤 (true ≡ is_some h.kept) (emp 𝓤) (sym (ap is_some some))) $
    move ! (3 ∷ []) $ feq_i ! (List Val) (vptr b o ∷ []) (vptr b o ∷ []) refl $ fjoin ! $ nothing ! $ move ! (1 ∷ 0 ∷ []) $ fjoin ! $
    returns ! (look_at ! 0 refl) $ free_all ! refl $ keep ! (3 ∷ 0 ∷ 2 ∷ 1 ∷ []) $
    by ! (leaves 𝓛 f.ended stayed clauses start (vbool true) true (tt, tt) (tt, tt)))))))))
