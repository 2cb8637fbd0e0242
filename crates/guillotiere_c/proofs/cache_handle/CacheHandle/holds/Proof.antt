-- `holds` compares the pointer with null: a block of the heap may be compared, and is none.
use Rattle.std.proofs.Common.{true, false, Option, is_some, List, [], ◌∷◌, refl, sym, ap, ◌∙◌, lit<}
use mir.Syntax.{named}
use mir.Val.{Val, vbool}
use mir.Raw.{raw as bare}
use base.Logic.{fst∗, never, guard_i}
use base.Fraction.{full_share}
use base.Fml.{ftrue, flft}
use types.Logic.{sem}
use types.Kit.{‵, ◌⊛◌, given, ◌$◌, ◌∵◌, !, qed, move, keep, use1, learn, split, join, fsplit, fsplit3, fjoin, feq_i, feq_l, rewrite}
use types.Kit.{suffices, frame, group, done}
use types.Run.{enter, of_opd, lit, bin, un, load, stop, fld, returns}
use types.ByLocal.{alloc_all, pass_all, free_all, look_at, get, through, sets}
use types.Part.{whole, sub, look_in}
use contract.Monad.{fact_use}
use denote.RattleType.{RattleType}
use denote.Laws.{shows}
use denote.Memory.{cell_at, lone}
use denote.RawPtr.{Ptr, block_ptr, null_ptr, in_a_block, tests_null, Testable}
use denote.Ref.{MutRef, mut_vals, mut_Tells}
use denote.Signature.{plain}
use denote.Steps.{nothing, opens, closes, peeks}
use denote.Triple.Walked.{Stays, walk_of, says, stay_ref, Goes-ref, ends_at}
use Rattle.std.proofs.raw_atomic.Walks.{proved}
use Rattle.std.proofs.GlobalToken.{dealloc_token-Testable}
use Rattle.std.specs.Box.Ownership.{box_owns}
use Rattle.guillotiere_c.specs.Following.{Followed}
use Rattle.guillotiere_c.specs.contracts.followed.FollowedCache as value
use Rattle.guillotiere_c.specs.Keeping.{keeps_cache, token}
use Rattle.guillotiere_c.specs.contracts.cache_handle.CacheHandle.holds as f
use Rattle.guillotiere_c.proofs.cache_handle.CacheHandle.holds.Statement.{statement}
use Rattle.guillotiere_c.proofs.cache_handle.CacheHandle.holds.Code as code
use Rattle.guillotiere_c.specs.contracts.cache_handle.CacheHandle.{the_row as R}
use Rattle.guillotiere_c.proofs.cache_handle.CacheHandle.TheLaws.{lowers}
use Rattle.guillotiere_c.proofs.Lent.{by_kept}

abbrev stayed : Stays f.ended.signature.params f.ended.kept
stayed = (stay_ref (0 ∷ []) tt (plain (λ _. R)), tt)

pub holds_spec : {M : Type 1} → statement M
holds_spec 𝓤 𝓛 𝓜 𝓡 wired =
    let c = f.clauses 𝓛 𝓜.mem 𝓡.returns in let W = walk_of 𝓛 f.ended stayed c in let V : RattleType = value.the_row in
    proved 𝓛 f.ended stayed c 𝓜 𝓡 (Goes-ref 𝓛 1 0 tt (plain (λ _. R)), tt)
    f.Key.name code.function (code.unfolded 𝓤 𝓛.H 𝓜 𝓡 wired)
    (λ κs. (mut_vals, tt)) (λ κs. (mut_Tells (named 0) κs.0 R, tt)) (λ κs qs bounds a _ are.
    let b = a.0.ref_ptr.0 in let o = a.0.ref_ptr.1 in let h = a.0.now in let vs = mut_vals a.0 in
    let y : W.Ghost = ((κs, qs, bounds, a, (vs, tt)), tt) in let Cell = λ (ws : List Val). ‵ (cell_at full_share R.mir ws b o) in
    qed 𝓛 (((‵ (flft κs.0 qs.0) ⊛ ‵ ftrue) ⊛ ‵ ((MutRef (named 0) κs.0 R).own_val a.0 vs) ⊛ ‵ ftrue) ∷ ‵ ftrue ∷ []) ∵
    split ! $ split ! $ move ! (2 ∷ []) $ split ! $ keep ! (0 ∷ 2 ∷ []) $
    enter ! _ _ _ _ _ $ alloc_all ! (λ l. pass_all ! refl ((tt, tt), tt) $
    fsplit3 ! $ move ! (1 ∷ 2 ∷ 3 ∷ []) $ opens ! tt R b o (λ us.
    move ! (1 ∷ []) $ peeks ! R _ (shows 𝓛 R) h us (λ is. fsplit ! $ move ! (1 ∷ []) $
    -- [what the handle owns; its fields; its cell; the open borrow, in three entries]
    by_kept h.kept
    (λ none. rewrite ! 0 (λ (k : Option Followed). ‵ (keeps_cache k h.at)) none refl $ feq_l ! (λ e.
    let word = lowers.val_is h us is ∙ ap (λ (p : Ptr). lowers.lowered (record h { at = p }) ∷ []) e in
    rewrite ! 1 Cell word refl $
    sets ! (of_opd ! (load ! (through ! refl (fld ! refl (stop !))) (look_in ! 1 (sub ! 0 refl (whole !))))) refl
    (tt, record { fits = lit< tt }) $
    sets ! (bin ! (get ! refl) (lit ! tt) tt) refl (tt, tt) $ sets ! (un ! (get ! refl) tt) refl (tt, tt) $
    rewrite ! 1 Cell (sym word) refl $ feq_i ! Ptr h.at null_ptr e $ rewrite ! 0 (λ (k : Option Followed). ‵ (keeps_cache k h.at))
    (sym none) refl $
    move ! (1 ∷ []) $ fjoin ! $ move ! (1 ∷ []) $ closes ! tt R h us b o $
    returns ! (look_at ! 0 refl) $ free_all ! refl $ move ! (3 ∷ []) $
    suffices ! _ (ends_at 𝓛 f.ended stayed c y (vbool false) false (h, tt) (tt, tt)) $ says ! (refl, sym (ap is_some none)) $
    group ! 3 $ nothing ! $ move ! (1 ∷ 0 ∷ []) $ join ! $ nothing ! $ move ! (2 ∷ 0 ∷ []) $ join ! $ frame ! $ frame ! $
    feq_i ! _ (vbool false ∷ []) _ refl $ done !))
    (λ x some. rewrite ! 0 (λ (k : Option Followed). ‵ (keeps_cache k h.at)) some refl $
    in_a_block ! h.at (λ p. box_owns token V p x) (fst∗ 𝓤 (never 𝓤) (sem 𝓛 (token (bare (lone V.mir)) null_ptr)))
    (λ b' o' e. fsplit ! $ move ! (1 ∷ []) $
    use1 𝓛 (given (Testable (block_ptr b' o')) (‵ (token (bare (lone V.mir)) (block_ptr b' o'))))
    (fact_use 𝓤 _ (dealloc_token-Testable 𝓛 _ (bare (lone V.mir)) (block_ptr b' o'))
    (guard_i 𝓤 (Testable (block_ptr b' o')) (sem 𝓛 (token (bare (lone V.mir)) (block_ptr b' o'))))) $ learn ! (λ t.
    move ! (1 ∷ 0 ∷ []) $ fjoin ! $
    let word = lowers.val_is h us is ∙ ap (λ (p : Ptr). lowers.lowered (record h { at = p }) ∷ []) e in
    rewrite ! 2 Cell word refl $
    sets ! (of_opd ! (load ! (through ! refl (fld ! refl (stop !))) (look_in ! 2 (sub ! 0 refl (whole !))))) refl (tt, tt) $
    sets ! (bin ! (get ! refl) (lit ! tt) (tests_null (block_ptr b' o') t)) refl (tt, tt) $ sets ! (un ! (get ! refl) tt) refl (tt, tt) $
    rewrite ! 2 Cell (sym word) refl $ rewrite ! 0 (λ (p : Ptr). ‵ (box_owns token V p x)) (sym e) refl $ rewrite ! 0
    (λ (k : Option Followed). ‵ (keeps_cache k h.at)) (sym some) refl $
    move ! (1 ∷ []) $ fjoin ! $ move ! (1 ∷ []) $ closes ! tt R h us b o $
    returns ! (look_at ! 0 refl) $ free_all ! refl $ move ! (3 ∷ []) $
    suffices ! _ (ends_at 𝓛 f.ended stayed c y (vbool true) true (h, tt) (tt, tt)) $ says ! (refl, sym (ap is_some some)) $
    group ! 3 $ nothing ! $ move ! (1 ∷ 0 ∷ []) $ join ! $ nothing ! $ move ! (2 ∷ 0 ∷ []) $ join ! $ frame ! $ frame ! $
    feq_i ! _ (vbool true ∷ []) _ refl $ done !)))))))
