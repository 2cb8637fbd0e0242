-- `open` moves what the handle owns into the struct.
use Rattle.std.proofs.Common.{◌≡◌, Option, Some, IsSome, List, [], ◌∷◌, ◌++◌, sym, refl, ap, ◌∙◌, subst}
use mir.Val.{Val, vptr, vstruct, vcons, vnil, of_list}
use mir.Raw.{raw as bare}
use base.Logic.{SProp, ent, emp, id⊢, fst∗, never}
use types.Logic.{sem}
use types.Kit.{‵, raw, ◌⊛◌, ◌$◌, ◌∵◌, !, qed, by, move, keep, drop, split, fsplit, fjoin, fpick, fpack, use0, rewrite, feq_i, feq_l}
use types.Kit.{suffices}
use types.Run.{stop, fld, of_opd, no_more, and_then, returns, enter}
use types.ByLocal.{alloc_all, pass_all, free_all, look_at, get, get_in, sets}
use types.Part.{agg, sub, whole}
use contract.Running.{tables}
use contract.Monad.{fact, fact_i}
use Rattle.guillotiere_c.specs.Following.{Followed}
use denote.Exit.{yes}
use denote.RattleType.{RattleType, Valss, owns}
use denote.Signature.{plain, types_at}
use denote.RawPtr.{Ptr, block_ptr, null_ptr, ptr_val, in_a_block}
use denote.Laws.{Is, shows}
use denote.Steps.{nothing, heard, peeks}
use denote.Builtin.{RawPtr}
use denote.Memory.{lone}
use denote.Struct.Struct.{within}
use denote.Struct.Owning.{shape}
use denote.Triple.Entry.{alive}
use denote.Triple.Walked.{Stays, stay_dropped, walk_of, Goes-dropped}
use Rattle.std.proofs.raw_atomic.Walks.{proved_at, leaves}
use Rattle.std.proofs.Handle.{heap_val, heap_Tells}
use Rattle.std.specs.Box.Ownership.{box_owns}
use Rattle.std.specs.contracts.alloc.Global as heap
use Rattle.std.specs.contracts.impls.GlobalAllocator.TheImpl.{ghosts}
use Rattle.guillotiere_c.specs.contracts.followed.FollowedCache as value
use Rattle.guillotiere_c.specs.Keeping.{keeps_cache, token}
use Rattle.guillotiere_c.specs.contracts.held.Held as held
use Rattle.guillotiere_c.specs.contracts.cache_handle.CacheHandle as handle
use Rattle.guillotiere_c.specs.contracts.cache_handle.CacheHandle.open.{ended, clauses}
use Rattle.guillotiere_c.specs.contracts.cache_handle.CacheHandle.open.Key.{name as #self}
use Rattle.guillotiere_c.proofs.cache_handle.CacheHandle.open.Statement.{statement}
use Rattle.guillotiere_c.proofs.cache_handle.CacheHandle.open.Code as code
use Rattle.guillotiere_c.proofs.Lent.{by_held}

pub open_spec : {M : Type 1} → statement M
open_spec 𝓤 𝓛 𝓜 𝓡 wired =
    let H = 𝓛.H in let 𝓣 = tables 𝓤 H 𝓜 𝓡 𝓡.env in let Z : RattleType = heap.the_row in let R : RattleType = value.the_row in
    let Out : RattleType = held.the_row R Z ghosts in let Row : RattleType = handle.the_row in
    let fn = code.function in let c = clauses 𝓛 𝓜.mem 𝓡.returns in let hs : Stays ended.signature.params ended.kept =
    (stay_dropped (plain (λ _. Z)) yes, (stay_dropped (plain (λ _. Row)) yes, tt)) in
    proved_at 𝓛 ended hs c 𝓜 𝓡 (
      Goes-dropped 𝓛 0 (plain (λ _. Z)) yes (λ κs x f. refl),
      (Goes-dropped 𝓛 0 (plain (λ _. Row)) yes (λ κs x f. refl), tt),
    ) #self fn (code.unfolded 𝓤 H 𝓜 𝓡 wired) (λ z are.
    let κs = z.0.0 in let qs = z.0.1 in let Post : Val → SProp 𝓤 = (walk_of 𝓛 ended hs c).post z in let Run : List Val → SProp 𝓤 =
    λ ws. prog.Wp.WpFn 𝓤 H 𝓣.C 𝓣.Λ fn ws Post in
    let a : Z.Denot = z.0.3.0 in let v : Row.Denot = z.0.3.1.0 in
    qed 𝓛 ((raw (alive 𝓛 ended.signature κs qs) ⊛ ‵ (owns (types_at ended.signature.params κs) z.0.3 z.0.4)) ∷ raw (fact 𝓤 (IsSome v.kept))
    ∷ []) ∵
    move ! (1 ∷ []) $ heard ! (IsSome v.kept) (λ some. split ! $ move ! (1 ∷ []) $ fsplit ! $ peeks ! Z (Is Z) (shows 𝓛 Z) a z.0.4.0
    (λ is. rewrite ! 0 (λ (us : List Val). ‵ (Z.own_val a us)) (heap_Tells a z.0.4.0 is) refl $
    move ! (1 ∷ []) $ fsplit ! $ fsplit ! $ fpick ! (λ vss. fsplit ! $ feq_l ! (λ ev. fsplit ! $ feq_l ! (λ ep. drop ! $
    by_held v.kept some (λ x same. rewrite ! 0 (λ (k : Option Followed). ‵ (keeps_cache k v.at)) same refl $
    in_a_block ! v.at (λ p. box_owns token R p x) (fst∗ 𝓤 (never 𝓤) (sem 𝓛 (token (bare (lone R.mir)) null_ptr))) (λ b o e.
    -- [what the handle owned; nothing; the allocator; the tokens]
    let p : Ptr = block_ptr b o in let w' : Val = vstruct (vcons (vptr b o) vnil) in let w : Val =
    vstruct (vcons (vptr b o) (vcons heap_val vnil)) in
    let ew : z.0.4.1.0 ≡ w' ∷ [] = ev ∙ (λ j. vstruct (of_list ((ep ∙ ap (λ (π : Ptr). ptr_val π ∷ []) e) j ++ [])) ∷ []) in
    suffices ! (Run (heap_val ∷ w' ∷ [])) (subst (λ (us : List Val). ent 𝓤 (Run (heap_val ∷ w' ∷ [])) (Run us))
    (sym (λ i. heap_Tells a z.0.4.0 is i ++ (ew i ++ []))) (id⊢ 𝓤 (Run (heap_val ∷ w' ∷ [])))) $
    keep ! (0 ∷ 2 ∷ 3 ∷ []) $ enter ! 𝓣.C 𝓣.Λ fn (heap_val ∷ w' ∷ []) Post $ alloc_all !
    (λ l. pass_all ! refl ((tt, ((tt, tt), tt)), ((tt, (tt, tt)), tt)) $
    sets ! (of_opd ! (get_in ! (fld ! refl (stop !)) (sub ! 0 refl (whole !)))) refl (tt, tt) $ sets ! (of_opd ! (get ! refl)) refl (tt, tt)
    $
    sets ! (agg ! (and_then ! (get ! refl) (and_then ! (get ! refl) (no_more !)))) refl (tt, (tt, (((tt, tt), tt), tt))) $
    move ! (1 ∷ []) $ nothing ! $ move ! (1 ∷ 0 ∷ []) $ fjoin ! $ feq_i ! (List Val) (vptr b o ∷ []) (vptr b o ∷ []) refl $ fjoin ! $ feq_i
    ! (List Val) (w ∷ []) (w ∷ []) refl $ fjoin ! $
    fpack ! (Valss (RawPtr ∷ Z ∷ [])) (within (shape (held.the_type R Z ghosts)) (p, (a, tt)) (w ∷ [])) (vptr b o ∷ [], (heap_val ∷ [], tt))
    $ fjoin ! $
    use0 𝓛 (raw (fact 𝓤 (v.kept ≡ Some x))) (fact_i 𝓤 (v.kept ≡ Some x) (emp 𝓤) same) $ nothing ! $ nothing ! $ fjoin ! $ nothing ! $ fjoin
    ! $
    returns ! (look_at ! 0 refl) $ free_all ! refl $ keep ! (3 ∷ 0 ∷ 2 ∷ 1 ∷ []) $ by !
    (leaves 𝓛 ended hs c z w (record { at = p; alloc = a; value = x }) (tt, (tt, tt)) (tt, (tt, tt))))))))))))
