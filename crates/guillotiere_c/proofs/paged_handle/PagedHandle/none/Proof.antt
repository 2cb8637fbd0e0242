-- `none` makes a handle that owns nothing.
use Rattle.std.proofs.Common.{◌≡◌, Option, None, List, [], ◌∷◌, refl, lit<}
use mir.Syntax.{w64}
use mir.Val.{Val, vint, vstruct, vcons, vnil}
use base.Logic.{SProp, emp}
use base.Fml.{ftrue}
use types.Kit.{‵, raw, ◌⊛◌, ◌$◌, ◌∵◌, !, qed, by, keep, split, fjoin, fpack, use0, feq_i}
use types.Run.{lit, no_more, and_then, returns, enter}
use types.ByLocal.{alloc_all, pass_all, free_all, look_at, sets}
use types.Part.{agg}
use contract.Running.{tables}
use contract.Monad.{fact, fact_i}
use Rattle.atlas_pages.specs.Paged.{PagedState}
use denote.RattleType.{Valss, owns}
use denote.Signature.{types_at}
use denote.RawPtr.{Ptr, null_ptr}
use denote.Steps.{nothing}
use denote.Builtin.{RawPtr}
use denote.Struct.Struct.{within}
use denote.Struct.Owning.{shape}
use denote.Triple.Entry.{alive}
use denote.Triple.Walked.{Stays, walk_of}
use Rattle.std.proofs.raw_atomic.Walks.{proved_at, leaves}
use Rattle.guillotiere_c.specs.contracts.paged_handle.PagedHandle as handle
use Rattle.guillotiere_c.specs.contracts.paged_handle.PagedHandle.none.{ended, clauses}
use Rattle.guillotiere_c.specs.contracts.paged_handle.PagedHandle.none.Key.{name as #self}
use Rattle.guillotiere_c.proofs.paged_handle.PagedHandle.none.Statement.{statement}
use Rattle.guillotiere_c.proofs.paged_handle.PagedHandle.none.Code as code

pub none_spec : {M : Type 1} → statement M
none_spec 𝓤 𝓛 𝓜 𝓡 wired =
    let H = 𝓛.H in let 𝓣 = tables 𝓤 H 𝓜 𝓡 𝓡.env in
    let fn = code.function in let c = clauses 𝓛 𝓜.mem 𝓡.returns in let hs : Stays ended.signature.params ended.kept = tt in
    proved_at 𝓛 ended hs c 𝓜 𝓡 tt #self fn (code.unfolded 𝓤 H 𝓜 𝓡 wired) (λ z are.
    let κs = z.0.0 in let qs = z.0.1 in let Post : Val → SProp 𝓤 = (walk_of 𝓛 ended hs c).post z in
    qed 𝓛 ((raw (alive 𝓛 ended.signature κs qs) ⊛ ‵ (owns (types_at ended.signature.params κs) z.0.3 z.0.4)) ∷ ‵ ftrue ∷ []) ∵
    split ! $ keep ! (0 ∷ []) $ enter ! 𝓣.C 𝓣.Λ fn [] Post $ alloc_all ! (λ l. pass_all ! refl tt $
    let empty : Option PagedState = None in let w' : Val = vstruct (vcons (vint w64 0) vnil) in
    sets ! (agg ! (and_then ! (lit ! tt) (no_more !))) refl (tt, (record { fits = lit< tt }, tt)) $
    feq_i ! Ptr null_ptr null_ptr refl $ nothing ! $ feq_i ! (List Val) (vint w64 0 ∷ []) (vint w64 0 ∷ []) refl $ fjoin ! $ feq_i !
    (List Val) (w' ∷ []) (w' ∷ []) refl $ fjoin ! $
    fpack ! (Valss (RawPtr ∷ [])) (within (shape handle.the_type) (null_ptr, tt) (w' ∷ [])) (vint w64 0 ∷ [], tt) $ fjoin ! $
    use0 𝓛 (raw (fact 𝓤 (empty ≡ empty))) (fact_i 𝓤 (empty ≡ empty) (emp 𝓤) refl) $ nothing ! $
    returns ! (look_at ! 0 refl) $ free_all ! refl $ keep ! (3 ∷ 0 ∷ 2 ∷ 1 ∷ []) $ by !
    (leaves 𝓛 ended hs c z w' (record { at = null_ptr; kept = None }) tt tt)))
