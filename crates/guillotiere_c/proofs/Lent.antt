-- What a handle has for a call that only reads is had twice, so that a `&` to it opens for a while. Assumes `Logic`.
use Rattle.std.proofs.Common.{◌≡◌, Option, Some, None, IsSome, T, Bool, List, [], ◌∷◌, refl, sym, subst}
use seplogic.Ra.Ura.{Ura}
use mir.Val.{Val}
use base.Fraction.{full_share}
use base.Logic.{ent, sep}
use base.Fml.{Fml, fsep, feq}
use base.Share
use base.Share.{halves}
use types.Logic.{Logic, sem}
use types.Kit.{‵, ◌⊛◌, ◌$◌, ◌∵◌, !, qed, move, use1, split, fsplit, fjoin, done}
use denote.Laws.{Copy, Is, Tells}
use denote.Copied.{whole-copied}
use denote.Opens.{Opens, Cuts-said}
use denote.Pure.{Pure}
use denote.RattleType.{RattleType, RowLaws}
use denote.RawPtr.{Ptr, null_ptr}
use denote.Shares.{Whole}
use denote.Struct.Lending.{lent_at, lent_at_shr_laws}
use Rattle.guillotiere_c.specs.Keeping.{lends, may_be_tested}

-- a handle holds nothing, or something
pub by_kept : {G : Type 1} {A : Type 0} (k : Option A) → (k ≡ None → G) → ((x : A) → k ≡ Some x → G) → G
by_kept None nothing something = nothing refl
by_kept (Some x) nothing something = something x refl

-- a handle that holds something
pub by_held : {G : Type 1} {A : Type 0} (k : Option A) → IsSome k → ((x : A) → k ≡ Some x → G) → G
by_held None held go = absurd (subst (λ (b : Bool). T b) (sym held) tt)
by_held (Some x) held go = go x refl

module _ {M : Type 1} {𝓤 : Ura M} (𝓛 : Logic 𝓤) where
  abbrev pub IsTwice : Fml → Type 1
  IsTwice P = ent 𝓤 (sem 𝓛 P) (sep 𝓤 (sem 𝓛 P) (sem 𝓛 P))

  said_twice : (P : Fml) → Pure P → IsTwice P
  said_twice P pure = (Cuts-said 𝓛 P pure).cut full_share (Share.left full_share) (Share.right full_share) (halves full_share)

  both_twice : (P Q : Fml) → IsTwice P → IsTwice Q → IsTwice (fsep P Q)
  both_twice P Q p q =
      qed 𝓛 (‵ (fsep P Q) ∷ []) ∵ fsplit ! $ use1 𝓛 (‵ P ⊛ ‵ P) p $ split ! $ move ! (2 ∷ []) $ use1 𝓛 (‵ Q ⊛ ‵ Q) q $ split ! $
      move ! (0 ∷ 2 ∷ []) $ move ! (1 ∷ 0 ∷ []) $ fjoin ! $ move ! (2 ∷ 1 ∷ []) $ fjoin ! $ done !

  module _ (R : RattleType) (laws : RowLaws R) where
    pub lends_twice : (k : Option R.Denot) (p : Ptr) → IsTwice (lends R k p)
    lends_twice None p = said_twice (feq Ptr p null_ptr) tt
    lends_twice (Some v) p = both_twice (may_be_tested p) (lent_at R p v []) (said_twice (may_be_tested p) (λ _. tt))
        ((lent_at_shr_laws R laws p v).contraction M 𝓤 𝓛 [])

    -- a struct that has what a handle lends, beside fields that are plain data
    module _ (V : RattleType) (whole : Whole V) (val : V.Denot → Val) (tells : Tells V (Is V) (λ d. val d ∷ [])) (at : V.Denot → Ptr)
        (kept : V.Denot → Option R.Denot) (fields : V.Denot → List Val → Fml) (plain : (d : V.Denot) (vs : List Val) → Pure (fields d vs))
        (owns : (d : V.Denot) (vs : List Val) → V.own_val d vs ≡ fsep (fields d vs) (lends R (kept d) (at d))) where
      view_twice : Copy 𝓛 V
      view_twice = record {
        twice = λ d vs. subst IsTwice (sym (owns d vs))
            (both_twice (fields d vs) (lends R (kept d) (at d)) (said_twice (fields d vs) (plain d vs)) (lends_twice (kept d) (at d)));
      }

      pub view_opens : Opens 𝓛 V
      view_opens = (whole-copied 𝓛 V whole val tells view_twice).opens
