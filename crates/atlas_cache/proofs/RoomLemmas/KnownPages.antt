-- What is known of pages: sizes that they have no room for, and the area of what is live on each.
use Rattle.std.proofs.Common.{◌≡◌, ◌<◌, ◌∙◌, ◌++◌, ◌∷◌, [], ℕ, zero, suc, List, Some, length, map, min, pos, take, slice_get, slice_set}
use Rattle.std.proofs.Common.{ap, get_or, sum_by, sym, subst, inl, inr, arith, length-append}
use Rattle.std.proofs.lemmas.Bool.Decides.{eqb_tells}
use Rattle.std.proofs.lemmas.List.{length-set}
use Rattle.std.proofs.lemmas.Option.{slice_get-get_or, slice_get-map, slice_get_cases}
use Rattle.guillotiere.specs.declared.Size.{Size}
use Rattle.guillotiere.specs.Boxes.{area, Fits, IsPositive}
use Rattle.guillotiere.specs.Choice.{HasRoom}
use Rattle.guillotiere.specs.Pages.{HasRoomFor}
use Rattle.guillotiere.specs.Pixels.{sides_of}
use Rattle.guillotiere.specs.States.{free_in, live_in, State}
use Rattle.guillotiere.specs.Stored.{AtlasValue, state_of}
use Rattle.guillotiere.specs.Trees.{Grant}
use Rattle.guillotiere.proofs.ChoiceLemmas.RoundedSides.{rounded_monotone}
use Rattle.guillotiere.proofs.ListLemmas.CallerLemmas.{slice_get-set_here, slice_get-set_other}
use Rattle.atlas_cache.specs.declared.rooms.asking.Known.{Known}
use Rattle.atlas_cache.specs.Repacking.{live_by_page}
use Rattle.atlas_cache.specs.Rooms.{live_area, AreKnown, IsKnown}
use Rattle.atlas_cache.proofs.RoomLemmas.PageReserves.{as_long, was_there}

-- A size with no pixel has room nowhere.
abbrev pub no_size : Size
no_size = record { width = pos 0; height = pos 0 }

-- A size has none where a smaller one has none.
pub larger_has_none : (refused asked : Size) (s : AtlasValue) → IsPositive (sides_of refused)
    → Fits (sides_of refused) (sides_of asked) → (HasRoomFor refused s → ⊥) → HasRoomFor asked s → ⊥
larger_has_none refused asked s positive fits none room =
    let less = rounded_monotone (state_of s).options (sides_of refused) (sides_of asked) fits in
    let fit = room.fitting.fits in
    none (record {
      positive = positive;
      box = room.box;
      fitting = record {
        is_free = room.fitting.is_free;
        fits = (omega (arith, less.0, fit.0), omega (arith, less.1, fit.1));
      };
    })

-- One page becomes another.
pub known_set : (pages : List AtlasValue) (known : List Known) (page : ℕ) (b : AtlasValue) (now : Known)
    → page < length pages → IsKnown now b → AreKnown pages known
    → AreKnown (slice_set pages page b) (slice_set known page now)
known_set pages known page b now within is_known was = record {
  as_many = length-set known page now ∙ was.as_many ∙ sym (length-set pages page b);
  each = λ n s k s_is k_is. elim (eqb_tells n page) [
    | inl here ↦
        let at_s = rw (here.1, slice_get-set_here pages page b within) at s_is in
        let at_k = rw (here.1, slice_get-set_here known page now (omega (arith, within, was.as_many))) at k_is in
        let same : b ≡ s = cc in
        let own : now ≡ k = cc in
        subst (λ t. IsKnown k t) same (subst (λ z. IsKnown z b) own is_known)
    | inr other ↦ was.each n s k (sym (slice_get-set_other pages page n b other.1) ∙ s_is)
        (sym (slice_get-set_other known page n now other.1) ∙ k_is)
  ];
}

-- What is known of a page.
pub known_there : (pages : List AtlasValue) (known : List Known) (page : ℕ) (a : AtlasValue) (k : Known) → page < length pages
    → a ≡ get_or pages page a → k ≡ get_or known page k → AreKnown pages known → IsKnown k a
known_there pages known page a k within is_a is_k was =
    was.each page a k (slice_get-get_or pages page a within ∙ ap Some (sym is_a))
    (slice_get-get_or known page k (omega (arith, within, was.as_many)) ∙ ap Some (sym is_k))

pub live_told : (pages : List AtlasValue) (known : List Known) (page : ℕ) (k : Known) → page < length pages
    → k ≡ get_or known page k → AreKnown pages known → slice_get (live_by_page pages) page ≡ Some k.live
live_told pages known page k within is_k was = elim (slice_get_cases pages page).1 [
  | inl one ↦
      let at_k = slice_get-get_or known page k (omega (arith, within, was.as_many)) ∙ ap Some (sym is_k) in
      rw (slice_get-map live_area pages page, one.2) (ap Some (sym (was.each page one.0 k one.2 at_k).live))
  | inr past ↦ absurd (omega (arith, past.0, within))
]

-- A page comes last.
joined_each : (pages : List AtlasValue) (known : List Known) (b : AtlasValue) (now : Known) → IsKnown now b
    → length known ≡ length pages
    → ((n : ℕ) (s : AtlasValue) (k : Known) → slice_get pages n ≡ Some s → slice_get known n ≡ Some k → IsKnown k s)
    → (n : ℕ) (s : AtlasValue) (k : Known) → slice_get (pages ++ b ∷ []) n ≡ Some s
    → slice_get (known ++ now ∷ []) n ≡ Some k → IsKnown k s
joined_each [] [] b now is_known long each zero s k s_is k_is =
    let same : b ≡ s = cc in
    let own : now ≡ k = cc in
    subst (λ t. IsKnown k t) same (subst (λ z. IsKnown z b) own is_known)
joined_each [] [] b now is_known long each (suc n) s k s_is k_is = absurd cc
joined_each [] (r ∷ known) b now is_known long each n s k s_is k_is = absurd (omega (arith, long))
joined_each (p ∷ pages) [] b now is_known long each n s k s_is k_is = absurd (omega (arith, long))
joined_each (p ∷ pages) (r ∷ known) b now is_known long each zero s k s_is k_is = each zero s k s_is k_is
joined_each (p ∷ pages) (r ∷ known) b now is_known long each (suc n) s k s_is k_is =
    joined_each pages known b now is_known (omega (arith, long)) (λ j t z. each (suc j) t z) n s k s_is k_is

pub known_joined : (pages : List AtlasValue) (known : List Known) (b : AtlasValue) (now : Known) → IsKnown now b
    → AreKnown pages known → AreKnown (pages ++ b ∷ []) (known ++ now ∷ [])
known_joined pages known b now is_known was = record {
  as_many = omega (arith, was.as_many, length-append pages (b ∷ []), length-append known (now ∷ []));
  each = joined_each pages known b now is_known was.as_many was.each;
}

module _ {X : Type 0} where
  of_taken : (n : ℕ) (xs : List X) (k : ℕ) (x : X) → slice_get (take n xs) k ≡ Some x → slice_get xs k ≡ Some x
  of_taken zero xs k x is = cc
  of_taken (suc n) [] k x is = cc
  of_taken (suc n) (y ∷ xs) zero x is = is
  of_taken (suc n) (y ∷ xs) (suc k) x is = of_taken n xs k x is

  taken_length : (n : ℕ) (xs : List X) → length (take n xs) ≡ min n (length xs)
  taken_length zero xs = omega arith
  taken_length (suc n) [] = omega arith
  taken_length (suc n) (y ∷ xs) = omega (arith, taken_length n xs)

-- The last pages go.
pub known_taken : (n : ℕ) (pages : List AtlasValue) (known : List Known) → AreKnown pages known
    → AreKnown (take n pages) (take n known)
known_taken n pages known was = record {
  as_many = omega (arith, was.as_many, taken_length n pages, taken_length n known);
  each = λ m s k s_is k_is. was.each m s k (of_taken n pages m s s_is) (of_taken n known m k k_is);
}

-- Pages that represent what they did.
pub known_same : (old new : List AtlasValue) (known : List Known) → map state_of new ≡ map state_of old
    → AreKnown old known → AreKnown new known
known_same old new known same was = record {
  as_many = omega (arith, was.as_many, as_long old new same);
  each = λ n s k s_is k_is.
      let had = was_there old new same n s s_is in
      let is = was.each n had.0 k had.1 k_is in
      record {
        first = λ room. is.first (subst (λ (u : State). HasRoom (free_in u) u.options (sides_of k.first)) had.2 room);
        second = λ room. is.second (subst (λ (u : State). HasRoom (free_in u) u.options (sides_of k.second)) had.2 room);
        live = is.live ∙ ap (λ (u : State). sum_by (λ (g : Grant). area g.box) (live_in u)) (sym had.2);
      };
}
