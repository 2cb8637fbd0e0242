-- What is left where the entries in a box went, and what a cache keeps by it.
use Rattle.std.proofs.Common.{Bool, ℕ, ◌<◌, ◌≡◌, inl, inr, List, [], ◌∷◌, ◌++◌, length, None, Some, Result, Ok, Err, OnErr, refl, sym, ap}
use Rattle.std.proofs.Common.{subst, ◌∙◌, arith, slice_get}
use Rattle.std.proofs.lemmas.{Bool.{cases_Bool}}
use Rattle.std.proofs.lemmas.Option.{slice_get_cases}
use Rattle.guillotiere.specs.Boxes.{Box}
use Rattle.guillotiere.specs.Pages.{HasRoomOn, NoneHasRoomBelow}
use Rattle.guillotiere.specs.declared.Size.{Size}
use Rattle.guillotiere.specs.Stored.{AtlasValue}
use Rattle.atlas_entries.specs.declared.error.CacheError.{CacheError}
use Rattle.atlas_cache.specs.declared.inserted.Inserted.{Inserted}
use Rattle.atlas_entries.proofs.AppendedLists.{append-none}
use Rattle.atlas_cache.proofs.LoopLemmas.{none_left}
use Rattle.atlas_cache.specs.declared.changes.CacheChange.{CacheChange}
use Rattle.atlas_cache.specs.declared.changes.CacheChange.TheVariants.{PageAdded, PageGrown, Evicted, Moved, PageRemoved}
use Rattle.atlas_entries.specs.declared.entries.Entry.{Entry}
use Rattle.atlas_cache.specs.Caches.{entry_for, CacheState, FramesFall}
use Rattle.atlas_cache.specs.Changes.{ClearsBox, Ends, InsertsThere, LooksSame, MakesRoom}
use Rattle.atlas_cache.specs.Reserving.{UseAtMost}
use Rattle.atlas_cache.specs.Vacating.{lies_in, without_inside}
use Rattle.atlas_cache.proofs.ListLemmas.{falls-later}
use Rattle.atlas_cache.proofs.RoomLemmas.PageReserves.{both_used, none_used}

pub on_err : {T E : Type 0} (r : Result T E) (P : Type 0) → P → OnErr r P
on_err (Ok x) P p = tt
on_err (Err e) P p = p

pub page-there : (pages : List AtlasValue) (page : ℕ) → page < length pages
    → (v : AtlasValue) × (slice_get pages page ≡ Some v)
page-there pages page within = elim (slice_get_cases pages page).1 [
  | inl one ↦ (one.0, one.2)
  | inr past ↦ absurd (omega (arith, within, past.0))
]

-- Where there is room on a page, not every page is without it.
pub room-there : (asked : Size) (pages : List AtlasValue) (page : ℕ) → page < length pages → HasRoomOn asked pages page
    → NoneHasRoomBelow asked pages (length pages) → ⊥
room-there asked pages page within room none =
    let there = page-there pages page within in none page there.0 within there.1 (room there.0 there.1)

module _ {K : Type 0} where
  falls-left : (page : ℕ) (box : Box) (f : ℕ) (es : List (Entry K)) → FramesFall f es
      → FramesFall f (without_inside page box es)
  falls-left page box f [] falls = tt
  falls-left page box f (e ∷ es) falls = elim (cases_Bool (lies_in page box e)) [
    | inl inside ↦
        rw inside (falls-later e.frame f (without_inside page box es) falls.0 (falls-left page box e.frame es falls.1))
    | inr outside ↦ rw outside (falls.0, falls-left page box e.frame es falls.1)
  ]

  pub falls-outside : (page : ℕ) (box : Box) (f : ℕ) (xs es : List (Entry K)) → FramesFall f (xs ++ es)
      → FramesFall f (xs ++ without_inside page box es)
  falls-outside page box f [] es falls = falls-left page box f es falls
  falls-outside page box f (x ∷ xs) es falls = (falls.0, falls-outside page box x.frame xs es falls.1)

  pub cleared-slots : (page : ℕ) (box : Box) (cs : List (CacheChange K)) (s t : CacheState K) → ClearsBox page box cs s t
      → UseAtMost 0 s.pages t.pages
  cleared-slots page box [] s t same = subst (λ (u : CacheState K). UseAtMost 0 s.pages u.pages) same (none_used 0 s.pages)
  cleared-slots page box (PageAdded p size ∷ cs) s t clears = absurd clears.1
  cleared-slots page box (PageGrown p size ∷ cs) s t clears = absurd clears.1
  cleared-slots page box (Evicted key place ∷ cs) s t clears =
      both_used 0 0 0 s.pages clears.0.pages t.pages (omega arith) clears.1.goes.slots (cleared-slots page box cs clears.0 t clears.2)
  cleared-slots page box (Moved key from to ∷ cs) s t clears = absurd clears.1
  cleared-slots page box (PageRemoved p ∷ cs) s t clears = absurd clears.1

  pub cleared-reserved : (page : ℕ) (box : Box) (cs : List (CacheChange K)) (s t : CacheState K) → ClearsBox page box cs s t
      → t.reserved ≡ s.reserved
  cleared-reserved page box [] s t same = ap (λ (u : CacheState K). u.reserved) (sym same)
  cleared-reserved page box (PageAdded p size ∷ cs) s t clears = absurd clears.1
  cleared-reserved page box (PageGrown p size ∷ cs) s t clears = absurd clears.1
  cleared-reserved page box (Evicted key place ∷ cs) s t clears =
      cleared-reserved page box cs clears.0 t clears.2 ∙ clears.1.goes.reserved
  cleared-reserved page box (Moved key from to ∷ cs) s t clears = absurd clears.1
  cleared-reserved page box (PageRemoved p ∷ cs) s t clears = absurd clears.1

  pub cleared-absent : (eq : K → K → Bool) (k : K) (page : ℕ) (box : Box) (cs : List (CacheChange K)) (s t : CacheState K)
      → ClearsBox page box cs s t → entry_for eq k s.entries ≡ None → entry_for eq k t.entries ≡ None
  cleared-absent eq k page box [] s t same none =
      subst (λ (u : CacheState K). entry_for eq k u.entries ≡ None) same none
  cleared-absent eq k page box (PageAdded p size ∷ cs) s t clears none = absurd clears.1
  cleared-absent eq k page box (PageGrown p size ∷ cs) s t clears none = absurd clears.1
  cleared-absent eq k page box (Evicted key place ∷ cs) s t clears none =
      let goes = clears.1.goes in
      cleared-absent eq k page box cs clears.0 t clears.2
      (rw goes.is (none_left eq k goes.newer goes.entry goes.older (rw goes.was at none)))
  cleared-absent eq k page box (Moved key from to ∷ cs) s t clears none = absurd clears.1
  cleared-absent eq k page box (PageRemoved p ∷ cs) s t clears none = absurd clears.1

  pub looks_as : (s t : CacheState K) → t ≡ s → LooksSame s t
  looks_as s t same = subst (λ (u : CacheState K). LooksSame s u) (sym same) (record {
    same = λ k i. refl;
    slots = none_used 4 s.pages;
    sizes = refl;
    keeps = record { entries = refl; numbers = refl; reserved = refl; options = refl; frame = refl; counts = refl };
  })

  -- Nothing was done, and then the insert was refused, or nothing could be done.
  pub nothing_there : (asked : Size) (key : K) (size : Size) (result : Result Inserted CacheError)
      (before after : List (CacheChange K)) (s t : CacheState K) → after ≡ before → Ends asked key size result s t
      → InsertsThere asked key size result before after s t
  nothing_there asked key size result before after s t same ends = record {
    more = [];
    listed = same ∙ sym (append-none before);
    done = s;
    vacates = inl (refl, refl);
    ends = ends;
  }

  pub made_there : (asked : Size) (page : ℕ) (key : K) (size : Size) (result : Result Inserted CacheError)
      (before after : List (CacheChange K)) (s t u : CacheState K) → MakesRoom asked page before after s t
      → Ends asked key size result t u
      → InsertsThere asked key size result before after s u
  made_there asked page key size result before after s t u makes ends =
      record { more = makes.made; listed = makes.listed; done = t; vacates = inr makes.vacates; ends = ends }
