-- Entries that go one by one from the end of the order.
use Rattle.std.proofs.Common.{ℕ, ◌+◌, ◌<◌, ◌≤◌, ◌≡◌, min, Bool, cond, List, [], ◌∷◌, ◌++◌, None, refl, sym, ap, ◌∙◌, arith, length}
use Rattle.std.proofs.Common.{append_assoc}
use Rattle.std.specs.List.{AllByRecursion}
use Rattle.std.specs.Cmp.{IsEquivalence}
use Rattle.guillotiere.specs.Pages.{page_sizes}
use Rattle.atlas_cache.specs.declared.changes.CacheChange.{CacheChange}
use Rattle.atlas_cache.specs.declared.changes.CacheChange.TheVariants.{Evicted}
use Rattle.atlas_entries.specs.declared.entries.Entry.{Entry}
use Rattle.atlas_cache.specs.declared.options.CacheOptions.{CacheOptions}
use Rattle.atlas_cache.specs.Caches.{CacheState, shown, FramesFall, HaveOwnKeys}
use Rattle.atlas_cache.specs.Changes.{Picture, all_changed, changed, picture_of, ShowsSame}
use Rattle.atlas_cache.specs.Clearing.{all_evicted, DropsLast, IsUnusedFor, IsUsedSince, TellsChanges}
use Rattle.atlas_cache.specs.Reserving.{UseAtMost}
use Rattle.atlas_cache.proofs.KeyLemmas.{own_without}
use Rattle.atlas_entries.proofs.AppendedLists.{append-none}
use Rattle.atlas_cache.proofs.ListLemmas.{falls-last}
use Rattle.atlas_cache.proofs.PictureLemmas.{same_both, same_shown, taken}
use Rattle.atlas_cache.proofs.RoomLemmas.PageReserves.{both_used, none_used}

module _ {K : Type 0} where
  -- Where the last was used since, all were.
  pub used-all : (f now frames : ℕ) (xs : List (Entry K)) (e : Entry K) → FramesFall f (xs ++ e ∷ [])
      → now < e.frame + frames
      → AllByRecursion (IsUsedSince frames now) (xs ++ e ∷ [])
  used-all f now frames [] e h since = (since, tt)
  used-all f now frames (x ∷ xs) e h since =
      let least = falls-last x.frame xs e h.1 in
      (omega (arith, least, since), used-all x.frame now frames xs e h.1 since)

  -- What went so far.
  pub record Dropped (eq : K → K → Bool) (frames : ℕ) (before now : List (CacheChange K)) (s t : CacheState K) : Type 0 where
    pub gone : List (Entry K)
    pub was : s.entries ≡ t.entries ++ gone
    pub unused : AllByRecursion (IsUnusedFor frames s.frame) gone
    pub listed : now ≡ before ++ all_evicted s.options.padding gone
    pub numbers : t.numbers ≡ s.numbers
    pub reserved : t.reserved ≡ s.reserved
    pub sizes : page_sizes t.pages ≡ page_sizes s.pages
    pub slots : UseAtMost 0 s.pages t.pages
    pub options : t.options ≡ s.options
    pub frame : t.frame ≡ s.frame
    pub counts : t.counts ≡ record s.counts { evictions = min (s.counts.evictions + length gone) 18446744073709551615 }
    pub own : HaveOwnKeys eq t.entries
    pub shows : ShowsSame (all_changed eq (all_evicted s.options.padding gone) (picture_of eq s)) (picture_of eq t)

  module _ (eq : K → K → Bool) where
    pub changed-last : (cs : List (CacheChange K)) (c : CacheChange K) (p : Picture K)
        → all_changed eq (cs ++ c ∷ []) p ≡ changed eq c (all_changed eq cs p)
    changed-last [] c p = refl
    changed-last (d ∷ cs) c p = changed-last cs c (changed eq d p)

    pub none-dropped : (frames : ℕ) (before : List (CacheChange K)) (s : CacheState K) → HaveOwnKeys eq s.entries
        → s.counts.evictions ≤ 18446744073709551615 → Dropped eq frames before before s s
    none-dropped frames before s own fits = record {
      gone = [];
      was = sym (append-none s.entries);
      unused = tt;
      listed = sym (append-none before);
      numbers = refl;
      reserved = refl;
      sizes = refl;
      slots = none_used 0 s.pages;
      options = refl;
      frame = refl;
      counts = let same : min (s.counts.evictions + 0) 18446744073709551615 ≡ s.counts.evictions = omega arith in rw same refl;
      own = own;
      shows = same_shown eq s;
    }

    module _ (laws : IsEquivalence eq) where
      pub one-dropped : (frames : ℕ) (before now new : List (CacheChange K)) (s t u : CacheState K)
          → Dropped eq frames before now s t → DropsLast frames now new t u → Dropped eq frames before new s u
      one-dropped frames before now new s t u h one =
          let e = one.entry in
          let c : CacheChange K = Evicted e.key (shown s.options.padding e) in
          let so_far = all_evicted s.options.padding h.gone in
          let step : ShowsSame (changed eq c (all_changed eq so_far (picture_of eq s))) (picture_of eq u) =
          same_both eq _ (changed eq c (picture_of eq t)) _ (record
          { places = λ k. ap (λ o. cond (eq e.key k) None o) (h.shows.places k); pages = h.shows.pages }) (record {
            places = λ k. taken eq laws t u u.entries e [] h.own one.last (sym (append-none u.entries)) one.options k;
            pages = sym one.sizes;
          }) in
          record {
            gone = e ∷ h.gone;
            was = h.was ∙ ap (λ xs. xs ++ h.gone) one.last ∙ append_assoc u.entries (e ∷ []) h.gone;
            unused = (rw (← h.frame) one.unused, h.unused);
            listed = one.listed
                ∙ ap (λ xs. xs ++ Evicted e.key (shown t.options.padding e) ∷ []) h.listed
                ∙ append_assoc before so_far (Evicted e.key (shown t.options.padding e) ∷ [])
                ∙ ap (λ (o : CacheOptions). before ++ (so_far ++ Evicted e.key (shown o.padding e) ∷ [])) h.options;
            numbers = one.numbers ∙ h.numbers;
            reserved = one.reserved ∙ h.reserved;
            sizes = one.sizes ∙ h.sizes;
            slots = both_used 0 0 0 s.pages t.pages u.pages (omega arith) h.slots one.slots;
            options = one.options ∙ h.options;
            frame = one.frame ∙ h.frame;
            counts = rw (one.counts, h.counts) (ap (λ n. record s.counts { evictions = n }) (omega arith));
            own = let rest = sym (append-none u.entries) in rw rest (own_without eq u.entries e [] (rw one.last at h.own));
            shows = rw (changed-last so_far c (picture_of eq s)) step;
          }

    pub none-told : (before : List (CacheChange K)) (s : CacheState K) → TellsChanges eq before before s s
    none-told before s = record { made = []; listed = sym (append-none before); shows = same_shown eq s }
