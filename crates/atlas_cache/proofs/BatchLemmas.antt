-- Entries that go one by one from the front of the order.
use Rattle.std.proofs.Common.{ℕ, ℤ, ◌+◌, ◌≤◌, ◌≡◌, min, Bool, cond, List, [], ◌∷◌, ◌++◌, None, Some, refl, sym, ap, ◌∙◌, arith, length}
use Rattle.std.proofs.Common.{append_assoc}
use Rattle.std.specs.Cmp.{IsEquivalence}
use Rattle.guillotiere.specs.Pages.{page_sizes}
use Rattle.atlas_cache.specs.declared.changes.CacheChange.{CacheChange}
use Rattle.atlas_cache.specs.declared.changes.CacheChange.TheVariants.{Evicted}
use Rattle.atlas_cache.specs.declared.options.CacheOptions.{CacheOptions}
use Rattle.atlas_entries.specs.declared.entries.Entry.{Entry}
use Rattle.atlas_cache.specs.Batches.{each_evicted, DropsFirst, EndsBatch}
use Rattle.atlas_cache.specs.Caches.{CacheState, shown, HaveOwnKeys}
use Rattle.atlas_cache.specs.Changes.{all_changed, changed, picture_of, ShowsSame}
use Rattle.atlas_cache.specs.Clearing.{TellsChanges}
use Rattle.atlas_cache.specs.Reserving.{UseAtMost, KeepsReady}
use Rattle.atlas_cache.specs.Walking.{first_entry}
use Rattle.atlas_entries.proofs.AppendedLists.{append-none}
use Rattle.atlas_cache.proofs.BlankLemmas.{length-less}
use Rattle.atlas_cache.proofs.PictureLemmas.{same_both, same_shown, taken}
use Rattle.atlas_cache.proofs.ReadyLemmas.{full_stays, still_ready}
use Rattle.atlas_cache.proofs.RoomLemmas.PageReserves.{both_used, none_used}
use Rattle.atlas_cache.proofs.TrimLemmas.{changed-last}

module _ {K : Type 0} where
  -- What went so far.
  pub record Used (eq : K → K → Bool) (count : ℕ) (before now : List (CacheChange K)) (s t : CacheState K) : Type 0 where
    pub gone : List (Entry K)
    pub was : s.entries ≡ gone ++ t.entries
    pub many : length gone ≡ count
    pub listed : now ≡ before ++ each_evicted s.options.padding gone
    pub numbers : t.numbers ≡ s.numbers
    pub reserved : t.reserved ≡ s.reserved
    pub sizes : page_sizes t.pages ≡ page_sizes s.pages
    pub slots : UseAtMost 0 s.pages t.pages
    pub options : t.options ≡ s.options
    pub frame : t.frame ≡ s.frame
    pub counts : t.counts ≡ record s.counts { evictions = min (s.counts.evictions + length gone) 18446744073709551615 }
    pub own : HaveOwnKeys eq t.entries
    pub shows : ShowsSame (all_changed eq (each_evicted s.options.padding gone) (picture_of eq s)) (picture_of eq t)

  each-last : (padding : ℤ) (es : List (Entry K)) (e : Entry K)
      → each_evicted padding (es ++ e ∷ []) ≡ each_evicted padding es ++ Evicted e.key (shown padding e) ∷ []
  each-last padding [] e = refl
  each-last padding (f ∷ es) e = ap (λ cs. Evicted f.key (shown padding f) ∷ cs) (each-last padding es e)

  pub first-none-all : (es : List (Entry K)) → first_entry es ≡ None → es ≡ []
  first-none-all [] is = refl
  first-none-all (e ∷ es) is = absurd (let some : Some e ≡ None = is in cc)

  longer : (es : List (Entry K)) (e : Entry K) → length (es ++ e ∷ []) ≡ length es + 1
  longer es e = let less = length-less es e [] in let same = ap length (append-none es) in omega (arith, less, same)

  all-gone : (xs ys : List (Entry K)) → length (xs ++ ys) ≡ length xs + length ys
  all-gone [] ys = omega arith
  all-gone (x ∷ xs) ys = omega (arith, all-gone xs ys)

  module _ (eq : K → K → Bool) where
    pub none-used : (before : List (CacheChange K)) (s : CacheState K) → HaveOwnKeys eq s.entries
        → s.counts.evictions ≤ 18446744073709551615
        → Used eq 0 before before s s
    none-used before s own fits = record {
      gone = [];
      was = refl;
      many = refl;
      listed = sym (append-none before);
      numbers = refl;
      reserved = refl;
      sizes = refl;
      slots = none_used 0 s.pages;
      options = refl;
      frame = refl;
      counts = let same : min (s.counts.evictions + 0) 18446744073709551615 ≡ s.counts.evictions = omega arith in rw same refl;
      own = own;
      shows = same_shown eq s;
    }

    module _ (laws : IsEquivalence eq) where
      pub one-used : (count : ℕ) (before now new : List (CacheChange K)) (s t u : CacheState K)
          → Used eq count before now s t → DropsFirst now new t u → Used eq (count + 1) before new s u
      one-used count before now new s t u h one =
          let e = one.entry in
          let c : CacheChange K = Evicted e.key (shown s.options.padding e) in
          let so_far = each_evicted s.options.padding h.gone in
          let step : ShowsSame (changed eq c (all_changed eq so_far (picture_of eq s))) (picture_of eq u) =
          same_both eq _ (changed eq c (picture_of eq t)) _ (record
          { places = λ k. ap (λ o. cond (eq e.key k) None o) (h.shows.places k); pages = h.shows.pages }) (record {
            places = λ k. taken eq laws t u [] e u.entries h.own one.first refl one.options k;
            pages = sym one.sizes;
          }) in
          record {
            gone = h.gone ++ e ∷ [];
            was = h.was ∙ ap (λ xs. h.gone ++ xs) one.first ∙ sym (append_assoc h.gone (e ∷ []) u.entries);
            many = omega (arith, h.many, longer h.gone e);
            listed = one.listed
                ∙ ap (λ xs. xs ++ Evicted e.key (shown t.options.padding e) ∷ []) h.listed
                ∙ append_assoc before so_far (Evicted e.key (shown t.options.padding e) ∷ [])
                ∙ ap (λ (o : CacheOptions). before ++ (so_far ++ Evicted e.key (shown o.padding e) ∷ [])) h.options
                ∙ ap (λ xs. before ++ xs) (sym (each-last s.options.padding h.gone e));
            numbers = one.numbers ∙ h.numbers;
            reserved = one.reserved ∙ h.reserved;
            sizes = one.sizes ∙ h.sizes;
            slots = both_used 0 0 0 s.pages t.pages u.pages (omega arith) h.slots one.slots;
            options = one.options ∙ h.options;
            frame = one.frame ∙ h.frame;
            counts = let more = longer h.gone e in rw (one.counts, h.counts, more)
                (ap (λ n. record s.counts { evictions = n }) (omega arith));
            own = let rest = rw one.first at h.own in rest.1;
            shows = rw (each-last s.options.padding h.gone e, changed-last eq so_far c (picture_of eq s)) step;
          }

    -- So many went, or all.
    pub batch-ended : (keys count : ℕ) (before after : List (CacheChange K)) (s t : CacheState K)
        → Used eq count before after s t
        → count ≡ min keys (length s.entries) → EndsBatch keys before after s t
    batch-ended keys count before after s t h is = record {
      gone = h.gone;
      was = h.was;
      many = h.many ∙ is;
      listed = h.listed;
      numbers = h.numbers;
      reserved = h.reserved;
      sizes = h.sizes;
      slots = h.slots;
      options = h.options;
      frame = h.frame;
      counts = h.counts;
    }

    pub used-count : (count : ℕ) (before now : List (CacheChange K)) (s t : CacheState K) → Used eq count before now s t
        → length s.entries ≡ count + length t.entries
    used-count count before now s t h =
        let all = ap length h.was in
        omega (arith, all, all-gone h.gone t.entries, h.many)

    pub batch-told : (count : ℕ) (before after : List (CacheChange K)) (s t : CacheState K)
        → Used eq count before after s t
        → TellsChanges eq before after s t
    batch-told count before after s t h =
        record { made = each_evicted s.options.padding h.gone; listed = h.listed; shows = h.shows }

  -- What goes takes nothing of what is ready.
  pub batch_ready : (keys : ℕ) (before after : List (CacheChange K)) (s t : CacheState K) → EndsBatch keys before after s t
      → KeepsReady s t
  batch_ready keys before after s t ends =
      still_ready s t ends.slots (omega (arith, ends.reserved))
      (omega (arith, ap length ends.was, all-gone ends.gone t.entries)) (full_stays s t ends.options ends.sizes)
