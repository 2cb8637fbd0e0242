-- What a caller knows who follows the changes of a repacking.
use Rattle.std.proofs.Common.{ℕ, ℤ, ◌≡◌, inl, inr, Bool, true, false, cond, List, [], ◌∷◌, Option, None, Some, option_map, refl, sym, ap}
use Rattle.std.proofs.Common.{◌∙◌}
use Rattle.std.proofs.lemmas.{Bool.Decides.{eqb_tells}}
use Rattle.std.proofs.lemmas.Bool.{cases_Bool}
use Rattle.std.specs.Cmp.{IsEquivalence}
use Rattle.std.specs.List.{cons_option, filter_map, AllByRecursion}
use Rattle.atlas_cache.specs.declared.changes.CacheChange.{CacheChange}
use Rattle.atlas_cache.specs.declared.changes.CacheChange.TheVariants.{Evicted, Moved}
use Rattle.atlas_entries.specs.declared.entries.Entry.{Entry}
use Rattle.atlas_cache.specs.Caches.{CacheState, entry_for, shown, HaveOwnKeys}
use Rattle.atlas_cache.specs.Changes.{Picture, all_changed, changed, picture_of}
use Rattle.atlas_cache.specs.Clearing.{TellsChanges}
use Rattle.atlas_cache.specs.Relocating.{become, told_as, told_of, Repacks}

module _ {K : Type 0} (eq : K → K → Bool) (laws : IsEquivalence eq) (padding : ℤ) (page : ℕ) (renewed : Entry K → Option (Entry K))
    (named : (e f : Entry K) → renewed e ≡ Some f → f.key ≡ e.key) where
  abbrev tell : List (Entry K) → List (CacheChange K)
  tell es = filter_map (told_of padding page renewed) es

  abbrev later : List (Entry K) → List (Entry K)
  later es = filter_map (become page renewed) es

  -- No change names a key that none of the entries has.
  untouched : (k : K) (es : List (Entry K)) → AllByRecursion (λ f. eq f.key k ≡ false) es → (p : Picture K)
      → (all_changed eq (tell es) p).places k ≡ p.places k
  untouched k [] h p = refl
  untouched k (e ∷ es) h p = elim (eqb_tells e.page page) [
    | inl here ↦ rw here.0 (by_option (λ q. untouched k es h.1 q) (renewed e))
    | inr other ↦ rw other.0 (untouched k es h.1 p)
  ]
    where
      by_option : ((q : Picture K) → (all_changed eq (tell es) q).places k ≡ q.places k) → (o : Option (Entry K))
          → (all_changed eq (told_as padding e o ∷ tell es) p).places k ≡ p.places k
      by_option rest None = rest (changed eq (Evicted e.key (shown padding e)) p) ∙ ap (λ b. cond b None (p.places k)) h.0
      by_option rest (Some f) =
          rest (changed eq (Moved e.key (shown padding e) (shown padding f)) p)
          ∙ ap (λ b. cond b (Some (shown padding f)) (p.places k)) h.0

  absent : (k : K) (es : List (Entry K)) → AllByRecursion (λ f. eq f.key k ≡ false) es
      → entry_for eq k (later es) ≡ None
  absent k [] h = refl
  absent k (e ∷ es) h = elim (eqb_tells e.page page) [
    | inl here ↦ rw here.0 (by_option (renewed e) refl (absent k es h.1))
    | inr other ↦ let off = laws.symm k e.key ∙ h.0 in rw (other.0, off) (absent k es h.1)
  ]
    where
      by_option : (o : Option (Entry K)) → renewed e ≡ o → entry_for eq k (later es) ≡ None
          → entry_for eq k (cons_option o (later es)) ≡ None
      by_option None is rest = rest
      by_option (Some f) is rest =
          let off = ap (λ q. eq k q) (named e f is) ∙ (laws.symm k e.key ∙ h.0) in rw off rest

  others : (e : Entry K) (k : K) → eq e.key k ≡ true → (es : List (Entry K))
      → AllByRecursion (λ f. eq e.key f.key ≡ false) es
      → AllByRecursion (λ f. eq f.key k ≡ false) es
  others e k hit [] h = tt
  others e k hit (f ∷ es) h =
      (laws.symm f.key k ∙ (sym (laws.congr e.key k f.key hit) ∙ h.0), others e k hit es h.1)

  place_kept : (k : K) (es : List (Entry K)) → HaveOwnKeys eq es → (p : Picture K)
      → p.places k ≡ option_map (shown padding) (entry_for eq k es)
      → (all_changed eq (tell es) p).places k ≡ option_map (shown padding) (entry_for eq k (later es))
  place_kept k [] own p is = is
  place_kept k (e ∷ es) own p is = elim (cases_Bool (eq e.key k)) [
    | inl hit ↦
        let found = laws.symm k e.key ∙ hit in
        let rest = others e k hit es own.0 in
        elim (eqb_tells e.page page) [
          | inl here ↦ rw here.0 (hit_here (renewed e) refl hit)
          | inr other ↦ let was = rw found at is in rw (other.0, found) (untouched k es rest p ∙ was)
        ]
    | inr miss ↦
        let off = laws.symm k e.key ∙ miss in
        let was = rw off at is in
        elim (eqb_tells e.page page) [
          | inl here ↦ rw here.0 (missed (λ q known. place_kept k es own.1 q known) (renewed e) refl miss was)
          | inr other ↦ rw (other.0, off) (place_kept k es own.1 p was)
        ]
  ]
    where
      hit_here : (o : Option (Entry K)) → renewed e ≡ o → eq e.key k ≡ true
          → (all_changed eq (told_as padding e o ∷ tell es) p).places k ≡ option_map (shown padding)
          (entry_for eq k (cons_option o (later es)))
      hit_here None is_o hit =
          let rest = others e k hit es own.0 in
          untouched k es rest (changed eq (Evicted e.key (shown padding e)) p)
          ∙ ap (λ b. cond b None (p.places k)) hit
          ∙ ap (option_map (shown padding)) (sym (absent k es rest))
      hit_here (Some f) is_o hit =
          let rest = others e k hit es own.0 in
          let found = ap (λ q. eq k q) (named e f is_o) ∙ (laws.symm k e.key ∙ hit) in
          rw found
          (untouched k es rest (changed eq (Moved e.key (shown padding e) (shown padding f)) p)
          ∙ ap (λ b. cond b (Some (shown padding f)) (p.places k)) hit)

      missed : ((q : Picture K) → q.places k ≡ option_map (shown padding) (entry_for eq k es)
          → (all_changed eq (tell es) q).places k ≡ option_map (shown padding) (entry_for eq k (later es)))
          → (o : Option (Entry K)) → renewed e ≡ o → eq e.key k ≡ false
          → p.places k ≡ option_map (shown padding) (entry_for eq k es)
          → (all_changed eq (told_as padding e o ∷ tell es) p).places k ≡ option_map (shown padding)
          (entry_for eq k (cons_option o (later es)))
      missed rest None is_o miss was =
          rest (changed eq (Evicted e.key (shown padding e)) p) (ap (λ b. cond b None (p.places k)) miss ∙ was)
      missed rest (Some f) is_o miss was =
          let off = ap (λ q. eq k q) (named e f is_o) ∙ (laws.symm k e.key ∙ miss) in
          rw off
          (rest (changed eq (Moved e.key (shown padding e) (shown padding f)) p)
          (ap (λ b. cond b (Some (shown padding f)) (p.places k)) miss ∙ was))

  pages_kept : (es : List (Entry K)) (p : Picture K) → (all_changed eq (tell es) p).pages ≡ p.pages
  pages_kept [] p = refl
  pages_kept (e ∷ es) p = elim (eqb_tells e.page page) [
    | inl here ↦ rw here.0 (by_option (λ q. pages_kept es q) (renewed e))
    | inr other ↦ rw other.0 (pages_kept es p)
  ]
    where
      by_option : ((q : Picture K) → (all_changed eq (tell es) q).pages ≡ q.pages) → (o : Option (Entry K))
          → (all_changed eq (told_as padding e o ∷ tell es) p).pages ≡ p.pages
      by_option rest None = rest (changed eq (Evicted e.key (shown padding e)) p)
      by_option rest (Some f) = rest (changed eq (Moved e.key (shown padding e) (shown padding f)) p)

pub repacks_tell : {K : Type 0} (eq : K → K → Bool) → IsEquivalence eq
    → (page : ℕ) (before after : List (CacheChange K)) (s t : CacheState K)
    → HaveOwnKeys eq s.entries → Repacks page before after s t → TellsChanges eq before after s t
repacks_tell eq laws page before after s t own h =
    let named = λ (e f : Entry _) (is : h.renewed e ≡ Some f). ap (λ (x : Entry _). x.key) (h.same e f is) in
    record {
      made = filter_map (told_of s.options.padding page h.renewed) s.entries;
      listed = h.listed;
      shows = record {
        places = λ k.
            place_kept eq laws s.options.padding page h.renewed named k s.entries own (picture_of eq s) refl
            ∙ rw (h.options, h.entries) refl;
        pages = pages_kept eq laws s.options.padding page h.renewed named s.entries (picture_of eq s) ∙ sym h.sizes;
      };
    }
