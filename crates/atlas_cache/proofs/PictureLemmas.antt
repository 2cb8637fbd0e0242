-- What a caller makes of changes.
use Rattle.guillotiere.specs.Boxes.{Box}
use Rattle.guillotiere.specs.Pages.{page_sizes}
use Rattle.std.proofs.Common.{ℕ, ◌≡◌, Bool, true, false, cond, List, [], ◌∷◌, ◌++◌, Option, None, Some, Result, Ok, Err, option_map, refl}
use Rattle.std.proofs.Common.{sym, ap, subst, ◌∙◌, slice_set, take}
use Rattle.std.proofs.Common.{inl, inr}
use Rattle.std.proofs.lemmas.Bool.{cases_Bool}
use Rattle.std.specs.Cmp.{IsEquivalence}
use Rattle.guillotiere.specs.declared.Size.{Size}
use Rattle.atlas_cache.specs.declared.changes.CacheChange.{CacheChange}
use Rattle.atlas_cache.specs.declared.changes.CacheChange.TheVariants.{PageAdded, PageGrown, Evicted, Moved, PageRemoved}
use Rattle.atlas_entries.specs.declared.entries.Entry.{Entry}
use Rattle.atlas_entries.specs.declared.error.CacheError.{CacheError}
use Rattle.atlas_cache.specs.declared.inserted.Inserted.{Inserted}
use Rattle.atlas_cache.specs.declared.inserted.Inserted.TheVariants.{Placed, Held, FrameFull, NeverFits}
use Rattle.atlas_cache.specs.declared.places.Place.{Place}
use Rattle.atlas_cache.specs.Caches.{CacheState, entry_for, place_for, shown, HaveOwnKeys}
use Rattle.atlas_cache.specs.Changes.{Picture, all_changed, changed, picture_of, placed, Adds, ClearsBox, Does, Evicts, InsertsUncounted}
use Rattle.atlas_cache.specs.Changes.{InsertsBlank, Leads, LooksSame, MayVacate, Removes, ShowsSame, Uses}
use Rattle.atlas_cache.specs.Telling.{Tells}
use Rattle.atlas_cache.proofs.KeyLemmas.{first, fronted, gone, here, own_without}
use Rattle.atlas_entries.proofs.AppendedLists.{append-none}

map-cond : {X Y : Type 0} (f : X → Y) (b : Bool) (o p : Option X)
    → option_map f (cond b o p) ≡ cond b (option_map f o) (option_map f p)
map-cond f true o p = refl
map-cond f false o p = refl

module _ {K : Type 0} (eq : K → K → Bool) where
  same_after : (c : CacheChange K) (p q : Picture K) → ShowsSame p q → ShowsSame (changed eq c p) (changed eq c q)
  same_after (PageAdded page size) p q same = record { places = same.places; pages = ap (λ ns. ns ++ size ∷ []) same.pages }
  same_after (PageGrown page size) p q same = record { places = same.places; pages = ap (λ ns. slice_set ns page size) same.pages }
  same_after (Evicted key place) p q same = record { places = λ k. ap (λ o. cond (eq key k) None o) (same.places k); pages = same.pages }
  same_after (Moved key from to) p q same = record {
    places = λ k. ap (λ o. cond (eq key k) (Some to) o) (same.places k);
    pages =
        same.pages;
  }
  same_after (PageRemoved page) p q same = record { places = same.places; pages = ap (λ ns. take page ns) same.pages }

  all_same_after : (cs : List (CacheChange K)) (p q : Picture K) → ShowsSame p q
      → ShowsSame (all_changed eq cs p) (all_changed eq cs q)
  all_same_after [] p q same = same
  all_same_after (c ∷ cs) p q same = all_same_after cs (changed eq c p) (changed eq c q) (same_after c p q same)

  pub same_both : (p q r : Picture K) → ShowsSame p q → ShowsSame q r → ShowsSame p r
  same_both p q r one two = record { places = λ k. one.places k ∙ two.places k; pages = one.pages ∙ two.pages }

  pub places_stay : (s t : CacheState K) → t.entries ≡ s.entries → t.options ≡ s.options → (k : K)
      → place_for eq s k ≡ place_for eq t k
  places_stay s t entries options k = rw (entries, options) refl

  module _ (laws : IsEquivalence eq) where
    pub taken : (s t : CacheState K) (xs : List (Entry K)) (e : Entry K) (ys : List (Entry K))
        → HaveOwnKeys eq s.entries
        → s.entries ≡ xs ++ e ∷ ys → t.entries ≡ xs ++ ys → t.options ≡ s.options → (k : K)
        → cond (eq e.key k) None (place_for eq s k) ≡ place_for eq t k
    taken s t xs e ys own was is options k =
        let without = gone eq laws xs e ys (rw was at own) k in
        rw (is, options, was, without) (sym (map-cond (shown s.options.padding) (eq e.key k) None (entry_for eq k (xs ++ e ∷ ys))))

    one_goes : (key : K) (place : Place) (s t : CacheState K) → HaveOwnKeys eq s.entries → Evicts key place s t
        → ShowsSame (changed eq (Evicted key place) (picture_of eq s)) (picture_of eq t) × HaveOwnKeys eq t.entries
    one_goes key place s t own goes = (
      record {
        places = λ k. rw goes.named (taken s t goes.newer goes.entry goes.older own goes.was goes.is goes.options k);
        pages = sym goes.sizes;
      },
      rw goes.is (own_without eq goes.newer goes.entry goes.older (rw goes.was at own)),
    )

    one_step : (c : CacheChange K) (s t : CacheState K) → HaveOwnKeys eq s.entries → Does c s t
        → ShowsSame (changed eq c (picture_of eq s)) (picture_of eq t) × HaveOwnKeys eq t.entries
    one_step (PageAdded page size) s t own does = (
      record { places = places_stay s t does.keeps.entries does.keeps.options; pages = sym does.sizes },
      rw does.keeps.entries own,
    )
    one_step (PageGrown page size) s t own does = (
      record { places = places_stay s t does.keeps.entries does.keeps.options; pages = sym does.sizes },
      rw does.keeps.entries own,
    )
    one_step (Evicted key place) s t own does = one_goes key place s t own does.goes
    one_step (Moved key from to) s t own does = absurd does
    one_step (PageRemoved page) s t own does = absurd does

    -- Changes that lead from one state to another tell a caller all of it.
    pub told : (asked : Size) (cs : List (CacheChange K)) (s t : CacheState K) → HaveOwnKeys eq s.entries
        → Leads asked cs s t
        → ShowsSame (all_changed eq cs (picture_of eq s)) (picture_of eq t) × HaveOwnKeys eq t.entries
    told asked [] s t own same = (
      record {
        places = λ k. ap (λ (u : CacheState K). place_for eq u k) same;
        pages =
            ap (λ (u : CacheState K). (picture_of eq u).pages) same;
      },
      subst (λ (u : CacheState K). HaveOwnKeys eq u.entries) same own,
    )
    told asked (c ∷ cs) s t own leads =
        let next = leads.0 in
        let step = one_step c s next own leads.2 in
        let rest = told asked cs next t step.1 leads.3 in
        (same_both _ _ _ (all_same_after cs _ _ step.0) rest.0, rest.1)

    cleared : (page : ℕ) (box : Box) (cs : List (CacheChange K)) (s t : CacheState K) → HaveOwnKeys eq s.entries
        → ClearsBox page box cs s t
        → ShowsSame (all_changed eq cs (picture_of eq s)) (picture_of eq t)
    cleared page box [] s t own same = record {
      places = λ k. ap (λ (u : CacheState K). place_for eq u k) same;
      pages = ap (λ (u : CacheState K). (picture_of eq u).pages) same;
    }
    cleared page box (PageAdded p size ∷ cs) s t own clears = absurd clears.1
    cleared page box (PageGrown p size ∷ cs) s t own clears = absurd clears.1
    cleared page box (Evicted key place ∷ cs) s t own clears =
        let next = clears.0 in
        let step = one_goes key place s next own clears.1.goes in
        same_both _ _ _ (all_same_after cs _ _ step.0) (cleared page box cs next t step.1 clears.2)
    cleared page box (Moved key from to ∷ cs) s t own clears = absurd clears.1
    cleared page box (PageRemoved p ∷ cs) s t own clears = absurd clears.1

    may_clear : (asked : Size) (cs : List (CacheChange K)) (s t : CacheState K) → HaveOwnKeys eq s.entries
        → MayVacate asked cs s t
        → ShowsSame (all_changed eq cs (picture_of eq s)) (picture_of eq t)
    may_clear asked cs s t own (inl none) = rw none.0 (record {
      places = λ k. ap (λ (u : CacheState K). place_for eq u k) none.1;
      pages = ap (λ (u : CacheState K). (picture_of eq u).pages) none.1;
    })
    may_clear asked cs s t own (inr v) = cleared v.page v.box cs s t own v.clears

    changed-both : (cs ds : List (CacheChange K)) (p : Picture K)
        → all_changed eq (cs ++ ds) p ≡ all_changed eq ds (all_changed eq cs p)
    changed-both [] ds p = refl
    changed-both (c ∷ cs) ds p = changed-both cs ds (changed eq c p)

    all_told : (asked : Size) (made more : List (CacheChange K)) (s mid t : CacheState K) → HaveOwnKeys eq s.entries
        → Leads asked made s mid → MayVacate asked more mid t
        → ShowsSame (all_changed eq (made ++ more) (picture_of eq s)) (picture_of eq t)
    all_told asked made more s mid t own leads vacates =
        let led = told asked made s mid own leads in
        rw (changed-both made more (picture_of eq s))
        (same_both _ _ _ (all_same_after more _ _ led.0) (may_clear asked more mid t led.1 vacates))

    pub added : (asked : Size) (key : K) (size : Size) (place : Place) (s t : CacheState K)
        → Adds asked key size place s t
        → ShowsSame (placed eq key (Some place) (picture_of eq s)) (picture_of eq t)
    added asked key size place s t adds = record {
      places = λ k. rw (adds.first, adds.options, first eq laws adds.entry s.entries k, ← adds.placed.named, adds.shows)
          (sym (map-cond (shown s.options.padding) (eq adds.entry.key k) (Some adds.entry) (entry_for eq k s.entries)));
      pages = sym adds.sizes;
    }

  pub looks : (s t : CacheState K) → LooksSame s t → ShowsSame (picture_of eq s) (picture_of eq t)
  looks s t same = record { places = places_stay s t same.keeps.entries same.keeps.options; pages = sym same.sizes }

  pub same_shown : (s : CacheState K) → ShowsSame (picture_of eq s) (picture_of eq s)
  same_shown s = record { places = λ k. refl; pages = refl }

  module _ (laws : IsEquivalence eq) where
    -- A new key.
    pub inserts_tell : (asked : Size) (key : K) (size : Size) (result : Result Inserted CacheError)
        (before after : List (CacheChange K)) (s t : CacheState K) → HaveOwnKeys eq s.entries
        → InsertsUncounted asked key size result before after s t → Tells eq key result before after s t
    inserts_tell asked key size (Ok (Placed place)) before after s t own ins =
        let so_far = all_told laws asked ins.made ins.more s ins.so_far ins.done own ins.leads ins.vacates in
        let noted = same_after (Moved key place place) _ _ so_far in
        record {
          made = ins.made ++ ins.more;
          listed = ins.listed;
          shows = same_both _ _ _ noted (added laws asked key size place ins.done t ins.ends);
        }
    inserts_tell asked key size (Ok (Held place)) before after s t own ins = absurd ins.ends
    inserts_tell asked key size (Ok NeverFits) before after s t own ins = absurd ins.ends
    inserts_tell asked key size (Ok FrameFull) before after s t own ins =
        let so_far = all_told laws asked ins.made ins.more s ins.so_far ins.done own ins.leads ins.vacates in
        record {
          made = ins.made ++ ins.more;
          listed = ins.listed;
          shows = subst (λ (u : CacheState K). ShowsSame (all_changed eq (ins.made ++ ins.more) (picture_of eq s)) (picture_of eq u))
              ins.ends.0 so_far;
        }
    inserts_tell asked key size (Err error) before after s t own ins =
        let so_far = all_told laws asked ins.made ins.more s ins.so_far ins.done own ins.leads ins.vacates in
        record {
          made = ins.made ++ ins.more;
          listed = ins.listed;
          shows = same_both _ _ _ so_far (looks ins.done t ins.ends);
        }

    -- A new key of an empty size.
    pub blanks_tell : (key : K) (size : Size) (result : Result Inserted CacheError) (before : List (CacheChange K))
        (s t : CacheState K)
        → InsertsBlank key size result s t → Tells eq key result before before s t
    blanks_tell key size (Ok (Placed place)) before s t ins = record {
      made = [];
      listed = sym (append-none before);
      shows = record {
        places = λ k. rw (ins.first, ins.options, first eq laws ins.entry s.entries k, ← ins.named, ins.shows)
            (sym (map-cond (shown s.options.padding) (eq ins.entry.key k) (Some ins.entry) (entry_for eq k s.entries)));
        pages = ap page_sizes (sym ins.pages);
      };
    }
    blanks_tell key size (Ok (Held place)) before s t ins = absurd ins
    blanks_tell key size (Ok NeverFits) before s t ins = absurd ins
    blanks_tell key size (Ok FrameFull) before s t ins = absurd ins
    blanks_tell key size (Err error) before s t ins = record {
      made = [];
      listed = sym (append-none before);
      shows = subst (λ (u : CacheState K). ShowsSame (picture_of eq s) (picture_of eq u)) (sym ins.0) (same_shown s);
    }

    -- Where an entry is used, each key keeps its place.
    places_kept : (entry : Entry K) (s t : CacheState K) → HaveOwnKeys eq s.entries → Uses entry s t → (q : K)
        → place_for eq t q ≡ place_for eq s q
    places_kept entry s t own uses q = rw (uses.is, uses.options, uses.was)
        (fronted eq laws (shown s.options.padding) entry (record entry { frame = s.frame }) refl refl uses.newer uses.older
        (rw uses.was at own) q)

    pub uses_same : (entry : Entry K) (s t : CacheState K) → HaveOwnKeys eq s.entries → Uses entry s t
        → ShowsSame (picture_of eq s) (picture_of eq t)
    uses_same entry s t own uses =
        record { places = λ q. sym (places_kept entry s t own uses q); pages = ap page_sizes (sym uses.pages) }

    -- Where an entry is removed, its key has no place, and the others keep theirs.
    pub removes_tell : (key : K) (entry : Entry K) (s t : CacheState K) → HaveOwnKeys eq s.entries
        → eq entry.key key ≡ true
        → Removes entry s t → ShowsSame (placed eq key None (picture_of eq s)) (picture_of eq t)
    removes_tell key entry s t own named removes = record {
      places = λ q. ap (λ b. cond b None (place_for eq s q)) (sym (laws.congr entry.key key q named))
          ∙ taken laws s t removes.newer entry removes.older own removes.was removes.is removes.options q;
      pages = sym removes.sizes;
    }

    -- A key that is used keeps its place, and so do the others.
    pub uses_tell : (key : K) (entry : Entry K) (s t : CacheState K) → HaveOwnKeys eq s.entries
        → eq entry.key key ≡ true
        → Uses entry s t
        → ShowsSame (placed eq key (Some (shown s.options.padding entry)) (picture_of eq s)) (picture_of eq t)
    uses_tell key entry s t own named uses = record {
      places = λ q. elim (cases_Bool (eq key q)) [
        | inl same ↦
            let at = sym (laws.congr key entry.key q (laws.symm key entry.key ∙ named)) ∙ same in
            let found : entry_for eq q s.entries ≡ Some entry =
            rw uses.was (here eq laws uses.newer entry uses.older (rw uses.was at own) q at) in
            rw same (sym (places_kept entry s t own uses q ∙ ap (option_map (shown s.options.padding)) found))
        | inr apart ↦ rw apart (sym (places_kept entry s t own uses q))
      ];
      pages = ap page_sizes (sym uses.pages);
    }
