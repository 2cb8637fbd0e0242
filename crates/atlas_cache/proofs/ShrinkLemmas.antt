-- Pages that go from the end.
use Rattle.std.proofs.Common.{ℕ, zero, suc, ◌+◌, ◌-◌, ◌<◌, ◌≤◌, ◌≡◌, ◌==◌, inl, inr, Bool, true, false, List, [], ◌∷◌, ◌++◌, None, Some}
use Rattle.std.proofs.Common.{length, refl, sym, ap, subst, ◌∙◌}
use Rattle.std.proofs.Common.{append_assoc, arith, eq-eqb, get_or, length-append, slice_get}
use Rattle.std.specs.Prelude.{take}
use Rattle.std.specs.List.{AllByRecursion}
use Rattle.std.proofs.lemmas.List.{take_more, take-map}
use Rattle.std.proofs.lemmas.Option.{slice_get_cases}
use Rattle.std.proofs.Math.Seq.{get_or-append_seam, take-append_seam, take-length}
use Rattle.guillotiere.specs.Pages.{page_sizes, rectangle_on, size_of_page, HasSameRectangles}
use Rattle.guillotiere.specs.Pixels.{rectangle_of}
use Rattle.guillotiere.specs.States.{live_in}
use Rattle.guillotiere.specs.Stored.{AtlasValue, state_of}
use Rattle.guillotiere.specs.Trees.{Grant}
use Rattle.guillotiere.proofs.Callers.{page_added, last_there}
use Rattle.atlas_cache.specs.declared.changes.CacheChange.{CacheChange}
use Rattle.atlas_cache.specs.declared.changes.CacheChange.TheVariants.{PageRemoved}
use Rattle.atlas_entries.specs.declared.entries.Entry.{Entry}
use Rattle.atlas_cache.specs.declared.options.CacheOptions.{CacheOptions}
use Rattle.atlas_cache.specs.Caches.{CacheState, holders, HoldsEntries}
use Rattle.atlas_cache.specs.Changes.{all_changed, changed, picture_of, KeepsEntries, ShowsSame}
use Rattle.atlas_entries.specs.Entries.{lying}
use Rattle.atlas_cache.specs.Rooms.{rooms_of, IsNothingLive, KeepsRooms}
use Rattle.atlas_cache.specs.Shrinking.{all_removed, pages_in_use, DropsIdle, DropsPage, IsLastInUse, Shrinks}
use Rattle.atlas_cache.proofs.HoldingLemmas.{id_cases}
use Rattle.atlas_entries.proofs.AppendedLists.{append-none}
use Rattle.atlas_cache.proofs.PictureLemmas.{places_stay, same_both, same_shown}
use Rattle.atlas_cache.proofs.RoomLemmas.KeptPages.{on_page}
use Rattle.atlas_cache.proofs.TrimLemmas.{changed-last}

-- A list and its last element.
pub split_last : {X : Type 0} (xs : List X) (n : ℕ) (x : X) → length xs ≡ n + 1 → x ≡ get_or xs n x
    → xs ≡ take n xs ++ x ∷ []
split_last xs n x long is =
    sym (take-length xs) ∙ ap (λ k. take k xs) long ∙ take_more xs n x (omega (arith, long)) ∙ ap (λ y. take n xs ++ y ∷ []) (sym is)

still_there : {X : Type 0} (xs ys : List X) (k : ℕ) (x : X) → slice_get xs k ≡ Some x → slice_get (xs ++ ys) k ≡ Some x
still_there [] ys k x is = absurd (let none : None ≡ Some x = is in cc)
still_there (y ∷ xs) ys zero x is = is
still_there (y ∷ xs) ys (suc k) x is = still_there xs ys k x is

-- The pages that are left are pages of the cache.
pub rooms_left : (o : CacheOptions) (pages : List AtlasValue) (last : AtlasValue)
    → KeepsRooms (rooms_of o (pages ++ last ∷ []))
    → KeepsRooms (rooms_of o pages)
rooms_left o pages last was = record {
  usable = was.usable;
  few = let all = was.few in omega (arith, all, length-append pages (last ∷ []));
  each = λ k s is. was.each k s (still_there pages (last ∷ []) k s is);
}

-- Where there are pages, the last one's number is one less than how many there are.
pub last_number : (n : ℕ) (none : Bool) → none ≡ (n == 0) → none ≡ false → n ≡ n - 1 + 1
last_number zero none is some = let none_is : none ≡ true = is in cc
last_number (suc n) none is some = omega arith

-- The last page goes, and it is idle.
pub drops_last : (pages left : List AtlasValue) (n page : ℕ) (a : AtlasValue) → length pages ≡ n + 1
    → a ≡ get_or pages n a
    → left ≡ take n pages → live_in (state_of a) ≡ [] → page ≡ n → DropsIdle page pages left
drops_last pages left n page a long is taken idle named =
    let was : pages ≡ left ++ a ∷ [] = rw taken (split_last pages n a long is) in
    record {
      last = a;
      was = was;
      idle = idle;
      number = omega (arith, named, long, ap length was, length-append left (a ∷ []));
    }

-- A page that is in use is the last one, whatever the list is called.
pub in_use : (pages : List AtlasValue) (n : ℕ) (a : AtlasValue) → length pages ≡ n + 1 → a ≡ get_or pages n a
    → (live_in (state_of a) ≡ [] → ⊥) → IsLastInUse pages
in_use pages n a long is used rest last was idle =
    let size : n ≡ length rest = let both = ap length was in omega (arith, both, long, length-append rest (last ∷ [])) in
    let same : a ≡ last = is ∙ ap (λ k. get_or pages k a) size ∙ ap (λ xs. get_or xs (length rest) a) was
    ∙ get_or-append_seam rest last [] a in
    used (ap (λ p. live_in (state_of p)) same ∙ idle)

-- No rectangle is another one where an idle page goes.
pub drops_same : (page : ℕ) (old new : List AtlasValue) → DropsIdle page old new → HasSameRectangles old new
drops_same page old new drops k i = rw drops.was (sym (page_added new drops.last drops.idle k i))

nothing_joined : (last : AtlasValue) (gone : List AtlasValue) → live_in (state_of last) ≡ [] → IsNothingLive gone
    → IsNothingLive (last ∷ gone)
nothing_joined last gone idle none zero id = rw idle refl
nothing_joined last gone idle none (suc page) id = none page id

module _ {K : Type 0} where
  -- Each entry lies on a page.
  in_use_few : (pages : List AtlasValue) (es : List (Entry K))
      → AllByRecursion (λ e. rectangle_on pages e.page e.id ≡ Some e.rectangle) es
      → pages_in_use es ≤ length pages
  in_use_few pages [] live = omega arith
  in_use_few pages (e ∷ es) live =
      let there = (on_page pages e.page e.id e.rectangle live.0).2 in omega (arith, there, in_use_few pages es live.1)

  -- A page on which an entry lies is in use.
  in_use_many : (page id : ℕ) (es : List (Entry K)) → 0 < holders page id es → page < pages_in_use es
  in_use_many page id [] some = absurd (omega (arith, some))
  in_use_many page id (e ∷ es) some = elim (id_cases page id e) [
    | inl it ↦ let here = it.1 in omega (arith, here)
    | inr other ↦ let more = rw other.0 at some in omega (arith, in_use_many page id es (omega (arith, more)))
  ]

  ends : (rest : List AtlasValue) (last : AtlasValue) (es : List (Entry K)) → HoldsEntries (rest ++ last ∷ []) es
      → (gs : List Grant) → live_in (state_of last) ≡ gs → (gs ≡ [] → ⊥) → length rest < pages_in_use es
  ends rest last es held [] is some = absurd (some refl)
  ends rest last es held (g ∷ gs) is some =
      let own = eq-eqb g.id g.id refl in
      in_use_many (length rest) g.id es (held.known (length rest) g.id (rectangle_of g.box) (rw (last_there rest last, is, own) refl))

  -- Where the last page is in use, so are all.
  all_used : (n : ℕ) (pages : List AtlasValue) (es : List (Entry K)) → length pages ≡ n → HoldsEntries pages es
      → IsLastInUse pages
      → length pages ≤ pages_in_use es
  all_used zero pages es none held used = omega (arith, none)
  all_used (suc n) pages es long held used = elim (slice_get_cases pages n).1 [
    | inl one ↦
        let more : length pages ≡ n + 1 = omega (arith, long) in
        let was = split_last pages n one.0 more (sym one.3) in
        let less = ends (take n pages) one.0 es (subst (λ ps. HoldsEntries ps es) was held) (live_in (state_of one.0)) refl
        (λ idle. used (take n pages) one.0 was idle) in
        let both = ap length was in omega (arith, both, less, length-append (take n pages) (one.0 ∷ []))
    | inr past ↦ let beyond = past.0 in absurd (omega (arith, beyond, long))
  ]

  pub used_exactly : (pages : List AtlasValue) (es : List (Entry K)) → HoldsEntries pages es → IsLastInUse pages
      → length pages ≡ pages_in_use es
  used_exactly pages es held used =
      omega (arith, in_use_few pages es held.live, all_used (length pages) pages es refl held used)

  -- The pages that went so far.
  pub record Gone (eq : K → K → Bool) (before now : List (CacheChange K)) (s t : CacheState K) : Type 0 where
    pub gone : List AtlasValue
    pub was : s.pages ≡ t.pages ++ gone
    pub nothing : IsNothingLive gone
    pub listed : now ≡ before ++ all_removed (length t.pages) gone
    pub keeps : KeepsEntries s t
    pub shows : ShowsSame (all_changed eq (all_removed (length t.pages) gone) (picture_of eq s)) (picture_of eq t)

  module _ (eq : K → K → Bool) where
    pub none_gone : (before : List (CacheChange K)) (s : CacheState K) → Gone eq before before s s
    none_gone before s = record {
      gone = [];
      was = sym (append-none s.pages);
      nothing = λ page id. refl;
      listed = sym (append-none before);
      keeps = record { entries = refl; numbers = refl; reserved = refl; options = refl; frame = refl; counts = refl };
      shows = same_shown eq s;
    }

    one_shows : (t u : CacheState K) (last : AtlasValue) → t.pages ≡ u.pages ++ last ∷ [] → KeepsEntries t u
        → ShowsSame (changed eq (PageRemoved (length u.pages)) (picture_of eq t)) (picture_of eq u)
    one_shows t u last was keeps = record {
      places = places_stay eq t u keeps.entries keeps.options;
      pages = ap (λ ps. take (length u.pages) (page_sizes ps)) was
          ∙ take-map size_of_page (length u.pages) (u.pages ++ last ∷ [])
          ∙ ap page_sizes (take-append_seam u.pages (last ∷ []));
    }

    pub one_gone : (before now new : List (CacheChange K)) (s t u : CacheState K) → Gone eq before now s t
        → DropsPage now new t u
        → Gone eq before new s u
    one_gone before now new s t u h one =
        let last = one.drops.last in
        let c : CacheChange K = PageRemoved (length u.pages) in
        let so_far = all_removed (length t.pages) h.gone in
        let long : length t.pages ≡ length u.pages + 1 =
        ap length one.drops.was ∙ length-append u.pages (last ∷ []) in
        let told : so_far ≡ all_removed (length u.pages + 1) h.gone = ap (λ n. all_removed n h.gone) long in
        let step : ShowsSame (changed eq c (all_changed eq so_far (picture_of eq s))) (picture_of eq u) =
        same_both eq _ (changed eq c (picture_of eq t)) _ (record {
          places = h.shows.places;
          pages = ap (λ ns. take (length u.pages) ns) h.shows.pages;
        }) (one_shows t u last one.drops.was one.keeps) in
        record {
          gone = last ∷ h.gone;
          was = h.was ∙ ap (λ ps. ps ++ h.gone) one.drops.was ∙ append_assoc u.pages (last ∷ []) h.gone;
          nothing = nothing_joined last h.gone one.drops.idle h.nothing;
          listed = one.listed ∙ ap (λ cs. cs ++ c ∷ []) h.listed ∙ append_assoc before so_far (c ∷ [])
              ∙ ap (λ cs. before ++ (cs ++ c ∷ [])) told;
          keeps = record {
            entries = one.keeps.entries ∙ h.keeps.entries;
            numbers = one.keeps.numbers ∙ h.keeps.numbers;
            reserved = one.keeps.reserved ∙ h.keeps.reserved;
            options = one.keeps.options ∙ h.keeps.options;
            frame = one.keeps.frame ∙ h.keeps.frame;
            counts = one.keeps.counts ∙ h.keeps.counts;
          };
          shows = subst (λ cs. ShowsSame (all_changed eq (cs ++ c ∷ []) (picture_of eq s)) (picture_of eq u)) told
              (rw (changed-last eq so_far c (picture_of eq s)) step);
        }

    pub shrunk : (before after : List (CacheChange K)) (s t : CacheState K) → Gone eq before after s t
        → HoldsEntries t.pages (lying t.entries) → IsLastInUse t.pages → Shrinks before after s t
    shrunk before after s t h held used = record {
      gone = h.gone;
      was = h.was;
      left = used_exactly t.pages (lying t.entries) held used;
      nothing = h.nothing;
      listed = h.listed;
      keeps = h.keeps;
    }
