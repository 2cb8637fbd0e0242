-- Entries that go one after another from a box, from the least recently used one on.
use Rattle.std.proofs.Common.{ℕ, ◌+◌, ◌≤◌, ◌<◌, ◌≡◌, true, false, eqb, List, [], ◌∷◌, ◌++◌, length, Some, refl, sym, ap, subst, ◌∙◌, arith}
use Rattle.std.proofs.Common.{append_assoc, slice_get}
use Rattle.std.proofs.Common.{inl, inr, ◌⊎◌}
use Rattle.std.proofs.lemmas.Bool.Decides.{eqb_tells}
use Rattle.std.specs.List.{AllByRecursion, IsDistinct}
use Rattle.guillotiere.specs.Boxes.{Box}
use Rattle.guillotiere.specs.Pages.{page_sizes, size_of_page}
use Rattle.guillotiere.specs.Stored.{AtlasValue, state_of}
use Rattle.guillotiere.specs.States.{IsSound}
use Rattle.atlas_cache.specs.declared.changes.CacheChange.{CacheChange}
use Rattle.atlas_cache.specs.declared.changes.CacheChange.TheVariants.{Evicted}
use Rattle.atlas_cache.specs.declared.counts.Counts.{Counts}
use Rattle.atlas_cache.specs.declared.places.Place.{Place}
use Rattle.atlas_entries.specs.declared.entries.Entry.{Entry}
use Rattle.atlas_cache.specs.Caches.{entries_of, shown, AreBordered, CacheState, HoldsEntries, IsBordered, IsFull}
use Rattle.atlas_cache.specs.Changes.{ClearsBox, EvictsIn, IsCleared, LetsGo}
use Rattle.atlas_cache.specs.Placing.{FreesOn}
use Rattle.atlas_cache.specs.Rooms.{RoomsState}
use Rattle.atlas_cache.specs.Vacating.{inside_count, lies_in, state_with, without_inside}
use Rattle.atlas_entries.specs.Entries.{entry_at, is_blank, lying, numbers, without_number, IsNumber, Table}
use Rattle.atlas_entries.specs.Orders.{oldest_of}
use Rattle.atlas_cache.proofs.ClearedLemmas.{IsClearedOn, cleared_on-one, cleared_on-other, cleared_on-start}
use Rattle.atlas_entries.proofs.AppendedLists.{append-none, each-without}
use Rattle.atlas_cache.proofs.PassLemmas.{entries-both, last-of}
use Rattle.atlas_cache.proofs.ReadyLemmas.{full_stays}
use Rattle.atlas_cache.proofs.RoomLemmas.KeptPages.{page_at, size_at}
use Rattle.atlas_cache.proofs.RelocateLemmas.{without-at}
use Rattle.atlas_cache.proofs.WalkLemmas.{at-number, entries-append, numbers-append}

longer-by : {X : Type 0} (xs ys : List X) → length ys ≤ length (xs ++ ys)
longer-by [] ys = omega arith
longer-by (x ∷ xs) ys = omega (arith, longer-by xs ys)

module _ {K : Type 0} where
  pub clears-last : (page : ℕ) (box : Box) (cs : List (CacheChange K)) (key : K) (place : Place) (s t u : CacheState K)
      → ClearsBox page box cs s t → EvictsIn page box key place t u
      → ClearsBox page box (cs ++ Evicted key place ∷ []) s u
  clears-last page box [] key place s t u same goes =
      (u, subst (λ (v : CacheState K). EvictsIn page box key place v u) (sym same) goes, refl)
  clears-last page box (c ∷ cs) key place s t u clears goes =
      (clears.0, clears.1, clears-last page box cs key place clears.0 t u clears.2 goes)

  -- The entry that is looked at next, and the others.
  pub record IsNextOf (n : ℕ) (newer kept older es us : List (ℕ × Entry K)) : Type 0 where
    pub rest : List (ℕ × Entry K)
    pub entry : Entry K
    pub newer_is : newer ≡ rest ++ (n, entry) ∷ []
    pub is : es ≡ rest ++ (n, entry) ∷ kept
    pub was : us ≡ rest ++ (n, entry) ∷ older

  pub next-of : (n : ℕ) (newer kept older es us : List (ℕ × Entry K)) → Some n ≡ oldest_of (numbers newer)
      → es ≡ newer ++ kept → us ≡ newer ++ older → IsNextOf n newer kept older es us
  next-of n newer kept older es us next is was =
      let l = last-of n newer next in
      record {
        rest = l.rest;
        entry = l.entry;
        newer_is = l.was;
        is = is ∙ ap (λ xs. xs ++ kept) l.was ∙ append_assoc l.rest ((n, l.entry) ∷ []) kept;
        was = was ∙ ap (λ xs. xs ++ older) l.was ∙ append_assoc l.rest ((n, l.entry) ∷ []) older;
      }

  pub next-at : (n : ℕ) (newer kept older es us : List (ℕ × Entry K)) (l : IsNextOf n newer kept older es us)
      → IsDistinct eqb (numbers es) → entry_at n es ≡ Some l.entry
  next-at n newer kept older es us l apart =
      ap (entry_at n) l.is ∙ at-number l.rest n l.entry kept (rw l.is at apart)

  pub next-number_of : (n : ℕ) (newer kept older es us : List (ℕ × Entry K)) → IsNextOf n newer kept older es us
      → IsDistinct eqb (numbers es) → IsNumber n es
  next-number_of n newer kept older es us l apart =
      let at = next-at n newer kept older es us l apart in rw at refl

  pub next-numbers : (n : ℕ) (newer kept older es us : List (ℕ × Entry K)) (l : IsNextOf n newer kept older es us)
      → numbers es ≡ numbers l.rest ++ n ∷ numbers kept
  next-numbers n newer kept older es us l = ap numbers l.is ∙ numbers-append l.rest (n, l.entry) kept

  -- The end of a list, of some length.
  pub record IsEnd (es : List (ℕ × Entry K)) (count : ℕ) : Type 0 where
    pub front : List (ℕ × Entry K)
    pub end : List (ℕ × Entry K)
    pub was : es ≡ front ++ end
    pub counted : length end ≡ count

  pub end-of : (es : List (ℕ × Entry K)) (count : ℕ) → count ≤ length es → IsEnd es count
  end-of [] count le = record { front = []; end = []; was = refl; counted = omega (arith, le) }
  end-of (x ∷ es) count le = elim (nat_cases count (length es)) [
    | inl less ↦
        let more = end-of es count less in
        record { front = x ∷ more.front; end = more.end; was = ap (λ ys. x ∷ ys) more.was; counted = more.counted }
    | inr past ↦ record { front = []; end = x ∷ es; was = refl; counted = omega (arith, le, past) }
  ]
    where
      nat_cases : (a b : ℕ) → (a ≤ b) ⊎ (b < a)
      nat_cases a b = grind arith

  pub all-suffix : (P : Entry K → Type 0) (xs us ys bs : List (ℕ × Entry K)) → xs ++ us ≡ ys ++ bs → length us ≤ length bs
      → AllByRecursion P (entries_of bs) → AllByRecursion P (entries_of us)
  all-suffix P xs us [] bs same le all = later xs us (rw (← same) at all)
    where
      later : (xs us : List (ℕ × Entry K)) → AllByRecursion P (entries_of (xs ++ us)) → AllByRecursion P (entries_of us)
      later [] us all = all
      later (x ∷ xs) us all = later xs us all.1
  all-suffix P [] us (y ∷ ys) bs same le all = absurd (omega (arith, ap length same, le, longer-by ys bs))
  all-suffix P (x ∷ xs) us (y ∷ ys) bs same le all =
      let rest : xs ++ us ≡ ys ++ bs = cc in all-suffix P xs us ys bs rest le all

  -- What was done so far: of the entries that were looked at those in the box went, and these are kept.
  pub record IsClearing (page : ℕ) (box : Box) (frame : ℕ) (newer older kept : List (ℕ × Entry K))
      (before now : List (CacheChange K)) (rooms left : RoomsState) (entries others : Table K) (counts counted : Counts)
      : Type 0 where
    pub made : List (CacheChange K)
    pub listed : now ≡ before ++ made
    pub clears : ClearsBox page box made (state_with rooms entries frame counts) (state_with left others frame counted)
    pub outside : entries_of kept ≡ without_inside page box (entries_of older)
    pub freed : (base : AtlasValue) → slice_get rooms.pages page ≡ Some base → IsClearedOn base left.pages page box (entries_of older)
    pub others_stay : (k : ℕ) → (k ≡ page → ⊥) → slice_get left.pages k ≡ slice_get rooms.pages k
    pub held : HoldsEntries left.pages (lying (entries_of others.entries))
    pub bordered : AreBordered left.options.padding (entries_of others.entries)
    pub options : left.options ≡ rooms.options
    pub sizes : page_sizes left.pages ≡ page_sizes rooms.pages

  module _ (page : ℕ) (box : Box) (frame : ℕ) where
    without-in : (e : Entry K) (es : List (Entry K)) → lies_in page box e ≡ true
        → without_inside page box (e ∷ es) ≡ without_inside page box es
    without-in e es inside = rw inside refl

    without-out : (e : Entry K) (es : List (Entry K)) → lies_in page box e ≡ false
        → without_inside page box (e ∷ es) ≡ e ∷ without_inside page box es
    without-out e es outside = rw outside refl

    pub count-in : (e : Entry K) (es : List (Entry K)) → lies_in page box e ≡ true
        → inside_count page box (e ∷ es) ≡ inside_count page box es + 1
    count-in e es inside = rw inside (omega arith)

    pub count-out : (e : Entry K) (es : List (Entry K)) → lies_in page box e ≡ false
        → inside_count page box (e ∷ es) ≡ inside_count page box es
    count-out e es outside = rw outside (omega arith)

    -- Of two ends of a list the shorter has no more of them.
    pub count-suffix : (xs us ys bs : List (ℕ × Entry K)) → xs ++ us ≡ ys ++ bs → length us ≤ length bs
        → inside_count page box (entries_of us) ≤ inside_count page box (entries_of bs)
    count-suffix xs us [] bs same le = rw (← same) (count-later xs us)
      where
        count-later : (xs us : List (ℕ × Entry K))
            → inside_count page box (entries_of us) ≤ inside_count page box (entries_of (xs ++ us))
        count-later [] us = omega arith
        count-later (x ∷ xs) us = omega (arith, count-later xs us)
    count-suffix [] us (y ∷ ys) bs same le = absurd (omega (arith, ap length same, le, longer-by ys bs))
    count-suffix (x ∷ xs) us (y ∷ ys) bs same le =
        let rest : xs ++ us ≡ ys ++ bs = cc in count-suffix xs us ys bs rest le

    -- One list parts in one way where the ends have one length.
    pub split-same : (xs us ys bs : List (ℕ × Entry K)) → xs ++ us ≡ ys ++ bs → length us ≡ length bs
        → (xs ≡ ys) × (us ≡ bs)
    split-same [] us [] bs same le = (refl, same)
    split-same [] us (y ∷ ys) bs same le = absurd (omega (arith, ap length same, le, longer-by ys bs))
    split-same (x ∷ xs) us [] bs same le = absurd (omega (arith, ap length same, le, longer-by xs us))
    split-same (x ∷ xs) us (y ∷ ys) bs same le =
        let rest : xs ++ us ≡ ys ++ bs = cc in
        let head : x ≡ y = cc in
        let more = split-same xs us ys bs rest le in
        (ap (λ zs. x ∷ zs) more.0 ∙ ap (λ z. z ∷ ys) head, more.1)

    pub lies-here : (e : Entry K) → lies_in page box e ≡ true → e.page ≡ page
    lies-here e inside = elim (eqb_tells e.page page) [
      | inl same ↦ same.1
      | inr other ↦ absurd (let no = rw other.0 at inside in let t : false ≡ true = no in cc)
    ]

    -- What stands at the end of a list.
    numbered-at : (rest kept : List (ℕ × Entry K)) (n : ℕ) (e f : Entry K) (es : List (ℕ × Entry K))
        → es ≡ rest ++ (n, e) ∷ kept → IsDistinct eqb (numbers es) → entry_at n es ≡ Some f → f ≡ e
    numbered-at rest kept n e f es is apart at =
        let found : entry_at n es ≡ Some e = ap (entry_at n) is ∙ at-number rest n e kept (rw is at apart) in
        let some : Some f ≡ Some e = sym at ∙ found in cc

    pub clearing-start : (changes : List (CacheChange K)) (rooms : RoomsState) (entries : Table K) (counts : Counts)
        → ((v : AtlasValue) → slice_get rooms.pages page ≡ Some v → IsSound (state_of v))
        → HoldsEntries rooms.pages (lying (entries_of entries.entries))
        → AreBordered rooms.options.padding (entries_of entries.entries)
        → IsClearing page box frame entries.entries [] [] changes changes rooms rooms entries entries counts counts
    clearing-start changes rooms entries counts sound held bordered = record {
      made = [];
      listed = sym (append-none changes);
      clears = refl;
      outside = refl;
      freed = λ base at. cleared_on-start base rooms.pages page box at (sound base at);
      others_stay = λ k other. refl;
      held = held;
      bordered = bordered;
      options = refl;
      sizes = refl;
    }

    -- What was done in the end.
    pub cleared-all : (newer older kept : List (ℕ × Entry K)) (before now : List (CacheChange K)) (rooms left : RoomsState)
        (entries others : Table K) (counts counted : Counts)
        → IsClearing page box frame newer older kept before now rooms left entries others counts counted
        → others.entries ≡ newer ++ kept
        → IsCleared page box newer older before now (state_with rooms entries frame counts) (state_with left others frame counted)
    cleared-all newer older kept before now rooms left entries others counts counted was is = record {
      made = was.made;
      listed = was.listed;
      clears = was.clears;
      left = ap entries_of is ∙ entries-both newer kept ∙ ap (λ es. entries_of newer ++ es) was.outside;
      freed = λ v w at now. let done = was.freed v at w now in (done.tree, done.size, done.options);
      others = λ k other. was.others_stay k other;
    }

    module _ (rest older kept : List (ℕ × Entry K)) (n : ℕ) (e : Entry K) (before now : List (CacheChange K))
        (rooms left : RoomsState) (entries others : Table K) (counts counted : Counts)
        (was : IsClearing page box frame (rest ++ (n, e) ∷ []) older kept before now rooms left entries others counts counted)
        (is : others.entries ≡ rest ++ (n, e) ∷ kept) where
      -- An entry outside of the box is kept.
      pub one-kept : lies_in page box e ≡ false
          → IsClearing page box frame rest ((n, e) ∷ older) ((n, e) ∷ kept) before now rooms left entries others counts counted
      one-kept outside = record {
        made = was.made;
        listed = was.listed;
        clears = was.clears;
        outside = ap (λ es. e ∷ es) was.outside ∙ sym (without-out e (entries_of older) outside);
        freed = λ base at. cleared_on-other base left.pages page box e (entries_of older) outside (was.freed base at);
        others_stay = was.others_stay;
        held = was.held;
        bordered = was.bordered;
        options = was.options;
        sizes = was.sizes;
      }

      -- One that lies in it goes.
      module _ (gone : RoomsState) (fewer : Table K) (more : Counts) (after : List (CacheChange K))
          (goes : LetsGo n e now after left gone others fewer counted more) where
        without-it : IsDistinct eqb (numbers others.entries) → fewer.entries ≡ rest ++ kept
        without-it apart = goes.without ∙ ap (without_number n) is ∙ without-at n e rest kept (rw is at apart)

        fewer-are : IsDistinct eqb (numbers others.entries)
            → entries_of fewer.entries ≡ entries_of rest ++ entries_of kept
        fewer-are apart = ap entries_of (without-it apart) ∙ entries-both rest kept

        others-are : entries_of others.entries ≡ entries_of rest ++ e ∷ entries_of kept
        others-are = ap entries_of is ∙ entries-append rest (n, e) kept

        evicts : lies_in page box e ≡ true → e.frame < frame → is_blank e ≡ false
            → IsFull (state_with rooms entries frame counts) → IsDistinct eqb (numbers others.entries)
            → EvictsIn page box e.key (shown left.options.padding e) (state_with left others frame counted)
            (state_with gone fewer frame more)
        evicts inside unused lies full apart = record {
          goes = record {
            full = full_stays (state_with rooms entries frame counts) (state_with left others frame counted) was.options was.sizes full;
            entry = e;
            newer = entries_of rest;
            older = entries_of kept;
            was = others-are;
            is = fewer-are apart;
            lies = lies;
            named = refl;
            shows = refl;
            unused = unused;
            leaves = goes.leaves;
            sizes = goes.sizes;
            slots = goes.slots;
            numbers = goes.made;
            reserved = goes.reserved;
            options = goes.options;
            frame = refl;
            counts = goes.evicted;
          };
          here = inside;
        }

        freed-one : lies_in page box e ≡ true → (base : AtlasValue) → slice_get rooms.pages page ≡ Some base
            → IsClearedOn base gone.pages page box (e ∷ entries_of older)
        freed-one inside base at =
            let there = page_at left.pages page (size_of_page base) (rw was.sizes (size_at rooms.pages page base at)) in
            cleared_on-one base left.pages page box gone.pages there.0 e (entries_of older) there.1
            (subst (λ (k : ℕ). FreesOn left.pages gone.pages k e.id) (lies-here e inside) goes.step) inside (was.freed base at)

        pub one-gone : lies_in page box e ≡ true → e.frame < frame → is_blank e ≡ false
            → IsFull (state_with rooms entries frame counts) → IsDistinct eqb (numbers others.entries)
            → HoldsEntries gone.pages (lying (entries_of fewer.entries))
            → IsClearing page box frame rest ((n, e) ∷ older) kept before after rooms gone entries fewer counts more
        one-gone inside unused lies full apart held = record {
          made = was.made ++ Evicted e.key (shown left.options.padding e) ∷ [];
          listed = goes.listed ∙ ap (λ cs. cs ++ Evicted e.key (shown left.options.padding e) ∷ []) was.listed
              ∙ append_assoc before was.made (Evicted e.key (shown left.options.padding e) ∷ []);
          clears = clears-last page box was.made e.key (shown left.options.padding e) _ _ _ was.clears
              (evicts inside unused lies full apart);
          outside = was.outside ∙ sym (without-in e (entries_of older) inside);
          freed = freed-one inside;
          others_stay = λ k other.
              goes.leaves.others k (λ same. other (same ∙ lies-here e inside)) ∙ was.others_stay k other;
          held = held;
          bordered = rw (goes.options, fewer-are apart)
              (each-without (IsBordered left.options.padding) (entries_of rest) e (entries_of kept) (rw others-are at was.bordered));
          options = goes.options ∙ was.options;
          sizes = goes.sizes ∙ was.sizes;
        }

        pub fewer-entries : IsDistinct eqb (numbers others.entries) → fewer.entries ≡ rest ++ kept
        fewer-entries apart = without-it apart
