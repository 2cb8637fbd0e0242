-- Entries that are visited one by one where the last page is emptied.
use Rattle.std.proofs.Common.{ℕ, ◌+◌, ◌-◌, ◌≤◌, ◌≡◌, inl, inr, eqb, List, [], ◌∷◌, ◌++◌, length, map, Option, None, Some}
use Rattle.std.proofs.Common.{Result, Ok, Err, refl, sym, ap, ◌∙◌, arith, append_assoc}
use Rattle.std.specs.List.{AllByRecursion, IsDistinct}
use Rattle.std.specs.Result.{IsErr}
use Rattle.guillotiere.specs.declared.Size.{Size}
use Rattle.guillotiere.specs.Pages.{NoneHasRoomBelow}
use Rattle.guillotiere.specs.Stored.{AtlasValue}
use Rattle.atlas_cache.specs.declared.changes.CacheChange.{CacheChange}
use Rattle.atlas_cache.specs.declared.options.CacheOptions.{CacheOptions}
use Rattle.atlas_entries.specs.declared.entries.Entry.{Entry}
use Rattle.atlas_entries.specs.declared.error.CacheError.{CacheError}
use Rattle.atlas_entries.specs.Entries.{entry_at, moved as with_place, numbers, Table}
use Rattle.atlas_entries.specs.Orders.{newest_of}
use Rattle.atlas_entries.proofs.AppendedLists.{append-none, each-append}
use Rattle.atlas_cache.specs.Caches.{entries_of}
use Rattle.atlas_cache.specs.Compacting.{movers, pixels_moved, size_on_page, told_move, AreInOrder, GoesAhead, HasToStay}
use Rattle.atlas_cache.specs.Compacting.{MoveAhead, MovesSome, StaysThere, Visits}
use Rattle.atlas_cache.specs.Rooms.{RoomsState}
use Rattle.atlas_cache.proofs.CompactLemmas.{chain_more, pixels_more, told_more}
use Rattle.atlas_cache.proofs.RelocateLemmas.{moved-at}
use Rattle.atlas_cache.proofs.WalkLemmas.{at-number, entries-append, no-first}

module _ {K : Type 0} (last pixels : ℕ) where
  -- Where less may move, and nothing has room that had none, an entry has to stay still.
  still_stay : (left less : ℕ) (old new : List AtlasValue) → less ≤ left
      → ((request : Size) → NoneHasRoomBelow request old last → NoneHasRoomBelow request new last)
      → (es : List (Entry K)) → AllByRecursion (HasToStay last left old) es → AllByRecursion (HasToStay last less new) es
  still_stay left less old new le none [] all = tt
  still_stay left less old new le none (e ∷ es) all = (
    λ here. elim (all.0 here) [
      | inl large ↦ inl (omega (arith, large, le))
      | inr full ↦ inr (none (size_on_page e) full)
    ],
    still_stay left less old new le none es all.1,
  )

  -- The entries up to one were visited.
  pub record Walk (moved : ℕ) (next : Option ℕ) (passed : ℕ) (before now : List (CacheChange K)) (rooms left : RoomsState)
      (entries others : Table K) : Type 0 where
    pub done : List (ℕ × Entry K)
    pub rest : List (ℕ × Entry K)
    pub is : others.entries ≡ done ++ rest
    pub first : next ≡ newest_of (numbers rest)
    pub count : length rest + passed ≡ length entries.entries
    pub stay : AllByRecursion (HasToStay last (pixels - moved) left.pages) (entries_of done)
    pub seen : List (Entry K)
    pub whole : entries_of entries.entries ≡ seen ++ entries_of rest
    pub moves : List (Entry K × Entry K)
    pub order : AreInOrder (movers moves) seen
    pub chain : MoveAhead last moves rooms.pages left.pages (entries_of entries.entries) (entries_of others.entries)
    pub sum : moved ≡ pixels_moved moves
    pub within : moved ≤ pixels
    pub listed : now ≡ before ++ map (told_move rooms.options.padding) moves
    pub options : left.options ≡ rooms.options
    pub made : others.made ≡ entries.made
    pub reserved : others.reserved ≡ entries.reserved

  order_longer : (xs ws ys : List (Entry K)) → AreInOrder xs ws → AreInOrder xs (ws ++ ys)
  order_longer [] ws ys o = tt
  order_longer (x ∷ xs) ws ys o =
      (o.0, o.1 ++ ys, ap (λ es. es ++ ys) o.2 ∙ append_assoc o.0 (x ∷ o.1) ys, order_longer xs o.1 ys o.3)

  order_more : (moves : List (Entry K × Entry K)) (ws : List (Entry K)) (e f : Entry K) → AreInOrder (movers moves) ws
      → AreInOrder (movers (moves ++ (e, f) ∷ [])) (ws ++ e ∷ [])
  order_more [] ws e f o = (ws, [], refl, tt)
  order_more (m ∷ ms) ws e f o = (
    o.0,
    o.1 ++ e ∷ [],
    ap (λ es. es ++ e ∷ []) o.2 ∙ append_assoc o.0 (m.0 ∷ o.1) (e ∷ []),
    order_more ms o.1 e f o.3,
  )

  pub none_visited : (next : Option ℕ) (before : List (CacheChange K)) (rooms : RoomsState) (entries : Table K)
      → next ≡ newest_of (numbers entries.entries) → Walk 0 next 0 before before rooms rooms entries entries
  none_visited next before rooms entries first = record {
    done = [];
    rest = entries.entries;
    is = refl;
    first = first;
    count = omega arith;
    stay = tt;
    seen = [];
    whole = refl;
    moves = [];
    order = tt;
    chain = (refl, refl);
    sum = refl;
    within = omega arith;
    listed = sym (append-none before);
    options = refl;
    made = refl;
    reserved = refl;
  }

  module _ (moved passed : ℕ) (before now : List (CacheChange K)) (rooms left : RoomsState) (entries others : Table K) where
    -- What was done so far, as it is told where the visits end with an error.
    pub some_moved : (next : Option ℕ) (result : Result ℕ CacheError) → IsErr result
        → Walk moved next passed before now rooms left entries others
        → MovesSome last pixels result before now rooms left entries others
    some_moved next (Ok given) is w = absurd (let no = is in cc)
    some_moved next (Err error) is w = record {
      moves = w.moves;
      chain = w.chain;
      order = rw w.whole (order_longer (movers w.moves) w.seen (entries_of w.rest) w.order);
      within = omega (arith, w.sum, w.within);
      gives = tt;
      stay = tt;
      listed = w.listed;
      options = w.options;
      made = w.made;
      reserved = w.reserved;
    }

    ended : (next : Option ℕ) (w : Walk moved next passed before now rooms left entries others) → w.rest ≡ []
        → MovesSome last pixels (Ok moved) before now rooms left entries others
    ended next w none = record {
      moves = w.moves;
      chain = w.chain;
      order = rw w.whole (order_longer (movers w.moves) w.seen (entries_of w.rest) w.order);
      within = omega (arith, w.sum, w.within);
      gives = w.sum;
      stay =
          let all : others.entries ≡ w.done = w.is ∙ ap (λ r. w.done ++ r) none ∙ append-none w.done in
          rw all w.stay;
      listed = w.listed;
      options = w.options;
      made = w.made;
      reserved = w.reserved;
    }

    pub none_left : Walk moved None passed before now rooms left entries others
        → MovesSome last pixels (Ok moved) before now rooms left entries others
    none_left w = ended None w (no-first w.rest w.first)

    -- The entry that comes next.
    pub record Upcoming (n : ℕ) (w : Walk moved (Some n) passed before now rooms left entries others) : Type 0 where
      pub entry : Entry K
      pub rest : List (ℕ × Entry K)
      pub is : others.entries ≡ w.done ++ (n, entry) ∷ rest
      pub at : entry_at n others.entries ≡ Some entry
      pub whole : entries_of entries.entries ≡ w.seen ++ entry ∷ entries_of rest
      pub count : length rest + (passed + 1) ≡ length entries.entries

    pub upcoming : (n : ℕ) (w : Walk moved (Some n) passed before now rooms left entries others)
        → IsDistinct eqb (numbers others.entries) → Upcoming n w
    upcoming n w apart = go w.rest w.is w.whole w.first w.count
      where
        go : (rest : List (ℕ × Entry K)) → others.entries ≡ w.done ++ rest
            → entries_of entries.entries ≡ w.seen ++ entries_of rest → Some n ≡ newest_of (numbers rest)
            → length rest + passed ≡ length entries.entries → Upcoming n w
        go [] is whole next count = absurd (let some : Some n ≡ None = next in cc)
        go (x ∷ rest) is whole next count =
            let number : x.0 ≡ n = (let h : Some n ≡ Some x.0 = next in cc) in
            let here : others.entries ≡ w.done ++ (n, x.1) ∷ rest = is ∙ ap (λ (m : ℕ). w.done ++ (m, x.1) ∷ rest) number in
            record {
              entry = x.1;
              rest = rest;
              is = here;
              whole = whole;
              at = ap (entry_at n) here ∙ at-number w.done n x.1 rest (rw here at apart);
              count = omega (arith, count);
            }

    module _ (n : ℕ) (w : Walk moved (Some n) passed before now rooms left entries others) (u : Upcoming n w)
        (given : ℕ) (next : Option ℕ) (later : List (CacheChange K)) (then : RoomsState) (new : Table K)
        (apart : IsDistinct eqb (numbers others.entries)) (first : next ≡ newest_of (numbers u.rest))
        (none : (request : Size) → NoneHasRoomBelow request left.pages last → NoneHasRoomBelow request then.pages last) where
      visit_goes : GoesAhead last n (pixels - moved) given now later left then others new
          → Walk (moved + given) next (passed + 1) before later rooms then entries new
      visit_goes g =
          let one : Some u.entry ≡ Some g.entry = sym u.at ∙ g.at in
          let same : u.entry ≡ g.entry = cc in
          let f : Entry K = record u.entry { page = g.moved.page; id = g.moved.id; rectangle = g.moved.rectangle } in
          let is : new.entries ≡ w.done ++ (n, f) ∷ u.rest =
          g.is ∙ ap (with_place n g.moved.page g.moved.id g.moved.rectangle) u.is
          ∙ moved-at n g.moved.page g.moved.id g.moved.rectangle u.entry w.done u.rest (rw u.is at apart) in
          record {
            done = w.done ++ (n, f) ∷ [];
            rest = u.rest;
            is = is ∙ sym (append_assoc w.done ((n, f) ∷ []) u.rest);
            first = first;
            count = u.count;
            stay = rw (entries-append w.done (n, f) [])
                (each-append (HasToStay last (pixels - (moved + given)) then.pages) (entries_of w.done) (f ∷ [])
                (still_stay (pixels - moved) (pixels - (moved + given)) left.pages then.pages (omega arith) none (entries_of w.done) w.stay)
                (λ here. absurd (omega (arith, here, g.moves.before)), tt));
            seen = w.seen ++ u.entry ∷ [];
            whole = u.whole ∙ sym (append_assoc w.seen (u.entry ∷ []) (entries_of u.rest));
            moves = w.moves ++ (g.entry, g.moved) ∷ [];
            order = rw same (order_more w.moves w.seen g.entry g.moved w.order);
            chain = chain_more last w.moves g.entry g.moved rooms.pages left.pages then.pages (entries_of entries.entries)
                (entries_of others.entries) (entries_of new.entries) w.chain g.moves;
            sum = omega (arith, w.sum, g.pixels, pixels_more w.moves g.entry g.moved);
            within = omega (arith, w.within, g.within);
            listed = g.listed ∙ ap (λ (o : CacheOptions). now ++ told_move o.padding (g.entry, g.moved) ∷ []) w.options
                ∙ ap (λ cs. cs ++ told_move rooms.options.padding (g.entry, g.moved) ∷ []) w.listed
                ∙ append_assoc before (map (told_move rooms.options.padding) w.moves)
                (told_move rooms.options.padding (g.entry, g.moved) ∷ [])
                ∙ ap (λ cs. before ++ cs) (sym (told_more rooms.options.padding w.moves g.entry g.moved));
            options = g.options ∙ w.options;
            made = g.made ∙ w.made;
            reserved = g.reserved ∙ w.reserved;
          }

      visit_stays : StaysThere last n (pixels - moved) given now later left then others new
          → Walk (moved + given) next (passed + 1) before later rooms then entries new
      visit_stays g =
          let more : moved + given ≡ moved = omega (arith, g.none) in
          rw (more, g.same_rooms, g.same_entries, g.listed) (record {
            done = w.done ++ (n, u.entry) ∷ [];
            rest = u.rest;
            is = u.is ∙ sym (append_assoc w.done ((n, u.entry) ∷ []) u.rest);
            first = first;
            count = u.count;
            stay = rw (entries-append w.done (n, u.entry) [])
                (each-append (HasToStay last (pixels - moved) left.pages) (entries_of w.done) (u.entry ∷ []) w.stay
                (g.stays u.entry u.at, tt));
            seen = w.seen ++ u.entry ∷ [];
            whole = u.whole ∙ sym (append_assoc w.seen (u.entry ∷ []) (entries_of u.rest));
            moves = w.moves;
            order = order_longer (movers w.moves) w.seen (u.entry ∷ []) w.order;
            chain = w.chain;
            sum = w.sum;
            within = w.within;
            listed = w.listed;
            options = w.options;
            made = w.made;
            reserved = w.reserved;
          })

      -- One more entry is visited.
      pub one_visited : Visits last n (pixels - moved) given now later left then others new
          → Walk (moved + given) next (passed + 1) before later rooms then entries new
      one_visited visits = elim visits [
        | inl goes ↦ visit_goes goes
        | inr stays ↦ visit_stays stays
      ]
