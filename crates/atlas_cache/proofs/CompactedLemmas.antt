-- What is told of entries that moved from the last page.
use Rattle.std.proofs.Common.{ℕ, ℤ, ◌-◌, ◌<◌, ◌≡◌, inr, Bool, List, [], ◌∷◌, length, map, Option, None, Some, option_map}
use Rattle.std.proofs.Common.{IsSome, Result, Ok, Err, refl, sym, ap, ◌∙◌, arith}
use Rattle.std.specs.Result.{IsErr}
use Rattle.std.specs.Cmp.{IsEquivalence}
use Rattle.std.specs.List.{AllByRecursion}
use Rattle.guillotiere.specs.Stored.{AtlasValue}
use Rattle.atlas_cache.specs.declared.changes.CacheChange.{CacheChange}
use Rattle.atlas_cache.specs.declared.counts.Counts.{Counts}
use Rattle.atlas_cache.specs.declared.options.CacheOptions.{CacheOptions}
use Rattle.atlas_entries.specs.declared.entries.Entry.{Entry}
use Rattle.atlas_entries.specs.declared.error.CacheError.{CacheError}
use Rattle.atlas_entries.specs.Entries.{Table}
use Rattle.atlas_entries.proofs.AppendedLists.{append-none}
use Rattle.atlas_cache.specs.Caches.{entries_of, entry_for, place_for, shown, CacheState, HaveOwnKeys}
use Rattle.atlas_cache.specs.Changes.{picture_of}
use Rattle.atlas_cache.specs.Clearing.{TellsChanges}
use Rattle.atlas_cache.specs.Compacting.{last_page, told_move, Compacts, HasToStay, MovesSome}
use Rattle.atlas_cache.specs.Rooms.{RoomsState}
use Rattle.atlas_cache.specs.Vacating.{state_with}
use Rattle.atlas_cache.proofs.CompactLemmas.{chain_keys, chain_known, chain_sizes, chain_told, pages_told}
use Rattle.atlas_cache.proofs.RoomLemmas.KeptPages.{as_many}

module _ {K : Type 0} where
  -- Where there is no page before the last, nothing has to move.
  all_stay : (left : ℕ) (pages : List AtlasValue) (es : List (Entry K)) → length pages < 2
      → AllByRecursion (HasToStay (last_page pages) left pages) es
  all_stay left pages [] few = tt
  all_stay left pages (e ∷ es) few = (λ here. inr (λ k s below at room. omega (arith, below, few)), all_stay left pages es few)

  pub none_compacted : (pixels : ℕ) (before : List (CacheChange K)) (s : CacheState K) → length s.pages < 2
      → Compacts pixels (Ok 0) before before s s
  none_compacted pixels before s few = record {
    moves = [];
    chain = (refl, refl);
    order = tt;
    within = omega arith;
    gives = refl;
    stay = all_stay (pixels - 0) s.pages s.entries few;
    listed = sym (append-none before);
    keys = refl;
    sizes = refl;
    numbers = refl;
    reserved = refl;
    options = refl;
    frame = refl;
    counts = refl;
  }

  refused_compacted : (pixels : ℕ) (error : CacheError) (before : List (CacheChange K)) (s : CacheState K)
      → Compacts pixels (Err error) before before s s
  refused_compacted pixels error before s = record {
    moves = [];
    chain = (refl, refl);
    order = tt;
    within = omega arith;
    gives = tt;
    stay = tt;
    listed = sym (append-none before);
    keys = refl;
    sizes = refl;
    numbers = refl;
    reserved = refl;
    options = refl;
    frame = refl;
    counts = refl;
  }

  pub failed_compacted : (pixels : ℕ) (result : Result ℕ CacheError) (before : List (CacheChange K)) (s : CacheState K) → IsErr result
      → Compacts pixels result before before s s
  failed_compacted pixels (Ok moved) before s is = absurd (let no = is in cc)
  failed_compacted pixels (Err error) before s is = refused_compacted pixels error before s

  pub some_compacted : (last pixels : ℕ) (result : Result ℕ CacheError) (before after : List (CacheChange K)) (rooms rest : RoomsState)
      (entries others : Table K) (frame : ℕ) (counts : Counts)
      → last ≡ last_page rooms.pages → MovesSome last pixels result before after rooms rest entries others
      → Compacts pixels result before after (state_with rooms entries frame counts) (state_with rest others frame counts)
  some_compacted last pixels result before after rooms rest entries others frame counts is m =
      let sizes = chain_sizes last m.moves rooms.pages rest.pages (entries_of entries.entries) (entries_of others.entries) m.chain in
      let there : last ≡ last_page rest.pages = is ∙ ap (λ n. n - 1) (sym (as_many rooms.pages rest.pages sizes)) in
      record {
        moves = m.moves;
        chain = rw is at m.chain;
        order = m.order;
        within = m.within;
        gives = m.gives;
        stay = rw there at m.stay;
        listed = m.listed;
        keys = chain_keys last m.moves rooms.pages rest.pages (entries_of entries.entries) (entries_of others.entries) m.chain;
        sizes = sizes;
        numbers = m.made;
        reserved = m.reserved;
        options = m.options;
        frame = refl;
        counts = refl;
      }

  module _ (eq : K → K → Bool) (laws : IsEquivalence eq) (pixels : ℕ) (result : Result ℕ CacheError)
      (before after : List (CacheChange K)) (s t : CacheState K) (own : HaveOwnKeys eq s.entries)
      (c : Compacts pixels result before after s t) where
    pub compacted_told : TellsChanges eq before after s t
    compacted_told = record {
      made = map (told_move s.options.padding) c.moves;
      listed = c.listed;
      shows = record {
        places = λ k.
            chain_told eq laws (last_page s.pages) s.options.padding c.moves s.pages t.pages s.entries t.entries own c.chain
            (picture_of eq s) (λ q. refl) k
            ∙ ap (λ (o : CacheOptions). option_map (shown o.padding) (entry_for eq k t.entries)) (sym c.options);
        pages = pages_told eq laws s.options.padding c.moves (picture_of eq s) ∙ sym c.sizes;
      };
    }

    known_of : (padding : ℤ) (o : Option (Entry K)) → IsSome (option_map (shown padding) o) → IsSome o
    known_of padding None none = none
    known_of padding (Some e) some = refl

    placed_of : (padding : ℤ) (o : Option (Entry K)) → IsSome o → IsSome (option_map (shown padding) o)
    placed_of padding None none = none
    placed_of padding (Some e) some = refl

    pub compacted_held : (k : K) → IsSome (place_for eq s k) → IsSome (place_for eq t k)
    compacted_held k some =
        placed_of t.options.padding (entry_for eq k t.entries)
        (chain_known eq laws (last_page s.pages) c.moves s.pages t.pages s.entries t.entries own c.chain k
        (known_of s.options.padding (entry_for eq k s.entries) some))
