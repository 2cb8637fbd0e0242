-- What a call does with a cache that has keys of 64 bits.
use Rattle.std.specs.Prelude.{◌≡◌, ◌≢◌, ◌↔◌, ◌+◌, ◌*◌, ◌<◌, ◌≤◌, ℕ, length, map, IfErr, IfSome, IsSome, Option, None, Some}
use Rattle.std.specs.Prelude.{Result, Ok, Err, nat_eq}
use Rattle.guillotiere.specs.declared.Size.{Size}
use Rattle.guillotiere.specs.Boxes.{IsPositive}
use Rattle.guillotiere.specs.Pages.{page_sizes}
use Rattle.guillotiere.specs.Pixels.{sides_of, size_of}
use Rattle.guillotiere.specs.Stored.{state_of}
use Rattle.atlas_cache.specs.declared.CacheError.{CacheError}
use Rattle.atlas_cache.specs.declared.CacheError.TheVariants.{Memory, Slots}
use Rattle.atlas_cache.specs.declared.inserted.Inserted.{Inserted}
use Rattle.atlas_cache.specs.declared.inserted.Inserted.TheVariants.{Placed, Held, FrameFull, NeverFits}
use Rattle.atlas_cache.specs.declared.places.Place.{Place}
use Rattle.atlas_cache.specs.Asking.{bordered, CanStand}
use Rattle.atlas_cache.specs.Batches.{EndsBatch}
use Rattle.atlas_cache.specs.Compacting.{Compacts}
use Rattle.atlas_cache.specs.Caches.{CacheState, entry_for, place_for, EntriesLieApart, EntriesLieWithin, HaveNumbersBelow, HaveOwnKeys}
use Rattle.atlas_cache.specs.Caches.{HaveOwnNumbers, IsFull, IsKept, IsNoneInUse}
use Rattle.atlas_cache.specs.Changes.{FindsKnown, Inserts, InsertsBlank, IsNewAndEmpty, IsNewAndTooLarge, Removes, Uses}
use Rattle.atlas_cache.specs.Changes.{picture_of, placed, ShowsSame}
use Rattle.atlas_cache.specs.Clearing.{all_forgotten, Clears, TellsChanges, Trims}
use Rattle.atlas_cache.specs.Counting.{one_more}
use Rattle.atlas_cache.specs.Entries.{lying}
use Rattle.atlas_cache.specs.Placing.{LacksSlots}
use Rattle.atlas_cache.specs.Refusals.{IsRefusedNew}
use Rattle.atlas_cache.specs.Relocating.{keys_of, Repacks}
use Rattle.atlas_cache.specs.Reserving.{AllowSlots, HasReserves, HaveSlots, IsReadyFor, IsShortOfSlots, KeepsPageSizes, UseAtMost}
use Rattle.atlas_cache.specs.Reserving.{KeepsReady, KeepsReadyButOne}
use Rattle.atlas_cache.specs.Rooms.{stored_on, IsRefusal}
use Rattle.atlas_cache.specs.Shrinking.{Shrinks}
use Rattle.atlas_cache.specs.Telling.{Tells}
use Rattle.atlas_cache.specs.Walking.{ShowsOlder}
use Rattle.guillotiere_c.specs.Following.{Followed, KeepsRoom}

-- What always holds of a cache, as `TextureCache::prove_kept` says: what is live on its pages is what the entries that lie there hold, each
-- once; two of one page lie apart, and each lies within its page; and each entry has a key and a number of its own.
pub record AlwaysHolds (s : CacheState ℕ) : Type 0 where
  pub kept : IsKept s
  pub apart : EntriesLieApart (lying s.entries)
  pub within : EntriesLieWithin s.pages (lying s.entries)
  pub keys : HaveOwnKeys nat_eq s.entries
  pub numbers : HaveOwnNumbers s.entries
  pub below : HaveNumbersBelow s.numbers s.entries

-- A copy of a cache: the atlas of each page stores the same, and all else is the same, but that nothing is in reserve.
pub record IsCopy (s t : CacheState ℕ) : Type 0 where
  pub options : t.options ≡ s.options
  pub stored : stored_on t.pages ≡ stored_on s.pages
  pub sizes : page_sizes t.pages ≡ page_sizes s.pages
  pub entries : t.entries ≡ s.entries
  pub numbers : t.numbers ≡ s.numbers
  pub reserved : t.reserved ≡ 0
  pub frame : t.frame ≡ s.frame
  pub counts : t.counts ≡ s.counts

-- What `TextureCache::begin_frame` does: no key moves, and none counts as used in the new frame, if one begins.
pub record BeginsFrame (s t : CacheState ℕ) : Type 0 where
  pub frame : t ≡ record s { frame = one_more s.frame }
  pub unused : s.frame < 18446744073709551615 → IsNoneInUse t
  pub told : ShowsSame (picture_of nat_eq s) (picture_of nat_eq t)
  pub stays_ready : KeepsReady s t

-- What `TextureCache::get` does: the key is used in this frame, and counted as a hit; or it isn't held, and counted as
-- a miss.
pub record IsGet (key : ℕ) (found : Option Place) (s t : CacheState ℕ) : Type 0 where
  pub place : found ≡ place_for nat_eq s key
  pub uses : IfSome (entry_for nat_eq key s.entries) (λ e. Uses e s t)
  pub hit : IsSome found → t.counts ≡ record s.counts { hits = one_more s.counts.hits }
  pub miss : found ≡ None
      → t ≡ record s { counts = record s.counts { misses = one_more s.counts.misses } }
  pub told : ShowsSame (picture_of nat_eq s) (picture_of nat_eq t)
  pub stays_ready : KeepsReady s t

-- What `TextureCache::remove` does: the key goes with its place, or it isn't held, and nothing changes.
pub record IsRemoval (key : ℕ) (found : Option Place) (s t : CacheState ℕ) : Type 0 where
  pub place : found ≡ place_for nat_eq s key
  pub removes : IfSome (entry_for nat_eq key s.entries) (λ e. Removes e s t)
  pub none : found ≡ None → t ≡ s
  pub told : ShowsSame (placed nat_eq key None (picture_of nat_eq s)) (picture_of nat_eq t)
  pub ready : (n : ℕ) → HaveSlots n s.pages → HaveSlots n t.pages
  pub reserves : (n room : ℕ) → HasReserves n room s → HasReserves n room t
  pub full : IsFull s → IsFull t
  pub allowed : (n : ℕ) → AllowSlots n s.pages → AllowSlots n t.pages
  pub stays_ready : KeepsReady s t

-- What `TextureCache::clear` does: no key is held, and none has a place.
pub record IsClearing (s t : CacheState ℕ) : Type 0 where
  pub clears : Clears s t
  pub told : ShowsSame (all_forgotten (picture_of nat_eq s)) (picture_of nat_eq t)
  pub stays_ready : KeepsReady s t

-- What `TextureCache::insert` does. The changes that it makes come behind those that weren't handed over.
pub record IsInsert (key : ℕ) (size : Size) (result : Result Inserted CacheError) (f g : Followed) : Type 0 where
  pub known : IfSome (entry_for nat_eq key f.cache.entries) (λ e.
      FindsKnown e size result f.cache g.cache × (g.changes ≡ f.changes))
  pub blank : IsNewAndEmpty nat_eq key size f.cache
      → InsertsBlank key size result f.cache g.cache × (g.changes ≡ f.changes)
  pub never : (result ≡ Ok NeverFits) ↔ IsNewAndTooLarge nat_eq key size f.cache
  pub nothing : result ≡ Ok NeverFits → (g.cache ≡ f.cache) × (g.changes ≡ f.changes)
  pub placed : (place : Place) → result ≡ Ok (Placed place) → place_for nat_eq f.cache key ≡ None
  pub held : (place : Place) → result ≡ Ok (Held place) → place_for nat_eq f.cache key ≡ Some place
  pub hit : (place : Place) → result ≡ Ok (Held place)
      → g.cache.counts ≡ record f.cache.counts { hits = one_more f.cache.counts.hits }
  pub new : entry_for nat_eq key f.cache.entries ≡ None → CanStand f.cache.options size
      → Inserts (size_of (bordered f.cache.options size)) key size result f.changes g.changes f.cache g.cache
  pub told : Tells nat_eq key result f.changes g.changes f.cache g.cache
  pub errors : entry_for nat_eq key f.cache.entries ≡ None → IfErr result (IsRefusedNew (length g.cache.entries))
  pub room : IsNoneInUse f.cache → result ≢ Ok FrameFull
  pub short : result ≡ Err Slots → IsShortOfSlots g.cache.pages
  pub lacks : result ≡ Err Slots → LacksSlots (size_of (bordered f.cache.options size)) g.cache.options g.cache.pages
  pub memory : (IsPositive (sides_of size) → ⊥) → 0 < f.cache.reserved → result ≢ Err Memory
  pub one : 0 < f.cache.reserved → HaveSlots 4 f.cache.pages → length f.cache.entries < f.room
      → KeepsPageSizes size f.cache → result ≢ Err Memory
  pub reserves : (n : ℕ) → HasReserves (n + 1) f.room f.cache → KeepsPageSizes size f.cache
      → (result ≢ Err Memory) × HasReserves n g.room g.cache
  pub takes : f.cache.reserved ≤ g.cache.reserved + 1
  pub keeps_room : KeepsRoom f g
  pub full : IsFull f.cache → IsFull g.cache
  pub slots : KeepsPageSizes size f.cache → UseAtMost 4 f.cache.pages g.cache.pages
  pub already : KeepsPageSizes size f.cache → result ≡ Err Slots → IsShortOfSlots f.cache.pages
  pub allowed : (n : ℕ) → AllowSlots (4 * (n + 1)) f.cache.pages → KeepsPageSizes size f.cache
      → (result ≢ Err Slots) × AllowSlots (4 * n) g.cache.pages
  pub ready : KeepsReadyButOne f.room g.room f.cache g.cache
  pub unrefused : IsReadyFor 1 f.room f.cache → (result ≢ Err Memory) × (result ≢ Err Slots)
  pub stays : (g.cache.options ≡ f.cache.options) × (g.cache.frame ≡ f.cache.frame)

-- What `TextureCache::older` finds of a key: the key that was used next before it, if it is held.
pub record IsOlder (key : ℕ) (found : Option (ℕ × Place)) (s : CacheState ℕ) : Type 0 where
  pub next : IfSome (entry_for nat_eq key s.entries) (λ e. ShowsOlder e found s)
  pub none : entry_for nat_eq key s.entries ≡ None → found ≡ None

-- What `TextureCache::trim` does. The evictions come behind the changes that weren't handed over.
pub record IsTrim (frames : ℕ) (f g : Followed) : Type 0 where
  pub trims : Trims frames f.changes g.changes f.cache g.cache
  pub told : TellsChanges nat_eq f.changes g.changes f.cache g.cache
  pub stays_ready : KeepsReady f.cache g.cache

-- What `TextureCache::end_batch` does. The evictions come behind the changes that weren't handed over.
pub record IsBatchEnd (keys : ℕ) (f g : Followed) : Type 0 where
  pub ends : EndsBatch keys f.changes g.changes f.cache g.cache
  pub told : TellsChanges nat_eq f.changes g.changes f.cache g.cache
  pub stays_ready : KeepsReady f.cache g.cache

-- What `TextureCache::compact` does, which says how many pixels moved. The moves come behind the changes that weren't handed over.
pub record IsCompacting (pixels : ℕ) (result : Result ℕ CacheError) (f g : Followed) : Type 0 where
  pub compacts : Compacts pixels result f.changes g.changes f.cache g.cache
  pub held : (k : ℕ) → IsSome (place_for nat_eq f.cache k) → IsSome (place_for nat_eq g.cache k)
  pub told : TellsChanges nat_eq f.changes g.changes f.cache g.cache
  pub errors : IfErr result IsRefusal
  pub short : result ≡ Err Slots → IsShortOfSlots g.cache.pages

-- What `TextureCache::shrink` does. The pages that go come behind the changes that weren't handed over.
pub record IsShrinking (f g : Followed) : Type 0 where
  pub shrinks : Shrinks f.changes g.changes f.cache g.cache
  pub told : TellsChanges nat_eq f.changes g.changes f.cache g.cache

-- What `TextureCache::repack` does with a page that is there. Its changes come behind those that weren't handed over.
pub record IsRepacking (page : ℕ) (f g : Followed) : Type 0 where
  pub there : page < length f.cache.pages
  pub repacks : Repacks page f.changes g.changes f.cache g.cache
  pub told : TellsChanges nat_eq f.changes g.changes f.cache g.cache

-- What `TextureCache::repack_keeping_all` does with a page whose keys all find room: each key stays, in the order of use.
pub record IsRepackingOfAll (page : ℕ) (f g : Followed) : Type 0 where
  pub repacking : IsRepacking page f g
  pub keys : keys_of g.cache.entries ≡ keys_of f.cache.entries
  pub counts : g.cache.counts ≡ f.cache.counts

-- The pages have the states that they had, and none uses more slots or has room for fewer; nothing else changes.
pub record KeepsStates (f g : Followed) : Type 0 where
  pub states : map state_of g.cache.pages ≡ map state_of f.cache.pages
  pub slots : UseAtMost 0 f.cache.pages g.cache.pages
  pub full : IsFull f.cache → IsFull g.cache
  pub rest : g ≡ record f { cache = record f.cache { pages = g.cache.pages } }
